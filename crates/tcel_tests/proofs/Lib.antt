pub mod BusyPlans
