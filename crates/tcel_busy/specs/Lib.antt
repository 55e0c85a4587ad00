pub mod BusyPeriod
pub mod LateStretches
pub mod Releases
pub mod Stretches
pub mod Walking
pub mod WorstStretches
