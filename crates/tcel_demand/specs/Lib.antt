pub mod Examples
pub mod LateSteps
pub mod PlanViews
pub mod Sound
pub mod Standing
pub mod Ticks
pub mod Workload
pub mod WorstSteps
