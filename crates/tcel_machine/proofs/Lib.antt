pub mod Shapes
pub mod Ticks
pub mod Cycles
pub mod Ready
pub mod Turns
pub mod Running
pub mod Sound
pub mod Defaults
