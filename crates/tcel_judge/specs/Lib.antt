pub mod Courses
pub mod Examples
pub mod FirstBreach
pub mod Gaps
pub mod JudgedTraces
pub mod Laws
pub mod StateParts
