pub mod Contents
pub mod EntryLines
pub mod Examples
pub mod Pieces
pub mod Reading
pub mod Room
pub mod TraceForm
pub mod TraceLaws
