pub mod Forms
pub mod PlainLaws
