mod InputsLemmas
mod Places
mod SoundPorts
mod Variables
pub mod Evaluation
pub mod MeaningLaws
pub mod PromiseLaws
pub mod PlainLaws
mod TraceLemmas
mod PairTraces
pub mod StateWords
pub mod Scope
pub mod Remain
pub mod Bodies
pub mod RowLemmas
