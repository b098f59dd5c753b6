mod AloneLemmas
mod FillLemmas
mod ListLemmas
pub mod PathLemmas
mod LoadLemmas
mod SaveLemmas
