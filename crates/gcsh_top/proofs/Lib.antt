pub mod FormLemmas
pub mod EndLemmas
pub mod InputLemmas
pub mod GcLemmas
pub mod RunLemmas
pub mod PieceLemmas
pub mod FormRun
pub mod ChurnLemmas
pub mod RoundLemmas
pub mod ReadingLemmas
mod WholeLemmas
mod LoadLemmas
mod ListLemmas
pub mod FormAnswers
pub mod StatusLaws
pub mod ProgramLemmas
pub mod WrittenLemmas
