pub mod Seeds
pub mod Filling
pub mod FillReports
pub mod PathLines
pub mod PathAnswers
pub mod Loading
pub mod Saving
