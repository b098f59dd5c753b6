pub mod ChangeLemmas
pub mod WordLemmas
pub mod ZeroLemmas
pub mod ListLemmas
pub mod ChainLemmas
pub mod HeaderLemmas
