mod PairLemmas
pub mod StoreLemmas
