pub mod FieldLemmas
pub mod GrowLemmas
pub mod MakeLemmas
pub mod RootLemmas
pub mod WriteLemmas
