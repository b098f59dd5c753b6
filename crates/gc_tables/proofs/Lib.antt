pub mod SlotLemmas
pub mod LinkLemmas
pub mod InternLemmas
pub mod LawsOfTables
