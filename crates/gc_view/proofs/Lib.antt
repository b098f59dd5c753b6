pub mod Content
pub mod ByteLemmas
pub mod Layouts
pub mod Spacing
pub mod SlotLemmas
