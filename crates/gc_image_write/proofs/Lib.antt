mod CommandBack
mod CommandLemmas
mod FewLemmas
mod GlobalBack
mod GraphLemmas
mod ImageBack
mod JoinLemmas
mod KindLemmas
mod LineBack
pub mod LineBelow
mod OrderLemmas
mod PickLemmas
mod ReachLemmas
mod RenameLemmas
pub mod RenumberLemmas
mod SameImage
mod ShortLemmas
mod StackLemmas
mod TakeLemmas
mod TurnLemmas
mod VisitLemmas
mod WalkLemmas
mod WordLemmas
