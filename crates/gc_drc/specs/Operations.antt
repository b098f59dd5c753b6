-- What the barriers do to a view, and to the words of one object.
use Rattle.std.specs.Prelude.{◌≡◌, ℕ, ◌+◌, ◌-◌, ◌/◌, ◌^◌, ◌<◌, cond, nat_eq, List, ◌∷◌}
use Rattle.gc_memory.specs.Words.{word}
use Rattle.gc_memory.specs.Lists.{In, occ}
use Rattle.gc_memory.specs.Changes.{Wrote}
use Rattle.gc_drc.specs.declared.space.CountedSpace.{CountedSpace}
use Rattle.gc_drc.specs.Layout.{count_at}
use Rattle.gc_drc.specs.View.{View, count_of, HoldsBlocks}

-- one name more
abbrev pub counting_raised : View → ℕ → View
counting_raised v x = record v { counted = λ y. v.counted y + cond (nat_eq y x) 1 0 }

-- one name less; an object whose count word would come to 0 is queued
abbrev pub counting_lowered : View → ℕ → View
counting_lowered v x = record v {
  counted = λ y. v.counted y - cond (nat_eq y x) 1 0;
  queue = cond (nat_eq (count_of v x) 1) (x ∷ v.queue) v.queue;
}

-- one name less, which the list of shown words takes over, where the object isn't on it
abbrev pub counting_exposed : View → ℕ → View
counting_exposed v x = record v {
  counted = λ y. v.counted y - cond (nat_eq y x) 1 0;
  shown = cond (nat_eq (occ x v.shown) 0) (x ∷ v.shown) v.shown;
}

-- an object of a view stands at a place, whose count word can rise
pub record CanRaise (s : CountedSpace) (x : ℕ) : Type 0 where
  pub view : View
  pub holds : HoldsBlocks view s
  pub place : In x view.places
  pub below : count_of view x + 1 < 2 ^ 64

-- an object of a view stands at a place, and something names it
pub record CanLower (s : CountedSpace) (x : ℕ) : Type 0 where
  pub view : View
  pub holds : HoldsBlocks view s
  pub place : In x view.places
  pub named : 0 < view.counted x

-- What is written at an object's own words alone: its kind, its maker's spare bits, its type, its size
-- and its data stay.
pub record Tends (before after : List ℕ) (x : ℕ) : Type 0 where
  pub around : Wrote before after x 28
  pub kind : word after x / 8 ≡ word before x / 8
  pub ty : word after (x + 4) ≡ word before (x + 4)
  pub size : word after (x + 20) ≡ word before (x + 20)

-- the words that an object has afterwards
pub record SetsWords (before after : List ℕ) (x kind count list link : ℕ) : Type 0 where
  pub tends : Tends before after x
  pub kind_is : word after x ≡ kind
  pub count_is : count_at after x ≡ count
  pub list_is : word after (x + 16) ≡ list
  pub link_is : word after (x + 24) ≡ link
