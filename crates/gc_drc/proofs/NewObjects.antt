-- A new object, in a view and in memory.
use Rattle.std.proofs.Common.{◌≡◌, ℕ, cond, nat_lt, List, [], ◌∷◌}
use Rattle.std.specs.Prelude.{nat_eq}
use Rattle.gc_memory.specs.Changes.{Wrote}
use Rattle.gc_view.specs.Heaps.{HeapObject}
use Rattle.gc_drc.specs.Layout.{count_at, counting_size_at, flags_at, counting_object_at, IsCountingWhole}
use Rattle.gc_drc.specs.View.{View}

-- a place put among others by rising place
abbrev pub insert_place : ℕ → List ℕ → List ℕ
insert_place p [] = p ∷ []
insert_place p (q ∷ qs) = cond (nat_lt q p) (q ∷ insert_place p qs) (p ∷ q ∷ qs)

-- the view with a new object, which one word names
abbrev pub with_place : View → ℕ → ℕ → View
with_place v p size = record v {
  places = insert_place p v.places;
  counted = λ y. cond (nat_eq y p) 1 (v.counted y);
  sizes = λ y. cond (nat_eq y p) size (v.sizes y);
}

-- a whole object that one word names was written at a place, and nothing else
pub record PutsObject (before after : List ℕ) (place : ℕ) (object : HeapObject) (size : ℕ) : Type 0 where
  pub around : Wrote before after place size
  pub size_is : counting_size_at after place ≡ size
  pub count_is : count_at after place ≡ 1
  pub flags_are : flags_at after place ≡ 0
  pub whole : IsCountingWhole after place
  pub object_is : counting_object_at after place ≡ object
