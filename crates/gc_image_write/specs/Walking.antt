-- What is known of a walk that numbers objects.
use Rattle.std.specs.Prelude.{◌≡◌, ℕ, suc, ◌<◌, ◌-◌, Bool, true, false, List, [], ◌∷◌, ◌++◌, Option, Some, length, slice_get}
use Rattle.std.specs.List.{filter_map, range_with_len}
use Rattle.gc_image_write.specs.declared.walk.Frame.{Frame}
use Rattle.gc_image_write.specs.declared.walk.Mark.{Mark}
use Rattle.gc_image_write.specs.declared.walk.Mark.TheVariants.{Unseen, Open, Numbered}
use Rattle.gc_image_write.specs.declared.walk.Walk.{Walk}
use Rattle.gc_image_write.specs.Graphs.{early_list}
use Rattle.gc_image_write.specs.Order.{AreTangled}
use Rattle.gc_image_write.specs.Visiting.{Visited}

-- the marks of the objects, their order so far, and the objects that wait for what they need
pub record WalkParts : Type 0 where
  pub marks : List Mark
  pub order : List ℕ
  pub stack : List Frame

abbrev pub walk_parts : Walk → WalkParts
walk_parts w = record { marks = w.marks.items; order = w.order.items; stack = w.stack.items }

-- the same with one more that waits
abbrev pub waiting : WalkParts → Frame → WalkParts
waiting w frame = record { marks = w.marks; order = w.order; stack = w.stack ++ frame ∷ [] }

-- What is so at each moment, where each object names by index those that it needs.
pub record IsWalk (early : ℕ → ℕ → Option ℕ) (w : WalkParts) : Type 0 where
  -- numbered is what stands in the order, once, behind what it needs
  pub listed : (n x : ℕ) → slice_get w.order n ≡ Some x → slice_get w.marks x ≡ Some Numbered
  pub known : (x : ℕ) → slice_get w.marks x ≡ Some Numbered → (n : ℕ) × (slice_get w.order n ≡ Some x)
  pub once : (n m x : ℕ) → slice_get w.order n ≡ Some x → slice_get w.order m ≡ Some x → n ≡ m
  pub behind : (n x index y : ℕ) → slice_get w.order n ≡ Some x → early x index ≡ Some y → (m : ℕ) × ((m < n) × (slice_get w.order m ≡ Some y))
  -- open is what waits, once; what it needs is numbered up to the index, at which it needs the next that waits
  pub waits : (x : ℕ) → slice_get w.marks x ≡ Some Open → (j : ℕ) × (f : Frame) × ((slice_get w.stack j ≡ Some f) × (f.object ≡ x))
  pub opened : (j : ℕ) (f : Frame) → slice_get w.stack j ≡ Some f → slice_get w.marks f.object ≡ Some Open
  pub apart : (j k : ℕ) (f g : Frame) → slice_get w.stack j ≡ Some f → slice_get w.stack k ≡ Some g → f.object ≡ g.object → j ≡ k
  pub looked : (j : ℕ) (f : Frame) (index y : ℕ) → slice_get w.stack j ≡ Some f → index < f.next
      → early f.object index ≡ Some y → slice_get w.marks y ≡ Some Numbered
  pub linked : (j : ℕ) (f g : Frame) → slice_get w.stack j ≡ Some f → slice_get w.stack (suc j) ≡ Some g → early f.object f.next ≡ Some g.object

-- A walk went on: the order has grown, what was seen is seen.
pub record Onward (old new : WalkParts) : Type 0 where
  pub long : length new.marks ≡ length old.marks
  pub kept : (n x : ℕ) → slice_get old.order n ≡ Some x → slice_get new.order n ≡ Some x
  pub seen : (x : ℕ) → slice_get new.marks x ≡ Some Unseen → slice_get old.marks x ≡ Some Unseen

-- what a step leaves: a walk that went on, or objects that need each other
abbrev pub Went : (ℕ → ℕ → Option ℕ) → WalkParts → WalkParts → Bool → Type 0
Went early old new true = IsWalk early new × Onward old new
Went early old new false = AreTangled early

-- what each object needs is among so many
abbrev pub AreEarlyBelow : (ℕ → ℕ → Option ℕ) → ℕ → Type 0
AreEarlyBelow early count = (from index to : ℕ) → early from index ≡ Some to → to < count

-- a walk in which none waits
pub record IsIdle (early : ℕ → ℕ → Option ℕ) (w : WalkParts) : Type 0 where
  pub walks : IsWalk early w
  pub idle : w.stack ≡ []

-- what visits leave: a walk in which none waits, or objects that need each other
abbrev pub LeavesIdle : (ℕ → ℕ → Option ℕ) → WalkParts → WalkParts → Bool → Type 0
LeavesIdle early old new true = IsIdle early new × Onward old new
LeavesIdle early old new false = AreTangled early

-- so, and the object has a number
abbrev pub VisitsOne : (ℕ → ℕ → Option ℕ) → WalkParts → WalkParts → ℕ → Bool → Type 0
VisitsOne early old new object true = IsIdle early new × Onward old new × ((n : ℕ) × (slice_get new.order n ≡ Some object))
VisitsOne early old new object false = AreTangled early

-- visits can begin or go on: none waits, and there is a mark for each of so many objects
pub record CanVisitMore (early : ℕ → ℕ → Option ℕ) (count : ℕ) (w : WalkParts) : Type 0 where
  pub below : AreEarlyBelow early count
  pub idle : IsIdle early w
  pub long : length w.marks ≡ count

-- all objects have numbers up to one of them
pub record AreNumbered (early : ℕ → ℕ → Option ℕ) (count : ℕ) (w : WalkParts) : Type 0 where
  pub can : CanVisitMore early count w
  pub all : (x : ℕ) → x < count → (n : ℕ) × (slice_get w.order n ≡ Some x)

abbrev pub Numbers : (ℕ → ℕ → Option ℕ) → ℕ → WalkParts → Bool → Type 0
Numbers early count new true = AreNumbered early count new
Numbers early count new false = AreTangled early

-- what one that waits has yet to visit, from its index on
abbrev pub left_to_visit : (ℕ → ℕ → Option ℕ) → (ℕ → ℕ) → Frame → List ℕ
left_to_visit early counts f = filter_map (early f.object) (range_with_len f.next (counts f.object - f.next))

-- From an order those that wait finish in another: the last first, each with what it has yet to visit and then its own number.
abbrev pub FinishesWalk : (ℕ → ℕ → Option ℕ) → (ℕ → ℕ) → List Frame → List ℕ → List ℕ → Type 0
FinishesWalk early counts [] order after = order ≡ after
FinishesWalk early counts (f ∷ stack) order after = (mid : List ℕ) × (ready : List ℕ)
    × (FinishesWalk early counts stack order mid × (Visited (early_list early counts) (left_to_visit early counts f) mid ready × (ready ++ f.object ∷ [] ≡ after)))

-- in whatever those that wait finish from here, they finished in from there
abbrev pub FinishesAlike : (ℕ → ℕ → Option ℕ) → (ℕ → ℕ) → WalkParts → WalkParts → Type 0
FinishesAlike early counts old new = (after : List ℕ) → FinishesWalk early counts new.stack new.order after → FinishesWalk early counts old.stack old.order after
