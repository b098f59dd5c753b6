-- Walks over the object table, from a root along the values of objects.
use Rattle.std.specs.Prelude.{◌≡◌, ◌≤◌, ℕ, zero, suc, ◌+◌, Bool, true, false, List, [], ◌∷◌, ◌++◌, Option, Some, None, map, slice_get}
use Rattle.std.specs.List.{Contains}
use Rattle.gc_owner.specs.declared.entry.GcClass.{GcClass}
use Rattle.gc_model.specs.Values.{Reference, at, reference, Object}
use Rattle.gc_model.specs.Reach.{object_values}
use Rattle.gc_model.specs.Table.{Table, Slot, Owned, Scoped}
use Rattle.gc_store.specs.declared.root_words.RootName.{RootName}
use Rattle.gc_store.specs.declared.root_words.RootName.TheVariants as name
use Rattle.gc_store.specs.RootWords.{with_numbers}
use Rattle.gc_values.specs.Words.{owned_id}

-- a root of a table: which one it is, and what it names
pub record StartRoot : Type 0 where
  pub name : RootName
  pub reference : Reference

abbrev pub start_root : RootName → Reference → StartRoot
start_root n r = record { name = n; reference = r }

abbrev pub global_root : ℕ → Slot → StartRoot
global_root index slot = start_root (name.Global index) slot.reference

abbrev pub pending_roots : Option Reference → List StartRoot
pending_roots None = []
pending_roots (Some r) = start_root name.Pending r ∷ []

abbrev pub slot_root : ℕ → ℕ → Slot → StartRoot
slot_root frame index slot = start_root (name.Slot frame index) slot.reference

-- the slots of frames, of which the first has that number
abbrev pub frame_roots : ℕ → List (List Slot) → List StartRoot
frame_roots from [] = []
frame_roots from (slots ∷ frames) = with_numbers (slot_root from) 0 slots ++ frame_roots (from + 1) frames

abbrev pub owned_root : Owned → StartRoot
owned_root entry = start_root (name.Owned (owned_id entry.number)) entry.reference

abbrev pub scoped_root : ℕ → Scoped → StartRoot
scoped_root index entry = start_root (name.Scoped index) entry.reference

-- the scoped roots, where they are asked for
abbrev pub scoped_roots : Bool → List Scoped → List StartRoot
scoped_roots false roots = []
scoped_roots true roots = with_numbers scoped_root 0 roots

-- The roots from which walks begin, in the order of root words: the globals, what is pending, the slots of the frames, the
-- owned roots, of which each has handles, and the scoped roots where they are asked for.
abbrev pub start_roots : {D : Type 0} → Bool → Table D → List StartRoot
start_roots scoped t =
    with_numbers global_root 0 t.globals
    ++ (pending_roots t.pending ++ (frame_roots 0 t.frames ++ (map owned_root t.owned ++ scoped_roots scoped t.scoped)))

-- what they name
abbrev pub start_references : {D : Type 0} → Bool → Table D → List Reference
start_references scoped t = map (λ (r : StartRoot). r.reference) (start_roots scoped t)

-- the value of that index of the object at one position names another position
pub record ValueNames {D : Type 0} (objects : List (Object D)) (holder index p : ℕ) : Type 0 where
  pub object : Object D
  pub there : slice_get objects holder ≡ Some object
  pub class : GcClass
  pub value : slice_get (object_values object) index ≡ Some (reference class (at p))

-- A walk of that length to a position: a root that names it, or a walk that is one shorter to an object and a value of that
-- object that names it.
pub data Walk {D : Type 0} (scoped : Bool) (t : Table D) : ℕ → ℕ → Type 0 where
  from_root : {p : ℕ} (n : RootName) → Contains (start_roots scoped t) (start_root n (at p)) → Walk scoped t zero p
  from_object : {length q p : ℕ} (index : ℕ) → Walk scoped t length q → ValueNames t.objects q index p → Walk scoped t (suc length) p

-- there is a walk to a position
abbrev pub IsWalked : {D : Type 0} → Bool → Table D → ℕ → Type 0
IsWalked scoped t p = (length : ℕ) × Walk scoped t length p

-- the least length of the walks to a position
pub record IsLeast {D : Type 0} (scoped : Bool) (t : Table D) (length p : ℕ) : Type 0 where
  pub walk : Walk scoped t length p
  pub least : (other : ℕ) → Walk scoped t other p → length ≤ other
