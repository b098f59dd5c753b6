-- What the roots reach.
use Rattle.std.specs.Prelude.{◌≡◌, ◌↔◌, ℕ, ◌<◌, List, [], ◌∷◌, ◌++◌, Option, Some, None, map, length, slice_get, nat_eq}
use Rattle.std.specs.List.{Contains, IsDistinct, flat_map}
use Rattle.gc_types.specs.declared.kind.Layouts.{Layouts}
use Rattle.gc_types.specs.declared.kind.Layouts.TheVariants.{Null, Counting, Copying}
use Rattle.gc_model.specs.Values.{Reference, at, Value, numeric, function, continuation, reference, Object, struct, array, host, exception}
pub use Rattle.gc_model.specs.Values.{object_values}
pub use Rattle.gc_view.specs.Reach.{Reachable, by_start, by_step}
use Rattle.gc_model.specs.Table.{Table, Scoped, Slot, Owned}

-- the reference that a value is, where it is one
abbrev pub value_references : Value → List Reference
value_references (numeric kind n) = []
value_references (function f) = []
value_references (continuation c) = []
value_references (reference class r) = r ∷ []

-- the references among the values of an object, in order
abbrev pub references_in : {D : Type 0} → Object D → List Reference
references_in o = flat_map value_references (object_values o)

abbrev pub slot_references : List Slot → List Reference
slot_references slots = map (λ (s : Slot). s.reference) slots

abbrev pub owned_references : List Owned → List Reference
owned_references roots = map (λ (root : Owned). root.reference) roots

abbrev pub present : Option Reference → List Reference
present None = []
present (Some r) = r ∷ []

-- what the roots name: scoped ones, frame slots, globals, owned ones, and the pending exception
abbrev pub root_references : {D : Type 0} → Table D → List Reference
root_references t =
    map (λ (root : Scoped). root.reference) t.scoped
    ++ (flat_map slot_references t.frames
    ++ (slot_references t.globals
    ++ (owned_references t.owned
    ++ present t.pending)))

-- an object names a position
pub record NamesPosition {D : Type 0} (objects : List (Object D)) (holder p : ℕ) : Type 0 where
  pub object : Object D
  pub there : slice_get objects holder ≡ Some object
  pub among : Contains (references_in object) (at p)

-- the positions that some references reach through the objects' values
abbrev pub Reached : {D : Type 0} → List (Object D) → List Reference → ℕ → Type 0
Reached objects roots p = Reachable (λ (q : ℕ). Contains roots (at q)) (NamesPosition objects) p

-- the roots of the table reach the object at a position
abbrev pub IsReached : {D : Type 0} → Table D → ℕ → Type 0
IsReached t p = Reached t.objects (root_references t) p

-- A collection keeps the object at a position: in a null heap every one, else what is reached.
abbrev pub IsKept : {D : Type 0} → Layouts → Table D → ℕ → Type 0
IsKept Null t p = p < length t.objects
IsKept Counting t p = IsReached t p
IsKept Copying t p = IsReached t p

-- the positions in a set, each once
pub record AreAll (IsIn : ℕ → Type 0) (positions : List ℕ) : Type 0 where
  pub distinct : IsDistinct nat_eq positions
  pub all : (p : ℕ) → Contains positions p ↔ IsIn p

-- a set has so many positions
abbrev pub HasNumber : (ℕ → Type 0) → ℕ → Type 0
HasNumber IsIn n = (positions : List ℕ) × (AreAll IsIn positions × (n ≡ length positions))

abbrev pub IsHost : {D : Type 0} → Option (Object D) → Type 0
IsHost None = ⊥
IsHost (Some (struct ty values)) = ⊥
IsHost (Some (array ty values)) = ⊥
IsHost (Some (host value)) = Unit {0}
IsHost (Some (exception ty tag values)) = ⊥

-- a collection keeps so many objects, so many host objects among them
pub record KeepsNumber {D : Type 0} (layouts : Layouts) (t : Table D) (objects hosts : ℕ) : Type 0 where
  pub objects_are : HasNumber (IsKept layouts t) objects
  pub hosts_are : HasNumber (λ (p : ℕ). IsKept layouts t p × IsHost (slice_get t.objects p)) hosts
