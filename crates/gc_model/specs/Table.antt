-- The object table and its changes.
use Rattle.std.specs.Prelude.{ℕ, zero, suc, ◌+◌, ◌-◌, ◌^◌, min, nat_lt, Bool, true, false, List, [], ◌∷◌, ◌++◌, Option, None, length, replicate, take, slice_set, if◌then◌else◌}
use Rattle.gc_types.specs.Declarations.{Declaration}
use Rattle.gc_owner.specs.declared.entry.GcClass.{GcClass}
use Rattle.gc_owner.specs.declared.entry.GcClass.TheVariants.{Any}
use Rattle.gc_model.specs.Values.{Reference, null, at, Value, Object, struct, array, host, exception, object_values}
pub use Rattle.gc_model.specs.SideValues.{SideValues}
use Rattle.gc_model.specs.SideValues.{no_side_values, side_values, with_side_values}
pub use Rattle.gc_owner.specs.RootColumns.{global_count}

-- a slot of a frame or a global
pub record Slot : Type 0 where
  pub class : GcClass
  pub reference : Reference

-- an owned root, which has handles: how many were made before it, what it names, and how many handles it has
pub record Owned : Type 0 where
  pub number : ℕ
  pub reference : Reference
  pub handles : ℕ

-- a scoped root: the number of its push, and what it names
pub record Scoped : Type 0 where
  pub serial : ℕ
  pub reference : Reference

-- a push: its index among the scoped roots, and how many scope ends dropped a root before it
pub record Push : Type 0 where
  pub index : ℕ
  pub generation : ℕ

-- The table. Objects are only added, or changed in one value; garbage is only "not reached".
-- The owned roots stand in the order in which they were made, and so do the function values and the continuations that
-- were interned, each once. A function that is none is one of them where it was stored, a continuation that is none isn't.
pub record Table (D : Type 0) : Type 0 where
  pub types : List Declaration
  pub objects : List (Object D)
  pub scoped : List Scoped
  pub pushes : List Push
  pub drops : ℕ
  pub owns : ℕ
  pub frames : List (List Slot)
  pub globals : List Slot
  pub owned : List Owned
  pub pending : Option Reference
  pub interned : SideValues
  pub made : Bool
  pub pages : ℕ
  pub first : ℕ
  pub max_scoped : ℕ
  pub max_owned : ℕ

abbrev pub null_slot : Slot
null_slot = record { class = Any; reference = null }

-- how many scoped roots a store may have that is configured by its pages alone, and how many owned ones
abbrev pub usual_roots : ℕ
usual_roots = 16777216

-- a table with nothing in it, whose heap is not made
abbrev pub start : {D : Type 0} → ℕ → ℕ → ℕ → Table D
start first max_scoped max_owned = record {
  types = [];
  objects = [];
  scoped = [];
  pushes = [];
  drops = 0;
  owns = 0;
  frames = [];
  globals = replicate global_count null_slot;
  owned = [];
  pending = None;
  interned = no_side_values;
  made = false;
  pages = 0;
  first = first;
  max_scoped = max_scoped;
  max_owned = max_owned;
}

-- one more type
abbrev pub declare : {D : Type 0} → Declaration → Table D → Table D
declare d t = record t { types = t.types ++ d ∷ [] }

-- one more scoped root, whose serial is the number of pushes before it
abbrev pub push : {D : Type 0} → Reference → Table D → Table D
push r t = record t {
  scoped = t.scoped ++ (record { serial = length t.pushes; reference = r }) ∷ [];
  pushes = t.pushes ++ (record { index = length t.scoped; generation = t.drops }) ∷ [];
}

-- one more object
abbrev pub add_object : {D : Type 0} → Object D → Table D → Table D
add_object o t = record t { objects = t.objects ++ o ∷ [] }

-- one more object, named by a new scoped root
abbrev pub add_rooted : {D : Type 0} → Object D → Table D → Table D
add_rooted o t = push (at (length t.objects)) (add_object o t)

-- the function values and the continuations among values are interned
abbrev pub intern : {D : Type 0} → List Value → Table D → Table D
intern values t = record t { interned = with_side_values (side_values values) t.interned }

-- one more object, named by a new scoped root; its function values and continuations are interned
abbrev pub make : {D : Type 0} → Object D → Table D → Table D
make o t = add_rooted o (intern (object_values o) t)

-- the pages of the heap, with its first pages where it isn't made
abbrev pub made_pages : {D : Type 0} → Table D → ℕ
made_pages t = if t.made then t.pages else t.first

-- the heap is made, with so many pages
abbrev pub with_pages : {D : Type 0} → ℕ → Table D → Table D
with_pages pages t = record t { made = true; pages = pages }

-- the heap is made, with its first pages where it wasn't
abbrev pub make_heap : {D : Type 0} → Table D → Table D
make_heap t = record t { made = true; pages = (if t.made then t.pages else t.first) }

-- The scope is left that began with so many scoped roots: those behind them go, and where some do, the
-- scope ends that dropped a root are one more.
abbrev pub leave : {D : Type 0} → ℕ → Table D → Table D
leave mark t = record t {
  scoped = take mark t.scoped;
  drops = (if nat_lt mark (length t.scoped) then min (t.drops + 1) (2 ^ 64 - 1) else t.drops);
}

-- the object with another value at an index; a host object has none
abbrev pub with_value : {D : Type 0} → ℕ → Value → Object D → Object D
with_value index v (struct ty values) = struct ty (slice_set values index v)
with_value index v (array ty values) = array ty (slice_set values index v)
with_value index v (host value) = host value
with_value index v (exception ty tag values) = exception ty tag (slice_set values index v)

-- the list with one element changed
abbrev pub change_at : {A : Type 0} → ℕ → (A → A) → List A → List A
change_at n change [] = []
change_at zero change (x ∷ xs) = change x ∷ xs
change_at (suc n) change (x ∷ xs) = x ∷ change_at n change xs

-- the object at a position has another value at an index
abbrev pub put : {D : Type 0} → ℕ → ℕ → Value → Table D → Table D
put position index v t = record t { objects = change_at position (with_value index v) t.objects }

-- the same, and a function value or a continuation is interned
abbrev pub write : {D : Type 0} → ℕ → ℕ → Value → Table D → Table D
write position index v t = put position index v (intern (v ∷ []) t)

-- the host object with another value; no other object has one
abbrev pub with_host_value : {D : Type 0} → D → Object D → Object D
with_host_value w (struct ty values) = struct ty values
with_host_value w (array ty values) = array ty values
with_host_value w (host value) = host w
with_host_value w (exception ty tag values) = exception ty tag values

-- the host object at a position has another value
abbrev pub set_host : {D : Type 0} → ℕ → D → Table D → Table D
set_host position w t = record t { objects = change_at position (with_host_value w) t.objects }
