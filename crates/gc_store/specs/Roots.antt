-- Which root a handle names, and what it is.
use Rattle.std.specs.Prelude.{◌≡◌, ◌⊎◌, ℕ, ◌<◌, ◌==◌, ◌&&◌, Bool, Option, Some, None, Result, Ok, Err, length, slice_get, if◌then◌else◌, true}
use Rattle.gc_model.specs.Values.{Reference, null, small, at, Value, Object, struct, array, host, exception}
use Rattle.gc_model.specs.Table.{Table, Push}
use Rattle.gc_model.specs.Live.{rooted}
use Rattle.gc_model.specs.Reads.{same_reference}
use Rattle.gc_model.specs.OwnedRoots.{owned_reference}
use Rattle.gc_model.specs.Reach.{object_values}
use Rattle.gc_model.specs.Stores.{StoreView}
use Rattle.gc_model.specs.Holds.{Placing, Holds, HoldsTable, IsWord}
use Rattle.gc_types.specs.declared.kind.Layouts.{Layouts}
use Rattle.gc_values.specs.declared.root.GcRootIndex.{GcRootIndex}
use Rattle.gc_values.specs.declared.root.RootSlot.TheVariants as slot
use Rattle.gc_values.specs.declared.root.RootFault.{RootFault}
use Rattle.gc_values.specs.declared.root.RootFault.TheVariants as fault
use Rattle.gc_values.specs.declared.root.RootedObject.{RootedObject}
use Rattle.gc_values.specs.declared.root.RootedObject.TheVariants as rooted_object
use Rattle.gc_values.specs.Words.{HandleRoots, owned_id, root_word_at}

-- whether a handle carries the store's id
abbrev pub is_of_store : {D : Type 0} → StoreView D → GcRootIndex → Bool
is_of_store s handle = (handle.store_id.engine == s.engine) && (handle.store_id.number == s.number)

-- the handle of the push with that index and generation in a store
abbrev pub handle_of : {D : Type 0} → StoreView D → ℕ → ℕ → GcRootIndex
handle_of s index generation = record {
  store_id = record { engine = s.engine; number = s.number };
  generation = generation;
  slot = slot.Scoped index;
}

-- the handle is of the push with that serial
pub record NamesSerial {D : Type 0} (s : StoreView D) (t : Table D) (handle : GcRootIndex) (serial : ℕ) : Type 0 where
  pub push : Push
  pub pushed : slice_get t.pushes serial ≡ Some push
  pub is : handle ≡ handle_of s push.index push.generation

-- what an object is, as the store says it
abbrev pub IsObject : {D : Type 0} → Option (Object D) → RootedObject → Type 0
IsObject None answer = ⊥
IsObject (Some (struct ty values)) answer = answer ≡ rooted_object.Struct ty
IsObject (Some (array ty values)) answer = answer ≡ rooted_object.Array ty (length values)
IsObject (Some (host value)) answer = answer ≡ rooted_object.Host
IsObject (Some (exception ty tag values)) answer = answer ≡ rooted_object.Exn ty tag

-- what a reference is; no scoped root is null
abbrev pub IsReference : {D : Type 0} → Table D → Reference → RootedObject → Type 0
IsReference t null answer = ⊥
IsReference t (small n) answer = answer ≡ rooted_object.I31 n
IsReference t (at p) answer = IsObject (slice_get t.objects p) answer

-- what the store answers of a live root
abbrev pub TellsReference : {D : Type 0} → Table D → Reference → Result RootedObject RootFault → Type 0
TellsReference t r (Ok answer) = IsReference t r answer
TellsReference t r (Err e) = ⊥

-- what is answered of a live root: the word of its reference, by where that lies
abbrev pub TellsWord : Placing → Reference → Result ℕ RootFault → Type 0
TellsWord place r (Ok word) = IsWord place r word
TellsWord place r (Err e) = ⊥

-- the handle of the owned root of that number in a store
abbrev pub owned_handle : {D : Type 0} → StoreView D → ℕ → GcRootIndex
owned_handle s number = record {
  store_id = record { engine = s.engine; number = s.number };
  generation = number;
  slot = slot.Owned (owned_id number);
}

-- the handle is of a scoped root that stands, and names that reference
pub record NamesScoped {D : Type 0} (s : StoreView D) (t : Table D) (handle : GcRootIndex) (r : Reference) : Type 0 where
  pub serial : ℕ
  pub names : NamesSerial s t handle serial
  pub live : rooted t serial ≡ Some r

-- the handle is of an owned root that has handles, and names that reference
pub record NamesOwned {D : Type 0} (s : StoreView D) (t : Table D) (handle : GcRootIndex) (r : Reference) : Type 0 where
  pub number : ℕ
  pub names : handle ≡ owned_handle s number
  pub live : owned_reference t number ≡ Some r

-- the handle is live and names that reference
abbrev pub NamesReference : {D : Type 0} → StoreView D → Table D → GcRootIndex → Reference → Type 0
NamesReference s t handle r = NamesScoped s t handle r ⊎ NamesOwned s t handle r

-- both handles are live, and name the same reference
pub record NamesSame {D : Type 0} (s : StoreView D) (t : Table D) (a b : GcRootIndex) : Type 0 where
  pub first : Reference
  pub second : Reference
  pub names_first : NamesReference s t a first
  pub names_second : NamesReference s t b second
  pub same : same_reference first second ≡ true

-- the handle is not live: its root is gone, or never was
abbrev pub NamesNothing : {D : Type 0} → StoreView D → Table D → GcRootIndex → Type 0
NamesNothing s t handle = (r : Reference) → ¬ NamesReference s t handle r

-- the handle names an object with that value at that index: a field of a struct or an exception, or an element of an array
pub record HasValue {D : Type 0} (s : StoreView D) (t : Table D) (handle : GcRootIndex) (index : ℕ) (value : Value) : Type 0 where
  pub position : ℕ
  pub named : NamesReference s t handle (at position)
  pub object : Object D
  pub object_is : slice_get t.objects position ≡ Some object
  pub value_at : slice_get (object_values object) index ≡ Some value

-- the roots of a store that handles name
abbrev pub store_roots : {D : Type 0} → StoreView D → HandleRoots
store_roots s = record { scoped = s.scoped; owned = s.owned }

-- The word that a handle has in the store, or why it has none.
abbrev pub word_of : {D : Type 0} → StoreView D → GcRootIndex → Result ℕ RootFault
word_of s handle = if is_of_store s handle then root_word_at (store_roots s) handle.slot handle.generation else Err fault.WrongStore

-- the word is that of a root of some table that the store holds
pub record IsRootWord (D : Type 0) (layouts : Layouts) (s : StoreView D) (word : ℕ) : Type 0 where
  pub table : Table D
  pub place : Placing
  pub holds : Holds layouts s table place
  pub root : Reference
  pub is_word : IsWord place root word
  pub not_null : 0 < word

-- the handle names an object with a value at that index, in some table that the store holds
pub record CanRead (D : Type 0) (layouts : Layouts) (s : StoreView D) (handle : GcRootIndex) (index : ℕ) : Type 0 where
  pub table : Table D
  pub holds : HoldsTable layouts s table
  pub value : Value
  pub has : HasValue s table handle index value

-- the handle is live in some table that the store holds, and names what the answer says
pub record FindsRoot (D : Type 0) (layouts : Layouts) (s : StoreView D) (handle : GcRootIndex) (answer : RootedObject) : Type 0 where
  pub table : Table D
  pub holds : HoldsTable layouts s table
  pub root : Reference
  pub named : NamesReference s table handle root
  pub is : IsReference table root answer
