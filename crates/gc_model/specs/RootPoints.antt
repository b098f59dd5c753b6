-- The roots of a store are the table's, in order: scoped ones, slots of frames, globals, owned ones and the
-- pending exception. Each point speaks of its own part of the table alone.
use Rattle.std.specs.Prelude.{◌≡◌, ℕ, ◌-◌, ◌^◌, ◌<◌, ◌⊎◌, List, Option, Some, None, length, slice_get}
use Rattle.std.specs.List.{AllPairs, Contains}
use Rattle.gc_owner.specs.declared.entry.RootEntry.{RootEntry}
use Rattle.gc_owner.specs.declared.entry.SlotEntry.{SlotEntry}
use Rattle.gc_types.specs.declared.value.Tag.{Tag}
use Rattle.gc_model.specs.Values.{Reference, at, Value, Object, exception}
use Rattle.gc_model.specs.Table.{Scoped, Push, Slot, Owned, global_count}
use Rattle.gc_owner.specs.declared.entry.OwnedEntry.{OwnedEntry}
use Rattle.gc_model.specs.Words.{Placing, IsWord}

-- a scoped root of the store is the table's: its push, and its word, which is not null
pub record EntryBy (pushes : List Push) (place : Placing) (index : ℕ) (entry : RootEntry) (root : Scoped) : Type 0 where
  pub pushed : slice_get pushes root.serial ≡ Some (record { index = index; generation = entry.generation })
  pub word : IsWord place root.reference entry.word
  pub not_null : 0 < entry.word

-- the scoped roots are the table's, in order
pub record ScopedBy (pushes : List Push) (place : Placing) (roots : List Scoped) (entries : List RootEntry) : Type 0 where
  pub same_count : length entries ≡ length roots
  pub each : (i : ℕ) (entry : RootEntry) (root : Scoped)
      → slice_get entries i ≡ Some entry → slice_get roots i ≡ Some root
      → EntryBy pushes place i entry root

-- A push is of an earlier generation, or it is of the present one and its root still stands among so many.
abbrev pub IsPastBy : ℕ → ℕ → Push → Type 0
IsPastBy drops count p = (p.generation < drops) ⊎ ((p.generation ≡ drops) × (p.index < count))

-- No two pushes have the same index and generation, so a handle stands for one serial. Nothing is pushed
-- once the scope ends are counted to their end.
pub record PushesBy (pushes : List Push) (drops count : ℕ) : Type 0 where
  pub past : (serial : ℕ) (p : Push) → slice_get pushes serial ≡ Some p → IsPastBy drops count p
  pub early : (serial : ℕ) (p : Push) → slice_get pushes serial ≡ Some p → p.generation < 2 ^ 64 - 1
  pub apart : (a b : ℕ) (p : Push) → slice_get pushes a ≡ Some p → slice_get pushes b ≡ Some p → a ≡ b

-- a slot of the store is the table's: its class, and the word of what it names
pub record SlotBy (place : Placing) (entry : SlotEntry) (slot : Slot) : Type 0 where
  pub class : entry.class ≡ slot.class
  pub word : IsWord place slot.reference entry.word

-- slots are the table's, in order
pub record SlotsBy (place : Placing) (slots : List Slot) (entries : List SlotEntry) : Type 0 where
  pub same_count : length entries ≡ length slots
  pub each : (i : ℕ) (entry : SlotEntry) (slot : Slot) → slice_get entries i ≡ Some entry → slice_get slots i ≡ Some slot → SlotBy place entry slot

-- the frames are the table's, in order, with their slots
pub record FramesBy (place : Placing) (frames : List (List Slot)) (entries : List (List SlotEntry)) : Type 0 where
  pub same_count : length entries ≡ length frames
  pub each : (i : ℕ) (slots : List SlotEntry) (frame : List Slot) → slice_get entries i ≡ Some slots → slice_get frames i ≡ Some frame → SlotsBy place frame slots

-- the globals are the table's, in order, as many as there are
pub record GlobalsBy (place : Placing) (globals : List Slot) (entries : List SlotEntry) : Type 0 where
  pub count : length globals ≡ global_count
  pub slots : SlotsBy place globals entries

-- an owned root of the store is the table's: its number, its handles, of which it has some, and its word, which is not
-- null
pub record OwnedRootBy (place : Placing) (entry : OwnedEntry) (root : Owned) : Type 0 where
  pub number : entry.number ≡ root.number
  pub handles : entry.handles ≡ root.handles
  pub held : 0 < root.handles
  pub word : IsWord place root.reference entry.word
  pub not_null : 0 < entry.word

-- The owned roots of the store that have handles are the table's, and as many were made. Both stand by rising number,
-- which is below the count.
pub record OwnedBy (place : Placing) (owns count : ℕ) (owned : List Owned) (entries : List OwnedEntry) : Type 0 where
  pub same_owns : count ≡ owns
  pub in_table : (entry : OwnedEntry) → Contains entries entry → 0 < entry.handles → (root : Owned) × (Contains owned root × OwnedRootBy place entry root)
  pub in_store : (root : Owned) → Contains owned root → (entry : OwnedEntry) × (Contains entries entry × OwnedRootBy place entry root)
  pub early : (entry : OwnedEntry) → Contains entries entry → entry.number < owns
  pub rising : AllPairs (λ (a b : OwnedEntry). a.number < b.number) entries
  pub in_order : AllPairs (λ (a b : Owned). a.number < b.number) owned

-- the pending exception is the table's: the word of what it names, or 0 where there is none
abbrev pub PendingBy : Placing → Option Reference → ℕ → Type 0
PendingBy place None word = word ≡ 0
PendingBy place (Some r) word = IsWord place r word × (0 < word)

-- the reference is that of an exception, with that tag
pub record IsException {D : Type 0} (objects : List (Object D)) (r : Reference) : Type 0 where
  pub position : ℕ
  pub reference_is : r ≡ at position
  pub ty : ℕ
  pub tag : Tag
  pub values : List Value
  pub object_is : slice_get objects position ≡ Some (exception ty tag values)

-- the word of the pending exception is that of the table's, which names an exception
pub record ThrownBy {D : Type 0} (objects : List (Object D)) (place : Placing) (pending : Option Reference) (word : ℕ) : Type 0 where
  pub same_word : PendingBy place pending word
  pub thrown : (r : Reference) → pending ≡ Some r → IsException objects r
