-- The roots of an owner by their kinds, and the list of them that a collection is given.
use Rattle.std.specs.Prelude.{◌≡◌, ℕ, ◌+◌, ◌-◌, ◌^◌, ◌<◌, ◌≤◌, ◌==◌, min, max, not, nat_le, if◌then◌else◌, Bool, true, false, Option, Some, None, Result, Ok, Err, List, [], ◌∷◌, ◌++◌, length, map, filter, take, drop, slice_set, slice_index_or, replicate}
use Rattle.std.specs.declared.alloc.AllocError.{AllocError}
use Rattle.gc_roots.specs.Roots.{Root, root}
use Rattle.gc_heap.specs.Collection.{moved, moved_root}
use Rattle.gc_owner.specs.declared.entry.GcClass.TheVariants.{Any}
use Rattle.gc_owner.specs.declared.entry.RootEntry.{RootEntry}
use Rattle.gc_owner.specs.declared.entry.OwnedEntry.{OwnedEntry}
use Rattle.gc_owner.specs.declared.entry.SlotEntry.{SlotEntry}

-- The roots: the scoped ones from the oldest on, the owned ones from the oldest on and how many were made, the slots of all open frames
-- from the oldest on with the places where the frames begin, the globals, and the pending exception (0 for
-- none); the generation of the next scoped root; for how many more scoped roots there is room; the list that a
-- collection under way has of the roots, and how many it was given, which is 0 while none is; how many places
-- the list has in all; and whether it has places for all roots, as it has but in what a collection in increments leaves behind
-- while it runs.
pub record RootsView : Type 0 where
  pub scoped : List RootEntry
  pub owned : List OwnedEntry
  pub owns : ℕ
  pub slots : List SlotEntry
  pub frames : List ℕ
  pub globals : List SlotEntry
  pub pending : ℕ
  pub generation : ℕ
  pub spare : ℕ
  pub listed : Option (List Root)
  pub given : ℕ
  pub list_spare : ℕ
  pub has_places : Bool

-- how many globals there are
abbrev pub global_count : ℕ
global_count = 16

-- a slot that holds nothing
abbrev pub empty_slot : SlotEntry
empty_slot = record { class = Any; word = 0 }

-- an owned root that holds nothing
abbrev pub empty_entry : OwnedEntry
empty_entry = record { number = 0; handles = 0; word = 0 }

-- no roots, with so many places in the list
abbrev pub no_roots : ℕ → RootsView
no_roots list_spare = record {
  scoped = [];
  owned = [];
  owns = 0;
  slots = [];
  frames = [];
  globals = replicate global_count empty_slot;
  pending = 0;
  generation = 0;
  spare = 0;
  listed = None;
  given = 0;
  list_spare = list_spare;
  has_places = true;
}

-- no roots, where as many owned ones were made and as many scopes ended as are counted, and the list has no places for all
abbrev pub spent_roots : ℕ → RootsView
spent_roots list_spare = record (no_roots list_spare) { owns = 2 ^ 64 - 1; generation = 2 ^ 64 - 1; has_places = false }

-- the words of each kind of root
abbrev pub scoped_words : RootsView → List ℕ
scoped_words r = map (λ (e : RootEntry). e.word) r.scoped

abbrev pub owned_words : RootsView → List ℕ
owned_words r = map (λ (e : OwnedEntry). e.word) r.owned

abbrev pub frame_slot_words : RootsView → List ℕ
frame_slot_words r = map (λ (e : SlotEntry). e.word) r.slots

abbrev pub global_words : RootsView → List ℕ
global_words r = map (λ (e : SlotEntry). e.word) r.globals

-- the words that aren't null
abbrev pub non_null_words : List ℕ → List ℕ
non_null_words words = filter (λ w. not (w == 0)) words

-- words as roots of one kind, which are frame slots or none; nulls are no roots
abbrev pub listed_as : ℕ → Bool → List ℕ → List Root
listed_as place on_stack words = map (λ w. root place on_stack w) (non_null_words words)

-- the roots as a collection sees them
abbrev pub roots_of : RootsView → List Root
roots_of r =
    listed_as 0 false (scoped_words r)
    ++ (listed_as 1 false (owned_words r)
    ++ (listed_as 2 true (frame_slot_words r)
    ++ (listed_as 3 false (global_words r)
    ++ listed_as 4 false (r.pending ∷ []))))

-- the roots with their words moved; nulls and 31-bit numbers stay
abbrev pub moved_roots : (ℕ → ℕ) → RootsView → RootsView
moved_roots to r = record r {
  scoped = map (λ (e : RootEntry). record e { word = moved to e.word }) r.scoped;
  owned = map (λ (e : OwnedEntry). record e { word = moved to e.word }) r.owned;
  slots = map (λ (e : SlotEntry). record e { word = moved to e.word }) r.slots;
  globals = map (λ (e : SlotEntry). record e { word = moved to e.word }) r.globals;
  pending = moved to r.pending;
}

-- the roots with one more scoped root, of the generation that stands
abbrev pub with_scoped : ℕ → RootsView → RootsView
with_scoped word r = record r { scoped = r.scoped ++ (record { generation = r.generation; word = word }) ∷ []; spare = r.spare - 1 }

-- The generation after a scope end, which rises where a root was dropped, up to the greatest u64.
abbrev pub generation_after : ℕ → RootsView → ℕ
generation_after mark r = if nat_le (length r.scoped) mark then r.generation else min (r.generation + 1) (2 ^ 64 - 1)

-- where the newest frame begins, and its slots
abbrev pub newest_start : RootsView → ℕ
newest_start r = slice_index_or r.frames (length r.frames - 1) 0

-- from a place on a list has words of one kind that moved, and then others
abbrev pub ColumnFollows : ℕ → List Root → (ℕ → ℕ) → ℕ → Bool → List ℕ → List Root → Type 0
ColumnFollows from roots to place on_stack words behind = drop from roots ≡ map (moved_root to) (listed_as place on_stack words) ++ behind

-- from a place on a list has these words of some kind, which moved somehow
abbrev pub HaveMoved : ℕ → List Root → List ℕ → Type 0
HaveMoved from roots words =
    (to : ℕ → ℕ) × ((place : ℕ) × ((on_stack : Bool) × ((behind : List Root) × ColumnFollows from roots to place on_stack words behind)))

-- starts of frames from a place on, each at or behind the one before it, and none behind the end of the slots
abbrev pub RiseFrom : ℕ → List ℕ → ℕ → Type 0
RiseFrom place [] end = place ≤ end
RiseFrom place (start ∷ starts) end = (place ≤ start) × RiseFrom start starts end

-- The first open frame begins at the first slot, and each later one at or behind the one before it; with no
-- frame there are no slots.
abbrev pub AreFrames : List ℕ → ℕ → Type 0
AreFrames [] end = end ≡ 0
AreFrames (start ∷ starts) end = (start ≡ 0) × RiseFrom start starts end

-- there are no more scoped and owned roots than a u32 numbers
pub record AreFew (r : RootsView) : Type 0 where
  pub scoped : length r.scoped ≤ 2 ^ 32
  pub owned : length r.owned ≤ 2 ^ 32
  pub globals : length r.globals ≡ global_count

-- the roots with as many places in the list as others have
abbrev pub with_places : RootsView → RootsView → RootsView
with_places other r = record r { list_spare = other.list_spare }

-- the roots with as much room as others have, for scoped roots and in the list
abbrev pub with_room : RootsView → RootsView → RootsView
with_room other r = record r { spare = other.spare; list_spare = other.list_spare }

-- Room for so many more scoped roots was asked for: there is that, or what there was if it is more. Only where there
-- was less memory may be wanted, and the room is as it was then.
abbrev pub Reserves : ℕ → ℕ → ℕ → Result (Unit {0}) AllocError → Type 0
Reserves count old new (Ok done) = new ≡ max old count
Reserves count old new (Err e) = (old < count) × (new ≡ old)

-- the roots while the list of a collection has these of them
abbrev pub with_list : List Root → RootsView → RootsView
with_list listed r = record r { listed = Some listed; given = length (roots_of r) }

-- the roots with no list in use
abbrev pub without_list : RootsView → RootsView
without_list r = record r { listed = None; given = 0 }

-- the roots after a scope was left with so many scoped ones
abbrev pub left_scope : ℕ → RootsView → RootsView
left_scope mark r = record r { scoped = take mark r.scoped; generation = generation_after mark r }

-- the roots with other globals, slots or pending exception
abbrev pub with_global : ℕ → SlotEntry → RootsView → RootsView
with_global index entry r = record r { globals = slice_set r.globals index entry }

abbrev pub with_slot : ℕ → SlotEntry → RootsView → RootsView
with_slot index entry r = record r { slots = slice_set r.slots (newest_start r + index) entry }

abbrev pub with_frame : ℕ → RootsView → RootsView
with_frame count r = record r { slots = r.slots ++ replicate count empty_slot; frames = r.frames ++ length r.slots ∷ [] }

abbrev pub without_frame : RootsView → RootsView
without_frame r = record r { slots = take (newest_start r) r.slots; frames = take (length r.frames - 1) r.frames }

-- a slot of the newest frame is there
abbrev pub HasSlot : RootsView → ℕ → Type 0
HasSlot r index = (0 < length r.frames) × (newest_start r + index < length r.slots)

-- the owned roots that have handles
abbrev pub with_handles : List OwnedEntry → List OwnedEntry
with_handles entries = filter (λ (e : OwnedEntry). not (e.handles == 0)) entries

-- the roots without the owned ones that have no handles
abbrev pub without_unheld : RootsView → RootsView
without_unheld r = record r { owned = with_handles r.owned }

-- the roots with one more owned root, which has one handle
abbrev pub with_owned_root : ℕ → RootsView → RootsView
with_owned_root word r = record r { owned = r.owned ++ (record { number = r.owns; handles = 1; word = word }) ∷ []; owns = r.owns + 1 }

-- the roots, of which the owned one at that place has so many handles
abbrev pub with_handle_count : ℕ → ℕ → RootsView → RootsView
with_handle_count index handles r =
    record r { owned = slice_set r.owned index (record (slice_index_or r.owned index empty_entry) { handles = handles }) }

-- the roots of these parts as a collection sees them
abbrev pub all_roots : List RootEntry → List OwnedEntry → List SlotEntry → List SlotEntry → ℕ → List Root
all_roots scoped owned slots globals pending =
    listed_as 0 false (map (λ (e : RootEntry). e.word) scoped)
    ++ (listed_as 1 false (map (λ (e : OwnedEntry). e.word) owned)
    ++ (listed_as 2 true (map (λ (e : SlotEntry). e.word) slots)
    ++ (listed_as 3 false (map (λ (e : SlotEntry). e.word) globals)
    ++ listed_as 4 false (pending ∷ []))))

-- all roots have the words of the objects that moved
pub record MovesAll (to : ℕ → ℕ) (scoped scoped' : List RootEntry) (owned owned' : List OwnedEntry)
    (slots slots' globals globals' : List SlotEntry) (pending pending' : ℕ) : Type 0 where
  pub scoped_moved : scoped' ≡ map (λ (e : RootEntry). record e { word = moved to e.word }) scoped
  pub owned_moved : owned' ≡ map (λ (e : OwnedEntry). record e { word = moved to e.word }) owned
  pub slots_moved : slots' ≡ map (λ (e : SlotEntry). record e { word = moved to e.word }) slots
  pub globals_moved : globals' ≡ map (λ (e : SlotEntry). record e { word = moved to e.word }) globals
  pub pending_moved : pending' ≡ moved to pending
