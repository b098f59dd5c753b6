-- The words of all roots of a store in one order, by which they are numbered from 0.
use Rattle.std.specs.Prelude.{◌≡◌, ℕ, ◌+◌, ◌==◌, ◌<◌, List, [], ◌∷◌, ◌++◌, Option, Some, None, Result, Ok, Err, map, if◌then◌else◌}
use Rattle.gc_types.specs.declared.kind.Layouts.{Layouts}
use Rattle.gc_owner.specs.declared.entry.RootEntry.{RootEntry}
use Rattle.gc_owner.specs.declared.entry.OwnedEntry.{OwnedEntry}
use Rattle.gc_owner.specs.declared.entry.SlotEntry.{SlotEntry}
use Rattle.gc_model.specs.Values.{Reference}
use Rattle.gc_model.specs.Table.{Table, push}
use Rattle.gc_model.specs.Holds.{Placing, IsWord}
use Rattle.gc_model.specs.Stores.{StoreView}
use Rattle.gc_model.specs.Accounts.{Account}
use Rattle.gc_values.specs.declared.root.RootFault.{RootFault}
use Rattle.gc_store.specs.declared.root_words.RootName.{RootName}
use Rattle.gc_store.specs.declared.root_words.RootName.TheVariants as name
use Rattle.gc_store.specs.declared.root_words.RootWord.{RootWord}
use Rattle.gc_store.specs.declared.root_words.RootAt.{RootAt}
use Rattle.gc_store.specs.declared.root_words.RootAt.TheVariants as found
use Rattle.gc_values.specs.Words.{owned_id}
use Rattle.gc_store.specs.Handles.{PushesRoot}
use Rattle.gc_store.specs.OwnedWords.{HoldsThere}

-- what each element gives with its number, from the first one's on
abbrev pub with_numbers : {A B : Type 0} → (ℕ → A → B) → ℕ → List A → List B
with_numbers give from [] = []
with_numbers give from (x ∷ xs) = give from x ∷ with_numbers give (from + 1) xs

abbrev pub root_word : RootName → ℕ → RootWord
root_word root word = record { name = root; word = word }

abbrev pub global_root_word : ℕ → SlotEntry → RootWord
global_root_word index entry = root_word (name.Global index) entry.word

abbrev pub slot_root_word : ℕ → ℕ → SlotEntry → RootWord
slot_root_word frame slot entry = root_word (name.Slot frame slot) entry.word

-- the words of slots
abbrev pub slot_words : List SlotEntry → List ℕ
slot_words slots = map (λ (e : SlotEntry). e.word) slots

-- the slots of frames, of which the first has that number
abbrev pub slot_roots : ℕ → List (List SlotEntry) → List RootWord
slot_roots from [] = []
slot_roots from (slots ∷ frames) = with_numbers (slot_root_word from) 0 slots ++ slot_roots (from + 1) frames

-- an owned root without handles names nothing
abbrev pub owned_root_word : OwnedEntry → RootWord
owned_root_word entry = root_word (name.Owned (owned_id entry.number)) (if entry.handles == 0 then 0 else entry.word)

abbrev pub scoped_root_word : ℕ → RootEntry → RootWord
scoped_root_word index entry = root_word (name.Scoped index) entry.word

-- the owned and the scoped roots
abbrev pub handle_root_words : List OwnedEntry → List RootEntry → List RootWord
handle_root_words owned scoped = map owned_root_word owned ++ with_numbers scoped_root_word 0 scoped

-- The globals; what is pending; the slots of the frames, the oldest frame's first; the owned roots in the order in which
-- they were made; the scoped roots from the oldest on.
abbrev pub root_words : {D : Type 0} → StoreView D → List RootWord
root_words s =
    with_numbers global_root_word 0 s.globals
    ++ (root_word name.Pending s.pending ∷ (slot_roots 0 s.frames ++ handle_root_words s.owned s.scoped))

-- What a new scoped root for the root word of a number answers and leaves, at what stands there. Objects lie where they
-- lay.
abbrev pub RootsWord : {D : Type 0} → Layouts → StoreView D → Table D → Placing → Account → Option RootWord → Result RootAt RootFault → StoreView D → Type 0
RootsWord layouts old t place a None result new = (result ≡ Ok found.End) × (new ≡ old)
RootsWord layouts old t place a (Some root) (Ok found.End) new = ⊥
RootsWord layouts old t place a (Some root) (Ok found.Null) new = (root.word ≡ 0) × (new ≡ old)
RootsWord layouts old t place a (Some root) (Ok (found.Root named handle)) new =
    (named ≡ root.name) × ((0 < root.word) × ((r : Reference) × (IsWord place r root.word × (PushesRoot layouts t a r (Ok handle) new × HoldsThere layouts new (push r t) place a))))
RootsWord layouts old t place a (Some root) (Err fault) new =
    (0 < root.word) × ((r : Reference) × (IsWord place r root.word × PushesRoot layouts t a r (Err fault) new))
