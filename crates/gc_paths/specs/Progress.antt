-- What is known on the way: which roots were pushed, and what is told so far.
use Rattle.std.specs.Prelude.{◌≡◌, ◌≢◌, ◌↔◌, ◌≤◌, ◌<◌, ◌+◌, ◌-◌, ◌^◌, ℕ, Bool, true, List, ◌++◌, ◌==◌, if◌then◌else◌, Some, Result, Ok, Err, length, nat_eq, sum_by, slice_get}
use Rattle.std.specs.List.{Contains, IsDistinct}
use Rattle.gc_types.specs.declared.kind.Layouts.{Layouts}
use Rattle.gc_model.specs.Values.{at, Value}
use Rattle.gc_model.specs.Reach.{value_references}
use Rattle.gc_model.specs.Table.{Table, Scoped, Push}
use Rattle.gc_model.specs.Words.{Placing, IsWord}
use Rattle.gc_model.specs.Stores.{StoreView}
use Rattle.gc_model.specs.Accounts.{Account}
use Rattle.gc_values.specs.declared.root.GcRootIndex.{GcRootIndex}
use Rattle.gc_store.specs.declared.root_words.RootWord.{RootWord}
use Rattle.gc_store.specs.OwnedWords.{HoldsThere}
use Rattle.gc_store.specs.Roots.{NamesReference}
use Rattle.gc_paths.specs.declared.fault.PathFault.{PathFault}
use Rattle.gc_paths.specs.declared.fault.PathFault.TheVariants as fault
use Rattle.gc_paths.specs.Walks.{StartRoot, start_roots, ValueNames, Walk, IsWalked}
use Rattle.gc_paths.specs.Reports.{Told, positions, told_entries, IsEntry}
use Rattle.gc_paths.specs.Answers.{present_count, held_count, LacksRoots}
use Rattle.gc_paths.specs.Parts.{Parts}

-- what a search begins with: whether scoped roots count, the table, where its objects lie, and the account beside it
pub record Basis (D : Type 0) : Type 0 where
  pub scoped : Bool
  pub table : Table D
  pub place : Placing
  pub account : Account

-- so many roots were pushed, and nothing else changed
pub record Grown {D : Type 0} (t now : Table D) (count : ℕ) : Type 0 where
  pub scoped : List Scoped
  pub pushes : List Push
  pub is : now ≡ record t { scoped = t.scoped ++ scoped; pushes = t.pushes ++ pushes }
  pub scoped_count : length scoped ≡ count
  pub push_count : length pushes ≡ count
  pub free : 0 < count → t.drops ≢ 2 ^ 64 - 1

-- the store holds the table with some roots pushed, its objects where they lay
pub record HoldsGrown {D : Type 0} (layouts : Layouts) (b : Basis D) (count : ℕ) (s : StoreView D) : Type 0 where
  pub now : Table D
  pub grown : Grown b.table now count
  pub there : HoldsThere layouts s now b.place b.account

-- What is told is right, each object once, by rising length up to a bound.
pub record TellsRightly {D : Type 0} (b : Basis D) (told : List Told) (bound : ℕ) : Type 0 where
  pub each : (i : ℕ) (x : Told) → slice_get told i ≡ Some x → IsEntry b.scoped b.table b.place told i x
  pub walks : (i : ℕ) (x : Told) → slice_get told i ≡ Some x → Walk b.scoped b.table x.entry.length x.position
  pub distinct : IsDistinct nat_eq (positions told)
  pub rising : (i j : ℕ) (x y : Told) → i < j → slice_get told i ≡ Some x → slice_get told j ≡ Some y → x.entry.length ≤ y.entry.length
  pub within : (i : ℕ) (x : Told) → slice_get told i ≡ Some x → x.entry.length ≤ bound
  pub short : (i : ℕ) (x : Told) → slice_get told i ≡ Some x → x.entry.length ≤ i

-- an object is told with that word
pub record KnowsWord (told : List Told) (word : ℕ) : Type 0 where
  pub index : ℕ
  pub one : Told
  pub there : slice_get told index ≡ Some one
  pub is : one.entry.word ≡ word

-- the report has this told, with the handle of each object
pub record Lists {D : Type 0} (s : StoreView D) (now : Table D) (told : List Told) (r : Parts) : Type 0 where
  pub entries_are : r.entries ≡ told_entries told
  pub same_count : length r.handles ≡ length told
  pub named : (i : ℕ) (x : Told) (h : GcRootIndex) → slice_get told i ≡ Some x → slice_get r.handles i ≡ Some h → NamesReference s now h (at x.position)
  pub known : (word : ℕ) → (r.knows word ≡ true) ↔ KnowsWord told word

-- So far so good: what is told is right, and so many roots were pushed, one for each object at least.
pub record Progress {D : Type 0} (layouts : Layouts) (b : Basis D) (told : List Told) (bound count : ℕ) (s : StoreView D) (r : Parts) : Type 0 where
  pub holds : HoldsGrown layouts b count s
  pub lists : Lists s holds.now told r
  pub tells : TellsRightly b told bound
  pub few : length told ≤ count

-- what was told is told, at its place
abbrev pub KeepsTold : List Told → List Told → Type 0
KeepsTold before now = (i : ℕ) (x : Told) → slice_get before i ≡ Some x → slice_get now i ≡ Some x

-- an object is told with a walk of at most that length
pub record IsToldBy (told : List Told) (p bound : ℕ) : Type 0 where
  pub index : ℕ
  pub one : Told
  pub there : slice_get told index ≡ Some one
  pub position : one.position ≡ p
  pub short : one.entry.length ≤ bound

-- the search went on, and did what it was to do
pub record SearchGoesOn {D : Type 0} (layouts : Layouts) (b : Basis D) (before : List Told) (bound count : ℕ) (s : StoreView D) (r : Parts) (Done : List Told → Type 0) : Type 0 where
  pub told : List Told
  pub kept : KeepsTold before told
  pub progress : Progress layouts b told bound count s r
  pub done : Done told

-- a search that was refused has pushed some roots
abbrev pub StoppedSearch : {D : Type 0} → Layouts → Basis D → StoreView D → Type 0
StoppedSearch layouts b s = (count : ℕ) × HoldsGrown layouts b count s

-- What a part of the search answers: that it did its part, or why not, where it would push so many roots in all.
abbrev pub AnswersPart : {D : Type 0} → Layouts → Basis D → Type 0 → Type 0 → Result (Unit {0}) PathFault → StoreView D → Type 0
AnswersPart layouts b Went Full (Ok done) s = Went
AnswersPart layouts b Went Full (Err fault.WrongStore) s = ⊥
AnswersPart layouts b Went Full (Err fault.Unrooted) s = ⊥
AnswersPart layouts b Went Full (Err fault.NoObject) s = ⊥
AnswersPart layouts b Went Full (Err fault.RootsFull) s = Full × StoppedSearch layouts b s
AnswersPart layouts b Went Full (Err fault.Memory) s = StoppedSearch layouts b s

-- how many of a value's references aren't null: it is one that isn't, or there is none
abbrev pub present_in_value : Value → ℕ
present_in_value v = present_count (value_references v)

-- the object that a value names is told
abbrev pub TellsValue : ℕ → Value → List Told → Type 0
TellsValue bound v told = (p : ℕ) → Contains (value_references v) (at p) → IsToldBy told p bound

-- the objects that the first values of an object name are told
abbrev pub TellsValues : ℕ → ℕ → List Value → List Told → Type 0
TellsValues bound count values told = (i : ℕ) (v : Value) → i < count → slice_get values i ≡ Some v → TellsValue bound v told

-- how many references aren't null among values
abbrev pub values_count : List Value → ℕ
values_count values = sum_by present_in_value values

-- one for a root word that isn't null
abbrev pub word_count : RootWord → ℕ
word_count w = if w.word == 0 then 0 else 1

-- the root word is that of a root from which walks begin, where it isn't null
abbrev pub IsStartWord : {D : Type 0} → Basis D → RootWord → Type 0
IsStartWord b w = 0 < w.word → (r : StartRoot) × (Contains (start_roots b.scoped b.table) r × ((r.name ≡ w.name) × IsWord b.place r.reference w.word))

-- the object that a root word names is told
abbrev pub TellsRoot : {D : Type 0} → Basis D → RootWord → List Told → Type 0
TellsRoot b w told = (p : ℕ) → b.place p ≡ Some w.word → IsToldBy told p 0

-- each object that a root names is told, at length 0
abbrev pub TellsStarts : {D : Type 0} → Basis D → List Told → Type 0
TellsStarts b told = (r : StartRoot) (p : ℕ) → Contains (start_roots b.scoped b.table) r → r.reference ≡ at p → IsToldBy told p 0

-- the objects that a told object names are told
abbrev pub TellsNamed : {D : Type 0} → Basis D → ℕ → List Told → Type 0
TellsNamed b count told = (i : ℕ) (x : Told) (index p : ℕ) → i < count → slice_get told i ≡ Some x → ValueNames b.table.objects x.position index p → IsToldBy told p (x.entry.length + 1)

-- The search is at its end: each object that a told one names is told, and a root was pushed for each reference.
pub record Ended {D : Type 0} (layouts : Layouts) (b : Basis D) (before : List Told) (count : ℕ) (s : StoreView D) (r : Parts) : Type 0 where
  pub told : List Told
  pub kept : KeepsTold before told
  pub bound : ℕ
  pub total : ℕ
  pub progress : Progress layouts b told bound total s r
  pub named : TellsNamed b (length told) told
  pub total_is : total ≡ count + sum_by (λ p. held_count (slice_get b.table.objects p)) (positions told)

-- some objects to which there are walks have more references than there is room for
pub record PassesRoom {D : Type 0} (b : Basis D) (count : ℕ) : Type 0 where
  pub walked : List ℕ
  pub distinct : IsDistinct nat_eq walked
  pub are : (p : ℕ) → Contains walked p → IsWalked b.scoped b.table p
  pub lacks : LacksRoots b.table (count + sum_by (λ p. held_count (slice_get b.table.objects p)) walked)
