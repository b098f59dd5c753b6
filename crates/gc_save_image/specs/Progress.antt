-- What is known on the way: which roots were pushed, and which objects have numbers.
use Rattle.std.specs.Prelude.{◌≡◌, ◌<◌, ◌+◌, ℕ, true, List, Some, Option, Result, Ok, Err, length, nat_eq, slice_get, sum_by}
use Rattle.std.specs.List.{Contains, IsDistinct}
use Rattle.gc_types.specs.declared.kind.Layouts.{Layouts}
use Rattle.gc_types.specs.Declarations.{Declaration}
use Rattle.gc_owner.specs.declared.entry.GcClass.{GcClass}
use Rattle.gc_model.specs.Reach.{object_values}
use Rattle.gc_model.specs.Stores.{StoreView}
use Rattle.gc_model.specs.Table.{Table}
use Rattle.gc_model.specs.Values.{Object, Value, at, reference}
use Rattle.gc_values.specs.declared.root.GcRootIndex.{GcRootIndex}
use Rattle.gc_store.specs.Roots.{NamesReference}
use Rattle.gc_paths.specs.Answers.{LacksRoots, held_count}
use Rattle.gc_paths.specs.Progress.{Basis, HoldsGrown, StoppedSearch}
use Rattle.gc_image.specs.declared.image.ImageValue.{ImageValue}
use Rattle.gc_image.specs.declared.image.ObjectLine.{ObjectLine}
use Rattle.gc_image.specs.Images.{IsGlobal, placed_object, placed_value}
use Rattle.gc_image.specs.Text.{FitsObject, FitsImageValue}
use Rattle.gc_image.specs.Well.{HasShape, as_object, as_value, line_values, number_named}
use Rattle.gc_save_image.specs.declared.collect_fault.CollectFault.{CollectFault}
use Rattle.gc_save_image.specs.declared.collect_fault.CollectFault.TheVariants as fault
use Rattle.gc_save_image.specs.Collection.{is_plain}
use Rattle.gc_save_image.specs.Parts.{FoundHandles}

-- the objects at these positions have the numbers, each with a handle and by its word
pub record ListsFound {D : Type 0} (b : Basis D) (s : StoreView D) (now : Table D) (told : List ℕ) (f : FoundHandles) : Type 0 where
  pub same_count : length f.handles ≡ length told
  pub named : (n p : ℕ) (h : GcRootIndex) → slice_get told n ≡ Some p → slice_get f.handles n ≡ Some h → NamesReference s now h (at p)
  pub has : (n p : ℕ) → slice_get told n ≡ Some p → (word : ℕ) × ((b.place p ≡ Some word) × (f.number word ≡ Some n))
  pub only : (word n : ℕ) → f.number word ≡ Some n → (p : ℕ) × ((b.place p ≡ Some word) × (slice_get told n ≡ Some p))

-- So far so good: so many roots were pushed, and the objects that have numbers are reached, each once.
pub record ImageProgress {D : Type 0} (layouts : Layouts) (b : Basis D) (told : List ℕ) (count : ℕ) (s : StoreView D) (f : FoundHandles) : Type 0 where
  pub holds : HoldsGrown layouts b count s
  pub lists : ListsFound b s holds.now told f
  pub distinct : IsDistinct nat_eq told
  pub reached : (n p : ℕ) → slice_get told n ≡ Some p → IsGlobal b.table p

-- what has a number keeps it
abbrev pub KeepsNumbered : List ℕ → List ℕ → Type 0
KeepsNumbered before now = (n p : ℕ) → slice_get before n ≡ Some p → slice_get now n ≡ Some p

-- the search went on, and did what it was to do
pub record ImageGoesOn {D : Type 0} (layouts : Layouts) (b : Basis D) (before : List ℕ) (count : ℕ) (s : StoreView D) (f : FoundHandles) (Done : List ℕ → Type 0) : Type 0 where
  pub told : List ℕ
  pub kept : KeepsNumbered before told
  pub progress : ImageProgress layouts b told count s f
  pub done : Done told

-- What a part of the search answers: that it did its part, or why not, where it would push so many roots in all.
abbrev pub AnswersImagePart : {D X : Type 0} → Layouts → Basis D → (X → Type 0) → Type 0 → Result X CollectFault → StoreView D → Type 0
AnswersImagePart layouts b Went Full (Ok x) s = Went x
AnswersImagePart layouts b Went Full (Err fault.RootsFull) s = Full × StoppedSearch layouts b s
AnswersImagePart layouts b Went Full (Err fault.Memory) s = StoppedSearch layouts b s

-- positions by numbers, as far as these have some
abbrev pub Agrees : List ℕ → (ℕ → ℕ) → Type 0
Agrees told position = (number p : ℕ) → slice_get told number ≡ Some p → position number ≡ p

-- A value's word in a line: it says the value, where the numbers stand for these positions.
pub record SaysValue (told : List ℕ) (v : Value) (x : ImageValue) : Type 0 where
  pub is : is_plain v ≡ true → (position : ℕ → ℕ) → Agrees told position → v ≡ placed_value position (as_value x)
  pub named : (number : ℕ) → number_named x ≡ Some number → number < length told
  pub leads : (class : GcClass) (p : ℕ) → v ≡ reference class (at p) → Contains told p
  pub fits : FitsImageValue x

-- so many words say the first values
pub record SaysFirst (told : List ℕ) (count : ℕ) (values : List Value) (words : List ImageValue) : Type 0 where
  pub same_count : length words ≡ count
  pub each : (i : ℕ) (v : Value) (x : ImageValue) → slice_get values i ≡ Some v → slice_get words i ≡ Some x → SaysValue told v x

-- An object's line.
pub record SaysObject (types : List Declaration) (told : List ℕ) (o : Object ℕ) (line : ObjectLine) : Type 0 where
  pub is : ((i : ℕ) (v : Value) → slice_get (object_values o) i ≡ Some v → is_plain v ≡ true) → (position : ℕ → ℕ) → Agrees told position → o ≡ placed_object position (as_object line)
  pub shape : HasShape types line
  pub named : (i number : ℕ) (x : ImageValue) → slice_get (line_values line) i ≡ Some x → number_named x ≡ Some number → number < length told
  pub leads : (i : ℕ) (class : GcClass) (p : ℕ) → slice_get (object_values o) i ≡ Some (reference class (at p)) → Contains told p
  pub fits : FitsObject line

-- how many references of the object at a position aren't null
abbrev pub held_at : {D : Type 0} → Basis D → ℕ → ℕ
held_at b p = held_count (slice_get b.table.objects p)

-- The search is at its end: each object that has a number has its line, and a root was pushed for each reference.
pub record HasAllLines (layouts : Layouts) (b : Basis ℕ) (before : List ℕ) (start : ℕ) (s : StoreView ℕ) (f : FoundHandles) (lines : List ObjectLine) : Type 0 where
  pub told : List ℕ
  pub kept : KeepsNumbered before told
  pub total : ℕ
  pub progress : ImageProgress layouts b told total s f
  pub same_count : length lines ≡ length told
  pub says : (n p : ℕ) (o : Object ℕ) (l : ObjectLine) → slice_get told n ≡ Some p → slice_get lines n ≡ Some l → slice_get b.table.objects p ≡ Some o → SaysObject b.table.types told o l
  pub total_is : total ≡ start + sum_by (held_at b) told

-- some objects that are reached have more references than there is room for
pub record ImagePassesRoom {D : Type 0} (b : Basis D) (start : ℕ) : Type 0 where
  pub part : List ℕ
  pub distinct : IsDistinct nat_eq part
  pub are : (p : ℕ) → Contains part p → IsGlobal b.table p
  pub lacks : LacksRoots b.table (start + sum_by (held_at b) part)

-- a search has begun
pub record IsImageBegun (layouts : Layouts) (s : StoreView ℕ) (f : FoundHandles) : Type 0 where
  pub basis : Basis ℕ
  pub told : List ℕ
  pub count : ℕ
  pub progress : ImageProgress layouts basis told count s f
