-- What is known while an image is loaded. It is for proofs alone.
use Rattle.std.specs.Prelude.{◌≡◌, ◌↔◌, ◌⊎◌, ℕ, ◌+◌, ◌-◌, ◌*◌, ◌<◌, ◌≤◌, ◌^◌, min, nat_lt, true, false, if◌then◌else◌, List, [], ◌∷◌, ◌++◌, Option, Some, None, Result, Ok, Err, length, map, replicate, slice_get, sum_by, take}
use Rattle.gc_types.specs.declared.kind.Layouts.{Layouts}
use Rattle.gc_types.specs.declared.kind.Layouts.TheVariants.{Null, Counting, Copying}
use Rattle.gc_types.specs.declared.types.TypeFault.{TypeFault}
use Rattle.gc_types.specs.declared.types.TypeFault.TheVariants as type_fault
use Rattle.gc_types.specs.Declarations.{Declaration}
use Rattle.gc_commands.specs.declared.command.Command.{Command}
use Rattle.gc_model.specs.Allocation.{Limits, too_large, skipped}
use Rattle.gc_model.specs.Live.{roots_full}
use Rattle.gc_model.specs.Sizes.{block_bytes}
use Rattle.gc_model.specs.Stored.{stored, stored_in, byte_value}
use Rattle.gc_model.specs.Stores.{StoreView}
use Rattle.gc_model.specs.SideValues.{no_side_values}
use Rattle.gc_model.specs.Table.{Table, Slot, null_slot, global_count}
use Rattle.gc_model.specs.Values.{Reference, null, small, at, Value, reference, Object, struct, array, host, exception}
use Rattle.gc_model.specs.Words.{Placing}
use Rattle.gc_owner.specs.declared.entry.GcClass.{GcClass}
use Rattle.gc_model.specs.Accounts.{Account, HoldsAccount}
use Rattle.gc_model.specs.Policy.{PolicyState}
use Rattle.gc_values.specs.declared.root.GcRootIndex.{GcRootIndex}
use Rattle.gc_values.specs.declared.root.RawValue.{RawValue}
use Rattle.gc_values.specs.declared.root.RootFault.{RootFault}
use Rattle.gc_values.specs.declared.root.RootFault.TheVariants as root_fault
use Rattle.gc_store.specs.Places.{PlacesObject, LacksPlace, WantsPlace, RefusesPlace, size_in_table}
use Rattle.gc_store.specs.Requests.{CanPlaceStruct, CanPlaceException, CanPlaceElements, CanPlaceBytes, struct_fields_of, exn_fields_of, element_of}
use Rattle.gc_store.specs.Roots.{NamesReference}
use Rattle.gc_store.specs.Slots.{HandleStands}
use Rattle.gc_store.specs.Values.{AllStand, RawStands}
use Rattle.gc_image.specs.declared.image.GlobalLine.{GlobalLine}
use Rattle.gc_image.specs.declared.image.ImageReference.{ImageReference}
use Rattle.gc_image.specs.declared.image.ImageReference.TheVariants as image_reference
use Rattle.gc_image.specs.declared.image.ImageValue.{ImageValue}
use Rattle.gc_image.specs.declared.image.ImageValue.TheVariants as value
use Rattle.gc_image.specs.declared.image.ObjectLine.{ObjectLine}
use Rattle.gc_image.specs.declared.image.ObjectLine.TheVariants as object
use Rattle.gc_image.specs.Declaring.{DeclareInTurn}
use Rattle.gc_image.specs.Images.{AreGlobals, Images}
use Rattle.gc_image.specs.Parts.{ImageParts}
use Rattle.gc_image.specs.Steps.{Declared}
use Rattle.gc_image.specs.Text.{FitsImageValue}
use Rattle.gc_image.specs.Well.{IsWellImage, as_object, as_value, line_values}
use Rattle.gc_load_image.specs.declared.fault.LoadFault.{LoadFault}
use Rattle.gc_load_image.specs.declared.fault.LoadFault.TheVariants as fault
use Rattle.gc_load_image.specs.Loads.{HasGlobalsAlone, HasTooLarge, AreFirstTypes, KeepsSettings, LacksHeap, global_present, line_count, value_present, image_reference_count, reference_present}

-- faults of the store as those of loading
abbrev pub told_of_type : TypeFault → LoadFault
told_of_type type_fault.BadType = fault.BadImage
told_of_type type_fault.Memory = fault.Memory

abbrev pub told_of_root : RootFault → LoadFault
told_of_root root_fault.WrongStore = fault.Memory
told_of_root root_fault.Unrooted = fault.Memory
told_of_root root_fault.RootsFull = fault.RootsFull
told_of_root root_fault.Memory = fault.Memory

-- the type of a command was declared behind the others, or it may not be; where memory was wanting the types are as they were
abbrev pub DeclaresType : Command → List Declaration → List Declaration → Result (Unit {0}) LoadFault → Type 0
DeclaresType command old new (Ok done) = Declared old command new true
DeclaresType command old new (Err fault.BadImage) = Declared old command new false
DeclaresType command old new (Err fault.TooLarge) = ⊥
DeclaresType command old new (Err fault.RootsFull) = ⊥
DeclaresType command old new (Err (fault.HeapOutOfMemory f)) = ⊥
DeclaresType command old new (Err fault.Memory) = new ≡ old

-- so in turn the types of commands, in a store without types; where memory was wanting the first of them stand
abbrev pub DeclaresAll : List Command → List Declaration → Result (Unit {0}) LoadFault → Type 0
DeclaresAll commands types (Ok done) = DeclareInTurn [] commands types
DeclaresAll commands types (Err fault.BadImage) = (all : List Declaration) → ¬ DeclareInTurn [] commands all
DeclaresAll commands types (Err fault.TooLarge) = ⊥
DeclaresAll commands types (Err fault.RootsFull) = ⊥
DeclaresAll commands types (Err (fault.HeapOutOfMemory f)) = ⊥
DeclaresAll commands types (Err fault.Memory) = (all : List Declaration) → DeclareInTurn [] commands all → AreFirstTypes types all

-- the table with these types
abbrev pub with_types : List Declaration → Table ℕ → Table ℕ
with_types types t = record t { types = types }

-- each table that a store held it holds still, with the types that it has now
abbrev pub KeepsButTypes : Layouts → StoreView ℕ → StoreView ℕ → Type 0
KeepsButTypes layouts old new = (t : Table ℕ) (a : Account) → HoldsAccount layouts old t a → HoldsAccount layouts new (with_types new.types t) a

-- What an object has of its values when it is made: a reference to an object that isn't made yet is null at first.
abbrev pub early_reference : ℕ → ImageReference → Reference
early_reference number image_reference.Null = null
early_reference number (image_reference.Small n) = small n
early_reference number (image_reference.Object named) = if nat_lt named number then at named else null

abbrev pub early_value : ℕ → ImageValue → Value
early_value number (value.I32 n) = as_value (value.I32 n)
early_value number (value.I64 n) = as_value (value.I64 n)
early_value number (value.F32 n) = as_value (value.F32 n)
early_value number (value.F64 n) = as_value (value.F64 n)
early_value number (value.V128 n) = as_value (value.V128 n)
early_value number (value.Ref class r) = reference class (early_reference number r)

abbrev pub early_object : ℕ → ObjectLine → Object ℕ
early_object number (object.Struct ty values) = struct ty (map (early_value number) values)
early_object number (object.Array ty values) = array ty (map (early_value number) values)
early_object number (object.Bytes ty bytes) = array ty (map byte_value bytes)
early_object number (object.Host n) = host n
early_object number (object.Exn ty tag values) = exception ty tag (map (early_value number) values)

-- the objects of lines, of which the first has that number
abbrev pub early_objects : ℕ → List ObjectLine → List (Object ℕ)
early_objects number [] = []
early_objects number (line ∷ lines) = early_object number line ∷ early_objects (number + 1) lines

-- no number was used up: no scope end dropped a root, no owned root was made, and no function value or continuation interned
pub record IsUnused (t : Table ℕ) : Type 0 where
  pub drops : t.drops ≡ 0
  pub owns : t.owns ≡ 0
  pub interned : t.interned ≡ no_side_values

-- What is so of a table all the while: no roots stand in it but scoped ones, of which the handles name objects by their numbers.
pub record Standing (layouts : Layouts) (handles : List GcRootIndex) (s : StoreView ℕ) (t : Table ℕ) (a : Account) : Type 0 where
  pub holds : HoldsAccount layouts s t a
  pub named : (number : ℕ) (handle : GcRootIndex) → slice_get handles number ≡ Some handle → NamesReference s t handle (at number)
  pub unused : IsUnused t
  pub frames : t.frames ≡ []
  pub owned : t.owned ≡ []
  pub pending : t.pending ≡ None
  pub unset : t.globals ≡ replicate global_count null_slot

-- roots were pushed, at most so many
pub record PushesForValues (layouts : Layouts) (handles : List GcRootIndex) (most : ℕ) (old : StoreView ℕ) (t : Table ℕ) (a : Account) (new : StoreView ℕ) : Type 0 where
  pub table : Table ℕ
  pub standing : Standing layouts handles new table a
  pub objects : table.objects ≡ t.objects
  pub types : table.types ≡ t.types
  pub stays : (handle : GcRootIndex) (r : Reference) → NamesReference old t handle r → NamesReference new table handle r
  pub few : length new.scoped ≤ length old.scoped + most
  pub same : KeepsSettings old new

-- a step that may push so many roots stopped for want of them, or of memory
abbrev pub StopsAtRoots : ℕ → StoreView ℕ → LoadFault → Type 0
StopsAtRoots most old fault.BadImage = ⊥
StopsAtRoots most old fault.TooLarge = ⊥
StopsAtRoots most old fault.RootsFull = old.max_scoped < length old.scoped + most
StopsAtRoots most old (fault.HeapOutOfMemory f) = ⊥
StopsAtRoots most old fault.Memory = Unit {0}

-- a handle was found for a reference of an object with that number
abbrev pub FindsHandle : Layouts → List GcRootIndex → ImageReference → StoreView ℕ → Table ℕ → Account → Result (Option GcRootIndex) LoadFault → StoreView ℕ → Type 0
FindsHandle layouts handles r old t a (Ok handle) new =
    (p : PushesForValues layouts handles (reference_present r) old t a new) × HandleStands new p.table handle (early_reference (length handles) r)
FindsHandle layouts handles r old t a (Err why) new = PushesForValues layouts handles 0 old t a new × StopsAtRoots (reference_present r) old why

-- so a value was made for one of an object with that number
abbrev pub FindsRawValue : Layouts → List GcRootIndex → ImageValue → StoreView ℕ → Table ℕ → Account → Result RawValue LoadFault → StoreView ℕ → Type 0
FindsRawValue layouts handles v old t a (Ok raw) new =
    (p : PushesForValues layouts handles (value_present v) old t a new) × RawStands new p.table raw (early_value (length handles) v)
FindsRawValue layouts handles v old t a (Err why) new = PushesForValues layouts handles 0 old t a new × StopsAtRoots (value_present v) old why

-- and for all of its values
pub record FoundValues (layouts : Layouts) (handles : List GcRootIndex) (vs : List ImageValue) (old : StoreView ℕ) (t : Table ℕ) (a : Account) (raws : List RawValue) (new : StoreView ℕ) : Type 0 where
  pub pushes : PushesForValues layouts handles (sum_by value_present vs) old t a new
  pub stand : AllStand new pushes.table raws (map (early_value (length handles)) vs)

pub record FailedValues (layouts : Layouts) (handles : List GcRootIndex) (vs : List ImageValue) (old : StoreView ℕ) (t : Table ℕ) (a : Account) (why : LoadFault) (new : StoreView ℕ) : Type 0 where
  pub pushes : PushesForValues layouts handles (sum_by value_present vs) old t a new
  pub cause : StopsAtRoots (sum_by value_present vs) old why

-- the object of a line may be placed with these values
abbrev pub CanPlaceLine : Layouts → StoreView ℕ → ObjectLine → List RawValue → Type 0
CanPlaceLine layouts s (object.Struct ty values) raws = CanPlaceStruct ℕ layouts s ty raws
CanPlaceLine layouts s (object.Array ty values) raws = CanPlaceElements ℕ layouts s ty (length raws) raws
CanPlaceLine layouts s (object.Bytes ty bytes) raws = CanPlaceBytes s ty (length bytes) bytes
CanPlaceLine layouts s (object.Host n) raws = Unit {0}
CanPlaceLine layouts s (object.Exn ty tag values) raws = CanPlaceException ℕ layouts s ty raws

-- it is this one
abbrev pub IsLineObject : StoreView ℕ → Table ℕ → ObjectLine → List RawValue → Object ℕ → Type 0
IsLineObject s t (object.Struct ty values) raws o = (vs : List Value) × (AllStand s t raws vs × (o ≡ struct ty (stored_in (struct_fields_of t.types ty) vs)))
IsLineObject s t (object.Array ty values) raws o = (vs : List Value) × (AllStand s t raws vs × (o ≡ array ty (map (stored (element_of t.types ty)) vs)))
IsLineObject s t (object.Bytes ty bytes) raws o = o ≡ array ty (map byte_value bytes)
IsLineObject s t (object.Host n) raws o = o ≡ host n
IsLineObject s t (object.Exn ty tag values) raws o = (vs : List Value) × (AllStand s t raws vs × (o ≡ exception ty tag (stored_in (exn_fields_of t.types ty) vs)))

-- what placing an object answers and leaves, for a table and an account that the store held
abbrev pub PlacesLine : Layouts → Option ℕ → Object ℕ → PolicyState ℕ → Limits → Result GcRootIndex LoadFault → StoreView ℕ → Type 0
PlacesLine layouts counter o p limits' (Ok handle) new = PlacesObject layouts counter o p limits' handle new
PlacesLine layouts counter o p limits' (Err fault.BadImage) new = ⊥
PlacesLine layouts counter o p limits' (Err fault.TooLarge) new = (too_large layouts (size_in_table layouts o p.table) ≡ true) × RefusesPlace layouts p limits' new
PlacesLine layouts counter o p limits' (Err fault.RootsFull) new = (roots_full p.table ≡ true) × RefusesPlace layouts p limits' new
PlacesLine layouts counter o p limits' (Err (fault.HeapOutOfMemory f)) new = LacksPlace layouts counter o p limits' f.bytes_needed new
PlacesLine layouts counter o p limits' (Err fault.Memory) new = WantsPlace layouts counter o p limits' new ⊎ RefusesPlace layouts p limits' new

-- where an object begins in a counting heap in which the objects lie one behind the other
abbrev pub dense_start : List Declaration → List (Object ℕ) → ℕ → ℕ
dense_start types objects p = skipped + sum_by (λ (o : Object ℕ). block_bytes Counting types (Some o)) (take p objects)

-- so they lie, where places are told
abbrev pub IsDense : Layouts → List Declaration → List (Object ℕ) → Placing → Type 0
IsDense Null types objects places = Unit {0}
IsDense Counting types objects places = (p word : ℕ) → (places p ≡ Some word) ↔ ((p < length objects) × (word ≡ dense_start types objects p))
IsDense Copying types objects places = Unit {0}

-- The first objects of an image were made, as many as there are handles.
pub record Making (layouts : Layouts) (lines : List ObjectLine) (handles : List GcRootIndex) (s : StoreView ℕ) : Type 0 where
  pub table : Table ℕ
  pub account : Account
  pub standing : Standing layouts handles s table account
  pub objects : table.objects ≡ early_objects 0 (take (length handles) lines)
  pub dense : IsDense layouts table.types table.objects account.places

-- the limiter counted no less than before
pub record CountsNoLess (limits limits' : Limits) : Type 0 where
  pub limit : limits'.limit ≡ limits.limit
  pub refusals : min limits.refusals (2 ^ 64 - 1) ≤ limits'.refusals

-- a store in which no root stands but scoped ones
pub record Bare (layouts : Layouts) (s : StoreView ℕ) : Type 0 where
  pub table : Table ℕ
  pub account : Account
  pub holds : HoldsAccount layouts s table account
  pub unused : IsUnused table
  pub frames : table.frames ≡ []
  pub owned : table.owned ≡ []
  pub pending : table.pending ≡ None
  pub unset : table.globals ≡ replicate global_count null_slot

-- why loading the objects of lines stopped, in a step that may push so many roots
abbrev pub StopCause : Layouts → List Declaration → List ObjectLine → Limits → Limits → ℕ → StoreView ℕ → LoadFault → Table ℕ → Type 0
StopCause layouts types lines limits limits' most old fault.BadImage t = ⊥
StopCause layouts types lines limits limits' most old fault.TooLarge t = HasTooLarge layouts types lines
StopCause layouts types lines limits limits' most old fault.RootsFull t = old.max_scoped < length old.scoped + most
StopCause layouts types lines limits limits' most old (fault.HeapOutOfMemory f) t = LacksHeap layouts types lines f.bytes_needed limits limits' t
StopCause layouts types lines limits limits' most old fault.Memory t = Unit {0}

pub record Stops (layouts : Layouts) (types : List Declaration) (lines : List ObjectLine) (limits limits' : Limits) (most : ℕ) (old : StoreView ℕ) (why : LoadFault) (new : StoreView ℕ) : Type 0 where
  pub bare : Bare layouts new
  pub same : KeepsSettings old new
  pub same_types : new.types ≡ old.types
  pub cause : StopCause layouts types lines limits limits' most old why bare.table

-- a step went on: at most so many roots were pushed, and the types are as they were
pub record LoadGoesOn (most : ℕ) (old new : StoreView ℕ) : Type 0 where
  pub few : length new.scoped ≤ length old.scoped + most
  pub same : KeepsSettings old new
  pub types : new.types ≡ old.types

-- the next object was made
pub record MadeNext (layouts : Layouts) (lines : List ObjectLine) (handles : List GcRootIndex) (line : ObjectLine) (limits limits' : Limits) (old : StoreView ℕ) (handle : GcRootIndex) (new : StoreView ℕ) : Type 0 where
  pub making : Making layouts lines (handles ++ handle ∷ []) new
  pub goes : LoadGoesOn (1 + line_count line) old new
  pub counts : CountsNoLess limits limits'
  pub short : length (line_values line) < 2 ^ 32

-- what making the next object of an image, that of a line, answers and leaves
abbrev pub MakesNext : Layouts → List ObjectLine → List GcRootIndex → ObjectLine → Limits → Limits → StoreView ℕ → Result GcRootIndex LoadFault → StoreView ℕ → Type 0
MakesNext layouts lines handles line limits limits' old (Ok handle) new = MadeNext layouts lines handles line limits limits' old handle new
MakesNext layouts lines handles line limits limits' old (Err why) new = Stops layouts old.types lines limits limits' (1 + line_count line) old why new

-- how many roots an object of a line may take
abbrev pub line_roots : ObjectLine → ℕ
line_roots line = 1 + line_count line

abbrev pub AreShort : List ObjectLine → Type 0
AreShort lines = (number : ℕ) (line : ObjectLine) → slice_get lines number ≡ Some line → length (line_values line) < 2 ^ 32

-- all objects were made
pub record MadeAll (layouts : Layouts) (lines : List ObjectLine) (limits limits' : Limits) (old : StoreView ℕ) (handles : List GcRootIndex) (new : StoreView ℕ) : Type 0 where
  pub making : Making layouts lines handles new
  pub all : length handles ≡ length lines
  pub goes : LoadGoesOn (sum_by line_roots lines) old new
  pub counts : CountsNoLess limits limits'
  pub short : AreShort lines

-- each value of each line is in the range of its part
abbrev pub AreInRange : List ObjectLine → Type 0
AreInRange lines = (number : ℕ) (line : ObjectLine) → slice_get lines number ≡ Some line → (index : ℕ) (v : ImageValue) → slice_get (line_values line) index ≡ Some v → FitsImageValue v

-- the object of a line with these values; bytes and numbers of hosts are no values of it
abbrev pub line_object : ObjectLine → List Value → Object ℕ
line_object (object.Struct ty values) ws = struct ty ws
line_object (object.Array ty values) ws = array ty ws
line_object (object.Bytes ty bytes) ws = array ty (map byte_value bytes)
line_object (object.Host n) ws = host n
line_object (object.Exn ty tag values) ws = exception ty tag ws

-- values of the object with a number: those below an index are all written
pub record AreWritten (number index : ℕ) (vs : List ImageValue) (ws : List Value) : Type 0 where
  pub same_count : length ws ≡ length vs
  pub done : (j : ℕ) (v : ImageValue) → j < index → slice_get vs j ≡ Some v → slice_get ws j ≡ Some (as_value v)
  pub rest : (j : ℕ) (v : ImageValue) → index ≤ j → slice_get vs j ≡ Some v → slice_get ws j ≡ Some (early_value number v)

-- the object of a line has its values up to an index
pub record StandsTo (number index : ℕ) (line : ObjectLine) (o : Object ℕ) : Type 0 where
  pub values : List Value
  pub is : o ≡ line_object line values
  pub written : AreWritten number index (line_values line) values

-- All objects were made, and the values were written of those with lower numbers, and of the one with that number up to an index.
pub record Writing (layouts : Layouts) (lines : List ObjectLine) (handles : List GcRootIndex) (number index : ℕ) (s : StoreView ℕ) : Type 0 where
  pub table : Table ℕ
  pub account : Account
  pub standing : Standing layouts handles s table account
  pub count : length table.objects ≡ length lines
  pub done : (p : ℕ) (line : ObjectLine) → p < number → slice_get lines p ≡ Some line → slice_get table.objects p ≡ Some (as_object line)
  pub here : (line : ObjectLine) (o : Object ℕ) → slice_get lines number ≡ Some line → slice_get table.objects number ≡ Some o → StandsTo number index line o
  pub rest : (p : ℕ) (line : ObjectLine) → number < p → slice_get lines p ≡ Some line → slice_get table.objects p ≡ Some (early_object p line)

-- the objects of an image stand
pub record Complete (layouts : Layouts) (lines : List ObjectLine) (handles : List GcRootIndex) (s : StoreView ℕ) : Type 0 where
  pub table : Table ℕ
  pub account : Account
  pub standing : Standing layouts handles s table account
  pub objects : table.objects ≡ map as_object lines

abbrev pub global_line_value : GlobalLine → ImageValue
global_line_value global = global.value

-- the object with a number has a value at an index
pub record IsValueAt (lines : List ObjectLine) (number index : ℕ) : Type 0 where
  pub line : ObjectLine
  pub line_is : slice_get lines number ≡ Some line
  pub inside : index < length (line_values line)

-- a reference to an object that was made no earlier than the one with a number
abbrev pub IsLate : ℕ → ImageValue → Option (GcClass × ℕ) → Type 0
IsLate number v (Some found) = (v ≡ value.Ref found.0 (image_reference.Object found.1)) × (number ≤ found.1)
IsLate number v None = early_value number v ≡ as_value v

-- each global is one of the store's, and holds a reference
abbrev pub IsReferenceValue : ImageValue → Type 0
IsReferenceValue (value.Ref class r) = Unit {0}
IsReferenceValue v = ⊥

abbrev pub AreSlots : List GlobalLine → Type 0
AreSlots globals = (i : ℕ) (g : GlobalLine) → slice_get globals i ≡ Some g → (g.index < global_count) × IsReferenceValue g.value

abbrev pub with_globals : List Slot → Table ℕ → Table ℕ
with_globals slots t = record t { globals = slots }

-- the first globals of an image are set
pub record GlobalsSet (layouts : Layouts) (globals : List GlobalLine) (i : ℕ) (t : Table ℕ) (a : Account) (new : StoreView ℕ) : Type 0 where
  pub slots : List Slot
  pub holds : HoldsAccount layouts new (with_globals slots t) a
  pub set : AreGlobals (λ n. n) (take i globals) slots

-- what globals are to hold stands
abbrev pub HeldStand : StoreView ℕ → Table ℕ → List RawValue → List GlobalLine → Type 0
HeldStand s t held globals = AllStand s t held (map (λ (g : GlobalLine). as_value g.value) globals)

abbrev pub AreGlobalsInRange : List GlobalLine → Type 0
AreGlobalsInRange globals = (index : ℕ) (g : GlobalLine) → slice_get globals index ≡ Some g → FitsImageValue g.value

-- the objects of an image were made, and its globals set
pub record FilledStore (layouts : Layouts) (lines : List ObjectLine) (globals : List GlobalLine) (old : StoreView ℕ) (n : ℕ) (new : StoreView ℕ) : Type 0 where
  pub table : Table ℕ
  pub account : Account
  pub holds : HoldsAccount layouts new table account
  pub objects : table.objects ≡ map as_object lines
  pub unused : IsUnused table
  pub frames : table.frames ≡ []
  pub owned : table.owned ≡ []
  pub pending : table.pending ≡ None
  pub set : AreGlobals (λ n. n) globals table.globals
  pub same : KeepsSettings old new
  pub types : new.types ≡ old.types
  pub count : n ≡ length lines

abbrev pub FillsStore : Layouts → List ObjectLine → List GlobalLine → Limits → Limits → StoreView ℕ → Result ℕ LoadFault → StoreView ℕ → Type 0
FillsStore layouts lines globals limits limits' old (Ok n) new = FilledStore layouts lines globals old n new
FillsStore layouts lines globals limits limits' old (Err why) new =
    Stops layouts old.types lines limits limits' (sum_by line_roots lines + sum_by global_present globals) old why new

-- what loading an image that is well answers and leaves
pub record LoadedImage (layouts : Layouts) (image : ImageParts) (n : ℕ) (new : StoreView ℕ) : Type 0 where
  pub table : Table ℕ
  pub account : Account
  pub holds : HoldsAccount layouts new table account
  pub images : Images table image
  pub count : n ≡ length image.objects
  pub alone : HasGlobalsAlone table

abbrev pub ImageCauses : Layouts → ℕ → (image : ImageParts) → IsWellImage image → Limits → Limits → LoadFault → Table ℕ → Type 0
ImageCauses layouts most image well limits limits' fault.BadImage t = ⊥
ImageCauses layouts most image well limits limits' fault.TooLarge t = HasTooLarge layouts well.types image.objects
ImageCauses layouts most image well limits limits' fault.RootsFull t = most < length image.objects + 2 * image_reference_count image
ImageCauses layouts most image well limits limits' (fault.HeapOutOfMemory f) t = LacksHeap layouts well.types image.objects f.bytes_needed limits limits' t
ImageCauses layouts most image well limits limits' fault.Memory t = Unit {0}

abbrev pub ImageTypesLeft : List Declaration → LoadFault → List Declaration → Type 0
ImageTypesLeft all fault.BadImage types = ⊥
ImageTypesLeft all fault.TooLarge types = types ≡ all
ImageTypesLeft all fault.RootsFull types = types ≡ all
ImageTypesLeft all (fault.HeapOutOfMemory f) types = types ≡ all
ImageTypesLeft all fault.Memory types = AreFirstTypes types all

pub record NotLoadedImage (layouts : Layouts) (most : ℕ) (image : ImageParts) (limits limits' : Limits) (why : LoadFault) (new : StoreView ℕ) : Type 0 where
  pub table : Table ℕ
  pub account : Account
  pub holds : HoldsAccount layouts new table account
  pub alone : HasGlobalsAlone table
  pub unset : table.globals ≡ replicate global_count null_slot
  pub well : IsWellImage image
  pub types : ImageTypesLeft well.types why table.types
  pub cause : ImageCauses layouts most image well limits limits' why table

abbrev pub LoadsImage : Layouts → ℕ → ImageParts → Limits → Limits → Result ℕ LoadFault → StoreView ℕ → Type 0
LoadsImage layouts most image limits limits' (Ok n) new = LoadedImage layouts image n new
LoadsImage layouts most image limits limits' (Err why) new = NotLoadedImage layouts most image limits limits' why new
