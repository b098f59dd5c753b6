-- What loading an image answers and leaves.
use Rattle.std.specs.Prelude.{◌≡◌, ◌⊎◌, ℕ, ◌+◌, ◌*◌, ◌/◌, ◌<◌, ◌≤◌, true, false, List, [], ◌++◌, Some, None, Result, Ok, Err, length, replicate, slice_get, sum_by}
use Rattle.gc_types.specs.declared.kind.Layouts.{Layouts}
use Rattle.gc_types.specs.declared.kind.Layouts.TheVariants.{Null, Counting, Copying}
use Rattle.gc_types.specs.Declarations.{Declaration}
use Rattle.gc_types.specs.Layouts.{round_up}
use Rattle.gc_view.specs.Pages.{page, max_pages}
use Rattle.gc_view.specs.Sizes.{alignment, need_of}
use Rattle.gc_model.specs.Allocation.{Limits, MayRefuse, Rose, asked, skipped, too_large}
use Rattle.gc_model.specs.Sizes.{object_size}
use Rattle.gc_model.specs.Stores.{StoreView}
use Rattle.gc_model.specs.SideValues.{no_side_values}
use Rattle.gc_model.specs.Table.{Table, null_slot, global_count}
use Rattle.gc_model.specs.Accounts.{Account, HoldsAccount}
use Rattle.gc_image.specs.declared.image.GlobalLine.{GlobalLine}
use Rattle.gc_image.specs.declared.image.ImageReference.{ImageReference}
use Rattle.gc_image.specs.declared.image.ImageReference.TheVariants as image_reference
use Rattle.gc_image.specs.declared.image.ImageValue.{ImageValue}
use Rattle.gc_image.specs.declared.image.ImageValue.TheVariants as value
use Rattle.gc_image.specs.declared.image.ObjectLine.{ObjectLine}
use Rattle.gc_image.specs.Images.{ImagesText}
use Rattle.gc_image.specs.Parts.{ImageParts}
use Rattle.gc_image.specs.Well.{IsWell, as_object, line_values}
use Rattle.gc_load_image.specs.declared.fault.LoadFault.{LoadFault}
use Rattle.gc_load_image.specs.declared.fault.LoadFault.TheVariants as fault

-- how many references that aren't null a reference is, and a value
abbrev pub reference_present : ImageReference → ℕ
reference_present image_reference.Null = 0
reference_present (image_reference.Small n) = 1
reference_present (image_reference.Object number) = 1

abbrev pub value_present : ImageValue → ℕ
value_present (value.I32 n) = 0
value_present (value.I64 n) = 0
value_present (value.F32 n) = 0
value_present (value.F64 n) = 0
value_present (value.V128 n) = 0
value_present (value.Ref class r) = reference_present r

abbrev pub line_count : ObjectLine → ℕ
line_count line = sum_by value_present (line_values line)

abbrev pub global_present : GlobalLine → ℕ
global_present global = value_present global.value

-- how many references of an image aren't null
abbrev pub image_reference_count : ImageParts → ℕ
image_reference_count image = sum_by line_count image.objects + sum_by global_present image.globals

-- the bytes of an object of an image, and those that it takes in whole multiples of 16
abbrev pub line_size : Layouts → List Declaration → ObjectLine → ℕ
line_size layouts types line = object_size layouts types (as_object line)

abbrev pub line_block : Layouts → List Declaration → ObjectLine → ℕ
line_block layouts types line = round_up (line_size layouts types line) alignment

-- how far the objects of a heap of so many pages may reach: a copying heap has one half for them
abbrev pub heap_bound : Layouts → ℕ → ℕ
heap_bound Null pages = page * pages
heap_bound Counting pages = page * pages
heap_bound Copying pages = page / 2 * pages

-- A heap was refused pages for a need of so many bytes: the first ones; or more, of the limiter; or nobody was asked, as they would be
-- more than a heap may have. A limiter that was asked counted it, between what it told before and after.
pub data WasRefused (need : ℕ) (limits limits' : Limits) (t : Table ℕ) : Type 0 where
  first_pages : t.made ≡ false → 0 < t.first → MayRefuse limits.limit t.first → Rose limits.refusals limits'.refusals
      → limits'.last_refused ≡ Some (0, t.first) → WasRefused need limits limits' t
  past_most : t.made ≡ true → max_pages < t.pages + asked t.pages need → WasRefused need limits limits' t
  more_pages : t.made ≡ true → MayRefuse limits.limit (t.pages + asked t.pages need) → Rose limits.refusals limits'.refusals
      → limits'.last_refused ≡ Some (t.pages, t.pages + asked t.pages need) → WasRefused need limits limits' t

-- pages were refused for an object of the image, which needs so many bytes, and the objects of the image together reach further than the
-- heap does
pub record LacksHeap (layouts : Layouts) (types : List Declaration) (lines : List ObjectLine) (need : ℕ) (limits limits' : Limits) (t : Table ℕ) : Type 0 where
  pub number : ℕ
  pub line : ObjectLine
  pub line_is : slice_get lines number ≡ Some line
  pub need_is : need ≡ need_of layouts (line_size layouts types line)
  pub refused : WasRefused need limits limits' t
  pub full : heap_bound layouts t.pages < skipped + sum_by (line_block layouts types) lines

-- some object of the image is too large for any heap of the kind
pub record HasTooLarge (layouts : Layouts) (types : List Declaration) (lines : List ObjectLine) : Type 0 where
  pub number : ℕ
  pub line : ObjectLine
  pub line_is : slice_get lines number ≡ Some line
  pub large : too_large layouts (line_size layouts types line) ≡ true

-- no root stands but globals: no scoped root, no frame, no owned root with handles, and no pending exception; nor was an owned root made
-- before or a function value or a continuation interned, and at most one scope end dropped a root
pub record HasGlobalsAlone (t : Table ℕ) : Type 0 where
  pub scoped : t.scoped ≡ []
  pub frames : t.frames ≡ []
  pub owned : t.owned ≡ []
  pub pending : t.pending ≡ None
  pub owns : t.owns ≡ 0
  pub interned : t.interned ≡ no_side_values
  pub drops : t.drops ≤ 1

-- the image of these bytes was loaded, which has so many objects
pub record Loaded (layouts : Layouts) (bytes : List ℕ) (n : ℕ) (new : StoreView ℕ) : Type 0 where
  pub table : Table ℕ
  pub account : Account
  pub holds : HoldsAccount layouts new table account
  pub images : ImagesText table bytes
  pub count : n ≡ length images.image.objects
  pub alone : HasGlobalsAlone table

-- why it wasn't, in a store with at most so many scoped roots
abbrev pub Causes : Layouts → ℕ → List ℕ → Limits → Limits → LoadFault → Table ℕ → Type 0
Causes layouts most bytes limits limits' fault.BadImage t = ¬ IsWell bytes
Causes layouts most bytes limits limits' fault.TooLarge t = (well : IsWell bytes) × HasTooLarge layouts well.well.types well.image.objects
Causes layouts most bytes limits limits' fault.RootsFull t = (well : IsWell bytes) × (most < length well.image.objects + 2 * image_reference_count well.image)
Causes layouts most bytes limits limits' (fault.HeapOutOfMemory f) t =
    (well : IsWell bytes) × LacksHeap layouts well.well.types well.image.objects f.bytes_needed limits limits' t
Causes layouts most bytes limits limits' fault.Memory t = Unit {0}

-- types are the first of others
abbrev pub AreFirstTypes : List Declaration → List Declaration → Type 0
AreFirstTypes types all = (rest : List Declaration) × (all ≡ types ++ rest)

-- The types that stand then: none where the bytes are no image; where memory was wanting none, or the first that the image's lines declare; all of these
-- where an object or a root was refused.
abbrev pub TypesLeft : List ℕ → LoadFault → List Declaration → Type 0
TypesLeft bytes fault.BadImage types = types ≡ []
TypesLeft bytes fault.TooLarge types = (well : IsWell bytes) × (types ≡ well.well.types)
TypesLeft bytes fault.RootsFull types = (well : IsWell bytes) × (types ≡ well.well.types)
TypesLeft bytes (fault.HeapOutOfMemory f) types = (well : IsWell bytes) × (types ≡ well.well.types)
TypesLeft bytes fault.Memory types = (types ≡ []) ⊎ ((well : IsWell bytes) × AreFirstTypes types well.well.types)

-- It wasn't loaded: the globals are null, no other root stands, and no types but the image's.
pub record NotLoaded (layouts : Layouts) (most : ℕ) (bytes : List ℕ) (limits limits' : Limits) (why : LoadFault) (new : StoreView ℕ) : Type 0 where
  pub table : Table ℕ
  pub account : Account
  pub holds : HoldsAccount layouts new table account
  pub alone : HasGlobalsAlone table
  pub unset : table.globals ≡ replicate global_count null_slot
  pub types : TypesLeft bytes why table.types
  pub cause : Causes layouts most bytes limits limits' why table

-- what loading an image into a new store answers and leaves
abbrev pub Loads : Layouts → ℕ → List ℕ → Limits → Limits → Result ℕ LoadFault → StoreView ℕ → Type 0
Loads layouts most bytes limits limits' (Ok n) new = Loaded layouts bytes n new
Loads layouts most bytes limits limits' (Err why) new = NotLoaded layouts most bytes limits limits' why new

-- the configuration is as it was: the first pages, and the greatest numbers of scoped and owned roots
pub record KeepsSettings (old new : StoreView ℕ) : Type 0 where
  pub first : new.first ≡ old.first
  pub max_scoped : new.max_scoped ≡ old.max_scoped
  pub max_owned : new.max_owned ≡ old.max_owned
