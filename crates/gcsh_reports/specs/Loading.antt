-- What the report of an image that is loaded says.
use Rattle.std.specs.Prelude.{◌≡◌, ℕ, List, [], ◌∷◌, ◌++◌, Option, Some, None, codes}
use Rattle.std.specs.Fmt.{decimal}
use Rattle.gc_types.specs.declared.kind.Layouts.{Layouts}
use Rattle.gc_model.specs.Allocation.{Limits}
use Rattle.gc_model.specs.Holds.{HoldsKept}
use Rattle.gc_model.specs.Reach.{KeepsNumber}
use Rattle.gc_model.specs.Stores.{StoreView}
use Rattle.gc_model.specs.Table.{Table}
use Rattle.gc_image.specs.Images.{ImagesText}
use Rattle.gc_load_image.specs.Loads.{HasGlobalsAlone, NotLoaded}
use Rattle.gc_load_image.specs.declared.fault.LoadFault.{LoadFault}
use Rattle.gc_load_image.specs.declared.fault.LoadFault.TheVariants as fault

-- the line of a heap that holds so many objects, so many host objects among them
abbrev pub held_line : ℕ → ℕ → List ℕ
held_line objects hosts = codes "loaded " ++ (decimal objects ++ 32 ∷ (decimal hosts ++ 10 ∷ []))

-- the line of a refusal; want of memory has none
abbrev pub refusal_line : LoadFault → Option (List ℕ)
refusal_line fault.BadImage = Some (codes "BadImage" ++ 10 ∷ [])
refusal_line fault.TooLarge = Some (codes "TooLarge" ++ 10 ∷ [])
refusal_line fault.RootsFull = Some (codes "RootsFull" ++ 10 ∷ [])
refusal_line (fault.HeapOutOfMemory f) = Some (codes "GcHeapOutOfMemory" ++ 10 ∷ [])
refusal_line fault.Memory = None

-- the text says what a collection keeps of the table
pub record CountsKept (layouts : Layouts) (t : Table ℕ) (text : List ℕ) : Type 0 where
  pub objects : ℕ
  pub hosts : ℕ
  pub keeps : KeepsNumber layouts t objects hosts
  pub text_is : text ≡ held_line objects hosts

-- the image was loaded, nothing but its globals is a root, and the store holds what a collection keeps and no more
pub record HoldsLoaded (layouts : Layouts) (bytes : List ℕ) (store : StoreView ℕ) : Type 0 where
  pub table : Table ℕ
  pub images : ImagesText table bytes
  pub alone : HasGlobalsAlone table
  pub kept : HoldsKept layouts store table

-- that is so, and the text says how much the store holds
pub record TellsLoaded (layouts : Layouts) (bytes text : List ℕ) (store : StoreView ℕ) : Type 0 where
  pub held : HoldsLoaded layouts bytes store
  pub counts : CountsKept layouts held.table text

-- What the report leaves in a new store that may have so many scoped roots, whether there was memory for its text or not: the image was loaded
-- and the store collected; or it wasn't loaded, for some reason.
pub data LeavesLoad (layouts : Layouts) (most : ℕ) (bytes : List ℕ) (limits limits' : Limits) (store : StoreView ℕ) : Type 0 where
  collected : HoldsLoaded layouts bytes store → LeavesLoad layouts most bytes limits limits' store
  unloaded : (why : LoadFault) → NotLoaded layouts most bytes limits limits' why store → LeavesLoad layouts most bytes limits limits' store

-- what the text says of loading an image into a new store that may have so many scoped roots
pub data TellsLoad (layouts : Layouts) (most : ℕ) (bytes : List ℕ) (limits limits' : Limits) (text : List ℕ) (store : StoreView ℕ) : Type 0 where
  loaded : TellsLoaded layouts bytes text store → TellsLoad layouts most bytes limits limits' text store
  refused : (why : LoadFault) → NotLoaded layouts most bytes limits limits' why store → refusal_line why ≡ Some text
      → TellsLoad layouts most bytes limits limits' text store
