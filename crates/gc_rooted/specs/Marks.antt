-- Which references a marker takes.
use Rattle.std.specs.Prelude.{◌≡◌, Bool, true, false, Option, Some, None}
use Rattle.gc_types.specs.declared.kind.VMGcKind.{VMGcKind}
use Rattle.gc_types.specs.declared.kind.VMGcKind.TheVariants.{EqRef, StructRef, ArrayRef}
use Rattle.gc_types.specs.Kinds.{IsKindOf}
use Rattle.gc_owner.specs.declared.entry.GcClass.{GcClass}
use Rattle.gc_owner.specs.declared.entry.GcClass.TheVariants.{Any, Extern, Exn}
use Rattle.gc_model.specs.Values.{Reference}
use Rattle.gc_model.specs.Table.{Table}
use Rattle.gc_values.specs.declared.root.RootSlot.{RootSlot}
use Rattle.gc_values.specs.declared.root.RootSlot.TheVariants as slot
use Rattle.gc_values.specs.declared.root.GcRootIndex.{GcRootIndex}
use Rattle.gc_values.specs.declared.root.RootedObject.{RootedObject}
use Rattle.gc_values.specs.declared.root.RootedObject.TheVariants as rooted_object
use Rattle.gc_store.specs.Roots.{IsReference}

abbrev pub is_rooted_exception : RootedObject → Bool
is_rooted_exception (rooted_object.I31 number) = false
is_rooted_exception (rooted_object.Struct ty) = false
is_rooted_exception (rooted_object.Array ty count) = false
is_rooted_exception rooted_object.Host = false
is_rooted_exception (rooted_object.Exn ty tag) = true

-- What a root names is of class any, and of a kind there. A 31-bit number is compared by what it is, and so of the kind of
-- what can be compared.
abbrev pub IsAnyOfKind : VMGcKind → RootedObject → Type 0
IsAnyOfKind kind (rooted_object.I31 number) = IsKindOf EqRef kind
IsAnyOfKind kind (rooted_object.Struct ty) = IsKindOf StructRef kind
IsAnyOfKind kind (rooted_object.Array ty count) = IsKindOf ArrayRef kind
IsAnyOfKind kind rooted_object.Host = ⊥
IsAnyOfKind kind (rooted_object.Exn ty tag) = ⊥

-- what a root names is of a marker's class, and of its kind where the class has more than one
abbrev pub IsOfMark : GcClass → VMGcKind → RootedObject → Type 0
IsOfMark Any kind object = IsAnyOfKind kind object
IsOfMark Extern kind object = is_rooted_exception object ≡ false
IsOfMark Exn kind object = is_rooted_exception object ≡ true

-- a reference of the table is so
abbrev pub IsMarked : {D : Type 0} → GcClass → VMGcKind → Table D → Reference → Type 0
IsMarked class kind t r = (object : RootedObject) × (IsReference t r object × IsOfMark class kind object)

-- the handle is of a scoped root
abbrev pub is_scoped : RootSlot → Bool
is_scoped (slot.Scoped index) = true
is_scoped (slot.Owned id) = false

-- the same root is found exactly where it is a scoped one, whose reference is of the marker
abbrev pub FindsMarked : {D : Type 0} → GcClass → VMGcKind → Table D → Reference → GcRootIndex → Option GcRootIndex → Type 0
FindsMarked class kind t r index (Some found) = (found ≡ index) × ((is_scoped index.slot ≡ true) × IsMarked class kind t r)
FindsMarked class kind t r index None = ¬ ((is_scoped index.slot ≡ true) × IsMarked class kind t r)
