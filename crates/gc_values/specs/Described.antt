-- What the objects of a heap are.
use Rattle.std.specs.Prelude.{◌≡◌, ℕ, Some}
use Rattle.std.specs.FinMap as finite
use Rattle.gc_types.specs.declared.kind.VMGcKind.{VMGcKind}
use Rattle.gc_types.specs.declared.kind.VMGcKind.TheVariants.{AnyRef, EqRef, StructRef, ArrayRef, ExnRef, ExternRef}
use Rattle.gc_types.specs.declared.value.Tag.{Tag}
use Rattle.gc_view.specs.Bytes.{u32_at}
use Rattle.gc_view.specs.Heaps.{HeapObject, HeapView}
use Rattle.gc_heap.specs.Extents.{array_length}
use Rattle.gc_values.specs.declared.root.RootedObject.{RootedObject}
use Rattle.gc_values.specs.declared.root.RootedObject.TheVariants as rooted_object

-- the tag of an exception, which stands in front of its fields
abbrev pub tag_of : HeapObject → Tag
tag_of o = record { instance = u32_at o.bytes 0; index = u32_at o.bytes 4 }

-- what an object of that kind is
abbrev pub IsOfKindAs : VMGcKind → HeapObject → RootedObject → Type 0
IsOfKindAs StructRef o answer = answer ≡ rooted_object.Struct o.ty
IsOfKindAs ArrayRef o answer = answer ≡ rooted_object.Array o.ty (array_length o)
IsOfKindAs ExnRef o answer = answer ≡ rooted_object.Exn o.ty (tag_of o)
IsOfKindAs ExternRef o answer = answer ≡ rooted_object.Host
IsOfKindAs AnyRef o answer = ⊥
IsOfKindAs EqRef o answer = ⊥

-- what a heap's object at a place is
abbrev pub TellsHeld : HeapView → ℕ → RootedObject → Type 0
TellsHeld h place answer = (o : HeapObject) → finite.get h.content place ≡ Some o → IsOfKindAs o.kind o answer
