use Rattle.std.proofs.Common.{◌≡◌, Some, refl, sym, ap, ◌∙◌, subst}
use Rattle.std.specs.FinMap as finite
use Rattle.gc_types.specs.declared.kind.VMGcKind.{VMGcKind}
use Rattle.gc_view.specs.Heaps.{HeapObject}
use Rattle.gc_heap.specs.Extents.{IsObjectKind}
use Rattle.gc_types.proofs.KindLemmas.{same_kind}
use Rattle.gc_values.specs.declared.root.RootedObject.TheVariants as rooted_object
use Rattle.gc_values.specs.Described.{IsOfKindAs}
use Rattle.gc_values.proofs.describe.describe_held.Given.{Over}
use Rattle.gc_values.proofs.describe.describe_held.Goals.{After-kind_of}
use Rattle.gc_values.proofs.describe.describe_held.Goals as goal

pub kind_of-requires : goal.kind_of-requires
kind_of-requires g c = let o = c.requires.held.0 in (o.kind, sym (c.header_of-header.ensures o c.requires.held.1).kind)

-- the kind is that of the object
kind_is : (g : Over) (c : After-kind_of g) (o : HeapObject) → finite.get (g.H.GcHeap.seen c.args.heap.now).content c.args.gc_ref.now ≡ Some o → o.kind ≡ c.kind_of.result
kind_is g c o held = sym (same_kind c.kind_of.result o.kind (c.kind_of.ensures ∙ (c.header_of-header.ensures o held).kind))

type_is : (g : Over) (c : After-kind_of g) (o : HeapObject) → finite.get (g.H.GcHeap.seen c.args.heap.now).content c.args.gc_ref.now ≡ Some o → c.type_index-ty.result ≡ o.ty
type_is g c o held = c.type_index-ty.ensures ∙ (c.header_of-header.ensures o held).ty

-- objects are of four kinds
object_kind : (g : Over) (c : After-kind_of g) → IsObjectKind c.kind_of.result
object_kind g c =
    let o = c.requires.held.0 in
    subst IsObjectKind (kind_is g c o c.requires.held.1) ((g.met.H.GcHeap.is_heap c.args.heap.now c.requires.sound).objects c.args.gc_ref.now o c.requires.held.1).kind

pub length_of-requires-clause-held : goal.length_of-requires-clause-held
length_of-requires-clause-held g c =
    let at = (goal.at.length_of-requires-clause-held g c).After-kind_of in
    (c.requires.held.0, (c.requires.held.1, kind_is g at c.requires.held.0 c.requires.held.1 ∙ c.in-ArrayRef.is))

pub tag_of-requires-clause-held : goal.tag_of-requires-clause-held
tag_of-requires-clause-held g c =
    let at = (goal.at.tag_of-requires-clause-held g c).After-kind_of in
    (c.requires.held.0, (c.requires.held.1, kind_is g at c.requires.held.0 c.requires.held.1 ∙ c.in-ExnRef.is))

pub unreachable-requires : goal.unreachable-requires
unreachable-requires g c = subst IsObjectKind c.in-AnyRef.is (object_kind g (goal.at.unreachable-requires g c).After-kind_of)

pub unreachable-requires-in-EqRef : goal.unreachable-requires-in-EqRef
unreachable-requires-in-EqRef g c = subst IsObjectKind c.in-EqRef.is (object_kind g (goal.at.unreachable-requires-in-EqRef g c).After-kind_of)

pub returns-in-StructRef : goal.returns-in-StructRef
returns-in-StructRef g c = λ o held.
    let at = (goal.at.returns-in-StructRef g c).After-kind_of in
    subst (λ (k : VMGcKind). IsOfKindAs k o (rooted_object.Struct c.type_index-ty.result)) (sym (kind_is g at o held ∙ c.in-StructRef.is)) (ap rooted_object.Struct (type_is g at o held))

pub returns-in-ArrayRef : goal.returns-in-ArrayRef
returns-in-ArrayRef g c = λ o held.
    let at = (goal.at.returns-in-ArrayRef g c).After-kind_of in
    let ty = type_is g at o held in
    let count = c.length_of.ensures o held in
    subst (λ (k : VMGcKind). IsOfKindAs k o (rooted_object.Array c.type_index-ty.result c.length_of.result)) (sym (kind_is g at o held ∙ c.in-ArrayRef.is)) (λ i. rooted_object.Array (ty i) (count i))

pub returns-in-ExnRef : goal.returns-in-ExnRef
returns-in-ExnRef g c = λ o held.
    let at = (goal.at.returns-in-ExnRef g c).After-kind_of in
    let ty = type_is g at o held in
    let tag = c.tag_of.ensures o held in
    subst (λ (k : VMGcKind). IsOfKindAs k o (rooted_object.Exn c.type_index-ty.result c.tag_of.result)) (sym (kind_is g at o held ∙ c.in-ExnRef.is)) (λ i. rooted_object.Exn (ty i) (tag i))

pub returns-in-ExternRef : goal.returns-in-ExternRef
returns-in-ExternRef g c = λ o held.
    let at = (goal.at.returns-in-ExternRef g c).After-kind_of in
    subst (λ (k : VMGcKind). IsOfKindAs k o rooted_object.Host) (sym (kind_is g at o held ∙ c.in-ExternRef.is)) refl
