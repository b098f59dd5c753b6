use Rattle.std.proofs.Common.{◌≡◌, ℕ, List, Some, sym, ap, ◌∙◌, subst}
use Rattle.std.specs.FinMap.{get}
use Rattle.gc_types.specs.Declarations.{Shape, shape_at}
use Rattle.gc_types.specs.declared.kind.VMGcKind.TheVariants.{ExnRef}
use Rattle.gc_view.specs.Heaps.{HeapObject}
use Rattle.gc_owner.specs.Owners.{OwnerView}
use Rattle.gc_values.specs.declared.request.Place.{Place}
use Rattle.gc_values.specs.Filling.{EachFits, EachStands, IsToFill, RewritesTo, FillsBy, FillsAs, IsOfAskedKind, front_of, asked_type}
use Rattle.gc_values.specs.Tagging.{IsTagged}
use Rattle.gc_values.proofs.AskedKinds.{exn_has_none}
use Rattle.gc_values.proofs.TagLemmas.{to_tag, to_fill_tagged, filled_tagged}
use Rattle.gc_values.proofs.fill.fill_each.Given as given
use Rattle.gc_values.proofs.fill.fill_each.Goals as goal
use Rattle.gc_values.specs.Interning.{ids_of}
use Rattle.gc_values.proofs.fill.fill_each.Goals.{After-write_tag}

pub returns-in-Struct : goal.returns-in-Struct
returns-in-Struct g c =
    subst (λ (request : Place). FillsAs g.H.GcHeap.KIND (front_of g.H.GcHeap.KIND request) c.args.owner.now.seen c.write_each_field.new.owner.seen c.args.gc_ref.now (asked_type request) (EachFits (ids_of c.args.interned.now) (g.V.ValueSource.given c.args.values.now)) (EachStands (ids_of c.args.interned.now) (g.V.ValueSource.given c.args.values.now))) (sym c.in-Struct.is)
    c.write_each_field.ensures

pub returns-in-Array : goal.returns-in-Array
returns-in-Array g c =
    subst (λ (request : Place). FillsAs g.H.GcHeap.KIND (front_of g.H.GcHeap.KIND request) c.args.owner.now.seen c.write_each_element.new.owner.seen c.args.gc_ref.now (asked_type request) (EachFits (ids_of c.args.interned.now) (g.V.ValueSource.given c.args.values.now)) (EachStands (ids_of c.args.interned.now) (g.V.ValueSource.given c.args.values.now))) (sym c.in-Array.is)
    c.write_each_element.ensures

-- an exception that is requested with these values
asked : (g : given.Over) (c : After-write_tag g) (object : HeapObject) (shape : Shape) (count : ℕ) → IsToFill g.H.GcHeap.KIND c.args.owner.now.seen c.args.gc_ref.now (asked_type c.args.request.now) (EachFits (ids_of c.args.interned.now) (g.V.ValueSource.given c.args.values.now)) object shape count
    → IsToFill g.H.GcHeap.KIND c.args.owner.now.seen c.args.gc_ref.now c.in-Exn.index (EachFits (ids_of c.args.interned.now) (g.V.ValueSource.given c.args.values.now)) object shape count
asked g c object shape count f =
    subst (λ (request : Place). IsToFill g.H.GcHeap.KIND c.args.owner.now.seen c.args.gc_ref.now (asked_type request) (EachFits (ids_of c.args.interned.now) (g.V.ValueSource.given c.args.values.now)) object shape count) c.in-Exn.is f

is_exception : (g : given.Over) (c : After-write_tag g) (object : HeapObject) → get c.args.owner.now.seen.heap.content c.args.gc_ref.now ≡ Some object → object.kind ≡ ExnRef
is_exception g c = subst (λ (request : Place). IsOfAskedKind request c.args.owner.now.seen.heap c.args.gc_ref.now) c.in-Exn.is c.requires.kind

-- what has its tag
tagged : (g : given.Over) (c : After-write_tag g) (object : HeapObject) (shape : Shape) (count : ℕ) → IsToFill g.H.GcHeap.KIND c.args.owner.now.seen c.args.gc_ref.now (asked_type c.args.request.now) (EachFits (ids_of c.args.interned.now) (g.V.ValueSource.given c.args.values.now)) object shape count
    → (bytes : List ℕ) × RewritesTo (IsTagged c.in-Exn.tag) c.args.owner.now.seen c.write_tag.new.owner.seen c.args.gc_ref.now object bytes
tagged g c object shape count f =
    c.write_tag.ensures
    (to_tag g.H.GcHeap.KIND c.args.owner.now.seen c.args.gc_ref.now c.in-Exn.index (ids_of c.args.interned.now) (g.V.ValueSource.given c.args.values.now) object shape count (asked g c object shape count f) (is_exception g c object f.is.held))

pub write_each_field-requires-in-Exn-clause-idle : goal.write_each_field-requires-in-Exn-clause-idle
write_each_field-requires-in-Exn-clause-idle g c =
    let at = (goal.at.write_each_field-requires-in-Exn-clause-idle g c).After-write_tag in
    let can = c.requires.can in
    ap (λ (v : OwnerView g.row.D.Denot). v.idle) (tagged g at can.object can.shape can.count can.to_fill).1.rest ∙ c.requires.idle

pub write_each_field-requires-in-Exn-clause-listed : goal.write_each_field-requires-in-Exn-clause-listed
write_each_field-requires-in-Exn-clause-listed g c =
    let at = (goal.at.write_each_field-requires-in-Exn-clause-listed g c).After-write_tag in
    let can = c.requires.can in
    ap (λ (v : OwnerView g.row.D.Denot). shape_at v.types.declarations c.in-Exn.index) (tagged g at can.object can.shape can.count can.to_fill).1.rest
    ∙ sym (ap (λ (request : Place). shape_at c.args.owner.now.seen.types.declarations (asked_type request)) c.in-Exn.is)
    ∙ c.requires.listed

pub write_each_field-requires-in-Exn-clause-no_array : goal.write_each_field-requires-in-Exn-clause-no_array
write_each_field-requires-in-Exn-clause-no_array g c =
    exn_has_none c.requires.can c.args.shape.now c.requires.listed c.in-Exn.index c.in-Exn.tag (subst (λ (request : Place). IsOfAskedKind request c.args.owner.now.seen.heap c.args.gc_ref.now) c.in-Exn.is c.requires.kind)

pub write_each_field-requires-in-Exn-clause-can : goal.write_each_field-requires-in-Exn-clause-can
write_each_field-requires-in-Exn-clause-can g c =
    let at = (goal.at.write_each_field-requires-in-Exn-clause-can g c).After-write_tag in
    let can = c.requires.can in
    let did = tagged g at can.object can.shape can.count can.to_fill in
    record {
      object = record can.object { bytes = did.0 };
      shape = can.shape;
      count = can.count;
      to_fill = to_fill_tagged g.H.GcHeap.KIND c.args.owner.now.seen c.args.gc_ref.now c.in-Exn.index (ids_of c.args.interned.now) (g.V.ValueSource.given c.args.values.now) can.object can.shape can.count (asked g at can.object can.shape can.count can.to_fill)
          (is_exception g at can.object can.to_fill.is.held) c.in-Exn.tag c.write_tag.new.owner.seen did.0 did.1;
    }

pub returns-in-Exn : goal.returns-in-Exn
returns-in-Exn g c = λ object shape count f.
    let at = (goal.at.returns-in-Exn g c).After-write_tag in
    let to_fill = asked g at object shape count f in
    let kind = is_exception g at object f.is.held in
    let did = tagged g at object shape count f in
    subst (λ (request : Place). FillsBy g.H.GcHeap.KIND (front_of g.H.GcHeap.KIND request shape) (EachStands (ids_of c.args.interned.now) (g.V.ValueSource.given c.args.values.now)) c.args.owner.now.seen c.write_each_field-in-Exn.new.owner.seen c.args.gc_ref.now object shape count) (sym c.in-Exn.is)
    (filled_tagged g.H.GcHeap.KIND c.args.owner.now.seen c.args.gc_ref.now c.in-Exn.index (ids_of c.args.interned.now) (g.V.ValueSource.given c.args.values.now) object shape count to_fill kind c.in-Exn.tag c.write_tag.new.owner.seen did.0 did.1 c.write_each_field-in-Exn.new.owner.seen
    (c.write_each_field-in-Exn.ensures (record object { bytes = did.0 }) shape count
    (to_fill_tagged g.H.GcHeap.KIND c.args.owner.now.seen c.args.gc_ref.now c.in-Exn.index (ids_of c.args.interned.now) (g.V.ValueSource.given c.args.values.now) object shape count to_fill kind c.in-Exn.tag c.write_tag.new.owner.seen did.0 did.1)))
