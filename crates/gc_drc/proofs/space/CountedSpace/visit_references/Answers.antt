use Rattle.std.proofs.Common.{ℕ, List, ◌≡◌, Some, None, subst, sym, ◌∙◌, ap}
use Rattle.gc_types.specs.declared.layout.TraceInfo.TheVariants as trace
use Rattle.gc_drc.specs.CollectMemory.{Context, info_at}
use Rattle.gc_drc.specs.CollectVisits.{CanVisit}
use Rattle.gc_drc.proofs.VisitLemmas.{kind_part_same, object_room, struct_can, struct_visits, array_object_can, array_object_visits, none_visits}
use Rattle.gc_drc.proofs.space.CountedSpace.visit_references.Goals as goal

pub trace_info_of-requires-clause-room : goal.trace_info_of-requires-clause-room
trace_info_of-requires-clause-room g c =
    let can = c.requires in
    let law = g.met.V.Visitor.intact can.context can.places _ c.args.self.now c.args.visitor.now can.is in
    (object_room can.context c.args.self.now.memory c.args.place law.0 law.1 can.place_in).0

pub trace_info_of-requires-clause-kind : goal.trace_info_of-requires-clause-kind
trace_info_of-requires-clause-kind g c =
    let can = c.requires in
    let law = g.met.V.Visitor.intact can.context can.places _ c.args.self.now c.args.visitor.now can.is in
    kind_part_same can.context c.args.self.now.memory c.args.place law.0 law.1 can.place_in

pub visit_offsets-requires : goal.visit_offsets-requires
visit_offsets-requires g c =
    let st = λ (o : Context) (places words : List ℕ). g.V.Visitor.state o places c.args.self.now c.args.visitor.now words in
    let info : info_at c.args.types.now.declarations c.args.self.now.memory c.args.place ≡ Some (trace.Struct c.in-Some-Struct.gc_ref_offsets) =
    sym c.in-Some-Struct.ensures ∙ ap Some c.in-Some-Struct.field-0-is in
    subst (λ (xs : List ℕ). CanVisit st c.args.place xs) (sym c.as_slice.ensures)
    (struct_can st c.args.self.now.memory c.args.types.now.declarations c.args.place c.in-Some-Struct.gc_ref_offsets
    (λ o places words state. g.met.V.Visitor.intact o places words c.args.self.now c.args.visitor.now state) info c.requires)

pub returns-in-Some-Struct : goal.returns-in-Some-Struct
returns-in-Some-Struct g c =
    let st = λ (o : Context) (places words : List ℕ). g.V.Visitor.state o places c.args.self.now c.args.visitor.now words in
    let after = λ (o : Context) (places words : List ℕ). g.V.Visitor.state o places c.visit_offsets.new.self c.visit_offsets.new.visitor words in
    let info : info_at c.args.types.now.declarations c.args.self.now.memory c.args.place ≡ Some (trace.Struct c.as_slice.result.now) =
    sym c.in-Some-Struct.ensures ∙ ap Some c.in-Some-Struct.field-0-is ∙ ap (λ xs. Some (trace.Struct xs)) (sym c.as_slice.ensures) in
    struct_visits st after c.args.self.now.memory c.args.types.now.declarations c.args.place c.as_slice.result.now
    (λ o places words state. g.met.V.Visitor.intact o places words c.args.self.now c.args.visitor.now state) info c.visit_offsets.ensures

pub visit_array-requires : goal.visit_array-requires
visit_array-requires g c =
    let st = λ (o : Context) (places words : List ℕ). g.V.Visitor.state o places c.args.self.now c.args.visitor.now words in
    let info : info_at c.args.types.now.declarations c.args.self.now.memory c.args.place ≡ Some (trace.Array c.in-Some-Array.gc_ref_elems) =
    sym c.in-Some-Array.ensures ∙ ap Some c.in-Some-Array.field-0-is in
    array_object_can st c.args.self.now.memory c.args.types.now.declarations c.args.place c.in-Some-Array.gc_ref_elems
    (λ o places words state. g.met.V.Visitor.intact o places words c.args.self.now c.args.visitor.now state) info c.requires

pub returns-in-Some-Array : goal.returns-in-Some-Array
returns-in-Some-Array g c =
    let st = λ (o : Context) (places words : List ℕ). g.V.Visitor.state o places c.args.self.now c.args.visitor.now words in
    let after = λ (o : Context) (places words : List ℕ). g.V.Visitor.state o places c.visit_array.new.self c.visit_array.new.visitor words in
    let info : info_at c.args.types.now.declarations c.args.self.now.memory c.args.place ≡ Some (trace.Array c.in-Some-Array.gc_ref_elems) =
    sym c.in-Some-Array.ensures ∙ ap Some c.in-Some-Array.field-0-is in
    array_object_visits st after c.args.self.now.memory c.args.types.now.declarations c.args.place c.in-Some-Array.gc_ref_elems
    (λ o places words state. g.met.V.Visitor.intact o places words c.args.self.now c.args.visitor.now state) info c.visit_array.ensures

pub returns-in-None : goal.returns-in-None
returns-in-None g c =
    let st = λ (o : Context) (places words : List ℕ). g.V.Visitor.state o places c.args.self.now c.args.visitor.now words in
    let info : info_at c.args.types.now.declarations c.args.self.now.memory c.args.place ≡ None = sym c.in-None.ensures in
    none_visits st c.args.self.now.memory c.args.types.now.declarations c.args.place
    (λ o places words state. g.met.V.Visitor.intact o places words c.args.self.now c.args.visitor.now state) info
