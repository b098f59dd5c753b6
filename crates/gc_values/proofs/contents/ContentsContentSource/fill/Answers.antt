use Rattle.std.proofs.Common.{sym, subst}
use Rattle.gc_values.specs.declared.request.Place.{Place}
use Rattle.gc_values.specs.declared.request.Place.TheVariants as place
use Rattle.gc_values.specs.declared.request.Contents.{Contents}
use Rattle.gc_values.specs.Filling.{FillsAs, FillsNew, front_of, ContentsFit, ContentsStand, asked_type}
use Rattle.gc_values.proofs.contents.ContentsContentSource.fill.Goals as goal
use Rattle.gc_values.specs.Interning.{ids_of}

pub returns-in-Each : goal.returns-in-Each
returns-in-Each g c =
    subst (λ (x : Contents). FillsAs g.H.GcHeap.KIND (front_of g.H.GcHeap.KIND c.args.request.now) c.args.owner.now.seen c.fill_each.new.owner.seen c.args.gc_ref.now (asked_type c.args.request.now) (ContentsFit (ids_of c.args.interned.now) c.args.request.now x) (ContentsStand (ids_of c.args.interned.now) x)) (sym c.in-Each.is)
    c.fill_each.ensures

pub returns-in-Array-request : goal.returns-in-Array-request
returns-in-Array-request g c =
    subst (λ (request : Place). FillsAs g.H.GcHeap.KIND (front_of g.H.GcHeap.KIND request) c.args.owner.now.seen c.write_bytes.new.owner.seen c.args.gc_ref.now (asked_type request) (ContentsFit (ids_of c.args.interned.now) request c.args.self.now) (ContentsStand (ids_of c.args.interned.now) c.args.self.now)) (sym c.in-Array-request.is)
    (subst (λ (x : Contents). FillsNew g.H.GcHeap.KIND c.args.owner.now.seen c.write_bytes.new.owner.seen c.args.gc_ref.now c.in-Array-request.index (ContentsFit (ids_of c.args.interned.now) (place.Array c.in-Array-request.index c.in-Array-request.field-1) x) (ContentsStand (ids_of c.args.interned.now) x)) (sym c.in-Bytes.is)
    c.write_bytes.ensures)
