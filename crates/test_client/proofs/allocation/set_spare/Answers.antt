use Rattle.std.proofs.Common.{◌<◌, ◌∙◌, ◌%◌, sym, subst, arith}
use Rattle.std.proofs.lemmas.Bool.Decides.{nat_tests}
use Rattle.gc_refs.specs.Header.{Header, spare_bits}
use Rattle.gc_refs.proofs.RoundTrips.{kind_stays}
use Rattle.gc_heap.specs.Heap.{IsSameHeader, with_spare_of}
use Rattle.gc_heap.specs.Objects.{IsHeaderOf}
use Rattle.test_client.specs.Made.{StaysOpen}
use Rattle.test_client.proofs.StayLemmas.{put_stays}
use Rattle.test_client.proofs.allocation.set_spare.Goals as goal
use Rattle.test_client.proofs.allocation.set_spare.Goals.{After-set_header}

pub set_header-requires-clause-same : goal.set_header-requires-clause-same
set_header-requires-clause-same g c = λ o is.
    let small : c.args.spare < spare_bits = grind (arith, nat_tests, c.if-spare-ge-SPARE.false) in
    let told : IsHeaderOf g.H.GcHeap.KIND o c.in-Ok.header = c.in-Ok.ensures.held o is in
    subst (λ (h : Header). IsSameHeader o h) (sym c.set_reserved_u26.ensures) (record { kind = kind_stays c.in-Ok.header c.args.spare small ∙ told.kind; ty = told.ty })

stays : (g : _) (c : After-set_header g) → StaysOpen (g.H.GcHeap.seen c.args.heap.now) (g.H.GcHeap.seen c.set_header.new.self)
stays g c =
    let o = c.requires.held.0 in
    put_stays (g.H.GcHeap.seen c.args.heap.now) (g.H.GcHeap.seen c.set_header.new.self) c.args.object.now (with_spare_of g.H.GcHeap.KIND o (c.set_reserved_u26.new.self.kind_word % spare_bits)) (c.set_header.ensures.held o c.requires.held.1).1

pub returns-in-Ok-header-clause-stays : goal.returns-in-Ok-header-clause-stays
returns-in-Ok-header-clause-stays g c = stays g (goal.at.returns-in-Ok-header-clause-stays g c).After-set_header

pub returns-in-Err-header-clause-stays : goal.returns-in-Err-header-clause-stays
returns-in-Err-header-clause-stays g c = stays g (goal.at.returns-in-Err-header-clause-stays g c).After-set_header

pub returns-in-Err-set_header-clause-stays : goal.returns-in-Err-set_header-clause-stays
returns-in-Err-set_header-clause-stays g c = stays g (goal.at.returns-in-Err-set_header-clause-stays g c).After-set_header
