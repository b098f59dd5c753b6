use Rattle.std.proofs.Common.{Err, refl, arith}
use Rattle.gc_objects.proofs.ValueGiving.{gives_none, can_read, gives_first, still_ready, never_refused}
use Rattle.gc_objects.proofs.values.ValuesIterator.next.Goals as goal

pub returns-then-self-clause-steps : goal.returns-then-self-clause-steps
returns-then-self-clause-steps g c = (
  record {
    first = gives_none g.H.GcHeap.KIND c.args.self.now.store.now c.args.self.now.root c.args.self.now.next c.args.self.now.len c.if-self.true;
    kind = tt;
    ready = c.requires;
    same = record { engine = refl; number = refl; counter = refl };
    spare = omega (arith);
  },
  refl,
)

pub read-requires : goal.read-requires
read-requires g c = can_read g.H.GcHeap.KIND c.args.self.now.store.now c.args.self.now.root c.args.self.now.next c.args.self.now.len c.if-self.false c.requires

pub unreachable-requires : goal.unreachable-requires
unreachable-requires g c =
    never_refused g.H.GcHeap.KIND c.args.self.now.store.now c.args.self.now.root c.args.self.now.next c.args.self.now.len c.if-self.false c.read.new.store c.in-Err.field-0 c.in-Err.ensures.reads
    (λ some is. c.in-Err.ensures.reserved some (λ i. Err (is i))) c.requires

pub returns-clause-steps : goal.returns-clause-steps
returns-clause-steps g c = (
  record {
    first = gives_first g.H.GcHeap.KIND c.args.self.now.store.now c.args.self.now.root c.args.self.now.next c.args.self.now.len c.if-self.false c.read.new.store c.in-Ok.ensures.same c.in-Ok.value c.in-Ok.ensures.reads;
    kind = c.in-Ok.ensures.kind;
    ready = still_ready g.H.GcHeap.KIND c.args.self.now.store.now c.args.self.now.root c.args.self.now.next c.args.self.now.len c.if-self.false c.read.new.store c.in-Ok.ensures.same c.in-Ok.value c.in-Ok.ensures.reads c.in-Ok.ensures.spare c.requires;
    same = c.in-Ok.ensures.same;
    spare = c.in-Ok.ensures.spare;
  },
  refl,
)

pub returns-clause-goes : goal.returns-clause-goes
returns-clause-goes g c =
    let ready = still_ready g.H.GcHeap.KIND c.args.self.now.store.now c.args.self.now.root c.args.self.now.next c.args.self.now.len c.if-self.false c.read.new.store c.in-Ok.ensures.same c.in-Ok.value c.in-Ok.ensures.reads c.in-Ok.ensures.spare c.requires in
    record { on = λ finite. (ready, tt, omega (arith, c.if-self.false)); keeps = ready; rests = λ finite. tt }
