use Rattle.std.proofs.Common.{refl, ◌∙◌, arith}
use Rattle.gc_copying.proofs.SweepLemmas.{swept_to_start, swept_next, swept_less, swept_can, sweeps}
use Rattle.gc_copying.proofs.space.Space.sweep.Goals as goal

pub loop-place-init : goal.loop-place-init
loop-place-init g c = record {
  along = λ s mid is. swept_to_start s _ c.args.self.now mid c.args.first c.args.hosts.now.entries is c.requires.none_listed;
  counts = record { upper = refl; bump = refl; objects = refl };
  spare = omega arith;
}

pub read_u32-next-requires : goal.read_u32-next-requires
read_u32-next-requires g c =
    let to = c.loop-place.invariant.along c.requires.start c.requires.mid c.requires.first_is in
    omega (arith, (swept_can c.requires.start _ c.args.self.now c.loop-place.self c.requires.mid c.loop-place.place c.args.hosts.now.entries c.loop-place.hosts.entries to c.loop-place-test.true).source)

pub sweep_one-requires : goal.sweep_one-requires
sweep_one-requires g c =
    let to = c.loop-place.invariant.along c.requires.start c.requires.mid c.requires.first_is in
    swept_can c.requires.start _ c.args.self.now c.loop-place.self c.requires.mid c.loop-place.place c.args.hosts.now.entries c.loop-place.hosts.entries to c.loop-place-test.true

pub loop-place-smaller : goal.loop-place-smaller
loop-place-smaller g c =
    let to = c.loop-place.invariant.along c.requires.start c.requires.mid c.requires.first_is in
    swept_less c.requires.start _ c.args.self.now c.loop-place.self c.sweep_one.new.self c.requires.mid c.loop-place.place c.read_u32-next.result c.args.hosts.now.entries
    c.loop-place.hosts.entries c.sweep_one.new.hosts.entries to c.loop-place-test.true c.read_u32-next.ensures c.sweep_one.ensures.listed c.sweep_one.ensures.freed

pub loop-place-preserved : goal.loop-place-preserved
loop-place-preserved g c = record {
  along = λ s mid is.
      swept_next s _ c.args.self.now c.loop-place.self c.sweep_one.new.self mid c.loop-place.place c.read_u32-next.result c.args.hosts.now.entries
      c.loop-place.hosts.entries c.sweep_one.new.hosts.entries (c.loop-place.invariant.along s mid is) c.loop-place-test.true c.read_u32-next.ensures c.sweep_one.ensures.listed c.sweep_one.ensures.freed;
  counts = record {
    upper = c.sweep_one.ensures.counts.upper ∙ c.loop-place.invariant.counts.upper;
    bump = c.sweep_one.ensures.counts.bump ∙ c.loop-place.invariant.counts.bump;
    objects = c.sweep_one.ensures.counts.objects ∙ c.loop-place.invariant.counts.objects;
  };
  spare = omega (arith, c.sweep_one.ensures.spare, c.loop-place.invariant.spare);
}

pub returns-clause-swept : goal.returns-clause-swept
returns-clause-swept g c s mid is =
    let to = c.loop-place.invariant.along s mid is in
    sweeps s _ c.args.self.now c.loop-place.self c.loop-place.place c.args.hosts.now.entries c.loop-place.hosts.entries to.gone mid to.swept c.loop-place-test.false to.hosts
