use Rattle.std.proofs.Common.{ap, add-one, arith, refl, subst, sym, ◌≡◌, ◌∙◌, ◌+◌, ◌%◌, pos}
use Rattle.gc_store.specs.Stores.{IsSameStore}
use Rattle.gcsh_reports.specs.Seeds.{next_seed, seed_of}
use Rattle.gcsh_reports.specs.Filling.{FillsUpTo, key_count, progress_of}
use Rattle.gcsh_reports.proofs.FillLemmas.{fills_more, fills_none, goes_under, held_under, passed_on}
use Rattle.gcsh_reports.proofs.fill.fill.Goals as goal

pub loop-number-init : goal.loop-number-init
loop-number-init g c = record {
  same = record { engine = refl; number = refl; counter = refl };
  limit = refl;
  few = omega arith;
  seeds = refl;
  fills = fills_none g.H.GcHeap.KIND (g.L.ResourceLimiter.limits c.args.limiter.now) c.args.kit.now c.args.inserts c.args.store.now _ c.empty.ensures refl c.requires.held;
}

pub loop-number-preserved : goal.loop-number-preserved
loop-number-preserved g c =
    let before = c.loop-number.invariant in
    let few = c.in_ok-filled.ensures.few in
    let few_before = before.few in
    let same : IsSameStore c.args.store.now c.insert.new.store = search in
    record {
      same = same;
      limit = c.insert.ensures.limit ∙ before.limit;
      few = omega (arith, few, few_before);
      seeds = c.next_seed-seed.ensures ∙ ap next_seed before.seeds ∙ ap (seed_of c.args.inserts) (sym (add-one c.loop-number.number));
      fills = fills_more g.H.GcHeap.KIND (g.L.ResourceLimiter.limits c.args.limiter.now) c.args.kit.now c.args.inserts c.args.store.now c.loop-number.number c.loop-number.store c.insert.new.store (g.L.ResourceLimiter.limits c.loop-number.limiter) (g.L.ResourceLimiter.limits c.insert.new.limiter) c.loop-number.filled c.in_ok-filled.filled _ _
          (passed_on c.from-key.result (c.next_seed-seed.result % 1000) c.from-key.ensures (omega arith) ∙ ap (λ n. pos (n % key_count)) (c.next_seed-seed.ensures ∙ ap next_seed before.seeds))
          (passed_on c.from.result (c.loop-number.number + 1) c.from.ensures (let below = c.loop-number-test.true in let most = c.requires.few in omega (arith, below, most)) ∙ ap pos (add-one c.loop-number.number)) before.fills
          (goes_under g.H.GcHeap.KIND c.args.kit.now (progress_of c.loop-number.store (g.L.ResourceLimiter.limits c.loop-number.limiter) c.loop-number.filled before.fills.entries) c.insert.new.store (g.L.ResourceLimiter.limits c.insert.new.limiter) c.in_ok-filled.filled _ _ before.limit (c.in_ok-filled.ensures.goes before.fills.entries (held_under g.H.GcHeap.KIND c.args.kit.now (progress_of c.loop-number.store (g.L.ResourceLimiter.limits c.loop-number.limiter) c.loop-number.filled before.fills.entries) (g.L.ResourceLimiter.limits c.args.limiter.now).limit (g.L.ResourceLimiter.limits c.loop-number.limiter).limit before.limit before.fills.held)));
    }

pub returns-clause-fills : goal.returns-clause-fills
returns-clause-fills g c =
    let end : c.loop-number.number ≡ c.args.inserts = (let below = c.loop-number.auto.number-end in let past = c.loop-number-test.false in omega (arith, below, past)) in
    subst (λ n. FillsUpTo g.H.GcHeap.KIND (g.L.ResourceLimiter.limits c.args.limiter.now) c.args.kit.now c.args.inserts c.args.store.now n c.loop-number.store (g.L.ResourceLimiter.limits c.loop-number.limiter) c.loop-number.filled) end c.loop-number.invariant.fills

pub insert-requires-clause-held : goal.insert-requires-clause-held
insert-requires-clause-held g c =
    let before = c.loop-number.invariant in (
      before.fills.entries,
      held_under g.H.GcHeap.KIND c.args.kit.now (progress_of c.loop-number.store (g.L.ResourceLimiter.limits c.loop-number.limiter) c.loop-number.filled before.fills.entries) (g.L.ResourceLimiter.limits c.args.limiter.now).limit (g.L.ResourceLimiter.limits c.loop-number.limiter).limit before.limit before.fills.held,
    )
