use Rattle.std.proofs.Common.{◌≡◌, ℕ, ◌+◌, ◌++◌, [], ◌∷◌, List, Err, take, drop, sym, ap, subst, arith}
use Rattle.std.proofs.lemmas.List.{take_all}
use Rattle.gc_model.specs.SideValues.{SideValues, same_cont}
use Rattle.gc_model.proofs.Interned.{conts_exact}
use Rattle.gc_values.specs.Interning.{CountsNew}
use Rattle.gc_values.specs.RawValues.{raw_conts}
use Rattle.gc_values.proofs.GivenValues.{raw-more, raw-split}
use Rattle.gc_values.proofs.InterningLemmas.{AreNew, new_none, new_more, new_counted, new_refused}
use Rattle.gc_values.proofs.interned.count_new_conts.Goals as goal

pub loop-value-init : goal.loop-value-init
loop-value-init c = new_none same_cont conts_exact c.args.conts.now.entries c.new-new.result.entries c.new-new.ensures

pub returns-in-Err-clause-counts : goal.returns-in-Err-clause-counts
returns-in-Err-clause-counts c =
    let fs : List ℕ = raw_conts (take c.loop-value.value-index c.args.values.now) in
    let gs : List ℕ = raw_conts (c.value-item.result ∷ []) in
    let hs : List ℕ = raw_conts (drop (c.loop-value.value-index + 1) c.args.values.now) in
    let split : raw_conts c.args.values.now ≡ fs ++ (gs ++ hs) = ap (λ (s : SideValues). s.conts) (raw-split c.args.values.now c.loop-value.value-index c.value-item.result c.loop-value-test.true c.value-item.is) in
    subst (λ (ks : List ℕ). CountsNew same_cont c.args.conts.now.entries ks (Err c.in-Err.fault)) (sym split)
    (new_refused same_cont conts_exact c.args.conts.now.entries c.loop-value.new.entries c.add_new_cont.new.new.entries fs gs hs c.in-Err.fault c.loop-value.invariant c.in-Err.ensures)

pub loop-value-preserved : goal.loop-value-preserved
loop-value-preserved c =
    let fs : List ℕ = raw_conts (take c.loop-value.value-index c.args.values.now) in
    let gs : List ℕ = raw_conts (c.value-item.result ∷ []) in
    let more : raw_conts (take (c.loop-value.value-index + 1) c.args.values.now) ≡ fs ++ gs = ap (λ (s : SideValues). s.conts) (raw-more c.args.values.now c.loop-value.value-index c.value-item.result c.loop-value-test.true c.value-item.is) in
    subst (AreNew same_cont conts_exact c.args.conts.now.entries c.add_new_cont.new.new.entries) (sym more)
    (new_more same_cont conts_exact c.args.conts.now.entries c.loop-value.new.entries c.add_new_cont.new.new.entries fs gs c.loop-value.invariant c.in-Ok.ensures)

pub returns-clause-counts : goal.returns-clause-counts
returns-clause-counts c =
    let all : take c.loop-value.value-index c.args.values.now ≡ c.args.values.now = take_all c.loop-value.value-index c.args.values.now (omega (arith, c.loop-value-test.false)) in
    new_counted same_cont conts_exact c.args.conts.now.entries c.loop-value.new (raw_conts c.args.values.now) c.len.result
    (subst (λ vs. AreNew same_cont conts_exact c.args.conts.now.entries c.loop-value.new.entries (raw_conts vs)) all c.loop-value.invariant) c.len.ensures.value
