use Rattle.std.proofs.Common.{◌≡◌, ◌+◌, ◌++◌, [], ◌∷◌, List, Option, Err, take, drop, sym, ap, subst, arith}
use Rattle.std.proofs.lemmas.List.{take_all}
use Rattle.gc_model.specs.SideValues.{SideValues, same_function}
use Rattle.gc_model.proofs.Interned.{functions_exact}
use Rattle.gc_types.specs.declared.value.Func.{Func}
use Rattle.gc_values.specs.Interning.{CountsNew}
use Rattle.gc_values.specs.RawValues.{raw_functions}
use Rattle.gc_values.proofs.GivenValues.{raw-more, raw-split}
use Rattle.gc_values.proofs.InterningLemmas.{AreNew, new_none, new_more, new_counted, new_refused}
use Rattle.gc_values.proofs.interned.count_new_functions.Goals as goal

pub loop-value-init : goal.loop-value-init
loop-value-init c = new_none same_function functions_exact c.args.functions.now.entries c.new-new.result.entries c.new-new.ensures

pub returns-in-Err-clause-counts : goal.returns-in-Err-clause-counts
returns-in-Err-clause-counts c =
    let fs : List (Option Func) = raw_functions (take c.loop-value.value-index c.args.values.now) in
    let gs : List (Option Func) = raw_functions (c.value-item.result ∷ []) in
    let hs : List (Option Func) = raw_functions (drop (c.loop-value.value-index + 1) c.args.values.now) in
    let split : raw_functions c.args.values.now ≡ fs ++ (gs ++ hs) = ap (λ (s : SideValues). s.funcs) (raw-split c.args.values.now c.loop-value.value-index c.value-item.result c.loop-value-test.true c.value-item.is) in
    subst (λ (ks : List (Option Func)). CountsNew same_function c.args.functions.now.entries ks (Err c.in-Err.fault)) (sym split)
    (new_refused same_function functions_exact c.args.functions.now.entries c.loop-value.new.entries c.add_new_function.new.new.entries fs gs hs c.in-Err.fault c.loop-value.invariant c.in-Err.ensures)

pub loop-value-preserved : goal.loop-value-preserved
loop-value-preserved c =
    let fs : List (Option Func) = raw_functions (take c.loop-value.value-index c.args.values.now) in
    let gs : List (Option Func) = raw_functions (c.value-item.result ∷ []) in
    let more : raw_functions (take (c.loop-value.value-index + 1) c.args.values.now) ≡ fs ++ gs = ap (λ (s : SideValues). s.funcs) (raw-more c.args.values.now c.loop-value.value-index c.value-item.result c.loop-value-test.true c.value-item.is) in
    subst (AreNew same_function functions_exact c.args.functions.now.entries c.add_new_function.new.new.entries) (sym more)
    (new_more same_function functions_exact c.args.functions.now.entries c.loop-value.new.entries c.add_new_function.new.new.entries fs gs c.loop-value.invariant c.in-Ok.ensures)

pub returns-clause-counts : goal.returns-clause-counts
returns-clause-counts c =
    let all : take c.loop-value.value-index c.args.values.now ≡ c.args.values.now = take_all c.loop-value.value-index c.args.values.now (omega (arith, c.loop-value-test.false)) in
    new_counted same_function functions_exact c.args.functions.now.entries c.loop-value.new (raw_functions c.args.values.now) c.len.result
    (subst (λ vs. AreNew same_function functions_exact c.args.functions.now.entries c.loop-value.new.entries (raw_functions vs)) all c.loop-value.invariant) c.len.ensures.value
