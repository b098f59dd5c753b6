use Rattle.std.proofs.Common.{rules, ◌≡◌, Some, Ok, Err, [], ◌∷◌, ◌-◌, refl, sym, ap, subst}
use Rattle.gc_tables.specs.declared.interner.InternFault.{InternFault}
use Rattle.gc_model.specs.SideValues.{same_cont, same_function}
use Rattle.gc_model.proofs.Interned.{conts_exact, functions_exact}
use Rattle.gc_values.specs.declared.root.RawValue.{RawValue}
use Rattle.gc_values.specs.declared.root.RawValue.TheVariants as raw
use Rattle.gc_values.specs.declared.faults.WriteFault.TheVariants as fault
use Rattle.gc_values.specs.Interning.{InternsGiven, ids_of}
use Rattle.gc_values.specs.RawValues.{raw_side_values}
use Rattle.gc_values.proofs.InterningLemmas.{cont_missing, interns_none, interns_one, one_fits, one_past}
use Rattle.gc_values.proofs.interned.intern_given.Goals as goal

pub returns-in-Ok-clause-interns : goal.returns-in-Ok-clause-interns
returns-in-Ok-clause-interns c =
    let t = c.args.interned.now in
    subst (λ (v : RawValue). InternsGiven (ids_of t) (ids_of (record t { functions = c.intern.new.self })) (raw_side_values (v ∷ [])) (Ok tt)) (sym c.in-Func.is) (
      record {
        functions = interns_one same_function functions_exact t.functions c.intern.new.self c.in-Func.func c.in-Ok.field-0 c.in-Ok.ensures.ok (λ full absent. cc (c.in-Ok.ensures.full.1 (full, absent)));
        conts = interns_none same_cont conts_exact t.conts.entries;
      },
      record {
        functions = λ known by. one_fits same_function functions_exact t.functions known by c.in-Func.func (λ full absent. cc (c.in-Ok.ensures.full.1 (full, absent)));
        conts = λ known by. by.few;
      },
    )

pub returns-in-Err-Full-clause-interns : goal.returns-in-Err-Full-clause-interns
returns-in-Err-Full-clause-interns c =
    let t = c.args.interned.now in
    subst (λ (v : RawValue). InternsGiven (ids_of t) (ids_of (record t { functions = c.intern.new.self })) (raw_side_values (v ∷ [])) (Err fault.FuncTableFull)) (sym c.in-Func.is) (
      ap (λ entries. record { funcs = entries; conts = t.conts.entries }) c.in-Err-Full.ensures.err,
      λ known by. let full = c.in-Err-Full.ensures.full.0 (ap (λ (x : InternFault). Err x) c.in-Err-Full.field-0-is) in one_past same_function functions_exact t.functions known by c.in-Func.func full.0 full.1,
    )

pub returns-in-Ok-intern-clause-interns : goal.returns-in-Ok-intern-clause-interns
returns-in-Ok-intern-clause-interns c =
    let t = c.args.interned.now in
    let k = c.in-Cont-Some.cont in
    let given : c.args.value.now ≡ raw.Cont (Some k) = search rules in
    subst (λ (v : RawValue). InternsGiven (ids_of t) (ids_of (record t { conts = c.intern-in-Cont-Some.new.self })) (raw_side_values (v ∷ [])) (Ok tt)) (sym given) (
      record {
        functions = interns_none same_function functions_exact t.functions.entries;
        conts = interns_one same_cont conts_exact t.conts c.intern-in-Cont-Some.new.self k (c.in-Ok-intern.field-0 - 1) (c.in-Ok-intern.ensures.some k refl).1 (λ full absent. cc (c.in-Ok-intern.ensures.full.1 (full, (k, refl, absent))));
      },
      record {
        functions = λ known by. by.few;
        conts = λ known by. one_fits same_cont conts_exact t.conts known by k (λ full absent. cc (c.in-Ok-intern.ensures.full.1 (full, (k, refl, absent))));
      },
    )

pub returns-in-Err-Full-intern-clause-interns : goal.returns-in-Err-Full-intern-clause-interns
returns-in-Err-Full-intern-clause-interns c =
    let t = c.args.interned.now in
    let k = c.in-Cont-Some.cont in
    let given : c.args.value.now ≡ raw.Cont (Some k) = search rules in
    subst (λ (v : RawValue). InternsGiven (ids_of t) (ids_of (record t { conts = c.intern-in-Cont-Some.new.self })) (raw_side_values (v ∷ [])) (Err fault.ContTableFull)) (sym given) (
      ap (λ entries. record { funcs = t.functions.entries; conts = entries }) c.in-Err-Full-intern.ensures.err,
      λ known by.
          let full = c.in-Err-Full-intern.ensures.full.0 (ap (λ (x : InternFault). Err x) c.in-Err-Full-intern.field-0-is) in
          one_past same_cont conts_exact t.conts known by k full.0 (cont_missing t.conts k full.1),
    )
