use Rattle.std.proofs.Common.{◌+◌, false, get_or, sym, subst, arith}
use Rattle.std.proofs.lemmas.List.{drop_more, drop_all}
use Rattle.gc_types.specs.declared.layout.FieldLayout.{FieldLayout}
use Rattle.gc_heap.proofs.TraceLemmas.{TracedAt, traced_skip, traced_take, traced_end}
use Rattle.gc_heap.proofs.trace.struct_trace.Goals as goal
use Rattle.gc_heap.proofs.trace.struct_trace.Goals.{then-field+else-field-gt-LAST_IN_BITMAP, else-field}

abbrev none : FieldLayout
none = record { offset = 0; is_gc_ref = false }

pub loop-field-preserved : goal.loop-field-preserved
loop-field-preserved c =
    let fields = c.args.fields.now in
    let index = c.loop-field.field-index in
    let step = drop_more fields index none c.loop-field-test.true in
    elim c.if-field.branch [
      | then-field+else-field-gt-LAST_IN_BITMAP w ↦
          subst (λ n. TracedAt n (index + 1) fields) (sym w.bits-is)
          (traced_take c.loop-field.bits w.with_reference-bits.result index fields (get_or fields index none) step w.if-field.true w.if-field-gt-LAST_IN_BITMAP.false
          w.with_reference-bits.ensures.bits w.with_reference-bits.ensures.fits c.loop-field.invariant)
      | else-field w ↦
          subst (λ n. TracedAt n (index + 1) fields) (sym w.bits-is)
          (traced_skip c.loop-field.bits index fields (get_or fields index none) step w.if-field.false c.loop-field.invariant)
    ]

pub returns-clause-word : goal.returns-clause-word
returns-clause-word c =
    traced_end c.loop-field.bits c.args.fields.now c.loop-field.field-index (drop_all c.loop-field.field-index c.args.fields.now (omega (arith, c.loop-field-test.false))) c.loop-field.invariant
