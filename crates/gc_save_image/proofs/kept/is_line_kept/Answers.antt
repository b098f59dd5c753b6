use Rattle.std.proofs.Common.{◌≡◌, ℕ, Some, subst}
use Rattle.std.specs.List.{slice_get}
use Rattle.gc_model.specs.Stored.{value_type}
use Rattle.gc_image.proofs.ElementLemmas.{all_below, more_below}
use Rattle.gc_image.specs.declared.image.ImageValue.{ImageValue}
use Rattle.gc_image.specs.Well.{as_object}
use Rattle.gc_save_image.specs.Keeping.{IsKeptIn}
use Rattle.gc_save_image.proofs.kept.is_line_kept.Goals as goal

pub loop-index-preserved : goal.loop-index-preserved
loop-index-preserved c =
    more_below (λ index v. IsKeptIn (value_type c.args.types.now.declarations (as_object c.args.line.now) index) v) c.values_of-values.result.now c.loop-index.index c.index-values-index.result
    c.loop-index-test.true c.index-values-index.is (c.is_kept_at.ensures c.if-not-is_kept_at.false) c.loop-index.invariant

pub returns : goal.returns
returns c = λ e.
    subst (λ vs. (index : ℕ) (v : ImageValue) → slice_get vs index ≡ Some v → IsKeptIn (value_type c.args.types.now.declarations (as_object c.args.line.now) index) v) c.values_of-values.ensures
    (all_below (λ index v. IsKeptIn (value_type c.args.types.now.declarations (as_object c.args.line.now) index) v) c.values_of-values.result.now c.loop-index.index c.loop-index-test.false c.loop-index.invariant)
