use Rattle.std.proofs.Common.{subst}
use Rattle.gc_values.specs.declared.root.RawValue.{RawValue}
use Rattle.gc_objects.specs.Answered.{RawFitsType}
use Rattle.gc_objects.proofs.val.Val.matches_ty.Goals as goal

pub returns : goal.returns
returns g c t holds = subst (λ (r : RawValue). RawFitsType c.args.store.now t c.args.ty.now r c.raw_matches_ty.result) c.raw_of.ensures (c.raw_matches_ty.ensures t holds)
