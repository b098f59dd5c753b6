use Rattle.gc_image.proofs.ElementLemmas.{Below}
use Rattle.gc_save_image.specs.Keeping.{IsLineKept}
use Rattle.gc_save_image.proofs.kept.are_kept.Given as goal

abbrev pub invariant-loop-line : goal.invariant-loop-line
invariant-loop-line l = Below (λ k line. IsLineKept l.types.declarations line) l.objects l.line-index
