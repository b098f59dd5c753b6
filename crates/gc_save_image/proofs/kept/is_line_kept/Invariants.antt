use Rattle.gc_model.specs.Stored.{value_type}
use Rattle.gc_image.proofs.ElementLemmas.{Below}
use Rattle.gc_image.specs.Well.{as_object}
use Rattle.gc_save_image.specs.Keeping.{IsKeptIn}
use Rattle.gc_save_image.proofs.kept.is_line_kept.Given as goal

abbrev pub invariant-loop-index : goal.invariant-loop-index
invariant-loop-index l = Below (λ index v. IsKeptIn (value_type l.types.declarations (as_object l.line) index) v) l.values l.index
