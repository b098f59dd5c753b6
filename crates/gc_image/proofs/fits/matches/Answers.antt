use Rattle.gc_types.specs.Subtyping.{supertypes_of}
use Rattle.gc_model.proofs.Matching.{declared_older, matches-ref}
use Rattle.gc_image.proofs.fits.matches.Goals as goal

pub returns : goal.returns
returns c =
    matches-ref (supertypes_of c.args.types.now.declarations) (declared_older c.args.types.now.declarations c.are_declared.ensures) c.args.own c.args.ty.now c.matches_ref.result c.matches_ref.ensures
