use Rattle.std.proofs.Common.{IsTrue, false, subst}
use Rattle.std.specs.Prelude.{◌↔◌}
use Rattle.gc_types.specs.Declarable.{AreDeclared}
use Rattle.gc_types.specs.Declarations.{TypeTable}
use Rattle.gc_types.specs.Subtyping.{supertypes_of, MatchesRef}
use Rattle.gc_model.proofs.Matching.{matches-ref, declared_older}
use Rattle.gc_store.proofs.fits.matches.Goals as goal

pub returns : goal.returns
returns g c =
    let are : AreDeclared c.args.store.now.types = subst (λ (t : TypeTable). AreDeclared t.declarations) c.types-types.ensures c.are_declared.ensures in
    matches-ref (supertypes_of c.args.store.now.types) (declared_older c.args.store.now.types are) c.args.own c.args.ty.now c.matches_ref.result
    (subst (λ (t : TypeTable). IsTrue c.matches_ref.result ↔ MatchesRef (supertypes_of t.declarations) (record { nullable = false; heap_type = c.args.own }) c.args.ty.now) c.types-types.ensures c.matches_ref.ensures)
