use Rattle.std.proofs.Common.{subst}
use Rattle.gc_types.specs.Declarations.{TypeTable}
use Rattle.gc_model.specs.Stores.{StoreView}
use Rattle.gc_values.specs.declared.subtypes.TypePair.{TypePair}
use Rattle.gc_values.specs.Subtypes.{KeepsPairs, Remembers, pairs_of}
use Rattle.gc_values.proofs.KeptPairs.{pairs_kept}
use Rattle.gc_store.proofs.store.Store.is_subtype_cached.Goals as goal

pub returns-clause-kept : goal.returns-clause-kept
returns-clause-kept g c =
    let pair : TypePair = record { sub = c.args.sub; sup = c.args.sup } in
    subst (λ (s : StoreView g.row.D.Denot). KeepsPairs s.types pair s.kept_pairs (pairs_of c.add.new.self)) c.self.view_is
    (pairs_kept c.self.inside.owner.seen.types.declarations pair c.self.inside.asked c.add.new.self
    (subst (λ (types : TypeTable). Remembers types.declarations pair c.self.inside.asked c.add.new.self) c.types-types.ensures c.add.ensures))
