use Rattle.std.proofs.Common.{Bool, sym, subst}
use Rattle.gc_types.specs.Declarations.{TypeTable}
use Rattle.gc_model.specs.Stores.{StoreView}
use Rattle.gc_values.specs.declared.subtypes.TypePair.{TypePair}
use Rattle.gc_values.specs.Subtypes.{TellsKept, keeps, keeps_pair}
use Rattle.gc_values.proofs.KeptPairs.{pair_told}
use Rattle.gc_store.proofs.store.Store.cached_subtype.Goals as goal

pub returns : goal.returns
returns g c =
    let pair : TypePair = record { sub = c.args.sub; sup = c.args.sup } in
    subst (λ (s : StoreView g.row.D.Denot). TellsKept s.types (keeps_pair s.kept_pairs pair) pair c.answer.result) c.self.view_is
    (subst (λ (kept : Bool). TellsKept c.self.inside.owner.seen.types.declarations kept pair c.answer.result) (sym (pair_told c.self.inside.asked pair))
    (subst (λ (types : TypeTable). TellsKept types.declarations (keeps c.self.inside.asked pair) pair c.answer.result) c.types.ensures c.answer.ensures))
