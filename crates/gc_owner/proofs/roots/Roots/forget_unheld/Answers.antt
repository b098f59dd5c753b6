use Rattle.std.proofs.Common.{not, nat_eq, refl, rules}
use Rattle.std.proofs.lemmas.Fn.{filter_same}
use Rattle.gc_owner.specs.declared.entry.OwnedEntry.{OwnedEntry}
use Rattle.gc_owner.proofs.OwnedLemmas.{forgotten}
use Rattle.gc_owner.proofs.roots.Roots.forget_unheld.Goals as goal

pub returns : goal.returns
returns c =
    let kept = filter_same _ (λ (e : OwnedEntry). not (nat_eq e.handles 0)) _ (λ x b f' k. search rules) _ _ c.retain.ensures.filtered in
    forgotten _ _ c.args.self.now c.self.view_is kept refl
