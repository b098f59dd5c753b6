use Rattle.std.proofs.Common.{◌++◌, List, ap, sym, ◌∙◌}
use Rattle.std.proofs.lemmas.List.{append-nil}
use Rattle.gc_roots.specs.Roots.{Root}
use Rattle.gc_owner.proofs.ListedRoots.{listed_some, listed_none}
use Rattle.gc_owner.proofs.columns.list_word.Goals as goal

pub returns-in-Some-clause-roots : goal.returns-in-Some-clause-roots
returns-in-Some-clause-roots c =
    c.list_root.ensures.roots ∙ ap (λ (rs : List Root). c.args.list.now.roots ++ rs) (listed_some c.args.place.number c.args.is_on_stack c.args.word c.in-Some.gc_ref c.from_raw_u32.result c.from_raw_u32.ensures c.in-Some.is)

pub returns-in-None-clause-roots : goal.returns-in-None-clause-roots
returns-in-None-clause-roots c =
    sym (append-nil c.args.list.now.roots) ∙ ap (λ (rs : List Root). c.args.list.now.roots ++ rs) (sym (listed_none c.args.place.number c.args.is_on_stack c.args.word c.from_raw_u32.result c.from_raw_u32.ensures c.in-None.is))
