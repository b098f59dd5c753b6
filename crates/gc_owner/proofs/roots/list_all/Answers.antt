use Rattle.gc_owner.proofs.AllRoots.{five_listed}
use Rattle.gc_owner.proofs.roots.list_all.Goals as goal

pub returns-clause-roots : goal.returns-clause-roots
returns-clause-roots c =
    five_listed _ _ _ _ _ c.args.list.now.roots c.list_column.new.list.roots c.list_column-2.new.list.roots c.list_column-3.new.list.roots c.list_column-4.new.list.roots c.list_word.new.list.roots
    c.requires.empty c.list_column.ensures.roots c.list_column-2.ensures.roots c.list_column-3.ensures.roots c.list_column-4.ensures.roots c.list_word.ensures.roots
