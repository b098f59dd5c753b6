use Rattle.std.proofs.Common.{sym, ap, ◌∙◌}
use Rattle.std.specs.Option.{option_map}
use Rattle.std.proofs.lemmas.Option.{slice_get-get_or, slice_get_past}
use Rattle.gc_owner.specs.declared.entry.RootEntry.{RootEntry}
use Rattle.gc_store.specs.RootWords.{scoped_root_word}
use Rattle.gc_store.proofs.RootNumbers.{scoped_at}
use Rattle.gc_store.proofs.root_words.handle_root.Goals as goal

pub returns-then-index-scoped : goal.returns-then-index-scoped
returns-then-index-scoped c =
    let none : RootEntry = record { generation = 0; word = 0 } in
    sym (scoped_at c.args.owned.now c.args.scoped.now c.args.number c.if-number-owned.false
    ∙ ap (option_map (scoped_root_word _)) (slice_get-get_or c.args.scoped.now _ none c.if-index-scoped.true))

pub returns : goal.returns
returns c =
    sym (scoped_at c.args.owned.now c.args.scoped.now c.args.number c.if-number-owned.false
    ∙ ap (option_map (scoped_root_word _)) (slice_get_past c.args.scoped.now _ c.if-index-scoped.false))
