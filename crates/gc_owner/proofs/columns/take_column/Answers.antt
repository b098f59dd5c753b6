use Rattle.std.proofs.Common.{rules, length, get_or, set, ◌≡◌, ◌+◌, ◌<◌, ◌≤◌, sym, ap, ◌∙◌, subst, arith}
use Rattle.gc_owner.proofs.TakenColumns.{Taken, entry_is, taken_more, all_taken}
use Rattle.gc_owner.proofs.columns.take_column.Goals as goal

pub loop-index-preserved : goal.loop-index-preserved
loop-index-preserved g c = record {
  taken = λ to place on_stack behind follow.
      let t = c.loop-index.invariant.taken to place on_stack behind follow in
      let below : c.loop-index.index < length c.args.entries.now = omega (arith, c.loop-index-test.true, c.loop-index.auto.entries) in
      let e = entry_is g.T.HoldsWord.word_of g.T.HoldsWord.put_word to place on_stack behind c.args.entries.now c.args.list.now.roots c.loop-index.entries c.loop-index.index c.loop-index.at c.index-entries-index.result below t in
      let one : c.index-entries-index.result ≡ get_or c.loop-index.entries c.loop-index.index c.index-entries-index.result = search rules in
      let more = taken_more g.T.HoldsWord.word_of g.T.HoldsWord.put_word to place on_stack behind c.args.entries.now c.args.list.now.roots c.loop-index.entries c.loop-index.index c.loop-index.at c.index-entries-index.result below t
      c.word-word.result c.word_from-new_word.result c.place_behind-at.result (c.word-word.ensures ∙ ap g.T.HoldsWord.word_of (one ∙ e)) c.word_from-new_word.ensures c.place_behind-at.ensures.stays c.place_behind-at.ensures.goes in
      subst (λ x. Taken g.T.HoldsWord.word_of g.T.HoldsWord.put_word to place on_stack behind c.args.entries.now c.args.list.now.roots (set c.loop-index.entries c.loop-index.index x) (c.loop-index.index + 1) c.place_behind-at.result)
      (sym (c.with_word.ensures ∙ ap (λ y. g.T.HoldsWord.put_word y c.word_from-new_word.result) (one ∙ e))) more;
}

pub returns-clause-words : goal.returns-clause-words
returns-clause-words g c = λ to place on_stack behind follow.
    let enough : length c.args.entries.now ≤ c.loop-index.index = omega (arith, c.loop-index-test.false, c.loop-index.auto.entries, c.loop-index.auto.index-end) in
    (all_taken g.T.HoldsWord.word_of g.T.HoldsWord.put_word to place on_stack behind c.args.entries.now c.args.list.now.roots c.loop-index.entries c.loop-index.index c.loop-index.at enough (c.loop-index.invariant.taken to place on_stack behind follow)).0

pub returns-clause-next : goal.returns-clause-next
returns-clause-next g c = λ to place on_stack behind follow.
    let enough : length c.args.entries.now ≤ c.loop-index.index = omega (arith, c.loop-index-test.false, c.loop-index.auto.entries, c.loop-index.auto.index-end) in
    (all_taken g.T.HoldsWord.word_of g.T.HoldsWord.put_word to place on_stack behind c.args.entries.now c.args.list.now.roots c.loop-index.entries c.loop-index.index c.loop-index.at enough (c.loop-index.invariant.taken to place on_stack behind follow)).1
