use Rattle.std.proofs.Common.{◌≡◌, ◌+◌, sym, ap, subst, ◌∙◌, arith}
use Rattle.gc_memory.specs.Words.{word}
use Rattle.gc_view.specs.Bytes.{put_u32}
use Rattle.gc_drc.specs.declared.space.CountedSpace.{CountedSpace}
use Rattle.gc_drc.specs.Layout.{count_at}
use Rattle.gc_drc.specs.Operations.{SetsWords}
use Rattle.gc_drc.proofs.TendLemmas.{sets_nothing, sets_list, sets_kind}
use Rattle.gc_drc.proofs.space.CountedSpace.push_shown.Goals as goal
use Rattle.gc_drc.proofs.space.CountedSpace.push_shown.Goals.{After-kind_word-kind}

linked : (c : After-kind_word-kind) → SetsWords c.args.self.now.memory c.set_next_shown.new.self.memory c.args.place (word c.args.self.now.memory c.args.place) (count_at c.args.self.now.memory c.args.place)
    c.args.self.now.shown (word c.args.self.now.memory (c.args.place + 24))
linked c =
    let m = c.args.self.now.memory in
    subst (λ b. SetsWords m b c.args.place (word m c.args.place) (count_at m c.args.place) c.args.self.now.shown (word m (c.args.place + 24)))
    (sym (ap (λ (s : CountedSpace). s.memory) c.set_next_shown.ensures))
    (sets_list m m c.args.place _ _ _ _ c.args.self.now.shown (sets_nothing m c.args.place) c.requires.room (omega arith))

pub overflow_add-kind : goal.overflow_add-kind
overflow_add-kind c = let same = (linked (goal.at.overflow_add-kind c).After-kind_word-kind).kind_is in let is = c.kind_word-kind.ensures in let apart = c.requires.apart in omega arith

pub returns-clause-sets : goal.returns-clause-sets
returns-clause-sets c =
    let m = c.args.self.now.memory in
    let l = linked (goal.at.returns-clause-sets c).After-kind_word-kind in
    let is : c.kind_word-kind.result ≡ word m c.args.place = c.kind_word-kind.ensures ∙ l.kind_is in
    let apart = c.requires.apart in
    subst (λ b. SetsWords m b c.args.place (word m c.args.place + 2) (count_at m c.args.place) c.args.self.now.shown (word m (c.args.place + 24)))
    (sym (ap (λ (s : CountedSpace). s.memory) c.set_kind_word.ensures ∙ ap (λ n. put_u32 c.set_next_shown.new.self.memory c.args.place (n + 2)) is))
    (sets_kind m c.set_next_shown.new.self.memory c.args.place (word m c.args.place) _ _ _ (word m c.args.place + 2) l c.requires.room (omega arith) (omega arith))
