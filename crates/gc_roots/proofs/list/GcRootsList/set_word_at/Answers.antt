use Rattle.gc_roots.specs.Roots.{with_word_at}
use Rattle.std.proofs.Common.{◌≡◌, ◌∙◌, ap, sym, length, arith}
use Rattle.std.specs.Vec.{vec_len}
use Rattle.gc_roots.proofs.ColumnLemmas.{length-roots_of, roots_of-set}
use Rattle.gc_roots.proofs.list.GcRootsList.set_word_at.Goals as goal

pub index_mut-requires : goal.index_mut-requires
index_mut-requires c =
    let same : length c.self.inside.origins.items ≡ length c.self.inside.words.items = sym c.self.inside.origins.ok.0 ∙ c.self.invariant ∙ c.self.inside.words.ok.0 in
    let count : vec_len c.self.inside.words ≡ length c.args.self.now.roots = c.self.inside.words.ok.0 ∙ sym (length-roots_of _ _ same) ∙ ap (λ r. length r.roots) c.self.view_is in
    omega (arith, count, c.requires)

pub returns-clause-roots : goal.returns-clause-roots
returns-clause-roots c =
    let same : length c.self.inside.origins.items ≡ length c.self.inside.words.items = sym c.self.inside.origins.ok.0 ∙ c.self.invariant ∙ c.self.inside.words.ok.0 in
    roots_of-set _ _ _ _ same ∙ ap (λ r. with_word_at r.roots c.args.index c.args.word) c.self.view_is
