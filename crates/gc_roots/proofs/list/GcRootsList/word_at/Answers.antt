use Rattle.gc_roots.specs.Roots.{root_at}
use Rattle.std.proofs.Common.{◌≡◌, ◌<◌, ◌∙◌, ap, sym, length, arith}
use Rattle.std.specs.Vec.{vec_len}
use Rattle.gc_roots.proofs.ColumnLemmas.{length-roots_of, word_of-at}
use Rattle.gc_roots.proofs.list.GcRootsList.word_at.Goals as goal

pub index-requires : goal.index-requires
index-requires c =
    let same : length c.self.inside.origins.items ≡ length c.self.inside.words.items = sym c.self.inside.origins.ok.0 ∙ c.self.invariant ∙ c.self.inside.words.ok.0 in
    let count : vec_len c.self.inside.words ≡ length c.args.self.now.roots = c.self.inside.words.ok.0 ∙ sym (length-roots_of _ _ same) ∙ ap (λ r. length r.roots) c.self.view_is in
    omega (arith, count, c.requires, c.self.invariant)

pub returns : goal.returns
returns c =
    let same : length c.self.inside.origins.items ≡ length c.self.inside.words.items = sym c.self.inside.origins.ok.0 ∙ c.self.invariant ∙ c.self.inside.words.ok.0 in
    let count : vec_len c.self.inside.words ≡ length c.args.self.now.roots = c.self.inside.words.ok.0 ∙ sym (length-roots_of _ _ same) ∙ ap (λ r. length r.roots) c.self.view_is in
    let inside : c.args.index < length c.self.inside.words.items = omega (arith, count, c.requires, c.self.inside.words.ok.0) in
    c.unchecked_copy.ensures
    ∙ c.index.ensures
    ∙ sym (word_of-at c.self.inside.origins.items c.self.inside.words.items c.args.index _ same inside)
    ∙ ap (λ r. (root_at r.roots c.args.index).word) c.self.view_is
