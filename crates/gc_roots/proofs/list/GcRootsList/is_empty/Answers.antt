use Rattle.std.proofs.Common.{◌==◌}
use Rattle.std.proofs.Common.{◌≡◌, ◌∙◌, ap, sym, length}
use Rattle.std.specs.Vec.{vec_len}
use Rattle.gc_roots.proofs.ColumnLemmas.{length-roots_of}
use Rattle.gc_roots.proofs.list.GcRootsList.is_empty.Goals as goal

pub returns : goal.returns
returns c =
    let same : length c.self.inside.origins.items ≡ length c.self.inside.words.items = sym c.self.inside.origins.ok.0 ∙ c.self.invariant ∙ c.self.inside.words.ok.0 in
    let count : vec_len c.self.inside.words ≡ length c.args.self.now.roots = c.self.inside.words.ok.0 ∙ sym (length-roots_of _ _ same) ∙ ap (λ r. length r.roots) c.self.view_is in
    c.is_empty.ensures ∙ ap (λ n. n == 0) count
