use Rattle.std.proofs.Common.{◌≡◌, ◌∙◌, ap, sym, length, arith}
use Rattle.std.specs.Vec.{vec_len, vec_capacity}
use Rattle.gc_roots.proofs.ColumnLemmas.{length-roots_of, all_spare}
use Rattle.gc_roots.proofs.list.GcRootsList.clear.Goals as goal

pub returns-clause-spare : goal.returns-clause-spare
returns-clause-spare c =
    let same : length c.self.inside.origins.items ≡ length c.self.inside.words.items = sym c.self.inside.origins.ok.0 ∙ c.self.invariant ∙ c.self.inside.words.ok.0 in
    let count : vec_len c.self.inside.words ≡ length c.args.self.now.roots = c.self.inside.words.ok.0 ∙ sym (length-roots_of _ _ same) ∙ ap (λ r. length r.roots) c.self.view_is in
    let o = c.self.inside.origins in
    let w = c.self.inside.words in
    all_spare (vec_capacity o) (vec_capacity w) (vec_len w) _ _ _ _ _
    c.clear.ensures.capacity c.clear-2.ensures.capacity c.clear-2.ensures.len
    (omega (arith, o.ok.1, c.self.invariant)) w.ok.1 (ap (λ r. r.spare) c.self.view_is) count
