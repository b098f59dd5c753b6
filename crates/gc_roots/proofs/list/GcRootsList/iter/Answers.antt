use Rattle.std.proofs.Common.{ℕ, min, ◌-◌}
use Rattle.gc_roots.specs.Columns.{paired_roots}
use Rattle.gc_roots.specs.Roots.{with_words}
use Rattle.std.proofs.Common.{◌≡◌, ◌∙◌, ap, sym, length}
use Rattle.std.specs.Vec.{vec_len, vec_capacity}
use Rattle.gc_roots.proofs.ColumnLemmas.{roots_of-refill}
use Rattle.gc_roots.proofs.list.GcRootsList.iter.Goals as goal

pub returns : goal.returns
returns c =
    let same : length c.self.inside.origins.items ≡ length c.self.inside.words.items = sym c.self.inside.origins.ok.0 ∙ c.self.invariant ∙ c.self.inside.words.ok.0 in
    let spare : ℕ = min (vec_capacity c.self.inside.origins) (vec_capacity c.self.inside.words) - vec_len c.self.inside.words in (
      (
        sym c.new.ensures.lent,
        λ left.
            ap (λ rs. record { roots = rs; spare = spare }) (roots_of-refill c.self.inside.origins.items c.self.inside.words.items left _ same c.self.inside.words.ok.0)
            ∙ ap (λ r. record { roots = with_words r.roots left; spare = r.spare }) c.self.view_is,
      ),
      record {
        lends = tt;
        rest = c.new.ensures.rest
            ∙ ap (λ os. paired_roots os c.as_mut_slice.result.now) c.as_slice.ensures.value
            ∙ ap (λ ws. paired_roots c.self.inside.origins.items ws) c.as_mut_slice.ensures.value
            ∙ ap (λ r. r.roots) c.self.view_is;
      },
    )
