use Rattle.std.proofs.Common.{◌++◌, ◌∷◌, []}
use Rattle.gc_roots.specs.declared.entry.Origin.{Origin}
use Rattle.gc_roots.specs.Columns.{root_of, paired_roots}
use Rattle.std.proofs.Common.{◌≡◌, ◌∙◌, ap, sym, length}
use Rattle.gc_roots.proofs.ColumnLemmas.{roots_of-push}
use Rattle.gc_roots.proofs.list.GcRootsList.add.Goals as goal

pub returns-clause-roots : goal.returns-clause-roots
returns-clause-roots c =
    let same : length c.self.inside.origins.items ≡ length c.self.inside.words.items = sym c.self.inside.origins.ok.0 ∙ c.self.invariant ∙ c.self.inside.words.ok.0 in
    let origin : Origin = record { place = c.args.place; is_on_wasm_stack = c.args.is_on_wasm_stack } in
    ap (λ os. paired_roots os c.push_reserved-2.new.self.items) c.push_reserved.ensures.items
    ∙ ap (λ ws. paired_roots (c.self.inside.origins.items ++ origin ∷ []) ws) c.push_reserved-2.ensures.items
    ∙ roots_of-push _ _ origin c.args.word same
    ∙ ap (λ r. r.roots ++ root_of origin c.args.word ∷ []) c.self.view_is
