use Rattle.std.proofs.Common.{ap, ◌∙◌, sym}
use Rattle.gc_store.proofs.store.Store.has_nothing_interned.Goals as goal

pub returns : goal.returns
returns g c = (
  λ yes. ap (λ s. s.ids) (sym c.self.view_is) ∙ c.is_empty.ensures.0 yes,
  λ none. c.is_empty.ensures.1 (ap (λ s. s.ids) c.self.view_is ∙ none),
)
