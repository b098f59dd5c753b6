use Rattle.std.proofs.Common.{ap, eq-eqb, eqb-true, ◌∙◌, sym}
use Rattle.std.specs.Ordering.{nat_cmp}
use Rattle.std.specs.FinMap.{empty_of_len, len, len-empty}
use Rattle.gc_model.specs.SideValues.{InternedIds, no_ids}
use Rattle.gc_model.proofs.Interned.{ids_same}
use Rattle.gc_values.specs.Interning.{ids_of}
use Rattle.gc_values.proofs.interned.InternedValues.is_empty.Goals as goal

pub returns-then-len-eq0 : goal.returns-then-len-eq0
returns-then-len-eq0 c = (
  λ yes.
      ids_same (ids_of c.args.self.now) no_ids
      (empty_of_len c.args.self.now.functions.entries (sym c.len.ensures.value ∙ c.if-len-eq0.true))
      (empty_of_len c.args.self.now.conts.entries (sym c.len-then-len-eq0.ensures.value ∙ eqb-true c.len-then-len-eq0.result 0 yes)),
  λ none. eq-eqb c.len-then-len-eq0.result 0 (c.len-then-len-eq0.ensures.value ∙ ap (λ (ids : InternedIds). len ids.conts) none ∙ len-empty nat_cmp _),
)

pub returns-else-len-eq0 : goal.returns-else-len-eq0
returns-else-len-eq0 c = (
  λ yes. absurd (c.if-len-eq0.false (eqb-true c.len.result 0 yes)),
  λ none. eq-eqb c.len.result 0 (c.len.ensures.value ∙ ap (λ (ids : InternedIds). len ids.funcs) none ∙ len-empty nat_cmp _),
)
