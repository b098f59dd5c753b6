use Rattle.std.proofs.Common.{◌≡◌, ◌<◌, length, true, Some, refl, sym, subst, ◌∙◌, arith}
use Rattle.std.specs.List.{slice_set}
use Rattle.gc_image.specs.Steps.{Finds, FoundParts}
use Rattle.gc_image.specs.Well.{number_named}
use Rattle.gc_image.proofs.ReachLemmas.{finds_pushed}
use Rattle.gc_image.proofs.reach.find.Goals as goal

pub returns : goal.returns
returns c =
    let old : FoundParts = record { marked = c.found.inside.marked.items; numbers = c.found.inside.numbers.items } in
    let new : FoundParts = record { marked = slice_set c.found.inside.marked.items c.in-Some.number true; numbers = c.push.new.self.items } in
    let below : c.in-Some.number < length c.found.inside.marked.items = omega arith in
    subst (λ (f : FoundParts). Finds (λ p. number_named c.args.value.now ≡ Some p) f new) c.found.view_is
    (finds_pushed old new c.in-Some.number (number_named c.args.value.now) c.index.result.now (sym c.number_named.ensures ∙ c.in-Some.is) below c.index.ensures c.if-index.false refl c.in_ok-push.ensures.items)
