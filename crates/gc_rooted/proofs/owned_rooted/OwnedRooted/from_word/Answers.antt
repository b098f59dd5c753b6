use Rattle.std.proofs.Common.{Some, Ok, ap, sym, ◌∙◌, subst}
use Rattle.std.specs.Prelude.{Option}
use Rattle.gc_values.specs.declared.root.GcRootIndex.{GcRootIndex}
use Rattle.gc_store.specs.RawWords.{OwnsReference}
use Rattle.gc_rooted.proofs.owned_rooted.OwnedRooted.from_word.Goals as goal

pub own_reference-requires : goal.own_reference-requires
own_reference-requires g c = λ positive.
    let is = c.requires positive in
    record { table = is.table; place = is.place; holds = is.holds; root = is.root; is_word = is.is_word; not_null = positive }

pub returns-in-Ok-Some-clause-owns : goal.returns-in-Ok-Some-clause-owns
returns-in-Ok-Some-clause-owns g c t place a r there is =
    subst (λ (x : Option GcRootIndex). OwnsReference g.H.GcHeap.KIND t a r (Ok x) c.own_reference.new.self)
    (c.in-Ok-Some.field-0-is ∙ ap Some (sym c.of_root.ensures)) (c.in-Ok-Some.ensures.owns t place a r there is)

pub returns-in-Ok-None-clause-owns : goal.returns-in-Ok-None-clause-owns
returns-in-Ok-None-clause-owns g c t place a r there is =
    subst (λ (x : Option GcRootIndex). OwnsReference g.H.GcHeap.KIND t a r (Ok x) c.own_reference.new.self) c.in-Ok-None.field-0-is (c.in-Ok-None.ensures.owns t place a r there is)
