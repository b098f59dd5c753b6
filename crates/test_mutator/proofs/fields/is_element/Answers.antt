use Rattle.std.proofs.Common.{◌<◌, ◌-◌, ◌/◌, arith}
use Rattle.std.proofs.lemmas.Bool.Decides.{nat_tests}
use Rattle.gc_types.specs.Layouts.{array_base}
use Rattle.test_mutator.proofs.FieldLemmas.{has_element, element_lies}
use Rattle.test_mutator.proofs.fields.is_element.Goals as goal

pub returns-then-offset-base : goal.returns-then-offset-base
returns-then-offset-base c =
    (λ is. absurd (cc), λ has. let low = (element_lies c.args.length (array_base c.args.layouts) c.args.offset has).low in absurd (omega (arith, c.if-offset-base.true, c.array_base-base.ensures.value)))

pub returns-then-behind-ne0 : goal.returns-then-behind-ne0
returns-then-behind-ne0 c =
    (λ is. absurd (cc), λ has. let aligned = (element_lies c.args.length (array_base c.args.layouts) c.args.offset has).aligned in absurd (c.if-behind-ne0.true (omega (arith, c.array_base-base.ensures.value))))

pub returns : goal.returns
returns c =
    let base = c.array_base-base.ensures.value in (
      λ is.
          let below : (c.args.offset - c.array_base-base.result) / 4 < c.args.length = grind (arith, nat_tests, is) in
          has_element c.args.length (array_base c.args.layouts) c.args.offset (omega (arith, c.if-offset-base.false)) (omega (arith, c.if-behind-ne0.false)) (omega arith),
      λ has.
          let element = (element_lies c.args.length (array_base c.args.layouts) c.args.offset has).below in
          let below : (c.args.offset - c.array_base-base.result) / 4 < c.args.length = omega arith in
          grind (arith, nat_tests, below),
    )
