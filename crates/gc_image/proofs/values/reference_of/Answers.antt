use Rattle.std.proofs.Common.{◌≡◌, codes, rules}
use Rattle.gc_image.proofs.ValueLemmas.{no_reference}
use Rattle.gc_image.proofs.values.reference_of.Goals as goal

pub returns-in_default-text : goal.returns-in_default-text
returns-in_default-text c =
    let null : c.args.text.now ≡ codes "null" → ⊥ = search rules in
    no_reference c.args.text.now c.in_default.ensures c.in_default-behind.ensures null
