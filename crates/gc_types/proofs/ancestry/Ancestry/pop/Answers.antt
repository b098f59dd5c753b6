use Rattle.std.proofs.Common.{List, subst}
use Rattle.std.specs.Option.{option_to_list}
use Rattle.gc_types.specs.declared.ancestry.Entry.{Entry}
use Rattle.gc_types.specs.Ancestors.{ArePlaced}
use Rattle.gc_types.proofs.PlacedLemmas.{placed_front}
use Rattle.gc_types.proofs.ancestry.Ancestry.pop.Goals as goal

pub invariant_of-self : goal.invariant_of-self
invariant_of-self c = placed_front c.pop.new.self.items (option_to_list c.pop.result) (subst (λ (es : List Entry). ArePlaced es) c.pop.ensures.items c.self.invariant)
