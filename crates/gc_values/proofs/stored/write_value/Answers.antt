use Rattle.std.proofs.Common.{◌≡◌, sym, subst}
use Rattle.gc_values.specs.Words.{HandleRoots, handle_roots, AreOwnedRising}
use Rattle.gc_values.specs.Kept.{KeptAs, CanBeKept}
use Rattle.gc_values.specs.Interning.{ids_of}
use Rattle.gc_values.proofs.stored.write_value.Given.{Over}
use Rattle.gc_values.proofs.stored.write_value.Goals.{After-owned, After-stored_value-stored}
use Rattle.gc_values.proofs.stored.write_value.Goals as goal

-- the roots that are lent
roots_are : (g : Over) (c : After-owned g) → record { scoped = c.scoped.result.now; owned = c.owned.result.now } ≡ handle_roots c.args.owner.now.seen.roots
roots_are g c = λ i. record { scoped = c.scoped.ensures i; owned = c.owned.ensures i }

pub stored_value-stored-requires-clause-rising : goal.stored_value-stored-requires-clause-rising
stored_value-stored-requires-clause-rising g c = subst AreOwnedRising (sym c.owned.ensures) c.requires.can.rising

pub stored_value-stored-requires-clause-kept : goal.stored_value-stored-requires-clause-kept
stored_value-stored-requires-clause-kept g c =
    subst (λ (es : HandleRoots). CanBeKept (ids_of c.args.interned.now) es c.args.value.now) (sym (roots_are g (goal.at.stored_value-stored-requires-clause-kept g c).After-owned)) c.requires.can.kept

kept_is : (g : Over) (c : After-stored_value-stored g) → KeptAs (ids_of c.args.interned.now) (handle_roots c.args.owner.now.seen.roots) c.args.value.now c.stored_value-stored.result
kept_is g c =
    subst (λ (es : HandleRoots). KeptAs (ids_of c.args.interned.now) es c.args.value.now c.stored_value-stored.result) (roots_are g (goal.at.After-stored_value-stored g c).After-owned) c.stored_value-stored.ensures.kept

pub write_slot-requires-in_default-clause-can : goal.write_slot-requires-in_default-clause-can
write_slot-requires-in_default-clause-can g c = c.requires.can.goes c.stored_value-stored.result (kept_is g (goal.at.write_slot-requires-in_default-clause-can g c).After-stored_value-stored)

pub returns-in_default : goal.returns-in_default
returns-in_default g c = record {
  kept = c.stored_value-stored.result;
  kept_is = kept_is g (goal.at.returns-in_default g c).After-stored_value-stored;
  small = c.stored_value-stored.ensures.small;
  writes = c.write_slot-in_default.ensures;
}
