use Rattle.std.proofs.Common.{◌<◌, ℕ, length, Vec, Global, sym, ap, subst, ◌∙◌}
use Rattle.gc_types.specs.Declarations.{TypeTable}
use Rattle.gc_model.specs.Table.{Table}
use Rattle.gc_model.specs.Accounts.{Account, HoldsAccount}
use Rattle.gc_image.specs.Well.{GlobalHolds}
use Rattle.gc_save_image.specs.Answers.{RefusesCollection}
use Rattle.gc_image_write.specs.Order.{AreClosed}
use Rattle.gc_image_write.specs.Plain.{ArePlain}
use Rattle.gc_image_write.specs.TypeWords.{AreTypeCommands}
use Rattle.gc_save_image.proofs.Saving.{are_not_plain, are_plain, closed, held, none_pushed, not_plain, saves}
use Rattle.gc_save_image.proofs.save.save_image.Given as given
use Rattle.gc_save_image.proofs.save.save_image.Goals as goal
use Rattle.gc_save_image.proofs.save.save_image.Goals.{After-as_slice-2}

pub returns-in-Ok-None-clause-saves : goal.returns-in-Ok-None-clause-saves
returns-in-Ok-None-clause-saves g c t a held =
    are_not_plain c.types.result.now.declarations t.types (ap (λ (x : TypeTable). x.declarations) c.types.ensures ∙ held.holds.types) c.in-Ok-None.field-0 c.in-Ok-None.ensures.plain c.in-Ok-None.field-0-is

pub returns-in-Ok-None-clause-leaves : goal.returns-in-Ok-None-clause-leaves
returns-in-Ok-None-clause-leaves g c t a held = none_pushed g.H.GcHeap.KIND t a c.args.store.now held

pub returns-in-Err-RootsFull-clause-saves : goal.returns-in-Err-RootsFull-clause-saves
returns-in-Err-RootsFull-clause-saves g c t a held = (
  are_plain c.types.result.now.declarations t.types (ap (λ (x : TypeTable). x.declarations) c.types.ensures ∙ held.holds.types) c.in-Ok-Some.field-0 c.in-Ok-Some.ensures.plain c.in-Ok-Some.commands c.in-Ok-Some.field-0-is,
  subst (RefusesCollection t) c.in-Err-RootsFull.field-0-is (c.in-Err-RootsFull.ensures.collects t a held),
)

pub returns-in-Err-RootsFull-clause-leaves : goal.returns-in-Err-RootsFull-clause-leaves
returns-in-Err-RootsFull-clause-leaves g c t a held = c.collect_objects.ensures.leaves t a held

pub write_ordered-requires-clause-commands : goal.write_ordered-requires-clause-commands
write_ordered-requires-clause-commands g c = (rw c.in-Ok-Some.field-0-is at c.in-Ok-Some.ensures.declare).fit

plain_in : (g : given.Over) (c : After-as_slice-2 g) (t : Table ℕ) (a : Account) → HoldsAccount g.H.GcHeap.KIND c.args.store.now t a → ArePlain t.types
plain_in g c t a held =
    are_plain c.types.result.now.declarations t.types (ap (λ (x : TypeTable). x.declarations) c.types.ensures ∙ held.holds.types) c.in-Ok-Some.field-0 c.in-Ok-Some.ensures.plain c.in-Ok-Some.commands c.in-Ok-Some.field-0-is

pub write_ordered-requires-clause-closed : goal.write_ordered-requires-clause-closed
write_ordered-requires-clause-closed g c =
    let t = c.stores_hold_tables.ensures.0 in
    let a = c.stores_hold_tables.ensures.1.0 in
    let holds = c.stores_hold_tables.ensures.1.1 in
    subst AreClosed (sym c.as_slice.ensures.value) (closed t holds.holds.typed (plain_in g c t a holds) c.in-Ok.collected (c.in-Ok.ensures.collects t a holds))

pub write_ordered-requires-clause-held : goal.write_ordered-requires-clause-held
write_ordered-requires-clause-held g c =
    let t = c.stores_hold_tables.ensures.0 in
    let a = c.stores_hold_tables.ensures.1.0 in
    let holds = c.stores_hold_tables.ensures.1.1 in
    subst (λ os. (number : ℕ) → GlobalHolds c.as_slice-2.result.now number → number < length os) (sym c.as_slice.ensures.value)
    (subst (λ gs. (number : ℕ) → GlobalHolds gs number → number < length c.in-Ok.collected.objects.items) (sym c.as_slice-2.ensures.value)
    (held t holds.holds.typed (plain_in g c t a holds) c.in-Ok.collected (c.in-Ok.ensures.collects t a holds)))

pub returns-clause-saves : goal.returns-clause-saves
returns-clause-saves g c t a held =
    let plain = plain_in g (goal.at.returns-clause-saves g c).After-as_slice-2 t a held in
    let left = c.collect_objects.ensures.leaves t a held in
    saves c.answered.result c.write_ordered.result c.answered.ensures t held.holds.typed plain c.in-Ok.collected (c.in-Ok.ensures.collects t a held) c.in-Ok-Some.commands.items
    (subst (λ ts. AreTypeCommands ts c.in-Ok-Some.commands.items) (ap (λ (x : TypeTable). x.declarations) c.types.ensures ∙ held.holds.types) (rw c.in-Ok-Some.field-0-is at c.in-Ok-Some.ensures.declare))
    c.types-2.result.now.declarations (ap (λ (x : TypeTable). x.declarations) c.types-2.ensures ∙ left.holds.holds.types)
    c.as_slice.result.now c.as_slice.ensures.value c.as_slice-2.result.now c.as_slice-2.ensures.value (λ (v : Vec ℕ Global). v.items) c.write_ordered.ensures.some c.write_ordered.ensures.none

pub returns-clause-leaves : goal.returns-clause-leaves
returns-clause-leaves g c t a held = c.collect_objects.ensures.leaves t a held

pub returns-clause-untouched : goal.returns-clause-untouched
returns-clause-untouched g c is = absurd (not_plain c.answered.result c.write_ordered.result c.answered.ensures is)
