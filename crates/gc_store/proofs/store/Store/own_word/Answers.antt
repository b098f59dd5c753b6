use Rattle.std.proofs.Common.{◌≡◌, ap, sym, ◌∙◌, subst, arith}
use Rattle.std.specs.Prelude.{OnOk}
use Rattle.gc_model.specs.Stores.{StoreView}
use Rattle.gc_values.specs.declared.root.RootSlot.TheVariants as slot
use Rattle.gc_values.specs.Words.{owned_id}
use Rattle.gc_store.specs.OwnedWords.{HoldsThere, AddsOwned}
use Rattle.gc_store.proofs.OwningRoots.{owned_full_is, owns_left, owns_word}
use Rattle.gc_store.proofs.store.Store.own_word.Goals as goal

pub add_owned-requires-clause-numbered : goal.add_owned-requires-clause-numbered
add_owned-requires-clause-numbered g c =
    owns_left c.args.self.now c.owns.result (c.owns.ensures ∙ ap (λ (s : StoreView g.row.D.Denot). s.owns) c.self.view_is) (omega arith) (sym c.owned_is_full.ensures ∙ c.if-owned_is_full.false)

pub returns-then-owned_is_full-clause-owns : goal.returns-then-owned_is_full-clause-owns
returns-then-owned_is_full-clause-owns g c = λ t place a r there is. (
  sym (owned_full_is g.H.GcHeap.KIND c.args.self.now t place there.0 c.requires.trimmed) ∙ sym c.owned_is_full.ensures ∙ c.if-owned_is_full.true,
  record { place = place; holds = there.0; account = there.1 },
)

pub returns-in-Ok-clause-owns : goal.returns-in-Ok-clause-owns
returns-in-Ok-clause-owns g c = λ t place a r there is.
    let engine : c.self.inside.id.engine ≡ c.add_owned.new.self.engine = ap (λ (s : StoreView g.row.D.Denot). s.engine) c.self.view_is ∙ sym c.add_owned.ensures.same.engine in
    let number : c.self.inside.id.number ≡ c.add_owned.new.self.number = ap (λ (s : StoreView g.row.D.Denot). s.number) c.self.view_is ∙ sym c.add_owned.ensures.same.number in
    let made : c.owns.result ≡ c.args.self.now.owns = c.owns.ensures ∙ ap (λ (s : StoreView g.row.D.Denot). s.owns) c.self.view_is in
    owns_word g.H.GcHeap.KIND c.args.self.now c.add_owned.new.self c.args.word c.owned_handle-made.result
    (c.owned_handle-made.ensures ∙ (λ i. record { store_id = record { engine = engine i; number = number i }; generation = made i; slot = slot.Owned (owned_id (made i)) }))
    (sym c.owned_is_full.ensures ∙ c.if-owned_is_full.false) c.requires.trimmed
    (subst (λ x. OnOk x (AddsOwned g.H.GcHeap.KIND c.args.self.now c.args.word c.add_owned.new.self)) c.in-Ok.is c.add_owned.ensures.ok) t place a r there is

pub returns-in-Err-clause-owns : goal.returns-in-Err-clause-owns
returns-in-Err-clause-owns g c = λ t place a r there is.
    let now : HoldsThere g.H.GcHeap.KIND c.add_owned.new.self t place a = subst (λ (s : StoreView g.row.D.Denot). HoldsThere g.H.GcHeap.KIND s t place a) (sym c.in-Err.ensures.err) there in
    record { place = place; holds = now.0; account = now.1 }
