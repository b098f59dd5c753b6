-- Which reference a handle names: that is decided, and the store tells it.
use Rattle.std.proofs.Common.{inl, inr, ◌≡◌, ◌⊎◌, ℕ, zero, suc, Bool, true, false, ◌&&◌, nat_eq, List, [], ◌∷◌, Option, Some, None, Result, Ok, Err, sym, ap, ◌∙◌, refl, subst, arith}
use Rattle.std.specs.List.{slice_get}
use Rattle.std.proofs.lemmas.Grind.{common_steps}
use Rattle.std.proofs.lemmas.Option.{none-some}
use Rattle.gc_types.specs.declared.kind.Layouts.{Layouts}
use Rattle.gc_model.specs.Values.{Reference}
use Rattle.gc_model.specs.Table.{Table, Push}
use Rattle.gc_model.specs.Live.{rooted}
use Rattle.gc_model.specs.OwnedRoots.{owned_reference}
use Rattle.gc_model.specs.Stores.{StoreView}
use Rattle.gc_model.specs.Holds.{HoldsTable}
use Rattle.gc_values.specs.declared.root.GcRootIndex.{GcRootIndex}
use Rattle.gc_values.specs.declared.root.RootSlot.{RootSlot}
use Rattle.gc_values.specs.declared.root.RootSlot.TheVariants as slot
use Rattle.gc_values.specs.declared.root.RootFault.{RootFault}
use Rattle.gc_values.specs.declared.root.RootFault.TheVariants as fault
use Rattle.gc_values.specs.declared.root.RootedObject.{RootedObject}
use Rattle.gc_values.specs.Words.{owned_id}
use Rattle.gc_store.specs.Roots.{is_of_store, handle_of, owned_handle, NamesReference, NamesNothing, TellsReference, IsReference}
use Rattle.gc_objects.specs.Answered.{Answers}

pub bool_cases : (b : Bool) → (b ≡ true) ⊎ (b ≡ false)
bool_cases true = inl refl
bool_cases false = inr refl

-- a test that is true says so of what it tests
pub found_true : {r b : Bool} → b ≡ r → b ≡ true → r ≡ true
found_true e is = sym e ∙ is

pub both : (a b : Bool) → a ≡ true → b ≡ true → (a && b) ≡ true
both true true first second = refl
both true false first second = second
both false b first second = absurd (cc first)

-- an element of a list with a property is found, or there is none, where the property is decided
abbrev Found : {A : Type 0} → (ℕ → A → Type 0) → List A → Type 0
Found {A} Has xs = (i : ℕ) × ((x : A) × ((slice_get xs i ≡ Some x) × Has i x))

behind : {A : Type 0} (y : A) (ys : List A) (Has : ℕ → A → Type 0) → ¬ Has 0 y → ((i : ℕ) (x : A) → slice_get ys i ≡ Some x → ¬ Has (suc i) x) → (i : ℕ) (x : A) → slice_get (y ∷ ys) i ≡ Some x → ¬ Has i x
behind y ys Has not none zero x e has = let same : y ≡ x = grind (arith, e) in not (subst (Has 0) (sym same) has)
behind y ys Has not none (suc i) x e has = none i x e has

find : {A : Type 0} (xs : List A) (Has : ℕ → A → Type 0) → ((i : ℕ) (x : A) → Has i x ⊎ ¬ Has i x)
    → Found Has xs ⊎ ((i : ℕ) (x : A) → slice_get xs i ≡ Some x → ¬ Has i x)
find [] Has decide = inr (λ i x e. absurd (none-some x e))
find (y ∷ ys) Has decide =
    elim (decide 0 y) [
      | inl has ↦ inl (0, (y, (refl, has)))
      | inr not ↦ elim (find ys (λ i x. Has (suc i) x) (λ i x. decide (suc i) x)) [
        | inl found ↦ inl (suc found.0, (found.1.0, found.1.1))
        | inr none ↦ inr (behind y ys Has not none)
      ]
    ]

module _ {D : Type 0} (s : StoreView D) (t : Table D) (handle : GcRootIndex) where
  -- a handle that names a reference is the store's
  pub names_own : (r : Reference) → NamesReference s t handle r → is_of_store s handle ≡ true
  names_own r (inl named) = ap (is_of_store s) named.names.is ∙ grind (arith, common_steps)
  names_own r (inr named) = ap (is_of_store s) named.names ∙ grind (arith, common_steps)

  same_engine : is_of_store s handle ≡ true → handle.store_id.engine ≡ s.engine
  same_engine own = grind (arith, common_steps, own)

  same_number : is_of_store s handle ≡ true → handle.store_id.number ≡ s.number
  same_number own = grind (arith, common_steps, own)

  is_made : (own : is_of_store s handle ≡ true) (index generation : ℕ) → handle.slot ≡ slot.Scoped index → handle.generation ≡ generation → handle ≡ handle_of s index generation
  is_made own index generation slot_is generation_is i = record {
    store_id = record { engine = (same_engine own i); number = (same_number own i) };
    generation = generation_is i;
    slot = slot_is i;
  }

  -- whether the handle is that of a push
  is_handle : (own : is_of_store s handle ≡ true) (index : ℕ) → handle.slot ≡ slot.Scoped index → (p : Push) → (handle ≡ handle_of s p.index p.generation) ⊎ ¬ (handle ≡ handle_of s p.index p.generation)
  is_handle own index slot_is p =
      elim (bool_cases (nat_eq index p.index)) [
        | inl same ↦ elim (bool_cases (nat_eq handle.generation p.generation)) [
          | inl again ↦ inl (is_made own p.index p.generation (slot_is ∙ ap slot.Scoped (grind (arith, common_steps, same))) (grind (arith, common_steps, again)))
          | inr other ↦ inr (λ e. let g : handle.generation ≡ p.generation = ap (λ (h : GcRootIndex). h.generation) e in absurd (grind (arith, common_steps, other, g)))
        ]
        | inr other ↦ inr (λ e. let scoped : slot.Scoped index ≡ slot.Scoped p.index = sym slot_is ∙ ap (λ (h : GcRootIndex). h.slot) e in let i : index ≡ p.index = grind (arith, scoped) in absurd (grind (arith, common_steps, other, i)))
      ]

  -- the push of that serial is the handle's, and its root is live
  record IsLiveAt (serial : ℕ) (p : Push) : Type 0 where
    is : handle ≡ handle_of s p.index p.generation
    root : Reference
    live : rooted t serial ≡ Some root

  root_or_none : (o : Option Reference) → ((r : Reference) × (o ≡ Some r)) ⊎ (o ≡ None)
  root_or_none None = inr refl
  root_or_none (Some r) = inl (r, refl)

  live_or_not : (own : is_of_store s handle ≡ true) (index : ℕ) → handle.slot ≡ slot.Scoped index → (serial : ℕ) (p : Push) → IsLiveAt serial p ⊎ ¬ IsLiveAt serial p
  live_or_not own index slot_is serial p =
      elim (is_handle own index slot_is p) [
        | inl is ↦ elim (root_or_none (rooted t serial)) [
          | inl live ↦ inl (record { is = is; root = live.0; live = live.1 })
          | inr gone ↦ inr (λ at. absurd (none-some at.root (sym gone ∙ at.live)))
        ]
        | inr other ↦ inr (λ at. other at.is)
      ]

  abbrev Decided : Type 0
  Decided = ((r : Reference) × NamesReference s t handle r) ⊎ NamesNothing s t handle

  -- no push is the handle's and has a root that stands, so a scoped handle names nothing
  no_scoped : (index : ℕ) → handle.slot ≡ slot.Scoped index → ((i : ℕ) (p : Push) → slice_get t.pushes i ≡ Some p → ¬ IsLiveAt i p) → NamesNothing s t handle
  no_scoped index slot_is none r (inl named) = none named.serial named.names.push named.names.pushed (record { is = named.names.is; root = r; live = named.live })
  no_scoped index slot_is none r (inr named) =
      let same : slot.Scoped index ≡ slot.Owned (owned_id named.number) = sym slot_is ∙ ap (λ (h : GcRootIndex). h.slot) named.names in
      cc same

  -- no owned root of its number has handles, or its id is another number's, so an owned handle names nothing
  no_owned : (id : ℕ) → handle.slot ≡ slot.Owned id → ¬ ((id ≡ owned_id handle.generation) × ((r : Reference) × (owned_reference t handle.generation ≡ Some r))) → NamesNothing s t handle
  no_owned id slot_is none r (inl named) =
      let same : slot.Owned id ≡ slot.Scoped named.names.push.index = sym slot_is ∙ ap (λ (h : GcRootIndex). h.slot) named.names.is in
      cc same
  no_owned id slot_is none r (inr named) =
      let number_is : handle.generation ≡ named.number = ap (λ (h : GcRootIndex). h.generation) named.names in
      let same : slot.Owned id ≡ slot.Owned (owned_id named.number) = sym slot_is ∙ ap (λ (h : GcRootIndex). h.slot) named.names in
      let id_is : id ≡ owned_id named.number = grind (arith, same) in
      none (id_is ∙ ap owned_id (sym number_is), (r, ap (owned_reference t) number_is ∙ named.live))

  is_owned : (own : is_of_store s handle ≡ true) (id : ℕ) → handle.slot ≡ slot.Owned id → id ≡ owned_id handle.generation → handle ≡ owned_handle s handle.generation
  is_owned own id slot_is id_is i = record {
    store_id = record { engine = (same_engine own i); number = (same_number own i) };
    generation = handle.generation;
    slot = ((slot_is ∙ ap slot.Owned id_is) i);
  }

  by_slot : is_of_store s handle ≡ true → (sl : RootSlot) → handle.slot ≡ sl → Decided
  by_slot own (slot.Scoped index) slot_is =
      elim (find t.pushes IsLiveAt (live_or_not own index slot_is)) [
        | inl found ↦ inl (
          found.1.1.1.root,
          inl (record { serial = found.0; names = record { push = found.1.0; pushed = found.1.1.0; is = found.1.1.1.is }; live = found.1.1.1.live }),
        )
        | inr none ↦ inr (no_scoped index slot_is none)
      ]
  by_slot own (slot.Owned id) slot_is =
      elim (bool_cases (nat_eq id (owned_id handle.generation))) [
        | inl same ↦
            let id_is : id ≡ owned_id handle.generation = grind (arith, common_steps, same) in
            elim (root_or_none (owned_reference t handle.generation)) [
              | inl live ↦ inl (live.0, inr (record { number = handle.generation; names = is_owned own id slot_is id_is; live = live.1 }))
              | inr gone ↦ inr (no_owned id slot_is (λ both. none-some both.1.0 (sym gone ∙ both.1.1)))
            ]
        | inr other ↦ inr (no_owned id slot_is (λ both. let is : id ≡ owned_id handle.generation = both.0 in absurd (grind (arith, common_steps, other, is))))
      ]

  -- a handle names a reference, or none
  pub named_or_not : Decided
  named_or_not =
      elim (bool_cases (is_of_store s handle)) [
        | inl own ↦ by_slot own handle.slot refl
        | inr other ↦ inr (λ r named. absurd (cc (sym (names_own r named) ∙ other)))
      ]

  -- another store's handle names nothing here
  pub other_names_nothing : is_of_store s handle ≡ false → NamesNothing s t handle
  other_names_nothing other r named = absurd (cc (sym (names_own r named) ∙ other))

-- What the store says of a handle is what it names.
module _ {D : Type 0} (layouts : Layouts) (s : StoreView D) (handle : GcRootIndex) where
  pub object_answers : (result : Result RootedObject RootFault)
      → (is_of_store s handle ≡ false → result ≡ Err fault.WrongStore)
      → ((t : Table D) (r : Reference) → HoldsTable layouts s t → NamesReference s t handle r → TellsReference t r result)
      → (is_of_store s handle ≡ true → (t : Table D) → HoldsTable layouts s t → NamesNothing s t handle → result ≡ Err fault.Unrooted)
      → (t : Table D) → HoldsTable layouts s t → Answers s t (is_of_store s handle) handle (IsReference t) result
  object_answers (Ok x) wrong live gone t holds =
      elim (named_or_not s t handle) [
        | inl named ↦ (names_own s t handle named.0 named.1, (named.0, (named.1, live t named.0 holds named.1)))
        | inr nothing ↦ elim (bool_cases (is_of_store s handle)) [
          | inl own ↦ absurd (cc (gone own t holds nothing))
          | inr other ↦ absurd (cc (wrong other))
        ]
      ]
  object_answers (Err fault.WrongStore) wrong live gone t holds =
      elim (bool_cases (is_of_store s handle)) [
        | inl own ↦ absurd (cc (gone own t holds (λ r named. live t r holds named)))
        | inr other ↦ other
      ]
  object_answers (Err fault.Unrooted) wrong live gone t holds =
      elim (bool_cases (is_of_store s handle)) [
        | inl own ↦ (own, λ r named. live t r holds named)
        | inr other ↦ absurd (cc (wrong other))
      ]
  object_answers (Err fault.RootsFull) wrong live gone t holds =
      elim (bool_cases (is_of_store s handle)) [
        | inl own ↦ absurd (cc (gone own t holds (λ r named. live t r holds named)))
        | inr other ↦ absurd (cc (wrong other))
      ]
  object_answers (Err fault.Memory) wrong live gone t holds =
      elim (bool_cases (is_of_store s handle)) [
        | inl own ↦ absurd (cc (gone own t holds (λ r named. live t r holds named)))
        | inr other ↦ absurd (cc (wrong other))
      ]
