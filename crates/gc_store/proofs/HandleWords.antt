-- What a handle's word tells of the table: what its root is, or that it is none.
use Rattle.std.proofs.Common.{◌≡◌, ◌≢◌, ℕ, ◌<◌, inl, inr, Bool, true, false, cond, nat_eq, Option, Some, None, Result, Ok, Err, refl, sym, ap, ◌∙◌, subst, arith}
use Rattle.std.specs.List.{slice_get}
use Rattle.std.proofs.lemmas.Bool.{cases_eq, eq-eqb, ne_eqb}
use Rattle.std.proofs.lemmas.Grind.{common_steps}
use Rattle.std.proofs.lemmas.Option.{none-some}
use Rattle.gc_types.specs.declared.kind.Layouts.{Layouts}
use Rattle.gc_owner.specs.declared.entry.RootEntry.{RootEntry}
use Rattle.gc_owner.specs.declared.entry.OwnedEntry.{OwnedEntry}
use Rattle.gc_model.specs.Values.{Reference}
use Rattle.gc_model.specs.Table.{Table}
use Rattle.gc_model.specs.OwnedRoots.{owned_among}
use Rattle.gc_model.specs.Stores.{StoreView}
use Rattle.gc_model.specs.Holds.{Placing, IsWord, Holds}
use Rattle.gc_model.proofs.Live.{live_word, dead_word, entry_stands}
use Rattle.gc_model.proofs.OwnedRoots.{owned_found, owned_one}
use Rattle.gc_model.proofs.Words.{word_same}
use Rattle.gc_values.specs.declared.root.GcRootIndex.{GcRootIndex}
use Rattle.gc_values.specs.declared.root.RootSlot.{RootSlot}
use Rattle.gc_values.specs.declared.root.RootSlot.TheVariants as slot
use Rattle.gc_values.specs.declared.root.RootFault.{RootFault}
use Rattle.gc_values.specs.declared.root.RootFault.TheVariants as fault
use Rattle.gc_store.specs.Roots.{NamesSerial, word_of, is_of_store, owned_handle, NamesReference, NamesScoped, NamesOwned, NamesNothing, IsRootWord}
use Rattle.gc_store.specs.Slots.{FindsWord}
use Rattle.gc_values.specs.Words.{word_at, entry_word, owned_word, owned_at, owned_id}
use Rattle.gc_values.proofs.OwnedWords.{owned_here, owned_there, owned_word-ok, owned_word-err, tested-ok}

-- what a handle with a word names
pub record NamesWord {D : Type 0} (s : StoreView D) (t : Table D) (place : Placing) (handle : GcRootIndex) (word : ℕ) : Type 0 where
  pub root : Reference
  pub named : NamesReference s t handle root
  pub is_word : IsWord place root word
  pub not_null : 0 < word

-- By entries

entry_word-ok : (o : Option RootEntry) (generation word : ℕ) → entry_word o generation ≡ Ok word → (entry : RootEntry) × ((o ≡ Some entry) × ((entry.generation ≡ generation) × (entry.word ≡ word)))
entry_word-ok None generation word e = absurd (cc)
entry_word-ok (Some entry) generation word e = (entry, (refl, grind (arith, common_steps, e)))

entry_word-err : (o : Option RootEntry) (generation : ℕ) (f : RootFault) → entry_word o generation ≡ Err f → (f ≡ fault.Unrooted) × ((entry : RootEntry) → o ≡ Some entry → entry.generation ≢ generation)
entry_word-err None generation f e = (grind (arith, e), λ entry h. absurd (cc))
entry_word-err (Some entry) generation f e =
    (grind (arith, common_steps, e), λ other h same. let is : entry ≡ other = grind (arith, h) in let g : entry.generation ≡ generation = ap (λ (x : RootEntry). x.generation) is ∙ same in absurd (grind (arith, common_steps, e, g)))

-- Ids of a store

pub same_store : {D : Type 0} (s : StoreView D) (handle : GcRootIndex) → is_of_store s handle ≡ true → (handle.store_id.engine ≡ s.engine) × (handle.store_id.number ≡ s.number)
same_store s handle own = (grind (arith, common_steps, own), grind (arith, common_steps, own))

pub owned-of_store : {D : Type 0} (s : StoreView D) (number : ℕ) → is_of_store s (owned_handle s number) ≡ true
owned-of_store s number = grind (arith, common_steps)

-- the handle of a push is the store's
pub names-store : {D : Type 0} (s : StoreView D) (t : Table D) (handle : GcRootIndex) (serial : ℕ) → NamesSerial s t handle serial → is_of_store s handle ≡ true
names-store s t handle serial names = ap (is_of_store s) names.is ∙ grind (arith, common_steps)

-- a handle that names something is the store's
pub named_of_store : {D : Type 0} (s : StoreView D) (t : Table D) (handle : GcRootIndex) (r : Reference) → NamesReference s t handle r → is_of_store s handle ≡ true
named_of_store s t handle r (inl scoped) = names-store s t handle scoped.serial scoped.names
named_of_store s t handle r (inr owned) = ap (is_of_store s) owned.names ∙ owned-of_store s owned.number

-- another store's handle
pub word_of-wrong : {D : Type 0} (s : StoreView D) (handle : GcRootIndex) → is_of_store s handle ≡ false → word_of s handle ≡ Err fault.WrongStore
word_of-wrong s handle wrong = ap (λ b. cond b (word_at s.scoped s.owned handle.slot handle.generation) (Err fault.WrongStore)) wrong

-- the store's own
pub own_word : {D : Type 0} (s : StoreView D) (handle : GcRootIndex) → is_of_store s handle ≡ true → word_of s handle ≡ word_at s.scoped s.owned handle.slot handle.generation
own_word s handle own = ap (λ b. cond b (word_at s.scoped s.owned handle.slot handle.generation) (Err fault.WrongStore)) own

module _ {D : Type 0} (layouts : Layouts) (s : StoreView D) (t : Table D) (place : Placing) (holds : Holds layouts s t place) (handle : GcRootIndex) where
  -- A handle with a word

  scoped_names : (index word : ℕ) → is_of_store s handle ≡ true → handle.slot ≡ slot.Scoped index → entry_word (slice_get s.scoped index) handle.generation ≡ Ok word → NamesWord s t place handle word
  scoped_names index word own is e =
      let found = entry_word-ok (slice_get s.scoped index) handle.generation word e in
      let stands = entry_stands layouts s t place holds index found.0 found.1.0 in
      let live = live_word layouts s t place holds stands.0.serial (record { index = index; generation = found.0.generation }) stands.1.1.pushed found.0 found.1.0 refl in
      let id = same_store s handle own in
      record {
        root = live.0;
        named = inl (record {
          serial = stands.0.serial;
          names = record {
            push = record { index = index; generation = found.0.generation };
            pushed = stands.1.1.pushed;
            is = λ i. record { store_id = record { engine = id.0 i; number = id.1 i }; generation = sym found.1.1.0 i; slot = is i };
          };
          live = live.1.0;
        });
        is_word = subst (IsWord place live.0) found.1.1.1 live.1.1;
        not_null = subst (λ w. 0 < w) found.1.1.1 live.1.2;
      }

  owned_names : (id word : ℕ) → is_of_store s handle ≡ true → handle.slot ≡ slot.Owned id → word_at s.scoped s.owned (slot.Owned id) handle.generation ≡ Ok word → NamesWord s t place handle word
  owned_names id word own is e =
      let tested = tested-ok (nat_eq id (owned_id handle.generation)) (owned_word (owned_at handle.generation s.owned)) fault.Unrooted word e in
      let entry = owned_word-ok (owned_at handle.generation s.owned) word tested.1 in
      let there = owned_there handle.generation s.owned entry.0 entry.1.0 in
      let found = holds.owned.in_table entry.0 there.0 entry.1.1.0 in
      let stands = found.1.1 in
      let numbered : found.0.number ≡ handle.generation = sym stands.number ∙ there.1 in
      let ids = same_store s handle own in
      let same_id : id ≡ owned_id handle.generation = elim (cases_eq id (owned_id handle.generation)) [
        | inl same ↦ same
        | inr differ ↦ absurd (let both : false ≡ true = sym (ne_eqb id (owned_id handle.generation) differ) ∙ tested.0 in cc)
      ] in
      record {
        root = found.0.reference;
        named = inr (record {
          number = handle.generation;
          names = λ i. record { store_id = record { engine = ids.0 i; number = ids.1 i }; generation = handle.generation; slot = (is ∙ ap (λ n. slot.Owned n) same_id) i };
          live = ap (λ n. owned_among n t.owned) (sym numbered) ∙ owned_found t.owned found.0 holds.owned.in_order found.1.0;
        });
        is_word = subst (IsWord place found.0.reference) entry.1.1.1 stands.word;
        not_null = subst (λ w. 0 < w) entry.1.1.1 stands.not_null;
      }

  slot_names : (sl : RootSlot) (word : ℕ) → is_of_store s handle ≡ true → handle.slot ≡ sl → word_at s.scoped s.owned sl handle.generation ≡ Ok word → NamesWord s t place handle word
  slot_names (slot.Scoped index) word own is e = scoped_names index word own is e
  slot_names (slot.Owned id) word own is e = owned_names id word own is e

  -- names what has that word
  pub names_word : (word : ℕ) → word_of s handle ≡ Ok word → NamesWord s t place handle word
  names_word word e =
      let chose = tested-ok (is_of_store s handle) (word_at s.scoped s.owned handle.slot handle.generation) fault.WrongStore word e in
      slot_names handle.slot word chose.0 refl chose.1

  pub root_word : (word : ℕ) → word_of s handle ≡ Ok word → IsRootWord D layouts s word
  root_word word e =
      let is = names_word word e in
      record { table = t; place = place; holds = holds; root = is.root; is_word = is.is_word; not_null = is.not_null }

  -- A handle that names something has its word

  scoped_word : (r : Reference) → NamesScoped s t handle r → (f : RootFault) → word_at s.scoped s.owned handle.slot handle.generation ≡ Err f → ⊥
  scoped_word r named f e =
      let names = named.names in
      let slot_is : word_at s.scoped s.owned handle.slot handle.generation ≡ entry_word (slice_get s.scoped names.push.index) names.push.generation =
      ap (λ (h : GcRootIndex). word_at s.scoped s.owned h.slot h.generation) names.is in
      let no = entry_word-err (slice_get s.scoped names.push.index) names.push.generation f (sym slot_is ∙ e) in
      none-some r (sym (dead_word layouts s t place holds named.serial names.push names.pushed no.1) ∙ named.live)

  owned_named : (r : Reference) → NamesOwned s t handle r → (f : RootFault) → word_at s.scoped s.owned handle.slot handle.generation ≡ Err f → ⊥
  owned_named r named f e =
      let root = owned_one named.number t.owned r named.live in
      let entry = holds.owned.in_store root.0 root.1.0 in
      let numbered : entry.0.number ≡ named.number = entry.1.1.number ∙ root.1.1.0 in
      let at : owned_at named.number s.owned ≡ Some entry.0 = ap (λ n. owned_at n s.owned) (sym numbered) ∙ owned_here s.owned entry.0 holds.owned.rising entry.1.0 in
      let slot_is : word_at s.scoped s.owned handle.slot handle.generation ≡ owned_word (owned_at named.number s.owned) =
      ap (λ (h : GcRootIndex). word_at s.scoped s.owned h.slot h.generation) named.names
      ∙ ap (λ b. cond b (owned_word (owned_at named.number s.owned)) (Err fault.Unrooted)) (eq-eqb (owned_id named.number) (owned_id named.number) refl) in
      let none = (owned_word-err (owned_at named.number s.owned) f (sym slot_is ∙ e)).1 entry.0 at in
      let same = entry.1.1.handles in
      let held = entry.1.1.held in
      absurd (omega (arith, none, same, held))

  unrooted_slot : (sl : RootSlot) (f : RootFault) → word_at s.scoped s.owned sl handle.generation ≡ Err f → f ≡ fault.Unrooted
  unrooted_slot (slot.Scoped index) f e = (entry_word-err (slice_get s.scoped index) handle.generation f e).0
  unrooted_slot (slot.Owned id) f e = elim (nat_eq id (owned_id handle.generation)) as (λ b. cond b (owned_word (owned_at handle.generation s.owned)) (Err fault.Unrooted) ≡ Err f → f ≡ fault.Unrooted) [
    | true ↦ λ h. (owned_word-err (owned_at handle.generation s.owned) f h).0
    | false ↦ λ h. grind (arith, h)
  ] e

  -- so one of the store's that has no word names nothing
  pub names_nothing : (f : RootFault) → is_of_store s handle ≡ true → word_of s handle ≡ Err f → (f ≡ fault.Unrooted) × NamesNothing s t handle
  names_nothing f own e = (unrooted_slot handle.slot f (sym (own_word s handle own) ∙ e), nothing)
    where
      nothing : (r : Reference) → NamesReference s t handle r → ⊥
      nothing r (inl scoped) = scoped_word r scoped f (sym (own_word s handle own) ∙ e)
      nothing r (inr owned) = owned_named r owned f (sym (own_word s handle own) ∙ e)

  scoped_has : (r : Reference) → NamesScoped s t handle r → (word : ℕ) → word_at s.scoped s.owned handle.slot handle.generation ≡ Ok word → IsWord place r word × (0 < word)
  scoped_has r named word e =
      let names = named.names in
      let slot_is : word_at s.scoped s.owned handle.slot handle.generation ≡ entry_word (slice_get s.scoped names.push.index) names.push.generation =
      ap (λ (h : GcRootIndex). word_at s.scoped s.owned h.slot h.generation) names.is in
      let found = entry_word-ok (slice_get s.scoped names.push.index) names.push.generation word (sym slot_is ∙ e) in
      let live = live_word layouts s t place holds named.serial names.push names.pushed found.0 found.1.0 found.1.1.0 in
      let both : Some live.0 ≡ Some r = sym live.1.0 ∙ named.live in
      let same : live.0 ≡ r = grind (arith, both) in
      (subst (λ (q : Reference). IsWord place q word) same (subst (IsWord place live.0) found.1.1.1 live.1.1), subst (λ w. 0 < w) found.1.1.1 live.1.2)

  owned_has : (r : Reference) → NamesOwned s t handle r → (word : ℕ) → word_at s.scoped s.owned handle.slot handle.generation ≡ Ok word → IsWord place r word × (0 < word)
  owned_has r named word e =
      let root = owned_one named.number t.owned r named.live in
      let entry = holds.owned.in_store root.0 root.1.0 in
      let numbered : entry.0.number ≡ named.number = entry.1.1.number ∙ root.1.1.0 in
      let at : owned_at named.number s.owned ≡ Some entry.0 = ap (λ n. owned_at n s.owned) (sym numbered) ∙ owned_here s.owned entry.0 holds.owned.rising entry.1.0 in
      let slot_is : word_at s.scoped s.owned handle.slot handle.generation ≡ owned_word (owned_at named.number s.owned) =
      ap (λ (h : GcRootIndex). word_at s.scoped s.owned h.slot h.generation) named.names
      ∙ ap (λ b. cond b (owned_word (owned_at named.number s.owned)) (Err fault.Unrooted)) (eq-eqb (owned_id named.number) (owned_id named.number) refl) in
      let found = owned_word-ok (owned_at named.number s.owned) word (sym slot_is ∙ e) in
      let both : Some found.0 ≡ Some entry.0 = sym found.1.0 ∙ at in
      let one : found.0 ≡ entry.0 = grind (arith, both) in
      let word_is : entry.0.word ≡ word = ap (λ (x : OwnedEntry). x.word) (sym one) ∙ found.1.1.1 in
      (subst (IsWord place r) word_is (subst (λ (q : Reference). IsWord place q entry.0.word) root.1.1.1 entry.1.1.word), subst (λ w. 0 < w) word_is entry.1.1.not_null)

  -- and one that names something has its word
  pub named_word : (r : Reference) (word : ℕ) → NamesReference s t handle r → word_of s handle ≡ Ok word → IsWord place r word × (0 < word)
  named_word r word (inl scoped) e = scoped_has r scoped word (sym (own_word s handle (named_of_store s t handle r (inl scoped))) ∙ e)
  named_word r word (inr owned) e = owned_has r owned word (sym (own_word s handle (named_of_store s t handle r (inr owned))) ∙ e)

  pub never_gone : (r : Reference) (f : RootFault) → NamesReference s t handle r → word_of s handle ≡ Err f → ⊥
  never_gone r f named e = (names_nothing f (named_of_store s t handle r named) e).1 r named

  pub live_has_word : (r : Reference) → NamesReference s t handle r → (word : ℕ) × (word_of s handle ≡ Ok word)
  live_has_word r named = by (word_of s handle) refl
    where
      by : (answer : Result ℕ RootFault) → word_of s handle ≡ answer → (word : ℕ) × (word_of s handle ≡ Ok word)
      by (Ok word) is = (word, is)
      by (Err f) is = absurd (never_gone r f named is)

  -- it names one reference, whose word is not null
  pub named_held : (r : Reference) → NamesReference s t handle r → (word : ℕ) × (IsWord place r word × (0 < word))
  named_held r named = let word = live_has_word r named in (word.0, named_word r word.0 named word.1)

  pub named_alone : (r q : Reference) → NamesReference s t handle r → NamesReference s t handle q → r ≡ q
  named_alone r q named other =
      let word = live_has_word r named in
      (word_same layouts t place s.heap holds.objects r q word.0 word.0 (named_word r word.0 named word.1).0 (named_word q word.0 other word.1).0).0 refl

  -- so one that names nothing has none
  pub never_named : (word : ℕ) → NamesNothing s t handle → word_of s handle ≡ Ok word → ⊥
  never_named word nothing e = let names = names_word word e in nothing names.root names.named

  -- what a slot is given of it

  finds_fault : (own : Bool) (f : RootFault) → is_of_store s handle ≡ own → word_of s handle ≡ Err f → FindsWord s t place (Some handle) (Err f)
  finds_fault true f own is =
      let nothing = names_nothing f own is in
      subst (λ (x : RootFault). FindsWord s t place (Some handle) (Err x)) (sym nothing.0) (own, nothing.1)
  finds_fault false f other is =
      let both : Err fault.WrongStore ≡ Err f = sym (word_of-wrong s handle other) ∙ is in
      let wrong : fault.WrongStore ≡ f = grind (arith, both) in
      subst (λ (x : RootFault). FindsWord s t place (Some handle) (Err x)) wrong other

  -- a handle has the word of what it names, or a fault says why not
  pub finds_word : (answer : _) → word_of s handle ≡ answer → FindsWord s t place (Some handle) answer
  finds_word (Ok word) is =
      let names = names_word word is in
      (names.root, (names.named, names.is_word))
  finds_word (Err f) is = finds_fault (is_of_store s handle) f refl is
