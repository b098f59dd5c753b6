-- The pending exception of a store, set, taken and told.
use Rattle.std.proofs.Common.{◌≡◌, ℕ, ◌<◌, List, true, false, Option, Some, None, Ok, Err, length, sym, ap, ◌∙◌, refl, subst, arith}
use Rattle.std.proofs.lemmas.Option.{none-some}
use Rattle.gc_types.specs.declared.kind.Layouts.{Layouts}
use Rattle.gc_owner.specs.Owners.{OwnerView, ChangesRoots}
use Rattle.gc_model.specs.Values.{Reference, at, Object}
use Rattle.gc_model.specs.Table.{Table, push}
use Rattle.gc_model.specs.Pending.{with_pending, take_pending}
use Rattle.gc_model.specs.Stores.{StoreView}
use Rattle.gc_model.specs.Holds.{Placing, IsWord, Holds, IsException, ThrownBy}
use Rattle.gc_model.proofs.HoldsPending.{holds_pending_set}
use Rattle.gc_model.specs.Accounts.{Account, IsAccount, HoldsAccount}
use Rattle.gc_model.proofs.AccountLemmas.{account_kept}
use Rattle.gc_values.specs.declared.config.HeapConfig.{HeapConfig}
use Rattle.gc_values.specs.declared.engine.StoreId.{StoreId}
use Rattle.gc_values.specs.declared.root.GcRootIndex.{GcRootIndex}
use Rattle.gc_values.specs.declared.root.RootFault.{RootFault}
use Rattle.gc_values.specs.declared.root.RootFault.TheVariants as fault
use Rattle.gc_values.specs.declared.root.RootedObject.{RootedObject}
use Rattle.gc_values.specs.declared.root.RootedObject.TheVariants as rooted_object
use Rattle.gc_store.specs.Handles.{PushesRoot}
use Rattle.gc_store.specs.Roots.{handle_of, word_of, is_of_store, IsRootWord, IsObject, IsReference}
use Rattle.gc_store.specs.Stores.{StoreTables, store_view, IsSoundStore, IsSameStore}
use Rattle.gc_values.specs.SlotCounts.{slot_counts}
use Rattle.gc_store.specs.Thrown.{SetsPending, AnswersPending}
use Rattle.gc_store.proofs.HandleWords.{word_of-wrong, names_nothing}

module _ {D : Type 0} (layouts : Layouts) (s : StoreView D) (t : Table D) (place : Placing) (holds : Holds layouts s t place) (handle : GcRootIndex) where
  sets_fault : (a : Account) (new : StoreView D) (own : _) (f : RootFault) → is_of_store s handle ≡ own → word_of s handle ≡ Err f → SetsPending layouts s t a handle (Err f) new
  sets_fault a new true f own is =
      let none = names_nothing layouts s t place holds handle f own is in
      subst (λ (x : RootFault). SetsPending layouts s t a handle (Err x) new) (sym none.0) (own, none.1)
  sets_fault a new false f other is =
      let both : Err fault.WrongStore ≡ Err f = sym (word_of-wrong s handle other) ∙ is in
      let wrong : fault.WrongStore ≡ f = grind (arith, both) in
      subst (λ (x : RootFault). SetsPending layouts s t a handle (Err x) new) wrong other

  -- a handle without a word is another store's, or not live
  pub refuses_pending : (a : Account) (new : StoreView D) (f : RootFault) → word_of s handle ≡ Err f → SetsPending layouts s t a handle (Err f) new
  refuses_pending a new f is = sets_fault a new (is_of_store s handle) f refl is

-- what is to be pending is an exception with that word
pub is_thrown : {D : Type 0} (objects : List (Object D)) (place : Placing) (r : Reference) (word : ℕ) → IsWord place r word → 0 < word → IsException objects r → ThrownBy objects place (Some r) word
is_thrown objects place r word is positive names = record {
  same_word = (is, positive);
  thrown = λ q e. let same : r ≡ q = grind (arith, e) in subst (λ (x : Reference). IsException objects x) same names;
}

-- none is
pub none_thrown : {D : Type 0} (objects : List (Object D)) (place : Placing) → ThrownBy objects place None 0
none_thrown objects place = record { same_word = refl; thrown = λ r e. absurd (none-some r e) }

-- an owner has another word of a pending exception
module _ {D : Type 0} (layouts : Layouts) (id : StoreId) (config : HeapConfig) (tables : StoreTables) (tries : ℕ) (old new : OwnerView D) (word : ℕ) (changes : ChangesRoots old new (record old.roots { pending = word })) where
  abbrev before : StoreView D
  before = store_view id config tables old tries

  abbrev after : StoreView D
  after = store_view id config tables new tries

  -- so the store holds the table with that one pending, and the same account
  pub pending_was_set : (t : Table D) (place : Placing) (a : Account) (pending : Option Reference) → Holds layouts before t place → IsAccount layouts before place a → ThrownBy t.objects place pending word → HoldsAccount layouts after (with_pending pending t) a
  pending_was_set t place a pending holds account thrown =
      subst (λ (v : OwnerView D). HoldsAccount layouts (store_view id config tables v tries) (with_pending pending t) a) (sym changes.rest) (record {
        place = place;
        holds = holds_pending_set layouts before t place pending word new.heap holds thrown changes.held;
        account = account_kept before _ place a refl refl changes.held.needs_gc account;
      })

  -- and is sound
  pub sound_pending : (counts : List ℕ) (pending : Option Reference) (sound : IsSoundStore D layouts counts old before) → ThrownBy sound.table.objects sound.holds.place pending word → IsSoundStore D layouts counts new after
  sound_pending counts pending sound thrown = record {
    idle = ap (λ (v : OwnerView D). v.idle) changes.rest ∙ sound.idle;
    engine = ap (λ (v : OwnerView D). v.types.engine) changes.rest ∙ sound.engine;
    number = ap (λ (v : OwnerView D). v.types.number) changes.rest ∙ sound.number;
    frames = sound.frames ∙ ap (λ (v : OwnerView D). slot_counts (store_view id config tables v tries).frames) (sym changes.rest);
    table = with_pending pending sound.table;
    account = sound.account;
    holds = pending_was_set sound.table sound.holds.place sound.account pending sound.holds.holds sound.holds.account thrown;
  }

-- what is pending by the word of it
pub data IsPending {D : Type 0} (t : Table D) (place : Placing) (word : ℕ) : Type 0 where
  nothing : t.pending ≡ None → word ≡ 0 → IsPending t place word
  this : (r : Reference) → t.pending ≡ Some r → IsWord place r word → 0 < word → IsException t.objects r → IsPending t place word

pending_by : {D : Type 0} (t : Table D) (place : Placing) (word : ℕ) (pending : Option Reference) → t.pending ≡ pending → ThrownBy t.objects place pending word → IsPending t place word
pending_by t place word None e by = nothing e by.same_word
pending_by t place word (Some r) e by = this r e by.same_word.0 by.same_word.1 (by.thrown r refl)

module _ {D : Type 0} (layouts : Layouts) (s : StoreView D) (t : Table D) (place : Placing) (holds : Holds layouts s t place) (word : ℕ) (is : word ≡ s.pending) where
  pub pending_is : IsPending t place word
  pending_is = subst (λ (w : ℕ). IsPending t place w) (sym is) (pending_by t place s.pending t.pending refl holds.pending)

  -- where its word is 0 none is pending
  pub none_pending : word ≡ 0 → t.pending ≡ None
  none_pending zero = elim pending_is [
    | nothing none null ↦ none
    | this r e is_word positive names ↦ absurd (omega (arith, zero, positive))
  ]

  -- else one is, and its word is that of a root
  pub some_pending : 0 < word → (r : Reference) × ((t.pending ≡ Some r) × (IsWord place r word × IsException t.objects r))
  some_pending positive = elim pending_is [
    | nothing none null ↦ absurd (omega (arith, null, positive))
    | this r e is_word above names ↦ (r, (e, (is_word, names)))
  ]

  pub pending_word : 0 < word → IsRootWord D layouts s word
  pending_word positive =
      let some = some_pending positive in
      record { table = t; place = place; holds = holds; root = some.0; is_word = some.1.1.0; not_null = positive }

  pub not_none : 0 < word → ¬ (t.pending ≡ None)
  not_none positive none = let some = some_pending positive in none-some some.0 (sym none ∙ some.1.0)

-- what an exception is told to be
pub told_exception : {D : Type 0} (t : Table D) (r : Reference) (is : IsException t.objects r) (answer : RootedObject) → IsReference t r answer → answer ≡ rooted_object.Exn is.ty is.tag
told_exception t r is answer told =
    let at_position : IsReference t (at is.position) answer = subst (λ (x : Reference). IsReference t x answer) is.reference_is told in
    subst (λ (o : Option (Object _)). IsObject o answer) is.object_is at_position

-- the root of the exception that was taken
module _ {D : Type 0} (layouts : Layouts) (s : StoreView D) (t : Table D) (a : Account) (holds : HoldsAccount layouts s t a) (word : ℕ) (is : word ≡ s.pending) (positive : 0 < word) where
  abbrev pending : (r : Reference) × ((t.pending ≡ Some r) × (IsWord holds.place r word × IsException t.objects r))
  pending = some_pending layouts s t holds.place holds.holds word is positive

  pub takes_it : (handle : GcRootIndex) (mid new : StoreView D) → PushesRoot layouts t a pending.0 (Ok handle) mid → (HoldsAccount layouts mid (push pending.0 t) a → HoldsAccount layouts new (take_pending (push pending.0 t)) a) → IsSameStore mid new
      → AnswersPending layouts t a (Ok (Some handle)) new
  takes_it handle mid new pushes clears same = record {
    root = pending.0;
    was_pending = pending.1.0;
    not_full = pushes.0;
    handle_is = pushes.1.0 ∙ (λ i. record {
      store_id = record { engine = sym same.engine i; number = sym same.number i };
      generation = t.drops;
      slot = (handle_of mid (length t.scoped) t.drops).slot;
    });
    holds = clears pushes.1.1;
  }

  -- or it stays pending
  pub keeps_it : (f : RootFault) (new : StoreView D) → PushesRoot layouts t a pending.0 (Err f) new → AnswersPending layouts t a (Err f) new
  keeps_it fault.WrongStore new pushes = absurd pushes
  keeps_it fault.Unrooted new pushes = absurd pushes
  keeps_it fault.RootsFull new pushes = record { root = pending.0; is_pending = pending.1.0; full = pushes.0; holds = pushes.1 }
  keeps_it fault.Memory new pushes = (not_none layouts s t holds.place holds.holds word is positive, pushes)
