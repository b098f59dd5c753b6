-- An owned root is made by its word, where the owned roots were trimmed.
use Rattle.std.proofs.Common.{◌≡◌, ℕ, ◌-◌, ◌^◌, ◌<◌, ◌≤◌, ◌||◌, ◌==◌, inl, inr, Bool, true, false, nat_le, nat_eq, List, [], ◌∷◌, length, map, get_or, Result, Ok, Err, Contains, AllPairs, refl, sym, ap, ◌∙◌, subst, arith}
use Rattle.std.specs.Prelude.{OnOk, OnErr}
use Rattle.std.specs.List.{IsDistinct, sum_by}
use Rattle.std.proofs.lemmas.Bool.{cases_lt, ne_eqb, eqb-false}
use Rattle.std.proofs.lemmas.Bool.Decides.{nat_tests}
use Rattle.std.proofs.lemmas.List.{length-map}
use Rattle.std.proofs.lemmas.List.Sums.{sum_by-cons}
use Rattle.std.proofs.lemmas.Map.Keys.{IsDistinct-from_apart}
use Rattle.gc_types.specs.declared.kind.Layouts.{Layouts}
use Rattle.gc_owner.specs.declared.entry.OwnedEntry.{OwnedEntry}
use Rattle.gc_owner.specs.RootColumns.{with_places}
use Rattle.gc_owner.specs.Owners.{OwnerView, OwnsRoot, Trims}
use Rattle.gc_model.specs.Values.{Reference}
use Rattle.gc_model.specs.Table.{Table, Owned}
use Rattle.gc_model.specs.OwnedRoots.{own, owned_full}
use Rattle.gc_model.specs.RootPoints.{OwnedBy}
use Rattle.gc_model.specs.Stores.{StoreView}
use Rattle.gc_model.specs.Holds.{Placing, IsWord, Holds}
use Rattle.gc_model.proofs.Members.{map_among, among_map, pairs_map}
use Rattle.gc_model.proofs.OwnedRoots.{trimmed_held}
use Rattle.gc_model.proofs.HoldsOwned.{holds_owned, holds_trimmed}
use Rattle.gc_model.proofs.HeldSums.{sum_part}
use Rattle.gc_model.specs.Accounts.{Account, HoldsAccount}
use Rattle.gc_model.proofs.AccountLemmas.{account_kept, own_account}
use Rattle.gc_values.specs.declared.config.HeapConfig.{HeapConfig}
use Rattle.gc_values.specs.declared.engine.StoreId.{StoreId}
use Rattle.gc_values.specs.declared.root.GcRootIndex.{GcRootIndex}
use Rattle.gc_values.specs.declared.root.RootFault.{RootFault}
use Rattle.gc_values.specs.declared.root.RootFault.TheVariants as fault
use Rattle.gc_store.specs.Roots.{owned_handle, is_of_store, word_of, IsRootWord, NamesReference}
use Rattle.gc_store.specs.OwnedRoots.{MakesOwned}
use Rattle.gc_store.proofs.HandleWords.{word_of-wrong, names_nothing}
use Rattle.gc_store.specs.OwnedWords.{HoldsThere, IsTrimmed, AddsOwned, OwnsWord, owned_is_full}
use Rattle.gc_store.specs.Stores.{StoreTables, store_view, IsSoundStore}
use Rattle.gc_values.proofs.Keeping.{counts_of}

-- Lists of rising numbers, of which one has those of the other, are no longer

ones : (ns : List ℕ) → sum_by (λ (n : ℕ). 1) ns ≡ length ns
ones [] = refl
ones (n ∷ ns) = sum_by-cons (λ (n : ℕ). 1) n ns ∙ (let rest = ones ns in omega (arith, rest))

distinct : (ns : List ℕ) → AllPairs (λ (m n : ℕ). m < n) ns → IsDistinct nat_eq ns
distinct ns rising = IsDistinct-from_apart nat_eq ns (λ i j d less inside. ne_eqb (get_or ns i d) (get_or ns j d) (λ same. let up = rising i j d less inside in absurd (omega (arith, up, same))))

no_longer : (ns ms : List ℕ) → AllPairs (λ (m n : ℕ). m < n) ns → ((n : ℕ) → Contains ns n → Contains ms n) → length ns ≤ length ms
no_longer ns ms rising within =
    let part = sum_part (λ (n : ℕ). 1) ns ms (distinct ns rising) within in
    let few = ones ns in
    let many = ones ms in
    omega (arith, part, few, many)

abbrev entry_number : OwnedEntry → ℕ
entry_number e = e.number

abbrev root_number : Owned → ℕ
root_number root = root.number

module _ (place : Placing) (owns count : ℕ) (owned : List Owned) (entries : List OwnedEntry) (by : OwnedBy place owns count owned entries) where
  -- no more are the table's than the store's
  pub owned_within : length owned ≤ length entries
  owned_within =
      let fewer = no_longer (map root_number owned) (map entry_number entries) (pairs_map (λ (m n : ℕ). m < n) root_number owned by.in_order) (λ n c.
      let root = map_among root_number owned n c in
      let found = by.in_store root.of root.among in
      subst (Contains (map entry_number entries)) (found.1.1.number ∙ root.is) (among_map entry_number entries found.0 found.1.0)) in
      omega (arith, fewer, length-map owned root_number, length-map entries entry_number)

  -- and as many, where each has handles
  pub owned_as_many : ((e : OwnedEntry) → Contains entries e → 0 < e.handles) → length entries ≤ length owned
  owned_as_many held =
      let fewer = no_longer (map entry_number entries) (map root_number owned) (pairs_map (λ (m n : ℕ). m < n) entry_number entries by.rising) (λ n c.
      let entry = map_among entry_number entries n c in
      let found = by.in_table entry.of entry.among (held entry.of entry.among) in
      subst (Contains (map root_number owned)) (sym found.1.1.number ∙ entry.is) (among_map root_number owned found.0 found.1.0)) in
      omega (arith, fewer, length-map owned root_number, length-map entries entry_number)

-- the store may make one exactly where the table may
pub owned_full_is : {D : Type 0} (layouts : Layouts) (s : StoreView D) (t : Table D) (place : Placing) → Holds layouts s t place → IsTrimmed s → owned_is_full s ≡ owned_full t
owned_full_is layouts s t place holds trimmed =
    ap (λ b. b || (s.owns == 2 ^ 64 - 1)) tests ∙ ap (λ n. nat_le t.max_owned (length t.owned) || (n == 2 ^ 64 - 1)) holds.owned.same_owns
  where
    tests : nat_le s.max_owned (length s.owned) ≡ nat_le t.max_owned (length t.owned)
    tests =
        let within = owned_within place t.owns s.owns t.owned s.owned holds.owned in
        let most = holds.settings.max_owned in
        elim (cases_lt (length s.owned) s.max_owned) [
          | inl below ↦ grind (arith, nat_tests, below, within, most)
          | inr above ↦ let many = owned_as_many place t.owns s.owns t.owned s.owned holds.owned (trimmed above) in grind (arith, nat_tests, above, many, most)
        ]

-- and where it may, a number is left for it
number_left : (full : Bool) (n : ℕ) → (full || (n == 2 ^ 64 - 1)) ≡ false → n < 2 ^ 64 → n < 2 ^ 64 - 1
number_left true n e fits = absurd (cc)
number_left false n e fits = let differ = eqb-false n (2 ^ 64 - 1) e in omega (arith, differ, fits)

pub owns_left : {D : Type 0} (s : StoreView D) (n : ℕ) → n ≡ s.owns → n < 2 ^ 64 → owned_is_full s ≡ false → s.owns < 2 ^ 64 - 1
owns_left s n is fits free = number_left (nat_le s.max_owned (length s.owned)) s.owns free (subst (λ m. m < 2 ^ 64) is fits)

-- An owner was trimmed

module _ {D : Type 0} (layouts : Layouts) (id : StoreId) (config : HeapConfig) (tables : StoreTables) (tries : ℕ) (old new : OwnerView D) (trims : Trims layouts old new) where
  abbrev before : StoreView D
  before = store_view id config tables old tries

  abbrev after : StoreView D
  after = store_view id config tables new tries

  -- so the store holds the same table
  pub trimmed_there : (t : Table D) (place : Placing) (a : Account) → HoldsThere layouts before t place a → HoldsThere layouts after t place a
  trimmed_there t place a there = (
    subst (λ (v : OwnerView D). Holds layouts (store_view id config tables v tries) t place) (sym trims.changes.rest) (holds_trimmed layouts before t place there.0 new.heap trims.changes.held),
    account_kept before after place a (ap (λ (v : OwnerView D). v.last) trims.changes.rest) refl trims.changes.held.needs_gc there.1,
  )

  pub is_trimmed : IsTrimmed after
  is_trimmed = λ full. subst (λ (v : OwnerView D). (e : OwnedEntry) → Contains v.roots.owned e → 0 < e.handles) (sym trims.changes.rest) (trimmed_held old.roots.owned)

  pub sound_trimmed : (counts : List ℕ) → IsSoundStore D layouts counts old before → IsSoundStore D layouts counts new after
  sound_trimmed counts sound =
      let there = trimmed_there sound.table sound.holds.place sound.account (sound.holds.holds, sound.holds.account) in
      record {
        idle = ap (λ (v : OwnerView D). v.idle) trims.changes.rest ∙ sound.idle;
        engine = ap (λ (v : OwnerView D). v.types.engine) trims.changes.rest ∙ sound.engine;
        number = ap (λ (v : OwnerView D). v.types.number) trims.changes.rest ∙ sound.number;
        frames = sound.frames ∙ ap counts_of (sym trims.changes.rest);
        table = sound.table;
        account = sound.account;
        holds = record { place = sound.holds.place; holds = there.0; account = there.1 };
      }

-- An owner made an owned root

module _ {D : Type 0} (layouts : Layouts) (id : StoreId) (config : HeapConfig) (tables : StoreTables) (tries : ℕ) (old new : OwnerView D) (word : ℕ) (owns : OwnsRoot old new word) where
  abbrev store_before : StoreView D
  store_before = store_view id config tables old tries

  abbrev store_after : StoreView D
  store_after = store_view id config tables new tries

  account_owned : (t : Table D) (place : Placing) (a : Account) (r : Reference) → HoldsThere layouts store_before t place a → IsWord place r word → 0 < word → HoldsAccount layouts store_after (own r t) a
  account_owned t place a r there is positive =
      subst (λ (v : OwnerView D). HoldsAccount layouts (store_view id config tables v tries) (own r t) a) (sym owns.rest) (record {
        place = place;
        holds = holds_owned layouts store_before t place there.0 new.heap (record { number = old.roots.owns; handles = 1; word = word }) r owns.held refl refl is positive;
        account = account_kept store_before _ place a refl refl owns.held.needs_gc there.1;
      })

  pub sound_owned : (counts : List ℕ) → IsSoundStore D layouts counts old store_before → IsRootWord D layouts store_before word → IsSoundStore D layouts counts new store_after
  sound_owned counts sound is = let own_one = own_account layouts store_before is.table is.place is.holds in record {
    idle = ap (λ (v : OwnerView D). v.idle) owns.rest ∙ sound.idle;
    engine = ap (λ (v : OwnerView D). v.types.engine) owns.rest ∙ sound.engine;
    number = ap (λ (v : OwnerView D). v.types.number) owns.rest ∙ sound.number;
    frames = sound.frames ∙ ap counts_of (sym owns.rest);
    table = own is.root is.table;
    account = own_one.0;
    holds = account_owned is.table is.place own_one.0 is.root (is.holds, own_one.1) is.is_word is.not_null;
  }

-- whether it was made or memory was wanting

module _ {D : Type 0} (layouts : Layouts) (id : StoreId) (config : HeapConfig) (tables : StoreTables) (tries : ℕ) (old new : OwnerView D) (word : ℕ) where
  pub sound_either : {E : Type 0} (result : Result (Unit {0}) E) (counts : List ℕ) → OnOk result (OwnsRoot old new word) → OnErr result (new ≡ record old { roots = with_places new.roots old.roots })
      → IsSoundStore D layouts counts old (store_view id config tables old tries) → IsRootWord D layouts (store_view id config tables old tries) word → IsSoundStore D layouts counts new (store_view id config tables new tries)
  sound_either (Ok done) counts ok err sound is = sound_owned layouts id config tables tries old new word ok counts sound is
  sound_either (Err e) counts ok err sound is = subst (λ (v : OwnerView D). IsSoundStore D layouts counts v (store_view id config tables v tries)) (sym err) (record {
    idle = sound.idle;
    engine = sound.engine;
    number = sound.number;
    frames = sound.frames;
    table = sound.table;
    account = sound.account;
    holds = sound.holds;
  })

  pub added_ok : {E : Type 0} (result : Result (Unit {0}) E) → OnOk result (OwnsRoot old new word) → 0 < word → OnOk result (AddsOwned layouts (store_view id config tables old tries) word (store_view id config tables new tries))
  added_ok (Ok done) ok positive = λ t place a r there is. account_owned layouts id config tables tries old new word ok t place a r there is positive
  added_ok (Err e) ok positive = tt

  pub added_err : {E : Type 0} (result : Result (Unit {0}) E) → OnErr result (new ≡ record old { roots = with_places new.roots old.roots }) → OnErr result (store_view id config tables new tries ≡ store_view id config tables old tries)
  added_err (Ok done) err = tt
  added_err (Err e) err = ap (λ (v : OwnerView D). store_view id config tables v tries) err

-- the answer, once it was added
pub owns_word : {D : Type 0} (layouts : Layouts) (s new : StoreView D) (word : ℕ) (made : GcRootIndex) → made ≡ owned_handle new s.owns → owned_is_full s ≡ false → IsTrimmed s → AddsOwned layouts s word new
    → (t : Table D) (place : Placing) (a : Account) (r : Reference) → HoldsThere layouts s t place a → IsWord place r word → OwnsWord layouts t a r (Ok made) new
owns_word layouts s new word made made_is free trimmed adds t place a r there is = (
  sym (owned_full_is layouts s t place there.0 trimmed) ∙ free,
  (made_is ∙ ap (owned_handle new) there.0.owned.same_owns, adds t place a r there is),
)

-- The answer of the whole call

module _ {D : Type 0} (layouts : Layouts) (s : StoreView D) (t : Table D) (a : Account) (handle : GcRootIndex) (new : StoreView D) where
  -- once the word is known
  pub makes_owned : (r : Reference) → NamesReference s t handle r → (result : Result GcRootIndex RootFault) → OwnsWord layouts t a r result new → MakesOwned layouts s t a handle result new
  makes_owned r named (Ok made) owns = record { reference = r; named = named; room = owns.0; made_is = owns.1.0; holds = owns.1.1 }
  makes_owned r named (Err fault.WrongStore) owns = absurd owns
  makes_owned r named (Err fault.Unrooted) owns = absurd owns
  makes_owned r named (Err fault.RootsFull) owns = (r, (named, (owns.0, owns.1)))
  makes_owned r named (Err fault.Memory) owns = owns

  -- or the handle has none
  pub refuses_owned : (place : Placing) → Holds layouts s t place → HoldsAccount layouts new t a → (own : Bool) (f : RootFault) → is_of_store s handle ≡ own → word_of s handle ≡ Err f → MakesOwned layouts s t a handle (Err f) new
  refuses_owned place holds after true f own is =
      let nothing = names_nothing layouts s t place holds handle f own is in
      subst (λ (x : RootFault). MakesOwned layouts s t a handle (Err x) new) (sym nothing.0) (own, (nothing.1, after))
  refuses_owned place holds after false f other is =
      let both : Err fault.WrongStore ≡ Err f = sym (word_of-wrong s handle other) ∙ is in
      let wrong : fault.WrongStore ≡ f = grind (arith, both) in
      subst (λ (x : RootFault). MakesOwned layouts s t a handle (Err x) new) wrong (other, after)
