-- A table on which roots were pushed, and what handles name in it.
use Rattle.std.proofs.Common.{inl, inr, ◌≡◌, ◌≢◌, ◌⊎◌, ℕ, ◌+◌, ◌-◌, ◌^◌, ◌==◌, ◌<◌, ◌≤◌, suc, List, [], ◌∷◌, ◌++◌, length, Some, Result, Ok, Err, Bool, true, false, cond, eqb, nat_le, ◌||◌, sym, ap, ◌∙◌, refl, arith}
use Rattle.std.specs.List.{slice_get}
use Rattle.std.specs.Result.{IsErrAnd}
use Rattle.std.proofs.lemmas.Grind.{common_steps}
use Rattle.std.proofs.lemmas.Bool.Decides.{nat_tests}
use Rattle.std.proofs.lemmas.List.{append-nil, append_assoc, length-append, length_push}
use Rattle.std.proofs.lemmas.Option.{none-some, slice_get_within, slice_get_cases}
use Rattle.gc_types.specs.declared.kind.Layouts.{Layouts}
use Rattle.gc_owner.specs.declared.entry.RootEntry.{RootEntry}
use Rattle.gc_model.specs.Values.{Reference}
use Rattle.gc_model.specs.Table.{Table, Scoped, Push, push}
use Rattle.gc_model.specs.Live.{rooted_among, roots_full}
use Rattle.gc_model.specs.Stores.{StoreView}
use Rattle.gc_model.specs.Holds.{Placing, Holds}
use Rattle.gc_model.proofs.Lists.{slice_get-push_new, slice_get-push_old}
use Rattle.gc_values.specs.declared.root.GcRootIndex.{GcRootIndex}
use Rattle.gc_values.specs.declared.root.RootSlot.TheVariants as slot
use Rattle.gc_values.specs.Words.{owned_id}
use Rattle.gc_store.specs.Roots.{NamesReference, handle_of}
use Rattle.gc_store.specs.Stores.{IsSameStore}
use Rattle.gc_paths.specs.Answers.{LacksRoots}
use Rattle.gc_paths.specs.Progress.{Grown}

module _ {D : Type 0} where
  -- nothing was pushed yet
  pub grown_none : (t : Table D) → Grown t t 0
  grown_none t = record {
    scoped = [];
    pushes = [];
    is = λ i. record t { scoped = sym (append-nil t.scoped) i; pushes = sym (append-nil t.pushes) i };
    scoped_count = refl;
    push_count = refl;
    free = λ some. absurd (omega (arith, some));
  }

  -- one more root was pushed
  pub grown_push : (t now : Table D) (count : ℕ) (r : Reference) → Grown t now count → t.drops ≢ 2 ^ 64 - 1 → Grown t (push r now) (count + 1)
  grown_push t now count r grown free =
      let x : Scoped = record { serial = length now.pushes; reference = r } in
      let p : Push = record { index = length now.scoped; generation = now.drops } in
      record {
        scoped = grown.scoped ++ x ∷ [];
        pushes = grown.pushes ++ p ∷ [];
        is = ap (λ (v : Table D). record v { scoped = v.scoped ++ x ∷ []; pushes = v.pushes ++ p ∷ [] }) grown.is
            ∙ (λ i. record t { scoped = append_assoc t.scoped grown.scoped (x ∷ []) i; pushes = append_assoc t.pushes grown.pushes (p ∷ []) i });
        scoped_count = length_push grown.scoped x ∙ ap (λ n. n + 1) grown.scoped_count;
        push_count = length_push grown.pushes p ∙ ap (λ n. n + 1) grown.push_count;
        free = λ some. free;
      }

  pub grown_objects : (t now : Table D) (count : ℕ) → Grown t now count → now.objects ≡ t.objects
  grown_objects t now count grown = ap (λ (v : Table D). v.objects) grown.is

  pub grown_scoped : (t now : Table D) (count : ℕ) → Grown t now count → length now.scoped ≡ length t.scoped + count
  grown_scoped t now count grown =
      ap (λ (v : Table D). length v.scoped) grown.is ∙ length-append t.scoped grown.scoped ∙ ap (λ n. length t.scoped + n) grown.scoped_count

  pub grown_drops : (t now : Table D) (count : ℕ) → Grown t now count → now.drops ≡ t.drops
  grown_drops t now count grown = ap (λ (v : Table D). v.drops) grown.is

  pub grown_most : (t now : Table D) (count : ℕ) → Grown t now count → now.max_scoped ≡ t.max_scoped
  grown_most t now count grown = ap (λ (v : Table D). v.max_scoped) grown.is

  full_cases : (t : Table D) → roots_full t ≡ true → (t.max_scoped ≤ length t.scoped) ⊎ (t.drops ≡ 2 ^ 64 - 1)
  full_cases t full = by (nat_le t.max_scoped (length t.scoped)) refl (t.drops == 2 ^ 64 - 1) refl full
    where
      by : (a : Bool) → nat_le t.max_scoped (length t.scoped) ≡ a → (b : Bool) → (t.drops == 2 ^ 64 - 1) ≡ b → (a || b) ≡ true → (t.max_scoped ≤ length t.scoped) ⊎ (t.drops ≡ 2 ^ 64 - 1)
      by true is b other e = inl (grind (arith, nat_tests, is))
      by false is true other e = inr (grind (arith, nat_tests, other))
      by false is false other e = absurd (cc)

  -- where no root may be pushed any more, there is no room for one more
  pub full_lacks : (t now : Table D) (count : ℕ) → Grown t now count → roots_full now ≡ true → LacksRoots t (count + 1)
  full_lacks t now count grown full =
      let stand = grown_scoped t now count grown in
      let most = grown_most t now count grown in
      elim (full_cases now full) [
        | inl all ↦ inl (omega (arith, all, stand, most))
        | inr ended ↦ inr (sym (grown_drops t now count grown) ∙ ended, omega arith)
      ]

  -- where one may be, the scope ends aren't counted to their end
  pub free_drops : (t now : Table D) (count : ℕ) → Grown t now count → roots_full now ≡ false → t.drops ≢ 2 ^ 64 - 1
  free_drops t now count grown free ended =
      let is : now.drops ≡ 2 ^ 64 - 1 = grown_drops t now count grown ∙ ended in
      absurd (grind (arith, nat_tests, free, is))

  -- more than are lacking are lacking too
  pub lacks_more : (t : Table D) (count more : ℕ) → count ≤ more → LacksRoots t count → LacksRoots t more
  lacks_more t count more below (inl past) = inl (omega (arith, below, past))
  lacks_more t count more below (inr (ended, some)) = inr (ended, omega (arith, below, some))

-- a root is found by its serial where one more stands behind
rooted_still : (serial : ℕ) (roots : List Scoped) (x : Scoped) (r : Reference) → rooted_among serial roots ≡ Some r → rooted_among serial (roots ++ x ∷ []) ≡ Some r
rooted_still serial [] x r e = absurd (none-some r e)
rooted_still serial (root ∷ roots) x r e =
    elim (eqb root.serial serial) as (λ b. cond b (Some root.reference) (rooted_among serial roots) ≡ Some r → cond b (Some root.reference) (rooted_among serial (roots ++ x ∷ [])) ≡ Some r) [
      | true ↦ λ h. h
      | false ↦ λ h. rooted_still serial roots x r h
    ] e

-- a root at the end is found by its serial, where no other has it
rooted_at_end : (serial : ℕ) (roots : List Scoped) (r : Reference) → ((i : ℕ) (root : Scoped) → slice_get roots i ≡ Some root → root.serial ≢ serial) → rooted_among serial (roots ++ record { serial = serial; reference = r } ∷ []) ≡ Some r
rooted_at_end serial [] r differ =
    let test : eqb serial serial ≡ true = grind (arith, common_steps) in
    ap (λ b. cond b (Some r) (rooted_among serial [])) test
rooted_at_end serial (x ∷ roots) r differ =
    let ne : x.serial ≢ serial = differ 0 x refl in
    let test : eqb x.serial serial ≡ false = grind (arith, common_steps) in
    ap (λ b. cond b (Some x.reference) (rooted_among serial (roots ++ record { serial = serial; reference = r } ∷ []))) test
    ∙ rooted_at_end serial roots r (λ i. differ (suc i))

abbrev scoped_handle : ℕ → ℕ → ℕ → ℕ → GcRootIndex
scoped_handle engine store_number index generation = record {
  store_id = record { engine = engine; number = store_number };
  generation = generation;
  slot = slot.Scoped index;
}

abbrev owned_in : ℕ → ℕ → ℕ → GcRootIndex
owned_in engine store_number n = record {
  store_id = record { engine = engine; number = store_number };
  generation = n;
  slot = slot.Owned (owned_id n);
}

module _ {D : Type 0} (s new : StoreView D) (same : IsSameStore s new) where
  scoped_same : (h : GcRootIndex) (index generation : ℕ) → h ≡ handle_of s index generation → h ≡ handle_of new index generation
  scoped_same h index generation is =
      is ∙ (λ i. scoped_handle (sym same.engine i) (sym same.number i) index generation)

  owned_same : (h : GcRootIndex) (n : ℕ) → h ≡ owned_in s.engine s.number n → h ≡ owned_in new.engine new.number n
  owned_same h n is = is ∙ (λ i. owned_in (sym same.engine i) (sym same.number i) n)

  -- a handle names the same in the store after, where one more root stands
  pub named_pushed : (t : Table D) (q : Reference) (h : GcRootIndex) (r : Reference) → NamesReference s t h r → NamesReference new (push q t) h r
  named_pushed t q h r (inl named) = inl (record {
    serial = named.serial;
    names = record {
      push = named.names.push;
      pushed = slice_get-push_old t.pushes (record { index = length t.scoped; generation = t.drops }) named.serial named.names.push named.names.pushed;
      is = scoped_same h named.names.push.index named.names.push.generation named.names.is;
    };
    live = rooted_still named.serial t.scoped (record { serial = length t.pushes; reference = q }) r named.live;
  })
  named_pushed t q h r (inr named) = inr (record { number = named.number; names = owned_same h named.number named.names; live = named.live })

  -- and where none was pushed
  pub named_same : (t : Table D) (h : GcRootIndex) (r : Reference) → NamesReference s t h r → NamesReference new t h r
  named_same t h r (inl named) = inl (record {
    serial = named.serial;
    names = record { push = named.names.push; pushed = named.names.pushed; is = scoped_same h named.names.push.index named.names.push.generation named.names.is };
    live = named.live;
  })
  named_same t h r (inr named) = inr (record { number = named.number; names = owned_same h named.number named.names; live = named.live })

module _ {D : Type 0} (layouts : Layouts) (s : StoreView D) (t : Table D) (place : Placing) (holds : Holds layouts s t place) where
  -- the roots that stand are of pushes that were made
  serial_before : (i : ℕ) (root : Scoped) → slice_get t.scoped i ≡ Some root → root.serial < length t.pushes
  serial_before i root e =
      let entry : (entry : RootEntry) × (slice_get s.scoped i ≡ Some entry) =
      elim ((slice_get_cases s.scoped i).1) [
        | inl found ↦ (found.0, found.2)
        | inr past ↦ absurd (omega (arith, past.0, holds.scoped.same_count, slice_get_within t.scoped i root e))
      ] in
      slice_get_within t.pushes root.serial _ ((holds.scoped.each i entry.0 root entry.1 e).pushed)

  -- the handle of a new root names what it was pushed for
  pub new_named : (new : StoreView D) (r : Reference) (h : GcRootIndex) → h ≡ handle_of new (length t.scoped) t.drops → NamesReference new (push r t) h r
  new_named new r h is = inl (record {
    serial = length t.pushes;
    names = record {
      push = record { index = length t.scoped; generation = t.drops };
      pushed = slice_get-push_new t.pushes (record { index = length t.scoped; generation = t.drops });
      is = is;
    };
    live = rooted_at_end (length t.pushes) t.scoped r (λ i root e found. let before = serial_before i root e in omega (arith, before, found));
  })

-- a store is the same as itself, and as one that is the same as another
pub same_itself : {D : Type 0} (s : StoreView D) → IsSameStore s s
same_itself s = record { engine = refl; number = refl; counter = refl }

pub same_twice : {D : Type 0} (a b c : StoreView D) → IsSameStore a b → IsSameStore b c → IsSameStore a c
same_twice a b c one two = record { engine = two.engine ∙ one.engine; number = two.number ∙ one.number; counter = two.counter ∙ one.counter }

-- an error that is handed on
pub err_is : {A E : Type 0} (r : Result A E) (why : E) → IsErrAnd r (λ (e : E). e ≡ why) → r ≡ Err why
err_is (Ok x) why told = absurd told
err_is (Err e) why told = ap Err told
