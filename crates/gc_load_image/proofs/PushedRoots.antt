-- What handles name where one more root stands, or none.
use Rattle.std.proofs.Common.{inl, inr, ◌≡◌, ◌≢◌, ℕ, ◌<◌, suc, List, [], ◌∷◌, ◌++◌, length, Some, true, false, cond, eqb, sym, ap, ◌∙◌, refl, arith}
use Rattle.std.specs.List.{slice_get}
use Rattle.std.proofs.lemmas.Grind.{common_steps}
use Rattle.std.proofs.lemmas.Option.{none-some, slice_get_within, slice_get_cases}
use Rattle.gc_types.specs.declared.kind.Layouts.{Layouts}
use Rattle.gc_owner.specs.declared.entry.RootEntry.{RootEntry}
use Rattle.gc_model.specs.Values.{Reference}
use Rattle.gc_model.specs.Table.{Table, Scoped, push}
use Rattle.gc_model.specs.Live.{rooted_among}
use Rattle.gc_model.specs.Stores.{StoreView}
use Rattle.gc_model.specs.Holds.{Placing, Holds}
use Rattle.gc_model.proofs.Lists.{slice_get-push_new, slice_get-push_old}
use Rattle.gc_values.specs.declared.root.GcRootIndex.{GcRootIndex}
use Rattle.gc_values.specs.declared.root.RootSlot.TheVariants as slot
use Rattle.gc_values.specs.Words.{owned_id}
use Rattle.gc_store.specs.Roots.{NamesReference, handle_of}
use Rattle.gc_store.specs.Stores.{IsSameStore}

-- a root is found by its serial where one more stands behind
rooted_still : (serial : ℕ) (roots : List Scoped) (x : Scoped) (r : Reference) → rooted_among serial roots ≡ Some r → rooted_among serial (roots ++ x ∷ []) ≡ Some r
rooted_still serial [] x r e = absurd (none-some r e)
rooted_still serial (root ∷ roots) x r e =
    elim (eqb root.serial serial) as (λ b. cond b (Some root.reference) (rooted_among serial roots) ≡ Some r → cond b (Some root.reference) (rooted_among serial (roots ++ x ∷ [])) ≡ Some r) [
      | true ↦ λ h. h
      | false ↦ λ h. rooted_still serial roots x r h
    ] e

-- a root at the end is found by its serial, where no other has it
rooted_at_end : (serial : ℕ) (roots : List Scoped) (r : Reference) → ((i : ℕ) (root : Scoped) → slice_get roots i ≡ Some root → root.serial ≢ serial) → rooted_among serial (roots ++ record { serial = serial; reference = r } ∷ []) ≡ Some r
rooted_at_end serial [] r differ =
    let test : eqb serial serial ≡ true = grind (arith, common_steps) in
    ap (λ b. cond b (Some r) (rooted_among serial [])) test
rooted_at_end serial (x ∷ roots) r differ =
    let ne : x.serial ≢ serial = differ 0 x refl in
    let test : eqb x.serial serial ≡ false = grind (arith, common_steps) in
    ap (λ b. cond b (Some x.reference) (rooted_among serial (roots ++ record { serial = serial; reference = r } ∷ []))) test
    ∙ rooted_at_end serial roots r (λ i. differ (suc i))

abbrev scoped_handle : ℕ → ℕ → ℕ → ℕ → GcRootIndex
scoped_handle engine store_number index generation = record {
  store_id = record { engine = engine; number = store_number };
  generation = generation;
  slot = slot.Scoped index;
}

abbrev owned_in : ℕ → ℕ → ℕ → GcRootIndex
owned_in engine store_number n = record {
  store_id = record { engine = engine; number = store_number };
  generation = n;
  slot = slot.Owned (owned_id n);
}

module _ {D : Type 0} (s new : StoreView D) (same : IsSameStore s new) where
  scoped_same : (h : GcRootIndex) (index generation : ℕ) → h ≡ handle_of s index generation → h ≡ handle_of new index generation
  scoped_same h index generation is =
      is ∙ (λ i. scoped_handle (sym same.engine i) (sym same.number i) index generation)

  owned_same : (h : GcRootIndex) (n : ℕ) → h ≡ owned_in s.engine s.number n → h ≡ owned_in new.engine new.number n
  owned_same h n is = is ∙ (λ i. owned_in (sym same.engine i) (sym same.number i) n)

  -- a handle names the same in the store after, where one more root stands
  pub named_pushed : (t : Table D) (q : Reference) (h : GcRootIndex) (r : Reference) → NamesReference s t h r → NamesReference new (push q t) h r
  named_pushed t q h r (inl named) = inl (record {
    serial = named.serial;
    names = record {
      push = named.names.push;
      pushed = slice_get-push_old t.pushes (record { index = length t.scoped; generation = t.drops }) named.serial named.names.push named.names.pushed;
      is = scoped_same h named.names.push.index named.names.push.generation named.names.is;
    };
    live = rooted_still named.serial t.scoped (record { serial = length t.pushes; reference = q }) r named.live;
  })
  named_pushed t q h r (inr named) = inr (record { number = named.number; names = owned_same h named.number named.names; live = named.live })

  -- and where none was pushed
  pub named_same : (t : Table D) (h : GcRootIndex) (r : Reference) → NamesReference s t h r → NamesReference new t h r
  named_same t h r (inl named) = inl (record {
    serial = named.serial;
    names = record { push = named.names.push; pushed = named.names.pushed; is = scoped_same h named.names.push.index named.names.push.generation named.names.is };
    live = named.live;
  })
  named_same t h r (inr named) = inr (record { number = named.number; names = owned_same h named.number named.names; live = named.live })

module _ {D : Type 0} (layouts : Layouts) (s : StoreView D) (t : Table D) (place : Placing) (holds : Holds layouts s t place) where
  -- the roots that stand are of pushes that were made
  serial_before : (i : ℕ) (root : Scoped) → slice_get t.scoped i ≡ Some root → root.serial < length t.pushes
  serial_before i root e =
      let entry : (entry : RootEntry) × (slice_get s.scoped i ≡ Some entry) =
      elim ((slice_get_cases s.scoped i).1) [
        | inl found ↦ (found.0, found.2)
        | inr past ↦ absurd (omega (arith, past.0, holds.scoped.same_count, slice_get_within t.scoped i root e))
      ] in
      slice_get_within t.pushes root.serial _ ((holds.scoped.each i entry.0 root entry.1 e).pushed)

  -- the handle of a new root names what it was pushed for
  pub new_named : (new : StoreView D) (r : Reference) (h : GcRootIndex) → h ≡ handle_of new (length t.scoped) t.drops → NamesReference new (push r t) h r
  new_named new r h is = inl (record {
    serial = length t.pushes;
    names = record {
      push = record { index = length t.scoped; generation = t.drops };
      pushed = slice_get-push_new t.pushes (record { index = length t.scoped; generation = t.drops });
      is = is;
    };
    live = rooted_at_end (length t.pushes) t.scoped r (λ i root e found. let before = serial_before i root e in omega (arith, before, found));
  })

-- a store is the same as itself, and as one that is the same as another
pub same_itself : {D : Type 0} (s : StoreView D) → IsSameStore s s
same_itself s = record { engine = refl; number = refl; counter = refl }

pub same_twice : {D : Type 0} (a b c : StoreView D) → IsSameStore a b → IsSameStore b c → IsSameStore a c
same_twice a b c one two = record { engine = two.engine ∙ one.engine; number = two.number ∙ one.number; counter = two.counter ∙ one.counter }
