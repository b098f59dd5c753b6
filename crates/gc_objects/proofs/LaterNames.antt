-- What handles name where one more root stands, or none.
use Rattle.std.proofs.Common.{inl, inr, ◌≡◌, ℕ, List, [], ◌∷◌, ◌++◌, length, Some, true, false, cond, eqb, sym, ◌∙◌}
use Rattle.std.proofs.lemmas.Option.{none-some}
use Rattle.gc_model.specs.Values.{Reference, null, small, at, Value, numeric, function, continuation, reference}
use Rattle.gc_model.specs.Table.{Table, Scoped, push}
use Rattle.gc_model.specs.Live.{rooted_among}
use Rattle.gc_model.specs.Reads.{after_read}
use Rattle.gc_model.specs.Stores.{StoreView}
use Rattle.gc_model.proofs.Lists.{slice_get-push_old}
use Rattle.gc_values.specs.declared.root.GcRootIndex.{GcRootIndex}
use Rattle.gc_values.specs.declared.root.RootSlot.TheVariants as slot
use Rattle.gc_values.specs.Words.{owned_id}
use Rattle.gc_store.specs.Roots.{NamesReference, handle_of}
use Rattle.gc_store.specs.Stores.{IsSameStore}

-- a root is found by its serial where one more stands behind
rooted_still : (serial : ℕ) (roots : List Scoped) (x : Scoped) (r : Reference) → rooted_among serial roots ≡ Some r → rooted_among serial (roots ++ x ∷ []) ≡ Some r
rooted_still serial [] x r e = absurd (none-some r e)
rooted_still serial (root ∷ roots) x r e =
    elim (eqb root.serial serial) as (λ b. cond b (Some root.reference) (rooted_among serial roots) ≡ Some r → cond b (Some root.reference) (rooted_among serial (roots ++ x ∷ [])) ≡ Some r) [
      | true ↦ λ h. h
      | false ↦ λ h. rooted_still serial roots x r h
    ] e

abbrev scoped_in : ℕ → ℕ → ℕ → ℕ → GcRootIndex
scoped_in engine store_number index generation = record {
  store_id = record { engine = engine; number = store_number };
  generation = generation;
  slot = slot.Scoped index;
}

abbrev owned_in : ℕ → ℕ → ℕ → GcRootIndex
owned_in engine store_number n = record {
  store_id = record { engine = engine; number = store_number };
  generation = n;
  slot = slot.Owned (owned_id n);
}

module _ {D : Type 0} (s new : StoreView D) (same : IsSameStore s new) where
  scoped_same : (h : GcRootIndex) (index generation : ℕ) → h ≡ handle_of s index generation → h ≡ handle_of new index generation
  scoped_same h index generation is = is ∙ (λ i. scoped_in (sym same.engine i) (sym same.number i) index generation)

  owned_same : (h : GcRootIndex) (n : ℕ) → h ≡ owned_in s.engine s.number n → h ≡ owned_in new.engine new.number n
  owned_same h n is = is ∙ (λ i. owned_in (sym same.engine i) (sym same.number i) n)

  -- a handle names the same in a store that is the same, where one more root stands
  pub named_pushed : (t : Table D) (q : Reference) (h : GcRootIndex) (r : Reference) → NamesReference s t h r → NamesReference new (push q t) h r
  named_pushed t q h r (inl named) = inl (record {
    serial = named.serial;
    names = record {
      push = named.names.push;
      pushed = slice_get-push_old t.pushes (record { index = length t.scoped; generation = t.drops }) named.serial named.names.push named.names.pushed;
      is = scoped_same h named.names.push.index named.names.push.generation named.names.is;
    };
    live = rooted_still named.serial t.scoped (record { serial = length t.pushes; reference = q }) r named.live;
  })
  named_pushed t q h r (inr named) = inr (record { number = named.number; names = owned_same h named.number named.names; live = named.live })

  -- and where none does
  pub named_same : (t : Table D) (h : GcRootIndex) (r : Reference) → NamesReference s t h r → NamesReference new t h r
  named_same t h r (inl named) = inl (record {
    serial = named.serial;
    names = record { push = named.names.push; pushed = named.names.pushed; is = scoped_same h named.names.push.index named.names.push.generation named.names.is };
    live = named.live;
  })
  named_same t h r (inr named) = inr (record { number = named.number; names = owned_same h named.number named.names; live = named.live })

  -- so where a value was read
  pub named_read : (x : Value) (t : Table D) (h : GcRootIndex) (r : Reference) → NamesReference s t h r → NamesReference new (after_read x t) h r
  named_read (numeric kind n) t h r named = named_same t h r named
  named_read (function f) t h r named = named_same t h r named
  named_read (continuation c) t h r named = named_same t h r named
  named_read (reference class null) t h r named = named_same t h r named
  named_read (reference class (small n)) t h r named = named_pushed t (small n) h r named
  named_read (reference class (at p)) t h r named = named_pushed t (at p) h r named
