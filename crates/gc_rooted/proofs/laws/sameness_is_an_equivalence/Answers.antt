use Rattle.std.proofs.Common.{inl, inr, ◌≡◌, ℕ, ◌==◌, true, refl, sym, ◌∙◌, subst, arith}
use Rattle.std.proofs.lemmas.Bool.Decides.{nat_tests}
use Rattle.gc_model.specs.Values.{Reference, null, small, at}
use Rattle.gc_model.specs.Reads.{same_reference}
use Rattle.gc_model.specs.Table.{Table}
use Rattle.gc_model.specs.Stores.{StoreView}
use Rattle.gc_values.specs.declared.engine.StoreId.{StoreId}
use Rattle.gc_values.specs.declared.root.GcRootIndex.{GcRootIndex}
use Rattle.gc_values.specs.declared.root.RootSlot.{RootSlot}
use Rattle.gc_store.specs.Roots.{NamesReference}
use Rattle.gc_store.specs.Stores.{IsSameStore}
use Rattle.gc_store.proofs.HandleWords.{named_alone}
use Rattle.gc_rooted.proofs.laws.sameness_is_an_equivalence.Goals as goal

eq_same : (m : ℕ) → (m == m) ≡ true
eq_same m = grind (arith, nat_tests)

eq_turned : (m n : ℕ) → (m == n) ≡ (n == m)
eq_turned m n = grind (arith, nat_tests)

eq_through : (m n k : ℕ) → (m == n) ≡ true → (n == k) ≡ true → (m == k) ≡ true
eq_through m n k e f = grind (arith, nat_tests, e, f)

same : (r : Reference) → same_reference r r ≡ true
same null = refl
same (small n) = eq_same n
same (at p) = eq_same p

turned : (r q : Reference) → same_reference r q ≡ same_reference q r
turned null null = refl
turned null (small n) = refl
turned null (at p) = refl
turned (small m) null = refl
turned (small m) (small n) = eq_turned m n
turned (small m) (at p) = refl
turned (at q) null = refl
turned (at q) (small n) = refl
turned (at q) (at p) = eq_turned q p

through : (r q p : Reference) → same_reference r q ≡ true → same_reference q p ≡ true → same_reference r p ≡ true
through null null p e f = f
through null (small n) p e f = absurd (cc e)
through null (at n) p e f = absurd (cc e)
through (small m) null p e f = absurd (cc e)
through (small m) (small n) null e f = absurd (cc f)
through (small m) (small n) (small k) e f = eq_through m n k e f
through (small m) (small n) (at k) e f = absurd (cc f)
through (small m) (at n) p e f = absurd (cc e)
through (at m) null p e f = absurd (cc e)
through (at m) (small n) p e f = absurd (cc e)
through (at m) (at n) null e f = absurd (cc f)
through (at m) (at n) (small k) e f = absurd (cc f)
through (at m) (at n) (at k) e f = eq_through m n k e f

-- the handle of a root of one store is that of the other
abbrev with_id : StoreId → ℕ → RootSlot → GcRootIndex
with_id id generation slot = record { store_id = id; generation = generation; slot = slot }

abbrev id_of : {D : Type 0} → StoreView D → StoreId
id_of s = record { engine = s.engine; number = s.number }

handle_same : {D : Type 0} (old new : StoreView D) (generation : ℕ) (slot : RootSlot) → IsSameStore old new → with_id (id_of old) generation slot ≡ with_id (id_of new) generation slot
handle_same old new generation slot alike = sym (λ i. record { store_id = record { engine = alike.engine i; number = alike.number i }; generation = generation; slot = slot })

names_again : {D : Type 0} (old new : StoreView D) (t : Table D) (handle : GcRootIndex) (r : Reference) → IsSameStore old new → NamesReference old t handle r → NamesReference new t handle r
names_again old new t handle r alike (inl scoped) = inl (record {
  serial = scoped.serial;
  names = record {
    push = scoped.names.push;
    pushed = scoped.names.pushed;
    is = scoped.names.is ∙ handle_same old new _ _ alike;
  };
  live = scoped.live;
})
names_again old new t handle r alike (inr owned) = inr (record {
  number = owned.number;
  names = owned.names ∙ handle_same old new _ _ alike;
  live = owned.live;
})

pub returns-clause-same : goal.returns-clause-same
returns-clause-same g c s t a r names = record { first = r; second = r; names_first = names; names_second = names; same = same r }

pub returns-clause-turned : goal.returns-clause-turned
returns-clause-turned g c s t a b is = record {
  first = is.second;
  second = is.first;
  names_first = is.names_second;
  names_second = is.names_first;
  same = turned is.second is.first ∙ is.same;
}

pub returns-clause-through : goal.returns-clause-through
returns-clause-through g c layouts s t a b d holds is then =
    let one : is.second ≡ then.first = named_alone layouts s t holds.0 holds.1 b is.second then.first is.names_second then.names_first in
    record {
      first = is.first;
      second = then.second;
      names_first = is.names_first;
      names_second = then.names_second;
      same = through is.first then.first then.second (subst (λ (r : Reference). same_reference is.first r ≡ true) one is.same) then.same;
    }

pub returns-clause-kept : goal.returns-clause-kept
returns-clause-kept g c old new t a b alike is = record {
  first = is.first;
  second = is.second;
  names_first = names_again old new t a is.first alike is.names_first;
  names_second = names_again old new t b is.second alike is.names_second;
  same = is.same;
}
