-- What an allocation asks of a limiter, told by the heap that it leaves.
use Rattle.std.proofs.Common.{inl, inr, ◌≡◌, ℕ, ◌+◌, ◌<◌, ◌≤◌, Bool, true, false, Option, sym, ap, ◌∙◌, refl, subst}
use Rattle.std.specs.Prelude.{◌⊎◌}
use Rattle.gc_types.specs.declared.kind.Layouts.{Layouts}
use Rattle.gc_model.specs.Table.{Table}
use Rattle.gc_view.specs.Sizes.{need_of}
use Rattle.gc_view.specs.Pages.{max_pages}
use Rattle.gc_model.specs.Allocation.{Limits, asked}
use Rattle.gc_owner.specs.Limiters.{Refuses}
use Rattle.gc_owner.specs.Growing.{AsksFirst, AsksPages}
use Rattle.gc_owner.specs.Growing as growth
use Rattle.gc_owner.specs.Retry.{Retry, at_once, after_collection, after_both, after_growth, after_refusal}
use Rattle.gc_model.specs.Policy.{PolicyState, CollectsTable, GrowsTable, MakesTable, Prepares, table_after, table_made, table_rules}
use Rattle.gc_model.specs.Policy as policy

-- A limiter was asked for nothing that it refused, which is so where all went well, or more pages would be more than
-- a heap may have; or it refused more pages; or the first ones. The numbers are those of the heap afterwards.
pub data Asks (bytes : ℕ) (ok : Bool) (limits limits' : Limits) (made : Bool) (first pages : ℕ) : Type 0 where
  unrefused : ok ≡ true → limits' ≡ limits → Asks bytes ok limits limits' made first pages
  too_many : made ≡ true → max_pages < pages + asked pages bytes → limits' ≡ limits → Asks bytes ok limits limits' made first pages
  refused_pages : made ≡ true → pages + asked pages bytes ≤ max_pages → Refuses limits limits' pages (pages + asked pages bytes) → Asks bytes ok limits limits' made first pages
  refused_first : ok ≡ false → made ≡ false → Refuses limits limits' 0 first → Asks bytes ok limits limits' made first pages

-- the same of a table
abbrev pub AsksBy : {D : Type 0} → ℕ → Bool → Limits → Limits → Table D → Type 0
AsksBy bytes ok limits limits' t = Asks bytes ok limits limits' t.made t.first t.pages

-- the table and the limiter are those of before
record IsKept {D : Type 0} (p q : PolicyState D) : Type 0 where
  table : q.table ≡ p.table
  limits : q.limits ≡ p.limits

-- a collection that ran, or didn't, keeps both
kept : {D A B : Type 0} (layouts : Layouts) (p q : PolicyState D) → (A × CollectsTable layouts p q) ⊎ (B × (q ≡ p)) → IsKept p q
kept layouts p q (inl ran) = record { table = ran.1.table; limits = ran.1.limits }
kept {D} layouts p q (inr none) = record { table = ap (λ (x : PolicyState D). x.table) none.1; limits = ap (λ (x : PolicyState D). x.limits) none.1 }

module _ {D : Type 0} (bytes : ℕ) (ok : Bool) (p q : PolicyState D) (keeps : IsKept p q) where
  -- what was asked after it
  asks_behind : (limits' : Limits) (t : Table D) → AsksBy bytes ok q.limits limits' t → AsksBy bytes ok p.limits limits' t
  asks_behind limits' t asks = subst (λ (l : Limits). AsksBy bytes ok l limits' t) keeps.limits asks

  -- what was asked before it
  asks_before : (limits : Limits) → AsksBy bytes ok limits p.limits p.table → AsksBy bytes ok limits q.limits q.table
  asks_before limits asks =
      subst (λ (l : Limits). AsksBy bytes ok limits l q.table) (sym keeps.limits)
      (subst (λ (t : Table D). AsksBy bytes ok limits p.limits t) (sym keeps.table) asks)

-- what the pages of a growth asked, by the table after it
asks_after : {D : Type 0} (bytes : ℕ) (t : Table D) {limits limits' : Limits} {granted : Bool} (ok : Bool) → t.made ≡ true → (granted ≡ true → ok ≡ true) → AsksPages t.pages bytes limits granted limits' → AsksBy bytes ok limits limits' (table_after granted bytes t)
asks_after bytes t ok made may (growth.unasked past) = too_many made past refl
asks_after bytes t ok made may (growth.refused within above refuses) = refused_pages made within refuses
asks_after bytes t ok made may (growth.granted grants) = unrefused (may refl) refl

-- what a growth asked, of an allocation that went well if the growth did
grows_asks : {D : Type 0} (layouts : Layouts) (bytes : ℕ) (p q : PolicyState D) (granted ok : Bool) → p.table.made ≡ true → (granted ≡ true → ok ≡ true) → GrowsTable layouts bytes p granted q → AsksBy bytes ok p.limits q.limits q.table
grows_asks {D} layouts bytes p q granted ok made may grows =
    let readied = kept layouts p grows.ready grows.readied in
    asks_behind bytes ok p grows.ready readied q.limits q.table
    (subst (λ (t : Table D). AsksBy bytes ok grows.ready.limits q.limits t) (sym (ap (λ (x : PolicyState D). x.table) grows.after))
    (asks_after bytes grows.ready.table ok (ap (λ (t : Table D). t.made) readied.table ∙ made) may grows.asks))

-- what an allocation by the rule of retry asked
retry_asks : {D : Type 0} (layouts : Layouts) (size : ℕ) (s : PolicyState D) {ok : Bool} {q : PolicyState D} → s.table.made ≡ true → Retry (table_rules layouts size) s ok q → AsksBy (need_of layouts size) ok s.limits q.limits q.table
retry_asks layouts size s made (at_once fits) = unrefused refl refl
retry_asks layouts size s made (after_collection lacks first collects fits) = unrefused refl collects.limits
retry_asks {D} layouts size s made (after_both {m = m} {e = e} {granted = granted} {ok = ok} lacks first collects lacks_still grows may ends) =
    let keeps : IsKept s m = record { table = collects.table; limits = collects.limits } in
    asks_behind (need_of layouts size) ok s m keeps e.limits e.table
    (grows_asks layouts (need_of layouts size) m e granted ok (ap (λ (t : Table D). t.made) keeps.table ∙ made) may grows)
retry_asks layouts size s made (after_growth {e = e} lacks first grows fits) = grows_asks layouts (need_of layouts size) s e true true made (λ is. is) grows
retry_asks layouts size s made (after_refusal {m = m} {e = e} {ok = ok} lacks first grows collects ends) =
    let keeps : IsKept m e = record { table = collects.table; limits = collects.limits } in
    asks_before (need_of layouts size) ok m e keeps s.limits
    (grows_asks layouts (need_of layouts size) s m false ok made (λ is. absurd (cc is)) grows)

-- the first pages were had, or none were asked for
first_had : {made : Bool} {first : ℕ} {limits limits' : Limits} {granted : Bool} → AsksFirst made first limits granted limits' → granted ≡ true → limits' ≡ limits
first_had (growth.already made) is = refl
first_had (growth.granted unmade may) is = refl
first_had (growth.refused unmade wanted above refuses) is = absurd (cc is)

-- they were refused
first_refused : {made : Bool} {first : ℕ} {limits limits' : Limits} {granted : Bool} → AsksFirst made first limits granted limits' → granted ≡ false → (made ≡ false) × Refuses limits limits' 0 first
first_refused (growth.already made) is = absurd (cc is)
first_refused (growth.granted unmade may) is = absurd (cc is)
first_refused (growth.refused unmade wanted above refuses) is = (unmade, refuses)

module _ {D : Type 0} (bytes : ℕ) (p q : PolicyState D) where
  -- a heap was made
  makes_limits : MakesTable p true q → q.limits ≡ p.limits
  makes_limits makes = first_had makes.asks refl

  makes_heap : MakesTable p true q → q.table.made ≡ true
  makes_heap makes = ap (λ (x : PolicyState D). x.table.made) makes.after

  -- or its first pages were refused
  no_heap_asks : MakesTable p false q → AsksBy bytes false p.limits q.limits q.table
  no_heap_asks makes =
      let did = first_refused makes.asks refl in
      refused_first refl (ap (λ (x : PolicyState D). x.table.made) makes.after ∙ did.0)
      (subst (λ (n : ℕ). Refuses p.limits q.limits 0 n) (sym (ap (λ (x : PolicyState D). x.table.first) makes.after)) did.1)

-- what an allocation asked
pub prepares_asks : {D : Type 0} (layouts : Layouts) (counter : Option ℕ) (size : ℕ) (p : PolicyState D) {ok : Bool} {q : PolicyState D} → Prepares layouts counter size p ok q → AsksBy (need_of layouts size) ok p.limits q.limits q.table
prepares_asks layouts counter size p {ok} {q} (policy.no_heap makes) = no_heap_asks (need_of layouts size) (policy.count_try p) q makes
prepares_asks {D} layouts counter size p {ok} {q} (policy.tried {m = m} {n = n} makes dues retry) =
    let keeps = kept layouts m n dues in
    subst (λ (l : Limits). AsksBy (need_of layouts size) ok l q.limits q.table) (keeps.limits ∙ makes_limits (need_of layouts size) (policy.count_try p) m makes)
    (retry_asks layouts size n (ap (λ (t : Table D). t.made) keeps.table ∙ makes_heap (need_of layouts size) (policy.count_try p) m makes) retry)
