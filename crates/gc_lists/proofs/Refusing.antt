-- Where the heap had denied room for an object, a refusal was counted since it was asked for, or nobody was asked.
use Rattle.std.proofs.Common.{inl, inr, ◌≡◌, ℕ, ◌+◌, ◌-◌, ◌^◌, ◌<◌, min, Bool, true, false, Option, refl, sym, ap, ◌∙◌, subst, arith}
use Rattle.gc_types.specs.declared.kind.Layouts.{Layouts}
use Rattle.gc_view.specs.Sizes.{need_of}
use Rattle.gc_view.specs.Pages.{max_pages}
use Rattle.gc_model.specs.Allocation.{Limits, Rose, asked}
use Rattle.gc_model.specs.Table.{Table}
use Rattle.gc_model.specs.Values.{Object}
use Rattle.gc_model.specs.Stores.{StoreView}
use Rattle.gc_owner.specs.Limiters.{Refuses}
use Rattle.gc_owner.specs.Growing.{AsksFirst, AsksPages}
use Rattle.gc_owner.specs.Growing as growth
use Rattle.gc_owner.specs.Retry.{Retry}
use Rattle.gc_owner.specs.Retry as retry
use Rattle.gc_model.specs.Policy.{GrowsTable, MakesTable, PolicyState, Prepares, count_try, table_rules}
use Rattle.gc_model.specs.Policy as policy
use Rattle.gc_store.specs.Places.{LacksPlace, size_in_table}
use Rattle.gc_lists.specs.Refusals.{CountsOn, RefusedInCall}
use Rattle.gc_lists.proofs.Limiting.{collects_tell, counts_same, counts_twice, dues_tell, makes_tell, readies_tell, tells_same}

-- what was counted in a part of a call was so in all of it
pub refused_within : {D : Type 0} (need : ℕ) (a b c d : Limits) (t u : Table D) → CountsOn a b → CountsOn c d → u.pages ≡ t.pages → RefusedInCall need b c t → RefusedInCall need a d u
refused_within need a b c d t u first last pages (inl rose) = inl (omega (arith, first, last, rose))
refused_within need a b c d t u first last pages (inr past) = inr (subst (λ (n : ℕ). max_pages < n + asked n need) (sym pages) past)

rises : (limits limits' : Limits) (before after : ℕ) → Refuses limits limits' before after → Rose limits.refusals limits'.refusals
rises limits limits' before after refuses = let e : limits'.refusals ≡ min (limits.refusals + 1) (2 ^ 64 - 1) = ap (λ (l : Limits). l.refusals) refuses in omega (arith, e)

first_rose : {made : Bool} {first : ℕ} {limits limits' : Limits} {granted : Bool} → AsksFirst made first limits granted limits' → granted ≡ false → Rose limits.refusals limits'.refusals
first_rose (growth.already made) denied = absurd (cc denied)
first_rose (growth.granted unmade may) denied = absurd (cc denied)
first_rose {made} {first} {limits} {limits'} (growth.refused unmade wanted above refuses) denied = rises limits limits' 0 first refuses

pages_rose : {D : Type 0} (t : Table D) {bytes : ℕ} {limits limits' : Limits} {granted : Bool} → AsksPages t.pages bytes limits granted limits' → granted ≡ false → RefusedInCall bytes limits limits' t
pages_rose t (growth.unasked past) denied = inr past
pages_rose t {bytes} {limits} {limits'} (growth.refused within above refuses) denied = inl (rises limits limits' t.pages (t.pages + asked t.pages bytes) refuses)
pages_rose t (growth.granted grants) denied = absurd (cc denied)

module _ {D : Type 0} (layouts : Layouts) where
  -- pages were refused between two states of the policy
  abbrev pub Refused : ℕ → PolicyState D → PolicyState D → Type 0
  Refused need p q = RefusedInCall need p.limits q.limits q.table

  grows_refused : (bytes : ℕ) (p q : PolicyState D) → GrowsTable layouts bytes p false q → Refused bytes p q
  grows_refused bytes p q grows =
      refused_within bytes p.limits grows.ready.limits q.limits q.limits grows.ready.table q.table (readies_tell layouts p grows.ready grows.readied).counts (counts_same q.limits)
      (ap (λ (x : PolicyState D). x.table.pages) grows.after) (pages_rose grows.ready.table grows.asks refl)

  module _ (size : ℕ) where
    retry_refused : (s : PolicyState D) {ok : Bool} {q : PolicyState D} → Retry (table_rules layouts size) s ok q → ok ≡ false → Refused (need_of layouts size) s q
    retry_refused s (retry.at_once fits) denied = absurd (cc denied)
    retry_refused s (retry.after_collection {m = m} lacks first collects fits) denied = absurd (cc denied)
    retry_refused s {ok} (retry.after_both {m = m} {e = e} {granted = granted} lacks first collects lacks_still grows may ends) denied = by granted grows may
      where
        by : (granted : Bool) → GrowsTable layouts (need_of layouts size) m granted e → (granted ≡ true → ok ≡ true) → Refused (need_of layouts size) s e
        by true grows may = absurd (cc (sym (may refl) ∙ denied))
        by false grows may = refused_within (need_of layouts size) s.limits m.limits e.limits e.limits e.table e.table (collects_tell layouts s m collects).counts (counts_same e.limits) refl (grows_refused (need_of layouts size) m e grows)
    retry_refused s (retry.after_growth {e = e} lacks first grows fits) denied = absurd (cc denied)
    retry_refused s (retry.after_refusal {m = m} {e = e} lacks first grows collects ends) denied =
        refused_within (need_of layouts size) s.limits s.limits m.limits e.limits m.table e.table (counts_same s.limits) (collects_tell layouts m e collects).counts (ap (λ (t : Table D). t.pages) collects.table) (grows_refused (need_of layouts size) s m grows)

    prepares_refused : (counter : Option ℕ) (p : PolicyState D) {ok : Bool} {q : PolicyState D} → Prepares layouts counter size p ok q → ok ≡ false → Refused (need_of layouts size) p q
    prepares_refused counter p {ok} {q} (policy.no_heap makes) denied = inl (first_rose makes.asks refl)
    prepares_refused counter p {ok} {q} (policy.tried {m = m} {n = n} makes dues tries) denied =
        refused_within (need_of layouts size) p.limits n.limits q.limits q.limits q.table q.table
        (counts_twice p.limits m.limits n.limits (makes_tell layouts (count_try p) m true makes).counts (dues_tell layouts counter m n dues).counts) (counts_same q.limits) refl (retry_refused n tries denied)

  pub lacks_refused : (counter : Option ℕ) (o : Object D) (p : PolicyState D) (limits' : Limits) (need : ℕ) (new : StoreView D) (lacks : LacksPlace layouts counter o p limits' need new)
      → RefusedInCall need p.limits limits' lacks.after.table
  lacks_refused counter o p limits' n new lacks =
      let bytes = size_in_table layouts o p.table in
      subst (λ (k : ℕ). RefusedInCall k p.limits limits' lacks.after.table) (sym lacks.asked)
      (refused_within (need_of layouts bytes) p.limits p.limits lacks.after.limits limits' lacks.after.table lacks.after.table (counts_same p.limits) (tells_same lacks.after.limits limits' lacks.limits).counts refl
      (prepares_refused bytes counter p lacks.prepares refl))
