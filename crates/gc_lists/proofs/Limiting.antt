-- Whatever an allocation asks of a limiter, that tells the same limit afterwards, and has lost no refusal that it counted.
use Rattle.std.proofs.Common.{inl, inr, ◌≡◌, ℕ, ◌+◌, ◌-◌, ◌^◌, min, Bool, true, false, Option, Result, Ok, Err, refl, ap, ◌∙◌, arith}
use Rattle.gc_types.specs.declared.kind.Layouts.{Layouts}
use Rattle.gc_model.specs.Allocation.{Limits}
use Rattle.gc_model.specs.Values.{Object}
use Rattle.gc_model.specs.Stores.{StoreView}
use Rattle.gc_owner.specs.Limiters.{Refuses}
use Rattle.gc_owner.specs.Growing.{AsksFirst, AsksPages}
use Rattle.gc_owner.specs.Growing as growth
use Rattle.gc_owner.specs.Retry.{Growing, Paused, Retry}
use Rattle.gc_owner.specs.Retry as retry
use Rattle.gc_model.specs.Policy.{CollectsTable, Dues, GrowsTable, MakesTable, PolicyState, Prepared, Prepares, ReadiesTable, count_try, table_rules}
use Rattle.gc_model.specs.Policy as policy
use Rattle.gc_values.specs.declared.root.GcRootIndex.{GcRootIndex}
use Rattle.gc_values.specs.declared.faults.PlaceFault.{PlaceFault}
use Rattle.gc_values.specs.declared.faults.PlaceFault.TheVariants as place_fault
use Rattle.gc_store.specs.Places.{LacksPlace, Places}
use Rattle.gc_lists.specs.Refusals.{CountsOn}

-- what a limiter tells before and after
pub record Tells (limits limits' : Limits) : Type 0 where
  pub limit : limits'.limit ≡ limits.limit
  pub counts : CountsOn limits limits'

pub tells_same : (limits limits' : Limits) → limits' ≡ limits → Tells limits limits'
tells_same limits limits' same = record { limit = ap (λ (l : Limits). l.limit) same; counts = (let e : limits'.refusals ≡ limits.refusals = ap (λ (l : Limits). l.refusals) same in omega (arith, e)) }

pub counts_same : (a : Limits) → CountsOn a a
counts_same a = omega arith

pub counts_twice : (a b c : Limits) → CountsOn a b → CountsOn b c → CountsOn a c
counts_twice a b c one two = omega (arith, one, two)

tells_twice : (a b c : Limits) → Tells a b → Tells b c → Tells a c
tells_twice a b c one two = record { limit = two.limit ∙ one.limit; counts = counts_twice a b c one.counts two.counts }

tells_refused : {limits limits' : Limits} (before after : ℕ) → Refuses limits limits' before after → Tells limits limits'
tells_refused {limits} {limits'} before after refuses = record {
  limit = ap (λ (l : Limits). l.limit) refuses;
  counts = (let e : limits'.refusals ≡ min (limits.refusals + 1) (2 ^ 64 - 1) = ap (λ (l : Limits). l.refusals) refuses in omega (arith, e));
}

first_tells : {made : Bool} {first : ℕ} {limits limits' : Limits} {granted : Bool} → AsksFirst made first limits granted limits' → Tells limits limits'
first_tells (growth.already made) = tells_same _ _ refl
first_tells (growth.granted unmade may) = tells_same _ _ refl
first_tells (growth.refused unmade wanted above refuses) = tells_refused _ _ refuses

pages_tell : {pages bytes : ℕ} {limits limits' : Limits} {granted : Bool} → AsksPages pages bytes limits granted limits' → Tells limits limits'
pages_tell (growth.unasked past) = tells_same _ _ refl
pages_tell (growth.refused within above refuses) = tells_refused _ _ refuses
pages_tell (growth.granted grants) = tells_same _ _ refl

-- what the limiter tells that is part of two states of the policy
abbrev pub Between : {D : Type 0} → PolicyState D → PolicyState D → Type 0
Between p q = Tells p.limits q.limits

module _ {D : Type 0} (layouts : Layouts) where
  as_it_was : (p q : PolicyState D) → q ≡ p → Between p q
  as_it_was p q same = tells_same p.limits q.limits (ap (λ (x : PolicyState D). x.limits) same)

  then : (p m q : PolicyState D) → Between p m → Between m q → Between p q
  then p m q one two = tells_twice p.limits m.limits q.limits one two

  pub collects_tell : (p q : PolicyState D) → CollectsTable layouts p q → Between p q
  collects_tell p q collects = tells_same p.limits q.limits collects.limits

  pub readies_tell : (p q : PolicyState D) → ReadiesTable layouts p q → Between p q
  readies_tell p q (inl ran) = collects_tell p q ran.1
  readies_tell p q (inr none) = as_it_was p q none.1

  pub dues_tell : (counter : Option ℕ) (p q : PolicyState D) → Dues layouts counter p q → Between p q
  dues_tell counter p q (inl ran) = collects_tell p q ran.1
  dues_tell counter p q (inr none) = as_it_was p q none.1

  grows_tell : (bytes : ℕ) (p q : PolicyState D) (granted : Bool) → GrowsTable layouts bytes p granted q → Between p q
  grows_tell bytes p q granted grows = tells_twice p.limits grows.ready.limits q.limits (readies_tell p grows.ready grows.readied) (pages_tell grows.asks)

  pub makes_tell : (p q : PolicyState D) (granted : Bool) → MakesTable p granted q → Between p q
  makes_tell p q granted makes = first_tells makes.asks

  module _ (size : ℕ) where
    retry_tells : (s : PolicyState D) {ok : Bool} {q : PolicyState D} → Retry (table_rules layouts size) s ok q → Between s q
    retry_tells s (retry.at_once fits) = as_it_was s s refl
    retry_tells s (retry.after_collection {m = m} lacks first collects fits) = collects_tell s m collects
    retry_tells s (retry.after_both {m = m} {e = e} {granted = granted} lacks first collects lacks_still grows may ends) = then s m e (collects_tell s m collects) (grows_tell _ m e granted grows)
    retry_tells s (retry.after_growth {e = e} lacks first grows fits) = grows_tell _ s e true grows
    retry_tells s (retry.after_refusal {m = m} {e = e} lacks first grows collects ends) = then s m e (grows_tell _ s m false grows) (collects_tell m e collects)

    growing_tells : (s e : PolicyState D) → Growing (table_rules layouts size) s e → Between s e
    growing_tells s e (inl readies) = readies_tell s e readies
    growing_tells s e (inr grows) = grows_tell _ s e grows.0 grows.1

    paused_tells : (s q : PolicyState D) → Paused (table_rules layouts size) s q → Between s q
    paused_tells s q retry.at_first = as_it_was s s refl
    paused_tells s q (retry.in_collection lacks first collects) = collects_tell s q collects
    paused_tells s q (retry.in_both {m = m} lacks first collects lacks_still growing) = then s m q (collects_tell s m collects) (growing_tells m q growing)
    paused_tells s q (retry.in_growth lacks first growing) = growing_tells s q growing
    paused_tells s q (retry.in_refusal {m = m} lacks first grows collects) = then s m q (grows_tell _ s m false grows) (collects_tell m q collects)

    prepares_tell : (counter : Option ℕ) (p : PolicyState D) {ok : Bool} {q : PolicyState D} → Prepares layouts counter size p ok q → Between p q
    prepares_tell counter p {ok} {q} (policy.no_heap makes) = makes_tell (count_try p) q false makes
    prepares_tell counter p {ok} {q} (policy.tried {m = m} {n = n} makes dues tries) = then p m q (makes_tell (count_try p) m true makes) (then m n q (dues_tell counter m n dues) (retry_tells n tries))

    prepared_tells : (counter : Option ℕ) (p q : PolicyState D) → Prepared layouts counter size p q → Between p q
    prepared_tells counter p q policy.not_begun = as_it_was p p refl
    prepared_tells counter p q policy.not_made = as_it_was p p refl
    prepared_tells counter p q (policy.paused {m = m} {n = n} makes dues pauses) = then p m q (makes_tell (count_try p) m true makes) (then m n q (dues_tell counter m n dues) (paused_tells n q pauses))

  -- the limiter tells now what it told then
  ends_so : (p q : PolicyState D) (limits' : Limits) → limits' ≡ q.limits → Between p q → Tells p.limits limits'
  ends_so p q limits' same between = tells_twice p.limits q.limits limits' between (tells_same q.limits limits' same)

  -- so where the heap had no room for an object
  lacks_tell : (counter : Option ℕ) (o : Object D) (p : PolicyState D) (limits' : Limits) (need : ℕ) (new : StoreView D) → LacksPlace layouts counter o p limits' need new → Tells p.limits limits'
  lacks_tell counter o p limits' need new lacks = ends_so p lacks.after limits' lacks.limits (prepares_tell _ counter p lacks.prepares)

  pub lacks_limit : (counter : Option ℕ) (o : Object D) (p : PolicyState D) (limits' : Limits) (need : ℕ) (new : StoreView D) → LacksPlace layouts counter o p limits' need new → limits'.limit ≡ p.limits.limit
  lacks_limit counter o p limits' need new lacks = (lacks_tell counter o p limits' need new lacks).limit

  -- so where an object is placed, or isn't
  pub places_tell : (counter : Option ℕ) (o : Object D) (p : PolicyState D) (limits' : Limits) (result : Result GcRootIndex PlaceFault) (new : StoreView D) → Places layouts counter o p limits' result new → Tells p.limits limits'
  places_tell counter o p limits' (Ok handle) new places = ends_so p places.after limits' places.limits (prepares_tell _ counter p places.prepares)
  places_tell counter o p limits' (Err place_fault.FuncTableFull) new places = tells_same p.limits limits' places.1.limits
  places_tell counter o p limits' (Err place_fault.ContTableFull) new places = tells_same p.limits limits' places.1.limits
  places_tell counter o p limits' (Err place_fault.TooLarge) new places = tells_same p.limits limits' places.1.limits
  places_tell counter o p limits' (Err place_fault.RootsFull) new places = tells_same p.limits limits' places.2.limits
  places_tell counter o p limits' (Err (place_fault.HeapOutOfMemory f)) new places = lacks_tell counter o p limits' _ new places
  places_tell counter o p limits' (Err place_fault.Memory) new places = ends_so p places.after limits' places.limits (prepared_tells _ counter p places.after places.prepared)

  pub places_limit : (counter : Option ℕ) (o : Object D) (p : PolicyState D) (limits' : Limits) (result : Result GcRootIndex PlaceFault) (new : StoreView D) → Places layouts counter o p limits' result new → limits'.limit ≡ p.limits.limit
  places_limit counter o p limits' result new places = (places_tell counter o p limits' result new places).limit
