-- A heap that grew: what it keeps, and that there is room for what was asked.
use Rattle.std.proofs.Common.{◌≡◌, ℕ, ◌+◌, ◌*◌, ◌%◌, ◌<◌, ◌≤◌, ◌↔◌, ◌==◌, inl, Bool, true, false, cond, List, ◌++◌, replicate, Option, Some, None, Result, Ok, Err, refl, sym, ap, ◌∙◌, subst, arith}
use Rattle.std.specs.Prelude.{IfSome, IsTrue, OnOk, OnErr}
use Rattle.std.proofs.lemmas.Bool.{eqb-false, eqb-true}
use Rattle.gc_types.specs.declared.kind.Layouts.{Layouts}
use Rattle.gc_types.specs.declared.kind.Layouts.TheVariants.{Null, Counting, Copying}
use Rattle.gc_types.specs.Declarations.{Declaration}
use Rattle.gc_types.specs.Layouts.{round_up}
use Rattle.gc_roots.specs.Roots.{Root}
use Rattle.gc_view.specs.Sizes.{alignment, need_of}
use Rattle.gc_view.specs.Pages.{page, max_pages}
use Rattle.gc_owner.specs.Limiters.{Limits, MayHave, MayRefuse, Refuses}
use Rattle.gc_view.specs.Heaps.{HeapView}
use Rattle.gc_heap.specs.Objects.{held_size}
use Rattle.gc_heap.specs.Content.{IsHeap, block_size, half_of, total}
use Rattle.gc_heap.specs.Heap.{HasRoom, IsFree, grown, allocated_in_more}
use Rattle.gc_owner.specs.declared.pages.PagesFault.{PagesFault}
use Rattle.gc_owner.specs.declared.pages.PagesFault.TheVariants as pages_fault
use Rattle.gc_owner.specs.Growing.{AsksPages, asked, pages_of, GrowsMemory}
use Rattle.gc_owner.specs.Tracing.{IsCollectable}
use Rattle.gc_heap.proofs.NameLemmas.{total-le}
use Rattle.gc_owner.proofs.Begins.{numbers_kept}

-- The limiter's answer

pub refused_by : (limit : Option ℕ) (to : ℕ) → IfSome limit (λ most. IsTrue false ↔ (to ≤ most)) → MayRefuse limit to
refused_by None to by_limit = tt
refused_by (Some most) to by_limit = let within : to ≤ most → ⊥ = λ le. cc (by_limit.1 le) in omega arith

pub granted_by : (limit : Option ℕ) (to : ℕ) → IfSome limit (λ most. IsTrue true ↔ (to ≤ most)) → MayHave limit to
granted_by None to by_limit = tt
granted_by (Some most) to by_limit = by_limit.0 refl

-- nobody is asked for more pages than a heap may have
pub asks_nobody : (pages bytes from added : ℕ) (limits : Limits) → from ≡ pages → added ≡ asked from bytes → max_pages < from + added → AsksPages pages bytes limits false limits
asks_nobody pages bytes from added limits same is above = AsksPages.unasked (subst (λ p. max_pages < p + asked p bytes) same (subst (λ n. max_pages < from + n) is above))

module _ (pages bytes from added : ℕ) (limits limits' : Limits) (same : from ≡ pages) (is : added ≡ asked from bytes) (within : from + added ≤ max_pages) where
  to_is : from + added ≡ pages + asked pages bytes
  to_is = ap (λ n. from + n) is ∙ ap (λ p. p + asked p bytes) same

  pub asks_refused : IfSome limits.limit (λ most. IsTrue false ↔ (from + added ≤ most)) → Refuses limits limits' from (from + added) → AsksPages pages bytes limits false limits'
  asks_refused by_limit refuses =
      AsksPages.refused (subst (λ n. n ≤ max_pages) to_is within) (subst (MayRefuse limits.limit) to_is (refused_by limits.limit (from + added) by_limit))
      (subst (λ n. Refuses limits limits' pages n) to_is (subst (λ p. Refuses limits limits' p (from + added)) same refuses))

  asks_granted : IfSome limits.limit (λ most. IsTrue true ↔ (from + added ≤ most)) → AsksPages pages bytes limits true limits
  asks_granted by_limit =
      AsksPages.granted (record { within = subst (λ n. n ≤ max_pages) to_is within; granted = subst (MayHave limits.limit) to_is (granted_by limits.limit (from + added) by_limit) })

-- what the limiter granted was added, or memory was wanting
pub grows_memory : (layouts : Layouts) (bytes from added : ℕ) (old new : HeapView) (limits limits' : Limits) (result : Result (Unit {0}) PagesFault) → from ≡ pages_of old → added ≡ asked from bytes → from + added ≤ max_pages
    → IfSome limits.limit (λ most. IsTrue true ↔ (from + added ≤ most)) → limits' ≡ limits
    → OnOk result (new ≡ grown layouts old (page * added)) → OnErr result ((new ≡ old) × (result ≡ Err pages_fault.Memory)) → GrowsMemory layouts bytes old new limits limits' result
grows_memory layouts bytes from added old new limits limits' (Ok done) same is within by_limit kept ok err = (
  subst (AsksPages (pages_of old) bytes limits true) (sym kept) (asks_granted (pages_of old) bytes from added limits limits' same is within by_limit),
  ok ∙ ap (λ n. grown layouts old (page * n)) (is ∙ ap (λ p. asked p bytes) same),
)
grows_memory layouts bytes from added old new limits limits' (Err pages_fault.Refused) same is within by_limit kept ok err = absurd (cc (err.1))
grows_memory layouts bytes from added old new limits limits' (Err pages_fault.Memory) same is within by_limit kept ok err = (kept, err.0)

-- The bytes of a heap

pub grown_kept : (layouts : Layouts) (types : List Declaration) (h : HeapView) (bytes : ℕ) (roots : List Root) (hosts : ℕ → Bool) → IsCollectable layouts types h roots hosts → IsCollectable layouts types (grown layouts h bytes) roots hosts
grown_kept layouts types h bytes roots hosts can = numbers_kept layouts types h h.attached (h.capacity + bytes) (allocated_in_more layouts h bytes) roots hosts can

-- a growth, or none, leaves the condition of a collection
pub either_kept : (layouts : Layouts) (types : List Declaration) (old new : HeapView) (bytes : ℕ) (E : Type 0) (result : Result (Unit {0}) E) (Q : Type 0) (roots : List Root) (hosts : ℕ → Bool)
    → OnOk result (new ≡ grown layouts old bytes) → OnErr result ((new ≡ old) × Q) → IsCollectable layouts types old roots hosts → IsCollectable layouts types new roots hosts
either_kept layouts types old new bytes E (Ok done) Q roots hosts ok err can = subst (λ h. IsCollectable layouts types h roots hosts) (sym ok) (grown_kept layouts types old bytes roots hosts can)
either_kept layouts types old new bytes E (Err e) Q roots hosts ok err can = subst (λ h. IsCollectable layouts types h roots hosts) (sym err.0) can

-- as many new bytes as a number of pages says
pub new_bytes : (old new : List ℕ) (added count : ℕ) → count ≡ added → new ≡ old ++ replicate (page * added) 0 → new ≡ old ++ replicate (count * 65536) 0
new_bytes old new added count same is = is ∙ ap (λ n. old ++ replicate n 0) (let equal = same in omega arith)

-- Room after a growth

-- the pages that are asked for hold the bytes
pub asked_holds : (pages bytes : ℕ) → bytes ≤ page * asked pages bytes
asked_holds pages bytes = omega arith

total_blocks : (h : HeapView) → IsHeap Copying h → total (block_size Copying) h.content ≤ h.capacity
total_blocks h heap =
    let below = total-le (block_size Copying) (held_size Copying) h.content (λ q o held. let whole = heap.by_kind.whole q o held in omega arith) in
    let fits = heap.fits in
    omega arith

copying_room : (capacity allocated sum rounded more : ℕ) → capacity % page ≡ 0 → more % page ≡ 0 → 2 * rounded + 32 ≤ more → rounded % 16 ≡ 0 → allocated ≤ half_of capacity → sum ≤ capacity → allocated ≡ cond (capacity == 0) 0 (16 + sum)
    → 16 + sum + rounded ≤ half_of (capacity + more)
copying_room capacity allocated sum rounded more whole whole' needed even half fits is = elim (capacity == 0) as (λ b. (capacity == 0) ≡ b → allocated ≡ cond b 0 (16 + sum) → 16 + sum + rounded ≤ half_of (capacity + more)) [
  | true ↦ λ test e. let none : capacity ≡ 0 = eqb-true capacity 0 test in omega (arith, none, whole', needed, even, fits)
  | false ↦ λ test e. omega (arith, e, whole, whole', needed, even, half)
] refl is

new_free : (h : HeapView) (rounded more : ℕ) → IsHeap Counting h → rounded + 16 ≤ more → (place : ℕ) × IsFree (grown Counting h more) place rounded
new_free h rounded more heap needed = elim (h.capacity == 0) as (λ b. (h.capacity == 0) ≡ b → (place : ℕ) × IsFree (grown Counting h more) place rounded) [
  | true ↦ λ test.
      let none : h.capacity ≡ 0 = eqb-true h.capacity 0 test in (
        16,
        record {
          aligned = refl;
          not_null = omega arith;
          inside = omega (arith, needed);
          free = λ q o held. let lies = heap.objects q o held in absurd (omega (arith, lies.inside, lies.not_null, none));
        },
      )
  | false ↦ λ test.
      let some : (h.capacity ≡ 0 → ⊥) = eqb-false h.capacity 0 test in (
        h.capacity,
        record {
          aligned = (let whole = heap.pages in omega arith);
          not_null = omega (arith, some);
          inside = omega (arith, needed);
          free = λ q o held. let lies = heap.objects q o held in let whole = heap.pages in inl (omega (arith, lies.inside, lies.aligned, whole));
        },
      )
] refl

-- a growth by the bytes that are needed makes room
pub grown_fits : (layouts : Layouts) (h : HeapView) (size more : ℕ) → IsHeap layouts h → more % page ≡ 0 → need_of layouts size ≤ more → HasRoom layouts (grown layouts h more) size
grown_fits Null h size more heap whole needed = let within = heap.within in omega arith
grown_fits Counting h size more heap whole needed = new_free h (round_up size alignment) more heap needed
grown_fits Copying h size more heap whole needed =
    copying_room h.capacity h.allocated (total (block_size Copying) h.content) (round_up size alignment) more heap.pages whole needed (omega arith) heap.by_kind.half (total_blocks h heap) heap.allocated
