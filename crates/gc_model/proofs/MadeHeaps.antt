-- A heap that got its first pages is a heap.
use Rattle.std.proofs.Common.{◌≡◌, ℕ, ◌+◌, ◌*◌, ◌%◌, ◌^◌, ◌<◌, ◌≤◌, ◌↔◌, ◌==◌, true, false, cond, Some, IsTrue, IsSome, refl, sym, ap, ◌∙◌, subst, arith}
use Rattle.std.specs.FinMap.{get, empty, get-empty}
use Rattle.std.specs.FinSet as finset
use Rattle.std.specs.Ordering.{nat_cmp}
use Rattle.std.proofs.lemmas.Option.{none-some}
use Rattle.std.proofs.lemmas.Bool.{eqb-false}
use Rattle.gc_types.specs.declared.kind.Layouts.{Layouts}
use Rattle.gc_types.specs.declared.kind.Layouts.TheVariants.{Null, Counting, Copying}
use Rattle.gc_view.specs.Pages.{page, max_pages}
use Rattle.gc_heap.specs.Objects.{held_size}
use Rattle.gc_heap.specs.Content.{IsHeap, IsHeld, AllocatedIs, KindIs, block_size, half_of}
use Rattle.gc_heap.specs.Heap.{empty_heap, allocated_at_first}
use Rattle.gc_heap.specs.Totals.{total-empty}

none_held : {V : Type 0} (q : ℕ) (x : V) → get (empty {X = V} {R = nat_cmp}) q ≡ Some x → ⊥
none_held q x e = none-some x (sym (get-empty nat_cmp q) ∙ e)

-- the first 16 bytes of a half, where there is any memory
skipped_fits : (bytes : ℕ) → bytes % page ≡ 0 → (allocated_at_first Copying bytes ≤ half_of bytes) × (allocated_at_first Copying bytes ≤ bytes)
skipped_fits bytes whole = elim (bytes == 0) as (λ b. (bytes == 0) ≡ b → (cond b 0 16 ≤ half_of bytes) × (cond b 0 16 ≤ bytes)) [
  | true ↦ λ e. (omega arith, omega arith)
  | false ↦ λ e. let some : (bytes ≡ 0 → ⊥) = eqb-false bytes 0 e in (omega (arith, some, whole), omega (arith, some, whole))
] refl

within : (layouts : Layouts) (bytes : ℕ) → bytes % page ≡ 0 → allocated_at_first layouts bytes ≤ bytes
within Null bytes whole = omega arith
within Counting bytes whole = omega arith
within Copying bytes whole = (skipped_fits bytes whole).1

allocated_is : (layouts : Layouts) (bytes scopes : ℕ) → AllocatedIs layouts (empty_heap layouts bytes scopes)
allocated_is Null bytes scopes = λ place o e. absurd (none_held place o e)
allocated_is Counting bytes scopes = sym (total-empty (block_size Counting))
allocated_is Copying bytes scopes = ap (λ n. cond (bytes == 0) 0 (16 + n)) (sym (total-empty (block_size Copying)))

no_counts_held : (place scopes bytes : ℕ) → IsHeld (empty_heap Counting bytes scopes) place ↔ IsSome (get (empty {X = ℕ} {R = nat_cmp}) place)
no_counts_held place scopes bytes = (λ held. absurd (none_held place held.0 held.1), λ some. absurd (cc (sym (ap Rattle.std.specs.Prelude.is_some (get-empty nat_cmp place)) ∙ some)))

none_in : (place : ℕ) → IsTrue (finset.contains (finset.empty {R = nat_cmp}) place) → ⊥
none_in place e = cc (sym (finset.contains-empty nat_cmp place) ∙ e)

kind_is : (layouts : Layouts) (bytes scopes : ℕ) → bytes % page ≡ 0 → KindIs layouts (empty_heap layouts bytes scopes)
kind_is Null bytes scopes whole = (refl, refl)
kind_is Counting bytes scopes whole = (
  record {
    counted = λ place. no_counts_held place scopes bytes;
    shown = λ place e. absurd (none_in place e);
    queued = λ place e. absurd (none_in place e);
  },
  refl,
)
kind_is Copying bytes scopes whole = record {
  counts = refl;
  half = (skipped_fits bytes whole).0;
  from = λ place o e. absurd (none_held place o e);
  below = λ place o e. absurd (none_held place o e);
  whole = λ place o e. absurd (none_held place o e);
}

-- a heap with its first pages
pub made_heap : (layouts : Layouts) (first scopes : ℕ) → first ≤ max_pages → scopes < 2 ^ 64 → IsHeap layouts (empty_heap layouts (page * first) scopes)
made_heap layouts first scopes few below =
    let whole : (page * first) % page ≡ 0 = omega arith in
    record {
      objects = λ place o e. absurd (none_held place o e);
      apart = λ p q o o' e. absurd (none_held p o e);
      fits = subst (λ n. n ≤ page * first) (sym (total-empty (held_size layouts))) (omega arith);
      pages = whole;
      bound = omega (arith, few);
      within = within layouts (page * first) whole;
      allocated = allocated_is layouts (page * first) scopes;
      by_kind = kind_is layouts (page * first) scopes whole;
      detached = λ e. absurd (cc e);
      scopes = below;
    }
