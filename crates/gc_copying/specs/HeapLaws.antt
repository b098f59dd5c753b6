-- A sound copying heap is what a heap always is.
use Rattle.std.proofs.Common.{◌≡◌, ℕ, ◌+◌, ◌-◌, ◌%◌, ◌<◌, ◌≤◌, ◌^◌, Bool, true, false, cond, List, length, Some, refl, sym, ap, subst, ◌∙◌, inl, inr, arith}
use Rattle.std.specs.Prelude.{◌==◌, if◌then◌else◌}
use Rattle.std.specs.Ordering.{nat_cmp}
use Rattle.std.specs.FinMap as finite
use Rattle.std.proofs.lemmas.Bool.{cases_eq, cases_lt, ne_eqb, eq-eqb}
use Rattle.gc_types.specs.declared.kind.Layouts.TheVariants.{Copying}
use Rattle.gc_types.specs.declared.kind.VMGcKind.{VMGcKind}
use Rattle.gc_types.specs.declared.kind.VMGcKind.TheVariants.{ExternRef, AnyRef, EqRef, StructRef, ArrayRef, ExnRef}
use Rattle.gc_types.specs.Layouts.{round_up}
use Rattle.gc_memory.specs.Lists.{In}
use Rattle.gc_memory.proofs.ChainLemmas.{Chain-lies, Chain-sum, Chain-apart}
use Rattle.gc_memory.proofs.ListLemmas.{sum_over-same}
use Rattle.gc_view.specs.Heaps.{HeapObject, detached_in}
use Rattle.gc_heap.specs.Objects.{size_with, held_size, first_offset, data_offset}
use Rattle.gc_heap.specs.Content.{total, block_size, LiesAtPlace, LiesInHalf, IsHeap}
use Rattle.gc_heap.specs.Totals.{total-empty}
use Rattle.gc_heap.specs.Content.{half_of}
use Rattle.gc_copying.specs.Spaces.{half_start, half_end, half_skipped}
use Rattle.gc_copying.specs.Layout.{copying_first_place, copying_size_at, places_in, copying_kind_at, copying_data_at, copying_object_at}
use Rattle.gc_copying.specs.Content.{objects_at, space_view, IsCopyingWhole, IsSpace}
use Rattle.gc_copying.specs.ObjectLaws.{length-external, held_size-copying, held_only, total-objects_at}

-- a half begins at a multiple of 16 and ends in the memory
pub record HalfLies (n : ℕ) (upper : Bool) : Type 0 where
  pub aligned : half_start n upper % 16 ≡ 0
  pub to : half_end n upper ≤ n

pub half_lies : (n : ℕ) (upper : Bool) → HalfLies n upper
half_lies n true = record { aligned = omega arith; to = omega arith }
half_lies n false = record { aligned = omega arith; to = omega arith }

-- where nothing is skipped there is no memory, so no half
pub data Skips (n : ℕ) (upper : Bool) : Type 0 where
  nothing : n ≡ 0 → half_skipped n ≡ 0 → half_start n upper ≡ 0 → half_of n ≡ 0 → Skips n upper
  sixteen : 0 < n → half_skipped n ≡ 16 → Skips n upper

no_start : (n : ℕ) (upper : Bool) → n ≡ 0 → half_start n upper ≡ 0
no_start n true e = omega arith
no_start n false e = refl

pub skips : (n : ℕ) (upper : Bool) → Skips n upper
skips n upper = elim (cases_eq n 0) [
  | inl e ↦ nothing e (ap (λ b. cond b 0 16) (eq-eqb n 0 e)) (no_start n upper e) (omega arith)
  | inr ne ↦ elim (cases_lt 0 n) [
    | inl more ↦ sixteen more (ap (λ b. cond b 0 16) (ne_eqb n 0 ne))
    | inr none ↦ absurd (ne (omega arith))
  ]
]

-- where an object of a space lies
pub record LiesInSpace (bytes : List ℕ) (upper : Bool) (bump p : ℕ) : Type 0 where
  pub from : copying_first_place (length bytes) upper ≤ p
  pub to : p + copying_size_at bytes p ≤ bump
  pub inside : p + copying_size_at bytes p ≤ length bytes
  pub least : 16 ≤ copying_size_at bytes p
  pub units : copying_size_at bytes p % 16 ≡ 0
  pub aligned : p % 16 ≡ 0
  pub not_null : 0 < p

pub first_aligned : (n : ℕ) (upper : Bool) → copying_first_place n upper % 16 ≡ 0
first_aligned n upper = let h = half_lies n upper in elim (skips n upper) [
  | nothing e s start half ↦ omega (arith, h.aligned)
  | sixteen more s ↦ omega (arith, h.aligned)
]

place_not_null : (n : ℕ) (upper : Bool) (p size bump : ℕ) → copying_first_place n upper ≤ p → p + size ≤ bump → 16 ≤ size → bump ≤ half_end n upper → 0 < p
place_not_null n upper p size bump from to least inside = elim (skips n upper) [
  | nothing e s start half ↦ absurd (omega arith)
  | sixteen more s ↦ omega arith
]

pub lies_in_space : (bytes : List ℕ) (upper : Bool) (bump head objects p : ℕ) → IsSpace bytes upper bump head objects → In p (places_in bytes upper bump)
    → LiesInSpace bytes upper bump p
lies_in_space bytes upper bump head objects p s i =
    let l = Chain-lies (copying_size_at bytes) (copying_first_place (length bytes) upper) bump p (places_in bytes upper bump) s.chain i in
    let h = half_lies (length bytes) upper in
    record {
      from = l.from;
      to = l.to;
      inside = omega (arith, l.to, s.inside, h.to);
      least = l.least;
      units = l.whole;
      aligned = l.aligned (first_aligned (length bytes) upper);
      not_null = place_not_null (length bytes) upper p (copying_size_at bytes p) bump l.from l.to l.least s.inside;
    }

whole_by : (k : VMGcKind) (n size : ℕ) → first_offset Copying k ≤ size → size_with Copying k n ≡ size → (k ≡ ExternRef → n ≡ 4) → first_offset Copying k ≤ data_offset Copying k + n
whole_by ExternRef n size least is host = let four : n ≡ 4 = host refl in omega arith
whole_by AnyRef n size least is host = omega arith
whole_by EqRef n size least is host = omega arith
whole_by StructRef n size least is host = omega arith
whole_by ArrayRef n size least is host = omega arith
whole_by ExnRef n size least is host = omega arith

-- the object at a place of a space lies there
copying_lies_at_place : (bytes : List ℕ) (upper : Bool) (bump p : ℕ) → LiesInSpace bytes upper bump p → IsCopyingWhole bytes p → LiesAtPlace Copying (length bytes) p (copying_object_at bytes p)
copying_lies_at_place bytes upper bump p l w =
    let held = held_size-copying bytes p w l.inside in
    let host : copying_kind_at bytes p ≡ ExternRef → length (copying_data_at bytes p (copying_kind_at bytes p)) ≡ 4 = λ e.
    ap (λ k. length (copying_data_at bytes p k)) e ∙ length-external bytes p (let size = (w.external e).size in omega (arith, l.inside)) in
    record {
      aligned = l.aligned;
      not_null = l.not_null;
      kind = w.object_kind;
      whole = whole_by (copying_kind_at bytes p) (length (copying_data_at bytes p (copying_kind_at bytes p))) (copying_size_at bytes p) w.least held host;
      host = host;
      spare = w.spare;
      inside = subst (λ n. p + n ≤ length bytes) (sym held) l.inside;
    }

-- the sizes of the objects add up to the bytes behind the first place
pub sizes_are : (bytes : List ℕ) (upper : Bool) (bump head objects : ℕ) → IsSpace bytes upper bump head objects
    → copying_first_place (length bytes) upper + total (held_size Copying) (objects_at bytes (places_in bytes upper bump)) ≡ bump
sizes_are bytes upper bump head objects s =
    let ps : List ℕ = places_in bytes upper bump in
    let first : ℕ = copying_first_place (length bytes) upper in
    let each = sum_over-same (copying_size_at bytes) (λ p. held_size Copying (copying_object_at bytes p)) ps
    (λ p i. held_size-copying bytes p (s.whole p i) (lies_in_space bytes upper bump head objects p s i).inside) in
    ap (λ n. first + n) (total-objects_at (held_size Copying) bytes first bump ps s.chain ∙ each)
    ∙ Chain-sum (copying_size_at bytes) first bump ps s.chain

-- and so do their blocks
pub blocks_are : (bytes : List ℕ) (upper : Bool) (bump head objects : ℕ) → IsSpace bytes upper bump head objects
    → copying_first_place (length bytes) upper + total (block_size Copying) (objects_at bytes (places_in bytes upper bump)) ≡ bump
blocks_are bytes upper bump head objects s =
    let ps : List ℕ = places_in bytes upper bump in
    let first : ℕ = copying_first_place (length bytes) upper in
    let each = sum_over-same (copying_size_at bytes) (λ p. block_size Copying (copying_object_at bytes p)) ps
    (λ p i.
    let l = lies_in_space bytes upper bump head objects p s i in
    let whole : round_up (copying_size_at bytes p) 16 ≡ copying_size_at bytes p = omega (arith, l.units) in
    ap (λ n. round_up n 16) (held_size-copying bytes p (s.whole p i) l.inside) ∙ whole) in
    ap (λ n. first + n) (total-objects_at (block_size Copying) bytes first bump ps s.chain ∙ each)
    ∙ Chain-sum (copying_size_at bytes) first bump ps s.chain

allocated_by : (n bump sum : ℕ) (upper : Bool) → copying_first_place n upper + sum ≡ bump → bump ≤ half_end n upper → bump - half_start n upper ≡ (if n == 0 then 0 else 16 + sum)
allocated_by n bump sum upper e h = elim (skips n upper) [
  | nothing z s start half ↦ rw (eq-eqb n 0 z) (omega arith)
  | sixteen more s ↦ rw (ne_eqb n 0 (λ z. omega arith)) (omega arith)
]

-- the first object lies behind the bytes that are skipped, as any object shows that there is a half
first_behind : (n : ℕ) (upper : Bool) (p size bump : ℕ) → copying_first_place n upper ≤ p → p + size ≤ bump → 16 ≤ size → bump ≤ half_end n upper → half_start n upper + 16 ≤ p
first_behind n upper p size bump from to least inside = elim (skips n upper) [
  | nothing e s start half ↦ absurd (omega arith)
  | sixteen more s ↦ omega arith
]

-- The objects of a sound space lie in its active half.
in_half : (bytes : List ℕ) (upper : Bool) (bump head objects scopes : ℕ) → IsSpace bytes upper bump head objects → LiesInHalf (space_view bytes upper bump scopes)
in_half bytes upper bump head objects scopes s =
    let ps : List ℕ = places_in bytes upper bump in
    let lies = λ (p : ℕ) (i : In p ps). lies_in_space bytes upper bump head objects p s i in
    let held = λ (p : ℕ) (o : HeapObject) (e : finite.get (objects_at bytes ps) p ≡ Some o).
    let f = held_only bytes p o ps e in
    ap (held_size Copying) f.is ∙ held_size-copying bytes p (s.whole p f.among) (lies p f.among).inside in
    record {
      counts = refl;
      half = omega (arith, s.inside);
      from = λ p o e.
          let l = lies p (held_only bytes p o ps e).among in
          first_behind (length bytes) upper p (copying_size_at bytes p) bump l.from l.to l.least s.inside;
      below = λ p o e.
          let l = lies p (held_only bytes p o ps e).among in
          omega (arith, held p o e, l.to, first_behind (length bytes) upper p (copying_size_at bytes p) bump l.from l.to l.least s.inside);
      whole = λ p o e.
          let l = lies p (held_only bytes p o ps e).among in
          ap (λ n. n % 16) (held p o e) ∙ l.units;
    }

-- A sound space is a heap.
pub copying_space_is_heap : (bytes : List ℕ) (upper : Bool) (bump head objects scopes : ℕ) → IsSpace bytes upper bump head objects → scopes < 2 ^ 64
    → IsHeap Copying (space_view bytes upper bump scopes)
copying_space_is_heap bytes upper bump head objects scopes s below =
    let ps : List ℕ = places_in bytes upper bump in
    let first : ℕ = copying_first_place (length bytes) upper in
    let lies = λ (p : ℕ) (i : In p ps). lies_in_space bytes upper bump head objects p s i in
    let h = half_lies (length bytes) upper in
    record {
      objects = λ p o e.
          let f = held_only bytes p o ps e in
          subst (LiesAtPlace Copying (length bytes) p) (sym f.is) (copying_lies_at_place bytes upper bump p (lies p f.among) (s.whole p f.among));
      apart = λ p q o o' e e' before.
          let f = held_only bytes p o ps e in
          let g = held_only bytes q o' ps e' in
          let held = ap (held_size Copying) f.is ∙ held_size-copying bytes p (s.whole p f.among) (lies p f.among).inside in
          subst (λ n. p + n ≤ q) (sym held) (Chain-apart (copying_size_at bytes) first bump p q ps s.chain f.among g.among before);
      fits = let sizes = sizes_are bytes upper bump head objects s in omega (arith, s.inside, h.to);
      pages = s.pages;
      bound = s.bound;
      within = omega (arith, s.inside, h.to);
      allocated = allocated_by (length bytes) bump _ upper (blocks_are bytes upper bump head objects s) s.inside;
      by_kind = in_half bytes upper bump head objects scopes s;
      detached = λ e. absurd (cc);
      scopes = below;
    }

-- A heap with no memory is one.
pub copying_detached_is_heap : (scopes : ℕ) → scopes < 2 ^ 64 → IsHeap Copying (detached_in scopes)
copying_detached_is_heap scopes below = record {
  objects = λ p o e. absurd (none p o e);
  apart = λ p q o o' e e' before. absurd (none p o e);
  fits = omega (arith, total-empty (held_size Copying));
  pages = refl;
  bound = omega arith;
  within = omega arith;
  allocated = refl;
  by_kind = record {
    counts = refl;
    half = omega arith;
    from = λ p o e. absurd (none p o e);
    below = λ p o e. absurd (none p o e);
    whole = λ p o e. absurd (none p o e);
  };
  detached = λ e. refl;
  scopes = below;
}
  where
    none : (p : ℕ) (o : HeapObject) → finite.get (finite.empty {X = HeapObject} {R = nat_cmp}) p ≡ Some o → ⊥
    none p o e = cc (finite.get-empty nat_cmp p)
