-- Where a new object lies in a heap of which nothing is freed, and how full a heap is that has no room for it.
use Rattle.std.proofs.Common.{◌≡◌, ℕ, ◌+◌, ◌*◌, ◌/◌, ◌<◌, ◌≤◌, false, List, [], ◌∷◌, Option, Some, None, length, get_or, sum, map, refl, sym, ap, ◌∙◌, subst, inl, inr, arith}
use Rattle.std.specs.Prelude.{sum_by}
use Rattle.std.specs.List.{slice_get}
use Rattle.std.proofs.lemmas.Bool.{cases_lt, cases_eq}
use Rattle.std.proofs.lemmas.List.{take_all}
use Rattle.std.proofs.lemmas.List.Sums.{sum_by-cons, sum_by-take-le, sum_by_more}
use Rattle.std.proofs.lemmas.Option.{get_or_from_slice_get, slice_get_cases}
use Rattle.gc_types.specs.declared.kind.Layouts.{Layouts}
use Rattle.gc_types.specs.declared.kind.Layouts.TheVariants.{Null, Counting, Copying}
use Rattle.gc_types.specs.Declarations.{Declaration}
use Rattle.gc_types.specs.Layouts.{round_up}
use Rattle.gc_view.specs.Pages.{page}
use Rattle.gc_view.specs.Sizes.{alignment}
use Rattle.gc_view.proofs.Layouts.{round_up-le}
use Rattle.gc_model.specs.Allocation.{LacksFit, LacksMemory, no_heap, no_room, copied_size, skipped}
use Rattle.gc_model.specs.Gaps.{IsFront, IsGap, LiesAt, first, behind}
use Rattle.gc_model.specs.Reach.{IsReached}
use Rattle.gc_model.specs.Sizes.{block_bytes, block_bytes_at, next_after, next_place, object_size, rounded_size}
use Rattle.gc_model.specs.Table.{Table, make_heap}
use Rattle.gc_model.specs.Values.{Object}
use Rattle.gc_model.specs.Words.{Placing}
use Rattle.gc_image.specs.declared.image.ObjectLine.{ObjectLine}
use Rattle.gc_load_image.specs.Loads.{heap_bound, line_block}
use Rattle.gc_load_image.specs.Stages.{IsDense, early_objects, dense_start}
use Rattle.gc_load_image.proofs.CountUp.{all_counted, count_up, sum_at}
use Rattle.gc_load_image.proofs.SizeLemmas.{early_blocks, null_place}

-- The objects of lines lie so, in a table whose roots reach them all.
pub record Laid (layouts : Layouts) (t : Table ℕ) (places : Placing) (lines : List ObjectLine) : Type 0 where
  pub objects : t.objects ≡ early_objects 0 lines
  pub some : (p : ℕ) (o : Object ℕ) → slice_get t.objects p ≡ Some o → 0 < object_size Counting t.types o
  pub dense : IsDense layouts t.types t.objects places
  pub reached : (p : ℕ) → p < length t.objects → IsReached t p
  pub inside : (p : ℕ) → IsReached t p → p < length t.objects

abbrev block : List Declaration → Object ℕ → ℕ
block types o = block_bytes Counting types (Some o)

blocks_aligned : (types : List Declaration) (objects : List (Object ℕ)) → (k : ℕ) × (sum_by (block types) objects ≡ k * 16)
blocks_aligned types [] = (0, refl)
blocks_aligned types (o ∷ objects) =
    let rest = blocks_aligned types objects in
    let a = (object_size Counting types o + 15) / 16 in
    let total : block types o + sum_by (block types) objects ≡ (a + rest.0) * 16 = omega (arith, rest.1) in
    (a + rest.0, sum_by-cons (block types) o objects ∙ total)

module _ (t : Table ℕ) (places : Placing) (lines : List ObjectLine) (laid : Laid Counting t places lines) where
  abbrev start : ℕ → ℕ
  start p = dense_start t.types t.objects p

  there : (p : ℕ) → p < length t.objects → (o : Object ℕ) × (slice_get t.objects p ≡ Some o)
  there p below = elim ((slice_get_cases t.objects p).1) [
    | inl found ↦ (found.0, found.2)
    | inr past ↦ absurd (omega (arith, past.0, below))
  ]

  block_here : (p : ℕ) (o : Object ℕ) → slice_get t.objects p ≡ Some o → (block_bytes_at Counting t p ≡ block t.types o) × (0 < block t.types o)
  block_here p o is =
      let some = laid.some p o is in
      let up = round_up-le (object_size Counting t.types o) alignment (omega arith) in
      (ap (block_bytes Counting t.types) is, omega (arith, some, up))

  start_more : (p : ℕ) → p < length t.objects → (start (p + 1) ≡ start p + block_bytes_at Counting t p) × (0 < block_bytes_at Counting t p)
  start_more p below =
      let o = there p below in
      let here = block_here p o.0 o.1 in
      let more = sum_by_more (block t.types) t.objects p o.0 below in
      let same : block t.types (get_or t.objects p o.0) ≡ block t.types o.0 = ap (block t.types) (get_or_from_slice_get t.objects p o.0 o.0 o.1) in
      (omega (arith, more, same, here.0), omega (arith, here.0, here.1))

  start_end : start (length t.objects) ≡ skipped + sum_by (block t.types) t.objects
  start_end = ap (λ (xs : List (Object ℕ)). skipped + sum_by (block t.types) xs) (take_all (length t.objects) t.objects (omega arith))

  ends_below : (p : ℕ) → p < length t.objects → start p + block_bytes_at Counting t p ≤ start (length t.objects)
  ends_below p below =
      let more = (start_more p below).0 in
      let under = sum_by-take-le (block t.types) t.objects (p + 1) in
      omega (arith, more, under, start_end)

  -- no new object begins where one lies
  no_place_at : (word bytes : ℕ) → 0 < bytes → IsGap (LiesAt places) t word bytes → (q : ℕ) → q < length t.objects → word ≡ start q → ⊥
  no_place_at word bytes wide gap q below is =
      let positive = (start_more q below).1 in
      elim (gap.apart q (start q) ((laid.dense q (start q)).1 (below, refl))) [
        | inl before ↦ absurd (omega (arith, positive, before, is))
        | inr after ↦ absurd (omega (arith, wide, after, is))
      ]

  -- the place of a new one is behind the last
  pub place_is : (word bytes : ℕ) → 0 < bytes → IsGap (LiesAt places) t word bytes → IsFront (LiesAt places) t word → word ≡ dense_start t.types t.objects (length t.objects)
  place_is word bytes wide gap (first is) = elim (cases_eq (length t.objects) 0) [
    | inl none ↦ is ∙ sym (ap start none)
    | inr some ↦ absurd (no_place_at word bytes wide gap 0 (omega (arith, some)) is)
  ]
  place_is word bytes wide gap (behind {p = p} {word = w} lies ends) =
      let at = (laid.dense p w).0 lies in
      let more = (start_more p at.0).0 in
      let is : word ≡ start (p + 1) = omega (arith, at.1, more, ends) in
      elim (cases_lt (p + 1) (length t.objects)) [
        | inl further ↦ absurd (no_place_at word bytes wide gap (p + 1) further is)
        | inr last ↦ is ∙ ap start (let e : p + 1 ≡ length t.objects = omega (arith, last, at.0) in e)
      ]

  -- a gap behind the last
  gap_behind : (bytes pages : ℕ) → start (length t.objects) + bytes ≤ page * pages → t.pages ≡ pages → IsGap (LiesAt places) t (start (length t.objects)) bytes
  gap_behind bytes pages room same = record {
    aligned = (let multiple = blocks_aligned t.types t.objects in omega (arith, start_end, multiple.1));
    not_null = omega (arith, start_end);
    inside = subst (λ n. start (length t.objects) + bytes ≤ page * n) (sym same) room;
    apart = λ p word lies. let at = (laid.dense p word).0 lies in inl (let below = ends_below p at.0 in omega (arith, below, at.1));
  }

-- the blocks of objects are those of lines
blocks_are : (layouts : Layouts) (t : Table ℕ) (lines : List ObjectLine) → t.objects ≡ early_objects 0 lines → sum_by (λ (o : Object ℕ). block_bytes layouts t.types (Some o)) t.objects ≡ sum_by (line_block layouts t.types) lines
blocks_are layouts t lines are = ap (sum_by (λ (o : Object ℕ). block_bytes layouts t.types (Some o))) are ∙ early_blocks layouts t.types 0 lines

rounded_is : (types : List Declaration) (o : Option (Object ℕ)) → rounded_size types o ≡ block_bytes Copying types o
rounded_is types None = refl
rounded_is types (Some o) = refl

-- A heap that is as full as that has no room.
full_or_room : (layouts : Layouts) (t : Table ℕ) (places : Placing) (lines : List ObjectLine) (size : ℕ) → Laid layouts t places lines → LacksFit layouts places t size
    → heap_bound layouts t.pages < skipped + sum_by (line_block layouts t.types) lines + round_up size alignment
full_or_room Null t places lines size laid lacks = elim (cases_lt (heap_bound Null t.pages) (skipped + sum_by (line_block Null t.types) lines + round_up size alignment)) [
  | inl full ↦ full
  | inr room ↦ absurd (
      let place : round_up (next_place t) alignment ≡ skipped + sum_by (line_block Null t.types) lines = ap (λ (os : List (Object ℕ)). round_up (next_after t.types 1 os) alignment) laid.objects ∙ null_place t.types 0 1 lines in
      let up = round_up-le size alignment (omega arith) in
      lacks (omega (arith, place, up, room)))
]
full_or_room Counting t places lines size laid lacks = elim (cases_lt (heap_bound Counting t.pages) (skipped + sum_by (line_block Counting t.types) lines + round_up size alignment)) [
  | inl full ↦ full
  | inr room ↦ absurd (
      let end = start_end t places lines laid in
      let blocks = blocks_are Counting t lines laid.objects in
      let gap = gap_behind t places lines laid (round_up size alignment) t.pages (omega (arith, end, blocks, room)) refl in
      lacks (dense_start t.types t.objects (length t.objects), record { aligned = gap.aligned; not_null = gap.not_null; inside = gap.inside; apart = λ p word kept. gap.apart p word kept.0 }))
]
full_or_room Copying t places lines size laid lacks = elim (cases_lt (heap_bound Copying t.pages) (skipped + sum_by (line_block Copying t.types) lines + round_up size alignment)) [
  | inl full ↦ full
  | inr room ↦ absurd (
      let all = count_up 0 (length t.objects) in
      let sums : sum (map (copied_size t) all) ≡ sum_by (λ (o : Object ℕ). rounded_size t.types (Some o)) t.objects = sum_at (rounded_size t.types) (slice_get t.objects) 0 t.objects (λ i. ap (slice_get t.objects) (let e : 0 + i ≡ i = omega arith in e)) in
      let blocks : sum_by (λ (o : Object ℕ). rounded_size t.types (Some o)) t.objects ≡ sum_by (line_block Copying t.types) lines = blocks_are Copying t lines laid.objects in
      lacks (record {
        reached = all;
        are_reached = all_counted (IsReached t) (length t.objects) laid.reached laid.inside;
        room = omega (arith, sums, blocks, room);
      }))
]

no_bound : (layouts : Layouts) (pages : ℕ) → pages ≡ 0 → heap_bound layouts pages ≡ 0
no_bound Null pages none = omega (arith, none)
no_bound Counting pages none = omega (arith, none)
no_bound Copying pages none = omega (arith, none)

made_laid : (layouts : Layouts) (t : Table ℕ) (places : Placing) (lines : List ObjectLine) → Laid layouts t places lines → Laid layouts (make_heap t) places lines
made_laid layouts t places lines laid = record { objects = laid.objects; some = laid.some; dense = laid.dense; reached = laid.reached; inside = laid.inside }

-- A heap that was refused pages for one more object has no room for it.
pub lacks_full : (layouts : Layouts) (limit : Option ℕ) (places : Placing) (o : Object ℕ) (t t' : Table ℕ) (lines : List ObjectLine) → Laid layouts t places lines → (t.made ≡ false → t.pages ≡ 0) → LacksMemory layouts limit places o t t'
    → heap_bound layouts t'.pages < skipped + sum_by (line_block layouts t.types) lines + round_up (object_size layouts t.types o) alignment
lacks_full layouts limit places o t t' lines laid unmade (no_heap refused same) =
    let none = no_bound layouts t'.pages (ap (λ (x : Table ℕ). x.pages) same ∙ unmade refused.unmade) in
    omega (arith, none)
lacks_full layouts limit places o t t' lines laid unmade (no_room may refused lacks same) =
    let full = full_or_room layouts (make_heap t) places lines (object_size layouts t.types o) (made_laid layouts t places lines laid) lacks in
    subst (λ (x : Table ℕ). heap_bound layouts x.pages < skipped + sum_by (line_block layouts t.types) lines + round_up (object_size layouts t.types o) alignment) (sym same) full
