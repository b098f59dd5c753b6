-- The laws of free runs.
use Rattle.std.proofs.Common.{ℕ, ◌≡◌, ◌≤◌, ◌<◌, ◌+◌, ◌-◌, List, [], ◌∷◌, ◌++◌, arith, refl, ap, sym, ◌∙◌, ltb, leb, not, true, false, inl, inr, Bool, ◌&&◌, ◌||◌}
use Rattle.std.proofs.lemmas.Bool.{lt-ltb, le-ltb, le-leb, lt-leb, cases_lt}
use Rattle.std.proofs.lemmas.List.Sums.{sum_by-append, sum_by-cons}
use Rattle.std.specs.List.{list_any}
use Rattle.gc_free.specs.declared.run.Run.{Run}
use Rattle.gc_free.specs.Runs.{end_of, gap, gaps, IsSpread}
use Rattle.gc_free.specs.Space.{places_end, covers}
use Rattle.gc_free.specs.Laws.{StandApart, FollowsApart, bytes_in_runs, FreeRunsAreTheRest, FreeRunsAreMaximal, BytesAddUp, AllBackLeavesOneRun}
use Rattle.gc_free.proofs.Slots.{Over, gaps-over}

pub list_any-append : (test : Run → Bool) (xs ys : List Run) → list_any test (xs ++ ys) ≡ (list_any test xs || list_any test ys)
list_any-append test [] ys = refl
list_any-append test (x ∷ xs) ys = elim (test x) as (λ b. (b || list_any test (xs ++ ys)) ≡ ((b || list_any test xs) || list_any test ys)) [ true ↦ refl | false ↦ list_any-append test xs ys ]

-- which places a gap covers
gap_covers : (p from to : ℕ) → list_any (covers p) (gap from to) ≡ (leb from p && ltb p to)
gap_covers p from to =
    elim (cases_lt from to) [
      | inl some ↦ elim (cases_lt p from) [
        | inl l ↦ simp (lt-ltb from to some, lt-leb from p l)
        | inr l ↦ elim (cases_lt p to) [
          | inl h ↦ simp (lt-ltb from to some, le-leb from p l, lt-ltb p to h, lt-ltb p (from + (to - from)) (omega arith))
          | inr h ↦ simp (lt-ltb from to some, le-leb from p l, le-ltb p to h, le-ltb p (from + (to - from)) (omega arith))
        ]
      ]
      | inr none ↦ elim (cases_lt p from) [
        | inl l ↦ simp (le-ltb from to none, lt-leb from p l)
        | inr l ↦ simp (le-ltb from to none, le-leb from p l, le-ltb p to (omega arith))
      ]
    ]

and_true : (b : Bool) → (b && true) ≡ b
and_true true = refl
and_true false = refl

none_covered : (p from end : ℕ) (bs : List Run) → p < from → IsSpread from end bs → list_any (covers p) bs ≡ false
none_covered p from end [] l up = refl
none_covered p from end (b ∷ bs) l up =
    let a : from ≤ b.place = up.0 in let some : 0 < b.length = up.1 in
    rw (lt-leb b.place p (omega arith)) (none_covered p (end_of b) end bs (omega arith) up.3)

gaps_cover : (p from end : ℕ) (bs : List Run) → IsSpread from end bs → list_any (covers p) (gaps from end bs) ≡ ((leb from p && ltb p end) && not (list_any (covers p) bs))
gaps_cover p from end [] up = gap_covers p from end ∙ sym (and_true (leb from p && ltb p end))
gaps_cover p from end (b ∷ bs) up =
    let a : from ≤ b.place = up.0 in let some : 0 < b.length = up.1 in let w : end_of b ≤ end = up.2 in
    let parts : list_any (covers p) (gap from b.place ++ gaps (end_of b) end bs) ≡ ((leb from p && ltb p b.place) || ((leb (end_of b) p && ltb p end) && not (list_any (covers p) bs))) =
    list_any-append (covers p) (gap from b.place) (gaps (end_of b) end bs)
    ∙ ap (λ x. x || list_any (covers p) (gaps (end_of b) end bs)) (gap_covers p from b.place)
    ∙ ap (λ x. (leb from p && ltb p b.place) || x) (gaps_cover p (end_of b) end bs up.3) in
    parts ∙ elim (cases_lt p (end_of b)) [
      | inl before ↦
          let later = none_covered p (end_of b) end bs before up.3 in
          elim (cases_lt p b.place) [
            | inl l ↦ elim (cases_lt p from) [
              | inl h ↦ simp (lt-leb from p h, lt-leb (end_of b) p before)
              | inr h ↦ simp (le-leb from p h, lt-ltb p b.place l, lt-ltb p end (omega arith), lt-leb b.place p l, later)
            ]
            | inr l ↦ simp (le-leb from p (omega arith), le-ltb p b.place l, lt-leb (end_of b) p before, lt-ltb p end (omega arith), le-leb b.place p l, lt-ltb p (end_of b) before)
          ]
      | inr past ↦ simp (le-leb from p (omega arith), le-ltb p b.place (omega arith), le-leb (end_of b) p past, le-leb b.place p (omega arith), le-ltb p (end_of b) past)
    ]

pub free_runs_are_the_rest : FreeRunsAreTheRest
free_runs_are_the_rest s place sound = gaps_cover place 16 (places_end s.capacity) s.held sound.blocks

-- MAXIMAL

follows_over : (low : ℕ) (xs : List Run) → Over low xs → FollowsApart low xs
follows_over low [] o = tt
follows_over low (x ∷ xs) o = o.0

apart_gaps : (from end : ℕ) (bs : List Run) → IsSpread from end bs → StandApart (gaps from end bs)
apart_gaps from end [] up =
    elim (cases_lt from end) [
      | inl l ↦ rw (lt-ltb from end l) (omega arith, tt, tt)
      | inr l ↦ rw (le-ltb from end l) tt
    ]
apart_gaps from end (b ∷ bs) up =
    let rest = apart_gaps (end_of b) end bs up.3 in
    let some : 0 < b.length = up.1 in
    elim (cases_lt from b.place) [
      | inl l ↦ rw (lt-ltb from b.place l)
          (omega arith, follows_over (from + (b.place - from)) (gaps (end_of b) end bs) (gaps-over (from + (b.place - from)) (end_of b) end bs (omega arith) up.3), rest)
      | inr l ↦ rw (le-ltb from b.place l) rest
    ]

pub free_runs_are_maximal : FreeRunsAreMaximal
free_runs_are_maximal s sound = apart_gaps 16 (places_end s.capacity) s.held sound.blocks

-- BYTES

gap_bytes : (from to : ℕ) → bytes_in_runs (gap from to) ≡ to - from
gap_bytes from to =
    elim (cases_lt from to) [
      | inl l ↦ rw (lt-ltb from to l) (omega arith)
      | inr l ↦ rw (le-ltb from to l) (omega arith)
    ]

gaps_bytes : (from end : ℕ) (bs : List Run) → IsSpread from end bs → bytes_in_runs (gaps from end bs) + bytes_in_runs bs ≡ end - from
gaps_bytes from end [] up = let g = gap_bytes from end in omega arith
gaps_bytes from end (b ∷ bs) up =
    let g = gap_bytes from b.place in
    let i = gaps_bytes (end_of b) end bs up.3 in
    let both : bytes_in_runs (gap from b.place ++ gaps (end_of b) end bs) ≡ bytes_in_runs (gap from b.place) + bytes_in_runs (gaps (end_of b) end bs) =
    sum_by-append (λ r. r.length) (gap from b.place) (gaps (end_of b) end bs) in
    let own : bytes_in_runs (b ∷ bs) ≡ b.length + bytes_in_runs bs = sum_by-cons (λ r. r.length) b bs in
    let a : from ≤ b.place = up.0 in let w : end_of b ≤ end = up.2 in
    omega arith

pub bytes_add_up : BytesAddUp
bytes_add_up s sound = gaps_bytes 16 (places_end s.capacity) s.held sound.blocks

pub all_back_leaves_one_run : AllBackLeavesOneRun
all_back_leaves_one_run s none =
    let end = places_end s.capacity in
    rw none (elim (cases_lt 16 end) [
      | inl l ↦ rw (lt-ltb 16 end l) (omega arith)
      | inr l ↦ rw (le-ltb 16 end l) (omega arith)
    ])
