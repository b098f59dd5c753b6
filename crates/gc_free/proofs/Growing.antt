-- New capacity keeps what a free list keeps.
use Rattle.std.proofs.Common.{ℕ, ◌≡◌, ◌≤◌, ◌<◌, ◌+◌, ◌-◌, max, List, [], ◌++◌, arith, refl, ap, sym, ◌∙◌, Option, Some, None, subst, append-nil}
use Rattle.std.specs.List.{find}
use Rattle.std.specs.Option.{MatchOption}
use Rattle.gc_free.specs.declared.run.Run.{Run}
use Rattle.gc_free.specs.Runs.{run, end_of, gap, gaps, without, IsSpread}
use Rattle.gc_free.specs.Space.{IsBetween, covers}
use Rattle.gc_free.specs.Kept.{is_current}
use Rattle.gc_free.proofs.Slots.{lower, before}
use Rattle.gc_free.proofs.Between.{between_within, between_at, last_left, last_left_back, last_apart}
use Rattle.gc_free.proofs.MergedRuns.{Site, merged_none, merged_apart, merged_left, around_is, gap_none}
use Rattle.gc_free.proofs.Giving.{on_left, on_right, not_at_all, touching, touches_left, IsGiven, gaps-last, last_gap, before_under_all, lower_within}

-- the gaps as they are around the new places
old_gaps : (from end further : ℕ) (held : List Run) → IsSpread from end held
    → gaps from end held ≡ before from held ++ (gap (lower from held) (max from end) ++ (gap further further ++ []))
old_gaps from end further held up =
    gaps-last from end held
    ∙ ap (λ g. before from held ++ (g ++ [])) (last_gap from end held up)
    ∙ ap (λ g. before from held ++ (gap (lower from held) (max from end) ++ (g ++ []))) (sym (gap_none further further (omega arith)))

new_site : (p n from end : ℕ) (held : List Run) → p ≡ max from end → 0 < n → IsSpread from end held → Site (run p n) (before from held) [] (lower from held) (p + n)
new_site p n from end held e some up =
    let l = lower_within from end held up in
    record { under = before_under_all from end held up; over = tt; left = omega arith; some = some; right = omega arith }

grown_none : (p n from end : ℕ) (held : List Run) → p ≡ max from end → 0 < n → IsSpread from end held
    → IsGiven (run p n) None (without (is_current None) (gaps from end held)) from (p + n) held
grown_none p n from end held e some up =
    record {
      merged = rw (gaps-last from (p + n) held, old_gaps from end (p + n) held up, ← e)
          (merged_none (run p n) (before from held) [] (lower from held) (p + n) (new_site p n from end held e some up));
      between = tt;
    }

whole_last : (lo from further : ℕ) (held : List Run) → lo ≡ lower from held → lo ≤ further → IsBetween (run lo (further - lo)) from further held
whole_last lo from further held e l =
    subst (λ h. IsBetween (run lo (further - lo)) from further h) (append-nil held) (between_at (run lo (further - lo)) from further held [] e (omega arith))

grown_some : (c : Run) (p n from end : ℕ) (held : List Run) → p ≡ max from end → 0 < n → IsSpread from end held → IsBetween c from end held
    → IsGiven (run p n) (Some c) (without (is_current (Some c)) (gaps from end held)) from (p + n) held
grown_some c p n from end held e some up between =
    let b = run p n in let xs = before from held in let lo = lower from held in
    let site = new_site p n from end held e some up in
    let w = between_within c from end held up between in
    let begins : from ≤ c.place = w.begins in let ends : end_of c ≤ end = w.ends in
    let left : lo ≤ p = site.left in
    let around : find (covers p) (gaps from (p + n) held) ≡ Some (run lo (p + n - lo)) = ap (find (covers p)) (gaps-last from (p + n) held) ∙ around_is b xs [] lo (p + n) site in
    elim (touching b c) [
      | on_left t ↦
          let t' : end_of c ≡ p = t in
          record {
            merged = rw (gaps-last from (p + n) held, old_gaps from end (p + n) held up, ← e) (merged_left b c xs [] lo (p + n) site t (last_left c from end held up between (omega arith)));
            between = rw (touches_left b c t, around) (whole_last lo from (p + n) held refl (omega arith));
          }
      | on_right t ↦ let t' : p + n ≡ c.place = t in absurd (omega arith)
      | not_at_all l r apart ↦
          let l' : end_of c ≡ p → ⊥ = l in
          record {
            merged = rw (gaps-last from (p + n) held, old_gaps from end (p + n) held up, ← e)
                (merged_apart b c xs [] lo (p + n) site apart (λ i. let back = last_left_back c from end held up between (sym i) in l (omega arith)) r);
            between = rw apart (last_apart c from end (p + n) held between (λ i. l (omega arith)));
          }
    ]

pub grown : (current : Option Run) (p n from end : ℕ) (held : List Run) → p ≡ max from end → 0 < n → IsSpread from end held
    → MatchOption current (Unit {0}) (λ c. IsBetween c from end held)
    → IsGiven (run p n) current (without (is_current current) (gaps from end held)) from (p + n) held
grown None p n from end held e some up between = grown_none p n from end held e some up
grown (Some c) p n from end held e some up between = grown_some c p n from end held e some up between
