-- The free run that begins at a place, by the current run and the others.
use Rattle.std.proofs.Common.{ℕ, ◌≡◌, ◌≤◌, ◌<◌, List, [], ◌∷◌, arith, refl, ap, sym, ◌∙◌, inl, inr, Option, Some, None, subst}
use Rattle.std.proofs.lemmas.Bool.{lt-ltb, le-ltb, eq-eqb, ne_eqb, cases_lt, cases_eq}
use Rattle.std.specs.List.{find}
use Rattle.gc_free.specs.declared.run.Run.{Run}
use Rattle.gc_free.specs.Runs.{end_of, without, begins_at, IsSpread}
use Rattle.gc_free.specs.Space.{Space, IsBetween, IsSound, places_end, free_runs}
use Rattle.gc_free.specs.Listed.{current_at}
use Rattle.gc_free.specs.Kept.{is_current, KeepsRuns}
use Rattle.gc_free.proofs.ByLength.{In, In-place}
use Rattle.gc_free.proofs.TwoOrdersKept.{In-insert_run}
use Rattle.gc_free.proofs.MergedRuns.{without_none}
use Rattle.gc_free.proofs.Taking.{put_back, gaps-spread}

find_apart : (p q : ℕ) (xs : List Run) → (q ≡ p → ⊥) → find (begins_at p) (without (begins_at q) xs) ≡ find (begins_at p) xs
find_apart p q [] ne = refl
find_apart p q (x ∷ xs) ne =
    elim (cases_eq x.place q) [
      | inl e ↦ simp (eq-eqb x.place q e, ne_eqb x.place p (λ f. ne (sym e ∙ f))) (find_apart p q xs ne)
      | inr d ↦ elim (cases_eq x.place p) [
        | inl f ↦ simp (ne_eqb x.place q d, eq-eqb x.place p f)
        | inr f ↦ simp (ne_eqb x.place q d, ne_eqb x.place p f) (find_apart p q xs ne)
      ]
    ]

find_in : (low high : ℕ) (r : Run) (xs : List Run) → IsSpread low high xs → In r xs → find (begins_at r.place) xs ≡ Some r
find_in low high r [] up h = absurd h
find_in low high r (x ∷ xs) up (inl e) = rw (eq-eqb x.place r.place (ap (λ z. z.place) e)) (ap (λ z. Some z) e)
find_in low high r (x ∷ xs) up (inr h) =
    let p = In-place (end_of x) high r xs up.3 h in
    let past : end_of x ≤ r.place = p.0 in let some : 0 < x.length = up.1 in
    rw (ne_eqb x.place r.place (λ e. omega arith)) (find_in (end_of x) high r xs up.3 h)

by_current : (s : Space) (o : Option Run) → s.current ≡ o → (place : ℕ) (r : Run) → IsSound s → current_at place o ≡ Some r → find (begins_at place) (free_runs s) ≡ Some r
by_current s None own place r sound e = absurd (cc)
by_current s (Some c) own place r sound e =
    let end = places_end s.capacity in
    let between : IsBetween c 16 end s.held = rw own at sound.current in
    let back = put_back c 16 end s.held sound.blocks between in
    elim (cases_eq c.place place) [
      | inl same ↦ elim (cases_lt 0 c.length) [
        | inl some ↦
            let e' : Some c ≡ Some r = rw (eq-eqb c.place place same, lt-ltb 0 c.length some) at e in
            let among : In c (free_runs s) = subst (In c) (back.some some) (In-insert_run c (without (begins_at c.place) (free_runs s))) in
            ap (λ p. find (begins_at p) (free_runs s)) (sym same) ∙ find_in 16 end c (free_runs s) (gaps-spread 16 end s.held sound.blocks) among ∙ e'
        | inr none ↦ let e' : None ≡ Some r = rw (eq-eqb c.place place same, le-ltb 0 c.length none) at e in absurd (cc)
      ]
      | inr other ↦ let e' : None ≡ Some r = rw (ne_eqb c.place place other) at e in absurd (cc)
    ]

by_others : (s : Space) (o : Option Run) → s.current ≡ o → (place : ℕ) → IsSound s → current_at place o ≡ None
    → find (begins_at place) (without (is_current s.current) (free_runs s)) ≡ find (begins_at place) (free_runs s)
by_others s None own place sound e = ap (λ o. find (begins_at place) (without (is_current o) (free_runs s))) own ∙ ap (find (begins_at place)) (without_none (free_runs s))
by_others s (Some c) own place sound e =
    let end = places_end s.capacity in
    let between : IsBetween c 16 end s.held = rw own at sound.current in
    let back = put_back c 16 end s.held sound.blocks between in
    ap (λ o. find (begins_at place) (without (is_current o) (free_runs s))) own
    ∙ elim (cases_eq c.place place) [
      | inl same ↦ elim (cases_lt 0 c.length) [
        | inl some ↦ let e' : Some c ≡ None = rw (eq-eqb c.place place same, lt-ltb 0 c.length some) at e in absurd (cc)
        | inr none ↦ ap (find (begins_at place)) (back.empty (omega arith))
      ]
      | inr other ↦ find_apart place c.place (free_runs s) other
    ]

-- where the current run begins there
pub at_current : (s : Space) (runs : List Run) (room blocks place : ℕ) (r : Run) → KeepsRuns s runs room blocks → current_at place s.current ≡ Some r
    → find (begins_at place) (free_runs s) ≡ Some r
at_current s runs room blocks place r kept e = by_current s s.current refl place r kept.sound e

-- and where it doesn't
pub at_other : (s : Space) (runs : List Run) (room blocks place : ℕ) → KeepsRuns s runs room blocks → current_at place s.current ≡ None
    → find (begins_at place) runs ≡ find (begins_at place) (free_runs s)
at_other s runs room blocks place kept e = ap (find (begins_at place)) kept.others ∙ by_others s s.current refl place kept.sound e
