-- Counts stay exact: how often a place is named, and what barriers make of its count.
use Rattle.std.proofs.Common.{◌≡◌, ◌≢◌, ℕ, ◌+◌, ◌-◌, ◌⊎◌, inl, inr, Bool, true, false, not, cond, nat_eq, List, [], ◌∷◌, ◌++◌, length, map, filter, Option, Some, None, Contains, refl, sym, ap, ◌∙◌, arith}
use Rattle.std.specs.FinMap.{FinMap, get, insert, gets}
use Rattle.std.specs.Ordering.{nat_cmp}
use Rattle.std.proofs.lemmas.Bool.Decides.{nat_tests}
use Rattle.std.proofs.lemmas.Grind.{common_steps}
use Rattle.std.proofs.lemmas.List.Elements.{Contains-append_cases, Contains-append_right, filter-append}
use Rattle.std.proofs.lemmas.List.{map-append, length-append}
use Rattle.gc_roots.specs.Roots.{Root}
use Rattle.gc_view.specs.Heaps.{Counts}
use Rattle.gc_heap.specs.Barriers.{raise, lower, show}
use Rattle.gc_heap.specs.Collection.{occurrences, held_words}
use Rattle.gc_memory.proofs.ListLemmas.{only_item}

-- a root whose word stands among the words of the roots that pass a test
pub root_of_word : (p : Root → Bool) (roots : List Root) (w : ℕ) → Contains (map (λ (r : Root). r.word) (filter p roots)) w → (r : Root) × (Contains roots r × (r.word ≡ w))
root_of_word p [] w h = absurd (omega (arith, h.1))
root_of_word p (r ∷ roots) w h =
    let rest : Contains (map (λ (r : Root). r.word) (filter p roots)) w → (x : Root) × (Contains (r ∷ roots) x × (x.word ≡ w)) = λ t.
    let found = root_of_word p roots w t in (found.0, (Contains-append_right (r ∷ []) roots found.0 found.1.0, found.1.1)) in
    elim (p r) as (λ b. Contains (map (λ (r : Root). r.word) (cond b (r ∷ filter p roots) (filter p roots))) w → (x : Root) × (Contains (r ∷ roots) x × (x.word ≡ w))) [
      | true ↦ λ t. elim (Contains-append_cases (r.word ∷ []) (map (λ (r : Root). r.word) (filter p roots)) w t) [
        | inl first ↦ (r, ((0, omega arith, refl), only_item r.word w first))
        | inr later ↦ rest later
      ]
      | false ↦ rest
    ] h

-- how often a word stands in lists
pub no_occurrence : (w : ℕ) (words : List ℕ) → (Contains words w → ⊥) → occurrences w words ≡ 0
no_occurrence w [] h = refl
no_occurrence w (x ∷ words) h =
    elim (nat_eq w x) as (λ b. nat_eq w x ≡ b → length (cond b (x ∷ filter (nat_eq w) words) (filter (nat_eq w) words)) ≡ 0) [
      | true ↦ λ e. let same : x ≡ w = grind (arith, nat_tests, e) in absurd (h (0, omega arith, same))
      | false ↦ λ e. no_occurrence w words (λ t. h (Contains-append_right (x ∷ []) words w t))
    ] refl

pub occurrences-append : (w : ℕ) (xs ys : List ℕ) → occurrences w (xs ++ ys) ≡ occurrences w xs + occurrences w ys
occurrences-append w xs ys = ap length (filter-append (nat_eq w) xs ys) ∙ length-append (filter (nat_eq w) xs) (filter (nat_eq w) ys)

pub once : (w : ℕ) → occurrences w (w ∷ []) ≡ 1
once w = grind (arith, nat_tests)

pub never : (q w : ℕ) → q ≢ w → occurrences q (w ∷ []) ≡ 0
never q w ne = no_occurrence q (w ∷ []) (λ t. ne (sym (only_item w q t)))

pub words-append : (p : Root → Bool) (xs ys : List Root) → map (λ (r : Root). r.word) (filter p (xs ++ ys)) ≡ map (λ (r : Root). r.word) (filter p xs) ++ map (λ (r : Root). r.word) (filter p ys)
words-append p xs ys = ap (map (λ (r : Root). r.word)) (filter-append p xs ys) ∙ map-append (λ (r : Root). r.word) (filter p xs) (filter p ys)

pub held-append : (q : ℕ) (xs ys : List Root) → occurrences q (held_words (xs ++ ys)) ≡ occurrences q (held_words xs) + occurrences q (held_words ys)
held-append q xs ys = ap (occurrences q) (words-append (λ (r : Root). not r.on_stack) xs ys) ∙ occurrences-append q (held_words xs) (held_words ys)

-- a word that is given to the roots or taken from them, for a place
pub root_names : ℕ → Root → ℕ
root_names q r = occurrences q (held_words (r ∷ []))

-- so many more names of a root between two others
pub held-between : (q : ℕ) (before : List Root) (r : Root) (behind : List Root) → occurrences q (held_words (before ++ r ∷ behind)) ≡ occurrences q (held_words (before ++ behind)) + root_names q r
unfolding root_names
held-between q before r behind =
    let left = held-append q before (r ∷ behind) in
    let one = held-append q (r ∷ []) behind in
    let right = held-append q before behind in
    omega arith

-- the names that a root gives to a place
pub held_one : (q : ℕ) (r : Root) → r.on_stack ≡ false → root_names q r ≡ occurrences q (r.word ∷ [])
unfolding root_names
held_one q r is = ap (λ b. occurrences q (map (λ (r : Root). r.word) (cond (not b) (r ∷ []) []))) is

pub stack_one : (q : ℕ) (r : Root) → r.on_stack ≡ true → root_names q r ≡ 0
unfolding root_names
stack_one q r is = ap (λ b. occurrences q (map (λ (r : Root). r.word) (cond (not b) (r ∷ []) []))) is

-- Each counted place's count is that number.
abbrev pub CountsAre : Counts → (ℕ → ℕ) → Type 0
CountsAre c names = (place n : ℕ) → get c.counted place ≡ Some n → n ≡ names place

pub put_cases : (m : FinMap nat_cmp ℕ) (w k q n : ℕ) → get (insert m w k) q ≡ Some n → ((q ≡ w) × (n ≡ k)) ⊎ ((q ≢ w) × (get m q ≡ Some n))
put_cases m w k q n is = grind (arith, common_steps, gets)

-- one count that rises or falls with the names of its place
put_are : (c : Counts) (w was k : ℕ) (names names' : ℕ → ℕ) → CountsAre c names → get c.counted w ≡ Some was → (was ≡ names w → k ≡ names' w) → ((q : ℕ) → q ≢ w → names' q ≡ names q)
    → (q n : ℕ) → get (insert c.counted w k) q ≡ Some n → n ≡ names' q
put_are c w was k names names' are at changed others q n is = elim (put_cases c.counted w k q n is) [
  | inl here ↦ here.1 ∙ changed (are w was at) ∙ ap names' (sym here.0)
  | inr there ↦ are q n there.1 ∙ sym (others q there.0)
]

-- a place that isn't counted may be named otherwise
pub none_are : (c : Counts) (w : ℕ) (names names' : ℕ → ℕ) → CountsAre c names → get c.counted w ≡ None → ((q : ℕ) → q ≢ w → names' q ≡ names q) → CountsAre c names'
none_are c w names names' are none others q n is = are q n is ∙ sym (others q (λ e. let no_count : get c.counted q ≡ None = ap (get c.counted) e ∙ none in absurd (cc)))

-- one name more
pub raise_are : (c : Counts) (w : ℕ) (names names' : ℕ → ℕ) → CountsAre c names → ((q : ℕ) → names' q ≡ names q + occurrences q (w ∷ [])) → CountsAre (raise (get c.counted w) w c) names'
raise_are c w names names' are more =
    let others : (q : ℕ) → q ≢ w → names' q ≡ names q = λ q ne. more q ∙ ap (λ n. names q + n) (never q w ne) ∙ omega arith in
    elim (get c.counted w) as (λ at. get c.counted w ≡ at → CountsAre (raise at w c) names') [
      | None ↦ λ at. none_are c w names names' are at others
      | Some was ↦ λ at. put_are c w was (was + 1) names names' are at (λ e. ap (λ n. n + 1) e ∙ sym (more w ∙ ap (λ n. names w + n) (once w))) others
    ] refl

-- one name less
pub lower_are : (c : Counts) (w : ℕ) (names names' : ℕ → ℕ) → CountsAre c names → ((q : ℕ) → names q ≡ names' q + occurrences q (w ∷ [])) → CountsAre (lower (get c.counted w) w c) names'
lower_are c w names names' are less =
    let others : (q : ℕ) → q ≢ w → names' q ≡ names q = λ q ne. sym (less q ∙ ap (λ n. names' q + n) (never q w ne) ∙ omega arith) in
    elim (get c.counted w) as (λ at. get c.counted w ≡ at → CountsAre (lower at w c) names') [
      | None ↦ λ at. none_are c w names names' are at others
      | Some was ↦ λ at. put_are c w was (was - 1) names names' are at (λ e. ap (λ n. n - 1) (e ∙ less w ∙ ap (λ n. names' w + n) (once w)) ∙ omega arith) others
    ] refl

pub show_are : (c : Counts) (w : ℕ) (names names' : ℕ → ℕ) → CountsAre c names → ((q : ℕ) → names q ≡ names' q + occurrences q (w ∷ [])) → CountsAre (show (get c.counted w) w c) names'
show_are c w names names' are less =
    let others : (q : ℕ) → q ≢ w → names' q ≡ names q = λ q ne. sym (less q ∙ ap (λ n. names' q + n) (never q w ne) ∙ omega arith) in
    elim (get c.counted w) as (λ at. get c.counted w ≡ at → CountsAre (show at w c) names') [
      | None ↦ λ at. none_are c w names names' are at others
      | Some was ↦ λ at. put_are c w was (was - 1) names names' are at (λ e. ap (λ n. n - 1) (e ∙ less w ∙ ap (λ n. names' w + n) (once w)) ∙ omega arith) others
    ] refl

-- the shown places stay, and one that is shown is among them
pub raise_shown : (at : Option ℕ) (w : ℕ) (c : Counts) → (raise at w c).shown ≡ c.shown
raise_shown None w c = refl
raise_shown (Some n) w c = refl

pub lower_shown : (at : Option ℕ) (w : ℕ) (c : Counts) → (lower at w c).shown ≡ c.shown
lower_shown None w c = refl
lower_shown (Some n) w c = refl
