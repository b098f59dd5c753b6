-- Whether the roots of a table reach a position can be decided, by paths over more and more positions.
use Rattle.std.proofs.Common.{◌≡◌, ℕ, zero, suc, ◌<◌, ◌⊎◌, inl, inr, Bool, true, false, ◌&&◌, ◌||◌, nat_eq, List, [], ◌∷◌, length, Option, Some, None, Contains, refl, sym, ap, ◌∙◌, subst, arith, eq-eqb, ne_eqb}
use Rattle.std.specs.List.{slice_get}
use Rattle.std.proofs.lemmas.Bool.{cases_eq}
use Rattle.std.proofs.lemmas.List.Elements.{Contains-append_cases, Contains-append_right}
use Rattle.std.proofs.lemmas.Option.{slice_get_within}
use Rattle.gc_memory.specs.Lists.{In, here, there}
use Rattle.gc_model.specs.Values.{Reference, null, small, at, Object}
use Rattle.gc_model.specs.Reach.{references_in, Reached, by_start, by_step}
use Rattle.gc_memory.proofs.ListLemmas.{only_item}

or_cases : (a b : Bool) → (a || b) ≡ true → (a ≡ true) ⊎ (b ≡ true)
or_cases true b e = inl refl
or_cases false b e = inr e

or_left : (a b : Bool) → a ≡ true → (a || b) ≡ true
or_left true b e = refl
or_left false b e = absurd (cc)

or_right : (a b : Bool) → b ≡ true → (a || b) ≡ true
or_right true b e = refl
or_right false b e = e

and_both : (a b : Bool) → a ≡ true → b ≡ true → (a && b) ≡ true
and_both true b e f = f
and_both false b e f = e

and_cases : (a b : Bool) → (a && b) ≡ true → (a ≡ true) × (b ≡ true)
and_cases true b e = (refl, e)
and_cases false b e = absurd (cc)

module _ (edge : ℕ → ℕ → Bool) where
  -- there is a path from a to b of which all that lies between is in the list
  abbrev pub has_path : List ℕ → ℕ → ℕ → Bool
  has_path [] a b = edge a b
  has_path (x ∷ xs) a b = has_path xs a b || (has_path xs a x && has_path xs x b)

  path_edge : (xs : List ℕ) (a b : ℕ) → edge a b ≡ true → has_path xs a b ≡ true
  path_edge [] a b e = e
  path_edge (x ∷ xs) a b e = or_left (has_path xs a b) (has_path xs a x && has_path xs x b) (path_edge xs a b e)

  -- what holds at the start and goes along edges holds at the end
  path_keeps : (P : ℕ → Type 0) → ((x y : ℕ) → P x → edge x y ≡ true → P y) → (xs : List ℕ) (a b : ℕ) → P a → has_path xs a b ≡ true → P b
  path_keeps P keeps [] a b p e = keeps a b p e
  path_keeps P keeps (x ∷ xs) a b p e = elim (or_cases (has_path xs a b) (has_path xs a x && has_path xs x b) e) [
    | inl direct ↦ path_keeps P keeps xs a b p direct
    | inr over ↦ let both = and_cases (has_path xs a x) (has_path xs x b) over in path_keeps P keeps xs x b (path_keeps P keeps xs a x p both.0) both.1
  ]

  over_first : (x : ℕ) (xs : List ℕ) (a b : ℕ) → has_path xs a x ≡ true → has_path xs x b ≡ true → has_path (x ∷ xs) a b ≡ true
  over_first x xs a b e f = or_right (has_path xs a b) (has_path xs a x && has_path xs x b) (and_both (has_path xs a x) (has_path xs x b) e f)

  -- a path to the first one, and one from it
  to_first : (x : ℕ) (xs : List ℕ) (a : ℕ) → has_path (x ∷ xs) a x ≡ true → has_path xs a x ≡ true
  to_first x xs a e = elim (or_cases (has_path xs a x) (has_path xs a x && has_path xs x x) e) [
    | inl direct ↦ direct
    | inr over ↦ (and_cases (has_path xs a x) (has_path xs x x) over).0
  ]

  from_first : (x : ℕ) (xs : List ℕ) (b : ℕ) → has_path (x ∷ xs) x b ≡ true → has_path xs x b ≡ true
  from_first x xs b e = elim (or_cases (has_path xs x b) (has_path xs x x && has_path xs x b) e) [
    | inl direct ↦ direct
    | inr over ↦ (and_cases (has_path xs x x) (has_path xs x b) over).1
  ]

  -- two paths that meet in the list are one
  path_joins : (xs : List ℕ) (b : ℕ) → In b xs → (a c : ℕ) → has_path xs a b ≡ true → has_path xs b c ≡ true → has_path xs a c ≡ true
  path_joins [] b i a c e f = elim i [ ]
  path_joins (b ∷ xs) _ here a c e f = over_first b xs a c (to_first b xs a e) (from_first b xs c f)
  path_joins (x ∷ xs) b (there i) a c e f =
      elim (or_cases (has_path xs a b) (has_path xs a x && has_path xs x b) e) [
        | inl one ↦ elim (or_cases (has_path xs b c) (has_path xs b x && has_path xs x c) f) [
          | inl other ↦ or_left (has_path xs a c) (has_path xs a x && has_path xs x c) (path_joins xs b i a c one other)
          | inr over ↦ let both = and_cases (has_path xs b x) (has_path xs x c) over in over_first x xs a c (path_joins xs b i a x one both.0) both.1
        ]
        | inr one ↦
            let first = and_cases (has_path xs a x) (has_path xs x b) one in
            elim (or_cases (has_path xs b c) (has_path xs b x && has_path xs x c) f) [
              | inl other ↦ over_first x xs a c first.0 (path_joins xs b i x c first.1 other)
              | inr over ↦ over_first x xs a c first.0 (and_cases (has_path xs b x) (has_path xs x c) over).1
            ]
      ]

-- whether a reference is to the object at a position
abbrev is_at : ℕ → Reference → Bool
is_at p null = false
is_at p (small n) = false
is_at p (at q) = nat_eq q p

-- whether one of these references is
abbrev names : ℕ → List Reference → Bool
names p [] = false
names p (r ∷ rs) = is_at p r || names p rs

is_at_only : (p : ℕ) (r : Reference) → is_at p r ≡ true → r ≡ at p
is_at_only p null e = absurd (cc)
is_at_only p (small n) e = absurd (cc)
is_at_only p (at q) e = elim (cases_eq q p) [
  | inl same ↦ ap at same
  | inr other ↦ absurd (differ (sym (ne_eqb q p other) ∙ e))
]
  where
    differ : false ≡ true → ⊥
    differ e = cc

names_one : (p : ℕ) (rs : List Reference) → names p rs ≡ true → Contains rs (at p)
names_one p [] e = absurd (cc)
names_one p (r ∷ rs) e = elim (or_cases (is_at p r) (names p rs) e) [
  | inl first ↦ subst (λ x. Contains (r ∷ rs) x) (is_at_only p r first) (0, omega arith, refl)
  | inr later ↦ Contains-append_right (r ∷ []) rs (at p) (names_one p rs later)
]

one_names : (p : ℕ) (rs : List Reference) → Contains rs (at p) → names p rs ≡ true
one_names p [] c = absurd (omega (arith, c.1))
one_names p (r ∷ rs) c = elim (Contains-append_cases (r ∷ []) rs (at p) c) [
  | inl first ↦ or_left (is_at p r) (names p rs) (ap (is_at p) (only_item r (at p) first) ∙ eq-eqb p p refl)
  | inr later ↦ or_right (is_at p r) (names p rs) (one_names p rs later)
]

abbrev references_of : {D : Type 0} → Option (Object D) → List Reference
references_of None = []
references_of (Some o) = references_in o

-- whether the roots (0) or the object at a position (its number plus 1) name the object at a position
abbrev names_next : {D : Type 0} → List (Object D) → List Reference → ℕ → ℕ → Bool
names_next objects roots a zero = false
names_next objects roots zero (suc p) = names p roots
names_next objects roots (suc q) (suc p) = names p (references_of (slice_get objects q))

-- so many positions, each as its number plus 1
abbrev first_positions : ℕ → List ℕ
first_positions zero = []
first_positions (suc n) = suc n ∷ first_positions n

in_first : (n q : ℕ) → q < n → In (suc q) (first_positions n)
in_first zero q below = absurd (omega arith)
in_first (suc n) q below = elim (cases_eq q n) [
  | inl same ↦ subst (λ k. In (suc k) (suc n ∷ first_positions n)) (sym same) here
  | inr other ↦ there (in_first n q (omega arith))
]

-- whether the roots reach the object at a position
unfoldable pub is_reached : {D : Type 0} → List (Object D) → List Reference → ℕ → Bool
is_reached objects roots p = has_path (names_next objects roots) (first_positions (length objects)) 0 (suc p)

module _ {D : Type 0} (objects : List (Object D)) (roots : List Reference) where
  abbrev ReachedFrom : ℕ → Type 0
  ReachedFrom zero = Unit {0}
  ReachedFrom (suc p) = Reached objects roots p

  reaches_next : (x y : ℕ) → ReachedFrom x → names_next objects roots x y ≡ true → ReachedFrom y
  reaches_next x zero r e = tt
  reaches_next zero (suc p) r e = by_start (names_one p roots e)
  reaches_next (suc q) (suc p) r e = by (slice_get objects q) refl e
    where
      by : (o : Option (Object D)) → slice_get objects q ≡ o → names p (references_of o) ≡ true → Reached objects roots p
      by None is e = absurd (cc)
      by (Some o) is e = by_step r (record { object = o; there = is; among = names_one p (references_in o) e })

  pub is_reached-true : (p : ℕ) → is_reached objects roots p ≡ true → Reached objects roots p
  unfolding is_reached
  is_reached-true p e = path_keeps (names_next objects roots) ReachedFrom reaches_next (first_positions (length objects)) 0 (suc p) tt e

  pub true-is_reached : (p : ℕ) → Reached objects roots p → is_reached objects roots p ≡ true
  unfolding is_reached
  true-is_reached p (by_start c) = path_edge (names_next objects roots) (first_positions (length objects)) 0 (suc p) (one_names p roots c)
  true-is_reached p (by_step {y = q} reached named) =
      path_joins (names_next objects roots) (first_positions (length objects)) (suc q) (in_first (length objects) q (slice_get_within objects q named.object named.there)) 0 (suc p) (true-is_reached q reached)
      (path_edge (names_next objects roots) (first_positions (length objects)) (suc q) (suc p) (ap (λ x. names p (references_of x)) named.there ∙ one_names p (references_in named.object) named.among))
