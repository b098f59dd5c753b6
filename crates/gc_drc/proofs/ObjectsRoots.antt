-- The words of roots, and lists that are counted in two ways.
use Rattle.std.proofs.Common.{◌≡◌, ℕ, ◌+◌, ◌%◌, cond, not, nat_eq, Bool, true, false, List, [], ◌∷◌, length, map, refl, sym, ap, ap₂, subst, ◌∙◌, inl, inr, arith, Contains}
use Rattle.std.proofs.Math.Logic.{◌⊎◌}
use Rattle.std.specs.Prelude.{filter, ◌&&◌}
use Rattle.std.proofs.lemmas.List.Elements.{Contains-append_cases, Contains-append_right}
use Rattle.gc_roots.specs.Roots.{Root}
use Rattle.gc_memory.specs.Lists.{In, here, there, occ}
use Rattle.gc_memory.proofs.ListLemmas.{only_item}
use Rattle.gc_heap.specs.Collection.{occurrences, held_words, stack_words, moved, moved_root}

-- the first of a list, or one of the others
pub in_first : (q h : ℕ) (ps : List ℕ) → In q (h ∷ ps) → (q ≡ h) ⊎ In q ps
in_first q _ ps here = inl refl
in_first q h ps (there i) = inr i

-- how often a number stands in a list, counted in two ways
pub occ_is : (x : ℕ) (xs : List ℕ) → occurrences x xs ≡ occ x xs
occ_is x [] = refl
occ_is x (y ∷ xs) = elim (nat_eq x y) as (λ b. length (cond b (y ∷ filter (nat_eq x) xs) (filter (nat_eq x) xs)) ≡ cond b 1 0 + occ x xs) [
  | true ↦ let rest = occ_is x xs in omega arith
  | false ↦ let rest = occ_is x xs in omega arith
]

-- THE WORDS OF SOME ROOTS

module _ (test : Root → Bool) where
  -- the words of the roots that pass a test
  abbrev words : List Root → List ℕ
  words rs = map (λ (r : Root). r.word) (filter test rs)

  first_word : (x : Root) (rs : List Root) (w : ℕ) → test x ≡ true → x.word ≡ w → In w (words (x ∷ rs))
  first_word x rs w is e = subst (λ b. In w (map (λ (r : Root). r.word) (cond b (x ∷ filter test rs) (filter test rs)))) (sym is)
      (subst (λ y. In y (x.word ∷ words rs)) e here)

  later_word : (x : Root) (rs : List Root) (w : ℕ) → In w (words rs) → In w (words (x ∷ rs))
  later_word x rs w i = elim (test x) as (λ b. In w (map (λ (r : Root). r.word) (cond b (x ∷ filter test rs) (filter test rs)))) [ true ↦ there i | false ↦ i ]

  -- the word of a root
  pub word_of_root : (rs : List Root) (r : Root) → Contains rs r → test r ≡ true → In r.word (words rs)
  word_of_root [] r c is = absurd (omega (arith, c.1))
  word_of_root (x ∷ rs) r c is = elim (Contains-append_cases (x ∷ []) rs r c) [
    | inl one ↦
        let e : x ≡ r = only_item x r one in
        first_word x rs r.word (ap test e ∙ is) (ap (λ (y : Root). y.word) e)
    | inr rest ↦ later_word x rs r.word (word_of_root rs r rest is)
  ]

  -- the root of a word
  pub root_of_word : (rs : List Root) (w : ℕ) → In w (words rs) → (r : Root) × (Contains rs r × (r.word ≡ w))
  root_of_word [] w i = elim i [ ]
  root_of_word (x ∷ rs) w i = elim (test x) as (λ b. In w (map (λ (r : Root). r.word) (cond b (x ∷ filter test rs) (filter test rs))) → (r : Root) × (Contains (x ∷ rs) r × (r.word ≡ w))) [
    | true ↦ λ j. elim (in_first w x.word (words rs) j) [
      | inl e ↦ (x, ((0, omega arith, refl), sym e))
      | inr k ↦ further (root_of_word rs w k)
    ]
    | false ↦ λ j. further (root_of_word rs w j)
  ] i
    where
      further : (r : Root) × (Contains rs r × (r.word ≡ w)) → (r : Root) × (Contains (x ∷ rs) r × (r.word ≡ w))
      further r = (r.0, (Contains-append_right (x ∷ []) rs r.0 r.1.0, r.1.1))

-- a root is a frame slot or not
pub root_word : (rs : List Root) (r : Root) → Contains rs r → In r.word (held_words rs) ⊎ In r.word (stack_words rs)
root_word rs r c = elim r.on_stack as (λ b. r.on_stack ≡ b → In r.word (held_words rs) ⊎ In r.word (stack_words rs)) [
  | true ↦ λ e. inr (word_of_root (λ (x : Root). x.on_stack) rs r c e)
  | false ↦ λ e. inl (word_of_root (λ (x : Root). not x.on_stack) rs r c (ap not e))
] refl

pub held_root : (rs : List Root) (w : ℕ) → In w (held_words rs) → (r : Root) × (Contains rs r × (r.word ≡ w))
held_root rs w i = root_of_word (λ (x : Root). not x.on_stack) rs w i

pub stack_root : (rs : List Root) (w : ℕ) → In w (stack_words rs) → (r : Root) × (Contains rs r × (r.word ≡ w))
stack_root rs w i = root_of_word (λ (x : Root). x.on_stack) rs w i

-- NOTHING MOVES

-- a word where no object moves
pub stays : (w : ℕ) → moved (λ (p : ℕ). p) w ≡ w
stays w = elim (nat_eq (w % 2) 0 && not (nat_eq w 0)) as (λ b. cond b w w ≡ w) [ true ↦ refl | false ↦ refl ]

root_stays : (r : Root) → moved_root (λ (p : ℕ). p) r ≡ r
root_stays r = ap (λ (w : ℕ). record r { word = w }) (stays r.word)

pub roots_stay : (rs : List Root) → map (moved_root (λ (p : ℕ). p)) rs ≡ rs
roots_stay [] = refl
roots_stay (r ∷ rs) = ap₂ (λ (x : Root) (xs : List Root). x ∷ xs) (root_stays r) (roots_stay rs)
