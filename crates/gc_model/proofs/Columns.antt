-- The words of roots of one kind, and the references of the table that they stand for.
use Rattle.std.proofs.Common.{◌≡◌, ℕ, ◌<◌, inl, inr, Bool, not, cond, List, [], ◌∷◌, ◌++◌, map, Contains, refl, sym, ap, subst, arith}
use Rattle.std.proofs.lemmas.Bool.{cases_eq, eq-eqb, ne_eqb}
use Rattle.std.proofs.lemmas.List.Elements.{Contains-append_cases, Contains-append_left, Contains-append_right}
use Rattle.gc_roots.specs.Roots.{Root, root}
use Rattle.gc_owner.specs.RootColumns.{non_null_words, listed_as}
use Rattle.gc_model.specs.Values.{Reference}
use Rattle.gc_model.specs.Words.{Placing, IsWord}
use Rattle.gc_memory.proofs.ListLemmas.{only_item}

-- A list of references names what a list of words does: each word that isn't null is that of some reference, and
-- each reference has a word.
pub record Names (place : Placing) (references : List Reference) (words : List ℕ) : Type 0 where
  pub back : (w : ℕ) → Contains words w → 0 < w → (r : Reference) × (Contains references r × IsWord place r w)
  pub forth : (r : Reference) → Contains references r → (w : ℕ) × (Contains words w × IsWord place r w)

pub none_in : {X : Type 0} (x : X) → Contains [] x → ⊥
none_in x c = omega (arith, c.1)

-- where there are neither
pub names-none : (place : Placing) → Names place [] []
names-none place = record { back = λ w c. absurd (none_in w c); forth = λ r c. absurd (none_in r c) }

pub names-append : (place : Placing) (rs qs : List Reference) (ws vs : List ℕ) → Names place rs ws → Names place qs vs → Names place (rs ++ qs) (ws ++ vs)
names-append place rs qs ws vs one other = record {
  back = λ w c above. elim (Contains-append_cases ws vs w c) [
    | inl first ↦ let found = one.back w first above in (found.0, (Contains-append_left rs qs found.0 found.1.0, found.1.1))
    | inr later ↦ let found = other.back w later above in (found.0, (Contains-append_right rs qs found.0 found.1.0, found.1.1))
  ];
  forth = λ r c. elim (Contains-append_cases rs qs r c) [
    | inl first ↦ let found = one.forth r first in (found.0, (Contains-append_left ws vs found.0 found.1.0, found.1.1))
    | inr later ↦ let found = other.forth r later in (found.0, (Contains-append_right ws vs found.0 found.1.0, found.1.1))
  ];
}

pub behind_first : {X : Type 0} (y x : X) (xs : List X) → Contains xs x → Contains (y ∷ xs) x
behind_first y x xs c = Contains-append_right (y ∷ []) xs x c

pub is_first : {X : Type 0} (x : X) (xs : List X) → Contains (x ∷ xs) x
is_first x xs = (0, omega arith, refl)

module _ (kind : ℕ) (on_stack : Bool) where
  abbrev listed : List ℕ → List Root
  listed words = listed_as kind on_stack words

  listed-null : (w : ℕ) (ws : List ℕ) → w ≡ 0 → listed (w ∷ ws) ≡ listed ws
  listed-null w ws null = ap (λ t. map (λ v. root kind on_stack v) (cond (not t) (w ∷ non_null_words ws) (non_null_words ws))) (eq-eqb w 0 null)

  listed-present : (w : ℕ) (ws : List ℕ) → ((w ≡ 0) → ⊥) → listed (w ∷ ws) ≡ root kind on_stack w ∷ listed ws
  listed-present w ws present_is = ap (λ t. map (λ v. root kind on_stack v) (cond (not t) (w ∷ non_null_words ws) (non_null_words ws))) (ne_eqb w 0 present_is)

  -- what is listed is a word that isn't null
  pub listed_word : (ws : List ℕ) (x : Root) → Contains (listed ws) x → Contains ws x.word × (0 < x.word)
  listed_word [] x c = absurd (none_in x c)
  listed_word (w ∷ ws) x c = elim (cases_eq w 0) [
    | inl null ↦ let later = listed_word ws x (subst (λ rs. Contains rs x) (listed-null w ws null) c) in (behind_first w x.word ws later.0, later.1)
    | inr above ↦ elim (Contains-append_cases (root kind on_stack w ∷ []) (listed ws) x (subst (λ rs. Contains rs x) (listed-present w ws above) c)) [
      | inl first ↦
          let is : root kind on_stack w ≡ x = only_item (root kind on_stack w) x first in
          let word_is : w ≡ x.word = ap (λ (r : Root). r.word) is in
          (subst (λ n. Contains (w ∷ ws) n) word_is (is_first w ws), omega arith)
      | inr later ↦ let there = listed_word ws x later in (behind_first w x.word ws there.0, there.1)
    ]
  ]

  -- and each of these is listed
  pub word_listed : (ws : List ℕ) (w : ℕ) → Contains ws w → 0 < w → (x : Root) × (Contains (listed ws) x × (x.word ≡ w))
  word_listed [] w c above = absurd (none_in w c)
  word_listed (v ∷ ws) w c above = elim (Contains-append_cases (v ∷ []) ws w c) [
    | inl first ↦
        let is : v ≡ w = only_item v w first in
        let there = listed-present v ws (λ null. absurd (omega arith)) in
        (root kind on_stack v, (subst (λ rs. Contains rs (root kind on_stack v)) (sym there) (is_first (root kind on_stack v) (listed ws)), is))
    | inr later ↦ let found = word_listed ws w later above in (found.0, (still found.0 found.1.0, found.1.1))
  ]
    where
      still : (x : Root) → Contains (listed ws) x → Contains (listed (v ∷ ws)) x
      still x c = elim (cases_eq v 0) [
        | inl null ↦ subst (λ rs. Contains rs x) (sym (listed-null v ws null)) c
        | inr present_is ↦ subst (λ rs. Contains rs x) (sym (listed-present v ws present_is)) (behind_first (root kind on_stack v) x (listed ws) c)
      ]
