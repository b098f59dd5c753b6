-- 31-bit numbers that are loaded by their words.
use Rattle.std.proofs.Common.{inl, inr, ◌≡◌, ◌⊎◌, ℕ, zero, suc, ◌+◌, ◌*◌, ◌<◌, ◌%◌, Bool, Option, Some, None, IsSome, sym, ◌∙◌, refl, subst, arith}
use Rattle.std.specs.Prelude.{MatchOption}
use Rattle.gc_types.specs.declared.kind.Layouts.{Layouts}
use Rattle.gc_refs.specs.Words.{IsHeapWord, i31_word}
use Rattle.gc_model.specs.Holds.{Placing, IsWord}
use Rattle.gc_model.specs.Stores.{StoreView}
use Rattle.gc_model.specs.Table.{Table}
use Rattle.gc_model.specs.Values.{Reference, null, small}
use Rattle.gc_model.proofs.Words.{word_names}
use Rattle.gc_model.specs.Accounts.{Account}
use Rattle.gc_store.specs.OwnedWords.{HoldsThere}
use Rattle.gc_wasm_types.specs.Loads.{CanLoad, LoadsValue, ValueIsOf}
use Rattle.gc_wasm_types.specs.Values.{number, or_absent, numbers, by_number}

-- what is found in a word
abbrev pub IsIn : ℕ → Option ℕ → Type 0
IsIn word found = MatchOption found (IsHeapWord word) (λ n. word ≡ i31_word n)

positive_or_zero : (n : ℕ) → (0 < n) ⊎ (n ≡ 0)
positive_or_zero zero = inr refl
positive_or_zero (suc n) = inl (omega (arith))

-- a word that may be loaded as a number is odd
number_word : (D : Type 0) (layouts : Layouts) (s : StoreView D) (nullable : Bool) (word : ℕ) → CanLoad D layouts s numbers nullable word → 0 < word → (n : ℕ) × (word ≡ 2 * n + 1)
number_word D layouts s nullable word can positive =
    let is = can.word_of positive in
    (is.of_kind.0, subst (λ (r : Reference). IsWord is.place r word) is.of_kind.1 is.is_word)

none_even : (word : ℕ) (found : Option ℕ) → found ≡ None → IsIn word found → word % 2 ≡ 0
none_even word found is told = subst (IsIn word) is told

-- so a number is found in it
pub number_found : (D : Type 0) (layouts : Layouts) (s : StoreView D) (nullable : Bool) (word : ℕ) → CanLoad D layouts s numbers nullable word → 0 < word → (found : Option ℕ) → IsIn word found → IsSome found
number_found D layouts s nullable word can positive None told = let odd = number_word D layouts s nullable word can positive in absurd (omega (arith, odd.1, told))
number_found D layouts s nullable word can positive (Some n) told = refl

module _ {D : Type 0} (layouts : Layouts) (s : StoreView D) (nullable : Bool) (word given : ℕ) (same : given ≡ word) (can : CanLoad D layouts s numbers nullable word) where
  pub number_there : 0 < word → (found : Option ℕ) → IsIn given found → IsSome found
  number_there positive found told = number_found D layouts s nullable word can positive found (subst (λ n. IsIn n found) same told)

  module _ (t : Table D) (place : Placing) (a : Account) (r : Reference) (there : HoldsThere layouts s t place a) (is : IsWord place r word) where
    -- the number that is found is the reference
    pub number_loaded : (found : Option ℕ) (n : ℕ) → found ≡ Some n → IsIn given found → (r ≡ small n) × HoldsThere layouts s t place a
    number_loaded found n found_is told =
        let odd : given ≡ i31_word n = subst (IsIn given) found_is told in
        (word_names layouts t place s.heap there.0.objects r (small n) word is (sym same ∙ odd), there)

    -- or null, where none is
    pub numbers_loaded : (found : Option ℕ) → IsIn given found → LoadsValue by_number layouts t place a r (or_absent number found) s
    numbers_loaded (Some n) told = number_loaded (Some n) n refl told
    numbers_loaded None told =
        let none : word ≡ 0 = zero_of word told refl in
        (word_names layouts t place s.heap there.0.objects r null word is none, there)
      where
        zero_of : (w : ℕ) → IsIn given None → w ≡ word → w ≡ 0
        zero_of w even w_is = elim (positive_or_zero w) [
          | inl positive ↦ let odd = number_word D layouts s nullable word can (subst (λ n. 0 < n) w_is positive) in absurd (omega (arith, odd.1, even, same))
          | inr e ↦ e
        ]

pub numbers_kind : (D : Type 0) (layouts : Layouts) (s : StoreView D) (found : Option ℕ) → ValueIsOf D layouts s numbers (or_absent number found)
numbers_kind D layouts s None = tt
numbers_kind D layouts s (Some n) = tt
