-- Which owned root a number names, among those that stand by rising number.
use Rattle.std.proofs.Common.{◌≡◌, ◌≢◌, ℕ, zero, suc, ◌+◌, ◌<◌, ◌≤◌, inl, inr, Bool, true, false, cond, List, [], ◌∷◌, length, get_or, Option, Some, None, Result, Ok, Err, Contains, refl, sym, ap, ◌∙◌, subst, arith}
use Rattle.std.proofs.lemmas.Bool.{cases_eq, cases_lt, eq-eqb, ne_eqb}
use Rattle.std.proofs.lemmas.List.Elements.{Contains-append_cases, Contains-append_left, Contains-append_right, Contains-get_or}
use Rattle.std.proofs.lemmas.Option.{slice_get-get_or, get_or_from_slice_get}
use Rattle.gc_memory.proofs.ListLemmas.{only_item}
use Rattle.gc_owner.specs.declared.entry.OwnedEntry.{OwnedEntry}
use Rattle.gc_owner.specs.RootColumns.{empty_entry}
use Rattle.gc_model.proofs.Members.{item_at}
use Rattle.gc_values.specs.declared.root.RootFault.{RootFault}
use Rattle.gc_values.specs.declared.root.RootFault.TheVariants as fault
use Rattle.gc_values.specs.Words.{owned_at, owned_word, FindsOwned, AreOwnedRising}

-- it is found, since no two have the same number
pub owned_here : (entries : List OwnedEntry) (entry : OwnedEntry) → AreOwnedRising entries → Contains entries entry → owned_at entry.number entries ≡ Some entry
owned_here [] entry rising c = absurd (omega (arith, c.1))
owned_here (x ∷ xs) entry rising c = elim (Contains-append_cases (x ∷ []) xs entry c) [
  | inl one ↦
      let is : x ≡ entry = only_item x entry one in
      ap (λ b. cond b (Some x) (owned_at entry.number xs)) (eq-eqb x.number entry.number (ap (λ (e : OwnedEntry). e.number) is)) ∙ ap (λ (e : OwnedEntry). Some e) is
  | inr later ↦
      let less : x.number < entry.number = subst (λ (e : OwnedEntry). x.number < e.number) (item_at xs entry later x) (rising zero (suc later.0) x (omega arith) (omega (arith, later.1))) in
      ap (λ b. cond b (Some x) (owned_at entry.number xs)) (ne_eqb x.number entry.number (λ same. absurd (omega (arith, same, less))))
      ∙ owned_here xs entry (λ i j d below inside. rising (suc i) (suc j) d (omega (arith, below)) (omega (arith, inside))) later
]

pub owned_absent : (number : ℕ) (entries : List OwnedEntry) → ((entry : OwnedEntry) → Contains entries entry → entry.number ≢ number) → owned_at number entries ≡ None
owned_absent number [] none = refl
owned_absent number (x ∷ xs) none =
    ap (λ b. cond b (Some x) (owned_at number xs)) (ne_eqb x.number number (none x (Contains-append_left (x ∷ []) xs x (0, omega arith, refl))))
    ∙ owned_absent number xs (λ entry c. none entry (Contains-append_right (x ∷ []) xs entry c))

-- what is found is one of them
pub owned_there : (number : ℕ) (entries : List OwnedEntry) (entry : OwnedEntry) → owned_at number entries ≡ Some entry → Contains entries entry × (entry.number ≡ number)
owned_there number [] entry e = absurd (cc)
owned_there number (x ∷ xs) entry e = elim (cases_eq x.number number) [
  | inl same ↦
      let both : Some x ≡ Some entry = sym (ap (λ b. cond b (Some x) (owned_at number xs)) (eq-eqb x.number number same)) ∙ e in
      let is : x ≡ entry = grind (arith, both) in
      (subst (Contains (x ∷ xs)) is (Contains-append_left (x ∷ []) xs x (0, omega arith, refl)), ap (λ (o : OwnedEntry). o.number) (sym is) ∙ same)
  | inr differ ↦
      let found = owned_there number xs entry (sym (ap (λ b. cond b (Some x) (owned_at number xs)) (ne_eqb x.number number differ)) ∙ e) in
      (Contains-append_right (x ∷ []) xs entry found.0, found.1)
]

-- by the place where it stands
pub owned_place : (entries : List OwnedEntry) (number i : ℕ) → AreOwnedRising entries → FindsOwned entries number (Some i) → owned_at number entries ≡ Some (get_or entries i empty_entry)
owned_place entries number i rising found =
    ap (λ n. owned_at n entries) (sym found.1) ∙ owned_here entries (get_or entries i empty_entry) rising (Contains-get_or entries i empty_entry found.0)

-- Halving

-- no entry is left where there is nothing between
pub none_between : (entries : List OwnedEntry) (number low high : ℕ) → high ≤ low → ((k : ℕ) (d : OwnedEntry) → k < low → (get_or entries k d).number < number)
    → ((k : ℕ) (d : OwnedEntry) → high ≤ k → k < length entries → number < (get_or entries k d).number) → FindsOwned entries number None
none_between entries number low high met below above = λ entry c same. elim (cases_lt c.0 low) [
  | inl front ↦ let less = below c.0 entry front in let is = ap (λ (e : OwnedEntry). e.number) (item_at entries entry c entry) in absurd (omega (arith, less, is, same))
  | inr later ↦ let more = above c.0 entry (omega (arith, met, later)) c.1 in let is = ap (λ (e : OwnedEntry). e.number) (item_at entries entry c entry) in absurd (omega (arith, more, is, same))
]

-- what stands at a place, whatever stands for nothing
pub same_item : (entries : List OwnedEntry) (i : ℕ) (d e : OwnedEntry) → i < length entries → get_or entries i d ≡ get_or entries i e
same_item entries i d e inside = get_or_from_slice_get entries i (get_or entries i e) d (slice_get-get_or entries i e inside)

module _ (entries : List OwnedEntry) (number middle : ℕ) (rising : AreOwnedRising entries) (inside : middle < length entries) where
  pub front_below : (get_or entries middle empty_entry).number < number → (k : ℕ) (d : OwnedEntry) → k < middle + 1 → (get_or entries k d).number < number
  front_below less k d before =
      let at : (get_or entries middle d).number ≡ (get_or entries middle empty_entry).number = ap (λ (x : OwnedEntry). x.number) (same_item entries middle d empty_entry inside) in
      elim (cases_eq k middle) [
        | inl same ↦ subst (λ n. (get_or entries n d).number < number) (sym same) (omega (arith, at, less))
        | inr differ ↦ let up = rising k middle d (omega (arith, before, differ)) inside in omega (arith, up, at, less)
      ]

  pub behind_above : number < (get_or entries middle empty_entry).number → (k : ℕ) (d : OwnedEntry) → middle ≤ k → k < length entries → number < (get_or entries k d).number
  behind_above more k d later within =
      let at : (get_or entries middle d).number ≡ (get_or entries middle empty_entry).number = ap (λ (x : OwnedEntry). x.number) (same_item entries middle d empty_entry inside) in
      elim (cases_eq k middle) [
        | inl same ↦ subst (λ n. number < (get_or entries n d).number) (sym same) (omega (arith, at, more))
        | inr differ ↦ let up = rising middle k d (omega (arith, later, differ)) within in omega (arith, up, at, more)
      ]

-- The word of the one that was found

module _ (entries : List OwnedEntry) (number : ℕ) (rising : AreOwnedRising entries) (found : Option ℕ) (finds : FindsOwned entries number found) where
  at_place : (i : ℕ) → found ≡ Some i → owned_at number entries ≡ Some (get_or entries i empty_entry)
  at_place i is = owned_place entries number i rising (subst (FindsOwned entries number) is finds)

  pub found_word : (i : ℕ) → found ≡ Some i → ((get_or entries i empty_entry).handles ≡ 0 → ⊥) → owned_word (owned_at number entries) ≡ Ok (get_or entries i empty_entry).word
  found_word i is some =
      ap owned_word (at_place i is) ∙ ap (λ b. cond b (Err fault.Unrooted) (Ok (get_or entries i empty_entry).word)) (ne_eqb (get_or entries i empty_entry).handles 0 some)

  pub found_unheld : (i : ℕ) → found ≡ Some i → (get_or entries i empty_entry).handles ≡ 0 → owned_word (owned_at number entries) ≡ Err fault.Unrooted
  found_unheld i is none =
      ap owned_word (at_place i is) ∙ ap (λ b. cond b (Err fault.Unrooted) (Ok (get_or entries i empty_entry).word)) (eq-eqb (get_or entries i empty_entry).handles 0 none)

  pub found_none : found ≡ None → owned_word (owned_at number entries) ≡ Err fault.Unrooted
  found_none is = ap owned_word (owned_absent number entries (subst (FindsOwned entries number) is finds))

-- the word of an owned root that has handles
pub owned_word-ok : (o : Option OwnedEntry) (word : ℕ) → owned_word o ≡ Ok word → (entry : OwnedEntry) × ((o ≡ Some entry) × ((0 < entry.handles) × (entry.word ≡ word)))
owned_word-ok None word e = absurd (cc)
owned_word-ok (Some entry) word e = elim (cases_eq entry.handles 0) [
  | inl none ↦ absurd (let both : Err fault.Unrooted ≡ Ok word = sym (ap (λ b. cond b (Err fault.Unrooted) (Ok entry.word)) (eq-eqb entry.handles 0 none)) ∙ e in cc)
  | inr some ↦
      let both : Ok entry.word ≡ Ok word = sym (ap (λ b. cond b (Err fault.Unrooted) (Ok entry.word)) (ne_eqb entry.handles 0 some)) ∙ e in
      (entry, (refl, (omega (arith, some), grind (arith, both))))
]

pub owned_word-err : (o : Option OwnedEntry) (f : RootFault) → owned_word o ≡ Err f → (f ≡ fault.Unrooted) × ((entry : OwnedEntry) → o ≡ Some entry → entry.handles ≡ 0)
owned_word-err None f e = (grind (arith, e), λ entry h. absurd (cc))
owned_word-err (Some entry) f e = elim (cases_eq entry.handles 0) [
  | inl none ↦
      let both : Err fault.Unrooted ≡ Err f = sym (ap (λ b. cond b (Err fault.Unrooted) (Ok entry.word)) (eq-eqb entry.handles 0 none)) ∙ e in
      (grind (arith, both), λ other h. let is : entry ≡ other = grind (arith, h) in ap (λ (x : OwnedEntry). x.handles) (sym is) ∙ none)
  | inr some ↦ absurd (let both : Ok entry.word ≡ Err f = sym (ap (λ b. cond b (Err fault.Unrooted) (Ok entry.word)) (ne_eqb entry.handles 0 some)) ∙ e in cc)
]

-- a test that has to be true for a word
pub tested-ok : (b : Bool) (x : Result ℕ RootFault) (f : RootFault) (word : ℕ) → cond b x (Err f) ≡ Ok word → (b ≡ true) × (x ≡ Ok word)
tested-ok true x f word e = (refl, e)
tested-ok false x f word e = absurd (cc)
