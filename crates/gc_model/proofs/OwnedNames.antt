-- The owned roots of a store that have handles are the table's one by one; those that were given up name places too.
use Rattle.std.proofs.Common.{◌≡◌, ℕ, suc, ◌+◌, ◌<◌, ◌≤◌, inl, inr, Bool, true, false, not, cond, nat_eq, List, [], ◌∷◌, map, filter, Contains, AllPairs, refl, sym, ap, subst, arith}
use Rattle.std.proofs.lemmas.List.Elements.{Contains-append_cases}
use Rattle.gc_heap.specs.Collection.{occurrences}
use Rattle.gc_heap.proofs.CountLemmas.{occurrences-append}
use Rattle.gc_memory.proofs.ListLemmas.{only_item}
use Rattle.gc_owner.specs.declared.entry.OwnedEntry.{OwnedEntry}
use Rattle.gc_owner.specs.RootColumns.{with_handles}
use Rattle.gc_model.specs.Counts.{given_up}
use Rattle.gc_model.specs.Table.{Owned}
use Rattle.gc_model.specs.Words.{Placing}
use Rattle.gc_model.specs.RootPoints.{OwnedRootBy, OwnedBy}
use Rattle.gc_model.proofs.Members.{item_at}
use Rattle.gc_model.proofs.OwnedRoots.{owned_trimmed, trimmed_held}
use Rattle.gc_model.proofs.SlotObjects.{AreWordsOf}
use Rattle.gc_model.proofs.Columns.{none_in, is_first, behind_first}

-- numbers rise along a list
abbrev Rise : {X : Type 0} → (X → ℕ) → List X → Type 0
Rise number_of xs = AllPairs (λ a b. number_of a < number_of b) xs

rest_rises : {X : Type 0} (number_of : X → ℕ) (x : X) (xs : List X) → Rise number_of (x ∷ xs) → Rise number_of xs
rest_rises number_of x xs rise = λ i j d below inside. rise (suc i) (suc j) d (omega (arith, below)) (omega (arith, inside))

later_above : {X : Type 0} (number_of : X → ℕ) (x y : X) (xs : List X) → Rise number_of (x ∷ xs) → Contains xs y → number_of x < number_of y
later_above number_of x y xs rise later =
    subst (λ z. number_of x < number_of z) (item_at xs y later x) (rise 0 (suc later.0) x (omega arith) (omega (arith, later.1)))

-- what stands in a list is the first, or stands behind it
first_least : {X : Type 0} (number_of : X → ℕ) (x y : X) (xs : List X) → Rise number_of (x ∷ xs) → Contains (x ∷ xs) y → number_of x ≤ number_of y
first_least number_of x y xs rise c = elim (Contains-append_cases (x ∷ []) xs y c) [
  | inl one ↦ let same = ap number_of (only_item x y one) in omega (arith, same)
  | inr later ↦ let above = later_above number_of x y xs rise later in omega (arith, above)
]

is_the_first : {X : Type 0} (number_of : X → ℕ) (x y : X) (xs : List X) → Rise number_of (x ∷ xs) → Contains (x ∷ xs) y → number_of y ≤ number_of x → x ≡ y
is_the_first number_of x y xs rise c no_more = elim (Contains-append_cases (x ∷ []) xs y c) [
  | inl one ↦ only_item x y one
  | inr later ↦ let above = later_above number_of x y xs rise later in absurd (omega (arith, above, no_more))
]

is_behind : {X : Type 0} (number_of : X → ℕ) (x y : X) (xs : List X) → Contains (x ∷ xs) y → number_of x < number_of y → Contains xs y
is_behind number_of x y xs c above = elim (Contains-append_cases (x ∷ []) xs y c) [
  | inl one ↦ let same = ap number_of (only_item x y one) in absurd (omega (arith, above, same))
  | inr later ↦ later
]

abbrev entry_number : OwnedEntry → ℕ
entry_number e = e.number

abbrev root_number : Owned → ℕ
root_number root = root.number

abbrev pub entry_word : OwnedEntry → ℕ
entry_word e = e.word

-- each of some owned roots of a store is one of the table, and the other way
record AreOwned (place : Placing) (owned : List Owned) (entries : List OwnedEntry) : Type 0 where
  rising : Rise entry_number entries
  in_order : Rise root_number owned
  in_table : (e : OwnedEntry) → Contains entries e → (root : Owned) × (Contains owned root × OwnedRootBy place e root)
  in_store : (root : Owned) → Contains owned root → (e : OwnedEntry) × (Contains entries e × OwnedRootBy place e root)

-- then the first ones of both are one, and so it goes on
first_stands : (place : Placing) (root : Owned) (owned : List Owned) (e : OwnedEntry) (entries : List OwnedEntry) → AreOwned place (root ∷ owned) (e ∷ entries) → OwnedRootBy place e root
first_stands place root owned e entries are =
    let of_entry = are.in_table e (is_first e entries) in
    let of_root = are.in_store root (is_first root owned) in
    let least = first_least entry_number e of_root.0 entries are.rising of_root.1.0 in
    let same = of_entry.1.1.number in
    let other = of_root.1.1.number in
    subst (OwnedRootBy place e) (sym (is_the_first root_number root of_entry.0 owned are.in_order of_entry.1.0 (omega (arith, least, same, other)))) of_entry.1.1

rest_stands : (place : Placing) (root : Owned) (owned : List Owned) (e : OwnedEntry) (entries : List OwnedEntry) → AreOwned place (root ∷ owned) (e ∷ entries) → AreOwned place owned entries
rest_stands place root owned e entries are = record {
  rising = rest_rises entry_number e entries are.rising;
  in_order = rest_rises root_number root owned are.in_order;
  in_table = λ x later.
      let found = are.in_table x (behind_first e x entries later) in
      let above = later_above entry_number e x entries are.rising later in
      let same = found.1.1.number in
      (found.0, (is_behind root_number root found.0 owned found.1.0 (omega (arith, above, same, firsts)), found.1.1));
  in_store = λ x later.
      let found = are.in_store x (behind_first root x owned later) in
      let above = later_above root_number root x owned are.in_order later in
      let same = found.1.1.number in
      (found.0, (is_behind entry_number e found.0 entries found.1.0 (omega (arith, above, same, firsts)), found.1.1));
}
  where
    firsts : e.number ≡ root.number
    firsts = (first_stands place root owned e entries are).number

stand_in_order : (place : Placing) (owned : List Owned) (entries : List OwnedEntry) → AreOwned place owned entries → AreWordsOf place (map (λ (x : Owned). x.reference) owned) (map entry_word entries)
stand_in_order place [] [] are = tt
stand_in_order place [] (e ∷ entries) are = let found = are.in_table e (is_first e entries) in absurd (none_in found.0 found.1.0)
stand_in_order place (root ∷ owned) [] are = let found = are.in_store root (is_first root owned) in absurd (none_in found.0 found.1.0)
stand_in_order place (root ∷ owned) (e ∷ entries) are =
    ((first_stands place root owned e entries are).word, stand_in_order place owned entries (rest_stands place root owned e entries are))

-- The words of those that have handles are those of the table's owned roots, in order.
pub held_owned : (place : Placing) (owns count : ℕ) (owned : List Owned) (entries : List OwnedEntry) → OwnedBy place owns count owned entries → AreWordsOf place (map (λ (x : Owned). x.reference) owned) (map entry_word (with_handles entries))
held_owned place owns count owned entries by =
    let trimmed = owned_trimmed place owns count owned entries by in
    stand_in_order place owned (with_handles entries) (record {
      rising = trimmed.rising;
      in_order = trimmed.in_order;
      in_table = λ e c. trimmed.in_table e c (trimmed_held entries e c);
      in_store = trimmed.in_store;
    })

abbrev without_handles : List OwnedEntry → List OwnedEntry
without_handles entries = filter (λ (x : OwnedEntry). nat_eq x.handles 0) entries

-- Each word is of one that has handles, or of one that was given up.
pub held_or_given_up : (word : ℕ) (entries : List OwnedEntry) → occurrences word (map entry_word entries) ≡ occurrences word (map entry_word (with_handles entries)) + occurrences word (given_up entries)
held_or_given_up word [] = refl
held_or_given_up word (e ∷ entries) = by (nat_eq e.handles 0) (held_or_given_up word entries)
  where
    all : occurrences word (map entry_word (e ∷ entries)) ≡ occurrences word (e.word ∷ []) + occurrences word (map entry_word entries)
    all = occurrences-append word (e.word ∷ []) (map entry_word entries)

    by : (b : Bool) → occurrences word (map entry_word entries) ≡ occurrences word (map entry_word (with_handles entries)) + occurrences word (given_up entries)
        → occurrences word (map entry_word (e ∷ entries))
        ≡ occurrences word (map entry_word (cond (not b) (e ∷ with_handles entries) (with_handles entries))) + occurrences word (map entry_word (cond b (e ∷ without_handles entries) (without_handles entries)))
    by true rest =
        let gone : occurrences word (e.word ∷ given_up entries) ≡ occurrences word (e.word ∷ []) + occurrences word (given_up entries) = occurrences-append word (e.word ∷ []) (given_up entries) in
        omega (arith, rest, all, gone)
    by false rest =
        let held : occurrences word (e.word ∷ map entry_word (with_handles entries)) ≡ occurrences word (e.word ∷ []) + occurrences word (map entry_word (with_handles entries)) =
        occurrences-append word (e.word ∷ []) (map entry_word (with_handles entries)) in
        omega (arith, rest, all, held)
