-- Roots of one kind in the list of a collection.
use Rattle.std.proofs.Common.{◌≡◌, ℕ, ◌+◌, ◌<◌, ◌≤◌, ◌^◌, inl, inr, Bool, true, false, not, cond, nat_eq, List, [], ◌∷◌, ◌++◌, length, map, Option, Some, None, Contains, refl, sym, ap, ◌∙◌, subst, arith}
use Rattle.std.specs.Option.{SomeIff}
use Rattle.std.proofs.lemmas.Bool.{cases_eq, ne_eqb, eq-eqb}
use Rattle.std.proofs.lemmas.List.{map-append, length-append, length-map}
use Rattle.std.proofs.lemmas.List.Elements.{filter-append, Contains-append_right}
use Rattle.gc_roots.specs.Roots.{Root, root}
use Rattle.gc_heap.specs.Collection.{moved, moved_root, held_words}
use Rattle.gc_heap.proofs.CountLemmas.{words-append}
use Rattle.gc_owner.specs.declared.entry.RootEntry.{RootEntry}
use Rattle.gc_owner.specs.declared.entry.OwnedEntry.{OwnedEntry}
use Rattle.gc_owner.specs.declared.entry.SlotEntry.{SlotEntry}
use Rattle.gc_owner.specs.RootColumns.{RootsView, scoped_words, owned_words, frame_slot_words, global_words, non_null_words, listed_as, roots_of, AreFew}

-- a word in front is a root where it isn't null
pub listed_present : (place : ℕ) (b : Bool) (w : ℕ) (ws : List ℕ) → 0 < w → listed_as place b (w ∷ ws) ≡ root place b w ∷ listed_as place b ws
listed_present place b w ws above = ap (λ t. map (λ v. root place b v) (cond (not t) (w ∷ non_null_words ws) (non_null_words ws))) (ne_eqb w 0 (λ e. absurd (omega arith)))

pub listed_null : (place : ℕ) (b : Bool) (w : ℕ) (ws : List ℕ) → w ≡ 0 → listed_as place b (w ∷ ws) ≡ listed_as place b ws
listed_null place b w ws null = ap (λ t. map (λ v. root place b v) (cond (not t) (w ∷ non_null_words ws) (non_null_words ws))) (eq-eqb w 0 null)

pub listed-append : (place : ℕ) (b : Bool) (xs ys : List ℕ) → listed_as place b (xs ++ ys) ≡ listed_as place b xs ++ listed_as place b ys
listed-append place b xs ys = ap (map (λ w. root place b w)) (filter-append (λ w. not (nat_eq w 0)) xs ys) ∙ map-append (λ w. root place b w) (non_null_words xs) (non_null_words ys)

-- what a test that makes a reference of a word says of the list
pub listed_some : (place : ℕ) (b : Bool) (word held : ℕ) (made : Option ℕ) → SomeIff made (0 < word) word → made ≡ Some held → root place b held ∷ [] ≡ listed_as place b (word ∷ [])
listed_some place b word held made gives is =
    let at : SomeIff (Some held) (0 < word) word = subst (λ o. SomeIff o (0 < word) word) is gives in
    ap (λ w. root place b w ∷ []) at.1 ∙ sym (listed_present place b word [] at.0)

pub listed_none : (place : ℕ) (b : Bool) (word : ℕ) (made : Option ℕ) → SomeIff made (0 < word) word → made ≡ None → listed_as place b (word ∷ []) ≡ []
listed_none place b word made gives is =
    let at : (0 < word → ⊥) = subst (λ o. SomeIff o (0 < word) word) is gives in
    listed_null place b word [] (omega arith)

-- where a collection moved the words that are present to words that are, the list of them moved
pub listed_moved : (to : ℕ → ℕ) (place : ℕ) (b : Bool) (ws : List ℕ) → ((r : Root) → Contains (listed_as place b ws) r → 0 < r.word → 0 < moved to r.word)
    → listed_as place b (map (moved to) ws) ≡ map (moved_root to) (listed_as place b ws)
listed_moved to place b [] keeps = refl
listed_moved to place b (w ∷ ws) keeps = elim (cases_eq w 0) [
  | inl null ↦
      listed_null place b (moved to w) (map (moved to) ws) (ap (moved to) null)
      ∙ listed_moved to place b ws (λ r i above. keeps r (subst (λ rs. Contains rs r) (sym (listed_null place b w ws null)) i) above)
      ∙ ap (map (moved_root to)) (sym (listed_null place b w ws null))
  | inr other ↦
      let ne : (w ≡ 0 → ⊥) = other in
      let above : 0 < w = omega arith in
      let is : listed_as place b (w ∷ ws) ≡ root place b w ∷ listed_as place b ws = listed_present place b w ws above in
      let first : 0 < moved to w = keeps (root place b w) (subst (λ rs. Contains rs (root place b w)) (sym is) (0, omega arith, refl)) above in
      listed_present place b (moved to w) (map (moved to) ws) first
      ∙ ap (λ (rs : List Root). root place b (moved to w) ∷ rs) (listed_moved to place b ws (λ r i up. keeps r (subst (λ rs. Contains rs r) (sym is) (Contains-append_right (root place b w ∷ []) (listed_as place b ws) r i)) up))
      ∙ ap (map (moved_root to)) (sym is)
]

-- Roots that are no frame slots

held_listed : (place : ℕ) (ws : List ℕ) → length (held_words (listed_as place false ws)) ≤ length ws
held_listed place [] = omega arith
held_listed place (w ∷ ws) =
    let rest = held_listed place ws in
    elim (nat_eq w 0) as (λ t. length (held_words (map (λ v. root place false v) (cond (not t) (w ∷ non_null_words ws) (non_null_words ws)))) ≤ length (w ∷ ws)) [ true ↦ omega arith | false ↦ omega arith ]

held_stacked : (place : ℕ) (ws : List ℕ) → length (held_words (listed_as place true ws)) ≡ 0
held_stacked place [] = refl
held_stacked place (w ∷ ws) =
    elim (nat_eq w 0) as (λ t. length (held_words (map (λ v. root place true v) (cond (not t) (w ∷ non_null_words ws) (non_null_words ws)))) ≡ 0) [ true ↦ held_stacked place ws | false ↦ held_stacked place ws ]

held_both : (xs ys : List Root) → length (held_words (xs ++ ys)) ≡ length (held_words xs) + length (held_words ys)
held_both xs ys = ap (λ (ws : List ℕ). length ws) (words-append (λ (r : Root). not r.on_stack) xs ys) ∙ length-append (held_words xs) (held_words ys)

-- a heap that counts counts few of them
pub few_held : (r : RootsView) → AreFew r → length (held_words (roots_of r)) ≤ 2 ^ 34
few_held r few =
    let behind3 : List Root = listed_as 4 false (r.pending ∷ []) in
    let behind2 : List Root = listed_as 3 false (global_words r) ++ behind3 in
    let behind1 : List Root = listed_as 2 true (frame_slot_words r) ++ behind2 in
    let behind0 : List Root = listed_as 1 false (owned_words r) ++ behind1 in
    let e0 = held_both (listed_as 0 false (scoped_words r)) behind0 in
    let e1 = held_both (listed_as 1 false (owned_words r)) behind1 in
    let e2 = held_both (listed_as 2 true (frame_slot_words r)) behind2 in
    let e3 = held_both (listed_as 3 false (global_words r)) behind3 in
    let n0 = held_listed 0 (scoped_words r) in
    let n1 = held_listed 1 (owned_words r) in
    let n2 = held_stacked 2 (frame_slot_words r) in
    let n3 = held_listed 3 (global_words r) in
    let n4 = held_listed 4 (r.pending ∷ []) in
    let l0 = length-map r.scoped (λ (e : RootEntry). e.word) in
    let l1 = length-map r.owned (λ (e : OwnedEntry). e.word) in
    let l3 = length-map r.globals (λ (e : SlotEntry). e.word) in
    omega (arith, few.scoped, few.owned, few.globals)
