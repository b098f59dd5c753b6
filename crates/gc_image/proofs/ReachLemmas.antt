-- What a search finds: what is sought, and what was found before.
use Rattle.std.proofs.Common.{◌≡◌, ℕ, suc, zero, ◌+◌, ◌*◌, ◌<◌, ◌≤◌, Bool, true, false, cond, IsTrue, ◌↔◌, List, [], ◌∷◌, ◌++◌, length, length-append, get_or, replicate, Option, Some, refl, sym, ap, subst, ◌∙◌, ◌⊎◌, inl, inr, ⊎_elim, arith}
use Rattle.std.specs.List.{count_by, slice_get, slice_set}
use Rattle.std.proofs.lemmas.Bool.{cases_eq, cases_lt}
use Rattle.std.proofs.lemmas.List.{length-set}
use Rattle.std.proofs.lemmas.List.Sums.{count_by-le-length, sum_by-set}
use Rattle.std.proofs.lemmas.List.Folds.{sum_by-replicate}
use Rattle.std.proofs.lemmas.Option.{get_or_from_slice_get, none-some, slice_get-get_or, slice_get_within}
use Rattle.gc_view.specs.Reach.{Reachable, by_start, by_step}
use Rattle.gc_model.proofs.Changes.{slice_get-set_same, slice_get-set_other}
use Rattle.gc_model.proofs.Lists.{slice_get-push_cases, slice_get-push_new, slice_get-push_old}
use Rattle.gc_image.specs.declared.image.GlobalLine.{GlobalLine}
use Rattle.gc_image.specs.declared.image.ObjectLine.{ObjectLine}
use Rattle.gc_image.specs.Steps.{Finds, FoundParts, MarksFound, none_found}
use Rattle.gc_image.specs.Well.{GlobalsReachAll, GlobalHolds, NamesByNumber}

-- nothing is sought
pub finds_none : (Sought : ℕ → Type 0) (found : FoundParts) → ((p : ℕ) → Sought p → p < length found.marked → slice_get found.marked p ≡ Some true) → Finds Sought found found
finds_none Sought found there = record { long = refl; keeps = λ k p e. e; stays = λ p e. e; finds = there; only = λ k p e. inl e; found = λ is. is }

-- one search behind another
pub finds_both : (First Then Sought : ℕ → Type 0) (old mid new : FoundParts) → ((p : ℕ) → Sought p → First p ⊎ Then p) → ((p : ℕ) → First p → Sought p) → ((p : ℕ) → Then p → Sought p)
    → Finds First old mid → Finds Then mid new → Finds Sought old new
finds_both First Then Sought old mid new split first then a b = record {
  long = b.long ∙ a.long;
  keeps = λ k p e. b.keeps k p (a.keeps k p e);
  stays = λ p e. b.stays p (a.stays p e);
  finds = λ p sought below. ⊎_elim (λ s. b.stays p (a.finds p s below)) (λ s. b.finds p s (let long = a.long in omega arith)) (split p sought);
  only = λ k p e. ⊎_elim (λ was. ⊎_elim (λ old. inl old) (λ s. inr (first p s)) (a.only k p was)) (λ s. inr (then p s)) (b.only k p e);
  found = λ is. b.found (a.found is);
}

count_more : (marked : List Bool) (n : ℕ) → n < length marked → slice_get marked n ≡ Some false → count_by (λ b. b) (slice_set marked n true) ≡ count_by (λ b. b) marked + 1
count_more marked n below e =
    let moved : count_by (λ b. b) (slice_set marked n true) + cond {A = ℕ} (get_or marked n false) 1 0 ≡ count_by (λ b. b) marked + 1 = sum_by-set (λ (b : Bool). cond {A = ℕ} b 1 0) marked n true false below in
    let unmarked : get_or marked n false ≡ false = get_or_from_slice_get marked n false false e in
    let none : cond {A = ℕ} (get_or marked n false) 1 0 ≡ 0 = ap (λ (b : Bool). cond {A = ℕ} b 1 0) unmarked in
    omega arith

-- one more object
module _ (old : FoundParts) (n : ℕ) (below : n < length old.marked) (unmarked : slice_get old.marked n ≡ Some false) where
  abbrev new : FoundParts
  new = record { marked = slice_set old.marked n true; numbers = old.numbers ++ n ∷ [] }

  new_mark : (p : ℕ) → slice_get new.marked p ≡ Some true → (p ≡ n) ⊎ (slice_get old.marked p ≡ Some true)
  new_mark p e = ⊎_elim (λ same. inl same) (λ other. inr (sym (slice_get-set_other old.marked n p true other) ∙ e)) (cases_eq p n)

  stay : (p : ℕ) → slice_get old.marked p ≡ Some true → slice_get new.marked p ≡ Some true
  stay p e = ⊎_elim (λ same. subst (λ q. slice_get new.marked q ≡ Some true) (sym same) (slice_get-set_same old.marked n true below)) (λ other. slice_get-set_other old.marked n p true other ∙ e) (cases_eq p n)

  keep : (k p : ℕ) → slice_get old.numbers k ≡ Some p → slice_get new.numbers k ≡ Some p
  keep k p e = slice_get-push_old old.numbers n k p e

  new_number : (k p : ℕ) → slice_get new.numbers k ≡ Some p → (slice_get old.numbers k ≡ Some p) ⊎ (n ≡ p)
  new_number k p e = ⊎_elim (λ was. inl was) (λ at. inr at.1) (slice_get-push_cases old.numbers n k p e)

  pub finds_one : Finds (λ p. Some n ≡ Some p) old new
  finds_one = record {
    long = length-set old.marked n true;
    keeps = keep;
    stays = stay;
    finds = λ p is inside. let same : n ≡ p = cc in subst (λ q. slice_get new.marked q ≡ Some true) same (slice_get-set_same old.marked n true below);
    only = λ k p e. ⊎_elim (λ was. inl was) (λ same. inr (ap Some same)) (new_number k p e);
    found = λ is. record {
      listed = λ p e.
          ⊎_elim (λ same. (length old.numbers, slice_get-push_new old.numbers n ∙ ap Some (sym same))) (λ was. let at = is.listed p was in (at.0, keep at.0 p at.1)) (new_mark p e);
      marks = λ k p e.
          ⊎_elim (λ was. stay p (is.marks k p was)) (λ same. subst (λ q. slice_get new.marked q ≡ Some true) same (slice_get-set_same old.marked n true below)) (new_number k p e);
      counted = count_more old.marked n below unmarked ∙ ap (λ m. m + 1) is.counted ∙ sym (length-append old.numbers (n ∷ []));
    };
  }

no_mark : (n p : ℕ) → slice_get (replicate n false) p ≡ Some true → ⊥
no_mark zero p e = absurd (none-some true e)
no_mark (suc n) zero e = cc
no_mark (suc n) (suc p) e = no_mark n p e

no_count : (n : ℕ) → count_by (λ b. b) (replicate n false) ≡ 0
no_count n = let all : count_by (λ b. b) (replicate n false) ≡ n * 0 = sum_by-replicate (λ (b : Bool). cond {A = ℕ} b 1 0) n false in omega arith

pub found_at_first : (n : ℕ) → MarksFound (none_found n)
found_at_first n = record { listed = λ p e. absurd (no_mark n p e); marks = λ k p e. absurd (none-some p e); counted = no_count n }

-- a walk along the list of what was found
pub record Walks (objects : List ObjectLine) (globals : List GlobalLine) (found : FoundParts) (next : ℕ) : Type 0 where
  pub long : length found.marked ≡ length objects
  pub is : MarksFound found
  pub starts : (p : ℕ) → GlobalHolds globals p → p < length objects → slice_get found.marked p ≡ Some true
  pub sound : (k p : ℕ) → slice_get found.numbers k ≡ Some p → Reachable (GlobalHolds globals) (NamesByNumber objects) p
  pub closed : (k p q : ℕ) → k < next → slice_get found.numbers k ≡ Some p → NamesByNumber objects p q → q < length objects → slice_get found.marked q ≡ Some true

module _ (objects : List ObjectLine) (globals : List GlobalLine) where
  pub walk_start : (found : FoundParts) → Finds (GlobalHolds globals) (none_found (length objects)) found → length (none_found (length objects)).marked ≡ length objects → Walks objects globals found 0
  walk_start found finds long = record {
    long = finds.long ∙ long;
    is = finds.found (found_at_first (length objects));
    starts = λ p held below. finds.finds p held (omega arith);
    sound = λ k p e. ⊎_elim (λ none. absurd (none-some p none)) (λ held. by_start held) (finds.only k p e);
    closed = λ k p q below. absurd (omega arith);
  }

  pub walk_more : (old new : FoundParts) (next number : ℕ) → slice_get old.numbers next ≡ Some number → Finds (NamesByNumber objects number) old new → Walks objects globals old next
      → Walks objects globals new (next + 1)
  walk_more old new next number at finds walks = record {
    long = finds.long ∙ walks.long;
    is = finds.found walks.is;
    starts = λ p held below. finds.stays p (walks.starts p held below);
    sound = λ k p e. ⊎_elim (λ was. walks.sound k p was) (λ names. by_step (walks.sound next number at) names) (finds.only k p e);
    closed = λ k p q below e names inside.
        ⊎_elim
        (λ less.
        let within = slice_get_within old.numbers next number at in
        let before : slice_get old.numbers k ≡ Some p =
        let old_there = slice_get-get_or old.numbers k p (omega arith) in
        let new_there = finds.keeps k (get_or old.numbers k p) old_there in
        let both : Some (get_or old.numbers k p) ≡ Some p = sym new_there ∙ e in
        old_there ∙ both in
        finds.stays q (walks.closed k p q less before names inside))
        (λ over.
        let same : k ≡ next = omega arith in
        let kept = finds.keeps next number at in
        let both : Some number ≡ Some p = sym kept ∙ sym (ap (slice_get new.numbers) same) ∙ e in
        let one : number ≡ p = cc in
        finds.finds q (subst (λ r. NamesByNumber objects r q) (sym one) names) (let long = walks.long in omega arith))
        (cases_lt k next);
  }

  -- it comes to an end
  pub walk_within : (found : FoundParts) (next : ℕ) → Walks objects globals found next → next < length found.numbers → next < length objects
  walk_within found next walks more = let few = count_by-le-length (λ b. b) found.marked in let counted = walks.is.counted in let long = walks.long in omega arith

  marked_all : (found : FoundParts) (next : ℕ) → length found.numbers ≤ next → Walks objects globals found next → {p : ℕ} → Reachable (GlobalHolds globals) (NamesByNumber objects) p → p < length objects
      → slice_get found.marked p ≡ Some true
  marked_all found next over walks (by_start held) below = walks.starts _ held below
  marked_all found next over walks (by_step {x = x} {y = y} reached names) below =
      let from = marked_all found next over walks reached (slice_get_within objects y names.0 names.3.0) in
      let at = walks.is.listed y from in
      walks.closed at.0 y x (let within = slice_get_within found.numbers at.0 y at.1 in omega arith) at.1 names below

  pub walk_end : (found : FoundParts) (next : ℕ) (b : Bool) → length found.numbers ≤ next → Walks objects globals found next → (IsTrue b ↔ ((p : ℕ) → p < length found.marked → slice_get found.marked p ≡ Some true))
      → IsTrue b ↔ GlobalsReachAll objects globals
  walk_end found next b over walks told = (
    λ e p below. let at = walks.is.listed p (told.0 e p (let long = walks.long in omega arith)) in walks.sound at.0 p at.1,
    λ reached. told.1 (λ p below. let inside : p < length objects = let long = walks.long in omega arith in marked_all found next over walks (reached p inside) inside),
  )

-- one more object, in the code's words
pub finds_pushed : (old new : FoundParts) (n : ℕ) (sought : Option ℕ) (mark : Bool) → sought ≡ Some n → n < length old.marked → mark ≡ get_or old.marked n mark → mark ≡ false
    → new.marked ≡ slice_set old.marked n true → new.numbers ≡ old.numbers ++ n ∷ [] → Finds (λ p. sought ≡ Some p) old new
finds_pushed old new n sought mark names below is unmarked marked numbers =
    let at : slice_get old.marked n ≡ Some false = slice_get-get_or old.marked n mark below ∙ ap Some (sym is ∙ unmarked) in
    let one : FoundParts = record { marked = slice_set old.marked n true; numbers = old.numbers ++ n ∷ [] } in
    let same : one ≡ new = λ i. record { marked = sym marked i; numbers = sym numbers i } in
    subst (λ (o : Option ℕ). Finds (λ p. o ≡ Some p) old new) (sym names) (subst (Finds (λ p. Some n ≡ Some p) old) same (finds_one old n below at))
