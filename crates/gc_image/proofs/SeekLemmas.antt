-- A search for all that the elements of a list name, one element after the other.
use Rattle.std.proofs.Common.{◌≡◌, ℕ, ◌+◌, ◌<◌, ◌≤◌, List, length, get_or, Option, None, Some, sym, ap, subst, ◌∙◌, ◌⊎◌, inl, inr, ⊎_elim, arith}
use Rattle.std.specs.List.{slice_get}
use Rattle.std.proofs.lemmas.Bool.{cases_lt}
use Rattle.std.proofs.lemmas.Option.{none-some, slice_get-get_or, slice_get_within}
use Rattle.gc_image.specs.declared.image.GlobalLine.{GlobalLine}
use Rattle.gc_image.specs.declared.image.ImageValue.{ImageValue}
use Rattle.gc_image.specs.declared.image.ObjectLine.{ObjectLine}
use Rattle.gc_image.specs.Steps.{Finds, FoundParts}
use Rattle.gc_image.specs.Well.{GlobalHolds, NamesByNumber, line_values, number_named}
use Rattle.gc_image.proofs.ElementLemmas.{at_here}
use Rattle.gc_image.proofs.ReachLemmas.{finds_both, finds_none}

finds_as : (Found Sought : ℕ → Type 0) (old new : FoundParts) → ((p : ℕ) → Sought p → Found p) → ((p : ℕ) → Found p → Sought p) → Finds Found old new → Finds Sought old new
finds_as Found Sought old new from to finds = record {
  long = finds.long;
  keeps = finds.keeps;
  stays = finds.stays;
  finds = λ p sought below. finds.finds p (from p sought) below;
  only = λ k p e. ⊎_elim (λ was. inl was) (λ found. inr (to p found)) (finds.only k p e);
  found = finds.found;
}

module _ {A : Type 0} (named : A → Option ℕ) (xs : List A) where
  -- one of the first elements names the object
  pub record NamedBelow (n p : ℕ) : Type 0 where
    pub i : ℕ
    pub x : A
    pub below : i < n
    pub at : slice_get xs i ≡ Some x
    pub names : named x ≡ Some p

  pub named_start : (found : FoundParts) → Finds (NamedBelow 0) found found
  named_start found = finds_none (NamedBelow 0) found (λ p sought. absurd (let below = sought.below in omega arith))

  split : (n : ℕ) (x : A) → n < length xs → x ≡ get_or xs n x → (p : ℕ) → NamedBelow (n + 1) p → NamedBelow n p ⊎ (named x ≡ Some p)
  split n x within is p sought =
      ⊎_elim (λ less. inl (record { i = sought.i; x = sought.x; below = less; at = sought.at; names = sought.names }))
      (λ over.
      let last : sought.i ≡ n = (let below = sought.below in omega arith) in
      let found : slice_get xs n ≡ Some sought.x = subst (λ j. slice_get xs j ≡ Some sought.x) last sought.at in
      let same = at_here (λ i y. named y ≡ Some p) xs n x sought.x within is found in
      inr (ap named same ∙ sought.names))
      (cases_lt sought.i n)

  pub named_more : (n : ℕ) (x : A) (old mid new : FoundParts) → n < length xs → x ≡ get_or xs n x → Finds (NamedBelow n) old mid → Finds (λ p. named x ≡ Some p) mid new → Finds (NamedBelow (n + 1)) old new
  named_more n x old mid new within is a b =
      finds_both (NamedBelow n) (λ p. named x ≡ Some p) (NamedBelow (n + 1)) old mid new (split n x within is)
      (λ p first. record { i = first.i; x = first.x; below = (let below = first.below in omega arith); at = first.at; names = first.names })
      (λ p then. record { i = n; x = x; below = omega arith; at = slice_get-get_or xs n x within ∙ ap Some (sym is); names = then }) a b

  pub named_all : (n : ℕ) (Sought : ℕ → Type 0) (old new : FoundParts) → length xs ≤ n → ((p : ℕ) → Sought p → (i : ℕ) × (x : A) × ((slice_get xs i ≡ Some x) × (named x ≡ Some p)))
      → ((p i : ℕ) (x : A) → slice_get xs i ≡ Some x → named x ≡ Some p → Sought p) → Finds (NamedBelow n) old new → Finds Sought old new
  named_all n Sought old new over from to finds =
      finds_as (NamedBelow n) Sought old new
      (λ p sought.
      let at = from p sought in
      record { i = at.0; x = at.1; below = (let within = slice_get_within xs at.0 at.1 at.2.0 in omega arith); at = at.2.0; names = at.2.1 })
      (λ p found. to p found.i found.x found.at found.names) finds

-- what the globals hold
abbrev pub global_named : GlobalLine → Option ℕ
global_named global = number_named global.value

pub held_all : (globals : List GlobalLine) (n : ℕ) (old new : FoundParts) → length globals ≤ n → Finds (NamedBelow global_named globals n) old new → Finds (GlobalHolds globals) old new
held_all globals n old new over finds = named_all global_named globals n (GlobalHolds globals) old new over (λ p held. held) (λ p i x at names. (i, x, (at, names))) finds

-- what an object names
one_line : (objects : List ObjectLine) (number : ℕ) (line other : ObjectLine) → slice_get objects number ≡ Some line → slice_get objects number ≡ Some other → line ≡ other
one_line objects number line other this that = let both : Some line ≡ Some other = sym this ∙ that in cc

pub names_all : (objects : List ObjectLine) (number : ℕ) (line : ObjectLine) (values : List ImageValue) (n : ℕ) (old new : FoundParts) → slice_get objects number ≡ Some line → values ≡ line_values line → length values ≤ n
    → Finds (NamedBelow number_named values n) old new → Finds (NamesByNumber objects number) old new
names_all objects number line values n old new at are over finds =
    named_all number_named values n (NamesByNumber objects number) old new over
    (λ p names.
    let same = one_line objects number names.0 line names.3.0 at in
    let listed : line_values names.0 ≡ values = ap line_values same ∙ sym are in
    (names.1, names.2, (subst (λ vs. slice_get vs names.1 ≡ Some names.2) listed names.3.1.0, names.3.1.1)))
    (λ p i v found names. (line, i, v, (at, (subst (λ vs. slice_get vs i ≡ Some v) are found, names))))
    finds

-- no object, no names
pub names_none : (objects : List ObjectLine) (number : ℕ) (found : FoundParts) → slice_get objects number ≡ None → Finds (NamesByNumber objects number) found found
names_none objects number found none = finds_none (NamesByNumber objects number) found (λ p names. absurd (none-some names.0 (sym none ∙ names.3.0)))
