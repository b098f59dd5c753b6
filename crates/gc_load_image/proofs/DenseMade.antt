-- One more object lies behind the others in a counting heap.
use Rattle.std.proofs.Common.{inl, inr, ◌≡◌, ℕ, ◌+◌, ◌<◌, ◌≤◌, Bool, true, false, cond, nat_eq, List, [], ◌∷◌, ◌++◌, length, Some, sym, ap, ◌∙◌, subst, arith}
use Rattle.std.specs.Prelude.{sum_by}
use Rattle.std.specs.List.{slice_get}
use Rattle.std.proofs.lemmas.Bool.{cases_eq, eq-eqb, ne_eqb}
use Rattle.std.proofs.lemmas.List.{length_push, take-append-le}
use Rattle.std.proofs.lemmas.Option.{same_Some}
use Rattle.gc_types.specs.declared.kind.Layouts.{Layouts}
use Rattle.gc_types.specs.declared.kind.Layouts.TheVariants.{Null, Counting, Copying}
use Rattle.gc_types.specs.Declarations.{Declaration}
use Rattle.gc_types.specs.Layouts.{round_up}
use Rattle.gc_view.specs.Sizes.{alignment}
use Rattle.gc_view.proofs.Layouts.{round_up-le}
use Rattle.gc_model.specs.Allocation.{skipped}
use Rattle.gc_model.specs.Gaps.{told}
use Rattle.gc_model.specs.Reach.{Reached, root_references}
use Rattle.gc_model.specs.Sizes.{block_bytes, object_size}
use Rattle.gc_model.specs.Values.{Reference, Object}
use Rattle.gc_model.specs.Words.{Placing, placed_at}
use Rattle.gc_model.specs.Policy.{IsPlaceIn, PolicyState}
use Rattle.gc_image.specs.declared.image.ObjectLine.{ObjectLine}
use Rattle.gc_load_image.specs.Stages.{IsDense, early_objects, dense_start}
use Rattle.gc_load_image.proofs.DenseLemmas.{Lies}
use Rattle.gc_load_image.proofs.RoomLemmas.{Laid, place_is}

start_same : (types : List Declaration) (objects : List (Object ℕ)) (o : Object ℕ) (p : ℕ) → p ≤ length objects → dense_start types (objects ++ o ∷ []) p ≡ dense_start types objects p
start_same types objects o p below = ap (λ (xs : List (Object ℕ)). skipped + sum_by (λ (x : Object ℕ). block_bytes Counting types (Some x)) xs) (take-append-le p objects (o ∷ []) below)

counted_more : (types : List Declaration) (objects : List (Object ℕ)) (o : Object ℕ) (places : Placing) (word : ℕ) → word ≡ dense_start types objects (length objects) → IsDense Counting types objects places → IsDense Counting types (objects ++ o ∷ []) (placed_at places (length objects) word)
counted_more types objects o places word is dense = λ p w. elim (cases_eq p (length objects)) [
  | inl same ↦
      let test : nat_eq p (length objects) ≡ true = eq-eqb p (length objects) same in
      let found : placed_at places (length objects) word p ≡ Some word = ap (λ (b : Bool). cond b (Some word) (places p)) test in
      let start : dense_start types (objects ++ o ∷ []) p ≡ word = start_same types objects o p (omega (arith, same)) ∙ ap (dense_start types objects) same ∙ sym is in (
        λ e. ((let more = length_push objects o in omega (arith, more, same)), sym (same_Some word w (sym found ∙ e)) ∙ sym start),
        λ at. found ∙ ap Some (sym start ∙ sym at.1),
      )
  | inr differ ↦
      let test : nat_eq p (length objects) ≡ false = ne_eqb p (length objects) differ in
      let found : placed_at places (length objects) word p ≡ places p = ap (λ (b : Bool). cond b (Some word) (places p)) test in (
        λ e. let at = (dense p w).0 (sym found ∙ e) in ((let more = length_push objects o in let below = at.0 in omega (arith, more, below)), at.1 ∙ sym (start_same types objects o p (let below = at.0 in omega (arith, below)))),
        λ at. (let below : p < length objects = (let more = length_push objects o in let b = at.0 in omega (arith, more, b, differ)) in found ∙ (dense p w).1 (below, at.1 ∙ start_same types objects o p (omega (arith, below)))),
      )
]

module _ (types : List Declaration) (objects : List (Object ℕ)) (roots : List Reference) (lines : List ObjectLine) (are : objects ≡ early_objects 0 lines) (some : (q : ℕ) (x : Object ℕ) → slice_get objects q ≡ Some x → 0 < object_size Counting types x)
    (all : (x : ℕ) → x < length objects → Reached objects roots x) (only : (x : ℕ) → Reached objects roots x → x < length objects) where
  laid_after : (after : PolicyState ℕ) → Lies Counting types objects roots after → Laid Counting after.table after.account.places lines
  laid_after after lies = record {
    objects = lies.objects_are ∙ are;
    some = λ q x e. subst (λ (ts : List Declaration). 0 < object_size Counting ts x) (sym lies.types_are) (some q x (sym (ap (λ (os : List (Object ℕ)). slice_get os q) lies.objects_are) ∙ e));
    dense = subst (λ (os : List (Object ℕ)). IsDense Counting after.table.types os after.account.places) (sym lies.objects_are) (subst (λ (ts : List Declaration). IsDense Counting ts objects after.account.places) (sym lies.types_are) lies.dense);
    reached = λ x below.
        subst (λ (os : List (Object ℕ)). Reached os (root_references after.table) x) (sym lies.objects_are)
        (subst (λ (rs : List Reference). Reached objects rs x) (sym lies.roots_are) (all x (subst (λ (os : List (Object ℕ)). x < length os) lies.objects_are below)));
    inside = λ x reached.
        subst (λ (os : List (Object ℕ)). x < length os) (sym lies.objects_are)
        (only x (subst (λ (rs : List Reference). Reached objects rs x) lies.roots_are (subst (λ (os : List (Object ℕ)). Reached os (root_references after.table) x) lies.objects_are reached)));
  }

  pub dense_made : (l : Layouts) (o : Object ℕ) (after : PolicyState ℕ) (word size : ℕ) → 0 < size → Lies l types objects roots after → IsPlaceIn l after word size → IsDense l types (objects ++ o ∷ []) (told l (placed_at after.account.places (length objects) word))
  dense_made Null o after word size wide lies place = tt
  dense_made Counting o after word size wide lies place =
      let up = round_up-le size alignment (omega arith) in
      let at = place_is after.table after.account.places lines (laid_after after lies) word (round_up size alignment) (omega (arith, wide, up)) place.0 place.1 in
      let is : word ≡ dense_start types objects (length objects) =
      subst (λ (ts : List Declaration). word ≡ dense_start ts objects (length objects)) lies.types_are (subst (λ (os : List (Object ℕ)). word ≡ dense_start after.table.types os (length os)) lies.objects_are at) in
      counted_more types objects o after.account.places word is lies.dense
  dense_made Copying o after word size wide lies place = tt
