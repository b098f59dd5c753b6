-- The objects are taken one by one, while there are more.
use Rattle.std.proofs.Common.{inl, inr, ◌≡◌, ℕ, zero, suc, ◌+◌, ◌<◌, ◌≤◌, List, [], ◌∷◌, ◌++◌, length, take, get_or, Some, Err, refl, sym, ap, ◌∙◌, subst, arith}
use Rattle.std.specs.Prelude.{sum_by}
use Rattle.std.specs.List.{slice_get}
use Rattle.std.proofs.lemmas.List.{take_all, length_push}
use Rattle.std.proofs.lemmas.List.Sums.{sum_by_more, sum_by-take-le}
use Rattle.std.proofs.lemmas.Option.{none-some, same_Some, slice_get_within, slice_get_cases, get_or_from_slice_get}
use Rattle.gc_types.specs.declared.kind.Layouts.{Layouts}
use Rattle.gc_types.specs.Declarations.{Declaration}
use Rattle.gc_model.specs.Reach.{object_values}
use Rattle.gc_model.specs.Stores.{StoreView}
use Rattle.gc_model.specs.Values.{Object}
use Rattle.gc_model.proofs.Lists.{slice_get-push_cases}
use Rattle.gc_model.proofs.Members.{contains_get}
use Rattle.gc_paths.specs.Answers.{LacksRoots, held_count}
use Rattle.gc_paths.specs.Progress.{Basis, values_count}
use Rattle.gc_paths.proofs.Growing.{grown_objects, lacks_more}
use Rattle.gc_paths.proofs.ValuesLoop.{values_held}
use Rattle.gc_image.specs.declared.image.ObjectLine.{ObjectLine}
use Rattle.gc_save_image.specs.declared.collect_fault.CollectFault.{CollectFault}
use Rattle.gc_save_image.specs.declared.collect_fault.CollectFault.TheVariants as fault
use Rattle.gc_save_image.specs.Parts.{FoundHandles}
use Rattle.gc_save_image.specs.Progress.{AnswersImagePart, HasAllLines, ImageGoesOn, KeepsNumbered, ImagePassesRoom, ImageProgress, SaysObject, held_at}
use Rattle.gc_save_image.specs.Steps.{IsNumberedObject}
use Rattle.gc_save_image.proofs.Taken.{keeps_itself, keeps_twice}
use Rattle.gc_save_image.proofs.FirstValues.{below_kept, told_kept}

-- so many objects were taken
pub record Round (layouts : Layouts) (b : Basis ℕ) (before : List ℕ) (start number : ℕ) (s : StoreView ℕ) (f : FoundHandles) (lines : List ObjectLine) : Type 0 where
  pub told : List ℕ
  pub kept : KeepsNumbered before told
  pub total : ℕ
  pub progress : ImageProgress layouts b told total s f
  pub same_count : length lines ≡ number
  pub says : (n p : ℕ) (o : Object ℕ) (l : ObjectLine) → slice_get told n ≡ Some p → slice_get lines n ≡ Some l → slice_get b.table.objects p ≡ Some o → SaysObject b.table.types told o l
  pub total_is : total ≡ start + sum_by (held_at b) (take number told)
  pub reached : number ≤ length told

-- what a line says, it says still where more objects have numbers
object_kept : (types : List Declaration) (before now : List ℕ) → KeepsNumbered before now → (o : Object ℕ) (l : ObjectLine) → SaysObject types before o l → SaysObject types now o l
object_kept types before now keeps o l says = record {
  is = λ plain position agrees. says.is plain position (λ n p e. agrees n p (keeps n p e));
  shape = says.shape;
  named = λ i n x at_x names. below_kept before now keeps n (says.named i n x at_x names);
  leads = λ i class p e. told_kept before now keeps p (says.leads i class p e);
  fits = says.fits;
}

-- the first elements of a longer list
first_same : (xs ys : List ℕ) (n : ℕ) → n ≤ length xs → KeepsNumbered xs ys → take n ys ≡ take n xs
first_same xs ys zero below keeps = refl
first_same [] ys (suc n) below keeps = absurd (omega (arith, below))
first_same (x ∷ xs) [] (suc n) below keeps = absurd (none-some x (keeps 0 x refl))
first_same (x ∷ xs) (y ∷ ys) (suc n) below keeps = λ i. same_Some y x (keeps 0 x refl) i ∷ first_same xs ys n (omega (arith, below)) (λ k z e. keeps (suc k) z e) i

-- the object that has a number
pub object_there : (layouts : Layouts) (b : Basis ℕ) (told : List ℕ) (total : ℕ) (s : StoreView ℕ) (f : FoundHandles) → ImageProgress layouts b told total s f → (n p : ℕ) → slice_get told n ≡ Some p → (o : Object ℕ) × (slice_get b.table.objects p ≡ Some o)
object_there layouts b told total s f progress n p e =
    let has = progress.lists.has n p e in
    let held = progress.holds.there.0.objects.placed p has.0 has.1.0 in
    (held.entry, ap (λ os. slice_get os p) (sym (grown_objects b.table progress.holds.now total progress.holds.grown)) ∙ held.in_table)

pub number_told : (told : List ℕ) (n : ℕ) → n < length told → (p : ℕ) × (slice_get told n ≡ Some p)
number_told told n below = elim ((slice_get_cases told n).1) [
  | inl found ↦ (found.0, found.2)
  | inr past ↦ absurd (omega (arith, below, past.0))
]

module _ (layouts : Layouts) (b : Basis ℕ) (before : List ℕ) (start : ℕ) where
  pub round_begin : (s : StoreView ℕ) (f : FoundHandles) (lines : List ObjectLine) → lines ≡ [] → ImageProgress layouts b before start s f → Round layouts b before start 0 s f lines
  round_begin s f lines empty progress = record {
    told = before;
    kept = keeps_itself before;
    total = start;
    progress = progress;
    same_count = ap length empty;
    says = λ n p o l at_p at_l at_o. absurd (none-some l (sym (ap (λ ls. slice_get ls n) empty) ∙ at_l));
    total_is = nothing before;
    reached = omega arith;
  }
    where
      nothing : (ps : List ℕ) → start ≡ start + sum_by (held_at b) (take 0 ps)
      nothing [] = omega arith
      nothing (p ∷ ps) = omega arith

  module _ (number : ℕ) (s : StoreView ℕ) (f : FoundHandles) (lines : List ObjectLine) (round : Round layouts b before start number s f lines) (p : ℕ) (there : slice_get round.told number ≡ Some p) (o : Object ℕ) (object_is : slice_get b.table.objects p ≡ Some o) where
    pub round_reading : IsNumberedObject b round.told number o
    round_reading = record { position = p; there = there; object_is = object_is }

    counted : (told : List ℕ) → slice_get told number ≡ Some p → take number told ≡ take number round.told → start + sum_by (held_at b) (take (number + 1) told) ≡ round.total + values_count (object_values o)
    counted told at_p same =
        let inside = slice_get_within told number p at_p in
        let more = sum_by_more (held_at b) told number 0 inside in
        let one : held_at b (get_or told number 0) ≡ values_count (object_values o) = ap (held_at b) (get_or_from_slice_get told number p 0 at_p) ∙ ap held_count object_is ∙ sym (values_held o) in
        let first : sum_by (held_at b) (take number told) ≡ sum_by (held_at b) (take number round.told) = ap (sum_by (held_at b)) same in
        let total = round.total_is in
        omega (arith, more, one, first, total)

    pub round_step : (new : StoreView ℕ) (after : FoundHandles) (l : ObjectLine) (more : List ObjectLine) → more ≡ lines ++ l ∷ []
        → ImageGoesOn layouts b round.told (round.total + values_count (object_values o)) new after (λ then. SaysObject b.table.types then o l) → Round layouts b before start (number + 1) new after more
    round_step new after l more is next = record {
      told = next.told;
      kept = keeps_twice before round.told next.told round.kept next.kept;
      total = round.total + values_count (object_values o);
      progress = next.progress;
      same_count = ap length is ∙ length_push lines l ∙ ap (λ n. n + 1) round.same_count;
      says = λ n q w k at_q at_k at_w. says n q w k at_q (ap (λ ls. slice_get ls n) (sym is) ∙ at_k) at_w;
      total_is = sym (counted next.told (next.kept number p there) (first_same round.told next.told number round.reached next.kept));
      reached = let inside = slice_get_within next.told number p (next.kept number p there) in omega (arith, inside);
    }
      where
        says : (n q : ℕ) (w : Object ℕ) (k : ObjectLine) → slice_get next.told n ≡ Some q → slice_get (lines ++ l ∷ []) n ≡ Some k → slice_get b.table.objects q ≡ Some w → SaysObject b.table.types next.told w k
        says n q w k at_q at_k at_w = elim (slice_get-push_cases lines l n k at_k) [
          | inl old ↦
              let inside = slice_get_within lines n k old in
              let long = round.same_count in
              let reached = round.reached in
              let before_it = number_told round.told n (omega (arith, inside, long, reached)) in
              let same : before_it.0 ≡ q = same_Some before_it.0 q (sym (next.kept n before_it.0 before_it.1) ∙ at_q) in
              object_kept b.table.types round.told next.told next.kept w k (round.says n q w k (before_it.1 ∙ ap Some same) old at_w)
          | inr (at_end, same) ↦
              let place_is : number ≡ n = sym round.same_count ∙ sym at_end in
              let position_is : p ≡ q = same_Some p q (sym (next.kept number p there) ∙ ap (slice_get next.told) place_is ∙ at_q) in
              let object_same : o ≡ w = same_Some o w (sym object_is ∙ ap (slice_get b.table.objects) position_is ∙ at_w) in
              subst (λ (x : Object ℕ). SaysObject b.table.types next.told x k) object_same (subst (SaysObject b.table.types next.told o) same next.done)
        ]

    pub round_refused : {X Y : Type 0} (why : CollectFault) (Went : X → Type 0) (More : Y → Type 0) (now : StoreView ℕ) → AnswersImagePart layouts b Went (LacksRoots b.table (round.total + values_count (object_values o))) (Err why) now → AnswersImagePart layouts b More (ImagePassesRoom b start) (Err why) now
    round_refused fault.RootsFull Went More now full = (
      record {
        part = round.told;
        distinct = round.progress.distinct;
        are = λ q c. let index = contains_get round.told q c in round.progress.reached index.0 q index.1;
        lacks =
            let part = sum_by-take-le (held_at b) round.told (number + 1) in
            let all = counted round.told there refl in
            lacks_more b.table (round.total + values_count (object_values o)) (start + sum_by (held_at b) round.told) (omega (arith, part, all)) full.0;
      },
      full.1,
    )
    round_refused fault.Memory Went More now stopped = stopped

  -- all objects were taken
  pub round_end : (number : ℕ) (s : StoreView ℕ) (f : FoundHandles) (lines : List ObjectLine) → (round : Round layouts b before start number s f lines) → length round.told ≤ number → HasAllLines layouts b before start s f lines
  round_end number s f lines round past = record {
    told = round.told;
    kept = round.kept;
    total = round.total;
    progress = round.progress;
    same_count = let long = round.same_count in let reached = round.reached in omega (arith, long, reached, past);
    says = round.says;
    total_is = round.total_is ∙ ap (λ ps. start + sum_by (held_at b) ps) (take_all number round.told past);
  }
