-- The values of an object are taken one by one.
use Rattle.std.proofs.Common.{inl, inr, ◌≡◌, ℕ, ◌+◌, ◌<◌, List, [], ◌∷◌, ◌++◌, length, take, get_or, Some, Err, sym, ap, ◌∙◌, subst, arith, Contains}
use Rattle.std.specs.List.{slice_get}
use Rattle.std.proofs.lemmas.List.{take_all, length_push}
use Rattle.std.proofs.lemmas.List.Sums.{sum_by_more, sum_by-take-le}
use Rattle.std.proofs.lemmas.Option.{none-some, same_Some, slice_get_within, slice_get_cases, get_or_from_slice_get}
use Rattle.gc_types.specs.declared.kind.Layouts.{Layouts}
use Rattle.gc_model.specs.Values.{Value, Object}
use Rattle.gc_model.specs.Stores.{StoreView}
use Rattle.gc_model.proofs.Lists.{slice_get-push_cases}
use Rattle.gc_model.proofs.Members.{get_contains, contains_get}
use Rattle.gc_paths.specs.Answers.{LacksRoots}
use Rattle.gc_paths.specs.Progress.{Basis, present_in_value, values_count}
use Rattle.gc_paths.proofs.Growing.{lacks_more}
use Rattle.gc_image.specs.declared.image.ImageValue.{ImageValue}
use Rattle.gc_save_image.specs.declared.collect_fault.CollectFault.{CollectFault}
use Rattle.gc_save_image.specs.declared.collect_fault.CollectFault.TheVariants as fault
use Rattle.gc_save_image.specs.Parts.{FoundHandles}
use Rattle.gc_save_image.specs.Progress.{ImageProgress, KeepsNumbered, ImageGoesOn, AnswersImagePart, SaysValue, SaysFirst}
use Rattle.gc_save_image.specs.Steps.{IsNumberedObject}
use Rattle.gc_save_image.proofs.Taken.{keeps_itself, keeps_twice}

-- what is below the count stays so
pub below_kept : (before now : List ℕ) → KeepsNumbered before now → (n : ℕ) → n < length before → n < length now
below_kept before now keeps n below = elim ((slice_get_cases before n).1) [
  | inl found ↦ slice_get_within now n found.0 (keeps n found.0 found.2)
  | inr past ↦ absurd (omega (arith, below, past.0))
]

pub told_kept : (before now : List ℕ) → KeepsNumbered before now → (p : ℕ) → Contains before p → Contains now p
told_kept before now keeps p c = let index = contains_get before p c in get_contains now index.0 p (keeps index.0 p index.1)

-- what a value's word says, it says still where more have numbers
pub says_kept : (before now : List ℕ) → KeepsNumbered before now → (v : Value) (x : ImageValue) → SaysValue before v x → SaysValue now v x
says_kept before now keeps v x says = record {
  is = λ plain position agrees. says.is plain position (λ n p e. agrees n p (keeps n p e));
  named = λ n e. below_kept before now keeps n (says.named n e);
  leads = λ class p e. told_kept before now keeps p (says.leads class p e);
  fits = says.fits;
}

pub reading_kept : {D : Type 0} (b : Basis D) (before now : List ℕ) (number : ℕ) (o : Object D) → KeepsNumbered before now → IsNumberedObject b before number o → IsNumberedObject b now number o
reading_kept b before now number o keeps is = record { position = is.position; there = keeps number is.position is.there; object_is = is.object_is }

module _ {D : Type 0} (layouts : Layouts) (b : Basis D) (told : List ℕ) (start : ℕ) (vs : List Value) where
  pub values_begin : (s : StoreView D) (f : FoundHandles) (words : List ImageValue) → words ≡ [] → ImageProgress layouts b told start s f
      → ImageGoesOn layouts b told (start + values_count (take 0 vs)) s f (λ then. SaysFirst then 0 vs words)
  values_begin s f words empty progress = record {
    told = told;
    kept = keeps_itself told;
    progress = subst (λ (n : ℕ). ImageProgress layouts b told n s f) (none vs) progress;
    done = record { same_count = ap length empty; each = λ i v x at_v at_x. absurd (none-some x (sym (ap (λ ws. slice_get ws i) empty) ∙ at_x)) };
  }
    where
      none : (xs : List Value) → start ≡ start + values_count (take 0 xs)
      none [] = omega arith
      none (x ∷ xs) = omega arith

  pub count_more : (i : ℕ) (v : Value) → slice_get vs i ≡ Some v → (start + values_count (take i vs)) + present_in_value v ≡ start + values_count (take (i + 1) vs)
  count_more i v e =
      let more = sum_by_more present_in_value vs i v (slice_get_within vs i v e) in
      let is : present_in_value (get_or vs i v) ≡ present_in_value v = ap present_in_value (get_or_from_slice_get vs i v v e) in
      omega (arith, more, is)

  pub values_more : (i : ℕ) (v : Value) → slice_get vs i ≡ Some v → (s : StoreView D) (f : FoundHandles) (words : List ImageValue) (goes : ImageGoesOn layouts b told (start + values_count (take i vs)) s f (λ then. SaysFirst then i vs words))
      → (new : StoreView D) (after : FoundHandles) (x : ImageValue) (more : List ImageValue) → more ≡ words ++ x ∷ []
      → ImageGoesOn layouts b goes.told ((start + values_count (take i vs)) + present_in_value v) new after (λ then. SaysValue then v x)
      → ImageGoesOn layouts b told (start + values_count (take (i + 1) vs)) new after (λ then. SaysFirst then (i + 1) vs more)
  values_more i v e s f words goes new after x more is next = record {
    told = next.told;
    kept = keeps_twice told goes.told next.told goes.kept next.kept;
    progress = subst (λ (n : ℕ). ImageProgress layouts b next.told n new after) (count_more i v e) next.progress;
    done = record {
      same_count = ap length is ∙ length_push words x ∙ ap (λ n. n + 1) goes.done.same_count;
      each = λ j w y at_w at_y. each j w y at_w (ap (λ ws. slice_get ws j) (sym is) ∙ at_y);
    };
  }
    where
      each : (j : ℕ) (w : Value) (y : ImageValue) → slice_get vs j ≡ Some w → slice_get (words ++ x ∷ []) j ≡ Some y → SaysValue next.told w y
      each j w y at_w at_y = elim (slice_get-push_cases words x j y at_y) [
        | inl old ↦ says_kept goes.told next.told next.kept w y (goes.done.each j w y at_w old)
        | inr (at_end, same) ↦
            let place_is : i ≡ j = sym goes.done.same_count ∙ sym at_end in
            let value_is : v ≡ w = same_Some v w (sym e ∙ ap (slice_get vs) place_is ∙ at_w) in
            subst (λ (u : Value). SaysValue next.told u y) value_is (subst (λ (z : ImageValue). SaysValue next.told v z) same next.done)
      ]

  pub values_end : (i : ℕ) → i ≡ length vs → (s : StoreView D) (f : FoundHandles) (words : List ImageValue) → ImageGoesOn layouts b told (start + values_count (take i vs)) s f (λ then. SaysFirst then i vs words)
      → ImageGoesOn layouts b told (start + values_count vs) s f (λ then. SaysFirst then (length vs) vs words)
  values_end i all s f words goes =
      subst (λ (xs : List Value). ImageGoesOn layouts b told (start + values_count xs) s f (λ then. SaysFirst then (length vs) vs words)) (take_all i vs (omega (arith, all)))
      (subst (λ (n : ℕ). ImageGoesOn layouts b told (start + values_count (take i vs)) s f (λ then. SaysFirst then n vs words)) all goes)

  pub values_refused : {X Y : Type 0} (i : ℕ) (v : Value) → slice_get vs i ≡ Some v → (why : CollectFault) (Went : X → Type 0) (More : Y → Type 0) (s : StoreView D)
      → AnswersImagePart layouts b Went (LacksRoots b.table ((start + values_count (take i vs)) + present_in_value v)) (Err why) s → AnswersImagePart layouts b More (LacksRoots b.table (start + values_count vs)) (Err why) s
  values_refused i v e fault.RootsFull Went More s full =
      let more = count_more i v e in
      let part = sum_by-take-le present_in_value vs (i + 1) in
      (lacks_more b.table ((start + values_count (take i vs)) + present_in_value v) (start + values_count vs) (omega (arith, more, part)) full.0, full.1)
  values_refused i v e fault.Memory Went More s stopped = stopped
