-- The values of an object are taken one by one.
use Rattle.std.proofs.Common.{inl, inr, ◌≡◌, ℕ, ◌+◌, ◌^◌, ◌<◌, ◌≤◌, List, [], ◌∷◌, length, take, get_or, Some, Err, not, cond, sym, ap, ◌∙◌, refl, subst, arith}
use Rattle.std.specs.Prelude.{option_map}
use Rattle.std.specs.List.{slice_get, flat_map}
use Rattle.std.proofs.lemmas.Bool.{cases_eq}
use Rattle.std.proofs.lemmas.List.{take_all}
use Rattle.std.proofs.lemmas.List.Sums.{sum_by-cons, sum_by-append, sum_by_more, sum_by-take-le}
use Rattle.std.proofs.lemmas.Option.{same_Some, slice_get_within, slice_get-map, get_or_from_slice_get}
use Rattle.gc_types.specs.declared.kind.Layouts.{Layouts}
use Rattle.gc_model.specs.Values.{Value, Object}
use Rattle.gc_model.specs.Reach.{object_values, value_references}
use Rattle.gc_model.specs.Reads.{is_null}
use Rattle.gc_model.specs.Stores.{StoreView}
use Rattle.gc_paths.specs.declared.entry.PathEntry.{PathEntry}
use Rattle.gc_paths.specs.declared.fault.PathFault.{PathFault}
use Rattle.gc_paths.specs.declared.fault.PathFault.TheVariants as path_fault
use Rattle.gc_paths.specs.Answers.{LacksRoots, present_count, held_count}
use Rattle.gc_paths.specs.Parts.{Parts}
use Rattle.gc_paths.specs.Progress.{Basis, Progress, SearchGoesOn, AnswersPart, KeepsTold, TellsValue, TellsValues, present_in_value, values_count}
use Rattle.gc_paths.specs.Reports.{Told}
use Rattle.gc_paths.specs.Steps.{IsReading}
use Rattle.gc_paths.proofs.Growing.{grown_scoped, lacks_more}
use Rattle.gc_paths.proofs.Taken.{keeps_itself, keeps_twice, told_kept}

-- the references of an object are those of its values
references_counted : (vs : List Value) → present_count (flat_map value_references vs) ≡ values_count vs
references_counted [] = refl
references_counted (v ∷ vs) =
    sum_by-append (λ r. cond (not (is_null r)) 1 0) (value_references v) (flat_map value_references vs)
    ∙ ap (λ n. present_in_value v + n) (references_counted vs)
    ∙ sym (sum_by-cons present_in_value v vs)

pub values_held : {D : Type 0} (o : Object D) → values_count (object_values o) ≡ held_count (Some o)
values_held o = sym (references_counted (object_values o))

-- as many objects are told as roots stand at most
pub few_told : {D : Type 0} (layouts : Layouts) (b : Basis D) (told : List Told) (bound count : ℕ) (s : StoreView D) (r : Parts) → Progress layouts b told bound count s r → length told ≤ 2 ^ 31
few_told layouts b told bound count s r progress =
    let few = progress.few in
    let stand = grown_scoped b.table progress.holds.now count progress.holds.grown in
    let within = progress.holds.there.0.scopes.scoped_within in
    let most = progress.holds.there.0.settings.few_roots in
    omega (arith, few, stand, within, most)

-- the entry of a told object in the report
pub entry_there : {D : Type 0} (layouts : Layouts) (b : Basis D) (told : List Told) (bound count : ℕ) (s : StoreView D) (r : Parts) (progress : Progress layouts b told bound count s r) (number : ℕ) (x : Told) → slice_get told number ≡ Some x → (e : PathEntry) → e ≡ get_or r.entries number e → x.entry ≡ e
entry_there layouts b told bound count s r progress number x there e is =
    let found : slice_get r.entries number ≡ Some x.entry = ap (λ es. slice_get es number) progress.lists.entries_are ∙ slice_get-map (λ (y : Told). y.entry) told number ∙ some_entry there in
    sym (get_or_from_slice_get r.entries number x.entry e found) ∙ sym is
  where
    some_entry : slice_get told number ≡ Some x → option_map (λ (y : Told). y.entry) (slice_get told number) ≡ Some x.entry
    some_entry h = ap (λ o. option_map (λ (y : Told). y.entry) o) h

pub reading_kept : {D : Type 0} (b : Basis D) (before now : List Told) (bound number : ℕ) (o : Object D) → KeepsTold before now → IsReading b before bound number o → IsReading b now bound number o
reading_kept b before now bound number o keeps is = record { one = is.one; there = keeps number is.one is.there; next = is.next; object_is = is.object_is }

module _ {D : Type 0} (layouts : Layouts) (b : Basis D) (told : List Told) (bound count : ℕ) (vs : List Value) where
  pub values_begin : (s : StoreView D) (r : Parts) → Progress layouts b told bound count s r → SearchGoesOn layouts b told bound (count + values_count (take 0 vs)) s r (TellsValues bound 0 vs)
  values_begin s r progress = record {
    told = told;
    kept = keeps_itself told;
    progress = subst (λ (n : ℕ). Progress layouts b told bound n s r) (none vs) progress;
    done = λ i v below e. absurd (omega (arith, below));
  }
    where
      none : (xs : List Value) → count ≡ count + values_count (take 0 xs)
      none [] = omega arith
      none (x ∷ xs) = omega arith

  count_more : (i : ℕ) (v : Value) → slice_get vs i ≡ Some v → (count + values_count (take i vs)) + present_in_value v ≡ count + values_count (take (i + 1) vs)
  count_more i v e =
      let more = sum_by_more present_in_value vs i v (slice_get_within vs i v e) in
      let is : present_in_value (get_or vs i v) ≡ present_in_value v = ap present_in_value (get_or_from_slice_get vs i v v e) in
      omega (arith, more, is)

  pub values_more : (i : ℕ) (v : Value) → slice_get vs i ≡ Some v → (s : StoreView D) (r : Parts) (goes : SearchGoesOn layouts b told bound (count + values_count (take i vs)) s r (TellsValues bound i vs))
      → (new : StoreView D) (after : Parts) → SearchGoesOn layouts b goes.told bound ((count + values_count (take i vs)) + present_in_value v) new after (TellsValue bound v)
      → SearchGoesOn layouts b told bound (count + values_count (take (i + 1) vs)) new after (TellsValues bound (i + 1) vs)
  values_more i v e s r goes new after next = record {
    told = next.told;
    kept = keeps_twice told goes.told next.told goes.kept next.kept;
    progress = subst (λ (n : ℕ). Progress layouts b next.told bound n new after) (count_more i v e) next.progress;
    done = done;
  }
    where
      done : (j : ℕ) (w : Value) → j < i + 1 → slice_get vs j ≡ Some w → TellsValue bound w next.told
      done j w below at_j p c = elim (cases_eq j i) [
        | inl same ↦
            let is : v ≡ w = same_Some v w (sym e ∙ ap (slice_get vs) (sym same) ∙ at_j) in
            subst (λ (x : Value). TellsValue bound x next.told) is next.done p c
        | inr other ↦ told_kept goes.told next.told p bound next.kept (goes.done j w (omega (arith, below, other)) at_j p c)
      ]

  pub values_end : (i : ℕ) → i ≡ length vs → (s : StoreView D) (r : Parts) → SearchGoesOn layouts b told bound (count + values_count (take i vs)) s r (TellsValues bound i vs) → SearchGoesOn layouts b told bound (count + values_count vs) s r (TellsValues bound (length vs) vs)
  values_end i all s r goes =
      subst (λ (xs : List Value). SearchGoesOn layouts b told bound (count + values_count xs) s r (TellsValues bound (length vs) vs)) (take_all i vs (omega (arith, all)))
      (subst (λ (n : ℕ). SearchGoesOn layouts b told bound (count + values_count (take i vs)) s r (TellsValues bound n vs)) all goes)

  pub values_refused : (i : ℕ) (v : Value) → slice_get vs i ≡ Some v → (why : PathFault) (Went More : Type 0) (s : StoreView D) → AnswersPart layouts b Went (LacksRoots b.table ((count + values_count (take i vs)) + present_in_value v)) (Err why) s
      → AnswersPart layouts b More (LacksRoots b.table (count + values_count vs)) (Err why) s
  values_refused i v e path_fault.WrongStore Went More s never = never
  values_refused i v e path_fault.Unrooted Went More s never = never
  values_refused i v e path_fault.NoObject Went More s never = never
  values_refused i v e path_fault.RootsFull Went More s full =
      let more = count_more i v e in
      let part = sum_by-take-le present_in_value vs (i + 1) in
      (lacks_more b.table ((count + values_count (take i vs)) + present_in_value v) (count + values_count vs) (omega (arith, more, part)) full.0, full.1)
  values_refused i v e path_fault.Memory Went More s stopped = stopped
