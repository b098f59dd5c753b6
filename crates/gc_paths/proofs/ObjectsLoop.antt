-- The objects of a report are taken one by one, while it grows.
use Rattle.std.proofs.Common.{inl, inr, ◌≡◌, ℕ, ◌+◌, ◌^◌, ◌<◌, ◌≤◌, zero, suc, List, [], ◌∷◌, length, take, get_or, Some, Err, refl, sym, ap, ◌∙◌, subst, arith}
use Rattle.std.specs.Prelude.{sum_by}
use Rattle.std.specs.List.{slice_get}
use Rattle.std.proofs.lemmas.Bool.{cases_eq}
use Rattle.std.proofs.lemmas.List.{length-map, take_all}
use Rattle.std.proofs.lemmas.List.Sums.{sum_by_more, sum_by-take-le}
use Rattle.std.proofs.lemmas.Option.{none-some, same_Some, slice_get_within, slice_get_cases, get_or_from_slice_get}
use Rattle.gc_types.specs.declared.kind.Layouts.{Layouts}
use Rattle.gc_model.specs.Values.{at, reference, Object}
use Rattle.gc_model.specs.Reach.{object_values}
use Rattle.gc_model.specs.Stores.{StoreView}
use Rattle.gc_model.proofs.Members.{get_contains, map_among, contains_get}
use Rattle.gc_paths.specs.declared.fault.PathFault.{PathFault}
use Rattle.gc_paths.specs.declared.fault.PathFault.TheVariants as path_fault
use Rattle.gc_paths.specs.Walks.{ValueNames, IsWalked}
use Rattle.gc_paths.specs.Reports.{Told, positions}
use Rattle.gc_paths.specs.Answers.{LacksRoots, held_count}
use Rattle.gc_paths.specs.Parts.{Parts}
use Rattle.gc_paths.specs.Progress.{Basis, Progress, SearchGoesOn, AnswersPart, KeepsTold, IsToldBy, TellsValues, TellsNamed, Ended, PassesRoom, values_count}
use Rattle.gc_paths.specs.Steps.{IsReading}
use Rattle.gc_paths.proofs.Growing.{grown_objects, lacks_more}
use Rattle.gc_paths.proofs.Taken.{keeps_itself, keeps_twice, told_kept}
use Rattle.gc_paths.proofs.ValuesLoop.{few_told, values_held}

-- how many references the object at a position has
abbrev pub held_at : {D : Type 0} → Basis D → ℕ → ℕ
held_at b p = held_count (slice_get b.table.objects p)

-- so many entries' objects were taken
pub record Round {D : Type 0} (layouts : Layouts) (b : Basis D) (before : List Told) (start entry : ℕ) (s : StoreView D) (r : Parts) : Type 0 where
  pub told : List Told
  pub kept : KeepsTold before told
  pub bound : ℕ
  pub total : ℕ
  pub progress : Progress layouts b told bound total s r
  pub level : (x : Told) → slice_get told entry ≡ Some x → bound ≤ x.entry.length + 1
  pub named : TellsNamed b entry told
  pub total_is : total ≡ start + sum_by (held_at b) (take entry (positions told))
  pub reached : entry ≤ length told

-- the first elements of a longer list
first_same : (xs ys : List Told) (n : ℕ) → n ≤ length xs → KeepsTold xs ys → take n (positions ys) ≡ take n (positions xs)
first_same xs ys zero below keeps = refl
first_same [] ys (suc n) below keeps = absurd (omega (arith, below))
first_same (x ∷ xs) [] (suc n) below keeps = absurd (none-some x (keeps 0 x refl))
first_same (x ∷ xs) (y ∷ ys) (suc n) below keeps =
    (λ i. (same_Some y x (keeps 0 x refl) i).position ∷ first_same xs ys n (omega (arith, below)) (λ k z e. keeps (suc k) z e) i)

pub position_at : (told : List Told) (i : ℕ) (x : Told) → slice_get told i ≡ Some x → slice_get (positions told) i ≡ Some x.position
position_at [] i x e = absurd (none-some x e)
position_at (y ∷ told) zero x e = ap (λ (z : Told). Some z.position) (same_Some y x e)
position_at (y ∷ told) (suc i) x e = position_at told i x e

-- a longer bound
pub wider : {D : Type 0} (layouts : Layouts) (b : Basis D) (told : List Told) (bound more count : ℕ) (s : StoreView D) (r : Parts) → bound ≤ more → Progress layouts b told bound count s r → Progress layouts b told more count s r
wider layouts b told bound more count s r below progress = record {
  holds = progress.holds;
  lists = progress.lists;
  tells = record {
    each = progress.tells.each;
    walks = progress.tells.walks;
    distinct = progress.tells.distinct;
    rising = progress.tells.rising;
    within = λ i x e. let within = progress.tells.within i x e in omega (arith, within, below);
    short = progress.tells.short;
  };
  few = progress.few;
}

-- the object that is told of
pub object_told : {D : Type 0} (layouts : Layouts) (b : Basis D) (told : List Told) (bound count : ℕ) (s : StoreView D) (r : Parts) → Progress layouts b told bound count s r → (i : ℕ) (x : Told) → slice_get told i ≡ Some x → (o : Object D) × (slice_get b.table.objects x.position ≡ Some o)
object_told layouts b told bound count s r progress i x e =
    let held = progress.holds.there.0.objects.placed x.position x.entry.word (progress.tells.each i x e).word in
    (held.entry, ap (λ os. slice_get os x.position) (sym (grown_objects b.table progress.holds.now count progress.holds.grown)) ∙ held.in_table)

module _ {D : Type 0} (layouts : Layouts) (b : Basis D) (before : List Told) (start : ℕ) where
  pub round_begin : (s : StoreView D) (r : Parts) → Progress layouts b before 0 start s r → Round layouts b before start 0 s r
  round_begin s r progress = record {
    told = before;
    kept = keeps_itself before;
    bound = 0;
    total = start;
    progress = progress;
    level = λ x e. omega arith;
    named = λ i x index p below e names. absurd (omega (arith, below));
    total_is = nothing (positions before);
    reached = omega arith;
  }
    where
      nothing : (ps : List ℕ) → start ≡ start + sum_by (held_at b) (take 0 ps)
      nothing [] = omega arith
      nothing (p ∷ ps) = omega arith

  module _ (entry : ℕ) (s : StoreView D) (r : Parts) (round : Round layouts b before start entry s r) (x : Told) (there : slice_get round.told entry ≡ Some x) (o : Object D) (object_is : slice_get b.table.objects x.position ≡ Some o) where
    pub round_progress : Progress layouts b round.told (x.entry.length + 1) round.total s r
    round_progress = wider layouts b round.told round.bound (x.entry.length + 1) round.total s r (round.level x there) round.progress

    pub round_reading : IsReading b round.told (x.entry.length + 1) entry o
    round_reading = record { one = x; there = there; next = refl; object_is = object_is }

    counted : (told : List Told) → slice_get told entry ≡ Some x → take entry (positions told) ≡ take entry (positions round.told) → start + sum_by (held_at b) (take (entry + 1) (positions told)) ≡ round.total + values_count (object_values o)
    counted told at_x same =
        let inside = slice_get_within (positions told) entry x.position (position_at told entry x at_x) in
        let more = sum_by_more (held_at b) (positions told) entry 0 inside in
        let one : held_at b (get_or (positions told) entry 0) ≡ values_count (object_values o) =
        ap (held_at b) (get_or_from_slice_get (positions told) entry x.position 0 (position_at told entry x at_x)) ∙ ap held_count object_is ∙ sym (values_held o) in
        let first : sum_by (held_at b) (take entry (positions told)) ≡ sum_by (held_at b) (take entry (positions round.told)) = ap (sum_by (held_at b)) same in
        let total = round.total_is in
        omega (arith, more, one, first, total)

    module _ (new : StoreView D) (after : Parts) (next : SearchGoesOn layouts b round.told (x.entry.length + 1) (round.total + values_count (object_values o)) new after (TellsValues (x.entry.length + 1) (length (object_values o)) (object_values o))) where
      x_there : slice_get next.told entry ≡ Some x
      x_there = next.kept entry x there

      names_x : (index p : ℕ) → ValueNames b.table.objects x.position index p → IsToldBy next.told p (x.entry.length + 1)
      names_x index p names =
          let same : names.object ≡ o = same_Some names.object o (sym names.there ∙ object_is) in
          let value : slice_get (object_values o) index ≡ Some (reference names.class (at p)) = ap (λ (y : Object D). slice_get (object_values y) index) (sym same) ∙ names.value in
          next.done index (reference names.class (at p)) (slice_get_within (object_values o) index (reference names.class (at p)) value) value p (get_contains (at p ∷ []) 0 (at p) refl)

      named : TellsNamed b (entry + 1) next.told
      named i y index p below at_y names = elim (cases_eq i entry) [
        | inl same ↦
            let is : x ≡ y = same_Some x y (sym x_there ∙ ap (slice_get next.told) (sym same) ∙ at_y) in
            subst (λ (z : Told). ValueNames b.table.objects z.position index p → IsToldBy next.told p (z.entry.length + 1)) is (names_x index p) names
        | inr other ↦ earlier i y index p (omega (arith, below, other)) at_y names
      ]
        where
          earlier : (i : ℕ) (y : Told) (index p : ℕ) → i < entry → slice_get next.told i ≡ Some y → ValueNames b.table.objects y.position index p → IsToldBy next.told p (y.entry.length + 1)
          earlier i y index p under at_y names = elim ((slice_get_cases round.told i).1) [
            | inl found ↦
                let is : found.0 ≡ y = same_Some found.0 y (sym (next.kept i found.0 found.2) ∙ at_y) in
                subst (λ (z : Told). ValueNames b.table.objects z.position index p → IsToldBy next.told p (z.entry.length + 1)) is
                (λ names_it. told_kept round.told next.told p (found.0.entry.length + 1) next.kept (round.named i found.0 index p under found.2 names_it)) names
            | inr past ↦ absurd (let reached = round.reached in omega (arith, past.0, under, reached))
          ]

      pub round_step : Round layouts b before start (entry + 1) new after
      round_step = record {
        told = next.told;
        kept = keeps_twice before round.told next.told round.kept next.kept;
        bound = x.entry.length + 1;
        total = round.total + values_count (object_values o);
        progress = next.progress;
        level = λ y at_y. let rises = next.progress.tells.rising entry (entry + 1) x y (omega arith) x_there at_y in omega (arith, rises);
        named = named;
        total_is = sym (counted next.told x_there (first_same round.told next.told entry round.reached next.kept));
        reached = let inside = slice_get_within next.told entry x x_there in omega (arith, inside);
      }

    pub round_refused : (why : PathFault) (Went More : Type 0) (now : StoreView D) → AnswersPart layouts b Went (LacksRoots b.table (round.total + values_count (object_values o))) (Err why) now → AnswersPart layouts b More (PassesRoom b start) (Err why) now
    round_refused path_fault.WrongStore Went More now never = never
    round_refused path_fault.Unrooted Went More now never = never
    round_refused path_fault.NoObject Went More now never = never
    round_refused path_fault.RootsFull Went More now full = (
      record {
        walked = positions round.told;
        distinct = round.progress.tells.distinct;
        are = λ p c.
            let image = map_among (λ (y : Told). y.position) round.told p c in
            let index = contains_get round.told image.of image.among in
            subst (λ q. IsWalked b.scoped b.table q) image.is (image.of.entry.length, round.progress.tells.walks index.0 image.of index.1);
        lacks =
            let part = sum_by-take-le (held_at b) (positions round.told) (entry + 1) in
            let all = counted round.told there refl in
            lacks_more b.table (round.total + values_count (object_values o)) (start + sum_by (held_at b) (positions round.told)) (omega (arith, part, all)) full.0;
      },
      full.1,
    )
    round_refused path_fault.Memory Went More now stopped = stopped

  -- all objects were taken
  pub round_end : (entry : ℕ) (s : StoreView D) (r : Parts) → (round : Round layouts b before start entry s r) → length round.told ≤ entry → Ended layouts b before start s r
  round_end entry s r round past = record {
    told = round.told;
    kept = round.kept;
    bound = round.bound;
    total = round.total;
    progress = round.progress;
    named = λ i x index p below. round.named i x index p (omega (arith, below, past));
    total_is = round.total_is ∙ ap (λ ps. start + sum_by (held_at b) ps) (take_all entry (positions round.told) (let as_many = length-map round.told (λ (y : Told). y.position) in omega (arith, as_many, past)));
  }

  -- no report has so many entries
  pub round_over : (entry : ℕ) (s : StoreView D) (r : Parts) → Round layouts b before start entry s r → 2 ^ 31 < entry → ⊥
  round_over entry s r round over =
      let few = few_told layouts b round.told round.bound round.total s r round.progress in
      let reached = round.reached in
      omega (arith, few, reached, over)

-- a report has as many entries as are told
pub told_count : {D : Type 0} (layouts : Layouts) (b : Basis D) (told : List Told) (bound count : ℕ) (s : StoreView D) (r : Parts) → Progress layouts b told bound count s r → length r.entries ≡ length told
told_count layouts b told bound count s r progress = ap length progress.lists.entries_are ∙ length-map told (λ (x : Told). x.entry)

-- there is an entry of each number below
pub entry_told : (told : List Told) (i : ℕ) → i < length told → (x : Told) × (slice_get told i ≡ Some x)
entry_told told i below = elim ((slice_get_cases told i).1) [
  | inl found ↦ (found.0, found.2)
  | inr past ↦ absurd (omega (arith, below, past.0))
]
