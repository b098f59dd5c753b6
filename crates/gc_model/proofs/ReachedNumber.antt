-- How many positions the roots of a table reach: as many as a copying collection reaches places.
use Rattle.std.proofs.Common.{◌≡◌, ℕ, ◌^◌, ◌<◌, true, nat_eq, List, [], ◌∷◌, length, map, filter, Some, Contains, refl, sym, ap, ◌∙◌, subst, arith}
use Rattle.std.specs.List.{IsDistinct}
use Rattle.std.specs.FinMap.{get}
use Rattle.std.proofs.lemmas.List.{length-map}
use Rattle.std.proofs.lemmas.List.Elements.{Contains-append_right}
use Rattle.gc_types.specs.declared.kind.Layouts.{Layouts}
use Rattle.gc_types.specs.declared.kind.Layouts.TheVariants.{Copying}
use Rattle.gc_types.specs.Declarations.{Declaration}
use Rattle.gc_roots.specs.Roots.{Root}
use Rattle.gc_view.specs.Reach.{by_start, by_step}
use Rattle.gc_model.specs.Table.{Table}
use Rattle.gc_model.specs.Reach.{IsReached, AreAll, HasNumber, root_references}
use Rattle.gc_model.specs.Stores.{StoreView}
use Rattle.gc_model.specs.Holds.{Placing, Holds}
use Rattle.gc_model.proofs.OwnedRoots.{trimmed_held}
use Rattle.gc_heap.specs.Content.{IsHeap}
use Rattle.gc_heap.specs.Collection.{Start, AreReached, has_host}
use Rattle.gc_heap.specs.Collection as heap
use Rattle.gc_heap.specs.References.{references}
use Rattle.gc_heap.proofs.AgainLemmas.{kept_held}
use Rattle.gc_owner.specs.RootColumns.{roots_of, without_unheld}
use Rattle.gc_owner.specs.Owners.{OwnerView, CanBegin, Trims, Collects, start_of}
use Rattle.gc_model.specs.Shown.{shown}
use Rattle.gc_model.proofs.AccountLemmas.{trimmed_table}
use Rattle.gc_model.proofs.RootsShown.{SlotsInFrames, AllHeld}
use Rattle.gc_model.proofs.CollectedHolds.{position_kept}
use Rattle.gc_model.proofs.CollectedKept.{reached_placed, reached_position}
use Rattle.gc_model.proofs.CollectedLists.{get_contains, contains_map, contains_get, map_get}
use Rattle.gc_model.proofs.HeldEntries.{all_others}
use Rattle.gc_model.proofs.HeldHosts.{few_objects, sum-same}
use Rattle.gc_model.proofs.HeldNumber.{position_of, placed_of, positions, are_placed, length-positions}
use Rattle.gc_model.proofs.HeldPaths.{is_reached, is_reached-true, true-is_reached}
use Rattle.gc_model.proofs.HeldSums.{sum_part, passing, passes, distinct_passing, no_other}

module _ {D : Type 0} (layouts : Layouts) (s : StoreView D) (t : Table D) (place : Placing) (holds : Holds layouts s t place) where
  -- the positions that the roots reach, in the order of their places
  abbrev pub reached : List ℕ
  reached = filter (is_reached t.objects (root_references t)) (positions layouts t place s.heap holds.objects)

  pub reached_are : AreAll (IsReached t) reached
  reached_are =
      let placed = are_placed layouts t place s.heap holds.objects in
      record {
        distinct = distinct_passing (is_reached t.objects (root_references t)) (positions layouts t place s.heap holds.objects) placed.distinct;
        all = λ p. (
          λ c. is_reached-true t.objects (root_references t) p (passing (is_reached t.objects (root_references t)) (positions layouts t place s.heap holds.objects) p c).1,
          λ r. passes (is_reached t.objects (root_references t)) (positions layouts t place s.heap holds.objects) p ((placed.all p).1 (reached_placed layouts s t place holds p r))
              (true-is_reached t.objects (root_references t) p r),
        );
      }

  -- The roots of a table reach some number of positions.
  pub reached_number : HasNumber (IsReached t) (length reached)
  reached_number = (reached, (reached_are, refl))

  -- It is smaller than the heap has bytes.
  pub few_reached : IsHeap layouts s.heap → (n : ℕ) → HasNumber (IsReached t) n → n < 2 ^ 32
  few_reached heap n (xs, (all, n_is)) =
      let placed = are_placed layouts t place s.heap holds.objects in
      let fewer = sum_part (λ x. 1) xs (positions layouts t place s.heap holds.objects) all.distinct (λ p c. (placed.all p).1 (reached_placed layouts s t place holds p ((all.all p).0 c))) in
      let ones = sum-same 1 xs in
      let ones' = sum-same 1 (positions layouts t place s.heap holds.objects) in
      let objects = length-positions layouts t place s.heap holds.objects in
      let few = few_objects layouts s.heap heap in
      let bound = heap.bound in
      omega arith

-- images of different numbers, each once
distinct_map : (f : ℕ → ℕ) (xs : List ℕ) → ((x y : ℕ) → Contains xs x → Contains xs y → f x ≡ f y → x ≡ y) → IsDistinct nat_eq xs → IsDistinct nat_eq (map f xs)
unfolding IsDistinct
distinct_map f [] injective distinct = tt
distinct_map f (x ∷ xs) injective distinct = (
  all_others (f x) (map f xs) (λ y c same.
      let found = contains_map f xs y c in
      let among = get_contains xs found.index found.element found.there in
      no_other x xs distinct.0 found.element among
      (sym (injective x found.element (get_contains (x ∷ xs) 0 x refl) (Contains-append_right (x ∷ []) xs found.element among) (same ∙ sym found.is)))),
  distinct_map f xs (λ y z c d. injective y z (Contains-append_right (x ∷ []) xs y c) (Contains-append_right (x ∷ []) xs z d)) distinct.1,
)

-- what is reached goes by the objects, the roots and the types alone
reached_again : (layouts : Layouts) (s s' : Start) → s'.heap.content ≡ s.heap.content → s'.roots ≡ s.roots → s'.types ≡ s.types → (word : ℕ) → heap.ReachedPlace layouts s word → heap.ReachedPlace layouts s' word
reached_again layouts s s' content roots types word (by_start named) = by_start (record {
  held = (named.held.0, ap (λ m. get m word) content ∙ named.held.1);
  root = named.root;
  among = subst (λ (rs : List Root). Contains rs named.root) (sym roots) named.among;
  names = named.names;
})
reached_again layouts s s' content roots types word (by_step {y = from} reached named) = by_step (reached_again layouts s s' content roots types from reached) (record {
  held = (named.held.0, ap (λ m. get m word) content ∙ named.held.1);
  object = named.object;
  there = ap (λ m. get m from) content ∙ named.there;
  among = subst (λ (ds : List Declaration). Contains (references layouts ds named.object) word) (sym types) named.among;
})

-- the same of two trims of one owner
reached_trimmed : {D : Type 0} (layouts : Layouts) (v m n : OwnerView D) → Trims layouts v m → Trims layouts v n → (word : ℕ) → heap.ReachedPlace layouts (start_of n) word → heap.ReachedPlace layouts (start_of m) word
reached_trimmed {D} layouts v m n first second =
    reached_again layouts (start_of n) (start_of m) (first.changes.held.content ∙ sym second.changes.held.content)
    (roots_are m first ∙ sym (roots_are n second)) (types_are m first ∙ sym (types_are n second))
  where
    roots_are : (w : OwnerView D) → Trims layouts v w → roots_of w.roots ≡ roots_of (without_unheld v.roots)
    roots_are w trims = ap (λ (x : OwnerView D). roots_of x.roots) trims.changes.rest

    types_are : (w : OwnerView D) → Trims layouts v w → w.types.declarations ≡ v.types.declarations
    types_are w trims = ap (λ (x : OwnerView D). x.types.declarations) trims.changes.rest

-- A position that the roots reach was at a place that the collection reached.
record ReachedAt (place : Placing) (s : Start) (p : ℕ) : Type 0 where
  pub word : ℕ
  pub placed : place p ≡ Some word
  pub reached : heap.ReachedPlace Copying s word

-- an owner whose store holds a table, from which a collection may begin
record Begins {D : Type 0} (s : StoreView D) (t : Table D) (place : Placing) (v : OwnerView D) : Type 0 where
  pub holds : Holds Copying (shown s v) t place
  pub can : CanBegin Copying v
  pub in_frames : SlotsInFrames v.roots
  pub all_held : AllHeld v.roots.owned
  pub is_heap : IsHeap Copying v.heap

module _ {D : Type 0} (s : StoreView D) (t : Table D) (place : Placing) (v : OwnerView D) (b : Begins s t place v) (there : (p : ℕ) → IsReached t p → ReachedAt place (start_of v) p) (places : List ℕ) (are : AreReached Copying (start_of v) places) where
  abbrev position : ℕ → ℕ
  position = position_of Copying t place v.heap b.holds.objects

  placed : (word : ℕ) → Contains places word → place (position word) ≡ Some word
  placed word c =
      let held = kept_held Copying (start_of v) word ((are.reached word).0 c) in
      placed_of Copying t place v.heap b.holds.objects word held.0 held.1

  reached_from : (p : ℕ) → Contains (map position places) p → IsReached t p
  reached_from p c =
      let found = contains_map position places p c in
      let among = get_contains places found.index found.element found.there in
      subst (IsReached t) found.is
      (reached_position Copying s v t place b.holds b.in_frames b.all_held b.can.traced (has_host v.hosts) b.is_heap found.element ((are.reached found.element).0 among) (position found.element) (placed found.element among))

  reached_among : (p : ℕ) → IsReached t p → Contains (map position places) p
  reached_among p reached =
      let at = there p reached in
      let among = (are.reached at.word).1 at.reached in
      let same : position at.word ≡ p = b.holds.objects.injective (position at.word) p at.word (placed at.word among) at.placed in
      let index = contains_get places at.word among in
      subst (Contains (map position places)) same (get_contains (map position places) index.0 (position at.word) (map_get position places index.0 at.word index.1))

  as_many : HasNumber (IsReached t) (length places)
  as_many = (
    map position places,
    (
      record {
        distinct = distinct_map position places (λ x y c d same. let both : Some x ≡ Some y = sym (placed x c) ∙ ap place same ∙ placed y d in grind (arith, both)) are.distinct;
        all = λ p. (reached_from p, reached_among p);
      },
      sym (length-map places position),
    ),
  )

-- A collection of a copying heap that began from the roots that a trim had left reached as many places as the table's
-- roots reach positions.
pub places_number : {D : Type 0} (s : StoreView D) (t : Table D) (place : Placing) (v m w : OwnerView D) → Holds Copying (shown s v) t place → SlotsInFrames v.roots → v.heap.attached ≡ true → Trims Copying v m → Collects Copying v w
    → (places : List ℕ) → AreReached Copying (start_of m) places → HasNumber (IsReached t) (length places)
places_number {D} s t place v m w holds in_frames attached trims collects =
    as_many s t place m (begins m trims) (λ p reached.
    let from = begins collects.trimmed collects.trims in
    let at = position_kept Copying s t place collects.trimmed w (record {
      holds = from.holds;
      can = from.can;
      in_frames = from.in_frames;
      all_held = from.all_held;
      was_heap = from.is_heap;
      attached = collects.trims.changes.held.attached ∙ attached;
      collects = collects.runs;
    }) p reached in
    record { word = at.0; placed = at.1.0; reached = reached_trimmed Copying v m collects.trimmed trims collects.trims at.0 at.1.1 })
  where
    begins : (x : OwnerView D) → Trims Copying v x → Begins s t place x
    begins x is = record {
      holds = trimmed_table Copying s t place v x is holds;
      can = is.can;
      in_frames = subst (λ (y : OwnerView D). SlotsInFrames y.roots) (sym is.changes.rest) in_frames;
      all_held = subst (λ (y : OwnerView D). AllHeld y.roots.owned) (sym is.changes.rest) (trimmed_held v.roots.owned);
      is_heap = is.is_heap;
    }
