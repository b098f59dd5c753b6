-- A collection that is finished in bytes is complete in objects.
use Rattle.std.proofs.Common.{◌≡◌, ℕ, suc, ◌+◌, ◌-◌, ◌*◌, ◌%◌, ◌<◌, ◌≤◌, Bool, false, not, nat_eq, List, [], ◌∷◌, length, map, sum, refl, sym, ap, ap₂, subst, ◌∙◌, arith}
use Rattle.std.specs.Prelude.{is_some}
use Rattle.std.specs.List.{IsDistinct, AllByRecursion, sum_by}
use Rattle.std.proofs.lemmas.List.Sums.{sum-map, sum_by-cons}
use Rattle.std.specs.FinMap as finite
use Rattle.std.specs.Ordering.{nat_cmp}
use Rattle.std.proofs.lemmas.Bool.{ne_eqb}
use Rattle.gc_types.specs.declared.kind.Layouts.TheVariants.{Copying}
use Rattle.gc_roots.specs.Roots.{Root, root_at}
use Rattle.gc_memory.specs.Words.{word}
use Rattle.gc_memory.specs.Lists.{In, here, there, sum_over, occ}
use Rattle.gc_memory.specs.Chains.{Chain}
use Rattle.gc_memory.proofs.ChainLemmas.{LiesInChain, Chain-lies, Chain-places}
use Rattle.gc_memory.proofs.ListLemmas.{occ-same, In-occ, contains_in, in_contains}
use Rattle.gc_view.specs.Pages.{page, max_pages}
use Rattle.gc_view.specs.Heaps.{HeapObject, HeapView}
use Rattle.gc_heap.specs.Objects.{host_id}
use Rattle.gc_heap.specs.Collection.{Start, has_host, IsPartOf, moved, moved_root, IsMoved, Collected, AreReached, IsIncrements, IsStepCount, reference_count, present_words}
use Rattle.gc_heap.specs.Collection as content
use Rattle.gc_copying.specs.declared.space.Space.{Space}
use Rattle.gc_copying.specs.Spaces.{half_first}
use Rattle.gc_copying.specs.Layout.{copying_first_place, copying_size_at, places_in, copying_object_at}
use Rattle.gc_copying.specs.Content.{CopyingLinked, last, link, space_view, IsCopyingWhole, IsSpace}
use Rattle.gc_copying.specs.ObjectLaws.{held_only}
use Rattle.gc_copying.proofs.ObjectLemmas.{held_in}
use Rattle.gc_copying.specs.HeapLaws.{half_lies}
use Rattle.gc_copying.specs.CopyWords.{copying_host_word, IsCopyingExternal}
use Rattle.gc_copying.specs.CopyStart.{From, refs, ListsExternals}
use Rattle.gc_copying.specs.CopyStart as start
use Rattle.gc_copying.specs.CopyEnd.{IsRenamed, IsRenamedRoot, HostsSwept, ListsReached, IsFinished}
use Rattle.gc_copying.specs.CopyBetween.{start_in_bytes, CopyingBeginsIn}
use Rattle.gc_copying.proofs.SpaceLemmas.{space_of}
use Rattle.gc_copying.proofs.ReadLemmas.{HeldAt, host_of}
use Rattle.gc_copying.proofs.StartLemmas.{lies_so, held, found, refs_so, first_same, external_bits_are, kind_by_bits, reached_so, reached_in, reached_back}
use Rattle.gc_copying.proofs.MovedLemmas.{same_size, moved_whole, is_moved}

linked_back : (m : List ℕ) (head : ℕ) (ps : List ℕ) → start.NextExternals m head ps → CopyingLinked m head ps
linked_back m _ [] start.none = last
linked_back m _ (p ∷ ps) (start.link some l) = link some (linked_back m (word m (p + 20)) ps l)

root_by_fields : (to : ℕ → ℕ) (old new : Root) → IsRenamedRoot to old new → new ≡ moved_root to old
root_by_fields to old new r = λ i. record { word = r.word i; on_stack = r.on_stack i; place = r.place i }

-- the roots are the old ones, with their words moved
roots_map : (to : ℕ → ℕ) (rs roots : List Root) → length roots ≡ length rs → ((i : ℕ) → i < length rs → IsRenamedRoot to (root_at rs i) (root_at roots i)) → roots ≡ map (moved_root to) rs
roots_map to [] [] len each = refl
roots_map to [] (x ∷ roots) len each = absurd (omega arith)
roots_map to (r ∷ rs) [] len each = absurd (omega arith)
roots_map to (r ∷ rs) (x ∷ roots) len each =
    ap₂ (λ (y : Root) (ys : List Root). y ∷ ys) (root_by_fields to r x (each 0 (omega arith)))
    (roots_map to rs roots (omega arith) (λ i h. each (suc i) (omega arith)))

all_other : (x : ℕ) (ys : List ℕ) → (In x ys → ⊥) → AllByRecursion (λ y. nat_eq x y ≡ false) ys
all_other x [] none = tt
all_other x (y ∷ ys) none = (ne_eqb x y (λ e. none (subst (λ z. In x (z ∷ ys)) e here)), all_other x ys (λ i. none (there i)))

-- numbers that stand once in a list are distinct
distinct_so : (xs : List ℕ) → ((p : ℕ) → occ p xs ≤ 1) → IsDistinct nat_eq xs
unfolding IsDistinct
distinct_so [] once = tt
distinct_so (x ∷ xs) once = (
  all_other x xs (λ i. let a = once x in let c = In-occ x xs i in omega (arith, occ-same x xs)),
  distinct_so xs (λ p. let a = once p in omega arith),
)

module _ (s : Start) (m : List ℕ) (upper : Bool) (bump head objects scopes : ℕ) (b : CopyingBeginsIn s m upper bump head objects scopes) where
  abbrev pub from : From
  from = start_in_bytes s m upper bump head

  -- what is reached, as lists
  are_reached : (places : List ℕ) → ListsReached from places → AreReached Copying s places
  are_reached places l = record {
    distinct = distinct_so places l.once;
    reached = λ p. (
      λ c. reached_back s m upper bump head objects scopes b p (l.only p (contains_in places p c)),
      λ r. in_contains places p (l.all p (reached_so s m upper bump head objects scopes b p r)),
    );
  }

  -- what a list of the places reached is in bytes
  pub lists_reached : (places : List ℕ) → AreReached Copying s places → ((p : ℕ) → occ p places ≤ 1) → ListsReached from places
  lists_reached places l once = record {
    once = once;
    only = λ p i. reached_so s m upper bump head objects scopes b p ((l.reached p).0 (in_contains places p i));
    all = λ p r. contains_in places p ((l.reached p).1 (reached_back s m upper bump head objects scopes b p r));
  }

  count_of : (p : ℕ) → In p (places_in m upper bump) → reference_count Copying s.types (finite.get s.heap.content p) ≡ length (refs from p)
  count_of p i = ap (reference_count Copying s.types) (held s m upper bump head objects scopes b p i) ∙ ap (λ os. length os) (refs_so s m upper bump head objects scopes b p i)

  abbrev count : ℕ → ℕ
  count place = reference_count Copying s.types (finite.get s.heap.content place)

  counts_by : (places : List ℕ) → ((p : ℕ) → In p places → In p (places_in m upper bump)) → sum_by count places ≡ sum_over (λ p. length (refs from p)) places
  counts_by [] inside = refl
  counts_by (p ∷ ps) inside = sum_by-cons count p ps ∙ ap₂ (λ x y. x + y) (count_of p (inside p here)) (counts_by ps (λ q i. inside q (there i)))

  counts_of : (places : List ℕ) → ((p : ℕ) → In p places → In p (places_in m upper bump))
      → sum (map (λ (place : ℕ). reference_count Copying s.types (finite.get s.heap.content place)) places) ≡ sum_over (λ p. length (refs from p)) places
  counts_of places inside = sum-map count places ∙ counts_by places inside

  -- the number of an external object's host value
  host_so : (p : ℕ) (o : HeapObject) → content.IsExternal s.heap p o → (In p (places_in m upper bump) × IsCopyingExternal m p) × (copying_host_word m p - 1 ≡ host_id o)
  host_so p o e =
      let f = found s m upper bump head objects scopes b p o e.held in
      let at : HeldAt m upper bump p o = record { among = f.among; is = f.is; whole = b.space.whole p f.among; lies = lies_so s m upper bump head objects scopes b p f.among } in
      let x = host_of m upper bump p o at e.kind in
      ((f.among, external_bits_are m p (b.space.whole p f.among).kind x.kind), ap (λ (n : ℕ). n - 1) x.word_is)

  external_so : (p : ℕ) → In p (places_in m upper bump) → IsCopyingExternal m p → content.IsExternal s.heap p (copying_object_at m p)
  external_so p i e = record { held = held s m upper bump head objects scopes b p i; kind = kind_by_bits m p e }

  module _ (h : Space) (roots : List Root) (k counted : ℕ) (f : IsFinished from s.roots roots h k counted) where
    lies_new : (q : ℕ) → In q f.news → LiesInChain (copying_size_at h.memory) (half_first (length h.memory) h.upper) h.bump q
    lies_new q i = Chain-lies (copying_size_at h.memory) (half_first (length h.memory) h.upper) h.bump q f.news f.chain i

    pages_so : length h.memory % page ≡ 0
    pages_so = subst (λ n. n % page ≡ 0) (sym f.same_length) b.space.pages

    renamed : (p : ℕ) (r : start.CopyingReached from p) → In (f.to p) f.news × IsRenamed from h.memory f.to p (f.to p)
    renamed p r = f.kept p r

    room_for : (p : ℕ) (r : start.CopyingReached from p) → f.to p + copying_size_at m p ≤ length h.memory
    room_for p r =
        let x = renamed p r in
        let i = reached_in s m upper bump head objects scopes b p r in
        let l = lies_new (f.to p) x.0 in
        let size = same_size s m upper bump head objects scopes b h.memory f.to p (f.to p) i x.1 in
        let lies = half_lies (length h.memory) h.upper in
        let room = f.room in
        omega (arith, l.to, lies.to)

    whole_at : (p : ℕ) (r : start.CopyingReached from p) → IsCopyingWhole h.memory (f.to p)
    whole_at p r =
        moved_whole s m upper bump head objects scopes b h.memory f.to p (f.to p) (reached_in s m upper bump head objects scopes b p r) (renamed p r).1 (room_for p r)

    whole_new : (q : ℕ) → In q f.news → IsCopyingWhole h.memory q
    whole_new q i = let x = f.only q i in subst (IsCopyingWhole h.memory) x.1.1 (whole_at x.0 x.1.0)

    chain_new : Chain (copying_size_at h.memory) (copying_first_place (length h.memory) h.upper) h.bump f.news
    chain_new = subst (λ a. Chain (copying_size_at h.memory) a h.bump f.news) (sym (first_same (length h.memory) h.upper pages_so)) f.chain

    -- The space is sound.
    pub space_new : IsSpace h.memory h.upper h.bump h.externals h.objects
    space_new =
        space_of h.memory h.upper h.bump h.externals h.objects f.news pages_so (subst (λ n. n ≤ page * max_pages) (sym f.same_length) b.space.bound)
        chain_new f.room whole_new (sym f.counted_objects) (record {
          list = f.externals.listed;
          linked = linked_back h.memory h.externals f.externals.listed f.externals.linked;
          only = λ p i. let x = f.externals.only p i in (x.0, kind_by_bits h.memory p x.1);
          each = λ p i e. f.externals.all p i (external_bits_are h.memory p (whole_new p i).kind e);
          once = f.externals.once;
        })

    places_new : places_in h.memory h.upper h.bump ≡ f.news
    places_new = Chain-places (copying_size_at h.memory) (copying_first_place (length h.memory) h.upper) h.bump f.news chain_new

    -- so many increments
    pub increments_so : IsIncrements Copying s k
    increments_so = (f.reached, (are_reached f.reached f.lists_reached, f.increments))

    -- so many steps
    pub steps_so : IsStepCount Copying s counted
    steps_so =
        let sums = counts_of f.reached (λ p i. reached_in s m upper bump head objects scopes b p (f.lists_reached.only p i)) in
        (f.reached, (are_reached f.reached f.lists_reached, f.steps ∙ ap (λ n. length f.reached + n + length (present_words s.roots)) (sym sums)))

    -- The collection is complete.
    pub collected_so : (D : Type 0) (old new : finite.FinMap nat_cmp D) → HostsSwept from D old new → has_host old ≡ s.hosts → h.upper ≡ not upper
        → Collected Copying s (space_view h.memory h.upper h.bump scopes) roots (has_host new)
    collected_so D old new swept hosts_are other = record {
      to = f.to;
      injective = λ p q kp kq e. f.injective p q (so p kp) (so q kq) e;
      kept = λ p o kp got.
          let x = found s m upper bump head objects scopes b p o got in
          let r = so p kp in
          let y = renamed p r in
          let among : In (f.to p) (places_in h.memory h.upper h.bump) = subst (In (f.to p)) (sym places_new) y.0 in (
            copying_object_at h.memory (f.to p),
            (
              held_in h.memory (f.to p) (places_in h.memory h.upper h.bump) among,
              subst (λ z. IsMoved Copying s.types f.to z (copying_object_at h.memory (f.to p))) (sym x.is)
                  (is_moved s m upper bump head objects scopes b h.memory f.to p (f.to p) x.among y.1 (room_for p r)),
            ),
          );
      only = λ q is.
          let among = (held_only h.memory q is.0 (places_in h.memory h.upper h.bump) is.1).among in
          let x = f.only q (subst (In q) places_new among) in
          (x.0, (back x.0 x.1.0, x.1.1));
      roots_moved = roots_map f.to s.roots roots f.same_roots f.roots_renamed;
      hosts_lost = λ p o e none.
          let x = host_so p o e in
          ap (λ (id : ℕ). has_host new id) (sym x.1) ∙ ap is_some (swept.lost p x.0.0 x.0.1 (λ r. none (back p r)));
      hosts_kept = λ id all.
          ap is_some (swept.kept id (λ p i e w.
          let ext = external_so p i e in
          let x = host_so p (copying_object_at m p) ext in
          so p (all p (copying_object_at m p) ext (let y = x.1 in omega arith))))
          ∙ ap (λ (g : ℕ → Bool). g id) hosts_are;
      attached = refl;
      capacity = f.same_length ∙ ap (λ (v : HeapView). v.capacity) b.heap_is;
      scopes = ap (λ (v : HeapView). v.scopes) b.heap_is ∙ b.can.open_scopes;
      by_kind = other ∙ ap (λ (v : HeapView). not v.needs_gc) b.heap_is;
    }
      where
        so : (p : ℕ) → content.ReachedPlace Copying s p → start.CopyingReached from p
        so p r = reached_so s m upper bump head objects scopes b p r

        back : (p : ℕ) → start.CopyingReached from p → content.ReachedPlace Copying s p
        back p r = reached_back s m upper bump head objects scopes b p r
