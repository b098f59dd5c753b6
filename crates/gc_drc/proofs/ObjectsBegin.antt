-- Where a collection may begin in objects, it begins in memory.
use Rattle.std.proofs.Common.{◌≡◌, ℕ, ◌+◌, ◌-◌, ◌≤◌, Bool, List, [], ◌∷◌, length, map, Some, refl, sym, ap, ap₂, subst, ◌∙◌, inl, inr, arith, Contains}
use Rattle.std.proofs.Math.Logic.{◌⊎◌}
use Rattle.std.specs.Ordering.{nat_cmp}
use Rattle.std.specs.FinMap as finite
use Rattle.std.specs.FinSet as finset
use Rattle.gc_types.specs.declared.kind.Layouts.TheVariants.{Counting}
use Rattle.gc_types.specs.declared.kind.VMGcKind.{VMGcKind}
use Rattle.gc_types.specs.declared.kind.VMGcKind.TheVariants.{ArrayRef}
use Rattle.gc_types.specs.declared.layout.TraceInfo.TheVariants as trace
use Rattle.gc_types.specs.Declarations.{Declaration}
use Rattle.gc_types.specs.Layouts.{trace_at}
use Rattle.gc_memory.specs.Words.{word}
use Rattle.gc_memory.specs.Lists.{In, here, there, occ, sum_over}
use Rattle.gc_memory.proofs.ListLemmas.{sum_over-same, contains_in, in_contains}
use Rattle.gc_memory.proofs.WordLemmas.{word-is}
use Rattle.gc_view.specs.Bytes.{u32_at}
use Rattle.gc_view.specs.Heaps.{HeapObject, HeapView, Counts}
use Rattle.gc_view.proofs.ByteLemmas.{u32_at-part}
use Rattle.gc_heap.specs.Objects.{first_offset, array_length}
use Rattle.gc_heap.specs.References.{reference_offsets, references, word_in}
use Rattle.gc_heap.specs.Content.{IsHeld, total}
use Rattle.gc_heap.specs.Collection.{Start, IsWordOf, CanCollect, occurrences, held_words, stack_words, names_of}
use Rattle.gc_heap.specs.Collection as content
use Rattle.gc_free.specs.Space.{places_end}
use Rattle.gc_drc.specs.declared.space.CountedSpace.{CountedSpace}
use Rattle.gc_drc.specs.Layout.{counting_size_at, counting_kind_at, counting_object_at, IsCountingWhole}
use Rattle.gc_drc.specs.View.{View, HoldsBlocks}
use Rattle.gc_drc.specs.Content.{at_places, places_of, counting_seen_in}
use Rattle.gc_drc.specs.PlaceLaws.{get_in, found_in, total-at_places}
use Rattle.gc_drc.specs.PlaceLaws as place
use Rattle.gc_drc.specs.SpaceLaws.{blocks_apart, places_are, lies, apart, held_size-counting}
use Rattle.gc_drc.proofs.CountsSeen.{counts_are}
use Rattle.gc_drc.specs.Graph.{names}
use Rattle.gc_drc.specs.Graph as graph
use Rattle.gc_view.specs.Reach as reach
use Rattle.gc_drc.specs.Unheld as memory
use Rattle.gc_drc.specs.PlainCounting.{IsUnheld, unheld}
use Rattle.gc_drc.specs.CollectMemory.{counting_offsets_at, words_at, info_at, offsets_by_info, Context, IsCountingWord, IsContext}
use Rattle.gc_drc.specs.CollectSpan.{IsContextOf, Begins}
use Rattle.gc_drc.specs.Objects.{context_of, CountingBeginsIn}
use Rattle.gc_drc.proofs.SeenLemmas.{seen_count}
use Rattle.gc_drc.proofs.ObjectsRoots.{occ_is, root_word, held_root, stack_root}
use Rattle.gc_drc.proofs.ObjectsOffsets.{Traced, traced_by, typed_is, offsets_by, offsets_inside, array_by}

-- A WHOLE OBJECT

-- a word of the data of an object
pub data_word : (m : List ℕ) (p o : ℕ) → 28 ≤ o → o + 4 ≤ counting_size_at m p → p + counting_size_at m p ≤ length m → word_in Counting (counting_object_at m p) o ≡ word m (p + o)
data_word m p o from to inside =
    let at : p + 28 + (o - 28) ≡ p + o = omega arith in
    u32_at-part m (p + 28) (counting_size_at m p - 28) (o - 28) (omega arith) (omega arith) ∙ ap (u32_at m) at ∙ sym (word-is m (p + o))

-- equal words at equal offsets
words_same : (f g : ℕ → ℕ) (os : List ℕ) → ((o : ℕ) → In o os → f o ≡ g o) → map f os ≡ map g os
words_same f g [] same = refl
words_same f g (o ∷ os) same = ap₂ (λ (w : ℕ) (ws : List ℕ). w ∷ ws) (same o here) (words_same f g os (λ q i. same q (there i)))

-- An object of the types lies in the memory.
pub record HeldAt (types : List Declaration) (m : List ℕ) (p : ℕ) : Type 0 where
  pub whole : IsCountingWhole m p
  pub least : 28 ≤ counting_size_at m p
  pub inside : p + counting_size_at m p ≤ length m
  pub traced : Traced (counting_kind_at m p) (trace_at Counting types (word m (p + 4))) (counting_size_at m p) (array_length (counting_object_at m p))

module _ (types : List Declaration) (m : List ℕ) (p : ℕ) (h : HeldAt types m p) where
  array_least : counting_kind_at m p ≡ ArrayRef → 32 ≤ counting_size_at m p
  array_least is = least_of (counting_kind_at m p) is h.whole.least
    where
      least_of : (k : VMGcKind) → k ≡ ArrayRef → first_offset Counting k ≤ counting_size_at m p → 32 ≤ counting_size_at m p
      least_of k is least = subst (λ (j : VMGcKind). first_offset Counting j ≤ counting_size_at m p) is least

  array_count : counting_kind_at m p ≡ ArrayRef → array_length (counting_object_at m p) ≡ word m (p + 28)
  array_count is = data_word m p 28 (omega arith) (array_least is) h.inside

  -- its references, by its content and by its words
  pub offsets_are : reference_offsets Counting types (counting_object_at m p) ≡ counting_offsets_at types m p
  offsets_are =
      typed_is types (counting_object_at m p) (counting_kind_at m p)
      ∙ offsets_by (counting_object_at m p) (counting_kind_at m p) (trace_at Counting types (word m (p + 4))) (counting_size_at m p) (word m (p + 28)) h.traced array_count

  pub inside_so : (o : ℕ) → In o (counting_offsets_at types m p) → (28 ≤ o) × (o + 4 ≤ counting_size_at m p)
  inside_so o i =
      let by_content : In o (offsets_by_info (info_at types m p) (array_length (counting_object_at m p))) =
      subst (In o) (sym offsets_are ∙ typed_is types (counting_object_at m p) (counting_kind_at m p) ∙ offsets_by (counting_object_at m p) (counting_kind_at m p) (trace_at Counting types (word m (p + 4))) (counting_size_at m p) (array_length (counting_object_at m p)) h.traced (λ is. refl)) i in
      offsets_inside (counting_kind_at m p) (trace_at Counting types (word m (p + 4))) (counting_size_at m p) (array_length (counting_object_at m p)) h.traced o by_content

  pub words_are : references Counting types (counting_object_at m p) ≡ words_at m p (counting_offsets_at types m p)
  words_are =
      ap (λ (os : List ℕ). map (word_in Counting (counting_object_at m p)) os) offsets_are
      ∙ words_same (word_in Counting (counting_object_at m p)) (λ (o : ℕ). word m (p + o)) (counting_offsets_at types m p) (λ o i. let in_it = inside_so o i in data_word m p o in_it.0 in_it.1 h.inside)

  pub array_room : (elements : Bool) → info_at types m p ≡ Some (trace.Array elements) → 32 ≤ counting_size_at m p
  array_room elements is = array_least (array_by (counting_kind_at m p) (trace_at Counting types (word m (p + 4))) (counting_size_at m p) (array_length (counting_object_at m p)) elements h.traced is)

-- the names that the objects of a view give a place
pub total_names : (types : List Declaration) (words : ℕ → List ℕ) (v : View) (space : CountedSpace) (scopes x : ℕ) → HoldsBlocks v space
    → ((p : ℕ) → In p v.places → references Counting types (counting_object_at space.memory p) ≡ words p)
    → total (λ (o : HeapObject). occurrences x (references Counting types o)) (counting_seen_in scopes space).content ≡ sum_over (λ (p : ℕ). occ x (words p)) v.places
total_names types words v space scopes x h same =
    let f : HeapObject → ℕ = λ (o : HeapObject). occurrences x (references Counting types o) in
    ap (λ (ps : List ℕ). total f (at_places (counting_object_at space.memory) ps)) (places_are v space h)
    ∙ total-at_places f (counting_object_at space.memory) v.sizes 16 (places_end space.free.space.capacity) v.places (blocks_apart v space h)
    ∙ sum_over-same (λ (p : ℕ). occ x (words p)) (λ (p : ℕ). occurrences x (references Counting types (counting_object_at space.memory p))) v.places
    (λ p i. ap (occurrences x) (same p i) ∙ occ_is x (words p))

-- THE START

module _ (s : Start) (v : View) (space : CountedSpace) (scopes : ℕ) (b : CountingBeginsIn s v space scopes) where
  abbrev pub start : Context
  start = context_of s space.memory v.places

  pub held : (p : ℕ) → In p v.places → finite.get s.heap.content p ≡ Some (counting_object_at space.memory p)
  held p i =
      ap (λ (h : HeapView). finite.get h.content p) (sym b.heap_is)
      ∙ get_in (counting_object_at space.memory) p (places_of space.free.space.held) (subst (In p) (sym (places_are v space b.holds)) i)

  pub found : (p : ℕ) (o : HeapObject) → finite.get s.heap.content p ≡ Some o → In p v.places × (o ≡ counting_object_at space.memory p)
  found p o e =
      let f = found_in (counting_object_at space.memory) p o (places_of space.free.space.held) (ap (λ (h : HeapView). finite.get h.content p) b.heap_is ∙ e) in
      (subst (In p) (places_are v space b.holds) f.0, f.1)

  pub is_held : (p : ℕ) → In p v.places → IsHeld s.heap p
  is_held p i = (counting_object_at space.memory p, held p i)

  pub held_place : (p : ℕ) → IsHeld s.heap p → In p v.places
  held_place p h = (found p h.0 h.1).0

  pub held_at : (p : ℕ) → In p v.places → HeldAt s.types space.memory p
  held_at p i =
      let l = lies v space p b.holds i in
      let o = b.holds.objects p i in
      let size = o.size_is in
      let inside : p + counting_size_at space.memory p ≤ length space.memory = (let fits = l.inside in omega arith) in
      record {
        whole = o.whole;
        least = let more = l.least in omega arith;
        inside = inside;
        traced = subst (λ (n : ℕ). Traced (counting_kind_at space.memory p) (trace_at Counting s.types (word space.memory (p + 4))) n (array_length (counting_object_at space.memory p))) (held_size-counting space.memory p o.whole inside)
            (traced_by s.types (counting_object_at space.memory p) (counting_kind_at space.memory p) o.whole.object_kind (b.can.typed p (counting_object_at space.memory p) (held p i)));
      }

  word_is : (w : ℕ) → IsWordOf s.heap w → IsCountingWord start w
  word_is w (inl e) = inl e
  word_is w (inr (inl odd)) = inr (inl odd)
  word_is w (inr (inr h)) = inr (inr (held_place w h))

  pub references_so : (p : ℕ) → In p v.places → references Counting s.types (counting_object_at space.memory p) ≡ start.graph.words p
  references_so p i = words_are s.types space.memory p (held_at p i)

  pub names_so : (p w : ℕ) → In p v.places → In w (start.graph.words p) → Contains (references Counting s.types (counting_object_at space.memory p)) w
  names_so p w i j = in_contains (references Counting s.types (counting_object_at space.memory p)) w (subst (In w) (sym (references_so p i)) j)

  -- A collection may begin in memory.
  pub is_context : IsContext start
  is_context = record {
    small = let bound = b.holds.bound in omega arith;
    lies = λ p i.
        let l = lies v space p b.holds i in
        let h = held_at p i in
        record { aligned = l.aligned; not_null = (let from = l.not_null in omega arith); least = h.least; inside = h.inside };
    kinds = λ p i. (held_at p i).whole.kind;
    apart = λ p q i j before.
        let ends = apart v space p q b.holds i j before in
        let size = (b.holds.objects p i).size_is in
        omega arith;
    words = λ p i. refl;
    offsets = λ p o i j. inside_so s.types space.memory p (held_at p i) o j;
    arrays = λ p elements i is. array_room s.types space.memory p (held_at p i) elements is;
    externals = λ p i is. (held_at p i).whole.external is;
    fields = λ p w i j. word_is w (b.can.fields p (counting_object_at space.memory p) w (held p i) (names_so p w i j));
    roots = λ w i. let r = held_root s.roots w i in word_is w (subst (IsWordOf s.heap) r.1.1 (b.can.roots r.0 r.1.0));
    frames = λ w i. let r = stack_root s.roots w i in word_is w (subst (IsWordOf s.heap) r.1.1 (b.can.roots r.0 r.1.0));
  }

  -- the counts are the names
  count_so : (x : ℕ) → In x v.places → v.counted x ≡ names start.graph v.places x + occ x start.graph.roots
  count_so x i =
      let counted : finite.get s.heap.counts.counted x ≡ Some (v.counted x) = ap (λ (h : HeapView). finite.get h.counts.counted x) (sym b.heap_is) ∙ seen_count v space x b.holds i in
      let fields : total (λ (o : HeapObject). occurrences x (references Counting s.types o)) s.heap.content ≡ names start.graph v.places x =
      ap (λ (h : HeapView). total (λ (o : HeapObject). occurrences x (references Counting s.types o)) h.content) (sym b.heap_is)
      ∙ total_names s.types start.graph.words v space scopes x b.holds references_so in
      b.can.counts.counted x (v.counted x) counted ∙ ap₂ (λ (n k : ℕ). n + k) fields (occ_is x (held_words s.roots))

  -- what a frame slot names is shown
  shown_so : (x : ℕ) → In x v.places → In x start.graph.frames → In x v.shown
  shown_so x i j =
      let shown = b.can.counts.shown x (is_held x i) (in_contains (stack_words s.roots) x j) in
      let same : finset.contains s.heap.counts.shown x ≡ finset.contains (finset.from_list {R = nat_cmp} v.shown) x =
      ap (λ (h : HeapView). finset.contains h.counts.shown x) (sym b.heap_is) ∙ ap (λ (c : Counts). finset.contains c.shown x) (counts_are v space b.holds) in
      place.in_contains x v.shown (sym same ∙ shown)

  -- A collection begins in memory.
  pub begins_so : Begins start v space
  begins_so = record {
    at = record {
      start = is_context;
      holds = b.holds;
      intact = record { same_length = refl; objects = λ p i. record { kind = refl; ty = refl; size = refl; bytes = record { same_length = refl; at = λ j d l u. refl } } };
      from = λ p i. i;
    };
    all_held = refl;
    counts = count_so;
    frames_shown = shown_so;
    unmarked = b.unmarked;
  }

  pub is_of : IsContextOf start s.roots s.types
  is_of = record { roots_are = refl; frames_are = refl; types_are = refl }

  -- a reference of a held object, among its words in memory
  word_so : (p q : ℕ) (o : HeapObject) → finite.get s.heap.content q ≡ Some o → Contains (references Counting s.types o) p → In p (start.graph.words q)
  word_so p q o got c =
      let f = found q o got in
      subst (In p) (references_so q f.0) (contains_in (references Counting s.types (counting_object_at space.memory q)) p (subst (λ (x : HeapObject). Contains (references Counting s.types x) p) f.1 c))

  -- WHAT IS REACHED, IN OBJECTS AND IN MEMORY

  pub reached_in : (p : ℕ) → graph.CountingReached start.graph p → In p v.places
  reached_in p (reach.by_start (i, j)) = i
  reached_in p (reach.by_step r (i, j)) = i

  pub reached_so : (p : ℕ) → content.ReachedPlace Counting s p → graph.CountingReached start.graph p
  reached_so p (reach.by_start named) =
      reach.by_start (held_place p named.held, subst (λ (w : ℕ). In w (held_words s.roots) ⊎ In w (stack_words s.roots)) named.names (root_word s.roots named.root named.among))
  reached_so p (reach.by_step {y = q} r named) =
      reach.by_step (reached_so q r) (held_place p named.held, word_so p q named.object named.there named.among)

  pub reached_back : (p : ℕ) → graph.CountingReached start.graph p → content.ReachedPlace Counting s p
  reached_back p (reach.by_start (i, inl j)) =
      let r = held_root s.roots p j in
      reach.by_start (record { held = is_held p i; root = r.0; among = r.1.0; names = r.1.1 })
  reached_back p (reach.by_start (i, inr j)) =
      let r = stack_root s.roots p j in
      reach.by_start (record { held = is_held p i; root = r.0; among = r.1.0; names = r.1.1 })
  reached_back p (reach.by_step {y = q} r (i, j)) =
      let k = reached_in q r in
      reach.by_step (reached_back q r) (record { held = is_held p i; object = counting_object_at space.memory q; there = held q k; among = names_so q p k j })

  -- WHAT IS UNHELD, IN OBJECTS AND IN MEMORY

  pub unheld_so : (p : ℕ) → IsUnheld s p → memory.Unheld start.graph p
  unheld_so p (unheld h unnamed holders) = memory.unheld (held_place p h)
      (λ j. let r = held_root s.roots p j in unnamed r.0 r.1.0 r.1.1)
      (λ j. let r = stack_root s.roots p j in unnamed r.0 r.1.0 r.1.1)
      (λ q i j. unheld_so q (holders q (counting_object_at space.memory q) (held q i) (names_so q p i j)))

  pub unheld_back : (p : ℕ) → memory.Unheld start.graph p → IsUnheld s p
  unheld_back p (memory.unheld i no_root no_frame holders) = unheld (is_held p i)
      (λ r c e. elim (root_word s.roots r c) [
        | inl j ↦ no_root (subst (λ (w : ℕ). In w (held_words s.roots)) e j)
        | inr j ↦ no_frame (subst (λ (w : ℕ). In w (stack_words s.roots)) e j)
      ])
      (λ q o got c. unheld_back q (holders q (found q o got).0 (word_so p q o got c)))
