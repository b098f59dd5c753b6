-- What writes to held objects leave of the condition of the next collection.
use Rattle.std.proofs.Common.{◌≡◌, ℕ, zero, suc, ◌+◌, ◌<◌, ◌≤◌, ◌^◌, ◌⊎◌, Bool, true, List, [], ◌∷◌, length, Option, Some, None, Contains, refl, sym, ap, ◌∙◌, subst, arith}
use Rattle.std.specs.Int.{w32, to_le_bytes}
use Rattle.std.specs.FinMap.{FinMap, get}
use Rattle.std.specs.Ordering.{nat_cmp}
use Rattle.gc_types.specs.declared.kind.Layouts.{Layouts}
use Rattle.gc_types.specs.Declarations.{Declaration, TypeTable}
use Rattle.gc_roots.specs.Roots.{Root}
use Rattle.gc_memory.specs.Lists.{In, here, there}
use Rattle.gc_view.specs.Heaps.{HeapObject, HeapView, Counts}
use Rattle.gc_heap.specs.Objects.{held_size, writable_offset, HasFields}
use Rattle.gc_heap.specs.Access.{IsReadable, WritesData}
use Rattle.gc_heap.specs.Heap.{IsWritable, with_data, put_object}
use Rattle.gc_heap.specs.References.{reference_offsets, typed_offsets, references, word_in}
use Rattle.gc_heap.specs.Content.{IsHeap, total}
use Rattle.gc_heap.proofs.TotalLemmas.{total-least}
use Rattle.gc_heap.specs.Barriers.{overwritten}
use Rattle.gc_heap.specs.Collection.{Stage, Start, CanCollect, IsWordOf, occurrences, has_host}
use Rattle.gc_heap.proofs.SpacedLemmas.{Spaced-in}
use Rattle.gc_memory.proofs.ListLemmas.{contains_in, in_contains, map_in}
use Rattle.gc_heap.proofs.ReferenceLemmas.{references_spaced}
use Rattle.gc_heap.proofs.AddedLemmas.{start}
use Rattle.gc_heap.proofs.CountLemmas.{occurrences-append, once}
use Rattle.gc_heap.proofs.WrittenLemmas.{FitsData, fits_data, written_shape, writable_from}
use Rattle.gc_heap.proofs.StoredLemmas.{IsSlotOf, IsWrite, can_collect_number, can_collect_stored}
use Rattle.gc_owner.specs.RootColumns.{RootsView, roots_of}
use Rattle.gc_owner.specs.Owners.{OwnerValue, IsReady, InOrder, owner_value, raised, lowered, CanDropWord}
use Rattle.gc_owner.specs.Writes.{IsNumberPlace, IsReferencePlace, WritesBytes, WritesWord}
use Rattle.gc_owner.specs.Tracing.{IsCollectable}
use Rattle.gc_owner.proofs.Begins.{with_memory, memory_heap, traced_put}
use Rattle.gc_heap.proofs.NameLemmas.{counted_is, is_named}
use Rattle.gc_owner.proofs.OwnerLemmas.{heap_kind, ready_at, idle_at, word_at, made_order}
use Rattle.gc_owner.proofs.FollowedOffsets.{followed_offsets, reference_holder}

-- a word as a slot that may hold none
slot_for : ℕ → Option ℕ
slot_for zero = None
slot_for (suc n) = Some (suc n)

slot_of : (word : ℕ) → IsSlotOf (slot_for word) word
unfolding slot_for
slot_of zero = refl
slot_of (suc n) = (refl, omega arith)

-- a barrier by words is that by slots
overwritten_is : (h : HeapView) (old_word new_word : ℕ) → overwritten h (slot_for old_word) (slot_for new_word) ≡ lowered (raised h new_word) old_word
unfolding slot_for
overwritten_is h zero zero = refl
overwritten_is h zero (suc n) = refl
overwritten_is h (suc m) zero = refl
overwritten_is h (suc m) (suc n) = refl

-- a barrier changes counts alone
pub replaced_content : (h : HeapView) (old_word new_word : ℕ) → (lowered (raised h new_word) old_word).content ≡ h.content
replaced_content h zero zero = refl
replaced_content h zero (suc n) = refl
replaced_content h (suc m) zero = refl
replaced_content h (suc m) (suc n) = refl

replaced_memory : (h : HeapView) (old_word new_word place : ℕ) (o : HeapObject) → put_object (lowered (raised (with_memory h) new_word) old_word) place o ≡ with_memory (put_object (lowered (raised h new_word) old_word) place o)
replaced_memory h zero zero place o = refl
replaced_memory h zero (suc n) place o = refl
replaced_memory h (suc m) zero place o = refl
replaced_memory h (suc m) (suc n) place o = refl

pub replaced_put : (h : HeapView) (old_word new_word place : ℕ) (o : HeapObject) → put_object (lowered (raised h new_word) old_word) place o ≡ record (put_object h place o) { counts = (lowered (raised h new_word) old_word).counts }
replaced_put h zero zero place o = refl
replaced_put h zero (suc n) place o = refl
replaced_put h (suc m) zero place o = refl
replaced_put h (suc m) (suc n) place o = refl

occurs : (word : ℕ) (words : List ℕ) → In word words → 0 < occurrences word words
occurs word [] i = elim i [ ]
occurs word (_ ∷ words) here = let both = occurrences-append word (word ∷ []) words in let one = once word in omega arith
occurs word (w ∷ words) (there i) = let both = occurrences-append word (w ∷ []) words in let later = occurs word words i in omega arith

module _ (layouts : Layouts) (types : List Declaration) (h : HeapView) (roots : List Root) (hosts : ℕ → Bool) (place : ℕ) (o : HeapObject) (heap : IsHeap layouts h) (can : IsCollectable layouts types h roots hosts)
    (held : get h.content place ≡ Some o) where
  is_write : (offset : ℕ) (ws : List ℕ) → FitsData layouts o offset ws → IsWrite layouts (with_memory h) place o offset ws
  is_write offset ws fits = record { heap = memory_heap layouts h heap; held = held; fits = fits }

  -- bytes were written where no reference lies
  pub number_kept : (offset : ℕ) (ws : List ℕ) → HasFields o.kind → writable_offset layouts o.kind ≤ offset → offset + length ws ≤ held_size layouts o
      → ((x : ℕ) → Contains (typed_offsets layouts types o o.kind) x → (x + 4 ≤ offset) ⊎ (offset + length ws ≤ x)) → IsCollectable layouts types (put_object h place (with_data layouts o offset ws)) roots hosts
  number_kept offset ws fields from to apart =
      let fits = fits_data layouts o offset ws fields from to in
      let same = followed_offsets layouts types o fields (can.traced place o held) in
      record {
        traced = traced_put layouts types h place o (with_data layouts o offset ws) held (written_shape layouts o offset ws fits) can.traced;
        collects = can_collect_number layouts types (with_memory h) place o offset ws roots hosts (is_write offset ws fits)
            (λ x i. apart x (in_contains (typed_offsets layouts types o o.kind) x (same.there x (contains_in (reference_offsets layouts types o) x i)))) can.collects;
      }

  module _ (offset : ℕ) (typed : Contains (typed_offsets layouts types o o.kind) offset) where
    fields : HasFields o.kind
    fields = reference_holder layouts types o o.kind offset typed

    followed : In offset (reference_offsets layouts types o)
    followed = (followed_offsets layouts types o fields (can.traced place o held)).back offset (contains_in (typed_offsets layouts types o o.kind) offset typed)

    within : (writable_offset layouts o.kind ≤ offset) × (offset + 4 ≤ held_size layouts o)
    within = Spaced-in _ _ (reference_offsets layouts types o) offset (references_spaced layouts types o (heap.objects place o held).spare (can.collects.typed place o held)) followed

    pub reference_readable : IsReadable layouts h place offset 4
    reference_readable = record { object = o; held = held; has_fields = fields; from = omega (arith, writable_from layouts o.kind fields, within.0); to = within.1 }

    pub reference_writable : (old_word new_word : ℕ) → IsWritable layouts (lowered (raised h new_word) old_word) place offset 4
    reference_writable old_word new_word = record { object = o; held = ap (λ m. get m place) (replaced_content h old_word new_word) ∙ held; from = within.0; to = within.1 }

    -- the word that lies there is one of the heap, which a barrier may give up
    among_references : In (word_in layouts o offset) (references layouts types o)
    among_references = map_in (word_in layouts o) (reference_offsets layouts types o) offset followed

    word_droppable : (word : ℕ) → word ≡ word_in layouts o offset → CanDropWord h word
    word_droppable zero is = tt
    word_droppable (suc n) is =
        let word : ℕ = word_in layouts o offset in
        let among : In (suc n) (references layouts types o) = subst (λ w. In w (references layouts types o)) (sym is) among_references in
        let is_word : IsWordOf h (suc n) = can.collects.fields place o (suc n) held (in_contains (references layouts types o) (suc n) among) in
        record {
          named = is_named h (suc n) is_word (omega arith);
          counted = λ k counted.
              let names = counted_is layouts types (with_memory h) roots (memory_heap layouts h heap) can.collects.counts (suc n) k counted in
              let count : HeapObject → ℕ = λ x. occurrences (suc n) (references layouts types x) in
              let least : count o ≤ total count h.content = total-least count h.content place o held in
              let one = occurs (suc n) (references layouts types o) among in
              omega arith;
        }

    pub reference_droppable : CanDropWord h (word_in layouts o offset)
    reference_droppable = word_droppable (word_in layouts o offset) refl

    -- a reference was written, after its barrier
    pub reference_kept : (word : ℕ) → word < 2 ^ 32 → IsWordOf h word
        → IsCollectable layouts types (put_object (lowered (raised h word) (word_in layouts o offset)) place (with_data layouts o offset (to_le_bytes w32 word))) roots hosts
    reference_kept word small is =
        let ws : List ℕ = to_le_bytes w32 word in
        let was : ℕ = word_in layouts o offset in
        let fits : FitsData layouts o offset ws = fits_data layouts o offset ws fields within.0 within.1 in
        let content = replaced_content h was word in
        record {
          traced = traced_put layouts types (lowered (raised h word) was) place o (with_data layouts o offset ws) (ap (λ m. get m place) content ∙ held) (written_shape layouts o offset ws fits)
              (λ q x found. can.traced q x (ap (λ m. get m q) (sym content) ∙ found));
          collects = subst (λ v. CanCollect layouts (start v roots types hosts))
              (ap (λ (v : HeapView). put_object v place (with_data layouts o offset ws)) (overwritten_is (with_memory h) was word) ∙ replaced_memory h was word place (with_data layouts o offset ws))
              (can_collect_stored layouts types (with_memory h) place o offset word (slot_for was) (slot_for word) roots hosts (is_write offset ws fits) small
              (in_contains (reference_offsets layouts types o) offset followed) is (slot_of was) (slot_of word) can.collects);
        }

-- The same of an owner by its parts
module _ {H S D : Type 0} (layouts : Layouts) (seen : H → HeapView) (sound : H → Type 0) (under_way : Start → ℕ → Bool → Stage H S → Type 0)
    (heap : H) (types : TypeTable) (hosts : FinMap nat_cmp D) (roots : RootsView) (last : ℕ) (state : Option S) (is_heap : (h : H) → sound h → IsHeap layouts (seen h))
    (now : OwnerValue H S D) (order : InOrder (heap_kind layouts seen sound under_way) (owner_value (seen heap) types hosts roots last heap state) state)
    (is : owner_value (seen heap) types hosts roots last heap state ≡ now) (idle : now.seen.idle ≡ true) where
  ready : IsReady layouts (sound heap) (owner_value (seen heap) types hosts roots last heap state).seen
  ready = ready_at layouts seen sound under_way heap types hosts roots last state now order is idle

  -- the object that is written
  held_at : (place : ℕ) (o : HeapObject) → get now.seen.heap.content place ≡ Some o → get (seen heap).content place ≡ Some o
  held_at place o held = ap (λ (v : OwnerValue H S D). get v.seen.heap.content place) is ∙ held

  stays : (heap' : H) (place : ℕ) (o : HeapObject) (c : Counts) → seen heap' ≡ record (put_object (seen heap) place o) { counts = c } → (seen heap').attached ≡ (seen heap).attached
  stays heap' place o c written = ap (λ (h : HeapView). h.attached) written

  pub number_writable : (place offset count : ℕ) → IsNumberPlace layouts now.seen place offset count → IsWritable layouts (seen heap) place offset count
  number_writable place offset count p = record { object = p.object; held = held_at place p.object p.held; from = p.from; to = p.to }

  pub number_order : (heap' : H) (place offset : ℕ) (bytes : List ℕ) → IsNumberPlace layouts now.seen place offset (length bytes) → sound heap' → WritesData layouts (seen heap) (seen heap') place offset bytes
      → InOrder (heap_kind layouts seen sound under_way) (owner_value (seen heap') types hosts roots last heap' state) state
  number_order heap' place offset bytes p is_sound written =
      let held : get (seen heap).content place ≡ Some p.object = held_at place p.object p.held in
      let after : seen heap' ≡ put_object (seen heap) place (with_data layouts p.object offset bytes) = written p.object held in
      let apart : (x : ℕ) → Contains (typed_offsets layouts types.declarations p.object p.object.kind) x → (x + 4 ≤ offset) ⊎ (offset + length bytes ≤ x) =
      λ x i. p.apart x (subst (λ (v : OwnerValue H S D). Contains (typed_offsets layouts v.seen.types.declarations p.object p.object.kind) x) is i) in
      made_order layouts seen sound under_way heap types hosts roots last state heap' (idle_at layouts seen sound under_way heap types hosts roots last state now is idle) ready is_sound
      (subst (λ h. IsCollectable layouts types.declarations h (roots_of roots) (has_host hosts)) (sym after)
      (number_kept layouts types.declarations (seen heap) (roots_of roots) (has_host hosts) place p.object (is_heap heap ready.sound) ready.can held offset bytes p.fields p.from p.to apart))
      (stays heap' place (with_data layouts p.object offset bytes) (seen heap).counts after)

  pub number_seen : (heap' : H) (place offset : ℕ) (bytes : List ℕ) → WritesData layouts (seen heap) (seen heap') place offset bytes
      → WritesBytes layouts now.seen (owner_value (seen heap') types hosts roots last heap' state).seen place offset bytes
  number_seen heap' place offset bytes written o held =
      ap (λ (h : HeapView). record (owner_value (seen heap) types hosts roots last heap state).seen { heap = h }) (written o (held_at place o held))
      ∙ ap (λ (v : OwnerValue H S D). record v.seen { heap = put_object v.seen.heap place (with_data layouts o offset bytes) }) is

  module _ (place offset : ℕ) (p : IsReferencePlace layouts now.seen place offset) where
    pub place_held : get (seen heap).content place ≡ Some p.object
    place_held = held_at place p.object p.held

    typed_at : Contains (typed_offsets layouts types.declarations p.object p.object.kind) offset
    typed_at = subst (λ (v : OwnerValue H S D). Contains (typed_offsets layouts v.seen.types.declarations p.object p.object.kind) offset) (sym is) p.among

    pub place_readable : IsReadable layouts (seen heap) place offset 4
    place_readable = reference_readable layouts types.declarations (seen heap) (roots_of roots) (has_host hosts) place p.object (is_heap heap ready.sound) ready.can place_held offset typed_at

    pub place_droppable : (word : ℕ) → word ≡ word_in layouts p.object offset → CanDropWord (seen heap) word
    place_droppable word was =
        subst (CanDropWord (seen heap)) (sym was) (reference_droppable layouts types.declarations (seen heap) (roots_of roots) (has_host hosts) place p.object (is_heap heap ready.sound) ready.can place_held offset typed_at)

    -- after the barrier
    pub place_writable : (h : HeapView) (old_word new_word : ℕ) → h ≡ lowered (raised (seen heap) new_word) old_word → IsWritable layouts h place offset 4
    place_writable h old_word new_word e =
        subst (λ v. IsWritable layouts v place offset 4) (sym e)
        (reference_writable layouts types.declarations (seen heap) (roots_of roots) (has_host hosts) place p.object (is_heap heap ready.sound) ready.can place_held offset typed_at old_word new_word)

    pub reference_order : (h : HeapView) (heap' : H) (old_word word : ℕ) → old_word ≡ word_in layouts p.object offset → h ≡ lowered (raised (seen heap) word) old_word → word < 2 ^ 32 → IsWordOf now.seen.heap word → sound heap'
        → WritesData layouts h (seen heap') place offset (to_le_bytes w32 word) → InOrder (heap_kind layouts seen sound under_way) (owner_value (seen heap') types hosts roots last heap' state) state
    reference_order h heap' old_word word was e small names is_sound written =
        let o' : HeapObject = with_data layouts p.object offset (to_le_bytes w32 word) in
        let held : get h.content place ≡ Some p.object = ap (λ (v : HeapView). get v.content place) e ∙ ap (λ m. get m place) (replaced_content (seen heap) old_word word) ∙ place_held in
        let after : seen heap' ≡ put_object (lowered (raised (seen heap) word) old_word) place o' = written p.object held ∙ ap (λ (v : HeapView). put_object v place o') e in
        made_order layouts seen sound under_way heap types hosts roots last state heap' (idle_at layouts seen sound under_way heap types hosts roots last state now is idle) ready is_sound
        (subst (λ v. IsCollectable layouts types.declarations v (roots_of roots) (has_host hosts)) (sym (after ∙ ap (λ n. put_object (lowered (raised (seen heap) word) n) place o') was))
        (reference_kept layouts types.declarations (seen heap) (roots_of roots) (has_host hosts) place p.object (is_heap heap ready.sound) ready.can place_held offset typed_at word small
        (word_at layouts seen sound under_way heap types hosts roots last state now is word names)))
        (stays heap' place o' (lowered (raised (seen heap) word) old_word).counts (after ∙ replaced_put (seen heap) old_word word place o'))

  pub reference_seen : (h : HeapView) (heap' : H) (place offset old_word word : ℕ) → h ≡ lowered (raised (seen heap) word) old_word → WritesData layouts h (seen heap') place offset (to_le_bytes w32 word)
      → WritesWord layouts now.seen (owner_value (seen heap') types hosts roots last heap' state).seen place offset word
  reference_seen h heap' place offset old_word word e written o held =
      let o' : HeapObject = with_data layouts o offset (to_le_bytes w32 word) in
      let then : get h.content place ≡ Some o = ap (λ (v : HeapView). get v.content place) e ∙ ap (λ m. get m place) (replaced_content (seen heap) old_word word) ∙ held_at place o held in
      let after : seen heap' ≡ record (put_object (seen heap) place o') { counts = (lowered (raised (seen heap) word) old_word).counts } =
      written o then ∙ ap (λ (v : HeapView). put_object v place o') e ∙ replaced_put (seen heap) old_word word place o' in
      let counts : (lowered (raised (seen heap) word) old_word).counts ≡ (seen heap').counts = ap (λ (v : HeapView). v.counts) (sym after) in
      ap (λ (v : HeapView). record (owner_value (seen heap) types hosts roots last heap state).seen { heap = v }) (after ∙ ap (λ (c : Counts). record (put_object (seen heap) place o') { counts = c }) counts)
      ∙ ap (λ (v : OwnerValue H S D). record v.seen { heap = record (put_object v.seen.heap place o') { counts = (seen heap').counts } }) is
