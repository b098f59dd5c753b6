-- The blocks of the objects that a heap holds: their bytes by the table are those by the heap.
use Rattle.std.proofs.Common.{◌≡◌, ℕ, zero, suc, ◌+◌, ◌*◌, ◌==◌, List, length, map, sum, Some, refl, sym, ap, ◌∙◌, arith, ne_eqb}
use Rattle.std.specs.List.{sum_by}
use Rattle.std.specs.FinMap.{get, entries}
use Rattle.std.proofs.lemmas.List.Sums.{sum-map}
use Rattle.gc_types.specs.declared.kind.Layouts.{Layouts}
use Rattle.gc_types.specs.declared.kind.Layouts.TheVariants.{Null, Counting, Copying}
use Rattle.gc_types.specs.declared.kind.VMGcKind.{VMGcKind}
use Rattle.gc_types.specs.declared.kind.VMGcKind.TheVariants.{ExternRef, AnyRef, EqRef, StructRef, ArrayRef, ExnRef}
use Rattle.gc_types.specs.Declarations.{Declaration}
use Rattle.gc_types.specs.Layouts.{struct_base, round_up}
use Rattle.gc_model.specs.Table.{Table}
use Rattle.gc_view.specs.Sizes.{stored_size, external_size}
use Rattle.gc_model.specs.Sizes.{object_size}
use Rattle.gc_model.specs.Values.{Object, struct, array, host, exception}
use Rattle.gc_model.specs.Reach.{AreAll, IsHost}
use Rattle.gc_view.specs.Pages.{page}
use Rattle.gc_view.specs.Heaps.{HeapObject}
use Rattle.gc_view.specs.Slots.{shape_size}
use Rattle.gc_model.specs.Stores.{StoreView}
use Rattle.gc_model.specs.Holds.{Placing, Names, naming, Stands, Holds}
use Rattle.gc_model.proofs.HeldObjects.{object_held}
use Rattle.gc_model.proofs.ObjectShapes.{object_size_is}
use Rattle.gc_model.proofs.ObjectStands.{stands_by_shape}
use Rattle.gc_heap.specs.Extents.{HasFields}
use Rattle.gc_heap.specs.Objects.{size_with}
use Rattle.gc_heap.specs.Content.{total, block_size}
use Rattle.gc_model.specs.Collects.{HasPlace}
use Rattle.gc_model.specs.Policy.{block_bytes, block_bytes_at}
use Rattle.gc_model.proofs.CollectedOffsets.{stands_fields}
use Rattle.gc_model.proofs.HeldEntries.{held_entry}
use Rattle.gc_model.proofs.HeldNumber.{position_of, placed_of, positions, are_placed}
use Rattle.gc_model.proofs.HeldSums.{sum_part, same_sums}

-- rounding up twice is rounding up once
pub stored_again : (layouts : Layouts) (n : ℕ) → round_up (stored_size layouts n) 16 ≡ round_up n 16
stored_again Null n = refl
stored_again Counting n = refl
stored_again Copying n = omega arith

-- what has fields begins where the data of structs does
fields_size : (layouts : Layouts) (kind : VMGcKind) (n : ℕ) → HasFields kind → size_with layouts kind n ≡ struct_base layouts + n
fields_size layouts ExternRef n fields = absurd fields
fields_size layouts AnyRef n fields = absurd fields
fields_size layouts EqRef n fields = absurd fields
fields_size layouts StructRef n fields = refl
fields_size layouts ArrayRef n fields = refl
fields_size layouts ExnRef n fields = refl

-- what stands for an object with values takes as many bytes, to the next multiple of 16, as its type and its values say
shape_block : {D : Type 0} (layouts : Layouts) (types : List Declaration) (names : Names) (o : Object D) (h : HeapObject) → ¬ IsHost (Some o) → Stands layouts types names o h → block_bytes layouts types (Some o) ≡ block_size layouts h
shape_block layouts types names o h not_host stands =
    let by = stands_by_shape layouts types names o h not_host stands in
    let size : object_size layouts types o ≡ shape_size layouts by.stands.shape by.stands.count =
    object_size_is layouts types o by.stands.shape by.of_shape ∙ ap (shape_size layouts by.stands.shape) by.stands.counted in
    let block : block_size layouts h ≡ round_up (struct_base layouts + length h.bytes) 16 =
    ap (λ n. round_up n 16) (fields_size layouts h.kind (length h.bytes) (stands_fields layouts types names o h not_host stands)) in
    ap (λ n. round_up n 16) size
    ∙ sym (block ∙ ap (λ n. round_up n 16) by.stands.size ∙ stored_again layouts (shape_size layouts by.stands.shape by.stands.count))

-- and so does an external object
object_block : {D : Type 0} (layouts : Layouts) (types : List Declaration) (names : Names) (o : Object D) (h : HeapObject) → Stands layouts types names o h → block_bytes layouts types (Some o) ≡ block_size layouts h
object_block {D} layouts types names (struct ty values) h stands = shape_block {D = D} layouts types names (struct ty values) h (λ is. is) stands
object_block {D} layouts types names (array ty values) h stands = shape_block {D = D} layouts types names (array ty values) h (λ is. is) stands
object_block {D} layouts types names (host value) h stands =
    sym (ap (λ (k : VMGcKind). round_up (size_with layouts k (length h.bytes)) 16) stands.1.kind ∙ stored_again layouts (external_size layouts))
object_block {D} layouts types names (exception ty tag values) h stands = shape_block {D = D} layouts types names (exception ty tag values) h (λ is. is) stands

-- An object takes as many bytes, to the next multiple of 16, as its type and its values say.
pub held_block : {D : Type 0} (layouts : Layouts) (s : StoreView D) (t : Table D) (place : Placing) → Holds layouts s t place → (p word : ℕ) (h : HeapObject) → place p ≡ Some word → get s.heap.content word ≡ Some h → block_bytes_at layouts t p ≡ block_size layouts h
held_block layouts s t place holds p word h placed got =
    let there = holds.objects.placed p word placed in
    ap (block_bytes layouts t.types) there.in_table
    ∙ object_block layouts t.types (naming place s.ids) there.entry h (object_held layouts s t place holds p word there.entry h placed got there.in_table)

-- sums over two lists that have the same positions, each once
pub same_positions : (f : ℕ → ℕ) (IsIn : ℕ → Type 0) (xs ys : List ℕ) → AreAll IsIn xs → AreAll IsIn ys → sum_by f xs ≡ sum_by f ys
same_positions f IsIn xs ys all all' =
    let up = sum_part f xs ys all.distinct (λ p c. (all'.all p).1 ((all.all p).0 c)) in
    let down = sum_part f ys xs all'.distinct (λ p c. (all.all p).1 ((all'.all p).0 c)) in
    omega arith

module _ {D : Type 0} (layouts : Layouts) (s : StoreView D) (t : Table D) (place : Placing) (holds : Holds layouts s t place) where
  -- an object takes as many bytes as the table says
  block_is : (word : ℕ) (o : HeapObject) → get s.heap.content word ≡ Some o → block_bytes_at layouts t (position_of layouts t place s.heap holds.objects word) ≡ block_size layouts o
  block_is word o e =
      held_block layouts s t place holds (position_of layouts t place s.heap holds.objects word) word o (placed_of layouts t place s.heap holds.objects word o e) e

  -- The blocks of the held positions are together those of the heap.
  pub held_blocks : (held : List ℕ) → AreAll (HasPlace place) held → sum (map (block_bytes_at layouts t) held) ≡ total (block_size layouts) s.heap.content
  held_blocks held all =
      let placed = are_placed layouts t place s.heap holds.objects in
      sum-map (block_bytes_at layouts t) held
      ∙ same_positions (block_bytes_at layouts t) (HasPlace place) held (positions layouts t place s.heap holds.objects) all placed
      ∙ same_sums (block_bytes_at layouts t) (λ (e : ℕ × HeapObject). position_of layouts t place s.heap holds.objects e.0) (λ (e : ℕ × HeapObject). block_size layouts e.1) (entries s.heap.content)
      (λ i e there. block_is e.0 e.1 (held_entry s.heap.content i e there))
      ∙ sym (sum-map (λ (e : ℕ × HeapObject). block_size layouts e.1) (entries s.heap.content))

-- a capacity is 0 where there are no pages
pub no_capacity : (capacity pages : ℕ) → capacity ≡ page * pages → (capacity == 0) ≡ (pages == 0)
no_capacity capacity zero e = ap (λ n. n == 0) e
no_capacity capacity (suc pages) e = ne_eqb capacity 0 (λ none. omega arith) ∙ sym (ne_eqb (suc pages) 0 (λ none. omega arith))
