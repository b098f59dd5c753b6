-- A held object that is rewritten, one write after another.
use Rattle.std.proofs.Common.{◌≡◌, ℕ, suc, ◌+◌, ◌-◌, ◌*◌, ◌<◌, ◌≤◌, inl, inr, List, length, take, drop, Some, refl, sym, ap, ◌∙◌, arith}
use Rattle.std.specs.FinMap.{get, insert}
use Rattle.std.proofs.Math.Nat.{mul-le-mul_right}
use Rattle.std.proofs.lemmas.Bool.{cases_eq, cases_lt}
use Rattle.std.proofs.lemmas.List.{take-take, drop-drop, drop-take}
use Rattle.gc_types.specs.declared.kind.Layouts.{Layouts}
use Rattle.gc_types.specs.Declarations.{Declaration, Shape, struct_of, array_of, exn_of, func_of, shape_at}
use Rattle.gc_types.specs.Layouts.{struct_base}
use Rattle.gc_view.specs.Bytes.{put_bytes}
use Rattle.gc_view.specs.Heaps.{HeapObject, HeapView}
use Rattle.gc_view.proofs.Spacing.{shape_first}
use Rattle.gc_view.proofs.ByteLemmas.{length-put_bytes, put_bytes-below, part-put_bytes, part_in_same, u32_in_same}
use Rattle.gc_view.proofs.Content.{get-put_same, get-put_other}
use Rattle.gc_heap.specs.Heap.{put_object, with_data}
use Rattle.gc_heap.specs.Collection.{IsWordOf}
use Rattle.gc_owner.specs.Owners.{OwnerView}
use Rattle.gc_model.proofs.ObjectStands.{KeepsFront, array_front}
use Rattle.gc_values.specs.Filling.{RewritesTo, Rewrites, AreFilled}
use Rattle.gc_values.specs.HeldSlots.{HasHeapShape, IsHeldOf, WritesAt}

module _ {D : Type 0} (layouts : Layouts) (shape : Shape) (old : OwnerView D) (place : ℕ) (o : HeapObject) (held : get old.heap.content place ≡ Some o) where
  -- nothing was written
  pub rewrites-none : {AreFrom : List ℕ → List ℕ → Type 0} → AreFrom o.bytes o.bytes → RewritesTo AreFrom old old place o o.bytes
  rewrites-none same = record {
    written = held;
    others = λ q other. refl;
    attached = refl;
    capacity = refl;
    allocated = refl;
    needs_gc = refl;
    same_length = refl;
    front = same;
    rest = refl;
  }

  pub rewrites-nothing : Rewrites layouts shape old old place o o.bytes
  rewrites-nothing = rewrites-none (λ offset before. refl)

  -- one more write, inside
  pub rewrites-by : {Was Now : List ℕ → List ℕ → Type 0} (mid new : OwnerView D) (b : List ℕ) (offset : ℕ) (bs : List ℕ) → offset - struct_base layouts + length bs ≤ length b
      → (Was o.bytes b → Now o.bytes (put_bytes b (offset - struct_base layouts) bs)) → RewritesTo Was old mid place o b → WritesAt layouts mid new place offset bs → RewritesTo Now old new place o (put_bytes b (offset - struct_base layouts) bs)
  rewrites-by mid new b offset bs within next_front was did =
      let now : HeapObject = record o { bytes = b } in
      let next : HeapObject = with_data layouts now offset bs in
      let e = did now was.written in
      let content : new.heap.content ≡ insert mid.heap.content place next = ap (λ (v : OwnerView D). v.heap.content) e in
      record {
        written = ap (λ m. get m place) content ∙ get-put_same mid.heap.content place next;
        others = λ q other. ap (λ m. get m q) content ∙ get-put_other mid.heap.content place q next other ∙ was.others q other;
        attached = ap (λ (v : OwnerView D). v.heap.attached) e ∙ was.attached;
        capacity = ap (λ (v : OwnerView D). v.heap.capacity) e ∙ was.capacity;
        allocated = ap (λ (v : OwnerView D). v.heap.allocated) e ∙ was.allocated;
        needs_gc = ap (λ (v : OwnerView D). v.heap.needs_gc) e ∙ was.needs_gc;
        same_length = length-put_bytes b (offset - struct_base layouts) bs within ∙ was.same_length;
        front = next_front was.front;
        rest = e ∙ ap (λ (v : OwnerView D). record v { heap = record (put_object mid.heap place next) { counts = new.heap.counts } }) was.rest ∙ ap (λ (h : HeapView). record old { heap = h }) (sym (ap (λ (v : OwnerView D). v.heap) e));
      }

  -- one behind what lies in front of the slots
  pub rewrites-more : (mid new : OwnerView D) (b : List ℕ) (offset : ℕ) (bs : List ℕ) → struct_base layouts ≤ shape_first layouts shape → shape_first layouts shape ≤ offset → offset - struct_base layouts + length bs ≤ length b
      → Rewrites layouts shape old mid place o b → WritesAt layouts mid new place offset bs → Rewrites layouts shape old new place o (put_bytes b (offset - struct_base layouts) bs)
  rewrites-more mid new b offset bs above low within was did =
      rewrites-by mid new b offset bs within
      (λ kept at before.
      u32_in_same b (put_bytes b (offset - struct_base layouts) bs) at (put_bytes-below b (offset - struct_base layouts) bs at (at + 4) within (omega (arith, before, low, above)))
      ∙ kept at before)
      was did

  -- an object of a shape is one still
  shape_kept : (n : ℕ) (b : List ℕ) (s : Shape) → KeepsFront layouts s o.bytes b → HasHeapShape o s n → HasHeapShape (record o { bytes = b }) s n
  shape_kept n b (struct_of fields) front has = has
  shape_kept n b (array_of element) front has = (has.0, has.1 ∙ sym (front 0 (array_front layouts (array_of element) refl)))
  shape_kept n b (exn_of params) front has = has
  shape_kept n b (func_of params results) front has = has

  pub held_again : (new : OwnerView D) (n : ℕ) (b : List ℕ) → IsHeldOf old.types.declarations old.heap place o shape n → Rewrites layouts shape old new place o b → IsHeldOf new.types.declarations new.heap place (record o { bytes = b }) shape n
  held_again new n b is was = record {
    held = was.written;
    declared = ap (λ (ts : List Declaration). shape_at ts o.ty) (ap (λ (v : OwnerView D). v.types.declarations) was.rest) ∙ is.declared;
    has = shape_kept n b shape was.front is.has;
  }

  -- a word of the heap is one still
  pub word_again : (new : OwnerView D) (b : List ℕ) (word : ℕ) → Rewrites layouts shape old new place o b → IsWordOf old.heap word → IsWordOf new.heap word
  word_again new b word was (inl null) = inl null
  word_again new b word was (inr (inl odd)) = inr (inl odd)
  word_again new b word was (inr (inr (object, there))) = inr (inr (elim (cases_eq word place) [
    | inl same ↦ (record o { bytes = b }, ap (get new.heap.content) same ∙ was.written)
    | inr other ↦ (object, was.others word other ∙ there)
  ]))

-- elements

-- an element behind another one
pub element-le : (i k w : ℕ) → i < k → i * w + w ≤ k * w
element-le i k w below = let whole : suc i * w ≤ k * w = mul-le-mul_right w below in omega (arith, whole)

split_at : (from i k w : ℕ) → k ≤ i → from + i * w ≡ from + k * w + (i - k) * w
split_at from i k w behind =
    let j : ℕ = i - k in
    let whole : i ≡ k + j = omega (arith, behind) in
    ap (λ n. from + n * w) whole ∙ (let sum : from + (k + j) * w ≡ from + k * w + j * w = omega arith in sum)

-- a part of the first bytes
pub part_of_take : (xs : List ℕ) (n at w : ℕ) → at + w ≤ n → take w (drop at (take n xs)) ≡ take w (drop at xs)
part_of_take xs n at w inside =
    let split : n ≡ at + (n - at) = omega (arith, inside) in
    ap (take w) (ap (λ k. drop at (take k xs)) split ∙ drop-take at (n - at) xs) ∙ take-take w (n - at) (drop at xs) (omega (arith, inside))

-- a part of what was written
part_of_put : (bytes part : List ℕ) (p at w : ℕ) → p + length part ≤ length bytes → at + w ≤ length part → take w (drop (p + at) (put_bytes bytes p part)) ≡ take w (drop at part)
part_of_put bytes part p at w within inside =
    let put : List ℕ = put_bytes bytes p part in
    ap (take w) (sym (drop-drop at p put))
    ∙ sym (part_of_take (drop p put) (length part) at w inside)
    ∙ ap (λ xs. take w (drop at xs)) (part-put_bytes bytes p part within)

-- more elements were filled
pub filled-more : (from w : ℕ) (ws bytes part : List ℕ) (k m : ℕ) → AreFilled from w ws k bytes → length part ≡ m * w → AreFilled 0 w ws m part → from + k * w + m * w ≤ length bytes
    → AreFilled from w ws (k + m) (put_bytes bytes (from + k * w) part)
filled-more from w ws bytes part k m filled long parts within i below = elim (cases_lt i k) [
  | inl before ↦
      let ends = element-le i k w before in
      part_in_same bytes (put_bytes bytes (from + k * w) part) (from + i * w) w
      (put_bytes-below bytes (from + k * w) part (from + i * w) (from + i * w + w) (omega (arith, within, long)) (omega (arith, ends)))
      ∙ filled i before
  | inr behind ↦
      let j : ℕ = i - k in
      let inside : j < m = omega (arith, below, behind) in
      let ends = element-le j m w inside in
      let at : from + i * w ≡ from + k * w + j * w = split_at from i k w behind in
      ap (λ p. take w (drop p (put_bytes bytes (from + k * w) part))) at
      ∙ part_of_put bytes part (from + k * w) (j * w) w (omega (arith, within, long)) (omega (arith, ends, long))
      ∙ ap (λ p. take w (drop p part)) (let zero_is : j * w ≡ 0 + j * w = omega arith in zero_is)
      ∙ parts j inside
]
