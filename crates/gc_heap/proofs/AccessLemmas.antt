-- What is read in the bytes of an object is what its data says.
use Rattle.std.proofs.Common.{◌≡◌, ℕ, ◌+◌, ◌-◌, ◌≤◌, ◌<◌, List, length, take, drop, get_or, Result, Ok, Some, refl, sym, ap, ◌∙◌, subst, arith}
use Rattle.std.specs.FinMap.{get}
use Rattle.std.proofs.lemmas.List.{same_lists, get_or-take, get_or-drop, length-take, length-drop}
use Rattle.gc_types.specs.declared.kind.Layouts.{Layouts}
use Rattle.gc_types.specs.declared.kind.VMGcKind.{VMGcKind}
use Rattle.gc_types.specs.declared.kind.VMGcKind.TheVariants.{ExternRef, AnyRef, EqRef, StructRef, ArrayRef, ExnRef}
use Rattle.gc_types.specs.Layouts.{struct_base}
use Rattle.gc_refs.specs.Views.{part_of, ReadsNumber}
use Rattle.gc_refs.specs.declared.fault.DataFault.{DataFault}
use Rattle.gc_view.specs.Heaps.{HeapObject, HeapView}
use Rattle.gc_heap.specs.Objects.{held_size, size_with, data_offset, HasFields, IsObjectData}
use Rattle.gc_heap.specs.Lying.{LiesIn}
use Rattle.gc_heap.specs.LentMemory.{IsMemoryOf}
use Rattle.gc_heap.proofs.LyingLemmas.{header_inside, least_lies}
use Rattle.gc_heap.specs.Access.{IsReadable, data_part, ReadsData}

-- a struct, an array or an exception: where its data begins, and how many bytes it takes
data_offset-fields : (layouts : Layouts) (kind : VMGcKind) → HasFields kind → data_offset layouts kind ≡ struct_base layouts
data_offset-fields layouts ExternRef h = elim h [ ]
data_offset-fields layouts AnyRef h = elim h [ ]
data_offset-fields layouts EqRef h = elim h [ ]
data_offset-fields layouts StructRef h = refl
data_offset-fields layouts ArrayRef h = refl
data_offset-fields layouts ExnRef h = refl

size_with-fields : (layouts : Layouts) (kind : VMGcKind) (n : ℕ) → HasFields kind → size_with layouts kind n ≡ struct_base layouts + n
size_with-fields layouts ExternRef n h = elim h [ ]
size_with-fields layouts AnyRef n h = elim h [ ]
size_with-fields layouts EqRef n h = elim h [ ]
size_with-fields layouts StructRef n h = refl
size_with-fields layouts ArrayRef n h = refl
size_with-fields layouts ExnRef n h = refl

-- a part of a part
part-part : (bytes : List ℕ) (base size at n : ℕ) → at + n ≤ size → take n (drop at (take size (drop base bytes))) ≡ take n (drop (base + at) bytes)
part-part bytes base size at n inside =
    let whole : List ℕ = drop base bytes in
    let len : length (take n (drop at (take size whole))) ≡ length (take n (drop (base + at) bytes)) = simp (length-take, length-drop) (omega arith) in
    same_lists _ _ len (λ k d h.
    let below : k < n = omega (arith, length-take n (drop at (take size whole))) in
    get_or-take n (drop at (take size whole)) k d below
    ∙ get_or-drop at (take size whole) k d
    ∙ get_or-take size whole (at + k) d (omega arith)
    ∙ get_or-drop base bytes (at + k) d
    ∙ ap (λ i. get_or bytes i d) (let e : base + (at + k) ≡ base + at + k = omega arith in e)
    ∙ sym (get_or-take n (drop (base + at) bytes) k d below ∙ get_or-drop (base + at) bytes k d))

-- a part of an object's bytes behind its header is that part of its data
pub part_in_data : (layouts : Layouts) (o : HeapObject) (bytes : List ℕ) (offset n : ℕ) → HasFields o.kind → IsObjectData layouts o bytes
    → struct_base layouts ≤ offset → offset + n ≤ held_size layouts o → part_of bytes (offset - 0) n ≡ data_part layouts o offset n
part_in_data layouts o bytes offset n fields told from to =
    let base : ℕ = struct_base layouts in
    let size : held_size layouts o ≡ base + length o.bytes = size_with-fields layouts o.kind (length o.bytes) fields in
    let begin : data_offset layouts o.kind ≡ base = data_offset-fields layouts o.kind fields in
    let data_is : take (length o.bytes) (drop base bytes) ≡ o.bytes = ap (λ at. take (length o.bytes) (drop at bytes)) (sym begin) ∙ told.data_is in
    let place : offset - 0 ≡ base + (offset - base) = omega arith in
    ap (λ at. take n (drop at bytes)) place
    ∙ sym (part-part bytes base (length o.bytes) (offset - base) n (omega arith))
    ∙ ap (λ bs. take n (drop (offset - base) bs)) data_is

same_object : (a b : HeapObject) → Some a ≡ Some b → a ≡ b
same_object a b e = cc

-- so much of an object's data as it lies in the memory
pub data_lies : (layouts : Layouts) (bytes : List ℕ) (place : ℕ) (o : HeapObject) (offset n : ℕ) → LiesIn layouts bytes place o → HasFields o.kind
    → struct_base layouts ≤ offset → offset + n ≤ held_size layouts o → take n (drop (place + offset) bytes) ≡ data_part layouts o offset n
data_lies layouts bytes place o offset n l fields from to =
    let all : List ℕ = take (held_size layouts o) (drop place bytes) in
    let first : offset ≡ offset - 0 = omega arith in
    sym (part-part bytes place (held_size layouts o) offset n to)
    ∙ ap (λ at. take n (drop at all)) first
    ∙ part_in_data layouts o all offset n fields l.object from to

-- what is readable lies in the memory
pub readable_lies : (layouts : Layouts) (h : HeapView) (bytes : List ℕ) (place offset n : ℕ) → IsMemoryOf layouts h bytes → IsReadable layouts h place offset n
    → place + offset + n ≤ length bytes
readable_lies layouts h bytes place offset n m inside =
    let lies = (m.objects place inside.object inside.held).lies in
    omega (arith, lies.inside, inside.to)

-- so do the words of a held object's header
pub header_lies_within : (layouts : Layouts) (h : HeapView) (bytes : List ℕ) (place : ℕ) (o : HeapObject) → IsMemoryOf layouts h bytes → get h.content place ≡ Some o
    → place + 8 ≤ length bytes
header_lies_within layouts h bytes place o m held =
    let l = m.objects place o held in
    omega (arith, l.lies.inside, header_inside layouts (held_size layouts o) (least_lies layouts bytes place o l))

-- what lies there in the memory of the object that is held there is what its data says
pub lies_as_data : (layouts : Layouts) (h : HeapView) (bytes : List ℕ) (place offset n : ℕ) (value : List ℕ) → IsMemoryOf layouts h bytes → IsReadable layouts h place offset n
    → value ≡ take n (drop (place + offset) bytes) → ReadsData layouts h place offset n (λ part. part) value
lies_as_data layouts h bytes place offset n value m inside is = λ o held.
    let same : inside.object ≡ o = same_object _ _ (sym inside.held ∙ held) in
    is ∙ data_lies layouts bytes place o offset n (m.objects place o held) (subst (λ o. HasFields o.kind) same inside.has_fields) inside.from
    (subst (λ o. offset + n ≤ held_size layouts o) same inside.to)

-- what a view of the object that is held there reads is what its data says
pub reads_data : {A : Type 0} (number : List ℕ → A) (layouts : Layouts) (h : HeapView) (place offset n : ℕ) (bytes : List ℕ) (result : Result A DataFault) (value : A)
    → IsReadable layouts h place offset n
    → ((o : HeapObject) → get h.content place ≡ Some o → IsObjectData layouts o bytes)
    → ReadsNumber n number 0 bytes offset result → result ≡ Ok value
    → ReadsData layouts h place offset n number value
reads_data number layouts h place offset n bytes result value inside told read ok = λ o held.
    let same : inside.object ≡ o = same_object _ _ (sym inside.held ∙ held) in
    let is_read = subst (λ r. ReadsNumber n number 0 bytes offset r) ok read in
    is_read.1 ∙ ap number (part_in_data layouts o bytes offset n (subst (λ o. HasFields o.kind) same inside.has_fields) (told o held) inside.from (subst (λ o. offset + n ≤ held_size layouts o) same inside.to))
