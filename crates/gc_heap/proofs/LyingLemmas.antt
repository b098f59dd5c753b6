-- What the words of an object that lies in a memory tell.
use Rattle.std.proofs.Common.{◌≡◌, ℕ, ◌+◌, ◌%◌, ◌≤◌, List, Ok, Err, take, drop, length, refl, sym, ap, ap₂, subst, ◌∙◌, arith}
use Rattle.std.specs.Prelude.{◌-◌, IsOkAnd, Result}
use Rattle.gc_types.specs.declared.kind.Layouts.{Layouts}
use Rattle.gc_types.specs.declared.kind.Layouts.TheVariants.{Null, Counting, Copying}
use Rattle.gc_types.specs.declared.kind.VMGcKind.{VMGcKind}
use Rattle.gc_types.specs.declared.kind.VMGcKind.TheVariants.{ExternRef, AnyRef, EqRef, StructRef, ArrayRef, ExnRef}
use Rattle.gc_types.specs.Layouts.{struct_base}
use Rattle.gc_refs.specs.Header.{Header, spare_bits}
use Rattle.gc_memory.specs.Offsets.{array_length_offset, host_id_offset}
use Rattle.gc_view.specs.Bytes.{u32_at}
use Rattle.gc_view.specs.Heaps.{HeapObject}
use Rattle.gc_view.proofs.ByteLemmas.{u32_at-part}
use Rattle.gc_heap.specs.Extents.{array_length, data_offset, first_offset, held_size, size_with}
use Rattle.gc_heap.specs.Lying.{LiesIn, told_size}
use Rattle.gc_heap.specs.Objects.{IsHeaderOf}

-- every object has the words in front of a struct's fields
size_least : (layouts : Layouts) (kind : VMGcKind) (n : ℕ) → struct_base layouts ≤ size_with layouts kind n
size_least Null ExternRef n = omega arith
size_least Counting ExternRef n = omega arith
size_least Copying ExternRef n = omega arith
size_least layouts AnyRef n = omega arith
size_least layouts EqRef n = omega arith
size_least layouts StructRef n = omega arith
size_least layouts ArrayRef n = omega arith
size_least layouts ExnRef n = omega arith

module _ (layouts : Layouts) (bytes : List ℕ) (place : ℕ) (o : HeapObject) (l : LiesIn layouts bytes place o) where
  abbrev part : List ℕ
  part = take (held_size layouts o) (drop place bytes)

  pub least_lies : struct_base layouts ≤ held_size layouts o
  least_lies = size_least layouts o.kind (length o.bytes)

  -- a word of the object is one of the memory
  pub word_lies : (offset : ℕ) → offset + 4 ≤ held_size layouts o → u32_at part offset ≡ u32_at bytes (place + offset)
  word_lies offset inside = u32_at-part bytes place (held_size layouts o) offset inside l.lies.inside

-- the size that its words tell is its size
pub size_told : (layouts : Layouts) (bytes : List ℕ) (place : ℕ) (o : HeapObject) → LiesIn layouts bytes place o → told_size layouts bytes place ≡ held_size layouts o
size_told Null bytes place o l =
    let zero : place + 0 ≡ place = omega arith in
    let word = word_lies Null bytes place o l 0 (omega (arith, least_lies Null bytes place o l)) in
    sym (ap (λ w. w % spare_bits) (word ∙ ap (u32_at bytes) zero)) ∙ l.object.header.spare
size_told Counting bytes place o l = sym (word_lies Counting bytes place o l 20 (omega (arith, least_lies Counting bytes place o l))) ∙ l.object.size_word
size_told Copying bytes place o l = sym (word_lies Copying bytes place o l 8 (omega (arith, least_lies Copying bytes place o l))) ∙ l.object.size_word

pub header_inside : (layouts : Layouts) (n : ℕ) → struct_base layouts ≤ n → 8 ≤ n
header_inside Null n h = h
header_inside Counting n h = omega arith
header_inside Copying n h = omega arith

-- the data lies within the object
data_inside : (layouts : Layouts) (kind : VMGcKind) (n : ℕ) → (kind ≡ ExternRef → n ≡ 4) → data_offset layouts kind + n ≤ size_with layouts kind n
data_inside Null ExternRef n host = omega (arith, host refl)
data_inside Counting ExternRef n host = omega (arith, host refl)
data_inside Copying ExternRef n host = omega (arith, host refl)
data_inside layouts AnyRef n host = omega arith
data_inside layouts EqRef n host = omega arith
data_inside layouts StructRef n host = omega arith
data_inside layouts ArrayRef n host = omega arith
data_inside layouts ExnRef n host = omega arith

length_inside : (layouts : Layouts) (k : VMGcKind) (n : ℕ) → k ≡ ArrayRef → first_offset layouts k ≤ data_offset layouts k + n → 4 ≤ n
length_inside Null k n kind whole = omega (arith, subst (λ x. first_offset Null x ≤ data_offset Null x + n) kind whole)
length_inside Counting k n kind whole = omega (arith, subst (λ x. first_offset Counting x ≤ data_offset Counting x + n) kind whole)
length_inside Copying k n kind whole = omega (arith, subst (λ x. first_offset Copying x ≤ data_offset Copying x + n) kind whole)

module _ (layouts : Layouts) (bytes : List ℕ) (place : ℕ) (o : HeapObject) (l : LiesIn layouts bytes place o) where
  -- its header is what lies in front
  pub header_lies : IsHeaderOf layouts o (record { kind_word = u32_at bytes place; type_word = u32_at bytes (place + 4) })
  header_lies =
      let eight = header_inside layouts (held_size layouts o) (least_lies layouts bytes place o l) in
      let zero : place + 0 ≡ place = omega arith in
      let kind = word_lies layouts bytes place o l 0 (omega (arith, eight)) ∙ ap (u32_at bytes) zero in
      let ty = word_lies layouts bytes place o l 4 (omega (arith, eight)) in
      subst (λ (h : Header). IsHeaderOf layouts o h) (λ i. record { kind_word = kind i; type_word = ty i }) l.object.header

  -- the first word of its data is the one that lies there
  first_word : 4 ≤ length o.bytes → u32_at o.bytes 0 ≡ u32_at bytes (place + data_offset layouts o.kind)
  first_word four =
      let d = data_offset layouts o.kind in
      let inside = data_inside layouts o.kind (length o.bytes) l.lies.host in
      let all = part layouts bytes place o l in
      let size : length all ≡ held_size layouts o = l.object.size in
      let zero : d + 0 ≡ d = omega arith in
      sym (ap (λ (xs : List ℕ). u32_at xs 0) l.object.data_is)
      ∙ u32_at-part all d (length o.bytes) 0 (omega (arith, four)) (omega (arith, inside, size))
      ∙ ap (u32_at all) zero
      ∙ word_lies layouts bytes place o l d (omega (arith, inside, four))

  -- an array's length
  pub length_lies : o.kind ≡ ArrayRef → u32_at bytes (place + array_length_offset layouts) ≡ array_length o
  length_lies kind =
      let base : data_offset layouts o.kind ≡ array_length_offset layouts = ap (data_offset layouts) kind in
      sym (first_word (length_inside layouts o.kind (length o.bytes) kind l.lies.whole) ∙ ap (λ d. u32_at bytes (place + d)) base)

  -- a host object's id
  pub host_lies : o.kind ≡ ExternRef → u32_at bytes (place + host_id_offset layouts) ≡ u32_at o.bytes 0
  host_lies kind =
      let base : data_offset layouts o.kind ≡ host_id_offset layouts = ap (data_offset layouts) kind in
      sym (first_word (omega (arith, l.lies.host kind)) ∙ ap (λ d. u32_at bytes (place + d)) base)

-- the bytes of a range that is known by its ends
pub range_lies : (bytes : List ℕ) (start end place size : ℕ) → start ≡ place → end ≡ place + size → take (end - start) (drop start bytes) ≡ take size (drop place bytes)
range_lies bytes start end place size start_is end_is =
    let count : end - start ≡ size = omega arith in
    ap₂ (λ (n : ℕ) (at : ℕ). take n (drop at bytes)) count start_is

-- the words of an array's length and of a host id lie within the object
pub length_within : (layouts : Layouts) (bytes : List ℕ) (place : ℕ) (o : HeapObject) → LiesIn layouts bytes place o → o.kind ≡ ArrayRef → array_length_offset layouts + 4 ≤ held_size layouts o
length_within layouts bytes place o l kind =
    let base : data_offset layouts o.kind ≡ array_length_offset layouts = ap (data_offset layouts) kind in
    omega (arith, base, data_inside layouts o.kind (length o.bytes) l.lies.host, length_inside layouts o.kind (length o.bytes) kind l.lies.whole)

pub host_within : (layouts : Layouts) (bytes : List ℕ) (place : ℕ) (o : HeapObject) → LiesIn layouts bytes place o → o.kind ≡ ExternRef → host_id_offset layouts + 4 ≤ held_size layouts o
host_within layouts bytes place o l kind =
    let base : data_offset layouts o.kind ≡ host_id_offset layouts = ap (data_offset layouts) kind in
    omega (arith, base, data_inside layouts o.kind (length o.bytes) l.lies.host, l.lies.host kind)

-- an answer that is right where it is one, and is one
pub ok_same : {A E : Type 0} (r : Result A E) (P R : A → Type 0) → IsOkAnd r P → ((x : A) → P x → R x) → IsOkAnd r R
ok_same (Ok x) P R ok right = right x ok
ok_same (Err e) P R ok right = absurd ok
