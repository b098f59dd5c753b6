-- The objects that an allocation makes.
use Rattle.std.proofs.Common.{◌≡◌, ℕ, ◌+◌, ◌-◌, ◌*◌, ◌%◌, ◌<◌, ◌≤◌, ◌^◌, Bool, true, false, List, [], ◌∷◌, ◌++◌, take, drop, length, replicate, refl, sym, ap, ap₂, subst, ◌∙◌, inl, inr, arith}
use Rattle.std.specs.Prelude.{All}
use Rattle.std.proofs.Math.Logic.{◌⊎◌}
use Rattle.std.specs.Int.{w32, to_le_bytes}
use Rattle.std.proofs.lemmas.List.{length-replicate, drop-replicate, get_or-replicate}
use Rattle.std.proofs.lemmas.Nat.{from_le_bytes-to_le_bytes_4}
use Rattle.gc_types.specs.declared.kind.Layouts.TheVariants.{Copying}
use Rattle.gc_types.specs.declared.kind.VMGcKind.{VMGcKind}
use Rattle.gc_types.specs.declared.kind.VMGcKind.TheVariants.{ExternRef, AnyRef, EqRef, StructRef, ArrayRef, ExnRef}
use Rattle.gc_types.specs.Kinds.{kind_bits, kind_of}
use Rattle.gc_types.proofs.KindLemmas.{kind_of-kind_bits, same_kind}
use Rattle.gc_types.specs.declared.layout.GcArrayLayout.{GcArrayLayout}
use Rattle.gc_types.specs.Layouts.{round_up}
use Rattle.gc_refs.specs.Header.{Header, header_of, spare_bits, kind_part, IsOfKind}
use Rattle.gc_tables.specs.SideTables.{max_entries}
use Rattle.gc_memory.specs.Words.{word}
use Rattle.gc_memory.specs.Changes.{Wrote}
use Rattle.gc_memory.specs.Lists.{In, here}
use Rattle.gc_memory.proofs.ChangeLemmas.{Wrote-within, Wrote-then, Wrote-before, Wrote-put_u32, Wrote-zeros}
use Rattle.gc_memory.proofs.ChainLemmas.{Chain-end, Chain-length, Chain-aligned}
use Rattle.gc_memory.proofs.WordLemmas.{word-is, word_before, word-put_u32, word_of_zeros}
use Rattle.gc_view.specs.Bytes.{put_bytes}
use Rattle.gc_view.proofs.ByteLemmas.{part_in_same, part-put_bytes, part-put_bytes_inside}
use Rattle.gc_view.specs.Bytes.{u32_at, put_u32}
use Rattle.gc_view.specs.Heaps.{HeapObject, HeapView, no_counts}
use Rattle.gc_heap.specs.Heap.{AddsObject, LacksRoom, CanAllocate, array_size}
use Rattle.gc_heap.specs.Making.{CanMake, made, with_first_word}
use Rattle.gc_heap.specs.declared.new_object.FirstWord.{FirstWord}
use Rattle.gc_heap.specs.declared.new_object.FirstWord.TheVariants as begin
use Rattle.gc_heap.proofs.MakingLemmas.{array_least, not_external, object_kind_of}
use Rattle.gc_refs.specs.Trace.{form_of}
use Rattle.gc_heap.specs.Objects.{held_size, first_offset, zeroed, zeroed_array, external, IsObjectKind, HasFields}
use Rattle.gc_heap.specs.References.{bitmap_offsets}
use Rattle.gc_heap.specs.Rules.{ArrayTraces, SpareFits, array_spare}
use Rattle.gc_heap.specs.Content.{IsSpare}
use Rattle.gc_copying.specs.Spaces.{half_start, half_end}
use Rattle.gc_copying.specs.Layout.{copying_first_place, places_in, copying_size_at, copying_kind_at, copying_data_at, copying_object_at}
use Rattle.gc_copying.specs.Content.{CopyingLinked, last, link, space_view, HasCopyingHost, IsCopyingWhole, IsSpace}
use Rattle.gc_copying.specs.HeapLaws.{nothing, sixteen, skips, half_lies, first_aligned, lies_in_space}
use Rattle.gc_copying.specs.Linking.{link_end, with_link}
use Rattle.gc_copying.specs.declared.blocks.Room.TheVariants as room
use Rattle.gc_copying.specs.States.{IsSoundSemiSpace, copying_seen_in}
use Rattle.gc_copying.specs.declared.space.Space.{Space}
use Rattle.gc_copying.specs.Placing.{CanPlaceBehind, WritesCopyingBlock, TellsRoom}
use Rattle.gc_copying.proofs.PlacedObjects.{PutsObject, MovesHead}
use Rattle.gc_copying.proofs.SpaceLemmas.{same_object, adds, room_is}

-- a header, a size and zeros, written one behind the other
pub writes_block : (m a b d : List ℕ) (p : ℕ) (h : Header) (size : ℕ) → 16 ≤ size → p + size ≤ length m → Wrote m a p 8
    → u32_at a p ≡ h.kind_word → u32_at a (p + 4) ≡ h.type_word → b ≡ put_u32 a (p + 8) size → d ≡ put_bytes b (p + 12) (replicate (size - 12) 0) → size < 2 ^ 32
    → WritesCopyingBlock m d p h size
writes_block m a b d p h size least room first kind ty second third small =
    let len : length a ≡ length m = first.same_length in
    let w2 : Wrote a b (p + 8) 4 = subst (λ x. Wrote a x (p + 8) 4) (sym second) (Wrote-put_u32 a (p + 8) size (omega arith)) in
    let len2 : length b ≡ length a = w2.same_length in
    let w3 : Wrote b d (p + 12) (size - 12) = subst (λ x. Wrote b x (p + 12) (size - 12)) (sym third) (Wrote-zeros b (p + 12) (size - 12) (omega arith)) in
    let zeros : ℕ = length (replicate {A = ℕ} (size - 12) 0) in
    let zeros_len : length (replicate {A = ℕ} (size - 12) 0) ≡ size - 12 = length-replicate {A = ℕ} (size - 12) 0 in
    record {
      around = Wrote-then (Wrote-within first p size (omega arith) (omega arith))
          (Wrote-then (Wrote-within w2 p size (omega arith) (omega arith)) (Wrote-within w3 p size (omega arith) (omega arith)));
      kind_word = word_before w3 p (omega arith) ∙ word_before w2 p (omega arith) ∙ word-is a p ∙ kind;
      type_word = word_before w3 (p + 4) (omega arith) ∙ word_before w2 (p + 4) (omega arith) ∙ word-is a (p + 4) ∙ ty;
      size_word = word_before w3 (p + 8) (omega arith) ∙ ap (λ x. word x (p + 8)) second ∙ word-put_u32 a (p + 8) size (omega arith) small;
      zeros = ap (λ x. take (size - 12) (drop (p + 12) x)) third
          ∙ ap (λ n. take n (drop (p + 12) (put_bytes b (p + 12) (replicate (size - 12) 0)))) (sym zeros_len)
          ∙ part-put_bytes b (p + 12) (replicate (size - 12) 0) (omega arith);
    }

-- the kind of an object is that of its header
kind_by_header : (b : List ℕ) (p w : ℕ) (k : VMGcKind) → word b p ≡ w → IsOfKind k w → copying_kind_at b p ≡ k
unfolding copying_kind_at
kind_by_header b p w k e is = ap (λ v. kind_of (kind_part v)) e ∙ ap kind_of (sym is) ∙ kind_of-kind_bits k

data_by_fields : (b : List ℕ) (p : ℕ) (k : VMGcKind) → HasFields k → copying_data_at b p k ≡ take (copying_size_at b p - 12) (drop (p + 12) b)
unfolding copying_data_at
data_by_fields b p ExternRef h = absurd h
data_by_fields b p AnyRef h = absurd h
data_by_fields b p EqRef h = absurd h
data_by_fields b p StructRef h = refl
data_by_fields b p ArrayRef h = refl
data_by_fields b p ExnRef h = refl

-- an object that is known is whole
pub whole_of : (b : List ℕ) (p : ℕ) (o : HeapObject) → copying_object_at b p ≡ o → IsOfKind o.kind (word b p) → IsObjectKind o.kind → first_offset Copying o.kind ≤ copying_size_at b p
    → IsSpare Copying o → (o.kind ≡ ExternRef → HasCopyingHost b p) → IsCopyingWhole b p
whole_of b p o is kind object_kind least spare external =
    let same : copying_kind_at b p ≡ o.kind = ap (λ (x : HeapObject). x.kind) is in
    record {
      kind = ap kind_bits same ∙ kind;
      object_kind = subst IsObjectKind (sym same) object_kind;
      least = subst (λ k. first_offset Copying k ≤ copying_size_at b p) (sym same) least;
      spare = subst (IsSpare Copying) (sym is) spare;
      external = λ e. external (sym same ∙ e);
    }

All-inside : (n m : ℕ) (offsets : List ℕ) → n ≤ m → All (λ offset. offset + 4 ≤ n) offsets → All (λ offset. offset + 4 ≤ m) offsets
All-inside n m offsets le all = λ k d h. let inside = all k d h in omega arith

bitmap_wider : (n m word : ℕ) → n ≤ m → ((form_of word ≡ 0) × All (λ offset. offset + 4 ≤ n) (bitmap_offsets word)) ⊎ (form_of word ≡ 2)
    → ((form_of word ≡ 0) × All (λ offset. offset + 4 ≤ m) (bitmap_offsets word)) ⊎ (form_of word ≡ 2)
bitmap_wider n m word le (inl bitmap) = inl (bitmap.0, All-inside n m (bitmap_offsets word) le bitmap.1)
bitmap_wider n m word le (inr out) = inr out

-- rounding up
block_facts : (size block : ℕ) → block ≡ round_up size 16 → size ≤ block
block_facts size block e = omega arith

-- the bytes of a new object with fields
held_zeroed : (kind : VMGcKind) (ty spare size : ℕ) → HasFields kind → first_offset Copying kind ≤ size → held_size Copying (zeroed Copying kind ty spare size) ≡ round_up size 16
held_zeroed ExternRef ty spare size h least = absurd h
held_zeroed AnyRef ty spare size h least = absurd h
held_zeroed EqRef ty spare size h least = absurd h
held_zeroed StructRef ty spare size h least = omega (arith, length-replicate {A = ℕ} (round_up size 16 - 12) 0)
held_zeroed ArrayRef ty spare size h least = omega (arith, length-replicate {A = ℕ} (round_up size 16 - 12) 0)
held_zeroed ExnRef ty spare size h least = omega (arith, length-replicate {A = ℕ} (round_up size 16 - 12) 0)

-- the trace word of a new object names nothing outside it
pub zeroed_spare : (kind : VMGcKind) (ty spare size : ℕ) → HasFields kind → first_offset Copying kind ≤ size → SpareFits Copying kind size spare
    → IsSpare Copying (zeroed Copying kind ty spare size)
zeroed_spare ExternRef ty spare size h least fits = absurd h
zeroed_spare AnyRef ty spare size h least fits = absurd h
zeroed_spare EqRef ty spare size h least fits = absurd h
zeroed_spare StructRef ty spare size h least fits =
    let held = held_zeroed StructRef ty spare size h least in
    (omega (arith, fits.0), bitmap_wider size _ spare (subst (λ n. size ≤ n) (sym held) (block_facts size _ refl)) fits.1)
zeroed_spare ExnRef ty spare size h least fits =
    let held = held_zeroed ExnRef ty spare size h least in
    (omega (arith, fits.0), bitmap_wider size _ spare (subst (λ n. size ≤ n) (sym held) (block_facts size _ refl)) fits.1)
zeroed_spare ArrayRef ty spare size h least fits =
    let held = held_zeroed ArrayRef ty spare size h least in
    let zeros : ℕ = round_up size 16 - 12 in
    let none : u32_at (replicate {A = ℕ} zeros 0) 0 ≡ 0 =
    sym (word-is (replicate {A = ℕ} zeros 0) 0) ∙ word_of_zeros (replicate {A = ℕ} zeros 0) 0 (λ k l. get_or-replicate zeros (0 + k) 0 0 (omega arith)) in (
      omega (arith, fits.0),
      (
        fits.1,
        λ odd. subst (λ n. 16 + u32_at (replicate {A = ℕ} zeros 0) 0 * 4 ≤ n) (sym held)
            (subst (λ n. 16 + n * 4 ≤ round_up size 16) (sym none) (omega arith)),
      ),
    )

-- A header with zeros behind it is a new object.
pub puts_zeroed : (a b : List ℕ) (p size block : ℕ) (h : Header) (k : VMGcKind) → WritesCopyingBlock a b p h block → block ≡ round_up size 16
    → IsOfKind k h.kind_word → HasFields k → first_offset Copying k ≤ size → SpareFits Copying k size (h.kind_word % spare_bits)
    → PutsObject a b p (zeroed Copying k h.type_word (h.kind_word % spare_bits) size) block
puts_zeroed a b p size block h k w rounded kind fields least fits =
    let o : HeapObject = zeroed Copying k h.type_word (h.kind_word % spare_bits) size in
    let same : copying_kind_at b p ≡ k = kind_by_header b p h.kind_word k w.kind_word kind in
    let bytes_are : copying_data_at b p (copying_kind_at b p) ≡ replicate (round_up size 16 - 12) 0 =
    ap (copying_data_at b p) same
    ∙ data_by_fields b p k fields
    ∙ ap (λ n. take (n - 12) (drop (p + 12) b)) w.size_word
    ∙ w.zeros
    ∙ ap (λ n. replicate (n - 12) 0) rounded in
    let is : copying_object_at b p ≡ o = same_object _ _ same w.type_word (ap (λ n. n % spare_bits) w.kind_word) bytes_are in
    let wide : first_offset Copying k ≤ copying_size_at b p = subst (λ n. first_offset Copying k ≤ n) (sym w.size_word) (let le = block_facts size block rounded in omega arith) in
    record {
      around = w.around;
      size_is = w.size_word;
      whole = whole_of b p o is (kind ∙ ap kind_part (sym w.kind_word)) (object_kind_of k fields) wide
          (zeroed_spare k h.type_word (h.kind_word % spare_bits) size fields least fits) (λ e. absurd (not_external k fields e));
      object_is = is;
    }

array_data : (a b : List ℕ) (p block count : ℕ) → 16 ≤ block → p + block ≤ length a → b ≡ put_u32 a (p + 12) count → take (block - 12) (drop (p + 12) a) ≡ replicate (block - 12) 0
    → take (block - 12) (drop (p + 12) b) ≡ to_le_bytes w32 count ++ replicate (block - 16) 0
array_data a b p block count least room written zeros =
    let here : p + 12 - (p + 12) ≡ 0 = omega arith in
    let left : block - 12 - 4 ≡ block - 16 = omega arith in
    ap (λ x. take (block - 12) (drop (p + 12) x)) written
    ∙ part-put_bytes_inside a (p + 12) (block - 12) (p + 12) (to_le_bytes w32 count) (omega arith) (omega arith) (omega arith)
    ∙ ap (put_bytes_at (take (block - 12) (drop (p + 12) a))) here
    ∙ ap (λ x. put_bytes x 0 (to_le_bytes w32 count)) zeros
    ∙ ap (λ x. to_le_bytes w32 count ++ x) (drop-replicate 4 (block - 12) 0 ∙ ap (λ n. replicate n 0) left)
  where
    put_bytes_at : List ℕ → ℕ → List ℕ
    put_bytes_at x n = put_bytes x n (to_le_bytes w32 count)

-- what the array's length and its trace word say of it
array_is_spare : (ty count size : ℕ) (refs : Bool) → count < 2 ^ 32 → 16 ≤ size → (refs ≡ true → 16 + count * 4 ≤ size)
    → IsSpare Copying (zeroed_array Copying ty (array_spare Copying refs) count size)
array_is_spare ty count size true small least elements =
    let held = length-replicate {A = ℕ} (round_up size 16 - 16) 0 in
    let tells : u32_at (to_le_bytes w32 count ++ replicate (round_up size 16 - 16) 0) 0 ≡ count = from_le_bytes-to_le_bytes_4 count small in
    let fit = elements refl in
    (omega arith, (omega arith, λ odd. omega arith))
array_is_spare ty count size false small least elements = (omega arith, (omega arith, λ odd. absurd (omega arith)))

-- A header with zeros behind it, of which the first word is a length, is a new array.
pub puts_array : (a m b : List ℕ) (p size block ty count : ℕ) (h : Header) (refs : Bool) → WritesCopyingBlock a m p h block → b ≡ put_u32 m (p + 12) count → p + block ≤ length a
    → block ≡ round_up size 16 → IsOfKind ArrayRef h.kind_word → h.type_word ≡ ty → h.kind_word % spare_bits ≡ array_spare Copying refs
    → count < 2 ^ 32 → 16 ≤ size → (refs ≡ true → 16 + count * 4 ≤ size) → PutsObject a b p (zeroed_array Copying ty (array_spare Copying refs) count size) block
puts_array a m b p size block ty count h refs w written room rounded kind type_is spare small least elements =
    let o : HeapObject = zeroed_array Copying ty (array_spare Copying refs) count size in
    let len : length m ≡ length a = w.around.same_length in
    let x : Wrote m b (p + 12) 4 = subst (λ y. Wrote m y (p + 12) 4) (sym written) (Wrote-put_u32 m (p + 12) count (omega arith)) in
    let kw : word b p ≡ h.kind_word = word_before x p (omega arith) ∙ w.kind_word in
    let tw : word b (p + 4) ≡ ty = word_before x (p + 4) (omega arith) ∙ w.type_word ∙ type_is in
    let sw : word b (p + 8) ≡ block = word_before x (p + 8) (omega arith) ∙ w.size_word in
    let same : copying_kind_at b p ≡ ArrayRef = kind_by_header b p h.kind_word ArrayRef kw kind in
    let bytes_are : copying_data_at b p (copying_kind_at b p) ≡ o.bytes =
    ap (copying_data_at b p) same
    ∙ data_by_fields b p ArrayRef tt
    ∙ ap (λ n. take (n - 12) (drop (p + 12) b)) sw
    ∙ array_data m b p block count (omega arith) (omega arith) written w.zeros
    ∙ ap (λ n. to_le_bytes w32 count ++ replicate (n - 16) 0) rounded in
    let is : copying_object_at b p ≡ o = same_object _ _ same tw (ap (λ n. n % spare_bits) kw ∙ spare) bytes_are in
    record {
      around = Wrote-then w.around (Wrote-within x p block (omega arith) (omega arith));
      size_is = sw;
      whole = whole_of b p o is (kind ∙ ap kind_part (sym kw)) tt (omega arith) (array_is_spare ty count size refs small least elements) (λ e. absurd (not_external ArrayRef tt e));
      object_is = is;
    }

-- What is known of a new external object.
pub record PutsExternal (a b : List ℕ) (p id head : ℕ) : Type 0 where
  pub puts : PutsObject a b p (external id) 32
  pub kind : copying_kind_at b p ≡ ExternRef
  pub next : word b (p + 20) ≡ head

external_data : (b : List ℕ) (p : ℕ) → copying_data_at b p ExternRef ≡ take 4 (drop (p + 16) b)
unfolding copying_data_at
external_data b p = refl

-- A header with a host id and a link behind it is a new external object.
pub puts_external : (a m n b : List ℕ) (p id head : ℕ) → WritesCopyingBlock a m p (header_of ExternRef (2 ^ 32 - 1)) 32 → n ≡ put_u32 m (p + 16) (id + 1) → b ≡ put_u32 n (p + 20) head
    → p + 32 ≤ length a → id + 1 ≤ max_entries → head < 2 ^ 32 → PutsExternal a b p id head
puts_external a m n b p id head w first second room id_small head_small =
    let len : length m ≡ length a = w.around.same_length in
    let x : Wrote m n (p + 16) 4 = subst (λ z. Wrote m z (p + 16) 4) (sym first) (Wrote-put_u32 m (p + 16) (id + 1) (omega arith)) in
    let len2 : length n ≡ length m = x.same_length in
    let y : Wrote n b (p + 20) 4 = subst (λ z. Wrote n z (p + 20) 4) (sym second) (Wrote-put_u32 n (p + 20) head (omega arith)) in
    let kw : word b p ≡ kind_bits ExternRef = word_before y p (omega arith) ∙ word_before x p (omega arith) ∙ w.kind_word in
    let tw : word b (p + 4) ≡ 2 ^ 32 - 1 = word_before y (p + 4) (omega arith) ∙ word_before x (p + 4) (omega arith) ∙ w.type_word in
    let sw : word b (p + 8) ≡ 32 = word_before y (p + 8) (omega arith) ∙ word_before x (p + 8) (omega arith) ∙ w.size_word in
    let hw : word b (p + 16) ≡ id + 1 = word_before y (p + 16) (omega arith) ∙ ap (λ z. word z (p + 16)) first ∙ word-put_u32 m (p + 16) (id + 1) (omega arith) (omega arith) in
    let nw : word b (p + 20) ≡ head = ap (λ z. word z (p + 20)) second ∙ word-put_u32 n (p + 20) head (omega arith) head_small in
    let same : copying_kind_at b p ≡ ExternRef = kind_by_header b p (kind_bits ExternRef) ExternRef kw refl in
    let bytes_are : copying_data_at b p (copying_kind_at b p) ≡ to_le_bytes w32 (id + 1) =
    ap (copying_data_at b p) same
    ∙ external_data b p
    ∙ part_in_same n b (p + 16) 4 (Wrote-before y (p + 16) (p + 16 + 4) (omega arith))
    ∙ ap (λ z. take 4 (drop (p + 16) z)) first
    ∙ part-put_bytes m (p + 16) (to_le_bytes w32 (id + 1)) (omega arith) in
    let is : copying_object_at b p ≡ external id = same_object _ _ same tw (ap (λ v. v % spare_bits) kw) bytes_are in
    record {
      puts = record {
        around = Wrote-then w.around (Wrote-then (Wrote-within x p 32 (omega arith) (omega arith)) (Wrote-within y p 32 (omega arith) (omega arith)));
        size_is = sw;
        whole = whole_of b p (external id) is (ap kind_part (sym kw)) tt (omega arith) (omega arith, refl)
            (λ e. record { size = sw; from = omega arith; to = omega arith });
        object_is = is;
      };
      kind = same;
      next = nw;
    }

-- What an allocation does to a space.
pub record Makes (a b : List ℕ) (upper : Bool) (bump block head objects size : ℕ) (object : HeapObject) : Type 0 where
  pub space : IsSpace b upper (bump + block) head (objects + 1)
  pub adds_object : (scopes : ℕ) → AddsObject Copying (space_view a upper bump scopes) (space_view b upper (bump + block) scopes) bump object size

bump_from : (bytes : List ℕ) (upper : Bool) (bump head objects : ℕ) → IsSpace bytes upper bump head objects → copying_first_place (length bytes) upper ≤ bump
bump_from bytes upper bump head objects s = Chain-end (copying_size_at bytes) (copying_first_place (length bytes) upper) bump (places_in bytes upper bump) s.chain

bump_positive : (bytes : List ℕ) (upper : Bool) (bump head objects block : ℕ) → IsSpace bytes upper bump head objects → bump + block ≤ half_end (length bytes) upper → 16 ≤ block → 0 < bump
bump_positive bytes upper bump head objects block s fits least =
    let from = bump_from bytes upper bump head objects s in
    elim (skips (length bytes) upper) [
      | nothing e skip start half ↦ absurd (omega arith)
      | sixteen more skip ↦ omega arith
    ]

pub can_place : (bytes : List ℕ) (upper : Bool) (bump head objects scopes size block : ℕ) → IsSpace bytes upper bump head objects → 0 < size
    → TellsRoom (space_view bytes upper bump scopes) size (room.Fits block) → CanPlaceBehind bytes bump objects block
can_place bytes upper bump head objects scopes size block s positive found =
    let fits = room_is bytes upper bump head objects scopes size s positive found.1.0 in
    let rounded : block ≡ round_up size 16 = found.1.1 in
    let least : 16 ≤ block = omega arith in
    let ends : bump + block ≤ half_end (length bytes) upper = omega arith in
    let lies = half_lies (length bytes) upper in
    let many = Chain-length (copying_size_at bytes) (copying_first_place (length bytes) upper) bump (places_in bytes upper bump) s.chain in
    let bound = s.bound in
    let count = s.count in
    record {
      begun = bump_positive bytes upper bump head objects block s ends least;
      least = least;
      room = omega (arith, lies.to);
      small = omega (arith, lies.to);
      count = omega (arith, lies.to);
    }

pub makes : (a b : List ℕ) (upper : Bool) (bump head head' objects size block : ℕ) (object : HeapObject) → IsSpace a upper bump head objects → 0 < size
    → ((scopes : ℕ) → TellsRoom (space_view a upper bump scopes) size (room.Fits block)) → PutsObject a b bump object block → MovesHead b bump head head'
    → Makes a b upper bump block head' objects size object
makes a b upper bump head head' objects size block object s positive found puts moves =
    let fits = room_is a upper bump head objects 0 size s positive (found 0).1.0 in
    let rounded : block ≡ round_up size 16 = (found 0).1.1 in
    let can = can_place a upper bump head objects 0 size block s positive (found 0) in
    let ends : bump + block ≤ half_end (length a) upper = omega arith in
    let added = adds a b upper bump block head head' objects object s puts can.least (omega arith) ends can.begun moves in
    let len : length b ≡ length a = puts.around.same_length in
    let from = bump_from a upper bump head objects s in
    let start : half_start (length a) upper ≤ bump = omega arith in
    let allocated : bump + block - half_start (length b) upper ≡ bump - half_start (length a) upper + round_up size 16 =
    ap (λ n. bump + block - half_start n upper) len ∙ omega arith in
    let aligned : bump % 16 ≡ 0 = Chain-aligned (copying_size_at a) (copying_first_place (length a) upper) bump (places_in a upper bump) s.chain (first_aligned (length a) upper) in
    record {
      space = added.space;
      adds_object = λ scopes. record {
        small = (found scopes).0;
        room = (found scopes).1.0;
        fresh = record { aligned = aligned; not_null = can.begun; free = added.fresh };
        lies = omega arith;
        added = λ i. record {
          attached = true;
          content = added.content i;
          capacity = len i;
          allocated = allocated i;
          needs_gc = upper;
          scopes = scopes;
          counts = no_counts;
        };
      };
    }

-- an object with fields has some bytes
pub size_positive : (k : VMGcKind) (size : ℕ) → first_offset Copying k ≤ size → 0 < size
size_positive ExternRef size h = omega arith
size_positive AnyRef size h = omega arith
size_positive EqRef size h = omega arith
size_positive StructRef size h = omega arith
size_positive ArrayRef size h = omega arith
size_positive ExnRef size h = omega arith

-- no room was found
pub lacks_room : (h : HeapView) (size need : ℕ) → TellsRoom h size (room.Lacks need) → LacksRoom Copying h h need size
lacks_room h size need found = record { small = found.0; no_room = found.1.0; asked = found.1.1; same = refl }

-- A space has a new object at a place.
pub record MakesObject (old new : Space) (place : ℕ) (object : HeapObject) (size : ℕ) : Type 0 where
  pub sound : IsSoundSemiSpace new
  pub adds_object : (scopes : ℕ) → AddsObject Copying (copying_seen_in scopes old) (copying_seen_in scopes new) place object size

pub makes_object : (old new : Space) (m : List ℕ) (place block head size : ℕ) (object : HeapObject)
    → new ≡ record old { memory = m; bump = old.bump + block; externals = head; objects = old.objects + 1 } → place ≡ old.bump
    → Makes old.memory m old.upper old.bump block head old.objects size object → MakesObject old new place object size
makes_object old new m place block head size object is at made =
    subst (λ (s : Space). MakesObject old s place object size) (sym is)
    (subst (λ q. MakesObject old (record old { memory = m; bump = old.bump + block; externals = head; objects = old.objects + 1 }) q object size) (sym at)
    (record { sound = made.space; adds_object = made.adds_object }))

-- an object with that header was made
pub makes_zeroed : (old new : Space) (place block size : ℕ) (h : Header) (k : VMGcKind) → IsSoundSemiSpace old → CanAllocate Copying h size
    → ((scopes : ℕ) → TellsRoom (copying_seen_in scopes old) size (room.Fits block)) → WritesCopyingBlock old.memory new.memory old.bump h block
    → new ≡ record old { memory = new.memory; bump = old.bump + block; objects = old.objects + 1 } → place ≡ old.bump → IsOfKind k h.kind_word
    → MakesObject old new place (zeroed Copying k h.type_word (h.kind_word % spare_bits) size) size
makes_zeroed old new place block size h k s fits found w moved at is =
    let same : fits.kind ≡ k = same_kind fits.kind k (fits.is_kind ∙ sym is) in
    let fields : HasFields k = subst HasFields same fits.has_fields in
    let least : first_offset Copying k ≤ size = subst (λ j. first_offset Copying j ≤ size) same fits.least in
    let spare : SpareFits Copying k size (h.kind_word % spare_bits) = subst (λ j. SpareFits Copying j size (h.kind_word % spare_bits)) same fits.spare in
    let puts = puts_zeroed old.memory new.memory old.bump size block h k w (found 0).1.1 is fields least spare in
    let kind : copying_kind_at new.memory old.bump ≡ k = ap (λ (o : HeapObject). o.kind) puts.object_is in
    let o : HeapObject = zeroed Copying k h.type_word (h.kind_word % spare_bits) size in
    makes_object old new new.memory place block old.externals size o moved at
    (makes old.memory new.memory old.upper old.bump old.externals old.externals old.objects size block o s (size_positive k size least) found puts
    (inl (λ e. not_external k fields (sym kind ∙ e), refl)))

-- an array was made
pub makes_array : (old mid new : Space) (m : List ℕ) (place block size ty count : ℕ) (h : Header) (refs : Bool) → IsSoundSemiSpace old
    → ((scopes : ℕ) → TellsRoom (copying_seen_in scopes old) size (room.Fits block)) → WritesCopyingBlock old.memory mid.memory old.bump h block
    → mid ≡ record old { memory = mid.memory; bump = old.bump + block; objects = old.objects + 1 } → new ≡ record mid { memory = m } → m ≡ put_u32 mid.memory (old.bump + 12) count
    → place ≡ old.bump → IsOfKind ArrayRef h.kind_word → h.type_word ≡ ty → h.kind_word % spare_bits ≡ array_spare Copying refs
    → count < 2 ^ 32 → 16 ≤ size → (refs ≡ true → 16 + count * 4 ≤ size) → MakesObject old new place (zeroed_array Copying ty (array_spare Copying refs) count size) size
makes_array old mid new m place block size ty count h refs s found w moved is written at kind type_is spare small least elements =
    let can = can_place old.memory old.upper old.bump old.externals old.objects 0 size block s (omega arith) (found 0) in
    let puts = puts_array old.memory mid.memory m old.bump size block ty count h refs w written can.room (found 0).1.1 kind type_is spare small least elements in
    let kind_is : copying_kind_at m old.bump ≡ ArrayRef = ap (λ (o : HeapObject). o.kind) puts.object_is in
    let o : HeapObject = zeroed_array Copying ty (array_spare Copying refs) count size in
    makes_object old new m place block old.externals size o (is ∙ ap (λ (x : Space). record x { memory = m }) moved) at
    (makes old.memory m old.upper old.bump old.externals old.externals old.objects size block o s (omega arith) found puts
    (inl (λ e. not_external ArrayRef tt (sym kind_is ∙ e), refl)))

-- the head of the list of external objects is a place of the memory, or 0
pub head_small : (bytes : List ℕ) (upper : Bool) (bump head objects : ℕ) → IsSpace bytes upper bump head objects → head < 2 ^ 32
head_small bytes upper bump head objects s = by_list head s.externals.list s.externals.linked (λ p i. (s.externals.only p i).0)
  where
    by_list : (h : ℕ) (list : List ℕ) → CopyingLinked bytes h list → ((p : ℕ) → In p list → In p (places_in bytes upper bump)) → h < 2 ^ 32
    by_list _ [] last among = omega arith
    by_list _ (p ∷ ps) (link positive rest) among =
        let l = lies_in_space bytes upper bump head objects p s (among p here) in
        let bound = s.bound in
        omega (arith, l.inside)

-- an external object was made
pub makes_external : (old mid new : Space) (m n : List ℕ) (place block id : ℕ) → IsSoundSemiSpace old
    → ((scopes : ℕ) → TellsRoom (copying_seen_in scopes old) 24 (room.Fits block)) → WritesCopyingBlock old.memory mid.memory old.bump (header_of ExternRef (2 ^ 32 - 1)) block
    → mid ≡ record old { memory = mid.memory; bump = old.bump + block; objects = old.objects + 1 } → new ≡ record mid { memory = n; externals = place }
    → m ≡ put_u32 mid.memory (old.bump + 16) (id + 1) → n ≡ put_u32 m (old.bump + 20) old.externals
    → place ≡ old.bump → id + 1 ≤ max_entries → MakesObject old new place (external id) 24
makes_external old mid new m n place block id s found w moved is first second at small =
    let rounded : block ≡ 32 = (found 0).1.1 in
    let can = can_place old.memory old.upper old.bump old.externals old.objects 0 24 block s (omega arith) (found 0) in
    let made = puts_external old.memory mid.memory m n old.bump id old.externals
    (subst (λ k. WritesCopyingBlock old.memory mid.memory old.bump (header_of ExternRef (2 ^ 32 - 1)) k) rounded w) first second (let room = can.room in omega arith) small (head_small old.memory old.upper old.bump old.externals old.objects s) in
    makes_object old new n place block old.bump 24 (external id) (is ∙ ap (λ (x : Space). record x { memory = n; externals = place }) moved
    ∙ ap (λ q. record old { memory = n; bump = old.bump + block; externals = q; objects = old.objects + 1 }) at) at
    (makes old.memory n old.upper old.bump old.externals old.bump old.objects 24 block (external id) s (omega arith) found
    (subst (PutsObject old.memory n old.bump (external id)) (sym rounded) made.puts) (inr (made.kind, (refl, made.next))))

elements_fit : (layout : GcArrayLayout) (count : ℕ) → ArrayTraces Copying layout → layout.elems_are_gc_refs ≡ true → 16 + count * 4 ≤ array_size layout count
elements_fit layout count traces e =
    let t = traces e in
    subst (λ w. 16 + count * 4 ≤ layout.base_size + count * w) (sym t.1) (omega (arith, t.0))

-- the link of an external object lies in it
pub link_fits : (h : Header) (word : FirstWord) (size : ℕ) → CanMake Copying h word size → link_end word ≤ size
link_fits h begin.Zero size can = omega arith
link_fits h (begin.Length count) size can = omega arith
link_fits h (begin.Host id) size can = omega (arith, can.1)

-- an object was made of a header and a first word
pub makes_made : (old mid new : Space) (place block size : ℕ) (h : Header) (word : FirstWord) (k : VMGcKind) → IsSoundSemiSpace old → CanMake Copying h word size
    → ((id : ℕ) → word ≡ begin.Host id → id + 1 ≤ max_entries) → ((scopes : ℕ) → TellsRoom (copying_seen_in scopes old) size (room.Fits block))
    → WritesCopyingBlock old.memory mid.memory old.bump h block → mid ≡ record old { memory = mid.memory; bump = old.bump + block; objects = old.objects + 1 }
    → new ≡ with_link (record mid { memory = with_first_word Copying mid.memory place word }) place word → place ≡ old.bump → IsOfKind k h.kind_word
    → MakesObject old new place (made Copying k h word size) size
makes_made old mid new place block size h begin.Zero k s can bound found w moved is at kind =
    subst (λ (x : Space). MakesObject old x place (made Copying k h begin.Zero size) size) (sym is) (makes_zeroed old mid place block size h k s can found w moved at kind)
makes_made old mid new place block size h (begin.Length count) k s can bound found w moved is at kind =
    let least : 16 ≤ size = subst (λ n. 16 ≤ n) (sym can.size_is) (array_least can.layout count 16 can.least) in
    subst (λ (n : ℕ). MakesObject old new place (zeroed_array Copying h.type_word n count size) size) (sym can.spare)
    (makes_array old mid new (put_u32 mid.memory (place + 12) count) place block size h.type_word count h can.layout.elems_are_gc_refs s found w moved is
    (ap (λ p. put_u32 mid.memory (p + 12) count) at) at can.is_kind refl can.spare can.small least
    (λ e. subst (λ n. 16 + count * 4 ≤ n) (sym can.size_is) (elements_fit can.layout count can.traces e)))
makes_made old mid new place block size h (begin.Host id) k s can bound found w moved is at kind =
    let m : List ℕ = put_u32 mid.memory (place + 16) (id + 1) in
    let head : mid.externals ≡ old.externals = ap (λ (x : Space). x.externals) moved in
    subst (λ (n : ℕ). MakesObject old new place (external id) n) (sym can.1)
    (makes_external old mid new m (put_u32 m (place + 20) mid.externals) place block id s (λ scopes. subst (λ n. TellsRoom (copying_seen_in scopes old) n (room.Fits block)) can.1 (found scopes))
    (subst (λ x. WritesCopyingBlock old.memory mid.memory old.bump x block) can.0 w) moved is (ap (λ p. put_u32 mid.memory (p + 16) (id + 1)) at) (ap₂ (λ p e. put_u32 m (p + 20) e) at head) at (bound id refl))
