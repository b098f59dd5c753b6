-- The objects that allocations make.
use Rattle.std.proofs.Common.{◌≡◌, ℕ, ◌+◌, ◌-◌, ◌*◌, ◌/◌, ◌%◌, ◌<◌, ◌≤◌, ◌^◌, List, [], ◌∷◌, ◌++◌, take, drop, length, replicate, Err, refl, sym, ap, subst, ◌∙◌, arith}
use Rattle.std.specs.Int.{w32, to_le_bytes}
use Rattle.std.proofs.lemmas.List.{drop-replicate}
use Rattle.gc_types.specs.declared.kind.Layouts.TheVariants.{Counting}
use Rattle.gc_types.specs.declared.kind.VMGcKind.{VMGcKind}
use Rattle.gc_types.specs.declared.kind.VMGcKind.TheVariants.{ExternRef, AnyRef, EqRef, StructRef, ArrayRef, ExnRef}
use Rattle.gc_types.specs.Kinds.{kind_bits, kind_of}
use Rattle.gc_types.proofs.KindLemmas.{kind_of-kind_bits, same_kind}
use Rattle.gc_refs.specs.Header.{Header, header_of, spare_bits, kind_part, IsOfKind}
use Rattle.gc_tables.specs.SideTables.{max_entries}
use Rattle.gc_memory.specs.Words.{word}
use Rattle.gc_memory.specs.Changes.{Wrote}
use Rattle.gc_memory.proofs.ChangeLemmas.{Wrote-within, Wrote-then, Wrote-put_u32}
use Rattle.gc_memory.proofs.WordLemmas.{word_before, word64_before, word-put_u32}
use Rattle.gc_view.specs.Bytes.{put_bytes}
use Rattle.gc_view.proofs.ByteLemmas.{part-put_bytes_inside}
use Rattle.gc_view.specs.Bytes.{put_u32}
use Rattle.gc_view.specs.Heaps.{HeapObject}
use Rattle.gc_heap.specs.Objects.{first_offset, zeroed, zeroed_array, external, IsObjectKind, HasFields}
use Rattle.gc_heap.specs.Heap.{LacksRoom, Allocated, CanAllocate, IsTooLarge}
use Rattle.gc_heap.specs.Making.{CanMake, made, with_first_word}
use Rattle.gc_heap.specs.declared.new_object.FirstWord.{FirstWord}
use Rattle.gc_heap.specs.declared.new_object.FirstWord.TheVariants as begin
use Rattle.gc_heap.proofs.MakingLemmas.{array_least, not_external, object_kind_of}
use Rattle.gc_view.specs.Sizes.{need_of}
use Rattle.gc_heap.specs.declared.fault.HeapFault.{HeapFault}
use Rattle.gc_heap.specs.declared.fault.HeapFault.TheVariants as fault
use Rattle.gc_drc.specs.declared.space.CountedSpace.{CountedSpace}
use Rattle.gc_drc.specs.Layout.{count_at, counting_size_at, counting_kind_at, counting_data_at, counting_object_at, IsCountingWhole, HasCountingHost}
use Rattle.gc_drc.specs.Content.{counting_seen_in, IsSoundSpace}
use Rattle.gc_drc.specs.Placing.{placed_space, WritesCountingBlock, IsBlockPlaced, TakesBlock, KeepsBlocks, LacksFreeRun, PlacesBlock}
use Rattle.gc_drc.proofs.NewObjects.{PutsObject}
use Rattle.gc_drc.proofs.TendLemmas.{same_object}
use Rattle.gc_drc.proofs.MakeLemmas.{new_place, Makes, makes, no_room, kept_seen, kept_sound}

-- the kind of an object is that of its header
pub kind_by_header : (b : List ℕ) (p w : ℕ) (k : VMGcKind) → word b p ≡ w → IsOfKind k w → counting_kind_at b p ≡ k
unfolding counting_kind_at
kind_by_header b p w k e is = ap (λ v. kind_of (kind_part v)) e ∙ ap kind_of (sym is) ∙ kind_of-kind_bits k

pub least_first : (k : VMGcKind) (size : ℕ) → first_offset Counting k ≤ size → 28 ≤ size
least_first ExternRef size h = omega arith
least_first AnyRef size h = omega arith
least_first EqRef size h = omega arith
least_first StructRef size h = omega arith
least_first ArrayRef size h = omega arith
least_first ExnRef size h = omega arith

-- an object that is known is whole
whole_of : (b : List ℕ) (p : ℕ) (o : HeapObject) → counting_object_at b p ≡ o → IsOfKind o.kind (word b p) → IsObjectKind o.kind → first_offset Counting o.kind ≤ counting_size_at b p
    → (o.kind ≡ ExternRef → HasCountingHost b p) → IsCountingWhole b p
whole_of b p o is kind object_kind least external =
    let same : counting_kind_at b p ≡ o.kind = ap (λ (x : HeapObject). x.kind) is in
    record {
      kind = ap kind_bits same ∙ kind;
      object_kind = subst IsObjectKind (sym same) object_kind;
      least = subst (λ k. first_offset Counting k ≤ counting_size_at b p) (sym same) least;
      external = λ e. external (sym same ∙ e);
    }

spare_same : (a b : ℕ) → a ≡ b → b ≡ 0 → a / 8 * 8 ≡ b
spare_same a b e z = omega arith

-- a header with zeros behind it is a new object
pub puts_zeroed : (a b : List ℕ) (p size : ℕ) (h : Header) (k : VMGcKind) → WritesCountingBlock a b p h size → IsOfKind k h.kind_word → HasFields k → first_offset Counting k ≤ size
    → h.kind_word % spare_bits ≡ 0 → PutsObject a b p (zeroed Counting k h.type_word (h.kind_word % spare_bits) size) size
puts_zeroed a b p size h k w kind fields least none =
    let o : HeapObject = zeroed Counting k h.type_word (h.kind_word % spare_bits) size in
    let kw = w.kind_word in
    let bytes_are : counting_data_at b p ≡ replicate (size - 28) 0 = ap (λ n. take (n - 28) (drop (p + 28) b)) w.size_word ∙ w.zeros in
    let is : counting_object_at b p ≡ o = same_object _ _ (kind_by_header b p h.kind_word k w.kind_word kind) w.type_word
    (spare_same (word b p % spare_bits) (h.kind_word % spare_bits) (ap (λ n. n % spare_bits) w.kind_word) none) bytes_are in
    record {
      around = w.around;
      size_is = w.size_word;
      count_is = w.count_word;
      flags_are = omega arith;
      whole = whole_of b p o is (kind ∙ ap kind_part (sym w.kind_word)) (object_kind_of k fields) (subst (λ n. first_offset Counting k ≤ n) (sym w.size_word) least)
          (λ e. absurd (not_external k fields e));
      object_is = is;
    }

-- a word that is written at the front of zeros
front_of_zeros : (a b : List ℕ) (p size n : ℕ) → 32 ≤ size → p + size ≤ length a → b ≡ put_u32 a (p + 28) n → take (size - 28) (drop (p + 28) a) ≡ replicate (size - 28) 0
    → take (size - 28) (drop (p + 28) b) ≡ to_le_bytes w32 n ++ replicate (size - 32) 0
front_of_zeros a b p size n least room written zeros =
    let here : p + 28 - (p + 28) ≡ 0 = omega arith in
    let left : size - 28 - 4 ≡ size - 32 = omega arith in
    ap (λ x. take (size - 28) (drop (p + 28) x)) written
    ∙ part-put_bytes_inside a (p + 28) (size - 28) (p + 28) (to_le_bytes w32 n) (omega arith) (omega arith) (omega arith)
    ∙ ap (λ i. put_bytes (take (size - 28) (drop (p + 28) a)) i (to_le_bytes w32 n)) here
    ∙ ap (λ x. put_bytes x 0 (to_le_bytes w32 n)) zeros
    ∙ ap (λ x. to_le_bytes w32 n ++ x) (drop-replicate 4 (size - 28) 0 ∙ ap (λ n. replicate n 0) left)

-- What is known where the first word of the data was written too.
record Fronts (a b : List ℕ) (p size n : ℕ) (h : Header) : Type 0 where
  pub around : Wrote a b p size
  pub kind_word : word b p ≡ h.kind_word
  pub type_word : word b (p + 4) ≡ h.type_word
  pub count_word : count_at b p ≡ 1
  pub size_word : counting_size_at b p ≡ size
  pub front : word b (p + 28) ≡ n
  pub bytes_are : counting_data_at b p ≡ to_le_bytes w32 n ++ replicate (size - 32) 0

fronts : (a m b : List ℕ) (p size n : ℕ) (h : Header) → WritesCountingBlock a m p h size → b ≡ put_u32 m (p + 28) n → p + size ≤ length a → 32 ≤ size → n < 2 ^ 32 → Fronts a b p size n h
fronts a m b p size n h w written room least small =
    let len : length m ≡ length a = w.around.same_length in
    let x : Wrote m b (p + 28) 4 = subst (λ y. Wrote m y (p + 28) 4) (sym written) (Wrote-put_u32 m (p + 28) n (omega arith)) in
    let sized : counting_size_at b p ≡ size = word_before x (p + 20) (omega arith) ∙ w.size_word in
    record {
      around = Wrote-then w.around (Wrote-within x p size (omega arith) (omega arith));
      kind_word = word_before x p (omega arith) ∙ w.kind_word;
      type_word = word_before x (p + 4) (omega arith) ∙ w.type_word;
      count_word = word64_before x (p + 8) (omega arith) ∙ w.count_word;
      size_word = sized;
      front = ap (λ z. word z (p + 28)) written ∙ word-put_u32 m (p + 28) n (omega arith) small;
      bytes_are = ap (λ k. take (k - 28) (drop (p + 28) b)) sized ∙ front_of_zeros m b p size n least (omega arith) written w.zeros;
    }

-- a header with a length and zeros behind it is a new array
pub puts_array : (a m b : List ℕ) (p size ty count : ℕ) (h : Header) → WritesCountingBlock a m p h size → b ≡ put_u32 m (p + 28) count → p + size ≤ length a → 32 ≤ size → count < 2 ^ 32
    → IsOfKind ArrayRef h.kind_word → h.type_word ≡ ty → h.kind_word % spare_bits ≡ 0 → PutsObject a b p (zeroed_array Counting ty 0 count size) size
puts_array a m b p size ty count h w written room least small kind type_is none =
    let f = fronts a m b p size count h w written room least small in
    let kw = f.kind_word in
    let is : counting_object_at b p ≡ zeroed_array Counting ty 0 count size = same_object _ _ (kind_by_header b p h.kind_word ArrayRef f.kind_word kind) (f.type_word ∙ type_is)
    (spare_same (word b p % spare_bits) 0 (ap (λ n. n % spare_bits) f.kind_word ∙ none) refl) f.bytes_are in
    record {
      around = f.around;
      size_is = f.size_word;
      count_is = f.count_word;
      flags_are = omega arith;
      whole = whole_of b p (zeroed_array Counting ty 0 count size) is (kind ∙ ap kind_part (sym f.kind_word)) tt (subst (λ n. 32 ≤ n) (sym f.size_word) least)
          (λ e. absurd (not_external ArrayRef tt e));
      object_is = is;
    }

append-none : (xs : List ℕ) → xs ++ [] ≡ xs
append-none [] = refl
append-none (x ∷ xs) = ap (λ ys. x ∷ ys) (append-none xs)

-- a header with a host id behind it is a new external object
pub puts_external : (a m b : List ℕ) (p id : ℕ) → WritesCountingBlock a m p (header_of ExternRef (2 ^ 32 - 1)) 32 → b ≡ put_u32 m (p + 28) (id + 1) → p + 32 ≤ length a → id + 1 ≤ max_entries
    → PutsObject a b p (external id) 32
puts_external a m b p id w written room small =
    let h : Header = header_of ExternRef (2 ^ 32 - 1) in
    let f = fronts a m b p 32 (id + 1) h w written room (omega arith) (omega arith) in
    let kw : word b p ≡ kind_bits ExternRef = f.kind_word in
    let front = f.front in
    let is : counting_object_at b p ≡ external id = same_object _ _ (kind_by_header b p (kind_bits ExternRef) ExternRef kw refl) f.type_word
    (ap (λ n. n % spare_bits / 8 * 8) kw) (f.bytes_are ∙ append-none (to_le_bytes w32 (id + 1))) in
    record {
      around = f.around;
      size_is = f.size_word;
      count_is = f.count_word;
      flags_are = ap (λ n. n % 8) kw;
      whole = whole_of b p (external id) is (ap kind_part (sym kw)) tt (subst (λ n. 32 ≤ n) (sym f.size_word) (omega arith))
          (λ e. record { size = f.size_word; from = omega arith; to = omega arith });
      object_is = is;
    }

-- AN ALLOCATION

room_of : (s u : CountedSpace) (p size : ℕ) → IsSoundSpace s → TakesBlock s u p size → 28 ≤ size → p + size ≤ length s.memory
room_of s u p size sound taken least = let inside = (new_place sound.view s u p size sound.holds taken (omega arith)).inside in omega arith

pub alloc_zeroed : (s t : CountedSpace) (p size : ℕ) (h : Header) (k : VMGcKind) → IsSoundSpace s → CanAllocate Counting h size → (IsTooLarge Counting size → ⊥) → IsBlockPlaced s t h size p
    → IsOfKind k h.kind_word → Makes s t p size (zeroed Counting k h.type_word (h.kind_word % spare_bits) size)
alloc_zeroed s t p size h k sound can small placed is =
    let same : can.kind ≡ k = same_kind can.kind k (can.is_kind ∙ sym is) in
    let least : first_offset Counting k ≤ size = subst (λ j. first_offset Counting j ≤ size) same can.least in
    let many = least_first k size least in
    makes s placed.between t t.memory p size _ sound small placed.taken (omega arith)
    (puts_zeroed s.memory t.memory p size h k placed.block is (subst HasFields same can.has_fields) least can.spare) placed.is

placed_more : (s t u m : CountedSpace) (size : ℕ) (bytes : List ℕ) → m ≡ placed_space s u m.memory size → t ≡ record m { memory = bytes } → t ≡ placed_space s u bytes size
placed_more s t u m size bytes is more = more ∙ ap (λ (x : CountedSpace). record x { memory = bytes }) is

pub alloc_array_of : (s m t : CountedSpace) (bytes : List ℕ) (p size ty count : ℕ) (h : Header) → IsSoundSpace s → (IsTooLarge Counting size → ⊥) → IsBlockPlaced s m h size p
    → t ≡ record m { memory = bytes } → bytes ≡ put_u32 m.memory (p + 28) count → 32 ≤ size → count < 2 ^ 32 → IsOfKind ArrayRef h.kind_word → h.type_word ≡ ty → h.kind_word % spare_bits ≡ 0
    → Makes s t p size (zeroed_array Counting ty 0 count size)
alloc_array_of s m t bytes p size ty count h sound small placed is written least count_small kind type_is none =
    makes s placed.between t bytes p size _ sound small placed.taken (omega arith)
    (puts_array s.memory m.memory bytes p size ty count h placed.block written (room_of s placed.between p size sound placed.taken (omega arith)) least count_small kind type_is none)
    (placed_more s t placed.between m size bytes placed.is is)

pub alloc_external_of : (s m t : CountedSpace) (bytes : List ℕ) (p id : ℕ) → IsSoundSpace s → (IsTooLarge Counting 32 → ⊥) → IsBlockPlaced s m (header_of ExternRef (2 ^ 32 - 1)) 32 p
    → t ≡ record m { memory = bytes } → bytes ≡ put_u32 m.memory (p + 28) (id + 1) → id + 1 ≤ max_entries → Makes s t p 32 (external id)
alloc_external_of s m t bytes p id sound small placed is written id_small =
    makes s placed.between t bytes p 32 _ sound small placed.taken (omega arith)
    (puts_external s.memory m.memory bytes p id placed.block written (room_of s placed.between p 32 sound placed.taken (omega arith)) id_small)
    (placed_more s t placed.between m 32 bytes placed.is is)

-- the bytes of a new object lie in the memory
pub front_room : (s m : CountedSpace) (p size : ℕ) (h : Header) → IsSoundSpace s → IsBlockPlaced s m h size p → 28 ≤ size → p + size ≤ length m.memory
front_room s m p size h sound placed least =
    let len = placed.block.around.same_length in
    let room = room_of s placed.between p size sound placed.taken least in omega arith

-- an allocation that made nothing
pub lacks_room : (s t : CountedSpace) (size need scopes : ℕ) → IsSoundSpace s → 0 < size → (IsTooLarge Counting size → ⊥) → LacksFreeRun s size → need ≡ need_of Counting size → KeepsBlocks s t
    → LacksRoom Counting (counting_seen_in scopes s) (counting_seen_in scopes t) need size
lacks_room s t size need scopes sound positive small full asked kept =
    record { small = small; no_room = no_room s size scopes sound positive full; asked = asked; same = kept_seen s t scopes kept }

pub not_made : (s t : CountedSpace) (h : Header) (o : HeapObject) (size scopes : ℕ) (f : HeapFault) → PlacesBlock s t h size (Err f) → Allocated Counting (counting_seen_in scopes s) (counting_seen_in scopes t) o size (Err f)
not_made s t h o size scopes fault.TooLarge placed = (placed.0, kept_seen s t scopes placed.1)
not_made s t h o size scopes fault.Memory placed = kept_seen s t scopes placed

pub not_made_sound : (s t : CountedSpace) (h : Header) (size : ℕ) (f : HeapFault) → IsSoundSpace s → PlacesBlock s t h size (Err f) → IsSoundSpace t
not_made_sound s t h size fault.TooLarge sound placed = kept_sound s t sound placed.1
not_made_sound s t h size fault.Memory sound placed = kept_sound s t sound placed

-- an object was made of a header and a first word
pub makes_made : (s m t : CountedSpace) (p size : ℕ) (h : Header) (word : FirstWord) (k : VMGcKind) → IsSoundSpace s → CanMake Counting h word size
    → ((id : ℕ) → word ≡ begin.Host id → id + 1 ≤ max_entries) → (IsTooLarge Counting size → ⊥) → IsBlockPlaced s m h size p
    → t ≡ record m { memory = with_first_word Counting m.memory p word } → IsOfKind k h.kind_word → Makes s t p size (made Counting k h word size)
makes_made s m t p size h begin.Zero k sound can bound small placed is kind =
    subst (λ (x : CountedSpace). Makes s x p size (made Counting k h begin.Zero size)) (sym is) (alloc_zeroed s m p size h k sound can small placed kind)
makes_made s m t p size h (begin.Length count) k sound can bound small placed is kind =
    let least : 32 ≤ size = subst (λ n. 32 ≤ n) (sym can.size_is) (array_least can.layout count 32 can.least) in
    subst (λ (n : ℕ). Makes s t p size (zeroed_array Counting h.type_word n count size)) (sym can.spare)
    (alloc_array_of s m t (put_u32 m.memory (p + 28) count) p size h.type_word count h sound small placed is refl least can.small can.is_kind refl can.spare)
makes_made s m t p size h (begin.Host id) k sound can bound small placed is kind =
    let external_small : IsTooLarge Counting 32 → ⊥ = subst (λ n. IsTooLarge Counting n → ⊥) can.1 small in
    let at : IsBlockPlaced s m (header_of ExternRef (2 ^ 32 - 1)) 32 p = subst (λ n. IsBlockPlaced s m (header_of ExternRef (2 ^ 32 - 1)) n p) can.1 (subst (λ x. IsBlockPlaced s m x size p) can.0 placed) in
    subst (λ (n : ℕ). Makes s t p n (external id)) (sym can.1) (alloc_external_of s m t (put_u32 m.memory (p + 28) (id + 1)) p id sound external_small at is refl (bound id refl))
