-- What differs between the kinds of heap: one record, with one value a kind. How large objects are, and how
-- many bytes a heap wants, stands below (`SizeRules` of `gc_view`); where references lie in `References`.
use Rattle.std.specs.Prelude.{Bool, List, Some, false, not, true, if◌then◌else◌, length, map, sum, ℕ, ◌%◌, ◌*◌, ◌+◌, ◌-◌, ◌/◌, ◌^◌, ◌<◌, ◌==◌, ◌≡◌, ◌≤◌, ◌⊎◌, All}
use Rattle.std.specs.FinMap as finite
use Rattle.gc_types.specs.Declarations.{Declaration}
use Rattle.gc_types.specs.declared.kind.Layouts.{Layouts}
use Rattle.gc_types.specs.declared.kind.Layouts.TheVariants.{Null, Counting, Copying}
use Rattle.gc_types.specs.declared.kind.VMGcKind.{VMGcKind}
use Rattle.gc_types.specs.declared.layout.GcStructLayout.{GcStructLayout}
use Rattle.gc_types.specs.declared.layout.GcArrayLayout.{GcArrayLayout}
use Rattle.gc_types.specs.Layouts.{ref_offsets, round_up}
use Rattle.gc_refs.specs.Trace.{form_unit, form_of}
use Rattle.gc_roots.specs.Roots.{Root}
use Rattle.gc_memory.specs.Offsets.{counting_size_offset, copying_size_offset}
use Rattle.gc_view.specs.Bytes.{u32_at}
use Rattle.gc_view.specs.Sizes.{alignment}
use Rattle.gc_view.specs.Heaps.{HeapObject, HeapView, Counts, no_counts}
use Rattle.gc_heap.specs.Extents.{held_size}
use Rattle.gc_heap.specs.References.{HoldsType, IsTraceWord, IsTraceable, bitmap_of, is_past_bitmap}
use Rattle.gc_heap.specs.Space.{IsFree, EndsAt, IsHeld, TellsCounts, LiesInHalf, TracesInside, block_size, half_of, active_half_start, total}
use Rattle.gc_heap.specs.Starts.{AreReached, CountsAnew, CountsExact, ReachedPlace, Start, Stays, objects_per_increment, present_words, reference_count}

-- The rules of one kind of heap.
pub record HeapRules : Type 1 where
  -- Memory: when there is room for an object of so many bytes, and where it then lies; how many bytes are
  -- allocated in an empty heap, after a growth, and after an object; what these say of the objects.
  pub Room : HeapView → ℕ → Type 0
  pub Place : HeapView → ℕ → ℕ → Type 0
  pub at_first : ℕ → ℕ
  pub in_more : HeapView → ℕ → ℕ
  pub after : ℕ → ℕ → ℕ
  pub Allocates : HeapView → Type 0
  -- what is true of this kind alone
  pub Owes : HeapView → Type 0
  -- the counts after an object was made at a place, and the heap after one was given back
  pub counts : Counts → ℕ → Counts
  pub back : HeapView → ℕ → HeapObject → HeapView
  -- Headers: the spare bits of a held object, of its header, of a new object, and after a header was set; and
  -- the word that tells an object's size.
  pub Spare : HeapObject → Type 0
  pub HeaderSpare : HeapObject → ℕ → Type 0
  pub NewSpare : VMGcKind → ℕ → ℕ → Type 0
  pub for_struct : List ℕ → ℕ
  pub for_array : Bool → ℕ
  pub set_spare : HeapObject → ℕ → HeapObject
  pub SizeWord : HeapObject → List ℕ → Type 0
  -- tracing: which layouts the heap can trace, and what it has to know of an object's type
  pub TracesLayout : GcStructLayout → ℕ → Type 0
  pub TracesArray : GcArrayLayout → Type 0
  pub Typed : List Declaration → HeapObject → Type 0
  -- Collections: what must be counted, what is kept, in how many increments and counted steps, and what of
  -- the heap is left besides.
  pub Counted : List Declaration → HeapView → List Root → Type 0
  pub Keeps : Start → ℕ → Type 0
  pub Increments : Start → ℕ → Type 0
  pub StepCount : Start → ℕ → Type 0
  pub Leaves : Start → (ℕ → ℕ) → HeapView → List Root → Type 0

-- The null heap: objects lie one behind the other, and none is ever freed. An object's size stands in the
-- spare bits of its header.
abbrev pub null_rules : HeapRules
null_rules = record {
  Room = λ h size. round_up (h.allocated + 1) alignment + size ≤ h.capacity;
  Place = λ h place size. place ≡ round_up (h.allocated + 1) alignment;
  at_first = λ bytes. 0;
  in_more = λ h bytes. h.allocated;
  after = λ allocated size. round_up (allocated + 1) alignment + size - 1;
  Allocates = λ h. (place : ℕ) (o : HeapObject) → finite.get h.content place ≡ Some o → place + held_size Null o ≤ h.allocated + 1;
  Owes = λ h. (h.counts ≡ no_counts) × (h.needs_gc ≡ false);
  counts = λ c place. c;
  back = λ h place object. h;
  Spare = λ o. o.spare ≡ 0;
  HeaderSpare = λ o spare. spare ≡ held_size Null o;
  NewSpare = λ kind size word. word ≡ 0;
  for_struct = λ offsets. 0;
  for_array = λ elems_are_refs. 0;
  set_spare = λ object spare. object;
  SizeWord = λ o bytes. Unit {0};
  TracesLayout = λ layout first. Unit {0};
  TracesArray = λ layout. Unit {0};
  Typed = λ types o. HoldsType Null types o o.kind;
  Counted = λ types h roots. Unit {0};
  Keeps = λ s place. IsHeld s.heap place;
  Increments = λ s n. n ≡ 1;
  StepCount = λ s n. Unit {0};
  Leaves = λ s to h roots. (h ≡ s.heap) × Stays (IsHeld s.heap) to s.heap h;
}

-- The counting heap: objects lie in blocks between free stretches, and a place is counted. Of an object's
-- spare bits the lowest three are the heap's own. No object moves.
abbrev pub counting_rules : HeapRules
counting_rules = record {
  Room = λ h size. (place : ℕ) × IsFree h place (round_up size alignment);
  Place = λ h place size. IsFree h place (round_up size alignment) × ((place ≡ 16) ⊎ EndsAt h place);
  at_first = λ bytes. 0;
  in_more = λ h bytes. h.allocated;
  after = λ allocated size. allocated + round_up size alignment;
  Allocates = λ h. h.allocated ≡ total (block_size Counting) h.content;
  Owes = λ h. TellsCounts h × (h.needs_gc ≡ false);
  counts = λ c place. record c { counted = finite.insert c.counted place 1 };
  back = λ h place object. record h {
    content = finite.remove h.content place;
    allocated = h.allocated - block_size Counting object;
    counts = record h.counts { counted = finite.remove h.counts.counted place };
  };
  Spare = λ o. (o.spare % 8 ≡ 0) × (o.spare < 2 ^ 26);
  HeaderSpare = λ o spare. spare / 8 * 8 ≡ o.spare;
  NewSpare = λ kind size word. word ≡ 0;
  for_struct = λ offsets. 0;
  for_array = λ elems_are_refs. 0;
  set_spare = λ object spare. record object { spare = spare / 8 * 8 };
  SizeWord = λ o bytes. u32_at bytes counting_size_offset ≡ held_size Counting o;
  TracesLayout = λ layout first. Unit {0};
  TracesArray = λ layout. Unit {0};
  Typed = λ types o. HoldsType Counting types o o.kind;
  Counted = λ types h roots. CountsExact types h roots;
  Keeps = λ s place. ReachedPlace Counting s place;
  Increments = λ s n. n ≡ 3;
  StepCount = λ s n. Unit {0};
  Leaves = λ s to h roots. Stays (ReachedPlace Counting s) to s.heap h × (CountsAnew s.types h roots × (h.needs_gc ≡ false));
}

-- The copying heap: one half of the memory holds all objects, one behind the other behind 16 bytes, and a
-- collection moves those that it keeps to the other half. An object's spare bits are its trace word.
abbrev pub copying_rules : HeapRules
copying_rules = record {
  Room = λ h size. 16 + total (block_size Copying) h.content + round_up size alignment ≤ half_of h.capacity;
  Place = λ h place size. place ≡ active_half_start h + h.allocated;
  at_first = λ bytes. if bytes == 0 then 0 else 16;
  in_more = λ h bytes. if h.capacity == 0 then (if bytes == 0 then 0 else 16) else h.allocated;
  after = λ allocated size. allocated + round_up size alignment;
  Allocates = λ h. h.allocated ≡ (if h.capacity == 0 then 0 else 16 + total (block_size Copying) h.content);
  Owes = λ h. LiesInHalf h;
  counts = λ c place. c;
  back = λ h place object. h;
  Spare = λ o. (o.spare < 2 ^ 25) × TracesInside o o.kind;
  HeaderSpare = λ o spare. spare ≡ o.spare;
  NewSpare = λ kind size word. (word < 4 * form_unit) × IsTraceWord kind size word;
  for_struct = λ offsets. if is_past_bitmap offsets then 2 * form_unit else bitmap_of offsets;
  for_array = λ elems_are_refs. form_unit + (if elems_are_refs then 1 else 0);
  set_spare = λ object spare. object;
  SizeWord = λ o bytes. u32_at bytes copying_size_offset ≡ held_size Copying o;
  TracesLayout = λ layout first. All (IsTraceable first layout.size) (ref_offsets layout.fields);
  TracesArray = λ layout. layout.elems_are_gc_refs ≡ true → (layout.base_size ≡ 16) × (layout.elem_size ≡ 4);
  Typed = λ types o. form_of o.spare ≡ 2 → HoldsType Copying types o o.kind;
  Counted = λ types h roots. Unit {0};
  Keeps = λ s place. ReachedPlace Copying s place;
  Increments = λ s n. (places : List ℕ) × (AreReached Copying s places × (n ≡ length places / objects_per_increment + 3));
  StepCount = λ s n. (places : List ℕ) × (AreReached Copying s places
      × (n ≡ length places + sum (map (λ (place : ℕ). reference_count Copying s.types (finite.get s.heap.content place)) places)
      + length (present_words s.roots)));
  Leaves = λ s to h roots. h.needs_gc ≡ not s.heap.needs_gc;
}

-- the rules of each kind
abbrev pub rules : Layouts → HeapRules
rules Null = null_rules
rules Counting = counting_rules
rules Copying = copying_rules

-- The bytes that are allocated in an empty heap: the first 16 bytes of a half hold no object.
abbrev pub allocated_at_first : Layouts → ℕ → ℕ
allocated_at_first layouts bytes = (rules layouts).at_first bytes

-- the bytes that are allocated after a growth: a copying heap that had no memory skips its first 16
abbrev pub allocated_in_more : Layouts → HeapView → ℕ → ℕ
allocated_in_more layouts h bytes = (rules layouts).in_more h bytes

-- There is room for an object of that size: behind the last object of a null heap; between the
-- objects of a counting heap; and in a copying heap half of the memory holds all objects and this one,
-- each in whole multiples of 16, behind its first 16 bytes.
abbrev pub HasRoom : Layouts → HeapView → ℕ → Type 0
HasRoom layouts h size = (rules layouts).Room h size

-- Where a new object of that size lies: behind the last object of a null heap; at the front of a free
-- stretch of a counting heap, which is not told which; and behind the last object of the active half.
abbrev pub IsPlaceFor : Layouts → HeapView → ℕ → ℕ → Type 0
IsPlaceFor layouts h place size = (rules layouts).Place h place size

-- the bytes that are allocated after an object of that size
abbrev pub allocated_after : Layouts → ℕ → ℕ → ℕ
allocated_after layouts allocated size = (rules layouts).after allocated size

-- the allocated bytes, where the objects alone determine them: the blocks of a counting heap; the
-- blocks of a copying heap and the 16 bytes before them, where it has any memory; in a null heap all
-- objects lie below them
abbrev pub AllocatedIs : Layouts → HeapView → Type 0
AllocatedIs layouts h = (rules layouts).Allocates h

-- what one kind of heap owes alone: counts where it tells them; a half that holds all objects; only a
-- copying heap asks for a collection before it grows, exactly while its upper half is active
abbrev pub KindIs : Layouts → HeapView → Type 0
KindIs layouts h = (rules layouts).Owes h

-- the counts after an object was made: its maker's word names it
abbrev pub counts_with : Layouts → Counts → ℕ → Counts
counts_with layouts c place = (rules layouts).counts c place

-- A held struct, exception or array is given back: a counting heap frees it, the others keep it as
-- garbage.
abbrev pub given_back : Layouts → HeapView → ℕ → HeapObject → HeapView
given_back layouts h place object = (rules layouts).back h place object

-- The spare bits of a held object: its trace word in a copying heap, its maker's bits in a counting
-- heap, which lie above the heap's own three, else 0.
abbrev pub IsSpare : Layouts → HeapObject → Type 0
IsSpare layouts o = (rules layouts).Spare o

-- the spare bits of a header as they tell an object: the copying heap keeps its maker's trace word
-- there, the counting heap its own three bits below the maker's, the null heap the object's size
abbrev pub SpareIs : Layouts → HeapObject → ℕ → Type 0
SpareIs layouts o spare = (rules layouts).HeaderSpare o spare

-- What the spare bits of a new object's header must be: a trace word in a copying heap, else 0.
abbrev pub SpareFits : Layouts → VMGcKind → ℕ → ℕ → Type 0
SpareFits layouts kind size word = (rules layouts).NewSpare kind size word

-- the spare bits that a struct or an exception with references at these offsets is made with
abbrev pub struct_spare : Layouts → List ℕ → ℕ
struct_spare layouts offsets = (rules layouts).for_struct offsets

-- the spare bits that an array is made with
abbrev pub array_spare : Layouts → Bool → ℕ
array_spare layouts elems_are_refs = (rules layouts).for_array elems_are_refs

-- an object after its header was set: a counting heap takes the spare bits above its own three
abbrev pub with_spare_of : Layouts → HeapObject → ℕ → HeapObject
with_spare_of layouts object spare = (rules layouts).set_spare object spare

-- the word of an object that tells its size; the null heap has none
abbrev pub SizeWordIs : Layouts → HeapObject → List ℕ → Type 0
SizeWordIs layouts o bytes = (rules layouts).SizeWord o bytes

-- What a copying heap asks of a layout besides: it must be able to trace it.
abbrev pub LayoutTraces : Layouts → GcStructLayout → ℕ → Type 0
LayoutTraces layouts layout first = (rules layouts).TracesLayout layout first

abbrev pub ArrayTraces : Layouts → GcArrayLayout → Type 0
ArrayTraces layouts layout = (rules layouts).TracesArray layout

-- the type of an object is known as far as the heap traces the object by it
abbrev pub IsTyped : Layouts → List Declaration → HeapObject → Type 0
IsTyped layouts types o = (rules layouts).Typed types o

-- the counts of a heap that counts are exact
abbrev pub AreCounted : Layouts → List Declaration → HeapView → List Root → Type 0
AreCounted layouts types h roots = (rules layouts).Counted types h roots

-- The places that a collection keeps: what the roots reach, and in a null heap all.
abbrev pub Kept : Layouts → Start → ℕ → Type 0
Kept layouts s place = (rules layouts).Keeps s place

-- A collection takes so many increments: one in a null heap, three in a counting heap, and in a
-- copying heap as many as the number of objects reached asks for.
abbrev pub IsIncrements : Layouts → Start → ℕ → Type 0
IsIncrements layouts s n = (rules layouts).Increments s n

-- A copying collection that is counted whole takes so many steps: one for each object that is
-- reached, for each reference in them, and for each root word that isn't null.
abbrev pub IsStepCount : Layouts → Start → ℕ → Type 0
IsStepCount layouts s n = (rules layouts).StepCount s n

-- What a collection leaves in one kind of heap alone: a null heap is as it was; in a counting heap no
-- object moves, and counts are exact; in a copying heap the other half is active.
abbrev pub KindCollected : Layouts → Start → (ℕ → ℕ) → HeapView → List Root → Type 0
KindCollected layouts s to h roots = (rules layouts).Leaves s to h roots
