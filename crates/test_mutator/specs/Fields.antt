-- Fields of held objects, as a mutator writes them.
use Rattle.std.specs.Prelude.{◌≡◌, ℕ, ◌+◌, ◌%◌, ◌<◌, ◌≤◌, ◌⊎◌, false, List, [], ◌∷◌, Option, Some, None, length}
use Rattle.std.specs.List.{Contains}
use Rattle.std.specs.FinMap.{get}
use Rattle.std.specs.Int.{w32, to_le_bytes}
use Rattle.gc_types.specs.declared.kind.Layouts.{Layouts}
use Rattle.gc_types.specs.declared.kind.Layouts.TheVariants.{Null, Counting, Copying}
use Rattle.gc_types.specs.declared.layout.TraceInfo.{TraceInfo}
use Rattle.gc_types.specs.declared.layout.TraceInfo.TheVariants as trace
use Rattle.gc_types.specs.Declarations.{Declaration}
use Rattle.gc_types.specs.Layouts.{trace_at}
use Rattle.gc_refs.specs.Trace.{form_unit}
use Rattle.gc_view.specs.Heaps.{HeapObject, HeapView}
use Rattle.gc_heap.specs.Objects.{held_size, writable_offset, HasFields}
use Rattle.gc_heap.specs.References.{typed_offsets, word_in}
use Rattle.gc_heap.specs.Heap.{put_object, with_data}
use Rattle.gc_heap.specs.Content.{IsHeld}
use Rattle.gc_heap.specs.Barriers.{overwritten}
use Rattle.test_mutator.specs.Mutators.{MutatorView, word_at_root}

-- Four bytes at an offset of an object lie in the part that its holder may write.
pub record HasWord (layouts : Layouts) (o : HeapObject) (offset : ℕ) : Type 0 where
  pub fields : HasFields o.kind
  pub from : writable_offset layouts o.kind ≤ offset
  pub to : offset + 4 ≤ held_size layouts o

-- A reference lies there, by the object's type.
pub record HasReference (layouts : Layouts) (types : List Declaration) (o : HeapObject) (offset : ℕ) : Type 0 where
  pub word : HasWord layouts o offset
  pub aligned : offset % 4 ≡ 0
  pub among : Contains (typed_offsets layouts types o o.kind) offset

-- there is trace info, and objects with it have no references
abbrev pub NamesNone : Option TraceInfo → Type 0
NamesNone None = ⊥
NamesNone (Some (trace.Struct offsets)) = offsets ≡ []
NamesNone (Some (trace.Array elements_are_references)) = elements_are_references ≡ false

-- an object is of numbers alone: by its type, or in a copying heap by its trace word, which is an empty
-- bitmap or that of an array of numbers
abbrev pub HasOnlyNumbers : Layouts → List Declaration → HeapObject → Type 0
HasOnlyNumbers Null types o = NamesNone (trace_at Null types o.ty)
HasOnlyNumbers Counting types o = NamesNone (trace_at Counting types o.ty)
HasOnlyNumbers Copying types o = (o.spare ≡ 0) ⊎ (o.spare ≡ form_unit)

-- a number may be written at that offset of an object
abbrev pub HasNumberWord : Layouts → List Declaration → HeapObject → ℕ → Type 0
HasNumberWord layouts types o offset = HasWord layouts o offset × HasOnlyNumbers layouts types o

-- a slot that holds a word: none where it is null
abbrev pub word_or_null : Option ℕ → ℕ
word_or_null None = 0
word_or_null (Some word) = word

-- The word of a root, or null, was written to a field of the object that another root names. A heap that
-- counts was told what the field held before.
pub record WritesReference (layouts : Layouts) (old new : MutatorView) (holder offset : ℕ) (source : Option ℕ) : Type 0 where
  pub stands : holder < length old.roots
  pub object : HeapObject
  pub held : get old.heap.content (word_at_root old holder) ≡ Some object
  pub lies : HasReference layouts old.types object offset
  pub slot : Option ℕ
  pub told : layouts ≡ Counting → word_or_null slot ≡ word_in layouts object offset
  pub written : new ≡ record old { heap = put_object (overwritten old.heap slot source) (word_at_root old holder) (with_data layouts object offset (to_le_bytes w32 (word_or_null source))) }

-- A number was written to the object that a root names.
pub record WritesNumber (layouts : Layouts) (old new : MutatorView) (holder offset number : ℕ) : Type 0 where
  pub stands : holder < length old.roots
  pub object : HeapObject
  pub held : get old.heap.content (word_at_root old holder) ≡ Some object
  pub lies : HasNumberWord layouts old.types object offset
  pub written : new ≡ record old { heap = put_object old.heap (word_at_root old holder) (with_data layouts object offset (to_le_bytes w32 number)) }

-- A word that isn't null lies at an offset of the object that a word names, in the part that its
-- holder may write.
pub record StepsTo (layouts : Layouts) (h : HeapView) (from offset to : ℕ) : Type 0 where
  pub object : HeapObject
  pub held : get h.content from ≡ Some object
  pub lies : HasWord layouts object offset
  pub present : 0 < to
  pub is : to ≡ word_in layouts object offset

-- Where a path of offsets leads from a word: each offset leads on to the word that lies there, and the
-- path leads nowhere where none does. Where a path goes on from a word that is no 31-bit number and
-- names no held object, nothing is said.
abbrev pub Leads : Layouts → HeapView → ℕ → List ℕ → Option ℕ → Type 0
Leads layouts h from [] to = to ≡ Some from
Leads layouts h from (offset ∷ path) to =
    ((next : ℕ) → StepsTo layouts h from offset next → Leads layouts h next path to)
    × ((from % 2 ≡ 1) ⊎ IsHeld h from → ((next : ℕ) → StepsTo layouts h from offset next → ⊥) → to ≡ None)
