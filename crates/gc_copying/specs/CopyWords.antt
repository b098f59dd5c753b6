-- The words of an object of a copying heap.
use Rattle.std.specs.Prelude.{◌≡◌, ℕ, ◌+◌, ◌/◌, ◌%◌, ◌<◌, ◌==◌, if◌then◌else◌, Bool, true, false, List, [], Option, Some, None}
use Rattle.gc_types.specs.declared.kind.Layouts.TheVariants.{Copying}
use Rattle.gc_types.specs.declared.layout.TraceInfo.{TraceInfo}
use Rattle.gc_types.specs.declared.layout.TraceInfo.TheVariants as trace
use Rattle.gc_types.specs.Declarations.{Declaration}
use Rattle.gc_types.specs.Layouts.{trace_at}
use Rattle.gc_refs.specs.Trace.{form_unit, form_of}
use Rattle.gc_refs.specs.Header.{spare_bits}
use Rattle.gc_memory.specs.Words.{word}
use Rattle.gc_heap.specs.References.{bit_offsets, word_offsets}

-- bit 25 of the kind word: 1 where the object has been copied
abbrev pub copied_unit : ℕ
copied_unit = 33554432

abbrev pub flag : List ℕ → ℕ → ℕ
flag m p = word m p / copied_unit % 2

-- where it went, once it has been copied
abbrev pub forwarding : List ℕ → ℕ → ℕ
forwarding m p = word m (p + 12)

-- the number that an external object keeps of its host value, and the next external object
abbrev pub copying_host_word : List ℕ → ℕ → ℕ
copying_host_word m p = word m (p + 16)

abbrev pub next_external : List ℕ → ℕ → ℕ
next_external m p = word m (p + 20)

-- the kind bits of an external object
abbrev pub external_bits : ℕ
external_bits = 16

-- the object is an external one
abbrev pub IsCopyingExternal : List ℕ → ℕ → Type 0
IsCopyingExternal m p = word m p / spare_bits ≡ external_bits

-- the offsets that a bitmap names
unfoldable pub bitmap_places : ℕ → List ℕ
bitmap_places bits = bit_offsets 12 23 bits

-- the offsets of the elements of an array, where they are references
abbrev pub element_places : Bool → ℕ → List ℕ
element_places true count = word_offsets 16 count
element_places false count = []

-- the offsets of the references of an object with so many elements, by the trace info of its type
abbrev pub info_places : ℕ → Option TraceInfo → List ℕ
info_places count None = []
info_places count (Some (trace.Struct offsets)) = offsets
info_places count (Some (trace.Array elements)) = element_places elements count

-- the offsets of the references of an object: by its kind word, else by its type
abbrev pub traced : List Declaration → ℕ → ℕ → ℕ → List ℕ
traced types kind_word ty count =
    if form_of kind_word == 0 then bitmap_places (kind_word % form_unit) else
    (if form_of kind_word == 1 then element_places (kind_word % 2 == 1) count else
    info_places count (trace_at Copying types ty))

-- the same of the object at a place
unfoldable pub copying_offsets_at : List Declaration → List ℕ → ℕ → List ℕ
copying_offsets_at types m p = traced types (word m p) (word m (p + 4)) (word m (p + 12))

-- a word of a root or a field is the place of an object: neither null nor a 31-bit number
pub record IsCopyingPlace (w : ℕ) : Type 0 where
  pub not_null : 0 < w
  pub even : w % 2 ≡ 0
