-- Trace words: which parts of an object are references, in the bits of a word.
use Rattle.std.specs.Prelude.{◌≡◌, ℕ, ◌+◌, ◌*◌, ◌/◌, ◌%◌, ◌<◌, ◌↔◌, IsTrue, ⊤, if◌then◌else◌}
use Rattle.gc_refs.specs.declared.trace.InlineTraceInfo.{InlineTraceInfo}
use Rattle.gc_refs.specs.declared.trace.InlineTraceInfo.TheVariants.{Bitmap, Array, OutOfLine}

-- bits 24 and 23 tell the form; this is bit 23
abbrev pub form_unit : ℕ
form_unit = 0x800000

-- the form that bits 24 and 23 tell
abbrev pub form_of : ℕ → ℕ
form_of word = word / form_unit % 4

-- the word means this: form 0 is a bitmap in bits 22 to 0, form 1 an array whose elements are
-- references where bit 0 is set, form 2 is out of line
abbrev pub MeansTrace : ℕ → InlineTraceInfo → Type 0
MeansTrace word (Bitmap bits) = (form_of word ≡ 0) × (bits ≡ word % form_unit)
MeansTrace word (Array elements) = (form_of word ≡ 1) × (IsTrue elements ↔ (word % 2 ≡ 1))
MeansTrace word OutOfLine = form_of word ≡ 2

-- a bitmap has 23 bits
abbrev pub HasTraceWord : InlineTraceInfo → Type 0
HasTraceWord (Bitmap bits) = bits < form_unit
HasTraceWord (Array elements) = ⊤
HasTraceWord OutOfLine = ⊤

-- the word of each form, whose other bits are 0
abbrev pub trace_word : InlineTraceInfo → ℕ
trace_word (Bitmap bits) = bits
trace_word (Array elements) = form_unit + (if elements then 1 else 0)
trace_word OutOfLine = 2 * form_unit
