-- A collection in the memory of a counting heap: where it begins, and what it leaves as it was.
use Rattle.std.specs.Prelude.{◌≡◌, ℕ, ◌+◌, ◌/◌, ◌%◌, ◌<◌, ◌≤◌, ◌⊎◌, ◌^◌, List, [], ◌∷◌, map, length, Option, Some, None, Bool, true, false}
use Rattle.gc_types.specs.declared.kind.Layouts.TheVariants.{Counting}
use Rattle.gc_types.specs.declared.kind.VMGcKind.{VMGcKind}
use Rattle.gc_types.specs.declared.kind.VMGcKind.TheVariants.{ExternRef, AnyRef, EqRef, StructRef, ArrayRef, ExnRef}
use Rattle.gc_types.specs.declared.layout.TraceInfo.{TraceInfo}
use Rattle.gc_types.specs.declared.layout.TraceInfo.TheVariants as trace
use Rattle.gc_types.specs.Declarations.{Declaration}
use Rattle.gc_types.specs.Layouts.{trace_at}
use Rattle.gc_refs.specs.Header.{IsOfKind}
use Rattle.gc_view.specs.Bytes.{SameBytes}
use Rattle.gc_memory.specs.Words.{word}
use Rattle.gc_memory.specs.Lists.{In, occ}
use Rattle.gc_heap.specs.References.{word_offsets}
use Rattle.gc_drc.specs.declared.space.CountedSpace.{CountedSpace}
use Rattle.gc_free.specs.Runs.{run}
use Rattle.gc_free.specs.Space.{IsSound, give}
use Rattle.gc_view.specs.Bytes.{put_u32}
use Rattle.gc_drc.specs.Layout.{counting_size_at, block_of, counting_kind_at, HasCountingHost}
use Rattle.gc_drc.specs.CollectLists.{onto, front}
use Rattle.gc_drc.specs.View.{View, HoldsBlocks, count_of}
use Rattle.gc_drc.specs.Graph.{CountedGraph}

-- the offsets of the references of an object of that trace info whose data begins with a number
abbrev pub offsets_by_info : Option TraceInfo → ℕ → List ℕ
offsets_by_info None count = []
offsets_by_info (Some (trace.Struct offsets)) count = offsets
offsets_by_info (Some (trace.Array true)) count = word_offsets 32 count
offsets_by_info (Some (trace.Array false)) count = []

-- the trace info of an object of that kind and of a type with that info; an external object has none
abbrev pub info_of : VMGcKind → Option TraceInfo → Option TraceInfo
info_of ExternRef info = None
info_of AnyRef info = None
info_of EqRef info = None
info_of StructRef info = info
info_of ArrayRef info = info
info_of ExnRef info = info

abbrev pub info_at : List Declaration → List ℕ → ℕ → Option TraceInfo
info_at types bytes p = info_of (counting_kind_at bytes p) (trace_at Counting types (word bytes (p + 4)))

-- the offsets of the references of the object at a place
abbrev pub counting_offsets_at : List Declaration → List ℕ → ℕ → List ℕ
counting_offsets_at types bytes p = offsets_by_info (info_at types bytes p) (word bytes (p + 28))

-- the words at some offsets of what lies at a place
abbrev pub words_at : List ℕ → ℕ → List ℕ → List ℕ
words_at bytes p offsets = map (λ (o : ℕ). word bytes (p + o)) offsets

-- Where a collection begins: what names what, the memory, and the types.
pub record Context : Type 0 where
  pub graph : CountedGraph
  pub memory : List ℕ
  pub types : List Declaration

-- a word of a root or a field: null, a 31-bit number, or the place of an object
abbrev pub IsCountingWord : Context → ℕ → Type 0
IsCountingWord c w = (w ≡ 0) ⊎ ((w % 2 ≡ 1) ⊎ In w c.graph.places)

-- an object lies whole in the memory
pub record LiesWhole (bytes : List ℕ) (p : ℕ) : Type 0 where
  pub aligned : p % 16 ≡ 0
  pub not_null : 0 < p
  pub least : 28 ≤ counting_size_at bytes p
  pub inside : p + counting_size_at bytes p ≤ length bytes

-- A collection may begin there.
pub record IsContext (c : Context) : Type 0 where
  pub small : length c.memory < 2 ^ 32
  pub lies : (p : ℕ) → In p c.graph.places → LiesWhole c.memory p
  pub kinds : (p : ℕ) → In p c.graph.places → IsOfKind (counting_kind_at c.memory p) (word c.memory p)
  pub apart : (p q : ℕ) → In p c.graph.places → In q c.graph.places → p < q → p + counting_size_at c.memory p ≤ q
  pub words : (p : ℕ) → In p c.graph.places → c.graph.words p ≡ words_at c.memory p (counting_offsets_at c.types c.memory p)
  pub offsets : (p o : ℕ) → In p c.graph.places → In o (counting_offsets_at c.types c.memory p) → (28 ≤ o) × (o + 4 ≤ counting_size_at c.memory p)
  pub arrays : (p : ℕ) (elements : Bool) → In p c.graph.places → info_at c.types c.memory p ≡ Some (trace.Array elements) → 32 ≤ counting_size_at c.memory p
  pub externals : (p : ℕ) → In p c.graph.places → counting_kind_at c.memory p ≡ ExternRef → HasCountingHost c.memory p
  pub fields : (p w : ℕ) → In p c.graph.places → In w (c.graph.words p) → IsCountingWord c w
  pub roots : (w : ℕ) → In w c.graph.roots → IsCountingWord c w
  pub frames : (w : ℕ) → In w c.graph.frames → IsCountingWord c w

-- An object is as it was but for its flags, its count and its links.
pub record SameObject (before after : List ℕ) (p : ℕ) : Type 0 where
  pub kind : word after p / 8 ≡ word before p / 8
  pub ty : word after (p + 4) ≡ word before (p + 4)
  pub size : counting_size_at after p ≡ counting_size_at before p
  pub bytes : SameBytes before after (p + 28) (p + counting_size_at before p)

-- Each object of the start is so, also where it was freed.
pub record Intact (c : Context) (after : List ℕ) : Type 0 where
  pub same_length : length after ≡ length c.memory
  pub objects : (p : ℕ) → In p c.graph.places → SameObject c.memory after p

-- The heap shows a view in the middle of a collection that began there.
pub record At (c : Context) (v : View) (s : CountedSpace) : Type 0 where
  pub start : IsContext c
  pub holds : HoldsBlocks v s
  pub intact : Intact c s.memory
  pub from : (p : ℕ) → In p v.places → In p c.graph.places

-- an object may be marked
pub record CanMark (s : CountedSpace) (x : ℕ) : Type 0 where
  pub context : Context
  pub view : View
  pub at : At context view s
  pub held : In x view.places
  pub fresh : occ x view.marked ≡ 0

-- its mark may be cleared
pub record CanUnmark (s : CountedSpace) (x : ℕ) : Type 0 where
  pub context : Context
  pub view : View
  pub at : At context view s
  pub is_marked : 0 < occ x view.marked

-- a name may be taken off it
pub record CanLowerAt (s : CountedSpace) (x : ℕ) : Type 0 where
  pub context : Context
  pub view : View
  pub at : At context view s
  pub held : In x view.places
  pub named : 0 < view.counted x

-- a name may be taken off it that isn't its last
pub record CanUncountAt (s : CountedSpace) (x : ℕ) : Type 0 where
  pub context : Context
  pub view : View
  pub at : At context view s
  pub held : In x view.places
  pub named : 0 < view.counted x
  pub more : 1 < count_of view x

-- its block may be given back
pub record CanRelease (s : CountedSpace) (x : ℕ) : Type 0 where
  pub context : Context
  pub view : View
  pub at : At context view s
  pub held : In x view.places

-- The block of an object was given back, and nothing else changed.
pub record ReleasesBlock (s s' : CountedSpace) (x : ℕ) : Type 0 where
  pub memory : s'.memory ≡ s.memory
  pub space : s'.free.space ≡ give (run x (block_of (counting_size_at s.memory x))) s.free.space
  pub sound : IsSound s'.free.space
  pub objects : s'.objects + 1 ≡ s.objects
  pub allocated : s'.allocated + block_of (counting_size_at s.memory x) ≡ s.allocated
  pub shown : s'.shown ≡ s.shown
  pub queued : s'.queued ≡ s.queued

-- it may be freed as the first of the queue
pub record CanFreeQueued (s : CountedSpace) (x : ℕ) : Type 0 where
  pub context : Context
  pub view : View
  pub at : At context view s
  pub queued : 0 < occ x view.queue

-- it may leave the queue as its first
pub record CanLeave (s : CountedSpace) (x : ℕ) : Type 0 where
  pub context : Context
  pub view : View
  pub at : At context view s
  pub queued : 0 < occ x view.queue
  pub more : 1 < count_of view x

-- the word that leads from an object or from the head of the list may be written
pub record CanRelink (s : CountedSpace) (before : ℕ) : Type 0 where
  pub room : (before ≡ 0) ⊎ (before + 28 ≤ length s.memory)

-- the list of shown words goes on there, from its head or from an object
pub record Relinks (s s' : CountedSpace) (before next : ℕ) : Type 0 where
  pub head : before ≡ 0 → s' ≡ record s { shown = next }
  pub word_is : (before ≡ 0 → ⊥) → s' ≡ record s { memory = put_u32 s.memory (before + 16) next }

-- an object may be taken off the list of shown words, where another one stands before it
pub record CanHide (s : CountedSpace) (before x : ℕ) : Type 0 where
  pub context : Context
  pub view : View
  pub kept : List ℕ
  pub left : List ℕ
  pub at : At context view s
  pub list : view.shown ≡ onto kept (x ∷ left)
  pub is_before : front kept ≡ before
