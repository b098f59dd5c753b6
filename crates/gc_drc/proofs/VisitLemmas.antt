-- The words of an object are visited one by one.
use Rattle.std.proofs.Common.{◌≡◌, ℕ, zero, suc, ◌+◌, ◌-◌, ◌*◌, ◌<◌, ◌≤◌, ◌^◌, List, [], ◌∷◌, Bool, true, false, Some, None, length, drop, get_or, refl, sym, ap, subst, ◌∙◌, arith}
use Rattle.std.proofs.lemmas.List.{drop_more}
use Rattle.gc_view.specs.Bytes.{u32_at}
use Rattle.gc_view.proofs.ByteLemmas.{SameBytes-part}
use Rattle.gc_memory.specs.Words.{word}
use Rattle.gc_memory.specs.Lists.{In, here, there}
use Rattle.gc_memory.proofs.WordLemmas.{word-is, word_in_same}
use Rattle.gc_heap.specs.References.{word_offsets}
use Rattle.gc_types.specs.declared.kind.Layouts.TheVariants.{Counting}
use Rattle.gc_types.specs.declared.layout.TraceInfo.TheVariants as trace
use Rattle.gc_types.specs.Declarations.{Declaration}
use Rattle.gc_types.specs.Layouts.{trace_at}
use Rattle.gc_types.specs.Kinds.{kind_of}
use Rattle.gc_types.proofs.KindLemmas.{kind_of-kind_bits}
use Rattle.gc_types.specs.declared.kind.VMGcKind.{VMGcKind}
use Rattle.gc_refs.specs.Header.{IsOfKind, kind_part}
use Rattle.gc_drc.proofs.RewriteLemmas.{kind_at_same}
use Rattle.gc_drc.specs.Layout.{counting_size_at, counting_kind_at}
use Rattle.gc_drc.specs.CollectMemory.{Context, IsContext, Intact, words_at, offsets_by_info, info_of, info_at, counting_offsets_at}
use Rattle.gc_drc.specs.CollectVisits.{InObject, CanVisit, CanVisitAt, CanVisitArray, CanVisitObject, Visits, VisitsArray, VisitsObject, array_offsets}

-- a word of an object that is as it was, and where it lies
pub record WordAt (c : Context) (m : List ℕ) (place offset : ℕ) : Type 0 where
  pub room : place + offset + 4 ≤ length m
  pub fits : place + offset < 2 ^ 32
  pub is : u32_at m (place + offset) ≡ word c.memory (place + offset)

pub word_read : (c : Context) (m : List ℕ) (place offset : ℕ) (rest : List ℕ) → IsContext c → Intact c m → InObject c place (offset ∷ rest) → WordAt c m place offset
word_read c m place offset rest start intact object =
    let lies = start.lies place object.place_in in
    let in_object = object.inside offset here in
    let inside = lies.inside in
    let len = intact.same_length in
    let small = start.small in
    let same = intact.objects place object.place_in in
    let from : 28 ≤ offset = in_object.0 in
    let to : offset + 4 ≤ counting_size_at c.memory place = in_object.1 in
    record {
      room = omega arith;
      fits = omega arith;
      is = sym (word-is m (place + offset)) ∙ word_in_same c.memory m (place + offset) (SameBytes-part same.bytes (place + offset) (place + offset + 4) (omega arith) (omega arith));
    }

-- the words that were visited of those at these offsets
pub record Going (old new : Context → List ℕ → List ℕ → Type 0) (place : ℕ) (all left : List ℕ) : Type 0 where
  pub part : (o : ℕ) → In o left → In o all
  pub visits : Visits old new place all left

pub going_start : (old : Context → List ℕ → List ℕ → Type 0) (place : ℕ) (all : List ℕ) → Going old old place all all
going_start old place all = record { part = λ o i. i; visits = λ c places object state. state }

going_object : (old new : Context → List ℕ → List ℕ → Type 0) (place : ℕ) (all left : List ℕ) → Going old new place all left → (c : Context) → InObject c place all → InObject c place left
going_object old new place all left g c object = record { place_in = object.place_in; inside = λ o i. object.inside o (g.part o i) }

pub going_step : (old mid new : Context → List ℕ → List ℕ → Type 0) (place offset : ℕ) (all rest : List ℕ) → Going old mid place all (offset ∷ rest)
    → ((after : List ℕ) → Visits mid new place (offset ∷ after) after) → Going old new place all rest
going_step old mid new place offset all rest g visits = record {
  part = λ o i. g.part o (there i);
  visits = λ c places object state. visits rest c places (going_object old mid place all (offset ∷ rest) g c object) (g.visits c places object state);
}

pub going_can : (old mid : Context → List ℕ → List ℕ → Type 0) (place offset : ℕ) (all rest : List ℕ) → Going old mid place all (offset ∷ rest) → CanVisit old place all → CanVisitAt mid place offset
going_can old mid place offset all rest g can = record {
  rest = rest;
  can = record {
    context = can.context;
    places = can.places;
    object = going_object old mid place all (offset ∷ rest) g can.context can.object;
    is = g.visits can.context can.places can.object can.is;
  };
}

pub going_as : (old new : Context → List ℕ → List ℕ → Type 0) (place : ℕ) (all left left' : List ℕ) → left ≡ left' → Going old new place all left → Going old new place all left'
going_as old new place all left left' e g = subst (λ (xs : List ℕ). Going old new place all xs) e g

-- the offsets of a slice, one on
pub next_offset : (xs : List ℕ) (i : ℕ) → i < length xs → drop i xs ≡ get_or xs i 0 ∷ drop (i + 1) xs
next_offset xs i h = drop_more xs i 0 h

pub no_offset : (xs : List ℕ) (i : ℕ) → length xs ≤ i → drop i xs ≡ []
no_offset [] zero h = refl
no_offset [] (suc i) h = refl
no_offset (x ∷ xs) zero h = absurd (omega arith)
no_offset (x ∷ xs) (suc i) h = no_offset xs i (omega arith)

-- the elements of an array, one on
pub next_element : (count i : ℕ) → i < count → word_offsets (32 + 4 * i) (count - i) ≡ (32 + 4 * i) ∷ word_offsets (32 + 4 * (i + 1)) (count - (i + 1))
next_element count i h =
    let more : count - i ≡ suc (count - (i + 1)) = omega arith in
    let on : 32 + 4 * i + 4 ≡ 32 + 4 * (i + 1) = omega arith in
    ap (λ (n : ℕ). word_offsets (32 + 4 * i) n) more ∙ ap (λ (n : ℕ). (32 + 4 * i) ∷ word_offsets n (count - (i + 1))) on

pub no_element : (count i : ℕ) → count ≤ i → word_offsets (32 + 4 * i) (count - i) ≡ []
no_element count i h =
    let none : count - i ≡ 0 = omega arith in
    ap (λ (n : ℕ). word_offsets (32 + 4 * i) n) none

-- an element that is to be visited fits
pub element_fits : (state : Context → List ℕ → List ℕ → Type 0) (place offset : ℕ) → CanVisitAt state place offset
    → ((c : Context) (places words : List ℕ) → state c places words → IsContext c) → offset < 2 ^ 32
element_fits state place offset can start =
    let is = start can.can.context can.can.places _ can.can.is in
    let lies = is.lies place can.can.object.place_in in
    let inside = lies.inside in
    let small = is.small in
    let to : offset + 4 ≤ counting_size_at can.can.context.memory place = (can.can.object.inside offset here).1 in
    omega arith

-- KINDS

-- a kind word is of one kind
pub kind_is : (m : List ℕ) (p : ℕ) (k : VMGcKind) → IsOfKind k (word m p) → k ≡ counting_kind_at m p
unfolding counting_kind_at
kind_is m p k e = sym (kind_of-kind_bits k) ∙ ap kind_of e

-- what an object's references are is as it was
pub offsets_same : (c : Context) (m : List ℕ) (p : ℕ) → IsContext c → Intact c m → In p c.graph.places → counting_kind_at m p ≡ counting_kind_at c.memory p × (word m (p + 4) ≡ word c.memory (p + 4))
offsets_same c m p start intact i = let s = intact.objects p i in (kind_at_same c.memory m p s.kind, s.ty)

pub kind_part_same : (c : Context) (m : List ℕ) (p : ℕ) → IsContext c → Intact c m → In p c.graph.places → IsOfKind (counting_kind_at m p) (word m p)
kind_part_same c m p start intact i =
    let s = intact.objects p i in
    let e = s.kind in
    let part : kind_part (word c.memory p) ≡ kind_part (word m p) = omega arith in
    subst (λ k. IsOfKind k (word m p)) (sym (kind_at_same c.memory m p s.kind)) (start.kinds p i ∙ part)

pub object_room : (c : Context) (m : List ℕ) (p : ℕ) → IsContext c → Intact c m → In p c.graph.places → (p + 28 ≤ length m) × (p + 28 < 2 ^ 32)
object_room c m p start intact i =
    let l = start.lies p i in
    let least = l.least in
    let inside = l.inside in
    let len = intact.same_length in
    let small = start.small in
    (omega arith, omega arith)

-- ARRAYS

-- what a visitor's state tells of the memory
abbrev pub Tells : (Context → List ℕ → List ℕ → Type 0) → List ℕ → Type 0
Tells state m = (c : Context) (places words : List ℕ) → state c places words → IsContext c × Intact c m

count_same : (c : Context) (m : List ℕ) (place count : ℕ) (elements : Bool) → elements ≡ true → IsContext c → Intact c m → In place c.graph.places → 32 ≤ counting_size_at c.memory place
    → count ≡ u32_at m (place + 28) → array_offsets elements c.memory place ≡ word_offsets 32 count
count_same c m place count elements is start intact i array read =
    let same = intact.objects place i in
    let e : word m (place + 28) ≡ word c.memory (place + 28) =
    word_in_same c.memory m (place + 28) (SameBytes-part same.bytes (place + 28) (place + 28 + 4) (omega arith) (omega arith)) in
    ap (λ b. array_offsets b c.memory place) is ∙ ap (word_offsets 32) (sym e ∙ word-is m (place + 28) ∙ sym read)

pub array_can : (state : Context → List ℕ → List ℕ → Type 0) (m : List ℕ) (place count : ℕ) (elements : Bool) → Tells state m → elements ≡ true → count ≡ u32_at m (place + 28)
    → CanVisitArray state place elements → CanVisit state place (word_offsets 32 count)
array_can state m place count elements tells is read can =
    let t = tells can.context can.places _ can.is in
    let e = count_same can.context m place count elements is t.0 t.1 can.object.place_in can.is_array read in
    record {
      context = can.context;
      places = can.places;
      object = subst (λ (xs : List ℕ). InObject can.context place xs) e can.object;
      is = subst (λ (xs : List ℕ). state can.context can.places (words_at can.context.memory place xs)) e can.is;
    }

pub array_visits : (old new : Context → List ℕ → List ℕ → Type 0) (m : List ℕ) (place count : ℕ) (elements : Bool) → Tells old m → elements ≡ true → count ≡ u32_at m (place + 28)
    → Visits old new place (word_offsets 32 count) [] → VisitsArray old new place elements
array_visits old new m place count elements tells is read visits c places object array state =
    let t = tells c places _ state in
    let e = count_same c m place count elements is t.0 t.1 object.place_in array read in
    visits c places (subst (λ (xs : List ℕ). InObject c place xs) e object) (subst (λ (xs : List ℕ). old c places (words_at c.memory place xs)) e state)

-- OBJECTS

-- the trace info of an object, by what is read now
pub info_same : (c : Context) (m : List ℕ) (types : List Declaration) (place : ℕ) → c.types ≡ types → IsContext c → Intact c m → In place c.graph.places
    → info_at types m place ≡ info_at c.types c.memory place
info_same c m types place typed start intact i =
    let s = offsets_same c m place start intact i in
    ap (λ k. info_of k (trace_at Counting types (word m (place + 4)))) s.0
    ∙ ap (λ (n : ℕ). info_of (counting_kind_at c.memory place) (trace_at Counting types n)) s.1
    ∙ ap (λ ts. info_of (counting_kind_at c.memory place) (trace_at Counting ts (word c.memory (place + 4)))) (sym typed)

-- an object of the start whose references lie at these offsets
object_at_offsets : (c : Context) (place : ℕ) (offsets : List ℕ) → IsContext c → In place c.graph.places → counting_offsets_at c.types c.memory place ≡ offsets → InObject c place offsets
object_at_offsets c place offsets start i e = subst (λ (xs : List ℕ). InObject c place xs) e (record { place_in = i; inside = λ o j. start.offsets place o i j })

words_as : (c : Context) (place : ℕ) (offsets : List ℕ) → IsContext c → In place c.graph.places → counting_offsets_at c.types c.memory place ≡ offsets → c.graph.words place ≡ words_at c.memory place offsets
words_as c place offsets start i e = start.words place i ∙ ap (λ (xs : List ℕ). words_at c.memory place xs) e

-- a struct or an exception
pub struct_can : (state : Context → List ℕ → List ℕ → Type 0) (m : List ℕ) (types : List Declaration) (place : ℕ) (offsets : List ℕ) → Tells state m
    → info_at types m place ≡ Some (trace.Struct offsets) → CanVisitObject state types place → CanVisit state place offsets
struct_can state m types place offsets tells info can =
    let t = tells can.context can.places _ can.is in
    let e : counting_offsets_at can.context.types can.context.memory place ≡ offsets =
    ap (λ x. offsets_by_info x (word can.context.memory (place + 28))) (sym (info_same can.context m types place can.typed t.0 t.1 can.place_in) ∙ info) in
    record {
      context = can.context;
      places = can.places;
      object = object_at_offsets can.context place offsets t.0 can.place_in e;
      is = subst (λ (ws : List ℕ). state can.context can.places ws) (words_as can.context place offsets t.0 can.place_in e) can.is;
    }

pub struct_visits : (old new : Context → List ℕ → List ℕ → Type 0) (m : List ℕ) (types : List Declaration) (place : ℕ) (offsets : List ℕ) → Tells old m
    → info_at types m place ≡ Some (trace.Struct offsets) → Visits old new place offsets [] → VisitsObject old new types place
struct_visits old new m types place offsets tells info visits c places typed i state =
    let t = tells c places _ state in
    let e : counting_offsets_at c.types c.memory place ≡ offsets = ap (λ x. offsets_by_info x (word c.memory (place + 28))) (sym (info_same c m types place typed t.0 t.1 i) ∙ info) in
    visits c places (object_at_offsets c place offsets t.0 i e) (subst (λ (ws : List ℕ). old c places ws) (words_as c place offsets t.0 i e) state)

-- an array
info_array : (b : Bool) (bytes : List ℕ) (place : ℕ) → offsets_by_info (Some (trace.Array b)) (word bytes (place + 28)) ≡ array_offsets b bytes place
info_array true bytes place = refl
info_array false bytes place = refl

pub array_object_can : (state : Context → List ℕ → List ℕ → Type 0) (m : List ℕ) (types : List Declaration) (place : ℕ) (elements : Bool) → Tells state m
    → info_at types m place ≡ Some (trace.Array elements) → CanVisitObject state types place → CanVisitArray state place elements
array_object_can state m types place elements tells info can =
    let t = tells can.context can.places _ can.is in
    let is : info_at can.context.types can.context.memory place ≡ Some (trace.Array elements) = sym (info_same can.context m types place can.typed t.0 t.1 can.place_in) ∙ info in
    let e : counting_offsets_at can.context.types can.context.memory place ≡ array_offsets elements can.context.memory place =
    ap (λ x. offsets_by_info x (word can.context.memory (place + 28))) is ∙ info_array elements can.context.memory place in
    record {
      context = can.context;
      places = can.places;
      object = object_at_offsets can.context place _ t.0 can.place_in e;
      is_array = t.0.arrays place elements can.place_in is;
      is = subst (λ (ws : List ℕ). state can.context can.places ws) (words_as can.context place _ t.0 can.place_in e) can.is;
    }

pub array_object_visits : (old new : Context → List ℕ → List ℕ → Type 0) (m : List ℕ) (types : List Declaration) (place : ℕ) (elements : Bool) → Tells old m
    → info_at types m place ≡ Some (trace.Array elements) → VisitsArray old new place elements → VisitsObject old new types place
array_object_visits old new m types place elements tells info visits c places typed i state =
    let t = tells c places _ state in
    let is : info_at c.types c.memory place ≡ Some (trace.Array elements) = sym (info_same c m types place typed t.0 t.1 i) ∙ info in
    let e : counting_offsets_at c.types c.memory place ≡ array_offsets elements c.memory place =
    ap (λ x. offsets_by_info x (word c.memory (place + 28))) is ∙ info_array elements c.memory place in
    visits c places (object_at_offsets c place _ t.0 i e) (t.0.arrays place elements i is) (subst (λ (ws : List ℕ). old c places ws) (words_as c place _ t.0 i e) state)

-- an object with no references
pub none_visits : (old : Context → List ℕ → List ℕ → Type 0) (m : List ℕ) (types : List Declaration) (place : ℕ) → Tells old m
    → info_at types m place ≡ None → VisitsObject old old types place
none_visits old m types place tells info c places typed i state =
    let t = tells c places _ state in
    let e : counting_offsets_at c.types c.memory place ≡ [] = ap (λ x. offsets_by_info x (word c.memory (place + 28))) (sym (info_same c m types place typed t.0 t.1 i) ∙ info) in
    subst (λ (ws : List ℕ). old c places ws) (words_as c place [] t.0 i e) state
