-- The references of a copy are those of its object, by each form of its kind word.
use Rattle.std.proofs.Common.{◌≡◌, ℕ, ◌+◌, ◌%◌, ◌≤◌, ◌==◌, nat_eq, true, false, Bool, IsTrue, if◌then◌else◌, List, [], length, refl, sym, ap, subst, ◌∙◌, arith}
use Rattle.std.proofs.Math.Logic.{◌↔◌}
use Rattle.std.proofs.lemmas.Bool.{eq-eqb, ne_eqb}
use Rattle.gc_types.specs.declared.kind.Layouts.TheVariants.{Copying}
use Rattle.gc_types.specs.Declarations.{Declaration}
use Rattle.gc_types.specs.Layouts.{trace_at}
use Rattle.gc_refs.specs.Trace.{form_unit, form_of, MeansTrace}
use Rattle.gc_refs.specs.declared.trace.InlineTraceInfo.TheVariants.{Bitmap, Array, OutOfLine}
use Rattle.gc_view.specs.Bytes.{u32_at}
use Rattle.gc_memory.specs.Words.{word}
use Rattle.gc_memory.specs.Changes.{SameAcross}
use Rattle.gc_memory.proofs.WordLemmas.{word-is, word_across}
use Rattle.gc_copying.specs.declared.space.Space.{Space}
use Rattle.gc_copying.specs.CopyWords.{bitmap_places, element_places, info_places, traced, copying_offsets_at}
use Rattle.gc_heap.specs.References.{Spaced}
use Rattle.gc_copying.specs.CopyStart.{From, refs}
use Rattle.gc_copying.specs.CopyMiddle.{CopyOf}
use Rattle.gc_copying.specs.CopySteps.{Scanning, CanScanCopy, ScansAll}
use Rattle.gc_copying.proofs.MidLemmas.{Spaced-outside, lies, new_lies}
use Rattle.gc_copying.proofs.ScanLemmas.{scanned_all}
use Rattle.gc_copying.specs.Layout.{copying_size_at}

pub traced_at : (types : List Declaration) (m : List ℕ) (p : ℕ) → copying_offsets_at types m p ≡ traced types (word m p) (word m (p + 4)) (word m (p + 12))
unfolding copying_offsets_at
traced_at types m p = refl

pub by_form : (types : List Declaration) (kind_word ty count form : ℕ) → form_of kind_word ≡ form → traced types kind_word ty count
    ≡ (if nat_eq form 0 then bitmap_places (kind_word % form_unit) else (if nat_eq form 1 then element_places (kind_word % 2 == 1) count else info_places count (trace_at Copying types ty)))
by_form types kind_word ty count form e = ap (λ (f : ℕ). if nat_eq f 0 then bitmap_places (kind_word % form_unit) else (if nat_eq f 1 then element_places (kind_word % 2 == 1) count else info_places count (trace_at Copying types ty))) e

pub by_neither : (types : List Declaration) (kind_word ty count : ℕ) → (form_of kind_word ≡ 0 → ⊥) → (form_of kind_word ≡ 1 → ⊥)
    → traced types kind_word ty count ≡ info_places count (trace_at Copying types ty)
by_neither types kind_word ty count not_bitmap not_array =
    ap (λ b. if b then bitmap_places (kind_word % form_unit) else (if nat_eq (form_of kind_word) 1 then element_places (kind_word % 2 == 1) count else info_places count (trace_at Copying types ty))) (ne_eqb (form_of kind_word) 0 not_bitmap)
    ∙ ap (λ b. if b then element_places (kind_word % 2 == 1) count else info_places count (trace_at Copying types ty)) (ne_eqb (form_of kind_word) 1 not_array)

-- an object with a bitmap
pub places_by_bitmap : (types : List Declaration) (m : List ℕ) (p kind_word bits : ℕ) → kind_word ≡ u32_at m p → MeansTrace kind_word (Bitmap bits)
    → copying_offsets_at types m p ≡ bitmap_places bits
places_by_bitmap types m p kind_word bits read means =
    let is : word m p ≡ kind_word = word-is m p ∙ sym read in
    traced_at types m p
    ∙ by_form types (word m p) (word m (p + 4)) (word m (p + 12)) 0 (ap form_of is ∙ means.0)
    ∙ ap bitmap_places (ap (λ (w : ℕ). w % form_unit) is ∙ sym means.1)

false_is_not : IsTrue false → ⊥
false_is_not e = cc

odd_is : (w : ℕ) (elements : Bool) → (IsTrue elements ↔ (w % 2 ≡ 1)) → (w % 2 == 1) ≡ elements
odd_is w true is = eq-eqb (w % 2) 1 (is.0 refl)
odd_is w false is = ne_eqb (w % 2) 1 (λ e. absurd (false_is_not (is.1 e)))

-- an array
pub places_by_array : (types : List Declaration) (m : List ℕ) (p kind_word : ℕ) (elements : Bool) → kind_word ≡ u32_at m p → MeansTrace kind_word (Array elements)
    → copying_offsets_at types m p ≡ element_places elements (word m (p + 12))
places_by_array types m p kind_word elements read means =
    let is : word m p ≡ kind_word = word-is m p ∙ sym read in
    traced_at types m p
    ∙ by_form types (word m p) (word m (p + 4)) (word m (p + 12)) 1 (ap form_of is ∙ means.0)
    ∙ ap (λ b. element_places b (word m (p + 12))) (ap (λ (w : ℕ). w % 2 == 1) is ∙ odd_is kind_word elements means.1)

-- an object out of line
pub places_by_type : (types : List Declaration) (m : List ℕ) (p kind_word ty : ℕ) → kind_word ≡ u32_at m p → ty ≡ u32_at m (p + 4) → MeansTrace kind_word OutOfLine
    → copying_offsets_at types m p ≡ info_places (word m (p + 12)) (trace_at Copying types ty)
places_by_type types m p kind_word ty read read_type means =
    let is : word m p ≡ kind_word = word-is m p ∙ sym read in
    traced_at types m p
    ∙ by_form types (word m p) (word m (p + 4)) (word m (p + 12)) 2 (ap form_of is ∙ means)
    ∙ ap (λ (t : ℕ). info_places (word m (p + 12)) (trace_at Copying types t)) (word-is m (p + 4) ∙ sym read_type)

-- the first words of a copy lie in the memory
pub header_inside : (h : Space) (q : ℕ) (all : List ℕ) → CanScanCopy h q all → q + 16 ≤ length h.memory
header_inside h q all can =
    let mid = can.scanning.mid in
    let at = new_lies mid q (mid.copied can.place q can.scanning.leads).inside in
    omega (arith, at.to, at.least, mid.room, mid.inside)

-- the words of a copy before its references
pub head_word : (s : From) (m : List ℕ) (t p q o : ℕ) → CopyOf s m t p q → Spaced 12 (copying_size_at s.memory p) (refs s p) → 16 ≤ copying_size_at s.memory p → o + 4 ≤ 12
    → word m (q + o) ≡ word s.memory (p + o)
head_word s m t p q o copy spaced least h =
    let head : SameAcross s.memory p m q 0 12 = record { at = λ j d l u. copy.rest j d (omega arith) (Spaced-outside 12 (copying_size_at s.memory p) (refs s p) j spaced u) } in
    word_across head o (omega arith) h

-- the form of a copy is one of three
pub form_is : (h : Space) (q : ℕ) (all : List ℕ) (kind_word : ℕ) → CanScanCopy h q all → kind_word ≡ u32_at h.memory q → form_of kind_word ≡ 3 → ⊥
form_is h q all kind_word can read three =
    let mid = can.scanning.mid in
    let leads = can.scanning.leads in
    let first : word h.memory (q + 0) ≡ word can.start.memory (can.place + 0) =
    head_word can.start h.memory (q + can.from) can.place q 0 (mid.copied can.place q leads).copy (mid.start.spaced can.place leads.place) (lies mid can.place leads.place).least (omega arith) in
    let zero_q : q + 0 ≡ q = omega arith in
    let zero_p : can.place + 0 ≡ can.place = omega arith in
    let kind : kind_word ≡ word can.start.memory can.place =
    read ∙ sym (word-is h.memory q) ∙ sym (ap (word h.memory) zero_q) ∙ first ∙ ap (word can.start.memory) zero_p in
    mid.start.form can.place leads.place (sym (ap form_of kind) ∙ three)

-- what may be scanned, where the references are known in another form
pub can_as : (h : Space) (q : ℕ) (all all' : List ℕ) → all ≡ all' → CanScanCopy h q all → CanScanCopy h q all'
can_as h q all all' e can = subst (λ l. CanScanCopy h q l) e can

pub scans_as : (old new : Space) (q : ℕ) (all all' : List ℕ) → all ≡ all' → ((s : From) (p u : ℕ) → Scanning s p q u all' old → ScansAll s p q old new)
    → (s : From) (p u : ℕ) → Scanning s p q u all old → ScansAll s p q old new
scans_as old new q all all' e scans s p u scan = scans s p u (subst (λ l. Scanning s p q u l old) e scan)

pub ticks_as : (a b : ℕ) (all all' : List ℕ) → all ≡ all' → a ≡ b + length all' → a ≡ b + length all
ticks_as a b all all' e ticks = ticks ∙ sym (ap (λ (l : List ℕ). b + length l) e)

-- nothing has to be moved
pub scans_none : (h : Space) (q : ℕ) (s : From) (p u : ℕ) → Scanning s p q u [] h → ScansAll s p q h h
scans_none h q s p u scan = record { mid = scanned_all s p q u h scan; later = λ p1 q1 l. l }
