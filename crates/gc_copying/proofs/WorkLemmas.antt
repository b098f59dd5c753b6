-- The copies are scanned one behind the other.
use Rattle.std.proofs.Common.{◌≡◌, ℕ, zero, suc, ◌+◌, ◌%◌, ◌<◌, ◌≤◌, ◌^◌, ◌==◌, Bool, true, false, Option, Some, None, List, [], ◌∷◌, ◌++◌, length, refl, sym, ap, subst, ◌∙◌, inl, inr, arith, length-append}
use Rattle.std.proofs.lemmas.Bool.{cases_eq}
use Rattle.gc_types.specs.declared.kind.Layouts.TheVariants.{Copying}
use Rattle.gc_types.specs.declared.layout.TraceInfo.{TraceInfo}
use Rattle.gc_types.specs.declared.layout.TraceInfo.TheVariants as trace
use Rattle.gc_types.specs.Declarations.{Declaration}
use Rattle.gc_types.specs.Layouts.{trace_at}
use Rattle.gc_refs.specs.Trace.{form_of}
use Rattle.gc_heap.specs.References.{word_offsets, Spaced}
use Rattle.gc_view.specs.Bytes.{u32_at}
use Rattle.gc_memory.specs.Words.{word}
use Rattle.gc_memory.specs.Changes.{SameAcross}
use Rattle.gc_memory.specs.Lists.{In, here, there}
use Rattle.gc_memory.specs.Chains.{Chain, done, next}
use Rattle.gc_memory.proofs.WordLemmas.{word-is, word_across}
use Rattle.gc_memory.proofs.ListLemmas.{sum_over-same, sum_over-append}
use Rattle.gc_memory.proofs.ChainLemmas.{Chain-end, Chain-first, Chain-push, Chain-resized}
use Rattle.gc_copying.specs.declared.space.Space.{Space}
use Rattle.gc_copying.specs.Spaces.{half_first}
use Rattle.gc_copying.specs.CopyWords.{copying_offsets_at, traced, element_places, info_places}
use Rattle.gc_copying.specs.CopyStart.{From, refs}
use Rattle.gc_copying.specs.CopyMiddle.{IsCopiedTo, CopyOf, Mid, Later}
use Rattle.gc_copying.specs.CopySteps.{Midway, SameSides, Scanning, CanScanCopy, ScansAll, WorkAt, Works, WorksOn, CanWork}
use Rattle.gc_copying.proofs.MidLemmas.{lies, new_lies, less_by_ne}
use Rattle.gc_copying.proofs.CopyKeeps.{copy_range}
use Rattle.gc_copying.proofs.FormLemmas.{traced_at, head_word, by_form, by_neither}
use Rattle.gc_copying.specs.Layout.{copying_size_at}

-- the first objects of a chain
pub chain_prefix : (size : ℕ → ℕ) (a b e x : ℕ) (ps qs : List ℕ) → Chain size a b ps → Chain size a e qs → b ≤ e → In x ps → In x qs
chain_prefix size a b e x [] qs c d h i = elim i [ ]
chain_prefix size a b _ x (_ ∷ ps) [] (next l w c) done h i = absurd (omega (arith, Chain-end size (a + size a) b ps c))
chain_prefix size a b e _ (_ ∷ ps) (_ ∷ qs) (next l w c) (next m v d) h here = here
chain_prefix size a b e x (_ ∷ ps) (_ ∷ qs) (next l w c) (next m v d) h (there i) = there (chain_prefix size (a + size a) b e x ps qs c d h i)

-- an object begins where the first ones end
pub chain_reaches : (size : ℕ → ℕ) (a b e : ℕ) (ps qs : List ℕ) → Chain size a b ps → Chain size a e qs → b < e → In b qs
chain_reaches size a _ e [] qs done d h = Chain-first size a e qs d h
chain_reaches size a b _ (_ ∷ ps) [] (next l w c) done h = absurd (omega (arith, Chain-end size (a + size a) b ps c))
chain_reaches size a b e (_ ∷ ps) (_ ∷ qs) (next l w c) (next m v d) h = there (chain_reaches size (a + size a) b e ps qs c d h)

-- offsets that are spaced from a bound on are so from a lower one
spaced_from : (lo lo' hi : ℕ) (os : List ℕ) → lo' ≤ lo → Spaced lo hi os → Spaced lo' hi os
spaced_from lo lo' hi [] h s = tt
spaced_from lo lo' hi (o ∷ os) h s = (omega (arith, s.0), s.1, s.2)

-- words that follow each other lie from the first on
word_offsets_from : (from n o : ℕ) → In o (word_offsets from n) → from ≤ o
word_offsets_from from zero o i = elim i [ ]
word_offsets_from from (suc n) _ here = omega arith
word_offsets_from from (suc n) o (there i) = omega (arith, word_offsets_from (from + 4) n o i)

elements_count : (elements : Bool) (count count' : ℕ) → (((o : ℕ) → In o (element_places elements count) → 16 ≤ o) → count' ≡ count)
    → element_places elements count' ≡ element_places elements count
elements_count true count count' same = ap (λ (n : ℕ). word_offsets 16 n) (same (λ o i. word_offsets_from 16 count o i))
elements_count false count count' same = refl

info_count : (info : Option TraceInfo) (count count' : ℕ) → (((o : ℕ) → In o (info_places count info) → 16 ≤ o) → count' ≡ count)
    → info_places count' info ≡ info_places count info
info_count None count count' same = refl
info_count (Some (trace.Struct offsets)) count count' same = refl
info_count (Some (trace.Array elements)) count count' same = elements_count elements count count' same

-- only where no reference lies in the word of an array's length is it asked for
traced_count : (types : List Declaration) (kind_word ty count count' : ℕ) → (((o : ℕ) → In o (traced types kind_word ty count) → 16 ≤ o) → count' ≡ count)
    → traced types kind_word ty count' ≡ traced types kind_word ty count
traced_count types kind_word ty count count' same = elim (cases_eq (form_of kind_word) 0) [
  | inl e ↦ by_form types kind_word ty count' 0 e ∙ sym (by_form types kind_word ty count 0 e)
  | inr not_bitmap ↦ elim (cases_eq (form_of kind_word) 1) [
    | inl e ↦
        let is = by_form types kind_word ty count 1 e in
        by_form types kind_word ty count' 1 e
        ∙ elements_count (kind_word % 2 == 1) count count' (λ h. same (λ o i. h o (subst (λ l. In o l) is i)))
        ∙ sym is
    | inr not_array ↦
        let is = by_neither types kind_word ty count not_bitmap not_array in
        by_neither types kind_word ty count' not_bitmap not_array
        ∙ info_count (trace_at Copying types ty) count count' (λ h. same (λ o i. h o (subst (λ l. In o l) is i)))
        ∙ sym is
  ]
]

-- the word of an array's length is copied, where it is no reference
length_word : (s : From) (m : List ℕ) (t p q : ℕ) → CopyOf s m t p q → 16 ≤ copying_size_at s.memory p → ((o : ℕ) → In o (refs s p) → 16 ≤ o)
    → word m (q + 12) ≡ word s.memory (p + 12)
length_word s m t p q copy least behind =
    let part : SameAcross s.memory p m q 12 16 = record { at = λ j d l u. copy.rest j d (omega arith) (λ o i. let b = behind o i in inl (omega arith)) } in
    word_across part 12 (omega arith) (omega arith)

-- a copy has the references of its object
pub copy_refs : {s : From} {m : List ℕ} {base bump limit count t : ℕ} → (mid : Mid s m base bump limit count t) → (p q : ℕ) → IsCopiedTo s m p q
    → copying_offsets_at s.types m q ≡ refs s p
copy_refs {s = s} {m = m} {t = t} mid p q leads =
    let copy = (mid.copied p q leads).copy in
    let spaced = mid.start.spaced p leads.place in
    let least : 16 ≤ copying_size_at s.memory p = (lies mid p leads.place).least in
    let q0 : q + 0 ≡ q = omega arith in
    let p0 : p + 0 ≡ p = omega arith in
    let kind : word m q ≡ word s.memory p = sym (ap (word m) q0) ∙ head_word s m t p q 0 copy spaced least (omega arith) ∙ ap (word s.memory) p0 in
    let ty : word m (q + 4) ≡ word s.memory (p + 4) = head_word s m t p q 4 copy spaced least (omega arith) in
    traced_at s.types m q
    ∙ ap (λ (k : ℕ). traced s.types k (word m (q + 4)) (word m (q + 12))) kind
    ∙ ap (λ (k : ℕ). traced s.types (word s.memory p) k (word m (q + 12))) ty
    ∙ traced_count s.types (word s.memory p) (word s.memory (p + 4)) (word s.memory (p + 12)) (word m (q + 12)) (λ behind.
    length_word s m t p q copy least (λ o i. behind o (subst (λ l. In o l) (traced_at s.types s.memory p) i)))
    ∙ sym (traced_at s.types s.memory p)

-- the frontier is at the end of the copies or at one of them
at_copy : (s : From) (h : Space) (q n fields : ℕ) → (work : WorkAt s h q n fields) → q < h.bump → In q work.mid.news
at_copy s h q n fields work less =
    chain_reaches (copying_size_at h.memory) (half_first (length h.memory) h.upper) q h.bump work.front work.mid.news work.chain work.mid.chain less

-- the copy there may be scanned
pub scanning_start : (s : From) (h : Space) (q n fields : ℕ) → WorkAt s h q n fields → q < h.bump → (p : ℕ) × Scanning s p q 0 (copying_offsets_at s.types h.memory q) h
scanning_start s h q n fields work less =
    let b = work.mid.back q (at_copy s h q n fields work less) in
    let p = b.0 in
    let same : copying_offsets_at s.types h.memory q ≡ refs s p = copy_refs work.mid p q b.1 in
    let at : q ≡ q + 0 = omega arith in (
      p,
      record {
        mid = subst (λ (t : ℕ). Midway s t h) at work.mid;
        leads = b.1;
        to = omega arith;
        spaced = subst (λ l. Spaced 0 (copying_size_at s.memory p) l) (sym same) (spaced_from 12 0 (copying_size_at s.memory p) (refs s p) (omega arith) (work.mid.start.spaced p b.1.place));
        part = λ o i. subst (λ l. In o l) same i;
        done = λ o i. inr (subst (λ l. In o l) (sym same) i);
      },
    )

pub can_scan : (types : List Declaration) (h : Space) (q : ℕ) → CanWork types h q → q < h.bump → CanScanCopy h q (copying_offsets_at types h.memory q)
can_scan types h q can less =
    let b = scanning_start can.start h q can.n can.fields can.work less in
    subst (λ t. CanScanCopy h q (copying_offsets_at t h.memory q)) can.types_are (record { start = can.start; place = b.0; from = 0; scanning = b.1 })

-- the size of the copy there lies in the memory
pub size_inside : (s : From) (h : Space) (q n fields : ℕ) → WorkAt s h q n fields → q < h.bump
    → (q + 12 ≤ length h.memory) × (q + copying_size_at h.memory q ≤ h.bump) × (16 ≤ copying_size_at h.memory q) × (h.bump < 2 ^ 32)
size_inside s h q n fields work less =
    let at = new_lies work.mid q (at_copy s h q n fields work less) in
    let mid = work.mid in
    (omega (arith, at.to, at.least, mid.room, mid.inside), at.to, at.least, omega (arith, mid.room, mid.inside, mid.same_length, mid.start.small))

-- a copy that was scanned before is as it was
module _ (s : From) (old new : Space) (q n fields t : ℕ) (work : WorkAt s old q n fields) (le : q ≤ old.bump) (after : Midway s t new) (later : Later s old.memory new.memory) where
  before : (x : ℕ) → In x work.front → (p : ℕ) × IsCopiedTo s old.memory p x
  before x i =
      work.mid.back x (chain_prefix (copying_size_at old.memory) (half_first (length old.memory) old.upper) q old.bump x work.front work.mid.news work.chain work.mid.chain le i)

  pub front_size : (x : ℕ) → In x work.front → copying_size_at new.memory x ≡ copying_size_at old.memory x
  front_size x i =
      let b = before x i in
      copy_range after b.0 x (later b.0 x b.1) ∙ sym (copy_range work.mid b.0 x b.1)

  pub front_refs : (x : ℕ) → In x work.front → length (copying_offsets_at s.types new.memory x) ≡ length (copying_offsets_at s.types old.memory x)
  front_refs x i =
      let b = before x i in
      ap (λ (l : List ℕ). length l) (copy_refs after b.0 x (later b.0 x b.1) ∙ sym (copy_refs work.mid b.0 x b.1))

-- one more copy was scanned
pub next_copy : (s : From) (old new : Space) (q n fields size : ℕ) → WorkAt s old q n fields → q < old.bump → size ≡ u32_at old.memory (q + 8)
    → ((p u : ℕ) → Scanning s p q u (copying_offsets_at s.types old.memory q) old → ScansAll s p q old new) → SameSides old new
    → Works s old new (q + size) (n + 1) (fields + length (copying_offsets_at s.types old.memory q))
next_copy s old new q n fields size work less read scans sides =
    let b = scanning_start s old q n fields work less in
    let p = b.0 in
    let leads : IsCopiedTo s old.memory p q = b.1.leads in
    let all : ScansAll s p q old new = scans p 0 b.1 in
    let leads' : IsCopiedTo s new.memory p q = all.later p q leads in
    let size_old : copying_size_at old.memory q ≡ copying_size_at s.memory p = copy_range work.mid p q leads in
    let size_is : size ≡ copying_size_at s.memory p = read ∙ sym (word-is old.memory (q + 8)) ∙ size_old in
    let size_new : copying_size_at new.memory q ≡ size = copy_range all.mid p q leads' ∙ sym size_is in
    let len : length new.memory ≡ length old.memory = all.mid.same_length ∙ sym work.mid.same_length in
    let le : q ≤ old.bump = omega arith in
    let at = lies work.mid p leads.place in
    let base = half_first (length old.memory) old.upper in
    let front_chain = Chain-resized (copying_size_at old.memory) (copying_size_at new.memory) base q work.front work.chain
    (front_size s old new q n fields (q + copying_size_at s.memory p) work le all.mid all.later) in
    let pushed = Chain-push (copying_size_at new.memory) base q work.front front_chain
    (subst (λ (k : ℕ). 16 ≤ k) (sym (size_new ∙ size_is)) at.least) (subst (λ (k : ℕ). k % 16 ≡ 0) (sym (size_new ∙ size_is)) at.whole) in
    let refs_new : length (copying_offsets_at s.types new.memory q) ≡ length (copying_offsets_at s.types old.memory q) =
    ap (λ (l : List ℕ). length l) (copy_refs all.mid p q leads' ∙ sym (copy_refs work.mid p q leads)) in
    let looked = sum_over-append (λ x. length (copying_offsets_at s.types new.memory x)) work.front (q ∷ []) in
    let front_looked = sum_over-same (λ x. length (copying_offsets_at s.types old.memory x)) (λ x. length (copying_offsets_at s.types new.memory x)) work.front
    (front_refs s old new q n fields (q + copying_size_at s.memory p) work le all.mid all.later) in
    record {
      work = record {
        mid = subst (λ (k : ℕ). Midway s (q + k) new) (sym size_is) all.mid;
        front = work.front ++ (q ∷ []);
        chain = subst (λ u. Chain (copying_size_at new.memory) (half_first (length new.memory) u) (q + size) (work.front ++ (q ∷ []))) (sym sides.upper)
            (subst (λ l. Chain (copying_size_at new.memory) (half_first l old.upper) (q + size) (work.front ++ (q ∷ []))) (sym len)
            (subst (λ (k : ℕ). Chain (copying_size_at new.memory) base (q + k) (work.front ++ (q ∷ []))) size_new pushed));
        scanned = length-append work.front (q ∷ []) ∙ ap (λ (k : ℕ). k + 1) work.scanned;
        looked_at = omega (arith, looked, front_looked, refs_new, work.looked_at);
      };
      later = all.later;
    }

-- the same, where the types are known by an equation
pub next_copy_by : (types : List Declaration) (s : From) (old new : Space) (q n fields size : ℕ) → s.types ≡ types → WorkAt s old q n fields → q < old.bump → size ≡ u32_at old.memory (q + 8)
    → ((p u : ℕ) → Scanning s p q u (copying_offsets_at types old.memory q) old → ScansAll s p q old new) → SameSides old new
    → Works s old new (q + size) (n + 1) (fields + length (copying_offsets_at types old.memory q))
next_copy_by types s old new q n fields size e work less read scans sides =
    subst (λ t. Works s old new (q + size) (n + 1) (fields + length (copying_offsets_at t old.memory q))) e
    (next_copy s old new q n fields size work less read
    (subst (λ t. (p u : ℕ) → Scanning s p q u (copying_offsets_at t old.memory q) old → ScansAll s p q old new) (sym e) scans) sides)

-- no copy was scanned so far
pub works_start : (s : From) (h : Space) (scan n fields count : ℕ) → WorkAt s h scan n fields → WorksOn s h h scan 0 n fields count count
works_start s h scan n fields count work =
    let n0 : n ≡ n + 0 = omega arith in
    let f0 : fields ≡ fields + 0 = omega arith in
    record {
      references = 0;
      works = record {
        work = subst (λ (k : ℕ). WorkAt s h scan k (fields + 0)) n0 (subst (λ (k : ℕ). WorkAt s h scan n k) f0 work);
        later = λ p q l. l;
      };
      ticks = omega arith;
    }

-- one more was
pub works_step : (s : From) (old now after : Space) (scan scan' more n fields counted count count' k : ℕ)
    → (on : WorksOn s old now scan more n fields counted count)
    → Works s now after scan' (n + more + 1) (fields + on.references + k) → count' + now.objects ≡ count + after.objects + k
    → WorksOn s old after scan' (more + 1) n fields counted count'
works_step s old now after scan scan' more n fields counted count count' k on works ticks =
    let e : n + more + 1 ≡ n + (more + 1) = omega arith in
    let f : fields + on.references + k ≡ fields + (on.references + k) = omega arith in
    record {
      references = on.references + k;
      works = record {
        work = subst (λ (x : ℕ). WorkAt s after scan' x (fields + (on.references + k))) e (subst (λ (x : ℕ). WorkAt s after scan' (n + more + 1) x) f works.work);
        later = λ p q l. works.later p q (on.works.later p q l);
      };
      ticks = omega (arith, on.ticks, ticks);
    }

-- the scan may go on
pub can_go_on : (types : List Declaration) (old now : Space) (scan scan' more counted count : ℕ)
    → ((s : From) (n fields : ℕ) → s.types ≡ types → WorkAt s old scan n fields → WorksOn s old now scan' more n fields counted count)
    → CanWork types old scan → CanWork types now scan'
can_go_on types old now scan scan' more counted count along can =
    let on = along can.start can.n can.fields can.types_are can.work in
    record { start = can.start; n = can.n + more; fields = can.fields + on.references; work = on.works.work; types_are = can.types_are }

-- where the frontier isn't at the end there is a copy
pub frontier_less : (types : List Declaration) (h : Space) (scan : ℕ) → CanWork types h scan → (scan ≡ h.bump → ⊥) → scan < h.bump
frontier_less types h scan can ne = less_by_ne scan h.bump can.work.mid.frontier ne
