-- The lines of a report, one by one, and what a report leaves of a store.
use Rattle.std.proofs.Common.{Bool, ◌≡◌, ℕ, zero, suc, ◌+◌, ◌<◌, ◌≤◌, true, List, [], ◌∷◌, ◌++◌, Some, Result, Ok, Err, MatchResult, length, take, slice_get, get_or, refl, sym, ap, ◌∙◌, subst, arith, append_assoc}
use Rattle.std.proofs.lemmas.List.{append-nil}
use Rattle.std.specs.Prelude.{IsErrAnd}
use Rattle.gc_types.specs.declared.kind.Layouts.{Layouts}
use Rattle.gc_commands.specs.declared.reply.ReplyValue.{ReplyValue}
use Rattle.gc_model.specs.Values.{at, Object}
use Rattle.gc_model.specs.Table.{Table}
use Rattle.gc_model.specs.Holds.{HoldsTable}
use Rattle.gc_model.specs.Stores.{StoreView}
use Rattle.gc_values.specs.declared.root.GcRootIndex.{GcRootIndex}
use Rattle.gc_store.specs.Roots.{NamesReference}
use Rattle.gc_paths.specs.declared.entry.PathEntry.{PathEntry}
use Rattle.gc_paths.specs.declared.entry.PathParent.{PathParent}
use Rattle.gc_paths.specs.declared.search.Found.{Found}
use Rattle.gc_paths.specs.Answers.{NeedsRoots}
use Rattle.gc_paths.specs.Left.{FoundAll}
use Rattle.gc_paths.specs.Progress.{Basis}
use Rattle.gc_paths.specs.Reports.{Told, told_entries, IsReport}
use Rattle.gcsh_reports.specs.PathAnswers.{IsReportText}
use Rattle.gc_script.specs.Shapes.{shown_object}
use Rattle.gcsh_reports.specs.PathLines.{line_text, lines_from}

-- what is told under a number, by its entry
pub at_entry : (told : List Told) (n : ℕ) (d : PathEntry) → n < length told → (x : Told) × ((slice_get told n ≡ Some x) × (x.entry ≡ get_or (told_entries told) n d))
at_entry [] n d low = absurd (omega (arith, low))
at_entry (x ∷ told) zero d low = (x, (refl, refl))
at_entry (x ∷ told) (suc n) d low = at_entry told n d (omega (arith, low))

same_line : (n m : ℕ) (from from' : PathParent) (value value' : ReplyValue) → n ≡ m → from ≡ from' → value ≡ value' → line_text n from value ≡ line_text m from' value'
same_line n m from from' value value' counts parents values =
    ap (λ (k : ℕ). line_text k from value) counts ∙ (ap (λ (p : PathParent). line_text m p value) parents ∙ ap (λ (v : ReplyValue). line_text m from' v) values)

one_line : (objects : List (Object ℕ)) (from from' : ℕ) (x y : Told) → from ≡ from' → x ≡ y
    → line_text from x.entry.parent (shown_object (slice_get objects x.position)) ≡ line_text from' y.entry.parent (shown_object (slice_get objects y.position))
one_line objects from from' x y is same =
    subst (λ (k : ℕ). line_text from x.entry.parent (shown_object (slice_get objects x.position)) ≡ line_text k y.entry.parent (shown_object (slice_get objects y.position))) is
    (ap (λ (z : Told). line_text from z.entry.parent (shown_object (slice_get objects z.position))) same)

-- the lines of one more
pub lines_more : (objects : List (Object ℕ)) (from n : ℕ) (told : List Told) (x : Told) → slice_get told n ≡ Some x
    → lines_from objects from (take (suc n) told) ≡ lines_from objects from (take n told) ++ line_text (from + n) x.entry.parent (shown_object (slice_get objects x.position))
lines_more objects from n [] x is = absurd (cc)
lines_more objects from zero (y ∷ told) x is =
    let same : y ≡ x = cc (is) in
    let first = append-nil (line_text from y.entry.parent (shown_object (slice_get objects y.position))) in
    first ∙ one_line objects from (from + 0) y x (omega arith) same
lines_more objects from (suc n) (y ∷ told) x is =
    let rest = lines_more objects (from + 1) n told x is in
    let this = line_text from y.entry.parent (shown_object (slice_get objects y.position)) in
    let count : from + 1 + n ≡ from + suc n = omega arith in
    ap (λ (xs : List ℕ). this ++ xs) (rest ∙ ap (λ (k : ℕ). lines_from objects (from + 1) (take n told) ++ line_text k x.entry.parent (shown_object (slice_get objects x.position))) count)
    ∙ sym (append_assoc this (lines_from objects (from + 1) (take n told)) (line_text (from + suc n) x.entry.parent (shown_object (slice_get objects x.position))))

count_entries : (told : List Told) → length (told_entries told) ≡ length told
count_entries [] = refl
count_entries (x ∷ told) = ap suc (count_entries told)

got : (xs : List GcRootIndex) (n : ℕ) (d : GcRootIndex) → n < length xs → slice_get xs n ≡ Some (get_or xs n d)
got [] n d low = absurd (omega (arith, low))
got (x ∷ xs) zero d low = refl
got (x ∷ xs) (suc n) d low = got xs n d (omega (arith, low))

take_past : (told : List Told) (n : ℕ) → length told ≤ n → take n told ≡ told
take_past [] zero past = refl
take_past [] (suc n) past = refl
take_past (x ∷ told) zero past = absurd (omega (arith, past))
take_past (x ∷ told) (suc n) past = ap (λ (xs : List Told). x ∷ xs) (take_past told n (omega (arith, past)))

-- all lines
all_lines : (objects : List (Object ℕ)) (n : ℕ) (told : List Told) → length told ≤ n → lines_from objects 0 (take n told) ≡ lines_from objects 0 told
all_lines objects n told past = ap (λ (xs : List Told). lines_from objects 0 xs) (take_past told n past)

module _ (layouts : Layouts) (b : Basis ℕ) (s : StoreView ℕ) (found : Found) (all : FoundAll layouts b s found) where
  as_many : length found.entries.items ≡ length all.told
  as_many = ap length all.entries_are ∙ count_entries all.told

  -- the next line is that of the next object
  pub next_line : (n : ℕ) (d : PathEntry) (h : GcRootIndex) (es : List PathEntry) (hs : List GcRootIndex) (old new : List ℕ) (value : ReplyValue)
      → es ≡ found.entries.items → hs ≡ found.handles.items → n < length es → n < length hs → h ≡ get_or hs n h
      → ((t : Table ℕ) (p : ℕ) → HoldsTable layouts s t → NamesReference s t h (at p) → value ≡ shown_object (slice_get t.objects p))
      → old ≡ lines_from b.table.objects 0 (take n all.told)
      → new ≡ old ++ line_text n (get_or es n d).parent value
      → new ≡ lines_from b.table.objects 0 (take (n + 1) all.told)
  next_line n d h es hs old new value same_entries same_handles low within is_handle tells before is =
      let few : length es ≡ length all.told = ap length same_entries ∙ as_many in
      let x = at_entry all.told n d (omega (arith, low, few)) in
      let entry : x.0.entry ≡ get_or es n d = x.1.1 ∙ ap (λ (xs : List PathEntry). get_or xs n d) (sym all.entries_are ∙ sym same_entries) in
      let there : slice_get found.handles.items n ≡ Some h = subst (λ (xs : List GcRootIndex). slice_get xs n ≡ Some h) same_handles (got hs n h within ∙ ap Some (sym is_handle)) in
      let named = all.named n x.0 h x.1.0 there in
      let same : all.holds.now.objects ≡ b.table.objects = ap (λ (t : Table ℕ). t.objects) all.holds.grown.is in
      let shown = tells all.holds.now x.0.position (b.place, all.holds.there.0) named ∙ ap (λ (os : List (Object ℕ)). shown_object (slice_get os x.0.position)) same in
      let line = line_text n (get_or es n d).parent value in
      let parts : line ≡ line_text (0 + n) x.0.entry.parent (shown_object (slice_get b.table.objects x.0.position)) = same_line n (0 + n) _ _ _ _ (omega arith) (ap (λ (e : PathEntry). e.parent) (sym entry)) shown in
      let count : suc n ≡ n + 1 = omega arith in
      is ∙ (ap (λ (xs : List ℕ). xs ++ line) before ∙ (ap (λ (xs : List ℕ). lines_from b.table.objects 0 (take n all.told) ++ xs) parts
      ∙ (sym (lines_more b.table.objects 0 n all.told x.0 x.1.0) ∙ ap (λ (k : ℕ). lines_from b.table.objects 0 (take k all.told)) count)))

  -- behind the last entry all lines are there
  pub last_line : (n : ℕ) (es : List PathEntry) (text : List ℕ) → es ≡ found.entries.items → length es ≤ n → text ≡ lines_from b.table.objects 0 (take n all.told) → text ≡ lines_from b.table.objects 0 all.told
  last_line n es text same past is =
      let few : length es ≡ length all.told = ap length same ∙ as_many in
      is ∙ all_lines b.table.objects n all.told (omega (arith, past, few))

-- the text of all lines is that of a report
pub told_in : (layouts : Layouts) (b : Basis ℕ) (s : StoreView ℕ) (found : Found) (all : FoundAll layouts b s found) → (text : List ℕ) → text ≡ lines_from b.table.objects 0 all.told → b.scoped ≡ true → IsReportText b.table b.place text
told_in layouts b s found all text is scoped = record {
  told = all.told;
  report = subst (λ (which : Bool). IsReport which b.table b.place all.told) scoped all.report;
  text_is = is;
  count = all.count;
  needs = subst (λ (which : Bool). NeedsRoots which b.table all.count) scoped all.needs;
  room = all.room;
}

-- a refusal is handed on
pub refused_as : {A E : Type 0} (P : A → Type 0) (Q : E → Type 0) (result : Result A E) (why : E) → IsErrAnd result (λ (e : E). e ≡ why) → Q why → MatchResult result P Q
refused_as P Q (Ok x) why told q = absurd told
refused_as P Q (Err e) why told q = subst Q (sym told) q
