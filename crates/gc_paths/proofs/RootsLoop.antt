-- Root words are looked at one by one, up to the last from which walks begin.
use Rattle.std.proofs.Common.{inl, inr, ◌≡◌, ◌⊎◌, ℕ, ◌+◌, ◌<◌, ◌≤◌, zero, suc, List, [], ◌∷◌, ◌++◌, length, map, take, get_or, Option, Some, None, Err, Bool, true, false, sym, ap, ◌∙◌, refl, subst, arith}
use Rattle.std.specs.Prelude.{sum_by, option_map, nat_lt}
use Rattle.std.specs.List.{slice_get, IsDistinct}
use Rattle.std.proofs.lemmas.Bool.{cases_eq, lt-ltb}
use Rattle.std.proofs.lemmas.Bool.Decides.{nat_tests}
use Rattle.std.proofs.lemmas.List.{append-nil, append_assoc, take_all}
use Rattle.std.proofs.lemmas.List.Sums.{sum_by_more, sum_by-take-le}
use Rattle.std.proofs.lemmas.Option.{none-some, same_Some, slice_get_within, slice_get_cases, get_or_from_slice_get}
use Rattle.gc_types.specs.declared.kind.Layouts.{Layouts}
use Rattle.gc_owner.specs.declared.entry.RootEntry.{RootEntry}
use Rattle.gc_owner.specs.declared.entry.OwnedEntry.{OwnedEntry}
use Rattle.gc_owner.specs.declared.entry.SlotEntry.{SlotEntry}
use Rattle.gc_model.specs.Stores.{StoreView}
use Rattle.gc_view.specs.Heaps.{HeapView, SameHeld}
use Rattle.gc_model.proofs.HoldsParts.{same_held-itself}
use Rattle.gc_model.proofs.Lists.{slice_get-take}
use Rattle.gc_store.specs.declared.root_words.RootName.{RootName}
use Rattle.gc_store.specs.declared.root_words.RootName.TheVariants as name
use Rattle.gc_store.specs.declared.root_words.RootWord.{RootWord}
use Rattle.gc_store.specs.OwnedWords.{HoldsThere}
use Rattle.gc_store.specs.RootWords.{with_numbers, root_word, root_words, global_root_word, slot_root_word, slot_roots, owned_root_word, scoped_root_word}
use Rattle.gc_store.specs.Staying.{OnlyAdds}
use Rattle.gc_paths.specs.declared.fault.PathFault.{PathFault}
use Rattle.gc_paths.specs.declared.fault.PathFault.TheVariants as path_fault
use Rattle.gc_paths.specs.Walks.{start_roots, start_references}
use Rattle.gc_paths.specs.Answers.{LacksRoots, present_count}
use Rattle.gc_paths.specs.Parts.{Parts, empty_parts}
use Rattle.gc_paths.specs.Progress.{Basis, Progress, SearchGoesOn, AnswersPart, IsStartWord, TellsRoot, TellsStarts, word_count}
use Rattle.gc_paths.proofs.StartRoots.{TellsRoots, scoped_words, start_words}
use Rattle.gc_paths.specs.StartWords.{is_start_name}
use Rattle.gc_paths.proofs.Growing.{grown_none, lacks_more}
use Rattle.gc_paths.proofs.Taken.{keeps_itself, keeps_twice, told_kept}
use Rattle.gc_paths.proofs.Starts.{StandFor, starts_stand}

-- The root words of a store on which roots were pushed

numbered_both : {A B : Type 0} (give : ℕ → A → B) (from next : ℕ) (xs ys : List A) → next ≡ from + length xs → with_numbers give from (xs ++ ys) ≡ with_numbers give from xs ++ with_numbers give next ys
numbered_both give from next [] ys is = ap (λ k. with_numbers give k ys) (same is)
  where
    same : next ≡ from + 0 → from ≡ next
    same h = omega (arith, h)
numbered_both give from next (x ∷ xs) ys is = ap (λ zs. give from x ∷ zs) (numbered_both give (from + 1) next xs ys (omega (arith, is)))

-- the words behind those from which walks begin
abbrev rest_words : Bool → List RootEntry → List RootEntry → List RootWord
rest_words false scoped entries = with_numbers scoped_root_word 0 (scoped ++ entries)
rest_words true scoped entries = with_numbers scoped_root_word (length scoped) entries

scoped_split : (asked : Bool) (scoped entries : List RootEntry) → with_numbers scoped_root_word 0 (scoped ++ entries) ≡ scoped_words asked scoped ++ rest_words asked scoped entries
scoped_split false scoped entries = refl
scoped_split true scoped entries = numbered_both scoped_root_word 0 (length scoped) scoped entries (omega arith)

joined : (globals slots owned asked rest : List RootWord) (pending : RootWord) → globals ++ (pending ∷ (slots ++ (owned ++ (asked ++ rest)))) ≡ (globals ++ (pending ∷ (slots ++ (owned ++ asked)))) ++ rest
joined globals slots owned asked rest pending =
    ap (λ xs. globals ++ (pending ∷ (slots ++ xs))) (sym (append_assoc owned asked rest))
    ∙ ap (λ xs. globals ++ (pending ∷ xs)) (sym (append_assoc slots (owned ++ asked) rest))
    ∙ sym (append_assoc globals (pending ∷ (slots ++ (owned ++ asked))) rest)

pub words_split : {D : Type 0} (asked : Bool) (s new : StoreView D) → (adds : OnlyAdds s new) → root_words new ≡ start_words asked s ++ rest_words asked s.scoped adds.entries
words_split asked s new adds =
    ap root_words adds.rest
    ∙ ap (λ xs. with_numbers global_root_word 0 s.globals ++ (root_word name.Pending s.pending ∷ (slot_roots 0 s.frames ++ (map owned_root_word s.owned ++ xs)))) (scoped_split asked s.scoped adds.entries)
    ∙ joined (with_numbers global_root_word 0 s.globals) (slot_roots 0 s.frames) (map owned_root_word s.owned) (scoped_words asked s.scoped) (rest_words asked s.scoped adds.entries) (root_word name.Pending s.pending)

-- Which of them begin walks

abbrev AreStarts : Bool → Bool → ℕ → List RootWord → Type 0
AreStarts are asked mark ws = (i : ℕ) (w : RootWord) → slice_get ws i ≡ Some w → is_start_name asked mark w.name ≡ are

module _ (are asked : Bool) (mark : ℕ) where
  none_start : AreStarts are asked mark []
  none_start i w e = absurd (none-some w e)

  more_start : (w : RootWord) (ws : List RootWord) → is_start_name asked mark w.name ≡ are → AreStarts are asked mark ws → AreStarts are asked mark (w ∷ ws)
  more_start w ws first rest zero v e = subst (λ (x : RootWord). is_start_name asked mark x.name ≡ are) (same_Some w v e) first
  more_start w ws first rest (suc i) v e = rest i v e

  both_start : (vs ws : List RootWord) → AreStarts are asked mark vs → AreStarts are asked mark ws → AreStarts are asked mark (vs ++ ws)
  both_start [] ws first rest = rest
  both_start (v ∷ vs) ws first rest = more_start v (vs ++ ws) (first 0 v refl) (both_start vs ws (λ i w e. first (suc i) w e) rest)

  numbered_start : {A : Type 0} (give : ℕ → A → RootWord) (from last : ℕ) (xs : List A) → ((k : ℕ) (x : A) → from ≤ k → k < last → is_start_name asked mark (give k x).name ≡ are) → from + length xs ≤ last → AreStarts are asked mark (with_numbers give from xs)
  numbered_start give from last [] each below = none_start
  numbered_start give from last (x ∷ xs) each below =
      more_start (give from x) (with_numbers give (from + 1) xs) (each from x (omega arith) (omega (arith, below)))
      (numbered_start give (from + 1) last xs (λ k y over under. each k y (omega (arith, over)) under) (omega (arith, below)))

frames_start : (asked : Bool) (mark from : ℕ) (frames : List (List SlotEntry)) → AreStarts true asked mark (slot_roots from frames)
frames_start asked mark from [] = none_start true asked mark
frames_start asked mark from (slots ∷ frames) =
    both_start true asked mark (with_numbers (slot_root_word from) 0 slots) (slot_roots (from + 1) frames)
    (numbered_start true asked mark (slot_root_word from) 0 (length slots) slots (λ k x over under. refl) (omega arith)) (frames_start asked mark (from + 1) frames)

owned_start : (asked : Bool) (mark : ℕ) (entries : List OwnedEntry) → AreStarts true asked mark (map owned_root_word entries)
owned_start asked mark [] = none_start true asked mark
owned_start asked mark (e ∷ entries) = more_start true asked mark (owned_root_word e) (map owned_root_word entries) refl (owned_start asked mark entries)

below_mark : (k mark : ℕ) → k < mark → nat_lt k mark ≡ true
below_mark k mark below = lt-ltb k mark below

past_mark : (k mark : ℕ) → mark ≤ k → nat_lt k mark ≡ false
past_mark k mark past = grind (arith, nat_tests, past)

scoped_start : (asked : Bool) (entries : List RootEntry) → AreStarts true asked (length entries) (scoped_words asked entries)
scoped_start false entries = none_start true false (length entries)
scoped_start true entries = numbered_start true true (length entries) scoped_root_word 0 (length entries) entries (λ k x over under. below_mark k (length entries) under) (omega arith)

pub starts_start : {D : Type 0} (asked : Bool) (s : StoreView D) → AreStarts true asked (length s.scoped) (start_words asked s)
starts_start asked s =
    both_start true asked (length s.scoped) (with_numbers global_root_word 0 s.globals) (root_word name.Pending s.pending ∷ (slot_roots 0 s.frames ++ (map owned_root_word s.owned ++ scoped_words asked s.scoped)))
    (numbered_start true asked (length s.scoped) global_root_word 0 (length s.globals) s.globals (λ k x over under. refl) (omega arith))
    (more_start true asked (length s.scoped) (root_word name.Pending s.pending) (slot_roots 0 s.frames ++ (map owned_root_word s.owned ++ scoped_words asked s.scoped)) refl
    (both_start true asked (length s.scoped) (slot_roots 0 s.frames) (map owned_root_word s.owned ++ scoped_words asked s.scoped) (frames_start asked (length s.scoped) 0 s.frames)
    (both_start true asked (length s.scoped) (map owned_root_word s.owned) (scoped_words asked s.scoped) (owned_start asked (length s.scoped) s.owned) (scoped_start asked s.scoped))))

rest_start : (asked : Bool) (scoped entries : List RootEntry) → AreStarts false asked (length scoped) (rest_words asked scoped entries)
rest_start false scoped entries = numbered_start false false (length scoped) scoped_root_word 0 (0 + length (scoped ++ entries)) (scoped ++ entries) (λ k x over under. refl) (omega arith)
rest_start true scoped entries = numbered_start false true (length scoped) scoped_root_word (length scoped) (length scoped + length entries) entries (λ k x over under. past_mark k (length scoped) over) (omega arith)

-- the elements of two lists one behind the other
at_left : {X : Type 0} (xs ys : List X) (i : ℕ) → i < length xs → slice_get (xs ++ ys) i ≡ slice_get xs i
at_left [] ys i below = absurd (omega (arith, below))
at_left (x ∷ xs) ys zero below = refl
at_left (x ∷ xs) ys (suc i) below = at_left xs ys i (omega (arith, below))

at_right : {X : Type 0} (xs ys : List X) (i : ℕ) (x : X) → length xs ≤ i → slice_get (xs ++ ys) i ≡ Some x → (k : ℕ) × (slice_get ys k ≡ Some x)
at_right [] ys i x past e = (i, e)
at_right (y ∷ xs) ys zero x past e = absurd (omega (arith, past))
at_right (y ∷ xs) ys (suc i) x past e = at_right xs ys i x (omega (arith, past)) e

take_at_below : {X : Type 0} (xs : List X) (n k : ℕ) (x : X) → k < n → slice_get xs k ≡ Some x → slice_get (take n xs) k ≡ Some x
take_at_below [] n k x under h = absurd (none-some x h)
take_at_below (y ∷ xs) zero k x under h = absurd (omega (arith, under))
take_at_below (y ∷ xs) (suc n) zero x under h = h
take_at_below (y ∷ xs) (suc n) (suc k) x under h = take_at_below xs n k x (omega (arith, under)) h

below_taken : {X : Type 0} (xs : List X) (n k : ℕ) (x : X) → slice_get (take n xs) k ≡ Some x → k < n
below_taken [] zero k x h = absurd (none-some x h)
below_taken [] (suc n) k x h = absurd (none-some x h)
below_taken (y ∷ xs) zero k x h = absurd (none-some x h)
below_taken (y ∷ xs) (suc n) zero x h = omega arith
below_taken (y ∷ xs) (suc n) (suc k) x h = let rest = below_taken xs n k x h in omega (arith, rest)

true_false : true ≡ false → ⊥
true_false e = cc

module _ {D : Type 0} (asked : Bool) (s new : StoreView D) (adds : OnlyAdds s new) (number : ℕ) where
  -- a name that begins walks is that of one of these words
  pub start_found : (n : RootName) → option_map (λ (w : RootWord). w.name) (slice_get (root_words new) number) ≡ Some n → is_start_name asked (length s.scoped) n ≡ true
      → (w : RootWord) × ((slice_get (start_words asked s) number ≡ Some w) × (slice_get (root_words new) number ≡ Some w))
  start_found n named start = by (slice_get (root_words new) number) refl named
    where
      by : (o : Option RootWord) → slice_get (root_words new) number ≡ o → option_map (λ (w : RootWord). w.name) o ≡ Some n → (w : RootWord) × ((slice_get (start_words asked s) number ≡ Some w) × (slice_get (root_words new) number ≡ Some w))
      by None e is = absurd (none-some n is)
      by (Some w) e is = elim ((slice_get_cases (start_words asked s) number).1) [
        | inl inside ↦ (w, (sym (at_left (start_words asked s) (rest_words asked s.scoped adds.entries) number inside.1) ∙ sym (ap (λ ws. slice_get ws number) (words_split asked s new adds)) ∙ e, e))
        | inr past ↦
            let behind = at_right (start_words asked s) (rest_words asked s.scoped adds.entries) number w past.0 (sym (ap (λ ws. slice_get ws number) (words_split asked s new adds)) ∙ e) in
            let no_start = rest_start asked s.scoped adds.entries behind.0 w behind.1 in
            absurd (true_false (sym start ∙ ap (is_start_name asked (length s.scoped)) (sym (same_Some w.name n is)) ∙ no_start))
      ]

  -- at one of these words a name is found that begins walks
  pub found_start : number < length (start_words asked s) → (n : RootName) × ((option_map (λ (w : RootWord). w.name) (slice_get (root_words new) number) ≡ Some n) × (is_start_name asked (length s.scoped) n ≡ true))
  found_start below = elim ((slice_get_cases (start_words asked s) number).1) [
    | inl inside ↦ (
      inside.0.name,
      (
        ap (λ ws. option_map (λ (w : RootWord). w.name) (slice_get ws number)) (words_split asked s new adds)
            ∙ ap (option_map (λ (w : RootWord). w.name)) (at_left (start_words asked s) (rest_words asked s.scoped adds.entries) number below ∙ inside.2),
        starts_start asked s number inside.0 inside.2,
      ),
    )
    | inr past ↦ absurd (omega (arith, below, past.0))
  ]

-- The search along them

module _ {D : Type 0} (layouts : Layouts) (b : Basis D) (s : StoreView D) (there : HoldsThere layouts s b.table b.place b.account) where
  abbrev words : List RootWord
  words = start_words b.scoped s

  stands : StandFor b.place words (start_roots b.scoped b.table)
  stands = starts_stand layouts s b.table b.place b.scoped there.0

  pub is_start_word : (i : ℕ) (w : RootWord) → slice_get words i ≡ Some w → IsStartWord b w
  is_start_word i w e some = let is = stands.sound i w e some in (is.one, (is.among, (is.name_is, is.word)))

  progress_none : Progress layouts b [] 0 0 s empty_parts
  unfolding IsDistinct
  progress_none = record {
    holds = record { now = b.table; grown = grown_none b.table; there = there };
    lists = record {
      entries_are = refl;
      same_count = refl;
      named = λ i x h e f. absurd (none-some x e);
      known = λ word. (λ e. absurd (true_false (sym e)), λ knows. absurd (none-some knows.one knows.there));
    };
    tells = record {
      each = λ i x e. absurd (none-some x e);
      walks = λ i x e. absurd (none-some x e);
      distinct = tt;
      rising = λ i j x y below e f. absurd (none-some x e);
      within = λ i x e. absurd (none-some x e);
      short = λ i x e. absurd (none-some x e);
    };
    few = omega arith;
  }

  pub roots_begin : (r : Parts) → r ≡ empty_parts → SearchGoesOn layouts b [] 0 (sum_by word_count (take 0 words)) s r (TellsRoots b (take 0 words))
  roots_begin r is = subst (λ (p : Parts). SearchGoesOn layouts b [] 0 (sum_by word_count (take 0 words)) s p (TellsRoots b (take 0 words))) (sym is) (record {
    told = [];
    kept = keeps_itself [];
    progress = subst (λ (n : ℕ). Progress layouts b [] 0 n s empty_parts) (nothing words) progress_none;
    done = none words;
  })
    where
      nothing : (ws : List RootWord) → 0 ≡ sum_by word_count (take 0 ws)
      nothing [] = refl
      nothing (w ∷ ws) = refl

      none : (ws : List RootWord) → TellsRoots b (take 0 ws) []
      none [] i w e = absurd (none-some w e)
      none (x ∷ ws) i w e = absurd (none-some w e)

  count_more : (i : ℕ) (w : RootWord) → slice_get words i ≡ Some w → sum_by word_count (take i words) + word_count w ≡ sum_by word_count (take (i + 1) words)
  count_more i w e =
      let more = sum_by_more word_count words i w (slice_get_within words i w e) in
      let is : word_count (get_or words i w) ≡ word_count w = ap word_count (get_or_from_slice_get words i w w e) in
      omega (arith, more, is)

  pub roots_more : (i : ℕ) (w : RootWord) → slice_get words i ≡ Some w → (now : StoreView D) (r : Parts) (goes : SearchGoesOn layouts b [] 0 (sum_by word_count (take i words)) now r (TellsRoots b (take i words))) → (new : StoreView D) (after : Parts)
      → SearchGoesOn layouts b goes.told 0 (sum_by word_count (take i words) + word_count w) new after (TellsRoot b w) → SearchGoesOn layouts b [] 0 (sum_by word_count (take (i + 1) words)) new after (TellsRoots b (take (i + 1) words))
  roots_more i w e now r goes new after next = record {
    told = next.told;
    kept = keeps_twice [] goes.told next.told goes.kept next.kept;
    progress = subst (λ (n : ℕ). Progress layouts b next.told 0 n new after) (count_more i w e) next.progress;
    done = done;
  }
    where
      done : TellsRoots b (take (i + 1) words) next.told
      done j v at_j p placed =
          let in_words = slice_get-take (i + 1) words j v at_j in
          let under = below_taken words (i + 1) j v at_j in
          elim (cases_eq j i) [
            | inl same ↦
                let is : w ≡ v = same_Some w v (sym e ∙ ap (slice_get words) (sym same) ∙ in_words) in
                next.done p (subst (λ (x : RootWord). b.place p ≡ Some x.word) (sym is) placed)
            | inr other ↦ told_kept goes.told next.told p 0 next.kept (goes.done j v (take_at_below words i j v (omega (arith, under, other)) in_words) p placed)
          ]

  pub roots_end : (i : ℕ) → i ≤ length words → length words ≤ i → (now : StoreView D) (r : Parts) → SearchGoesOn layouts b [] 0 (sum_by word_count (take i words)) now r (TellsRoots b (take i words))
      → SearchGoesOn layouts b [] 0 (present_count (start_references b.scoped b.table)) now r (TellsStarts b)
  roots_end i under over now r goes = record {
    told = goes.told;
    kept = goes.kept;
    progress = subst (λ (n : ℕ). Progress layouts b goes.told 0 n now r) (ap (sum_by word_count) (take_all i words over) ∙ stands.as_many) goes.progress;
    done = λ root p among is.
        let has = stands.complete root p among is in
        goes.done has.index has.one (ap (λ ws. slice_get ws has.index) (take_all i words over) ∙ has.there) p has.word;
  }

  pub roots_refused : (i : ℕ) (w : RootWord) → slice_get words i ≡ Some w → (why : PathFault) (Went More : Type 0) (now : StoreView D) → AnswersPart layouts b Went (LacksRoots b.table (sum_by word_count (take i words) + word_count w)) (Err why) now
      → AnswersPart layouts b More (LacksRoots b.table (present_count (start_references b.scoped b.table))) (Err why) now
  roots_refused i w e path_fault.WrongStore Went More now never = never
  roots_refused i w e path_fault.Unrooted Went More now never = never
  roots_refused i w e path_fault.NoObject Went More now never = never
  roots_refused i w e path_fault.RootsFull Went More now full =
      let more = count_more i w e in
      let part = sum_by-take-le word_count words (i + 1) in
      let all = stands.as_many in
      (lacks_more b.table (sum_by word_count (take i words) + word_count w) (present_count (start_references b.scoped b.table)) (omega (arith, more, part, all)) full.0, full.1)
  roots_refused i w e path_fault.Memory Went More now stopped = stopped

-- What was added twice is added

held_twice : (a b c : HeapView) → SameHeld a b → SameHeld b c → SameHeld a c
held_twice a b c one two = record {
  content = two.content ∙ one.content;
  attached = two.attached ∙ one.attached;
  capacity = two.capacity ∙ one.capacity;
  allocated = two.allocated ∙ one.allocated;
  needs_gc = two.needs_gc ∙ one.needs_gc;
}

pub adds_none : {D : Type 0} (s : StoreView D) → OnlyAdds s s
adds_none s = record { entries = []; held = same_held-itself s.heap; rest = λ i. record s { scoped = sym (append-nil s.scoped) i } }

pub adds_twice : {D : Type 0} (a b c : StoreView D) → OnlyAdds a b → OnlyAdds b c → OnlyAdds a c
adds_twice {D} a b c one two = record {
  entries = one.entries ++ two.entries;
  held = held_twice a.heap b.heap c.heap one.held two.held;
  rest = two.rest
      ∙ ap (λ (v : StoreView D). record v { heap = c.heap; scoped = v.scoped ++ two.entries; spare = c.spare }) one.rest
      ∙ (λ i. record a { heap = c.heap; scoped = append_assoc a.scoped one.entries two.entries i; spare = c.spare });
}

-- at the end none of the words is left
pub none_left : {D : Type 0} (asked : Bool) (s new : StoreView D) (adds : OnlyAdds s new) (number : ℕ) → ((n : RootName) → option_map (λ (w : RootWord). w.name) (slice_get (root_words new) number) ≡ Some n → is_start_name asked (length s.scoped) n ≡ true → ⊥) → length (start_words asked s) ≤ number
none_left asked s new adds number none = elim (before_or_past number (length (start_words asked s))) [
  | inl below ↦ absurd (let found = found_start asked s new adds number below in none found.0 found.1.0 found.1.1)
  | inr past ↦ past
]
  where
    before_or_past : (i n : ℕ) → (i < n) ⊎ (n ≤ i)
    before_or_past i zero = inr (omega arith)
    before_or_past zero (suc n) = inl (omega arith)
    before_or_past (suc i) (suc n) = elim (before_or_past i n) [
      | inl below ↦ inl (omega (arith, below))
      | inr past ↦ inr (omega (arith, past))
    ]
