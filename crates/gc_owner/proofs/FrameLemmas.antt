-- What frames and their slots leave of the condition of the next collection.
use Rattle.std.proofs.Common.{◌≡◌, ℕ, zero, suc, ◌+◌, ◌<◌, ◌≤◌, Bool, true, false, List, [], ◌∷◌, ◌++◌, length, map, take, drop, get_or, set, replicate, Option, Some, None, Result, Ok, Err, OnOk, OnErr, refl, sym, ap, ◌∙◌, subst, arith}
use Rattle.std.specs.Option.{SomeIff}
use Rattle.std.specs.List.{slice_get}
use Rattle.std.specs.FinMap.{FinMap, get, insert, gets}
use Rattle.std.specs.Ordering.{nat_cmp}
use Rattle.std.specs.declared.alloc.AllocError.{AllocError}
use Rattle.std.proofs.lemmas.Grind.{common_steps}
use Rattle.std.proofs.lemmas.Option.{none-some}
use Rattle.std.proofs.lemmas.List.{map-append, append-nil, append_assoc, length-take, take-append-drop, drop_more, set_at}
use Rattle.gc_types.specs.declared.kind.Layouts.{Layouts}
use Rattle.gc_types.specs.Declarations.{Declaration}
use Rattle.gc_roots.specs.Roots.{Root, root}
use Rattle.gc_view.specs.Heaps.{HeapView, Counts, SameHeld}
use Rattle.gc_heap.specs.Content.{IsHeap}
use Rattle.gc_heap.specs.Barriers.{CanName, CanUnname, cloned, exposed, raise}
use Rattle.gc_heap.specs.Collection.{CanCollect, IsWordOf}
use Rattle.gc_heap.proofs.AddedLemmas.{start}
use Rattle.gc_heap.proofs.RootedLemmas.{can_collect_cloned, can_collect_exposed, can_collect_unstacked}
use Rattle.gc_owner.specs.declared.entry.SlotEntry.{SlotEntry}
use Rattle.gc_owner.specs.RootColumns.{RootsView, scoped_words, owned_words, frame_slot_words, global_words, listed_as, roots_of, empty_slot, newest_start, with_frame, without_frame, with_places, RiseFrom, AreFrames}
use Rattle.gc_owner.proofs.ListUse.{list_use}
use Rattle.gc_owner.specs.Owners.{raised}
use Rattle.gc_owner.specs.ShownWords.{copied_to_slot}
use Rattle.gc_owner.specs.Tracing.{IsCollectable}
use Rattle.gc_owner.proofs.Begins.{with_memory, memory_heap}
use Rattle.gc_owner.proofs.ListedRoots.{listed_present, listed_null, listed-append}

-- What a test that makes a reference of a word says of the barriers

counted_put : (m : FinMap nat_cmp ℕ) (w n k : ℕ) → get (insert m w n) w ≡ Some k → n ≡ k
counted_put m w n k is = grind (arith, common_steps, gets)

count_above : (c : Counts) (w n : ℕ) → get (raise (get c.counted w) w c).counted w ≡ Some n → 0 < n
count_above c w n = elim (get c.counted w) as (λ at. get c.counted w ≡ at → get (raise at w c).counted w ≡ Some n → 0 < n) [
  | None ↦ λ none is. absurd (none-some n (sym none ∙ is))
  | Some was ↦ λ at is. let same : was + 1 ≡ n = counted_put c.counted w (was + 1) n is in omega arith
] refl

-- a copy may be shown at once
copy_shown : (h : HeapView) (word : ℕ) → CanName h word → CanUnname (cloned h word) word
copy_shown h word can = record { named = can.named; counted = λ n is. count_above h.counts word n is }

pub show_unnamed : (h h' : HeapView) (copy held : ℕ) → h' ≡ cloned h held → copy ≡ held → CanName h held → CanUnname h' copy
show_unnamed h h' copy held is same can = subst (λ v. CanUnname v copy) (sym is) (subst (CanUnname (cloned h held)) (sym same) (copy_shown h held can))

pub show_seen : (h : HeapView) (made : Option ℕ) (word held : ℕ) → SomeIff made (0 < word) word → made ≡ Some held → exposed (cloned h held) held ≡ copied_to_slot h word
show_seen h made zero held gives is = let at : SomeIff (Some held) (0 < 0) 0 = subst (λ o. SomeIff o (0 < 0) 0) is gives in absurd (omega (arith, at.0))
show_seen h made (suc n) held gives is = let at : SomeIff (Some held) (0 < suc n) (suc n) = subst (λ o. SomeIff o (0 < suc n) (suc n)) is gives in ap (λ w. exposed (cloned h w) w) at.1

pub show_none : (h : HeapView) (made : Option ℕ) (word : ℕ) → SomeIff made (0 < word) word → made ≡ None → h ≡ copied_to_slot h word
show_none h made zero gives is = refl
show_none h made (suc n) gives is = let at : (0 < suc n → ⊥) = subst (λ o. SomeIff o (0 < suc n) (suc n)) is gives in absurd (at (omega arith))

-- the heap holds the same objects
pub shown_held : (h : HeapView) (word : ℕ) → SameHeld h (copied_to_slot h word)
shown_held h zero = record { content = refl; attached = refl; capacity = refl; allocated = refl; needs_gc = refl }
shown_held h (suc n) = record { content = refl; attached = refl; capacity = refl; allocated = refl; needs_gc = refl }

-- Roots in frame slots

module _ (layouts : Layouts) (types : List Declaration) (before : List Root) (place : ℕ) (behind : List Root) (hosts : ℕ → Bool) where
  -- the roots with these words in the slots
  abbrev pub stacked : List ℕ → List Root
  stacked words = before ++ (listed_as place true words ++ behind)

  apart : (xs ys : List ℕ) → stacked (xs ++ ys) ≡ (before ++ listed_as place true xs) ++ (listed_as place true ys ++ behind)
  apart xs ys =
      ap (λ (rs : List Root). before ++ (rs ++ behind)) (listed-append place true xs ys)
      ∙ ap (λ (rs : List Root). before ++ rs) (append_assoc (listed_as place true xs) (listed_as place true ys) behind)
      ∙ sym (append_assoc before (listed_as place true xs) (listed_as place true ys ++ behind))

  null_in : (xs ys : List ℕ) → stacked (xs ++ 0 ∷ ys) ≡ stacked (xs ++ ys)
  null_in xs ys = apart xs (0 ∷ ys) ∙ ap (λ (rs : List Root). (before ++ listed_as place true xs) ++ (rs ++ behind)) (listed_null place true 0 ys refl) ∙ sym (apart xs ys)

  word_in : (xs ys : List ℕ) (n : ℕ) → stacked (xs ++ suc n ∷ ys) ≡ (before ++ listed_as place true xs) ++ root place true (suc n) ∷ (listed_as place true ys ++ behind)
  word_in xs ys n = apart xs (suc n ∷ ys) ∙ ap (λ (rs : List Root). (before ++ listed_as place true xs) ++ (rs ++ behind)) (listed_present place true (suc n) ys (omega arith))

  -- a copy of a word was shown to a slot
  pub word_shown : (h : HeapView) (xs ys : List ℕ) (word : ℕ) → IsCollectable layouts types h (stacked (xs ++ ys)) hosts → IsWordOf h word → IsHeap layouts (raised h word)
      → IsCollectable layouts types (copied_to_slot h word) (stacked (xs ++ word ∷ ys)) hosts
  word_shown h xs ys zero can is heap = subst (λ rs. IsCollectable layouts types h rs hosts) (sym (null_in xs ys)) can
  word_shown h xs ys (suc n) can is heap = record {
    traced = can.traced;
    collects = subst (λ rs. CanCollect layouts (start (exposed (cloned (with_memory h) (suc n)) (suc n)) rs types hosts)) (sym (word_in xs ys n))
        (can_collect_exposed layouts types (cloned (with_memory h) (suc n)) (before ++ listed_as place true xs) (root place false (suc n)) (root place true (suc n)) (listed_as place true ys ++ behind) hosts
        (memory_heap layouts (cloned h (suc n)) heap)
        (can_collect_cloned layouts types (with_memory h) (before ++ listed_as place true xs) (root place false (suc n)) (listed_as place true ys ++ behind) hosts
        (subst (λ rs. CanCollect layouts (start (with_memory h) rs types hosts)) (apart xs ys) can.collects) refl is) refl refl refl);
  }

  -- a slot is no root any more
  pub word_unstacked : (h : HeapView) (xs ys : List ℕ) (word : ℕ) → IsCollectable layouts types h (stacked (xs ++ word ∷ ys)) hosts → IsCollectable layouts types h (stacked (xs ++ ys)) hosts
  word_unstacked h xs ys zero can = subst (λ rs. IsCollectable layouts types h rs hosts) (null_in xs ys) can
  word_unstacked h xs ys (suc n) can = record {
    traced = can.traced;
    collects = subst (λ rs. CanCollect layouts (start (with_memory h) rs types hosts)) (sym (apart xs ys))
        (can_collect_unstacked layouts types (with_memory h) (before ++ listed_as place true xs) (root place true (suc n)) (listed_as place true ys ++ behind) hosts
        (subst (λ rs. CanCollect layouts (start (with_memory h) rs types hosts)) (word_in xs ys n) can.collects) refl);
  }

  pub words_unstacked : (h : HeapView) (xs ys : List ℕ) → IsCollectable layouts types h (stacked (xs ++ ys)) hosts → IsCollectable layouts types h (stacked xs) hosts
  words_unstacked h xs [] can = subst (λ ws. IsCollectable layouts types h (stacked ws) hosts) (append-nil xs) can
  words_unstacked h xs (word ∷ ys) can = words_unstacked h xs ys (word_unstacked h xs ys word can)

  -- a slot was overwritten by a copy of another word
  pub slot_replaced : (h : HeapView) (xs ys : List ℕ) (old_word new_word : ℕ) → IsCollectable layouts types h (stacked (xs ++ old_word ∷ ys)) hosts → IsWordOf h new_word → IsHeap layouts (raised h new_word)
      → IsCollectable layouts types (copied_to_slot h new_word) (stacked (xs ++ new_word ∷ ys)) hosts
  slot_replaced h xs ys old_word new_word can is heap =
      let more : IsCollectable layouts types (copied_to_slot h new_word) (stacked (xs ++ new_word ∷ old_word ∷ ys)) hosts = word_shown h xs (old_word ∷ ys) new_word can is heap in
      subst (λ ws. IsCollectable layouts types (copied_to_slot h new_word) (stacked ws) hosts) (append_assoc xs (new_word ∷ []) ys)
      (word_unstacked (copied_to_slot h new_word) (xs ++ new_word ∷ []) ys old_word
      (subst (λ ws. IsCollectable layouts types (copied_to_slot h new_word) (stacked ws) hosts) (sym (append_assoc xs (new_word ∷ []) (old_word ∷ ys))) more))

-- The slots of an owner

abbrev before_slots : RootsView → List Root
before_slots r = listed_as 0 false (scoped_words r) ++ listed_as 1 false (owned_words r)

abbrev behind_slots : RootsView → List Root
behind_slots r = listed_as 3 false (global_words r) ++ listed_as 4 false (r.pending ∷ [])

abbrev words : List SlotEntry → List ℕ
words es = map (λ (e : SlotEntry). e.word) es

around_slots : (r : RootsView) (ws : List ℕ) → listed_as 0 false (scoped_words r) ++ (listed_as 1 false (owned_words r) ++ (listed_as 2 true ws ++ behind_slots r)) ≡ before_slots r ++ (listed_as 2 true ws ++ behind_slots r)
around_slots r ws = sym (append_assoc (listed_as 0 false (scoped_words r)) (listed_as 1 false (owned_words r)) (listed_as 2 true ws ++ behind_slots r))

module _ (r : RootsView) (place : ℕ) (entry : SlotEntry) (below : place < length r.slots) where
  abbrev old_entry : SlotEntry
  old_entry = get_or r.slots place empty_slot

  abbrev front : List SlotEntry
  front = take place r.slots

  abbrev later : List SlotEntry
  later = drop (place + 1) r.slots

  slots_split : r.slots ≡ front ++ old_entry ∷ later
  slots_split = sym (take-append-drop place r.slots) ∙ ap (λ es. front ++ es) (drop_more r.slots place empty_slot below)

  slots_set : set r.slots place entry ≡ front ++ entry ∷ later
  slots_set = ap (λ es. set es place entry) slots_split ∙ set_at front old_entry later entry place (let count = length-take place r.slots in omega arith)

  pub slot_kept : (layouts : Layouts) (types : List Declaration) (h : HeapView) (hosts : ℕ → Bool) → IsCollectable layouts types h (roots_of r) hosts → IsWordOf h entry.word → IsHeap layouts (raised h entry.word)
      → IsCollectable layouts types (copied_to_slot h entry.word) (roots_of (record r { slots = set r.slots place entry })) hosts
  slot_kept layouts types h hosts can is heap =
      let h' : HeapView = copied_to_slot h entry.word in
      let was : words r.slots ≡ words front ++ old_entry.word ∷ words later = ap words slots_split ∙ map-append (λ (e : SlotEntry). e.word) front (old_entry ∷ later) in
      let now : words (set r.slots place entry) ≡ words front ++ entry.word ∷ words later = ap words slots_set ∙ map-append (λ (e : SlotEntry). e.word) front (entry ∷ later) in
      subst (λ rs. IsCollectable layouts types h' rs hosts) (sym (around_slots r (words (set r.slots place entry))))
      (subst (λ ws. IsCollectable layouts types h' (before_slots r ++ (listed_as 2 true ws ++ behind_slots r)) hosts) (sym now)
      (slot_replaced layouts types (before_slots r) 2 (behind_slots r) hosts h (words front) (words later) old_entry.word entry.word
      (subst (λ ws. IsCollectable layouts types h (before_slots r ++ (listed_as 2 true ws ++ behind_slots r)) hosts) was
      (subst (λ rs. IsCollectable layouts types h rs hosts) (around_slots r (frame_slot_words r)) can)) is heap))

-- a frame was opened
no_words : (count : ℕ) → listed_as 2 true (words (replicate count empty_slot)) ≡ []
no_words zero = refl
no_words (suc count) = no_words count

pub frame_roots : (count : ℕ) (r : RootsView) → roots_of (with_frame count r) ≡ roots_of r
frame_roots count r =
    let same : listed_as 2 true (words (r.slots ++ replicate count empty_slot)) ≡ listed_as 2 true (frame_slot_words r) =
    ap (listed_as 2 true) (map-append (λ (e : SlotEntry). e.word) r.slots (replicate count empty_slot))
    ∙ listed-append 2 true (frame_slot_words r) (words (replicate count empty_slot))
    ∙ ap (λ (rs : List Root). listed_as 2 true (frame_slot_words r) ++ rs) (no_words count)
    ∙ append-nil (listed_as 2 true (frame_slot_words r)) in
    ap (λ rs. listed_as 0 false (scoped_words r) ++ (listed_as 1 false (owned_words r) ++ (rs ++ behind_slots r))) same

-- What a call that opens a frame answers and leaves.
pub record Opens (count : ℕ) (old new : RootsView) (result : Result (Unit {0}) AllocError) : Type 0 where
  pub ok : OnOk result (new ≡ with_places new (with_frame count old))
  pub err : OnErr result (new ≡ with_places new old)

pub opened_kept : (layouts : Layouts) (types : List Declaration) (h : HeapView) (count : ℕ) (old new : RootsView) (hosts : ℕ → Bool) (result : Result (Unit {0}) AllocError) → Opens count old new result → IsCollectable layouts types h (roots_of old) hosts
    → IsCollectable layouts types h (roots_of new) hosts
opened_kept layouts types h count old new hosts (Ok done) opens can = subst (λ rs. IsCollectable layouts types h rs hosts) (sym (ap roots_of opens.ok ∙ frame_roots count old)) can
opened_kept layouts types h count old new hosts (Err e) opens can = subst (λ rs. IsCollectable layouts types h rs hosts) (sym (ap roots_of opens.err)) can

pub opened_listed : (count : ℕ) (old new : RootsView) (result : Result (Unit {0}) AllocError) → Opens count old new result → list_use new ≡ list_use old
opened_listed count old new (Ok done) opens = ap list_use opens.ok
opened_listed count old new (Err e) opens = ap list_use opens.err

pub along_ok : (P Q : Type 0) (result : Result (Unit {0}) AllocError) → (P → Q) → OnOk result P → OnOk result Q
along_ok P Q (Ok done) leads is = leads is
along_ok P Q (Err e) leads is = tt

pub along_err : (P Q : Type 0) (result : Result (Unit {0}) AllocError) → (P → Q) → OnErr result P → OnErr result Q
along_err P Q (Ok done) leads is = tt
along_err P Q (Err e) leads is = leads is

-- slots were closed
slots_left : (layouts : Layouts) (types : List Declaration) (h : HeapView) (r : RootsView) (hosts : ℕ → Bool) (count : ℕ) → IsCollectable layouts types h (roots_of r) hosts → IsCollectable layouts types h (roots_of (record r { slots = take count r.slots })) hosts
slots_left layouts types h r hosts count can =
    let split : frame_slot_words r ≡ words (take count r.slots) ++ words (drop count r.slots) =
    ap words (sym (take-append-drop count r.slots)) ∙ map-append (λ (e : SlotEntry). e.word) (take count r.slots) (drop count r.slots) in
    subst (λ rs. IsCollectable layouts types h rs hosts) (sym (around_slots r (words (take count r.slots))))
    (words_unstacked layouts types (before_slots r) 2 (behind_slots r) hosts h (words (take count r.slots)) (words (drop count r.slots))
    (subst (λ ws. IsCollectable layouts types h (before_slots r ++ (listed_as 2 true ws ++ behind_slots r)) hosts) split
    (subst (λ rs. IsCollectable layouts types h rs hosts) (around_slots r (frame_slot_words r)) can)))

pub frame_left : (layouts : Layouts) (types : List Declaration) (h : HeapView) (r : RootsView) (hosts : ℕ → Bool) → IsCollectable layouts types h (roots_of r) hosts → IsCollectable layouts types h (roots_of (without_frame r)) hosts
frame_left layouts types h r hosts can = slots_left layouts types h r hosts (newest_start r) can

-- What a call that closes a frame answers and leaves.
pub record Closes (old new : RootsView) (closed : Bool) : Type 0 where
  pub some : closed ≡ true → (0 < length old.frames) × (new ≡ with_places new (without_frame old))
  pub none : closed ≡ false → (old.frames ≡ []) × (new ≡ old)

pub closed_kept : (layouts : Layouts) (types : List Declaration) (h : HeapView) (old new : RootsView) (hosts : ℕ → Bool) (closed : Bool) → Closes old new closed → IsCollectable layouts types h (roots_of old) hosts → IsCollectable layouts types h (roots_of new) hosts
closed_kept layouts types h old new hosts true closes can = subst (λ (r : RootsView). IsCollectable layouts types h (roots_of r) hosts) (sym (closes.some refl).1) (frame_left layouts types h old hosts can)
closed_kept layouts types h old new hosts false closes can = subst (λ (r : RootsView). IsCollectable layouts types h (roots_of r) hosts) (sym (closes.none refl).1) can

pub closed_listed : (old new : RootsView) (closed : Bool) → Closes old new closed → list_use new ≡ list_use old
closed_listed old new true closes = ap list_use (closes.some refl).1
closed_listed old new false closes = ap list_use (closes.none refl).1

-- Where frames begin

rise_more : (place : ℕ) (starts : List ℕ) (end count : ℕ) → RiseFrom place starts end → RiseFrom place (starts ++ end ∷ []) (end + count)
rise_more place [] end count rise = (rise, omega arith)
rise_more place (start ∷ starts) end count rise = (rise.0, rise_more start starts end count rise.1)

pub frames_more : (starts : List ℕ) (end count : ℕ) → AreFrames starts end → AreFrames (starts ++ end ∷ []) (end + count)
frames_more [] end count are = (are, omega arith)
frames_more (start ∷ starts) end count are = (are.0, rise_more start starts end count are.1)

rise_less : (place : ℕ) (starts : List ℕ) (start end : ℕ) → RiseFrom place (starts ++ start ∷ []) end → RiseFrom place starts start × (start ≤ end)
rise_less place [] start end rise = (rise.0, rise.1)
rise_less place (first ∷ starts) start end rise = let rest = rise_less first starts start end rise.1 in ((rise.0, rest.0), rest.1)

pub frames_less : (starts : List ℕ) (start end : ℕ) → AreFrames (starts ++ start ∷ []) end → AreFrames starts start × (start ≤ end)
frames_less [] start end are = (are.0, are.1)
frames_less (first ∷ starts) start end are = let rest = rise_less first starts start end are.1 in ((are.0, rest.0), rest.1)

rise_within : (place : ℕ) (starts : List ℕ) (end : ℕ) → RiseFrom place starts end → place ≤ end
rise_within place [] end rise = rise
rise_within place (first ∷ starts) end rise =
    let rest : first ≤ end = rise_within first starts end rise.1 in
    let before : place ≤ first = rise.0 in
    omega arith

start_within : (place : ℕ) (starts : List ℕ) (end index start : ℕ) → RiseFrom place starts end → slice_get starts index ≡ Some start → start ≤ end
start_within place [] end index start rise is = absurd (none-some start is)
start_within place (first ∷ starts) end zero start rise is =
    let rest : first ≤ end = rise_within first starts end rise.1 in
    let same : first ≡ start = cc in
    omega arith
start_within place (first ∷ starts) end (suc index) start rise is = start_within first starts end index start rise.1 is

-- no frame begins behind the end of the slots
pub frame_within : (starts : List ℕ) (end index start : ℕ) → AreFrames starts end → slice_get starts index ≡ Some start → start ≤ end
frame_within [] end index start are is = absurd (none-some start is)
frame_within (first ∷ starts) end zero start are is =
    let rest : first ≤ end = rise_within first starts end are.1 in
    let same : first ≡ start = cc in
    omega arith
frame_within (first ∷ starts) end (suc index) start are is = start_within first starts end index start are.1 is
