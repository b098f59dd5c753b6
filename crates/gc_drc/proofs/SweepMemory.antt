-- Marks of frame slots, and the sweep of the list of shown words, in memory.
use Rattle.std.proofs.Common.{◌≡◌, ℕ, zero, suc, ◌+◌, ◌*◌, ◌%◌, ◌<◌, ◌≤◌, Bool, true, false, cond, nat_eq, List, [], ◌∷◌, length, drop, map, refl, sym, ap, subst, ◌∙◌, inl, inr, arith}
use Rattle.std.specs.Prelude.{filter}
use Rattle.std.proofs.lemmas.Bool.{cases_eq, eq-eqb, ne_eqb}
use Rattle.std.proofs.lemmas.List.{drop_more}
use Rattle.gc_roots.specs.Roots.{Root, root_at, no_root}
use Rattle.gc_heap.specs.Collection.{stack_words}
use Rattle.gc_memory.specs.Words.{word}
use Rattle.gc_memory.specs.Lists.{In, here, there, occ, sum_over}
use Rattle.gc_memory.proofs.ListLemmas.{In-occ, occ-In, occ-same, sum_over-same}
use Rattle.gc_drc.specs.declared.space.CountedSpace.{CountedSpace}
use Rattle.gc_drc.specs.View.{View, Linked}
use Rattle.gc_drc.specs.SpaceLaws.{places_are}
use Rattle.gc_drc.specs.CollectOps.{same, without_one, uncounted_or_queued, unshown, marked_also, unmarked}
use Rattle.gc_drc.specs.CollectLists.{onto, front}
use Rattle.gc_drc.specs.CollectStates.{IsView, Cascading}
use Rattle.gc_drc.specs.CollectMemory.{Context, At, CanMark, CanUnmark, CanHide, CanLowerAt}
use Rattle.gc_drc.specs.CollectDrain.{IsCountingPlace}
use Rattle.gc_drc.specs.CollectSweep.{FrameMarks, CanMarkFrame, Sweep, CanSweepShown, SweptOne, sweep_left}
use Rattle.gc_drc.proofs.OccLemmas.{same-is, same-not, occ-without}
use Rattle.gc_drc.proofs.SweepLemmas.{marked_is_view, frame_marked, frame_passed, sweep_begins, sweep_keeps, sweep_can_lower, sweep_lowers}
use Rattle.gc_drc.proofs.LinkLemmas.{linked_first, linked_behind, without_onto, occ-onto}
use Rattle.gc_drc.proofs.ReleaseLemmas.{places_once}
use Rattle.gc_drc.proofs.HoldsLemmas.{room_at}
use Rattle.gc_drc.proofs.MarkLemmas.{flags_in}
use Rattle.gc_drc.proofs.DrainLemmas.{place_in, no_place}

-- FRAME SLOTS

frame_held : (c : Context) (v : View) (w : ℕ) → IsView v → Cascading c.graph v [] → In w c.graph.frames → In w c.graph.places → In w v.places
frame_held c v w is cascading frame place =
    let on_list = cascading.shown w (In-occ w c.graph.places place) (In-occ w c.graph.frames frame) in
    let held = is.shown w in
    occ-In w v.places (omega arith)

marks_held : (c : Context) (s : CountedSpace) (w : ℕ) (left : List ℕ) (m : FrameMarks c s (w ∷ left)) → IsCountingPlace w → In w m.view.places
marks_held c s w left m is = frame_held c m.view w m.is_view m.cascading (m.part w here) (place_in c w (m.at.start.frames w (m.part w here)) is)

pub frame_room : (s : CountedSpace) (w : ℕ) → CanMarkFrame s w → IsCountingPlace w → w + 28 ≤ length s.memory
frame_room s w can is = room_at can.context can.marks.view s w can.marks.at (marks_held can.context s w can.left can.marks is)

-- the mark of an object, as it is read
pub mark_read : (c : Context) (v : View) (s : CountedSpace) (x : ℕ) → At c v s → In x v.places → word s.memory x % 2 ≡ occ x v.marked
mark_read c v s x at i =
    let flags = flags_in c v s x at i in
    let once = at.holds.marked_part.once x in
    let once_shown = at.holds.shown_part.once x in
    let once_queue = at.holds.queue_part.once x in
    omega arith

pub unmarked_read : (n : ℕ) → nat_eq n 1 ≡ false → n ≤ 1 → n ≡ 0
unmarked_read n e h = elim (cases_eq n 1) [ inl one ↦ absurd (clash (nat_eq n 1) e (eq-eqb n 1 one)) | inr ne ↦ omega arith ]
  where
    clash : (b : Bool) → b ≡ false → b ≡ true → ⊥
    clash true f t = absurd (cc)
    clash false f t = absurd (cc)

pub marked_true : (n : ℕ) → nat_eq n 1 ≡ true → n ≡ 1
marked_true n e = elim (cases_eq n 1) [ inl one ↦ one | inr ne ↦ absurd (clash (nat_eq n 1) (ne_eqb n 1 ne) e) ]
  where
    clash : (b : Bool) → b ≡ false → b ≡ true → ⊥
    clash true f t = absurd (cc)
    clash false f t = absurd (cc)

-- an object is not marked where its bit reads so
pub fresh_read : (c : Context) (v : View) (s : CountedSpace) (x : ℕ) (b : Bool) → At c v s → In x v.places → b ≡ nat_eq (word s.memory x % 2) 1 → b ≡ false → occ x v.marked ≡ 0
fresh_read c v s x b at i read is =
    let bit = mark_read c v s x at i in
    let zero_bit = unmarked_read (word s.memory x % 2) (sym read ∙ is) (omega arith) in
    omega arith

pub marked_read : (c : Context) (v : View) (s : CountedSpace) (x : ℕ) (b : Bool) → At c v s → In x v.places → b ≡ nat_eq (word s.memory x % 2) 1 → b ≡ true → 0 < occ x v.marked
marked_read c v s x b at i read is =
    let bit = mark_read c v s x at i in
    let one_bit = marked_true (word s.memory x % 2) (sym read ∙ is) in
    omega arith

pub frame_can : (s : CountedSpace) (w : ℕ) (b : Bool) → CanMarkFrame s w → IsCountingPlace w → b ≡ nat_eq (word s.memory w % 2) 1 → b ≡ false → CanMark s w
frame_can s w b can is read fresh =
    let m = can.marks in
    let held = marks_held can.context s w can.left m is in
    record { context = can.context; view = m.view; at = m.at; held = held; fresh = fresh_read can.context m.view s w b m.at held read fresh }

pub frame_marks : (c : Context) (s s' : CountedSpace) (w : ℕ) (left : List ℕ) (b : Bool) → FrameMarks c s (w ∷ left) → IsCountingPlace w → b ≡ nat_eq (word s.memory w % 2) 1 → b ≡ false
    → ((o : Context) (v : View) → At o v s → In w v.places → occ w v.marked ≡ 0 → At o (marked_also v w) s') → FrameMarks c s' left
frame_marks c s s' w left b m is read fresh marks =
    let held = marks_held c s w left m is in
    let none = fresh_read c m.view s w b m.at held read fresh in
    record {
      view = marked_also m.view w;
      at = marks c m.view m.at held none;
      is_view = marked_is_view m.view w m.is_view (In-occ w m.view.places held) none;
      cascading = record { counts = m.cascading.counts; from = m.cascading.from; gone = m.cascading.gone; shown = m.cascading.shown; freed = m.cascading.freed };
      marking = frame_marked c.graph m.view w left m.marking (In-occ w c.graph.frames (m.part w here));
      part = λ q i. m.part q (there i);
      all_held = m.all_held;
    }

pub frame_passes : (c : Context) (s : CountedSpace) (w : ℕ) (left : List ℕ) (b : Bool) → FrameMarks c s (w ∷ left) → IsCountingPlace w → b ≡ nat_eq (word s.memory w % 2) 1 → b ≡ true → FrameMarks c s left
frame_passes c s w left b m is read on =
    let held = marks_held c s w left m is in
    record {
      view = m.view;
      at = m.at;
      is_view = m.is_view;
      cascading = m.cascading;
      marking = frame_passed c.graph m.view w left m.marking (inr (marked_read c m.view s w b m.at held read on));
      part = λ q i. m.part q (there i);
      all_held = m.all_held;
    }

pub frame_skips : (c : Context) (s : CountedSpace) (w : ℕ) (left : List ℕ) → FrameMarks c s (w ∷ left) → (IsCountingPlace w → ⊥) → FrameMarks c s left
frame_skips c s w left m isnt = record {
  view = m.view;
  at = m.at;
  is_view = m.is_view;
  cascading = m.cascading;
  marking = frame_passed c.graph m.view w left m.marking (inl (no_place c w m.at.start isnt));
  part = λ q i. m.part q (there i);
  all_held = m.all_held;
}

-- the roots one by one
pub stack_first : (r : Root) (rs : List Root) → r.on_stack ≡ true → stack_words (r ∷ rs) ≡ r.word ∷ stack_words rs
stack_first r rs e = ap (λ b. map (λ (q : Root). q.word) (cond b (r ∷ filter (λ (q : Root). q.on_stack) rs) (filter (λ (q : Root). q.on_stack) rs))) e

pub stack_other : (r : Root) (rs : List Root) → r.on_stack ≡ false → stack_words (r ∷ rs) ≡ stack_words rs
stack_other r rs e = ap (λ b. map (λ (q : Root). q.word) (cond b (r ∷ filter (λ (q : Root). q.on_stack) rs) (filter (λ (q : Root). q.on_stack) rs))) e

pub stack_step : (roots : List Root) (i : ℕ) → i < length roots → (root_at roots i).on_stack ≡ true → stack_words (drop i roots) ≡ (root_at roots i).word ∷ stack_words (drop (i + 1) roots)
stack_step roots i h e = ap stack_words (drop_more roots i no_root h) ∙ stack_first (root_at roots i) (drop (i + 1) roots) e

pub stack_pass : (roots : List Root) (i : ℕ) → i < length roots → (root_at roots i).on_stack ≡ false → stack_words (drop i roots) ≡ stack_words (drop (i + 1) roots)
stack_pass roots i h e = ap stack_words (drop_more roots i no_root h) ∙ stack_other (root_at roots i) (drop (i + 1) roots) e

-- frames were marked up to some roots
abbrev pub MarksFrames : CountedSpace → List Root → CountedSpace → List Root → Type 0
MarksFrames s roots s' left = (c : Context) → FrameMarks c s (stack_words roots) → FrameMarks c s' (stack_words left)

-- THE SWEEP

pub sweep_start : (c : Context) (s : CountedSpace) (m : FrameMarks c s []) → Sweep c s [] m.view.shown
sweep_start c s m = record { view = m.view; at = m.at; sweeping = sweep_begins c.graph m.view m.is_view m.cascading m.marking; list = refl; all_held = m.all_held }

sweep_held : (c : Context) (s : CountedSpace) (x : ℕ) (kept left : List ℕ) (w : Sweep c s kept (x ∷ left)) → In x w.view.places
sweep_held c s x kept left w =
    let times : occ x w.view.shown ≡ occ x kept + occ x (x ∷ left) = ap (λ (xs : List ℕ). occ x xs) w.list ∙ occ-onto x kept (x ∷ left) in
    let one = occ-same x left in
    w.at.holds.shown_part.inside x (occ-In x w.view.shown (omega arith))

pub sweep_room : (s : CountedSpace) (before x : ℕ) → CanSweepShown s before x → x + 28 ≤ length s.memory
sweep_room s before x can = room_at can.context can.sweep.view s x can.sweep.at (sweep_held can.context s x can.kept can.left can.sweep)

pub sweep_can_unmark : (s : CountedSpace) (before x : ℕ) (b : Bool) → CanSweepShown s before x → b ≡ nat_eq (word s.memory x % 2) 1 → b ≡ true → CanUnmark s x
sweep_can_unmark s before x b can read on =
    let w = can.sweep in
    record { context = can.context; view = w.view; at = w.at; is_marked = marked_read can.context w.view s x b w.at (sweep_held can.context s x can.kept can.left w) read on }

-- an object behind those that are kept
onto_more : (x : ℕ) (kept left : List ℕ) → onto kept (x ∷ left) ≡ onto (x ∷ kept) left
onto_more x kept left = refl

pub swept_kept : (c : Context) (s s' : CountedSpace) (x : ℕ) (kept left : List ℕ) (b : Bool) → Sweep c s kept (x ∷ left) → b ≡ nat_eq (word s.memory x % 2) 1 → b ≡ true
    → ((o : Context) (v : View) → At o v s → 0 < occ x v.marked → At o (unmarked v x) s') → SweptOne c s' left x
swept_kept c s s' x kept left b w read on clears =
    let held = sweep_held c s x kept left w in
    let is_marked = marked_read c w.view s x b w.at held read on in
    record {
      kept = x ∷ kept;
      sweep = record { view = unmarked w.view x; at = clears c w.view w.at is_marked; sweeping = sweep_keeps c.graph w.view x kept left w.sweeping is_marked; list = w.list; all_held = w.all_held };
      is_before = refl;
    }

pub sweep_can_hide : (s : CountedSpace) (before x : ℕ) → CanSweepShown s before x → CanHide s before x
sweep_can_hide s before x can = record {
  context = can.context;
  view = can.sweep.view;
  kept = can.kept;
  left = can.left;
  at = can.sweep.at;
  list = can.sweep.list;
  is_before = can.is_before;
}

-- what an object that was taken off the list is
pub hidden_can_lower : (s s1 : CountedSpace) (before x : ℕ) (b : Bool) → CanSweepShown s before x → b ≡ nat_eq (word s.memory x % 2) 1 → b ≡ false
    → ((o : Context) (v : View) (kept left : List ℕ) → At o v s → v.shown ≡ onto kept (x ∷ left) → front kept ≡ before → At o (unshown v x) s1) → CanLowerAt s1 x
hidden_can_lower s s1 before x b can read fresh hides =
    let c = can.context in
    let w = can.sweep in
    let held = sweep_held c s x can.kept can.left w in
    let none = fresh_read c w.view s x b w.at held read fresh in
    let lower = sweep_can_lower c.graph w.view x can.kept can.left w.sweeping none in
    record { context = c; view = unshown w.view x; at = hides c w.view can.kept can.left w.at w.list can.is_before; held = held; named = lower.named }

pub swept_off : (c : Context) (s s1 s2 : CountedSpace) (before x : ℕ) (kept left : List ℕ) (b : Bool) → Sweep c s kept (x ∷ left) → front kept ≡ before → b ≡ nat_eq (word s.memory x % 2) 1 → b ≡ false
    → ((o : Context) (v : View) (ks ls : List ℕ) → At o v s → v.shown ≡ onto ks (x ∷ ls) → front ks ≡ before → At o (unshown v x) s1)
    → ((o : Context) (v : View) → At o v s1 → In x v.places → 0 < v.counted x → At o (uncounted_or_queued v x) s2) → SweptOne c s2 left before
swept_off c s s1 s2 before x kept left b w is_before read fresh hides takes =
    let held = sweep_held c s x kept left w in
    let none = fresh_read c w.view s x b w.at held read fresh in
    let lower = sweep_can_lower c.graph w.view x kept left w.sweeping none in
    let times : occ x w.view.shown ≡ occ x kept + occ x (x ∷ left) = ap (λ (xs : List ℕ). occ x xs) w.list ∙ occ-onto x kept (x ∷ left) in
    let one = occ-same x left in
    let once = w.at.holds.shown_part.once x in
    record {
      kept = kept;
      sweep = record {
        view = uncounted_or_queued (unshown w.view x) x;
        at = takes c (unshown w.view x) (hides c w.view kept left w.at w.list is_before) held lower.named;
        sweeping = sweep_lowers c.graph w.view x kept left w.sweeping none;
        list = ap (without_one x) w.list ∙ without_onto x kept left (omega arith);
        all_held = w.all_held;
      };
      is_before = is_before;
    }

-- the object that stands next on the list
pub next_is : (c : Context) (s : CountedSpace) (x n : ℕ) (kept left : List ℕ) → Sweep c s kept (x ∷ left) → n ≡ word s.memory (x + 16) → n ≡ front left
next_is c s x n kept left w read =
    let linked : Linked s.memory 16 s.shown (onto kept (x ∷ left)) = subst (λ (xs : List ℕ). Linked s.memory 16 s.shown xs) w.list w.at.holds.shown_linked in
    read ∙ linked_first s.memory 16 (word s.memory (x + 16)) left (linked_behind s.memory 16 s.shown x kept left linked).1

-- THE MEASURE

-- a sum where one object's number changed
pub sum_changed : (f g : ℕ → ℕ) (x : ℕ) (ps : List ℕ) → occ x ps ≡ 1 → ((p : ℕ) → In p ps → (p ≡ x → ⊥) → g p ≡ f p) → sum_over g ps + f x ≡ sum_over f ps + g x
sum_changed f g x [] one same_else = absurd (omega arith)
sum_changed f g x (p ∷ ps) one same_else = elim (cases_eq x p) [
  | inl e ↦
      let is : same x p ≡ 1 = same-is x p e in
      let none : occ x ps ≡ 0 = omega arith in
      let rest = sum_over-same f g ps (λ q i. same_else q (there i) (λ (is_x : q ≡ x). absurd (let some = In-occ q ps i in let at : occ q ps ≡ occ x ps = ap (λ n. occ n ps) is_x in omega arith))) in
      let fx : f x ≡ f p = ap f e in
      let gx : g x ≡ g p = ap g e in
      omega arith
  | inr ne ↦
      let other : same x p ≡ 0 = same-not x p ne in
      let head : g p ≡ f p = same_else p here (λ (is : p ≡ x). ne (sym is)) in
      let rest = sum_changed f g x ps (omega arith) (λ q i. same_else q (there i)) in
      omega arith
]

sweep_left_is : (c : Context) (v : View) (s : CountedSpace) → At c v s → sweep_left s ≡ sum_over (λ p. occ p v.marked + 2 * occ p v.shown) v.places
sweep_left_is c v s at =
    ap (λ (ps : List ℕ). sum_over (λ p. word s.memory p % 4) ps) (places_are v s at.holds)
    ∙ sum_over-same (λ p. occ p v.marked + 2 * occ p v.shown) (λ p. word s.memory p % 4) v.places (λ p i.
    let flags = flags_in c v s p at i in
    let once = at.holds.marked_part.once p in
    let once_shown = at.holds.shown_part.once p in
    let once_queue = at.holds.queue_part.once p in
    omega arith)

once_in : (c : Context) (v : View) (s : CountedSpace) (x : ℕ) → At c v s → In x v.places → occ x v.places ≡ 1
once_in c v s x at i = let once = places_once v s at.holds x in let some = In-occ x v.places i in omega arith

pub less_kept : (s s' : CountedSpace) (before x : ℕ) (b : Bool) → CanSweepShown s before x → b ≡ nat_eq (word s.memory x % 2) 1 → b ≡ true
    → ((o : Context) (v : View) → At o v s → 0 < occ x v.marked → At o (unmarked v x) s') → sweep_left s' < sweep_left s
less_kept s s' before x b can read on clears =
    let c = can.context in
    let w = can.sweep in
    let v = w.view in
    let held = sweep_held c s x can.kept can.left w in
    let is_marked = marked_read c v s x b w.at held read on in
    let at' = clears c v w.at is_marked in
    let e = sum_changed (λ p. occ p v.marked + 2 * occ p v.shown) (λ p. occ p (without_one x v.marked) + 2 * occ p v.shown) x v.places (once_in c v s x w.at held)
    (λ p i ne. let wp = occ-without x p v.marked is_marked in let other : same p x ≡ 0 = same-not p x ne in omega arith) in
    let wx = occ-without x x v.marked is_marked in
    let one : same x x ≡ 1 = same-is x x refl in
    omega (arith, sweep_left_is c v s w.at, sweep_left_is c (unmarked v x) s' at', e)

pub less_off : (s s1 s2 : CountedSpace) (before x : ℕ) (b : Bool) → CanSweepShown s before x → b ≡ nat_eq (word s.memory x % 2) 1 → b ≡ false
    → ((o : Context) (v : View) (ks ls : List ℕ) → At o v s → v.shown ≡ onto ks (x ∷ ls) → front ks ≡ before → At o (unshown v x) s1)
    → ((o : Context) (v : View) → At o v s1 → In x v.places → 0 < v.counted x → At o (uncounted_or_queued v x) s2) → sweep_left s2 < sweep_left s
less_off s s1 s2 before x b can read fresh hides takes =
    let c = can.context in
    let w = can.sweep in
    let v = w.view in
    let held = sweep_held c s x can.kept can.left w in
    let none = fresh_read c v s x b w.at held read fresh in
    let lower = sweep_can_lower c.graph v x can.kept can.left w.sweeping none in
    let at' = takes c (unshown v x) (hides c v can.kept can.left w.at w.list can.is_before) held lower.named in
    let times : occ x v.shown ≡ occ x can.kept + occ x (x ∷ can.left) = ap (λ (xs : List ℕ). occ x xs) w.list ∙ occ-onto x can.kept (x ∷ can.left) in
    let one_left = occ-same x can.left in
    let on_list : 0 < occ x v.shown = omega arith in
    let e = sum_changed (λ p. occ p v.marked + 2 * occ p v.shown) (λ p. occ p v.marked + 2 * occ p (without_one x v.shown)) x v.places (once_in c v s x w.at held)
    (λ p i ne. let wp = occ-without x p v.shown on_list in let other : same p x ≡ 0 = same-not p x ne in omega arith) in
    let wx = occ-without x x v.shown on_list in
    let one : same x x ≡ 1 = same-is x x refl in
    omega (arith, sweep_left_is c v s w.at, sweep_left_is c (uncounted_or_queued (unshown v x) x) s2 at', e)

-- THE LOOP

-- the sweep has come to an object of the list
pub record SweptTo (c : Context) (s : CountedSpace) (before place : ℕ) : Type 0 where
  pub kept : List ℕ
  pub left : List ℕ
  pub sweep : Sweep c s kept left
  pub is_before : front kept ≡ before
  pub is_place : front left ≡ place

abbrev pub Sweeps : CountedSpace → CountedSpace → ℕ → ℕ → Type 0
Sweeps s s' before place = (c : Context) → FrameMarks c s [] → SweptTo c s' before place

pub sweeps_start : (s : CountedSpace) → Sweeps s s 0 s.shown
sweeps_start s c m =
    let w = sweep_start c s m in
    record { kept = []; left = m.view.shown; sweep = w; is_before = refl; is_place = sym (linked_first s.memory 16 s.shown m.view.shown m.at.holds.shown_linked) }

split : (left : List ℕ) (place : ℕ) → front left ≡ place → (place ≡ 0 → ⊥) → (rest : List ℕ) × (left ≡ place ∷ rest)
split [] place e ne = elim (ne (sym e)) [ ]
split (x ∷ rest) place e ne = (rest, ap (λ (y : ℕ). y ∷ rest) e)

pub sweeps_can : (s s' : CountedSpace) (before place : ℕ) → Sweeps s s' before place → (c : Context) → FrameMarks c s [] → (place ≡ 0 → ⊥) → CanSweepShown s' before place
sweeps_can s s' before place sweeps c m ne =
    let t = sweeps c m in
    let p = split t.left place t.is_place ne in
    record { context = c; kept = t.kept; left = p.0; sweep = subst (λ (xs : List ℕ). Sweep c s' t.kept xs) p.1 t.sweep; is_before = t.is_before }

pub sweeps_step : (s s' s2 : CountedSpace) (before place next before' : ℕ) → Sweeps s s' before place → (place ≡ 0 → ⊥) → next ≡ word s'.memory (place + 16)
    → ((c : Context) (kept left : List ℕ) → Sweep c s' kept (place ∷ left) → front kept ≡ before → SweptOne c s2 left before') → Sweeps s s2 before' next
sweeps_step s s' s2 before place next before' sweeps ne read one c m =
    let t = sweeps c m in
    let p = split t.left place t.is_place ne in
    let w = subst (λ (xs : List ℕ). Sweep c s' t.kept xs) p.1 t.sweep in
    let r = one c t.kept p.0 w t.is_before in
    record { kept = r.kept; left = p.0; sweep = r.sweep; is_before = r.is_before; is_place = sym (next_is c s' place next t.kept p.0 w read) }

none_null : (c : Context) (s : CountedSpace) (kept left : List ℕ) → Sweep c s kept left → front left ≡ 0 → left ≡ []
none_null c s kept [] w e = refl
none_null c s kept (x ∷ left) w e =
    let l = w.at.start.lies x (w.at.from x (sweep_held c s x kept left w)) in
    let not_null = l.not_null in
    absurd (omega arith)

pub sweeps_end : (s s' : CountedSpace) (before place : ℕ) → Sweeps s s' before place → place ≡ 0 → (c : Context) → FrameMarks c s [] → (kept : List ℕ) × Sweep c s' kept []
sweeps_end s s' before place sweeps e c m =
    let t = sweeps c m in
    (t.kept, subst (λ (xs : List ℕ). Sweep c s' t.kept xs) (none_null c s' t.kept t.left t.sweep (t.is_place ∙ e)) t.sweep)

pub no_roots : (roots : List Root) (i : ℕ) → length roots ≤ i → stack_words (drop i roots) ≡ []
no_roots [] zero h = refl
no_roots [] (suc i) h = refl
no_roots (r ∷ roots) zero h = absurd (omega arith)
no_roots (r ∷ roots) (suc i) h = no_roots roots i (omega arith)
