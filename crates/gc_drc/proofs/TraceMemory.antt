-- What the roots reach is marked, in memory.
use Rattle.std.proofs.Common.{◌≡◌, ℕ, zero, suc, ◌+◌, ◌-◌, ◌%◌, ◌<◌, ◌≤◌, ◌^◌, Bool, true, false, nat_eq, if◌then◌else◌, List, [], ◌∷◌, length, drop, refl, sym, ap, subst, ◌∙◌, inl, inr, arith}
use Rattle.std.proofs.lemmas.Bool.{ne_eqb}
use Rattle.gc_types.specs.Declarations.{Declaration}
use Rattle.std.proofs.lemmas.List.{drop_more}
use Rattle.gc_roots.specs.Roots.{Root, root_at, no_root}
use Rattle.gc_view.specs.Bytes.{put_u32}
use Rattle.gc_memory.specs.Words.{word, word64}
use Rattle.gc_memory.specs.Lists.{In, here, there, occ, sum_over}
use Rattle.gc_memory.proofs.ListLemmas.{In-occ, occ-In, occ-same, sum_over-same}
use Rattle.gc_drc.specs.declared.space.CountedSpace.{CountedSpace}
use Rattle.gc_drc.specs.View.{View, Linked, last, link}
use Rattle.gc_drc.specs.SpaceLaws.{places_are}
use Rattle.gc_drc.specs.Graph.{CountedGraph}
use Rattle.gc_drc.specs.CollectOps.{same, without_one, marked_also}
use Rattle.gc_drc.specs.CollectStates.{Tracing}
use Rattle.gc_drc.specs.CollectMemory.{Context, At, CanMark}
use Rattle.gc_drc.specs.CollectVisits.{CanVisitObject}
use Rattle.gc_drc.specs.CollectDrain.{IsCountingPlace}
use Rattle.gc_drc.specs.CollectTrace.{Settled, Traces, CanScanNext, words_in_roots, chain_length, trace_left, fresh_in}
use Rattle.gc_drc.proofs.OccLemmas.{same-is, same-not, occ-without}
use Rattle.gc_drc.proofs.SweepLemmas.{marked_is_view}
use Rattle.gc_drc.proofs.TraceLemmas.{trace_marks, trace_passes, trace_scans}
use Rattle.gc_drc.proofs.RewriteLemmas.{Sets, sets_link, sets_as, linked_same}
use Rattle.gc_drc.proofs.HoldsLemmas.{Rewritten, room_at, link_kept, with_lists, at_written}
use Rattle.gc_drc.proofs.LinkLemmas.{linked_first, linked_begins, linked_rest}
use Rattle.gc_drc.proofs.ReleaseLemmas.{places_once, length_without}
use Rattle.gc_drc.proofs.MarkLemmas.{flags_in, count_in}
use Rattle.gc_drc.proofs.DrainLemmas.{place_in, no_place}
use Rattle.gc_drc.proofs.VisitLemmas.{object_room}
use Rattle.gc_drc.proofs.SweepMemory.{mark_read, fresh_read, marked_read, sum_changed}

-- WORDS

word_held : (c : Context) (unscanned : List ℕ) (s : CountedSpace) (head fresh w : ℕ) (rest : List ℕ) (t : Traces c unscanned s head fresh (w ∷ rest)) → IsCountingPlace w → In w t.view.places
word_held c unscanned s head fresh w rest t is = subst (λ (ps : List ℕ). In w ps) (sym t.settled.all_held) (place_in c w (t.known w here) is)

pub word_room : (c : Context) (unscanned : List ℕ) (s : CountedSpace) (head fresh w : ℕ) (rest : List ℕ) → Traces c unscanned s head fresh (w ∷ rest) → IsCountingPlace w → w + 28 ≤ length s.memory
word_room c unscanned s head fresh w rest t is = room_at c t.view s w t.at (word_held c unscanned s head fresh w rest t is)

pub word_can : (c : Context) (unscanned : List ℕ) (s : CountedSpace) (head fresh w : ℕ) (rest : List ℕ) (b : Bool) → Traces c unscanned s head fresh (w ∷ rest) → IsCountingPlace w → b ≡ nat_eq (word s.memory w % 2) 1 → b ≡ false → CanMark s w
word_can c unscanned s head fresh w rest b t is read off =
    let held = word_held c unscanned s head fresh w rest t is in
    record { context = c; view = t.view; at = t.at; held = held; fresh = fresh_read c t.view s w b t.at held read off }

settled_marked : (g : CountedGraph) (v : View) (w : ℕ) → Settled g v → In w v.places → occ w v.marked ≡ 0 → Settled g (marked_also v w)
settled_marked g v w t i none = record {
  is_view = marked_is_view v w t.is_view (In-occ w v.places i) none;
  cascading = record { counts = t.cascading.counts; from = t.cascading.from; gone = t.cascading.gone; shown = t.cascading.shown; freed = t.cascading.freed };
  shown_frames = t.shown_frames;
  none_queued = t.none_queued;
  all_held = t.all_held;
}

-- the link word of an object is free where nothing is queued
link_free : (c : Context) (v : View) (s s' : CountedSpace) (x n : ℕ) → At c v s → In x v.places → v.queue ≡ [] → n < 2 ^ 32 → s' ≡ record s { memory = put_u32 s.memory (x + 24) n }
    → At c v s' × ((word s'.memory (x + 24) ≡ n) × ((ps : List ℕ) → ((p : ℕ) → In p ps → In p v.places) → (In x ps → ⊥) → (h : ℕ) → Linked s.memory 24 h ps → Linked s'.memory 24 h ps))
link_free c v s s' x n at i none small is =
    let h = at.holds in
    let room = room_at c v s x at i in
    let sets = sets_link s.memory x n room small in
    let m' : s'.memory ≡ put_u32 s.memory (x + 24) n = ap (λ (t : CountedSpace). t.memory) is in
    let now : Sets s.memory s'.memory x (word s.memory x % 8) (word64 s.memory (x + 8)) (word s.memory (x + 16)) n =
    subst (λ (m : List ℕ). Sets s.memory m x (word s.memory x % 8) (word64 s.memory (x + 8)) (word s.memory (x + 16)) n) (sym m') sets in
    let same_view = with_lists v v.shown v.queue v.marked v.counted in
    let r : Rewritten v same_view s s'.memory x = record {
      held = i;
      sets = sets_as now _ _ _ _ (flags_in c v s x at i) (count_in c v s x at i) (sym now.shown_is) (sym now.link_is);
      positive = (h.objects x i).positive;
      counts = λ p j ne. refl;
      flags = λ p j ne. refl;
    } in
    let shown : s'.shown ≡ s.shown = ap (λ (t : CountedSpace). t.shown) is in
    let queued : s'.queued ≡ s.queued = ap (λ (t : CountedSpace). t.queued) is in
    let no_queue : Linked s.memory 24 s.queued [] = subst (λ (xs : List ℕ). Linked s.memory 24 s.queued xs) none h.queue_linked in
    let zero_head : s'.queued ≡ 0 = queued ∙ linked_first s.memory 24 s.queued [] no_queue in
    let queue_now : Linked s'.memory 24 s'.queued v.queue =
    subst (λ (xs : List ℕ). Linked s'.memory 24 s'.queued xs) (sym none) (subst (λ (q : ℕ). Linked s'.memory 24 q []) (sym zero_head) last) in (
      at_written c v v.shown v.queue v.marked v.counted s s' x at r (ap (λ (t : CountedSpace). t.free) is) (ap (λ (t : CountedSpace). t.objects) is) (ap (λ (t : CountedSpace). t.allocated) is) (record {
        shown_part = h.shown_part;
        queue_part = h.queue_part;
        marked_part = h.marked_part;
        shown_linked = subst (λ (q : ℕ). Linked s'.memory 16 q v.shown) (sym shown)
            (linked_same s.memory s'.memory 16 s.shown v.shown (link_kept c v same_view s s'.memory x 16 at r (omega arith) v.shown h.shown_part.inside (λ _. now.shown_is)) h.shown_linked);
        queue_linked = queue_now;
      }),
      (
        now.link_is,
        λ ps part out head linked.
            linked_same s.memory s'.memory 24 head ps (link_kept c v same_view s s'.memory x 24 at r (omega arith) ps part (λ j. absurd (out j))) linked,
      ),
    )

-- an object is marked, and is to be scanned
pub traces_marks : (c : Context) (unscanned : List ℕ) (s s1 s2 : CountedSpace) (head fresh w : ℕ) (rest : List ℕ) (b : Bool) → Traces c unscanned s head fresh (w ∷ rest) → IsCountingPlace w
    → b ≡ nat_eq (word s.memory w % 2) 1 → b ≡ false → head < 2 ^ 32
    → ((o : Context) (v : View) → At o v s → In w v.places → occ w v.marked ≡ 0 → At o (marked_also v w) s1)
    → ((o : Context) (v : View) (h : ℕ) (list : List ℕ) → At o v s → In w v.places → ((p : ℕ) → In p list → In p v.places) → Linked s.memory 24 h list → Linked s1.memory 24 h list)
    → s2 ≡ record s1 { memory = put_u32 s1.memory (w + 24) head } → Traces c unscanned s2 w (fresh - 1) rest
traces_marks c unscanned s s1 s2 head fresh w rest b t is read off small marks links wrote =
    let v = t.view in
    let held = word_held c unscanned s head fresh w rest t is in
    let none = fresh_read c v s w b t.at held read off in
    let place = In-occ w c.graph.places (place_in c w (t.known w here) is) in
    let at1 = marks c v t.at held none in
    let work_part = λ (p : ℕ) (i : In p t.work). t.at.holds.marked_part.inside p (occ-In p v.marked (let some = In-occ p t.work i in let w1 = t.tracing.waiting p in omega arith)) in
    let not_work = λ (i : In w t.work). (let some = In-occ w t.work i in let w1 = t.tracing.waiting w in absurd {A = ⊥} (omega arith)) in
    let linked1 = links c v head t.work t.at held work_part t.linked in
    let free = link_free c (marked_also v w) s1 s2 w head at1 held t.settled.none_queued small wrote in
    let linked2 = free.1.1 t.work work_part not_work head linked1 in
    let lies = t.at.start.lies w (t.at.from w held) in
    let once_w = places_once v s t.at.holds w in
    let some_w = In-occ w v.places held in
    let once : occ w v.places ≡ 1 = omega arith in
    let one : same w w ≡ 1 = same-is w w refl in
    let sums = sum_changed (λ p. 1 - occ p v.marked) (λ p. 1 - occ p (w ∷ v.marked)) w v.places once
    (λ p i ne. let other : same p w ≡ 0 = same-not p w ne in omega arith) in
    let before = t.left_is in
    record {
      view = marked_also v w;
      at = free.0;
      settled = settled_marked c.graph v w t.settled held none;
      work = w ∷ t.work;
      tracing = trace_marks c.graph v w rest t.work t.tracing place;
      linked = link lies.not_null (subst (λ (n : ℕ). Linked s2.memory 24 n t.work) (sym free.1.0) linked2);
      known = λ q i. t.known q (there i);
      fresh_is = omega (arith, t.fresh_is);
      left_is = omega (arith, t.fresh_is);
    }

pub traces_passes : (c : Context) (unscanned : List ℕ) (s : CountedSpace) (head fresh w : ℕ) (rest : List ℕ) (b : Bool) → Traces c unscanned s head fresh (w ∷ rest) → IsCountingPlace w
    → b ≡ nat_eq (word s.memory w % 2) 1 → b ≡ true → Traces c unscanned s head fresh rest
traces_passes c unscanned s head fresh w rest b t is read on =
    let held = word_held c unscanned s head fresh w rest t is in
    record {
      view = t.view;
      at = t.at;
      settled = t.settled;
      work = t.work;
      tracing = trace_passes c.graph t.view w rest t.work t.tracing (inr (marked_read c t.view s w b t.at held read on));
      linked = t.linked;
      known = λ q i. t.known q (there i);
      fresh_is = t.fresh_is;
      left_is = t.left_is;
    }

pub traces_skips : (c : Context) (unscanned : List ℕ) (s : CountedSpace) (head fresh w : ℕ) (rest : List ℕ) → Traces c unscanned s head fresh (w ∷ rest) → (IsCountingPlace w → ⊥) → Traces c unscanned s head fresh rest
traces_skips c unscanned s head fresh w rest t isnt = record {
  view = t.view;
  at = t.at;
  settled = t.settled;
  work = t.work;
  tracing = trace_passes c.graph t.view w rest t.work t.tracing (inl (no_place c w t.at.start isnt));
  linked = t.linked;
  known = λ q i. t.known q (there i);
  fresh_is = t.fresh_is;
  left_is = t.left_is;
}

-- SCANNING

-- the first object that is to be scanned
pub record Popped (c : Context) (unscanned : List ℕ) (s : CountedSpace) (head fresh n : ℕ) : Type 0 where
  pub place_in : In head c.graph.places
  pub left : List ℕ
  pub traces : Traces c left s n fresh (c.graph.words head)
  pub shorter : length left < length unscanned

pub popped : (c : Context) (unscanned : List ℕ) (s : CountedSpace) (head fresh n : ℕ) → 0 < head → Traces c unscanned s head fresh [] → n ≡ word s.memory (head + 24) → Popped c unscanned s head fresh n
popped c unscanned s head fresh n some t read =
    let b = linked_begins s.memory 24 head t.work t.linked (λ (e : head ≡ 0). absurd (omega arith)) in
    let one = occ-same head b.rest in
    let times : occ head t.work ≡ occ head (head ∷ b.rest) = ap (λ (xs : List ℕ). occ head xs) b.is in
    let waits = t.tracing.waiting head in
    let held = t.at.holds.marked_part.inside head (occ-In head t.view.marked (omega arith)) in
    let i = t.at.from head held in
    let linked : Linked s.memory 24 head (head ∷ b.rest) = subst (λ (xs : List ℕ). Linked s.memory 24 head xs) b.is t.linked in
    let tracing : Tracing c.graph t.view [] (head ∷ b.rest) = subst (λ (xs : List ℕ). Tracing c.graph t.view [] xs) b.is t.tracing in
    let len : length t.work ≡ suc (length b.rest) = ap (λ (xs : List ℕ). length xs) b.is in
    let total = t.left_is in
    let shorter_list = tail_of unscanned in
    let short : length (tail_of unscanned) + 1 ≡ length unscanned = length_tail unscanned (omega arith) in
    record {
      place_in = i;
      left = tail_of unscanned;
      traces = record {
        view = t.view;
        at = t.at;
        settled = t.settled;
        work = b.rest;
        tracing = trace_scans c.graph t.view head b.rest tracing;
        linked = subst (λ (h : ℕ). Linked s.memory 24 h b.rest) (sym read) (rest_linked s.memory head b.rest linked);
        known = λ q j. t.at.start.fields head q i j;
        fresh_is = t.fresh_is;
        left_is = omega arith;
      };
      shorter = omega arith;
    }
  where
    tail_of : List ℕ → List ℕ
    tail_of [] = []
    tail_of (x ∷ xs) = xs

    length_tail : (xs : List ℕ) → 0 < length xs → length (tail_of xs) + 1 ≡ length xs
    length_tail [] h = absurd (omega arith)
    length_tail (x ∷ xs) h = omega arith

    rest_linked : (m : List ℕ) (h : ℕ) (xs : List ℕ) → Linked m 24 h (h ∷ xs) → Linked m 24 (word m (h + 24)) xs
    rest_linked m h xs l = (linked_rest m 24 h h xs l).2

-- how long a list is, counted by its links
chain_is : (m : List ℕ) (n h : ℕ) (xs : List ℕ) → Linked m 24 h xs → length xs ≤ n → chain_length n m h ≡ length xs
chain_is m zero _ [] last le = refl
chain_is m (suc n) _ [] last le = refl
chain_is m zero h (_ ∷ xs) (link positive rest) le = absurd (omega arith)
chain_is m (suc n) h (_ ∷ xs) (link positive rest) le =
    ap (λ b. if b then 0 else suc (chain_length n m (word m (h + 24)))) (ne_eqb h 0 (λ (e : h ≡ 0). absurd (omega arith)))
    ∙ ap suc (chain_is m n (word m (h + 24)) xs rest (omega arith))

-- a list with no more of each number than another isn't longer
length_part : (xs ps : List ℕ) → ((x : ℕ) → occ x xs ≤ occ x ps) → length xs ≤ length ps
length_part [] ps part = omega arith
length_part (y ∷ ys) ps part =
    let one = occ-same y ys in
    let at = part y in
    let some : 0 < occ y ps = omega arith in
    let len = length_without y ps some in
    let rest = length_part ys (without_one y ps) (λ x. let w = occ-without y x ps some in let p : same x y + occ x ys ≤ occ x ps = part x in omega arith) in
    omega arith

-- the objects that aren't marked are those whose mark bits say so
pub fresh_in_is : (c : Context) (unscanned : List ℕ) (s : CountedSpace) (head fresh : ℕ) (pending : List ℕ) → Traces c unscanned s head fresh pending → fresh ≡ fresh_in s
fresh_in_is c unscanned s head fresh pending t =
    let v = t.view in
    let bits : fresh_in s ≡ sum_over (λ p. 1 - occ p v.marked) v.places =
    ap (λ (ps : List ℕ). sum_over (λ p. 1 - word s.memory p % 2) ps) (places_are v s t.at.holds)
    ∙ sum_over-same (λ p. 1 - occ p v.marked) (λ p. 1 - word s.memory p % 2) v.places (λ p i. ap (λ (n : ℕ). 1 - n) (mark_read c v s p t.at i)) in
    sym (bits ∙ t.fresh_is)

pub trace_left_is : (c : Context) (unscanned : List ℕ) (s : CountedSpace) (head fresh : ℕ) (pending : List ℕ) → Traces c unscanned s head fresh pending → trace_left s head ≡ length unscanned
trace_left_is c unscanned s head fresh pending t =
    let v = t.view in
    let count = t.at.holds.count in
    let bits = fresh_in_is c unscanned s head fresh pending t in
    let few = length_part t.work v.places (λ x. let w = t.tracing.waiting x in let m = t.settled.is_view.marked x in omega arith) in
    let chain = chain_is s.memory s.objects head t.work t.linked (omega arith) in
    let total = t.left_is in
    omega arith

-- an object that isn't marked is one of them
pub some_fresh : (c : Context) (unscanned : List ℕ) (s : CountedSpace) (head fresh w : ℕ) (rest : List ℕ) (b : Bool) → Traces c unscanned s head fresh (w ∷ rest) → IsCountingPlace w
    → b ≡ nat_eq (word s.memory w % 2) 1 → b ≡ false → 0 < fresh
some_fresh c unscanned s head fresh w rest b t is read off =
    let v = t.view in
    let held = word_held c unscanned s head fresh w rest t is in
    let none = fresh_read c v s w b t.at held read off in
    let once_w = places_once v s t.at.holds w in
    let some_w = In-occ w v.places held in
    let once : occ w v.places ≡ 1 = omega arith in
    let one : same w w ≡ 1 = same-is w w refl in
    let sums = sum_changed (λ p. 1 - occ p v.marked) (λ p. 1 - occ p (w ∷ v.marked)) w v.places once
    (λ p i ne. let other : same p w ≡ 0 = same-not p w ne in omega arith) in
    omega (arith, t.fresh_is)

pub scan_can : (types : List Declaration) (s : CountedSpace) (head fresh n : ℕ) → CanScanNext types s head fresh → 0 < head → n ≡ word s.memory (head + 24)
    → CanVisitObject (λ o unscanned words. Traces o unscanned s n fresh words) types head
scan_can types s head fresh n can some read =
    let p = popped can.context can.unscanned s head fresh n some can.traces read in
    record { context = can.context; places = p.left; typed = can.typed; place_in = p.place_in; is = p.traces }

pub scan_room : (types : List Declaration) (s : CountedSpace) (head fresh : ℕ) → CanScanNext types s head fresh → 0 < head → head + 28 ≤ length s.memory
scan_room types s head fresh can some =
    let p = popped can.context can.unscanned s head fresh _ some can.traces refl in
    (object_room can.context s.memory head can.traces.at.start can.traces.at.intact p.place_in).0

pub scans : (c : Context) (unscanned : List ℕ) (types : List Declaration) (s s' : CountedSpace) (head fresh n head' fresh' : ℕ) → 0 < head → n ≡ word s.memory (head + 24)
    → ((o : Context) (left : List ℕ) → o.types ≡ types → In head o.graph.places → Traces o left s n fresh (o.graph.words head) → Traces o left s' head' fresh' [])
    → c.types ≡ types → Traces c unscanned s head fresh [] → (left : List ℕ) × (Traces c left s' head' fresh' [] × (length left < length unscanned))
scans c unscanned types s s' head fresh n head' fresh' some read visits typed t =
    let p = popped c unscanned s head fresh n some t read in
    (p.left, (visits c p.left typed p.place_in p.traces, p.shorter))

pub scan_less : (types : List Declaration) (s s' : CountedSpace) (head fresh n head' fresh' : ℕ) → 0 < head → n ≡ word s.memory (head + 24)
    → ((o : Context) (left : List ℕ) → o.types ≡ types → In head o.graph.places → Traces o left s n fresh (o.graph.words head) → Traces o left s' head' fresh' [])
    → CanScanNext types s head fresh → trace_left s' head' < trace_left s head
scan_less types s s' head fresh n head' fresh' some read visits can =
    let r = scans can.context can.unscanned types s s' head fresh n head' fresh' some read visits can.typed can.traces in
    omega (arith, r.1.1, trace_left_is can.context can.unscanned s head fresh [] can.traces, trace_left_is can.context r.0 s' head' fresh' [] r.1.0)

-- the loop
abbrev pub Scans : List Declaration → CountedSpace → ℕ → ℕ → CountedSpace → ℕ → ℕ → Type 0
Scans types s head fresh s' head' fresh' = (c : Context) (unscanned : List ℕ) → c.types ≡ types → Traces c unscanned s head fresh [] → (left : List ℕ) × Traces c left s' head' fresh' []

pub scans_can : (types : List Declaration) (s s' : CountedSpace) (head fresh head' fresh' : ℕ) → Scans types s head fresh s' head' fresh' → CanScanNext types s head fresh → CanScanNext types s' head' fresh'
scans_can types s s' head fresh head' fresh' scanned can =
    let r = scanned can.context can.unscanned can.typed can.traces in
    record { context = can.context; unscanned = r.0; typed = can.typed; traces = r.1 }

pub scans_step : (types : List Declaration) (s s' s2 : CountedSpace) (head fresh head' fresh' head2 fresh2 : ℕ) → Scans types s head fresh s' head' fresh'
    → ((c : Context) (unscanned : List ℕ) → c.types ≡ types → Traces c unscanned s' head' fresh' [] → (left : List ℕ) × (Traces c left s2 head2 fresh2 [] × (length left < length unscanned))) → Scans types s head fresh s2 head2 fresh2
scans_step types s s' s2 head fresh head' fresh' head2 fresh2 scanned step c unscanned typed t =
    let r = scanned c unscanned typed t in
    let q = step c r.0 typed r.1 in
    (q.0, q.1.0)

-- an object that was marked has its words
pub marked_room : (c : Context) (unscanned : List ℕ) (s s1 : CountedSpace) (head fresh w : ℕ) (rest : List ℕ) (b : Bool) → Traces c unscanned s head fresh (w ∷ rest) → IsCountingPlace w → b ≡ nat_eq (word s.memory w % 2) 1 → b ≡ false
    → ((o : Context) (v : View) → At o v s → In w v.places → occ w v.marked ≡ 0 → At o (marked_also v w) s1) → w + 28 ≤ length s1.memory
marked_room c unscanned s s1 head fresh w rest b t is read off marks =
    let held = word_held c unscanned s head fresh w rest t is in
    room_at c (marked_also t.view w) s1 w (marks c t.view t.at held (fresh_read c t.view s w b t.at held read off)) held

-- ROOTS

pub words_step : (roots : List Root) (i : ℕ) → i < length roots → words_in_roots (drop i roots) ≡ (root_at roots i).word ∷ words_in_roots (drop (i + 1) roots)
words_step roots i h = ap words_in_roots (drop_more roots i no_root h)

pub words_end : (roots : List Root) (i : ℕ) → length roots ≤ i → words_in_roots (drop i roots) ≡ []
words_end [] zero h = refl
words_end [] (suc i) h = refl
words_end (r ∷ roots) zero h = absurd (omega arith)
words_end (r ∷ roots) (suc i) h = words_end roots i (omega arith)
