-- What isn't marked is freed, in memory.
use Rattle.std.proofs.Common.{◌≡◌, ℕ, ◌+◌, ◌-◌, ◌*◌, ◌/◌, ◌%◌, ◌<◌, ◌≤◌, ◌^◌, Bool, true, false, cond, nat_eq, List, [], ◌∷◌, ◌++◌, Option, Some, None, length, map, refl, sym, ap, subst, ◌∙◌, inl, inr, arith}
use Rattle.std.specs.Prelude.{find, option_map, min}
use Rattle.std.proofs.Math.Logic.{◌⊎◌}
use Rattle.std.proofs.lemmas.Bool.{cases_eq, cases_lt, eq-eqb, ne_eqb, lt-ltb, le-ltb}
use Rattle.std.specs.FinMap as finite
use Rattle.std.specs.Ordering.{nat_cmp}
use Rattle.gc_types.specs.Declarations.{Declaration}
use Rattle.gc_types.specs.declared.kind.VMGcKind.TheVariants.{ExternRef}
use Rattle.gc_refs.specs.Header.{IsOfKind}
use Rattle.gc_memory.specs.Words.{word}
use Rattle.gc_memory.specs.Lists.{In, here, there, occ}
use Rattle.gc_memory.proofs.ListLemmas.{In-occ, occ-In}
use Rattle.gc_free.specs.declared.run.Run.{Run}
use Rattle.gc_free.specs.Runs.{run, gap, gaps, begins_at, IsSpread}
use Rattle.gc_free.specs.Space.{places_end}
use Rattle.gc_free.specs.Listed.{run_length_at}
use Rattle.gc_drc.specs.declared.space.CountedSpace.{CountedSpace}
use Rattle.gc_drc.specs.Layout.{counting_size_at, counting_kind_at, block_of}
use Rattle.gc_drc.specs.View.{View, HoldsBlocks, block_at, count_of}
use Rattle.gc_drc.specs.PlaceLaws.{spread-lies, spread-apart}
use Rattle.gc_drc.specs.SpaceLaws.{blocks_apart}
use Rattle.gc_drc.specs.Graph.{CountingReached}
use Rattle.gc_drc.specs.CollectOps.{same, without_one, uncounted, freed}
use Rattle.gc_drc.specs.CollectMemory.{Context, At, CanUncountAt, CanRelease}
use Rattle.gc_drc.specs.CollectVisits.{CanVisitObject}
use Rattle.gc_drc.specs.CollectHosts.{FreesHostOf, HostsLeft}
use Rattle.gc_drc.specs.CollectDrain.{IsCountingPlace}
use Rattle.gc_drc.specs.CollectWalk.{Uncounts, Garbage, CanFreeGarbage, IsBorder, IsNext, CanWalk, CanSweepGarbage, SweepsGarbage, CanFreeUnmarked, FreedUnmarked, walk_end}
use Rattle.gc_drc.proofs.WalkStates.{Walk, Walks}
use Rattle.gc_drc.proofs.OccLemmas.{same-is, same-not, occ-without}
use Rattle.gc_drc.proofs.TraceLemmas.{freeing_can_uncount, freeing_uncounts, freeing_skips, freeing_frees, unmarked_not_shown}
use Rattle.gc_drc.proofs.VisitLemmas.{kind_part_same, object_room}
use Rattle.gc_drc.proofs.HostLemmas.{hosts_after}
use Rattle.gc_drc.proofs.DrainLemmas.{place_in, no_place, external_room}
use Rattle.gc_drc.proofs.SweepMemory.{unmarked_read, marked_true}

-- COUNTS OF MARKED OBJECTS

pub uncounts_room : (c : Context) (places : List ℕ) (s : CountedSpace) (w : ℕ) (rest : List ℕ) → Uncounts c places s (w ∷ rest) → IsCountingPlace w → w + 28 ≤ length s.memory
uncounts_room c places s w rest u is = (object_room c s.memory w u.at.start u.at.intact (place_in c w (u.known w here) is)).0

bit_on : (c : Context) (places : List ℕ) (s : CountedSpace) (w : ℕ) (rest : List ℕ) (b : Bool) (u : Uncounts c places s (w ∷ rest)) → IsCountingPlace w → b ≡ nat_eq (word s.memory w % 2) 1 → b ≡ true → 0 < occ w u.view.marked
bit_on c places s w rest b u is read on =
    let bit = u.bits w (place_in c w (u.known w here) is) in
    let one = marked_true (word s.memory w % 2) (sym read ∙ on) in
    omega arith

pub uncounts_can : (c : Context) (places : List ℕ) (s : CountedSpace) (w : ℕ) (rest : List ℕ) (b : Bool) → Uncounts c places s (w ∷ rest) → IsCountingPlace w → b ≡ nat_eq (word s.memory w % 2) 1 → b ≡ true → CanUncountAt s w
uncounts_can c places s w rest b u is read on =
    let can = freeing_can_uncount c.graph u.view w rest u.freeing (bit_on c places s w rest b u is read on) in
    record { context = c; view = u.view; at = u.at; held = occ-In w u.view.places can.held; named = can.named; more = can.more }

pub uncounts_takes : (c : Context) (places : List ℕ) (s s' : CountedSpace) (w : ℕ) (rest : List ℕ) (b : Bool) → Uncounts c places s (w ∷ rest) → IsCountingPlace w → b ≡ nat_eq (word s.memory w % 2) 1 → b ≡ true
    → ((o : Context) (v : View) → At o v s → In w v.places → 0 < v.counted w → 1 < count_of v w → At o (uncounted v w) s')
    → ((o : Context) (v : View) → At o v s → In w v.places → (p : ℕ) → In p o.graph.places → word s'.memory p ≡ word s.memory p) → Uncounts c places s' rest
uncounts_takes c places s s' w rest b u is read on takes kinds =
    let m = bit_on c places s w rest b u is read on in
    let can = freeing_can_uncount c.graph u.view w rest u.freeing m in
    let held = occ-In w u.view.places can.held in
    record {
      view = uncounted u.view w;
      at = takes c u.view u.at held can.named can.more;
      freeing = freeing_uncounts c.graph u.view w rest u.freeing m;
      places_are = u.places_are;
      known = λ q i. u.known q (there i);
      bits = λ p i. ap (λ (n : ℕ). n % 2) (kinds c u.view u.at held p i) ∙ u.bits p i;
    }

uncounts_over : (c : Context) (places : List ℕ) (s : CountedSpace) (w : ℕ) (rest : List ℕ) → (u : Uncounts c places s (w ∷ rest)) → occ w u.view.marked ≡ 0 → Uncounts c places s rest
uncounts_over c places s w rest u none = record {
  view = u.view;
  at = u.at;
  freeing = freeing_skips c.graph u.view w rest u.freeing none;
  places_are = u.places_are;
  known = λ q i. u.known q (there i);
  bits = u.bits;
}

pub uncounts_passes : (c : Context) (places : List ℕ) (s : CountedSpace) (w : ℕ) (rest : List ℕ) (b : Bool) → Uncounts c places s (w ∷ rest) → IsCountingPlace w → b ≡ nat_eq (word s.memory w % 2) 1 → b ≡ false → Uncounts c places s rest
uncounts_passes c places s w rest b u is read off =
    let bit = u.bits w (place_in c w (u.known w here) is) in
    let bit_zero = unmarked_read (word s.memory w % 2) (sym read ∙ off) (omega arith) in
    uncounts_over c places s w rest u (omega arith)

pub uncounts_skips : (c : Context) (places : List ℕ) (s : CountedSpace) (w : ℕ) (rest : List ℕ) → Uncounts c places s (w ∷ rest) → (IsCountingPlace w → ⊥) → Uncounts c places s rest
uncounts_skips c places s w rest u isnt =
    let none = no_place c w u.at.start isnt in
    let m = u.freeing.is_view.marked w in
    let from = u.freeing.from w in
    uncounts_over c places s w rest u (omega arith)

-- FREEING

garbage_fresh : (D : Type 0) (c : Context) (before now : finite.FinMap nat_cmp D) (places : List ℕ) (s : CountedSpace) (x : ℕ) (q : Garbage D c before places s now) → In x places → word s.memory x % 2 ≡ 0
    → In x q.view.places × (In x c.graph.places × (occ x q.view.marked ≡ 0))
garbage_fresh D c before now places s x q i fresh =
    let held = subst (λ (ps : List ℕ). In x ps) (sym q.places_are) i in
    let start = q.at.from x held in
    (held, (start, sym (q.bits x start) ∙ fresh))

pub garbage_room : (D : Type 0) (types : List Declaration) (s : CountedSpace) (now : finite.FinMap nat_cmp D) (x : ℕ) → CanFreeGarbage D types s now x → x + 28 ≤ length s.memory
garbage_room D types s now x can =
    let q = can.garbage in
    let f = garbage_fresh D can.context can.before now can.places s x q can.held can.fresh in
    (object_room can.context s.memory x q.at.start q.at.intact f.1.0).0

pub garbage_kind : (D : Type 0) (types : List Declaration) (s : CountedSpace) (now : finite.FinMap nat_cmp D) (x : ℕ) → CanFreeGarbage D types s now x → IsOfKind (counting_kind_at s.memory x) (word s.memory x)
garbage_kind D types s now x can =
    let q = can.garbage in
    let f = garbage_fresh D can.context can.before now can.places s x q can.held can.fresh in
    kind_part_same can.context s.memory x q.at.start q.at.intact f.1.0

pub garbage_external : (D : Type 0) (types : List Declaration) (s : CountedSpace) (now : finite.FinMap nat_cmp D) (x : ℕ) → CanFreeGarbage D types s now x → counting_kind_at s.memory x ≡ ExternRef → x + 32 ≤ length s.memory
garbage_external D types s now x can is =
    let q = can.garbage in
    let f = garbage_fresh D can.context can.before now can.places s x q can.held can.fresh in
    external_room can.context s.memory x q.at.start q.at.intact f.1.0 is

pub garbage_release : (D : Type 0) (types : List Declaration) (s : CountedSpace) (now : finite.FinMap nat_cmp D) (x : ℕ) → CanFreeGarbage D types s now x → CanRelease s x
garbage_release D types s now x can =
    let q = can.garbage in
    let f = garbage_fresh D can.context can.before now can.places s x q can.held can.fresh in
    record { context = can.context; view = q.view; at = q.at; held = f.0 }

-- what is freed, and what it names
freed_uncounts : (D : Type 0) (c : Context) (before old new : finite.FinMap nat_cmp D) (places : List ℕ) (s s1 : CountedSpace) (x : ℕ) → Garbage D c before places s old → In x places → word s.memory x % 2 ≡ 0
    → FreesHostOf D s.memory old new x → s1.memory ≡ s.memory
    → ((o : Context) (v : View) → At o v s → In x v.places → occ x v.shown ≡ 0 → occ x v.queue ≡ 0 → occ x v.marked ≡ 0 → At o (freed v x) s1)
    → In x c.graph.places × (Uncounts c (without_one x places) s1 (c.graph.words x) × HostsLeft D c (without_one x places) before new)
freed_uncounts D c before old new places s s1 x q i fresh frees_host memory frees =
    let f = garbage_fresh D c before old places s x q i fresh in
    let held = In-occ x q.view.places f.0 in
    let none = f.1.1 in
    let once : occ x places ≤ 1 = subst (λ (ps : List ℕ). occ x ps ≤ 1) q.places_are (q.freeing.is_view.once x) in (
      f.1.0,
      (
        record {
          view = freed q.view x;
          at = frees c q.view q.at f.0 (unmarked_not_shown c.graph q.view x [] q.freeing held none) (q.freeing.none_queued x) none;
          freeing = freeing_frees c.graph q.view x q.freeing held none;
          places_are = ap (without_one x) q.places_are;
          known = λ w j. q.at.start.fields x w f.1.0 j;
          bits = λ p j. ap (λ (m : List ℕ). word m p % 2) memory ∙ q.bits p j;
        },
        hosts_after D c s.memory places before old new x once (In-occ x places i) f.1.0 q.at.start q.at.intact q.hosts frees_host,
      ),
    )

pub garbage_can_visit : (D : Type 0) (types : List Declaration) (old new : finite.FinMap nat_cmp D) (s s1 : CountedSpace) (x : ℕ) → CanFreeGarbage D types s old x → FreesHostOf D s.memory old new x → s1.memory ≡ s.memory
    → ((o : Context) (v : View) → At o v s → In x v.places → occ x v.shown ≡ 0 → occ x v.queue ≡ 0 → occ x v.marked ≡ 0 → At o (freed v x) s1)
    → CanVisitObject (λ o places words. Uncounts o places s1 words) types x
garbage_can_visit D types old new s s1 x can frees_host memory frees =
    let r = freed_uncounts D can.context can.before old new can.places s s1 x can.garbage can.held can.fresh frees_host memory frees in
    record { context = can.context; places = without_one x can.places; typed = can.typed; place_in = r.0; is = r.1.0 }

pub garbage_freed : (D : Type 0) (c : Context) (types : List Declaration) (before old new : finite.FinMap nat_cmp D) (places : List ℕ) (s s1 s2 : CountedSpace) (x : ℕ) → word s.memory x % 2 ≡ 0
    → FreesHostOf D s.memory old new x → s1.memory ≡ s.memory
    → ((o : Context) (v : View) → At o v s → In x v.places → occ x v.shown ≡ 0 → occ x v.queue ≡ 0 → occ x v.marked ≡ 0 → At o (freed v x) s1)
    → ((o : Context) (ps : List ℕ) → o.types ≡ types → In x o.graph.places → Uncounts o ps s1 (o.graph.words x) → Uncounts o ps s2 [])
    → c.types ≡ types → In x places → Garbage D c before places s old → Garbage D c before (without_one x places) s2 new
garbage_freed D c types before old new places s s1 s2 x fresh frees_host memory frees visits typed i q =
    let r = freed_uncounts D c before old new places s s1 x q i fresh frees_host memory frees in
    let u = visits c (without_one x places) typed r.0 r.1.0 in
    record { view = u.view; at = u.at; freeing = u.freeing; places_are = u.places_are; hosts = r.1.1; bits = u.bits }

-- THE NEXT BLOCK

-- the end of a run that may begin there
abbrev pub past : Option ℕ → ℕ → ℕ
past None from = from
past (Some n) from = from + n

abbrev run_at : ℕ → List Run → Option ℕ
run_at place rs = option_map (λ r. r.length) (find (begins_at place) rs)

-- a gap that begins elsewhere is passed over
skip_gap : (from low high : ℕ) (rest : List Run) → (low ≡ from → ⊥) → find (begins_at from) (gap low high ++ rest) ≡ find (begins_at from) rest
skip_gap from low high rest ne = elim (cases_lt low high) [
  | inl some ↦
      ap (λ b. find (begins_at from) (cond b (run low (high - low) ∷ []) [] ++ rest)) (lt-ltb low high some)
      ∙ ap (λ b. cond b (Some (run low (high - low))) (find (begins_at from) rest)) (ne_eqb low from ne)
  | inr none ↦ ap (λ b. find (begins_at from) (cond b (run low (high - low) ∷ []) [] ++ rest)) (le-ltb low high none)
]

none_above : (sizes : ℕ → ℕ) (from low end : ℕ) (ps : List ℕ) → from < low → IsSpread low end (map (block_at sizes) ps) → find (begins_at from) (gaps low end (map (block_at sizes) ps)) ≡ None
none_above sizes from low end [] h up = elim (cases_lt low end) [
  | inl some ↦
      ap (λ b. find (begins_at from) (cond b (run low (end - low) ∷ []) [])) (lt-ltb low end some)
      ∙ ap (λ b. cond b (Some (run low (end - low))) None) (ne_eqb low from (λ (e : low ≡ from). absurd (omega arith)))
  | inr none ↦ ap (λ b. find (begins_at from) (cond b (run low (end - low) ∷ []) [])) (le-ltb low end none)
]
none_above sizes from low end (p ∷ ps) h up =
    let above : low ≤ p = up.0 in
    let some : 0 < block_of (sizes p) = up.1 in
    skip_gap from low p (gaps (p + block_of (sizes p)) end (map (block_at sizes) ps)) (λ (e : low ≡ from). absurd (omega arith))
    ∙ none_above sizes from (p + block_of (sizes p)) end ps (omega arith) up.3

-- from the front of some blocks on
next_first : (sizes : ℕ → ℕ) (low end : ℕ) (ps : List ℕ) → low ≤ end → IsSpread low end (map (block_at sizes) ps) → IsNext ps end low (past (run_at low (gaps low end (map (block_at sizes) ps))) low)
next_first sizes low end [] h up = elim (cases_lt low end) [
  | inl some ↦
      let found : run_at low (gap low end) ≡ Some (end - low) =
      ap (λ b. run_at low (cond b (run low (end - low) ∷ []) [])) (lt-ltb low end some)
      ∙ ap (λ b. option_map (λ (r : Run). r.length) (cond b (Some (run low (end - low))) None)) (eq-eqb low low refl) in
      let to : past (run_at low (gap low end)) low ≡ end = ap (λ o. past o low) found ∙ omega arith in
      record { is = inl to; from_on = omega arith; inside = omega arith; skips = λ p i. elim i [ ] }
  | inr none ↦
      let found : run_at low (gap low end) ≡ None = ap (λ b. run_at low (cond b (run low (end - low) ∷ []) [])) (le-ltb low end none) in
      let to : past (run_at low (gap low end)) low ≡ end = ap (λ o. past o low) found ∙ omega arith in
      record { is = inl to; from_on = omega arith; inside = omega arith; skips = λ p i. elim i [ ] }
]
next_first sizes low end (q ∷ ps) h up =
    let above : low ≤ q = up.0 in
    let some_q : 0 < block_of (sizes q) = up.1 in
    let below : q + block_of (sizes q) ≤ end = up.2 in
    let rest = gaps (q + block_of (sizes q)) end (map (block_at sizes) ps) in
    let all = gap low q ++ rest in
    let to : past (run_at low all) low ≡ q = elim (cases_lt low q) [
      | inl some ↦
          let found : run_at low all ≡ Some (q - low) =
          ap (λ b. run_at low (cond b (run low (q - low) ∷ []) [] ++ rest)) (lt-ltb low q some)
          ∙ ap (λ b. option_map (λ (r : Run). r.length) (cond b (Some (run low (q - low))) (find (begins_at low) rest))) (eq-eqb low low refl) in
          ap (λ o. past o low) found ∙ omega arith
      | inr none ↦
          let found : run_at low all ≡ None =
          ap (λ b. run_at low (cond b (run low (q - low) ∷ []) [] ++ rest)) (le-ltb low q none)
          ∙ ap (option_map (λ (r : Run). r.length)) (none_above sizes low (q + block_of (sizes q)) end ps (omega arith) up.3) in
          ap (λ o. past o low) found ∙ omega arith
    ] in
    record {
      is = inr (subst (λ (n : ℕ). In n (q ∷ ps)) (sym to) here);
      from_on = omega arith;
      inside = omega arith;
      skips = λ p i. inr (behind_first p to i);
    }
  where
    behind_first : (p : ℕ) {n : ℕ} → n ≡ q → In p (q ∷ ps) → n ≤ p
    behind_first _ e here = omega arith
    behind_first p e (there i) =
        let l = spread-lies sizes (q + block_of (sizes q)) end p ps up.3 i in
        let from = l.from in
        omega arith

-- one more block before them
more_next : (h : ℕ) (ps : List ℕ) (end from next : ℕ) → h < from → IsNext ps end from next → IsNext (h ∷ ps) end from next
more_next h ps end from next before n = record {
  is = elim n.is [ inl e ↦ inl e | inr i ↦ inr (there i) ];
  from_on = n.from_on;
  inside = n.inside;
  skips = skips_more;
}
  where
    skips_more : (p : ℕ) → In p (h ∷ ps) → (p < from) ⊎ (next ≤ p)
    skips_more _ here = inl before
    skips_more p (there i) = n.skips p i

-- from behind one of some blocks on
next_behind : (sizes : ℕ → ℕ) (low end q : ℕ) (ps : List ℕ) → low ≤ end → IsSpread low end (map (block_at sizes) ps) → In q ps
    → IsNext ps end (q + block_of (sizes q)) (past (run_at (q + block_of (sizes q)) (gaps low end (map (block_at sizes) ps))) (q + block_of (sizes q)))
next_behind sizes low end q [] h up i = elim i [ ]
next_behind sizes low end _ (q ∷ ps) h up here =
    let above : low ≤ q = up.0 in
    let some_q : 0 < block_of (sizes q) = up.1 in
    let below : q + block_of (sizes q) ≤ end = up.2 in
    let from = q + block_of (sizes q) in
    let rest = gaps from end (map (block_at sizes) ps) in
    let skip : run_at from (gap low q ++ rest) ≡ run_at from rest = ap (option_map (λ (r : Run). r.length)) (skip_gap from low q rest (λ (e : low ≡ from). absurd (omega arith))) in
    let n = next_first sizes from end ps below up.3 in
    subst (λ o. IsNext (q ∷ ps) end from (past o from)) (sym skip) (more_next q ps end from (past (run_at from rest) from) (omega arith) n)
next_behind sizes low end q (h ∷ ps) le up (there i) =
    let above : low ≤ h = up.0 in
    let some_h : 0 < block_of (sizes h) = up.1 in
    let below : h + block_of (sizes h) ≤ end = up.2 in
    let l = spread-lies sizes (h + block_of (sizes h)) end q ps up.3 i in
    let from_q = l.from in
    let some_q = l.some in
    let from = q + block_of (sizes q) in
    let rest = gaps (h + block_of (sizes h)) end (map (block_at sizes) ps) in
    let skip : run_at from (gap low h ++ rest) ≡ run_at from rest = ap (option_map (λ (r : Run). r.length)) (skip_gap from low h rest (λ (e : low ≡ from). absurd (omega arith))) in
    let n = next_behind sizes (h + block_of (sizes h)) end q ps below up.3 i in
    subst (λ o. IsNext (h ∷ ps) end from (past o from)) (sym skip) (more_next h ps end from (past (run_at from rest) from) (omega arith) n)

-- the end of the managed places
pub end_is : (v : View) (s : CountedSpace) → HoldsBlocks v s → places_end s.free.space.capacity ≡ walk_end s
end_is v s h =
    let bound = h.bound in
    let capacity = h.capacity in
    let least : min (length s.memory) (2 ^ 32 - 1) ≡ length s.memory = omega arith in
    ap (λ (n : ℕ). min n (2 ^ 32 - 1) / 16 * 16) capacity ∙ ap (λ (n : ℕ). n / 16 * 16) least

pub next_at : (c : Context) (v : View) (s : CountedSpace) (from : ℕ) → 16 ≤ walk_end s → At c v s → IsBorder v from → IsNext v.places (walk_end s) from (past (run_length_at from s.free.space) from)
next_at c v s from some at (inl e) =
    let end = end_is v s at.holds in
    let up = blocks_apart v s at.holds in
    let n = next_first v.sizes 16 (places_end s.free.space.capacity) v.places (omega arith) up in
    let free : run_at 16 (gaps 16 (places_end s.free.space.capacity) (map (block_at v.sizes) v.places)) ≡ run_length_at from s.free.space =
    ap (λ rs. run_at 16 (gaps 16 (places_end s.free.space.capacity) rs)) (sym at.holds.blocks) ∙ ap (λ (p : ℕ). run_length_at p s.free.space) (sym e) in
    subst (λ (z : ℕ). IsNext v.places z from (past (run_length_at from s.free.space) from)) end
    (subst (λ (p : ℕ). IsNext v.places (places_end s.free.space.capacity) p (past (run_length_at from s.free.space) p)) (sym e)
    (subst (λ o. IsNext v.places (places_end s.free.space.capacity) 16 (past o 16)) free n))
next_at c v s from some at (inr (q, (i, e))) =
    let end = end_is v s at.holds in
    let up = blocks_apart v s at.holds in
    let behind = q + block_of (v.sizes q) in
    let n = next_behind v.sizes 16 (places_end s.free.space.capacity) q v.places (omega arith) up i in
    let free : run_at behind (gaps 16 (places_end s.free.space.capacity) (map (block_at v.sizes) v.places)) ≡ run_length_at from s.free.space =
    ap (λ rs. run_at behind (gaps 16 (places_end s.free.space.capacity) rs)) (sym at.holds.blocks) ∙ ap (λ (p : ℕ). run_length_at p s.free.space) (sym e) in
    subst (λ (z : ℕ). IsNext v.places z from (past (run_length_at from s.free.space) from)) end
    (subst (λ (p : ℕ). IsNext v.places (places_end s.free.space.capacity) p (past (run_length_at from s.free.space) p)) (sym e)
    (subst (λ o. IsNext v.places (places_end s.free.space.capacity) behind (past o behind)) free n))

-- it fits 32 bits
pub walk_small : (c : Context) (v : View) (s : CountedSpace) → At c v s → walk_end s < 2 ^ 32
walk_small c v s at =
    let bound = at.holds.bound in
    omega arith

-- ONE OBJECT

sweep_start : (D : Type 0) (c : Context) (before now : finite.FinMap nat_cmp D) (places : List ℕ) (s : CountedSpace) (x : ℕ) (q : Garbage D c before places s now) → In x places
    → In x q.view.places × In x c.graph.places
sweep_start D c before now places s x q i =
    let held = subst (λ (ps : List ℕ). In x ps) (sym q.places_are) i in
    (held, q.at.from x held)

pub garbage_mark_room : (D : Type 0) (types : List Declaration) (s : CountedSpace) (now : finite.FinMap nat_cmp D) (x : ℕ) → CanSweepGarbage D types s now x → x + 28 ≤ length s.memory
garbage_mark_room D types s now x can =
    let q = can.garbage in
    let f = sweep_start D can.context can.before now can.places s x q can.held in
    (object_room can.context s.memory x q.at.start q.at.intact f.1).0

bit_off : (n : ℕ) (b : Bool) → b ≡ nat_eq (n % 2) 1 → b ≡ false → n % 2 ≡ 0
bit_off n b read off = unmarked_read (n % 2) (sym read ∙ off) (omega arith)

pub garbage_can_free : (D : Type 0) (types : List Declaration) (s : CountedSpace) (now : finite.FinMap nat_cmp D) (x : ℕ) (b : Bool) → CanSweepGarbage D types s now x → b ≡ nat_eq (word s.memory x % 2) 1 → b ≡ false
    → CanFreeGarbage D types s now x
garbage_can_free D types s now x b can read off = record {
  context = can.context;
  before = can.before;
  places = can.places;
  typed = can.typed;
  garbage = can.garbage;
  held = can.held;
  fresh = bit_off (word s.memory x) b read off;
}

pub garbage_keeps : (D : Type 0) (c : Context) (before now : finite.FinMap nat_cmp D) (places : List ℕ) (s : CountedSpace) (x : ℕ) (b : Bool) → b ≡ nat_eq (word s.memory x % 2) 1 → b ≡ true → In x places
    → Garbage D c before places s now → SweepsGarbage D c before places x s now
garbage_keeps D c before now places s x b read on i q =
    let f = sweep_start D c before now places s x q i in
    let bit = q.bits x f.1 in
    let one = marked_true (word s.memory x % 2) (sym read ∙ on) in
    record {
      left = places;
      garbage = q;
      part = λ p j. j;
      others = λ p j ne. j;
      itself = λ j. q.freeing.is_marked.only x (omega arith);
    }

pub garbage_goes : (D : Type 0) (c : Context) (before old now : finite.FinMap nat_cmp D) (places : List ℕ) (s s' : CountedSpace) (x : ℕ) → In x places → Garbage D c before places s old
    → Garbage D c before (without_one x places) s' now → SweepsGarbage D c before places x s' now
garbage_goes D c before old now places s s' x i q q' =
    let held = In-occ x places i in
    let once : occ x places ≤ 1 = subst (λ (ps : List ℕ). occ x ps ≤ 1) q.places_are (q.freeing.is_view.once x) in
    record {
      left = without_one x places;
      garbage = q';
      part = λ p j. occ-In p places (let w = occ-without x p places held in let some = In-occ p (without_one x places) j in omega arith);
      others = λ p j ne. occ-In p (without_one x places) (let w = occ-without x p places held in let other : same p x ≡ 0 = same-not p x ne in let some = In-occ p places j in omega arith);
      itself = λ j. absurd (let w = occ-without x x places held in let one : same x x ≡ 1 = same-is x x refl in let some = In-occ x (without_one x places) j in omega arith);
    }

-- THE LOOP

block_fits : (D : Type 0) (c : Context) (before now : finite.FinMap nat_cmp D) (places : List ℕ) (s : CountedSpace) (x : ℕ) (q : Garbage D c before places s now) → In x places → block_of (counting_size_at s.memory x) ≡ block_of (q.view.sizes x)
block_fits D c before now places s x q i = ap block_of (q.at.holds.objects x (subst (λ (ps : List ℕ). In x ps) (sym q.places_are) i)).size_is

-- where the first object lies
pub walk_begins : (D : Type 0) (types : List Declaration) (s : CountedSpace) (now : finite.FinMap nat_cmp D) (end place : ℕ) → end ≡ walk_end s
    → ((c : Context) (v : View) → At c v s → IsBorder v 16 → IsNext v.places (walk_end s) 16 place) → Walks types s now s now end place
walk_begins D types s now end place is next c before places typed q =
    let n = next c q.view q.at (inl refl) in
    record {
      places = places;
      garbage = q;
      is_at = elim n.is [ inl e ↦ inl (e ∙ sym is) | inr i ↦ inr (subst (λ (ps : List ℕ). In place ps) q.places_are i) ];
      walked = λ p i h.
          let held = subst (λ (ps : List ℕ). In p ps) (sym q.places_are) i in
          let l = spread-lies q.view.sizes 16 (places_end s.free.space.capacity) p q.view.places (blocks_apart q.view s q.at.holds) held in
          let from = l.from in
          elim (n.skips p held) [ inl low ↦ absurd (omega arith) | inr behind ↦ absurd (omega arith) ];
      end_is = sym is;
    }

walk_held : (D : Type 0) (c : Context) (before now : finite.FinMap nat_cmp D) (s : CountedSpace) (end place : ℕ) (w : Walk D c before s now end place) → place < end → In place w.places
walk_held D c before now s end place w h = elim w.is_at [ inl e ↦ absurd (omega arith) | inr i ↦ i ]

pub walk_release : (D : Type 0) (types : List Declaration) (s s' : CountedSpace) (old now : finite.FinMap nat_cmp D) (end place : ℕ) → Walks types s old s' now end place → place < end → CanFreeUnmarked D types s old → CanRelease s' place
walk_release D types s s' old now end place walks h can =
    let w = walks can.context can.before can.places can.typed can.garbage in
    let i = walk_held D can.context can.before now s' end place w h in
    record { context = can.context; view = w.garbage.view; at = w.garbage.at; held = subst (λ (ps : List ℕ). In place ps) (sym w.garbage.places_are) i }

pub walk_can : (D : Type 0) (types : List Declaration) (s s' : CountedSpace) (old now : finite.FinMap nat_cmp D) (end place from : ℕ) → Walks types s old s' now end place → place < end → 16 ≤ end
    → from ≡ place + block_of (counting_size_at s'.memory place) → CanFreeUnmarked D types s old → CanWalk s' from
walk_can D types s s' old now end place from walks h some e can =
    let w = walks can.context can.before can.places can.typed can.garbage in
    let i = walk_held D can.context can.before now s' end place w h in
    let held = subst (λ (ps : List ℕ). In place ps) (sym w.garbage.places_are) i in
    let block = block_fits D can.context can.before now w.places s' place w.garbage i in
    let end_is = w.end_is in
    record {
      context = can.context;
      view = w.garbage.view;
      at = w.garbage.at;
      border = inr (place, (held, e ∙ ap (λ (n : ℕ). place + n) block));
      some = omega arith;
    }

pub walk_can_sweep : (D : Type 0) (types : List Declaration) (s s' : CountedSpace) (old now : finite.FinMap nat_cmp D) (end place : ℕ) → Walks types s old s' now end place → place < end → CanFreeUnmarked D types s old
    → CanSweepGarbage D types s' now place
walk_can_sweep D types s s' old now end place walks h can =
    let w = walks can.context can.before can.places can.typed can.garbage in
    record {
      context = can.context;
      before = can.before;
      places = w.places;
      typed = can.typed;
      garbage = w.garbage;
      held = walk_held D can.context can.before now s' end place w h;
    }

-- the end of the walk stays
end_stays : (D : Type 0) (c : Context) (before old now : finite.FinMap nat_cmp D) (places left : List ℕ) (s s' : CountedSpace) → Garbage D c before places s old → Garbage D c before left s' now → walk_end s' ≡ walk_end s
end_stays D c before old now places left s s' q q' = ap (λ (n : ℕ). n / 16 * 16) (q'.at.intact.same_length ∙ sym q.at.intact.same_length)

pub walk_on : (D : Type 0) (types : List Declaration) (s s1 s2 : CountedSpace) (old mid now : finite.FinMap nat_cmp D) (end place from next : ℕ) → Walks types s old s1 mid end place → place < end
    → from ≡ place + block_of (counting_size_at s1.memory place)
    → ((c : Context) (v : View) → At c v s1 → IsBorder v from → IsNext v.places (walk_end s1) from next)
    → ((c : Context) (before : finite.FinMap nat_cmp D) (places : List ℕ) → c.types ≡ types → In place places → Garbage D c before places s1 mid → SweepsGarbage D c before places place s2 now)
    → Walks types s old s2 now end next
walk_on D types s s1 s2 old mid now end place from next walks h e next_is sweeps c before places typed q0 =
    let w = walks c before places typed q0 in
    let i = walk_held D c before mid s1 end place w h in
    let q = w.garbage in
    let held = subst (λ (ps : List ℕ). In place ps) (sym q.places_are) i in
    let block = block_fits D c before mid w.places s1 place q i in
    let from_is : from ≡ place + block_of (q.view.sizes place) = e ∙ ap (λ (n : ℕ). place + n) block in
    let n = next_is c q.view q.at (inr (place, (held, from_is))) in
    let swept = sweeps c before w.places typed i q in
    let end_is = w.end_is in
    let apart = blocks_apart q.view s1 q.at.holds in
    let l = spread-lies q.view.sizes 16 (places_end s1.free.space.capacity) place q.view.places apart held in
    let some = l.some in
    let from_on = n.from_on in
    let new_end = end_stays D c before mid now w.places swept.left s1 s2 q swept.garbage in
    record {
      places = swept.left;
      garbage = swept.garbage;
      is_at = elim n.is [
        | inl is_end ↦ inl (is_end ∙ end_is)
        | inr j ↦ inr (swept.others next (subst (λ (ps : List ℕ). In next ps) q.places_are j) (λ (is_place : next ≡ place). absurd (omega arith)))
      ];
      walked = λ p j before_next.
          let was = swept.part p j in
          let held_p = subst (λ (ps : List ℕ). In p ps) (sym q.places_are) was in
          elim (cases_eq p place) [
            | inl is_place ↦ subst (λ (z : ℕ). CountingReached c.graph z) (sym is_place) (swept.itself (subst (λ (z : ℕ). In z swept.left) is_place j))
            | inr ne ↦ elim (cases_lt p place) [
              | inl low ↦ w.walked p was low
              | inr high ↦ (
                  let behind = spread-apart q.view.sizes 16 (places_end s1.free.space.capacity) place p q.view.places apart held held_p (omega arith) in
                  elim (n.skips p held_p) [ inl under ↦ absurd (omega arith) | inr over ↦ absurd (omega arith) ])
            ]
          ];
      end_is = new_end ∙ end_is;
    }

pub walk_ends : (D : Type 0) (types : List Declaration) (s s' : CountedSpace) (old now : finite.FinMap nat_cmp D) (end place : ℕ) → Walks types s old s' now end place → end ≤ place
    → (c : Context) (before : finite.FinMap nat_cmp D) (places : List ℕ) → c.types ≡ types → Garbage D c before places s old → FreedUnmarked D c before s' now
walk_ends D types s s' old now end place walks h c before places typed q0 =
    let w = walks c before places typed q0 in
    record {
      places = w.places;
      garbage = w.garbage;
      all_reached = λ p i.
          let held = subst (λ (ps : List ℕ). In p ps) (sym w.garbage.places_are) i in
          let at = w.garbage.at in
          let l = spread-lies w.garbage.view.sizes 16 (places_end s'.free.space.capacity) p w.garbage.view.places (blocks_apart w.garbage.view s' at.holds) held in
          let to = l.to in
          let some = l.some in
          let end_is' = end_is w.garbage.view s' at.holds in
          let end_w = w.end_is in
          w.walked p i (omega arith);
    }

pub walk_nothing : (D : Type 0) (types : List Declaration) (s : CountedSpace) (now : finite.FinMap nat_cmp D) (end : ℕ) → end ≡ walk_end s → end < 16
    → (c : Context) (before : finite.FinMap nat_cmp D) (places : List ℕ) → c.types ≡ types → Garbage D c before places s now → FreedUnmarked D c before s now
walk_nothing D types s now end is h c before places typed q = record {
  places = places;
  garbage = q;
  all_reached = λ p i.
      let held = subst (λ (ps : List ℕ). In p ps) (sym q.places_are) i in
      let l = spread-lies q.view.sizes 16 (places_end s.free.space.capacity) p q.view.places (blocks_apart q.view s q.at.holds) held in
      let from = l.from in
      let to = l.to in
      let some = l.some in
      let end_is' = end_is q.view s q.at.holds in
      absurd (omega arith);
}

pub first_walk : (D : Type 0) (types : List Declaration) (s : CountedSpace) (now : finite.FinMap nat_cmp D) (end : ℕ) → end ≡ walk_end s → 16 ≤ end → CanFreeUnmarked D types s now → CanWalk s 16
first_walk D types s now end is some can = record { context = can.context; view = can.garbage.view; at = can.garbage.at; border = inl refl; some = omega arith }

-- each step of the walk goes on
pub walk_less : (D : Type 0) (types : List Declaration) (s s1 : CountedSpace) (old mid : finite.FinMap nat_cmp D) (end place from next : ℕ) → Walks types s old s1 mid end place → place < end
    → from ≡ place + block_of (counting_size_at s1.memory place)
    → ((c : Context) (v : View) → At c v s1 → IsBorder v from → IsNext v.places (walk_end s1) from next)
    → CanFreeUnmarked D types s old → end - next < end - place
walk_less D types s s1 old mid end place from next walks h e next_is can =
    let w = walks can.context can.before can.places can.typed can.garbage in
    let i = walk_held D can.context can.before mid s1 end place w h in
    let q = w.garbage in
    let held = subst (λ (ps : List ℕ). In place ps) (sym q.places_are) i in
    let block = block_fits D can.context can.before mid w.places s1 place q i in
    let from_is : from ≡ place + block_of (q.view.sizes place) = e ∙ ap (λ (n : ℕ). place + n) block in
    let n = next_is can.context q.view q.at (inr (place, (held, from_is))) in
    let l = spread-lies q.view.sizes 16 (places_end s1.free.space.capacity) place q.view.places (blocks_apart q.view s1 q.at.holds) held in
    let some = l.some in
    let from_on = n.from_on in
    omega arith
