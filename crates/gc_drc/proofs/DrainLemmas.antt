-- The cascade in memory.
use Rattle.std.proofs.Common.{◌≡◌, ℕ, suc, ◌+◌, ◌*◌, ◌/◌, ◌%◌, ◌<◌, ◌≤◌, Bool, true, false, List, [], ◌∷◌, length, refl, sym, ap, subst, ◌∙◌, inl, inr, arith}
use Rattle.std.proofs.Math.Nat.{mul-suc, suc-mul}
use Rattle.std.proofs.lemmas.Bool.{cases_eq}
use Rattle.std.specs.FinMap as finite
use Rattle.std.specs.Ordering.{nat_cmp}
use Rattle.gc_types.specs.Declarations.{Declaration}
use Rattle.gc_types.specs.declared.kind.VMGcKind.TheVariants.{ExternRef}
use Rattle.gc_memory.specs.Words.{word, word64}
use Rattle.gc_memory.specs.Lists.{In, here, there, occ, sum_over}
use Rattle.gc_memory.proofs.ListLemmas.{In-occ, occ-In, occ-same, sum_over-same}
use Rattle.gc_drc.specs.declared.space.CountedSpace.{CountedSpace}
use Rattle.gc_drc.specs.Layout.{counting_kind_at}
use Rattle.gc_drc.specs.View.{View, count_of}
use Rattle.gc_drc.specs.Content.{places_of}
use Rattle.gc_drc.specs.SpaceLaws.{places_are}
use Rattle.gc_drc.specs.CollectOps.{same, without_one, uncounted_or_queued, unqueued, freed}
use Rattle.gc_drc.specs.CollectStates.{Draining}
use Rattle.gc_drc.specs.CollectMemory.{Context, IsContext, IsCountingWord, Intact, At, CanLowerAt, CanFreeQueued, CanLeave}
use Rattle.gc_refs.specs.Header.{IsOfKind}
use Rattle.gc_drc.specs.CollectVisits.{CanVisitObject}
use Rattle.gc_drc.proofs.RewriteLemmas.{kind_at_same}
use Rattle.gc_drc.specs.CollectHosts.{FreesHostOf, HostsLeft}
use Rattle.gc_drc.specs.CollectDrain.{IsCountingPlace, Lowering, Drain, CanDrain, drain_left}
use Rattle.gc_drc.proofs.OccLemmas.{same-is, same-not, occ-without, occ-cases}
use Rattle.gc_drc.proofs.SweepLemmas.{drain_leaves, drain_frees, drain_can_lower, drain_lowers, drain_skips}
use Rattle.gc_drc.proofs.LinkLemmas.{linked_begins}
use Rattle.gc_drc.proofs.ReleaseLemmas.{places_once, length_without}
use Rattle.gc_drc.proofs.MarkLemmas.{flags_in, count_in}
use Rattle.gc_drc.proofs.VisitLemmas.{kind_part_same, object_room}
use Rattle.gc_drc.proofs.HostLemmas.{hosts_after}

-- a test doesn't answer both
pub not_both : (b : Bool) → b ≡ false → b ≡ true → ⊥
not_both true e f = absurd (cc)
not_both false e f = absurd (cc)

-- WORDS

pub place_in : (c : Context) (w : ℕ) → IsCountingWord c w → IsCountingPlace w → In w c.graph.places
place_in c w (inl e) is = absurd (let h = is.not_null in omega arith)
place_in c w (inr (inl e)) is = absurd (let h = is.even in omega arith)
place_in c w (inr (inr i)) is = i

-- a word that is no place counts nowhere
pub no_place : (c : Context) (w : ℕ) → IsContext c → (IsCountingPlace w → ⊥) → occ w c.graph.places ≡ 0
no_place c w start isnt = elim (occ-cases w c.graph.places) [
  | inl none ↦ none
  | inr some ↦
      let l = start.lies w (occ-In w c.graph.places some) in
      let aligned = l.aligned in
      elim (isnt (record { not_null = l.not_null; even = omega arith })) [ ]
]

-- LOWERING

pub lowering_can : (c : Context) (places : List ℕ) (s : CountedSpace) (w : ℕ) (rest : List ℕ) → Lowering c places s (w ∷ rest) → IsCountingPlace w → CanLowerAt s w
lowering_can c places s w rest l is =
    let can = drain_can_lower c.graph l.view w rest l.draining (In-occ w c.graph.places (place_in c w (l.known w here) is)) in
    record { context = c; view = l.view; at = l.at; held = occ-In w l.view.places can.held; named = can.named }

pub lowering_lowers : (c : Context) (places : List ℕ) (s s' : CountedSpace) (w : ℕ) (rest : List ℕ) → Lowering c places s (w ∷ rest) → IsCountingPlace w
    → ((o : Context) (v : View) → At o v s → In w v.places → 0 < v.counted w → At o (uncounted_or_queued v w) s') → Lowering c places s' rest
lowering_lowers c places s s' w rest l is takes =
    let place = In-occ w c.graph.places (place_in c w (l.known w here) is) in
    let can = drain_can_lower c.graph l.view w rest l.draining place in
    record {
      view = uncounted_or_queued l.view w;
      at = takes c l.view l.at (occ-In w l.view.places can.held) can.named;
      draining = drain_lowers c.graph l.view w rest l.draining place;
      places_are = l.places_are;
      known = λ q i. l.known q (there i);
    }

pub lowering_skips : (c : Context) (places : List ℕ) (s : CountedSpace) (w : ℕ) (rest : List ℕ) → Lowering c places s (w ∷ rest) → (IsCountingPlace w → ⊥) → Lowering c places s rest
lowering_skips c places s w rest l isnt = record {
  view = l.view;
  at = l.at;
  draining = drain_skips c.graph l.view w rest l.draining (no_place c w l.at.start isnt);
  places_are = l.places_are;
  known = λ q i. l.known q (there i);
}

-- THE FIRST OF THE QUEUE

pub record First (c : Context) (v : View) (s : CountedSpace) (x : ℕ) : Type 0 where
  pub rest : List ℕ
  pub is : v.queue ≡ x ∷ rest
  pub queued : 0 < occ x v.queue
  pub held : In x v.places
  pub place_in : In x c.graph.places

pub first_queued : (c : Context) (v : View) (s : CountedSpace) → At c v s → 0 < s.queued → First c v s s.queued
first_queued c v s at some =
    let b = linked_begins s.memory 24 s.queued v.queue at.holds.queue_linked (λ (e : s.queued ≡ 0). absurd (omega arith)) in
    let times : occ s.queued v.queue ≡ occ s.queued (s.queued ∷ b.rest) = ap (λ (xs : List ℕ). occ s.queued xs) b.is in
    let one = occ-same s.queued b.rest in
    let queued : 0 < occ s.queued v.queue = omega arith in
    let held = at.holds.queue_part.inside s.queued (occ-In s.queued v.queue queued) in
    record { rest = b.rest; is = b.is; queued = queued; held = held; place_in = at.from s.queued held }

pub first_room : (D : Type 0) (types : List Declaration) (s : CountedSpace) (now : finite.FinMap nat_cmp D) → CanDrain D types s now → 0 < s.queued → s.queued + 28 ≤ length s.memory
first_room D types s now can some =
    let d = can.drain in
    let f = first_queued can.context d.view s d.at some in
    (object_room can.context s.memory s.queued d.at.start d.at.intact f.place_in).0

-- the count word of the first
pub first_count : (c : Context) (v : View) (s : CountedSpace) (n : ℕ) → At c v s → 0 < s.queued → n ≡ word64 s.memory (s.queued + 8) → n ≡ count_of v s.queued
first_count c v s n at some read = let f = first_queued c v s at some in read ∙ count_in c v s s.queued at f.held

pub first_more : (c : Context) (v : View) (s : CountedSpace) (n : ℕ) → At c v s → 0 < s.queued → n ≡ word64 s.memory (s.queued + 8) → (n ≡ 1 → ⊥) → 1 < count_of v s.queued
first_more c v s n at some read isnt =
    let f = first_queued c v s at some in
    let e = first_count c v s n at some read in
    let positive = (at.holds.objects s.queued f.held).positive in
    elim (cases_eq n 1) [ inl one ↦ elim (isnt one) [ ] | inr ne ↦ omega arith ]

-- what is freed, and what it names
pub freed_lowering : (D : Type 0) (c : Context) (before old new : finite.FinMap nat_cmp D) (s s1 : CountedSpace) (x : ℕ) (v : View) → At c v s → Draining c.graph v [] → HostsLeft D c v.places before old
    → First c v s x → count_of v x ≡ 1 → FreesHostOf D s.memory old new x
    → ((o : Context) (w : View) (rest : List ℕ) → At o w s → w.queue ≡ x ∷ rest → count_of w x ≡ 1 → occ x w.marked ≡ 0 → At o (freed (unqueued w x) x) s1)
    → Lowering c (without_one x v.places) s1 (c.graph.words x) × HostsLeft D c (without_one x v.places) before new
freed_lowering D c before old new s s1 x v at draining hosts f alone frees_host frees = (
  record {
    view = freed (unqueued v x) x;
    at = frees c v f.rest at f.is alone (draining.none_marked x);
    draining = drain_frees c.graph v x draining f.queued alone;
    places_are = refl;
    known = λ q i. at.start.fields x q f.place_in i;
  },
  hosts_after D c s.memory v.places before old new x (draining.is_view.once x) (In-occ x v.places f.held) f.place_in at.start at.intact hosts frees_host,
)

pub lowered_drain : (D : Type 0) (c : Context) (before now : finite.FinMap nat_cmp D) (places : List ℕ) (s : CountedSpace) → Lowering c places s [] → HostsLeft D c places before now → Drain D c before s now
lowered_drain D c before now places s l hosts = record {
  view = l.view;
  at = l.at;
  draining = l.draining;
  hosts = subst (λ (ps : List ℕ). HostsLeft D c ps before now) (sym l.places_are) hosts;
}

pub left_drain : (D : Type 0) (c : Context) (before now : finite.FinMap nat_cmp D) (s s' : CountedSpace) (n : ℕ) → 0 < s.queued → n ≡ word64 s.memory (s.queued + 8) → (n ≡ 1 → ⊥) → Drain D c before s now
    → ((o : Context) (w : View) (rest : List ℕ) → At o w s → w.queue ≡ s.queued ∷ rest → 1 < count_of w s.queued → At o (unqueued w s.queued) s') → Drain D c before s' now
left_drain D c before now s s' n some read isnt d leaves =
    let f = first_queued c d.view s d.at some in
    let more = first_more c d.view s n d.at some read isnt in
    record {
      view = unqueued d.view s.queued;
      at = leaves c d.view f.rest d.at f.is more;
      draining = drain_leaves c.graph d.view s.queued d.draining f.queued more;
      hosts = d.hosts;
    }

-- THE MEASURE

-- how many are queued
sum_queue : (queue : List ℕ) (ps : List ℕ) → ((p : ℕ) → occ p queue ≤ 1) → sum_over (λ p. occ p queue) ps ≤ length ps
sum_queue queue [] once = omega arith
sum_queue queue (p ∷ ps) once = let o = once p in omega (arith, sum_queue queue ps once)

sum_without_none : (x : ℕ) (queue ps : List ℕ) → 0 < occ x queue → occ x ps ≡ 0 → sum_over (λ p. occ p (without_one x queue)) ps ≡ sum_over (λ p. occ p queue) ps
sum_without_none x queue [] h none = refl
sum_without_none x queue (p ∷ ps) h none = elim (cases_eq x p) [
  | inl e ↦ absurd (let one : same x p ≡ 1 = same-is x p e in omega arith)
  | inr ne ↦
      let w = occ-without x p queue h in
      let other : same p x ≡ 0 = same-not p x (λ (e : p ≡ x). ne (sym e)) in
      let rest = sum_without_none x queue ps h (omega arith) in
      omega arith
]

sum_without : (x : ℕ) (queue ps : List ℕ) → 0 < occ x queue → occ x ps ≡ 1 → sum_over (λ p. occ p (without_one x queue)) ps + 1 ≡ sum_over (λ p. occ p queue) ps
sum_without x queue [] h one = absurd (omega arith)
sum_without x queue (p ∷ ps) h one = elim (cases_eq x p) [
  | inl e ↦
      let w = occ-without x p queue h in
      let is : same p x ≡ 1 = same-is p x (sym e) in
      let is' : same x p ≡ 1 = same-is x p e in
      let rest = sum_without_none x queue ps h (omega arith) in
      omega arith
  | inr ne ↦
      let w = occ-without x p queue h in
      let other : same p x ≡ 0 = same-not p x (λ (e : p ≡ x). ne (sym e)) in
      let other' : same x p ≡ 0 = same-not x p ne in
      let rest = sum_without x queue ps h (omega arith) in
      omega arith
]

-- what is left to do, by the view
left_is : (c : Context) (v : View) (s : CountedSpace) → At c v s → drain_left s ≡ length v.places * length v.places + sum_over (λ p. occ p v.queue) v.places
left_is c v s at =
    let h = at.holds in
    let bits : sum_over (λ p. word s.memory p / 4 % 2) v.places ≡ sum_over (λ p. occ p v.queue) v.places =
    sum_over-same (λ p. occ p v.queue) (λ p. word s.memory p / 4 % 2) v.places (λ p i.
    let flags = flags_in c v s p at i in
    let once = h.queue_part.once p in
    let once_shown = h.shown_part.once p in
    let once_marked = h.marked_part.once p in
    omega arith) in
    ap (λ (n : ℕ). n * n + sum_over (λ p. word s.memory p / 4 % 2) (places_of s.free.space.held)) h.count
    ∙ ap (λ (ps : List ℕ). length v.places * length v.places + sum_over (λ p. word s.memory p / 4 % 2) ps) (places_are v s h)
    ∙ ap (λ (n : ℕ). length v.places * length v.places + n) bits

square_less : (k q q' : ℕ) → q' ≤ k → k * k + q' < suc k * suc k + q
square_less k q q' h =
    let a : suc k * suc k ≡ suc k * k + suc k = mul-suc (suc k) k in
    let b : suc k * k ≡ k * k + k = suc-mul k k in
    omega arith

-- an object was freed
pub less_freed : (c : Context) (v v' : View) (s s' : CountedSpace) (x : ℕ) → At c v s → At c v' s' → In x v.places → v'.places ≡ without_one x v.places → drain_left s' < drain_left s
less_freed c v v' s s' x at at' i is =
    let len = length_without x v.places (In-occ x v.places i) in
    let len' : length v'.places ≡ length (without_one x v.places) = ap (λ (ps : List ℕ). length ps) is in
    let k = length v'.places in
    let more : length v.places ≡ suc k = omega arith in
    let few = sum_queue v'.queue v'.places at'.holds.queue_part.once in
    let less = square_less k (sum_over (λ p. occ p v.queue) v.places) (sum_over (λ p. occ p v'.queue) v'.places) few in
    let squares : length v.places * length v.places ≡ suc k * suc k = ap (λ (n : ℕ). n * n) more in
    omega (arith, left_is c v s at, left_is c v' s' at', squares, less)

-- an object left the queue
pub less_left : (c : Context) (v : View) (s s' : CountedSpace) (x : ℕ) → At c v s → At c (unqueued v x) s' → 0 < occ x v.queue → In x v.places → drain_left s' < drain_left s
less_left c v s s' x at at' queued i =
    let once = places_once v s at.holds x in
    let some = In-occ x v.places i in
    let fewer = sum_without x v.queue v.places queued (omega arith) in
    omega (arith, left_is c v s at, left_is c (unqueued v x) s' at', fewer)

-- STEPS

-- an object was freed, and what it names was lowered
pub free_steps : (D : Type 0) (c : Context) (types : List Declaration) (before old new : finite.FinMap nat_cmp D) (s s1 s2 : CountedSpace) (n : ℕ) → 0 < s.queued → n ≡ word64 s.memory (s.queued + 8) → n ≡ 1
    → FreesHostOf D s.memory old new s.queued
    → ((o : Context) (w : View) (rest : List ℕ) → At o w s → w.queue ≡ s.queued ∷ rest → count_of w s.queued ≡ 1 → occ s.queued w.marked ≡ 0 → At o (freed (unqueued w s.queued) s.queued) s1)
    → ((o : Context) (places : List ℕ) → o.types ≡ types → In s.queued o.graph.places → Lowering o places s1 (o.graph.words s.queued) → Lowering o places s2 [])
    → c.types ≡ types → Drain D c before s old → Drain D c before s2 new × (drain_left s2 < drain_left s)
free_steps D c types before old new s s1 s2 n some read one frees_host frees visits typed d =
    let f = first_queued c d.view s d.at some in
    let alone : count_of d.view s.queued ≡ 1 = sym (first_count c d.view s n d.at some read) ∙ one in
    let first = freed_lowering D c before old new s s1 s.queued d.view d.at d.draining d.hosts f alone frees_host frees in
    let l = visits c (without_one s.queued d.view.places) typed f.place_in first.0 in
    (lowered_drain D c before new (without_one s.queued d.view.places) s2 l first.1, less_freed c d.view l.view s s2 s.queued d.at l.at f.held l.places_are)

-- the words that it names may be lowered
pub free_can_visit : (D : Type 0) (types : List Declaration) (old new : finite.FinMap nat_cmp D) (s s1 : CountedSpace) (n : ℕ) → 0 < s.queued → n ≡ word64 s.memory (s.queued + 8) → n ≡ 1
    → FreesHostOf D s.memory old new s.queued
    → ((o : Context) (w : View) (rest : List ℕ) → At o w s → w.queue ≡ s.queued ∷ rest → count_of w s.queued ≡ 1 → occ s.queued w.marked ≡ 0 → At o (freed (unqueued w s.queued) s.queued) s1)
    → CanDrain D types s old → CanVisitObject (λ o places words. Lowering o places s1 words) types s.queued
free_can_visit D types old new s s1 n some read one frees_host frees can =
    let c = can.context in
    let d = can.drain in
    let f = first_queued c d.view s d.at some in
    let alone : count_of d.view s.queued ≡ 1 = sym (first_count c d.view s n d.at some read) ∙ one in
    record {
      context = c;
      places = without_one s.queued d.view.places;
      typed = can.typed;
      place_in = f.place_in;
      is = (freed_lowering D c can.before old new s s1 s.queued d.view d.at d.draining d.hosts f alone frees_host frees).0;
    }

-- what is asked of the first of the queue
pub first_kind : (D : Type 0) (types : List Declaration) (s : CountedSpace) (now : finite.FinMap nat_cmp D) → CanDrain D types s now → 0 < s.queued → IsOfKind (counting_kind_at s.memory s.queued) (word s.memory s.queued)
first_kind D types s now can some =
    let d = can.drain in
    let f = first_queued can.context d.view s d.at some in
    kind_part_same can.context s.memory s.queued d.at.start d.at.intact f.place_in

pub external_room : (c : Context) (m : List ℕ) (x : ℕ) → IsContext c → Intact c m → In x c.graph.places → counting_kind_at m x ≡ ExternRef → x + 32 ≤ length m
external_room c m x start intact i is =
    let o = intact.objects x i in
    let kind : counting_kind_at c.memory x ≡ ExternRef = sym (kind_at_same c.memory m x o.kind) ∙ is in
    let size = (start.externals x i kind).size in
    let inside = (start.lies x i).inside in
    let len = intact.same_length in
    omega arith

pub first_external : (D : Type 0) (types : List Declaration) (s : CountedSpace) (now : finite.FinMap nat_cmp D) → CanDrain D types s now → 0 < s.queued → counting_kind_at s.memory s.queued ≡ ExternRef → s.queued + 32 ≤ length s.memory
first_external D types s now can some is =
    let d = can.drain in
    let f = first_queued can.context d.view s d.at some in
    external_room can.context s.memory s.queued d.at.start d.at.intact f.place_in is

pub first_can_free : (D : Type 0) (types : List Declaration) (s : CountedSpace) (now : finite.FinMap nat_cmp D) → CanDrain D types s now → 0 < s.queued → CanFreeQueued s s.queued
first_can_free D types s now can some =
    let d = can.drain in
    record { context = can.context; view = d.view; at = d.at; queued = (first_queued can.context d.view s d.at some).queued }

pub first_can_leave : (D : Type 0) (types : List Declaration) (s : CountedSpace) (now : finite.FinMap nat_cmp D) (n : ℕ) → CanDrain D types s now → 0 < s.queued → n ≡ word64 s.memory (s.queued + 8) → (n ≡ 1 → ⊥) → CanLeave s s.queued
first_can_leave D types s now n can some read isnt =
    let d = can.drain in
    record {
      context = can.context;
      view = d.view;
      at = d.at;
      queued = (first_queued can.context d.view s d.at some).queued;
      more = first_more can.context d.view s n d.at some read isnt;
    }

pub leave_less : (D : Type 0) (types : List Declaration) (s s' : CountedSpace) (now : finite.FinMap nat_cmp D) (n : ℕ) → CanDrain D types s now → 0 < s.queued → n ≡ word64 s.memory (s.queued + 8) → (n ≡ 1 → ⊥)
    → ((o : Context) (w : View) (rest : List ℕ) → At o w s → w.queue ≡ s.queued ∷ rest → 1 < count_of w s.queued → At o (unqueued w s.queued) s') → drain_left s' < drain_left s
leave_less D types s s' now n can some read isnt leaves =
    let c = can.context in
    let d = can.drain in
    let f = first_queued c d.view s d.at some in
    let more = first_more c d.view s n d.at some read isnt in
    less_left c d.view s s' s.queued d.at (leaves c d.view f.rest d.at f.is more) f.queued f.held

-- THE LOOP

-- a drain that began there has come to here
abbrev pub Drains : {D : Type 0} → List Declaration → CountedSpace → finite.FinMap nat_cmp D → CountedSpace → finite.FinMap nat_cmp D → Type 0
Drains {D} types s old s' now = (c : Context) (before : finite.FinMap nat_cmp D) → c.types ≡ types → Drain D c before s old → Drain D c before s' now

pub drains_can : (D : Type 0) (types : List Declaration) (s s' : CountedSpace) (old now : finite.FinMap nat_cmp D) → Drains types s old s' now → CanDrain D types s old → CanDrain D types s' now
drains_can D types s s' old now drains can = record { context = can.context; before = can.before; typed = can.typed; drain = drains can.context can.before can.typed can.drain }
