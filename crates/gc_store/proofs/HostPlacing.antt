-- A host object that was made is the table's, with its value.
use Rattle.std.proofs.Common.{◌≡◌, ℕ, ◌+◌, ◌-◌, ◌^◌, ◌<◌, inl, inr, min, Bool, true, false, Ok, Err, Result, length, refl, sym, ap, ◌∙◌, subst, arith, le-ltb, ◌≤◌, ◌∷◌, []}
use Rattle.std.specs.FinMap.{FinMap, get, len}
use Rattle.std.specs.Ordering.{nat_cmp}
use Rattle.std.proofs.lemmas.Nat.{from_le_bytes-to_le_bytes_4}
use Rattle.std.proofs.lemmas.List.{length-append}
use Rattle.std.proofs.lemmas.Option.{none-some, slice_get_within}
use Rattle.gc_types.specs.declared.kind.Layouts.{Layouts}
use Rattle.gc_types.specs.declared.kind.Layouts.TheVariants.{Null, Counting, Copying}
use Rattle.gc_types.specs.Layouts.{round_up}
use Rattle.gc_view.specs.Sizes.{alignment, external_size, too_large}
use Rattle.gc_view.specs.Heaps.{HeapView}
use Rattle.gc_view.proofs.Content.{get-put_other}
use Rattle.gc_view.proofs.Layouts.{round_up-le}
use Rattle.gc_tables.specs.SideTables.{max_entries}
use Rattle.gc_model.specs.Values.{host}
use Rattle.gc_model.specs.Table.{Table, make, with_pages}
use Rattle.gc_model.specs.Live.{roots_full}
use Rattle.gc_model.specs.Allocation.{Limits}
use Rattle.gc_model.specs.Stores.{StoreView}
use Rattle.gc_model.specs.Forms.{naming}
use Rattle.gc_model.proofs.HoldsMake.{IsMadeObject, holds_make_host, placed_at}
use Rattle.gc_heap.specs.Content.{IsHeap}
use Rattle.gc_heap.specs.Heap.{allocated_after}
use Rattle.gc_heap.specs.Objects.{external}
use Rattle.gc_heap.proofs.NumberLemmas.{held_added}
use Rattle.gc_owner.specs.RootColumns.{with_scoped}
use Rattle.gc_owner.specs.declared.host.HostFault.TheVariants as owner_fault
use Rattle.gc_owner.specs.Owners.{OwnerView, CanBegin}
use Rattle.gc_owner.specs.Growing.{OwnerState, state_of, owner_rules}
use Rattle.gc_owner.specs.Retry.{Paused, at_first}
use Rattle.gc_owner.specs.HostValues.{with_host}
use Rattle.gc_owner.specs.HostValues.{PlacesExternal as OwnerPlaces}
use Rattle.gc_model.specs.Accounts.{Account, HoldsAccount, is_due, with_held}
use Rattle.gc_model.specs.HostMaking.{MadeHost}
use Rattle.gc_model.specs.Policy.{policy_state}
use Rattle.gc_model.specs.Shown.{shown, DuesOwner}
use Rattle.gc_model.proofs.CountedTries.{counted_store}
use Rattle.gc_model.proofs.HeldHosts.{part_len}
use Rattle.gc_model.proofs.HeapGaps.{told_more}
use Rattle.gc_model.proofs.HeldMore.{held_more}
use Rattle.gc_model.proofs.HostRetry.{taken_lacks, taken_pauses}
use Rattle.gc_store.specs.declared.hosts.PlaceHostFault.{PlaceHostFault}
use Rattle.gc_store.specs.declared.hosts.PlaceHostFault.TheVariants as fault
use Rattle.gc_values.specs.declared.root.GcRootIndex.{GcRootIndex}
use Rattle.gc_values.specs.declared.root.RootSlot.TheVariants as slot
use Rattle.gc_store.specs.HostPlaces.{PlacesHost}
use Rattle.gc_store.specs.HostSteps.{AllocatesRootedHost, MakesRootedHost}
use Rattle.gc_store.specs.Places.{HasIds}
use Rattle.gc_values.specs.Making.{BeginsMaking}
use Rattle.gc_values.proofs.Keeping.{counts_of, Keeps, keeps-trans, keeps-making, keeps-retried, keeps-paused, same_count}
use Rattle.gc_store.proofs.Preparing.{IsReadyStore, lacks_room, lacks_pages, wants_heap, wants_room, room_found}

-- a refusal of the owner, which handed the value back
pub allocates_lacking : {D : Type 0} (layouts : Layouts) (value : D) (s e : OwnerState D) → IsHeap layouts s.owner.heap → CanBegin layouts s.owner → (back : D) (need : ℕ) → OwnerPlaces layouts value s e (Err (owner_fault.HeapOutOfMemory back need))
    → AllocatesRootedHost layouts value s e (Err (fault.HeapOutOfMemory (record { inner = back; bytes_needed = need })))
allocates_lacking layouts value s e heap can back need is = (is.0, taken_lacks layouts value s heap can e need is.1)

-- and its want of memory
pub allocates_wanting : {D : Type 0} (layouts : Layouts) (value : D) (s e : OwnerState D) → IsHeap layouts s.owner.heap → CanBegin layouts s.owner → (back : D) → OwnerPlaces layouts value s e (Err (owner_fault.Memory back)) → AllocatesRootedHost layouts value s e (Err fault.Memory)
allocates_wanting {D} layouts value s e heap can back (handed, inl same) = subst (λ (x : OwnerState D). Paused (owner_rules layouts (external_size layouts)) s x) (sym same) at_first
allocates_wanting layouts value s e heap can back (handed, inr taken) = taken_pauses layouts value s heap can e taken

-- what allocating it answered, as what the whole does
pub begun_answers : {D : Type 0} (layouts : Layouts) (value : D) (first : ℕ) (due : Bool) (s b e : OwnerState D) (r : Result ℕ (PlaceHostFault D)) → BeginsMaking layouts first due s b → AllocatesRootedHost layouts value b e r → MakesRootedHost layouts value first due s e r
begun_answers layouts value first due s b e (Ok index) begins made = (b, (begins, made))
begun_answers layouts value first due s b e (Err fault.RootsFull) begins made = made
begun_answers layouts value first due s b e (Err (fault.HeapOutOfMemory f)) begins made = (made.0, inr (b, (begins, made.1)))
begun_answers layouts value first due s b e (Err fault.Memory) begins made = inr (b, (begins, made))

-- no host value is put in before an allocation
pub few_begun : {D : Type 0} (layouts : Layouts) (first : ℕ) (due : Bool) (s b : OwnerState D) → BeginsMaking layouts first due s b → len s.owner.hosts < max_entries → len b.owner.hosts < max_entries
few_begun {D} layouts first due s b begins few = by begins.dues
  where
    same : begins.made.owner.hosts ≡ s.owner.hosts
    same = ap (λ (x : OwnerView D). x.hosts) begins.begins.rest

    by : DuesOwner layouts due begins.made b → len b.owner.hosts < max_entries
    by (inl ran) =
        let trimmed : ran.1.0.trimmed.hosts ≡ begins.made.owner.hosts = ap (λ (x : OwnerView D). x.hosts) ran.1.0.trims.changes.rest in
        let fewer = part_len b.owner.hosts ran.1.0.trimmed.hosts ran.1.0.runs.values in
        omega (arith, fewer, few, ap (λ (m : FinMap nat_cmp D). len m) (trimmed ∙ same))
    by (inr is) = omega (arith, few, ap (λ (m : FinMap nat_cmp D). len m) same, ap (λ (x : OwnerState D). len x.owner.hosts) is.1)

-- no external object is too large
pub host_small : (layouts : Layouts) → too_large layouts (external_size layouts) ≡ false
host_small Null = refl
host_small Counting = refl
host_small Copying = refl

-- after an allocation the null heap goes on behind the object
next_behind : (layouts : Layouts) (allocated after size : ℕ) → after ≡ allocated_after layouts allocated size → layouts ≡ Null → after + 1 ≡ round_up (allocated + 1) alignment + size
next_behind Null allocated after size is null = omega (arith, is, round_up-le (allocated + 1) alignment (omega arith))
next_behind Counting allocated after size is null = absurd (cc)
next_behind Copying allocated after size is null = absurd (cc)

module _ {D : Type 0} (layouts : Layouts) (s : StoreView D) (value : D) (b e : OwnerState D) (index : ℕ) (made : MadeHost layouts value b e index) (t : Table D) (full : roots_full t ≡ false) (pages : ℕ) (account : Account) (after : HoldsAccount layouts (shown s made.mid.owner) (with_pages pages t) account) where
  abbrev word : ℕ
  word = made.adds.word

  abbrev old : HeapView
  old = made.mid.owner.heap

  -- the object that was made stands for the table's
  made_object : IsMadeObject layouts (with_pages pages t) (naming after.place s.ids) (host value) old e.owner.heap word
  made_object =
      let added = made.adds.adds.added in
      record {
        object = external made.id;
        stands = (made.id, record { kind = refl; id_is = from_le_bytes-to_le_bytes_4 (made.id + 1) made.small });
        typed = λ i v is. absurd (none-some v is);
        free = made.adds.adds.fresh.free;
        is_even = let aligned = made.adds.adds.fresh.aligned in omega arith;
        not_null = made.adds.adds.fresh.not_null;
        here = held_added layouts old e.owner.heap word (external made.id) (external_size layouts) made.adds.adds;
        others = λ q other. ap (λ (h : HeapView). get h.content q) added ∙ get-put_other old.content word q (external made.id) other;
        attached = ap (λ (h : HeapView). h.attached) added;
        capacity = ap (λ (h : HeapView). h.capacity) added;
        allocated = λ null.
            next_behind layouts old.allocated e.owner.heap.allocated (external_size layouts) (ap (λ (h : HeapView). h.allocated) added) null
            ∙ ap (λ (k : Layouts). round_up (old.allocated + 1) alignment + external_size k) null;
      }

  owner_is : e.owner ≡ record (with_host made.id value made.mid.owner) { heap = e.owner.heap; roots = with_scoped word made.mid.owner.roots }
  owner_is = made.adds.rest

  -- the table with the object is held, with its root pushed
  pub host_holds : HoldsAccount layouts (shown s e.owner) (make (host value) (with_pages pages t)) (with_held layouts (length t.objects) word account)
  unfolding made_object
  host_holds =
      subst (λ (x : OwnerView D). HoldsAccount layouts (shown s x) (make (host value) (with_pages pages t)) (with_held layouts (length t.objects) word account)) (sym owner_is)
      (record {
        place = placed_at after.place (length t.objects) word;
        holds = holds_make_host layouts (shown s made.mid.owner) (with_pages pages t) after.place (host value) e.owner.heap word after.holds made_object value refl made.id
            (record { kind = refl; id_is = from_le_bytes-to_le_bytes_4 (made.id + 1) made.small }) made.fresh refl full;
        account = record {
          held = held_more after.place account.held (length t.objects) word (λ p w placed. let held = after.holds.objects.placed p w placed in slice_get_within t.objects p held.entry held.in_table) after.account.held;
          places = λ p. told_more layouts account.places after.place (length t.objects) word p (after.account.places p);
          last = after.account.last;
          tries = after.account.tries;
          upper = ap (λ (h : HeapView). h.needs_gc) made.adds.adds.added ∙ after.account.upper;
        };
      })

-- what a host object that was made or refused leaves: the answer, and a table that the store holds
pub record FollowsHost {D : Type 0} (layouts : Layouts) (s : StoreView D) (value : D) (t : Table D) (a : Account) (limits : Limits) (e : OwnerState D) (r : Result GcRootIndex (PlaceHostFault D)) : Type 0 where
  pub places : PlacesHost layouts s.alloc_counter value (policy_state t a limits) e.limits r (shown (counted_store s) e.owner)
  pub table : Table D
  pub account : Account
  pub holds : HoldsAccount layouts (shown (counted_store s) e.owner) table account

module _ {D : Type 0} (layouts : Layouts) (s : StoreView D) (v : OwnerView D) (value : D) (limits : Limits) (t : Table D) (a : Account) (is : IsReadyStore layouts s v t a) (due : Bool) (due_is : due ≡ is_due s.alloc_counter (min (s.tries + 1) (2 ^ 64 - 1)))
    (full : roots_full t ≡ false) (e : OwnerState D) where
  abbrev size : ℕ
  size = external_size layouts

  -- a host object has no function values and no continuations
  no_more_ids : HasIds (host value) t
  no_more_ids = record {
    functions = le-ltb max_entries (length t.interned.funcs) is.holds.holds.interned.funcs.few;
    conts = le-ltb max_entries (length t.interned.conts) is.holds.holds.interned.conts.few;
  }

  -- one that was made is in the table, under the handle of its root
  pub host_follows : (b : OwnerState D) (index : ℕ) → BeginsMaking layouts s.first due (state_of v limits) b → MadeHost layouts value b e index → (handle : GcRootIndex)
      → handle ≡ record { store_id = record { engine = s.engine; number = s.number }; generation = e.owner.roots.generation; slot = slot.Scoped index }
      → FollowsHost layouts s value t a limits e (Ok handle)
  host_follows b index begins made handle handle_is =
      let places = room_found layouts s v limits t a is due due_is (host value) size refl (host_small layouts) full no_more_ids b made.mid e index made.adds.word begins made.retried made.adds.adds.lies made.limits
      (λ pages account after. host_holds layouts (counted_store s) value b e index made t full pages account after)
      (ap (λ (x : OwnerView D). x.roots.generation) made.adds.rest) made.adds.index_is handle handle_is in
      record { places = places; table = _; account = _; holds = places.holds }

  pub host_fault_follows : (f : PlaceHostFault D) → MakesRootedHost layouts value s.first due (state_of v limits) e (Err f) → FollowsHost layouts s value t a limits e (Err f)
  host_fault_follows fault.RootsFull makes = absurd makes
  host_fault_follows (fault.HeapOutOfMemory f) (back, inl (no_pages, asked)) =
      let places = lacks_pages layouts s v limits t a is due due_is (host value) size refl (host_small layouts) full no_more_ids e f.bytes_needed no_pages asked in
      record { places = (back, places); table = _; account = _; holds = places.holds }
  host_fault_follows (fault.HeapOutOfMemory f) (back, inr (b, (begins, lacks))) =
      let places = lacks_room layouts s v limits t a is due due_is (host value) size refl (host_small layouts) full no_more_ids b e f.bytes_needed begins lacks in
      record { places = (back, places); table = _; account = _; holds = places.holds }
  host_fault_follows fault.Memory (inl same) =
      let places = wants_heap layouts s v limits t a is due due_is (host value) size refl (host_small layouts) full no_more_ids e same in
      record { places = places; table = _; account = _; holds = places.holds }
  host_fault_follows fault.Memory (inr (b, (begins, pause))) =
      let places = wants_room layouts s v limits t a is due due_is (host value) size refl (host_small layouts) full no_more_ids b e begins pause in
      record { places = places; table = _; account = _; holds = places.holds }

  -- whichever it was, the store holds a table
  pub host_leaves : (r : Result ℕ (PlaceHostFault D)) → MakesRootedHost layouts value s.first due (state_of v limits) e r → (u : Table D) × ((b : Account) × HoldsAccount layouts (shown (counted_store s) e.owner) u b)
  host_leaves (Ok index) (b, (begins, made)) =
      let after = host_follows b index begins made (record { store_id = record { engine = s.engine; number = s.number }; generation = e.owner.roots.generation; slot = slot.Scoped index }) refl in
      (after.table, (after.account, after.holds))
  host_leaves (Err f) makes = let after = host_fault_follows f makes in (after.table, (after.account, after.holds))

-- An owner that made a host object, or was refused it, is idle as it was, has the types and the frames that it had, and
-- no fewer places for scoped roots.
pub record HostKeeps {D : Type 0} (v w : OwnerView D) : Type 0 where
  pub spare : v.roots.spare + length v.roots.scoped ≤ w.roots.spare + length w.roots.scoped
  pub idle : w.idle ≡ v.idle
  pub types : w.types ≡ v.types
  pub counts : counts_of w ≡ counts_of v

kept_rest : {D : Type 0} (v w : OwnerView D) → Keeps v w → HostKeeps v w
kept_rest v w keeps = record { spare = (let kept = keeps.spare in let count = same_count v w keeps in omega (arith, kept, count)); idle = keeps.idle; types = keeps.types; counts = keeps.counts }

same_rest : {D : Type 0} (v w : OwnerView D) → w ≡ v → HostKeeps v w
same_rest {D} v w same = record { spare = (let is = ap (λ (x : OwnerView D). x.roots.spare + length x.roots.scoped) same in omega (arith, is)); idle = ap (λ (x : OwnerView D). x.idle) same; types = ap (λ (x : OwnerView D). x.types) same; counts = ap counts_of same }

pub host_keeps : {D : Type 0} (layouts : Layouts) (value : D) (first : ℕ) (due : Bool) (s e : OwnerState D) (r : Result ℕ (PlaceHostFault D)) → MakesRootedHost layouts value first due s e r → HostKeeps s.owner e.owner
host_keeps {D} layouts value first due s e (Ok index) (b, (begins, made)) =
    let keeps : Keeps s.owner made.mid.owner = keeps-trans s.owner b.owner made.mid.owner (keeps-making layouts first due s b begins) (keeps-retried layouts (external_size layouts) b true made.mid made.retried) in
    let kept = keeps.spare in
    let count = same_count s.owner made.mid.owner keeps in
    let less = ap (λ (x : OwnerView D). x.roots.spare) made.adds.rest in
    let more = ap (λ (x : OwnerView D). length x.roots.scoped) made.adds.rest ∙ length-append made.mid.owner.roots.scoped (_ ∷ []) in
    record {
      spare = omega (arith, kept, count, less, more);
      idle = ap (λ (x : OwnerView D). x.idle) made.adds.rest ∙ keeps.idle;
      types = ap (λ (x : OwnerView D). x.types) made.adds.rest ∙ keeps.types;
      counts = ap counts_of made.adds.rest ∙ keeps.counts;
    }
host_keeps layouts value first due s e (Err fault.RootsFull) makes = absurd makes
host_keeps layouts value first due s e (Err (fault.HeapOutOfMemory f)) (back, inl (no_pages, asked)) = same_rest s.owner e.owner no_pages.same
host_keeps layouts value first due s e (Err (fault.HeapOutOfMemory f)) (back, inr (b, (begins, lacks))) =
    kept_rest s.owner e.owner (keeps-trans s.owner b.owner e.owner (keeps-making layouts first due s b begins) (keeps-retried layouts (external_size layouts) b false e lacks.retried))
host_keeps {D} layouts value first due s e (Err fault.Memory) (inl same) = same_rest s.owner e.owner (ap (λ (x : OwnerState D). x.owner) same)
host_keeps layouts value first due s e (Err fault.Memory) (inr (b, (begins, pause))) =
    kept_rest s.owner e.owner (keeps-trans s.owner b.owner e.owner (keeps-making layouts first due s b begins) (keeps-paused layouts (external_size layouts) b e pause))
