-- What the calls of a heap with a host table leave.
use Rattle.std.proofs.Common.{◌≡◌, ℕ, ◌+◌, ◌%◌, ◌<◌, inl, inr, Bool, true, false, Option, Some, None, Result, Ok, Err, refl, sym, ap, ◌∙◌, subst, arith}
use Rattle.std.specs.Prelude.{◌≤◌, ◌↔◌, is_some, IsOkAnd, IsSome}
use Rattle.std.specs.FinMap.{FinMap, get, insert, remove, empty, gets}
use Rattle.std.specs.Ordering.{nat_cmp}
use Rattle.std.proofs.lemmas.Grind.{common_steps}
use Rattle.std.proofs.lemmas.Option.{none-some, same_Some}
use Rattle.gc_types.specs.declared.kind.Layouts.{Layouts}
use Rattle.gc_types.specs.declared.kind.Layouts.TheVariants.{Null, Counting, Copying}
use Rattle.gc_types.specs.declared.kind.VMGcKind.{VMGcKind}
use Rattle.gc_types.specs.declared.kind.VMGcKind.TheVariants.{ArrayRef, ExnRef, ExternRef, StructRef}
use Rattle.gc_refs.specs.declared.fault.RefFault.{RefFault}
use Rattle.gc_view.specs.Bytes.{u32_at}
use Rattle.gc_view.specs.Heaps.{Counts, HeapObject, HeapView}
use Rattle.gc_memory.specs.Offsets.{external_size}
use Rattle.gc_heap.specs.Content.{IsHeap}
use Rattle.gc_heap.specs.Barriers.{CanName, CanUnname, cloned, copied, dropped, emptied, exposed, overwritten, raise, lower, show}
use Rattle.gc_heap.specs.Heap.{AddsObject, Allocated, CanGiveBack, IsArrayKind, IsStructOrExn, IsTooLarge, exn_or_struct, given_back}
use Rattle.gc_heap.specs.Objects.{HasFields, external, host_id}
use Rattle.gc_heap.specs.Collection.{has_host}
use Rattle.gc_heap.specs.declared.fault.HeapFault.{HeapFault}
use Rattle.gc_heap.specs.declared.fault.HeapFault.TheVariants as fault
use Rattle.gc_heap.proofs.MadeLemmas.{counted_place}
use Rattle.gc_tables.specs.declared.slab.SlabFault.{SlabFault}
use Rattle.gc_tables.specs.declared.slab.SlabFault.TheVariants as slab
use Rattle.gc_tables.specs.SideTables.{max_entries}
use Rattle.gc_tables.specs.Slabs.{returned}
use Rattle.gc_raw_store.specs.Allocation.{AllocatesHost}
use Rattle.gc_raw_store.specs.Stores.{GcStoreView, HoldsNoObject, IsStored, PairsHosts}
use Rattle.gc_raw_store.proofs.PairLemmas.{paired_more, paired_less, paired_host, paired_again, paired_empty, put_there, taken_again}

-- A 31-bit number passes through barriers.

uncounted : (layouts : Layouts) (h : HeapView) (word : ℕ) → IsHeap layouts h → word % 2 ≡ 1 → get h.counts.counted word ≡ None
uncounted Null h word heap odd = ap (λ (c : Counts). get c.counted word) heap.by_kind.0 ∙ (let none : get (empty {X = ℕ} {R = nat_cmp}) word ≡ None = grind (arith, common_steps, gets) in none)
uncounted Copying h word heap odd = ap (λ (c : Counts). get c.counted word) heap.by_kind.counts ∙ (let none : get (empty {X = ℕ} {R = nat_cmp}) word ≡ None = grind (arith, common_steps, gets) in none)
uncounted Counting h word heap odd = counted_or_not (get h.counts.counted word) refl
  where
    counted_or_not : (found : Option ℕ) → get h.counts.counted word ≡ found → get h.counts.counted word ≡ None
    counted_or_not None is = is
    counted_or_not (Some n) is = let even = (counted_place h heap word n is).0 in absurd (omega arith)

module _ (layouts : Layouts) (h : HeapView) (word : ℕ) (heap : IsHeap layouts h) (odd : word % 2 ≡ 1) where
  -- any barrier may be given one
  pub number_named : CanName h word
  number_named = record { named = inl odd; below = λ n is. absurd (none-some n (sym (uncounted layouts h word heap odd) ∙ is)) }

  pub number_unnamed : CanUnname h word
  number_unnamed = record { named = inl odd; counted = λ n is. absurd (none-some n (sym (uncounted layouts h word heap odd) ∙ is)) }

  pub cloned-number : cloned h word ≡ h
  cloned-number = ap (λ (found : Option ℕ). record h { counts = raise found word h.counts }) (uncounted layouts h word heap odd)

  pub dropped-number : dropped h word ≡ h
  dropped-number = ap (λ (found : Option ℕ). record h { counts = lower found word h.counts }) (uncounted layouts h word heap odd)

  pub exposed-number : exposed h word ≡ h
  exposed-number = ap (λ (found : Option ℕ). record h { counts = show found word h.counts }) (uncounted layouts h word heap odd)

-- and so do slots that hold no object
copied-number : (layouts : Layouts) (h : HeapView) (source : Option ℕ) → IsHeap layouts h → HoldsNoObject source → copied h source ≡ h
copied-number layouts h None heap none = refl
copied-number layouts h (Some word) heap odd = cloned-number layouts h word heap odd

emptied-number : (layouts : Layouts) (h : HeapView) (slot : Option ℕ) → IsHeap layouts h → HoldsNoObject slot → emptied h slot ≡ h
emptied-number layouts h None heap none = refl
emptied-number layouts h (Some word) heap odd = dropped-number layouts h word heap odd

pub overwritten-number : (layouts : Layouts) (h : HeapView) (slot source : Option ℕ) → IsHeap layouts h → HoldsNoObject slot → HoldsNoObject source → overwritten h slot source ≡ h
overwritten-number layouts h slot source heap none none' =
    ap (λ (v : HeapView). emptied v slot) (copied-number layouts h source heap none') ∙ emptied-number layouts h slot heap none

-- Objects that are no external ones.

pub fields_other : (kind : VMGcKind) → HasFields kind → kind ≡ ExternRef → ⊥
fields_other kind has is = subst HasFields is has

pub struct_other : (is_exception : Bool) → exn_or_struct is_exception ≡ ExternRef → ⊥
struct_other true e = absurd (cc)
struct_other false e = absurd (cc)

pub array_other : ArrayRef ≡ ExternRef → ⊥
array_other e = cc

given_other : (kind : VMGcKind) → IsStructOrExn kind → kind ≡ ExternRef → ⊥
given_other kind (inl is) e = let no : ◌≡◌ {A = VMGcKind} StructRef ExternRef = sym is ∙ e in absurd (cc)
given_other kind (inr is) e = let no : ◌≡◌ {A = VMGcKind} ExnRef ExternRef = sym is ∙ e in absurd (cc)

module _ {D : Type 0} {was is : Type 0} (layouts : Layouts) (old new : HeapView) (hosts : FinMap nat_cmp D) (stored : IsStored was (record { heap = old; hosts = hosts })) (sound : is) where
  unchanged : new ≡ old → IsStored is (record { heap = new; hosts = hosts })
  unchanged same = subst (λ (h : HeapView). IsStored is (record { heap = h; hosts = hosts })) (sym same) (record { sound = sound; attached = stored.attached; paired = stored.paired })

  -- an object was made, or refused
  pub stored_made : (o : HeapObject) (size : ℕ) (answer : Result (Result ℕ ℕ) HeapFault) → (o.kind ≡ ExternRef → ⊥) → Allocated layouts old new o size answer → IsStored is (record { heap = new; hosts = hosts })
  stored_made o size (Ok (Ok place)) other made = subst (λ (h : HeapView). IsStored is (record { heap = h; hosts = hosts })) (sym made.added)
      (record { sound = sound; attached = stored.attached; paired = paired_more old.content hosts place o made.fresh.free other stored.paired })
  stored_made o size (Ok (Err need)) other made = unchanged made.same
  stored_made o size (Err fault.TooLarge) other made = unchanged made.1
  stored_made o size (Err fault.Memory) other made = unchanged made

  -- an object was given back
  given : (kind : Layouts) (place : ℕ) (o : HeapObject) → get old.content place ≡ Some o → (o.kind ≡ ExternRef → ⊥) → IsStored is (record { heap = given_back kind old place o; hosts = hosts })
  given Null place o held other = record { sound = sound; attached = stored.attached; paired = stored.paired }
  given Counting place o held other = record { sound = sound; attached = stored.attached; paired = paired_less old.content hosts place o held other stored.paired }
  given Copying place o held other = record { sound = sound; attached = stored.attached; paired = stored.paired }

  given_as : (place : ℕ) (o : HeapObject) → get old.content place ≡ Some o → (o.kind ≡ ExternRef → ⊥) → new ≡ given_back layouts old place o → IsStored is (record { heap = new; hosts = hosts })
  given_as place o held other seen = subst (λ (h : HeapView). IsStored is (record { heap = h; hosts = hosts })) (sym seen) (given layouts place o held other)

  -- the same of a store that was seen so, by a word that was made into another form
  pub stored_given_struct : (s : GcStoreView D) (asked place : ℕ) → record { heap = old; hosts = hosts } ≡ s → place ≡ asked → CanGiveBack s.heap asked IsStructOrExn
      → ((o : HeapObject) → get old.content place ≡ Some o → new ≡ given_back layouts old place o) → IsStored is (record { heap = new; hosts = hosts })
  stored_given_struct s asked place was_seen same asks seen =
      let at : CanGiveBack s.heap place IsStructOrExn = subst (λ (p : ℕ). CanGiveBack s.heap p IsStructOrExn) (sym same) asks in
      let can : CanGiveBack old place IsStructOrExn = subst (λ (v : GcStoreView D). CanGiveBack v.heap place IsStructOrExn) (sym was_seen) at in
      given_as place can.object can.held (given_other can.object.kind can.kind) (seen can.object can.held)

  pub stored_given_array : (s : GcStoreView D) (place : ℕ) → record { heap = old; hosts = hosts } ≡ s → CanGiveBack s.heap place IsArrayKind
      → ((o : HeapObject) → get old.content place ≡ Some o → new ≡ given_back layouts old place o) → IsStored is (record { heap = new; hosts = hosts })
  stored_given_array s place was_seen asks seen =
      let can : CanGiveBack old place IsArrayKind = subst (λ (v : GcStoreView D). CanGiveBack v.heap place IsArrayKind) (sym was_seen) asks in
      given_as place can.object can.held (λ e. array_other (sym can.kind ∙ e)) (seen can.object can.held)

-- An external object tells its host value.

id_told : {D : Type 0} (hosts : FinMap nat_cmp D) (found : Result ℕ RefFault) (o : HeapObject) → has_host hosts (host_id o) ≡ true → IsOkAnd found (λ id. id + 1 ≡ u32_at o.bytes 0)
    → IsOkAnd found (λ id. (id ≡ host_id o) × (has_host hosts id ≡ true))
id_told hosts (Ok id) o there is = let same : id ≡ host_id o = omega arith in (same, ap (has_host hosts) same ∙ there)
id_told hosts (Err e) o there is = is

pub host_told : {D : Type 0} (before now : GcStoreView D) (place : ℕ) (found : Result ℕ RefFault) → before ≡ now → PairsHosts before.heap.content before.hosts
    → ((o : HeapObject) → get before.heap.content place ≡ Some o → o.kind ≡ ExternRef → IsOkAnd found (λ id. id + 1 ≡ u32_at o.bytes 0))
    → (o : HeapObject) → get now.heap.content place ≡ Some o → o.kind ≡ ExternRef → IsOkAnd found (λ id. (id ≡ host_id o) × (has_host now.hosts id ≡ true))
host_told {D} before now place found same paired told =
    subst (λ (v : GcStoreView D). (o : HeapObject) → get v.heap.content place ≡ Some o → o.kind ≡ ExternRef → IsOkAnd found (λ id. (id ≡ host_id o) × (has_host v.hosts id ≡ true))) same
    (λ o held kind. id_told before.hosts found o (paired.there place o held kind) (told o held kind))

-- A new store, and one with another host value.

pub stored_new : {D : Type 0} {is : Type 0} (h : HeapView) (hosts : FinMap nat_cmp D) → is → h.attached ≡ true → h.content ≡ empty → hosts ≡ empty → IsStored is (record { heap = h; hosts = hosts })
stored_new {D} {is} h hosts sound attached none no_values = subst (λ (m : FinMap nat_cmp D). IsStored is (record { heap = h; hosts = m })) (sym no_values)
    (record { sound = sound; attached = attached; paired = paired_empty h.content none })

pub stored_again : {D : Type 0} {is : Type 0} (h : HeapView) (hosts : FinMap nat_cmp D) (id : ℕ) (had value : D) → get hosts id ≡ Some had → IsStored is (record { heap = h; hosts = hosts }) → IsStored is (record { heap = h; hosts = insert hosts id value })
stored_again h hosts id had value there stored = record { sound = stored.sound; attached = stored.attached; paired = paired_again h.content hosts id value (ap is_some there) stored.paired }

-- A new external object, and a value that is taken back.

pub full_never : {D : Type 0} (value back : D) (why : SlabFault D) (count : ℕ) → why ≡ slab.Full back → ((◌≡◌ {A = Result ℕ (SlabFault D)} (Err why) (Err (slab.Full value))) ↔ (count ≡ max_entries)) → returned why ≡ value
    → count < max_entries → ⊥
full_never {D} value back why count is full same few =
    let own : back ≡ value = sym (ap (λ (x : SlabFault D). returned x) is) ∙ same in
    let told : count ≡ max_entries = full.0 (ap (λ (x : SlabFault D). Err x) (is ∙ ap (λ (x : D). slab.Full x) own)) in
    omega arith

external_small : (layouts : Layouts) → IsTooLarge layouts (external_size layouts) → ⊥
external_small Null is = omega arith
external_small Counting is = omega arith
external_small Copying is = omega arith

module _ {D : Type 0} {was is : Type 0} (layouts : Layouts) (old new : HeapView) (hosts hosts' : FinMap nat_cmp D) (id : ℕ) (value : D)
    (stored : IsStored was (record { heap = old; hosts = hosts })) (sound : is) (fresh : get hosts id ≡ None) (put : hosts' ≡ insert hosts id value) where
  pub stored_host : (place : ℕ) → id + 1 ≤ max_entries → AddsObject layouts old new place (external id) (external_size layouts) → IsStored is (record { heap = new; hosts = hosts' })
  stored_host place small made =
      subst (λ (m : FinMap nat_cmp D). IsStored is (record { heap = new; hosts = m })) (sym put)
      (subst (λ (h : HeapView). IsStored is (record { heap = h; hosts = insert hosts id value })) (sym made.added)
      (record { sound = sound; attached = stored.attached; paired = paired_host old.content hosts place id value made.fresh.free fresh (omega arith) stored.paired }))

  value_is : get hosts' id ≡ Some value
  value_is = ap (λ (m : FinMap nat_cmp D). get m id) put ∙ put_there hosts id value

  pub value_in : IsSome (get hosts' id)
  value_in = ap is_some value_is

  pub value_back : (back : D) → get hosts' id ≡ Some back → back ≡ value
  value_back back found = same_Some back value (sym found ∙ value_is)

  left_is : (left : FinMap nat_cmp D) → left ≡ remove hosts' id → left ≡ hosts
  left_is left removed = removed ∙ ap (λ (m : FinMap nat_cmp D). remove m id) put ∙ taken_again hosts id value fresh

  pub stored_back : (left : FinMap nat_cmp D) → left ≡ remove hosts' id → new ≡ old → IsStored is (record { heap = new; hosts = left })
  stored_back left removed same =
      subst (λ (m : FinMap nat_cmp D). IsStored is (record { heap = new; hosts = m })) (sym (left_is left removed)) (unchanged layouts old new hosts stored sound same)

  pub same_back : (s : GcStoreView D) (left : FinMap nat_cmp D) → record { heap = old; hosts = hosts } ≡ s → left ≡ remove hosts' id → new ≡ old → record { heap = new; hosts = left } ≡ s
  same_back s left was_seen removed same =
      let back : left ≡ hosts = left_is left removed in
      let both : ◌≡◌ {A = GcStoreView D} (record { heap = new; hosts = left }) (record { heap = old; hosts = hosts }) = λ i. record { heap = same i; hosts = back i } in
      both ∙ was_seen

-- what an allocation says where its answer is known
pub allocated_as : (layouts : Layouts) (old new : HeapView) (o : HeapObject) (size : ℕ) (answer known : Result (Result ℕ ℕ) HeapFault) → Allocated layouts old new o size answer → answer ≡ known → Allocated layouts old new o size known
allocated_as layouts old new o size answer known made is = subst (Allocated layouts old new o size) is made

pub fault_same : (layouts : Layouts) (old new : HeapView) (o : HeapObject) (size : ℕ) (why : HeapFault) → Allocated layouts old new o size (Err why) → new ≡ old
fault_same layouts old new o size fault.TooLarge made = made.1
fault_same layouts old new o size fault.Memory made = made

pub host_refused : {D : Type 0} (layouts : Layouts) (value : D) (s e : GcStoreView D) (old new : HeapView) (o : HeapObject) (why : HeapFault) → Allocated layouts old new o (external_size layouts) (Err why) → e ≡ s → AllocatesHost layouts value s e (Err why)
host_refused layouts value s e old new o fault.TooLarge made same = absurd (external_small layouts made.0)
host_refused layouts value s e old new o fault.Memory made same = same
