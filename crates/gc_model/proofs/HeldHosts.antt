-- How many host values a store has, counted by the positions of its host objects, and that there are few.
use Rattle.std.proofs.Common.{◌≡◌, ℕ, suc, ◌+◌, ◌*◌, ◌<◌, ◌≤◌, List, [], ◌∷◌, length, map, Option, Some, None, Contains, refl, sym, ap, ◌∙◌, subst, arith}
use Rattle.std.specs.List.{slice_get, sum_by}
use Rattle.std.specs.Ordering.{nat_cmp}
use Rattle.std.specs.FinMap.{FinMap, get, len, entries, len-entries}
use Rattle.std.proofs.lemmas.List.{length-map}
use Rattle.std.proofs.lemmas.List.Sums.{sum-map, sum_by-cons}
use Rattle.std.proofs.lemmas.Option.{none-some, same_Some}
use Rattle.gc_types.specs.declared.kind.Layouts.{Layouts}
use Rattle.gc_types.specs.declared.kind.Layouts.TheVariants.{Null, Counting, Copying}
use Rattle.gc_types.specs.declared.kind.VMGcKind.{VMGcKind}
use Rattle.gc_types.specs.declared.kind.VMGcKind.TheVariants.{ExternRef, AnyRef, EqRef, StructRef, ArrayRef, ExnRef}
use Rattle.gc_types.specs.Layouts.{struct_base}
use Rattle.gc_tables.specs.SideTables.{max_entries}
use Rattle.gc_model.specs.Values.{Object, struct, array, host, exception}
use Rattle.gc_model.specs.Table.{Table}
use Rattle.gc_model.specs.Reach.{IsKept, IsHost, AreAll, HasNumber}
use Rattle.gc_view.specs.Heaps.{HeapObject, HeapView}
use Rattle.gc_model.specs.Stores.{StoreView}
use Rattle.gc_model.specs.Holds.{Placing, IsHostAt, HostsBy, Holds, HoldsKept}
use Rattle.gc_model.proofs.Hosts.{host_alone}
use Rattle.gc_heap.specs.Extents.{held_size, size_with}
use Rattle.gc_heap.specs.Collection.{IsPartOf}
use Rattle.gc_heap.specs.Content.{IsHeap}
use Rattle.gc_heap.proofs.NameLemmas.{total-le}
use Rattle.gc_model.specs.Collects.{IsPlacedHost}
use Rattle.gc_model.proofs.CollectedLists.{get_contains, contains_map, map_get}
use Rattle.gc_model.proofs.CollectedKept.{kept_placed}
use Rattle.gc_model.proofs.HeldEntries.{held_entry, entry_held, keys_differ}
use Rattle.gc_model.proofs.HeldNumber.{positions, are_placed, length-positions}
use Rattle.gc_model.proofs.HeldSums.{sum_part}

host_there : {D : Type 0} (o : Option (Object D)) → IsHost o → (value : D) × (o ≡ Some (host value))
host_there None is = absurd is
host_there (Some (struct ty values)) is = absurd is
host_there (Some (array ty values)) is = absurd is
host_there (Some (host value)) is = (value, refl)
host_there (Some (exception ty tag values)) is = absurd is

module _ {D : Type 0} (objects : List (Object D)) (place : Placing) (content : FinMap nat_cmp HeapObject) (hosts : FinMap nat_cmp D) (by : HostsBy objects place content hosts) where
  abbrev host_found : (id : ℕ) (found : Option D) → get hosts id ≡ found → ℕ
  host_found id None e = 0
  host_found id (Some value) e = (by.only id value e).0

  found_host : (id : ℕ) (found : Option D) (e : get hosts id ≡ found) (value : D) → found ≡ Some value → IsHostAt objects place content (host_found id found e) id value
  found_host id None e value is = absurd (none-some value is)
  found_host id (Some x) e value is = subst (λ (y : D). IsHostAt objects place content (by.only id x e).0 id y) (same_Some x value is) (by.only id x e).1

  -- the position of the host object with an id
  abbrev host_position : ℕ → ℕ
  host_position id = host_found id (get hosts id) refl

  host_of : (id : ℕ) (value : D) → get hosts id ≡ Some value → IsHostAt objects place content (host_position id) id value
  host_of id value e = found_host id (get hosts id) refl value e

  -- the positions of the host objects, in the order of their ids
  abbrev host_positions : List ℕ
  host_positions = map (λ (e : ℕ × D). host_position e.0) (entries hosts)

  placed_from : (p : ℕ) → Contains host_positions p → IsPlacedHost objects place p
  placed_from p c =
      let found = contains_map (λ (e : ℕ × D). host_position e.0) (entries hosts) p c in
      let is = host_of found.element.0 found.element.1 (held_entry hosts found.index found.element found.there) in
      subst (IsPlacedHost objects place) found.is ((is.word, is.placed), subst (λ (o : Option (Object D)). IsHost o) (sym is.in_table) tt)

  placed_among : (p : ℕ) → IsPlacedHost objects place p → Contains host_positions p
  placed_among p ((word, placed), is_host) =
      let value = host_there (slice_get objects p) is_host in
      let has = by.each p word value.0 placed value.1 in
      let entry = entry_held hosts has.id value.0 has.held in
      let same : host_position has.id ≡ p = by.apart (host_position has.id) p has.id value.0 value.0 (host_of has.id value.0 has.held) has.is_at in
      subst (Contains host_positions) same (get_contains host_positions entry.0 (host_position has.id) (map_get (λ (e : ℕ × D). host_position e.0) (entries hosts) entry.0 (has.id, value.0) entry.1))

  pub hosts_placed : AreAll (IsPlacedHost objects place) host_positions
  hosts_placed = record {
    distinct = keys_differ host_position hosts (λ i j x y e f same.
        host_alone objects place content (host_position j) i j x y (subst (λ (p : ℕ). IsHostAt objects place content p i x) same (host_of i x e)) (host_of j y f));
    all = λ p. (placed_from p, placed_among p);
  }

  pub length-hosts : len hosts ≡ length host_positions
  length-hosts = len-entries hosts ∙ sym (length-map (entries hosts) (λ (e : ℕ × D). host_position e.0))

-- A store has as many host values as host objects are placed.
pub held_hosts : {D : Type 0} (layouts : Layouts) (s : StoreView D) (t : Table D) (place : Placing) → Holds layouts s t place → HasNumber (IsPlacedHost t.objects place) (len s.hosts)
held_hosts layouts s t place holds = (
  host_positions t.objects place s.heap.content s.hosts holds.hosts,
  (hosts_placed t.objects place s.heap.content s.hosts holds.hosts, length-hosts t.objects place s.heap.content s.hosts holds.hosts),
)

-- After a collection it has as many as a collection keeps host objects.
pub kept_hosts : {D : Type 0} (layouts : Layouts) (s : StoreView D) (t : Table D) → HoldsKept layouts s t → HasNumber (λ (p : ℕ). IsKept layouts t p × IsHost (slice_get t.objects p)) (len s.hosts)
kept_hosts layouts s t kept =
    let place : Placing = kept.0 in
    let placed = hosts_placed t.objects place s.heap.content s.hosts kept.1.0.hosts in (
      host_positions t.objects place s.heap.content s.hosts kept.1.0.hosts,
      (
        record {
          distinct = placed.distinct;
          all = λ p. (
            λ c. let is = (placed.all p).0 c in (kept.1.1 p is.0.0 is.0.1, is.1),
            λ both. (placed.all p).1 (kept_placed s t place layouts kept.1.0 p both.0, both.1),
          );
        },
        length-hosts t.objects place s.heap.content s.hosts kept.1.0.hosts,
      ),
    )

-- a sum of one number
pub sum-same : {X : Type 0} (n : ℕ) (xs : List X) → sum_by (λ (x : X). n) xs ≡ n * length xs
sum-same n [] = omega arith
sum-same n (x ∷ xs) = sum_by-cons (λ x. n) x xs ∙ ap (λ k. n + k) (sum-same n xs) ∙ (let e : n + n * length xs ≡ n * suc (length xs) = grind arith in e)

-- a part of a table has no more values
pub part_len : {D : Type 0} (part whole : FinMap nat_cmp D) → IsPartOf part whole → len part ≤ len whole
part_len {D} part whole within =
    let fewer = sum_part (λ x. 1) (keys part) (keys whole) (keys_differ (λ k. k) part (λ p q x y e f same. same)) among in
    let ones = sum-same 1 (keys part) in
    let ones' = sum-same 1 (keys whole) in
    let count = len-entries part ∙ sym (length-map (entries part) (λ (e : ℕ × D). e.0)) in
    let count' = len-entries whole ∙ sym (length-map (entries whole) (λ (e : ℕ × D). e.0)) in
    omega arith
  where
    keys : FinMap nat_cmp D → List ℕ
    keys m = map (λ (e : ℕ × D). e.0) (entries m)

    among : (k : ℕ) → Contains (keys part) k → Contains (keys whole) k
    among k c =
        let found = contains_map (λ (e : ℕ × D). e.0) (entries part) k c in
        let value = within found.element.0 found.element.1 (held_entry part found.index found.element found.there) in
        let entry = entry_held whole found.element.0 found.element.1 value in
        subst (Contains (keys whole)) found.is (get_contains (keys whole) entry.0 found.element.0 (map_get (λ (e : ℕ × D). e.0) (entries whole) entry.0 (found.element.0, found.element.1) entry.1))

-- each object takes 8 bytes at least
base_least : (layouts : Layouts) (n : ℕ) → 8 ≤ struct_base layouts + n
base_least Null n = omega arith
base_least Counting n = omega arith
base_least Copying n = omega arith

size_least : (layouts : Layouts) (kind : VMGcKind) (n : ℕ) → 8 ≤ size_with layouts kind n
size_least Null ExternRef n = omega arith
size_least Counting ExternRef n = omega arith
size_least Copying ExternRef n = omega arith
size_least layouts AnyRef n = base_least layouts n
size_least layouts EqRef n = base_least layouts n
size_least layouts StructRef n = base_least layouts n
size_least layouts ArrayRef n = base_least layouts n
size_least layouts ExnRef n = base_least layouts n

-- so a heap has few
pub few_objects : (layouts : Layouts) (h : HeapView) → IsHeap layouts h → 8 * len h.content ≤ h.capacity
few_objects layouts h heap =
    let eights = total-le (λ (o : HeapObject). 8) (held_size layouts) h.content (λ q o is. size_least layouts o.kind (length o.bytes)) in
    let total_is = sum-map (λ (e : ℕ × HeapObject). 8) (entries h.content) ∙ sum-same 8 (entries h.content) in
    let number = len-entries h.content in
    let fits = heap.fits in
    omega arith

-- So the table of host values is never full.
pub few_hosts : {D : Type 0} (layouts : Layouts) (s : StoreView D) (t : Table D) (place : Placing) → Holds layouts s t place → IsHeap layouts s.heap → len s.hosts < max_entries
few_hosts layouts s t place holds heap =
    let hosts : List ℕ = host_positions t.objects place s.heap.content s.hosts holds.hosts in
    let all : List ℕ = positions layouts t place s.heap holds.objects in
    let among = hosts_placed t.objects place s.heap.content s.hosts holds.hosts in
    let placed = are_placed layouts t place s.heap holds.objects in
    let fewer = sum_part (λ x. 1) hosts all among.distinct (λ p c. (placed.all p).1 ((among.all p).0 c).0) in
    let count = length-hosts t.objects place s.heap.content s.hosts holds.hosts in
    let objects = length-positions layouts t place s.heap holds.objects in
    let few = few_objects layouts s.heap heap in
    let ones = sum-same 1 hosts in
    let ones' = sum-same 1 all in
    let bound = heap.bound in
    omega arith
