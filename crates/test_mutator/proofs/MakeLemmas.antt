-- Making objects: their layouts are such as heaps take, and with its root each leaves a heap in which a
-- collection may begin.
use Rattle.std.proofs.Common.{◌≡◌, ℕ, ◌+◌, ◌<◌, ◌^◌, Bool, true, false, List, length, Some, None, Result, Ok, Err, OnOk, is_some, refl, sym, ap, subst, ◌∙◌, arith}
use Rattle.std.specs.Prelude.{◌≢◌, ◌↔◌, IsErrOf, is_err}
use Rattle.std.specs.FinMap.{FinMap, get, len, insert, remove, same_map, nat_cmp-IsAntisymmetric, gets}
use Rattle.std.specs.Cmp.{nat_cmp_total}
use Rattle.std.specs.Ordering.{nat_cmp}
use Rattle.std.proofs.lemmas.Grind.{common_steps}
use Rattle.gc_types.specs.declared.kind.Layouts.{Layouts}
use Rattle.gc_types.specs.declared.kind.VMGcKind.TheVariants.{ArrayRef, ExternRef}
use Rattle.gc_types.specs.declared.layout.GcStructLayout.{GcStructLayout}
use Rattle.gc_types.specs.declared.layout.GcArrayLayout.{GcArrayLayout}
use Rattle.gc_types.specs.Declarations.{Declaration}
use Rattle.gc_types.specs.Layouts.{layout_at, array_layout_at}
use Rattle.gc_roots.specs.Roots.{Root}
use Rattle.gc_view.specs.Heaps.{HeapObject, HeapView}
use Rattle.gc_heap.specs.Objects.{external}
use Rattle.gc_heap.specs.Content.{IsHeap}
use Rattle.gc_heap.specs.Heap.{Allocated, exn_or_struct, new_struct, new_array, array_size}
use Rattle.gc_heap.specs.Collection.{CanCollect, has_host}
use Rattle.gc_heap.specs.declared.fault.HeapFault.{HeapFault}
use Rattle.gc_heap.specs.declared.fault.HeapFault.TheVariants as heap_fault
use Rattle.gc_heap.proofs.AddedLemmas.{start, IsBlank, OwnsHost, owns_none, owns_new, more_hosts, blank_struct, blank_array, blank_external}
use Rattle.gc_heap.proofs.MadeLemmas.{can_collect_made}
use Rattle.gc_tables.specs.declared.host_data.HostFault.{HostFault}
use Rattle.gc_tables.specs.declared.slab.SlabFault.{SlabFault}
use Rattle.gc_tables.specs.declared.host_data.HostFault.TheVariants as host_fault
use Rattle.gc_tables.specs.SideTables.{max_entries}
use Rattle.gc_memory.specs.Offsets.{external_size}
use Rattle.test_mutator.specs.Mutators.{MutatorView}
use Rattle.test_mutator.specs.Makes.{RootsMade, MakesExternal}
use Rattle.test_mutator.specs.declared.fault.MutatorFault.{MutatorFault}

-- nothing was made
unchanged : (layouts : Layouts) (types : List Declaration) (old new : HeapView) (roots roots' : List Root) (hosts : ℕ → Bool) → CanCollect layouts (start old roots types hosts) → new ≡ old → roots' ≡ roots → CanCollect layouts (start new roots' types hosts)
unchanged layouts types old new roots roots' hosts can seen same =
    subst (λ rs. CanCollect layouts (start new rs types hosts)) (sym same) (subst (λ (v : HeapView). CanCollect layouts (start v roots types hosts)) (sym seen) can)

-- nor was the host table changed
pub unchanged_hosts : (layouts : Layouts) (types : List Declaration) (old new : HeapView) (roots roots' : List Root) (entries back : FinMap nat_cmp ℕ) → CanCollect layouts (start old roots types (has_host entries)) → new ≡ old → roots' ≡ roots
    → back ≡ entries → CanCollect layouts (start new roots' types (has_host back))
unchanged_hosts layouts types old new roots roots' entries back can seen same is_back =
    subst (λ (m : FinMap nat_cmp ℕ). CanCollect layouts (start new roots' types (has_host m))) (sym is_back) (unchanged layouts types old new roots roots' (has_host entries) can seen same)

-- a blank object was made and rooted, or nothing was
made : (layouts : Layouts) (types : List Declaration) (old new : HeapView) (roots roots' : List Root) (hosts : ℕ → Bool) (o : HeapObject) (size : ℕ) (answer : Result (Result ℕ ℕ) HeapFault) (result : Result ℕ MutatorFault) → IsHeap layouts old
    → CanCollect layouts (start old roots types hosts) → IsBlank layouts types o → OwnsHost hosts old o → Allocated layouts old new o size answer → RootsMade answer roots roots' result → CanCollect layouts (start new roots' types hosts)
made layouts types old new roots roots' hosts o size (Ok (Ok place)) result heap can blank owns allocated rooted =
    subst (λ rs. CanCollect layouts (start new rs types hosts)) (sym rooted.0) (can_collect_made layouts types old new roots 0 place o size hosts allocated heap can blank owns)
made layouts types old new roots roots' hosts o size (Ok (Err need)) result heap can blank owns allocated rooted = unchanged layouts types old new roots roots' hosts can allocated.same rooted.0
made layouts types old new roots roots' hosts o size (Err heap_fault.TooLarge) result heap can blank owns allocated rooted = unchanged layouts types old new roots roots' hosts can allocated.1 rooted.0
made layouts types old new roots roots' hosts o size (Err heap_fault.Memory) result heap can blank owns allocated rooted = unchanged layouts types old new roots roots' hosts can allocated rooted.0

not_external : (is_exception : Bool) → exn_or_struct is_exception ≡ ExternRef → ⊥
not_external true e = absurd (cc)
not_external false e = absurd (cc)

pub struct_made : (layouts : Layouts) (types : List Declaration) (old new : HeapView) (roots room roots' : List Root) (hosts : ℕ → Bool) (ty : ℕ) (layout : GcStructLayout) (answer : Result (Result ℕ ℕ) HeapFault) (result : Result ℕ MutatorFault) → IsHeap layouts old
    → CanCollect layouts (start old roots types hosts) → layout_at layouts types ty ≡ Some layout → Allocated layouts old new (new_struct layouts ty layout) layout.size answer → room ≡ roots → RootsMade answer room roots' result → CanCollect layouts (start new roots' types hosts)
struct_made layouts types old new roots room roots' hosts ty layout answer result heap can declared allocated same rooted =
    made layouts types old new roots roots' hosts (new_struct layouts ty layout) layout.size answer result heap can (blank_struct layouts types ty layout declared)
    (owns_none hosts old (new_struct layouts ty layout) (not_external layout.is_exception)) allocated (subst (λ rs. RootsMade answer rs roots' result) same rooted)

array_is : ArrayRef ≡ ExternRef → ⊥
array_is e = cc

pub array_made : (layouts : Layouts) (types : List Declaration) (old new : HeapView) (roots room roots' : List Root) (hosts : ℕ → Bool) (ty count : ℕ) (layout : GcArrayLayout) (answer answer' : Result (Result ℕ ℕ) HeapFault) (result : Result ℕ MutatorFault) → IsHeap layouts old
    → CanCollect layouts (start old roots types hosts) → array_layout_at layouts types ty ≡ Some layout → count < 2 ^ 32 → Allocated layouts old new (new_array layouts ty count layout) (array_size layout count) answer → answer' ≡ answer
    → room ≡ roots → RootsMade answer' room roots' result → CanCollect layouts (start new roots' types hosts)
array_made layouts types old new roots room roots' hosts ty count layout answer answer' result heap can declared small allocated alike same rooted =
    made layouts types old new roots roots' hosts (new_array layouts ty count layout) (array_size layout count) answer result heap can (blank_array layouts types ty count layout small declared)
    (owns_none hosts old (new_array layouts ty count layout) array_is) allocated (subst (λ rs. RootsMade answer rs roots' result) same (subst (λ a. RootsMade a room roots' result) alike rooted))

host_there : {D : Type 0} (entries : FinMap nat_cmp D) (id : ℕ) (value : D) → has_host (insert entries id value) id ≡ true
host_there entries id value = grind (arith, common_steps, gets)

host_more : {D : Type 0} (entries : FinMap nat_cmp D) (id q : ℕ) (value : D) → has_host entries q ≡ true → has_host (insert entries id value) q ≡ true
host_more entries id q value is = grind (arith, common_steps, gets)

host_back : (entries : FinMap nat_cmp ℕ) (id value q : ℕ) → get entries id ≡ None → get (remove (insert entries id value) id) q ≡ get entries q
host_back entries id value q free = grind (arith, common_steps, gets)

-- a host value that was taken back
pub taken_back : (entries more less : FinMap nat_cmp ℕ) (id value : ℕ) (result : Result ℕ HostFault) → get entries id ≡ None → more ≡ insert entries id value → OnOk result (less ≡ remove more id)
    → (IsErrOf result host_fault.BadHostDataId ↔ (get more id ≡ None)) → less ≡ entries
taken_back entries more less id value (Ok back) free added removed bad =
    removed ∙ ap (λ (m : FinMap nat_cmp ℕ). remove m id) added ∙ same_map nat_cmp_total nat_cmp-IsAntisymmetric _ _ (λ q. host_back entries id value q free)
taken_back entries more less id value (Err host_fault.BadHostDataId) free added removed bad =
    let none : get more id ≡ None = bad.0 refl in
    let some : is_some (get more id) ≡ true = ap (λ (m : FinMap nat_cmp ℕ). has_host m id) added ∙ host_there entries id value in
    absurd (cc)

-- an external object was made with its host value and rooted, or nothing was
pub host_made : (layouts : Layouts) (types : List Declaration) (old new : HeapView) (roots room roots' : List Root) (entries more : FinMap nat_cmp ℕ) (id value size : ℕ) (answer answer' : Result (Result ℕ ℕ) HeapFault) (result : Result ℕ MutatorFault) → IsHeap layouts old
    → CanCollect layouts (start old roots types (has_host entries)) → get entries id ≡ None → more ≡ insert entries id value → id + 1 < 2 ^ 32 → Allocated layouts old new (external id) size answer → answer' ≡ answer
    → room ≡ roots → RootsMade answer' room roots' result → CanCollect layouts (start new roots' types (has_host more))
host_made layouts types old new roots room roots' entries more id value size answer answer' result heap can free added small allocated alike same rooted =
    let there : has_host more id ≡ true = ap (λ (m : FinMap nat_cmp ℕ). has_host m id) added ∙ host_there entries id value in
    let kept : (q : ℕ) → has_host entries q ≡ true → has_host more q ≡ true = λ q is. ap (λ (m : FinMap nat_cmp ℕ). has_host m q) added ∙ host_more entries id q value is in
    made layouts types old new roots roots' (has_host more) (external id) size answer result heap (more_hosts layouts types old roots (has_host entries) (has_host more) can kept) (blank_external layouts types id)
    (owns_new layouts types old roots (has_host entries) (has_host more) id can small (ap is_some free) there) allocated (subst (λ rs. RootsMade answer rs roots' result) same (subst (λ a. RootsMade a room roots' result) alike rooted))

-- nothing was made, so that the heap and the roots are as they were
pub nothing_made : (layouts : Layouts) (old new : HeapView) (roots room roots' : List Root) (o : HeapObject) (size : ℕ) (answer answer' : Result (Result ℕ ℕ) HeapFault) (result : Result ℕ MutatorFault) → is_err result ≡ true
    → Allocated layouts old new o size answer → answer' ≡ answer → room ≡ roots → RootsMade answer' room roots' result → (new ≡ old) × (roots' ≡ roots)
nothing_made layouts old new roots room roots' o size answer answer' result err allocated alike same rooted = nothing answer allocated (subst (λ rs. RootsMade answer rs roots' result) same (subst (λ a. RootsMade a room roots' result) alike rooted))
  where
    nothing : (answer : Result (Result ℕ ℕ) HeapFault) → Allocated layouts old new o size answer → RootsMade answer roots roots' result → (new ≡ old) × (roots' ≡ roots)
    nothing (Ok (Ok place)) allocated rooted = let ok : is_err result ≡ false = ap is_err rooted.1 in absurd (cc)
    nothing (Ok (Err need)) allocated rooted = (allocated.same, rooted.0)
    nothing (Err heap_fault.TooLarge) allocated rooted = (allocated.1, rooted.0)
    nothing (Err heap_fault.Memory) allocated rooted = (allocated, rooted.0)

-- the view of a mutator with these
abbrev pub view : HeapView → List Root → List Declaration → FinMap nat_cmp ℕ → MutatorView
view heap roots types hosts = record { heap = heap; roots = roots; types = types; hosts = hosts }

module _ (layouts : Layouts) (types : List Declaration) (old new : HeapView) (roots room roots' : List Root) (entries more : FinMap nat_cmp ℕ) (id value : ℕ) (answer answer' : Result (Result ℕ ℕ) HeapFault) (result : Result ℕ MutatorFault)
    (allocated : Allocated layouts old new (external id) (external_size layouts) answer) (alike : answer' ≡ answer) (same : room ≡ roots) (rooted : RootsMade answer' room roots' result) (few : length roots < 2 ^ 31) (space : len entries ≢ max_entries) where
  of_answer : RootsMade answer roots roots' result
  of_answer = subst (λ rs. RootsMade answer rs roots' result) same (subst (λ a. RootsMade a room roots' result) alike rooted)

  -- an external object was made with its host value
  pub host_added : is_err result ≡ false → get entries id ≡ None → more ≡ insert entries id value → MakesExternal layouts (view old roots types entries) (view new roots' types more) value result
  host_added ok fresh added = by_answer answer allocated of_answer
    where
      by_answer : (answer : Result (Result ℕ ℕ) HeapFault) → Allocated layouts old new (external id) (external_size layouts) answer → RootsMade answer roots roots' result → MakesExternal layouts (view old roots types entries) (view new roots' types more) value result
      by_answer (Ok (Ok place)) allocated rooted =
          subst (MakesExternal layouts (view old roots types entries) (view new roots' types more) value) (sym rooted.1) (
            record {
              id = id;
              added = record { place = place; added = allocated; rooted = ap (λ rs. view new rs types more) rooted.0; index_is = refl };
              fresh = fresh;
              hosts = added;
            },
            few,
            space,
          )
      by_answer (Ok (Err need)) allocated rooted = let err : is_err result ≡ true = ap is_err rooted.1 in absurd (cc)
      by_answer (Err heap_fault.TooLarge) allocated rooted = let err : is_err result ≡ true = ap is_err rooted.1 in absurd (cc)
      by_answer (Err heap_fault.Memory) allocated rooted = let err : is_err result ≡ true = ap is_err rooted.1 in absurd (cc)

  -- or nothing was
  pub host_refused : is_err result ≡ true → (back : FinMap nat_cmp ℕ) → back ≡ entries → MakesExternal layouts (view old roots types entries) (view new roots' types back) value result
  host_refused err back is_back = by_answer answer allocated of_answer
    where
      as_before : new ≡ old → roots' ≡ roots → view new roots' types back ≡ view old roots types entries
      as_before seen same = ap (λ (h : HeapView). view h roots' types back) seen ∙ ap (λ rs. view old rs types back) same ∙ ap (view old roots types) is_back

      by_answer : (answer : Result (Result ℕ ℕ) HeapFault) → Allocated layouts old new (external id) (external_size layouts) answer → RootsMade answer roots roots' result → MakesExternal layouts (view old roots types entries) (view new roots' types back) value result
      by_answer (Ok (Ok place)) allocated rooted = let ok : is_err result ≡ false = ap is_err rooted.1 in absurd (cc)
      by_answer (Ok (Err need)) allocated rooted =
          subst (MakesExternal layouts (view old roots types entries) (view new roots' types back) value) (sym rooted.1) ((space, (few, allocated.small, allocated.no_room, allocated.asked)), as_before allocated.same rooted.0)
      by_answer (Err heap_fault.TooLarge) allocated rooted = subst (MakesExternal layouts (view old roots types entries) (view new roots' types back) value) (sym rooted.1) ((space, (few, allocated.0)), as_before allocated.1 rooted.0)
      by_answer (Err heap_fault.Memory) allocated rooted = subst (MakesExternal layouts (view old roots types entries) (view new roots' types back) value) (sym rooted.1) (few, as_before allocated rooted.0)

-- a host table that takes a value isn't full
pub not_full : {A : Type 0} (count : ℕ) (id : A) (back : SlabFault ℕ) → ((◌≡◌ {A = Result A (SlabFault ℕ)} (Ok id) (Err back)) ↔ (count ≡ max_entries)) → count ≢ max_entries
not_full count id back full = λ is. let err : Ok id ≡ Err back = full.1 is in absurd (cc)
