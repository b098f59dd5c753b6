-- A heap with more memory.
use Rattle.std.proofs.Common.{◌≡◌, ℕ, ◌+◌, ◌≤◌, Bool, true, false, List, if◌then◌else◌, Result, Ok, Err, OnOk, OnErr, refl, sym, ap, ◌∙◌, subst, arith}
use Rattle.std.specs.Prelude.{◌==◌}
use Rattle.std.proofs.lemmas.Bool.Decides.{nat_tests}
use Rattle.gc_types.specs.declared.kind.Layouts.{Layouts}
use Rattle.gc_types.specs.declared.kind.Layouts.TheVariants.{Null, Counting, Copying}
use Rattle.gc_types.specs.Declarations.{Declaration}
use Rattle.gc_roots.specs.Roots.{Root}
use Rattle.gc_view.specs.Heaps.{HeapView}
use Rattle.gc_heap.specs.Content.{IsHeap}
use Rattle.gc_heap.specs.Heap.{grown}
use Rattle.gc_heap.specs.Collection.{CanCollect, AreCounted}
use Rattle.gc_heap.proofs.AddedLemmas.{start}
use Rattle.test_mutator.specs.declared.fault.MutatorFault.{MutatorFault}

grown_counted : (layouts : Layouts) (types : List Declaration) (h : HeapView) (bytes : ℕ) (roots : List Root) → AreCounted layouts types h roots → AreCounted layouts types (grown layouts h bytes) roots
grown_counted Null types h bytes roots counted = tt
grown_counted Counting types h bytes roots counted = record { counted = counted.counted; shown = λ q held among. counted.shown q (held.0, held.1) among }
grown_counted Copying types h bytes roots counted = tt

-- a collection may begin as before
pub can_collect_grown : (layouts : Layouts) (types : List Declaration) (h : HeapView) (bytes : ℕ) (roots : List Root) (hosts : ℕ → Bool) → CanCollect layouts (start h roots types hosts) → CanCollect layouts (start (grown layouts h bytes) roots types hosts)
can_collect_grown layouts types h bytes roots hosts can = record {
  attached = can.attached;
  open_scopes = can.open_scopes;
  roots = can.roots;
  fields = can.fields;
  typed = can.typed;
  hosts = λ q x is. can.hosts q x (record { held = is.held; kind = is.kind });
  own_hosts = λ p q x y is is' same. can.own_hosts p q x y (record { held = is.held; kind = is.kind }) (record { held = is'.held; kind = is'.kind }) same;
  counts = grown_counted layouts types h bytes roots can.counts;
}

same_allocated : (h : HeapView) → h.allocated ≤ h.capacity → (if h.capacity == 0 then 0 else h.allocated) ≡ h.allocated
same_allocated h within = elim (h.capacity == 0) as (λ b. (h.capacity == 0) ≡ b → (if b then 0 else h.allocated) ≡ h.allocated) [
  | true ↦ λ e. let none : h.capacity ≡ 0 = grind (arith, nat_tests, e) in omega arith
  | false ↦ λ e. refl
] refl

-- with nothing more it is the same
pub grown_none : (layouts : Layouts) (h : HeapView) → IsHeap layouts h → grown layouts h 0 ≡ h
grown_none Null h heap = let same : h.capacity + 0 ≡ h.capacity = omega arith in ap (λ n. record h { capacity = n }) same
grown_none Counting h heap = let same : h.capacity + 0 ≡ h.capacity = omega arith in ap (λ n. record h { capacity = n }) same
grown_none Copying h heap =
    let same : h.capacity + 0 ≡ h.capacity = omega arith in
    ap (λ n. record h { capacity = n; allocated = (if h.capacity == 0 then 0 else h.allocated) }) same ∙ ap (λ n. record h { allocated = n }) (same_allocated h heap.within)

-- it grew, or nothing happened
pub grew : (layouts : Layouts) (types : List Declaration) (old new : HeapView) (bytes : ℕ) (roots : List Root) (hosts : ℕ → Bool) (result : Result (Unit {0}) MutatorFault) → OnOk result (new ≡ grown layouts old bytes) → OnErr result (new ≡ old)
    → CanCollect layouts (start old roots types hosts) → CanCollect layouts (start new roots types hosts)
grew layouts types old new bytes roots hosts (Ok done) ok err can = subst (λ (h : HeapView). CanCollect layouts (start h roots types hosts)) (sym ok) (can_collect_grown layouts types old bytes roots hosts can)
grew layouts types old new bytes roots hosts (Err why) ok err can = subst (λ (h : HeapView). CanCollect layouts (start h roots types hosts)) (sym err) can
