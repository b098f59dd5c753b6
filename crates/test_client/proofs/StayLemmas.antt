-- What stays as it is while objects are made and given back.
use Rattle.std.proofs.Common.{◌≡◌, ℕ, Some, Result, Ok, Err, refl, ap, ◌∙◌}
use Rattle.std.specs.FinMap.{get}
use Rattle.gc_types.specs.declared.kind.Layouts.{Layouts}
use Rattle.gc_types.specs.declared.kind.Layouts.TheVariants.{Null, Counting, Copying}
use Rattle.gc_view.specs.Heaps.{HeapObject, HeapView}
use Rattle.gc_view.proofs.Content.{get-put_same}
use Rattle.gc_heap.specs.Heap.{AddsObject, Allocated, given_back, put_object}
use Rattle.gc_heap.specs.declared.fault.HeapFault.{HeapFault}
use Rattle.gc_heap.specs.declared.fault.HeapFault.TheVariants as fault
use Rattle.test_client.specs.Made.{StaysOpen}

-- What is allocated or given back changes neither the memory nor the scopes.
pub added_stays : (layouts : Layouts) (old new : HeapView) (place size : ℕ) (o : HeapObject) → AddsObject layouts old new place o size → StaysOpen old new
added_stays layouts old new place size o added = record { attached = ap (λ (h : HeapView). h.attached) added.added; scopes = ap (λ (h : HeapView). h.scopes) added.added }

back_stays : (layouts : Layouts) (h : HeapView) (place : ℕ) (o : HeapObject) → StaysOpen h (given_back layouts h place o)
back_stays Null h place o = record { attached = refl; scopes = refl }
back_stays Counting h place o = record { attached = refl; scopes = refl }
back_stays Copying h place o = record { attached = refl; scopes = refl }

pub given_stays : (layouts : Layouts) (old middle new : HeapView) (place size : ℕ) (o : HeapObject) → AddsObject layouts old middle place o size → new ≡ given_back layouts middle place o → StaysOpen old new
given_stays layouts old middle new place size o added back =
    let first = added_stays layouts old middle place size o added in
    let second = back_stays layouts middle place o in
    record { attached = ap (λ (h : HeapView). h.attached) back ∙ second.attached ∙ first.attached; scopes = ap (λ (h : HeapView). h.scopes) back ∙ second.scopes ∙ first.scopes }

-- what was added is held
pub held_made : (layouts : Layouts) (old new : HeapView) (place size : ℕ) (o : HeapObject) → AddsObject layouts old new place o size → get new.content place ≡ Some o
held_made layouts old new place size o added = ap (λ (h : HeapView). get h.content place) added.added ∙ get-put_same old.content place o

pub same_stays : (old new : HeapView) → new ≡ old → StaysOpen old new
same_stays old new same = record { attached = ap (λ (h : HeapView). h.attached) same; scopes = ap (λ (h : HeapView). h.scopes) same }

pub put_stays : (old new : HeapView) (place : ℕ) (o : HeapObject) → new ≡ put_object old place o → StaysOpen old new
put_stays old new place o put = record { attached = ap (λ (h : HeapView). h.attached) put; scopes = ap (λ (h : HeapView). h.scopes) put }

-- whatever an allocation answers
pub allocated_stays : (layouts : Layouts) (old new : HeapView) (o : HeapObject) (size : ℕ) (answer : Result (Result ℕ ℕ) HeapFault) → Allocated layouts old new o size answer → StaysOpen old new
allocated_stays layouts old new o size (Ok (Ok place)) added = added_stays layouts old new place size o added
allocated_stays layouts old new o size (Ok (Err need)) lacks = same_stays old new lacks.same
allocated_stays layouts old new o size (Err fault.TooLarge) large = same_stays old new large.1
allocated_stays layouts old new o size (Err fault.Memory) same = same_stays old new same
