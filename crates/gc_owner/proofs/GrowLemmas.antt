-- How an owner's heap is made and grows, step by step.
use Rattle.std.proofs.Common.{◌≡◌, ℕ, inl, inr, true, Result, Ok, Err, sym, ap, ap₂, ◌∙◌, subst}
use Rattle.gc_types.specs.declared.kind.Layouts.{Layouts}
use Rattle.gc_view.specs.Heaps.{HeapView}
use Rattle.gc_heap.specs.Content.{IsHeap}
use Rattle.gc_owner.specs.declared.pages.PagesFault.{PagesFault}
use Rattle.gc_owner.specs.declared.pages.PagesFault.TheVariants as pages_fault
use Rattle.gc_owner.specs.Limiters.{Limits}
use Rattle.gc_owner.specs.Owners.{OwnerView}
use Rattle.gc_owner.specs.Growing.{OwnerState, state_of, Readies, GrowsMemory, GrowsBy, MakesHeap, Expands}

-- a growth leaves a heap its memory
pub grown_attached : (layouts : Layouts) (bytes : ℕ) (old new : HeapView) (limits limits' : Limits) (result : Result (Unit {0}) PagesFault) → GrowsMemory layouts bytes old new limits limits' result → new.attached ≡ old.attached
grown_attached layouts bytes old new limits limits' (Ok done) grown = ap (λ (h : HeapView). h.attached) grown.1
grown_attached layouts bytes old new limits limits' (Err pages_fault.Refused) grown = ap (λ (h : HeapView). h.attached) grown.1
grown_attached layouts bytes old new limits limits' (Err pages_fault.Memory) grown = ap (λ (h : HeapView). h.attached) grown.1

-- a growth, once the heap is ready
pub grows_by : {D : Type 0} (layouts : Layouts) (bytes : ℕ) (s : OwnerState D) (ready new : OwnerView D) (limits limits' : Limits) (result : Result (Unit {0}) PagesFault) → Readies layouts s (state_of ready limits)
    → new ≡ record ready { heap = new.heap } → IsHeap layouts new.heap → GrowsMemory layouts bytes ready.heap new.heap limits limits' result → GrowsBy layouts bytes s (state_of new limits') result
grows_by layouts bytes s ready new limits limits' (Ok done) readied rest is_heap grown = record {
  ready = state_of ready limits;
  readied = readied;
  asks = grown.0;
  after = ap (λ v. state_of v limits') (rest ∙ ap (λ (h : HeapView). record ready { heap = h }) grown.1);
  is_heap = is_heap;
}
grows_by layouts bytes s ready new limits limits' (Err pages_fault.Refused) readied rest is_heap grown = record {
  ready = state_of ready limits;
  readied = readied;
  asks = grown.0;
  after = ap (λ v. state_of v limits') (rest ∙ ap (λ (h : HeapView). record ready { heap = h }) grown.1);
  is_heap = is_heap;
}
grows_by layouts bytes s ready new limits limits' (Err pages_fault.Memory) readied rest is_heap grown =
    subst (λ e. Readies layouts s e) (sym (ap₂ (λ v l. state_of v l) (rest ∙ ap (λ (h : HeapView). record ready { heap = h }) grown.1) grown.0)) readied

-- a heap that was made has its memory
pub made_attached : (layouts : Layouts) (first : ℕ) (old new : HeapView) (limits limits' : Limits) → MakesHeap layouts first old new limits limits' (Ok tt) → new.attached ≡ true
made_attached layouts first old new limits limits' (inl there, kept) = ap (λ (h : HeapView). h.attached) there.1 ∙ there.0
made_attached layouts first old new limits limits' (inr gets, kept) = ap (λ (h : HeapView). h.attached) gets.empty

module _ {D : Type 0} (layouts : Layouts) (first bytes : ℕ) (s : OwnerState D) (made : OwnerView D) (limits : Limits) (rest : made ≡ record s.owner { heap = made.heap }) where
  -- a heap that was made grows, or it doesn't
  pub made_expands : (e : OwnerState D) (result : Result (Unit {0}) PagesFault) → MakesHeap layouts first s.owner.heap made.heap s.limits limits (Ok tt) → GrowsBy layouts bytes (state_of made limits) e result → Expands layouts first bytes s e result
  made_expands e (Ok done) makes grows = (state_of made limits, (record { makes = makes; rest = rest }, grows))
  made_expands e (Err pages_fault.Refused) makes grows = inr (state_of made limits, (record { makes = makes; rest = rest }, grows))
  made_expands e (Err pages_fault.Memory) makes readied = inr (state_of made limits, (record { makes = makes; rest = rest }, readied))

  -- it was not made
  pub not_made_expands : (fault : PagesFault) → MakesHeap layouts first s.owner.heap made.heap s.limits limits (Err fault) → Expands layouts first bytes s (state_of made limits) (Err fault)
  not_made_expands pages_fault.Refused refused = inl (record { refused = refused; same = rest ∙ ap (λ (h : HeapView). record s.owner { heap = h }) refused.same })
  not_made_expands pages_fault.Memory wanting = inl (ap₂ (λ v l. state_of v l) (rest ∙ ap (λ (h : HeapView). record s.owner { heap = h }) wanting.0) wanting.1)
