-- One try of an allocation: what it leaves of an owner, and what it answers.
use Rattle.std.proofs.Common.{◌≡◌, ℕ, Bool, true, List, Option, Result, Ok, Err, refl, sym, ap, ap₂, ◌∙◌, subst}
use Rattle.std.specs.Prelude.{is_none}
use Rattle.std.specs.FinMap.{FinMap}
use Rattle.std.specs.Ordering.{nat_cmp}
use Rattle.gc_types.specs.declared.kind.Layouts.{Layouts}
use Rattle.gc_types.specs.Declarations.{Declaration, TypeTable}
use Rattle.gc_view.specs.Heaps.{HeapObject, HeapView}
use Rattle.gc_heap.specs.Content.{IsHeap}
use Rattle.gc_heap.specs.Heap.{Allocated}
use Rattle.gc_heap.specs.Collection.{Stage, Start, has_host}
use Rattle.gc_heap.specs.declared.fault.HeapFault.{HeapFault}
use Rattle.gc_heap.specs.declared.fault.HeapFault.TheVariants as heap_fault
use Rattle.gc_owner.specs.declared.allocate.AllocateFault.{AllocateFault}
use Rattle.gc_owner.specs.declared.allocate.Description.{Description}
use Rattle.gc_owner.specs.RootColumns.{RootsView, roots_of}
use Rattle.gc_owner.proofs.ListUse.{ListUse, list_use}
use Rattle.gc_owner.specs.Owners.{OwnerView, OwnerValue, IsReady, InOrder, owner_value}
use Rattle.gc_owner.specs.Tracing.{IsCollectable}
use Rattle.gc_owner.specs.Makes.{CanMakeDescribed, Describes}
use Rattle.gc_owner.specs.Tries.{GetsRoot, Tries}
use Rattle.gc_owner.proofs.MakeLemmas.{IsMakeable, makeable, made_scoped}
use Rattle.gc_owner.proofs.OwnerLemmas.{heap_kind, in_order}

-- What a try leaves: a collection may begin, no list is in use that wasn't, and the heap has its memory.
record Leaves (layouts : Layouts) (types : List Declaration) (new : HeapView) (r r' : RootsView) (hosts : ℕ → Bool) : Type 0 where
  can : IsCollectable layouts types new (roots_of r') hosts
  listed : list_use r' ≡ list_use r
  attached : new.attached ≡ true

module _ (layouts : Layouts) (types : List Declaration) (old new : HeapView) (r r' : RootsView) (hosts : ℕ → Bool) (o : HeapObject) (size : ℕ) (heap : IsHeap layouts old) (attached : old.attached ≡ true) (is : IsMakeable layouts types old hosts o)
    (can : IsCollectable layouts types old (roots_of r) hosts) where
  unchanged : new ≡ old → r' ≡ r → Leaves layouts types new r r' hosts
  unchanged seen same = record {
    can = subst (λ (h : HeapView). IsCollectable layouts types h (roots_of r') hosts) (sym seen) (subst (λ (rs : RootsView). IsCollectable layouts types old (roots_of rs) hosts) (sym same) can);
    listed = ap list_use same;
    attached = ap (λ (h : HeapView). h.attached) seen ∙ attached;
  }

  leaves : (answer : Result (Result ℕ ℕ) HeapFault) (result : Result ℕ AllocateFault) → Allocated layouts old new o size answer → GetsRoot answer r r' result → Leaves layouts types new r r' hosts
  leaves (Ok (Ok word)) result allocated rooted = record {
    can = subst (λ (rs : RootsView). IsCollectable layouts types new (roots_of rs) hosts) (sym rooted.0) (made_scoped layouts types old new word size o allocated r hosts heap attached is can);
    listed = ap list_use rooted.0;
    attached = ap (λ (h : HeapView). h.attached) allocated.added ∙ attached;
  }
  leaves (Ok (Err need)) result allocated rooted = unchanged allocated.same rooted.0
  leaves (Err heap_fault.TooLarge) result allocated rooted = unchanged allocated.1 rooted.0
  leaves (Err heap_fault.Memory) result allocated rooted = unchanged allocated rooted.0

tries_by : {D : Type 0} (layouts : Layouts) (old new : OwnerView D) (o : HeapObject) (size : ℕ) (answer : Result (Result ℕ ℕ) HeapFault) (result : Result ℕ AllocateFault) → new ≡ record old { heap = new.heap; roots = new.roots }
    → Allocated layouts old.heap new.heap o size answer → GetsRoot answer old.roots new.roots result → Tries layouts o size old new result
tries_by layouts old new o size (Ok (Ok word)) result rest allocated rooted =
    subst (Tries layouts o size old new) (sym rooted.1) (record { word = word; adds = allocated; rest = rest ∙ ap (λ (r : RootsView). record old { heap = new.heap; roots = r }) rooted.0; index_is = refl })
tries_by layouts old new o size (Ok (Err need)) result rest allocated rooted =
    subst (Tries layouts o size old new) (sym rooted.1) (allocated, rest ∙ ap₂ (λ (h : HeapView) (r : RootsView). record old { heap = h; roots = r }) allocated.same rooted.0)
tries_by layouts old new o size (Err heap_fault.TooLarge) result rest allocated rooted =
    subst (Tries layouts o size old new) (sym rooted.1) (allocated.0, rest ∙ ap₂ (λ (h : HeapView) (r : RootsView). record old { heap = h; roots = r }) allocated.1 rooted.0)
tries_by layouts old new o size (Err heap_fault.Memory) result rest allocated rooted =
    subst (Tries layouts o size old new) (sym rooted.1) (rest ∙ ap₂ (λ (h : HeapView) (r : RootsView). record old { heap = h; roots = r }) allocated rooted.0)

module _ {H S D : Type 0} (layouts : Layouts) (seen : H → HeapView) (sound : H → Type 0) (under_way : Start → ℕ → Bool → Stage H S → Type 0)
    (heap : H) (types : TypeTable) (hosts : FinMap nat_cmp D) (roots : RootsView) (last : ℕ) (state : Option S) (now : OwnerValue H S D) (is : owner_value (seen heap) types hosts roots last heap state ≡ now)
    (heap' : H) (roots' : RootsView) where
  abbrev before : OwnerValue H S D
  before = owner_value (seen heap) types hosts roots last heap state

  abbrev after : OwnerValue H S D
  after = owner_value (seen heap') types hosts roots' last heap' state

  pub can_at : (d : Description) → CanMakeDescribed layouts now.seen d → CanMakeDescribed layouts before.seen d
  can_at d can = subst (λ (v : OwnerValue H S D). CanMakeDescribed layouts v.seen d) (sym is) can

  -- the owner is ready again
  pub tried_order : (d : Description) (o : HeapObject) (size : ℕ) (answer : Result (Result ℕ ℕ) HeapFault) (result : Result ℕ AllocateFault) → is_none state ≡ true → IsReady layouts (sound heap) before.seen → IsHeap layouts (seen heap) → sound heap'
      → CanMakeDescribed layouts before.seen d → Describes layouts before.seen d o size → Allocated layouts (seen heap) (seen heap') o size answer → GetsRoot answer roots roots' result → InOrder (heap_kind layouts seen sound under_way) after state
  tried_order d o size answer result idle ready heap_is is' can described allocated rooted =
      let left = leaves layouts types.declarations (seen heap) (seen heap') roots roots' (has_host hosts) o size heap_is can.attached (makeable layouts before.seen d o size described) ready.can answer result allocated rooted in
      in_order (heap_kind layouts seen sound under_way) after state idle (record {
        sound = is';
        can = left.can;
        unlisted = ap (λ (u : ListUse). u.listed) left.listed ∙ ready.unlisted;
        unused = λ none. let still : (seen heap').attached ≡ true = left.attached in absurd (cc);
        placed = λ on. ap (λ (u : ListUse). u.has_places) left.listed ∙ ready.placed can.attached;
      })

  -- and the try answers so
  pub tried_by : (d : Description) (o : HeapObject) (size : ℕ) (answer : Result (Result ℕ ℕ) HeapFault) (result : Result ℕ AllocateFault) → (Describes layouts before.seen d o size → Allocated layouts (seen heap) (seen heap') o size answer)
      → GetsRoot answer roots roots' result → Describes layouts now.seen d o size → Tries layouts o size now.seen after.seen result
  tried_by d o size answer result allocated rooted described =
      subst (λ (v : OwnerValue H S D). Tries layouts o size v.seen after.seen result) is
      (tries_by layouts before.seen after.seen o size answer result refl (allocated (subst (λ (v : OwnerValue H S D). Describes layouts v.seen d o size) (sym is) described)) rooted)
