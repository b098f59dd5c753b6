use Rattle.std.proofs.Common.{◌≡◌, ℕ, ◌<◌, ◌^◌, Result, Ok, Err, inr, sym, ap, ◌∙◌, subst, arith}
use Rattle.gc_types.specs.Declarations.{TypeTable}
use Rattle.gc_types.specs.declared.kind.Layouts.{Layouts}
use Rattle.gc_types.specs.Layouts.{layout_at, array_layout_at}
use Rattle.gc_view.specs.Heaps.{HeapObject}
use Rattle.gc_owner.specs.declared.allocate.Description.{Description}
use Rattle.gc_owner.specs.declared.allocate.Description.TheVariants as of
use Rattle.gc_owner.specs.Makes.{Describes}
use Rattle.gc_owner.specs.Owners.{OwnerView}
use Rattle.gc_owner.specs.declared.pages.PagesFault.{PagesFault}
use Rattle.gc_owner.specs.Growing.{OwnerState, state_of, MakesHeap}
use Rattle.gc_values.specs.declared.faults.PlaceFault.{PlaceFault}
use Rattle.gc_values.specs.declared.faults.PlaceFault.TheVariants as fault
use Rattle.gc_values.specs.Making.{AllocatesObject, IsOfTypes, BeginsMaking, MakesRooted}
use Rattle.gc_values.proofs.Keeping.{Keeps, keeps-making, same_count, making_attached}
use Rattle.gc_values.proofs.make.make_object.Given.{Over}
use Rattle.gc_values.proofs.make.make_object.Goals.{After-collect_if_due}
use Rattle.gc_values.proofs.make.make_object.Goals as goal

abbrev before : (g : Over) (c : After-collect_if_due g) → OwnerState g.row.D.Denot
before g c = state_of c.args.owner.now.seen (g.L.ResourceLimiter.limits c.args.limiter.now)

abbrev made : (g : Over) (c : After-collect_if_due g) → OwnerState g.row.D.Denot
made g c = state_of c.make_heap.new.self.seen (g.L.ResourceLimiter.limits c.make_heap.new.limiter)

abbrev due : (g : Over) (c : After-collect_if_due g) → OwnerState g.row.D.Denot
due g c = state_of c.collect_if_due.new.owner.seen (g.L.ResourceLimiter.limits c.make_heap.new.limiter)

-- the heap was made, and collected where that is due
begun : (g : Over) (c : After-collect_if_due g) → BeginsMaking g.H.GcHeap.KIND c.args.first_pages c.args.is_due (before g c) (due g c)
begun g c = record {
  made = made g c;
  begins = record {
    makes = subst (λ (r : Result _ PagesFault). MakesHeap g.H.GcHeap.KIND c.args.first_pages c.args.owner.now.seen.heap c.make_heap.new.self.seen.heap (g.L.ResourceLimiter.limits c.args.limiter.now) (g.L.ResourceLimiter.limits c.make_heap.new.limiter) r) c.in-Ok.is c.make_heap.ensures.made;
    rest = c.make_heap.ensures.rest;
  };
  dues = c.collect_if_due.ensures (g.L.ResourceLimiter.limits c.make_heap.new.limiter);
}

keeps : (g : Over) (c : After-collect_if_due g) → Keeps c.args.owner.now.seen c.collect_if_due.new.owner.seen
keeps g c = keeps-making g.H.GcHeap.KIND c.args.first_pages c.args.is_due (before g c) (due g c) (begun g c)

-- what is described is so still
described_as : {D : Type 0} (layouts : Layouts) (v w : OwnerView D) (d : Description) (o : HeapObject) (size : ℕ) → w.types ≡ v.types → IsOfTypes d → Describes layouts v d o size → Describes layouts w d o size
described_as layouts v w (of.Object ty layout) o size same types is = (ap (λ (ts : TypeTable). layout_at layouts ts.declarations ty) same ∙ is.0, is.1)
described_as layouts v w (of.Array ty count layout) o size same types is = (ap (λ (ts : TypeTable). array_layout_at layouts ts.declarations ty) same ∙ is.0, is.1)
described_as layouts v w (of.External id) o size same types is = absurd types

described_again : (g : Over) (c : After-collect_if_due g) (o : HeapObject) → Describes g.H.GcHeap.KIND c.args.owner.now.seen c.args.description.now o c.args.size → Describes g.H.GcHeap.KIND c.collect_if_due.new.owner.seen c.args.description.now o c.args.size
described_again g c o is = described_as g.H.GcHeap.KIND c.args.owner.now.seen c.collect_if_due.new.owner.seen c.args.description.now o c.args.size (keeps g c).types c.requires.of_types is

pub allocate_object-requires : goal.allocate_object-requires
allocate_object-requires g c =
    let at = (goal.at.allocate_object-requires g c).After-collect_if_due in
    let kept = keeps g at in
    record {
      can = record {
        idle = kept.idle ∙ c.requires.idle;
        attached = making_attached g.H.GcHeap.KIND c.args.first_pages c.args.is_due (before g at) (due g at) (begun g at);
        spare = (let more = kept.spare in let some = c.requires.room in omega (arith, more, some));
        few = subst (λ (n : ℕ). n < 2 ^ 32) (sym (same_count c.args.owner.now.seen c.collect_if_due.new.owner.seen kept)) c.requires.few;
        object = c.requires.described.0;
        size = c.args.size;
        described = described_again g at c.requires.described.0 c.requires.described.1;
      };
    }

-- what allocating it answered, as what the whole does
answers : {D : Type 0} (layouts : _) (o : _) (size first : ℕ) (is_due : _) (s b e : OwnerState D) (r : Result ℕ PlaceFault) → BeginsMaking layouts first is_due s b → AllocatesObject layouts o size b e r → MakesRooted layouts o size first is_due s e r
answers layouts o size first is_due s b e (Ok index) begins made = (b, (begins, made))
answers layouts o size first is_due s b e (Err fault.FuncTableFull) begins made = made
answers layouts o size first is_due s b e (Err fault.ContTableFull) begins made = made
answers layouts o size first is_due s b e (Err fault.TooLarge) begins made = made
answers layouts o size first is_due s b e (Err fault.RootsFull) begins made = made
answers layouts o size first is_due s b e (Err (fault.HeapOutOfMemory f)) begins made = inr (b, (begins, made))
answers layouts o size first is_due s b e (Err fault.Memory) begins made = inr (b, (begins, made))

pub returns-in-Ok : goal.returns-in-Ok
returns-in-Ok g c o is =
    let at = (goal.at.returns-in-Ok g c).After-collect_if_due in
    answers g.H.GcHeap.KIND o c.args.size c.args.first_pages c.args.is_due (before g at) (due g at)
    (state_of c.allocate_object.new.owner.seen (g.L.ResourceLimiter.limits c.allocate_object.new.limiter)) c.allocate_object.result (begun g at)
    (c.allocate_object.ensures o c.args.size (described_again g at o is))
