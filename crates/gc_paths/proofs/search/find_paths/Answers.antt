use Rattle.std.proofs.Common.{◌≡◌, [], Result, Ok, Err, MatchResult, refl, sym, subst}
use Rattle.std.specs.Result.{IsErrAnd}
use Rattle.gc_paths.specs.declared.fault.PathFault.{PathFault}
use Rattle.gc_paths.specs.declared.fault.PathFault.TheVariants as fault
use Rattle.gc_types.specs.declared.kind.Layouts.{Layouts}
use Rattle.gc_model.specs.Stores.{StoreView}
use Rattle.gc_store.specs.OwnedWords.{HoldsThere}
use Rattle.gc_paths.specs.Answers.{LacksRoots, RefusesPaths, present_count}
use Rattle.gc_paths.specs.Parts.{parts}
use Rattle.gc_paths.specs.Progress.{AnswersPart, Basis, Ended, SearchGoesOn, PassesRoom, StoppedSearch, TellsStarts}
use Rattle.gc_paths.specs.Walks.{start_references}
use Rattle.gc_paths.proofs.Ending.{found_all}
use Rattle.gc_paths.proofs.Growing.{same_twice}
use Rattle.gc_paths.proofs.Reaching.{is_full, roots_full}
use Rattle.gc_paths.proofs.search.find_paths.Goals as goal

module _ {D : Type 0} (layouts : Layouts) (b : Basis D) (s : StoreView D) (there : HoldsThere layouts s b.table b.place b.account) (new : StoreView D) where
  -- why the roots were not taken
  roots_refused : (Went : Type 0) (why : PathFault) → AnswersPart layouts b Went (LacksRoots b.table (present_count (start_references b.scoped b.table))) (Err why) new → RefusesPaths b.scoped b.table why × StoppedSearch layouts b new
  roots_refused Went fault.WrongStore never = absurd never
  roots_refused Went fault.Unrooted never = absurd never
  roots_refused Went fault.NoObject never = absurd never
  roots_refused Went fault.RootsFull full = (roots_full layouts s b.table b.place there.0 b.scoped full.0, full.1)
  roots_refused Went fault.Memory stopped = (tt, stopped)

  -- or the objects
  objects_refused : (Went : Type 0) (why : PathFault) → AnswersPart layouts b Went (PassesRoom b (present_count (start_references b.scoped b.table))) (Err why) new → RefusesPaths b.scoped b.table why × StoppedSearch layouts b new
  objects_refused Went fault.WrongStore never = absurd never
  objects_refused Went fault.Unrooted never = absurd never
  objects_refused Went fault.NoObject never = absurd never
  objects_refused Went fault.RootsFull full = (is_full layouts s b.table b.place there.0 b.scoped full.0.walked full.0.distinct full.0.are full.0.lacks, full.1)
  objects_refused Went fault.Memory stopped = (tt, stopped)

-- a refusal that is handed on
handed_on : {A : Type 0} (P : A → Type 0) (Q : PathFault → Type 0) (r : Result A PathFault) (why : PathFault) → IsErrAnd r (λ (e : PathFault). e ≡ why) → Q why → MatchResult r P Q
handed_on P Q (Ok x) why told q = absurd told
handed_on P Q (Err e) why told q = subst Q (sym told) q

pub take_roots-requires : goal.take_roots-requires
take_roots-requires g c = c.new-report.ensures

pub returns-in_err-take_roots-clause-finds : goal.returns-in_err-take_roots-clause-finds
returns-in_err-take_roots-clause-finds g c b is there =
    handed_on _ (RefusesPaths b.scoped b.table) c.from_residual.result c.in_err-take_roots.field-0.0 c.from_residual.ensures.1
    (roots_refused g.H.GcHeap.KIND b c.args.store.now there c.take_roots.new.store (SearchGoesOn g.H.GcHeap.KIND b [] 0 (present_count (start_references b.scoped b.table)) c.take_roots.new.store (parts c.take_roots.new.report) (TellsStarts b)) c.in_err-take_roots.field-0.0 (c.in_err-take_roots.ensures.takes b is there)).0

pub returns-in_err-take_roots-clause-stopped : goal.returns-in_err-take_roots-clause-stopped
returns-in_err-take_roots-clause-stopped g c b is there =
    (roots_refused g.H.GcHeap.KIND b c.args.store.now there c.take_roots.new.store (SearchGoesOn g.H.GcHeap.KIND b [] 0 (present_count (start_references b.scoped b.table)) c.take_roots.new.store (parts c.take_roots.new.report) (TellsStarts b)) c.in_err-take_roots.field-0.0 (c.in_err-take_roots.ensures.takes b is there)).1

pub returns-in_err-take_roots-clause-same : goal.returns-in_err-take_roots-clause-same
returns-in_err-take_roots-clause-same g c = c.take_roots.ensures.same

pub take_objects-requires : goal.take_objects-requires
take_objects-requires g c =
    let held = c.stores_hold_tables.ensures.1.1 in
    let b : Basis g.row.D.Denot = record { scoped = c.args.scoped; table = c.stores_hold_tables.ensures.0; place = held.place; account = c.stores_hold_tables.ensures.1.0 } in
    let goes = c.in_ok-take_roots.ensures.takes b refl (held.holds, held.account) in
    record { basis = b; told = goes.told; count = present_count (start_references b.scoped b.table); progress = goes.progress }

pub returns-in_err-take_objects-clause-finds : goal.returns-in_err-take_objects-clause-finds
returns-in_err-take_objects-clause-finds g c b is there =
    let goes = c.in_ok-take_roots.ensures.takes b is there in
    handed_on _ (RefusesPaths b.scoped b.table) c.from_residual-in_err-take_objects.result c.in_err-take_objects.field-0.0 c.from_residual-in_err-take_objects.ensures.1
    (objects_refused g.H.GcHeap.KIND b c.args.store.now there c.take_objects.new.store (Ended g.H.GcHeap.KIND b goes.told (present_count (start_references b.scoped b.table)) c.take_objects.new.store (parts c.take_objects.new.report)) c.in_err-take_objects.field-0.0
    (c.in_err-take_objects.ensures.takes b goes.told (present_count (start_references b.scoped b.table)) goes.progress)).0

pub returns-in_err-take_objects-clause-stopped : goal.returns-in_err-take_objects-clause-stopped
returns-in_err-take_objects-clause-stopped g c b is there =
    let goes = c.in_ok-take_roots.ensures.takes b is there in
    (objects_refused g.H.GcHeap.KIND b c.args.store.now there c.take_objects.new.store (Ended g.H.GcHeap.KIND b goes.told (present_count (start_references b.scoped b.table)) c.take_objects.new.store (parts c.take_objects.new.report)) c.in_err-take_objects.field-0.0
    (c.in_err-take_objects.ensures.takes b goes.told (present_count (start_references b.scoped b.table)) goes.progress)).1

pub returns-in_err-take_objects-clause-same : goal.returns-in_err-take_objects-clause-same
returns-in_err-take_objects-clause-same g c = same_twice c.args.store.now c.take_roots.new.store c.take_objects.new.store c.take_roots.ensures.same c.take_objects.ensures.same

pub returns-clause-finds : goal.returns-clause-finds
returns-clause-finds g c b is there =
    let goes = c.in_ok-take_roots.ensures.takes b is there in
    found_all g.H.GcHeap.KIND b goes.told (present_count (start_references b.scoped b.table)) c.take_objects.new.store (parts c.take_objects.new.report) goes.done
    (c.in_ok-take_objects.ensures.takes b goes.told (present_count (start_references b.scoped b.table)) goes.progress) refl _ refl refl

pub returns-clause-stopped : goal.returns-clause-stopped
returns-clause-stopped g c b is there =
    let goes = c.in_ok-take_roots.ensures.takes b is there in
    let ended = c.in_ok-take_objects.ensures.takes b goes.told (present_count (start_references b.scoped b.table)) goes.progress in
    (ended.total, ended.progress.holds)

pub returns-clause-same : goal.returns-clause-same
returns-clause-same g c = same_twice c.args.store.now c.take_roots.new.store c.take_objects.new.store c.take_roots.ensures.same c.take_objects.ensures.same
