use Rattle.std.proofs.Common.{◌≡◌, ℕ, List, [], Result, Err, length, sym, ◌∙◌, subst}
use Rattle.gc_types.specs.Declarations.{Declaration}
use Rattle.gc_commands.specs.declared.command.Command.{Command}
use Rattle.gc_model.specs.Table.{start}
use Rattle.gc_model.specs.Accounts.{HoldsAccount, no_account}
use Rattle.gc_image.specs.declared.image.GlobalLine.{GlobalLine}
use Rattle.gc_image.specs.declared.image.ObjectLine.{ObjectLine}
use Rattle.gc_image.specs.Declaring.{DeclareInTurn}
use Rattle.gc_image.specs.Well.{AreRising, AreWellGlobals, AreWellObjects}
use Rattle.gc_image.proofs.TurnLemmas.{one_turn}
use Rattle.gc_load_image.specs.declared.fault.LoadFault.{LoadFault}
use Rattle.gc_load_image.specs.Stages.{AreGlobalsInRange, AreInRange, DeclaresAll, FillsStore, LoadsImage, with_types}
use Rattle.gc_load_image.proofs.LoadLemmas.{declare_stops, globals_in_range, in_range, loads_all, making_start, settings_declared, settings_filled}
use Rattle.gc_load_image.proofs.PushedRoots.{same_twice}
use Rattle.gc_load_image.proofs.SettingsLemmas.{settings_twice}
use Rattle.gc_load_image.proofs.TypeLemmas.{err_is}
use Rattle.gc_load_image.proofs.load.load.Given.{Over}
use Rattle.gc_load_image.proofs.load.load.Goals.{In_ok-declare_types}
use Rattle.gc_load_image.proofs.load.load.Goals as goal

pub declare_types-requires : goal.declare_types-requires
declare_types-requires g c = record { none = c.requires.new.holds.types }

-- the table with the types that were declared
kept : (g : Over) (c : In_ok-declare_types g) → HoldsAccount g.H.GcHeap.KIND c.declare_types.new.store (with_types c.declare_types.new.store.types (start c.args.store.now.first c.args.store.now.max_scoped c.args.store.now.max_owned)) no_account
kept g c = c.declare_types.ensures.keeps (start c.args.store.now.first c.args.store.now.max_scoped c.args.store.now.max_owned) no_account c.requires.new

same_types : (g : Over) (c : In_ok-declare_types g) → c.declare_types.new.store.types ≡ c.requires.well.types
same_types g c =
    one_turn [] c.args.image.now.types c.declare_types.new.store.types c.requires.well.types
    (subst (λ (cs : List Command). DeclareInTurn [] cs c.declare_types.new.store.types) c.types.ensures c.in_ok-declare_types.ensures.declares) c.requires.well.declared

pub fill-loaded-requires-clause-objects : goal.fill-loaded-requires-clause-objects
fill-loaded-requires-clause-objects g c =
    subst (λ (ts : List Declaration). AreWellObjects ts c.objects.result.now) (sym (same_types g (goal.at.fill-loaded-requires-clause-objects g c).In_ok-declare_types))
    (subst (λ (os : List ObjectLine). AreWellObjects c.requires.well.types os) (sym c.objects.ensures) c.requires.well.objects)

pub fill-loaded-requires-clause-globals : goal.fill-loaded-requires-clause-globals
fill-loaded-requires-clause-globals g c =
    subst (λ (os : List ObjectLine). AreWellGlobals (length os) c.globals.result.now) (sym c.objects.ensures)
    (subst (λ (gs : List GlobalLine). AreWellGlobals (length c.args.image.now.objects) gs) (sym c.globals.ensures) c.requires.well.globals)

pub fill-loaded-requires-clause-rising : goal.fill-loaded-requires-clause-rising
fill-loaded-requires-clause-rising g c = subst AreRising (sym c.globals.ensures) c.requires.well.rising

pub fill-loaded-requires-clause-range : goal.fill-loaded-requires-clause-range
fill-loaded-requires-clause-range g c = subst AreInRange (sym c.objects.ensures) (in_range c.args.image.now c.requires.fits)

pub fill-loaded-requires-clause-global_range : goal.fill-loaded-requires-clause-global_range
fill-loaded-requires-clause-global_range g c = subst AreGlobalsInRange (sym c.globals.ensures) (globals_in_range c.args.image.now c.requires.fits)

pub fill-loaded-requires-clause-making : goal.fill-loaded-requires-clause-making
fill-loaded-requires-clause-making g c =
    making_start g.H.GcHeap.KIND c.objects.result.now c.declare_types.new.store c.args.store.now.first c.args.store.now.max_scoped c.args.store.now.max_owned c.declare_types.new.store.types
    (kept g (goal.at.fill-loaded-requires-clause-making g c).In_ok-declare_types)

pub returns : goal.returns
returns g c =
    let at = (goal.at.returns g c).In_ok-declare_types in
    let limits = g.L.ResourceLimiter.limits c.args.limiter.now in
    let limits' = g.L.ResourceLimiter.limits c.fill-loaded.new.limiter in
    let holds = kept g at in
    record {
      loads = loads_all g.H.GcHeap.KIND c.args.image.now c.requires.well limits limits' c.args.store.now.max_scoped c.declare_types.new.store c.fill-loaded.new.store c.exit_gc_lifo_scope.new.self c.enter_gc_lifo_scope-scope.result c.fill-loaded.result
          (same_types g at) holds.holds.settings.max_scoped holds.holds.scoped.same_count (c.enter_gc_lifo_scope-scope.ensures.seen ∙ holds.holds.scoped.same_count)
          (subst (λ (gs : List GlobalLine). FillsStore g.H.GcHeap.KIND c.args.image.now.objects gs limits limits' c.declare_types.new.store c.fill-loaded.result c.fill-loaded.new.store) c.globals.ensures
          (subst (λ (os : List ObjectLine). FillsStore g.H.GcHeap.KIND os c.globals.result.now limits limits' c.declare_types.new.store c.fill-loaded.result c.fill-loaded.new.store) c.objects.ensures c.fill-loaded.ensures.fills))
          c.exit_gc_lifo_scope.ensures.leaves;
      settings = settings_twice c.args.store.now c.declare_types.new.store c.exit_gc_lifo_scope.new.self (settings_declared g.H.GcHeap.KIND c.args.store.now c.declare_types.new.store c.requires.new c.declare_types.ensures.keeps)
          (settings_filled g.H.GcHeap.KIND c.objects.result.now c.globals.result.now limits limits' c.declare_types.new.store c.fill-loaded.new.store c.exit_gc_lifo_scope.new.self c.enter_gc_lifo_scope-scope.result c.fill-loaded.result
          c.fill-loaded.ensures.fills c.exit_gc_lifo_scope.ensures.leaves);
      same = same_twice c.args.store.now c.declare_types.new.store c.exit_gc_lifo_scope.new.self c.declare_types.ensures.same
          (same_twice c.declare_types.new.store c.fill-loaded.new.store c.exit_gc_lifo_scope.new.self c.fill-loaded.ensures.same c.exit_gc_lifo_scope.ensures.same);
    }

pub returns-in_err-declare_types : goal.returns-in_err-declare_types
returns-in_err-declare_types g c =
    let limits = g.L.ResourceLimiter.limits c.args.limiter.now in
    record {
      loads = subst (λ (r : Result ℕ LoadFault). LoadsImage g.H.GcHeap.KIND c.args.store.now.max_scoped c.args.image.now limits limits r c.declare_types.new.store) (sym (err_is c.from_residual.result c.in_err-declare_types.field-0.0 c.from_residual.ensures.1))
          (declare_stops g.H.GcHeap.KIND c.args.image.now c.requires.well limits c.args.store.now.max_scoped c.args.store.now.first c.args.store.now.max_owned c.declare_types.new.store.types c.declare_types.new.store
          (c.declare_types.ensures.keeps (start c.args.store.now.first c.args.store.now.max_scoped c.args.store.now.max_owned) no_account c.requires.new)
          c.in_err-declare_types.field-0.0
          (subst (λ (cs : List Command). DeclaresAll cs c.declare_types.new.store.types (Err c.in_err-declare_types.field-0.0)) c.types.ensures c.in_err-declare_types.ensures.declares));
      settings = settings_declared g.H.GcHeap.KIND c.args.store.now c.declare_types.new.store c.requires.new c.declare_types.ensures.keeps;
      same = c.declare_types.ensures.same;
    }
