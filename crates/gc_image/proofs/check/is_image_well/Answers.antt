use Rattle.std.proofs.Common.{IfOk, IsTrue, Bool, List, [], length, refl, sym, subst}
use Rattle.std.specs.Prelude.{◌↔◌}
use Rattle.std.proofs.lemmas.Bool.{false≢true}
use Rattle.gc_types.specs.Declarations.{Declaration}
use Rattle.gc_commands.specs.declared.command.Command.{Command}
use Rattle.gc_image.specs.declared.image.GlobalLine.{GlobalLine}
use Rattle.gc_image.specs.declared.image.ObjectLine.{ObjectLine}
use Rattle.gc_image.specs.Declaring.{DeclareInTurn}
use Rattle.gc_image.specs.Well.{GlobalsReachAll, AreRising, AreWellGlobals, AreWellObjects}
use Rattle.gc_image.proofs.WellLemmas.{no_globals, no_objects, no_rising, no_types, ok_by_reach}
use Rattle.gc_image.proofs.check.is_image_well.Goals as goal

pub returns-in_default : goal.returns-in_default
returns-in_default c =
    let none = rw c.in_default.is at c.in_ok-types.ensures.none in
    no_types c.args.image.now (subst (λ (cs : List Command). (all : List Declaration) → ¬ DeclareInTurn [] cs all) c.types.ensures none)

pub returns-then-not-are_objects_well : goal.returns-then-not-are_objects_well
returns-then-not-are_objects_well c =
    let some = rw c.in-Some.is at c.in_ok-types.ensures.some in
    let declared = subst (λ (cs : List Command). DeclareInTurn [] cs c.in-Some.types.declarations) c.types.ensures some in
    no_objects c.args.image.now c.in-Some.types.declarations declared
    (λ all. false≢true (c.if-not-are_objects_well.ensures.1 (subst (λ (os : List ObjectLine). AreWellObjects c.in-Some.types.declarations os) (sym c.objects-objects.ensures) all)))

pub returns-then-not-are_globals_well : goal.returns-then-not-are_globals_well
returns-then-not-are_globals_well c =
    no_globals c.args.image.now
    (λ all. false≢true (c.if-not-are_globals_well.ensures.1
    (subst (λ (os : List ObjectLine). AreWellGlobals (length os) c.globals-globals.result.now) (sym c.objects-objects.ensures)
    (subst (λ (gs : List GlobalLine). AreWellGlobals (length c.args.image.now.objects) gs) (sym c.globals-globals.ensures) all))))

pub returns-then-not-are_rising : goal.returns-then-not-are_rising
returns-then-not-are_rising c =
    no_rising c.args.image.now (λ all. false≢true (c.if-not-are_rising.ensures.1 (subst (λ (gs : List GlobalLine). AreRising gs) (sym c.globals-globals.ensures) all)))

pub returns : goal.returns
returns c =
    let some = rw c.in-Some.is at c.in_ok-types.ensures.some in
    let declared = subst (λ (cs : List Command). DeclareInTurn [] cs c.in-Some.types.declarations) c.types.ensures some in
    ok_by_reach c.args.image.now c.in-Some.types.declarations declared c.are_reached.result
    (subst (λ (os : List ObjectLine). AreWellObjects c.in-Some.types.declarations os) c.objects-objects.ensures (c.if-not-are_objects_well.ensures.0 refl))
    (subst (λ (gs : List GlobalLine). AreWellGlobals (length c.args.image.now.objects) gs) c.globals-globals.ensures
    (subst (λ (os : List ObjectLine). AreWellGlobals (length os) c.globals-globals.result.now) c.objects-objects.ensures (c.if-not-are_globals_well.ensures.0 refl)))
    (subst (λ (gs : List GlobalLine). AreRising gs) c.globals-globals.ensures (c.if-not-are_rising.ensures.0 refl))
    (subst (λ (gs : List GlobalLine). IfOk c.are_reached.result (λ (b : Bool). IsTrue b ↔ GlobalsReachAll c.args.image.now.objects gs)) c.globals-globals.ensures
    (subst (λ (os : List ObjectLine). IfOk c.are_reached.result (λ (b : Bool). IsTrue b ↔ GlobalsReachAll os c.globals-globals.result.now)) c.objects-objects.ensures c.are_reached.ensures))
