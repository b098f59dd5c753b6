use Rattle.std.proofs.Common.{◌≡◌, ◌<◌, length, ap, sym, ◌∙◌, subst, arith, eq-eqb}
use Rattle.std.proofs.lemmas.List.{length-map}
use borrow.Author.Tests.{eqb-true}
use Rattle.gc_types.specs.Subtyping.{Meets, here}
use Rattle.gc_types.specs.Ancestors.{entry_supers, entry_depth, depth_at}
use Rattle.gc_types.proofs.SubtypingLemmas.{meets_declared, meets_trans}
use Rattle.gc_types.proofs.AncestorLemmas.{jump_declared, pass_jump, pass_super, Passes, no_super, climbed_to}
use Rattle.gc_types.proofs.ancestry.meets.Goals.{then-entry_at-depth, else-entry_at-depth+in-Some, Joined-entry_at-depth}
use Rattle.gc_types.proofs.ancestry.meets.Goals as goal

pub entry_at-requires : goal.entry_at-requires
entry_at-requires c = jump_declared c.args.entries.now c.requires.placed c.loop-entry.ancestor c.loop-entry.entry c.loop-entry.invariant.is

pub returns-in-None : goal.returns-in-None
returns-in-None c =
    let none = no_super c.args.entries.now c.requires.placed c.loop-entry.ancestor c.loop-entry.entry c.loop-entry.invariant.is c.in-None.is in
    absurd (omega arith)

passes : (c : goal.Joined-entry_at-depth) → Passes c.args.entries.now c.args.sup c.loop-entry.ancestor c.if-entry_at-depth.ancestor
passes c =
    let deep : depth_at c.args.entries.now c.args.sup ≡ c.entry_at-depth.result.depth = ap entry_depth c.entry_at-depth.ensures in
    let is = c.loop-entry.invariant.is in
    elim c.if-entry_at-depth.branch [
      | then-entry_at-depth w ↦
          let by : Passes c.args.entries.now c.args.sup c.loop-entry.ancestor c.loop-entry.entry.jump = pass_jump c.args.entries.now c.requires.placed c.loop-entry.ancestor c.args.sup c.loop-entry.entry c.entry_at.result is c.entry_at.ensures (omega arith) (omega arith) in
          subst (λ z. Passes c.args.entries.now c.args.sup c.loop-entry.ancestor z) (sym w.ancestor-is) by
      | else-entry_at-depth+in-Some w ↦
          let by : Passes c.args.entries.now c.args.sup c.loop-entry.ancestor w.in-Some.supertype = pass_super c.args.entries.now c.requires.placed c.loop-entry.ancestor w.in-Some.supertype c.args.sup c.loop-entry.entry is w.in-Some.is (omega arith) in
          subst (λ z. Passes c.args.entries.now c.args.sup c.loop-entry.ancestor z) (sym w.ancestor-is) by
    ]

pub entry_at-entry-requires-in-loop-entry : goal.entry_at-entry-requires-in-loop-entry
entry_at-entry-requires-in-loop-entry c =
    let declared = (meets_declared (entry_supers c.args.entries.now) (passes c).reached).1 in
    simp length-map at declared

pub loop-entry-smaller : goal.loop-entry-smaller
loop-entry-smaller c = (passes (goal.at.loop-entry-smaller c).Joined-entry_at-depth).older

pub loop-entry-preserved : goal.loop-entry-preserved
loop-entry-preserved c =
    let passed = passes (goal.at.loop-entry-preserved c).Joined-entry_at-depth in
    record {
      is = c.entry_at-entry-in-loop-entry.ensures;
      back = λ m. c.loop-entry.invariant.back (meets_trans (entry_supers c.args.entries.now) passed.reached m);
      on = λ m. passed.kept (c.loop-entry.invariant.on m);
    }

pub returns : goal.returns
returns c =
    let deep : depth_at c.args.entries.now c.args.sup ≡ c.entry_at-depth.result.depth = ap entry_depth c.entry_at-depth.ensures in
    let climbed = c.loop-entry.invariant in
    let declared : c.args.sup < length (entry_supers c.args.entries.now) = rw length-map c.requires.sup in (
      λ h. climbed.back (subst (λ z. Meets (entry_supers c.args.entries.now) z c.args.sup) (sym (eqb-true _ _ (sym c.eq.ensures ∙ h))) (here declared)),
      λ m. c.eq.ensures ∙ eq-eqb _ _ (climbed_to c.args.entries.now c.requires.placed c.loop-entry.ancestor c.args.sup c.loop-entry.entry climbed.is (omega arith) (climbed.on m)),
    )
