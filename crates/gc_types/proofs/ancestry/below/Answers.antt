use Rattle.std.proofs.Common.{sym, subst, arith}
use Rattle.std.proofs.lemmas.List.{length-map}
use Rattle.gc_types.specs.Subtyping.{Meets, here}
use Rattle.gc_types.specs.Ancestors.{entry_supers}
use Rattle.gc_types.proofs.AncestorLemmas.{jump_declared, jump_depth}
use Rattle.gc_types.proofs.SubtypingLemmas.{meets_trans}
use Rattle.gc_types.proofs.ancestry.below.Goals.{then-parent-far, else-parent-far}
use Rattle.gc_types.proofs.ancestry.below.Goals as goal

pub entry_at-far-requires : goal.entry_at-far-requires
entry_at-far-requires c = jump_declared c.args.entries.now c.requires.placed c.args.supertype c.entry_at-parent.result c.entry_at-parent.ensures

pub entry_at-farther-requires : goal.entry_at-farther-requires
entry_at-farther-requires c = jump_declared c.args.entries.now c.requires.placed c.entry_at-parent.result.jump c.entry_at-far.result c.entry_at-far.ensures

pub overflow_sub-parent : goal.overflow_sub-parent
overflow_sub-parent c = jump_depth c.args.entries.now c.requires.placed c.args.supertype c.entry_at-parent.result c.entry_at-far.result c.entry_at-parent.ensures c.entry_at-far.ensures

pub overflow_sub-far : goal.overflow_sub-far
overflow_sub-far c = jump_depth c.args.entries.now c.requires.placed c.entry_at-parent.result.jump c.entry_at-far.result c.entry_at-farther.result c.entry_at-far.ensures c.entry_at-farther.ensures

pub overflow_add-result : goal.overflow_add-result
overflow_add-result c =
    let bounded = (c.requires.placed c.args.supertype c.entry_at-parent.result c.entry_at-parent.ensures).bounded in
    omega arith

pub returns-clause-jump : goal.returns-clause-jump
returns-clause-jump c =
    let far = (c.requires.placed c.args.supertype c.entry_at-parent.result c.entry_at-parent.ensures).jump in
    let farther = (c.requires.placed c.entry_at-parent.result.jump c.entry_at-far.result c.entry_at-far.ensures).jump in
    elim c.if-parent-far.branch [
      | then-parent-far w ↦ subst (λ j. Meets (entry_supers c.args.entries.now) c.args.supertype j) (sym w.jump-is) (meets_trans (entry_supers c.args.entries.now) far farther)
      | else-parent-far w ↦ subst (λ j. Meets (entry_supers c.args.entries.now) c.args.supertype j) (sym w.jump-is) (here (rw length-map c.requires.declared))
    ]
