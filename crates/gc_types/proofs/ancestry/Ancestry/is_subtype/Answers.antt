use Rattle.std.proofs.Common.{List, sym, subst, arith}
use Rattle.std.proofs.lemmas.List.{length-map}
use Rattle.gc_types.specs.declared.ancestry.Entry.{Entry}
use Rattle.gc_types.specs.Ancestors.{ArePlaced}
use Rattle.gc_types.proofs.SubtypingLemmas.{meets_declared}
use Rattle.gc_types.proofs.ancestry.Ancestry.is_subtype.Goals.{then-as_u32-len-via-then-as_u32-len, then-as_u32-len-via-else-as_u32-len+then-as_u32-len-2}
use Rattle.gc_types.proofs.ancestry.Ancestry.is_subtype.Goals as goal

pub returns-then-as_u32-len : goal.returns-then-as_u32-len
returns-then-as_u32-len c =
    rw (← c.self.view_is) (
      (λ h. cc),
      λ m.
          let declared = simp length-map at (meets_declared _ m) in
          let whole = c.self.inside.entries.ok.0 in
          elim c.then-as_u32-len.branch [
            | then-as_u32-len-via-then-as_u32-len w ↦ absurd (omega arith)
            | then-as_u32-len-via-else-as_u32-len+then-as_u32-len-2 w ↦ absurd (omega arith)
          ],
    )

pub meets-requires-clause-placed : goal.meets-requires-clause-placed
meets-requires-clause-placed c = subst (λ (es : List Entry). ArePlaced es) (sym c.deref.ensures.value) c.self.invariant
