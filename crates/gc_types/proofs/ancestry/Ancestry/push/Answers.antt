use Rattle.std.proofs.Common.{◌≡◌, ◌<◌, ◌+◌, ℕ, List, [], ◌∷◌, ◌++◌, Option, None, length, refl, sym, ◌∙◌, subst}
use Rattle.std.proofs.lemmas.List.{length-map}
use Rattle.gc_types.specs.declared.ancestry.Entry.{Entry}
use Rattle.gc_types.specs.Subtyping.{Meets}
use Rattle.gc_types.specs.Ancestors.{ArePlaced, entry_supers, depth_at}
use Rattle.gc_types.proofs.PlacedLemmas.{placed_below, placed_root}
use Rattle.gc_types.proofs.ancestry.Ancestry.push.Goals.{in-Some, in-None}
use Rattle.gc_types.proofs.ancestry.Ancestry.push.Goals as goal

pub below-entry-requires-clause-placed : goal.below-entry-requires-clause-placed
below-entry-requires-clause-placed c = subst (λ (es : List Entry). ArePlaced es) (sym c.deref.ensures.value) c.self.invariant

pub invariant_of-self : goal.invariant_of-self
invariant_of-self c = subst (λ (es : List Entry). ArePlaced es) (sym c.in_err-push.ensures.items) c.self.invariant

pub invariant_of-self-2 : goal.invariant_of-self-2
invariant_of-self-2 c =
    let placed : ArePlaced (c.self.inside.entries.items ++ c.match-supertype.entry ∷ []) = elim c.match-supertype.branch [
      | in-Some w ↦
          let declared = simp length-map at (subst (λ (xs : List (Option ℕ)). w.in-Some.supertype < length xs) (sym c.self.view_is) (c.requires.declared w.in-Some.supertype w.in-Some.is)) in
          let deep = subst (λ (es : List Entry). w.below-entry.result.depth ≡ depth_at es w.in-Some.supertype + 1) w.deref.ensures.value w.below-entry.ensures.depth in
          let far = subst (λ (es : List Entry). Meets (entry_supers es) w.in-Some.supertype w.below-entry.result.jump) w.deref.ensures.value w.below-entry.ensures.jump in
          subst (λ (x : Entry). ArePlaced (c.self.inside.entries.items ++ x ∷ [])) (sym w.entry-is)
          (placed_below c.self.inside.entries.items w.below-entry.result w.in-Some.supertype c.self.invariant declared w.below-entry.ensures.supertype deep far)
      | in-None w ↦
          let root : Entry = record { supertype = None; depth = 0; jump = w.new.result } in
          subst (λ (x : Entry). ArePlaced (c.self.inside.entries.items ++ x ∷ [])) (sym w.entry-is)
          (placed_root c.self.inside.entries.items root c.self.invariant refl refl (w.new.ensures ∙ w.len.ensures ∙ c.self.inside.entries.ok.0))
    ] in
    subst (λ (es : List Entry). ArePlaced es) (sym c.in_ok-push.ensures.items) placed
