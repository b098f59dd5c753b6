use Rattle.std.proofs.Common.{ℕ, ◌+◌, cond, Bool, Some, None, refl, sym, ap, ◌∙◌, subst, arith}
use Rattle.gc_heap.specs.Collection.{Start, stage}
use Rattle.gc_owner.specs.RootColumns.{RootsView}
use Rattle.gc_owner.proofs.ListUse.{used_list, list_stepped}
use Rattle.gc_owner.proofs.roots.Roots.step.Goals as goal

pub step-requires : goal.step-requires
step-requires g c =
    let used = used_list c.self.inside.is_listing c.self.inside.list.roots c.requires.0 (ap (λ (r : RootsView). r.listed) c.self.view_is ∙ c.requires.1.0) in
    let s : Start = c.requires.1.1.0 in
    let n : ℕ = c.requires.1.1.1.0 in
    let d : Bool = c.requires.1.1.1.1.0 in
    (s, (n, (d, subst (λ rs. g.H.GcHeap.under_way s n d (stage c.args.heap.now c.args.state.now rs c.args.trace.now.types.now.declarations c.args.trace.now.host_data_table.now.entries)) (sym used.1) c.requires.1.1.1.1.1)))

pub invariant_of-self : goal.invariant_of-self
invariant_of-self g c =
    let used = used_list c.self.inside.is_listing c.self.inside.list.roots c.requires.0 (ap (λ (r : RootsView). r.listed) c.self.view_is ∙ c.requires.1.0) in
    (λ is. absurd (cc (used.0, is)), λ places. omega (arith, c.self.invariant.1 places, c.step.ensures.spare), c.self.invariant.2, c.self.invariant.3, c.self.invariant.4, c.self.invariant.5, c.self.invariant.6)

pub returns-clause-step : goal.returns-clause-step
returns-clause-step g c = λ s n d listed is goes.
    let used = used_list c.self.inside.is_listing c.self.inside.list.roots listed (ap (λ (r : RootsView). r.listed) c.self.view_is ∙ is) in
    record {
      listed = c.step.new.roots.roots;
      roots = list_stepped _ _ c.args.self.now c.step.new.roots.roots c.self.view_is
          (ap (λ b. cond b (Some c.step.new.roots.roots) None) used.0)
          (ap (λ n. n + c.self.inside.given) c.step.ensures.spare) refl;
      steps = c.step.ensures.step s n d (subst (λ rs. g.H.GcHeap.under_way s n d (stage c.args.heap.now c.args.state.now rs c.args.trace.now.types.now.declarations c.args.trace.now.host_data_table.now.entries)) (sym used.1) goes);
    }
