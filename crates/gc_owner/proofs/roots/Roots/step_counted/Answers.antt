use Rattle.std.proofs.Common.{ℕ, ◌+◌, ◌≡◌, cond, Bool, true, Some, None, refl, sym, ap, ◌∙◌, subst}
use Rattle.gc_heap.specs.Collection.{Start, Collected, IsStepCount, has_host, stage}
use Rattle.gc_owner.specs.RootColumns.{RootsView}
use Rattle.gc_owner.proofs.CountingLemmas.{without_count}
use Rattle.gc_owner.proofs.ListUse.{used_list, list_stepped}
use Rattle.gc_owner.proofs.roots.Roots.step_counted.Goals as goal

pub step_counted-requires : goal.step_counted-requires
step_counted-requires g c =
    let used = used_list c.self.inside.is_listing c.self.inside.list.roots c.requires.0 (ap (λ (r : RootsView). r.listed) c.self.view_is ∙ c.requires.1.0) in
    let s : Start = c.requires.1.1.0 in
    let n : ℕ = c.requires.1.1.1.0 in
    let d : Bool = c.requires.1.1.1.1.0 in
    (s, (n, (d, subst (λ rs. g.H.GcHeap.under_way s n d (stage c.args.heap.now c.args.state.now rs c.args.trace.now.types.now.declarations c.args.trace.now.host_data_table.now.entries)) (sym used.1) c.requires.1.1.1.1.1)))

pub returns-clause-step : goal.returns-clause-step
returns-clause-step g c = λ s n d listed is goes.
    let used = used_list c.self.inside.is_listing c.self.inside.list.roots listed (ap (λ (r : RootsView). r.listed) c.self.view_is ∙ is) in
    record {
      listed = c.step_counted.new.roots.roots;
      roots = list_stepped _ _ c.args.self.now c.step_counted.new.roots.roots c.self.view_is
          (ap (λ b. cond b (Some c.step_counted.new.roots.roots) None) used.0)
          (ap (λ n. n + c.self.inside.given) c.step_counted.ensures.spare) refl;
      steps = without_count g.H.GcHeap.KIND s (n + 1) (g.H.GcHeap.under_way s (n + 1) d (stage c.step_counted.new.self c.step_counted.new.state c.step_counted.new.roots.roots c.args.trace.now.types.now.declarations c.step_counted.new.trace.host_data_table.now.entries)) (g.H.GcHeap.sound c.step_counted.new.self) (d ≡ true → IsStepCount g.H.GcHeap.KIND s (g.H.GcHeap.ticks c.step_counted.new.state))
          (Collected g.H.GcHeap.KIND s (g.H.GcHeap.seen c.step_counted.new.self) c.step_counted.new.roots.roots (has_host c.step_counted.new.trace.host_data_table.now.entries)) c.step_counted.result (c.step_counted.ensures.step s n d (subst (λ rs. g.H.GcHeap.under_way s n d (stage c.args.heap.now c.args.state.now rs c.args.trace.now.types.now.declarations c.args.trace.now.host_data_table.now.entries)) (sym used.1) goes));
    }
