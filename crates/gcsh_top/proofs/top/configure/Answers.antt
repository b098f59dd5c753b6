use Rattle.std.proofs.Common.{ℕ, ap, ◌∙◌}
use Rattle.gc_model.specs.Stores.{StoreView}
use Rattle.std.specs.Int.NonZero.{non_zero_u32_get}
use Rattle.std.specs.Option.{option_map}
use Rattle.gcsh_top.proofs.FormRun.{started}
use Rattle.gcsh_top.proofs.top.configure.Goals as goal

pub returns-clause-ready : goal.returns-clause-ready
returns-clause-ready g c =
    started _ c.in-Some.config _ c.args.form c.configure.ensures.start
    (ap (λ (s : StoreView ℕ). s.first) c.configure.ensures.seen) (ap (λ (s : StoreView ℕ). s.max_scoped) c.configure.ensures.seen) (ap (λ (s : StoreView ℕ). s.max_owned) c.configure.ensures.seen)
    (ap (λ (s : StoreView ℕ). s.alloc_counter) c.configure.ensures.seen ∙ ap (option_map non_zero_u32_get) c.in-Some.ensures.counter)
    c.in-Some.ensures.first c.in-Some.ensures.scoped c.in-Some.ensures.owned
