use Rattle.std.proofs.Common.{sym, ◌∙◌}
use Rattle.gc_objects.specs.Given.{named_root}
use Rattle.gc_objects.proofs.CheckLemmas.{root_is_live, no_root_live}
use Rattle.gc_objects.proofs.ValueLemmas.{live_plain, live_root}
use Rattle.gc_objects.proofs.checks.is_live.Goals as goal

pub returns-in-Some-clause-found : goal.returns-in-Some-clause-found
returns-in-Some-clause-found g c live =
    root_is_live g.row.D.Denot g.H.GcHeap.KIND c.args.store.now (named_root c.args.value.now) c.in-Some.handle c.object_at.result c.is_ok.result (sym c.named_root.ensures ∙ c.in-Some.is) c.is_ok.ensures.value c.object_at.ensures.found live

pub returns-in-Some-clause-live : goal.returns-in-Some-clause-live
returns-in-Some-clause-live g c t holds =
    live_root c.args.store.now t c.args.value.now c.in-Some.handle (sym c.named_root.ensures ∙ c.in-Some.is) c.object_at.result c.is_ok.result c.is_ok.ensures.value (c.object_at.ensures.answers t holds)

pub returns-in-None-clause-found : goal.returns-in-None-clause-found
returns-in-None-clause-found g c live = no_root_live g.row.D.Denot g.H.GcHeap.KIND c.args.store.now (named_root c.args.value.now) (sym c.named_root.ensures ∙ c.in-None.is)

pub returns-in-None-clause-live : goal.returns-in-None-clause-live
returns-in-None-clause-live g c t holds = live_plain c.args.store.now t c.args.value.now (sym c.named_root.ensures ∙ c.in-None.is)
