use Rattle.std.proofs.Common.{[], ◌∷◌, ◌++◌, codes, refl, subst}
use Rattle.gc_model.specs.Accounts.{HoldsAccount}
use Rattle.gc_save_image.specs.Saves.{RefusesSave}
use Rattle.gc_save_image.specs.declared.fault.SaveFault.TheVariants as fault
use Rattle.gcsh_reports.specs.Saving.{saved}
use Rattle.gcsh_reports.proofs.SaveLemmas.{tells_refused}
use Rattle.gcsh_reports.proofs.save.save_report.Goals as goal

pub returns-in-Ok-clause-tells : goal.returns-in-Ok-clause-tells
returns-in-Ok-clause-tells g c t a held = saved (c.in-Ok.ensures.saves t a held)

pub returns-in-Err-NotPlain-clause-tells : goal.returns-in-Err-NotPlain-clause-tells
returns-in-Err-NotPlain-clause-tells g c =
    tells_refused fault.NotPlain (codes "NotPlain" ++ 10 ∷ []) (HoldsAccount g.H.GcHeap.KIND c.args.store.now) c.from_slice.result refl
    (λ t a held. subst (RefusesSave t) c.in-Err-NotPlain.field-0-is (c.in-Err-NotPlain.ensures.saves t a held)) c.from_slice.ensures.items

pub returns-in-Err-RootsFull-clause-tells : goal.returns-in-Err-RootsFull-clause-tells
returns-in-Err-RootsFull-clause-tells g c =
    tells_refused fault.RootsFull (codes "RootsFull" ++ 10 ∷ []) (HoldsAccount g.H.GcHeap.KIND c.args.store.now) c.from_slice-in-Err-RootsFull.result refl
    (λ t a held. subst (RefusesSave t) c.in-Err-RootsFull.field-0-is (c.in-Err-RootsFull.ensures.saves t a held)) c.from_slice-in-Err-RootsFull.ensures.items

pub returns-in-Err-Tangled-clause-tells : goal.returns-in-Err-Tangled-clause-tells
returns-in-Err-Tangled-clause-tells g c =
    tells_refused fault.Tangled (codes "Tangled" ++ 10 ∷ []) (HoldsAccount g.H.GcHeap.KIND c.args.store.now) c.from_slice-in-Err-Tangled.result refl
    (λ t a held. subst (RefusesSave t) c.in-Err-Tangled.field-0-is (c.in-Err-Tangled.ensures.saves t a held)) c.from_slice-in-Err-Tangled.ensures.items
