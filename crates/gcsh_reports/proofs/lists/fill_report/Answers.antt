use Rattle.std.proofs.Common.{◌∙◌, refl, ap, sum_by, string_bytes, List, ℤ, length, Result, Err, subst}
use Rattle.std.specs.Prelude.{unsigned_abs}
use Rattle.gc_types.specs.declared.types.TypeFault.{TypeFault}
use Rattle.gc_model.specs.Table.{start}
use Rattle.gc_model.specs.Accounts.{no_account}
use Rattle.gc_lists.specs.Kits.{MakesKit}
use Rattle.gc_lists.specs.declared.kit.Kit.{Kit}
use Rattle.gc_lists.specs.declared.fault.ListFault.{ListFault}
use Rattle.gc_lists.specs.declared.fault.ListFault.TheVariants as fault
use Rattle.gcsh_reports.specs.FillReports.{fill_text}
use Rattle.gcsh_reports.proofs.AloneLemmas.{start_names_none}
use Rattle.gcsh_reports.proofs.ListLemmas.{always, begins, collected_within, copied_as, none_within, uncopied_within, unmade_within, fails_as, if_ok, kit_known, map_stands, tells_filled, tells_full}
use Rattle.gcsh_reports.proofs.lists.fill_report.Goals as goal

pub fill-requires-clause-held : goal.fill-requires-clause-held
fill-requires-clause-held g c =
    let t = start c.args.store.now.first c.args.store.now.max_scoped c.args.store.now.max_owned in
    begins g.H.GcHeap.KIND (g.L.ResourceLimiter.limits c.args.limiter.now) t no_account c.new.new.store c.in-Ok.kit (none_within (g.L.ResourceLimiter.limits c.args.limiter.now).limit) (record { owned = refl; others = start_names_none c.args.store.now.first c.args.store.now.max_scoped c.args.store.now.max_owned }) (kit_known g.H.GcHeap.KIND c.args.store.now c.new.new.store c.new.result c.in-Ok.kit c.new.ensures.makes c.in-Ok.is t no_account c.requires.start)

pub copy_out-requires : goal.copy_out-requires
copy_out-requires g c = record {
  stands = map_stands g.H.GcHeap.KIND (g.L.ResourceLimiter.limits c.args.limiter.now) c.args.inserts c.args.store.now c.new.new.store c.fill.new.store c.in-Ok.kit (kit_known g.H.GcHeap.KIND c.args.store.now c.new.new.store c.new.result c.in-Ok.kit c.new.ensures.makes c.in-Ok.is) (g.L.ResourceLimiter.limits c.fill.new.limiter) c.in_ok-filled.filled c.in_ok-filled.ensures.fills;
}

pub returns-in-Ok-copy_out-clause-tells : goal.returns-in-Ok-copy_out-clause-tells
returns-in-Ok-copy_out-clause-tells g c =
    let made = kit_known g.H.GcHeap.KIND c.args.store.now c.new.new.store c.new.result c.in-Ok.kit c.new.ensures.makes c.in-Ok.is in
    let copies = copied_as g.H.GcHeap.KIND (g.L.ResourceLimiter.limits c.args.limiter.now) c.args.inserts c.args.store.now c.new.new.store c.fill.new.store c.in-Ok.kit made (g.L.ResourceLimiter.limits c.fill.new.limiter) c.in_ok-filled.filled c.in_ok-filled.ensures.fills (λ v. v.items) c.copy_out.new.store c.copy_out.result c.copy_out.ensures.copies _ c.in-Ok-copy_out.is in
    if_ok c.counts_text.result _ _ (λ text is. tells_filled g.H.GcHeap.KIND (g.L.ResourceLimiter.limits c.args.limiter.now) c.args.inserts c.args.store.now c.new.new.store c.fill.new.store c.in-Ok.kit made (g.L.ResourceLimiter.limits c.fill.new.limiter) c.in_ok-filled.filled c.in_ok-filled.ensures.fills c.copy_out.new.store c.gc.new.self c.in-Ok-copy_out.entries.items c.held_objects.result (string_bytes text)
    c.copy_out.ensures.same c.gc.ensures.same copies c.gc.ensures.kept c.held_objects.ensures.kept
    (is ∙ ap (λ n. fill_text n c.in_ok-filled.filled.refused c.held_objects.result c.sum_of.result) (c.len.ensures ∙ c.in-Ok-copy_out.entries.ok.0)
    ∙ ap (λ s. fill_text (length c.in-Ok-copy_out.entries.items) c.in_ok-filled.filled.refused c.held_objects.result s) (c.sum_of.ensures ∙ ap (λ (es : List (ℤ × ℤ)). sum_by (λ (entry : ℤ × ℤ). unsigned_abs entry.1) es) c.deref.ensures.value))) c.counts_text.ensures

pub returns-in-Err-RootsFull-clause-tells : goal.returns-in-Err-RootsFull-clause-tells
returns-in-Err-RootsFull-clause-tells g c =
    let made = kit_known g.H.GcHeap.KIND c.args.store.now c.new.new.store c.new.result c.in-Ok.kit c.new.ensures.makes c.in-Ok.is in
    let fails = fails_as g.H.GcHeap.KIND (g.L.ResourceLimiter.limits c.args.limiter.now) c.args.inserts c.args.store.now c.new.new.store c.fill.new.store c.in-Ok.kit made (g.L.ResourceLimiter.limits c.fill.new.limiter) c.in_ok-filled.filled c.in_ok-filled.ensures.fills (λ v. v.items) c.copy_out.new.store c.copy_out.result c.copy_out.ensures.copies fault.RootsFull
    (c.in-Err-RootsFull.is ∙ ap (λ (f : ListFault). Err f) c.in-Err-RootsFull.field-0-is) in
    if_ok c.full_text.result _ _ (λ text is. tells_full g.H.GcHeap.KIND (g.L.ResourceLimiter.limits c.args.limiter.now) c.args.inserts c.args.store.now c.new.new.store c.fill.new.store c.in-Ok.kit made (g.L.ResourceLimiter.limits c.fill.new.limiter) c.in_ok-filled.filled c.in_ok-filled.ensures.fills c.copy_out.new.store (string_bytes text) fails is) c.full_text.ensures

pub returns-in_default-clause-wants : goal.returns-in_default-clause-wants
returns-in_default-clause-wants g c =
    let t = start c.args.store.now.first c.args.store.now.max_scoped c.args.store.now.max_owned in
    unmade_within g.H.GcHeap.KIND (g.L.ResourceLimiter.limits c.args.limiter.now).limit t no_account c.new.new.store c.in_default.field-0 (none_within (g.L.ResourceLimiter.limits c.args.limiter.now).limit)
    (subst (λ (r : Result Kit TypeFault). MakesKit g.H.GcHeap.KIND t no_account r c.new.new.store) c.in_default.is (c.new.ensures.makes t no_account c.requires.start))

pub returns-in-Ok-copy_out-clause-wants : goal.returns-in-Ok-copy_out-clause-wants
returns-in-Ok-copy_out-clause-wants g c =
    let copies = copied_as g.H.GcHeap.KIND (g.L.ResourceLimiter.limits c.args.limiter.now) c.args.inserts c.args.store.now c.new.new.store c.fill.new.store c.in-Ok.kit (kit_known g.H.GcHeap.KIND c.args.store.now c.new.new.store c.new.result c.in-Ok.kit c.new.ensures.makes c.in-Ok.is) (g.L.ResourceLimiter.limits c.fill.new.limiter) c.in_ok-filled.filled c.in_ok-filled.ensures.fills (λ v. v.items) c.copy_out.new.store c.copy_out.result c.copy_out.ensures.copies _ c.in-Ok-copy_out.is in
    always c.counts_text.result (collected_within g.H.GcHeap.KIND (g.L.ResourceLimiter.limits c.args.limiter.now) c.args.inserts c.args.store.now c.new.new.store c.fill.new.store c.in-Ok.kit (kit_known g.H.GcHeap.KIND c.args.store.now c.new.new.store c.new.result c.in-Ok.kit c.new.ensures.makes c.in-Ok.is) (g.L.ResourceLimiter.limits c.fill.new.limiter) c.in_ok-filled.filled c.in_ok-filled.ensures.fills c.copy_out.new.store c.gc.new.self c.in-Ok-copy_out.entries.items copies c.gc.ensures.kept)

pub returns-in-Err-RootsFull-clause-wants : goal.returns-in-Err-RootsFull-clause-wants
returns-in-Err-RootsFull-clause-wants g c =
    always c.full_text.result (uncopied_within g.H.GcHeap.KIND (g.L.ResourceLimiter.limits c.args.limiter.now) c.args.inserts c.args.store.now c.new.new.store c.fill.new.store c.in-Ok.kit (kit_known g.H.GcHeap.KIND c.args.store.now c.new.new.store c.new.result c.in-Ok.kit c.new.ensures.makes c.in-Ok.is) (g.L.ResourceLimiter.limits c.fill.new.limiter) c.in_ok-filled.filled c.in_ok-filled.ensures.fills fault.RootsFull c.copy_out.new.store
    (fails_as g.H.GcHeap.KIND (g.L.ResourceLimiter.limits c.args.limiter.now) c.args.inserts c.args.store.now c.new.new.store c.fill.new.store c.in-Ok.kit (kit_known g.H.GcHeap.KIND c.args.store.now c.new.new.store c.new.result c.in-Ok.kit c.new.ensures.makes c.in-Ok.is) (g.L.ResourceLimiter.limits c.fill.new.limiter) c.in_ok-filled.filled c.in_ok-filled.ensures.fills (λ v. v.items) c.copy_out.new.store c.copy_out.result c.copy_out.ensures.copies fault.RootsFull (c.in-Err-RootsFull.is ∙ ap (λ (f : ListFault). Err f) c.in-Err-RootsFull.field-0-is)))

pub returns-in-Err-clause-wants : goal.returns-in-Err-clause-wants
returns-in-Err-clause-wants g c =
    uncopied_within g.H.GcHeap.KIND (g.L.ResourceLimiter.limits c.args.limiter.now) c.args.inserts c.args.store.now c.new.new.store c.fill.new.store c.in-Ok.kit (kit_known g.H.GcHeap.KIND c.args.store.now c.new.new.store c.new.result c.in-Ok.kit c.new.ensures.makes c.in-Ok.is) (g.L.ResourceLimiter.limits c.fill.new.limiter) c.in_ok-filled.filled c.in_ok-filled.ensures.fills c.in-Err.field-0 c.copy_out.new.store (fails_as g.H.GcHeap.KIND (g.L.ResourceLimiter.limits c.args.limiter.now) c.args.inserts c.args.store.now c.new.new.store c.fill.new.store c.in-Ok.kit (kit_known g.H.GcHeap.KIND c.args.store.now c.new.new.store c.new.result c.in-Ok.kit c.new.ensures.makes c.in-Ok.is) (g.L.ResourceLimiter.limits c.fill.new.limiter) c.in_ok-filled.filled c.in_ok-filled.ensures.fills (λ v. v.items) c.copy_out.new.store c.copy_out.result c.copy_out.ensures.copies c.in-Err.field-0 c.in-Err.is)
