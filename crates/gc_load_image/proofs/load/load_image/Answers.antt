use Rattle.std.proofs.Common.{inl, ℕ, Result, refl, sym, ◌∙◌, subst}
use Rattle.gc_image.proofs.WellLemmas.{text_well}
use Rattle.gc_load_image.specs.declared.fault.LoadFault.{LoadFault}
use Rattle.gc_load_image.specs.declared.fault.LoadFault.TheVariants as fault
use Rattle.gc_load_image.specs.Loads.{Loads}
use Rattle.gc_load_image.proofs.LoadLemmas.{loads_text, never_bad, not_begun}
use Rattle.gc_load_image.proofs.PushedRoots.{same_itself}
use Rattle.gc_load_image.proofs.SettingsLemmas.{settings_itself}
use Rattle.gc_load_image.proofs.TypeLemmas.{err_is}
use Rattle.gc_load_image.proofs.load.load_image.Goals as goal

pub returns-in_err-image : goal.returns-in_err-image
returns-in_err-image g c =
    let limits = g.L.ResourceLimiter.limits c.args.limiter.now in
    record {
      loads = subst (λ (r : Result ℕ LoadFault). Loads g.H.GcHeap.KIND c.args.store.now.max_scoped c.args.bytes.now limits limits r c.args.store.now) (sym (err_is c.from_residual.result fault.Memory c.from_residual.ensures.1))
          (not_begun g.H.GcHeap.KIND c.args.bytes.now limits c.args.store.now fault.Memory c.requires.new (inl refl) tt);
      untouched = λ bad. refl;
      settings = settings_itself c.args.store.now;
      same = same_itself c.args.store.now;
    }

pub returns-in_err-is_image_well : goal.returns-in_err-is_image_well
returns-in_err-is_image_well g c =
    let limits = g.L.ResourceLimiter.limits c.args.limiter.now in
    record {
      loads = subst (λ (r : Result ℕ LoadFault). Loads g.H.GcHeap.KIND c.args.store.now.max_scoped c.args.bytes.now limits limits r c.args.store.now) (sym (err_is c.from_residual-in_err-is_image_well.result fault.Memory c.from_residual-in_err-is_image_well.ensures.1))
          (not_begun g.H.GcHeap.KIND c.args.bytes.now limits c.args.store.now fault.Memory c.requires.new (inl refl) tt);
      untouched = λ bad. refl;
      settings = settings_itself c.args.store.now;
      same = same_itself c.args.store.now;
    }

pub returns-in_default : goal.returns-in_default
returns-in_default g c =
    let none = rw c.in_default.is at c.in_ok-image.ensures in
    record {
      loads = not_begun g.H.GcHeap.KIND c.args.bytes.now (g.L.ResourceLimiter.limits c.args.limiter.now) c.args.store.now fault.BadImage c.requires.new refl (λ well. none well.image well.fits well.spelled);
      untouched = λ bad. refl;
      settings = settings_itself c.args.store.now;
      same = same_itself c.args.store.now;
    }

pub returns-then-not-branch : goal.returns-then-not-branch
returns-then-not-branch g c =
    let read = rw c.in-Some.is at c.in_ok-image.ensures in
    record {
      loads = not_begun g.H.GcHeap.KIND c.args.bytes.now (g.L.ResourceLimiter.limits c.args.limiter.now) c.args.store.now fault.BadImage c.requires.new refl
          (λ well. let is = (text_well c.args.bytes.now c.in-Some.image read.0 read.1 c.in_ok-is_image_well.field-0 c.in_ok-is_image_well.ensures).1 well in absurd (cc (sym c.if-not-branch.true ∙ is)));
      untouched = λ bad. refl;
      settings = settings_itself c.args.store.now;
      same = same_itself c.args.store.now;
    }

pub load-requires-clause-new : goal.load-requires-clause-new
load-requires-clause-new g c = c.requires.new

pub load-requires-clause-fits : goal.load-requires-clause-fits
load-requires-clause-fits g c = (rw c.in-Some.is at c.in_ok-image.ensures).0

pub load-requires-clause-well : goal.load-requires-clause-well
load-requires-clause-well g c = c.in_ok-is_image_well.ensures.0 c.if-not-branch.false

pub returns : goal.returns
returns g c =
    let read = rw c.in-Some.is at c.in_ok-image.ensures in
    record {
      loads = loads_text g.H.GcHeap.KIND c.args.store.now.max_scoped c.args.bytes.now c.in-Some.image (g.L.ResourceLimiter.limits c.args.limiter.now) (g.L.ResourceLimiter.limits c.load.new.limiter) c.load.new.store read.0 read.1 c.load.result c.load.ensures.loads;
      untouched = λ bad. absurd (never_bad g.H.GcHeap.KIND c.args.store.now.max_scoped c.in-Some.image (g.L.ResourceLimiter.limits c.args.limiter.now) (g.L.ResourceLimiter.limits c.load.new.limiter) c.load.new.store c.load.result c.load.ensures.loads bad);
      settings = c.load.ensures.settings;
      same = c.load.ensures.same;
    }
