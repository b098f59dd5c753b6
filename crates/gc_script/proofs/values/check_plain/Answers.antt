use Rattle.std.proofs.Common.{◌≡◌, Option, Bor, None, Ok, Err, sym, refl, subst}
use Rattle.std.specs.Option.{option_copied}
use Rattle.gc_types.specs.declared.value.FieldType.{FieldType}
use Rattle.gc_commands.specs.declared.reply.Refusal.TheVariants as refusal
use Rattle.gc_model.specs.Fits.{fits}
use Rattle.gc_model.specs.Holds.{HoldsTable}
use Rattle.gc_model.specs.Values.{Value}
use Rattle.gc_values.specs.declared.root.GcRootIndex.{GcRootIndex}
use Rattle.gc_store.specs.Values.{RawStands}
use Rattle.gc_script.specs.Given.{held_operand}
use Rattle.gc_script.specs.State.{State}
use Rattle.gc_script.specs.Values.{ChecksOperand, TellsHandle}
use Rattle.gc_script.proofs.CheckLemmas.{passes_alone, stops_alone}
use Rattle.gc_script.proofs.ValueLemmas.{found_plain}
use Rattle.gc_script.proofs.values.check_plain.Given as given
use Rattle.gc_script.proofs.values.check_plain.Goals as goal
use Rattle.gc_script.proofs.values.check_plain.Goals.{After-fits}

-- it fits as a value of the table does that it stands for
fit_is : (g : given.Over) (c : After-fits g) (s : State) → HoldsTable g.H.GcHeap.KIND c.args.store.now s.table → (x : Value) → RawStands c.args.store.now s.table c.args.value.now x
    → c.fits.result ≡ fits s.table.types s.table.objects c.in-Some.field.now.element_type x
fit_is g c s holds x stands =
    c.fits.ensures s.table x holds c.requires.plain stands (subst (λ (h : Option GcRootIndex). TellsHandle c.args.store.now s.table h None) (sym c.requires.unnamed) refl)

pub returns-then-fits-clause-checks : goal.returns-then-fits-clause-checks
returns-then-fits-clause-checks g c s v holds stands =
    subst (λ (f : Option (Bor FieldType)). ChecksOperand c.args.store.now s (option_copied f) v c.args.value.now (Ok tt)) (sym c.in-Some.is)
    (passes_alone c.args.store.now s c.in-Some.field.now v c.args.value.now c.fits.result (found_plain c.args.store.now s.table c.args.value.now (held_operand s v) c.requires.unnamed stands)
    (fit_is g (goal.at.returns-then-fits-clause-checks g c).After-fits s holds) c.if-fits.true)

pub returns-else-fits-clause-checks : goal.returns-else-fits-clause-checks
returns-else-fits-clause-checks g c s v holds stands =
    subst (λ (f : Option (Bor FieldType)). ChecksOperand c.args.store.now s (option_copied f) v c.args.value.now (Err refusal.TypeMismatch)) (sym c.in-Some.is)
    (stops_alone c.args.store.now s c.in-Some.field.now v c.args.value.now c.fits.result (found_plain c.args.store.now s.table c.args.value.now (held_operand s v) c.requires.unnamed stands)
    (fit_is g (goal.at.returns-else-fits-clause-checks g c).After-fits s holds) c.if-fits.false)
