use Rattle.std.proofs.Common.{sym, subst}
use Rattle.gc_values.specs.Filling.{FillsAs, front_of, asked_type, ContentsFit, ContentsStand}
use Rattle.gc_values.specs.Interning.{ids_of}
use Rattle.gc_script.specs.declared.make.NewValues.{NewValues}
use Rattle.gc_script.specs.NewValues.{contents_of}
use Rattle.gc_script.proofs.command_values.CommandValuesContentSource.fill.Goals as goal

pub returns-in-Operands : goal.returns-in-Operands
returns-in-Operands g c =
    subst (λ (values : NewValues). FillsAs g.H.GcHeap.KIND (front_of g.H.GcHeap.KIND c.args.request.now) c.args.owner.now.seen c.fill.new.owner.seen c.args.gc_ref.now (asked_type c.args.request.now)
    (ContentsFit (ids_of c.args.interned.now) c.args.request.now (contents_of c.args.self.now.registers.now values)) (ContentsStand (ids_of c.args.interned.now) (contents_of c.args.self.now.registers.now values))) (sym c.in-Operands.is)
    c.fill.ensures

pub returns-in-Bytes : goal.returns-in-Bytes
returns-in-Bytes g c =
    subst (λ (values : NewValues). FillsAs g.H.GcHeap.KIND (front_of g.H.GcHeap.KIND c.args.request.now) c.args.owner.now.seen c.fill-in-Bytes.new.owner.seen c.args.gc_ref.now (asked_type c.args.request.now)
    (ContentsFit (ids_of c.args.interned.now) c.args.request.now (contents_of c.args.self.now.registers.now values)) (ContentsStand (ids_of c.args.interned.now) (contents_of c.args.self.now.registers.now values))) (sym c.in-Bytes.is)
    c.fill-in-Bytes.ensures
