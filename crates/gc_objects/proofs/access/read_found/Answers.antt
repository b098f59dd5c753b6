use Rattle.std.proofs.Common.{refl}
use Rattle.gc_store.specs.Roots.{is_of_store}
use Rattle.gc_objects.specs.Answered.{HasField}
use Rattle.gc_objects.proofs.Questions.{asks_no_memory}
use Rattle.gc_objects.proofs.StructLemmas.{reads_no_root, reads_field, reads_field_fault, no_field}
use Rattle.gc_objects.proofs.access.read_found.Goals as goal

pub returns-in-Err-clause-reads : goal.returns-in-Err-clause-reads
returns-in-Err-clause-reads g c t a index holds told =
    reads_no_root g.H.GcHeap.KIND c.args.store.now c.args.root c.args.root refl index c.args.store.now t a (HasField t index)
    c.args.found c.in-Err.fault c.accessed-in-Err.result c.in-Err.is c.accessed-in-Err.ensures told

pub returns-in-Ok-None-clause-reads : goal.returns-in-Ok-None-clause-reads
returns-in-Ok-None-clause-reads g c t a index holds told =
    no_field g.H.GcHeap.KIND c.args.store.now c.args.root c.args.root refl index t c.args.found told c.in-Ok-None.field-0 c.in-Ok-None.is c.in-Ok-None.field-0-is

pub returns-in-Ok-clause-reads : goal.returns-in-Ok-clause-reads
returns-in-Ok-clause-reads g c t a index holds told =
    reads_field g.H.GcHeap.KIND c.args.store.now c.args.root c.args.root refl index t
    c.args.found told c.in-Ok-Some.field-0 c.in-Ok-Some.named c.in-Ok-Some.is c.in-Ok-Some.field-0-is
    c.read.new.store a c.read.result (λ x. c.read.ensures.reads t a x holds) c.in-Ok.value c.in-Ok.is

pub returns-in-Err-read-clause-reads : goal.returns-in-Err-read-clause-reads
returns-in-Err-read-clause-reads g c t a index holds told =
    reads_field_fault g.H.GcHeap.KIND c.args.store.now c.args.root c.args.root refl index t
    c.args.found told c.in-Ok-Some.field-0 c.in-Ok-Some.named c.in-Ok-Some.is c.in-Ok-Some.field-0-is
    c.read.new.store a c.read.result (λ x. c.read.ensures.reads t a x holds) c.in-Err-read.fault c.accessed.result c.in-Err-read.is c.accessed.ensures

pub returns-in-Err-clause-reserved : goal.returns-in-Err-clause-reserved
returns-in-Err-clause-reserved g c t index holds told some is =
    asks_no_memory c.args.store.now t (is_of_store c.args.store.now c.args.root) c.args.root (HasField t index) c.args.found c.in-Err.fault c.accessed-in-Err.result
    c.in-Err.is c.accessed-in-Err.ensures told (cc is)
