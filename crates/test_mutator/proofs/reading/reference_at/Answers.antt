use Rattle.test_mutator.proofs.FieldLemmas.{word_at}
use Rattle.test_mutator.proofs.reading.reference_at.Goals as goal

pub returns-in-Ok-read_u32-clause-held : goal.returns-in-Ok-read_u32-clause-held
returns-in-Ok-read_u32-clause-held g c = λ o held.
    word_at g.H.GcHeap.KIND (g.H.GcHeap.seen c.args.heap.now) c.args.holder.now c.args.offset o c.in-Ok.data c.read_u32.result c.in-Ok-read_u32.word c.from_raw_u32.result held ((c.has_words.ensures.held o held).0 c.if-not-has_words.false) (c.in-Ok.ensures.held o held)
    c.read_u32.ensures c.in-Ok-read_u32.is c.from_raw_u32.ensures
