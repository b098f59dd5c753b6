use Rattle.std.proofs.Common.{sym, ◌∙◌, arith}
use Rattle.gc_memory.proofs.WordLemmas.{word-is}
use Rattle.gc_copying.proofs.ForwardLemmas.{place_word, can_copy, count_small, word_inside, flag_read, not_one, forwards_before, forwards_new}
use Rattle.gc_copying.proofs.space.Space.forward.Goals as goal

pub read_u32-kind_word-requires : goal.read_u32-kind_word-requires
read_u32-kind_word-requires g c =
    let place = place_word c.args.reference c.if-reference-eq0.false c.if-reference-eq1.false in
    omega (arith, word_inside c.requires.mid c.args.reference (c.requires.known place).0)

pub read_u32-requires : goal.read_u32-requires
read_u32-requires g c =
    let place = place_word c.args.reference c.if-reference-eq0.false c.if-reference-eq1.false in
    omega (arith, word_inside c.requires.mid c.args.reference (c.requires.known place).0)

pub returns-then-kind_word-eq1-clause-moved : goal.returns-then-kind_word-eq1-clause-moved
returns-then-kind_word-eq1-clause-moved g c s t mid known =
    let place = place_word c.args.reference c.if-reference-eq0.false c.if-reference-eq1.false in
    forwards_before s t c.args.self.now c.args.reference c.read_u32.result c.read_u32-kind_word.result place c.read_u32-kind_word.ensures
    c.if-kind_word-eq1.true c.read_u32.ensures mid known

pub copy-requires-clause-copy : goal.copy-requires-clause-copy
copy-requires-clause-copy g c =
    let place = place_word c.args.reference c.if-reference-eq0.false c.if-reference-eq1.false in
    can_copy c.requires.mid c.args.reference (c.requires.known place).0
    (flag_read c.args.self.now.memory c.args.reference c.read_u32-kind_word.result c.read_u32-kind_word.ensures ∙ not_one c.read_u32-kind_word.result c.if-kind_word-eq1.false)

pub copy-requires-clause-kind : goal.copy-requires-clause-kind
copy-requires-clause-kind g c = c.read_u32-kind_word.ensures ∙ sym (word-is c.args.self.now.memory c.args.reference)

pub copy-requires-clause-count : goal.copy-requires-clause-count
copy-requires-clause-count g c = omega (arith, count_small c.requires.mid)

pub returns-clause-moved : goal.returns-clause-moved
returns-clause-moved g c s t mid known =
    let place = place_word c.args.reference c.if-reference-eq0.false c.if-reference-eq1.false in
    forwards_new s t c.args.self.now c.copy.new.self c.args.reference c.copy.result c.read_u32-kind_word.result place c.read_u32-kind_word.ensures
    (not_one c.read_u32-kind_word.result c.if-kind_word-eq1.false) c.copy.ensures.to c.copy.ensures.bytes c.copy.ensures.bump c.copy.ensures.count
    c.copy.ensures.sides mid known
