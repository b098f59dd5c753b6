use Rattle.std.proofs.Common.{◌≡◌, ◌+◌, ◌^◌, ◌<◌, ◌∙◌, ap, subst, sym, arith}
use Rattle.gc_view.specs.Bytes.{u32_at, put_u32}
use Rattle.gc_memory.specs.Changes.{Wrote}
use Rattle.gc_memory.proofs.HeaderLemmas.{header_put, kind_word_put, Wrote-header}
use Rattle.gc_memory.proofs.memory.HeapMemory.write_header.Goals as goal

-- the words that were written
words : (c : goal.After-write_u32-2) → c.write_u32-2.new.self ≡ put_u32 (put_u32 c.args.self.now c.args.at c.args.header.kind_word) (c.args.at + 4) c.args.header.type_word
words c =
    let first = c.write_u32.ensures.bytes ∙ ap (put_u32 c.args.self.now c.args.at) c.kind_word.ensures in
    let ty_is = c.as_u32.ensures ∙ c.type_index.ensures in
    c.write_u32-2.ensures.bytes
    ∙ ap (put_u32 c.write_u32.new.self (c.args.at + 4)) ty_is
    ∙ ap (λ b. put_u32 b (c.args.at + 4) c.args.header.type_word) first

pub returns-clause-bytes : goal.returns-clause-bytes
returns-clause-bytes c = words c ∙ header_put c.args.self.now c.args.at c.args.header c.requires

pub returns-clause-kind_word : goal.returns-clause-kind_word
returns-clause-kind_word c =
    let small : c.args.header.kind_word < 2 ^ 32 = omega (arith, c.kind_word.ensures, c.kind_word.type_inv) in
    ap (λ b. u32_at b c.args.at) (words c)
    ∙ kind_word_put c.args.self.now c.args.at c.args.header.kind_word c.args.header.type_word c.requires small

pub returns-clause-around : goal.returns-clause-around
returns-clause-around c =
    subst (λ b. Wrote c.args.self.now b c.args.at 8) (sym (words c ∙ header_put c.args.self.now c.args.at c.args.header c.requires))
    (Wrote-header c.args.self.now c.args.at c.args.header c.requires)
