use Rattle.std.proofs.Common.{arith}
use Rattle.gc_copying.proofs.MakeLemmas.{writes_block}
use Rattle.gc_copying.proofs.blocks.write_block.Goals as goal

pub returns : goal.returns
returns c =
    writes_block c.args.memory.now c.write_header.new.self c.write_u32.new.self c.fill_zero.new.self c.args.place c.args.header c.args.size
    c.requires.least c.requires.room c.write_header.ensures.around c.write_header.ensures.kind_word c.write_header.ensures.type_word c.write_u32.ensures.bytes c.fill_zero.ensures.bytes (omega (arith, c.ranges.size.fits))
