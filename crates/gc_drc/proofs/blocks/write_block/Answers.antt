use Rattle.std.proofs.Common.{arith}
use Rattle.gc_drc.proofs.PlacingLemmas.{writes_block}
use Rattle.gc_drc.proofs.blocks.write_block.Goals as goal

pub returns : goal.returns
returns c =
    writes_block c.args.memory.now c.fill_zero.new.self c.write_header.new.self c.write_u64.new.self c.write_u32.new.self c.args.place c.args.header c.args.size
    c.requires.least (omega (arith, c.ranges.size.fits)) c.requires.room c.fill_zero.ensures.bytes c.write_header.ensures.around c.write_header.ensures.kind_word c.write_header.ensures.type_word c.write_u64.ensures.bytes c.write_u32.ensures.bytes
