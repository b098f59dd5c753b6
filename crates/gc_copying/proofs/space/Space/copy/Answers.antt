use Rattle.std.proofs.Common.{ℕ, ◌+◌, ◌≤◌, sym, subst, ap, arith}
use Rattle.std.proofs.Math.Logic.{◌⊎◌}
use Rattle.gc_copying.proofs.MoreBytes.{copies, size_read}
use Rattle.gc_copying.proofs.space.Space.copy.Goals as goal

pub copy_blocks-requires-clause-source : goal.copy_blocks-requires-clause-source
copy_blocks-requires-clause-source c = omega (arith, size_read c.args.self.now.memory c.args.place c.read_u32-size.result c.read_u32-size.ensures, c.requires.copy.source)

pub copy_blocks-requires-clause-destination : goal.copy_blocks-requires-clause-destination
copy_blocks-requires-clause-destination c = omega (arith, size_read c.args.self.now.memory c.args.place c.read_u32-size.result c.read_u32-size.ensures, c.requires.copy.destination)

pub copy_blocks-requires-clause-apart : goal.copy_blocks-requires-clause-apart
copy_blocks-requires-clause-apart c =
    subst (λ (n : ℕ). (c.args.place + n ≤ c.args.self.now.bump) ⊎ (c.args.self.now.bump + n ≤ c.args.place))
    (sym (size_read c.args.self.now.memory c.args.place c.read_u32-size.result c.read_u32-size.ensures)) c.requires.copy.apart

pub copy_blocks-requires-clause-whole : goal.copy_blocks-requires-clause-whole
copy_blocks-requires-clause-whole c = omega (arith, size_read c.args.self.now.memory c.args.place c.read_u32-size.result c.read_u32-size.ensures, c.requires.copy.whole)

pub overflow_add-self : goal.overflow_add-self
overflow_add-self c = omega (arith, size_read c.args.self.now.memory c.args.place c.read_u32-size.result c.read_u32-size.ensures, c.requires.copy.destination, c.requires.copy.small)

pub returns-clause-bytes : goal.returns-clause-bytes
returns-clause-bytes c =
    copies c.args.self.now.memory c.copy_blocks.new.self c.write_u32.new.self c.write_u32-2.new.self c.args.place c.args.self.now.bump
    c.read_u32-size.result c.args.kind_word c.requires.copy c.read_u32-size.ensures c.requires.kind c.ranges.kind_word.fits
    c.copy_blocks.ensures.bytes c.write_u32.ensures.bytes c.write_u32-2.ensures.bytes

pub returns-clause-bump : goal.returns-clause-bump
returns-clause-bump c = ap (λ (n : ℕ). c.args.self.now.bump + n) (size_read c.args.self.now.memory c.args.place c.read_u32-size.result c.read_u32-size.ensures)
