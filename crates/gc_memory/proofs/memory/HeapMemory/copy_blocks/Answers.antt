use Rattle.std.proofs.Common.{◌≡◌, ◌+◌, ◌*◌, ◌≤◌, take, drop, ap, ◌∙◌, arith}
use Rattle.gc_view.specs.Bytes.{put_bytes}
use Rattle.gc_memory.proofs.ChangeLemmas.{copied_more}
use Rattle.gc_memory.proofs.memory.HeapMemory.copy_blocks.Goals as goal

pub loop-index-preserved : goal.loop-index-preserved
loop-index-preserved c =
    let inside : 16 * c.loop-index.index + 16 ≤ c.args.count = omega (arith, c.loop-index-test.true) in
    let more : 16 * c.loop-index.index + 16 ≡ 16 * (c.loop-index.index + 1) = omega arith in
    c.copy_block.ensures.bytes
    ∙ copied_more c.args.self.now c.args.from c.args.to c.args.count (16 * c.loop-index.index) 16 c.requires.source c.requires.destination c.requires.apart inside
    c.loop-index.self c.loop-index.invariant
    ∙ ap (λ n. put_bytes c.args.self.now c.args.to (take n (drop c.args.from c.args.self.now))) more
