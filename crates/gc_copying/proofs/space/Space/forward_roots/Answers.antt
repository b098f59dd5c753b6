use Rattle.std.proofs.Common.{◌<◌, length, ◌∙◌, arith}
use Rattle.gc_copying.proofs.RootLemmas.{can_forward_root, roots_more, roots_length, present_more, roots_end}
use Rattle.gc_copying.proofs.space.Space.forward_roots.Goals as goal

pub forward_root-moved-requires : goal.forward_root-moved-requires
forward_root-moved-requires g c =
    let less : c.loop-index.index < length c.args.roots.now.roots = omega (arith, c.loop-index-test.true, c.len-index-end.ensures) in
    can_forward_root c.args.self.now c.loop-index.self c.args.roots.now.roots c.loop-index.roots.roots c.loop-index.index c.word_at.result
    c.loop-index.invariant.along c.requires less c.word_at.ensures

pub loop-index-preserved : goal.loop-index-preserved
loop-index-preserved g c =
    let less : c.loop-index.index < length c.args.roots.now.roots = omega (arith, c.loop-index-test.true, c.len-index-end.ensures) in
    record {
      along = roots_more c.args.self.now c.loop-index.self c.forward_root-moved.new.self c.args.roots.now.roots c.loop-index.roots.roots c.set_word_at.new.self.roots c.loop-index.index
          c.word_at.result c.forward_root-moved.result c.loop-index.invariant.along c.loop-index.invariant.same_length less c.word_at.ensures c.forward_root-moved.ensures.moved
          c.set_word_at.ensures.roots;
      same_length = roots_length c.loop-index.roots.roots c.set_word_at.new.self.roots c.loop-index.index c.forward_root-moved.result c.set_word_at.ensures.roots ∙ c.loop-index.invariant.same_length;
      ticks =
          let more = present_more c.args.self.now c.loop-index.self c.args.roots.now.roots c.loop-index.roots.roots c.loop-index.index c.word_at.result
          c.loop-index.invariant.along c.requires less c.word_at.ensures c.forward_root-moved.ensures.not_null in
          omega (arith, more, c.loop-index.invariant.ticks, c.forward_root-moved.ensures.ticks);
      sides = record {
        upper = c.forward_root-moved.ensures.sides.upper ∙ c.loop-index.invariant.sides.upper;
        externals = c.forward_root-moved.ensures.sides.externals ∙ c.loop-index.invariant.sides.externals;
      };
      rises = omega (arith, c.loop-index.invariant.rises, c.forward_root-moved.ensures.rises);
      spare = c.set_word_at.ensures.spare ∙ c.loop-index.invariant.spare;
    }

pub returns-clause-moved : goal.returns-clause-moved
returns-clause-moved g c s t roots mid =
    roots_end s t c.args.self.now c.loop-index.self c.args.roots.now.roots c.loop-index.roots.roots c.loop-index.index (c.loop-index.invariant.along s t roots mid)
    (omega (arith, c.loop-index-test.false, c.len-index-end.ensures)) c.loop-index.invariant.same_length
