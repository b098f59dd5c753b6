use Rattle.std.proofs.Common.{sym, ◌∙◌}
use Rattle.gc_store.proofs.LyingAt.{value_in, value_live}
use Rattle.gc_store.proofs.store.Store.found_at.Goals as goal

pub found_in-requires : goal.found_in-requires
found_in-requires g c = record {
  table = c.requires.table;
  place = c.requires.holds.0;
  holds = c.requires.holds.1;
  value = c.requires.value;
  has = value_in g.H.GcHeap.KIND c.args.self.now c.requires.table c.requires.holds.0 c.requires.holds.1 c.args.handle c.args.index c.requires.value c.requires.has c.in-Ok.word (sym c.word_of.ensures ∙ c.in-Ok.is);
}

pub unreachable-requires : goal.unreachable-requires
unreachable-requires g c =
    value_live g.H.GcHeap.KIND c.args.self.now c.requires.table c.requires.holds.0 c.requires.holds.1 c.args.handle c.args.index c.requires.value c.requires.has c.in-Err.field-0 (sym c.word_of.ensures ∙ c.in-Err.is)

pub returns : goal.returns
returns g c t place value holds has =
    c.found_in.ensures t place value holds
    (value_in g.H.GcHeap.KIND c.args.self.now t place holds c.args.handle c.args.index value has c.in-Ok.word (sym c.word_of.ensures ∙ c.in-Ok.is))
