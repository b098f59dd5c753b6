use Rattle.std.proofs.Common.{false, true}
use Rattle.gc_owner.proofs.AllRoots.{behind0, behind1, behind2, behind3, follow0, follow1, follow2, follow3, pending_readable, pending_moved}
use Rattle.gc_owner.proofs.roots.take_all.Goals as goal

pub take_column-owned_at-requires : goal.take_column-owned_at-requires
take_column-owned_at-requires c = (c.requires.0, (0, (false, (behind0 c.requires.0 c.args.scoped.now c.args.owned.now c.args.slots.now c.args.globals.now c.args.pending c.args.list.now.roots c.requires.1, (follow0 c.requires.0 c.args.scoped.now c.args.owned.now c.args.slots.now c.args.globals.now c.args.pending c.args.list.now.roots c.requires.1)))))

pub take_column-slots_at-requires : goal.take_column-slots_at-requires
take_column-slots_at-requires c = (c.requires.0, (1, (false, (behind1 c.requires.0 c.args.scoped.now c.args.owned.now c.args.slots.now c.args.globals.now c.args.pending c.args.list.now.roots c.requires.1, (follow1 c.requires.0 c.args.scoped.now c.args.owned.now c.args.slots.now c.args.globals.now c.args.pending c.args.list.now.roots c.requires.1 c.take_column-owned_at.result (c.take_column-owned_at.ensures.next c.requires.0 0 false (behind0 c.requires.0 c.args.scoped.now c.args.owned.now c.args.slots.now c.args.globals.now c.args.pending c.args.list.now.roots c.requires.1) (follow0 c.requires.0 c.args.scoped.now c.args.owned.now c.args.slots.now c.args.globals.now c.args.pending c.args.list.now.roots c.requires.1)))))))

pub take_column-globals_at-requires : goal.take_column-globals_at-requires
take_column-globals_at-requires c = (c.requires.0, (2, (true, (behind2 c.requires.0 c.args.scoped.now c.args.owned.now c.args.slots.now c.args.globals.now c.args.pending c.args.list.now.roots c.requires.1, (follow2 c.requires.0 c.args.scoped.now c.args.owned.now c.args.slots.now c.args.globals.now c.args.pending c.args.list.now.roots c.requires.1 c.take_column-slots_at.result (c.take_column-slots_at.ensures.next c.requires.0 1 false (behind1 c.requires.0 c.args.scoped.now c.args.owned.now c.args.slots.now c.args.globals.now c.args.pending c.args.list.now.roots c.requires.1) (follow1 c.requires.0 c.args.scoped.now c.args.owned.now c.args.slots.now c.args.globals.now c.args.pending c.args.list.now.roots c.requires.1 c.take_column-owned_at.result (c.take_column-owned_at.ensures.next c.requires.0 0 false (behind0 c.requires.0 c.args.scoped.now c.args.owned.now c.args.slots.now c.args.globals.now c.args.pending c.args.list.now.roots c.requires.1) (follow0 c.requires.0 c.args.scoped.now c.args.owned.now c.args.slots.now c.args.globals.now c.args.pending c.args.list.now.roots c.requires.1)))))))))

pub take_column-pending_at-requires : goal.take_column-pending_at-requires
take_column-pending_at-requires c = (c.requires.0, (3, (false, (behind3 c.requires.0 c.args.scoped.now c.args.owned.now c.args.slots.now c.args.globals.now c.args.pending c.args.list.now.roots c.requires.1, (follow3 c.requires.0 c.args.scoped.now c.args.owned.now c.args.slots.now c.args.globals.now c.args.pending c.args.list.now.roots c.requires.1 c.take_column-globals_at.result (c.take_column-globals_at.ensures.next c.requires.0 2 true (behind2 c.requires.0 c.args.scoped.now c.args.owned.now c.args.slots.now c.args.globals.now c.args.pending c.args.list.now.roots c.requires.1) (follow2 c.requires.0 c.args.scoped.now c.args.owned.now c.args.slots.now c.args.globals.now c.args.pending c.args.list.now.roots c.requires.1 c.take_column-slots_at.result (c.take_column-slots_at.ensures.next c.requires.0 1 false (behind1 c.requires.0 c.args.scoped.now c.args.owned.now c.args.slots.now c.args.globals.now c.args.pending c.args.list.now.roots c.requires.1) (follow1 c.requires.0 c.args.scoped.now c.args.owned.now c.args.slots.now c.args.globals.now c.args.pending c.args.list.now.roots c.requires.1 c.take_column-owned_at.result (c.take_column-owned_at.ensures.next c.requires.0 0 false (behind0 c.requires.0 c.args.scoped.now c.args.owned.now c.args.slots.now c.args.globals.now c.args.pending c.args.list.now.roots c.requires.1) (follow0 c.requires.0 c.args.scoped.now c.args.owned.now c.args.slots.now c.args.globals.now c.args.pending c.args.list.now.roots c.requires.1)))))))))))

pub word_from-requires : goal.word_from-requires
word_from-requires c = pending_readable c.requires.0 c.args.scoped.now c.args.owned.now c.args.slots.now c.args.globals.now c.args.pending c.args.list.now.roots c.requires.1 c.take_column-pending_at.result (c.take_column-pending_at.ensures.next c.requires.0 3 false (behind3 c.requires.0 c.args.scoped.now c.args.owned.now c.args.slots.now c.args.globals.now c.args.pending c.args.list.now.roots c.requires.1) (follow3 c.requires.0 c.args.scoped.now c.args.owned.now c.args.slots.now c.args.globals.now c.args.pending c.args.list.now.roots c.requires.1 c.take_column-globals_at.result (c.take_column-globals_at.ensures.next c.requires.0 2 true (behind2 c.requires.0 c.args.scoped.now c.args.owned.now c.args.slots.now c.args.globals.now c.args.pending c.args.list.now.roots c.requires.1) (follow2 c.requires.0 c.args.scoped.now c.args.owned.now c.args.slots.now c.args.globals.now c.args.pending c.args.list.now.roots c.requires.1 c.take_column-slots_at.result (c.take_column-slots_at.ensures.next c.requires.0 1 false (behind1 c.requires.0 c.args.scoped.now c.args.owned.now c.args.slots.now c.args.globals.now c.args.pending c.args.list.now.roots c.requires.1) (follow1 c.requires.0 c.args.scoped.now c.args.owned.now c.args.slots.now c.args.globals.now c.args.pending c.args.list.now.roots c.requires.1 c.take_column-owned_at.result (c.take_column-owned_at.ensures.next c.requires.0 0 false (behind0 c.requires.0 c.args.scoped.now c.args.owned.now c.args.slots.now c.args.globals.now c.args.pending c.args.list.now.roots c.requires.1) (follow0 c.requires.0 c.args.scoped.now c.args.owned.now c.args.slots.now c.args.globals.now c.args.pending c.args.list.now.roots c.requires.1))))))))

pub returns : goal.returns
returns c = λ to is. record {
  scoped_moved = c.take_column-owned_at.ensures.words to 0 false (behind0 to c.args.scoped.now c.args.owned.now c.args.slots.now c.args.globals.now c.args.pending c.args.list.now.roots is) (follow0 to c.args.scoped.now c.args.owned.now c.args.slots.now c.args.globals.now c.args.pending c.args.list.now.roots is);
  owned_moved = c.take_column-slots_at.ensures.words to 1 false (behind1 to c.args.scoped.now c.args.owned.now c.args.slots.now c.args.globals.now c.args.pending c.args.list.now.roots is) (follow1 to c.args.scoped.now c.args.owned.now c.args.slots.now c.args.globals.now c.args.pending c.args.list.now.roots is c.take_column-owned_at.result (c.take_column-owned_at.ensures.next to 0 false (behind0 to c.args.scoped.now c.args.owned.now c.args.slots.now c.args.globals.now c.args.pending c.args.list.now.roots is) (follow0 to c.args.scoped.now c.args.owned.now c.args.slots.now c.args.globals.now c.args.pending c.args.list.now.roots is)));
  slots_moved = c.take_column-globals_at.ensures.words to 2 true (behind2 to c.args.scoped.now c.args.owned.now c.args.slots.now c.args.globals.now c.args.pending c.args.list.now.roots is) (follow2 to c.args.scoped.now c.args.owned.now c.args.slots.now c.args.globals.now c.args.pending c.args.list.now.roots is c.take_column-slots_at.result (c.take_column-slots_at.ensures.next to 1 false (behind1 to c.args.scoped.now c.args.owned.now c.args.slots.now c.args.globals.now c.args.pending c.args.list.now.roots is) (follow1 to c.args.scoped.now c.args.owned.now c.args.slots.now c.args.globals.now c.args.pending c.args.list.now.roots is c.take_column-owned_at.result (c.take_column-owned_at.ensures.next to 0 false (behind0 to c.args.scoped.now c.args.owned.now c.args.slots.now c.args.globals.now c.args.pending c.args.list.now.roots is) (follow0 to c.args.scoped.now c.args.owned.now c.args.slots.now c.args.globals.now c.args.pending c.args.list.now.roots is)))));
  globals_moved = c.take_column-pending_at.ensures.words to 3 false (behind3 to c.args.scoped.now c.args.owned.now c.args.slots.now c.args.globals.now c.args.pending c.args.list.now.roots is) (follow3 to c.args.scoped.now c.args.owned.now c.args.slots.now c.args.globals.now c.args.pending c.args.list.now.roots is c.take_column-globals_at.result (c.take_column-globals_at.ensures.next to 2 true (behind2 to c.args.scoped.now c.args.owned.now c.args.slots.now c.args.globals.now c.args.pending c.args.list.now.roots is) (follow2 to c.args.scoped.now c.args.owned.now c.args.slots.now c.args.globals.now c.args.pending c.args.list.now.roots is c.take_column-slots_at.result (c.take_column-slots_at.ensures.next to 1 false (behind1 to c.args.scoped.now c.args.owned.now c.args.slots.now c.args.globals.now c.args.pending c.args.list.now.roots is) (follow1 to c.args.scoped.now c.args.owned.now c.args.slots.now c.args.globals.now c.args.pending c.args.list.now.roots is c.take_column-owned_at.result (c.take_column-owned_at.ensures.next to 0 false (behind0 to c.args.scoped.now c.args.owned.now c.args.slots.now c.args.globals.now c.args.pending c.args.list.now.roots is) (follow0 to c.args.scoped.now c.args.owned.now c.args.slots.now c.args.globals.now c.args.pending c.args.list.now.roots is)))))));
  pending_moved = pending_moved to c.args.scoped.now c.args.owned.now c.args.slots.now c.args.globals.now c.args.pending c.args.list.now.roots is c.take_column-pending_at.result c.word_from.result (c.take_column-pending_at.ensures.next to 3 false (behind3 to c.args.scoped.now c.args.owned.now c.args.slots.now c.args.globals.now c.args.pending c.args.list.now.roots is) (follow3 to c.args.scoped.now c.args.owned.now c.args.slots.now c.args.globals.now c.args.pending c.args.list.now.roots is c.take_column-globals_at.result (c.take_column-globals_at.ensures.next to 2 true (behind2 to c.args.scoped.now c.args.owned.now c.args.slots.now c.args.globals.now c.args.pending c.args.list.now.roots is) (follow2 to c.args.scoped.now c.args.owned.now c.args.slots.now c.args.globals.now c.args.pending c.args.list.now.roots is c.take_column-slots_at.result (c.take_column-slots_at.ensures.next to 1 false (behind1 to c.args.scoped.now c.args.owned.now c.args.slots.now c.args.globals.now c.args.pending c.args.list.now.roots is) (follow1 to c.args.scoped.now c.args.owned.now c.args.slots.now c.args.globals.now c.args.pending c.args.list.now.roots is c.take_column-owned_at.result (c.take_column-owned_at.ensures.next to 0 false (behind0 to c.args.scoped.now c.args.owned.now c.args.slots.now c.args.globals.now c.args.pending c.args.list.now.roots is) (follow0 to c.args.scoped.now c.args.owned.now c.args.slots.now c.args.globals.now c.args.pending c.args.list.now.roots is)))))))) c.word_from.ensures;
}
