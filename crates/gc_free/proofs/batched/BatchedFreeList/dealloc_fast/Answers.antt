use Rattle.std.proofs.Common.{arith, ◌∙◌, ◌≡◌, ◌≤◌, inr, ap, sym, subst}
use Rattle.std.specs.List.{Contains}
use Rattle.gc_free.specs.declared.run.Run.{Run}
use Rattle.gc_free.specs.Runs.{run, end_of}
use Rattle.gc_free.specs.Space.{give}
use Rattle.gc_free.specs.Laws.{give_all}
use Rattle.gc_free.proofs.WaitingRuns.{one_more, may_wait, all_sound, more_fits, more_ends}
use Rattle.gc_free.proofs.batched.BatchedFreeList.dealloc_fast.Goals as goal

pub give_later-requires-clause-can_wait : goal.give_later-requires-clause-can_wait
give_later-requires-clause-can_wait c =
    let xs = c.self.inside.waiting.items in
    let s = c.self.inside.list.space in
    let block : Run = record { place = c.get.result; length = c.args.alloc_size } in
    let among : Contains c.args.self.now.space.held block = subst (λ p. Contains c.args.self.now.space.held (run p c.args.alloc_size)) (sym c.get.ensures.value) c.requires in
    let has : Contains (give_all xs s).held block = subst (λ v. Contains v.space.held block) (sym c.self.view_is) among in
    let one = one_more block xs s (may_wait xs s c.self.invariant.sound (c.has_current.ensures.none c.if-has_current.false) c.self.invariant.waits) has in
    one.can_wait

pub end-requires : goal.end-requires
end-requires c =
    let xs = c.self.inside.waiting.items in
    let s = c.self.inside.list.space in
    let block : Run = record { place = c.get.result; length = c.args.alloc_size } in
    let among : Contains c.args.self.now.space.held block = subst (λ p. Contains c.args.self.now.space.held (run p c.args.alloc_size)) (sym c.get.ensures.value) c.requires in
    let has : Contains (give_all xs s).held block = subst (λ v. Contains v.space.held block) (sym c.self.view_is) among in
    let one = one_more block xs s (may_wait xs s c.self.invariant.sound (c.has_current.ensures.none c.if-has_current.false) c.self.invariant.waits) has in
    more_fits block xs s one.can_wait

pub invariant_of-self-2 : goal.invariant_of-self-2
invariant_of-self-2 c =
    let xs = c.self.inside.waiting.items in
    let block : Run = record { place = c.get.result; length = c.args.alloc_size } in
    let high = c.max-self-inside.result in
    let w = c.give_later.ensures.given.can_wait in
    let last : c.end.result ≡ end_of block = c.end.ensures in
    let low : c.self.inside.highest ≤ high = omega arith in
    let own : end_of block ≤ high = omega arith in
    record {
      sound = w.sound;
      waits = inr w;
      ends = c.give_later.ensures.given.ends high (more_ends block xs c.self.inside.highest high low own c.self.invariant.ends);
      few = c.give_later.ensures.few;
      has_room = omega arith;
    }

pub returns-clause-given : goal.returns-clause-given
returns-clause-given c =
    let xs = c.self.inside.waiting.items in
    let s = c.self.inside.list.space in
    let block : Run = record { place = c.get.result; length = c.args.alloc_size } in
    let among : Contains c.args.self.now.space.held block = subst (λ p. Contains c.args.self.now.space.held (run p c.args.alloc_size)) (sym c.get.ensures.value) c.requires in
    let has : Contains (give_all xs s).held block = subst (λ v. Contains v.space.held block) (sym c.self.view_is) among in
    let one = one_more block xs s (may_wait xs s c.self.invariant.sound (c.has_current.ensures.none c.if-has_current.false) c.self.invariant.waits) has in
    c.give_later.ensures.given.same ∙ one.same ∙ ap (λ v. give block v.space) c.self.view_is
    ∙ ap (λ p. give (run p c.args.alloc_size) c.args.self.now.space) c.get.ensures.value

pub returns-clause-sound : goal.returns-clause-sound
returns-clause-sound c =
    let w = c.give_later.ensures.given.can_wait in
    all_sound c.give_later.new.waiting.items c.give_later.new.list.space w.sound w.held
