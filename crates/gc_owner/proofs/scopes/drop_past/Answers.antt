use Rattle.std.proofs.Common.{refl, sym, ◌∙◌, subst, arith}
use Rattle.gc_view.specs.Heaps.{HeapView, SameHeld}
use Rattle.gc_owner.specs.RootColumns.{RootsView, roots_of}
use Rattle.gc_owner.specs.Tracing.{IsCollectable}
use Rattle.gc_owner.proofs.ScopeLemmas.{same_held, lowered_held, popped_droppable, popped_kept, popped_count, popped_front, popped_rest, all_popped}
use Rattle.gc_owner.proofs.scopes.drop_past.Goals as goal

pub loop-word-init : goal.loop-word-init
loop-word-init g c = record { sound = c.requires.sound; can = c.requires.can; held = same_held (g.H.GcHeap.seen c.args.heap.now); keeps = λ types hosts can. can; front = refl; rest = refl }

pub drop_word-requires-clause-sound : goal.drop_word-requires-clause-sound
drop_word-requires-clause-sound g c = c.loop-word.invariant.sound

pub drop_word-requires-clause-can : goal.drop_word-requires-clause-can
drop_word-requires-clause-can g c =
    let can = c.loop-word.invariant.can in
    popped_droppable g.H.GcHeap.KIND can.types (g.H.GcHeap.seen c.loop-word.heap) can.hosts c.args.mark c.loop-word.roots c.pop_past.new.self c.in-Some.word c.in-Some.ensures
    (g.met.H.GcHeap.is_heap c.loop-word.heap c.loop-word.invariant.sound) can.collectable

pub loop-word-smaller : goal.loop-word-smaller
loop-word-smaller g c =
    let can = c.loop-word.invariant.can in
    let count = popped_count g.H.GcHeap.KIND can.types (g.H.GcHeap.seen c.loop-word.heap) can.hosts c.args.mark c.loop-word.roots c.pop_past.new.self c.in-Some.word c.in-Some.ensures in
    omega arith

pub loop-word-preserved : goal.loop-word-preserved
loop-word-preserved g c =
    let h : HeapView = g.H.GcHeap.seen c.loop-word.heap in
    let can = c.loop-word.invariant.can in
    record {
      sound = c.drop_word.ensures.sound;
      can = record {
        types = can.types;
        hosts = can.hosts;
        collectable = subst (λ (v : HeapView). IsCollectable g.H.GcHeap.KIND can.types v (roots_of c.pop_past.new.self) can.hosts) (sym c.drop_word.ensures.seen)
            (popped_kept g.H.GcHeap.KIND can.types h can.hosts c.args.mark c.loop-word.roots c.pop_past.new.self c.in-Some.word c.in-Some.ensures can.collectable);
      };
      held = subst (SameHeld (g.H.GcHeap.seen c.args.heap.now)) (sym c.drop_word.ensures.seen) (lowered_held (g.H.GcHeap.seen c.args.heap.now) h c.in-Some.word c.loop-word.invariant.held);
      keeps = λ types hosts first.
          subst (λ (v : HeapView). IsCollectable g.H.GcHeap.KIND types v (roots_of c.pop_past.new.self) hosts) (sym c.drop_word.ensures.seen)
          (popped_kept g.H.GcHeap.KIND types h hosts c.args.mark c.loop-word.roots c.pop_past.new.self c.in-Some.word c.in-Some.ensures (c.loop-word.invariant.keeps types hosts first));
      front = popped_front g.H.GcHeap.KIND can.types h can.hosts c.args.mark c.loop-word.roots c.pop_past.new.self c.in-Some.word c.in-Some.ensures ∙ c.loop-word.invariant.front;
      rest = popped_rest g.H.GcHeap.KIND can.types h can.hosts c.args.mark c.loop-word.roots c.pop_past.new.self c.in-Some.word c.in-Some.ensures c.args.roots.now c.loop-word.invariant.rest;
    }

pub returns-clause-sound : goal.returns-clause-sound
returns-clause-sound g c = c.loop-word.invariant.sound

pub returns-clause-held : goal.returns-clause-held
returns-clause-held g c = c.loop-word.invariant.held

pub returns-clause-keeps : goal.returns-clause-keeps
returns-clause-keeps g c = λ types hosts can.
    subst (λ (r : RootsView). IsCollectable g.H.GcHeap.KIND types (g.H.GcHeap.seen c.loop-word.heap) (roots_of r) hosts) (sym c.in_default.ensures.1) (c.loop-word.invariant.keeps types hosts can)

pub returns-clause-roots : goal.returns-clause-roots
returns-clause-roots g c =
    all_popped c.args.mark c.args.roots.now c.loop-word.roots c.pop_past.new.self c.in_default.ensures.1 c.in_default.ensures.0 c.loop-word.invariant.front c.loop-word.invariant.rest
