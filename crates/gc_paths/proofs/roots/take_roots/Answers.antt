use Rattle.std.proofs.Common.{◌≡◌, ◌+◌, ◌≤◌, ℕ, [], length, take, Result, Bool, true, false, sym, ap, ◌∙◌, subst, arith}
use Rattle.std.specs.Prelude.{sum_by}
use Rattle.std.proofs.lemmas.Option.{none-some, same_Some, slice_get_within}
use Rattle.gc_paths.specs.declared.fault.PathFault.{PathFault}
use Rattle.gc_paths.specs.Answers.{LacksRoots, present_count}
use Rattle.gc_paths.specs.Parts.{parts}
use Rattle.gc_paths.specs.Progress.{AnswersPart, SearchGoesOn, TellsRoot, TellsStarts, word_count}
use Rattle.gc_paths.specs.StartWords.{is_start_name}
use Rattle.gc_paths.proofs.StartRoots.{start_words}
use Rattle.gc_paths.specs.Walks.{start_references}
use Rattle.gc_paths.proofs.Growing.{same_itself, same_twice, err_is}
use Rattle.gc_paths.proofs.RootsLoop.{start_found, none_left, adds_none, adds_twice, is_start_word, roots_begin, roots_more, roots_end, roots_refused}
use Rattle.gc_paths.proofs.roots.take_roots.Goals as goal

true_false : (b : Bool) → b ≡ true → b ≡ false → ⊥
true_false b e f = absurd (cc (sym e ∙ f))

pub loop-number-init : goal.loop-number-init
loop-number-init g c = record {
  goes = λ b is there. roots_begin g.H.GcHeap.KIND b c.args.store.now there (parts c.args.report.now) c.requires;
  adds = adds_none c.args.store.now;
  below = omega arith;
  same = same_itself c.args.store.now;
}

pub returns-in_err-take_root-in-Some-clause-takes : goal.returns-in_err-take_root-in-Some-clause-takes
returns-in_err-take_root-in-Some-clause-takes g c b is there =
    let s = c.args.store.now in
    let start = ap (λ (x : Bool). is_start_name x (length s.scoped) c.in-Some.name) is ∙ ap (λ (m : ℕ). is_start_name c.args.scoped m c.in-Some.name) (sym c.enter_gc_lifo_scope-mark.ensures.seen) ∙ sym c.is_start.ensures ∙ c.if-is_start.true in
    let w = start_found b.scoped s c.loop-number.store c.loop-number.invariant.adds c.loop-number.number c.in-Some.name (sym c.root_name.ensures ∙ c.in-Some.is) start in
    let goes = c.loop-number.invariant.goes b is there in
    let count : ℕ = sum_by word_count (take c.loop-number.number (start_words b.scoped s)) in
    subst (λ (r : Result (Unit {0}) PathFault). AnswersPart g.H.GcHeap.KIND b (SearchGoesOn g.H.GcHeap.KIND b [] 0 (present_count (start_references b.scoped b.table)) c.take_root.new.store (parts c.take_root.new.report) (TellsStarts b)) (LacksRoots b.table (present_count (start_references b.scoped b.table))) r c.take_root.new.store)
    (sym (err_is c.from_residual.result c.in_err-take_root-in-Some.field-0.0 c.from_residual.ensures.1))
    (roots_refused g.H.GcHeap.KIND b s there c.loop-number.number w.0 w.1.0 c.in_err-take_root-in-Some.field-0.0
    (SearchGoesOn g.H.GcHeap.KIND b goes.told 0 (count + word_count w.0) c.take_root.new.store (parts c.take_root.new.report) (TellsRoot b w.0))
    (SearchGoesOn g.H.GcHeap.KIND b [] 0 (present_count (start_references b.scoped b.table)) c.take_root.new.store (parts c.take_root.new.report) (TellsStarts b))
    c.take_root.new.store
    (c.in_err-take_root-in-Some.ensures.takes b goes.told count w.0 goes.progress w.1.1 (is_start_word g.H.GcHeap.KIND b s there c.loop-number.number w.0 w.1.0)))

pub returns-in_err-take_root-in-Some-clause-same : goal.returns-in_err-take_root-in-Some-clause-same
returns-in_err-take_root-in-Some-clause-same g c = same_twice c.args.store.now c.loop-number.store c.take_root.new.store c.loop-number.invariant.same c.take_root.ensures.same

pub returns-in_default-clause-takes : goal.returns-in_default-clause-takes
returns-in_default-clause-takes g c b is there =
    let s = c.args.store.now in
    let past = none_left b.scoped s c.loop-number.store c.loop-number.invariant.adds c.loop-number.number (λ n named start.
    let same : n ≡ c.in-Some.name = same_Some n c.in-Some.name (sym named ∙ sym c.root_name.ensures ∙ c.in-Some.is) in
    true_false (is_start_name b.scoped (length s.scoped) n) start
    (ap (is_start_name b.scoped (length s.scoped)) same ∙ ap (λ (x : Bool). is_start_name x (length s.scoped) c.in-Some.name) is ∙ ap (λ (m : ℕ). is_start_name c.args.scoped m c.in-Some.name) (sym c.enter_gc_lifo_scope-mark.ensures.seen) ∙ sym c.is_start.ensures ∙ c.if-is_start.false)) in
    roots_end g.H.GcHeap.KIND b s there c.loop-number.number (subst (λ (x : Bool). c.loop-number.number ≤ length (start_words x s)) (sym is) c.loop-number.invariant.below) past c.loop-number.store (parts c.loop-number.report) (c.loop-number.invariant.goes b is there)

pub returns-in_default-clause-same : goal.returns-in_default-clause-same
returns-in_default-clause-same g c = c.loop-number.invariant.same

pub returns-in_default-2-clause-takes : goal.returns-in_default-2-clause-takes
returns-in_default-2-clause-takes g c b is there =
    let s = c.args.store.now in
    let past = none_left b.scoped s c.loop-number.store c.loop-number.invariant.adds c.loop-number.number (λ n named start. none-some n (sym (sym c.root_name.ensures ∙ c.in_default.is) ∙ named)) in
    roots_end g.H.GcHeap.KIND b s there c.loop-number.number (subst (λ (x : Bool). c.loop-number.number ≤ length (start_words x s)) (sym is) c.loop-number.invariant.below) past c.loop-number.store (parts c.loop-number.report) (c.loop-number.invariant.goes b is there)

pub returns-in_default-2-clause-same : goal.returns-in_default-2-clause-same
returns-in_default-2-clause-same g c = c.loop-number.invariant.same

pub loop-number-preserved : goal.loop-number-preserved
loop-number-preserved g c =
    let s = c.args.store.now in
    let here = ap (λ (m : ℕ). is_start_name c.args.scoped m c.in-Some.name) (sym c.enter_gc_lifo_scope-mark.ensures.seen) ∙ sym c.is_start.ensures ∙ c.if-is_start.true in
    record {
      goes = λ b is there.
          let start = ap (λ (x : Bool). is_start_name x (length s.scoped) c.in-Some.name) is ∙ here in
          let w = start_found b.scoped s c.loop-number.store c.loop-number.invariant.adds c.loop-number.number c.in-Some.name (sym c.root_name.ensures ∙ c.in-Some.is) start in
          let goes = c.loop-number.invariant.goes b is there in
          roots_more g.H.GcHeap.KIND b s there c.loop-number.number w.0 w.1.0 c.loop-number.store (parts c.loop-number.report) goes c.take_root.new.store (parts c.take_root.new.report)
          (c.in_ok-take_root-in-Some.ensures.takes b goes.told (sum_by word_count (take c.loop-number.number (start_words b.scoped s))) w.0 goes.progress w.1.1 (is_start_word g.H.GcHeap.KIND b s there c.loop-number.number w.0 w.1.0));
      adds = adds_twice s c.loop-number.store c.take_root.new.store c.loop-number.invariant.adds c.in_ok-take_root-in-Some.ensures.adds;
      below =
          let w = start_found c.args.scoped s c.loop-number.store c.loop-number.invariant.adds c.loop-number.number c.in-Some.name (sym c.root_name.ensures ∙ c.in-Some.is) here in
          let inside = slice_get_within (start_words c.args.scoped s) c.loop-number.number w.0 w.1.0 in
          omega (arith, inside);
      same = same_twice s c.loop-number.store c.take_root.new.store c.loop-number.invariant.same c.take_root.ensures.same;
    }

pub returns-clause-takes : goal.returns-clause-takes
returns-clause-takes g c b is there = let goes = c.loop-number.invariant.goes b is there in (sum_by word_count (take c.loop-number.number (start_words b.scoped c.args.store.now)), goes.progress.holds)

pub returns-clause-same : goal.returns-clause-same
returns-clause-same g c = c.loop-number.invariant.same
