use Rattle.std.proofs.Common.{◌≡◌, ◌+◌, ◌++◌, ◌∷◌, [], ℕ, List, length, refl, sym, subst, arith, rules, Vec, Global}
use Rattle.gc_model.specs.Table.{Table}
use Rattle.gc_model.specs.Accounts.{Account, HoldsAccount}
use Rattle.gc_paths.proofs.Growing.{same_itself, same_twice, err_is}
use Rattle.gc_save_image.specs.declared.globals.GlobalRead.{GlobalRead}
use Rattle.gc_save_image.specs.GlobalSteps.{AnswersGlobals, GlobalsRead}
use Rattle.gc_save_image.proofs.ReadSlots.{globals_begin, globals_more, globals_refused, globals_stopped, globals_there, slot_there}
use Rattle.gc_save_image.proofs.globals.read_globals.Given as given
use Rattle.gc_save_image.proofs.globals.read_globals.Goals as goal
use Rattle.gc_save_image.proofs.globals.read_globals.Goals.{In_ok-read}

pub loop-global-init : goal.loop-global-init
loop-global-init g c = record {
  goes = λ t a held. globals_begin g.H.GcHeap.KIND t a c.args.store.now c.new-reads.result.items c.new-reads.ensures.items held;
  same = same_itself c.args.store.now;
}

pub returns-in_err-read-clause-reads : goal.returns-in_err-read-clause-reads
returns-in_err-read-clause-reads g c t a held =
    let so_far = c.loop-global.invariant.goes t a held in
    let many = held.holds.globals.count in
    let slot = slot_there t.globals c.loop-global.global (omega (arith, many, c.loop-global-test.true)) in
    subst (λ r. AnswersGlobals g.H.GcHeap.KIND t a (λ (reads : Vec GlobalRead Global). GlobalsRead g.H.GcHeap.KIND t a (length t.globals) c.read_global.new.store reads.items) r c.read_global.new.store)
    (sym (err_is c.from_residual.result c.in_err-read.field-0.0 c.from_residual.ensures.1))
    (globals_refused g.H.GcHeap.KIND t a c.loop-global.global slot.0 slot.1 c.loop-global.store c.read_global.new.store c.loop-global.reads.items so_far c.in_err-read.field-0.0
    (λ (reads : Vec GlobalRead Global). GlobalsRead g.H.GcHeap.KIND t a (length t.globals) c.read_global.new.store reads.items)
    (c.in_err-read.ensures.reads so_far.now a slot.0 so_far.held (globals_there g.H.GcHeap.KIND t a c.loop-global.global c.loop-global.store c.loop-global.reads.items so_far slot.0 slot.1)))

pub returns-in_err-read-clause-same : goal.returns-in_err-read-clause-same
returns-in_err-read-clause-same g c = same_twice c.args.store.now c.loop-global.store c.read_global.new.store c.loop-global.invariant.same c.read_global.ensures.same

-- one more was read
more_read : (g : given.Over) (c : In_ok-read g) (t : Table ℕ) (a : Account) → HoldsAccount g.H.GcHeap.KIND c.args.store.now t a → (more : List GlobalRead) → more ≡ c.loop-global.reads.items ++ c.in_ok-read.read ∷ []
    → GlobalsRead g.H.GcHeap.KIND t a (c.loop-global.global + 1) c.read_global.new.store more
more_read g c t a held more is =
    let so_far = c.loop-global.invariant.goes t a held in
    let many = held.holds.globals.count in
    let slot = slot_there t.globals c.loop-global.global (omega (arith, many, c.loop-global-test.true)) in
    globals_more g.H.GcHeap.KIND t a c.loop-global.global slot.0 slot.1 c.loop-global.store c.read_global.new.store c.read_global.ensures.same c.loop-global.reads.items more c.in_ok-read.read is so_far
    (c.in_ok-read.ensures.reads so_far.now a slot.0 so_far.held (globals_there g.H.GcHeap.KIND t a c.loop-global.global c.loop-global.store c.loop-global.reads.items so_far slot.0 slot.1))

pub returns-then-is_err-clause-reads : goal.returns-then-is_err-clause-reads
returns-then-is_err-clause-reads g c t a held =
    let more = c.loop-global.reads.items ++ c.in_ok-read.read ∷ [] in
    globals_stopped g.H.GcHeap.KIND t a (c.loop-global.global + 1) c.read_global.new.store more (more_read g (goal.at.returns-then-is_err-clause-reads g c).In_ok-read t a held more refl)

pub returns-then-is_err-clause-same : goal.returns-then-is_err-clause-same
returns-then-is_err-clause-same g c = same_twice c.args.store.now c.loop-global.store c.read_global.new.store c.loop-global.invariant.same c.read_global.ensures.same

pub loop-global-preserved : goal.loop-global-preserved
loop-global-preserved g c = record {
  goes = λ t a held.
      let items : c.extend_from_slice.new.self.items ≡ c.loop-global.reads.items ++ c.in_ok-read.read ∷ [] = search rules in
      more_read g (goal.at.loop-global-preserved g c).In_ok-read t a held c.extend_from_slice.new.self.items items;
  same = same_twice c.args.store.now c.loop-global.store c.read_global.new.store c.loop-global.invariant.same c.read_global.ensures.same;
}

pub returns-clause-reads : goal.returns-clause-reads
returns-clause-reads g c t a held =
    let many = held.holds.globals.count in
    let past = c.loop-global-test.false in
    let below = c.loop-global.auto.global-end in
    let all : c.loop-global.global ≡ length t.globals = omega (arith, many, past, below) in
    subst (λ (k : ℕ). GlobalsRead g.H.GcHeap.KIND t a k c.loop-global.store c.loop-global.reads.items) all (c.loop-global.invariant.goes t a held)

pub returns-clause-same : goal.returns-clause-same
returns-clause-same g c = c.loop-global.invariant.same
