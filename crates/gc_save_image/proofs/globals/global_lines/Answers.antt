use Rattle.std.proofs.Common.{◌≡◌, [], ℕ, None, length, get_or, sym, subst, arith, Vec, Global}
use Rattle.gc_owner.specs.declared.entry.GcClass.TheVariants as class
use Rattle.gc_paths.proofs.Growing.{err_is}
use Rattle.gc_image.specs.declared.image.GlobalLine.{GlobalLine}
use Rattle.gc_save_image.specs.declared.globals.GlobalRead.{GlobalRead}
use Rattle.gc_save_image.specs.GlobalSteps.{AddsLine, GlobalsSaid}
use Rattle.gc_save_image.specs.Parts.{found_handles}
use Rattle.gc_save_image.specs.Progress.{AnswersImagePart, ImageGoesOn}
use Rattle.gc_save_image.proofs.ObjectKinds.{err_part}
use Rattle.gc_save_image.proofs.ReadSlots.{slot_there}
use Rattle.gc_save_image.proofs.Taken.{keeps_itself, keeps_twice}
use Rattle.gc_save_image.proofs.SaySlots.{global_leads, handle_live, line_added, lines_begin, read_at, read_there}
use Rattle.gc_save_image.proofs.globals.global_lines.Goals as goal
use Rattle.gc_save_image.proofs.globals.global_lines.Goals.{After-add_line, In_ok-add_line}

abbrev no_read : GlobalRead
no_read = record { class = class.Any; handle = None }

pub loop-index-init : goal.loop-index-init
loop-index-init g c = record {
  goes = λ b count progress all. record { told = []; kept = keeps_itself []; progress = progress; done = lines_begin [] b.table.globals c.new-lines.result.items c.new-lines.ensures.items };
}

pub add_line-requires : goal.add_line-requires
add_line-requires g c =
    let begun = c.requires in
    let all = begun.all in
    let many = all.same_count in
    let i = c.loop-index.index in
    let slot = slot_there begun.basis.table.globals i (omega (arith, many, c.loop-index-test.true)) in
    let is = all.each i slot.0 (get_or c.args.reads.now i no_read) slot.1 (read_at c.args.reads.now i no_read c.loop-index-test.true) in
    handle_live g.H.GcHeap.KIND c.args.store.now begun.progress.holds.now (begun.basis.place, begun.progress.holds.there.0) (get_or c.args.reads.now i no_read).class (get_or c.args.reads.now i no_read).handle slot.0.reference is.stands

pub returns-in_err-add_line : goal.returns-in_err-add_line
returns-in_err-add_line g c b count progress all =
    let i = c.loop-index.index in
    let many = all.same_count in
    let goes = c.loop-index.invariant.goes b count progress all in
    let slot = slot_there b.table.globals i (omega (arith, many, c.loop-index-test.true)) in
    let is = all.each i slot.0 (get_or c.args.reads.now i no_read) slot.1 (read_at c.args.reads.now i no_read c.loop-index-test.true) in
    let here = read_there g.H.GcHeap.KIND c.args.store.now progress.holds.now goes.progress.holds.now b.place progress.holds.there.0 goes.progress.holds.there.0 slot.0 (get_or c.args.reads.now i no_read) is in
    subst (λ r. AnswersImagePart g.H.GcHeap.KIND b (λ (lines : Vec GlobalLine Global). ImageGoesOn g.H.GcHeap.KIND b [] count c.args.store.now (found_handles c.add_line.new.found) (λ then. GlobalsSaid then (length b.table.globals) b.table.globals lines.items)) ⊥ r c.args.store.now)
    (sym (err_is c.from_residual.result c.in_err-add_line.field-0.0 c.from_residual.ensures.1))
    (err_part g.H.GcHeap.KIND b
    (λ (done : Unit {0}). ImageGoesOn g.H.GcHeap.KIND b goes.told count c.args.store.now (found_handles c.add_line.new.found) (λ then. AddsLine then c.loop-index.lines.items c.add_line.new.lines.items i slot.0))
    (λ (lines : Vec GlobalLine Global). ImageGoesOn g.H.GcHeap.KIND b [] count c.args.store.now (found_handles c.add_line.new.found) (λ then. GlobalsSaid then (length b.table.globals) b.table.globals lines.items))
    ⊥ c.in_err-add_line.field-0.0 c.args.store.now (c.in_err-add_line.ensures b goes.told count slot.0 goes.progress here (global_leads b i slot.0 slot.1)))

pub loop-index-preserved : goal.loop-index-preserved
loop-index-preserved g c = record {
  goes = λ b count progress all.
      let i = c.loop-index.index in
      let many = all.same_count in
      let goes = c.loop-index.invariant.goes b count progress all in
      let slot = slot_there b.table.globals i (omega (arith, many, c.loop-index-test.true)) in
      let is = all.each i slot.0 (get_or c.args.reads.now i no_read) slot.1 (read_at c.args.reads.now i no_read c.loop-index-test.true) in
      let here = read_there g.H.GcHeap.KIND c.args.store.now progress.holds.now goes.progress.holds.now b.place progress.holds.there.0 goes.progress.holds.there.0 slot.0 (get_or c.args.reads.now i no_read) is in
      let next = c.in_ok-add_line.ensures b goes.told count slot.0 goes.progress here (global_leads b i slot.0 slot.1) in
      record {
        told = next.told;
        kept = keeps_twice [] goes.told next.told goes.kept next.kept;
        progress = next.progress;
        done = line_added goes.told next.told next.kept i b.table.globals c.loop-index.lines.items goes.done slot.0 slot.1 c.add_line.new.lines.items next.done;
      };
}

pub returns : goal.returns
returns g c b count progress all =
    let many = all.same_count in
    let past = c.loop-index-test.false in
    let below = c.loop-index.auto.index-end in
    let ended : c.loop-index.index ≡ length b.table.globals = omega (arith, many, past, below) in
    subst (λ (k : ℕ). ImageGoesOn g.H.GcHeap.KIND b [] count c.args.store.now (found_handles c.loop-index.found) (λ then. GlobalsSaid then k b.table.globals c.loop-index.lines.items)) ended (c.loop-index.invariant.goes b count progress all)
