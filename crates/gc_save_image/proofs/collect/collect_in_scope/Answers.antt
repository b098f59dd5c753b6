use Rattle.std.proofs.Common.{[], ℕ, length, refl, sym, subst, Vec, Global}
use Rattle.gc_model.specs.Table.{Table}
use Rattle.gc_model.specs.Accounts.{Account, HoldsAccount}
use Rattle.gc_paths.proofs.Growing.{err_is}
use Rattle.gc_paths.specs.Progress.{Basis}
use Rattle.gc_image.specs.declared.image.GlobalLine.{GlobalLine}
use Rattle.gc_image.specs.declared.image.ObjectLine.{ObjectLine}
use Rattle.gc_save_image.specs.declared.globals.GlobalRead.{GlobalRead}
use Rattle.gc_save_image.specs.Answers.{CollectsImage}
use Rattle.gc_save_image.specs.GlobalSteps.{AllRead, GlobalsRead, GlobalsSaid}
use Rattle.gc_save_image.specs.Parts.{found_handles}
use Rattle.gc_save_image.specs.Progress.{HasAllLines, ImageGoesOn, ImagePassesRoom}
use Rattle.gc_save_image.proofs.Closing.{all_read, basis, begun, collected_all, lines_refused, objects_refused, part_stopped, read_count, read_count_is, reads_refused, refused_result}
use Rattle.gc_save_image.proofs.collect.collect_in_scope.Given as given
use Rattle.gc_save_image.proofs.collect.collect_in_scope.Goals as goal
use Rattle.gc_save_image.proofs.collect.collect_in_scope.Goals.{After-as_slice, In_ok-globals}

all_of : (g : given.Over) (c : After-as_slice g) (t : Table ℕ) (a : Account) (held : HoldsAccount g.H.GcHeap.KIND c.args.store.now t a) → AllRead c.read_globals.new.store (c.in_ok-reads.ensures.reads t a held).now t.globals c.as_slice.result.now
all_of g c t a held =
    subst (AllRead c.read_globals.new.store (c.in_ok-reads.ensures.reads t a held).now t.globals) (sym c.as_slice.ensures.value)
    (all_read g.H.GcHeap.KIND t a c.read_globals.new.store c.in_ok-reads.reads.items (c.in_ok-reads.ensures.reads t a held) held.holds.globals.count)

pub global_lines-requires : goal.global_lines-requires
global_lines-requires g c =
    let t = c.stores_hold_tables.ensures.0 in
    let a = c.stores_hold_tables.ensures.1.0 in
    let held = c.stores_hold_tables.ensures.1.1 in
    let read = c.in_ok-reads.ensures.reads t a held in
    record {
      basis = basis g.H.GcHeap.KIND t a c.read_globals.new.store c.in_ok-reads.reads.items read;
      count = read_count g.H.GcHeap.KIND t a c.read_globals.new.store c.in_ok-reads.reads.items read;
      progress = begun g.H.GcHeap.KIND t a c.read_globals.new.store c.in_ok-reads.reads.items read (found_handles c.new-found.result) c.new-found.ensures;
      all = all_of g c t a held;
    }

lines_of : (g : given.Over) (c : In_ok-globals g) (t : Table ℕ) (a : Account) (held : HoldsAccount g.H.GcHeap.KIND c.args.store.now t a)
    → ImageGoesOn g.H.GcHeap.KIND (basis g.H.GcHeap.KIND t a c.read_globals.new.store c.in_ok-reads.reads.items (c.in_ok-reads.ensures.reads t a held)) []
    (read_count g.H.GcHeap.KIND t a c.read_globals.new.store c.in_ok-reads.reads.items (c.in_ok-reads.ensures.reads t a held)) c.read_globals.new.store (found_handles c.global_lines.new.found) (λ then. GlobalsSaid then (length t.globals) t.globals c.in_ok-globals.globals.items)
lines_of g c t a held =
    let read = c.in_ok-reads.ensures.reads t a held in
    c.in_ok-globals.ensures (basis g.H.GcHeap.KIND t a c.read_globals.new.store c.in_ok-reads.reads.items read) (read_count g.H.GcHeap.KIND t a c.read_globals.new.store c.in_ok-reads.reads.items read)
    (begun g.H.GcHeap.KIND t a c.read_globals.new.store c.in_ok-reads.reads.items read (found_handles c.new-found.result) c.new-found.ensures)
    (all_of g (goal.at.In_ok-globals g c).After-as_slice t a held)

pub take_objects-requires : goal.take_objects-requires
take_objects-requires g c =
    let t = c.stores_hold_tables.ensures.0 in
    let a = c.stores_hold_tables.ensures.1.0 in
    let held = c.stores_hold_tables.ensures.1.1 in
    let read = c.in_ok-reads.ensures.reads t a held in
    let goes = lines_of g (goal.at.take_objects-requires g c).In_ok-globals t a held in
    record { basis = basis g.H.GcHeap.KIND t a c.read_globals.new.store c.in_ok-reads.reads.items read; told = goes.told; count = read_count g.H.GcHeap.KIND t a c.read_globals.new.store c.in_ok-reads.reads.items read; progress = goes.progress }

pub returns-in_err-reads-clause-collects : goal.returns-in_err-reads-clause-collects
returns-in_err-reads-clause-collects g c t a held =
    refused_result t (CollectsImage t) c.from_residual.result c.in_err-reads.field-0.0 (err_is c.from_residual.result c.in_err-reads.field-0.0 c.from_residual.ensures.1)
    (reads_refused g.H.GcHeap.KIND c.args.store.now t held.place held.holds a (λ (reads : Vec GlobalRead Global). GlobalsRead g.H.GcHeap.KIND t a (length t.globals) c.read_globals.new.store reads.items) c.in_err-reads.field-0.0 c.read_globals.new.store
    (c.in_err-reads.ensures.reads t a held)).0

pub returns-in_err-globals-clause-collects : goal.returns-in_err-globals-clause-collects
returns-in_err-globals-clause-collects g c t a held =
    let read = c.in_ok-reads.ensures.reads t a held in
    let b : Basis ℕ = basis g.H.GcHeap.KIND t a c.read_globals.new.store c.in_ok-reads.reads.items read in
    let count : ℕ = read_count g.H.GcHeap.KIND t a c.read_globals.new.store c.in_ok-reads.reads.items read in
    refused_result t (CollectsImage t) c.from_residual-in_err-globals.result c.in_err-globals.field-0.0 (err_is c.from_residual-in_err-globals.result c.in_err-globals.field-0.0 c.from_residual-in_err-globals.ensures.1)
    (lines_refused g.H.GcHeap.KIND c.args.store.now t held.place held.holds b (λ (lines : Vec GlobalLine Global). ImageGoesOn g.H.GcHeap.KIND b [] count c.read_globals.new.store (found_handles c.global_lines.new.found) (λ then. GlobalsSaid then (length t.globals) t.globals lines.items)) c.in_err-globals.field-0.0 c.read_globals.new.store
    (c.in_err-globals.ensures b count (begun g.H.GcHeap.KIND t a c.read_globals.new.store c.in_ok-reads.reads.items read (found_handles c.new-found.result) c.new-found.ensures) (all_of g (goal.at.returns-in_err-globals-clause-collects g c).After-as_slice t a held)))

pub returns-in_err-objects-clause-collects : goal.returns-in_err-objects-clause-collects
returns-in_err-objects-clause-collects g c t a held =
    let read = c.in_ok-reads.ensures.reads t a held in
    let b : Basis ℕ = basis g.H.GcHeap.KIND t a c.read_globals.new.store c.in_ok-reads.reads.items read in
    let count : ℕ = read_count g.H.GcHeap.KIND t a c.read_globals.new.store c.in_ok-reads.reads.items read in
    let goes = lines_of g (goal.at.returns-in_err-objects-clause-collects g c).In_ok-globals t a held in
    refused_result t (CollectsImage t) c.from_residual-in_err-objects.result c.in_err-objects.field-0.0 (err_is c.from_residual-in_err-objects.result c.in_err-objects.field-0.0 c.from_residual-in_err-objects.ensures.1)
    (objects_refused g.H.GcHeap.KIND c.args.store.now t held.place held.holds b count refl (read_count_is g.H.GcHeap.KIND t a c.read_globals.new.store c.in_ok-reads.reads.items read) (λ (lines : Vec ObjectLine Global). HasAllLines g.H.GcHeap.KIND b goes.told count c.take_objects.new.store (found_handles c.take_objects.new.found) lines.items) c.in_err-objects.field-0.0 c.take_objects.new.store
    (c.in_err-objects.ensures.takes b goes.told count goes.progress))

pub returns-clause-collects : goal.returns-clause-collects
returns-clause-collects g c t a held =
    let goes = lines_of g (goal.at.returns-clause-collects g c).In_ok-globals t a held in
    let read = c.in_ok-reads.ensures.reads t a held in
    let b : Basis ℕ = basis g.H.GcHeap.KIND t a c.read_globals.new.store c.in_ok-reads.reads.items read in
    let count : ℕ = read_count g.H.GcHeap.KIND t a c.read_globals.new.store c.in_ok-reads.reads.items read in
    collected_all g.H.GcHeap.KIND b count c.read_globals.new.store c.take_objects.new.store (found_handles c.global_lines.new.found) (found_handles c.take_objects.new.found) c.in_ok-globals.globals.items c.in_ok-objects.objects.items held.holds.globals.count goes
    (c.in_ok-objects.ensures.takes b goes.told count goes.progress) (read_count_is g.H.GcHeap.KIND t a c.read_globals.new.store c.in_ok-reads.reads.items read) (record { objects = c.in_ok-objects.objects; globals = c.in_ok-globals.globals }) refl refl

pub returns-in_err-reads-clause-stopped : goal.returns-in_err-reads-clause-stopped
returns-in_err-reads-clause-stopped g c t a held =
    (reads_refused g.H.GcHeap.KIND c.args.store.now t held.place held.holds a (λ (reads : Vec GlobalRead Global). GlobalsRead g.H.GcHeap.KIND t a (length t.globals) c.read_globals.new.store reads.items) c.in_err-reads.field-0.0 c.read_globals.new.store
    (c.in_err-reads.ensures.reads t a held)).1

pub returns-in_err-globals-clause-stopped : goal.returns-in_err-globals-clause-stopped
returns-in_err-globals-clause-stopped g c t a held =
    let read = c.in_ok-reads.ensures.reads t a held in
    let b : Basis ℕ = basis g.H.GcHeap.KIND t a c.read_globals.new.store c.in_ok-reads.reads.items read in
    let count : ℕ = read_count g.H.GcHeap.KIND t a c.read_globals.new.store c.in_ok-reads.reads.items read in
    part_stopped g.H.GcHeap.KIND b (λ (lines : Vec GlobalLine Global). ImageGoesOn g.H.GcHeap.KIND b [] count c.read_globals.new.store (found_handles c.global_lines.new.found) (λ then. GlobalsSaid then (length t.globals) t.globals lines.items)) ⊥ c.in_err-globals.field-0.0 c.read_globals.new.store
    (c.in_err-globals.ensures b count (begun g.H.GcHeap.KIND t a c.read_globals.new.store c.in_ok-reads.reads.items read (found_handles c.new-found.result) c.new-found.ensures) (all_of g (goal.at.returns-in_err-globals-clause-stopped g c).After-as_slice t a held))

pub returns-in_err-objects-clause-stopped : goal.returns-in_err-objects-clause-stopped
returns-in_err-objects-clause-stopped g c t a held =
    let read = c.in_ok-reads.ensures.reads t a held in
    let b : Basis ℕ = basis g.H.GcHeap.KIND t a c.read_globals.new.store c.in_ok-reads.reads.items read in
    let count : ℕ = read_count g.H.GcHeap.KIND t a c.read_globals.new.store c.in_ok-reads.reads.items read in
    let goes = lines_of g (goal.at.returns-in_err-objects-clause-stopped g c).In_ok-globals t a held in
    part_stopped g.H.GcHeap.KIND b (λ (lines : Vec ObjectLine Global). HasAllLines g.H.GcHeap.KIND b goes.told count c.take_objects.new.store (found_handles c.take_objects.new.found) lines.items) (ImagePassesRoom b count) c.in_err-objects.field-0.0 c.take_objects.new.store (c.in_err-objects.ensures.takes b goes.told count goes.progress)

pub returns-clause-stopped : goal.returns-clause-stopped
returns-clause-stopped g c t a held =
    let read = c.in_ok-reads.ensures.reads t a held in
    let b : Basis ℕ = basis g.H.GcHeap.KIND t a c.read_globals.new.store c.in_ok-reads.reads.items read in
    let count : ℕ = read_count g.H.GcHeap.KIND t a c.read_globals.new.store c.in_ok-reads.reads.items read in
    let goes = lines_of g (goal.at.returns-clause-stopped g c).In_ok-globals t a held in
    let ended = c.in_ok-objects.ensures.takes b goes.told count goes.progress in
    record {
      count = ended.total;
      now = ended.progress.holds.now;
      grown = ended.progress.holds.grown;
      held = record { place = b.place; holds = ended.progress.holds.there.0; account = ended.progress.holds.there.1 };
    }
