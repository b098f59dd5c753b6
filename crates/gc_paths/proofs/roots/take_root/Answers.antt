use Rattle.std.proofs.Common.{◌+◌, Option, Ok, Err, sym, subst}
use Rattle.std.specs.List.{slice_get}
use Rattle.gc_store.specs.declared.root_words.RootAt.{RootAt}
use Rattle.gc_store.specs.declared.root_words.RootAt.TheVariants as found
use Rattle.gc_store.specs.declared.root_words.RootWord.{RootWord}
use Rattle.gc_store.specs.RootWords.{root_words, RootsWord}
use Rattle.gc_paths.specs.declared.fault.PathFault.{PathFault}
use Rattle.gc_paths.specs.Answers.{LacksRoots}
use Rattle.gc_paths.specs.Parts.{parts}
use Rattle.gc_paths.specs.Progress.{AnswersPart, SearchGoesOn, TellsRoot, word_count}
use Rattle.gc_paths.proofs.Rooting.{root_live, root_passed, root_taken, root_refused}
use Rattle.gc_paths.proofs.roots.take_root.Goals as goal

pub take-requires : goal.take-requires
take-requires g c =
    let t = c.stores_hold_tables.ensures.0 in
    let a = c.stores_hold_tables.ensures.1.0 in
    let holds = c.stores_hold_tables.ensures.1.1 in
    root_live g.H.GcHeap.KIND c.args.store.now c.root_at.new.self t holds.place a holds.holds c.in-Ok-Root.name c.in-Ok-Root.handle (slice_get (root_words c.args.store.now) c.args.number)
    (subst (λ (x : RootAt). RootsWord g.H.GcHeap.KIND c.args.store.now t holds.place a (slice_get (root_words c.args.store.now) c.args.number) (Ok x) c.root_at.new.self) c.in-Ok-Root.field-0-is
    (c.in-Ok-Root.ensures.finds t holds.place a holds.holds holds.account))

pub returns-in-Ok-End-clause-takes : goal.returns-in-Ok-End-clause-takes
returns-in-Ok-End-clause-takes g c b told count w progress e start =
    absurd (subst (λ (o : Option RootWord). RootsWord g.H.GcHeap.KIND c.args.store.now progress.holds.now b.place b.account o (Ok found.End) c.root_at.new.self) e
    (subst (λ (x : RootAt). RootsWord g.H.GcHeap.KIND c.args.store.now progress.holds.now b.place b.account (slice_get (root_words c.args.store.now) c.args.number) (Ok x) c.root_at.new.self) c.in-Ok-End.field-0-is
    (c.in-Ok-End.ensures.finds progress.holds.now b.place b.account progress.holds.there.0 progress.holds.there.1)))

pub returns-in-Ok-Null-clause-takes : goal.returns-in-Ok-Null-clause-takes
returns-in-Ok-Null-clause-takes g c b told count w progress e start =
    root_passed g.H.GcHeap.KIND b told count c.args.store.now (parts c.args.report.now) progress w start c.root_at.new.self c.in-Ok-Null.ensures.same
    (subst (λ (o : Option RootWord). RootsWord g.H.GcHeap.KIND c.args.store.now progress.holds.now b.place b.account o (Ok found.Null) c.root_at.new.self) e
    (subst (λ (x : RootAt). RootsWord g.H.GcHeap.KIND c.args.store.now progress.holds.now b.place b.account (slice_get (root_words c.args.store.now) c.args.number) (Ok x) c.root_at.new.self) c.in-Ok-Null.field-0-is
    (c.in-Ok-Null.ensures.finds progress.holds.now b.place b.account progress.holds.there.0 progress.holds.there.1)))

pub returns-in-Ok-Root-clause-takes : goal.returns-in-Ok-Root-clause-takes
returns-in-Ok-Root-clause-takes g c b told count w progress e start =
    root_taken g.H.GcHeap.KIND b told count c.args.store.now (parts c.args.report.now) progress w start c.root_at.new.self c.in-Ok-Root.ensures.same c.in-Ok-Root.name c.in-Ok-Root.handle
    (subst (λ (o : Option RootWord). RootsWord g.H.GcHeap.KIND c.args.store.now progress.holds.now b.place b.account o (Ok (found.Root c.in-Ok-Root.name c.in-Ok-Root.handle)) c.root_at.new.self) e
    (subst (λ (x : RootAt). RootsWord g.H.GcHeap.KIND c.args.store.now progress.holds.now b.place b.account (slice_get (root_words c.args.store.now) c.args.number) (Ok x) c.root_at.new.self) c.in-Ok-Root.field-0-is
    (c.in-Ok-Root.ensures.finds progress.holds.now b.place b.account progress.holds.there.0 progress.holds.there.1)))
    (parts c.take.new.report) c.take.result c.take.ensures

pub returns-in-Err-clause-takes : goal.returns-in-Err-clause-takes
returns-in-Err-clause-takes g c b told count w progress e start =
    subst (λ (why : PathFault). AnswersPart g.H.GcHeap.KIND b (SearchGoesOn g.H.GcHeap.KIND b told 0 (count + word_count w) c.root_at.new.self (parts c.args.report.now) (TellsRoot b w)) (LacksRoots b.table (count + word_count w)) (Err why) c.root_at.new.self) (sym c.refused.ensures)
    (root_refused g.H.GcHeap.KIND b told count c.args.store.now (parts c.args.report.now) progress w start c.root_at.new.self c.in-Err.ensures.same c.in-Err.fault
    (SearchGoesOn g.H.GcHeap.KIND b told 0 (count + word_count w) c.root_at.new.self (parts c.args.report.now) (TellsRoot b w))
    (subst (λ (o : Option RootWord). RootsWord g.H.GcHeap.KIND c.args.store.now progress.holds.now b.place b.account o (Err c.in-Err.fault) c.root_at.new.self) e
    (c.in-Err.ensures.finds progress.holds.now b.place b.account progress.holds.there.0 progress.holds.there.1)) c.in-Err.ensures.err)
