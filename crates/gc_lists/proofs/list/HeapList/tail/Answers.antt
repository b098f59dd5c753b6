use Rattle.std.proofs.Common.{drop, length, refl, Option, Result, Err, sym, ◌∙◌, subst}
use Rattle.gc_owner.specs.declared.entry.GcClass.TheVariants.{Any}
use Rattle.gc_model.specs.Values.{reference}
use Rattle.gc_values.specs.declared.root.RawValue.{RawValue}
use Rattle.gc_values.specs.declared.root.RootFault.{RootFault}
use Rattle.gc_values.specs.declared.root.GcRootIndex.{GcRootIndex}
use Rattle.gc_store.specs.Values.{ReadsValue}
use Rattle.gc_lists.specs.declared.fault.ListFault.{ListFault}
use Rattle.gc_lists.specs.Answers.{AnswersVersion, AreNumbers, KeepsRoot, Tails}
use Rattle.gc_lists.specs.Frames.{ChangesOwned}
use Rattle.gc_model.specs.Table.{push, leave}
use Rattle.gc_lists.proofs.list.HeapList.tail.Goals as goal
use Rattle.gc_lists.proofs.CellReads.{version_cell, has_next, can_read_next}
use Rattle.gc_lists.proofs.Tailing.{rest_of, tail_kept, tail_refused, read_some, read_none, read_refused, version_listed, of_first, no_small, empty_tail}

pub read_value-requires : goal.read_value-requires
read_value-requires g c =
    let in_one = c.requires.stands (sym c.is_version_of.ensures ∙ c.if-not-is_version_of.false) in
    let names = version_cell g.H.GcHeap.KIND c.args.store.now in_one.table in_one.holds c.in-Some.root c.args.self.now.root in_one.numbers c.in-Some.is in_one.stands in
    can_read_next c.args.store.now in_one.table c.in-Some.root in_one.numbers names g.H.GcHeap.KIND in_one.holds

pub returns-in-Ok-keep-clause-tails : goal.returns-in-Ok-keep-clause-tails
returns-in-Ok-keep-clause-tails g c = λ mine t a ty xs holds stands.
    let names = version_listed g.H.GcHeap.KIND c.args.store.now t (holds.place, holds.holds) c.in-Some.root c.args.self.now.root ty xs c.in-Some.is stands in
    let reads = subst (λ (r : Result RawValue RootFault). ReadsValue g.H.GcHeap.KIND t a (reference Any names.next) r c.read_value.new.self) c.in-Ok.is
    (c.read_value.ensures.reads t a (reference Any names.next) holds (has_next c.args.store.now t c.in-Some.root xs names)) in
    let scope_is = c.enter_gc_lifo_scope-scope.ensures.table t (holds.place, holds.holds) in
    let read = read_some g.H.GcHeap.KIND c.args.store.now c.read_value.new.self c.keep.new.store t a ty (drop 1 xs) c.enter_gc_lifo_scope-scope.result scope_is (holds.place, holds.holds)
    names.next c.in-Ok.value c.in-Some-handle.next (no_small c.args.store.now t c.in-Some.root xs names) reads (sym c.handle.ensures ∙ c.in-Some-handle.is) in
    let rest = rest_of g.H.GcHeap.KIND c.args.store.now t (holds.place, holds.holds) c.in-Some.root ty xs names (of_first g.H.GcHeap.KIND c.args.store.now t (holds.place, holds.holds) c.in-Some.root c.args.self.now.root ty xs c.in-Some.is stands names) in
    tail_kept g.H.GcHeap.KIND c.args.store.now c.read_value.new.self c.keep.new.store t a ty (drop 1 xs) c.enter_gc_lifo_scope-scope.result scope_is (holds.place, holds.holds) names.next rest c.in-Ok-keep.kept
    (subst (λ (r : Result GcRootIndex ListFault). KeepsRoot g.H.GcHeap.KIND (push names.next t) a names.next (leave c.enter_gc_lifo_scope-scope.result) r c.keep.new.store) c.in-Ok-keep.is
    (c.keep.ensures.keeps (push names.next t) a names.next read.0 read.1))

pub returns-in-Err-keep-clause-tails : goal.returns-in-Err-keep-clause-tails
returns-in-Err-keep-clause-tails g c = λ mine t a ty xs holds stands.
    let names = version_listed g.H.GcHeap.KIND c.args.store.now t (holds.place, holds.holds) c.in-Some.root c.args.self.now.root ty xs c.in-Some.is stands in
    let reads = subst (λ (r : Result RawValue RootFault). ReadsValue g.H.GcHeap.KIND t a (reference Any names.next) r c.read_value.new.self) c.in-Ok.is
    (c.read_value.ensures.reads t a (reference Any names.next) holds (has_next c.args.store.now t c.in-Some.root xs names)) in
    let scope_is = c.enter_gc_lifo_scope-scope.ensures.table t (holds.place, holds.holds) in
    let read = read_some g.H.GcHeap.KIND c.args.store.now c.read_value.new.self c.keep.new.store t a ty (drop 1 xs) c.enter_gc_lifo_scope-scope.result scope_is (holds.place, holds.holds)
    names.next c.in-Ok.value c.in-Some-handle.next (no_small c.args.store.now t c.in-Some.root xs names) reads (sym c.handle.ensures ∙ c.in-Some-handle.is) in
    let rest = rest_of g.H.GcHeap.KIND c.args.store.now t (holds.place, holds.holds) c.in-Some.root ty xs names (of_first g.H.GcHeap.KIND c.args.store.now t (holds.place, holds.holds) c.in-Some.root c.args.self.now.root ty xs c.in-Some.is stands names) in
    tail_refused g.H.GcHeap.KIND c.args.store.now c.read_value.new.self c.keep.new.store t a ty xs c.enter_gc_lifo_scope-scope.result scope_is (holds.place, holds.holds) names.next c.in-Err-keep.fault
    (subst (λ (r : Result GcRootIndex ListFault). KeepsRoot g.H.GcHeap.KIND (push names.next t) a names.next (leave c.enter_gc_lifo_scope-scope.result) r c.keep.new.store) c.in-Err-keep.is
    (c.keep.ensures.keeps (push names.next t) a names.next read.0 read.1))

pub returns-in-None-clause-tails : goal.returns-in-None-clause-tails
returns-in-None-clause-tails g c = λ mine t a ty xs holds stands.
    let names = version_listed g.H.GcHeap.KIND c.args.store.now t (holds.place, holds.holds) c.in-Some.root c.args.self.now.root ty xs c.in-Some.is stands in
    let reads = subst (λ (r : Result RawValue RootFault). ReadsValue g.H.GcHeap.KIND t a (reference Any names.next) r c.read_value.new.self) c.in-Ok.is
    (c.read_value.ensures.reads t a (reference Any names.next) holds (has_next c.args.store.now t c.in-Some.root xs names)) in
    let rest = rest_of g.H.GcHeap.KIND c.args.store.now t (holds.place, holds.holds) c.in-Some.root ty xs names (of_first g.H.GcHeap.KIND c.args.store.now t (holds.place, holds.holds) c.in-Some.root c.args.self.now.root ty xs c.in-Some.is stands names) in
    subst (λ (v : Option GcRootIndex). AnswersVersion g.H.GcHeap.KIND t (ChangesOwned t) (AreNumbers ty (drop 1 xs)) v c.read_value.new.self) (sym c.empty-in-None.ensures)
    (read_none g.H.GcHeap.KIND c.args.store.now c.read_value.new.self c.read_value.new.self t a ty (drop 1 xs) c.enter_gc_lifo_scope-scope.result (c.enter_gc_lifo_scope-scope.ensures.table t (holds.place, holds.holds)) (holds.place, holds.holds)
    names.next c.in-Ok.value (no_small c.args.store.now t c.in-Some.root xs names) reads (sym c.handle.ensures ∙ c.in-None.is) rest)

pub returns-in-Err-clause-tails : goal.returns-in-Err-clause-tails
returns-in-Err-clause-tails g c = λ mine t a ty xs holds stands.
    let names = version_listed g.H.GcHeap.KIND c.args.store.now t (holds.place, holds.holds) c.in-Some.root c.args.self.now.root ty xs c.in-Some.is stands in
    let reads = subst (λ (r : Result RawValue RootFault). ReadsValue g.H.GcHeap.KIND t a (reference Any names.next) r c.read_value.new.self) c.in-Err.is
    (c.read_value.ensures.reads t a (reference Any names.next) holds (has_next c.args.store.now t c.in-Some.root xs names)) in
    subst (λ (f : ListFault). Tails g.H.GcHeap.KIND ty xs t (Err f) c.read_value.new.self) (sym c.refused.ensures)
    (read_refused g.H.GcHeap.KIND c.args.store.now c.read_value.new.self c.read_value.new.self t a ty xs c.enter_gc_lifo_scope-scope.result (c.enter_gc_lifo_scope-scope.ensures.table t (holds.place, holds.holds)) (holds.place, holds.holds)
    names.next c.in-Err.fault reads)

pub returns-in_default-clause-tails : goal.returns-in_default-clause-tails
returns-in_default-clause-tails g c = λ mine t a ty xs holds stands.
    empty_tail g.H.GcHeap.KIND c.args.store.now c.args.store.now c.args.store.now t a ty xs (length t.scoped) refl (holds.place, holds.holds) c.args.self.now.root c.empty.result.root xs c.in_default.is c.empty.ensures stands holds
