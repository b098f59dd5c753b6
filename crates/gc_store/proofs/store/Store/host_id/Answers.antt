use Rattle.std.proofs.Common.{ℕ, sym, ap, ◌∙◌, subst}
use Rattle.gc_view.specs.Heaps.{HeapView}
use Rattle.gc_model.specs.Stores.{StoreView}
use Rattle.gc_store.specs.HostSteps.{TellsHostId}
use Rattle.gc_store.specs.Roots.{word_of}
use Rattle.gc_store.specs.Stores.{store_view, tables_of}
use Rattle.gc_store.proofs.HandleWords.{root_word, named_word, never_named, never_gone}
use Rattle.gc_store.proofs.HostReads.{id_told}
use Rattle.gc_store.proofs.Roots.{SomeIff-value, SomeIff-some}
use Rattle.gc_store.proofs.store.Store.host_id.Goals as goal

pub unwrap-gc_ref-requires : goal.unwrap-gc_ref-requires
unwrap-gc_ref-requires g c =
    SomeIff-some _ c.from_raw_u32.result c.in-Ok.word c.from_raw_u32.ensures
    (root_word g.H.GcHeap.KIND (store_view c.self.inside.id c.self.inside.config (tables_of c.self.inside.interned c.self.inside.asked) c.self.inside.owner.seen c.self.inside.tries) c.self.invariant.table c.self.invariant.holds.place c.self.invariant.holds.holds c.args.handle c.in-Ok.word
    (ap (λ (s : StoreView g.row.D.Denot). word_of s c.args.handle) c.self.view_is ∙ sym c.word_of.ensures ∙ c.in-Ok.is)).not_null

pub returns-in-Ok-clause-live : goal.returns-in-Ok-clause-live
returns-in-Ok-clause-live g c t place r holds named =
    let is = named_word g.H.GcHeap.KIND c.args.self.now t place holds c.args.handle r c.in-Ok.word named (sym c.word_of.ensures ∙ c.in-Ok.is) in
    let same = SomeIff-value _ c.from_raw_u32.result c.in-Ok.word c.unwrap-gc_ref.result c.from_raw_u32.ensures c.unwrap-gc_ref.ensures in
    let tells : TellsHostId c.args.self.now.heap c.in-Ok.word c.id_of.result =
    subst (λ (h : HeapView). TellsHostId h c.in-Ok.word c.id_of.result) (c.heap.ensures.seen ∙ ap (λ (s : StoreView g.row.D.Denot). s.heap) c.self.view_is)
    (subst (λ (n : ℕ). TellsHostId (g.H.GcHeap.seen c.heap.result.now) n c.id_of.result) same c.id_of.ensures) in
    id_told g.H.GcHeap.KIND c.args.self.now t place holds c.in-Ok.word c.id_of.result tells r is.0 is.1

pub returns-in-Ok-clause-gone : goal.returns-in-Ok-clause-gone
returns-in-Ok-clause-gone g c own t holds nothing = absurd (never_named g.H.GcHeap.KIND c.args.self.now t holds.0 holds.1 c.args.handle c.in-Ok.word nothing (sym c.word_of.ensures ∙ c.in-Ok.is))

pub returns-in-Err-clause-live : goal.returns-in-Err-clause-live
returns-in-Err-clause-live g c t place r holds named = absurd (never_gone g.H.GcHeap.KIND c.args.self.now t place holds c.args.handle r c.in-Err.fault named (sym c.word_of.ensures ∙ c.in-Err.is))
