use Rattle.std.proofs.Common.{◌≡◌, ℕ, ◌%◌, ap, sym, ◌∙◌, subst}
use Rattle.std.specs.FinMap as map
use Rattle.gc_view.specs.Heaps.{HeapView}
use Rattle.gc_model.specs.Stores.{StoreView}
use Rattle.gc_values.specs.Described.{TellsHeld}
use Rattle.gc_store.proofs.Roots.{SomeIff-value, describes_small, describes_object, held_object, is_even}
use Rattle.gc_store.proofs.store.Store.describe.Given as given
use Rattle.gc_store.proofs.store.Store.describe.Goals as goal
use Rattle.gc_store.proofs.store.Store.describe.Goals.{After-as_i31, After-heap}

-- the reference has the word
same_word : (g : given.Over) (c : After-as_i31 g) → c.unwrap-gc_ref.result ≡ c.args.word
same_word g c = SomeIff-value _ c.from_raw_u32.result c.args.word c.unwrap-gc_ref.result c.from_raw_u32.ensures c.unwrap-gc_ref.ensures

pub returns-in-Some : goal.returns-in-Some
returns-in-Some g c t place r holds is positive =
    let same = same_word g (goal.at.returns-in-Some g c).After-as_i31 in
    describes_small g.H.GcHeap.KIND c.args.self.now t place r c.args.word c.in-Some.number holds is (sym same ∙ c.in-Some.ensures)

-- the heap that is asked is the store's
heap_is : (g : given.Over) (c : After-heap g) → g.H.GcHeap.seen c.heap.result.now ≡ c.args.self.now.heap
heap_is g c = c.heap.ensures.seen ∙ ap (λ (s : StoreView g.row.D.Denot). s.heap) c.self.view_is

pub describe_held-requires-clause-held : goal.describe_held-requires-clause-held
describe_held-requires-clause-held g c =
    let at = (goal.at.describe_held-requires-clause-held g c).After-as_i31 in
    let heap = (goal.at.describe_held-requires-clause-held g c).After-heap in
    let same = same_word g at in
    let held = held_object g.H.GcHeap.KIND c.args.self.now c.requires.table c.requires.place c.requires.root c.args.word c.requires.holds c.requires.is_word c.requires.not_null
    (λ odd. is_even c.as_i31.result c.unwrap-gc_ref.result c.as_i31.ensures c.in_default.not-Some (ap (λ w. w % 2) same ∙ odd)) in
    (held.0, ap (λ (h : HeapView). map.get h.content c.unwrap-gc_ref.result) (heap_is g heap) ∙ ap (map.get c.args.self.now.heap.content) same ∙ held.1)

pub returns : goal.returns
returns g c t place r holds is positive =
    let same = same_word g (goal.at.returns g c).After-as_i31 in
    describes_object g.H.GcHeap.KIND c.args.self.now t place r c.args.word c.describe_held.result holds is positive
    (λ odd. is_even c.as_i31.result c.unwrap-gc_ref.result c.as_i31.ensures c.in_default.not-Some (ap (λ w. w % 2) same ∙ odd))
    (subst (λ (h : HeapView). TellsHeld h c.args.word c.describe_held.result) (heap_is g (goal.at.returns g c).After-heap) (subst (λ (w : ℕ). TellsHeld (g.H.GcHeap.seen c.heap.result.now) w c.describe_held.result) same c.describe_held.ensures))
