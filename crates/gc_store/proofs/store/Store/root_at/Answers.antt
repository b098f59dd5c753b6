use Rattle.std.proofs.Common.{◌≡◌, ◌<◌, Option, Some, Ok, Err, slice_get, sym, refl, ap, ◌∙◌, subst, arith}
use Rattle.gc_model.specs.Values.{Reference}
use Rattle.gc_model.specs.Table.{Table}
use Rattle.gc_model.specs.Holds.{Holds, Placing, IsWord}
use Rattle.gc_model.specs.Stores.{StoreView}
use Rattle.gc_store.specs.declared.root_words.RootWord.{RootWord}
use Rattle.gc_store.specs.declared.root_words.RootAt.TheVariants as found
use Rattle.gc_store.specs.Roots.{IsRootWord}
use Rattle.gc_store.specs.RootWords.{root_words, RootsWord}
use Rattle.gc_store.specs.Stores.{store_view, tables_of}
use Rattle.gc_store.proofs.NamedRoots.{roots_named}
use Rattle.gc_store.proofs.store.Store.root_at.Given as given
use Rattle.gc_store.proofs.store.Store.root_at.Goals as goal
use Rattle.gc_store.proofs.store.Store.root_at.Goals.{After-push_root}

pub push_root-requires : goal.push_root-requires
push_root-requires g c =
    let s : StoreView g.row.D.Denot = store_view c.self.inside.id c.self.inside.config (tables_of c.self.inside.interned c.self.inside.asked) c.self.inside.owner.seen c.self.inside.tries in
    let some : 0 < c.in-Some.root.word = omega (arith, c.if-root-eq0.false) in
    let at : slice_get (root_words s) c.args.number ≡ Some c.in-Some.root = ap (λ (v : StoreView g.row.D.Denot). slice_get (root_words v) c.args.number) c.self.view_is ∙ sym c.in-Some.ensures in
    let named = roots_named g.H.GcHeap.KIND s c.self.invariant.table c.self.invariant.holds.place c.self.invariant.holds.holds c.args.number c.in-Some.root at some in
    subst (λ (v : StoreView g.row.D.Denot). IsRootWord g.row.D.Denot g.H.GcHeap.KIND v c.in-Some.root.word) c.self.view_is (record {
      table = c.self.invariant.table;
      place = c.self.invariant.holds.place;
      holds = c.self.invariant.holds.holds;
      root = named.0;
      is_word = named.1;
      not_null = some;
    })

-- what a root word of the store names, in a table that it holds
named : (g : given.Over) (c : After-push_root g) (t : Table g.row.D.Denot) (place : Placing) → Holds g.H.GcHeap.KIND c.args.self.now t place → (r : Reference) × IsWord place r c.in-Some.root.word
named g c t place holds = roots_named g.H.GcHeap.KIND c.args.self.now t place holds c.args.number c.in-Some.root (sym c.in-Some.ensures) (omega (arith, c.if-root-eq0.false))

pub returns-in-Ok-clause-finds : goal.returns-in-Ok-clause-finds
returns-in-Ok-clause-finds g c t place a holds account =
    let there = named g (goal.at.returns-in-Ok-clause-finds g c).After-push_root t place holds in
    subst (λ (o : Option RootWord). RootsWord g.H.GcHeap.KIND c.args.self.now t place a o (Ok (found.Root c.in-Some.root.name c.in-Ok.found)) c.push_root.new.self) c.in-Some.ensures
    (refl, (omega (arith, c.if-root-eq0.false), (there.0, (there.1, (c.in-Ok.ensures.pushes t place a there.0 holds account there.1, c.in-Ok.ensures.there t place a there.0 (holds, account) there.1)))))

pub returns-in-Err-clause-finds : goal.returns-in-Err-clause-finds
returns-in-Err-clause-finds g c t place a holds account =
    let there = named g (goal.at.returns-in-Err-clause-finds g c).After-push_root t place holds in
    subst (λ (o : Option RootWord). RootsWord g.H.GcHeap.KIND c.args.self.now t place a o (Err c.in-Err.fault) c.push_root.new.self) c.in-Some.ensures
    (omega (arith, c.if-root-eq0.false), (there.0, (there.1, c.in-Err.ensures.pushes t place a there.0 holds account there.1)))
