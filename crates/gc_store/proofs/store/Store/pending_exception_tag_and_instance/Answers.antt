use Rattle.std.proofs.Common.{◌≡◌, ◌<◌, Some, ap, sym, ◌∙◌, subst, arith}
use Rattle.gc_model.specs.Table.{Table}
use Rattle.gc_model.specs.Stores.{StoreView}
use Rattle.gc_model.specs.Holds.{Holds, Placing, IsException}
use Rattle.gc_values.specs.declared.root.RootedObject.TheVariants as rooted_object
use Rattle.gc_store.proofs.PendingLemmas.{some_pending, told_exception}
use Rattle.gc_store.proofs.store.Store.pending_exception_tag_and_instance.Given as given
use Rattle.gc_store.proofs.store.Store.pending_exception_tag_and_instance.Goals as goal
use Rattle.gc_store.proofs.store.Store.pending_exception_tag_and_instance.Goals.{After-describe}

-- what is pending is told to be an exception
tells : (g : given.Over) (c : After-describe g) (t : Table g.row.D.Denot) (place : Placing) → Holds g.H.GcHeap.KIND c.args.self.now t place
    → (r : _) × ((t.pending ≡ Some r) × ((is : IsException t.objects r) × (c.describe.result ≡ rooted_object.Exn is.ty is.tag)))
tells g c t place holds =
    let is : c.pending-word.result ≡ c.args.self.now.pending = c.pending-word.ensures ∙ ap (λ (s : StoreView g.row.D.Denot). s.pending) c.self.view_is in
    let positive : 0 < c.pending-word.result = omega (arith, c.if-word-eq0.false) in
    let some = some_pending g.H.GcHeap.KIND c.args.self.now t place holds c.pending-word.result is positive in
    (some.0, (some.1.0, (some.1.1.1, told_exception t some.0 some.1.1.1 c.describe.result (c.describe.ensures t place some.0 holds some.1.1.0 positive))))

-- in the table that the store holds
told : (g : given.Over) (c : After-describe g) → (r : _) × ((c.self.invariant.table.pending ≡ Some r) × ((is : IsException c.self.invariant.table.objects r) × (c.describe.result ≡ rooted_object.Exn is.ty is.tag)))
told g c =
    tells g c c.self.invariant.table c.self.invariant.holds.place
    (subst (λ (s : StoreView g.row.D.Denot). Holds g.H.GcHeap.KIND s c.self.invariant.table c.self.invariant.holds.place) c.self.view_is c.self.invariant.holds.holds)

pub unreachable-requires : goal.unreachable-requires
unreachable-requires g c = let e = (told g (goal.at.unreachable-requires g c).After-describe).1.1.1 in cc (sym e ∙ c.in-I31.is)

pub unreachable-requires-in-Struct : goal.unreachable-requires-in-Struct
unreachable-requires-in-Struct g c = let e = (told g (goal.at.unreachable-requires-in-Struct g c).After-describe).1.1.1 in cc (sym e ∙ c.in-Struct.is)

pub unreachable-requires-in-Array : goal.unreachable-requires-in-Array
unreachable-requires-in-Array g c = let e = (told g (goal.at.unreachable-requires-in-Array g c).After-describe).1.1.1 in cc (sym e ∙ c.in-Array.is)

pub unreachable-requires-in-Host : goal.unreachable-requires-in-Host
unreachable-requires-in-Host g c = let e = (told g (goal.at.unreachable-requires-in-Host g c).After-describe).1.1.1 in cc (sym e ∙ c.in-Host.is)

pub returns : goal.returns
returns g c = λ t held.
    let told = tells g (goal.at.returns g c).After-describe t held.0 held.1 in
    let both = sym told.1.1.1 ∙ c.in-Exn.is in
    (told.0, (told.1.0, (told.1.1.0, grind (arith, both))))
