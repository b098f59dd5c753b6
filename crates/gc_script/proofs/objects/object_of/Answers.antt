use Rattle.std.proofs.Common.{◌≡◌, Option, sym, ◌∙◌, subst}
use Rattle.std.specs.Prelude.{IfSome}
use Rattle.gc_script.specs.declared.objects.NamedObject.{NamedObject}
use Rattle.gc_script.specs.Named.{TellsObject, IsNamedSomewhere}
use Rattle.gc_script.proofs.ObjectLemmas.{found_named, tells_taken, tells_other, described_root}
use Rattle.gc_script.proofs.objects.object_of.Goals as goal

pub returns-then-takes-clause-named : goal.returns-then-takes-clause-named
returns-then-takes-clause-named g c finds =
    subst (λ (o : Option NamedObject). IfSome o (IsNamedSomewhere g.H.GcHeap.KIND c.args.store.now c.args.wanted)) (sym c.describe.ensures)
    (found_named g.H.GcHeap.KIND c.args.store.now c.args.root c.args.wanted c.args.object.now finds (sym c.takes.ensures ∙ c.if-takes.true))

pub returns-then-takes-clause-tells : goal.returns-then-takes-clause-tells
returns-then-takes-clause-tells g c t r holds named is =
    subst (TellsObject c.args.store.now t c.args.wanted r) (sym c.describe.ensures)
    (tells_taken g.H.GcHeap.KIND c.args.store.now t holds c.args.root c.args.wanted c.args.object.now r named is (sym c.takes.ensures ∙ c.if-takes.true))

pub returns-else-takes-clause-tells : goal.returns-else-takes-clause-tells
returns-else-takes-clause-tells g c t r holds named is =
    tells_other g.H.GcHeap.KIND c.args.store.now t holds c.args.root c.args.wanted c.args.object.now r is (sym c.takes.ensures ∙ c.if-takes.false)

pub returns-then-takes-clause-root : goal.returns-then-takes-clause-root
returns-then-takes-clause-root g c =
    subst (λ (o : Option NamedObject). IfSome o (λ (found : NamedObject). found.root ≡ c.args.root)) (sym c.describe.ensures) (described_root c.args.store.now.types c.args.root c.args.object.now)
