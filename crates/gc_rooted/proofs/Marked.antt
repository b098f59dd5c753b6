-- What a marker takes of what a root names.
use Rattle.std.proofs.Common.{◌≡◌, ◌↔◌, IsTrue, Bool, false, Option, Some, None, sym, ◌∙◌, subst}
use Rattle.std.specs.List.{slice_get}
use Rattle.gc_types.specs.declared.kind.VMGcKind.{VMGcKind}
use Rattle.gc_owner.specs.declared.entry.GcClass.{GcClass}
use Rattle.gc_model.specs.Values.{Reference, null, small, at, Object, struct, array, host, exception}
use Rattle.gc_model.specs.Table.{Table}
use Rattle.gc_values.specs.declared.root.RootedObject.{RootedObject}
use Rattle.gc_rooted.specs.Marks.{IsMarked, IsOfMark}
use Rattle.gc_store.specs.Roots.{IsObject, IsReference}

-- a reference is told in one way
object_alike : {D : Type 0} (o : Option (Object D)) (a b : RootedObject) → IsObject o a → IsObject o b → a ≡ b
object_alike None a b x y = absurd x
object_alike (Some (struct ty values)) a b x y = x ∙ sym y
object_alike (Some (array ty values)) a b x y = x ∙ sym y
object_alike (Some (host value)) a b x y = x ∙ sym y
object_alike (Some (exception ty tag values)) a b x y = x ∙ sym y

reference_alike : {D : Type 0} (t : Table D) (r : Reference) (a b : RootedObject) → IsReference t r a → IsReference t r b → a ≡ b
reference_alike t null a b x y = absurd x
reference_alike t (small n) a b x y = x ∙ sym y
reference_alike t (at p) a b x y = object_alike (slice_get t.objects p) a b x y

-- so it is none that the marker takes where what is told is none
not_marked : {D : Type 0} (class : GcClass) (kind : VMGcKind) (t : Table D) (r : Reference) (object : RootedObject) → IsReference t r object → ¬ IsOfMark class kind object → ¬ IsMarked class kind t r
not_marked class kind t r object is other marked = other (subst (IsOfMark class kind) (reference_alike t r marked.0 object marked.1.0 is) marked.1.1)

-- so where the test of what is told finds none, by the class and the kind of the marker
pub finds_none : {D : Type 0} (class c : GcClass) (kind k : VMGcKind) → c ≡ class → k ≡ kind → (t : Table D) (r : Reference) (object : RootedObject) (b : Bool) → (IsTrue b ↔ IsOfMark c k object)
    → IsReference t r object → b ≡ false → ¬ IsMarked class kind t r
finds_none class c kind k class_is kind_is t r object b says is none =
    not_marked class kind t r object is
    (λ x. absurd (cc (sym none ∙ says.1 (subst (λ (y : VMGcKind). IsOfMark c y object) (sym kind_is) (subst (λ (y : GcClass). IsOfMark y kind object) (sym class_is) x)))))
