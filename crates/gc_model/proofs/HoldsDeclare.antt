-- A store that holds a table holds it with one more type.
use Rattle.std.proofs.Common.{◌≡◌, ℕ, List, [], ◌∷◌, ◌++◌, Option, Some, None, refl, sym, ap, ◌∙◌, subst, arith}
use Rattle.std.specs.List.{slice_get}
use Rattle.std.specs.Prelude.{option_map}
use Rattle.std.proofs.lemmas.Option.{none-some, slice_get_within}
use Rattle.gc_types.specs.declared.kind.Layouts.{Layouts}
use Rattle.gc_types.specs.declared.kind.Layouts.TheVariants.{Null, Counting, Copying}
use Rattle.gc_types.specs.Declarations.{Declaration, Shape}
use Rattle.gc_model.specs.Values.{Object, struct, array, host, exception}
use Rattle.gc_model.specs.Table.{Table, declare}
use Rattle.gc_view.specs.Heaps.{HeapView, HeapObject}
use Rattle.gc_model.specs.Stores.{StoreView}
use Rattle.gc_model.specs.Holds.{Placing, Names, InternedIds, naming, Holds, KindHolds, Stands, ObjectsHold}
use Rattle.gc_model.proofs.Types.{shape_at-push, IsTyped, next_after-push_type}
use Rattle.gc_model.proofs.ObjectStands.{stands_renamed}
use Rattle.gc_model.proofs.Typing.{typed-declared}
use Rattle.gc_model.proofs.HoldsParts.{types_changed}
use Rattle.gc_model.proofs.PointParts.{NullHolds}

-- the store with one more type
abbrev pub with_type : {D : Type 0} → Declaration → StoreView D → StoreView D
with_type d s = record s { types = s.types ++ d ∷ [] }

-- an object stands for the same in a longer table of types
stands-push_type : {D : Type 0} (layouts : Layouts) (types : List Declaration) (d : Declaration) (names : Names) (entry : Object D) (h : HeapObject) → Stands layouts types names entry h → Stands layouts (types ++ d ∷ []) names entry h
stands-push_type layouts types d names entry h stands = stands_renamed layouts types (types ++ d ∷ []) names names entry h (shape_at-push types d) (λ slots values lie. lie) stands

-- a type of a shape is declared
declared_type : (d : Option Declaration) (shape : Shape) → option_map (λ (x : Declaration). x.shape) d ≡ Some shape → (x : Declaration) × (d ≡ Some x)
declared_type None shape e = absurd (none-some shape e)
declared_type (Some d) shape e = (d, refl)

-- what stands for an object has its type
pub typed-stands : {D : Type 0} (layouts : Layouts) (types : List Declaration) (names : Names) (entry : Object D) (h : HeapObject) → Stands layouts types names entry h → IsTyped types entry
typed-stands layouts types names (struct ty values) h stands = declared_type (slice_get types ty) stands.stands.shape stands.stands.declared
typed-stands layouts types names (array ty values) h stands = declared_type (slice_get types ty) stands.stands.shape stands.stands.declared
typed-stands layouts types names (host value) h stands = tt
typed-stands layouts types names (exception ty tag values) h stands = declared_type (slice_get types ty) stands.stands.shape stands.stands.declared

-- in a null heap each object's type is declared
pub all_typed : {D : Type 0} (t : Table D) (place : Placing) {ids : InternedIds} (heap : HeapView) → ObjectsHold Null t (naming place ids) heap → NullHolds t place heap → (i : ℕ) (o : Object D) → slice_get t.objects i ≡ Some o → IsTyped t.types o
all_typed {D} t place {ids} heap objects null i o e =
    let placed = null.all_held i (slice_get_within t.objects i o e) in
    let held = objects.placed i placed.0 placed.1 in
    let same : held.entry ≡ o = grind (arith, sym held.in_table ∙ e) in
    subst (IsTyped t.types) same (typed-stands Null t.types (naming place ids) held.entry held.object held.stands)

declare_by_kind : {D : Type 0} (layouts : Layouts) (d : Declaration) (t : Table D) (place : Placing) {ids : InternedIds} (heap : HeapView) → ObjectsHold layouts t (naming place ids) heap → KindHolds layouts t place heap → KindHolds layouts (declare d t) place heap
declare_by_kind Null d t place heap objects null = record {
  all_held = null.all_held;
  allocated = null.allocated ∙ sym (next_after-push_type t.types d 1 t.objects (all_typed t place heap objects null));
}
declare_by_kind Counting d t place heap objects kind = tt
declare_by_kind Copying d t place heap objects kind = tt

-- a declaration keeps that each object stands for the table's
objects-declared : {D : Type 0} (layouts : Layouts) (d : Declaration) (t : Table D) (place : Placing) {ids : InternedIds} (heap : HeapView) → ObjectsHold layouts t (naming place ids) heap → ObjectsHold layouts (declare d t) (naming place ids) heap
objects-declared layouts d t place {ids} heap objects = record {
  placed = λ position word e. let held = objects.placed position word e in record {
    object = held.object;
    entry = held.entry;
    in_heap = held.in_heap;
    in_table = held.in_table;
    stands = stands-push_type layouts t.types d (naming place ids) held.entry held.object held.stands;
  };
  only = objects.only;
  injective = objects.injective;
  even = objects.even;
}

pub holds_declare : {D : Type 0} (layouts : Layouts) (s : StoreView D) (t : Table D) (place : Placing) (d : Declaration) → Holds layouts s t place → Holds layouts (with_type d s) (declare d t) place
holds_declare layouts s t place d holds =
    types_changed holds
    (ap (λ types. types ++ d ∷ []) holds.types)
    (objects-declared layouts d t place s.heap holds.objects)
    (declare_by_kind layouts d t place s.heap holds.objects holds.by_kind)
    (typed-declared t.types t.objects holds.typed d)
