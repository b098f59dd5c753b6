-- The second type of a kit is declared.
use Rattle.std.proofs.Common.{◌≡◌, ℕ, ◌+◌, ◌<◌, ◌≤◌, List, [], ◌∷◌, ◌++◌, length, true, Some, None, Result, Ok, Err, inr, ap, ◌∙◌, subst, arith}
use Rattle.std.specs.List.{slice_get}
use Rattle.std.specs.Prelude.{option_map}
use Rattle.std.proofs.lemmas.List.{length-append}
use Rattle.std.proofs.lemmas.List.Elements.{All-from_recursion}
use Rattle.gc_types.specs.declared.kind.Layouts.{Layouts}
use Rattle.gc_types.specs.declared.kind.TypeKind.TheVariants as kinds
use Rattle.gc_types.specs.declared.types.TypeFault.{TypeFault}
use Rattle.gc_types.specs.declared.types.TypeFault.TheVariants as type_fault
use Rattle.gc_types.specs.Declarable.{Declarable, IsKnownField}
use Rattle.gc_types.specs.Declarations.{Declaration, TypeName, kind_at, shape_kind, struct_type}
use Rattle.gc_types.specs.declared.value.FieldType.{FieldType}
use Rattle.gc_model.proofs.Lists.{slice_get-push_new}
use Rattle.gc_model.specs.Table.{Table, declare}
use Rattle.gc_model.specs.Stores.{StoreView}
use Rattle.gc_model.specs.Accounts.{Account, HoldsAccount}
use Rattle.gc_store.specs.Stores.{Declares}
use Rattle.gc_lists.specs.Kits.{MakesKit, cell_fields, cell_type, node_fields, node_type}

node_kind : (types : List Declaration) (m : ℕ) → m ≡ length types → kind_at (types ++ node_type m ∷ []) m ≡ Some kinds.Struct
node_kind types m is =
    ap (λ n. option_map (λ (d : Declaration). shape_kind d.shape) (slice_get (types ++ node_type m ∷ []) n)) is
    ∙ ap (option_map (λ (d : Declaration). shape_kind d.shape)) (slice_get-push_new types (node_type m))

node_declarable : (types : List Declaration) (m : ℕ) → m ≡ length types → length types < 4294967295 → Declarable types (node_type m)
node_declarable types m is few = record {
  few_fields = omega arith;
  exn_is_final = tt;
  few_types = few;
  known =
      let kind = node_kind types m is in
      All-from_recursion (IsKnownField (types ++ node_type m ∷ [])) (node_fields m) (tt, (tt, (tt, (kind, (kind, tt)))));
  extends = tt;
}

pub second_refused : {D : Type 0} (layouts : Layouts) (t : Table D) (a : Account) (new : StoreView D) (n m : ℕ) (why : TypeFault) → n ≡ length t.types → m ≡ n + 1 → n ≤ 4294967293
    → Declares layouts (node_type m) (declare (cell_type n) t) a (Err why) new → MakesKit layouts t a (Err why) new
second_refused layouts t a new n m type_fault.BadType n_is m_is few declares =
    let count : length (t.types ++ cell_type n ∷ []) ≡ length t.types + 1 = length-append t.types (cell_type n ∷ []) in
    absurd (declares.0 (node_declarable (t.types ++ cell_type n ∷ []) m (omega (arith, count, n_is, m_is)) (omega (arith, count, n_is, few))))
second_refused layouts t a new n m type_fault.Memory n_is m_is few declares = (omega (arith, n_is, few), inr (subst (λ k. HoldsAccount layouts new (declare (cell_type k) t) a) n_is declares))

-- the two calls, the second of which is refused
pub kit_refused : {D : Type 0} (layouts : Layouts) (t : Table D) (a : Account) (mid new : StoreView D) (n cell node : ℕ) (fields others : List FieldType) (ty : TypeName) (first second : Result TypeName TypeFault) (why : TypeFault)
    → n ≡ length t.types → n ≤ 4294967293 → cell ≡ n → node ≡ n + 1 → fields ≡ cell_fields cell → others ≡ node_fields node → first ≡ Ok ty → second ≡ Err why
    → Declares layouts (struct_type fields None true) t a first mid → ((u : Table D) → HoldsAccount layouts mid u a → Declares layouts (struct_type others None true) u a second new)
    → MakesKit layouts t a (Err why) new
kit_refused layouts t a mid new n cell node fields others ty first second why n_is few cell_is node_is fields_are others_are first_is second_is declares goes_on =
    let one = subst (λ (r : Result TypeName TypeFault). Declares layouts (struct_type fields None true) t a r mid) first_is declares in
    let there = subst (λ (fs : List FieldType). HoldsAccount layouts mid (declare (struct_type fs None true) t) a) (fields_are ∙ ap cell_fields cell_is) one.1.1 in
    let two = subst (λ (r : Result TypeName TypeFault). Declares layouts (struct_type others None true) (declare (cell_type n) t) a r new) second_is (goes_on (declare (cell_type n) t) there) in
    second_refused layouts t a new n node why n_is node_is few (subst (λ (fs : List FieldType). Declares layouts (struct_type fs None true) (declare (cell_type n) t) a (Err why) new) others_are two)
