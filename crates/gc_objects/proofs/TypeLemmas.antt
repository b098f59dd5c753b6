-- The type of what a handle names, by its name.
use Rattle.std.proofs.Common.{◌≡◌, ◌↔◌, IsTrue, ℕ, Bool, true, ◌&&◌, ◌==◌, List, Option, Some, Result, Ok, Err, IfSome, IsSome, sym, ap, ◌∙◌, refl, subst}
use Rattle.gc_types.specs.declared.kind.Layouts.{Layouts}
use Rattle.gc_types.specs.declared.kind.TypeKind.{TypeKind}
use Rattle.gc_types.specs.declared.kind.TypeKind.TheVariants as type_kinds
use Rattle.gc_types.specs.declared.value.FieldType.{FieldType}
use Rattle.gc_types.specs.Declarations.{Declaration, TypeName, TypeTable, kind_at, elem_at}
use Rattle.gc_types.specs.Subtyping.{supertypes_of, Meets}
use Rattle.gc_model.specs.Values.{Reference}
use Rattle.gc_model.specs.Table.{Table}
use Rattle.gc_model.specs.Stores.{StoreView}
use Rattle.gc_values.specs.declared.root.GcRootIndex.{GcRootIndex}
use Rattle.gc_values.specs.declared.root.RootFault.{RootFault}
use Rattle.gc_values.specs.declared.root.RootFault.TheVariants as fault
use Rattle.gc_values.specs.declared.root.RootedObject.TheVariants as rooted_object
use Rattle.gc_store.specs.Roots.{is_of_store, FindsRoot}
use Rattle.gc_objects.specs.Answered.{Answers, HasTypeNamed, MatchesType, are_own_names, type_named}
use Rattle.gc_objects.specs.Kinds.{is_type_of}
use Rattle.gc_objects.proofs.Naming.{both}
use Rattle.gc_objects.proofs.Questions.{answers_ok, answers_err, tells_struct, tells_array}
use Rattle.gc_objects.proofs.TypedObjects.{struct_typed, array_typed}

module _ {D A : Type 0} (s : StoreView D) (t : Table D) (root this : GcRootIndex) (same : root ≡ this) (IsOf : Reference → ℕ → Type 0) (Tells : Reference → A → Type 0) (result : Result A RootFault)
    (answers : Answers s t (is_of_store s root) root Tells result) where
  -- a refusal, of the handle that was given
  pub refused_here : {B : Type 0} (Says : Reference → B → Type 0) (why : RootFault) → result ≡ Err why → Answers s t (is_of_store s this) this Says (Err why)
  refused_here Says why is =
      subst (λ (h : GcRootIndex). Answers s t (is_of_store s h) h Says (Err why)) same (answers_err s t (is_of_store s root) root Tells Says result why is answers)

  module _ (x : A) (ty : ℕ) (is : result ≡ Ok x) (of_type : (r : Reference) → Tells r x → IsOf r ty) where
    pub answers_here : {B : Type 0} (Says : Reference → B → Type 0) (y : B) → ((r : Reference) → Tells r x → Says r y) → Answers s t (is_of_store s this) this Says (Ok y)
    answers_here Says y says = subst (λ (h : GcRootIndex). Answers s t (is_of_store s h) h Says (Ok y)) same (answers_ok s t (is_of_store s root) root Tells Says result x y is says answers)

    -- the name of its type
    pub type_told : (name : TypeName) → name ≡ type_named s ty → Answers s t (is_of_store s this) this (HasTypeNamed s IsOf) (Ok name)
    type_told name e = answers_here (HasTypeNamed s IsOf) name (λ r told. (ty, (of_type r told, e)))

    -- whether it is of another type, which is the store's too
    pub type_matched : (other : TypeName) (b : Bool) → is_type_of s other ≡ true → (IsTrue b ↔ Meets (supertypes_of t.types) ty other.index) → Answers s t (are_own_names s this other) this (MatchesType t IsOf other.index) (Ok b)
    type_matched other b own meets =
        let ok = answers_here (MatchesType t IsOf other.index) b (λ r told. (ty, (of_type r told, meets))) in
        (both (is_of_store s this) (is_type_of s other) ok.0 own, ok.1)

-- another one's refusal where a type was given too
pub refused_typed : {D B : Type 0} (s : StoreView D) (t : Table D) (handle : GcRootIndex) (other : TypeName) → is_of_store s handle ≡ true → is_type_of s other ≡ true → (Says : Reference → B → Type 0) (why : RootFault)
    → Answers s t (is_of_store s handle) handle Says (Err why) → Answers s t (are_own_names s handle other) handle Says (Err why)
refused_typed s t handle other own typed Says fault.WrongStore answers = absurd (cc (sym own ∙ answers))
refused_typed s t handle other own typed Says fault.Unrooted answers = (both (is_of_store s handle) (is_type_of s other) own typed, answers.1)
refused_typed s t handle other own typed Says fault.RootsFull answers = absurd answers
refused_typed s t handle other own typed Says fault.Memory answers = absurd answers

-- The type of what is found is declared with its kind.
module _ {D : Type 0} (layouts : Layouts) (s : StoreView D) (root : GcRootIndex) where
  pub struct_declared : (ty : ℕ) → FindsRoot D layouts s root (rooted_object.Struct ty) → kind_at s.types ty ≡ Some type_kinds.Struct
  struct_declared ty found =
      let told = tells_struct found.table (rooted_object.Struct ty) ty refl found.root found.is in
      let typed = struct_typed layouts s found.table found.holds root found.root ty found.named told in
      ap (λ (types : List Declaration). kind_at types ty) found.holds.1.types ∙ typed.kind

  pub array_declared : (ty count : ℕ) → FindsRoot D layouts s root (rooted_object.Array ty count) → (kind_at s.types ty ≡ Some type_kinds.Array) × IsSome (elem_at s.types ty)
  array_declared ty count found =
      let told = tells_array found.table (rooted_object.Array ty count) (record { ty = ty; len = count }) refl found.root found.is in
      let typed = array_typed layouts s found.table found.holds root found.root (record { ty = ty; len = count }) found.named told in (
        ap (λ (types : List Declaration). kind_at types ty) found.holds.1.types ∙ typed.kind,
        subst (λ (o : Option FieldType). IsSome o) (sym (ap (λ (types : List Declaration). elem_at types ty) found.holds.1.types ∙ typed.element_is)) refl,
      )

-- a type that is declared with a kind has a name of that kind
pub has_name : (types : List Declaration) (table : TypeTable) (ty : ℕ) (kind : TypeKind) (name : Option TypeName) → table.declarations ≡ types → kind_at types ty ≡ Some kind
    → (IsSome name ↔ (kind_at table.declarations ty ≡ Some kind)) → IsSome name
has_name types table ty kind name same declared says = says.1 (ap (λ (ds : List Declaration). kind_at ds ty) same ∙ declared)

-- which is the store's
pub name_is : {D : Type 0} (s : StoreView D) (table : TypeTable) (ty : ℕ) (given : Option TypeName) (name : TypeName) → table ≡ record { engine = s.engine; number = s.number; declarations = s.types } → given ≡ Some name
    → IfSome given (λ (n : TypeName). n ≡ record { engine = table.engine; number = table.number; index = ty }) → name ≡ type_named s ty
name_is s table ty given name same is says =
    let told : name ≡ record { engine = table.engine; number = table.number; index = ty } = subst (λ (o : Option TypeName). IfSome o (λ (n : TypeName). n ≡ record { engine = table.engine; number = table.number; index = ty })) is says in
    told ∙ ap (λ (x : TypeTable). record { engine = x.engine; number = x.number; index = ty }) same

-- numbers that are those of a type's name are tested as it
pub carries_type : {D : Type 0} (s : StoreView D) (ty : TypeName) (engine number : ℕ) (b : Bool) → engine ≡ ty.engine → number ≡ ty.number → b ≡ ((engine == s.engine) && (number == s.number)) → b ≡ is_type_of s ty
carries_type s ty engine number b engine_is number_is e = e ∙ (λ i. (engine_is i == s.engine) && (number_is i == s.number))

-- what is asked of the type table is asked of the table's types
pub meets_here : (table : TypeTable) (types : List Declaration) (own index other : ℕ) (b : Bool) → table.declarations ≡ types → index ≡ other → (IsTrue b ↔ Meets (supertypes_of table.declarations) own index) → IsTrue b ↔ Meets (supertypes_of types) own other
meets_here table types own index other b same same_index meets =
    subst (λ (n : ℕ). IsTrue b ↔ Meets (supertypes_of types) own n) same_index (subst (λ (ds : List Declaration). IsTrue b ↔ Meets (supertypes_of ds) own index) same meets)

-- a type that was asked for its name is the store's where its numbers are
pub name_own : {D : Type 0} (s : StoreView D) (ty name : TypeName) → name ≡ ty → (engine number : ℕ) (b : Bool) → engine ≡ name.engine → number ≡ name.number → b ≡ ((engine == s.engine) && (number == s.number)) → b ≡ true → is_type_of s ty ≡ true
name_own s ty name same engine number b engine_is number_is e is =
    sym (carries_type s ty engine number b (engine_is ∙ ap (λ (n : TypeName). n.engine) same) (number_is ∙ ap (λ (n : TypeName). n.number) same) e) ∙ is
