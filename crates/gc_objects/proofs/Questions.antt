-- What is answered of a handle by what the store says of it.
use Rattle.std.proofs.Common.{◌≡◌, ℕ, length, Bool, false, List, Option, Some, None, Result, Ok, Err, IfOk, sym, ap, ◌∙◌, refl, subst, arith}
use Rattle.std.specs.List.{slice_get}
use Rattle.std.proofs.lemmas.Option.{none-some}
use Rattle.gc_types.specs.declared.kind.Layouts.{Layouts}
use Rattle.gc_types.specs.declared.kind.VMGcKind.TheVariants as kinds
use Rattle.gc_model.specs.Values.{Reference, null, small, at, Value, Object, struct, array, host, exception}
use Rattle.gc_model.specs.Table.{Table}
use Rattle.gc_model.specs.Stores.{StoreView}
use Rattle.gc_model.specs.Holds.{HoldsTable}
use Rattle.gc_values.specs.declared.root.GcRootIndex.{GcRootIndex}
use Rattle.gc_values.specs.declared.root.RootFault.{RootFault}
use Rattle.gc_values.specs.declared.root.RootFault.TheVariants as fault
use Rattle.gc_objects.specs.declared.faults.AccessFault.{AccessFault}
use Rattle.gc_objects.specs.declared.faults.AccessFault.TheVariants as access_fault
use Rattle.gc_objects.specs.Faults.{accessed}
use Rattle.gc_values.specs.declared.root.RootedObject.{RootedObject}
use Rattle.gc_rooted.specs.declared.rooted.Rooted.{Rooted}
use Rattle.gc_store.specs.Roots.{is_of_store, NamesReference, IsReference, IsObject, FindsRoot}
use Rattle.gc_store.specs.Kinds.{object_kind, IsReferenceOfKind, NamesKind}
use Rattle.gc_objects.specs.declared.places.NamedArray.{NamedArray}
use Rattle.gc_objects.specs.Answered.{Answers, named_object, IsStruct, IsNamedArray, IsNumber, i31_in, struct_in, named_array_in, is_some_struct, is_some_array, IsStructRoot, IsArrayRoot}
use Rattle.gc_objects.proofs.Pushed.{named_kind}

module _ {D : Type 0} (s : StoreView D) (t : Table D) (own : Bool) (handle : GcRootIndex) where
  -- an answer is turned into another, by what it tells of the reference
  pub answers_ok : {A B : Type 0} (Tells : Reference → A → Type 0) (Says : Reference → B → Type 0) (result : Result A RootFault) (x : A) (y : B) → result ≡ Ok x
      → ((r : Reference) → Tells r x → Says r y) → Answers s t own handle Tells result → Answers s t own handle Says (Ok y)
  answers_ok Tells Says result x y is says answers =
      let ok = subst (λ (q : Result _ RootFault). Answers s t own handle Tells q) is answers in
      (ok.0, (ok.1.0, (ok.1.1.0, says ok.1.0 ok.1.1.1)))

  -- so where what it tells depends on the handle's naming it
  pub answers_named : {A B : Type 0} (Tells : Reference → A → Type 0) (Says : Reference → B → Type 0) (result : Result A RootFault) (x : A) (y : B) → result ≡ Ok x
      → ((r : Reference) → NamesReference s t handle r → Tells r x → Says r y) → Answers s t own handle Tells result → Answers s t own handle Says (Ok y)
  answers_named Tells Says result x y is says answers =
      let ok = subst (λ (q : Result _ RootFault). Answers s t own handle Tells q) is answers in
      (ok.0, (ok.1.0, (ok.1.1.0, says ok.1.0 ok.1.1.0 ok.1.1.1)))

  refused_alike : {A B : Type 0} (Tells : Reference → A → Type 0) (Says : Reference → B → Type 0) (why : RootFault)
      → Answers s t own handle Tells (Err why) → Answers s t own handle Says (Err why)
  refused_alike Tells Says fault.WrongStore answers = answers
  refused_alike Tells Says fault.Unrooted answers = answers
  refused_alike Tells Says fault.RootsFull answers = absurd answers
  refused_alike Tells Says fault.Memory answers = absurd answers

  -- a refusal is that of any other question
  pub answers_err : {A B : Type 0} (Tells : Reference → A → Type 0) (Says : Reference → B → Type 0) (result : Result A RootFault) (why : RootFault) → result ≡ Err why
      → Answers s t own handle Tells result → Answers s t own handle Says (Err why)
  answers_err Tells Says result why is answers = refused_alike Tells Says why (subst (λ (q : Result _ RootFault). Answers s t own handle Tells q) is answers)

-- what the store says of an object tells which it is
number_object : {D : Type 0} (o : Option (Object D)) (x : RootedObject) → IsObject o x → i31_in x ≡ None
number_object None x is = absurd is
number_object (Some (struct ty values)) x is = ap i31_in is
number_object (Some (array ty values)) x is = ap i31_in is
number_object (Some (host value)) x is = ap i31_in is
number_object (Some (exception ty tag values)) x is = ap i31_in is

pub tells_number : {D : Type 0} (t : Table D) (x : RootedObject) (n : Option ℕ) → n ≡ i31_in x → (r : Reference) → IsReference t r x → IsNumber r n
tells_number t x n e null is = absurd is
tells_number t x n e (small m) is = e ∙ ap i31_in is
tells_number t x n e (at p) is = e ∙ number_object (slice_get t.objects p) x is

struct_object : {D : Type 0} (o : Option (Object D)) (x : RootedObject) (ty : ℕ) → struct_in x ≡ Some ty → IsObject o x → (values : List Value) × (o ≡ Some (struct ty values))
struct_object None x ty e is = absurd is
struct_object (Some (struct own values)) x ty e is =
    let types : Some own ≡ Some ty = sym (ap struct_in is) ∙ e in
    let same : own ≡ ty = grind (arith, types) in
    (values, ap (λ n. Some (struct n values)) same)
struct_object (Some (array own values)) x ty e is = absurd (none-some ty (sym (ap struct_in is) ∙ e))
struct_object (Some (host value)) x ty e is = absurd (none-some ty (sym (ap struct_in is) ∙ e))
struct_object (Some (exception own tag values)) x ty e is = absurd (none-some ty (sym (ap struct_in is) ∙ e))

pub tells_struct : {D : Type 0} (t : Table D) (x : RootedObject) (ty : ℕ) → struct_in x ≡ Some ty → (r : Reference) → IsReference t r x → IsStruct t r ty
tells_struct t x ty e null is = absurd is
tells_struct t x ty e (small m) is = absurd (none-some ty (sym (ap struct_in is) ∙ e))
tells_struct t x ty e (at p) is = struct_object (slice_get t.objects p) x ty e is

no_struct_object : {D : Type 0} (o : Option (Object D)) (x : RootedObject) → struct_in x ≡ None → IsObject o x → is_some_struct o ≡ false
no_struct_object None x e is = absurd is
no_struct_object (Some (struct own values)) x e is = absurd (none-some own (sym e ∙ ap struct_in is))
no_struct_object (Some (array own values)) x e is = refl
no_struct_object (Some (host value)) x e is = refl
no_struct_object (Some (exception own tag values)) x e is = refl

pub tells_no_struct : {D : Type 0} (t : Table D) (x : RootedObject) → struct_in x ≡ None → (r : Reference) → IsReference t r x → is_some_struct (named_object t r) ≡ false
tells_no_struct t x e null is = refl
tells_no_struct t x e (small m) is = refl
tells_no_struct t x e (at p) is = no_struct_object (slice_get t.objects p) x e is

array_object : {D : Type 0} (o : Option (Object D)) (x : RootedObject) (named : NamedArray) → named_array_in x ≡ Some named → IsObject o x
    → (values : List Value) × ((o ≡ Some (array named.ty values)) × (named.len ≡ length values))
array_object None x named e is = absurd is
array_object (Some (struct own values)) x named e is = absurd (none-some named (sym (ap named_array_in is) ∙ e))
array_object (Some (array own values)) x named e is =
    let arrays : Some (record { ty = own; len = length values }) ≡ Some named = sym (ap named_array_in is) ∙ e in
    let same : (record { ty = own; len = length values }) ≡ named = grind (arith, arrays) in
    (values, (ap (λ (a : NamedArray). Some (array a.ty values)) same, sym (ap (λ (a : NamedArray). a.len) same)))
array_object (Some (host value)) x named e is = absurd (none-some named (sym (ap named_array_in is) ∙ e))
array_object (Some (exception own tag values)) x named e is = absurd (none-some named (sym (ap named_array_in is) ∙ e))

pub tells_array : {D : Type 0} (t : Table D) (x : RootedObject) (named : NamedArray) → named_array_in x ≡ Some named → (r : Reference) → IsReference t r x → IsNamedArray t r named
tells_array t x named e null is = absurd is
tells_array t x named e (small m) is = absurd (none-some named (sym (ap named_array_in is) ∙ e))
tells_array t x named e (at p) is = array_object (slice_get t.objects p) x named e is

no_array_object : {D : Type 0} (o : Option (Object D)) (x : RootedObject) → named_array_in x ≡ None → IsObject o x → is_some_array o ≡ false
no_array_object None x e is = absurd is
no_array_object (Some (struct own values)) x e is = refl
no_array_object (Some (array own values)) x e is = absurd (none-some (record { ty = own; len = length values }) (sym e ∙ ap named_array_in is))
no_array_object (Some (host value)) x e is = refl
no_array_object (Some (exception own tag values)) x e is = refl

pub tells_no_array : {D : Type 0} (t : Table D) (x : RootedObject) → named_array_in x ≡ None → (r : Reference) → IsReference t r x → is_some_array (named_object t r) ≡ false
tells_no_array t x e null is = refl
tells_no_array t x e (small m) is = refl
tells_no_array t x e (at p) is = no_array_object (slice_get t.objects p) x e is

-- a reference that is a struct, or an array, is of that kind
pub struct_kind : {D : Type 0} (t : Table D) (r : Reference) (ty : ℕ) → IsStruct t r ty → IsReferenceOfKind kinds.StructRef t r
struct_kind t null ty is = absurd (none-some _ is.1)
struct_kind t (small n) ty is = absurd (none-some _ is.1)
struct_kind t (at p) ty is = (struct ty is.0, (is.1, refl))

pub array_kind : {D : Type 0} (t : Table D) (r : Reference) (named : NamedArray) → IsNamedArray t r named → IsReferenceOfKind kinds.ArrayRef t r
array_kind t null named is = absurd (none-some _ is.1.0)
array_kind t (small n) named is = absurd (none-some _ is.1.0)
array_kind t (at p) named is = (array named.ty is.0, (is.1.0, refl))

-- and the other way
of_struct : {D : Type 0} (o : Object D) (x : RootedObject) → object_kind o ≡ kinds.StructRef → IsObject (Some o) x → struct_in x ≡ None → ⊥
of_struct (struct ty values) x kind is e = none-some ty (sym e ∙ ap struct_in is)
of_struct (array ty values) x kind is e = absurd (cc kind)
of_struct (host value) x kind is e = absurd (cc kind)
of_struct (exception ty tag values) x kind is e = absurd (cc kind)

of_array : {D : Type 0} (o : Object D) (x : RootedObject) → object_kind o ≡ kinds.ArrayRef → IsObject (Some o) x → named_array_in x ≡ None → ⊥
of_array (struct ty values) x kind is e = absurd (cc kind)
of_array (array ty values) x kind is e = none-some (record { ty = ty; len = length values }) (sym e ∙ ap named_array_in is)
of_array (host value) x kind is e = absurd (cc kind)
of_array (exception ty tag values) x kind is e = absurd (cc kind)

not_struct_in : {D : Type 0} (t : Table D) (x : RootedObject) (r : Reference) → IsReferenceOfKind kinds.StructRef t r → IsReference t r x → struct_in x ≡ None → ⊥
not_struct_in t x null kind is e = kind
not_struct_in t x (small n) kind is e = kind
not_struct_in t x (at p) kind is e = of_struct kind.0 x kind.1.1 (subst (λ o. IsObject o x) kind.1.0 is) e

not_array_in : {D : Type 0} (t : Table D) (x : RootedObject) (r : Reference) → IsReferenceOfKind kinds.ArrayRef t r → IsReference t r x → named_array_in x ≡ None → ⊥
not_array_in t x null kind is e = kind
not_array_in t x (small n) kind is e = kind
not_array_in t x (at p) kind is e = of_array kind.0 x kind.1.1 (subst (λ o. IsObject o x) kind.1.0 is) e

module _ {D : Type 0} (layouts : Layouts) (s : StoreView D) (handle : GcRootIndex) (result : Result RootedObject RootFault) (x : RootedObject) (is : result ≡ Ok x)
    (answers : (t : Table D) → HoldsTable layouts s t → Answers s t (is_of_store s handle) handle (IsReference t) result) where
  told : (t : Table D) → HoldsTable layouts s t → Answers s t (is_of_store s handle) handle (IsReference t) (Ok x)
  told t holds = subst (λ (q : Result RootedObject RootFault). Answers s t (is_of_store s handle) handle (IsReference t) q) is (answers t holds)

  -- a handle that is given as that of a struct, or of an array, names one
  pub is_a_struct : NamesKind D layouts s kinds.StructRef handle → struct_in x ≡ None → ⊥
  is_a_struct kind none = let ok = told kind.table kind.holds in not_struct_in kind.table x ok.1.0 (kind.is ok.1.0 ok.1.1.0) ok.1.1.1 none

  pub is_an_array : NamesKind D layouts s kinds.ArrayRef handle → named_array_in x ≡ None → ⊥
  is_an_array kind none = let ok = told kind.table kind.holds in not_array_in kind.table x ok.1.0 (kind.is ok.1.0 ok.1.1.0) ok.1.1.1 none

-- a handle that is found to be that of a struct, or of an array, may be given as one
pub finds_struct : {D : Type 0} (layouts : Layouts) (s : StoreView D) (handle : GcRootIndex) (x : RootedObject) (ty : ℕ) → struct_in x ≡ Some ty → FindsRoot D layouts s handle x → NamesKind D layouts s kinds.StructRef handle
finds_struct layouts s handle x ty e found =
    named_kind layouts s found.table found.holds handle kinds.StructRef found.root found.named (struct_kind found.table found.root ty (tells_struct found.table x ty e found.root found.is))

pub finds_array : {D : Type 0} (layouts : Layouts) (s : StoreView D) (handle : GcRootIndex) (x : RootedObject) (named : NamedArray) → named_array_in x ≡ Some named → FindsRoot D layouts s handle x → NamesKind D layouts s kinds.ArrayRef handle
finds_array layouts s handle x named e found =
    named_kind layouts s found.table found.holds handle kinds.ArrayRef found.root found.named (array_kind found.table found.root named (tells_array found.table x named e found.root found.is))

-- what is found of a result that is known
pub found_ok : {A : Type 0} (P : A → Type 0) (result : Result A RootFault) (x : A) → result ≡ Ok x → IfOk result P → P x
found_ok P result x is found = subst (λ (q : Result _ RootFault). IfOk q P) is found

-- Questions about any reference, whose root is that of the handle.
module _ {D : Type 0} (layouts : Layouts) (s : StoreView D) (root this : GcRootIndex) (same : root ≡ this) (result : Result RootedObject RootFault) where
  abbrev Told : Table D → Type 0
  Told t = Answers s t (is_of_store s root) root (IsReference t) result

  pub asks_number : (t : Table D) (x : RootedObject) (n : Option ℕ) → result ≡ Ok x → n ≡ i31_in x → Told t → Answers s t (is_of_store s this) this IsNumber (Ok n)
  asks_number t x n is e answers =
      subst (λ (h : GcRootIndex). Answers s t (is_of_store s h) h IsNumber (Ok n)) same
      (answers_ok s t (is_of_store s root) root (IsReference t) IsNumber result x n is (tells_number t x n e) answers)

  pub asks_refused : {B : Type 0} (t : Table D) (Says : Reference → B → Type 0) (why : RootFault) → result ≡ Err why → Told t → Answers s t (is_of_store s this) this Says (Err why)
  asks_refused t Says why is answers =
      subst (λ (h : GcRootIndex). Answers s t (is_of_store s h) h Says (Err why)) same
      (answers_err s t (is_of_store s root) root (IsReference t) Says result why is answers)

  module _ (T : Type 0) (t : Table D) (x : RootedObject) (is : result ≡ Ok x) (answers : Told t) where
    pub asks_struct : (ty : ℕ) (handle : Rooted T) → struct_in x ≡ Some ty → handle.index ≡ this → Answers s t (is_of_store s this) this (IsStructRoot t this) (Ok (Some handle))
    asks_struct ty handle e index =
        subst (λ (h : GcRootIndex). Answers s t (is_of_store s h) h (IsStructRoot t this) (Ok (Some handle))) same
        (answers_ok s t (is_of_store s root) root (IsReference t) (IsStructRoot t this) result x (Some handle) is (λ r told. (ap is_some_struct (tells_struct t x ty e r told).1, index)) answers)

    pub asks_no_struct : struct_in x ≡ None → Answers s t (is_of_store s this) this (IsStructRoot {T = T} t this) (Ok None)
    asks_no_struct e =
        subst (λ (h : GcRootIndex). Answers s t (is_of_store s h) h (IsStructRoot {T = T} t this) (Ok None)) same
        (answers_ok s t (is_of_store s root) root (IsReference t) (IsStructRoot {T = T} t this) result x None is (tells_no_struct t x e) answers)

    pub asks_array : (named : NamedArray) (handle : Rooted T) → named_array_in x ≡ Some named → handle.index ≡ this → Answers s t (is_of_store s this) this (IsArrayRoot t this) (Ok (Some handle))
    asks_array named handle e index =
        subst (λ (h : GcRootIndex). Answers s t (is_of_store s h) h (IsArrayRoot t this) (Ok (Some handle))) same
        (answers_ok s t (is_of_store s root) root (IsReference t) (IsArrayRoot t this) result x (Some handle) is (λ r told. (ap is_some_array (tells_array t x named e r told).1.0, index)) answers)

    pub asks_no_array : named_array_in x ≡ None → Answers s t (is_of_store s this) this (IsArrayRoot {T = T} t this) (Ok None)
    asks_no_array e =
        subst (λ (h : GcRootIndex). Answers s t (is_of_store s h) h (IsArrayRoot {T = T} t this) (Ok None)) same
        (answers_ok s t (is_of_store s root) root (IsReference t) (IsArrayRoot {T = T} t this) result x None is (tells_no_array t x e) answers)

  module _ (x : RootedObject) (is : result ≡ Ok x) (found : IfOk result (FindsRoot D layouts s root)) where
    pub struct_found : (ty : ℕ) (handle : GcRootIndex) → struct_in x ≡ Some ty → handle ≡ this → NamesKind D layouts s kinds.StructRef handle
    struct_found ty handle e index =
        subst (NamesKind D layouts s kinds.StructRef) (same ∙ sym index) (finds_struct layouts s root x ty e (found_ok (FindsRoot D layouts s root) result x is found))

    pub array_found : (named : NamedArray) (handle : GcRootIndex) → named_array_in x ≡ Some named → handle ≡ this → NamesKind D layouts s kinds.ArrayRef handle
    array_found named handle e index =
        subst (NamesKind D layouts s kinds.ArrayRef) (same ∙ sym index) (finds_array layouts s root x named e (found_ok (FindsRoot D layouts s root) result x is found))

-- a question about a handle wants no memory
pub wants_none : {D A : Type 0} (s : StoreView D) (t : Table D) (own : Bool) (handle : GcRootIndex) (Tells : Reference → A → Type 0) (e : RootFault) → Answers s t own handle Tells (Err e) → accessed e ≡ access_fault.Memory → ⊥
wants_none s t own handle Tells fault.WrongStore answers is = cc is
wants_none s t own handle Tells fault.Unrooted answers is = cc is
wants_none s t own handle Tells fault.RootsFull answers is = absurd answers
wants_none s t own handle Tells fault.Memory answers is = absurd answers

pub asks_no_memory : {D A : Type 0} (s : StoreView D) (t : Table D) (own : Bool) (handle : GcRootIndex) (Tells : Reference → A → Type 0) (result : Result A RootFault) (e : RootFault) (found : AccessFault)
    → result ≡ Err e → found ≡ accessed e → Answers s t own handle Tells result → found ≡ access_fault.Memory → ⊥
asks_no_memory s t own handle Tells result e found failed told answers is =
    wants_none s t own handle Tells e (subst (Answers s t own handle Tells) failed answers) (sym told ∙ is)
