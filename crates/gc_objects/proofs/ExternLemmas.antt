-- References of the embedder: host objects that are made, and other references that are converted.
use Rattle.std.proofs.Common.{inl, inr, ◌≡◌, ℕ, true, false, Option, Result, Ok, Err, IfOk, sym, ap, ◌∙◌, refl, subst}
use Rattle.std.specs.Result.{IsOkAnd, IsErrAnd}
use Rattle.gc_types.specs.declared.kind.Layouts.{Layouts}
use Rattle.gc_types.specs.declared.kind.VMGcKind.TheVariants as kinds
use Rattle.gc_model.specs.Values.{Reference, null, small, at, Object, host}
use Rattle.gc_model.specs.Allocation.{Limits}
use Rattle.gc_model.specs.Table.{Table, push}
use Rattle.gc_model.specs.Stores.{StoreView}
use Rattle.gc_model.specs.Holds.{HoldsTable}
use Rattle.gc_model.specs.Accounts.{Account, HoldsAccount}
use Rattle.gc_model.specs.Policy.{policy_state}
use Rattle.gc_model.proofs.AccountLemmas.{some_account}
use Rattle.gc_store.specs.declared.hosts.PlaceHostFault.{PlaceHostFault}
use Rattle.gc_store.specs.declared.hosts.PlaceHostFault.TheVariants as place
use Rattle.gc_values.specs.declared.root.GcRootIndex.{GcRootIndex}
use Rattle.gc_values.specs.declared.root.RootFault.{RootFault}
use Rattle.gc_values.specs.declared.root.RootFault.TheVariants as root_fault
use Rattle.gc_rooted.specs.declared.rooted.Rooted.{Rooted}
use Rattle.gc_store.specs.Handles.{PushesRoot}
use Rattle.gc_store.specs.HostPlaces.{PlacesHost}
use Rattle.gc_store.specs.Places.{PlacesObject}
use Rattle.gc_store.specs.Roots.{is_of_store, NamesScoped, NamesReference, NamesNothing}
use Rattle.gc_store.specs.Kinds.{IsReferenceOfKind, NamesKind, IsScopedOfKind}
use Rattle.gc_objects.specs.declared.faults.AllocFault.{AllocFault}
use Rattle.gc_objects.specs.Answered.{Answers}
use Rattle.gc_objects.specs.Hosts.{IsHostHanded, MakesHost, CopiesRoot, CopiesHandle}
use Rattle.gc_objects.specs.Makes.{MakesObject}
use Rattle.gc_objects.proofs.MakeLemmas.{made, asked_kind}
use Rattle.gc_objects.proofs.Naming.{bool_cases, names_own, named_or_not}
use Rattle.gc_objects.proofs.Pushed.{are_before, names_pushed}
use Rattle.gc_objects.proofs.Pushing.{held_table}

-- What is asked of a handle is answered: by what the call says where it is another store's, live or gone.
module _ {D A : Type 0} (layouts : Layouts) (s : StoreView D) (handle : GcRootIndex) (Tells : Table D → Reference → A → Type 0) where
  pub asked_answers : (result : Result A RootFault)
      → (is_of_store s handle ≡ false → IsErrAnd result (λ e. e ≡ root_fault.WrongStore))
      → ((t : Table D) (r : Reference) → HoldsTable layouts s t → NamesReference s t handle r → IsOkAnd result (Tells t r))
      → (is_of_store s handle ≡ true → (t : Table D) → HoldsTable layouts s t → NamesNothing s t handle → IsErrAnd result (λ e. e ≡ root_fault.Unrooted))
      → (t : Table D) → HoldsTable layouts s t → Answers s t (is_of_store s handle) handle (Tells t) result
  asked_answers (Ok x) wrong live gone t holds =
      elim (named_or_not s t handle) [
        | inl named ↦ (names_own s t handle named.0 named.1, (named.0, (named.1, live t named.0 holds named.1)))
        | inr nothing ↦ elim (bool_cases (is_of_store s handle)) [
          | inl own ↦ absurd (gone own t holds nothing)
          | inr other ↦ absurd (wrong other)
        ]
      ]
  asked_answers (Err root_fault.WrongStore) wrong live gone t holds =
      elim (bool_cases (is_of_store s handle)) [
        | inl own ↦ absurd (cc (gone own t holds (λ r named. live t r holds named)))
        | inr other ↦ other
      ]
  asked_answers (Err root_fault.Unrooted) wrong live gone t holds =
      elim (bool_cases (is_of_store s handle)) [
        | inl own ↦ (own, λ r named. live t r holds named)
        | inr other ↦ absurd (cc (wrong other))
      ]
  asked_answers (Err root_fault.RootsFull) wrong live gone t holds =
      elim (bool_cases (is_of_store s handle)) [
        | inl own ↦ absurd (cc (gone own t holds (λ r named. live t r holds named)))
        | inr other ↦ absurd (cc (wrong other))
      ]
  asked_answers (Err root_fault.Memory) wrong live gone t holds =
      elim (bool_cases (is_of_store s handle)) [
        | inl own ↦ absurd (cc (gone own t holds (λ r named. live t r holds named)))
        | inr other ↦ absurd (cc (wrong other))
      ]

-- so by the handle that was given
pub asked_here : {D A : Type 0} (layouts : Layouts) (s : StoreView D) (root this : GcRootIndex) → root ≡ this → (Tells : Table D → Reference → A → Type 0) (result : Result A RootFault)
    → (is_of_store s root ≡ false → IsErrAnd result (λ e. e ≡ root_fault.WrongStore))
    → ((t : Table D) (r : Reference) → HoldsTable layouts s t → NamesReference s t root r → IsOkAnd result (Tells t r))
    → (is_of_store s root ≡ true → (t : Table D) → HoldsTable layouts s t → NamesNothing s t root → IsErrAnd result (λ e. e ≡ root_fault.Unrooted))
    → (t : Table D) → HoldsTable layouts s t → Answers s t (is_of_store s this) this (Tells t) result
asked_here layouts s root this same Tells result wrong live gone t holds =
    subst (λ (h : GcRootIndex). Answers s t (is_of_store s h) h (Tells t) result) same (asked_answers layouts s root Tells result wrong live gone t holds)

-- A host object that was placed is one that was made, as the call says it.
module _ {D T : Type 0} (layouts : Layouts) (counter : Option ℕ) (value : D) (s new : StoreView D) (t : Table D) (a : Account) (limits limits' : Limits)
    (holds : HoldsAccount layouts s t a) where
  abbrev Made : Result (Rooted T) (AllocFault D) → Type 0
  Made q = MakesHost layouts counter value (policy_state t a limits) limits' q new

  host_made : (handle : Rooted T) → PlacesObject layouts counter (host value) (policy_state t a limits) limits' handle.index new → MakesObject (λ (o : Object D). o ≡ host value) layouts counter (policy_state t a limits) limits' handle.index new
  host_made handle places = made (λ why. ⊥) (λ (o : Object D). o ≡ host value) layouts counter s new t a limits limits' holds (host value) refl handle places

  pub host_handed : (result : Result (Rooted T) (AllocFault D)) (answer : Result GcRootIndex (PlaceHostFault D)) → IsHostHanded answer result → PlacesHost layouts counter value (policy_state t a limits) limits' answer new → Made result
  host_handed result (Ok root) is places =
      subst Made (sym is.1.0) (host_made is.0 (subst (λ (h : GcRootIndex). PlacesObject layouts counter (host value) (policy_state t a limits) limits' h new) (sym is.1.1) places))
  host_handed result (Err place.RootsFull) is places = subst Made (sym is) places
  host_handed result (Err (place.HeapOutOfMemory f)) is places = subst Made (sym is) places
  host_handed result (Err place.Memory) is places = subst Made (sym is) places

-- its root is one of the embedder's references
pub host_kind : {D : Type 0} (layouts : Layouts) (counter : Option ℕ) (value : D) (s new : StoreView D) (t : Table D) (a : Account) (limits limits' : Limits) → HoldsAccount layouts s t a
    → (answer : Result GcRootIndex (PlaceHostFault D)) → PlacesHost layouts counter value (policy_state t a limits) limits' answer new → IfOk answer (IsScopedOfKind D layouts new kinds.ExternRef)
host_kind layouts counter value s new t a limits limits' holds (Ok root) places = asked_kind layouts counter s new t a limits limits' holds (host value) kinds.ExternRef (λ is. cc is) (Ok root) places
host_kind layouts counter value s new t a limits limits' holds (Err why) places = tt

-- A root that was pushed for what a handle names.
module _ {D : Type 0} (layouts : Layouts) (old new : StoreView D) (handle : GcRootIndex) (result : Result GcRootIndex RootFault)
    (wrong : is_of_store old handle ≡ false → result ≡ Err root_fault.WrongStore)
    (live : (t : Table D) (a : Account) (r : Reference) → HoldsAccount layouts old t a → NamesReference old t handle r → PushesRoot layouts t a r result new)
    (gone : is_of_store old handle ≡ true → (t : Table D) → HoldsTable layouts old t → NamesNothing old t handle → result ≡ Err root_fault.Unrooted) where
  module _ (t : Table D) (a : Account) (holds : HoldsAccount layouts old t a) where
    abbrev Copies : Result GcRootIndex RootFault → Type 0
    Copies q = CopiesRoot layouts old t a handle q new

    copied_named : (q : Result GcRootIndex RootFault) (r : Reference) → NamesReference old t handle r → PushesRoot layouts t a r q new → Copies q
    copied_named (Ok root) r named pushes = (r, (named, pushes))
    copied_named (Err root_fault.WrongStore) r named pushes = absurd pushes
    copied_named (Err root_fault.Unrooted) r named pushes = absurd pushes
    copied_named (Err root_fault.RootsFull) r named pushes = (r, (named, pushes))
    copied_named (Err root_fault.Memory) r named pushes = (r, (named, pushes))

    pub copied : Copies result
    copied =
        elim (named_or_not old t handle) [
          | inl named ↦ copied_named result named.0 named.1 (live t a named.0 holds named.1)
          | inr nothing ↦ elim (bool_cases (is_of_store old handle)) [
            | inl own ↦ subst Copies (sym (gone own t (held_table layouts old t a holds) nothing)) (own, nothing)
            | inr other ↦ subst Copies (sym (wrong other)) other
          ]
        ]

    pub copied_ok : (T : Type 0) (this : GcRootIndex) → handle ≡ this → (root : GcRootIndex) (made : Rooted T) → result ≡ Ok root → made.index ≡ root → CopiesHandle layouts old t a this (Ok made) new
    copied_ok T this same root made is index = subst (λ (h : GcRootIndex). CopiesRoot layouts old t a h (Ok made.index) new) same (subst Copies (is ∙ ap Ok (sym index)) copied)

    pub copied_err : (T : Type 0) (this : GcRootIndex) → handle ≡ this → (why : RootFault) → result ≡ Err why → CopiesHandle {T = T} layouts old t a this (Err why) new
    copied_err T this same why is = subst (λ (h : GcRootIndex). CopiesRoot layouts old t a h (Err why) new) same (subst Copies is copied)

  -- anything of class any is one of the embedder's references
  extern_takes : (t : Table D) (r : Reference) → IsReferenceOfKind kinds.AnyRef t r → IsReferenceOfKind kinds.ExternRef (push r t) r
  extern_takes t null is = absurd is
  extern_takes t (small n) is = tt
  extern_takes t (at q) is = (
    is.0,
    (
      is.1.0,
      λ exn. elim is.1.1 [
        | inl struct ↦ absurd (cc (sym struct ∙ exn))
        | inr array ↦ absurd (cc (sym array ∙ exn))
      ],
    ),
  )

  pub copied_kind : (this : GcRootIndex) → handle ≡ this → NamesKind D layouts old kinds.AnyRef this → (root : GcRootIndex) → result ≡ Ok root → IsScopedOfKind D layouts new kinds.ExternRef root
  copied_kind this same kind_given root is =
      let kind = subst (NamesKind D layouts old kinds.AnyRef) (sym same) kind_given in
      elim (named_or_not old kind.table handle) [
        | inl named ↦
            let account = some_account layouts old kind.table kind.holds in
            let pushes : PushesRoot layouts kind.table account.0 named.0 (Ok root) new =
            subst (λ (q : Result GcRootIndex RootFault). PushesRoot layouts kind.table account.0 named.0 q new) is (live kind.table account.0 named.0 account.1 named.1) in
            record {
              table = push named.0 kind.table;
              holds = held_table layouts new (push named.0 kind.table) account.0 pushes.1.1;
              root = named.0;
              named = subst (λ (h : GcRootIndex). NamesScoped new (push named.0 kind.table) h named.0) (sym pushes.1.0) (names_pushed kind.table (are_before layouts old kind.table kind.holds) new named.0);
              of_kind = extern_takes kind.table named.0 (kind.is named.0 named.1);
            }
        | inr nothing ↦ elim (bool_cases (is_of_store old handle)) [
          | inl own ↦ absurd (cc (sym is ∙ gone own kind.table kind.holds nothing))
          | inr other ↦ absurd (cc (sym is ∙ wrong other))
        ]
      ]
