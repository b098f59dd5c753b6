-- What a value that a register holds names, in a state.
use Rattle.std.proofs.Common.{◌≡◌, ℕ, [], ◌∷◌, Option, Some, None, Bool, true, false, not, refl, sym, ap, ◌∙◌, subst, arith}
use Rattle.std.proofs.lemmas.Option.{none-some}
use Rattle.gc_types.specs.declared.kind.Layouts.{Layouts}
use Rattle.gc_owner.specs.declared.entry.GcClass.{GcClass}
use Rattle.gc_model.specs.Values.{Reference, null, small, at, Value, Object}
use Rattle.gc_model.specs.Values as values
use Rattle.gc_model.specs.Table.{Table}
use Rattle.gc_model.specs.Stores.{StoreView}
use Rattle.gc_model.specs.Holds.{HoldsTable}
use Rattle.gc_store.proofs.HandleWords.{named_held}
use Rattle.gc_commands.specs.declared.reply.Refusal.{Refusal}
use Rattle.gc_commands.specs.declared.reply.Refusal.TheVariants as refusal
use Rattle.gc_values.specs.declared.root.GcRootIndex.{GcRootIndex}
use Rattle.gc_values.specs.declared.root.RawValue.{RawValue}
use Rattle.gc_values.specs.declared.root.RawValue.TheVariants as raw
use Rattle.gc_store.specs.Roots.{NamesReference}
use Rattle.gc_store.specs.Values.{RawStands}
use Rattle.gc_values.specs.RawValues.{raw_handle}
use Rattle.gc_script.specs.declared.objects.NamedObject.{NamedObject}
use Rattle.gc_script.specs.declared.objects.Wanted.{Wanted}
use Rattle.gc_script.specs.State.{State, Held, number, reference, RegisterStands}
use Rattle.gc_script.specs.Given.{Given, unset, gone, is, given_register, given_held, given_value, value_named, named, target, reference_target, object_target, names_kind, is_gone}
use Rattle.gc_script.specs.Steps.{first_failing, target_tests}
use Rattle.gc_script.specs.Values.{IsFoundLive}
use Rattle.gc_script.specs.Named.{wants, TellsObject, FoundObject}

-- a register that is unset holds nothing
pub unset_held : (s : StoreView ℕ) (t : Table ℕ) (held : Option Held) → RegisterStands s t None held → given_held t held ≡ unset
unset_held s t None stands = refl
unset_held s t (Some (number v)) stands = absurd stands
unset_held s t (Some (reference c None)) stands = absurd stands
unset_held s t (Some (reference c (Some serial))) stands = absurd stands

-- what a root that a value is names
pub record NamesRoot (s : StoreView ℕ) (t : Table ℕ) (handle : GcRootIndex) (v : Value) : Type 0 where
  pub class : GcClass
  pub root : Reference
  pub named : NamesReference s t handle root
  pub is_root : v ≡ values.reference class root

-- a value that is a handle stands for what its root names
pub names_root : (s : StoreView ℕ) (t : Table ℕ) (r : RawValue) (v : Value) (handle : GcRootIndex) → raw_handle r ≡ Some handle → RawStands s t r v → NamesRoot s t handle v
names_root s t (raw.I32 n) v handle e stands = absurd (none-some handle e)
names_root s t (raw.I64 n) v handle e stands = absurd (none-some handle e)
names_root s t (raw.F32 n) v handle e stands = absurd (none-some handle e)
names_root s t (raw.F64 n) v handle e stands = absurd (none-some handle e)
names_root s t (raw.V128 n) v handle e stands = absurd (none-some handle e)
names_root s t (raw.Func f) v handle e stands = absurd (none-some handle e)
names_root s t (raw.Cont cont) v handle e stands = absurd (none-some handle e)
names_root s t (raw.Ref class None) v handle e stands = absurd (none-some handle e)
names_root s t (raw.Ref class (Some h)) v handle e stands =
    let same : h ≡ handle = grind (arith, e) in
    record {
      class = class;
      root = stands.root;
      named = subst (λ (x : GcRootIndex). NamesReference s t x stands.root) same stands.named;
      is_root = stands.is;
    }

-- a value that is no handle names nothing
plain_unnamed : (s : StoreView ℕ) (t : Table ℕ) (r : RawValue) (v : Value) → raw_handle r ≡ None → RawStands s t r v → value_named v ≡ None
plain_unnamed s t (raw.I32 n) v e stands = ap value_named stands
plain_unnamed s t (raw.I64 n) v e stands = ap value_named stands
plain_unnamed s t (raw.F32 n) v e stands = ap value_named stands
plain_unnamed s t (raw.F64 n) v e stands = ap value_named stands
plain_unnamed s t (raw.V128 n) v e stands = ap value_named stands
plain_unnamed s t (raw.Func f) v e stands = ap value_named stands
plain_unnamed s t (raw.Cont cont) v e stands = ap value_named stands
plain_unnamed s t (raw.Ref class None) v e stands = ap value_named stands
plain_unnamed s t (raw.Ref class (Some handle)) v e stands = absurd (none-some handle (sym e))

-- a live root is not null
not_null : (layouts : Layouts) (store : StoreView ℕ) (t : Table ℕ) → HoldsTable layouts store t → (handle : GcRootIndex) (root : Reference) → NamesReference store t handle root → (c : GcClass) → value_named (values.reference c root) ≡ Some root
not_null layouts store t holds handle null named c = let word = named_held layouts store t holds.0 holds.1 handle null named in absurd (omega (arith, word.1.0, word.1.1))
not_null layouts store t holds handle (small n) named c = refl
not_null layouts store t holds handle (at p) named c = refl

module _ (store : StoreView ℕ) (s : State) (r : ℕ) (value : RawValue) (found : IsFoundLive store s.table value (given_register s r) true) where
  -- a register that is found and has no handle names nothing
  pub names_nothing : raw_handle value ≡ None → named s r ≡ None
  names_nothing plain = ap (λ (g : Given). value_named (given_value g)) found.1.0 ∙ plain_unnamed store s.table value found.0 plain found.1.1

  module _ (layouts : Layouts) (holds : HoldsTable layouts store s.table) (handle : GcRootIndex) (is_handle : raw_handle value ≡ Some handle) where
    -- what a register names that has a handle
    abbrev pub root_of : NamesRoot store s.table handle found.0
    root_of = names_root store s.table value found.0 handle is_handle found.1.1

    pub named_is : named s r ≡ Some root_of.root
    named_is =
        ap (λ (g : Given). value_named (given_value g)) found.1.0
        ∙ ap value_named root_of.is_root
        ∙ not_null layouts store s.table holds handle root_of.root root_of.named root_of.class

-- the refusal by what is given, and by whether an object of the kind is named
abbrev refusal_by : Given → Bool → Option Refusal
refusal_by g b = first_failing ((is_gone g, refusal.Unrooted) ∷ (not b, refusal.WrongKind) ∷ [])

target_by : (kind : Wanted) (s : State) (r : ℕ) (g : Given) (b : Bool) → given_register s r ≡ g → names_kind (wants kind) (target s r) ≡ b → first_failing (target_tests (wants kind) s r) ≡ refusal_by g b
target_by kind s r g b given_is kind_is = ap (λ (h : Given). refusal_by h (names_kind (wants kind) (target s r))) given_is ∙ ap (refusal_by g) kind_is

module _ (kind : Wanted) (s : State) (r : ℕ) where
  -- the root is gone
  pub gone_refused : given_register s r ≡ gone → first_failing (target_tests (wants kind) s r) ≡ Some refusal.Unrooted
  gone_refused is_gone = ap (λ (h : Given). refusal_by h (names_kind (wants kind) (target s r))) is_gone

module _ (kind : Wanted) (store : StoreView ℕ) (s : State) (r : ℕ) (value : RawValue) (found : IsFoundLive store s.table value (given_register s r) true) where
  module _ (layouts : Layouts) (holds : HoldsTable layouts store s.table) (handle : GcRootIndex) (is_handle : raw_handle value ≡ Some handle)
      (result : Option NamedObject) (tells : (q : Reference) → NamesReference store s.table handle q → TellsObject store s.table kind q result) where
    abbrev it : NamesRoot store s.table handle found.0
    it = root_of store s r value found layouts holds handle is_handle

    target_named : target s r ≡ reference_target s.table (Some it.root)
    target_named = ap (reference_target s.table) (named_is store s r value found layouts holds handle is_handle)

    -- it names none of these objects
    pub none_refused : result ≡ None → first_failing (target_tests (wants kind) s r) ≡ Some refusal.WrongKind
    none_refused none =
        let told : TellsObject store s.table kind it.root None = subst (TellsObject store s.table kind it.root) none (tells it.root it.named) in
        target_by kind s r (is found.0) false found.1.0 (ap (names_kind (wants kind)) target_named ∙ told)

    -- it names one
    pub object_found : (object : NamedObject) → result ≡ Some object → FoundObject store s kind r object
    object_found object some =
        let told : TellsObject store s.table kind it.root (Some object) = subst (TellsObject store s.table kind it.root) some (tells it.root it.named) in
        let is_target : target s r ≡ Some (record { position = told.0.position; object = told.0.object }) =
        target_named ∙ ap (λ (q : Reference). reference_target s.table (Some q)) told.1.0 ∙ ap (object_target told.0.position) told.0.object_is in
        record {
          passes = target_by kind s r (is found.0) true found.1.0 (ap (names_kind (wants kind)) is_target ∙ told.1.1);
          names = told.0;
          is_target = is_target;
          of_kind = told.1.1;
        }
