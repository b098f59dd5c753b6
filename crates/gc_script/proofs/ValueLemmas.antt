-- What a value that a register or an operand holds is found to be.
use Rattle.std.proofs.Common.{◌≡◌, inl, inr, ℕ, Bool, Option, Some, None, true, false, sym, ap, ◌∙◌, refl, subst, arith}
use Rattle.std.specs.Prelude.{Result, Ok, Err, is_ok}
use Rattle.std.proofs.lemmas.Option.{none-some}
use Rattle.gc_types.specs.declared.kind.Layouts.{Layouts}
use Rattle.gc_owner.specs.declared.entry.GcClass.{GcClass}
use Rattle.gc_model.specs.Values.{Reference, null, Value}
use Rattle.gc_model.specs.Values as values
use Rattle.gc_model.specs.Table.{Table}
use Rattle.gc_model.specs.Live.{rooted}
use Rattle.gc_model.specs.Stores.{StoreView}
use Rattle.gc_model.specs.Holds.{HoldsTable, Placing}
use Rattle.gc_values.specs.declared.root.GcRootIndex.{GcRootIndex}
use Rattle.gc_values.specs.declared.root.RawValue.{RawValue}
use Rattle.gc_values.specs.declared.root.RawValue.TheVariants as raw
use Rattle.gc_values.specs.declared.root.RootFault.{RootFault}
use Rattle.gc_values.specs.declared.root.RootFault.TheVariants as fault
use Rattle.gc_values.specs.declared.root.RootedObject.{RootedObject}
use Rattle.gc_store.specs.Roots.{NamesSerial, NamesReference, NamesNothing, TellsReference, TellsWord, is_of_store, handle_of}
use Rattle.gc_store.specs.Values.{RawStands}
use Rattle.gc_values.specs.RawValues.{raw_handle}
use Rattle.gc_values.specs.declared.root.RootSlot.TheVariants as root_slot
use Rattle.gc_values.specs.Words.{owned_id}
use Rattle.gc_store.proofs.HandleWords.{names-store, named_alone}
use Rattle.gc_script.specs.State.{Held, number, reference, RegisterStands}
use Rattle.gc_script.specs.Given.{gone, is, given_held, given_root}
use Rattle.gc_script.specs.Values.{raw_slot, IsFoundLive}

-- what is no handle stands for a value
pub found_plain : (s : StoreView ℕ) (t : Table ℕ) (r : RawValue) (held : Option Held) → raw_handle r ≡ None → RegisterStands s t (Some r) held → IsFoundLive s t r (given_held t held) true
found_plain s t (raw.I32 n) None plain stands = absurd stands
found_plain s t (raw.I32 n) (Some (number v)) plain stands = (v, (refl, stands))
found_plain s t (raw.I32 n) (Some (reference c None)) plain stands = absurd stands
found_plain s t (raw.I32 n) (Some (reference c (Some k))) plain stands = absurd stands
found_plain s t (raw.I64 n) None plain stands = absurd stands
found_plain s t (raw.I64 n) (Some (number v)) plain stands = (v, (refl, stands))
found_plain s t (raw.I64 n) (Some (reference c None)) plain stands = absurd stands
found_plain s t (raw.I64 n) (Some (reference c (Some k))) plain stands = absurd stands
found_plain s t (raw.F32 n) None plain stands = absurd stands
found_plain s t (raw.F32 n) (Some (number v)) plain stands = (v, (refl, stands))
found_plain s t (raw.F32 n) (Some (reference c None)) plain stands = absurd stands
found_plain s t (raw.F32 n) (Some (reference c (Some k))) plain stands = absurd stands
found_plain s t (raw.F64 n) None plain stands = absurd stands
found_plain s t (raw.F64 n) (Some (number v)) plain stands = (v, (refl, stands))
found_plain s t (raw.F64 n) (Some (reference c None)) plain stands = absurd stands
found_plain s t (raw.F64 n) (Some (reference c (Some k))) plain stands = absurd stands
found_plain s t (raw.V128 n) None plain stands = absurd stands
found_plain s t (raw.V128 n) (Some (number v)) plain stands = (v, (refl, stands))
found_plain s t (raw.V128 n) (Some (reference c None)) plain stands = absurd stands
found_plain s t (raw.V128 n) (Some (reference c (Some k))) plain stands = absurd stands
found_plain s t (raw.Func f) None plain stands = absurd stands
found_plain s t (raw.Cont cont) None plain stands = absurd stands
found_plain s t (raw.Func f) (Some (number v)) plain stands = absurd stands
found_plain s t (raw.Cont cont) (Some (number v)) plain stands = absurd stands
found_plain s t (raw.Func f) (Some (reference c None)) plain stands = absurd stands
found_plain s t (raw.Cont cont) (Some (reference c None)) plain stands = absurd stands
found_plain s t (raw.Func f) (Some (reference c (Some k))) plain stands = absurd stands
found_plain s t (raw.Cont cont) (Some (reference c (Some k))) plain stands = absurd stands
found_plain s t (raw.Ref class None) None plain stands = absurd stands
found_plain s t (raw.Ref class None) (Some (number v)) plain stands = absurd stands
found_plain s t (raw.Ref class None) (Some (reference c None)) plain stands = (values.reference class null, (ap (λ (x : GcClass). is (values.reference x null)) (sym stands), refl))
found_plain s t (raw.Ref class None) (Some (reference c (Some k))) plain stands = absurd stands
found_plain s t (raw.Ref class (Some handle)) held plain stands = absurd (none-some handle (sym plain))

-- a handle names one reference
pub names_one : (layouts : Layouts) (s : StoreView ℕ) (t : Table ℕ) → HoldsTable layouts s t → (handle : GcRootIndex) (x y : ℕ) → NamesSerial s t handle x → NamesSerial s t handle y → x ≡ y
names_one layouts s t holds handle x y a b =
    let same : handle_of s b.push.index b.push.generation ≡ handle_of s a.push.index a.push.generation = sym b.is ∙ a.is in
    let index : b.push.index ≡ a.push.index = grind (arith, ap (λ (h : GcRootIndex). h.slot) same) in
    holds.1.pushes.apart x y a.push a.pushed (b.pushed ∙ (λ i. Some (record { index = index i; generation = (same i).generation })))

pub same_root : (layouts : Layouts) (s : StoreView ℕ) (t : Table ℕ) → HoldsTable layouts s t → (handle : GcRootIndex) (r q : Reference) → NamesReference s t handle r → NamesReference s t handle q → r ≡ q
same_root layouts s t holds handle r q a b =
    named_alone layouts s t holds.0 holds.1 handle r q a b

-- one that names a push whose root is gone names nothing
pub names_gone : (layouts : Layouts) (s : StoreView ℕ) (t : Table ℕ) → HoldsTable layouts s t → (handle : GcRootIndex) (serial : ℕ) → NamesSerial s t handle serial → rooted t serial ≡ None → NamesNothing s t handle
names_gone layouts s t holds handle serial names is_gone r (inl named) =
    none-some r (sym is_gone ∙ ap (rooted t) (names_one layouts s t holds handle serial named.serial names named.names) ∙ named.live)
names_gone layouts s t holds handle serial names is_gone r (inr named) =
    let same : root_slot.Scoped names.push.index ≡ root_slot.Owned (owned_id named.number) = ap (λ (h : GcRootIndex). h.slot) (sym names.is ∙ named.names) in
    absurd (cc same)

-- what tells of each live handle is an answer, and no fault
object_told : (t : Table ℕ) (r : Reference) (x : Result RootedObject RootFault) → TellsReference t r x → is_ok x ≡ true
object_told t r (Ok object) tells = refl
object_told t r (Err e) tells = absurd tells

pub word_told : (place : Placing) (r : Reference) (x : Result ℕ RootFault) → TellsWord place r x → is_ok x ≡ true
word_told place r (Ok word) tells = refl
word_told place r (Err e) tells = absurd tells

module _ (layouts : Layouts) (s : StoreView ℕ) (t : Table ℕ) (holds : HoldsTable layouts s t) (handle : GcRootIndex) (answer : Bool)
    (live : (r : Reference) → NamesReference s t handle r → answer ≡ true) (nothing : is_of_store s handle ≡ true → NamesNothing s t handle → answer ≡ false) where
  -- a root is gone, or it stands for what it names
  found_root : (class class' : GcClass) (serial : ℕ) (o : Option Reference) → class ≡ class' → NamesSerial s t handle serial → rooted t serial ≡ o → IsFoundLive s t (raw.Ref class (Some handle)) (given_root class' o) answer
  found_root class class' serial None same names at =
      subst (IsFoundLive s t (raw.Ref class (Some handle)) gone) (sym (nothing (names-store s t handle serial names) (names_gone layouts s t holds handle serial names at))) refl
  found_root class class' serial (Some r) same names at =
      subst (IsFoundLive s t (raw.Ref class (Some handle)) (given_root class' (Some r))) (sym (live r named))
      (values.reference class r, (ap (λ (y : GcClass). is (values.reference y r)) (sym same), record { root = r; named = named; is = refl }))
    where
      named : NamesReference s t handle r
      named = inl (record { serial = serial; names = names; live = at })

  -- so of a handle, by whether the store tells of it
  pub found_live : (r : RawValue) (held : Option Held) → raw_handle r ≡ Some handle → RegisterStands s t (Some r) held → IsFoundLive s t r (given_held t held) answer
  found_live (raw.I32 n) held is_handle stands = absurd (none-some handle is_handle)
  found_live (raw.I64 n) held is_handle stands = absurd (none-some handle is_handle)
  found_live (raw.F32 n) held is_handle stands = absurd (none-some handle is_handle)
  found_live (raw.F64 n) held is_handle stands = absurd (none-some handle is_handle)
  found_live (raw.V128 n) held is_handle stands = absurd (none-some handle is_handle)
  found_live (raw.Func f) held is_handle stands = absurd (none-some handle is_handle)
  found_live (raw.Cont cont) held is_handle stands = absurd (none-some handle is_handle)
  found_live (raw.Ref class None) held is_handle stands = absurd (none-some handle is_handle)
  found_live (raw.Ref class (Some h)) None is_handle stands = absurd stands
  found_live (raw.Ref class (Some h)) (Some (number v)) is_handle stands = absurd stands
  found_live (raw.Ref class (Some h)) (Some (reference c None)) is_handle stands = absurd stands
  found_live (raw.Ref class (Some h)) (Some (reference c (Some serial))) is_handle stands =
      let same : h ≡ handle = grind (arith, is_handle) in
      subst (λ (x : GcRootIndex). IsFoundLive s t (raw.Ref class (Some x)) (given_root c (rooted t serial)) answer) (sym same)
      (found_root class c serial (rooted t serial) stands.0 (subst (λ (x : GcRootIndex). NamesSerial s t x serial) same stands.1) refl)

-- so by what the store answers
pub found_handle : (layouts : Layouts) (s : StoreView ℕ) (t : Table ℕ) → HoldsTable layouts s t → (handle : GcRootIndex) (answer : Result RootedObject RootFault)
    → ((r : Reference) → NamesReference s t handle r → TellsReference t r answer) → (is_of_store s handle ≡ true → NamesNothing s t handle → answer ≡ Err fault.Unrooted)
    → (r : RawValue) (held : Option Held) → raw_handle r ≡ Some handle → RegisterStands s t (Some r) held → IsFoundLive s t r (given_held t held) (is_ok answer)
found_handle layouts s t holds handle answer live nothing r held =
    found_live layouts s t holds handle (is_ok answer) (λ q named. object_told t q answer (live q named)) (λ of_store none. ap is_ok (nothing of_store none)) r held

-- a value that is a reference stands as that
pub slot_stands : (s : StoreView ℕ) (t : Table ℕ) (r : RawValue) (v : Value) (c : GcClass) (h : Option GcRootIndex) → raw_slot r ≡ Some (c, h) → RawStands s t r v → RawStands s t (raw.Ref c h) v
slot_stands s t (raw.I32 n) v c h e stands = absurd (none-some (c, h) e)
slot_stands s t (raw.I64 n) v c h e stands = absurd (none-some (c, h) e)
slot_stands s t (raw.F32 n) v c h e stands = absurd (none-some (c, h) e)
slot_stands s t (raw.F64 n) v c h e stands = absurd (none-some (c, h) e)
slot_stands s t (raw.V128 n) v c h e stands = absurd (none-some (c, h) e)
slot_stands s t (raw.Func f) v c h e stands = absurd (none-some (c, h) e)
slot_stands s t (raw.Cont cont) v c h e stands = absurd (none-some (c, h) e)
slot_stands s t (raw.Ref c' h') v c h e stands =
    let class : c' ≡ c = grind (arith, e) in
    let handle : h' ≡ h = grind (arith, e) in
    subst (λ (x : GcClass). RawStands s t (raw.Ref x h) v) class (subst (λ (x : Option GcRootIndex). RawStands s t (raw.Ref c' x) v) handle stands)
