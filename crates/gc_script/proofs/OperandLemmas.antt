-- What the operands of a command hold.
use Rattle.std.proofs.Common.{◌≡◌, ℕ, suc, ◌+◌, ◌<◌, ◌≤◌, Bool, ◌||◌, List, [], ◌∷◌, drop, length, get_or, Option, Some, None, true, false, sym, ap, ◌∙◌, refl, subst}
use Rattle.std.specs.Prelude.{unwrap_or, is_some}
use Rattle.std.specs.List.{slice_get}
use Rattle.std.specs.Option.{option_map}
use Rattle.std.proofs.lemmas.List.{drop_all, drop_more}
use Rattle.std.proofs.lemmas.List.Folds.{list_any_at}
use Rattle.std.proofs.lemmas.Option.{none-some, slice_get-map}
use Rattle.gc_owner.specs.declared.entry.GcClass.TheVariants as class
use Rattle.gc_model.specs.Stores.{StoreView}
use Rattle.gc_model.specs.Table.{Table}
use Rattle.gc_values.specs.declared.root.RawValue.{RawValue}
use Rattle.gc_values.specs.declared.root.RawValue.TheVariants as raw
use Rattle.gc_commands.specs.declared.command.Operand.{Operand}
use Rattle.gc_commands.specs.declared.command.Operand.TheVariants as operand
use Rattle.gc_model.specs.SideValues.{no_side_values}
use Rattle.gc_values.specs.declared.request.Place.{Place}
use Rattle.gc_values.specs.Filling.{each_of}
use Rattle.gc_values.specs.RawValues.{raw_side_values}
use Rattle.gc_script.specs.declared.make.NewValues.{NewValues}
use Rattle.gc_script.specs.declared.make.NewValues.TheVariants as new
use Rattle.gc_script.specs.NewValues.{contents_of, operand_values}
use Rattle.gc_script.specs.Requested.{IsPlainRequest}
use Rattle.gc_script.specs.Slots.{register_at}
use Rattle.gc_script.specs.State.{State, Held, RegisterStands}
use Rattle.gc_script.specs.Given.{held_operand, given, given_held, is_unset}
use Rattle.gc_script.specs.Steps.{any_unset}
use Rattle.gc_script.proofs.FoundLemmas.{unset_held}
use Rattle.gc_script.proofs.WriteLemmas.{is_set}
use Rattle.gc_script.specs.Values.{AreRegisters, HoldsOperand, raw_operand, set_operand, set_operands, HasUnset, AllHeld, AllPlain}

-- an operand holds the value that it is by the registers
pub raw_holds : (slots : List (Option RawValue)) (v : Operand) → HoldsOperand slots v (raw_operand slots v)
raw_holds slots (operand.I32 n) store s are = refl
raw_holds slots (operand.I64 n) store s are = refl
raw_holds slots (operand.F32 n) store s are = refl
raw_holds slots (operand.F64 n) store s are = refl
raw_holds slots (operand.V128 n) store s are = refl
raw_holds slots operand.AnyNull store s are = refl
raw_holds slots operand.ExternNull store s are = refl
raw_holds slots operand.ExnNull store s are = refl
raw_holds slots (operand.Register r) store s are = are r

-- one operand that is unset settles it
pub has_unset : (slots : List (Option RawValue)) (vs : List Operand) (i : ℕ) (v : Operand) → i < length vs → v ≡ get_or vs i v → HoldsOperand slots v None → HasUnset slots vs
has_unset slots vs i v lt is none store s are =
    list_any_at (λ (v : Operand). is_unset (given s v)) vs i v lt
    (subst (λ (x : Operand). is_unset (given s x) ≡ true) is (ap is_unset (unset_held store s.table (held_operand s v) (none store s are))))

-- what an operand that is set holds
held_by : (store : StoreView ℕ) (t : Table ℕ) (found : Option RawValue) (held : Option Held) → RegisterStands store t found held → is_unset (given_held t held) ≡ false → RegisterStands store t (Some (unwrap_or found (raw.Ref class.Any None))) held
held_by store t None held stands set = absurd (cc (sym set ∙ ap is_unset (unset_held store t held stands)))
held_by store t (Some r) held stands set = stands

-- neither of two is true
neither : (a b : Bool) → (a || b) ≡ false → (a ≡ false) × (b ≡ false)
neither true b e = absurd (cc e)
neither false b e = (refl, e)

-- where none is unset, the operands hold their values
pub are_held : (slots : List (Option RawValue)) (vs : List Operand) (store : StoreView ℕ) (s : State) → AreRegisters store slots s → any_unset s vs ≡ false → AllHeld store s vs (set_operands slots vs)
are_held slots [] store s are set = tt
are_held slots (v ∷ vs) store s are set =
    let both = neither (is_unset (given s v)) (any_unset s vs) set in
    (held_by store s.table (raw_operand slots v) (held_operand s v) (raw_holds slots v store s are) both.0, are_held slots vs store s are both.1)

-- whether an operand is unset hangs on those that are left
abbrev pub PassedSet : List (Option RawValue) → List Operand → ℕ → Type 0
PassedSet slots vs i = (store : StoreView ℕ) (s : State) → AreRegisters store slots s → any_unset s vs ≡ any_unset s (drop i vs)

-- an operand that holds a value is set
set_by : (store : StoreView ℕ) (t : Table ℕ) (found : Option RawValue) (held : Option Held) → is_some found ≡ true → RegisterStands store t found held → is_unset (given_held t held) ≡ false
set_by store t None held some stands = absurd (cc some)
set_by store t (Some r) held some stands = is_set store t r held stands

pub passed_more : (slots : List (Option RawValue)) (vs : List Operand) (i : ℕ) (v : Operand) (found : Option RawValue) → i < length vs → v ≡ get_or vs i v → is_some found ≡ true → HoldsOperand slots v found → PassedSet slots vs i → PassedSet slots vs (i + 1)
passed_more slots vs i v found lt is some holds passed store s are =
    passed store s are
    ∙ ap (any_unset s) (drop_more vs i v lt)
    ∙ ap (λ (x : Operand). is_unset (given s x) || any_unset s (drop (i + 1) vs)) (sym is)
    ∙ ap (λ (b : Bool). b || any_unset s (drop (i + 1) vs)) (set_by store s.table found (held_operand s v) some (holds store s are))

pub all_passed : (slots : List (Option RawValue)) (vs : List Operand) (i : ℕ) → length vs ≤ i → PassedSet slots vs i → (store : StoreView ℕ) (s : State) → AreRegisters store slots s → any_unset s vs ≡ false
all_passed slots vs i over passed store s are = passed store s are ∙ ap (any_unset s) (drop_all i vs over)

-- the value of an operand among those of all
pub set_at : (slots : List (Option RawValue)) (vs : List Operand) (i : ℕ) (v : Operand) → slice_get vs i ≡ Some v → slice_get (set_operands slots vs) i ≡ Some (set_operand slots v)
set_at slots vs i v e = slice_get-map (set_operand slots) vs i ∙ ap (option_map (set_operand slots)) e

-- by registers that hold the same, operands give the same
module _ (a b : List (Option RawValue)) (same : (d : ℕ) → register_at a d ≡ register_at b d) where
  operand_same : (v : Operand) → raw_operand a v ≡ raw_operand b v
  operand_same (operand.I32 n) = refl
  operand_same (operand.I64 n) = refl
  operand_same (operand.F32 n) = refl
  operand_same (operand.F64 n) = refl
  operand_same (operand.V128 n) = refl
  operand_same operand.AnyNull = refl
  operand_same operand.ExternNull = refl
  operand_same operand.ExnNull = refl
  operand_same (operand.Register r) = same r

  operands_same : (vs : List Operand) → set_operands a vs ≡ set_operands b vs
  operands_same [] = refl
  operands_same (v ∷ vs) =
      ap (λ (o : Option RawValue). unwrap_or o (raw.Ref class.Any None) ∷ set_operands a vs) (operand_same v)
      ∙ ap (λ (rs : List RawValue). set_operand b v ∷ rs) (operands_same vs)

  pub contents_same : (values : NewValues) → contents_of a values ≡ contents_of b values
  contents_same (new.Operands vs) = ap each_of (operands_same vs.now)
  contents_same (new.Same value) = refl
  contents_same (new.Bytes bytes) = refl

-- values among which is no function and no continuation need no ids
pub plain_none : (raws : List RawValue) → AllPlain raws → raw_side_values raws ≡ no_side_values
plain_none [] plain = refl
plain_none (raw.I32 n ∷ raws) plain = plain_none raws (λ i. plain (suc i))
plain_none (raw.I64 n ∷ raws) plain = plain_none raws (λ i. plain (suc i))
plain_none (raw.F32 n ∷ raws) plain = plain_none raws (λ i. plain (suc i))
plain_none (raw.F64 n ∷ raws) plain = plain_none raws (λ i. plain (suc i))
plain_none (raw.V128 n ∷ raws) plain = plain_none raws (λ i. plain (suc i))
plain_none (raw.Func f ∷ raws) plain = absurd (cc (plain 0 (raw.Func f) refl))
plain_none (raw.Cont c ∷ raws) plain = absurd (cc (plain 0 (raw.Cont c) refl))
plain_none (raw.Ref c handle ∷ raws) plain = plain_none raws (λ i. plain (suc i))

-- what a request gives without functions and continuations, its operands do
pub plain_given : (slots : List (Option RawValue)) (request : Place) (values : NewValues) → IsPlainRequest request (contents_of slots values) → AllPlain (operand_values slots values)
plain_given slots request (new.Operands vs) plain = plain
plain_given slots request (new.Same value) plain = λ i r e. absurd (none-some r e)
plain_given slots request (new.Bytes bytes) plain = λ i r e. absurd (none-some r e)
