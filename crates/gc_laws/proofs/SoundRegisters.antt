-- Registers that hold references by roots that were pushed alone, and what they give.
use Rattle.std.proofs.Common.{◌≡◌, ◌==◌, ℕ, ◌<◌, ◌≤◌, Bool, true, false, cond, List, [], ◌∷◌, Option, Some, None, length, refl, arith}
use Rattle.std.specs.List.{All, slice_get}
use Rattle.std.proofs.lemmas.List.Elements.{All-nil, All-cons, All-head, All-same}
use Rattle.gc_owner.specs.declared.entry.GcClass.{GcClass}
use Rattle.gc_owner.specs.declared.entry.GcClass.TheVariants as class
use Rattle.gc_model.specs.Values.{Reference, null, small, at, Value, numeric, function, continuation, Object}
use Rattle.gc_model.specs.Values as values
use Rattle.gc_model.specs.Table.{Table}
use Rattle.gc_model.specs.Reach.{value_references, IsReached}
use Rattle.gc_model.specs.Live.{rooted_among}
use Rattle.gc_commands.specs.declared.command.Operand.{Operand}
use Rattle.gc_commands.specs.declared.command.Operand.TheVariants as operand
use Rattle.gc_script.specs.State.{State, Held, number, reference, put_register}
use Rattle.gc_script.specs.Given.{operand_held, held_operand, given_root, given_among, given, given_register, given_value, given_values, value_named, Target, object_target, target_among, target, target_values}
use Rattle.gc_laws.proofs.KnownReach.{Known, KnownValue, one_known, null_known, parts_known, rooted_known, object_known}

-- what a register holds is no reference but by a root, and of roots one of the first n that were pushed
abbrev pub SoundHeld : ℕ → Option Held → Type 0
SoundHeld n None = Unit {0}
SoundHeld n (Some (number v)) = value_references v ≡ []
SoundHeld n (Some (reference c None)) = Unit {0}
SoundHeld n (Some (reference c (Some serial))) = serial < n

abbrev pub SoundRegisters : ℕ → (ℕ → Option Held) → Type 0
SoundRegisters n registers = (r : ℕ) → SoundHeld n (registers r)

abbrev pub Sound : State → Type 0
Sound s = SoundRegisters (length s.table.pushes) s.registers

pub sound_later : (n m : ℕ) → n ≤ m → (h : Option Held) → SoundHeld n h → SoundHeld m h
sound_later n m later None sound = tt
sound_later n m later (Some (number v)) sound = sound
sound_later n m later (Some (reference c None)) sound = tt
sound_later n m later (Some (reference c (Some serial))) sound = let below : serial < n = sound in omega (arith, later, below)

-- one more register is set
pub sound_set : (n m : ℕ) → n ≤ m → (registers : ℕ → Option Held) → SoundRegisters n registers → (d : ℕ) (h : Held) → SoundHeld m (Some h) → SoundRegisters m (λ k. cond (k == d) (Some h) (registers k))
sound_set n m later registers sound d h new k = elim (k == d) as (λ (b : Bool). SoundHeld m (cond b (Some h) (registers k))) [
  | true ↦ new
  | false ↦ sound_later n m later (registers k) (sound k)
]

pub sound_put : (n m : ℕ) → n ≤ m → (registers : ℕ → Option Held) → SoundRegisters n registers → (into : Option ℕ) (h : Option Held) → SoundHeld m h → SoundRegisters m (put_register into h registers)
sound_put n m later registers sound None h new k = sound_later n m later (registers k) (sound k)
sound_put n m later registers sound (Some d) None new k = sound_later n m later (registers k) (sound k)
sound_put n m later registers sound (Some d) (Some h) new k = sound_set n m later registers sound d h new k

operand_sound : (n : ℕ) (registers : ℕ → Option Held) → SoundRegisters n registers → (v : Operand) → SoundHeld n (operand_held registers v)
operand_sound n registers sound (operand.I32 x) = refl
operand_sound n registers sound (operand.I64 x) = refl
operand_sound n registers sound (operand.F32 x) = refl
operand_sound n registers sound (operand.F64 x) = refl
operand_sound n registers sound (operand.V128 x) = refl
operand_sound n registers sound operand.AnyNull = tt
operand_sound n registers sound operand.ExternNull = tt
operand_sound n registers sound operand.ExnNull = tt
operand_sound n registers sound (operand.Register r) = sound r

module _ (t : Table ℕ) where
  root_known : (c : GcClass) (found : Option Reference) → ((r : Reference) → found ≡ Some r → Known t r) → KnownValue t (given_value (given_root c found))
  root_known c None known = null_known t class.Any
  root_known c (Some r) known = one_known t r (known r refl)

  held_known : (n : ℕ) (h : Option Held) → SoundHeld n h → KnownValue t (given_value (given_among t.scoped h))
  held_known n None sound = null_known t class.Any
  held_known n (Some (number v)) sound = All-same (Known t) (value_references v) [] sound (All-nil (Known t))
  held_known n (Some (reference c None)) sound = null_known t c
  held_known n (Some (reference c (Some serial))) sound = root_known c (rooted_among serial t.scoped) (λ r found. rooted_known t serial t.scoped r (parts_known t).scoped found)

  -- what a register names is reached, and stands where it says
  abbrev pub KnownTarget : Option Target → Type 0
  KnownTarget None = Unit {0}
  KnownTarget (Some found) = IsReached t found.position × (slice_get t.objects found.position ≡ Some found.object)

  object_target_known : (p : ℕ) (o : Option (Object ℕ)) → IsReached t p → slice_get t.objects p ≡ o → KnownTarget (object_target p o)
  object_target_known p None reached e = tt
  object_target_known p (Some o) reached e = (reached, e)

  target_known : (v : Value) → KnownValue t v → KnownTarget (target_among t.objects (value_named v))
  target_known (numeric kind n) known = tt
  target_known (function f) known = tt
  target_known (continuation cont) known = tt
  target_known (values.reference c null) known = tt
  target_known (values.reference c (small n)) known = tt
  target_known (values.reference c (at p)) known = object_target_known p (slice_get t.objects p) (All-head (Known t) (at p) [] known p refl) refl

  pub target_values_known : (found : Option Target) → KnownTarget found → All (KnownValue t) (target_values found)
  target_values_known None known = All-nil (KnownValue t)
  target_values_known (Some found) known = object_known t found.position found.object known.0 known.1

module _ (s : State) (sound : Sound s) where
  pub register_known : (r : ℕ) → KnownValue s.table (given_value (given_register s r))
  register_known r = held_known s.table (length s.table.pushes) (s.registers r) (sound r)

  pub operand_known : (v : Operand) → KnownValue s.table (given_value (given s v))
  operand_known v = held_known s.table (length s.table.pushes) (held_operand s v) (operand_sound (length s.table.pushes) s.registers sound v)

  pub operands_known : (vs : List Operand) → All (KnownValue s.table) (given_values s vs)
  operands_known [] = All-nil (KnownValue s.table)
  operands_known (v ∷ vs) = All-cons (KnownValue s.table) (given_value (given s v)) (given_values s vs) (operand_known v) (operands_known vs)

  pub register_target : (r : ℕ) → KnownTarget s.table (target s r)
  register_target r = target_known s.table (given_value (given_register s r)) (register_known r)
