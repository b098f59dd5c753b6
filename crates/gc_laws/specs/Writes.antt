-- What commands write into objects.
use Rattle.std.specs.Prelude.{◌≡◌, ℕ, List, [], ◌∷◌, Option, Some, None, slice_get, option_and_then}
use Rattle.gc_types.specs.declared.kind.Layouts.{Layouts}
use Rattle.gc_model.specs.Values.{Value, Object}
use Rattle.gc_model.specs.Reach.{object_values}
use Rattle.gc_model.specs.Table.{Table}
use Rattle.gc_commands.specs.declared.command.Command.{Command}
use Rattle.gc_commands.specs.declared.command.Command.TheVariants.{SetField, SetElem}
use Rattle.gc_commands.specs.declared.command.Operand.{Operand}
use Rattle.gc_commands.specs.declared.reply.Reply.{Reply}
use Rattle.gc_script.specs.Given.{Target, target, target_field, given, given_value}
use Rattle.gc_script.specs.Run.{Run}
use Rattle.gc_script.specs.Shapes.{kept_as}
use Rattle.gc_script.specs.State.{State}

-- the value at an index of the object at a position, where there is one
abbrev pub object_value_at : Table ℕ → ℕ → ℕ → Option Value
object_value_at t p i = option_and_then (λ (o : Object ℕ). slice_get (object_values o) i) (slice_get t.objects p)

-- a value of what a register names is at an index of a position, and an operand as that object keeps it is v
abbrev pub WritesTo : State → Option Target → ℕ → Operand → ℕ → ℕ → Value → Type 0
WritesTo s None index operand p i v = ⊥
WritesTo s (Some found) index operand p i v = (found.position ≡ p) × (index ≡ i) × (v ≡ kept_as (target_field s.table (Some found) index) (given_value (given s operand)))

-- a command writes v at an index of a position, where no test refuses it
abbrev pub Writes : State → Command → ℕ → ℕ → Value → Type 0
Writes s (SetField r index operand) p i v = WritesTo s (target s r) index operand p i v
Writes s (SetElem r index operand) p i v = WritesTo s (target s r) index operand p i v
Writes s _ p i v = ⊥

-- no command of a run writes there
abbrev pub NoneWrites : (layouts : Layouts) (limit : Option ℕ) (s : State) (cs : List Command) (rs : List Reply) (s' : State) → Run layouts limit s cs rs s' → ℕ → ℕ → Type 0
NoneWrites layouts limit s [] [] s' run p i = Unit {0}
NoneWrites layouts limit s (c ∷ cs) (r ∷ rs) s' run p i = ((v : Value) → ¬ Writes s c p i v) × NoneWrites layouts limit run.0 cs rs s' run.1.1 p i
NoneWrites layouts limit s [] (r ∷ rs) s' run p i = ⊥
NoneWrites layouts limit s (c ∷ cs) [] s' run p i = ⊥
