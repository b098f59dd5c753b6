-- What is found of a write: its object and its value.
use Rattle.std.specs.Prelude.{◌≡◌, ℕ, Bool, List, ◌∷◌, Option, Some, None, Result, Ok, Err}
use Rattle.gc_types.specs.declared.value.FieldType.{FieldType}
use Rattle.gc_model.specs.Stores.{StoreView}
use Rattle.gc_commands.specs.declared.command.Operand.{Operand}
use Rattle.gc_commands.specs.declared.reply.Refusal.{Refusal}
use Rattle.gc_commands.specs.declared.reply.Refusal.TheVariants as refusal
use Rattle.gc_values.specs.declared.root.RawValue.{RawValue}
use Rattle.gc_store.specs.Values.{RawStands}
use Rattle.gc_script.specs.declared.objects.Wanted.{Wanted}
use Rattle.gc_script.specs.declared.writes.Written.{Written}
use Rattle.gc_script.specs.State.{State, RegisterStands}
use Rattle.gc_script.specs.Given.{held_operand, given, given_value, is_constant}
use Rattle.gc_script.specs.Steps.{first_failing, value_tests, writing_tests}
use Rattle.gc_script.specs.Named.{wants, FoundObject}

-- the tests of a value that is written where a value of that type stands
abbrev pub stored_tests : State → Option FieldType → Operand → List (Bool × Refusal)
stored_tests s field v = (is_constant field, refusal.Immutable) ∷ value_tests s field v

-- A value may be written there, where the tests say so; else it is refused as they say.
abbrev pub ChecksWrite : StoreView ℕ → State → Option FieldType → Operand → RawValue → Result (Unit {0}) Refusal → Type 0
ChecksWrite store s field v r (Ok done) = (first_failing (stored_tests s field v) ≡ None) × RawStands store s.table r (given_value (given s v))
ChecksWrite store s field v r (Err why) = first_failing (stored_tests s field v) ≡ Some why

-- the object that a register names and what an operand holds, where the tests that come first pass
pub record FoundWritten (store : StoreView ℕ) (s : State) (kind : Wanted) (r : ℕ) (v : Operand) (written : Written) : Type 0 where
  pub passes : first_failing (writing_tests (wants kind) s r v) ≡ None
  pub found : FoundObject store s kind r written.object
  pub stands : RegisterStands store s.table (Some written.value) (held_operand s v)

-- so it is, or the tests say why not
abbrev pub FindsWritten : StoreView ℕ → State → Wanted → ℕ → Operand → Result Written Refusal → Type 0
FindsWritten store s kind r v (Ok written) = FoundWritten store s kind r v written
FindsWritten store s kind r v (Err why) = first_failing (writing_tests (wants kind) s r v) ≡ Some why
