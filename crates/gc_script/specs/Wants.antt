-- When a command wants memory.
use Rattle.std.specs.Prelude.{◌≡◌, ◌⊎◌, ℕ, Bool, true, false, Option, Some, None}
use Rattle.gc_types.specs.declared.kind.Layouts.{Layouts}
use Rattle.gc_model.specs.Values.{Value}
use Rattle.gc_model.specs.Reads.{makes_root}
use Rattle.gc_commands.specs.declared.command.Command.{Command}
use Rattle.gc_commands.specs.declared.command.Command.TheVariants.{Field, Elem, Load, GetGlobal, Take}
use Rattle.gc_commands.specs.declared.reply.Refusal.{Refusal}
use Rattle.gc_commands.specs.declared.reply.Refusal.TheVariants as refusal
use Rattle.gc_script.specs.State.{State}
use Rattle.gc_script.specs.Shapes.{value_in, frame_value, global_value}
use Rattle.gc_script.specs.Steps.{tests, first_failing}
use Rattle.gc_script.specs.Run.{takes_memory}

-- the refusals for want of room, which the store tells once the room of a register is made, or would be
abbrev pub is_of_room : Refusal → Bool
is_of_room refusal.TooLarge = true
is_of_room refusal.RootsFull = true
is_of_room why = false

-- no test refuses a command, or none but those of room
abbrev pub IsUnrefused : Option Refusal → Type 0
IsUnrefused None = Unit {0}
IsUnrefused (Some why) = is_of_room why ≡ true

-- a register is named, and was never set
abbrev pub IsNeverSet : State → Option ℕ → Type 0
IsNeverSet s None = ⊥
IsNeverSet s (Some d) = s.registers d ≡ None

-- reading a value makes a root, or goes into a register that was never set
abbrev pub ReadTakes : State → Value → Option ℕ → Type 0
ReadTakes s v into = (makes_root v ≡ true) ⊎ IsNeverSet s into

-- What a command that isn't refused takes memory for. That a declaration is `BadType` is told by its effect and is no test; `grow` and `bytes` of a length count
-- as taking some whatever their number is.
abbrev pub TakesIn : State → Command → Type 0
TakesIn s (Field r i into) = ReadTakes s (value_in s r i) into
TakesIn s (Elem r i into) = ReadTakes s (value_in s r i) into
TakesIn s (Load k d) = ReadTakes s (frame_value s k) (Some d)
TakesIn s (GetGlobal g d) = ReadTakes s (global_value s g) (Some d)
TakesIn s (Take d) = (¬ (s.table.pending ≡ None)) ⊎ IsNeverSet s (Some d)
TakesIn s c = takes_memory c ≡ true

-- A command may want memory in that state: it takes some there, and no test refuses it but those of room.
pub record MayWant (layouts : Layouts) (s : State) (c : Command) : Type 0 where
  pub takes : TakesIn s c
  pub unrefused : IsUnrefused (first_failing (tests layouts s c))
