-- The script of `churn`: rounds each of which makes an object, which may name one that is kept, and keeps it in one of eight
-- slots. It is made by formula from the number of its rounds.
use Rattle.std.specs.Prelude.{ℕ, ◌/◌, ◌%◌, ◌==◌, pos, true, false, List, [], ◌∷◌, ◌++◌, None, if◌then◌else◌, suc, zero}
use Rattle.gc_commands.specs.declared.command.Command.{Command}
use Rattle.gc_commands.specs.declared.command.Command.TheVariants.{Struct, New, Enter, Leave, Push, Store, Load, Gc, Cap}
use Rattle.gc_commands.specs.declared.command.FieldWord.{FieldWord}
use Rattle.gc_commands.specs.declared.command.HeapWord.TheVariants as heap
use Rattle.gc_commands.specs.declared.command.Operand.{Operand}
use Rattle.gc_commands.specs.declared.command.Operand.TheVariants as operand
use Rattle.gc_commands.specs.declared.command.StorageWord.TheVariants as storage
use Rattle.gc_commands.specs.declared.command.ValueWord.{ValueWord}
use Rattle.gc_commands.specs.declared.command.ValueWord.TheVariants as value
use Rattle.gcsh_reports.specs.Seeds.{seed_of}

-- a script may have this many rounds
abbrev pub max_rounds : ℕ
max_rounds = 100000

-- the slot that a round reads, and the one that it sets
abbrev pub slot_read : ℕ → ℕ
slot_read seed = (seed / 65536) % 8

abbrev pub slot_set : ℕ → ℕ
slot_set seed = (seed / 524288) % 8

-- what a round's object names: what was read, and null where that slot is set
abbrev pub named_by : ℕ → Operand
named_by seed = if slot_read seed == slot_set seed then operand.AnyNull else operand.Register 1

-- the commands of the round of that number and seed
abbrev pub round_commands : ℕ → ℕ → List Command
round_commands number seed = Enter ∷ Load (slot_read seed) 1 ∷ New 2 0 (named_by seed ∷ operand.I32 (pos number) ∷ []) ∷ Store (slot_set seed) 2 ∷ Leave ∷ []

-- the commands of the first k of so many rounds
abbrev pub rounds_up_to : ℕ → ℕ → List Command
rounds_up_to rounds zero = []
rounds_up_to rounds (suc k) = rounds_up_to rounds k ++ round_commands (suc k) (seed_of rounds (suc k))

-- a field that may be written
abbrev pub mutable_field : ValueWord → FieldWord
mutable_field word = record { mutable = true; storage = storage.Value word }

-- the fields of the objects, a reference and a number: `m:any m:i32`
abbrev pub link_fields : List FieldWord
link_fields = mutable_field (value.Ref heap.Any true) ∷ mutable_field value.I32 ∷ []

-- the script of so many rounds
abbrev pub churn_script : ℕ → List Command
churn_script rounds = Struct false None link_fields ∷ Push 8 ∷ (rounds_up_to rounds rounds ++ Gc ∷ Cap ∷ [])
