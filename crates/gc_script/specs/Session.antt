-- A session: from the bytes in to the bytes out.
use Rattle.std.specs.Prelude.{◌≡◌, ℕ, List, [], ◌∷◌, ◌++◌, Option, Some, None}
use Rattle.std.specs.List.{flat_map}
use Rattle.gc_types.specs.declared.kind.Layouts.{Layouts}
use Rattle.gc_model.specs.Allocation.{Limits}
use Rattle.gc_model.specs.Table.{Table, start, usual_roots}
use Rattle.gc_model.specs.Accounts.{no_account}
use Rattle.gc_owner.specs.Limiters.{fresh_limits}
use Rattle.gc_commands.specs.declared.command.Command.{Command}
use Rattle.gc_commands.specs.declared.reply.Reply.{Reply}
use Rattle.gc_commands.specs.Spelling.{IsCommandOf}
use Rattle.gc_commands.specs.Text.{text_of}
use Rattle.gc_script.specs.Lines.{line_feed, lines}
use Rattle.gc_script.specs.State.{State, begin}
use Rattle.gc_script.specs.Policy.{RunByPolicy}

-- each command is that of the line at its place
abbrev pub AreCommandsOf : List (List ℕ) → List Command → Type 0
AreCommandsOf [] [] = Unit {0}
AreCommandsOf (line ∷ lines) (c ∷ cs) = IsCommandOf line c × AreCommandsOf lines cs
AreCommandsOf [] (c ∷ cs) = ⊥
AreCommandsOf (line ∷ lines) [] = ⊥

-- a reply with its line feed
abbrev pub reply_line : Reply → List ℕ
reply_line r = text_of r ++ line_feed ∷ []

-- The lines are commands whose replies are a run from that state by the policy of growth, and the output is the
-- replies' texts.
pub record SessionFrom (layouts : Layouts) (counter : Option ℕ) (limits : Limits) (s : State) (lines : List (List ℕ)) (output : List ℕ) (s' : State) (limits' : Limits) : Type 0 where
  pub commands : List Command
  pub replies : List Reply
  pub are_commands : AreCommandsOf lines commands
  pub run : RunByPolicy layouts counter s limits commands replies s' limits'
  pub output_is : output ≡ flat_map reply_line replies

-- A session over a heap that begins with `first` pages and is granted up to `most`: the lines of the input
-- are commands whose replies are a run from the empty table to t, and the output is the replies' texts.
pub record Session (layouts : Layouts) (first most : ℕ) (input output : List ℕ) (t : Table ℕ) : Type 0 where
  pub after : State
  pub limits : Limits
  pub from_start : SessionFrom layouts None (fresh_limits (Some most)) (begin (start first usual_roots usual_roots) no_account) (lines input) output after limits
  pub table_is : t ≡ after.table
