-- Two sessions over one input.
use Rattle.std.proofs.Common.{◌≡◌, ℕ, List, [], ◌∷◌, Some, None, refl, sym, ap, ◌∙◌, subst}
use Rattle.std.specs.List.{Contains, flat_map}
use Rattle.gc_types.specs.declared.kind.Layouts.{Layouts}
use Rattle.gc_types.specs.declared.kind.Layouts.TheVariants.{Counting, Copying}
use Rattle.gc_model.specs.Table.{Table, start, usual_roots}
use Rattle.gc_model.specs.Accounts.{no_account}
use Rattle.gc_owner.specs.Limiters.{fresh_limits}
use Rattle.gc_commands.specs.declared.command.Command.{Command}
use Rattle.gc_commands.specs.declared.command.Command.TheVariants.{Bad, Cap, GcInc}
use Rattle.gc_commands.specs.Spelling.{IsCommandOf}
use Rattle.gc_script.specs.State.{State, begin}
use Rattle.gc_script.specs.Policy.{RunByPolicy}
use Rattle.gc_script.specs.Session.{AreCommandsOf, Session, reply_line}
use Rattle.gc_laws.proofs.RowLemmas.{command_is}
use Rattle.gc_script.specs.Run.{Run}
use Rattle.gc_laws.specs.Laws.{NoneRefused, NoneLarge}
use Rattle.gc_laws.proofs.PolicyLaws.{policy_decides}
use Rattle.gc_laws.proofs.PolicyRuns.{policy_run}
use Rattle.gc_laws.proofs.RunLaws.{steps_decide, kinds_alike, same_replies}

-- a line is one command
one_of_line : (line : List ℕ) (c d : Command) → IsCommandOf line c → IsCommandOf line d → c ≡ d
one_of_line line Bad Bad is other = refl
one_of_line line c Bad is other = absurd (other c is)
one_of_line line c d is other = command_is line d c other is

-- so lines are some commands and no others
commands_of_lines : (lines : List (List ℕ)) (cs ds : List Command) → AreCommandsOf lines cs → AreCommandsOf lines ds → cs ≡ ds
commands_of_lines [] [] [] are other = refl
commands_of_lines [] [] (d ∷ ds) are other = absurd other
commands_of_lines [] (c ∷ cs) ds are other = absurd are
commands_of_lines (line ∷ lines) [] ds are other = absurd are
commands_of_lines (line ∷ lines) (c ∷ cs) [] are other = absurd other
commands_of_lines (line ∷ lines) (c ∷ cs) (d ∷ ds) are other =
    let one = one_of_line line c d are.0 other.0 in
    let rest = commands_of_lines lines cs ds are.1 other.1 in
    λ i. one i ∷ rest i

-- the state in which a session begins whose heap has so many first pages
abbrev from : ℕ → State
from first = begin (start first usual_roots usual_roots) no_account

module _ (k l : Layouts) (first most most' : ℕ) (input output output' : List ℕ) (t t' : Table ℕ) (one : Session k first most input output t) (other : Session l first most' input output' t') where
  -- the lines of both are the same commands
  same_commands : other.from_start.commands ≡ one.from_start.commands
  same_commands = commands_of_lines _ other.from_start.commands one.from_start.commands other.from_start.are_commands one.from_start.are_commands

  other_run : RunByPolicy l None (from first) (fresh_limits (Some most')) one.from_start.commands other.from_start.replies other.after other.limits
  other_run = subst (λ (cs : List Command). RunByPolicy l None (from first) (fresh_limits (Some most')) cs other.from_start.replies other.after other.limits) same_commands other.from_start.run

  same_output : one.from_start.replies ≡ other.from_start.replies → output ≡ output'
  same_output replies = one.from_start.output_is ∙ ap (flat_map reply_line) replies ∙ sym other.from_start.output_is

  one_steps : Run k (Some most) (from first) one.from_start.commands one.from_start.replies one.after
  one_steps = policy_run k None (from first) (fresh_limits (Some most)) one.from_start.commands one.from_start.replies one.after one.limits one.from_start.run

  other_steps : Run l (Some most') (from first) one.from_start.commands other.from_start.replies other.after
  other_steps = policy_run l None (from first) (fresh_limits (Some most')) one.from_start.commands other.from_start.replies other.after other.limits other_run

-- the output of a session is decided by the words and the input where no place is told
pub output_decided : (k : Layouts) (first most : ℕ) (input output output' : List ℕ) (t t' : Table ℕ) → ¬ (k ≡ Counting) → Session k first most input output t → Session k first most input output' t' → output ≡ output'
output_decided k first most input output output' t t' told_nowhere one other =
    same_output k k first most most input output output' t t' one other
    (policy_decides k None (fresh_limits (Some most)) one.limits other.limits most (from first) one.after other.after one.from_start.commands one.from_start.replies other.from_start.replies told_nowhere refl
    one.from_start.run (other_run k k first most most input output output' t t' one other))

-- over any heap, where it was refused no pages, and no command shows them or counts increments
pub granted_output : (k : Layouts) (first most : ℕ) (input output output' : List ℕ) (t t' : Table ℕ) (one : Session k first most input output t) (other : Session k first most input output' t') → NoneRefused one.from_start.replies → NoneRefused other.from_start.replies
    → ¬ Contains one.from_start.commands Cap → ¬ Contains one.from_start.commands GcInc → output ≡ output'
granted_output k first most input output output' t t' one other fine fine' no_cap no_count =
    same_output k k first most most input output output' t t' one other
    (same_replies one.from_start.commands one.from_start.replies other.from_start.replies
    (steps_decide k (Some most) (from first) one.after other.after one.from_start.commands one.from_start.replies other.from_start.replies
    (one_steps k k first most most input output output' t t' one other) (other_steps k k first most most input output output' t t' one other) fine fine') no_cap no_count)

-- and the same over a copying and over a counting heap, where none found an object too large
pub alike_output : (first most most' : ℕ) (input output output' : List ℕ) (t t' : Table ℕ) (one : Session Copying first most input output t) (other : Session Counting first most' input output' t') → NoneRefused one.from_start.replies → NoneRefused other.from_start.replies
    → NoneLarge one.from_start.replies → NoneLarge other.from_start.replies → ¬ Contains one.from_start.commands Cap → ¬ Contains one.from_start.commands GcInc → output ≡ output'
alike_output first most most' input output output' t t' one other fine fine' small small' no_cap no_count =
    same_output Copying Counting first most most' input output output' t t' one other
    (same_replies one.from_start.commands one.from_start.replies other.from_start.replies
    (kinds_alike (Some most) (Some most') (from first) one.after other.after one.from_start.commands one.from_start.replies other.from_start.replies
    (one_steps Copying Counting first most most' input output output' t t' one other) (other_steps Copying Counting first most most' input output output' t t' one other) fine fine' small small') no_cap no_count)
