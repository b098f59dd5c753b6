-- Commands whose reply is that they are done, or a refusal, and how they end.
use Rattle.std.specs.Prelude.{Bool, true, false, Result, Ok, Err}
use Rattle.gc_commands.specs.declared.command.Command.{Command}
use Rattle.gc_commands.specs.declared.command.Command.TheVariants.{New, NewExn, NewArr, Fixed, NewBytes, Host, I31, SetField, SetElem, Enter, Leave, Push, Pop, Store, SetGlobal, Own, Root, Unroot, Throw, Grow}
use Rattle.gc_commands.specs.declared.reply.Reply.{Reply}
use Rattle.gc_commands.specs.declared.reply.Reply.TheVariants as reply
use Rattle.gc_commands.specs.declared.reply.Refusal.{Refusal}
use Rattle.gc_script.specs.declared.ending.Ending.{Ending}
use Rattle.gc_script.specs.declared.ending.Ending.TheVariants as ending
use Rattle.gc_script.specs.declared.runner.RunError.{RunError}
use Rattle.gc_script.specs.declared.runner.RunError.TheVariants as error

-- whether a command is one of these
abbrev pub is_quiet : Command → Bool
is_quiet (New d t vs) = true
is_quiet (NewExn d t tag vs) = true
is_quiet (NewArr d t n v) = true
is_quiet (Fixed d t vs) = true
is_quiet (NewBytes d t bytes) = true
is_quiet (Host d n) = true
is_quiet (I31 d n) = true
is_quiet (SetField r i v) = true
is_quiet (SetElem r i v) = true
is_quiet Enter = true
is_quiet Leave = true
is_quiet (Push k) = true
is_quiet Pop = true
is_quiet (Store k r) = true
is_quiet (SetGlobal g r) = true
is_quiet (Own o r) = true
is_quiet (Root d o) = true
is_quiet (Unroot o) = true
is_quiet (Throw r) = true
is_quiet (Grow n) = true
is_quiet _ = false

-- the answer to any command that it stands for
abbrev pub answer_of : Ending → Result Reply RunError
answer_of ending.Done = Ok reply.Done
answer_of (ending.Refused why) = Ok (reply.Refused why)
answer_of ending.OutOfMemory = Err error.OutOfMemory

-- the reply to such a command that takes no memory
abbrev pub ended : Result (Unit {0}) Refusal → Reply
ended (Ok done) = reply.Done
ended (Err why) = reply.Refused why

-- and how it ends
abbrev pub ending_of : Result (Unit {0}) Refusal → Ending
ending_of (Ok done) = ending.Done
ending_of (Err why) = ending.Refused why
