-- What is written of a command's answer.
use Rattle.std.specs.Prelude.{ℕ, List, Option, Result, Ok, Err}
use Rattle.std.specs.Io.KnownBytes.{Appends, Keeps}
use Rattle.gc_commands.specs.declared.reply.Reply.{Reply}
use Rattle.gc_script.specs.declared.runner.RunError.{RunError}
use Rattle.gc_script.specs.Session.{reply_line}
use Rattle.gcsh_top.specs.Ends.{TookPart}
use Rattle.gcsh_top.specs.declared.run.LineFault.{LineFault}

-- A reply is written, or after a fault a front of it; of want of memory nothing is written, and the answer is a fault.
abbrev pub WroteAnswer : Result Reply RunError → Result (Unit {0}) LineFault → Option (List ℕ) → Option (List ℕ) → Type 0
WroteAnswer (Ok answer) (Ok done) held held' = Appends held held' (reply_line answer)
WroteAnswer (Ok answer) (Err fault) held held' = TookPart held held' (reply_line answer)
WroteAnswer (Err e) (Ok done) held held' = ⊥
WroteAnswer (Err e) (Err fault) held held' = Keeps held held'
