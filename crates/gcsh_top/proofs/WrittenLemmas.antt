-- A line whose command answered, and what was written of that.
use Rattle.std.proofs.Common.{◌≡◌, ℕ, true, List, Option}
use Rattle.std.specs.Prelude.{Result, Ok, Err, OnOk, OnErr}
use Rattle.std.specs.Io.KnownBytes.{Appends}
use Rattle.gc_types.specs.declared.kind.Layouts.{Layouts}
use Rattle.gc_model.specs.Allocation.{Limits}
use Rattle.gc_model.specs.Stores.{StoreView}
use Rattle.gc_commands.specs.declared.command.Command.{Command}
use Rattle.gc_commands.specs.declared.reply.Reply.{Reply}
use Rattle.gc_commands.specs.Spelling.{IsCommandOf}
use Rattle.gc_script.specs.declared.runner.RunError.{RunError}
use Rattle.gc_script.specs.Run.{RunsOne}
use Rattle.gc_script.specs.Session.{reply_line}
use Rattle.gc_script.specs.Shapes.{is_collection}
use Rattle.gc_script.specs.Slots.{RunnerView}
use Rattle.gc_script.specs.State.{State, HoldsState}
use Rattle.gcsh_top.specs.Ends.{TookPart}
use Rattle.gcsh_top.specs.Runs.{BrokeOff, RanLine, RunsLine, not_run, not_written}
use Rattle.gcsh_top.specs.Written.{WroteAnswer}
use Rattle.gcsh_top.specs.declared.run.LineFault.{LineFault}

-- what was written of a reply
pub wrote_ok : (answer : Reply) (held held' : Option (List ℕ)) (r : Result (Unit {0}) LineFault) → WroteAnswer (Ok answer) r held held' → OnOk r (Appends held held' (reply_line answer))
wrote_ok answer held held' (Ok done) wrote = wrote
wrote_ok answer held held' (Err fault) wrote = tt

pub wrote_err : (answer : Reply) (held held' : Option (List ℕ)) (r : Result (Unit {0}) LineFault) → WroteAnswer (Ok answer) r held held' → OnErr r (TookPart held held' (reply_line answer))
wrote_err answer held held' (Ok done) wrote = tt
wrote_err answer held held' (Err fault) wrote = wrote

-- a command that collects nothing, and its line
pub line_ran : (layouts : Layouts) (counter : Option ℕ) (limits limits' : Limits) (line : List ℕ) (command : Command) (old store : StoreView ℕ) (before runner : RunnerView) (held held' : Option (List ℕ)) (answered : Result Reply RunError) (r : Result (Unit {0}) LineFault)
    → IsCommandOf line command → ((s : State) → HoldsState layouts old before s → RunsOne layouts counter limits limits' s command answered store runner) → (is_collection command ≡ true → ⊥) → WroteAnswer answered r held held'
    → OnOk r ((s : State) → HoldsState layouts old before s → RanLine layouts counter limits limits' s line store runner held held')
line_ran layouts counter limits limits' line command old store before runner held held' (Ok answer) (Ok done) is runs none wrote = λ s holds. record {
  command = command;
  answer = answer;
  is_command = is;
  ran = runs s holds;
  kept = λ collects. absurd (none collects);
  replied = wrote;
}
line_ran layouts counter limits limits' line command old store before runner held held' (Ok answer) (Err fault) is runs none wrote = tt
line_ran layouts counter limits limits' line command old store before runner held held' (Err e) (Ok done) is runs none wrote = absurd wrote
line_ran layouts counter limits limits' line command old store before runner held held' (Err e) (Err fault) is runs none wrote = tt

pub line_broke : (layouts : Layouts) (counter : Option ℕ) (limits limits' : Limits) (line : List ℕ) (command : Command) (old store : StoreView ℕ) (before runner : RunnerView) (held held' : Option (List ℕ)) (answered : Result Reply RunError) (r : Result (Unit {0}) LineFault)
    → IsCommandOf line command → ((s : State) → HoldsState layouts old before s → RunsOne layouts counter limits limits' s command answered store runner) → WroteAnswer answered r held held'
    → OnErr r ((s : State) → HoldsState layouts old before s → BrokeOff layouts counter limits s line store runner held held')
line_broke layouts counter limits limits' line command old store before runner held held' (Ok answer) (Ok done) is runs wrote = tt
line_broke layouts counter limits limits' line command old store before runner held held' (Ok answer) (Err fault) is runs wrote = λ s holds. not_written is (runs s holds) wrote
line_broke layouts counter limits limits' line command old store before runner held held' (Err e) (Ok done) is runs wrote = tt
line_broke layouts counter limits limits' line command old store before runner held held' (Err e) (Err fault) is runs wrote = λ s holds. not_run is (runs s holds) wrote

-- what running a line leaves, by what each answer leaves, and back
module _ (layouts : Layouts) (counter : Option ℕ) (limits limits' : Limits) (line : List ℕ) (old store : StoreView ℕ) (before runner : RunnerView) (held held' : Option (List ℕ)) where
  abbrev Runs : Result (Unit {0}) LineFault → Type 0
  Runs r = (s : State) → HoldsState layouts old before s → RunsLine layouts counter limits limits' s line store runner held held' r

  abbrev RanIt : Type 0
  RanIt = (s : State) → HoldsState layouts old before s → RanLine layouts counter limits limits' s line store runner held held'

  abbrev BrokeIt : Type 0
  BrokeIt = (s : State) → HoldsState layouts old before s → BrokeOff layouts counter limits s line store runner held held'

  pub runs_line : (r : Result (Unit {0}) LineFault) → OnOk r RanIt → OnErr r BrokeIt → Runs r
  runs_line (Ok done) ran broke = ran
  runs_line (Err fault) ran broke = broke

  pub line_runs : (r : Result (Unit {0}) LineFault) → Runs r → OnOk r RanIt
  line_runs (Ok done) runs = runs
  line_runs (Err fault) runs = tt

  pub line_breaks : (r : Result (Unit {0}) LineFault) → Runs r → OnErr r BrokeIt
  line_breaks (Ok done) runs = tt
  line_breaks (Err fault) runs = runs
