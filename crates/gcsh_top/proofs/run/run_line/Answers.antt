use Rattle.std.proofs.Common.{◌≡◌, ℕ, List, Option, true, sym, subst}
use Rattle.std.specs.Prelude.{IfSome}
use Rattle.gc_commands.specs.declared.command.Operand.{Operand}
use Rattle.gc_commands.specs.declared.command.Command.TheVariants as command
use Rattle.gc_commands.specs.declared.lone.Lone.{Lone}
use Rattle.gc_commands.specs.declared.lone.Lone.TheVariants as lone
use Rattle.gc_commands.specs.LoneCommands.{lone_command}
use Rattle.gc_commands.specs.Spelling.{IsCommandOf}
use Rattle.gc_script.specs.Shapes.{is_collection}
use Rattle.gc_script.specs.Endings.{answer_of}
use Rattle.gcsh_top.proofs.WrittenLemmas.{line_breaks, line_broke, line_ran, line_runs}
use Rattle.gcsh_top.proofs.run.run_line.Given.{Over}
use Rattle.gcsh_top.proofs.run.run_line.Goals.{After-write_ending-in-Some-made}
use Rattle.gcsh_top.proofs.run.run_line.Goals as goal

-- a command that makes an object collects nothing by itself
new_collects : (d t : ℕ) (values : List Operand) → is_collection (command.New d t values) ≡ true → ⊥
new_collects d t values is = cc is

-- nor does one of one word that tells nothing
lone_collects : (l : Lone) → is_collection (lone_command l) ≡ true → ⊥
lone_collects lone.Enter is = cc is
lone_collects lone.Leave is = cc is
lone_collects lone.Pop is = cc is

pub returns-in-Some-clause-ran : goal.returns-in-Some-clause-ran
returns-in-Some-clause-ran g c =
    line_ran _ _ _ _ c.args.line.now (lone_command c.in-Some.lone) c.args.store.now _ c.args.runner.now _ _ _ (answer_of c.run_lone.result) c.write_ending.result c.in-Some.ensures.is
    (c.run_lone.ensures.runs (g.L.ResourceLimiter.limits c.args.limiter.now)) (lone_collects c.in-Some.lone) c.write_ending.ensures.wrote

pub returns-in-Some-clause-broke_off : goal.returns-in-Some-clause-broke_off
returns-in-Some-clause-broke_off g c =
    line_broke _ _ _ _ c.args.line.now (lone_command c.in-Some.lone) c.args.store.now _ c.args.runner.now _ _ _ (answer_of c.run_lone.result) c.write_ending.result c.in-Some.ensures.is
    (c.run_lone.ensures.runs (g.L.ResourceLimiter.limits c.args.limiter.now)) c.write_ending.ensures.wrote

-- the line is the `new` whose parts were read
made_is : (g : Over) (c : After-write_ending-in-Some-made g) → IsCommandOf c.args.line.now (command.New c.in-Some-made.d c.in-Some-made.t c.as_slice-operands.result.now)
made_is g c =
    subst (λ (operands : List Operand). IsCommandOf c.args.line.now (command.New c.in-Some-made.d c.in-Some-made.t operands)) (sym c.as_slice-operands.ensures)
    (subst (λ (made : Option (ℕ × ℕ)). IfSome made (λ at. IsCommandOf c.args.line.now (command.New at.0 at.1 c.new_of.new.list))) c.in-Some-made.is c.in-Ok.ensures.is)

pub returns-in-Some-made-clause-ran : goal.returns-in-Some-made-clause-ran
returns-in-Some-made-clause-ran g c =
    line_ran _ _ _ _ c.args.line.now (command.New c.in-Some-made.d c.in-Some-made.t c.as_slice-operands.result.now) c.args.store.now _ c.args.runner.now _ _ _ (answer_of c.make_struct-ending.result) c.write_ending-in-Some-made.result (made_is g c)
    c.make_struct-ending.ensures.runs (new_collects c.in-Some-made.d c.in-Some-made.t c.as_slice-operands.result.now) c.write_ending-in-Some-made.ensures.wrote

pub returns-in-Some-made-clause-broke_off : goal.returns-in-Some-made-clause-broke_off
returns-in-Some-made-clause-broke_off g c =
    line_broke _ _ _ _ c.args.line.now (command.New c.in-Some-made.d c.in-Some-made.t c.as_slice-operands.result.now) c.args.store.now _ c.args.runner.now _ _ _ (answer_of c.make_struct-ending.result) c.write_ending-in-Some-made.result (made_is g c)
    c.make_struct-ending.ensures.runs c.write_ending-in-Some-made.ensures.wrote

pub returns-in-None-clause-ran : goal.returns-in-None-clause-ran
returns-in-None-clause-ran g c = line_runs _ _ _ _ c.args.line.now c.args.store.now _ c.args.runner.now _ _ _ c.run_read.result c.run_read.ensures.runs

pub returns-in-None-clause-broke_off : goal.returns-in-None-clause-broke_off
returns-in-None-clause-broke_off g c = line_breaks _ _ _ _ c.args.line.now c.args.store.now _ c.args.runner.now _ _ _ c.run_read.result c.run_read.ensures.runs
