use Rattle.std.proofs.Common.{◌≡◌, List, map}
use Rattle.std.specs.List.{AllByRecursion}
use Rattle.gc_commands.specs.declared.command.FieldWord.{FieldWord}
use Rattle.gc_commands.specs.Spelling.{FitsField}
use Rattle.gc_commands.specs.Words.{field_text}
use Rattle.gc_commands.proofs.ObjectLemmas.{no_fields, no_struct}
use Rattle.gc_commands.proofs.declarations.read_struct.Goals as goal

pub returns-in_default : goal.returns-in_default
returns-in_default c = no_struct c.args.words.now c.read_front.new.words c.in_default.ensures

pub returns-in_default-2 : goal.returns-in_default-2
returns-in_default-2 c =
    let none : (fs : List FieldWord) → AllByRecursion FitsField fs → c.read_front.new.words ≡ map field_text fs → ⊥ = rw c.in_default-2.is at c.in_ok-fields.ensures in
    no_fields c.args.words.now c.read_front.new.words (c.in-Some.is_final, c.in-Some.supertype) c.in-Some.ensures none
