use Rattle.std.proofs.Common.{ℕ, List, [], get_or, sym, ap, subst, ◌∙◌, arith}
use Rattle.gc_commands.specs.Reading.{Reads}
use Rattle.gc_image.specs.Text.{FitsObject, object_text}
use Rattle.gc_image.proofs.SectionLemmas.{objects_none}
use Rattle.gc_image.proofs.sections.read_objects.Goals as goal

pub returns-in_default-2 : goal.returns-in_default-2
returns-in_default-2 c = λ xs others fit long e.
    let none = subst (Reads FitsObject object_text c.in-Some.line.now) c.in_default-2.is c.in_ok-object.ensures in
    objects_none c.loop.objects.items c.loop.lines (λ x behind fits same. none x fits (ap (λ (ls : List (List ℕ)). get_or ls 0 []) (sym c.in-Some.ensures ∙ same))) c.args.count
    (let counted = c.loop.invariant.long in let below = c.loop-test.true in omega arith) xs others fit long (sym c.loop.invariant.read ∙ e)
