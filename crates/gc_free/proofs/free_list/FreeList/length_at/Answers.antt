use Rattle.std.proofs.Common.{◌∙◌, ap, sym, option_map}
use Rattle.gc_free.specs.Space.{Space}
use Rattle.gc_free.specs.Listed.{run_length_at}
use Rattle.gc_free.proofs.RunsAt.{at_current, at_other}
use Rattle.gc_free.proofs.free_list.FreeList.length_at.Goals as goal

pub returns-in-Some-clause-length : goal.returns-in-Some-clause-length
returns-in-Some-clause-length g c =
    let s : Space = record { capacity = c.self.inside.capacity; held = c.self.inside.held.blocks; current = c.self.inside.current } in
    let found = at_current s c.self.inside.others.runs c.self.inside.others.room c.self.inside.blocks c.args.place c.in-Some.run' c.self.invariant (sym c.current_at.ensures ∙ c.in-Some.is) in
    sym (ap (option_map (λ r. r.length)) found) ∙ ap (λ v. run_length_at c.args.place v.space) c.self.view_is

pub returns-clause-length : goal.returns-clause-length
returns-clause-length g c =
    let s : Space = record { capacity = c.self.inside.capacity; held = c.self.inside.held.blocks; current = c.self.inside.current } in
    let other = at_other s c.self.inside.others.runs c.self.inside.others.room c.self.inside.blocks c.args.place c.self.invariant (sym c.current_at.ensures ∙ c.in_default.is) in
    c.length_of.ensures ∙ ap (option_map (λ r. r.length)) (c.get-run.ensures ∙ other) ∙ ap (λ v. run_length_at c.args.place v.space) c.self.view_is
