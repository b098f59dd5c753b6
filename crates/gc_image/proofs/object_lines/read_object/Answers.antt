use Rattle.std.proofs.Common.{◌≡◌, ◌∷◌, codes, ap, subst, rules, ◌∙◌}
use Rattle.gc_commands.specs.Reading.{Reads}
use Rattle.gc_image.specs.Reading.{FitBytes, FitExn, FitRow, bytes_words, exn_words, row_words}
use Rattle.gc_image.proofs.ObjectLemmas.{no_array, no_bytes, no_exn, no_struct, one_letter}
use Rattle.gc_image.proofs.object_lines.read_object.Goals as goal

pub returns-in-None : goal.returns-in-None
returns-in-None c =
    let is : c.in-Some.kind.now ≡ codes "s" = one_letter c.in-Some.kind.now 115 c.in-s.len_at_least c.in-s.len_below (search rules) in
    no_struct c.args.words.now c.next.new.self (c.in-Some.ensures ∙ ap (λ w. w ∷ c.next.new.self) is) (subst (Reads FitRow row_words c.next.new.self) c.in-None.is c.in_ok-ty-in-s.ensures)

pub returns-in-None-2 : goal.returns-in-None-2
returns-in-None-2 c =
    let is : c.in-Some.kind.now ≡ codes "a" = one_letter c.in-Some.kind.now 97 c.in-a.len_at_least c.in-a.len_below (search rules) in
    no_array c.args.words.now c.next.new.self (c.in-Some.ensures ∙ ap (λ w. w ∷ c.next.new.self) is) (subst (Reads FitRow row_words c.next.new.self) c.in-None-2.is c.in_ok-ty-in-a.ensures)

pub returns-in-None-3 : goal.returns-in-None-3
returns-in-None-3 c =
    let is : c.in-Some.kind.now ≡ codes "b" = one_letter c.in-Some.kind.now 98 c.in-b.len_at_least c.in-b.len_below (search rules) in
    no_bytes c.args.words.now c.next.new.self (c.in-Some.ensures ∙ ap (λ w. w ∷ c.next.new.self) is) (subst (Reads FitBytes bytes_words c.next.new.self) c.in-None-3.is c.in_ok-ty-in-b.ensures)

pub returns-in-None-4 : goal.returns-in-None-4
returns-in-None-4 c =
    let is : c.in-Some.kind.now ≡ codes "e" = one_letter c.in-Some.kind.now 101 c.in-e.len_at_least c.in-e.len_below (search rules) in
    no_exn c.args.words.now c.next.new.self (c.in-Some.ensures ∙ ap (λ w. w ∷ c.next.new.self) is) (subst (Reads FitExn exn_words c.next.new.self) c.in-None-4.is c.in_ok-ty-in-e.ensures)
