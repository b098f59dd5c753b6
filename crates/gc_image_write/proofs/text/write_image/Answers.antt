use Rattle.std.proofs.Common.{◌++◌, codes, length, string_bytes, ap, ◌∙◌}
use Rattle.gc_commands.specs.Spelling.{spelling}
use Rattle.gc_image.specs.Text.{count_text, ended_line, global_text, object_text}
use Rattle.gc_image_write.specs.Writing.{lines_of}
use Rattle.gc_image_write.proofs.JoinLemmas.{image_pushed}
use Rattle.gc_image_write.proofs.text.write_image.Goals as goal

pub returns : goal.returns
returns c =
    ap (λ v. v.items) c.into_bytes.ensures.value
    ∙ image_pushed c.args.image.now.types c.args.image.now.objects c.args.image.now.globals (string_bytes c.push_str.new.self) (string_bytes c.push_types.new.text) (string_bytes c.push_count.new.text)
    (string_bytes c.push_objects.new.text) (string_bytes c.push_globals.new.text) (c.in_ok-push_str.ensures.bytes ∙ ap (λ t. t ++ codes "image 1\n") c.new-text.ensures.bytes)
    (c.in_ok-push_types.ensures ∙ ap (λ xs. string_bytes c.push_str.new.self ++ lines_of spelling xs) c.types.ensures)
    (c.in_ok-push_count.ensures ∙ ap (λ xs. string_bytes c.push_types.new.text ++ ended_line (count_text (length xs))) c.objects.ensures)
    (c.in_ok-push_objects.ensures ∙ ap (λ xs. string_bytes c.push_count.new.text ++ lines_of object_text xs) c.objects-2.ensures)
    (c.in_ok-push_globals.ensures ∙ ap (λ xs. string_bytes c.push_objects.new.text ++ lines_of global_text xs) c.globals.ensures)
