use Rattle.std.proofs.Common.{◌≡◌, ◌++◌, ◌∷◌, OnOk, string_bytes, refl, sym, ap, subst, ◌∙◌, append_assoc}
use Rattle.std.specs.Fmt.{decimal}
use Rattle.gc_image.specs.Text.{object_text, value_text}
use Rattle.gc_image_write.proofs.JoinLemmas.{row_pushed}
use Rattle.gc_image_write.proofs.objects.push_object.Goals as goal

pub returns-in_ok-write-in-Struct : goal.returns-in_ok-write-in-Struct
returns-in_ok-write-in-Struct c =
    subst (λ o. OnOk c.push_values.result (string_bytes c.push_values.new.text ≡ string_bytes c.args.text.now ++ object_text o)) (sym c.in-Struct.is)
    (row_pushed c.push_values.result (string_bytes c.args.text.now) (string_bytes c.write.new.self) (string_bytes c.push_values.new.text) (λ w. 115 ∷ 32 ∷ w) (λ w x. refl) value_text
    c.as_slice.result.now c.in-Struct.values (decimal c.in-Struct.ty) c.in_ok-write-in-Struct.ensures.bytes c.as_slice.ensures c.push_values.ensures)

pub returns-in_ok-write-in-Array : goal.returns-in_ok-write-in-Array
returns-in_ok-write-in-Array c =
    subst (λ o. OnOk c.push_values-in-Array.result (string_bytes c.push_values-in-Array.new.text ≡ string_bytes c.args.text.now ++ object_text o)) (sym c.in-Array.is)
    (row_pushed c.push_values-in-Array.result (string_bytes c.args.text.now) (string_bytes c.write-in-Array.new.self) (string_bytes c.push_values-in-Array.new.text) (λ w. 97 ∷ 32 ∷ w) (λ w x. refl)
    value_text c.as_slice-in-Array.result.now c.in-Array.values (decimal c.in-Array.ty) c.in_ok-write-in-Array.ensures.bytes c.as_slice-in-Array.ensures c.push_values-in-Array.ensures)

pub returns-in_ok-write-in-Exn : goal.returns-in_ok-write-in-Exn
returns-in_ok-write-in-Exn c =
    let ty = decimal c.in-Exn.ty in let instance = decimal c.in-Exn.tag.instance in
    subst (λ o. OnOk c.push_values-in-Exn.result (string_bytes c.push_values-in-Exn.new.text ≡ string_bytes c.args.text.now ++ object_text o)) (sym c.in-Exn.is)
    (row_pushed c.push_values-in-Exn.result (string_bytes c.args.text.now) (string_bytes c.write-in-Exn.new.self) (string_bytes c.push_values-in-Exn.new.text)
    (λ w. 101 ∷ 32 ∷ (ty ++ 32 ∷ (instance ++ 32 ∷ w)))
    (λ w x. ap (λ rest. 101 ∷ 32 ∷ rest) (append_assoc ty (32 ∷ (instance ++ 32 ∷ w)) x ∙ ap (λ rest. ty ++ 32 ∷ rest) (append_assoc instance (32 ∷ w) x))) value_text
    c.as_slice-in-Exn.result.now c.in-Exn.values (decimal c.in-Exn.tag.index) c.in_ok-write-in-Exn.ensures.bytes c.as_slice-in-Exn.ensures c.push_values-in-Exn.ensures)
