use Rattle.std.proofs.Common.{◌≡◌, ◌++◌, ◌∷◌, OnOk, codes, string_bytes, sym, subst}
use Rattle.gc_commands.specs.Words.{hex_digits}
use Rattle.gc_image.specs.Text.{value_text}
use Rattle.gc_image_write.proofs.objects.push_value.Goals as goal

pub returns-in-F32 : goal.returns-in-F32
returns-in-F32 c =
    subst (λ v. OnOk c.push_digits.result (string_bytes c.push_digits.new.text ≡ string_bytes c.args.text.now ++ value_text v)) (sym c.in-F32.is)
    (subst (λ n. OnOk c.push_digits.result (string_bytes c.push_digits.new.text ≡ string_bytes c.args.text.now ++ (codes "f32" ++ 58 ∷ hex_digits 8 n))) c.from.ensures c.push_digits.ensures)

pub returns-in-F64 : goal.returns-in-F64
returns-in-F64 c =
    subst (λ v. OnOk c.push_digits-in-F64.result (string_bytes c.push_digits-in-F64.new.text ≡ string_bytes c.args.text.now ++ value_text v)) (sym c.in-F64.is)
    (subst (λ n. OnOk c.push_digits-in-F64.result (string_bytes c.push_digits-in-F64.new.text ≡ string_bytes c.args.text.now ++ (codes "f64" ++ 58 ∷ hex_digits 16 n))) c.from-in-F64.ensures
    c.push_digits-in-F64.ensures)

pub returns-in-V128 : goal.returns-in-V128
returns-in-V128 c =
    subst (λ v. OnOk c.push_digits-in-V128.result (string_bytes c.push_digits-in-V128.new.text ≡ string_bytes c.args.text.now ++ value_text v)) (sym c.in-V128.is)
    (subst (λ n. OnOk c.push_digits-in-V128.result (string_bytes c.push_digits-in-V128.new.text ≡ string_bytes c.args.text.now ++ (codes "v128" ++ 58 ∷ hex_digits 32 n))) c.as_u128.ensures
    c.push_digits-in-V128.ensures)
