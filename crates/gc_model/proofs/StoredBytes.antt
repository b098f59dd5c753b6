-- What is kept of a value lies in the low bytes of its number.
use Rattle.std.proofs.Common.{◌≡◌, ℕ, ◌/◌, ◌%◌, ◌^◌, ◌<◌, [], ◌∷◌, ap, ap₂, refl, arith}
use Rattle.std.specs.Int.{bytes_low_first}
use Rattle.gc_types.specs.declared.value.StorageType.{StorageType}
use Rattle.gc_types.specs.declared.value.StorageType.TheVariants as storage
use Rattle.gc_types.specs.Layouts.{storage_width, value_width}
use Rattle.gc_types.specs.Values.{unpacked}
use Rattle.gc_model.specs.Values.{Value, numeric, i32}
use Rattle.gc_model.specs.Stored.{stored}
use Rattle.gc_model.specs.Forms.{Names, IsCode, storage_form, value_form}
use Rattle.gc_model.proofs.PointParts.{IsEncodedAs}

one_byte : (n : ℕ) → bytes_low_first 0 1 n ≡ bytes_low_first 0 1 (n % 256)
one_byte n = ap (λ b. b ∷ []) (let e : n % 256 ≡ n % 256 % 256 = omega arith in e)

two_bytes : (n : ℕ) → bytes_low_first 0 2 n ≡ bytes_low_first 0 2 (n % 65536)
two_bytes n =
    let low : n % 256 ≡ n % 65536 % 256 = omega arith in
    let high : n / 256 % 256 ≡ n % 65536 / 256 % 256 = omega arith in
    ap₂ (λ a b. a ∷ b ∷ []) low high

byte_small : (n : ℕ) → n % 256 < 256 ^ 1
byte_small n = omega arith

word_small : (n : ℕ) → n % 65536 < 256 ^ 2
word_small n = omega arith

-- A value that a field holds whole is what it was, and its bytes are those of its number. Of a small integer the low
-- bits are kept, which are those of the low bytes.
pub stored_encoded : (names : Names) (ty : StorageType) (v : Value) (n : ℕ) → storage_form ty ≡ value_form v → IsCode names v n → n < 256 ^ value_width (unpacked ty)
    → IsEncodedAs names ty (stored ty v) (bytes_low_first 0 (storage_width ty) n)
stored_encoded names storage.I8 (numeric i32 m) n form is small = record {
  form = refl;
  word = n % 256;
  small = byte_small n;
  code = ap (λ k. k % 256) is;
  encoded = one_byte n;
}
stored_encoded names storage.I16 (numeric i32 m) n form is small = record {
  form = refl;
  word = n % 65536;
  small = word_small n;
  code = ap (λ k. k % 65536) is;
  encoded = two_bytes n;
}
stored_encoded names (storage.ValType ty) v n form is small = record { form = form; word = n; small = small; code = is; encoded = refl }
stored_encoded names _ _ n form is small = absurd (cc)
