-- Words that spell operands: no two operands have one spelling, and which words spell none.
use Rattle.std.proofs.Common.{◌≡◌, ℕ, ℤ, ◌<◌, ◌^◌, List, ◌∷◌, ◌++◌, codes, FitsSigned, Option, None, Some, refl, sym, ap, ◌∙◌, arith}
use Rattle.std.specs.Fmt.{decimal, signed_decimal}
use Rattle.std.specs.Int.{w32, w64}
use Rattle.std.proofs.lemmas.Fmt.{decimal_injective, signed_decimal_injective}
use Rattle.std.proofs.lemmas.List.{append_cancel_left}
use Rattle.gc_commands.specs.declared.command.Operand.{Operand}
use Rattle.gc_commands.specs.declared.command.Operand.TheVariants as operand
use Rattle.gc_commands.specs.Reading.{Reads}
use Rattle.gc_commands.specs.Spelling.{FitsFloat, FitsOperand}
use Rattle.gc_commands.specs.Words.{hex_digits, operand_text}
use Rattle.gc_commands.proofs.HexReadLemmas.{one_hex}
use Rattle.gc_commands.proofs.TypeLemmas.{differ}

pub one_operand : (x y : Operand) → FitsOperand x → FitsOperand y → operand_text x ≡ operand_text y → x ≡ y
one_operand (operand.I32 m) (operand.I32 n) m_fits n_fits e =
    ap operand.I32 (signed_decimal_injective m n (let small = m_fits.sfits in omega arith) (let small = n_fits.sfits in omega arith) (append_cancel_left (codes "i32:") (signed_decimal m) (signed_decimal n) e))
one_operand (operand.I64 m) (operand.I64 n) m_fits n_fits e =
    ap operand.I64 (signed_decimal_injective m n (let small = m_fits.sfits in omega arith) (let small = n_fits.sfits in omega arith) (append_cancel_left (codes "i64:") (signed_decimal m) (signed_decimal n) e))
one_operand (operand.F32 m) (operand.F32 n) m_fits n_fits e = ap operand.F32 (one_hex 8 m n m_fits n_fits (append_cancel_left (codes "f32:") (hex_digits 8 m) (hex_digits 8 n) e))
one_operand (operand.F64 m) (operand.F64 n) m_fits n_fits e = ap operand.F64 (one_hex 16 m n m_fits n_fits (append_cancel_left (codes "f64:") (hex_digits 16 m) (hex_digits 16 n) e))
one_operand (operand.V128 m) (operand.V128 n) m_fits n_fits e = ap operand.V128 (one_hex 32 m n m_fits n_fits (append_cancel_left (codes "v128:") (hex_digits 32 m) (hex_digits 32 n) e))
one_operand operand.AnyNull operand.AnyNull x_fits y_fits e = refl
one_operand operand.ExternNull operand.ExternNull x_fits y_fits e = refl
one_operand operand.ExnNull operand.ExnNull x_fits y_fits e = refl
one_operand (operand.Register r) (operand.Register s) r_small s_small e =
    ap operand.Register (decimal_injective r s (omega arith) (omega arith) (append_cancel_left (codes "r") (decimal r) (decimal s) e))
one_operand x y x_fits y_fits e = differ _ _ (λ a b c d. omega arith) e

-- where no register stands behind the `r`
pub no_register : (word name : List ℕ) → word ≡ 114 ∷ name → ((r : ℕ) → r < 2 ^ 16 → name ≡ decimal r → ⊥) → (x : Operand) → FitsOperand x → word ≡ operand_text x → ⊥
no_register word name at none (operand.Register r) fits e = none r fits (append_cancel_left (codes "r") name (decimal r) (sym at ∙ e))
no_register word name at none x fits e = differ _ _ (λ a b c d. omega arith) (sym at ∙ e)

-- nor a number behind the name of its type
pub no_small : (word digits : List ℕ) → word ≡ codes "i32:" ++ digits → ((z : ℤ) → FitsSigned w32 z → digits ≡ signed_decimal z → ⊥) → (x : Operand) → FitsOperand x → word ≡ operand_text x → ⊥
no_small word digits at none (operand.I32 n) fits e = none n fits (append_cancel_left (codes "i32:") digits (signed_decimal n) (sym at ∙ e))
no_small word digits at none x fits e = differ _ _ (λ a b c d. omega arith) (sym at ∙ e)

pub no_wide : (word digits : List ℕ) → word ≡ codes "i64:" ++ digits → ((z : ℤ) → FitsSigned w64 z → digits ≡ signed_decimal z → ⊥) → (x : Operand) → FitsOperand x → word ≡ operand_text x → ⊥
no_wide word digits at none (operand.I64 n) fits e = none n fits (append_cancel_left (codes "i64:") digits (signed_decimal n) (sym at ∙ e))
no_wide word digits at none x fits e = differ _ _ (λ a b c d. omega arith) (sym at ∙ e)

pub no_f32 : (word digits : List ℕ) → word ≡ codes "f32:" ++ digits → ((n : ℕ) → n < 16 ^ 8 → digits ≡ hex_digits 8 n → ⊥) → (x : Operand) → FitsFloat x → word ≡ operand_text x → ⊥
no_f32 word digits at none (operand.F32 n) fits e = none n fits (append_cancel_left (codes "f32:") digits (hex_digits 8 n) (sym at ∙ e))
no_f32 word digits at none x fits e = differ _ _ (λ a b c d. omega arith) (sym at ∙ e)

pub no_f64 : (word digits : List ℕ) → word ≡ codes "f64:" ++ digits → ((n : ℕ) → n < 16 ^ 16 → digits ≡ hex_digits 16 n → ⊥) → (x : Operand) → FitsFloat x → word ≡ operand_text x → ⊥
no_f64 word digits at none (operand.F64 n) fits e = none n fits (append_cancel_left (codes "f64:") digits (hex_digits 16 n) (sym at ∙ e))
no_f64 word digits at none x fits e = differ _ _ (λ a b c d. omega arith) (sym at ∙ e)

pub no_v128 : (word digits : List ℕ) → word ≡ codes "v128:" ++ digits → ((n : ℕ) → n < 16 ^ 32 → digits ≡ hex_digits 32 n → ⊥) → (x : Operand) → FitsFloat x → word ≡ operand_text x → ⊥
no_v128 word digits at none (operand.V128 n) fits e = none n fits (append_cancel_left (codes "v128:") digits (hex_digits 32 n) (sym at ∙ e))
no_v128 word digits at none x fits e = differ _ _ (λ a b c d. omega arith) (sym at ∙ e)

-- a word that begins like no floating-point number is none
pub no_float : (word : List ℕ) → ((rest : List ℕ) → word ≡ codes "f32:" ++ rest → ⊥) → ((rest : List ℕ) → word ≡ codes "f64:" ++ rest → ⊥) → ((rest : List ℕ) → word ≡ codes "v128:" ++ rest → ⊥)
    → (x : Operand) → FitsFloat x → word ≡ operand_text x → ⊥
no_float word small wide vector (operand.F32 n) fits e = small (hex_digits 8 n) e
no_float word small wide vector (operand.F64 n) fits e = wide (hex_digits 16 n) e
no_float word small wide vector (operand.V128 n) fits e = vector (hex_digits 32 n) e
no_float word small wide vector x fits e = absurd fits

none_operand : (word : List ℕ) → ((rest : List ℕ) → word ≡ 114 ∷ rest → ⊥) → ((rest : List ℕ) → word ≡ codes "i32:" ++ rest → ⊥) → ((rest : List ℕ) → word ≡ codes "i64:" ++ rest → ⊥)
    → (word ≡ codes "any:null" → ⊥) → (word ≡ codes "extern:null" → ⊥) → (word ≡ codes "exn:null" → ⊥) → ((x : Operand) → FitsFloat x → word ≡ operand_text x → ⊥)
    → (x : Operand) → FitsOperand x → word ≡ operand_text x → ⊥
none_operand word register small wide any outer exn none (operand.I32 n) fits e = small (signed_decimal n) e
none_operand word register small wide any outer exn none (operand.I64 n) fits e = wide (signed_decimal n) e
none_operand word register small wide any outer exn none (operand.F32 n) fits e = none (operand.F32 n) fits e
none_operand word register small wide any outer exn none (operand.F64 n) fits e = none (operand.F64 n) fits e
none_operand word register small wide any outer exn none (operand.V128 n) fits e = none (operand.V128 n) fits e
none_operand word register small wide any outer exn none operand.AnyNull fits e = any e
none_operand word register small wide any outer exn none operand.ExternNull fits e = outer e
none_operand word register small wide any outer exn none operand.ExnNull fits e = exn e
none_operand word register small wide any outer exn none (operand.Register r) fits e = register (decimal r) e

-- a word that begins like no other operand spells a floating-point number or nothing
pub operand_read : (word : List ℕ) (r : Option Operand) → ((rest : List ℕ) → word ≡ 114 ∷ rest → ⊥) → ((rest : List ℕ) → word ≡ codes "i32:" ++ rest → ⊥)
    → ((rest : List ℕ) → word ≡ codes "i64:" ++ rest → ⊥) → (word ≡ codes "any:null" → ⊥) → (word ≡ codes "extern:null" → ⊥) → (word ≡ codes "exn:null" → ⊥)
    → Reads FitsFloat operand_text word r → Reads FitsOperand operand_text word r
operand_read word None register small wide any outer exn read = none_operand word register small wide any outer exn read
operand_read word (Some (operand.F32 n)) register small wide any outer exn read = read
operand_read word (Some (operand.F64 n)) register small wide any outer exn read = read
operand_read word (Some (operand.V128 n)) register small wide any outer exn read = read
operand_read word (Some x) register small wide any outer exn read = absurd read.0
