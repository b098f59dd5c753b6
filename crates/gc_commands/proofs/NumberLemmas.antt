-- Plain decimals: which texts they are, and how they are read digit by digit.
use Rattle.std.proofs.Common.{◌≡◌, ℕ, ℤ, pos, negsuc, suc, ◌+◌, ◌*◌, ◌<◌, ◌≤◌, ◌^◌, List, [], ◌∷◌, length, take, get_or, Result, Ok, Err, FitsSigned, of_z, to_z, to_z-of_z, rules, sym, ap, subst, ◌∙◌, inl, inr, ⊎_elim, arith}
use Rattle.std.specs.Char.{IsNotAsciiDigit}
use Rattle.std.specs.Fmt.{decimal, signed_decimal}
use Rattle.std.specs.Int.{IsInRange, w32, w64}
use Rattle.std.specs.Result.{OkIff, result_ok}
use Rattle.std.specs.Str.Parse.{AllDigits, digits_value}
use Rattle.std.proofs.lemmas.Bool.{cases_lt}
use Rattle.std.proofs.lemmas.Fmt.{decimal_digit, decimal_injective, decimal_nonempty, decimal-digits_value, digits_decimal, digits_value-decimal, first_decimal, signed_decimal_injective}
use Rattle.std.proofs.lemmas.Int.Digits.{digits_more, digits_value_more}
use Rattle.std.proofs.lemmas.List.{take_all}
use Rattle.std.proofs.lemmas.Str.{digit_value_digit}
use Rattle.std.proofs.lemmas.Str.Parse.{IsNumeralModel, digit_at, digits_value-take-le, numerals_by_value, tells_digits}
use Rattle.gc_commands.specs.Reading.{IsPlain, Reads}

pub own : IsNumeralModel (AllDigits 10) (digits_value 10)
own = numerals_by_value (AllDigits 10) tells_digits

-- the first byte of a decimal is a digit
pub first_digit : (n : ℕ) → n < 2 ^ 64 → IsInRange 48 57 (get_or (decimal n) 0 0)
first_digit n small = digit_at (decimal n) 0 (digits_decimal own n small) (decimal_nonempty n small)

-- a decimal has no leading zero
pub plain-decimal : (n : ℕ) → n < 2 ^ 64 → IsPlain (decimal n)
plain-decimal n small = ⊎_elim
    (λ zero. inl (ap decimal (omega arith) ∙ decimal_digit 0 (omega arith)))
    (λ more. inr (let low : 48 < get_or (decimal n) 0 0 = first_decimal n (omega arith) small in let high = first_digit n small in (omega arith, high.1)))
    (cases_lt n 1)

no_first : (bs : List ℕ) → 49 ≤ get_or bs 0 0 → 0 < length bs
no_first [] low = absurd (omega arith)
no_first (b ∷ bs) low = omega arith

-- digits with no leading zero are those of their value
pub spelled_by : (bs : List ℕ) (n : ℕ) → IsPlain bs → AllDigits 10 bs → n ≡ digits_value 10 bs → n < 2 ^ 64 → bs ≡ decimal n
spelled_by bs n plain all is small =
    let lone : get_or bs 0 0 ≡ 48 → length bs ≡ 1 = λ first. ⊎_elim (λ zero. ap length zero) (λ range. absurd (omega arith)) plain in
    let some : 0 < length bs = ⊎_elim (λ zero. let one = ap length zero in omega arith) (λ range. no_first bs range.0) plain in
    sym (decimal-digits_value own bs all some lone (omega arith)) ∙ ap decimal (sym is)

pub spelled_all : (word : List ℕ) (i n : ℕ) → IsPlain word → length word ≤ i → AllDigits 10 (take i word) → n ≡ digits_value 10 (take i word) → n < 2 ^ 64 → word ≡ decimal n
spelled_all word i n plain past all is small =
    let whole : take i word ≡ word = take_all i word past in
    spelled_by word n plain (subst (AllDigits 10) whole all) (is ∙ ap (digits_value 10) whole) small

-- one more digit was read
pub number_turn : (bs : List ℕ) (i v next : ℕ) → i < length bs → AllDigits 10 (take i bs) → v ≡ digits_value 10 (take i bs) → IsInRange 48 57 (get_or bs i 0) → next + 48 ≡ v * 10 + get_or bs i 0
    → AllDigits 10 (take (i + 1) bs) × (next ≡ digits_value 10 (take (i + 1) bs))
number_turn bs i v next inside all is range sum =
    let value = digit_value_digit (get_or bs i 0) range in
    let high = range.1 in
    let more = digits_value_more 10 bs i inside in
    (digits_more 10 bs i inside all (omega arith), omega arith)

-- a text with what is no digit spells no number
pub no_digit : (bs : List ℕ) (i n : ℕ) → i < length bs → IsNotAsciiDigit (get_or bs i 0) → n < 2 ^ 64 → bs ≡ decimal n → ⊥
no_digit bs i n inside bad small e =
    let range = digit_at bs i (subst (AllDigits 10) (sym e) (digits_decimal own n small)) inside in
    let low = range.0 in
    let high = range.1 in
    omega arith

-- nor does one whose first digits are too great a number already
pub no_room : (bs : List ℕ) (i v d n : ℕ) → i < length bs → v ≡ digits_value 10 (take i bs) → IsInRange 48 57 (get_or bs i 0) → d + 48 ≤ get_or bs i 0 → 2 ^ 64 ≤ v * 10 + d → n < 2 ^ 64 → bs ≡ decimal n → ⊥
no_room bs i v d n inside is range digit over small e =
    let value = digit_value_digit (get_or bs i 0) range in
    let more = digits_value_more 10 bs i inside in
    let within = digits_value-take-le 10 bs (i + 1) (omega arith) in
    let all : digits_value 10 bs ≡ n = ap (digits_value 10) e ∙ digits_value-decimal own n small in
    omega arith

-- no decimal begins with a dash
pub no_dash : (n : ℕ) (rest : List ℕ) → n < 2 ^ 64 → decimal n ≡ 45 ∷ rest → ⊥
no_dash n rest small e = let first = first_digit n small in let dash : get_or (decimal n) 0 0 ≡ 45 = ap (λ t. get_or t 0 0) e in omega arith

-- where a word without a dash spells no number, it spells no signed one
pub no_signed : (word : List ℕ) → ((n : ℕ) → n ≤ 9223372036854775807 → word ≡ decimal n → ⊥) → ((rest : List ℕ) → word ≡ 45 ∷ rest → ⊥) → (z : ℤ) → FitsSigned w64 z → word ≡ signed_decimal z → ⊥
no_signed word none dash (pos n) fits e = none n (let small = fits.sfits in omega arith) e
no_signed word none dash (negsuc n) fits e = dash (decimal (suc n)) e

-- nor does one with a dash behind which no number stands
pub no_negative : (word digits : List ℕ) → word ≡ 45 ∷ digits → ((n : ℕ) → n ≤ 9223372036854775808 → digits ≡ decimal n → ⊥) → (z : ℤ) → FitsSigned w64 z → word ≡ signed_decimal z → ⊥
no_negative word digits dash none (pos n) fits e = no_dash n digits (let small = fits.sfits in omega arith) (sym e ∙ dash)
no_negative word digits dash none (negsuc n) fits e = none (suc n) (let small = fits.sfits in omega arith) (let same : 45 ∷ digits ≡ 45 ∷ decimal (suc n) = sym dash ∙ e in cc)

-- nor does a dash and 0
pub no_minus_zero : (word digits : List ℕ) → word ≡ 45 ∷ digits → digits ≡ decimal 0 → (z : ℤ) → FitsSigned w64 z → word ≡ signed_decimal z → ⊥
no_minus_zero word digits dash zero (pos n) fits e = no_dash n digits (let small = fits.sfits in omega arith) (sym e ∙ dash)
no_minus_zero word digits dash zero (negsuc n) fits e =
    let same : 45 ∷ digits ≡ 45 ∷ decimal (suc n) = sym dash ∙ e in
    let both : decimal 0 ≡ decimal (suc n) = cc in
    let small = fits.sfits in
    let equal = decimal_injective 0 (suc n) (omega arith) (omega arith) both in
    omega arith

pub same_value : (n : ℤ) → FitsSigned w64 n → to_z w64 (of_z w64 n) ≡ n
same_value n fits = search (rules, to_z-of_z)

-- a signed number of 64 bits as one of 32 bits, where it fits
pub small_read : (word : List ℕ) (n : ℤ) {E : Type 0} (r : Result ℤ E) → FitsSigned w64 n → word ≡ signed_decimal n → OkIff r (FitsSigned w32 n) n
    → Reads (FitsSigned w32) signed_decimal word (result_ok r)
small_read word n (Ok m) fits spelled read = (subst (FitsSigned w32) (sym read.1) read.0, spelled ∙ ap signed_decimal (sym read.1))
small_read word n (Err e) fits spelled none = λ z z_fits same.
    let n_small = fits.sfits in
    let z_small = z_fits.sfits in
    none (subst (FitsSigned w32) (signed_decimal_injective z n (omega arith) (omega arith) (sym same ∙ spelled)) z_fits)
