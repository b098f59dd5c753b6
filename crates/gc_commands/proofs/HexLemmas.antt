-- Hexadecimal digits, written from the highest place down.
use Rattle.std.proofs.Common.{◌≡◌, ℕ, suc, ◌+◌, ◌-◌, ◌*◌, ◌/◌, ◌%◌, ◌^◌, ◌<◌, ◌≤◌, Bool, true, false, cond, nat_lt, List, [], ◌∷◌, ◌++◌, refl, sym, ap, subst, ◌∙◌, arith, append_assoc}
use Rattle.std.proofs.Math.Nat.{div-div-eq-div-mul}
use Rattle.std.proofs.lemmas.Bool.{ltb-true}
use Rattle.std.proofs.lemmas.Nat.{pow-add}
use Rattle.gc_commands.specs.Words.{hex_digit, hex_digits}

low_by : (d : ℕ) (small : Bool) → nat_lt d 10 ≡ small → d < 16 → cond small (48 + d) (87 + d) < 128
low_by d true e low = let ten = ltb-true d 10 e in omega arith
low_by d false e low = omega arith

-- a digit is ASCII
pub hex_low : (d : ℕ) → d < 16 → hex_digit d < 128
hex_low d low = low_by d (nat_lt d 10) refl low

-- the next place from above
next_place : (n place : ℕ) → n / 2 ^ (4 * place) / 16 ≡ n / 2 ^ (4 * (place + 1))
next_place n place =
    let power : 2 ^ (4 * place + 4) ≡ 2 ^ (4 * place) * 2 ^ 4 = pow-add 2 (4 * place) 4 in
    let same : 4 * (place + 1) ≡ 4 * place + 4 = omega arith in
    div-div-eq-div-mul n (2 ^ (4 * place)) 16 ∙ ap (λ m. n / m) (sym power) ∙ ap (λ m. n / 2 ^ m) (sym same)

-- one digit more
pub hex_more : (k n place : ℕ) → hex_digits (suc k) (n / 2 ^ (4 * place)) ≡ hex_digits k (n / 2 ^ (4 * (place + 1))) ++ hex_digit (n / 2 ^ (4 * place) % 16) ∷ []
hex_more k n place = ap (λ m. hex_digits k m ++ hex_digit (n / 2 ^ (4 * place) % 16) ∷ []) (next_place n place)

-- a turn of the loop
pub hex_turn : (old written new encoded : List ℕ) (digits place n digit : ℕ) → 0 < place → place ≤ digits → digit ≡ hex_digit (n / 2 ^ (4 * (place - 1)) % 16)
    → new ≡ written ++ encoded → (digit < 128 → encoded ≡ digit ∷ [])
    → written ≡ old ++ hex_digits (digits - place) (n / 2 ^ (4 * place)) → new ≡ old ++ hex_digits (digits - (place - 1)) (n / 2 ^ (4 * (place - 1)))
hex_turn old written new encoded digits place n digit some within is pushed ascii before =
    let low : digit < 128 = subst (λ d. d < 128) (sym is) (hex_low (n / 2 ^ (4 * (place - 1)) % 16) (omega arith)) in
    let glyph : encoded ≡ hex_digit (n / 2 ^ (4 * (place - 1)) % 16) ∷ [] = ascii low ∙ ap (λ d. d ∷ []) is in
    let count : digits - (place - 1) ≡ suc (digits - place) = omega arith in
    let next : place - 1 + 1 ≡ place = omega arith in
    let more = hex_more (digits - place) n (place - 1) in
    let moved : hex_digits (suc (digits - place)) (n / 2 ^ (4 * (place - 1))) ≡ hex_digits (digits - place) (n / 2 ^ (4 * place)) ++ hex_digit (n / 2 ^ (4 * (place - 1)) % 16) ∷ [] =
    subst (λ p. hex_digits (suc (digits - place)) (n / 2 ^ (4 * (place - 1))) ≡ hex_digits (digits - place) (n / 2 ^ (4 * p)) ++ hex_digit (n / 2 ^ (4 * (place - 1)) % 16) ∷ []) next more in
    pushed ∙ ap (λ w. w ++ encoded) before ∙ append_assoc old (hex_digits (digits - place) (n / 2 ^ (4 * place))) encoded
    ∙ ap (λ g. old ++ (hex_digits (digits - place) (n / 2 ^ (4 * place)) ++ g)) glyph ∙ ap (λ h. old ++ h) (sym moved) ∙ ap (λ k. old ++ hex_digits k (n / 2 ^ (4 * (place - 1)))) (sym count)
