-- Hexadecimal digits read back: each number of a width has one text, and which texts are none.
use Rattle.std.proofs.Common.{◌≡◌, ℕ, zero, suc, ◌+◌, ◌-◌, ◌*◌, ◌/◌, ◌%◌, ◌^◌, ◌<◌, ◌≤◌, Bool, true, false, cond, nat_lt, List, [], ◌∷◌, ◌++◌, codes, length, length-append, length-drop, get_or, slice_index_or, take, drop, Option, None, Some, refl, sym, ap, subst, ◌∙◌, ◌⊎◌, inl, inr, ⊎_elim, arith}
use Rattle.std.specs.List.{AllByRecursion, flat_map}
use Rattle.std.proofs.lemmas.Bool.{ltb-true, ltb-false}
use Rattle.std.proofs.Math.Nat.{pow-le-pow_right}
use Rattle.std.proofs.lemmas.List.{append-nil, take_all, take_more, take_rest}
use Rattle.std.proofs.lemmas.Nat.{pow-add}
use Rattle.gc_commands.specs.Reading.{Reads}
use Rattle.gc_commands.specs.Words.{byte_text, bytes_text, hex_digit, hex_digits}

hex_by : (d : ℕ) (small : Bool) → nat_lt d 10 ≡ small → ((d < 10) × (cond small (48 + d) (87 + d) ≡ 48 + d)) ⊎ ((10 ≤ d) × (cond small (48 + d) (87 + d) ≡ 87 + d))
hex_by d true e = inl (ltb-true d 10 e, refl)
hex_by d false e = inr (ltb-false d 10 e, refl)

-- the two kinds of digits
pub hex_cases : (d : ℕ) → ((d < 10) × (hex_digit d ≡ 48 + d)) ⊎ ((10 ≤ d) × (hex_digit d ≡ 87 + d))
hex_cases d = hex_by d (nat_lt d 10) refl

pub one_digit : (d e : ℕ) → d < 16 → e < 16 → hex_digit d ≡ hex_digit e → d ≡ e
one_digit d e d_low e_low same =
    ⊎_elim (λ a. ⊎_elim (λ b. let x = a.1 in let y = b.1 in omega arith) (λ b. let x = a.1 in let y = b.1 in let z = b.0 in let w = a.0 in omega arith) (hex_cases e))
    (λ a. ⊎_elim (λ b. let x = a.1 in let y = b.1 in let z = b.0 in let w = a.0 in omega arith) (λ b. let x = a.1 in let y = b.1 in omega arith) (hex_cases e))
    (hex_cases d)

-- a digit is a letter of a word
pub digit_graphic : (d : ℕ) → d < 16 → (47 < hex_digit d) × (hex_digit d < 128)
digit_graphic d low =
    ⊎_elim (λ a. let x = a.1 in let y = a.0 in (omega arith, omega arith)) (λ a. let x = a.1 in let y = a.0 in (omega arith, omega arith)) (hex_cases d)

-- a byte that is a digit
abbrev pub IsHex : ℕ → Type 0
IsHex b = (d : ℕ) × (d < 16) × (b ≡ hex_digit d)

hex_append : (P : ℕ → Type 0) (front back : List ℕ) → AllByRecursion P front → AllByRecursion P back → AllByRecursion P (front ++ back)
hex_append P [] back fs bs = bs
hex_append P (b ∷ front) back fs bs = (fs.0, hex_append P front back fs.1 bs)

pub all_hex : (k n : ℕ) → AllByRecursion IsHex (hex_digits k n)
all_hex zero n = tt
all_hex (suc k) n = hex_append IsHex (hex_digits k (n / 16)) (hex_digit (n % 16) ∷ []) (all_hex k (n / 16)) ((n % 16, omega arith, refl), tt)

pub length_hex : (k n : ℕ) → length (hex_digits k n) ≡ k
length_hex zero n = refl
length_hex (suc k) n = length-append (hex_digits k (n / 16)) (hex_digit (n % 16) ∷ []) ∙ ap (λ l. l + 1) (length_hex k (n / 16)) ∙ omega arith

all_at : (P : ℕ → Type 0) (xs : List ℕ) (i : ℕ) → AllByRecursion P xs → i < length xs → P (get_or xs i 0)
all_at P [] i all within = absurd (omega arith)
all_at P (x ∷ xs) zero all within = all.0
all_at P (x ∷ xs) (suc i) all within = all_at P xs i all.1 (omega arith)

-- a text with a byte that is no digit spells no number
pub no_hex : (text : List ℕ) (i k : ℕ) → i < length text → ((d : ℕ) → d < 16 → get_or text i 0 ≡ hex_digit d → ⊥) → (n : ℕ) → text ≡ hex_digits k n → ⊥
no_hex text i k within none n e =
    let found : IsHex (get_or text i 0) = all_at IsHex text i (subst (AllByRecursion IsHex) (sym e) (all_hex k n)) within in
    none found.0 found.1 found.2

-- the value of digits
abbrev digit_back : ℕ → ℕ
digit_back b = cond (nat_lt b 58) (b - 48) (b - 87)

abbrev value_back : ℕ → List ℕ → ℕ
value_back n [] = n
value_back n (b ∷ bs) = value_back (n * 16 + digit_back b) bs

back_by : (b : ℕ) (small : Bool) → nat_lt b 58 ≡ small → (d : ℕ) → d < 16 → ((d < 10) × (b ≡ 48 + d)) ⊎ ((10 ≤ d) × (b ≡ 87 + d)) → cond small (b - 48) (b - 87) ≡ d
back_by b true e d low cases = let below = ltb-true b 58 e in ⊎_elim (λ a. let x = a.1 in omega arith) (λ a. let x = a.1 in let y = a.0 in omega arith) cases
back_by b false e d low cases = let above = ltb-false b 58 e in ⊎_elim (λ a. let x = a.1 in let y = a.0 in omega arith) (λ a. let x = a.1 in omega arith) cases

digit_again : (d : ℕ) → d < 16 → digit_back (hex_digit d) ≡ d
digit_again d low = back_by (hex_digit d) (nat_lt (hex_digit d) 58) refl d low (hex_cases d)

value_more : (bs : List ℕ) (n b : ℕ) → value_back n (bs ++ b ∷ []) ≡ value_back n bs * 16 + digit_back b
value_more [] n b = refl
value_more (c ∷ bs) n b = value_more bs (n * 16 + digit_back c) b

shrink : (k n : ℕ) → n < 16 ^ (suc k) → n / 16 < 16 ^ k
shrink k n small = let power : 16 ^ (k + 1) ≡ 16 ^ k * 16 ^ 1 = pow-add 16 k 1 in let same : 16 ^ (suc k) ≡ 16 ^ (k + 1) = ap (λ m. 16 ^ m) (omega arith) in omega arith

value_again : (k n : ℕ) → n < 16 ^ k → value_back 0 (hex_digits k n) ≡ n
value_again zero n small = omega arith
value_again (suc k) n small =
    value_more (hex_digits k (n / 16)) 0 (hex_digit (n % 16)) ∙ ap (λ v. v * 16 + digit_back (hex_digit (n % 16))) (value_again k (n / 16) (shrink k n small))
    ∙ ap (λ d. n / 16 * 16 + d) (digit_again (n % 16) (omega arith)) ∙ omega arith

pub one_hex : (k m n : ℕ) → m < 16 ^ k → n < 16 ^ k → hex_digits k m ≡ hex_digits k n → m ≡ n
one_hex k m n m_small n_small e = sym (value_again k m m_small) ∙ ap (value_back 0) e ∙ value_again k n n_small

-- one digit more
pub hex_step : (k m d : ℕ) → d < 16 → hex_digits (suc k) (m * 16 + d) ≡ hex_digits k m ++ hex_digit d ∷ []
hex_step k m d low = ap (λ q. hex_digits k q ++ hex_digit ((m * 16 + d) % 16) ∷ []) (omega arith) ∙ ap (λ r. hex_digits k m ++ hex_digit r ∷ []) (omega arith)

pub small_step : (k m d : ℕ) → m < 16 ^ k → d < 16 → m * 16 + d < 16 ^ (k + 1)
small_step k m d small low = let power : 16 ^ (k + 1) ≡ 16 ^ k * 16 ^ 1 = pow-add 16 k 1 in omega arith

-- a byte has one text
pub one_byte : (b c : ℕ) → b < 2 ^ 8 → c < 2 ^ 8 → hex_digit (b / 16) ≡ hex_digit (c / 16) → hex_digit (b % 16) ≡ hex_digit (c % 16) → b ≡ c
one_byte b c b_small c_small high low =
    let highs = one_digit (b / 16) (c / 16) (omega arith) (omega arith) high in
    let lows = one_digit (b % 16) (c % 16) (omega arith) (omega arith) low in
    omega arith

abbrev pub AreBytes : List ℕ → Type 0
AreBytes bs = AllByRecursion (λ b. b < 2 ^ 8) bs

one_pairs : (bs cs : List ℕ) → AreBytes bs → AreBytes cs → flat_map byte_text bs ≡ flat_map byte_text cs → bs ≡ cs
one_pairs [] [] bs_small cs_small e = refl
one_pairs [] (c ∷ cs) bs_small cs_small e = absurd (let l = ap length e in omega arith)
one_pairs (b ∷ bs) [] bs_small cs_small e = absurd (let l = ap length e in omega arith)
one_pairs (b ∷ bs) (c ∷ cs) bs_small cs_small e =
    let heads = one_byte b c bs_small.0 cs_small.0 (ap (λ t. get_or t 0 0) e) (ap (λ t. get_or t 1 0) e) in
    let tails = one_pairs bs cs bs_small.1 cs_small.1 (ap (drop 2) e) in
    ap (λ x. x ∷ bs) heads ∙ ap (λ xs. c ∷ xs) tails

pub one_bytes : (bs cs : List ℕ) → AreBytes bs → AreBytes cs → bytes_text bs ≡ bytes_text cs → bs ≡ cs
one_bytes [] [] bs_small cs_small e = refl
one_bytes [] (c ∷ cs) bs_small cs_small e = absurd (let l = ap length e in omega arith)
one_bytes (b ∷ bs) [] bs_small cs_small e = absurd (let l = ap length e in omega arith)
one_bytes (b ∷ bs) (c ∷ cs) bs_small cs_small e = one_pairs (b ∷ bs) (c ∷ cs) bs_small cs_small e

-- one byte more of a text of pairs
pub pairs_more : (bs : List ℕ) (b : ℕ) (rest : List ℕ) → flat_map byte_text (bs ++ b ∷ []) ++ rest ≡ flat_map byte_text bs ++ (byte_text b ++ rest)
pairs_more [] b rest = refl
pairs_more (c ∷ bs) b rest = ap (λ t. byte_text c ++ t) (pairs_more bs b rest)

-- where the next two digits are no byte, the whole is no pairs
pub no_pairs : (bs : List ℕ) (high low : ℕ) (rest : List ℕ) → ((b : ℕ) → b < 2 ^ 8 → high ∷ low ∷ [] ≡ byte_text b → ⊥) → (cs : List ℕ) → AreBytes cs
    → flat_map byte_text bs ++ high ∷ low ∷ rest ≡ flat_map byte_text cs → ⊥
no_pairs bs high low rest none [] small e = let l = ap length e in let more = length-append (flat_map byte_text bs) (high ∷ low ∷ rest) in omega arith
no_pairs [] high low rest none (c ∷ cs) small e =
    none c small.0 (ap (take 2) e)
no_pairs (b ∷ bs) high low rest none (c ∷ cs) small e = no_pairs bs high low rest none cs small.1 (ap (drop 2) e)

-- nor where one digit is left
pub no_half : (bs : List ℕ) (rest : List ℕ) → length rest ≡ 1 → (cs : List ℕ) → flat_map byte_text bs ++ rest ≡ flat_map byte_text cs → ⊥
no_half [] rest one [] e = let l = ap length e in omega arith
no_half [] rest one (c ∷ cs) e = let l = ap length e in omega arith
no_half (b ∷ bs) rest one [] e = let l = ap length e in omega arith
no_half (b ∷ bs) rest one (c ∷ cs) e = no_half bs rest one cs (ap (drop 2) e)

-- an empty word spells no bytes
pub no_empty : (bs : List ℕ) → [] ≡ bytes_text bs → ⊥
no_empty [] e = let l = ap length e in omega arith
no_empty (b ∷ bs) e = let l = ap length e in omega arith

none_bytes : (word : List ℕ) → (word ≡ codes "-" → ⊥) → ((bs : List ℕ) → AreBytes bs → word ≡ flat_map byte_text bs → ⊥) → (bs : List ℕ) → AreBytes bs → word ≡ bytes_text bs → ⊥
none_bytes word dash none [] small e = dash e
none_bytes word dash none (b ∷ bs) small e = none (b ∷ bs) small e

-- a word that is neither a dash nor empty spells bytes by its pairs
pub bytes_read : (word : List ℕ) (r : Option (List ℕ)) → (word ≡ codes "-" → ⊥) → (word ≡ [] → ⊥) → Reads AreBytes (flat_map byte_text) word r → Reads AreBytes bytes_text word r
bytes_read word None dash empty read = none_bytes word dash read
bytes_read word (Some []) dash empty read = absurd (empty read.1)
bytes_read word (Some (b ∷ bs)) dash empty read = read

-- a turn of reading a number
pub number_turn : (items : List ℕ) (i m d f : ℕ) → i < length items → m < 16 ^ i → take i items ≡ hex_digits i m → d < 16 → get_or items i 0 ≡ hex_digit d → f ≡ d
    → (m * 16 + f < 16 ^ (i + 1)) × (take (i + 1) items ≡ hex_digits (i + 1) (m * 16 + f))
number_turn items i m d f within small read low digit same =
    let more : take (i + 1) items ≡ hex_digits i m ++ hex_digit d ∷ [] = take_more items i 0 within ∙ ap (λ t. t ++ get_or items i 0 ∷ []) read ∙ ap (λ b. hex_digits i m ++ b ∷ []) digit in
    let next : suc i ≡ i + 1 = omega arith in
    let step : hex_digits i m ++ hex_digit d ∷ [] ≡ hex_digits (i + 1) (m * 16 + d) = sym (hex_step i m d low) ∙ ap (λ k. hex_digits k (m * 16 + d)) next in
    (subst (λ x. m * 16 + x < 16 ^ (i + 1)) (sym same) (small_step i m d small low), more ∙ step ∙ ap (λ x. hex_digits (i + 1) (m * 16 + x)) (sym same))

-- the end of it
pub number_done : (word : List ℕ) (digits i m : ℕ) → length word ≡ digits → length word ≤ i → i ≤ length word → m < 16 ^ i → take i word ≡ hex_digits i m
    → (m < 16 ^ digits) × (word ≡ hex_digits digits m)
number_done word digits i m long end within small read =
    let count : i ≡ digits = omega arith in
    (subst (λ k. m < 16 ^ k) count small, sym (take_all i word end) ∙ read ∙ ap (λ k. hex_digits k m) count)

-- 32 digits fit 128 bits
pub number_fits : (word : List ℕ) (digits i m f d : ℕ) → length word ≡ digits → digits ≤ 32 → i < length word → m < 16 ^ i → d < 16 → f ≡ d → (m * 16 < 2 ^ 128) × (m * 16 + f < 2 ^ 128)
number_fits word digits i m f d long few within small low is =
    let step = small_step i m d small low in
    let bound : 16 ^ (i + 1) ≤ 16 ^ 32 = pow-le-pow_right {n = 16} (omega arith) {i = i + 1} {j = 32} (omega arith) in
    (omega arith, omega arith)

split_two : (rest : List ℕ) → 2 ≤ length rest → rest ≡ slice_index_or rest 0 0 ∷ slice_index_or rest 1 0 ∷ drop 2 rest
split_two [] long = absurd (omega arith)
split_two (x ∷ []) long = absurd (omega arith)
split_two (x ∷ y ∷ rest) long = refl

-- a turn of reading pairs
pub pairs_turn : (digits bytes new rest : List ℕ) (byte : ℕ) → 2 ≤ length rest → new ≡ bytes ++ byte ∷ [] → byte < 2 ^ 8 → slice_index_or rest 0 0 ∷ slice_index_or rest 1 0 ∷ [] ≡ byte_text byte → AreBytes bytes
    → digits ≡ flat_map byte_text bytes ++ rest → AreBytes new × (digits ≡ flat_map byte_text new ++ take (length rest - 2) (drop 2 rest))
pairs_turn digits bytes new rest byte long pushed small text fit read =
    let next : slice_index_or rest 0 0 ∷ slice_index_or rest 1 0 ∷ drop 2 rest ≡ byte_text byte ++ drop 2 rest = ap (λ t. t ++ drop 2 rest) text in (
      subst AreBytes (sym pushed) (hex_append (λ b. b < 2 ^ 8) bytes (byte ∷ []) fit (small, tt)),
      read ∙ ap (λ r. flat_map byte_text bytes ++ r) (split_two rest long ∙ next) ∙ sym (pairs_more bytes byte (drop 2 rest)) ∙ ap (λ bs. flat_map byte_text bs ++ drop 2 rest) (sym pushed)
          ∙ ap (λ r. flat_map byte_text new ++ r) (sym (take_rest rest 2)),
    )

pub pairs_smaller : (rest : List ℕ) → 2 ≤ length rest → length (take (length rest - 2) (drop 2 rest)) < length rest
pairs_smaller rest long = let same = ap length (take_rest rest 2) ∙ length-drop 2 rest in omega arith

pub pairs_bad : (digits bytes rest : List ℕ) → 2 ≤ length rest → ((b : ℕ) → b < 2 ^ 8 → slice_index_or rest 0 0 ∷ slice_index_or rest 1 0 ∷ [] ≡ byte_text b → ⊥) → digits ≡ flat_map byte_text bytes ++ rest
    → (bs : List ℕ) → AreBytes bs → digits ≡ flat_map byte_text bs → ⊥
pairs_bad digits bytes rest long none read bs fit e =
    no_pairs bytes (slice_index_or rest 0 0) (slice_index_or rest 1 0) (drop 2 rest) none bs fit (ap (λ r. flat_map byte_text bytes ++ r) (sym (split_two rest long)) ∙ sym read ∙ e)

pub pairs_done : (digits bytes rest : List ℕ) → length rest ≡ 0 → digits ≡ flat_map byte_text bytes ++ rest → digits ≡ flat_map byte_text bytes
pairs_done digits bytes [] none read = read ∙ append-nil (flat_map byte_text bytes)
pairs_done digits bytes (b ∷ rest) none read = absurd (omega arith)

pub pairs_half : (digits bytes rest : List ℕ) → length rest < 2 → ¬ (length rest ≡ 0) → digits ≡ flat_map byte_text bytes ++ rest → (bs : List ℕ) → AreBytes bs → digits ≡ flat_map byte_text bs → ⊥
pairs_half digits bytes rest short some read bs fit e = no_half bytes rest (omega arith) bs (sym read ∙ e)
