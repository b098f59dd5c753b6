-- Values that are written lie where they were written, at every width.
use Rattle.std.proofs.Common.{◌≡◌, ℕ, zero, suc, ◌+◌, ◌-◌, ◌<◌, ◌≤◌, ◌^◌, ◌%◌, ◌⊎◌, inl, inr, List, length, take, drop, refl, sym, ap, ◌∙◌, subst, arith}
use Rattle.std.specs.Prelude.{slice_index}
use Rattle.std.specs.Int.{sum_through, byte_worth, byte_at, bytes_low_first}
use Rattle.std.proofs.Math.Nat.{mod-eq_of_lt}
use Rattle.gc_types.specs.declared.value.StorageType.{StorageType}
use Rattle.gc_types.specs.Layouts.{storage_width}
use Rattle.gc_refs.proofs.LittleEndianLemmas.{sum_of_bytes}
use Rattle.gc_model.specs.Values.{Value}
use Rattle.gc_model.specs.Forms.{Names, IsCode, LiesAs, number_at}
use Rattle.gc_model.proofs.PointParts.{IsEncodedAs}
use Rattle.gc_view.specs.Bytes.{put_bytes, SameBytes}
use Rattle.gc_view.proofs.ByteLemmas.{part_in_same, part-put_bytes, put_bytes-below, put_bytes-above}
use Rattle.gc_view.proofs.Layouts.{storage_width_positive}

-- two ranges have no place in common: one ends before the other begins
abbrev pub IsApart : ℕ → ℕ → ℕ → ℕ → Type 0
IsApart o n p m = (o + n ≤ p) ⊎ (p + m ≤ o)

-- bytes apart from a write
pub put_bytes-apart : (bytes : List ℕ) (p : ℕ) (ws : List ℕ) (o n : ℕ) → p + length ws ≤ length bytes → IsApart o n p (length ws) → SameBytes bytes (put_bytes bytes p ws) o (o + n)
put_bytes-apart bytes p ws o n within (inl before) = put_bytes-below bytes p ws o (o + n) within before
put_bytes-apart bytes p ws o n within (inr behind) = put_bytes-above bytes p ws o (o + n) within behind

-- the number that some bytes are, their lowest first
abbrev pub number_in : ℕ → List ℕ → ℕ
number_in width bytes = sum_through (λ i. byte_worth i (slice_index bytes i)) (width - 1)

-- a number that lies in equal bytes is the same
pub number_in_same : (width : ℕ) (a b : List ℕ) (p : ℕ) → SameBytes a b p (p + width) → number_at width b p ≡ number_at width a p
number_in_same width a b p same = ap (number_in width) (part_in_same a b p width same)

length-bytes : (i k n : ℕ) → length (bytes_low_first i k n) ≡ k
length-bytes i zero n = refl
length-bytes i (suc k) n = ap suc (length-bytes (suc i) k n)

-- a byte of a number
byte_of : (i k n j : ℕ) → j < k → slice_index (bytes_low_first i k n) j ≡ byte_at (i + j) n
byte_of i zero n j below = absurd (omega (arith, below))
byte_of i (suc k) n zero below = ap (λ m. byte_at m n) (let e : i ≡ i + 0 = omega arith in e)
byte_of i (suc k) n (suc j) below = byte_of (suc i) k n j (omega (arith, below)) ∙ ap (λ m. byte_at m n) (let e : suc i + j ≡ i + suc j = omega arith in e)

-- sums of equal numbers are equal
same_sums : (f g : ℕ → ℕ) (k : ℕ) → ((i : ℕ) → i ≤ k → f i ≡ g i) → sum_through f k ≡ sum_through g k
same_sums f g zero same = same 0 (omega arith)
same_sums f g (suc k) same =
    ap (λ n. n + f (suc k)) (same_sums f g k (λ i h. same i (omega (arith, h)))) ∙ ap (λ n. sum_through g k + n) (same (suc k) (omega arith))

-- the bytes of a number are the number
pub number_of_bytes : (width n : ℕ) → 0 < width → n < 256 ^ width → number_in width (bytes_low_first 0 width n) ≡ n
number_of_bytes width n positive small =
    let last : suc (width - 1) ≡ width = omega (arith, positive) in
    same_sums (λ i. byte_worth i (slice_index (bytes_low_first 0 width n) i)) (λ i. byte_worth i (byte_at i n)) (width - 1)
    (λ i h. ap (byte_worth i) (byte_of 0 width n i (omega (arith, h, positive)) ∙ ap (λ m. byte_at m n) (let e : 0 + i ≡ i = omega arith in e)))
    ∙ sum_of_bytes n (width - 1)
    ∙ ap (λ m. n % 256 ^ m) last
    ∙ mod-eq_of_lt small

-- a number whose bytes were written can be read
pub number_encoded : (width : ℕ) (bytes : List ℕ) (p n : ℕ) (ws : List ℕ) → 0 < width → n < 256 ^ width → ws ≡ bytes_low_first 0 width n → p + length ws ≤ length bytes
    → number_at width (put_bytes bytes p ws) p ≡ n
number_encoded width bytes p n ws positive small is within =
    let long : length ws ≡ width = ap length is ∙ length-bytes 0 width n in
    ap (number_in width) (ap (λ k. take k (drop p (put_bytes bytes p ws))) (sym long) ∙ part-put_bytes bytes p ws within ∙ is)
    ∙ number_of_bytes width n positive small

module _ (names : Names) (ty : StorageType) (v : Value) where
  -- a value's bytes are as many as its field has
  pub encoded_width : (ws : List ℕ) → IsEncodedAs names ty v ws → length ws ≡ storage_width ty
  encoded_width ws is = ap length is.encoded ∙ length-bytes 0 (storage_width ty) is.word

  -- a value whose bytes were written lies there
  pub encoded_lies : (bytes : List ℕ) (p : ℕ) (ws : List ℕ) → IsEncodedAs names ty v ws → p + length ws ≤ length bytes → LiesAs names ty v (put_bytes bytes p ws) p
  encoded_lies bytes p ws is within = record {
    form = is.form;
    code = subst (IsCode names v) (sym (number_encoded (storage_width ty) bytes p is.word ws (storage_width_positive ty) is.small is.encoded within)) is.code;
  }
