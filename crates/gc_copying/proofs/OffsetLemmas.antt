-- The offsets that are left to scan, of each form.
use Rattle.std.proofs.Common.{◌≡◌, ℕ, zero, suc, ◌+◌, ◌*◌, ◌/◌, ◌%◌, ◌<◌, ◌≤◌, ◌^◌, List, [], ◌∷◌, length, drop, get_or, refl, sym, ap, subst, ◌∙◌, arith}
use Rattle.std.specs.Int.{bit_at, trailing_zeros, w32}
use Rattle.std.proofs.lemmas.Nat.Bits.{bit_at_lowest, bit_at-suc, bit_at-zero, bit_at-trailing_zeros}
use Rattle.std.proofs.Math.Nat.{div-one, div-div-eq-div-mul, pow-succ'}
use Rattle.gc_heap.specs.References.{bit_offsets, word_offsets}
use Rattle.std.proofs.Math.Seq.{drop-cons, drop-length}
use Rattle.gc_heap.proofs.SpacedLemmas.{no_bits, bit_set, bit_clear}
use Rattle.gc_copying.specs.declared.space.Space.{Space}
use Rattle.gc_copying.specs.CopySteps.{CanScanCopy}
use Rattle.gc_copying.specs.CopyWords.{bitmap_places}
use Rattle.gc_copying.proofs.ScanLemmas.{Going, going_as, going_start, going_can, field_inside}

-- a number has no more bits than these
abbrev pub HasBits : ℕ → ℕ → Type 0
HasBits zero bits = bits ≡ 0
HasBits (suc n) bits = HasBits n (bits / 2)

-- a bitmap has 23 bits
pub bitmap_bits : (bits : ℕ) → bits < 8388608 → HasBits 23 bits
bitmap_bits bits h = omega arith

-- The bits that are left, and how many there may be.
pub record BitsLeft (old now : Space) (q : ℕ) (all : List ℕ) (rest offset counted count : ℕ) : Type 0 where
  pub n : ℕ
  pub at : offset + 4 * n ≡ 104
  pub has : HasBits n rest
  pub going : Going old now q all (bit_offsets offset n rest) counted count

pub bits_start : (h : Space) (q bits count : ℕ) → bits < 8388608 → BitsLeft h h q (bitmap_places bits) bits 12 count count
unfolding bitmap_places
bits_start h q bits count small = record { n = 23; at = refl; has = bitmap_bits bits small; going = going_start h q (bit_offsets 12 23 bits) count }

-- Behind bits that are clear stands one that is set: what its offset is, and what is left behind it.
record SetBehind (n offset rest skipped : ℕ) : Type 0 where
  more : ℕ
  at : offset + 4 * skipped + 4 + 4 * more ≡ offset + 4 * n
  has : HasBits more (rest / 2 ^ skipped / 2)
  places : bit_offsets offset n rest ≡ (offset + 4 * skipped) ∷ bit_offsets (offset + 4 * skipped + 4) more (rest / 2 ^ skipped / 2)

no_bit_set : (rest i : ℕ) → rest ≡ 0 → bit_at rest i ≡ 1 → ⊥
no_bit_set rest i none set = let clear = bit_at-zero i in omega (arith, (sym (ap (λ (r : ℕ). bit_at r i) none) ∙ set), clear)

set_behind : (skipped n offset rest : ℕ) → HasBits n rest → ((i : ℕ) → i < skipped → bit_at rest i ≡ 0) → bit_at rest skipped ≡ 1 → SetBehind n offset rest skipped
set_behind skipped zero offset rest has clear set = absurd (no_bit_set rest skipped has set)
set_behind zero (suc n) offset rest has clear set =
    let whole : rest / 2 ^ 0 ≡ rest = div-one rest in
    let here : offset + 4 * 0 ≡ offset = omega arith in
    let odd : rest % 2 ≡ 1 = sym (bit_at_lowest rest) ∙ set in
    record {
      more = n;
      at = omega arith;
      has = subst (λ (r : ℕ). HasBits n (r / 2)) (sym whole) has;
      places = bit_set offset n rest odd ∙ sym (λ i. here i ∷ bit_offsets (here i + 4) n (whole i / 2));
    }
set_behind (suc skipped) (suc n) offset rest has clear set =
    let behind = set_behind skipped n (offset + 4) (rest / 2) has (λ i h. sym (bit_at-suc rest i) ∙ clear (suc i) (omega arith)) (sym (bit_at-suc rest skipped) ∙ set) in
    let even : rest % 2 ≡ 0 = sym (bit_at_lowest rest) ∙ clear 0 (omega arith) in
    let halved : rest / 2 / 2 ^ skipped ≡ rest / 2 ^ suc skipped = div-div-eq-div-mul rest 2 (2 ^ skipped) ∙ ap (λ (d : ℕ). rest / d) (sym (pow-succ' 2 skipped)) in
    let here : offset + 4 + 4 * skipped ≡ offset + 4 * suc skipped = omega arith in
    record {
      more = behind.more;
      at = omega (arith, behind.at);
      has = subst (λ (r : ℕ). HasBits behind.more (r / 2)) halved behind.has;
      places = bit_clear offset n rest even ∙ behind.places ∙ (λ i. here i ∷ bit_offsets (here i + 4) behind.more (halved i / 2));
    }

-- of some bits the first that is set
pub record FirstBit (old now : Space) (q : ℕ) (all : List ℕ) (rest offset skipped counted count : ℕ) : Type 0 where
  pub n : ℕ
  pub at : offset + 4 * skipped + 4 + 4 * n ≡ 104
  pub has : HasBits n (rest / 2 ^ skipped / 2)
  pub going : Going old now q all ((offset + 4 * skipped) ∷ bit_offsets (offset + 4 * skipped + 4) n (rest / 2 ^ skipped / 2)) counted count

pub first_bit : (old now : Space) (q : ℕ) (all : List ℕ) (rest offset counted count : ℕ) → BitsLeft old now q all rest offset counted count → (rest ≡ 0 → ⊥)
    → rest < 2 ^ 32 → FirstBit old now q all rest offset (trailing_zeros w32 rest) counted count
first_bit old now q all rest offset counted count left some small =
    let first = bit_at-trailing_zeros w32 rest (positive rest some) small in
    let behind = set_behind (trailing_zeros w32 rest) left.n offset rest left.has first.2 first.1 in
    record {
      n = behind.more;
      at = omega (arith, behind.at, left.at);
      has = behind.has;
      going = going_as old now q all _ _ counted count behind.places left.going;
    }
  where
    positive : (n : ℕ) → (n ≡ 0 → ⊥) → 0 < n
    positive n some = omega arith

-- no bit is left
pub last_bit : (old now : Space) (q : ℕ) (all : List ℕ) (rest offset counted count : ℕ) → BitsLeft old now q all rest offset counted count → rest ≡ 0
    → Going old now q all [] counted count
last_bit old now q all rest offset counted count left none =
    going_as old now q all (bit_offsets offset left.n rest) [] counted count (ap (λ (b : ℕ). bit_offsets offset left.n b) none ∙ no_bits offset left.n) left.going

-- The elements that are left.
pub record ElementsLeft (old now : Space) (q : ℕ) (all : List ℕ) (elements index counted count : ℕ) : Type 0 where
  pub n : ℕ
  pub rest : index + n ≡ elements
  pub going : Going old now q all (word_offsets (16 + 4 * index) n) counted count

pub record FirstElement (old now : Space) (q : ℕ) (all : List ℕ) (elements index counted count : ℕ) : Type 0 where
  pub n : ℕ
  pub rest : index + 1 + n ≡ elements
  pub going : Going old now q all ((16 + 4 * index) ∷ word_offsets (16 + 4 * (index + 1)) n) counted count

element_by : (n : ℕ) (old now : Space) (q : ℕ) (all : List ℕ) (elements index counted count : ℕ) → index + n ≡ elements
    → Going old now q all (word_offsets (16 + 4 * index) n) counted count → index < elements → FirstElement old now q all elements index counted count
element_by zero old now q all elements index counted count rest going some = absurd (omega arith)
element_by (suc n) old now q all elements index counted count rest going some =
    let e : 16 + 4 * index + 4 ≡ 16 + 4 * (index + 1) = omega arith in
    record { n = n; rest = omega arith; going = subst (λ (x : ℕ). Going old now q all ((16 + 4 * index) ∷ word_offsets x n) counted count) e going }

pub first_element : (old now : Space) (q : ℕ) (all : List ℕ) (elements index counted count : ℕ) → ElementsLeft old now q all elements index counted count → index < elements
    → FirstElement old now q all elements index counted count
first_element old now q all elements index counted count left some = element_by left.n old now q all elements index counted count left.rest left.going some

last_by : (n : ℕ) (old now : Space) (q : ℕ) (all : List ℕ) (elements index counted count : ℕ) → index + n ≡ elements
    → Going old now q all (word_offsets (16 + 4 * index) n) counted count → elements ≤ index → Going old now q all [] counted count
last_by zero old now q all elements index counted count rest going none = going
last_by (suc n) old now q all elements index counted count rest going none = absurd (omega arith)

pub last_element : (old now : Space) (q : ℕ) (all : List ℕ) (elements index counted count : ℕ) → ElementsLeft old now q all elements index counted count → elements ≤ index
    → Going old now q all [] counted count
last_element old now q all elements index counted count left none = last_by left.n old now q all elements index counted count left.rest left.going none

pub elements_start : (h : Space) (q elements count : ℕ) → ElementsLeft h h q (word_offsets 16 elements) elements 0 count count
elements_start h q elements count = record { n = elements; rest = omega arith; going = going_start h q (word_offsets 16 elements) count }

-- the last count
pub going_ticks : (old now : Space) (q : ℕ) (all : List ℕ) (counted count : ℕ) → Going old now q all [] counted count → count + old.objects ≡ counted + now.objects + length all
going_ticks old now q all counted count going = omega (arith, going.ticks)

-- the next offset fits
pub offset_fits : (old now : Space) (q : ℕ) (all left : List ℕ) (o counted count : ℕ) → Going old now q all (o ∷ left) counted count → CanScanCopy old q all → o < 2 ^ 32
offset_fits old now q all left o counted count going can =
    let at = going_can old now q all left o counted count going can in
    let inside = field_inside at.start at.place q at.from o at.left now at.scanning in
    omega (arith, inside.0, inside.1, inside.2)

-- of a list of offsets the next
pub next_offset : (xs : List ℕ) (i : ℕ) → i < length xs → drop i xs ≡ get_or xs i 0 ∷ drop (i + 1) xs
next_offset xs i h =
    let e : suc i ≡ i + 1 = omega arith in
    drop-cons xs i 0 h ∙ ap (λ (k : ℕ). get_or xs i 0 ∷ drop k xs) e

-- and none where all were scanned
pub no_offset : (xs : List ℕ) (i : ℕ) → length xs ≤ i → i ≤ length xs → drop i xs ≡ []
no_offset xs i h k =
    let e : i ≡ length xs = omega arith in
    ap (λ (j : ℕ). drop j xs) e ∙ drop-length xs
