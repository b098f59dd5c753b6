-- The parts that the words behind a command's first word spell, where several forms share them.
use Rattle.std.specs.Prelude.{◌≡◌, ◌≢◌, ℕ, ◌<◌, ◌^◌, Bool, true, false, List, [], ◌∷◌, ◌++◌}
use Rattle.std.specs.Prelude.{Option, None, Some, IfSome, map, slice_index}
use Rattle.std.specs.List.{AllByRecursion}
use Rattle.std.specs.Fmt.{decimal}
use Rattle.gc_commands.specs.declared.command.Operand.{Operand}
use Rattle.gc_commands.specs.Spelling.{FitsOperand, declared_words, into_words, supertype_words, type_count}
use Rattle.gc_commands.specs.Words.{operand_text}

-- two registers
abbrev pub FitRegisters : ℕ × ℕ → Type 0
FitRegisters p = (p.0 < 2 ^ 16) × (p.1 < 2 ^ 16)

-- a register and a number of 32 bits
abbrev pub FitRegisterAndNumber : ℕ × ℕ → Type 0
FitRegisterAndNumber p = (p.0 < 2 ^ 16) × (p.1 < 2 ^ 32)

-- a register and a number of 64 bits
abbrev pub FitRegisterAndWide : ℕ × ℕ → Type 0
FitRegisterAndWide p = (p.0 < 2 ^ 16) × (p.1 < 2 ^ 64)

-- two numbers are all words
abbrev pub pair_words : ℕ × ℕ → List (List ℕ)
pair_words p = decimal p.0 ∷ decimal p.1 ∷ []

-- a number is the only word
abbrev pub number_words : ℕ → List (List ℕ)
number_words n = decimal n ∷ []

-- a register, an index, and where the value goes
abbrev pub FitPlace : ℕ × ℕ × Option ℕ → Type 0
FitPlace p = (p.0 < 2 ^ 16) × (p.1 < 2 ^ 32) × IfSome p.2 (λ d. d < 2 ^ 16)

abbrev pub place_words : ℕ × ℕ × Option ℕ → List (List ℕ)
place_words p = decimal p.0 ∷ decimal p.1 ∷ into_words p.2

-- a register, an index, and the value that is written
abbrev pub FitWrite : ℕ × ℕ × Operand → Type 0
FitWrite p = (p.0 < 2 ^ 16) × (p.1 < 2 ^ 32) × FitsOperand p.2

abbrev pub write_words : ℕ × ℕ × Operand → List (List ℕ)
write_words p = decimal p.0 ∷ decimal p.1 ∷ operand_text p.2 ∷ []

-- a register and a type at the front
abbrev pub FitTarget : ℕ × ℕ → Type 0
FitTarget p = (p.0 < 2 ^ 16) × (p.1 < type_count)

-- what the reader of a target answers, and the words behind it
abbrev pub ReadsTarget : List (List ℕ) → Option (ℕ × ℕ) → List (List ℕ) → Type 0
ReadsTarget words None rest = (p : ℕ × ℕ) (others : List (List ℕ)) → FitTarget p → ¬ (words ≡ decimal p.0 ∷ decimal p.1 ∷ others)
ReadsTarget words (Some p) rest = FitTarget p × (words ≡ decimal p.0 ∷ decimal p.1 ∷ rest)

-- Whether all words spell operands: then those are in the list.
abbrev pub ReadsOperands : List (List ℕ) → Bool → List Operand → Type 0
ReadsOperands words true list = AllByRecursion FitsOperand list × (words ≡ map operand_text list)
ReadsOperands words false list = (vs : List Operand) → AllByRecursion FitsOperand vs → ¬ (words ≡ map operand_text vs)

-- the first letter of the first word
abbrev pub first_letter : List (List ℕ) → ℕ
first_letter [] = 0
first_letter (word ∷ words) = slice_index word 0

-- the supertype is the one that the words begin with, where what is behind it begins with no `s`
abbrev pub ReadsSupertype : List (List ℕ) → Option (Option ℕ) → List (List ℕ) → Type 0
ReadsSupertype words None rest =
    (t : Option ℕ) (others : List (List ℕ)) → IfSome t (λ n. n < type_count) → first_letter others ≢ 115 → ¬ (words ≡ supertype_words t ++ others)
ReadsSupertype words (Some s) rest =
    IfSome s (λ n. n < type_count) × (words ≡ supertype_words s ++ rest)
    × ((t : Option ℕ) (others : List (List ℕ)) → IfSome t (λ n. n < type_count) → first_letter others ≢ 115 → words ≡ supertype_words t ++ others → (s ≡ t) × (rest ≡ others))

-- what is behind the front of a declaration begins with neither an `f` nor an `s`
abbrev pub IsBehind : List (List ℕ) → Type 0
IsBehind words = (first_letter words ≢ 102) × (first_letter words ≢ 115)

-- the words have just this front, and what is behind it
pub record HasFront (words : List (List ℕ)) (front : Bool × Option ℕ) (rest : List (List ℕ)) : Type 0 where
  pub fits : IfSome front.1 (λ t. t < type_count)
  pub read : words ≡ declared_words front.0 front.1 rest
  pub only : (f : Bool) (t : Option ℕ) (others : List (List ℕ)) → IfSome t (λ n. n < type_count) → IsBehind others → words ≡ declared_words f t others
      → (front.0 ≡ f) × (front.1 ≡ t) × (rest ≡ others)

-- the front that the words have, or none
abbrev pub ReadsFront : List (List ℕ) → Option (Bool × Option ℕ) → List (List ℕ) → Type 0
ReadsFront words None rest =
    (f : Bool) (t : Option ℕ) (others : List (List ℕ)) → IfSome t (λ n. n < type_count) → IsBehind others → ¬ (words ≡ declared_words f t others)
ReadsFront words (Some front) rest = HasFront words front rest
