-- How bytes that come in pieces are cut into lines.
use Rattle.std.specs.Prelude.{◌≡◌, ℕ, ◌+◌, ◌==◌, ◌||◌, ◌⊎◌, nat_lt, Bool, true, false, List, [], ◌∷◌, ◌++◌, length, take, drop, map}
use Rattle.std.specs.List.{list_any}
use Rattle.gc_commands.specs.Spelling.{max_line}
use Rattle.gc_script.specs.Lines.{line_feed, lines}

-- what is kept of a line, and whether it has more bytes
pub record KeptLine : Type 0 where
  pub bytes : List ℕ
  pub is_long : Bool

-- the start of a line
abbrev pub no_line : KeptLine
no_line = record { bytes = []; is_long = false }

-- what is kept of a line as a whole
abbrev pub kept_of : List ℕ → KeptLine
kept_of line = record { bytes = take max_line line; is_long = nat_lt max_line (length line) }

-- what is kept once more bytes of the line came
abbrev pub longer : KeptLine → List ℕ → KeptLine
longer line bytes = record { bytes = take max_line (line.bytes ++ bytes); is_long = line.is_long || nat_lt max_line (length (line.bytes ++ bytes)) }

-- whether a line feed is among the bytes
abbrev pub has_feed : List ℕ → Bool
has_feed bytes = list_any (λ b. b == line_feed) bytes

-- the bytes are an unfinished line, of which that is kept
pub record IsUnfinished (line : KeptLine) (bytes : List ℕ) : Type 0 where
  pub plain : has_feed bytes ≡ false
  pub kept_is : line ≡ kept_of bytes

-- a piece begins with a line that a line feed ends there
pub record BeginsWhole (line piece : List ℕ) : Type 0 where
  pub cut : piece ≡ line ++ line_feed ∷ drop (length line + 1) piece
  pub plain : has_feed line ≡ false

-- The line goes on with all bytes up to the first line feed of the piece, and n bytes, that line feed among them, are
-- taken.
pub record EndsLine (old new : KeptLine) (piece : List ℕ) (n : ℕ) : Type 0 where
  pub bytes : List ℕ
  pub cut : piece ≡ bytes ++ line_feed ∷ drop n piece
  pub taken : n ≡ length bytes + 1
  pub plain : has_feed bytes ≡ false
  pub goes_on : new ≡ longer old bytes

-- the piece has no line feed, and the line goes on with all of it
pub record LineGoesOn (old new : KeptLine) (piece : List ℕ) (n : ℕ) : Type 0 where
  pub taken : n ≡ length piece
  pub plain : has_feed piece ≡ false
  pub goes_on : new ≡ longer old piece

-- what taking n bytes of a piece makes of the line, where it ended, and where it didn't
abbrev pub Feeds : KeptLine → KeptLine → List ℕ → ℕ → Bool → Type 0
Feeds old new piece n true = EndsLine old new piece n
Feeds old new piece n false = LineGoesOn old new piece n

-- Pieces were fed one after the other, each until all of it was taken, and the cutter was cleared behind each line that
-- ended: these lines ended, and that is kept at the end.
pub data FeedsAll : KeptLine → List (List ℕ) → List KeptLine → KeptLine → Type 0 where
  no_pieces : (line : KeptLine) → FeedsAll line [] [] line
  line_ended : {old mid last : KeptLine} {piece : List ℕ} {pieces : List (List ℕ)} {ended : List KeptLine} (n : ℕ) → Feeds old mid piece n true
      → FeedsAll no_line (drop n piece ∷ pieces) ended last → FeedsAll old (piece ∷ pieces) (mid ∷ ended) last
  line_goes_on : {old mid last : KeptLine} {piece : List ℕ} {pieces : List (List ℕ)} {ended : List KeptLine} (n : ℕ) → Feeds old mid piece n false
      → FeedsAll mid pieces ended last → FeedsAll old (piece ∷ pieces) ended last

-- bytes end with a line feed, or are none
abbrev pub EndsWhole : List ℕ → Type 0
EndsWhole bytes = (bytes ≡ []) ⊎ ((before : List ℕ) × (bytes ≡ before ++ line_feed ∷ []))

-- bytes are cut behind their last line feed
pub record IsCut (bytes whole rest : List ℕ) : Type 0 where
  pub parts : bytes ≡ whole ++ rest
  pub ends : EndsWhole whole
  pub plain : has_feed rest ≡ false

-- the last piece of an input, where it isn't empty
abbrev pub last_piece : List ℕ → List (List ℕ)
last_piece [] = []
last_piece (b ∷ bytes) = (b ∷ bytes) ∷ []

-- Of the bytes cut behind their last line feed, the lines that ended are those of the front, and what is kept at the
-- end is the unfinished one behind it, the last of the lines of all bytes.
pub record GivesLines (bytes : List ℕ) (ended : List KeptLine) (last : KeptLine) : Type 0 where
  pub whole : List ℕ
  pub rest : List ℕ
  pub cut : IsCut bytes whole rest
  pub ended_are : ended ≡ map kept_of (lines whole)
  pub last_is : last ≡ kept_of rest
  pub lines_are : lines bytes ≡ lines whole ++ last_piece rest
