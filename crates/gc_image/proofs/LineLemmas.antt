-- A line and its words: words that are joined by spaces are cut again.
use Rattle.std.proofs.Common.{◌≡◌, ◌==◌, ℕ, ◌<◌, List, [], ◌∷◌, ◌++◌, length, Option, None, Some, Result, Ok, Err, IfOk, refl, sym, ap, ◌∙◌, arith, false}
use Rattle.std.specs.List.{All, join_with_byte, slice_split}
use Rattle.std.proofs.lemmas.Bool.{ne_eqb}
use Rattle.std.proofs.lemmas.List.Elements.{All-nil, All-cons}
use Rattle.std.proofs.lemmas.List.Splits.{join_with_byte-slice_split}
use Rattle.gc_commands.specs.Reading.{Reads}
use Rattle.gc_commands.proofs.GraphicLemmas.{AreWords, IsWord}
use Rattle.gc_commands.proofs.LineLemmas.{cut_joined}

-- words hold no line feed
pub no_feed_word : (word : List ℕ) → IsWord word → All (λ b. (b == 10) ≡ false) word
no_feed_word [] all = All-nil (λ b. (b == 10) ≡ false)
no_feed_word (b ∷ word) all = All-cons (λ c. (c == 10) ≡ false) b word (ne_eqb b 10 (λ feed. let above = all.0.0 in omega arith)) (no_feed_word word all.1)

no_feed_append : (word rest : List ℕ) → IsWord word → All (λ b. (b == 10) ≡ false) rest → All (λ b. (b == 10) ≡ false) (word ++ rest)
no_feed_append [] rest all none = none
no_feed_append (b ∷ word) rest all none =
    All-cons (λ c. (c == 10) ≡ false) b (word ++ rest) (ne_eqb b 10 (λ feed. let above = all.0.0 in omega arith)) (no_feed_append word rest all.1 none)

pub no_feed_joined : (words : List (List ℕ)) → AreWords words → All (λ b. (b == 10) ≡ false) (join_with_byte 32 words)
no_feed_joined [] all = All-nil (λ b. (b == 10) ≡ false)
no_feed_joined (word ∷ []) all = no_feed_word word all.0
no_feed_joined (word ∷ next ∷ words) all =
    no_feed_append word (32 ∷ join_with_byte 32 (next ∷ words)) all.0 (All-cons (λ c. (c == 10) ≡ false) 32 (join_with_byte 32 (next ∷ words)) refl (no_feed_joined (next ∷ words) all.1))

-- what a line's words spell, its line spells
module _ {A : Type 0} (Fits : A → Type 0) (words : A → List (List ℕ)) (fit : (x : A) → Fits x → AreWords (words x)) (some : (x : A) → 0 < length (words x)) where
  abbrev joined : A → List ℕ
  joined x = join_with_byte 32 (words x)

  words_cut : (line : List ℕ) (x : A) → Fits x → line ≡ joined x → slice_split (λ b. b == 32) line ≡ words x
  words_cut line x fits e = ap (slice_split (λ b. b == 32)) e ∙ cut_joined (words x) (fit x fits) (some x)

  pub line_read : (line : List ℕ) (seen : List (List ℕ)) (r : Option A) → seen ≡ slice_split (λ b. b == 32) line → Reads Fits words seen r → Reads Fits joined line r
  line_read line seen None cut read = λ x fits e. read x fits (cut ∙ words_cut line x fits e)
  line_read line seen (Some x) cut read = (read.0, sym (join_with_byte-slice_split 32 line) ∙ ap (join_with_byte 32) (sym cut ∙ read.1))

  pub ok_line_read : {E : Type 0} (line : List ℕ) (seen : List (List ℕ)) (r : Result (Option A) E) → seen ≡ slice_split (λ b. b == 32) line
      → IfOk r (λ o. Reads Fits words seen o) → IfOk r (λ o. Reads Fits joined line o)
  ok_line_read line seen (Ok o) cut read = line_read line seen o cut read
  ok_line_read line seen (Err e) cut read = tt

  -- no two have one spelling, where no two have the same words
  pub one_line : ((x y : A) → Fits x → Fits y → words x ≡ words y → x ≡ y) → (x y : A) → Fits x → Fits y → joined x ≡ joined y → x ≡ y
  one_line one x y x_fits y_fits e =
      one x y x_fits y_fits (sym (cut_joined (words x) (fit x x_fits) (some x)) ∙ ap (slice_split (λ b. b == 32)) e ∙ cut_joined (words y) (fit y y_fits) (some y))
