-- The text of an image and its lines.
use Rattle.std.proofs.Common.{◌≡◌, ◌==◌, ℕ, List, [], ◌∷◌, ◌++◌, map, length, codes, append_assoc, Option, None, Some, Result, Ok, Err, IfOk, refl, sym, ap, subst, ◌∙◌, false}
use Rattle.std.specs.Fmt.{decimal}
use Rattle.std.specs.List.{All, AllByRecursion, flat_map, join_with_byte, slice_split}
use Rattle.std.proofs.lemmas.List.Splits.{join_with_byte-slice_split, slice_split_at}
use Rattle.gc_commands.specs.declared.command.Command.{Command}
use Rattle.gc_commands.specs.declared.form.Form.{Form}
use Rattle.gc_commands.specs.declared.form.Form.TheVariants as form
use Rattle.gc_commands.specs.Forms.{name_of}
use Rattle.gc_commands.specs.Reading.{Reads}
use Rattle.gc_commands.specs.Spelling.{FitsCommand, spelling, words_of}
use Rattle.gc_commands.proofs.FormLemmas.{has_form, words_by_form}
use Rattle.gc_commands.proofs.GraphicLemmas.{AreWords, IsWord, word_decimal, word_text}
use Rattle.gc_commands.proofs.ShapeLemmas.{operands_fit}
use Rattle.gc_image.specs.declared.image.GlobalLine.{GlobalLine}
use Rattle.gc_image.specs.declared.image.ObjectLine.{ObjectLine}
use Rattle.gc_image.specs.Parts.{ImageParts}
use Rattle.gc_image.specs.Reading.{ended_lines}
use Rattle.gc_image.specs.Text.{FitsGlobal, FitsImage, FitsObject, FitsImageType, count_text, ended_line, global_text, global_line_words, image_lines, image_text, object_text, object_words}
use Rattle.gc_image.proofs.LineLemmas.{no_feed_joined}
use Rattle.gc_image.proofs.ObjectLemmas.{global_fit, object_fit}
use Rattle.gc_image.proofs.SectionLemmas.{one_image}

-- a line without a line feed
abbrev IsLine : List ℕ → Type 0
IsLine line = All (λ b. (b == 10) ≡ false) line

word_name : (f : Form) → IsWord (name_of f)
word_name form.Struct = word_text (codes "struct") refl
word_name f = word_text (name_of f) refl

words_fit : (c : Command) → FitsCommand c → AreWords (words_of c)
words_fit c fits = let of = has_form c fits in subst AreWords (sym (words_by_form of.0 c of.1)) (word_name of.0, operands_fit of.0 c (fits, of.1))

line_type : (c : Command) → FitsImageType c → IsLine (spelling c)
line_type c fits = no_feed_joined (words_of c) (words_fit c fits.1.fits)

line_object : (x : ObjectLine) → FitsObject x → IsLine (object_text x)
line_object x fits = no_feed_joined (object_words x) (object_fit x fits)

line_global : (x : GlobalLine) → FitsGlobal x → IsLine (global_text x)
line_global x fits = no_feed_joined (global_line_words x) (global_fit x fits)

lines_map : {A : Type 0} (Fits : A → Type 0) (text : A → List ℕ) → ((x : A) → Fits x → IsLine (text x)) → (xs : List A) → AllByRecursion Fits xs → AllByRecursion IsLine (map text xs)
lines_map Fits text line [] fit = tt
lines_map Fits text line (x ∷ xs) fit = (line x fit.0, lines_map Fits text line xs fit.1)

lines_append : (front back : List (List ℕ)) → AllByRecursion IsLine front → AllByRecursion IsLine back → AllByRecursion IsLine (front ++ back)
lines_append [] back fs bs = bs
lines_append (line ∷ front) back fs bs = (fs.0, lines_append front back fs.1 bs)

are_lines : (x : ImageParts) → FitsImage x → AllByRecursion IsLine (image_lines x)
are_lines x fits = (
  no_feed_joined (codes "image" ∷ codes "1" ∷ []) (word_text (codes "image") refl, (word_text (codes "1") refl, tt)),
  lines_append (map spelling x.types) _ (lines_map FitsImageType spelling line_type x.types fits.types) (
    no_feed_joined (codes "objects" ∷ decimal (length x.objects) ∷ []) (word_text (codes "objects") refl, (word_decimal (length x.objects) fits.few, tt)),
    lines_append (map object_text x.objects) (map global_text x.globals) (lines_map FitsObject object_text line_object x.objects fits.objects) (lines_map FitsGlobal global_text line_global x.globals fits.globals),
  ),
)

-- lines with their line feeds are cut again, and an empty one is left behind the last
feed_cut : (lines : List (List ℕ)) → AllByRecursion IsLine lines → slice_split (λ b. b == 10) (flat_map ended_line lines) ≡ lines ++ [] ∷ []
feed_cut [] all = refl
feed_cut (line ∷ lines) all =
    ap (slice_split (λ b. b == 10)) (append_assoc line (10 ∷ []) (flat_map ended_line lines))
    ∙ slice_split_at (λ b. b == 10) line 10 (flat_map ended_line lines) all.0 refl ∙ ap (λ ls. line ∷ ls) (feed_cut lines all.1)

lines_ended : (x : ImageParts) → image_lines x ++ [] ∷ [] ≡ ended_lines x
lines_ended x =
    ap (λ ls. codes "image 1" ∷ ls)
    (append_assoc (map spelling x.types) (count_text (length x.objects) ∷ (map object_text x.objects ++ map global_text x.globals)) ([] ∷ [])
    ∙ ap (λ ls. map spelling x.types ++ count_text (length x.objects) ∷ ls) (append_assoc (map object_text x.objects) (map global_text x.globals) ([] ∷ [])))

-- the lines of an image's text
pub text_cut : (x : ImageParts) → FitsImage x → slice_split (λ b. b == 10) (image_text x) ≡ ended_lines x
text_cut x fits = feed_cut (image_lines x) (are_lines x fits) ∙ lines_ended x

-- what the lines spell, the bytes spell
pub text_read : {E : Type 0} (bytes : List ℕ) (lines : List (List ℕ)) (r : Result (Option ImageParts) E) → lines ≡ slice_split (λ b. b == 10) bytes → IfOk r (λ o. Reads FitsImage ended_lines lines o)
    → IfOk r (λ o. Reads FitsImage image_text bytes o)
text_read bytes lines (Ok None) cut read = λ x fits e. read x fits (cut ∙ ap (slice_split (λ b. b == 10)) e ∙ text_cut x fits)
text_read bytes lines (Ok (Some x)) cut read =
    (read.0, sym (join_with_byte-slice_split 10 bytes) ∙ ap (join_with_byte 10) (sym cut ∙ read.1 ∙ sym (text_cut x read.0)) ∙ join_with_byte-slice_split 10 (image_text x))
text_read bytes lines (Err e) cut read = tt

-- no two images have one text
pub one_text : (x y : ImageParts) → FitsImage x → FitsImage y → image_text x ≡ image_text y → x ≡ y
one_text x y x_fits y_fits e = one_image x y x_fits y_fits (sym (text_cut x x_fits) ∙ ap (slice_split (λ b. b == 10)) e ∙ text_cut y y_fits)
