-- The sections of an image: where its types end, how many objects there are, and that its globals end the text.
use Rattle.std.proofs.Common.{◌≡◌, ◌≢◌, ℕ, ◌<◌, ◌^◌, Bool, true, false, IsTrue, ◌↔◌, List, [], ◌∷◌, ◌++◌, map, length, drop, get_or, codes, None, Some, refl, sym, ap, subst, ◌∙◌, arith}
use Rattle.std.specs.Bool.{MatchBool}
use Rattle.std.specs.Fmt.{decimal}
use Rattle.std.specs.List.{AllByRecursion, join_with_byte}
use Rattle.std.proofs.lemmas.Bool.{false≢true}
use Rattle.std.proofs.lemmas.Fmt.{decimal_injective}
use Rattle.std.proofs.lemmas.List.{append_cancel_left}
use Rattle.gc_commands.specs.declared.command.Command.{Command}
use Rattle.gc_commands.specs.declared.command.Command.TheVariants as command
use Rattle.gc_commands.specs.Spelling.{IsDeclaring, operands_of, spelling}
use Rattle.gc_commands.proofs.UniqueLemmas.{one_spelling_of_one}
use Rattle.gc_image.specs.declared.image.GlobalLine.{GlobalLine}
use Rattle.gc_image.specs.declared.image.ObjectLine.{ObjectLine}
use Rattle.gc_image.specs.Parts.{ImageParts}
use Rattle.gc_image.specs.Reading.{ReadsObjects, ReadsTypes, ended_globals, ended_lines}
use Rattle.gc_image.specs.Text.{FitsGlobal, FitsImage, FitsObject, FitsImageType, count_text, global_text, global_line_words, object_text, object_words}
use Rattle.gc_image.proofs.LineLemmas.{one_line}
use Rattle.gc_image.proofs.ObjectLemmas.{global_fit, global_some, object_fit, object_some, one_global, one_object}

-- the first line
pub head_told : (b : Bool) (lines rest : List (List ℕ)) (line : List ℕ) → lines ≡ line ∷ rest → (IsTrue b ↔ (line ≡ codes "image 1"))
    → MatchBool b (lines ≡ codes "image 1" ∷ rest) ((others : List (List ℕ)) → ¬ (lines ≡ codes "image 1" ∷ others))
head_told true lines rest line at told = at ∙ ap (λ l. l ∷ rest) (told.0 refl)
head_told false lines rest line at told = λ others e. false≢true (told.1 (ap (λ (ls : List (List ℕ)). get_or ls 0 []) (sym at ∙ e)))

joined_letter : (b : ℕ) (word : List ℕ) (words : List (List ℕ)) → get_or (join_with_byte 32 ((b ∷ word) ∷ words)) 0 0 ≡ b
joined_letter b word [] = refl
joined_letter b word (next ∷ words) = refl

-- no type begins with an `o`
type_letter : (c : Command) → IsDeclaring c → get_or (spelling c) 0 0 ≢ 111
type_letter (command.Struct f s fields) declares e = let is = joined_letter 115 (codes "truct") (operands_of (command.Struct f s fields)) in omega arith
type_letter (command.Array f s elem) declares e = let is = joined_letter 97 (codes "rray") (operands_of (command.Array f s elem)) in omega arith
type_letter (command.Exn params) declares e = let is = joined_letter 101 (codes "xn") (operands_of (command.Exn params)) in omega arith
type_letter c declares e = absurd declares

-- so the types end where the count stands
pub count_stops : (n : ℕ) (rest : List (List ℕ)) (type : Command) (others : List (List ℕ)) → FitsImageType type → count_text n ∷ rest ≡ spelling type ∷ others → ⊥
count_stops n rest type others fits e = type_letter type fits.0 (sym (ap (λ (ls : List (List ℕ)). get_or (get_or ls 0 []) 0 0) e))

-- no type begins these lines
abbrev pub NoType : List (List ℕ) → Type 0
NoType lines = (type : Command) (others : List (List ℕ)) → FitsImageType type → ¬ (lines ≡ spelling type ∷ others)

pub types_same : (types others : List Command) (new rest : List (List ℕ)) → AllByRecursion FitsImageType types → AllByRecursion FitsImageType others → NoType new → NoType rest
    → map spelling types ++ new ≡ map spelling others ++ rest → (types ≡ others) × (new ≡ rest)
types_same [] [] new rest fit other_fit stops ends e = (refl, e)
types_same [] (y ∷ others) new rest fit other_fit stops ends e = absurd (stops y (map spelling others ++ rest) other_fit.0 e)
types_same (x ∷ types) [] new rest fit other_fit stops ends e = absurd (ends x (map spelling types ++ new) fit.0 (sym e))
types_same (x ∷ types) (y ∷ others) new rest fit other_fit stops ends e =
    let head = one_spelling_of_one x y fit.0.1.fits other_fit.0.1.fits (ap (λ (ls : List (List ℕ)). get_or ls 0 []) e) in
    let tail = types_same types others new rest fit.1 other_fit.1 stops ends (ap (drop 1) e) in
    (λ i. head i ∷ tail.0 i, tail.1)

-- as many objects
one_object_line : (x y : ObjectLine) → FitsObject x → FitsObject y → object_text x ≡ object_text y → x ≡ y
one_object_line x y x_fits y_fits e = one_line FitsObject object_words object_fit object_some one_object x y x_fits y_fits e

one_global_line : (x y : GlobalLine) → FitsGlobal x → FitsGlobal y → global_text x ≡ global_text y → x ≡ y
one_global_line x y x_fits y_fits e = one_line FitsGlobal global_line_words global_fit global_some one_global x y x_fits y_fits e

pub objects_same : (xs ys : List ObjectLine) (new rest : List (List ℕ)) → AllByRecursion FitsObject xs → AllByRecursion FitsObject ys → length xs ≡ length ys
    → map object_text xs ++ new ≡ map object_text ys ++ rest → (xs ≡ ys) × (new ≡ rest)
objects_same [] [] new rest xs_fit ys_fit long e = (refl, e)
objects_same [] (y ∷ ys) new rest xs_fit ys_fit long e = absurd (omega arith)
objects_same (x ∷ xs) [] new rest xs_fit ys_fit long e = absurd (omega arith)
objects_same (x ∷ xs) (y ∷ ys) new rest xs_fit ys_fit long e =
    let head = one_object_line x y xs_fit.0 ys_fit.0 (ap (λ (ls : List (List ℕ)). get_or ls 0 []) e) in
    let tail = objects_same xs ys new rest xs_fit.1 ys_fit.1 (omega arith) (ap (drop 1) e) in
    (λ i. head i ∷ tail.0 i, tail.1)

-- an object or a global is no empty line
global_long : (x : GlobalLine) → global_text x ≡ [] → ⊥
global_long x e = let long = ap length e in omega arith

pub globals_same : (xs ys : List GlobalLine) → AllByRecursion FitsGlobal xs → AllByRecursion FitsGlobal ys → ended_globals xs ≡ ended_globals ys → xs ≡ ys
globals_same [] [] xs_fit ys_fit e = refl
globals_same [] (y ∷ ys) xs_fit ys_fit e = absurd (global_long y (sym (ap (λ (ls : List (List ℕ)). get_or ls 0 []) e)))
globals_same (x ∷ xs) [] xs_fit ys_fit e = absurd (global_long x (ap (λ (ls : List (List ℕ)). get_or ls 0 []) e))
globals_same (x ∷ xs) (y ∷ ys) xs_fit ys_fit e =
    let head = one_global_line x y xs_fit.0 ys_fit.0 (ap (λ (ls : List (List ℕ)). get_or ls 0 []) e) in
    let tail = globals_same xs ys xs_fit.1 ys_fit.1 (ap (drop 1) e) in
    λ i. head i ∷ tail i

-- where what is left spells no globals to the end, the whole doesn't
pub globals_none : (done : List GlobalLine) (rest : List (List ℕ)) → ((ys : List GlobalLine) → AllByRecursion FitsGlobal ys → rest ≡ ended_globals ys → ⊥) → (xs : List GlobalLine)
    → AllByRecursion FitsGlobal xs → map global_text done ++ rest ≡ ended_globals xs → ⊥
globals_none [] rest none xs fit e = none xs fit e
globals_none (d ∷ done) rest none [] fit e = global_long d (ap (λ (ls : List (List ℕ)). get_or ls 0 []) e)
globals_none (d ∷ done) rest none (x ∷ xs) fit e = globals_none done rest none xs fit.1 (ap (drop 1) e)

-- nothing is left: the last line has no line feed
pub none_at_end : (ys : List GlobalLine) → AllByRecursion FitsGlobal ys → [] ≡ ended_globals ys → ⊥
none_at_end [] fit e = cc
none_at_end (y ∷ ys) fit e = cc

-- an empty line that is not the last
pub none_at_empty : (line : List ℕ) (rest : List (List ℕ)) → length line ≡ 0 → (rest ≡ [] → ⊥) → (ys : List GlobalLine) → AllByRecursion FitsGlobal ys → line ∷ rest ≡ ended_globals ys → ⊥
none_at_empty line rest empty more [] fit e = more (ap (drop 1) e)
none_at_empty line rest empty more (y ∷ ys) fit e = let long = ap length (ap (λ (ls : List (List ℕ)). get_or ls 0 []) e) in omega arith

-- a line that spells no global
pub none_at_line : (line : List ℕ) (rest : List (List ℕ)) → (length line ≡ 0 → ⊥) → ((x : GlobalLine) → FitsGlobal x → line ≡ global_text x → ⊥) → (ys : List GlobalLine) → AllByRecursion FitsGlobal ys
    → line ∷ rest ≡ ended_globals ys → ⊥
none_at_line line rest some none [] fit e = some (ap length (ap (λ (ls : List (List ℕ)). get_or ls 0 []) e))
none_at_line line rest some none (y ∷ ys) fit e = none y fit.0 (ap (λ (ls : List (List ℕ)). get_or ls 0 []) e)

-- where an object's line spells none, the lines begin with no so many objects
pub objects_none : (done : List ObjectLine) (rest : List (List ℕ)) → ((x : ObjectLine) (others : List (List ℕ)) → FitsObject x → rest ≡ object_text x ∷ others → ⊥) → (count : ℕ) → length done < count
    → (xs : List ObjectLine) (others : List (List ℕ)) → AllByRecursion FitsObject xs → length xs ≡ count → map object_text done ++ rest ≡ map object_text xs ++ others → ⊥
objects_none [] rest none count more [] others fit long e = omega arith
objects_none [] rest none count more (x ∷ xs) others fit long e = none x (map object_text xs ++ others) fit.0 e
objects_none (d ∷ done) rest none count more [] others fit long e = omega arith
objects_none (d ∷ done) rest none count more (x ∷ xs) others fit long e = objects_none done rest none (length xs) (omega arith) xs others fit.1 refl (ap (drop 1) e)

-- an image whose lines these are
module _ (lines behind : List (List ℕ)) (x : ImageParts) (fits : FitsImage x) (is : lines ≡ ended_lines x) (head : lines ≡ codes "image 1" ∷ behind) where
  abbrev rest_of : List (List ℕ)
  rest_of = map object_text x.objects ++ ended_globals x.globals

  pub behind_types : (types : List Command) (rest : List (List ℕ)) → ReadsTypes behind types rest → (types ≡ x.types) × (rest ≡ count_text (length x.objects) ∷ rest_of)
  behind_types types rest read =
      types_same types x.types rest (count_text (length x.objects) ∷ rest_of) read.fit fits.types read.stops (count_stops (length x.objects) rest_of) (sym read.read ∙ ap (drop 1) (sym head ∙ is))

  pub no_count : (types : List Command) (rest : List (List ℕ)) → ReadsTypes behind types rest → ((n : ℕ) (others : List (List ℕ)) → n < 2 ^ 64 → rest ≡ count_text n ∷ others → ⊥) → ⊥
  no_count types rest read none = none (length x.objects) rest_of fits.few (behind_types types rest read).1

  module _ (types : List Command) (rest left : List (List ℕ)) (n : ℕ) (read : ReadsTypes behind types rest) (small : n < 2 ^ 64) (count : rest ≡ count_text n ∷ left) where
    behind_count : (n ≡ length x.objects) × (left ≡ rest_of)
    behind_count =
        let same = sym count ∙ (behind_types types rest read).1 in
        let numbers = append_cancel_left (codes "objects ") (decimal n) (decimal (length x.objects)) (ap (λ (ls : List (List ℕ)). get_or ls 0 []) same) in
        (decimal_injective n (length x.objects) small fits.few numbers, ap (drop 1) same)

    pub no_objects : (new : List (List ℕ)) → ReadsObjects n left None new → ⊥
    no_objects new none = none x.objects (ended_globals x.globals) fits.objects (sym behind_count.0) behind_count.1

    pub behind_objects : (objects : List ObjectLine) (new : List (List ℕ)) → ReadsObjects n left (Some objects) new → (objects ≡ x.objects) × (new ≡ ended_globals x.globals)
    behind_objects objects new found = objects_same objects x.objects new (ended_globals x.globals) found.0 fits.objects (found.1 ∙ behind_count.0) (sym found.2 ∙ behind_count.1)

-- what was read is an image
pub image_made : (lines behind rest left new : List (List ℕ)) (types : List Command) (n : ℕ) (objects : List ObjectLine) (globals : List GlobalLine) → lines ≡ codes "image 1" ∷ behind → ReadsTypes behind types rest
    → n < 2 ^ 64 → rest ≡ count_text n ∷ left → ReadsObjects n left (Some objects) new → AllByRecursion FitsGlobal globals → new ≡ ended_globals globals
    → FitsImage (record { types = types; objects = objects; globals = globals }) × (lines ≡ ended_lines (record { types = types; objects = objects; globals = globals }))
image_made lines behind rest left new types n objects globals head read small count found globals_fit globals_read =
    let same : n ≡ length objects = sym found.1 in (
      record { types = read.fit; few = subst (λ m. m < 2 ^ 64) same small; objects = found.0; globals = globals_fit },
      head
          ∙ ap (λ ls. codes "image 1" ∷ ls) (read.read ∙ ap (λ ls. map spelling types ++ ls) (count ∙ ap (λ m. count_text m ∷ left) same
          ∙ ap (λ ls. count_text (length objects) ∷ ls) (found.2 ∙ ap (λ ls. map object_text objects ++ ls) globals_read))),
    )

-- no two images have the same lines
pub one_image : (x y : ImageParts) → FitsImage x → FitsImage y → ended_lines x ≡ ended_lines y → x ≡ y
one_image x y x_fits y_fits e =
    let behind = map spelling x.types ++ count_text (length x.objects) ∷ (map object_text x.objects ++ ended_globals x.globals) in
    let rest = count_text (length x.objects) ∷ (map object_text x.objects ++ ended_globals x.globals) in
    let read : ReadsTypes behind x.types rest = record { fit = x_fits.types; read = refl; stops = count_stops (length x.objects) (map object_text x.objects ++ ended_globals x.globals) } in
    let types = (behind_types (ended_lines x) behind y y_fits e refl x.types rest read).0 in
    let objects = behind_objects (ended_lines x) behind y y_fits e refl x.types rest (map object_text x.objects ++ ended_globals x.globals) (length x.objects) read x_fits.few refl x.objects (ended_globals x.globals) (x_fits.objects, refl, refl) in
    let globals = globals_same x.globals y.globals x_fits.globals y_fits.globals objects.1 in
    λ i. record { types = types i; objects = objects.0 i; globals = globals i }
