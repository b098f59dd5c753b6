-- Words that are joined are the first of them and the others with a space in front of each.
use Rattle.std.proofs.Common.{◌≡◌, ℕ, List, [], ◌∷◌, ◌++◌, Result, OnOk, codes, length, map, sym, ap, ◌∙◌, append_assoc, append-nil}
use Rattle.std.specs.List.{flat_map, join_with_byte}
use Rattle.std.proofs.lemmas.Grind.{flat_map-append}
use Rattle.std.proofs.lemmas.List.Folds.{flat_map-map}
use Rattle.std.proofs.lemmas.Result.{on_ok_weaker}
use Rattle.gc_commands.specs.declared.command.Command.{Command}
use Rattle.gc_commands.specs.Spelling.{spelling}
use Rattle.gc_image.specs.declared.image.GlobalLine.{GlobalLine}
use Rattle.gc_image.specs.declared.image.ObjectLine.{ObjectLine}
use Rattle.gc_image.specs.Text.{count_text, ended_line, global_text, image_text, object_text}
use Rattle.gc_image_write.specs.Writing.{lines_of, spaced_texts}

pub joined : {A : Type 0} (text : A → List ℕ) (word : List ℕ) (words : List A) → join_with_byte 32 (word ∷ map text words) ≡ word ++ spaced_texts text words
joined text word [] = sym (append-nil word)
joined text word (next ∷ words) = ap (λ rest. word ++ 32 ∷ rest) (joined text (text next) words)

-- behind a front and a word others were appended
pub row_pushed : {A E : Type 0} (r : Result (Unit {0}) E) (old mid new : List ℕ) (front : List ℕ → List ℕ) → ((word rest : List ℕ) → front word ++ rest ≡ front (word ++ rest))
    → (text : A → List ℕ) (given words : List A) (word : List ℕ) → mid ≡ old ++ front word → given ≡ words
    → OnOk r (new ≡ mid ++ spaced_texts text given) → OnOk r (new ≡ old ++ front (join_with_byte 32 (word ∷ map text words)))
row_pushed r old mid new front law text given words word wrote same pushed =
    on_ok_weaker r
    (λ e. e ∙ ap (λ m. m ++ spaced_texts text given) wrote ∙ append_assoc old (front word) (spaced_texts text given)
    ∙ ap (λ w. old ++ w) (law word (spaced_texts text given) ∙ ap front (ap (λ v. word ++ spaced_texts text v) same ∙ sym (joined text word words))))
    pushed

-- all lines of an image
image_is : (types : List Command) (objects : List ObjectLine) (globals : List GlobalLine)
    → image_text (record { types = types; objects = objects; globals = globals })
    ≡ codes "image 1\n" ++ (lines_of spelling types ++ (ended_line (count_text (length objects)) ++ (lines_of object_text objects ++ lines_of global_text globals)))
image_is types objects globals =
    ap (λ rest. codes "image 1\n" ++ rest)
    (flat_map-append ended_line (map spelling types) (count_text (length objects) ∷ (map object_text objects ++ map global_text globals))
    ∙ ap (λ front. front ++ flat_map ended_line (count_text (length objects) ∷ (map object_text objects ++ map global_text globals))) (flat_map-map ended_line spelling types)
    ∙ ap (λ rest. lines_of spelling types ++ (ended_line (count_text (length objects)) ++ rest))
    (flat_map-append ended_line (map object_text objects) (map global_text globals) ∙ ap (λ front. front ++ flat_map ended_line (map global_text globals)) (flat_map-map ended_line object_text objects)
    ∙ ap (λ rest. lines_of object_text objects ++ rest) (flat_map-map ended_line global_text globals)))

-- the lines were appended in turn
pub image_pushed : (types : List Command) (objects : List ObjectLine) (globals : List GlobalLine) (t0 t1 t2 t3 t4 : List ℕ) → t0 ≡ codes "image 1\n"
    → t1 ≡ t0 ++ lines_of spelling types → t2 ≡ t1 ++ ended_line (count_text (length objects)) → t3 ≡ t2 ++ lines_of object_text objects → t4 ≡ t3 ++ lines_of global_text globals
    → t4 ≡ image_text (record { types = types; objects = objects; globals = globals })
image_pushed types objects globals t0 t1 t2 t3 t4 e0 e1 e2 e3 e4 =
    let a = lines_of spelling types in let b = ended_line (count_text (length objects)) in let c = lines_of object_text objects in let d = lines_of global_text globals in
    e4 ∙ ap (λ t. t ++ d) (e3 ∙ ap (λ t. t ++ c) (e2 ∙ ap (λ t. t ++ b) (e1 ∙ ap (λ t. t ++ a) e0)))
    ∙ append_assoc (((codes "image 1\n" ++ a) ++ b)) c d ∙ append_assoc (codes "image 1\n" ++ a) b (c ++ d) ∙ append_assoc (codes "image 1\n") a (b ++ (c ++ d)) ∙ sym (image_is types objects globals)
