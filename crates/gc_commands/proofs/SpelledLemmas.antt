-- The words of a declaration, written one behind the other.
use Rattle.std.proofs.Common.{◌≡◌, ℕ, Bool, List, [], ◌∷◌, ◌++◌, Option, sym, ap, ◌∙◌, append_assoc}
use Rattle.std.specs.List.{join_with_byte}
use Rattle.std.proofs.lemmas.Grind.{flat_map-append}
use Rattle.std.proofs.lemmas.List.{append-nil}
use Rattle.gc_commands.specs.Spelling.{declared_words, final_words, supertype_words}
use Rattle.gc_commands.specs.Words.{spaced}

-- a first word, and the others behind a space each
pub joined : (word : List ℕ) (words : List (List ℕ)) → join_with_byte 32 (word ∷ words) ≡ word ++ spaced words
joined word [] = sym (append-nil word)
joined word (next ∷ words) = ap (λ rest. word ++ 32 ∷ rest) (joined next words)

-- the front of a declaration, and what is behind it
pub declared : (is_final : Bool) (supertype : Option ℕ) (words : List (List ℕ))
    → spaced (declared_words is_final supertype words) ≡ (spaced (final_words is_final) ++ spaced (supertype_words supertype)) ++ spaced words
declared is_final supertype words =
    flat_map-append (λ word. 32 ∷ word) (final_words is_final) (supertype_words supertype ++ words)
    ∙ ap (λ rest. spaced (final_words is_final) ++ rest) (flat_map-append (λ word. 32 ∷ word) (supertype_words supertype) words)
    ∙ sym (append_assoc (spaced (final_words is_final)) (spaced (supertype_words supertype)) (spaced words))

-- a first word was written, and then the others
pub named : (old front new word : List ℕ) (words : List (List ℕ)) → front ≡ old ++ word → new ≡ front ++ spaced words → new ≡ old ++ join_with_byte 32 (word ∷ words)
named old front new word words first rest =
    rest ∙ ap (λ text. text ++ spaced words) first ∙ append_assoc old word (spaced words) ∙ ap (λ text. old ++ text) (sym (joined word words))

-- a first word was written, then the front of a declaration, and then what is declared
pub named_declared : (old first front new word : List ℕ) (is_final : Bool) (supertype : Option ℕ) (words : List (List ℕ)) → first ≡ old ++ word
    → front ≡ first ++ (spaced (final_words is_final) ++ spaced (supertype_words supertype)) → new ≡ front ++ spaced words
    → new ≡ old ++ join_with_byte 32 (word ∷ declared_words is_final supertype words)
named_declared old first front new word is_final supertype words name written rest =
    named old first new word (declared_words is_final supertype words) name
    (rest ∙ ap (λ text. text ++ spaced words) written
    ∙ append_assoc first (spaced (final_words is_final) ++ spaced (supertype_words supertype)) (spaced words)
    ∙ ap (λ text. first ++ text) (sym (declared is_final supertype words)))
