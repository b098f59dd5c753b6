-- The front of a declaration: `final` and the supertype, and what is behind them.
use Rattle.std.proofs.Common.{◌≡◌, ◌≢◌, ℕ, ◌<◌, Bool, true, false, List, [], ◌∷◌, ◌++◌, map, codes, drop, get_or, Bor, Option, None, Some, IfSome, MatchOption, slice_index, refl, sym, ap, ◌∙◌, arith}
use Rattle.std.specs.Bool.{MatchBool}
use Rattle.std.specs.Fmt.{decimal}
use Rattle.std.proofs.lemmas.Fmt.{decimal_injective}
use Rattle.std.proofs.lemmas.List.{append_cancel_left}
use Rattle.gc_commands.specs.declared.command.FieldWord.{FieldWord}
use Rattle.gc_commands.specs.declared.command.StorageWord.{StorageWord}
use Rattle.gc_commands.specs.Parts.{IsBehind, HasFront, ReadsSupertype, first_letter}
use Rattle.gc_commands.specs.Spelling.{declared_words, supertype_words, type_count}
use Rattle.gc_commands.specs.Words.{field_text, mutability_text, storage_text}

absent : (words rest : List (List ℕ)) → rest ≡ words → ((digits : List ℕ) (others : List (List ℕ)) → words ≡ (codes "sub:" ++ digits) ∷ others → ⊥)
    → (t : Option ℕ) (others : List (List ℕ)) → IfSome t (λ n. n < type_count) → first_letter others ≢ 115 → words ≡ supertype_words t ++ others → (None ≡ t) × (rest ≡ others)
absent words rest same none None others fits letter e = (refl, same ∙ e)
absent words rest same none (Some t) others fits letter e = absurd (none (decimal t) others e)

present : (words : List (List ℕ)) (n : ℕ) (rest : List (List ℕ)) → n < type_count → words ≡ (codes "sub:" ++ decimal n) ∷ rest
    → (t : Option ℕ) (others : List (List ℕ)) → IfSome t (λ m. m < type_count) → first_letter others ≢ 115 → words ≡ supertype_words t ++ others → (Some n ≡ t) × (rest ≡ others)
present words n rest n_fits at None others fits letter e = absurd (letter (ap first_letter (sym e ∙ at)))
present words n rest n_fits at (Some t) others fits letter e = (
  ap Some (decimal_injective n t (omega arith) (omega arith) (append_cancel_left (codes "sub:") (decimal n) (decimal t) (ap (λ (ws : List (List ℕ)). get_or ws 0 []) (sym at ∙ e)))),
  ap (drop 1) (sym at ∙ e),
)

-- no word is a supertype, so none is read
pub supertype_absent : (words rest : List (List ℕ)) → rest ≡ words → ((digits : List ℕ) (others : List (List ℕ)) → words ≡ (codes "sub:" ++ digits) ∷ others → ⊥) → ReadsSupertype words (Some None) rest
supertype_absent words rest same none = (tt, sym same, absent words rest same none)

-- the next word is no supertype, although it begins like one
pub supertype_bad : (words : List (List ℕ)) (index : List ℕ) (rest : List (List ℕ)) → words ≡ (codes "sub:" ++ index) ∷ rest → ((t : ℕ) → t < type_count → index ≡ decimal t → ⊥)
    → (t : Option ℕ) (others : List (List ℕ)) → IfSome t (λ n. n < type_count) → first_letter others ≢ 115 → words ≡ supertype_words t ++ others → ⊥
supertype_bad words index rest at none None others fits letter e = letter (ap first_letter (sym e ∙ at))
supertype_bad words index rest at none (Some t) others fits letter e =
    none t fits (append_cancel_left (codes "sub:") index (decimal t) (ap (λ (ws : List (List ℕ)). get_or ws 0 []) (sym at ∙ e)))

-- the next word is a supertype
pub supertype_present : (words : List (List ℕ)) (n : ℕ) (rest : List (List ℕ)) → n < type_count → words ≡ (codes "sub:" ++ decimal n) ∷ rest → ReadsSupertype words (Some (Some n)) rest
supertype_present words n rest fits at = (fits, at, present words n rest fits at)

-- what is behind `final` is what is left
mid_of : (f g : Bool) (words mid : List (List ℕ)) (t : Option ℕ) (others : List (List ℕ)) → IsBehind others
    → MatchBool f (words ≡ codes "final" ∷ mid) ((mid ≡ words) × ((rest : List (List ℕ)) → ¬ (words ≡ codes "final" ∷ rest)))
    → words ≡ declared_words g t others → (f ≡ g) × (mid ≡ supertype_words t ++ others)
mid_of true true words mid t others behind at e = (refl, ap (drop 1) (sym at ∙ e))
mid_of true false words mid None others behind at e = absurd (behind.0 (ap first_letter (sym e ∙ at)))
mid_of true false words mid (Some n) others behind at e = absurd (let letter = ap first_letter (sym e ∙ at) in omega arith)
mid_of false true words mid t others behind at e = absurd (at.1 (supertype_words t ++ others) e)
mid_of false false words mid t others behind at e = (refl, at.0 ∙ e)

pub front_none : (f : Bool) (words mid rest : List (List ℕ)) → MatchBool f (words ≡ codes "final" ∷ mid) ((mid ≡ words) × ((others : List (List ℕ)) → ¬ (words ≡ codes "final" ∷ others)))
    → ReadsSupertype mid None rest → (g : Bool) (t : Option ℕ) (others : List (List ℕ)) → IfSome t (λ n. n < type_count) → IsBehind others → words ≡ declared_words g t others → ⊥
front_none f words mid rest at none g t others fits behind e = none t others fits behind.1 (mid_of f g words mid t others behind at e).1

front_read : (f : Bool) (s : Option ℕ) (words mid rest : List (List ℕ)) → MatchBool f (words ≡ codes "final" ∷ mid) ((mid ≡ words) × ((others : List (List ℕ)) → ¬ (words ≡ codes "final" ∷ others)))
    → mid ≡ supertype_words s ++ rest → words ≡ declared_words f s rest
front_read true s words mid rest at e = at ∙ ap (λ ws. codes "final" ∷ ws) e
front_read false s words mid rest at e = sym at.0 ∙ e

pub front_some : (f : Bool) (s : Option ℕ) (words mid rest : List (List ℕ)) → MatchBool f (words ≡ codes "final" ∷ mid) ((mid ≡ words) × ((others : List (List ℕ)) → ¬ (words ≡ codes "final" ∷ others)))
    → ReadsSupertype mid (Some s) rest → HasFront words (f, s) rest
front_some f s words mid rest at read = record {
  fits = read.0;
  read = front_read f s words mid rest at read.1;
  only = λ g t others fits behind e.
      let first = mid_of f g words mid t others behind at e in
      let second = read.2 t others fits behind.1 first.1 in
      (first.0, second.0, second.1);
}

final_is : (f : Bool) (s : Option ℕ) (rest : List (List ℕ)) → IsBehind rest
    → MatchBool f (declared_words f s rest ≡ codes "final" ∷ (supertype_words s ++ rest)) ((supertype_words s ++ rest ≡ declared_words f s rest) × ((others : List (List ℕ)) → ¬ (declared_words f s rest ≡ codes "final" ∷ others)))
final_is true s rest behind = refl
final_is false None rest behind = (refl, λ others e. behind.0 (ap first_letter e))
final_is false (Some t) rest behind = (refl, λ others e. let letter = ap first_letter e in omega arith)

supertype_is : (s : Option ℕ) (rest : List (List ℕ)) → IfSome s (λ n. n < type_count) → IsBehind rest → ReadsSupertype (supertype_words s ++ rest) (Some s) rest
supertype_is None rest fits behind = supertype_absent rest rest refl (λ digits others e. behind.1 (ap first_letter e))
supertype_is (Some n) rest fits behind = supertype_present (supertype_words (Some n) ++ rest) n rest fits refl

-- a declaration has one front
pub one_front : (f g : Bool) (s t : Option ℕ) (rest others : List (List ℕ)) → IfSome s (λ n. n < type_count) → IfSome t (λ n. n < type_count) → IsBehind rest → IsBehind others
    → declared_words f s rest ≡ declared_words g t others → (f ≡ g) × (s ≡ t) × (rest ≡ others)
one_front f g s t rest others s_fits t_fits behind other_behind e =
    let front : HasFront (declared_words f s rest) (f, s) rest = front_some f s (declared_words f s rest) (supertype_words s ++ rest) rest (final_is f s rest behind) (supertype_is s rest s_fits behind) in
    front.only g t others t_fits other_behind e

field_letter : (m : Bool) (s : StorageWord) → (slice_index (mutability_text m ++ storage_text s) 0 ≢ 102) × (slice_index (mutability_text m ++ storage_text s) 0 ≢ 115)
field_letter true s = (λ e. omega arith, λ e. omega arith)
field_letter false s = (λ e. omega arith, λ e. omega arith)

pub field_behind : (f : FieldWord) (rest : List (List ℕ)) → IsBehind (field_text f ∷ rest)
field_behind f rest = field_letter f.mutable f.storage

pub fields_behind : (fs : List FieldWord) → IsBehind (map field_text fs)
fields_behind [] = (λ e. omega arith, λ e. omega arith)
fields_behind (f ∷ fs) = field_behind f (map field_text fs)

-- the word that was looked at is the one that is taken
taken : (words rest others : List (List ℕ)) (word : List ℕ) (r : Option (Bor (List ℕ))) → words ≡ word ∷ others → MatchOption r ((words ≡ []) × (rest ≡ [])) (λ w. words ≡ w.now ∷ rest) → words ≡ word ∷ rest
taken words rest others word None at took = absurd (let both : word ∷ others ≡ [] = sym at ∙ took.0 in cc)
taken words rest others word (Some w) at took = took ∙ ap (λ v. v ∷ rest) (ap (λ (ws : List (List ℕ)). get_or ws 0 []) (sym took ∙ at))

pub supertype_read : (words seen rest others : List (List ℕ)) (word index : List ℕ) (n : ℕ) (r : Option (Bor (List ℕ))) → seen ≡ words → seen ≡ word ∷ others → MatchOption r ((words ≡ []) × (rest ≡ [])) (λ w. words ≡ w.now ∷ rest)
    → word ≡ codes "sub:" ++ index → n < type_count → index ≡ decimal n → ReadsSupertype words (Some (Some n)) rest
supertype_read words seen rest others word index n r same at took front fits read =
    supertype_present words n rest fits (taken words rest others word r (sym same ∙ at) took ∙ ap (λ w. w ∷ rest) (front ∙ ap (λ i. codes "sub:" ++ i) read))
