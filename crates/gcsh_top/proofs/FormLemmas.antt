-- Where words are of no form.
use Rattle.std.proofs.Common.{◌≡◌, ℕ, ◌<◌, ◌≤◌, List, [], ◌∷◌, map, length, get_or, Option, MatchOption, sym, subst, ◌∙◌, arith}
use Rattle.std.specs.Fmt.{decimal}
use Rattle.std.proofs.lemmas.Fmt.{decimal_injective}
use Rattle.gcsh_top.specs.declared.words.Form.{Form}
use Rattle.gcsh_top.specs.declared.words.Task.{Task}
use Rattle.gcsh_top.specs.Words.{FitsTask, IsForm, task_words}

-- where the third word is a number, and the one before it is none up to that number
pub no_first : (words : List (List ℕ)) (collector first last : List ℕ) (behind : List (List ℕ)) (most : ℕ) → words ≡ collector ∷ first ∷ last ∷ behind → most ≤ 65535 → last ≡ decimal most
    → ((n : ℕ) → n ≤ most → first ≡ decimal n → ⊥) → (form : Form) → IsForm words form → ⊥
no_first words collector first last behind most are small is none form f =
    let spelled = sym are ∙ f.spelled in
    let within = f.within in
    let lasts : last ≡ decimal form.most = cc in
    let firsts : first ≡ decimal form.first = cc in
    let same : form.most ≡ most = decimal_injective form.most most (omega arith) (omega arith) (sym lasts ∙ is) in
    none form.first (let ordered = f.ordered in omega arith) firsts

-- where two words behind three are those of no task
pub no_task : (words : List (List ℕ)) (collector first last name rounds : List ℕ) → words ≡ collector ∷ first ∷ last ∷ name ∷ rounds ∷ [] → ((task : Task) → FitsTask task → ¬ (name ∷ rounds ∷ [] ≡ task_words task)) → (form : Form) → IsForm words form → ⊥
no_task words collector first last name rounds are none form f =
    let spelled = sym are ∙ f.spelled in
    none form.task f.fits (cc)

-- words that are these have the form that these have
pub form_of_words : (words are : List (List ℕ)) (result : Option Form) → words ≡ are → MatchOption result ((form : Form) → ¬ IsForm are form) (IsForm are) → MatchOption result ((form : Form) → ¬ IsForm words form) (IsForm words)
form_of_words words are result same found = subst (λ (ws : List (List ℕ)). MatchOption result ((form : Form) → ¬ IsForm ws form) (IsForm ws)) (sym same) found

-- five words, one by one
pub five_words : {A : Type 0} (f : A → List ℕ) (xs : List A) (a b c d e : A) → 5 ≤ length xs → length xs < 6 → a ≡ get_or xs 0 a → b ≡ get_or xs 1 b → c ≡ get_or xs 2 c → d ≡ get_or xs 3 d → e ≡ get_or xs 4 e
    → map f xs ≡ f a ∷ f b ∷ f c ∷ f d ∷ f e ∷ []
five_words f [] a b c d e low high p q r s t = absurd (omega arith)
five_words f (v ∷ []) a b c d e low high p q r s t = absurd (omega arith)
five_words f (v ∷ w ∷ []) a b c d e low high p q r s t = absurd (omega arith)
five_words f (v ∷ w ∷ x ∷ []) a b c d e low high p q r s t = absurd (omega arith)
five_words f (v ∷ w ∷ x ∷ y ∷ []) a b c d e low high p q r s t = absurd (omega arith)
five_words f (v ∷ w ∷ x ∷ y ∷ z ∷ []) a b c d e low high p q r s t = cc
five_words f (v ∷ w ∷ x ∷ y ∷ z ∷ u ∷ xs) a b c d e low high p q r s t = absurd (omega arith)

-- where a word behind three is that of no task
pub no_report : (words : List (List ℕ)) (collector first last name : List ℕ) → words ≡ collector ∷ first ∷ last ∷ name ∷ [] → ((task : Task) → FitsTask task → ¬ (name ∷ [] ≡ task_words task)) → (form : Form) → IsForm words form → ⊥
no_report words collector first last name are none form f =
    let spelled = sym are ∙ f.spelled in
    none form.task f.fits (cc)

-- four words, one by one
pub four_words : {A : Type 0} (f : A → List ℕ) (xs : List A) (a b c d : A) → 4 ≤ length xs → length xs < 5 → a ≡ get_or xs 0 a → b ≡ get_or xs 1 b → c ≡ get_or xs 2 c → d ≡ get_or xs 3 d
    → map f xs ≡ f a ∷ f b ∷ f c ∷ f d ∷ []
four_words f [] a b c d low high p q r s = absurd (omega arith)
four_words f (v ∷ []) a b c d low high p q r s = absurd (omega arith)
four_words f (v ∷ w ∷ []) a b c d low high p q r s = absurd (omega arith)
four_words f (v ∷ w ∷ x ∷ []) a b c d low high p q r s = absurd (omega arith)
four_words f (v ∷ w ∷ x ∷ y ∷ []) a b c d low high p q r s = cc
four_words f (v ∷ w ∷ x ∷ y ∷ z ∷ xs) a b c d low high p q r s = absurd (omega arith)
