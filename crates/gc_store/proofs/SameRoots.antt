-- Whether two handles name the same reference.
use Rattle.std.proofs.Common.{inl, inr, ◌≡◌, ◌≢◌, ◌⊎◌, ◌↔◌, ℕ, true, false, nat_eq, Result, Ok, Err, sym, ap, ◌∙◌, refl, arith}
use Rattle.std.specs.Result.{IsErrAnd}
use Rattle.std.proofs.lemmas.Bool.{ne_eqb, eq-eqb, eqb-true}
use Rattle.std.proofs.lemmas.Grind.{common_steps}
use Rattle.gc_types.specs.declared.kind.Layouts.{Layouts}
use Rattle.gc_model.specs.Values.{Reference, null, small, at}
use Rattle.gc_model.specs.Reads.{same_reference}
use Rattle.gc_model.specs.Table.{Table}
use Rattle.gc_model.specs.Stores.{StoreView}
use Rattle.gc_model.specs.Holds.{Placing, Holds}
use Rattle.gc_model.proofs.Words.{word_same}
use Rattle.gc_values.specs.declared.root.GcRootIndex.{GcRootIndex}
use Rattle.gc_store.specs.Roots.{word_of, NamesReference, NamesNothing}
use Rattle.gc_store.proofs.HandleWords.{named_word, names_word}

is_same : (r : Reference) → same_reference r r ≡ true
is_same null = refl
is_same (small n) = grind (arith, common_steps)
is_same (at p) = grind (arith, common_steps)

is_other : (r q : Reference) → r ≢ q → same_reference r q ≡ false
is_other null null ne = absurd (ne refl)
is_other null (small n) ne = refl
is_other null (at p) ne = refl
is_other (small m) null ne = refl
is_other (small m) (small n) ne = ne_eqb m n (λ e. ne (ap small e))
is_other (small m) (at p) ne = refl
is_other (at q) null ne = refl
is_other (at q) (small n) ne = refl
is_other (at q) (at p) ne = ne_eqb q p (λ e. ne (ap at e))

-- two references are compared by their words
compared : (r q : Reference) (u v : ℕ) → (u ≡ v) ↔ (r ≡ q) → nat_eq u v ≡ same_reference r q
compared r q u v same = elim (nat_eq u v) as (λ b. nat_eq u v ≡ b → b ≡ same_reference r q) [
  | true ↦ λ e. sym (ap (same_reference r) (sym (same.0 (eqb-true u v e))) ∙ is_same r)
  | false ↦ λ e. sym (is_other r q (λ one. absurd (cc (sym (eq-eqb u v (same.1 one)) ∙ e))))
] refl

-- an error that a call hands on
pub same_err : {A E : Type 0} (r : Result A E) (f : E) → IsErrAnd r (λ e. e ≡ f) → r ≡ Err f
same_err (Ok x) f is = absurd is
same_err (Err e) f is = ap Err is

module _ {D : Type 0} (layouts : Layouts) (s : StoreView D) (t : Table D) (place : Placing) (holds : Holds layouts s t place) (a b : GcRootIndex) where
  -- what two handles name is compared by their words
  pub both_live : (r q : Reference) (u v : ℕ) → NamesReference s t a r → NamesReference s t b q → word_of s a ≡ Ok u → word_of s b ≡ Ok v → nat_eq u v ≡ same_reference r q
  both_live r q u v first second first_word second_word =
      let one = named_word layouts s t place holds a r u first first_word in
      let other = named_word layouts s t place holds b q v second second_word in
      compared r q u v (word_same layouts t place s.heap holds.objects r q u v one.0 other.0)

  -- handles that have words name something
  pub not_unnamed : (u v : ℕ) → word_of s a ≡ Ok u → word_of s b ≡ Ok v → NamesNothing s t a ⊎ NamesNothing s t b → ⊥
  not_unnamed u v first second (inl none) = let names = names_word layouts s t place holds a u first in none names.root names.named
  not_unnamed u v first second (inr none) = let names = names_word layouts s t place holds b v second in none names.root names.named
