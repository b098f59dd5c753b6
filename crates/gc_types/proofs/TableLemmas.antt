-- What holds of a table after one more declaration.
use Rattle.std.proofs.Common.{◌≡◌, ℕ, zero, suc, ◌<◌, List, [], ◌∷◌, ◌++◌, length, take, slice_get, Option, Some, None, sym, ◌∙◌, ap, subst, refl, arith, inl, inr}
use Rattle.std.proofs.lemmas.Bool.{cases_lt}
use Rattle.std.proofs.lemmas.Option.{slice_get_within, same_Some}
use Rattle.std.proofs.lemmas.List.{take-append-le, take_all, map-append, length_push}
use Rattle.gc_types.specs.Declarations.{Declaration, max_types}
use Rattle.gc_types.specs.Declarable.{Declarable, AreDeclared, ExnIsFinal, ExtendsOf, HasFewFields}
use Rattle.gc_types.specs.Tables.{IsTable, ExtendsIn, MayStand}

-- an element of the front of a list
pub get_front : {A : Type 0} (xs ys : List A) (i : ℕ) → i < length xs → slice_get (xs ++ ys) i ≡ slice_get xs i
get_front [] ys i h = absurd (omega arith)
get_front (x ∷ xs) ys zero h = refl
get_front (x ∷ xs) ys (suc i) h = get_front xs ys i (omega arith)

pub get_last : {A : Type 0} (xs : List A) (y : A) → slice_get (xs ++ y ∷ []) (length xs) ≡ Some y
get_last [] y = refl
get_last (x ∷ xs) y = get_last xs y

-- what the newest type extends, seen in the table before it
pub extends_back : (types : List Declaration) (d : Declaration) (o : Option ℕ) → ((ty : ℕ) → o ≡ Some ty → ty < length types) → ExtendsIn (types ++ d ∷ []) d.shape o → ExtendsOf types d o
extends_back types d None early e = tt
extends_back types d (Some ty) early e = record {
  supertype = e.supertype;
  earlier = sym (get_front types (d ∷ []) ty (early ty refl)) ∙ e.found;
  not_final = e.not_final;
  matches = e.matches;
}

pub extends_there : (types : List Declaration) (d : Declaration) (o : Option ℕ) → ExtendsOf types d o → ExtendsIn (types ++ d ∷ []) d.shape o
extends_there types d None e = tt
extends_there types d (Some ty) e = record {
  supertype = e.supertype;
  found = get_front types (d ∷ []) ty (slice_get_within types ty e.supertype e.earlier) ∙ e.earlier;
  not_final = e.not_final;
  matches = e.matches;
}

pub extends_early : (types : List Declaration) (d : Declaration) (o : Option ℕ) → ExtendsOf types d o → (ty : ℕ) → o ≡ Some ty → ty < length types
extends_early types d None e ty is = cc
extends_early types d (Some other) e ty is =
    subst (λ n. n < length types) (same_Some other ty is) (slice_get_within types other e.supertype e.earlier)

-- the newest type may be declared
pub declarable : (types : List Declaration) (d : Declaration) → HasFewFields d.shape → ExnIsFinal d.shape d.is_final → length types < max_types → ((ty : ℕ) → d.supertype ≡ Some ty → ty < length types) → MayStand (types ++ d ∷ []) d → Declarable types d
declarable types d few final room early may = record {
  few_fields = few;
  exn_is_final = final;
  few_types = room;
  known = may.0;
  extends = extends_back types d d.supertype early may.1;
}

pub may_stand : (types : List Declaration) (d : Declaration) → Declarable types d → MayStand (types ++ d ∷ []) d
may_stand types d may = (may.known, extends_there types d d.supertype may.extends)

declared_push : (types : List Declaration) (d : Declaration) → AreDeclared types → Declarable types d → (ty : ℕ) (e : Declaration) → slice_get (types ++ d ∷ []) ty ≡ Some e → Declarable (take ty (types ++ d ∷ [])) e
declared_push types d all may ty e found =
    elim (cases_lt ty (length types)) [
      | inl below ↦
          subst (λ (ts : List Declaration). Declarable ts e) (sym (take-append-le ty types (d ∷ []) (omega arith)))
          (all.each ty e (sym (get_front types (d ∷ []) ty below) ∙ found))
      | inr above ↦
          let inside : ty < length (types ++ d ∷ []) = slice_get_within (types ++ d ∷ []) ty e found in
          let at : ty ≡ length types = omega (arith, length_push types d) in
          let is : d ≡ e = same_Some d e (sym (get_last types d) ∙ ap (slice_get (types ++ d ∷ [])) (sym at) ∙ found) in
          let before : take ty (types ++ d ∷ []) ≡ types =
          take-append-le ty types (d ∷ []) (omega arith) ∙ take_all ty types above in
          subst (λ (ts : List Declaration). Declarable ts e) (sym before) (subst (λ (x : Declaration). Declarable types x) is may)
    ]

-- the table after one more declaration
pub table_push : (ancestry : List (Option ℕ)) (types : List Declaration) (d : Declaration) → IsTable ancestry types → Declarable types d → IsTable (ancestry ++ d.supertype ∷ []) (types ++ d ∷ [])
table_push ancestry types d table may = record {
  supertypes =
      ap (λ (a : List (Option ℕ)). a ++ d.supertype ∷ []) table.supertypes
      ∙ sym (map-append (λ (x : Declaration). x.supertype) types (d ∷ []));
  declared = record { each = declared_push types d table.declared may };
}
