-- The pending exception is one of the table's, also with more objects and with another value in an object.
use Rattle.std.proofs.Common.{ℕ, inl, inr, List, [], ◌∷◌, ◌++◌, Option, sym, ◌∙◌, ap}
use Rattle.std.specs.List.{slice_get}
use Rattle.std.specs.Prelude.{slice_set}
use Rattle.std.proofs.lemmas.Bool.{cases_eq}
use Rattle.gc_model.specs.Values.{Reference, Value, Object, exception}
use Rattle.gc_model.specs.Table.{change_at, with_value, with_host_value}
use Rattle.gc_model.specs.Words.{Placing}
use Rattle.gc_model.specs.RootPoints.{IsException, ThrownBy}
use Rattle.gc_model.proofs.Changes.{slice_get-change_at_same, slice_get-change_at_other}
use Rattle.gc_model.proofs.Lists.{slice_get-push_old}
use Rattle.gc_model.proofs.Placings.{IsWithin}
use Rattle.gc_model.proofs.RootsMoved.{pending-more}

module _ {D : Type 0} where
  -- with one more object
  exception-more : (objects : List (Object D)) (o : Object D) (r : Reference) → IsException objects r → IsException (objects ++ o ∷ []) r
  exception-more objects o r is = record {
    position = is.position;
    reference_is = is.reference_is;
    ty = is.ty;
    tag = is.tag;
    values = is.values;
    object_is = slice_get-push_old objects o is.position (exception is.ty is.tag is.values) is.object_is;
  }

  -- with another value in an object
  exception-written : (objects : List (Object D)) (position index : ℕ) (v : Value) (r : Reference) → IsException objects r → IsException (change_at position (with_value index v) objects) r
  exception-written objects position index v r is =
      elim (cases_eq is.position position) [
        | inl same ↦ record {
          position = is.position;
          reference_is = is.reference_is;
          ty = is.ty;
          tag = is.tag;
          values = slice_set is.values index v;
          object_is = ap (slice_get (change_at position (with_value index v) objects)) same
              ∙ slice_get-change_at_same position (with_value index v) objects (exception is.ty is.tag is.values) (ap (slice_get objects) (sym same) ∙ is.object_is);
        }
        | inr differ ↦ record {
          position = is.position;
          reference_is = is.reference_is;
          ty = is.ty;
          tag = is.tag;
          values = is.values;
          object_is = slice_get-change_at_other position (with_value index v) objects is.position differ ∙ is.object_is;
        }
      ]

  pub thrown-more : (place place' : Placing) → IsWithin place place' → (objects : List (Object D)) (o : Object D) (pending : Option Reference) (word : ℕ) → ThrownBy objects place pending word → ThrownBy (objects ++ o ∷ []) place' pending word
  thrown-more place place' within objects o pending word by = record {
    same_word = pending-more place place' within pending word by.same_word;
    thrown = λ r is. exception-more objects o r (by.thrown r is);
  }

  pub thrown-written : (place : Placing) (objects : List (Object D)) (position index : ℕ) (v : Value) (pending : Option Reference) (word : ℕ) → ThrownBy objects place pending word
      → ThrownBy (change_at position (with_value index v) objects) place pending word
  thrown-written place objects position index v pending word by = record {
    same_word = by.same_word;
    thrown = λ r is. exception-written objects position index v r (by.thrown r is);
  }

  -- with another value in a host object, which is no exception
  exception-beside : (objects : List (Object D)) (position : ℕ) (w : D) (r : Reference) → IsException objects r → IsException (change_at position (with_host_value w) objects) r
  exception-beside objects position w r is = record {
    position = is.position;
    reference_is = is.reference_is;
    ty = is.ty;
    tag = is.tag;
    values = is.values;
    object_is = elim (cases_eq is.position position) [
      | inl same ↦
          ap (slice_get (change_at position (with_host_value w) objects)) same
          ∙ slice_get-change_at_same position (with_host_value w) objects (exception is.ty is.tag is.values) (ap (slice_get objects) (sym same) ∙ is.object_is)
      | inr differ ↦ slice_get-change_at_other position (with_host_value w) objects is.position differ ∙ is.object_is
    ];
  }

  pub thrown-beside : (place : Placing) (objects : List (Object D)) (position : ℕ) (w : D) (pending : Option Reference) (word : ℕ) → ThrownBy objects place pending word
      → ThrownBy (change_at position (with_host_value w) objects) place pending word
  thrown-beside place objects position w pending word by = record {
    same_word = by.same_word;
    thrown = λ r is. exception-beside objects position w r (by.thrown r is);
  }
