-- Whether heap types match can be worked out: by following supertypes and by the diagram of heap types.
use Rattle.std.proofs.Common.{◌≡◌, ◌↔◌, ℕ, zero, suc, ◌<◌, ◌||◌, Bool, true, false, IsTrue, List, Option, Some, None, take, refl, sym, ap, ◌∙◌, subst, arith, eq-eqb, inl, inr}
use Rattle.std.specs.List.{slice_get}
use Rattle.std.specs.Prelude.{◌==◌, option_map}
use Rattle.std.proofs.lemmas.Bool.{cases_eq}
use Rattle.std.proofs.lemmas.Option.{none-some, slice_get_within, slice_get_cases, slice_get-map}
use Rattle.std.proofs.lemmas.List.{length-take}
use Rattle.gc_types.specs.declared.value.HeapType.{HeapType}
use Rattle.gc_types.specs.declared.value.HeapType.TheVariants as heap
use Rattle.gc_types.specs.declared.value.RefType.{RefType}
use Rattle.gc_types.specs.declared.kind.TypeKind.TheVariants as kinds
use Rattle.gc_types.specs.Declarations.{Declaration}
use Rattle.gc_types.specs.Declarable.{AreDeclared, ExtendsOf}
use Rattle.gc_types.specs.HeapTypes.{is_under}
use Rattle.gc_types.specs.Subtyping.{Meets, here, up, MatchesHeap, MatchesRef, along, concrete_struct, concrete_array, concrete_func, concrete_exn, supertypes_of}
use Rattle.gc_types.proofs.HeapMatching.{table_sound, by_table, by_index}
use Rattle.gc_model.specs.Fits.{meets_from, climbs, is_subtype, matches}

or_found : (a b : Bool) → (a || b) ≡ true → (a ≡ true → ⊥) → b ≡ true
or_found true b e no_first = absurd (no_first refl)
or_found false b e no_first = e

or_first : (a b : Bool) → a ≡ true → (a || b) ≡ true
or_first true b e = refl
or_first false b e = absurd (cc)

or_second : (a b : Bool) → b ≡ true → (a || b) ≡ true
or_second true b e = refl
or_second false b e = e

equal_numbers : (a b : ℕ) → (a == b) ≡ true → a ≡ b
equal_numbers a b e = grind (arith, e)

-- supertypes are older than their subtypes
abbrev pub AreOlder : List (Option ℕ) → Type 0
AreOlder supers = (a p : ℕ) → slice_get supers a ≡ Some (Some p) → p < a

-- one step of a climb
step_meets : (supers : List (Option ℕ)) (goes_on : ℕ → Bool) (a b : ℕ) → ((p : ℕ) → goes_on p ≡ true → Meets supers p b) → meets_from goes_on (slice_get supers a) a b ≡ true → Meets supers a b
step_meets supers goes_on a b rest e = by (slice_get supers a) refl e
  where
    by : (s : Option (Option ℕ)) → slice_get supers a ≡ s → meets_from goes_on s a b ≡ true → Meets supers a b
    by None is found = absurd (cc)
    by (Some None) is found = subst (Meets supers a) (equal_numbers a b found) (here (slice_get_within supers a None is))
    by (Some (Some p)) is found = elim (cases_eq a b) [
      | inl same ↦ subst (Meets supers a) same (here (slice_get_within supers a (Some p) is))
      | inr differ ↦ up is (rest p (or_found (a == b) (goes_on p) found (λ e. differ (equal_numbers a b e))))
    ]

-- a climb that meets a type shows that the first is a subtype of it
climbed : (n : ℕ) (supers : List (Option ℕ)) (a b : ℕ) → climbs n supers a b ≡ true → Meets supers a b
climbed zero supers a b e = absurd (cc)
climbed (suc n) supers a b e = step_meets supers (λ p. climbs n supers p b) a b (λ p. climbed n supers p b) e

meets_itself : (s : Option ℕ) (goes_on : ℕ → Bool) (a : ℕ) → meets_from goes_on (Some s) a a ≡ true
meets_itself None goes_on a = eq-eqb a a refl
meets_itself (Some p) goes_on a = or_first (a == a) (goes_on p) (eq-eqb a a refl)

-- and a climb meets each supertype where these are older, in as many steps as the first type's index
climbs_to : (supers : List (Option ℕ)) → AreOlder supers → {a b : ℕ} → Meets supers a b → (n : ℕ) → a < n → climbs n supers a b ≡ true
climbs_to supers older m zero below = absurd (omega (arith, below))
climbs_to supers older (here {a = a} within) (suc n) below = elim ((slice_get_cases supers a).1) [
  | inl found ↦ ap (λ s. meets_from (λ p. climbs n supers p a) s a a) found.2 ∙ meets_itself found.0 (λ p. climbs n supers p a) a
  | inr past ↦ absurd (omega (arith, past.0, within))
]
climbs_to supers older (up {a = a} {p = p} {b = b} is m) (suc n) below =
    ap (λ s. meets_from (λ q. climbs n supers q b) s a b) is
    ∙ or_second (a == b) (climbs n supers p b) (climbs_to supers older m n (omega (arith, older a p is, below)))

pub is_subtype-meets : (supers : List (Option ℕ)) → AreOlder supers → (a b : ℕ) → (is_subtype supers a b ≡ true) ↔ Meets supers a b
is_subtype-meets supers older a b = (climbed (suc a) supers a b, λ m. climbs_to supers older m (suc a) (omega arith))

matches_sound : (supers : List (Option ℕ)) (x y : HeapType) → matches supers x y ≡ true → MatchesHeap supers x y
matches_sound supers (heap.ConcreteStruct a) (heap.ConcreteStruct b) e = along (concrete_struct (climbed (suc a) supers a b e))
matches_sound supers (heap.ConcreteArray a) (heap.ConcreteArray b) e = along (concrete_array (climbed (suc a) supers a b e))
matches_sound supers (heap.ConcreteFunc a) (heap.ConcreteFunc b) e = along (concrete_func (climbed (suc a) supers a b e))
matches_sound supers (heap.ConcreteExn a) (heap.ConcreteExn b) e = along (concrete_exn (climbed (suc a) supers a b e))
matches_sound supers (heap.ConcreteStruct a) (heap.ConcreteArray b) e = absurd (cc)
matches_sound supers (heap.ConcreteStruct a) (heap.ConcreteFunc b) e = absurd (cc)
matches_sound supers (heap.ConcreteStruct a) (heap.ConcreteExn b) e = absurd (cc)
matches_sound supers (heap.ConcreteArray a) (heap.ConcreteStruct b) e = absurd (cc)
matches_sound supers (heap.ConcreteArray a) (heap.ConcreteFunc b) e = absurd (cc)
matches_sound supers (heap.ConcreteArray a) (heap.ConcreteExn b) e = absurd (cc)
matches_sound supers (heap.ConcreteFunc a) (heap.ConcreteStruct b) e = absurd (cc)
matches_sound supers (heap.ConcreteFunc a) (heap.ConcreteArray b) e = absurd (cc)
matches_sound supers (heap.ConcreteFunc a) (heap.ConcreteExn b) e = absurd (cc)
matches_sound supers (heap.ConcreteExn a) (heap.ConcreteStruct b) e = absurd (cc)
matches_sound supers (heap.ConcreteExn a) (heap.ConcreteArray b) e = absurd (cc)
matches_sound supers (heap.ConcreteExn a) (heap.ConcreteFunc b) e = absurd (cc)
matches_sound supers x y e = table_sound supers x y e tt

matches_whole : (supers : List (Option ℕ)) → AreOlder supers → (x y : HeapType) → MatchesHeap supers x y → matches supers x y ≡ true
matches_whole supers older (heap.ConcreteStruct a) (heap.ConcreteStruct b) m = (is_subtype-meets supers older a b).1 (by_index supers (heap.ConcreteStruct a) (heap.ConcreteStruct b) kinds.Struct kinds.Struct a b refl refl m).1
matches_whole supers older (heap.ConcreteArray a) (heap.ConcreteArray b) m = (is_subtype-meets supers older a b).1 (by_index supers (heap.ConcreteArray a) (heap.ConcreteArray b) kinds.Array kinds.Array a b refl refl m).1
matches_whole supers older (heap.ConcreteFunc a) (heap.ConcreteFunc b) m = (is_subtype-meets supers older a b).1 (by_index supers (heap.ConcreteFunc a) (heap.ConcreteFunc b) kinds.Func kinds.Func a b refl refl m).1
matches_whole supers older (heap.ConcreteExn a) (heap.ConcreteExn b) m = (is_subtype-meets supers older a b).1 (by_index supers (heap.ConcreteExn a) (heap.ConcreteExn b) kinds.Exn kinds.Exn a b refl refl m).1
matches_whole supers older (heap.ConcreteStruct a) (heap.ConcreteArray b) m = absurd (let e = (by_index supers (heap.ConcreteStruct a) (heap.ConcreteArray b) kinds.Struct kinds.Array a b refl refl m).0 in cc)
matches_whole supers older (heap.ConcreteStruct a) (heap.ConcreteFunc b) m = absurd (let e = (by_index supers (heap.ConcreteStruct a) (heap.ConcreteFunc b) kinds.Struct kinds.Func a b refl refl m).0 in cc)
matches_whole supers older (heap.ConcreteStruct a) (heap.ConcreteExn b) m = absurd (let e = (by_index supers (heap.ConcreteStruct a) (heap.ConcreteExn b) kinds.Struct kinds.Exn a b refl refl m).0 in cc)
matches_whole supers older (heap.ConcreteArray a) (heap.ConcreteStruct b) m = absurd (let e = (by_index supers (heap.ConcreteArray a) (heap.ConcreteStruct b) kinds.Array kinds.Struct a b refl refl m).0 in cc)
matches_whole supers older (heap.ConcreteArray a) (heap.ConcreteFunc b) m = absurd (let e = (by_index supers (heap.ConcreteArray a) (heap.ConcreteFunc b) kinds.Array kinds.Func a b refl refl m).0 in cc)
matches_whole supers older (heap.ConcreteArray a) (heap.ConcreteExn b) m = absurd (let e = (by_index supers (heap.ConcreteArray a) (heap.ConcreteExn b) kinds.Array kinds.Exn a b refl refl m).0 in cc)
matches_whole supers older (heap.ConcreteFunc a) (heap.ConcreteStruct b) m = absurd (let e = (by_index supers (heap.ConcreteFunc a) (heap.ConcreteStruct b) kinds.Func kinds.Struct a b refl refl m).0 in cc)
matches_whole supers older (heap.ConcreteFunc a) (heap.ConcreteArray b) m = absurd (let e = (by_index supers (heap.ConcreteFunc a) (heap.ConcreteArray b) kinds.Func kinds.Array a b refl refl m).0 in cc)
matches_whole supers older (heap.ConcreteFunc a) (heap.ConcreteExn b) m = absurd (let e = (by_index supers (heap.ConcreteFunc a) (heap.ConcreteExn b) kinds.Func kinds.Exn a b refl refl m).0 in cc)
matches_whole supers older (heap.ConcreteExn a) (heap.ConcreteStruct b) m = absurd (let e = (by_index supers (heap.ConcreteExn a) (heap.ConcreteStruct b) kinds.Exn kinds.Struct a b refl refl m).0 in cc)
matches_whole supers older (heap.ConcreteExn a) (heap.ConcreteArray b) m = absurd (let e = (by_index supers (heap.ConcreteExn a) (heap.ConcreteArray b) kinds.Exn kinds.Array a b refl refl m).0 in cc)
matches_whole supers older (heap.ConcreteExn a) (heap.ConcreteFunc b) m = absurd (let e = (by_index supers (heap.ConcreteExn a) (heap.ConcreteFunc b) kinds.Exn kinds.Func a b refl refl m).0 in cc)
matches_whole supers older x y m = (by_table supers x y (is_under x y) refl tt).1 m

-- Heap types match as the diagram says where the test says so.
pub matches-heap : (supers : List (Option ℕ)) → AreOlder supers → (x y : HeapType) → (matches supers x y ≡ true) ↔ MatchesHeap supers x y
matches-heap supers older x y = (matches_sound supers x y, matches_whole supers older x y)

-- the supertypes of types that were declared one behind the other are older
pub declared_older : (types : List Declaration) → AreDeclared types → AreOlder (supertypes_of types)
declared_older types declared a p e = by (slice_get types a) refl (sym (slice_get-map (λ (d : Declaration). d.supertype) types a) ∙ e)
  where
    extends_older : (s : Option ℕ) (d : Declaration) → ExtendsOf (take a types) d s → s ≡ Some p → p < a
    extends_older None d extends is = absurd (none-some p is)
    extends_older (Some q) d extends is =
        let same : q ≡ p = grind (arith, is) in
        omega (arith, slice_get_within (take a types) q extends.supertype extends.earlier, length-take a types, same)

    by : (d : Option Declaration) → slice_get types a ≡ d → option_map (λ (x : Declaration). x.supertype) d ≡ Some (Some p) → p < a
    by None is found = absurd (none-some (Some p) found)
    by (Some d) is found = extends_older d.supertype d (declared.each a d is).extends (let same : d.supertype ≡ Some p = grind (arith, found) in same)

-- two tests are the same where they say the same
same_test : (a b : Bool) → (a ≡ true → b ≡ true) → (b ≡ true → a ≡ true) → a ≡ b
same_test true b there back = sym (there refl)
same_test false true there back = back refl
same_test false false there back = refl

-- What a test of reference types answers about one that isn't nullable is whether its heap type matches.
pub matches-ref : (supers : List (Option ℕ)) → AreOlder supers → (own : HeapType) (ty : RefType) (b : Bool) → (IsTrue b ↔ MatchesRef supers (record { nullable = false; heap_type = own }) ty) → b ≡ matches supers own ty.heap_type
matches-ref supers older own ty b is =
    same_test b (matches supers own ty.heap_type)
    (λ e. matches_whole supers older own ty.heap_type (is.0 e).heap_type)
    (λ e. is.1 (record { heap_type = matches_sound supers own ty.heap_type e; nullable = λ nullable. absurd (cc nullable) }))
