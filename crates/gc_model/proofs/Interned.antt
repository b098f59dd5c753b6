-- Values that are interned, one more and those of a list, and their ids; and the function values and continuations among
-- what slots keep of values.
use Rattle.std.proofs.Common.{◌≡◌, ◌≢◌, ℕ, zero, suc, ◌+◌, ◌<◌, ◌≤◌, ◌⊎◌, inl, inr, ◌&&◌, ◌||◌, ◌==◌, Bool, true, false, cond, List, [], ◌∷◌, ◌++◌, length, map, Option, Some, None, true≢false, refl, sym, ap, ap₂, ◌∙◌, subst, arith, eq-eqb, eqb-true, Contains}
use Rattle.std.specs.Prelude.{replicate}
use Rattle.std.specs.List.{list_any}
use Rattle.std.specs.Option.{is_some}
use Rattle.std.specs.Ordering.{nat_cmp}
use Rattle.std.specs.Cmp.{nat_cmp_total}
use Rattle.std.specs.FinMap.{FinMap, get, insert, empty, len, get-empty, len-insert, len-empty, empty_of_len}
use Rattle.std.proofs.lemmas.Bool.{cases_eq}
use Rattle.std.proofs.lemmas.Option.{none-some, same_Some}
use Rattle.std.proofs.lemmas.List.{length_push}
use Rattle.std.proofs.lemmas.List.Elements.{Contains-push_cases, Contains-append_left, Contains-append_right, Contains-append_cases, Contains-get_or}
use Rattle.std.proofs.lemmas.List.Quantifiers.{all_pairs_push}
use Rattle.std.proofs.lemmas.Map.Views.{Contains-from_any}
use Rattle.gc_types.specs.declared.value.Func.{Func}
use Rattle.gc_types.specs.declared.value.FieldType.{FieldType}
use Rattle.gc_types.specs.declared.value.StorageType.{StorageType}
use Rattle.gc_types.specs.declared.value.StorageType.TheVariants as storage
use Rattle.gc_tables.specs.FuncEquality.{func_exact}
use Rattle.gc_tables.proofs.InternLemmas.{get-added_here, get-added_behind}
use Rattle.gc_memory.proofs.ListLemmas.{only_item}
use Rattle.gc_model.specs.Values.{Value, numeric, i32, function, continuation, reference}
use Rattle.gc_model.specs.Stored.{stored, stored_in, byte_value}
use Rattle.gc_model.specs.SideValues.{IdsBy, InternedBy, InternedIds, SideValues, conts_of, functions_of, max_entries, no_ids, no_side_values, same_cont, same_function, side_values, with_each, with_one, with_side_values}

-- the test finds each value the same as itself, and as no other
pub record IsExact {A : Type 0} (same : A → A → Bool) : Type 0 where
  pub exact : (x y : A) → same x y ≡ true → x ≡ y
  pub itself : (x : A) → same x x ≡ true

function_itself : (f : Option Func) → same_function f f ≡ true
function_itself None = refl
function_itself (Some f) = ap (λ b. b && (f.ty == f.ty)) (eq-eqb f.number f.number refl) ∙ eq-eqb f.ty f.ty refl

pub functions_exact : IsExact same_function
functions_exact = record { exact = func_exact; itself = function_itself }

pub conts_exact : IsExact same_cont
conts_exact = record { exact = eqb-true; itself = λ c. eq-eqb c c refl }

module _ {A : Type 0} (same : A → A → Bool) (tells : IsExact same) where
  among_any : (x : A) (known : List A) → Contains known x → list_any (same x) known ≡ true
  among_any x [] c = absurd (omega (arith, c.1))
  among_any x (y ∷ known) c = elim (Contains-append_cases (y ∷ []) known x c) [
    | inl one ↦ ap (λ b. b || list_any (same x) known) (ap (same x) (only_item y x one) ∙ tells.itself x)
    | inr later ↦ elim (same x y) as (λ b. (b || list_any (same x) known) ≡ true) [ true ↦ refl | false ↦ among_any x known later ]
  ]

  any_among : (x : A) (known : List A) → list_any (same x) known ≡ true → Contains known x
  any_among x known e = Contains-from_any tells.exact x known e

  -- where a value is among the known ones nothing is added, else it is behind them
  pub with-known : (x : A) (known : List A) → Contains known x → with_one same x known ≡ known
  with-known x known c = ap (λ b. cond b known (known ++ x ∷ [])) (among_any x known c)

  pub with-new : (x : A) (known : List A) → ¬ Contains known x → with_one same x known ≡ known ++ x ∷ []
  with-new x known missing =
      elim (list_any (same x) known) as (λ b. list_any (same x) known ≡ b → cond b known (known ++ x ∷ []) ≡ known ++ x ∷ []) [
        | true ↦ λ e. absurd (missing (any_among x known e))
        | false ↦ λ e. refl
      ] refl

  -- whether it is one of them is decided
  pub among_or_not : (x : A) (known : List A) → Contains known x ⊎ (¬ Contains known x)
  among_or_not x known =
      elim (list_any (same x) known) as (λ b. list_any (same x) known ≡ b → Contains known x ⊎ (¬ Contains known x)) [
        | true ↦ λ e. inl (any_among x known e)
        | false ↦ λ e. inr (λ c. true≢false (sym (among_any x known c) ∙ e))
      ] refl

  pub with-contains : (x y : A) (known : List A) → Contains known y → Contains (with_one same x known) y
  with-contains x y known c = elim (list_any (same x) known) as (λ b. Contains (cond b known (known ++ x ∷ [])) y) [ true ↦ c | false ↦ Contains-append_left known (x ∷ []) y c ]

  -- it is one of them then
  pub with-itself : (x : A) (known : List A) → Contains (with_one same x known) x
  with-itself x known = elim (among_or_not x known) [
    | inl c ↦ with-contains x x known c
    | inr missing ↦ subst (λ (xs : List A). Contains xs x) (sym (with-new x known missing)) (Contains-append_right known (x ∷ []) x (0, omega arith, refl))
  ]

  pub with-le : (x : A) (known : List A) → length known ≤ length (with_one same x known)
  with-le x known = elim (list_any (same x) known) as (λ b. length known ≤ length (cond b known (known ++ x ∷ []))) [ true ↦ omega arith | false ↦ omega (arith, length_push known x) ]

  -- those of a list
  pub all-le : (xs known : List A) → length known ≤ length (with_each same xs known)
  all-le [] known = omega arith
  all-le (x ∷ xs) known = omega (arith, with-le x known, all-le xs (with_one same x known))

  pub all-append : (xs ys known : List A) → with_each same (xs ++ ys) known ≡ with_each same ys (with_each same xs known)
  all-append [] ys known = refl
  all-append (x ∷ xs) ys known = all-append xs ys (with_one same x known)

  pub all-contains : (xs known : List A) (y : A) → Contains known y → Contains (with_each same xs known) y
  all-contains [] known y c = c
  all-contains (x ∷ xs) known y c = all-contains xs (with_one same x known) y (with-contains x y known c)

  -- each of them is one of the known ones then
  pub all-given : (xs known : List A) (y : A) → Contains xs y → Contains (with_each same xs known) y
  all-given [] known y c = absurd (omega (arith, c.1))
  all-given (x ∷ xs) known y c = elim (Contains-append_cases (x ∷ []) xs y c) [
    | inl one ↦ all-contains xs (with_one same x known) y (subst (Contains (with_one same x known)) (only_item x y one) (with-itself x known))
    | inr later ↦ all-given xs (with_one same x known) y later
  ]

  -- where they are known already nothing is added
  all-known : (xs known : List A) → ((y : A) → Contains xs y → Contains known y) → with_each same xs known ≡ known
  all-known [] known are = refl
  all-known (x ∷ xs) known are =
      ap (with_each same xs) (with-known x known (are x (Contains-append_left (x ∷ []) xs x (0, omega arith, refl))))
      ∙ all-known xs known (λ y c. are y (Contains-append_right (x ∷ []) xs y c))

  -- one value for all elements is interned once
  module _ (only : List Value → List A) (first : (v : Value) (vs : List Value) → only (v ∷ vs) ≡ only (v ∷ []) ++ only vs) (none : only [] ≡ []) where
    again : (n : ℕ) (v : Value) (known : List A) → ((y : A) → Contains (only (v ∷ [])) y → Contains known y) → with_each same (only (replicate n v)) known ≡ known
    again zero v known are = ap (λ (xs : List A). with_each same xs known) none
    again (suc n) v known are =
        ap (λ (xs : List A). with_each same xs known) (first v (replicate n v)) ∙ all-append (only (v ∷ [])) (only (replicate n v)) known
        ∙ ap (with_each same (only (replicate n v))) (all-known (only (v ∷ [])) known are) ∙ again n v known are

    pub each-replicate : (n : ℕ) (v : Value) (known : List A) → with_each same (only (replicate (suc n) v)) known ≡ with_each same (only (v ∷ [])) known
    each-replicate n v known =
        ap (λ (xs : List A). with_each same xs known) (first v (replicate n v)) ∙ all-append (only (v ∷ [])) (only (replicate n v)) known
        ∙ again n v (with_each same (only (v ∷ [])) known) (λ y c. all-given (only (v ∷ [])) known y c)

-- function values and continuations

pub side_same : (a b : SideValues) → a.funcs ≡ b.funcs → a.conts ≡ b.conts → a ≡ b
side_same a b funcs conts i = record { funcs = funcs i; conts = conts i }

-- those of the first, and those of the rest
abbrev pub side_joined : SideValues → SideValues → SideValues
side_joined a b = record { funcs = a.funcs ++ b.funcs; conts = a.conts ++ b.conts }

pub side-first : (v : Value) (vs : List Value) → side_values (v ∷ vs) ≡ side_joined (side_values (v ∷ [])) (side_values vs)
side-first (numeric kind n) vs = refl
side-first (function f) vs = refl
side-first (continuation None) vs = refl
side-first (continuation (Some c)) vs = refl
side-first (reference class r) vs = refl

pub side-replicate : (n : ℕ) (v : Value) (known : SideValues) → with_side_values (side_values (replicate (suc n) v)) known ≡ with_side_values (side_values (v ∷ [])) known
side-replicate n v known =
    side_same (with_side_values (side_values (replicate (suc n) v)) known) (with_side_values (side_values (v ∷ [])) known)
    (each-replicate same_function functions_exact functions_of (λ w ws. ap (λ (s : SideValues). s.funcs) (side-first w ws)) refl n v known.funcs)
    (each-replicate same_cont conts_exact conts_of (λ w ws. ap (λ (s : SideValues). s.conts) (side-first w ws)) refl n v known.conts)

-- what a slot keeps of a value has its function values and continuations
pub side-stored : (ty : StorageType) (v : Value) → side_values (stored ty v ∷ []) ≡ side_values (v ∷ [])
side-stored storage.I8 (numeric i32 n) = refl
side-stored storage.I16 (numeric i32 n) = refl
side-stored _ _ = refl

pub side-joined : (v w : Value) (vs ws : List Value) → side_values (v ∷ []) ≡ side_values (w ∷ []) → side_values vs ≡ side_values ws → side_values (v ∷ vs) ≡ side_values (w ∷ ws)
side-joined v w vs ws first rest = side-first v vs ∙ ap₂ side_joined first rest ∙ sym (side-first w ws)

-- so it is of what fields keep of values, and elements
pub side-stored_in : (fields : List FieldType) (vs : List Value) → length vs ≡ length fields → side_values (stored_in fields vs) ≡ side_values vs
side-stored_in [] [] same = refl
side-stored_in [] (v ∷ vs) same = absurd (omega (arith, same))
side-stored_in (field ∷ fields) [] same = refl
side-stored_in (field ∷ fields) (v ∷ vs) same =
    side-joined (stored field.element_type v) v (stored_in fields vs) vs (side-stored field.element_type v) (side-stored_in fields vs (omega (arith, same)))

pub side-mapped : (ty : StorageType) (vs : List Value) → side_values (map (stored ty) vs) ≡ side_values vs
side-mapped ty [] = refl
side-mapped ty (v ∷ vs) = side-joined (stored ty v) v (map (stored ty) vs) vs (side-stored ty v) (side-mapped ty vs)

pub side-bytes : (bytes : List ℕ) → side_values (map byte_value bytes) ≡ no_side_values
side-bytes [] = refl
side-bytes (b ∷ bytes) = side-bytes bytes

-- ids

module _ {A : Type 0} where
  -- none is interned
  pub ids-none : (ids : FinMap nat_cmp A) → ids ≡ empty → IdsBy [] ids
  ids-none ids none = record {
    in_store = λ x c. absurd (omega (arith, c.1));
    in_table = λ id x e. absurd (none-some x (sym (get-empty nat_cmp id) ∙ ap (λ (m : FinMap nat_cmp A). get m id) (sym none) ∙ e));
    once = λ i j d less inside. absurd (omega arith);
    same_count = ap (λ (m : FinMap nat_cmp A). len m) none ∙ len-empty nat_cmp A;
    few = omega arith;
  }

  -- one more is, under an id that named none
  pub ids-added : (known : List A) (ids : FinMap nat_cmp A) (id : ℕ) (x : A) → IdsBy known ids → ¬ Contains known x → get ids id ≡ None → length known < max_entries → IdsBy (known ++ x ∷ []) (insert ids id x)
  ids-added known ids id x by missing fresh few = record {
    in_store = λ y c. elim (Contains-push_cases known x y c) [
      | inl old ↦
          let was = by.in_store y old in
          (was.0, get-added_behind ids id x was.0 (λ same. none-some y (sym fresh ∙ ap (get ids) (sym same) ∙ was.1)) ∙ was.1)
      | inr new ↦ (id, get-added_here ids id x id refl ∙ ap Some new)
    ];
    in_table = λ q y e. elim (cases_eq q id) [
      | inl here ↦ subst (Contains (known ++ x ∷ [])) (same_Some x y (sym (get-added_here ids id x q here) ∙ e)) (Contains-append_right known (x ∷ []) x (0, omega arith, refl))
      | inr behind ↦ Contains-append_left known (x ∷ []) y (by.in_table q y (sym (get-added_behind ids id x q behind) ∙ e))
    ];
    once = all_pairs_push (λ (y z : A). y ≢ z) known x by.once (λ k d below same. missing (subst (Contains known) same (Contains-get_or known k d below)));
    same_count = len-insert nat_cmp_total ids id x ∙ ap (λ b. cond b (len ids) (len ids + 1)) (ap is_some fresh) ∙ ap (λ n. n + 1) by.same_count ∙ sym (length_push known x);
    few = omega (arith, few, length_push known x);
  }

pub interned-none : (ids : InternedIds) → ids ≡ no_ids → InternedBy no_side_values ids
interned-none ids none = record {
  funcs = ids-none ids.funcs (ap (λ (i : InternedIds). i.funcs) none);
  conts = ids-none ids.conts (ap (λ (i : InternedIds). i.conts) none);
}

pub ids_same : (a b : InternedIds) → a.funcs ≡ b.funcs → a.conts ≡ b.conts → a ≡ b
ids_same a b funcs conts i = record { funcs = funcs i; conts = conts i }

pub none_interned : (ids : InternedIds) → InternedBy no_side_values ids → ids ≡ no_ids
none_interned ids by = ids_same ids no_ids (empty_of_len ids.funcs by.funcs.same_count) (empty_of_len ids.conts by.conts.same_count)
