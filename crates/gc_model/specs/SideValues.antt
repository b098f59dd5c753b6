-- Values that stand in tables beside the heap: function values, of which none is one too, and continuations that are
-- present. Those among values, those that are interned, and the ids by which they stand in a heap.
use Rattle.std.specs.Prelude.{◌≡◌, ◌≢◌, ℕ, ◌+◌, ◌≤◌, ◌==◌, ◌&&◌, nat_lt, Bool, List, [], ◌∷◌, ◌++◌, length, Option, Some, None, if◌then◌else◌}
use Rattle.std.specs.List.{AllPairs, Contains, list_any}
use Rattle.std.specs.Option.{option_eq}
use Rattle.std.specs.Ordering.{nat_cmp}
use Rattle.std.specs.FinMap as map
use Rattle.gc_types.specs.declared.value.Func.{Func}
pub use Rattle.gc_tables.specs.SideTables.{max_entries}
use Rattle.gc_model.specs.Values.{Value, numeric, function, continuation, reference}

-- the known ones, and this one behind them where it is none of them
abbrev pub with_one : {A : Type 0} → (A → A → Bool) → A → List A → List A
with_one same x known = if list_any (same x) known then known else known ++ x ∷ []

-- the known ones, and behind them those of a list that are none of them, in order and each once
abbrev pub with_each : {A : Type 0} → (A → A → Bool) → List A → List A → List A
with_each same [] known = known
with_each same (x ∷ xs) known = with_each same xs (with_one same x known)

-- with those of a list they would be more than may be interned
abbrev pub passes_most : {A : Type 0} → (A → A → Bool) → List A → List A → Bool
passes_most same xs known = nat_lt max_entries (length (with_each same xs known))

-- the number that stands in a heap for what is interned: one above its id
pub record IsIdCode {A : Type 0} (ids : map.FinMap nat_cmp A) (x : A) (code : ℕ) : Type 0 where
  pub id : ℕ
  pub interned : map.get ids id ≡ Some x
  pub code_is : code ≡ id + 1

-- What has ids in the store is what the table has interned, each once, and no more than may be.
pub record IdsBy {A : Type 0} (interned : List A) (ids : map.FinMap nat_cmp A) : Type 0 where
  pub in_store : (x : A) → Contains interned x → (id : ℕ) × (map.get ids id ≡ Some x)
  pub in_table : (id : ℕ) (x : A) → map.get ids id ≡ Some x → Contains interned x
  pub once : AllPairs (λ (x y : A). x ≢ y) interned
  pub same_count : map.len ids ≡ length interned
  pub few : length interned ≤ max_entries

abbrev pub same_function : Option Func → Option Func → Bool
same_function f g = option_eq (λ x y. (x.number == y.number) && (x.ty == y.ty)) f g

abbrev pub same_cont : ℕ → ℕ → Bool
same_cont a b = a == b

-- the function values among values, in order; none is one of them
abbrev pub functions_of : List Value → List (Option Func)
functions_of [] = []
functions_of (numeric kind n ∷ values) = functions_of values
functions_of (function f ∷ values) = f ∷ functions_of values
functions_of (continuation c ∷ values) = functions_of values
functions_of (reference class r ∷ values) = functions_of values

-- the continuations that are present among values, in order
abbrev pub conts_of : List Value → List ℕ
conts_of [] = []
conts_of (numeric kind n ∷ values) = conts_of values
conts_of (function f ∷ values) = conts_of values
conts_of (continuation None ∷ values) = conts_of values
conts_of (continuation (Some c) ∷ values) = c ∷ conts_of values
conts_of (reference class r ∷ values) = conts_of values

-- function values and continuations
pub record SideValues : Type 0 where
  pub funcs : List (Option Func)
  pub conts : List ℕ

abbrev pub no_side_values : SideValues
no_side_values = record { funcs = []; conts = [] }

-- those among values
abbrev pub side_values : List Value → SideValues
side_values values = record { funcs = functions_of values; conts = conts_of values }

-- the known ones, and behind them those that are given and none of them, in order and each once
abbrev pub with_side_values : SideValues → SideValues → SideValues
with_side_values given known = record {
  funcs = with_each same_function given.funcs known.funcs;
  conts = with_each same_cont given.conts known.conts;
}

-- with those that are given they would be more function values, or more continuations, than may be interned
abbrev pub functions_full : SideValues → SideValues → Bool
functions_full given known = passes_most same_function given.funcs known.funcs

abbrev pub conts_full : SideValues → SideValues → Bool
conts_full given known = passes_most same_cont given.conts known.conts

-- function values and continuations by the ids under which they are interned
pub record InternedIds : Type 0 where
  pub funcs : map.FinMap nat_cmp (Option Func)
  pub conts : map.FinMap nat_cmp ℕ

abbrev pub no_ids : InternedIds
no_ids = record { funcs = map.empty; conts = map.empty }

-- the function values and the continuations that have ids in the store are those of the table
pub record InternedBy (interned : SideValues) (ids : InternedIds) : Type 0 where
  pub funcs : IdsBy interned.funcs ids.funcs
  pub conts : IdsBy interned.conts ids.conts

-- the number that stands in a heap for a continuation, which is 0 where there is none
abbrev pub IsContCode : map.FinMap nat_cmp ℕ → Option ℕ → ℕ → Type 0
IsContCode ids None code = code ≡ 0
IsContCode ids (Some c) code = IsIdCode ids c code
