-- The tests of the commands that make objects, in their orders, and what is left to the heap.
use Rattle.std.proofs.Common.{◌≡◌, ◌≢◌, ℕ, suc, ◌==◌, ◌<◌, List, [], ◌∷◌, ◌++◌, length, cond, Option, Some, None, Bool, true, false, not, sym, ap, ◌∙◌, refl, subst, arith}
use Rattle.std.specs.Prelude.{Result, Ok, Err, is_none, unwrap_or, ◌||◌}
use Rattle.std.specs.List.{slice_get}
use Rattle.std.specs.Option.{option_map, option_and_then}
use Rattle.std.proofs.lemmas.Bool.Decides.{nat_tests}
use Rattle.std.proofs.lemmas.List.Concat.{flat_map-cons}
use Rattle.std.proofs.lemmas.Option.{none-some}
use Rattle.std.proofs.lemmas.Slice.Zip.{AllZip-long}
use Rattle.gc_types.specs.declared.kind.Layouts.{Layouts}
use Rattle.gc_types.specs.declared.value.FieldType.{FieldType}
use Rattle.gc_types.specs.Declarations.{Declaration, Shape, struct_of, array_of, exn_of, func_of, declaration_fields, declaration_struct_fields, shape_fields, shape_struct_fields, fields_at, struct_fields_at, elem_at}
use Rattle.gc_model.specs.Allocation.{Limits}
use Rattle.gc_model.specs.Stores.{StoreView}
use Rattle.gc_values.specs.declared.root.RawValue.{RawValue}
use Rattle.gc_store.specs.Requests.{struct_fields_of}
use Rattle.gc_commands.specs.declared.command.Command.{Command}
use Rattle.gc_commands.specs.declared.command.Command.TheVariants.{New, NewArr, Fixed, NewBytes}
use Rattle.gc_commands.specs.declared.command.Operand.{Operand}
use Rattle.gc_commands.specs.declared.reply.Reply.{Reply}
use Rattle.gc_commands.specs.declared.reply.Refusal.{Refusal}
use Rattle.gc_commands.specs.declared.reply.Refusal.TheVariants as refusal
use Rattle.gc_model.specs.Table.{Table}
use Rattle.gc_script.specs.declared.runner.RunError.{RunError}
use Rattle.gc_script.specs.declared.objects.ValueTypes.TheVariants as types_of
use Rattle.gc_script.specs.Slots.{RunnerView}
use Rattle.gc_script.specs.State.{State, RegisterStands}
use Rattle.gc_script.specs.Given.{held_operand, given, is_unset, holds_bytes}
use Rattle.gc_script.specs.Steps.{tests, first_failing, any_unset, count_in, value_tests, all_value_tests, element_tests, heap_tests}
use Rattle.gc_script.specs.Shapes.{shape, given_struct, filled_array, new_fixed, new_bytes}
use Rattle.gc_script.specs.Run.{WantsAfter, RunsOn, RunsOne}
use Rattle.gc_script.specs.Named.{type_at}
use Rattle.gc_script.specs.Values.{AllHeld, typed_tests}
use Rattle.gc_script.proofs.TestLemmas.{passes, stops, passes_all, stops_all, answers_by, follows_by}
use Rattle.gc_script.proofs.WriteLemmas.{is_set}

-- how many fields the struct type has; 0 where it isn't declared
abbrev field_count : Table ℕ → ℕ → ℕ
field_count t ty = count_in (struct_fields_at t.types ty)

-- a command whose first tests passed runs as the rest of its tests say
pub runs_rest : (layouts : Layouts) (counter : Option ℕ) (limits limits' : Limits) (s : State) (c : Command) (left : List (Bool × Refusal)) (result : Result Reply RunError) (new : StoreView ℕ) (runner : RunnerView)
    → first_failing (tests layouts s c) ≡ first_failing left → RunsOn layouts counter limits limits' s (shape c) left result new runner → RunsOne layouts counter limits limits' s c result new runner
runs_rest layouts counter limits limits' s c left (Ok answer) new runner pass ran = record {
  after = ran.after;
  step = answers_by layouts limits.limit s (shape c) (first_failing (tests layouts s c)) (first_failing left) answer ran.after pass ran.answers;
  follows = follows_by layouts counter s limits (shape c) (first_failing (tests layouts s c)) (first_failing left) answer ran.after limits' pass ran.follows;
  counts = ran.counts;
  holds = ran.holds;
}
runs_rest layouts counter limits limits' s c left (Err e) new runner pass ran =
    record { wants = subst (λ (found : Option Refusal). WantsAfter layouts counter limits limits' s (shape c) found new runner) (sym pass) ran }

-- the fields of a struct type as the type table tells them
shape_struct : (shape : Shape) (fields : List FieldType) → shape_struct_fields shape ≡ Some fields → shape_fields shape ≡ Some fields
shape_struct (struct_of fs) fields e = e
shape_struct (array_of elem) fields e = absurd (none-some fields e)
shape_struct (exn_of params) fields e = absurd (none-some fields e)
shape_struct (func_of params results) fields e = absurd (none-some fields e)

declaration_struct : (o : Option Declaration) (fields : List FieldType) → declaration_struct_fields o ≡ Some fields → declaration_fields o ≡ Some fields
declaration_struct None fields e = absurd (none-some fields e)
declaration_struct (Some d) fields e = shape_struct d.shape fields e

pub struct_types : (types : List Declaration) (t : ℕ) (fields : List FieldType) → struct_fields_at types t ≡ Some fields → fields_at types t ≡ Some fields
struct_types types t fields e = declaration_struct (slice_get types t) fields e

-- the tests of values whose types begin one later
later_tests : (s : State) (types : ℕ → Option FieldType) (i : ℕ) (vs : List Operand) → typed_tests s types (suc i) vs ≡ typed_tests s (λ (j : ℕ). types (suc j)) i vs
later_tests s types i [] = refl
later_tests s types i (v ∷ vs) = ap (λ (ts : List (Bool × Refusal)). value_tests s (types (suc i)) v ++ ts) (later_tests s types (suc i) vs)

-- the tests of the values of fields
pub field_tests : (s : State) (fields : List FieldType) (vs : List Operand) → length vs ≡ length fields → typed_tests s (slice_get fields) 0 vs ≡ all_value_tests s fields vs
field_tests s [] [] e = refl
field_tests s [] (v ∷ vs) e = absurd (omega (arith, e))
field_tests s (f ∷ fields) [] e = absurd (omega (arith, e))
field_tests s (f ∷ fields) (v ∷ vs) e =
    let rest : length vs ≡ length fields = omega (arith, e) in
    ap (λ (ts : List (Bool × Refusal)). value_tests s (Some f) v ++ ts) (later_tests s (slice_get (f ∷ fields)) 0 vs ∙ field_tests s fields vs rest)

-- those of the values of a struct type
pub struct_tests : (s : State) (t : ℕ) (fields : List FieldType) (vs : List Operand) → struct_fields_at s.table.types t ≡ Some fields → length vs ≡ length fields → typed_tests s (type_at s.table.types (types_of.Fields t)) 0 vs ≡ all_value_tests s (struct_fields_of s.table.types t) vs
struct_tests s t fields vs declared many =
    ap (λ (o : Option (List FieldType)). typed_tests s (λ (i : ℕ). option_and_then (λ (fs : List FieldType). slice_get fs i) o) 0 vs) (struct_types s.table.types t fields declared)
    ∙ field_tests s fields vs many
    ∙ ap (λ (o : Option (List FieldType)). all_value_tests s (unwrap_or o []) vs) (sym declared)

-- and of elements, which all have one type
pub element_typed : (s : State) (element : Option FieldType) (i : ℕ) (vs : List Operand) → typed_tests s (λ (j : ℕ). element) i vs ≡ element_tests s element vs
element_typed s element i [] = refl
element_typed s element i (v ∷ vs) =
    ap (λ (ts : List (Bool × Refusal)). value_tests s element v ++ ts) (element_typed s element (suc i) vs) ∙ sym (flat_map-cons (value_tests s element) v vs)

-- no operand is unset where all are held
pub all_set : (store : StoreView ℕ) (s : State) (vs : List Operand) (raws : List RawValue) → AllHeld store s vs raws → any_unset s vs ≡ false
all_set store s [] raws all = refl
all_set store s (v ∷ vs) [] all = absurd all
all_set store s (v ∷ vs) (r ∷ raws) all =
    ap (λ (b : Bool). b || any_unset s vs) (is_set store s.table r (held_operand s v) all.0) ∙ all_set store s vs raws all.1

-- as many values as operands
pub held_count : (store : StoreView ℕ) (s : State) (vs : List Operand) (raws : List RawValue) → AllHeld store s vs raws → length raws ≡ length vs
held_count store s vs raws all = AllZip-long (λ (v : Operand) (r : RawValue). RegisterStands store s.table (Some r) (held_operand s v)) vs raws all

module _ (layouts : Layouts) (s : State) (d t : ℕ) (vs : List Operand) where
  abbrev struct_rest : List (Bool × Refusal)
  struct_rest = heap_tests layouts s (given_struct s t vs)

  abbrev struct_values : List (Bool × Refusal)
  struct_values = all_value_tests s (struct_fields_of s.table.types t) vs

  abbrev from_count : List (Bool × Refusal)
  from_count = (not (length vs == field_count s.table t), refusal.FieldCount) ∷ (struct_values ++ struct_rest)

  abbrev from_names : List (Bool × Refusal)
  from_names = (any_unset s vs, refusal.NoSuchName) ∷ from_count

  -- there is no such struct type
  pub new_unknown : struct_fields_at s.table.types t ≡ None → first_failing (tests layouts s (New d t vs)) ≡ Some refusal.NoSuchName
  new_unknown none = stops (is_none (struct_fields_at s.table.types t)) refusal.NoSuchName from_names (ap is_none none)

  module _ (fields : List FieldType) (declared : struct_fields_at s.table.types t ≡ Some fields) where
    past_type : first_failing (tests layouts s (New d t vs)) ≡ first_failing from_names
    past_type = passes (is_none (struct_fields_at s.table.types t)) refusal.NoSuchName from_names (ap is_none declared)

    -- some operand is unset
    pub new_unset : any_unset s vs ≡ true → first_failing (tests layouts s (New d t vs)) ≡ Some refusal.NoSuchName
    new_unset unset = past_type ∙ stops (any_unset s vs) refusal.NoSuchName from_count unset

    count_is : field_count s.table t ≡ length fields
    count_is = ap (λ (o : Option (List FieldType)). unwrap_or (option_map length o) 0) declared

    module _ (set : any_unset s vs ≡ false) where
      past_names : first_failing (tests layouts s (New d t vs)) ≡ first_failing from_count
      past_names = past_type ∙ passes (any_unset s vs) refusal.NoSuchName from_count set

      -- there are not as many operands as fields
      pub new_count : length vs ≢ length fields → first_failing (tests layouts s (New d t vs)) ≡ Some refusal.FieldCount
      new_count differ =
          let other : (length vs == field_count s.table t) ≡ false = grind (arith, nat_tests, count_is, differ) in
          past_names ∙ stops (not (length vs == field_count s.table t)) refusal.FieldCount (struct_values ++ struct_rest) (ap not other)

      module _ (many : length vs ≡ length fields) where
        past_count : first_failing (tests layouts s (New d t vs)) ≡ first_failing (typed_tests s (type_at s.table.types (types_of.Fields t)) 0 vs ++ struct_rest)
        past_count =
            let equal : (length vs == field_count s.table t) ≡ true = grind (arith, nat_tests, count_is, many) in
            past_names ∙ passes (not (length vs == field_count s.table t)) refusal.FieldCount (struct_values ++ struct_rest) (ap not equal)
            ∙ ap (λ (ts : List (Bool × Refusal)). first_failing (ts ++ struct_rest)) (sym (struct_tests s t fields vs declared many))

        -- a value doesn't go into its field
        pub new_value : (why : Refusal) → first_failing (typed_tests s (type_at s.table.types (types_of.Fields t)) 0 vs) ≡ Some why → first_failing (tests layouts s (New d t vs)) ≡ Some why
        new_value why e = past_count ∙ stops_all (typed_tests s (type_at s.table.types (types_of.Fields t)) 0 vs) struct_rest why e

        -- what is left is up to the heap
        pub new_heap : first_failing (typed_tests s (type_at s.table.types (types_of.Fields t)) 0 vs) ≡ None → first_failing (tests layouts s (New d t vs)) ≡ first_failing struct_rest
        new_heap pass = past_count ∙ passes_all (typed_tests s (type_at s.table.types (types_of.Fields t)) 0 vs) struct_rest pass

-- the same of the commands that make arrays
module _ (layouts : Layouts) (s : State) (d t : ℕ) where
  module _ (n : ℕ) (v : Operand) where
    abbrev array_rest : List (Bool × Refusal)
    array_rest = heap_tests layouts s (filled_array s t n v)

    abbrev array_value : List (Bool × Refusal)
    array_value = cond (n == 0) [] (value_tests s (elem_at s.table.types t) v)

    pub array_unknown : elem_at s.table.types t ≡ None → first_failing (tests layouts s (NewArr d t n v)) ≡ Some refusal.NoSuchName
    array_unknown none = stops (is_none (elem_at s.table.types t)) refusal.NoSuchName ((is_unset (given s v), refusal.NoSuchName) ∷ (array_value ++ array_rest)) (ap is_none none)

    module _ (element : FieldType) (declared : elem_at s.table.types t ≡ Some element) where
      past_array : first_failing (tests layouts s (NewArr d t n v)) ≡ first_failing ((is_unset (given s v), refusal.NoSuchName) ∷ (array_value ++ array_rest))
      past_array = passes (is_none (elem_at s.table.types t)) refusal.NoSuchName ((is_unset (given s v), refusal.NoSuchName) ∷ (array_value ++ array_rest)) (ap is_none declared)

      pub array_unset : is_unset (given s v) ≡ true → first_failing (tests layouts s (NewArr d t n v)) ≡ Some refusal.NoSuchName
      array_unset unset = past_array ∙ stops (is_unset (given s v)) refusal.NoSuchName (array_value ++ array_rest) unset

      module _ (set : is_unset (given s v) ≡ false) where
        past_operand : first_failing (tests layouts s (NewArr d t n v)) ≡ first_failing (array_value ++ array_rest)
        past_operand = past_array ∙ passes (is_unset (given s v)) refusal.NoSuchName (array_value ++ array_rest) set

        -- where there are elements, the value is tested
        some_elements : 0 < n → first_failing (tests layouts s (NewArr d t n v)) ≡ first_failing (value_tests s (Some element) v ++ array_rest)
        some_elements some =
            let other : (n == 0) ≡ false = grind (arith, nat_tests, some) in
            past_operand
            ∙ ap (λ (b : Bool). first_failing (cond b [] (value_tests s (elem_at s.table.types t) v) ++ array_rest)) other
            ∙ ap (λ (f : Option FieldType). first_failing (value_tests s f v ++ array_rest)) declared

        pub array_refused : 0 < n → (why : Refusal) → first_failing (value_tests s (Some element) v) ≡ Some why → first_failing (tests layouts s (NewArr d t n v)) ≡ Some why
        array_refused some why e = some_elements some ∙ stops_all (value_tests s (Some element) v) array_rest why e

        pub array_heap : 0 < n → first_failing (value_tests s (Some element) v) ≡ None → first_failing (tests layouts s (NewArr d t n v)) ≡ first_failing array_rest
        array_heap some pass = some_elements some ∙ passes_all (value_tests s (Some element) v) array_rest pass

        pub empty_heap : n ≡ 0 → first_failing (tests layouts s (NewArr d t n v)) ≡ first_failing array_rest
        empty_heap none =
            let zero_is : (n == 0) ≡ true = grind (arith, nat_tests, none) in
            past_operand ∙ ap (λ (b : Bool). first_failing (cond b [] (value_tests s (elem_at s.table.types t) v) ++ array_rest)) zero_is

  module _ (vs : List Operand) where
    abbrev fixed_rest : List (Bool × Refusal)
    fixed_rest = heap_tests layouts s (new_fixed s t vs)

    abbrev fixed_values : List (Bool × Refusal)
    fixed_values = element_tests s (elem_at s.table.types t) vs

    pub fixed_unknown : elem_at s.table.types t ≡ None → first_failing (tests layouts s (Fixed d t vs)) ≡ Some refusal.NoSuchName
    fixed_unknown none = stops (is_none (elem_at s.table.types t)) refusal.NoSuchName ((any_unset s vs, refusal.NoSuchName) ∷ (fixed_values ++ fixed_rest)) (ap is_none none)

    module _ (element : FieldType) (declared : elem_at s.table.types t ≡ Some element) where
      past_fixed : first_failing (tests layouts s (Fixed d t vs)) ≡ first_failing ((any_unset s vs, refusal.NoSuchName) ∷ (fixed_values ++ fixed_rest))
      past_fixed = passes (is_none (elem_at s.table.types t)) refusal.NoSuchName ((any_unset s vs, refusal.NoSuchName) ∷ (fixed_values ++ fixed_rest)) (ap is_none declared)

      pub fixed_unset : any_unset s vs ≡ true → first_failing (tests layouts s (Fixed d t vs)) ≡ Some refusal.NoSuchName
      fixed_unset unset = past_fixed ∙ stops (any_unset s vs) refusal.NoSuchName (fixed_values ++ fixed_rest) unset

      module _ (set : any_unset s vs ≡ false) where
        abbrev of_type : List (Bool × Refusal)
        of_type = typed_tests s (type_at s.table.types (types_of.Elements element)) 0 vs

        past_operands : first_failing (tests layouts s (Fixed d t vs)) ≡ first_failing (of_type ++ fixed_rest)
        past_operands =
            past_fixed ∙ passes (any_unset s vs) refusal.NoSuchName (fixed_values ++ fixed_rest) set
            ∙ ap (λ (ts : List (Bool × Refusal)). first_failing (ts ++ fixed_rest)) (ap (λ (f : Option FieldType). element_tests s f vs) declared ∙ sym (element_typed s (Some element) 0 vs))

        pub fixed_refused : (why : Refusal) → first_failing of_type ≡ Some why → first_failing (tests layouts s (Fixed d t vs)) ≡ Some why
        fixed_refused why e = past_operands ∙ stops_all of_type fixed_rest why e

        pub fixed_heap : first_failing of_type ≡ None → first_failing (tests layouts s (Fixed d t vs)) ≡ first_failing fixed_rest
        fixed_heap pass = past_operands ∙ passes_all of_type fixed_rest pass

  module _ (bytes : List ℕ) where
    abbrev bytes_rest : List (Bool × Refusal)
    bytes_rest = heap_tests layouts s (new_bytes t bytes)

    pub bytes_unknown : elem_at s.table.types t ≡ None → first_failing (tests layouts s (NewBytes d t bytes)) ≡ Some refusal.NoSuchName
    bytes_unknown none = stops (is_none (elem_at s.table.types t)) refusal.NoSuchName ((not (holds_bytes (elem_at s.table.types t)), refusal.NotI8Array) ∷ bytes_rest) (ap is_none none)

    module _ (element : FieldType) (declared : elem_at s.table.types t ≡ Some element) where
      past_bytes : first_failing (tests layouts s (NewBytes d t bytes)) ≡ first_failing ((not (holds_bytes (Some element)), refusal.NotI8Array) ∷ bytes_rest)
      past_bytes =
          passes (is_none (elem_at s.table.types t)) refusal.NoSuchName ((not (holds_bytes (elem_at s.table.types t)), refusal.NotI8Array) ∷ bytes_rest) (ap is_none declared)
          ∙ ap (λ (f : Option FieldType). first_failing ((not (holds_bytes f), refusal.NotI8Array) ∷ bytes_rest)) declared

      pub bytes_wider : holds_bytes (Some element) ≡ false → first_failing (tests layouts s (NewBytes d t bytes)) ≡ Some refusal.NotI8Array
      bytes_wider wider = past_bytes ∙ stops (not (holds_bytes (Some element))) refusal.NotI8Array bytes_rest (ap not wider)

      pub bytes_heap : holds_bytes (Some element) ≡ true → first_failing (tests layouts s (NewBytes d t bytes)) ≡ first_failing bytes_rest
      bytes_heap are = past_bytes ∙ passes (not (holds_bytes (Some element))) refusal.NotI8Array bytes_rest (ap not are)
