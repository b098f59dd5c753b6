-- Objects with fields that are requested: their tests in order, and what is left to the heap.
use Rattle.std.proofs.Common.{◌≡◌, ◌≢◌, ℕ, ◌==◌, List, [], ◌∷◌, ◌++◌, length, Option, Some, None, Bool, true, false, not, sym, ap, ◌∙◌, refl, subst, arith}
use Rattle.std.specs.Prelude.{Result, Ok, Err, is_none, unwrap_or}
use Rattle.std.specs.List.{slice_get}
use Rattle.std.specs.Option.{option_and_then}
use Rattle.std.proofs.lemmas.Bool.Decides.{nat_tests}
use Rattle.std.proofs.lemmas.Option.{none-some}
use Rattle.gc_types.specs.declared.kind.Layouts.{Layouts}
use Rattle.gc_types.specs.declared.value.FieldType.{FieldType}
use Rattle.gc_types.specs.Declarations.{Declaration, struct_of, array_of, exn_of, func_of, declaration_fields, shape_fields, fields_at}
use Rattle.gc_model.specs.Allocation.{Limits}
use Rattle.gc_model.specs.Sizes.{shape_exn_fields}
use Rattle.gc_model.specs.Stores.{StoreView}
use Rattle.gc_values.specs.declared.request.Place.{Place}
use Rattle.gc_values.specs.declared.request.Place.TheVariants as place
use Rattle.gc_values.specs.declared.root.RawValue.{RawValue}
use Rattle.gc_store.specs.Requests.{CanPlaceFields}
use Rattle.gc_commands.specs.declared.command.Operand.{Operand}
use Rattle.gc_commands.specs.declared.reply.Reply.{Reply}
use Rattle.gc_commands.specs.declared.reply.Reply.TheVariants as reply
use Rattle.gc_commands.specs.declared.reply.Refusal.{Refusal}
use Rattle.gc_commands.specs.declared.reply.Refusal.TheVariants as refusal
use Rattle.gc_script.specs.declared.runner.RunError.{RunError}
use Rattle.gc_script.specs.declared.objects.ValueTypes.TheVariants as types_of
use Rattle.gc_script.specs.Slots.{RunnerView}
use Rattle.gc_script.specs.State.{State, HoldsState}
use Rattle.gc_script.specs.Shapes as shapes
use Rattle.gc_script.specs.Steps.{first_failing, any_unset, count_in, all_value_tests, fields_tests}
use Rattle.gc_values.specs.Filling.{asked_type}
use Rattle.gc_script.specs.Requested.{requested_fields}
use Rattle.gc_script.specs.Run.{WantsAfter, RunsOn, shape_bytes}
use Rattle.gc_script.specs.Named.{type_at}
use Rattle.gc_script.specs.Values.{CanStoreRaw, AllRawStorable, typed_tests}
use Rattle.gc_script.proofs.CountLemmas.{tells_pages, says_other, counts_nothing}
use Rattle.gc_script.proofs.MakeTests.{struct_types, field_tests}
use Rattle.gc_script.proofs.TestLemmas.{passes, stops, passes_all, stops_all, answers_by, follows_by}

-- the fields of an exception type as the type table tells them
shape_exception : (shape : _) (fields : List FieldType) → shape_exn_fields shape ≡ Some fields → shape_fields shape ≡ Some fields
shape_exception (struct_of fs) fields e = absurd (none-some fields e)
shape_exception (array_of elem) fields e = absurd (none-some fields e)
shape_exception (exn_of params) fields e = e
shape_exception (func_of params results) fields e = absurd (none-some fields e)

declaration_exception : (o : Option Declaration) (fields : List FieldType) → option_and_then (λ (d : Declaration). shape_exn_fields d.shape) o ≡ Some fields → declaration_fields o ≡ Some fields
declaration_exception None fields e = absurd (none-some fields e)
declaration_exception (Some d) fields e = shape_exception d.shape fields e

-- the fields of what is requested are those of its type
pub requested_types : (types : List Declaration) (request : Place) (fields : List FieldType) → requested_fields types request ≡ Some fields → fields_at types (asked_type request) ≡ Some fields
requested_types types (place.Struct ty) fields e = struct_types types ty fields e
requested_types types (place.Exn ty tag) fields e = declaration_exception (slice_get types ty) fields e
requested_types types (place.Array ty n) fields e = absurd (none-some fields e)

-- values that may be stored in them may be placed
pub fields_request : (layouts : Layouts) (store : StoreView ℕ) (request : Place) (raws : List RawValue) (fields : List FieldType) → requested_fields store.types request ≡ Some fields → length raws ≡ length fields → AllRawStorable layouts store (types_of.Fields (asked_type request)) raws
    → CanPlaceFields ℕ layouts store (requested_fields store.types request) raws
fields_request layouts store request raws fields declared many all = record {
  fields = fields;
  declared = declared;
  same_count = many;
  each = λ i field r field_is r_is.
      subst (λ (f : Option FieldType). CanStoreRaw layouts store f r)
      (ap (option_and_then (λ (fs : List FieldType). slice_get fs i)) (requested_types store.types request fields declared) ∙ field_is) (all i r r_is);
}

module _ (s : State) (fields : Option (List FieldType)) (vs : List Operand) (rest : List (Bool × Refusal)) where
  abbrev values_tests : List (Bool × Refusal)
  values_tests = all_value_tests s (unwrap_or fields []) vs

  abbrev from_count : List (Bool × Refusal)
  from_count = (not (length vs == count_in fields), refusal.FieldCount) ∷ (values_tests ++ rest)

  abbrev from_names : List (Bool × Refusal)
  from_names = (any_unset s vs, refusal.NoSuchName) ∷ from_count

  module _ (known : List FieldType) (is : fields ≡ Some known) where
    past_type : first_failing (fields_tests s fields vs ++ rest) ≡ first_failing from_names
    past_type = passes (is_none fields) refusal.NoSuchName from_names (ap is_none is)

    -- some operand is unset
    pub fields_unset : any_unset s vs ≡ true → first_failing (fields_tests s fields vs ++ rest) ≡ Some refusal.NoSuchName
    fields_unset unset = past_type ∙ stops (any_unset s vs) refusal.NoSuchName from_count unset

    count_is : count_in fields ≡ length known
    count_is = ap count_in is

    module _ (set : any_unset s vs ≡ false) where
      past_names : first_failing (fields_tests s fields vs ++ rest) ≡ first_failing from_count
      past_names = past_type ∙ passes (any_unset s vs) refusal.NoSuchName from_count set

      -- there are not as many operands as fields
      pub fields_count : length vs ≢ length known → first_failing (fields_tests s fields vs ++ rest) ≡ Some refusal.FieldCount
      fields_count differ =
          let other : (length vs == count_in fields) ≡ false = grind (arith, nat_tests, count_is, differ) in
          past_names ∙ stops (not (length vs == count_in fields)) refusal.FieldCount (values_tests ++ rest) (ap not other)

      module _ (many : length vs ≡ length known) where
        past_count : first_failing (fields_tests s fields vs ++ rest) ≡ first_failing (typed_tests s (slice_get known) 0 vs ++ rest)
        past_count =
            let equal : (length vs == count_in fields) ≡ true = grind (arith, nat_tests, count_is, many) in
            past_names ∙ passes (not (length vs == count_in fields)) refusal.FieldCount (values_tests ++ rest) (ap not equal)
            ∙ ap (λ (o : Option (List FieldType)). first_failing (all_value_tests s (unwrap_or o []) vs ++ rest)) is
            ∙ ap (λ (ts : List (Bool × Refusal)). first_failing (ts ++ rest)) (sym (field_tests s known vs many))

        -- a value doesn't go into its field
        pub fields_value : (why : Refusal) → first_failing (typed_tests s (slice_get known) 0 vs) ≡ Some why → first_failing (fields_tests s fields vs ++ rest) ≡ Some why
        fields_value why e = past_count ∙ stops_all (typed_tests s (slice_get known) 0 vs) rest why e

        -- what is left is up to the heap
        pub fields_heap : first_failing (typed_tests s (slice_get known) 0 vs) ≡ None → first_failing (fields_tests s fields vs ++ rest) ≡ first_failing rest
        fields_heap pass = past_count ∙ passes_all (typed_tests s (slice_get known) 0 vs) rest pass

-- the tests of values by their type are those by its fields
pub typed_by : (s : State) (types : List Declaration) (ty : ℕ) (known : List FieldType) (vs : List Operand) → fields_at types ty ≡ Some known → typed_tests s (type_at types (types_of.Fields ty)) 0 vs ≡ typed_tests s (slice_get known) 0 vs
typed_by s types ty known vs is = ap (λ (o : Option (List FieldType)). typed_tests s (λ (i : ℕ). option_and_then (λ (fs : List FieldType). slice_get fs i) o) 0 vs) is

-- a refusal by a test leaves all
pub refused_on : (layouts : Layouts) (counter : Option ℕ) (limits : Limits) (s : State) (sh : shapes.CommandShape) (left : List (Bool × Refusal)) (why : Refusal) (store : StoreView ℕ) (runner : RunnerView) → HoldsState layouts store runner s → tells_pages why ≡ false → first_failing left ≡ Some why
    → RunsOn layouts counter limits limits s sh left (Ok (reply.Refused why)) store runner
refused_on layouts counter limits s sh left why store runner holds mild found = record {
  after = s;
  answers = answers_by layouts limits.limit s sh (first_failing left) (Some why) (reply.Refused why) s found (refl, refl);
  follows = follows_by layouts counter s limits sh (first_failing left) (Some why) (reply.Refused why) s limits found (record { account = refl; same_limits = refl });
  counts = counts_nothing (shape_bytes layouts s sh) limits limits (reply.Refused why) s (says_other (reply.Refused why) (reply.Refused why) refl mild) refl;
  holds = holds;
}

-- what runs as the rest of its tests say, once the first ones passed
pub runs_on : (layouts : Layouts) (counter : Option ℕ) (limits limits' : Limits) (s : State) (sh : shapes.CommandShape) (left rest : List (Bool × Refusal)) (result : Result Reply RunError) (new : StoreView ℕ) (runner : RunnerView) → first_failing left ≡ first_failing rest
    → RunsOn layouts counter limits limits' s sh rest result new runner → RunsOn layouts counter limits limits' s sh left result new runner
runs_on layouts counter limits limits' s sh left rest (Ok answer) new runner pass ran = record {
  after = ran.after;
  answers = answers_by layouts limits.limit s sh (first_failing left) (first_failing rest) answer ran.after pass ran.answers;
  follows = follows_by layouts counter s limits sh (first_failing left) (first_failing rest) answer ran.after limits' pass ran.follows;
  counts = ran.counts;
  holds = ran.holds;
}
runs_on layouts counter limits limits' s sh left rest (Err e) new runner pass ran =
    subst (λ (found : Option Refusal). WantsAfter layouts counter limits limits' s sh found new runner) (sym pass) ran
