-- The length and the bytes of an array that a register names.
use Rattle.std.proofs.Common.{◌≡◌, ◌≢◌, ℕ, ◌==◌, List, [], ◌∷◌, ◌++◌, length, map, take, drop, Option, Some, None, Bool, true, false, not, sym, ap, ◌∙◌, refl, arith}
use Rattle.std.specs.Prelude.{Ok}
use Rattle.std.proofs.lemmas.Bool.Decides.{nat_tests}
use Rattle.std.proofs.lemmas.List.{append-nil, drop_all, take_all}
use Rattle.gc_types.specs.declared.kind.Layouts.{Layouts}
use Rattle.gc_types.specs.declared.value.FieldType.{FieldType}
use Rattle.gc_types.specs.declared.value.StorageType.{StorageType}
use Rattle.gc_types.specs.declared.value.StorageType.TheVariants as storage
use Rattle.gc_types.specs.Declarations.{Declaration, elem_at}
use Rattle.gc_model.specs.Values.{Object, struct, array, host, exception}
use Rattle.gc_model.specs.Reach.{object_values}
use Rattle.gc_model.specs.Stored.{byte_value, value_type}
use Rattle.gc_model.specs.Table.{Table}
use Rattle.gc_model.specs.Stores.{StoreView}
use Rattle.gc_commands.specs.declared.command.Command.TheVariants as command
use Rattle.gc_commands.specs.declared.reply.Reply.TheVariants as reply
use Rattle.gc_commands.specs.declared.reply.Refusal.{Refusal}
use Rattle.gc_commands.specs.declared.reply.Refusal.TheVariants as refusal
use Rattle.gc_store.specs.Bytes.{NamesBytes, CanCopyBytes, CopiesBytes}
use Rattle.gc_script.specs.declared.objects.NamedObject.{NamedObject}
use Rattle.gc_script.specs.declared.objects.Wanted.TheVariants as wanted
use Rattle.gc_script.specs.Slots.{RunnerView}
use Rattle.gc_script.specs.State.{State, HoldsState}
use Rattle.gc_script.specs.Given.{given_register, is_unset, target, target_values, target_field, is_array, is_byte, holds_bytes}
use Rattle.gc_script.specs.Shapes.{byte_of, shape}
use Rattle.gc_script.specs.Steps.{first_failing, tests, target_tests}
use Rattle.gc_script.specs.Run.{GoesOn}
use Rattle.gc_script.specs.Named.{type_at, IsNamedSomewhere, DescribesObject, FoundObject}
use Rattle.gc_script.specs.Wants.{MayWant}
use Rattle.gc_script.proofs.StandLemmas.{holds_table}
use Rattle.gc_script.proofs.TestLemmas.{passes, stops, passes_all, stops_all, answers_by, refuses}
use Rattle.gc_script.proofs.ValueReads.{found_values}
use Rattle.gc_script.proofs.WantLemmas.{unrefused_by}
use Rattle.gc_script.proofs.WriteLemmas.{field_found}

-- an array of bytes, by the type of its elements
byte_type : (field : Option FieldType) → holds_bytes field ≡ true → (element : FieldType) × ((field ≡ Some element) × (element.element_type ≡ storage.I8))
byte_type None e = absurd (cc e)
byte_type (Some element) e = (element, (refl, is_i8 element.element_type e))
  where
    is_i8 : (ty : StorageType) → is_byte ty ≡ true → ty ≡ storage.I8
    is_i8 storage.I8 h = refl
    is_i8 storage.I16 h = absurd (cc h)
    is_i8 (storage.ValType ty) h = absurd (cc h)

-- the array that an object is
record IsArrayOf (o : Object ℕ) : Type 0 where
  ty : ℕ
  object_is : o ≡ array ty (object_values o)
  element_is : (types : List Declaration) → value_type types o 0 ≡ elem_at types ty

array_of : (o : Object ℕ) → is_array o ≡ true → IsArrayOf o
array_of (struct ty vs) e = absurd (cc e)
array_of (array ty vs) e = record { ty = ty; object_is = refl; element_is = λ types. refl }
array_of (host v) e = absurd (cc e)
array_of (exception ty tag vs) e = absurd (cc e)

-- what is found names an array of bytes
names_bytes : (store : StoreView ℕ) (t : Table ℕ) (found : NamedObject) (names : DescribesObject store t found) → is_array names.object ≡ true → holds_bytes (type_at t.types found.types 0) ≡ true → NamesBytes store t found.root (object_values names.object)
names_bytes store t found names kind bytes =
    let array = array_of names.object kind in
    let element = byte_type (type_at t.types found.types 0) bytes in
    record {
      position = names.position;
      named = names.named;
      ty = array.ty;
      object_is = names.object_is ∙ ap Some array.object_is;
      element = element.0;
      declared = sym (array.element_is t.types) ∙ names.typed 0 ∙ element.1.0;
      of_bytes = element.1.1;
    }

pub can_copy : (layouts : Layouts) (store : StoreView ℕ) (found : NamedObject) → IsNamedSomewhere layouts store wanted.Array found → (bytes : Bool) → bytes ≡ holds_bytes (type_at store.types found.types 0) → bytes ≡ true → CanCopyBytes ℕ layouts store found.root found.count
can_copy layouts store found is bytes bytes_are yes_bytes = record {
  table = is.table;
  holds = is.holds;
  values = object_values is.names.object;
  bytes = names_bytes store is.table found is.names is.of_kind (ap (λ (ts : List Declaration). holds_bytes (type_at ts found.types 0)) (sym is.holds.1.types) ∙ sym bytes_are ∙ yes_bytes);
  same_count = is.names.counted;
}

-- a buffer that was lent whole has what was written into it
pub lent_whole : (written before : List ℕ) (n : ℕ) → length written ≡ length before → n ≡ length before → take n (written ++ drop (length written) before) ≡ written
lent_whole written before n same is =
    ap (λ (xs : List ℕ). take n (written ++ xs)) (drop_all (length written) before (omega (arith, same)))
    ∙ ap (take n) (append-nil written) ∙ take_all n written (omega (arith, same, is))

bytes_back : (bytes : List ℕ) → map byte_of (map byte_value bytes) ≡ bytes
bytes_back [] = refl
bytes_back (b ∷ bytes) = ap (λ (bs : List ℕ). b ∷ bs) (bytes_back bytes)

module _ (layouts : Layouts) (store : StoreView ℕ) (runner : RunnerView) (s : State) (r : ℕ) (holds : HoldsState layouts store runner s) (set : is_unset (given_register s r) ≡ false) where
  -- the register names no array
  pub no_array_length : (why : Refusal) → first_failing (target_tests is_array s r) ≡ Some why → GoesOn layouts s (command.Len r) (Ok (reply.Refused why)) store runner
  no_array_length why e = refuses layouts store runner s (command.Len r) why holds (passes (is_unset (given_register s r)) refusal.NoSuchName (target_tests is_array s r) set ∙ e)

  module _ (found : NamedObject) (it : FoundObject store s wanted.Array r found) where
    counted : length (target_values (target s r)) ≡ found.count
    counted = ap length (found_values store s wanted.Array r found it) ∙ it.names.counted

    -- the length was told
    pub length_told : GoesOn layouts s (command.Len r) (Ok (reply.Length found.count)) store runner
    length_told = record {
      after = s;
      answers = answers_by layouts None s (shape (command.Len r)) (first_failing (tests layouts s (command.Len r))) None (reply.Length found.count) s
          (passes (is_unset (given_register s r)) refusal.NoSuchName (target_tests is_array s r) set ∙ it.passes) (ap reply.Length (sym counted), refl);
      account = refl;
      holds = holds;
    }

  module _ (n : ℕ) where
    abbrev count_test : List (Bool × Refusal)
    count_test = (not (length (target_values (target s r)) == n), refusal.LengthMismatch) ∷ []

    abbrev from_bytes : List (Bool × Refusal)
    from_bytes = (not (holds_bytes (target_field s.table (target s r) 0)), refusal.NotI8Array) ∷ count_test

    to_array : first_failing (tests layouts s (command.ReadBytes r n)) ≡ first_failing (target_tests is_array s r ++ from_bytes)
    to_array = passes (is_unset (given_register s r)) refusal.NoSuchName (target_tests is_array s r ++ from_bytes) set

    -- the register names no array
    pub no_array_bytes : (why : Refusal) → first_failing (target_tests is_array s r) ≡ Some why → GoesOn layouts s (command.ReadBytes r n) (Ok (reply.Refused why)) store runner
    no_array_bytes why e = refuses layouts store runner s (command.ReadBytes r n) why holds (to_array ∙ stops_all (target_tests is_array s r) from_bytes why e)

    module _ (found : NamedObject) (it : FoundObject store s wanted.Array r found) (bytes : Bool) (bytes_are : bytes ≡ holds_bytes (type_at store.types found.types 0)) where
      element_bytes : holds_bytes (target_field s.table (target s r) 0) ≡ bytes
      element_bytes =
          ap holds_bytes (field_found layouts store s wanted.Array r 0 found it)
          ∙ ap (λ (ts : List Declaration). holds_bytes (type_at ts found.types 0)) (sym (holds_table holds.table).1.types) ∙ sym bytes_are

      to_bytes : first_failing (tests layouts s (command.ReadBytes r n)) ≡ first_failing from_bytes
      to_bytes = to_array ∙ passes_all (target_tests is_array s r) from_bytes it.passes

      -- its elements are wider
      pub not_bytes : bytes ≡ false → GoesOn layouts s (command.ReadBytes r n) (Ok (reply.Refused refusal.NotI8Array)) store runner
      not_bytes no_bytes = refuses layouts store runner s (command.ReadBytes r n) refusal.NotI8Array holds
          (to_bytes ∙ stops (not (holds_bytes (target_field s.table (target s r) 0))) refusal.NotI8Array count_test (ap not (element_bytes ∙ no_bytes)))

      module _ (are_bytes : bytes ≡ true) where
        to_count : first_failing (tests layouts s (command.ReadBytes r n)) ≡ first_failing count_test
        to_count = to_bytes ∙ passes (not (holds_bytes (target_field s.table (target s r) 0))) refusal.NotI8Array count_test (ap not (element_bytes ∙ are_bytes))

        -- it has another length
        pub other_length : found.count ≢ n → GoesOn layouts s (command.ReadBytes r n) (Ok (reply.Refused refusal.LengthMismatch)) store runner
        other_length differ =
            let many = counted found it in
            let other : (length (target_values (target s r)) == n) ≡ false = grind (arith, nat_tests, many, differ) in
            refuses layouts store runner s (command.ReadBytes r n) refusal.LengthMismatch holds
            (to_count ∙ stops (not (length (target_values (target s r)) == n)) refusal.LengthMismatch [] (ap not other))

        -- memory may be wanted for its bytes
        pub bytes_may : found.count ≡ n → MayWant layouts s (command.ReadBytes r n)
        bytes_may same =
            let many = counted found it in
            let equal : (length (target_values (target s r)) == n) ≡ true = grind (arith, nat_tests, many, same) in
            record {
              takes = refl;
              unrefused = unrefused_by (first_failing (tests layouts s (command.ReadBytes r n))) None
                  (to_count ∙ passes (not (length (target_values (target s r)) == n)) refusal.LengthMismatch [] (ap not equal)) tt;
            }

        -- its bytes were told
        pub bytes_told : found.count ≡ n → (told : List ℕ) → CopiesBytes store s.table found.root told → GoesOn layouts s (command.ReadBytes r n) (Ok (reply.Bytes told)) store runner
        bytes_told same told copies =
            let many = counted found it in
            let equal : (length (target_values (target s r)) == n) ≡ true = grind (arith, nat_tests, many, same) in
            let in_table : holds_bytes (type_at s.table.types found.types 0) ≡ true = ap (λ (ts : List Declaration). holds_bytes (type_at ts found.types 0)) (sym (holds_table holds.table).1.types) ∙ sym bytes_are ∙ are_bytes in
            let values_are = copies (object_values it.names.object) (names_bytes store s.table found it.names it.of_kind in_table) in
            record {
              after = s;
              answers = answers_by layouts None s (shape (command.ReadBytes r n)) (first_failing (tests layouts s (command.ReadBytes r n))) None (reply.Bytes told) s
                  (to_count ∙ passes (not (length (target_values (target s r)) == n)) refusal.LengthMismatch [] (ap not equal))
                  (ap reply.Bytes (sym (ap (map byte_of) (found_values store s wanted.Array r found it ∙ values_are) ∙ bytes_back told)), refl);
              account = refl;
              holds = holds;
            }
