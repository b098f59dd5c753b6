-- Reading a field or an element of an object that a register names.
use Rattle.std.proofs.Common.{◌≡◌, ℕ, ◌&&◌, ◌<◌, ◌≤◌, length, List, [], ◌∷◌, ◌++◌, Option, Some, Bool, true, false, sym, ap, ◌∙◌, refl, subst, arith}
use Rattle.std.specs.Prelude.{Ok, unwrap_or}
use Rattle.std.specs.List.{slice_get}
use Rattle.std.proofs.lemmas.Bool.Decides.{nat_tests}
use Rattle.gc_types.specs.declared.kind.Layouts.{Layouts}
use Rattle.gc_owner.specs.declared.entry.GcClass.TheVariants as class
use Rattle.gc_model.specs.Values.{Value, null}
use Rattle.gc_model.specs.Values as values
use Rattle.gc_model.specs.Live.{roots_full}
use Rattle.gc_model.specs.Reach.{object_values}
use Rattle.gc_model.specs.Reads.{makes_root, after_read}
use Rattle.gc_model.specs.Stores.{StoreView}
use Rattle.gc_model.proofs.ObjectStands.{value_below}
use Rattle.gc_commands.specs.declared.reply.Reply.{Reply}
use Rattle.gc_commands.specs.declared.reply.Reply.TheVariants as reply
use Rattle.gc_commands.specs.declared.reply.Refusal.{Refusal}
use Rattle.gc_commands.specs.declared.reply.Refusal.TheVariants as refusal
use Rattle.gc_values.specs.declared.root.RawValue.{RawValue}
use Rattle.gc_model.specs.Accounts.{HoldsAccount}
use Rattle.gc_store.specs.Stores.{IsSameStore}
use Rattle.gc_store.specs.Roots.{HasValue, CanRead}
use Rattle.gc_store.specs.Values.{IsReadAs}
use Rattle.gc_script.specs.declared.objects.NamedObject.{NamedObject}
use Rattle.gc_script.specs.declared.objects.Wanted.{Wanted}
use Rattle.gc_script.specs.Slots.{RunnerView, register_at}
use Rattle.gc_script.specs.State.{State, HoldsState}
use Rattle.gc_script.specs.Given.{given_register, is_unset, target, target_values}
use Rattle.gc_script.specs.Shapes.{CommandShape, plain, reads_value, value_in}
use Rattle.gc_script.specs.Steps.{first_failing, target_tests, bound_test, reading_tests, reads_root}
use Rattle.gc_script.specs.Run.{GoesBy}
use Rattle.gc_script.specs.Named.{wants, IsNamedSomewhere, DescribesObject, FoundObject, register_with}
use Rattle.gc_script.specs.Values.{ShowsRead, registered}
use Rattle.gc_script.proofs.StandLemmas.{holds_same}
use Rattle.gc_script.specs.Wants.{IsUnrefused, ReadTakes}
use Rattle.gc_script.proofs.WantLemmas.{unrefused_by, full_only}
use Rattle.gc_script.proofs.TestLemmas.{passes, stops, passes_all, stops_all, refuses_by}
use Rattle.gc_script.proofs.ReadLemmas.{read_goes}

-- both tests are true, or the second is false where the first is true
pub both_true : (a b : Bool) → a ≡ true → b ≡ true → (a && b) ≡ true
both_true true true e f = refl
both_true true false e f = absurd (cc f)
both_true false b e f = absurd (cc e)

pub not_both : (a b : Bool) → (a ≡ true → b ≡ false) → (a && b) ≡ false
not_both true b other = other refl
not_both false b other = refl

-- an object has a value at each index below its count
abbrev pub has_value : (store : StoreView ℕ) (t : _) (found : NamedObject) (names : DescribesObject store t found) (i : ℕ) → i < found.count → (v : Value) × HasValue store t found.root i v
has_value store t found names i below =
    let value = value_below (object_values names.object) i (omega (arith, below, names.counted)) in
    (value.0, record { position = names.position; named = names.named; object = names.object; object_is = names.object_is; value_at = value.1 })

-- so it can be read
pub can_read : (layouts : Layouts) (store : StoreView ℕ) (kind : Wanted) (found : NamedObject) (i : ℕ) → IsNamedSomewhere layouts store kind found → i < found.count → CanRead ℕ layouts store found.root i
can_read layouts store kind found i is below =
    let value = has_value store is.table found is.names i below in
    record { table = is.table; holds = is.holds; value = value.0; has = value.1 }

-- the values of what is found are those of its object
pub found_values : (store : StoreView ℕ) (s : State) (kind : Wanted) (r : ℕ) (found : NamedObject) (it : FoundObject store s kind r found) → target_values (target s r) ≡ object_values it.names.object
found_values store s kind r found it = ap target_values it.is_target

-- the test of an index, by the count of what is found
pub within_bound : (store : StoreView ℕ) (s : State) (kind : Wanted) (r i : ℕ) (found : NamedObject) → FoundObject store s kind r found → i < found.count → (bound_test s r i).0 ≡ false
within_bound store s kind r i found it below =
    let counted : length (target_values (target s r)) ≡ found.count = ap length (found_values store s kind r found it) ∙ it.names.counted in
    grind (arith, nat_tests)

pub past_bound : (store : StoreView ℕ) (s : State) (kind : Wanted) (r i : ℕ) (found : NamedObject) → FoundObject store s kind r found → found.count ≤ i → (bound_test s r i).0 ≡ true
past_bound store s kind r i found it above =
    let counted : length (target_values (target s r)) ≡ found.count = ap length (found_values store s kind r found it) ∙ it.names.counted in
    grind (arith, nat_tests)

module _ (layouts : Layouts) (store : StoreView ℕ) (runner : RunnerView) (s : State) (kind : Wanted) (r i : ℕ) (into : Option ℕ) (holds : HoldsState layouts store runner s) (set : is_unset (given_register s r) ≡ false) where
  abbrev sh : CommandShape
  sh = plain (reads_value r i into)

  abbrev all_tests : List (Bool × Refusal)
  all_tests = reading_tests (wants kind) s r i

  abbrev full_test : Option Value → Bool × Refusal
  full_test value = (reads_root value && roots_full s.table, refusal.RootsFull)

  abbrev from_bound : List (Bool × Refusal)
  from_bound = bound_test s r i ∷ full_test (slice_get (target_values (target s r)) i) ∷ []

  to_target : first_failing all_tests ≡ first_failing (target_tests (wants kind) s r ++ from_bound)
  to_target = passes (is_unset (given_register s r)) refusal.NoSuchName (target_tests (wants kind) s r ++ from_bound) set

  -- the register names no such object
  pub no_object_read : (why : Refusal) → first_failing (target_tests (wants kind) s r) ≡ Some why → GoesBy layouts s sh all_tests (Ok (reply.Refused why)) store runner
  no_object_read why e = refuses_by layouts store runner s sh all_tests why holds (to_target ∙ stops_all (target_tests (wants kind) s r) from_bound why e)

  module _ (found : NamedObject) (it : FoundObject store s kind r found) where
    to_bound : first_failing all_tests ≡ first_failing from_bound
    to_bound = to_target ∙ passes_all (target_tests (wants kind) s r) from_bound it.passes

    -- it has no such value
    pub past_read : found.count ≤ i → GoesBy layouts s sh all_tests (Ok (reply.Refused refusal.OutOfBounds)) store runner
    past_read above = refuses_by layouts store runner s sh all_tests refusal.OutOfBounds holds
        (to_bound ∙ stops (bound_test s r i).0 refusal.OutOfBounds (full_test (slice_get (target_values (target s r)) i) ∷ []) (past_bound store s kind r i found it above))

    module _ (below : i < found.count) where
      abbrev pub value_there : (v : Value) × HasValue store s.table found.root i v
      value_there = has_value store s.table found it.names i below

      value_is : slice_get (target_values (target s r)) i ≡ Some value_there.0
      value_is = ap (λ (vs : List Value). slice_get vs i) (found_values store s kind r found it) ∙ value_there.1.value_at

      to_full : first_failing all_tests ≡ first_failing ((makes_root value_there.0 && roots_full s.table, refusal.RootsFull) ∷ [])
      to_full =
          to_bound ∙ passes (bound_test s r i).0 refusal.OutOfBounds (full_test (slice_get (target_values (target s r)) i) ∷ []) (within_bound store s kind r i found it below)
          ∙ ap (λ (o : Option Value). first_failing (full_test o ∷ [])) value_is

      -- memory may be wanted: for a root, or for the register that the value goes into
      read_unrefused : IsUnrefused (first_failing all_tests)
      read_unrefused = unrefused_by (first_failing all_tests) (first_failing ((makes_root value_there.0 && roots_full s.table, refusal.RootsFull) ∷ [])) to_full (full_only (makes_root value_there.0 && roots_full s.table))

      pub read_may : ReadTakes s value_there.0 into → ReadTakes s (value_in s r i) into × IsUnrefused (first_failing all_tests)
      read_may takes =
          (subst (λ (o : Option Value). ReadTakes s (unwrap_or o (values.reference class.Any null)) into) (sym value_is) takes, read_unrefused)

      module _ (new : StoreView ℕ) (runner' : RunnerView) (same : IsSameStore store new) (rest_is : runner'.rest ≡ runner.rest) where
        -- no further root may be made
        pub full_read : ((d : ℕ) → register_at runner'.registers d ≡ register_at runner.registers d) → makes_root value_there.0 ≡ true → roots_full s.table ≡ true → HoldsAccount layouts new s.table s.account → GoesBy layouts s sh all_tests (Ok (reply.Refused refusal.RootsFull)) new runner'
        full_read slots_are makes is_full table = refuses_by layouts new runner' s sh all_tests refusal.RootsFull
            (holds_same layouts store new runner runner' s same slots_are rest_is holds table)
            (to_full ∙ stops (makes_root value_there.0 && roots_full s.table) refusal.RootsFull [] (both_true (makes_root value_there.0) (roots_full s.table) makes is_full))

        -- the value was read
        pub was_read : (value : RawValue) (answer : Reply) → ((d : ℕ) → register_at runner'.registers d ≡ register_with into (registered value) runner.registers d) → (makes_root value_there.0 ≡ true → roots_full s.table ≡ false) → IsReadAs new s.table value_there.0 value → HoldsAccount layouts new (after_read value_there.0 s.table) s.account → ShowsRead layouts new value answer → GoesBy layouts s sh all_tests (Ok answer) new runner'
        was_read value answer slots_are may is_read table shows =
            read_goes layouts store new runner runner' s same holds rest_is (λ (x : State). value_in x r i) into value_there.0
            (ap (λ (o : Option Value). unwrap_or o (values.reference class.Any null)) value_is) all_tests value answer
            (to_full ∙ passes (makes_root value_there.0 && roots_full s.table) refusal.RootsFull [] (not_both (makes_root value_there.0) (roots_full s.table) may))
            slots_are is_read table shows
