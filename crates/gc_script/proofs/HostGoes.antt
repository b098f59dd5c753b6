-- A host object that is made, and the number of one that a register names.
use Rattle.std.proofs.Common.{◌≡◌, ℕ, [], ◌∷◌, Option, Some, None, Bool, true, false, not, sym, ap, ◌∙◌, refl, subst}
use Rattle.std.specs.Prelude.{Result, Ok, Err, unwrap_or, option_and_then}
use Rattle.std.specs.List.{slice_get}
use Rattle.gc_types.specs.declared.kind.Layouts.{Layouts}
use Rattle.gc_types.specs.declared.kind.Layouts.TheVariants.{Null, Counting, Copying}
use Rattle.gc_view.specs.Sizes.{external_size, too_large}
use Rattle.gc_owner.specs.declared.entry.GcClass.TheVariants as class
use Rattle.gc_model.specs.Values.{Reference, null, small, at, Object, struct, array, host, exception}
use Rattle.gc_model.specs.Table.{Table}
use Rattle.gc_model.specs.Live.{roots_full}
use Rattle.gc_model.specs.Reads.{host_value, host_value_of}
use Rattle.gc_model.specs.Allocation.{Limits}
use Rattle.gc_model.specs.Stores.{StoreView}
use Rattle.gc_commands.specs.declared.command.Command.TheVariants as command
use Rattle.gc_commands.specs.declared.reply.Reply.{Reply}
use Rattle.gc_commands.specs.declared.reply.Reply.TheVariants as reply
use Rattle.gc_commands.specs.declared.reply.Refusal.{Refusal}
use Rattle.gc_commands.specs.declared.reply.Refusal.TheVariants as refusal
use Rattle.gc_store.specs.declared.hosts.PlaceHostFault.TheVariants as host_fault
use Rattle.gc_values.specs.declared.root.GcRootIndex.{GcRootIndex}
use Rattle.gc_values.specs.declared.root.RawValue.{RawValue}
use Rattle.gc_values.specs.declared.faults.PlaceFault.TheVariants as fault
use Rattle.gc_store.specs.HostPlaces.{PlacesHost}
use Rattle.gc_store.specs.Places.{Places}
use Rattle.gc_values.specs.RawValues.{raw_handle}
use Rattle.gc_script.specs.declared.runner.RunError.{RunError}
use Rattle.gc_script.specs.Slots.{RunnerView}
use Rattle.gc_script.specs.State.{State, HoldsState}
use Rattle.gc_script.specs.Given.{Given, is, given_register, is_unset, is_gone, Target, target, reference_target, object_target, is_host, names_kind}
use Rattle.gc_script.specs.Shapes.{shape, making, new_host, host_number}
use Rattle.gc_script.specs.Steps.{first_failing, tests, heap_tests}
use Rattle.gc_script.specs.Policy.{policy_of}
use Rattle.gc_script.specs.Run.{GoesOn, RunsOn, RunsOne, WantsAfter}
use Rattle.gc_script.specs.Values.{IsFoundLive}
use Rattle.gc_script.proofs.FoundLemmas.{NamesRoot, root_of, named_is, names_nothing}
use Rattle.gc_script.proofs.PlainValues.{has_ids}
use Rattle.gc_script.proofs.StandLemmas.{holds_table}
use Rattle.gc_script.proofs.TestLemmas.{passes, answers_by, follows_by, refuses}

-- the number of a host object that is a target; none of any other
abbrev target_number : Option Target → Option ℕ
target_number None = None
target_number (Some found) = host_value found.object

object_number : (p : ℕ) (o : Option (Object ℕ)) → option_and_then host_value o ≡ target_number (object_target p o)
object_number p None = refl
object_number p (Some o) = refl

reference_number : (t : Table ℕ) (q : Reference) → host_value_of t q ≡ target_number (reference_target t (Some q))
reference_number t null = refl
reference_number t (small n) = refl
reference_number t (at p) = object_number p (slice_get t.objects p)

-- a target is a host object exactly where it has a number
abbrev is_numbered : Option ℕ → Bool
is_numbered None = false
is_numbered (Some n) = true

object_kind : (o : Object ℕ) → is_host o ≡ is_numbered (host_value o)
object_kind (struct ty vs) = refl
object_kind (array ty vs) = refl
object_kind (host v) = refl
object_kind (exception ty tag vs) = refl

target_kind : (o : Option Target) → names_kind is_host o ≡ is_numbered (target_number o)
target_kind None = refl
target_kind (Some found) = object_kind found.object

number_told : (o : Option Target) (n : ℕ) → target_number o ≡ Some n → host_number o ≡ n
number_told None n e = absurd (cc e)
number_told (Some found) n e = ap (λ (x : Option ℕ). unwrap_or x 0) e

-- the refusal by what is given, and by whether it is a host object
abbrev host_by : Given → Bool → Option Refusal
host_by g b = first_failing ((is_unset g, refusal.NoSuchName) ∷ (is_gone g, refusal.Unrooted) ∷ (not b, refusal.WrongKind) ∷ [])

module _ (layouts : Layouts) (store : StoreView ℕ) (runner : RunnerView) (s : State) (r : ℕ) (value : RawValue) (holds : HoldsState layouts store runner s) (found : IsFoundLive store s.table value (given_register s r) true) where
  tested : (b : Bool) → names_kind is_host (target s r) ≡ b → first_failing (tests layouts s (command.HostNumber r)) ≡ host_by (is found.0) b
  tested b kind = ap (λ (g : Given). host_by g (names_kind is_host (target s r))) found.1.0 ∙ ap (host_by (is found.0)) kind

  -- the register names no object
  pub unnamed_number : raw_handle value ≡ None → GoesOn layouts s (command.HostNumber r) (Ok (reply.Refused refusal.WrongKind)) store runner
  unnamed_number plain =
      refuses layouts store runner s (command.HostNumber r) refusal.WrongKind holds
      (tested false (ap (λ (o : Option Reference). names_kind is_host (reference_target s.table o)) (names_nothing store s r value found plain)))

  module _ (root : GcRootIndex) (is_root : raw_handle value ≡ Some root) where
    abbrev pub it : NamesRoot store s.table root found.0
    it = root_of store s r value found layouts (holds_table holds.table) root is_root

    target_is : target_number (target s r) ≡ host_value_of s.table it.root
    target_is =
        ap (λ (o : Option Reference). target_number (reference_target s.table o)) (named_is store s r value found layouts (holds_table holds.table) root is_root)
        ∙ sym (reference_number s.table it.root)

    -- it names a host object, whose number was told
    pub host_told : (n : ℕ) → host_value_of s.table it.root ≡ Some n → GoesOn layouts s (command.HostNumber r) (Ok (reply.HostNumber n)) store runner
    host_told n e =
        let number : target_number (target s r) ≡ Some n = target_is ∙ e in
        record {
          after = s;
          answers = answers_by layouts None s (shape (command.HostNumber r)) (first_failing (tests layouts s (command.HostNumber r))) None (reply.HostNumber n) s
              (tested true (target_kind (target s r) ∙ ap is_numbered number)) (ap reply.HostNumber (sym (number_told (target s r) n number)), refl);
          account = refl;
          holds = holds;
        }

    -- it names something else
    pub no_host_told : host_value_of s.table it.root ≡ None → GoesOn layouts s (command.HostNumber r) (Ok (reply.Refused refusal.WrongKind)) store runner
    no_host_told e =
        refuses layouts store runner s (command.HostNumber r) refusal.WrongKind holds
        (tested false (target_kind (target s r) ∙ ap is_numbered (target_is ∙ e)))

-- no host object is too large
host_small : (layouts : Layouts) → too_large layouts (external_size layouts) ≡ false
host_small Null = refl
host_small Counting = refl
host_small Copying = refl

-- what placing a host object answers is what placing any object does
pub placed_host : (layouts : Layouts) (counter : Option ℕ) (limits limits' : Limits) (s : State) (n : ℕ) (handle : GcRootIndex) (new : StoreView ℕ)
    → PlacesHost layouts counter n (policy_of s limits) limits' (Ok handle) new → Places layouts counter (new_host n) (policy_of s limits) limits' (Ok handle) new
placed_host layouts counter limits limits' s n handle new places = places

pub full_for_host : (layouts : Layouts) (counter : Option ℕ) (limits limits' : Limits) (s : State) (n : ℕ) (new : StoreView ℕ)
    → PlacesHost layouts counter n (policy_of s limits) limits' (Err host_fault.RootsFull) new → Places layouts counter (new_host n) (policy_of s limits) limits' (Err fault.RootsFull) new
full_for_host layouts counter limits limits' s n new places =
    (host_small layouts, places.0, places.1, has_ids layouts new s.table (holds_table places.1.holds) (new_host n) refl)

module _ (layouts : Layouts) (counter : Option ℕ) (limits limits' : Limits) (s : State) (d n : ℕ) where
  roots_only : first_failing (tests layouts s (command.Host d n)) ≡ first_failing (heap_tests layouts s (new_host n))
  roots_only = sym (passes (too_large layouts (external_size layouts)) refusal.TooLarge ((roots_full s.table, refusal.RootsFull) ∷ []) (host_small layouts))

  -- what is left is up to the heap
  pub host_runs : (result : Result Reply RunError) (new : StoreView ℕ) (runner : RunnerView) → RunsOn layouts counter limits limits' s (making d class.Extern (λ (x : State). new_host n)) (heap_tests layouts s (new_host n)) result new runner
      → RunsOne layouts counter limits limits' s (command.Host d n) result new runner
  host_runs (Ok answer) new runner ran = record {
    after = ran.after;
    step = answers_by layouts limits.limit s (shape (command.Host d n)) (first_failing (tests layouts s (command.Host d n))) (first_failing (heap_tests layouts s (new_host n))) answer ran.after roots_only ran.answers;
    follows = follows_by layouts counter s limits (shape (command.Host d n)) (first_failing (tests layouts s (command.Host d n))) (first_failing (heap_tests layouts s (new_host n))) answer ran.after limits' roots_only ran.follows;
    counts = ran.counts;
    holds = ran.holds;
  }
  host_runs (Err e) new runner ran =
      record { wants = subst (λ (found : Option Refusal). WantsAfter layouts counter limits limits' s (shape (command.Host d n)) found new runner) (sym roots_only) ran }
