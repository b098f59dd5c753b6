-- A command that asks no limiter is a step under any limit, and follows the policy.
use Rattle.std.proofs.Common.{inl, ◌≡◌, ℕ, ◌==◌, Bool, true, false, cond, List, [], ◌∷◌, Option, Some, None, sym, ap, ◌∙◌, refl, subst}
use Rattle.std.specs.Prelude.{◌&&◌, Result, Ok, Err, not}
use Rattle.std.proofs.lemmas.List.Concat.{flat_map-cons}
use Rattle.gc_types.specs.declared.kind.Layouts.{Layouts}
use Rattle.gc_types.specs.declared.value.FieldType.{FieldType}
use Rattle.gc_types.specs.Declarations.{elem_at}
use Rattle.gc_model.specs.Allocation.{Limits}
use Rattle.gc_model.specs.Stores.{StoreView}
use Rattle.gc_model.specs.Policy as policy
use Rattle.gc_store.specs.Requests.{struct_fields_of, exn_fields_of}
use Rattle.gc_commands.specs.declared.command.Command.{Command}
use Rattle.gc_commands.specs.declared.command.Command.TheVariants.{Bad, Struct, Array, Exn, New, NewExn, NewArr, Fixed, ReadBytes, I31, Field, Elem, Len, HostNumber, SetField, SetElem, Eq, Enter, Leave, Push, Pop, Store, Load, SetGlobal, GetGlobal, Own, Root, Unroot, Throw, Take, Gc, GcInc, GcDrop, Cap}
use Rattle.gc_commands.specs.declared.command.Operand.{Operand}
use Rattle.gc_commands.specs.declared.reply.Reply.{Reply}
use Rattle.gc_commands.specs.declared.reply.Reply.TheVariants as reply
use Rattle.gc_commands.specs.declared.reply.Refusal.{Refusal}
use Rattle.gc_commands.specs.declared.reply.Refusal.TheVariants as refusal
use Rattle.gc_script.specs.declared.runner.RunError.{RunError}
use Rattle.gc_script.specs.Slots.{RunnerView}
use Rattle.gc_script.specs.State.{State, HoldsState, visible}
use Rattle.gc_script.specs.Built.{is_built}
use Rattle.gc_script.specs.Shapes.{CommandShape, plain, declaring, making, growing, collecting, showing, shape, shape_collects, shape_asks_nothing, is_collection, given_struct, new_exception, filled_array, new_fixed}
use Rattle.gc_script.specs.Steps.{tests, built_tests, value_tests, all_value_tests, element_tests, heap_tests, first_failing, AnswersShape, Does, declared, bad}
use Rattle.gc_script.specs.Policy.{policy_of, AsksNothing, FollowsTested, Came}
use Rattle.gc_script.specs.Run.{SaysRefused, GoesOn, RunsOne, WantsAfter, wanted_bytes, asks_nothing}
use Rattle.gc_script.proofs.CountLemmas.{tells, are_mild, append_mild, mild_found, says_other, counts_nothing}
use Rattle.gc_script.proofs.TestLemmas.{stops, answers_by, follows_by}

-- a shape that asks no limiter, and leaves the account
abbrev pub AsksNone : CommandShape → Type 0
AsksNone (plain effect) = Unit {0}
AsksNone (declaring d) = Unit {0}
AsksNone (making d class object) = ⊥
AsksNone (growing n) = ⊥
AsksNone (collecting told) = ⊥
AsksNone showing = Unit {0}

-- what a plain command answers
abbrev pub plain_answer : CommandShape → State → Reply
plain_answer (plain effect) s = (effect s).0
plain_answer _ s = reply.Done

-- it never says that the heap was refused pages
pub mild : (c : Command) (s : State) → tells (plain_answer (shape c) s) ≡ false
mild Bad s = refl
mild c s = refl

pub values_mild : (s : State) (fs : List FieldType) (vs : List Operand) → are_mild (all_value_tests s fs vs) ≡ true
values_mild s [] vs = refl
values_mild s (f ∷ fs) [] = refl
values_mild s (f ∷ fs) (v ∷ vs) = values_mild s fs vs

elements_mild : (s : State) (element : Option FieldType) (vs : List Operand) → are_mild (element_tests s element vs) ≡ true
elements_mild s element [] = refl
elements_mild s element (v ∷ vs) = ap are_mild (flat_map-cons (value_tests s element) v vs) ∙ elements_mild s element vs

value_mild : (s : State) (element : Option FieldType) (v : Operand) (none : Bool) → are_mild (cond none [] (value_tests s element v)) ≡ true
value_mild s element v true = refl
value_mild s element v false = refl

-- and no test does
pub all_mild : (layouts : Layouts) (s : State) (c : Command) → are_mild (tests layouts s c) ≡ true
all_mild layouts s (New d t vs) =
    append_mild (all_value_tests s (struct_fields_of s.table.types t) vs) (heap_tests layouts s (given_struct s t vs)) (values_mild s (struct_fields_of s.table.types t) vs) refl
all_mild layouts s (NewExn d t tag vs) =
    append_mild (all_value_tests s (exn_fields_of s.table.types t) vs) (heap_tests layouts s (new_exception s t tag vs)) (values_mild s (exn_fields_of s.table.types t) vs) refl
all_mild layouts s (NewArr d t n v) =
    append_mild (cond (n == 0) [] (value_tests s (elem_at s.table.types t) v)) (heap_tests layouts s (filled_array s t n v)) (value_mild s (elem_at s.table.types t) v (n == 0)) refl
all_mild layouts s (Fixed d t vs) =
    append_mild (element_tests s (elem_at s.table.types t) vs) (heap_tests layouts s (new_fixed s t vs)) (elements_mild s (elem_at s.table.types t) vs) refl
all_mild layouts s c = refl

module _ (layouts : Layouts) (limit : Option ℕ) (s : State) (answer : Reply) (s' : State) where
  -- what it does is the same under any limit, and the reply says nothing of pages that were refused
  does_any : (sh : CommandShape) → tells (plain_answer sh (visible s)) ≡ false → AsksNone sh → Does layouts None s sh answer s' → Does layouts limit s sh answer s' × (¬ SaysRefused answer)
  does_any (plain effect) mild asks does = (does, says_other answer _ does.0 mild)
  does_any (declaring d) mild asks (declared new is may said after) = (declared new is may said after, says_other answer _ said refl)
  does_any (declaring d) mild asks (bad may said after) = (bad may said after, says_other answer _ said refl)
  does_any (making d class object) mild asks does = absurd asks
  does_any (growing n) mild asks does = absurd asks
  does_any (collecting told) mild asks does = absurd asks
  does_any showing mild asks does = (does, says_other answer _ does.0 refl)

  answers_any : (c : Command) (found : Option Refusal) → AsksNone (shape c) → first_failing (tests layouts s c) ≡ found → AnswersShape layouts None s (shape c) found answer s' → AnswersShape layouts limit s (shape c) found answer s' × (¬ SaysRefused answer)
  answers_any c None asks is answers = does_any (shape c) (mild c (visible s)) asks answers
  answers_any c (Some why) asks is answers = (answers, says_other answer (reply.Refused why) answers.0 (mild_found (tests layouts s c) why (all_mild layouts s c) is))

module _ (layouts : Layouts) (counter : Option ℕ) (s : State) (limits : Limits) where
  -- it follows the policy by asking nothing
  follows_any : (sh : CommandShape) (found : Option Refusal) (answer : Reply) (s' : State) → AsksNone sh → AsksNothing s limits s' limits → FollowsTested layouts counter s limits sh found answer s' limits
  follows_any sh (Some why) answer s' asks none = none
  follows_any (plain effect) None answer s' asks none = none
  follows_any (declaring d) None answer s' asks none = none
  follows_any (making d class object) None answer s' asks none = absurd asks
  follows_any (growing n) None answer s' asks none = absurd asks
  follows_any (collecting told) None answer s' asks none = absurd asks
  follows_any showing None answer s' asks none = none

  -- a command that wanted memory may not have begun
  not_begun : (sh : CommandShape) (found : Option Refusal) → Came layouts counter s sh found (policy_of s limits) (policy_of s limits)
  not_begun sh (Some why) = refl
  not_begun (plain effect) None = refl
  not_begun (declaring d) None = refl
  not_begun (making d class object) None = policy.not_begun
  not_begun (growing n) None = inl refl
  not_begun (collecting told) None = refl
  not_begun showing None = refl

-- want of memory that leaves all
pub wants_nothing : (layouts : Layouts) (counter : Option ℕ) (limits : Limits) (s : State) (sh : CommandShape) (found : Option Refusal) (new : StoreView ℕ) (runner : RunnerView) → HoldsState layouts new runner s → WantsAfter layouts counter limits limits s sh found new runner
wants_nothing layouts counter limits s sh found new runner holds = record {
  after = policy_of s limits;
  came = not_begun layouts counter s limits sh found;
  pages = inl refl;
  holds = holds;
  limits_are = refl;
}

-- a refusal by a test leaves all
pub refused_runs : (layouts : Layouts) (counter : Option ℕ) (limits : Limits) (s : State) (c : Command) (why : Refusal) (store : StoreView ℕ) (runner : RunnerView) → HoldsState layouts store runner s → first_failing (tests layouts s c) ≡ Some why → RunsOne layouts counter limits limits s c (Ok (reply.Refused why)) store runner
refused_runs layouts counter limits s c why store runner holds found = record {
  after = s;
  step = answers_by layouts limits.limit s (shape c) (first_failing (tests layouts s c)) (Some why) (reply.Refused why) s found (refl, refl);
  follows = follows_by layouts counter s limits (shape c) (first_failing (tests layouts s c)) (Some why) (reply.Refused why) s limits found (record { account = refl; same_limits = refl });
  counts = counts_nothing (wanted_bytes layouts s c) limits limits (reply.Refused why) s (says_other (reply.Refused why) (reply.Refused why) refl (mild_found (tests layouts s c) why (all_mild layouts s c) found)) refl;
  holds = holds;
}

-- so of a command that is not built
pub unbuilt_runs : (layouts : Layouts) (counter : Option ℕ) (limits : Limits) (s : State) (c : Command) (store : StoreView ℕ) (runner : RunnerView) → HoldsState layouts store runner s → is_built c ≡ false → RunsOne layouts counter limits limits s c (Ok (reply.Refused refusal.BadLine)) store runner
unbuilt_runs layouts counter limits s c store runner holds unbuilt =
    refused_runs layouts counter limits s c refusal.BadLine store runner holds (stops (not (is_built c)) refusal.BadLine (built_tests layouts (visible s) c) (ap not unbuilt))

-- a command that collects is one
pub collection_built : (c : Command) → is_collection c ≡ true → is_built c ≡ true
collection_built Gc is = refl
collection_built GcInc is = refl
collection_built GcDrop is = refl
collection_built c is = absurd (cc is)

-- a command that asks no limiter runs
pub goes_runs : (layouts : Layouts) (counter : Option ℕ) (limits : Limits) (s : State) (c : Command) (result : Result Reply RunError) (new : StoreView ℕ) (runner : RunnerView) → AsksNone (shape c) → GoesOn layouts s c result new runner → RunsOne layouts counter limits limits s c result new runner
goes_runs layouts counter limits s c (Ok answer) new runner asks goes =
    let did = answers_any layouts limits.limit s answer goes.after c (first_failing (tests layouts s c)) asks refl goes.answers in
    record {
      after = goes.after;
      step = did.0;
      follows = follows_any layouts counter s limits (shape c) (first_failing (tests layouts s c)) answer goes.after asks (record { account = goes.account; same_limits = refl });
      counts = counts_nothing (wanted_bytes layouts s c) limits limits answer goes.after did.1 refl;
      holds = goes.holds;
    }
goes_runs layouts counter limits s c (Err e) new runner asks goes = record { wants = wants_nothing layouts counter limits s (shape c) (first_failing (tests layouts s c)) new runner goes }

-- the commands that ask none are of such a shape
asks_by : (built : Bool) (sh : CommandShape) → (built && shape_asks_nothing sh) ≡ true → AsksNone sh
asks_by built (plain effect) e = tt
asks_by built (declaring d) e = tt
asks_by built showing e = tt
asks_by true sh e = absurd (cc e)
asks_by false sh e = absurd (cc e)

pub asks_none : (c : Command) → asks_nothing c ≡ true → AsksNone (shape c)
asks_none c = asks_by (is_built c) (shape c)

-- a command that is known goes as it does
pub goes_as : (layouts : Layouts) (s : State) (c known : Command) (result : Result Reply RunError) (new : StoreView ℕ) (runner : RunnerView) → c ≡ known → GoesOn layouts s known result new runner → GoesOn layouts s c result new runner
goes_as layouts s c known result new runner is goes = subst (λ (x : Command). GoesOn layouts s x result new runner) (sym is) goes

-- nor do they collect
collects_by : (sh : CommandShape) → AsksNone sh → shape_collects sh ≡ true → ⊥
collects_by (collecting told) asks is = asks
collects_by sh asks is = cc is

pub asks_collect : (c : Command) → asks_nothing c ≡ true → is_collection c ≡ true → ⊥
asks_collect c asks = collects_by (shape c) (asks_none c asks)
