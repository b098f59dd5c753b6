-- The first test that is true.
use Rattle.std.proofs.Common.{◌≡◌, ℕ, List, [], ◌∷◌, ◌++◌, Option, Some, None, Bool, true, false, cond, sym, ap, refl, subst}
use Rattle.std.specs.Prelude.{Result, Ok, Err}
use Rattle.gc_types.specs.declared.kind.Layouts.{Layouts}
use Rattle.gc_model.specs.Allocation.{Limits}
use Rattle.gc_model.specs.Stores.{StoreView}
use Rattle.gc_commands.specs.declared.command.Command.{Command}
use Rattle.gc_commands.specs.declared.reply.Reply.{Reply}
use Rattle.gc_commands.specs.declared.reply.Reply.TheVariants as reply
use Rattle.gc_commands.specs.declared.reply.Refusal.{Refusal}
use Rattle.gc_script.specs.Slots.{RunnerView}
use Rattle.gc_script.specs.State.{State, HoldsState}
use Rattle.gc_script.specs.Shapes.{CommandShape, shape}
use Rattle.gc_script.specs.Steps.{first_failing, tests, AnswersShape}
use Rattle.gc_script.specs.Policy.{FollowsTested}
use Rattle.gc_script.specs.Run.{GoesUnasked, GoesBy}
use Rattle.gc_script.specs.declared.runner.RunError.{RunError}

-- a test that is false is passed over
pub passes : (t : Bool) (why : Refusal) (ts : List (Bool × Refusal)) → t ≡ false → first_failing ((t, why) ∷ ts) ≡ first_failing ts
passes t why ts e = ap (λ b. cond b (Some why) (first_failing ts)) e

-- one that is true refuses
pub stops : (t : Bool) (why : Refusal) (ts : List (Bool × Refusal)) → t ≡ true → first_failing ((t, why) ∷ ts) ≡ Some why
stops t why ts e = ap (λ b. cond b (Some why) (first_failing ts)) e

-- tests that all pass are passed over
pub passes_all : (ts us : List (Bool × Refusal)) → first_failing ts ≡ None → first_failing (ts ++ us) ≡ first_failing us
passes_all [] us e = refl
passes_all ((true, why) ∷ ts) us e = absurd (cc e)
passes_all ((false, why) ∷ ts) us e = passes_all ts us e

-- a refusal among tests is one of any list that begins with them
pub stops_all : (ts us : List (Bool × Refusal)) (why : Refusal) → first_failing ts ≡ Some why → first_failing (ts ++ us) ≡ Some why
stops_all [] us why e = absurd (cc e)
stops_all ((true, w) ∷ ts) us why e = e
stops_all ((false, w) ∷ ts) us why e = stops_all ts us why e

-- what a command answers, by what its tests found
pub answers_by : (layouts : Layouts) (limit : Option ℕ) (s : State) (sh : CommandShape) (found known : Option Refusal) (answer : Reply) (s' : State) → found ≡ known → AnswersShape layouts limit s sh known answer s' → AnswersShape layouts limit s sh found answer s'
answers_by layouts limit s sh found known answer s' e answers = subst (λ (o : Option Refusal). AnswersShape layouts limit s sh o answer s') (sym e) answers

-- how a command follows the policy, by what its tests found
pub follows_by : (layouts : Layouts) (counter : Option ℕ) (s : State) (limits : Limits) (sh : CommandShape) (found known : Option Refusal) (answer : Reply) (s' : State) (limits' : Limits) → found ≡ known → FollowsTested layouts counter s limits sh known answer s' limits' → FollowsTested layouts counter s limits sh found answer s' limits'
follows_by layouts counter s limits sh found known answer s' limits' e follows = subst (λ (o : Option Refusal). FollowsTested layouts counter s limits sh o answer s' limits') (sym e) follows

-- the same tests, once some passed
pub goes_by : (layouts : Layouts) (s : State) (sh : CommandShape) (left left' : List (Bool × Refusal)) (result : Result Reply RunError) (new : StoreView ℕ) (runner : RunnerView) → first_failing left' ≡ first_failing left → GoesBy layouts s sh left result new runner → GoesBy layouts s sh left' result new runner
goes_by layouts s sh left left' (Ok answer) new runner e goes = record {
  after = goes.after;
  answers = answers_by layouts None s sh (first_failing left') (first_failing left) answer goes.after e goes.answers;
  account = goes.account;
  holds = goes.holds;
}
goes_by layouts s sh left left' (Err why) new runner e goes = goes

-- a command that is refused changes nothing
pub refuses_by : (layouts : Layouts) (store : StoreView ℕ) (runner : RunnerView) (s : State) (sh : CommandShape) (left : List (Bool × Refusal)) (why : Refusal) → HoldsState layouts store runner s → first_failing left ≡ Some why → GoesUnasked layouts s sh left (reply.Refused why) store runner
refuses_by layouts store runner s sh left why holds e = record {
  after = s;
  answers = answers_by layouts None s sh (first_failing left) (Some why) (reply.Refused why) s e (refl, refl);
  account = refl;
  holds = holds;
}

pub refuses : (layouts : Layouts) (store : StoreView ℕ) (runner : RunnerView) (s : State) (c : Command) (why : Refusal) → HoldsState layouts store runner s → first_failing (tests layouts s c) ≡ Some why → GoesUnasked layouts s (shape c) (tests layouts s c) (reply.Refused why) store runner
refuses layouts store runner s c why holds e = refuses_by layouts store runner s (shape c) (tests layouts s c) why holds e
