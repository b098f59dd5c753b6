-- What `held` tells.
use Rattle.std.proofs.Common.{◌≡◌, ℕ, Bool, true, false, Option, Some, None, refl, sym, ap, subst}
use Rattle.std.specs.List.{slice_get}
use Rattle.gc_types.specs.declared.kind.Layouts.{Layouts}
use Rattle.gc_types.specs.declared.kind.Layouts.TheVariants.{Null, Counting, Copying}
use Rattle.gc_model.specs.Table.{Table}
use Rattle.gc_model.specs.Reach.{IsReached, IsHost, HasNumber, KeepsNumber}
use Rattle.gc_commands.specs.declared.command.Command.{Command}
use Rattle.gc_commands.specs.declared.command.Command.TheVariants.{Bad}
use Rattle.gc_commands.specs.declared.reply.Reply.{Reply}
use Rattle.gc_commands.specs.declared.reply.Reply.TheVariants as reply
use Rattle.gc_commands.specs.declared.reply.Refusal.{Refusal}
use Rattle.gc_script.specs.State.{State, visible}
use Rattle.gc_script.specs.Shapes.{CommandShape, plain, declaring, making, growing, collecting, of_objects, of_increments, showing, shape}
use Rattle.gc_script.proofs.GoesLemmas.{plain_answer}
use Rattle.gc_script.specs.Steps as steps
use Rattle.gc_script.specs.Steps.{Step, AnswersShape, Does, Keeps, first_failing, tests}

-- a collection tells how many positions are reached, and how many host objects are among them
abbrev CountsReached : Table ℕ → ℕ → ℕ → Type 0
CountsReached t objects hosts = HasNumber (IsReached t) objects × HasNumber (λ (p : ℕ). IsReached t p × IsHost (slice_get t.objects p)) hosts

kept_reached : (layouts : Layouts) (t : Table ℕ) (objects hosts : ℕ) → ¬ (layouts ≡ Null) → KeepsNumber layouts t objects hosts → CountsReached t objects hosts
kept_reached Null t objects hosts other kept = absurd (other refl)
kept_reached Counting t objects hosts other kept = (kept.objects_are, kept.hosts_are)
kept_reached Copying t objects hosts other kept = (kept.objects_are, kept.hosts_are)

abbrev objects_of : Reply → ℕ
objects_of (reply.Held objects hosts) = objects
objects_of _ = 0

abbrev hosts_of : Reply → ℕ
hosts_of (reply.Held objects hosts) = hosts
hosts_of _ = 0

abbrev is_held : Reply → Bool
is_held (reply.Held objects hosts) = true
is_held _ = false

never_held : (c : Command) (v : State) → is_held (plain_answer (shape c) v) ≡ false
never_held Bad v = refl
never_held c v = refl

module _ (layouts : Layouts) (limit : Option ℕ) (s s' : State) (objects hosts : ℕ) (other : ¬ (layouts ≡ Null)) where
  other_reply : (answer : Reply) → reply.Held objects hosts ≡ answer → is_held answer ≡ false → CountsReached s'.table objects hosts
  other_reply answer is mild = absurd (cc (ap is_held is, mild))

  keeps_reached : Keeps layouts s (reply.Held objects hosts) → s'.table ≡ s.table → CountsReached s'.table objects hosts
  keeps_reached k same =
      let one : objects ≡ k.objects = ap objects_of k.shows in
      let two : hosts ≡ k.hosts = ap hosts_of k.shows in
      let reached = kept_reached layouts s.table k.objects k.hosts other k.kept in
      subst (λ (t : Table ℕ). CountsReached t objects hosts) (sym same)
      (subst (λ (n : ℕ). CountsReached s.table n hosts) (sym one) (subst (λ (n : ℕ). CountsReached s.table k.objects n) (sym two) reached))

  does_reached : (sh : CommandShape) → is_held (plain_answer sh (visible s)) ≡ false → Does layouts limit s sh (reply.Held objects hosts) s' → CountsReached s'.table objects hosts
  does_reached (plain effect) mild does = other_reply (effect (visible s)).0 does.0 mild
  does_reached (declaring d) mild (steps.declared new is may said after) = other_reply _ said refl
  does_reached (declaring d) mild (steps.bad may said after) = other_reply _ said refl
  does_reached (making d class object) mild (steps.made u a allocates said after) = other_reply _ said refl
  does_reached (making d class object) mild (steps.lacks u a lacking said after) = other_reply _ said refl
  does_reached (growing n) mild (steps.grown u a grows said after) = other_reply _ said refl
  does_reached (growing n) mild (steps.refused u a grows said after) = other_reply _ said refl
  does_reached (collecting of_objects) mild does = keeps_reached does.0 (ap (λ (x : State). x.table) does.1.1)
  does_reached (collecting of_increments) mild does = other_reply _ does.0.shows refl
  does_reached showing mild does = other_reply _ does.0 refl

  answers_reached : (sh : CommandShape) (found : Option Refusal) → is_held (plain_answer sh (visible s)) ≡ false → AnswersShape layouts limit s sh found (reply.Held objects hosts) s' → CountsReached s'.table objects hosts
  answers_reached sh None mild answers = does_reached sh mild answers
  answers_reached sh (Some why) mild answers = other_reply (reply.Refused why) answers.0 refl

-- in a heap that collects it tells of the reached positions
pub held_reached : (layouts : Layouts) (limit : Option ℕ) (s s' : State) (c : Command) (objects hosts : ℕ) → ¬ (layouts ≡ Null) → Step layouts limit s c (reply.Held objects hosts) s' → CountsReached s'.table objects hosts
held_reached layouts limit s s' c objects hosts other step = answers_reached layouts limit s s' objects hosts other (shape c) (first_failing (tests layouts s c)) (never_held c (visible s)) step
