-- Which replies say that the heap was refused pages, exactly.
use Rattle.std.proofs.Common.{inl, inr, ◌≡◌, ◌↔◌, ℕ, ◌≤◌, Bool, true, false, List, [], ◌∷◌, Option, Some, None, refl, sym, ap, ◌∙◌}
use Rattle.gc_types.specs.declared.kind.Layouts.{Layouts}
use Rattle.gc_model.specs.Values.{Object}
use Rattle.gc_model.specs.Table.{Table}
use Rattle.gc_model.specs.Words.{Placing}
use Rattle.gc_view.specs.Pages.{max_pages}
use Rattle.gc_model.specs.Allocation.{LacksMemory, no_heap, no_room, Grows}
use Rattle.gc_model.specs.Allocation as allocation
use Rattle.gc_commands.specs.declared.command.Command.{Command}
use Rattle.gc_commands.specs.declared.reply.Reply.{Reply}
use Rattle.gc_commands.specs.declared.reply.Reply.TheVariants as reply
use Rattle.gc_commands.specs.declared.reply.Refusal.{Refusal}
use Rattle.gc_commands.specs.declared.reply.Refusal.TheVariants as refusal
use Rattle.gc_script.specs.State.{State, visible}
use Rattle.gc_script.specs.Shapes.{CommandShape, plain, declaring, making, growing, collecting, showing, shape}
use Rattle.gc_script.specs.Steps as steps
use Rattle.gc_script.specs.Steps.{Step, AnswersShape, Does, first_failing, tests}
use Rattle.gc_script.specs.Run.{Run, SaysRefused}
use Rattle.gc_script.proofs.CollectionLemmas.{tells_mild}
use Rattle.gc_script.proofs.CountLemmas.{tells, mild_found, says_other}
use Rattle.gc_script.proofs.GoesLemmas.{plain_answer, mild, all_mild}
use Rattle.gc_laws.specs.Laws.{ShapeRunsOut, IsOutOfMemory, GrowsPast, FailsToGrow}
use Rattle.gc_laws.proofs.LimitLaws.{lacks_over, allocates_under, growth_over}

-- a reply that says nothing of it, and a cause that isn't there
no_memory : {A : Type 0} {r : Reply} → ¬ SaysRefused r → (A → ⊥) → (r ≡ reply.Refused refusal.GcHeapOutOfMemory) ↔ A
no_memory mild none = (λ e. absurd (mild (inl e)), λ a. absurd (none a))

no_growth : {A : Type 0} {r : Reply} → ¬ SaysRefused r → (A → ⊥) → (r ≡ reply.Refused refusal.GcHeapGrowthFailed) ↔ A
no_growth mild none = (λ e. absurd (mild (inr e)), λ a. absurd (none a))

not_found : (why : Refusal) → ¬ (None ≡ Some why)
not_found why e = cc e

module _ (layouts : Layouts) (most : ℕ) (s s' : State) where
  out_does : (sh : CommandShape) (r : Reply) → tells (plain_answer sh (visible s)) ≡ false → most ≤ max_pages → s.table.first ≤ most → Does layouts (Some most) s sh r s'
      → (r ≡ reply.Refused refusal.GcHeapOutOfMemory) ↔ ShapeRunsOut layouts most s sh
  out_does (plain effect) r mild within first does = no_memory (says_other r _ does.0 mild) (λ x. x)
  out_does (declaring d) r mild within first (steps.declared new is may said after) = no_memory (says_other r _ said refl) (λ x. x)
  out_does (declaring d) r mild within first (steps.bad may said after) = no_memory (says_other r _ said refl) (λ x. x)
  out_does (making d class object) r mild within first (steps.made u a allocates said after) =
      no_memory (says_other r _ said refl) (allocates_under layouts most s.account.places (object (visible s)) s.table u allocates)
  out_does (making d class object) r mild within first (steps.lacks u a lacking said after) =
      (λ e. lacks_over layouts most s.account.places (object (visible s)) s.table u within first lacking, λ out. said)
  out_does (growing n) r mild within first (steps.grown u a grows said after) = no_memory (says_other r _ said refl) (λ x. x)
  out_does (growing n) r mild within first (steps.refused u a grows said after) = (λ e. absurd (cc (said, e)), λ x. absurd x)
  out_does (collecting told) r mild within first does = no_memory (tells_mild layouts s told r does.0) (λ x. x)
  out_does showing r mild within first does = no_memory (says_other r _ does.0 refl) (λ x. x)

  growth_does : (sh : CommandShape) (r : Reply) → tells (plain_answer sh (visible s)) ≡ false → most ≤ max_pages → s.table.first ≤ most → Does layouts (Some most) s sh r s'
      → (r ≡ reply.Refused refusal.GcHeapGrowthFailed) ↔ GrowsPast most s sh
  growth_does (plain effect) r mild within first does = no_growth (says_other r _ does.0 mild) (λ x. x)
  growth_does (declaring d) r mild within first (steps.declared new is may said after) = no_growth (says_other r _ said refl) (λ x. x)
  growth_does (declaring d) r mild within first (steps.bad may said after) = no_growth (says_other r _ said refl) (λ x. x)
  growth_does (making d class object) r mild within first (steps.made u a allocates said after) = no_growth (says_other r _ said refl) (λ x. x)
  growth_does (making d class object) r mild within first (steps.lacks u a lacking said after) = (λ e. absurd (cc (said, e)), λ x. absurd x)
  growth_does (growing n) r mild within first (steps.grown u a grows said after) =
      let none : ¬ (true ≡ false) = λ e. cc e in
      no_growth (says_other r _ said refl) (λ fails. none ((growth_over most n s.table u true within first grows).1 fails))
  growth_does (growing n) r mild within first (steps.refused u a grows said after) = (λ e. (growth_over most n s.table u false within first grows).0 refl, λ fails. said)
  growth_does (collecting told) r mild within first does = no_growth (tells_mild layouts s told r does.0) (λ x. x)
  growth_does showing r mild within first does = no_growth (says_other r _ does.0 refl) (λ x. x)

  out_by : (c : Command) (r : Reply) (found : Option Refusal) → most ≤ max_pages → s.table.first ≤ most → first_failing (tests layouts s c) ≡ found → AnswersShape layouts (Some most) s (shape c) found r s'
      → (r ≡ reply.Refused refusal.GcHeapOutOfMemory) ↔ IsOutOfMemory layouts most s c
  out_by c r None within first is does =
      let same = out_does (shape c) r (mild c (visible s)) within first does in
      (λ e. (is, same.0 e), λ out. same.1 out.1)
  out_by c r (Some why) within first is answers =
      no_memory (says_other r (reply.Refused why) answers.0 (mild_found (tests layouts s c) why (all_mild layouts s c) is)) (λ out. not_found why (sym out.0 ∙ is))

  growth_by : (c : Command) (r : Reply) (found : Option Refusal) → most ≤ max_pages → s.table.first ≤ most → first_failing (tests layouts s c) ≡ found → AnswersShape layouts (Some most) s (shape c) found r s'
      → (r ≡ reply.Refused refusal.GcHeapGrowthFailed) ↔ FailsToGrow layouts most s c
  growth_by c r None within first is does =
      let same = growth_does (shape c) r (mild c (visible s)) within first does in
      (λ e. (is, same.0 e), λ fails. same.1 fails.1)
  growth_by c r (Some why) within first is answers =
      no_growth (says_other r (reply.Refused why) answers.0 (mild_found (tests layouts s c) why (all_mild layouts s c) is)) (λ fails. not_found why (sym fails.0 ∙ is))

pub out_exact : (layouts : Layouts) (most : ℕ) (s s' : State) (c : Command) (r : Reply) → most ≤ max_pages → s.table.first ≤ most → Step layouts (Some most) s c r s'
    → (r ≡ reply.Refused refusal.GcHeapOutOfMemory) ↔ IsOutOfMemory layouts most s c
out_exact layouts most s s' c r within first step = out_by layouts most s s' c r (first_failing (tests layouts s c)) within first refl step

pub growth_exact : (layouts : Layouts) (most : ℕ) (s s' : State) (c : Command) (r : Reply) → most ≤ max_pages → s.table.first ≤ most → Step layouts (Some most) s c r s'
    → (r ≡ reply.Refused refusal.GcHeapGrowthFailed) ↔ FailsToGrow layouts most s c
growth_exact layouts most s s' c r within first step = growth_by layouts most s s' c r (first_failing (tests layouts s c)) within first refl step

lacks_first : (layouts : Layouts) (limit : Option ℕ) (places : Placing) (o : Object ℕ) (t t' : Table ℕ) → LacksMemory layouts limit places o t t' → t'.first ≡ t.first
lacks_first layouts limit places o t t' (no_heap refused is) = ap (λ (u : Table ℕ). u.first) is
lacks_first layouts limit places o t t' (no_room may refused lacks is) = ap (λ (u : Table ℕ). u.first) is

grows_first : (limit : Option ℕ) (bytes : ℕ) (t t' : Table ℕ) (granted : Bool) → Grows limit bytes t granted t' → t'.first ≡ t.first
grows_first limit bytes t t' granted (allocation.nothing none) = refl
grows_first limit bytes t t' granted (allocation.granted some may grow) = refl
grows_first limit bytes t t' granted (allocation.no_heap some refused) = refl
grows_first limit bytes t t' granted (allocation.refused some may over) = refl

abbrev first_of : State → ℕ
first_of s = s.table.first

does_first : (layouts : Layouts) (limit : Option ℕ) (s : State) (sh : CommandShape) (answer : Reply) (s' : State) → Does layouts limit s sh answer s' → s'.table.first ≡ s.table.first
does_first layouts limit s (plain effect) answer s' does = ap first_of does.1
does_first layouts limit s (declaring d) answer s' (steps.declared new is may said after) = ap first_of after
does_first layouts limit s (declaring d) answer s' (steps.bad may said after) = ap first_of after
does_first layouts limit s (making d class object) answer s' (steps.made u a allocates said after) = ap first_of after ∙ ap (λ (x : Table ℕ). x.first) allocates.made
does_first layouts limit s (making d class object) answer s' (steps.lacks u a lacking said after) = ap first_of after ∙ lacks_first layouts limit s.account.places (object (visible s)) s.table u lacking
does_first layouts limit s (growing n) answer s' (steps.grown u a grows said after) = ap first_of after ∙ grows_first limit n s.table u true grows
does_first layouts limit s (growing n) answer s' (steps.refused u a grows said after) = ap first_of after ∙ grows_first limit n s.table u false grows
does_first layouts limit s (collecting told) answer s' does = ap first_of does.1.1
does_first layouts limit s showing answer s' does = ap first_of does.1

answers_first : (layouts : Layouts) (limit : Option ℕ) (s : State) (sh : CommandShape) (found : Option Refusal) (answer : Reply) (s' : State) → AnswersShape layouts limit s sh found answer s' → s'.table.first ≡ s.table.first
answers_first layouts limit s sh None answer s' answers = does_first layouts limit s sh answer s' answers
answers_first layouts limit s sh (Some why) answer s' answers = ap first_of answers.1

-- the first pages stay those of the start
pub first_stays : (layouts : Layouts) (limit : Option ℕ) (s s' : State) (cs : List Command) (rs : List Reply) → Run layouts limit s cs rs s' → s'.table.first ≡ s.table.first
first_stays layouts limit s s' [] [] run = ap first_of run
first_stays layouts limit s s' [] (r ∷ rs) run = absurd run
first_stays layouts limit s s' (c ∷ cs) [] run = absurd run
first_stays layouts limit s s' (c ∷ cs) (r ∷ rs) run =
    first_stays layouts limit run.0 s' cs rs run.1.1 ∙ answers_first layouts limit s (shape c) (first_failing (tests layouts s c)) r run.0 run.1.0
