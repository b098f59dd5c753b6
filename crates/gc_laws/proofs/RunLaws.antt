-- Two runs of one script in which no heap was refused pages, over heaps of one kind, or of two that keep the same.
use Rattle.std.proofs.Common.{◌≡◌, ℕ, List, [], ◌∷◌, ◌++◌, ◌⊎◌, Contains, Option, Some, None, Bool, true, false, cond, not, length, inl, inr, refl, sym, ap, ◌∙◌, subst}
use Rattle.std.proofs.lemmas.List.Elements.{Contains-append_left, Contains-append_right, Contains-push}
use Rattle.std.proofs.lemmas.Option.{same_Some}
use Rattle.gc_types.specs.declared.kind.Layouts.{Layouts}
use Rattle.gc_types.specs.declared.kind.Layouts.TheVariants.{Counting, Copying}
use Rattle.gc_types.specs.Declarable.{Declarable}
use Rattle.gc_types.specs.Declarations.{Declaration}
use Rattle.gc_owner.specs.declared.entry.GcClass.{GcClass}
use Rattle.gc_model.specs.Values.{Object}
use Rattle.gc_model.specs.Table.{Table, declare, make}
use Rattle.gc_model.specs.Allocation as allocation
use Rattle.gc_model.specs.Allocation.{Grows, nothing, no_heap, too_large}
use Rattle.gc_model.specs.Live.{roots_full}
use Rattle.gc_model.specs.Sizes.{object_size}
use Rattle.gc_commands.specs.declared.command.Command.{Command}
use Rattle.gc_commands.specs.declared.command.Command.TheVariants.{New, NewExn, NewArr, Fixed, NewBytes, Gc, GcDrop, GcInc, Cap}
use Rattle.gc_commands.specs.declared.reply.Reply.{Reply}
use Rattle.gc_commands.specs.declared.reply.Reply.TheVariants as reply
use Rattle.gc_commands.specs.declared.reply.Refusal.{Refusal}
use Rattle.gc_commands.specs.declared.reply.Refusal.TheVariants as refusal
use Rattle.gc_model.specs.Accounts.{Account}
use Rattle.gc_script.specs.State.{State, reference, with_heap, with_table, set_register, visible}
use Rattle.gc_script.specs.Built.{is_built}
use Rattle.gc_script.specs.Shapes.{CommandShape, plain, declaring, making, growing, collecting, of_objects, of_increments, showing, shape, given_struct, new_exception, filled_array, new_fixed, new_bytes}
use Rattle.gc_script.specs.Steps.{Step, AnswersShape, Does, AnswersDeclare, declared, bad, MakesNew, made, lacks, AnswersGrow, grown, refused, Keeps, new_tests, new_exn_tests, new_array_tests, new_fixed_tests, new_bytes_tests, built_tests, tests, first_failing}
use Rattle.gc_script.specs.Run.{Run, SaysRefused}
use Rattle.gc_laws.specs.Laws.{NoneRefused, SaysLarge, NoneLarge, SameAnswer, SameReply, SameReplies}
use Rattle.gc_laws.proofs.StepLaws.{same_held}

-- a growth changes nothing that is visible
grows_unseen : (limit : Option ℕ) (bytes : ℕ) (s : State) (t : Table ℕ) (a : Account) (granted : Bool) → Grows limit bytes s.table granted t → visible (with_heap t a s) ≡ visible s
grows_unseen limit bytes s t a granted (nothing none) = refl
grows_unseen limit bytes s t a granted (allocation.granted some may grow) = refl
grows_unseen limit bytes s t a granted (no_heap some above) = refl
grows_unseen limit bytes s t a granted (allocation.refused some may over) = refl

same_answer : (sh : CommandShape) (answer answer' : Reply) → answer ≡ answer' → SameAnswer sh answer answer'
same_answer showing answer answer' same = tt
same_answer (collecting of_increments) answer answer' same = tt
same_answer sh answer answer' same = same

module _ (layouts layouts' : Layouts) (limit limit' : Option ℕ) (s t : State) (seen : visible s ≡ visible t) where
  -- collections keep as many objects of either
  abbrev SameKept : Type 0
  SameKept = (answer answer' : Reply) → Keeps layouts s answer → Keeps layouts' t answer' → answer ≡ answer'

  -- what two steps have in common from such states, where no heap was refused pages
  abbrev SameSteps : CommandShape → Reply → Reply → State → State → Type 0
  SameSteps sh answer answer' s' t' = SameAnswer sh answer answer' × (visible s' ≡ visible t')

  -- states that are left as they were
  left_alike : (s' t' : State) → s' ≡ s → t' ≡ t → visible s' ≡ visible t'
  left_alike s' t' one other = ap visible one ∙ seen ∙ sym (ap visible other)

  same_types : s.table.types ≡ t.table.types
  same_types = ap (λ (v : State). v.table.types) seen

  same_declares : (d : List Declaration → Option Declaration) (answer answer' : Reply) (s' t' : State) → AnswersDeclare (d s.table.types) s answer s' → AnswersDeclare (d t.table.types) t answer' t' → (answer ≡ answer') × (visible s' ≡ visible t')
  same_declares d answer answer' s' t' (declared new spells may is after) (declared new' spells' may' is' after') = (
    is ∙ ap (λ (types : List Declaration). reply.Declared (length types)) same_types ∙ sym is',
    ap visible after ∙ ap (λ (v : State). with_table (declare new v.table) v) seen
        ∙ ap (λ (x : Declaration). with_table (declare x (visible t).table) (visible t)) (cc (spells, ap d same_types, spells')) ∙ sym (ap visible after'),
  )
  same_declares d answer answer' s' t' (declared new spells may is after) (bad may_not is' after') =
      absurd (may_not new (sym (ap d same_types) ∙ spells) (subst (λ (types : List Declaration). Declarable types new) same_types may))
  same_declares d answer answer' s' t' (bad may_not is after) (declared new spells may is' after') =
      absurd (may_not new (ap d same_types ∙ spells) (subst (λ (types : List Declaration). Declarable types new) (sym same_types) may))
  same_declares d answer answer' s' t' (bad may_not is after) (bad may_not' is' after') = (is ∙ sym is', left_alike s' t' after after')

  -- what is visible once an object was made
  abbrev made_visibly : ℕ → GcClass → (State → Object ℕ) → State → State
  made_visibly d class object v = visible (set_register d (reference class (Some (length v.table.pushes))) (with_table (make (object v) v.table) v))

  same_makes : (d : ℕ) (class : GcClass) (object : State → Object ℕ) (answer answer' : Reply) (s' t' : State) → MakesNew layouts limit d class (object (visible s)) s answer s' → MakesNew layouts' limit' d class (object (visible t)) t answer' t' → ¬ SaysRefused answer → ¬ SaysRefused answer' → (answer ≡ answer') × (visible s' ≡ visible t')
  same_makes d class object answer answer' s' t' (made u a allocates is after) (made u1 a1 allocates1 is1 after1) fine fine1 =
      let one : visible s' ≡ made_visibly d class object (visible s) = ap visible (after ∙ ap (λ (x : Table ℕ). set_register d (reference class (Some (length s.table.pushes))) (with_heap x a s)) allocates.made) in
      let other : visible t' ≡ made_visibly d class object (visible t) = ap visible (after1 ∙ ap (λ (x : Table ℕ). set_register d (reference class (Some (length t.table.pushes))) (with_heap x a1 t)) allocates1.made) in
      (is ∙ sym is1, one ∙ ap (made_visibly d class object) seen ∙ sym other)
  same_makes d class object answer answer' s' t' (made u a allocates is after) (lacks u1 a1 wants is1 after1) fine fine1 = absurd (fine1 (inl is1))
  same_makes d class object answer answer' s' t' (lacks u a wants is after) makes fine fine1 = absurd (fine (inl is))

  same_grown : (bytes : ℕ) (answer answer' : Reply) (s' t' : State) → AnswersGrow limit bytes s answer s' → AnswersGrow limit' bytes t answer' t' → ¬ SaysRefused answer → ¬ SaysRefused answer' → (answer ≡ answer') × (visible s' ≡ visible t')
  same_grown bytes answer answer' s' t' (grown u a grows is after) (grown u1 a1 grows1 is1 after1) fine fine1 =
      (is ∙ sym is1, ap visible after ∙ grows_unseen limit bytes s u a true grows ∙ seen ∙ sym (ap visible after1 ∙ grows_unseen limit' bytes t u1 a1 true grows1))
  same_grown bytes answer answer' s' t' (grown u a grows is after) (refused u1 a1 grows1 is1 after1) fine fine1 = absurd (fine1 (inr is1))
  same_grown bytes answer answer' s' t' (refused u a grows is after) grows1 fine fine1 = absurd (fine (inr is))

  same_doing : (sh : CommandShape) (answer answer' : Reply) (s' t' : State) → (sh ≡ collecting of_objects → SameKept) → Does layouts limit s sh answer s' → Does layouts' limit' t sh answer' t' → ¬ SaysRefused answer → ¬ SaysRefused answer' → SameSteps sh answer answer' s' t'
  same_doing (plain effect) answer answer' s' t' kept one other fine fine1 = (
    one.0 ∙ ap (λ (v : State). (effect v).0) seen ∙ sym other.0,
    ap visible one.1 ∙ ap (λ (v : State). visible (effect v).1) seen ∙ sym (ap visible other.1),
  )
  same_doing (declaring d) answer answer' s' t' kept one other fine fine1 = same_declares d answer answer' s' t' one other
  same_doing (making d class object) answer answer' s' t' kept one other fine fine1 = same_makes d class object answer answer' s' t' one other fine fine1
  same_doing (growing n) answer answer' s' t' kept one other fine fine1 = same_grown n answer answer' s' t' one other fine fine1
  same_doing (collecting of_objects) answer answer' s' t' kept one other fine fine1 = (kept refl answer answer' one.0 other.0, ap visible one.1.1 ∙ seen ∙ sym (ap visible other.1.1))
  same_doing (collecting of_increments) answer answer' s' t' kept one other fine fine1 = (tt, ap visible one.1.1 ∙ seen ∙ sym (ap visible other.1.1))
  same_doing showing answer answer' s' t' kept one other fine fine1 = (tt, left_alike s' t' one.1 other.1)

  same_answers : (sh : CommandShape) (found : Option Refusal) (answer answer' : Reply) (s' t' : State) → (sh ≡ collecting of_objects → SameKept) → AnswersShape layouts limit s sh found answer s' → AnswersShape layouts' limit' t sh found answer' t' → ¬ SaysRefused answer → ¬ SaysRefused answer' → SameSteps sh answer answer' s' t'
  same_answers sh None answer answer' s' t' kept one other fine fine1 = same_doing sh answer answer' s' t' kept one other fine fine1
  same_answers sh (Some why) answer answer' s' t' kept one other fine fine1 = (same_answer sh answer answer' (one.0 ∙ sym other.0), left_alike s' t' one.1 other.1)

  -- two steps of a command that weren't refused pages, where the same test refuses both, or none
  same_step : (c : Command) (answer answer' : Reply) (s' t' : State) → (shape c ≡ collecting of_objects → SameKept) → first_failing (tests layouts s c) ≡ first_failing (tests layouts' t c) → Step layouts limit s c answer s' → Step layouts' limit' t c answer' t' → ¬ SaysRefused answer → ¬ SaysRefused answer'
      → SameReply c answer answer' × (visible s' ≡ visible t')
  same_step c answer answer' s' t' kept found one other fine fine1 =
      same_answers (shape c) (first_failing (tests layouts s c)) answer answer' s' t' kept one (subst (λ (f : Option Refusal). AnswersShape layouts' limit' t (shape c) f answer' t') (sym found) other) fine fine1

-- two runs from such states
same_runs : (layouts : Layouts) (limit : Option ℕ) (cs : List Command) (rs qs : List Reply) (s t s' t' : State) → visible s ≡ visible t → Run layouts limit s cs rs s' → Run layouts limit t cs qs t' → NoneRefused rs → NoneRefused qs → SameReplies cs rs qs
same_runs layouts limit [] [] [] s t s' t' seen one other fine fine1 = tt
same_runs layouts limit [] [] (q ∷ qs) s t s' t' seen one other fine fine1 = absurd other
same_runs layouts limit [] (r ∷ rs) qs s t s' t' seen one other fine fine1 = absurd one
same_runs layouts limit (c ∷ cs) [] qs s t s' t' seen one other fine fine1 = absurd one
same_runs layouts limit (c ∷ cs) (r ∷ rs) [] s t s' t' seen one other fine fine1 = absurd other
same_runs layouts limit (c ∷ cs) (r ∷ rs) (q ∷ qs) s t s' t' seen (mid, (step, rest)) (mid1, (step1, rest1)) fine fine1 =
    let found = ap (λ (v : State). first_failing ((not (is_built c), refusal.BadLine) ∷ built_tests layouts v c)) seen in
    let same = same_step layouts layouts limit limit s t seen c r q mid mid1 (λ counts answer answer' kept kept'. same_held layouts s t answer answer' seen kept kept') found step step1 fine.0 fine1.0 in
    (same.0, same_runs layouts limit cs rs qs mid mid1 s' t' same.1 rest rest1 fine.1 fine1.1)

-- two runs from one state
pub steps_decide : (layouts : Layouts) (limit : Option ℕ) (s s1 s2 : State) (cs : List Command) (rs1 rs2 : List Reply) → Run layouts limit s cs rs1 s1 → Run layouts limit s cs rs2 s2 → NoneRefused rs1 → NoneRefused rs2 → SameReplies cs rs1 rs2
steps_decide layouts limit s s1 s2 cs rs1 rs2 one other fine fine1 = same_runs layouts limit cs rs1 rs2 s s s1 s2 refl one other fine fine1

-- Two kinds of heap test an object's size each its own way, and nothing else
large_cut : (before : List (Bool × Refusal)) (large large' : Bool) (behind : List (Bool × Refusal))
    → (first_failing (before ++ (large, refusal.TooLarge) ∷ behind) ≡ Some refusal.TooLarge → ⊥) → (first_failing (before ++ (large', refusal.TooLarge) ∷ behind) ≡ Some refusal.TooLarge → ⊥)
    → first_failing (before ++ (large, refusal.TooLarge) ∷ behind) ≡ first_failing (before ++ (large', refusal.TooLarge) ∷ behind)
large_cut [] true large' behind small small' = absurd (small refl)
large_cut [] false true behind small small' = absurd (small' refl)
large_cut [] false false behind small small' = refl
large_cut (x ∷ before) large large' behind small small' =
    elim x.0 as (λ (fails : Bool).
    (cond fails (Some x.1) (first_failing (before ++ (large, refusal.TooLarge) ∷ behind)) ≡ Some refusal.TooLarge → ⊥)
    → (cond fails (Some x.1) (first_failing (before ++ (large', refusal.TooLarge) ∷ behind)) ≡ Some refusal.TooLarge → ⊥)
    → cond fails (Some x.1) (first_failing (before ++ (large, refusal.TooLarge) ∷ behind)) ≡ cond fails (Some x.1) (first_failing (before ++ (large', refusal.TooLarge) ∷ behind))) [
      | true ↦ λ small small'. refl
      | false ↦ λ small small'. large_cut before large large' behind small small'
    ] small small'

-- the tests of a heap on an object
abbrev large_in : Layouts → State → Object ℕ → Bool
large_in layouts v o = too_large layouts (object_size layouts v.table.types o)

abbrev full_test : State → List (Bool × Refusal)
full_test v = (roots_full v.table, refusal.RootsFull) ∷ []

-- the tests of a command as a state shows itself
abbrev seen_tests : Layouts → State → Command → List (Bool × Refusal)
seen_tests layouts v c = (not (is_built c), refusal.BadLine) ∷ built_tests layouts v c

-- where neither heap finds an object too large, the same test refuses a command of both
tests_alike : (k l : Layouts) (v : State) (c : Command) → (first_failing (seen_tests k v c) ≡ Some refusal.TooLarge → ⊥) → (first_failing (seen_tests l v c) ≡ Some refusal.TooLarge → ⊥) → first_failing (seen_tests k v c) ≡ first_failing (seen_tests l v c)
tests_alike k l v (New d t vs) small small' = large_cut ((not (is_built (New d t vs)), refusal.BadLine) ∷ new_tests v t vs) (large_in k v (given_struct v t vs)) (large_in l v (given_struct v t vs)) (full_test v) small small'
tests_alike k l v (NewExn d t tag vs) small small' =
    large_cut ((not (is_built (NewExn d t tag vs)), refusal.BadLine) ∷ new_exn_tests v t vs) (large_in k v (new_exception v t tag vs)) (large_in l v (new_exception v t tag vs)) (full_test v) small small'
tests_alike k l v (NewArr d t n x) small small' = large_cut ((not (is_built (NewArr d t n x)), refusal.BadLine) ∷ new_array_tests v t n x) (large_in k v (filled_array v t n x)) (large_in l v (filled_array v t n x)) (full_test v) small small'
tests_alike k l v (Fixed d t vs) small small' = large_cut ((not (is_built (Fixed d t vs)), refusal.BadLine) ∷ new_fixed_tests v t vs) (large_in k v (new_fixed v t vs)) (large_in l v (new_fixed v t vs)) (full_test v) small small'
tests_alike k l v (NewBytes d t bytes) small small' = large_cut ((not (is_built (NewBytes d t bytes)), refusal.BadLine) ∷ new_bytes_tests v t) (large_in k v (new_bytes t bytes)) (large_in l v (new_bytes t bytes)) (full_test v) small small'
tests_alike k l v c small small' = refl

-- a refusal of an object's size shows in the reply
large_said : (layouts : Layouts) (limit : Option ℕ) (s : State) (sh : CommandShape) (found : Option Refusal) (answer : Reply) (s' : State) → AnswersShape layouts limit s sh found answer s' → found ≡ Some refusal.TooLarge → SaysLarge answer
large_said layouts limit s sh None answer s' answers is = absurd (cc (is))
large_said layouts limit s sh (Some why) answer s' answers is = answers.0 ∙ ap reply.Refused (same_Some why refusal.TooLarge is)

-- a copying and a counting heap keep the same
kept_alike : (s t : State) → visible s ≡ visible t → (answer answer' : Reply) → Keeps Copying s answer → Keeps Counting t answer' → answer ≡ answer'
kept_alike s t seen answer answer' one other =
    same_held Copying s t answer answer' seen one (record { objects = other.objects; hosts = other.hosts; shows = other.shows; kept = record { objects_are = other.kept.objects_are; hosts_are = other.kept.hosts_are } })

-- the commands that tell how many objects are held
counted : (c : Command) → shape c ≡ collecting of_objects → (c ≡ Gc) ⊎ (c ≡ GcDrop)
counted Gc is = inl refl
counted GcDrop is = inr refl
counted c is = absurd (cc is)

-- of some commands collections keep as many objects over either kind, from states of which the same is visible
abbrev KeepAlike : Layouts → Layouts → List Command → Type 0
KeepAlike k l cs = (c : Command) → Contains cs c → shape c ≡ collecting of_objects → (s t : State) → visible s ≡ visible t → (answer answer' : Reply) → Keeps k s answer → Keeps l t answer' → answer ≡ answer'

module _ (k l : Layouts) (limit limit' : Option ℕ) where
  alike_runs : (cs : List Command) (rs qs : List Reply) (s t s' t' : State) → KeepAlike k l cs → visible s ≡ visible t → Run k limit s cs rs s' → Run l limit' t cs qs t' → NoneRefused rs → NoneRefused qs → NoneLarge rs → NoneLarge qs → SameReplies cs rs qs
  alike_runs [] [] [] s t s' t' kept seen one other fine fine1 small small1 = tt
  alike_runs [] [] (q ∷ qs) s t s' t' kept seen one other fine fine1 small small1 = absurd other
  alike_runs [] (r ∷ rs) qs s t s' t' kept seen one other fine fine1 small small1 = absurd one
  alike_runs (c ∷ cs) [] qs s t s' t' kept seen one other fine fine1 small small1 = absurd one
  alike_runs (c ∷ cs) (r ∷ rs) [] s t s' t' kept seen one other fine fine1 small small1 = absurd other
  alike_runs (c ∷ cs) (r ∷ rs) (q ∷ qs) s t s' t' kept seen (mid, (step, rest)) (mid1, (step1, rest1)) fine fine1 small small1 =
      let in_s : first_failing (seen_tests l (visible t) c) ≡ first_failing (seen_tests l (visible s) c) = ap (λ (v : State). first_failing (seen_tests l v c)) (sym seen) in
      let found =
      tests_alike k l (visible s) c (λ is. small.0 (large_said k limit s (shape c) (first_failing (tests k s c)) r mid step is))
      (λ is. small1.0 (large_said l limit' t (shape c) (first_failing (tests l t c)) q mid1 step1 (in_s ∙ is)))
      ∙ sym in_s in
      let first : Contains (c ∷ cs) c = Contains-append_left (c ∷ []) cs c (Contains-push [] c) in
      let same = same_step k l limit limit' s t seen c r q mid mid1 (λ is. kept c first is s t seen) found step step1 fine.0 fine1.0 in
      (same.0, alike_runs cs rs qs mid mid1 s' t' (λ d within. kept d (Contains-append_right (c ∷ []) cs d within)) same.1 rest rest1 fine.1 fine1.1 small.1 small1.1)

-- two runs from one state, one over a copying heap and one over a counting heap
pub kinds_alike : (limit limit' : Option ℕ) (s s1 s2 : State) (cs : List Command) (rs1 rs2 : List Reply) → Run Copying limit s cs rs1 s1 → Run Counting limit' s cs rs2 s2 → NoneRefused rs1 → NoneRefused rs2 → NoneLarge rs1 → NoneLarge rs2 → SameReplies cs rs1 rs2
kinds_alike limit limit' s s1 s2 cs rs1 rs2 one other fine fine1 small small1 =
    alike_runs Copying Counting limit limit' cs rs1 rs2 s s s1 s2 (λ c within is s t seen. kept_alike s t seen) refl one other fine fine1 small small1

-- two runs from one state over any heaps, of commands that don't tell how many objects are held
pub any_alike : (k l : Layouts) (limit limit' : Option ℕ) (s s1 s2 : State) (cs : List Command) (rs1 rs2 : List Reply) → Run k limit s cs rs1 s1 → Run l limit' s cs rs2 s2 → NoneRefused rs1 → NoneRefused rs2 → NoneLarge rs1 → NoneLarge rs2
    → ¬ Contains cs Gc → ¬ Contains cs GcDrop → SameReplies cs rs1 rs2
any_alike k l limit limit' s s1 s2 cs rs1 rs2 one other fine fine1 small small1 no_gc no_drop =
    let none : (c : Command) → Contains cs c → (c ≡ Gc) ⊎ (c ≡ GcDrop) → ⊥ = λ c within is. elim is [
      | inl e ↦ no_gc (subst (Contains cs) e within)
      | inr e ↦ no_drop (subst (Contains cs) e within)
    ] in
    alike_runs k l limit limit' cs rs1 rs2 s s s1 s2 (λ c within is s t seen answer answer' kept kept'. absurd (none c within (counted c is))) refl one other fine fine1 small small1

-- the replies of a command that shows no pages and counts no increments
same_reply : (c : Command) (r q : Reply) → ¬ (c ≡ Cap) → ¬ (c ≡ GcInc) → SameReply c r q → r ≡ q
same_reply Cap r q no_cap no_count same = absurd (no_cap refl)
same_reply GcInc r q no_cap no_count same = absurd (no_count refl)
same_reply c r q no_cap no_count same = same

-- replies that are the same but for those of `cap` and `gcinc`, where there are none
pub same_replies : (cs : List Command) (rs qs : List Reply) → SameReplies cs rs qs → ¬ Contains cs Cap → ¬ Contains cs GcInc → rs ≡ qs
same_replies [] [] [] same no_cap no_count = refl
same_replies [] [] (q ∷ qs) same no_cap no_count = absurd same
same_replies [] (r ∷ rs) qs same no_cap no_count = absurd same
same_replies (c ∷ cs) [] qs same no_cap no_count = absurd same
same_replies (c ∷ cs) (r ∷ rs) [] same no_cap no_count = absurd same
same_replies (c ∷ cs) (r ∷ rs) (q ∷ qs) same no_cap no_count =
    let first : Contains (c ∷ cs) c = Contains-append_left (c ∷ []) cs c (Contains-push [] c) in
    let one = same_reply c r q (λ e. no_cap (subst (Contains (c ∷ cs)) e first)) (λ e. no_count (subst (Contains (c ∷ cs)) e first)) same.0 in
    let others = same_replies cs rs qs same.1 (λ within. no_cap (Contains-append_right (c ∷ []) cs Cap within)) (λ within. no_count (Contains-append_right (c ∷ []) cs GcInc within)) in
    λ i. one i ∷ others i
