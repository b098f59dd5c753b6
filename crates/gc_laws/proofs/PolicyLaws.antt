-- Two runs of one script by the policy of growth, over a copying or a null heap under a limit that is told.
use Rattle.std.proofs.Common.{◌≡◌, ℕ, ◌+◌, Bool, true, false, List, [], ◌∷◌, ◌++◌, Option, Some, None, length, map, sum, refl, sym, ap, ap₂, ◌∙◌, subst}
use Rattle.std.proofs.lemmas.List.Sums.{sum-map, sum_by_push}
use Rattle.gc_types.specs.declared.kind.Layouts.{Layouts}
use Rattle.gc_types.specs.declared.kind.Layouts.TheVariants.{Counting}
use Rattle.gc_types.specs.Declarations.{Declaration}
use Rattle.gc_owner.specs.declared.entry.GcClass.{GcClass}
use Rattle.gc_model.specs.Values.{Object}
use Rattle.gc_model.specs.Table.{Table, declare, make}
use Rattle.gc_model.specs.Sizes.{object_size}
use Rattle.gc_model.specs.Allocation.{Limits}
use Rattle.gc_commands.specs.declared.command.Command.{Command}
use Rattle.gc_commands.specs.declared.reply.Reply.{Reply}
use Rattle.gc_commands.specs.declared.reply.Reply.TheVariants as reply
use Rattle.gc_commands.specs.declared.reply.Refusal.{Refusal}
use Rattle.gc_commands.specs.declared.reply.Refusal.TheVariants as refusal
use Rattle.gc_model.specs.Accounts.{Account, with_held}
use Rattle.gc_model.specs.Policy.{PolicyState, Prepares, ExpandsTable}
use Rattle.gc_script.specs.State.{State, reference, with_heap, with_account, with_table, set_register, visible, over}
use Rattle.gc_script.specs.Shapes.{CommandShape, plain, declaring, making, growing, collecting, showing, shape}
use Rattle.gc_script.specs.Steps.{Step, AnswersShape, Does, AnswersDeclare, declared, bad, MakesNew, made, lacks, AnswersGrow, grown, refused, tests, first_failing}
use Rattle.gc_script.specs.Policy as policy
use Rattle.gc_script.specs.Policy.{policy_of, IsPolicyOf, with_made, AllocatesByPolicy, GrowsByPolicy, AsksNothing, FollowsDoing, FollowsTested, Follows, RunByPolicy}
use Rattle.gc_laws.proofs.StepLaws.{same_told}
use Rattle.gc_laws.proofs.GrowthLaws.{AlikeAccounts, AlikePolicies, same_accounts, alike_at, prepares_alike, expands_alike, may_collect_alike}

-- The states are the same but for the order of the positions that their accounts hold; so are the limiters, and their limit
-- is told.
record AlikeStates (most : ℕ) (s t : State) (limits limits' : Limits) : Type 0 where
  state : t ≡ with_account t.account s
  account : AlikeAccounts s.account t.account
  same_limits : limits ≡ limits'
  told : limits.limit ≡ Some most

-- one state with two tables that are the same, and two accounts
same_heaps : (s s' t' : State) (t u : Table ℕ) (a b : Account) → s' ≡ with_heap t a s → t' ≡ with_heap u b s → t ≡ u → t' ≡ with_account t'.account s'
same_heaps s s' t' t u a b one other tables =
    other
    ∙ ap (λ (x : Table ℕ). with_heap x b s) (sym tables)
    ∙ sym (ap (with_account b) one)
    ∙ ap (λ (x : Account). with_account x s') (sym (ap (λ (x : State). x.account) other))

sum_push : (f : ℕ → ℕ) (xs : List ℕ) (x : ℕ) → sum (map f (xs ++ x ∷ [])) ≡ sum (map f xs) + f x
sum_push f xs x = sum-map f (xs ++ x ∷ []) ∙ sum_by_push f xs x ∙ ap (λ (n : ℕ). n + f x) (sym (sum-map f xs))

held_alike : (k : Layouts) → (a b : Account) (p q word word' : ℕ) → AlikeAccounts a b → p ≡ q → AlikeAccounts (with_held k p word a) (with_held k q word' b)
held_alike k a b p q word word' alike same = record {
  held = λ f. sum_push f a.held p ∙ ap₂ (λ (n m : ℕ). n + f m) (alike.held f) same ∙ sym (sum_push f b.held q);
  last = alike.last;
  tries = alike.tries;
  upper = alike.upper;
}

-- what `new` answers, by whether there was room
abbrev new_answer : Bool → Reply
new_answer true = reply.Done
new_answer false = reply.Refused refusal.GcHeapOutOfMemory

-- the state with the root that a push makes next in a register
abbrev set_next : ℕ → GcClass → State → State
set_next d class s = set_register d (reference class (Some (length s.table.pushes))) s

-- the state with the table and the account of the policy
abbrev with_policy : PolicyState ℕ → State → State
with_policy p s = with_heap p.table p.account s

-- the state that `new` leaves
abbrev after_new : (k : Layouts) → Bool → ℕ → GcClass → Object ℕ → ℕ → PolicyState ℕ → State → State
after_new k true d class o word p s = with_policy (with_made k o word p) (set_next d class s)
after_new k false d class o word p s = with_policy p s

-- `new` by the policy
record NewByPolicy (k : Layouts) (counter : Option ℕ) (d : ℕ) (class : GcClass) (o : Object ℕ) (s : State) (limits : Limits) (answer : Reply) (s' : State) (limits' : Limits) : Type 0 where
  ok : Bool
  ready : PolicyState ℕ
  prepares : Prepares k counter (object_size k s.table.types o) (policy_of s limits) ok ready
  answer_is : answer ≡ new_answer ok
  word : ℕ
  after : s' ≡ after_new k ok d class o word ready s
  limits_are : limits' ≡ ready.limits

-- a state that differs in the heap alone, and has that of the policy
by_heap : (s s' : State) (t : Table ℕ) (a : Account) (p : PolicyState ℕ) (limits : Limits) → s' ≡ with_heap t a s → IsPolicyOf p s' limits → s' ≡ with_policy p s
by_heap s s' t a p limits after ends = after ∙ ap₂ (λ (x : Table ℕ) (b : Account). with_heap x b s) (sym (ap (λ (x : State). x.table) after) ∙ ends.table) (sym (ap (λ (x : State). x.account) after) ∙ ends.account)

new_by_policy : (k : Layouts) → (limit counter : Option ℕ) (d : ℕ) (class : GcClass) (o : Object ℕ) (s : State) (limits : Limits) (answer : Reply) (s' : State) (limits' : Limits) → MakesNew k limit d class o s answer s' → AllocatesByPolicy k counter o s limits answer s' limits' → NewByPolicy k counter d class o s limits answer s' limits'
new_by_policy k limit counter d class o s limits answer s' limits' (made t a allocates is after) (policy.made {p = p} word is_done prepares lies ends) = record {
  ok = true;
  ready = p;
  prepares = prepares;
  answer_is = is;
  word = word;
  after = by_heap (set_next d class s) s' t a (with_made k o word p) limits' after ends;
  limits_are = ends.limits_are;
}
new_by_policy k limit counter d class o s limits answer s' limits' (made t a allocates is after) (policy.refused not_done prepares ends) = absurd (not_done is)
new_by_policy k limit counter d class o s limits answer s' limits' (lacks t a wants is after) (policy.made word is_done prepares lies ends) = absurd (cc (is, is_done))
new_by_policy k limit counter d class o s limits answer s' limits' (lacks t a wants is after) (policy.refused {p = p} not_done prepares ends) = record {
  ok = false;
  ready = p;
  prepares = prepares;
  answer_is = is;
  word = 0;
  after = by_heap s s' t a p limits' after ends;
  limits_are = ends.limits_are;
}

-- what `grow` answers, by whether it was granted
abbrev grow_answer : Bool → Reply
grow_answer true = reply.Done
grow_answer false = reply.Refused refusal.GcHeapGrowthFailed

-- `grow` by the policy
record GrowByPolicy (k : Layouts) (bytes : ℕ) (s : State) (limits : Limits) (answer : Reply) (s' : State) (limits' : Limits) : Type 0 where
  granted : Bool
  end : PolicyState ℕ
  expands : ExpandsTable k bytes (policy_of s limits) granted end
  answer_is : answer ≡ grow_answer granted
  after : s' ≡ with_policy end s
  limits_are : limits' ≡ end.limits

grow_by_policy : (k : Layouts) → (limit : Option ℕ) (bytes : ℕ) (s : State) (limits : Limits) (answer : Reply) (s' : State) (limits' : Limits) → AnswersGrow limit bytes s answer s' → GrowsByPolicy k bytes s limits answer s' limits' → GrowByPolicy k bytes s limits answer s' limits'
grow_by_policy k limit bytes s limits answer s' limits' (grown t a grows is after) (policy.grown {p = p} is_done expands ends) = record {
  granted = true;
  end = p;
  expands = expands;
  answer_is = is;
  after = by_heap s s' t a p limits' after ends;
  limits_are = ends.limits_are;
}
grow_by_policy k limit bytes s limits answer s' limits' (grown t a grows is after) (policy.refused not_done expands ends) = absurd (not_done is)
grow_by_policy k limit bytes s limits answer s' limits' (refused t a grows is after) (policy.grown is_done expands ends) = absurd (cc (is, is_done))
grow_by_policy k limit bytes s limits answer s' limits' (refused t a grows is after) (policy.refused {p = p} not_done expands ends) = record {
  granted = false;
  end = p;
  expands = expands;
  answer_is = is;
  after = by_heap s s' t a p limits' after ends;
  limits_are = ends.limits_are;
}

made_alike : (k : Layouts) → (most : ℕ) (o : Object ℕ) (word word' : ℕ) (p q : PolicyState ℕ) → AlikePolicies most p q → AlikePolicies most (with_made k o word p) (with_made k o word' q)
made_alike k most o word word' p q alike = record {
  table = ap (make o) alike.table;
  account = held_alike k p.account q.account (length p.table.objects) (length q.table.objects) word word' alike.account (ap (λ (t : Table ℕ). length t.objects) alike.table);
  limits = alike.limits;
  told = alike.told;
}

-- one state with the heaps of policies that are alike
ends_alike : (most : ℕ) (s s' t' : State) (p q : PolicyState ℕ) (limits limits' : Limits) → AlikePolicies most p q → s' ≡ with_policy p s → t' ≡ with_policy q s → limits ≡ p.limits → limits' ≡ q.limits → AlikeStates most s' t' limits limits'
ends_alike most s s' t' p q limits limits' alike one other one_limits other_limits = record {
  state = same_heaps s s' t' p.table q.table p.account q.account one other alike.table;
  account = alike_at p.account s'.account q.account t'.account (ap (λ (x : State). x.account) one) (ap (λ (x : State). x.account) other) alike.account;
  same_limits = one_limits ∙ alike.limits ∙ sym other_limits;
  told = ap (λ (l : Limits). l.limit) one_limits ∙ alike.told;
}

module _ (k : Layouts) (told_nowhere : ¬ (k ≡ Counting)) (most : ℕ) (s : State) (a : Account) (limits : Limits) (accounts : AlikeAccounts s.account a) (told : limits.limit ≡ Some most) where
  abbrev other_state : State
  other_state = with_account a s

  policies : AlikePolicies most (policy_of s limits) (policy_of other_state limits)
  policies = record { table = refl; account = accounts; limits = refl; told = told }

  -- what two such steps leave
  abbrev AlikeSteps : Reply → Reply → State → State → Limits → Limits → Type 0
  AlikeSteps answer answer' s' t' limits1 limits2 = (answer ≡ answer') × AlikeStates most s' t' limits1 limits2

  after_alike : (ok : Bool) (d : ℕ) (class : GcClass) (o : Object ℕ) (word word' : ℕ) (p q : PolicyState ℕ) (s' t' : State) (limits1 limits2 : Limits) → AlikePolicies most p q → s' ≡ after_new k ok d class o word p s → t' ≡ after_new k ok d class o word' q other_state → limits1 ≡ p.limits → limits2 ≡ q.limits → AlikeStates most s' t' limits1 limits2
  after_alike true d class o word word' p q s' t' limits1 limits2 alike one other one_limits other_limits = ends_alike most (set_next d class s) s' t' (with_made k o word p) (with_made k o word' q) limits1 limits2 (made_alike k most o word word' p q alike) one other one_limits other_limits
  after_alike false d class o word word' p q s' t' limits1 limits2 alike one other one_limits other_limits = ends_alike most s s' t' p q limits1 limits2 alike one other one_limits other_limits

  new_alike : (counter : Option ℕ) (d : ℕ) (class : GcClass) (o : Object ℕ) (answer answer' : Reply) (s' t' : State) (limits1 limits2 : Limits) → NewByPolicy k counter d class o s limits answer s' limits1 → NewByPolicy k counter d class o other_state limits answer' t' limits2 → AlikeSteps answer answer' s' t' limits1 limits2
  new_alike counter d class o answer answer' s' t' limits1 limits2 one other =
      let same = prepares_alike k told_nowhere most counter (object_size k s.table.types o) (policy_of s limits) (policy_of other_state limits) one.ready other.ready one.ok other.ok policies one.prepares other.prepares in (
        one.answer_is ∙ ap new_answer same.0 ∙ sym other.answer_is,
        after_alike one.ok d class o one.word other.word one.ready other.ready s' t' limits1 limits2 same.1 one.after (subst (λ (ok : Bool). t' ≡ after_new k ok d class o other.word other.ready other_state) (sym same.0) other.after) one.limits_are other.limits_are,
      )

  grow_alike : (bytes : ℕ) (answer answer' : Reply) (s' t' : State) (limits1 limits2 : Limits) → GrowByPolicy k bytes s limits answer s' limits1 → GrowByPolicy k bytes other_state limits answer' t' limits2 → AlikeSteps answer answer' s' t' limits1 limits2
  grow_alike bytes answer answer' s' t' limits1 limits2 one other =
      let same = expands_alike k told_nowhere most bytes (policy_of s limits) (policy_of other_state limits) one.end other.end one.granted other.granted policies one.expands other.expands in
      (one.answer_is ∙ ap grow_answer same.0 ∙ sym other.answer_is, ends_alike most s s' t' one.end other.end limits1 limits2 same.1 one.after other.after one.limits_are other.limits_are)

  -- two steps that leave one state, but for the account, and ask nothing
  asking_nothing : (x : State) (answer answer' : Reply) (s' t' : State) (limits1 limits2 : Limits) → answer ≡ answer' → s' ≡ x → t' ≡ with_account a x → AsksNothing s limits s' limits1 → AsksNothing other_state limits t' limits2 → AlikeSteps answer answer' s' t' limits1 limits2
  asking_nothing x answer answer' s' t' limits1 limits2 replies is is' one other = (
    replies,
    record {
      state = is' ∙ sym (ap (with_account a) is) ∙ ap (λ (b : Account). with_account b s') (sym other.account);
      account = alike_at s.account s'.account a t'.account one.account other.account accounts;
      same_limits = one.same_limits ∙ sym other.same_limits;
      told = ap (λ (l : Limits). l.limit) one.same_limits ∙ told;
    },
  )

  declares_alike : (d : Option Declaration) (answer answer' : Reply) (s' t' : State) (limits1 limits2 : Limits) → AnswersDeclare d s answer s' → AsksNothing s limits s' limits1 → AnswersDeclare d other_state answer' t' → AsksNothing other_state limits t' limits2 → AlikeSteps answer answer' s' t' limits1 limits2
  declares_alike d answer answer' s' t' limits1 limits2 (declared new spells may is after) follows (declared new' spells' may' is' after') follows' =
      asking_nothing (with_table (declare new s.table) s) answer answer' s' t' limits1 limits2 (is ∙ sym is') after
      (after' ∙ ap (λ (x : Declaration). with_table (declare x other_state.table) other_state) (cc (spells, spells'))) follows follows'
  declares_alike d answer answer' s' t' limits1 limits2 (declared new spells may is after) follows (bad may_not is' after') follows' = absurd (may_not new spells may)
  declares_alike d answer answer' s' t' limits1 limits2 (bad may_not is after) follows (declared new spells may is' after') follows' = absurd (may_not new spells may)
  declares_alike d answer answer' s' t' limits1 limits2 (bad may_not is after) follows (bad may_not' is' after') follows' =
      asking_nothing s answer answer' s' t' limits1 limits2 (is ∙ sym is') after after' follows follows'

  doing_alike : (counter : Option ℕ) (sh : CommandShape) (answer answer' : Reply) (s' t' : State) (limits1 limits2 : Limits) → Does k limits.limit s sh answer s' → FollowsDoing k counter s limits sh answer s' limits1 → Does k limits.limit other_state sh answer' t' → FollowsDoing k counter other_state limits sh answer' t' limits2 → AlikeSteps answer answer' s' t' limits1 limits2
  doing_alike counter (plain effect) answer answer' s' t' limits1 limits2 one follows other follows' =
      asking_nothing (over s (effect (visible s)).1) answer answer' s' t' limits1 limits2 (one.0 ∙ sym other.0) one.1 other.1 follows follows'
  doing_alike counter (declaring d) answer answer' s' t' limits1 limits2 one follows other follows' = declares_alike (d s.table.types) answer answer' s' t' limits1 limits2 one follows other follows'
  doing_alike counter (making d class object) answer answer' s' t' limits1 limits2 one follows other follows' =
      new_alike counter d class (object (visible s)) answer answer' s' t' limits1 limits2
      (new_by_policy k limits.limit counter d class (object (visible s)) s limits answer s' limits1 one follows)
      (new_by_policy k limits.limit counter d class (object (visible s)) other_state limits answer' t' limits2 other follows')
  doing_alike counter (growing n) answer answer' s' t' limits1 limits2 one follows other follows' =
      grow_alike n answer answer' s' t' limits1 limits2 (grow_by_policy k limits.limit n s limits answer s' limits1 one follows) (grow_by_policy k limits.limit n other_state limits answer' t' limits2 other follows')
  doing_alike counter (collecting told) answer answer' s' t' limits1 limits2 one follows other follows' =
      let alike = may_collect_alike k told_nowhere most (policy_of s limits) (policy_of other_state limits) (policy_of s' limits1) (policy_of t' limits2) policies follows follows' in (
        same_told k s other_state told answer answer' refl refl one.0 other.0,
        record {
          state = same_heaps s s' t' s.table s.table one.1.0 other.1.0 one.1.1 other.1.1 refl;
          account = alike.account;
          same_limits = alike.limits;
          told = alike.told;
        },
      )
  doing_alike counter showing answer answer' s' t' limits1 limits2 one follows other follows' =
      asking_nothing s answer answer' s' t' limits1 limits2 (one.0 ∙ sym other.0) one.1 other.1 follows follows'

  answers_alike : (counter : Option ℕ) (sh : CommandShape) (found : Option Refusal) (answer answer' : Reply) (s' t' : State) (limits1 limits2 : Limits) → AnswersShape k limits.limit s sh found answer s' → FollowsTested k counter s limits sh found answer s' limits1 → AnswersShape k limits.limit other_state sh found answer' t' → FollowsTested k counter other_state limits sh found answer' t' limits2 → AlikeSteps answer answer' s' t' limits1 limits2
  answers_alike counter sh None answer answer' s' t' limits1 limits2 one follows other follows' = doing_alike counter sh answer answer' s' t' limits1 limits2 one follows other follows'
  answers_alike counter sh (Some why) answer answer' s' t' limits1 limits2 one follows other follows' =
      asking_nothing s answer answer' s' t' limits1 limits2 (one.0 ∙ sym other.0) one.1 other.1 follows follows'

  -- two steps of one command by the policy
  step_alike : (counter : Option ℕ) (c : Command) (answer answer' : Reply) (s' t' : State) (limits1 limits2 : Limits) → Step k limits.limit s c answer s' → Follows k counter s limits c answer s' limits1 → Step k limits.limit other_state c answer' t' → Follows k counter other_state limits c answer' t' limits2 → AlikeSteps answer answer' s' t' limits1 limits2
  step_alike counter c answer answer' s' t' limits1 limits2 one follows other follows' =
      answers_alike counter (shape c) (first_failing (tests k s c)) answer answer' s' t' limits1 limits2 one follows other follows'

-- two runs from alike states
runs_alike : (k : Layouts) → ¬ (k ≡ Counting) → (counter : Option ℕ) (most : ℕ) (cs : List Command) (rs qs : List Reply) (s t s' t' : State) (limits limits' end end' : Limits) → AlikeStates most s t limits limits' → RunByPolicy k counter s limits cs rs s' end → RunByPolicy k counter t limits' cs qs t' end' → rs ≡ qs
runs_alike k told_nowhere counter most [] [] [] s t s' t' limits limits' end end' alike one other = refl
runs_alike k told_nowhere counter most [] [] (q ∷ qs) s t s' t' limits limits' end end' alike one other = absurd other
runs_alike k told_nowhere counter most [] (r ∷ rs) qs s t s' t' limits limits' end end' alike one other = absurd one
runs_alike k told_nowhere counter most (c ∷ cs) [] qs s t s' t' limits limits' end end' alike one other = absurd one
runs_alike k told_nowhere counter most (c ∷ cs) (r ∷ rs) [] s t s' t' limits limits' end end' alike one other = absurd other
runs_alike k told_nowhere counter most (c ∷ cs) (r ∷ rs) (q ∷ qs) s t s' t' limits limits' end end' alike (mid, between, (step, (follows, rest))) (mid1, between1, (step1, (follows1, rest1))) =
    let back = sym alike.same_limits in
    let same = step_alike k told_nowhere most s t.account limits alike.account alike.told counter c r q mid mid1 between between1 step follows
    (subst (λ (x : State). Step k limits.limit x c q mid1) alike.state (subst (λ (l : Limits). Step k l.limit t c q mid1) back step1))
    (subst (λ (x : State). Follows k counter x limits c q mid1 between1) alike.state (subst (λ (l : Limits). Follows k counter t l c q mid1 between1) back follows1)) in
    let others = runs_alike k told_nowhere counter most cs rs qs mid mid1 s' t' between between1 end end' same.1 rest rest1 in
    λ i. same.0 i ∷ others i

-- two runs from one state
pub policy_decides : (k : Layouts) (counter : Option ℕ) (limits limits1 limits2 : Limits) (most : ℕ) (s s1 s2 : State) (cs : List Command) (rs1 rs2 : List Reply) → ¬ (k ≡ Counting) → limits.limit ≡ Some most → RunByPolicy k counter s limits cs rs1 s1 limits1 → RunByPolicy k counter s limits cs rs2 s2 limits2 → rs1 ≡ rs2
policy_decides k counter limits limits1 limits2 most s s1 s2 cs rs1 rs2 told_nowhere told one other =
    runs_alike k told_nowhere counter most cs rs1 rs2 s s s1 s2 limits limits limits1 limits2 (record { state = refl; account = same_accounts s.account; same_limits = refl; told = told }) one other
