-- What is reached is held: through each part of the policy of growth, and through runs by it.
use Rattle.std.proofs.Common.{◌≡◌, ℕ, ◌<◌, Bool, true, false, ◌⊎◌, inl, inr, List, [], ◌∷◌, ◌++◌, Option, Some, None, Contains, length, replicate, refl, sym, ap, ◌∙◌, subst, arith}
use Rattle.std.specs.List.{All}
use Rattle.std.proofs.lemmas.List.Elements.{Contains-append_left, Contains-push, All-nil, All-append, All-map, All-replicate, All-contains}
use Rattle.gc_types.specs.declared.kind.Layouts.{Layouts}
use Rattle.gc_types.specs.declared.kind.Layouts.TheVariants.{Null, Counting, Copying}
use Rattle.gc_model.specs.Values.{Reference, null, at, Object}
use Rattle.gc_model.specs.Table.{Table, Slot, start, global_count, null_slot}
use Rattle.gc_model.specs.Reach.{IsKept, IsReached, Reached, root_references, slot_references}
use Rattle.gc_model.specs.Sizes.{object_size}
use Rattle.gc_model.specs.Allocation.{Limits}
use Rattle.gc_view.specs.Sizes.{need_of}
use Rattle.gc_view.specs.Reach.{by_start, by_step}
use Rattle.gc_model.specs.Accounts.{Account, no_account}
use Rattle.gc_owner.specs.Retry.{Retry, at_once, after_collection, after_both, after_growth, after_refusal}
use Rattle.gc_model.specs.Policy as policy
use Rattle.gc_model.specs.Policy.{PolicyState, CollectsTable, ReadiesTable, GrowsTable, MakesTable, Dues, Prepares, ExpandsTable, table_rules, table_after, table_made, count_try}
use Rattle.gc_store.specs.Expansion.{MayCollectTable}
use Rattle.gc_commands.specs.declared.command.Command.{Command}
use Rattle.gc_commands.specs.declared.reply.Reply.{Reply}
use Rattle.gc_commands.specs.declared.reply.Refusal.{Refusal}
use Rattle.gc_script.specs.State.{State, begin, visible}
use Rattle.gc_script.specs.Shapes.{CommandShape, plain, declaring, making, growing, collecting, showing, shape}
use Rattle.gc_types.specs.Declarations.{Declaration}
use Rattle.gc_script.specs.Steps as steps
use Rattle.gc_script.specs.Steps.{Step, AnswersShape, Does, first_failing, tests}
use Rattle.gc_laws.proofs.WrittenLaws.{CountLeft, count_left}
use Rattle.gc_script.specs.Policy as script_policy
use Rattle.gc_script.specs.Policy.{policy_of, AsksNothing, FollowsDoing, FollowsTested, Follows, RunByPolicy, AllocatesByPolicy, GrowsByPolicy, with_made}
use Rattle.gc_laws.proofs.SoundRegisters.{Sound}
use Rattle.gc_laws.proofs.PlainKept.{Kept, IsNew}
use Rattle.gc_laws.proofs.StepKept.{step_kept, begin_sound}

-- The table has these objects and roots, and each position that they reach stands, and is held.
record HoldsReached (objects : List (Object ℕ)) (roots : List Reference) (t : Table ℕ) (a : Account) : Type 0 where
  objects_are : t.objects ≡ objects
  roots_are : root_references t ≡ roots
  held : (q : ℕ) → Reached objects roots q → (q < length objects) × Contains a.held q

module _ (layouts : Layouts) (objects : List (Object ℕ)) (roots : List Reference) where
  abbrev Holding : PolicyState ℕ → Type 0
  Holding p = HoldsReached objects roots p.table p.account

  kept_held : (l : Layouts) (t : Table ℕ) (q : ℕ) → q < length t.objects → IsReached t q → IsKept l t q
  kept_held Null t q stands reached = stands
  kept_held Counting t q stands reached = reached
  kept_held Copying t q stands reached = reached

  reached_in : (t : Table ℕ) → t.objects ≡ objects → root_references t ≡ roots → (q : ℕ) → Reached objects roots q → IsReached t q
  reached_in t objects_are roots_are q reached =
      subst (λ (os : List (Object ℕ)). Reached os (root_references t) q) (sym objects_are) (subst (λ (rs : List Reference). Reached objects rs q) (sym roots_are) reached)

  collects_holding : (p q : PolicyState ℕ) → Holding p → CollectsTable layouts p q → Holding q
  collects_holding p q holding collects = record {
    objects_are = ap (λ (t : Table ℕ). t.objects) collects.table ∙ holding.objects_are;
    roots_are = ap (λ (t : Table ℕ). root_references t) collects.table ∙ holding.roots_are;
    held = λ x reached.
        let stands = (holding.held x reached).0 in
        let inside : x < length p.table.objects = subst (λ (os : List (Object ℕ)). x < length os) (sym holding.objects_are) stands in
        (stands, (collects.held.all x).1 (kept_held layouts p.table x inside (reached_in p.table holding.objects_are holding.roots_are x reached)));
  }

  same_holding : (p q : PolicyState ℕ) → Holding p → q ≡ p → Holding q
  same_holding p q holding same = subst Holding (sym same) holding

  readies_holding : (p q : PolicyState ℕ) → Holding p → ReadiesTable layouts p q → Holding q
  readies_holding p q holding (inl (up, collects)) = collects_holding p q holding collects
  readies_holding p q holding (inr (down, same)) = same_holding p q holding same

  after_holding : (granted : Bool) (bytes : ℕ) (p : PolicyState ℕ) (limits : Limits) → Holding p → Holding (record p { table = table_after granted bytes p.table; limits = limits })
  after_holding true bytes p limits holding = record { objects_are = holding.objects_are; roots_are = holding.roots_are; held = holding.held }
  after_holding false bytes p limits holding = record { objects_are = holding.objects_are; roots_are = holding.roots_are; held = holding.held }

  grows_holding : (bytes : ℕ) (p q : PolicyState ℕ) (granted : Bool) → Holding p → GrowsTable layouts bytes p granted q → Holding q
  grows_holding bytes p q granted holding grows = subst Holding (sym grows.after) (after_holding granted bytes grows.ready q.limits (readies_holding p grows.ready holding grows.readied))

  made_holding : (granted : Bool) (p : PolicyState ℕ) (limits : Limits) → Holding p → Holding (record p { table = table_made granted p.table; limits = limits })
  made_holding true p limits holding = record { objects_are = holding.objects_are; roots_are = holding.roots_are; held = holding.held }
  made_holding false p limits holding = record { objects_are = holding.objects_are; roots_are = holding.roots_are; held = holding.held }

  makes_holding : (p q : PolicyState ℕ) (granted : Bool) → Holding p → MakesTable p granted q → Holding q
  makes_holding p q granted holding makes = subst Holding (sym makes.after) (made_holding granted p q.limits holding)

  dues_holding : (counter : Option ℕ) (p q : PolicyState ℕ) → Holding p → Dues layouts counter p q → Holding q
  dues_holding counter p q holding (inl (due, collects)) = collects_holding p q holding collects
  dues_holding counter p q holding (inr (none, same)) = same_holding p q holding same

  retry_holding : (size : ℕ) (p q : PolicyState ℕ) (ok : Bool) → Holding p → Retry (table_rules layouts size) p ok q → Holding q
  retry_holding size p q ok holding (at_once fits) = holding
  retry_holding size p q ok holding (after_collection none first collects fits) = collects_holding p q holding collects
  retry_holding size p q ok holding (after_both {m = m} {granted = granted} none first collects still grows gains ends) = grows_holding (need_of layouts size) m q granted (collects_holding p m holding collects) grows
  retry_holding size p q ok holding (after_growth none first grows fits) = grows_holding (need_of layouts size) p q true holding grows
  retry_holding size p q ok holding (after_refusal {m = m} none first grows collects ends) = collects_holding m q (grows_holding (need_of layouts size) p m false holding grows) collects

  counted_holding : (p : PolicyState ℕ) → Holding p → Holding (count_try p)
  counted_holding p holding = record { objects_are = holding.objects_are; roots_are = holding.roots_are; held = holding.held }

  prepares_holding : (counter : Option ℕ) (size : ℕ) (p q : PolicyState ℕ) (ok : Bool) → Holding p → Prepares layouts counter size p ok q → Holding q
  prepares_holding counter size p q ok holding (policy.no_heap makes) = makes_holding (count_try p) q false (counted_holding p holding) makes
  prepares_holding counter size p q ok holding (policy.tried {m = m} {n = n} makes dues retry) =
      retry_holding size n q ok (dues_holding counter m n (makes_holding (count_try p) m true (counted_holding p holding) makes) dues) retry

  expands_holding : (bytes : ℕ) (p q : PolicyState ℕ) (granted : Bool) → Holding p → ExpandsTable layouts bytes p granted q → Holding q
  expands_holding bytes p q granted holding (policy.nothing none) = holding
  expands_holding bytes p q granted holding (policy.no_heap some makes) = makes_holding p q false holding makes
  expands_holding bytes p q granted holding (policy.grows {m = m} some makes grows) = grows_holding bytes m q granted (makes_holding p m true holding makes) grows

  may_collect_holding : (p q : PolicyState ℕ) → Holding p → MayCollectTable layouts p q → Holding q
  may_collect_holding p q holding (inl (made, collects)) = collects_holding p q holding collects
  may_collect_holding p q holding (inr (unmade, same)) = same_holding p q holding same

-- each position that is reached stands, and is held
abbrev AllHeld : State → Type 0
AllHeld s = (q : ℕ) → IsReached s.table q → (q < length s.table.objects) × Contains s.account.held q

-- what the policy leaves holds it still
held_after : (layouts : Layouts) (s s' : State) (p : PolicyState ℕ) → HoldsReached s.table.objects (root_references s.table) p.table p.account → s'.table.objects ≡ p.table.objects → s'.account ≡ p.account → Kept s s' → AllHeld s'
held_after layouts s s' p holding objects account kept q reached =
    let same : s'.table.objects ≡ s.table.objects = objects ∙ holding.objects_are in
    let count : length s'.table.objects ≡ length s.table.objects = ap length same in
    let before = elim (kept.reached q reached) as (λ (x : IsReached s.table q ⊎ IsNew s.table s'.table q). IsReached s.table q) [
      | inl old ↦ old
      | inr new ↦ absurd (let at = new.0 in let below = new.1 in omega arith)
    ] in
    let held = holding.held q before in
    (subst (λ (n : ℕ). q < n) (sym count) held.0, subst (λ (a : Account). Contains a.held q) (sym account) held.1)

own_held : (s : State) → AllHeld s → HoldsReached s.table.objects (root_references s.table) s.table s.account
own_held s held = record { objects_are = refl; roots_are = refl; held = held }

module _ (layouts : Layouts) (counter : Option ℕ) (s s' : State) (limits limits' : Limits) (held : AllHeld s) (kept : Kept s s') where
  asks_held : AsksNothing s limits s' limits' → length s'.table.objects ≡ length s.table.objects → AllHeld s'
  asks_held asks count q reached =
      let before = elim (kept.reached q reached) as (λ (x : IsReached s.table q ⊎ IsNew s.table s'.table q). IsReached s.table q) [
        | inl old ↦ old
        | inr new ↦ absurd (let at = new.0 in let below = new.1 in omega arith)
      ] in
      (subst (λ (n : ℕ). q < n) (sym count) (held q before).0, subst (λ (a : Account). Contains a.held q) (sym asks.account) (held q before).1)

  allocates_held : (o : Object ℕ) (answer : Reply) → AllocatesByPolicy layouts counter o s limits answer s' limits' → AllHeld s'
  allocates_held o answer (script_policy.refused {p = p} not_done prepares ends) q reached =
      held_after layouts s s' p (prepares_holding layouts s.table.objects (root_references s.table) counter (object_size layouts s.table.types o) (policy_of s limits) p false (own_held s held) prepares) (ap (λ (t : Table ℕ). t.objects) ends.table) ends.account kept q reached
  allocates_held o answer (script_policy.made {p = p} word done prepares lies ends) q reached =
      let holding = prepares_holding layouts s.table.objects (root_references s.table) counter (object_size layouts s.table.types o) (policy_of s limits) p true (own_held s held) prepares in
      let account : s'.account.held ≡ p.account.held ++ length p.table.objects ∷ [] = ap (λ (a : Account). a.held) ends.account in
      elim (kept.reached q reached) [
        | inl old ↦
            let before = holding.held q old in
            (let stands = before.0 in let more = kept.grows in omega arith, subst (λ (xs : List ℕ). Contains xs q) (sym account) (Contains-append_left p.account.held (length p.table.objects ∷ []) q before.1))
        | inr new ↦
            let last : length p.table.objects ≡ q = ap length holding.objects_are ∙ sym new.0 in
            (new.1, subst (λ (xs : List ℕ). Contains xs q) (sym account) (subst (Contains (p.account.held ++ length p.table.objects ∷ [])) last (Contains-push p.account.held (length p.table.objects))))
      ]

  grows_held : (bytes : ℕ) (answer : Reply) → GrowsByPolicy layouts bytes s limits answer s' limits' → AllHeld s'
  grows_held bytes answer (script_policy.grown {p = p} done expands ends) =
      held_after layouts s s' p (expands_holding layouts s.table.objects (root_references s.table) bytes (policy_of s limits) p true (own_held s held) expands) (ap (λ (t : Table ℕ). t.objects) ends.table) ends.account kept
  grows_held bytes answer (script_policy.refused {p = p} not_done expands ends) =
      held_after layouts s s' p (expands_holding layouts s.table.objects (root_references s.table) bytes (policy_of s limits) p false (own_held s held) expands) (ap (λ (t : Table ℕ). t.objects) ends.table) ends.account kept

  collects_held : MayCollectTable layouts (policy_of s limits) (policy_of s' limits') → AllHeld s'
  collects_held collects =
      held_after layouts s s' (policy_of s' limits') (may_collect_holding layouts s.table.objects (root_references s.table) (policy_of s limits) (policy_of s' limits') (own_held s held) collects) refl refl kept

  declares_count : (d : Option Declaration) (answer : Reply) → steps.AnswersDeclare d s answer s' → length s'.table.objects ≡ length s.table.objects
  declares_count d answer (steps.declared new spells may said after) = ap (λ (x : State). length x.table.objects) after
  declares_count d answer (steps.bad may said after) = ap (λ (x : State). length x.table.objects) after

  does_held : (limit : Option ℕ) (sh : CommandShape) (answer : Reply) → CountLeft (visible s) sh → Does layouts limit s sh answer s' → FollowsDoing layouts counter s limits sh answer s' limits' → AllHeld s'
  does_held limit (plain effect) answer count does follows = asks_held follows (ap (λ (x : State). length x.table.objects) does.1 ∙ count)
  does_held limit (declaring d) answer count does follows = asks_held follows (declares_count (d s.table.types) answer does)
  does_held limit (making d class object) answer count does follows = allocates_held (object (visible s)) answer follows
  does_held limit (growing n) answer count does follows = grows_held n answer follows
  does_held limit (collecting told) answer count does follows = collects_held follows
  does_held limit showing answer count does follows = asks_held follows (ap (λ (x : State). length x.table.objects) does.1)

  answers_held : (limit : Option ℕ) (sh : CommandShape) (found : Option Refusal) (answer : Reply) → CountLeft (visible s) sh → AnswersShape layouts limit s sh found answer s' → FollowsTested layouts counter s limits sh found answer s' limits' → AllHeld s'
  answers_held limit sh None answer count answers follows = does_held limit sh answer count answers follows
  answers_held limit sh (Some why) answer count answers follows = asks_held follows (ap (λ (x : State). length x.table.objects) answers.1)

run_held : (layouts : Layouts) (counter : Option ℕ) (s s' : State) (limits limits' : Limits) (cs : List Command) (rs : List Reply) → Sound s → AllHeld s → RunByPolicy layouts counter s limits cs rs s' limits' → AllHeld s'
run_held layouts counter s s' limits limits' [] [] sound held run = subst AllHeld (sym run.0) held
run_held layouts counter s s' limits limits' [] (r ∷ rs) sound held run = absurd run
run_held layouts counter s s' limits limits' (c ∷ cs) [] sound held run = absurd run
run_held layouts counter s s' limits limits' (c ∷ cs) (r ∷ rs) sound held (mid, between, (step, (follows, run))) =
    let kept = step_kept layouts limits.limit s mid sound c r step in
    let held_mid = answers_held layouts counter s mid limits between held kept limits.limit (shape c) (first_failing (tests layouts s c)) r (count_left (visible s) c) step follows in
    run_held layouts counter mid s' between limits' cs rs kept.sound held_mid run

-- nothing is reached in an empty table
none_reached : (first max_scoped max_owned q : ℕ) → ¬ IsReached {D = ℕ} (start first max_scoped max_owned) q
none_reached first max_scoped max_owned q (by_start starts) =
    let nulls : All (λ (r : Reference). r ≡ null) (root_references {D = ℕ} (start first max_scoped max_owned)) =
    All-append (λ (r : Reference). r ≡ null) (slot_references (replicate global_count null_slot)) [] (All-map (λ (r : Reference). r ≡ null) (λ (x : Slot). x.reference) (replicate global_count null_slot) (All-replicate (λ (x : Slot). x.reference ≡ null) global_count null_slot refl)) (All-nil (λ (r : Reference). r ≡ null)) in
    let is : at q ≡ null = All-contains (λ (r : Reference). r ≡ null) (root_references {D = ℕ} (start first max_scoped max_owned)) (at q) nulls starts in
    absurd (cc is)
none_reached first max_scoped max_owned q (by_step {y = h} reached names) = none_reached first max_scoped max_owned h reached

-- so what is reached is held after every run from it
pub rooted_held : (layouts : Layouts) (counter : Option ℕ) (first max_scoped max_owned : ℕ) (limits limits' : Limits) (s : State) (cs : List Command) (rs : List Reply) (p : ℕ)
    → RunByPolicy layouts counter (begin (start first max_scoped max_owned) no_account) limits cs rs s limits' → IsReached s.table p → Contains s.account.held p
rooted_held layouts counter first max_scoped max_owned limits limits' s cs rs p run reached =
    let from = begin (start first max_scoped max_owned) no_account in
    (run_held layouts counter from s limits limits' cs rs (begin_sound layouts limits.limit from.table no_account) (λ q is. absurd (none_reached first max_scoped max_owned q is)) run p reached).1
