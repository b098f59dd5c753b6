-- How commands follow the policy of growth: what they do to the account and ask of the limiter.
use Rattle.std.specs.Prelude.{◌≡◌, ◌⊎◌, ℕ, true, false, List, [], ◌∷◌, Option, Some, None, length}
use Rattle.gc_types.specs.declared.kind.Layouts.{Layouts}
use Rattle.gc_model.specs.Values.{Object}
use Rattle.gc_model.specs.Table.{make}
use Rattle.gc_model.specs.Sizes.{object_size}
use Rattle.gc_model.specs.Allocation.{Limits}
use Rattle.gc_model.specs.Accounts.{with_held}
use Rattle.gc_model.specs.Policy.{PolicyState, policy_state, IsPlaceIn, Prepares, Prepared, ExpandsTable, Expanded}
use Rattle.gc_store.specs.Expansion.{MayCollectTable}
use Rattle.gc_commands.specs.declared.command.Command.{Command}
use Rattle.gc_commands.specs.declared.reply.Reply.{Reply}
use Rattle.gc_commands.specs.declared.reply.Reply.TheVariants as reply
use Rattle.gc_commands.specs.declared.reply.Refusal.{Refusal}
use Rattle.gc_script.specs.State.{State, visible}
use Rattle.gc_script.specs.Shapes.{CommandShape, plain, declaring, making, growing, collecting, showing, shape}
use Rattle.gc_script.specs.Steps.{Step, tests, first_failing}

-- what the policy goes by in a state
abbrev pub policy_of : State → Limits → PolicyState ℕ
policy_of s limits = policy_state s.table s.account limits

-- the state is that of the policy
pub record IsPolicyOf (p : PolicyState ℕ) (s : State) (limits : Limits) : Type 0 where
  pub table : s.table ≡ p.table
  pub account : s.account ≡ p.account
  pub limits_are : limits ≡ p.limits

-- what the policy goes by once an object was made, at a place
abbrev pub with_made : Layouts → Object ℕ → ℕ → PolicyState ℕ → PolicyState ℕ
with_made layouts o word p = record p { table = make o p.table; account = with_held layouts (length p.table.objects) word p.account }

-- an object was made, or refused, by the policy
pub data AllocatesByPolicy (layouts : Layouts) (counter : Option ℕ) (o : Object ℕ) (s : State) (limits : Limits) (answer : Reply) (s' : State) (limits' : Limits) : Type 0 where
  made : {p : PolicyState ℕ} (word : ℕ) → answer ≡ reply.Done → Prepares layouts counter (object_size layouts s.table.types o) (policy_of s limits) true p
      → IsPlaceIn layouts p word (object_size layouts s.table.types o) → IsPolicyOf (with_made layouts o word p) s' limits' → AllocatesByPolicy layouts counter o s limits answer s' limits'
  refused : {p : PolicyState ℕ} → ¬ (answer ≡ reply.Done) → Prepares layouts counter (object_size layouts s.table.types o) (policy_of s limits) false p
      → IsPolicyOf p s' limits' → AllocatesByPolicy layouts counter o s limits answer s' limits'

-- the heap grew, or was refused to, by the policy
pub data GrowsByPolicy (layouts : Layouts) (bytes : ℕ) (s : State) (limits : Limits) (answer : Reply) (s' : State) (limits' : Limits) : Type 0 where
  grown : {p : PolicyState ℕ} → answer ≡ reply.Done → ExpandsTable layouts bytes (policy_of s limits) true p → IsPolicyOf p s' limits'
      → GrowsByPolicy layouts bytes s limits answer s' limits'
  refused : {p : PolicyState ℕ} → ¬ (answer ≡ reply.Done) → ExpandsTable layouts bytes (policy_of s limits) false p → IsPolicyOf p s' limits'
      → GrowsByPolicy layouts bytes s limits answer s' limits'

-- nothing was asked of the limiter, and the account is as before
pub record AsksNothing (s : State) (limits : Limits) (s' : State) (limits' : Limits) : Type 0 where
  pub account : s'.account ≡ s.account
  pub same_limits : limits' ≡ limits

-- a command of that shape whose tests all passed follows the policy
abbrev pub FollowsDoing : Layouts → Option ℕ → State → Limits → CommandShape → Reply → State → Limits → Type 0
FollowsDoing layouts counter s limits (plain effect) answer s' limits' = AsksNothing s limits s' limits'
FollowsDoing layouts counter s limits (declaring d) answer s' limits' = AsksNothing s limits s' limits'
FollowsDoing layouts counter s limits (making d class object) answer s' limits' = AllocatesByPolicy layouts counter (object (visible s)) s limits answer s' limits'
FollowsDoing layouts counter s limits (growing n) answer s' limits' = GrowsByPolicy layouts n s limits answer s' limits'
FollowsDoing layouts counter s limits (collecting told) answer s' limits' = MayCollectTable layouts (policy_of s limits) (policy_of s' limits')
FollowsDoing layouts counter s limits showing answer s' limits' = AsksNothing s limits s' limits'

abbrev pub FollowsTested : Layouts → Option ℕ → State → Limits → CommandShape → Option Refusal → Reply → State → Limits → Type 0
FollowsTested layouts counter s limits sh (Some why) answer s' limits' = AsksNothing s limits s' limits'
FollowsTested layouts counter s limits sh None answer s' limits' = FollowsDoing layouts counter s limits sh answer s' limits'

-- A step of a command follows the policy of growth, where each so-manieth allocation collects first.
abbrev pub Follows : Layouts → Option ℕ → State → Limits → Command → Reply → State → Limits → Type 0
Follows layouts counter s limits c answer s' limits' = FollowsTested layouts counter s limits (shape c) (first_failing (tests layouts s c)) answer s' limits'

-- a run of commands each of which follows the policy
abbrev pub RunByPolicy : Layouts → Option ℕ → State → Limits → List Command → List Reply → State → Limits → Type 0
RunByPolicy layouts counter s limits [] [] s' limits' = (s' ≡ s) × (limits' ≡ limits)
RunByPolicy layouts counter s limits (c ∷ cs) (r ∷ rs) s' limits' = (mid : State) × (between : Limits)
    × (Step layouts limits.limit s c r mid × (Follows layouts counter s limits c r mid between × RunByPolicy layouts counter mid between cs rs s' limits'))
RunByPolicy layouts counter s limits [] (r ∷ rs) s' limits' = ⊥
RunByPolicy layouts counter s limits (c ∷ cs) [] s' limits' = ⊥

-- how far a command of that shape had come whose tests all passed
abbrev pub CameDoing : Layouts → Option ℕ → State → CommandShape → PolicyState ℕ → PolicyState ℕ → Type 0
CameDoing layouts counter s (plain effect) p q = q ≡ p
CameDoing layouts counter s (declaring d) p q = q ≡ p
CameDoing layouts counter s (making d class object) p q = Prepared layouts counter (object_size layouts s.table.types (object (visible s))) p q
CameDoing layouts counter s (growing n) p q = (q ≡ p) ⊎ Expanded layouts n p q
CameDoing layouts counter s (collecting told) p q = q ≡ p
CameDoing layouts counter s showing p q = q ≡ p

-- How far a command had come that wanted memory; one that a test refuses had not begun.
abbrev pub Came : Layouts → Option ℕ → State → CommandShape → Option Refusal → PolicyState ℕ → PolicyState ℕ → Type 0
Came layouts counter s sh (Some why) p q = q ≡ p
Came layouts counter s sh None p q = CameDoing layouts counter s sh p q
