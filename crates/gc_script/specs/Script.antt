-- What running a script answers and leaves.
use Rattle.std.specs.Prelude.{◌≡◌, true, ℕ, ◌+◌, ◌-◌, ◌^◌, ◌≤◌, min, ◌⊎◌, List, [], ◌∷◌, ◌++◌, Option}
use Rattle.gc_types.specs.declared.kind.Layouts.{Layouts}
use Rattle.gc_model.specs.Allocation.{Limits}
use Rattle.gc_model.specs.Stores.{StoreView}
use Rattle.gc_model.specs.Holds.{HoldsKept}
use Rattle.gc_model.specs.Accounts.{HoldsAccount}
use Rattle.gc_commands.specs.declared.command.Command.{Command}
use Rattle.gc_commands.specs.declared.reply.Reply.{Reply}
use Rattle.gc_script.specs.Slots.{RunnerView}
use Rattle.gc_script.specs.State.{State}
use Rattle.gc_script.specs.Shapes.{is_collection}
use Rattle.gc_script.specs.Run.{Ran, LimiterRefuses, WantsMemory, wanted_bytes}
use Rattle.gc_script.specs.Policy.{RunByPolicy}

-- a reply adds to the number of those that say what a limiter refused
abbrev pub AddsRefused : Reply → State → ℕ → ℕ → ℕ → Type 0
AddsRefused r after bytes before n = (LimiterRefuses r after bytes × (n ≡ 1 + before)) ⊎ ((¬ LimiterRefuses r after bytes) × (n ≡ before))

-- so many replies of a run say what a limiter refused
abbrev pub RefusedIn : (layouts : Layouts) (counter : Option ℕ) (s : State) (limits : Limits) (cs : List Command) (rs : List Reply) (s' : State) (limits' : Limits) → RunByPolicy layouts counter s limits cs rs s' limits' → ℕ → Type 0
RefusedIn layouts counter s limits [] [] s' limits' run n = n ≡ 0
RefusedIn layouts counter s limits (c ∷ cs) (r ∷ rs) s' limits' run n =
    (rest : ℕ) × (RefusedIn layouts counter run.0 run.1 cs rs s' limits' run.2.1.1 rest × AddsRefused r run.0 (wanted_bytes layouts s c) rest n)
RefusedIn layouts counter s limits [] (r ∷ rs) s' limits' run n = ⊥
RefusedIn layouts counter s limits (c ∷ cs) [] s' limits' run n = ⊥

-- The replies are a run of the commands by the policy of growth. The limiter's count rose by no less than
-- the number of replies that say what it refused, as far as it goes.
pub record RanScript (layouts : Layouts) (counter : Option ℕ) (limits limits' : Limits) (s : State) (cs : List Command) (rs : List Reply) (s' : State) : Type 0 where
  pub run : RunByPolicy layouts counter s limits cs rs s' limits'
  pub refused : ℕ
  pub refused_in : RefusedIn layouts counter s limits cs rs s' limits' run refused
  pub counted : min (limits.refusals + refused) (2 ^ 64 - 1) ≤ limits'.refusals

-- The store holds the table at the end; where the last command collects, its heap holds the kept objects alone.
pub record EndedScript (layouts : Layouts) (counter : Option ℕ) (limits limits' : Limits) (s : State) (cs : List Command) (rs : List Reply) (new : StoreView ℕ) : Type 0 where
  pub after : State
  pub ran : RanScript layouts counter limits limits' s cs rs after
  pub holds : HoldsAccount layouts new after.table after.account
  pub kept : (before : List Command) (last : Command) → is_collection last ≡ true → cs ≡ before ++ last ∷ [] → HoldsKept layouts new after.table

-- Some command wanted memory, after those before it were run.
pub record StoppedScript (layouts : Layouts) (counter : Option ℕ) (limits limits' : Limits) (s : State) (cs : List Command) (new : StoreView ℕ) : Type 0 where
  pub done : List Command
  pub wanting : Command
  pub rest : List Command
  pub cut : cs ≡ done ++ wanting ∷ rest
  pub replies : List Reply
  pub after : State
  pub between : Limits
  pub ran : RanScript layouts counter limits between s done replies after
  pub runner : RunnerView
  pub wants : WantsMemory layouts counter between limits' after wanting new runner

-- one more command ran, whose reply stands behind the others
pub record RanNext (layouts : Layouts) (counter : Option ℕ) (limits limits' : Limits) (s : State) (c : Command) (before now : List Reply) (new : StoreView ℕ) (runner : RunnerView) : Type 0 where
  pub answer : Reply
  pub ran : Ran layouts counter limits limits' s c answer new runner
  pub kept : is_collection c ≡ true → HoldsKept layouts new ran.after.table
  pub appended : now ≡ before ++ answer ∷ []
