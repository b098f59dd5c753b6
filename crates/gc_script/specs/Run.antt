-- A run of commands.
use Rattle.std.specs.Prelude.{◌≡◌, ℕ, ◌+◌, ◌&&◌, ◌≤◌, ◌⊎◌, List, [], ◌∷◌, Option, None, Result, Ok, Err, Bool, true, false, if◌then◌else◌}
use Rattle.gc_types.specs.declared.kind.Layouts.{Layouts}
use Rattle.gc_view.specs.Sizes.{need_of}
use Rattle.gc_model.specs.Sizes.{object_size}
use Rattle.gc_view.specs.Pages.{max_pages}
use Rattle.gc_model.specs.Allocation.{Limits, asked}
use Rattle.gc_model.specs.Stores.{StoreView}
use Rattle.gc_owner.specs.Limiters.{Refuses}
use Rattle.gc_store.specs.Places.{MayGetPages}
use Rattle.gc_model.specs.Policy.{PolicyState}
use Rattle.gc_commands.specs.declared.command.Command.{Command}
use Rattle.gc_commands.specs.declared.command.Command.TheVariants.{Struct, Array, Exn, New, NewExn, NewArr, Fixed, NewBytes, ReadBytes, Host, I31, Field, Elem, Len, HostNumber, SetField, SetElem, Eq, Enter, Leave, Push, Pop, Store, Load, SetGlobal, GetGlobal, Own, Root, Unroot, Throw, Take, Grow, Cap}
use Rattle.gc_commands.specs.declared.reply.Reply.{Reply}
use Rattle.gc_commands.specs.declared.reply.Reply.TheVariants as reply
use Rattle.gc_commands.specs.declared.reply.Refusal.{Refusal}
use Rattle.gc_commands.specs.declared.reply.Refusal.TheVariants as refusal
use Rattle.gc_script.specs.Slots.{RunnerView}
use Rattle.gc_script.specs.State.{State, HoldsState, with_heap, visible}
use Rattle.gc_script.specs.Built.{is_built}
use Rattle.gc_script.specs.Shapes.{CommandShape, making, growing, shape, shape_asks_nothing}
use Rattle.gc_script.specs.Steps.{Step, AnswersShape, tests, first_failing}
use Rattle.gc_script.specs.Policy.{policy_of, Follows, FollowsTested, Came}
use Rattle.gc_script.specs.declared.runner.RunError.{RunError}

-- as many replies as commands, each command a step from the state that the one before it left
abbrev pub Run : Layouts → Option ℕ → State → List Command → List Reply → State → Type 0
Run layouts limit s [] [] s' = s' ≡ s
Run layouts limit s (c ∷ cs) (r ∷ rs) s' = (mid : State) × (Step layouts limit s c r mid × Run layouts limit mid cs rs s')
Run layouts limit s [] (r ∷ rs) s' = ⊥
Run layouts limit s (c ∷ cs) [] s' = ⊥

-- the bytes by which a command of that shape would have its heap grow
abbrev pub shape_bytes : Layouts → State → CommandShape → ℕ
shape_bytes layouts s (making d class object) = need_of layouts (object_size layouts s.table.types (object (visible s)))
shape_bytes layouts s (growing n) = n
shape_bytes layouts s _ = 0

abbrev pub wanted_bytes : Layouts → State → Command → ℕ
wanted_bytes layouts s c = shape_bytes layouts s (shape c)

-- the reply says that the heap was refused pages
abbrev pub SaysRefused : Reply → Type 0
SaysRefused answer = (answer ≡ reply.Refused refusal.GcHeapOutOfMemory) ⊎ (answer ≡ reply.Refused refusal.GcHeapGrowthFailed)

-- A limiter refused what the reply says: the first pages, or those of a growth by so many bytes. It wasn't asked where
-- the heap would have more than any may have.
pub record LimiterRefuses (answer : Reply) (after : State) (bytes : ℕ) : Type 0 where
  pub says : SaysRefused answer
  pub within : after.table.made ≡ true → after.table.pages + asked after.table.pages bytes ≤ max_pages

-- the pages before and after for which a limiter was asked then
abbrev pub pages_asked : State → ℕ → ℕ × ℕ
pages_asked after bytes = if after.table.made then (after.table.pages, after.table.pages + asked after.table.pages bytes) else (0, after.table.first)

-- what a command that would have its heap grow by so many bytes leaves of the limiter: it counted what the reply says, or
-- a refusal that was overlooked, or nothing
pub data LimiterCounts (bytes : ℕ) (limits limits' : Limits) (answer : Reply) (after : State) : Type 0 where
  told : LimiterRefuses answer after bytes → Refuses limits limits' (pages_asked after bytes).0 (pages_asked after bytes).1 → LimiterCounts bytes limits limits' answer after
  overlooked : answer ≡ reply.Done → Refuses limits limits' (pages_asked after bytes).0 (pages_asked after bytes).1 → LimiterCounts bytes limits limits' answer after
  nothing : ¬ LimiterRefuses answer after bytes → limits' ≡ limits → LimiterCounts bytes limits limits' answer after

-- A command was a step of the state that follows the policy of growth, and the limiter counted what it refused.
pub record Ran (layouts : Layouts) (counter : Option ℕ) (limits limits' : Limits) (s : State) (c : Command) (answer : Reply) (new : StoreView ℕ) (runner : RunnerView) : Type 0 where
  pub after : State
  pub step : Step layouts limits.limit s c answer after
  pub follows : Follows layouts counter s limits c answer after limits'
  pub counts : LimiterCounts (wanted_bytes layouts s c) limits limits' answer after
  pub holds : HoldsState layouts new runner after

-- Want of memory leaves the state, but that a collection may have run, and that the heap may have got pages which the
-- limit grants: where a command makes an object or grows the heap alone, as the policy says, and where no test refuses it.
pub record WantsAfter (layouts : Layouts) (counter : Option ℕ) (limits limits' : Limits) (s : State) (sh : CommandShape) (found : Option Refusal) (new : StoreView ℕ) (runner : RunnerView) : Type 0 where
  pub after : PolicyState ℕ
  pub came : Came layouts counter s sh found (policy_of s limits) after
  pub pages : MayGetPages limits.limit (shape_bytes layouts s sh) s.table after.table
  pub holds : HoldsState layouts new runner (with_heap after.table after.account s)
  pub limits_are : limits' ≡ after.limits

-- the same of a command, with its shape and the refusal that its tests find
pub record WantsMemory (layouts : Layouts) (counter : Option ℕ) (limits limits' : Limits) (s : State) (c : Command) (new : StoreView ℕ) (runner : RunnerView) : Type 0 where
  pub wants : WantsAfter layouts counter limits limits' s (shape c) (first_failing (tests layouts s c)) new runner

-- what running one command answers and leaves
abbrev pub RunsOne : Layouts → Option ℕ → Limits → Limits → State → Command → Result Reply RunError → StoreView ℕ → RunnerView → Type 0
RunsOne layouts counter limits limits' s c (Ok answer) new runner = Ran layouts counter limits limits' s c answer new runner
RunsOne layouts counter limits limits' s c (Err e) new runner = WantsMemory layouts counter limits limits' s c new runner

-- the commands that take memory: for a type, a register, a root, a scope mark, a frame, bytes that are told, or pages
abbrev pub takes_memory : Command → Bool
takes_memory (Struct is_final supertype fs) = true
takes_memory (Array is_final supertype element) = true
takes_memory (Exn params) = true
takes_memory (New d t vs) = true
takes_memory (NewExn d t tag vs) = true
takes_memory (NewArr d t n v) = true
takes_memory (Fixed d t vs) = true
takes_memory (NewBytes d t bytes) = true
takes_memory (ReadBytes r n) = true
takes_memory (Host d n) = true
takes_memory (I31 d n) = true
takes_memory (Field r i into) = true
takes_memory (Elem r i into) = true
takes_memory Enter = true
takes_memory (Push k) = true
takes_memory (Load k d) = true
takes_memory (GetGlobal g d) = true
takes_memory (Own o r) = true
takes_memory (Root d o) = true
takes_memory (Take d) = true
takes_memory (Grow n) = true
takes_memory _ = false

-- a command that is run, and takes some
abbrev pub TakesMemory : Command → Type 0
TakesMemory c = (is_built c ≡ true) × (takes_memory c ≡ true)

-- What a command of that shape answers and leaves, once the tests up to these passed.
pub record RunsRest (layouts : Layouts) (counter : Option ℕ) (limits limits' : Limits) (s : State) (sh : CommandShape) (left : List (Bool × Refusal)) (answer : Reply) (new : StoreView ℕ) (runner : RunnerView) : Type 0 where
  pub after : State
  pub answers : AnswersShape layouts limits.limit s sh (first_failing left) answer after
  pub follows : FollowsTested layouts counter s limits sh (first_failing left) answer after limits'
  pub counts : LimiterCounts (shape_bytes layouts s sh) limits limits' answer after
  pub holds : HoldsState layouts new runner after

-- the same, or memory is wanting
abbrev pub RunsOn : Layouts → Option ℕ → Limits → Limits → State → CommandShape → List (Bool × Refusal) → Result Reply RunError → StoreView ℕ → RunnerView → Type 0
RunsOn layouts counter limits limits' s sh left (Ok answer) new runner = RunsRest layouts counter limits limits' s sh left answer new runner
RunsOn layouts counter limits limits' s sh left (Err e) new runner = WantsAfter layouts counter limits limits' s sh (first_failing left) new runner

-- the same of a shape that asks no limiter and leaves it and the account as they are
pub record GoesUnasked (layouts : Layouts) (s : State) (sh : CommandShape) (left : List (Bool × Refusal)) (answer : Reply) (new : StoreView ℕ) (runner : RunnerView) : Type 0 where
  pub after : State
  pub answers : AnswersShape layouts None s sh (first_failing left) answer after
  pub account : after.account ≡ s.account
  pub holds : HoldsState layouts new runner after

-- what a command of such a shape answers and leaves, once the tests up to these passed
abbrev pub GoesBy : Layouts → State → CommandShape → List (Bool × Refusal) → Result Reply RunError → StoreView ℕ → RunnerView → Type 0
GoesBy layouts s sh left (Ok answer) new runner = GoesUnasked layouts s sh left answer new runner
GoesBy layouts s sh left (Err e) new runner = HoldsState layouts new runner s

-- what such a command answers and leaves
abbrev pub GoesOn : Layouts → State → Command → Result Reply RunError → StoreView ℕ → RunnerView → Type 0
GoesOn layouts s c result new runner = GoesBy layouts s (shape c) (tests layouts s c) result new runner

-- the commands of such a shape that are built
abbrev pub asks_nothing : Command → Bool
asks_nothing c = is_built c && shape_asks_nothing (shape c)
