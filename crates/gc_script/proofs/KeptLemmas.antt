-- What a collection kept.
use Rattle.std.proofs.Common.{◌≡◌, ℕ, true, List, [], ◌∷◌, ◌++◌, Option, sym, ap, subst}
use Rattle.gc_types.specs.declared.kind.Layouts.{Layouts}
use Rattle.gc_model.specs.Allocation.{Limits}
use Rattle.gc_model.specs.Stores.{StoreView}
use Rattle.gc_model.specs.Holds.{HoldsKept}
use Rattle.gc_commands.specs.declared.command.Command.{Command}
use Rattle.gc_commands.specs.declared.command.Command.TheVariants.{Gc, GcInc, GcDrop}
use Rattle.gc_commands.specs.declared.reply.Reply.{Reply}
use Rattle.gc_script.specs.Slots.{RunnerView}
use Rattle.gc_script.specs.State.{State}
use Rattle.gc_script.specs.Shapes.{is_collection}
use Rattle.gc_script.specs.Steps.{Step}
use Rattle.gc_script.specs.Run.{Ran}

-- a collection leaves the table
same_table : (layouts : Layouts) (limit : Option ℕ) (s : State) (c : Command) (answer : Reply) (s' : State) → is_collection c ≡ true → Step layouts limit s c answer s' → s'.table ≡ s.table
same_table layouts limit s Gc answer s' is step = ap (λ (x : State). x.table) step.1.1
same_table layouts limit s GcInc answer s' is step = ap (λ (x : State). x.table) step.1.1
same_table layouts limit s GcDrop answer s' is step = ap (λ (x : State). x.table) step.1.1
same_table layouts limit s c answer s' is step = absurd (cc is)

-- so what it kept is kept behind it
pub kept_after : (layouts : Layouts) (counter : Option ℕ) (limits limits' : Limits) (s : State) (c : Command) (answer : Reply) {new : StoreView ℕ} {runner : RunnerView} (ran : Ran layouts counter limits limits' s c answer new runner) → is_collection c ≡ true → HoldsKept layouts new s.table → HoldsKept layouts new ran.after.table
kept_after layouts counter limits limits' s c answer {new} {runner} ran is kept = subst (HoldsKept layouts new) (sym (same_table layouts limits.limit s c answer ran.after is ran.step)) kept

-- no command is none
pub no_last : (before : List Command) (last : Command) → [] ≡ before ++ last ∷ [] → ⊥
no_last [] last e = absurd (cc)
no_last (b ∷ bs) last e = absurd (cc)

-- the last of some commands
pub last_command : (done : List Command) (c : Command) (before : List Command) (last : Command) → done ++ c ∷ [] ≡ before ++ last ∷ [] → c ≡ last
last_command [] c [] last e = cc
last_command [] c (b ∷ []) last e = absurd (cc)
last_command [] c (b ∷ d ∷ bs) last e = absurd (cc)
last_command (x ∷ []) c [] last e = absurd (cc)
last_command (x ∷ y ∷ xs) c [] last e = absurd (cc)
last_command (x ∷ xs) c (b ∷ bs) last e = last_command xs c bs last (cc)
