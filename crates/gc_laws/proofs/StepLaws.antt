-- Collections of two states of which the same is visible.
use Rattle.std.proofs.Common.{◌≡◌, ℕ, sym, ap, ap₂, ◌∙◌, subst}
use Rattle.std.specs.Prelude.{slice_get}
use Rattle.gc_types.specs.declared.kind.Layouts.{Layouts}
use Rattle.gc_types.specs.declared.kind.Layouts.TheVariants.{Null, Counting, Copying}
use Rattle.gc_model.specs.Table.{Table}
use Rattle.gc_model.specs.Reach.{IsKept, IsReached, IsHost, KeepsNumber}
use Rattle.gc_commands.specs.declared.reply.Reply.{Reply}
use Rattle.gc_commands.specs.declared.reply.Reply.TheVariants as reply
use Rattle.gc_script.specs.State.{State, visible}
use Rattle.gc_script.specs.Shapes.{ToldCount, of_objects, of_increments}
use Rattle.gc_script.specs.Steps.{Keeps, TellsIncrements, Tells}
use Rattle.gc_store.specs.IncrementCounts.{TakesIncrements, increments_where}
use Rattle.gc_laws.proofs.SumLemmas.{same_number}

-- what is kept is visible
keeps_visible : (layouts : Layouts) (s : State) (objects hosts : ℕ) → KeepsNumber layouts s.table objects hosts → KeepsNumber layouts (visible s).table objects hosts
keeps_visible Null s objects hosts kept = record { objects_are = kept.objects_are; hosts_are = kept.hosts_are }
keeps_visible Counting s objects hosts kept = record { objects_are = kept.objects_are; hosts_are = kept.hosts_are }
keeps_visible Copying s objects hosts kept = record { objects_are = kept.objects_are; hosts_are = kept.hosts_are }

-- a collection keeps as many objects of either
pub same_held : (layouts : Layouts) (s t : State) (answer answer' : Reply) → visible s ≡ visible t → Keeps layouts s answer → Keeps layouts t answer' → answer ≡ answer'
same_held layouts s t answer answer' seen one other =
    let kept = keeps_visible layouts s one.objects one.hosts one.kept in
    let kept' = subst (λ (v : State). KeepsNumber layouts v.table other.objects other.hosts) (sym seen) (keeps_visible layouts t other.objects other.hosts other.kept) in
    let objects = same_number (IsKept layouts (visible s).table) one.objects other.objects kept.objects_are kept'.objects_are in
    let hosts = same_number (λ (p : ℕ). IsKept layouts (visible s).table p × IsHost (slice_get s.table.objects p)) one.hosts other.hosts kept.hosts_are kept'.hosts_are in
    one.shows ∙ ap₂ (λ (n m : ℕ). reply.Held n m) objects hosts ∙ sym other.shows

-- of one table it takes as many increments
same_steps : (layouts : Layouts) (s t : State) (answer answer' : Reply) → s.table ≡ t.table → TellsIncrements layouts s answer → TellsIncrements layouts t answer' → answer ≡ answer'
same_steps layouts s t answer answer' same one other =
    let takes : TakesIncrements layouts s.table other.increments = subst (λ (x : Table ℕ). TakesIncrements layouts x other.increments) (sym same) other.takes in
    let reached = same_number (IsReached s.table) one.takes.reached takes.reached one.takes.reaches takes.reaches in
    one.shows ∙ ap reply.Increments (one.takes.number ∙ ap (increments_where s.table.made layouts) reached ∙ sym takes.number) ∙ sym other.shows

-- so it tells the same
pub same_told : (layouts : Layouts) (s t : State) (told : ToldCount) (answer answer' : Reply) → visible s ≡ visible t → s.table ≡ t.table → Tells layouts s told answer → Tells layouts t told answer' → answer ≡ answer'
same_told layouts s t of_objects answer answer' seen same one other = same_held layouts s t answer answer' seen one other
same_told layouts s t of_increments answer answer' seen same one other = same_steps layouts s t answer answer' same one other
