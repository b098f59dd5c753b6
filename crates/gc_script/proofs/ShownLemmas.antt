-- A root as a reply shows it.
use Rattle.std.proofs.Common.{◌≡◌, ℕ, sym, ap, ◌∙◌}
use Rattle.gc_owner.specs.declared.entry.GcClass.{GcClass}
use Rattle.gc_model.specs.Values.{Reference, Value, reference}
use Rattle.gc_model.specs.Table.{Table}
use Rattle.gc_model.specs.Stores.{StoreView}
use Rattle.gc_commands.specs.declared.reply.ReplyValue.{ReplyValue}
use Rattle.gc_values.specs.declared.root.GcRootIndex.{GcRootIndex}
use Rattle.gc_values.specs.declared.root.RootedObject.{RootedObject}
use Rattle.gc_store.specs.Roots.{NamesReference, IsReference}
use Rattle.gc_store.specs.Values.{RootStands}
use Rattle.gc_script.specs.Shapes.{shown_value}

-- what is told of a live root is shown
pub root_shown : (store : StoreView ℕ) (t : Table ℕ) (class : GcClass) (handle : GcRootIndex) (v : Value) (object : RootedObject) (shows : ReplyValue) → RootStands store t class handle v
    → ((r : Reference) → NamesReference store t handle r → IsReference t r object) → ((r : Reference) → IsReference t r object → shows ≡ shown_value t (reference class r)) → shows ≡ shown_value t v
root_shown store t class handle v object shows stands tells shows_it = shows_it stands.root (tells stands.root stands.named) ∙ ap (shown_value t) (sym stands.is)
