-- A node that is opened: its children as parts.
use Rattle.std.proofs.Common.{ℕ, ◌<◌, ◌^◌, ℤ, Option, Err, ap, ◌∙◌, arith, to_z, of_z, w64}
use Rattle.std.proofs.lemmas.Int.{to_z-of_z}
use Rattle.gc_types.specs.declared.kind.Layouts.{Layouts}
use Rattle.gc_model.specs.Table.{Table}
use Rattle.gc_model.specs.Stores.{StoreView}
use Rattle.gc_model.specs.Accounts.{Account, HoldsAccount}
use Rattle.gc_values.specs.declared.root.GcRootIndex.{GcRootIndex}
use Rattle.gc_store.specs.Stores.{IsSameStore}
use Rattle.gc_lists.specs.declared.fault.ListFault.{ListFault}
use Rattle.gc_lists.specs.declared.fault.ListFault.TheVariants as fault
use Rattle.gc_lists.specs.Frames.{Leaves}
use Rattle.gc_maps.specs.declared.part.Node.{Node}
use Rattle.gc_maps.specs.declared.part.Part.{Part}
use Rattle.gc_maps.specs.Trees.{Tree, node, height}
use Rattle.gc_maps.specs.Parts.{RootIs, PartIs, NodeIs, OpenedIs, RootIn}
use Rattle.gc_maps.specs.Ends.{Pushes, EndsReading}
use Rattle.gc_maps.proofs.Naming.{held_table, root_kept, part_kept}
use Rattle.gc_maps.proofs.NodeReads.{table_keeps}

-- the same refusal, whatever was to be answered
pub refused_same : {D A B : Type 0} (layouts : Layouts) (m : ℕ) (t : Table D) (DoneA : StoreView D → Table D → A → Type 0) (DoneB : StoreView D → Table D → B → Type 0) (f : ListFault) (new : StoreView D)
    → EndsReading {A = A} layouts m t DoneA (Err f) new → EndsReading {A = B} layouts m t DoneB (Err f) new
refused_same layouts m t DoneA DoneB fault.WrongStore new ends = ends
refused_same layouts m t DoneA DoneB fault.RootsFull new ends = ends
refused_same layouts m t DoneA DoneB (fault.HeapOutOfMemory f) new ends = ends
refused_same layouts m t DoneA DoneB fault.Memory new ends = ends

module _ {D : Type 0} (layouts : Layouts) (t : Table D) (ty : ℕ) (x : Tree) (k v : ℤ) (y : Tree) (low : height (node x k v y) < 2 ^ 31) (read : Node) (s1 : StoreView D)
    (leaves : Leaves layouts (λ u. Pushes 2 t u × NodeIs s1 u ty read x k v y) s1) where
  abbrev pub ReadsPart : StoreView D → StoreView D → Option GcRootIndex → Part → Type 0
  ReadsPart s s' root part = (t : Table D) (a : Account) (ty : ℕ) (tree : Tree) → HoldsAccount layouts s t a → RootIs s t ty root tree → height tree < 2 ^ 31 → PartIs s' t ty part tree × HoldsAccount layouts s' t a

  pub left_in : RootIn D layouts s1 read.left
  left_in = record { table = leaves.after; holds = held_table layouts s1 leaves.after leaves.account leaves.holds; ty = ty; tree = x; is = leaves.changed.1.left }

  module _ (s2 : StoreView D) (same2 : IsSameStore s1 s2) (left : Part) (in_left : ReadsPart s1 s2 read.left left) where
    abbrev got_left : PartIs s2 leaves.after ty left x × HoldsAccount layouts s2 leaves.after leaves.account
    got_left = in_left leaves.after leaves.account ty x leaves.holds leaves.changed.1.left (omega arith)

    right_root : RootIs s2 leaves.after ty read.right y
    right_root = root_kept s1 leaves.after s2 leaves.after (table_keeps s1 leaves.after s2 same2) ty read.right y leaves.changed.1.right

    pub right_in : RootIn D layouts s2 read.right
    right_in = record { table = leaves.after; holds = held_table layouts s2 leaves.after leaves.account got_left.1; ty = ty; tree = y; is = right_root }

    pub opened : (s3 : StoreView D) → IsSameStore s2 s3 → (right : Part) → ReadsPart s2 s3 read.right right
        → Leaves layouts (λ u. Pushes 2 t u × OpenedIs s3 u ty (record { left = left; key = to_z w64 (of_z w64 read.key); value = to_z w64 (of_z w64 read.value); right = right }) x k v y) s3
    opened s3 same3 right in_right =
        let got = in_right leaves.after leaves.account ty y got_left.1 right_root (omega arith) in
        let at = leaves.changed.1 in
        record {
          after = leaves.after;
          account = leaves.account;
          holds = got.1;
          changed = (
            leaves.changed.0,
            record {
              key_is = ap (λ (z : ℤ). to_z w64 (of_z w64 z)) at.key_is ∙ to_z-of_z w64 k at.key_fits;
              value_is = ap (λ (z : ℤ). to_z w64 (of_z w64 z)) at.value_is ∙ to_z-of_z w64 v at.value_fits;
              key_fits = at.key_fits;
              value_fits = at.value_fits;
              left = part_kept s2 leaves.after s3 leaves.after (table_keeps s2 leaves.after s3 same3) ty left x got_left.0;
              right = got.0;
            },
          );
        }
