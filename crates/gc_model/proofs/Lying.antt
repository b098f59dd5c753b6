-- A value lies in equal bytes.
use Rattle.std.proofs.Common.{ℕ, ◌+◌, ◌≤◌, List, length, sym, subst}
use Rattle.gc_types.specs.declared.value.StorageType.{StorageType}
use Rattle.gc_types.specs.Layouts.{storage_width}
use Rattle.gc_model.specs.Values.{Value}
use Rattle.gc_view.specs.Bytes.{put_bytes, SameBytes}
use Rattle.gc_model.specs.Forms.{Names, IsCode, LiesAs}
use Rattle.gc_model.proofs.Encoding.{IsApart, put_bytes-apart, number_in_same}

module _ (names : Names) (ty : StorageType) (v : Value) where
  -- a value lies where its bytes are the same
  pub lies_same : (a b : List ℕ) (o : ℕ) → SameBytes a b o (o + storage_width ty) → LiesAs names ty v a o → LiesAs names ty v b o
  lies_same a b o same lies = record { form = lies.form; code = subst (IsCode names v) (sym (number_in_same (storage_width ty) a b o same)) lies.code }

  -- a write elsewhere leaves a value where it lies
  pub lies_apart : (bytes : List ℕ) (o p : ℕ) (ws : List ℕ) → p + length ws ≤ length bytes → IsApart o (storage_width ty) p (length ws) → LiesAs names ty v bytes o → LiesAs names ty v (put_bytes bytes p ws) o
  lies_apart bytes o p ws within apart lies = lies_same bytes (put_bytes bytes p ws) o (put_bytes-apart bytes p ws o (storage_width ty) within apart) lies
