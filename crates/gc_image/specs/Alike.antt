-- When two tables are alike in what their globals reach.
use Rattle.std.specs.Prelude.{◌≡◌, ℕ, Some, slice_get}
use Rattle.gc_model.specs.Table.{Table, Slot}
use Rattle.gc_model.specs.Values.{Object}
use Rattle.gc_image.specs.Images.{IsGlobal, placed_object, placed_reference}

-- a slot where the position of each other position is known
abbrev pub placed_slot : (ℕ → ℕ) → Slot → Slot
placed_slot position slot = record { class = slot.class; reference = placed_reference position slot.reference }

-- The tables have the same types. What the globals of one reach has a position of its own among what those of the other reach, and each
-- of these is one of them; objects and globals are the same but for their positions.
pub record AreAlike (t t' : Table ℕ) : Type 0 where
  pub types : t.types ≡ t'.types
  pub to : ℕ → ℕ
  pub reached : (p : ℕ) → IsGlobal t p → IsGlobal t' (to p)
  pub distinct : (p q : ℕ) → IsGlobal t p → IsGlobal t q → to p ≡ to q → p ≡ q
  pub whole : (q : ℕ) → IsGlobal t' q → (p : ℕ) × (IsGlobal t p × (to p ≡ q))
  pub objects : (p : ℕ) (object : Object ℕ) → IsGlobal t p → slice_get t.objects p ≡ Some object → slice_get t'.objects (to p) ≡ Some (placed_object to object)
  pub globals : (k : ℕ) (slot slot' : Slot) → slice_get t.globals k ≡ Some slot → slice_get t'.globals k ≡ Some slot' → slot' ≡ placed_slot to slot
