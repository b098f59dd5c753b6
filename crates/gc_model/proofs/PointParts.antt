-- What lemmas on the points of what a store holds, and on the forms of values, speak of beside their definitions.
use Rattle.std.specs.Prelude.{◌≡◌, ℕ, Bool, true, false, ◌<◌, ◌^◌, List, length}
use Rattle.std.specs.Ordering.{nat_cmp}
use Rattle.std.specs.FinMap as map
use Rattle.std.specs.Int.{bytes_low_first}
use Rattle.gc_types.specs.declared.value.StorageType.{StorageType}
use Rattle.gc_types.specs.declared.kind.Layouts.{Layouts}
use Rattle.gc_types.specs.Layouts.{storage_width}
use Rattle.gc_owner.specs.declared.entry.RootEntry.{RootEntry}
use Rattle.gc_view.specs.Heaps.{HeapObject, HeapView}
use Rattle.gc_model.specs.Values.{Value}
use Rattle.gc_model.specs.Table.{Table, Scoped, Push}
use Rattle.gc_model.specs.Words.{Placing}
use Rattle.gc_model.specs.Forms.{Form, number_of, function_of, continuation_of, reference_of, value_form, storage_form, Names, IsCode}
use Rattle.gc_model.specs.RootPoints.{EntryBy, IsPastBy}
use Rattle.gc_model.specs.Holds.{HeldBy, NullBy}

abbrev pub is_reference : Form → Bool
is_reference (number_of kind) = false
is_reference function_of = false
is_reference continuation_of = false
is_reference (reference_of class) = true

-- the bytes are those of a value in a field of that type
pub record IsEncodedAs (names : Names) (ty : StorageType) (v : Value) (bytes : List ℕ) : Type 0 where
  pub form : storage_form ty ≡ value_form v
  pub word : ℕ
  pub small : word < 256 ^ storage_width ty
  pub code : IsCode names v word
  pub encoded : bytes ≡ bytes_low_first 0 (storage_width ty) word

module _ {D : Type 0} where
  abbrev pub HeldAt : Layouts → Table D → Names → map.FinMap nat_cmp HeapObject → ℕ → ℕ → Type 0
  HeldAt layouts t names content position word = HeldBy layouts t.types t.objects names content position word

  abbrev pub NullHolds : Table D → Placing → HeapView → Type 0
  NullHolds t place heap = NullBy t.types t.objects place heap.allocated

  abbrev pub EntryStands : Table D → Placing → ℕ → RootEntry → Scoped → Type 0
  EntryStands t place index entry root = EntryBy t.pushes place index entry root

  abbrev pub IsPast : Table D → Push → Type 0
  IsPast t p = IsPastBy t.drops (length t.scoped) p
