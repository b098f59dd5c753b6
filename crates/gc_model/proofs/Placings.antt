-- What lies by some names lies by each names with more places and ids.
use Rattle.std.proofs.Common.{◌≡◌, ℕ, ◌-◌, List, Some, None}
use Rattle.std.specs.Ordering.{nat_cmp}
use Rattle.std.specs.FinMap.{FinMap, get}
use Rattle.gc_types.specs.declared.value.StorageType.{StorageType}
use Rattle.gc_types.specs.declared.kind.Layouts.{Layouts}
use Rattle.gc_types.specs.Declarations.{Declaration}
use Rattle.gc_types.specs.Layouts.{storage_width, struct_base}
use Rattle.gc_view.specs.Heaps.{HeapObject}
use Rattle.gc_view.specs.Slots.{StorageSlot}
use Rattle.gc_model.specs.Values.{Reference, null, small, at, Value, numeric, function, continuation, reference, Object}
use Rattle.gc_model.specs.Forms.{Names, InternedIds, IsIdCode, naming, IsCode, LiesAs, number_at}
use Rattle.gc_model.specs.Holds.{Placing, IsWord}
use Rattle.gc_model.specs.Standing.{Stands, ValuesLie}
use Rattle.gc_model.proofs.ObjectStands.{stands_renamed}

-- each position that is placed before is placed alike after
abbrev pub IsWithin : Placing → Placing → Type 0
IsWithin place place' = (position word : ℕ) → place position ≡ Some word → place' position ≡ Some word

-- what has an id keeps it
abbrev pub KeepsIds : {A : Type 0} → FinMap nat_cmp A → FinMap nat_cmp A → Type 0
KeepsIds {A} old new = (id : ℕ) (x : A) → get old id ≡ Some x → get new id ≡ Some x

-- so it is of each function, and of each continuation
pub record KeepsAllIds (old new : InternedIds) : Type 0 where
  pub functions : KeepsIds old.funcs new.funcs
  pub conts : KeepsIds old.conts new.conts

-- and of positions
pub record AreWithin (names names' : Names) : Type 0 where
  pub places : IsWithin names.place names'.place
  pub ids : KeepsAllIds names.ids names'.ids

pub is_word-more : (place place' : Placing) (r : Reference) (word : ℕ) → IsWithin place place' → IsWord place r word → IsWord place' r word
is_word-more place place' null word within is = is
is_word-more place place' (small n) word within is = is
is_word-more place place' (at p) word within is = within p word is

id_code-more : {A : Type 0} (old new : FinMap nat_cmp A) → KeepsIds old new → (x : A) (code : ℕ) → IsIdCode old x code → IsIdCode new x code
id_code-more old new keeps x code is = record { id = is.id; interned = keeps is.id x is.interned; code_is = is.code_is }

module _ (names names' : Names) (within : AreWithin names names') where
  is_code-more : (v : Value) (code : ℕ) → IsCode names v code → IsCode names' v code
  is_code-more (numeric kind n) code is = is
  is_code-more (function f) code is = id_code-more names.ids.funcs names'.ids.funcs within.ids.functions f code is
  is_code-more (continuation None) code is = is
  is_code-more (continuation (Some c)) code is = id_code-more names.ids.conts names'.ids.conts within.ids.conts c code is
  is_code-more (reference class r) code is = is_word-more names.place names'.place r code within.places is

  pub lies-more : (ty : StorageType) (v : Value) (bytes : List ℕ) (offset : ℕ) → LiesAs names ty v bytes offset → LiesAs names' ty v bytes offset
  lies-more ty v bytes offset lies = record { form = lies.form; code = is_code-more v (number_at (storage_width ty) bytes offset) lies.code }

  pub values_lie-more : (base : ℕ) (slots : List StorageSlot) (values : List Value) (bytes : List ℕ) → ValuesLie names base slots values bytes → ValuesLie names' base slots values bytes
  values_lie-more base slots values bytes lie = record {
    same_count = lie.same_count;
    each = λ i slot value e f. lies-more slot.storage value bytes (slot.offset - base) (lie.each i slot value e f);
  }

  pub stands-more : {D : Type 0} (layouts : Layouts) (types : List Declaration) (o : Object D) (h : HeapObject) → Stands layouts types names o h → Stands layouts types names' o h
  stands-more layouts types o h stands =
      stands_renamed layouts types types names names' o h (λ ty shape declared. declared)
      (λ slots values. values_lie-more (struct_base layouts) slots values h.bytes) stands

-- more positions, and the same ids
pub placed_within : (place place' : Placing) (ids : InternedIds) → IsWithin place place' → AreWithin (naming place ids) (naming place' ids)
placed_within place place' ids within = record { places = within; ids = record { functions = λ id f is. is; conts = λ id c is. is } }
