-- A request or a value that is refused before the heap is asked, as no ids are left for its function values or continuations or
-- memory was wanting.
use Rattle.std.specs.Prelude.{nat_lt}
use Rattle.std.proofs.Common.{◌≡◌, ℕ, [], ◌∷◌, inl, length, Option, Err, refl, sym, ap, ◌∙◌, subst}
use Rattle.gc_types.specs.declared.kind.Layouts.{Layouts}
use Rattle.gc_model.specs.Values.{Object, object_values}
use Rattle.gc_model.specs.Table.{Table}
use Rattle.gc_model.specs.SideValues.{InternedBy, InternedIds, SideValues, conts_full, functions_full, max_entries, same_cont, same_function, side_values, with_side_values}
use Rattle.gc_model.specs.Allocation.{Limits}
use Rattle.gc_model.specs.Stores.{StoreView}
use Rattle.gc_model.proofs.HoldsInterned.{with_ids}
use Rattle.gc_model.specs.Accounts.{Account, HoldsAccount}
use Rattle.gc_model.specs.Policy as policy
use Rattle.gc_model.specs.Policy.{policy_state}
use Rattle.gc_values.specs.declared.faults.PlaceFault.{PlaceFault}
use Rattle.gc_values.specs.declared.faults.PlaceFault.TheVariants as fault
use Rattle.gc_values.specs.declared.interned.InternedValues.{InternedValues}
use Rattle.gc_values.specs.Interning.{FindsRoom, HaveAllIdsLeft, InternsGiven, ids_of}
use Rattle.gc_store.specs.Places.{HasIds, Places}
use Rattle.gc_values.proofs.GivenValues.{most_left, most_passed}
use Rattle.gc_store.proofs.StandingValues.{past_conts, past_functions}
use Rattle.gc_values.specs.declared.root.GcRootIndex.{GcRootIndex}
use Rattle.gc_values.specs.declared.root.RawValue.{RawValue}
use Rattle.gc_values.specs.declared.faults.WriteFault.{WriteFault}
use Rattle.gc_values.specs.declared.faults.WriteFault.TheVariants as write_fault
use Rattle.gc_store.specs.Values.{WritesValue}
use Rattle.gc_values.specs.RawValues.{raw_side_values}

-- the same ids
pub same_held : {D : Type 0} (layouts : Layouts) (s : StoreView D) (t : Table D) (a : Account) → HoldsAccount layouts s t a → (ids : InternedIds) → ids ≡ s.ids → HoldsAccount layouts (with_ids ids s) t a
same_held layouts s t a holds ids same = subst (λ (m : InternedIds). HoldsAccount layouts (with_ids m s) t a) (sym same) holds

module _ {D : Type 0} (t : Table D) (o : Object D) (given : SideValues) (same_values : with_side_values given t.interned ≡ with_side_values (side_values (object_values o)) t.interned) where
  -- the object's values are as many as those that are given
  functions_told : functions_full (side_values (object_values o)) t.interned ≡ functions_full given t.interned
  functions_told = ap (λ (w : SideValues). nat_lt max_entries (length w.funcs)) (sym same_values)

  conts_told : conts_full (side_values (object_values o)) t.interned ≡ conts_full given t.interned
  conts_told = ap (λ (w : SideValues). nat_lt max_entries (length w.conts)) (sym same_values)

  -- where ids are left for them the object has its
  pub left_ids : (ids : InternedIds) → InternedBy t.interned ids → HaveAllIdsLeft ids given → HasIds o t
  left_ids ids by left = record {
    functions = functions_told ∙ most_left same_function ids.funcs given.funcs t.interned.funcs left.functions by.funcs;
    conts = conts_told ∙ most_left same_cont ids.conts given.conts t.interned.conts left.conts by.conts;
  }

module _ {D : Type 0} (layouts : Layouts) (counter : Option ℕ) (s : StoreView D) (t : Table D) (a : Account) (limits : Limits) (holds : HoldsAccount layouts s t a) where
  module _ (o : Object D) (given : SideValues) (same_values : with_side_values given t.interned ≡ with_side_values (side_values (object_values o)) t.interned) (old new : InternedValues) (ids : ids_of old ≡ s.ids) where
    -- what was interned has these ids
    held_ids : InternedBy t.interned (ids_of old)
    held_ids = subst (InternedBy t.interned) (sym ids) holds.holds.interned

    pub refused_ids : (e : PlaceFault) → FindsRoom old new given (Err e) → Places layouts counter o (policy_state t a limits) limits (Err e) (with_ids (ids_of new) s)
    refused_ids fault.FuncTableFull (same, past) = (
      functions_told t o given same_values ∙ most_passed same_function old.functions.entries given.funcs t.interned.funcs past held_ids.funcs,
      record { holds = same_held layouts s t a holds (ids_of new) (same ∙ ids); limits = refl },
    )
    refused_ids fault.ContTableFull (same, (few, past)) = (
      conts_told t o given same_values ∙ most_passed same_cont old.conts.entries given.conts t.interned.conts past held_ids.conts,
      record { holds = same_held layouts s t a holds (ids_of new) (same ∙ ids); limits = refl },
      functions_told t o given same_values ∙ most_left same_function old.functions.entries given.funcs t.interned.funcs few held_ids.funcs,
    )
    refused_ids fault.TooLarge is = absurd is
    refused_ids fault.RootsFull is = absurd is
    refused_ids (fault.HeapOutOfMemory f) is = absurd is
    refused_ids fault.Memory same = record {
      after = policy_state t a limits;
      prepared = policy.not_begun;
      begun = inl refl;
      pages = inl refl;
      holds = same_held layouts s t a holds (ids_of new) (same ∙ ids);
      limits = refl;
    }

-- A value that is refused, as no id is left for it or memory was wanting.
pub refused_value : {D : Type 0} (layouts : Layouts) (s : StoreView D) (t : Table D) (a : Account) → HoldsAccount layouts s t a → (handle : GcRootIndex) (index : ℕ) (r : RawValue) (ids : InternedIds) (e : WriteFault) → InternsGiven s.ids ids (raw_side_values (r ∷ [])) (Err e)
    → WritesValue layouts s (with_ids ids s) t a handle index r (Err e)
refused_value layouts s t a holds handle index r ids write_fault.FuncTableFull (same, past) = (past_functions s t r holds.holds.interned past, same_held layouts s t a holds ids same)
refused_value layouts s t a holds handle index r ids write_fault.ContTableFull (same, past) = (past_conts s t r holds.holds.interned past, same_held layouts s t a holds ids same)
refused_value layouts s t a holds handle index r ids write_fault.Memory same = same_held layouts s t a holds ids same
