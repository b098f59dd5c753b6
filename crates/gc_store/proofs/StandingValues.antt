-- The function values and continuations of what is given are those of the values that it stands for.
use Rattle.std.proofs.Common.{◌≡◌, suc, Bool, true, false, List, [], ◌∷◌, Some, None, refl, sym, ap, ap₂, ◌∙◌, arith}
use Rattle.gc_model.specs.Values.{Value}
use Rattle.gc_model.specs.SideValues.{InternedBy, SideValues, conts_full, functions_full, same_cont, same_function, side_values}
use Rattle.gc_model.specs.Table.{Table}
use Rattle.gc_model.specs.Stores.{StoreView}
use Rattle.gc_model.proofs.Interned.{side-first, side_joined}
use Rattle.gc_values.specs.declared.root.RawValue.{RawValue}
use Rattle.gc_values.specs.declared.root.RawValue.TheVariants as raw
use Rattle.gc_values.specs.Interning.{HaveAllIdsLeft, PassesIds}
use Rattle.gc_values.specs.RawValues.{raw_side_values}
use Rattle.gc_values.proofs.GivenValues.{most_left, most_passed, raw-first}
use Rattle.gc_store.specs.Values.{RawStands, AllStand, HasId, IsPastIds}

-- the function values and continuations of what is given are those of what it stands for
pub raw-stands : {D : Type 0} (s : StoreView D) (t : Table D) (r : RawValue) (v : Value) → RawStands s t r v → raw_side_values (r ∷ []) ≡ side_values (v ∷ [])
raw-stands s t (raw.I32 n) v is = ap (λ (x : Value). side_values (x ∷ [])) (sym is)
raw-stands s t (raw.I64 n) v is = ap (λ (x : Value). side_values (x ∷ [])) (sym is)
raw-stands s t (raw.F32 n) v is = ap (λ (x : Value). side_values (x ∷ [])) (sym is)
raw-stands s t (raw.F64 n) v is = ap (λ (x : Value). side_values (x ∷ [])) (sym is)
raw-stands s t (raw.V128 n) v is = ap (λ (x : Value). side_values (x ∷ [])) (sym is)
raw-stands s t (raw.Func f) v is = ap (λ (x : Value). side_values (x ∷ [])) (sym is)
raw-stands s t (raw.Cont None) v is = ap (λ (x : Value). side_values (x ∷ [])) (sym is)
raw-stands s t (raw.Cont (Some c)) v is = ap (λ (x : Value). side_values (x ∷ [])) (sym is)
raw-stands s t (raw.Ref class None) v is = ap (λ (x : Value). side_values (x ∷ [])) (sym is)
raw-stands s t (raw.Ref class (Some handle)) v is = ap (λ (x : Value). side_values (x ∷ [])) (sym is.is)

pub all-stand : {D : Type 0} (s : StoreView D) (t : Table D) (raws : List RawValue) (vs : List Value) → AllStand s t raws vs → raw_side_values raws ≡ side_values vs
all-stand s t [] [] all = refl
all-stand s t [] (v ∷ vs) all = absurd (omega (arith, all.same_count))
all-stand s t (r ∷ raws) [] all = absurd (omega (arith, all.same_count))
all-stand s t (r ∷ raws) (v ∷ vs) all =
    raw-first r raws
    ∙ ap₂ side_joined (raw-stands s t r v (all.each 0 r v refl refl)) (all-stand s t raws vs (record { same_count = omega (arith, all.same_count); each = λ i x w e f. all.each (suc i) x w e f }))
    ∙ sym (side-first v vs)

-- so it is of a value, by what is given
module _ {D : Type 0} (s : StoreView D) (t : Table D) (r : RawValue) (by : InternedBy t.interned s.ids) where
  told_ids : (full : SideValues → SideValues → Bool) (answer : Bool) → full (raw_side_values (r ∷ [])) t.interned ≡ answer → IsPastIds full s t r answer
  told_ids full answer is v stands = ap (λ (given : SideValues). full given t.interned) (sym (raw-stands s t r v stands)) ∙ is

  pub within_ids : HaveAllIdsLeft s.ids (raw_side_values (r ∷ [])) → HasId s t r
  within_ids left = record {
    functions = told_ids functions_full false (most_left same_function s.ids.funcs (raw_side_values (r ∷ [])).funcs t.interned.funcs left.functions by.funcs);
    conts = told_ids conts_full false (most_left same_cont s.ids.conts (raw_side_values (r ∷ [])).conts t.interned.conts left.conts by.conts);
  }

  pub past_functions : PassesIds same_function s.ids.funcs (raw_side_values (r ∷ [])).funcs → IsPastIds functions_full s t r true
  past_functions past = told_ids functions_full true (most_passed same_function s.ids.funcs (raw_side_values (r ∷ [])).funcs t.interned.funcs past by.funcs)

  pub past_conts : PassesIds same_cont s.ids.conts (raw_side_values (r ∷ [])).conts → IsPastIds conts_full s t r true
  past_conts past = told_ids conts_full true (most_passed same_cont s.ids.conts (raw_side_values (r ∷ [])).conts t.interned.conts past by.conts)
