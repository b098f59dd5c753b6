-- Registers stand for those of the state in every later store: pushes are only added.
use Rattle.std.proofs.Common.{◌≡◌, ℕ, List, [], ◌∷◌, ◌++◌, Option, Some, None, sym, ap, ◌∙◌, refl, subst}
use Rattle.std.specs.List.{slice_get}
use Rattle.gc_types.specs.declared.kind.Layouts.{Layouts}
use Rattle.gc_model.specs.Table.{Table, Push}
use Rattle.gc_model.specs.Stores.{StoreView}
use Rattle.gc_model.specs.Holds.{HoldsTable}
use Rattle.gc_model.proofs.Lists.{slice_get-push_old}
use Rattle.gc_values.specs.declared.root.GcRootIndex.{GcRootIndex}
use Rattle.gc_values.specs.declared.root.RootSlot.TheVariants as slot
use Rattle.gc_values.specs.declared.root.RawValue.{RawValue}
use Rattle.gc_values.specs.declared.root.RawValue.TheVariants as raw
use Rattle.gc_store.specs.Roots.{NamesSerial}
use Rattle.gc_store.specs.Stores.{IsSameStore}
use Rattle.gc_values.specs.Words.{owned_id}
use Rattle.gc_model.specs.Accounts.{Account, HoldsAccount}
use Rattle.gc_script.specs.Slots.{register_at, RunnerRest, RunnerView, new_runner}
use Rattle.gc_script.specs.State.{State, Held, number, reference, HeldOwned, owned, unrooted, RegisterStands, StandsOwned, HoldsState, begin, with_heap}

-- a store holds the table, whatever its account is
pub holds_table : {D : Type 0} {layouts : Layouts} {s : StoreView D} {t : Table D} {a : Account} → HoldsAccount layouts s t a → HoldsTable layouts s t
holds_table holds = (holds.place, holds.holds)

-- pushes that were there are still there
abbrev pub Keeps : List Push → List Push → Type 0
Keeps before now = (i : ℕ) (p : Push) → slice_get before i ≡ Some p → slice_get now i ≡ Some p

-- one more push keeps those before it
pub keeps_pushed : (before now : List Push) (p : Push) → now ≡ before ++ p ∷ [] → Keeps before now
keeps_pushed before now p is i q e = ap (λ (xs : List Push). slice_get xs i) is ∙ slice_get-push_old before p i q e

-- the same pushes
pub keeps_same : (before now : List Push) → now ≡ before → Keeps before now
keeps_same before now is i q e = ap (λ (xs : List Push). slice_get xs i) is ∙ e

abbrev handle_in : ℕ → ℕ → ℕ → ℕ → GcRootIndex
handle_in engine store_number index generation = record {
  store_id = record { engine = engine; number = store_number };
  generation = generation;
  slot = slot.Scoped index;
}

abbrev owned_in : ℕ → ℕ → ℕ → GcRootIndex
owned_in engine store_number n = record {
  store_id = record { engine = engine; number = store_number };
  generation = n;
  slot = slot.Owned (owned_id n);
}

-- a handle names the same root in the store after
pub names_kept : (s new : StoreView ℕ) (t t' : Table ℕ) (handle : GcRootIndex) (serial : ℕ) → IsSameStore s new → Keeps t.pushes t'.pushes → NamesSerial s t handle serial → NamesSerial new t' handle serial
names_kept s new t t' handle serial same keeps names = record {
  push = names.push;
  pushed = keeps serial names.push names.pushed;
  is = names.is
      ∙ ap (λ e. handle_in e s.number names.push.index names.push.generation) (sym same.engine)
      ∙ ap (λ n. handle_in new.engine n names.push.index names.push.generation) (sym same.number);
}

-- a store is the same as itself
pub same_store : (s : StoreView ℕ) → IsSameStore s s
same_store s = record { engine = refl; number = refl; counter = refl }

-- a store that is the same as one that is the same as another
pub same_twice : (a b c : StoreView ℕ) → IsSameStore a b → IsSameStore b c → IsSameStore a c
same_twice a b c one two = record { engine = two.engine ∙ one.engine; number = two.number ∙ one.number; counter = two.counter ∙ one.counter }

-- what a register holds stands in the store after
pub stands_kept : (s new : StoreView ℕ) (t t' : Table ℕ) (found : Option RawValue) (held : Option Held) → IsSameStore s new → Keeps t.pushes t'.pushes → RegisterStands s t found held → RegisterStands new t' found held
stands_kept s new t t' None None same keeps stands = tt
stands_kept s new t t' None (Some (number v)) same keeps stands = absurd stands
stands_kept s new t t' None (Some (reference c None)) same keeps stands = absurd stands
stands_kept s new t t' None (Some (reference c (Some serial))) same keeps stands = absurd stands
stands_kept s new t t' (Some (raw.I32 n)) None same keeps stands = absurd stands
stands_kept s new t t' (Some (raw.I32 n)) (Some (number v)) same keeps stands = stands
stands_kept s new t t' (Some (raw.I32 n)) (Some (reference c None)) same keeps stands = absurd stands
stands_kept s new t t' (Some (raw.I32 n)) (Some (reference c (Some serial))) same keeps stands = absurd stands
stands_kept s new t t' (Some (raw.I64 n)) None same keeps stands = absurd stands
stands_kept s new t t' (Some (raw.I64 n)) (Some (number v)) same keeps stands = stands
stands_kept s new t t' (Some (raw.I64 n)) (Some (reference c None)) same keeps stands = absurd stands
stands_kept s new t t' (Some (raw.I64 n)) (Some (reference c (Some serial))) same keeps stands = absurd stands
stands_kept s new t t' (Some (raw.F32 n)) None same keeps stands = absurd stands
stands_kept s new t t' (Some (raw.F32 n)) (Some (number v)) same keeps stands = stands
stands_kept s new t t' (Some (raw.F32 n)) (Some (reference c None)) same keeps stands = absurd stands
stands_kept s new t t' (Some (raw.F32 n)) (Some (reference c (Some serial))) same keeps stands = absurd stands
stands_kept s new t t' (Some (raw.F64 n)) None same keeps stands = absurd stands
stands_kept s new t t' (Some (raw.F64 n)) (Some (number v)) same keeps stands = stands
stands_kept s new t t' (Some (raw.F64 n)) (Some (reference c None)) same keeps stands = absurd stands
stands_kept s new t t' (Some (raw.F64 n)) (Some (reference c (Some serial))) same keeps stands = absurd stands
stands_kept s new t t' (Some (raw.V128 n)) None same keeps stands = absurd stands
stands_kept s new t t' (Some (raw.V128 n)) (Some (number v)) same keeps stands = stands
stands_kept s new t t' (Some (raw.V128 n)) (Some (reference c None)) same keeps stands = absurd stands
stands_kept s new t t' (Some (raw.V128 n)) (Some (reference c (Some serial))) same keeps stands = absurd stands
stands_kept s new t t' (Some (raw.Func n)) None same keeps stands = absurd stands
stands_kept s new t t' (Some (raw.Cont cont)) None same keeps stands = absurd stands
stands_kept s new t t' (Some (raw.Func n)) (Some (number v)) same keeps stands = absurd stands
stands_kept s new t t' (Some (raw.Cont cont)) (Some (number v)) same keeps stands = absurd stands
stands_kept s new t t' (Some (raw.Func n)) (Some (reference c None)) same keeps stands = absurd stands
stands_kept s new t t' (Some (raw.Cont cont)) (Some (reference c None)) same keeps stands = absurd stands
stands_kept s new t t' (Some (raw.Func n)) (Some (reference c (Some serial))) same keeps stands = absurd stands
stands_kept s new t t' (Some (raw.Cont cont)) (Some (reference c (Some serial))) same keeps stands = absurd stands
stands_kept s new t t' (Some (raw.Ref c' None)) None same keeps stands = absurd stands
stands_kept s new t t' (Some (raw.Ref c' None)) (Some (number v)) same keeps stands = absurd stands
stands_kept s new t t' (Some (raw.Ref c' None)) (Some (reference c None)) same keeps stands = stands
stands_kept s new t t' (Some (raw.Ref c' None)) (Some (reference c (Some serial))) same keeps stands = absurd stands
stands_kept s new t t' (Some (raw.Ref c' (Some handle))) None same keeps stands = absurd stands
stands_kept s new t t' (Some (raw.Ref c' (Some handle))) (Some (number v)) same keeps stands = absurd stands
stands_kept s new t t' (Some (raw.Ref c' (Some handle))) (Some (reference c None)) same keeps stands = absurd stands
stands_kept s new t t' (Some (raw.Ref c' (Some handle))) (Some (reference c (Some serial))) same keeps stands = (stands.0, names_kept s new t t' handle serial same keeps stands.1)

-- what an owned register holds stands in the store after
pub owned_stands : (s new : StoreView ℕ) (found : Option RawValue) (held : Option HeldOwned) → IsSameStore s new → StandsOwned s found held → StandsOwned new found held
owned_stands s new None None same stands = tt
owned_stands s new (Some (raw.Ref c (Some handle))) (Some (owned c' n)) same stands =
    (stands.0, stands.1 ∙ ap (λ e. owned_in e s.number n) (sym same.engine) ∙ ap (λ m. owned_in new.engine m n) (sym same.number))
owned_stands s new (Some (raw.Ref c None)) (Some unrooted) same stands = tt
owned_stands s new found held same stands = absurd stands

pub owned_kept : (s new : StoreView ℕ) (runner runner' : RunnerView) (o : ℕ) (held : Option HeldOwned) → IsSameStore s new → runner'.rest ≡ runner.rest → StandsOwned s (register_at runner.rest.owned o) held → StandsOwned new (register_at runner'.rest.owned o) held
owned_kept s new runner runner' o held same rest_is stands =
    subst (λ (r : RunnerRest). StandsOwned new (register_at r.owned o) held) (sym rest_is) (owned_stands s new (register_at runner.rest.owned o) held same stands)

-- the registers stand for the same ones in the store after
pub holds_kept : (layouts : Layouts) (s new : StoreView ℕ) (runner runner' : RunnerView) (state : State) (t' : Table ℕ) (a : Account) → IsSameStore s new → Keeps state.table.pushes t'.pushes → ((d : ℕ) → register_at runner'.registers d ≡ register_at runner.registers d) → runner'.rest ≡ runner.rest → HoldsState layouts s runner state → HoldsAccount layouts new t' a → HoldsState layouts new runner' (with_heap t' a state)
holds_kept layouts s new runner runner' state t' a same keeps slots_are rest_is holds table = record {
  table = table;
  registers = λ d. subst (λ (o : Option RawValue). RegisterStands new t' o (state.registers d)) (sym (slots_are d)) (stands_kept s new state.table t' (register_at runner.registers d) (state.registers d) same keeps (holds.registers d));
  owned = λ o. owned_kept s new runner runner' o (state.owned_registers o) same rest_is (holds.owned o);
  marks = ap (λ (r : RunnerRest). r.marks) rest_is ∙ holds.marks;
}

-- so where the table and the account are the same
pub holds_same : (layouts : Layouts) (s new : StoreView ℕ) (runner runner' : RunnerView) (state : State) → IsSameStore s new → ((d : ℕ) → register_at runner'.registers d ≡ register_at runner.registers d) → runner'.rest ≡ runner.rest → HoldsState layouts s runner state → HoldsAccount layouts new state.table state.account → HoldsState layouts new runner' state
holds_same layouts s new runner runner' state same slots_are rest_is holds table = holds_kept layouts s new runner runner' state state.table state.account same (λ i p e. e) slots_are rest_is holds table

-- a store with a new runner is in the state at the beginning
pub begins : (layouts : Layouts) (store : StoreView ℕ) (runner : RunnerView) (t : Table ℕ) (a : Account) → HoldsAccount layouts store t a → runner ≡ new_runner → HoldsState layouts store runner (begin t a)
begins layouts store runner t a holds none = record {
  table = holds;
  registers = λ d. subst (λ (r : RunnerView). RegisterStands store t (register_at r.registers d) None) (sym none) tt;
  owned = λ o. subst (λ (r : RunnerView). StandsOwned store (register_at r.rest.owned o) None) (sym none) tt;
  marks = ap (λ (r : RunnerView). r.rest.marks) none;
}

-- what a register of the runner holds stands for that of the state
pub register_held : (layouts : Layouts) (store : StoreView ℕ) (runner view : RunnerView) (s : State) (r : ℕ) (value : Option RawValue) → view ≡ runner → value ≡ register_at view.registers r → HoldsState layouts store runner s → RegisterStands store s.table value (s.registers r)
register_held layouts store runner view s r value same is holds =
    subst (λ (o : Option RawValue). RegisterStands store s.table o (s.registers r)) (sym (is ∙ ap (λ (x : RunnerView). register_at x.registers r) same)) (holds.registers r)
