-- A register that is set, and the root that it names.
use Rattle.std.proofs.Common.{◌≡◌, ◌≢◌, ℕ, ◌==◌, List, [], ◌∷◌, ◌++◌, length, Option, Some, true, false, cond, sym, ap, ◌∙◌, refl, subst, arith}
use Rattle.std.specs.List.{slice_get}
use Rattle.std.proofs.lemmas.Bool.Decides.{nat_tests}
use Rattle.gc_types.specs.declared.kind.Layouts.{Layouts}
use Rattle.gc_owner.specs.declared.entry.GcClass.{GcClass}
use Rattle.gc_model.specs.Table.{Table, Push}
use Rattle.gc_model.specs.Stores.{StoreView}
use Rattle.gc_model.proofs.Lists.{slice_get-push_new}
use Rattle.gc_values.specs.declared.root.GcRootIndex.{GcRootIndex}
use Rattle.gc_values.specs.declared.root.RawValue.{RawValue}
use Rattle.gc_values.specs.declared.root.RawValue.TheVariants as raw
use Rattle.gc_store.specs.Roots.{NamesSerial, handle_of}
use Rattle.gc_store.specs.Stores.{IsSameStore}
use Rattle.gc_model.specs.Accounts.{Account, HoldsAccount}
use Rattle.gc_script.specs.Slots.{register_at, RunnerRest, RunnerView}
use Rattle.gc_script.specs.State.{State, Held, reference, RegisterStands, HoldsState, with_heap, set_register}
use Rattle.gc_script.proofs.StandLemmas.{Keeps, keeps_pushed, owned_kept, holds_kept}

-- the push that a new scoped root is
abbrev pub next_push : Table ℕ → Push
next_push t = record { index = length t.scoped; generation = t.drops }

-- the handle of a root that was just pushed names it
pub pushed_names : (new : StoreView ℕ) (t t' : Table ℕ) (handle : GcRootIndex) → t'.pushes ≡ t.pushes ++ next_push t ∷ [] → handle ≡ handle_of new (length t.scoped) t.drops → NamesSerial new t' handle (length t.pushes)
pushed_names new t t' handle pushes is = record {
  push = next_push t;
  pushed = ap (λ (ps : List Push). slice_get ps (length t.pushes)) pushes ∙ slice_get-push_new t.pushes (next_push t);
  is = is;
}

set_stands : (new : StoreView ℕ) (t' : Table ℕ) (slots slots' : List (Option RawValue)) (registers : ℕ → Option Held) (d : ℕ) (value : RawValue) (held : Held) → RegisterStands new t' (Some value) (Some held) → register_at slots' d ≡ Some value → ((k : ℕ) → k ≢ d → register_at slots' k ≡ register_at slots k) → ((k : ℕ) → RegisterStands new t' (register_at slots k) (registers k)) → (k : ℕ) → RegisterStands new t' (register_at slots' k) (cond (k == d) (Some held) (registers k))
set_stands new t' slots slots' registers d value held stands set others stand k =
    elim (k == d) as (λ b. (k == d) ≡ b → RegisterStands new t' (register_at slots' k) (cond b (Some held) (registers k))) [
      | true ↦ λ e.
          let is : k ≡ d = grind (arith, nat_tests, e) in
          subst (λ (o : Option RawValue). RegisterStands new t' o (Some held)) (sym (ap (register_at slots') is ∙ set)) stands
      | false ↦ λ e.
          let is_not : k ≢ d = λ is. grind (arith, nat_tests, e, is) in
          subst (λ (o : Option RawValue). RegisterStands new t' o (registers k)) (sym (others k is_not)) (stand k)
    ] refl

-- a register was set to what stands in the store after
pub holds_set : (layouts : Layouts) (old new : StoreView ℕ) (runner runner' : RunnerView) (s : State) (t' : Table ℕ) (a : Account) (d : ℕ) (value : RawValue) (held : Held) → IsSameStore old new → Keeps s.table.pushes t'.pushes → HoldsState layouts old runner s → HoldsAccount layouts new t' a → RegisterStands new t' (Some value) (Some held) → register_at runner'.registers d ≡ Some value → ((k : ℕ) → k ≢ d → register_at runner'.registers k ≡ register_at runner.registers k) → runner'.rest ≡ runner.rest → HoldsState layouts new runner' (set_register d held (with_heap t' a s))
holds_set layouts old new runner runner' s t' a d value held same keeps holds table stands set others rest_is =
    let mid = holds_kept layouts old new runner runner s t' a same keeps (λ k. refl) refl holds table in
    record {
      table = table;
      registers = set_stands new t' runner.registers runner'.registers s.registers d value held stands set others mid.registers;
      owned = λ o. owned_kept old new runner runner' o (s.owned_registers o) same rest_is (holds.owned o);
      marks = ap (λ (r : RunnerRest). r.marks) rest_is ∙ holds.marks;
    }

-- so of the handle of a root that was just pushed
pub holds_pushed : (layouts : Layouts) (old new : StoreView ℕ) (runner runner' : RunnerView) (s : State) (t' : Table ℕ) (a : Account) (d : ℕ) (class : GcClass) (handle : GcRootIndex) → IsSameStore old new → t'.pushes ≡ s.table.pushes ++ next_push s.table ∷ [] → HoldsState layouts old runner s → HoldsAccount layouts new t' a → handle ≡ handle_of new (length s.table.scoped) s.table.drops → register_at runner'.registers d ≡ Some (raw.Ref class (Some handle)) → ((k : ℕ) → k ≢ d → register_at runner'.registers k ≡ register_at runner.registers k) → runner'.rest ≡ runner.rest → HoldsState layouts new runner' (set_register d (reference class (Some (length s.table.pushes))) (with_heap t' a s))
holds_pushed layouts old new runner runner' s t' a d class handle same pushes holds table is set others rest_is =
    holds_set layouts old new runner runner' s t' a d (raw.Ref class (Some handle)) (reference class (Some (length s.table.pushes))) same
    (keeps_pushed s.table.pushes t'.pushes (next_push s.table) pushes) holds table
    (refl, pushed_names new s.table t' handle pushes is) set others rest_is
