-- All values of an object are left, where an iterator of them is made.
use Rattle.std.proofs.Common.{◌≡◌, ℕ, ◌≤◌, ◌<◌, Result, Err, sym, ap, ◌∙◌, refl, subst, arith}
use Rattle.gc_types.specs.declared.kind.Layouts.{Layouts}
use Rattle.std.specs.Prelude.{MatchResult}
use Rattle.gc_model.specs.Values.{Reference, at}
use Rattle.gc_model.specs.Reach.{object_values}
use Rattle.gc_model.specs.Stores.{StoreView}
use Rattle.gc_model.specs.Table.{Table}
use Rattle.gc_model.specs.Accounts.{Account, HoldsAccount}
use Rattle.gc_values.specs.declared.root.GcRootIndex.{GcRootIndex}
use Rattle.gc_values.specs.declared.root.RootFault.{RootFault}
use Rattle.gc_values.specs.declared.root.RootFault.TheVariants as root_fault
use Rattle.gc_store.specs.RootRoom.{roots_left}
use Rattle.gc_store.specs.Roots.{is_of_store}
use Rattle.gc_store.proofs.SpareLemmas.{roomy, holds_roomy}
use Rattle.gc_objects.specs.declared.faults.AccessFault.{AccessFault}
use Rattle.gc_objects.specs.declared.faults.AccessFault.TheVariants as fault
use Rattle.gc_objects.specs.declared.values.Values.{Values}
use Rattle.gc_objects.specs.Answered.{Answers}
use Rattle.gc_objects.specs.Faults.{accessed}
use Rattle.gc_objects.specs.ValueLends.{left_to}
use Rattle.gc_objects.specs.ValueRuns.{HasCounts, ValueRun, run_of, HasLeft, CanGive, LeavesAll, RefusesValues}
use Rattle.gc_objects.proofs.LaterNames.{named_same}

module _ {D : Type 0} (layouts : Layouts) (s : StoreView D) (root : GcRootIndex) (len references : ℕ) where
  module _ (t : Table D) (a : Account) (holds : HoldsAccount layouts s t a) (has : HasCounts s t root len references) where
    left_from : (n : ℕ) → HasLeft layouts (run_of (roomy s n) root 0 len) t a (object_values has.names.object)
    left_from n = record {
      holds = holds_roomy layouts s n t a holds;
      names = record {
        position = has.names.position;
        named = named_same s (roomy s n) (record { engine = refl; number = refl; counter = refl }) t root (at has.names.position) has.names.named;
        object = has.names.object;
        object_is = has.names.object_is;
      };
      len_is = has.len_is;
      within = omega (arith);
      left_is = refl;
    }

    -- so whatever names the iterator
    left_in : (n : ℕ) (run : ValueRun D) → run ≡ run_of (roomy s n) root 0 len → HasLeft layouts run t a (object_values has.names.object)
    left_in n run is = subst (λ (r : ValueRun D). HasLeft layouts r t a (object_values has.names.object)) (sym is) (left_from n)

    pub leaves_all : (n : ℕ) (run : ValueRun D) → run ≡ run_of (roomy s n) root 0 len → references ≤ roots_left t → LeavesAll layouts s t a root run
    leaves_all n run is may = record {
      names = has.names;
      all = left_in n run is;
      may_root = let counted = has.references_are in omega (arith, may, counted);
    }

    pub can_give : (n : ℕ) (run : ValueRun D) → run ≡ run_of (roomy s n) root 0 len → references ≤ roots_left t → references ≤ n → CanGive D layouts run
    can_give n run is may room = record {
      table = t;
      account = a;
      left = object_values has.names.object;
      has = left_in n run is;
      may_root = let counted = has.references_are in omega (arith, may, counted);
      room = let counted = has.references_are in let spare : run.store.spare ≡ n = ap (λ (r : ValueRun D). r.store.spare) is in omega (arith, room, counted, spare);
    }

-- the iterator that was made is the one of the values
pub run_is : {D : Type 0} (s mid now : StoreView D) (root root' : GcRootIndex) (next len len' : ℕ) (n : ℕ) → now ≡ mid → mid ≡ roomy s n → root' ≡ root → next ≡ 0 → len' ≡ len → run_of now root' next len' ≡ run_of (roomy s n) root 0 len
run_is s mid now root root' next len len' n now_is mid_is root_is next_is len_is =
    let store_is : now ≡ roomy s n = now_is ∙ mid_is in
    λ i. run_of (store_is i) (root_is i) (next_is i) (len_is i)

pub may_root : {D : Type 0} (t : Table D) (references left : ℕ) → left ≡ roots_left t → references ≤ left → references ≤ roots_left t
may_root t references left is few = omega (arith, is, few)

-- why there is no iterator of them
module _ {D : Type 0} (s : StoreView D) (t : Table D) (root : GcRootIndex) (len references : ℕ) (has : HasCounts s t root len references) (left : ℕ) (left_is : left ≡ roots_left t) where
  pub too_many : left < references → RefusesValues s t root fault.RootsFull
  too_many many = (has.names, (let counted = has.references_are in omega (arith, counted, left_is, many)))

  pub no_room : references ≤ left → s.spare < references → RefusesValues s t root fault.Memory
  no_room may lacks = (has.names, ((let counted = has.references_are in omega (arith, counted, left_is, may)), (let counted = has.references_are in omega (arith, counted, lacks))))

-- a refusal of the root is one of the values
err_values : {D A : Type 0} (s : StoreView D) (t : Table D) (handle : GcRootIndex) (Tells : Reference → A → Type 0) (why : RootFault) → Answers s t (is_of_store s handle) handle Tells (Err why) → RefusesValues s t handle (accessed why)
err_values s t handle Tells root_fault.WrongStore answers = answers
err_values s t handle Tells root_fault.Unrooted answers = answers
err_values s t handle Tells root_fault.RootsFull answers = absurd answers
err_values s t handle Tells root_fault.Memory answers = absurd answers

pub no_values : {D A : Type 0} (s : StoreView D) (root this : GcRootIndex) → root ≡ this → (t : Table D) (Tells : Reference → A → Type 0) (result : Result A RootFault) (why : RootFault) (answer : AccessFault) → result ≡ Err why → answer ≡ accessed why
    → Answers s t (is_of_store s root) root Tells result → RefusesValues s t this answer
no_values s root this same t Tells result why answer is e answers =
    subst (λ (f : AccessFault). RefusesValues s t this f) (sym e)
    (subst (λ (h : GcRootIndex). RefusesValues s t h (accessed why)) same
    (err_values s t root Tells why (subst (λ (q : Result _ RootFault). Answers s t (is_of_store s root) root Tells q) is answers)))

-- the values of a root are those of the handle that was given
abbrev pub ReadsValues : {H D S : Type 0} → Layouts → StoreView D → Table D → Account → Result (Values H D S) AccessFault → GcRootIndex → Type 0
ReadsValues layouts s t a result handle = MatchResult result (λ values. LeavesAll layouts s t a handle (left_to values)) (λ why. RefusesValues s t handle why)

pub reads_values : {H D S : Type 0} (layouts : Layouts) (s : StoreView D) (t : Table D) (a : Account) (result : Result (Values H D S) AccessFault) (root this : GcRootIndex) → root ≡ this → ReadsValues layouts s t a result root → ReadsValues layouts s t a result this
reads_values layouts s t a result root this same reads = subst (ReadsValues layouts s t a result) same reads
