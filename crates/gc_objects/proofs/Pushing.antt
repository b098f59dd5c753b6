-- New scoped roots, by typed handles.
use Rattle.std.proofs.Common.{◌≡◌, ℕ, Result, Ok, sym, ap, ◌∙◌, subst}
use Rattle.gc_types.specs.declared.kind.Layouts.{Layouts}
use Rattle.gc_types.specs.declared.kind.VMGcKind.TheVariants as kinds
use Rattle.gc_model.specs.Values.{Reference, small}
use Rattle.gc_model.specs.Table.{Table, push}
use Rattle.gc_model.specs.Stores.{StoreView}
use Rattle.gc_model.specs.Holds.{HoldsTable}
use Rattle.gc_model.specs.Accounts.{Account, HoldsAccount}
use Rattle.gc_values.specs.declared.root.GcRootIndex.{GcRootIndex}
use Rattle.gc_values.specs.declared.root.RootFault.{RootFault}
use Rattle.gc_rooted.specs.declared.rooted.Rooted.{Rooted}
use Rattle.gc_store.specs.Handles.{PushesRoot}
use Rattle.gc_store.specs.Roots.{NamesScoped}
use Rattle.gc_store.specs.Kinds.{IsScopedOfKind}
use Rattle.gc_objects.specs.Answered.{PushesHandle}
use Rattle.gc_objects.proofs.Pushed.{are_before, names_pushed}

-- a store that has an account holds the table
pub held_table : {D : Type 0} (layouts : Layouts) (s : StoreView D) (t : Table D) (a : Account) → HoldsAccount layouts s t a → HoldsTable layouts s t
held_table layouts s t a holds = (holds.place, holds.holds)

-- a root that was pushed is that of a typed handle
pub pushes_handle : {D T : Type 0} (layouts : Layouts) (t : Table D) (a : Account) (r : Reference) (new : StoreView D) (result : Result GcRootIndex RootFault) (root : GcRootIndex) (handle : Rooted T) → result ≡ Ok root → handle.index ≡ root
    → PushesRoot layouts t a r result new → PushesHandle layouts t a r (Ok handle) new
pushes_handle layouts t a r new result root handle is index pushes =
    subst (λ (q : Result GcRootIndex RootFault). PushesRoot layouts t a r q new) (is ∙ ap Ok (sym index)) pushes

-- the root of a 31-bit number that was pushed is one of class any
pub pushed_number : {D : Type 0} (layouts : Layouts) (old new : StoreView D) (t : Table D) (a : Account) → HoldsAccount layouts old t a → (n : ℕ) (result : Result GcRootIndex RootFault) (root : GcRootIndex) → result ≡ Ok root
    → PushesRoot layouts t a (small n) result new → IsScopedOfKind D layouts new kinds.AnyRef root
pushed_number layouts old new t a holds n result root is pushes =
    let ok : PushesRoot layouts t a (small n) (Ok root) new = subst (λ (q : Result GcRootIndex RootFault). PushesRoot layouts t a (small n) q new) is pushes in
    record {
      table = push (small n) t;
      holds = held_table layouts new (push (small n) t) a ok.1.1;
      root = small n;
      named = subst (λ (h : GcRootIndex). NamesScoped new (push (small n) t) h (small n)) (sym ok.1.0) (names_pushed t (are_before layouts old t (held_table layouts old t a holds)) new (small n));
      of_kind = tt;
    }
