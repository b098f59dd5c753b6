-- An owned root is made for what a root names, and a scope is left.
use Rattle.std.proofs.Common.{◌≡◌, ℕ, Result, Ok, Err, sym, ◌∙◌, subst}
use Rattle.gc_types.specs.declared.kind.Layouts.{Layouts}
use Rattle.gc_model.specs.Values.{Reference}
use Rattle.gc_model.specs.Table.{Table, leave}
use Rattle.gc_model.specs.OwnedRoots.{own}
use Rattle.gc_model.specs.Stores.{StoreView}
use Rattle.gc_model.specs.Accounts.{Account, HoldsAccount}
use Rattle.gc_values.specs.declared.root.GcRootIndex.{GcRootIndex}
use Rattle.gc_values.specs.declared.root.RootFault.{RootFault}
use Rattle.gc_values.specs.declared.root.RootFault.TheVariants as fault
use Rattle.gc_store.specs.OwnedRoots.{MakesOwned}
use Rattle.gc_store.specs.Roots.{owned_handle, NamesReference}
use Rattle.gc_store.specs.Stores.{IsSameStore}
use Rattle.gc_store.proofs.HandleWords.{named_alone, named_of_store}
use Rattle.gc_lists.specs.declared.fault.ListFault.{ListFault}
use Rattle.gc_lists.specs.Answers.{KeepsRoot}
use Rattle.gc_lists.specs.Faults.{refused}

-- the handle of an owned root by the id of a store that is the same
pub owned_same : {D : Type 0} (s new : StoreView D) (number : ℕ) → IsSameStore s new → owned_handle s number ≡ owned_handle new number
owned_same s new number same = λ i. record (owned_handle s number) { store_id = record { engine = sym same.engine i; number = sym same.number i } }

module _ {D : Type 0} (layouts : Layouts) (s : StoreView D) (t : Table D) (a : Account) (handle : GcRootIndex) where
  module _ (made : GcRootIndex) (mid new : StoreView D) (scope : ℕ) (r : Reference) (named : NamesReference s t handle r) where
    pub root_kept : (result : Result GcRootIndex RootFault) → result ≡ Ok made → HoldsAccount layouts s t a → MakesOwned layouts s t a handle result mid → IsSameStore mid new
        → ((u : Table D) → HoldsAccount layouts mid u a → HoldsAccount layouts new (leave scope u) a) → KeepsRoot layouts t a r (leave scope) (Ok made) new
    root_kept result is holds makes same leaves =
        let owned = subst (λ (x : Result GcRootIndex RootFault). MakesOwned layouts s t a handle x mid) is makes in
        let one : owned.reference ≡ r = named_alone layouts s t holds.place holds.holds handle owned.reference r owned.named named in
        (owned.room, (owned.made_is ∙ owned_same mid new t.owns same, leaves (own r t) (subst (λ (q : Reference). HoldsAccount layouts mid (own q t) a) one owned.holds)))

  module _ (why : RootFault) (mid new : StoreView D) (scope : ℕ) (r : Reference) (named : NamesReference s t handle r) where
    refuses : (f : RootFault) → MakesOwned layouts s t a handle (Err f) mid → ((u : Table D) → HoldsAccount layouts mid u a → HoldsAccount layouts new (leave scope u) a)
        → KeepsRoot layouts t a r (leave scope) (Err (refused f)) new
    refuses fault.WrongStore makes leaves = absurd (cc (sym makes.0 ∙ named_of_store s t handle r named))
    refuses fault.Unrooted makes leaves = absurd (makes.1.0 r named)
    refuses fault.RootsFull makes leaves = (makes.1.1.0, leaves t makes.1.1.1)
    refuses fault.Memory makes leaves = leaves t makes

    pub root_refused : (result : Result GcRootIndex RootFault) → result ≡ Err why → MakesOwned layouts s t a handle result mid
        → ((u : Table D) → HoldsAccount layouts mid u a → HoldsAccount layouts new (leave scope u) a) → (answer : ListFault) → answer ≡ refused why
        → KeepsRoot layouts t a r (leave scope) (Err answer) new
    root_refused result is makes leaves answer told =
        subst (λ (f : ListFault). KeepsRoot layouts t a r (leave scope) (Err f) new) (sym told)
        (refuses why (subst (λ (x : Result GcRootIndex RootFault). MakesOwned layouts s t a handle x mid) is makes) leaves)
