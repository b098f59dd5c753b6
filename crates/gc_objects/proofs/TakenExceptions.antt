-- What a pending exception that is taken is named by.
use Rattle.std.proofs.Common.{◌≡◌, Result, Ok, Option, Some, sym, ap, ◌∙◌, subst}
use Rattle.gc_types.specs.declared.kind.Layouts.{Layouts}
use Rattle.gc_types.specs.declared.kind.VMGcKind.TheVariants as kinds
use Rattle.gc_model.specs.Values.{Reference}
use Rattle.gc_model.specs.Table.{Table, push}
use Rattle.gc_model.specs.Pending.{take_pending}
use Rattle.gc_model.specs.Stores.{StoreView}
use Rattle.gc_model.specs.Accounts.{Account, HoldsAccount}
use Rattle.gc_values.specs.declared.root.GcRootIndex.{GcRootIndex}
use Rattle.gc_values.specs.declared.root.RootFault.{RootFault}
use Rattle.gc_store.specs.Roots.{NamesScoped}
use Rattle.gc_store.specs.Thrown.{AnswersPending, TakesPending}
use Rattle.gc_store.specs.Kinds.{IsReferenceOfKind, IsScopedOfKind}
use Rattle.gc_objects.proofs.Pushed.{are_before, names_pushed}
use Rattle.gc_objects.proofs.Pushing.{held_table}

-- what a handle names doesn't hang on what is pending
names_taken : {D : Type 0} (t : Table D) (new : StoreView D) (handle : GcRootIndex) (r : Reference) → NamesScoped new t handle r → NamesScoped new (take_pending t) handle r
names_taken t new handle r scoped = record {
  serial = scoped.serial;
  names = record { push = scoped.names.push; pushed = scoped.names.pushed; is = scoped.names.is };
  live = scoped.live;
}

-- the root of an exception that was taken is of one
pub taken_kind : {D : Type 0} (layouts : Layouts) (old new : StoreView D) (t : Table D) (a : Account) → HoldsAccount layouts old t a
    → (handle : GcRootIndex) → TakesPending layouts t a handle new → IsScopedOfKind D layouts new kinds.ExnRef handle
taken_kind {D} layouts old new t a holds handle is =
    let thrown = holds.holds.pending.thrown is.root is.was_pending in
    let after : Table D = take_pending (push is.root t) in
    record {
      table = after;
      holds = held_table layouts new after a is.holds;
      root = is.root;
      named =
          names_taken (push is.root t) new handle is.root
          (subst (λ (h : GcRootIndex). NamesScoped new (push is.root t) h is.root) (sym is.handle_is) (names_pushed t (are_before layouts old t (held_table layouts old t a holds)) new is.root));
      of_kind = subst (IsReferenceOfKind kinds.ExnRef after) (sym thrown.reference_is) (_, (thrown.object_is, (λ i. kinds.ExnRef)));
    }

-- the answer of the store's call where one was pending
pub taken : {D : Type 0} (layouts : Layouts) (t : Table D) (a : Account) (new : StoreView D) (result : Result (Option GcRootIndex) RootFault) (root handle : GcRootIndex) → result ≡ Ok (Some root) → handle ≡ root
    → AnswersPending layouts t a result new → TakesPending layouts t a handle new
taken layouts t a new result root handle is index answers =
    subst (λ (q : Result (Option GcRootIndex) RootFault). AnswersPending layouts t a q new) (is ∙ ap (λ (h : GcRootIndex). Ok (Some h)) (sym index)) answers
