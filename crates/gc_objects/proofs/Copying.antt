-- Copying the bytes of an array: what is answered, by the handle that was given.
use Rattle.std.proofs.Common.{◌≡◌, ℕ, List, Some, Result, Ok, Err, sym, ◌∙◌, subst}
use Rattle.gc_types.specs.declared.kind.Layouts.{Layouts}
use Rattle.gc_types.specs.declared.value.FieldType.{FieldType}
use Rattle.gc_types.specs.declared.value.StorageType.TheVariants as storage
use Rattle.gc_types.specs.Declarations.{elem_at}
use Rattle.gc_model.specs.Values.{Reference}
use Rattle.gc_model.specs.Table.{Table}
use Rattle.gc_model.specs.Stores.{StoreView}
use Rattle.gc_values.specs.declared.root.GcRootIndex.{GcRootIndex}
use Rattle.gc_values.specs.declared.root.RootFault.{RootFault}
use Rattle.gc_values.specs.declared.root.RootFault.TheVariants as root_fault
use Rattle.gc_values.specs.declared.root.RootedObject.TheVariants as rooted_object
use Rattle.gc_store.specs.Bytes.{NamesBytes, CanCopyBytes, CopiesBytes}
use Rattle.gc_store.specs.Roots.{is_of_store, FindsRoot}
use Rattle.gc_objects.specs.declared.faults.AccessFault.{AccessFault}
use Rattle.gc_objects.specs.declared.faults.AccessFault.TheVariants as fault
use Rattle.gc_objects.specs.declared.places.NamedArray.{NamedArray}
use Rattle.gc_objects.specs.Answered.{Answers, CopiesTo}
use Rattle.gc_objects.specs.Faults.{accessed}
use Rattle.gc_objects.proofs.ArrayLemmas.{ArrayAt, array_found_at, element_here}

-- an array whose elements are of 8 bits
bytes_at : {D : Type 0} (s : StoreView D) (t : Table D) (root : GcRootIndex) (which : NamedArray) (is : ArrayAt s t root which) (element : FieldType) → elem_at t.types which.ty ≡ Some element → element.element_type ≡ storage.I8
    → NamesBytes s t root is.values
bytes_at s t root which is element element_is of_bytes = record {
  position = is.position;
  named = is.named;
  ty = which.ty;
  object_is = is.object_is;
  element = element;
  declared = element_is;
  of_bytes = of_bytes;
}

module _ {D : Type 0} (s : StoreView D) (t : Table D) (root this : GcRootIndex) (same : root ≡ this) (room : ℕ) (bytes : List ℕ) where
  abbrev CopiesBy : GcRootIndex → Result (Unit {0}) AccessFault → Type 0
  CopiesBy handle result = CopiesTo s t handle room bytes result

  here : (result : Result (Unit {0}) AccessFault) → CopiesBy root result → CopiesBy this result
  here result copies = subst (λ (h : GcRootIndex). CopiesBy h result) same copies

  err_copies : {A : Type 0} (Tells : Reference → A → Type 0) (why : RootFault) → Answers s t (is_of_store s root) root Tells (Err why) → CopiesBy root (Err (accessed why))
  err_copies Tells root_fault.WrongStore answers = answers
  err_copies Tells root_fault.Unrooted answers = answers
  err_copies Tells root_fault.RootsFull answers = absurd answers
  err_copies Tells root_fault.Memory answers = absurd answers

  -- it is refused for its root
  pub copies_no_root : {A : Type 0} (Tells : Reference → A → Type 0) (result : Result A RootFault) (why : RootFault) (answer : AccessFault) → result ≡ Err why → answer ≡ accessed why
      → Answers s t (is_of_store s root) root Tells result → CopiesBy this (Err answer)
  copies_no_root Tells result why answer is e answers =
      subst (λ (f : AccessFault). CopiesBy this (Err f)) (sym e)
      (here (Err (accessed why)) (err_copies Tells why (subst (λ (q : Result _ RootFault). Answers s t (is_of_store s root) root Tells q) is answers)))

  module _ (which : NamedArray) (is : ArrayAt s t root which) (element : FieldType) (element_is : elem_at t.types which.ty ≡ Some element) where
    -- or for the type of its elements
    pub copies_no_bytes : ¬ (element.element_type ≡ storage.I8) → CopiesBy this (Err fault.NotI8Array)
    copies_no_bytes other =
        here (Err fault.NotI8Array)
        (record {
          position = is.position;
          named = is.named;
          ty = which.ty;
          values = is.values;
          object_is = is.object_is;
          element = element;
          declared = element_is;
          not_bytes = other;
        })

    module _ (of_bytes : element.element_type ≡ storage.I8) where
      -- or for its length
      pub copies_no_room : ¬ (which.len ≡ room) → CopiesBy this (Err fault.LengthMismatch)
      copies_no_room other = here (Err fault.LengthMismatch) (is.values, (bytes_at s t root which is element element_is of_bytes, λ e. other (is.count ∙ e)))

      -- else the bytes are copied
      pub copies_all : which.len ≡ room → CopiesBytes s t root bytes → CopiesBy this (Ok tt)
      copies_all count copied =
          let names = bytes_at s t root which is element element_is of_bytes in
          here (Ok tt) (is.values, (names, (sym is.count ∙ count, copied is.values names)))

-- bytes may be copied where there is room for all elements
pub may_copy : {D : Type 0} (layouts : Layouts) (s : StoreView D) (root : GcRootIndex) (which : NamedArray) (found : FindsRoot D layouts s root (rooted_object.Array which.ty which.len)) (element : FieldType)
    → elem_at s.types which.ty ≡ Some element → element.element_type ≡ storage.I8 → (room : ℕ) → which.len ≡ room → CanCopyBytes D layouts s root room
may_copy layouts s root which found element declared of_bytes room count =
    let is = array_found_at layouts s root which found in
    record {
      table = found.table;
      holds = found.holds;
      values = is.values;
      bytes = bytes_at s found.table root which is element (element_here layouts s found.table found.holds which.ty element declared) of_bytes;
      same_count = sym is.count ∙ count;
    }
