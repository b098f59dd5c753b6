-- The cell that a version names, and what its values are read as.
use Rattle.std.proofs.Common.{◌≡◌, ℕ, ℤ, List, [], ◌∷◌, Option, Some, None, Result, Ok, Err, inr, refl, sym, ap, ◌∙◌, subst, arith}
use Rattle.std.specs.Int.{w64, cast_signed, cast_unsigned}
use Rattle.std.specs.Prelude.{FitsSigned}
use Rattle.std.proofs.lemmas.Int.{to_z-of_z}
use Rattle.gc_types.specs.declared.kind.Layouts.{Layouts}
use Rattle.gc_owner.specs.declared.entry.GcClass.TheVariants.{Any}
use Rattle.gc_model.specs.Values.{Reference, null, numeric, i64, reference, number_bits}
use Rattle.gc_model.specs.Table.{Table}
use Rattle.gc_model.specs.Stores.{StoreView}
use Rattle.gc_model.specs.Holds.{HoldsTable}
use Rattle.gc_model.specs.Accounts.{Account, HoldsAccount}
use Rattle.gc_values.specs.declared.root.GcRootIndex.{GcRootIndex}
use Rattle.gc_values.specs.declared.root.RawValue.{RawValue}
use Rattle.gc_values.specs.declared.root.RootFault.{RootFault}
use Rattle.gc_values.specs.declared.root.RootFault.TheVariants as root_fault
use Rattle.gc_store.specs.Roots.{NamesReference, HasValue, CanRead}
use Rattle.gc_store.specs.Values.{ReadsValue, IsReadAs}
use Rattle.gc_store.proofs.HandleWords.{named_held}
use Rattle.gc_lists.specs.Cells.{cell, number_in, number_of}
use Rattle.gc_lists.specs.Lists.{IsList}
pub use Rattle.gc_lists.specs.Progress.{NamesCell}
use Rattle.gc_lists.specs.Versions.{StandsForList, VersionNames}

module _ {D : Type 0} (layouts : Layouts) (s : StoreView D) (t : Table D) (holds : HoldsTable layouts s t) (handle : GcRootIndex) where
  -- no root is null
  pub never_null : NamesReference s t handle null → ⊥
  never_null named = let word = named_held layouts s t holds.0 holds.1 handle null named in absurd (omega (arith, word.1.0, word.1.1))

  pub first_cell : (r : Reference) (xs : List ℤ) → NamesReference s t handle r → IsList t.types t.objects r xs → NamesCell s t handle xs
  first_cell r [] named is = absurd (never_null (subst (NamesReference s t handle) is named))
  first_cell r (x ∷ xs) named is = record {
    reference = r;
    number = x;
    rest = xs;
    next = is.0;
    cell = is.1.0;
    after = is.1.1;
    whole = refl;
    named = subst (NamesReference s t handle) is.1.0.named named;
  }

  -- a version that isn't empty names one
  pub version_cell : (version : Option GcRootIndex) (xs : List ℤ) → version ≡ Some handle → StandsForList s t version xs → NamesCell s t handle xs
  version_cell version xs some stands =
      first_cell stands.reference xs (inr (subst (λ (v : Option GcRootIndex). VersionNames s t v stands.reference) some stands.names)) stands.is

module _ {D : Type 0} (s : StoreView D) (t : Table D) (handle : GcRootIndex) (xs : List ℤ) (names : NamesCell s t handle xs) where
  pub has_number : HasValue s t handle 0 (numeric i64 names.cell.bits)
  has_number = record { position = names.cell.position; named = names.named; object = cell names.cell.ty names.cell.bits names.next; object_is = names.cell.object_is; value_at = refl }

  pub has_next : HasValue s t handle 1 (reference Any names.next)
  has_next = record { position = names.cell.position; named = names.named; object = cell names.cell.ty names.cell.bits names.next; object_is = names.cell.object_is; value_at = refl }

  pub can_read_number : (layouts : Layouts) → HoldsTable layouts s t → CanRead D layouts s handle 0
  can_read_number layouts holds = record { table = t; holds = holds; value = numeric i64 names.cell.bits; has = has_number }

  pub can_read_next : (layouts : Layouts) → HoldsTable layouts s t → CanRead D layouts s handle 1
  can_read_next layouts holds = record { table = t; holds = holds; value = reference Any names.next; has = has_next }

-- the bits of a number tell it
pub from_bits : (z : ℤ) → FitsSigned w64 z → number_of (number_bits w64 z) ≡ z
from_bits z fits = ap (λ y. cast_signed w64 (cast_unsigned w64 y)) (to_z-of_z w64 z fits) ∙ to_z-of_z w64 z fits

pub back : (z : ℤ) → FitsSigned w64 z → cast_signed w64 (cast_unsigned w64 z) ≡ z
back z fits = to_z-of_z w64 z fits

-- a number of that many bits is read as the cell's
pub number_read : {D : Type 0} (new : StoreView D) (t : Table D) (bits : ℕ) (value : RawValue) (x n : ℤ) → IsReadAs new t (numeric i64 bits) value → x ≡ number_of bits → n ≡ number_in value → FitsSigned w64 n → n ≡ x
number_read new t bits value x n read is told fits =
    let same : n ≡ read.0 = told ∙ ap number_in read.1.0 in
    let bits_is : bits ≡ number_bits w64 n = read.1.1 ∙ ap (number_bits w64) (sym same) in
    sym (is ∙ ap number_of bits_is ∙ from_bits n fits)

-- a number is always read, and leaves the table
pub number_leaves : {D : Type 0} (layouts : Layouts) (t : Table D) (a : Account) (bits : ℕ) (result : Result RawValue RootFault) (new : StoreView D) → ReadsValue layouts t a (numeric i64 bits) result new → HoldsAccount layouts new t a
number_leaves layouts t a bits (Ok value) new reads = reads.1.1
number_leaves layouts t a bits (Err root_fault.WrongStore) new reads = absurd reads
number_leaves layouts t a bits (Err root_fault.Unrooted) new reads = absurd reads
number_leaves layouts t a bits (Err root_fault.RootsFull) new reads = absurd (cc reads.0)
number_leaves layouts t a bits (Err root_fault.Memory) new reads = absurd (cc reads.0)

pub number_never : {D : Type 0} (layouts : Layouts) (t : Table D) (a : Account) (bits : ℕ) (why : RootFault) (new : StoreView D) → ReadsValue layouts t a (numeric i64 bits) (Err why) new → ⊥
number_never layouts t a bits root_fault.WrongStore new reads = reads
number_never layouts t a bits root_fault.Unrooted new reads = reads
number_never layouts t a bits root_fault.RootsFull new reads = absurd (cc reads.0)
number_never layouts t a bits root_fault.Memory new reads = absurd (cc reads.0)

-- a version that is empty stands for the empty list
pub empty_list : {D : Type 0} (s : StoreView D) (t : Table D) (version : Option GcRootIndex) (xs : List ℤ) → version ≡ None → StandsForList s t version xs → xs ≡ []
empty_list s t version xs none stands = by xs stands.reference (subst (λ (v : Option GcRootIndex). VersionNames s t v stands.reference) none stands.names) stands.is
  where
    by : (ys : List ℤ) (r : Reference) → r ≡ null → IsList t.types t.objects r ys → ys ≡ []
    by [] r is list = refl
    by (y ∷ ys) r is list = absurd (cc (sym is ∙ list.1.0.named))
