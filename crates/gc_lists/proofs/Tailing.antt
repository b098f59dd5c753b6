-- What the rest of a list answers and leaves.
use Rattle.std.proofs.Common.{◌≡◌, ℕ, ℤ, List, [], ◌∷◌, length, drop, Option, Some, None, Ok, Err, true, inl, inr, refl, sym, ap, ◌∙◌, subst, arith}
use Rattle.std.specs.List.{slice_get}
use Rattle.gc_types.specs.declared.kind.Layouts.{Layouts}
use Rattle.gc_types.specs.declared.value.FieldType.{FieldType}
use Rattle.gc_types.specs.declared.value.StorageType.TheVariants as storage
use Rattle.gc_types.specs.Declarations.{Declaration, constant_field, declaration_struct_fields}
use Rattle.gc_owner.specs.declared.entry.GcClass.TheVariants.{Any}
use Rattle.gc_model.specs.Values.{Reference, null, small, at, reference}
use Rattle.gc_model.specs.Fits.{fits}
use Rattle.gc_model.specs.Stored.{listed_type}
use Rattle.gc_model.specs.Table.{Table, push, leave}
use Rattle.gc_model.specs.OwnedRoots.{own}
use Rattle.gc_model.specs.Stores.{StoreView}
use Rattle.gc_model.specs.Holds.{HoldsTable}
use Rattle.gc_model.specs.Accounts.{Account, HoldsAccount}
use Rattle.gc_values.specs.declared.root.GcRootIndex.{GcRootIndex}
use Rattle.gc_values.specs.declared.root.RawValue.{RawValue}
use Rattle.gc_values.specs.declared.root.RootFault.{RootFault}
use Rattle.gc_values.specs.declared.root.RootFault.TheVariants as root_fault
use Rattle.gc_store.specs.Roots.{NamesReference, handle_of}
use Rattle.gc_store.specs.Values.{ReadsValue}
use Rattle.gc_values.specs.RawValues.{raw_handle}
use Rattle.gc_store.proofs.HandleWords.{named_alone}
use Rattle.gc_lists.specs.declared.fault.ListFault.{ListFault}
use Rattle.gc_lists.specs.declared.fault.ListFault.TheVariants as fault
use Rattle.gc_lists.specs.Answers.{AnswersVersion, AreNumbers, KeepsRoot, Tails}
use Rattle.gc_lists.specs.Cells.{cell, IsNullOr}
use Rattle.gc_lists.specs.Faults.{refused}
use Rattle.gc_lists.specs.Frames.{ChangesOwned, most_objects}
use Rattle.gc_lists.specs.Kits.{link, IsCellType}
use Rattle.gc_lists.specs.Lists.{IsList, IsListOf}
use Rattle.gc_lists.specs.Versions.{VersionNames, StandsForListOf}
use Rattle.gc_lists.proofs.CellReads.{NamesCell, version_cell, empty_list}
use Rattle.gc_lists.proofs.Kept.{same_struct}
use Rattle.gc_lists.proofs.Links.{struct_of_link, cell_root}
use Rattle.gc_lists.proofs.Scopes.{next_owned, next_scoped, rooted_left, pushed_left, nothing_changed, leaves_as_it_was, full_lacks}

-- the next of a cell fits its link, in a table that a store holds
link_of_cell : (types : List Declaration) (ty : ℕ) → IsCellType types ty → listed_type (declaration_struct_fields (slice_get types ty)) 1 ≡ Some (constant_field (link ty))
link_of_cell types ty is = ap (λ (d : Option Declaration). listed_type (declaration_struct_fields d) 1) is

module _ {D : Type 0} (layouts : Layouts) (s : StoreView D) (t : Table D) (holds : HoldsTable layouts s t) where
  next_fits : (p ty bits : ℕ) (next : Reference) → IsCellType t.types ty → slice_get t.objects p ≡ Some (cell ty bits next) → fits t.types t.objects (storage.ValType (link ty)) (reference Any next) ≡ true
  next_fits p ty bits next of here =
      let typed = holds.1.typed p 1 (cell ty bits next) (reference Any next) here refl in
      let fields : Some typed.field ≡ Some (constant_field (link ty)) = sym typed.field_is ∙ link_of_cell t.types ty of in
      let same : typed.field ≡ constant_field (link ty) = grind (arith, fields) in
      ap (λ (f : FieldType). fits t.types t.objects f.element_type (reference Any next)) (sym same) ∙ typed.is_fit

  -- what a list's next reference is: of the type of its cell
  next_of_type : (p ty bits : ℕ) (next : Reference) (xs : List ℤ) → IsCellType t.types ty → slice_get t.objects p ≡ Some (cell ty bits next) → IsList t.types t.objects next xs → IsNullOr t.objects ty next
  next_of_type p ty bits next [] of here is = subst (IsNullOr t.objects ty) (sym is) tt
  next_of_type p ty bits next (x ∷ xs) of here is =
      let second = is.1.0 in
      let fit = subst (λ (r : Reference). fits t.types t.objects (storage.ValType (link ty)) (reference Any r) ≡ true) second.named (next_fits p ty bits next of here) in
      let same : second.ty ≡ ty = struct_of_link t.types t.objects ty second.ty second.position _ (cell_root t.types second.ty second.of_cells) second.object_is fit in
      subst (IsNullOr t.objects ty) (sym second.named) (_, subst (λ n. slice_get t.objects second.position ≡ Some (cell n second.bits is.0)) same second.object_is)

  module _ (handle : GcRootIndex) (ty : ℕ) (xs : List ℤ) (names : NamesCell s t handle xs) (of : IsNullOr t.objects ty (at names.cell.position)) where
    own_type : names.cell.ty ≡ ty
    own_type = same_struct {D = D} names.cell.ty ty _ of.0 (sym names.cell.object_is ∙ of.1)

    -- the rest is a list with cells of that type
    pub rest_of : IsListOf t.types t.objects ty (drop 1 xs) names.next
    rest_of = subst (λ (ys : List ℤ). IsListOf t.types t.objects ty (drop 1 ys) names.next) (sym names.whole) (
      names.after,
      subst (λ n. IsNullOr t.objects n names.next) own_type (next_of_type names.cell.position names.cell.ty names.cell.bits names.next names.rest names.cell.of_cells names.cell.object_is names.after),
    )

-- what a version of that type names
pub version_listed : {D : Type 0} (layouts : Layouts) (s : StoreView D) (t : Table D) → HoldsTable layouts s t → (handle : GcRootIndex) (version : Option GcRootIndex) (ty : ℕ) (xs : List ℤ) → version ≡ Some handle
    → StandsForListOf s t version ty xs → NamesCell s t handle xs
version_listed layouts s t holds handle version ty xs some stands =
    version_cell layouts s t holds handle version xs some (record { reference = stands.reference; names = stands.names; is = stands.is.0 })

-- the cell is of that type
pub of_first : {D : Type 0} (layouts : Layouts) (s : StoreView D) (t : Table D) (holds : HoldsTable layouts s t) (handle : GcRootIndex) (version : Option GcRootIndex) (ty : ℕ) (xs : List ℤ) → version ≡ Some handle
    → (stands : StandsForListOf s t version ty xs) (names : NamesCell s t handle xs) → IsNullOr t.objects ty (at names.cell.position)
of_first layouts s t holds handle version ty xs some stands names =
    subst (IsNullOr t.objects ty)
    (named_alone layouts s t holds.0 holds.1 handle stands.reference (at names.cell.position) (inr (subst (λ (v : Option GcRootIndex). VersionNames s t v stands.reference) some stands.names)) names.named)
    stands.is.1

-- the next of a cell is null or an object
list_reference : {D : Type 0} (t : Table D) (r : Reference) (xs : List ℤ) → IsList t.types t.objects r xs → (n : ℕ) → r ≡ small n → ⊥
list_reference t r [] is n e = absurd (cc (sym is ∙ e))
list_reference t r (x ∷ xs) is n e = absurd (cc (sym is.1.0.named ∙ e))

pub no_small : {D : Type 0} (s : StoreView D) (t : Table D) (handle : GcRootIndex) (xs : List ℤ) (names : NamesCell s t handle xs) (n : ℕ) → names.next ≡ small n → ⊥
no_small s t handle xs names n e = list_reference t names.next names.rest names.after n e

module _ {D : Type 0} (layouts : Layouts) (s mid new : StoreView D) (t : Table D) (a : Account) (ty : ℕ) (ys : List ℤ) (scope : ℕ) (scope_is : scope ≡ length t.scoped) (holds : HoldsTable layouts s t) where
  -- the next cell was read, and an owned root made for it
  module _ (next : Reference) (rest : IsListOf t.types t.objects ty ys next) where
    pub tail_kept : (made : GcRootIndex) → KeepsRoot layouts (push next t) a next (leave scope) (Ok made) new → AnswersVersion layouts t (ChangesOwned t) (AreNumbers ty ys) (Some made) new
    tail_kept made keeps = record {
      after = leave scope (own next (push next t));
      account = a;
      holds = keeps.1.1;
      stands = record { reference = next; names = record { number = t.owns; names = keeps.1.0; live = next_owned layouts s t holds next }; is = rest };
      has_new_root = keeps.1.0;
      changed = rooted_left t scope scope_is next;
    }

  module _ (next : Reference) where
    pub tail_refused : (why : ListFault) → KeepsRoot layouts (push next t) a next (leave scope) (Err why) new → Tails layouts ty ys t (Err why) new
    tail_refused fault.WrongStore keeps = absurd keeps
    tail_refused fault.RootsFull keeps = (inl keeps.0, record { after = leave scope (push next t); account = a; holds = keeps.1; changed = pushed_left t scope scope_is next })
    tail_refused (fault.HeapOutOfMemory f) keeps = absurd keeps
    tail_refused fault.Memory keeps = record { after = leave scope (push next t); account = a; holds = keeps; changed = pushed_left t scope scope_is next }

  -- the list ends behind the cell
  tail_empty : IsListOf t.types t.objects ty ys null → HoldsAccount layouts new t a → AnswersVersion layouts t (ChangesOwned t) (AreNumbers ty ys) None new
  tail_empty rest h = record { after = t; account = a; holds = h; stands = record { reference = null; names = refl; is = rest }; has_new_root = tt; changed = nothing_changed t }

  -- the list is empty, and so is its rest
  pub empty_tail : (version answered : Option GcRootIndex) (xs : List ℤ) → version ≡ None → answered ≡ None → StandsForListOf s t version ty xs → HoldsAccount layouts new t a
      → AnswersVersion layouts t (ChangesOwned t) (AreNumbers ty (drop 1 xs)) answered new
  empty_tail version answered xs none none' stands h =
      let is_empty = empty_list s t version xs none (record { reference = stands.reference; names = stands.names; is = stands.is.0 }) in
      subst (λ (v : Option GcRootIndex). AnswersVersion layouts t (ChangesOwned t) (AreNumbers ty (drop 1 xs)) v new) (sym none')
      (record { after = t; account = a; holds = h; stands = record { reference = null; names = refl; is = subst (λ (zs : List ℤ). IsListOf t.types t.objects ty (drop 1 zs) null) (sym is_empty) (refl, tt) }; has_new_root = tt; changed = nothing_changed t })

  -- by what the next reference is read as
  pub read_some : (next : Reference) (value : RawValue) (handle : GcRootIndex) → ((n : ℕ) → next ≡ small n → ⊥) → ReadsValue layouts t a (reference Any next) (Ok value) mid → raw_handle value ≡ Some handle
      → HoldsAccount layouts mid (push next t) a × NamesReference mid (push next t) handle next
  read_some null value handle never reads is = absurd (let e : None ≡ Some handle = sym (ap raw_handle reads.1.0) ∙ is in cc e)
  read_some (small n) value handle never reads is = absurd (never n refl)
  read_some (at p) value handle never reads is =
      let e : Some (handle_of mid (length t.scoped) t.drops) ≡ Some handle = sym (ap raw_handle reads.1.0) ∙ is in
      let same : handle ≡ handle_of mid (length t.scoped) t.drops = grind (arith, e) in
      (reads.1.1, next_scoped layouts s t holds mid (push (at p) t) (at p) handle refl refl same)

  pub read_none : (next : Reference) (value : RawValue) → ((n : ℕ) → next ≡ small n → ⊥) → ReadsValue layouts t a (reference Any next) (Ok value) new → raw_handle value ≡ None
      → IsListOf t.types t.objects ty ys next → AnswersVersion layouts t (ChangesOwned t) (AreNumbers ty ys) None new
  read_none null value never reads is rest = tail_empty rest reads.1.1
  read_none (small n) value never reads is rest = absurd (never n refl)
  read_none (at p) value never reads is rest = absurd (let e : None ≡ Some (handle_of new (length t.scoped) t.drops) = sym is ∙ ap raw_handle reads.1.0 in cc e)

  pub read_refused : (next : Reference) (why : RootFault) → ReadsValue layouts t a (reference Any next) (Err why) new → Tails layouts ty ys t (Err (refused why)) new
  read_refused next root_fault.WrongStore reads = absurd reads
  read_refused next root_fault.Unrooted reads = absurd reads
  read_refused next root_fault.RootsFull reads = (inr (full_lacks t most_objects (omega arith) reads.1.0), leaves_as_it_was layouts t a new reads.1.1)
  read_refused next root_fault.Memory reads = leaves_as_it_was layouts t a new reads.1
