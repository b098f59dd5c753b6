-- What one more cell answers and leaves.
use Rattle.std.proofs.Common.{◌≡◌, ℕ, zero, suc, ℤ, List, [], ◌∷◌, ◌++◌, length, nat_lt, Bool, true, false, All, Option, Some, None, Result, Ok, Err, inl, inr, refl, sym, ap, ◌∙◌, subst, arith}
use Rattle.std.specs.List.{slice_get}
use Rattle.std.specs.Int.{w64}
use Rattle.std.specs.Prelude.{FitsSigned, unwrap_or}
use Rattle.std.proofs.lemmas.Bool.Decides.{nat_tests}
use Rattle.std.proofs.lemmas.List.{append-nil}
use Rattle.std.proofs.lemmas.List.Elements.{All-nil, All-cons}
use Rattle.std.proofs.lemmas.Option.{none-some}
use Rattle.gc_types.specs.declared.kind.Layouts.{Layouts}
use Rattle.gc_types.specs.declared.kind.Layouts.TheVariants.{Null, Counting, Copying}
use Rattle.gc_types.specs.declared.value.FieldType.{FieldType}
use Rattle.gc_types.specs.declared.value.StorageType.TheVariants as storage
use Rattle.gc_types.specs.declared.value.ValType.TheVariants as val
use Rattle.gc_types.specs.Declarations.{Declaration, struct_fields_at, declaration_struct_fields}
use Rattle.gc_owner.specs.declared.entry.GcClass.TheVariants.{Any}
use Rattle.gc_model.specs.Values.{Reference, null, small, at, Value, numeric, i64, reference, Object, struct, number_bits}
use Rattle.gc_model.specs.Fits.{fits}
use Rattle.gc_model.specs.SideValues.{functions_full, conts_full, max_entries}
use Rattle.gc_model.specs.Sizes.{fields_size}
use Rattle.gc_model.specs.Stored.{stored_in}
use Rattle.gc_model.specs.Table.{Table, make, leave, make_heap, with_pages}
use Rattle.gc_model.specs.OwnedRoots.{own}
use Rattle.gc_model.specs.Allocation.{Limits, LacksMemory, no_heap, no_room, too_large}
use Rattle.gc_model.specs.Stores.{StoreView}
use Rattle.gc_model.specs.Holds.{HoldsTable}
use Rattle.gc_model.specs.Accounts.{Account, HoldsAccount, with_held}
use Rattle.gc_model.specs.Policy.{PolicyState, policy_state}
use Rattle.gc_values.specs.declared.root.GcRootIndex.{GcRootIndex}
use Rattle.gc_values.specs.declared.root.RawValue.{RawValue}
use Rattle.gc_values.specs.declared.root.RawValue.TheVariants as raw
use Rattle.gc_store.specs.Requests.{CanPlaceFields, struct_fields_of}
use Rattle.gc_store.specs.Places.{Places, PlacesObject, MayGetPages, size_in_table, lacks_ids}
use Rattle.gc_values.specs.declared.faults.GcHeapOutOfMemory.{GcHeapOutOfMemory}
use Rattle.gc_values.specs.declared.faults.PlaceFault.TheVariants as place_fault
use Rattle.gc_lists.specs.declared.list.HeapList.{HeapList}
use Rattle.gc_store.specs.Roots.{NamesReference, NamesOwned}
use Rattle.gc_store.specs.Values.{RawStands, AllStand, CanStore, NamesLive}
use Rattle.gc_lists.specs.declared.fault.ListFault.{ListFault}
use Rattle.gc_lists.specs.declared.fault.ListFault.TheVariants as fault
use Rattle.gc_lists.specs.declared.kit.Kit.{Kit}
use Rattle.gc_lists.specs.Answers.{AnswersVersion, AreNumbers, Conses, KeepsRoot}
use Rattle.gc_lists.specs.Cells.{cell, IsNullOr, IsOfKit}
use Rattle.gc_lists.specs.Frames.{ChangesObjects, KeepsLimit, most_objects, unchanged}
use Rattle.gc_lists.specs.Kits.{cell_fields, link, IsCellType}
use Rattle.gc_lists.specs.Lists.{IsListOf}
use Rattle.gc_lists.specs.Versions.{VersionNames, StandsForListOf, IsListOfIn}
use Rattle.gc_lists.proofs.CellReads.{from_bits, never_null}
use Rattle.gc_lists.proofs.Kept.{list_kept, appended_keeps}
use Rattle.gc_lists.proofs.Pages.{gets_within, lacks_within, may_get_within}
use Rattle.gc_lists.proofs.Refusing.{lacks_refused}
use Rattle.gc_lists.proofs.Links.{cell_root, null_or_fits, struct_in_each}
use Rattle.gc_lists.proofs.Scopes.{next_owned, next_scoped, left_scoped, leave_counts, counts_same, full_lacks}
use Rattle.gc_model.proofs.Lists.{slice_get-push_new}

-- the fields of a cell's type
pub fields_are : (types : List Declaration) (ty : ℕ) → IsCellType types ty → struct_fields_at types ty ≡ Some (cell_fields ty)
fields_are types ty is = ap declaration_struct_fields is

abbrev pub cell_values : ℤ → Option GcRootIndex → List RawValue
cell_values x version = raw.I64 x ∷ raw.Ref Any version ∷ []

-- what a version names stands for its handle
pub version_stands : {D : Type 0} (s : StoreView D) (t : Table D) (version : Option GcRootIndex) (r : Reference) → VersionNames s t version r → RawStands s t (raw.Ref Any version) (reference Any r)
version_stands s t None r names = ap (reference Any) names
version_stands s t (Some handle) r names = record { root = r; named = inr names; is = refl }

-- the object that is asked for
module _ {D : Type 0} (s : StoreView D) (t : Table D) (version : Option GcRootIndex) (ty : ℕ) (x y : ℤ) (same : y ≡ x) (r : Reference) (names : VersionNames s t version r) where
  abbrev asked_values : List Value
  asked_values = numeric i64 (number_bits w64 x) ∷ reference Any r ∷ []

  each_stands : (i : ℕ) (q : RawValue) (v : Value) → slice_get (cell_values y version) i ≡ Some q → slice_get asked_values i ≡ Some v → RawStands s t q v
  each_stands zero q v is is' =
      let first : raw.I64 y ≡ q = grind (arith, is) in
      let value : numeric i64 (number_bits w64 x) ≡ v = grind (arith, is') in
      subst (λ (p : RawValue). RawStands s t p v) first (sym value ∙ ap (λ z. numeric i64 (number_bits w64 z)) (sym same))
  each_stands (suc zero) q v is is' =
      let second : raw.Ref Any version ≡ q = grind (arith, is) in
      let value : reference Any r ≡ v = grind (arith, is') in
      subst (λ (p : RawValue). RawStands s t p v) second (subst (RawStands s t (raw.Ref Any version)) value (version_stands s t version r names))
  each_stands (suc (suc i)) q v is is' = absurd (none-some q is)

  pub object_asked : IsCellType t.types ty → (vs : List Value) × (AllStand s t (cell_values y version) vs × (cell {D = D} ty (number_bits w64 x) r ≡ struct ty (stored_in (struct_fields_of t.types ty) vs)))
  object_asked of = (
    asked_values,
    (record { same_count = refl; each = each_stands }, ap (λ (o : Option (List FieldType)). struct ty (stored_in (unwrap_or o []) asked_values)) (sym (fields_are t.types ty of))),
  )

-- Such a cell may be placed.
module _ {D : Type 0} (layouts : Layouts) (s : StoreView D) (version : Option GcRootIndex) (ty : ℕ) (of : IsCellType s.types ty) (one : IsListOfIn D layouts s version ty) where
  live_version : (v : Option GcRootIndex) → v ≡ version → NamesLive D layouts s (raw.Ref Any v)
  live_version None is = tt
  live_version (Some handle) is = record {
    table = one.table;
    holds = one.holds;
    root = one.stands.reference;
    named = inr (subst (λ (v : Option GcRootIndex). VersionNames s one.table v one.stands.reference) (sym is) one.stands.names);
  }

  -- what a handle of the version names is of that type in each table
  named_in_each : (handle : GcRootIndex) → Some handle ≡ version → (t : Table D) → HoldsTable layouts s t → (r : Reference) → NamesReference s t handle r → IsNullOr t.objects ty r
  named_in_each handle is t holds r named = by one.stands.reference (subst (λ (v : Option GcRootIndex). VersionNames s one.table v one.stands.reference) (sym is) one.stands.names) one.stands.is.1
    where
      by : (q : Reference) → NamesOwned s one.table handle q → IsNullOr one.table.objects ty q → IsNullOr t.objects ty r
      by null names is_of = absurd (never_null layouts s one.table one.holds handle (inr names))
      by (small n) names is_of = absurd is_of
      by (at p) names is_of = struct_in_each layouts s one.table t one.holds.0 holds.0 one.holds.1 holds.1 handle p ty is_of.0 (inr names) is_of.1 r named

  fits_link : (v : Option GcRootIndex) → v ≡ version → (t : Table D) (w : Value) → HoldsTable layouts s t → RawStands s t (raw.Ref Any v) w → fits t.types t.objects (storage.ValType (link ty)) w ≡ true
  fits_link None is t w holds stands = subst (λ (u : Value). fits t.types t.objects (storage.ValType (link ty)) u ≡ true) (sym stands) refl
  fits_link (Some handle) is t w holds stands =
      subst (λ (u : Value). fits t.types t.objects (storage.ValType (link ty)) u ≡ true) (sym stands.is)
      (null_or_fits t.types t.objects ty stands.root (cell_root t.types ty (subst (λ (types : List Declaration). IsCellType types ty) holds.1.types of)) (named_in_each handle is t holds stands.root stands.named))

  fits_number : (y : ℤ) (t : Table D) (w : Value) → HoldsTable layouts s t → RawStands s t (raw.I64 y) w → fits t.types t.objects (storage.ValType val.I64) w ≡ true
  fits_number y t w holds stands = subst (λ (u : Value). fits t.types t.objects (storage.ValType val.I64) u ≡ true) (sym stands) refl

  each_fits : (y : ℤ) (i : ℕ) (field : FieldType) (q : RawValue) → slice_get (cell_fields ty) i ≡ Some field → slice_get (cell_values y version) i ≡ Some q → CanStore D layouts s field.element_type q
  each_fits y zero field q is is' =
      let first : raw.I64 y ≡ q = grind (arith, is') in
      let element : storage.ValType val.I64 ≡ field.element_type = grind (arith, is) in
      subst (λ (p : RawValue). CanStore D layouts s field.element_type p) first
      (subst (λ (e : _). CanStore D layouts s e (raw.I64 y)) element (record { live = tt; fits = fits_number y }))
  each_fits y (suc zero) field q is is' =
      let second : raw.Ref Any version ≡ q = grind (arith, is') in
      let element : storage.ValType (link ty) ≡ field.element_type = grind (arith, is) in
      subst (λ (p : RawValue). CanStore D layouts s field.element_type p) second
      (subst (λ (e : _). CanStore D layouts s e (raw.Ref Any version)) element (record { live = live_version version refl; fits = fits_link version refl }))
  each_fits y (suc (suc i)) field q is is' = absurd (none-some q is')

  pub can_place_cell : (y : ℤ) → CanPlaceFields D layouts s (struct_fields_at s.types ty) (cell_values y version)
  can_place_cell y = record { fields = cell_fields ty; declared = fields_are s.types ty of; same_count = refl; each = each_fits y }

-- No heap lacks ids for it, and it is not too large.
module _ {D : Type 0} (layouts : Layouts) (s : StoreView D) (t : Table D) (holds : HoldsTable layouts s t) (ty bits : ℕ) (r : Reference) where
  pub has_ids : lacks_ids functions_full (cell {D = D} ty bits r) t ≡ true → ⊥
  has_ids full =
      let few = holds.1.interned.funcs.few in
      let free : nat_lt max_entries (length t.interned.funcs) ≡ false = grind (arith, nat_tests, few) in
      absurd (cc (sym full ∙ free))

  pub has_cont_ids : lacks_ids conts_full (cell {D = D} ty bits r) t ≡ true → ⊥
  has_cont_ids full =
      let few = holds.1.interned.conts.few in
      let free : nat_lt max_entries (length t.interned.conts) ≡ false = grind (arith, nat_tests, few) in
      absurd (cc (sym full ∙ free))

  small_cell : (l : Layouts) → too_large l (fields_size l (Some (cell_fields ty))) ≡ true → ⊥
  small_cell Null e = absurd (cc e)
  small_cell Counting e = absurd (cc e)
  small_cell Copying e = absurd (cc e)

  pub never_large : IsCellType t.types ty → too_large layouts (size_in_table layouts (cell {D = D} ty bits r) t) ≡ true → ⊥
  never_large of e = small_cell layouts (sym (ap (λ (fs : Option (List FieldType)). too_large layouts (fields_size layouts fs)) (fields_are t.types ty of)) ∙ e)

-- What is left of a table in which nothing was made.
module _ {D : Type 0} (limit : Option ℕ) (kit : Kit) (t : Table D) where
  pub only_pages : (u : Table D) (made : Bool) (pages : ℕ) → u ≡ record t { made = made; pages = pages } → KeepsLimit limit t u → ChangesObjects limit kit 1 t t.owned u
  only_pages u made pages is keeps = record {
    made = [];
    few = omega arith;
    of_kit = All-nil (IsOfKit kit);
    pushes = [];
    counts = counts_same t u (ap (λ (v : Table D). v.drops) is) (ap (λ (v : Table D). v.owns) is);
    rest = is ∙ (λ i. record t { objects = sym (append-nil t.objects) i; pushes = sym (append-nil t.pushes) i; made = made; pages = pages })
        ∙ (λ i. record t { objects = t.objects ++ []; pushes = t.pushes ++ []; drops = ap (λ (v : Table D). v.drops) (sym is) i; owns = ap (λ (v : Table D). v.owns) (sym is) i; made = ap (λ (v : Table D). v.made) (sym is) i; pages = ap (λ (v : Table D). v.pages) (sym is) i });
    pages = keeps;
  }

  pub lacks_pages : (layouts : Layouts) (places : _) (o : Object D) (u : Table D) → LacksMemory layouts limit places o t u → ChangesObjects limit kit 1 t t.owned u
  lacks_pages layouts places o u lacks = by lacks
    where
      by : LacksMemory layouts limit places o t u → ChangesObjects limit kit 1 t t.owned u
      by (no_heap refused is) = only_pages u t.made t.pages is (lacks_within limit t u layouts places o lacks)
      by (no_room may refused none is) = only_pages u true (make_heap t).pages is (lacks_within limit t u layouts places o lacks)

  pub may_pages : (bytes : ℕ) (u : Table D) → MayGetPages limit bytes t u → ChangesObjects limit kit 1 t t.owned u
  may_pages bytes u (inl is) = only_pages u t.made t.pages is (may_get_within limit t u bytes (inl is))
  may_pages bytes u (inr more) = only_pages u true more.0 more.1.1 (may_get_within limit t u bytes (inr more))

module _ {D : Type 0} (layouts : Layouts) (s : StoreView D) (t : Table D) (a : Account) (holds : HoldsTable layouts s t) (kit : Kit) (of : IsCellType t.types kit.cell) (version : Option GcRootIndex) (xs : List ℤ) (x : ℤ)
    (fits_x : FitsSigned w64 x) (stands : StandsForListOf s t version kit.cell xs) (limits limits' : Limits) where
  abbrev pub next : Reference
  next = stands.reference

  abbrev pub new_cell : Object D
  new_cell = cell kit.cell (number_bits w64 x) next

  abbrev pub state : PolicyState D
  state = policy_state t a limits

  abbrev pub Answered : Result HeapList ListFault → StoreView D → Type 0
  Answered result new = Conses layouts kit s version xs x state limits' result new

  -- the table with the cell
  abbrev pub grown : ℕ → Table D
  grown pages = make new_cell (with_pages pages t)

  module _ (mid : StoreView D) (handle : GcRootIndex) (places : PlacesObject layouts s.alloc_counter new_cell state limits' handle mid) where
    abbrev pub now : Table D
    now = grown places.allocates.pages

    abbrev pub account : Account
    account = with_held layouts (length t.objects) places.word places.after.account

    pub holds_grown : HoldsAccount layouts mid now account
    holds_grown = subst (λ (u : Table D). HoldsAccount layouts mid u account) places.allocates.made places.holds

    pub names_grown : NamesReference mid now handle (at (length t.objects))
    names_grown = next_scoped layouts s t holds mid now (at (length t.objects)) handle refl refl places.handle_is

    module _ (new : StoreView D) (scope : ℕ) (scope_is : scope ≡ length t.scoped) where
      abbrev pub Kept : Result GcRootIndex ListFault → Type 0
      Kept result = KeepsRoot layouts now account (at (length t.objects)) (leave scope) result new

      made_of_kit : All (IsOfKit kit) (new_cell ∷ [])
      made_of_kit = All-cons (IsOfKit kit) new_cell [] (record { ty = kit.cell; of_kit = inl refl; values = _; object_is = refl }) (All-nil (IsOfKit kit))

      within : (u : Table D) → u.made ≡ true → u.pages ≡ places.allocates.pages → KeepsLimit limits.limit t u
      within u made is = gets_within limits.limit t u _ places.allocates.pages places.allocates.gets made is

      changed : (u : Table D) → ChangesObjects limits.limit kit 1 t t.owned (leave scope now)
      changed u = record {
        made = new_cell ∷ [];
        few = omega arith;
        of_kit = made_of_kit;
        pushes = record { index = length t.scoped; generation = t.drops } ∷ [];
        counts = leave_counts scope t now refl (omega arith);
        rest = λ i. record (leave scope now) { scoped = left_scoped scope t.scoped (record { serial = length t.pushes; reference = at (length t.objects) } ∷ []) scope_is i };
        pages = within (leave scope now) refl refl;
      }

      changed_owned : ChangesObjects limits.limit kit 1 t (own (at (length t.objects)) t).owned (leave scope (own (at (length t.objects)) now))
      changed_owned = record {
        made = new_cell ∷ [];
        few = omega arith;
        of_kit = made_of_kit;
        pushes = record { index = length t.scoped; generation = t.drops } ∷ [];
        counts = leave_counts scope t (own (at (length t.objects)) now) refl (omega arith);
        rest = λ i. record (leave scope (own (at (length t.objects)) now)) { scoped = left_scoped scope t.scoped (record { serial = length t.pushes; reference = at (length t.objects) } ∷ []) scope_is i };
        pages = within (leave scope (own (at (length t.objects)) now)) refl refl;
      }

      new_list : IsListOf now.types now.objects kit.cell (x ∷ xs) (at (length t.objects))
      new_list = (
        (
          next,
          (
            record {
              position = length t.objects;
              ty = kit.cell;
              bits = number_bits w64 x;
              named = refl;
              of_cells = of;
              object_is = slice_get-push_new t.objects new_cell;
              number_is = sym (from_bits x fits_x);
            },
            list_kept t now (appended_keeps t now [] (new_cell ∷ []) (sym (append-nil t.types)) refl) xs next stands.is.0,
          ),
        ),
        (_, slice_get-push_new t.objects new_cell),
      )

      pub cons_kept : (made : GcRootIndex) → Kept (Ok made) → AnswersVersion layouts t (ChangesObjects limits.limit kit 1 t) (AreNumbers kit.cell (x ∷ xs)) (Some made) new
      cons_kept made kept = record {
        after = leave scope (own (at (length t.objects)) now);
        account = account;
        holds = kept.1.1;
        stands = record { reference = at (length t.objects); names = record { number = t.owns; names = kept.1.0; live = next_owned layouts s t holds (at (length t.objects)) }; is = new_list };
        has_new_root = kept.1.0;
        changed = changed_owned;
      }

      pub cons_refused : (why : ListFault) → Kept (Err why) → Answered (Err why) new
      cons_refused fault.WrongStore kept = absurd kept
      cons_refused fault.RootsFull kept = (inl kept.0, record { after = leave scope now; account = account; holds = kept.1; changed = changed t })
      cons_refused (fault.HeapOutOfMemory f) kept = absurd kept
      cons_refused fault.Memory kept = record { after = leave scope now; account = account; holds = kept; changed = changed t }

  -- no cell was made
  module _ (new : StoreView D) where
    pub cons_full : (b : Bool) → Places layouts s.alloc_counter new_cell state limits' (Err place_fault.RootsFull) new → Answered (Err fault.RootsFull) new
    cons_full b places = (
      inr (full_lacks t most_objects (omega arith) places.1),
      record { after = t; account = a; holds = places.2.holds; changed = only_pages limits.limit kit t t t.made t.pages refl (unchanged refl refl) },
    )

    pub cons_lacks : (full : GcHeapOutOfMemory (Unit {0})) → Places layouts s.alloc_counter new_cell state limits' (Err (place_fault.HeapOutOfMemory full)) new → Answered (Err (fault.HeapOutOfMemory full)) new
    cons_lacks full lacks = (
      record { next = next; names = stands.names; lacks = lacks; refused = lacks_refused layouts s.alloc_counter new_cell state limits' full.bytes_needed new lacks },
      record { after = lacks.after.table; account = lacks.after.account; holds = lacks.holds; changed = lacks_pages limits.limit kit t layouts a.places new_cell lacks.after.table lacks.lacks },
    )

    pub cons_wants : Places layouts s.alloc_counter new_cell state limits' (Err place_fault.Memory) new → Answered (Err fault.Memory) new
    cons_wants wants = record { after = wants.after.table; account = wants.after.account; holds = wants.holds; changed = may_pages limits.limit kit t _ wants.after.table wants.pages }

    pub never_ids : Places layouts s.alloc_counter new_cell state limits' (Err place_fault.FuncTableFull) new → ⊥
    never_ids places = has_ids layouts s t holds kit.cell (number_bits w64 x) next places.0

    pub never_cont_ids : Places layouts s.alloc_counter new_cell state limits' (Err place_fault.ContTableFull) new → ⊥
    never_cont_ids places = has_cont_ids layouts s t holds kit.cell (number_bits w64 x) next places.0

    pub never_too_large : Places layouts s.alloc_counter new_cell state limits' (Err place_fault.TooLarge) new → ⊥
    never_too_large places = never_large layouts s t holds kit.cell (number_bits w64 x) next of places.0
