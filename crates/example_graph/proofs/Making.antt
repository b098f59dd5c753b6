-- Nodes that are made.
use Rattle.std.proofs.Common.{inl, inr, ◌≡◌, ℕ, ℤ, ◌<◌, List, [], ◌∷◌, length, Option, Some, Result, Ok, Err, ap, ◌∙◌, refl, subst, arith}
use Rattle.std.specs.List.{slice_get}
use Rattle.std.specs.Int.{w64}
use Rattle.std.specs.Prelude.{FitsSigned}
use Rattle.std.proofs.lemmas.Option.{slice_get_within}
use Rattle.gc_types.specs.declared.kind.Layouts.{Layouts}
use Rattle.gc_types.specs.declared.value.FieldType.{FieldType}
use Rattle.gc_types.specs.declared.value.StorageType.{StorageType}
use Rattle.gc_types.specs.declared.value.StorageType.TheVariants as storage
use Rattle.gc_types.specs.Declarations.{TypeName}
use Rattle.gc_model.specs.Values.{at, Value, Object, struct, numeric, i64, number_bits}
use Rattle.gc_model.specs.Allocation.{Limits, LacksMemory, no_heap, no_room}
use Rattle.gc_model.specs.Reach.{object_values}
use Rattle.gc_model.specs.Stored.{stored, stored_in}
use Rattle.gc_model.specs.Table.{Table, make, with_pages, make_heap}
use Rattle.gc_model.specs.Stores.{StoreView}
use Rattle.gc_model.proofs.Lists.{slice_get-push_new}
use Rattle.gc_model.specs.Accounts.{Account, HoldsAccount, with_held}
use Rattle.gc_model.specs.Policy.{policy_state}
use Rattle.gc_values.specs.declared.root.GcRootIndex.{GcRootIndex}
use Rattle.gc_rooted.specs.declared.rooted.Rooted.{Rooted}
use Rattle.gc_store.specs.Places.{MayGetPages, RefusesPlace}
use Rattle.gc_store.specs.Requests.{struct_fields_of}
use Rattle.gc_store.specs.Roots.{NamesReference}
use Rattle.gc_store.specs.Stores.{IsSameStore}
use Rattle.gc_store.specs.Kinds.{object_kind}
use Rattle.gc_objects.specs.declared.faults.AllocFault.TheVariants as fault
use Rattle.gc_objects.specs.declared.val.Val.{Val}
use Rattle.gc_objects.specs.declared.val.Val.TheVariants as val
use Rattle.gc_objects.specs.Makes.{Fault, Makes, MakesObject, AsksStruct}
use Rattle.gc_objects.proofs.Pushing.{held_table}
use Rattle.example_graph.specs.Entries.{key_value, IsGraphNode, KeepsEntries}
use Rattle.example_graph.proofs.EntriesKept.{KeptIn, accounts_kept, kept_at, kept_same, keeps_itself, keeps_made, keeps_pages, keeps_heap}

module _ (layouts : Layouts) (new : StoreView ℕ) (t : Table ℕ) (a : Account) (limits limits' : Limits) (counter : Option ℕ) where
  refused : RefusesPlace layouts (policy_state t a limits) limits' new → KeptIn layouts t new
  refused r = kept_same layouts t a new r.holds

  lacking : (limit : Option ℕ) (places : _) (o : Object ℕ) (u : Table ℕ) (b : Account) → HoldsAccount layouts new u b → LacksMemory layouts limit places o t u → KeptIn layouts t new
  lacking limit places o u b holds (no_heap why is) = kept_at layouts t u t b new holds is (keeps_itself t)
  lacking limit places o u b holds (no_room may why lacks is) = kept_at layouts t u (make_heap t) b new holds is (keeps_heap t)

  wanting : (limit : Option ℕ) (bytes : ℕ) (u : Table ℕ) (b : Account) → HoldsAccount layouts new u b → MayGetPages limit bytes t u → KeptIn layouts t new
  wanting limit bytes u b holds (inl is) = kept_at layouts t u t b new holds is (keeps_itself t)
  wanting limit bytes u b holds (inr more) = kept_at layouts t u (with_pages more.0 t) b new holds more.1.1 (keeps_pages t more.0)

  -- what a call that makes an object leaves, whatever it answers
  making_kept : {T : Type 0} (causes : Fault → Type 0) (asks : Object ℕ → Type 0) (result : Result (Rooted T) Fault)
      → Makes causes asks layouts counter (policy_state t a limits) limits' result new → KeptIn layouts t new
  making_kept causes asks (Ok handle) makes =
      kept_at layouts t (make makes.object makes.placed.after.table) (make makes.object (with_pages makes.placed.allocates.pages t))
      (with_held layouts (length t.objects) makes.placed.word makes.placed.after.account) new makes.placed.holds makes.placed.allocates.made
      (keeps_made t makes.object makes.placed.allocates.pages)
  making_kept causes asks (Err fault.WrongStore) makes = refused makes.1
  making_kept causes asks (Err fault.FieldCount) makes = refused makes.1
  making_kept causes asks (Err fault.NotI8Array) makes = refused makes.1
  making_kept causes asks (Err fault.Unrooted) makes = refused makes.1
  making_kept causes asks (Err fault.TypeMismatch) makes = refused makes.1
  making_kept causes asks (Err fault.FuncTableFull) makes = refused makes.1.1.1
  making_kept causes asks (Err fault.ContTableFull) makes = refused makes.1.1.1
  making_kept causes asks (Err fault.TooLarge) makes = refused makes.1.1.refuses
  making_kept causes asks (Err fault.RootsFull) makes = refused makes.1.1.2
  making_kept causes asks (Err (fault.HeapOutOfMemory f)) makes = let lacks = makes.1.1 in lacking limits.limit a.places makes.0 lacks.after.table lacks.after.account lacks.holds lacks.lacks
  making_kept causes asks (Err fault.Memory) makes = let wants = makes.1.1 in wanting limits.limit _ wants.after.table wants.after.account wants.holds wants.pages

pub made_kept : {T : Type 0} (layouts : Layouts) (old new : StoreView ℕ) → IsSameStore old new → (counter : Option ℕ) (limits limits' : Limits)
    (causes : Table ℕ → Fault → Type 0) (asks : Table ℕ → Object ℕ → Type 0) (result : Result (Rooted T) Fault)
    → ((t : Table ℕ) (a : Account) → HoldsAccount layouts old t a → Makes (causes t) (asks t) layouts counter (policy_state t a limits) limits' result new)
    → KeepsEntries layouts old new
made_kept layouts old new same counter limits limits' causes asks result makes =
    accounts_kept layouts old new same (λ t a holds. making_kept layouts new t a limits limits' counter (causes t) (asks t) result (makes t a holds))

-- a field keeps a key as it is
key_stored : (ty : StorageType) (n : ℕ) → stored ty (numeric i64 n) ≡ numeric i64 n
key_stored storage.I8 n = refl
key_stored storage.I16 n = refl
key_stored (storage.ValType ty) n = refl

-- the first of the values that are stored is the key, where it was given first
first_stored : (key : ℤ) (fields : List FieldType) (values : List Value) (count : ℕ) → count ≡ length fields → count ≡ length values → 0 < count
    → ((x : Value) → slice_get values 0 ≡ Some x → x ≡ key_value key) → slice_get (stored_in fields values) 0 ≡ Some (key_value key)
first_stored key [] values count is also some first = absurd (omega (arith, is, some))
first_stored key (field ∷ fields) [] count is also some first = absurd (omega (arith, also, some))
first_stored key (field ∷ fields) (v ∷ values) count is also some first =
    ap (λ (x : Value). Some (stored field.element_type x)) (first v refl) ∙ ap Some (key_stored field.element_type (number_bits w64 key))

module _ (layouts : Layouts) (old new : StoreView ℕ) (t : Table ℕ) (a : Account) (limits limits' : Limits) (counter : Option ℕ) (ty : TypeName) (key : ℤ) (vs : List Val)
    (first : slice_get vs 0 ≡ Some (val.I64 key)) (fits : FitsSigned w64 key) where
  key_asked : (o : Object ℕ) → AsksStruct old t ty vs o → (values : List Value) × ((o ≡ struct ty.index values) × (slice_get values 0 ≡ Some (key_value key)))
  key_asked o asks = (
    stored_in (struct_fields_of t.types ty.index) asks.values,
    (
      asks.object_is,
      first_stored key (struct_fields_of t.types ty.index) asks.values (length vs) asks.counted asks.go.same_count (slice_get_within vs 0 (val.I64 key) first)
          (λ x is. (asks.go.each 0 (val.I64 key) x first is).stands),
    ),
  )

  -- a struct that was made of a key and edges is a node
  pub made_node : (handle : GcRootIndex) → MakesObject (AsksStruct old t ty vs) layouts counter (policy_state t a limits) limits' handle new → IsGraphNode layouts new handle key
  made_node handle makes =
      let asked = key_asked makes.object makes.asked in
      let pages = makes.placed.allocates.pages in
      let after : Table ℕ = make makes.object (with_pages pages t) in
      let b = with_held layouts (length t.objects) makes.placed.word makes.placed.after.account in
      let is = makes.placed.allocates.made in
      record {
        table = after;
        holds = held_table layouts new after b (subst (λ (u : Table ℕ). HoldsAccount layouts new u b) is makes.placed.holds);
        key_fits = fits;
        has = record {
          position = length t.objects;
          named = subst (λ (u : Table ℕ). NamesReference new u handle (at (length t.objects))) is makes.named;
          object = makes.object;
          object_is = slice_get-push_new t.objects makes.object;
          value_at = ap (λ (o : Object ℕ). slice_get (object_values o) 0) asked.1.0 ∙ asked.1.1;
        };
        is_struct = ap object_kind asked.1.0;
      }
