-- Nodes that are made.
use Rattle.std.proofs.Common.{inl, inr, ◌≡◌, ℕ, zero, suc, ◌+◌, ◌<◌, ◌^◌, max, ℤ, pos, true, List, [], ◌∷◌, ◌++◌, length, Option, Some, None, Result, Ok, Err, sym, ap, ◌∙◌, refl, subst, arith, w32, w64, to_z, of_z, SFits}
use Rattle.std.specs.List.{slice_get}
use Rattle.std.specs.Prelude.{unwrap_or}
use Rattle.std.proofs.lemmas.Int.{to_z-of_z, to_z_pos}
use Rattle.std.proofs.lemmas.List.Elements.{All-nil, All-cons}
use Rattle.std.proofs.lemmas.List.{append-nil}
use Rattle.std.proofs.lemmas.Option.{none-some, same_Some}
use Rattle.gc_types.specs.declared.kind.Layouts.{Layouts}
use Rattle.gc_types.specs.declared.value.FieldType.{FieldType}
use Rattle.gc_types.specs.declared.value.StorageType.TheVariants as storage
use Rattle.gc_types.specs.declared.value.ValType.TheVariants as val
use Rattle.gc_types.specs.Declarations.{Declaration, struct_fields_at, declaration_struct_fields, constant_field}
use Rattle.gc_owner.specs.declared.entry.GcClass.TheVariants.{Any}
use Rattle.gc_model.specs.Values.{Reference, at, Value, numeric, i32, i64, reference, Object, struct, number_bits}
use Rattle.gc_model.specs.Fits.{fits}
use Rattle.gc_model.specs.Stored.{stored_in}
use Rattle.gc_model.specs.Table.{Table, make, with_pages}
use Rattle.gc_model.specs.Live.{roots_full}
use Rattle.gc_model.specs.Allocation.{Limits}
use Rattle.gc_model.specs.Stores.{StoreView}
use Rattle.gc_model.specs.Holds.{HoldsTable}
use Rattle.gc_model.proofs.Lists.{slice_get-push_new}
use Rattle.gc_model.specs.Accounts.{Account, HoldsAccount, with_held}
use Rattle.gc_model.specs.Policy.{policy_state}
use Rattle.gc_values.specs.declared.root.GcRootIndex.{GcRootIndex}
use Rattle.gc_values.specs.declared.root.RawValue.{RawValue}
use Rattle.gc_values.specs.declared.root.RawValue.TheVariants as raw
use Rattle.gc_values.specs.declared.faults.GcHeapOutOfMemory.{GcHeapOutOfMemory}
use Rattle.gc_values.specs.declared.faults.PlaceFault.{PlaceFault}
use Rattle.gc_values.specs.declared.faults.PlaceFault.TheVariants as place_fault
use Rattle.gc_store.specs.Requests.{CanPlaceFields, struct_fields_of}
use Rattle.gc_store.specs.Places.{Places, MayGetPages, RefusesPlace}
use Rattle.gc_store.specs.Roots.{NamesReference}
use Rattle.gc_store.specs.Stores.{IsSameStore}
use Rattle.gc_store.specs.Values.{RawStands, AllStand, CanStore}
use Rattle.gc_lists.specs.declared.kit.Kit.{Kit}
use Rattle.gc_lists.specs.Cells as cells
use Rattle.gc_lists.specs.Frames.{KeepsLimit, Leaves}
use Rattle.gc_lists.specs.Kits.{node_fields, link, IsNodeType}
use Rattle.gc_lists.proofs.Limiting.{counts_same, places_limit}
use Rattle.gc_lists.proofs.Pages.{gets_within, may_get_within}
use Rattle.gc_lists.proofs.Links.{node_root, null_or_fits, struct_in_each}
use Rattle.gc_maps.specs.declared.part.Part.{Part}
use Rattle.gc_maps.specs.Trees.{Tree, leaf, node, height}
use Rattle.gc_maps.specs.Parts.{NamesLink, RootIs, PartIs, node_of}
use Rattle.gc_maps.specs.Makes.{IsLow, LowPart}
use Rattle.gc_maps.specs.Ends.{MakesNodes, LacksNode}
use Rattle.gc_maps.proofs.Naming.{are_before, held_table, names_pushed, tree_kept}
use Rattle.gc_maps.proofs.Growing.{grows_none, grows_keep}
use Rattle.gc_maps.proofs.NodeReads.{not_null}

pub fields_are : (types : List Declaration) (ty : ℕ) → IsNodeType types ty → struct_fields_at types ty ≡ Some (node_fields ty)
fields_are types ty is = ap declaration_struct_fields is

abbrev pub node_values : ℤ → ℤ → ℤ → Option GcRootIndex → Option GcRootIndex → List RawValue
node_values k v h left right = raw.I64 k ∷ raw.I64 v ∷ raw.I32 h ∷ raw.Ref Any left ∷ raw.Ref Any right ∷ []

-- values that stand for those of the table, one by one
module _ {D : Type 0} (s : StoreView D) (t : Table D) where
  stands_none : AllStand s t [] []
  stands_none = record { same_count = refl; each = λ i r v e f. absurd (none-some r e) }

  stands_more : (r : RawValue) (v : Value) (rs : List RawValue) (vs : List Value) → RawStands s t r v → AllStand s t rs vs → AllStand s t (r ∷ rs) (v ∷ vs)
  stands_more r v rs vs stands rest = record { same_count = ap suc rest.same_count; each = each }
    where
      each : (i : ℕ) (q : RawValue) (w : Value) → slice_get (r ∷ rs) i ≡ Some q → slice_get (v ∷ vs) i ≡ Some w → RawStands s t q w
      each zero q w e f = subst (λ (p : RawValue). RawStands s t p w) (same_Some r q e) (subst (RawStands s t r) (same_Some v w f) stands)
      each (suc i) q w e f = rest.each i q w e f

  pub link_stands : (root : Option GcRootIndex) (r : Reference) → NamesLink s t root r → RawStands s t (raw.Ref Any root) (reference Any r)
  link_stands None r names = ap (reference Any) names
  link_stands (Some handle) r names = record { root = r; named = names; is = refl }

  pub object_asked : (ty : ℕ) → IsNodeType t.types ty → (k v h : ℤ) (high : ℕ) → number_bits w32 h ≡ high → (left right : Option GcRootIndex) (l r : Reference) → NamesLink s t left l → NamesLink s t right r
      → (vs : List Value) × (AllStand s t (node_values k v h left right) vs
      × (cells.node {D = D} ty (number_bits w64 k) (number_bits w64 v) high l r ≡ struct ty (stored_in (struct_fields_of t.types ty) vs)))
  object_asked ty of k v h high is left right l r in_left in_right =
      let vs : List Value = numeric i64 (number_bits w64 k) ∷ numeric i64 (number_bits w64 v) ∷ numeric i32 high ∷ reference Any l ∷ reference Any r ∷ [] in (
        vs,
        (
          stands_more _ _ _ _ refl (stands_more _ _ _ _ refl (stands_more _ _ _ _ (ap (numeric i32) (sym is)) (stands_more _ _ _ _ (link_stands left l in_left) (stands_more _ _ _ _ (link_stands right r in_right) stands_none)))),
          ap (λ (o : Option (List FieldType)). struct ty (stored_in (unwrap_or o []) vs)) (sym (fields_are t.types ty of)),
        ),
      )

-- Such a node may be placed.
module _ {D : Type 0} (layouts : Layouts) (s : StoreView D) (ty : ℕ) (of : IsNodeType s.types ty) where
  record StoresEach (fs : List FieldType) (rs : List RawValue) : Type 0 where
    each : (i : ℕ) (field : FieldType) (r : RawValue) → slice_get fs i ≡ Some field → slice_get rs i ≡ Some r → CanStore D layouts s field.element_type r

  stores_none : StoresEach [] []
  stores_none = record { each = λ i field r e f. absurd (none-some field e) }

  stores_more : (field : FieldType) (r : RawValue) (fs : List FieldType) (rs : List RawValue) → CanStore D layouts s field.element_type r → StoresEach fs rs → StoresEach (field ∷ fs) (r ∷ rs)
  stores_more field r fs rs can rest = record { each = each }
    where
      each : (i : ℕ) (g : FieldType) (q : RawValue) → slice_get (field ∷ fs) i ≡ Some g → slice_get (r ∷ rs) i ≡ Some q → CanStore D layouts s g.element_type q
      each zero g q e f = subst (λ (p : RawValue). CanStore D layouts s g.element_type p) (same_Some r q f) (subst (λ (x : FieldType). CanStore D layouts s x.element_type r) (same_Some field g e) can)
      each (suc i) g q e f = rest.each i g q e f

  stores_long : (z : ℤ) → CanStore D layouts s (storage.ValType val.I64) (raw.I64 z)
  stores_long z = record { live = tt; fits = λ t v holds stands. subst (λ (u : Value). fits t.types t.objects (storage.ValType val.I64) u ≡ true) (sym stands) refl }

  stores_int : (z : ℤ) → CanStore D layouts s (storage.ValType val.I32) (raw.I32 z)
  stores_int z = record { live = tt; fits = λ t v holds stands. subst (λ (u : Value). fits t.types t.objects (storage.ValType val.I32) u ≡ true) (sym stands) refl }

  module _ (u : Table D) (held : HoldsTable layouts s u) where
    stores_link : (root : Option GcRootIndex) (tree : Tree) → RootIs s u ty root tree → CanStore D layouts s (storage.ValType (link ty)) (raw.Ref Any root)
    stores_link None tree is = record { live = tt; fits = λ t v holds stands. subst (λ (w : Value). fits t.types t.objects (storage.ValType (link ty)) w ≡ true) (sym stands) refl }
    stores_link (Some handle) leaf is = absurd (not_null layouts s u held handle is.reference is.names is.is)
    stores_link (Some handle) (node x k v y) is = record {
      live = record { table = u; holds = held; root = is.reference; named = is.names };
      fits = λ t w holds stands.
          let the = is.is.is_node in
          let named : NamesReference s u handle (at the.position) = subst (λ (r : Reference). NamesReference s u handle r) the.named is.names in
          let object : slice_get u.objects the.position ≡ Some (cells.node ty the.key_bits the.value_bits (height (node x k v y)) is.is.left is.is.right) =
          the.object_is ∙ ap (λ (n : ℕ). Some (cells.node n the.key_bits the.value_bits (height (node x k v y)) is.is.left is.is.right)) is.is.of_type in
          let there = struct_in_each layouts s u t held.0 holds.0 held.1 holds.1 handle the.position ty _ named object stands.root stands.named in
          subst (λ (q : Value). fits t.types t.objects (storage.ValType (link ty)) q ≡ true) (sym stands.is)
          (null_or_fits t.types t.objects ty stands.root (node_root t.types ty (subst (λ (types : List Declaration). IsNodeType types ty) holds.1.types of)) there);
    }

    pub can_place : (k v h : ℤ) (left right : Part) → LowPart s u ty left → LowPart s u ty right → CanPlaceFields D layouts s (struct_fields_at s.types ty) (node_values k v h left.root right.root)
    can_place k v h left right in_left in_right =
        let a = stores_more (constant_field (link ty)) (raw.Ref Any right.root) [] [] (stores_link right.root in_right.tree in_right.is.root) stores_none in
        let b = stores_more (constant_field (link ty)) (raw.Ref Any left.root) _ _ (stores_link left.root in_left.tree in_left.is.root) a in
        let d = stores_more (constant_field val.I32) (raw.I32 h) _ _ (stores_int h) b in
        let e = stores_more (constant_field val.I64) (raw.I64 v) _ _ (stores_long v) d in
        let f = stores_more (constant_field val.I64) (raw.I64 k) _ _ (stores_long k) e in
        record { fields = node_fields ty; declared = fields_are s.types ty of; same_count = refl; each = f.each }

pub part_low : {D : Type 0} (s : StoreView D) (t : Table D) (ty : ℕ) (part : Part) → LowPart s t ty part → IsLow part.height
part_low s t ty part low = record { number = height low.tree; is = low.is.height_is; low = low.low }

-- numbers as they are kept
pub long_kept : (k : ℤ) → SFits w64 k → k ≡ cells.number_of (number_bits w64 (to_z w64 (of_z w64 k)))
long_kept k f = let e = to_z-of_z w64 k f in sym (ap (λ (z : ℤ). to_z w64 (of_z w64 (to_z w64 (of_z w64 z)))) e ∙ ap (λ (z : ℤ). to_z w64 (of_z w64 z)) e ∙ e)

pub int_kept : (h : ℤ) (n : ℕ) → n < 2 ^ 31 → h ≡ pos n → number_bits w32 (to_z w32 (of_z w32 h)) ≡ n
int_kept h n low is =
    let e = to_z_pos w32 n low in
    ap (λ (z : ℤ). of_z w32 (to_z w32 (of_z w32 (to_z w32 (of_z w32 z))))) is ∙ ap (λ (z : ℤ). of_z w32 (to_z w32 (of_z w32 z))) e ∙ ap (of_z w32) e

-- What placing a node leaves.
module _ {D : Type 0} (layouts : Layouts) (counter : Option ℕ) (kit : Kit) (s : StoreView D) (t : Table D) (a : Account) (holds : HoldsAccount layouts s t a) (limits limits' : Limits) (new : StoreView D) (same : IsSameStore s new)
    (object : Object D) (of_kit : cells.IsOfKit kit object) where
  abbrev pub Placed : Result GcRootIndex PlaceFault → Type 0
  Placed answer = Places layouts counter object (policy_state t a limits) limits' answer new

  kept_as : (u : Table D) (b : Account) → HoldsAccount layouts new u b → MakesNodes limits'.limit kit 1 1 t u → Leaves layouts (MakesNodes limits'.limit kit 1 1 t) new
  kept_as u b held grows = record { after = u; account = b; holds = held; changed = grows }

  pages_grow : (pages : ℕ) (u : Table D) → u ≡ with_pages pages t → KeepsLimit limits'.limit t u → MakesNodes limits'.limit kit 1 1 t u
  pages_grow pages u is keeps = subst (λ (w : Table D). KeepsLimit limits'.limit t w → MakesNodes limits'.limit kit 1 1 t w) (sym is) (λ within. record {
    made = [];
    of_kit = λ k d below. absurd (omega (arith, below));
    few_made = omega arith;
    scoped = [];
    few = omega arith;
    pushes = [];
    rest = λ i. record t { objects = sym (append-nil t.objects) i; scoped = sym (append-nil t.scoped) i; pushes = sym (append-nil t.pushes) i; made = true; pages = pages };
    pages = within;
  }) keeps

  pub refused_place : RefusesPlace layouts (policy_state t a limits) limits' new → Leaves layouts (MakesNodes limits'.limit kit 1 1 t) new
  refused_place refuses = kept_as t a refuses.holds (grows_none kit 1 1 t)

  pub place_full : Placed (Err place_fault.RootsFull) → Leaves layouts (λ u. MakesNodes limits'.limit kit 1 1 t u × (roots_full u ≡ true)) new
  place_full places = record { after = t; account = a; holds = places.2.holds; changed = (grows_none kit 1 1 t, places.1) }

  -- the limiter tells the same limit afterwards
  within_after : (answer : Result GcRootIndex PlaceFault) (u : Table D) → Placed answer → KeepsLimit limits.limit t u → KeepsLimit limits'.limit t u
  within_after answer u placed keeps = subst (λ (l : Option ℕ). KeepsLimit l t u) (sym (places_limit layouts counter object (policy_state t a limits) limits' answer new placed)) keeps

  wanted : (bytes : ℕ) (u : Table D) (b : Account) → HoldsAccount layouts new u b → Placed (Err place_fault.Memory) → MayGetPages limits.limit bytes t u → Leaves layouts (MakesNodes limits'.limit kit 1 1 t) new
  wanted bytes u b held wants (inl is) = kept_as u b held (subst (MakesNodes limits'.limit kit 1 1 t) (sym is) (grows_none kit 1 1 t))
  wanted bytes u b held wants (inr more) = kept_as u b held (pages_grow more.0 u more.1.1 (within_after (Err place_fault.Memory) u wants (may_get_within limits.limit t u bytes (inr more))))

  pub place_wants : Placed (Err place_fault.Memory) → Leaves layouts (MakesNodes limits'.limit kit 1 1 t) new
  place_wants wants = wanted _ wants.after.table wants.after.account wants.holds wants wants.pages

  pub gets_pages : (handle : GcRootIndex) (placed : Placed (Ok handle)) (u : Table D) → u.made ≡ true → u.pages ≡ placed.allocates.pages → KeepsLimit limits'.limit t u
  gets_pages handle placed u made is = within_after (Ok handle) u placed (gets_within limits.limit t u _ placed.allocates.pages placed.allocates.gets made is)

  pub place_lacks : (f : GcHeapOutOfMemory (Unit {0})) → Placed (Err (place_fault.HeapOutOfMemory f)) → LacksNode layouts counter kit 1 1 t limits limits' f.bytes_needed new
  place_lacks f lacks = record { before = policy_state t a limits; counts = counts_same limits; grows = grows_none kit 1 1 t; asked = s; held = holds; object = object; of_kit = of_kit; lacks = lacks }

low_of : (h : ℤ) (n : ℕ) → IsLow h → h ≡ pos n → n < 1000
low_of h n low is = let same : pos low.number ≡ pos n = sym low.is ∙ is in let e : low.number ≡ n = grind (arith, same) in let below = low.low in omega (arith, e, below)

-- a node over two parts
module _ {D : Type 0} (layouts : Layouts) (counter : Option ℕ) (kit : Kit) (s : StoreView D) (t : Table D) (a : Account) (holds : HoldsAccount layouts s t a) (limits limits' : Limits) (new : StoreView D) (same : IsSameStore s new)
    (of : IsNodeType s.types kit.node) (k v : ℤ) (fits_k : SFits w64 k) (fits_v : SFits w64 v) (left right : Part) (x y : Tree) (in_left : PartIs s t kit.node left x) (in_right : PartIs s t kit.node right y)
    (low_left : IsLow left.height) (low_right : IsLow right.height) (h : ℤ) (high : (m n : ℕ) → to_z w32 (of_z w32 left.height) ≡ pos m → to_z w32 (of_z w32 right.height) ≡ pos n → h ≡ pos (max m n + 1)) where
  abbrev pub the_tree : Tree
  the_tree = node x k v y

  high_is : h ≡ pos (height the_tree)
  high_is =
      let m = low_of left.height (height x) low_left in_left.height_is in
      let n = low_of right.height (height y) low_right in_right.height_is in
      high (height x) (height y) (ap (λ (z : ℤ). to_z w32 (of_z w32 z)) in_left.height_is ∙ to_z_pos w32 (height x) (omega (arith, m)))
      (ap (λ (z : ℤ). to_z w32 (of_z w32 z)) in_right.height_is ∙ to_z_pos w32 (height y) (omega (arith, n)))

  low_tree : height the_tree < 2 ^ 31
  low_tree =
      let m = low_of left.height (height x) low_left in_left.height_is in
      let n = low_of right.height (height y) low_right in_right.height_is in
      omega (arith, m, n)

  abbrev key' : ℤ
  key' = to_z w64 (of_z w64 k)

  abbrev value' : ℤ
  value' = to_z w64 (of_z w64 v)

  abbrev pub the_object : Object D
  the_object = cells.node kit.node (number_bits w64 key') (number_bits w64 value') (height the_tree) in_left.root.reference in_right.root.reference

  of_here : IsNodeType t.types kit.node
  of_here = subst (λ (types : List Declaration). IsNodeType types kit.node) holds.holds.types of

  pub asked : (vs : List Value) × (AllStand s t (node_values key' value' (to_z w32 (of_z w32 h)) left.root right.root) vs × (the_object ≡ struct kit.node (stored_in (struct_fields_of t.types kit.node) vs)))
  asked = object_asked s t kit.node of_here key' value' (to_z w32 (of_z w32 h)) (height the_tree) (int_kept h (height the_tree) low_tree high_is) left.root right.root in_left.root.reference in_right.root.reference in_left.root.names in_right.root.names

  pub is_of_kit : cells.IsOfKit kit the_object
  is_of_kit = record { ty = kit.node; of_kit = inr refl; values = _; object_is = refl }

  pub place_made : (handle : GcRootIndex) → Placed layouts counter kit s t a holds limits limits' new same the_object is_of_kit (Ok handle)
      → Leaves layouts (λ u. MakesNodes limits'.limit kit 1 1 t u × PartIs new u kit.node (record { root = Some handle; height = to_z w32 (of_z w32 h) }) (node_of x k v y)) new
  place_made handle placed =
      let pages = placed.allocates.pages in
      let u : Table D = make the_object (with_pages pages t) in
      let grows : MakesNodes limits'.limit kit 1 1 t u = record {
        made = the_object ∷ [];
        of_kit = All-cons (cells.IsOfKit kit) the_object [] is_of_kit (All-nil (cells.IsOfKit kit));
        few_made = omega arith;
        scoped = record { serial = length t.pushes; reference = at (length t.objects) } ∷ [];
        few = omega arith;
        pushes = record { index = length t.scoped; generation = t.drops } ∷ [];
        rest = refl;
        pages = gets_pages layouts counter kit s t a holds limits limits' new same the_object is_of_kit handle placed u refl refl;
      } in
      let keeps = grows_keep kit 1 1 s t new u same grows in
      let named : NamesReference new u handle (at (length t.objects)) = subst (λ (g : GcRootIndex). NamesReference new u g (at (length t.objects))) (sym placed.handle_is)
      (names_pushed (record t { objects = t.objects ++ the_object ∷ []; made = true; pages = pages }) (are_before layouts s t (held_table layouts s t a holds)) new (at (length t.objects))) in
      record {
        after = u;
        account = with_held layouts (length t.objects) placed.word placed.after.account;
        holds = subst (λ (w : Table D). HoldsAccount layouts new w (with_held layouts (length t.objects) placed.word placed.after.account)) placed.allocates.made placed.holds;
        changed = (
          grows,
          record {
            root = record {
              reference = at (length t.objects);
              names = named;
              is = record {
                left = in_left.root.reference;
                right = in_right.root.reference;
                is_node = record {
                  position = length t.objects;
                  ty = kit.node;
                  key_bits = number_bits w64 key';
                  value_bits = number_bits w64 value';
                  named = refl;
                  of_nodes = of_here;
                  object_is = slice_get-push_new t.objects the_object;
                  key_is = long_kept k fits_k;
                  value_is = long_kept v fits_v;
                };
                of_type = refl;
                is_left = tree_kept s t new u keeps kit.node x in_left.root.reference in_left.root.is;
                is_right = tree_kept s t new u keeps kit.node y in_right.root.reference in_right.root.is;
              };
            };
            height_is = ap (λ (z : ℤ). to_z w32 (of_z w32 z)) high_is ∙ to_z_pos w32 (height the_tree) low_tree;
          },
        );
      }
