-- A list and a map stand through the calls on them.
use Rattle.std.proofs.Common.{int_cmp, ◌≡◌, ℕ, ℤ, ◌+◌, Bool, true, false, ◌&&◌, List, [], ◌∷◌, ◌++◌, length, drop, Option, Some, None, Result, Ok, Err, refl, sym, ◌∙◌, ap, subst}
use Rattle.std.specs.List.{slice_get}
use Rattle.std.specs.Result.{IfOk}
use Rattle.std.specs.FinMap as finite
use Rattle.std.proofs.lemmas.List.{append-nil, length-append}
use Rattle.gc_types.specs.declared.kind.Layouts.{Layouts}
use Rattle.gc_types.specs.Declarations.{Declaration}
use Rattle.gc_model.proofs.Lists.{slice_get-push_new, slice_get-push_old}
use Rattle.gc_model.specs.Allocation.{Limits}
use Rattle.gc_model.specs.Values.{Reference, null}
use Rattle.gc_model.specs.Table.{Table, push}
use Rattle.gc_model.specs.Stores.{StoreView}
use Rattle.gc_model.specs.Accounts.{Account, HoldsAccount}
use Rattle.gc_model.specs.Policy.{policy_state}
use Rattle.gc_model.proofs.AccountLemmas.{some_account}
use Rattle.gc_values.specs.declared.root.GcRootIndex.{GcRootIndex}
use Rattle.gc_values.specs.declared.root.RootFault.{RootFault}
use Rattle.gc_values.specs.declared.root.RootFault.TheVariants as root_fault
use Rattle.gc_store.specs.Handles.{PushesRoot}
use Rattle.gc_store.specs.Stores.{IsSameStore}
use Rattle.gc_lists.specs.declared.fault.ListFault.{ListFault}
use Rattle.gc_lists.specs.declared.fault.ListFault.TheVariants as fault
use Rattle.gc_lists.specs.declared.kit.Kit.{Kit}
use Rattle.gc_lists.specs.declared.list.HeapList.{HeapList}
use Rattle.gc_lists.specs.Answers.{Conses, Tails, owned_with}
use Rattle.gc_lists.specs.Constants.{KeepsConstants}
use Rattle.gc_lists.specs.Frames.{most_objects}
use Rattle.gc_lists.specs.Kits.{IsKit, KitStands, MakesKit, cell_type, declare_kit, is_kit_of, node_type}
use Rattle.gc_lists.specs.Versions.{ListOfStands, ListStands, StandsForListOf, is_version_of}
use Rattle.gc_lists.proofs.Standing.{named_still, objects_keep, roots_keep}
use Rattle.gc_maps.specs.declared.map.HeapMap.{HeapMap}
use Rattle.gc_maps.specs.Answers.{AnswersMap}
use Rattle.gc_maps.specs.Maps.{IntMap, MapOfStands, MapStands, StandsForMapOf}
use Rattle.gc_maps.specs.Trees.{leaf}
use Rattle.gc_maps.proofs.Staying.{map_stays}
use Rattle.test_lists.specs.Standing.{ListIn, MapIn, StandsIn}

-- The kit of a store, and what stands in the table in which it was declared.
begun : (layouts : Layouts) (t : Table ℕ) (a : Account) (new : StoreView ℕ) (kit : Kit) → MakesKit layouts t a (Ok kit) new → (Stands : Table ℕ → Type 0) → Stands (declare_kit t) → StandsIn layouts new kit Stands
begun layouts t a new kit made Stands stands = record {
  table = declare_kit t;
  holds = (made.1.place, made.1.holds);
  kit_is = subst (λ (k : Kit). IsKit (declare_kit t).types k) (sym made.0) (record {
    cells = slice_get-push_old (t.types ++ cell_type (length t.types) ∷ []) (node_type (length t.types + 1)) (length t.types) _ (slice_get-push_new t.types (cell_type (length t.types)));
    nodes = subst (λ n. slice_get (declare_kit t).types n ≡ Some (node_type (length t.types + 1))) (length-append t.types (cell_type (length t.types) ∷ []))
        (slice_get-push_new (t.types ++ cell_type (length t.types) ∷ []) (node_type (length t.types + 1)));
  });
  stands = stands;
}

abbrev nothing : IntMap
nothing = finite.from_sorted []

pub list_begun : (layouts : Layouts) (t : Table ℕ) (a : Account) (new : StoreView ℕ) (kit : Kit) → MakesKit layouts t a (Ok kit) new → ListIn layouts new kit None
list_begun layouts t a new kit made = ([], begun layouts t a new kit made (λ (u : Table ℕ). StandsForListOf new u None kit.cell []) (record { reference = null; names = refl; is = (refl, tt) }))

pub map_begun : (layouts : Layouts) (t : Table ℕ) (a : Account) (new : StoreView ℕ) (kit : Kit) → MakesKit layouts t a (Ok kit) new → MapIn layouts new kit None
map_begun layouts t a new kit made = (
  nothing,
  begun layouts t a new kit made (λ (u : Table ℕ). StandsForMapOf new u None kit.node nothing)
      (record { reference = null; names = refl; is = record { tree = leaf; is = refl; balanced = tt; entries = finite.entries-from_sorted int_cmp [] tt } }),
)

-- As the calls ask for it.
pub kit_in : (layouts : Layouts) (s : StoreView ℕ) (kit : Kit) (Stands : Table ℕ → Type 0) → StandsIn layouts s kit Stands → KitStands s kit
kit_in layouts s kit Stands inside own = subst (λ (types : List Declaration). IsKit types kit) (sym inside.holds.1.types) inside.kit_is

module _ (layouts : Layouts) (s : StoreView ℕ) (kit : Kit) (v : Option GcRootIndex) where
  pub list_of_in : ListIn layouts s kit v → ListOfStands ℕ layouts s v kit.cell
  list_of_in inside own = record { table = inside.1.table; holds = inside.1.holds; numbers = inside.0; stands = inside.1.stands }

  pub list_in : ListIn layouts s kit v → ListStands ℕ layouts s v
  list_in inside own = let stands = inside.1.stands in
      record { table = inside.1.table; holds = inside.1.holds; numbers = inside.0; stands = record { reference = stands.reference; names = stands.names; is = stands.is.0 } }

  pub map_of_in : MapIn layouts s kit v → MapOfStands ℕ layouts s v kit.node
  map_of_in inside own = record { table = inside.1.table; holds = inside.1.holds; entries = inside.0; stands = inside.1.stands }

  pub map_in : MapIn layouts s kit v → MapStands ℕ layouts s v
  map_in inside own = (kit.node, map_of_in inside own)

  pub empty_list : v ≡ None → ListIn layouts s kit None → ListIn layouts s kit v
  empty_list none inside = subst (λ (w : Option GcRootIndex). ListIn layouts s kit w) (sym none) inside

  pub empty_map : v ≡ None → MapIn layouts s kit None → MapIn layouts s kit v
  empty_map none inside = subst (λ (w : Option GcRootIndex). MapIn layouts s kit w) (sym none) inside

-- What stands in a later table that keeps what is constant.
later : (layouts : Layouts) (s new : StoreView ℕ) (kit : Kit) (Stands : Table ℕ → Type 0) (inside : StandsIn layouts s kit Stands) (Stands' : Table ℕ → Type 0) (u : Table ℕ) (a : Account)
    → HoldsAccount layouts new u a → KeepsConstants inside.table u → Stands' u → StandsIn layouts new kit Stands'
later layouts s new kit Stands inside Stands' u a holds keeps stands = record {
  table = u;
  holds = (holds.place, holds.holds);
  kit_is = record { cells = keeps.types kit.cell _ inside.kit_is.cells; nodes = keeps.types kit.node _ inside.kit_is.nodes };
  stands = stands;
}

-- what is made is made with the store's kit and of the store's version, as else the call is refused
made_of_own : {M : Type 0} (Is : M → Type 0) (Rest : Type 0) (k w : Bool) (result : Result M ListFault) → ((k && w) ≡ false → (result ≡ Err fault.WrongStore) × Rest) → (k ≡ true → w ≡ true → IfOk result Is) → IfOk result Is
made_of_own Is Rest true true result wrong answered = answered refl refl
made_of_own Is Rest true false result wrong answered = subst (λ (r : Result _ ListFault). IfOk r Is) (sym (wrong refl).0) tt
made_of_own Is Rest false w result wrong answered = subst (λ (r : Result _ ListFault). IfOk r Is) (sym (wrong refl).0) tt

-- A list that is made stands.
module _ (layouts : Layouts) (s new : StoreView ℕ) (kit : Kit) (v : Option GcRootIndex) (inside : ListIn layouts s kit v) where
  abbrev t : Table ℕ
  t = inside.1.table

  account : (a : Account) × HoldsAccount layouts s t a
  account = some_account layouts s t inside.1.holds

  abbrev IsList : HeapList → Type 0
  IsList made = ListIn layouts new kit made.root

  consed : (x : ℤ) (limits limits' : Limits) (result : Result HeapList ListFault) → Conses layouts kit s v inside.0 x (policy_state t account.0 limits) limits' result new → IfOk result IsList
  consed x limits limits' (Ok made) answers = (
    x ∷ inside.0,
    later layouts s new kit _ inside.1 (λ (u : Table ℕ). StandsForListOf new u made.root kit.cell (x ∷ inside.0)) answers.after answers.account answers.holds
        (objects_keep kit 1 t answers.after (owned_with t made.root answers.stands.reference) answers.changed) answers.stands,
  )
  consed x limits limits' (Err why) answers = tt

  pub cons_stands : (x : ℤ) (limits limits' : Limits) (result : Result HeapList ListFault) → ((is_kit_of s kit && is_version_of s v) ≡ false → (result ≡ Err fault.WrongStore) × (new ≡ s))
      → (is_kit_of s kit ≡ true → is_version_of s v ≡ true → (t : Table ℕ) (a : Account) (xs : List ℤ) → HoldsAccount layouts s t a → StandsForListOf s t v kit.cell xs
      → Conses layouts kit s v xs x (policy_state t a limits) limits' result new) → IfOk result IsList
  cons_stands x limits limits' result wrong conses = made_of_own IsList (new ≡ s) (is_kit_of s kit) (is_version_of s v) result wrong
      (λ kit_own own. consed x limits limits' result (conses kit_own own t account.0 inside.0 account.1 inside.1.stands))

  tailed : (result : Result HeapList ListFault) → Tails layouts kit.cell inside.0 t result new → IfOk result IsList
  tailed (Ok made) answers = (
    drop 1 inside.0,
    later layouts s new kit _ inside.1 (λ (u : Table ℕ). StandsForListOf new u made.root kit.cell (drop 1 inside.0)) answers.after answers.account answers.holds
        (roots_keep t answers.after (owned_with t made.root answers.stands.reference) answers.changed) answers.stands,
  )
  tailed (Err why) answers = tt

  pub tail_stands : (result : Result HeapList ListFault) → (is_version_of s v ≡ false → (result ≡ Err fault.WrongStore) × (new ≡ s))
      → (is_version_of s v ≡ true → (t : Table ℕ) (a : Account) (ty : ℕ) (xs : List ℤ) → HoldsAccount layouts s t a → StandsForListOf s t v ty xs → Tails layouts ty xs t result new) → IfOk result IsList
  tail_stands result wrong tails = made_of_own IsList (new ≡ s) true (is_version_of s v) result wrong (λ any own. tailed result (tails own t account.0 kit.cell inside.0 account.1 inside.1.stands))

-- So does a map.
module _ (layouts : Layouts) (s new : StoreView ℕ) (kit : Kit) (v : Option GcRootIndex) (inside : MapIn layouts s kit v) where
  abbrev table : Table ℕ
  table = inside.1.table

  some : (a : Account) × HoldsAccount layouts s table a
  some = some_account layouts s table inside.1.holds

  abbrev IsMade : HeapMap → Type 0
  IsMade made = MapIn layouts new kit made.root

  changed : (m : IntMap) (limits limits' : Limits) (counter : Option ℕ) (result : Result HeapMap ListFault) → AnswersMap layouts counter kit m table limits limits' result new → IfOk result IsMade
  changed m limits limits' counter (Ok made) answers = (
    m,
    later layouts s new kit _ inside.1 (λ (u : Table ℕ). StandsForMapOf new u made.root kit.node m) answers.after answers.account answers.holds
        (objects_keep kit most_objects table answers.after (owned_with table made.root answers.stands.reference) answers.changed) answers.stands,
  )
  changed m limits limits' counter (Err why) answers = tt

  pub change_stands : (change : IntMap → IntMap) (limits limits' : Limits) (counter : Option ℕ) (result : Result HeapMap ListFault)
      → ((is_kit_of s kit && is_version_of s v) ≡ false → (result ≡ Err fault.WrongStore) × (new ≡ s))
      → (is_kit_of s kit ≡ true → is_version_of s v ≡ true → (t : Table ℕ) (a : Account) (m : IntMap) → HoldsAccount layouts s t a → StandsForMapOf s t v kit.node m
      → AnswersMap layouts counter kit (change m) t limits limits' result new) → IfOk result IsMade
  change_stands change limits limits' counter result wrong changes = made_of_own IsMade (new ≡ s) (is_kit_of s kit) (is_version_of s v) result wrong
      (λ kit_own own. changed (change inside.0) limits limits' counter result (changes kit_own own table some.0 inside.0 some.1 inside.1.stands))

  -- a scoped root was pushed, or not
  pub still_pushed : IsSameStore s new → (r : Reference) (result : Result GcRootIndex RootFault) → ((t : Table ℕ) (a : Account) → HoldsAccount layouts s t a → PushesRoot layouts t a r result new) → MapIn layouts new kit v
  still_pushed same r result pushes = by result (pushes table some.0 some.1)
    where
      at : (u : Table ℕ) → HoldsAccount layouts new u some.0 → KeepsConstants table u → u.owned ≡ table.owned → MapIn layouts new kit v
      at u holds keeps owned =
          let stands = inside.1.stands in (
            inside.0,
            later layouts s new kit _ inside.1 (λ (u : Table ℕ). StandsForMapOf new u v kit.node inside.0) u some.0 holds keeps (record {
              reference = stands.reference;
              names = named_still s new table u [] same (owned ∙ sym (append-nil table.owned)) v stands.reference stands.names;
              is = map_stays table u keeps stands.reference kit.node inside.0 stands.is;
            }),
          )

      as_before : HoldsAccount layouts new table some.0 → MapIn layouts new kit v
      as_before holds = at table holds (record { types = λ ty d e. e; cells = λ p ty bits next of e. e; nodes = λ p ty key value height left right of e. e }) refl

      by : (answer : Result GcRootIndex RootFault) → PushesRoot layouts table some.0 r answer new → MapIn layouts new kit v
      by (Ok handle) pushed = at (push r table) pushed.1.1 (record { types = λ ty d e. e; cells = λ p ty bits next of e. e; nodes = λ p ty key value height left right of e. e }) refl
      by (Err root_fault.WrongStore) pushed = absurd pushed
      by (Err root_fault.Unrooted) pushed = absurd pushed
      by (Err root_fault.RootsFull) pushed = as_before pushed.1
      by (Err root_fault.Memory) pushed = as_before pushed
