-- What an insert on the way leaves.
use Rattle.std.proofs.Common.{◌≡◌, ◌+◌, ◌&&◌, ◌==◌, ℕ, suc, ℤ, pos, true, false, List, [], ◌<◌, ◌^◌, add-one, arith, Contains, to_z, of_z, w64, Option, Some, None, Result, Ok, Err, refl, sym, ap, ◌∙◌, subst}
use Rattle.std.specs.FinMap as finite
use Rattle.std.specs.Result.{MatchResult}
use Rattle.std.proofs.lemmas.Int.{to_z-of_z}
use Rattle.std.proofs.lemmas.List.{append-nil}
use Rattle.gc_types.specs.declared.kind.Layouts.{Layouts}
use Rattle.gc_types.specs.Declarations.{Declaration}
use Rattle.gc_model.specs.Allocation.{Limits, MayHave}
use Rattle.gc_model.specs.Reach.{root_references}
use Rattle.gc_model.specs.Values.{Reference, at}
use Rattle.gc_model.specs.Table.{Table, Owned}
use Rattle.gc_model.specs.Stores.{StoreView}
use Rattle.gc_model.specs.Accounts.{Account, HoldsAccount}
use Rattle.gc_values.specs.declared.root.GcRootIndex.{GcRootIndex}
use Rattle.gc_store.specs.Roots.{is_of_store}
use Rattle.gc_store.specs.Stores.{IsSameStore}
use Rattle.gc_store.proofs.HandleWords.{owned-of_store}
use Rattle.gc_lists.specs.declared.fault.ListFault.{ListFault}
use Rattle.gc_lists.specs.declared.fault.ListFault.TheVariants as fault
use Rattle.gc_lists.specs.declared.kit.Kit.{Kit}
use Rattle.gc_lists.specs.Answers.{Releases, owned_with}
use Rattle.gc_lists.specs.Constants.{KeepsConstants}
use Rattle.gc_lists.specs.Frames.{ChangesObjects, KeepsLimit, Leaves, most_objects}
use Rattle.gc_lists.specs.Kits.{IsKit, KitStands, is_kit_of}
use Rattle.gc_lists.specs.Versions.{VersionNames, is_version_of}
use Rattle.gc_lists.proofs.Pages.{still_within}
use Rattle.gc_lists.proofs.Standing.{named_still, objects_keep}
use Rattle.gc_maps.specs.declared.map.HeapMap.{HeapMap}
use Rattle.gc_maps.specs.Answers.{AnswersMap}
use Rattle.gc_maps.specs.Maps.{IntMap, MapOfStands, StandsForMapOf}
use Rattle.gc_maps.proofs.Staying.{map_stays}
use Rattle.gcsh_reports.specs.declared.fill.Filled.{Filled}
use Rattle.gcsh_reports.specs.Filling.{Fills, FillsUpTo, GivesUp, InsertGoes, HoldsProgress, HoldsWithin, Inserts, IsCountedRefusal, InsertProgress, InsertStep, begin_at, insert_key, owned_of, progress_of, refused, taken}
use Rattle.gcsh_reports.proofs.AloneLemmas.{given_up, names_alone}

-- a kit is still the store's
kit_still : (s new : StoreView ℕ) (kit : Kit) → IsSameStore s new → is_kit_of s kit ≡ true → is_kit_of new kit ≡ true
kit_still s new kit same is =
    ap (λ n. (kit.store_id.engine == n) && (kit.store_id.number == new.number)) same.engine ∙ ap (λ n. (kit.store_id.engine == s.engine) && (kit.store_id.number == n)) same.number ∙ is

module _ (layouts : Layouts) (limit : Option ℕ) (kit : Kit) (p : InsertProgress) (held : HoldsProgress layouts limit kit p) where
  -- the version is the store's
  pub version_own : is_version_of p.store p.version ≡ true
  version_own = by p.version held.stands.reference held.stands.names
    where
      by : (v : Option GcRootIndex) (r : Reference) → VersionNames p.store held.table v r → is_version_of p.store v ≡ true
      by None r names = refl
      by (Some h) r names = ap (is_of_store p.store) names.names ∙ owned-of_store p.store names.number

  -- the premises of a call
  pub kit_stands : KitStands p.store kit
  kit_stands own = subst (λ (types : List Declaration). IsKit types kit) (sym held.holds.holds.types) held.kit_is

  pub map_stands : MapOfStands ℕ layouts p.store p.version kit.node
  map_stands own = record { table = held.table; holds = (held.holds.place, held.holds.holds); entries = p.entries; stands = held.stands }

  -- the clause of the call, where its answer is known
  pub inserts_as : (key value key' value' : ℤ) (same_key : key' ≡ key) (same_value : value' ≡ value) (limits' : Limits) (same_limit : limits'.limit ≡ limit) (result known : Result HeapMap ListFault) (new : StoreView ℕ) → (is_kit_of p.store kit ≡ true → is_version_of p.store p.version ≡ true → (t : Table ℕ) (a : Account) (m : IntMap) → HoldsAccount layouts p.store t a
      → StandsForMapOf p.store t p.version kit.node m → AnswersMap layouts p.store.alloc_counter kit (finite.insert m key' value') t p.limits limits' result new) → result ≡ known → Inserts layouts limit kit key value p known limits' new
  inserts_as key value key' value' same_key same_value limits' same_limit result known new clause is = λ t a holds stands. (
    same_limit,
    subst (λ (r : Result HeapMap ListFault). AnswersMap layouts p.store.alloc_counter kit (finite.insert p.entries key value) t p.limits limits' r new) is
        (subst (λ (m : IntMap). AnswersMap layouts p.store.alloc_counter kit m t p.limits limits' result new) (λ i. finite.insert p.entries (same_key i) (same_value i)) (clause held.kit_of version_own t a p.entries holds stands)),
  )

  module _ (key value : ℤ) (limits' : Limits) (new : StoreView ℕ) where
    -- a table that keeps what is constant
    kit_kept : (u : Table ℕ) → KeepsConstants held.table u → IsKit u.types kit
    kit_kept u keeps = record { cells = keeps.types kit.cell _ held.kit_is.cells; nodes = keeps.types kit.node _ held.kit_is.nodes }

    -- what a call leaves that makes nodes and gives no version
    abbrev Left : Type 0
    Left = Leaves layouts (ChangesObjects limit kit most_objects held.table held.table.owned) new

    -- no other root came to name an object
    others_stay : {l : Option ℕ} {owned : List Owned} (u : Table ℕ) → ChangesObjects l kit most_objects held.table owned u → (n : ℕ) → ¬ Contains (root_references (record u { owned = [] })) (at n)
    others_stay u changed n among = held.alone.others n (subst (λ (roots : List Reference). Contains roots (at n)) (ap (λ (v : Table ℕ). root_references (record v { owned = [] })) changed.rest) among)

    -- the limiter's limit is this one
    grants : (limits : Limits) → limits.limit ≡ limit → (u : Table ℕ) → KeepsLimit limits.limit held.table u → MayHave limit u.pages
    grants limits same u keeps = still_within limit held.table u (subst (λ (l : Option ℕ). KeepsLimit l held.table u) same keeps) held.within

    left_under : (limits : Limits) → limits.limit ≡ limit → Leaves layouts (ChangesObjects limits.limit kit most_objects held.table held.table.owned) new → Left
    left_under limits same leaves = subst (λ (l : Option ℕ). Leaves layouts (ChangesObjects l kit most_objects held.table held.table.owned) new) same leaves

    left_within : Left → HoldsWithin layouts limit new
    left_within leaves = record {
      table = leaves.after;
      holds = (leaves.holds.place, leaves.holds.holds);
      within = still_within limit held.table leaves.after leaves.changed.pages held.within;
    }

    -- memory was wanting
    pub wants_within : Inserts layouts limit kit key value p (Err fault.Memory) limits' new → HoldsWithin layouts limit new
    wants_within inserts = let inserted = inserts held.table held.account held.holds held.stands in left_within (left_under limits' inserted.0 inserted.1)

    -- the version was taken, and then the one before was not the store's, which it is
    pub never_foreign : Inserts layouts limit kit key value p (Err fault.WrongStore) limits' new → ⊥
    never_foreign inserts = (inserts held.table held.account held.holds held.stands).1

    pub taken_within : (map : HeapMap) → Inserts layouts limit kit key value p (Ok map) limits' new → HoldsWithin layouts limit new
    taken_within map inserts =
        let inserted = inserts held.table held.account held.holds held.stands in
        let answers = inserted.1 in
        record {
          table = answers.after;
          holds = (answers.holds.place, answers.holds.holds);
          within = grants limits' inserted.0 answers.after answers.changed.pages;
        }

    -- the insert was taken, and the version before given up
    pub goes_taken : (map : HeapMap) (mid : StoreView ℕ) → IsSameStore p.store mid → IsSameStore p.store new → IsSameStore mid new → Inserts layouts limit kit key value p (Ok map) limits' mid → GivesUp layouts mid p.version new
        → (q : Filled) → q.map.root ≡ map.root → q.refused ≡ p.refused → InsertGoes layouts limit kit key value p new limits' q
    goes_taken map mid begun all over inserts gives_up q same counted =
        let inserted = inserts held.table held.account held.holds held.stands in
        let answers = inserted.1 in
        let owned = ap (λ (v : Table ℕ). v.owned) answers.changed.rest in
        let left = given_up layouts p.store held.table held.account held.holds mid new begun over map.root answers.stands.reference answers.has_new_root answers.after answers.account answers.holds owned p.version held.stands.reference
        held.stands.names held.alone.owned (gives_up answers.after answers.account answers.holds) in
        let names = names_alone layouts p.store held.table held.account held.holds mid new begun over map.root answers.stands.reference answers.has_new_root answers.after answers.account answers.holds owned map.root answers.stands.names in
        let u : Table ℕ = record answers.after { owned = owned_of map.root answers.stands.reference } in
        let keeps = objects_keep kit most_objects held.table answers.after (owned_with held.table map.root answers.stands.reference) answers.changed in
        record {
          entries = finite.insert p.entries key value;
          step = taken map mid inserts gives_up begun over (λ i. record { store = new; limits = limits'; version = same i; entries = finite.insert p.entries key value; refused = counted i });
          held = record {
            table = u;
            account = answers.account;
            holds = left;
            kit_is = kit_kept answers.after keeps;
            kit_of = kit_still p.store new kit all held.kit_of;
            stands = record { reference = answers.stands.reference; names = subst (λ (v : Option GcRootIndex). VersionNames new u v answers.stands.reference) (sym same) names; is = answers.stands.is };
            within = grants limits' inserted.0 answers.after answers.changed.pages;
            alone = record { owned = ap (λ (v : Option GcRootIndex). owned_of v answers.stands.reference) (sym same); others = others_stay answers.after answers.changed };
          };
        }

    -- all stays as it was but for objects
    still_held : (count : ℕ) → IsSameStore p.store new → Left → HoldsProgress layouts limit kit (record p { store = new; limits = limits'; refused = count })
    still_held count same leaves =
        let keeps = objects_keep kit most_objects held.table leaves.after held.table.owned leaves.changed in
        let owned = ap (λ (v : Table ℕ). v.owned) leaves.changed.rest ∙ sym (append-nil held.table.owned) in
        record {
          table = leaves.after;
          account = leaves.account;
          holds = leaves.holds;
          kit_is = kit_kept leaves.after keeps;
          kit_of = kit_still p.store new kit same held.kit_of;
          stands = record {
            reference = held.stands.reference;
            names = named_still p.store new held.table leaves.after [] same owned p.version held.stands.reference held.stands.names;
            is = map_stays held.table leaves.after keeps held.stands.reference kit.node p.entries held.stands.is;
          };
          within = still_within limit held.table leaves.after leaves.changed.pages held.within;
          alone = record { owned = ap (λ (v : Table ℕ). v.owned) leaves.changed.rest ∙ held.alone.owned; others = others_stay leaves.after leaves.changed };
        }

    -- what a refusal that counts leaves
    leaves_of : (why : ListFault) → IsCountedRefusal why → Inserts layouts limit kit key value p (Err why) limits' new → Left
    leaves_of fault.WrongStore counts inserts = absurd counts
    leaves_of fault.RootsFull counts inserts = left_under limits' (inserts held.table held.account held.holds held.stands).0 (inserts held.table held.account held.holds held.stands).1.1
    leaves_of (fault.HeapOutOfMemory f) counts inserts = left_under limits' (inserts held.table held.account held.holds held.stands).0 (inserts held.table held.account held.holds held.stands).1.1
    leaves_of fault.Memory counts inserts = absurd counts

    -- the insert was refused
    pub goes_refused : (why : ListFault) → IsCountedRefusal why → IsSameStore p.store new → Inserts layouts limit kit key value p (Err why) limits' new → (q : Filled) → q.map.root ≡ p.version → q.refused ≡ p.refused + 1 → InsertGoes layouts limit kit key value p new limits' q
    goes_refused why counts same inserts q version counted =
        record {
          entries = p.entries;
          step = refused why inserts counts same (λ i. record p { store = new; limits = limits'; version = version i; refused = counted i });
          held = subst (λ (v : Option GcRootIndex). HoldsProgress layouts limit kit (record { store = new; limits = limits'; version = v; entries = p.entries; refused = q.refused })) (sym version) (still_held q.refused same (leaves_of why counts inserts));
        }

-- the clause of giving a version up, where it was
pub gives_up_as : (layouts : Layouts) (mid new : StoreView ℕ) (version : Option GcRootIndex) (result : Result (Unit {0}) HeapMap) (x : Unit {0})
    → ((t : Table ℕ) (a : Account) → HoldsAccount layouts mid t a → MatchResult result (λ done. (is_version_of mid version ≡ true) × Releases layouts mid t a version new) (λ (back : HeapMap). (is_version_of mid version ≡ false) × (back.root ≡ version)))
    → result ≡ Ok x → GivesUp layouts mid version new
gives_up_as layouts mid new version result x clause is = λ t a holds.
    (subst (λ (r : Result (Unit {0}) HeapMap). MatchResult r (λ done. (is_version_of mid version ≡ true) × Releases layouts mid t a version new) (λ (back : HeapMap). (is_version_of mid version ≡ false) × (back.root ≡ version))) is (clause t a holds)).1

module _ (layouts : Layouts) (limits : Limits) (kit : Kit) (inserts : ℕ) (start : StoreView ℕ) where
  -- nothing was inserted yet
  pub fills_none : (f : Filled) → f.map.root ≡ None → f.refused ≡ 0 → HoldsProgress layouts limits.limit kit (begin_at start limits) → FillsUpTo layouts limits kit inserts start 0 start limits f
  fills_none f root count held = record {
    entries = finite.from_sorted [];
    fills = λ i. record { store = start; limits = limits; version = root i; entries = finite.from_sorted []; refused = count i };
    held = subst (λ (p : InsertProgress). HoldsProgress layouts limits.limit kit p) (λ i. record { store = start; limits = limits; version = sym root i; entries = finite.from_sorted []; refused = sym count i }) held;
  }

  -- one insert more
  pub fills_more : (k : ℕ) (s new : StoreView ℕ) (between limits' : Limits) (f after : Filled) (key value : ℤ) → key ≡ insert_key inserts (suc k) → value ≡ pos (suc k) → (upto : FillsUpTo layouts limits kit inserts start k s between f) → InsertGoes layouts limits.limit kit key value (progress_of s between f upto.entries) new limits' after
      → FillsUpTo layouts limits kit inserts start (k + 1) new limits' after
  fills_more k s new between limits' f after key value same_key same_value upto goes = record {
    entries = goes.entries;
    fills = subst (λ n. Fills layouts limits kit inserts start n (progress_of new limits' after goes.entries)) (sym (add-one k)) (
      progress_of s between f upto.entries,
      (
        upto.fills,
        subst (λ (x : ℤ). InsertStep layouts limits.limit kit x (pos (suc k)) (progress_of s between f upto.entries) (progress_of new limits' after goes.entries)) same_key
            (subst (λ (x : ℤ). InsertStep layouts limits.limit kit key x (progress_of s between f upto.entries) (progress_of new limits' after goes.entries)) same_value goes.step),
      ),
    );
    held = goes.held;
  }

-- a small number that is passed on is that number
pub passed_on : (z : ℤ) (n : ℕ) → z ≡ pos n → n < 2 ^ 63 → to_z w64 (of_z w64 z) ≡ pos n
passed_on z n is small = ap (λ (x : ℤ). to_z w64 (of_z w64 x)) is ∙ to_z-of_z w64 (pos n) (record { sfits = omega (arith, small) })

-- the same under the same limit
pub goes_under : (layouts : Layouts) (kit : Kit) (p : InsertProgress) (new : StoreView ℕ) (limits' : Limits) (f : Filled) {key value : ℤ} (l l' : Option ℕ) → l ≡ l' → InsertGoes layouts l kit key value p new limits' f → InsertGoes layouts l' kit key value p new limits' f
goes_under layouts kit p new limits' f {key} {value} l l' same goes = subst (λ (m : Option ℕ). InsertGoes layouts m kit key value p new limits' f) same goes

pub held_under : (layouts : Layouts) (kit : Kit) (p : InsertProgress) (l l' : Option ℕ) → l' ≡ l → HoldsProgress layouts l kit p → HoldsProgress layouts l' kit p
held_under layouts kit p l l' same held = subst (λ (m : Option ℕ). HoldsProgress layouts m kit p) (sym same) held
