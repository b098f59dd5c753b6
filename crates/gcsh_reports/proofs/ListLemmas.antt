-- What the report says of a map that was filled.
use Rattle.std.proofs.Common.{inl, inr, ◌⊎◌, None, arith, Contains, ◌≡◌, ◌+◌, ◌&&◌, ◌==◌, ℕ, ℤ, true, List, [], ◌∷◌, ◌++◌, length, slice_get, sum_by, Option, Some, Result, Ok, Err, IfOk, refl, sym, ap, ◌∙◌, subst}
use Rattle.std.specs.Prelude.{codes, unsigned_abs}
use Rattle.std.specs.FinMap as finite
use Rattle.std.specs.Result.{MatchResult, OnErr}
use Rattle.std.specs.Ordering.{int_cmp}
use Rattle.std.proofs.lemmas.Bool.{eq-eqb}
use Rattle.std.proofs.lemmas.List.{append-nil, length-append}
use Rattle.gc_types.specs.declared.kind.Layouts.{Layouts}
use Rattle.gc_types.specs.declared.types.TypeFault.{TypeFault}
use Rattle.gc_types.specs.declared.types.TypeFault.TheVariants as type_fault
use Rattle.gc_model.proofs.Lists.{slice_get-push_new, slice_get-push_old}
use Rattle.gc_model.specs.Holds.{HoldsKept, HoldsTable}
use Rattle.gc_model.specs.Reach.{HasNumber, IsKept, root_references}
use Rattle.gc_model.specs.Values.{Reference, null, at}
use Rattle.gc_model.specs.Allocation.{Limits, MayHave}
use Rattle.gc_model.specs.Table.{Table, Owned, declare}
use Rattle.gc_model.specs.Stores.{StoreView}
use Rattle.gc_model.specs.Accounts.{Account, HoldsAccount}
use Rattle.gc_store.specs.Stores.{IsSameStore}
use Rattle.gc_lists.specs.declared.kit.Kit.{Kit}
use Rattle.gc_lists.specs.Frames.{ChangesOwned, Leaves}
use Rattle.gc_lists.specs.Kits.{IsKit, MakesKit, cell_type, declare_kit, is_kit_of, kit_behind, node_type}
use Rattle.gc_lists.specs.declared.fault.ListFault.{ListFault}
use Rattle.gc_lists.specs.declared.fault.ListFault.TheVariants as fault
use Rattle.gc_lists.specs.Versions.{is_version_of}
use Rattle.gc_lists.proofs.Standing.{named_still, roots_keep}
use Rattle.gc_maps.specs.Copies.{CopiedEntries, FailsToCopyEntries}
use Rattle.gc_maps.specs.Maps.{IntMap, MapStands, StandsForMap}
use Rattle.gc_maps.specs.Trees.{leaf}
use Rattle.gc_maps.proofs.Reaching.{map_nodes}
use Rattle.gc_maps.proofs.Staying.{map_stays}
use Rattle.gcsh_reports.specs.declared.fill.Filled.{Filled}
use Rattle.gcsh_reports.specs.Filling.{FillsUpTo, HoldsProgress, HoldsWithin, IsAlone, InsertProgress, begin_at, progress_of}
use Rattle.gcsh_reports.proofs.AloneLemmas.{holds_entries, reached_alone}
use Rattle.gcsh_reports.proofs.FillLemmas.{version_own}
use Rattle.gcsh_reports.specs.FillReports.{TellsFill, fill_text, filled, full, sum_of}

own_kit : (s : StoreView ℕ) (t : Table ℕ) → is_kit_of s (kit_behind s t) ≡ true
own_kit s t = ap (λ b. b && (s.number == s.number)) (eq-eqb s.engine s.engine refl) ∙ eq-eqb s.number s.number refl

-- what is said of an answer, in other words
pub if_ok : {T E : Type 0} (r : Result T E) (A B : T → Type 0) → ((x : T) → A x → B x) → IfOk r A → IfOk r B
if_ok (Ok x) A B goes said = goes x said
if_ok (Err e) A B goes said = tt

pub always : {T E P : Type 0} (r : Result T E) → P → OnErr r P
always (Ok x) p = tt
always (Err e) p = p

-- any limit grants no pages
pub none_within : (limit : Option ℕ) → MayHave limit 0
none_within None = tt
none_within (Some most) = omega arith

-- a kit was not made
pub unmade_within : (layouts : Layouts) (limit : Option ℕ) (t : Table ℕ) (a : Account) (new : StoreView ℕ) (why : TypeFault) → MayHave limit t.pages → MakesKit layouts t a (Err why) new → HoldsWithin layouts limit new
unmade_within layouts limit t a new type_fault.BadType within made = record { table = t; holds = (made.1.place, made.1.holds); within = within }
unmade_within layouts limit t a new type_fault.Memory within made = by made.1
  where
    by : HoldsAccount layouts new t a ⊎ HoldsAccount layouts new (declare (cell_type (length t.types)) t) a → HoldsWithin layouts limit new
    by (inl holds) = record { table = t; holds = (holds.place, holds.holds); within = within }
    by (inr holds) = record { table = declare (cell_type (length t.types)) t; holds = (holds.place, holds.holds); within = within }

-- a kit was made, and nothing is filled yet
pub begins : (layouts : Layouts) (limits : Limits) (t : Table ℕ) (a : Account) (new : StoreView ℕ) (kit : Kit) → MayHave limits.limit t.pages → IsAlone t None null → MakesKit layouts t a (Ok kit) new → HoldsProgress layouts limits.limit kit (begin_at new limits)
begins layouts limits t a new kit within alone made = record {
  table = declare_kit t;
  account = a;
  holds = made.1;
  kit_is = subst (λ (k : Kit). IsKit (declare_kit t).types k) (sym made.0) (record {
    cells = slice_get-push_old (t.types ++ cell_type (length t.types) ∷ []) (node_type (length t.types + 1)) (length t.types) _ (slice_get-push_new t.types (cell_type (length t.types)));
    nodes = subst (λ n. slice_get (declare_kit t).types n ≡ Some (node_type (length t.types + 1))) (length-append t.types (cell_type (length t.types) ∷ []))
        (slice_get-push_new (t.types ++ cell_type (length t.types) ∷ []) (node_type (length t.types + 1)));
  });
  kit_of = subst (λ (k : Kit). is_kit_of new k ≡ true) (sym made.0) (own_kit new t);
  stands = record { reference = null; names = refl; is = record { tree = leaf; is = refl; balanced = tt; entries = finite.entries-from_sorted int_cmp [] tt } };
  within = within;
  alone = record { owned = alone.owned; others = alone.others };
}

-- the clause of making a kit, where one was made
pub kit_known : (layouts : Layouts) (old start : StoreView ℕ) (result : Result Kit TypeFault) (kit : Kit) → ((t : Table ℕ) (a : Account) → HoldsAccount layouts old t a → MakesKit layouts t a result start) → result ≡ Ok kit
    → (t : Table ℕ) (a : Account) → HoldsAccount layouts old t a → MakesKit layouts t a (Ok kit) start
kit_known layouts old start result kit makes is t a holds = subst (λ (r : Result Kit TypeFault). MakesKit layouts t a r start) is (makes t a holds)

module _ (layouts : Layouts) (limits : Limits) (inserts : ℕ) (old start full_store : StoreView ℕ) (kit : Kit) (made : (t : Table ℕ) (a : Account) → HoldsAccount layouts old t a → MakesKit layouts t a (Ok kit) start) (limits' : Limits) (f : Filled)
    (upto : FillsUpTo layouts limits kit inserts start inserts full_store limits' f) where
  abbrev done : InsertProgress
  done = progress_of full_store limits' f upto.entries

  -- the premise of copying
  pub map_stands : MapStands ℕ layouts full_store f.map.root
  map_stands own = (kit.node, record { table = upto.held.table; holds = (upto.held.holds.place, upto.held.holds.holds); entries = upto.entries; stands = upto.held.stands })

  -- the clause of copying, where its answer is known
  module _ {V : Type 0} (items : V → List (ℤ × ℤ)) (copied : StoreView ℕ) (result : Result V ListFault) where
    abbrev Copies : Result V ListFault → Type 0
    Copies r = MatchResult r (λ (v : V). CopiedEntries layouts upto.entries upto.held.table (items v) copied) (λ (why : ListFault). FailsToCopyEntries layouts upto.entries upto.held.table why copied)

    module _ (clause : is_version_of full_store f.map.root ≡ true → (t : Table ℕ) (a : Account) (m : IntMap) → HoldsAccount layouts full_store t a → StandsForMap full_store t f.map.root m
        → MatchResult result (λ (v : V). CopiedEntries layouts m t (items v) copied) (λ (why : ListFault). FailsToCopyEntries layouts m t why copied)) where
      copies : Copies result
      copies = clause (version_own layouts limits.limit kit done upto.held) upto.held.table upto.held.account upto.entries upto.held.holds (kit.node, upto.held.stands)

      pub copied_as : (v : V) → result ≡ Ok v → CopiedEntries layouts upto.entries upto.held.table (items v) copied
      copied_as v is = subst Copies is copies

      pub fails_as : (why : ListFault) → result ≡ Err why → FailsToCopyEntries layouts upto.entries upto.held.table why copied
      fails_as why is = subst Copies is copies

  -- roots that were pushed change no pages
  roots_within : (t u : Table ℕ) (owned : List Owned) → ChangesOwned t owned u → MayHave limits.limit t.pages → MayHave limits.limit u.pages
  roots_within t u owned changed within = subst (MayHave limits.limit) (sym (ap (λ (v : Table ℕ). v.pages) changed.rest)) within

  left_within : (new : StoreView ℕ) → Leaves layouts (ChangesOwned upto.held.table upto.held.table.owned) new → HoldsWithin layouts limits.limit new
  left_within new leaves = record {
    table = leaves.after;
    holds = (leaves.holds.place, leaves.holds.holds);
    within = roots_within upto.held.table leaves.after upto.held.table.owned leaves.changed upto.held.within;
  }

  -- the entries were not copied, for want of memory or of roots
  pub uncopied_within : (why : ListFault) (new : StoreView ℕ) → FailsToCopyEntries layouts upto.entries upto.held.table why new → HoldsWithin layouts limits.limit new
  uncopied_within fault.WrongStore new fails = absurd fails
  uncopied_within fault.RootsFull new fails = left_within new fails.1
  uncopied_within (fault.HeapOutOfMemory f) new fails = absurd fails
  uncopied_within fault.Memory new fails = left_within new fails

  -- they were, and the heap was collected
  pub collected_within : (copied new : StoreView ℕ) (entries : List (ℤ × ℤ)) → CopiedEntries layouts upto.entries upto.held.table entries copied → ((t : Table ℕ) → HoldsTable layouts copied t → HoldsKept layouts new t) → HoldsWithin layouts limits.limit new
  collected_within copied new entries copies kept =
      let here = left_within copied copies.1 in
      let now = kept here.table here.holds in
      record { table = here.table; holds = (now.0, now.1.0); within = here.within }

  -- the entries were copied, and the heap collected
  pub tells_filled : (copied new : StoreView ℕ) (entries : List (ℤ × ℤ)) (held : ℕ) (text : List ℕ) → IsSameStore full_store copied → IsSameStore copied new
      → CopiedEntries layouts upto.entries upto.held.table entries copied → ((t : Table ℕ) → HoldsTable layouts copied t → HoldsKept layouts new t) → ((t : Table ℕ) → HoldsKept layouts new t → HasNumber (IsKept layouts t) held)
      → text ≡ fill_text (length entries) f.refused held (sum_by (λ (entry : ℤ × ℤ). unsigned_abs entry.1) entries) → TellsFill layouts limits inserts old text new
  tells_filled copied new entries held text same after copies kept counts is =
      let t = upto.held.table in
      let u = copies.1.after in
      let keeps = roots_keep t u t.owned copies.1.changed in
      let owned = ap (λ (v : Table ℕ). v.owned) copies.1.changed.rest ∙ sym (append-nil t.owned) in
      let all : IsSameStore full_store new = record { engine = after.engine ∙ same.engine; number = after.number ∙ same.number; counter = after.counter ∙ same.counter } in
      let kept_is = kept u (copies.1.holds.place, copies.1.holds.holds) in
      let reference = upto.held.stands.reference in
      let names = named_still full_store new t u [] all owned f.map.root reference upto.held.stands.names in
      let is_map = map_stays t u keeps reference kit.node upto.entries upto.held.stands.is in
      let alone : IsAlone u f.map.root reference = record {
        owned = ap (λ (v : Table ℕ). v.owned) copies.1.changed.rest ∙ upto.held.alone.owned;
        others = λ p among. upto.held.alone.others p (subst (λ (roots : List Reference). Contains roots (at p)) (ap (λ (v : Table ℕ). root_references (record v { owned = [] })) copies.1.changed.rest) among);
      } in
      filled (record {
        kit = kit;
        done = done;
        filled = record { start = start; kit_made = made; fills = upto.fills };
        before = t;
        account = upto.held.account;
        holds = upto.held.holds;
        table = u;
        changed = copies.1.changed;
        same = all;
        kept = kept_is;
        stands = record { reference = reference; names = names; is = is_map };
        held = held;
        held_is = counts u kept_is;
        held_entries = holds_entries layouts u (finite.len upto.entries) held (reached_alone u f.map.root reference new names alone _ (map_nodes u.types u.objects kit.node upto.entries reference is_map)) (counts u kept_is);
        text_is = is ∙ ap (λ (es : List (ℤ × ℤ)). fill_text (length es) f.refused held (sum_by (λ (entry : ℤ × ℤ). unsigned_abs entry.1) es)) copies.0
            ∙ ap (λ n. fill_text n f.refused held (sum_of upto.entries)) (sym (finite.len-entries upto.entries));
        within = roots_within t u t.owned copies.1.changed upto.held.within;
      })

  -- they could not be
  pub tells_full : (new : StoreView ℕ) (text : List ℕ) → FailsToCopyEntries layouts upto.entries upto.held.table fault.RootsFull new → text ≡ codes "RootsFull" ++ 10 ∷ [] → TellsFill layouts limits inserts old text new
  tells_full new text fails is = full (record {
    kit = kit;
    done = done;
    filled = record { start = start; kit_made = made; fills = upto.fills };
    table = upto.held.table;
    account = upto.held.account;
    holds = upto.held.holds;
    within = upto.held.within;
    fails = fails;
    text_is = is;
  })
