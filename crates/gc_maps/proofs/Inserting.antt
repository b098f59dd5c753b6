-- The end of a call that makes another map: an owned root is made for it, and the scope left.
use Rattle.std.proofs.Common.{inl, inr, ◌≡◌, ℕ, ◌≤◌, ◌<◌, ℤ, Bool, true, List, ◌++◌, length, Option, Some, None, Result, Ok, Err, sym, ap, ◌∙◌, refl, subst, arith, to_z, of_z, w64, SFits}
use Rattle.std.specs.Ordering.{int_cmp}
use Rattle.std.specs.Cmp.{int_cmp_total}
use Rattle.std.specs.FinMap as finite
use Rattle.std.specs.FinMap.Entries.{put}
use Rattle.std.proofs.lemmas.Int.{to_z-of_z}
use Rattle.gc_types.specs.declared.kind.Layouts.{Layouts}
use Rattle.gc_model.specs.Values.{Reference, Object}
use Rattle.gc_model.specs.Allocation.{Limits, LacksMemory, no_heap, no_room}
use Rattle.gc_model.specs.Live.{roots_full}
use Rattle.gc_model.specs.OwnedRoots.{own, owned_full}
use Rattle.gc_model.specs.Table.{Table, leave, make_heap}
use Rattle.gc_model.specs.Stores.{StoreView}
use Rattle.gc_model.specs.Accounts.{Account, HoldsAccount}
use Rattle.gc_values.specs.declared.root.GcRootIndex.{GcRootIndex}
use Rattle.gc_store.specs.Roots.{owned_handle}
use Rattle.gc_lists.specs.declared.fault.ListFault.{ListFault}
use Rattle.gc_lists.specs.declared.fault.ListFault.TheVariants as fault
use Rattle.gc_lists.specs.declared.kit.Kit.{Kit}
use Rattle.gc_lists.specs.Answers.{AnswersVersion, KeepsRoot}
use Rattle.gc_lists.specs.Frames.{ChangesObjects, KeepsLimit, Leaves, most_objects}
use Rattle.gc_lists.specs.Kits.{IsNodeType}
use Rattle.gc_lists.specs.Refusals.{LacksCallRoots}
use Rattle.gc_lists.specs.Versions.{is_version_of}
use Rattle.gc_lists.proofs.Scopes.{next_owned}
use Rattle.gc_lists.proofs.Limiting.{counts_same, lacks_limit}
use Rattle.gc_lists.proofs.Refusing.{lacks_refused, refused_within}
use Rattle.gc_lists.proofs.Pages.{lacks_within, same_pages, within_then}
use Rattle.gc_maps.specs.declared.map.HeapMap.{HeapMap}
use Rattle.gc_maps.specs.declared.part.Part.{Part}
use Rattle.gc_maps.specs.Trees.{Tree}
use Rattle.gc_maps.specs.Maps.{IntMap, MapOfStands}
use Rattle.gc_maps.specs.Parts.{RootIs}
use Rattle.gc_maps.specs.Paths.{SearchOfIn, IsBuilt}
use Rattle.gc_maps.specs.Ends.{MakesNodes, EndsMakingNodes, LacksNode}
use Rattle.gc_maps.specs.Answers.{AnswersMap, AreEntries}
use Rattle.gc_maps.specs.Gaps.{others}
use Rattle.gc_maps.proofs.Naming.{held_table}
use Rattle.gc_maps.proofs.Growing.{grows_within}
use Rattle.gc_lists.proofs.Scopes.{leave_counts}
use Rattle.gc_maps.proofs.Leaving.{take_front, lacks_roots, map_root, map_search}
use Rattle.gc_maps.proofs.Removals.{entries_without}

pub map_of_in : {D : Type 0} (layouts : Layouts) (s : StoreView D) (ty : ℕ) (version : Option GcRootIndex) → IsNodeType s.types ty → MapOfStands D layouts s version ty → is_version_of s version ≡ true
    → SearchOfIn D layouts s ty version
map_of_in layouts s ty version of stands own =
    let in_some = stands own in
    record {
      of_nodes = of;
      table = in_some.table;
      holds = in_some.holds;
      tree = in_some.stands.is.tree;
      is = map_root s in_some.table version ty in_some.entries in_some.stands;
      search = map_search s in_some.table version ty in_some.entries in_some.stands;
    }

module _ {D : Type 0} (limit : Option ℕ) (kit : Kit) (t : Table D) where
  pub grows_left : (n m : ℕ) (u : Table D) → n ≤ most_objects → MakesNodes limit kit n m t u → ChangesObjects limit kit most_objects t t.owned (leave (length t.scoped) u)
  grows_left n m u below grows = let few = grows.few_made in record {
    made = grows.made;
    few = omega (arith, few, below);
    of_kit = grows.of_kit;
    pushes = grows.pushes;
    counts = let owns : u.owns ≡ t.owns = ap (λ (w : Table D). w.owns) grows.rest in leave_counts (length t.scoped) t u (ap (λ (w : Table D). w.drops) grows.rest) (omega (arith, owns));
    rest = ap (leave (length t.scoped)) grows.rest ∙ (λ i. record t {
      objects = t.objects ++ grows.made;
      scoped = take_front t.scoped grows.scoped i;
      pushes = t.pushes ++ grows.pushes;
      drops = ap (λ (w : Table D). (leave (length t.scoped) w).drops) (sym grows.rest) i;
      owns = ap (λ (w : Table D). w.owns) (sym grows.rest) i;
      made = u.made;
      pages = u.pages;
    });
    pages = same_pages limit t u (leave (length t.scoped) u) refl refl grows.pages;
  }

  pub grows_owned : (n m : ℕ) (u : Table D) (r : Reference) → n ≤ most_objects → MakesNodes limit kit n m t u → ChangesObjects limit kit most_objects t (own r t).owned (leave (length t.scoped) (own r u))
  grows_owned n m u r below grows = let few = grows.few_made in record {
    made = grows.made;
    few = omega (arith, few, below);
    of_kit = grows.of_kit;
    pushes = grows.pushes;
    counts = let owns : u.owns ≡ t.owns = ap (λ (w : Table D). w.owns) grows.rest in leave_counts (length t.scoped) t (own r u) (ap (λ (w : Table D). w.drops) grows.rest) (omega (arith, owns));
    rest = ap (λ (w : Table D). leave (length t.scoped) (own r w)) grows.rest ∙ (λ i. record t {
      objects = t.objects ++ grows.made;
      scoped = take_front t.scoped grows.scoped i;
      pushes = t.pushes ++ grows.pushes;
      drops = ap (λ (w : Table D). (leave (length t.scoped) (own r w)).drops) (sym grows.rest) i;
      owned = (own r t).owned;
      owns = ap (λ (w : Table D). (own r w).owns) (sym grows.rest) i;
      made = u.made;
      pages = u.pages;
    });
    pages = same_pages limit t u (leave (length t.scoped) (own r u)) refl refl grows.pages;
  }

  full_owned : (n m : ℕ) (u : Table D) → MakesNodes limit kit n m t u → owned_full u ≡ true → owned_full t ≡ true
  full_owned n m u grows full = subst (λ (w : Table D). owned_full w ≡ true) grows.rest full

  lacks_grown : (n m : ℕ) (u : Table D) → m < most_objects → MakesNodes limit kit n m t u → roots_full u ≡ true → LacksCallRoots t
  lacks_grown n m u below grows full =
      lacks_roots t m (record t { scoped = t.scoped ++ grows.scoped; pushes = t.pushes ++ grows.pushes }) below
      (record { scoped = grows.scoped; few = grows.few; pushes = grows.pushes; rest = refl }) (subst (λ (w : Table D). roots_full w ≡ true) grows.rest full)

  -- the heap got pages
  grows_pages : (n m : ℕ) (u u' : Table D) (made : Bool) (pages : ℕ) → u' ≡ record u { made = made; pages = pages } → KeepsLimit limit u u' → MakesNodes limit kit n m t u → MakesNodes limit kit n m t u'
  grows_pages n m u u' made pages is keeps grows = record {
    made = grows.made;
    of_kit = grows.of_kit;
    few_made = grows.few_made;
    scoped = grows.scoped;
    few = grows.few;
    pushes = grows.pushes;
    rest = is ∙ ap (λ (w : Table D). record w { made = made; pages = pages }) grows.rest
        ∙ (λ i. record t { objects = t.objects ++ grows.made; scoped = t.scoped ++ grows.scoped; pushes = t.pushes ++ grows.pushes; made = ap (λ (v : Table D). v.made) (sym is) i; pages = ap (λ (v : Table D). v.pages) (sym is) i });
    pages = within_then limit t u u' (ap (λ (w : Table D). w.first) grows.rest) grows.pages keeps;
  }

  lacks_pages : (n m : ℕ) (layouts : Layouts) (known : Option ℕ) (places : _) (o : Object D) (u u' : Table D) → LacksMemory layouts known places o u u' → KeepsLimit limit u u' → MakesNodes limit kit n m t u → MakesNodes limit kit n m t u'
  lacks_pages n m layouts known places o u u' (no_heap refused is) keeps grows = grows_pages n m u u' u.made u.pages is keeps grows
  lacks_pages n m layouts known places o u u' (no_room may refused lacks is) keeps grows = grows_pages n m u u' true (make_heap u).pages is keeps grows

-- a map's entries with one put, and without one
pub entries_put : (m : IntMap) (key value : ℤ) (es : List (ℤ × ℤ)) → finite.entries m ≡ es → put int_cmp key value es ≡ finite.entries (finite.insert m key value)
entries_put m key value es is = sym (finite.entries-insert int_cmp_total m key value ∙ ap (put int_cmp key value) is)

pub entries_cut : (m : IntMap) (key : ℤ) (es : List (ℤ × ℤ)) → finite.entries m ≡ es → others key es ≡ finite.entries (finite.remove m key)
entries_cut m key es is = sym (entries_without m key ∙ ap (others key) is)

-- a tree was built, or not, inside the scope
module _ {D : Type 0} (layouts : Layouts) (counter : Option ℕ) (kit : Kit) (nodes most : ℕ) (few : nodes ≤ most_objects) (low : most < most_objects) (t : Table D) (limits limits' : Limits) (m : IntMap) (mid new : StoreView D) where
  abbrev pub Built : StoreView D → Table D → Part → Type 0
  Built s u part = IsBuilt s u kit.node part (finite.entries m)

  -- the scope was left
  module _ (left : (u : Table D) (b : Account) → HoldsAccount layouts mid u b → HoldsAccount layouts new (leave (length t.scoped) u) b) where
    leaves_objects : (u : Table D) (b : Account) → HoldsAccount layouts mid u b → MakesNodes limits'.limit kit nodes most t u → Leaves layouts (ChangesObjects limits'.limit kit most_objects t t.owned) new
    leaves_objects u b holds grows = record { after = leave (length t.scoped) u; account = b; holds = left u b holds; changed = grows_left limits'.limit kit t nodes most u few grows }

    -- the limiter tells the same limit after the refusal
    keeps_within : {need : ℕ} (lacks : LacksNode layouts counter kit nodes most t limits limits' need mid) → KeepsLimit limits'.limit lacks.before.table lacks.lacks.after.table
    keeps_within lacks = subst (λ (l : Option ℕ). KeepsLimit l lacks.before.table lacks.lacks.after.table)
        (sym (lacks_limit layouts counter lacks.object lacks.before limits' _ mid lacks.lacks))
        (lacks_within lacks.before.limits.limit lacks.before.table lacks.lacks.after.table layouts _ lacks.object lacks.lacks.lacks)

    pub map_refused : (f : ListFault) → EndsMakingNodes {A = Part} layouts counter kit nodes most t limits limits' Built (Err f) mid → AnswersMap layouts counter kit m t limits limits' (Err f) new
    map_refused fault.WrongStore ends = ends
    map_refused fault.RootsFull ends = (inr (lacks_grown limits'.limit kit t nodes most ends.after low ends.changed.0 ends.changed.1), leaves_objects ends.after ends.account ends.holds ends.changed.0)
    map_refused (fault.HeapOutOfMemory f) ends = (
      record {
        inside = mid;
        lacks = record {
          before = ends.before;
          counts = ends.counts;
          grows = grows_within kit nodes most_objects most most_objects t ends.before.table few (omega (arith, low)) ends.grows;
          asked = ends.asked;
          held = ends.held;
          object = ends.object;
          of_kit = ends.of_kit;
          lacks = ends.lacks;
        };
        refused = refused_within f.bytes_needed limits ends.before.limits limits' limits' ends.lacks.after.table ends.lacks.after.table ends.counts (counts_same limits') refl
            (lacks_refused layouts counter ends.object ends.before limits' f.bytes_needed mid ends.lacks);
        left = left ends.lacks.after.table ends.lacks.after.account ends.lacks.holds;
      },
      leaves_objects ends.lacks.after.table ends.lacks.after.account ends.lacks.holds
          (lacks_pages limits'.limit kit t nodes most layouts ends.before.limits.limit _ ends.object ends.before.table ends.lacks.after.table ends.lacks.lacks (keeps_within ends) ends.grows),
    )
    map_refused fault.Memory ends = leaves_objects ends.after ends.account ends.holds ends.changed

    none_at : (u : Table D) (root : Option GcRootIndex) (tree : Tree) → root ≡ None → RootIs mid u kit.node root tree → RootIs mid u kit.node None tree
    none_at u root tree none is = subst (λ (r : Option GcRootIndex). RootIs mid u kit.node r tree) none is

    pub map_empty : (part : Part) → part.root ≡ None → EndsMakingNodes layouts counter kit nodes most t limits limits' Built (Ok part) mid → (map : HeapMap) → map.root ≡ None → AnswersMap layouts counter kit m t limits limits' (Ok map) new
    map_empty part none ends map empty =
        let b = ends.changed.1 in
        let root = none_at ends.after part.root b.tree none b.is.root in
        subst (λ (v : Option GcRootIndex). AnswersVersion layouts t (ChangesObjects limits'.limit kit most_objects t) (AreEntries kit.node m) v new) (sym empty) (record {
          after = leave (length t.scoped) ends.after;
          account = ends.account;
          holds = left ends.after ends.account ends.holds;
          stands = record { reference = root.reference; names = root.names; is = record { tree = b.tree; is = root.is; balanced = b.balanced; entries = sym b.pairs_are } };
          has_new_root = tt;
          changed = grows_left limits'.limit kit t nodes most ends.after few ends.changed.0;
        })

  -- an owned root was made, or not
  module _ (part : Part) (root : GcRootIndex) (there : part.root ≡ Some root) (ends : EndsMakingNodes layouts counter kit nodes most t limits limits' Built (Ok part) mid) where
    abbrev pub is_root : RootIs mid ends.after kit.node (Some root) ends.changed.1.tree
    is_root = subst (λ (r : Option GcRootIndex). RootIs mid ends.after kit.node r ends.changed.1.tree) there ends.changed.1.is.root

    abbrev pub Kept : Result GcRootIndex ListFault → Type 0
    Kept result = KeepsRoot layouts ends.after ends.account is_root.reference (leave (length t.scoped)) result new

    pub map_kept : (made : GcRootIndex) → Kept (Ok made) → AnswersVersion layouts t (ChangesObjects limits'.limit kit most_objects t) (AreEntries kit.node m) (Some made) new
    map_kept made kept = record {
      after = leave (length t.scoped) (own is_root.reference ends.after);
      account = ends.account;
      holds = kept.1.1;
      stands = record {
        reference = is_root.reference;
        names = record { number = ends.after.owns; names = kept.1.0; live = next_owned layouts mid ends.after (held_table layouts mid ends.after ends.account ends.holds) is_root.reference };
        is = record { tree = ends.changed.1.tree; is = is_root.is; balanced = ends.changed.1.balanced; entries = sym ends.changed.1.pairs_are };
      };
      has_new_root = kept.1.0 ∙ ap (λ (u : Table D). owned_handle new u.owns) ends.changed.0.rest;
      changed = grows_owned limits'.limit kit t nodes most ends.after is_root.reference few ends.changed.0;
    }

    pub keep_refused : (f : ListFault) → Kept (Err f) → AnswersMap layouts counter kit m t limits limits' (Err f) new
    keep_refused fault.WrongStore kept = kept
    keep_refused fault.RootsFull kept = (
      inl (full_owned limits'.limit kit t nodes most ends.after ends.changed.0 kept.0),
      record { after = leave (length t.scoped) ends.after; account = ends.account; holds = kept.1; changed = grows_left limits'.limit kit t nodes most ends.after few ends.changed.0 },
    )
    keep_refused (fault.HeapOutOfMemory f) kept = absurd kept
    keep_refused fault.Memory kept = record { after = leave (length t.scoped) ends.after; account = ends.account; holds = kept; changed = grows_left limits'.limit kit t nodes most ends.after few ends.changed.0 }

-- a key and a value that were passed on are those that were put, and the entries are the map's
pub as_put : {D : Type 0} (layouts : Layouts) (counter : Option ℕ) (kit : Kit) (t : Table D) (limits limits' : Limits) (m : IntMap) (key value : ℤ) (es : List (ℤ × ℤ)) → finite.entries m ≡ es → SFits w64 key → SFits w64 value
    → (result : Result Part ListFault) (new : StoreView D)
    → EndsMakingNodes layouts counter kit 277 829 t limits limits' (λ s u part. IsBuilt s u kit.node part (put int_cmp (to_z w64 (of_z w64 key)) (to_z w64 (of_z w64 value)) es)) result new
    → EndsMakingNodes layouts counter kit 277 829 t limits limits' (λ s u part. IsBuilt s u kit.node part (finite.entries (finite.insert m key value))) result new
as_put layouts counter kit t limits limits' m key value es is fits_k fits_v result new ends =
    subst (λ (xs : List (ℤ × ℤ)). EndsMakingNodes layouts counter kit 277 829 t limits limits' (λ s u part. IsBuilt s u kit.node part xs) result new) (entries_put m key value es is)
    (subst (λ (i : ℤ). EndsMakingNodes layouts counter kit 277 829 t limits limits' (λ s u part. IsBuilt s u kit.node part (put int_cmp i value es)) result new) (to_z-of_z w64 key fits_k)
    (subst (λ (n : ℤ). EndsMakingNodes layouts counter kit 277 829 t limits limits' (λ s u part. IsBuilt s u kit.node part (put int_cmp (to_z w64 (of_z w64 key)) n es)) result new) (to_z-of_z w64 value fits_v) ends))

-- the same of a key that was taken out
pub as_cut : {D : Type 0} (layouts : Layouts) (counter : Option ℕ) (kit : Kit) (t : Table D) (limits limits' : Limits) (m : IntMap) (key : ℤ) (es : List (ℤ × ℤ)) → finite.entries m ≡ es → SFits w64 key
    → (result : Result Part ListFault) (new : StoreView D)
    → EndsMakingNodes layouts counter kit 276 1012 t limits limits' (λ s u part. IsBuilt s u kit.node part (others (to_z w64 (of_z w64 key)) es)) result new
    → EndsMakingNodes layouts counter kit 276 1012 t limits limits' (λ s u part. IsBuilt s u kit.node part (finite.entries (finite.remove m key))) result new
as_cut layouts counter kit t limits limits' m key es is fits result new ends =
    subst (λ (xs : List (ℤ × ℤ)). EndsMakingNodes layouts counter kit 276 1012 t limits limits' (λ s u part. IsBuilt s u kit.node part xs) result new) (entries_cut m key es is)
    (subst (λ (i : ℤ). EndsMakingNodes layouts counter kit 276 1012 t limits limits' (λ s u part. IsBuilt s u kit.node part (others i es)) result new) (to_z-of_z w64 key fits) ends)
