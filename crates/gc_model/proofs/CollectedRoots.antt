-- The roots of a store stand for the table's after their words were moved.
use Rattle.std.proofs.Common.{ℕ, ◌<◌, List, map, Option, Some, None, Contains, sym, ap, ◌∙◌, subst}
use Rattle.std.specs.List.{flat_map}
use Rattle.std.proofs.lemmas.List.{length-map}
use Rattle.gc_owner.specs.declared.entry.RootEntry.{RootEntry}
use Rattle.gc_owner.specs.declared.entry.SlotEntry.{SlotEntry}
use Rattle.gc_owner.specs.declared.entry.OwnedEntry.{OwnedEntry}
use Rattle.gc_model.proofs.Members.{map_among, among_map, pairs_map}
use Rattle.gc_model.specs.Values.{Reference, Object}
use Rattle.gc_model.specs.Table.{Scoped, Push, Slot, Owned}
use Rattle.gc_model.specs.Words.{Placing, IsWord}
use Rattle.gc_model.specs.RootPoints.{ScopedBy, SlotsBy, FramesBy, GlobalsBy, OwnedRootBy, OwnedBy, PendingBy, ThrownBy}
use Rattle.gc_heap.specs.Collection.{moved}
use Rattle.gc_model.proofs.CollectedLists.{get_contains, flat_contains, map_get, map_source}
use Rattle.gc_model.proofs.Frames.{words_of}

module _ (to : ℕ → ℕ) (place place' : Placing) where
  -- the word of each reference that has one of these is, moved, its word under the other placing
  abbrev pub Carried : List ℕ → Type 0
  Carried words = (r : Reference) (w : ℕ) → Contains words w → IsWord place r w → IsWord place' r (moved to w)

  -- it isn't null where it wasn't
  abbrev pub StaysPresent : Type 0
  StaysPresent = (r : Reference) (w : ℕ) → 0 < w → IsWord place r w → IsWord place' r (moved to w) → 0 < moved to w

  abbrev moved_entry : RootEntry → RootEntry
  moved_entry e = record e { word = moved to e.word }

  abbrev moved_slot : SlotEntry → SlotEntry
  moved_slot e = record e { word = moved to e.word }

  pub scoped-carried : (pushes : List Push) (roots : List Scoped) (entries : List RootEntry) → Carried (map (λ (e : RootEntry). e.word) entries) → StaysPresent → ScopedBy pushes place roots entries
      → ScopedBy pushes place' roots (map moved_entry entries)
  scoped-carried pushes roots entries carried present by = record {
    same_count = length-map entries moved_entry ∙ by.same_count;
    each = λ i entry root e f.
        let was = map_source moved_entry entries i entry e in
        let stands = by.each i was.0 root was.1.0 f in
        let among : Contains (map (λ (x : RootEntry). x.word) entries) was.0.word = get_contains (map (λ (x : RootEntry). x.word) entries) i was.0.word (map_get (λ (x : RootEntry). x.word) entries i was.0 was.1.0) in
        let word = carried root.reference was.0.word among stands.word in
        record {
          pushed = stands.pushed ∙ ap (λ (x : RootEntry). Some (record { index = i; generation = x.generation })) was.1.1;
          word = subst (λ (x : RootEntry). IsWord place' root.reference x.word) was.1.1 word;
          not_null = subst (λ (x : RootEntry). 0 < x.word) was.1.1 (present root.reference was.0.word stands.not_null stands.word word);
        };
  }

  pub slots-carried : (slots : List Slot) (entries : List SlotEntry) → Carried (map (λ (e : SlotEntry). e.word) entries) → SlotsBy place slots entries → SlotsBy place' slots (map moved_slot entries)
  slots-carried slots entries carried by = record {
    same_count = length-map entries moved_slot ∙ by.same_count;
    each = λ i entry slot e f.
        let was = map_source moved_slot entries i entry e in
        let stands = by.each i was.0 slot was.1.0 f in
        let among : Contains (map (λ (x : SlotEntry). x.word) entries) was.0.word = get_contains (map (λ (x : SlotEntry). x.word) entries) i was.0.word (map_get (λ (x : SlotEntry). x.word) entries i was.0 was.1.0) in
        record {
          class = ap (λ (x : SlotEntry). x.class) (sym was.1.1) ∙ stands.class;
          word = subst (λ (x : SlotEntry). IsWord place' slot.reference x.word) was.1.1 (carried slot.reference was.0.word among stands.word);
        };
  }

  pub frames-carried : (frames : List (List Slot)) (entries : List (List SlotEntry)) → Carried (flat_map words_of entries) → FramesBy place frames entries → FramesBy place' frames (map (map moved_slot) entries)
  frames-carried frames entries carried by = record {
    same_count = length-map entries (map moved_slot) ∙ by.same_count;
    each = λ i slots frame e f.
        let was = map_source (map moved_slot) entries i slots e in
        subst (λ (es : List SlotEntry). SlotsBy place' frame es) was.1.1
        (slots-carried frame was.0 (λ r w c. carried r w (flat_contains words_of entries i was.0 w was.1.0 c)) (by.each i was.0 frame was.1.0 f));
  }

  pub globals-carried : (globals : List Slot) (entries : List SlotEntry) → Carried (map (λ (e : SlotEntry). e.word) entries) → GlobalsBy place globals entries → GlobalsBy place' globals (map moved_slot entries)
  globals-carried globals entries carried by = record { count = by.count; slots = slots-carried globals entries carried by.slots }

  abbrev moved_owned : OwnedEntry → OwnedEntry
  moved_owned e = record e { word = moved to e.word }

  pub owned-carried : (owns count : ℕ) (owned : List Owned) (entries : List OwnedEntry) → Carried (map (λ (e : OwnedEntry). e.word) entries) → StaysPresent → OwnedBy place owns count owned entries → OwnedBy place' owns count owned (map moved_owned entries)
  owned-carried owns count owned entries carried present by = record {
    same_owns = by.same_owns;
    in_table = λ entry c some.
        let was = map_among moved_owned entries entry c in
        let found = by.in_table was.of was.among (subst (λ (e : OwnedEntry). 0 < e.handles) (sym was.is) some) in
        (found.0, (found.1.0, subst (λ (e : OwnedEntry). OwnedRootBy place' e found.0) was.is (stands_after was.of found.0 was.among found.1.1)));
    in_store = λ root c.
        let found = by.in_store root c in
        (moved_owned found.0, (among_map moved_owned entries found.0 found.1.0, stands_after found.0 root found.1.0 found.1.1));
    early = λ entry c.
        let was = map_among moved_owned entries entry c in
        subst (λ (e : OwnedEntry). e.number < owns) was.is (by.early was.of was.among);
    rising = pairs_map (λ (a b : OwnedEntry). a.number < b.number) moved_owned entries by.rising;
    in_order = by.in_order;
  }
    where
      stands_after : (entry : OwnedEntry) (root : Owned) → Contains entries entry → OwnedRootBy place entry root → OwnedRootBy place' (moved_owned entry) root
      stands_after entry root c stands =
          let word = carried root.reference entry.word (among_map (λ (e : OwnedEntry). e.word) entries entry c) stands.word in
          record { number = stands.number; handles = stands.handles; held = stands.held; word = word; not_null = present root.reference entry.word stands.not_null stands.word word }

  pending-carried : (pending : Option Reference) (word : ℕ) → ((r : Reference) → 0 < word → IsWord place r word → IsWord place' r (moved to word)) → StaysPresent → PendingBy place pending word → PendingBy place' pending (moved to word)
  pending-carried None word carried present by = ap (moved to) by
  pending-carried (Some r) word carried present by = let is = carried r by.1 by.0 in (is, present r word by.1 by.0 is)

  pub thrown-carried : {D : Type 0} (objects : List (Object D)) (pending : Option Reference) (word : ℕ) → ((r : Reference) → 0 < word → IsWord place r word → IsWord place' r (moved to word)) → StaysPresent
      → ThrownBy objects place pending word → ThrownBy objects place' pending (moved to word)
  thrown-carried objects pending word carried present by = record { same_word = pending-carried pending word carried present by.same_word; thrown = by.thrown }
