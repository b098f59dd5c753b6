-- What an owner keeps on the way of an allocation: the generations of its roots, the room for them, how many slots its
-- frames have, its types.
use Rattle.std.proofs.Common.{◌≡◌, ℕ, ◌≤◌, ◌⊎◌, inl, inr, Bool, true, false, List, [], ◌∷◌, length, map, refl, sym, ap, ap₂, ◌∙◌, subst, arith}
use Rattle.std.proofs.lemmas.List.{length-map}
use Rattle.gc_types.specs.declared.kind.Layouts.{Layouts}
use Rattle.gc_view.specs.Sizes.{need_of}
use Rattle.gc_view.specs.Heaps.{HeapView}
use Rattle.gc_heap.specs.Collection.{moved}
use Rattle.gc_owner.specs.declared.entry.RootEntry.{RootEntry}
use Rattle.gc_owner.specs.declared.entry.SlotEntry.{SlotEntry}
use Rattle.gc_owner.specs.RootColumns.{RootsView}
use Rattle.gc_owner.specs.Owners.{OwnerView, Trims, Collects, CollectsAll}
use Rattle.gc_owner.specs.Growing.{OwnerState, GetsFirst, BeginsHeap, Readies, GrowsReadied, owner_rules}
use Rattle.gc_owner.specs.Retry.{Retry, Paused, Growing}
use Rattle.gc_values.proofs.OwnedKept.{KeepsOwned, owned-same, owned-then, owned-trimmed, owned-moved}
use Rattle.gc_model.specs.Shown.{DuesOwner, frames_of}
use Rattle.gc_model.proofs.Frames.{frames-mapped}
use Rattle.gc_values.specs.Making.{BeginsMaking}
use Rattle.gc_values.specs.SlotCounts.{slot_counts}

abbrev pub generations_of : List RootEntry → List ℕ
generations_of entries = map (λ (e : RootEntry). e.generation) entries

-- how many slots each frame of an owner has
abbrev pub counts_of : {D : Type 0} → OwnerView D → List ℕ
counts_of v = slot_counts (frames_of v.roots.frames v.roots.slots)

-- one owner has kept these of the other
pub record Keeps {D : Type 0} (v w : OwnerView D) : Type 0 where
  pub idle : w.idle ≡ v.idle
  pub types : w.types ≡ v.types
  pub spare : v.roots.spare ≤ w.roots.spare
  pub generation : w.roots.generation ≡ v.roots.generation
  pub counts : counts_of w ≡ counts_of v
  pub generations : generations_of w.roots.scoped ≡ generations_of v.roots.scoped
  pub owned : KeepsOwned v.roots.owned w.roots.owned

spare_same : {m n : ℕ} → n ≡ m → m ≤ n
spare_same is = omega (arith, is)

moved_generations : (to : ℕ → ℕ) (entries : List RootEntry) → generations_of (map (λ (e : RootEntry). record e { word = moved to e.word }) entries) ≡ generations_of entries
moved_generations to [] = refl
moved_generations to (e ∷ entries) = ap (λ (gs : List ℕ). e.generation ∷ gs) (moved_generations to entries)

moved_lengths : (change : SlotEntry → SlotEntry) (frames : List (List SlotEntry)) → slot_counts (map (map change) frames) ≡ slot_counts frames
moved_lengths change [] = refl
moved_lengths change (slots ∷ frames) = ap₂ (λ (n : ℕ) (ns : List ℕ). n ∷ ns) (length-map slots change) (moved_lengths change frames)

moved_counts : (to : ℕ → ℕ) (starts : List ℕ) (slots : List SlotEntry) → slot_counts (frames_of starts (map (λ (e : SlotEntry). record e { word = moved to e.word }) slots)) ≡ slot_counts (frames_of starts slots)
moved_counts to starts slots =
    ap slot_counts (frames-mapped (λ (e : SlotEntry). record e { word = moved to e.word }) slots starts)
    ∙ moved_lengths (λ (e : SlotEntry). record e { word = moved to e.word }) (frames_of starts slots)

module _ {D : Type 0} where
  pub keeps-itself : (v w : OwnerView D) → w ≡ v → Keeps v w
  keeps-itself v w is = record {
    idle = ap (λ (x : OwnerView D). x.idle) is;
    types = ap (λ (x : OwnerView D). x.types) is;
    spare = spare_same (ap (λ (x : OwnerView D). x.roots.spare) is);
    generation = ap (λ (x : OwnerView D). x.roots.generation) is;
    counts = ap counts_of is;
    generations = ap (λ (x : OwnerView D). generations_of x.roots.scoped) is;
    owned = owned-same (ap (λ (x : OwnerView D). x.roots.owned) is);
  }

  pub keeps-trans : (u v w : OwnerView D) → Keeps u v → Keeps v w → Keeps u w
  keeps-trans u v w first then = record {
    idle = then.idle ∙ first.idle;
    types = then.types ∙ first.types;
    spare = let a = first.spare in let b = then.spare in omega (arith, a, b);
    generation = then.generation ∙ first.generation;
    counts = then.counts ∙ first.counts;
    generations = then.generations ∙ first.generations;
    owned = owned-then first.owned then.owned;
  }

  -- as many scoped roots
  pub same_count : (v w : OwnerView D) → Keeps v w → length w.roots.scoped ≡ length v.roots.scoped
  same_count v w keeps =
      sym (length-map w.roots.scoped (λ (e : RootEntry). e.generation))
      ∙ ap (λ (gs : List ℕ). length gs) keeps.generations
      ∙ length-map v.roots.scoped (λ (e : RootEntry). e.generation)

  keeps-trimmed : (layouts : Layouts) (v w : OwnerView D) → Trims layouts v w → Keeps v w
  keeps-trimmed layouts v w is = record {
    idle = ap (λ (x : OwnerView D). x.idle) is.changes.rest;
    types = ap (λ (x : OwnerView D). x.types) is.changes.rest;
    spare = spare_same (ap (λ (x : OwnerView D). x.roots.spare) is.changes.rest);
    generation = ap (λ (x : OwnerView D). x.roots.generation) is.changes.rest;
    counts = ap counts_of is.changes.rest;
    generations = ap (λ (x : OwnerView D). generations_of x.roots.scoped) is.changes.rest;
    owned = subst (λ (x : OwnerView D). KeepsOwned v.roots.owned x.roots.owned) (sym is.changes.rest) (owned-trimmed v.roots.owned);
  }

  keeps-run : (layouts : Layouts) (v w : OwnerView D) → CollectsAll layouts v w → Keeps v w
  keeps-run layouts v w is = record {
    idle = ap (λ (x : OwnerView D). x.idle) is.rest;
    types = ap (λ (x : OwnerView D). x.types) is.rest;
    spare = spare_same (ap (λ (r : RootsView). r.spare) is.roots);
    generation = ap (λ (r : RootsView). r.generation) is.roots;
    counts = ap (λ (r : RootsView). slot_counts (frames_of r.frames r.slots)) is.roots ∙ moved_counts is.collected.to v.roots.frames v.roots.slots;
    generations = ap (λ (r : RootsView). generations_of r.scoped) is.roots ∙ moved_generations is.collected.to v.roots.scoped;
    owned = subst (λ (r : RootsView). KeepsOwned v.roots.owned r.owned) (sym is.roots) (owned-moved is.collected.to v.roots.owned);
  }

  pub keeps-collected : (layouts : Layouts) (v w : OwnerView D) → Collects layouts v w → Keeps v w
  keeps-collected layouts v w is = keeps-trans v is.trimmed w (keeps-trimmed layouts v is.trimmed is.trims) (keeps-run layouts is.trimmed w is.runs)

  pub keeps-dues : (layouts : Layouts) (due : Bool) (s e : OwnerState D) → DuesOwner layouts due s e → Keeps s.owner e.owner
  keeps-dues layouts due s e (inl ran) = keeps-collected layouts s.owner e.owner ran.1.0
  keeps-dues layouts due s e (inr same) = keeps-itself s.owner e.owner (ap (λ (x : OwnerState D). x.owner) same.1)

  pub keeps-begins : (layouts : Layouts) (first : ℕ) (s e : OwnerState D) → BeginsHeap layouts first s e → Keeps s.owner e.owner
  keeps-begins layouts first s e is = record {
    idle = ap (λ (x : OwnerView D). x.idle) is.rest;
    types = ap (λ (x : OwnerView D). x.types) is.rest;
    spare = spare_same (ap (λ (x : OwnerView D). x.roots.spare) is.rest);
    generation = ap (λ (x : OwnerView D). x.roots.generation) is.rest;
    counts = ap counts_of is.rest;
    generations = ap (λ (x : OwnerView D). generations_of x.roots.scoped) is.rest;
    owned = owned-same (ap (λ (x : OwnerView D). x.roots.owned) is.rest);
  }

  pub keeps-making : (layouts : Layouts) (first : ℕ) (due : Bool) (s e : OwnerState D) → BeginsMaking layouts first due s e → Keeps s.owner e.owner
  keeps-making layouts first due s e is = keeps-trans s.owner is.made.owner e.owner (keeps-begins layouts first s is.made is.begins) (keeps-dues layouts due is.made e is.dues)

  pub keeps-readies : (layouts : Layouts) (s e : OwnerState D) → Readies layouts s e → Keeps s.owner e.owner
  keeps-readies layouts s e (inl ran) = keeps-collected layouts s.owner e.owner ran.1.0
  keeps-readies layouts s e (inr same) = keeps-itself s.owner e.owner (ap (λ (x : OwnerState D). x.owner) same.1)

  pub keeps-grows : (layouts : Layouts) (bytes : ℕ) (s : OwnerState D) (granted : Bool) (e : OwnerState D) → GrowsReadied layouts bytes s granted e → Keeps s.owner e.owner
  keeps-grows layouts bytes s granted e is =
      let after = ap (λ (x : OwnerState D). x.owner) is.after in
      keeps-trans s.owner is.ready.owner e.owner (keeps-readies layouts s is.ready is.readied) (record {
        idle = ap (λ (x : OwnerView D). x.idle) after;
        types = ap (λ (x : OwnerView D). x.types) after;
        spare = spare_same (ap (λ (x : OwnerView D). x.roots.spare) after);
        generation = ap (λ (x : OwnerView D). x.roots.generation) after;
        counts = ap counts_of after;
        generations = ap (λ (x : OwnerView D). generations_of x.roots.scoped) after;
        owned = owned-same (ap (λ (x : OwnerView D). x.roots.owned) after);
      })

  pub keeps-retried : (layouts : Layouts) (size : ℕ) (s : OwnerState D) (ok : Bool) (e : OwnerState D) → Retry (owner_rules layouts size) s ok e → Keeps s.owner e.owner
  keeps-retried layouts size s ok e (Retry.at_once fits) = keeps-itself s.owner s.owner refl
  keeps-retried layouts size s ok e (Retry.after_collection lacks rule collects fits) = keeps-collected layouts s.owner e.owner collects.0
  keeps-retried layouts size s ok e (Retry.after_both {m} {granted} lacks rule collects still grows made ends) =
      keeps-trans s.owner m.owner e.owner (keeps-collected layouts s.owner m.owner collects.0) (keeps-grows layouts (need_of layouts size) m granted e grows)
  keeps-retried layouts size s ok e (Retry.after_growth lacks rule grows fits) = keeps-grows layouts (need_of layouts size) s true e grows
  keeps-retried layouts size s ok e (Retry.after_refusal {m} lacks rule grows collects ends) =
      keeps-trans s.owner m.owner e.owner (keeps-grows layouts (need_of layouts size) s false m grows) (keeps-collected layouts m.owner e.owner collects.0)

  keeps-growing : (layouts : Layouts) (size : ℕ) (s e : OwnerState D) → Growing (owner_rules layouts size) s e → Keeps s.owner e.owner
  keeps-growing layouts size s e (inl ready) = keeps-readies layouts s e ready
  keeps-growing layouts size s e (inr (granted, grew)) = keeps-grows layouts (need_of layouts size) s granted e grew

  pub keeps-paused : (layouts : Layouts) (size : ℕ) (s e : OwnerState D) → Paused (owner_rules layouts size) s e → Keeps s.owner e.owner
  keeps-paused layouts size s e Paused.at_first = keeps-itself s.owner s.owner refl
  keeps-paused layouts size s e (Paused.in_collection lacks rule collects) = keeps-collected layouts s.owner e.owner collects.0
  keeps-paused layouts size s e (Paused.in_both {m} lacks rule collects still growing) =
      keeps-trans s.owner m.owner e.owner (keeps-collected layouts s.owner m.owner collects.0) (keeps-growing layouts size m e growing)
  keeps-paused layouts size s e (Paused.in_growth lacks rule growing) = keeps-growing layouts size s e growing
  keeps-paused layouts size s e (Paused.in_refusal {m} lacks rule grows collects) =
      keeps-trans s.owner m.owner e.owner (keeps-grows layouts (need_of layouts size) s false m grows) (keeps-collected layouts m.owner e.owner collects.0)

-- the heap has its memory once an object is to be made
made_attached : {D : Type 0} (layouts : Layouts) (first : ℕ) (s e : OwnerState D) → BeginsHeap layouts first s e → e.owner.heap.attached ≡ true
made_attached {D} layouts first s e is = by is.makes.0
  where
    by : ((s.owner.heap.attached ≡ true) × (e.owner.heap ≡ s.owner.heap)) ⊎ GetsFirst layouts first s.owner.heap e.owner.heap s.limits.limit → e.owner.heap.attached ≡ true
    by (inl same) = ap (λ (x : HeapView). x.attached) same.1 ∙ same.0
    by (inr gets) = ap (λ (x : HeapView). x.attached) gets.empty

pub making_attached : {D : Type 0} (layouts : Layouts) (first : ℕ) (due : Bool) (s e : OwnerState D) → BeginsMaking layouts first due s e → e.owner.heap.attached ≡ true
making_attached {D} layouts first due s e is = by is.dues
  where
    by : DuesOwner layouts due is.made e → e.owner.heap.attached ≡ true
    by (inl ran) = ran.1.0.runs.collected.attached
    by (inr same) = ap (λ (x : OwnerState D). x.owner.heap.attached) same.1 ∙ made_attached layouts first s is.made is.begins
