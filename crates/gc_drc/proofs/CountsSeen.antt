-- The counts that are seen of the memory are those of the view.
use Rattle.std.proofs.Common.{◌≡◌, ℕ, true, false, List, sym, ap, ◌∙◌, inl, inr, arith}
use Rattle.std.specs.Prelude.{filter, nat_eq}
use Rattle.std.specs.Ordering.{nat_cmp}
use Rattle.std.specs.FinSet as finset
use Rattle.std.proofs.lemmas.Bool.{cases_eq, ne_eqb, eq-eqb}
use Rattle.gc_memory.specs.Lists.{In, occ}
use Rattle.gc_memory.proofs.ListLemmas.{occ-In, In-occ}
use Rattle.gc_view.specs.Heaps.{Counts}
use Rattle.gc_drc.specs.declared.space.CountedSpace.{CountedSpace}
use Rattle.gc_drc.specs.View.{View, HoldsBlocks, IsPart}
use Rattle.gc_drc.specs.Content.{at_places, places_of, shown_at, queued_at, counted_at, counts_at}
use Rattle.gc_drc.specs.PlaceLaws.{in_filter}
use Rattle.gc_drc.specs.SpaceLaws.{places_are}
use Rattle.gc_drc.proofs.PlaceLemmas.{at_places-same, same_members, filter_in}

-- the counts of a view
abbrev pub counts_of : View → Counts
counts_of v = record {
  counted = at_places v.counted v.places;
  shown = finset.from_list v.shown;
  queued = finset.from_list v.queue;
}

pub shown_is : (v : View) (s : CountedSpace) (p : ℕ) → HoldsBlocks v s → In p v.places → shown_at s.memory p ≡ occ p v.shown
shown_is v s p h i =
    let f = (h.objects p i).flags_are in
    let a = h.shown_part.once p in
    let b = h.queue_part.once p in
    let c = h.marked_part.once p in omega arith

pub queued_is : (v : View) (s : CountedSpace) (p : ℕ) → HoldsBlocks v s → In p v.places → queued_at s.memory p ≡ occ p v.queue
queued_is v s p h i =
    let f = (h.objects p i).flags_are in
    let a = h.shown_part.once p in
    let b = h.queue_part.once p in
    let c = h.marked_part.once p in omega arith

pub counted_is : (v : View) (s : CountedSpace) (p : ℕ) → HoldsBlocks v s → In p v.places → counted_at s.memory p ≡ v.counted p
counted_is v s p h i =
    let c = (h.objects p i).count_is in
    let a = shown_is v s p h i in
    let b = queued_is v s p h i in omega arith

-- the places whose flag is set are those of a list
by_flag : (flag : ℕ → ℕ) (places list : List ℕ) → IsPart places list → ((p : ℕ) → In p places → flag p ≡ occ p list)
    → finset.from_list {R = nat_cmp} (filter (λ (p : ℕ). nat_eq (flag p) 1) places) ≡ finset.from_list list
by_flag flag places list part is = same_members _ _
    (λ q i. let r = in_filter (λ (p : ℕ). nat_eq (flag p) 1) q places i in to q r.0 r.1)
    (λ q i. let p = part.inside q i in filter_in (λ (p : ℕ). nat_eq (flag p) 1) q places p (eq-eqb (flag q) 1 (let once = part.once q in let some = In-occ q list i in let e = is q p in omega arith)))
  where
    to : (q : ℕ) → In q places → nat_eq (flag q) 1 ≡ true → In q list
    to q i e = elim (cases_eq (flag q) 1) [
      | inl one ↦ occ-In q list (let f = is q i in omega arith)
      | inr ne ↦ absurd (let f = ne_eqb (flag q) 1 ne in true_false (sym e ∙ f))
    ]
      where
        true_false : true ≡ false → ⊥
        true_false e = cc

-- the counts that are seen are those of the view
pub counts_are : (v : View) (s : CountedSpace) → HoldsBlocks v s → counts_at s.memory (places_of s.free.space.held) ≡ counts_of v
counts_are v s h = ap (counts_at s.memory) (places_are v s h) ∙ (λ i. record {
  counted = at_places-same v.counted (counted_at s.memory) v.places (λ p j. counted_is v s p h j) i;
  shown = by_flag (shown_at s.memory) v.places v.shown h.shown_part (λ p j. shown_is v s p h j) i;
  queued = by_flag (queued_at s.memory) v.places v.queue h.queue_part (λ p j. queued_is v s p h j) i;
})
