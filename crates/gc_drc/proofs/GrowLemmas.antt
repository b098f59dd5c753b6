-- A memory that a counting heap gets, and one that grows.
use Rattle.std.proofs.Common.{◌≡◌, ℕ, ◌+◌, ◌-◌, ◌*◌, ◌/◌, ◌%◌, ◌<◌, ◌≤◌, ◌^◌, List, [], ◌∷◌, ◌++◌, take, drop, length, replicate, refl, sym, ap, subst, ◌∙◌, arith}
use Rattle.std.specs.Prelude.{min, max}
use Rattle.std.proofs.lemmas.List.{drop-append-le, take-append-le, length-drop, length-append, length-replicate}
use Rattle.gc_types.specs.declared.kind.Layouts.TheVariants.{Counting}
use Rattle.gc_types.specs.Kinds.{kind_bits, kind_of}
use Rattle.gc_refs.specs.Header.{spare_bits, kind_part}
use Rattle.gc_heap.specs.Objects.{first_offset, IsObjectKind}
use Rattle.gc_heap.specs.Heap.{empty_heap, grown}
use Rattle.gc_memory.specs.Words.{word}
use Rattle.gc_memory.specs.Lists.{In}
use Rattle.gc_memory.proofs.WordLemmas.{word-grown, word64-grown}
use Rattle.gc_view.specs.Pages.{page, max_pages}
use Rattle.gc_free.specs.declared.run.Run.{Run}
use Rattle.gc_free.specs.Runs.{gap}
use Rattle.gc_free.specs.Space.{Space, IsSound, new_space, places_end, merge_all, grow}
use Rattle.gc_free.specs.declared.run.TheConstants.{ALIGN}
use Rattle.gc_drc.specs.declared.space.CountedSpace.{CountedSpace}
use Rattle.gc_drc.specs.Layout.{counting_size_at, counting_kind_at, counting_data_at, counting_object_at, IsCountingWhole}
use Rattle.gc_drc.specs.View.{View, HoldsBlocks, Linked, last}
use Rattle.gc_drc.specs.Content.{at_places, places_of, counts_at, counting_seen_in, IsSoundSpace}
use Rattle.gc_drc.proofs.PlaceLemmas.{at_places-same}
use Rattle.gc_drc.specs.SpaceLaws.{lies, places_are, least_size}
use Rattle.gc_drc.proofs.CountsSeen.{counts_are}
use Rattle.gc_drc.proofs.TendLemmas.{same_object, linked_in_same}
use Rattle.gc_drc.proofs.SeenLemmas.{same_view}

-- NO OBJECTS

empty_view : View
empty_view = record { places = []; shown = []; queue = []; marked = []; counted = λ _. 0; sizes = λ _. 0 }

pub empty_sound : (s : CountedSpace) → s.free.space ≡ new_space (length s.memory) → IsSound s.free.space → length s.memory % page ≡ 0 → length s.memory ≤ page * max_pages → s.shown ≡ 0 → s.queued ≡ 0 → s.objects ≡ 0 → s.allocated ≡ 0
    → IsSoundSpace s
empty_sound s made sound pages bound shown queued objects allocated = record {
  view = record { places = []; shown = []; queue = []; marked = []; counted = λ _. 0; sizes = λ _. 0 };
  holds = record {
    pages = pages;
    bound = bound;
    capacity = ap (λ (f : Space). f.capacity) made;
    sound = sound;
    blocks = ap (λ (f : Space). f.held) made;
    objects = λ p i. elim i [ ];
    shown_part = record { inside = λ p i. elim i [ ]; once = λ p. omega arith };
    queue_part = record { inside = λ p i. elim i [ ]; once = λ p. omega arith };
    marked_part = record { inside = λ p i. elim i [ ]; once = λ p. omega arith };
    shown_linked = subst (λ h. Linked s.memory 16 h []) (sym shown) last;
    queue_linked = subst (λ h. Linked s.memory 24 h []) (sym queued) last;
    count = objects;
    allocated = allocated;
  };
  unmarked = refl;
}

pub empty_seen : (s : CountedSpace) (scopes : ℕ) → s.free.space ≡ new_space (length s.memory) → s.allocated ≡ 0 → counting_seen_in scopes s ≡ empty_heap Counting (length s.memory) scopes
empty_seen s scopes made allocated =
    let held : s.free.space.held ≡ [] = ap (λ (f : Space). f.held) made in
    same_view _ _ refl (ap (λ h. at_places (counting_object_at s.memory) (places_of h)) held) refl allocated refl refl (ap (λ h. counts_at s.memory (places_of h)) held)

-- MORE BYTES

-- the free list after a growth
merged : (rs : List Run) (s : Space) → ((merge_all rs s).held ≡ s.held) × ((merge_all rs s).capacity ≡ s.capacity)
merged [] s = (refl, refl)
merged (r ∷ rs) s = (refl, refl)

pub grown_list : (n : ℕ) (s : Space) → ((grow n s).held ≡ s.held) × ((grow n s).capacity ≡ min (s.capacity + n) (2 ^ 64 - 1))
grown_list n s = merged (gap (max ALIGN (places_end s.capacity)) (places_end (min (s.capacity + n) (2 ^ 64 - 1)))) (record { capacity = min (s.capacity + n) (2 ^ 64 - 1); held = s.held; current = s.current })

part_grown : (bytes more : List ℕ) (p n : ℕ) → p + n ≤ length bytes → take n (drop p (bytes ++ more)) ≡ take n (drop p bytes)
part_grown bytes more p n h =
    ap (take n) (drop-append-le p bytes more (omega arith))
    ∙ take-append-le n (drop p bytes) more (omega (arith, length-drop p bytes))

-- What is as before of an object.
record GrownObject (a b : List ℕ) (p : ℕ) : Type 0 where
  pub object : counting_object_at b p ≡ counting_object_at a p
  pub whole : IsCountingWhole b p

grown_object : (a : List ℕ) (p n : ℕ) → IsCountingWhole a p → p + counting_size_at a p ≤ length a → GrownObject a (a ++ replicate n 0) p
unfolding counting_kind_at
grown_object a p n w inside =
    let b : List ℕ = a ++ replicate n 0 in
    let least = least_size a p w in
    let first : word b p ≡ word a p = word-grown a n p in
    let size : counting_size_at b p ≡ counting_size_at a p = word-grown a n (p + 20) in
    let kind : kind_of (kind_part (word b p)) ≡ kind_of (kind_part (word a p)) = ap (λ w. kind_of (kind_part w)) first in
    let data_same : counting_data_at b p ≡ counting_data_at a p = ap (λ k. take (k - 28) (drop (p + 28) b)) size ∙ part_grown a (replicate n 0) (p + 28) (counting_size_at a p - 28) (omega arith) in
    record {
      object = same_object _ _ kind (word-grown a n (p + 4)) (ap (λ w. w % spare_bits / 8 * 8) first) data_same;
      whole = record {
        kind = ap kind_bits kind ∙ w.kind ∙ ap kind_part (sym first);
        object_kind = subst IsObjectKind (sym kind) w.object_kind;
        least = subst (λ k. first_offset Counting k ≤ counting_size_at b p) (sym kind) (subst (λ n. first_offset Counting (kind_of (kind_part (word a p))) ≤ n) (sym size) w.least);
        external = λ e.
            let y = w.external (sym kind ∙ e) in
            let id : word b (p + 28) ≡ word a (p + 28) = word-grown a n (p + 28) in
            record { size = size ∙ y.size; from = subst (λ n. 0 < n) (sym id) y.from; to = omega (arith, y.to, id) };
      };
    }

-- What a growth does to a space.
pub record Grows (s t : CountedSpace) (n : ℕ) : Type 0 where
  pub sound : IsSoundSpace t
  pub seen : (scopes : ℕ) → counting_seen_in scopes t ≡ grown Counting (counting_seen_in scopes s) n

pub grows : (s t : CountedSpace) (memory : List ℕ) (n : ℕ) → IsSoundSpace s → memory ≡ s.memory ++ replicate n 0 → length memory % page ≡ 0 → length memory ≤ page * max_pages
    → t ≡ record s { memory = memory; free = t.free } → t.free.space ≡ grow n s.free.space → IsSound t.free.space → Grows s t n
grows s t memory n sound grown_by pages bound is made list_sound =
    let v = sound.view in
    let h = sound.holds in
    let m : List ℕ = s.memory ++ replicate n 0 in
    let len : length m ≡ length s.memory + n = length-append s.memory (replicate n 0) ∙ ap (λ k. length s.memory + k) (length-replicate {A = ℕ} n 0) in
    let len_memory : length memory ≡ length m = ap length grown_by in
    let list = grown_list n s.free.space in
    let held : t.free.space.held ≡ s.free.space.held = ap (λ (f : Space). f.held) made ∙ list.0 in
    let capacity = h.capacity in
    let new_capacity : t.free.space.capacity ≡ min (s.free.space.capacity + n) (2 ^ 64 - 1) = ap (λ (f : Space). f.capacity) made ∙ list.1 in
    let u : CountedSpace = record s { memory = m; free = t.free } in
    let object : (p : ℕ) → In p v.places → GrownObject s.memory m p = λ p i.
    let l = (lies v s p h i).inside in
    let size = (h.objects p i).size_is in
    grown_object s.memory p n (h.objects p i).whole (omega arith) in
    let after : HoldsBlocks v u = record {
      pages = ap (λ n. n % page) (sym len_memory) ∙ pages;
      bound = omega arith;
      capacity = omega arith;
      sound = list_sound;
      blocks = held ∙ h.blocks;
      objects = λ p i.
          let o = h.objects p i in
          record {
            whole = (object p i).whole;
            size_is = word-grown s.memory n (p + 20) ∙ o.size_is;
            count_is = word64-grown s.memory n (p + 8) ∙ o.count_is;
            positive = o.positive;
            flags_are = ap (λ k. k % 8) (word-grown s.memory n p) ∙ o.flags_are;
          };
      shown_part = h.shown_part;
      queue_part = h.queue_part;
      marked_part = h.marked_part;
      shown_linked = linked_in_same s.memory m 16 s.shown v.shown h.shown_linked (λ p i. word-grown s.memory n (p + 16));
      queue_linked = linked_in_same s.memory m 24 s.queued v.queue h.queue_linked (λ p i. word-grown s.memory n (p + 24));
      count = h.count;
      allocated = h.allocated;
    } in
    let content : at_places (counting_object_at m) (places_of t.free.space.held) ≡ at_places (counting_object_at s.memory) (places_of s.free.space.held) =
    ap (λ rs. at_places (counting_object_at m) (places_of rs)) held
    ∙ ap (at_places (counting_object_at m)) (places_are v s h)
    ∙ at_places-same (counting_object_at s.memory) (counting_object_at m) v.places (λ p i. (object p i).object)
    ∙ ap (at_places (counting_object_at s.memory)) (sym (places_are v s h)) in
    let new : t ≡ u = is ∙ ap (λ b. record s { memory = b; free = t.free }) grown_by in
    subst (λ y. Grows s y n) (sym new) (record {
      sound = record { view = v; holds = after; unmarked = sound.unmarked };
      seen = λ scopes. same_view _ _ refl content len refl refl refl (counts_are v u after ∙ sym (counts_are v s h));
    })
