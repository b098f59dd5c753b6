-- The roots are moved one by one.
use Rattle.std.proofs.Common.{◌≡◌, ℕ, zero, suc, ◌+◌, ◌%◌, ◌<◌, ◌≤◌, not, false, if◌then◌else◌, nat_eq, List, [], ◌∷◌, length, drop, refl, sym, ap, subst, ◌∙◌, inl, inr, arith}
use Rattle.std.proofs.Math.Seq.{drop-cons, drop-length}
use Rattle.std.proofs.lemmas.Bool.{cases_eq, ne_eqb}
use Rattle.std.proofs.lemmas.List.{get_or-set_same, get_or-set_other, length-set}
use Rattle.gc_memory.specs.Lists.{In, here, there}
use Rattle.gc_roots.specs.Roots.{Root, root_at, no_root, with_word, with_word_at}
use Rattle.gc_heap.specs.Collection.{present_words}
use Rattle.gc_copying.specs.declared.space.Space.{Space}
use Rattle.gc_view.specs.Reach.{by_start}
use Rattle.gc_copying.specs.CopyStart.{From}
use Rattle.gc_copying.specs.CopyMiddle.{Moves, Later}
use Rattle.gc_copying.specs.CopySteps.{Midway, Known, CanForward, Forwards, IsMovedRoot, words_of_roots, CanForwardRoots, ForwardsRoots}
use Rattle.gc_copying.proofs.MidLemmas.{new_lies, moves_later}
use Rattle.gc_copying.proofs.ScanLemmas.{place_of_word}

-- a root's word is one of the words
pub word_in : (rs : List Root) (i : ℕ) → i < length rs → In (root_at rs i).word (words_of_roots rs)
word_in [] i h = absurd (omega arith)
word_in (r ∷ rs) zero h = here
word_in (r ∷ rs) (suc i) h = there (word_in rs i (omega arith))

-- so it is known
pub known_root : (s : From) (t : ℕ) (h : Space) (rs : List Root) (i w : ℕ) → s.roots ≡ words_of_roots rs → Midway s t h → i < length rs → w ≡ (root_at rs i).word → Known s w
known_root s t h rs i w roots mid less is place =
    let inside : In w s.roots = subst (λ l. In w l) (sym roots) (subst (λ (x : ℕ). In x (words_of_roots rs)) (sym is) (word_in rs i less)) in
    let at = place_of_word s w (mid.start.roots w inside) place in
    (at, by_start (at, inside))

-- what a word that isn't null became isn't null
pub moved_not_null : (s : From) (t : ℕ) (old new : Space) (w w' : ℕ) → 0 < w → Forwards s t old new w w' → w' ≡ 0 → ⊥
moved_not_null s t old new w w' some f null = elim (cases_eq (w % 2) 0) [
  | inl even ↦
      let leads = f.moves.leads (record { not_null = some; even = even }) in
      let at = new_lies f.mid w' (f.mid.copied w w' leads).inside in
      omega (arith, at.from, at.to, at.least, f.mid.room, f.mid.low (omega (arith, at.to, at.least, f.mid.room)))
  | inr odd ↦
      let same = f.moves.other (λ place. odd place.even) in
      omega (arith, same)
]

-- The roots before an index were moved, the others are as they were.
pub record RootsSoFar (s : From) (t : ℕ) (old now : Space) (roots roots' : List Root) (index : ℕ) : Type 0 where
  pub mid : Midway s t now
  pub later : Later s old.memory now.memory
  pub moved : (i : ℕ) → i < index → IsMovedRoot s now.memory (root_at roots i) (root_at roots' i)
  pub rest : (i : ℕ) → index ≤ i → root_at roots' i ≡ root_at roots i

-- a word that was moved, by what is equal to it
pub forwards_root : (s : From) (t : ℕ) (old new : Space) (raw r w' moved : ℕ) → raw ≡ r → w' ≡ moved
    → ((s1 : From) (t1 : ℕ) → Midway s1 t1 old → Known s1 raw → Forwards s1 t1 old new raw w') → Midway s t old → Known s r → Forwards s t old new r moved
forwards_root s t old new raw r w' moved e f forwards mid known =
    subst (λ (x : ℕ). Forwards s t old new x moved) e
    (subst (λ (x : ℕ). Forwards s t old new raw x) f (forwards s t mid (subst (λ (x : ℕ). Known s x) (sym e) known)))

-- no root was moved so far
pub roots_start : (s : From) (t : ℕ) (h : Space) (roots : List Root) → Midway s t h → RootsSoFar s t h h roots roots 0
roots_start s t h roots mid = record {
  mid = mid;
  later = λ p q l. l;
  moved = λ i l. absurd (omega arith);
  rest = λ i l. refl;
}

other_root : (now next : List Root) (index i w' : ℕ) → next ≡ with_word_at now index w' → (i ≡ index → ⊥) → root_at next i ≡ root_at now i
other_root now next index i w' set ne = ap (λ l. root_at l i) set ∙ get_or-set_other now index i (with_word (root_at now index) w') no_root ne

this_root : (s : From) (t : ℕ) (old now next : Space) (roots now_roots next_roots : List Root) (index word w' : ℕ) → RootsSoFar s t old now roots now_roots index
    → index < length now_roots → word ≡ (root_at now_roots index).word → Forwards s t now next word w' → next_roots ≡ with_word_at now_roots index w'
    → IsMovedRoot s next.memory (root_at roots index) (root_at next_roots index)
this_root s t old now next roots now_roots next_roots index word w' so_far less is f set =
    let old_is : root_at now_roots index ≡ root_at roots index = so_far.rest index (omega arith) in
    let new_is : root_at next_roots index ≡ with_word (root_at now_roots index) w' =
    ap (λ l. root_at l index) set ∙ get_or-set_same now_roots index (with_word (root_at now_roots index) w') no_root less in
    record {
      place = ap (λ r. r.place) new_is ∙ ap (λ r. r.place) old_is;
      on_stack = ap (λ r. r.on_stack) new_is ∙ ap (λ r. r.on_stack) old_is;
      word = subst (λ (x : ℕ). Moves s next.memory (root_at roots index).word x) (sym (ap (λ r. r.word) new_is))
          (subst (λ (x : ℕ). Moves s next.memory x w') (is ∙ ap (λ r. r.word) old_is) f.moves);
    }

-- one more was
pub roots_step : (s : From) (t : ℕ) (old now next : Space) (roots now_roots next_roots : List Root) (index word w' : ℕ) → RootsSoFar s t old now roots now_roots index
    → index < length now_roots → word ≡ (root_at now_roots index).word → Forwards s t now next word w' → next_roots ≡ with_word_at now_roots index w'
    → RootsSoFar s t old next roots next_roots (index + 1)
roots_step s t old now next roots now_roots next_roots index word w' so_far less is f set = record {
  mid = f.mid;
  later = λ p q l. f.later p q (so_far.later p q l);
  moved = λ i l. elim (cases_eq i index) [
    | inl e ↦
        subst (λ (x : ℕ). IsMovedRoot s next.memory (root_at roots x) (root_at next_roots x)) (sym e)
        (this_root s t old now next roots now_roots next_roots index word w' so_far less is f set)
    | inr ne ↦
        let m = so_far.moved i (omega arith) in
        subst (λ r. IsMovedRoot s next.memory (root_at roots i) r) (sym (other_root now_roots next_roots index i w' set ne))
        (record { place = m.place; on_stack = m.on_stack; word = moves_later s now.memory next.memory _ _ f.later m.word })
  ];
  rest = λ i l. other_root now_roots next_roots index i w' set (λ e. omega arith) ∙ so_far.rest i (omega arith);
}

-- all were
pub roots_end : (s : From) (t : ℕ) (old now : Space) (roots roots' : List Root) (index : ℕ) → RootsSoFar s t old now roots roots' index → length roots ≤ index
    → length roots' ≡ length roots → ForwardsRoots s t old now roots roots'
roots_end s t old now roots roots' index so_far all len = record {
  mid = so_far.mid;
  later = so_far.later;
  moved = record { same_length = len; moved = λ i l. so_far.moved i (omega arith) };
}

-- the length stays
pub roots_length : (now next : List Root) (index w' : ℕ) → next ≡ with_word_at now index w' → length next ≡ length now
roots_length now next index w' set = ap (λ (l : List Root). length l) set ∙ length-set now index (with_word (root_at now index) w')

counted_more : (rs : List Root) (r : Root) → length (r ∷ rs) ≡ length rs + 1
counted_more rs r = omega arith

-- of the roots that are left one more counts, where it isn't null
pub present_next : (roots : List Root) (i : ℕ) → i < length roots → 0 < (root_at roots i).word
    → length (present_words (drop i roots)) ≡ length (present_words (drop (i + 1) roots)) + 1
present_next roots i less some =
    let e : suc i ≡ i + 1 = omega arith in
    let first : drop i roots ≡ root_at roots i ∷ drop (i + 1) roots = drop-cons roots i no_root less ∙ ap (λ (k : ℕ). root_at roots i ∷ drop k roots) e in
    let here_is : nat_eq (root_at roots i).word 0 ≡ false = ne_eqb (root_at roots i).word 0 (λ z. omega arith) in
    ap (λ l. length (present_words l)) first
    ∙ ap (λ b. length (if not b then root_at roots i ∷ present_words (drop (i + 1) roots) else present_words (drop (i + 1) roots))) here_is
    ∙ counted_more (present_words (drop (i + 1) roots)) (root_at roots i)

-- none is left
pub present_none : (roots : List Root) (i : ℕ) → length roots ≤ i → i ≤ length roots → length (present_words (drop i roots)) ≡ 0
present_none roots i h k =
    let e : i ≡ length roots = omega arith in
    ap (λ (j : ℕ). length (present_words (drop j roots))) e ∙ ap (λ l. length (present_words l)) (drop-length roots)

pub is_zero : (n : ℕ) → (0 < n → ⊥) → n ≡ 0
is_zero n h = omega arith

-- the next root may be moved
pub can_forward_root : (old now : Space) (roots now_roots : List Root) (index w : ℕ)
    → ((s : From) (t : ℕ) → s.roots ≡ words_of_roots roots → Midway s t old → RootsSoFar s t old now roots now_roots index)
    → CanForwardRoots old roots → index < length roots → w ≡ (root_at now_roots index).word → CanForward now w
can_forward_root old now roots now_roots index w along can less is =
    let so_far = along can.start can.frontier can.roots_are can.mid in
    record {
      start = can.start;
      frontier = can.frontier;
      mid = so_far.mid;
      known = known_root can.start can.frontier now roots index w can.roots_are so_far.mid less (is ∙ ap (λ r. r.word) (so_far.rest index (omega arith)));
    }

-- it was moved
pub roots_more : (old now next : Space) (roots now_roots next_roots : List Root) (index w w' : ℕ)
    → ((s : From) (t : ℕ) → s.roots ≡ words_of_roots roots → Midway s t old → RootsSoFar s t old now roots now_roots index)
    → length now_roots ≡ length roots → index < length roots → w ≡ (root_at now_roots index).word
    → ((s : From) (t : ℕ) → Midway s t now → Known s w → Forwards s t now next w w') → next_roots ≡ with_word_at now_roots index w'
    → (s : From) (t : ℕ) → s.roots ≡ words_of_roots roots → Midway s t old → RootsSoFar s t old next roots next_roots (index + 1)
roots_more old now next roots now_roots next_roots index w w' along len less is forwards set s t roots_are mid =
    let so_far = along s t roots_are mid in
    let known = known_root s t now roots index w roots_are so_far.mid less (is ∙ ap (λ r. r.word) (so_far.rest index (omega arith))) in
    roots_step s t old now next roots now_roots next_roots index w w' so_far (omega arith) is (forwards s t so_far.mid known) set

-- it counts one, since it isn't null
pub present_more : (old now : Space) (roots now_roots : List Root) (index w : ℕ)
    → ((s : From) (t : ℕ) → s.roots ≡ words_of_roots roots → Midway s t old → RootsSoFar s t old now roots now_roots index)
    → CanForwardRoots old roots → index < length roots → w ≡ (root_at now_roots index).word → 0 < w
    → length (present_words (drop index roots)) ≡ length (present_words (drop (index + 1) roots)) + 1
present_more old now roots now_roots index w along can less is some =
    let so_far = along can.start can.frontier can.roots_are can.mid in
    let same : w ≡ (root_at roots index).word = is ∙ ap (λ r. r.word) (so_far.rest index (omega arith)) in
    present_next roots index less (subst (λ (x : ℕ). 0 < x) same some)
