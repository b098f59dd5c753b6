-- What the end of a scope leaves of the condition of the next collection.
use Rattle.std.proofs.Common.{◌≡◌, ℕ, zero, suc, ◌+◌, ◌-◌, ◌<◌, ◌≤◌, ◌^◌, Bool, true, false, cond, min, List, [], ◌∷◌, ◌++◌, length, map, take, Option, Some, None, refl, sym, ap, ◌∙◌, subst, arith}
use Rattle.std.specs.Option.{SomeIff}
use Rattle.std.proofs.lemmas.Bool.{le-leb, lt-leb}
use Rattle.std.proofs.lemmas.List.{map-append, append-nil, length-append, take_all, take-append-le}
use Rattle.gc_types.specs.declared.kind.Layouts.{Layouts}
use Rattle.gc_types.specs.Declarations.{Declaration}
use Rattle.gc_view.specs.Heaps.{HeapView, SameHeld}
use Rattle.gc_heap.specs.Content.{IsHeap}
use Rattle.gc_heap.specs.Barriers.{CanUnname, dropped}
use Rattle.gc_owner.specs.declared.entry.RootEntry.{RootEntry}
use Rattle.gc_owner.specs.RootColumns.{RootsView, scoped_words, owned_words, frame_slot_words, global_words, listed_as, roots_of, generation_after, left_scope}
use Rattle.gc_owner.specs.Owners.{lowered, CanDropWord}
use Rattle.gc_owner.specs.DroppedRoots.{PopsOne}
use Rattle.gc_owner.specs.Tracing.{IsCollectable}
use Rattle.gc_owner.proofs.WordBarriers.{word_lowered, word_droppable, around}
use Rattle.gc_roots.specs.Roots.{Root}

-- What a test that makes a reference of a word says of the barrier

pub drop_named : (h : HeapView) (made : Option ℕ) (word held : ℕ) → SomeIff made (0 < word) word → made ≡ Some held → CanDropWord h word → CanUnname h held
drop_named h made zero held gives is can = let at : SomeIff (Some held) (0 < 0) 0 = subst (λ o. SomeIff o (0 < 0) 0) is gives in absurd (omega (arith, at.0))
drop_named h made (suc n) held gives is can = let at : SomeIff (Some held) (0 < suc n) (suc n) = subst (λ o. SomeIff o (0 < suc n) (suc n)) is gives in subst (CanUnname h) (sym at.1) can

pub drop_lowered : (h : HeapView) (made : Option ℕ) (word held : ℕ) → SomeIff made (0 < word) word → made ≡ Some held → dropped h held ≡ lowered h word
drop_lowered h made zero held gives is = let at : SomeIff (Some held) (0 < 0) 0 = subst (λ o. SomeIff o (0 < 0) 0) is gives in absurd (omega (arith, at.0))
drop_lowered h made (suc n) held gives is = let at : SomeIff (Some held) (0 < suc n) (suc n) = subst (λ o. SomeIff o (0 < suc n) (suc n)) is gives in ap (dropped h) at.1

pub none_lowered : (h : HeapView) (made : Option ℕ) (word : ℕ) → SomeIff made (0 < word) word → made ≡ None → h ≡ lowered h word
none_lowered h made zero gives is = refl
none_lowered h made (suc n) gives is = let at : (0 < suc n → ⊥) = subst (λ o. SomeIff o (0 < suc n) (suc n)) is gives in absurd (at (omega arith))

-- a word was given up after others were
pub lowered_held : (first h : HeapView) (word : ℕ) → SameHeld first h → SameHeld first (lowered h word)
lowered_held first h zero same = same
lowered_held first h (suc n) same = record { content = same.content; attached = same.attached; capacity = same.capacity; allocated = same.allocated; needs_gc = same.needs_gc }

pub same_held : (h : HeapView) → SameHeld h h
same_held h = record { content = refl; attached = refl; capacity = refl; allocated = refl; needs_gc = refl }

abbrev behind_scoped : RootsView → List Root
behind_scoped r = listed_as 1 false (owned_words r) ++ (listed_as 2 true (frame_slot_words r) ++ (listed_as 3 false (global_words r) ++ listed_as 4 false (r.pending ∷ [])))

module _ (layouts : Layouts) (types : List Declaration) (h : HeapView) (hosts : ℕ → Bool) (mark : ℕ) (old new : RootsView) (word : ℕ) (pops : PopsOne mark old new word) where
  words_popped : scoped_words old ≡ scoped_words new ++ word ∷ []
  words_popped =
      ap (map (λ (e : RootEntry). e.word)) pops.scoped
      ∙ map-append (λ (e : RootEntry). e.word) new.scoped (pops.entry ∷ [])
      ∙ ap (λ w. scoped_words new ++ w ∷ []) pops.word_is

  can_popped : IsCollectable layouts types h (roots_of old) hosts → IsCollectable layouts types h (around layouts types [] 0 (behind_scoped old) hosts (scoped_words new ++ word ∷ [])) hosts
  can_popped can = subst (λ ws. IsCollectable layouts types h (listed_as 0 false ws ++ behind_scoped old) hosts) words_popped can

  pub popped_droppable : IsHeap layouts h → IsCollectable layouts types h (roots_of old) hosts → CanDropWord h word
  popped_droppable heap can = word_droppable layouts types [] 0 (behind_scoped old) hosts h (scoped_words new) [] word heap (can_popped can)

  -- the newest root was dropped
  pub popped_kept : IsCollectable layouts types h (roots_of old) hosts → IsCollectable layouts types (lowered h word) (roots_of new) hosts
  popped_kept can =
      subst (λ (r : RootsView). IsCollectable layouts types (lowered h word) (roots_of r) hosts) (sym pops.rest)
      (subst (λ ws. IsCollectable layouts types (lowered h word) (listed_as 0 false ws ++ behind_scoped old) hosts) (append-nil (scoped_words new))
      (word_lowered layouts types [] 0 (behind_scoped old) hosts h (scoped_words new) [] word (can_popped can)))

  pub popped_count : length old.scoped ≡ length new.scoped + 1
  popped_count = ap (λ (es : List RootEntry). length es) pops.scoped ∙ length-append new.scoped (pops.entry ∷ [])

  -- what is left of the roots up to the mark
  pub popped_front : take mark new.scoped ≡ take mark old.scoped
  popped_front =
      let count = popped_count in
      let past = pops.past in
      sym (take-append-le mark new.scoped (pops.entry ∷ []) (omega arith)) ∙ ap (take mark) (sym pops.scoped)

  pub popped_rest : (first : RootsView) → old ≡ record first { scoped = old.scoped } → new ≡ record first { scoped = new.scoped }
  popped_rest first was = pops.rest ∙ ap (λ (r : RootsView). record r { scoped = new.scoped }) was

-- all roots past the mark were dropped
pub all_popped : (mark : ℕ) (first now end : RootsView) → end ≡ now → length now.scoped ≤ mark → take mark now.scoped ≡ take mark first.scoped → now ≡ record first { scoped = now.scoped }
    → end ≡ record first { scoped = take mark first.scoped }
all_popped mark first now end is few front rest =
    is ∙ rest ∙ ap (λ (es : List RootEntry). record first { scoped = es }) (sym (take_all mark now.scoped few) ∙ front)

-- the scope dropped none, or some
pub left_none : (mark : ℕ) (r : RootsView) → length r.scoped ≤ mark → r ≡ left_scope mark r
left_none mark r few =
    let front : r.scoped ≡ take mark r.scoped = sym (take_all mark r.scoped few) in
    let generation : r.generation ≡ generation_after mark r = sym (ap (λ b. cond b r.generation (min (r.generation + 1) (2 ^ 64 - 1))) (le-leb (length r.scoped) mark few)) in
    λ i. record r { scoped = front i; generation = generation i }

pub left_some : (mark : ℕ) (r dropped now : RootsView) → mark < length r.scoped → dropped ≡ record r { scoped = take mark r.scoped } → now ≡ record dropped { generation = min (dropped.generation + 1) (2 ^ 64 - 1) }
    → now ≡ left_scope mark r
left_some mark r dropped now past all ended =
    let generation : min (r.generation + 1) (2 ^ 64 - 1) ≡ generation_after mark r = sym (ap (λ b. cond b r.generation (min (r.generation + 1) (2 ^ 64 - 1))) (lt-leb (length r.scoped) mark past)) in
    ended
    ∙ ap (λ (v : RootsView). record v { generation = min (v.generation + 1) (2 ^ 64 - 1) }) all
    ∙ ap (λ (n : ℕ). record r { scoped = take mark r.scoped; generation = n }) generation
