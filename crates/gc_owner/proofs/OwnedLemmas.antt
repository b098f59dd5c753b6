-- What changes of the owned roots leave of the condition of the next collection.
use Rattle.std.proofs.Common.{◌≡◌, ℕ, zero, suc, ◌+◌, ◌<◌, ◌≤◌, inl, inr, Bool, true, false, not, cond, nat_eq, List, [], ◌∷◌, ◌++◌, length, map, take, drop, get_or, set, refl, sym, ap, ◌∙◌, subst, arith}
use Rattle.std.proofs.lemmas.Bool.{cases_eq, ne_eqb, eq-eqb}
use Rattle.std.proofs.lemmas.List.{map-append, append-nil, append_assoc, take_more, drop_more, take_all, length-drop}
use Rattle.std.proofs.lemmas.List.Elements.{filter-append}
use Rattle.gc_types.specs.declared.kind.Layouts.{Layouts}
use Rattle.gc_types.specs.Declarations.{Declaration}
use Rattle.gc_roots.specs.Roots.{Root}
use Rattle.gc_view.specs.Heaps.{HeapView, SameHeld}
use Rattle.gc_heap.specs.Content.{IsHeap}
use Rattle.gc_heap.specs.Collection.{IsWordOf}
use Rattle.gc_owner.specs.declared.entry.OwnedEntry.{OwnedEntry}
use Rattle.gc_owner.specs.RootColumns.{RootsView, scoped_words, owned_words, frame_slot_words, global_words, listed_as, roots_of, empty_entry, with_handles, with_places, with_owned_root, with_handle_count}
use Rattle.gc_owner.specs.Owners.{raised, lowered, CanDropWord}
use Rattle.gc_owner.specs.DroppedRoots.{released}
use Rattle.gc_owner.specs.Tracing.{IsCollectable}
use Rattle.gc_owner.proofs.WordBarriers.{word_raised, word_lowered, word_droppable}
use Rattle.gc_owner.proofs.ScopeLemmas.{lowered_held}

abbrev before_owned : RootsView → List Root
before_owned r = listed_as 0 false (scoped_words r)

abbrev behind_owned : RootsView → List Root
behind_owned r = listed_as 2 true (frame_slot_words r) ++ (listed_as 3 false (global_words r) ++ listed_as 4 false (r.pending ∷ []))

abbrev words : List OwnedEntry → List ℕ
words es = map (λ (e : OwnedEntry). e.word) es

-- the roots with these owned ones
abbrev pub with_owned : List OwnedEntry → RootsView → RootsView
with_owned es r = record r { owned = es }

-- the owned roots without handles were forgotten
pub forgotten : (old new now : RootsView) → old ≡ now → new.owned ≡ with_handles old.owned → new ≡ record old { owned = new.owned; list_spare = new.list_spare }
    → new ≡ with_places new (record now { owned = with_handles now.owned })
forgotten old new now is kept rest =
    rest
    ∙ ap (λ (es : List OwnedEntry). record old { owned = es; list_spare = new.list_spare }) kept
    ∙ ap (λ (r : RootsView). with_places new (record r { owned = with_handles r.owned })) is

-- an owned root was added
pub owned_kept : (layouts : Layouts) (types : List Declaration) (h : HeapView) (r : RootsView) (hosts : ℕ → Bool) (word : ℕ) → IsCollectable layouts types h (roots_of r) hosts → IsWordOf h word
    → IsCollectable layouts types (raised h word) (roots_of (with_owned_root word r)) hosts
owned_kept layouts types h r hosts word can is =
    subst (λ ws. IsCollectable layouts types (raised h word) (before_owned r ++ (listed_as 1 false ws ++ behind_owned r)) hosts)
    (sym (map-append (λ (e : OwnedEntry). e.word) r.owned ((record { number = r.owns; handles = 1; word = word }) ∷ [])))
    (word_raised layouts types (before_owned r) 1 (behind_owned r) hosts h (owned_words r) [] word
    (subst (λ ws. IsCollectable layouts types h (before_owned r ++ (listed_as 1 false ws ++ behind_owned r)) hosts) (sym (append-nil (owned_words r))) can) is)

-- handles don't matter
same_words : (es : List OwnedEntry) (index handles : ℕ) → index < length es → words (set es index (record (get_or es index empty_entry) { handles = handles })) ≡ words es
same_words [] index handles below = absurd (omega arith)
same_words (e ∷ es) zero handles below = refl
same_words (e ∷ es) (suc index) handles below = ap (λ ws. e.word ∷ ws) (same_words es index handles (omega arith))

pub handles_kept : (r : RootsView) (index handles : ℕ) → index < length r.owned → roots_of (with_handle_count index handles r) ≡ roots_of r
handles_kept r index handles below = ap (λ ws. before_owned r ++ (listed_as 1 false ws ++ behind_owned r)) (same_words r.owned index handles below)

-- Owned roots without handles are given up, one after the other

unheld : (e : OwnedEntry) → e.handles ≡ 0 → with_handles (e ∷ []) ≡ []
unheld e none = ap (λ b. cond (not b) (e ∷ []) []) (eq-eqb e.handles 0 none)

held : (e : OwnedEntry) → (e.handles ≡ 0 → ⊥) → with_handles (e ∷ []) ≡ e ∷ []
held e some = ap (λ b. cond (not b) (e ∷ []) []) (ne_eqb e.handles 0 some)

pub released_held : (first h : HeapView) (e : OwnedEntry) → SameHeld first h → SameHeld first (released h e)
released_held first h e same = elim (nat_eq e.handles 0) as (λ b. SameHeld first (cond b (lowered h e.word) h)) [ true ↦ lowered_held first h e.word same | false ↦ same ]

-- so many of the owned roots were looked at
abbrev pub trimmed : ℕ → List OwnedEntry → RootsView → RootsView
trimmed index es r = with_owned (with_handles (take index es) ++ drop index es) r

pub trimmed_none : (es : List OwnedEntry) (r : RootsView) → es ≡ r.owned → trimmed 0 es r ≡ r
trimmed_none es r is = ap (λ (os : List OwnedEntry). with_owned os r) is

pub trimmed_all : (index : ℕ) (es : List OwnedEntry) (r : RootsView) → es ≡ r.owned → length es ≤ index → trimmed index es r ≡ with_owned (with_handles r.owned) r
trimmed_all index es r is enough =
    let none : drop index es ≡ [] = nothing (drop index es) (let count = length-drop index es in omega arith) in
    ap (λ (os : List OwnedEntry). with_owned (with_handles (take index es) ++ os) r) none
    ∙ ap (λ (os : List OwnedEntry). with_owned os r) (append-nil (with_handles (take index es)) ∙ ap with_handles (take_all index es enough ∙ is))
  where
    nothing : (os : List OwnedEntry) → length os ≡ 0 → os ≡ []
    nothing [] e = refl
    nothing (x ∷ os) e = absurd (omega arith)

module _ (layouts : Layouts) (types : List Declaration) (h : HeapView) (hosts : ℕ → Bool) (r : RootsView) (es : List OwnedEntry) (index : ℕ) (d : OwnedEntry) (below : index < length es)
    (can : IsCollectable layouts types h (roots_of (trimmed index es r)) hosts) where
  abbrev entry : OwnedEntry
  entry = get_or es index d

  abbrev kept : List OwnedEntry
  kept = with_handles (take index es)

  abbrev later : List OwnedEntry
  later = drop (index + 1) es

  splits : kept ++ drop index es ≡ kept ++ entry ∷ later
  splits = ap (λ os. kept ++ os) (drop_more es index d below)

  words_split : words (kept ++ drop index es) ≡ words kept ++ entry.word ∷ words later
  words_split = ap words splits ∙ map-append (λ (x : OwnedEntry). x.word) kept (entry ∷ later)

  can_split : IsCollectable layouts types h (before_owned r ++ (listed_as 1 false (words kept ++ entry.word ∷ words later) ++ behind_owned r)) hosts
  can_split = subst (λ ws. IsCollectable layouts types h (before_owned r ++ (listed_as 1 false ws ++ behind_owned r)) hosts) words_split can

  pub entry_droppable : IsHeap layouts h → CanDropWord h entry.word
  entry_droppable heap = word_droppable layouts types (before_owned r) 1 (behind_owned r) hosts h (words kept) (words later) entry.word heap can_split

  more : with_handles (take (index + 1) es) ≡ kept ++ with_handles (entry ∷ [])
  more = ap with_handles (take_more es index d below) ∙ filter-append (λ (x : OwnedEntry). not (nat_eq x.handles 0)) (take index es) (entry ∷ [])

  without : entry.handles ≡ 0 → with_handles (take (index + 1) es) ++ later ≡ kept ++ later
  without none = ap (λ os. os ++ later) (more ∙ ap (λ os. kept ++ os) (unheld entry none) ∙ append-nil kept)

  with_it : (entry.handles ≡ 0 → ⊥) → with_handles (take (index + 1) es) ++ later ≡ kept ++ drop index es
  with_it some = ap (λ os. os ++ later) (more ∙ ap (λ os. kept ++ os) (held entry some)) ∙ append_assoc kept (entry ∷ []) later ∙ sym splits

  -- one more was looked at
  pub entry_released : IsCollectable layouts types (released h entry) (roots_of (trimmed (index + 1) es r)) hosts
  entry_released = elim (cases_eq entry.handles 0) [
    | inl none ↦
        subst (λ v. IsCollectable layouts types v (roots_of (trimmed (index + 1) es r)) hosts) (sym (ap (λ b. cond b (lowered h entry.word) h) (eq-eqb entry.handles 0 none)))
        (subst (λ ws. IsCollectable layouts types (lowered h entry.word) (before_owned r ++ (listed_as 1 false ws ++ behind_owned r)) hosts)
        (sym (ap words (without none) ∙ map-append (λ (x : OwnedEntry). x.word) kept later))
        (word_lowered layouts types (before_owned r) 1 (behind_owned r) hosts h (words kept) (words later) entry.word can_split))
    | inr some ↦
        subst (λ v. IsCollectable layouts types v (roots_of (trimmed (index + 1) es r)) hosts) (sym (ap (λ b. cond b (lowered h entry.word) h) (ne_eqb entry.handles 0 some)))
        (subst (λ os. IsCollectable layouts types h (roots_of (with_owned os r)) hosts) (sym (with_it some)) can)
  ]
