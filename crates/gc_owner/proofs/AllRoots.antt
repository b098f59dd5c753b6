-- All roots in the list of a collection, and the words that they take from it.
use Rattle.std.proofs.Common.{◌≡◌, ℕ, ◌<◌, ◌⊎◌, true, false, cond, nat_eq, List, [], ◌∷◌, ◌++◌, length, map, drop, Contains, refl, sym, ap, ap₂, ◌∙◌, arith}
use Rattle.std.proofs.lemmas.List.{map-append, append_assoc, append-nil}
use Rattle.std.proofs.lemmas.List.Elements.{Contains-append_left, Contains-append_right}
use Rattle.gc_roots.specs.Roots.{Root, root_at}
use Rattle.gc_heap.specs.Collection.{moved, moved_root}
use Rattle.gc_owner.specs.declared.entry.RootEntry.{RootEntry}
use Rattle.gc_owner.specs.declared.entry.OwnedEntry.{OwnedEntry}
use Rattle.gc_owner.specs.declared.entry.SlotEntry.{SlotEntry}
use Rattle.gc_owner.specs.RootColumns.{RootsView, scoped_words, owned_words, frame_slot_words, global_words, listed_as, roots_of, all_roots, moved_roots, ColumnFollows}
use Rattle.gc_owner.proofs.ListedRoots.{listed_moved}
use Rattle.gc_owner.proofs.TakenColumns.{Taken, readable, next_word}

-- five lists, one behind the other
pub five_listed : (a b c d e l0 l1 l2 l3 l4 l5 : List Root) → l0 ≡ [] → l1 ≡ l0 ++ a → l2 ≡ l1 ++ b → l3 ≡ l2 ++ c → l4 ≡ l3 ++ d → l5 ≡ l4 ++ e → l5 ≡ a ++ (b ++ (c ++ (d ++ e)))
five_listed a b c d e l0 l1 l2 l3 l4 l5 e0 e1 e2 e3 e4 e5 =
    let x1 : l1 ≡ a = e1 ∙ ap (λ (l : List Root). l ++ a) e0 in
    let x2 : l2 ≡ a ++ b = e2 ∙ ap (λ (l : List Root). l ++ b) x1 in
    let x3 : l3 ≡ (a ++ b) ++ c = e3 ∙ ap (λ (l : List Root). l ++ c) x2 in
    let x4 : l4 ≡ ((a ++ b) ++ c) ++ d = e4 ∙ ap (λ (l : List Root). l ++ d) x3 in
    e5 ∙ ap (λ (l : List Root). l ++ e) x4 ∙ append_assoc ((a ++ b) ++ c) d e ∙ append_assoc (a ++ b) c (d ++ e) ∙ append_assoc a b (c ++ (d ++ e))

module _ (to : ℕ → ℕ) (scoped : List RootEntry) (owned : List OwnedEntry) (slots : List SlotEntry) (globals : List SlotEntry) (pending : ℕ) (roots : List Root)
    (is : roots ≡ map (moved_root to) (all_roots scoped owned slots globals pending)) where
  abbrev l0 : List Root
  l0 = listed_as 0 false (map (λ (e : RootEntry). e.word) scoped)

  abbrev l1 : List Root
  l1 = listed_as 1 false (map (λ (e : OwnedEntry). e.word) owned)

  abbrev l2 : List Root
  l2 = listed_as 2 true (map (λ (e : SlotEntry). e.word) slots)

  abbrev l3 : List Root
  l3 = listed_as 3 false (map (λ (e : SlotEntry). e.word) globals)

  abbrev l4 : List Root
  l4 = listed_as 4 false (pending ∷ [])

  abbrev pub behind0 : List Root
  behind0 = map (moved_root to) (l1 ++ (l2 ++ (l3 ++ l4)))

  abbrev pub behind1 : List Root
  behind1 = map (moved_root to) (l2 ++ (l3 ++ l4))

  abbrev pub behind2 : List Root
  behind2 = map (moved_root to) (l3 ++ l4)

  abbrev pub behind3 : List Root
  behind3 = map (moved_root to) l4

  pub follow0 : ColumnFollows 0 roots to 0 false (map (λ (e : RootEntry). e.word) scoped) behind0
  follow0 = is ∙ map-append (moved_root to) l0 (l1 ++ (l2 ++ (l3 ++ l4)))

  pub follow1 : (at : ℕ) → drop at roots ≡ behind0 → ColumnFollows at roots to 1 false (map (λ (e : OwnedEntry). e.word) owned) behind1
  follow1 at from = from ∙ map-append (moved_root to) l1 (l2 ++ (l3 ++ l4))

  pub follow2 : (at : ℕ) → drop at roots ≡ behind1 → ColumnFollows at roots to 2 true (map (λ (e : SlotEntry). e.word) slots) behind2
  follow2 at from = from ∙ map-append (moved_root to) l2 (l3 ++ l4)

  pub follow3 : (at : ℕ) → drop at roots ≡ behind2 → ColumnFollows at roots to 3 false (map (λ (e : SlotEntry). e.word) globals) behind3
  follow3 at from = from ∙ map-append (moved_root to) l3 l4

  taken4 : (at : ℕ) → drop at roots ≡ behind3 → Taken (λ (w : ℕ). w) (λ (w v : ℕ). v) to 4 false [] (pending ∷ []) roots (pending ∷ []) 0 at
  taken4 at from = record { entries = refl; rest = from ∙ sym (append-nil behind3) }

  pub pending_readable : (at : ℕ) → drop at roots ≡ behind3 → (pending ≡ 0) ⊎ (at < length roots)
  pending_readable at from = readable (λ (w : ℕ). w) (λ (w v : ℕ). v) to 4 false [] (pending ∷ []) roots (pending ∷ []) 0 at 0 (omega arith) (taken4 at from) pending refl

  pub pending_moved : (at word : ℕ) → drop at roots ≡ behind3 → word ≡ cond (nat_eq pending 0) 0 (root_at roots at).word → word ≡ moved to pending
  pending_moved at word from read = next_word (λ (w : ℕ). w) (λ (w v : ℕ). v) to 4 false [] (pending ∷ []) roots (pending ∷ []) 0 at 0 (omega arith) (taken4 at from) pending word refl read

-- The list of all roots moved

scoped_moved : (to : ℕ → ℕ) (es : List RootEntry) → map (λ (e : RootEntry). e.word) (map (λ (e : RootEntry). record e { word = moved to e.word }) es) ≡ map (moved to) (map (λ (e : RootEntry). e.word) es)
scoped_moved to [] = refl
scoped_moved to (e ∷ es) = ap (λ ws. moved to e.word ∷ ws) (scoped_moved to es)

owned_moved : (to : ℕ → ℕ) (es : List OwnedEntry) → map (λ (e : OwnedEntry). e.word) (map (λ (e : OwnedEntry). record e { word = moved to e.word }) es) ≡ map (moved to) (map (λ (e : OwnedEntry). e.word) es)
owned_moved to [] = refl
owned_moved to (e ∷ es) = ap (λ ws. moved to e.word ∷ ws) (owned_moved to es)

slots_moved : (to : ℕ → ℕ) (es : List SlotEntry) → map (λ (e : SlotEntry). e.word) (map (λ (e : SlotEntry). record e { word = moved to e.word }) es) ≡ map (moved to) (map (λ (e : SlotEntry). e.word) es)
slots_moved to [] = refl
slots_moved to (e ∷ es) = ap (λ ws. moved to e.word ∷ ws) (slots_moved to es)

pub all_moved : (to : ℕ → ℕ) (r : RootsView) → ((x : Root) → Contains (roots_of r) x → 0 < x.word → 0 < moved to x.word) → roots_of (moved_roots to r) ≡ map (moved_root to) (roots_of r)
all_moved to r keeps =
    let l0 : List Root = listed_as 0 false (scoped_words r) in
    let l1 : List Root = listed_as 1 false (owned_words r) in
    let l2 : List Root = listed_as 2 true (frame_slot_words r) in
    let l3 : List Root = listed_as 3 false (global_words r) in
    let l4 : List Root = listed_as 4 false (r.pending ∷ []) in
    let e0 = ap (listed_as 0 false) (scoped_moved to r.scoped) ∙ listed_moved to 0 false (scoped_words r) (λ x i. keeps x (Contains-append_left l0 (l1 ++ (l2 ++ (l3 ++ l4))) x i)) in
    let e1 = ap (listed_as 1 false) (owned_moved to r.owned) ∙ listed_moved to 1 false (owned_words r) (λ x i. keeps x (Contains-append_right l0 (l1 ++ (l2 ++ (l3 ++ l4))) x (Contains-append_left l1 (l2 ++ (l3 ++ l4)) x i))) in
    let e2 = ap (listed_as 2 true) (slots_moved to r.slots) ∙ listed_moved to 2 true (frame_slot_words r)
    (λ x i. keeps x (Contains-append_right l0 (l1 ++ (l2 ++ (l3 ++ l4))) x (Contains-append_right l1 (l2 ++ (l3 ++ l4)) x (Contains-append_left l2 (l3 ++ l4) x i)))) in
    let e3 = ap (listed_as 3 false) (slots_moved to r.globals) ∙ listed_moved to 3 false (global_words r)
    (λ x i. keeps x (Contains-append_right l0 (l1 ++ (l2 ++ (l3 ++ l4))) x (Contains-append_right l1 (l2 ++ (l3 ++ l4)) x (Contains-append_right l2 (l3 ++ l4) x (Contains-append_left l3 l4 x i))))) in
    let e4 = listed_moved to 4 false (r.pending ∷ [])
    (λ x i. keeps x (Contains-append_right l0 (l1 ++ (l2 ++ (l3 ++ l4))) x (Contains-append_right l1 (l2 ++ (l3 ++ l4)) x (Contains-append_right l2 (l3 ++ l4) x (Contains-append_right l3 l4 x i))))) in
    let m : List Root → List Root = map (moved_root to) in
    ap₂ (λ (a b : List Root). a ++ b) e0 (ap₂ (λ (a b : List Root). a ++ b) e1 (ap₂ (λ (a b : List Root). a ++ b) e2 (ap₂ (λ (a b : List Root). a ++ b) e3 e4)))
    ∙ sym (map-append (moved_root to) l0 (l1 ++ (l2 ++ (l3 ++ l4)))
    ∙ ap (λ (rs : List Root). map (moved_root to) l0 ++ rs) (map-append (moved_root to) l1 (l2 ++ (l3 ++ l4))
    ∙ ap (λ (rs : List Root). map (moved_root to) l1 ++ rs) (map-append (moved_root to) l2 (l3 ++ l4)
    ∙ ap (λ (rs : List Root). map (moved_root to) l2 ++ rs) (map-append (moved_root to) l3 l4))))
