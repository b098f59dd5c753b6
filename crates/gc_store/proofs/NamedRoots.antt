-- Each root word that isn't null is that of a reference of the table.
use Rattle.std.proofs.Common.{◌≡◌, ℕ, zero, suc, ◌+◌, ◌<◌, ◌==◌, true, false, cond, List, [], ◌∷◌, ◌++◌, length, map, get_or, Option, Some, None, refl, sym, subst, arith}
use Rattle.std.specs.List.{slice_get}
use Rattle.std.proofs.lemmas.Bool.Decides.{nat_tests}
use Rattle.std.proofs.lemmas.Option.{none-some, slice_get_within, slice_get-get_or}
use Rattle.gc_types.specs.declared.kind.Layouts.{Layouts}
use Rattle.gc_owner.specs.declared.entry.OwnedEntry.{OwnedEntry}
use Rattle.gc_owner.specs.declared.entry.SlotEntry.{SlotEntry}
use Rattle.gc_model.specs.Values.{Reference, null}
use Rattle.gc_model.specs.Table.{Table, Slot, Scoped, null_slot}
use Rattle.gc_model.specs.Stores.{StoreView}
use Rattle.gc_model.specs.Holds.{Holds, Placing, IsWord}
use Rattle.gc_model.specs.RootPoints.{SlotsBy, FramesBy, PendingBy}
use Rattle.gc_model.proofs.Members.{get_contains}
use Rattle.gc_store.specs.declared.root_words.RootWord.{RootWord}
use Rattle.gc_store.specs.declared.root_words.RootName.TheVariants as name
use Rattle.gc_store.specs.RootWords.{with_numbers, root_word, global_root_word, slot_root_word, slot_roots, owned_root_word, scoped_root_word, handle_root_words, root_words}

-- a root word that isn't null has a reference
abbrev IsNamed : Placing → RootWord → Type 0
IsNamed place root = 0 < root.word → (r : Reference) × IsWord place r root.word

abbrev AreNamed : Placing → List RootWord → Type 0
AreNamed place roots = (n : ℕ) (root : RootWord) → slice_get roots n ≡ Some root → IsNamed place root

module _ (place : Placing) where
  none_named : AreNamed place []
  none_named n root is = absurd (none-some root is)

  more_named : (root : RootWord) (roots : List RootWord) → IsNamed place root → AreNamed place roots → AreNamed place (root ∷ roots)
  more_named root roots first rest zero found is = let same : root ≡ found = cc in subst (IsNamed place) same first
  more_named root roots first rest (suc n) found is = rest n found is

  both_named : (front behind : List RootWord) → AreNamed place front → AreNamed place behind → AreNamed place (front ++ behind)
  both_named [] behind first rest = rest
  both_named (root ∷ front) behind first rest = more_named root (front ++ behind) (first zero root refl) (both_named front behind (λ n found is. first (suc n) found is) rest)

  numbered_named : {A : Type 0} (give : ℕ → A → RootWord) (from : ℕ) (xs : List A) → ((i k : ℕ) (x : A) → slice_get xs i ≡ Some x → IsNamed place (give k x)) → AreNamed place (with_numbers give from xs)
  numbered_named give from [] each = none_named
  numbered_named give from (x ∷ xs) each = more_named (give from x) (with_numbers give (from + 1) xs) (each zero from x refl) (numbered_named give (from + 1) xs (λ i k y is. each (suc i) k y is))

  slots_named : (give : ℕ → SlotEntry → RootWord) → ((k : ℕ) (e : SlotEntry) → (give k e).word ≡ e.word) → (from : ℕ) (slots : List Slot) (entries : List SlotEntry) → SlotsBy place slots entries → AreNamed place (with_numbers give from entries)
  slots_named give same from slots entries by = numbered_named give from entries (λ i k e is some.
      let within : i < length slots = let inside = slice_get_within entries i e is in let count = by.same_count in omega (arith, inside, count) in
      let stands = by.each i e (get_or slots i null_slot) is (slice_get-get_or slots i null_slot within) in
      ((get_or slots i null_slot).reference, subst (IsWord place (get_or slots i null_slot).reference) (sym (same k e)) stands.word))

  frames_named : (from : ℕ) (frames : List (List Slot)) (entries : List (List SlotEntry)) → FramesBy place frames entries → AreNamed place (slot_roots from entries)
  frames_named from frames [] by = none_named
  frames_named from [] (e ∷ entries) by = let count = by.same_count in absurd (omega (arith, count))
  frames_named from (f ∷ frames) (e ∷ entries) by =
      both_named (with_numbers (slot_root_word from) 0 e) (slot_roots (from + 1) entries)
      (slots_named (slot_root_word from) (λ k x. refl) 0 f e (by.each zero e f refl refl))
      (frames_named (from + 1) frames entries (record { same_count = (let count = by.same_count in omega (arith, count)); each = λ i slots frame at_e at_f. by.each (suc i) slots frame at_e at_f }))

  owned_named : (entries : List OwnedEntry) → ((i : ℕ) (e : OwnedEntry) → slice_get entries i ≡ Some e → 0 < e.handles → (r : Reference) × IsWord place r e.word) → AreNamed place (map owned_root_word entries)
  owned_named [] each = none_named
  owned_named (e ∷ entries) each =
      more_named (owned_root_word e) (map owned_root_word entries) (held_named e (λ held. each zero e refl held))
      (owned_named entries (λ i x is held. each (suc i) x is held))
    where
      held_named : (e : OwnedEntry) → (0 < e.handles → (r : Reference) × IsWord place r e.word) → IsNamed place (owned_root_word e)
      held_named e held = elim (e.handles == 0) as (λ b. (e.handles == 0) ≡ b → 0 < cond b 0 e.word → (r : Reference) × IsWord place r (cond b 0 e.word)) [
        | true ↦ λ is some. absurd (omega (arith, some))
        | false ↦ λ is some. held (grind (arith, nat_tests, is))
      ] refl

  pending_named : (pending : Option Reference) (word : ℕ) → PendingBy place pending word → IsNamed place (root_word name.Pending word)
  pending_named None word by some = absurd (omega (arith, by, some))
  pending_named (Some r) word by some = (r, by.0)

-- the root words of a store that holds a table
pub roots_named : {D : Type 0} (layouts : Layouts) (s : StoreView D) (t : Table D) (place : Placing) → Holds layouts s t place → AreNamed place (root_words s)
roots_named layouts s t place holds =
    both_named place (with_numbers global_root_word 0 s.globals) (root_word name.Pending s.pending ∷ (slot_roots 0 s.frames ++ handle_root_words s.owned s.scoped))
    (slots_named place global_root_word (λ k e. refl) 0 t.globals s.globals holds.globals.slots)
    (more_named place (root_word name.Pending s.pending) (slot_roots 0 s.frames ++ handle_root_words s.owned s.scoped) (pending_named place t.pending s.pending holds.pending.same_word)
    (both_named place (slot_roots 0 s.frames) (handle_root_words s.owned s.scoped) (frames_named place 0 t.frames s.frames holds.frames)
    (both_named place (map owned_root_word s.owned) (with_numbers scoped_root_word 0 s.scoped)
    (owned_named place s.owned (λ i e is held. let there = holds.owned.in_table e (get_contains s.owned i e is) held in (there.0.reference, there.1.1.word)))
    (numbered_named place scoped_root_word 0 s.scoped (λ i k e is some.
    let none : Scoped = record { serial = 0; reference = null } in
    let within : i < length t.scoped = let inside = slice_get_within s.scoped i e is in let count = holds.scoped.same_count in omega (arith, inside, count) in
    let stands = holds.scoped.each i e (get_or t.scoped i none) is (slice_get-get_or t.scoped i none within) in
    ((get_or t.scoped i none).reference, stands.word))))))
