-- A store that holds a table holds it with one more scoped root.
use Rattle.std.proofs.Common.{◌≡◌, ℕ, ◌+◌, ◌-◌, ◌^◌, ◌<◌, ◌≤◌, inl, inr, [], ◌∷◌, ◌++◌, false, Some, length, sym, ap, ◌∙◌, refl, subst, arith}
use Rattle.std.proofs.lemmas.Bool.Decides.{nat_tests}
use Rattle.std.specs.List.{slice_get}
use Rattle.std.proofs.lemmas.Option.{slice_get_within}
use Rattle.std.proofs.lemmas.List.{length_push}
use Rattle.gc_types.specs.declared.kind.Layouts.{Layouts}
use Rattle.gc_owner.specs.declared.entry.RootEntry.{RootEntry}
use Rattle.gc_model.specs.Values.{Reference}
use Rattle.gc_model.specs.Table.{Table, Scoped, Push, push}
use Rattle.gc_model.specs.Live.{roots_full}
use Rattle.gc_view.specs.Heaps.{HeapView}
use Rattle.gc_model.specs.Stores.{StoreView}
use Rattle.gc_model.specs.Holds.{Placing, IsWord, Holds}
use Rattle.gc_model.proofs.Lists.{slice_get-push_old, slice_get-push_new, slice_get-push_cases}
use Rattle.gc_model.proofs.HoldsParts.{SameHeld, scoped_changed, holds_same}
use Rattle.gc_model.proofs.PointParts.{EntryStands, IsPast}

-- the store with another heap and one more scoped root
abbrev pub with_root : {D : Type 0} → HeapView → ℕ → StoreView D → StoreView D
with_root heap word s = record s { heap = heap; scoped = s.scoped ++ (record { generation = s.generation; word = word }) ∷ [] }

-- where one more root may be made, fewer stand than may, and the count of scope ends goes on
pub room_for_root : {D : Type 0} (t : Table D) → roots_full t ≡ false → t.drops ≤ 2 ^ 64 - 1 → (length t.scoped < t.max_scoped) × (t.drops < 2 ^ 64 - 1)
room_for_root t room within = (grind (arith, nat_tests, room), grind (arith, nat_tests, room, within))

module _ {D : Type 0} (layouts : Layouts) (s : StoreView D) (t : Table D) (place : Placing) (r : Reference) (heap : HeapView) (word : ℕ) (holds : Holds layouts s t place) (room : roots_full t ≡ false) where
  abbrev entry : RootEntry
  entry = record { generation = s.generation; word = word }

  abbrev root : Scoped
  root = record { serial = length t.pushes; reference = r }

  abbrev pushed : Push
  pushed = record { index = length t.scoped; generation = t.drops }

  entry_stands : IsWord place r word → 0 < word → EntryStands (push r t) place (length t.scoped) entry root
  entry_stands is positive = record {
    pushed = subst (λ (g : ℕ). slice_get (t.pushes ++ pushed ∷ []) (length t.pushes) ≡ Some (record { index = length t.scoped; generation = g })) (sym holds.scopes.generation) (slice_get-push_new t.pushes pushed);
    word = is;
    not_null = positive;
  }

  old_stands : (i : ℕ) (e : RootEntry) (x : Scoped) → slice_get s.scoped i ≡ Some e → slice_get t.scoped i ≡ Some x → EntryStands (push r t) place i e x
  old_stands i e x in_store in_table =
      let stands = holds.scoped.each i e x in_store in_table in
      record { pushed = slice_get-push_old t.pushes pushed x.serial _ stands.pushed; word = stands.word; not_null = stands.not_null }

  each_stands : IsWord place r word → 0 < word → (i : ℕ) (e : RootEntry) (x : Scoped) → slice_get (s.scoped ++ entry ∷ []) i ≡ Some e → slice_get (t.scoped ++ root ∷ []) i ≡ Some x → EntryStands (push r t) place i e x
  each_stands is positive i e x in_store in_table =
      elim (slice_get-push_cases s.scoped entry i e in_store) [
        | inl old ↦ elim (slice_get-push_cases t.scoped root i x in_table) [
          | inl old' ↦ old_stands i e x old old'
          | inr new' ↦ absurd (omega (arith, slice_get_within s.scoped i e old, holds.scoped.same_count, new'.0))
        ]
        | inr new ↦ elim (slice_get-push_cases t.scoped root i x in_table) [
          | inl old' ↦ absurd (omega (arith, slice_get_within t.scoped i x old', holds.scoped.same_count, new.0))
          | inr new' ↦
              subst (λ (j : ℕ). EntryStands (push r t) place j e x) (sym new'.0)
              (subst (λ (y : Scoped). EntryStands (push r t) place (length t.scoped) e y) new'.1
              (subst (λ (y : RootEntry). EntryStands (push r t) place (length t.scoped) y root) new.1 (entry_stands is positive)))
        ]
      ]

  past_after : (p : Push) → IsPast t p → IsPast (push r t) p
  past_after p (inl earlier) = inl earlier
  past_after p (inr now) = inr (now.0, omega (arith, now.1, length_push t.scoped root))

  -- a push that was made before is not the new one
  is_not_new : (serial : ℕ) (p : Push) → slice_get t.pushes serial ≡ Some p → pushed ≡ p → ⊥
  is_not_new serial p e same =
      elim (holds.pushes.past serial p e) [
        | inl earlier ↦ omega (arith, earlier, ap (λ (q : Push). q.generation) same)
        | inr now ↦ omega (arith, now.1, ap (λ (q : Push). q.index) same)
      ]

  past : (serial : ℕ) (p : Push) → slice_get (t.pushes ++ pushed ∷ []) serial ≡ Some p → IsPast (push r t) p
  past serial p e =
      elim (slice_get-push_cases t.pushes pushed serial p e) [
        | inl old ↦ past_after p (holds.pushes.past serial p old)
        | inr new ↦ subst (IsPast (push r t)) new.1 (inr (refl, omega (arith, length_push t.scoped root)))
      ]

  early : (serial : ℕ) (p : Push) → slice_get (t.pushes ++ pushed ∷ []) serial ≡ Some p → p.generation < 2 ^ 64 - 1
  early serial p e =
      elim (slice_get-push_cases t.pushes pushed serial p e) [
        | inl old ↦ holds.pushes.early serial p old
        | inr new ↦ subst (λ (q : Push). q.generation < 2 ^ 64 - 1) new.1 (room_for_root t room holds.scopes.drops_within).1
      ]

  differ : (a b : ℕ) (p : Push) → slice_get (t.pushes ++ pushed ∷ []) a ≡ Some p → slice_get (t.pushes ++ pushed ∷ []) b ≡ Some p → a ≡ b
  differ a b p e f =
      elim (slice_get-push_cases t.pushes pushed a p e) [
        | inl old ↦ elim (slice_get-push_cases t.pushes pushed b p f) [
          | inl old' ↦ holds.pushes.apart a b p old old'
          | inr new' ↦ absurd (is_not_new a p old new'.1)
        ]
        | inr new ↦ elim (slice_get-push_cases t.pushes pushed b p f) [
          | inl old' ↦ absurd (is_not_new b p old' new.1)
          | inr new' ↦ new.0 ∙ sym new'.0
        ]
      ]

  pub holds_push : SameHeld s.heap heap → IsWord place r word → 0 < word → Holds layouts (with_root heap word s) (push r t) place
  holds_push same is positive =
      scoped_changed (holds_same layouts s t place heap holds same)
      (record {
        generation = holds.scopes.generation;
        scoped_within = omega (arith, length_push t.scoped root, (room_for_root t room holds.scopes.drops_within).0);
        drops_within = holds.scopes.drops_within;
      })
      (record {
        same_count = length_push s.scoped entry ∙ ap (λ k. k + 1) holds.scoped.same_count ∙ sym (length_push t.scoped root);
        each = each_stands is positive;
      })
      (record { past = past; early = early; apart = differ })
