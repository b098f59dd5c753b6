-- A store that holds a table holds it after a scope was left.
use Rattle.std.proofs.Common.{◌≡◌, ℕ, ◌+◌, ◌-◌, ◌^◌, ◌<◌, ◌≤◌, ◌⊎◌, inl, inr, true, false, cond, Some, length, take, min, sym, ap, ◌∙◌, refl, subst, arith}
use Rattle.std.specs.Prelude.{nat_lt}
use Rattle.std.specs.List.{slice_get}
use Rattle.std.proofs.lemmas.Bool.Decides.{nat_tests}
use Rattle.std.proofs.lemmas.List.{length-take}
use Rattle.gc_types.specs.declared.kind.Layouts.{Layouts}
use Rattle.gc_model.specs.Table.{Table, Push, leave}
use Rattle.gc_view.specs.Heaps.{HeapView}
use Rattle.gc_model.specs.Stores.{StoreView}
use Rattle.gc_model.specs.Holds.{Placing, Holds, ScopedHold}
use Rattle.gc_model.proofs.Lists.{slice_get-take}
use Rattle.gc_model.proofs.HoldsParts.{SameHeld, scoped_changed, holds_same}
use Rattle.gc_model.proofs.PointParts.{IsPast}

-- the count of scope ends, once a scope was left that began with so many of the roots
abbrev pub drops_after : ℕ → ℕ → ℕ → ℕ
drops_after mark roots drops = cond (nat_lt mark roots) (min (drops + 1) (2 ^ 64 - 1)) drops

-- the store with another heap, and without the roots behind so many
abbrev pub without_roots : {D : Type 0} → HeapView → ℕ → StoreView D → StoreView D
without_roots heap mark s = record s { heap = heap; scoped = take mark s.scoped; generation = drops_after mark (length s.scoped) s.generation }

drops_after-within : (mark roots drops : ℕ) → drops ≤ 2 ^ 64 - 1 → drops_after mark roots drops ≤ 2 ^ 64 - 1
drops_after-within mark roots drops within =
    elim (nat_lt mark roots) as (λ b. cond b (min (drops + 1) (2 ^ 64 - 1)) drops ≤ 2 ^ 64 - 1) [
      | true ↦ omega arith
      | false ↦ within
    ]

-- a push of before the scope's end is past after it
past-left : (mark roots drops generation index : ℕ) → generation < 2 ^ 64 - 1 → (generation < drops) ⊎ ((generation ≡ drops) × (index < roots)) → (generation < drops_after mark roots drops) ⊎ ((generation ≡ drops_after mark roots drops) × (index < min mark roots))
past-left mark roots drops generation index early past =
    elim (nat_lt mark roots) as (λ b. nat_lt mark roots ≡ b → (generation < cond b (min (drops + 1) (2 ^ 64 - 1)) drops) ⊎ ((generation ≡ cond b (min (drops + 1) (2 ^ 64 - 1)) drops) × (index < min mark roots))) [
      | true ↦ λ e. elim past [ inl h ↦ inl (omega arith) | inr h ↦ inl (omega (arith, h.0)) ]
      | false ↦ λ e. elim past [
        | inl h ↦ inl h
        | inr h ↦ let all : roots ≤ mark = grind (arith, nat_tests, e) in inr (h.0, omega (arith, h.1))
      ]
    ] refl

module _ {D : Type 0} (layouts : Layouts) (s : StoreView D) (t : Table D) (place : Placing) (heap : HeapView) (mark : ℕ) (holds : Holds layouts s t place) where
  -- the roots in front are as they were
  scoped : ScopedHold (leave mark t) place (take mark s.scoped)
  scoped = record {
    same_count = length-take mark s.scoped ∙ ap (min mark) holds.scoped.same_count ∙ sym (length-take mark t.scoped);
    each = λ i entry root e f.
        let stands = holds.scoped.each i entry root (slice_get-take mark s.scoped i entry e) (slice_get-take mark t.scoped i root f) in
        record { pushed = stands.pushed; word = stands.word; not_null = stands.not_null };
  }

  past : (serial : ℕ) (p : Push) → slice_get t.pushes serial ≡ Some p → IsPast (leave mark t) p
  past serial p e =
      subst (λ (n : ℕ). (p.generation < drops_after mark (length t.scoped) t.drops) ⊎ ((p.generation ≡ drops_after mark (length t.scoped) t.drops) × (p.index < n))) (sym (length-take mark t.scoped))
      (past-left mark (length t.scoped) t.drops p.generation p.index (holds.pushes.early serial p e) (holds.pushes.past serial p e))

  pub holds_leave : SameHeld s.heap heap → Holds layouts (without_roots heap mark s) (leave mark t) place
  holds_leave same =
      scoped_changed (holds_same layouts s t place heap holds same)
      (record {
        generation = λ i. drops_after mark (holds.scoped.same_count i) (holds.scopes.generation i);
        scoped_within = omega (arith, length-take mark t.scoped, holds.scopes.scoped_within);
        drops_within = drops_after-within mark (length t.scoped) t.drops holds.scopes.drops_within;
      })
      scoped
      (record { past = past; early = holds.pushes.early; apart = holds.pushes.apart })
