-- A root that is gone stays gone.
use Rattle.std.proofs.Common.{◌≡◌, ℕ, zero, suc, ◌<◌, ◌≤◌, ◌==◌, ◌∙◌, length, cond, true, false, List, [], ◌∷◌, ◌++◌, take, Option, Some, None, refl, ap, sym, arith}
use Rattle.std.proofs.lemmas.Bool.Decides.{nat_tests}
use Rattle.std.specs.List.{slice_get}
use Rattle.std.proofs.lemmas.Option.{slice_get_within}
use Rattle.gc_types.specs.declared.kind.Layouts.{Layouts}
use Rattle.gc_owner.specs.declared.entry.RootEntry.{RootEntry}
use Rattle.gc_model.specs.Table.{Table, Scoped, Push, leave}
use Rattle.gc_model.specs.Live.{rooted, rooted_among}
use Rattle.gc_model.specs.Stores.{StoreView}
use Rattle.gc_model.specs.Holds.{HoldsTable}

abbrev index_or : Option Push → ℕ
index_or None = 0
index_or (Some p) = p.index

entry_at : (entries : List RootEntry) (j : ℕ) → j < length entries → (e : RootEntry) × (slice_get entries j ≡ Some e)
entry_at [] j below = absurd (omega (arith, below))
entry_at (e ∷ es) zero below = (e, refl)
entry_at (e ∷ es) (suc j) below = entry_at es j (omega (arith, below))

pub gone_push : (x : ℕ) (roots : List Scoped) (r : Scoped) → (r.serial == x) ≡ false → rooted_among x roots ≡ None → rooted_among x (roots ++ r ∷ []) ≡ None
gone_push x [] r other none = ap (λ b. cond b (Some r.reference) None) other
gone_push x (root ∷ roots) r other none =
    elim (root.serial == x) as (λ b. cond b (Some root.reference) (rooted_among x roots) ≡ None → cond b (Some root.reference) (rooted_among x (roots ++ r ∷ [])) ≡ None) [
      | true ↦ λ e. e
      | false ↦ λ e. gone_push x roots r other e
    ] none

pub gone_take : (x : ℕ) (mark : ℕ) (roots : List Scoped) → rooted_among x roots ≡ None → rooted_among x (take mark roots) ≡ None
gone_take x zero roots none = refl
gone_take x (suc mark) [] none = refl
gone_take x (suc mark) (root ∷ roots) none =
    elim (root.serial == x) as (λ b. cond b (Some root.reference) (rooted_among x roots) ≡ None → cond b (Some root.reference) (rooted_among x (take mark roots)) ≡ None) [
      | true ↦ λ e. e
      | false ↦ λ e. gone_take x mark roots e
    ] none

-- a serial below another is not that one
pub below_differs : (x n : ℕ) → x < n → (n == x) ≡ false
below_differs x n below = grind (arith, nat_tests)

-- no root before the mark has that serial
pub none_take : (x : ℕ) (mark : ℕ) (xs : List Scoped) → ((j : ℕ) (r : Scoped) → j < mark → slice_get xs j ≡ Some r → (r.serial == x) ≡ false) → rooted_among x (take mark xs) ≡ None
none_take x zero xs f = refl
none_take x (suc m) [] f = refl
none_take x (suc m) (r ∷ xs) f =
    ap (λ b. cond b (Some r.reference) (rooted_among x (take m xs))) (f 0 r (omega arith) refl)
    ∙ none_take x m xs (λ j q below e. f (suc j) q (omega (arith, below)) e)

pub not_same : (a b : ℕ) → (a ≡ b → ⊥) → (a == b) ≡ false
not_same a b ne = grind (arith, nat_tests, ne)

-- the roots past the mark of a scope are gone when it is left
pub left_gone : {D : Type 0} (layouts : Layouts) (s : StoreView D) (t : Table D) (mark i : ℕ) (root : Scoped) → HoldsTable layouts s t → mark ≤ i → slice_get t.scoped i ≡ Some root → rooted (leave mark t) root.serial ≡ None
left_gone layouts s t mark i root holds past here =
    let scoped = holds.1.scoped in
    let stands : (j : ℕ) (r : Scoped) → slice_get t.scoped j ≡ Some r → (g : ℕ) × (slice_get t.pushes r.serial ≡ Some (record { index = j; generation = g })) =
    λ j r e.
    let entry = entry_at s.scoped j (omega (arith, slice_get_within t.scoped j r e, scoped.same_count)) in
    (entry.0.generation, (scoped.each j entry.0 r entry.1 e).pushed) in
    let mine = stands i root here in
    none_take root.serial mark t.scoped (λ j r below e.
    not_same r.serial root.serial (λ same.
    let other = stands j r e in
    let index : j ≡ i = sym (ap index_or other.1) ∙ ap (λ k. index_or (slice_get t.pushes k)) same ∙ ap index_or mine.1 in
    omega (arith, index, below, past)))
