-- A handle is live exactly where the entry at its index has its generation.
use Rattle.std.proofs.Common.{inl, inr, ◌≡◌, ◌≢◌, ℕ, ◌+◌, ◌<◌, List, [], ◌∷◌, true, false, cond, eqb, Some, None, sym, ap, ◌∙◌, refl, subst, arith, zero, suc}
use Rattle.std.specs.List.{slice_get}
use Rattle.std.proofs.lemmas.Grind.{common_steps}
use Rattle.std.proofs.lemmas.Option.{none-some, slice_get_within, slice_get_cases}
use Rattle.gc_types.specs.declared.kind.Layouts.{Layouts}
use Rattle.gc_owner.specs.declared.entry.RootEntry.{RootEntry}
use Rattle.gc_model.specs.Values.{Reference}
use Rattle.gc_model.specs.Table.{Table, Scoped, Push}
use Rattle.gc_model.specs.Live.{rooted, rooted_among}
use Rattle.gc_model.specs.Stores.{StoreView}
use Rattle.gc_model.specs.Holds.{Placing, IsWord, Holds}
use Rattle.gc_model.proofs.PointParts.{EntryStands}

-- each root's serial is of a push whose index is the root's, counted from k
abbrev pub AreIndexed : List Push → ℕ → List Scoped → Type 0
AreIndexed pushes k roots = (j : ℕ) (r : Scoped) → slice_get roots j ≡ Some r → (p : Push) × ((slice_get pushes r.serial ≡ Some p) × (p.index ≡ k + j))

indexed-rest : (pushes : List Push) (k : ℕ) (x : Scoped) (roots : List Scoped) → AreIndexed pushes k (x ∷ roots) → AreIndexed pushes (k + 1) roots
indexed-rest pushes k x roots indexed j r e = let p = indexed (suc j) r e in (p.0, (p.1.0, omega (arith, p.1.1)))

-- two roots at different indexes have different serials
serials_differ : (pushes : List Push) (k : ℕ) (x : Scoped) (roots : List Scoped) (i : ℕ) (root : Scoped) → AreIndexed pushes k (x ∷ roots) → slice_get roots i ≡ Some root → x.serial ≢ root.serial
serials_differ pushes k x roots i root indexed e same =
    let p = indexed 0 x refl in
    let q = indexed (suc i) root e in
    let pushes_same : Some p.0 ≡ Some q.0 = sym p.1.0 ∙ ap (slice_get pushes) same ∙ q.1.0 in
    let is : p.0 ≡ q.0 = grind (arith, pushes_same) in
    omega (arith, p.1.1, q.1.1, ap (λ (r : Push). r.index) is)

-- the root at an index is found by its serial
rooted_among-found : (pushes : List Push) (k : ℕ) (roots : List Scoped) (i : ℕ) (root : Scoped) → AreIndexed pushes k roots → slice_get roots i ≡ Some root → rooted_among root.serial roots ≡ Some root.reference
rooted_among-found pushes k [] i root indexed e = absurd (none-some root e)
rooted_among-found pushes k (x ∷ roots) zero root indexed e = grind (arith, common_steps, e)
rooted_among-found pushes k (x ∷ roots) (suc i) root indexed e =
    let ne : x.serial ≢ root.serial = serials_differ pushes k x roots i root indexed e in
    let below = rooted_among-found pushes (k + 1) roots i root (indexed-rest pushes k x roots indexed) e in
    let test : eqb x.serial root.serial ≡ false = grind (arith, common_steps) in
    ap (λ b. cond b (Some x.reference) (rooted_among root.serial roots)) test ∙ below

-- where no root has the serial, none is found
rooted_among-none : (serial : ℕ) (roots : List Scoped) → ((j : ℕ) (r : Scoped) → slice_get roots j ≡ Some r → r.serial ≢ serial) → rooted_among serial roots ≡ None
rooted_among-none serial [] differ = refl
rooted_among-none serial (x ∷ roots) differ =
    let ne : x.serial ≢ serial = differ 0 x refl in
    let below = rooted_among-none serial roots (λ j. differ (suc j)) in
    let test : eqb x.serial serial ≡ false = grind (arith, common_steps) in
    ap (λ b. cond b (Some x.reference) (rooted_among serial roots)) test ∙ below

module _ {D : Type 0} (layouts : Layouts) (s : StoreView D) (t : Table D) (place : Placing) (holds : Holds layouts s t place) (serial : ℕ) (push : Push) (pushed : slice_get t.pushes serial ≡ Some push) where
  -- the entry that stands beside a root of the table
  entry_at : (i : ℕ) (root : Scoped) → slice_get t.scoped i ≡ Some root → (entry : RootEntry) × (slice_get s.scoped i ≡ Some entry)
  entry_at i root e =
      elim ((slice_get_cases s.scoped i).1) [
        | inl found ↦ (found.0, found.2)
        | inr past ↦ absurd (omega (arith, past.0, holds.scoped.same_count, slice_get_within t.scoped i root e))
      ]

  root_at : (i : ℕ) (entry : RootEntry) → slice_get s.scoped i ≡ Some entry → (root : Scoped) × (slice_get t.scoped i ≡ Some root)
  root_at i entry e =
      elim ((slice_get_cases t.scoped i).1) [
        | inl found ↦ (found.0, found.2)
        | inr past ↦ absurd (omega (arith, past.0, holds.scoped.same_count, slice_get_within s.scoped i entry e))
      ]

  indexed : AreIndexed t.pushes 0 t.scoped
  indexed j r e =
      let entry = entry_at j r e in
      let stands = holds.scoped.each j entry.0 r entry.1 e in
      (record { index = j; generation = entry.0.generation }, (stands.pushed, omega arith))

  -- where the entry at the push's index has its generation, the root is live and has that word
  pub live_word : (entry : RootEntry) → slice_get s.scoped push.index ≡ Some entry → entry.generation ≡ push.generation → (r : Reference) × ((rooted t serial ≡ Some r) × (IsWord place r entry.word) × (0 < entry.word))
  live_word entry e same =
      let root = root_at push.index entry e in
      let stands = holds.scoped.each push.index entry root.0 e root.1 in
      let is : slice_get t.pushes root.0.serial ≡ Some push = stands.pushed ∙ ap (λ g. Some (record { index = push.index; generation = g })) same in
      let serial_is : root.0.serial ≡ serial = holds.pushes.apart root.0.serial serial push is pushed in
      (root.0.reference, (ap (λ n. rooted_among n t.scoped) (sym serial_is) ∙ rooted_among-found t.pushes 0 t.scoped push.index root.0 indexed root.1, stands.word, stands.not_null))

  -- where it has not, the root is gone
  pub dead_word : ((entry : RootEntry) → slice_get s.scoped push.index ≡ Some entry → entry.generation ≢ push.generation) → rooted t serial ≡ None
  dead_word differs = rooted_among-none serial t.scoped (λ j r e same.
      let entry = entry_at j r e in
      let stands = holds.scoped.each j entry.0 r entry.1 e in
      let pushes_same : Some (record { index = j; generation = entry.0.generation }) ≡ Some push = sym stands.pushed ∙ ap (slice_get t.pushes) same ∙ pushed in
      let is : (record { index = j; generation = entry.0.generation }) ≡ push = grind (arith, pushes_same) in
      differs entry.0 (ap (slice_get s.scoped) (sym (ap (λ (p : Push). p.index) is)) ∙ entry.1) (ap (λ (p : Push). p.generation) is))

-- an entry of the store stands beside a root of the table
pub entry_stands : {D : Type 0} (layouts : Layouts) (s : StoreView D) (t : Table D) (place : Placing) → Holds layouts s t place → (i : ℕ) (entry : RootEntry) → slice_get s.scoped i ≡ Some entry → (root : Scoped) × ((slice_get t.scoped i ≡ Some root) × EntryStands t place i entry root)
entry_stands layouts s t place holds i entry e =
    elim ((slice_get_cases t.scoped i).1) [
      | inl found ↦ (found.0, (found.2, holds.scoped.each i entry found.0 e found.2))
      | inr past ↦ absurd (omega (arith, past.0, holds.scoped.same_count, slice_get_within s.scoped i entry e))
    ]

-- a serial that is found is that of a root
rooted_among-some : (serial : ℕ) (roots : List Scoped) (r : Reference) → rooted_among serial roots ≡ Some r → (i : ℕ) × ((root : Scoped) × ((slice_get roots i ≡ Some root) × (root.reference ≡ r)))
rooted_among-some serial [] r e = absurd (none-some r e)
rooted_among-some serial (x ∷ roots) r e =
    elim (eqb x.serial serial) as (λ b. cond b (Some x.reference) (rooted_among serial roots) ≡ Some r → (i : ℕ) × ((root : Scoped) × ((slice_get (x ∷ roots) i ≡ Some root) × (root.reference ≡ r)))) [
      | true ↦ λ h. (0, (x, (refl, grind (arith, h))))
      | false ↦ λ h. let found = rooted_among-some serial roots r h in (suc found.0, (found.1.0, found.1.1))
    ] e

-- what a live root names has a word, which is not null
pub rooted_word : {D : Type 0} (layouts : Layouts) (s : StoreView D) (t : Table D) (place : Placing) → Holds layouts s t place → (serial : ℕ) (r : Reference) → rooted t serial ≡ Some r → (word : ℕ) × (IsWord place r word × (0 < word))
rooted_word layouts s t place holds serial r live =
    let found = rooted_among-some serial t.scoped r live in
    let entry : (e : RootEntry) × (slice_get s.scoped found.0 ≡ Some e) =
    elim ((slice_get_cases s.scoped found.0).1) [
      | inl here ↦ (here.0, here.2)
      | inr past ↦ absurd (omega (arith, past.0, holds.scoped.same_count, slice_get_within t.scoped found.0 found.1.0 found.1.1.0))
    ] in
    let stands = holds.scoped.each found.0 entry.0 found.1.0 entry.1 found.1.1.0 in
    (entry.0.word, (subst (λ (q : Reference). IsWord place q entry.0.word) found.1.1.1 stands.word, stands.not_null))
