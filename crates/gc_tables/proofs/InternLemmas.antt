-- How the index of a table follows its entries.
use Rattle.std.proofs.Common.{◌≡◌, ◌≢◌, ◌↔◌, ◌⊎◌, inl, inr, ℕ, Bool, true, false, cond, List, [], Option, Some, None, IsTrue, true≢false, refl, sym, ap, subst, ◌∙◌}
use Rattle.std.proofs.lemmas.Bool.{cases_eq}
use Rattle.std.proofs.lemmas.Option.{none-some, same_Some}
use Rattle.std.specs.Ordering.{nat_cmp, eq_by_cmp}
use Rattle.std.specs.Cmp.{IsEquivalence, nat_cmp_total}
use Rattle.std.specs.FinMap as finite
use Rattle.std.specs.HashMap as hash
use Rattle.std.specs.Map.{lookup}
use Rattle.gc_tables.specs.SideTables.{SideTable, value_at}
use Rattle.gc_tables.specs.Interned.{IsInterned, IsIdOf, AddsEntry, Interns, IsIndex}
use Rattle.gc_tables.proofs.SlotLemmas.{tied, apart}

module _ {T : Type 0} (entries : finite.FinMap nat_cmp T) (id : ℕ) (v : T) where
  -- what stands under an id after one more entry
  pub get-added_here : (q : ℕ) → q ≡ id → finite.get (finite.insert entries id v) q ≡ Some v
  get-added_here q same =
      finite.get-insert nat_cmp_total entries id v q ∙ ap (λ (b : Bool). cond b (Some v) (finite.get entries q)) (tied q id same)

  pub get-added_behind : (q : ℕ) → q ≢ id → finite.get (finite.insert entries id v) q ≡ finite.get entries q
  get-added_behind q differs =
      finite.get-insert nat_cmp_total entries id v q ∙ ap (λ (b : Bool). cond b (Some v) (finite.get entries q)) (apart q id differs)

pub index-empty : {T S : Type 0} (eq : T → T → Bool) (entries : finite.FinMap nat_cmp T) (m : hash.HashMap T ℕ S) → entries ≡ finite.empty → m.entries ≡ [] → IsIndex eq entries m
index-empty eq entries m is_empty none value id = (
  λ found. absurd (none-some id (ap (lookup (eq value)) (sym none) ∙ found)),
  λ found. absurd (none-some value (sym (ap (λ e. finite.get e id) is_empty ∙ finite.get-empty nat_cmp id) ∙ found)),
)

module _ {T S : Type 0} {eq : T → T → Bool} (equivalence : IsEquivalence eq) (exact : (a b : T) → IsTrue (eq a b) → a ≡ b) where
  pub index-add : (entries : finite.FinMap nat_cmp T) (m n : hash.HashMap T ℕ S) (new : T) (place : ℕ)
      → IsIndex eq entries m → finite.get entries place ≡ None → ((id : ℕ) → finite.get entries id ≡ Some new → ⊥)
      → ((q : T) → hash.get eq n q ≡ cond (eq new q) (Some place) (hash.get eq m q))
      → IsIndex eq (finite.insert entries place new) n
  index-add entries m n new place index free missing updates value id =
      elim (eq new value) as (λ b. eq new value ≡ b → (hash.get eq n value ≡ Some id) ↔ (finite.get (finite.insert entries place new) id ≡ Some value)) [
        | true ↦ λ e.
            let same : new ≡ value = exact new value e in
            let at : hash.get eq n value ≡ Some place = updates value ∙ ap (λ (b : Bool). cond b (Some place) (hash.get eq m value)) e in (
              λ found. get-added_here entries place new id (same_Some id place (sym found ∙ at)) ∙ ap Some same,
              λ found. elim (cases_eq id place) [
                | inl here ↦ at ∙ ap Some (sym here)
                | inr differs ↦ absurd (missing id (sym (get-added_behind entries place new id differs) ∙ found ∙ ap Some (sym same)))
              ],
            )
        | false ↦ λ e.
            let at : hash.get eq n value ≡ hash.get eq m value = updates value ∙ ap (λ (b : Bool). cond b (Some place) (hash.get eq m value)) e in (
              λ found.
                  let old : finite.get entries id ≡ Some value = (index value id).0 (sym at ∙ found) in
                  get-added_behind entries place new id (λ here. none-some value (sym free ∙ ap (finite.get entries) (sym here) ∙ old)) ∙ old,
              λ found. elim (cases_eq id place) [
                | inl here ↦
                    let same : new ≡ value = same_Some new value (sym (get-added_here entries place new id here) ∙ found) in
                    absurd (true≢false (sym (equivalence.refl new) ∙ ap (eq new) same ∙ e))
                | inr differs ↦ at ∙ (index value id).1 (sym (get-added_behind entries place new id differs) ∙ found)
              ],
            )
      ] refl

module _ {T : Type 0} where
  pub interns-new : (old room new : SideTable T) (value : T) (id : ℕ)
      → room.entries ≡ old.entries → ¬ IsInterned old value → value_at room id ≡ None → new.entries ≡ finite.insert room.entries id value
      → Interns old new value id
  interns-new old room new value id same missing free added =
      let is : new.entries ≡ finite.insert old.entries id value = added ∙ ap (λ e. finite.insert e id value) same in
      record {
        is_id = λ other. (
          λ found. elim (cases_eq other id) [
            | inl here ↦ here
            | inr differs ↦ absurd (missing (other, sym (ap (λ e. finite.get e other) is ∙ get-added_behind old.entries id value other differs) ∙ found))
          ],
          λ here. ap (λ e. finite.get e other) is ∙ get-added_here old.entries id value other here,
        );
        change = inr (record { missing = missing; fresh = ap (λ e. finite.get e id) (sym same) ∙ free; added = is });
      }

  pub interns-known : (t : SideTable T) (value : T) (id : ℕ) → IsIdOf t value id → Interns t t value id
  interns-known t value id is_id = record { is_id = is_id; change = inl ((id, (is_id id).1 refl), refl) }

  -- each id keeps its value
  pub interns-keeps : (old new : SideTable T) (value : T) (id : ℕ) → Interns old new value id
      → (other : ℕ) (v : T) → value_at old other ≡ Some v → value_at new other ≡ Some v
  interns-keeps old new value id interns other v there =
      elim interns.change [
        | inl known ↦ ap (λ e. finite.get e other) known.1 ∙ there
        | inr adds ↦
            let differs : other ≢ id = λ same. none-some v (sym adds.fresh ∙ ap (finite.get old.entries) (sym same) ∙ there) in
            ap (λ e. finite.get e other) adds.added ∙ get-added_behind old.entries id value other differs ∙ there
      ]

  -- equal ids exactly for equal values
  pub interns-same : (old mid new : SideTable T) (one two : T) (first second : ℕ) → Interns old mid one first → Interns mid new two second
      → (first ≡ second) ↔ (one ≡ two)
  interns-same old mid new one two first second a b =
      let kept : value_at new first ≡ Some one = interns-keeps mid new two second b first one ((a.is_id first).1 refl) in (
        λ same. same_Some one two (sym kept ∙ (b.is_id first).1 same),
        λ same. (b.is_id first).0 (kept ∙ ap Some same),
      )
