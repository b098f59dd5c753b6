-- A host value is taken out of its table.
use Rattle.std.proofs.Common.{◌≡◌, ℕ, ◌+◌, ◌-◌, ◌<◌, Bool, cond, None, refl, sym, ap, ◌∙◌, inl, inr, arith}
use Rattle.std.proofs.Math.Logic.{◌⊎◌}
use Rattle.std.proofs.lemmas.Bool.{cases_eq, eq-eqb, ne_eqb}
use Rattle.std.proofs.lemmas.Option.{none-some}
use Rattle.std.specs.Ordering.{nat_cmp}
use Rattle.std.specs.Cmp.{nat_cmp_total, unsigned_tied}
use Rattle.std.specs.FinMap as finite
use Rattle.gc_tables.specs.SideTables.{max_entries}
use Rattle.gc_tables.specs.declared.host_data.HostFault.{HostFault}
use Rattle.gc_tables.specs.declared.host_data.HostFault.TheVariants.{BadHostDataId}
use Rattle.gc_heap.specs.FreedHosts.{FreesHost}

module _ {D : Type 0} (old : finite.FinMap nat_cmp D) (id : ℕ) where
  removed_here : (q : ℕ) → q ≡ id → finite.get (finite.remove old id) q ≡ None
  removed_here q same =
      finite.get-remove nat_cmp_total old id q ∙ ap (λ (b : Bool). cond b None (finite.get old q)) (unsigned_tied q id ∙ eq-eqb q id same)

  removed_behind : (q : ℕ) → (q ≡ id → ⊥) → finite.get (finite.remove old id) q ≡ finite.get old q
  removed_behind q differs =
      finite.get-remove nat_cmp_total old id q ∙ ap (λ (b : Bool). cond b None (finite.get old q)) (unsigned_tied q id ∙ ne_eqb q id differs)

-- a value that was taken out
pub frees_removed : (D : Type 0) (old new : finite.FinMap nat_cmp D) (id raw : ℕ) → id + 1 ≡ raw → new ≡ finite.remove old id → FreesHost D old new raw
frees_removed D old new id raw is removed = record {
  lost = λ _. ap (λ m. finite.get m (raw - 1)) removed ∙ removed_here old id (raw - 1) (omega arith);
  others = λ q other. ap (λ m. finite.get m q) removed ∙ removed_behind old id q (λ e. other (omega arith));
  part = λ q value found. elim (cases_eq q id) [
    | inl e ↦ absurd (none-some value (sym (ap (λ m. finite.get m q) removed ∙ removed_here old id q e) ∙ found))
    | inr ne ↦ sym (ap (λ m. finite.get m q) removed ∙ removed_behind old id q ne) ∙ found
  ];
}

-- one that wasn't there
pub frees_none : (D : Type 0) (old new : finite.FinMap nat_cmp D) (id raw : ℕ) → id + 1 ≡ raw → new ≡ old → finite.get old id ≡ None → FreesHost D old new raw
frees_none D old new id raw is same none = record {
  lost = λ _.
      let at : raw - 1 ≡ id = omega arith in
      ap (λ m. finite.get m (raw - 1)) same ∙ ap (finite.get old) at ∙ none;
  others = λ q other. ap (λ m. finite.get m q) same;
  part = λ q value found. sym (ap (λ m. finite.get m q) same) ∙ found;
}

-- a number that stands for no id
pub frees_no_id : (D : Type 0) (old : finite.FinMap nat_cmp D) (raw : ℕ) → (raw ≡ 0) ⊎ (max_entries < raw) → FreesHost D old old raw
frees_no_id D old raw none = record {
  lost = λ is. absurd (elim none [ inl e ↦ (let h = is.0 in omega arith) | inr h ↦ (let k = is.1 in omega arith) ]);
  others = λ q other. refl;
  part = λ q value found. found;
}

-- there is one fault
pub only_fault : (f : HostFault) → f ≡ BadHostDataId
only_fault BadHostDataId = refl
