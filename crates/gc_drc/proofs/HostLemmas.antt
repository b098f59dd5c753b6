-- A host value is taken out of its table.
use Rattle.std.proofs.Common.{◌≡◌, ℕ, ◌+◌, ◌-◌, ◌<◌, ◌≤◌, List, Option, Some, None, refl, sym, ap, subst, ◌∙◌, inl, inr, arith}
use Rattle.std.proofs.Math.Logic.{◌⊎◌}
use Rattle.std.proofs.lemmas.Bool.{cases_eq}
use Rattle.std.proofs.lemmas.Option.{none-some}
use Rattle.std.specs.Ordering.{nat_cmp}
use Rattle.std.specs.FinMap as finite
use Rattle.gc_types.specs.declared.kind.VMGcKind.TheVariants.{ExternRef, AnyRef, EqRef, StructRef, ArrayRef, ExnRef}
use Rattle.gc_types.specs.declared.kind.VMGcKind.{VMGcKind}
use Rattle.gc_memory.specs.Words.{word}
use Rattle.gc_memory.specs.Lists.{In, occ}
use Rattle.gc_memory.proofs.ListLemmas.{In-occ, occ-In}
use Rattle.gc_memory.proofs.WordLemmas.{word_in_same}
use Rattle.gc_view.proofs.ByteLemmas.{SameBytes-part}
use Rattle.gc_heap.specs.Collection.{IsPartOf}
use Rattle.gc_heap.specs.FreedHosts.{IsHostWord, FreesHost}
use Rattle.gc_drc.specs.Layout.{counting_kind_at}
use Rattle.gc_drc.specs.CollectOps.{without_one, same}
use Rattle.gc_drc.specs.CollectMemory.{Context, IsContext, Intact}
use Rattle.gc_drc.specs.CollectHosts.{FreesHostOf, HostsLeft, counting_host_word}
use Rattle.gc_drc.proofs.OccLemmas.{same-is, same-not, occ-without}
use Rattle.gc_drc.proofs.RewriteLemmas.{kind_at_same}

-- nothing is lost at the start
pub hosts_begin : (D : Type 0) (c : Context) (before : finite.FinMap nat_cmp D) → HostsLeft D c c.graph.places before before
hosts_begin D c before = record {
  lost = λ p i external gone. absurd (gone i);
  kept = λ id all. refl;
  part = λ id value found. found;
}

none_stays : {D : Type 0} (old new : finite.FinMap nat_cmp D) (id : ℕ) → IsPartOf new old → finite.get old id ≡ None → finite.get new id ≡ None
none_stays {D = D} old new id part none = elim (finite.get new id) as (λ (r : Option D). finite.get new id ≡ r → r ≡ None) [
  | None ↦ λ e. refl
  | Some value ↦ λ e. absurd (none-some value (sym none ∙ part id value e))
] refl

-- the host value of one more object is gone, if it is an external object
module _ (D : Type 0) (c : Context) (places : List ℕ) (before old new : finite.FinMap nat_cmp D) (x : ℕ) (once : occ x places ≤ 1) (held : 0 < occ x places) (left : HostsLeft D c places before old) where
  still_in : (p : ℕ) → (p ≡ x → ⊥) → In p places → In p (without_one x places)
  still_in p ne i = occ-In p (without_one x places) (let w = occ-without x p places held in let other : same p x ≡ 0 = same-not p x ne in let some = In-occ p places i in omega arith)

  was_in : (p : ℕ) → In p (without_one x places) → In p places
  was_in p i = occ-In p places (let w = occ-without x p places held in let some = In-occ p (without_one x places) i in omega arith)

  not_in : In x (without_one x places) → ⊥
  not_in i = let w = occ-without x x places held in let one : same x x ≡ 1 = same-is x x refl in let some = In-occ x (without_one x places) i in omega arith

  pub hosts_freed : IsHostWord (counting_host_word c.memory x) → In x c.graph.places → counting_kind_at c.memory x ≡ ExternRef → FreesHost D old new (counting_host_word c.memory x) → HostsLeft D c (without_one x places) before new
  hosts_freed is_host i external f = record {
    lost = λ p j external_p gone. elim (cases_eq p x) [
      | inl e ↦ subst (λ (q : ℕ). finite.get new (counting_host_word c.memory q - 1) ≡ None) (sym e) (f.lost is_host)
      | inr ne ↦ none_stays old new (counting_host_word c.memory p - 1) f.part (left.lost p j external_p (λ k. gone (still_in p ne k)))
    ];
    kept = λ id all.
        f.others id (λ e. not_in (all x i external e))
        ∙ left.kept id (λ p j external_p e. was_in p (all p j external_p e));
    part = λ id value found. left.part id value (f.part id value found);
  }

  pub hosts_same : (counting_kind_at c.memory x ≡ ExternRef → ⊥) → new ≡ old → HostsLeft D c (without_one x places) before new
  hosts_same other is = record {
    lost = λ p j external_p gone. elim (cases_eq p x) [
      | inl e ↦ absurd (other (sym (ap (counting_kind_at c.memory) e) ∙ external_p))
      | inr ne ↦ ap (λ m. finite.get m (counting_host_word c.memory p - 1)) is ∙ left.lost p j external_p (λ k. gone (still_in p ne k))
    ];
    kept = λ id all. ap (λ m. finite.get m id) is ∙ left.kept id (λ p j external_p e. was_in p (all p j external_p e));
    part = λ id value found. left.part id value (sym (ap (λ m. finite.get m id) is) ∙ found);
  }

external_or_not : (k : VMGcKind) → (k ≡ ExternRef) ⊎ (k ≡ ExternRef → ⊥)
external_or_not ExternRef = inl refl
external_or_not AnyRef = inr (λ e. cc)
external_or_not EqRef = inr (λ e. cc)
external_or_not StructRef = inr (λ e. cc)
external_or_not ArrayRef = inr (λ e. cc)
external_or_not ExnRef = inr (λ e. cc)

-- by what is read now
pub hosts_after : (D : Type 0) (c : Context) (m : List ℕ) (places : List ℕ) (before old new : finite.FinMap nat_cmp D) (x : ℕ) → occ x places ≤ 1 → 0 < occ x places → In x c.graph.places
    → IsContext c → Intact c m → HostsLeft D c places before old → FreesHostOf D m old new x → HostsLeft D c (without_one x places) before new
hosts_after D c m places before old new x once held i start intact left f =
    let o = intact.objects x i in
    let kind : counting_kind_at m x ≡ counting_kind_at c.memory x = kind_at_same c.memory m x o.kind in
    elim (external_or_not (counting_kind_at c.memory x)) [
      | inr other ↦ hosts_same D c places before old new x once held left other (f.other (λ e. other (sym kind ∙ e)))
      | inl is ↦ (
          let ext = start.externals x i is in
          let size = ext.size in
          let word_is : word m (x + 28) ≡ word c.memory (x + 28) = word_in_same c.memory m (x + 28) (SameBytes-part o.bytes (x + 28) (x + 28 + 4) (omega arith) (omega arith)) in
          hosts_freed D c places before old new x once held left (ext.from, ext.to) i is
          (subst (λ (w : ℕ). FreesHost D old new w) word_is (f.external (kind ∙ is))))
    ]
