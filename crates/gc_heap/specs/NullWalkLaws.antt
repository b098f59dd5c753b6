-- Laws of objects that follow each other: where they lie, and what they take together.
use Rattle.std.proofs.Common.{◌≡◌, ◌≢◌, ℕ, zero, suc, ◌+◌, ◌-◌, ◌*◌, ◌%◌, ◌≤◌, ◌<◌, length, cond, List, ◌∷◌, take, drop, Some, None, refl, sym, ap, subst, ◌∙◌, inl, inr, arith, eq-eqb}
use Rattle.std.specs.Ordering.{nat_cmp}
use Rattle.std.specs.FinMap as map
use Rattle.std.specs.Cmp.{unsigned_tied}
use Rattle.std.proofs.lemmas.Cmp.{nat_cmp_total}
use Rattle.std.proofs.lemmas.List.{length-take, length-drop}
use Rattle.std.proofs.lemmas.Bool.{cases_eq, ne_eqb}
use Rattle.gc_types.specs.declared.kind.Layouts.TheVariants.{Null}
use Rattle.gc_types.specs.declared.kind.VMGcKind.{VMGcKind}
use Rattle.gc_types.specs.declared.kind.VMGcKind.TheVariants.{ExternRef, AnyRef, EqRef, StructRef, ArrayRef, ExnRef}
use Rattle.gc_view.specs.Heaps.{HeapObject}
use Rattle.gc_heap.specs.Objects.{first_offset, held_size, size_with}
use Rattle.gc_heap.specs.Content.{total}
use Rattle.gc_heap.specs.Totals.{total-empty, total-insert}
use Rattle.gc_heap.specs.NullWalk.{bump_size_at, bump_object_at, place_after, entries, BumpLiesAt, Follow}

pub first_least : (k : VMGcKind) → 8 ≤ first_offset Null k
first_least ExternRef = omega arith
first_least AnyRef = omega arith
first_least EqRef = omega arith
first_least StructRef = omega arith
first_least ArrayRef = omega arith
first_least ExnRef = omega arith

-- an object has a header at least
pub least : {bytes : List ℕ} {p : ℕ} → BumpLiesAt bytes p → 8 ≤ bump_size_at bytes p
least {bytes} {p} lies = omega (arith, first_least (bump_object_at bytes p).kind, lies.first)

pub spare_is : (bytes : List ℕ) (p : ℕ) → (bump_object_at bytes p).spare ≡ 0
unfolding bump_object_at
spare_is bytes p = refl

-- n objects take at least 8 bytes each
pub follow_bounds : (n : ℕ) (bytes : List ℕ) (p e : ℕ) → Follow n bytes p e → p + 8 * n ≤ e
follow_bounds zero bytes p e h = omega arith
follow_bounds (suc n) bytes p e h =
    omega (arith, least h.0, follow_bounds n bytes (place_after bytes p) e h.1)

pub find_tied : (q : ℕ) (o : HeapObject) (es : List (ℕ × HeapObject)) → map.find nat_cmp q ((q, o) ∷ es) ≡ Some o
find_tied q o es = ap (λ b. cond b (Some o) (map.find nat_cmp q es)) (unsigned_tied q q ∙ eq-eqb q q refl)

pub find_other : (q p : ℕ) (o : HeapObject) (es : List (ℕ × HeapObject)) → q ≢ p → map.find nat_cmp q ((p, o) ∷ es) ≡ map.find nat_cmp q es
find_other q p o es ne = ap (λ b. cond b (Some o) (map.find nat_cmp q es)) (unsigned_tied q p ∙ ne_eqb q p ne)

-- an object that lies among those from p up to e
pub record LiesAmong (bytes : List ℕ) (p e q : ℕ) (object : HeapObject) : Type 0 where
  pub lies : BumpLiesAt bytes q
  pub is : object ≡ bump_object_at bytes q
  pub aligned : q % 16 ≡ 0
  pub from : p ≤ q
  pub to : q + bump_size_at bytes q ≤ e

pub some_is : (x y : HeapObject) → Some x ≡ Some y → y ≡ x
some_is x y e = cc

-- what is found lies there
pub found_lies : (n : ℕ) (bytes : List ℕ) (p e q : ℕ) (object : HeapObject) → p % 16 ≡ 0 → Follow n bytes p e
    → map.find nat_cmp q (entries n bytes p) ≡ Some object → LiesAmong bytes p e q object
found_lies zero bytes p e q object aligned h found = cc
found_lies (suc n) bytes p e q object aligned h found =
    let bound : place_after bytes p + 8 * n ≤ e = follow_bounds n bytes (place_after bytes p) e h.1 in
    let rest : List (ℕ × HeapObject) = entries n bytes (place_after bytes p) in
    elim (cases_eq q p) [
      | inl here ↦
          let at : map.find nat_cmp p ((p, bump_object_at bytes p) ∷ rest) ≡ Some object =
          subst (λ k. map.find nat_cmp k ((p, bump_object_at bytes p) ∷ rest) ≡ Some object) here found in
          let is : object ≡ bump_object_at bytes p = some_is _ _ (sym (find_tied p (bump_object_at bytes p) rest) ∙ at) in
          subst (λ k. LiesAmong bytes p e k object) (sym here) (record { lies = h.0; is = is; aligned = aligned; from = omega arith; to = omega arith })
      | inr there ↦
          let l = found_lies n bytes (place_after bytes p) e q object (omega arith) h.1 (sym (find_other q p (bump_object_at bytes p) rest there) ∙ found) in
          record { lies = l.lies; is = l.is; aligned = l.aligned; from = omega (arith, l.from); to = l.to }
    ]

pub object_bytes : (bytes : List ℕ) (q : ℕ) → (bump_object_at bytes q).bytes ≡ take (bump_size_at bytes q - 8) (drop (q + 8) bytes)
unfolding bump_object_at
object_bytes bytes q = refl

-- the length of what lies behind the header of an object
pub length-object : (bytes : List ℕ) (q : ℕ) → BumpLiesAt bytes q → length (bump_object_at bytes q).bytes ≡ bump_size_at bytes q - 8
length-object bytes q lies =
    ap length (object_bytes bytes q)
    ∙ omega (arith, length-take (bump_size_at bytes q - 8) (drop (q + 8) bytes), length-drop (q + 8) bytes, least lies, lies.inside)

-- the bytes of an object that has 8 bytes of header
pub held_by_kind : (k : VMGcKind) (n : ℕ) → (k ≡ ExternRef → n ≡ 4) → size_with Null k n ≡ 8 + n
held_by_kind ExternRef n h = omega (arith, h refl)
held_by_kind AnyRef n h = refl
held_by_kind EqRef n h = refl
held_by_kind StructRef n h = refl
held_by_kind ArrayRef n h = refl
held_by_kind ExnRef n h = refl

pub held_length : (bytes : List ℕ) (q : ℕ) → BumpLiesAt bytes q → held_size Null (bump_object_at bytes q) ≡ 8 + length (bump_object_at bytes q).bytes
held_length bytes q lies = held_by_kind (bump_object_at bytes q).kind (length (bump_object_at bytes q).bytes) (λ e. (lies.host e).size)

-- an object takes the bytes that its header tells
pub held_is : (bytes : List ℕ) (q : ℕ) → BumpLiesAt bytes q → held_size Null (bump_object_at bytes q) ≡ bump_size_at bytes q
held_is bytes q lies = held_length bytes q lies ∙ omega (arith, length-object bytes q lies, least lies)

-- nothing lies before the first object
pub find_before : (n : ℕ) (bytes : List ℕ) (p q : ℕ) → q < p → map.find nat_cmp q (entries n bytes p) ≡ None
find_before zero bytes p q below = refl
find_before (suc n) bytes p q below =
    let ne : q ≢ p = λ is. absurd (omega arith) in
    find_other q p (bump_object_at bytes p) (entries n bytes (place_after bytes p)) ne
    ∙ find_before n bytes (place_after bytes p) q (omega arith)

-- the place of an object isn't that of a later one
pub first_missing : (n : ℕ) (bytes : List ℕ) (p : ℕ) → BumpLiesAt bytes p
    → map.get {R = nat_cmp} (map.from_entries (entries n bytes (place_after bytes p))) p ≡ None
first_missing n bytes p lies =
    map.get-from_entries nat_cmp_total (entries n bytes (place_after bytes p)) p
    ∙ find_before n bytes (place_after bytes p) p (omega (arith, least lies))

-- the objects together take no more bytes than they lie in
pub total_entries : (n : ℕ) (bytes : List ℕ) (p e : ℕ) → Follow n bytes p e → total (held_size Null) (map.from_entries (entries n bytes p)) + p ≤ e
total_entries zero bytes p e h = omega (arith, total-empty (held_size Null))
total_entries (suc n) bytes p e h =
    let rest : map.FinMap nat_cmp HeapObject = map.from_entries (entries n bytes (place_after bytes p)) in
    let add : total (held_size Null) (map.insert rest p (bump_object_at bytes p)) ≡ total (held_size Null) rest + held_size Null (bump_object_at bytes p) =
    total-insert (held_size Null) rest p (bump_object_at bytes p) (first_missing n bytes p h.0) in
    let inner : total (held_size Null) rest + place_after bytes p ≤ e = total_entries n bytes (place_after bytes p) e h.1 in
    let held : held_size Null (bump_object_at bytes p) ≡ bump_size_at bytes p = held_is bytes p h.0 in
    omega arith

-- of two objects the first ends before the second
pub apart_among : (n : ℕ) (bytes : List ℕ) (s e p q : ℕ) (o o' : HeapObject) → s % 16 ≡ 0 → Follow n bytes s e
    → map.find nat_cmp p (entries n bytes s) ≡ Some o → map.find nat_cmp q (entries n bytes s) ≡ Some o' → p < q → p + bump_size_at bytes p ≤ q
apart_among zero bytes s e p q o o' aligned h at_p at_q before = cc
apart_among (suc n) bytes s e p q o o' aligned h at_p at_q before =
    let rest : List (ℕ × HeapObject) = entries n bytes (place_after bytes s) in
    let whole = found_lies (suc n) bytes s e p o aligned h at_p in
    let ne : q ≢ s = λ is. absurd (omega (arith, whole.from)) in
    let q_in : map.find nat_cmp q rest ≡ Some o' = sym (find_other q s (bump_object_at bytes s) rest ne) ∙ at_q in
    let l = found_lies n bytes (place_after bytes s) e q o' (omega arith) h.1 q_in in
    elim (cases_eq p s) [
      | inl here ↦ subst (λ k. k + bump_size_at bytes k ≤ q) (sym here) (omega (arith, l.from))
      | inr there ↦
          apart_among n bytes (place_after bytes s) e p q o o' (omega arith) h.1 (sym (find_other p s (bump_object_at bytes s) rest there) ∙ at_p) q_in before
    ]
