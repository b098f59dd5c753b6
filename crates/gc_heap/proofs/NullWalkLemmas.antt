-- What a write leaves of the objects that follow each other in a memory.
use Rattle.std.proofs.Common.{◌≡◌, ◌≢◌, ℕ, zero, suc, ◌+◌, ◌-◌, ◌*◌, ◌%◌, ◌≤◌, Bool, true, false, cond, is_some, List, [], ◌∷◌, ◌++◌, take, drop, Option, Some, None, refl, sym, ap, subst, ◌∙◌, inl, inr, arith}
use Rattle.std.specs.Ordering.{nat_cmp, eq_by_cmp}
use Rattle.std.specs.FinMap as map
use Rattle.std.specs.Cmp.{unsigned_tied}
use Rattle.std.proofs.lemmas.Cmp.{nat_cmp_total}
use Rattle.std.proofs.lemmas.Bool.{cases_eq, ne_eqb}
use Rattle.gc_types.specs.declared.kind.Layouts.TheVariants.{Null}
use Rattle.gc_types.specs.declared.kind.VMGcKind.{VMGcKind}
use Rattle.gc_types.specs.declared.kind.VMGcKind.TheVariants.{ExternRef}
use Rattle.gc_types.specs.Kinds.{kind_bits, kind_of}
use Rattle.gc_types.specs.Layouts.{round_up}
use Rattle.gc_refs.specs.Header.{spare_bits, kind_part}
use Rattle.gc_view.specs.Sizes.{alignment}
use Rattle.gc_view.specs.Heaps.{HeapObject}
use Rattle.gc_heap.specs.Objects.{first_offset, IsObjectKind}
use Rattle.gc_heap.specs.NullWalk.{bump_size_at, bump_object_at, place_after, entries, HasBumpHost, BumpLiesAt, Follow}
use Rattle.gc_view.specs.Bytes.{u32_at, SameBytes}
use Rattle.gc_view.proofs.ByteLemmas.{SameBytes-part, part_in_same, u32_in_same}
use Rattle.gc_heap.specs.NullWalkLaws.{least, follow_bounds, find_other, first_missing, found_lies, spare_is}

pub size_in_same : (a b : List ℕ) (p : ℕ) → SameBytes a b p (p + 8) → bump_size_at b p ≡ bump_size_at a p
unfolding bump_size_at
size_in_same a b p s = ap (λ w. w % spare_bits) (u32_in_same a b p (SameBytes-part s p (p + 4) (omega arith) (omega arith)))

pub kind_in_same : (a b : List ℕ) (p : ℕ) → SameBytes a b p (p + 8) → (bump_object_at b p).kind ≡ (bump_object_at a p).kind
unfolding bump_object_at
kind_in_same a b p s = ap (λ w. kind_of (kind_part w)) (u32_in_same a b p (SameBytes-part s p (p + 4) (omega arith) (omega arith)))

pub ty_in_same : (a b : List ℕ) (p : ℕ) → SameBytes a b p (p + 8) → (bump_object_at b p).ty ≡ (bump_object_at a p).ty
unfolding bump_object_at
ty_in_same a b p s = u32_in_same a b (p + 4) (SameBytes-part s (p + 4) (p + 4 + 4) (omega arith) (omega arith))

bytes_in_same : (a b : List ℕ) (p : ℕ) → BumpLiesAt a p → SameBytes a b p (p + bump_size_at a p) → (bump_object_at b p).bytes ≡ (bump_object_at a p).bytes
unfolding bump_object_at
bytes_in_same a b p lies s =
    let size : bump_size_at b p ≡ bump_size_at a p = size_in_same a b p (SameBytes-part s p (p + 8) (omega arith) (omega (arith, least lies))) in
    let part : SameBytes a b (p + 8) (p + 8 + (bump_size_at a p - 8)) = SameBytes-part s (p + 8) (p + 8 + (bump_size_at a p - 8)) (omega arith) (omega (arith, least lies)) in
    ap (λ n. take (n - 8) (drop (p + 8) b)) size ∙ part_in_same a b (p + 8) (bump_size_at a p - 8) part

pub same_object : (x y : HeapObject) → x.kind ≡ y.kind → x.ty ≡ y.ty → x.spare ≡ y.spare → x.bytes ≡ y.bytes → x ≡ y
same_object x y kind ty spare bytes = λ i. record { kind = kind i; ty = ty i; spare = spare i; bytes = bytes i }

-- an object whose bytes stay is the same
object_in_same : (a b : List ℕ) (p : ℕ) → BumpLiesAt a p → SameBytes a b p (p + bump_size_at a p) → bump_object_at b p ≡ bump_object_at a p
object_in_same a b p lies s =
    let header : SameBytes a b p (p + 8) = SameBytes-part s p (p + 8) (omega arith) (omega (arith, least lies)) in
    same_object _ _ (kind_in_same a b p header) (ty_in_same a b p header) (spare_is b p ∙ sym (spare_is a p)) (bytes_in_same a b p lies s)

-- an object whose header stays still lies there, where it is still whole as one of its kind
pub lies_in_header : (a b : List ℕ) (p : ℕ) → SameBytes a b p (p + 8) → ((bump_object_at b p).kind ≡ ExternRef → HasBumpHost (bump_object_at b p)) → BumpLiesAt a p → BumpLiesAt b p
lies_in_header a b p s host lies =
    let size : bump_size_at b p ≡ bump_size_at a p = size_in_same a b p s in
    let kind : (bump_object_at b p).kind ≡ (bump_object_at a p).kind = kind_in_same a b p s in
    record {
      kind = ap kind_part (u32_in_same a b p (SameBytes-part s p (p + 4) (omega arith) (omega arith)))
          ∙ lies.kind ∙ ap kind_bits (sym kind);
      is_kind = subst IsObjectKind (sym kind) lies.is_kind;
      first = subst (λ (k : VMGcKind). first_offset Null k ≤ bump_size_at b p) (sym kind)
          (subst (λ n. first_offset Null (bump_object_at a p).kind ≤ n) (sym size) lies.first);
      host = host;
      inside = omega (arith, lies.inside, s.same_length);
    }

-- an object whose bytes stay still lies there
lies_in_same : (a b : List ℕ) (p : ℕ) → SameBytes a b p (p + bump_size_at a p) → BumpLiesAt a p → BumpLiesAt b p
lies_in_same a b p s lies =
    let object : bump_object_at b p ≡ bump_object_at a p = object_in_same a b p lies s in
    lies_in_header a b p (SameBytes-part s p (p + 8) (omega arith) (omega (arith, least lies)))
    (subst (λ (o : HeapObject). o.kind ≡ ExternRef → HasBumpHost o) (sym object) lies.host) lies

after_in_same : (a b : List ℕ) (p : ℕ) → SameBytes a b p (p + 8) → place_after b p ≡ place_after a p
after_in_same a b p s = ap (λ n. round_up (p + n) alignment) (size_in_same a b p s)

-- objects whose bytes stay still follow each other, and are the same
pub follow_in_same : (n : ℕ) (a b : List ℕ) (p e : ℕ) → SameBytes a b p e → Follow n a p e → Follow n b p e × (entries n b p ≡ entries n a p)
follow_in_same zero a b p e s h = (h, refl)
follow_in_same (suc n) a b p e s h =
    let lies : BumpLiesAt a p = h.0 in
    let bound : place_after a p + 8 * n ≤ e = follow_bounds n a (place_after a p) e h.1 in
    let own : SameBytes a b p (p + bump_size_at a p) = SameBytes-part s p (p + bump_size_at a p) (omega arith) (omega arith) in
    let header : SameBytes a b p (p + 8) = SameBytes-part own p (p + 8) (omega arith) (omega (arith, least lies)) in
    let rest = follow_in_same n a b (place_after a p) e (SameBytes-part s (place_after a p) e (omega arith) (omega arith)) h.1 in
    let after : place_after b p ≡ place_after a p = after_in_same a b p header in
    let object : bump_object_at b p ≡ bump_object_at a p = object_in_same a b p lies own in
    let tail : entries n b (place_after b p) ≡ entries n a (place_after a p) = ap (entries n b) after ∙ rest.1 in
    ((lies_in_same a b p own lies, subst (λ q. Follow n b q e) (sym after) rest.0), λ i. (p, object i) ∷ tail i)

-- one more object at the end
pub follow_push : (n : ℕ) (bytes : List ℕ) (p e : ℕ) → Follow n bytes p e → BumpLiesAt bytes e
    → Follow (suc n) bytes p (place_after bytes e) × (entries (suc n) bytes p ≡ entries n bytes p ++ (e, bump_object_at bytes e) ∷ [])
follow_push zero bytes p e h lies =
    ((subst (BumpLiesAt bytes) (sym h) lies, ap (place_after bytes) h), ap (λ q. (q, bump_object_at bytes q) ∷ []) h)
follow_push (suc n) bytes p e h lies =
    let rest = follow_push n bytes (place_after bytes p) e h.1 lies in
    ((h.0, rest.0), ap (λ es. (p, bump_object_at bytes p) ∷ es) rest.1)

shadowed : (b : Bool) (x y z : Option HeapObject) → cond b x z ≡ cond b x (cond b y z)
shadowed true x y z = refl
shadowed false x y z = refl

-- Objects after one of them was rewritten behind its header: it is another, and the rest are as before.
pub record Rewritten (n : ℕ) (a b : List ℕ) (p e q : ℕ) : Type 0 where
  pub follow : Follow n b p e
  pub found : (r : ℕ) → map.find nat_cmp r (entries n b p) ≡ cond (eq_by_cmp nat_cmp r q) (Some (bump_object_at b q)) (map.find nat_cmp r (entries n a p))

swapped : (r p q : ℕ) (x y z : Option HeapObject) → q ≢ p
    → cond (eq_by_cmp nat_cmp r p) x (cond (eq_by_cmp nat_cmp r q) y z) ≡ cond (eq_by_cmp nat_cmp r q) y (cond (eq_by_cmp nat_cmp r p) x z)
swapped r p q x y z ne = elim (cases_eq r p) [
  | inl is ↦
      let other : eq_by_cmp nat_cmp r q ≡ false = unsigned_tied r q ∙ ne_eqb r q (λ f. ne (sym f ∙ is)) in
      rw (other) refl
  | inr not ↦
      let other : eq_by_cmp nat_cmp r p ≡ false = unsigned_tied r p ∙ ne_eqb r p not in
      rw (other) refl
]

rewritten_first : (n : ℕ) (a b : List ℕ) (q e : ℕ) → Follow (suc n) a q e
    → SameBytes a b q (q + 8) → SameBytes a b (q + bump_size_at a q) e → BumpLiesAt b q → Rewritten (suc n) a b q e q
rewritten_first n a b q e h front back lies =
    let next : ℕ = place_after a q in
    let bound : next + 8 * n ≤ e = follow_bounds n a next e h.1 in
    let after : place_after b q ≡ next = after_in_same a b q front in
    let tail = follow_in_same n a b next e (SameBytes-part back next e (omega arith) (omega arith)) h.1 in
    record {
      follow = (lies, subst (λ k. Follow n b k e) (sym after) tail.0);
      found = λ r.
          ap (λ es. cond (eq_by_cmp nat_cmp r q) (Some (bump_object_at b q)) (map.find nat_cmp r es)) (ap (entries n b) after ∙ tail.1)
          ∙ shadowed (eq_by_cmp nat_cmp r q) _ _ _;
    }

rewritten_later : (n : ℕ) (a b : List ℕ) (p e q : ℕ) → Follow (suc n) a p e → place_after a p ≤ q → SameBytes a b p (q + 8)
    → Rewritten n a b (place_after a p) e q → Rewritten (suc n) a b p e q
rewritten_later n a b p e q h from front rest =
    let own : SameBytes a b p (p + bump_size_at a p) = SameBytes-part front p (p + bump_size_at a p) (omega arith) (omega arith) in
    let header : SameBytes a b p (p + 8) = SameBytes-part own p (p + 8) (omega arith) (omega (arith, least h.0)) in
    let after : place_after b p ≡ place_after a p = after_in_same a b p header in
    let object : bump_object_at b p ≡ bump_object_at a p = object_in_same a b p h.0 own in
    let ne : q ≢ p = λ is. absurd (omega (arith, least h.0)) in
    record {
      follow = (lies_in_same a b p own h.0, subst (λ k. Follow n b k e) (sym after) rest.follow);
      found = λ r.
          ap (λ o. cond (eq_by_cmp nat_cmp r p) (Some o) (map.find nat_cmp r (entries n b (place_after b p)))) object
          ∙ ap (λ k. cond (eq_by_cmp nat_cmp r p) (Some (bump_object_at a p)) (map.find nat_cmp r (entries n b k))) after
          ∙ ap (cond (eq_by_cmp nat_cmp r p) (Some (bump_object_at a p))) (rest.found r)
          ∙ swapped r p q _ _ _ ne;
    }

-- an object may be rewritten behind its header
pub rewritten : (n : ℕ) (a b : List ℕ) (p e q : ℕ) (object : HeapObject) → Follow n a p e
    → map.find nat_cmp q (entries n a p) ≡ Some object → SameBytes a b p (q + 8) → SameBytes a b (q + bump_size_at a q) e → BumpLiesAt b q → Rewritten n a b p e q
rewritten zero a b p e q object h found front back lies = cc
rewritten (suc n) a b p e q object h found front back lies =
    let next : ℕ = place_after a p in
    let rest : List (ℕ × HeapObject) = entries n a next in
    elim (cases_eq q p) [
      | inl here ↦
          let first = rewritten_first n a b p e h (subst (λ k. SameBytes a b p (k + 8)) here front) (subst (λ k. SameBytes a b (k + bump_size_at a k) e) here back) (subst (BumpLiesAt b) here lies) in
          subst (λ k. Rewritten (suc n) a b p e k) (sym here) first
      | inr there ↦
          let found_in : map.find nat_cmp q rest ≡ Some object = sym (find_other q p (bump_object_at a p) rest there) ∙ found in
          let l = found_lies n a next e q object (omega arith) h.1 found_in in
          let later = rewritten n a b next e q object h.1 found_in (SameBytes-part front next (q + 8) (omega (arith, least h.0)) (omega arith)) back lies in
          rewritten_later n a b p e q h l.from front later
    ]

-- nothing lies from the end on
pub find_behind : (n : ℕ) (bytes : List ℕ) (p e q : ℕ) → Follow n bytes p e → e ≤ q → map.find nat_cmp q (entries n bytes p) ≡ None
find_behind zero bytes p e q h above = refl
find_behind (suc n) bytes p e q h above =
    let bound : place_after bytes p + 8 * n ≤ e = follow_bounds n bytes (place_after bytes p) e h.1 in
    let ne : q ≢ p = λ is. absurd (omega (arith, least h.0)) in
    find_other q p (bump_object_at bytes p) (entries n bytes (place_after bytes p)) ne
    ∙ find_behind n bytes (place_after bytes p) e q h.1 above

-- the words of its header
pub object_ty : (bytes : List ℕ) (q : ℕ) → (bump_object_at bytes q).ty ≡ u32_at bytes (q + 4)
unfolding bump_object_at
object_ty bytes q = refl

pub size_word : (bytes : List ℕ) (q : ℕ) → bump_size_at bytes q ≡ u32_at bytes q % spare_bits
unfolding bump_size_at
size_word bytes q = refl

-- there are as many objects as the walk takes
pub len_entries : (n : ℕ) (bytes : List ℕ) (p e : ℕ) → Follow n bytes p e → map.len {R = nat_cmp} (map.from_entries (entries n bytes p)) ≡ n
len_entries zero bytes p e h = map.len-empty nat_cmp HeapObject
len_entries (suc n) bytes p e h =
    let rest : map.FinMap nat_cmp HeapObject = map.from_entries (entries n bytes (place_after bytes p)) in
    let missing : map.get rest p ≡ None = first_missing n bytes p h.0 in
    map.len-insert nat_cmp_total rest p (bump_object_at bytes p)
    ∙ ap (λ (o : Option HeapObject). cond (is_some o) (map.len rest) (map.len rest + 1)) missing
    ∙ ap (λ k. k + 1) (len_entries n bytes (place_after bytes p) e h.1)
    ∙ omega arith
