-- A memory that a copying heap gets, and one that grows.
use Rattle.std.proofs.Common.{◌≡◌, ℕ, ◌+◌, ◌-◌, ◌*◌, ◌%◌, ◌<◌, ◌≤◌, Bool, true, false, cond, List, [], ◌∷◌, ◌++◌, take, drop, length, replicate, refl, sym, ap, ap₂, subst, ◌∙◌, inl, inr, arith}
use Rattle.std.proofs.Math.Logic.{◌⊎◌}
use Rattle.std.specs.Prelude.{◌==◌, if◌then◌else◌}
use Rattle.std.proofs.lemmas.Bool.{cases_eq, ne_eqb, eq-eqb}
use Rattle.std.proofs.lemmas.List.{length-append, length-replicate, length-drop, take-append-le, drop-append-le, append-nil}
use Rattle.gc_types.specs.declared.kind.Layouts.TheVariants.{Copying}
use Rattle.gc_types.specs.declared.kind.VMGcKind.{VMGcKind}
use Rattle.gc_types.specs.declared.kind.VMGcKind.TheVariants.{ExternRef, AnyRef, EqRef, StructRef, ArrayRef, ExnRef}
use Rattle.gc_refs.specs.Header.{spare_bits}
use Rattle.gc_memory.specs.Words.{word}
use Rattle.gc_memory.specs.Lists.{In, here}
use Rattle.gc_memory.specs.Chains.{Chain, done, next}
use Rattle.gc_memory.proofs.ChainLemmas.{Chain-resized, Chain-places, Chain-end}
use Rattle.gc_memory.proofs.WordLemmas.{word-grown}
use Rattle.gc_view.specs.Pages.{page, max_pages}
use Rattle.gc_view.specs.Heaps.{no_counts}
use Rattle.gc_heap.specs.Content.{IsSpare}
use Rattle.gc_heap.specs.Heap.{empty_heap, grown}
use Rattle.gc_copying.specs.Spaces.{half_start, half_end, half_skipped}
use Rattle.gc_copying.specs.Layout.{copying_first_place, copying_size_at, places_in, copying_kind_at, copying_data_at, copying_object_at}
use Rattle.gc_copying.specs.Growth.{bump_in_more}
use Rattle.gc_copying.specs.Content.{objects_at, space_view, CopyingLinked, last, link, IsSpace}
use Rattle.gc_copying.specs.HeapLaws.{nothing, sixteen, skips, half_lies, lies_in_space}
use Rattle.gc_copying.proofs.SpaceLemmas.{same_object, kind_in_same, whole_in_same, objects_same, space_of}
use Rattle.gc_copying.proofs.WriteLemmas.{externals_kept}

-- What is seen of a memory that was just attached.
pub record Empty (bytes : List ℕ) : Type 0 where
  pub space : IsSpace bytes false (half_skipped (length bytes)) 0 0
  pub seen : (scopes : ℕ) → space_view bytes false (half_skipped (length bytes)) scopes ≡ empty_heap Copying (length bytes) scopes

skipped_within : (n : ℕ) → n % 65536 ≡ 0 → half_skipped n ≤ half_end n false
skipped_within n pages = elim (skips n false) [
  | nothing e skip start half ↦ omega arith
  | sixteen more skip ↦ omega arith
]

pub empty_space : (bytes : List ℕ) → length bytes ≤ page * max_pages → length bytes % 65536 ≡ 0 → Empty bytes
empty_space bytes bound pages =
    let n : ℕ = length bytes in
    let zero_first : copying_first_place n false ≡ half_skipped n = omega arith in
    let chain : Chain (copying_size_at bytes) (copying_first_place n false) (half_skipped n) [] = subst (λ e. Chain (copying_size_at bytes) (copying_first_place n false) e []) zero_first done in
    let are : places_in bytes false (half_skipped n) ≡ [] = Chain-places (copying_size_at bytes) (copying_first_place n false) (half_skipped n) [] chain in
    let minus : half_skipped n - 0 ≡ half_skipped n = omega arith in
    record {
      space = space_of bytes false (half_skipped n) 0 0 [] pages bound chain (skipped_within n pages) (λ p i. elim i [ ]) refl
          (record { list = []; linked = last; only = λ p i. elim i [ ]; each = λ p i e. elim i [ ]; once = λ p. omega arith });
      seen = λ scopes i. record {
        attached = true;
        content = objects_at bytes (are i);
        capacity = n;
        allocated = minus i;
        needs_gc = false;
        scopes = scopes;
        counts = no_counts;
      };
    }

part_grown : (bytes more : List ℕ) (p n : ℕ) → p + n ≤ length bytes → take n (drop p (bytes ++ more)) ≡ take n (drop p bytes)
part_grown bytes more p n h =
    ap (take n) (drop-append-le p bytes more (omega arith))
    ∙ take-append-le n (drop p bytes) more (omega (arith, length-drop p bytes))

data_grown : (a more : List ℕ) (p : ℕ) (k : VMGcKind) → 16 ≤ copying_size_at a p → (k ≡ ExternRef → copying_size_at a p ≡ 32) → p + copying_size_at a p ≤ length a → copying_size_at (a ++ more) p ≡ copying_size_at a p
    → copying_data_at (a ++ more) p k ≡ copying_data_at a p k
unfolding copying_data_at
data_grown a more p ExternRef least ext inside size = let whole : copying_size_at a p ≡ 32 = ext refl in part_grown a more (p + 16) 4 (omega arith)
data_grown a more p AnyRef least ext inside size = ap (λ n. take (n - 12) (drop (p + 12) (a ++ more))) size ∙ part_grown a more (p + 12) (copying_size_at a p - 12) (omega arith)
data_grown a more p EqRef least ext inside size = ap (λ n. take (n - 12) (drop (p + 12) (a ++ more))) size ∙ part_grown a more (p + 12) (copying_size_at a p - 12) (omega arith)
data_grown a more p StructRef least ext inside size = ap (λ n. take (n - 12) (drop (p + 12) (a ++ more))) size ∙ part_grown a more (p + 12) (copying_size_at a p - 12) (omega arith)
data_grown a more p ArrayRef least ext inside size = ap (λ n. take (n - 12) (drop (p + 12) (a ++ more))) size ∙ part_grown a more (p + 12) (copying_size_at a p - 12) (omega arith)
data_grown a more p ExnRef least ext inside size = ap (λ n. take (n - 12) (drop (p + 12) (a ++ more))) size ∙ part_grown a more (p + 12) (copying_size_at a p - 12) (omega arith)

-- What a growth does to a space.
pub record Grows (a b : List ℕ) (upper : Bool) (bump head objects n : ℕ) : Type 0 where
  pub space : IsSpace b upper (bump_in_more bump (length b)) head objects
  pub seen : (scopes : ℕ) → space_view b upper (bump_in_more bump (length b)) scopes ≡ grown Copying (space_view a upper bump scopes) n

-- a memory with objects, whose lower half is active
grows_more : (a : List ℕ) (bump head objects n : ℕ) → IsSpace a false bump head objects → 0 < length a → length (a ++ replicate n 0) % page ≡ 0 → length a + n ≤ page * max_pages → Grows a (a ++ replicate n 0) false bump head objects n
grows_more a bump head objects n s some whole bound =
    let b : List ℕ = a ++ replicate n 0 in
    let ps : List ℕ = places_in a false bump in
    let len : length b ≡ length a + n = length-append a (replicate n 0) ∙ ap (λ m. length a + m) (length-replicate {A = ℕ} n 0) in
    let skip_a : half_skipped (length a) ≡ 16 = ap (λ t. cond t 0 16) (ne_eqb (length a) 0 (λ e. omega arith)) in
    let skip_b : half_skipped (length b) ≡ 16 = ap (λ t. cond t 0 16) (ne_eqb (length b) 0 (λ e. omega arith)) in
    let from = Chain-end (copying_size_at a) (copying_first_place (length a) false) bump ps s.chain in
    let same_bump : bump_in_more bump (length b) ≡ bump = ap (λ t. cond t (half_skipped (length b)) bump) (ne_eqb bump 0 (λ e. omega arith)) in
    let first : copying_first_place (length b) false ≡ copying_first_place (length a) false = omega arith in
    let words : (p : ℕ) → word b p ≡ word a p = λ p. word-grown a n p in
    let object : (p : ℕ) → In p ps → copying_object_at b p ≡ copying_object_at a p = λ p i.
    let l = lies_in_space a false bump head objects p s i in
    let k = kind_in_same a b p (words p) in
    same_object _ _ k (words (p + 4)) (ap (λ w. w % spare_bits) (words p))
    (ap (copying_data_at b p) k ∙ data_grown a (replicate n 0) p (copying_kind_at a p) l.least (λ e. ((s.whole p i).external e).size) l.inside (words (p + 8))) in
    let chain_a : Chain (copying_size_at b) (copying_first_place (length a) false) bump ps = Chain-resized (copying_size_at a) (copying_size_at b) (copying_first_place (length a) false) bump ps s.chain (λ p i. words (p + 8)) in
    let chain : Chain (copying_size_at b) (copying_first_place (length b) false) bump ps = subst (λ f. Chain (copying_size_at b) f bump ps) (sym first) chain_a in
    let are : places_in b false bump ≡ ps = Chain-places (copying_size_at b) (copying_first_place (length b) false) bump ps chain in
    let inside = s.inside in
    let space : IsSpace b false bump head objects =
    space_of b false bump head objects ps whole (omega arith) chain (omega arith)
    (λ p i. whole_in_same a b p (s.whole p i) (words p) (words (p + 8)) (subst (IsSpare Copying) (sym (object p i)) (s.whole p i).spare) (λ e. words (p + 16)))
    s.count
    (externals_kept a b head ps s.externals (λ p i. kind_in_same a b p (words p)) (λ p i e. words (p + 20))) in
    let content : objects_at b (places_in b false bump) ≡ objects_at a ps = ap (objects_at b) are ∙ objects_same a b ps object in
    let allocated : bump - 0 ≡ (if length a == 0 then (if n == 0 then 0 else 16) else bump - 0) = sym (ap (λ t. cond t (if n == 0 then 0 else 16) (bump - 0)) (ne_eqb (length a) 0 (λ e. omega arith))) in
    record {
      space = subst (λ m. IsSpace b false m head objects) (sym same_bump) space;
      seen = λ scopes.
          ap (λ m. space_view b false m scopes) same_bump
          ∙ (λ i. record {
            attached = true;
            content = content i;
            capacity = len i;
            allocated = allocated i;
            needs_gc = false;
            scopes = scopes;
            counts = no_counts;
          });
    }

no_places : (size : ℕ → ℕ) (a : ℕ) (ps : List ℕ) → Chain size a 0 ps → ps ≡ []
no_places size _ [] done = refl
no_places size a (_ ∷ ps) (next l w c) = absurd (omega (arith, Chain-end size (a + size a) 0 ps c))

-- What stands in a memory of no bytes.
record HasNothing (a : List ℕ) (upper : Bool) (bump head objects : ℕ) : Type 0 where
  bump_is : bump ≡ 0
  none : places_in a upper bump ≡ []
  head_is : head ≡ 0
  count : objects ≡ 0

has_nothing : (a : List ℕ) (upper : Bool) (bump head objects : ℕ) → IsSpace a upper bump head objects → length a ≡ 0 → HasNothing a upper bump head objects
has_nothing a upper bump head objects s e =
    let lies = half_lies (length a) upper in
    let zero : bump ≡ 0 = omega (arith, s.inside, lies.to) in
    let none : places_in a upper bump ≡ [] = no_places (copying_size_at a) (copying_first_place (length a) upper) (places_in a upper bump)
    (subst (λ k. Chain (copying_size_at a) (copying_first_place (length a) upper) k (places_in a upper bump)) zero s.chain) in
    record {
      bump_is = zero;
      none = none;
      head_is = no_head head s.externals.list s.externals.linked (λ p i. subst (In p) none (s.externals.only p i).0);
      count = s.count ∙ ap length none;
    }
  where
    no_head : (h : ℕ) (list : List ℕ) → CopyingLinked a h list → ((p : ℕ) → In p list → In p []) → h ≡ 0
    no_head _ [] last among = refl
    no_head _ (p ∷ ps) (link positive rest) among = elim (among p here) [ ]

is_nil : (xs : List ℕ) → length xs ≡ 0 → xs ≡ []
is_nil [] e = refl
is_nil (x ∷ xs) e = absurd (omega arith)

-- nothing was added
grows_none : (a : List ℕ) (upper : Bool) (bump head objects : ℕ) → IsSpace a upper bump head objects → Grows a (a ++ replicate 0 0) upper bump head objects 0
grows_none a upper bump head objects s =
    subst (λ b. Grows a b upper bump head objects 0) (sym (append-nil a))
    (record {
      space = subst (λ m. IsSpace a upper m head objects) (sym same_bump) s;
      seen = λ scopes.
          ap (λ m. space_view a upper m scopes) same_bump
          ∙ (λ i. record {
            attached = true;
            content = objects_at a (places_in a upper bump);
            capacity = same_length i;
            allocated = allocated i;
            needs_gc = upper;
            scopes = scopes;
            counts = no_counts;
          });
    })
  where
    from : copying_first_place (length a) upper ≤ bump
    from = Chain-end (copying_size_at a) (copying_first_place (length a) upper) bump (places_in a upper bump) s.chain

    same_length : length a ≡ length a + 0
    same_length = omega arith

    by_bump : (z : ℕ) → (z ≡ 0 → half_skipped (length a) ≡ 0) → bump_in_more z (length a) ≡ z
    by_bump z none = elim (cases_eq z 0) [
      | inl e ↦ ap (λ t. cond t (half_skipped (length a)) z) (eq-eqb z 0 e) ∙ none e ∙ sym e
      | inr ne ↦ ap (λ t. cond t (half_skipped (length a)) z) (ne_eqb z 0 ne)
    ]

    same_bump : bump_in_more bump (length a) ≡ bump
    same_bump = by_bump bump (λ e. elim (skips (length a) upper) [ nothing z skip start half ↦ skip | sixteen more skip ↦ absurd (omega (arith, from)) ])

    allocated : bump - half_start (length a) upper ≡ (if length a == 0 then 0 else bump - half_start (length a) upper)
    allocated = elim (skips (length a) upper) [
      | nothing z skip start half ↦ (let e : bump - half_start (length a) upper ≡ 0 = omega (arith, s.inside) in e) ∙ sym (ap (λ t. cond t 0 (bump - half_start (length a) upper)) (eq-eqb (length a) 0 z))
      | sixteen more skip ↦ sym (ap (λ t. cond t 0 (bump - half_start (length a) upper)) (ne_eqb (length a) 0 (λ z. omega arith)))
    ]

-- the first bytes of all
grows_first : (a : List ℕ) (upper : Bool) (bump head objects n : ℕ) → IsSpace a upper bump head objects → length a ≡ 0 → upper ≡ false
    → n ≤ page * max_pages → n % 65536 ≡ 0 → Grows a (a ++ replicate n 0) upper bump head objects n
grows_first a upper bump head objects n s e low bound pages =
    let b : List ℕ = replicate n 0 in
    let len : length b ≡ n = length-replicate {A = ℕ} n 0 in
    let nil : a ≡ [] = is_nil a e in
    let h = has_nothing a upper bump head objects s e in
    let made = empty_space b (omega arith) (ap (λ m. m % 65536) len ∙ pages) in
    let bump_now : bump_in_more bump (length b) ≡ half_skipped (length b) = ap (λ t. cond t (half_skipped (length b)) bump) (eq-eqb bump 0 h.bump_is) in
    let capacity_is : length b ≡ length a + n = omega arith in
    subst (λ x. Grows a x upper bump head objects n) (sym (ap (λ y. y ++ b) nil))
    (record {
      space = subst (λ m. IsSpace b upper m head objects) (sym bump_now) (subst (λ u. IsSpace b u (half_skipped (length b)) head objects) (sym low)
          (subst (λ k. IsSpace b false (half_skipped (length b)) k objects) (sym h.head_is) (subst (λ k. IsSpace b false (half_skipped (length b)) 0 k) (sym h.count) made.space)));
      seen = λ scopes.
          ap₂ (λ u m. space_view b u m scopes) low bump_now
          ∙ made.seen scopes
          ∙ (λ i. record {
            attached = true;
            content = objects_at a (sym h.none i);
            capacity = capacity_is i;
            allocated = (ap half_skipped len ∙ sym (ap (λ t. cond t (half_skipped n) (bump - half_start (length a) upper)) (eq-eqb (length a) 0 e))) i;
            needs_gc = sym low i;
            scopes = scopes;
            counts = no_counts;
          });
    })

-- a memory grows while its lower half is active, or by nothing
pub grows : (a b : List ℕ) (upper : Bool) (bump head objects n : ℕ) → IsSpace a upper bump head objects → b ≡ a ++ replicate n 0 → (n ≡ 0) ⊎ (upper ≡ false)
    → length b ≤ page * max_pages → length b % 65536 ≡ 0 → Grows a b upper bump head objects n
grows a b upper bump head objects n s is (inl none) bound pages =
    subst (λ x. Grows a x upper bump head objects n) (sym is) (subst (λ m. Grows a (a ++ replicate m 0) upper bump head objects m) (sym none) (grows_none a upper bump head objects s))
grows a b upper bump head objects n s is (inr low) bound pages =
    let len : length b ≡ length a + n = ap length is ∙ length-append a (replicate n 0) ∙ ap (λ m. length a + m) (length-replicate {A = ℕ} n 0) in
    subst (λ x. Grows a x upper bump head objects n) (sym is) (elim (cases_eq (length a) 0) [
      | inl e ↦ grows_first a upper bump head objects n s e low (omega arith) (omega arith)
      | inr ne ↦
          subst (λ u. Grows a (a ++ replicate n 0) u bump head objects n) (sym low)
          (grows_more a bump head objects n (subst (λ u. IsSpace a u bump head objects) low s) (positive (length a) ne) (subst (λ (x : List ℕ). length x % page ≡ 0) is pages) (omega arith))
    ])
  where
    positive : (m : ℕ) → (m ≡ 0 → ⊥) → 0 < m
    positive m ne = elim (cases_eq m 0) [ inl e ↦ absurd (ne e) | inr x ↦ grind arith ]
