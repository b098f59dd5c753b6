-- What a change of an object's own words leaves of a space.
use Rattle.std.proofs.Common.{◌≡◌, ℕ, ◌+◌, ◌-◌, ◌*◌, ◌/◌, ◌%◌, ◌<◌, ◌≤◌, ◌^◌, List, [], ◌∷◌, take, drop, length, refl, sym, ap, subst, ◌∙◌, inl, inr, arith}
use Rattle.std.proofs.Math.Logic.{◌⊎◌}
use Rattle.std.proofs.lemmas.Bool.{cases_eq, cases_lt}
use Rattle.gc_types.specs.Kinds.{kind_bits, kind_of}
use Rattle.gc_refs.specs.Header.{kind_part}
use Rattle.gc_heap.specs.Objects.{first_offset, IsObjectKind}
use Rattle.gc_types.specs.declared.kind.Layouts.TheVariants.{Counting}
use Rattle.gc_memory.specs.Words.{word, put_u64}
use Rattle.gc_memory.specs.Lists.{In, here, there, occ}
use Rattle.gc_memory.specs.Changes.{Wrote}
use Rattle.gc_memory.proofs.ChangeLemmas.{Wrote-put_u32, Wrote-put_u64, Wrote-within, Wrote-then, Wrote-nothing, Wrote-apart, Wrote-behind}
use Rattle.gc_memory.proofs.WordLemmas.{word_in_same, word64_in_same, word_before, word_behind, word64_before, word64_behind, word-put_u32, word64-put_u64}
use Rattle.gc_view.specs.Bytes.{SameBytes}
use Rattle.gc_view.proofs.ByteLemmas.{SameBytes-part, part_in_same}
use Rattle.gc_view.specs.Bytes.{put_u32}
use Rattle.gc_view.specs.Heaps.{HeapObject}
use Rattle.gc_view.specs.Pages.{page}
use Rattle.gc_drc.specs.declared.space.CountedSpace.{CountedSpace}
use Rattle.gc_drc.specs.Layout.{count_at, counting_size_at, block_of, flags_at, counting_kind_at, counting_data_at, counting_object_at, IsCountingWhole}
use Rattle.gc_drc.specs.View.{View, count_of, flags_of, HoldsBlocks, ShowsObject, IsPart, Linked, last, link}
use Rattle.gc_drc.specs.SpaceLaws.{Lies, lies, apart, least_size}
use Rattle.gc_drc.specs.Operations.{Tends, SetsWords}

-- WORDS OF ONE OBJECT

pub sets_nothing : (m : List ℕ) (x : ℕ) → SetsWords m m x (word m x) (count_at m x) (word m (x + 16)) (word m (x + 24))
sets_nothing m x = record {
  tends = record { around = Wrote-nothing m x 28; kind = refl; ty = refl; size = refl };
  kind_is = refl;
  count_is = refl;
  list_is = refl;
  link_is = refl;
}

pub sets_count : (a b : List ℕ) (x k c l q n : ℕ) → SetsWords a b x k c l q → x + 28 ≤ length a → n < 2 ^ 64 → SetsWords a (put_u64 b (x + 8) n) x k n l q
sets_count a b x k c l q n s room small =
    let t = s.tends in
    let len : length b ≡ length a = t.around.same_length in
    let w : Wrote b (put_u64 b (x + 8) n) (x + 8) 8 = Wrote-put_u64 b (x + 8) n (omega arith) in
    record {
      tends = record {
        around = Wrote-then t.around (Wrote-within w x 28 (omega arith) (omega arith));
        kind = ap (λ n. n / 8) (word_before w x (omega arith)) ∙ t.kind;
        ty = word_before w (x + 4) (omega arith) ∙ t.ty;
        size = word_behind w (x + 20) (omega arith) ∙ t.size;
      };
      kind_is = word_before w x (omega arith) ∙ s.kind_is;
      count_is = word64-put_u64 b (x + 8) n (omega arith) small;
      list_is = word_behind w (x + 16) (omega arith) ∙ s.list_is;
      link_is = word_behind w (x + 24) (omega arith) ∙ s.link_is;
    }

pub sets_kind : (a b : List ℕ) (x k c l q n : ℕ) → SetsWords a b x k c l q → x + 28 ≤ length a → n < 2 ^ 32 → n / 8 ≡ k / 8 → SetsWords a (put_u32 b x n) x n c l q
sets_kind a b x k c l q n s room small same =
    let t = s.tends in
    let len : length b ≡ length a = t.around.same_length in
    let w : Wrote b (put_u32 b x n) x 4 = Wrote-put_u32 b x n (omega arith) in
    let is : word (put_u32 b x n) x ≡ n = word-put_u32 b x n (omega arith) small in
    record {
      tends = record {
        around = Wrote-then t.around (Wrote-within w x 28 (omega arith) (omega arith));
        kind = ap (λ n. n / 8) is ∙ same ∙ ap (λ n. n / 8) (sym s.kind_is) ∙ t.kind;
        ty = word_behind w (x + 4) (omega arith) ∙ t.ty;
        size = word_behind w (x + 20) (omega arith) ∙ t.size;
      };
      kind_is = is;
      count_is = word64_behind w (x + 8) (omega arith) ∙ s.count_is;
      list_is = word_behind w (x + 16) (omega arith) ∙ s.list_is;
      link_is = word_behind w (x + 24) (omega arith) ∙ s.link_is;
    }

pub sets_list : (a b : List ℕ) (x k c l q n : ℕ) → SetsWords a b x k c l q → x + 28 ≤ length a → n < 2 ^ 32 → SetsWords a (put_u32 b (x + 16) n) x k c n q
sets_list a b x k c l q n s room small =
    let t = s.tends in
    let len : length b ≡ length a = t.around.same_length in
    let w : Wrote b (put_u32 b (x + 16) n) (x + 16) 4 = Wrote-put_u32 b (x + 16) n (omega arith) in
    record {
      tends = record {
        around = Wrote-then t.around (Wrote-within w x 28 (omega arith) (omega arith));
        kind = ap (λ n. n / 8) (word_before w x (omega arith)) ∙ t.kind;
        ty = word_before w (x + 4) (omega arith) ∙ t.ty;
        size = word_behind w (x + 20) (omega arith) ∙ t.size;
      };
      kind_is = word_before w x (omega arith) ∙ s.kind_is;
      count_is = word64_before w (x + 8) (omega arith) ∙ s.count_is;
      list_is = word-put_u32 b (x + 16) n (omega arith) small;
      link_is = word_behind w (x + 24) (omega arith) ∙ s.link_is;
    }

pub sets_link : (a b : List ℕ) (x k c l q n : ℕ) → SetsWords a b x k c l q → x + 28 ≤ length a → n < 2 ^ 32 → SetsWords a (put_u32 b (x + 24) n) x k c l n
sets_link a b x k c l q n s room small =
    let t = s.tends in
    let len : length b ≡ length a = t.around.same_length in
    let w : Wrote b (put_u32 b (x + 24) n) (x + 24) 4 = Wrote-put_u32 b (x + 24) n (omega arith) in
    record {
      tends = record {
        around = Wrote-then t.around (Wrote-within w x 28 (omega arith) (omega arith));
        kind = ap (λ n. n / 8) (word_before w x (omega arith)) ∙ t.kind;
        ty = word_before w (x + 4) (omega arith) ∙ t.ty;
        size = word_before w (x + 20) (omega arith) ∙ t.size;
      };
      kind_is = word_before w x (omega arith) ∙ s.kind_is;
      count_is = word64_before w (x + 8) (omega arith) ∙ s.count_is;
      list_is = word_before w (x + 16) (omega arith) ∙ s.list_is;
      link_is = word-put_u32 b (x + 24) n (omega arith) small;
    }

-- OTHER OBJECTS

pub same_object : (x y : HeapObject) → x.kind ≡ y.kind → x.ty ≡ y.ty → x.spare ≡ y.spare → x.bytes ≡ y.bytes → x ≡ y
same_object x y kind ty spare bytes = λ i. record { kind = kind i; ty = ty i; spare = spare i; bytes = bytes i }

-- What is as before of an object, but for its count, its flags and its lists.
pub record SameObject (a b : List ℕ) (p : ℕ) : Type 0 where
  pub size : counting_size_at b p ≡ counting_size_at a p
  pub object : counting_object_at b p ≡ counting_object_at a p
  pub whole : IsCountingWhole b p

-- by its words and its data
pub object_by_words : (a b : List ℕ) (p : ℕ) → IsCountingWhole a p → word b p / 8 ≡ word a p / 8 → word b (p + 4) ≡ word a (p + 4) → word b (p + 20) ≡ word a (p + 20)
    → (28 ≤ counting_size_at a p → SameBytes a b (p + 28) (p + counting_size_at a p)) → SameObject a b p
unfolding counting_kind_at
object_by_words a b p w kw ty size same =
    let least = least_size a p w in
    let part : kind_part (word b p) ≡ kind_part (word a p) = omega arith in
    let kind : kind_of (kind_part (word b p)) ≡ kind_of (kind_part (word a p)) = ap kind_of part in
    let bytes : SameBytes a b (p + 28) (p + counting_size_at a p) = same least in
    let data_same : counting_data_at b p ≡ counting_data_at a p =
    ap (λ n. take (n - 28) (drop (p + 28) b)) size ∙ part_in_same a b (p + 28) (counting_size_at a p - 28) (SameBytes-part bytes (p + 28) (p + 28 + (counting_size_at a p - 28)) (omega arith) (omega arith)) in
    record {
      size = size;
      object = same_object _ _ kind ty (omega arith) data_same;
      whole = record {
        kind = ap kind_bits kind ∙ w.kind ∙ sym part;
        object_kind = subst IsObjectKind (sym kind) w.object_kind;
        least = subst (λ k. first_offset Counting k ≤ counting_size_at b p) (sym kind) (subst (λ n. first_offset Counting (kind_of (kind_part (word a p))) ≤ n) (sym size) w.least);
        external = λ e.
            let x = w.external (sym kind ∙ e) in
            let x_size = x.size in
            let host : word b (p + 28) ≡ word a (p + 28) = word_in_same a b (p + 28) (SameBytes-part bytes (p + 28) (p + 28 + 4) (omega arith) (omega arith)) in
            record { size = size ∙ x.size; from = subst (λ n. 0 < n) (sym host) x.from; to = omega (arith, x.to, host) };
      };
    }

pub object_in_same : (a b : List ℕ) (p : ℕ) → IsCountingWhole a p → 28 ≤ counting_size_at a p → SameBytes a b p (p + counting_size_at a p) → SameObject a b p
object_in_same a b p w least s =
    object_by_words a b p w
    (ap (λ n. n / 8) (word_in_same a b p (SameBytes-part s p (p + 4) (omega arith) (omega arith))))
    (word_in_same a b (p + 4) (SameBytes-part s (p + 4) (p + 4 + 4) (omega arith) (omega arith)))
    (word_in_same a b (p + 20) (SameBytes-part s (p + 20) (p + 20 + 4) (omega arith) (omega arith)))
    (λ _. SameBytes-part s (p + 28) (p + counting_size_at a p) (omega arith) (omega arith))

-- another object lies on either side
pub apart_from : (v : View) (s : CountedSpace) (p x : ℕ) → HoldsBlocks v s → In p v.places → In x v.places → (p ≡ x → ⊥) → (p + block_of (v.sizes p) ≤ x) ⊎ (x + block_of (v.sizes x) ≤ p)
apart_from v s p x h i j ne = elim (cases_lt p x) [
  | inl before ↦ inl (apart v s p x h i j before)
  | inr not ↦ elim (cases_lt x p) [
    | inl behind ↦ inr (apart v s x p h j i behind)
    | inr equal ↦ absurd (ne (omega arith))
  ]
]

-- the bytes of another object stay
pub other_bytes : (v : View) (s : CountedSpace) (m : List ℕ) (p x n : ℕ) → HoldsBlocks v s → In p v.places → In x v.places → (p ≡ x → ⊥) → Wrote s.memory m x n → n ≤ block_of (v.sizes x)
    → SameBytes s.memory m p (p + v.sizes p)
other_bytes v s m p x n h i j ne w small = Wrote-apart w p (p + v.sizes p) (sides (apart_from v s p x h i j ne))
  where
    sides : (p + block_of (v.sizes p) ≤ x) ⊎ (x + block_of (v.sizes x) ≤ p) → (p + v.sizes p ≤ x) ⊎ (x + n ≤ p)
    sides (inl e) = inl (omega arith)
    sides (inr e) = inr (omega arith)

own_words_fit : (n : ℕ) → 28 ≤ n → 28 ≤ block_of n
own_words_fit n l = omega arith

-- each object is as before
pub tended_object : (v : View) (s : CountedSpace) (m : List ℕ) (p x : ℕ) → HoldsBlocks v s → In p v.places → In x v.places → Tends s.memory m x → SameObject s.memory m p
tended_object v s m p x h i j t = elim (cases_eq p x) [
  | inl e ↦
      let w : Tends s.memory m p = subst (Tends s.memory m) (sym e) t in
      object_by_words s.memory m p o.whole w.kind w.ty w.size (λ _. Wrote-behind w.around (p + 28) (p + counting_size_at s.memory p) (omega arith))
  | inr ne ↦
      object_in_same s.memory m p o.whole (omega (arith, l.least, o.size_is))
      (subst (λ n. SameBytes s.memory m p (p + n)) (sym o.size_is) (other_bytes v s m p x 28 h i j ne t.around (own_words_fit (v.sizes x) (lies v s x h j).least)))
]
  where
    o : ShowsObject s.memory p (v.sizes p) (count_of v p) (flags_of v p)
    o = h.objects p i

    l : Lies v s p
    l = lies v s p h i

-- links that stay
pub linked_in_same : (a b : List ℕ) (offset head : ℕ) (ps : List ℕ) → Linked a offset head ps → ((p : ℕ) → In p ps → word b (p + offset) ≡ word a (p + offset)) → Linked b offset head ps
linked_in_same a b offset _ [] last same = last
linked_in_same a b offset _ (p ∷ ps) (link positive rest) same =
    link positive (subst (λ w. Linked b offset w ps) (sym (same p here)) (linked_in_same a b offset (word a (p + offset)) ps rest (λ q i. same q (there i))))

-- the links of a list stay where its object's does, or where the object isn't on it
pub tended_links : (v : View) (s : CountedSpace) (m : List ℕ) (x offset head : ℕ) (list : List ℕ) → HoldsBlocks v s → In x v.places → Tends s.memory m x → offset ≤ 24
    → IsPart v.places list → Linked s.memory offset head list → (In x list → word m (x + offset) ≡ word s.memory (x + offset)) → Linked m offset head list
tended_links v s m x offset head list h j t small part linked own =
    linked_in_same s.memory m offset head list linked (λ p i. elim (cases_eq p x) [
      | inl e ↦ subst (λ q. word m (q + offset) ≡ word s.memory (q + offset)) (sym e) (own (subst (λ q. In q list) e i))
      | inr ne ↦
          let l = (lies v s p h (part.inside p i)).least in
          word_in_same s.memory m (p + offset) (SameBytes-part (other_bytes v s m p x 28 h (part.inside p i) j ne t.around (own_words_fit (v.sizes x) (lies v s x h j).least))
          (p + offset) (p + offset + 4) (omega arith) (omega arith))
    ])

-- the count and the flags of another object stay
pub other_words : (v : View) (s : CountedSpace) (m : List ℕ) (p x n : ℕ) → HoldsBlocks v s → In p v.places → In x v.places → (p ≡ x → ⊥) → Wrote s.memory m x n → n ≤ block_of (v.sizes x)
    → (count_at m p ≡ count_at s.memory p) × (flags_at m p ≡ flags_at s.memory p)
other_words v s m p x n h i j ne w small =
    let same = other_bytes v s m p x n h i j ne w small in
    let l = (lies v s p h i).least in (
      word64_in_same s.memory m (p + 8) (SameBytes-part same (p + 8) (p + 8 + 8) (omega arith) (omega arith)),
      ap (λ n. n % 8) (word_in_same s.memory m p (SameBytes-part same p (p + 4) (omega arith) (omega arith))),
    )

-- what a view has after a change of one object
pub changed : View → (ℕ → ℕ) → List ℕ → List ℕ → List ℕ → View
changed v counted shown queue marked = record v { counted = counted; shown = shown; queue = queue; marked = marked }

pub holds_tended : (v : View) (s : CountedSpace) (m : List ℕ) (hs hq x : ℕ) (counted : ℕ → ℕ) (shown queue marked : List ℕ)
    → HoldsBlocks v s → In x v.places → Tends s.memory m x
    → count_at m x ≡ counted x + occ x shown + occ x queue → 0 < counted x + occ x shown + occ x queue
    → flags_at m x ≡ occ x marked + 2 * occ x shown + 4 * occ x queue
    → ((p : ℕ) → (p ≡ x → ⊥) → (counted p ≡ v.counted p) × ((occ p shown ≡ occ p v.shown) × ((occ p queue ≡ occ p v.queue) × (occ p marked ≡ occ p v.marked))))
    → IsPart v.places shown → IsPart v.places queue → IsPart v.places marked → Linked m 16 hs shown → Linked m 24 hq queue
    → HoldsBlocks (record v { counted = counted; shown = shown; queue = queue; marked = marked }) (record s { memory = m; shown = hs; queued = hq })
holds_tended v s m hs hq x counted shown queue marked h j t count positive flags others shown_part queue_part marked_part shown_linked queue_linked =
    let len : length m ≡ length s.memory = t.around.same_length in
    let capacity = h.capacity in
    let bound = h.bound in
    record {
      pages = ap (λ n. n % page) len ∙ h.pages;
      bound = omega arith;
      capacity = omega arith;
      sound = h.sound;
      blocks = h.blocks;
      objects = λ p i. object p i (cases_eq p x);
      shown_part = shown_part;
      queue_part = queue_part;
      marked_part = marked_part;
      shown_linked = shown_linked;
      queue_linked = queue_linked;
      count = h.count;
      allocated = h.allocated;
    }
  where
    object : (p : ℕ) → In p v.places → (p ≡ x) ⊎ (p ≡ x → ⊥)
        → ShowsObject m p (v.sizes p) (counted p + occ p shown + occ p queue) (occ p marked + 2 * occ p shown + 4 * occ p queue)
    object p i (inl e) =
        let o = tended_object v s m p x h i j t in
        let was = h.objects p i in
        subst (λ q. IsCountingWhole m q → counting_size_at m q ≡ v.sizes q → ShowsObject m q (v.sizes q) (counted q + occ q shown + occ q queue) (occ q marked + 2 * occ q shown + 4 * occ q queue)) (sym e)
        (λ w size. record { whole = w; size_is = size; count_is = count; positive = positive; flags_are = flags })
        o.whole (o.size ∙ was.size_is)
    object p i (inr ne) =
        let o = tended_object v s m p x h i j t in
        let was = h.objects p i in
        let words = other_words v s m p x 28 h i j ne t.around (own_words_fit (v.sizes x) (lies v s x h j).least) in
        let same = others p ne in
        let a = same.0 in
        let b = same.1.0 in
        let c = same.1.1.0 in
        let d = same.1.1.1 in
        let count = was.count_is in
        let flags = was.flags_are in
        let positive = was.positive in
        record {
          whole = o.whole;
          size_is = o.size ∙ was.size_is;
          count_is = words.0 ∙ count ∙ omega arith;
          positive = omega arith;
          flags_are = words.1 ∙ flags ∙ omega arith;
        }
