-- Writes to the words that the heap keeps in front of an object's data.
use Rattle.std.proofs.Common.{◌≡◌, ℕ, ◌+◌, ◌/◌, ◌%◌, ◌<◌, ◌≤◌, ◌^◌, List, [], ◌∷◌, length, sym, ap, subst, ◌∙◌, inl, inr, arith}
use Rattle.std.proofs.Math.Logic.{◌⊎◌}
use Rattle.std.proofs.lemmas.Bool.{cases_eq, cases_lt}
use Rattle.gc_types.specs.declared.kind.VMGcKind.TheVariants.{ExternRef}
use Rattle.gc_refs.specs.Header.{kind_part, IsOfKind}
use Rattle.gc_types.specs.declared.kind.Layouts.TheVariants.{Counting}
use Rattle.gc_heap.specs.Objects.{first_offset, IsObjectKind}
use Rattle.gc_view.specs.Bytes.{put_u32}
use Rattle.gc_view.specs.Bytes.{SameBytes}
use Rattle.gc_view.proofs.ByteLemmas.{SameBytes-then, SameBytes-part}
use Rattle.gc_memory.specs.Words.{word, word64, put_u64}
use Rattle.gc_memory.specs.Changes.{Wrote}
use Rattle.gc_memory.specs.Lists.{In, here, there}
use Rattle.gc_memory.proofs.ChangeLemmas.{Wrote-put_u32, Wrote-put_u64, Wrote-within, Wrote-then, Wrote-behind, Wrote-before}
use Rattle.gc_memory.proofs.WordLemmas.{word_apart, word64_apart, word-put_u32, word64-put_u64, word_in_same}
use Rattle.gc_drc.specs.Layout.{counting_size_at, counting_kind_at, IsCountingWhole, HasCountingHost}
use Rattle.gc_types.specs.Kinds.{kind_of}
use Rattle.gc_drc.specs.View.{Linked, last, link}
use Rattle.gc_drc.specs.CollectMemory.{Context, IsContext, SameObject, Intact}

-- The words in front of an object became these; its kind, its type and its size stayed.
pub record Sets (m m' : List ℕ) (x flags count next_shown next : ℕ) : Type 0 where
  pub around : Wrote m m' x 28
  pub kind : word m' x / 8 ≡ word m x / 8
  pub ty : word m' (x + 4) ≡ word m (x + 4)
  pub size : word m' (x + 20) ≡ word m (x + 20)
  pub flags_are : word m' x % 8 ≡ flags
  pub count_is : word64 m' (x + 8) ≡ count
  pub shown_is : word m' (x + 16) ≡ next_shown
  pub link_is : word m' (x + 24) ≡ next

pub sets_kind : (m : List ℕ) (x k : ℕ) → x + 28 ≤ length m → k < 2 ^ 32 → k / 8 ≡ word m x / 8
    → Sets m (put_u32 m x k) x (k % 8) (word64 m (x + 8)) (word m (x + 16)) (word m (x + 24))
sets_kind m x k room small same =
    let w = Wrote-put_u32 m x k (omega arith) in
    let at = word-put_u32 m x k (omega arith) small in
    record {
      around = Wrote-within w x 28 (omega arith) (omega arith);
      kind = ap (λ (n : ℕ). n / 8) at ∙ same;
      ty = word_apart w (x + 4) (inr (omega arith));
      size = word_apart w (x + 20) (inr (omega arith));
      flags_are = ap (λ (n : ℕ). n % 8) at;
      count_is = word64_apart w (x + 8) (inr (omega arith));
      shown_is = word_apart w (x + 16) (inr (omega arith));
      link_is = word_apart w (x + 24) (inr (omega arith));
    }

pub sets_count : (m : List ℕ) (x n : ℕ) → x + 28 ≤ length m → n < 2 ^ 64
    → Sets m (put_u64 m (x + 8) n) x (word m x % 8) n (word m (x + 16)) (word m (x + 24))
sets_count m x n room small =
    let w = Wrote-put_u64 m (x + 8) n (omega arith) in
    record {
      around = Wrote-within w x 28 (omega arith) (omega arith);
      kind = ap (λ (n : ℕ). n / 8) (word_apart w x (inl (omega arith)));
      ty = word_apart w (x + 4) (inl (omega arith));
      size = word_apart w (x + 20) (inr (omega arith));
      flags_are = ap (λ (n : ℕ). n % 8) (word_apart w x (inl (omega arith)));
      count_is = word64-put_u64 m (x + 8) n (omega arith) small;
      shown_is = word_apart w (x + 16) (inr (omega arith));
      link_is = word_apart w (x + 24) (inr (omega arith));
    }

pub sets_shown : (m : List ℕ) (x n : ℕ) → x + 28 ≤ length m → n < 2 ^ 32
    → Sets m (put_u32 m (x + 16) n) x (word m x % 8) (word64 m (x + 8)) n (word m (x + 24))
sets_shown m x n room small =
    let w = Wrote-put_u32 m (x + 16) n (omega arith) in
    record {
      around = Wrote-within w x 28 (omega arith) (omega arith);
      kind = ap (λ (n : ℕ). n / 8) (word_apart w x (inl (omega arith)));
      ty = word_apart w (x + 4) (inl (omega arith));
      size = word_apart w (x + 20) (inr (omega arith));
      flags_are = ap (λ (n : ℕ). n % 8) (word_apart w x (inl (omega arith)));
      count_is = word64_apart w (x + 8) (inl (omega arith));
      shown_is = word-put_u32 m (x + 16) n (omega arith) small;
      link_is = word_apart w (x + 24) (inr (omega arith));
    }

pub sets_link : (m : List ℕ) (x n : ℕ) → x + 28 ≤ length m → n < 2 ^ 32
    → Sets m (put_u32 m (x + 24) n) x (word m x % 8) (word64 m (x + 8)) (word m (x + 16)) n
sets_link m x n room small =
    let w = Wrote-put_u32 m (x + 24) n (omega arith) in
    record {
      around = Wrote-within w x 28 (omega arith) (omega arith);
      kind = ap (λ (n : ℕ). n / 8) (word_apart w x (inl (omega arith)));
      ty = word_apart w (x + 4) (inl (omega arith));
      size = word_apart w (x + 20) (inl (omega arith));
      flags_are = ap (λ (n : ℕ). n % 8) (word_apart w x (inl (omega arith)));
      count_is = word64_apart w (x + 8) (inl (omega arith));
      shown_is = word_apart w (x + 16) (inl (omega arith));
      link_is = word-put_u32 m (x + 24) n (omega arith) small;
    }

-- one write after another
pub sets_then : {m m' m2 : List ℕ} {x f c l k f' c' l' k' : ℕ} → Sets m m' x f c l k → Sets m' m2 x f' c' l' k' → Sets m m2 x f' c' l' k'
sets_then s t = record {
  around = Wrote-then s.around t.around;
  kind = t.kind ∙ s.kind;
  ty = t.ty ∙ s.ty;
  size = t.size ∙ s.size;
  flags_are = t.flags_are;
  count_is = t.count_is;
  shown_is = t.shown_is;
  link_is = t.link_is;
}

-- the same with other names for the numbers
pub sets_as : {m m' : List ℕ} {x f c l k : ℕ} → Sets m m' x f c l k → (f' c' l' k' : ℕ) → f ≡ f' → c ≡ c' → l ≡ l' → k ≡ k' → Sets m m' x f' c' l' k'
sets_as s f' c' l' k' ef ec el ek = record {
  around = s.around;
  kind = s.kind;
  ty = s.ty;
  size = s.size;
  flags_are = s.flags_are ∙ ef;
  count_is = s.count_is ∙ ec;
  shown_is = s.shown_is ∙ el;
  link_is = s.link_is ∙ ek;
}

-- THE OBJECTS

-- a kind is the upper bits of its word
pub kind_at_same : (m m' : List ℕ) (p : ℕ) → word m' p / 8 ≡ word m p / 8 → counting_kind_at m' p ≡ counting_kind_at m p
unfolding counting_kind_at
kind_at_same m m' p e =
    let part : kind_part (word m' p) ≡ kind_part (word m p) = omega arith in
    ap (λ (n : ℕ). kind_of n) part

-- the object whose words were written
pub same_written : {m m' : List ℕ} {x f c l k : ℕ} → Sets m m' x f c l k → SameObject m m' x
same_written {m = m} {x = x} s = record {
  kind = s.kind;
  ty = s.ty;
  size = s.size;
  bytes = Wrote-behind s.around (x + 28) (x + counting_size_at m x) (omega arith);
}

-- an object that lies apart from it
pub same_apart : {m m' : List ℕ} {x f c l k : ℕ} → Sets m m' x f c l k → (p : ℕ) → 28 ≤ counting_size_at m p → (p + counting_size_at m p ≤ x) ⊎ (x + 28 ≤ p) → SameObject m m' p
same_apart {m = m} {x = x} s p least (inl h) = record {
  kind = ap (λ (n : ℕ). n / 8) (word_apart s.around p (inl (omega arith)));
  ty = word_apart s.around (p + 4) (inl (omega arith));
  size = word_apart s.around (p + 20) (inl (omega arith));
  bytes = Wrote-before s.around (p + 28) (p + counting_size_at m p) h;
}
same_apart {m = m} {x = x} s p least (inr h) = record {
  kind = ap (λ (n : ℕ). n / 8) (word_apart s.around p (inr h));
  ty = word_apart s.around (p + 4) (inr (omega arith));
  size = word_apart s.around (p + 20) (inr (omega arith));
  bytes = Wrote-behind s.around (p + 28) (p + counting_size_at m p) (omega arith);
}

pub same_then : {m m' m2 : List ℕ} {p : ℕ} → SameObject m m' p → SameObject m' m2 p → SameObject m m2 p
same_then {m = m} {m' = m'} {m2 = m2} {p = p} s t = record {
  kind = t.kind ∙ s.kind;
  ty = t.ty ∙ s.ty;
  size = t.size ∙ s.size;
  bytes = SameBytes-then s.bytes (subst (λ (n : ℕ). SameBytes m' m2 (p + 28) (p + n)) s.size t.bytes);
}

-- an object that is the same is whole
pub whole_same : (m m' : List ℕ) (p : ℕ) → SameObject m m' p → IsCountingWhole m p → IsCountingWhole m' p
whole_same m m' p s w =
    let kind_is : counting_kind_at m p ≡ counting_kind_at m' p = sym (kind_at_same m m' p s.kind) in
    let part : kind_part (word m p) ≡ kind_part (word m' p) = let e = s.kind in omega arith in
    let external : counting_kind_at m' p ≡ ExternRef → HasCountingHost m' p = λ e.
    let x = w.external (kind_is ∙ e) in
    let size = s.size in
    let is_32 = x.size in
    let host : word m' (p + 28) ≡ word m (p + 28) = word_in_same m m' (p + 28) (SameBytes-part s.bytes (p + 28) (p + 28 + 4) (omega arith) (omega arith)) in
    let from = x.from in
    let to = x.to in
    record { size = size ∙ is_32; from = omega arith; to = omega arith } in
    record {
      kind = subst (λ k. IsOfKind k (word m' p)) kind_is (w.kind ∙ part);
      object_kind = subst (λ k. IsObjectKind k) kind_is w.object_kind;
      least = subst (λ k. first_offset Counting k ≤ counting_size_at m' p) kind_is (let a = w.least in let e = s.size in omega arith);
      external = external;
    }

-- where the objects of a start lie, one is apart from another
pub apart_at : (c : Context) (x p : ℕ) → IsContext c → In x c.graph.places → In p c.graph.places → (p ≡ x → ⊥)
    → (p + counting_size_at c.memory p ≤ x) ⊎ (x + 28 ≤ p)
apart_at c x p is i j ne = elim (cases_lt p x) [
  | inl before ↦ inl (is.apart p x j i before)
  | inr from ↦ inr (
      let behind = is.apart x p i j (elim (cases_eq p x) [ inl e ↦ elim (ne e) [ ] | inr other ↦ omega arith ]) in
      let least = (is.lies x i).least in
      omega arith)
]

-- a write to the words of one object leaves all as they were
pub intact_written : (c : Context) (m m' : List ℕ) (x : ℕ) {f n l k : ℕ} → IsContext c → Intact c m → In x c.graph.places → Sets m m' x f n l k → Intact c m'
intact_written c m m' x is intact i s = record {
  same_length = s.around.same_length ∙ intact.same_length;
  objects = λ p j. elim (cases_eq p x) [
    | inl e ↦ same_then (intact.objects p j) (subst (λ (q : ℕ). SameObject m m' q) (sym e) (same_written s))
    | inr ne ↦
        let was = intact.objects p j in
        let size = was.size in
        let least = (is.lies p j).least in
        same_then was (same_apart s p (omega arith) (elim (apart_at c x p is i j ne) [ inl h ↦ inl (omega arith) | inr h ↦ inr h ]))
  ];
}

-- LISTS

-- a list whose links are as before
pub linked_same : (m m' : List ℕ) (offset : ℕ) (h : ℕ) (ps : List ℕ) → ((p : ℕ) → In p ps → word m' (p + offset) ≡ word m (p + offset)) → Linked m offset h ps → Linked m' offset h ps
linked_same m m' offset _ [] same last = last
linked_same m m' offset h (_ ∷ ps) same (link positive rest) =
    link positive (subst (λ (n : ℕ). Linked m' offset n ps) (sym (same h here)) (linked_same m m' offset (word m (h + offset)) ps (λ q i. same q (there i)) rest))
