-- The list of external objects is swept.
use Rattle.std.proofs.Common.{◌≡◌, ℕ, ◌+◌, ◌-◌, ◌/◌, ◌%◌, ◌<◌, ◌≤◌, ◌^◌, List, [], ◌∷◌, ◌++◌, length, get_or, Option, Some, None, refl, sym, ap, subst, ◌∙◌, inl, inr, arith, length-append, append_assoc}
use Rattle.std.proofs.Math.Logic.{◌⊎◌}
use Rattle.std.proofs.lemmas.Bool.{cases_eq}
use Rattle.std.proofs.lemmas.Option.{none-some}
use Rattle.std.specs.FinMap as finite
use Rattle.std.specs.Ordering.{nat_cmp}
use Rattle.gc_view.specs.Bytes.{u32_at, put_u32}
use Rattle.gc_view.proofs.ByteLemmas.{SameBytes-part}
use Rattle.gc_memory.specs.Words.{word}
use Rattle.gc_memory.specs.Changes.{Wrote}
use Rattle.gc_memory.specs.Lists.{In, here, there, occ}
use Rattle.gc_memory.proofs.ListLemmas.{In-left, In-right, In-split, In-one, occ-same, occ-other, occ-append, In-occ, occ-none}
use Rattle.gc_memory.proofs.ChainLemmas.{Chain-length, Chain-once}
use Rattle.gc_memory.proofs.WordLemmas.{word-is, word_in_same, word_apart, word_by_bytes}
use Rattle.gc_heap.specs.Collection.{IsPartOf}
use Rattle.gc_copying.specs.declared.space.Space.{Space}
use Rattle.gc_copying.specs.Spaces.{half_first, half_end}
use Rattle.gc_copying.specs.CopyWords.{flag, forwarding, copying_host_word, next_external, IsCopyingExternal, copied_unit}
use Rattle.gc_copying.specs.CopyStart.{From, NextExternals, none, link}
use Rattle.gc_copying.specs.CopyMiddle.{IsCopiedTo, Mid}
use Rattle.gc_copying.specs.CopySteps.{Midway}
use Rattle.gc_heap.specs.FreedHosts.{FreesHost, IsHostWord}
use Rattle.gc_copying.specs.CopySweep.{CanSweepExternal, ListsCopy, Sweeps}
use Rattle.gc_copying.proofs.MoreBytes.{wrote_word, word_written}
use Rattle.gc_copying.proofs.MidLemmas.{lies, new_lies, halves_apart, no_both}
use Rattle.gc_copying.proofs.CopyKeeps.{copy_range}
use Rattle.gc_copying.proofs.ScanKeeps.{new_apart}
use Rattle.gc_copying.proofs.FewLemmas.{few, count_links, linked_count}
use Rattle.gc_copying.specs.Layout.{copying_size_at}

-- a byte is before or behind the link of each of these copies
abbrev pub IsNoLink : List ℕ → ℕ → Type 0
IsNoLink made j = (q : ℕ) → In q made → (j < q + 20) ⊎ (q + 24 ≤ j)

-- The list was swept up to e: those that were copied are listed anew from `head` on, and only their links changed.
pub record Swept (s : From) (listed : List ℕ) (m1 m : List ℕ) (head e : ℕ) (gone : List ℕ) : Type 0 where
  pub rest : List ℕ
  pub made : List ℕ
  pub split : listed ≡ gone ++ rest
  pub linked : NextExternals s.memory e rest
  pub same_length : length m ≡ length m1
  pub made_linked : NextExternals m head made
  pub made_only : (q : ℕ) → In q made → (p : ℕ) × (In p gone × IsCopiedTo s m1 p q)
  pub made_all : (p q : ℕ) → In p gone → IsCopiedTo s m1 p q → In q made
  pub once : (q : ℕ) → occ q made ≤ 1
  pub same : (j d : ℕ) → IsNoLink made j → get_or m j d ≡ get_or m1 j d

-- of those that are gone the values of those that were not copied are freed
pub record HostsGone (s : From) (D : Type 0) (m1 : List ℕ) (gone : List ℕ) (old now : finite.FinMap nat_cmp D) : Type 0 where
  pub lost : (p : ℕ) → In p gone → flag m1 p ≡ 0 → finite.get now (copying_host_word s.memory p - 1) ≡ None
  pub kept : (id : ℕ) → ((p : ℕ) → In p gone → flag m1 p ≡ 0 → copying_host_word s.memory p ≡ id + 1 → ⊥) → finite.get now id ≡ finite.get old id
  pub part : IsPartOf now old

flag_zero : (w : ℕ) → (w / copied_unit % 2 ≡ 1 → ⊥) → w / copied_unit % 2 ≡ 0
flag_zero w ne = omega arith

-- a flag is one of two numbers
pub flag_cases : (m : List ℕ) (p : ℕ) → (flag m p ≡ 1) ⊎ (flag m p ≡ 0)
flag_cases m p = elim (cases_eq (flag m p) 1) [ inl e ↦ inl e | inr ne ↦ inr (flag_zero (word m p) ne) ]

pub not_in_nil : (x : ℕ) → In x [] → ⊥
not_in_nil x i = elim i [ ]

-- one of a linked list is the first, or of the rest
pub linked_none : (m ps : List ℕ) → NextExternals m 0 ps → ps ≡ []
linked_none m [] none = refl
linked_none m (_ ∷ ps) (link some l) = absurd (omega arith)

pub record Head (m : List ℕ) (e : ℕ) (ps : List ℕ) : Type 0 where
  pub rest : List ℕ
  pub is : ps ≡ e ∷ rest
  pub linked : NextExternals m (next_external m e) rest

pub linked_head : (m ps : List ℕ) (e : ℕ) → NextExternals m e ps → (e ≡ 0 → ⊥) → Head m e ps
linked_head m [] _ none ne = absurd (ne refl)
linked_head m (_ ∷ ps) _ (link some l) ne = record { rest = ps; is = refl; linked = l }

-- links that are equal link the same
pub linked_same : (m m' ps : List ℕ) (e : ℕ) → NextExternals m e ps → ((p : ℕ) → In p ps → next_external m' p ≡ next_external m p) → NextExternals m' e ps
linked_same m m' [] _ none same = none
linked_same m m' (_ ∷ ps) e (link some l) same =
    link some (subst (λ (x : ℕ). NextExternals m' x ps) (sym (same e here)) (linked_same m m' ps (next_external m e) l (λ p i. same p (there i))))

-- the first of a linked list, where there is one
pub linked_first : (m ps : List ℕ) (e : ℕ) → NextExternals m e ps → (e ≡ 0) ⊎ In e ps
linked_first m [] _ none = inl refl
linked_first m (_ ∷ ps) _ (link some l) = inr here

-- what a part doesn't have a smaller part doesn't have
pub part_none : {D : Type 0} (part whole : finite.FinMap nat_cmp D) (id : ℕ) → IsPartOf part whole → finite.get whole id ≡ None → finite.get part id ≡ None
part_none {D = D} part whole id is none_there = go (finite.get part id) refl
  where
    go : (v : Option D) → finite.get part id ≡ v → finite.get part id ≡ None
    go None e = e
    go (Some x) e = absurd (none-some x (sym none_there ∙ is id x e))

module _ (s : From) (m1 : List ℕ) (base bump limit count : ℕ) (mid : Mid s m1 base bump limit count bump) where
  -- a copy of an external object is long enough for its link
  pub record IsMade (gone : List ℕ) (q : ℕ) : Type 0 where
    pub source : ℕ
    pub leads : IsCopiedTo s m1 source q
    pub was_gone : In source gone
    pub inside : In q mid.news
    pub long : 32 ≤ copying_size_at m1 q
    pub from : base ≤ q
    pub to : q + copying_size_at m1 q ≤ bump

  in_listed : (gone rest : List ℕ) (p : ℕ) → mid.start.externals.listed ≡ gone ++ rest → In p gone → In p mid.start.externals.listed
  in_listed gone rest p split i = subst (λ l. In p l) (sym split) (In-left p gone rest i)

  copy_long : (p q : ℕ) → IsCopiedTo s m1 p q → In p mid.start.externals.listed → 32 ≤ copying_size_at m1 q
  copy_long p q leads i =
      let is = mid.start.externals.only p i in
      omega (arith, copy_range mid p q leads, mid.start.external_size p is.0 is.1)

  made_is : (m : List ℕ) (head e : ℕ) (gone : List ℕ) → (w : Swept s mid.start.externals.listed m1 m head e gone) → (q : ℕ) → In q w.made → IsMade gone q
  made_is m head e gone w q i =
      let b = w.made_only q i in
      let inside = (mid.copied b.0 q b.1.1).inside in
      let at = new_lies mid q inside in
      record {
        source = b.0;
        leads = b.1.1;
        was_gone = b.1.0;
        inside = inside;
        long = copy_long b.0 q b.1.1 (in_listed gone w.rest b.0 w.split b.1.0);
        from = at.from;
        to = at.to;
      }

  -- a word of an old object is as it was
  pub old_word : (m : List ℕ) (head e : ℕ) (gone : List ℕ) → Swept s mid.start.externals.listed m1 m head e gone → (p o : ℕ) → In p s.places → o + 4 ≤ copying_size_at s.memory p
      → word m (p + o) ≡ word m1 (p + o)
  old_word m head e gone w p o i h =
      let at = lies mid p i in
      word_by_bytes m1 m (p + o) (p + o) (λ k l. w.same (p + o + k) 0 (λ q j.
      let made = made_is m head e gone w q j in
      elim (halves_apart mid p (p + copying_size_at s.memory p) q (q + 24) at.from at.to made.from (omega (arith, made.to, made.long, mid.room))) [
        | inl a ↦ inl (omega arith)
        | inr a ↦ inr (omega arith)
      ]))

  -- the next external object
  pub at_head : (m : List ℕ) (head e : ℕ) (gone : List ℕ) → (w : Swept s mid.start.externals.listed m1 m head e gone) → (e ≡ 0 → ⊥) → Head s.memory e w.rest
  at_head m head e gone w ne = linked_head s.memory w.rest e w.linked ne

  head_listed : (m : List ℕ) (head e : ℕ) (gone : List ℕ) → (w : Swept s mid.start.externals.listed m1 m head e gone) → (h : Head s.memory e w.rest) → In e mid.start.externals.listed
  head_listed m head e gone w h = subst (λ l. In e l) (sym w.split) (In-right e gone w.rest (subst (λ l. In e l) (sym h.is) here))

  -- it isn't gone
  head_not_gone : (m : List ℕ) (head e : ℕ) (gone : List ℕ) → (w : Swept s mid.start.externals.listed m1 m head e gone) → (h : Head s.memory e w.rest) → In e gone → ⊥
  head_not_gone m head e gone w h i =
      let split : mid.start.externals.listed ≡ gone ++ (e ∷ h.rest) = w.split ∙ ap (λ l. gone ++ l) h.is in
      let all : occ e mid.start.externals.listed ≡ occ e gone + occ e (e ∷ h.rest) = ap (occ e) split ∙ occ-append e gone (e ∷ h.rest) in
      omega (arith, all, mid.start.externals.once e, In-occ e gone i, occ-same e h.rest)

  split_after : (m : List ℕ) (head e : ℕ) (gone : List ℕ) → (w : Swept s mid.start.externals.listed m1 m head e gone) → (h : Head s.memory e w.rest)
      → mid.start.externals.listed ≡ (gone ++ (e ∷ [])) ++ h.rest
  split_after m head e gone w h = w.split ∙ ap (λ l. gone ++ l) h.is ∙ sym (append_assoc gone (e ∷ []) h.rest)

  -- its words are as they were at the start
  pub next_is : (m : List ℕ) (head e : ℕ) (gone : List ℕ) → (w : Swept s mid.start.externals.listed m1 m head e gone) → (h : Head s.memory e w.rest)
      → (next_external m e ≡ next_external s.memory e) × (copying_host_word m e ≡ copying_host_word s.memory e) × (flag m e ≡ flag m1 e) × (forwarding m e ≡ forwarding m1 e)
  next_is m head e gone w h =
      let is = mid.start.externals.only e (head_listed m head e gone w h) in
      let long = mid.start.external_size e is.0 is.1 in
      let tail = mid.tail e is.0 in
      let zero_e : e + 0 ≡ e = omega arith in (
        old_word m head e gone w e 20 is.0 (omega arith) ∙ word_in_same s.memory m1 (e + 20) (SameBytes-part tail (e + 20) (e + 20 + 4) (omega arith) (omega arith)),
        old_word m head e gone w e 16 is.0 (omega arith) ∙ word_in_same s.memory m1 (e + 16) (SameBytes-part tail (e + 16) (e + 16 + 4) (omega arith) (omega arith)),
        ap (λ k. k / copied_unit % 2) (sym (ap (word m) zero_e) ∙ old_word m head e gone w e 0 is.0 (omega arith) ∙ ap (word m1) zero_e),
        old_word m head e gone w e 12 is.0 (omega arith),
      )

  -- where a copy is, it leads there
  pub head_leads : (m : List ℕ) (head e : ℕ) (gone : List ℕ) → (w : Swept s mid.start.externals.listed m1 m head e gone) → (h : Head s.memory e w.rest) → flag m e ≡ 1 → IsCopiedTo s m1 e (forwarding m e)
  head_leads m head e gone w h one =
      let n = next_is m head e gone w h in
      let is = mid.start.externals.only e (head_listed m head e gone w h) in
      record { place = is.0; flagged = sym n.2 ∙ one; to = sym n.3 }

  -- it may be swept
  pub head_can : (m : List ℕ) (head e : ℕ) (gone : List ℕ) → (w : Swept s mid.start.externals.listed m1 m head e gone) → (e ≡ 0 → ⊥) → CanSweepExternal m e
  head_can m head e gone w ne =
      let h = at_head m head e gone w ne in
      let listed = head_listed m head e gone w h in
      let is = mid.start.externals.only e listed in
      let long = mid.start.external_size e is.0 is.1 in
      let at = lies mid e is.0 in
      record {
        source = omega (arith, at.to, mid.start.inside, mid.same_length, w.same_length);
        copy = λ one.
            let leads = head_leads m head e gone w h one in
            let there_is = new_lies mid (forwarding m e) (mid.copied e (forwarding m e) leads).inside in
            omega (arith, there_is.to, copy_long e (forwarding m e) leads listed, mid.room, mid.inside, w.same_length);
      }

  -- one that was not copied is gone
  pub swept_freed : (m m' : List ℕ) (head head' e next : ℕ) (gone : List ℕ) → (w : Swept s mid.start.externals.listed m1 m head e gone) → (e ≡ 0 → ⊥) → flag m e ≡ 0 → m' ≡ m → head' ≡ head
      → next ≡ next_external m e → Swept s mid.start.externals.listed m1 m' head' next (gone ++ (e ∷ []))
  swept_freed m m' head head' e next gone w ne clear same_memory same_head next_read =
      let h = at_head m head e gone w ne in
      let n = next_is m head e gone w h in
      subst (λ l. Swept s mid.start.externals.listed m1 l head' next (gone ++ (e ∷ []))) (sym same_memory)
      (subst (λ (x : ℕ). Swept s mid.start.externals.listed m1 m x next (gone ++ (e ∷ []))) (sym same_head)
      (subst (λ (x : ℕ). Swept s mid.start.externals.listed m1 m head x (gone ++ (e ∷ []))) (sym (next_read ∙ n.0)) (record {
        rest = h.rest;
        made = w.made;
        split = split_after m head e gone w h;
        linked = h.linked;
        same_length = w.same_length;
        made_linked = w.made_linked;
        made_only = λ q i. let b = w.made_only q i in (b.0, (In-left b.0 gone (e ∷ []) b.1.0, b.1.1));
        made_all = λ p q i leads. elim (In-split p gone (e ∷ []) i) [
          | inl j ↦ w.made_all p q j leads
          | inr j ↦ absurd (no_both (sym n.2 ∙ clear) (ap (flag m1) (sym (In-one p e j)) ∙ leads.flagged))
        ];
        once = w.once;
        same = w.same;
      })))

  -- its copy is not listed yet
  new_in_list : (m : List ℕ) (head e : ℕ) (gone : List ℕ) → (w : Swept s mid.start.externals.listed m1 m head e gone) → (h : Head s.memory e w.rest) → (q : ℕ) → IsCopiedTo s m1 e q → In q w.made → ⊥
  new_in_list m head e gone w h q leads i =
      let b = w.made_only q i in
      let one : b.0 ≡ e = mid.once b.0 e q b.1.1 leads in
      head_not_gone m head e gone w h (subst (λ (x : ℕ). In x gone) one b.1.0)

  made_only_after : (m : List ℕ) (e q x : ℕ) (gone made : List ℕ) → IsCopiedTo s m1 e q → ((y : ℕ) → In y made → (p : ℕ) × (In p gone × IsCopiedTo s m1 p y))
      → In x (q ∷ made) → (p : ℕ) × (In p (gone ++ (e ∷ [])) × IsCopiedTo s m1 p x)
  made_only_after m e _ _ gone made leads only here = (e, (In-right e gone (e ∷ []) here, leads))
  made_only_after m e q x gone made leads only (there i) = let b = only x i in (b.0, (In-left b.0 gone (e ∷ []) b.1.0, b.1.1))

  -- one that was copied is listed anew
  pub swept_listed : (m m' : List ℕ) (head head' e next : ℕ) (gone : List ℕ) → (w : Swept s mid.start.externals.listed m1 m head e gone) → (e ≡ 0 → ⊥) → flag m e ≡ 1
      → m' ≡ put_u32 m (forwarding m e + 20) head → head' ≡ forwarding m e → next ≡ next_external m e → Swept s mid.start.externals.listed m1 m' head' next (gone ++ (e ∷ []))
  swept_listed m m' head head' e next gone w ne one written head_is next_read =
      let h = at_head m head e gone w ne in
      let n = next_is m head e gone w h in
      let q = forwarding m e in
      let leads : IsCopiedTo s m1 e q = head_leads m head e gone w h one in
      let inside : In q mid.news = (mid.copied e q leads).inside in
      let at = new_lies mid q inside in
      let long : 32 ≤ copying_size_at m1 q = copy_long e q leads (head_listed m head e gone w h) in
      let bounds : q + 24 ≤ length m = omega (arith, at.to, long, mid.room, mid.inside, w.same_length) in
      let small : length m < 2 ^ 32 = omega (arith, w.same_length, mid.same_length, mid.start.small) in
      let wrote : Wrote m m' (q + 20) 4 = wrote_word m m' (q + 20) head (omega arith) written in
      let head_small : head < 2 ^ 32 = elim (linked_first m w.made head w.made_linked) [
        | inl z ↦ omega arith
        | inr i ↦ (let made = made_is m head e gone w head i in omega (arith, made.to, made.long, mid.room, mid.inside, w.same_length))
      ] in
      let link_is : next_external m' q ≡ head = word_written m m' (q + 20) head (omega arith) head_small written in
      let positive : 0 < q = omega (arith, at.from, at.to, at.least, mid.room, mid.low (omega (arith, at.to, at.least, mid.room))) in
      let old_links = λ (x : ℕ) (i : In x w.made).
      let made = made_is m head e gone w x i in
      let differs = λ (z : x ≡ q). new_in_list m head e gone w h q leads (subst (λ (y : ℕ). In y w.made) z i) in
      word_apart wrote (x + 20) (elim (new_apart mid q x inside made.inside differs) [
        | inl a ↦ inl (omega (arith, made.long))
        | inr a ↦ inr (omega arith)
      ]) in
      subst (λ (x : ℕ). Swept s mid.start.externals.listed m1 m' x next (gone ++ (e ∷ []))) (sym head_is)
      (subst (λ (x : ℕ). Swept s mid.start.externals.listed m1 m' q x (gone ++ (e ∷ []))) (sym (next_read ∙ n.0)) (record {
        rest = h.rest;
        made = q ∷ w.made;
        split = split_after m head e gone w h;
        linked = h.linked;
        same_length = wrote.same_length ∙ w.same_length;
        made_linked = link positive (subst (λ (x : ℕ). NextExternals m' x w.made) (sym link_is) (linked_same m m' w.made head w.made_linked old_links));
        made_only = λ x i. made_only_after m e q x gone w.made leads w.made_only i;
        made_all = λ p x i l. elim (In-split p gone (e ∷ []) i) [
          | inl j ↦ there (w.made_all p x j l)
          | inr j ↦
              let same : x ≡ q = sym l.to ∙ ap (forwarding m1) (In-one p e j) ∙ leads.to in
              subst (λ (y : ℕ). In y (q ∷ w.made)) (sym same) here
        ];
        once = λ x. elim (cases_eq x q) [
          | inl z ↦
              let first : occ q (q ∷ w.made) ≡ 1 + occ q w.made = occ-same q w.made in
              let no_more : occ q w.made ≡ 0 = occ-none q w.made (λ i. new_in_list m head e gone w h q leads i) in
              subst (λ (y : ℕ). occ y (q ∷ w.made) ≤ 1) (sym z) (omega (arith, first, no_more))
          | inr nz ↦ omega (arith, occ-other x q w.made nz, w.once x)
        ];
        same = λ j d no_link. elim (no_link q here) [
          | inl a ↦ wrote.below j d a ∙ w.same j d (λ x i. no_link x (there i))
          | inr a ↦ wrote.above j d (omega arith) ∙ w.same j d (λ x i. no_link x (there i))
        ];
      }))

  -- at first none is swept
  pub swept_start : (first : ℕ) → first ≡ s.externals → Swept s mid.start.externals.listed m1 m1 0 first []
  swept_start first is = record {
    rest = mid.start.externals.listed;
    made = [];
    split = refl;
    linked = subst (λ (x : ℕ). NextExternals s.memory x mid.start.externals.listed) (sym is) mid.start.externals.linked;
    same_length = refl;
    made_linked = none;
    made_only = λ q i. elim i [ ];
    made_all = λ p q i l. elim i [ ];
    once = λ q. omega arith;
    same = λ j d h. refl;
  }

  -- the host value of one that was not copied is freed
  pub hosts_freed : (D : Type 0) (m : List ℕ) (head e : ℕ) (old now now' : finite.FinMap nat_cmp D) (gone : List ℕ) → (w : Swept s mid.start.externals.listed m1 m head e gone) → (e ≡ 0 → ⊥)
      → flag m e ≡ 0 → HostsGone s D m1 gone old now → FreesHost D now now' (copying_host_word m e) → HostsGone s D m1 (gone ++ (e ∷ [])) old now'
  hosts_freed D m head e old now now' gone w ne clear so_far frees =
      let h = at_head m head e gone w ne in
      let n = next_is m head e gone w h in
      let is = mid.start.externals.only e (head_listed m head e gone w h) in
      let clear1 : flag m1 e ≡ 0 = sym n.2 ∙ clear in
      record {
        lost = λ p i f. elim (In-split p gone (e ∷ []) i) [
          | inl j ↦ part_none now' now (copying_host_word s.memory p - 1) frees.part (so_far.lost p j f)
          | inr j ↦
              let at : copying_host_word m e ≡ copying_host_word s.memory p = n.1 ∙ ap (copying_host_word s.memory) (sym (In-one p e j)) in
              let is_host : IsHostWord (copying_host_word m e) = subst (λ (x : ℕ). IsHostWord x) (sym n.1) (mid.start.hosts e is.0 is.1) in
              ap (λ (x : ℕ). finite.get now' (x - 1)) (sym at) ∙ frees.lost is_host
        ];
        kept = λ id none_has.
            frees.others id (λ z. none_has e (In-right e gone (e ∷ []) here) clear1 (sym n.1 ∙ z))
            ∙ so_far.kept id (λ p i f z. none_has p (In-left p gone (e ∷ []) i) f z);
        part = λ id value found. so_far.part id value (frees.part id value found);
      }

  -- that of one that was copied stays
  pub hosts_listed : (D : Type 0) (m : List ℕ) (head e : ℕ) (old now now' : finite.FinMap nat_cmp D) (gone : List ℕ) → (w : Swept s mid.start.externals.listed m1 m head e gone) → (e ≡ 0 → ⊥)
      → flag m e ≡ 1 → HostsGone s D m1 gone old now → now' ≡ now → HostsGone s D m1 (gone ++ (e ∷ [])) old now'
  hosts_listed D m head e old now now' gone w ne one so_far same =
      let h = at_head m head e gone w ne in
      let n = next_is m head e gone w h in
      subst (λ k. HostsGone s D m1 (gone ++ (e ∷ [])) old k) (sym same) (record {
        lost = λ p i f. elim (In-split p gone (e ∷ []) i) [
          | inl j ↦ so_far.lost p j f
          | inr j ↦ absurd (no_both (sym (ap (flag m1) (In-one p e j)) ∙ f) (sym n.2 ∙ one))
        ];
        kept = λ id none_has. so_far.kept id (λ p i f z. none_has p (In-left p gone (e ∷ []) i) f z);
        part = so_far.part;
      })

  -- the links that are left are there now
  pub rest_linked : (m : List ℕ) (head e : ℕ) (gone : List ℕ) → (w : Swept s mid.start.externals.listed m1 m head e gone) → NextExternals m e w.rest
  rest_linked m head e gone w = linked_same s.memory m w.rest e w.linked (λ p i.
      let listed : In p mid.start.externals.listed = subst (λ l. In p l) (sym w.split) (In-right p gone w.rest i) in
      let is = mid.start.externals.only p listed in
      let long = mid.start.external_size p is.0 is.1 in
      old_word m head e gone w p 20 is.0 (omega arith)
      ∙ word_in_same s.memory m1 (p + 20) (SameBytes-part (mid.tail p is.0) (p + 20) (p + 20 + 4) (omega arith) (omega arith)))

  -- they are few
  pub rest_few : (m : List ℕ) (head e : ℕ) (gone : List ℕ) → (w : Swept s mid.start.externals.listed m1 m head e gone) → length w.rest ≤ length m
  rest_few m head e gone w =
      let all = few mid.start.externals.listed s.places (λ p i. Chain-once (copying_size_at s.memory) s.first s.end p s.places mid.start.chain (mid.start.externals.only p i).0) mid.start.externals.once in
      let split : length mid.start.externals.listed ≡ length gone + length w.rest = ap (λ (l : List ℕ). length l) w.split ∙ length-append gone w.rest in
      let places = Chain-length (copying_size_at s.memory) s.first s.end s.places mid.start.chain in
      omega (arith, all, split, places, mid.start.inside, mid.same_length, w.same_length)

  pub links_left : (m : List ℕ) (head e : ℕ) (gone : List ℕ) → (w : Swept s mid.start.externals.listed m1 m head e gone) → count_links (length m) m e ≡ length w.rest
  links_left m head e gone w = linked_count (length m) m w.rest e (rest_linked m head e gone w) (rest_few m head e gone w)

  -- after one more there are fewer
  pub links_less : (m m' : List ℕ) (head head' e next : ℕ) (gone : List ℕ) → (w : Swept s mid.start.externals.listed m1 m head e gone)
      → (w' : Swept s mid.start.externals.listed m1 m' head' next (gone ++ (e ∷ []))) → count_links (length m') m' next < count_links (length m) m e
  links_less m m' head head' e next gone w w' =
      let one : length mid.start.externals.listed ≡ length gone + length w.rest = ap (λ (l : List ℕ). length l) w.split ∙ length-append gone w.rest in
      let two : length mid.start.externals.listed ≡ length (gone ++ (e ∷ [])) + length w'.rest = ap (λ (l : List ℕ). length l) w'.split ∙ length-append (gone ++ (e ∷ [])) w'.rest in
      let three : length (gone ++ (e ∷ [])) ≡ length gone + 1 = length-append gone (e ∷ []) in
      omega (arith, one, two, three, links_left m head e gone w, links_left m' head' next (gone ++ (e ∷ [])) w')

  -- all of the list is gone at the end
  all_gone : (m : List ℕ) (head : ℕ) (gone : List ℕ) → (w : Swept s mid.start.externals.listed m1 m head 0 gone) → (p : ℕ) → In p mid.start.externals.listed → In p gone
  all_gone m head gone w p i =
      let empty : w.rest ≡ [] = linked_none s.memory w.rest w.linked in
      elim (In-split p gone w.rest (subst (λ l. In p l) w.split i)) [
        | inl j ↦ j
        | inr j ↦ absurd (not_in_nil p (subst (λ l. In p l) empty j))
      ]

-- The whole list is swept.
pub sweeps : (s : From) (D : Type 0) (old new : Space) (e : ℕ) (before after : finite.FinMap nat_cmp D) (gone : List ℕ) → (mid : Midway s old.bump old)
    → (w : Swept s mid.start.externals.listed old.memory new.memory new.externals e gone) → e ≡ 0 → HostsGone s D old.memory gone before after
    → Sweeps s D old new before after
sweeps s D old new e before after gone mid w0 null hosts =
    let w : Swept s mid.start.externals.listed old.memory new.memory new.externals 0 gone =
    subst (λ (x : ℕ). Swept s mid.start.externals.listed old.memory new.memory new.externals x gone) null w0 in
    let base = half_first (length old.memory) old.upper in
    let limit = half_end (length old.memory) old.upper in
    let all = λ (p : ℕ) (i : In p s.places) (x : IsCopyingExternal s.memory p).
    all_gone s old.memory base old.bump limit old.objects mid new.memory new.externals gone w p (mid.start.externals.all p i x) in
    record {
      same_length = w.same_length;
      listed = w.made;
      linked = w.made_linked;
      only = λ q i.
          let b = w.made_only q i in
          (b.0, ((mid.start.externals.only b.0 (subst (λ l. In b.0 l) (sym w.split) (In-left b.0 gone w.rest b.1.0))).1, b.1.1));
      all = λ p q x leads. w.made_all p q (all p leads.place x) leads;
      once = w.once;
      rest = w.same;
      lost = λ p i x clear. hosts.lost p (all p i x) clear;
      kept = λ id none_has. hosts.kept id (λ p i clear z.
          let is = mid.start.externals.only p (subst (λ l. In p l) (sym w.split) (In-left p gone w.rest i)) in
          none_has p is.0 is.1 clear z);
      part = hosts.part;
    }

-- The list was swept up to a place.
pub record SweptTo (s : From) (D : Type 0) (old now : Space) (mid : Midway s old.bump old) (e : ℕ) (before after : finite.FinMap nat_cmp D) : Type 0 where
  pub gone : List ℕ
  pub swept : Swept s mid.start.externals.listed old.memory now.memory now.externals e gone
  pub hosts : HostsGone s D old.memory gone before after

-- at first none of it
pub swept_to_start : (s : From) (D : Type 0) (old : Space) (mid : Midway s old.bump old) (first : ℕ) (hosts : finite.FinMap nat_cmp D) → first ≡ s.externals → old.externals ≡ 0
    → SweptTo s D old old mid first hosts hosts
swept_to_start s D old mid first hosts is no_head = record {
  gone = [];
  swept = subst (λ (x : ℕ). Swept s mid.start.externals.listed old.memory old.memory x first []) (sym no_head)
      (swept_start s old.memory (half_first (length old.memory) old.upper) old.bump (half_end (length old.memory) old.upper) old.objects mid first is);
  hosts = record { lost = λ p i f. elim i [ ]; kept = λ id h. refl; part = λ id value found. found };
}

-- one more is swept
swept_more : (s : From) (D : Type 0) (old now next : Space) (mid : Midway s old.bump old) (e n : ℕ) (before after after' : finite.FinMap nat_cmp D)
    → (to : SweptTo s D old now mid e before after) → (e ≡ 0 → ⊥) → n ≡ u32_at now.memory (e + 20)
    → (flag now.memory e ≡ 1 → ListsCopy now next e × (after' ≡ after))
    → (flag now.memory e ≡ 0 → FreesHost D after after' (copying_host_word now.memory e) × ((next.memory ≡ now.memory) × (next.externals ≡ now.externals)))
    → Swept s mid.start.externals.listed old.memory next.memory next.externals n (to.gone ++ (e ∷ [])) × HostsGone s D old.memory (to.gone ++ (e ∷ [])) before after'
swept_more s D old now next mid e n before after after' to ne read listed freed =
    let base = half_first (length old.memory) old.upper in
    let limit = half_end (length old.memory) old.upper in
    let is : n ≡ next_external now.memory e = read ∙ sym (word-is now.memory (e + 20)) in
    elim (flag_cases now.memory e) [
      | inl one ↦
          let l = listed one in (
            swept_listed s old.memory base old.bump limit old.objects mid now.memory next.memory now.externals next.externals e n to.gone to.swept ne one l.0.memory l.0.head is,
            hosts_listed s old.memory base old.bump limit old.objects mid D now.memory now.externals e before after after' to.gone to.swept ne one to.hosts l.1,
          )
      | inr clear ↦
          let f = freed clear in (
            swept_freed s old.memory base old.bump limit old.objects mid now.memory next.memory now.externals next.externals e n to.gone to.swept ne clear f.1.0 f.1.1 is,
            hosts_freed s old.memory base old.bump limit old.objects mid D now.memory now.externals e before after after' to.gone to.swept ne clear to.hosts f.0,
          )
    ]

pub swept_next : (s : From) (D : Type 0) (old now next : Space) (mid : Midway s old.bump old) (e n : ℕ) (before after after' : finite.FinMap nat_cmp D)
    → (to : SweptTo s D old now mid e before after) → (e ≡ 0 → ⊥) → n ≡ u32_at now.memory (e + 20)
    → (flag now.memory e ≡ 1 → ListsCopy now next e × (after' ≡ after))
    → (flag now.memory e ≡ 0 → FreesHost D after after' (copying_host_word now.memory e) × ((next.memory ≡ now.memory) × (next.externals ≡ now.externals)))
    → SweptTo s D old next mid n before after'
swept_next s D old now next mid e n before after after' to ne read listed freed =
    let more = swept_more s D old now next mid e n before after after' to ne read listed freed in
    record { gone = to.gone ++ (e ∷ []); swept = more.0; hosts = more.1 }

pub swept_less : (s : From) (D : Type 0) (old now next : Space) (mid : Midway s old.bump old) (e n : ℕ) (before after after' : finite.FinMap nat_cmp D)
    → (to : SweptTo s D old now mid e before after) → (e ≡ 0 → ⊥) → n ≡ u32_at now.memory (e + 20)
    → (flag now.memory e ≡ 1 → ListsCopy now next e × (after' ≡ after))
    → (flag now.memory e ≡ 0 → FreesHost D after after' (copying_host_word now.memory e) × ((next.memory ≡ now.memory) × (next.externals ≡ now.externals)))
    → count_links (length next.memory) next.memory n < count_links (length now.memory) now.memory e
swept_less s D old now next mid e n before after after' to ne read listed freed =
    let more = swept_more s D old now next mid e n before after after' to ne read listed freed in
    links_less s old.memory (half_first (length old.memory) old.upper) old.bump (half_end (length old.memory) old.upper) old.objects mid
    now.memory next.memory now.externals next.externals e n to.gone to.swept more.0

pub swept_can : (s : From) (D : Type 0) (old now : Space) (mid : Midway s old.bump old) (e : ℕ) (before after : finite.FinMap nat_cmp D)
    → (to : SweptTo s D old now mid e before after) → (e ≡ 0 → ⊥) → CanSweepExternal now.memory e
swept_can s D old now mid e before after to ne =
    head_can s old.memory (half_first (length old.memory) old.upper) old.bump (half_end (length old.memory) old.upper) old.objects mid now.memory now.externals e to.gone to.swept ne
