-- A collection may begin after a root was added, taken away or shown, and after the barrier of it.
use Rattle.std.proofs.Common.{◌≡◌, ◌≢◌, ℕ, ◌+◌, ◌%◌, ◌<◌, ◌⊎◌, inl, inr, Bool, true, false, cond, ◌||◌, List, [], ◌∷◌, ◌++◌, map, filter, Option, Some, None, Contains, IsSome, refl, sym, ap, ◌∙◌, subst, arith}
use Rattle.std.specs.FinMap.{get}
use Rattle.std.specs.FinSet as finset
use Rattle.std.specs.Cmp.{nat_cmp_total, unsigned_tied}
use Rattle.std.specs.Ordering.{nat_cmp, eq_by_cmp}
use Rattle.std.proofs.lemmas.Option.{none-some}
use Rattle.std.proofs.lemmas.Bool.{eq-eqb}
use Rattle.std.proofs.lemmas.List.Elements.{Contains-append_cases, Contains-append_left, Contains-append_right}
use Rattle.gc_types.specs.declared.kind.Layouts.{Layouts}
use Rattle.gc_types.specs.declared.kind.Layouts.TheVariants.{Null, Counting, Copying}
use Rattle.gc_types.specs.Declarations.{Declaration}
use Rattle.gc_roots.specs.Roots.{Root}
use Rattle.gc_view.specs.Heaps.{HeapView, Counts}
use Rattle.gc_heap.specs.References.{references}
use Rattle.gc_heap.specs.Content.{total, IsHeap}
use Rattle.gc_heap.specs.Barriers.{raise, lower, show, cloned, dropped, exposed}
use Rattle.gc_heap.specs.Collection.{CanCollect, CountsExact, AreCounted, IsWordOf, names_of, occurrences, stack_words}
use Rattle.gc_memory.proofs.ListLemmas.{only_item}
use Rattle.gc_heap.proofs.AddedLemmas.{start}
use Rattle.gc_heap.proofs.MadeLemmas.{counted_place, uncounted}
use Rattle.gc_heap.proofs.CountLemmas.{raise_are, lower_are, show_are, raise_shown, lower_shown, root_names, held_one, stack_one, held-between, words-append, never}

-- The roots and counts may change as long as the roots name held objects and the counts are theirs.
pub can_collect_roots : (layouts : Layouts) (types : List Declaration) (h : HeapView) (c : Counts) (roots roots' : List Root) (hosts : ℕ → Bool) → CanCollect layouts (start h roots types hosts)
    → ((r : Root) → Contains roots' r → IsWordOf h r.word) → AreCounted layouts types (record h { counts = c }) roots' → CanCollect layouts (start (record h { counts = c }) roots' types hosts)
can_collect_roots layouts types h c roots roots' hosts can words counted = record {
  attached = can.attached;
  open_scopes = can.open_scopes;
  roots = words;
  fields = can.fields;
  typed = can.typed;
  hosts = λ q x is. can.hosts q x (record { held = is.held; kind = is.kind });
  own_hosts = λ p q x y is is' same. can.own_hosts p q x y (record { held = is.held; kind = is.kind }) (record { held = is'.held; kind = is'.kind }) same;
  counts = counted;
}

-- a root between others
among_others : (before : List Root) (r : Root) (behind : List Root) (x : Root) → Contains (before ++ behind) x → Contains (before ++ r ∷ behind) x
among_others before r behind x h = elim (Contains-append_cases before behind x h) [
  | inl was ↦ Contains-append_left before (r ∷ behind) x was
  | inr is ↦ Contains-append_right before (r ∷ behind) x (Contains-append_right (r ∷ []) behind x is)
]

pub one_or_other : (before : List Root) (r : Root) (behind : List Root) (x : Root) → Contains (before ++ r ∷ behind) x → (r ≡ x) ⊎ Contains (before ++ behind) x
one_or_other before r behind x h = elim (Contains-append_cases before (r ∷ behind) x h) [
  | inl was ↦ inr (Contains-append_left before behind x was)
  | inr is ↦ elim (Contains-append_cases (r ∷ []) behind x is) [
    | inl one ↦ inl (only_item r x one)
    | inr later ↦ inr (Contains-append_right before behind x later)
  ]
]

pub is_among : (before : List Root) (r : Root) (behind : List Root) → Contains (before ++ r ∷ behind) r
is_among before r behind = Contains-append_right before (r ∷ behind) r (0, omega arith, refl)

words_with : (h : HeapView) (before : List Root) (r : Root) (behind : List Root) → ((x : Root) → Contains (before ++ behind) x → IsWordOf h x.word) → IsWordOf h r.word → (x : Root) → Contains (before ++ r ∷ behind) x → IsWordOf h x.word
words_with h before r behind words word x among = elim (one_or_other before r behind x among) [
  | inl is ↦ subst (λ (x : Root). IsWordOf h x.word) is word
  | inr other ↦ words x other
]

-- the words of frame slots, without a root that is none
stack_skip : (before : List Root) (r : Root) (behind : List Root) → r.on_stack ≡ false → stack_words (before ++ r ∷ behind) ≡ stack_words (before ++ behind)
stack_skip before r behind is =
    words-append (λ (r : Root). r.on_stack) before (r ∷ behind)
    ∙ ap (λ b. stack_words before ++ map (λ (r : Root). r.word) (cond b (r ∷ filter (λ (r : Root). r.on_stack) behind) (filter (λ (r : Root). r.on_stack) behind))) is
    ∙ sym (words-append (λ (r : Root). r.on_stack) before behind)

stack_with : (before : List Root) (r : Root) (behind : List Root) → r.on_stack ≡ true → stack_words (before ++ r ∷ behind) ≡ stack_words before ++ r.word ∷ stack_words behind
stack_with before r behind is =
    words-append (λ (r : Root). r.on_stack) before (r ∷ behind)
    ∙ ap (λ b. stack_words before ++ map (λ (r : Root). r.word) (cond b (r ∷ filter (λ (r : Root). r.on_stack) behind) (filter (λ (r : Root). r.on_stack) behind))) is

stack_cases : (before : List Root) (r : Root) (behind : List Root) (w : ℕ) → r.on_stack ≡ true → Contains (stack_words (before ++ r ∷ behind)) w → (r.word ≡ w) ⊎ Contains (stack_words (before ++ behind)) w
stack_cases before r behind w is h = elim (Contains-append_cases (stack_words before) (r.word ∷ stack_words behind) w (subst (λ ws. Contains ws w) (stack_with before r behind is) h)) [
  | inl was ↦ inr (subst (λ ws. Contains ws w) (sym both) (Contains-append_left (stack_words before) (stack_words behind) w was))
  | inr here ↦ elim (Contains-append_cases (r.word ∷ []) (stack_words behind) w here) [
    | inl one ↦ inl (only_item r.word w one)
    | inr later ↦ inr (subst (λ ws. Contains ws w) (sym both) (Contains-append_right (stack_words before) (stack_words behind) w later))
  ]
]
  where
    both : stack_words (before ++ behind) ≡ stack_words before ++ stack_words behind
    both = words-append (λ (r : Root). r.on_stack) before behind

stack_more : (before : List Root) (r : Root) (behind : List Root) (w : ℕ) → r.on_stack ≡ true → Contains (stack_words (before ++ behind)) w → Contains (stack_words (before ++ r ∷ behind)) w
stack_more before r behind w is h =
    subst (λ ws. Contains ws w) (sym (stack_with before r behind is))
    (elim (Contains-append_cases (stack_words before) (stack_words behind) w (subst (λ ws. Contains ws w) (words-append (λ (r : Root). r.on_stack) before behind) h)) [
      | inl was ↦ Contains-append_left (stack_words before) (r.word ∷ stack_words behind) w was
      | inr later ↦ Contains-append_right (stack_words before) (r.word ∷ stack_words behind) w (Contains-append_right (r.word ∷ []) (stack_words behind) w later)
    ])

module _ (types : List Declaration) (h : HeapView) (before : List Root) (r : Root) (behind : List Root) where
  names_with : (q : ℕ) → names_of Counting types h (before ++ r ∷ behind) q ≡ names_of Counting types h (before ++ behind) q + root_names q r
  names_with q =
      let held = held-between q before r behind in
      let fields : ℕ = total (λ o. occurrences q (references Counting types o)) h.content in
      omega arith

  held_names : r.on_stack ≡ false → (q : ℕ) → names_of Counting types h (before ++ r ∷ behind) q ≡ names_of Counting types h (before ++ behind) q + occurrences q (r.word ∷ [])
  held_names is q = names_with q ∙ ap (λ n. names_of Counting types h (before ++ behind) q + n) (held_one q r is)

  stack_names : r.on_stack ≡ true → (q : ℕ) → names_of Counting types h (before ++ r ∷ behind) q ≡ names_of Counting types h (before ++ behind) q
  stack_names is q = names_with q ∙ ap (λ n. names_of Counting types h (before ++ behind) q + n) (stack_one q r is) ∙ omega arith

  cloned_exact : r.on_stack ≡ false → CountsExact types h (before ++ behind) → CountsExact types (cloned h r.word) (before ++ r ∷ behind)
  cloned_exact is exact = record {
    counted = raise_are h.counts r.word (names_of Counting types h (before ++ behind)) (names_of Counting types h (before ++ r ∷ behind)) exact.counted (held_names is);
    shown = λ q held among.
        ap (λ s. finset.contains s q) (raise_shown (get h.counts.counted r.word) r.word h.counts)
        ∙ exact.shown q (held.0, held.1) (subst (λ ws. Contains ws q) (stack_skip before r behind is) among);
  }

  dropped_exact : r.on_stack ≡ false → CountsExact types h (before ++ r ∷ behind) → CountsExact types (dropped h r.word) (before ++ behind)
  dropped_exact is exact = record {
    counted = lower_are h.counts r.word (names_of Counting types h (before ++ r ∷ behind)) (names_of Counting types h (before ++ behind)) exact.counted (held_names is);
    shown = λ q held among.
        ap (λ s. finset.contains s q) (lower_shown (get h.counts.counted r.word) r.word h.counts)
        ∙ exact.shown q (held.0, held.1) (subst (λ ws. Contains ws q) (sym (stack_skip before r behind is)) among);
  }

  unstacked_exact : r.on_stack ≡ true → CountsExact types h (before ++ r ∷ behind) → CountsExact types h (before ++ behind)
  unstacked_exact is exact = record {
    counted = λ q n at. exact.counted q n at ∙ stack_names is q;
    shown = λ q held among. exact.shown q held (stack_more before r behind q is among);
  }

-- The word names no object: it is null or a 31-bit number.
abbrev pub IsNoPlace : ℕ → Type 0
IsNoPlace word = (word ≡ 0) ⊎ (word % 2 ≡ 1)

no_place : (q word : ℕ) → IsNoPlace word → q % 2 ≡ 0 → 0 < q → q ≢ word
no_place q word (inl null) even above e = omega arith
no_place q word (inr odd) even above e = omega arith

-- what is shown stays shown, and the word that is shown is
show_keeps : (at : Option ℕ) (w : ℕ) (c : Counts) (q : ℕ) → finset.contains c.shown q ≡ true → finset.contains (show at w c).shown q ≡ true
show_keeps None w c q is = is
show_keeps (Some n) w c q is = finset.contains-insert nat_cmp_total c.shown w q ∙ ap (λ b. eq_by_cmp nat_cmp q w || b) is ∙ or_true (eq_by_cmp nat_cmp q w)
  where
    or_true : (b : Bool) → (b || true) ≡ true
    or_true true = refl
    or_true false = refl

show_has : (at : Option ℕ) (w n : ℕ) (c : Counts) → at ≡ Some n → finset.contains (show at w c).shown w ≡ true
show_has None w n c is = absurd (none-some n is)
show_has (Some m) w n c is = finset.contains-insert nat_cmp_total c.shown w w ∙ ap (λ b. b || finset.contains c.shown w) (unsigned_tied w w ∙ eq-eqb w w refl)

some_of : (at : Option ℕ) → IsSome at → (n : ℕ) × (at ≡ Some n)
some_of None is = absurd (cc)
some_of (Some n) is = (n, refl)

module _ (types : List Declaration) (h : HeapView) (before : List Root) (r r' : Root) (behind : List Root) (heap : IsHeap Counting h) where
  -- the list of shown words takes a name over
  exposed_exact : r.on_stack ≡ false → r'.on_stack ≡ true → r'.word ≡ r.word → CountsExact types h (before ++ r ∷ behind) → CountsExact types (exposed h r.word) (before ++ r' ∷ behind)
  exposed_exact is is' same exact = record {
    counted = show_are h.counts r.word (names_of Counting types h (before ++ r ∷ behind)) (names_of Counting types h (before ++ r' ∷ behind)) exact.counted (λ q.
        held_names types h before r behind is q ∙ ap (λ n. n + occurrences q (r.word ∷ [])) (sym (stack_names types h before r' behind is' q)));
    shown = λ q held among. elim (stack_cases before r' behind q is' among) [
      | inl at ↦
          let word : r.word ≡ q = sym same ∙ at in
          let count = some_of (get h.counts.counted r.word) ((heap.by_kind.0.counted r.word).0 (held.0, ap (get h.content) word ∙ held.1)) in
          ap (λ p. finset.contains (show (get h.counts.counted r.word) r.word h.counts).shown p) (sym word) ∙ show_has (get h.counts.counted r.word) r.word count.0 h.counts count.1
      | inr other ↦ show_keeps (get h.counts.counted r.word) r.word h.counts q (exact.shown q (held.0, held.1) (subst (λ ws. Contains ws q) (sym (stack_skip before r behind is)) other))
    ];
  }

  root_none : (q : ℕ) → q ≢ r.word → root_names q r ≡ 0
  root_none q ne = elim r.on_stack as (λ b. r.on_stack ≡ b → root_names q r ≡ 0) [
    | true ↦ λ is. stack_one q r is
    | false ↦ λ is. held_one q r is ∙ never q r.word ne
  ] refl

  number_names : IsNoPlace r.word → (q n : ℕ) → get h.counts.counted q ≡ Some n → names_of Counting types h (before ++ r ∷ behind) q ≡ names_of Counting types h (before ++ behind) q
  number_names word q n is =
      let place = counted_place h heap q n is in
      let none = root_none q (no_place q r.word word place.0 place.1) in
      let names = names_with types h before r behind q in
      omega arith

  number_exact : IsNoPlace r.word → CountsExact types h (before ++ behind) → CountsExact types h (before ++ r ∷ behind)
  number_exact word exact = record {
    counted = λ q n is. exact.counted q n is ∙ sym (number_names word q n is);
    shown = λ q held among. exact.shown q held (elim r.on_stack as (λ b. r.on_stack ≡ b → Contains (stack_words (before ++ behind)) q) [
      | true ↦ λ is. elim (stack_cases before r behind q is among) [
        | inl at ↦
            let lies = heap.objects q held.0 held.1 in
            let aligned : q % 16 ≡ 0 = lies.aligned in
            absurd (no_place q r.word word (omega arith) lies.not_null (sym at))
        | inr other ↦ other
      ]
      | false ↦ λ is. subst (λ ws. Contains ws q) (stack_skip before r behind is) among
    ] refl);
  }

  unnumbered_exact : IsNoPlace r.word → CountsExact types h (before ++ r ∷ behind) → CountsExact types h (before ++ behind)
  unnumbered_exact word exact = record {
    counted = λ q n is. exact.counted q n is ∙ number_names word q n is;
    shown = λ q held among. exact.shown q held (elim r.on_stack as (λ b. r.on_stack ≡ b → Contains (stack_words (before ++ r ∷ behind)) q) [
      | true ↦ λ is. stack_more before r behind q is among
      | false ↦ λ is. subst (λ ws. Contains ws q) (sym (stack_skip before r behind is)) among
    ] refl);
  }

cloned_counted : (layouts : Layouts) (types : List Declaration) (h : HeapView) (before : List Root) (r : Root) (behind : List Root) → r.on_stack ≡ false → AreCounted layouts types h (before ++ behind)
    → AreCounted layouts types (cloned h r.word) (before ++ r ∷ behind)
cloned_counted Null types h before r behind is exact = tt
cloned_counted Counting types h before r behind is exact = cloned_exact types h before r behind is exact
cloned_counted Copying types h before r behind is exact = tt

dropped_counted : (layouts : Layouts) (types : List Declaration) (h : HeapView) (before : List Root) (r : Root) (behind : List Root) → r.on_stack ≡ false → AreCounted layouts types h (before ++ r ∷ behind)
    → AreCounted layouts types (dropped h r.word) (before ++ behind)
dropped_counted Null types h before r behind is exact = tt
dropped_counted Counting types h before r behind is exact = dropped_exact types h before r behind is exact
dropped_counted Copying types h before r behind is exact = tt

unstacked_counted : (layouts : Layouts) (types : List Declaration) (h : HeapView) (before : List Root) (r : Root) (behind : List Root) → r.on_stack ≡ true → AreCounted layouts types h (before ++ r ∷ behind)
    → AreCounted layouts types h (before ++ behind)
unstacked_counted Null types h before r behind is exact = tt
unstacked_counted Counting types h before r behind is exact = unstacked_exact types h before r behind is exact
unstacked_counted Copying types h before r behind is exact = tt

exposed_counted : (layouts : Layouts) (types : List Declaration) (h : HeapView) (before : List Root) (r r' : Root) (behind : List Root) → IsHeap layouts h → r.on_stack ≡ false → r'.on_stack ≡ true → r'.word ≡ r.word
    → AreCounted layouts types h (before ++ r ∷ behind) → AreCounted layouts types (exposed h r.word) (before ++ r' ∷ behind)
exposed_counted Null types h before r r' behind heap is is' same exact = tt
exposed_counted Counting types h before r r' behind heap is is' same exact = exposed_exact types h before r r' behind heap is is' same exact
exposed_counted Copying types h before r r' behind heap is is' same exact = tt

number_counted : (layouts : Layouts) (types : List Declaration) (h : HeapView) (before : List Root) (r : Root) (behind : List Root) → IsHeap layouts h → IsNoPlace r.word → AreCounted layouts types h (before ++ behind)
    → AreCounted layouts types h (before ++ r ∷ behind)
number_counted Null types h before r behind heap word exact = tt
number_counted Counting types h before r behind heap word exact = number_exact types h before r r behind heap word exact
number_counted Copying types h before r behind heap word exact = tt

unnumbered_counted : (layouts : Layouts) (types : List Declaration) (h : HeapView) (before : List Root) (r : Root) (behind : List Root) → IsHeap layouts h → IsNoPlace r.word → AreCounted layouts types h (before ++ r ∷ behind)
    → AreCounted layouts types h (before ++ behind)
unnumbered_counted Null types h before r behind heap word exact = tt
unnumbered_counted Counting types h before r behind heap word exact = unnumbered_exact types h before r r behind heap word exact
unnumbered_counted Copying types h before r behind heap word exact = tt

word_no_place : (h : HeapView) (word : ℕ) → IsNoPlace word → IsWordOf h word
word_no_place h word (inl null) = inl null
word_no_place h word (inr odd) = inr (inl odd)

module _ (layouts : Layouts) (types : List Declaration) (h : HeapView) (before : List Root) (r : Root) (behind : List Root) (hosts : ℕ → Bool) where
  -- a root that is no frame slot is added, whose word was cloned
  pub can_collect_cloned : CanCollect layouts (start h (before ++ behind) types hosts) → r.on_stack ≡ false → IsWordOf h r.word → CanCollect layouts (start (cloned h r.word) (before ++ r ∷ behind) types hosts)
  can_collect_cloned can is word =
      can_collect_roots layouts types h (raise (get h.counts.counted r.word) r.word h.counts) (before ++ behind) (before ++ r ∷ behind) hosts can
      (words_with h before r behind can.roots word) (cloned_counted layouts types h before r behind is can.counts)

  -- a root that is no frame slot is taken away, and its word dropped
  pub can_collect_dropped : CanCollect layouts (start h (before ++ r ∷ behind) types hosts) → r.on_stack ≡ false → CanCollect layouts (start (dropped h r.word) (before ++ behind) types hosts)
  can_collect_dropped can is =
      can_collect_roots layouts types h (lower (get h.counts.counted r.word) r.word h.counts) (before ++ r ∷ behind) (before ++ behind) hosts can
      (λ x among. can.roots x (among_others before r behind x among)) (dropped_counted layouts types h before r behind is can.counts)

  -- a frame slot is taken away
  pub can_collect_unstacked : CanCollect layouts (start h (before ++ r ∷ behind) types hosts) → r.on_stack ≡ true → CanCollect layouts (start h (before ++ behind) types hosts)
  can_collect_unstacked can is =
      can_collect_roots layouts types h h.counts (before ++ r ∷ behind) (before ++ behind) hosts can
      (λ x among. can.roots x (among_others before r behind x among)) (unstacked_counted layouts types h before r behind is can.counts)

  -- a root whose word names no object is added, or taken away
  pub can_collect_number_root : IsHeap layouts h → CanCollect layouts (start h (before ++ behind) types hosts) → IsNoPlace r.word → CanCollect layouts (start h (before ++ r ∷ behind) types hosts)
  can_collect_number_root heap can word =
      can_collect_roots layouts types h h.counts (before ++ behind) (before ++ r ∷ behind) hosts can
      (words_with h before r behind can.roots (word_no_place h r.word word)) (number_counted layouts types h before r behind heap word can.counts)

  pub can_collect_no_number_root : IsHeap layouts h → CanCollect layouts (start h (before ++ r ∷ behind) types hosts) → IsNoPlace r.word → CanCollect layouts (start h (before ++ behind) types hosts)
  can_collect_no_number_root heap can word =
      can_collect_roots layouts types h h.counts (before ++ r ∷ behind) (before ++ behind) hosts can
      (λ x among. can.roots x (among_others before r behind x among)) (unnumbered_counted layouts types h before r behind heap word can.counts)

-- A root becomes a frame slot with the same word, which was exposed.
pub can_collect_exposed : (layouts : Layouts) (types : List Declaration) (h : HeapView) (before : List Root) (r r' : Root) (behind : List Root) (hosts : ℕ → Bool) → IsHeap layouts h
    → CanCollect layouts (start h (before ++ r ∷ behind) types hosts) → r.on_stack ≡ false → r'.on_stack ≡ true → r'.word ≡ r.word → CanCollect layouts (start (exposed h r.word) (before ++ r' ∷ behind) types hosts)
can_collect_exposed layouts types h before r r' behind hosts heap can is is' same =
    can_collect_roots layouts types h (show (get h.counts.counted r.word) r.word h.counts) (before ++ r ∷ behind) (before ++ r' ∷ behind) hosts can
    (words_with h before r' behind (λ x among. can.roots x (among_others before r behind x among)) (subst (IsWordOf h) (sym same) (can.roots r (is_among before r behind))))
    (exposed_counted layouts types h before r r' behind heap is is' same can.counts)

-- In a heap that doesn't count, any roots that name held objects may stand in the place of others.
pub can_collect_any_roots : (layouts : Layouts) (types : List Declaration) (h : HeapView) (roots roots' : List Root) (hosts : ℕ → Bool) → (layouts ≡ Counting → ⊥) → CanCollect layouts (start h roots types hosts)
    → ((r : Root) → Contains roots' r → IsWordOf h r.word) → CanCollect layouts (start h roots' types hosts)
can_collect_any_roots layouts types h roots roots' hosts other can words = can_collect_roots layouts types h h.counts roots roots' hosts can words (uncounted layouts types h roots' other)
