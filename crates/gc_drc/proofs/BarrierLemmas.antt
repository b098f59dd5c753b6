-- One name more, one less, and a word that is shown.
use Rattle.std.proofs.Common.{◌≡◌, ℕ, ◌+◌, ◌-◌, ◌/◌, ◌%◌, ◌<◌, ◌≤◌, ◌^◌, true, false, cond, List, ◌∷◌, length, refl, sym, ap, subst, ◌∙◌, inl, inr, arith}
use Rattle.std.specs.Prelude.{nat_eq}
use Rattle.std.proofs.lemmas.Bool.{cases_eq, cases_lt, ne_eqb, eq-eqb}
use Rattle.gc_memory.specs.Words.{word, put_u64}
use Rattle.gc_memory.specs.Lists.{In, here, there, occ}
use Rattle.gc_memory.proofs.ListLemmas.{In-occ, occ-same, occ-other}
use Rattle.gc_drc.specs.declared.space.CountedSpace.{CountedSpace}
use Rattle.gc_drc.specs.Layout.{count_at}
use Rattle.gc_drc.specs.View.{View, count_of, HoldsBlocks, IsPart, Linked, link}
use Rattle.gc_drc.specs.SpaceLaws.{lies}
use Rattle.gc_drc.specs.Operations.{Tends, SetsWords, counting_raised, counting_lowered, counting_exposed}
use Rattle.gc_drc.proofs.TendLemmas.{sets_nothing, sets_count, holds_tended, tended_links}

-- the memory with another count word
pub with_count_at : CountedSpace → ℕ → ℕ → CountedSpace
with_count_at s x n = record s { memory = put_u64 s.memory (x + 8) n }

no_more : (v : View) (x p : ℕ) → (p ≡ x → ⊥) → v.counted p + cond (nat_eq p x) 1 0 ≡ v.counted p
no_more v x p ne = ap (λ b. v.counted p + cond b 1 0) (ne_eqb p x ne) ∙ omega arith

no_less : (v : View) (x p : ℕ) → (p ≡ x → ⊥) → v.counted p - cond (nat_eq p x) 1 0 ≡ v.counted p
no_less v x p ne = ap (λ b. v.counted p - cond b 1 0) (ne_eqb p x ne) ∙ omega arith

one_more : (v : View) (x : ℕ) → v.counted x + cond (nat_eq x x) 1 0 ≡ v.counted x + 1
one_more v x = ap (λ b. v.counted x + cond b 1 0) (eq-eqb x x refl)

one_less : (v : View) (x : ℕ) → v.counted x - cond (nat_eq x x) 1 0 ≡ v.counted x - 1
one_less v x = ap (λ b. v.counted x - cond b 1 0) (eq-eqb x x refl)

-- where only the count word changes, the lists stay
pub recounted : (v : View) (s : CountedSpace) (x n : ℕ) (counted : ℕ → ℕ) → HoldsBlocks v s → In x v.places → n < 2 ^ 64 → 0 < n
    → n ≡ counted x + occ x v.shown + occ x v.queue → ((p : ℕ) → (p ≡ x → ⊥) → counted p ≡ v.counted p)
    → HoldsBlocks (record v { counted = counted }) (record s { memory = put_u64 s.memory (x + 8) n }) × Tends s.memory (put_u64 s.memory (x + 8) n) x
recounted v s x n counted h i small positive is others =
    let l = lies v s x h i in
    let sets = sets_count s.memory s.memory x (word s.memory x) (count_at s.memory x) (word s.memory (x + 16)) (word s.memory (x + 24)) n (sets_nothing s.memory x)
    (let inside = l.inside in let least = l.least in omega arith) small in (
      holds_tended v s (put_u64 s.memory (x + 8) n) s.shown s.queued x counted v.shown v.queue v.marked h i sets.tends
          (sets.count_is ∙ is) (subst (λ m. 0 < m) is positive) (ap (λ m. m % 8) sets.kind_is ∙ (h.objects x i).flags_are)
          (λ p ne. (others p ne, (refl, (refl, refl)))) h.shown_part h.queue_part h.marked_part
          (tended_links v s (put_u64 s.memory (x + 8) n) x 16 s.shown v.shown h i sets.tends (omega arith) h.shown_part h.shown_linked (λ _. sets.list_is))
          (tended_links v s (put_u64 s.memory (x + 8) n) x 24 s.queued v.queue h i sets.tends (omega arith) h.queue_part h.queue_linked (λ _. sets.link_is)),
      sets.tends,
    )

-- one name more
pub raise_holds : (v : View) (s : CountedSpace) (x : ℕ) → HoldsBlocks v s → In x v.places → count_of v x + 1 < 2 ^ 64
    → HoldsBlocks (counting_raised v x) (record s { memory = put_u64 s.memory (x + 8) (count_at s.memory x + 1) }) × Tends s.memory (put_u64 s.memory (x + 8) (count_at s.memory x + 1)) x
raise_holds v s x h i below =
    let was = (h.objects x i).count_is in
    let more = one_more v x in
    recounted v s x (count_at s.memory x + 1) (λ y. v.counted y + cond (nat_eq y x) 1 0) h i (omega arith) (omega arith) (omega arith) (λ p ne. no_more v x p ne)

-- one name less of an object whose count word stays above 0
pub lower_holds : (v : View) (s : CountedSpace) (x : ℕ) → HoldsBlocks v s → In x v.places → 0 < v.counted x → (count_at s.memory x ≡ 1 → ⊥) → count_at s.memory x < 2 ^ 64
    → HoldsBlocks (counting_lowered v x) (record s { memory = put_u64 s.memory (x + 8) (count_at s.memory x - 1) }) × Tends s.memory (put_u64 s.memory (x + 8) (count_at s.memory x - 1)) x
lower_holds v s x h i named ne small =
    let was = (h.objects x i).count_is in
    let less = one_less v x in
    let positive = (h.objects x i).positive in
    let many : 1 < count_of v x = elim (cases_lt 1 (count_of v x)) [ inl more ↦ more | inr few ↦ absurd (ne (omega arith)) ] in
    let r = recounted v s x (count_at s.memory x - 1) (λ y. v.counted y - cond (nat_eq y x) 1 0) h i (omega arith) (omega arith) (omega arith) (λ p ne. no_less v x p ne) in
    let test : nat_eq (count_of v x) 1 ≡ false = ne_eqb (count_of v x) 1 (λ e. ne (was ∙ e)) in (
      subst (λ b. HoldsBlocks (record v { counted = λ y. v.counted y - cond (nat_eq y x) 1 0; queue = cond b (x ∷ v.queue) v.queue })
          (record s { memory = put_u64 s.memory (x + 8) (count_at s.memory x - 1) })) (sym test) r.0,
      r.1,
    )

-- a list with one more place in front
pub part_more : (places list : List ℕ) (x : ℕ) → IsPart places list → In x places → occ x list ≡ 0 → IsPart places (x ∷ list)
part_more places list x part i none = record {
  inside = λ p j. in_more p j;
  once = λ p. elim (cases_eq p x) [
    | inl e ↦ subst (λ q. occ q (x ∷ list) ≤ 1) (sym e) (omega (arith, occ-same x list))
    | inr ne ↦ subst (λ n. n ≤ 1) (sym (occ-other p x list ne)) (part.once p)
  ];
}
  where
    in_more : (p : ℕ) → In p (x ∷ list) → In p places
    in_more _ here = i
    in_more p (there j) = part.inside p j

not_in : (x : ℕ) (list : List ℕ) → occ x list ≡ 0 → In x list → ⊥
not_in x list e i = let some = In-occ x list i in omega arith

-- an object whose last name goes is queued
pub enqueue_holds : (v : View) (s : CountedSpace) (m : List ℕ) (x : ℕ) → HoldsBlocks v s → In x v.places → 0 < v.counted x → count_at s.memory x ≡ 1
    → SetsWords s.memory m x (word s.memory x + 4) (count_at s.memory x) (word s.memory (x + 16)) s.queued
    → HoldsBlocks (counting_lowered v x) (record s { memory = m; queued = x })
enqueue_holds v s m x h i named one sets =
    let o = h.objects x i in
    let was = o.count_is in
    let flags = o.flags_are in
    let less = one_less v x in
    let a = h.shown_part.once x in
    let b = h.queue_part.once x in
    let c = h.marked_part.once x in
    let none : occ x v.queue ≡ 0 = omega arith in
    let not_shown : occ x v.shown ≡ 0 = omega arith in
    let more = occ-same x v.queue in
    let not_null = (lies v s x h i).not_null in
    let set_count = sets.count_is in
    let set_kind = sets.kind_is in
    let kept = tended_links v s m x 24 s.queued v.queue h i sets.tends (omega arith) h.queue_part h.queue_linked (λ j. absurd (not_in x v.queue none j)) in
    let test : nat_eq (count_of v x) 1 ≡ true = eq-eqb (count_of v x) 1 (sym was ∙ one) in
    subst (λ t. HoldsBlocks (record v { counted = λ y. v.counted y - cond (nat_eq y x) 1 0; queue = cond t (x ∷ v.queue) v.queue }) (record s { memory = m; queued = x })) (sym test)
    (holds_tended v s m s.shown x x (λ y. v.counted y - cond (nat_eq y x) 1 0) v.shown (x ∷ v.queue) v.marked h i sets.tends
    (omega arith) (omega arith) (ap (λ n. n % 8) set_kind ∙ omega arith)
    (λ p ne. (no_less v x p ne, (refl, (occ-other p x v.queue ne, refl))))
    h.shown_part (part_more v.places v.queue x h.queue_part i none) h.marked_part
    (tended_links v s m x 16 s.shown v.shown h i sets.tends (omega arith) h.shown_part h.shown_linked (λ _. sets.list_is))
    (link (omega arith) (subst (λ w. Linked m 24 w v.queue) (sym sets.link_is) kept)))

-- a name of an object that isn't on the list of shown words is taken over by it
pub show_holds : (v : View) (s : CountedSpace) (m : List ℕ) (x : ℕ) → HoldsBlocks v s → In x v.places → 0 < v.counted x → occ x v.shown ≡ 0
    → SetsWords s.memory m x (word s.memory x + 2) (count_at s.memory x) s.shown (word s.memory (x + 24))
    → HoldsBlocks (counting_exposed v x) (record s { memory = m; shown = x })
show_holds v s m x h i named none sets =
    let o = h.objects x i in
    let was = o.count_is in
    let flags = o.flags_are in
    let less = one_less v x in
    let a = h.shown_part.once x in
    let b = h.queue_part.once x in
    let c = h.marked_part.once x in
    let more = occ-same x v.shown in
    let not_null = (lies v s x h i).not_null in
    let set_count = sets.count_is in
    let set_kind = sets.kind_is in
    let kept = tended_links v s m x 16 s.shown v.shown h i sets.tends (omega arith) h.shown_part h.shown_linked (λ j. absurd (not_in x v.shown none j)) in
    let test : nat_eq (occ x v.shown) 0 ≡ true = eq-eqb (occ x v.shown) 0 none in
    subst (λ t. HoldsBlocks (record v { counted = λ y. v.counted y - cond (nat_eq y x) 1 0; shown = cond t (x ∷ v.shown) v.shown }) (record s { memory = m; shown = x })) (sym test)
    (holds_tended v s m x s.queued x (λ y. v.counted y - cond (nat_eq y x) 1 0) (x ∷ v.shown) v.queue v.marked h i sets.tends
    (omega arith) (omega arith) (ap (λ n. n % 8) set_kind ∙ omega arith)
    (λ p ne. (no_less v x p ne, (occ-other p x v.shown ne, (refl, refl))))
    (part_more v.places v.shown x h.shown_part i none) h.queue_part h.marked_part
    (link (omega arith) (subst (λ w. Linked m 16 w v.shown) (sym sets.list_is) kept))
    (tended_links v s m x 24 s.queued v.queue h i sets.tends (omega arith) h.queue_part h.queue_linked (λ _. sets.link_is)))

-- a name of an object that is on it goes
pub show_again_holds : (v : View) (s : CountedSpace) (x : ℕ) → HoldsBlocks v s → In x v.places → 0 < v.counted x → (occ x v.shown ≡ 0 → ⊥) → count_at s.memory x < 2 ^ 64
    → HoldsBlocks (counting_exposed v x) (record s { memory = put_u64 s.memory (x + 8) (count_at s.memory x - 1) }) × Tends s.memory (put_u64 s.memory (x + 8) (count_at s.memory x - 1)) x
show_again_holds v s x h i named ne small =
    let was = (h.objects x i).count_is in
    let less = one_less v x in
    let some : 0 < occ x v.shown = elim (cases_lt 0 (occ x v.shown)) [ inl more ↦ more | inr few ↦ absurd (ne (omega arith)) ] in
    let r = recounted v s x (count_at s.memory x - 1) (λ y. v.counted y - cond (nat_eq y x) 1 0) h i (omega arith) (omega arith) (omega arith) (λ p ne. no_less v x p ne) in
    let test : nat_eq (occ x v.shown) 0 ≡ false = ne_eqb (occ x v.shown) 0 ne in (
      subst (λ b. HoldsBlocks (record v { counted = λ y. v.counted y - cond (nat_eq y x) 1 0; shown = cond b (x ∷ v.shown) v.shown })
          (record s { memory = put_u64 s.memory (x + 8) (count_at s.memory x - 1) })) (sym test) r.0,
      r.1,
    )

-- the words of an object lie in the memory
pub room_at : (v : View) (s : CountedSpace) (x : ℕ) → HoldsBlocks v s → In x v.places → x + 28 ≤ length s.memory
room_at v s x h i = let l = lies v s x h i in let a = l.inside in let b = l.least in omega arith

-- where nothing but the count word is 1, an object is not queued
pub not_queued : (v : View) (s : CountedSpace) (x : ℕ) → HoldsBlocks v s → In x v.places → 0 < v.counted x → count_at s.memory x ≡ 1 → word s.memory x % 8 < 4
not_queued v s x h i named one =
    let o = h.objects x i in
    let was = o.count_is in
    let flags = o.flags_are in
    let a = h.shown_part.once x in
    let c = h.marked_part.once x in omega arith

-- the flag of the list of shown words
pub shown_flag : (v : View) (s : CountedSpace) (x : ℕ) → HoldsBlocks v s → In x v.places → word s.memory x / 2 % 2 ≡ occ x v.shown
shown_flag v s x h i =
    let flags = (h.objects x i).flags_are in
    let a = h.shown_part.once x in
    let b = h.queue_part.once x in
    let c = h.marked_part.once x in omega arith

pub not_shown_flag : (n : ℕ) → n / 2 % 2 ≡ 0 → n % 4 < 2
not_shown_flag n e = omega arith

-- what the flag tells
pub on_list : (v : View) (s : CountedSpace) (x : ℕ) → HoldsBlocks v s → In x v.places → nat_eq (word s.memory x / 2 % 2) 1 ≡ true → occ x v.shown ≡ 0 → ⊥
on_list v s x h i e none =
    let flag = shown_flag v s x h i in
    let test : nat_eq (word s.memory x / 2 % 2) 1 ≡ false = ne_eqb (word s.memory x / 2 % 2) 1 (λ one. omega arith) in
    true_false (sym e ∙ test)
  where
    true_false : true ≡ false → ⊥
    true_false e = cc

pub off_list : (v : View) (s : CountedSpace) (x : ℕ) → HoldsBlocks v s → In x v.places → nat_eq (word s.memory x / 2 % 2) 1 ≡ false → occ x v.shown ≡ 0
off_list v s x h i e =
    let flag = shown_flag v s x h i in
    let once = h.shown_part.once x in
    elim (cases_eq (word s.memory x / 2 % 2) 1) [
      | inl one ↦ absurd (true_false (sym (eq-eqb (word s.memory x / 2 % 2) 1 one) ∙ e))
      | inr ne ↦ elim (cases_eq (occ x v.shown) 0) [ inl none ↦ none | inr some ↦ absurd (ne (omega arith)) ]
    ]
  where
    true_false : true ≡ false → ⊥
    true_false e = cc
