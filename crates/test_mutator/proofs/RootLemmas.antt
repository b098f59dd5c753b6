-- Roots that come and go leave a heap in which a collection may begin.
use Rattle.std.proofs.Common.{◌≡◌, ℕ, suc, ◌+◌, ◌<◌, ◌^◌, ◌%◌, inr, Bool, true, false, List, [], ◌∷◌, ◌++◌, length, take, drop, refl, sym, ap, ap₂, ◌∙◌, subst, arith}
use Rattle.std.specs.Prelude.{slice_set}
use Rattle.std.proofs.lemmas.List.{take-append-drop, take-set, drop-set, append-nil}
use Rattle.std.proofs.lemmas.List.Elements.{Contains-get_or}
use Rattle.std.proofs.Math.Seq.{drop-cons}
use Rattle.gc_types.specs.declared.kind.Layouts.{Layouts}
use Rattle.gc_types.specs.Declarations.{Declaration}
use Rattle.gc_refs.specs.Words.{i31_word}
use Rattle.gc_roots.specs.Roots.{Root, root, no_root, root_at, with_word, with_word_at}
use Rattle.gc_view.specs.Heaps.{HeapView}
use Rattle.gc_heap.specs.Content.{IsHeap}
use Rattle.gc_heap.specs.Barriers.{CanName, CanUnname, cloned, dropped, exposed}
use Rattle.gc_heap.specs.Collection.{CanCollect, IsWordOf}
use Rattle.gc_heap.proofs.AddedLemmas.{start}
use Rattle.gc_heap.proofs.RootedLemmas.{can_collect_cloned, can_collect_dropped, can_collect_exposed, can_collect_unstacked, can_collect_number_root}
use Rattle.test_mutator.specs.Mutators.{gone_word}
use Rattle.gc_heap.proofs.NameLemmas.{can_name, can_unname, held-le}

-- a list of roots, taken apart at an index
record Split (roots : List Root) (index : ℕ) : Type 0 where
  before : List Root
  behind : List Root
  is : roots ≡ before ++ root_at roots index ∷ behind
  set : (word : ℕ) → with_word_at roots index word ≡ before ++ with_word (root_at roots index) word ∷ behind

split_at : (roots : List Root) (index : ℕ) → index < length roots → Split roots index
split_at roots index below =
    let next : suc index ≡ index + 1 = omega arith in
    record {
      before = take index roots;
      behind = drop (index + 1) roots;
      is = sym (take-append-drop index roots) ∙ ap (λ rest. take index roots ++ rest) (drop-cons roots index no_root below ∙ ap (λ n. root_at roots index ∷ drop n roots) next);
      set = λ word.
          let r : Root = with_word (root_at roots index) word in
          sym (take-append-drop index (slice_set roots index r)) ∙ ap₂ (λ (xs ys : List Root). xs ++ ys) (take-set roots index r) (drop-set roots index r below);
    }

module _ (layouts : Layouts) (types : List Declaration) (h : HeapView) (roots : List Root) (hosts : ℕ → Bool) (heap : IsHeap layouts h) (can : CanCollect layouts (start h roots types hosts)) where
  -- a root's word is one of the heap
  pub root_word : (index word : ℕ) → index < length roots → word ≡ (root_at roots index).word → IsWordOf h word
  root_word index word below is = subst (IsWordOf h) (sym is) (can.roots (root_at roots index) (Contains-get_or roots index no_root below))

  pub root_cloneable : (index word : ℕ) → index < length roots → length roots < 2 ^ 31 → word ≡ (root_at roots index).word → 0 < word → CanName h word
  root_cloneable index word below few is present = can_name layouts types h roots hosts heap can (let held = held-le roots in omega arith) word (root_word index word below is) present

  pub root_droppable : (index word : ℕ) → index < length roots → (root_at roots index).on_stack ≡ false → word ≡ (root_at roots index).word → 0 < word → CanUnname h word
  root_droppable index word below held is present =
      let s = split_at roots index below in
      subst (CanUnname h) (sym is)
      (can_unname layouts types h s.before (root_at roots index) s.behind hosts heap (subst (λ rs. CanCollect layouts (start h rs types hosts)) s.is can) held (omega (arith, is)))

  -- a word was cloned, and is a root's
  pub copied : (h' : HeapView) (roots' : List Root) (word : ℕ) → IsWordOf h word → h' ≡ cloned h word → roots' ≡ roots ++ root 0 false word ∷ [] → CanCollect layouts (start h' roots' types hosts)
  copied h' roots' word is seen rooted =
      subst (λ (v : HeapView). CanCollect layouts (start v roots' types hosts)) (sym seen) (subst (λ rs. CanCollect layouts (start (cloned h word) rs types hosts)) (sym rooted)
      (can_collect_cloned layouts types h roots (root 0 false word) [] hosts (subst (λ rs. CanCollect layouts (start h rs types hosts)) (sym (append-nil roots)) can) refl is))

  -- a number is a root
  pub numbered : (roots' : List Root) (number : ℕ) → roots' ≡ roots ++ root 0 false (i31_word number) ∷ [] → CanCollect layouts (start h roots' types hosts)
  numbered roots' number rooted =
      let odd : i31_word number % 2 ≡ 1 = omega arith in
      subst (λ rs. CanCollect layouts (start h rs types hosts)) (sym rooted)
      (can_collect_number_root layouts types h roots (root 0 false (i31_word number)) [] hosts heap (subst (λ rs. CanCollect layouts (start h rs types hosts)) (sym (append-nil roots)) can) (inr odd))

  -- a root was dropped, and holds a number
  pub given_up : (h' : HeapView) (roots' : List Root) (index word last : ℕ) → index < length roots → (root_at roots index).on_stack ≡ false → word ≡ (root_at roots index).word → h' ≡ dropped h word
      → roots' ≡ with_word_at roots index last → last ≡ gone_word → IsHeap layouts h' → CanCollect layouts (start h' roots' types hosts)
  given_up h' roots' index word last below held is seen set gone heap' =
      let s = split_at roots index below in
      let r : Root = root_at roots index in
      let split : CanCollect layouts (start h (s.before ++ r ∷ s.behind) types hosts) = subst (λ rs. CanCollect layouts (start h rs types hosts)) s.is can in
      let lowered : CanCollect layouts (start h' (s.before ++ s.behind) types hosts) =
      subst (λ (v : HeapView). CanCollect layouts (start v (s.before ++ s.behind) types hosts)) (sym (seen ∙ ap (dropped h) is)) (can_collect_dropped layouts types h s.before r s.behind hosts split held) in
      subst (λ rs. CanCollect layouts (start h' rs types hosts)) (sym (set ∙ ap (with_word_at roots index) gone ∙ s.set gone_word))
      (can_collect_number_root layouts types h' s.before (with_word r gone_word) s.behind hosts heap' lowered (inr refl))

  -- a frame slot was left, and holds a number
  pub left : (roots' : List Root) (index last : ℕ) → index < length roots → (root_at roots index).on_stack ≡ true → roots' ≡ with_word_at roots index last → last ≡ gone_word → CanCollect layouts (start h roots' types hosts)
  left roots' index last below slot set gone =
      let s = split_at roots index below in
      let r : Root = root_at roots index in
      let split : CanCollect layouts (start h (s.before ++ r ∷ s.behind) types hosts) = subst (λ rs. CanCollect layouts (start h rs types hosts)) s.is can in
      subst (λ rs. CanCollect layouts (start h rs types hosts)) (sym (set ∙ ap (with_word_at roots index) gone ∙ s.set gone_word))
      (can_collect_number_root layouts types h s.before (with_word r gone_word) s.behind hosts heap (can_collect_unstacked layouts types h s.before r s.behind hosts split slot) (inr refl))

module _ (layouts : Layouts) (types : List Declaration) (h middle : HeapView) (roots : List Root) (hosts : ℕ → Bool) (word : ℕ) (heap : IsHeap layouts h) (heap' : IsHeap layouts middle) (can : CanCollect layouts (start h roots types hosts))
    (is : IsWordOf h word) (seen : middle ≡ cloned h word) where
  with_copy : CanCollect layouts (start middle (roots ++ root 0 false word ∷ []) types hosts)
  with_copy = copied layouts types h roots hosts heap can middle (roots ++ root 0 false word ∷ []) word is seen refl

  -- a clone may be shown to a frame slot
  pub copy_showable : 0 < word → CanUnname middle word
  copy_showable present = can_unname layouts types middle roots (root 0 false word) [] hosts heap' with_copy refl present

  -- and is one of its words then
  pub shown : (h' : HeapView) (roots' : List Root) → h' ≡ exposed middle word → roots' ≡ roots ++ root 0 true word ∷ [] → CanCollect layouts (start h' roots' types hosts)
  shown h' roots' shows slot =
      subst (λ (v : HeapView). CanCollect layouts (start v roots' types hosts)) (sym shows) (subst (λ rs. CanCollect layouts (start (exposed middle word) rs types hosts)) (sym slot)
      (can_collect_exposed layouts types middle roots (root 0 false word) (root 0 true word) [] hosts heap' with_copy refl refl refl))
