-- Barriers of words that may be null, and what they leave of the condition of a collection.
use Rattle.std.proofs.Common.{◌≡◌, ℕ, zero, suc, ◌<◌, ◌≤◌, ◌^◌, Bool, false, List, [], ◌∷◌, ◌++◌, length, Option, Some, None, refl, sym, ap, ◌∙◌, subst, arith}
use Rattle.std.specs.Option.{SomeIff}
use Rattle.std.proofs.lemmas.List.{append_assoc}
use Rattle.gc_types.specs.declared.kind.Layouts.{Layouts}
use Rattle.gc_types.specs.Declarations.{Declaration}
use Rattle.gc_roots.specs.Roots.{Root, root}
use Rattle.gc_view.specs.Heaps.{HeapView, SameHeld}
use Rattle.gc_heap.specs.Content.{IsHeap}
use Rattle.gc_heap.specs.Barriers.{CanName, CanUnname, CanNameSlot, CanUnnameSlot, cloned, dropped, copied, emptied, overwritten}
use Rattle.gc_heap.specs.Collection.{CanCollect, IsWordOf, held_words}
use Rattle.gc_heap.proofs.AddedLemmas.{start}
use Rattle.gc_heap.proofs.RootedLemmas.{can_collect_cloned, can_collect_dropped}
use Rattle.gc_owner.specs.RootColumns.{listed_as}
use Rattle.gc_owner.specs.Owners.{raised, lowered, CanCopyWord, CanDropWord}
use Rattle.gc_owner.specs.Tracing.{IsCollectable}
use Rattle.gc_owner.proofs.Begins.{with_memory}
use Rattle.gc_owner.proofs.Names.{can_name, can_unname}
use Rattle.gc_owner.proofs.ListedRoots.{listed_present, listed_null, listed-append}

-- What a test that makes a reference of a word says of the barriers

pub copy_named : (h : HeapView) (made : Option ℕ) (word held : ℕ) → SomeIff made (0 < word) word → made ≡ Some held → CanCopyWord h word → CanName h held
copy_named h made zero held gives is can = let at : SomeIff (Some held) (0 < 0) 0 = subst (λ o. SomeIff o (0 < 0) 0) is gives in absurd (omega (arith, at.0))
copy_named h made (suc n) held gives is can = let at : SomeIff (Some held) (0 < suc n) (suc n) = subst (λ o. SomeIff o (0 < suc n) (suc n)) is gives in subst (CanName h) (sym at.1) can

pub copy_raised : (h : HeapView) (made : Option ℕ) (word held : ℕ) → SomeIff made (0 < word) word → made ≡ Some held → cloned h held ≡ raised h word
copy_raised h made zero held gives is = let at : SomeIff (Some held) (0 < 0) 0 = subst (λ o. SomeIff o (0 < 0) 0) is gives in absurd (omega (arith, at.0))
copy_raised h made (suc n) held gives is = let at : SomeIff (Some held) (0 < suc n) (suc n) = subst (λ o. SomeIff o (0 < suc n) (suc n)) is gives in ap (cloned h) at.1

pub none_raised : (h : HeapView) (made : Option ℕ) (word : ℕ) → SomeIff made (0 < word) word → made ≡ None → h ≡ raised h word
none_raised h made zero gives is = refl
none_raised h made (suc n) gives is = let at : (0 < suc n → ⊥) = subst (λ o. SomeIff o (0 < suc n) (suc n)) is gives in absurd (at (omega arith))

pub slot_copied : (h : HeapView) (made : Option ℕ) (word : ℕ) → SomeIff made (0 < word) word → CanCopyWord h word → CanNameSlot h made
slot_copied h None word gives can = tt
slot_copied h (Some held) word gives can = copy_named h (Some held) word held gives refl can

pub slot_dropped : (h : HeapView) (made : Option ℕ) (word : ℕ) → SomeIff made (0 < word) word → CanDropWord h word → CanUnnameSlot h made
slot_dropped h None word gives can = tt
slot_dropped h (Some held) zero gives can = absurd (omega (arith, gives.0))
slot_dropped h (Some held) (suc n) gives can = subst (CanUnname h) (sym gives.1) can

slot_raised : (h : HeapView) (made : Option ℕ) (word : ℕ) → SomeIff made (0 < word) word → copied h made ≡ raised h word
slot_raised h None word gives = none_raised h None word gives refl
slot_raised h (Some held) word gives = copy_raised h (Some held) word held gives refl

slot_lowered : (h : HeapView) (made : Option ℕ) (word : ℕ) → SomeIff made (0 < word) word → emptied h made ≡ lowered h word
slot_lowered h None zero gives = refl
slot_lowered h None (suc n) gives = let none : (0 < suc n → ⊥) = gives in absurd (none (omega arith))
slot_lowered h (Some held) zero gives = absurd (omega (arith, gives.0))
slot_lowered h (Some held) (suc n) gives = ap (dropped h) gives.1

pub slots_overwritten : (h : HeapView) (destination source : Option ℕ) (old_word new_word : ℕ) → SomeIff destination (0 < old_word) old_word → SomeIff source (0 < new_word) new_word
    → overwritten h destination source ≡ lowered (raised h new_word) old_word
slots_overwritten h destination source old_word new_word was now = ap (λ (v : HeapView). emptied v destination) (slot_raised h source new_word now) ∙ slot_lowered (raised h new_word) destination old_word was

-- the heap holds the same objects
pub raised_held : (h : HeapView) (word : ℕ) → SameHeld h (raised h word)
raised_held h zero = record { content = refl; attached = refl; capacity = refl; allocated = refl; needs_gc = refl }
raised_held h (suc n) = record { content = refl; attached = refl; capacity = refl; allocated = refl; needs_gc = refl }

pub replaced_held : (h : HeapView) (old_word new_word : ℕ) → SameHeld h (lowered (raised h new_word) old_word)
replaced_held h zero zero = record { content = refl; attached = refl; capacity = refl; allocated = refl; needs_gc = refl }
replaced_held h zero (suc n) = record { content = refl; attached = refl; capacity = refl; allocated = refl; needs_gc = refl }
replaced_held h (suc m) zero = record { content = refl; attached = refl; capacity = refl; allocated = refl; needs_gc = refl }
replaced_held h (suc m) (suc n) = record { content = refl; attached = refl; capacity = refl; allocated = refl; needs_gc = refl }

-- a word of the heap may be copied
pub word_copyable : (layouts : Layouts) (types : List Declaration) (h : HeapView) (roots : List Root) (hosts : ℕ → Bool) → IsHeap layouts h → IsCollectable layouts types h roots hosts → length (held_words roots) ≤ 2 ^ 34
    → (word : ℕ) → IsWordOf h word → CanCopyWord h word
word_copyable layouts types h roots hosts heap can few zero is = tt
word_copyable layouts types h roots hosts heap can few (suc n) is = can_name layouts types h roots hosts heap can.collects few (suc n) is (omega arith)

module _ (layouts : Layouts) (types : List Declaration) (before : List Root) (place : ℕ) (behind : List Root) (hosts : ℕ → Bool) where
  -- the roots with these words in one place
  abbrev pub around : List ℕ → List Root
  around words = before ++ (listed_as place false words ++ behind)

  apart : (xs ys : List ℕ) → around (xs ++ ys) ≡ (before ++ listed_as place false xs) ++ (listed_as place false ys ++ behind)
  apart xs ys =
      ap (λ (rs : List Root). before ++ (rs ++ behind)) (listed-append place false xs ys)
      ∙ ap (λ (rs : List Root). before ++ rs) (append_assoc (listed_as place false xs) (listed_as place false ys) behind)
      ∙ sym (append_assoc before (listed_as place false xs) (listed_as place false ys ++ behind))

  null_in : (xs ys : List ℕ) → around (xs ++ 0 ∷ ys) ≡ around (xs ++ ys)
  null_in xs ys = apart xs (0 ∷ ys) ∙ ap (λ (rs : List Root). (before ++ listed_as place false xs) ++ (rs ++ behind)) (listed_null place false 0 ys refl) ∙ sym (apart xs ys)

  word_in : (xs ys : List ℕ) (n : ℕ) → around (xs ++ suc n ∷ ys) ≡ (before ++ listed_as place false xs) ++ root place false (suc n) ∷ (listed_as place false ys ++ behind)
  word_in xs ys n = apart xs (suc n ∷ ys) ∙ ap (λ (rs : List Root). (before ++ listed_as place false xs) ++ (rs ++ behind)) (listed_present place false (suc n) ys (omega arith))

  -- a copy of a word was added
  pub word_raised : (h : HeapView) (xs ys : List ℕ) (word : ℕ) → IsCollectable layouts types h (around (xs ++ ys)) hosts → IsWordOf h word → IsCollectable layouts types (raised h word) (around (xs ++ word ∷ ys)) hosts
  word_raised h xs ys zero can is = subst (λ rs. IsCollectable layouts types h rs hosts) (sym (null_in xs ys)) can
  word_raised h xs ys (suc n) can is = record {
    traced = can.traced;
    collects = subst (λ rs. CanCollect layouts (start (cloned (with_memory h) (suc n)) rs types hosts)) (sym (word_in xs ys n))
        (can_collect_cloned layouts types (with_memory h) (before ++ listed_as place false xs) (root place false (suc n)) (listed_as place false ys ++ behind) hosts
        (subst (λ rs. CanCollect layouts (start (with_memory h) rs types hosts)) (apart xs ys) can.collects) refl is);
  }

  -- a word was given up
  pub word_lowered : (h : HeapView) (xs ys : List ℕ) (word : ℕ) → IsCollectable layouts types h (around (xs ++ word ∷ ys)) hosts → IsCollectable layouts types (lowered h word) (around (xs ++ ys)) hosts
  word_lowered h xs ys zero can = subst (λ rs. IsCollectable layouts types h rs hosts) (null_in xs ys) can
  word_lowered h xs ys (suc n) can = record {
    traced = can.traced;
    collects = subst (λ rs. CanCollect layouts (start (dropped (with_memory h) (suc n)) rs types hosts)) (sym (apart xs ys))
        (can_collect_dropped layouts types (with_memory h) (before ++ listed_as place false xs) (root place false (suc n)) (listed_as place false ys ++ behind) hosts
        (subst (λ rs. CanCollect layouts (start (with_memory h) rs types hosts)) (word_in xs ys n) can.collects) refl);
  }

  pub word_droppable : (h : HeapView) (xs ys : List ℕ) (word : ℕ) → IsHeap layouts h → IsCollectable layouts types h (around (xs ++ word ∷ ys)) hosts → CanDropWord h word
  word_droppable h xs ys zero heap can = tt
  word_droppable h xs ys (suc n) heap can =
      can_unname layouts types h (before ++ listed_as place false xs) (root place false (suc n)) (listed_as place false ys ++ behind) hosts heap
      (subst (λ rs. CanCollect layouts (start (with_memory h) rs types hosts)) (word_in xs ys n) can.collects) refl (omega arith)

  -- a word was overwritten by a copy of another
  pub word_replaced : (h : HeapView) (xs ys : List ℕ) (old_word new_word : ℕ) → IsCollectable layouts types h (around (xs ++ old_word ∷ ys)) hosts → IsWordOf h new_word
      → IsCollectable layouts types (lowered (raised h new_word) old_word) (around (xs ++ new_word ∷ ys)) hosts
  word_replaced h xs ys old_word new_word can is =
      let more : IsCollectable layouts types (raised h new_word) (around (xs ++ new_word ∷ old_word ∷ ys)) hosts = word_raised h xs (old_word ∷ ys) new_word can is in
      subst (λ ws. IsCollectable layouts types (lowered (raised h new_word) old_word) (around ws) hosts) (append_assoc xs (new_word ∷ []) ys)
      (word_lowered (raised h new_word) (xs ++ new_word ∷ []) ys old_word
      (subst (λ ws. IsCollectable layouts types (raised h new_word) (around ws) hosts) (sym (append_assoc xs (new_word ∷ []) (old_word ∷ ys))) more))
