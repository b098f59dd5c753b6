-- A reference that is taken: the search goes on with the object that it is.
use Rattle.std.proofs.Common.{inl, inr, ◌≡◌, ℕ, ◌+◌, ◌<◌, ◌^◌, List, [], ◌∷◌, ◌++◌, length, Some, None, Option, Bool, true, false, nat_eq, cond, sym, ap, ◌∙◌, refl, subst, arith, eq-eqb, eqb-true, Contains, Err}
use Rattle.std.specs.List.{slice_get}
use Rattle.std.specs.Option.{MatchOption}
use Rattle.std.proofs.lemmas.List.{length_push}
use Rattle.std.proofs.lemmas.Option.{same_Some, none-some, slice_get_within}
use Rattle.gc_types.specs.declared.kind.Layouts.{Layouts}
use Rattle.gc_owner.specs.declared.entry.GcClass.{GcClass}
use Rattle.gc_model.specs.Values.{Reference, null, small, at, reference}
use Rattle.gc_model.specs.Stores.{StoreView}
use Rattle.gc_model.proofs.Lists.{slice_get-push_old, slice_get-push_new, slice_get-push_cases}
use Rattle.gc_model.proofs.Members.{get_contains, contains_get}
use Rattle.gc_model.proofs.HeldSums.{distinct_push}
use Rattle.gc_values.specs.declared.root.GcRootIndex.{GcRootIndex}
use Rattle.gc_store.specs.Roots.{NamesReference}
use Rattle.gc_paths.specs.Progress.{Basis}
use Rattle.gc_image.specs.declared.image.ImageReference.{ImageReference}
use Rattle.gc_image.specs.declared.image.ImageReference.TheVariants as image_reference
use Rattle.gc_image.specs.declared.image.ImageValue.TheVariants as image_value
use Rattle.gc_image.specs.Images.{IsGlobal}
use Rattle.gc_save_image.specs.declared.collect_fault.CollectFault.{CollectFault}
use Rattle.gc_save_image.specs.declared.collect_fault.CollectFault.TheVariants as fault
use Rattle.gc_save_image.specs.Parts.{FoundHandles, SameFound, MoreFound, NumbersObject}
use Rattle.gc_save_image.specs.Progress.{ImageProgress, KeepsNumbered, ImageGoesOn, AnswersImagePart, SaysValue}
use Rattle.gc_save_image.specs.Steps.{MakesImageReference, LeadsOn}

pub keeps_itself : (told : List ℕ) → KeepsNumbered told told
keeps_itself told n p e = e

pub keeps_more : (told : List ℕ) (x : ℕ) → KeepsNumbered told (told ++ x ∷ [])
keeps_more told x n p e = slice_get-push_old told x n p e

pub keeps_twice : (a b c : List ℕ) → KeepsNumbered a b → KeepsNumbered b c → KeepsNumbered a c
keeps_twice a b c first second n p e = second n p (first n p e)

-- the value at a key where one is put in
put_new : (word : ℕ) (x other : Option ℕ) → cond (nat_eq word word) x other ≡ x
put_new word x other = ap (λ b. cond b x other) (eq-eqb word word refl)

module _ {D : Type 0} (layouts : Layouts) (b : Basis D) (told : List ℕ) (count : ℕ) (s : StoreView D) (old : FoundHandles) (progress : ImageProgress layouts b told count s old) where
  -- what was found is the same
  pub same_progress : (new : FoundHandles) → SameFound old new → ImageProgress layouts b told count s new
  same_progress new same = record {
    holds = progress.holds;
    lists = record {
      same_count = ap length same.handles ∙ progress.lists.same_count;
      named = λ n p h at_told at_handles. progress.lists.named n p h at_told (ap (λ hs. slice_get hs n) (sym same.handles) ∙ at_handles);
      has = λ n p e. let has = progress.lists.has n p e in (has.0, (has.1.0, same.number has.0 ∙ has.1.1));
      only = λ word n e. progress.lists.only word n (sym (same.number word) ∙ e);
    };
    distinct = progress.distinct;
    reached = progress.reached;
  }

  module _ (p word : ℕ) (h : GcRootIndex) (new : FoundHandles) (placed : b.place p ≡ Some word) (unknown : old.number word ≡ None) (named : NamesReference s progress.holds.now h (at p)) (global : IsGlobal b.table p) (more : MoreFound old new word h) where
    named_more : (n q : ℕ) (g : GcRootIndex) → slice_get (told ++ p ∷ []) n ≡ Some q → slice_get (old.handles ++ h ∷ []) n ≡ Some g → NamesReference s progress.holds.now g (at q)
    named_more n q g at_told at_handles = elim (slice_get-push_cases told p n q at_told) [
      | inl old_q ↦ elim (slice_get-push_cases old.handles h n g at_handles) [
        | inl old_g ↦ progress.lists.named n q g old_q old_g
        | inr (at_end, same) ↦ let inside = slice_get_within told n q old_q in let counts = progress.lists.same_count in absurd (omega (arith, inside, at_end, counts))
      ]
      | inr (at_end, same) ↦ elim (slice_get-push_cases old.handles h n g at_handles) [
        | inl old_g ↦ let inside = slice_get_within old.handles n g old_g in let counts = progress.lists.same_count in absurd (omega (arith, inside, at_end, counts))
        | inr (at_end', same') ↦
            subst (λ (f : GcRootIndex). NamesReference s progress.holds.now f (at q)) same'
            (subst (λ (x : ℕ). NamesReference s progress.holds.now h (at x)) same named)
      ]
    ]

    -- a word that has a number isn't the new one
    other_word : (w n : ℕ) → old.number w ≡ Some n → nat_eq word w ≡ false
    other_word w n e = by (nat_eq word w) refl
      where
        by : (t : Bool) → nat_eq word w ≡ t → t ≡ false
        by false is = refl
        by true is = absurd (none-some n (sym unknown ∙ ap old.number (eqb-true word w is) ∙ e))

    has_more : (n q : ℕ) → slice_get (told ++ p ∷ []) n ≡ Some q → (w : ℕ) × ((b.place q ≡ Some w) × (new.number w ≡ Some n))
    has_more n q e = elim (slice_get-push_cases told p n q e) [
      | inl old_q ↦
          let has = progress.lists.has n q old_q in
          (has.0, (has.1.0, more.number has.0 ∙ ap (λ t. cond t (Some (length old.handles)) (old.number has.0)) (other_word has.0 n has.1.1) ∙ has.1.1))
      | inr (at_end, same) ↦
          let count_is : length old.handles ≡ n = progress.lists.same_count ∙ sym at_end in
          (word, (ap b.place (sym same) ∙ placed, more.number word ∙ put_new word (Some (length old.handles)) (old.number word) ∙ ap Some count_is))
    ]

    only_more : (w n : ℕ) → new.number w ≡ Some n → (q : ℕ) × ((b.place q ≡ Some w) × (slice_get (told ++ p ∷ []) n ≡ Some q))
    only_more w n e = by (nat_eq word w) refl
      where
        by : (t : Bool) → nat_eq word w ≡ t → (q : ℕ) × ((b.place q ≡ Some w) × (slice_get (told ++ p ∷ []) n ≡ Some q))
        by true is =
            let number_is : length old.handles ≡ n = same_Some (length old.handles) n (sym (ap (λ t. cond t (Some (length old.handles)) (old.number w)) is) ∙ sym (more.number w) ∙ e) in
            let place_is : length told ≡ n = sym progress.lists.same_count ∙ number_is in
            (p, (placed ∙ ap Some (eqb-true word w is), ap (slice_get (told ++ p ∷ [])) (sym place_is) ∙ slice_get-push_new told p))
        by false is =
            let before = progress.lists.only w n (sym (ap (λ t. cond t (Some (length old.handles)) (old.number w)) is) ∙ sym (more.number w) ∙ e) in
            (before.0, (before.1.0, slice_get-push_old told p n before.0 before.1.1))

    -- the position has no number yet
    new_position : Contains told p → ⊥
    new_position c =
        let index = contains_get told p c in
        let has = progress.lists.has index.0 p index.1 in
        let word_is : has.0 ≡ word = same_Some has.0 word (sym has.1.0 ∙ placed) in
        none-some index.0 (sym unknown ∙ ap old.number (sym word_is) ∙ has.1.1)

    pub progress_more : ImageProgress layouts b (told ++ p ∷ []) count s new
    progress_more = record {
      holds = progress.holds;
      lists = record {
        same_count = ap length more.handles ∙ length_push old.handles h ∙ ap (λ n. n + 1) progress.lists.same_count ∙ sym (length_push told p);
        named = λ n q g at_told at_handles. named_more n q g at_told (ap (λ hs. slice_get hs n) (sym more.handles) ∙ at_handles);
        has = has_more;
        only = only_more;
      };
      distinct = distinct_push told p progress.distinct new_position;
      reached = λ n q e. elim (slice_get-push_cases told p n q e) [
        | inl old_q ↦ progress.reached n q old_q
        | inr (at_end, same) ↦ subst (IsGlobal b.table) same global
      ];
    }

  -- the object has that number now
  pub object_taken : (p word number : ℕ) (h : GcRootIndex) (new : FoundHandles) → b.place p ≡ Some word → NamesReference s progress.holds.now h (at p) → IsGlobal b.table p → NumbersObject old new word h number
      → ImageGoesOn layouts b told count s new (λ then. slice_get then number ≡ Some p)
  object_taken p word number h new placed named global numbers = by (old.number word) refl numbers
    where
      by : (k : Option ℕ) → old.number word ≡ k → MatchOption k (MoreFound old new word h × (number ≡ length old.handles)) (λ known. SameFound old new × (number ≡ known))
          → ImageGoesOn layouts b told count s new (λ then. slice_get then number ≡ Some p)
      by None unknown (more, is) = record {
        told = told ++ p ∷ [];
        kept = keeps_more told p;
        progress = progress_more p word h new placed unknown named global more;
        done = ap (slice_get (told ++ p ∷ [])) (is ∙ progress.lists.same_count) ∙ slice_get-push_new told p;
      }
      by (Some known) there (same, is) =
          let only = progress.lists.only word known there in
          record {
            told = told;
            kept = keeps_itself told;
            progress = same_progress new same;
            done = ap (slice_get told) is ∙ only.1.1 ∙ ap Some (progress.holds.there.0.objects.injective only.0 p word only.1.0 placed);
          }

  -- what is done is more than was asked for
  pub goes_more : (new : FoundHandles) (Done More : List ℕ → Type 0) → ((then : List ℕ) → Done then → More then) → ImageGoesOn layouts b told count s new Done → ImageGoesOn layouts b told count s new More
  goes_more new Done More more goes = record { told = goes.told; kept = goes.kept; progress = goes.progress; done = more goes.told goes.done }

-- What the words of references say

null_says : (then : List ℕ) (class : GcClass) → SaysValue then (reference class null) (image_value.Ref class image_reference.Null)
null_says then class = record {
  is = λ _ position agrees. refl;
  named = λ number e. absurd (none-some number e);
  leads = λ k p e. absurd (differ k p e);
  fits = tt;
}
  where
    differ : (k : GcClass) (p : ℕ) → reference class null ≡ reference k (at p) → ⊥
    differ k p e = cc

small_says : (then : List ℕ) (class : GcClass) (n : ℕ) → n < 2 ^ 31 → SaysValue then (reference class (small n)) (image_value.Ref class (image_reference.Small n))
small_says then class n fits = record {
  is = λ _ position agrees. refl;
  named = λ number e. absurd (none-some number e);
  leads = λ k p e. absurd (differ k p e);
  fits = fits;
}
  where
    differ : (k : GcClass) (p : ℕ) → reference class (small n) ≡ reference k (at p) → ⊥
    differ k p e = cc

object_says : (then : List ℕ) (class : GcClass) (p number : ℕ) → slice_get then number ≡ Some p → number < 2 ^ 64 → SaysValue then (reference class (at p)) (image_value.Ref class (image_reference.Object number))
object_says then class p number there fits = record {
  is = λ _ position agrees. ap (λ x. reference class (at x)) (sym (agrees number p there));
  named = λ n e. subst (λ x. x < length then) (same_Some number n e) (slice_get_within then number p there);
  leads = λ k q e. subst (Contains then) (same k q e) (get_contains then number p there);
  fits = fits;
}
  where
    same : (k : GcClass) (q : ℕ) → reference class (at p) ≡ reference k (at q) → p ≡ q
    same k q e = cc e

module _ {D : Type 0} (layouts : Layouts) (b : Basis D) (told : List ℕ) (count : ℕ) (s : StoreView D) (old : FoundHandles) (progress : ImageProgress layouts b told count s old) (class : GcClass) where
  -- a null
  pub null_taken : (q : Reference) → q ≡ null → ImageGoesOn layouts b told count s old (λ then. SaysValue then (reference class q) (image_value.Ref class image_reference.Null))
  null_taken q is = record {
    told = told;
    kept = keeps_itself told;
    progress = progress;
    done = subst (λ (r : Reference). SaysValue told (reference class r) (image_value.Ref class image_reference.Null)) (sym is) (null_says told class);
  }

  -- what a handle names
  pub reference_taken : (q : Reference) (h : GcRootIndex) (new : FoundHandles) (x : ImageReference) → NamesReference s progress.holds.now h q → LeadsOn b (reference class q) → MakesImageReference b.place q h old new x
      → ImageGoesOn layouts b told count s new (λ then. SaysValue then (reference class q) (image_value.Ref class x))
  reference_taken null h new x named leads taken = absurd taken
  reference_taken (small n) h new x named leads taken = record {
    told = told;
    kept = keeps_itself told;
    progress = same_progress layouts b told count s old progress new taken.2;
    done = subst (λ (r : ImageReference). SaysValue told (reference class (small n)) (image_value.Ref class r)) (sym taken.0) (small_says told class n taken.1);
  }
  reference_taken (at p) h new x named leads taken =
      let word = taken.0 in
      let number = taken.1 in
      let facts = taken.2 in
      goes_more layouts b told count s old progress new (λ then. slice_get then number ≡ Some p) (λ then. SaysValue then (reference class (at p)) (image_value.Ref class x))
      (λ then there. subst (λ (r : ImageReference). SaysValue then (reference class (at p)) (image_value.Ref class r)) (sym facts.2) (object_says then class p number there facts.1))
      (object_taken layouts b told count s old progress p word number h new facts.0 named (leads p (get_contains (at p ∷ []) 0 (at p) refl)) facts.3)

-- only want of memory stops it
pub memory_stops : {D X : Type 0} (layouts : Layouts) (b : Basis D) (told : List ℕ) (count : ℕ) (s : StoreView D) (old : FoundHandles) → ImageProgress layouts b told count s old → (Went : X → Type 0) (Full : Type 0) (why : CollectFault) → why ≡ fault.Memory → AnswersImagePart layouts b Went Full (Err why) s
memory_stops layouts b told count s old progress Went Full why is = subst (λ (w : CollectFault). AnswersImagePart layouts b Went Full (Err w) s) (sym is) (count, progress.holds)
