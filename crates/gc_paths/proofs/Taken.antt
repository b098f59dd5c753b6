-- A reference that is taken: the report goes on with the object that it is.
use Rattle.std.proofs.Common.{inl, inr, ◌≡◌, ◌⊎◌, ℕ, ◌+◌, ◌<◌, ◌≤◌, List, [], ◌∷◌, ◌++◌, length, Some, Bool, true, false, nat_eq, ◌||◌, sym, ap, ◌∙◌, refl, subst, arith, eq-eqb, eqb-true, Contains}
use Rattle.std.specs.List.{slice_get, IsDistinct}
use Rattle.std.specs.Bool.{MatchBool}
use Rattle.std.proofs.lemmas.List.{length_push, map_push}
use Rattle.std.proofs.lemmas.Option.{same_Some, slice_get_within}
use Rattle.gc_types.specs.declared.kind.Layouts.{Layouts}
use Rattle.gc_model.specs.Values.{at}
use Rattle.gc_model.specs.Stores.{StoreView}
use Rattle.gc_model.proofs.Lists.{slice_get-push_old, slice_get-push_new, slice_get-push_cases}
use Rattle.gc_model.proofs.Members.{map_among, contains_get}
use Rattle.gc_model.proofs.HeldSums.{distinct_push}
use Rattle.gc_values.specs.declared.root.GcRootIndex.{GcRootIndex}
use Rattle.gc_store.specs.Roots.{NamesReference}
use Rattle.gc_paths.specs.declared.entry.PathParent.{PathParent}
use Rattle.gc_paths.specs.declared.entry.PathParent.TheVariants as parent
use Rattle.gc_paths.specs.Walks.{Walk}
use Rattle.gc_paths.specs.Reports.{Told, ComesFrom, IsEntry, positions}
use Rattle.gc_paths.specs.Parts.{Parts, SameParts, MoreParts, Adds}
use Rattle.gc_paths.specs.Taking.{path_entry}
use Rattle.gc_paths.specs.Progress.{Basis, TellsRightly, KnowsWord, Lists, Progress, KeepsTold, IsToldBy, SearchGoesOn}

or_cases : (a b : Bool) → (a || b) ≡ true → (a ≡ true) ⊎ (b ≡ true)
or_cases true b e = inl refl
or_cases false b e = inr e

or_left : (a b : Bool) → a ≡ true → (a || b) ≡ true
or_left true b e = refl
or_left false b e = absurd (cc)

or_right : (a b : Bool) → b ≡ true → (a || b) ≡ true
or_right true b e = refl
or_right false b e = e

pub keeps_itself : (told : List Told) → KeepsTold told told
keeps_itself told i x e = e

pub keeps_more : (told : List Told) (x : Told) → KeepsTold told (told ++ x ∷ [])
keeps_more told x i y e = slice_get-push_old told x i y e

pub keeps_twice : (a b c : List Told) → KeepsTold a b → KeepsTold b c → KeepsTold a c
keeps_twice a b c first second i x e = second i x (first i x e)

-- what is told stays told
pub told_kept : (before now : List Told) (p bound : ℕ) → KeepsTold before now → IsToldBy before p bound → IsToldBy now p bound
told_kept before now p bound keeps by = record { index = by.index; one = by.one; there = keeps by.index by.one by.there; position = by.position; short = by.short }

-- what has a place in a longer list has it there
module _ {D : Type 0} (b : Basis D) (told : List Told) (x : Told) where
  comes_kept : (i p length : ℕ) (from : PathParent) → ComesFrom b.scoped b.table told i p length from → ComesFrom b.scoped b.table (told ++ x ∷ []) i p length from
  comes_kept i p length (parent.FromRoot name) comes = comes
  comes_kept i p length (parent.FromEntry number index) comes = record {
    earlier = comes.earlier;
    holder = comes.holder;
    there = slice_get-push_old told x number comes.holder comes.there;
    shorter = comes.shorter;
    names = comes.names;
  }

module _ {D : Type 0} (b : Basis D) (told : List Told) (bound : ℕ) (tells : TellsRightly b told bound) (x : Told) where
  entry_kept : (i : ℕ) (y : Told) → IsEntry b.scoped b.table b.place told i y → IsEntry b.scoped b.table b.place (told ++ x ∷ []) i y
  entry_kept i y is = record { word = is.word; from = comes_kept b told x i y.position y.entry.length y.entry.parent is.from }

  module _ (fresh : KnowsWord told x.entry.word → ⊥) (is : IsEntry b.scoped b.table b.place told (length told) x) (walk : Walk b.scoped b.table x.entry.length x.position) (level : x.entry.length ≡ bound) (low : bound ≤ length told) where
    each : (i : ℕ) (y : Told) → slice_get (told ++ x ∷ []) i ≡ Some y → IsEntry b.scoped b.table b.place (told ++ x ∷ []) i y
    each i y e = elim (slice_get-push_cases told x i y e) [
      | inl old ↦ entry_kept i y (tells.each i y old)
      | inr (at_end, same) ↦
          subst (λ (j : ℕ). IsEntry b.scoped b.table b.place (told ++ x ∷ []) j y) (sym at_end)
          (subst (λ (z : Told). IsEntry b.scoped b.table b.place (told ++ x ∷ []) (length told) z) same (entry_kept (length told) x is))
    ]

    walks : (i : ℕ) (y : Told) → slice_get (told ++ x ∷ []) i ≡ Some y → Walk b.scoped b.table y.entry.length y.position
    walks i y e = elim (slice_get-push_cases told x i y e) [
      | inl old ↦ tells.walks i y old
      | inr (at_end, same) ↦ subst (λ (z : Told). Walk b.scoped b.table z.entry.length z.position) same walk
    ]

    -- no object that is told has that position
    new_position : Contains (positions told) x.position → ⊥
    new_position c =
        let image = map_among (λ (y : Told). y.position) told x.position c in
        let index = contains_get told image.of image.among in
        let word : Some image.of.entry.word ≡ Some x.entry.word = sym (tells.each index.0 image.of index.1).word ∙ ap b.place image.is ∙ is.word in
        fresh (record { index = index.0; one = image.of; there = index.1; is = same_Some image.of.entry.word x.entry.word word })

    distinct : IsDistinct nat_eq (positions (told ++ x ∷ []))
    distinct = subst (IsDistinct nat_eq) (sym (map_push (λ (y : Told). y.position) told x)) (distinct_push (positions told) x.position tells.distinct new_position)

    rising : (i j : ℕ) (y z : Told) → i < j → slice_get (told ++ x ∷ []) i ≡ Some y → slice_get (told ++ x ∷ []) j ≡ Some z → y.entry.length ≤ z.entry.length
    rising i j y z below at_i at_j = elim (slice_get-push_cases told x j z at_j) [
      | inl old_j ↦ elim (slice_get-push_cases told x i y at_i) [
        | inl old_i ↦ tells.rising i j y z below old_i old_j
        | inr (at_end, same) ↦ let inside = slice_get_within told j z old_j in absurd (omega (arith, inside, at_end, below))
      ]
      | inr (at_end, same) ↦ elim (slice_get-push_cases told x i y at_i) [
        | inl old_i ↦
            let within = tells.within i y old_i in
            let is : x.entry.length ≡ z.entry.length = ap (λ (w : Told). w.entry.length) same in
            omega (arith, within, level, is)
        | inr (at_end', same') ↦ absurd (omega (arith, at_end, at_end', below))
      ]
    ]

    within : (i : ℕ) (y : Told) → slice_get (told ++ x ∷ []) i ≡ Some y → y.entry.length ≤ bound
    within i y e = elim (slice_get-push_cases told x i y e) [
      | inl old ↦ tells.within i y old
      | inr (at_end, same) ↦ let is : x.entry.length ≡ y.entry.length = ap (λ (w : Told). w.entry.length) same in omega (arith, level, is)
    ]

    short : (i : ℕ) (y : Told) → slice_get (told ++ x ∷ []) i ≡ Some y → y.entry.length ≤ i
    short i y e = elim (slice_get-push_cases told x i y e) [
      | inl old ↦ tells.short i y old
      | inr (at_end, same) ↦ let is : x.entry.length ≡ y.entry.length = ap (λ (w : Told). w.entry.length) same in omega (arith, level, is, low, at_end)
    ]

    pub tells_more : TellsRightly b (told ++ x ∷ []) bound
    tells_more = record { each = each; walks = walks; distinct = distinct; rising = rising; within = within; short = short }

module _ {D : Type 0} (layouts : Layouts) (b : Basis D) (told : List Told) (bound count : ℕ) (s : StoreView D) (old : Parts) (progress : Progress layouts b told bound count s old) where
  -- the report has the same parts
  same_lists : (new : Parts) → SameParts old new → Lists s progress.holds.now told new
  same_lists new same = record {
    entries_are = same.entries ∙ progress.lists.entries_are;
    same_count = ap length same.handles ∙ progress.lists.same_count;
    named = λ i x h at_told at_handles. progress.lists.named i x h at_told (ap (λ hs. slice_get hs i) (sym same.handles) ∙ at_handles);
    known = λ word. (λ e. (progress.lists.known word).0 (sym (same.knows word) ∙ e), λ k. same.knows word ∙ (progress.lists.known word).1 k);
  }

  same_progress : (new : Parts) → SameParts old new → Progress layouts b told bound count s new
  same_progress new same = record { holds = progress.holds; lists = same_lists new same; tells = progress.tells; few = progress.few }

  module _ (x : Told) (h : GcRootIndex) (new : Parts) (named : NamesReference s progress.holds.now h (at x.position)) (more : MoreParts old new x.entry h) where
    named_more : (i : ℕ) (y : Told) (g : GcRootIndex) → slice_get (told ++ x ∷ []) i ≡ Some y → slice_get (old.handles ++ h ∷ []) i ≡ Some g → NamesReference s progress.holds.now g (at y.position)
    named_more i y g at_told at_handles = elim (slice_get-push_cases told x i y at_told) [
      | inl old_y ↦ elim (slice_get-push_cases old.handles h i g at_handles) [
        | inl old_g ↦ progress.lists.named i y g old_y old_g
        | inr (at_end, same) ↦ let inside = slice_get_within told i y old_y in let counts = progress.lists.same_count in absurd (omega (arith, inside, at_end, counts))
      ]
      | inr (at_end, same) ↦ elim (slice_get-push_cases old.handles h i g at_handles) [
        | inl old_g ↦ let inside = slice_get_within old.handles i g old_g in let counts = progress.lists.same_count in absurd (omega (arith, inside, at_end, counts))
        | inr (at_end', same') ↦
            subst (λ (f : GcRootIndex). NamesReference s progress.holds.now f (at y.position)) same'
            (subst (λ (z : Told). NamesReference s progress.holds.now h (at z.position)) same named)
      ]
    ]

    known_more : (word : ℕ) → (nat_eq x.entry.word word || old.knows word) ≡ true → KnowsWord (told ++ x ∷ []) word
    known_more word e = elim (or_cases (nat_eq x.entry.word word) (old.knows word) e) [
      | inl new_word ↦ record { index = length told; one = x; there = slice_get-push_new told x; is = eqb-true x.entry.word word new_word }
      | inr old_word ↦
          let knows = (progress.lists.known word).0 old_word in
          record { index = knows.index; one = knows.one; there = slice_get-push_old told x knows.index knows.one knows.there; is = knows.is }
    ]

    more_known : (word : ℕ) → KnowsWord (told ++ x ∷ []) word → (nat_eq x.entry.word word || old.knows word) ≡ true
    more_known word knows = elim (slice_get-push_cases told x knows.index knows.one knows.there) [
      | inl before ↦ or_right (nat_eq x.entry.word word) (old.knows word) ((progress.lists.known word).1 (record { index = knows.index; one = knows.one; there = before; is = knows.is }))
      | inr (at_end, same) ↦ or_left (nat_eq x.entry.word word) (old.knows word) (eq-eqb x.entry.word word (ap (λ (y : Told). y.entry.word) same ∙ knows.is))
    ]

    lists_more : Lists s progress.holds.now (told ++ x ∷ []) new
    lists_more = record {
      entries_are = more.entries ∙ ap (λ es. es ++ x.entry ∷ []) progress.lists.entries_are ∙ sym (map_push (λ (y : Told). y.entry) told x);
      same_count = ap length more.handles ∙ length_push old.handles h ∙ ap (λ n. n + 1) progress.lists.same_count ∙ sym (length_push told x);
      named = λ i y g at_told at_handles. named_more i y g at_told (ap (λ hs. slice_get hs i) (sym more.handles) ∙ at_handles);
      known = λ word. (λ e. known_more word (sym (more.knows word) ∙ e), λ k. more.knows word ∙ more_known word k);
    }

  -- What has to be so of an object that may be told next: it has a walk of the length that is told, over what is told.
  module _ (p : ℕ) (h : GcRootIndex) (from : PathParent) (named : NamesReference s progress.holds.now h (at p)) (comes : ComesFrom b.scoped b.table told (length told) p bound from) (walk : Walk b.scoped b.table bound p) (low : bound ≤ length told) (room : length told < count) where
    object_known : (word : ℕ) (new : Parts) → b.place p ≡ Some word → SameParts old new → old.knows word ≡ true → SearchGoesOn layouts b told bound count s new (λ now. IsToldBy now p bound)
    object_known word new placed same known =
        let knows = (progress.lists.known word).0 known in
        let there = (progress.tells.each knows.index knows.one knows.there).word ∙ ap Some knows.is in
        record {
          told = told;
          kept = keeps_itself told;
          progress = same_progress new same;
          done = record {
            index = knows.index;
            one = knows.one;
            there = knows.there;
            position = progress.holds.there.0.objects.injective knows.one.position p word there placed;
            short = progress.tells.within knows.index knows.one knows.there;
          };
        }

    object_new : (word : ℕ) (new : Parts) → b.place p ≡ Some word → MoreParts old new (path_entry word from bound) h → old.knows word ≡ false → SearchGoesOn layouts b told bound count s new (λ now. IsToldBy now p bound)
    object_new word new placed more unknown =
        let x : Told = record { position = p; entry = path_entry word from bound } in
        record {
          told = told ++ x ∷ [];
          kept = keeps_more told x;
          progress = record {
            holds = progress.holds;
            lists = lists_more x h new named more;
            tells = tells_more b told bound progress.tells x (λ knows. true_not_false (sym ((progress.lists.known word).1 knows) ∙ unknown)) (record { word = placed; from = comes }) walk refl low;
            few = let longer = length_push told x in omega (arith, longer, room);
          };
          done = record { index = length told; one = x; there = slice_get-push_new told x; position = refl; short = omega arith };
        }
      where
        true_not_false : true ≡ false → ⊥
        true_not_false e = cc

    pub object_taken : (word : ℕ) (new : Parts) → b.place p ≡ Some word → Adds old new (path_entry word from bound) h → SearchGoesOn layouts b told bound count s new (λ now. IsToldBy now p bound)
    object_taken word new placed adds = by (old.knows word) refl adds
      where
        by : (k : Bool) → old.knows word ≡ k → MatchBool k (SameParts old new) (MoreParts old new (path_entry word from bound) h) → SearchGoesOn layouts b told bound count s new (λ now. IsToldBy now p bound)
        by true is same = object_known word new placed same is
        by false is more = object_new word new placed more is

  -- a 31-bit number is passed over
  pub number_taken : (new : Parts) (Done : List Told → Type 0) → SameParts old new → Done told → SearchGoesOn layouts b told bound count s new Done
  number_taken new Done same done = record { told = told; kept = keeps_itself told; progress = same_progress new same; done = done }
