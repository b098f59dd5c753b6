-- A search at its end: what is told is all to which there is a walk, with the least lengths.
use Rattle.std.proofs.Common.{inl, inr, ◌≡◌, ℕ, ◌+◌, ◌-◌, ◌^◌, ◌≤◌, zero, suc, List, [], ◌∷◌, ◌++◌, length, Some, false, nat_eq, cond, min, refl, sym, ap, ◌∙◌, subst, arith, Contains}
use Rattle.std.specs.Prelude.{sum_by, nat_lt}
use Rattle.std.specs.List.{slice_get, IsDistinct}
use Rattle.std.proofs.lemmas.Bool.{lt-ltb}
use Rattle.std.proofs.lemmas.Bool.Decides.{nat_tests}
use Rattle.std.proofs.lemmas.List.{take_at, length-append}
use Rattle.std.proofs.lemmas.Option.{none-some, same_Some, slice_get_within}
use Rattle.gc_types.specs.declared.kind.Layouts.{Layouts}
use Rattle.gc_model.specs.Values.{at}
use Rattle.gc_model.specs.Reach.{AreAll}
use Rattle.gc_model.specs.Table.{Table, Push, leave}
use Rattle.gc_model.specs.Words.{Placing}
use Rattle.gc_model.specs.Stores.{StoreView}
use Rattle.gc_model.proofs.Members.{get_contains, contains_get, map_among, among_map}
use Rattle.gc_model.proofs.HeldSums.{no_other}
use Rattle.gc_model.specs.Accounts.{Account}
use Rattle.gc_store.specs.OwnedWords.{HoldsThere}
use Rattle.gc_paths.specs.Walks.{start_root, ValueNames, Walk, from_root, from_object, IsWalked, start_references}
use Rattle.gc_values.specs.declared.root.GcRootIndex.{GcRootIndex}
use Rattle.gc_paths.specs.declared.search.Found.{Found}
use Rattle.gc_paths.specs.Left.{FoundAll}
use Rattle.gc_paths.specs.Reports.{Told, positions}
use Rattle.gc_paths.specs.Answers.{LacksRoots, Reports, OnlyPushed, drops_after, present_count, held_count}
use Rattle.gc_paths.specs.Parts.{Parts}
use Rattle.gc_paths.specs.Progress.{Basis, Grown, HoldsGrown, StoppedSearch, Ended, IsToldBy, TellsStarts}
use Rattle.gc_paths.proofs.Growing.{grown_scoped, grown_most}
use Rattle.gc_paths.proofs.Taken.{told_kept}
use Rattle.gc_paths.proofs.ObjectsLoop.{position_at}

-- a number stands once in a list without repetitions
once : (xs : List ℕ) (i j x : ℕ) → IsDistinct nat_eq xs → slice_get xs i ≡ Some x → slice_get xs j ≡ Some x → i ≡ j
unfolding IsDistinct
once [] i j x distinct at_i at_j = absurd (none-some x at_i)
once (y ∷ xs) zero zero x distinct at_i at_j = refl
once (y ∷ xs) zero (suc j) x distinct at_i at_j = absurd (no_other y xs distinct.0 x (get_contains xs j x at_j) (sym (same_Some y x at_i)))
once (y ∷ xs) (suc i) zero x distinct at_i at_j = absurd (no_other y xs distinct.0 x (get_contains xs i x at_i) (sym (same_Some y x at_j)))
once (y ∷ xs) (suc i) (suc j) x distinct at_i at_j = ap suc (once xs i j x distinct.1 at_i at_j)

-- There is room for the roots that stand.
pub room_is : {D : Type 0} (layouts : Layouts) (b : Basis D) (count : ℕ) (s : StoreView D) → HoldsGrown layouts b count s → LacksRoots b.table count → ⊥
room_is layouts b count s holds (inl past) =
    let stand = grown_scoped b.table holds.now count holds.grown in
    let most = grown_most b.table holds.now count holds.grown in
    let within = holds.there.0.scopes.scoped_within in
    omega (arith, past, stand, most, within)
room_is layouts b count s holds (inr (ended, some)) = holds.grown.free some ended

module _ {D : Type 0} (layouts : Layouts) (b : Basis D) (told : List Told) (count : ℕ) (s : StoreView D) (r : Parts) (starts : TellsStarts b told) (ended : Ended layouts b told count s r) where
  -- the object at the end of each walk is told, and no longer
  all_told : {n p : ℕ} → Walk b.scoped b.table n p → IsToldBy ended.told p n
  all_told (from_root {p = p} name c) = told_kept told ended.told p 0 ended.kept (starts (start_root name (at p)) p c refl)
  all_told (from_object {length = n} {q = q} {p = p} index walk names) =
      let by = all_told walk in
      let next = ended.named by.index by.one index p (slice_get_within ended.told by.index by.one by.there) by.there (subst (λ x. ValueNames b.table.objects x index p) (sym by.position) names) in
      let short = by.short in
      let after = next.short in
      record { index = next.index; one = next.one; there = next.there; position = next.position; short = omega (arith, short, after) }

  walked : (p : ℕ) → Contains (positions ended.told) p → IsWalked b.scoped b.table p
  walked p c =
      let image = map_among (λ (x : Told). x.position) ended.told p c in
      let index = contains_get ended.told image.of image.among in
      subst (IsWalked b.scoped b.table) image.is (image.of.entry.length, ended.progress.tells.walks index.0 image.of index.1)

  among : (p : ℕ) → IsWalked b.scoped b.table p → Contains (positions ended.told) p
  among p (n, walk) =
      let by = all_told walk in
      subst (Contains (positions ended.told)) by.position (among_map (λ (x : Told). x.position) ended.told by.one (get_contains ended.told by.index by.one by.there))

  are_all : AreAll (IsWalked b.scoped b.table) (positions ended.told)
  are_all = record { distinct = ended.progress.tells.distinct; all = λ p. (walked p, among p) }

  least : (i : ℕ) (x : Told) → slice_get ended.told i ≡ Some x → (other : ℕ) → Walk b.scoped b.table other x.position → x.entry.length ≤ other
  least i x there other walk =
      let by = all_told walk in
      let same : by.index ≡ i = once (positions ended.told) by.index i x.position ended.progress.tells.distinct (position_at ended.told by.index by.one by.there ∙ ap Some by.position) (position_at ended.told i x there) in
      let one : by.one ≡ x = same_Some by.one x (sym by.there ∙ ap (slice_get ended.told) same ∙ there) in
      let lengths : by.one.entry.length ≡ x.entry.length = ap (λ (y : Told). y.entry.length) one in
      let short = by.short in
      omega (arith, lengths, short)

  pub reported : count ≡ present_count (start_references b.scoped b.table) → (result : List _) → result ≡ r.entries → Reports b.scoped b.table b.place result
  reported count_is result is = record {
    told = ended.told;
    result_is = is ∙ ended.progress.lists.entries_are;
    report = record {
      objects = are_all;
      rising = ended.progress.tells.rising;
      each = ended.progress.tells.each;
      shortest = λ i x e. record { walk = ended.progress.tells.walks i x e; least = least i x e };
    };
    count = ended.total;
    needs = record { walked = positions ended.told; are = are_all; count_is = ended.total_is ∙ ap (λ n. n + sum_by (λ p. held_count (slice_get b.table.objects p)) (positions ended.told)) count_is };
    room = room_is layouts b ended.total s ended.progress.holds;
  }

  -- with the handles of the objects
  pub found_all : count ≡ present_count (start_references b.scoped b.table) → (found : Found) → found.entries.items ≡ r.entries → found.handles.items ≡ r.handles → FoundAll layouts b s found
  unfolding reported
  found_all count_is found entries_are handles_are =
      let all = reported count_is found.entries.items entries_are in
      record {
        told = ended.told;
        entries_are = all.result_is;
        report = all.report;
        count = ended.total;
        needs = all.needs;
        room = all.room;
        holds = ended.progress.holds;
        same_count = ap length handles_are ∙ ended.progress.lists.same_count;
        named = λ i x h there handle. ended.progress.lists.named i x h there (subst (λ (xs : List GcRootIndex). slice_get xs i ≡ Some h) handles_are handle);
      }

-- What is left when the roots are gone

no_pushes : {X : Type 0} (xs : List X) → length xs ≡ 0 → xs ≡ []
no_pushes [] none = refl
no_pushes (x ∷ xs) none = absurd (omega (arith, none))

not_less : (m n : ℕ) → n ≡ 0 → nat_lt m (m + n) ≡ false
not_less m n none = grind (arith, nat_tests, none)

drops_are : (mark count drops : ℕ) (pushes : List Push) → length pushes ≡ count → cond (nat_lt mark (mark + count)) (min (drops + 1) (2 ^ 64 - 1)) drops ≡ drops_after drops pushes
drops_are mark count drops [] is = ap (λ x. cond x (min (drops + 1) (2 ^ 64 - 1)) drops) (not_less mark count (sym is))
drops_are mark count drops (p ∷ ps) is = ap (λ x. cond x (min (drops + 1) (2 ^ 64 - 1)) drops) (lt-ltb mark (mark + count) (omega (arith, is)))

left_table : {D : Type 0} (t now : Table D) (count : ℕ) → (grown : Grown t now count) → leave (length t.scoped) now ≡ record t { pushes = t.pushes ++ grown.pushes; drops = drops_after t.drops grown.pushes }
left_table t now count grown =
    ap (leave (length t.scoped)) grown.is
    ∙ (λ i. record t {
      pushes = t.pushes ++ grown.pushes;
      scoped = take_at t.scoped grown.scoped (length t.scoped) refl i;
      drops = (ap (λ n. cond (nat_lt (length t.scoped) n) (min (t.drops + 1) (2 ^ 64 - 1)) t.drops) (length-append t.scoped grown.scoped ∙ ap (λ n. length t.scoped + n) grown.scoped_count)
          ∙ drops_are (length t.scoped) count t.drops grown.pushes grown.push_count) i;
    })

-- the scope of a search is left
pub pushed_left : {D : Type 0} (layouts : Layouts) (b : Basis D) (mid new : StoreView D) → StoppedSearch layouts b mid
    → ((t : Table D) (place : Placing) (a : Account) → HoldsThere layouts mid t place a → HoldsThere layouts new (leave (length b.table.scoped) t) place a) → OnlyPushed layouts b.table b.place b.account new
pushed_left layouts b mid new (count, holds) leaves = record {
  more = holds.grown.pushes;
  holds = subst (λ (t : Table _). HoldsThere layouts new t b.place b.account) (left_table b.table holds.now count holds.grown) (leaves holds.now b.place b.account holds.there);
}
