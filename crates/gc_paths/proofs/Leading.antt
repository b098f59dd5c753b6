-- The path to an entry by the parents of a report is a path to its object.
use Rattle.std.proofs.Common.{inl, inr, ◌≡◌, ℕ, ◌+◌, ◌-◌, zero, suc, nat_eq, List, [], ◌∷◌, ◌++◌, length, reverse, position, nat_lt, cond, Some, None, option_map, refl, sym, ap, ◌∙◌, subst, arith, eqb-true, eq-eqb}
use Rattle.std.specs.List.{slice_get, position_or_len}
use Rattle.std.proofs.lemmas.Bool.{cases_lt, lt-ltb, le-ltb}
use Rattle.std.proofs.lemmas.List.{append_assoc, reverse-append, map_push, length_push}
use Rattle.std.proofs.lemmas.List.Sums.{fails_before_first, passes_at_first}
use Rattle.std.proofs.lemmas.Option.{none-some, same_Some, slice_get_within, slice_get-map, slice_get_cases, get_or_from_slice_get, cond_some}
use Rattle.gc_model.proofs.Lists.{slice_get-push_old, slice_get-push_new, slice_get-push_cases}
use Rattle.gc_model.proofs.Members.{map_among, contains_get}
use Rattle.gc_store.specs.declared.root_words.RootName.{RootName}
use Rattle.gc_paths.specs.declared.entry.PathEntry.{PathEntry}
use Rattle.gc_paths.specs.declared.entry.PathParent.{PathParent}
use Rattle.gc_paths.specs.declared.entry.PathParent.TheVariants as parent
use Rattle.gc_paths.specs.Reports.{Told, ComesFrom, IsEntry, IsReport, told_entries}
use Rattle.gc_paths.specs.Walks.{ValueNames, IsWalked, IsLeast}
use Rattle.gc_paths.specs.Progress.{Basis}
use Rattle.gc_paths.specs.Targets.{IsPath, PathOf, at_root, at_entry, behind_parent, AreEarlier}

-- what has a place in a longer list has it there
module _ {D : Type 0} (b : Basis D) (told : List Told) (x : Told) where
  comes_kept : (i p length : ℕ) (from : PathParent) → ComesFrom b.scoped b.table told i p length from → ComesFrom b.scoped b.table (told ++ x ∷ []) i p length from
  comes_kept i p length (parent.FromRoot name) comes = comes
  comes_kept i p length (parent.FromEntry number index) comes = record {
    earlier = comes.earlier;
    holder = comes.holder;
    there = slice_get-push_old told x number comes.holder comes.there;
    shorter = comes.shorter;
    names = comes.names;
  }

-- An entry by its word

module _ (word : ℕ) where
  pub found_entry : (es : List PathEntry) (k : ℕ) → position (λ (e : PathEntry). nat_eq e.word word) es ≡ Some k → (e : PathEntry) × ((slice_get es k ≡ Some e) × (e.word ≡ word))
  found_entry es k found =
      let n = position_or_len (λ (e : PathEntry). nat_eq e.word word) es in
      let first = cond_some (nat_lt n (length es)) n k found in
      elim (cases_lt n (length es)) [
        | inl inside ↦ elim ((slice_get_cases es n).1) [
          | inl there ↦ (
            there.0,
            (
              subst (λ (i : ℕ). slice_get es i ≡ Some there.0) first.1 there.2,
              eqb-true there.0.word word (ap (λ (e : PathEntry). nat_eq e.word word) (sym there.3) ∙ passes_at_first (λ (e : PathEntry). nat_eq e.word word) es there.0 inside),
            ),
          )
          | inr past ↦ absurd (let over = past.0 in omega (arith, inside, over))
        ]
        | inr past ↦ absurd (cc (sym first.0 ∙ le-ltb n (length es) past))
      ]

  pub no_entry : (es : List PathEntry) → position (λ (e : PathEntry). nat_eq e.word word) es ≡ None → (k : ℕ) (e : PathEntry) → slice_get es k ≡ Some e → e.word ≡ word → ⊥
  no_entry es none k e there is =
      let n = position_or_len (λ (x : PathEntry). nat_eq x.word word) es in
      elim (cases_lt n (length es)) [
        | inl inside ↦ none-some n (sym (ap (λ v. cond v (Some n) None) (sym (lt-ltb n (length es) inside)) ∙ none))
        | inr past ↦
            let within = slice_get_within es k e there in
            let fails = fails_before_first (λ (x : PathEntry). nat_eq x.word word) es k e (omega (arith, within, past)) in
            let same = ap (λ (x : PathEntry). nat_eq x.word word) (get_or_from_slice_get es k e e there) in
            absurd (cc (sym (eq-eqb e.word word is) ∙ sym same ∙ fails))
      ]

-- The path that the loop goes back

-- the path goes on before what was gone back
pub path_back : (es : List PathEntry) (last : ℕ) (path : List PathEntry) (n : ℕ) (e : PathEntry) (number index : ℕ) → slice_get es n ≡ Some e → e.parent ≡ parent.FromEntry number index
    → ((front : List PathEntry) → PathOf es n front → PathOf es last (front ++ reverse path))
    → (front : List PathEntry) → PathOf es number front → PathOf es last (front ++ reverse (path ++ behind_parent e.word e.length index ∷ []))
path_back es last path n e number index there is goes front before =
    let b = behind_parent e.word e.length index in
    subst (PathOf es last) (append_assoc front (b ∷ []) (reverse path) ∙ ap (λ (xs : List PathEntry). front ++ xs) (sym (reverse-append path (b ∷ []))))
    (goes (front ++ b ∷ []) (at_entry e index there is before))

-- and begins at a root
pub path_begun : (es : List PathEntry) (last : ℕ) (path : List PathEntry) (n : ℕ) (e : PathEntry) (name : RootName) → slice_get es n ≡ Some e → e.parent ≡ parent.FromRoot name
    → ((front : List PathEntry) → PathOf es n front → PathOf es last (front ++ reverse path))
    → PathOf es last (reverse (path ++ e ∷ []))
path_begun es last path n e name there is goes =
    subst (PathOf es last) (sym (reverse-append path (e ∷ []))) (goes (e ∷ []) (at_root e name there is))

-- The entries of a report

told_at : (told : List Told) (n : ℕ) (e : PathEntry) → slice_get (told_entries told) n ≡ Some e → (x : Told) × ((slice_get told n ≡ Some x) × (x.entry ≡ e))
told_at told n e there =
    elim ((slice_get_cases told n).1) [
      | inl found ↦ (found.0, (found.2, same_Some found.0.entry e (sym (ap (option_map (λ (x : Told). x.entry)) found.2) ∙ sym (slice_get-map (λ (x : Told). x.entry) told n) ∙ there)))
      | inr past ↦ absurd (none-some e (sym (ap (option_map (λ (x : Told). x.entry)) past.1) ∙ sym (slice_get-map (λ (x : Told). x.entry) told n) ∙ there))
    ]

one_told : (x : Told) (i : ℕ) (y : Told) → slice_get (x ∷ []) i ≡ Some y → (i ≡ 0) × (x ≡ y)
one_told x zero y e = (refl, same_Some x y e)
one_told x (suc i) y e = absurd (none-some y e)

module _ {D : Type 0} (b : Basis D) (told : List Told) (report : IsReport b.scoped b.table b.place told) where
  -- what the parent of an entry tells
  from_parent : (n : ℕ) (x : Told) → slice_get told n ≡ Some x → (from : PathParent) → x.entry.parent ≡ from → ComesFrom b.scoped b.table told n x.position x.entry.length from
  from_parent n x there from is = subst (λ (f : PathParent). ComesFrom b.scoped b.table told n x.position x.entry.length f) is (report.each n x there).from

  pub are_earlier : AreEarlier (told_entries told)
  are_earlier n e number index there is =
      let x = told_at told n e there in
      let comes = from_parent n x.0 x.1.0 (parent.FromEntry number index) (ap (λ (y : PathEntry). y.parent) x.1.1 ∙ is) in
      let shorter = comes.shorter in
      let lengths : x.0.entry.length ≡ e.length = ap (λ (y : PathEntry). y.length) x.1.1 in
      (comes.earlier, omega (arith, shorter, lengths))

  -- the path to an entry that is told
  pub record Leading (n : ℕ) (path : List PathEntry) : Type 0 where
    pub walk : List Told
    pub path_is : path ≡ told_entries walk
    pub last : Told
    pub there : slice_get told n ≡ Some last
    pub is_path : IsPath b.scoped b.table b.place walk last.position
    pub same_length : is_path.target.entry.length ≡ last.entry.length

  begins : (n : ℕ) (e : PathEntry) (name : RootName) → slice_get (told_entries told) n ≡ Some e → e.parent ≡ parent.FromRoot name → Leading n (e ∷ [])
  begins n e name there is =
      let x = told_at told n e there in
      let root = ap (λ (y : PathEntry). y.parent) x.1.1 ∙ is in
      let comes = from_parent n x.0 x.1.0 (parent.FromRoot name) root in
      let none : x.0.entry.length ≡ 0 = comes.0 in
      let entry : IsEntry b.scoped b.table b.place (x.0 ∷ []) 0 x.0 = record {
        word = (report.each n x.0 x.1.0).word;
        from = subst (λ (f : PathParent). ComesFrom b.scoped b.table (x.0 ∷ []) 0 x.0.position x.0.entry.length f) (sym root) comes;
      } in
      record {
        walk = x.0 ∷ [];
        path_is = ap (λ (y : PathEntry). y ∷ []) (sym x.1.1);
        last = x.0;
        there = x.1.0;
        is_path = record {
          each = λ i y here. let one = one_told x.0 i y here in
              subst (λ (j : ℕ). IsEntry b.scoped b.table b.place (x.0 ∷ []) j y) (sym one.0) (subst (IsEntry b.scoped b.table b.place (x.0 ∷ []) 0) one.1 entry);
          shortest = λ i y here. subst (λ (z : Told). IsLeast b.scoped b.table z.entry.length z.position) (one_told x.0 i y here).1 (report.shortest n x.0 x.1.0);
          lengths = λ i y here. let one = one_told x.0 i y here in sym (ap (λ (z : Told). z.entry.length) one.1) ∙ none ∙ sym one.0;
          target = x.0;
          at_last = subst (λ (j : ℕ). slice_get (x.0 ∷ []) j ≡ Some x.0) (sym none) refl;
          none_behind = omega (arith, none);
          position = refl;
        };
        same_length = refl;
      }

  goes_on : (n number : ℕ) (path : List PathEntry) (e : PathEntry) (index : ℕ) → slice_get (told_entries told) n ≡ Some e → e.parent ≡ parent.FromEntry number index → Leading number path → Leading n (path ++ behind_parent e.word e.length index ∷ [])
  goes_on n number path e index there is before =
      let x = told_at told n e there in
      let comes = from_parent n x.0 x.1.0 (parent.FromEntry number index) (ap (λ (y : PathEntry). y.parent) x.1.1 ∙ is) in
      let same_holder : comes.holder ≡ before.last = same_Some comes.holder before.last (sym comes.there ∙ before.there) in
      let z : Told = record { position = x.0.position; entry = behind_parent x.0.entry.word x.0.entry.length index } in
      let target = before.is_path.target in
      let shorter : x.0.entry.length ≡ target.entry.length + 1 = comes.shorter ∙ ap (λ (y : Told). y.entry.length + 1) same_holder ∙ ap (λ m. m + 1) (sym before.same_length) in
      let count = before.is_path.none_behind in
      let long : length before.walk ≡ x.0.entry.length = count ∙ sym shorter in
      let back : x.0.entry.length - 1 ≡ target.entry.length = omega (arith, shorter) in
      let entry : IsEntry b.scoped b.table b.place (before.walk ++ z ∷ []) (length before.walk) z = record {
        word = (report.each n x.0 x.1.0).word;
        from = comes_kept b before.walk z (length before.walk) z.position z.entry.length z.entry.parent (record {
          earlier = omega (arith, shorter, count);
          holder = target;
          there = subst (λ (j : ℕ). slice_get before.walk j ≡ Some target) (sym back) before.is_path.at_last;
          shorter = shorter;
          names = subst (λ (p : ℕ). ValueNames b.table.objects p index x.0.position) (ap (λ (y : Told). y.position) same_holder ∙ sym before.is_path.position) comes.names;
        });
      } in
      record {
        walk = before.walk ++ z ∷ [];
        path_is = ap (λ (xs : List PathEntry). xs ++ behind_parent e.word e.length index ∷ []) before.path_is
            ∙ ap (λ (y : PathEntry). told_entries before.walk ++ behind_parent y.word y.length index ∷ []) (sym x.1.1) ∙ sym (map_push (λ (y : Told). y.entry) before.walk z);
        last = x.0;
        there = x.1.0;
        is_path = record {
          each = λ i y here. elim (slice_get-push_cases before.walk z i y here) [
            | inl old ↦ let is_old = before.is_path.each i y old in record { word = is_old.word; from = comes_kept b before.walk z i y.position y.entry.length y.entry.parent is_old.from }
            | inr (at_end, same) ↦ subst (λ (j : ℕ). IsEntry b.scoped b.table b.place (before.walk ++ z ∷ []) j y) (sym at_end) (subst (IsEntry b.scoped b.table b.place (before.walk ++ z ∷ []) (length before.walk)) same entry)
          ];
          shortest = λ i y here. elim (slice_get-push_cases before.walk z i y here) [
            | inl old ↦ before.is_path.shortest i y old
            | inr (at_end, same) ↦ subst (λ (w : Told). IsLeast b.scoped b.table w.entry.length w.position) same (report.shortest n x.0 x.1.0)
          ];
          lengths = λ i y here. elim (slice_get-push_cases before.walk z i y here) [
            | inl old ↦ before.is_path.lengths i y old
            | inr (at_end, same) ↦ sym (ap (λ (w : Told). w.entry.length) same) ∙ sym long ∙ sym at_end
          ];
          target = z;
          at_last = subst (λ (j : ℕ). slice_get (before.walk ++ z ∷ []) j ≡ Some z) long (slice_get-push_new before.walk z);
          none_behind = length_push before.walk z ∙ ap (λ m. m + 1) long;
          position = refl;
        };
        same_length = refl;
      }

  leading : {n : ℕ} {path : List PathEntry} → PathOf (told_entries told) n path → Leading n path
  leading (at_root {n = n} e name there is) = begins n e name there is
  leading (at_entry {n = n} {number = number} {path = path} e index there is before) = goes_on n number path e index there is (leading before)

  module _ (p word : ℕ) (placed : b.place p ≡ Some word) (alone : (q : ℕ) → b.place q ≡ Some word → q ≡ p) where
    -- the path to the entry with an object's word leads to that object
    pub leads_there : (k : ℕ) (path : List PathEntry) → position (λ (e : PathEntry). nat_eq e.word word) (told_entries told) ≡ Some k → PathOf (told_entries told) k path
        → (walk : List Told) × ((path ≡ told_entries walk) × IsPath b.scoped b.table b.place walk p)
    leads_there k path found by =
        let e = found_entry word (told_entries told) k found in
        let all = leading by in
        let x = told_at told k e.0 e.1.0 in
        let same : x.0 ≡ all.last = same_Some x.0 all.last (sym x.1.0 ∙ all.there) in
        let there : b.place x.0.position ≡ Some word = (report.each k x.0 x.1.0).word ∙ ap Some (ap (λ (y : PathEntry). y.word) x.1.1 ∙ e.1.1) in
        let is : all.last.position ≡ p = sym (ap (λ (y : Told). y.position) same) ∙ alone x.0.position there in
        (all.walk, (all.path_is, subst (IsPath b.scoped b.table b.place all.walk) is all.is_path))

    -- where no entry has the word, there is no walk to the object
    pub leads_nowhere : position (λ (e : PathEntry). nat_eq e.word word) (told_entries told) ≡ None → IsWalked b.scoped b.table p → ⊥
    leads_nowhere none walked =
        let among = (report.objects.all p).1 walked in
        let image = map_among (λ (x : Told). x.position) told p among in
        let index = contains_get told image.of image.among in
        let there : slice_get (told_entries told) index.0 ≡ Some image.of.entry = slice_get-map (λ (x : Told). x.entry) told index.0 ∙ ap (option_map (λ (x : Told). x.entry)) index.1 in
        let same : Some image.of.entry.word ≡ Some word = sym (report.each index.0 image.of index.1).word ∙ ap b.place image.is ∙ placed in
        no_entry word (told_entries told) none index.0 image.of.entry there (same_Some image.of.entry.word word same)
