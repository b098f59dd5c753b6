-- The owned roots of a store stand for the table's after one was made, or gained or lost a handle, and after a trim.
use Rattle.std.proofs.Common.{◌≡◌, ◌≢◌, ℕ, zero, suc, ◌+◌, ◌<◌, inl, inr, Bool, true, false, not, cond, nat_eq, List, [], ◌∷◌, ◌++◌, map, get_or, set, Some, None, Contains, AllPairs, refl, sym, ap, ◌∙◌, subst, arith}
use Rattle.std.proofs.lemmas.Bool.{cases_eq, cases_lt, eq-eqb, ne_eqb}
use Rattle.std.proofs.lemmas.List.Elements.{Contains-append_cases, Contains-append_left, Contains-append_right, Contains-push, Contains-push_cases, Contains-get_or}
use Rattle.gc_memory.proofs.ListLemmas.{only_item}
use Rattle.std.proofs.lemmas.List.Kept.{AllPairs-filter}
use Rattle.std.proofs.lemmas.List.Quantifiers.{all_pairs_push}
use Rattle.gc_owner.specs.declared.entry.OwnedEntry.{OwnedEntry}
use Rattle.gc_owner.specs.RootColumns as columns
use Rattle.gc_model.specs.Values.{Reference}
use Rattle.gc_model.specs.Table.{Owned}
use Rattle.gc_model.specs.OwnedRoots.{owned_among, handles_changed, handled_roots}
use Rattle.gc_model.specs.Words.{Placing, IsWord}
use Rattle.gc_model.specs.RootPoints.{OwnedRootBy, OwnedBy}
use Rattle.gc_model.proofs.Members.{item_at, map_among, among_map, filter_among, among_filter, filter_all, set_among, among_set_new, among_set_old, pairs_map, pairs_set}

-- a number that isn't 0, by the test
not_none : (n : ℕ) → not (nat_eq n 0) ≡ true → 0 < n
not_none n is = elim (cases_eq n 0) [
  | inl none ↦ absurd (let both : true ≡ false = sym is ∙ ap not (eq-eqb n 0 none) in cc)
  | inr some ↦ omega (arith, some)
]

some_passes : (n : ℕ) → 0 < n → not (nat_eq n 0) ≡ true
some_passes n some = ap not (ne_eqb n 0 (λ none. absurd (omega (arith, none, some))))

module _ (place : Placing) (owns count : ℕ) (owned : List Owned) (entries : List OwnedEntry) (by : OwnedBy place owns count owned entries) where
  -- where no more were made than none, there are none
  pub none_made : count ≡ 0 → (entry : OwnedEntry) → Contains entries entry → ⊥
  none_made none entry c = let early = by.early entry c in let same = by.same_owns in absurd (omega (arith, none, early, same))

  pub none_owned : count ≡ 0 → (root : Owned) → Contains owned root → ⊥
  none_owned none root c = let found = by.in_store root c in none_made none found.0 found.1.0

  -- two of the store with the same number are one
  pub one_place : (a b : OwnedEntry) (c : Contains entries a) (d : Contains entries b) → a.number ≡ b.number → c.0 ≡ d.0
  one_place a b c d same = elim (cases_lt c.0 d.0) [
    | inl less ↦ absurd (lower a b c d same (by.rising c.0 d.0 a less d.1))
    | inr more ↦ elim (cases_eq c.0 d.0) [
      | inl one ↦ one
      | inr differ ↦ absurd (lower b a d c (sym same) (by.rising d.0 c.0 a (omega (arith, more, differ)) c.1))
    ]
  ]
    where
      lower : (x y : OwnedEntry) (c : Contains entries x) (d : Contains entries y) → x.number ≡ y.number → (get_or entries c.0 a).number < (get_or entries d.0 a).number → ⊥
      lower x y c d same less =
          let one = ap (λ (e : OwnedEntry). e.number) (item_at entries x c a) in
          let other = ap (λ (e : OwnedEntry). e.number) (item_at entries y d a) in
          absurd (omega (arith, one, other, same, less))

  one_entry : (a b : OwnedEntry) (c : Contains entries a) (d : Contains entries b) → c.0 ≡ d.0 → a ≡ b
  one_entry a b c d same = sym (item_at entries a c a) ∙ ap (λ n. get_or entries n a) same ∙ item_at entries b d a

  -- One more was made

  module _ (entry : OwnedEntry) (r : Reference) (numbered : entry.number ≡ owns) (one : entry.handles ≡ 1) (is : IsWord place r entry.word) (positive : 0 < entry.word) where
    abbrev new_root : Owned
    new_root = record { number = owns; reference = r; handles = 1 }

    new_stands : OwnedRootBy place entry new_root
    new_stands = record { number = numbered; handles = one; held = omega arith; word = is; not_null = positive }

    pub owned_added : OwnedBy place (owns + 1) (count + 1) (owned ++ new_root ∷ []) (entries ++ entry ∷ [])
    owned_added = record {
      same_owns = ap (λ n. n + 1) by.same_owns;
      in_table = λ e c some. elim (Contains-push_cases entries entry e c) [
        | inl old ↦ let found = by.in_table e old some in (found.0, (Contains-append_left owned (new_root ∷ []) found.0 found.1.0, found.1.1))
        | inr new ↦ (new_root, (Contains-push owned new_root, subst (λ (x : OwnedEntry). OwnedRootBy place x new_root) new new_stands))
      ];
      in_store = λ root c. elim (Contains-push_cases owned new_root root c) [
        | inl old ↦ let found = by.in_store root old in (found.0, (Contains-append_left entries (entry ∷ []) found.0 found.1.0, found.1.1))
        | inr new ↦ (entry, (Contains-push entries entry, subst (λ (x : Owned). OwnedRootBy place entry x) new new_stands))
      ];
      early = λ e c. elim (Contains-push_cases entries entry e c) [
        | inl old ↦ (let early = by.early e old in omega (arith, early))
        | inr new ↦ subst (λ (x : OwnedEntry). x.number < owns + 1) new (omega (arith, numbered))
      ];
      rising = all_pairs_push (λ (a b : OwnedEntry). a.number < b.number) entries entry by.rising
          (λ k d below. let early = by.early (get_or entries k d) (Contains-get_or entries k d below) in omega (arith, early, numbered));
      in_order = all_pairs_push (λ (a b : Owned). a.number < b.number) owned new_root by.in_order
          (λ k d below. let found = by.in_store (get_or owned k d) (Contains-get_or owned k d below) in let early = by.early found.0 found.1.0 in let same = found.1.1.number in omega (arith, early, same));
    }

  -- One gained or lost handles

  module _ (entry : OwnedEntry) (there : Contains entries entry) (some : 0 < entry.handles) (handles : ℕ) (change : ℕ → ℕ) (changes : change entry.handles ≡ handles) where
    abbrev index : ℕ
    index = there.0

    abbrev changed_entry : OwnedEntry
    changed_entry = record entry { handles = handles }

    abbrev changed : Owned → Owned
    changed root = cond (nat_eq root.number entry.number) (record root { handles = change root.handles }) root

    abbrev has_handles : Owned → Bool
    has_handles root = not (nat_eq root.handles 0)

    changed_this : (root : Owned) → root.number ≡ entry.number → changed root ≡ record root { handles = change root.handles }
    changed_this root same = ap (λ b. cond b (record root { handles = change root.handles }) root) (eq-eqb root.number entry.number same)

    changed_other : (root : Owned) → root.number ≢ entry.number → changed root ≡ root
    changed_other root differ = ap (λ b. cond b (record root { handles = change root.handles }) root) (ne_eqb root.number entry.number differ)

    same_number : (root : Owned) → (changed root).number ≡ root.number
    same_number root = elim (nat_eq root.number entry.number) as (λ b. (cond b (record root { handles = change root.handles }) root).number ≡ root.number) [ true ↦ refl | false ↦ refl ]

    changed_stands : (root : Owned) → OwnedRootBy place entry root → 0 < handles → OwnedRootBy place changed_entry (changed root)
    changed_stands root stands positive =
        let same : handles ≡ change root.handles = sym changes ∙ ap change stands.handles in
        subst (λ (x : Owned). OwnedRootBy place changed_entry x) (sym (changed_this root (sym stands.number)))
        (record { number = stands.number; handles = same; held = subst (λ n. 0 < n) same positive; word = stands.word; not_null = stands.not_null })

    other_stands : (e : OwnedEntry) (root : Owned) → OwnedRootBy place e root → e.number ≢ entry.number → OwnedRootBy place e (changed root)
    other_stands e root stands differ = subst (λ (x : Owned). OwnedRootBy place e x) (sym (changed_other root (λ same. differ (stands.number ∙ same)))) stands

    passed : (root : Owned) (e : OwnedEntry) → Contains owned root → OwnedRootBy place e (changed root) → Contains (handled_roots (handles_changed entry.number change owned)) (changed root)
    passed root e c stands = among_filter has_handles (map changed owned) (changed root) (among_map changed owned root c) (some_passes (changed root).handles stands.held)

    pub owned_counted : OwnedBy place owns count (handled_roots (handles_changed entry.number change owned)) (set entries index changed_entry)
    owned_counted = record {
      same_owns = by.same_owns;
      in_table = λ e c positive. elim (set_among entries index changed_entry e there.1 c) [
        | inl new ↦
            let found = by.in_table entry there some in
            let stands = changed_stands found.0 found.1.1 (subst (λ (x : OwnedEntry). 0 < x.handles) (sym new) positive) in
            (changed found.0, (passed found.0 changed_entry found.1.0 stands, subst (λ (x : OwnedEntry). OwnedRootBy place x (changed found.0)) new stands))
        | inr old ↦
            let found = by.in_table e old.0 positive in
            let stands = other_stands e found.0 found.1.1 (λ same. old.1 (one_place e entry old.0 there same)) in
            (changed found.0, (passed found.0 e found.1.0 stands, stands))
      ];
      in_store = λ root c.
          let kept = filter_among has_handles (map changed owned) root c in
          let was = map_among changed owned root kept.0 in
          let found = by.in_store was.of was.among in
          elim (cases_eq found.1.0.0 index) [
            | inl same ↦
                let one : found.0 ≡ entry = one_entry found.0 entry found.1.0 there same in
                let stands : OwnedRootBy place entry was.of = subst (λ (x : OwnedEntry). OwnedRootBy place x was.of) one found.1.1 in
                let count_is : root.handles ≡ handles = ap (λ (x : Owned). x.handles) (sym was.is ∙ changed_this was.of (sym stands.number)) ∙ ap change (sym stands.handles) ∙ changes in
                let positive : 0 < handles = subst (λ n. 0 < n) count_is (not_none root.handles kept.1) in
                (changed_entry, (among_set_new entries index changed_entry there.1, subst (λ (x : Owned). OwnedRootBy place changed_entry x) was.is (changed_stands was.of stands positive)))
            | inr differ ↦ (
              found.0,
              (
                among_set_old entries index changed_entry found.0 found.1.0 differ,
                subst (λ (x : Owned). OwnedRootBy place found.0 x) was.is (other_stands found.0 was.of found.1.1 (λ same. differ (one_place found.0 entry found.1.0 there same))),
              ),
            )
          ];
      early = λ e c. elim (set_among entries index changed_entry e there.1 c) [
        | inl new ↦ subst (λ (x : OwnedEntry). x.number < owns) new (by.early entry there)
        | inr old ↦ by.early e old.0
      ];
      rising = pairs_set (λ m n. m < n) (λ (e : OwnedEntry). e.number) entries index changed_entry entry there refl refl by.rising;
      in_order = AllPairs-filter (λ (a b : Owned). a.number < b.number) has_handles (map changed owned)
          (pairs_map (λ (a b : Owned). a.number < b.number) changed owned (λ i j d less inside.
          subst (λ m. m < (changed (get_or owned j d)).number) (sym (same_number (get_or owned i d)))
          (subst (λ n. (get_or owned i d).number < n) (sym (same_number (get_or owned j d))) (by.in_order i j d less inside))));
    }

    -- where it gained some, none goes
    pub owned_gained : ((n : ℕ) → 0 < n → 0 < change n) → OwnedBy place owns count (handles_changed entry.number change owned) (set entries index changed_entry)
    owned_gained gains = subst (λ (roots : List Owned). OwnedBy place owns count roots (set entries index changed_entry)) (filter_all has_handles (map changed owned) all) owned_counted
      where
        all : (root : Owned) → Contains (map changed owned) root → has_handles root ≡ true
        all root c =
            let was = map_among changed owned root c in
            let held = (by.in_store was.of was.among).1.1.held in
            some_passes root.handles
            (subst (λ (x : Owned). 0 < x.handles) was.is
            (elim (nat_eq was.of.number entry.number) as (λ b. 0 < (cond b (record was.of { handles = change was.of.handles }) was.of).handles) [ true ↦ gains was.of.handles held | false ↦ held ]))

  abbrev held : OwnedEntry → Bool
  held e = not (nat_eq e.handles 0)

  -- a trim drops what stands for nothing
  pub owned_trimmed : OwnedBy place owns count owned (columns.with_handles entries)
  owned_trimmed = record {
    same_owns = by.same_owns;
    in_table = λ e c. by.in_table e (filter_among held entries e c).0;
    in_store = λ root c.
        let found = by.in_store root c in
        (found.0, (among_filter held entries found.0 found.1.0 (some_passes found.0.handles (subst (λ n. 0 < n) (sym found.1.1.handles) found.1.1.held)), found.1.1));
    early = λ e c. by.early e (filter_among held entries e c).0;
    rising = AllPairs-filter (λ (a b : OwnedEntry). a.number < b.number) held entries by.rising;
    in_order = by.in_order;
  }

-- what a trim leaves has handles
pub trimmed_held : (entries : List OwnedEntry) (e : OwnedEntry) → Contains (columns.with_handles entries) e → 0 < e.handles
trimmed_held entries e c = not_none e.handles (filter_among (λ (x : OwnedEntry). not (nat_eq x.handles 0)) entries e c).1

-- What the owned root of a number names

abbrev pub number_of : Owned → ℕ
number_of root = root.number

-- it is found, since no two have the same number
pub owned_found : (owned : List Owned) (root : Owned) → AllPairs (λ (a b : Owned). a.number < b.number) owned → Contains owned root → owned_among root.number owned ≡ Some root.reference
owned_found [] root pairs c = absurd (omega (arith, c.1))
owned_found (x ∷ xs) root pairs c = elim (Contains-append_cases (x ∷ []) xs root c) [
  | inl one ↦
      let is : x ≡ root = only_item x root one in
      ap (λ b. cond b (Some x.reference) (owned_among root.number xs)) (eq-eqb x.number root.number (ap number_of is)) ∙ ap (λ (o : Owned). Some o.reference) is
  | inr later ↦
      let less : x.number < root.number = subst (λ (o : Owned). x.number < o.number) (item_at xs root later x) (pairs zero (suc later.0) x (omega arith) (omega (arith, later.1))) in
      ap (λ b. cond b (Some x.reference) (owned_among root.number xs)) (ne_eqb x.number root.number (λ same. absurd (omega (arith, same, less))))
      ∙ owned_found xs root (λ i j d below inside. pairs (suc i) (suc j) d (omega (arith, below)) (omega (arith, inside))) later
]

-- and where none has the number, nothing is
pub owned_missing : (number : ℕ) (owned : List Owned) → ((root : Owned) → Contains owned root → root.number ≢ number) → owned_among number owned ≡ None
owned_missing number [] none = refl
owned_missing number (x ∷ xs) none =
    ap (λ b. cond b (Some x.reference) (owned_among number xs)) (ne_eqb x.number number (none x (Contains-append_left (x ∷ []) xs x (0, omega arith, refl))))
    ∙ owned_missing number xs (λ root c. none root (Contains-append_right (x ∷ []) xs root c))

-- what is found is one of them
pub owned_one : (number : ℕ) (owned : List Owned) (r : Reference) → owned_among number owned ≡ Some r → (root : Owned) × (Contains owned root × ((root.number ≡ number) × (root.reference ≡ r)))
owned_one number [] r e = absurd (cc)
owned_one number (x ∷ xs) r e = elim (cases_eq x.number number) [
  | inl same ↦
      let here : Some x.reference ≡ Some r = sym (ap (λ b. cond b (Some x.reference) (owned_among number xs)) (eq-eqb x.number number same)) ∙ e in
      (x, (Contains-append_left (x ∷ []) xs x (0, omega arith, refl), (same, grind (arith, here))))
  | inr differ ↦
      let found = owned_one number xs r (sym (ap (λ b. cond b (Some x.reference) (owned_among number xs)) (ne_eqb x.number number differ)) ∙ e) in
      (found.0, (Contains-append_right (x ∷ []) xs found.0 found.1.0, found.1.1))
]
