-- A version that stands alone: what it leaves where it is given up, and what is reached.
use Rattle.std.proofs.Common.{inl, inr, ◌≡◌, ◌≢◌, ◌⊎◌, ◌-◌, ℕ, zero, suc, cond, true, false, List, [], ◌∷◌, ◌++◌, length, map, replicate, Option, Some, None, Contains, refl, sym, ap, ◌∙◌, subst, arith}
use Rattle.std.specs.List.{flat_map, sum_by}
use Rattle.std.proofs.lemmas.Bool.{eq-eqb, ne_eqb}
use Rattle.std.proofs.lemmas.List.{append-nil}
use Rattle.std.proofs.lemmas.List.Elements.{Contains-append_cases, Contains-append_left, Contains-append_right}
use Rattle.std.proofs.lemmas.List.Sums.{sum_by-cons}
use Rattle.gc_types.specs.declared.kind.Layouts.{Layouts}
use Rattle.gc_types.specs.declared.kind.Layouts.TheVariants.{Null, Counting, Copying}
use Rattle.gc_memory.proofs.ListLemmas.{only_item}
use Rattle.gc_model.specs.OwnedRoots.{owned_among, handles_changed, handled_roots}
use Rattle.gc_model.specs.Reach.{HasNumber, IsKept, IsReached, NamesPosition, Reachable, Reached, by_start, by_step, owned_references, present, root_references, slot_references}
use Rattle.gc_model.specs.Stores.{StoreView}
use Rattle.gc_model.specs.Table.{Table, Owned, Scoped, null_slot, global_count, start}
use Rattle.gc_model.specs.Values.{Reference, null, at}
use Rattle.gc_model.specs.Accounts.{Account, HoldsAccount}
use Rattle.gc_model.proofs.HeldSums.{sum_part}
use Rattle.gc_values.specs.declared.root.GcRootIndex.{GcRootIndex}
use Rattle.gc_store.specs.Roots.{owned_handle}
use Rattle.gc_store.specs.Stores.{IsSameStore}
use Rattle.gc_lists.specs.Answers.{HasNewRoot, Releases, owned_with}
use Rattle.gc_lists.specs.Versions.{VersionNames}
use Rattle.gc_lists.proofs.Keeping.{owned_same}
use Rattle.gc_lists.proofs.Sparing.{numbered_before}
use Rattle.gcsh_reports.specs.Filling.{IsAlone, owned_of}
use Rattle.gcsh_reports.specs.FillReports.{HoldsEntries}

-- a root with one handle goes with it, and one of another number stays
drops_first : (n : ℕ) (r : Reference) (rest : List Owned) → handled_roots (handles_changed n (λ m. m - 1) (record { number = n; reference = r; handles = 1 } ∷ rest)) ≡ handled_roots (handles_changed n (λ m. m - 1) rest)
drops_first n r rest = ap (λ b. handled_roots (cond b (record { number = n; reference = r; handles = 0 }) (record { number = n; reference = r; handles = 1 }) ∷ handles_changed n (λ m. m - 1) rest)) (eq-eqb n n refl)

keeps_second : (n k : ℕ) (r : Reference) → k ≢ n → handled_roots (handles_changed n (λ m. m - 1) (record { number = k; reference = r; handles = 1 } ∷ [])) ≡ record { number = k; reference = r; handles = 1 } ∷ []
keeps_second n k r differ = ap (λ b. handled_roots (cond b (record { number = k; reference = r; handles = 0 }) (record { number = k; reference = r; handles = 1 }) ∷ [])) (ne_eqb k n differ)

-- where an owned root was made for a version, and the one before is given up
module _ (layouts : Layouts) (s : StoreView ℕ) (t : Table ℕ) (a : Account) (holds : HoldsAccount layouts s t a) (mid new : StoreView ℕ) (begun : IsSameStore s mid) (over : IsSameStore mid new)
    (made : Option GcRootIndex) (r' : Reference) (has_new : HasNewRoot mid t made) (after : Table ℕ) (b : Account) (held : HoldsAccount layouts mid after b) (owned : after.owned ≡ owned_with t made r') where
  -- the new one is behind the others
  owned_behind : (m : Option GcRootIndex) → HasNewRoot mid t m → owned_with t m r' ≡ t.owned ++ owned_of m r'
  owned_behind None is = sym (append-nil t.owned)
  owned_behind (Some handle) is = ap (λ (h : GcRootIndex). t.owned ++ record { number = h.generation; reference = r'; handles = 1 } ∷ []) (sym is)

  kept_behind : (n : ℕ) (m : Option GcRootIndex) → HasNewRoot mid t m → n ≢ t.owns → handled_roots (handles_changed n (λ k. k - 1) (owned_of m r')) ≡ owned_of m r'
  kept_behind n None is differ = refl
  kept_behind n (Some handle) is differ = keeps_second n handle.generation r' (λ e. differ (sym e ∙ ap (λ (h : GcRootIndex). h.generation) is))

  pub given_up : (version : Option GcRootIndex) (r : Reference) → VersionNames s t version r → t.owned ≡ owned_of version r → Releases layouts mid after b version new → HoldsAccount layouts new (record after { owned = owned_of made r' }) b
  given_up None r names alone releases =
      subst (λ (os : List Owned). HoldsAccount layouts new (record after { owned = os }) b) (owned ∙ owned_behind made has_new ∙ ap (λ (os : List Owned). os ++ owned_of made r') alone) releases
  given_up (Some handle) r names alone (true, (root, (is, holds_new))) =
      let number : root.number ≡ handle.generation = ap (λ (h : GcRootIndex). h.generation) (sym is.is) in
      let named : handle.generation ≡ names.number = ap (λ (h : GcRootIndex). h.generation) names.names in
      let early = numbered_before layouts s t a holds names.number r names.live in
      let differ : handle.generation ≢ t.owns = λ e. absurd (let same = sym named ∙ e in omega (arith, early, same)) in
      let there : after.owned ≡ owned_of (Some handle) r ++ owned_of made r' = owned ∙ owned_behind made has_new ∙ ap (λ (os : List Owned). os ++ owned_of made r') alone in
      subst (λ (os : List Owned). HoldsAccount layouts new (record after { owned = os }) b)
      ((λ i. handled_roots (handles_changed (number i) (λ m. m - 1) (there i))) ∙ drops_first handle.generation r (owned_of made r') ∙ kept_behind handle.generation made has_new differ) holds_new
  given_up (Some handle) r names alone (false, (none, holds_new)) =
      let there : after.owned ≡ owned_of (Some handle) r ++ owned_of made r' = owned ∙ owned_behind made has_new ∙ ap (λ (os : List Owned). os ++ owned_of made r') alone in
      let named : handle ≡ owned_handle s handle.generation = names.names ∙ ap (owned_handle s) (sym (ap (λ (h : GcRootIndex). h.generation) names.names)) in
      absurd (none r (record {
        number = handle.generation;
        names = named ∙ owned_same s mid handle.generation begun;
        live = ap (owned_among handle.generation) there ∙ ap (λ b. cond b (Some r) (owned_among handle.generation (owned_of made r'))) (eq-eqb handle.generation handle.generation refl);
      }))

  -- it names what it named
  pub names_alone : (m : Option GcRootIndex) → VersionNames mid after m r' → VersionNames new (record after { owned = owned_of m r' }) m r'
  names_alone None names = names
  names_alone (Some handle) names = record {
    number = names.number;
    names = names.names ∙ owned_same mid new names.number over;
    live = ap (λ b. cond b (Some r') None) (eq-eqb handle.generation names.number (ap (λ (h : GcRootIndex). h.generation) names.names));
  }

-- no root of a new table names an object
unset : (n p : ℕ) → ¬ Contains (slot_references (replicate n null_slot) ++ []) (at p)
unset zero p among = omega (arith, among.1)
unset (suc n) p among = elim (Contains-append_cases (null ∷ []) (slot_references (replicate n null_slot) ++ []) (at p) among) [
  | inl one ↦ cc (only_item null (at p) one)
  | inr later ↦ unset n p later
]

pub start_names_none : (first scoped owned p : ℕ) → ¬ Contains (root_references (start {D = ℕ} first scoped owned)) (at p)
start_names_none first scoped owned p among = unset global_count p among

-- a list between others
among_parts : {A : Type 0} (xs ys zs os ws : List A) (x : A) → Contains (xs ++ (ys ++ (zs ++ (os ++ ws)))) x → Contains (xs ++ (ys ++ (zs ++ ws))) x ⊎ Contains os x
among_parts xs ys zs os ws x c = elim (Contains-append_cases xs (ys ++ (zs ++ (os ++ ws))) x c) [
  | inl one ↦ inl (Contains-append_left xs (ys ++ (zs ++ ws)) x one)
  | inr c1 ↦ elim (Contains-append_cases ys (zs ++ (os ++ ws)) x c1) [
    | inl one ↦ inl (Contains-append_right xs (ys ++ (zs ++ ws)) x (Contains-append_left ys (zs ++ ws) x one))
    | inr c2 ↦ elim (Contains-append_cases zs (os ++ ws) x c2) [
      | inl one ↦ inl (Contains-append_right xs (ys ++ (zs ++ ws)) x (Contains-append_right ys (zs ++ ws) x (Contains-append_left zs ws x one)))
      | inr c3 ↦ elim (Contains-append_cases os ws x c3) [
        | inl one ↦ inr one
        | inr last ↦ inl (Contains-append_right xs (ys ++ (zs ++ ws)) x (Contains-append_right ys (zs ++ ws) x (Contains-append_right zs ws x last)))
      ]
    ]
  ]
]

-- more starts reach more
reach_more : {A : Type 0} (S S' : A → Type 0) (L : A → A → Type 0) → ((x : A) → S x → S' x) → {x : A} → Reachable S L x → Reachable S' L x
reach_more S S' L more {x} (by_start is) = by_start (more x is)
reach_more S S' L more {x} (by_step before leads) = by_step (reach_more S S' L more before) leads

-- the roots reach what the version does
module _ (t : Table ℕ) (version : Option GcRootIndex) (r : Reference) (s : StoreView ℕ) (names : VersionNames s t version r) (alone : IsAlone t version r) where
  root_is : (v : Option GcRootIndex) (q : ℕ) → Contains (owned_references (owned_of v r)) (at q) → Contains (r ∷ []) (at q)
  root_is None q among = absurd (omega (arith, among.1))
  root_is (Some handle) q among = among

  is_root : (v : Option GcRootIndex) → VersionNames s t v r → (q : ℕ) → Contains (r ∷ []) (at q) → Contains (owned_references (owned_of v r)) (at q)
  is_root None is q among = absurd (cc (sym is ∙ only_item r (at q) among))
  is_root (Some handle) is q among = among

  starts : (q : ℕ) → Contains (root_references t) (at q) → Contains (r ∷ []) (at q)
  starts q among = elim (among_parts (map (λ (root : Scoped). root.reference) t.scoped) (flat_map slot_references t.frames) (slot_references t.globals) (owned_references t.owned) (present t.pending) (at q) among) [
    | inl other ↦ absurd (alone.others q other)
    | inr own ↦ root_is version q (subst (λ (os : List Owned). Contains (owned_references os) (at q)) alone.owned own)
  ]

  starts_back : (q : ℕ) → Contains (r ∷ []) (at q) → Contains (root_references t) (at q)
  starts_back q among =
      let own = subst (λ (os : List Owned). Contains (owned_references os) (at q)) (sym alone.owned) (is_root version names q among) in
      Contains-append_right (map (λ (root : Scoped). root.reference) t.scoped) _ (at q) (Contains-append_right (flat_map slot_references t.frames) _ (at q) (Contains-append_right (slot_references t.globals) _ (at q) (Contains-append_left (owned_references t.owned) (present t.pending) (at q) own)))

  pub reached_alone : (n : ℕ) → HasNumber (Reached t.objects (r ∷ [])) n → HasNumber (IsReached t) n
  reached_alone n (positions, (are, is)) = (
    positions,
    (
      record {
        distinct = are.distinct;
        all = λ p. (
          λ among. reach_more (λ q. Contains (r ∷ []) (at q)) (λ q. Contains (root_references t) (at q)) (NamesPosition t.objects) starts_back ((are.all p).0 among),
          λ reached. (are.all p).1 (reach_more (λ q. Contains (root_references t) (at q)) (λ q. Contains (r ∷ []) (at q)) (NamesPosition t.objects) starts reached),
        );
      },
      is,
    ),
  )

-- a set has one number of elements
sum_ones : (xs : List ℕ) → sum_by (λ (p : ℕ). 1) xs ≡ length xs
sum_ones [] = refl
sum_ones (x ∷ xs) = let one = sum_by-cons (λ (p : ℕ). 1) x xs in let rest = sum_ones xs in omega arith

same_number : (IsIn : ℕ → Type 0) (m n : ℕ) → HasNumber IsIn m → HasNumber IsIn n → m ≡ n
same_number IsIn m n (xs, (first, m_is)) (ys, (second, n_is)) =
    let under = sum_part (λ (p : ℕ). 1) xs ys first.distinct (λ p c. (second.all p).1 ((first.all p).0 c)) in
    let over = sum_part (λ (p : ℕ). 1) ys xs second.distinct (λ p c. (first.all p).1 ((second.all p).0 c)) in
    let xs_long = sum_ones xs in let ys_long = sum_ones ys in
    omega (arith, under, over, xs_long, ys_long, m_is, n_is)

pub holds_entries : (layouts : Layouts) (t : Table ℕ) (entries held : ℕ) → HasNumber (IsReached t) entries → HasNumber (IsKept layouts t) held → HoldsEntries layouts entries held
holds_entries Null t entries held reached kept = tt
holds_entries Counting t entries held reached kept = same_number (IsReached t) held entries kept reached
holds_entries Copying t entries held reached kept = same_number (IsReached t) held entries kept reached
