-- References that name nothing but what the roots of a table reach, and tables that have these alone.
use Rattle.std.proofs.Common.{◌≡◌, ℕ, ◌==◌, ◌⊎◌, inl, inr, Bool, true, false, cond, List, [], ◌∷◌, ◌++◌, Some, length, map, length-append, refl, sym, ap, ◌∙◌, subst, arith}
use Rattle.std.specs.List.{All, Contains, flat_map, slice_get}
use Rattle.std.proofs.lemmas.List.Elements.{All-nil, All-cons, All-head, All-tail, All-append, All-map, All-weaker, All-contains}
use Rattle.std.proofs.lemmas.Option.{none-some, same_Some, slice_get_within, slice_get_cases}
use Rattle.std.proofs.lemmas.Bool.{cases_eq}
use Rattle.gc_view.specs.Reach.{by_start, by_step}
use Rattle.gc_model.proofs.Changes.{length-change_at, slice_get-change_at_same, slice_get-change_at_other}
use Rattle.gc_model.proofs.Lists.{slice_get-push_new}
use Rattle.gc_owner.specs.declared.entry.GcClass.{GcClass}
use Rattle.gc_model.specs.Values.{Reference, null, small, at, Value, reference, Object, struct, array, host, exception}
use Rattle.gc_model.specs.Table.{Table, Scoped, Slot, Owned, change_at, with_value}
use Rattle.gc_model.specs.Reach.{value_references, object_values, references_in, slot_references, owned_references, present, root_references, NamesPosition, IsReached}
use Rattle.gc_model.specs.Live.{rooted_among}
use Rattle.gc_laws.proofs.EachLemmas.{get_front, all_of, all_left, all_right, map_all, all_flat, flat_all, all_set}

-- where the roots of one table name positions of a set, and the objects in that set name such, it has all that is reached
reach_within : (t : Table ℕ) (IsIn : ℕ → Type 0) → ((q : ℕ) → Contains (root_references t) (at q) → IsIn q) → ((h q : ℕ) → IsIn h → NamesPosition t.objects h q → IsIn q) → (q : ℕ) → IsReached t q → IsIn q
reach_within t IsIn roots edges q (by_start starts) = roots q starts
reach_within t IsIn roots edges q (by_step {y = h} reached names) = edges h q (reach_within t IsIn roots edges h reached) names

module _ (t : Table ℕ) where
  -- a reference names nothing but what is reached
  abbrev pub Known : Reference → Type 0
  Known r = (q : ℕ) → r ≡ at q → IsReached t q

  -- so of the reference that a value is
  abbrev pub KnownValue : Value → Type 0
  KnownValue v = All Known (value_references v)

  pub known_null : Known null
  known_null = λ q e. absurd (cc e)

  pub known_small : (n : ℕ) → Known (small n)
  known_small n = λ q e. absurd (cc e)

  pub one_known : (r : Reference) → Known r → All Known (r ∷ [])
  one_known r known = All-cons Known r [] known (All-nil Known)

  pub null_known : (c : GcClass) → KnownValue (reference c null)
  null_known c = one_known null known_null

  roots_known : All Known (root_references t)
  roots_known = all_of Known (root_references t) (λ r c q e. by_start (subst (Contains (root_references t)) e c))

  abbrev pub KnownSlot : Slot → Type 0
  KnownSlot slot = Known slot.reference

  abbrev pub KnownRoot : Scoped → Type 0
  KnownRoot root = Known root.reference

  abbrev pub KnownOwned : Owned → Type 0
  KnownOwned root = Known root.reference

  -- the roots of a table, each part by itself
  pub record KnownParts (u : Table ℕ) : Type 0 where
    pub scoped : All KnownRoot u.scoped
    pub frames : All (λ (slots : List Slot). All KnownSlot slots) u.frames
    pub globals : All KnownSlot u.globals
    pub owned : All KnownOwned u.owned
    pub pending : All Known (present u.pending)

  own_parts : All Known (root_references t) → KnownParts t
  own_parts all =
      let scoped = map (λ (root : Scoped). root.reference) t.scoped in
      let frames = flat_map slot_references t.frames in
      let globals = slot_references t.globals in
      let owned = owned_references t.owned in
      let behind_scoped = all_right Known scoped (frames ++ (globals ++ (owned ++ present t.pending))) all in
      let behind_frames = all_right Known frames (globals ++ (owned ++ present t.pending)) behind_scoped in
      let behind_globals = all_right Known globals (owned ++ present t.pending) behind_frames in
      record {
        scoped = map_all Known (λ (root : Scoped). root.reference) t.scoped (all_left Known scoped (frames ++ (globals ++ (owned ++ present t.pending))) all);
        frames = All-weaker (λ (slots : List Slot). All Known (slot_references slots)) (λ (slots : List Slot). All KnownSlot slots) (λ slots known. map_all Known (λ (s : Slot). s.reference) slots known) t.frames
            (flat_all Known slot_references t.frames (all_left Known frames (globals ++ (owned ++ present t.pending)) behind_scoped));
        globals = map_all Known (λ (s : Slot). s.reference) t.globals (all_left Known globals (owned ++ present t.pending) behind_frames);
        owned = map_all Known (λ (root : Owned). root.reference) t.owned (all_left Known owned (present t.pending) behind_globals);
        pending = all_right Known owned (present t.pending) behind_globals;
      }

  pub parts_known : KnownParts t
  parts_known = own_parts roots_known

  parts_roots : (u : Table ℕ) → KnownParts u → All Known (root_references u)
  parts_roots u parts =
      let scoped = map (λ (root : Scoped). root.reference) u.scoped in
      let frames = flat_map slot_references u.frames in
      let globals = slot_references u.globals in
      let owned = owned_references u.owned in
      All-append Known scoped (frames ++ (globals ++ (owned ++ present u.pending))) (All-map Known (λ (root : Scoped). root.reference) u.scoped parts.scoped)
      (All-append Known frames (globals ++ (owned ++ present u.pending))
      (all_flat Known slot_references u.frames (All-weaker (λ (slots : List Slot). All KnownSlot slots) (λ (slots : List Slot). All Known (slot_references slots)) (λ slots known. All-map Known (λ (s : Slot). s.reference) slots known) u.frames parts.frames))
      (All-append Known globals (owned ++ present u.pending) (All-map Known (λ (s : Slot). s.reference) u.globals parts.globals)
      (All-append Known owned (present u.pending) (All-map Known (λ (root : Owned). root.reference) u.owned parts.owned) parts.pending)))

  -- the values of an object that is reached
  pub object_known : (p : ℕ) (o : Object ℕ) → IsReached t p → slice_get t.objects p ≡ Some o → All KnownValue (object_values o)
  object_known p o reached there =
      flat_all Known value_references (object_values o) (all_of Known (references_in o) (λ r c q e. by_step reached (record { object = o; there = there; among = subst (Contains (references_in o)) e c })))

  -- a root that is found among those of the table
  pub rooted_known : (serial : ℕ) (roots : List Scoped) (r : Reference) → All KnownRoot roots → rooted_among serial roots ≡ Some r → Known r
  rooted_known serial [] r known found = absurd (none-some r found)
  rooted_known serial (root ∷ roots) r known found =
      elim (root.serial == serial) as (λ (b : Bool). cond b (Some root.reference) (rooted_among serial roots) ≡ Some r → Known r) [
        | true ↦ λ e. subst Known (same_Some root.reference r e) (All-head KnownRoot root roots known)
        | false ↦ λ e. rooted_known serial roots r (All-tail KnownRoot root roots known) e
      ] found

  -- tables whose roots name such alone, and whose objects are those of the table
  pub record Stays (u : Table ℕ) : Type 0 where
    pub parts : KnownParts u
    pub objects : u.objects ≡ t.objects

  pub own_stays : Stays t
  own_stays = record { parts = parts_known; objects = refl }

  pub stays_reached : (u : Table ℕ) → Stays u → (q : ℕ) → IsReached u q → IsReached t q
  stays_reached u stays =
      reach_within u (IsReached t) (λ q c. All-contains Known (root_references u) (at q) (parts_roots u stays.parts) c q refl)
      (λ h q reached names. by_step reached (subst (λ (objects : List (Object ℕ)). NamesPosition objects h q) stays.objects names))

  -- a value of an object is written that names such alone
  pub written_reached : (u : Table ℕ) (position i : ℕ) (v : Value) → KnownValue v → root_references u ≡ root_references t → u.objects ≡ change_at position (with_value i v) t.objects → (q : ℕ) → IsReached u q → IsReached t q
  written_reached u position i v known roots objects =
      reach_within u (IsReached t) (λ q c. by_start (subst (λ (rs : List Reference). Contains rs (at q)) roots c)) edges
    where
      named : (h q : ℕ) (o : Object ℕ) → IsReached t h → slice_get t.objects h ≡ Some o → Contains (references_in (with_value i v o)) (at q) → IsReached t q
      named h q o reached there among =
          All-contains Known (references_in (with_value i v o)) (at q)
          (all_flat Known value_references (object_values (with_value i v o)) (written_values o (object_known h o reached there))) among q refl
        where
          written_values : (o : Object ℕ) → All KnownValue (object_values o) → All KnownValue (object_values (with_value i v o))
          written_values (struct ty values) all = all_set KnownValue values i v all known
          written_values (array ty values) all = all_set KnownValue values i v all known
          written_values (host n) all = all
          written_values (exception ty tag values) all = all_set KnownValue values i v all known

      edges : (h q : ℕ) → IsReached t h → NamesPosition u.objects h q → IsReached t q
      edges h q reached names =
          let there = ap (λ (os : List (Object ℕ)). slice_get os h) (sym objects) ∙ names.there in
          elim (cases_eq h position) [
            | inl same ↦ elim ((slice_get_cases t.objects h).1) [
              | inl found ↦
                  let changed : with_value i v found.0 ≡ names.object =
                  same_Some (with_value i v found.0) names.object (sym (ap (λ (n : ℕ). slice_get (change_at position (with_value i v) t.objects) n) same ∙ slice_get-change_at_same position (with_value i v) t.objects found.0 (sym (ap (slice_get t.objects) same) ∙ found.2)) ∙ there) in
                  named h q found.0 reached found.2 (subst (λ (o : Object ℕ). Contains (references_in o) (at q)) (sym changed) names.among)
              | inr past ↦ absurd (let inside = slice_get_within (change_at position (with_value i v) t.objects) h names.object there in omega (arith, inside, past.0, length-change_at position (with_value i v) t.objects))
            ]
            | inr differ ↦ by_step reached (record { object = names.object; there = sym (slice_get-change_at_other position (with_value i v) t.objects h differ) ∙ there; among = names.among })
          ]

  -- an object is made that names such alone, and a root for it
  pub made_reached : (u : Table ℕ) (o : Object ℕ) → All KnownValue (object_values o) → ((q : ℕ) → Contains (root_references u) (at q) → IsReached t q ⊎ (q ≡ length t.objects)) → u.objects ≡ t.objects ++ o ∷ [] → (q : ℕ) → IsReached u q → IsReached t q ⊎ (q ≡ length t.objects)
  made_reached u o known roots objects = reach_within u (λ (q : ℕ). IsReached t q ⊎ (q ≡ length t.objects)) roots edges
    where
      edges : (h q : ℕ) → IsReached t h ⊎ (h ≡ length t.objects) → NamesPosition u.objects h q → IsReached t q ⊎ (q ≡ length t.objects)
      edges h q found names =
          let there = ap (λ (os : List (Object ℕ)). slice_get os h) (sym objects) ∙ names.there in
          let inside = slice_get_within (t.objects ++ o ∷ []) h names.object there in
          elim (cases_eq h (length t.objects)) [
            | inl last ↦
                let is : o ≡ names.object = same_Some o names.object (sym (ap (slice_get (t.objects ++ o ∷ [])) last ∙ slice_get-push_new t.objects o) ∙ there) in
                inl (All-contains Known (references_in o) (at q) (all_flat Known value_references (object_values o) known) (subst (λ (x : Object ℕ). Contains (references_in x) (at q)) (sym is) names.among) q refl)
            | inr differ ↦ elim found [
              | inl reached ↦ inl (by_step reached (record { object = names.object; there = get_front t.objects o h names.object (omega (arith, inside, length-append t.objects (o ∷ []))) there; among = names.among }))
              | inr last ↦ absurd (differ last)
            ]
          ]
