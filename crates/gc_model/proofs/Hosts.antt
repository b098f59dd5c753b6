-- The host table has the values of the host objects that are placed, through each change of the table.
use Rattle.std.proofs.Common.{◌≡◌, ◌≢◌, ℕ, ◌+◌, ◌<◌, ◌⊎◌, inl, inr, List, [], ◌∷◌, ◌++◌, length, Option, Some, None, sym, ap, ◌∙◌, refl, subst, arith}
use Rattle.std.specs.List.{slice_get}
use Rattle.std.specs.Ordering.{nat_cmp}
use Rattle.std.specs.FinMap.{FinMap, get, insert, empty, get-empty, same_map, nat_cmp-IsAntisymmetric, gets}
use Rattle.std.specs.Cmp.{nat_cmp_total}
use Rattle.std.proofs.lemmas.Bool.{cases_eq}
use Rattle.std.proofs.lemmas.Grind.{common_steps}
use Rattle.std.proofs.lemmas.Option.{none-some, same_Some, slice_get_within}
use Rattle.gc_view.specs.Bytes.{u32_at}
use Rattle.gc_view.specs.Heaps.{HeapObject}
use Rattle.gc_model.specs.Values.{Value, Object, struct, array, host, exception}
use Rattle.gc_model.specs.Reach.{IsHost}
use Rattle.gc_model.specs.Reads.{host_value}
use Rattle.gc_model.specs.Table.{with_value, change_at}
use Rattle.gc_model.specs.Holds.{Placing, HostStands, IsHostAt, HostsBy}
use Rattle.gc_model.proofs.Lists.{slice_get-push_old, slice_get-push_new, slice_get-push_cases}
use Rattle.gc_model.proofs.Changes.{slice_get-change_at_same, slice_get-change_at_other}
use Rattle.gc_model.proofs.Placings.{IsWithin}

module _ {D : Type 0} where
  -- where there are no objects there is no host value
  pub hosts-empty : (objects : List (Object D)) (place : Placing) (content : FinMap nat_cmp HeapObject) (hosts : FinMap nat_cmp D) → objects ≡ [] → HostsBy objects place content hosts → hosts ≡ empty
  hosts-empty objects place content hosts none by = same_map nat_cmp_total nat_cmp-IsAntisymmetric hosts empty (λ id. no_value id (get hosts id) refl ∙ sym (get-empty nat_cmp id))
    where
      no_value : (id : ℕ) (found : Option D) → get hosts id ≡ found → get hosts id ≡ None
      no_value id None is = is
      no_value id (Some value) is =
          let entry = by.only id value is in
          absurd (none-some (host value) (sym (ap (λ (os : List (Object D)). slice_get os entry.0) none) ∙ entry.1.in_table))

  pub hosts-nil : (objects : List (Object D)) (place : Placing) (content : FinMap nat_cmp HeapObject) (hosts : FinMap nat_cmp D) → objects ≡ [] → hosts ≡ empty → HostsBy objects place content hosts
  hosts-nil objects place content hosts none is = record {
    each = λ position word value placed in_table. absurd (none-some (host value) (sym (ap (λ (os : List (Object D)). slice_get os position) none) ∙ in_table));
    only = λ id value found. absurd (none-some value (sym (get-empty nat_cmp id) ∙ ap (λ (m : FinMap nat_cmp D). get m id) (sym is) ∙ found));
    apart = λ p q id v w is_p is_q. absurd (none-some (host v) (sym (ap (λ (os : List (Object D)). slice_get os p) none) ∙ is_p.in_table));
  }

  -- so it doesn't matter then where objects would lie
  pub hosts-none : (objects : List (Object D)) (place place' : Placing) (content content' : FinMap nat_cmp HeapObject) (hosts : FinMap nat_cmp D) → objects ≡ [] → HostsBy objects place content hosts → HostsBy objects place' content' hosts
  hosts-none objects place place' content content' hosts none by = hosts-nil objects place' content' hosts none (hosts-empty objects place content hosts none by)

was_host : {D : Type 0} (index : ℕ) (v : Value) (o : Object D) → IsHost (Some (with_value index v o)) → IsHost (Some o)
was_host index v (struct ty values) is = is
was_host index v (array ty values) is = is
was_host index v (host value) is = is
was_host index v (exception ty tag values) is = is

module _ {D : Type 0} (objects : List (Object D)) (place : Placing) (content : FinMap nat_cmp HeapObject) where
  -- a host object has one id
  pub host_alone : (p id id' : ℕ) (v v' : D) → IsHostAt objects place content p id v → IsHostAt objects place content p id' v' → id ≡ id'
  host_alone p id id' v v' a b =
      let words : a.word ≡ b.word = same_Some a.word b.word (sym a.placed ∙ b.placed) in
      let same : a.object ≡ b.object = same_Some a.object b.object (sym a.in_heap ∙ ap (get content) words ∙ b.in_heap) in
      let ids : id + 1 ≡ id' + 1 = sym a.stands.id_is ∙ ap (λ (h : HeapObject). u32_at h.bytes 0) same ∙ b.stands.id_is in
      omega (arith, ids)

  -- and its value stands under it
  pub host_held : (hosts : FinMap nat_cmp D) → HostsBy objects place content hosts → (p id : ℕ) (v : D) → IsHostAt objects place content p id v → get hosts id ≡ Some v
  host_held hosts by p id v is =
      let has = by.each p is.word v is.placed is.in_table in
      ap (get hosts) (host_alone p id has.id v v is has.is_at) ∙ has.held

-- The same host objects, with the same ids, have the same values.
pub hosts-carried : {D : Type 0} (objects objects' : List (Object D)) (place place' : Placing) (content content' : FinMap nat_cmp HeapObject)
    → ((p id : ℕ) (v : D) → IsHostAt objects place content p id v → IsHostAt objects' place' content' p id v)
    → ((p id : ℕ) (v : D) → IsHostAt objects' place' content' p id v → IsHostAt objects place content p id v)
    → ((p word : ℕ) (v : D) → place' p ≡ Some word → slice_get objects' p ≡ Some (host v) → (was : ℕ) × ((place p ≡ Some was) × (slice_get objects p ≡ Some (host v))))
    → (hosts : FinMap nat_cmp D) → HostsBy objects place content hosts → HostsBy objects' place' content' hosts
hosts-carried objects objects' place place' content content' after before was hosts by = record {
  each = λ p word v placed in_table.
      let old = was p word v placed in_table in
      let has = by.each p old.0 v old.1.0 old.1.1 in
      record { id = has.id; is_at = after p has.id v has.is_at; held = has.held };
  only = λ id v found. let entry = by.only id v found in (entry.0, after entry.0 id v entry.1);
  apart = λ p q id v w is_p is_q. by.apart p q id v w (before p id v is_p) (before q id w is_q);
}

-- with one more object at a word
module _ {D : Type 0} (objects : List (Object D)) (o : Object D) (place place' : Placing) (word : ℕ) (content content' : FinMap nat_cmp HeapObject) (within : IsWithin place place')
    (back : (p w : ℕ) → p < length objects → place' p ≡ Some w → place p ≡ Some w) (elsewhere : (p w : ℕ) → place p ≡ Some w → w ≢ word) (others : (q : ℕ) → q ≢ word → get content' q ≡ get content q) where
  abbrev more : List (Object D)
  more = objects ++ o ∷ []

  host_after : (p id : ℕ) (v : D) → IsHostAt objects place content p id v → IsHostAt more place' content' p id v
  host_after p id v is = record {
    word = is.word;
    object = is.object;
    in_table = slice_get-push_old objects o p (host v) is.in_table;
    placed = within p is.word is.placed;
    in_heap = others is.word (elsewhere p is.word is.placed) ∙ is.in_heap;
    stands = is.stands;
  }

  host_before : (p id : ℕ) (v : D) → slice_get objects p ≡ Some (host v) → IsHostAt more place' content' p id v → IsHostAt objects place content p id v
  host_before p id v old is =
      let placed : place p ≡ Some is.word = back p is.word (slice_get_within objects p (host v) old) is.placed in
      record {
        word = is.word;
        object = is.object;
        in_table = old;
        placed = placed;
        in_heap = sym (others is.word (elsewhere p is.word placed)) ∙ is.in_heap;
        stands = is.stands;
      }

  -- which is no host object
  pub hosts-added : ¬ IsHost (Some o) → (hosts : FinMap nat_cmp D) → HostsBy objects place content hosts → HostsBy more place' content' hosts
  hosts-added not_host = hosts-carried objects more place place' content content' host_after (λ p id v is. host_before p id v (was_old p v is.in_table) is)
      (λ p w v placed in_table. let old = was_old p v in_table in (w, (back p w (slice_get_within objects p (host v) old) placed, old)))
    where
      was_old : (p : ℕ) (v : D) → slice_get more p ≡ Some (host v) → slice_get objects p ≡ Some (host v)
      was_old p v e = elim (slice_get-push_cases objects o p (host v) e) [
        | inl old ↦ old
        | inr new ↦ absurd (not_host (subst (λ (x : Object D). IsHost (Some x)) (sym new.1) tt))
      ]

  -- or a host object, whose value was put under an id that no value had
  module _ (d : D) (is_host : o ≡ host d) (id : ℕ) (object : HeapObject) (stands : HostStands id object) (here : get content' word ≡ Some object) (placed : place' (length objects) ≡ Some word)
      (hosts : FinMap nat_cmp D) (fresh : get hosts id ≡ None) (by : HostsBy objects place content hosts) where
    new_host : IsHostAt more place' content' (length objects) id d
    new_host = record {
      word = word;
      object = object;
      in_table = slice_get-push_new objects o ∙ ap (λ (x : Object D). Some x) is_host;
      placed = placed;
      in_heap = here;
      stands = stands;
    }

    new_value : (p : ℕ) (v : D) → p ≡ length objects → o ≡ host v → (d ≡ v) × IsHostAt more place' content' p id v
    new_value p v at_end is =
        let same : d ≡ v = same_Some d v (ap host_value (sym is_host ∙ is)) in
        (same, subst (λ (q : ℕ). IsHostAt more place' content' q id v) (sym at_end) (subst (λ (x : D). IsHostAt more place' content' (length objects) id x) same new_host))

    put_there : get (insert hosts id d) id ≡ Some d
    put_there = grind (arith, common_steps, gets)

    put_beside : (q : ℕ) → q ≢ id → get (insert hosts id d) q ≡ get hosts q
    put_beside q other = grind (arith, common_steps, gets)

    -- another value has another id
    other_id : (q : ℕ) (v : D) → get hosts q ≡ Some v → q ≢ id
    other_id q v found same = none-some v (sym fresh ∙ ap (get hosts) (sym same) ∙ found)

    host_cases : (p i : ℕ) (v : D) → IsHostAt more place' content' p i v → IsHostAt objects place content p i v ⊎ ((p ≡ length objects) × (i ≡ id))
    host_cases p i v is = elim (slice_get-push_cases objects o p (host v) is.in_table) [
      | inl old ↦ inl (host_before p i v old is)
      | inr new ↦ inr (new.0, host_alone more place' content' p i id v v is (new_value p v new.0 new.1).1)
    ]

    pub hosts-made : HostsBy more place' content' (insert hosts id d)
    hosts-made = record {
      each = λ p w v placed_at in_table. elim (slice_get-push_cases objects o p (host v) in_table) [
        | inl old ↦
            let has = by.each p w v (back p w (slice_get_within objects p (host v) old) placed_at) old in
            record { id = has.id; is_at = host_after p has.id v has.is_at; held = put_beside has.id (other_id has.id v has.held) ∙ has.held }
        | inr new ↦
            let is = new_value p v new.0 new.1 in
            record { id = id; is_at = is.1; held = put_there ∙ ap (λ (x : D). Some x) is.0 }
      ];
      only = λ q v found. elim (cases_eq q id) [
        | inl same ↦
            let values : d ≡ v = same_Some d v (sym put_there ∙ ap (get (insert hosts id d)) (sym same) ∙ found) in
            (length objects, subst (λ (i : ℕ). IsHostAt more place' content' (length objects) i v) (sym same) (subst (λ (x : D). IsHostAt more place' content' (length objects) id x) values new_host))
        | inr other ↦ let entry = by.only q v (sym (put_beside q other) ∙ found) in (entry.0, host_after entry.0 q v entry.1)
      ];
      apart = λ p q i v w is_p is_q. elim (host_cases p i v is_p) [
        | inl a ↦ elim (host_cases q i w is_q) [
          | inl b ↦ by.apart p q i v w a b
          | inr b ↦ absurd (other_id i v (host_held objects place content hosts by p i v a) b.1)
        ]
        | inr a ↦ elim (host_cases q i w is_q) [
          | inl b ↦ absurd (other_id i w (host_held objects place content hosts by q i w b) a.1)
          | inr b ↦ a.0 ∙ sym b.0
        ]
      ];
    }

-- with another value in an object, which is no host object
module _ {D : Type 0} (objects : List (Object D)) (position index : ℕ) (v : Value) (o : Object D) (object_is : slice_get objects position ≡ Some o) (not_host : ¬ IsHost (Some o)) (place : Placing) (word : ℕ) (placed : place position ≡ Some word)
    (injective : (p q w : ℕ) → place p ≡ Some w → place q ≡ Some w → p ≡ q) (content content' : FinMap nat_cmp HeapObject) (others : (q : ℕ) → q ≢ word → get content' q ≡ get content q) where
  abbrev changed : List (Object D)
  changed = change_at position (with_value index v) objects

  elsewhere : (p w : ℕ) → p ≢ position → place p ≡ Some w → w ≢ word
  elsewhere p w other is same = other (injective p position word (is ∙ ap (λ (x : ℕ). Some x) same) placed)

  host_other : (p : ℕ) (d : D) → slice_get objects p ≡ Some (host d) → p ≢ position
  host_other p d is same = not_host (subst (λ (x : Option (Object D)). IsHost x) (sym is ∙ ap (slice_get objects) same ∙ object_is) tt)

  was_other : (p : ℕ) (d : D) → slice_get changed p ≡ Some (host d) → p ≢ position
  was_other p d is same =
      not_host (was_host index v o (subst (λ (x : Option (Object D)). IsHost x) (sym is ∙ ap (slice_get changed) same ∙ slice_get-change_at_same position (with_value index v) objects o object_is) tt))

  unchanged : (p : ℕ) → p ≢ position → slice_get changed p ≡ slice_get objects p
  unchanged p other = slice_get-change_at_other position (with_value index v) objects p other

  pub hosts-written : (hosts : FinMap nat_cmp D) → HostsBy objects place content hosts → HostsBy changed place content' hosts
  hosts-written = hosts-carried objects changed place place content content'
      (λ p id d is.
      let other = host_other p d is.in_table in
      record { word = is.word; object = is.object; in_table = unchanged p other ∙ is.in_table; placed = is.placed; in_heap = others is.word (elsewhere p is.word other is.placed) ∙ is.in_heap; stands = is.stands })
      (λ p id d is.
      let other = was_other p d is.in_table in
      record {
        word = is.word;
        object = is.object;
        in_table = sym (unchanged p other) ∙ is.in_table;
        placed = is.placed;
        in_heap = sym (others is.word (elsewhere p is.word other is.placed)) ∙ is.in_heap;
        stands = is.stands;
      })
      (λ p w d is in_table. (w, (is, sym (unchanged p (was_other p d in_table)) ∙ in_table)))
