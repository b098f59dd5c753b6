-- Making objects: their layouts are such as heaps take, and with its root each leaves a heap in which a
-- collection may begin.
use Rattle.std.proofs.Common.{◌≡◌, ℕ, ◌+◌, ◌-◌, ◌<◌, ◌^◌, ◌≤◌, inl, inr, Bool, true, false, List, [], ◌∷◌, ◌++◌, length, replicate, Some, Contains, refl, sym, ap, ◌∙◌, subst, arith}
use Rattle.std.specs.Int.{w32, to_le_bytes}
use Rattle.std.specs.FinMap.{get, insert}
use Rattle.std.proofs.lemmas.Nat.{from_le_bytes-to_le_bytes_4}
use Rattle.std.proofs.lemmas.Bool.{cases_eq}
use Rattle.std.proofs.lemmas.Option.{same_Some}
use Rattle.std.proofs.lemmas.List.{length-replicate, length-append, append_assoc}
use Rattle.std.proofs.lemmas.List.Elements.{Contains-append_cases, Contains-append_left, Contains-append_right}
use Rattle.gc_types.specs.declared.kind.Layouts.{Layouts}
use Rattle.gc_types.specs.declared.kind.Layouts.TheVariants.{Null, Counting, Copying}
use Rattle.gc_types.specs.declared.kind.VMGcKind.TheVariants.{ArrayRef, ExternRef}
use Rattle.gc_types.specs.declared.layout.GcStructLayout.{GcStructLayout}
use Rattle.gc_types.specs.declared.layout.GcArrayLayout.{GcArrayLayout}
use Rattle.gc_types.specs.Declarations.{Declaration}
use Rattle.gc_types.specs.Layouts.{struct_base, array_base, layout_at, array_layout_at}
use Rattle.gc_roots.specs.Roots.{Root, root}
use Rattle.gc_view.specs.Sizes.{stored_size}
use Rattle.gc_view.specs.Heaps.{HeapObject, HeapView}
use Rattle.gc_view.proofs.Content.{get-put_same, get-put_other}
use Rattle.gc_view.proofs.Layouts.{stored_size-le}
use Rattle.gc_heap.specs.Objects.{first_offset, array_length}
use Rattle.gc_heap.specs.Content.{IsHeap}
use Rattle.gc_heap.specs.Heap.{AddsObject, exn_or_struct, new_struct, new_array, array_size}
use Rattle.gc_heap.specs.Collection.{CanCollect, AreCounted, stack_words, has_host}
use Rattle.gc_heap.proofs.AddedLemmas.{start, IsBlank, OwnsHost, array_bases, blank_struct, blank_array, blank_external, owns_none, external_id}
use Rattle.gc_heap.proofs.MadeLemmas.{can_collect_made}
use Rattle.gc_heap.proofs.TakenLayouts.{taken_layout, taken_array}
use Rattle.gc_heap.proofs.CountLemmas.{held-append, words-append}
use Rattle.gc_owner.specs.RootColumns.{RootsView, scoped_words, owned_words, frame_slot_words, global_words, listed_as, roots_of, with_scoped}
use Rattle.gc_owner.specs.declared.allocate.Description.{Description}
use Rattle.gc_owner.specs.declared.allocate.Description.TheVariants as of
use Rattle.gc_owner.specs.Owners.{OwnerView}
use Rattle.gc_owner.specs.Makes.{Describes}
use Rattle.gc_owner.specs.Tries.{DescribesDeclared}
use Rattle.gc_owner.specs.Tracing.{IsTraced, AreTraced, IsCollectable}
use Rattle.gc_owner.proofs.Begins.{with_memory, memory_same}
use Rattle.gc_owner.proofs.ListedRoots.{listed-append, listed_present}
use Rattle.gc_owner.proofs.OwnerLemmas.{scoped_more}

-- Roots in another order

rotated_words : (xs ys : List Root) (w : ℕ) → Contains (stack_words (ys ++ xs)) w → Contains (stack_words (xs ++ ys)) w
rotated_words xs ys w among =
    subst (λ ws. Contains ws w) (sym (words-append (λ (r : Root). r.on_stack) xs ys))
    (elim (Contains-append_cases (stack_words ys) (stack_words xs) w (subst (λ ws. Contains ws w) (words-append (λ (r : Root). r.on_stack) ys xs) among)) [
      | inl one ↦ Contains-append_right (stack_words xs) (stack_words ys) w one
      | inr other ↦ Contains-append_left (stack_words xs) (stack_words ys) w other
    ])

rotated_counts : (layouts : Layouts) (types : List Declaration) (h : HeapView) (xs ys : List Root) → AreCounted layouts types h (xs ++ ys) → AreCounted layouts types h (ys ++ xs)
rotated_counts Null types h xs ys exact = tt
rotated_counts Counting types h xs ys exact = record {
  counted = λ q n is. let names = exact.counted q n is in let one = held-append q xs ys in let other = held-append q ys xs in omega arith;
  shown = λ q held among. exact.shown q held (rotated_words xs ys q among);
}
rotated_counts Copying types h xs ys exact = tt

-- the order of roots doesn't matter
pub rotated : (layouts : Layouts) (types : List Declaration) (h : HeapView) (xs ys : List Root) (hosts : ℕ → Bool) → IsCollectable layouts types h (xs ++ ys) hosts → IsCollectable layouts types h (ys ++ xs) hosts
rotated layouts types h xs ys hosts can = record {
  traced = can.traced;
  collects = record {
    attached = refl;
    open_scopes = can.collects.open_scopes;
    roots = λ r among. elim (Contains-append_cases ys xs r among) [
      | inl one ↦ can.collects.roots r (Contains-append_right xs ys r one)
      | inr other ↦ can.collects.roots r (Contains-append_left xs ys r other)
    ];
    fields = can.collects.fields;
    typed = can.collects.typed;
    hosts = can.collects.hosts;
    own_hosts = can.collects.own_hosts;
    counts = rotated_counts layouts types (with_memory h) xs ys can.collects.counts;
  };
}

-- New objects are traced

zeros_size : (base size : ℕ) → base ≤ size → base + length (replicate {A = ℕ} (size - base) 0) ≡ size
zeros_size base size le = let count : length (replicate {A = ℕ} (size - base) 0) ≡ size - base = length-replicate {A = ℕ} (size - base) 0 in omega arith

-- an object that may be made: blank, of a declared type, and the only one of its host value
pub record IsMakeable (layouts : Layouts) (types : List Declaration) (h : HeapView) (hosts : ℕ → Bool) (o : HeapObject) : Type 0 where
  pub blank : IsBlank layouts types o
  pub traced : IsTraced layouts types o
  pub owns : OwnsHost hosts h o

module _ (layouts : Layouts) (types : List Declaration) (old new : HeapView) (word size : ℕ) (o : HeapObject) (adds : AddsObject layouts old new word o size) where
  content_is : new.content ≡ insert old.content word o
  content_is = ap (λ (h : HeapView). h.content) adds.added

  all_traced : IsTraced layouts types o → AreTraced layouts types old → AreTraced layouts types new
  all_traced made traced q x is = elim (cases_eq q word) [
    | inl at ↦ subst (IsTraced layouts types) (same_Some o x (sym (get-put_same old.content word o) ∙ ap (λ m. get m word) (sym content_is) ∙ ap (get new.content) (sym at) ∙ is)) made
    | inr other ↦ traced q x (sym (get-put_other old.content word q o other) ∙ ap (λ m. get m q) (sym content_is) ∙ is)
  ]

  -- a collection may begin from the new object and the roots that there were
  made_kept : (roots : List Root) (hosts : ℕ → Bool) → IsHeap layouts old → old.attached ≡ true → IsMakeable layouts types old hosts o → IsCollectable layouts types old roots hosts → IsCollectable layouts types new (roots ++ root 0 false word ∷ []) hosts
  made_kept roots hosts heap attached is can =
      let can_old = subst (λ h. CanCollect layouts (start h roots types hosts)) (memory_same old attached) can.collects in
      let still : new.attached ≡ true = ap (λ (h : HeapView). h.attached) adds.added ∙ attached in
      record {
        traced = all_traced is.traced can.traced;
        collects = subst (λ h. CanCollect layouts (start h (roots ++ root 0 false word ∷ []) types hosts)) (sym (memory_same new still)) (can_collect_made layouts types old new roots 0 word o size hosts adds heap can_old is.blank is.owns);
      }

  -- and from its scoped root and the roots of an owner
  pub made_scoped : (r : RootsView) (hosts : ℕ → Bool) → IsHeap layouts old → old.attached ≡ true → IsMakeable layouts types old hosts o → IsCollectable layouts types old (roots_of r) hosts
      → IsCollectable layouts types new (roots_of (with_scoped word r)) hosts
  made_scoped r hosts heap attached is can =
      let scoped : List Root = listed_as 0 false (scoped_words r) in
      let behind : List Root = listed_as 1 false (owned_words r) ++ (listed_as 2 true (frame_slot_words r) ++ (listed_as 3 false (global_words r) ++ listed_as 4 false (r.pending ∷ []))) in
      let one : List Root = root 0 false word ∷ [] in
      let more : listed_as 0 false (scoped_words (with_scoped word r)) ≡ scoped ++ one =
      ap (listed_as 0 false) (scoped_more word r) ∙ listed-append 0 false (scoped_words r) (word ∷ []) ∙ ap (λ rs. scoped ++ rs) (listed_present 0 false word [] adds.fresh.not_null) in
      subst (λ rs. IsCollectable layouts types new (rs ++ behind) hosts) (sym more)
      (rotated layouts types new behind (scoped ++ one) hosts
      (subst (λ rs. IsCollectable layouts types new rs hosts) (append_assoc behind scoped one)
      (made_kept (behind ++ scoped) hosts heap attached is (rotated layouts types old scoped behind hosts can))))

base_first : (layouts : Layouts) (is_exception : Bool) → struct_base layouts ≤ first_offset layouts (exn_or_struct is_exception)
base_first Null true = omega arith
base_first Null false = omega arith
base_first Counting true = omega arith
base_first Counting false = omega arith
base_first Copying true = omega arith
base_first Copying false = omega arith

not_external : (is_exception : Bool) → exn_or_struct is_exception ≡ ExternRef → ⊥
not_external true e = absurd (cc)
not_external false e = absurd (cc)

array_is : ArrayRef ≡ ExternRef → ⊥
array_is e = cc

module _ (layouts : Layouts) (types : List Declaration) (h : HeapView) (hosts : ℕ → Bool) where
  struct_makeable : (ty : ℕ) (layout : GcStructLayout) → layout_at layouts types ty ≡ Some layout → IsMakeable layouts types h hosts (new_struct layouts ty layout)
  struct_makeable ty layout declared =
      let taken = taken_layout layouts types ty layout declared in
      let least = taken.least in
      let base = base_first layouts layout.is_exception in
      let stored = stored_size-le layouts layout.size in
      record {
        blank = blank_struct layouts types ty layout declared;
        traced = inr (inl (record { layout = layout; declared = declared; kind = refl; size = zeros_size (struct_base layouts) (stored_size layouts layout.size) (omega arith); spare = refl }));
        owns = owns_none hosts h (new_struct layouts ty layout) (not_external layout.is_exception);
      }

  array_makeable : (ty count : ℕ) (layout : GcArrayLayout) → count < 2 ^ 32 → array_layout_at layouts types ty ≡ Some layout → IsMakeable layouts types h hosts (new_array layouts ty count layout)
  array_makeable ty count layout small declared =
      let o : HeapObject = new_array layouts ty count layout in
      let size : ℕ = stored_size layouts (array_size layout count) in
      let zeros : ℕ = size - array_base layouts in
      let taken = taken_array layouts types ty layout declared in
      let least : array_base layouts ≤ layout.base_size = taken.least in
      let stored : array_size layout count ≤ size = stored_size-le layouts (array_size layout count) in
      let bases = array_bases layouts in
      let bytes : length (to_le_bytes w32 count ++ replicate {A = ℕ} zeros 0) ≡ 4 + zeros = length-append (to_le_bytes w32 count) (replicate zeros 0) ∙ ap (λ n. 4 + n) (length-replicate zeros 0) in
      let counted : array_length o ≡ count = from_le_bytes-to_le_bytes_4 count small in
      let whole : struct_base layouts + length o.bytes ≡ size = omega arith in
      record {
        blank = blank_array layouts types ty count layout small declared;
        traced = inr (inr (record { layout = layout; declared = declared; kind = refl; size = whole ∙ ap (λ n. stored_size layouts (array_size layout n)) (sym counted); spare = refl }));
        owns = owns_none hosts h o array_is;
      }

-- what is described may be made
pub makeable : {D : Type 0} (layouts : Layouts) (v : OwnerView D) (d : Description) (o : HeapObject) (size : ℕ) → Describes layouts v d o size → IsMakeable layouts v.types.declarations v.heap (has_host v.hosts) o
makeable layouts v (of.Object ty layout) o size (declared, (is, sized)) =
    subst (IsMakeable layouts v.types.declarations v.heap (has_host v.hosts)) (sym is) (struct_makeable layouts v.types.declarations v.heap (has_host v.hosts) ty layout.now declared)
makeable layouts v (of.Array ty count layout) o size (declared, (small, (is, sized))) =
    subst (IsMakeable layouts v.types.declarations v.heap (has_host v.hosts)) (sym is) (array_makeable layouts v.types.declarations v.heap (has_host v.hosts) ty count layout.now small declared)
makeable layouts v (of.External id) o size (free, (is, sized)) =
    subst (IsMakeable layouts v.types.declarations v.heap (has_host v.hosts)) (sym is) (record {
      blank = blank_external layouts v.types.declarations id;
      traced = inl refl;
      owns = record {
        there = λ _. ap (has_host v.hosts) (external_id id free.small) ∙ free.there;
        own = λ _ q x ext same. free.unused q x ext (same ∙ external_id id free.small);
      };
    })

-- and the types tell it
pub told : {D : Type 0} (layouts : Layouts) (v : OwnerView D) (d : Description) (o : HeapObject) (size : ℕ) → Describes layouts v d o size → DescribesDeclared layouts v.types.declarations d o size
told layouts v (of.Object ty layout) o size (declared, (is, sized)) = (declared, (is, sized))
told layouts v (of.Array ty count layout) o size (declared, (small, (is, sized))) = (declared, (is, sized))
told layouts v (of.External id) o size (free, (is, sized)) = (is, sized)
