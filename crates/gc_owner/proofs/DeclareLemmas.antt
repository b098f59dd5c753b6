-- One more type leaves what a collection follows.
use Rattle.std.proofs.Common.{◌≡◌, ℕ, zero, suc, ◌+◌, ◌%◌, nat_eq, inl, inr, Bool, true, false, List, [], ◌∷◌, ◌++◌, length, Option, None, Some, Result, Ok, Err, OnOk, OnErr, IfOk, map, cond, Contains, refl, sym, ap, ◌∙◌, subst}
use Rattle.std.specs.List.{slice_get}
use Rattle.std.specs.Option.{option_map}
use Rattle.std.specs.FinMap.{FinMap, get}
use Rattle.std.specs.Ordering.{nat_cmp}
use Rattle.std.proofs.lemmas.Option.{none-some}
use Rattle.gc_types.specs.declared.kind.Layouts.{Layouts}
use Rattle.gc_types.specs.declared.kind.Layouts.TheVariants.{Null, Counting, Copying}
use Rattle.gc_types.specs.declared.kind.VMGcKind.{VMGcKind}
use Rattle.gc_types.specs.declared.kind.VMGcKind.TheVariants.{ExternRef, AnyRef, EqRef, StructRef, ArrayRef, ExnRef}
use Rattle.gc_types.specs.declared.layout.GcStructLayout.{GcStructLayout}
use Rattle.gc_types.specs.declared.layout.GcArrayLayout.{GcArrayLayout}
use Rattle.gc_types.specs.declared.types.TypeFault.{TypeFault}
use Rattle.gc_types.specs.declared.types.TypeFault.TheVariants.{BadType, Memory}
use Rattle.gc_types.specs.Declarable.{Declarable}
use Rattle.gc_types.specs.Declarations.{Declaration, TypeTable, TypeName, with_declaration, declaration_elem}
use Rattle.gc_types.specs.Layouts.{declaration_trace, declaration_layout, array_layout, layout_at, array_layout_at}
use Rattle.gc_refs.specs.Trace.{form_of}
use Rattle.gc_roots.specs.Roots.{Root}
use Rattle.gc_view.specs.Heaps.{HeapObject, HeapView}
use Rattle.gc_heap.specs.References.{reference_offsets, typed_offsets, info_offsets, bitmap_offsets, element_offsets, references, word_in, HoldsType, HoldsLayout, HoldsArrayLayout}
use Rattle.gc_heap.specs.Rules.{IsTyped}
use Rattle.gc_heap.specs.Objects.{held_size, array_length}
use Rattle.gc_heap.specs.Content.{IsHeap, IsSpare}
use Rattle.gc_heap.proofs.TotalLemmas.{total-same}
use Rattle.gc_heap.specs.Collection.{Stage, Start, AreCounted, names_of, occurrences, held_words, has_host}
use Rattle.gc_heap.proofs.AgainLemmas.{external_offsets}
use Rattle.gc_owner.specs.RootColumns.{RootsView, roots_of}
use Rattle.gc_owner.specs.Owners.{OwnerView, OwnerValue, InOrder, owner_value}
use Rattle.gc_owner.specs.Declares.{AppendsType}
use Rattle.gc_owner.specs.Tracing.{IsTraced, IsCollectable}
use Rattle.gc_owner.proofs.OwnerLemmas.{heap_kind, ready_at, idle_at, in_order}

-- a declared type is the same in the longer table
struct_kept : (layouts : Layouts) (types : List Declaration) (d : Declaration) (ty : ℕ) (layout : GcStructLayout) → layout_at layouts types ty ≡ Some layout → slice_get (types ++ d ∷ []) ty ≡ slice_get types ty
struct_kept layouts [] d ty layout e = absurd (none-some layout e)
struct_kept layouts (x ∷ types) d zero layout e = refl
struct_kept layouts (x ∷ types) d (suc ty) layout e = struct_kept layouts types d ty layout e

array_kept : (layouts : Layouts) (types : List Declaration) (d : Declaration) (ty : ℕ) (layout : GcArrayLayout) → array_layout_at layouts types ty ≡ Some layout → slice_get (types ++ d ∷ []) ty ≡ slice_get types ty
array_kept layouts [] d ty layout e = absurd (none-some layout e)
array_kept layouts (x ∷ types) d zero layout e = refl
array_kept layouts (x ∷ types) d (suc ty) layout e = array_kept layouts types d ty layout e

-- What one more type leaves of an object.
record KeepsObject (layouts : Layouts) (types types' : List Declaration) (o : HeapObject) : Type 0 where
  offsets : reference_offsets layouts types' o ≡ reference_offsets layouts types o
  typed : IsTyped layouts types o → IsTyped layouts types' o
  traced : IsTraced layouts types' o

module _ (types types' : List Declaration) (o : HeapObject) (same : slice_get types' o.ty ≡ slice_get types o.ty) where
  typed_same : (layouts : Layouts) (k : VMGcKind) → typed_offsets layouts types' o k ≡ typed_offsets layouts types o k
  typed_same layouts ExternRef = refl
  typed_same layouts AnyRef = refl
  typed_same layouts EqRef = refl
  typed_same layouts StructRef = ap (λ d. info_offsets layouts o (declaration_trace layouts d)) same
  typed_same layouts ArrayRef = ap (λ d. info_offsets layouts o (declaration_trace layouts d)) same
  typed_same layouts ExnRef = ap (λ d. info_offsets layouts o (declaration_trace layouts d)) same

  -- an object whose type is the same has its references where they were
  offsets_same : (layouts : Layouts) → reference_offsets layouts types' o ≡ reference_offsets layouts types o
  offsets_same Null = typed_same Null o.kind
  offsets_same Counting = typed_same Counting o.kind
  offsets_same Copying =
      ap (λ (xs : List ℕ). cond (nat_eq (form_of o.spare) 0) (bitmap_offsets o.spare) (cond (nat_eq (form_of o.spare) 1) (cond (nat_eq (o.spare % 2) 1) (element_offsets Copying o) []) xs)) (typed_same Copying o.kind)

  holds_type : (layouts : Layouts) (k : VMGcKind) → HoldsType layouts types o k → HoldsType layouts types' o k
  holds_type layouts ExternRef typed = typed
  holds_type layouts AnyRef typed = typed
  holds_type layouts EqRef typed = typed
  holds_type layouts StructRef typed = subst (HoldsLayout false (held_size layouts o)) (sym (ap (declaration_layout layouts) same)) typed
  holds_type layouts ArrayRef typed = subst (HoldsArrayLayout (array_length o) (held_size layouts o)) (sym (ap (λ d. option_map (array_layout layouts) (declaration_elem d)) same)) typed
  holds_type layouts ExnRef typed = subst (HoldsLayout true (held_size layouts o)) (sym (ap (declaration_layout layouts) same)) typed

  is_typed : (layouts : Layouts) → IsTyped layouts types o → IsTyped layouts types' o
  is_typed Null typed = holds_type Null o.kind typed
  is_typed Counting typed = holds_type Counting o.kind typed
  is_typed Copying typed = λ form. holds_type Copying o.kind (typed form)

-- an external object has no type
typed_external : (layouts : Layouts) (types : List Declaration) (o : HeapObject) → o.kind ≡ ExternRef → IsTyped layouts types o
typed_external Null types o is = subst (HoldsType Null types o) (sym is) tt
typed_external Counting types o is = subst (HoldsType Counting types o) (sym is) tt
typed_external Copying types o is = λ form. subst (HoldsType Copying types o) (sym is) tt

keeps_object : (layouts : Layouts) (types : List Declaration) (d : Declaration) (o : HeapObject) → IsSpare layouts o → IsTraced layouts types o → KeepsObject layouts types (types ++ d ∷ []) o
keeps_object layouts types d o spare (inl external) = record {
  offsets = external_offsets layouts (types ++ d ∷ []) o external spare ∙ sym (external_offsets layouts types o external spare);
  typed = λ typed. typed_external layouts (types ++ d ∷ []) o external;
  traced = inl external;
}
keeps_object layouts types d o spare (inr (inl struct)) =
    let same = struct_kept layouts types d o.ty struct.layout struct.declared in
    record {
      offsets = offsets_same types (types ++ d ∷ []) o same layouts;
      typed = is_typed types (types ++ d ∷ []) o same layouts;
      traced = inr (inl (record { layout = struct.layout; declared = ap (declaration_layout layouts) same ∙ struct.declared; kind = struct.kind; size = struct.size; spare = struct.spare }));
    }
keeps_object layouts types d o spare (inr (inr array)) =
    let same = array_kept layouts types d o.ty array.layout array.declared in
    record {
      offsets = offsets_same types (types ++ d ∷ []) o same layouts;
      typed = is_typed types (types ++ d ∷ []) o same layouts;
      traced = inr (inr (record {
        layout = array.layout;
        declared = ap (λ x. option_map (array_layout layouts) (declaration_elem x)) same ∙ array.declared;
        kind = array.kind;
        size = array.size;
        spare = array.spare;
      }));
    }

alike : (f g : HeapObject → ℕ) (o : Option HeapObject) → ((x : HeapObject) → o ≡ Some x → f x ≡ g x) → option_map f o ≡ option_map g o
alike f g None same = refl
alike f g (Some x) same = ap Some (same x refl)

module _ (layouts : Layouts) (types : List Declaration) (d : Declaration) (h : HeapView) (roots : List Root) (hosts : ℕ → Bool) (heap : IsHeap layouts h) (can : IsCollectable layouts types h roots hosts) where
  keeps : (word : ℕ) (o : HeapObject) → get h.content word ≡ Some o → KeepsObject layouts types (types ++ d ∷ []) o
  keeps word o held = keeps_object layouts types d o (heap.objects word o held).spare (can.traced word o held)

  references_same : (word : ℕ) (o : HeapObject) → get h.content word ≡ Some o → references layouts (types ++ d ∷ []) o ≡ references layouts types o
  references_same word o held = ap (map (word_in layouts o)) (keeps word o held).offsets

  names_same : (q : ℕ) → names_of layouts (types ++ d ∷ []) h roots q ≡ names_of layouts types h roots q
  names_same q =
      ap (λ n. n + occurrences q (held_words roots))
      (total-same (λ o. occurrences q (references layouts (types ++ d ∷ []) o)) (λ o. occurrences q (references layouts types o)) h.content h.content
      (λ p. alike _ _ (get h.content p) (λ o held. ap (occurrences q) (references_same p o held))))

counted_more : (layouts : Layouts) (types : List Declaration) (d : Declaration) (h : HeapView) (roots : List Root) (hosts : ℕ → Bool) → IsHeap layouts h → IsCollectable layouts types h roots hosts → AreCounted layouts types (record h { attached = true }) roots
    → AreCounted layouts (types ++ d ∷ []) (record h { attached = true }) roots
counted_more Null types d h roots hosts heap can exact = tt
counted_more Counting types d h roots hosts heap can exact = record {
  counted = λ place n e. exact.counted place n e ∙ sym (names_same Counting types d h roots hosts heap can place);
  shown = exact.shown;
}
counted_more Copying types d h roots hosts heap can exact = tt

-- a collection may begin after one more type was declared
collectable_more : (layouts : Layouts) (types : List Declaration) (d : Declaration) (h : HeapView) (roots : List Root) (hosts : ℕ → Bool) → IsHeap layouts h → IsCollectable layouts types h roots hosts → IsCollectable layouts (types ++ d ∷ []) h roots hosts
collectable_more layouts types d h roots hosts heap can =
    let collects = can.collects in
    record {
      traced = λ word o held. (keeps layouts types d h roots hosts heap can word o held).traced;
      collects = record {
        attached = collects.attached;
        open_scopes = collects.open_scopes;
        roots = collects.roots;
        fields = λ place o word held among. collects.fields place o word held (subst (λ ws. Contains ws word) (references_same layouts types d h roots hosts heap can place o held) among);
        typed = λ place o held. (keeps layouts types d h roots hosts heap can place o held).typed (collects.typed place o held);
        hosts = collects.hosts;
        own_hosts = collects.own_hosts;
        counts = counted_more layouts types d h roots hosts heap can collects.counts;
      };
    }

-- what a type table ensures of a declaration
pub record TypesDeclare (d : Declaration) (old new : TypeTable) (r : Result TypeName TypeFault) : Type 0 where
  pub declared : OnOk r (new ≡ with_declaration d old)
  pub named : IfOk r (λ ty. ty ≡ record { engine = old.engine; number = old.number; index = length old.declarations })
  pub declarable : OnOk r (Declarable old.declarations d)
  pub bad : r ≡ Err BadType → ¬ Declarable old.declarations d
  pub err : OnErr r (new ≡ old)

table_more : (layouts : Layouts) (d : Declaration) (old new : TypeTable) (h : HeapView) (roots : List Root) (hosts : ℕ → Bool) (r : Result TypeName TypeFault) → IsHeap layouts h → TypesDeclare d old new r → IsCollectable layouts old.declarations h roots hosts
    → IsCollectable layouts new.declarations h roots hosts
table_more layouts d old new h roots hosts (Ok ty) heap did can =
    subst (λ (t : TypeTable). IsCollectable layouts t.declarations h roots hosts) (sym did.declared) (collectable_more layouts old.declarations d h roots hosts heap can)
table_more layouts d old new h roots hosts (Err e) heap did can = subst (λ (t : TypeTable). IsCollectable layouts t.declarations h roots hosts) (sym did.err) can

declares : {D : Type 0} (d : Declaration) (old : OwnerView D) (types : TypeTable) (r : Result TypeName TypeFault) → TypesDeclare d old.types types r → AppendsType old (record old { types = types }) d r
declares d old types (Ok ty) did = (did.declarable, (did.named, ap (λ (t : TypeTable). record old { types = t }) did.declared))
declares d old types (Err BadType) did = (did.bad refl, ap (λ (t : TypeTable). record old { types = t }) did.err)
declares d old types (Err Memory) did = ap (λ (t : TypeTable). record old { types = t }) did.err

-- The same of an owner by its parts
module _ {H S D : Type 0} (layouts : Layouts) (seen : H → HeapView) (sound : H → Type 0) (under_way : Start → ℕ → Bool → Stage H S → Type 0)
    (heap : H) (types : TypeTable) (hosts : FinMap nat_cmp D) (roots : RootsView) (last : ℕ) (state : Option S) (is_heap : (h : H) → sound h → IsHeap layouts (seen h))
    (now : OwnerValue H S D) (order : InOrder (heap_kind layouts seen sound under_way) (owner_value (seen heap) types hosts roots last heap state) state)
    (is : owner_value (seen heap) types hosts roots last heap state ≡ now) (idle : now.seen.idle ≡ true) (d : Declaration) (types' : TypeTable) (r : Result TypeName TypeFault) (did : TypesDeclare d types types' r) where
  pub declared_order : InOrder (heap_kind layouts seen sound under_way) (owner_value (seen heap) types' hosts roots last heap state) state
  declared_order =
      let ready = ready_at layouts seen sound under_way heap types hosts roots last state now order is idle in
      in_order (heap_kind layouts seen sound under_way) (owner_value (seen heap) types' hosts roots last heap state) state (idle_at layouts seen sound under_way heap types hosts roots last state now is idle) (record {
        sound = ready.sound;
        can = table_more layouts d types types' (seen heap) (roots_of roots) (has_host hosts) r (is_heap heap ready.sound) did ready.can;
        unlisted = ready.unlisted;
        unused = ready.unused;
        placed = ready.placed;
      })

  pub declared_seen : AppendsType now.seen (owner_value (seen heap) types' hosts roots last heap state).seen d r
  declared_seen =
      subst (λ (v : OwnerValue H S D). AppendsType v.seen (owner_value (seen heap) types' hosts roots last heap state).seen d r) is
      (declares d (owner_value (seen heap) types hosts roots last heap state).seen types' r did)
