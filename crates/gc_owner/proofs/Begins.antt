-- What a collection, a growth and a write leave of the condition of the next collection.
use Rattle.std.proofs.Common.{◌≡◌, ℕ, ◌+◌, ◌%◌, ◌<◌, ◌⊎◌, inl, inr, Bool, true, false, List, Some, Result, Ok, Err, Contains, refl, sym, ap, ◌∙◌, subst, arith}
use Rattle.std.specs.Prelude.{OnOk, OnErr}
use Rattle.std.specs.FinMap.{get, insert}
use Rattle.std.proofs.lemmas.Bool.{cases_eq}
use Rattle.std.proofs.lemmas.Bool.Decides.{nat_tests}
use Rattle.std.proofs.lemmas.Option.{same_Some}
use Rattle.gc_types.specs.declared.kind.Layouts.{Layouts}
use Rattle.gc_types.specs.declared.kind.Layouts.TheVariants.{Null, Counting, Copying}
use Rattle.gc_types.specs.Declarations.{Declaration}
use Rattle.gc_types.specs.Layouts.{struct_base, layout_at, array_layout_at}
use Rattle.gc_roots.specs.Roots.{Root}
use Rattle.gc_view.specs.Sizes.{stored_size}
use Rattle.gc_view.specs.Heaps.{HeapObject, HeapView, detached_in}
use Rattle.gc_view.proofs.Content.{get-put_same, get-put_other}
use Rattle.gc_heap.specs.Content.{IsHeap, AllocatedIs, KindIs}
use Rattle.gc_heap.specs.Heap.{empty_heap, put_object, array_size}
use Rattle.gc_heap.specs.Collection.{Start, CanCollect, Collected, AreCounted, moved}
use Rattle.gc_heap.proofs.AddedLemmas.{start}
use Rattle.gc_heap.proofs.ReferenceLemmas.{HasSameShape, references_spaced}
use Rattle.gc_heap.proofs.AgainLemmas.{origin, can_collect_again, kept_by_root, moved-place, moved_shape}
use Rattle.gc_owner.specs.Tracing.{IsTraced, AreTraced, IsCollectable}

-- the heap as a collection takes it
abbrev pub with_memory : HeapView → HeapView
with_memory h = record h { attached = true }

pub memory_same : (h : HeapView) → h.attached ≡ true → with_memory h ≡ h
memory_same h is = ap (λ b. record h { attached = b }) (sym is)

-- a heap with no memory is also one that holds nothing
pub memory_heap : (layouts : Layouts) (h : HeapView) → IsHeap layouts h → IsHeap layouts (with_memory h)
memory_heap layouts h heap = record {
  objects = heap.objects;
  apart = heap.apart;
  fits = heap.fits;
  pages = heap.pages;
  bound = heap.bound;
  within = heap.within;
  allocated = memory_allocated layouts h heap.allocated;
  by_kind = memory_kind layouts h heap.by_kind;
  detached = λ e. absurd (cc);
  scopes = heap.scopes;
}
  where
    memory_allocated : (layouts : Layouts) (h : HeapView) → AllocatedIs layouts h → AllocatedIs layouts (with_memory h)
    memory_allocated Null h is = is
    memory_allocated Counting h is = is
    memory_allocated Copying h is = is

    memory_kind : (layouts : Layouts) (h : HeapView) → KindIs layouts h → KindIs layouts (with_memory h)
    memory_kind Null h is = is
    memory_kind Counting h is = (record { counted = is.0.counted; shown = is.0.shown; queued = is.0.queued }, is.1)
    memory_kind Copying h is = record { counts = is.counts; half = is.half; from = is.from; below = is.below; whole = is.whole }

-- an object of the same shape is traced as another
pub traced_shape : (layouts : Layouts) (types : List Declaration) (o x : HeapObject) → HasSameShape o x → IsTraced layouts types o → IsTraced layouts types x
traced_shape layouts types o x same (inl external) = inl (same.kind ∙ external)
traced_shape layouts types o x same (inr (inl struct)) = inr (inl (record {
  layout = struct.layout;
  declared = ap (layout_at layouts types) same.ty ∙ struct.declared;
  kind = same.kind ∙ struct.kind;
  size = ap (λ n. struct_base layouts + n) same.size ∙ struct.size;
  spare = same.spare ∙ struct.spare;
}))
traced_shape layouts types o x same (inr (inr array)) = inr (inr (record {
  layout = array.layout;
  declared = ap (array_layout_at layouts types) same.ty ∙ array.declared;
  kind = same.kind ∙ array.kind;
  size = ap (λ n. struct_base layouts + n) same.size ∙ array.size ∙ ap (λ n. stored_size layouts (array_size array.layout n)) (sym (same.count array.kind));
  spare = same.spare ∙ array.spare;
}))

pub traced_put : (layouts : Layouts) (types : List Declaration) (h : HeapView) (place : ℕ) (o o' : HeapObject) → get h.content place ≡ Some o → HasSameShape o o' → AreTraced layouts types h → AreTraced layouts types (put_object h place o')
traced_put layouts types h place o o' held same traced q x is = elim (cases_eq q place) [
  | inl at ↦
      let e : o' ≡ x = same_Some o' x (sym (get-put_same h.content place o') ∙ ap (get (insert h.content place o')) (sym at) ∙ is) in
      subst (IsTraced layouts types) e (traced_shape layouts types o o' same (traced place o held))
  | inr other ↦ traced q x (sym (get-put_other h.content place q o' other) ∙ is)
]

-- After a collection

number_stays : (to : ℕ → ℕ) (word : ℕ) → word % 2 ≡ 1 → moved to word ≡ word
number_stays to word odd = grind (arith, nat_tests)

module _ (layouts : Layouts) (types : List Declaration) (old new : HeapView) (roots roots' : List Root) (hosts hosts' : ℕ → Bool) (heap : IsHeap layouts old) (attached : old.attached ≡ true)
    (can : IsCollectable layouts types old roots hosts) (done : Collected layouts (start old roots types hosts) new roots' hosts') where
  can_start : CanCollect layouts (start old roots types hosts)
  can_start = subst (λ h. CanCollect layouts (start h roots types hosts)) (memory_same old attached) can.collects

  pub again : IsCollectable layouts types new roots' hosts'
  again = record {
    traced = λ q x is.
        let from = origin layouts (start old roots types hosts) new roots' hosts' heap can_start done q x is in
        let spaced = references_spaced layouts types from.object (heap.objects from.place from.object from.held).spare (can_start.typed from.place from.object from.held) in
        traced_shape layouts types from.object x (moved_shape layouts types done.to from.object x from.is_moved spaced) (can.traced from.place from.object from.held);
    collects = subst (λ h. CanCollect layouts (start h roots' types hosts')) (sym (memory_same new done.attached)) (can_collect_again layouts (start old roots types hosts) new roots' hosts' heap can_start done);
  }

  -- a root's word isn't null where it wasn't before
  pub present_moved : IsHeap layouts new → (r : Root) → Contains roots r → 0 < r.word → 0 < moved done.to r.word
  present_moved after r among present = elim (can_start.roots r among) [
    | inl null ↦ absurd (omega arith)
    | inr (inl odd) ↦ let same = number_stays done.to r.word odd in omega arith
    | inr (inr held) ↦
        let s : Start = start old roots types hosts in
        let lies = heap.objects r.word held.0 held.1 in
        let now = done.kept r.word held.0 (kept_by_root layouts s r.word r held among refl) held.1 in
        let place : moved done.to r.word ≡ done.to r.word = moved-place done.to r.word lies.aligned lies.not_null in
        let above : 0 < done.to r.word = (after.objects (done.to r.word) now.0 now.1.0).not_null in
        omega arith
  ]

-- The bytes of a heap

pub on_either : {A E : Type 0} (r : Result A E) (P Q : Type 0) → OnOk r P → OnErr r Q → P ⊎ Q
on_either (Ok x) P Q ok err = inl ok
on_either (Err e) P Q ok err = inr err

numbers_counted : (layouts : Layouts) (types : List Declaration) (h : HeapView) (capacity allocated : ℕ) (roots : List Root) → AreCounted layouts types h roots → AreCounted layouts types (record h { capacity = capacity; allocated = allocated }) roots
numbers_counted Null types h capacity allocated roots exact = tt
numbers_counted Counting types h capacity allocated roots exact = record { counted = exact.counted; shown = λ q held among. exact.shown q (held.0, held.1) among }
numbers_counted Copying types h capacity allocated roots exact = tt

-- the bytes of a heap don't matter
pub numbers_kept : (layouts : Layouts) (types : List Declaration) (h : HeapView) (attached : Bool) (capacity allocated : ℕ) (roots : List Root) (hosts : ℕ → Bool) → IsCollectable layouts types h roots hosts
    → IsCollectable layouts types (record h { attached = attached; capacity = capacity; allocated = allocated }) roots hosts
numbers_kept layouts types h attached capacity allocated roots hosts can = record {
  traced = can.traced;
  collects = record {
    attached = refl;
    open_scopes = can.collects.open_scopes;
    roots = can.collects.roots;
    fields = can.collects.fields;
    typed = can.collects.typed;
    hosts = λ q x is. can.collects.hosts q x (record { held = is.held; kind = is.kind });
    own_hosts = λ p q x y is is' same. can.collects.own_hosts p q x y (record { held = is.held; kind = is.kind }) (record { held = is'.held; kind = is'.kind }) same;
    counts = numbers_counted layouts types (with_memory h) capacity allocated roots can.collects.counts;
  };
}

-- a heap with no memory got pages, or none
pub attached_kept : (layouts : Layouts) (types : List Declaration) (old new : HeapView) (bytes : ℕ) (roots : List Root) (hosts : ℕ → Bool) → IsHeap layouts old → old.attached ≡ false → (new ≡ empty_heap layouts bytes old.scopes) ⊎ (new ≡ old)
    → IsCollectable layouts types old roots hosts → IsCollectable layouts types new roots hosts
attached_kept layouts types old new bytes roots hosts heap none (inl made) can =
    subst (λ h. IsCollectable layouts types h roots hosts) (sym made)
    (numbers_kept layouts types (detached_in old.scopes) true _ _ roots hosts (subst (λ h. IsCollectable layouts types h roots hosts) (heap.detached none) can))
attached_kept layouts types old new bytes roots hosts heap none (inr same) can = subst (λ h. IsCollectable layouts types h roots hosts) (sym same) can
