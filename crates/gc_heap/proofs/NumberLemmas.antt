-- A number that was written to a new struct, and where it is after a collection.
use Rattle.std.proofs.Common.{◌≡◌, ℕ, ◌+◌, ◌-◌, ◌^◌, ◌<◌, ◌≤◌, Bool, false, List, [], ◌∷◌, ◌++◌, length, replicate, Some, Contains, refl, sym, ap, ap₂, ◌∙◌, subst, arith}
use Rattle.std.specs.Int.{w32, to_le_bytes, from_le_bytes}
use Rattle.std.specs.Ordering.{nat_cmp}
use Rattle.std.specs.FinMap.{FinMap, get, insert, gets, same_map, nat_cmp-IsAntisymmetric}
use Rattle.std.specs.Cmp.{nat_cmp_total}
use Rattle.std.proofs.lemmas.Grind.{common_steps}
use Rattle.std.proofs.lemmas.List.{length-replicate}
use Rattle.std.proofs.lemmas.List.Elements.{Contains-append_right}
use Rattle.std.proofs.lemmas.Nat.{from_le_bytes-to_le_bytes_4}
use Rattle.gc_types.specs.declared.kind.Layouts.{Layouts}
use Rattle.gc_types.specs.declared.kind.VMGcKind.TheVariants.{StructRef}
use Rattle.gc_types.specs.declared.layout.GcStructLayout.{GcStructLayout}
use Rattle.gc_types.specs.Declarations.{Declaration}
use Rattle.gc_types.specs.Layouts.{struct_base}
use Rattle.gc_refs.specs.LittleEndian.{unsigned_at}
use Rattle.gc_refs.specs.Views.{part_of}
use Rattle.gc_roots.specs.Roots.{Root, root, root_at}
use Rattle.gc_view.specs.Heaps.{HeapObject, HeapView}
use Rattle.gc_view.proofs.Content.{get-put_same}
use Rattle.gc_view.proofs.ByteLemmas.{length-put_bytes, part-put_bytes}
use Rattle.gc_view.specs.Sizes.{stored_size}
use Rattle.gc_heap.specs.Objects.{held_size, size_with, writable_offset, HasFields}
use Rattle.gc_heap.specs.Rules.{struct_spare}
use Rattle.gc_heap.specs.Heap.{AddsObject, IsWritable, with_data, put_object, layout_kind, exn_or_struct, new_struct}
use Rattle.gc_heap.specs.Collection.{Collected, IsMoved}
use Rattle.gc_heap.specs.Access.{IsReadable, data_part}
use Rattle.gc_heap.specs.Client.{IsNumberStruct, MakesNumber}
use Rattle.gc_heap.proofs.AddedLemmas.{start, held_new, stored-least}
use Rattle.gc_heap.proofs.AgainLemmas.{kept_by_root, moved-place}
use Rattle.gc_heap.proofs.ClientLemmas.{adds, same_bytes, last_moved}

struct_kind : (layout : GcStructLayout) → layout.is_exception ≡ false → layout_kind layout ≡ StructRef
struct_kind layout plain = ap exn_or_struct plain

-- the zeros of a new struct
zeros : Layouts → GcStructLayout → List ℕ
zeros layouts layout = replicate (stored_size layouts layout.size - struct_base layouts) 0

length-zeros : (layouts : Layouts) (layout : GcStructLayout) → length (zeros layouts layout) ≡ stored_size layouts layout.size - struct_base layouts
unfolding zeros
length-zeros layouts layout = length-replicate {A = ℕ} (stored_size layouts layout.size - struct_base layouts) 0

-- the bytes of a struct with so many bytes of data as the new one
struct_size : (layouts : Layouts) (layout : GcStructLayout) (n : ℕ) → layout.is_exception ≡ false → n ≡ length (zeros layouts layout) → layout.size ≤ size_with layouts (layout_kind layout) n
struct_size layouts layout n plain same =
    let size : size_with layouts (layout_kind layout) n ≡ struct_base layouts + n = ap (λ kind. size_with layouts kind n) (struct_kind layout plain) in
    let least : layout.size ≤ stored_size layouts layout.size = stored-least layouts layout.size in
    let data_size : n ≡ stored_size layouts layout.size - struct_base layouts = same ∙ length-zeros layouts layout in
    subst (λ s. layout.size ≤ s) (sym size) (omega arith)

-- what was added is held
pub held_added : (layouts : Layouts) (old new : HeapView) (place : ℕ) (o : HeapObject) (size : ℕ) → AddsObject layouts old new place o size → get new.content place ≡ Some o
held_added layouts old new place o size added = ap (λ (h : HeapView). get h.content place) added.added ∙ get-put_same old.content place o

-- a number may be written to a new struct
pub is_writable : (layouts : Layouts) (types : List Declaration) (ty : ℕ) (layout : GcStructLayout) (offset : ℕ) (old new : HeapView) (place : ℕ)
    → IsNumberStruct layouts types ty layout offset → AddsObject layouts old new place (new_struct layouts ty layout) layout.size → IsWritable layouts new place offset 4
unfolding zeros
is_writable layouts types ty layout offset old new place is added =
    let size : layout.size ≤ held_size layouts (new_struct layouts ty layout) = struct_size layouts layout (length (zeros layouts layout)) is.plain refl in
    record {
      object = new_struct layouts ty layout;
      held = held_added layouts old new place (new_struct layouts ty layout) layout.size added;
      from = subst (λ kind. writable_offset layouts kind ≤ offset) (sym (struct_kind layout is.plain)) is.from;
      to = (let inside : offset + 4 ≤ layout.size = is.to in omega arith);
    }

insert-twice : (m : FinMap nat_cmp HeapObject) (k : ℕ) (v w : HeapObject) → insert (insert m k v) k w ≡ insert m k w
insert-twice m k v w = same_map nat_cmp_total nat_cmp-IsAntisymmetric _ _ (λ q. grind (arith, common_steps, gets))

-- and is then in it
pub makes_number : (layouts : Layouts) (types : List Declaration) (ty : ℕ) (layout : GcStructLayout) (offset number : ℕ) (old between new : HeapView) (place : ℕ)
    → IsNumberStruct layouts types ty layout offset → number < 2 ^ 32
    → AddsObject layouts old between place (new_struct layouts ty layout) layout.size
    → new ≡ put_object between place (with_data layouts (new_struct layouts ty layout) offset (to_le_bytes w32 number))
    → MakesNumber layouts types layout offset number old new place
unfolding zeros
makes_number layouts types ty layout offset number old between new place is fits added written =
    let object : HeapObject = with_data layouts (new_struct layouts ty layout) offset (to_le_bytes w32 number) in
    let at : ℕ = offset - struct_base layouts in
    let from : struct_base layouts ≤ offset = is.from in
    let to : offset + 4 ≤ layout.size = is.to in
    let least : layout.size ≤ stored_size layouts layout.size = stored-least layouts layout.size in
    let inside : at + 4 ≤ length (zeros layouts layout) = omega (arith, length-zeros layouts layout) in
    record {
      object = object;
      adds = record {
        plain = record {
          kind = struct_kind layout is.plain;
          declared = is.declared;
          plain = is.plain;
          no_references = is.no_references;
          spare = ap (struct_spare layouts) is.no_references;
          size = struct_size layouts layout (length object.bytes) is.plain (length-put_bytes (zeros layouts layout) at (to_le_bytes w32 number) inside);
        };
        fresh = added.fresh;
        content = ap (λ (h : HeapView). h.content) written ∙ ap (λ (h : HeapView). insert h.content place object) added.added ∙ insert-twice old.content place (new_struct layouts ty layout) object;
        attached = ap (λ (h : HeapView). h.attached) written ∙ ap (λ (h : HeapView). h.attached) added.added;
        scopes = ap (λ (h : HeapView). h.scopes) written ∙ ap (λ (h : HeapView). h.scopes) added.added;
        counts = ap (λ (h : HeapView). h.counts) written ∙ ap (λ (h : HeapView). h.counts) added.added;
      };
      number_is = ap (from_le_bytes w32) (part-put_bytes (zeros layouts layout) at (to_le_bytes w32 number) inside) ∙ from_le_bytes-to_le_bytes_4 number fits;
    }

-- The number lies at an offset of the object that is held at a place.
pub record HoldsNumber (layouts : Layouts) (h : HeapView) (place offset number : ℕ) : Type 0 where
  pub readable : IsReadable layouts h place offset 4
  pub number_is : unsigned_at w32 (data_part layouts readable.object offset 4) ≡ number

-- after a collection the number lies behind the root
pub number_kept : (layouts : Layouts) (types : List Declaration) (layout : GcStructLayout) (offset number : ℕ) (before old new : HeapView) (place : ℕ)
    → MakesNumber layouts types layout offset number before old place → struct_base layouts ≤ offset → offset + 4 ≤ layout.size
    → (roots moved_roots : List Root) (hosts hosts' : ℕ → Bool)
    → Collected layouts (start old (roots ++ root 0 false place ∷ []) types hosts) new moved_roots hosts'
    → (word index : ℕ) → index ≡ length roots → word ≡ (root_at moved_roots index).word → HoldsNumber layouts new word offset number
number_kept layouts types layout offset number before old new place made from to roots moved_roots hosts hosts' done word index last read =
    let r : Root = root 0 false place in
    let held = held_new layouts before old place made.object (adds layouts types layout before old place made.object made.adds) in
    let among : Contains (roots ++ r ∷ []) r = Contains-append_right roots (r ∷ []) r (0, omega arith, refl) in
    let kept = kept_by_root layouts (start old (roots ++ r ∷ []) types hosts) place r (made.object, held) among refl in
    let after = done.kept place made.object kept held in
    let o : HeapObject = after.0 in
    let is_moved : IsMoved layouts types done.to made.object o = after.1.1 in
    let bytes : o.bytes ≡ made.object.bytes = same_bytes layouts types layout done.to made.object o made.adds.plain is_moved in
    let kind : o.kind ≡ StructRef = is_moved.kind ∙ made.adds.plain.kind in
    let size : held_size layouts o ≡ held_size layouts made.object = ap₂ (λ k (n : ℕ). size_with layouts k n) is_moved.kind is_moved.size in
    let place_is : word ≡ done.to place =
    read ∙ ap (λ i. (root_at moved_roots i).word) last ∙ ap (λ rs. (root_at rs (length roots)).word) done.roots_moved
    ∙ ap (λ (r : Root). r.word) (last_moved done.to roots r) ∙ moved-place done.to place made.adds.fresh.aligned made.adds.fresh.not_null in
    let enough : layout.size ≤ held_size layouts made.object = made.adds.plain.size in
    record {
      readable = record {
        object = o;
        held = ap (get new.content) place_is ∙ after.1.0;
        has_fields = subst HasFields (sym kind) tt;
        from = from;
        to = subst (λ s. offset + 4 ≤ s) (sym size) (omega arith);
      };
      number_is = ap (λ bs. unsigned_at w32 (part_of bs (offset - struct_base layouts) 4)) bytes ∙ made.number_is;
    }
