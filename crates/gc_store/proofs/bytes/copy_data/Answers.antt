use Rattle.std.proofs.Common.{◌≡◌, ℕ, ◌+◌, ◌≤◌, List, length, Result, Ok, Err, IsOk, IsOkAnd, refl, sym, ◌∙◌, subst, arith}
use Rattle.std.specs.Borrow.{Bor}
use Rattle.std.proofs.lemmas.Option.{same_Some}
use Rattle.gc_refs.specs.declared.fault.DataFault.{DataFault}
use Rattle.gc_refs.specs.Views.{IsInside, LendsPart}
use Rattle.gc_view.specs.Heaps.{HeapObject}
use Rattle.gc_heap.specs.Objects.{IsObjectData, HasFields, held_size}
use Rattle.gc_heap.proofs.AccessLemmas.{part_in_data}
use Rattle.gc_store.proofs.bytes.copy_data.Goals as goal

is_ok_from_and : {A E : Type 0} (r : Result A E) (P : A → Type 0) → IsOkAnd r P → IsOk r
is_ok_from_and (Ok x) P h = refl
is_ok_from_and (Err e) P h = absurd h

-- bytes that lie inside are lent
lent_inside : (bytes : List ℕ) (offset n : ℕ) (r : Result (Bor (List ℕ)) DataFault) → LendsPart 0 bytes offset n r → IsInside 0 bytes offset n → IsOk r
lent_inside bytes offset n (Ok lent) is inside = refl
lent_inside bytes offset n (Err fault) is inside = absurd (is inside)

pub unwrap-object-requires : goal.unwrap-object-requires
unwrap-object-requires g c = is_ok_from_and c.gc_object_data.result (IsObjectData g.H.GcHeap.KIND c.requires.inside.object) (c.gc_object_data.ensures.held c.requires.inside.object c.requires.inside.held)

pub overflow_cast-dst : goal.overflow_cast-dst
overflow_cast-dst g c =
    let heap = g.met.H.GcHeap.is_heap c.args.heap.now c.requires.sound in
    let lies = heap.objects c.args.gc_ref.now c.requires.inside.object c.requires.inside.held in
    omega (arith, c.requires.inside.to, lies.inside, heap.bound)

pub unwrap-bytes-requires : goal.unwrap-bytes-requires
unwrap-bytes-requires g c =
    let told : IsObjectData g.H.GcHeap.KIND c.requires.inside.object c.unwrap-object.result =
    subst (λ r. IsOkAnd r (IsObjectData g.H.GcHeap.KIND c.requires.inside.object)) c.unwrap-object.ensures (c.gc_object_data.ensures.held c.requires.inside.object c.requires.inside.held) in
    lent_inside c.unwrap-object.result c.args.offset (length c.args.dst.now) c.slice.result c.slice.ensures (omega arith, omega (arith, told.size, c.requires.inside.to))

pub returns : goal.returns
returns g c = λ o e.
    let same : c.requires.inside.object ≡ o = same_Some c.requires.inside.object o (sym c.requires.inside.held ∙ e) in
    let told : IsObjectData g.H.GcHeap.KIND o c.unwrap-object.result =
    subst (λ r. IsOkAnd r (IsObjectData g.H.GcHeap.KIND o)) c.unwrap-object.ensures (c.gc_object_data.ensures.held o e) in
    let lent = subst (λ r. LendsPart 0 c.unwrap-object.result c.args.offset (length c.args.dst.now) r) c.unwrap-bytes.ensures c.slice.ensures in
    c.copy_from_slice.ensures.after
    ∙ lent.1
    ∙ part_in_data g.H.GcHeap.KIND o c.unwrap-object.result c.args.offset (length c.args.dst.now) (subst (λ (x : HeapObject). HasFields x.kind) same c.requires.inside.has_fields) told c.requires.inside.from
    (subst (λ (x : HeapObject). c.args.offset + length c.args.dst.now ≤ held_size g.H.GcHeap.KIND x) same c.requires.inside.to)
