-- The tag of an exception is written in front of its fields.
use Rattle.std.proofs.Common.{◌≡◌, ℕ, ◌+◌, ◌-◌, ◌^◌, ◌<◌, ◌≤◌, inl, inr, List, length, Contains, refl, sym, ap, ◌∙◌, subst, arith}
use Rattle.std.specs.List.{slice_index_or}
use Rattle.std.proofs.lemmas.Bool.{cases_lt}
use Rattle.std.proofs.lemmas.List.{get_or_past}
use Rattle.std.specs.Int.{w32, to_le_bytes}
use Rattle.gc_types.specs.declared.kind.Layouts.{Layouts}
use Rattle.gc_types.specs.declared.kind.Layouts.TheVariants.{Null, Counting, Copying}
use Rattle.gc_types.specs.declared.kind.VMGcKind.{VMGcKind}
use Rattle.gc_types.specs.declared.kind.VMGcKind.TheVariants.{ExnRef}
use Rattle.gc_types.specs.declared.value.Tag.{Tag}
use Rattle.gc_types.specs.declared.value.ValType.{ValType}
use Rattle.gc_types.specs.Declarations.{Declaration, Shape, struct_of, array_of, exn_of, func_of, shape_at}
use Rattle.gc_types.specs.Layouts.{struct_base, exception_base, storage_width}
use Rattle.gc_memory.specs.Lists.{In}
use Rattle.gc_view.specs.Bytes.{SameBytes, put_bytes, u32_at}
use Rattle.gc_view.specs.Heaps.{HeapObject}
use Rattle.gc_view.specs.Slots.{shape_slots, shape_size}
use Rattle.gc_view.proofs.Spacing.{shape_first}
use Rattle.gc_view.proofs.ByteLemmas.{put_bytes-above, part_in_same, u32_at-put_u32, u32_at-put_before}
use Rattle.gc_view.proofs.SlotLemmas.{shape_spaced, spaced-le, slot_range}
use Rattle.gc_heap.specs.Extents.{HasFields, writable_offset}
use Rattle.gc_heap.specs.References.{typed_offsets}
use Rattle.gc_memory.proofs.ListLemmas.{contains_in}
use Rattle.gc_owner.specs.Owners.{OwnerView, CanBegin}
use Rattle.gc_owner.specs.Writes.{IsNumberPlace, WritesBytes}
use Rattle.gc_model.proofs.CollectedOffsets.{ref_slot}
use Rattle.gc_model.specs.Forms.{InternedIds}
use Rattle.gc_values.specs.Words.{handle_roots, AreOwnedRising}
use Rattle.gc_values.specs.declared.root.RawValue.{RawValue}
use Rattle.gc_values.specs.HeldSlots.{HasHeapShape, IsHeldOf}
use Rattle.gc_values.specs.Filling.{AreBlank, EachFits, EachStands, IsToFill, RewritesTo, FillsBy, FillsSlots}
use Rattle.gc_values.specs.Tagging.{BeginsWithTag, IsTagged, IsExceptionAt}
use Rattle.gc_values.proofs.Rewriting.{rewrites-none, rewrites-by}
use Rattle.gc_values.proofs.SlotPlaces.{bytes_reach, held_size_is, offsets_are}
use Rattle.gc_values.proofs.SlotWrites.{bytes_written}

-- the fields begin behind the tag
fields_behind : (layouts : Layouts) → struct_base layouts + 8 ≤ exception_base layouts
fields_behind Null = omega arith
fields_behind Counting = omega arith
fields_behind Copying = omega arith

module _ {D : Type 0} (layouts : Layouts) (v : OwnerView D) (place : ℕ) (e : IsExceptionAt v place) (can : CanBegin layouts v) where
  -- an exception has room for its tag
  pub tag_fits : 8 ≤ length e.object.bytes
  tag_fits =
      let reach = bytes_reach layouts v.types.declarations v.heap place e.object (exn_of e.params) e.count e.is (can.traced place e.object e.is.held) in
      let ordered = spaced-le (shape_first layouts (exn_of e.params)) (shape_size layouts (exn_of e.params) e.count) (shape_slots layouts (exn_of e.params) e.count) (shape_spaced layouts (exn_of e.params) e.count) in
      omega (arith, reach, ordered, fields_behind layouts)

  -- no reference lies in it
  behind_tag : (at : ℕ) → at ≤ 4 → (x : ℕ) → Contains (typed_offsets layouts v.types.declarations e.object e.object.kind) x → struct_base layouts + at + 4 ≤ x
  behind_tag at inside x among =
      let f = ref_slot (shape_slots layouts (exn_of e.params) e.count) x
      (subst (In x) (offsets_are layouts v.types.declarations e.object (exn_of e.params) e.count e.is.declared e.is.has) (contains_in (typed_offsets layouts v.types.declarations e.object e.object.kind) x among)) in
      let range = slot_range (shape_first layouts (exn_of e.params)) (shape_size layouts (exn_of e.params) e.count) (shape_slots layouts (exn_of e.params) e.count) (shape_spaced layouts (exn_of e.params) e.count) f.index f.slot f.slot_is in
      omega (arith, range.low, f.at, fields_behind layouts, inside)

  -- so its words may be written
  pub tag_place : (at : ℕ) → at ≤ 4 → IsNumberPlace layouts v place (struct_base layouts + at) 4
  tag_place at inside = record {
    object = e.object;
    held = e.is.held;
    fields = subst HasFields (sym e.is.has) tt;
    from = subst (λ (k : VMGcKind). writable_offset layouts k ≤ struct_base layouts + at) (sym e.is.has) (omega arith);
    to = omega (arith, held_size_is layouts e.object (exn_of e.params) e.count e.is.has, tag_fits, inside);
    apart = λ x among. inr (behind_tag at inside x among);
  }

-- an owner's exception is one still after a write to it
pub exception_again : {D : Type 0} (v mid : OwnerView D) (place : ℕ) (e : IsExceptionAt v place) {AreFrom : List ℕ → List ℕ → Type 0} (bytes : List ℕ) → RewritesTo AreFrom v mid place e.object bytes → IsExceptionAt mid place
exception_again v mid place e bytes did = record {
  object = record e.object { bytes = bytes };
  params = e.params;
  count = e.count;
  is = record {
    held = did.written;
    declared = ap (λ (x : OwnerView _). shape_at x.types.declarations e.object.ty) did.rest ∙ e.is.declared;
    has = e.is.has;
  };
}

-- the first word was written
abbrev pub FirstWord : Tag → List ℕ → List ℕ → Type 0
FirstWord tag before after = (u32_at after 0 ≡ tag.instance) × SameBytes before after 8 (length before)

module _ {D : Type 0} (layouts : Layouts) (v mid : OwnerView D) (place : ℕ) (e : IsExceptionAt v place) (can : CanBegin layouts v) (tag : Tag) where
  abbrev at_word : ℕ → ℕ
  at_word at = struct_base layouts + at - struct_base layouts

  abbrev pub first_bytes : List ℕ
  first_bytes = put_bytes e.object.bytes (at_word 0) (to_le_bytes w32 tag.instance)

  first_inside : at_word 0 + 4 ≤ length e.object.bytes
  first_inside = omega (arith, tag_fits layouts v place e can)

  pub first_written : tag.instance < 2 ^ 32 → WritesBytes layouts v mid place (struct_base layouts + 0) (to_le_bytes w32 tag.instance) → RewritesTo (FirstWord tag) v mid place e.object first_bytes
  first_written small did =
      rewrites-by layouts (exn_of e.params) v place e.object e.is.held v mid e.object.bytes (struct_base layouts + 0) (to_le_bytes w32 tag.instance) first_inside
      (λ (same : e.object.bytes ≡ e.object.bytes). (
        ap (u32_at first_bytes) (let zero_is : 0 ≡ at_word 0 = omega arith in zero_is) ∙ u32_at-put_u32 e.object.bytes (at_word 0) tag.instance first_inside small,
        put_bytes-above e.object.bytes (at_word 0) (to_le_bytes w32 tag.instance) 8 (length e.object.bytes) first_inside (omega arith),
      ))
      (rewrites-none layouts (exn_of e.params) v place e.object e.is.held {AreFrom = λ (before after : List ℕ). before ≡ after} refl)
      (bytes_written layouts v mid place (struct_base layouts + 0) (to_le_bytes w32 tag.instance) (to_le_bytes w32 tag.instance) refl did)

  module _ (new : OwnerView D) (first : RewritesTo (FirstWord tag) v mid place e.object first_bytes) where
    abbrev second_bytes : List ℕ
    second_bytes = put_bytes first_bytes (at_word 4) (to_le_bytes w32 tag.index)

    second_inside : at_word 4 + 4 ≤ length first_bytes
    second_inside = omega (arith, tag_fits layouts v place e can, first.same_length)

    both_words : tag.index < 2 ^ 32 → FirstWord tag e.object.bytes first_bytes → IsTagged tag e.object.bytes second_bytes
    both_words small was =
        let behind = put_bytes-above first_bytes (at_word 4) (to_le_bytes w32 tag.index) 8 (length e.object.bytes) second_inside (omega arith) in
        record {
          has = record {
            instance = u32_at-put_before first_bytes (at_word 4) tag.index 0 second_inside (omega arith) ∙ was.0;
            index = ap (u32_at second_bytes) (let four_is : 4 ≡ at_word 4 = omega arith in four_is) ∙ u32_at-put_u32 first_bytes (at_word 4) tag.index second_inside small;
          };
          behind = record {
            same_length = behind.same_length ∙ was.1.same_length;
            at = λ j d low high. behind.at j d low high ∙ was.1.at j d low high;
          };
        }

    -- and then the second, so it has its tag
    pub tagged : tag.index < 2 ^ 32 → WritesBytes layouts mid new place (struct_base layouts + 4) (to_le_bytes w32 tag.index) → (bytes : List ℕ) × RewritesTo (IsTagged tag) v new place e.object bytes
    tagged small did = (
      second_bytes,
      rewrites-by layouts (exn_of e.params) v place e.object e.is.held mid new first_bytes (struct_base layouts + 4) (to_le_bytes w32 tag.index) second_inside
          (both_words small) first (bytes_written layouts mid new place (struct_base layouts + 4) (to_le_bytes w32 tag.index) (to_le_bytes w32 tag.index) refl did),
    )

-- an object of the kind of exceptions has their shape
pub shape_params : (o : HeapObject) (shape : Shape) (n : ℕ) → HasHeapShape o shape n → o.kind ≡ ExnRef → (params : List ValType) × (shape ≡ exn_of params)
shape_params o (struct_of fields) n has is = absurd (cc (sym has ∙ is))
shape_params o (array_of element) n has is = absurd (cc (sym has.0 ∙ is))
shape_params o (exn_of params) n has is = (params, refl)
shape_params o (func_of params results) n has is = absurd has

module _ {D : Type 0} (layouts : Layouts) (v : OwnerView D) (place ty : ℕ) (ids : InternedIds) (raws : List RawValue) (object : HeapObject) (shape : Shape) (count : ℕ) (f : IsToFill layouts v place ty (EachFits ids raws) object shape count) (kind : object.kind ≡ ExnRef) where
  -- an exception that is to be filled is one
  abbrev pub to_tag : IsExceptionAt v place
  to_tag =
      let params = shape_params object shape count f.is.has kind in
      record { object = object; params = params.0; count = count; is = subst (λ (s : Shape). IsHeldOf v.types.declarations v.heap place object s count) params.1 f.is }

  module _ (tag : Tag) (mid : OwnerView D) (bytes : List ℕ) (did : RewritesTo (IsTagged tag) v mid place object bytes) where
    abbrev after_tag : HeapObject
    after_tag = record object { bytes = bytes }

    same_types : mid.types.declarations ≡ v.types.declarations
    same_types = ap (λ (x : OwnerView D). x.types.declarations) did.rest

    held_again : (s : Shape) → shape ≡ s → HasHeapShape object s count → HasHeapShape after_tag s count
    held_again (struct_of fields) is has = has
    held_again (array_of element) is has = absurd (cc (sym has.0 ∙ kind))
    held_again (exn_of params) is has = has
    held_again (func_of params results) is has = absurd has

    above : struct_base layouts + 8 ≤ shape_first layouts shape
    above =
        let params = shape_params object shape count f.is.has kind in
        subst (λ (s : Shape). struct_base layouts + 8 ≤ shape_first layouts s) (sym params.1) (fields_behind layouts)

    -- its fields are still blank
    still_blank : AreBlank (struct_base layouts) (shape_slots layouts shape count) bytes
    still_blank i slot e =
        let range = slot_range (shape_first layouts shape) (shape_size layouts shape count) (shape_slots layouts shape count) (shape_spaced layouts shape count) i slot e in
        part_in_same object.bytes bytes (slot.offset - struct_base layouts) (storage_width slot.storage)
        (record { same_length = did.front.behind.same_length; at = λ j d low high. behind j d (omega (arith, low, range.low, above)) })
        ∙ f.blank i slot e
      where
        behind : (j d : ℕ) → 8 ≤ j → slice_index_or bytes j d ≡ slice_index_or object.bytes j d
        behind j d low = elim (cases_lt j (length object.bytes)) [
          | inl inside ↦ did.front.behind.at j d low inside
          | inr outside ↦ get_or_past bytes j d (omega (arith, outside, did.front.behind.same_length)) ∙ sym (get_or_past object.bytes j d outside)
        ]

    -- so it is to be filled with its values
    pub to_fill_tagged : IsToFill layouts mid place ty (EachFits ids raws) after_tag shape count
    to_fill_tagged = record {
      is = record {
        held = did.written;
        declared = ap (λ (ts : List Declaration). shape_at ts object.ty) same_types ∙ f.is.declared;
        has = held_again shape refl f.is.has;
      };
      of_type = f.of_type;
      blank = still_blank;
      rising = subst (λ (x : OwnerView D). AreOwnedRising x.roots.owned) (sym did.rest) f.rising;
      fit = subst (λ (x : OwnerView D). EachFits ids raws (handle_roots x.roots) (shape_slots layouts shape count)) (sym did.rest) f.fit;
    }

    -- and has its tag and its values then
    pub filled_tagged : (new : OwnerView D) → FillsSlots layouts (EachStands ids raws) mid new place after_tag shape count → FillsBy layouts (λ before after. BeginsWithTag tag after) (EachStands ids raws) v new place object shape count
    filled_tagged new filled = record {
      bytes = filled.bytes;
      rewrites = record {
        written = filled.rewrites.written;
        others = λ q other. filled.rewrites.others q other ∙ did.others q other;
        attached = filled.rewrites.attached ∙ did.attached;
        capacity = filled.rewrites.capacity ∙ did.capacity;
        allocated = filled.rewrites.allocated ∙ did.allocated;
        needs_gc = filled.rewrites.needs_gc ∙ did.needs_gc;
        same_length = filled.rewrites.same_length ∙ did.same_length;
        front = record {
          instance = filled.rewrites.front 0 (omega (arith, above)) ∙ did.front.has.instance;
          index = filled.rewrites.front 4 (omega (arith, above)) ∙ did.front.has.index;
        };
        rest = filled.rewrites.rest ∙ ap (λ (x : OwnerView D). record x { heap = new.heap }) did.rest;
      };
      lie = λ names values stands. filled.lie names values (subst (λ (x : OwnerView D). EachStands ids raws names (handle_roots x.roots) (shape_slots layouts shape count) values) (sym did.rest) stands);
    }
