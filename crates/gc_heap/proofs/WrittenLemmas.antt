-- A collection may begin after a write to an object.
use Rattle.std.proofs.Common.{◌≡◌, ◌≢◌, ℕ, ◌+◌, ◌-◌, ◌<◌, ◌≤◌, ◌^◌, ◌⊎◌, inl, inr, Bool, true, false, nat_eq, List, length, map, Some, Contains, refl, sym, ap, ◌∙◌, subst, arith}
use Rattle.std.specs.Int.{w32, to_le_bytes, from_le_bytes}
use Rattle.std.specs.FinMap.{get, insert}
use Rattle.std.proofs.lemmas.Bool.Decides.{nat_tests}
use Rattle.std.proofs.lemmas.Nat.{from_le_bytes-to_le_bytes_4}
use Rattle.gc_types.specs.declared.kind.Layouts.{Layouts}
use Rattle.gc_types.specs.declared.kind.VMGcKind.{VMGcKind}
use Rattle.gc_types.specs.declared.kind.VMGcKind.TheVariants.{ExternRef, AnyRef, EqRef, StructRef, ArrayRef, ExnRef}
use Rattle.gc_types.specs.Declarations.{Declaration}
use Rattle.gc_types.specs.Layouts.{struct_base, array_base}
use Rattle.gc_roots.specs.Roots.{Root}
use Rattle.gc_view.specs.Heaps.{HeapObject, HeapView}
use Rattle.gc_view.specs.Bytes.{put_bytes}
use Rattle.gc_view.proofs.Content.{get-put_same, get-put_other}
use Rattle.gc_view.proofs.ByteLemmas.{u32_in_same, length-put_bytes, put_bytes-below, put_bytes-above, part-put_bytes}
use Rattle.gc_heap.specs.Objects.{held_size, size_with, writable_offset, HasFields}
use Rattle.gc_heap.specs.References.{reference_offsets, references, word_in}
use Rattle.gc_heap.specs.Rules.{IsTyped}
use Rattle.gc_heap.specs.Content.{IsHeld, IsSpare}
use Rattle.gc_heap.specs.Heap.{with_data}
use Rattle.gc_heap.specs.Collection.{CanCollect, AreCounted, IsWordOf, IsExternal}
use Rattle.gc_memory.proofs.ListLemmas.{contains_in, in_contains, in_map}
use Rattle.gc_heap.proofs.ReferenceLemmas.{HasSameShape, same_offsets, typed_kept}
use Rattle.gc_heap.proofs.AddedLemmas.{start, array_bases}

-- Another object was put in the place of one.
pub record Puts (old new : HeapView) (place : ℕ) (o o' : HeapObject) : Type 0 where
  pub held : get old.content place ≡ Some o
  pub content : new.content ≡ insert old.content place o'
  pub attached : new.attached ≡ old.attached
  pub scopes : new.scopes ≡ old.scopes

module _ (old new : HeapView) (place : ℕ) (o o' : HeapObject) (puts : Puts old new place o o') where
  held_put : get new.content place ≡ Some o'
  held_put = ap (λ m. get m place) puts.content ∙ get-put_same old.content place o'

  held_else : (q : ℕ) → q ≢ place → get new.content q ≡ get old.content q
  held_else q ne = ap (λ m. get m q) puts.content ∙ get-put_other old.content place q o' ne

  at_or_else : (q : ℕ) → (q ≡ place) ⊎ (q ≢ place)
  at_or_else q = elim (nat_eq q place) as (λ b. nat_eq q place ≡ b → (q ≡ place) ⊎ (q ≢ place)) [
    | true ↦ λ e. inl (grind (arith, nat_tests, e))
    | false ↦ λ e. inr (grind (arith, nat_tests, e))
  ] refl

  pub held_after : (q : ℕ) → IsHeld old q → IsHeld new q
  held_after q is = elim (at_or_else q) [
    | inl at ↦ (o', ap (get new.content) at ∙ held_put)
    | inr else ↦ (is.0, held_else q else ∙ is.1)
  ]

  pub word_after : (w : ℕ) → IsWordOf old w → IsWordOf new w
  word_after w (inl null) = inl null
  word_after w (inr (inl number)) = inr (inl number)
  word_after w (inr (inr held)) = inr (inr (held_after w held))

  cases_put : (q : ℕ) (x : HeapObject) → get new.content q ≡ Some x → ((q ≡ place) × (x ≡ o')) ⊎ (get old.content q ≡ Some x)
  cases_put q x is = elim (at_or_else q) [
    | inl at ↦ inl (at, (let both : Some x ≡ Some o' = sym is ∙ ap (get new.content) at ∙ held_put in cc))
    | inr else ↦ inr (sym (held_else q else) ∙ is)
  ]

  pub held_before : (q : ℕ) → IsHeld new q → IsHeld old q
  held_before q is = elim (cases_put q is.0 is.1) [
    | inl at ↦ (o, ap (get old.content) at.0 ∙ puts.held)
    | inr was ↦ (is.0, was)
  ]

  external_before : HasFields o'.kind → (q : ℕ) (x : HeapObject) → IsExternal new q x → IsExternal old q x
  external_before fields q x is = elim (cases_put q x is.held) [
    | inl at ↦ absurd (subst HasFields (sym (ap (λ (x : HeapObject). x.kind) at.1) ∙ is.kind) fields)
    | inr was ↦ record { held = was; kind = is.kind }
  ]

  -- A collection may begin with an object of the same shape in the place of another, where each of its
  -- references names what was held.
  pub can_collect_put : (layouts : Layouts) (types : List Declaration) (roots : List Root) (hosts : ℕ → Bool) → CanCollect layouts (start old roots types hosts) → IsSpare layouts o → HasSameShape o o' → HasFields o.kind
      → ((x : ℕ) → Contains (reference_offsets layouts types o) x → IsWordOf old (word_in layouts o' x)) → AreCounted layouts types new roots → CanCollect layouts (start new roots types hosts)
  can_collect_put layouts types roots hosts can spare same fields words counted =
      let offsets : List ℕ = reference_offsets layouts types o in
      let typed = can.typed place o puts.held in
      let offsets_are : reference_offsets layouts types o' ≡ offsets = same_offsets layouts types o o' same spare typed in
      let fields' : HasFields o'.kind = subst HasFields (sym same.kind) fields in
      record {
        attached = puts.attached ∙ can.attached;
        open_scopes = puts.scopes ∙ can.open_scopes;
        roots = λ r among. word_after r.word (can.roots r among);
        fields = λ q x w is has. elim (cases_put q x is) [
          | inl at ↦
              let mine : Contains (map (word_in layouts o') (reference_offsets layouts types o')) w = subst (λ (x : HeapObject). Contains (references layouts types x) w) at.1 has in
              let found = in_map (word_in layouts o') offsets w (contains_in (map (word_in layouts o') offsets) w (subst (λ os. Contains (map (word_in layouts o') os) w) offsets_are mine)) in
              word_after w (subst (IsWordOf old) found.1.1 (words found.0 (in_contains offsets found.0 found.1.0)))
          | inr was ↦ word_after w (can.fields q x w was has)
        ];
        typed = λ q x is. elim (cases_put q x is) [
          | inl at ↦ subst (IsTyped layouts types) (sym at.1) (typed_kept layouts types o o' same typed)
          | inr was ↦ can.typed q x was
        ];
        hosts = λ q x is. can.hosts q x (external_before fields' q x is);
        own_hosts = λ p q x y is is' equal. can.own_hosts p q x y (external_before fields' p x is) (external_before fields' q y is') equal;
        counts = counted;
      }

-- the bytes of an object with fields
size_fields : (layouts : Layouts) (k : VMGcKind) (n : ℕ) → HasFields k → size_with layouts k n ≡ struct_base layouts + n
size_fields layouts ExternRef n h = absurd h
size_fields layouts AnyRef n h = absurd h
size_fields layouts EqRef n h = absurd h
size_fields layouts StructRef n h = refl
size_fields layouts ArrayRef n h = refl
size_fields layouts ExnRef n h = refl

-- what a holder may write lies behind the first free offset of a struct
pub writable_from : (layouts : Layouts) (k : VMGcKind) → HasFields k → struct_base layouts ≤ writable_offset layouts k
writable_from layouts ExternRef h = absurd h
writable_from layouts AnyRef h = absurd h
writable_from layouts EqRef h = absurd h
writable_from layouts StructRef h = omega arith
writable_from layouts ArrayRef h = let bases = array_bases layouts in omega arith
writable_from layouts ExnRef h = omega arith

-- What may be written at an offset of an object: it lies in the data, behind an array's length.
pub record FitsData (layouts : Layouts) (o : HeapObject) (offset : ℕ) (ws : List ℕ) : Type 0 where
  pub fields : HasFields o.kind
  pub from : writable_offset layouts o.kind ≤ offset
  pub above : struct_base layouts ≤ offset
  pub to : (offset - struct_base layouts) + length ws ≤ length o.bytes

pub fits_data : (layouts : Layouts) (o : HeapObject) (offset : ℕ) (ws : List ℕ) → HasFields o.kind → writable_offset layouts o.kind ≤ offset → offset + length ws ≤ held_size layouts o → FitsData layouts o offset ws
fits_data layouts o offset ws fields from to =
    let least = writable_from layouts o.kind fields in
    let size = size_fields layouts o.kind (length o.bytes) fields in
    record { fields = fields; from = from; above = omega arith; to = omega arith }

module _ (layouts : Layouts) (o : HeapObject) (offset : ℕ) (ws : List ℕ) (fits : FitsData layouts o offset ws) where
  abbrev at : ℕ
  at = offset - struct_base layouts

  -- a write leaves the shape
  pub written_shape : HasSameShape o (with_data layouts o offset ws)
  written_shape = record {
    kind = refl;
    ty = refl;
    spare = refl;
    size = length-put_bytes o.bytes at ws fits.to;
    count = λ array.
        let from : array_base layouts ≤ offset = subst (λ k. writable_offset layouts k ≤ offset) array fits.from in
        let bases = array_bases layouts in
        u32_in_same o.bytes (put_bytes o.bytes at ws) 0 (put_bytes-below o.bytes at ws 0 4 fits.to (omega arith));
  }

  -- a word apart from the write is as it was
  pub word_apart : (x : ℕ) → struct_base layouts ≤ x → ((x + 4 ≤ offset) ⊎ (offset + length ws ≤ x)) → word_in layouts (with_data layouts o offset ws) x ≡ word_in layouts o x
  word_apart x from (inl before) =
      let above = fits.above in
      let p : ℕ = x - struct_base layouts in
      u32_in_same o.bytes (put_bytes o.bytes at ws) p (put_bytes-below o.bytes at ws p (p + 4) fits.to (omega arith))
  word_apart x from (inr behind) =
      let above = fits.above in
      let p : ℕ = x - struct_base layouts in
      u32_in_same o.bytes (put_bytes o.bytes at ws) p (put_bytes-above o.bytes at ws p (p + 4) fits.to (omega arith))

-- a word that was written is read back
pub word_written : (layouts : Layouts) (o : HeapObject) (offset word : ℕ) → FitsData layouts o offset (to_le_bytes w32 word) → word < 2 ^ 32 → word_in layouts (with_data layouts o offset (to_le_bytes w32 word)) offset ≡ word
word_written layouts o offset word fits small =
    ap (from_le_bytes w32) (part-put_bytes o.bytes (offset - struct_base layouts) (to_le_bytes w32 word) fits.to) ∙ from_le_bytes-to_le_bytes_4 word small
