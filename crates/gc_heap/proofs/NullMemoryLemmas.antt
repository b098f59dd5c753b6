-- What an allocation, a write and a growth do to what is seen of a memory.
use Rattle.std.proofs.Common.{◌≡◌, ℕ, zero, suc, ◌+◌, ◌-◌, ◌*◌, ◌%◌, ◌<◌, ◌≤◌, ◌^◌, true, false, cond, List, [], ◌∷◌, ◌++◌, length, take, drop, replicate, Option, Some, None, refl, sym, ap, subst, ◌∙◌, inl, inr, arith, add-one, eq-eqb}
use Rattle.std.specs.Ordering.{nat_cmp, eq_by_cmp}
use Rattle.std.specs.Int.{w32, to_le_bytes, from_le_bytes}
use Rattle.std.specs.FinMap as map
use Rattle.std.specs.Cmp.{unsigned_tied}
use Rattle.std.proofs.lemmas.Cmp.{nat_cmp_total}
use Rattle.std.proofs.lemmas.Bool.{cases_eq, ne_eqb}
use Rattle.std.proofs.Math.Seq.{take-add}
use Rattle.std.proofs.lemmas.List.{length-replicate, length-append, length-drop, take-append-le, drop-append-le, drop-drop}
use Rattle.gc_types.specs.declared.kind.VMGcKind.{VMGcKind}
use Rattle.gc_types.specs.declared.kind.VMGcKind.TheVariants.{ExternRef, AnyRef, EqRef, StructRef, ArrayRef, ExnRef}
use Rattle.gc_types.specs.declared.kind.Layouts.TheVariants.{Null}
use Rattle.gc_types.specs.Kinds.{kind_bits, kind_of}
use Rattle.gc_types.proofs.KindLemmas.{kind_of-kind_bits}
use Rattle.gc_types.specs.Layouts.{round_up}
use Rattle.gc_refs.specs.Header.{spare_bits, kind_part}
use Rattle.gc_view.specs.Sizes.{alignment}
use Rattle.gc_view.specs.Pages.{page, max_pages}
use Rattle.gc_view.specs.Bytes.{u32_at, put_u32}
use Rattle.gc_view.specs.Heaps.{HeapObject}
use Rattle.gc_view.specs.Bytes.{put_bytes, SameBytes}
use Rattle.gc_heap.specs.Objects.{held_size, first_offset, writable_offset, IsObjectKind}
use Rattle.gc_heap.specs.Heap.{IsWritable, with_data, put_object, AddsObject}
use Rattle.gc_heap.specs.NullWalk.{bump_first_place, bump_size_at, bump_object_at, place_after, entries, HasBumpHost, BumpLiesAt, Follow, data_with, bump_word_end, placed, AppendsObject}
use Rattle.gc_heap.specs.NullStates.{bump_view, IsBumped}
use Rattle.gc_heap.specs.NullWalkLaws.{first_least, least, spare_is, object_bytes, length-object, held_is, LiesAmong, some_is, found_lies}
use Rattle.gc_heap.proofs.NullWalkLemmas.{find_behind, size_in_same, kind_in_same, ty_in_same, same_object, lies_in_header, follow_in_same, follow_push, rewritten}
use Rattle.gc_view.proofs.ByteLemmas.{SameBytes-part, SameBytes-then, u32_in_same, part_in_same, length-put_bytes, put_bytes-below, put_bytes-above, part-put_bytes, part-put_bytes_inside, u32_at-put_u32}

-- what is held lies in the memory
pub held_lies : (bytes : List ℕ) (next n scopes q : ℕ) (object : HeapObject) → IsBumped bytes next n
    → map.get (bump_view bytes next n scopes).content q ≡ Some object → LiesAmong bytes bump_first_place (round_up next alignment) q object
held_lies bytes next n scopes q object s held =
    found_lies n bytes bump_first_place (round_up next alignment) q object (omega arith) s.follow
    (sym (map.get-from_entries nat_cmp_total (entries n bytes bump_first_place) q) ∙ held)

-- the part that a holder may write is behind the header
writable_least : (k : VMGcKind) → 8 ≤ writable_offset Null k
writable_least ExternRef = omega arith
writable_least AnyRef = omega arith
writable_least EqRef = omega arith
writable_least StructRef = omega arith
writable_least ArrayRef = omega arith
writable_least ExnRef = omega arith

-- A write of so many bytes at an offset of an object lies behind its header and in the object.
pub record IsInside (bytes : List ℕ) (q offset count : ℕ) : Type 0 where
  pub from : 8 ≤ offset
  pub to : offset + count ≤ bump_size_at bytes q
  pub fits : q + offset + count ≤ length bytes

pub written_inside : (bytes : List ℕ) (next n scopes q offset count : ℕ) (object : HeapObject) → IsBumped bytes next n
    → IsWritable Null (bump_view bytes next n scopes) q offset count → map.get (bump_view bytes next n scopes).content q ≡ Some object
    → IsInside bytes q offset count
written_inside bytes next n scopes q offset count object s r held =
    let l = held_lies bytes next n scopes q r.object s r.held in
    let size : held_size Null r.object ≡ bump_size_at bytes q = ap (held_size Null) l.is ∙ held_is bytes q l.lies in
    record {
      from = omega (arith, writable_least r.object.kind, r.from);
      to = omega (arith, r.to);
      fits = omega (arith, r.to, l.lies.inside);
    }

-- an external object is written nowhere
host_written : (o : HeapObject) (offset : ℕ) (ws : List ℕ) → 12 ≤ offset → offset + length ws ≤ 8 + length o.bytes → HasBumpHost o → HasBumpHost (with_data Null o offset ws)
host_written o offset ws from to host =
    let fits : offset - 8 + length ws ≤ length o.bytes = omega arith in
    let same : SameBytes o.bytes (put_bytes o.bytes (offset - 8) ws) 0 4 = put_bytes-below o.bytes (offset - 8) ws 0 4 fits (omega arith) in
    let number : u32_at (put_bytes o.bytes (offset - 8) ws) 0 ≡ u32_at o.bytes 0 = u32_in_same _ _ 0 same in
    record {
      size = same.same_length ∙ host.size;
      from = subst (λ n. 0 < n) (sym number) host.from;
      to = subst (λ n. n ≤ 2147483648) (sym number) host.to;
    }

-- a written object: its header stays, and its bytes are written
written_object : (bytes : List ℕ) (q o : ℕ) (ws : List ℕ) → BumpLiesAt bytes q → IsInside bytes q o (length ws)
    → bump_object_at (put_bytes bytes (q + o) ws) q ≡ with_data Null (bump_object_at bytes q) o ws
written_object bytes q o ws lies w =
    let size : ℕ = bump_size_at bytes q in
    let b : List ℕ = put_bytes bytes (q + o) ws in
    let from : 8 ≤ o = w.from in
    let to : o + length ws ≤ size = w.to in
    let header : SameBytes bytes b q (q + 8) = put_bytes-below bytes (q + o) ws q (q + 8) w.fits (omega arith) in
    let at : q + o - (q + 8) ≡ o - 8 = omega arith in
    let part = part-put_bytes_inside bytes (q + 8) (size - 8) (q + o) ws (omega arith) (omega arith) (omega (arith, lies.inside, least lies)) in
    same_object _ _ (kind_in_same bytes b q header) (ty_in_same bytes b q header) (spare_is b q ∙ sym (spare_is bytes q))
    (object_bytes b q
    ∙ ap (λ k. take (k - 8) (drop (q + 8) b)) (size_in_same bytes b q header)
    ∙ part
    ∙ ap (λ k. put_bytes (take (size - 8) (drop (q + 8) bytes)) k ws) at
    ∙ ap (λ bs. put_bytes bs (o - 8) ws) (sym (object_bytes bytes q)))

-- Two heaps with the same objects, capacity and allocated bytes are seen alike.
same_view : (c d : map.FinMap nat_cmp HeapObject) (k l a b scopes : ℕ) → c ≡ d → k ≡ l → a ≡ b
    → record (bump_view [] 1 0 scopes) { content = c; capacity = k; allocated = a } ≡ record (bump_view [] 1 0 scopes) { content = d; capacity = l; allocated = b }
same_view c d k l a b scopes content capacity allocated =
    λ i. record (bump_view [] 1 0 scopes) { content = content i; capacity = capacity i; allocated = allocated i }

-- no object ends behind the next place after one was written
ends_written : (a b : List ℕ) (next n q e : ℕ) → IsBumped a next n → BumpLiesAt a q → BumpLiesAt b q → bump_size_at b q ≡ bump_size_at a q
    → (o : HeapObject) → o ≡ bump_object_at a q → map.find nat_cmp q (entries n a bump_first_place) ≡ Some o
    → ((r : ℕ) → map.find nat_cmp r (entries n b bump_first_place) ≡ cond (eq_by_cmp nat_cmp r q) (Some (bump_object_at b q)) (map.find nat_cmp r (entries n a bump_first_place)))
    → (r : ℕ) (x : HeapObject) → map.find nat_cmp r (entries n b bump_first_place) ≡ Some x → r + held_size Null x ≤ next
ends_written a b next n q e s at_a at_b size o is found changed r x found_x = elim (cases_eq r q) [
  | inl here ↦
      let tied : eq_by_cmp nat_cmp r q ≡ true = unsigned_tied r q ∙ eq-eqb r q here in
      let new : x ≡ bump_object_at b q = some_is _ _ (sym (ap (λ t. cond t (Some (bump_object_at b q)) (map.find nat_cmp r (entries n a bump_first_place))) tied) ∙ sym (changed r) ∙ found_x) in
      let size_x : held_size Null x ≡ bump_size_at b q = ap (held_size Null) new ∙ held_is b q at_b in
      let size_o : held_size Null o ≡ bump_size_at a q = ap (held_size Null) is ∙ held_is a q at_a in
      let before : q + held_size Null o ≤ next = s.ends q o found in
      omega arith
  | inr there ↦
      let other : eq_by_cmp nat_cmp r q ≡ false = unsigned_tied r q ∙ ne_eqb r q there in
      let old : map.find nat_cmp r (entries n a bump_first_place) ≡ Some x = sym (ap (λ t. cond t (Some (bump_object_at b q)) (map.find nat_cmp r (entries n a bump_first_place))) other) ∙ sym (changed r) ∙ found_x in
      s.ends r x old
]

-- What a write to an object does to a memory.
pub record WritesData (bytes : List ℕ) (next n scopes q o : ℕ) (ws : List ℕ) (object : HeapObject) : Type 0 where
  pub bumped : IsBumped (put_bytes bytes (q + o) ws) next n
  pub view : bump_view (put_bytes bytes (q + o) ws) next n scopes ≡ put_object (bump_view bytes next n scopes) q (with_data Null object o ws)

pub write_data : (bytes : List ℕ) (next n scopes q o : ℕ) (ws : List ℕ) (object : HeapObject) → IsBumped bytes next n
    → IsWritable Null (bump_view bytes next n scopes) q o (length ws) → map.get (bump_view bytes next n scopes).content q ≡ Some object
    → WritesData bytes next n scopes q o ws object
write_data bytes next n scopes q o ws object s r held =
    let w = written_inside bytes next n scopes q o (length ws) object s r held in
    let from : 8 ≤ o = w.from in
    let to : o + length ws ≤ bump_size_at bytes q = w.to in
    let fits : q + o + length ws ≤ length bytes = w.fits in
    let b : List ℕ = put_bytes bytes (q + o) ws in
    let l = held_lies bytes next n scopes q object s held in
    let e : ℕ = round_up next alignment in
    let es : List (ℕ × HeapObject) = entries n bytes bump_first_place in
    let front : SameBytes bytes b bump_first_place (q + 8) = put_bytes-below bytes (q + o) ws bump_first_place (q + 8) fits (omega arith) in
    let back : SameBytes bytes b (q + bump_size_at bytes q) e = put_bytes-above bytes (q + o) ws (q + bump_size_at bytes q) e fits (omega arith) in
    let header : SameBytes bytes b q (q + 8) = put_bytes-below bytes (q + o) ws q (q + 8) fits (omega arith) in
    let found : map.find nat_cmp q es ≡ Some object = sym (map.get-from_entries nat_cmp_total es q) ∙ held in
    let at_q : bump_object_at b q ≡ with_data Null (bump_object_at bytes q) o ws = written_object bytes q o ws l.lies w in
    let new : bump_object_at b q ≡ with_data Null object o ws = at_q ∙ ap (λ (x : HeapObject). with_data Null x o ws) (sym l.is) in
    let same : r.object ≡ bump_object_at bytes q = some_is _ _ (sym held ∙ r.held) ∙ l.is in
    let length_is : length (bump_object_at bytes q).bytes ≡ bump_size_at bytes q - 8 = length-object bytes q l.lies in
    let host : (bump_object_at b q).kind ≡ ExternRef → HasBumpHost (bump_object_at b q) =
    λ is.
    let kind : (bump_object_at bytes q).kind ≡ ExternRef = sym (kind_in_same bytes b q header) ∙ is in
    let free : 12 ≤ o = subst (λ (k : VMGcKind). writable_offset Null k ≤ o) (ap (λ (x : HeapObject). x.kind) same ∙ kind) r.from in
    subst HasBumpHost (sym at_q) (host_written (bump_object_at bytes q) o ws free (omega (arith, least l.lies)) (l.lies.host kind)) in
    let lies : BumpLiesAt b q = lies_in_header bytes b q header host l.lies in
    let changed = rewritten n bytes b bump_first_place e q object s.follow found front back lies in
    record {
      bumped = record {
        begun = s.begun;
        within = subst (λ k. next ≤ k + 1) (sym front.same_length) s.within;
        pages = subst (λ k. k % page ≡ 0) (sym front.same_length) s.pages;
        bound = subst (λ k. k ≤ page * max_pages) (sym front.same_length) s.bound;
        follow = changed.follow;
        ends = ends_written bytes b next n q e s l.lies lies (size_in_same bytes b q header) object l.is found changed.found;
      };
      view = same_view _ _ _ _ _ _ scopes
          (map.same_map nat_cmp_total map.nat_cmp-IsAntisymmetric _ _ (λ k.
          map.get-from_entries nat_cmp_total (entries n b bump_first_place) k
          ∙ changed.found k
          ∙ ap (λ (x : HeapObject). cond (eq_by_cmp nat_cmp k q) (Some x) (map.find nat_cmp k es)) new
          ∙ sym (map.get-insert nat_cmp_total (map.from_entries es) q (with_data Null object o ws) k
          ∙ ap (cond (eq_by_cmp nat_cmp k q) (Some (with_data Null object o ws))) (map.get-from_entries nat_cmp_total es k))))
          front.same_length refl;
    }

-- the kind bits in place and a size below them
record TellsKind (word : ℕ) (kind : VMGcKind) (size : ℕ) : Type 0 where
  small : word < 2 ^ 32
  tells : kind_part word ≡ kind_bits kind
  spare : word % spare_bits ≡ size

kind_word_tells : (kind : VMGcKind) (size : ℕ) → size < spare_bits → TellsKind (kind_bits kind + size) kind size
kind_word_tells ExternRef size h = record { small = omega arith; tells = omega arith; spare = omega arith }
kind_word_tells AnyRef size h = record { small = omega arith; tells = omega arith; spare = omega arith }
kind_word_tells EqRef size h = record { small = omega arith; tells = omega arith; spare = omega arith }
kind_word_tells StructRef size h = record { small = omega arith; tells = omega arith; spare = omega arith }
kind_word_tells ArrayRef size h = record { small = omega arith; tells = omega arith; spare = omega arith }
kind_word_tells ExnRef size h = record { small = omega arith; tells = omega arith; spare = omega arith }

pub length-data_with : (word : Option ℕ) (size : ℕ) → bump_word_end word ≤ size → length (data_with word size) ≡ size - 8
length-data_with None size fits = length-replicate {A = ℕ} (size - 8) 0
length-data_with (Some word) size fits =
    length-append (to_le_bytes w32 word) (replicate (size - 12) 0) ∙ omega (arith, length-replicate {A = ℕ} (size - 12) 0)

-- a header with data behind it is a new object
pub places_new : (bytes c : List ℕ) (place : ℕ) (kind : VMGcKind) (ty size : ℕ) (word : Option ℕ) → IsObjectKind kind → first_offset Null kind ≤ size → bump_word_end word ≤ size
    → (kind ≡ ExternRef → HasBumpHost (placed kind ty word size)) → size < spare_bits → ty < 2 ^ 32 → place + size ≤ length bytes
    → SameBytes (put_u32 (put_u32 bytes place (kind_bits kind + size)) (place + 4) ty) c 0 (place + 8)
    → take (length (data_with word size)) (drop (place + 8) c) ≡ data_with word size
    → AppendsObject bytes c place (placed kind ty word size) size
unfolding bump_size_at bump_object_at
places_new bytes c place kind ty size word is_kind first ends host small ty_small fits same data_is =
    let kw : ℕ = kind_bits kind + size in
    let t : TellsKind kw kind size = kind_word_tells kind size small in
    let least_size : 8 ≤ size = omega (arith, first_least kind) in
    let b1 : List ℕ = put_u32 bytes place kw in
    let fits0 : place + 4 ≤ length bytes = omega arith in
    let len1 : length b1 ≡ length bytes = length-put_bytes bytes place (to_le_bytes w32 kw) fits0 in
    let b2 : List ℕ = put_u32 b1 (place + 4) ty in
    let fits1 : place + 4 + 4 ≤ length b1 = omega arith in
    let len2 : length b2 ≡ length b1 = length-put_bytes b1 (place + 4) (to_le_bytes w32 ty) fits1 in
    let low1 : SameBytes bytes b1 bump_first_place place = put_bytes-below bytes place (to_le_bytes w32 kw) bump_first_place place fits0 (omega arith) in
    let low2 : SameBytes b1 b2 bump_first_place place = put_bytes-below b1 (place + 4) (to_le_bytes w32 ty) bump_first_place place fits1 (omega arith) in
    let low3 : SameBytes b2 c bump_first_place place = SameBytes-part same bump_first_place place (omega arith) (omega arith) in
    let head : SameBytes b1 b2 place (place + 4) = put_bytes-below b1 (place + 4) (to_le_bytes w32 ty) place (place + 4) fits1 (omega arith) in
    let word_is : u32_at c place ≡ kw =
    u32_in_same b2 c place (SameBytes-part same place (place + 4) (omega arith) (omega arith))
    ∙ u32_in_same b1 b2 place head
    ∙ u32_at-put_u32 bytes place kw fits0 t.small in
    let ty_is : u32_at c (place + 4) ≡ ty =
    u32_in_same b2 c (place + 4) (SameBytes-part same (place + 4) (place + 4 + 4) (omega arith) (omega arith))
    ∙ u32_at-put_u32 b1 (place + 4) ty fits1 ty_small in
    let size_is : bump_size_at c place ≡ size = ap (λ w. w % spare_bits) word_is ∙ t.spare in
    let kind_is : (bump_object_at c place).kind ≡ kind = ap (λ w. kind_of (kind_part w)) word_is ∙ ap kind_of t.tells ∙ kind_of-kind_bits kind in
    let bytes_is : (bump_object_at c place).bytes ≡ data_with word size =
    ap (λ k. take (k - 8) (drop (place + 8) c)) size_is
    ∙ ap (λ k. take k (drop (place + 8) c)) (sym (length-data_with word size ends))
    ∙ data_is in
    let object_is : bump_object_at c place ≡ placed kind ty word size = same_object _ _ kind_is ty_is refl bytes_is in
    record {
      below = SameBytes-then (SameBytes-then low1 low2) low3;
      lies = record {
        kind = ap kind_part word_is ∙ t.tells ∙ ap kind_bits (sym kind_is);
        is_kind = subst IsObjectKind (sym kind_is) is_kind;
        first = subst (λ (k : VMGcKind). first_offset Null k ≤ bump_size_at c place) (sym kind_is) (subst (λ n. first_offset Null kind ≤ n) (sym size_is) first);
        host = λ e. subst HasBumpHost (sym object_is) (host (sym kind_is ∙ e));
        inside = omega (arith, same.same_length);
      };
      size_is = size_is;
      object_is = object_is;
    }

-- no object ends behind the end of a new one
ends_added : (es : List (ℕ × HeapObject)) (next place size : ℕ) (object : HeapObject)
    → ((r : ℕ) (x : HeapObject) → map.find nat_cmp r es ≡ Some x → r + held_size Null x ≤ next)
    → held_size Null object ≡ size → next ≤ place → (r : ℕ) (x : HeapObject)
    → map.get (map.insert {R = nat_cmp} (map.from_entries es) place object) r ≡ Some x → r + held_size Null x ≤ place + size
ends_added es next place size object ends held behind r x found =
    let old : map.FinMap nat_cmp HeapObject = map.from_entries es in
    let is = sym (map.get-insert nat_cmp_total old place object r) ∙ found in
    elim (cases_eq r place) [
      | inl here ↦
          let tied : eq_by_cmp nat_cmp r place ≡ true = unsigned_tied r place ∙ eq-eqb r place here in
          let new : x ≡ object = some_is _ _ (sym (ap (λ t. cond t (Some object) (map.get old r)) tied) ∙ is) in
          omega (arith, ap (held_size Null) new)
      | inr there ↦
          let other : eq_by_cmp nat_cmp r place ≡ false = unsigned_tied r place ∙ ne_eqb r place there in
          let in_old : map.get old r ≡ Some x = sym (ap (λ t. cond t (Some object) (map.get old r)) other) ∙ is in
          let before : r + held_size Null x ≤ next = ends r x (sym (map.get-from_entries nat_cmp_total es r) ∙ in_old) in
          omega arith
    ]

-- What an allocation does to a memory.
pub record Adds (before after : List ℕ) (next n place : ℕ) (object : HeapObject) (size : ℕ) : Type 0 where
  pub bumped : IsBumped after (place + size) (n + 1)
  pub adds : (scopes : ℕ) → AddsObject Null (bump_view before next n scopes) (bump_view after (place + size) (n + 1) scopes) place object size

pub adds_object : (before after : List ℕ) (next n place : ℕ) (object : HeapObject) (size : ℕ) → IsBumped before next n → place ≡ round_up next alignment
    → size < spare_bits → place + size ≤ length before → AppendsObject before after place object size → Adds before after next n place object size
adds_object before after next n place object size s place_is small fits w =
    let begun : 0 < next = s.begun in
    let from_allocated : next ≡ next - 1 + 1 = omega arith in
    let es : List (ℕ × HeapObject) = entries n before bump_first_place in
    let old : map.FinMap nat_cmp HeapObject = map.from_entries es in
    let follow : Follow n before bump_first_place place = subst (Follow n before bump_first_place) (sym place_is) s.follow in
    let same = follow_in_same n before after bump_first_place place w.below follow in
    let pushed = follow_push n after bump_first_place place same.0 w.lies in
    let end_is : place_after after place ≡ round_up (place + size) alignment = ap (λ k. round_up (place + k) alignment) w.size_is in
    let missing : map.find nat_cmp place es ≡ None = find_behind n before bump_first_place place place follow (omega arith) in
    let entries_are : entries (n + 1) after bump_first_place ≡ es ++ (place, object) ∷ [] =
    ap (λ k. entries k after bump_first_place) (add-one n) ∙ pushed.1
    ∙ ap (λ fs. fs ++ (place, bump_object_at after place) ∷ []) same.1
    ∙ ap (λ (x : HeapObject). es ++ (place, x) ∷ []) w.object_is in
    let content_is : map.from_entries {R = nat_cmp} (entries (n + 1) after bump_first_place) ≡ map.insert old place object =
    ap map.from_entries entries_are ∙ map.from_entries_push nat_cmp_total map.nat_cmp-IsAntisymmetric es place object missing in
    let held : held_size Null object ≡ size = ap (held_size Null) (sym w.object_is) ∙ held_is after place w.lies ∙ w.size_is in
    record {
      bumped = record {
        begun = omega arith;
        within = omega (arith, w.below.same_length);
        pages = subst (λ k. k % page ≡ 0) (sym w.below.same_length) s.pages;
        bound = subst (λ k. k ≤ page * max_pages) (sym w.below.same_length) s.bound;
        follow = subst (Follow (n + 1) after bump_first_place) end_is (subst (λ k. Follow k after bump_first_place (place_after after place)) (sym (add-one n)) pushed.0);
        ends = λ r x found.
            let in_new : map.get (map.insert old place object) r ≡ Some x =
            ap (λ (m : map.FinMap nat_cmp HeapObject). map.get m r) (sym content_is) ∙ map.get-from_entries nat_cmp_total (entries (n + 1) after bump_first_place) r ∙ found in
            ends_added es next place size object s.ends held (omega arith) r x in_new;
      };
      adds = λ scopes. record {
        small = λ large. omega arith;
        room = omega arith;
        fresh = record {
          aligned = omega arith;
          not_null = omega arith;
          free = map.get-from_entries nat_cmp_total es place ∙ missing;
        };
        lies = place_is ∙ ap (λ k. round_up k alignment) from_allocated;
        added = same_view _ _ _ _ _ _ scopes content_is w.below.same_length (omega arith);
      };
    }

-- a word with zeros behind it is read as its data is told
pub word_and_zeros : (bytes : List ℕ) (at word : ℕ) (zeros : List ℕ) → at + 4 + length zeros ≤ length bytes
    → take (4 + length zeros) (drop at (put_bytes (put_u32 bytes at word) (at + 4) zeros)) ≡ to_le_bytes w32 word ++ zeros
word_and_zeros bytes at word zeros fits =
    let ws : List ℕ = to_le_bytes w32 word in
    let b : List ℕ = put_u32 bytes at word in
    let len : length b ≡ length bytes = length-put_bytes bytes at ws (omega arith) in
    let c : List ℕ = put_bytes b (at + 4) zeros in
    let same : SameBytes b c at (at + 4) = put_bytes-below b (at + 4) zeros at (at + 4) (omega arith) (omega arith) in
    take-add 4 (length zeros) (drop at c)
    ∙ ap (λ xs. xs ++ take (length zeros) (drop 4 (drop at c))) (part_in_same b c at 4 same ∙ part-put_bytes bytes at ws (omega arith))
    ∙ ap (λ xs. ws ++ take (length zeros) xs) (drop-drop 4 at c)
    ∙ ap (λ xs. ws ++ xs) (part-put_bytes b (at + 4) zeros (omega arith))

-- a part of bytes with others behind them
part_grown : (bytes more : List ℕ) (p n : ℕ) → p + n ≤ length bytes → take n (drop p (bytes ++ more)) ≡ take n (drop p bytes)
part_grown bytes more p n fits =
    ap (take n) (drop-append-le p bytes more (omega arith))
    ∙ take-append-le n (drop p bytes) more (omega (arith, length-drop p bytes))

word_grown : (bytes more : List ℕ) (p : ℕ) → p + 4 ≤ length bytes → u32_at (bytes ++ more) p ≡ u32_at bytes p
word_grown bytes more p fits = ap (from_le_bytes w32) (part_grown bytes more p 4 fits)

size_grown : (bytes more : List ℕ) (p : ℕ) → p + 8 ≤ length bytes → bump_size_at (bytes ++ more) p ≡ bump_size_at bytes p
unfolding bump_size_at
size_grown bytes more p fits = ap (λ w. w % spare_bits) (word_grown bytes more p (omega arith))

object_grown : (bytes more : List ℕ) (p : ℕ) → BumpLiesAt bytes p → bump_object_at (bytes ++ more) p ≡ bump_object_at bytes p
unfolding bump_object_at
object_grown bytes more p lies =
    let fits : p + 8 ≤ length bytes = omega (arith, lies.inside, least lies) in
    same_object _ _
    (ap (λ w. kind_of (kind_part w)) (word_grown bytes more p (omega arith)))
    (word_grown bytes more (p + 4) (omega arith))
    refl
    (ap (λ k. take (k - 8) (drop (p + 8) (bytes ++ more))) (size_grown bytes more p fits)
    ∙ part_grown bytes more (p + 8) (bump_size_at bytes p - 8) (omega (arith, lies.inside, least lies)))

lies_grown : (bytes more : List ℕ) (p : ℕ) → BumpLiesAt bytes p → BumpLiesAt (bytes ++ more) p
lies_grown bytes more p lies =
    let fits : p + 8 ≤ length bytes = omega (arith, lies.inside, least lies) in
    let object : bump_object_at bytes p ≡ bump_object_at (bytes ++ more) p = sym (object_grown bytes more p lies) in
    let size : bump_size_at (bytes ++ more) p ≡ bump_size_at bytes p = size_grown bytes more p fits in
    record {
      kind = ap kind_part (word_grown bytes more p (omega arith)) ∙ lies.kind ∙ ap (λ (o : HeapObject). kind_bits o.kind) object;
      is_kind = subst (λ (o : HeapObject). IsObjectKind o.kind) object lies.is_kind;
      first = subst (λ (o : HeapObject). first_offset Null o.kind ≤ bump_size_at (bytes ++ more) p) object
          (subst (λ n. first_offset Null (bump_object_at bytes p).kind ≤ n) (sym size) lies.first);
      host = subst (λ (o : HeapObject). o.kind ≡ ExternRef → HasBumpHost o) object lies.host;
      inside = omega (arith, lies.inside, length-append bytes more);
    }

-- the objects of a memory stay where it grows
follow_grown : (n : ℕ) (bytes more : List ℕ) (p e : ℕ) → Follow n bytes p e → Follow n (bytes ++ more) p e × (entries n (bytes ++ more) p ≡ entries n bytes p)
follow_grown zero bytes more p e h = (h, refl)
follow_grown (suc n) bytes more p e h =
    let lies : BumpLiesAt bytes p = h.0 in
    let fits : p + 8 ≤ length bytes = omega (arith, lies.inside, least lies) in
    let after : place_after (bytes ++ more) p ≡ place_after bytes p = ap (λ k. round_up (p + k) alignment) (size_grown bytes more p fits) in
    let rest = follow_grown n bytes more (place_after bytes p) e h.1 in
    let object : bump_object_at (bytes ++ more) p ≡ bump_object_at bytes p = object_grown bytes more p lies in
    let tail : entries n (bytes ++ more) (place_after (bytes ++ more) p) ≡ entries n bytes (place_after bytes p) = ap (entries n (bytes ++ more)) after ∙ rest.1 in
    ((lies_grown bytes more p lies, subst (λ q. Follow n (bytes ++ more) q e) (sym after) rest.0), λ i. (p, object i) ∷ tail i)

-- What a growth does to a memory.
pub record Grows (bytes more : List ℕ) (next n : ℕ) : Type 0 where
  pub bumped : IsBumped (bytes ++ more) next n
  pub view : (scopes : ℕ) → bump_view (bytes ++ more) next n scopes ≡ record (bump_view bytes next n scopes) { capacity = length bytes + length more }

pub grows : (bytes more : List ℕ) (next n : ℕ) → IsBumped bytes next n → length (bytes ++ more) % page ≡ 0 → length (bytes ++ more) ≤ page * max_pages → Grows bytes more next n
grows bytes more next n s whole bound =
    let e : ℕ = round_up next alignment in
    let grown = follow_grown n bytes more bump_first_place e s.follow in
    record {
      bumped = record {
        begun = s.begun;
        within = omega (arith, s.within, length-append bytes more);
        pages = whole;
        bound = bound;
        follow = grown.0;
        ends = λ r x found. s.ends r x (subst (λ (es : List (ℕ × HeapObject)). map.find nat_cmp r es ≡ Some x) grown.1 found);
      };
      view = λ scopes. same_view _ _ _ _ _ _ scopes (ap map.from_entries grown.1) (length-append bytes more) refl;
    }

-- the data of a new object whose first word is told
pub told_data : (bytes after : List ℕ) (place size word : ℕ) (told : Option ℕ) → told ≡ Some word → bump_word_end told ≤ size → place + size ≤ length bytes
    → after ≡ put_bytes (put_u32 bytes (place + 8) word) (place + 8 + 4) (replicate (size - 12) 0)
    → take (length (data_with told size)) (drop (place + 8) after) ≡ data_with told size
told_data bytes after place size word told is ends fits after_is =
    let zeros : List ℕ = replicate (size - 12) 0 in
    let zeros_len : length zeros ≡ size - 12 = length-replicate {A = ℕ} (size - 12) 0 in
    let ends_at : 12 ≤ size = subst (λ (o : Option ℕ). bump_word_end o ≤ size) is ends in
    let len : length (to_le_bytes w32 word ++ zeros) ≡ 4 + length zeros = length-append (to_le_bytes w32 word) zeros in
    subst (λ (o : Option ℕ). take (length (data_with o size)) (drop (place + 8) after) ≡ data_with o size) (sym is)
    (ap (λ k. take k (drop (place + 8) after)) len
    ∙ ap (λ bs. take (4 + length zeros) (drop (place + 8) bs)) after_is
    ∙ word_and_zeros bytes (place + 8) word zeros (omega arith))
