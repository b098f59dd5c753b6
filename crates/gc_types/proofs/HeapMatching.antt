-- The table of heap types and the arrows of their diagram.
use Rattle.std.proofs.Common.{ℕ, ◌≡◌, Bool, false, IsTrue, List, Option, Some, None, refl, sym, ◌∙◌, ap, subst}
use Rattle.std.specs.Option.{option_zip, option_map}
use Rattle.gc_types.specs.declared.kind.TypeKind.{TypeKind}
use Rattle.gc_types.specs.declared.value.HeapType.{HeapType}
use Rattle.gc_types.specs.declared.value.HeapType.TheVariants as heap
use Rattle.gc_types.specs.HeapTypes.{concrete, is_under}
use Rattle.gc_types.specs.Subtyping.{Meets, MatchesHeap, same, along, through, Arrow, none_i31, none_struct, none_array, none_concrete_struct, none_concrete_array, concrete_struct, concrete_struct_struct, concrete_array, concrete_array_array, i31_eq, struct_eq, array_eq, eq_any, no_extern_extern, no_func_func, no_func_concrete_func, concrete_func, concrete_func_func, no_exn_exn, no_exn_concrete_exn, concrete_exn, concrete_exn_exn, no_cont_cont, IsAbstract}
use Rattle.gc_types.proofs.SubtypingLemmas.{meets_trans}

-- two heap types that aren't both concrete
abbrev pub NotBoth : Option (TypeKind × ℕ) → Option (TypeKind × ℕ) → Type 0
NotBoth (Some x) (Some y) = ⊥
NotBoth _ _ = Unit {0}

-- what the table says, and for two concrete types their kinds and subtyping
abbrev pub ByTable : List (Option ℕ) → HeapType → HeapType → Option (TypeKind × ℕ) → Option (TypeKind × ℕ) → Type 0
ByTable supers x y (Some c) (Some d) = (c.0 ≡ d.0) × Meets supers c.1 d.1
ByTable supers x y _ _ = IsTrue (is_under x y)

-- what the table says follows the arrows
pub table_sound : (supers : List (Option ℕ)) (x y : HeapType) → IsTrue (is_under x y) → NotBoth (concrete x) (concrete y) → MatchesHeap supers x y
table_sound supers heap.Any heap.Any h one = same tt
table_sound supers heap.Eq heap.Any h one = along eq_any
table_sound supers heap.Eq heap.Eq h one = same tt
table_sound supers heap.I31 heap.Any h one = through i31_eq (along eq_any)
table_sound supers heap.I31 heap.Eq h one = along i31_eq
table_sound supers heap.I31 heap.I31 h one = same tt
table_sound supers heap.Struct heap.Any h one = through struct_eq (along eq_any)
table_sound supers heap.Struct heap.Eq h one = along struct_eq
table_sound supers heap.Struct heap.Struct h one = same tt
table_sound supers heap.Array heap.Any h one = through array_eq (along eq_any)
table_sound supers heap.Array heap.Eq h one = along array_eq
table_sound supers heap.Array heap.Array h one = same tt
table_sound supers heap.None heap.Any h one = through none_i31 (through i31_eq (along eq_any))
table_sound supers heap.None heap.Eq h one = through none_i31 (along i31_eq)
table_sound supers heap.None heap.I31 h one = along none_i31
table_sound supers heap.None heap.Struct h one = along none_struct
table_sound supers heap.None heap.Array h one = along none_array
table_sound supers heap.None heap.None h one = same tt
table_sound supers heap.None (heap.ConcreteStruct b) h one = along none_concrete_struct
table_sound supers heap.None (heap.ConcreteArray b) h one = along none_concrete_array
table_sound supers (heap.ConcreteStruct a) heap.Any h one = through concrete_struct_struct (through struct_eq (along eq_any))
table_sound supers (heap.ConcreteStruct a) heap.Eq h one = through concrete_struct_struct (along struct_eq)
table_sound supers (heap.ConcreteStruct a) heap.Struct h one = along concrete_struct_struct
table_sound supers (heap.ConcreteArray a) heap.Any h one = through concrete_array_array (through array_eq (along eq_any))
table_sound supers (heap.ConcreteArray a) heap.Eq h one = through concrete_array_array (along array_eq)
table_sound supers (heap.ConcreteArray a) heap.Array h one = along concrete_array_array
table_sound supers heap.Extern heap.Extern h one = same tt
table_sound supers heap.NoExtern heap.Extern h one = along no_extern_extern
table_sound supers heap.NoExtern heap.NoExtern h one = same tt
table_sound supers heap.Func heap.Func h one = same tt
table_sound supers heap.NoFunc heap.Func h one = along no_func_func
table_sound supers heap.NoFunc heap.NoFunc h one = same tt
table_sound supers heap.NoFunc (heap.ConcreteFunc b) h one = along no_func_concrete_func
table_sound supers (heap.ConcreteFunc a) heap.Func h one = along concrete_func_func
table_sound supers heap.Exn heap.Exn h one = same tt
table_sound supers heap.NoExn heap.Exn h one = along no_exn_exn
table_sound supers heap.NoExn heap.NoExn h one = same tt
table_sound supers heap.NoExn (heap.ConcreteExn b) h one = along no_exn_concrete_exn
table_sound supers (heap.ConcreteExn a) heap.Exn h one = along concrete_exn_exn
table_sound supers heap.Cont heap.Cont h one = same tt
table_sound supers heap.NoCont heap.Cont h one = along no_cont_cont
table_sound supers heap.NoCont heap.NoCont h one = same tt
table_sound supers _ _ h one = cc

abbrev pub index_named : Option (TypeKind × ℕ) → ℕ
index_named None = 0
index_named (Some c) = c.1

abbrev pub kind_named : Option (TypeKind × ℕ) → Option TypeKind
kind_named None = None
kind_named (Some c) = Some c.0

-- two concrete types match where their kinds are the same and the first meets the second
concrete_sound : (supers : List (Option ℕ)) (x y : HeapType) (k l : TypeKind) (a b : ℕ) → kind_named (concrete x) ≡ Some k → kind_named (concrete y) ≡ Some l
    → a ≡ index_named (concrete x) → b ≡ index_named (concrete y) → k ≡ l → Meets supers a b → MatchesHeap supers x y
concrete_sound supers (heap.ConcreteStruct s) (heap.ConcreteStruct t) k l a b e f one other equal m =
    along (concrete_struct (subst (λ z. Meets supers z t) one (subst (λ z. Meets supers a z) other m)))
concrete_sound supers (heap.ConcreteArray s) (heap.ConcreteArray t) k l a b e f one other equal m =
    along (concrete_array (subst (λ z. Meets supers z t) one (subst (λ z. Meets supers a z) other m)))
concrete_sound supers (heap.ConcreteFunc s) (heap.ConcreteFunc t) k l a b e f one other equal m =
    along (concrete_func (subst (λ z. Meets supers z t) one (subst (λ z. Meets supers a z) other m)))
concrete_sound supers (heap.ConcreteExn s) (heap.ConcreteExn t) k l a b e f one other equal m =
    along (concrete_exn (subst (λ z. Meets supers z t) one (subst (λ z. Meets supers a z) other m)))
concrete_sound supers _ _ k l a b e f one other equal m = cc

abbrev pub Below : List (Option ℕ) → HeapType → HeapType → Type 0
Below supers x y = ByTable supers x y (concrete x) (concrete y)

-- along an arrow the table goes on
arrow_on : (supers : List (Option ℕ)) {x y : HeapType} → Arrow supers x y → (z : HeapType) → Below supers y z → Below supers x z
arrow_on supers (concrete_struct m) (heap.ConcreteStruct c) h = (refl, meets_trans supers m h.1)
arrow_on supers (concrete_array m) (heap.ConcreteArray c) h = (refl, meets_trans supers m h.1)
arrow_on supers (concrete_func m) (heap.ConcreteFunc c) h = (refl, meets_trans supers m h.1)
arrow_on supers (concrete_exn m) (heap.ConcreteExn c) h = (refl, meets_trans supers m h.1)
arrow_on supers none_i31 heap.Any h = cc
arrow_on supers none_struct heap.Any h = cc
arrow_on supers none_array heap.Any h = cc
arrow_on supers none_concrete_struct heap.Any h = cc
arrow_on supers none_concrete_array heap.Any h = cc
arrow_on supers concrete_struct_struct heap.Any h = cc
arrow_on supers concrete_array_array heap.Any h = cc
arrow_on supers i31_eq heap.Any h = cc
arrow_on supers struct_eq heap.Any h = cc
arrow_on supers array_eq heap.Any h = cc
arrow_on supers eq_any heap.Any h = cc
arrow_on supers no_extern_extern heap.Any h = cc
arrow_on supers no_func_func heap.Any h = cc
arrow_on supers no_func_concrete_func heap.Any h = cc
arrow_on supers concrete_func_func heap.Any h = cc
arrow_on supers no_exn_exn heap.Any h = cc
arrow_on supers no_exn_concrete_exn heap.Any h = cc
arrow_on supers concrete_exn_exn heap.Any h = cc
arrow_on supers no_cont_cont heap.Any h = cc
arrow_on supers _ _ h = cc

-- an arrow stands in the table
arrow_below : (supers : List (Option ℕ)) {x y : HeapType} → Arrow supers x y → Below supers x y
arrow_below supers (concrete_struct m) = (refl, m)
arrow_below supers (concrete_array m) = (refl, m)
arrow_below supers (concrete_func m) = (refl, m)
arrow_below supers (concrete_exn m) = (refl, m)
arrow_below supers _ = refl

-- an abstract type stands in the table against itself
same_below : (supers : List (Option ℕ)) (x : HeapType) → IsAbstract x → Below supers x x
same_below supers (heap.ConcreteStruct t) h = absurd h
same_below supers (heap.ConcreteArray t) h = absurd h
same_below supers (heap.ConcreteFunc t) h = absurd h
same_below supers (heap.ConcreteExn t) h = absurd h
same_below supers _ h = refl

-- what matches stands in the table
pub matches_below : (supers : List (Option ℕ)) {x y : HeapType} → MatchesHeap supers x y → Below supers x y
matches_below supers (same {x = x} h) = same_below supers x h
matches_below supers (along a) = arrow_below supers a
matches_below supers (through {z = z} a m) = arrow_on supers a z (matches_below supers m)

from_table : (supers : List (Option ℕ)) (x y : HeapType) (c d : Option (TypeKind × ℕ)) → NotBoth c d → ByTable supers x y c d → IsTrue (is_under x y)
from_table supers x y (Some c) (Some d) one h = absurd one
from_table supers x y None (Some d) one h = h
from_table supers x y None None one h = h
from_table supers x y (Some c) None one h = h

-- where not both are concrete, the table says whether they match
pub by_table : (supers : List (Option ℕ)) (x y : HeapType) (b : Bool) → b ≡ is_under x y → NotBoth (concrete x) (concrete y)
    → (IsTrue b → MatchesHeap supers x y) × (MatchesHeap supers x y → IsTrue b)
by_table supers x y b is one = (
  λ h. table_sound supers x y (sym is ∙ h) one,
  λ m. is ∙ from_table supers x y (concrete x) (concrete y) one (matches_below supers m),
)

both_table : (supers : List (Option ℕ)) (x y : HeapType) (c d : Option (TypeKind × ℕ)) (k l : TypeKind) (a b : ℕ) → c ≡ Some (k, a) → d ≡ Some (l, b)
    → ByTable supers x y c d → (k ≡ l) × Meets supers a b
both_table supers x y c d k l a b e f h =
    subst (λ (w : Option (TypeKind × ℕ)). ByTable supers x y (Some (k, a)) w) f (subst (λ (w : Option (TypeKind × ℕ)). ByTable supers x y w d) e h)

-- where both are concrete, their kinds and subtyping say it
pub by_index : (supers : List (Option ℕ)) (x y : HeapType) (k l : TypeKind) (a b : ℕ) → concrete x ≡ Some (k, a) → concrete y ≡ Some (l, b)
    → MatchesHeap supers x y → (k ≡ l) × Meets supers a b
by_index supers x y k l a b e f m = both_table supers x y (concrete x) (concrete y) k l a b e f (matches_below supers m)

not_both : (c d : Option (TypeKind × ℕ)) → option_zip c d ≡ None → NotBoth c d
not_both (Some c) (Some d) e = cc
not_both None (Some d) e = tt
not_both None None e = tt
not_both (Some c) None e = tt

both : (c d : Option (TypeKind × ℕ)) (p q : TypeKind × ℕ) → option_zip c d ≡ Some (p, q) → (c ≡ Some p) × (d ≡ Some q)
both (Some c) (Some d) p q e = (ap (option_map (λ (w : (TypeKind × ℕ) × (TypeKind × ℕ)). w.0)) e, ap (option_map (λ (w : (TypeKind × ℕ) × (TypeKind × ℕ)). w.1)) e)
both None (Some d) p q e = cc
both None None p q e = cc
both (Some c) None p q e = cc

-- where not both are concrete, the table's answer is right
pub none_both : (supers : List (Option ℕ)) (x y : HeapType) (b : Bool) → option_zip (concrete x) (concrete y) ≡ None → b ≡ is_under x y
    → (IsTrue b → MatchesHeap supers x y) × (MatchesHeap supers x y → IsTrue b)
none_both supers x y b none is = by_table supers x y b is (not_both (concrete x) (concrete y) none)

-- where both are and their kinds are the same, that of subtyping is
pub same_kind : (supers : List (Option ℕ)) (x y : HeapType) (p q : TypeKind × ℕ) (b : Bool) → option_zip (concrete x) (concrete y) ≡ Some (p, q) → p.0 ≡ q.0
    → ((IsTrue b → Meets supers p.1 q.1) × (Meets supers p.1 q.1 → IsTrue b))
    → (IsTrue b → MatchesHeap supers x y) × (MatchesHeap supers x y → IsTrue b)
same_kind supers x y p q b zipped equal is =
    let parts = both (concrete x) (concrete y) p q zipped in (
      λ h. concrete_sound supers x y p.0 q.0 p.1 q.1 (ap kind_named parts.0) (ap kind_named parts.1) (sym (ap index_named parts.0)) (sym (ap index_named parts.1)) equal (is.0 h),
      λ m. is.1 (by_index supers x y p.0 q.0 p.1 q.1 parts.0 parts.1 m).1,
    )

-- two of different kinds don't match
pub other_kind : (supers : List (Option ℕ)) (x y : HeapType) (p q : TypeKind × ℕ) (b : Bool) → option_zip (concrete x) (concrete y) ≡ Some (p, q) → (p.0 ≡ q.0 → ⊥)
    → b ≡ false → (IsTrue b → MatchesHeap supers x y) × (MatchesHeap supers x y → IsTrue b)
other_kind supers x y p q b zipped other no_answer =
    let parts = both (concrete x) (concrete y) p q zipped in (
      λ h. cc,
      λ m. absurd (other (by_index supers x y p.0 q.0 p.1 q.1 parts.0 parts.1 m).0),
    )
