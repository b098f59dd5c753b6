-- What is kept of values, by roots that moved and by one more root.
use Rattle.std.proofs.Common.{◌≡◌, ℕ, ◌+◌, zero, suc, true, false, cond, nat_eq, List, [], ◌∷◌, ◌++◌, Option, Some, None, Ok, Err, refl, sym, ap, ◌∙◌, arith}
use Rattle.std.specs.Prelude.{option_map}
use Rattle.std.specs.Int.{w32, w64, cast_unsigned}
use Rattle.std.specs.List.{slice_get}
use Rattle.std.proofs.lemmas.Option.{none-some, same_Some, slice_get-map}
use Rattle.gc_owner.specs.declared.entry.RootEntry.{RootEntry}
use Rattle.gc_model.specs.Values.{Value}
use Rattle.gc_model.specs.Forms.{Names, InternedIds}
use Rattle.gc_values.specs.declared.root.RawValue.{RawValue}
use Rattle.gc_values.specs.declared.root.RawValue.TheVariants as raw
use Rattle.gc_values.specs.declared.root.RootSlot.{RootSlot}
use Rattle.gc_values.specs.declared.root.RootSlot.TheVariants as slot
use Rattle.gc_values.specs.declared.root.RootFault.TheVariants as fault
use Rattle.gc_values.specs.declared.stored.Stored.{Stored}
use Rattle.gc_values.specs.declared.stored.Stored.TheVariants as stores
use Rattle.gc_values.specs.Kept.{CanBeKept, KeptAs, KeptStands}
use Rattle.gc_values.specs.Words.{HandleRoots, root_word_at, entry_word, owned_id, owned_word, owned_at}
use Rattle.gc_values.specs.RawValues.{raw_side_values}
use Rattle.gc_values.proofs.GivenValues.{HaveAllIds}
use Rattle.gc_values.proofs.Keeping.{generations_of}
use Rattle.gc_values.proofs.OwnedKept.{KeepsOwned}

-- Roots that moved, and one more

-- an entry with the same generation has a word where the other had one
word_again : (found found' : Option RootEntry) (generation word : ℕ) → option_map (λ (e : RootEntry). e.generation) found' ≡ option_map (λ (e : RootEntry). e.generation) found → entry_word found generation ≡ Ok word
    → (word' : ℕ) × (entry_word found' generation ≡ Ok word')
word_again None found' generation word same is = absurd (cc)
word_again (Some e) None generation word same is = absurd (cc)
word_again (Some e) (Some e') generation word same is =
    let equal : e'.generation ≡ e.generation = same_Some e'.generation e.generation same in
    elim (nat_eq e.generation generation) as (λ b. nat_eq e.generation generation ≡ b → cond b (Ok e.word) (Err fault.Unrooted) ≡ Ok word → (word' : ℕ) × (entry_word (Some e') generation ≡ Ok word')) [
      | true ↦ λ test same. (e'.word, ap (λ n. cond (nat_eq n generation) (Ok e'.word) (Err fault.Unrooted)) equal ∙ ap (λ b. cond b (Ok e'.word) (Err fault.Unrooted)) test)
      | false ↦ λ test same. absurd (cc)
    ] refl is

slot_again : (roots roots' : HandleRoots) (s : RootSlot) (generation word : ℕ) → generations_of roots'.scoped ≡ generations_of roots.scoped → KeepsOwned roots.owned roots'.owned → root_word_at roots s generation ≡ Ok word
    → (word' : ℕ) × (root_word_at roots' s generation ≡ Ok word')
slot_again roots roots' (slot.Scoped index) generation word same keeps is =
    word_again (slice_get roots.scoped index) (slice_get roots'.scoped index) generation word
    (sym (slice_get-map (λ (e : RootEntry). e.generation) roots'.scoped index) ∙ ap (λ (gs : List ℕ). slice_get gs index) same ∙ slice_get-map (λ (e : RootEntry). e.generation) roots.scoped index) is
slot_again roots roots' (slot.Owned id) generation word same keeps is =
    elim (nat_eq id (owned_id generation)) as (λ b. cond b (owned_word (owned_at generation roots.owned)) (Err fault.Unrooted) ≡ Ok word
    → (word' : ℕ) × (cond b (owned_word (owned_at generation roots'.owned)) (Err fault.Unrooted) ≡ Ok word')) [
      | true ↦ λ e. keeps.words generation word e
      | false ↦ λ e. absurd (cc)
    ] is

-- the handle of a value has a word, where it has one
abbrev pub IsRooted : HandleRoots → RawValue → Type 0
IsRooted roots (raw.I32 n) = Unit {0}
IsRooted roots (raw.I64 n) = Unit {0}
IsRooted roots (raw.F32 n) = Unit {0}
IsRooted roots (raw.F64 n) = Unit {0}
IsRooted roots (raw.V128 n) = Unit {0}
IsRooted roots (raw.Func f) = Unit {0}
IsRooted roots (raw.Cont c) = Unit {0}
IsRooted roots (raw.Ref class None) = Unit {0}
IsRooted roots (raw.Ref class (Some handle)) = (word : ℕ) × (root_word_at roots handle.slot handle.generation ≡ Ok word)

-- it has one also after a collection
pub rooted_again : (roots roots' : HandleRoots) (r : RawValue) → generations_of roots'.scoped ≡ generations_of roots.scoped → KeepsOwned roots.owned roots'.owned → IsRooted roots r → IsRooted roots' r
rooted_again roots roots' (raw.I32 n) same keeps is = tt
rooted_again roots roots' (raw.I64 n) same keeps is = tt
rooted_again roots roots' (raw.F32 n) same keeps is = tt
rooted_again roots roots' (raw.F64 n) same keeps is = tt
rooted_again roots roots' (raw.V128 n) same keeps is = tt
rooted_again roots roots' (raw.Func f) same keeps is = tt
rooted_again roots roots' (raw.Cont c) same keeps is = tt
rooted_again roots roots' (raw.Ref class None) same keeps is = tt
rooted_again roots roots' (raw.Ref class (Some handle)) same keeps is = slot_again roots roots' handle.slot handle.generation is.0 same keeps is.1

-- such a value is kept, where it has an id if it is a function value or a continuation
pub rooted_kept : (ids : InternedIds) (roots : HandleRoots) (r : RawValue) → HaveAllIds ids (raw_side_values (r ∷ [])) → IsRooted roots r → CanBeKept ids roots r
rooted_kept ids roots (raw.I32 n) have is = (stores.Number (cast_unsigned w32 n), refl)
rooted_kept ids roots (raw.I64 n) have is = (stores.Number (cast_unsigned w64 n), refl)
rooted_kept ids roots (raw.F32 n) have is = (stores.Number n, refl)
rooted_kept ids roots (raw.F64 n) have is = (stores.Number n, refl)
rooted_kept ids roots (raw.V128 n) have is = (stores.Number n, refl)
rooted_kept ids roots (raw.Func f) have is =
    let id = have.functions f (0, omega arith, refl) in
    (stores.Number (id.0 + 1), (id.0 + 1, (record { id = id.0; interned = id.1; code_is = refl }, refl)))
rooted_kept ids roots (raw.Cont None) have is = (stores.Number 0, (0, (refl, refl)))
rooted_kept ids roots (raw.Cont (Some c)) have is =
    let id = have.conts c (0, omega arith, refl) in
    (stores.Number (id.0 + 1), (id.0 + 1, (record { id = id.0; interned = id.1; code_is = refl }, refl)))
rooted_kept ids roots (raw.Ref class None) have is = (stores.Ref 0, refl)
rooted_kept ids roots (raw.Ref class (Some handle)) have is = (stores.Ref is.0, (is.0, (is.1, refl)))

-- a word that is found is found where one more entry stands behind
got_more : (entries : List RootEntry) (e : RootEntry) (index : ℕ) (found : Option RootEntry) (generation word : ℕ) → slice_get entries index ≡ found → entry_word found generation ≡ Ok word → entry_word (slice_get (entries ++ e ∷ []) index) generation ≡ Ok word
got_more entries e index None generation word there is = absurd (cc)
got_more entries e index (Some x) generation word there is = ap (λ (o : Option RootEntry). entry_word o generation) (slice_get-more entries e index x there) ∙ is
  where
    slice_get-more : (entries : List RootEntry) (e : RootEntry) (index : ℕ) (x : RootEntry) → slice_get entries index ≡ Some x → slice_get (entries ++ e ∷ []) index ≡ Some x
    slice_get-more [] e index x there = absurd (none-some x there)
    slice_get-more (y ∷ entries) e zero x there = there
    slice_get-more (y ∷ entries) e (suc index) x there = slice_get-more entries e index x there

-- with one more scoped root behind
abbrev pub with_more : HandleRoots → RootEntry → HandleRoots
with_more roots e = record { scoped = roots.scoped ++ e ∷ []; owned = roots.owned }

slot_more : (roots : HandleRoots) (e : RootEntry) (s : RootSlot) (generation word : ℕ) → root_word_at roots s generation ≡ Ok word → root_word_at (with_more roots e) s generation ≡ Ok word
slot_more roots e (slot.Scoped index) generation word is = got_more roots.scoped e index (slice_get roots.scoped index) generation word refl is
slot_more roots e (slot.Owned id) generation word is = is

pub rooted_more : (roots : HandleRoots) (e : RootEntry) (r : RawValue) → IsRooted roots r → IsRooted (with_more roots e) r
rooted_more roots e (raw.I32 n) is = tt
rooted_more roots e (raw.I64 n) is = tt
rooted_more roots e (raw.F32 n) is = tt
rooted_more roots e (raw.F64 n) is = tt
rooted_more roots e (raw.V128 n) is = tt
rooted_more roots e (raw.Func f) is = tt
rooted_more roots e (raw.Cont c) is = tt
rooted_more roots e (raw.Ref class None) is = tt
rooted_more roots e (raw.Ref class (Some handle)) is = (is.0, slot_more roots e handle.slot handle.generation is.0 is.1)

-- as it is kept by one more root it was kept before
kept_before : (ids : InternedIds) (roots : HandleRoots) (e : RootEntry) (r : RawValue) (x : Stored) → IsRooted roots r → KeptAs ids (with_more roots e) r x → KeptAs ids roots r x
kept_before ids roots e (raw.I32 n) x rooted is = is
kept_before ids roots e (raw.I64 n) x rooted is = is
kept_before ids roots e (raw.F32 n) x rooted is = is
kept_before ids roots e (raw.F64 n) x rooted is = is
kept_before ids roots e (raw.V128 n) x rooted is = is
kept_before ids roots e (raw.Func f) x rooted is = is
kept_before ids roots e (raw.Cont c) x rooted is = is
kept_before ids roots e (raw.Ref class None) x rooted is = is
kept_before ids roots e (raw.Ref class (Some handle)) x rooted is =
    let words : rooted.0 ≡ is.0 = grind (arith, sym (slot_more roots e handle.slot handle.generation rooted.0 rooted.1) ∙ is.1.0) in
    (rooted.0, (rooted.1, is.1.1 ∙ ap stores.Ref (sym words)))

-- a value that is kept stands for what it stood for, by one more root
pub stands_more : (ids : InternedIds) (names : Names) (roots : HandleRoots) (e : RootEntry) (r : RawValue) (v : Value) → IsRooted roots r → KeptStands ids names roots r v → KeptStands ids names (with_more roots e) r v
stands_more ids names roots e r v rooted stands x is small = stands x (kept_before ids roots e r x rooted is) small
