-- The function values and continuations among values that are given, and the ids that they have.
use Rattle.std.proofs.Common.{◌≡◌, ℕ, zero, suc, ◌+◌, ◌<◌, Bool, true, false, ◌++◌, List, [], ◌∷◌, length, get_or, take, drop, Some, None, Err, Contains, refl, sym, ap, ◌∙◌, subst, arith, le-ltb, lt-ltb}
use Rattle.std.specs.List.{slice_get}
use Rattle.std.specs.Ordering.{nat_cmp}
use Rattle.std.specs.FinMap.{FinMap, get}
use Rattle.std.proofs.lemmas.Option.{none-some, same_Some}
use Rattle.std.proofs.lemmas.List.{append_assoc, take_more, take-append-drop}
use Rattle.std.proofs.lemmas.List.Elements.{Contains-append_left, Contains-append_right}
use Rattle.gc_tables.specs.SideTables.{SideTable}
use Rattle.gc_model.specs.SideValues.{IdsBy, InternedBy, InternedIds, SideValues, max_entries, no_side_values, passes_most, same_cont, same_function, with_each, with_side_values}
use Rattle.gc_model.proofs.Interned.{IsExact, all-given, conts_exact, functions_exact, ids_same, side_joined, side_same}
use Rattle.gc_model.proofs.Placings.{KeepsAllIds}
use Rattle.gc_values.specs.declared.root.RawValue.{RawValue}
use Rattle.gc_values.specs.declared.root.RawValue.TheVariants as raw
use Rattle.gc_values.specs.declared.faults.WriteFault.{WriteFault}
use Rattle.gc_values.specs.declared.faults.WriteFault.TheVariants as fault
use Rattle.gc_values.specs.Interning.{CanIntern, CanInternAll, HaveAllIdsLeft, HaveIdsLeft, InternsEach, InternsAll, InternsGiven, MakesEntryRoom, MakesRooms, PassesIds, ids_of}
use Rattle.gc_values.specs.declared.interned.InternedValues.{InternedValues}
use Rattle.gc_values.specs.RawValues.{raw_side_values}

-- the values of a list have ids
abbrev pub HaveIds : {A : Type 0} → FinMap nat_cmp A → List A → Type 0
HaveIds {A} ids xs = (x : A) → Contains xs x → (id : ℕ) × (get ids id ≡ Some x)

-- so do function values and continuations
pub record HaveAllIds (ids : InternedIds) (given : SideValues) : Type 0 where
  pub functions : HaveIds ids.funcs given.funcs
  pub conts : HaveIds ids.conts given.conts

-- those of the first, and those of the rest
pub raw-first : (r : RawValue) (raws : List RawValue) → raw_side_values (r ∷ raws) ≡ side_joined (raw_side_values (r ∷ [])) (raw_side_values raws)
raw-first (raw.I32 n) raws = refl
raw-first (raw.I64 n) raws = refl
raw-first (raw.F32 n) raws = refl
raw-first (raw.F64 n) raws = refl
raw-first (raw.V128 n) raws = refl
raw-first (raw.Func f) raws = refl
raw-first (raw.Cont None) raws = refl
raw-first (raw.Cont (Some c)) raws = refl
raw-first (raw.Ref class handle) raws = refl

-- where nothing is given there is room for it
rooms_none : {A : Type 0} (same : A → A → Bool) (t : SideTable A) (xs : List A) → xs ≡ [] → MakesEntryRoom same t t xs
rooms_none same t xs none = record {
  unchanged = refl;
  has_room = λ known by.
      let equal : length (with_each same xs known) ≡ length known = ap (λ ys. length (with_each same ys known)) none in
      record { few = omega (arith, equal, by.few); room = omega (arith, equal) };
}

pub rooms_for_none : (t : InternedValues) (given : SideValues) → given ≡ no_side_values → MakesRooms t t given
rooms_for_none t given none = record {
  functions = rooms_none same_function t.functions given.funcs (ap (λ (s : SideValues). s.funcs) none);
  conts = rooms_none same_cont t.conts given.conts (ap (λ (s : SideValues). s.conts) none);
}

joined_assoc : (a b c : SideValues) → side_joined (side_joined a b) c ≡ side_joined a (side_joined b c)
joined_assoc a b c = side_same (side_joined (side_joined a b) c) (side_joined a (side_joined b c)) (append_assoc a.funcs b.funcs c.funcs) (append_assoc a.conts b.conts c.conts)

raw-append : (xs ys : List RawValue) → raw_side_values (xs ++ ys) ≡ side_joined (raw_side_values xs) (raw_side_values ys)
raw-append [] ys = refl
raw-append (x ∷ xs) ys =
    raw-first x (xs ++ ys) ∙ ap (side_joined (raw_side_values (x ∷ []))) (raw-append xs ys)
    ∙ sym (joined_assoc (raw_side_values (x ∷ [])) (raw_side_values xs) (raw_side_values ys)) ∙ ap (λ (s : SideValues). side_joined s (raw_side_values ys)) (sym (raw-first x xs))

-- the ids of some of them, and of the others
have_left : (ids : InternedIds) (a b : SideValues) → HaveAllIds ids (side_joined a b) → HaveAllIds ids a
have_left ids a b have = record { functions = λ f c. have.functions f (Contains-append_left a.funcs b.funcs f c); conts = λ k c. have.conts k (Contains-append_left a.conts b.conts k c) }

have_right : (ids : InternedIds) (a b : SideValues) → HaveAllIds ids (side_joined a b) → HaveAllIds ids b
have_right ids a b have = record { functions = λ f c. have.functions f (Contains-append_right a.funcs b.funcs f c); conts = λ k c. have.conts k (Contains-append_right a.conts b.conts k c) }

-- what one of them has
pub have_one : (ids : InternedIds) (raws : List RawValue) (i : ℕ) (r : RawValue) → slice_get raws i ≡ Some r → HaveAllIds ids (raw_side_values raws) → HaveAllIds ids (raw_side_values (r ∷ []))
have_one ids [] i r e have = absurd (none-some r e)
have_one ids (x ∷ raws) zero r e have =
    let all = subst (HaveAllIds ids) (raw-first x raws) have in
    subst (λ (y : RawValue). HaveAllIds ids (raw_side_values (y ∷ []))) (same_Some x r e) (have_left ids (raw_side_values (x ∷ [])) (raw_side_values raws) all)
have_one ids (x ∷ raws) (suc i) r e have =
    let all = subst (HaveAllIds ids) (raw-first x raws) have in
    have_one ids raws i r e (have_right ids (raw_side_values (x ∷ [])) (raw_side_values raws) all)

-- what was interned has ids
have_interned : {A : Type 0} (same : A → A → Bool) → IsExact same → (old new : FinMap nat_cmp A) (xs known : List A) → IdsBy known old → InternsEach same old new xs → HaveIds new xs
have_interned same tells old new xs known by interned x c = (interned.held known by).in_store x (all-given same tells xs known x c)

pub interned_ids : (old new : InternedIds) (given known : SideValues) → InternedBy known old → InternsAll old new given → HaveAllIds new given
interned_ids old new given known by interned = record {
  functions = have_interned same_function functions_exact old.funcs new.funcs given.funcs known.funcs by.funcs interned.functions;
  conts = have_interned same_cont conts_exact old.conts new.conts given.conts known.conts by.conts interned.conts;
}

-- and is known
pub held_all : (old new : InternedIds) (given known : SideValues) → InternsAll old new given → InternedBy known old → InternedBy (with_side_values given known) new
held_all old new given known interned by = record { funcs = interned.functions.held known.funcs by.funcs; conts = interned.conts.held known.conts by.conts }

pub keeps_all : (old new : InternedIds) (given : SideValues) → InternsAll old new given → KeepsAllIds old new
keeps_all old new given interned = record { functions = interned.functions.keeps; conts = interned.conts.keeps }

-- whether they are more than may be
pub most_left : {A : Type 0} (same : A → A → Bool) (ids : FinMap nat_cmp A) (xs known : List A) → HaveIdsLeft same ids xs → IdsBy known ids → passes_most same xs known ≡ false
most_left same ids xs known few by = le-ltb max_entries (length (with_each same xs known)) (few known by)

pub most_passed : {A : Type 0} (same : A → A → Bool) (ids : FinMap nat_cmp A) (xs known : List A) → PassesIds same ids xs → IdsBy known ids → passes_most same xs known ≡ true
most_passed same ids xs known past by = lt-ltb max_entries (length (with_each same xs known)) (past known by)

-- where room was made for what is given, the ids are as they were, some are left, and what is given may be interned
pub rooms_ids : (old new : InternedValues) (given : SideValues) → MakesRooms old new given → ids_of new ≡ ids_of old
rooms_ids old new given room = ids_same (ids_of new) (ids_of old) room.functions.unchanged room.conts.unchanged

pub rooms_left : (old new : InternedValues) (given : SideValues) → MakesRooms old new given → HaveAllIdsLeft (ids_of old) given
rooms_left old new given room = record { functions = λ known by. (room.functions.has_room known by).few; conts = λ known by. (room.conts.has_room known by).few }

can_by : {A : Type 0} (same : A → A → Bool) (old new : SideTable A) (xs known : List A) → MakesEntryRoom same old new xs → IdsBy known old.entries → CanIntern same new xs
can_by same old new xs known room by = record { known = known; held = subst (IdsBy known) (sym room.unchanged) by; has_room = room.has_room known by }

pub rooms_can : (old new : InternedValues) (given : SideValues) → MakesRooms old new given → (known : SideValues) → InternedBy known (ids_of old) → CanInternAll new given
rooms_can old new given room known by = record {
  functions = can_by same_function old.functions new.functions given.funcs known.funcs room.functions by.funcs;
  conts = can_by same_cont old.conts new.conts given.conts known.conts room.conts by.conts;
}

-- those of one value more, and those of a list around one
pub raw-more : (raws : List RawValue) (i : ℕ) (r : RawValue) → i < length raws → r ≡ get_or raws i r → raw_side_values (take (i + 1) raws) ≡ side_joined (raw_side_values (take i raws)) (raw_side_values (r ∷ []))
raw-more raws i r below is =
    ap raw_side_values (take_more raws i r below ∙ ap (λ (x : RawValue). take i raws ++ x ∷ []) (sym is)) ∙ raw-append (take i raws) (r ∷ [])

pub raw-split : (raws : List RawValue) (i : ℕ) (r : RawValue) → i < length raws → r ≡ get_or raws i r
    → raw_side_values raws ≡ side_joined (raw_side_values (take i raws)) (side_joined (raw_side_values (r ∷ [])) (raw_side_values (drop (i + 1) raws)))
raw-split raws i r below is =
    ap raw_side_values (sym (take-append-drop (i + 1) raws)) ∙ raw-append (take (i + 1) raws) (drop (i + 1) raws)
    ∙ ap (λ (s : SideValues). side_joined s (raw_side_values (drop (i + 1) raws))) (raw-more raws i r below is)
    ∙ joined_assoc (raw_side_values (take i raws)) (raw_side_values (r ∷ [])) (raw_side_values (drop (i + 1) raws))

-- a value that was refused leaves what was interned
pub given_refused : (old new : InternedIds) (given : SideValues) (e : WriteFault) → InternsGiven old new given (Err e) → new ≡ old
given_refused old new given fault.FuncTableFull is = is.0
given_refused old new given fault.ContTableFull is = is.0
given_refused old new given fault.Memory is = is
