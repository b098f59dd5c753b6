-- Globals are set one after the other.
use Rattle.std.proofs.Common.{inl, inr, ◌≡◌, ◌≢◌, ℕ, zero, suc, ◌+◌, ◌-◌, ◌<◌, List, [], ◌∷◌, length, take, replicate, Option, Some, None, Result, Ok, Err, refl, sym, ap, ◌∙◌, subst, arith}
use Rattle.std.specs.Prelude.{option_map, slice_set}
use Rattle.std.specs.List.{slice_get}
use Rattle.std.proofs.lemmas.Bool.{cases_lt}
use Rattle.std.proofs.lemmas.Option.{none-some, same_Some, slice_get-map, slice_get_cases, slice_get_within}
use Rattle.gc_types.specs.declared.kind.Layouts.{Layouts}
use Rattle.gc_model.specs.Globals.{set_global}
use Rattle.gc_model.specs.Stores.{StoreView}
use Rattle.gc_model.specs.Table.{Table, Slot, null_slot, global_count}
use Rattle.gc_model.specs.Values.{Reference, null, small, at, reference}
use Rattle.gc_model.proofs.Changes.{slice_get-set_other, slice_get-set_same}
use Rattle.gc_model.proofs.Lists.{slice_get-take}
use Rattle.gc_owner.specs.declared.entry.GcClass.{GcClass}
use Rattle.gc_model.specs.Accounts.{Account, HoldsAccount}
use Rattle.gc_store.specs.declared.globals.SlotFault.{SlotFault}
use Rattle.gc_store.specs.declared.globals.SlotFault.TheVariants as slot_fault
use Rattle.gc_values.specs.declared.root.GcRootIndex.{GcRootIndex}
use Rattle.gc_values.specs.declared.root.RawValue.{RawValue}
use Rattle.gc_values.specs.declared.root.RawValue.TheVariants as raw
use Rattle.gc_store.specs.Roots.{NamesReference}
use Rattle.gc_store.specs.Slots.{HandleStands, SetsSlot}
use Rattle.gc_store.specs.Values.{RawStands}
use Rattle.gc_store.proofs.HandleWords.{named_alone, named_of_store}
use Rattle.gc_image.specs.declared.image.GlobalLine.{GlobalLine}
use Rattle.gc_image.specs.declared.image.ImageReference.{ImageReference}
use Rattle.gc_image.specs.declared.image.ImageValue.{ImageValue}
use Rattle.gc_image.specs.declared.image.ImageValue.TheVariants as value
use Rattle.gc_image.specs.Images.{AreGlobals, SaysSlot, placed_reference}
use Rattle.gc_image.specs.Well.{AreRising, as_reference, as_value}
use Rattle.gc_load_image.specs.Stages.{AreSlots, GlobalsSet, HeldStand, IsReferenceValue, with_globals}

-- a number stands for itself
pub placed_self : (r : Reference) → placed_reference (λ n. n) r ≡ r
placed_self null = refl
placed_self (small n) = refl
placed_self (at p) = refl

replicated : {X : Type 0} (x : X) (n k : ℕ) (y : X) → slice_get (replicate n x) k ≡ Some y → y ≡ x
replicated x zero k y e = absurd (none-some y e)
replicated x (suc n) zero y e = sym (same_Some x y e)
replicated x (suc n) (suc k) y e = replicated x n k y e

-- indexes rise
rising_below : (gs : List GlobalLine) → AreRising gs → (j d : ℕ) (x y : GlobalLine) → slice_get gs j ≡ Some x → slice_get gs (j + suc d) ≡ Some y → x.index < y.index
rising_below gs rising j zero x y one other = rising j x y one other
rising_below gs rising j (suc d) x y one other = elim ((slice_get_cases gs (j + suc d)).1) [
  | inl found ↦
      let first = rising_below gs rising j d x found.0 one found.2 in
      let then = rising (j + suc d) found.0 y found.2 (ap (slice_get gs) (let e : j + suc d + 1 ≡ j + suc (suc d) = omega arith in e) ∙ other) in
      omega (arith, first, then)
  | inr past ↦ absurd (let inside = slice_get_within gs (j + suc (suc d)) y other in omega (arith, past.0, inside))
]

apart : (gs : List GlobalLine) → AreRising gs → (j i : ℕ) (x y : GlobalLine) → j < i → slice_get gs j ≡ Some x → slice_get gs i ≡ Some y → x.index < y.index
apart gs rising j i x y below one other =
    let e : i ≡ j + suc (i - j - 1) = omega (arith, below) in
    rising_below gs rising j (i - j - 1) x y one (sym (ap (slice_get gs) e) ∙ other)

slice_get-front : {X : Type 0} (n : ℕ) (xs : List X) (i : ℕ) (x : X) → i < n → slice_get xs i ≡ Some x → slice_get (take n xs) i ≡ Some x
slice_get-front zero xs i x below e = absurd (omega (arith, below))
slice_get-front (suc n) [] i x below e = absurd (none-some x e)
slice_get-front (suc n) (y ∷ xs) zero x below e = e
slice_get-front (suc n) (y ∷ xs) (suc i) x below e = slice_get-front n xs i x (omega (arith, below)) e

front_within : {X : Type 0} (n : ℕ) (xs : List X) (i : ℕ) (x : X) → slice_get (take n xs) i ≡ Some x → i < n
front_within zero xs i x e = absurd (none-some x e)
front_within (suc n) [] i x e = absurd (none-some x e)
front_within (suc n) (y ∷ xs) zero x e = omega arith
front_within (suc n) (y ∷ xs) (suc i) x e = let rest = front_within n xs i x e in omega (arith, rest)

-- one more global is as its line says
globals_more : (gs : List GlobalLine) → AreRising gs → (i : ℕ) (g : GlobalLine) (class : GcClass) (r : ImageReference) → slice_get gs i ≡ Some g → g.value ≡ value.Ref class r → (slots : List Slot) → g.index < length slots
    → AreGlobals (λ n. n) (take i gs) slots → AreGlobals (λ n. n) (take (i + 1) gs) (slice_set slots g.index (record { class = class; reference = as_reference r }))
globals_more gs rising i g class r here is slots inside set = record {
  said = λ j line e.
      let within = front_within (i + 1) gs j line e in
      let there = slice_get-take (i + 1) gs j line e in
      elim (cases_lt j i) [
        | inl less ↦
            let before = set.said j line (slice_get-front i gs j line less there) in
            let other = apart gs rising j i line g less there here in
            (before.0, (slice_get-set_other slots g.index line.index _ (λ same. absurd (omega (arith, same, other))) ∙ before.1.0, before.1.1))
        | inr past ↦
            let same : j ≡ i = omega (arith, within, past) in
            let mine : g ≡ line = same_Some g line (sym here ∙ sym (ap (slice_get gs) same) ∙ there) in
            subst (λ (x : GlobalLine). (slot : Slot) × ((slice_get (slice_set slots g.index (record { class = class; reference = as_reference r })) x.index ≡ Some slot) × SaysSlot (λ n. n) x.value slot)) mine (
              record { class = class; reference = as_reference r },
              (
                slice_get-set_same slots g.index _ inside,
                subst (λ (v : ImageValue). SaysSlot (λ n. n) v (record { class = class; reference = as_reference r })) (sym is) (λ k. record { class = class; reference = sym (placed_self (as_reference r)) k }),
              ),
            )
      ];
  unsaid = λ k slot e none.
      let differ : k ≢ g.index = λ same. none i g (slice_get-front (i + 1) gs i g (omega arith) here) (sym same) in
      set.unsaid k slot (sym (slice_get-set_other slots g.index k _ differ) ∙ e) (λ j line f same. none j line (slice_get-front (i + 1) gs j line (let below = front_within i gs j line f in omega (arith, below)) (slice_get-take i gs j line f)) same);
}

-- a handle names what it named where globals changed
over_globals : (s : StoreView ℕ) (t : Table ℕ) (slots : List Slot) (h : GcRootIndex) (r : Reference) → NamesReference s t h r → NamesReference s (with_globals slots t) h r
over_globals s t slots h r (inl named) = inl (record { serial = named.serial; names = record { push = named.names.push; pushed = named.names.pushed; is = named.names.is }; live = named.live })
over_globals s t slots h r (inr named) = inr (record { number = named.number; names = named.names; live = named.live })

module _ (layouts : Layouts) (s new : StoreView ℕ) (t : Table ℕ) (a : Account) (slots : List Slot) (holds : HoldsAccount layouts s (with_globals slots t) a) where
  abbrev u : Table ℕ
  u = with_globals slots t

  -- what a handle stands for is one
  stands_alone : (handle : Option GcRootIndex) (r q : Reference) → HandleStands s t handle r → HandleStands s u handle q → r ≡ q
  stands_alone None r q is is' = is ∙ sym is'
  stands_alone (Some h) r q named named' = named_alone layouts s u holds.place holds.holds h r q (over_globals s t slots h r named) named'

  -- a slot that is there is set
  slot_set : (handle : Option GcRootIndex) (r : Reference) (set : Reference → Table ℕ) (result : Result (Unit {0}) SlotFault) → HandleStands s t handle r → SetsSlot layouts s u a handle set result new → HoldsAccount layouts new (set r) a
  slot_set handle r set (Ok done) stands sets = subst (λ (q : Reference). HoldsAccount layouts new (set q) a) (sym (stands_alone handle r sets.0 stands sets.1.0)) sets.1.1
  slot_set handle r set (Err slot_fault.NoSlot) stands sets = absurd sets
  slot_set None r set (Err slot_fault.WrongStore) stands sets = absurd sets
  slot_set (Some h) r set (Err slot_fault.WrongStore) stands sets = absurd (cc (sym (named_of_store s t h r stands) ∙ sets))
  slot_set None r set (Err slot_fault.Unrooted) stands sets = absurd sets
  slot_set (Some h) r set (Err slot_fault.Unrooted) stands sets = absurd (sets.1 r (over_globals s t slots h r stands))
  slot_set handle r set (Err slot_fault.RootsFull) stands sets = absurd sets
  slot_set handle r set (Err slot_fault.Memory) stands sets = absurd sets

-- A value that is a reference is given as one of its class.
raw_reference : (s : StoreView ℕ) (t : Table ℕ) (class class' : GcClass) (handle : Option GcRootIndex) (r : Reference) → RawStands s t (raw.Ref class' handle) (reference class r) → (class' ≡ class) × HandleStands s t handle r
raw_reference s t class class' None r is = (cc is, cc is)
raw_reference s t class class' (Some h) r is = (let e = is.is in cc e, let e : is.root ≡ r = (let f = is.is in cc f) in subst (NamesReference s t h) e is.named)

no_number : (s : StoreView ℕ) (t : Table ℕ) (x : RawValue) (class : GcClass) (r : Reference) → RawStands s t x (reference class r) → ((c : GcClass) (h : Option GcRootIndex) → x ≡ raw.Ref c h → ⊥) → ⊥
no_number s t (raw.I32 n) class r is none = cc is
no_number s t (raw.I64 n) class r is none = cc is
no_number s t (raw.F32 n) class r is none = cc is
no_number s t (raw.F64 n) class r is none = cc is
no_number s t (raw.V128 n) class r is none = cc is
no_number s t (raw.Func f) class r is none = cc is
no_number s t (raw.Cont cont) class r is none = cc is
no_number s t (raw.Ref c h) class r is none = none c h refl

a_reference : (v : ImageValue) → IsReferenceValue v → (class : GcClass) × ((r : ImageReference) × (v ≡ value.Ref class r))
a_reference (value.Ref class r) is = (class, (r, refl))
a_reference (value.I32 n) is = absurd is
a_reference (value.I64 n) is = absurd is
a_reference (value.F32 n) is = absurd is
a_reference (value.F64 n) is = absurd is
a_reference (value.V128 n) is = absurd is

module _ (layouts : Layouts) (globals : List GlobalLine) (held : List RawValue) (i : ℕ) (slots : AreSlots globals) (rising : AreRising globals) (s new : StoreView ℕ) (t : Table ℕ) (a : Account) (stand : HeldStand s t held globals) (set : GlobalsSet layouts globals i t a s)
    (g : GlobalLine) (here : slice_get globals i ≡ Some g) (x : RawValue) (given : slice_get held i ≡ Some x) where
  value_stands : RawStands s t x (as_value g.value)
  value_stands = stand.each i x (as_value g.value) given (slice_get-map (λ (y : GlobalLine). as_value y.value) globals i ∙ ap (option_map (λ (y : GlobalLine). as_value y.value)) here)

  says : (class : GcClass) × ((r : ImageReference) × (g.value ≡ value.Ref class r))
  says = a_reference g.value (slots i g here).1

  pub must_be_reference : ((c : GcClass) (h : Option GcRootIndex) → x ≡ raw.Ref c h → ⊥) → ⊥
  must_be_reference none = no_number s t x says.0 (as_reference says.1.0) (subst (λ (v : ImageValue). RawStands s t x (as_value v)) says.1.1 value_stands) none

  many : length set.slots ≡ global_count
  many = set.holds.holds.globals.count

  pub slot_there : (slot : Slot) × (slice_get set.slots g.index ≡ Some slot)
  slot_there = elim ((slice_get_cases set.slots g.index).1) [
    | inl found ↦ (found.0, found.2)
    | inr past ↦ absurd (let below = (slots i g here).0 in omega (arith, past.0, below, many))
  ]

  -- one more is set
  pub one_set : (class : GcClass) (handle : Option GcRootIndex) (result : Result (Unit {0}) SlotFault) → x ≡ raw.Ref class handle
      → SetsSlot layouts s (with_globals set.slots t) a handle (λ (named : Reference). set_global g.index class named (with_globals set.slots t)) result new → GlobalsSet layouts globals (i + 1) t a new
  one_set class handle result is sets =
      let stands = subst (λ (v : ImageValue). RawStands s t x (as_value v)) says.1.1 value_stands in
      let both = raw_reference s t says.0 class handle (as_reference says.1.0) (subst (λ (y : RawValue). RawStands s t y (reference says.0 (as_reference says.1.0))) is stands) in
      let did = slot_set layouts s new t a set.slots set.holds handle (as_reference says.1.0) (λ (named : Reference). set_global g.index class named (with_globals set.slots t)) result both.1 sets in
      let done = subst (λ (c : GcClass). HoldsAccount layouts new (set_global g.index c (as_reference says.1.0) (with_globals set.slots t)) a) both.0 did in
      record {
        slots = slice_set set.slots g.index (record { class = says.0; reference = as_reference says.1.0 });
        holds = done;
        set = globals_more globals rising i g says.0 says.1.0 here says.1.1 set.slots (let below = (slots i g here).0 in omega (arith, below, many)) set.set;
      }

pub none_set : (layouts : Layouts) (globals : List GlobalLine) (s : StoreView ℕ) (t : Table ℕ) (a : Account) → HoldsAccount layouts s t a → t.globals ≡ replicate global_count null_slot → GlobalsSet layouts globals 0 t a s
none_set layouts globals s t a holds unset = record {
  slots = t.globals;
  holds = holds;
  set = record {
    said = λ j line e. absurd (none-some line e);
    unsaid = λ k slot e none. replicated null_slot global_count k slot (sym (ap (λ (xs : List Slot). slice_get xs k) unset) ∙ e);
  };
}

pub all_set : (layouts : Layouts) (globals : List GlobalLine) (i : ℕ) (s : StoreView ℕ) (t : Table ℕ) (a : Account) → i ≡ length globals → GlobalsSet layouts globals i t a s → GlobalsSet layouts globals (length globals) t a s
all_set layouts globals i s t a is set = subst (λ n. GlobalsSet layouts globals n t a s) is set
