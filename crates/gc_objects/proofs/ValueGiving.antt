-- The values of an object are given one by one, and none is refused on the way.
use Rattle.std.proofs.Common.{◌≡◌, ℕ, ◌+◌, ◌-◌, ◌≤◌, ◌<◌, ◌^◌, ◌==◌, ◌||◌, zero, suc, Bool, true, false, nat_le, List, [], ◌∷◌, length, drop, Some, None, Ok, Err, if◌then◌else◌, sym, ap, ◌∙◌, refl, arith}
use Rattle.std.specs.List.{slice_get}
use Rattle.std.proofs.lemmas.Grind.{common_steps}
use Rattle.std.proofs.lemmas.List.{length-drop, length-append}
use Rattle.gc_types.specs.declared.kind.Layouts.{Layouts}
use Rattle.gc_model.specs.Values.{Reference, null, small, at, Value, numeric, function, continuation, reference, Object}
use Rattle.gc_model.specs.Holds.{HoldsTable}
use Rattle.gc_model.specs.Live.{roots_full}
use Rattle.gc_model.specs.Reach.{object_values}
use Rattle.gc_model.specs.Reads.{makes_root, after_read}
use Rattle.gc_model.specs.Stores.{StoreView}
use Rattle.gc_model.specs.Table.{Table, push}
use Rattle.gc_model.specs.Accounts.{Account, HoldsAccount}
use Rattle.gc_values.specs.declared.root.GcRootIndex.{GcRootIndex}
use Rattle.gc_values.specs.declared.root.RootFault.{RootFault}
use Rattle.gc_values.specs.declared.root.RootFault.TheVariants as root_fault
use Rattle.gc_store.specs.RootRoom.{roots_left}
use Rattle.gc_store.specs.Roots.{HasValue, CanRead}
use Rattle.gc_store.specs.Stores.{IsSameStore, scoped_places}
use Rattle.gc_objects.specs.declared.val.Val.{Val}
use Rattle.gc_objects.specs.Reads.{ReadsAs}
use Rattle.gc_objects.specs.ValueRuns.{reference_value_count, run_of, HasLeft, GivesFirst, CanGive}
use Rattle.gc_objects.proofs.LaterNames.{named_read}
use Rattle.gc_objects.proofs.Pushing.{held_table}

-- the first of what is left stands at the next index, and the others behind it
pub first_left : {A : Type 0} (n : ℕ) (xs : List A) (x : A) (rest : List A) → drop n xs ≡ x ∷ rest → (slice_get xs n ≡ Some x) × (drop (n + 1) xs ≡ rest)
first_left zero [] x rest e = absurd (cc e)
first_left zero (y ∷ ys) x rest e =
    let first : y ≡ x = grind (arith, e) in
    let others : ys ≡ rest = grind (arith, e) in
    (ap Some first, others)
first_left (suc n) [] x rest e = absurd (cc e)
first_left (suc n) (y ∷ ys) x rest e =
    let at = first_left n ys x rest e in
    let on : suc n + 1 ≡ suc (n + 1) = omega (arith) in
    (at.0, ap (λ k. drop k (y ∷ ys)) on ∙ at.1)

objects_read : {D : Type 0} (x : Value) (t : Table D) → t.objects ≡ (after_read x t).objects
objects_read (numeric kind n) t = refl
objects_read (function f) t = refl
objects_read (continuation c) t = refl
objects_read (reference class null) t = refl
objects_read (reference class (small n)) t = refl
objects_read (reference class (at p)) t = refl

-- one root fewer may be made where one more stands
left_pushed : {D : Type 0} (r : Reference) (t : Table D) (n : ℕ) → n + 1 ≤ roots_left t → n ≤ roots_left (push r t)
left_pushed r t n some =
    let more = length-append t.scoped ((record { serial = length t.pushes; reference = r }) ∷ []) in
    elim (t.drops == 2 ^ 64 - 1) as (λ (b : Bool). n + 1 ≤ (if b then 0 else t.max_scoped - length t.scoped) → n ≤ (if b then 0 else t.max_scoped - length (push r t).scoped)) [
      | true ↦ λ h. absurd (omega (arith, h))
      | false ↦ λ h. omega (arith, h, more)
    ] some

full_lacks : {D : Type 0} (t : Table D) → roots_full t ≡ true → 0 < roots_left t → ⊥
full_lacks t full some =
    elim (t.drops == 2 ^ 64 - 1) as (λ (b : Bool). (nat_le t.max_scoped (length t.scoped) || b) ≡ true → 0 < (if b then 0 else t.max_scoped - length t.scoped) → ⊥) [
      | true ↦ λ f h. absurd (omega (arith, h))
      | false ↦ λ f h. absurd (grind (arith, common_steps, f, h))
    ] full some

module _ (x : Value) (rest : List Value) where
  -- a value that makes a root is a reference
  root_counts : makes_root x ≡ true → 0 < reference_value_count (x ∷ rest)
  root_counts is = by x is
    where
      by : (v : Value) → makes_root v ≡ true → 0 < reference_value_count (v ∷ rest)
      by (numeric kind n) e = absurd (cc e)
      by (function f) e = absurd (cc e)
      by (continuation c) e = absurd (cc e)
      by (reference class null) e = absurd (cc e)
      by (reference class (small n)) e = omega (arith)
      by (reference class (at p)) e = omega (arith)

-- the roots that the others want may still be made
roots_read : {D : Type 0} (x : Value) (rest : List Value) (t : Table D) → reference_value_count (x ∷ rest) ≤ roots_left t → reference_value_count rest ≤ roots_left (after_read x t)
roots_read (numeric kind n) rest t may = may
roots_read (function f) rest t may = may
roots_read (continuation c) rest t may = may
roots_read (reference class null) rest t may = omega (arith, may)
roots_read (reference class (small n)) rest t may = left_pushed (small n) t (reference_value_count rest) (omega (arith, may))
roots_read (reference class (at p)) rest t may = left_pushed (at p) t (reference_value_count rest) (omega (arith, may))

module _ {D : Type 0} (layouts : Layouts) (s new : StoreView D) (t : Table D) (holds : HoldsTable layouts s t) (places : scoped_places s ≤ scoped_places new) where
  -- and there is room for them
  room_same : (n : ℕ) → HoldsTable layouts new t → n ≤ s.spare → n ≤ new.spare
  room_same n later room = omega (arith, room, places, holds.1.scoped.same_count, later.1.scoped.same_count)

  room_pushed : (r : Reference) (n : ℕ) → HoldsTable layouts new (push r t) → n + 1 ≤ s.spare → n ≤ new.spare
  room_pushed r n later room =
      omega (arith, room, places, holds.1.scoped.same_count, later.1.scoped.same_count, length-append t.scoped ((record { serial = length t.pushes; reference = r }) ∷ []))

  room_read : (x : Value) (rest : List Value) → HoldsTable layouts new (after_read x t) → reference_value_count (x ∷ rest) ≤ s.spare → reference_value_count rest ≤ new.spare
  room_read (numeric kind n) rest later room = room_same (reference_value_count rest) later room
  room_read (function f) rest later room = room_same (reference_value_count rest) later room
  room_read (continuation c) rest later room = room_same (reference_value_count rest) later room
  room_read (reference class null) rest later room = room_same (reference_value_count rest) later (omega (arith, room))
  room_read (reference class (small n)) rest later room = room_pushed (small n) (reference_value_count rest) later (omega (arith, room))
  room_read (reference class (at p)) rest later room = room_pushed (at p) (reference_value_count rest) later (omega (arith, room))

module _ {D : Type 0} (layouts : Layouts) (s : StoreView D) (root : GcRootIndex) (next len : ℕ) where
  -- as many values are left as there are indices
  pub count_left : (t : Table D) (a : Account) (left : List Value) → HasLeft layouts (run_of s root next len) t a left → len - next ≡ length left
  count_left t a left has =
      let counted : length (drop next (object_values has.names.object)) ≡ length left = ap (λ (xs : List Value). length xs) has.left_is in
      omega (arith, counted, length-drop next (object_values has.names.object), has.len_is)

  -- at the end none is left
  pub gives_none : len ≤ next → (t : Table D) (a : Account) (left : List Value) → HasLeft layouts (run_of s root next len) t a left → GivesFirst layouts t a left None (run_of s root next len)
  gives_none past t a [] has = has
  gives_none past t a (x ∷ left) has = absurd (omega (arith, past, count_left t a (x ∷ left) has))

  module _ (within : next < len) where
    value_there : (t : Table D) (a : Account) (x : Value) (rest : List Value) → HasLeft layouts (run_of s root next len) t a (x ∷ rest) → HasValue s t root next x
    value_there t a x rest has = record {
      position = has.names.position;
      named = has.names.named;
      object = has.names.object;
      object_is = has.names.object_is;
      value_at = (first_left next (object_values has.names.object) x rest has.left_is).0;
    }

    can_read_of : (t : Table D) (a : Account) (left : List Value) → HasLeft layouts (run_of s root next len) t a left → CanRead D layouts s root next
    can_read_of t a [] has = absurd (omega (arith, within, count_left t a [] has))
    can_read_of t a (x ∷ rest) has = record { table = t; holds = held_table layouts s t a has.holds; value = x; has = value_there t a x rest has }

    -- before it there is a value to be read
    pub can_read : CanGive D layouts (run_of s root next len) → CanRead D layouts s root next
    can_read can = can_read_of can.table can.account can.left can.has

    module _ (new : StoreView D) (same : IsSameStore s new) (v : Val) (reads : (t : Table D) (a : Account) (x : Value) → HoldsAccount layouts s t a → HasValue s t root next x → ReadsAs layouts t a x (Ok v) new) where
      left_behind : (t : Table D) (a : Account) (x : Value) (rest : List Value) → HasLeft layouts (run_of s root next len) t a (x ∷ rest) → HasLeft layouts (run_of new root (next + 1) len) (after_read x t) a rest
      left_behind t a x rest has = record {
        holds = (reads t a x has.holds (value_there t a x rest has)).1.1;
        names = record {
          position = has.names.position;
          named = named_read s new same x t root (at has.names.position) has.names.named;
          object = has.names.object;
          object_is = ap (λ (os : List (Object D)). slice_get os has.names.position) (sym (objects_read x t)) ∙ has.names.object_is;
        };
        len_is = has.len_is;
        within = omega (arith, within);
        left_is = (first_left next (object_values has.names.object) x rest has.left_is).1;
      }

      -- the value that was read is the first of those that were left
      pub gives_first : (t : Table D) (a : Account) (left : List Value) → HasLeft layouts (run_of s root next len) t a left → GivesFirst layouts t a left (Some v) (run_of new root (next + 1) len)
      gives_first t a [] has = absurd (omega (arith, within, count_left t a [] has))
      gives_first t a (x ∷ rest) has = ((reads t a x has.holds (value_there t a x rest has)).1.0, left_behind t a x rest has)

      module _ (places : scoped_places s ≤ scoped_places new) where
        ready_of : (t : Table D) (a : Account) (left : List Value) → HasLeft layouts (run_of s root next len) t a left → reference_value_count left ≤ roots_left t → reference_value_count left ≤ s.spare
            → CanGive D layouts (run_of new root (next + 1) len)
        ready_of t a [] has may room = absurd (omega (arith, within, count_left t a [] has))
        ready_of t a (x ∷ rest) has may room =
            let behind = left_behind t a x rest has in
            record {
              table = after_read x t;
              account = a;
              left = rest;
              has = behind;
              may_root = roots_read x rest t may;
              room = room_read layouts s new t (held_table layouts s t a has.holds) places x rest (held_table layouts new (after_read x t) a behind.holds) room;
            }

        -- so can the others
        pub still_ready : CanGive D layouts (run_of s root next len) → CanGive D layouts (run_of new root (next + 1) len)
        still_ready can = ready_of can.table can.account can.left can.has can.may_root can.room

    module _ (new : StoreView D) (why : RootFault) (reads : (t : Table D) (a : Account) (x : Value) → HoldsAccount layouts s t a → HasValue s t root next x → ReadsAs layouts t a x (Err why) new)
        (reserved : 0 < s.spare → why ≡ root_fault.Memory → ⊥) where
      refused_so : (f : RootFault) → why ≡ f → (t : Table D) (a : Account) (x : Value) (rest : List Value) → reference_value_count (x ∷ rest) ≤ roots_left t → reference_value_count (x ∷ rest) ≤ s.spare → ReadsAs layouts t a x (Err f) new → ⊥
      refused_so root_fault.WrongStore is t a x rest may room told = told
      refused_so root_fault.Unrooted is t a x rest may room told = told
      refused_so root_fault.RootsFull is t a x rest may room told = full_lacks t told.1.0 (omega (arith, may, root_counts x rest told.0))
      refused_so root_fault.Memory is t a x rest may room told = reserved (omega (arith, room, root_counts x rest told.0)) is

      refused_of : (t : Table D) (a : Account) (left : List Value) → HasLeft layouts (run_of s root next len) t a left → reference_value_count left ≤ roots_left t → reference_value_count left ≤ s.spare → ⊥
      refused_of t a [] has may room = absurd (omega (arith, within, count_left t a [] has))
      refused_of t a (x ∷ rest) has may room = refused_so why refl t a x rest may room (reads t a x has.holds (value_there t a x rest has))

      -- no value is refused
      pub never_refused : CanGive D layouts (run_of s root next len) → ⊥
      never_refused can = refused_of can.table can.account can.left can.has can.may_root can.room
