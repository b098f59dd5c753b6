-- Values that are read: their new roots, and the registers that they go into.
use Rattle.std.proofs.Common.{inl, inr, ◌≡◌, ◌≢◌, ℕ, ◌==◌, ◌<◌, suc, List, [], ◌∷◌, ◌++◌, length, Option, Some, None, Bool, true, false, cond, eqb, sym, ap, ◌∙◌, refl, subst, arith}
use Rattle.std.specs.List.{slice_get}
use Rattle.std.proofs.lemmas.Grind.{common_steps}
use Rattle.std.proofs.lemmas.Option.{slice_get_within, slice_get_cases}
use Rattle.gc_types.specs.declared.kind.Layouts.{Layouts}
use Rattle.gc_owner.specs.declared.entry.GcClass.{GcClass}
use Rattle.gc_owner.specs.declared.entry.RootEntry.{RootEntry}
use Rattle.gc_model.specs.Values.{Reference, null, small, at, Value, numeric, i32, i64, f32, f64, v128, function, continuation}
use Rattle.gc_model.specs.Values as values
use Rattle.gc_model.specs.Table.{Table, Scoped, push}
use Rattle.gc_model.specs.Live.{rooted, rooted_among}
use Rattle.gc_model.specs.Reads.{after_read}
use Rattle.gc_model.specs.Stores.{StoreView}
use Rattle.gc_model.specs.Holds.{HoldsTable}
use Rattle.gc_model.proofs.Lists.{slice_get-push_new}
use Rattle.gc_values.specs.declared.root.RawValue.{RawValue}
use Rattle.gc_values.specs.declared.root.RawValue.TheVariants as raw
use Rattle.gc_commands.specs.declared.reply.Reply.{Reply}
use Rattle.gc_commands.specs.declared.reply.Reply.TheVariants as reply
use Rattle.gc_commands.specs.declared.reply.Refusal.{Refusal}
use Rattle.gc_model.specs.Accounts.{HoldsAccount}
use Rattle.gc_store.specs.Stores.{IsSameStore}
use Rattle.gc_store.specs.Roots.{NamesSerial, handle_of}
use Rattle.gc_store.specs.Values.{RawStands, RootStands, IsReadAs}
use Rattle.gc_script.specs.Slots.{RunnerRest, RunnerView, register_at}
use Rattle.gc_script.specs.State.{State, Held, number, reference, RegisterStands, HoldsState, with_table, put_into, visible, over}
use Rattle.gc_script.specs.Shapes.{CommandShape, shown_value, held_value, reads, plain}
use Rattle.gc_script.specs.Steps.{first_failing}
use Rattle.gc_script.specs.Run.{GoesUnasked}
use Rattle.gc_script.specs.Named.{register_with}
use Rattle.gc_script.specs.Values.{ShowsRead, registered}
use Rattle.gc_script.proofs.StandLemmas.{Keeps, holds_table, stands_kept, owned_kept, keeps_pushed, keeps_same}
use Rattle.gc_script.proofs.TestLemmas.{answers_by}

-- a root at the end is found by its serial, where no other has it
rooted_at_end : (serial : ℕ) (roots : List Scoped) (r : Reference) → ((i : ℕ) (root : Scoped) → slice_get roots i ≡ Some root → root.serial ≢ serial) → rooted_among serial (roots ++ record { serial = serial; reference = r } ∷ []) ≡ Some r
rooted_at_end serial [] r differ =
    let test : eqb serial serial ≡ true = grind (arith, common_steps) in
    ap (λ b. cond b (Some r) (rooted_among serial [])) test
rooted_at_end serial (x ∷ roots) r differ =
    let ne : x.serial ≢ serial = differ 0 x refl in
    let test : eqb x.serial serial ≡ false = grind (arith, common_steps) in
    ap (λ b. cond b (Some x.reference) (rooted_among serial (roots ++ record { serial = serial; reference = r } ∷ []))) test
    ∙ rooted_at_end serial roots r (λ i. differ (suc i))

module _ (layouts : Layouts) (s : StoreView ℕ) (t : Table ℕ) (holds : HoldsTable layouts s t) where
  -- the roots that stand are of pushes that were made
  serial_before : (i : ℕ) (root : Scoped) → slice_get t.scoped i ≡ Some root → root.serial < length t.pushes
  serial_before i root e =
      let entry : (entry : RootEntry) × (slice_get s.scoped i ≡ Some entry) =
      elim ((slice_get_cases s.scoped i).1) [
        | inl found ↦ (found.0, found.2)
        | inr past ↦ absurd (omega (arith, past.0, holds.1.scoped.same_count, slice_get_within t.scoped i root e))
      ] in
      slice_get_within t.pushes root.serial _ ((holds.1.scoped.each i entry.0 root entry.1 e).pushed)

  -- a new root is live and names what it was pushed for
  rooted_push : (r : Reference) → rooted (push r t) (length t.pushes) ≡ Some r
  rooted_push r = rooted_at_end (length t.pushes) t.scoped r (λ i root e is. let before = serial_before i root e in omega (arith, before, is))

  -- the handle of a new root names it
  names_pushed : (new : StoreView ℕ) (r : Reference) → NamesSerial new (push r t) (handle_of new (length t.scoped) t.drops) (length t.pushes)
  names_pushed new r = record {
    push = record { index = length t.scoped; generation = t.drops };
    pushed = slice_get-push_new t.pushes (record { index = length t.scoped; generation = t.drops });
    is = refl;
  }

  -- and stands for what it was pushed for
  root_pushed : (new : StoreView ℕ) (class : GcClass) (r : Reference) → RootStands new (push r t) class (handle_of new (length t.scoped) t.drops) (values.reference class r)
  root_pushed new class r = record {
    root = r;
    named = inl (record { serial = length t.pushes; names = names_pushed new r; live = rooted_push r });
    is = refl;
  }

  -- what is read stands for the value in the table after
  pub read_stands : (new : StoreView ℕ) (v : Value) (r : RawValue) → IsReadAs new t v r → RawStands new (after_read v t) r v
  read_stands new (numeric i32 n) r is = subst (λ (x : RawValue). RawStands new t x (numeric i32 n)) (sym is.1.0) (ap (numeric i32) is.1.1)
  read_stands new (numeric i64 n) r is = subst (λ (x : RawValue). RawStands new t x (numeric i64 n)) (sym is.1.0) (ap (numeric i64) is.1.1)
  read_stands new (numeric f32 n) r is = subst (λ (x : RawValue). RawStands new t x (numeric f32 n)) (sym is) refl
  read_stands new (numeric f64 n) r is = subst (λ (x : RawValue). RawStands new t x (numeric f64 n)) (sym is) refl
  read_stands new (numeric v128 n) r is = subst (λ (x : RawValue). RawStands new t x (numeric v128 n)) (sym is) refl
  read_stands new (function f) r is = subst (λ (x : RawValue). RawStands new t x (function f)) (sym is) refl
  read_stands new (continuation cont) r is = subst (λ (x : RawValue). RawStands new t x (continuation cont)) (sym is) refl
  read_stands new (values.reference c null) r is = subst (λ (x : RawValue). RawStands new t x (values.reference c null)) (sym is) refl
  read_stands new (values.reference c (small n)) r is = subst (λ (x : RawValue). RawStands new (push (small n) t) x (values.reference c (small n))) (sym is) (root_pushed new c (small n))
  read_stands new (values.reference c (at p)) r is = subst (λ (x : RawValue). RawStands new (push (at p) t) x (values.reference c (at p))) (sym is) (root_pushed new c (at p))

  -- what a register holds of it
  pub register_stands : (new : StoreView ℕ) (v : Value) (r : RawValue) → IsReadAs new t v r → RegisterStands new (after_read v t) (registered r) (held_value t v)
  register_stands new (numeric i32 n) r is = subst (λ (x : RawValue). RegisterStands new t (registered x) (Some (number (numeric i32 n)))) (sym is.1.0) (ap (numeric i32) is.1.1)
  register_stands new (numeric i64 n) r is = subst (λ (x : RawValue). RegisterStands new t (registered x) (Some (number (numeric i64 n)))) (sym is.1.0) (ap (numeric i64) is.1.1)
  register_stands new (numeric f32 n) r is = subst (λ (x : RawValue). RegisterStands new t (registered x) (Some (number (numeric f32 n)))) (sym is) refl
  register_stands new (numeric f64 n) r is = subst (λ (x : RawValue). RegisterStands new t (registered x) (Some (number (numeric f64 n)))) (sym is) refl
  register_stands new (numeric v128 n) r is = subst (λ (x : RawValue). RegisterStands new t (registered x) (Some (number (numeric v128 n)))) (sym is) refl
  register_stands new (function f) r is = subst (λ (x : RawValue). RegisterStands new t (registered x) None) (sym is) tt
  register_stands new (continuation cont) r is = subst (λ (x : RawValue). RegisterStands new t (registered x) None) (sym is) tt
  register_stands new (values.reference c null) r is = subst (λ (x : RawValue). RegisterStands new t (registered x) (Some (reference c None))) (sym is) refl
  register_stands new (values.reference c (small n)) r is = subst (λ (x : RawValue). RegisterStands new (push (small n) t) (registered x) (Some (reference c (Some (length t.pushes))))) (sym is) (refl, names_pushed new (small n))
  register_stands new (values.reference c (at p)) r is = subst (λ (x : RawValue). RegisterStands new (push (at p) t) (registered x) (Some (reference c (Some (length t.pushes))))) (sym is) (refl, names_pushed new (at p))

-- a value shows the same before it was read
pub shown_after : (t : Table ℕ) (v : Value) → shown_value (after_read v t) v ≡ shown_value t v
shown_after t (numeric i32 n) = refl
shown_after t (numeric i64 n) = refl
shown_after t (numeric f32 n) = refl
shown_after t (numeric f64 n) = refl
shown_after t (numeric v128 n) = refl
shown_after t (function f) = refl
shown_after t (continuation cont) = refl
shown_after t (values.reference c null) = refl
shown_after t (values.reference c (small n)) = refl
shown_after t (values.reference c (at p)) = refl

-- a read keeps the pushes
pub keeps_read : (t : Table ℕ) (v : Value) → Keeps t.pushes (after_read v t).pushes
keeps_read t (numeric i32 n) = keeps_same t.pushes t.pushes refl
keeps_read t (numeric i64 n) = keeps_same t.pushes t.pushes refl
keeps_read t (numeric f32 n) = keeps_same t.pushes t.pushes refl
keeps_read t (numeric f64 n) = keeps_same t.pushes t.pushes refl
keeps_read t (numeric v128 n) = keeps_same t.pushes t.pushes refl
keeps_read t (function f) = keeps_same t.pushes t.pushes refl
keeps_read t (continuation cont) = keeps_same t.pushes t.pushes refl
keeps_read t (values.reference c null) = keeps_same t.pushes t.pushes refl
keeps_read t (values.reference c (small n)) = keeps_pushed t.pushes (push (small n) t).pushes (record { index = length t.scoped; generation = t.drops }) refl
keeps_read t (values.reference c (at p)) = keeps_pushed t.pushes (push (at p) t).pushes (record { index = length t.scoped; generation = t.drops }) refl

-- a register that is set holds something, and one that isn't nothing
nothing_held : (s : StoreView ℕ) (t : Table ℕ) (held : Held) → ¬ RegisterStands s t None (Some held)
nothing_held s t (number v) stands = stands
nothing_held s t (reference c None) stands = stands
nothing_held s t (reference c (Some serial)) stands = stands

none_held : (s : StoreView ℕ) (t : Table ℕ) (r : RawValue) → ¬ RegisterStands s t (Some r) None
none_held s t (raw.I32 n) stands = stands
none_held s t (raw.I64 n) stands = stands
none_held s t (raw.F32 n) stands = stands
none_held s t (raw.F64 n) stands = stands
none_held s t (raw.V128 n) stands = stands
none_held s t (raw.Func f) stands = stands
none_held s t (raw.Cont cont) stands = stands
none_held s t (raw.Ref c None) stands = stands
none_held s t (raw.Ref c (Some handle)) stands = stands

-- what a register holds once a value was put into one, where the others hold the same
pub register_with-same : (into : Option ℕ) (r : Option RawValue) (slots slots' : List (Option RawValue)) → ((d : ℕ) → register_at slots d ≡ register_at slots' d) → (d : ℕ) → register_with into r slots d ≡ register_with into r slots' d
register_with-same None r slots slots' same d = same d
register_with-same (Some k) None slots slots' same d = same d
register_with-same (Some k) (Some r) slots slots' same d = ap (cond (d == k) (Some r)) (same d)

-- registers stand once a value was put into one
pub put_stands : (new : StoreView ℕ) (t : Table ℕ) (slots : List (Option RawValue)) (s : State) (into : Option ℕ) (r : Option RawValue) (held : Option Held) → ((d : ℕ) → RegisterStands new t (register_at slots d) (s.registers d)) → RegisterStands new t r held → (d : ℕ) → RegisterStands new t (register_with into r slots d) ((put_into into held s).registers d)
put_stands new t slots s None r held stand stands d = stand d
put_stands new t slots s (Some k) None None stand stands d = stand d
put_stands new t slots s (Some k) None (Some held) stand stands d = absurd (nothing_held new t held stands)
put_stands new t slots s (Some k) (Some r) None stand stands d = absurd (none_held new t r stands)
put_stands new t slots s (Some k) (Some r) (Some held) stand stands d =
    elim (d == k) as (λ b. RegisterStands new t (cond b (Some r) (register_at slots d)) (cond b (Some held) (s.registers d))) [ true ↦ stands | false ↦ stand d ]

-- what a read leaves is what it leaves of what is visible
pub read_over : (v : Value) (into : Option ℕ) (s : State) → put_into into (held_value s.table v) (with_table (after_read v s.table) s) ≡ over s (reads v into (visible s)).1
read_over (values.reference c null) into s = refl
read_over (values.reference c (small n)) into s = refl
read_over (values.reference c (at p)) into s = refl
read_over v into s = refl

-- A value was read by a command whose tests pass.
module _ (layouts : Layouts) (store new : StoreView ℕ) (runner runner' : RunnerView) (s : State) (same : IsSameStore store new) (holds : HoldsState layouts store runner s) (rest_is : runner'.rest ≡ runner.rest)
    (value_of : State → Value) (into : Option ℕ) (v : Value) (value_is : value_of (visible s) ≡ v) (left : List (Bool × Refusal)) where
  abbrev pub reading : CommandShape
  reading = plain (λ (x : State). reads (value_of x) into x)

  module _ (r : RawValue) (answer : Reply) (pass : first_failing left ≡ None)
      (slots_are : (d : ℕ) → register_at runner'.registers d ≡ register_with into (registered r) runner.registers d) (is_read : IsReadAs new s.table v r)
      (table : HoldsAccount layouts new (after_read v s.table) s.account) (shows : ShowsRead layouts new r answer) where
    pub read_goes : GoesUnasked layouts s reading left answer new runner'
    read_goes =
        let held = held_value s.table v in
        let t = after_read v s.table in
        let shown_is : answer ≡ reply.Value (shown_value s.table v) =
        shows t v (holds_table table) (read_stands layouts store s.table (holds_table holds.table) new v r is_read) ∙ ap reply.Value (shown_after s.table v) in
        let kept : (d : ℕ) → RegisterStands new t (register_at runner.registers d) (s.registers d) =
        λ d. stands_kept store new s.table t (register_at runner.registers d) (s.registers d) same (keeps_read s.table v) (holds.registers d) in
        let put = put_stands new t runner.registers (with_table t s) into (registered r) held kept (register_stands layouts store s.table (holds_table holds.table) new v r is_read) in
        record {
          after = put_into into held (with_table t s);
          answers = answers_by layouts None s reading (first_failing left) None answer _ pass
              (shown_is ∙ ap (λ (x : Value). reply.Value (shown_value s.table x)) (sym value_is), read_over v into s ∙ ap (λ (x : Value). over s (reads x into (visible s)).1) (sym value_is));
          account = refl;
          holds = record {
            table = table;
            registers = λ d. subst (λ (o : Option RawValue). RegisterStands new t o ((put_into into held (with_table t s)).registers d)) (sym (slots_are d)) (put d);
            owned = λ o. owned_kept store new runner runner' o (s.owned_registers o) same rest_is (holds.owned o);
            marks = ap (λ (x : RunnerRest). x.marks) rest_is ∙ holds.marks;
          };
        }
