-- What steps do to objects.
use Rattle.std.proofs.Common.{◌≡◌, ℕ, ◌+◌, ◌<◌, ◌≤◌, inl, inr, Bool, true, false, cond, nat_le, List, [], ◌∷◌, ◌++◌, Option, Some, None, length, length-append, refl, sym, ap, ◌∙◌, subst, arith}
use Rattle.std.specs.List.{slice_get}
use Rattle.std.specs.Prelude.{option_and_then}
use Rattle.std.proofs.lemmas.Bool.{cases_eq}
use Rattle.std.proofs.lemmas.Bool.Decides.{nat_tests}
use Rattle.std.proofs.lemmas.Option.{none-some, slice_get_cases}
use Rattle.gc_types.specs.declared.kind.Layouts.{Layouts}
use Rattle.gc_owner.specs.declared.entry.GcClass.{GcClass}
use Rattle.gc_model.specs.Values.{null, small, at, Value, numeric, function, continuation, reference, Object, struct, array, host, exception}
use Rattle.gc_model.specs.Table.{Table, change_at, with_value}
use Rattle.gc_model.specs.Reach.{object_values}
use Rattle.gc_model.specs.Allocation as allocation
use Rattle.gc_model.specs.Allocation.{Grows, LacksMemory, no_heap, no_room}
use Rattle.gc_model.specs.Pending.{take_pending}
use Rattle.gc_model.proofs.Changes.{length-change_at, slice_get-change_at_same, slice_get-change_at_other, slice_get-set_same, slice_get-set_other}
use Rattle.gc_model.proofs.Lists.{slice_get-push_new, slice_get-push_old}
use Rattle.gc_commands.specs.declared.command.Command.{Command}
use Rattle.gc_commands.specs.declared.command.Command.TheVariants.{Bad, Struct, Array, Exn, New, NewExn, NewArr, Fixed, NewBytes, Host, Field, Elem, SetField, SetElem, Load, GetGlobal, Throw, Take, Gc, GcDrop, GcInc, Grow, Cap}
use Rattle.gc_commands.specs.declared.command.Operand.{Operand}
use Rattle.gc_commands.specs.declared.reply.Reply.{Reply}
use Rattle.gc_commands.specs.declared.reply.Reply.TheVariants as reply
use Rattle.gc_commands.specs.declared.reply.Refusal.{Refusal}
use Rattle.gc_script.specs.State.{State, visible, with_table, with_heap}
use Rattle.gc_script.specs.Given.{Target, object_target, target_among, target, target_values, target_field, given, given_value, value_named, given_register, is_struct, is_array}
use Rattle.gc_script.specs.Shapes.{CommandShape, plain, declaring, making, growing, collecting, showing, shape, reads, value_in, frame_value, global_value, pending_value, kept_as, write_target, throw_target}
use Rattle.gc_script.specs.Steps as steps
use Rattle.gc_script.specs.Steps.{Step, AnswersShape, Does, first_failing, tests, built_tests, writing_tests, bound_test, constant_test, value_tests}
use Rattle.gc_script.specs.Run.{Run}
use Rattle.gc_laws.specs.Writes.{object_value_at, WritesTo, Writes, NoneWrites}

-- what a register names stands where it says
abbrev StandsAt : Table ℕ → Option Target → Type 0
StandsAt t None = Unit {0}
StandsAt t (Some found) = slice_get t.objects found.position ≡ Some found.object

object_stands : (t : Table ℕ) (p : ℕ) (o : Option (Object ℕ)) → slice_get t.objects p ≡ o → StandsAt t (object_target p o)
object_stands t p None e = tt
object_stands t p (Some o) e = e

value_stands : (t : Table ℕ) (v : Value) → StandsAt t (target_among t.objects (value_named v))
value_stands t (numeric kind n) = tt
value_stands t (function f) = tt
value_stands t (continuation cont) = tt
value_stands t (reference c null) = tt
value_stands t (reference c (small n)) = tt
value_stands t (reference c (at p)) = object_stands t p (slice_get t.objects p) refl

target_stands : (s : State) (r : ℕ) → StandsAt s.table (target s r)
target_stands s r = value_stands s.table (given_value (given_register s r))

-- the value at an index of an object
abbrev value_of : ℕ → Option (Object ℕ) → Option Value
value_of i found = option_and_then (λ (o : Object ℕ). slice_get (object_values o) i) found

written_here : (i : ℕ) (v : Value) (o : Object ℕ) → i < length (object_values o) → slice_get (object_values (with_value i v o)) i ≡ Some v
written_here i v (struct ty values) inside = slice_get-set_same values i v inside
written_here i v (array ty values) inside = slice_get-set_same values i v inside
written_here i v (host n) inside = absurd (omega (arith, inside))
written_here i v (exception ty tag values) inside = slice_get-set_same values i v inside

written_beside : (j i : ℕ) (v : Value) (o : Object ℕ) → ¬ (i ≡ j) → slice_get (object_values (with_value j v o)) i ≡ slice_get (object_values o) i
written_beside j i v (struct ty values) ne = slice_get-set_other values j i v ne
written_beside j i v (array ty values) ne = slice_get-set_other values j i v ne
written_beside j i v (host n) ne = refl
written_beside j i v (exception ty tag values) ne = slice_get-set_other values j i v ne

-- tests that all pass
behind_passes : (xs ys : List (Bool × Refusal)) → first_failing (xs ++ ys) ≡ None → first_failing ys ≡ None
behind_passes [] ys e = e
behind_passes ((b, why) ∷ xs) ys e = elim b as (λ (x : Bool). cond x (Some why) (first_failing (xs ++ ys)) ≡ None → first_failing ys ≡ None) [
  | true ↦ λ some. absurd (none-some why (sym some))
  | false ↦ λ rest. behind_passes xs ys rest
] e

first_passes : (b : Bool) (why : Refusal) (ts : List (Bool × Refusal)) → first_failing ((b, why) ∷ ts) ≡ None → b ≡ false
first_passes true why ts e = absurd (none-some why (sym e))
first_passes false why ts e = refl

within : (n i : ℕ) → nat_le n i ≡ false → i < n
within n i e = grind (arith, nat_tests, e)

module _ (layouts : Layouts) (s : State) where
  bound_passes : (r i : ℕ) (ts : List (Bool × Refusal)) → first_failing (bound_test s r i ∷ ts) ≡ None → i < length (target_values (target s r))
  bound_passes r i ts e = within (length (target_values (target s r))) i (first_passes (bound_test s r i).0 (bound_test s r i).1 ts e)

  field_bound : (r i : ℕ) (v : Operand) → first_failing (built_tests layouts s (SetField r i v)) ≡ None → i < length (target_values (target s r))
  field_bound r i v e =
      let behind = constant_test s r i ∷ value_tests s (target_field s.table (target s r) i) v in
      bound_passes r i behind (behind_passes (writing_tests is_struct s r v) (bound_test s r i ∷ behind) e)

  elem_bound : (r i : ℕ) (v : Operand) → first_failing (built_tests layouts s (SetElem r i v)) ≡ None → i < length (target_values (target s r))
  elem_bound r i v e =
      let values = value_tests s (target_field s.table (target s r) i) v ++ bound_test s r i ∷ [] in
      bound_passes r i [] (behind_passes (value_tests s (target_field s.table (target s r) i) v) (bound_test s r i ∷ [])
      (behind_passes (constant_test s r i ∷ []) values (behind_passes (writing_tests is_array s r v) (constant_test s r i ∷ values) e)))

-- a value is written where the object of a target has one
target_written : (s : State) (found : Option Target) (index : ℕ) (operand : Operand) (p i : ℕ) (v : Value) → StandsAt s.table found → index < length (target_values found) → WritesTo s found index operand p i v
    → value_of i (slice_get (write_target found index (kept_as (target_field s.table found index) (given_value (given s operand))) s.table).objects p) ≡ Some v
target_written s None index operand p i v stands inside writes = absurd writes
target_written s (Some found) index operand p i v stands inside writes =
    let w = kept_as (target_field s.table (Some found) index) (given_value (given s operand)) in
    let there = slice_get-change_at_same found.position (with_value index w) s.table.objects found.object stands in
    let here : value_of index (slice_get (change_at found.position (with_value index w) s.table.objects) found.position) ≡ Some w = ap (value_of index) there ∙ written_here index w found.object inside in
    subst (λ (q : ℕ). value_of i (slice_get (change_at found.position (with_value index w) s.table.objects) q) ≡ Some v) writes.0
    (subst (λ (j : ℕ). value_of j (slice_get (change_at found.position (with_value index w) s.table.objects) found.position) ≡ Some v) writes.1 (here ∙ ap Some (sym writes.2)))

target_beside : (s : State) (found : Option Target) (index : ℕ) (operand : Operand) (p i : ℕ) → StandsAt s.table found → ((v : Value) → ¬ WritesTo s found index operand p i v)
    → value_of i (slice_get (write_target found index (kept_as (target_field s.table found index) (given_value (given s operand))) s.table).objects p) ≡ value_of i (slice_get s.table.objects p)
target_beside s None index operand p i stands none = refl
target_beside s (Some found) index operand p i stands none =
    let w = kept_as (target_field s.table (Some found) index) (given_value (given s operand)) in
    elim (cases_eq p found.position) [
      | inl same ↦ elim (cases_eq i index) [
        | inl at_index ↦ absurd (none w (sym same, sym at_index, refl))
        | inr differ ↦
            ap (λ (q : ℕ). value_of i (slice_get (change_at found.position (with_value index w) s.table.objects) q)) same
            ∙ ap (value_of i) (slice_get-change_at_same found.position (with_value index w) s.table.objects found.object stands)
            ∙ written_beside index i w found.object differ
            ∙ sym (ap (value_of i) stands)
            ∙ ap (λ (q : ℕ). value_of i (slice_get s.table.objects q)) (sym same)
      ]
      | inr differ ↦ ap (value_of i) (slice_get-change_at_other found.position (with_value index w) s.table.objects p differ)
    ]

-- a command that is done was refused by no test
done_found : (layouts : Layouts) (limit : Option ℕ) (s s' : State) (sh : CommandShape) (found : Option Refusal) → AnswersShape layouts limit s sh found reply.Done s' → (found ≡ None) × Does layouts limit s sh reply.Done s'
done_found layouts limit s s' sh None answers = (refl, answers)
done_found layouts limit s s' sh (Some why) answers = absurd (cc (answers.0))

done_does : (layouts : Layouts) (limit : Option ℕ) (s s' : State) (c : Command) → Step layouts limit s c reply.Done s' → (first_failing (tests layouts s c) ≡ None) × Does layouts limit s (shape c) reply.Done s'
done_does layouts limit s s' c step = done_found layouts limit s s' (shape c) (first_failing (tests layouts s c)) step

-- a new object has the values that it was made of
new_made : (layouts : Layouts) (limit : Option ℕ) (s s' : State) (d : ℕ) (class : GcClass) (o : Object ℕ) → steps.MakesNew layouts limit d class o s reply.Done s' → slice_get s'.table.objects (length s.table.objects) ≡ Some o
new_made layouts limit s s' d class o (steps.made t a allocates said after) =
    ap (λ (x : State). slice_get x.table.objects (length s.table.objects)) after
    ∙ ap (λ (x : Table ℕ). slice_get x.objects (length s.table.objects)) allocates.made
    ∙ slice_get-push_new s.table.objects o
new_made layouts limit s s' d class o (steps.lacks t a lacking said after) = absurd (cc said)

pub made_is : (layouts : Layouts) (limit : Option ℕ) (s s' : State) (c : Command) (d : ℕ) (class : GcClass) (object : State → Object ℕ) → shape c ≡ making d class object
    → Step layouts limit s c reply.Done s' → slice_get s'.table.objects (length s.table.objects) ≡ Some (object (visible s))
made_is layouts limit s s' c d class object is step =
    new_made layouts limit s s' d class (object (visible s)) (subst (λ (sh : CommandShape). Does layouts limit s sh reply.Done s') is (done_does layouts limit s s' c step).1)

-- what is written stands there
pub written_is : (layouts : Layouts) (limit : Option ℕ) (s s' : State) (c : Command) (p i : ℕ) (v : Value) → Step layouts limit s c reply.Done s' → Writes s c p i v → object_value_at s'.table p i ≡ Some v
written_is layouts limit s s' (SetField r index operand) p i v step writes =
    let done = done_does layouts limit s s' (SetField r index operand) step in
    let inside = field_bound layouts (visible s) r index operand done.0 in
    ap (λ (x : State). object_value_at x.table p i) done.1.1 ∙ target_written (visible s) (target s r) index operand p i v (target_stands s r) inside writes
written_is layouts limit s s' (SetElem r index operand) p i v step writes =
    let done = done_does layouts limit s s' (SetElem r index operand) step in
    let inside = elem_bound layouts (visible s) r index operand done.0 in
    ap (λ (x : State). object_value_at x.table p i) done.1.1 ∙ target_written (visible s) (target s r) index operand p i v (target_stands s r) inside writes
written_is layouts limit s s' c p i v step writes = absurd writes

-- the objects that a plain command leaves, but for one that writes
read_objects : (t : State) (v : Value) (into : Option ℕ) → (reads v into t).1.table.objects ≡ t.table.objects
read_objects t (numeric kind n) into = refl
read_objects t (function f) into = refl
read_objects t (continuation cont) into = refl
read_objects t (reference c null) into = refl
read_objects t (reference c (small n)) into = refl
read_objects t (reference c (at p)) into = refl

throw_objects : (t : Table ℕ) (found : Option Target) → (throw_target found t).objects ≡ t.objects
throw_objects t None = refl
throw_objects t (Some found) = refl

-- a plain command leaves a value where it doesn't write, and as many objects
record LeavesValue (s v : State) (p i : ℕ) : Type 0 where
  same : object_value_at v.table p i ≡ object_value_at s.table p i
  count : length v.table.objects ≡ length s.table.objects

abbrev PlainLeaves : ℕ → ℕ → State → CommandShape → Type 0
PlainLeaves p i s (plain effect) = LeavesValue s (effect s).1 p i
PlainLeaves p i s _ = Unit {0}

module _ (p i : ℕ) (s : State) where
  by_objects : (v : State) → v.table.objects ≡ s.table.objects → LeavesValue s v p i
  by_objects v same = record { same = ap (λ (os : List (Object ℕ)). value_of i (slice_get os p)) same; count = ap length same }

  write_count : (found : Option Target) (j : ℕ) (w : Value) → length (write_target found j w s.table).objects ≡ length s.table.objects
  write_count None j w = refl
  write_count (Some found) j w = length-change_at found.position (with_value j w) s.table.objects

  plain_leaves : (c : Command) → ((v : Value) → ¬ Writes s c p i v) → PlainLeaves p i s (shape c)
  plain_leaves (SetField r index operand) none = record {
    same = target_beside s (target s r) index operand p i (target_stands s r) none;
    count = write_count (target s r) index (kept_as (target_field s.table (target s r) index) (given_value (given s operand)));
  }
  plain_leaves (SetElem r index operand) none = record {
    same = target_beside s (target s r) index operand p i (target_stands s r) none;
    count = write_count (target s r) index (kept_as (target_field s.table (target s r) index) (given_value (given s operand)));
  }
  plain_leaves (Field r index into) none = by_objects _ (read_objects s (value_in s r index) into)
  plain_leaves (Elem r index into) none = by_objects _ (read_objects s (value_in s r index) into)
  plain_leaves (Load k d) none = by_objects _ (read_objects s (frame_value s k) (Some d))
  plain_leaves (GetGlobal g d) none = by_objects _ (read_objects s (global_value s g) (Some d))
  plain_leaves (Take d) none = by_objects _ (read_objects (with_table (take_pending s.table) s) (pending_value s.table.pending) (Some d))
  plain_leaves (Throw r) none = by_objects _ (throw_objects s.table (target s r))
  plain_leaves (Struct is_final supertype fs) none = tt
  plain_leaves (Array is_final supertype element) none = tt
  plain_leaves (Exn params) none = tt
  plain_leaves (New d t vs) none = tt
  plain_leaves (NewExn d t tag vs) none = tt
  plain_leaves (NewArr d t n v) none = tt
  plain_leaves (Fixed d t vs) none = tt
  plain_leaves (NewBytes d t bytes) none = tt
  plain_leaves (Host d n) none = tt
  plain_leaves Gc none = tt
  plain_leaves GcDrop none = tt
  plain_leaves GcInc none = tt
  plain_leaves (Grow n) none = tt
  plain_leaves Cap none = tt
  plain_leaves Bad none = record { same = refl; count = refl }
  plain_leaves c none = record { same = refl; count = refl }

-- a plain command leaves as many objects
abbrev pub CountLeft : State → CommandShape → Type 0
CountLeft s (plain effect) = length (effect s).1.table.objects ≡ length s.table.objects
CountLeft s _ = Unit {0}

pub count_left : (s : State) (c : Command) → CountLeft s (shape c)
count_left s (SetField r index operand) = write_count 0 0 s (target s r) index (kept_as (target_field s.table (target s r) index) (given_value (given s operand)))
count_left s (SetElem r index operand) = write_count 0 0 s (target s r) index (kept_as (target_field s.table (target s r) index) (given_value (given s operand)))
count_left s (Field r index into) = ap length (read_objects s (value_in s r index) into)
count_left s (Elem r index into) = ap length (read_objects s (value_in s r index) into)
count_left s (Load k d) = ap length (read_objects s (frame_value s k) (Some d))
count_left s (GetGlobal g d) = ap length (read_objects s (global_value s g) (Some d))
count_left s (Take d) = ap length (read_objects (with_table (take_pending s.table) s) (pending_value s.table.pending) (Some d))
count_left s (Throw r) = ap length (throw_objects s.table (target s r))
count_left s (Struct is_final supertype fs) = tt
count_left s (Array is_final supertype element) = tt
count_left s (Exn params) = tt
count_left s (New d t vs) = tt
count_left s (NewExn d t tag vs) = tt
count_left s (NewArr d t n v) = tt
count_left s (Fixed d t vs) = tt
count_left s (NewBytes d t bytes) = tt
count_left s (Host d n) = tt
count_left s Gc = tt
count_left s GcDrop = tt
count_left s GcInc = tt
count_left s (Grow n) = tt
count_left s Cap = tt
count_left s Bad = refl
count_left s c = refl

-- a value of an object that stood
old_value : (xs : List (Object ℕ)) (o : Object ℕ) (p i : ℕ) → p < length xs → value_of i (slice_get (xs ++ o ∷ []) p) ≡ value_of i (slice_get xs p)
old_value xs o p i stands = elim ((slice_get_cases xs p).1) [
  | inl found ↦ ap (value_of i) (slice_get-push_old xs o p found.0 found.2 ∙ sym found.2)
  | inr past ↦ absurd (omega (arith, past.0, stands))
]

module _ (layouts : Layouts) (limit : Option ℕ) (s s' : State) (p i : ℕ) (stands : p < length s.table.objects) where
  -- the value stays, and no object vanishes
  record Leaves : Type 0 where
    same : object_value_at s'.table p i ≡ object_value_at s.table p i
    more : length s.table.objects ≤ length s'.table.objects

  left : (v : State) → s' ≡ v → v.table.objects ≡ s.table.objects → Leaves
  left v after objects =
      let all : s'.table.objects ≡ s.table.objects = ap (λ (x : State). x.table.objects) after ∙ objects in
      let count : length s'.table.objects ≡ length s.table.objects = ap length all in
      record { same = ap (λ (os : List (Object ℕ)). value_of i (slice_get os p)) all; more = omega arith }

  lacks_objects : (o : Object ℕ) (t : Table ℕ) → LacksMemory layouts limit s.account.places o s.table t → t.objects ≡ s.table.objects
  lacks_objects o t (no_heap refused is) = ap (λ (x : Table ℕ). x.objects) is
  lacks_objects o t (no_room may refused lacks is) = ap (λ (x : Table ℕ). x.objects) is

  grown_objects : (bytes : ℕ) (granted : Bool) (t : Table ℕ) → Grows limit bytes s.table granted t → t.objects ≡ s.table.objects
  grown_objects bytes granted t (allocation.nothing none) = refl
  grown_objects bytes granted t (allocation.granted some may grow) = refl
  grown_objects bytes granted t (no_heap some refused) = refl
  grown_objects bytes granted t (allocation.refused some may over) = refl

  does_leave : (sh : CommandShape) (answer : Reply) → PlainLeaves p i (visible s) sh → Does layouts limit s sh answer s' → Leaves
  does_leave (plain effect) answer leaves does =
      let count : length s'.table.objects ≡ length s.table.objects = ap (λ (x : State). length x.table.objects) does.1 ∙ leaves.count in
      record { same = ap (λ (x : State). object_value_at x.table p i) does.1 ∙ leaves.same; more = omega arith }
  does_leave (declaring d) answer leaves (steps.declared new spells may said after) = left _ after refl
  does_leave (declaring d) answer leaves (steps.bad may said after) = left s after refl
  does_leave (making d class object) answer leaves (steps.made t a allocates said after) =
      let objects : s'.table.objects ≡ s.table.objects ++ object (visible s) ∷ [] = ap (λ (x : State). x.table.objects) after ∙ ap (λ (x : Table ℕ). x.objects) allocates.made in
      let count : length s'.table.objects ≡ length s.table.objects + 1 = ap length objects ∙ length-append s.table.objects (object (visible s) ∷ []) in
      record { same = ap (λ (os : List (Object ℕ)). value_of i (slice_get os p)) objects ∙ old_value s.table.objects (object (visible s)) p i stands; more = omega arith }
  does_leave (making d class object) answer leaves (steps.lacks t a lacking said after) = left (with_heap t a s) after (lacks_objects (object (visible s)) t lacking)
  does_leave (growing n) answer leaves (steps.grown t a grows said after) = left (with_heap t a s) after (grown_objects n true t grows)
  does_leave (growing n) answer leaves (steps.refused t a grows said after) = left (with_heap t a s) after (grown_objects n false t grows)
  does_leave (collecting told) answer leaves does = left _ does.1.1 refl
  does_leave showing answer leaves does = left s does.1 refl

  answers_leave : (sh : CommandShape) (found : Option Refusal) (answer : Reply) → PlainLeaves p i (visible s) sh → AnswersShape layouts limit s sh found answer s' → Leaves
  answers_leave sh None answer leaves answers = does_leave sh answer leaves answers
  answers_leave sh (Some why) answer leaves answers = left s answers.1 refl

  step_leaves : (c : Command) (answer : Reply) → ((v : Value) → ¬ Writes s c p i v) → Step layouts limit s c answer s' → Leaves
  step_leaves c answer none step = answers_leave (shape c) (first_failing (tests layouts s c)) answer (plain_leaves p i (visible s) c none) step

-- a value that no command of a run writes is as it was
pub unwritten_is : (layouts : Layouts) (limit : Option ℕ) (s s' : State) (cs : List Command) (rs : List Reply) (p i : ℕ) (run : Run layouts limit s cs rs s') → p < length s.table.objects → NoneWrites layouts limit s cs rs s' run p i → object_value_at s'.table p i ≡ object_value_at s.table p i
unwritten_is layouts limit s s' [] [] p i run stands none = ap (λ (x : State). object_value_at x.table p i) run
unwritten_is layouts limit s s' [] (r ∷ rs) p i run stands none = absurd run
unwritten_is layouts limit s s' (c ∷ cs) [] p i run stands none = absurd run
unwritten_is layouts limit s s' (c ∷ cs) (r ∷ rs) p i run stands none =
    let leaves = step_leaves layouts limit s run.0 p i stands c r none.0 run.1.0 in
    unwritten_is layouts limit run.0 s' cs rs p i run.1.1 (let more = leaves.more in omega arith) none.1 ∙ leaves.same
