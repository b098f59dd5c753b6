-- What is constant stays through each step.
use Rattle.std.proofs.Common.{◌≡◌, ℕ, zero, suc, inl, inr, Bool, true, false, not, List, [], ◌∷◌, ◌++◌, Option, Some, None, refl, sym, ap, ◌∙◌, subst, arith}
use Rattle.std.specs.List.{slice_get}
use Rattle.std.proofs.lemmas.Bool.{cases_eq}
use Rattle.std.proofs.lemmas.List.{append-nil}
use Rattle.gc_types.specs.declared.kind.Layouts.{Layouts}
use Rattle.gc_types.specs.Declarations.{Declaration, declaration_struct_fields}
use Rattle.gc_owner.specs.declared.entry.GcClass.{GcClass}
use Rattle.gc_model.specs.Values.{Reference, null, small, at, Value, numeric, function, continuation, Object}
use Rattle.gc_model.specs.Values as values
use Rattle.gc_model.specs.Table.{Table, make, with_pages, with_value, write, change_at}
use Rattle.gc_model.specs.Reads.{after_read}
use Rattle.gc_model.specs.Stored.{listed_type, value_type}
use Rattle.gc_model.specs.Allocation as allocation
use Rattle.gc_model.specs.Allocation.{Grows, LacksMemory, no_heap, no_room}
use Rattle.gc_model.proofs.Changes.{slice_get-change_at_same, slice_get-change_at_other}
use Rattle.gc_commands.specs.declared.command.Command.{Command}
use Rattle.gc_commands.specs.declared.command.Command.TheVariants.{Bad, ReadBytes, I31, Field, Elem, Len, HostNumber, SetField, SetElem, Eq, Enter, Leave, Push, Pop, Store, Load, SetGlobal, GetGlobal, Own, Root, Unroot, Throw, Take}
use Rattle.gc_commands.specs.declared.reply.Reply.{Reply}
use Rattle.gc_commands.specs.declared.reply.Refusal.{Refusal}
use Rattle.gc_script.specs.State.{State, visible, over}
use Rattle.gc_script.specs.Given.{given, given_value, named, Target, target, target_among, target_field, is_const, is_constant}
use Rattle.gc_script.specs.Shapes.{CommandShape, plain, declaring, making, growing, collecting, showing, shape, reads, value_in, kept_as, write_target, throw_target, frame_value, global_value, pending_value}
use Rattle.gc_script.specs.Shapes as shapes
use Rattle.gc_script.specs.Given.{object_target, is_struct, is_array}
use Rattle.gc_script.specs.Built.{is_built}
use Rattle.gc_commands.specs.declared.reply.Refusal.TheVariants as refusal
use Rattle.gc_model.specs.Table.{declare, make_heap}
use Rattle.gc_script.specs.Steps as steps
use Rattle.gc_script.specs.Steps.{Step, AnswersShape, Does, MakesNew, first_failing, tests, built_tests, bound_test, constant_test, writing_tests, value_tests}
use Rattle.gc_script.specs.Run.{Run}
use Rattle.gc_lists.specs.Kits.{IsCellType, IsNodeType}
use Rattle.gc_lists.specs.Cells.{cell, node}
use Rattle.gc_lists.specs.Constants.{IsMutable, KeepsConstants}
use Rattle.gc_lists.proofs.Kept.{appended_keeps}

keeps_same : (t u : Table ℕ) → u.types ≡ t.types → u.objects ≡ t.objects → KeepsConstants t u
keeps_same t u types objects = appended_keeps t u [] [] (types ∙ sym (append-nil t.types)) (objects ∙ sym (append-nil t.objects))

keeps_twice : (t u v : Table ℕ) → KeepsConstants t u → KeepsConstants u v → KeepsConstants t v
keeps_twice t u v first second = record {
  types = λ ty d e. second.types ty d (first.types ty d e);
  cells = λ p ty bits next of e. second.cells p ty bits next (first.types ty _ of) (first.cells p ty bits next of e);
  nodes = λ p ty key value height left right of e. second.nodes p ty key value height left right (first.types ty _ of) (first.nodes p ty key value height left right of e);
}

read_keeps : (t : Table ℕ) (v : Value) → KeepsConstants t (after_read v t)
read_keeps t (numeric kind n) = keeps_same t t refl refl
read_keeps t (function f) = keeps_same t t refl refl
read_keeps t (continuation cont) = keeps_same t t refl refl
read_keeps t (values.reference c null) = keeps_same t t refl refl
read_keeps t (values.reference c (small n)) = keeps_same t (after_read (values.reference c (small n)) t) refl refl
read_keeps t (values.reference c (at p)) = keeps_same t (after_read (values.reference c (at p)) t) refl refl

throw_keeps : (t : Table ℕ) (found : Option Target) → KeepsConstants t (throw_target found t)
throw_keeps t None = keeps_same t t refl refl
throw_keeps t (Some found) = keeps_same t (throw_target (Some found) t) refl refl

-- Tests that pass

test_passes : (b : Bool) (why : Refusal) (ts : List (Bool × Refusal)) → first_failing ((b, why) ∷ ts) ≡ None → (b ≡ false) × (first_failing ts ≡ None)
test_passes true why ts e = absurd (cc e)
test_passes false why ts e = (refl, e)

rest_passes : (xs ys : List (Bool × Refusal)) → first_failing (xs ++ ys) ≡ None → first_failing ys ≡ None
rest_passes [] ys e = e
rest_passes (x ∷ xs) ys e = rest_passes xs ys (test_passes x.0 x.1 (xs ++ ys) e).1

-- A write into what isn't constant

-- a value of a cell or of a node isn't written, as its field is constant
cell_stays : (types : List Declaration) (ty bits : ℕ) (next : Reference) (i : ℕ) (v : Value) → IsCellType types ty → is_constant (value_type types (cell {D = ℕ} ty bits next) i) ≡ false → with_value {D = ℕ} i v (cell ty bits next) ≡ cell ty bits next
cell_stays types ty bits next zero v of free = absurd (cc (sym free ∙ ap (λ d. is_constant (listed_type (declaration_struct_fields d) 0)) of))
cell_stays types ty bits next (suc zero) v of free = absurd (cc (sym free ∙ ap (λ d. is_constant (listed_type (declaration_struct_fields d) 1)) of))
cell_stays types ty bits next (suc (suc i)) v of free = refl

node_stays : (types : List Declaration) (ty key value height : ℕ) (left right : Reference) (i : ℕ) (v : Value) → IsNodeType types ty → is_constant (value_type types (node {D = ℕ} ty key value height left right) i) ≡ false
    → with_value {D = ℕ} i v (node ty key value height left right) ≡ node ty key value height left right
node_stays types ty key value height left right zero v of free = absurd (cc (sym free ∙ ap (λ d. is_constant (listed_type (declaration_struct_fields d) 0)) of))
node_stays types ty key value height left right (suc zero) v of free = absurd (cc (sym free ∙ ap (λ d. is_constant (listed_type (declaration_struct_fields d) 1)) of))
node_stays types ty key value height left right (suc (suc zero)) v of free = absurd (cc (sym free ∙ ap (λ d. is_constant (listed_type (declaration_struct_fields d) 2)) of))
node_stays types ty key value height left right (suc (suc (suc zero))) v of free = absurd (cc (sym free ∙ ap (λ d. is_constant (listed_type (declaration_struct_fields d) 3)) of))
node_stays types ty key value height left right (suc (suc (suc (suc zero)))) v of free = absurd (cc (sym free ∙ ap (λ d. is_constant (listed_type (declaration_struct_fields d) 4)) of))
node_stays types ty key value height left right (suc (suc (suc (suc (suc i))))) v of free = refl

-- what a register names stands in the table
abbrev IsHere : List (Object ℕ) → Option Target → Type 0
IsHere objects None = Unit {0}
IsHere objects (Some found) = slice_get objects found.position ≡ Some found.object

target_here : (objects : List (Object ℕ)) (r : Option Reference) → IsHere objects (target_among objects r)
target_here objects None = tt
target_here objects (Some null) = tt
target_here objects (Some (small n)) = tt
target_here objects (Some (at p)) = by (slice_get objects p) refl
  where
    by : (o : Option (Object ℕ)) → slice_get objects p ≡ o → IsHere objects (object_target p o)
    by None e = tt
    by (Some o) e = e

module _ (t : Table ℕ) (position : ℕ) (object : Object ℕ) (here : slice_get t.objects position ≡ Some object) (i : ℕ) (v : Value) (free : is_constant (value_type t.types object i) ≡ false) where
  kept_at : (p : ℕ) (o : Object ℕ) → slice_get t.objects p ≡ Some o → (is_constant (value_type t.types o i) ≡ false → with_value i v o ≡ o) → slice_get (change_at position (with_value i v) t.objects) p ≡ Some o
  kept_at p o e stays = elim (cases_eq p position) [
    | inl same ↦
        let there : slice_get t.objects position ≡ Some o = ap (λ n. slice_get t.objects n) (sym same) ∙ e in
        let both : Some object ≡ Some o = sym here ∙ there in
        let one : object ≡ o = grind (arith, both) in
        ap (λ n. slice_get (change_at position (with_value i v) t.objects) n) same ∙ slice_get-change_at_same position (with_value i v) t.objects o there
        ∙ ap Some (stays (subst (λ (x : Object ℕ). is_constant (value_type t.types x i) ≡ false) one free))
    | inr other ↦ slice_get-change_at_other position (with_value i v) t.objects p other ∙ e
  ]

  write_found : KeepsConstants t (write position i v t)
  write_found = record {
    types = λ ty d e. e;
    cells = λ p ty bits next of e. kept_at p (cell ty bits next) e (λ f. cell_stays t.types ty bits next i v of f);
    nodes = λ p ty key value height left right of e. kept_at p (node ty key value height left right) e (λ f. node_stays t.types ty key value height left right i v of f);
  }

pub mutable_write : (t : Table ℕ) (position i : ℕ) (v : Value) → IsMutable t position i → KeepsConstants t (write position i v t)
mutable_write t position i v is = write_found t position is.object is.object_is i v (ap is_constant is.field_is ∙ ap is_const is.mutable)

write_keeps : (t : Table ℕ) (found : Option Target) (i : ℕ) (v : Value) → IsHere t.objects found → is_constant (target_field t found i) ≡ false → KeepsConstants t (write_target found i v t)
write_keeps t None i v here free = keeps_same t t refl refl
write_keeps t (Some found) i v here free = write_found t found.position found.object here i v free

-- Plain commands

abbrev KeptBy : State → CommandShape → Type 0
KeptBy s (plain effect) = KeepsConstants s.table (effect s).1.table
KeptBy s _ = Unit {0}

-- any other table with these types and objects
others_keep : (s u : State) → u.table.types ≡ s.table.types → u.table.objects ≡ s.table.objects → KeepsConstants s.table u.table
others_keep s u types objects = keeps_same s.table u.table types objects

plain_keeps : (layouts : Layouts) (s : State) (c : Command) → first_failing (built_tests layouts s c) ≡ None → KeptBy s (shape c)
plain_keeps layouts s (I31 d n) pass = others_keep s (shapes.makes_small d n s).1 refl refl
plain_keeps layouts s (Field r i into) pass = read_keeps s.table (value_in s r i)
plain_keeps layouts s (Elem r i into) pass = read_keeps s.table (value_in s r i)
plain_keeps layouts s (SetField r i v) pass =
    let behind = rest_passes (writing_tests is_struct s r v) (bound_test s r i ∷ constant_test s r i ∷ value_tests s (target_field s.table (target s r) i) v) pass in
    let free = test_passes (constant_test s r i).0 (constant_test s r i).1 (value_tests s (target_field s.table (target s r) i) v)
    (test_passes (bound_test s r i).0 (bound_test s r i).1 (constant_test s r i ∷ value_tests s (target_field s.table (target s r) i) v) behind).1 in
    write_keeps s.table (target s r) i (kept_as (target_field s.table (target s r) i) (given_value (given s v))) (target_here s.table.objects (named s r)) free.0
plain_keeps layouts s (SetElem r i v) pass =
    let behind = rest_passes (writing_tests is_array s r v) (constant_test s r i ∷ (value_tests s (target_field s.table (target s r) i) v ++ bound_test s r i ∷ [])) pass in
    let free = test_passes (constant_test s r i).0 (constant_test s r i).1 (value_tests s (target_field s.table (target s r) i) v ++ bound_test s r i ∷ []) behind in
    write_keeps s.table (target s r) i (kept_as (target_field s.table (target s r) i) (given_value (given s v))) (target_here s.table.objects (named s r)) free.0
plain_keeps layouts s Leave pass = others_keep s (shapes.leaves s).1 refl refl
plain_keeps layouts s (Push k) pass = others_keep s (shapes.opens_frame k s).1 refl refl
plain_keeps layouts s Pop pass = others_keep s (shapes.closes_frame s).1 refl refl
plain_keeps layouts s (Store k r) pass = others_keep s (shapes.sets_slot k r s).1 refl refl
plain_keeps layouts s (Load k d) pass = read_keeps s.table (frame_value s k)
plain_keeps layouts s (SetGlobal g r) pass = others_keep s (shapes.sets_global g r s).1 refl refl
plain_keeps layouts s (GetGlobal g d) pass = read_keeps s.table (global_value s g)
plain_keeps layouts s (Own o r) pass = others_keep s (shapes.owns o r s).1 refl refl
plain_keeps layouts s (Root d o) pass = others_keep s (shapes.roots d o s).1 refl refl
plain_keeps layouts s (Unroot o) pass = others_keep s (shapes.unroots o s).1 refl refl
plain_keeps layouts s (Throw r) pass = throw_keeps s.table (target s r)
plain_keeps layouts s (Take d) pass =
    let u : Table ℕ = record s.table { pending = None } in
    keeps_twice s.table u (after_read (pending_value s.table.pending) u) (keeps_same s.table u refl refl) (read_keeps u (pending_value s.table.pending))
plain_keeps layouts s (ReadBytes r n) pass = others_keep s s refl refl
plain_keeps layouts s (Len r) pass = others_keep s s refl refl
plain_keeps layouts s (HostNumber r) pass = others_keep s s refl refl
plain_keeps layouts s (Eq r q) pass = others_keep s s refl refl
plain_keeps layouts s Enter pass = others_keep s (shapes.enters s).1 refl refl
plain_keeps layouts s Bad pass = others_keep s s refl refl
plain_keeps layouts s _ pass = tt

-- All commands

module _ (layouts : Layouts) (limit : Option ℕ) (s u : State) where
  by_table : (t : Table ℕ) → u.table ≡ t → KeepsConstants s.table t → KeepsConstants s.table u.table
  by_table t is keeps = subst (KeepsConstants s.table) (sym is) keeps

  lacks_keeps : (o : Object ℕ) (t : Table ℕ) → LacksMemory layouts limit s.account.places o s.table t → KeepsConstants s.table t
  lacks_keeps o t (no_heap refused is) = subst (KeepsConstants s.table) (sym is) (keeps_same s.table s.table refl refl)
  lacks_keeps o t (no_room may refused lacks is) = subst (KeepsConstants s.table) (sym is) (keeps_same s.table (make_heap s.table) refl refl)

  makes_keeps : (d : ℕ) (class : GcClass) (o : Object ℕ) (answer : Reply) → MakesNew layouts limit d class o s answer u → KeepsConstants s.table u.table
  makes_keeps d class o answer (steps.made t a allocates said after) =
      by_table t (ap (λ (x : State). x.table) after)
      (subst (KeepsConstants s.table) (sym allocates.made) (appended_keeps s.table (make o (with_pages allocates.pages s.table)) [] (o ∷ []) (sym (append-nil s.table.types)) refl))
  makes_keeps d class o answer (steps.lacks t a lacking said after) = by_table t (ap (λ (x : State). x.table) after) (lacks_keeps o t lacking)

  grows_keeps : (bytes : ℕ) (granted : Bool) (t : Table ℕ) → Grows limit bytes s.table granted t → KeepsConstants s.table t
  grows_keeps bytes granted t (allocation.nothing none) = keeps_same s.table t refl refl
  grows_keeps bytes granted t (allocation.granted some may grow) = keeps_same s.table t refl refl
  grows_keeps bytes granted t (no_heap some refused) = keeps_same s.table t refl refl
  grows_keeps bytes granted t (allocation.refused some may over) = keeps_same s.table t refl refl

  declares_keeps : (d : Option Declaration) (answer : Reply) → steps.AnswersDeclare d s answer u → KeepsConstants s.table u.table
  declares_keeps d answer (steps.declared new spells may said after) =
      by_table (declare new s.table) (ap (λ (x : State). x.table) after) (appended_keeps s.table (declare new s.table) (new ∷ []) [] refl (sym (append-nil s.table.objects)))
  declares_keeps d answer (steps.bad may said after) = by_table s.table (ap (λ (x : State). x.table) after) (keeps_same s.table s.table refl refl)

  -- what is visible has the types and the objects of the whole
  over_keeps : (v : State) → KeepsConstants (visible s).table v.table → u ≡ over s v → KeepsConstants s.table u.table
  over_keeps v keeps after = by_table (over s v).table (ap (λ (x : State). x.table) after) (record { types = keeps.types; cells = keeps.cells; nodes = keeps.nodes })

  does_keeps : (sh : CommandShape) (answer : Reply) → KeptBy (visible s) sh → Does layouts limit s sh answer u → KeepsConstants s.table u.table
  does_keeps (plain effect) answer kept does = over_keeps (effect (visible s)).1 kept does.1
  does_keeps (declaring d) answer kept does = declares_keeps (d s.table.types) answer does
  does_keeps (making d class object) answer kept does = makes_keeps d class (object (visible s)) answer does
  does_keeps (growing n) answer kept (steps.grown t a grows said after) = by_table t (ap (λ (x : State). x.table) after) (grows_keeps n true t grows)
  does_keeps (growing n) answer kept (steps.refused t a grows said after) = by_table t (ap (λ (x : State). x.table) after) (grows_keeps n false t grows)
  does_keeps (collecting told) answer kept does = by_table s.table (ap (λ (x : State). x.table) does.1.1) (keeps_same s.table s.table refl refl)
  does_keeps showing answer kept does = by_table s.table (ap (λ (x : State). x.table) does.1) (keeps_same s.table s.table refl refl)

  answers_keep : (sh : CommandShape) (found : Option Refusal) (answer : Reply) → (found ≡ None → KeptBy (visible s) sh) → AnswersShape layouts limit s sh found answer u → KeepsConstants s.table u.table
  answers_keep sh None answer kept answers = does_keeps sh answer (kept refl) answers
  answers_keep sh (Some why) answer kept answers = by_table s.table (ap (λ (x : State). x.table) answers.1) (keeps_same s.table s.table refl refl)

pub step_keeps : (layouts : Layouts) (limit : Option ℕ) (s u : State) (c : Command) (answer : Reply) → Step layouts limit s c answer u → KeepsConstants s.table u.table
step_keeps layouts limit s u c answer step =
    answers_keep layouts limit s u (shape c) (first_failing (tests layouts s c)) answer
    (λ pass. plain_keeps layouts (visible s) c (test_passes (not (is_built c)) refusal.BadLine (built_tests layouts (visible s) c) pass).1) step

pub run_keeps : (layouts : Layouts) (limit : Option ℕ) (s u : State) (cs : List Command) (rs : List Reply) → Run layouts limit s cs rs u → KeepsConstants s.table u.table
run_keeps layouts limit s u [] [] run = subst (λ (x : State). KeepsConstants s.table x.table) (sym run) (keeps_same s.table s.table refl refl)
run_keeps layouts limit s u [] (r ∷ rs) run = absurd run
run_keeps layouts limit s u (c ∷ cs) [] run = absurd run
run_keeps layouts limit s u (c ∷ cs) (r ∷ rs) (mid, (step, run)) = keeps_twice s.table mid.table u.table (step_keeps layouts limit s mid c r step) (run_keeps layouts limit mid u cs rs run)
