-- What becomes of a register whose root is gone.
use Rattle.std.proofs.Common.{◌≡◌, ◌==◌, ℕ, ◌<◌, ◌⊎◌, inl, inr, Bool, true, false, cond, not, List, [], ◌∷◌, ◌++◌, Option, Some, None, Contains, length, refl, sym, ap, ◌∙◌, subst, arith}
use Rattle.std.specs.Prelude.{is_none}
use Rattle.std.proofs.lemmas.Bool.{cases_eq}
use Rattle.std.proofs.lemmas.List.Elements.{Contains-append_cases}
use Rattle.gc_memory.proofs.ListLemmas.{only_item}
use Rattle.gc_types.specs.declared.kind.Layouts.{Layouts}
use Rattle.gc_types.specs.declared.value.FieldType.{FieldType}
use Rattle.gc_types.specs.Declarations.{struct_fields_at, elem_at}
use Rattle.gc_owner.specs.declared.entry.GcClass.{GcClass}
use Rattle.gc_owner.specs.declared.entry.GcClass.TheVariants as class
use Rattle.gc_model.specs.Values.{Reference, Value}
use Rattle.gc_model.specs.Pending.{take_pending}
use Rattle.gc_model.specs.Table.{Table, Scoped}
use Rattle.gc_model.specs.Frames.{slot_at}
use Rattle.gc_model.specs.Globals.{global_at}
use Rattle.gc_model.specs.Live.{rooted_among}
use Rattle.gc_model.specs.Sizes.{exn_fields_at}
use Rattle.gc_rooted.proofs.GoneRoots.{not_same}
use Rattle.gc_model.specs.Accounts.{Account}
use Rattle.gc_commands.specs.declared.command.Command.{Command}
use Rattle.gc_commands.specs.declared.command.Command.TheVariants.{Bad, New, NewExn, NewArr, Fixed, NewBytes, ReadBytes, Host, I31, Field, Elem, Len, HostNumber, SetField, SetElem, Eq, Store, Load, SetGlobal, GetGlobal, Own, Root, Throw, Take, Struct, Array, Exn, Gc, GcDrop, GcInc, Grow, Cap}
use Rattle.gc_commands.specs.declared.command.Operand.{Operand}
use Rattle.gc_commands.specs.declared.command.Operand.TheVariants.{Register}
use Rattle.gc_commands.specs.declared.reply.Reply.{Reply}
use Rattle.gc_commands.specs.declared.reply.Reply.TheVariants as reply
use Rattle.gc_commands.specs.declared.reply.Refusal.{Refusal}
use Rattle.gc_commands.specs.declared.reply.Refusal.TheVariants as refusal
use Rattle.gc_script.specs.State.{State, Held, number, reference, begin, put_register, with_table, visible}
use Rattle.gc_script.specs.Built.{is_built}
use Rattle.gc_script.specs.Given.{is_struct, is_array, Given, gone, given_root, given_among, given, given_register, held_operand, is_unset, is_gone}
use Rattle.gc_script.specs.Shapes.{CommandShape, plain, declaring, making, growing, collecting, showing, shape, given_struct, new_exception, filled_array, new_fixed, reads, held_value, value_in, frame_value, global_value, pending_value}
use Rattle.gc_script.specs.Steps as steps
use Rattle.gc_script.specs.Steps.{Step, AnswersShape, Does, first_failing, tests, value_tests, all_value_tests, element_tests, fields_tests, any_unset, count_in, writing_tests, bound_test, constant_test, heap_tests, built_tests, new_array_tests, new_fixed_tests}
use Rattle.gc_script.specs.Run.{Run}
use Rattle.gc_laws.specs.Stale.{destination, NoneSets, HasObject, HasOperand}
use Rattle.gc_laws.proofs.SoundRegisters.{Sound, SoundHeld}
use Rattle.gc_laws.proofs.PlainKept.{Kept}
use Rattle.gc_laws.proofs.StepKept.{step_kept, run_sound, begin_sound}

-- a command's tests

-- what a register or an operand gives that is set
set_given : (scoped : List Scoped) (h : Option Held) → ¬ (h ≡ None) → is_unset (given_among scoped h) ≡ false
set_given scoped None set = absurd (set refl)
set_given scoped (Some (number v)) set = refl
set_given scoped (Some (reference c None)) set = refl
set_given scoped (Some (reference c (Some serial))) set = elim (rooted_among serial scoped) as (λ (found : Option Reference). is_unset (given_root c found) ≡ false) [
  | None ↦ refl
  | Some r ↦ refl
]

there : {A : Type 0} (x : Option A) → ¬ (x ≡ None) → is_none x ≡ false
there None some = absurd (some refl)
there (Some x) some = refl

-- the first test that is true refuses so
record Fails (ts : List (Bool × Refusal)) (why : Refusal) : Type 0 where
  first : first_failing ts ≡ Some why

fails_here : (b : Bool) (why : Refusal) (ts : List (Bool × Refusal)) → b ≡ true → Fails ((b, why) ∷ ts) why
fails_here b why ts e = record { first = ap (λ (x : Bool). first_failing ((x, why) ∷ ts)) e }

passes : (b : Bool) (why found : Refusal) (ts : List (Bool × Refusal)) → b ≡ false → Fails ts found → Fails ((b, why) ∷ ts) found
passes b why found ts e fails = record { first = ap (λ (x : Bool). first_failing ((x, why) ∷ ts)) e ∙ fails.first }

gone_fails : (g : Given) (ts : List (Bool × Refusal)) → g ≡ gone → Fails ((is_unset g, refusal.NoSuchName) ∷ (is_gone g, refusal.Unrooted) ∷ ts) refusal.Unrooted
gone_fails g ts e = passes (is_unset g) refusal.NoSuchName refusal.Unrooted _ (ap is_unset e) (fails_here (is_gone g) refusal.Unrooted ts (ap is_gone e))

gone_written : (g h : Given) (ts : List (Bool × Refusal)) → g ≡ gone → is_unset h ≡ false → Fails ((is_unset g, refusal.NoSuchName) ∷ (is_unset h, refusal.NoSuchName) ∷ (is_gone g, refusal.Unrooted) ∷ ts) refusal.Unrooted
gone_written g h ts e set =
    passes (is_unset g) refusal.NoSuchName refusal.Unrooted _ (ap is_unset e)
    (passes (is_unset h) refusal.NoSuchName refusal.Unrooted _ set (fails_here (is_gone g) refusal.Unrooted ts (ap is_gone e)))

gone_compared : (g h : Given) (ts : List (Bool × Refusal)) → is_unset g ≡ false → is_unset h ≡ false → (g ≡ gone) ⊎ (h ≡ gone)
    → Fails ((is_unset g, refusal.NoSuchName) ∷ (is_unset h, refusal.NoSuchName) ∷ (is_gone g, refusal.Unrooted) ∷ (is_gone h, refusal.Unrooted) ∷ ts) refusal.Unrooted
gone_compared g h ts one other found =
    passes (is_unset g) refusal.NoSuchName refusal.Unrooted _ one (passes (is_unset h) refusal.NoSuchName refusal.Unrooted _ other (either found))
  where
    either : (g ≡ gone) ⊎ (h ≡ gone) → Fails ((is_gone g, refusal.Unrooted) ∷ (is_gone h, refusal.Unrooted) ∷ ts) refusal.Unrooted
    either (inl e) = fails_here (is_gone g) refusal.Unrooted _ (ap is_gone e)
    either (inr e) = elim (is_gone g) as (λ (b : Bool). Fails ((b, refusal.Unrooted) ∷ (is_gone h, refusal.Unrooted) ∷ ts) refusal.Unrooted) [
      | true ↦ fails_here true refusal.Unrooted _ refl
      | false ↦ passes false refusal.Unrooted refusal.Unrooted _ refl (fails_here (is_gone h) refusal.Unrooted ts (ap is_gone e))
    ]

module _ (layouts : Layouts) (s : State) (r : ℕ) (stale : given_register s r ≡ gone) where
  stale_at : (q : ℕ) → q ≡ r → given_register s q ≡ gone
  stale_at q e = ap (given_register s) e ∙ stale

  object_fails : (c : Command) → HasObject s c r → Fails (built_tests layouts (visible s) c) refusal.Unrooted
  object_fails (ReadBytes q n) e = gone_fails (given_register s q) _ (stale_at q e)
  object_fails (Field q i into) e = gone_fails (given_register s q) _ (stale_at q e)
  object_fails (Elem q i into) e = gone_fails (given_register s q) _ (stale_at q e)
  object_fails (Len q) e = gone_fails (given_register s q) _ (stale_at q e)
  object_fails (HostNumber q) e = gone_fails (given_register s q) _ (stale_at q e)
  object_fails (SetField q i v) e = gone_written (given_register s q) (given s v) _ (stale_at q e.0) (set_given s.table.scoped (held_operand s v) e.1)
  object_fails (SetElem q i v) e = gone_written (given_register s q) (given s v) _ (stale_at q e.0) (set_given s.table.scoped (held_operand s v) e.1)
  object_fails (Eq p q) e =
      gone_compared (given_register s p) (given_register s q) _ (set_given s.table.scoped (s.registers p) e.1) (set_given s.table.scoped (s.registers q) e.2)
      (elim e.0 as (λ (x : (p ≡ r) ⊎ (q ≡ r)). (given_register s p ≡ gone) ⊎ (given_register s q ≡ gone)) [ inl one ↦ inl (stale_at p one) | inr other ↦ inr (stale_at q other) ])
  object_fails (Store k q) e = passes (is_none (slot_at s.table k)) refusal.NoSuchName refusal.Unrooted _ (there (slot_at s.table k) e.1) (gone_fails (given_register s q) _ (stale_at q e.0))
  object_fails (SetGlobal g q) e = passes (is_none (global_at s.table g)) refusal.NoSuchName refusal.Unrooted _ (there (global_at s.table g) e.1) (gone_fails (given_register s q) _ (stale_at q e.0))
  object_fails (Own o q) e = gone_fails (given_register s q) _ (stale_at q e)
  object_fails (Throw q) e = gone_fails (given_register s q) _ (stale_at q e)
  object_fails _ e = absurd e

  object_built : (c : Command) → HasObject s c r → is_built c ≡ true
  object_built Bad has = absurd has
  object_built c has = refl

  value_built : (c : Command) → HasOperand c r → is_built c ≡ true
  value_built Bad has = absurd has
  value_built c has = refl

-- a refusal by some test is the reply
refused_by : (layouts : Layouts) (limit : Option ℕ) (s s' : State) (c : Command) (answer : Reply) (why : Refusal) → is_built c ≡ true → Fails (built_tests layouts (visible s) c) why → Step layouts limit s c answer s' → answer ≡ reply.Refused why
refused_by layouts limit s s' c answer why built fails step =
    let found = passes (not (is_built c)) refusal.BadLine why (built_tests layouts (visible s) c) (ap not built) fails in
    (subst (λ (f : Option Refusal). AnswersShape layouts limit s (shape c) f answer s') found.first step).0

pub object_refused : (layouts : Layouts) (limit : Option ℕ) (s s' : State) (c : Command) (answer : Reply) (r : ℕ) → given_register s r ≡ gone → HasObject s c r → Step layouts limit s c answer s' → answer ≡ reply.Refused refusal.Unrooted
object_refused layouts limit s s' c answer r stale has step = refused_by layouts limit s s' c answer refusal.Unrooted (object_built layouts s r stale c has) (object_fails layouts s r stale c has) step

-- values

-- some test refuses
record Refuses (ts : List (Bool × Refusal)) : Type 0 where
  why : Refusal
  fails : Fails ts why

refuses_here : (b : Bool) (why : Refusal) (ts : List (Bool × Refusal)) → b ≡ true → Refuses ((b, why) ∷ ts)
refuses_here b why ts e = record { why = why; fails = fails_here b why ts e }

refuses_later : (b : Bool) (why : Refusal) (ts : List (Bool × Refusal)) → Refuses ts → Refuses ((b, why) ∷ ts)
refuses_later true why ts later = refuses_here true why ts refl
refuses_later false why ts later = record { why = later.why; fails = passes false why later.why ts refl later.fails }

refuses_before : (xs ys : List (Bool × Refusal)) → Refuses xs → Refuses (xs ++ ys)
refuses_before [] ys refuses = absurd (cc (refuses.fails.first))
refuses_before ((b, why) ∷ xs) ys refuses = elim b as (λ (x : Bool). Refuses ((x, why) ∷ xs) → Refuses ((x, why) ∷ (xs ++ ys))) [
  | true ↦ λ first. refuses_here true why (xs ++ ys) refl
  | false ↦ λ later. refuses_later false why (xs ++ ys) (refuses_before xs ys (record { why = later.why; fails = record { first = later.fails.first } }))
] refuses

refuses_behind : (xs ys : List (Bool × Refusal)) → Refuses ys → Refuses (xs ++ ys)
refuses_behind [] ys refuses = refuses
refuses_behind ((b, why) ∷ xs) ys refuses = refuses_later b why (xs ++ ys) (refuses_behind xs ys refuses)

module _ (s : State) (r : ℕ) (stale : given_register s r ≡ gone) where
  value_refuses : (field : Option FieldType) (v : Operand) → v ≡ Register r → Refuses (value_tests s field v)
  value_refuses field v e = refuses_here (is_gone (given s v)) refusal.Unrooted _ (ap is_gone (ap (given s) e ∙ stale))

  values_refuse : (fields : List FieldType) (vs : List Operand) → length vs ≡ length fields → Contains vs (Register r) → Refuses (all_value_tests s fields vs)
  values_refuse fields [] same among = absurd (omega (arith, among.1))
  values_refuse [] (v ∷ vs) same among = absurd (omega (arith, same))
  values_refuse (f ∷ fields) (v ∷ vs) same among = elim (Contains-append_cases (v ∷ []) vs (Register r) among) [
    | inl one ↦ refuses_before (value_tests s (Some f) v) (all_value_tests s fields vs) (value_refuses (Some f) v (only_item v (Register r) one))
    | inr later ↦ refuses_behind (value_tests s (Some f) v) (all_value_tests s fields vs) (values_refuse fields vs (omega (arith, same)) later)
  ]

  fields_refuse : (fields : Option (List FieldType)) (vs : List Operand) → Contains vs (Register r) → Refuses (fields_tests s fields vs)
  fields_refuse None vs among = refuses_here true refusal.NoSuchName _ refl
  fields_refuse (Some fields) vs among =
      refuses_later false refusal.NoSuchName _ (refuses_later (any_unset s vs) refusal.NoSuchName _ (elim (cases_eq (length vs) (length fields)) [
        | inl same ↦ refuses_later (not (length vs == length fields)) refusal.FieldCount _ (values_refuse fields vs same among)
        | inr differ ↦ refuses_here (not (length vs == length fields)) refusal.FieldCount _ (ap not (not_same (length vs) (length fields) differ))
      ]))

  elements_refuse : (element : Option FieldType) (vs : List Operand) → Contains vs (Register r) → Refuses (element_tests s element vs)
  elements_refuse element [] among = absurd (omega (arith, among.1))
  elements_refuse element (v ∷ vs) among = elim (Contains-append_cases (v ∷ []) vs (Register r) among) [
    | inl one ↦ refuses_before (value_tests s element v) (element_tests s element vs) (value_refuses element v (only_item v (Register r) one))
    | inr later ↦ refuses_behind (value_tests s element v) (element_tests s element vs) (elements_refuse element vs later)
  ]

  some_refuse : (n : ℕ) (field : Option FieldType) (v : Operand) → 0 < n → v ≡ Register r → Refuses (cond (n == 0) [] (value_tests s field v))
  some_refuse n field v some e = subst (λ (none : Bool). Refuses (cond none [] (value_tests s field v))) (sym (not_same n 0 (λ zero. omega (arith, zero, some)))) (value_refuses field v e)

module _ (layouts : Layouts) (s : State) (r : ℕ) (stale : given_register s r ≡ gone) where
  tests_refuse : (c : Command) → HasOperand c r → Refuses (built_tests layouts s c)
  tests_refuse (New d t vs) among = refuses_before (fields_tests s (struct_fields_at s.table.types t) vs) (heap_tests layouts s (given_struct s t vs)) (fields_refuse s r stale (struct_fields_at s.table.types t) vs among)
  tests_refuse (NewExn d t tag vs) among = refuses_before (fields_tests s (exn_fields_at s.table.types t) vs) (heap_tests layouts s (new_exception s t tag vs)) (fields_refuse s r stale (exn_fields_at s.table.types t) vs among)
  tests_refuse (NewArr d t n v) has =
      refuses_before (new_array_tests s t n v) (heap_tests layouts s (filled_array s t n v))
      (refuses_later (is_none (elem_at s.table.types t)) refusal.NoSuchName _ (refuses_later (is_unset (given s v)) refusal.NoSuchName _ (some_refuse s r stale n (elem_at s.table.types t) v has.1 has.0)))
  tests_refuse (Fixed d t vs) among =
      refuses_before (new_fixed_tests s t vs) (heap_tests layouts s (new_fixed s t vs))
      (refuses_later (is_none (elem_at s.table.types t)) refusal.NoSuchName _ (refuses_later (any_unset s vs) refusal.NoSuchName _ (elements_refuse s r stale (elem_at s.table.types t) vs among)))
  tests_refuse (SetField q i v) e =
      refuses_behind (writing_tests is_struct s q v) _ (refuses_later (bound_test s q i).0 (bound_test s q i).1 _ (refuses_later (constant_test s q i).0 (constant_test s q i).1 _ (value_refuses s r stale _ v e)))
  tests_refuse (SetElem q i v) e =
      refuses_behind (writing_tests is_array s q v) _ (refuses_later (constant_test s q i).0 (constant_test s q i).1 _ (refuses_before (value_tests s _ v) (bound_test s q i ∷ []) (value_refuses s r stale _ v e)))
  tests_refuse _ has = absurd has

pub value_refused : (layouts : Layouts) (limit : Option ℕ) (s s' : State) (c : Command) (answer : Reply) (r : ℕ) → given_register s r ≡ gone → HasOperand c r → Step layouts limit s c answer s' → (why : Refusal) × (answer ≡ reply.Refused why)
value_refused layouts limit s s' c answer r stale has step =
    let refuses = tests_refuse layouts (visible s) r stale c has in
    (refuses.why, refused_by layouts limit s s' c answer refuses.why (value_built layouts s r stale c has) refuses.fails step)

-- what stays gone

other_register : (r d : ℕ) (h : Held) (registers : ℕ → Option Held) → ¬ (Some d ≡ Some r) → cond (r == d) (Some h) (registers r) ≡ registers r
other_register r d h registers ne = ap (λ (b : Bool). cond b (Some h) (registers r)) (not_same r d (λ e. ne (ap Some (sym e))))

other_put : (r : ℕ) (into : Option ℕ) (h : Option Held) (registers : ℕ → Option Held) → ¬ (into ≡ Some r) → put_register into h registers r ≡ registers r
other_put r None h registers ne = refl
other_put r (Some d) None registers ne = refl
other_put r (Some d) (Some h) registers ne = other_register r d h registers ne

module _ (r : ℕ) where
  -- a plain command leaves the register, and so does one that makes an object
  abbrev LeavesPlain : State → CommandShape → Type 0
  LeavesPlain s (plain effect) = (effect s).1.registers r ≡ s.registers r
  LeavesPlain s (making d class object) = ¬ (Some d ≡ Some r)
  LeavesPlain s _ = Unit {0}

  read_elsewhere : (s t : State) (v : Value) (into : Option ℕ) → t.registers ≡ s.registers → ¬ (into ≡ Some r) → (reads v into t).1.registers r ≡ s.registers r
  read_elsewhere s t v into same ne = other_put r into (held_value t.table v) t.registers ne ∙ ap (λ (f : ℕ → Option Held). f r) same

  leaves_plain : (s : State) (c : Command) → ¬ (destination c ≡ Some r) → LeavesPlain s (shape c)
  leaves_plain s (New d t vs) ne = ne
  leaves_plain s (NewExn d t tag vs) ne = ne
  leaves_plain s (NewArr d t n v) ne = ne
  leaves_plain s (Fixed d t vs) ne = ne
  leaves_plain s (NewBytes d t bytes) ne = ne
  leaves_plain s (Host d n) ne = ne
  leaves_plain s (I31 d n) ne = other_register r d (reference class.Any (Some (length s.table.pushes))) s.registers ne
  leaves_plain s (Field q i into) ne = read_elsewhere s s (value_in s q i) into refl ne
  leaves_plain s (Elem q i into) ne = read_elsewhere s s (value_in s q i) into refl ne
  leaves_plain s (Load k d) ne = read_elsewhere s s (frame_value s k) (Some d) refl ne
  leaves_plain s (GetGlobal g d) ne = read_elsewhere s s (global_value s g) (Some d) refl ne
  leaves_plain s (Root d o) ne = other_register r d _ s.registers ne
  leaves_plain s (Take d) ne = read_elsewhere s (with_table (take_pending s.table) s) (pending_value s.table.pending) (Some d) refl ne
  leaves_plain s (Struct is_final supertype fs) ne = tt
  leaves_plain s (Array is_final supertype element) ne = tt
  leaves_plain s (Exn params) ne = tt
  leaves_plain s Gc ne = tt
  leaves_plain s GcDrop ne = tt
  leaves_plain s GcInc ne = tt
  leaves_plain s (Grow n) ne = tt
  leaves_plain s Cap ne = tt
  leaves_plain s Bad ne = refl
  leaves_plain s c ne = refl

  abbrev held_by : State → Option Held
  held_by s = s.registers r

  does_leave : (layouts : Layouts) (limit : Option ℕ) (s s' : State) (sh : CommandShape) (answer : Reply) → LeavesPlain (visible s) sh → Does layouts limit s sh answer s' → s'.registers r ≡ s.registers r
  does_leave layouts limit s s' (plain effect) answer leaves does = ap held_by does.1 ∙ leaves
  does_leave layouts limit s s' (declaring d) answer leaves (steps.declared new spells may said after) = ap held_by after
  does_leave layouts limit s s' (declaring d) answer leaves (steps.bad may said after) = ap held_by after
  does_leave layouts limit s s' (making d class object) answer leaves (steps.made t a allocates said after) = ap held_by after ∙ other_register r d _ s.registers leaves
  does_leave layouts limit s s' (making d class object) answer leaves (steps.lacks t a lacking said after) = ap held_by after
  does_leave layouts limit s s' (growing n) answer leaves (steps.grown t a grows said after) = ap held_by after
  does_leave layouts limit s s' (growing n) answer leaves (steps.refused t a grows said after) = ap held_by after
  does_leave layouts limit s s' (collecting told) answer leaves does = ap held_by does.1.1
  does_leave layouts limit s s' showing answer leaves does = ap held_by does.1

  answers_leave : (layouts : Layouts) (limit : Option ℕ) (s s' : State) (sh : CommandShape) (found : Option Refusal) (answer : Reply) → LeavesPlain (visible s) sh → AnswersShape layouts limit s sh found answer s' → s'.registers r ≡ s.registers r
  answers_leave layouts limit s s' sh None answer leaves answers = does_leave layouts limit s s' sh answer leaves answers
  answers_leave layouts limit s s' sh (Some why) answer leaves answers = ap held_by answers.1

  -- a root that is gone is none of a later state
  no_root : (c : GcClass) (found : Option Reference) → given_root c found ≡ gone → found ≡ None
  no_root c None e = refl
  no_root c (Some x) e = absurd (cc e)

  still_gone : (s s' : State) (h : Option Held) → Kept s s' → SoundHeld (length s.table.pushes) h → given_among s.table.scoped h ≡ gone → given_among s'.table.scoped h ≡ gone
  still_gone s s' None k sound e = absurd (cc e)
  still_gone s s' (Some (number v)) k sound e = absurd (cc e)
  still_gone s s' (Some (reference c None)) k sound e = absurd (cc e)
  still_gone s s' (Some (reference c (Some serial))) k sound e = ap (given_root c) (k.gone serial sound (no_root c (rooted_among serial s.table.scoped) e))

  stale_run : (layouts : Layouts) (limit : Option ℕ) (s s' : State) (cs : List Command) (rs : List Reply) → Sound s → given_register s r ≡ gone → NoneSets r cs → Run layouts limit s cs rs s' → given_register s' r ≡ gone
  stale_run layouts limit s s' [] [] sound stale none run = ap (λ (x : State). given_register x r) run ∙ stale
  stale_run layouts limit s s' [] (a ∷ rs) sound stale none run = absurd run
  stale_run layouts limit s s' (c ∷ cs) [] sound stale none run = absurd run
  stale_run layouts limit s s' (c ∷ cs) (a ∷ rs) sound stale none (mid, (step, run)) =
      let k = step_kept layouts limit s mid sound c a step in
      let same = answers_leave layouts limit s mid (shape c) (first_failing (tests layouts s c)) a (leaves_plain (visible s) c none.0) step in
      stale_run layouts limit mid s' cs rs k.sound (ap (given_among mid.table.scoped) same ∙ still_gone s mid (s.registers r) k (sound r) stale) none.1 run

pub stale_stays : (layouts : Layouts) (limit : Option ℕ) (t : Table ℕ) (a : Account) (s s' : State) (before cs : List Command) (said rs : List Reply) (r : ℕ)
    → Run layouts limit (begin t a) before said s → given_register s r ≡ gone → NoneSets r cs → Run layouts limit s cs rs s' → given_register s' r ≡ gone
stale_stays layouts limit t a s s' before cs said rs r begun stale none run = stale_run r layouts limit s s' cs rs (run_sound layouts limit (begin t a) s before said (begin_sound layouts limit t a) begun) stale none run
