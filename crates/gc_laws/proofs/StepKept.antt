-- What each step keeps, and a run: what isn't reached stays so, and what is gone stays gone.
use Rattle.std.proofs.Common.{◌≡◌, ℕ, ◌+◌, ◌<◌, ◌⊎◌, inl, inr, Bool, true, false, cond, List, [], ◌∷◌, ◌++◌, Option, Some, None, length, length-append, map, refl, sym, ap, ◌∙◌, subst, arith}
use Rattle.std.specs.List.{All, Contains}
use Rattle.std.proofs.lemmas.List.Elements.{All-nil, All-cons, All-head, All-tail, All-replicate, Contains-append_cases, Contains-append_left, Contains-append_right, Contains-push_cases}
use Rattle.gc_types.specs.declared.kind.Layouts.{Layouts}
use Rattle.gc_types.specs.declared.value.FieldType.{FieldType}
use Rattle.gc_types.specs.declared.value.StorageType.{StorageType}
use Rattle.gc_types.specs.Declarations.{Declaration}
use Rattle.gc_owner.specs.declared.entry.GcClass.{GcClass}
use Rattle.gc_model.specs.Values.{at, Value, Object}
use Rattle.gc_model.specs.Table.{Table, Scoped, make, with_pages}
use Rattle.gc_model.specs.Reach.{object_values, root_references, IsReached}
use Rattle.gc_model.specs.Allocation as allocation
use Rattle.gc_model.specs.Allocation.{Grows, LacksMemory, no_heap, no_room}
use Rattle.gc_model.specs.Stored.{stored, stored_in, byte_value}
use Rattle.gc_model.proofs.Members.{map_among, among_map}
use Rattle.gc_view.specs.Reach.{by_start}
use Rattle.gc_store.specs.Requests.{element_of}
use Rattle.gc_rooted.proofs.GoneRoots.{gone_push, below_differs}
use Rattle.gc_model.specs.Accounts.{Account}
use Rattle.gc_commands.specs.declared.command.Command.{Command}
use Rattle.gc_commands.specs.declared.command.Command.TheVariants.{New, NewExn, NewArr, Fixed, NewBytes, Host}
use Rattle.gc_commands.specs.declared.reply.Reply.{Reply}
use Rattle.gc_commands.specs.declared.reply.Refusal.{Refusal}
use Rattle.gc_script.specs.State.{State, reference, begin, with_heap, with_account, set_register, visible, over}
use Rattle.gc_script.specs.Given.{given, given_value, given_values}
use Rattle.gc_script.specs.Shapes.{CommandShape, plain, declaring, making, growing, collecting, showing, shape}
use Rattle.gc_script.specs.Steps as steps
use Rattle.gc_script.specs.Steps.{Step, AnswersShape, Does, MakesNew, first_failing, tests}
use Rattle.gc_script.specs.Run.{Run}
use Rattle.gc_laws.proofs.KnownReach.{Known, KnownValue, made_reached}
use Rattle.gc_laws.proofs.SoundRegisters.{Sound, sound_set, operand_known, operands_known}
use Rattle.gc_laws.proofs.PlainKept.{Kept, kept_same, stored_known, plain_kept}

stored_all : (t : Table ℕ) (fields : List FieldType) (vs : List Value) → All (KnownValue t) vs → All (KnownValue t) (stored_in fields vs)
stored_all t [] vs all = All-nil (KnownValue t)
stored_all t (field ∷ fields) [] all = All-nil (KnownValue t)
stored_all t (field ∷ fields) (v ∷ vs) all =
    All-cons (KnownValue t) (stored field.element_type v) (stored_in fields vs) (stored_known t field.element_type v (All-head (KnownValue t) v vs all)) (stored_all t fields vs (All-tail (KnownValue t) v vs all))

each_stored : (t : Table ℕ) (ty : StorageType) (vs : List Value) → All (KnownValue t) vs → All (KnownValue t) (map (stored ty) vs)
each_stored t ty [] all = All-nil (KnownValue t)
each_stored t ty (v ∷ vs) all = All-cons (KnownValue t) (stored ty v) (map (stored ty) vs) (stored_known t ty v (All-head (KnownValue t) v vs all)) (each_stored t ty vs (All-tail (KnownValue t) v vs all))

bytes_all : (t : Table ℕ) (bytes : List ℕ) → All (KnownValue t) (map byte_value bytes)
bytes_all t [] = All-nil (KnownValue t)
bytes_all t (b ∷ bytes) = All-cons (KnownValue t) (byte_value b) (map byte_value bytes) (All-nil (Known t)) (bytes_all t bytes)

-- the values of an object that a command of that shape makes
abbrev MakesKnown : State → CommandShape → Type 0
MakesKnown s (making d class object) = All (KnownValue s.table) (object_values (object s))
MakesKnown s _ = Unit {0}

makes_known : (s : State) → Sound s → (c : Command) → MakesKnown s (shape c)
makes_known s sound (New d ty vs) = stored_all s.table _ (given_values s vs) (operands_known s sound vs)
makes_known s sound (NewExn d ty tag vs) = stored_all s.table _ (given_values s vs) (operands_known s sound vs)
makes_known s sound (NewArr d ty n v) = All-replicate (KnownValue s.table) n _ (stored_known s.table _ (given_value (given s v)) (operand_known s sound v))
makes_known s sound (Fixed d ty vs) = each_stored s.table (element_of s.table.types ty) (given_values s vs) (operands_known s sound vs)
makes_known s sound (NewBytes d ty bytes) = bytes_all s.table bytes
makes_known s sound (Host d n) = All-nil (KnownValue s.table)
makes_known s sound c = tt

-- heap, limiter and account have no part in it
kept_pages : (s : State) → Sound s → (is_made : Bool) (pages : ℕ) (a : Account) → Kept s (with_heap (record s.table { made = is_made; pages = pages }) a s)
kept_pages s sound is_made pages a = record { reached = λ q r. inl r; grows = omega arith; pushes = omega arith; gone = λ serial below none. none; sound = sound }

kept_account : (s : State) → Sound s → (a : Account) → Kept s (with_account a s)
kept_account s sound a = record { reached = λ q r. inl r; grows = omega arith; pushes = omega arith; gone = λ serial below none. none; sound = sound }

-- the state with a new object in a register
abbrev with_new : ℕ → GcClass → Object ℕ → ℕ → Account → State → State
with_new d class o pages a s = set_register d (reference class (Some (length s.table.pushes))) (with_heap (make o (with_pages pages s.table)) a s)

kept_new : (s : State) → Sound s → (d : ℕ) (class : GcClass) (o : Object ℕ) (pages : ℕ) (a : Account) → All (KnownValue s.table) (object_values o) → Kept s (with_new d class o pages a s)
kept_new s sound d class o pages a known = record {
  reached = λ q r. elim (made_reached s.table u o known roots refl q r) [
    | inl reached ↦ inl reached
    | inr last ↦ inr (last, omega (arith, last, more))
  ];
  grows = omega (arith, more);
  pushes = omega (arith, pushed);
  gone = λ serial below none. gone_push serial s.table.scoped root (below_differs serial (length s.table.pushes) below) none;
  sound = sound_set (length s.table.pushes) (length u.pushes) (omega (arith, pushed)) s.registers sound d (reference class (Some (length s.table.pushes))) (omega (arith, pushed));
}
  where
    u : Table ℕ
    u = make o (with_pages pages s.table)

    root : Scoped
    root = record { serial = length s.table.pushes; reference = at (length s.table.objects) }

    more : length (s.table.objects ++ o ∷ []) ≡ length s.table.objects + 1
    more = length-append s.table.objects (o ∷ [])

    pushed : length u.pushes ≡ length s.table.pushes + 1
    pushed = length-append s.table.pushes ((record { index = length s.table.scoped; generation = s.table.drops }) ∷ [])

    roots : (q : ℕ) → Contains (root_references u) (at q) → IsReached s.table q ⊎ (q ≡ length s.table.objects)
    roots q c = elim (Contains-append_cases (map (λ (x : Scoped). x.reference) (s.table.scoped ++ root ∷ [])) _ (at q) c) [
      | inl of_scoped ↦
          let image = map_among (λ (x : Scoped). x.reference) (s.table.scoped ++ root ∷ []) (at q) of_scoped in
          elim (Contains-push_cases s.table.scoped root image.of image.among) [
            | inl before ↦ inl (by_start (subst (Contains (root_references s.table)) image.is (Contains-append_left (map (λ (x : Scoped). x.reference) s.table.scoped) _ image.of.reference (among_map (λ (x : Scoped). x.reference) s.table.scoped image.of before))))
            | inr new ↦ let same : at (length s.table.objects) ≡ at q = ap (λ (x : Scoped). x.reference) new ∙ image.is in inr (grind (arith, same))
          ]
      | inr of_others ↦ inl (by_start (Contains-append_right (map (λ (x : Scoped). x.reference) s.table.scoped) _ (at q) of_others))
    ]

module _ (layouts : Layouts) (limit : Option ℕ) (s s' : State) (sound : Sound s) where
  lacks_kept : (o : Object ℕ) (t : Table ℕ) (a : Account) → LacksMemory layouts limit s.account.places o s.table t → s' ≡ with_heap t a s → Kept s s'
  lacks_kept o t a (no_heap refused is) after = subst (Kept s) (sym (after ∙ ap (λ (x : Table ℕ). with_heap x a s) is)) (kept_pages s sound s.table.made s.table.pages a)
  lacks_kept o t a (no_room may refused lacks is) after = subst (Kept s) (sym (after ∙ ap (λ (x : Table ℕ). with_heap x a s) is)) (kept_pages s sound true (cond s.table.made s.table.pages s.table.first) a)

  makes_kept : (d : ℕ) (class : GcClass) (o : Object ℕ) (answer : Reply) → All (KnownValue s.table) (object_values o) → MakesNew layouts limit d class o s answer s' → Kept s s'
  makes_kept d class o answer known (steps.made t a allocates said after) =
      subst (Kept s) (sym (after ∙ ap (λ (x : Table ℕ). set_register d (reference class (Some (length s.table.pushes))) (with_heap x a s)) allocates.made)) (kept_new s sound d class o allocates.pages a known)
  makes_kept d class o answer known (steps.lacks t a lacking said after) = lacks_kept o t a lacking after

  grows_kept : (bytes : ℕ) (granted : Bool) (t : Table ℕ) (a : Account) → Grows limit bytes s.table granted t → s' ≡ with_heap t a s → Kept s s'
  grows_kept bytes granted t a (allocation.nothing none) after = subst (Kept s) (sym after) (kept_pages s sound s.table.made s.table.pages a)
  grows_kept bytes granted t a (allocation.granted some may grow) after = subst (Kept s) (sym after) (kept_pages s sound true _ a)
  grows_kept bytes granted t a (no_heap some refused) after = subst (Kept s) (sym after) (kept_pages s sound s.table.made s.table.pages a)
  grows_kept bytes granted t a (allocation.refused some may over) after = subst (Kept s) (sym after) (kept_pages s sound true _ a)

  declares_kept : (d : Option Declaration) (answer : Reply) → steps.AnswersDeclare d s answer s' → Kept s s'
  declares_kept d answer (steps.declared new spells may said after) =
      subst (Kept s) (sym after) (record { reached = λ q r. inl r; grows = omega arith; pushes = omega arith; gone = λ serial below none. none; sound = sound })
  declares_kept d answer (steps.bad may said after) = subst (Kept s) (sym after) (kept_same s sound)

  -- what a command of that shape keeps, where its effect on what is visible keeps so much
  abbrev EffectKept : CommandShape → Type 0
  EffectKept (plain effect) = Kept (visible s) (effect (visible s)).1
  EffectKept _ = Unit {0}

  over_kept : (v : State) → Kept (visible s) v → s' ≡ over s v → Kept s s'
  over_kept v k after = subst (Kept s) (sym after) (record { reached = k.reached; grows = k.grows; pushes = k.pushes; gone = k.gone; sound = k.sound })

  does_kept : (sh : CommandShape) (answer : Reply) → EffectKept sh → MakesKnown (visible s) sh → Does layouts limit s sh answer s' → Kept s s'
  does_kept (plain effect) answer k known does = over_kept (effect (visible s)).1 k does.1
  does_kept (declaring d) answer k known does = declares_kept (d s.table.types) answer does
  does_kept (making d class object) answer k known does = makes_kept d class (object (visible s)) answer known does
  does_kept (growing n) answer k known (steps.grown t a grows said after) = grows_kept n true t a grows after
  does_kept (growing n) answer k known (steps.refused t a grows said after) = grows_kept n false t a grows after
  does_kept (collecting told) answer k known does = subst (Kept s) (sym does.1.1) (kept_account s sound does.1.0)
  does_kept showing answer k known does = subst (Kept s) (sym does.1) (kept_same s sound)

  answers_kept : (sh : CommandShape) (found : Option Refusal) (answer : Reply) → EffectKept sh → MakesKnown (visible s) sh → AnswersShape layouts limit s sh found answer s' → Kept s s'
  answers_kept sh None answer k known answers = does_kept sh answer k known answers
  answers_kept sh (Some why) answer k known answers = subst (Kept s) (sym answers.1) (kept_same s sound)

  effect_kept : (c : Command) → EffectKept (shape c)
  effect_kept c = plain_kept (visible s) sound c

  pub step_kept : (c : Command) (answer : Reply) → Step layouts limit s c answer s' → Kept s s'
  step_kept c answer step = answers_kept (shape c) (first_failing (tests layouts s c)) answer (effect_kept c) (makes_known (visible s) sound c) step

module _ (layouts : Layouts) (limit : Option ℕ) where
  -- the registers of a session hold references by roots alone
  pub run_sound : (s s' : State) (cs : List Command) (rs : List Reply) → Sound s → Run layouts limit s cs rs s' → Sound s'
  run_sound s s' [] [] sound run = subst Sound (sym run) sound
  run_sound s s' [] (r ∷ rs) sound run = absurd run
  run_sound s s' (c ∷ cs) [] sound run = absurd run
  run_sound s s' (c ∷ cs) (r ∷ rs) sound (mid, (step, run)) = run_sound mid s' cs rs (step_kept layouts limit s mid sound c r step).sound run

  pub begin_sound : (t : Table ℕ) (a : Account) → Sound (begin t a)
  begin_sound t a = λ r. tt

  -- what stands and isn't reached is never reached again
  never_reached : (s s' : State) (cs : List Command) (rs : List Reply) (p : ℕ) → Sound s → p < length s.table.objects → ¬ IsReached s.table p → Run layouts limit s cs rs s' → ¬ IsReached s'.table p
  never_reached s s' [] [] p sound stands unreached run = subst (λ (x : State). ¬ IsReached x.table p) (sym run) unreached
  never_reached s s' [] (r ∷ rs) p sound stands unreached run = absurd run
  never_reached s s' (c ∷ cs) [] p sound stands unreached run = absurd run
  never_reached s s' (c ∷ cs) (r ∷ rs) p sound stands unreached (mid, (step, run)) =
      let k = step_kept layouts limit s mid sound c r step in
      let still : ¬ IsReached mid.table p = λ reached. elim (k.reached p reached) [
        | inl before ↦ unreached before
        | inr new ↦ let last : p ≡ length s.table.objects = new.0 in absurd (omega (arith, last, stands))
      ] in
      never_reached mid s' cs rs p k.sound (omega (arith, stands, k.grows)) still run

  pub garbage_gone : (t : Table ℕ) (a : Account) (s s' : State) (before cs : List Command) (said rs : List Reply) (p : ℕ)
      → Run layouts limit (begin t a) before said s → p < length s.table.objects → ¬ IsReached s.table p → Run layouts limit s cs rs s' → ¬ IsReached s'.table p
  garbage_gone t a s s' before cs said rs p begun stands unreached run = never_reached s s' cs rs p (run_sound (begin t a) s before said (begin_sound t a) begun) stands unreached run
