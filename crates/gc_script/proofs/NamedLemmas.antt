-- Two registers that are compared.
use Rattle.std.proofs.Common.{◌≡◌, ℕ, [], ◌∷◌, Option, Some, None, true, sym, ap, ap₂, ◌∙◌, refl}
use Rattle.std.specs.Prelude.{is_none, unwrap_or, Ok, Err, Result, Bool}
use Rattle.gc_types.specs.declared.kind.Layouts.{Layouts}
use Rattle.gc_model.specs.Values.{Reference, null}
use Rattle.gc_model.specs.Reads.{same_reference}
use Rattle.gc_model.specs.Stores.{StoreView}
use Rattle.gc_commands.specs.declared.command.Command.TheVariants as command
use Rattle.gc_commands.specs.declared.reply.Reply.TheVariants as reply
use Rattle.gc_commands.specs.declared.reply.Refusal.{Refusal}
use Rattle.gc_commands.specs.declared.reply.Refusal.TheVariants as refusal
use Rattle.gc_values.specs.declared.root.GcRootIndex.{GcRootIndex}
use Rattle.gc_values.specs.declared.root.RawValue.{RawValue}
use Rattle.gc_values.specs.declared.root.RootFault.{RootFault}
use Rattle.gc_store.specs.Roots.{NamesReference}
use Rattle.gc_values.specs.RawValues.{raw_handle}
use Rattle.gc_script.specs.Slots.{RunnerView}
use Rattle.gc_script.specs.State.{State, HoldsState}
use Rattle.gc_script.specs.Given.{Given, is, given_register, named, is_unset, is_gone}
use Rattle.gc_script.specs.Steps.{first_failing, tests}
use Rattle.gc_script.specs.Shapes.{shape}
use Rattle.gc_script.specs.Run.{GoesOn}
use Rattle.gc_script.specs.Values.{IsFoundLive}
use Rattle.gc_script.proofs.StandLemmas.{holds_table}
use Rattle.gc_script.proofs.TestLemmas.{answers_by}
use Rattle.gc_script.proofs.FoundLemmas.{NamesRoot, root_of, named_is}

-- the refusal of a comparison, by what is given and named
abbrev pub compared_by : Given → Given → Option Reference → Option Reference → Option Refusal
compared_by g h x y = first_failing (
    (is_unset g, refusal.NoSuchName)
    ∷ (is_unset h, refusal.NoSuchName)
    ∷ (is_gone g, refusal.Unrooted)
    ∷ (is_gone h, refusal.Unrooted)
    ∷ (is_none x, refusal.WrongKind)
    ∷ (is_none y, refusal.WrongKind)
    ∷ [])

eq_tests_by : (layouts : Layouts) (s : State) (r q : ℕ) (g h : Given) (x y : Option Reference) → given_register s r ≡ g → given_register s q ≡ h → named s r ≡ x → named s q ≡ y → first_failing (tests layouts s (command.Eq r q)) ≡ compared_by g h x y
eq_tests_by layouts s r q g h x y g_is h_is x_is y_is =
    ap (λ (a : Given). compared_by a (given_register s q) (named s r) (named s q)) g_is
    ∙ ap (λ (a : Given). compared_by g a (named s r) (named s q)) h_is
    ∙ ap (λ (a : Option Reference). compared_by g h a (named s q)) x_is
    ∙ ap (λ (a : Option Reference). compared_by g h x a) y_is

module _ (layouts : Layouts) (store : StoreView ℕ) (runner : RunnerView) (s : State) (r q : ℕ) (first second : RawValue) (a b : GcRootIndex) (answer : Result Bool RootFault)
    (holds : HoldsState layouts store runner s) (is_a : raw_handle first ≡ Some a) (is_b : raw_handle second ≡ Some b)
    (found_first : IsFoundLive store s.table first (given_register s r) true) (found_second : IsFoundLive store s.table second (given_register s q) true)
    (tells : (x y : Reference) → NamesReference store s.table a x → NamesReference store s.table b y → answer ≡ Ok (same_reference x y)) where
  abbrev one : NamesRoot store s.table a found_first.0
  one = root_of store s r first found_first layouts (holds_table holds.table) a is_a

  abbrev other : NamesRoot store s.table b found_second.0
  other = root_of store s q second found_second layouts (holds_table holds.table) b is_b

  told : answer ≡ Ok (same_reference one.root other.root)
  told = tells one.root other.root one.named other.named

  -- two roots were compared
  pub compared : (same : Bool) → answer ≡ Ok same → GoesOn layouts s (command.Eq r q) (Ok (reply.Same same)) store runner
  compared same known =
      let both : ◌≡◌ {A = Result Bool RootFault} (Ok same) (Ok (same_reference one.root other.root)) = sym known ∙ told in
      let is_same : same ≡ same_reference one.root other.root = cc both in
      let x = named_is store s r first found_first layouts (holds_table holds.table) a is_a in
      let y = named_is store s q second found_second layouts (holds_table holds.table) b is_b in
      record {
        after = s;
        answers = answers_by layouts None s (shape (command.Eq r q)) (first_failing (tests layouts s (command.Eq r q))) None (reply.Same same) s
            (eq_tests_by layouts s r q (is found_first.0) (is found_second.0) (Some one.root) (Some other.root) found_first.1.0 found_second.1.0 x y)
            (ap reply.Same (is_same ∙ ap₂ (λ (a b : Option Reference). same_reference (unwrap_or a null) (unwrap_or b null)) (sym x) (sym y)), refl);
        account = refl;
        holds = holds;
      }

  -- live roots are always compared
  pub never_unrooted : (e : RootFault) → answer ≡ Err e → ⊥
  never_unrooted e known = let both : ◌≡◌ {A = Result Bool RootFault} (Err e) (Ok (same_reference one.root other.root)) = sym known ∙ told in cc both
