-- Types that a command declares, where its words spell one.
use Rattle.std.proofs.Common.{◌≡◌, ℕ, List, Bool, Option, Some, None, Ok, Err, sym, ap, ◌∙◌, refl, subst, arith}
use Rattle.std.specs.Option.{option_map}
use Rattle.std.proofs.lemmas.Option.{none-some}
use Rattle.gc_types.specs.declared.kind.Layouts.{Layouts}
use Rattle.gc_types.specs.declared.kind.TypeKind.TheVariants as kinds
use Rattle.gc_types.specs.declared.types.TypeFault.TheVariants as type_fault
use Rattle.gc_types.specs.declared.value.ValType.{ValType}
use Rattle.gc_types.specs.Declarations.{Declaration, TypeName, exn_type}
use Rattle.gc_types.specs.Declarable.{Declarable}
use Rattle.gc_model.specs.Table.{declare}
use Rattle.gc_model.specs.Stores.{StoreView}
use Rattle.gc_store.specs.Stores.{IsSameStore}
use Rattle.gc_store.specs.Stores as stores
use Rattle.gc_commands.specs.declared.command.ValueWord.{ValueWord}
use Rattle.gc_commands.specs.declared.reply.Reply.TheVariants as reply
use Rattle.gc_commands.specs.declared.reply.Refusal.{Refusal}
use Rattle.gc_commands.specs.declared.reply.Refusal.TheVariants as refusal
use Rattle.gc_commands.specs.TypeWords.{kinds_with, values_of, declared_exception}
use Rattle.gc_script.specs.Slots.{RunnerView}
use Rattle.gc_script.specs.State.{State, HoldsState, with_table}
use Rattle.gc_script.specs.Shapes.{declaring}
use Rattle.gc_script.specs.Steps.{first_failing, declared, bad}
use Rattle.gc_script.specs.Run.{GoesUnasked}
use Rattle.gc_script.proofs.StandLemmas.{holds_kept, holds_same}
use Rattle.gc_script.proofs.TestLemmas.{answers_by}

module _ (layouts : Layouts) (old new : StoreView ℕ) (runner : RunnerView) (s : State) (holds : HoldsState layouts old runner s) (d : List Declaration → Option Declaration) (left : List (Bool × Refusal)) (pass : first_failing left ≡ None) where
  -- the words spell no type
  pub nothing_spelled : d s.table.types ≡ None → GoesUnasked layouts s (declaring d) left (reply.Refused refusal.BadType) old runner
  nothing_spelled none = record {
    after = s;
    answers = answers_by layouts None s (declaring d) (first_failing left) None (reply.Refused refusal.BadType) s pass (bad (λ other is. absurd (none-some other (sym none ∙ is))) refl refl);
    account = refl;
    holds = holds;
  }

  module _ (same : IsSameStore old new) (ty : Declaration) (is : d s.table.types ≡ Some ty) where
    -- a type was declared
    pub was_declared : (name : TypeName) → stores.Declares layouts ty s.table s.account (Ok name) new → GoesUnasked layouts s (declaring d) left (reply.Declared name.index) new runner
    was_declared name declares = record {
      after = with_table (declare ty s.table) s;
      answers = answers_by layouts None s (declaring d) (first_failing left) None (reply.Declared name.index) _ pass (declared ty is declares.0 (ap (λ (n : TypeName). reply.Declared n.index) declares.1.0) refl);
      account = refl;
      holds = holds_kept layouts old new runner runner s (declare ty s.table) s.account same (λ i p e. e) (λ k. refl) refl holds declares.1.1;
    }

    -- it may not be
    pub not_declared : stores.Declares layouts ty s.table s.account (Err type_fault.BadType) new → GoesUnasked layouts s (declaring d) left (reply.Refused refusal.BadType) new runner
    not_declared declares = record {
      after = s;
      answers = answers_by layouts None s (declaring d) (first_failing left) None (reply.Refused refusal.BadType) s pass
          (bad (λ other found. let both : Some ty ≡ Some other = sym is ∙ found in let one : ty ≡ other = grind (arith, both) in subst (λ (x : Declaration). ¬ Declarable s.table.types x) one declares.0) refl refl);
      account = refl;
      holds = holds_same layouts old new runner runner s same (λ k. refl) refl holds declares.1;
    }

-- the exception type that words spell, by the types of the store or of the table
pub exception_spelled : (words : List ValueWord) (types types' : List Declaration) (found : Option (List ValType)) → types ≡ types' → values_of (kinds_with types kinds.Exn) words ≡ found → declared_exception words types' ≡ option_map (λ (ps : List ValType). exn_type ps) found
exception_spelled words types types' found same is =
    ap (λ (ts : List Declaration). declared_exception words ts) (sym same) ∙ ap (option_map (λ (ps : List ValType). exn_type ps)) is
