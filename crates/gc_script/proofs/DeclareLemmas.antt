-- Declarations of types whose words spell one.
use Rattle.std.proofs.Common.{◌≡◌, ℕ, List, Option, Some, None, Bool, sym, ap, ◌∙◌, refl, subst}
use Rattle.std.specs.Prelude.{Ok, Err}
use Rattle.std.specs.Option.{option_map}
use Rattle.gc_types.specs.declared.kind.Layouts.{Layouts}
use Rattle.gc_types.specs.declared.types.TypeFault.TheVariants as type_fault
use Rattle.gc_types.specs.Declarable.{Declarable}
use Rattle.gc_types.specs.declared.kind.TypeKind.TheVariants as kinds
use Rattle.gc_types.specs.declared.value.FieldType.{FieldType}
use Rattle.gc_types.specs.Declarations.{Declaration, TypeName, struct_type, array_type}
use Rattle.gc_model.specs.Table.{declare}
use Rattle.gc_model.specs.Stores.{StoreView}
use Rattle.gc_store.specs.Stores.{IsSameStore, Declares}
use Rattle.gc_commands.specs.declared.reply.Reply.TheVariants as reply
use Rattle.gc_commands.specs.declared.reply.Refusal.{Refusal}
use Rattle.gc_commands.specs.declared.reply.Refusal.TheVariants as refusal
use Rattle.gc_commands.specs.declared.command.FieldWord.{FieldWord}
use Rattle.gc_script.specs.Slots.{RunnerView}
use Rattle.gc_commands.specs.TypeWords.{kinds_with, field_of, fields_of, declared_struct, declared_array}
use Rattle.gc_script.specs.State.{State, HoldsState, with_table}
use Rattle.gc_script.specs.Steps.{first_failing, declared, bad}
use Rattle.gc_script.specs.Shapes.{declaring}
use Rattle.gc_script.specs.Run.{GoesUnasked}
use Rattle.gc_script.proofs.StandLemmas.{holds_kept, holds_same}
use Rattle.gc_script.proofs.TestLemmas.{answers_by}

module _ (layouts : Layouts) (old new : StoreView ℕ) (runner : RunnerView) (s : State) (d : List Declaration → Option Declaration) (left : List (Bool × Refusal)) (pass : first_failing left ≡ None) (same : IsSameStore old new) (holds : HoldsState layouts old runner s) where
  -- a type was declared
  pub type_declared : (spelled : Declaration) (ty : TypeName) (index : ℕ) → d s.table.types ≡ Some spelled → index ≡ ty.index → Declares layouts spelled s.table s.account (Ok ty) new → GoesUnasked layouts s (declaring d) left (reply.Declared index) new runner
  type_declared spelled ty index is named declares =
      let after : State = with_table (declare spelled s.table) s in
      record {
        after = after;
        answers = answers_by layouts None s (declaring d) (first_failing left) None (reply.Declared index) after pass
            (declared spelled is declares.0 (ap reply.Declared (named ∙ ap (λ (t : TypeName). t.index) declares.1.0)) refl);
        account = refl;
        holds = holds_kept layouts old new runner runner s (declare spelled s.table) s.account same (λ i p e. e) (λ k. refl) refl holds declares.1.1;
      }

  -- the type may not be declared
  pub type_refused : (spelled : Declaration) → d s.table.types ≡ Some spelled → Declares layouts spelled s.table s.account (Err type_fault.BadType) new → GoesUnasked layouts s (declaring d) left (reply.Refused refusal.BadType) new runner
  type_refused spelled is declares = record {
    after = s;
    answers = answers_by layouts None s (declaring d) (first_failing left) None (reply.Refused refusal.BadType) s pass
        (bad (λ other e. subst (λ (x : Declaration). ¬ Declarable s.table.types x) (cc (is, e)) declares.0) refl refl);
    account = refl;
    holds = holds_same layouts old new runner runner s same (λ k. refl) refl holds declares.1;
  }

-- what the words of an array's declaration spell
pub spelled_array : (types seen : List Declaration) (is_final : Bool) (supertype index : Option ℕ) (word : FieldWord) (found : Option FieldType) (element : FieldType) → seen ≡ types → index ≡ supertype → found ≡ field_of (kinds_with seen kinds.Array) word → found ≡ Some element → declared_array is_final supertype word types ≡ Some (array_type element index is_final)
spelled_array types seen is_final supertype index word found element same same_index told is =
    ap (option_map (λ (f : FieldType). array_type f supertype is_final)) (ap (λ (ts : List Declaration). field_of (kinds_with ts kinds.Array) word) (sym same) ∙ sym told ∙ is)
    ∙ ap (λ (o : Option ℕ). Some (array_type element o is_final)) (sym same_index)

-- and those of a struct's
pub spelled_struct : (types seen : List Declaration) (is_final : Bool) (supertype index : Option ℕ) (words : List FieldWord) (fields found : List FieldType) → seen ≡ types → index ≡ supertype → fields ≡ found → fields_of (kinds_with seen kinds.Struct) words ≡ Some found → declared_struct is_final supertype words types ≡ Some (struct_type fields index is_final)
spelled_struct types seen is_final supertype index words fields found same same_index lent told =
    ap (option_map (λ (fs : List FieldType). struct_type fs supertype is_final)) (ap (λ (ts : List Declaration). fields_of (kinds_with ts kinds.Struct) words) (sym same) ∙ told)
    ∙ ap (λ (fs : List FieldType). Some (struct_type fs supertype is_final)) (sym lent)
    ∙ ap (λ (o : Option ℕ). Some (struct_type fields o is_final)) (sym same_index)
