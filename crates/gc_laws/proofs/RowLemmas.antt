-- The session of three lines that make a struct and read its field.
use Rattle.std.proofs.Common.{◌≡◌, ℕ, List, [], ◌∷◌, ◌++◌, codes, Some, None, true, false, inr, pos, refl, sym, ap, subst, ◌∙◌, arith, rules}
use Rattle.std.specs.List.{flat_map, join_with_byte}
use Rattle.std.specs.Fmt.{decimal}
use Rattle.std.proofs.lemmas.Fmt.{decimal_digit}
use Rattle.gc_types.specs.declared.kind.Layouts.TheVariants.{Null}
use Rattle.gc_types.specs.declared.value.Mutability.TheVariants as mutability
use Rattle.gc_types.specs.declared.value.StorageType.TheVariants as storage_type
use Rattle.gc_types.specs.declared.value.ValType.TheVariants as val_type
use Rattle.gc_types.specs.Declarable.{Declarable}
use Rattle.gc_types.specs.Declarations.{Declaration, struct_type}
use Rattle.gc_owner.specs.declared.entry.GcClass.TheVariants as class
use Rattle.gc_model.specs.Values.{numeric, i32, Object, struct}
use Rattle.gc_model.specs.Table.{Table, start, usual_roots, declare, make, make_heap, with_pages}
use Rattle.gc_model.specs.Allocation.{Limits, no_heap, no_room, FitsIn, same}
use Rattle.gc_model.specs.Sizes.{object_size}
use Rattle.gc_model.specs.Accounts.{Account, no_account, counted, with_held}
use Rattle.gc_owner.specs.Limiters.{fresh_limits}
use Rattle.gc_owner.specs.Growing as growth
use Rattle.gc_model.specs.Policy.{PolicyState, policy_state, Prepares, tried}
use Rattle.gc_owner.specs.Retry.{at_once}
use Rattle.gc_commands.specs.declared.command.Command.{Command}
use Rattle.gc_commands.specs.declared.command.Command.TheVariants.{Bad, Struct, New, Field}
use Rattle.gc_commands.specs.declared.command.FieldWord.{FieldWord}
use Rattle.gc_commands.specs.declared.command.Operand.TheVariants as operand
use Rattle.gc_commands.specs.declared.command.StorageWord.TheVariants as storage
use Rattle.gc_commands.specs.declared.command.ValueWord.TheVariants as value
use Rattle.gc_commands.specs.declared.reply.Reply.{Reply}
use Rattle.gc_commands.specs.declared.reply.Reply.TheVariants as reply
use Rattle.gc_commands.specs.declared.reply.ReplyValue.TheVariants as reply_value
use Rattle.gc_commands.specs.Spelling.{IsCommandOf, Spells}
use Rattle.gc_commands.proofs.UniqueLemmas.{one_spelling}
use Rattle.gc_laws.proofs.PolicyRuns.{policy_run}
use Rattle.gc_script.specs.State.{State, reference, begin, with_table, with_heap, set_register}
use Rattle.gc_script.specs.Steps.{Step, declared, bad, made, lacks}
use Rattle.gc_script.specs.Run.{Run}
use Rattle.gc_script.specs.Policy as policy
use Rattle.gc_script.specs.Policy.{Follows, RunByPolicy, policy_of, with_made}
use Rattle.gc_script.specs.Session.{AreCommandsOf, Session, reply_line}
use Rattle.gc_laws.specs.Rows.{one_struct, one_struct_replies}

abbrev number_field : FieldWord
number_field = record { mutable = true; storage = storage.Value value.I32 }

-- the commands of the three lines
abbrev declares : Command
declares = Struct false None (number_field ∷ [])

abbrev makes : Command
makes = New 1 0 (operand.I32 (pos 5) ∷ [])

abbrev reads : Command
reads = Field 1 0 None

digit_zero : codes "0" ≡ decimal 0
digit_zero = sym (decimal_digit 0 (omega arith))

digit_one : codes "1" ≡ decimal 1
digit_one = sym (decimal_digit 1 (omega arith))

digit_five : codes "5" ≡ decimal 5
digit_five = sym (decimal_digit 5 (omega arith))

-- the texts of the replies
replies_text : one_struct_replies ≡ flat_map reply_line (reply.Declared 0 ∷ reply.Done ∷ reply.Value (reply_value.I32 (pos 5)) ∷ [])
replies_text = λ i. ((codes "type " ++ digit_zero i) ++ 10 ∷ []) ++ ((codes "ok" ++ 10 ∷ []) ++ (((codes "i32 " ++ digit_five i) ++ 10 ∷ []) ++ []))

spells_declares : Spells (codes "struct m:i32") declares
spells_declares = record { fits = (tt, (tt, tt)); short = omega arith; spelled = refl }

spells_makes : Spells (codes "new 1 0 i32:5") makes
spells_makes = record {
  fits = (omega arith, omega arith, (record { sfits = omega arith }, tt));
  short = omega arith;
  spelled = λ i. join_with_byte 32 (codes "new" ∷ digit_one i ∷ digit_zero i ∷ (codes "i32:" ++ digit_five i) ∷ []);
}

spells_reads : Spells (codes "field 1 0") reads
spells_reads = record {
  fits = (omega arith, omega arith, tt);
  short = omega arith;
  spelled = λ i. join_with_byte 32 (codes "field" ∷ digit_one i ∷ digit_zero i ∷ []);
}

-- a line that spells a command is no other
pub command_is : (line : List ℕ) (known c : Command) → Spells line known → IsCommandOf line c → c ≡ known
command_is line known Bad spells is = absurd (is known spells)
command_is line known c spells is = one_spelling line c known is spells

-- the type that the first one declares
abbrev number_type : Declaration
number_type = struct_type (record { mutability = mutability.Var; element_type = storage_type.ValType val_type.I32 } ∷ []) None false

-- the states between the commands
abbrev nothing : State
nothing = begin (start 1 usual_roots usual_roots) no_account

abbrev declared_one : State
declared_one = with_table (declare number_type nothing.table) nothing

-- the struct of the second one
abbrev one_made : Object ℕ
one_made = struct 0 (numeric i32 5 ∷ [])

-- the state after the second one, whose heap has so many pages and whose store has that account
abbrev made_with : ℕ → Account → State
made_with pages a = set_register 1 (reference class.Any (Some 0)) (with_heap (make one_made (with_pages pages declared_one.table)) a declared_one)

abbrev made_one : State
made_one = made_with 1 (with_held Null 0 0 (counted no_account))

may_declare : Declarable [] number_type
may_declare = record { few_fields = omega arith; exn_is_final = tt; few_types = omega arith; known = search rules; extends = tt }

fits : FitsIn Null declared_one.account.places (make_heap declared_one.table) (object_size Null declared_one.table.types one_made)
fits = omega arith

step_declares : Step Null (Some 64) nothing declares (reply.Declared 0) declared_one
step_declares = declared number_type refl may_declare refl refl

step_makes : Step Null (Some 64) declared_one makes reply.Done made_one
step_makes = made _ _ (record { pages = 1; gets = same (λ unmade. omega arith); fits = fits; made = refl }) refl refl

step_reads : Step Null (Some 64) made_one reads (reply.Value (reply_value.I32 (pos 5))) made_one
step_reads = (refl, refl)

abbrev limits : Limits
limits = fresh_limits (Some 64)

-- what the policy goes by once the heap is made for the object
abbrev readied : PolicyState ℕ
readied = policy_state (make_heap declared_one.table) (counted no_account) limits

prepares : Prepares Null None (object_size Null declared_one.table.types one_made) (policy_of declared_one limits) true readied
prepares = tried {m = readied} {n = readied} (record { asks = growth.granted refl (omega arith); after = refl }) (inr (refl, refl)) (at_once fits)

makes_by_policy : Follows Null None declared_one limits makes reply.Done made_one limits
makes_by_policy = policy.made {p = readied} 0 refl prepares tt (record { table = refl; account = refl; limits_are = refl })

by_policy : RunByPolicy Null None nothing limits (declares ∷ makes ∷ reads ∷ []) (reply.Declared 0 ∷ reply.Done ∷ reply.Value (reply_value.I32 (pos 5)) ∷ []) made_one limits
by_policy = (
  declared_one,
  limits,
  (
    step_declares,
    (
      record { account = refl; same_limits = refl },
      (
        made_one,
        limits,
        (step_makes, (makes_by_policy, (made_one, limits, (step_reads, (record { account = refl; same_limits = refl }, (refl, refl)))))),
      ),
    ),
  ),
)

pub is_session : (t : Table ℕ) × Session Null 1 64 one_struct one_struct_replies t
is_session = (
  made_one.table,
  record {
    after = made_one;
    limits = limits;
    from_start = record {
      commands = declares ∷ makes ∷ reads ∷ [];
      replies = reply.Declared 0 ∷ reply.Done ∷ reply.Value (reply_value.I32 (pos 5)) ∷ [];
      are_commands = (spells_declares, (spells_makes, (spells_reads, tt)));
      run = by_policy;
      output_is = replies_text;
    };
    table_is = refl;
  },
)

-- each step has one reply and one state after it
declares_once : (answer : Reply) (s' : State) → Step Null (Some 64) nothing declares answer s' → (answer ≡ reply.Declared 0) × (s' ≡ declared_one)
declares_once answer s' (declared new spells may is after) = (is, after ∙ ap (λ (x : Declaration). with_table (declare x nothing.table) nothing) (cc spells))
declares_once answer s' (bad may_not is after) = absurd (may_not number_type refl may_declare)

makes_once : (answer : Reply) (s' : State) → Step Null (Some 64) declared_one makes answer s' → (answer ≡ reply.Done) × ((pages : ℕ) × (a : Account) × (s' ≡ made_with pages a))
makes_once answer s' (made t a allocates is after) = (is, (allocates.pages, a, after ∙ ap (λ (x : Table ℕ). set_register 1 (reference class.Any (Some 0)) (with_heap x a declared_one)) allocates.made))
makes_once answer s' (lacks t a (no_heap refused unchanged) is after) = absurd (let above = refused.above in omega arith)
makes_once answer s' (lacks t a (no_room may refused full unchanged) is after) = absurd (full fits)

reads_once : (pages : ℕ) (a : Account) (answer : Reply) (s' : State) → Step Null (Some 64) (made_with pages a) reads answer s' → answer ≡ reply.Value (reply_value.I32 (pos 5))
reads_once pages a answer s' did = did.0

-- the replies of a run of the three commands
replies_once : (rs : List Reply) (s' : State) → Run Null (Some 64) nothing (declares ∷ makes ∷ reads ∷ []) rs s' → rs ≡ reply.Declared 0 ∷ reply.Done ∷ reply.Value (reply_value.I32 (pos 5)) ∷ []
replies_once [] s' run = absurd run
replies_once (a ∷ []) s' run = absurd run.1.1
replies_once (a ∷ b ∷ []) s' run = absurd run.1.1.1.1
replies_once (a ∷ b ∷ c ∷ []) s' (mid, (first, (next, (second, (last, (third, end)))))) =
    let one = declares_once a mid first in
    let two = makes_once b next (subst (λ (s : State). Step Null (Some 64) s makes b next) one.1 second) in
    let (pages, a, after) = two.1 in
    let three = reads_once pages a c last (subst (λ (s : State). Step Null (Some 64) s reads c last) after third) in
    λ i. one.0 i ∷ two.0 i ∷ three i ∷ []
replies_once (a ∷ b ∷ c ∷ d ∷ rs) s' run = absurd run.1.1.1.1.1.1

-- the commands of the three lines
commands_once : (cs : List Command) → AreCommandsOf (codes "struct m:i32" ∷ codes "new 1 0 i32:5" ∷ codes "field 1 0" ∷ []) cs → cs ≡ declares ∷ makes ∷ reads ∷ []
commands_once [] are = absurd are
commands_once (a ∷ []) are = absurd are.1
commands_once (a ∷ b ∷ []) are = absurd are.1.1
commands_once (a ∷ b ∷ c ∷ []) are =
    let one = command_is (codes "struct m:i32") declares a spells_declares are.0 in
    let two = command_is (codes "new 1 0 i32:5") makes b spells_makes are.1.0 in
    let three = command_is (codes "field 1 0") reads c spells_reads are.1.1.0 in
    λ i. one i ∷ two i ∷ three i ∷ []
commands_once (a ∷ b ∷ c ∷ d ∷ cs) are = absurd are.1.1.1

pub one_output : (output : List ℕ) (t : Table ℕ) → Session Null 1 64 one_struct output t → output ≡ one_struct_replies
one_output output t session =
    let from = session.from_start in
    let run = subst (λ (cs : List Command). Run Null (Some 64) nothing cs from.replies session.after) (commands_once from.commands from.are_commands)
    (policy_run Null None nothing limits from.commands from.replies session.after session.limits from.run) in
    from.output_is ∙ ap (flat_map reply_line) (replies_once from.replies session.after run) ∙ sym replies_text
