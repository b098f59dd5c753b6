-- Scopes that are left.
use Rattle.std.proofs.Common.{◌≡◌, ℕ, ◌+◌, ◌-◌, ◌^◌, min, List, [], ◌∷◌, ◌++◌, length, take, None, Bool, false, cond, sym, ap, ap₂, ◌∙◌, refl, subst, arith, zero, suc}
use Rattle.std.specs.Prelude.{nat_lt, Ok}
use Rattle.std.proofs.lemmas.List.{length-append, get_or_push, take-append-le, take_all}
use Rattle.std.proofs.lemmas.Bool.Decides.{nat_tests}
use Rattle.gc_types.specs.declared.kind.Layouts.{Layouts}
use Rattle.gc_model.specs.Table.{Table, Scoped, leave}
use Rattle.gc_model.specs.Stores.{StoreView}
use Rattle.gc_model.specs.Accounts.{HoldsAccount}
use Rattle.gc_store.specs.Stores.{IsSameStore}
use Rattle.gc_commands.specs.declared.command.Command.TheVariants as command
use Rattle.gc_commands.specs.declared.reply.Reply.TheVariants as reply
use Rattle.gc_commands.specs.declared.reply.Refusal.TheVariants as refusal
use Rattle.gc_script.specs.Slots.{RunnerView, register_at}
use Rattle.gc_script.specs.State.{State, StandsOwned, HoldsState, with_marks, with_table}
use Rattle.gc_script.specs.Shapes.{shape, newest_mark, older}
use Rattle.gc_script.specs.Steps.{tests, first_failing, is_empty_list}
use Rattle.gc_script.specs.Run.{GoesOn}
use Rattle.gc_script.proofs.StandLemmas.{holds_kept}
use Rattle.gc_script.proofs.TestLemmas.{passes, answers_by}

take_min : {A : Type 0} (n : ℕ) (xs : List A) → take (min n (length xs)) xs ≡ take n xs
take_min zero xs = let e : min 0 (length xs) ≡ 0 = omega arith in ap (λ k. take k xs) e
take_min {A} (suc n) [] = let e : min (suc n) 0 ≡ 0 = omega arith in ap (λ k. take {A = A} k []) e
take_min (suc n) (x ∷ xs) = let e : min (suc n) (suc (length xs)) ≡ suc (min n (length xs)) = omega arith in ap (λ k. take k (x ∷ xs)) e ∙ ap (λ ys. x ∷ ys) (take_min n xs)

lt_min : (n m : ℕ) → nat_lt (min n m) m ≡ nat_lt n m
lt_min n m = grind (arith, nat_tests)

-- a scope with more roots than stand is left as one with those that stand
pub leave-min : {D : Type 0} (mark : ℕ) (t : Table D) → leave (min mark (length t.scoped)) t ≡ leave mark t
leave-min mark t =
    ap (λ (xs : List Scoped). record t { scoped = xs; drops = (cond (nat_lt (min mark (length t.scoped)) (length t.scoped)) (min (t.drops + 1) (2 ^ 64 - 1)) t.drops) }) (take_min mark t.scoped)
    ∙ ap (λ (b : Bool). record t { scoped = take mark t.scoped; drops = (cond b (min (t.drops + 1) (2 ^ 64 - 1)) t.drops) }) (lt_min mark (length t.scoped))

not_empty : (olds : List ℕ) (mark : ℕ) → is_empty_list (olds ++ mark ∷ []) ≡ false
not_empty [] mark = refl
not_empty (m ∷ olds) mark = refl

newest-push : (olds : List ℕ) (mark : ℕ) → newest_mark (olds ++ mark ∷ []) ≡ mark
newest-push olds mark = let long = length-append olds (mark ∷ []) in get_or_push olds mark 0 (length (olds ++ mark ∷ []) - 1) (omega (arith, long))

older-push : (olds : List ℕ) (mark : ℕ) → older (olds ++ mark ∷ []) ≡ olds
older-push olds mark =
    let long = length-append olds (mark ∷ []) in
    let last : length (olds ++ mark ∷ []) - 1 ≡ length olds = omega (arith, long) in
    ap (λ (n : ℕ). take n (olds ++ mark ∷ [])) last ∙ take-append-le (length olds) olds (mark ∷ []) (omega arith) ∙ take_all (length olds) olds (omega arith)

-- the newest scope was left
pub left : (layouts : Layouts) (old new : StoreView ℕ) (runner runner' : RunnerView) (s : State) (olds : List ℕ) (mark scope : ℕ) → IsSameStore old new → HoldsState layouts old runner s → runner.rest.marks ≡ olds ++ mark ∷ [] → runner'.registers ≡ runner.registers → runner'.rest.owned ≡ runner.rest.owned → runner'.rest.marks ≡ olds → scope ≡ min mark (length s.table.scoped) → HoldsAccount layouts new (leave scope s.table) s.account → GoesOn layouts s command.Leave (Ok reply.Done) new runner'
left layouts old new runner runner' s olds mark scope same holds marks registers_are owned_are marks_are scope_is table =
    let before : s.marks ≡ olds ++ mark ∷ [] = sym holds.marks ∙ marks in
    let is_left : leave scope s.table ≡ leave mark s.table = ap (λ n. leave n s.table) scope_is ∙ leave-min mark s.table in
    let table_after : HoldsAccount layouts new (leave mark s.table) s.account = subst (λ (t : Table ℕ). HoldsAccount layouts new t s.account) is_left table in
    let kept = holds_kept layouts old new runner (record { registers = runner'.registers; rest = runner.rest }) s (leave mark s.table) s.account same (λ i p e. e) (λ d. ap (λ slots. register_at slots d) registers_are) refl holds table_after in
    record {
      after = record s { table = leave mark s.table; marks = olds };
      answers = answers_by layouts None s (shape command.Leave) (first_failing (tests layouts s command.Leave)) None reply.Done _
          (passes (is_empty_list s.marks) refusal.NoSuchName [] (ap is_empty_list before ∙ not_empty olds mark))
          (refl, ap₂ (λ (m : ℕ) (ms : List ℕ). with_marks ms (with_table (leave m s.table) s)) (sym (ap newest_mark before ∙ newest-push olds mark)) (sym (ap older before ∙ older-push olds mark)));
      account = refl;
      holds = record { table = table_after; registers = kept.registers; owned = λ o. subst (λ slots. StandsOwned new (register_at slots o) (s.owned_registers o)) (sym owned_are) (kept.owned o); marks = marks_are };
    }
