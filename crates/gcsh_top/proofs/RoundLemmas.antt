-- The commands of rounds that were run, or in which a run stopped.
use Rattle.std.proofs.Common.{◌≡◌, ℕ, ◌+◌, ◌-◌, ◌<◌, pos, List, [], ◌∷◌, ◌++◌, refl, sym, ap, subst, ◌∙◌, append_assoc, append-nil, arith}
use Rattle.gc_types.specs.declared.kind.Layouts.{Layouts}
use Rattle.gc_model.specs.Stores.{StoreView}
use Rattle.gc_commands.specs.declared.command.Command.{Command}
use Rattle.gc_commands.specs.declared.command.Command.TheVariants.{New, Enter, Leave, Store, Load}
use Rattle.gc_commands.specs.declared.command.Operand.TheVariants as operand
use Rattle.gc_commands.specs.declared.reply.Reply.{Reply}
use Rattle.gcsh_top.specs.declared.churn_run.Churner.{Churner}
use Rattle.gcsh_top.specs.declared.words.Form.{Form}
use Rattle.gcsh_top.specs.Churn.{named_by, round_commands, rounds_up_to, slot_read, slot_set}
use Rattle.gcsh_reports.specs.Seeds.{next_seed, seed_of}
use Rattle.gcsh_top.specs.ChurnRuns.{HasRun, StoppedIn}
use Rattle.gcsh_top.proofs.ChurnLemmas.{five_behind, four_behind, front_of, rounds_front, rounds_more, seed_more, stopped_within, three_behind, two_behind}

-- the object of the round of that number and seed
abbrev pub made_by : ℕ → ℕ → Command
made_by number seed = New 2 0 (named_by seed ∷ operand.I32 (pos number) ∷ [])

-- the commands of a round by its parts
pub round_is : (number seed read set : ℕ) (make : Command) → read ≡ slot_read seed → make ≡ made_by number seed → set ≡ slot_set seed → round_commands number seed ≡ Enter ∷ Load read 1 ∷ make ∷ Store set 2 ∷ Leave ∷ []
round_is number seed read set make reads makes sets =
    ap (λ k. Enter ∷ Load k 1 ∷ made_by number seed ∷ Store (slot_set seed) 2 ∷ Leave ∷ []) (sym reads)
    ∙ ap (λ m. Enter ∷ Load read 1 ∷ m ∷ Store (slot_set seed) 2 ∷ Leave ∷ []) (sym makes)
    ∙ ap (λ k. Enter ∷ Load read 1 ∷ make ∷ Store k 2 ∷ Leave ∷ []) (sym sets)

module _ (layouts : Layouts) (form : Form) (commands round : List Command) (a b c d e : Command) (round_of : round ≡ a ∷ b ∷ c ∷ d ∷ e ∷ []) where
  -- the commands up to some are a front of those of the round
  front_by : (some front more : List Command) → some ≡ commands ++ front → front ++ more ≡ a ∷ b ∷ c ∷ d ∷ e ∷ [] → commands ++ round ≡ some ++ more
  front_by some front more is all = ap (λ (xs : List Command). commands ++ xs) (round_of ∙ sym all) ∙ front_of commands front more some is

  module _ (store : StoreView ℕ) where
    pub stopped_first : StoppedIn layouts form (commands ++ a ∷ []) store → StoppedIn layouts form (commands ++ round) store
    stopped_first stopped = stopped_within layouts form (commands ++ a ∷ []) (commands ++ round) (b ∷ c ∷ d ∷ e ∷ []) store stopped (front_by (commands ++ a ∷ []) (a ∷ []) (b ∷ c ∷ d ∷ e ∷ []) refl refl)

    pub stopped_second : StoppedIn layouts form ((commands ++ a ∷ []) ++ b ∷ []) store → StoppedIn layouts form (commands ++ round) store
    stopped_second stopped = stopped_within layouts form ((commands ++ a ∷ []) ++ b ∷ []) (commands ++ round) (c ∷ d ∷ e ∷ []) store stopped (front_by ((commands ++ a ∷ []) ++ b ∷ []) (a ∷ b ∷ []) (c ∷ d ∷ e ∷ []) (two_behind commands a b) refl)

    pub stopped_third : StoppedIn layouts form (((commands ++ a ∷ []) ++ b ∷ []) ++ c ∷ []) store → StoppedIn layouts form (commands ++ round) store
    stopped_third stopped =
        stopped_within layouts form (((commands ++ a ∷ []) ++ b ∷ []) ++ c ∷ []) (commands ++ round) (d ∷ e ∷ []) store stopped (front_by (((commands ++ a ∷ []) ++ b ∷ []) ++ c ∷ []) (a ∷ b ∷ c ∷ []) (d ∷ e ∷ []) (three_behind commands a b c) refl)

    pub stopped_fourth : StoppedIn layouts form ((((commands ++ a ∷ []) ++ b ∷ []) ++ c ∷ []) ++ d ∷ []) store → StoppedIn layouts form (commands ++ round) store
    stopped_fourth stopped =
        stopped_within layouts form ((((commands ++ a ∷ []) ++ b ∷ []) ++ c ∷ []) ++ d ∷ []) (commands ++ round) (e ∷ []) store stopped
        (front_by ((((commands ++ a ∷ []) ++ b ∷ []) ++ c ∷ []) ++ d ∷ []) (a ∷ b ∷ c ∷ d ∷ []) (e ∷ []) (four_behind commands a b c d) refl)

    pub stopped_fifth : StoppedIn layouts form (((((commands ++ a ∷ []) ++ b ∷ []) ++ c ∷ []) ++ d ∷ []) ++ e ∷ []) store → StoppedIn layouts form (commands ++ round) store
    stopped_fifth stopped = subst (λ (xs : List Command). StoppedIn layouts form xs store) (five_behind commands a b c d e ∙ ap (λ (xs : List Command). commands ++ xs) (sym round_of)) stopped

    -- all of them were run
    pub ran_round : (replies : List Reply) (churner : Churner) → HasRun layouts form (((((commands ++ a ∷ []) ++ b ∷ []) ++ c ∷ []) ++ d ∷ []) ++ e ∷ []) replies store churner → HasRun layouts form (commands ++ round) replies store churner
    ran_round replies churner run = subst (λ (xs : List Command). HasRun layouts form xs replies store churner) (five_behind commands a b c d e ∙ ap (λ (xs : List Command). commands ++ xs) (sym round_of)) run

-- the commands of one round more
rounds_on : (commands : List Command) (rounds k number seed : ℕ) → number ≡ k + 1 → seed ≡ next_seed (seed_of rounds k) → (commands ++ rounds_up_to rounds k) ++ round_commands number seed ≡ commands ++ rounds_up_to rounds (k + 1)
rounds_on commands rounds k number seed next seeds =
    append_assoc commands (rounds_up_to rounds k) (round_commands number seed)
    ∙ ap (λ n. commands ++ (rounds_up_to rounds k ++ round_commands n seed)) next
    ∙ ap (λ n. commands ++ (rounds_up_to rounds k ++ round_commands (k + 1) n)) (seeds ∙ sym (seed_more rounds k))
    ∙ ap (λ (xs : List Command). commands ++ xs) (sym (rounds_more rounds k))

pub more_rounds : (layouts : Layouts) (form : Form) (commands : List Command) (replies : List Reply) (rounds k number seed : ℕ) (store : StoreView ℕ) (churner : Churner) → number ≡ k + 1 → seed ≡ next_seed (seed_of rounds k)
    → HasRun layouts form ((commands ++ rounds_up_to rounds k) ++ round_commands number seed) replies store churner → HasRun layouts form (commands ++ rounds_up_to rounds (k + 1)) replies store churner
more_rounds layouts form commands replies rounds k number seed store churner next seeds run = subst (λ (xs : List Command). HasRun layouts form xs replies store churner) (rounds_on commands rounds k number seed next seeds) run

-- a run stopped in one of the rounds
pub rounds_stopped : (layouts : Layouts) (form : Form) (commands : List Command) (rounds k number seed : ℕ) (store : StoreView ℕ) → number ≡ k + 1 → seed ≡ next_seed (seed_of rounds k) → k < rounds
    → StoppedIn layouts form ((commands ++ rounds_up_to rounds k) ++ round_commands number seed) store → StoppedIn layouts form (commands ++ rounds_up_to rounds rounds) store
rounds_stopped layouts form commands rounds k number seed store next seeds below stopped =
    let behind = rounds_front rounds (k + 1) (rounds - (k + 1)) in
    let last : k + 1 + (rounds - (k + 1)) ≡ rounds = omega (arith, below) in
    let some = (commands ++ rounds_up_to rounds k) ++ round_commands number seed in
    stopped_within layouts form some (commands ++ rounds_up_to rounds rounds) behind.more store stopped
    (ap (λ n. commands ++ rounds_up_to rounds n) (sym last) ∙ ap (λ (xs : List Command). commands ++ xs) behind.are ∙ sym (append_assoc commands (rounds_up_to rounds (k + 1)) behind.more)
    ∙ ap (λ (xs : List Command). xs ++ behind.more) (sym (rounds_on commands rounds k number seed next seeds)))

-- the rounds came to their end
pub all_rounds : (layouts : Layouts) (form : Form) (commands : List Command) (replies : List Reply) (rounds k : ℕ) (store : StoreView ℕ) (churner : Churner) → k ≡ rounds
    → HasRun layouts form (commands ++ rounds_up_to rounds k) replies store churner → HasRun layouts form (commands ++ rounds_up_to rounds rounds) replies store churner
all_rounds layouts form commands replies rounds k store churner last run = subst (λ n. HasRun layouts form (commands ++ rounds_up_to rounds n) replies store churner) last run

-- no round was run yet
pub no_rounds : (layouts : Layouts) (form : Form) (commands : List Command) (replies : List Reply) (rounds : ℕ) (store : StoreView ℕ) (churner : Churner) → HasRun layouts form commands replies store churner → HasRun layouts form (commands ++ rounds_up_to rounds 0) replies store churner
no_rounds layouts form commands replies rounds store churner run = subst (λ (xs : List Command). HasRun layouts form xs replies store churner) (sym (append-nil commands)) run
