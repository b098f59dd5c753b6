-- Commands of the script of `churn` that were run one after the other.
use Rattle.std.proofs.Common.{◌≡◌, ℕ, suc, zero, ◌+◌, ◌*◌, true, false, List, [], ◌∷◌, ◌++◌, length, Option, Some, None, refl, sym, ap, subst, ◌∙◌, append_assoc, append-nil, length-append, add-one, arith}
use Rattle.std.proofs.lemmas.List.Sums.{sum_by-append}
use Rattle.gc_types.specs.declared.kind.Layouts.{Layouts}
use Rattle.gc_model.specs.Allocation.{Limits}
use Rattle.gc_model.specs.Holds.{HoldsKept}
use Rattle.gc_model.specs.Stores.{StoreView}
use Rattle.gc_model.specs.Accounts.{no_account}
use Rattle.gc_owner.specs.Limiters.{fresh_limits}
use Rattle.gc_store.specs.Stores.{IsSameStore}
use Rattle.gc_commands.specs.declared.command.Command.{Command}
use Rattle.gc_commands.specs.declared.command.Command.TheVariants.{Struct, Push, Gc, Cap}
use Rattle.gc_commands.specs.declared.reply.Reply.{Reply}
use Rattle.gc_script.specs.Run.{Ran, WantsMemory}
use Rattle.gc_script.specs.Shapes.{is_collection, shape}
use Rattle.gc_script.specs.Slots.{RunnerView, new_runner}
use Rattle.gc_script.specs.State.{State, HoldsState, begin}
use Rattle.gc_script.specs.Steps.{Step, first_failing, tests}
use Rattle.gc_script.proofs.GoesLemmas.{wants_nothing}
use Rattle.gc_script.proofs.KeptLemmas.{kept_after, last_command, no_last}
use Rattle.gcsh_top.specs.declared.churn_run.Churner.{Churner}
use Rattle.gcsh_top.specs.declared.words.Form.{Form}
use Rattle.gcsh_top.specs.Churn.{churn_script, link_fields, round_commands, rounds_up_to}
use Rattle.gcsh_reports.specs.Seeds.{seed_of}
use Rattle.gcsh_top.specs.ChurnRuns.{HasRun, RanChurn, RunFrom, StoppedIn, refusals_in, summary_text}
use Rattle.gcsh_top.specs.Runs.{HoldsFirstTable, first_table}
use Rattle.gcsh_top.proofs.FormRun.{ready_state}
use Rattle.gcsh_top.proofs.RunLemmas.{runs_on}

-- as many refusals as before, and those behind them
refusals_on : (xs ys : List Reply) → refusals_in (xs ++ ys) ≡ refusals_in xs + refusals_in ys
refusals_on xs ys = sum_by-append _ xs ys

module _ (layouts : Layouts) (form : Form) where
  -- nothing was run yet
  pub nothing_run : (store : StoreView ℕ) (churner : Churner) → HoldsFirstTable layouts form store → churner.runner ≡ new_runner → churner.limiter ≡ fresh_limits (Some form.most) → churner.refused ≡ 0 → HasRun layouts form [] [] store churner
  nothing_run store churner ready fresh limits_are none = record {
    after = begin (first_table form) no_account;
    run = (refl, limits_are);
    holds = ready_state layouts form store churner.runner ready fresh;
    no_counter = ready.no_counter;
    kept = λ before last collects ends. absurd (no_last before last ends);
    counted = none;
  }

  -- a stop within some commands is one within these and more
  pub stopped_within : (some all more : List Command) (store : StoreView ℕ) → StoppedIn layouts form some store → all ≡ some ++ more → StoppedIn layouts form all store
  stopped_within some all more store stopped are = record {
    done = stopped.done;
    wanting = stopped.wanting;
    rest = stopped.rest ++ more;
    cut = are ∙ ap (λ (cs : List Command). cs ++ more) stopped.cut ∙ append_assoc stopped.done (stopped.wanting ∷ stopped.rest) more;
    replies = stopped.replies;
    mid = stopped.mid;
    between = stopped.between;
    run = stopped.run;
    limits = stopped.limits;
    runner = stopped.runner;
    wants = stopped.wants;
    no_counter = stopped.no_counter;
  }

  module _ (commands : List Command) (replies : List Reply) (old : StoreView ℕ) (was : Churner) (so_far : HasRun layouts form commands replies old was) where
    -- one more command was run
    pub one_more : (new : StoreView ℕ) (now : Churner) (command : Command) (answer : Reply) → IsSameStore old new → Ran layouts old.alloc_counter was.limiter now.limiter so_far.after command answer new now.runner
        → (is_collection command ≡ true → HoldsKept layouts new so_far.after.table) → now.refused ≡ was.refused + refusals_in (answer ∷ []) → HasRun layouts form (commands ++ command ∷ []) (replies ++ answer ∷ []) new now
    one_more new now command answer same ran_as kept counted =
        let ran : Ran layouts None was.limiter now.limiter so_far.after command answer new now.runner = subst (λ (k : Option ℕ). Ran layouts k was.limiter now.limiter so_far.after command answer new now.runner) so_far.no_counter ran_as in
        record {
          after = ran.after;
          run = runs_on layouts None (begin (first_table form) no_account) so_far.after ran.after (fresh_limits (Some form.most)) was.limiter now.limiter commands (command ∷ []) replies (answer ∷ []) so_far.run (ran.after, now.limiter, (ran.step, (ran.follows, (refl, refl))));
          holds = ran.holds;
          no_counter = same.counter ∙ so_far.no_counter;
          kept = λ before last collects ends.
              let is : is_collection command ≡ true = ap is_collection (last_command commands command before last ends) ∙ collects in
              kept_after layouts None was.limiter now.limiter so_far.after command answer ran is (kept is);
          counted = counted ∙ ap (λ n. n + refusals_in (answer ∷ [])) so_far.counted ∙ sym (refusals_on replies (answer ∷ []));
        }

    -- one more command wanted memory
    pub one_stopped : (new : StoreView ℕ) (limits : Limits) (runner : RunnerView) (command : Command) → IsSameStore old new → WantsMemory layouts old.alloc_counter was.limiter limits so_far.after command new runner → StoppedIn layouts form (commands ++ command ∷ []) new
    one_stopped new limits runner command same wants = record {
      done = commands;
      wanting = command;
      rest = [];
      cut = refl;
      replies = replies;
      mid = so_far.after;
      between = was.limiter;
      run = so_far.run;
      limits = limits;
      runner = runner;
      wants = subst (λ (k : Option ℕ). WantsMemory layouts k was.limiter limits so_far.after command new runner) so_far.no_counter wants;
      no_counter = same.counter ∙ so_far.no_counter;
    }

    -- there was no memory to make one more command
    pub not_made : (command : Command) → StoppedIn layouts form (commands ++ command ∷ []) old
    not_made command = record {
      done = commands;
      wanting = command;
      rest = [];
      cut = refl;
      replies = replies;
      mid = so_far.after;
      between = was.limiter;
      run = so_far.run;
      limits = was.limiter;
      runner = was.runner;
      wants = record { wants = wants_nothing layouts None was.limiter so_far.after (shape command) (first_failing (tests layouts so_far.after command)) old was.runner so_far.holds };
      no_counter = so_far.no_counter;
    }

  -- the same commands, as they are written otherwise
  pub run_as : (some all : List Command) (replies : List Reply) (store : StoreView ℕ) (churner : Churner) → some ≡ all → HasRun layouts form some replies store churner → HasRun layouts form all replies store churner
  run_as some all replies store churner are run = subst (λ (cs : List Command). HasRun layouts form cs replies store churner) are run

  pub stopped_as : (some all : List Command) (store : StoreView ℕ) → some ≡ all → StoppedIn layouts form some store → StoppedIn layouts form all store
  stopped_as some all store are stopped = subst (λ (cs : List Command). StoppedIn layouts form cs store) are stopped

  -- the collection behind the rounds wanted memory
  pub stopped_collecting : (rounds : ℕ) (store : StoreView ℕ) → StoppedIn layouts form ((Struct false None link_fields ∷ Push 8 ∷ rounds_up_to rounds rounds) ++ Gc ∷ []) store → StoppedIn layouts form (churn_script rounds) store
  stopped_collecting rounds store stopped =
      let front = Struct false None link_fields ∷ Push 8 ∷ rounds_up_to rounds rounds in
      stopped_within (front ++ Gc ∷ []) (churn_script rounds) (Cap ∷ []) store stopped (sym (append_assoc front (Gc ∷ []) (Cap ∷ [])))

-- commands one behind the other
pub two_behind : (cs : List Command) (a b : Command) → (cs ++ a ∷ []) ++ b ∷ [] ≡ cs ++ a ∷ b ∷ []
two_behind cs a b = append_assoc cs (a ∷ []) (b ∷ [])

pub three_behind : (cs : List Command) (a b c : Command) → ((cs ++ a ∷ []) ++ b ∷ []) ++ c ∷ [] ≡ cs ++ a ∷ b ∷ c ∷ []
three_behind cs a b c = ap (λ (xs : List Command). xs ++ c ∷ []) (two_behind cs a b) ∙ append_assoc cs (a ∷ b ∷ []) (c ∷ [])

pub four_behind : (cs : List Command) (a b c d : Command) → (((cs ++ a ∷ []) ++ b ∷ []) ++ c ∷ []) ++ d ∷ [] ≡ cs ++ a ∷ b ∷ c ∷ d ∷ []
four_behind cs a b c d = ap (λ (xs : List Command). xs ++ d ∷ []) (three_behind cs a b c) ∙ append_assoc cs (a ∷ b ∷ c ∷ []) (d ∷ [])

pub five_behind : (cs : List Command) (a b c d e : Command) → ((((cs ++ a ∷ []) ++ b ∷ []) ++ c ∷ []) ++ d ∷ []) ++ e ∷ [] ≡ cs ++ a ∷ b ∷ c ∷ d ∷ e ∷ []
five_behind cs a b c d e = ap (λ (xs : List Command). xs ++ e ∷ []) (four_behind cs a b c d) ∙ append_assoc cs (a ∷ b ∷ c ∷ d ∷ []) (e ∷ [])

-- the first commands and those behind them
pub front_of : (cs front more some : List Command) → some ≡ cs ++ front → cs ++ (front ++ more) ≡ some ++ more
front_of cs front more some is = sym (append_assoc cs front more) ∙ ap (λ (xs : List Command). xs ++ more) (sym is)

-- the commands of one more round
pub rounds_more : (rounds k : ℕ) → rounds_up_to rounds (k + 1) ≡ rounds_up_to rounds k ++ round_commands (k + 1) (seed_of rounds (k + 1))
rounds_more rounds k = subst (λ (n : ℕ). rounds_up_to rounds n ≡ rounds_up_to rounds k ++ round_commands n (seed_of rounds n)) (sym (add-one k)) refl

pub seed_more : (rounds k : ℕ) → seed_of rounds (k + 1) ≡ seed_of rounds (suc k)
seed_more rounds k = ap (seed_of rounds) (add-one k)

-- the first rounds are a front of more rounds
pub record Behind (some all : List Command) : Type 0 where
  pub more : List Command
  pub are : all ≡ some ++ more

pub rounds_front : (rounds k m : ℕ) → Behind (rounds_up_to rounds k) (rounds_up_to rounds (k + m))
rounds_front rounds k zero =
    let none : k + 0 ≡ k = omega arith in
    record { more = []; are = ap (rounds_up_to rounds) none ∙ sym (append-nil (rounds_up_to rounds k)) }
rounds_front rounds k (suc m) =
    let before = rounds_front rounds k m in
    let n = k + m in
    let next : k + suc m ≡ suc (k + m) = omega arith in
    record {
      more = before.more ++ round_commands (suc n) (seed_of rounds (suc n));
      are = ap (rounds_up_to rounds) next ∙ ap (λ (cs : List Command). cs ++ round_commands (suc n) (seed_of rounds (suc n))) before.are
          ∙ append_assoc (rounds_up_to rounds k) before.more (round_commands (suc n) (seed_of rounds (suc n)));
    }

-- each round has five commands
rounds_length : (rounds k : ℕ) → length (rounds_up_to rounds k) ≡ 5 * k
rounds_length rounds zero = refl
rounds_length rounds (suc k) =
    let last = round_commands (suc k) (seed_of rounds (suc k)) in
    let both = length-append (rounds_up_to rounds k) last in
    let before = rounds_length rounds k in
    omega (arith, both, before)

script_length : (rounds : ℕ) → length (churn_script rounds) ≡ 5 * rounds + 4
script_length rounds =
    let both = length-append (rounds_up_to rounds rounds) (Gc ∷ Cap ∷ []) in
    let before = rounds_length rounds rounds in
    omega (arith, both, before)

-- The rounds and a collection were run, and the bytes were told: the whole script was run, and this is its summary.
pub ran_churn : (layouts : Layouts) (form : Form) (rounds refused : ℕ) (before : List Reply) (held capacity : Reply) (store : StoreView ℕ) (churner : Churner)
    → HasRun layouts form ((Struct false None link_fields ∷ Push 8 ∷ rounds_up_to rounds rounds) ++ Gc ∷ []) (before ++ held ∷ []) store churner
    → ((limit : Option ℕ) (s : State) (runner : RunnerView) → HoldsState layouts store runner s → Step layouts limit s Cap capacity s) → refusals_in (capacity ∷ []) ≡ 0
    → refused ≡ churner.refused → RanChurn layouts form rounds (summary_text (5 * rounds + 4) refused held capacity) store
ran_churn layouts form rounds refused before held capacity store churner run shows told counts =
    let front = Struct false None link_fields ∷ Push 8 ∷ rounds_up_to rounds rounds in
    let replies = before ++ held ∷ capacity ∷ [] in
    let whole = runs_on layouts None (begin (first_table form) no_account) run.after run.after (fresh_limits (Some form.most)) churner.limiter churner.limiter (front ++ Gc ∷ []) (Cap ∷ []) (before ++ held ∷ []) (capacity ∷ []) run.run
    (run.after, churner.limiter, (shows churner.limiter.limit run.after churner.runner run.holds, (record { account = refl; same_limits = refl }, (refl, refl)))) in
    let counted : refused ≡ refusals_in replies =
    counts ∙ run.counted ∙ omega (arith, told, refusals_on (before ++ held ∷ []) (capacity ∷ [])) ∙ ap refusals_in (append_assoc before (held ∷ []) (capacity ∷ [])) in
    record {
      replies = replies;
      after = run.after;
      limits = churner.limiter;
      run = subst (λ (cs : List Command). RunFrom layouts form cs replies run.after churner.limiter) (append_assoc front (Gc ∷ []) (Cap ∷ []))
          (subst (λ (rs : List Reply). RunFrom layouts form ((front ++ Gc ∷ []) ++ Cap ∷ []) rs run.after churner.limiter) (append_assoc before (held ∷ []) (capacity ∷ [])) whole);
      summary_is = record {
        before = before;
        held = held;
        capacity = capacity;
        replies_are = refl;
        text_is = ap (λ n. summary_text n refused held capacity) (sym (script_length rounds)) ∙ ap (λ n. summary_text (length (churn_script rounds)) n held capacity) counted;
      };
      holds = run.holds.table;
      no_counter = run.no_counter;
      kept = run.kept front Gc refl refl;
    }
