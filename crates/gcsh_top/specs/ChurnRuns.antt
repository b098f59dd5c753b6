-- What running the script of `churn` leaves, and its summary.
use Rattle.std.specs.Prelude.{◌≡◌, ℕ, Bool, true, false, List, [], ◌∷◌, ◌++◌, Some, None, codes, count_by, length}
use Rattle.std.specs.Fmt.{decimal}
use Rattle.gc_types.specs.declared.kind.Layouts.{Layouts}
use Rattle.gc_model.specs.Allocation.{Limits}
use Rattle.gc_model.specs.Holds.{HoldsKept}
use Rattle.gc_model.specs.Stores.{StoreView}
use Rattle.gc_model.specs.Accounts.{HoldsAccount, no_account}
use Rattle.gc_owner.specs.Limiters.{fresh_limits}
use Rattle.gc_commands.specs.declared.command.Command.{Command}
use Rattle.gc_commands.specs.declared.reply.Reply.{Reply}
use Rattle.gc_commands.specs.declared.reply.Reply.TheVariants.{Refused}
use Rattle.gc_script.specs.Lines.{line_feed}
use Rattle.gc_script.specs.Policy.{RunByPolicy}
use Rattle.gc_script.specs.Run.{WantsMemory}
use Rattle.gc_script.specs.Session.{reply_line}
use Rattle.gc_script.specs.Shapes.{is_collection}
use Rattle.gc_script.specs.Slots.{RunnerView}
use Rattle.gc_script.specs.State.{State, HoldsState, begin}
use Rattle.gcsh_top.specs.declared.churn_run.Churner.{Churner}
use Rattle.gcsh_top.specs.declared.status.Status.{Status}
use Rattle.gcsh_top.specs.declared.status.Status.TheVariants.{NoMemory}
use Rattle.gcsh_top.specs.declared.words.Form.{Form}
use Rattle.gcsh_top.specs.Churn.{churn_script}
use Rattle.gcsh_top.specs.Ends.{SinkRun}
use Rattle.gcsh_top.specs.Reports.{WroteText}
use Rattle.gcsh_top.specs.Runs.{first_table}

-- the reply is a refusal
abbrev pub is_refusal : Reply → Bool
is_refusal (Refused why) = true
is_refusal _ = false

-- how many of the replies are refusals
abbrev pub refusals_in : List Reply → ℕ
refusals_in replies = count_by is_refusal replies

-- the lines of a summary: how many commands there were, how many were refused, and the last two replies
abbrev pub summary_text : ℕ → ℕ → Reply → Reply → List ℕ
summary_text commands refused held capacity =
    codes "commands " ++ (decimal commands ++ line_feed ∷ (codes "refused " ++ (decimal refused ++ line_feed ∷ (reply_line held ++ reply_line capacity))))

-- the text is the summary of these commands and their replies
pub record IsSummary (commands : List Command) (replies : List Reply) (text : List ℕ) : Type 0 where
  pub before : List Reply
  pub held : Reply
  pub capacity : Reply
  pub replies_are : replies ≡ before ++ held ∷ capacity ∷ []
  pub text_is : text ≡ summary_text (length commands) (refusals_in replies) held capacity

-- the replies to the commands are a run by the policy, from the empty table of the form and under its limit of pages
abbrev pub RunFrom : Layouts → Form → List Command → List Reply → State → Limits → Type 0
RunFrom layouts form commands replies after limits =
    RunByPolicy layouts None (begin (first_table form) no_account) (fresh_limits (Some form.most)) commands replies after limits

-- These commands were run on the store, and have these replies. Where the last one collects, the heap holds the kept objects alone.
pub record HasRun (layouts : Layouts) (form : Form) (commands : List Command) (replies : List Reply) (store : StoreView ℕ) (churner : Churner) : Type 0 where
  pub after : State
  pub run : RunFrom layouts form commands replies after churner.limiter
  pub holds : HoldsState layouts store churner.runner after
  pub no_counter : store.alloc_counter ≡ None
  pub kept : (before : List Command) (last : Command) → is_collection last ≡ true → commands ≡ before ++ last ∷ [] → HoldsKept layouts store after.table
  pub counted : churner.refused ≡ refusals_in replies

-- Some command of these wanted memory, after those before it were run.
pub record StoppedIn (layouts : Layouts) (form : Form) (commands : List Command) (store : StoreView ℕ) : Type 0 where
  pub done : List Command
  pub wanting : Command
  pub rest : List Command
  pub cut : commands ≡ done ++ wanting ∷ rest
  pub replies : List Reply
  pub mid : State
  pub between : Limits
  pub run : RunFrom layouts form done replies mid between
  pub limits : Limits
  pub runner : RunnerView
  pub wants : WantsMemory layouts None between limits mid wanting store runner
  pub no_counter : store.alloc_counter ≡ None

-- The script of so many rounds was run to its end, and has that summary: the store holds the table at the end, with its
-- account, and of its objects exactly those that a collection keeps.
pub record RanChurn (layouts : Layouts) (form : Form) (rounds : ℕ) (summary : List ℕ) (store : StoreView ℕ) : Type 0 where
  pub replies : List Reply
  pub after : State
  pub limits : Limits
  pub run : RunFrom layouts form (churn_script rounds) replies after limits
  pub summary_is : IsSummary (churn_script rounds) replies summary
  pub holds : HoldsAccount layouts store after.table after.account
  pub no_counter : store.alloc_counter ≡ None
  pub kept : HoldsKept layouts store after.table

-- How a run of the script of so many rounds on a new store ended: its summary was written, or a command wanted memory, and
-- nothing was written.
pub data Churned (layouts : Layouts) (form : Form) (rounds : ℕ) (sink : SinkRun) (store : StoreView ℕ) (status : Status) : Type 0 where
  to_its_end : (summary : List ℕ) → RanChurn layouts form rounds summary store → WroteText summary sink status → Churned layouts form rounds sink store status
  within : StoppedIn layouts form (churn_script rounds) store → sink.after ≡ sink.before → status ≡ NoMemory → Churned layouts form rounds sink store status
