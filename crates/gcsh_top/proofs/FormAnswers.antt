-- How the run of a form ends, by its status.
use Rattle.std.proofs.Common.{Bool, false, ◌≡◌, ℕ, ◌≤◌, List, [], ◌∷◌, codes, subst, sym, refl}
use Rattle.std.specs.Fmt.{decimal}
use Rattle.gc_types.specs.declared.kind.Layouts.{Layouts}
use Rattle.gc_model.specs.Stores.{StoreView}
use Rattle.gcsh_top.specs.declared.status.Status.{Status}
use Rattle.gcsh_top.specs.declared.status.Status.TheVariants.{Done, Usage, ReadFault, WriteFault, TooLong, NoMemory}
use Rattle.gcsh_reports.specs.Filling.{max_inserts}
use Rattle.gcsh_top.specs.declared.stores.Stores.{Stores}
use Rattle.gcsh_top.specs.declared.words.Collector.{Collector}
use Rattle.gcsh_top.specs.declared.words.Form.{Form}
use Rattle.gcsh_top.specs.declared.words.Task.{Task}
use Rattle.gcsh_top.specs.declared.words.Task.TheVariants.{Script, Churn, Paths, Save, Load, Lists}
use Rattle.gcsh_top.specs.Answers.{TopAnswers, Completed, RanOn, RanTask, RanWords, Reported, behind, within}
use Rattle.gcsh_top.specs.Reports.{RanSilently, ReportedText, reported_text, wanted_memory, silent}
use Rattle.gcsh_top.specs.LoadReports.{read_whole, not_read}
use Rattle.gcsh_top.specs.Churn.{max_rounds}
use Rattle.gcsh_top.specs.ChurnRuns.{to_its_end, within}
use Rattle.gcsh_top.specs.Chosen.{AreSameStores, OthersStay, chosen}
use Rattle.gcsh_top.specs.Ends.{SinkRun, SourceRun}
use Rattle.gcsh_top.specs.Statuses.{code_of}
use Rattle.gcsh_top.specs.Words.{FitsTask, IsForm, ReadsNothing, layouts_of, task_words}

-- a report never ends as words of none
no_usage_text : (Tells : List ℕ → Type 0) (Left Wanting : Type 0) (sink : SinkRun) → ReportedText Tells Left Wanting sink Usage → ⊥
no_usage_text Tells Left Wanting sink (reported_text text tells left wrote) = wrote
no_usage_text Tells Left Wanting sink (wanted_memory left unwritten is) = absurd (cc)

no_usage_reported : (layouts : Layouts) (form : Form) (source : SourceRun) (sink : SinkRun) (store : StoreView ℕ) (Ends : StoreView ℕ → Type 0) → ((mid : StoreView ℕ) → Ends mid → ⊥) → Reported layouts form source sink store Usage Ends → ⊥
no_usage_reported layouts form source sink store Ends none (behind mid ran ends) = none mid ends
no_usage_reported layouts form source sink store Ends none (within flushed ran other unwritten) = ran

-- a task never ends as words of none
no_usage : (task : Task) (layouts : Layouts) (form : Form) (source : SourceRun) (sink : SinkRun) (store : StoreView ℕ) → RanTask task layouts form source sink store Usage → ⊥
no_usage Script layouts form source sink store ran = ran
no_usage (Churn rounds) layouts form source sink store (same, to_its_end summary ran wrote) = wrote
no_usage (Churn rounds) layouts form source sink store (same, within stopped unwritten is) = absurd (cc)
no_usage Paths layouts form source sink store ran = no_usage_reported layouts form source sink store _ (λ mid ends. no_usage_text _ _ _ sink ends) ran
no_usage Save layouts form source sink store ran = no_usage_reported layouts form source sink store _ (λ mid ends. no_usage_text _ _ _ sink ends) ran
no_usage Load layouts form source sink store (read_whole input whole ends) = no_usage_text _ _ _ sink ends
no_usage Load layouts form source sink store (not_read why unwritten ready) = why
no_usage (Lists inserts) layouts form source sink store (same, ends) = no_usage_text _ _ _ sink ends

-- the words of a form never end as words of none
answers_of : (words : List (List ℕ)) (source : SourceRun) (sink : SinkRun) (old new : Stores) (status : Status) → RanWords words source sink old new status → TopAnswers words source sink old new status
answers_of words source sink old new Done ran = ran
answers_of words source sink old new Usage ran = absurd (no_usage ran.form.task (layouts_of ran.form.collector) ran.form source sink (chosen ran.form.collector new) ran.ran)
answers_of words source sink old new ReadFault ran = ran
answers_of words source sink old new WriteFault ran = ran
answers_of words source sink old new TooLong ran = ran
answers_of words source sink old new NoMemory ran = ran

-- the run of a form over the heap of that collector
pub ran_over : (collector : Collector) (words : List (List ℕ)) (form : Form) (source : SourceRun) (sink : SinkRun) (old new : Stores) (status : Status) → IsForm words form → form.collector ≡ collector
    → RanTask form.task (layouts_of collector) form source sink (chosen collector new) status → OthersStay collector old new → AreSameStores old new → TopAnswers words source sink old new status
ran_over collector words form source sink old new status is_form over ran others same = answers_of words source sink old new status (record {
  form = form;
  is_form = is_form;
  ran = subst (λ (c : Collector). RanTask form.task (layouts_of c) form source sink (chosen c new) status) (sym over) ran;
  others = subst (λ (c : Collector). OthersStay c old new) (sym over) others;
  same = same;
})

-- a script that is made has no more rounds than one may have
pub fits_rounds : (task : Task) (rounds : ℕ) → task ≡ Churn rounds → FitsTask task → rounds ≤ max_rounds
fits_rounds task rounds is fits = subst FitsTask is fits

-- a map gets no more inserts than one may
pub fits_inserts : (task : Task) (inserts : ℕ) → task ≡ Lists inserts → FitsTask task → inserts ≤ max_inserts
fits_inserts task inserts is fits = subst FitsTask is fits

-- a task that reads an input is none that reads nothing
pub reads : (task known : Task) → task ≡ known → (ReadsNothing known → ⊥) → ReadsNothing task → ⊥
reads task known is some nothing = some (subst ReadsNothing is nothing)

-- words of a form that reads nothing are of no form that reads an input
two_words : (task : Task) (name count : List ℕ) → task_words task ≡ name ∷ count ∷ [] → ReadsNothing task
two_words Script name count words = absurd (cc)
two_words (Churn n) name count words = tt
two_words Paths name count words = absurd (cc)
two_words Save name count words = absurd (cc)
two_words Load name count words = absurd (cc)
two_words (Lists n) name count words = tt

alone : (task other : Task) → task_words task ≡ task_words other → ReadsNothing task → ReadsNothing other
alone Script other same nothing = absurd nothing
alone (Churn n) other same nothing = two_words other (codes "churn") (decimal n) (sym same)
alone Paths other same nothing = absurd nothing
alone Save other same nothing = absurd nothing
alone Load other same nothing = absurd nothing
alone (Lists n) other same nothing = two_words other (codes "lists") (decimal n) (sym same)

pub unread_alone : (words : List (List ℕ)) (form other : Form) → IsForm words form → IsForm words other → ReadsNothing form.task → ReadsNothing other.task
unread_alone words form other is_form is_other nothing =
    let one = is_form.spelled in
    let two = is_other.spelled in
    alone form.task other.task (cc) nothing

-- a script that was run to its end over a sink that tells nothing
pub silently : (layouts : Layouts) (form : Form) (source : SourceRun) (before after : Bool) (store : StoreView ℕ) → Completed layouts form source (record { before = silent before; after = silent after }) store → RanSilently layouts form source store
silently layouts form source before after store ran = record { input = ran.input; whole = ran.whole; ran = ran.ran }

-- a run over such a sink that took nothing yet
pub not_begun : (layouts : Layouts) (form : Form) (source : SourceRun) (before after : Bool) (store : StoreView ℕ) (status : Status) → before ≡ false
    → RanOn layouts form source (record { before = silent before; after = silent after }) store status → RanOn layouts form source (record { before = silent false; after = silent after }) store status
not_begun layouts form source before after store status is ran = subst (λ (b : Bool). RanOn layouts form source (record { before = silent b; after = silent after }) store status) is ran

-- a task that is known ended so
pub ran_task : (task known : Task) (layouts : Layouts) (form : Form) (source : SourceRun) (sink : SinkRun) (store : StoreView ℕ) (status : Status) → task ≡ known
    → RanTask known layouts form source sink store status → RanTask task layouts form source sink store status
ran_task task known layouts form source sink store status is ran = subst (λ (t : Task). RanTask t layouts form source sink store status) (sym is) ran

-- which status a number is
pub usage_of : (status : Status) → code_of status ≡ 1 → status ≡ Usage
usage_of Done is = cc
usage_of Usage is = refl
usage_of ReadFault is = cc
usage_of WriteFault is = cc
usage_of TooLong is = cc
usage_of NoMemory is = cc
