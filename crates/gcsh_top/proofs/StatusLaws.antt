-- What the status of the top call decides.
use Rattle.std.proofs.Common.{false, ◌≡◌, ℕ, ◌+◌, ◌≤◌, List, [], ◌++◌, Option, Some, None, length, length-append, inl, inr, refl, sym, ap, subst, arith}
use Rattle.std.specs.Prelude.{◌⊎◌, ◌↔◌}
use Rattle.std.specs.Io.KnownBytes.{Consumes}
use Rattle.gc_types.specs.declared.kind.Layouts.{Layouts}
use Rattle.gc_model.specs.Allocation.{Rose}
use Rattle.gc_model.specs.Stores.{StoreView}
use Rattle.gcsh_top.specs.declared.status.Status.{Status}
use Rattle.gcsh_top.specs.declared.status.Status.TheVariants.{Done, Usage, ReadFault, WriteFault, TooLong, NoMemory}
use Rattle.gcsh_top.specs.declared.stores.Stores.{Stores}
use Rattle.gcsh_top.specs.declared.words.Form.{Form}
use Rattle.gcsh_top.specs.declared.words.Task.{Task}
use Rattle.gcsh_top.specs.declared.words.Task.TheVariants.{Script, Churn, Paths, Save, Load, Lists}
use Rattle.gcsh_top.specs.Answers.{TopAnswers, IsShort, RanOn, RanTask, RanWords, Reported, behind, within}
use Rattle.gcsh_top.specs.LoadReports.{read_whole, not_read}
use Rattle.gcsh_top.specs.Chosen.{chosen}
use Rattle.gcsh_top.specs.ChurnRuns.{Churned, to_its_end, within}
use Rattle.gcsh_top.specs.Reports.{ReportedText, WroteText, reported_text, wanted_memory, silent}
use Rattle.gcsh_top.specs.Counts.{saturated_sum}
use Rattle.gcsh_top.specs.Ends.{Gave, SinkRun, SourceRun, SourceTold}
use Rattle.gcsh_top.specs.Input.{GaveWhole, UnreadInput, max_input, so_far, to_its_end}
use Rattle.gcsh_top.specs.Words.{IsForm, layouts_of}
use Rattle.gcsh_top.proofs.EndLemmas.{gave_none, told}

module _ (words : List (List ℕ)) (source : SourceRun) (sink : SinkRun) (old new : Stores) where
  -- the words are those of no form exactly at the status that says so
  pub usage_exact : (status : Status) → TopAnswers words source sink old new status → (status ≡ Usage) ↔ ((form : Form) → ¬ IsForm words form)
  usage_exact Done ran = (λ is. cc, λ none. absurd (none ran.form ran.is_form))
  usage_exact Usage none = (λ is. none, λ is. refl)
  usage_exact ReadFault ran = (λ is. cc, λ none. absurd (none ran.form ran.is_form))
  usage_exact WriteFault ran = (λ is. cc, λ none. absurd (none ran.form ran.is_form))
  usage_exact TooLong ran = (λ is. cc, λ none. absurd (none ran.form ran.is_form))
  usage_exact NoMemory ran = (λ is. cc, λ none. absurd (none ran.form ran.is_form))

-- How many bytes were given, and that they are one too many exactly at the status that says so.
abbrev Given : SourceRun → Status → Type 0
Given source status = (bytes : List ℕ) × Gave source bytes × (length bytes ≤ max_input + 1) × ((status ≡ TooLong) ↔ (length bytes ≡ max_input + 1))

given_short : (source : SourceRun) (status : Status) (bytes : List ℕ) → (status ≡ TooLong → ⊥) → Gave source bytes → length bytes ≤ max_input → Given source status
given_short source status bytes other gave short = (bytes, gave, omega (arith, short), (λ is. absurd (other is), λ is. absurd (omega (arith, short, is))))

-- where the run stopped within what was given
given_whole : (source : SourceRun) (status : Status) (whole : List ℕ) → (status ≡ TooLong → ⊥) → GaveWhole source whole → Given source status
given_whole source status whole other (to_its_end read) = given_short source status whole other read.gave.gave read.gave.short
given_whole source status whole other (so_far bytes short gave) = given_short source status bytes other gave.gave short

-- where the script is the input
given_on : (layouts : Layouts) (form : Form) (source : SourceRun) (sink : SinkRun) (store : StoreView ℕ) (status : Status) → RanOn layouts form source sink store status → Given source status
given_on layouts form source sink store Done ran = given_short source Done ran.input (λ is. cc) ran.whole.gave.gave ran.whole.gave.short
given_on layouts form source sink store Usage ran = absurd ran
given_on layouts form source sink store ReadFault ran = given_short source ReadFault ran.0.0 (λ is. cc) ran.0.1.gave.gave ran.0.2
given_on layouts form source sink store WriteFault ran = given_whole source WriteFault ran.0.input (λ is. cc) ran.0.gave
given_on layouts form source sink store TooLong ran = (ran.0, ran.1.gave.gave, omega (arith, ran.2), (λ is. ran.2, λ is. refl))
given_on layouts form source sink store NoMemory ran = given_whole source NoMemory ran.input (λ is. cc) ran.gave

-- how a summary is written where the status says nothing of the input
wrote_by : (text : List ℕ) (sink : SinkRun) (status : Status) → WroteText text sink status → (status ≡ Done) ⊎ (((status ≡ WriteFault) × Rose sink.before.faults sink.after.faults) ⊎ (status ≡ NoMemory))
wrote_by text sink Done wrote = inl refl
wrote_by text sink Usage wrote = absurd wrote
wrote_by text sink ReadFault wrote = absurd wrote
wrote_by text sink WriteFault wrote = inr (inl (refl, wrote.1))
wrote_by text sink TooLong wrote = absurd wrote
wrote_by text sink NoMemory wrote = inr (inr refl)

churned_by : (layouts : Layouts) (form : Form) (rounds : ℕ) (sink : SinkRun) (store : StoreView ℕ) (status : Status) → Churned layouts form rounds sink store status → (status ≡ Done) ⊎ (((status ≡ WriteFault) × Rose sink.before.faults sink.after.faults) ⊎ (status ≡ NoMemory))
churned_by layouts form rounds sink store status (to_its_end summary ran wrote) = wrote_by summary sink status wrote
churned_by layouts form rounds sink store status (within stopped unwritten is) = inr (inr is)

reported_by : (Tells : List ℕ → Type 0) (Left Wanting : Type 0) (sink : SinkRun) (status : Status) → ReportedText Tells Left Wanting sink status → (status ≡ Done) ⊎ (((status ≡ WriteFault) × Rose sink.before.faults sink.after.faults) ⊎ (status ≡ NoMemory))
reported_by Tells Left Wanting sink status (reported_text text tells left wrote) = wrote_by text sink status wrote
reported_by Tells Left Wanting sink status (wanted_memory left unwritten is) = inr (inr is)

-- such a status is not that of an input that is too long
not_too_long : {R : Type 0} (status : Status) → (status ≡ Done) ⊎ (((status ≡ WriteFault) × R) ⊎ (status ≡ NoMemory)) → status ≡ TooLong → ⊥
not_too_long status (inl done) is = absurd (cc)
not_too_long status (inr (inl (failed, rose))) is = absurd (cc)
not_too_long status (inr (inr none)) is = absurd (cc)

-- where a script is made nothing is given
nothing_given : (source : SourceRun) (status : Status) → source.after ≡ source.before → (status ≡ TooLong → ⊥) → Given source status
nothing_given source status same other =
    given_short source status [] other (subst (λ (after : SourceTold). Gave (told source.before after) []) (sym same) (gave_none source.before)) (omega arith)

-- where a report was written behind a script
given_reported : (layouts : Layouts) (form : Form) (source : SourceRun) (sink : SinkRun) (store : StoreView ℕ) (status : Status) (Ends : StoreView ℕ → Type 0) → ((mid : StoreView ℕ) → Ends mid → status ≡ TooLong → ⊥)
    → Reported layouts form source sink store status Ends → Given source status
given_reported layouts form source sink store status Ends other (behind mid ran ends) = given_short source status ran.input (other mid ends) ran.whole.gave.gave ran.whole.gave.short
given_reported layouts form source sink store status Ends other (within flushed ran undone unwritten) = given_on layouts form source (record { before = silent false; after = silent flushed }) store status ran

-- where an input was not read to its end
given_unread : (source : SourceRun) (status : Status) → UnreadInput source status → Given source status
given_unread source Done why = absurd why
given_unread source Usage why = absurd why
given_unread source ReadFault why = given_short source ReadFault why.0.0 (λ is. cc) why.0.1.gave why.0.1.short
given_unread source WriteFault why = absurd why
given_unread source TooLong why = (why.0, why.1, omega (arith, why.2), (λ is. why.2, λ is. refl))
given_unread source NoMemory why = given_short source NoMemory why.0 (λ is. cc) why.1.gave why.1.short

given_task : (task : Task) (layouts : Layouts) (form : Form) (source : SourceRun) (sink : SinkRun) (store : StoreView ℕ) (status : Status) → RanTask task layouts form source sink store status → Given source status
given_task Script layouts form source sink store status ran = given_on layouts form source sink store status ran
given_task (Churn rounds) layouts form source sink store status (same, ran) = nothing_given source status same (not_too_long status (churned_by layouts form rounds sink store status ran))
given_task Paths layouts form source sink store status ran = given_reported layouts form source sink store status _ (λ mid ends. not_too_long status (reported_by _ _ _ sink status ends)) ran
given_task Save layouts form source sink store status ran = given_reported layouts form source sink store status _ (λ mid ends. not_too_long status (reported_by _ _ _ sink status ends)) ran
given_task Load layouts form source sink store status (read_whole input whole ends) =
    given_short source status input (not_too_long status (reported_by _ _ _ sink status ends)) whole.gave.gave whole.gave.short
given_task Load layouts form source sink store status (not_read why unwritten ready) = given_unread source status why
given_task (Lists inserts) layouts form source sink store status (same, ends) = nothing_given source status same (not_too_long status (reported_by _ _ _ sink status ends))

pub given_exact : (words : List (List ℕ)) (source : SourceRun) (sink : SinkRun) (old new : Stores) (status : Status) → RanWords words source sink old new status → Given source status
given_exact words source sink old new status ran = given_task ran.form.task (layouts_of ran.form.collector) ran.form source sink (chosen ran.form.collector new) status ran.ran

-- an input that is not too long gave no byte too many
too_many : (left left' : Option (List ℕ)) (given given' : ℕ) (bytes : List ℕ) → Consumes left left' bytes → given' ≡ saturated_sum given (length bytes) → length bytes ≡ max_input + 1 → IsShort left given given' → ⊥
too_many None left' given given' bytes taken counted many short = omega (arith, counted, many, short.0, short.1)
too_many (Some bs) None given given' bytes taken counted many short = taken
too_many (Some bs) (Some rest) given given' bytes taken counted many short =
    let long = length-append bytes rest in
    let all : length bs ≡ length (bytes ++ rest) = ap length taken in
    omega (arith, long, all, many, short)

-- where no end failed and the input is not too long, a script that is the input was run to its end, or there was no memory
complete_on : (layouts : Layouts) (form : Form) (source : SourceRun) (sink : SinkRun) (store : StoreView ℕ) (status : Status) → RanOn layouts form source sink store status
    → ¬ Rose source.before.faults source.after.faults → ¬ Rose sink.before.faults sink.after.faults → IsShort source.before.left source.before.given source.after.given → (status ≡ Done) ⊎ (status ≡ NoMemory)
complete_on layouts form source sink store Done ran whole_in whole_out short = inl refl
complete_on layouts form source sink store Usage ran whole_in whole_out short = absurd ran
complete_on layouts form source sink store ReadFault ran whole_in whole_out short = absurd (whole_in ran.1)
complete_on layouts form source sink store WriteFault ran whole_in whole_out short = absurd (whole_out ran.1)
complete_on layouts form source sink store TooLong ran whole_in whole_out short =
    absurd (too_many source.before.left source.after.left source.before.given source.after.given ran.0 ran.1.gave.gave.taken ran.1.gave.gave.counted ran.2 short)
complete_on layouts form source sink store NoMemory ran whole_in whole_out short = inr refl

-- so where a script was made
whole_by : {R : Type 0} (status : Status) → (status ≡ Done) ⊎ (((status ≡ WriteFault) × R) ⊎ (status ≡ NoMemory)) → ¬ R → (status ≡ Done) ⊎ (status ≡ NoMemory)
whole_by status (inl done) whole_out = inl done
whole_by status (inr (inl failed)) whole_out = absurd (whole_out failed.1)
whole_by status (inr (inr none)) whole_out = inr none

-- so where a report was written behind a script
complete_reported : (layouts : Layouts) (form : Form) (source : SourceRun) (sink : SinkRun) (store : StoreView ℕ) (status : Status) (Ends : StoreView ℕ → Type 0) → ((mid : StoreView ℕ) → Ends mid → (status ≡ Done) ⊎ (status ≡ NoMemory))
    → Reported layouts form source sink store status Ends → ¬ Rose source.before.faults source.after.faults → IsShort source.before.left source.before.given source.after.given → (status ≡ Done) ⊎ (status ≡ NoMemory)
complete_reported layouts form source sink store status Ends whole (behind mid ran ends) whole_in short = whole mid ends
complete_reported layouts form source sink store status Ends whole (within flushed ran other unwritten) whole_in short =
    complete_on layouts form source (record { before = silent false; after = silent flushed }) store status ran whole_in (λ rose. absurd (omega (arith, rose))) short

-- so where an input was not read to its end
complete_unread : (source : SourceRun) (status : Status) → UnreadInput source status → ¬ Rose source.before.faults source.after.faults → IsShort source.before.left source.before.given source.after.given → (status ≡ Done) ⊎ (status ≡ NoMemory)
complete_unread source Done why whole_in short = inl refl
complete_unread source Usage why whole_in short = absurd why
complete_unread source ReadFault why whole_in short = absurd (whole_in why.1)
complete_unread source WriteFault why whole_in short = absurd why
complete_unread source TooLong why whole_in short = absurd (too_many source.before.left source.after.left source.before.given source.after.given why.0 why.1.taken why.1.counted why.2 short)
complete_unread source NoMemory why whole_in short = inr refl

complete_task : (task : Task) (layouts : Layouts) (form : Form) (source : SourceRun) (sink : SinkRun) (store : StoreView ℕ) (status : Status) → RanTask task layouts form source sink store status
    → ¬ Rose source.before.faults source.after.faults → ¬ Rose sink.before.faults sink.after.faults → IsShort source.before.left source.before.given source.after.given → (status ≡ Done) ⊎ (status ≡ NoMemory)
complete_task Script layouts form source sink store status ran whole_in whole_out short = complete_on layouts form source sink store status ran whole_in whole_out short
complete_task (Churn rounds) layouts form source sink store status (same, ran) whole_in whole_out short = whole_by status (churned_by layouts form rounds sink store status ran) whole_out
complete_task Paths layouts form source sink store status ran whole_in whole_out short =
    complete_reported layouts form source sink store status _ (λ mid ends. whole_by status (reported_by _ _ _ sink status ends) whole_out) ran whole_in short
complete_task Save layouts form source sink store status ran whole_in whole_out short =
    complete_reported layouts form source sink store status _ (λ mid ends. whole_by status (reported_by _ _ _ sink status ends) whole_out) ran whole_in short
complete_task Load layouts form source sink store status (read_whole input whole ends) whole_in whole_out short = whole_by status (reported_by _ _ _ sink status ends) whole_out
complete_task Load layouts form source sink store status (not_read why unwritten ready) whole_in whole_out short = complete_unread source status why whole_in short
complete_task (Lists inserts) layouts form source sink store status (same, ends) whole_in whole_out short = whole_by status (reported_by _ _ _ sink status ends) whole_out

complete_words : (words : List (List ℕ)) (source : SourceRun) (sink : SinkRun) (old new : Stores) (status : Status) → RanWords words source sink old new status
    → ¬ Rose source.before.faults source.after.faults → ¬ Rose sink.before.faults sink.after.faults → IsShort source.before.left source.before.given source.after.given → (status ≡ Done) ⊎ (status ≡ NoMemory)
complete_words words source sink old new status ran = complete_task ran.form.task (layouts_of ran.form.collector) ran.form source sink (chosen ran.form.collector new) status ran.ran

pub complete_exact : (words : List (List ℕ)) (source : SourceRun) (sink : SinkRun) (old new : Stores) (status : Status) (form : Form) → TopAnswers words source sink old new status → IsForm words form
    → ¬ Rose source.before.faults source.after.faults → ¬ Rose sink.before.faults sink.after.faults → IsShort source.before.left source.before.given source.after.given → (status ≡ Done) ⊎ (status ≡ NoMemory)
complete_exact words source sink old new Usage form none is_form whole_in whole_out short = absurd (none form is_form)
complete_exact words source sink old new Done form ran is_form whole_in whole_out short = complete_words words source sink old new Done ran whole_in whole_out short
complete_exact words source sink old new ReadFault form ran is_form whole_in whole_out short = complete_words words source sink old new ReadFault ran whole_in whole_out short
complete_exact words source sink old new WriteFault form ran is_form whole_in whole_out short = complete_words words source sink old new WriteFault ran whole_in whole_out short
complete_exact words source sink old new TooLong form ran is_form whole_in whole_out short = complete_words words source sink old new TooLong ran whole_in whole_out short
complete_exact words source sink old new NoMemory form ran is_form whole_in whole_out short = complete_words words source sink old new NoMemory ran whole_in whole_out short
