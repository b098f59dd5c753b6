-- The words of the program.
use Rattle.std.specs.Prelude.{◌≡◌, ℕ, ◌≤◌, List, [], ◌∷◌, codes}
use Rattle.std.specs.Fmt.{decimal}
use Rattle.gc_types.specs.declared.kind.Layouts.{Layouts}
use Rattle.gc_types.specs.declared.kind.Layouts.TheVariants as layouts
use Rattle.gc_view.specs.Pages.{max_pages}
use Rattle.gcsh_top.specs.declared.words.Collector.{Collector}
use Rattle.gcsh_top.specs.declared.words.Collector.TheVariants.{Copying, Counting, Null}
use Rattle.gcsh_top.specs.declared.words.Form.{Form}
use Rattle.gcsh_top.specs.declared.words.Task.{Task}
use Rattle.gcsh_top.specs.declared.words.Task.TheVariants.{Script, Churn, Paths, Save, Load, Lists}
use Rattle.gcsh_reports.specs.Filling.{max_inserts}
use Rattle.gcsh_top.specs.Churn.{max_rounds}

-- the word of a collector
abbrev pub collector_word : Collector → List ℕ
collector_word Copying = codes "copying"
collector_word Counting = codes "counting"
collector_word Null = codes "null"

-- the kind of heap of a collector
abbrev pub layouts_of : Collector → Layouts
layouts_of Copying = layouts.Copying
layouts_of Counting = layouts.Counting
layouts_of Null = layouts.Null

-- the words of a task: none for the script that is the input
abbrev pub task_words : Task → List (List ℕ)
task_words Script = []
task_words (Churn rounds) = codes "churn" ∷ decimal rounds ∷ []
task_words Paths = codes "paths" ∷ []
task_words Save = codes "save" ∷ []
task_words Load = codes "load" ∷ []
task_words (Lists inserts) = codes "lists" ∷ decimal inserts ∷ []

-- a script that is made has no more rounds than one may have, and a map gets no more inserts
abbrev pub FitsTask : Task → Type 0
FitsTask Script = Unit {0}
FitsTask (Churn rounds) = rounds ≤ max_rounds
FitsTask Paths = Unit {0}
FitsTask Save = Unit {0}
FitsTask Load = Unit {0}
FitsTask (Lists inserts) = inserts ≤ max_inserts

-- a task that reads nothing
abbrev pub ReadsNothing : Task → Type 0
ReadsNothing Script = ⊥
ReadsNothing (Churn rounds) = Unit {0}
ReadsNothing Paths = ⊥
ReadsNothing Save = ⊥
ReadsNothing Load = ⊥
ReadsNothing (Lists inserts) = Unit {0}

-- the words of a form: a collector, the pages that a heap begins with, the most that it may have, and those of its task
abbrev pub form_words : Form → List (List ℕ)
form_words form = collector_word form.collector ∷ decimal form.first ∷ decimal form.most ∷ task_words form.task

-- the words are those of the form, whose numbers are in range
pub record IsForm (words : List (List ℕ)) (form : Form) : Type 0 where
  pub ordered : form.first ≤ form.most
  pub within : form.most ≤ max_pages
  pub fits : FitsTask form.task
  pub spelled : words ≡ form_words form
