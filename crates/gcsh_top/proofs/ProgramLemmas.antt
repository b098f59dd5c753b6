-- The program over standard ends.
use Rattle.std.proofs.Common.{◌≡◌, ℕ, List, None, map, ap, subst}
use Rattle.std.specs.Prelude.{◌⊎◌}
use Rattle.gcsh_top.specs.declared.status.Status.{Status}
use Rattle.gcsh_top.specs.declared.status.Status.TheVariants.{NoMemory}
use Rattle.gcsh_top.specs.Counts.{Input, Output, fresh_input, fresh_output}
use Rattle.gcsh_top.specs.Ends.{SinkTold, SourceTold}
use Rattle.gcsh_top.specs.Program.{EndsWith, ProgramAnswers, RunsOver}
use Rattle.gcsh_top.specs.Statuses.{code_of}

-- what ends that tell counts alone tell
abbrev pub told_in : Input → SourceTold
told_in i = record { left = None; faults = i.faults; given = i.given; ended = i.ended }

abbrev pub told_out : Output → SinkTold
told_out o = record { held = None; faults = o.faults; flushed = o.flushed }

-- a run over ends that were just made
pub over_fresh : {A : Type 0} (help version : List ℕ) (f : A → List ℕ) (xs ys : List A) (i : Input) (o : Output) (source : SourceTold) (sink : SinkTold) (status : Status) → xs ≡ ys → i ≡ fresh_input → o ≡ fresh_output
    → ProgramAnswers help version (map f xs) (record { before = told_in i; after = source }) (record { before = told_out o; after = sink }) status → RunsOver help version (map f ys) status
over_fresh help version f xs ys i o source sink status words first_in first_out answers = (
  source,
  sink,
  subst (λ (ws : List (List ℕ)). ProgramAnswers help version ws (record { before = told_in fresh_input; after = source }) (record { before = told_out fresh_output; after = sink }) status) (ap (map f) words)
      (subst (λ (x : Input). ProgramAnswers help version (map f xs) (record { before = told_in x; after = source }) (record { before = told_out fresh_output; after = sink }) status) first_in
      (subst (λ (x : Output). ProgramAnswers help version (map f xs) (record { before = told_in i; after = source }) (record { before = told_out x; after = sink }) status) first_out answers)),
)

pub ends_with : (help version : List ℕ) (words : List (List ℕ)) (status : Status) (code : ℕ) → code ≡ code_of status → (status ≡ NoMemory) ⊎ RunsOver help version words status → EndsWith help version words code
ends_with help version words status code is why = record { status = status; code_is = is; why = why }
