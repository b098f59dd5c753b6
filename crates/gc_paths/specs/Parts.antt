-- The parts of a report as it grows.
use Rattle.std.specs.Prelude.{◌≡◌, ◌||◌, ℕ, Bool, false, nat_eq, List, [], ◌∷◌, ◌++◌}
use Rattle.std.specs.Bool.{MatchBool}
use Rattle.std.specs.HashSet.{contains}
use Rattle.gc_values.specs.declared.root.GcRootIndex.{GcRootIndex}
use Rattle.gc_paths.specs.declared.entry.PathEntry.{PathEntry}
use Rattle.gc_paths.specs.declared.report.Report.{Report}

-- the entries, the handles of their objects, and which words these have
pub record Parts : Type 0 where
  pub entries : List PathEntry
  pub handles : List GcRootIndex
  pub knows : ℕ → Bool

abbrev pub parts : Report → Parts
parts r = record { entries = r.entries.items; handles = r.handles.items; knows = contains nat_eq r.words }

abbrev pub empty_parts : Parts
empty_parts = record { entries = []; handles = []; knows = λ word. false }

pub record SameParts (old new : Parts) : Type 0 where
  pub entries : new.entries ≡ old.entries
  pub handles : new.handles ≡ old.handles
  pub knows : (word : ℕ) → new.knows word ≡ old.knows word

pub record MoreParts (old new : Parts) (entry : PathEntry) (handle : GcRootIndex) : Type 0 where
  pub entries : new.entries ≡ old.entries ++ entry ∷ []
  pub handles : new.handles ≡ old.handles ++ handle ∷ []
  pub knows : (word : ℕ) → new.knows word ≡ (nat_eq entry.word word || old.knows word)

-- an entry is added, with the handle of its object, unless its word is known
abbrev pub Adds : Parts → Parts → PathEntry → GcRootIndex → Type 0
Adds old new entry handle = MatchBool (old.knows entry.word) (SameParts old new) (MoreParts old new entry handle)
