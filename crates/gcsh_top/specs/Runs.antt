-- What running lines leaves.
use Rattle.std.specs.Prelude.{◌≡◌, true, ℕ, List, [], ◌∷◌, ◌++◌, ◌⊎◌, Option, Some, None, Result, Ok, Err, codes}
use Rattle.std.specs.Io.KnownBytes.{Appends, Keeps}
use Rattle.gc_types.specs.declared.kind.Layouts.{Layouts}
use Rattle.gc_model.specs.Allocation.{Limits}
use Rattle.gc_model.specs.Table.{Table, start, usual_roots}
use Rattle.gc_model.specs.Holds.{HoldsKept}
use Rattle.gc_model.specs.Stores.{StoreView}
use Rattle.gc_commands.specs.declared.command.Command.{Command}
use Rattle.gc_commands.specs.declared.reply.Reply.{Reply}
use Rattle.gc_commands.specs.Spelling.{IsCommandOf}
use Rattle.gc_script.specs.Slots.{RunnerView}
use Rattle.gc_script.specs.State.{State, HoldsState, begin}
use Rattle.gc_script.specs.Shapes.{is_collection}
use Rattle.gc_model.specs.Accounts.{HoldsAccount, no_account}
use Rattle.gc_owner.specs.Limiters.{fresh_limits}
use Rattle.gc_script.specs.Run.{Ran, WantsMemory}
use Rattle.gc_script.specs.Session.{Session, SessionFrom, reply_line}
use Rattle.gcsh_top.specs.declared.run.LineFault.{LineFault}
use Rattle.gcsh_top.specs.declared.words.Form.{Form}
use Rattle.gc_script.specs.Cutting.{IsCut, KeptLine, kept_of}
use Rattle.gcsh_top.specs.Ends.{TookPart}
use Rattle.gc_script.specs.Lines.{lines}

-- the line is a command that was run, and the sink took its reply
pub record RanLine (layouts : Layouts) (counter : Option ℕ) (limits limits' : Limits) (s : State) (line : List ℕ) (store : StoreView ℕ) (runner : RunnerView) (held held' : Option (List ℕ)) : Type 0 where
  pub command : Command
  pub answer : Reply
  pub is_command : IsCommandOf line command
  pub ran : Ran layouts counter limits limits' s command answer store runner
  pub kept : is_collection command ≡ true → HoldsKept layouts store ran.after.table
  pub replied : Appends held held' (reply_line answer)

-- the line is a command that collects
abbrev pub IsCollectionLine : List ℕ → Type 0
IsCollectionLine line = (line ≡ codes "gc") ⊎ ((line ≡ codes "gcinc") ⊎ (line ≡ codes "gcdrop"))

-- the last of some lines is such a command
abbrev pub EndsInCollection : List (List ℕ) → Type 0
EndsInCollection lines = (before : List (List ℕ)) × ((line : List ℕ) × (IsCollectionLine line × (lines ≡ before ++ line ∷ [])))

-- where the last of some lines collects, the store holds the kept objects of the table and no others
abbrev pub KeptBehind : Layouts → List (List ℕ) → StoreView ℕ → Table ℕ → Type 0
KeptBehind layouts lines store table = EndsInCollection lines → HoldsKept layouts store table

-- The lines of the input are commands that were run, and the sink took their replies. What a last line that collects leaves is left
-- whatever lines stand before, whose store was `old`.
pub record RanLines (layouts : Layouts) (counter : Option ℕ) (limits limits' : Limits) (s : State) (input : List ℕ) (old store : StoreView ℕ) (runner : RunnerView) (held held' : Option (List ℕ)) : Type 0 where
  pub output : List ℕ
  pub after : State
  pub session : SessionFrom layouts counter limits s (lines input) output after limits'
  pub holds : HoldsState layouts store runner after
  pub kept : (before : List (List ℕ)) → KeptBehind layouts before old s.table → KeptBehind layouts (before ++ lines input) store after.table
  pub replied : Appends held held' output

-- A line without its whole reply: for want of memory its command was not read or not run, or it was run and a front
-- of its reply was written.
pub data BrokeOff (layouts : Layouts) (counter : Option ℕ) (limits : Limits) (s : State) (line : List ℕ) (store : StoreView ℕ) (runner : RunnerView) (held held' : Option (List ℕ)) : Type 0 where
  not_read : HoldsState layouts store runner s → Keeps held held' → BrokeOff layouts counter limits s line store runner held held'
  not_run : {limits' : Limits} {command : Command} → IsCommandOf line command → WantsMemory layouts counter limits limits' s command store runner → Keeps held held'
      → BrokeOff layouts counter limits s line store runner held held'
  not_written : {limits' : Limits} {command : Command} {answer : Reply} → IsCommandOf line command → Ran layouts counter limits limits' s command answer store runner → TookPart held held' (reply_line answer)
      → BrokeOff layouts counter limits s line store runner held held'

-- what running a line leaves, by the answer: both cases as one, where a call hands on the answer of another
abbrev pub RunsLine : Layouts → Option ℕ → Limits → Limits → State → List ℕ → StoreView ℕ → RunnerView → Option (List ℕ) → Option (List ℕ) → Result (Unit {0}) LineFault → Type 0
RunsLine layouts counter limits limits' s line store runner held held' (Ok done) = RanLine layouts counter limits limits' s line store runner held held'
RunsLine layouts counter limits limits' s line store runner held held' (Err fault) = BrokeOff layouts counter limits s line store runner held held'

-- the lines of the input were run and replied to up to one that broke off
pub record StoppedLines (layouts : Layouts) (counter : Option ℕ) (limits : Limits) (s : State) (input : List ℕ) (store : StoreView ℕ) (runner : RunnerView) (held held' : Option (List ℕ)) : Type 0 where
  pub done : List (List ℕ)
  pub line : List ℕ
  pub rest : List (List ℕ)
  pub cut : lines input ≡ done ++ line ∷ rest
  pub output : List ℕ
  pub mid : State
  pub mid_limits : Limits
  pub session : SessionFrom layouts counter limits s done output mid mid_limits
  pub between : Option (List ℕ)
  pub written : Appends held between output
  pub broke_off : BrokeOff layouts counter mid_limits mid line store runner between held'

-- The lines of the input were run and replied to up to one that broke off, or all of them.
abbrev pub RanSome : Layouts → Option ℕ → Limits → State → List ℕ → StoreView ℕ → StoreView ℕ → RunnerView → Option (List ℕ) → Option (List ℕ) → Type 0
RanSome layouts counter limits s input old store runner held held' =
    StoppedLines layouts counter limits s input store runner held held' ⊎ ((limits' : Limits) × RanLines layouts counter limits limits' s input old store runner held held')

-- Of bytes that begin with a line, those up to their last line feed were run, and the line behind them is kept.
pub record RanPiece (layouts : Layouts) (counter : Option ℕ) (limits limits' : Limits) (s : State) (bytes : List ℕ) (line : KeptLine) (old store : StoreView ℕ) (runner : RunnerView) (held held' : Option (List ℕ)) : Type 0 where
  pub whole : List ℕ
  pub rest : List ℕ
  pub cut : IsCut bytes whole rest
  pub kept_is : line ≡ kept_of rest
  pub ran : RanLines layouts counter limits limits' s whole old store runner held held'

-- of such bytes, those up to their last line feed were run in part, or were all run and not flushed
pub record StoppedPiece (layouts : Layouts) (counter : Option ℕ) (limits : Limits) (s : State) (bytes : List ℕ) (old store : StoreView ℕ) (runner : RunnerView) (held held' : Option (List ℕ)) : Type 0 where
  pub whole : List ℕ
  pub rest : List ℕ
  pub cut : IsCut bytes whole rest
  pub some : RanSome layouts counter limits s whole old store runner held held'

-- An input was run on a store whose heap is of that kind: it holds the table and the account at the end. Where the last
-- line collects, the heap holds the kept objects and no others.
pub record RanForm (layouts : Layouts) (form : Form) (input : List ℕ) (held held' : Option (List ℕ)) (store : StoreView ℕ) : Type 0 where
  pub output : List ℕ
  pub written : Appends held held' output
  pub table : Table ℕ
  pub session : Session layouts form.first form.most input output table
  pub holds : HoldsAccount layouts store table session.after.account
  pub no_counter : store.alloc_counter ≡ None
  pub kept : EndsInCollection (lines input) → HoldsKept layouts store table

-- the empty table of a store that begins with the form's pages
abbrev pub first_table : Form → Table ℕ
first_table form = start form.first usual_roots usual_roots

-- The store of a heap of that kind that begins with the form's pages holds the empty table, and no allocation
-- collects by its number.
pub record HoldsFirstTable (layouts : Layouts) (form : Form) (store : StoreView ℕ) : Type 0 where
  pub holds : HoldsAccount layouts store (first_table form) no_account
  pub no_counter : store.alloc_counter ≡ None

-- How far an input was run: up to a line that broke off, or to its end.
pub data StoppedForm (layouts : Layouts) (form : Form) (input : List ℕ) (held held' : Option (List ℕ)) (store : StoreView ℕ) : Type 0 where
  in_lines : (runner : RunnerView) → store.alloc_counter ≡ None → StoppedLines layouts None (fresh_limits (Some form.most)) (begin (first_table form) no_account) input store runner held held' → StoppedForm layouts form input held held' store
  behind_lines : RanForm layouts form input held held' store → StoppedForm layouts form input held held' store
