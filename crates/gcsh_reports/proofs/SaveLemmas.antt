-- What the report of an image that is saved says.
use Rattle.std.proofs.Common.{◌≡◌, ℕ, List, Some, Result, Ok, Err, IfOk, Vec, Global, sym, ap, ◌∙◌}
use Rattle.gc_model.specs.Table.{Table}
use Rattle.gc_model.specs.Accounts.{Account}
use Rattle.gc_save_image.specs.Saves.{RefusesSave}
use Rattle.gc_save_image.specs.declared.fault.SaveFault.{SaveFault}
use Rattle.gcsh_reports.specs.Saving.{TellsSave, refused, refused_line}

-- the line of a refusal that has its cause
pub tells_refused : {E : Type 0} (why : SaveFault) (words : List ℕ) (Holds : Table ℕ → Account → Type 0) (line : Result (Vec ℕ Global) E) → refused_line why ≡ Some words
    → ((t : Table ℕ) (a : Account) → Holds t a → RefusesSave t why) → IfOk line (λ (l : Vec ℕ Global). l.items ≡ words)
    → IfOk line (λ (l : Vec ℕ Global). (t : Table ℕ) (a : Account) → Holds t a → TellsSave t l.items)
tells_refused why words Holds (Ok l) is refuses same = λ t a holds. refused why (refuses t a holds) (is ∙ ap Some (sym same))
tells_refused why words Holds (Err e) is refuses same = tt
