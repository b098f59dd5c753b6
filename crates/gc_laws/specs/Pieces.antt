-- Sessions in pieces.
use Rattle.std.specs.Prelude.{◌≡◌, ℕ, List, ◌++◌, Option, None, Some}
use Rattle.gc_types.specs.declared.kind.Layouts.{Layouts}
use Rattle.gc_model.specs.Allocation.{Limits}
use Rattle.gc_model.specs.Table.{Table, start, usual_roots}
use Rattle.gc_owner.specs.Limiters.{fresh_limits}
use Rattle.gc_model.specs.Accounts.{no_account}
use Rattle.gc_script.specs.Lines.{lines}
use Rattle.gc_script.specs.Session.{SessionFrom}
use Rattle.gc_script.specs.State.{State, begin}

-- Some lines were run from a state, and then others from the state that these left, with its registers and its scopes.
pub record InPieces (layouts : Layouts) (counter : Option ℕ) (limits : Limits) (s : State) (front rest : List (List ℕ)) (output : List ℕ) (s' : State) (limits' : Limits) : Type 0 where
  pub middle : State
  pub between : Limits
  pub front_output : List ℕ
  pub rest_output : List ℕ
  pub front_session : SessionFrom layouts counter limits s front front_output middle between
  pub rest_session : SessionFrom layouts counter between middle rest rest_output s' limits'
  pub output_is : output ≡ front_output ++ rest_output

-- so from the start of a session, whose input has come in two pieces
pub record SessionInPieces (layouts : Layouts) (first most : ℕ) (front rest output : List ℕ) (t : Table ℕ) : Type 0 where
  pub after : State
  pub limits : Limits
  pub pieces : InPieces layouts None (fresh_limits (Some most)) (begin (start first usual_roots usual_roots) no_account) (lines front) (lines rest) output after limits
  pub table_is : t ≡ after.table
