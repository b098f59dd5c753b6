use Rattle.gc_laws.proofs.PieceLaws.{in_pieces, input_in_pieces}
use Rattle.gc_laws.proofs.laws.session_in_pieces.Goals as goal

pub returns-clause-lines : goal.returns-clause-lines
returns-clause-lines g = in_pieces

pub returns-clause-input : goal.returns-clause-input
returns-clause-input g = input_in_pieces
