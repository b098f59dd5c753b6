use Rattle.gc_objects.proofs.Widening.{struct_is_any, array_is_any, struct_is_eq, array_is_eq}
use Rattle.gc_objects.proofs.upcast.narrow_handles_are_wide.Goals as goal

pub returns-clause-any : goal.returns-clause-any
returns-clause-any g c = struct_is_any g.row.D.Denot

pub returns-clause-any_array : goal.returns-clause-any_array
returns-clause-any_array g c = array_is_any g.row.D.Denot

pub returns-clause-eq : goal.returns-clause-eq
returns-clause-eq g c = struct_is_eq g.row.D.Denot

pub returns-clause-eq_array : goal.returns-clause-eq_array
returns-clause-eq_array g c = array_is_eq g.row.D.Denot
