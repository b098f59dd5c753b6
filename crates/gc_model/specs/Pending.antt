-- The pending exception is a root: one becomes pending, and it is taken.
use Rattle.std.specs.Prelude.{Option, Some, None}
use Rattle.gc_model.specs.Values.{Reference}
use Rattle.gc_model.specs.Table.{Table}

-- that reference is the pending exception, or none is
abbrev pub with_pending : {D : Type 0} → Option Reference → Table D → Table D
with_pending pending t = record t { pending = pending }

-- an exception becomes pending; another one that was is so no longer
abbrev pub set_pending : {D : Type 0} → Reference → Table D → Table D
set_pending r t = with_pending (Some r) t

-- none is pending any more
abbrev pub take_pending : {D : Type 0} → Table D → Table D
take_pending t = with_pending None t
