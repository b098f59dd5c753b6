-- A space whose memory was out.
use Rattle.std.specs.Prelude.{ℕ, List}
use Rattle.gc_drc.specs.declared.space.CountedSpace.{CountedSpace}
use Rattle.gc_drc.specs.declared.growth.Marks.{Marks}

-- what a heap keeps while its memory is out, with a memory of these bytes
abbrev pub with_bytes : Marks → List ℕ → CountedSpace
with_bytes m bytes = record { memory = bytes; free = m.free; shown = m.shown; queued = m.queued; objects = m.objects; allocated = m.allocated }
