-- Where the heap has its memory, and what it knows of it while that is out.
use Rattle.gc_heap.specs.declared.backing.Backing as place
use Rattle.gc_drc.specs.declared.growth.Marks.{Marks}
use Rattle.gc_drc.specs.declared.space.CountedSpace.{CountedSpace}

abbrev pub CountingBacking : Type 0
CountingBacking = place.Backing CountedSpace Marks

abbrev pub counting_marks_of : CountedSpace → Marks
counting_marks_of s = record { free = s.free; shown = s.shown; queued = s.queued; objects = s.objects; allocated = s.allocated }
