-- Where the heap has its memory, and what it knows of it while that is out.
use Rattle.gc_heap.specs.declared.backing.Backing as place
use Rattle.gc_copying.specs.declared.growth.Marks.{Marks}
use Rattle.gc_copying.specs.declared.space.Space.{Space}

abbrev pub CopyingBacking : Type 0
CopyingBacking = place.Backing Space Marks

abbrev pub copying_marks_of : Space → Marks
copying_marks_of s = record { upper = s.upper; bump = s.bump; externals = s.externals; objects = s.objects }
