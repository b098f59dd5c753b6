-- A new object in the list of external objects.
use Rattle.std.specs.Prelude.{ℕ, ◌+◌}
use Rattle.gc_view.specs.Bytes.{put_u32}
use Rattle.gc_heap.specs.declared.new_object.FirstWord.{FirstWord}
use Rattle.gc_heap.specs.declared.new_object.FirstWord.TheVariants as first
use Rattle.gc_copying.specs.declared.space.Space.{Space}

-- where the link of an external object ends, counted from its first byte
abbrev pub link_end : FirstWord → ℕ
link_end first.Zero = 0
link_end (first.Length count) = 0
link_end (first.Host id) = 24

-- the space in which a new object is in front of the list where it is external
abbrev pub with_link : Space → ℕ → FirstWord → Space
with_link s place first.Zero = s
with_link s place (first.Length count) = s
with_link s place (first.Host id) = record s { memory = put_u32 s.memory (place + 20) s.externals; externals = place }
