use Rattle.std.specs.Prelude.{◌%◌}
use Rattle.gc_refs.specs.Header.{spare_bits}
use Rattle.gc_heap.specs.Objects.{zeroed}
use Rattle.gc_raw_store.proofs.StoreLemmas.{fields_other, stored_made}
use Rattle.gc_raw_store.proofs.store.GcStore.alloc_raw.Goals as goal

pub invariant_of-self : goal.invariant_of-self
invariant_of-self g c = stored_made {D = g.row.D.Denot} g.H.GcHeap.KIND (g.H.GcHeap.seen c.self.inside.heap) (g.H.GcHeap.seen c.alloc_raw.new.self) c.self.inside.hosts.entries c.self.invariant c.alloc_raw.ensures.sound
    (zeroed g.H.GcHeap.KIND c.requires.fits.kind c.args.header.type_word (c.args.header.kind_word % spare_bits) c.args.size) c.args.size c.alloc_raw.result (fields_other c.requires.fits.kind c.requires.fits.has_fields) (c.alloc_raw.ensures.allocated c.requires.fits.kind c.requires.fits.is_kind)
