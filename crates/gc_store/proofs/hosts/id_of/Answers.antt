use Rattle.std.proofs.Common.{◌≡◌, ℕ, ◌+◌, Option, sym, subst}
use Rattle.std.specs.Prelude.{IsSomeAnd}
use Rattle.gc_view.specs.Bytes.{u32_at}
use Rattle.gc_store.proofs.HostReads.{tells_id, ok_told}
use Rattle.gc_store.proofs.hosts.id_of.Goals as goal

pub returns-in-Some : goal.returns-in-Some
returns-in-Some g c =
    tells_id (g.H.GcHeap.seen c.args.heap.now) c.args.gc_ref.now c.in-Some.external c.ok.result c.in-Some.ensures.0 c.in-Some.ensures.1
    (λ o got external.
    subst (λ (x : Option ℕ). IsSomeAnd x (λ id. id + 1 ≡ u32_at o.bytes 0)) (sym c.ok.ensures.value) (ok_told c.externref_host_data.result (u32_at o.bytes 0) (c.externref_host_data.ensures.held o got external)))
