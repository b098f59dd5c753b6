use Rattle.std.proofs.Common.{ℕ, ◌≡◌, ◌+◌, sym, ◌∙◌, subst}
use Rattle.gc_types.specs.declared.kind.VMGcKind.TheVariants.{ExternRef}
use Rattle.gc_memory.proofs.WordLemmas.{word-is}
use Rattle.gc_drc.specs.Layout.{counting_kind_at}
use Rattle.gc_heap.specs.FreedHosts.{FreesHost}
use Rattle.gc_drc.specs.CollectHosts.{counting_host_word}
use Rattle.gc_drc.proofs.space.CountedSpace.free_host_of.Goals as goal

pub returns-then-is_external-clause-frees : goal.returns-then-is_external-clause-frees
returns-then-is_external-clause-frees g c =
    let kind : counting_kind_at c.args.self.now.memory c.args.place ≡ ExternRef = sym c.kind.ensures ∙ c.is_external.ensures.0 c.if-is_external.true in
    let raw : c.read_u32-raw.result ≡ counting_host_word c.args.self.now.memory c.args.place = c.read_u32-raw.ensures ∙ sym (word-is c.args.self.now.memory (c.args.place + 28)) in
    record {
      external = λ _. subst (λ (w : ℕ). FreesHost _ c.args.hosts.now.entries c.free_host.new.hosts.entries w) raw c.free_host.ensures.frees;
      other = λ isnt. absurd (isnt kind);
    }
