use Rattle.std.proofs.Common.{ℕ, ◌≡◌, ◌+◌, refl, sym, ap, subst, ◌∙◌, arith}
use Rattle.gc_view.specs.Bytes.{put_u32}
use Rattle.gc_memory.proofs.WordLemmas.{word-is}
use Rattle.gc_copying.specs.CopyWords.{forwarding, copying_host_word}
use Rattle.gc_heap.specs.FreedHosts.{FreesHost}
use Rattle.gc_copying.proofs.MidLemmas.{no_both}
use Rattle.gc_copying.proofs.ForwardLemmas.{flag_read}
use Rattle.gc_copying.proofs.space.Space.sweep_one.Goals as goal

pub write_u32-requires : goal.write_u32-requires
write_u32-requires g c =
    let one = flag_read c.args.self.now.memory c.args.place c.read_u32.result c.read_u32.ensures ∙ c.if-read_u32-eq1.true in
    let to : forwarding c.args.self.now.memory c.args.place ≡ c.read_u32-copy.result = word-is c.args.self.now.memory (c.args.place + 12) ∙ sym c.read_u32-copy.ensures in
    omega (arith, c.requires.copy one, to)

pub returns-then-read_u32-eq1-clause-listed : goal.returns-then-read_u32-eq1-clause-listed
returns-then-read_u32-eq1-clause-listed g c _ =
    let to : forwarding c.args.self.now.memory c.args.place ≡ c.read_u32-copy.result = word-is c.args.self.now.memory (c.args.place + 12) ∙ sym c.read_u32-copy.ensures in (
      record {
        memory = c.write_u32.ensures.bytes ∙ ap (λ (q : ℕ). put_u32 c.args.self.now.memory (q + 20) c.args.self.now.externals) (sym to);
        head = sym to;
      },
      refl,
    )

pub returns-then-read_u32-eq1-clause-freed : goal.returns-then-read_u32-eq1-clause-freed
returns-then-read_u32-eq1-clause-freed g c clear =
    let one = flag_read c.args.self.now.memory c.args.place c.read_u32.result c.read_u32.ensures ∙ c.if-read_u32-eq1.true in
    absurd (no_both clear one)

pub returns-else-read_u32-eq1-clause-listed : goal.returns-else-read_u32-eq1-clause-listed
returns-else-read_u32-eq1-clause-listed g c one =
    absurd (c.if-read_u32-eq1.false (sym (flag_read c.args.self.now.memory c.args.place c.read_u32.result c.read_u32.ensures) ∙ one))

pub returns-else-read_u32-eq1-clause-freed : goal.returns-else-read_u32-eq1-clause-freed
returns-else-read_u32-eq1-clause-freed g c _ =
    let at : c.read_u32-else-read_u32-eq1.result ≡ copying_host_word c.args.self.now.memory c.args.place =
    c.read_u32-else-read_u32-eq1.ensures ∙ sym (word-is c.args.self.now.memory (c.args.place + 16)) in
    (subst (λ (w : ℕ). FreesHost _ c.args.hosts.now.entries c.free_host.new.hosts.entries w) at c.free_host.ensures.frees, (refl, refl))
