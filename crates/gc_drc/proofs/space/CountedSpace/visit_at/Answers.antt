use Rattle.std.proofs.Common.{ℕ, ◌≡◌, ◌∷◌, ◌+◌, sym, subst, ◌∙◌, arith}
use Rattle.gc_memory.specs.Words.{word}
use Rattle.gc_drc.specs.CollectMemory.{words_at}
use Rattle.gc_drc.proofs.VisitLemmas.{word_read}
use Rattle.gc_drc.proofs.space.CountedSpace.visit_at.Goals as goal

pub overflow_add-place : goal.overflow_add-place
overflow_add-place g c =
    let can = c.requires.can in
    let law = g.met.V.Visitor.intact can.context can.places _ c.args.self.now c.args.visitor.now can.is in
    omega (arith, (word_read can.context c.args.self.now.memory c.args.place c.args.offset c.requires.rest law.0 law.1 can.object).fits)

pub read_u32-word-requires : goal.read_u32-word-requires
read_u32-word-requires g c =
    let can = c.requires.can in
    let law = g.met.V.Visitor.intact can.context can.places _ c.args.self.now c.args.visitor.now can.is in
    (word_read can.context c.args.self.now.memory c.args.place c.args.offset c.requires.rest law.0 law.1 can.object).room

pub visit-requires : goal.visit-requires
visit-requires g c =
    let can = c.requires.can in
    let law = g.met.V.Visitor.intact can.context can.places _ c.args.self.now c.args.visitor.now can.is in
    let e : word can.context.memory (c.args.place + c.args.offset) ≡ c.read_u32-word.result =
    sym (word_read can.context c.args.self.now.memory c.args.place c.args.offset c.requires.rest law.0 law.1 can.object).is ∙ sym c.read_u32-word.ensures in (
      can.context,
      (
        can.places,
        (
          words_at can.context.memory c.args.place c.requires.rest,
          subst (λ (w : ℕ). g.V.Visitor.state can.context can.places c.args.self.now c.args.visitor.now (w ∷ words_at can.context.memory c.args.place c.requires.rest)) e can.is,
        ),
      ),
    )

pub returns : goal.returns
returns g c rest o places object state =
    let law = g.met.V.Visitor.intact o places _ c.args.self.now c.args.visitor.now state in
    let e : word o.memory (c.args.place + c.args.offset) ≡ c.read_u32-word.result =
    sym (word_read o c.args.self.now.memory c.args.place c.args.offset rest law.0 law.1 object).is ∙ sym c.read_u32-word.ensures in
    c.visit.ensures o places (words_at o.memory c.args.place rest)
    (subst (λ (w : ℕ). g.V.Visitor.state o places c.args.self.now c.args.visitor.now (w ∷ words_at o.memory c.args.place rest)) e state)
