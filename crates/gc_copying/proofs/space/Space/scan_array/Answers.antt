use Rattle.std.proofs.Common.{◌≡◌, ◌+◌, ℕ, sym, ap, ◌∙◌, arith}
use Rattle.gc_memory.specs.Words.{word}
use Rattle.gc_memory.proofs.WordLemmas.{word-is}
use Rattle.gc_heap.specs.References.{word_offsets}
use Rattle.gc_copying.specs.CopyWords.{element_places}
use Rattle.gc_copying.proofs.FormLemmas.{header_inside, can_as, scans_as, ticks_as, scans_none}
use Rattle.gc_copying.proofs.space.Space.scan_array.Goals as goal

pub read_u32-count-requires : goal.read_u32-count-requires
read_u32-count-requires g c = omega (arith, header_inside c.args.self.now c.args.copy (element_places c.args.elements (word c.args.self.now.memory (c.args.copy + 12))) c.requires)

pub scan_elements-requires : goal.scan_elements-requires
scan_elements-requires g c =
    let e : element_places c.args.elements (word c.args.self.now.memory (c.args.copy + 12)) ≡ word_offsets 16 c.read_u32-count.result =
    ap (λ b. element_places b (word c.args.self.now.memory (c.args.copy + 12))) c.if-elements.true
    ∙ ap (λ (n : ℕ). word_offsets 16 n) (word-is c.args.self.now.memory (c.args.copy + 12) ∙ sym c.read_u32-count.ensures) in
    can_as c.args.self.now c.args.copy _ _ e c.requires

pub returns-then-elements-clause-scanned : goal.returns-then-elements-clause-scanned
returns-then-elements-clause-scanned g c =
    let e : element_places c.args.elements (word c.args.self.now.memory (c.args.copy + 12)) ≡ word_offsets 16 c.read_u32-count.result =
    ap (λ b. element_places b (word c.args.self.now.memory (c.args.copy + 12))) c.if-elements.true
    ∙ ap (λ (n : ℕ). word_offsets 16 n) (word-is c.args.self.now.memory (c.args.copy + 12) ∙ sym c.read_u32-count.ensures) in
    scans_as c.args.self.now c.scan_elements.new.self c.args.copy _ _ e c.scan_elements.ensures.scanned

pub returns-then-elements-clause-ticks : goal.returns-then-elements-clause-ticks
returns-then-elements-clause-ticks g c =
    let e : element_places c.args.elements (word c.args.self.now.memory (c.args.copy + 12)) ≡ word_offsets 16 c.read_u32-count.result =
    ap (λ b. element_places b (word c.args.self.now.memory (c.args.copy + 12))) c.if-elements.true
    ∙ ap (λ (n : ℕ). word_offsets 16 n) (word-is c.args.self.now.memory (c.args.copy + 12) ∙ sym c.read_u32-count.ensures) in
    ticks_as _ _ _ _ e c.scan_elements.ensures.ticks

pub returns-else-elements-clause-scanned : goal.returns-else-elements-clause-scanned
returns-else-elements-clause-scanned g c =
    let e = ap (λ b. element_places b (word c.args.self.now.memory (c.args.copy + 12))) c.if-elements.false in
    scans_as c.args.self.now c.args.self.now c.args.copy _ _ e (scans_none c.args.self.now c.args.copy)
