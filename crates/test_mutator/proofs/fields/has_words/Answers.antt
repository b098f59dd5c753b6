use Rattle.std.proofs.Common.{◌≡◌, ◌+◌, ◌≤◌, arith}
use Rattle.std.proofs.lemmas.Bool.Decides.{nat_tests}
use Rattle.gc_heap.specs.Objects.{HasFields, writable_offset, held_size}
use Rattle.test_mutator.proofs.fields.has_words.Goals as goal

pub returns-clause-held : goal.returns-clause-held
returns-clause-held g c = λ o held.
    let first : HasFields o.kind × (writable_offset g.H.GcHeap.KIND o.kind ≡ c.in-Some.first) = c.in-Some.ensures.held o held in
    let size : c.in-Ok.size ≡ held_size g.H.GcHeap.KIND o = c.in-Ok.ensures.held o held in
    let writable = first.1 in (
      λ is.
          let to : c.args.offset + 4 ≤ c.in-Ok.size = grind (arith, nat_tests, is) in
          record { fields = first.0; from = omega (arith, c.if-offset-first.false); to = omega arith },
      λ word.
          let lies : c.args.offset + 4 ≤ held_size g.H.GcHeap.KIND o = word.to in
          let to : c.args.offset + 4 ≤ c.in-Ok.size = omega arith in
          grind (arith, nat_tests, to),
    )
