use Rattle.std.proofs.Common.{◌≡◌, Some, None}
use Rattle.gc_refs.specs.Header.{Header}
use Rattle.gc_heap.proofs.ref_kinds.VMGcRefRefKinds.is_typed.Goals as goal

not_none : (header : Header) → Some header ≡ None → ⊥
not_none header e = absurd (cc)

-- src/ref_kinds.rt:288:5
pub returns-in-Some : goal.returns-in-Some
returns-in-Some g c = record {
  number = λ odd. absurd (not_none c.in-Some.header (c.in-Some.ensures.number odd));
  object = λ o e. (c.in-Some.header, (c.in-Some.ensures.held o e, c.is.ensures));
}
