-- Views of an object's bytes. A view has an offset for its first byte.
use Rattle.std.specs.Prelude.{◌≡◌, ℕ, ◌+◌, ◌-◌, ◌≤◌, List, ◌++◌, take, drop, length, Result, MatchResult}
use Rattle.std.specs.Borrow.{Bor, MutBor}
use Rattle.gc_refs.specs.declared.fault.DataFault.{DataFault}

-- the n bytes at an offset lie inside the bytes that begin at the offset `first`
abbrev pub IsInside : ℕ → List ℕ → ℕ → ℕ → Type 0
IsInside first bytes offset n = (first ≤ offset) × (offset + n ≤ first + length bytes)

-- the n bytes from a place on
abbrev pub part_of : List ℕ → ℕ → ℕ → List ℕ
part_of bytes place n = take n (drop place bytes)

-- the bytes with others in place of those from a place on
abbrev pub with_part : List ℕ → ℕ → List ℕ → List ℕ
with_part bytes place part = take place bytes ++ (part ++ drop (place + length part) bytes)

-- a read gives the number that the n bytes at the offset are, and refuses exactly where they aren't inside
abbrev pub ReadsNumber : {A : Type 0} → ℕ → (List ℕ → A) → ℕ → List ℕ → ℕ → Result A DataFault → Type 0
ReadsNumber n number first bytes offset result =
    MatchResult result
    (λ value. IsInside first bytes offset n × (value ≡ number (part_of bytes (offset - first) n)))
    (λ _. ¬ (IsInside first bytes offset n))

-- a view of a range has exactly its bytes, and is refused exactly where it isn't inside
abbrev pub LendsPart : ℕ → List ℕ → ℕ → ℕ → Result (Bor (List ℕ)) DataFault → Type 0
LendsPart first bytes offset n result =
    MatchResult result
    (λ lent. IsInside first bytes offset n × (lent.now ≡ part_of bytes (offset - first) n))
    (λ _. ¬ (IsInside first bytes offset n))

-- the same of a part that is lent for writing
abbrev pub LendsPartMut : ℕ → List ℕ → ℕ → ℕ → Result (MutBor (List ℕ)) DataFault → Type 0
LendsPartMut first bytes offset n result =
    MatchResult result
    (λ lent. IsInside first bytes offset n × (lent.now ≡ part_of bytes (offset - first) n))
    (λ _. ¬ (IsInside first bytes offset n))

-- a write puts the part at the offset and changes no other byte, and refuses exactly where it isn't inside
abbrev pub WritesPart : {A : Type 0} → List ℕ → ℕ → List ℕ → List ℕ → ℕ → Result A DataFault → Type 0
WritesPart part first before after offset result =
    MatchResult result
    (λ _. IsInside first before offset (length part) × (after ≡ with_part before (offset - first) part))
    (λ _. ¬ (IsInside first before offset (length part)) × (after ≡ before))

-- the range isn't reversed, and it and its copy lie inside
abbrev pub IsCopyInside : ℕ → ℕ → ℕ → List ℕ → ℕ → Type 0
IsCopyInside start end first bytes dest =
    (start ≤ end) × IsInside first bytes start (end - start) × IsInside first bytes dest (end - start)

-- a copy puts the bytes that stood from start to end at the destination
abbrev pub Copies : {A : Type 0} → ℕ → ℕ → ℕ → List ℕ → List ℕ → ℕ → Result A DataFault → Type 0
Copies start end first before after dest result =
    MatchResult result
    (λ _. IsCopyInside start end first before dest × (after ≡ with_part before (dest - first) (part_of before (start - first) (end - start))))
    (λ _. ¬ (IsCopyInside start end first before dest) × (after ≡ before))
