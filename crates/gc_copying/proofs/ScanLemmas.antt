-- The references of a copy are moved one by one.
use Rattle.std.proofs.Common.{◌≡◌, ℕ, ◌+◌, ◌<◌, ◌≤◌, ◌^◌, List, [], ◌∷◌, length, refl, sym, subst, ◌∙◌, inl, inr, arith}
use Rattle.std.proofs.Math.Logic.{◌⊎◌}
use Rattle.gc_view.specs.Bytes.{u32_at, put_u32}
use Rattle.gc_memory.specs.Words.{word}
use Rattle.gc_memory.specs.Changes.{Wrote}
use Rattle.gc_memory.specs.Lists.{In, here, there}
use Rattle.gc_memory.proofs.WordLemmas.{word-is}
use Rattle.gc_copying.specs.declared.space.Space.{Space}
use Rattle.gc_copying.specs.Spaces.{half_first, half_end}
use Rattle.gc_copying.specs.CopyWords.{IsCopyingPlace}
use Rattle.gc_heap.specs.References.{Spaced}
use Rattle.gc_view.specs.Reach.{by_step}
use Rattle.gc_copying.specs.CopyStart.{From, IsCopyingWord, refs}
use Rattle.gc_copying.specs.CopyMiddle.{IsCopiedTo, Moves}
use Rattle.gc_copying.specs.CopySteps.{Midway, Known, SameSides, Forwards, Scanning, CanScanCopy, CanScanAt, Scans, ScansAll}
use Rattle.gc_copying.proofs.MoreBytes.{wrote_word, word_written}
use Rattle.gc_copying.proofs.MidLemmas.{new_lies}
use Rattle.gc_heap.proofs.SpacedLemmas.{Spaced-in}
use Rattle.gc_copying.proofs.CopyKeeps.{copy_range}
use Rattle.gc_copying.proofs.ScanKeeps.{mid_written, write_later, mid_advanced}
use Rattle.gc_copying.proofs.ForwardLemmas.{midway}
use Rattle.gc_copying.specs.Layout.{copying_size_at}

-- a place word of a field or a root is one of the places
pub place_of_word : (s : From) (w : ℕ) → IsCopyingWord s w → IsCopyingPlace w → In w s.places
place_of_word s w (inl e) place = absurd (let h = place.not_null in omega arith)
place_of_word s w (inr (inl e)) place = absurd (let h = place.even in omega arith)
place_of_word s w (inr (inr i)) place = i

-- where the next reference lies
pub field_inside : (s : From) (p q u o : ℕ) (left : List ℕ) (h : Space) → Scanning s p q u (o ∷ left) h
    → (q + o + 4 ≤ h.bump) × (h.bump ≤ length h.memory) × (length h.memory < 2 ^ 32) × (q + o + 4 ≤ length h.memory)
field_inside s p q u o left h scan =
    let at = new_lies scan.mid q (scan.mid.copied p q scan.leads).inside in
    let size = copy_range scan.mid p q scan.leads in
    let first : q + o + 4 ≤ h.bump = omega (arith, at.to, scan.spaced.1) in
    let second : h.bump ≤ length h.memory = omega (arith, scan.mid.room, scan.mid.inside) in
    (first, second, omega (arith, scan.mid.same_length, scan.mid.start.small), omega (arith, first, second))

-- what stands there is what stood in the old object
pub field_as_old : (s : From) (p q u o : ℕ) (left : List ℕ) (h : Space) → Scanning s p q u (o ∷ left) h → word h.memory (q + o) ≡ word s.memory (p + o)
field_as_old s p q u o left h scan = (scan.mid.copied p q scan.leads).copy.to_do o (scan.part o here) (omega (arith, scan.spaced.0))

-- so it is known
pub known_field : (s : From) (p q u o : ℕ) (left : List ℕ) (h : Space) (w : ℕ) → Scanning s p q u (o ∷ left) h → w ≡ u32_at h.memory (q + o) → Known s w
known_field s p q u o left h w scan read place =
    let is : w ≡ word s.memory (p + o) = read ∙ sym (word-is h.memory (q + o)) ∙ field_as_old s p q u o left h scan in
    let word_is : IsCopyingWord s w = subst (λ (x : ℕ). IsCopyingWord s x) (sym is) (scan.mid.start.fields p o scan.leads.place (scan.part o here)) in
    let i = place_of_word s w word_is place in
    (i, by_step (scan.mid.copied p q scan.leads).reached (i, (o, (scan.part o here, sym is))))

-- the other references are moved, or lie behind
done_before : (u hi o : ℕ) (left : List ℕ) (o1 : ℕ) → Spaced u hi (o ∷ left) → (o1 + 4 ≤ u) ⊎ In o1 (o ∷ left) → (o1 + 4 ≤ u) ⊎ (o ≤ o1)
done_before u hi o left o1 spaced (inl h) = inl h
done_before u hi _ left o1 spaced (inr here) = inr (omega arith)
done_before u hi o left o1 spaced (inr (there i)) = inr (let r = Spaced-in (o + 4) hi left o1 spaced.2 i in omega (arith, r.0))

done_after : (u o : ℕ) (left : List ℕ) (o1 : ℕ) → u ≤ o → (o1 + 4 ≤ u) ⊎ In o1 (o ∷ left) → (o1 + 4 ≤ o + 4) ⊎ In o1 left
done_after u o left o1 le (inl h) = inl (omega arith)
done_after u _ left o1 le (inr here) = inl (omega arith)
done_after u o left o1 le (inr (there i)) = inr i

-- one reference is moved: what the word leads to is known, and the word is written
pub scans_field : (s : From) (p q u o : ℕ) (left : List ℕ) (h h1 h2 : Space) (w w' : ℕ)
    → ((s1 : From) (t : ℕ) → Midway s1 t h → Known s1 w → Forwards s1 t h h1 w w') → w ≡ u32_at h.memory (q + o) → w' < 2 ^ 32
    → h2.memory ≡ put_u32 h1.memory (q + o) w' → h2.upper ≡ h1.upper → h2.bump ≡ h1.bump → h2.objects ≡ h1.objects
    → Scanning s p q u (o ∷ left) h → Scans s p q (o + 4) left h h2
scans_field s p q u o left h h1 h2 w w' forwards read small wrote upper bump objects scan =
    let f = forwards s (q + u) scan.mid (known_field s p q u o left h w scan read) in
    let leads : IsCopiedTo s h1.memory p q = f.later p q scan.leads in
    let inside = field_inside s p q u o left h scan in
    let len : length h1.memory ≡ length h.memory = f.mid.same_length ∙ sym scan.mid.same_length in
    let room : q + o + 4 ≤ length h1.memory = omega (arith, inside.3) in
    let is : w ≡ word s.memory (p + o) = read ∙ sym (word-is h.memory (q + o)) ∙ field_as_old s p q u o left h scan in
    let moves : Moves s h1.memory (word s.memory (p + o)) w' = subst (λ (x : ℕ). Moves s h1.memory x w') is f.moves in
    let changed : Wrote h1.memory h2.memory (q + o) 4 = wrote_word h1.memory h2.memory (q + o) w' room wrote in
    let now : word h2.memory (q + o) ≡ w' = word_written h1.memory h2.memory (q + o) w' room small wrote in
    let base = half_first (length h1.memory) h1.upper in
    let limit = half_end (length h1.memory) h1.upper in
    let i = scan.part o here in
    let le : u ≤ o = scan.spaced.0 in
    let done = λ (o1 : ℕ) (j : In o1 (refs s p)). done_before u (copying_size_at s.memory p) o left o1 scan.spaced (scan.done o1 j) in
    let later = write_later s h1.memory h2.memory base h1.bump limit h1.objects p q u o w' f.mid leads i le done changed now moves in
    record {
      scanning = record {
        mid = midway s (q + (o + 4)) h1 h2 h1.bump h1.objects
            (mid_written s h1.memory h2.memory base h1.bump limit h1.objects p q u o w' f.mid leads i le done changed now moves)
            changed.same_length upper bump objects;
        leads = later p q leads;
        to = scan.spaced.1;
        spaced = scan.spaced.2;
        part = λ o1 j. scan.part o1 (there j);
        done = λ o1 j. done_after u o left o1 le (scan.done o1 j);
      };
      later = λ p1 q1 l. later p1 q1 (f.later p1 q1 l);
    }

-- The references at `left` are still to be moved, of those at `all`.
pub record Going (old now : Space) (q : ℕ) (all left : List ℕ) (counted count : ℕ) : Type 0 where
  pub scans : (s : From) (p u : ℕ) → Scanning s p q u all old → (u' : ℕ) × Scans s p q u' left old now
  pub sides : SameSides old now
  pub ticks : count + old.objects + length left ≡ counted + now.objects + length all
  pub rises : counted ≤ count

pub going_start : (h : Space) (q : ℕ) (all : List ℕ) (count : ℕ) → Going h h q all all count count
going_start h q all count = record {
  scans = λ s p u scan. (u, record { scanning = scan; later = λ p1 q1 l. l });
  sides = record { upper = refl; externals = refl };
  ticks = refl;
  rises = omega arith;
}

-- the next reference may be scanned
pub going_can : (old now : Space) (q : ℕ) (all left : List ℕ) (o counted count : ℕ) → Going old now q all (o ∷ left) counted count → CanScanCopy old q all → CanScanAt now q o
going_can old now q all left o counted count going can =
    let r = going.scans can.start can.place can.from can.scanning in
    record { start = can.start; place = can.place; from = r.0; left = left; scanning = r.1.scanning }

-- it was scanned
pub going_step : (old now next : Space) (q : ℕ) (all left : List ℕ) (o counted count count' : ℕ) → Going old now q all (o ∷ left) counted count
    → ((s : From) (p u : ℕ) (rest : List ℕ) → Scanning s p q u (o ∷ rest) now → Scans s p q (o + 4) rest now next)
    → SameSides now next → count' + now.objects ≡ count + next.objects + 1 → count ≤ count' → Going old next q all left counted count'
going_step old now next q all left o counted count count' going scans sides ticks rises = record {
  scans = λ s p u scan.
      let r = going.scans s p u scan in
      let n = scans s p r.0 left r.1.scanning in
      (o + 4, record { scanning = n.scanning; later = λ p1 q1 l. n.later p1 q1 (r.1.later p1 q1 l) });
  sides = record { upper = sides.upper ∙ going.sides.upper; externals = sides.externals ∙ going.sides.externals };
  ticks = omega (arith, going.ticks);
  rises = omega (arith, going.rises);
}

none_in : (x : ℕ) → In x [] → ⊥
none_in x i = elim i [ ]

-- nothing is left of the copy
pub scanned_all : (s : From) (p q u : ℕ) (h : Space) → Scanning s p q u [] h → Midway s (q + copying_size_at s.memory p) h
scanned_all s p q u h scan =
    mid_advanced s h.memory _ h.bump _ h.objects p q u (copying_size_at s.memory p) scan.mid scan.leads scan.to (omega arith)
    (λ o i. elim (scan.done o i) [ inl l ↦ inl l | inr j ↦ absurd (none_in o j) ])

-- all references were moved
pub going_end : (old now : Space) (q : ℕ) (all : List ℕ) (counted count : ℕ) → Going old now q all [] counted count
    → (s : From) (p u : ℕ) → Scanning s p q u all old → ScansAll s p q old now
going_end old now q all counted count going s p u scan =
    let r = going.scans s p u scan in
    record { mid = scanned_all s p q r.0 now r.1.scanning; later = r.1.later }

-- the list of what is left, in another form
pub going_as : (old now : Space) (q : ℕ) (all left left' : List ℕ) (counted count : ℕ) → left ≡ left' → Going old now q all left counted count → Going old now q all left' counted count
going_as old now q all left left' counted count e going = subst (λ l. Going old now q all l counted count) e going
