-- What several reads and writes do together.
use Rattle.std.proofs.Common.{◌≡◌, ℕ, ◌+◌, ◌<◌, List, [], ◌++◌, length, take, drop, Option, None, Some, refl, sym, ap, subst, ◌∙◌, arith, append_assoc, append-nil, length-append, take-append-drop}
use Rattle.std.proofs.Math.Seq.{take-append_seam}
use Rattle.std.specs.Io.KnownBytes.{Appends, Keeps}
use Rattle.std.proofs.KnownBytes.{Appends-kept, Appends-nil, Appends-trans, Consumes-nil, Consumes-trans}
use Rattle.gcsh_top.specs.Counts.{saturated_sum}
use Rattle.gcsh_top.specs.Ends.{Gave, SourceRun, SourceTold, TookPart}

-- a sink took a front of the bytes, and the rest of them is left
pub record Progress (held held' : Option (List ℕ)) (bytes rest : List ℕ) : Type 0 where
  pub front : List ℕ
  pub whole : bytes ≡ front ++ rest
  pub taken : Appends held held' front

pub progress_start : (held : Option (List ℕ)) (bytes : List ℕ) → Progress held held bytes bytes
progress_start held bytes = record { front = []; whole = refl; taken = Appends-nil held }

pub progress_more : (a b c : Option (List ℕ)) (bytes rest : List ℕ) (n : ℕ) → Progress a b bytes rest → Appends b c (take n rest) → Progress a c bytes (drop n rest)
progress_more a b c bytes rest n p took = record {
  front = p.front ++ take n rest;
  whole = p.whole ∙ ap (λ r. p.front ++ r) (sym (take-append-drop n rest)) ∙ sym (append_assoc p.front (take n rest) (drop n rest));
  taken = Appends-trans a b c p.front (take n rest) p.taken took;
}

-- nothing more was taken, and some bytes are left
pub progress_part : (a b c : Option (List ℕ)) (bytes rest : List ℕ) → Progress a b bytes rest → 0 < length rest → Keeps b c → TookPart a c bytes
progress_part a b c bytes rest p some kept =
    let long : length bytes ≡ length p.front + length rest = ap length p.whole ∙ length-append p.front rest in
    let front : take (length p.front) bytes ≡ p.front = ap (take (length p.front)) p.whole ∙ take-append_seam p.front rest in
    (length p.front, omega arith, subst (Appends a c) (sym front) (Appends-kept a b c p.front p.taken kept))

keeps_nothing : (b c : Option (List ℕ)) → Appends b c [] → Keeps b c
keeps_nothing None c took = tt
keeps_nothing (Some xs) None took = took
keeps_nothing (Some xs) (Some ys) took = took ∙ append-nil xs

-- the same where a write took no byte
pub progress_stuck : (a b c : Option (List ℕ)) (bytes rest : List ℕ) (n : ℕ) → Progress a b bytes rest → 0 < length rest → n ≡ 0 → Appends b c (take n rest) → TookPart a c bytes
progress_stuck a b c bytes rest n p some none took = progress_part a b c bytes rest p some (keeps_nothing b c (subst (λ k. Appends b c (take k rest)) none took))

-- nothing is left
pub progress_done : (a b : Option (List ℕ)) (bytes rest : List ℕ) → Progress a b bytes rest → rest ≡ [] → Appends a b bytes
progress_done a b bytes rest p done = subst (Appends a b) (sym (p.whole ∙ ap (λ r. p.front ++ r) done ∙ append-nil p.front)) p.taken

-- from what a source told to what it tells
abbrev pub told : SourceTold → SourceTold → SourceRun
told a b = record { before = a; after = b }

raised_none : (a : ℕ) → a ≡ saturated_sum a 0
raised_none a = omega arith

raised_twice : (a b c m n : ℕ) → b ≡ saturated_sum a m → c ≡ saturated_sum b n → c ≡ saturated_sum a (m + n)
raised_twice a b c m n first second = omega arith

pub gave_none : (a : SourceTold) → Gave (told a a) []
gave_none a = record { taken = Consumes-nil a.left; counted = raised_none a.given }

-- what was given by two reads, one behind the other
pub gave_on : (a b c : SourceTold) (bytes more : List ℕ) → Gave (told a b) bytes → Gave (told b c) more → Gave (told a c) (bytes ++ more)
gave_on a b c bytes more one two = record {
  taken = Consumes-trans a.left b.left c.left bytes more one.taken two.taken;
  counted = raised_twice a.given b.given c.given (length bytes) (length more) one.counted two.counted ∙ ap (saturated_sum a.given) (sym (length-append bytes more));
}

-- nothing more was given
pub gave_no_more : (a b c : SourceTold) (bytes more : List ℕ) → Gave (told a b) bytes → Gave (told b c) more → more ≡ [] → Gave (told a c) bytes
gave_no_more a b c bytes more one two none = subst (Gave (told a c)) (ap (λ l. bytes ++ l) none ∙ append-nil bytes) (gave_on a b c bytes more one two)
