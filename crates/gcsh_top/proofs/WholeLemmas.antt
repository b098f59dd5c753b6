-- An input that is read to its end into memory.
use Rattle.std.proofs.Common.{◌≡◌, ℕ, ◌+◌, ◌≤◌, List, [], ◌∷◌, ◌++◌, length, length-append, refl, sym, ap, subst, ◌∙◌, arith}
use Rattle.gcsh_top.specs.declared.read.ReadFault.{ReadFault as read_fault}
use Rattle.gcsh_top.specs.declared.read.ReadFault.TheVariants as fault
use Rattle.gcsh_top.specs.declared.status.Status.TheVariants.{ReadFault, TooLong, NoMemory}
use Rattle.gcsh_top.specs.Ends.{Gave, SourceRun, SourceTold}
use Rattle.gcsh_top.specs.Input.{GavePiece, ReadWhole, Unread, UnreadInput, max_input}
use Rattle.gcsh_top.proofs.EndLemmas.{gave_no_more, gave_none, gave_on, told}
use Rattle.gcsh_top.proofs.InputLemmas.{not_fallen, rose_since}
use Rattle.gcsh_top.proofs.PieceLemmas.{no_bytes}

-- the source gave these bytes so far
pub record ReadSoFar (source : SourceRun) (bytes : List ℕ) : Type 0 where
  pub gave : Gave source bytes
  pub short : length bytes ≤ max_input
  pub faults : source.before.faults ≤ source.after.faults

pub so_far_none : (a : SourceTold) → ReadSoFar (told a a) []
so_far_none a = record { gave = gave_none a; short = omega arith; faults = omega arith }

-- which is no whole input
pub so_far_memory : (source : SourceRun) (bytes : List ℕ) → ReadSoFar source bytes → UnreadInput source NoMemory
so_far_memory source bytes so_far = (bytes, record { gave = so_far.gave; short = so_far.short })

module _ (a b c : SourceTold) (bytes : List ℕ) (given : ℕ) (is : given ≡ length bytes) (so_far : ReadSoFar (told a b) bytes) where
  -- the next bytes came
  pub so_far_more : (n : ℕ) (piece : List ℕ) → GavePiece (told b c) given n piece → b.faults ≤ c.faults → ReadSoFar (told a c) (bytes ++ piece)
  so_far_more n piece gave faults = record {
    gave = gave_on a b c bytes piece so_far.gave gave.gave;
    short =
        let long = length-append bytes piece in
        let count = gave.count in
        let short = gave.short in
        omega (arith, long, count, short, is);
    faults = not_fallen a.faults b.faults c.faults so_far.faults faults;
  }

  -- the input ended
  pub so_far_whole : (n : ℕ) (piece : List ℕ) → GavePiece (told b c) given n piece → n ≡ 0 → ReadWhole (told a c) bytes
  so_far_whole n piece gave none = record {
    gave = record { gave = gave_no_more a b c bytes piece so_far.gave gave.gave (no_bytes piece (gave.count ∙ none)); short = so_far.short };
    at_end = gave.at_end none;
    ended = gave.ended none;
  }

  -- the next read failed
  pub so_far_failed : (e : read_fault) → e ≡ fault.Source → Unread (told b c) given e → UnreadInput (told a c) ReadFault
  so_far_failed e same unread =
      let failed = subst (Unread (told b c) given) same unread in
      ((bytes, record { gave = gave_no_more a b c bytes [] so_far.gave failed.0 refl; short = so_far.short }), rose_since a.faults b.faults c.faults so_far.faults failed.1)

  -- the next read gave one byte too many
  pub so_far_long : (e : read_fault) → e ≡ fault.TooLong → Unread (told b c) given e → UnreadInput (told a c) TooLong
  so_far_long e same unread =
      let long = subst (Unread (told b c) given) same unread in
      (bytes ++ long.0 ∷ [], gave_on a b c bytes (long.0 ∷ []) so_far.gave long.1, length-append bytes (long.0 ∷ []) ∙ ap (λ n. n + 1) (sym is ∙ long.2))
