-- What stands in the middle of a collection of a copying heap, in bytes.
use Rattle.std.specs.Prelude.{◌≡◌, ℕ, ◌+◌, ◌%◌, ◌<◌, ◌≤◌, ◌⊎◌, cond, nat_eq, List, length, slice_index_or}
use Rattle.gc_view.specs.Bytes.{SameBytes}
use Rattle.gc_memory.specs.Words.{word}
use Rattle.gc_memory.specs.Lists.{In, sum_over}
use Rattle.gc_memory.specs.Chains.{Chain}
use Rattle.gc_copying.specs.CopyWords.{flag, forwarding, IsCopyingPlace}
use Rattle.gc_copying.specs.CopyStart.{From, IsFrom, refs, CopyingReached}
use Rattle.gc_copying.specs.Layout.{copying_size_at}

-- The object at p has been copied to q.
pub record IsCopiedTo (s : From) (m : List ℕ) (p q : ℕ) : Type 0 where
  pub place : In p s.places
  pub flagged : flag m p ≡ 1
  pub to : forwarding m p ≡ q

-- A word became another: the place of an object where that was copied to; another one stays.
pub record Moves (s : From) (m : List ℕ) (w w' : ℕ) : Type 0 where
  pub leads : IsCopyingPlace w → IsCopiedTo s m w w'
  pub other : (IsCopyingPlace w → ⊥) → w' ≡ w

-- a byte lies in none of the words at these offsets
abbrev pub IsOutsideWords : List ℕ → ℕ → Type 0
IsOutsideWords offsets j = (o : ℕ) → In o offsets → (j < o) ⊎ (o + 4 ≤ j)

-- What lies at q is a copy of the object that lay at p. Its references below the frontier t are moved,
-- the others are as they were.
pub record CopyOf (s : From) (m : List ℕ) (t p q : ℕ) : Type 0 where
  pub rest : (j d : ℕ) → j < copying_size_at s.memory p → IsOutsideWords (refs s p) j → slice_index_or m (q + j) d ≡ slice_index_or s.memory (p + j) d
  pub moved : (o : ℕ) → In o (refs s p) → q + o < t → Moves s m (word s.memory (p + o)) (word m (q + o))
  pub to_do : (o : ℕ) → In o (refs s p) → t ≤ q + o → word m (q + o) ≡ word s.memory (p + o)

-- the bytes of an object that isn't copied, which the copies will still take
abbrev pub left_at : From → List ℕ → ℕ → ℕ
left_at s m p = cond (nat_eq (flag m p) 0) (copying_size_at s.memory p) 0

-- An object that was copied: where it is, how it looks there, and that it was reached.
pub record IsCopied (s : From) (m : List ℕ) (news : List ℕ) (t p q : ℕ) : Type 0 where
  pub inside : In q news
  pub copy : CopyOf s m t p q
  pub reached : CopyingReached s p

-- The half that is copied to, in the middle of a collection:
--
--     base              t                  bump                 limit
--      |  copies that   |  copies that     |  room for what is  |
--      |  are scanned   |  are to be       |  not copied yet    |
--      |                |  scanned         |                    |
--
-- The copies lie one behind the other from base up to bump; there are `count` of them, and `news` are their places. The
-- frontier t goes through them, also through the references of one copy: those below t name copies, those from t on
-- still name the objects that were there before (`copied`). A copy is made where a reference at the frontier names an
-- object that was not copied, so the list of copies is at the same time the list of what is to be scanned, and what is
-- not copied yet fits between bump and limit (`room`). An object that was copied has its flag set and the place of its
-- copy in the word behind its size (`IsCopiedTo`), but keeps its size (`sizes`) and what lies behind that word (`tail`); each
-- copy is of one object (`back`, `once`). An object that was not copied is as it was (`intact`).
pub record Mid (s : From) (m : List ℕ) (base bump limit count t : ℕ) : Type 0 where
  pub start : IsFrom s
  pub same_length : length m ≡ length s.memory
  pub aligned : base % 16 ≡ 0
  pub low : 0 < limit → 16 ≤ base
  pub inside : limit ≤ length m
  pub apart : (s.end ≤ base) ⊎ (limit ≤ s.first)
  pub from : base ≤ t
  pub frontier : t ≤ bump
  pub room : bump + sum_over (left_at s m) s.places ≤ limit
  pub news : List ℕ
  pub chain : Chain (copying_size_at m) base bump news
  pub counted : length news ≡ count
  pub sizes : (p : ℕ) → In p s.places → copying_size_at m p ≡ copying_size_at s.memory p
  pub intact : (p : ℕ) → In p s.places → flag m p ≡ 0 → SameBytes s.memory m p (p + copying_size_at s.memory p)
  pub tail : (p : ℕ) → In p s.places → SameBytes s.memory m (p + 16) (p + copying_size_at s.memory p)
  pub copied : (p q : ℕ) → IsCopiedTo s m p q → IsCopied s m news t p q
  pub back : (q : ℕ) → In q news → (p : ℕ) × IsCopiedTo s m p q
  pub once : (p p' q : ℕ) → IsCopiedTo s m p q → IsCopiedTo s m p' q → p ≡ p'

-- what has been copied stays where it is
abbrev pub Later : From → List ℕ → List ℕ → Type 0
Later s m m' = (p q : ℕ) → IsCopiedTo s m p q → IsCopiedTo s m' p q
