-- The words that references have in a heap.
use Rattle.std.specs.Prelude.{◌≡◌, ℕ, ◌+◌, ◌*◌, nat_eq, if◌then◌else◌, Option, Some, None}
use Rattle.gc_model.specs.Values.{Reference, null, small, at}

-- where the heap holds each position
abbrev pub Placing : Type 0
Placing = ℕ → Option ℕ

-- nothing is held
abbrev pub nowhere : Placing
nowhere position = None

-- one more position is held, at a place
abbrev pub placed_at : Placing → ℕ → ℕ → Placing
placed_at place n word position = if nat_eq position n then Some word else place position

-- the word that a reference has under a placing
abbrev pub IsWord : Placing → Reference → ℕ → Type 0
IsWord place null word = word ≡ 0
IsWord place (small n) word = word ≡ 2 * n + 1
IsWord place (at p) word = place p ≡ Some word
