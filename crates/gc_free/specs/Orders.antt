-- The two orders of free runs, and what a search in them finds and costs.
use Rattle.std.specs.Prelude.{ℕ, suc, ◌+◌, ◌-◌, ◌*◌, ◌^◌, ◌≤◌, nat_lt, nat_le, ◌&&◌, cond, Option, Some, None, List, [], ◌∷◌}
use Rattle.gc_free.specs.declared.run.Run.{Run}
use Rattle.gc_free.specs.declared.key.Order.{Order}
use Rattle.gc_free.specs.declared.key.Order.TheVariants.{ByPlace, ByLength}
use Rattle.gc_free.specs.Runs.{insert_by}

-- by length, and by place where lengths are equal, as one number
abbrev pub length_key : Run → ℕ
length_key r = r.length * 2 ^ 32 + r.place

-- the number by which runs are ordered
abbrev pub key_of : Order → Run → ℕ
key_of ByPlace r = r.place
key_of ByLength r = length_key r

-- runs by length, and by place where lengths are equal
abbrev pub by_length : List Run → List Run
by_length [] = []
by_length (r ∷ rs) = insert_by length_key r (by_length rs)

-- of a run and the shortest long enough after it, the shorter that is long enough; at equal lengths the run
abbrev pub shorter_fit : ℕ → Run → Option Run → Option Run
shorter_fit length r None = cond (nat_le length r.length) (Some r) None
shorter_fit length r (Some best) = cond (nat_le length r.length && nat_le r.length best.length) (Some r) (Some best)

-- the shortest run that is long enough, at equal lengths the one at the lowest place; the runs stand by rising place
abbrev pub shortest_fit : ℕ → List Run → Option Run
shortest_fit length [] = None
shortest_fit length (r ∷ rs) = shorter_fit length r (shortest_fit length rs)

-- how many runs at the front have a key below this one
abbrev pub count_below : (Run → ℕ) → ℕ → List Run → ℕ
count_below key k [] = 0
count_below key k (x ∷ xs) = cond (nat_lt (key x) k) (suc (count_below key k xs)) 0

-- no more steps than that number of searches, each in at most `count` runs, takes
pub record IsSearched (searches count before after : ℕ) : Type 0 where
  pub rises : before ≤ after
  pub bound : 2 ^ (after - before) ≤ (2 * count + 1) ^ searches

-- no fewer steps than one search in `count` runs takes
abbrev pub HasSearched : ℕ → ℕ → ℕ → Type 0
HasSearched count before after = count + 2 ≤ 2 ^ (after - before + 1)
