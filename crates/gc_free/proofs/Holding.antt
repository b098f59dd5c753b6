-- Blocks that are placed are held, and stay it while others are placed.
use Rattle.std.proofs.Common.{ℕ, ◌≡◌, ap, sym, subst, Option, Some, None, List, inl, inr}
use Rattle.std.specs.List.{Contains}
use Rattle.std.proofs.lemmas.Bool.{lt-leb, le-leb, cases_lt}
use Rattle.gc_free.specs.declared.run.Run.{Run}
use Rattle.gc_free.specs.Runs.{run, insert_run}
use Rattle.gc_free.specs.Orders.{shortest_fit}
use Rattle.gc_free.specs.Space.{Space, take, take_from, take_shortest, free_runs}
use Rattle.gc_free.proofs.ByLength.{In-insert, place_of}
use Rattle.gc_free.proofs.TwoOrdersKept.{In-insert_run}
use Rattle.gc_free.proofs.LawsOfCalls.{contains_in, in_contains}

-- a block that was placed is held
shortest_held : (size : ℕ) (s : Space) (o : Option Run) (p : ℕ) → Some p ≡ (take_shortest size s o).place → (take_shortest size s o).space.held ≡ insert_run (run p size) s.held
shortest_held size s None p e = absurd (cc)
shortest_held size s (Some r) p e = let same : r.place ≡ p = cc in ap (λ q. insert_run (run q size) s.held) same

pub from_held : (size : ℕ) (s : Space) (o : Option Run) (p : ℕ) → Some p ≡ (take_from size s o).place → (take_from size s o).space.held ≡ insert_run (run p size) s.held
from_held size s None p e = shortest_held size s (shortest_fit size (free_runs s)) p e
from_held size s (Some c) p e =
    elim (cases_lt c.length size) [
      | inl short ↦ rw (lt-leb size c.length short) (shortest_held size s (shortest_fit size (free_runs s)) p (rw (lt-leb size c.length short) at e))
      | inr long ↦
          let e' : Some p ≡ Some c.place = rw (le-leb size c.length long) at e in
          let same : c.place ≡ p = cc in
          rw (le-leb size c.length long) (ap (λ q. insert_run (run q size) s.held) same)
    ]

pub placed_is_held : (size : ℕ) (s : Space) (p : ℕ) → Some p ≡ (take size s).place → Contains (take size s).space.held (run p size)
placed_is_held size s p e =
    subst (λ h. Contains h (run p size)) (sym (from_held size s s.current p e)) (in_contains (run p size) (insert_run (run p size) s.held) (In-insert_run (run p size) s.held))

-- and others stay held
put_among : (a b : Run) (held : List Run) → Contains held b → Contains (insert_run a held) b
put_among a b held among = in_contains b (insert_run a held) (In-insert place_of a b held (contains_in b held among))

kept_by_shortest : (size : ℕ) (s : Space) (o : Option Run) (b : Run) → Contains s.held b → Contains (take_shortest size s o).space.held b
kept_by_shortest size s None b among = among
kept_by_shortest size s (Some r) b among = put_among (run r.place size) b s.held among

kept_from : (size : ℕ) (s : Space) (o : Option Run) (b : Run) → Contains s.held b → Contains (take_from size s o).space.held b
kept_from size s None b among = kept_by_shortest size s (shortest_fit size (free_runs s)) b among
kept_from size s (Some c) b among =
    elim (cases_lt c.length size) [
      | inl short ↦ rw (lt-leb size c.length short) (kept_by_shortest size s (shortest_fit size (free_runs s)) b among)
      | inr long ↦ rw (le-leb size c.length long) (put_among (run c.place size) b s.held among)
    ]

pub stays_held : (size : ℕ) (s : Space) (b : Run) → Contains s.held b → Contains (take size s).space.held b
stays_held size s b among = kept_from size s s.current b among
