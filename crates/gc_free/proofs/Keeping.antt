-- Each change of a free list keeps what it keeps.
use Rattle.std.proofs.Common.{ℕ, suc, ◌≡◌, ◌≤◌, ◌<◌, ◌+◌, ◌-◌, ◌^◌, max, length, List, [], ◌∷◌, arith, refl, ap, sym, ◌∙◌, inl, inr, Option, Some, None, subst}
use Rattle.std.proofs.lemmas.Bool.{lt-ltb, le-ltb, cases_lt}
use Rattle.std.specs.List.{Contains, find}
use Rattle.std.specs.Option.{MatchOption}
use Rattle.gc_free.specs.declared.run.Run.{Run}
use Rattle.gc_free.specs.Runs.{run, end_of, gap, gaps, without, begins_at, IsSpread}
use Rattle.gc_free.specs.Space.{Space, IsBetween, places_end, covers, current_with, merge, give, merge_all, first_of_runs}
use Rattle.gc_free.specs.Merged.{current_after, others_after}
use Rattle.gc_free.specs.Kept.{is_current, KeepsRuns}
use Rattle.gc_free.proofs.Between.{between_within, length-gaps}
use Rattle.gc_free.proofs.Taking.{gaps-spread, spread-without, spread-widen, length-without}
use Rattle.gc_free.proofs.Giving.{IsGiven, given_back}
use Rattle.gc_free.proofs.Growing.{grown}

pub places_end_fits : (capacity : ℕ) → places_end capacity ≤ 2 ^ 32 - 1
places_end_fits capacity = omega arith

-- the current run fits, as each that lies between blocks does
pub current_fits : (current : Option Run) (from end : ℕ) (held : List Run) → end ≤ 2 ^ 32 - 1 → IsSpread from end held
    → MatchOption current (Unit {0}) (λ c. IsBetween c from end held) → MatchOption current (Unit {0}) (λ c. end_of c < 2 ^ 32)
current_fits None from end held small up between = tt
current_fits (Some c) from end held small up between =
    let w = between_within c from end held up between in let ends : end_of c ≤ end = w.ends in omega arith

current_short : (current : Option Run) → MatchOption current (Unit {0}) (λ c. end_of c < 2 ^ 32) → MatchOption current (Unit {0}) (λ c. c.length < 2 ^ 32)
current_short None h = tt
current_short (Some c) h = let ends : end_of c < 2 ^ 32 = h in omega arith

-- what merging may be asked for, and what it gives
pub record Merges (freed : Run) (current : Option Run) (runs : List Run) (from end : ℕ) (left : List Run) : Type 0 where
  pub after_fits : MatchOption (current_after freed current runs) (Unit {0}) (λ c. c.length < 2 ^ 32)
  pub spread : IsSpread 0 (2 ^ 32 - 1) (others_after freed current runs)
  pub count : length (others_after freed current runs) ≤ length left + 1

merges : (freed : Run) (current : Option Run) (runs : List Run) (from end : ℕ) (left : List Run) → end ≤ 2 ^ 32 - 1 → IsSpread from end left → IsGiven freed current runs from end left
    → Merges freed current runs from end left
merges freed current runs from end left small up is =
    let after = current_with freed current (find (covers freed.place) (gaps from end left)) in
    let all = gaps from end left in
    let shorter = length-without (is_current after) all in
    let few = length-gaps from end left in
    record {
      after_fits = rw is.merged.current_is (current_short after (current_fits after from end left small up is.between));
      spread = rw is.merged.others_are (spread-without (is_current after) 0 (2 ^ 32 - 1) all (spread-widen from end 0 (2 ^ 32 - 1) all (omega arith) small (gaps-spread from end left up)));
      count = rw is.merged.others_are (omega arith);
    }

-- GIVING BACK

pub record GiveKept (b : Run) (s : Space) (runs : List Run) (room blocks : ℕ) : Type 0 where
  pub fits : end_of b < 2 ^ 32
  pub current_fits : MatchOption s.current (Unit {0}) (λ c. end_of c < 2 ^ 32)
  pub after_fits : MatchOption (current_after b s.current runs) (Unit {0}) (λ c. c.length < 2 ^ 32)
  pub spread : IsSpread 0 (2 ^ 32 - 1) (others_after b s.current runs)
  pub has_room : length (others_after b s.current runs) ≤ room
  pub current_is : current_after b s.current runs ≡ (give b s).current
  pub kept : (more : ℕ) → room ≤ more → KeepsRuns (give b s) (others_after b s.current runs) more (blocks - 1)

pub give_kept : (b : Run) (s : Space) (runs : List Run) (room blocks : ℕ) → KeepsRuns s runs room blocks → Contains s.held b → GiveKept b s runs room blocks
give_kept b s runs room blocks kept has =
    let end = places_end s.capacity in
    let sound = kept.sound in
    let small = places_end_fits s.capacity in
    let back = given_back b s.current 16 end s.held sound.blocks sound.aligned sound.current has in
    let left = without (begins_at b.place) s.held in
    let is : IsGiven b s.current runs 16 end left = rw kept.others back.merged in
    let m = merges b s.current runs 16 end left small back.blocks is in
    let has_room : length s.held < room = kept.has_room in
    let count : blocks ≡ length s.held = kept.count in
    let fewer : length s.held ≡ suc (length left) = back.count in
    let few : length (others_after b s.current runs) ≤ length left + 1 = m.count in
    let last : end_of b ≤ end = back.block.2 in
    record {
      fits = omega arith;
      current_fits = current_fits s.current 16 end s.held small sound.blocks sound.current;
      after_fits = m.after_fits;
      spread = m.spread;
      has_room = omega arith;
      current_is = is.merged.current_is;
      kept = λ more l. record {
        sound = record { fits = sound.fits; blocks = back.blocks; aligned = back.aligned; current = is.between };
        others = is.merged.others_are;
        count = omega arith;
        has_room = omega arith;
      };
    }

-- NEW CAPACITY

-- the first of the gap's runs, if there is one
pub gap_first : (from to : ℕ) (r : Run) → first_of_runs (gap from to) ≡ Some r → (from < to) × (r ≡ run from (to - from))
gap_first from to r e =
    elim (cases_lt from to) [
      | inl l ↦ (l, let e' : Some (run from (to - from)) ≡ Some r = rw (lt-ltb from to l) at e in cc)
      | inr l ↦ let e' : None ≡ Some r = rw (le-ltb from to l) at e in absurd (cc)
    ]

pub gap_empty : (from to : ℕ) → first_of_runs (gap from to) ≡ None → to ≤ from
gap_empty from to e =
    elim (cases_lt from to) [
      | inl l ↦ let e' : Some (run from (to - from)) ≡ None = rw (lt-ltb from to l) at e in absurd (cc)
      | inr l ↦ l
    ]

places_end-mono : (low high : ℕ) → low ≤ high → places_end low ≤ places_end high
places_end-mono low high l = omega arith

-- a space where nothing is managed has no blocks
nothing_held : (end : ℕ) (held : List Run) → end < 16 → IsSpread 16 end held → held ≡ []
nothing_held end [] l up = refl
nothing_held end (b ∷ bs) l up = let a : 16 ≤ b.place = up.0 in let w : end_of b ≤ end = up.2 in absurd (omega arith)

-- where the end rises to the first place at most, no run begins
same_gaps : (end further : ℕ) (held : List Run) → end ≤ further → further ≤ max 16 end → IsSpread 16 end held → gaps 16 further held ≡ gaps 16 end held
same_gaps end further held l h up =
    elim (cases_lt end 16) [
      | inl none ↦ rw (nothing_held end held none up) (rw (le-ltb 16 further (omega arith), le-ltb 16 end (omega arith)) refl)
      | inr some ↦ ap (λ e. gaps 16 e held) (let e : further ≡ end = omega arith in e)
    ]

same_between : (end further : ℕ) (current : Option Run) (held : List Run) → end ≤ further → further ≤ max 16 end → IsSpread 16 end held
    → MatchOption current (Unit {0}) (λ c. IsBetween c 16 end held) → MatchOption current (Unit {0}) (λ c. IsBetween c 16 further held)
same_between end further None held l h up between = tt
same_between end further (Some c) held l h up between =
    let w = between_within c 16 end held up between in
    let begins : 16 ≤ c.place = w.begins in let ends : end_of c ≤ end = w.ends in
    subst (λ e. IsBetween c 16 e held) (let e : end ≡ further = omega arith in e) between

-- the space with another capacity
pub with_capacity : ℕ → Space → Space
with_capacity capacity s = record { capacity = capacity; held = s.held; current = s.current }

-- no new places
pub idle_kept : (s : Space) (capacity : ℕ) (runs : List Run) (room blocks : ℕ) → KeepsRuns s runs room blocks → s.capacity ≤ capacity → capacity < 2 ^ 64
    → places_end capacity ≤ max 16 (places_end s.capacity) → KeepsRuns (record { capacity = capacity; held = s.held; current = s.current }) runs room blocks
idle_kept s capacity runs room blocks kept more small none =
    let up = places_end-mono s.capacity capacity more in
    let sound = kept.sound in
    record {
      sound = record {
        fits = small;
        blocks = spread-widen 16 (places_end s.capacity) 16 (places_end capacity) s.held (omega arith) up sound.blocks;
        aligned = sound.aligned;
        current = same_between (places_end s.capacity) (places_end capacity) s.current s.held up none sound.blocks sound.current;
      };
      others = kept.others ∙ ap (without (is_current s.current)) (sym (same_gaps (places_end s.capacity) (places_end capacity) s.held up none sound.blocks));
      count = kept.count;
      has_room = kept.has_room;
    }

pub record GrowKept (freed : Run) (s : Space) (capacity : ℕ) (runs : List Run) (room blocks : ℕ) : Type 0 where
  pub fits : end_of freed < 2 ^ 32
  pub current_fits : MatchOption s.current (Unit {0}) (λ c. end_of c < 2 ^ 32)
  pub after_fits : MatchOption (current_after freed s.current runs) (Unit {0}) (λ c. c.length < 2 ^ 32)
  pub spread : IsSpread 0 (2 ^ 32 - 1) (others_after freed s.current runs)
  pub has_room : length (others_after freed s.current runs) ≤ room
  pub current_is : current_after freed s.current runs ≡ (merge freed (record { capacity = capacity; held = s.held; current = s.current })).current
  pub kept : (more : ℕ) → room ≤ more → KeepsRuns (merge freed (record { capacity = capacity; held = s.held; current = s.current })) (others_after freed s.current runs) more blocks

pub grow_kept : (s : Space) (capacity : ℕ) (runs : List Run) (room blocks : ℕ) → KeepsRuns s runs room blocks → s.capacity ≤ capacity → capacity < 2 ^ 64
    → max 16 (places_end s.capacity) < places_end capacity
    → GrowKept (run (max 16 (places_end s.capacity)) (places_end capacity - max 16 (places_end s.capacity))) s capacity runs room blocks
grow_kept s capacity runs room blocks kept more fits some =
    let end = places_end s.capacity in let further = places_end capacity in
    let p = max 16 end in let n = further - p in
    let sound = kept.sound in
    let small = places_end_fits capacity in
    let up = places_end-mono s.capacity capacity more in
    let spread = spread-widen 16 end 16 further s.held (omega arith) up sound.blocks in
    let total : p + n ≡ further = omega arith in
    let is : IsGiven (run p n) s.current runs 16 further s.held =
    rw kept.others (subst (λ e. IsGiven (run p n) s.current (without (is_current s.current) (gaps 16 end s.held)) 16 e s.held) total
    (grown s.current p n 16 end s.held refl (omega arith) sound.blocks sound.current)) in
    let m = merges (run p n) s.current runs 16 further s.held small spread is in
    let has_room : length s.held < room = kept.has_room in
    let few : length (others_after (run p n) s.current runs) ≤ length s.held + 1 = m.count in
    let small' = places_end_fits s.capacity in
    record {
      fits = omega arith;
      current_fits = current_fits s.current 16 end s.held small' sound.blocks sound.current;
      after_fits = m.after_fits;
      spread = m.spread;
      has_room = omega arith;
      current_is = is.merged.current_is;
      kept = λ more' l. record {
        sound = record { fits = fits; blocks = spread; aligned = sound.aligned; current = is.between };
        others = is.merged.others_are;
        count = kept.count;
        has_room = omega arith;
      };
    }

-- the same by the first of the new places' runs
pub grow_kept_at : (s : Space) (capacity : ℕ) (runs : List Run) (room blocks : ℕ) (freed : Run) → KeepsRuns s runs room blocks → s.capacity ≤ capacity → capacity < 2 ^ 64
    → first_of_runs (gap (max 16 (places_end s.capacity)) (places_end capacity)) ≡ Some freed → GrowKept freed s capacity runs room blocks
grow_kept_at s capacity runs room blocks freed kept more fits e =
    let first = gap_first (max 16 (places_end s.capacity)) (places_end capacity) freed e in
    subst (λ r. GrowKept r s capacity runs room blocks) (sym first.1) (grow_kept s capacity runs room blocks kept more fits first.0)

pub merge_all_some : (from to : ℕ) (s : Space) (freed : Run) → first_of_runs (gap from to) ≡ Some freed → merge_all (gap from to) s ≡ merge freed s
merge_all_some from to s freed e =
    let first = gap_first from to freed e in
    rw (lt-ltb from to first.0) (ap (λ r. merge r s) (sym first.1))

pub merge_all_none : (from to : ℕ) (s : Space) → first_of_runs (gap from to) ≡ None → merge_all (gap from to) s ≡ s
merge_all_none from to s e = rw (le-ltb from to (gap_empty from to e)) refl
