-- Where a block goes by the code's steps is where the placing rule puts it.
use Rattle.std.proofs.Common.{ℕ, suc, ◌≡◌, ◌≤◌, ◌<◌, ◌+◌, ◌-◌, ◌%◌, ◌^◌, length, List, [], ◌∷◌, arith, refl, ap, sym, ◌∙◌, inl, inr, Option, Some, None, subst, option_map}
use Rattle.std.proofs.lemmas.Bool.{lt-ltb, le-ltb, le-leb, lt-leb, cases_lt, cond-true, cond-false, true≢false}
use Rattle.std.specs.Option.{MatchOption}
use Rattle.std.specs.List.{All, AllByRecursion}
use Rattle.std.proofs.lemmas.List.Elements.{All-from_recursion, recursion_from_All}
use Rattle.std.specs.Option.{IsNone, IfSome}
use Rattle.std.specs.Int.NonZero.{non_zero_u32_get}
use Rattle.std.specs.declared.num.NonZeroU32.{NonZeroU32}
use Rattle.gc_free.specs.declared.run.Run.{Run}
use Rattle.gc_free.specs.Runs.{run, end_of, gaps, insert_run, remove_by, without, begins_at, IsSpread}
use Rattle.gc_free.specs.Orders.{shortest_fit}
use Rattle.gc_free.specs.Ordered.{without_found}
use Rattle.gc_free.specs.Space.{Space, Taken, IsBetween, places_end, free_runs, run_rest, if_any, take, take_from, take_shortest, taken_from}
use Rattle.gc_free.specs.Placed.{PlacedBlock, with_current, place_in, block_in, left_in_run}
use Rattle.gc_free.specs.Kept.{is_current, KeepsRuns}
use Rattle.gc_free.proofs.ByLength.{In, length-insert_by, place_of}
use Rattle.gc_free.proofs.Taking.{taken, put_back, shortest_found, remove_by_is_without, gaps-spread, spread-widen, all_short, length-spread}
use Rattle.gc_free.proofs.Between.{gap_between, between_within, between_aligned, length-gaps}
use Rattle.gc_free.proofs.Keeping.{places_end_fits, current_fits}
use Rattle.gc_free.proofs.TwoOrdersKept.{In-insert_run}
use Rattle.gc_free.proofs.MergedRuns.{without_none}

pub length-with_current : (current : Option Run) (runs : List Run) → length runs ≤ length (with_current current runs)
length-with_current None runs = omega arith
length-with_current (Some c) runs =
    let longer = length-insert_by place_of c runs in
    elim (cases_lt 0 c.length) [
      | inl l ↦ rw (lt-ltb 0 c.length l) (omega arith)
      | inr l ↦ rw (le-ltb 0 c.length l) (omega arith)
    ]

-- with the current run among them, the others are all free runs
pub with_current_is : (current : Option Run) (from end : ℕ) (held : List Run) → IsSpread from end held → MatchOption current (Unit {0}) (λ c. IsBetween c from end held)
    → with_current current (without (is_current current) (gaps from end held)) ≡ gaps from end held
with_current_is None from end held up between = without_none (gaps from end held)
with_current_is (Some c) from end held up between =
    let back = put_back c from end held up between in
    elim (cases_lt 0 c.length) [
      | inl l ↦ rw (lt-ltb 0 c.length l) (back.some l)
      | inr l ↦ rw (le-ltb 0 c.length l) (back.empty (omega arith))
    ]

-- the blocks with one more, if there is one, and how many they are then
abbrev pub held_with : Option Run → List Run → List Run
held_with None held = held
held_with (Some b) held = insert_run b held

abbrev pub blocks_with : Option Run → ℕ → ℕ
blocks_with None blocks = blocks
blocks_with (Some b) blocks = blocks + 1

-- the placing rule's answer is that of the code's steps, and what a free list keeps stays true
pub record IsPlaced (size : ℕ) (s : Space) (room blocks : ℕ) (by : PlacedBlock) (rule : Taken) : Type 0 where
  pub place : rule.place ≡ option_map (λ b. b.place) by.block
  pub space : rule.space ≡ record { capacity = s.capacity; held = held_with by.block s.held; current = by.current }
  pub kept : KeepsRuns rule.space by.others room (blocks_with by.block blocks)
  pub none_short : by.block ≡ None → AllByRecursion (λ r. r.length < size) (free_runs s)
  pub short_none : AllByRecursion (λ r. r.length < size) (free_runs s) → by.block ≡ None
  pub aligned : MatchOption by.block (Unit {0}) (λ b. (16 ≤ b.place) × (b.place % 16 ≡ 0))

all_short_at : (size : ℕ) (xs : List Run) (r : Run) → AllByRecursion (λ r. r.length < size) xs → In r xs → r.length < size
all_short_at size [] r all h = absurd h
all_short_at size (x ∷ xs) r all (inl e) = subst (λ z. z.length < size) e all.0
all_short_at size (x ∷ xs) r all (inr h) = all_short_at size xs r all.1 h

-- the space once a block was taken from a run, which another run follows as the current one
kept_with : (size : ℕ) (s : Space) (r : Run) (current : Option Run) (runs others : List Run) (room blocks : ℕ) → KeepsRuns s runs room blocks
    → size % 16 ≡ 0 → 0 < size → size ≤ r.length → IsBetween r 16 (places_end s.capacity) s.held → length s.held + 1 < room
    → MatchOption current (Unit {0}) (λ c. IsBetween c 16 (places_end s.capacity) (insert_run (run r.place size) s.held))
    → others ≡ without (is_current current) (gaps 16 (places_end s.capacity) (insert_run (run r.place size) s.held))
    → KeepsRuns (record { capacity = s.capacity; held = insert_run (run r.place size) s.held; current = current }) others room (blocks + 1)
kept_with size s r current runs others room blocks kept whole some fits between has_room after is =
    let end = places_end s.capacity in
    let sound = kept.sound in
    let t = taken r size 16 end s.held sound.blocks between some fits in
    let count : blocks ≡ length s.held = kept.count in
    let more : length (insert_run (run r.place size) s.held) ≡ suc (length s.held) = t.count in
    record {
      sound = record {
        fits = sound.fits;
        blocks = t.blocks;
        aligned = t.aligned (between_aligned r 16 end s.held refl sound.aligned between, whole) sound.aligned;
        current = after;
      };
      others = is;
      count = omega arith;
      has_room = omega arith;
    }

placed_current : (size : ℕ) (s : Space) (c : Run) (runs : List Run) (room blocks : ℕ) → KeepsRuns s runs room blocks → s.current ≡ Some c
    → size % 16 ≡ 0 → 0 < size → size ≤ c.length → length s.held + 1 < room
    → IsPlaced size s room blocks (record { block = Some (run c.place size); current = Some (run_rest size c); others = runs }) (taken_from size s c (Some (run_rest size c)))
placed_current size s c runs room blocks kept e whole some fits has_room =
    let end = places_end s.capacity in
    let sound = kept.sound in
    let between : IsBetween c 16 end s.held = rw e at sound.current in
    let t = taken c size 16 end s.held sound.blocks between some fits in
    let own : runs ≡ without (begins_at c.place) (free_runs s) = rw e at kept.others in
    let back = put_back c 16 end s.held sound.blocks between in
    let among : In c (free_runs s) = subst (In c) (back.some (omega arith)) (In-insert_run c (without (begins_at c.place) (free_runs s))) in
    record {
      place = refl;
      space = refl;
      kept = kept_with size s c (Some (run_rest size c)) runs runs room blocks kept whole some fits between has_room t.between (own ∙ t.others);
      none_short = λ i. absurd (cc);
      short_none = λ all. absurd (let short = all_short_at size (free_runs s) c all among in omega arith);
      aligned = ((between_within c 16 end s.held sound.blocks between).begins, between_aligned c 16 end s.held refl sound.aligned between);
    }

placed_nowhere : (size : ℕ) (s : Space) (runs : List Run) (room blocks : ℕ) → KeepsRuns s runs room blocks → shortest_fit size (free_runs s) ≡ None
    → IsPlaced size s room blocks (record { block = None; current = None; others = free_runs s }) (take_shortest size s None)
placed_nowhere size s runs room blocks kept e =
    let sound = kept.sound in
    record {
      place = refl;
      space = refl;
      kept = record {
        sound = record { fits = sound.fits; blocks = sound.blocks; aligned = sound.aligned; current = tt };
        others = sym (without_none (free_runs s));
        count = kept.count;
        has_room = kept.has_room;
      };
      none_short = λ _. all_short size (free_runs s) e;
      short_none = λ _. refl;
      aligned = tt;
    }

placed_shortest : (size : ℕ) (s : Space) (r : Run) (runs : List Run) (room blocks : ℕ) → KeepsRuns s runs room blocks → shortest_fit size (free_runs s) ≡ Some r
    → size % 16 ≡ 0 → 0 < size → length s.held + 1 < room
    → IsPlaced size s room blocks (record { block = Some (run r.place size); current = if_any (run_rest size r); others = remove_by place_of r.place (free_runs s) }) (take_shortest size s (Some r))
placed_shortest size s r runs room blocks kept e whole some has_room =
    let end = places_end s.capacity in
    let sound = kept.sound in
    let found = shortest_found size (free_runs s) r e in
    let between = gap_between r 16 end s.held found.among in
    let t = taken r size 16 end s.held sound.blocks between some found.fits in
    let fits : size ≤ r.length = found.fits in
    let own : remove_by place_of r.place (free_runs s) ≡ without (begins_at r.place) (free_runs s) =
    remove_by_is_without r 16 end (free_runs s) (gaps-spread 16 end s.held sound.blocks) found.among in
    let all = gaps 16 end (insert_run (run r.place size) s.held) in
    let held' = insert_run (run r.place size) s.held in
    let rest = run_rest size r in
    record {
      place = refl;
      space = refl;
      kept = kept_with size s r (if_any rest) runs (remove_by place_of r.place (free_runs s)) room blocks kept whole some fits between has_room
          (elim (cases_lt 0 rest.length) [
            | inl l ↦ rw (lt-ltb 0 rest.length l) t.between
            | inr l ↦ rw (le-ltb 0 rest.length l) tt
          ])
          (own ∙ elim (cases_lt 0 rest.length) [
            | inl l ↦ t.others ∙ sym (ap (λ o. without (is_current o) all) (cond-true _ (Some rest) None (lt-ltb 0 rest.length l)))
            | inr l ↦ t.whole (omega arith) ∙ sym (ap (λ o. without (is_current o) all) (cond-false _ (Some rest) None (le-ltb 0 rest.length l)) ∙ without_none all)
          ]);
      none_short = λ i. absurd (cc);
      short_none = λ short. absurd (let l = all_short_at size (free_runs s) r short found.among in omega arith);
      aligned = ((between_within r 16 end s.held sound.blocks between).begins, between_aligned r 16 end s.held refl sound.aligned between);
    }

-- by what the search found
placed_by : (size : ℕ) (s : Space) (runs : List Run) (room blocks : ℕ) → KeepsRuns s runs room blocks → size % 16 ≡ 0 → 0 < size → length s.held + 1 < room
    → (o : Option Run) → shortest_fit size (free_runs s) ≡ o
    → IsPlaced size s room blocks (record { block = block_in size o; current = left_in_run size o; others = without_found o (free_runs s) }) (take_shortest size s o)
placed_by size s runs room blocks kept whole some has_room None e = placed_nowhere size s runs room blocks kept e
placed_by size s runs room blocks kept whole some has_room (Some r) e = placed_shortest size s r runs room blocks kept e whole some has_room

placed_from : (size : ℕ) (s : Space) (runs : List Run) (room blocks : ℕ) → KeepsRuns s runs room blocks → size % 16 ≡ 0 → 0 < size → length s.held + 1 < room
    → (o : Option Run) → s.current ≡ o → IsPlaced size s room blocks (place_in size o runs) (take_from size s o)
placed_from size s runs room blocks kept whole some has_room None e =
    let all : runs ≡ free_runs s = (rw e at kept.others) ∙ without_none (free_runs s) in
    rw all (placed_by size s runs room blocks kept whole some has_room (shortest_fit size (free_runs s)) refl)
placed_from size s runs room blocks kept whole some has_room (Some c) e =
    let end = places_end s.capacity in
    let between : MatchOption (Some c) (Unit {0}) (λ c. IsBetween c 16 end s.held) = rw e at kept.sound.current in
    let own : runs ≡ without (is_current (Some c)) (free_runs s) = rw e at kept.others in
    let all : with_current (Some c) runs ≡ free_runs s = ap (with_current (Some c)) own ∙ with_current_is (Some c) 16 end s.held kept.sound.blocks between in
    elim (cases_lt c.length size) [
      | inl short ↦ rw (lt-leb size c.length short, all) (placed_by size s runs room blocks kept whole some has_room (shortest_fit size (free_runs s)) refl)
      | inr long ↦ rw (le-leb size c.length long) (placed_current size s c runs room blocks kept e whole some long has_room)
    ]

-- what placing may be asked for, and what it gives
pub record PlaceKept (size : ℕ) (s : Space) (runs : List Run) (room blocks : ℕ) : Type 0 where
  pub spread : IsSpread 0 (2 ^ 32 - 1) (with_current s.current runs)
  pub has_room : length (with_current s.current runs) ≤ room
  pub fits : MatchOption s.current (Unit {0}) (λ c. end_of c < 2 ^ 32)
  pub all : with_current s.current runs ≡ free_runs s
  pub placed : IsPlaced size s room blocks (place_in size s.current runs) (take size s)

pub place_kept : (size : ℕ) (s : Space) (runs : List Run) (room more blocks : ℕ) → KeepsRuns s runs room blocks → room ≤ more → size % 16 ≡ 0 → 0 < size → blocks + 2 ≤ more
    → PlaceKept size s runs more blocks
place_kept size s runs room more blocks kept l whole some enough =
    let end = places_end s.capacity in
    let sound = kept.sound in
    let count : blocks ≡ length s.held = kept.count in
    let has_room : length s.held < room = kept.has_room in
    let wider : KeepsRuns s runs more blocks = record { sound = sound; others = kept.others; count = count; has_room = omega arith } in
    let all : with_current s.current runs ≡ free_runs s = ap (with_current s.current) kept.others ∙ with_current_is s.current 16 end s.held sound.blocks sound.current in
    let few = length-gaps 16 end s.held in
    let small = places_end_fits s.capacity in
    record {
      spread = rw all (spread-widen 16 end 0 (2 ^ 32 - 1) (free_runs s) (omega arith) small (gaps-spread 16 end s.held sound.blocks));
      has_room = rw all (omega arith);
      fits = current_fits s.current 16 end s.held small sound.blocks sound.current;
      all = all;
      placed = placed_from size s runs more blocks wider whole some (omega arith) s.current refl;
    }

-- what the steps leave where they place no block
pub record AfterNone (size : ℕ) (s : Space) (current : Option Run) (others : List Run) (room blocks : ℕ) : Type 0 where
  pub kept : KeepsRuns (record { capacity = s.capacity; held = s.held; current = current }) others room blocks
  pub space : record { capacity = s.capacity; held = s.held; current = current } ≡ (take size s).space
  pub place : None ≡ (take size s).place
  pub short : All (λ r. r.length < size) (free_runs s)

pub after_none : (size : ℕ) (s : Space) (room blocks : ℕ) (by : PlacedBlock) (block current : Option Run) (others : List Run) → IsPlaced size s room blocks by (take size s)
    → block ≡ by.block → current ≡ by.current → others ≡ by.others → block ≡ None → AfterNone size s current others room blocks
after_none size s room blocks by block current others p eb ec eo none =
    let own : by.block ≡ None = sym eb ∙ none in
    let space : (take size s).space ≡ record { capacity = s.capacity; held = s.held; current = current } =
    p.space ∙ ap (λ o. record { capacity = s.capacity; held = held_with o s.held; current = by.current }) own ∙ ap (λ o. record { capacity = s.capacity; held = s.held; current = o }) (sym ec) in
    let kept = subst (λ z. KeepsRuns z by.others room (blocks_with by.block blocks)) space p.kept in
    let fewer = subst (λ o. KeepsRuns (record { capacity = s.capacity; held = s.held; current = current }) by.others room (blocks_with o blocks)) own kept in
    record {
      kept = subst (λ l. KeepsRuns (record { capacity = s.capacity; held = s.held; current = current }) l room blocks) (sym eo) fewer;
      space = sym space;
      place = sym (p.place ∙ ap (option_map (λ b. b.place)) own);
      short = All-from_recursion (λ r. r.length < size) (free_runs s) (p.none_short own);
    }

-- and where they place one
pub record AfterSome (size : ℕ) (s : Space) (b : Run) (current : Option Run) (others : List Run) (room blocks : ℕ) : Type 0 where
  pub kept : KeepsRuns (record { capacity = s.capacity; held = insert_run b s.held; current = current }) others room (blocks + 1)
  pub space : record { capacity = s.capacity; held = insert_run b s.held; current = current } ≡ (take size s).space
  pub place : Some b.place ≡ (take size s).place
  pub fits : All (λ r. r.length < size) (free_runs s) → ⊥
  pub low : 16 ≤ b.place
  pub aligned : b.place % 16 ≡ 0

pub after_some : (size : ℕ) (s : Space) (room blocks : ℕ) (by : PlacedBlock) (block current : Option Run) (others : List Run) (b : Run) → IsPlaced size s room blocks by (take size s)
    → block ≡ by.block → current ≡ by.current → others ≡ by.others → block ≡ Some b → AfterSome size s b current others room blocks
after_some size s room blocks by block current others b p eb ec eo some =
    let own : by.block ≡ Some b = sym eb ∙ some in
    let space : (take size s).space ≡ record { capacity = s.capacity; held = insert_run b s.held; current = current } =
    p.space ∙ ap (λ o. record { capacity = s.capacity; held = held_with o s.held; current = by.current }) own ∙ ap (λ o. record { capacity = s.capacity; held = insert_run b s.held; current = o }) (sym ec) in
    let kept = subst (λ z. KeepsRuns z by.others room (blocks_with by.block blocks)) space p.kept in
    let more = subst (λ o. KeepsRuns (record { capacity = s.capacity; held = insert_run b s.held; current = current }) by.others room (blocks_with o blocks)) own kept in
    let at = subst (λ o. MatchOption o (Unit {0}) (λ b. (16 ≤ b.place) × (b.place % 16 ≡ 0))) own p.aligned in
    record {
      kept = subst (λ l. KeepsRuns (record { capacity = s.capacity; held = insert_run b s.held; current = current }) l room (blocks + 1)) (sym eo) more;
      space = sym space;
      place = sym (p.place ∙ ap (option_map (λ b. b.place)) own);
      fits = λ all. let none = p.short_none (recursion_from_All (λ r. r.length < size) (free_runs s) all) in let e : None ≡ Some b = sym none ∙ own in cc;
      low = at.0;
      aligned = at.1;
    }

-- a place above 0 as a number that isn't 0
pub record IsNonZero (o : Option NonZeroU32) (n : ℕ) : Type 0 where
  pub is : option_map (λ p. non_zero_u32_get p) o ≡ Some n
  pub some : IsNone o → ⊥

pub non_zero : (o : Option NonZeroU32) (n : ℕ) → 0 < n → MatchOption o (n ≡ 0) (λ x. non_zero_u32_get x ≡ n) → IsNonZero o n
non_zero None n l e = absurd (let z : n ≡ 0 = e in omega arith)
non_zero (Some x) n l e = record { is = ap (λ m. Some m) e; some = λ i. true≢false i }

pub non_zero_aligned : (o : Option NonZeroU32) (n : ℕ) → n % 16 ≡ 0 → MatchOption o (n ≡ 0) (λ x. non_zero_u32_get x ≡ n) → IfSome o (λ p. non_zero_u32_get p % 16 ≡ 0)
non_zero_aligned None n a e = tt
non_zero_aligned (Some x) n a e = let same : non_zero_u32_get x ≡ n = e in rw same a

-- the number of blocks is far from the greatest usize
pub blocks_fit : (s : Space) (runs : List Run) (room blocks : ℕ) → KeepsRuns s runs room blocks → blocks < 2 ^ 32
blocks_fit s runs room blocks kept =
    let few = length-spread 16 (places_end s.capacity) s.held kept.sound.blocks in
    let small = places_end_fits s.capacity in
    let count : blocks ≡ length s.held = kept.count in
    omega arith
