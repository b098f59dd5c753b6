-- Two held blocks that touch as one.
use Rattle.std.proofs.Common.{ℕ, suc, ◌≡◌, ◌≤◌, ◌<◌, ◌+◌, ◌-◌, ◌%◌, length, List, [], ◌∷◌, ◌++◌, arith, refl, ap, sym, ◌∙◌, inl, inr, None, subst}
use Rattle.std.proofs.lemmas.Bool.{eq-eqb, ne_eqb}
use Rattle.std.specs.List.{Contains}
use Rattle.gc_free.specs.declared.run.Run.{Run}
use Rattle.gc_free.specs.Runs.{end_of, gap, gaps, without, begins_at, IsSpread, as_one, joined_in}
use Rattle.gc_free.specs.Space.{Space, AllAligned, IsSound, places_end}
use Rattle.gc_free.specs.Kept.{is_current, KeepsRuns}
use Rattle.gc_free.specs.Waiting.{with_joined}
use Rattle.gc_free.proofs.ByLength.{In, In-place}
use Rattle.gc_free.proofs.Slots.{lower, lower-ge, spread-behind}
use Rattle.gc_free.proofs.Between.{spread-remove, without-slot, length-slot}
use Rattle.gc_free.proofs.MergedRuns.{gap_none}
use Rattle.gc_free.proofs.LawsOfCalls.{contains_in}

-- the blocks before two that stand one right behind the other, and those behind
pub record Pair (a b : Run) (held : List Run) : Type 0 where
  pub front : List Run
  pub back : List Run
  pub is : held ≡ front ++ a ∷ b ∷ back

-- what begins where the blocks do is the first of them
first_is : (b : Run) (from end : ℕ) (xs : List Run) → IsSpread from end xs → In b xs → from ≡ b.place → (ys : List Run) × (xs ≡ b ∷ ys)
first_is b from end [] up h e = absurd h
first_is b from end (x ∷ xs) up (inl same) e = (xs, ap (λ z. z ∷ xs) same)
first_is b from end (x ∷ xs) up (inr h) e =
    let p = In-place (end_of x) end b xs up.3 h in
    let past : end_of x ≤ b.place = p.0 in let low : from ≤ x.place = up.0 in let some : 0 < x.length = up.1 in
    absurd (omega arith)

pub pair : (a b : Run) (from end : ℕ) (held : List Run) → IsSpread from end held → In a held → In b held → end_of a ≡ b.place → Pair a b held
pair a b from end [] up ha hb e = absurd ha
pair a b from end (x ∷ xs) up (inl same) (inl same') e =
    let p : x.place ≡ a.place = ap (λ z. z.place) same in let q : x.place ≡ b.place = ap (λ z. z.place) same' in
    let n : x.length ≡ a.length = ap (λ z. z.length) same in let some : 0 < x.length = up.1 in
    absurd (omega arith)
pair a b from end (x ∷ xs) up (inl same) (inr hb) e =
    let f = first_is b (end_of x) end xs up.3 hb (ap (λ z. end_of z) same ∙ e) in
    record { front = []; back = f.0; is = ap (λ z. z ∷ xs) same ∙ ap (λ l. a ∷ l) f.1 }
pair a b from end (x ∷ xs) up (inr ha) (inl same) e =
    let p = In-place (end_of x) end a xs up.3 ha in
    let past : end_of x ≤ a.place = p.0 in let q : x.place ≡ b.place = ap (λ z. z.place) same in let some : 0 < x.length = up.1 in
    absurd (omega arith)
pair a b from end (x ∷ xs) up (inr ha) (inr hb) e =
    let i = pair a b (end_of x) end xs up.3 ha hb e in
    record { front = x ∷ i.front; back = i.back; is = ap (λ l. x ∷ l) i.is }

joined_in-pair : (a b : Run) (from end : ℕ) (hs ts : List Run) → IsSpread from end (hs ++ a ∷ b ∷ ts) → joined_in a b (hs ++ a ∷ b ∷ ts) ≡ hs ++ as_one a b ∷ ts
joined_in-pair a b from end [] ts up =
    rw (eq-eqb a.place a.place refl) (ap (λ l. as_one a b ∷ l) (without-slot b (end_of a) end [] ts up.3))
joined_in-pair a b from end (h ∷ hs) ts up =
    let behind = spread-behind (end_of h) end hs (a ∷ b ∷ ts) up.3 in
    let past : lower (end_of h) hs ≤ a.place = behind.0 in
    let later : end_of h ≤ lower (end_of h) hs = lower-ge (end_of h) end hs (a ∷ b ∷ ts) up.3 in
    let some : 0 < h.length = up.1 in
    rw (ne_eqb h.place a.place (λ e. omega arith)) (ap (λ l. h ∷ l) (joined_in-pair a b (end_of h) end hs ts up.3))

end_same : (a b : Run) → end_of a ≡ b.place → end_of b ≡ end_of (as_one a b)
end_same a b e = omega arith

spread_pair : (a b : Run) (from end : ℕ) (hs ts : List Run) → end_of a ≡ b.place → IsSpread from end (hs ++ a ∷ b ∷ ts) → IsSpread from end (hs ++ as_one a b ∷ ts)
spread_pair a b from end [] ts e up =
    let same = end_same a b e in
    let within : end_of b ≤ end = up.3.2 in let some : 0 < a.length = up.1 in
    (up.0, omega arith, omega arith, subst (λ n. IsSpread n end ts) same up.3.3)
spread_pair a b from end (h ∷ hs) ts e up = (up.0, up.1, up.2, spread_pair a b (end_of h) end hs ts e up.3)

aligned_sum : (m n : ℕ) → m % 16 ≡ 0 → n % 16 ≡ 0 → (m + n) % 16 ≡ 0
aligned_sum m n e f = omega arith

aligned_pair : (a b : Run) (hs ts : List Run) → AllAligned (hs ++ a ∷ b ∷ ts) → AllAligned (hs ++ as_one a b ∷ ts)
aligned_pair a b [] ts all = ((all.0.0, aligned_sum a.length b.length all.0.1 all.1.0.1), all.1.1)
aligned_pair a b (h ∷ hs) ts all = (all.0, aligned_pair a b hs ts all.1)

gaps_pair : (a b : Run) (from end : ℕ) (hs ts : List Run) → end_of a ≡ b.place → gaps from end (hs ++ a ∷ b ∷ ts) ≡ gaps from end (hs ++ as_one a b ∷ ts)
gaps_pair a b from end [] ts e =
    ap (λ l. gap from a.place ++ l) (ap (λ l. l ++ gaps (end_of b) end ts) (gap_none (end_of a) b.place (omega arith)) ∙ ap (λ n. gaps n end ts) (end_same a b e))
gaps_pair a b from end (h ∷ hs) ts e = ap (λ l. gap from h.place ++ l) (gaps_pair a b (end_of h) end hs ts e)

-- what is true of the blocks once two are one
pub record JoinedBlocks (a b : Run) (from end : ℕ) (held : List Run) : Type 0 where
  pub blocks : IsSpread from end (joined_in a b held)
  pub aligned : AllAligned (joined_in a b held)
  pub same_gaps : gaps from end (joined_in a b held) ≡ gaps from end held
  pub count : length held ≡ suc (length (joined_in a b held))
  pub among : In (as_one a b) (joined_in a b held)
  pub left : without (begins_at a.place) (joined_in a b held) ≡ without (begins_at b.place) (without (begins_at a.place) held)

in_slot : (x : Run) (hs ts : List Run) → In x (hs ++ x ∷ ts)
in_slot x [] ts = inl refl
in_slot x (h ∷ hs) ts = inr (in_slot x hs ts)

joined_at : (a b : Run) (from end : ℕ) (hs ts : List Run) → IsSpread from end (hs ++ a ∷ b ∷ ts) → AllAligned (hs ++ a ∷ b ∷ ts) → end_of a ≡ b.place
    → JoinedBlocks a b from end (hs ++ a ∷ b ∷ ts)
joined_at a b from end hs ts up aligned e =
    let is = joined_in-pair a b from end hs ts up in
    let spread = spread_pair a b from end hs ts e up in
    let one : length (hs ++ a ∷ b ∷ ts) ≡ suc (length (hs ++ b ∷ ts)) = length-slot a hs (b ∷ ts) in
    let two : length (hs ++ b ∷ ts) ≡ suc (length (hs ++ ts)) = length-slot b hs ts in
    let three : length (hs ++ as_one a b ∷ ts) ≡ suc (length (hs ++ ts)) = length-slot (as_one a b) hs ts in
    record {
      blocks = rw is spread;
      aligned = rw is (aligned_pair a b hs ts aligned);
      same_gaps = rw is (sym (gaps_pair a b from end hs ts e));
      count = rw is (omega arith);
      among = rw is (in_slot (as_one a b) hs ts);
      left = rw is (without-slot (as_one a b) from end hs ts spread
          ∙ sym (ap (without (begins_at b.place)) (without-slot a from end hs (b ∷ ts) up) ∙ without-slot b from end hs ts (spread-remove a from end hs (b ∷ ts) up)));
    }

pub joined_blocks : (a b : Run) (from end : ℕ) (held : List Run) → IsSpread from end held → AllAligned held → In a held → In b held → end_of a ≡ b.place
    → JoinedBlocks a b from end held
joined_blocks a b from end held up aligned ha hb e =
    let p = pair a b from end held up ha hb e in
    subst (λ l. IsSpread from end l → AllAligned l → JoinedBlocks a b from end l) (sym p.is) (λ u al. joined_at a b from end p.front p.back u al e) up aligned

-- a space without a current run in which two blocks are joined
pub blocks_of : (a b : Run) (s : Space) → IsSound s → Contains s.held a → Contains s.held b → end_of a ≡ b.place → JoinedBlocks a b 16 (places_end s.capacity) s.held
blocks_of a b s sound ha hb e =
    joined_blocks a b 16 (places_end s.capacity) s.held sound.blocks sound.aligned (contains_in a s.held ha) (contains_in b s.held hb) e

pub join_sound : (a b : Run) (s : Space) → IsSound s → Contains s.held a → Contains s.held b → end_of a ≡ b.place → s.current ≡ None → IsSound (with_joined a b s)
join_sound a b s sound ha hb e idle =
    let j = blocks_of a b s sound ha hb e in
    record { fits = sound.fits; blocks = j.blocks; aligned = j.aligned; current = rw idle tt }

pub join_kept : (a b : Run) (s : Space) (runs : List Run) (room blocks : ℕ) → KeepsRuns s runs room blocks → Contains s.held a → Contains s.held b → end_of a ≡ b.place → s.current ≡ None
    → KeepsRuns (with_joined a b s) runs room (blocks - 1)
join_kept a b s runs room blocks kept ha hb e idle =
    let j = blocks_of a b s kept.sound ha hb e in
    let count : blocks ≡ length s.held = kept.count in
    let has_room : length s.held < room = kept.has_room in
    let fewer : length s.held ≡ suc (length (joined_in a b s.held)) = j.count in
    record {
      sound = join_sound a b s kept.sound ha hb e idle;
      others = kept.others ∙ ap (without (is_current s.current)) (sym j.same_gaps);
      count = omega arith;
      has_room = omega arith;
    }

-- there is some block
pub count_some : (b : Run) (s : Space) (runs : List Run) (room blocks : ℕ) → KeepsRuns s runs room blocks → Contains s.held b → 1 ≤ blocks
count_some b s runs room blocks kept has =
    let l : has.0 < length s.held = has.1 in let count : blocks ≡ length s.held = kept.count in omega arith
