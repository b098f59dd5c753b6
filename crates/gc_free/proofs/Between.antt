-- A run that is all there is between two neighbours among the blocks.
use Rattle.std.proofs.Common.{ℕ, zero, suc, ◌≡◌, ◌≤◌, ◌<◌, ◌+◌, ◌-◌, ◌%◌, length, List, [], ◌∷◌, ◌++◌, arith, refl, ap, sym, inl, inr, append-nil}
use Rattle.std.proofs.lemmas.Bool.{lt-ltb, le-ltb, eq-eqb, ne_eqb, cases_lt}
use Rattle.std.specs.List.{Contains}
use Rattle.gc_free.specs.declared.run.Run.{Run}
use Rattle.gc_free.specs.Runs.{end_of, gaps, insert_run, without, begins_at, IsSpread}
use Rattle.gc_free.specs.Space.{IsBetween, IsAligned, AllAligned}
use Rattle.gc_free.proofs.ByLength.{In}
use Rattle.gc_free.proofs.Slots.{lower, upper, lower-ge, spread-behind}

-- the blocks before and behind a run
pub record Slot (c : Run) (from end : ℕ) (held : List Run) : Type 0 where
  pub front : List Run
  pub back : List Run
  pub is : held ≡ front ++ back
  pub begins : c.place ≡ lower from front
  pub ends : end_of c ≡ upper end back

pub between_slot : (c : Run) (from end : ℕ) (held : List Run) → IsBetween c from end held → Slot c from end held
between_slot c from end [] h = record { front = []; back = []; is = refl; begins = h.0; ends = h.1 }
between_slot c from end (b ∷ bs) (inl h) = record { front = []; back = b ∷ bs; is = refl; begins = h.0; ends = h.1 }
between_slot c from end (b ∷ bs) (inr h) =
    let s = between_slot c (end_of b) end bs h in
    record { front = b ∷ s.front; back = s.back; is = ap (λ l. b ∷ l) s.is; begins = s.begins; ends = s.ends }

pub between_at : (c : Run) (from end : ℕ) (hs ts : List Run) → c.place ≡ lower from hs → end_of c ≡ upper end ts → IsBetween c from end (hs ++ ts)
between_at c from end [] [] e f = (e, f)
between_at c from end [] (t ∷ ts) e f = inl (e, f)
between_at c from end (h ∷ hs) ts e f = inr (between_at c (end_of h) end hs ts e f)

-- behind a block at its place
pub between_behind : (c : Run) (from end : ℕ) (hs : List Run) (b : Run) (ts : List Run) → c.place ≡ end_of b → end_of c ≡ upper end ts → IsBetween c from end (hs ++ b ∷ ts)
between_behind c from end [] b ts e f = inr (between_at c (end_of b) end [] ts e f)
between_behind c from end (h ∷ hs) b ts e f = inr (between_behind c (end_of h) end hs b ts e f)

pub record IsWithin (c : Run) (from end : ℕ) : Type 0 where
  pub begins : from ≤ c.place
  pub ends : end_of c ≤ end

pub between_within : (c : Run) (from end : ℕ) (held : List Run) → IsSpread from end held → IsBetween c from end held → IsWithin c from end
between_within c from end [] up h = record { begins = let e : c.place ≡ from = h.0 in omega arith; ends = let e : end_of c ≡ end = h.1 in omega arith }
between_within c from end (b ∷ bs) up (inl h) =
    let e : c.place ≡ from = h.0 in let f : end_of c ≡ b.place = h.1 in let within : end_of b ≤ end = up.2 in record { begins = omega arith; ends = omega arith }
between_within c from end (b ∷ bs) up (inr h) =
    let w = between_within c (end_of b) end bs up.3 h in
    let begins : end_of b ≤ c.place = w.begins in let a : from ≤ b.place = up.0 in
    record { begins = omega arith; ends = w.ends }

-- what a run between blocks has to do with one of the blocks
pub record Beside (c b : Run) (from end : ℕ) (hs ts : List Run) : Type 0 where
  pub left : end_of c ≡ b.place → c.place ≡ lower from hs
  pub left_back : c.place ≡ lower from hs → end_of c ≡ b.place
  pub right : c.place ≡ end_of b → end_of c ≡ upper end ts
  pub apart : (end_of c ≡ b.place → ⊥) → (c.place ≡ end_of b → ⊥) → IsBetween c from end (hs ++ ts)

-- the run right behind a place is all up to the next block
right_end : (c : Run) (from end : ℕ) (ts : List Run) → IsSpread from end ts → IsBetween c from end ts → c.place ≡ from → end_of c ≡ upper end ts
right_end c from end [] up h e = h.1
right_end c from end (t ∷ ts) up (inl h) e = h.1
right_end c from end (t ∷ ts) up (inr h) e =
    let w = between_within c (end_of t) end ts up.3 h in
    let begins : end_of t ≤ c.place = w.begins in let a : from ≤ t.place = up.0 in let b : 0 < t.length = up.1 in
    absurd (omega arith)

-- a run that doesn't begin at a place lies further behind it
shifted : (c : Run) (from end low : ℕ) (ts : List Run) → IsBetween c from end ts → (c.place ≡ from → ⊥) → IsBetween c low end ts
shifted c from end low [] h ne = absurd (ne h.0)
shifted c from end low (t ∷ ts) (inl h) ne = absurd (ne h.0)
shifted c from end low (t ∷ ts) (inr h) ne = inr h

pub beside : (c b : Run) (from end : ℕ) (hs ts : List Run) → IsSpread from end (hs ++ b ∷ ts) → IsBetween c from end (hs ++ b ∷ ts) → Beside c b from end hs ts
beside c b from end [] ts up (inl h) =
    let begins : c.place ≡ from = h.0 in let ends : end_of c ≡ b.place = h.1 in let some : 0 < b.length = up.1 in
    record { left = λ e. begins; left_back = λ e. ends; right = λ e. absurd (omega arith); apart = λ ne _. absurd (ne ends) }
beside c b from end [] ts up (inr h) =
    let some : 0 < b.length = up.1 in let low : from ≤ b.place = up.0 in
    let w = between_within c (end_of b) end ts up.3 h in
    let begins : end_of b ≤ c.place = w.begins in
    record {
      left = λ e. absurd (omega arith);
      left_back = λ e. absurd (omega arith);
      right = λ e. right_end c (end_of b) end ts up.3 h e;
      apart = λ _ ne. shifted c (end_of b) end from ts h ne;
    }
beside c b from end (h ∷ hs) ts up (inl g) =
    let begins : c.place ≡ from = g.0 in let ends : end_of c ≡ h.place = g.1 in
    let low : from ≤ h.place = up.0 in let some : 0 < h.length = up.1 in
    let behind = spread-behind (end_of h) end hs (b ∷ ts) up.3 in
    let past : lower (end_of h) hs ≤ b.place = behind.0 in
    let later : end_of h ≤ lower (end_of h) hs = lower-ge (end_of h) end hs (b ∷ ts) up.3 in
    record { left = λ e. absurd (omega arith); left_back = λ e. absurd (omega arith); right = λ e. absurd (omega arith); apart = λ _ _. inl (begins, ends) }
beside c b from end (h ∷ hs) ts up (inr g) =
    let i = beside c b (end_of h) end hs ts up.3 g in
    record { left = i.left; left_back = i.left_back; right = i.right; apart = λ l r. inr (i.apart l r) }

-- the same at the end of all blocks
pub last_left : (c : Run) (from end : ℕ) (held : List Run) → IsSpread from end held → IsBetween c from end held → end_of c ≡ end → c.place ≡ lower from held
last_left c from end [] up h e = h.0
last_left c from end (b ∷ bs) up (inl h) e =
    let ends : end_of c ≡ b.place = h.1 in let some : 0 < b.length = up.1 in let within : end_of b ≤ end = up.2 in absurd (omega arith)
last_left c from end (b ∷ bs) up (inr h) e = last_left c (end_of b) end bs up.3 h e

pub last_left_back : (c : Run) (from end : ℕ) (held : List Run) → IsSpread from end held → IsBetween c from end held → c.place ≡ lower from held → end_of c ≡ end
last_left_back c from end [] up h e = h.1
last_left_back c from end (b ∷ bs) up (inl h) e =
    let begins : c.place ≡ from = h.0 in let low : from ≤ b.place = up.0 in let some : 0 < b.length = up.1 in
    let later : end_of b ≤ lower (end_of b) bs = lower-ge (end_of b) end bs [] (rw append-nil up.3) in absurd (omega arith)
last_left_back c from end (b ∷ bs) up (inr h) e = last_left_back c (end_of b) end bs up.3 h e

pub last_apart : (c : Run) (from end further : ℕ) (held : List Run) → IsBetween c from end held → (end_of c ≡ end → ⊥) → IsBetween c from further held
last_apart c from end further [] h ne = absurd (ne h.1)
last_apart c from end further (b ∷ bs) (inl h) ne = inl h
last_apart c from end further (b ∷ bs) (inr h) ne = inr (last_apart c (end_of b) end further bs h ne)

-- each free run is all there is between two neighbours
pub gap_between : (r : Run) (from end : ℕ) (held : List Run) → In r (gaps from end held) → IsBetween r from end held
gap_between r from end [] h =
    elim (cases_lt from end) [
      | inl l ↦ elim (rw (lt-ltb from end l) at h) [
        | inl e ↦ (ap (λ x. x.place) (sym e), (let p : from ≡ r.place = ap (λ x. x.place) e in let n : end - from ≡ r.length = ap (λ x. x.length) e in omega arith))
        | inr i ↦ absurd i
      ]
      | inr l ↦ absurd (rw (le-ltb from end l) at h)
    ]
gap_between r from end (b ∷ bs) h =
    elim (cases_lt from b.place) [
      | inl l ↦ elim (rw (lt-ltb from b.place l) at h) [
        | inl e ↦ inl (ap (λ x. x.place) (sym e), (let p : from ≡ r.place = ap (λ x. x.place) e in let n : b.place - from ≡ r.length = ap (λ x. x.length) e in omega arith))
        | inr i ↦ inr (gap_between r (end_of b) end bs i)
      ]
      | inr l ↦ inr (gap_between r (end_of b) end bs (rw (le-ltb from b.place l) at h))
    ]

-- BLOCKS AT A SLOT

pub insert_run-slot : (b : Run) (from end : ℕ) (hs ts : List Run) → IsSpread from end (hs ++ ts) → lower from hs ≤ b.place → 0 < b.length → end_of b ≤ upper end ts
    → insert_run b (hs ++ ts) ≡ hs ++ b ∷ ts
insert_run-slot b from end [] [] up l some r = refl
insert_run-slot b from end [] (t ∷ ts) up l some r = rw (le-ltb t.place b.place (omega arith))
insert_run-slot b from end (h ∷ hs) ts up l some r =
    let later : end_of h ≤ lower (end_of h) hs = lower-ge (end_of h) end hs ts up.3 in let more : 0 < h.length = up.1 in
    rw (lt-ltb h.place b.place (omega arith)) (ap (λ l. h ∷ l) (insert_run-slot b (end_of h) end hs ts up.3 l some r))

pub spread-insert : (b : Run) (from end : ℕ) (hs ts : List Run) → IsSpread from end (hs ++ ts) → lower from hs ≤ b.place → 0 < b.length → end_of b ≤ upper end ts
    → IsSpread from end (hs ++ b ∷ ts)
spread-insert b from end [] [] up l some r = (l, some, r, tt)
spread-insert b from end [] (t ∷ ts) up l some r = (l, some, (let more : 0 < t.length = up.1 in let within : end_of t ≤ end = up.2 in omega arith), (r, up.1, up.2, up.3))
spread-insert b from end (h ∷ hs) ts up l some r = (up.0, up.1, up.2, spread-insert b (end_of h) end hs ts up.3 l some r)

spread-lower : (low from end : ℕ) (bs : List Run) → low ≤ from → IsSpread from end bs → IsSpread low end bs
spread-lower low from end [] l up = tt
spread-lower low from end (b ∷ bs) l up = (let a : from ≤ b.place = up.0 in omega arith, up.1, up.2, up.3)

pub spread-remove : (b : Run) (from end : ℕ) (hs ts : List Run) → IsSpread from end (hs ++ b ∷ ts) → IsSpread from end (hs ++ ts)
spread-remove b from end [] ts up = let a : from ≤ b.place = up.0 in spread-lower from (end_of b) end ts (omega arith) up.3
spread-remove b from end (h ∷ hs) ts up = (up.0, up.1, up.2, spread-remove b (end_of h) end hs ts up.3)

none_later : (p from end : ℕ) (bs : List Run) → p < from → IsSpread from end bs → without (begins_at p) bs ≡ bs
none_later p from end [] l up = refl
none_later p from end (b ∷ bs) l up =
    let a : from ≤ b.place = up.0 in rw (ne_eqb b.place p (λ e. omega arith)) (ap (λ l. b ∷ l) (none_later p (end_of b) end bs (omega arith) up.3))

pub without-slot : (b : Run) (from end : ℕ) (hs ts : List Run) → IsSpread from end (hs ++ b ∷ ts) → without (begins_at b.place) (hs ++ b ∷ ts) ≡ hs ++ ts
without-slot b from end [] ts up = let some : 0 < b.length = up.1 in rw (eq-eqb b.place b.place refl) (none_later b.place (end_of b) end ts (omega arith) up.3)
without-slot b from end (h ∷ hs) ts up =
    let behind = spread-behind (end_of h) end hs (b ∷ ts) up.3 in
    let past : lower (end_of h) hs ≤ b.place = behind.0 in
    let later : end_of h ≤ lower (end_of h) hs = lower-ge (end_of h) end hs (b ∷ ts) up.3 in
    let some : 0 < h.length = up.1 in
    rw (ne_eqb h.place b.place (λ e. omega arith)) (ap (λ l. h ∷ l) (without-slot b (end_of h) end hs ts up.3))

pub aligned-insert : (b : Run) (hs ts : List Run) → IsAligned b → AllAligned (hs ++ ts) → AllAligned (hs ++ b ∷ ts)
aligned-insert b [] ts a all = (a, all)
aligned-insert b (h ∷ hs) ts a all = (all.0, aligned-insert b hs ts a all.1)

pub aligned-remove : (b : Run) (hs ts : List Run) → AllAligned (hs ++ b ∷ ts) → AllAligned (hs ++ ts)
aligned-remove b [] ts all = all.1
aligned-remove b (h ∷ hs) ts all = (all.0, aligned-remove b hs ts all.1)

pub length-slot : (b : Run) (hs ts : List Run) → length (hs ++ b ∷ ts) ≡ suc (length (hs ++ ts))
length-slot b [] ts = refl
length-slot b (h ∷ hs) ts = ap (λ n. suc n) (length-slot b hs ts)

-- a run between aligned blocks begins at a multiple, where the first place is one
pub between_aligned : (c : Run) (from end : ℕ) (held : List Run) → from % 16 ≡ 0 → AllAligned held → IsBetween c from end held → c.place % 16 ≡ 0
between_aligned c from end [] a all h = let e : c.place ≡ from = h.0 in rw e a
between_aligned c from end (b ∷ bs) a all (inl h) = let e : c.place ≡ from = h.0 in rw e a
between_aligned c from end (b ∷ bs) a all (inr h) =
    let p : b.place % 16 ≡ 0 = all.0.0 in let n : b.length % 16 ≡ 0 = all.0.1 in
    between_aligned c (end_of b) end bs (omega arith) all.1 h

-- the blocks before and behind one that is held
pub record Holding (b : Run) (held : List Run) : Type 0 where
  pub front : List Run
  pub back : List Run
  pub is : held ≡ front ++ b ∷ back

pub holding : (b : Run) (held : List Run) → Contains held b → Holding b held
holding b [] h = absurd (let l : h.0 < 0 = h.1 in omega arith)
holding b (x ∷ xs) (zero, l, e) = record { front = []; back = xs; is = ap (λ z. z ∷ xs) e }
holding b (x ∷ xs) (suc k, l, e) =
    let h = holding b xs (k, (let l' : suc k < suc (length xs) = l in omega arith), e) in
    record { front = x ∷ h.front; back = h.back; is = ap (λ z. x ∷ z) h.is }

-- what gaps there are, at most one more than the blocks
pub length-gaps : (from end : ℕ) (held : List Run) → length (gaps from end held) ≤ length held + 1
length-gaps from end [] =
    elim (cases_lt from end) [
      | inl l ↦ rw (lt-ltb from end l) (omega arith)
      | inr l ↦ rw (le-ltb from end l) (omega arith)
    ]
length-gaps from end (b ∷ bs) =
    let le = length-gaps (end_of b) end bs in
    elim (cases_lt from b.place) [
      | inl l ↦ rw (lt-ltb from b.place l) (omega arith)
      | inr l ↦ rw (le-ltb from b.place l) (omega arith)
    ]
