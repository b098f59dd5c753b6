-- Blocks that end before a place change nothing of the free run that begins there.
use Rattle.std.proofs.Common.{ℕ, ◌≡◌, ◌≤◌, ◌<◌, List, [], ◌∷◌, ◌++◌, arith, refl, ap, sym, ◌∙◌, inl, inr, ◌⊎◌, None}
use Rattle.std.proofs.lemmas.Bool.{lt-ltb, le-ltb, ne_eqb, cases_lt}
use Rattle.std.proofs.lemmas.List.Folds.{find-append}
use Rattle.std.specs.List.{find}
use Rattle.std.specs.Option.{option_map}
use Rattle.gc_free.specs.declared.run.Run.{Run}
use Rattle.gc_free.specs.Runs.{end_of, gap, gaps, without, begins_at, IsSpread}
use Rattle.gc_free.specs.Space.{Space, IsSound, places_end, give}
use Rattle.gc_free.specs.Listed.{run_length_at}
use Rattle.gc_free.specs.Laws.{give_all, AreHeld}
use Rattle.gc_free.specs.Waiting.{CanWait, EndBy}
use Rattle.gc_free.proofs.ByLength.{In, In-place}
use Rattle.gc_free.proofs.Between.{without-slot}
use Rattle.gc_free.proofs.LawsOfCalls.{give_sound, contains_in}

-- the gap that begins before a place is not the one that begins there
gap_before : (place from to : ℕ) → from < place → find (begins_at place) (gap from to) ≡ None
gap_before place from to l =
    elim (cases_lt from to) [
      | inl some ↦ simp (lt-ltb from to some, ne_eqb from place (λ e. omega arith))
      | inr none ↦ simp (le-ltb from to none)
    ]

past_gap : (place from to : ℕ) (rs : List Run) → from < place → find (begins_at place) (gap from to ++ rs) ≡ find (begins_at place) rs
past_gap place from to rs l = find-append (begins_at place) (gap from to) rs ∙ rw (gap_before place from to l) refl

-- nor does it matter where the first gap begins
from_before : (place p q end : ℕ) (held : List Run) → p < place → q < place → find (begins_at place) (gaps p end held) ≡ find (begins_at place) (gaps q end held)
from_before place p q end [] l m = gap_before place p end l ∙ sym (gap_before place q end m)
from_before place p q end (x ∷ xs) l m =
    past_gap place p x.place (gaps (end_of x) end xs) l ∙ sym (past_gap place q x.place (gaps (end_of x) end xs) m)

without_ended : (b : Run) (place from end : ℕ) (held : List Run) → IsSpread from end held → In b held → end_of b < place
    → find (begins_at place) (gaps from end (without (begins_at b.place) held)) ≡ find (begins_at place) (gaps from end held)
without_ended b place from end [] up among l = absurd among
without_ended b place from end (x ∷ xs) up (inl same) l =
    let low : from ≤ x.place = up.0 in
    let begins : x.place ≡ b.place = ap (λ z. z.place) same in
    let ends : end_of x ≡ end_of b = ap (λ z. end_of z) same in
    ap (λ p. find (begins_at place) (gaps from end (without (begins_at p) (x ∷ xs)))) (sym begins)
    ∙ ap (λ hs. find (begins_at place) (gaps from end hs)) (without-slot x from end [] xs up)
    ∙ from_before place from (end_of x) end xs (omega arith) (omega arith)
    ∙ sym (past_gap place from x.place (gaps (end_of x) end xs) (omega arith))
without_ended b place from end (x ∷ xs) up (inr among) l =
    let p = In-place (end_of x) end b xs up.3 among in
    let past : end_of x ≤ b.place = p.0 in let low : from ≤ x.place = up.0 in let some : 0 < x.length = up.1 in
    rw (ne_eqb x.place b.place (λ e. omega arith))
    (past_gap place from x.place _ (omega arith) ∙ without_ended b place (end_of x) end xs up.3 among l
    ∙ sym (past_gap place from x.place (gaps (end_of x) end xs) (omega arith)))

given_ended : (b : Run) (place : ℕ) (s : Space) → IsSound s → In b s.held → end_of b < place → run_length_at place (give b s) ≡ run_length_at place s
given_ended b place s sound among l =
    ap (λ r. option_map (λ x. x.length) r) (without_ended b place 16 (places_end s.capacity) s.held sound.blocks among l)

all_ended : (place high : ℕ) (xs : List Run) (s : Space) → IsSound s → AreHeld xs s → EndBy high xs → high < place
    → run_length_at place (give_all xs s) ≡ run_length_at place s
all_ended place high [] s sound h ends l = refl
all_ended place high (x ∷ xs) s sound h ends l =
    let own : end_of x ≤ high = ends.0 in
    all_ended place high xs (give x s) (give_sound s x sound h.0) h.1 ends.1 l ∙ given_ended x place s sound (contains_in x s.held h.0) (omega arith)

-- the free run at a place behind all that waits
pub run_behind : (place high : ℕ) (xs : List Run) (s : Space) → (xs ≡ []) ⊎ CanWait xs s → EndBy high xs → high < place
    → run_length_at place (give_all xs s) ≡ run_length_at place s
run_behind place high xs s (inl e) ends l = ap (λ bs. run_length_at place (give_all bs s)) e
run_behind place high xs s (inr w) ends l = all_ended place high xs s w.sound w.held ends l
