-- The laws of the current run.
use Rattle.std.proofs.Common.{ℕ, ◌≡◌, ◌<◌, List, [], ◌∷◌, ◌++◌, arith, refl, ap, sym, ◌∙◌, false, Some, subst}
use Rattle.std.proofs.lemmas.Bool.{ne_eqb}
use Rattle.std.specs.List.{list_any}
use Rattle.std.specs.Option.{MatchOption}
use Rattle.gc_free.specs.declared.run.Run.{Run}
use Rattle.gc_free.specs.Runs.{end_of, gaps, without, begins_at, IsSpread}
use Rattle.gc_free.specs.Space.{Space, places_end, free_runs, touches, IsBetween, IsSound}
use Rattle.gc_free.specs.Laws.{CurrentRunIsFree, UsedUpRunStandsApart}
use Rattle.gc_free.proofs.ByLength.{In}
use Rattle.gc_free.proofs.TwoOrdersKept.{In-insert_run}
use Rattle.gc_free.proofs.Slots.{lower, upper, before, behind, gaps-split, Under, Over}
use Rattle.gc_free.proofs.Between.{between_slot}
use Rattle.gc_free.proofs.MergedRuns.{gap_none}
use Rattle.gc_free.proofs.Taking.{put_back, open_slot}
use Rattle.gc_free.proofs.LawsOfRuns.{list_any-append}
use Rattle.gc_free.proofs.LawsOfCalls.{in_contains}

current_between : (s : Space) (c : Run) → IsSound s → s.current ≡ Some c → IsBetween c 16 (places_end s.capacity) s.held
current_between s c sound own = subst (λ o. MatchOption o (Unit {0}) (λ z. IsBetween z 16 (places_end s.capacity) s.held)) own sound.current

pub current_run_is_free : CurrentRunIsFree
current_run_is_free s c sound own some =
    let back = put_back c 16 (places_end s.capacity) s.held sound.blocks (current_between s c sound own) in
    in_contains c (free_runs s) (subst (In c) (back.some some) (In-insert_run c (without (begins_at c.place) (free_runs s))))

-- an empty run touches none that ends below it or begins above it
under_apart : (c : Run) (xs : List Run) → c.length ≡ 0 → Under c.place xs → list_any (touches c) xs ≡ false
under_apart c [] none u = refl
under_apart c (x ∷ xs) none u =
    let a : end_of x < c.place = u.0 in
    simp (ne_eqb (end_of c) x.place (λ e. omega arith), ne_eqb (end_of x) c.place (λ e. omega arith)) (under_apart c xs none u.2)

over_apart : (c : Run) (xs : List Run) → c.length ≡ 0 → Over c.place xs → list_any (touches c) xs ≡ false
over_apart c [] none o = refl
over_apart c (x ∷ xs) none o =
    let a : c.place < x.place = o.0 in
    simp (ne_eqb (end_of c) x.place (λ e. omega arith), ne_eqb (end_of x) c.place (λ e. omega arith)) (over_apart c xs none o.2)

slot_apart : (c : Run) (from end : ℕ) (hs ts : List Run) → IsSpread from end (hs ++ ts) → c.place ≡ lower from hs → end_of c ≡ upper end ts → c.length ≡ 0
    → list_any (touches c) (gaps from end (hs ++ ts)) ≡ false
slot_apart c from end hs ts up begins ends none =
    let at = open_slot from end hs ts up in
    let under : Under c.place (before from hs) = subst (λ p. Under p (before from hs)) (sym begins) at.under in
    let over : Over c.place (behind end ts) = subst (λ p. Over p (behind end ts)) (let e : upper end ts ≡ c.place = omega arith in e) at.over in
    ap (list_any (touches c)) (gaps-split from end hs ts ∙ ap (λ g. before from hs ++ (g ++ behind end ts)) (gap_none (lower from hs) (upper end ts) (omega arith)))
    ∙ list_any-append (touches c) (before from hs) (behind end ts)
    ∙ rw (under_apart c (before from hs) none under) (over_apart c (behind end ts) none over)

pub used_up_run_stands_apart : UsedUpRunStandsApart
used_up_run_stands_apart s c sound own none =
    let slot = between_slot c 16 (places_end s.capacity) s.held (current_between s c sound own) in
    subst (λ l. IsSpread 16 (places_end s.capacity) l → list_any (touches c) (gaps 16 (places_end s.capacity) l) ≡ false) (sym slot.is)
    (λ u. slot_apart c 16 (places_end s.capacity) slot.front slot.back u slot.begins slot.ends none) sound.blocks
