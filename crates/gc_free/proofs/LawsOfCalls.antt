-- The laws of lists of calls and of batches.
use Rattle.std.proofs.Common.{ℕ, zero, suc, ◌≡◌, ◌≤◌, ◌<◌, ◌+◌, ◌-◌, ◌^◌, min, max, length, List, [], ◌∷◌, ◌++◌, arith, refl, ap, sym, ◌∙◌, true, false, inl, inr, Option, Some, None, subst, Bool}
use Rattle.std.proofs.lemmas.Bool.{lt-ltb, le-ltb, eq-eqb, ne_eqb, cases_lt, cases_Bool, both_ways}
use Rattle.std.specs.List.{find, Contains}
use Rattle.std.specs.Option.{MatchOption}
use Rattle.gc_free.specs.declared.run.Run.{Run}
use Rattle.gc_free.specs.Runs.{run, end_of, gaps, without, begins_at, IsSpread}
use Rattle.gc_free.specs.Space.{Space, places_end, free_runs, covers, current_with, new_space, take, give, grow, IsBetween, IsSound}
use Rattle.gc_free.specs.Kept.{is_current, KeepsRuns}
use Rattle.gc_free.specs.Laws.{Call, Take, Give, Grow, after, IsAllowed, after_all, AreAllowed, EveryListOfCallsIsSound, give_all, AreHeld, IsReordered, nothing, later, exchanged, both, OrderOfGivingBackIsNothing}
use Rattle.gc_free.proofs.ByLength.{In}
use Rattle.gc_free.proofs.Keeping.{give_kept, grow_kept, idle_kept}
use Rattle.gc_free.proofs.PlacedRuns.{place_kept}
use Rattle.gc_free.proofs.Between.{beside, holding, between_within, without-slot}
use Rattle.gc_free.proofs.Giving.{touching, on_left, on_right, not_at_all, touches_left, touches_right, block_site}
use Rattle.gc_free.proofs.MergedRuns.{around_is}
use Rattle.gc_free.proofs.Slots.{lower, upper, before, behind, gaps-split}

-- a free list could keep any sound space
as_kept : (s : Space) → IsSound s → KeepsRuns s (without (is_current s.current) (free_runs s)) (length s.held + 3) (length s.held)
as_kept s sound = record { sound = sound; others = refl; count = refl; has_room = omega arith }

new_sound : (capacity : ℕ) → capacity < 2 ^ 64 → IsSound (new_space capacity)
new_sound capacity fits =
    record {
      fits = fits;
      blocks = tt;
      aligned = tt;
      current = elim (cases_lt 16 (places_end capacity)) [
        | inl l ↦ rw (lt-ltb 16 (places_end capacity) l) (refl, omega arith)
        | inr l ↦ rw (le-ltb 16 (places_end capacity) l) tt
      ];
    }

take_sound : (s : Space) (size : ℕ) → IsSound s → IsAllowed (Take size) s → IsSound (take size s).space
take_sound s size sound ok =
    (place_kept size s (without (is_current s.current) (free_runs s)) (length s.held + 3) (length s.held + 3) (length s.held) (as_kept s sound) (omega arith) ok.0 ok.1 (omega arith)).placed.kept.sound

pub give_sound : (s : Space) (b : Run) → IsSound s → Contains s.held b → IsSound (give b s)
give_sound s b sound has =
    ((give_kept b s (without (is_current s.current) (free_runs s)) (length s.held + 3) (length s.held) (as_kept s sound) has).kept (length s.held + 3) (omega arith)).sound

grow_sound : (s : Space) (additional : ℕ) → IsSound s → IsSound (grow additional s)
grow_sound s additional sound =
    let capacity = min (s.capacity + additional) (2 ^ 64 - 1) in
    let from = max 16 (places_end s.capacity) in
    let runs = without (is_current s.current) (free_runs s) in
    let old : s.capacity < 2 ^ 64 = sound.fits in
    elim (cases_lt from (places_end capacity)) [
      | inl l ↦ rw (lt-ltb from (places_end capacity) l)
          ((grow_kept s capacity runs (length s.held + 3) (length s.held) (as_kept s sound) (omega arith) (omega arith) l).kept (length s.held + 3) (omega arith)).sound
      | inr l ↦ rw (le-ltb from (places_end capacity) l)
          (idle_kept s capacity runs (length s.held + 3) (length s.held) (as_kept s sound) (omega arith) (omega arith) l).sound
    ]

call_sound : (call : Call) (s : Space) → IsSound s → IsAllowed call s → IsSound (after call s)
call_sound (Take size) s sound ok = take_sound s size sound ok
call_sound (Give b) s sound ok = give_sound s b sound ok
call_sound (Grow additional) s sound ok = grow_sound s additional sound

all_sound : (calls : List Call) (s : Space) → IsSound s → AreAllowed calls s → IsSound (after_all calls s)
all_sound [] s sound ok = sound
all_sound (call ∷ calls) s sound ok = all_sound calls (after call s) (call_sound call s sound ok.0) ok.1

pub every_list_of_calls_is_sound : EveryListOfCallsIsSound
every_list_of_calls_is_sound capacity calls fits ok = all_sound calls (new_space capacity) (new_sound capacity fits) ok

-- BATCHES

-- two runs that both have a place, or end before it, are the same where both lie between blocks
between_unique : (x y : Run) (q from end : ℕ) (bs : List Run) → IsSpread from end bs → IsBetween x from end bs → IsBetween y from end bs
    → x.place ≤ q → q ≤ end_of x → y.place ≤ q → q ≤ end_of y → x ≡ y
between_unique x y q from end [] up hx hy a b c d =
    let p : x.place ≡ y.place = hx.0 ∙ sym hy.0 in let e : end_of x ≡ end_of y = hx.1 ∙ sym hy.1 in
    ap (λ n. run n x.length) p ∙ ap (run y.place) (let l : x.length ≡ y.length = omega arith in l)
between_unique x y q from end (b ∷ bs) up (inl hx) (inl hy) a b' c d =
    let p : x.place ≡ y.place = hx.0 ∙ sym hy.0 in let e : end_of x ≡ end_of y = hx.1 ∙ sym hy.1 in
    ap (λ n. run n x.length) p ∙ ap (run y.place) (let l : x.length ≡ y.length = omega arith in l)
between_unique x y q from end (b ∷ bs) up (inl hx) (inr hy) a b' c d =
    let w = between_within y (end_of b) end bs up.3 hy in
    let begins : end_of b ≤ y.place = w.begins in let ends : end_of x ≡ b.place = hx.1 in let some : 0 < b.length = up.1 in
    absurd (omega arith)
between_unique x y q from end (b ∷ bs) up (inr hx) (inl hy) a b' c d =
    let w = between_within x (end_of b) end bs up.3 hx in
    let begins : end_of b ≤ x.place = w.begins in let ends : end_of y ≡ b.place = hy.1 in let some : 0 < b.length = up.1 in
    absurd (omega arith)
between_unique x y q from end (b ∷ bs) up (inr hx) (inr hy) a b' c d = between_unique x y q (end_of b) end bs up.3 hx hy a b' c d

-- the current run only grows
record Grows (c : Run) (o : Option Run) : Type 0 where
  now : Run
  is : o ≡ Some now
  begins : now.place ≤ c.place
  ends : end_of c ≤ end_of now

grows_at : (b c : Run) (from end : ℕ) (hs ts : List Run) → IsSpread from end (hs ++ b ∷ ts) → IsBetween c from end (hs ++ b ∷ ts)
    → Grows c (current_with b (Some c) (find (covers b.place) (gaps from end (hs ++ ts))))
grows_at b c from end hs ts up between =
    let lo = lower from hs in let hi = upper end ts in
    let site = block_site b from end hs ts up in
    let left : lo ≤ b.place = site.left in let some : 0 < b.length = site.some in let right : end_of b ≤ hi = site.right in
    let side = beside c b from end hs ts up between in
    let around : find (covers b.place) (gaps from end (hs ++ ts)) ≡ Some (run lo (hi - lo)) =
    ap (find (covers b.place)) (gaps-split from end hs ts) ∙ around_is b (before from hs) (behind end ts) lo hi site in
    elim (touching b c) [
      | on_left e ↦ let begins = side.left e in record { now = run lo (hi - lo); is = rw (touches_left b c e) around; begins = omega arith; ends = omega arith }
      | on_right e ↦ let ends = side.right (sym e) in record { now = run lo (hi - lo); is = rw (touches_right b c e) around; begins = omega arith; ends = omega arith }
      | not_at_all l r apart ↦ record { now = c; is = rw apart refl; begins = omega arith; ends = omega arith }
    ]

grows_slot : (b c : Run) (from end : ℕ) (hs ts : List Run) → IsSpread from end (hs ++ b ∷ ts) → IsBetween c from end (hs ++ b ∷ ts)
    → Grows c (current_with b (Some c) (find (covers b.place) (gaps from end (without (begins_at b.place) (hs ++ b ∷ ts)))))
grows_slot b c from end hs ts up between = rw (without-slot b from end hs ts up) (grows_at b c from end hs ts up between)

grows : (b c : Run) (from end : ℕ) (held : List Run) → IsSpread from end held → IsBetween c from end held → Contains held b
    → Grows c (current_with b (Some c) (find (covers b.place) (gaps from end (without (begins_at b.place) held))))
grows b c from end held up between has =
    let h = holding b held has in
    subst (λ l. IsSpread from end l → IsBetween c from end l → Grows c (current_with b (Some c) (find (covers b.place) (gaps from end (without (begins_at b.place) l))))) (sym h.is)
    (grows_slot b c from end h.front h.back) up between

swap_step : (f g : Run → Bool) (x : Run) (xs : List Run) (p q : Bool) → f x ≡ p → g x ≡ q → without f (without g xs) ≡ without g (without f xs)
    → without f (without g (x ∷ xs)) ≡ without g (without f (x ∷ xs))
swap_step f g x xs true true e h i = simp (e, h) i
swap_step f g x xs true false e h i = simp (e, h) i
swap_step f g x xs false true e h i = simp (e, h) i
swap_step f g x xs false false e h i = simp (e, h) (ap (λ l. x ∷ l) i)

-- two tests leave out their runs in either order
without-swap : (f g : Run → Bool) (xs : List Run) → without f (without g xs) ≡ without g (without f xs)
without-swap f g [] = refl
without-swap f g (x ∷ xs) = swap_step f g x xs (f x) (g x) refl refl (without-swap f g xs)

pub contains_in : (b : Run) (xs : List Run) → Contains xs b → In b xs
contains_in b [] h = let l : h.0 < 0 = h.1 in omega arith
contains_in b (x ∷ xs) (zero, l, e) = inl e
contains_in b (x ∷ xs) (suc k, l, e) = inr (contains_in b xs (k, (let l' : suc k < suc (length xs) = l in omega arith), e))

pub in_contains : (b : Run) (xs : List Run) → In b xs → Contains xs b
in_contains b [] h = absurd h
in_contains b (x ∷ xs) (inl e) = (0, omega arith, e)
in_contains b (x ∷ xs) (inr h) = let c = in_contains b xs h in (suc c.0, (let l : c.0 < length xs = c.1 in omega arith), c.2)

pub record Stays (test : Run → Bool) (b : Run) (xs : List Run) : Type 0 where
  pub among : In b xs
  pub passes : test b ≡ false

pub in_without : (test : Run → Bool) (b : Run) (xs : List Run) → In b (without test xs) → Stays test b xs
in_without test b [] h = absurd h
in_without test b (x ∷ xs) h =
    elim (cases_Bool (test x)) [
      | inl e ↦ let i = in_without test b xs (rw e at h) in record { among = inr i.among; passes = i.passes }
      | inr e ↦ elim (rw e at h) [
        | inl f ↦ record { among = inl f; passes = subst (λ z. test z ≡ false) f e }
        | inr i ↦ let j = in_without test b xs i in record { among = inr j.among; passes = j.passes }
      ]
    ]

without_in : (test : Run → Bool) (b : Run) (xs : List Run) → In b xs → test b ≡ false → In b (without test xs)
without_in test b [] h e = h
without_in test b (x ∷ xs) h e =
    elim (cases_Bool (test x)) [
      | inl f ↦ rw f (elim h [ inl same ↦ absurd (both_ways (test b) e (subst (λ z. test z ≡ true) same f)) | inr i ↦ without_in test b xs i e ])
      | inr f ↦ rw f (elim h [ inl same ↦ inl same | inr i ↦ inr (without_in test b xs i e) ])
    ]

-- two blocks are given back in either order
record Exchanges (a b : Run) (s : Space) : Type 0 where
  same : give b (give a s) ≡ give a (give b s)
  first : Contains s.held b
  second : Contains (give b s).held a

places_swap : (a b : Run) (held : List Run) → without (begins_at b.place) (without (begins_at a.place) held) ≡ without (begins_at a.place) (without (begins_at b.place) held)
places_swap a b held = without-swap (begins_at b.place) (begins_at a.place) held

pub space_same : (capacity : ℕ) (g h : List Run) (o p : Option Run) → g ≡ h → o ≡ p
    → (let x : Space = record { capacity = capacity; held = g; current = o } in x) ≡ record { capacity = capacity; held = h; current = p }
space_same capacity g h o p e f = ap (λ l. record { capacity = capacity; held = l; current = o }) e ∙ ap (λ c. record { capacity = capacity; held = h; current = c }) f

-- the current run after both, in whichever order
same_current : (from end : ℕ) (c x y : Run) (o p : Option Run) (g h : List Run) → g ≡ h → IsSpread from end g
    → MatchOption o (Unit {0}) (λ z. IsBetween z from end g) → MatchOption p (Unit {0}) (λ z. IsBetween z from end h)
    → (i : Grows x o) → (j : Grows y p) → x.place ≤ c.place → end_of c ≤ end_of x → y.place ≤ c.place → end_of c ≤ end_of y → o ≡ p
same_current from end c x y o p g h e up bo bp i j xb xe yb ye =
    let own : IsBetween i.now from end g = rw i.is at bo in
    let other : IsBetween j.now from end h = rw j.is at bp in
    let other' : IsBetween j.now from end g = subst (IsBetween j.now from end) (sym e) other in
    let ib : i.now.place ≤ x.place = i.begins in let ie : end_of x ≤ end_of i.now = i.ends in
    let jb : j.now.place ≤ y.place = j.begins in let je : end_of y ≤ end_of j.now = j.ends in
    i.is ∙ ap (λ z. Some z) (between_unique i.now j.now c.place from end g up own other' (omega arith) (omega arith) (omega arith) (omega arith)) ∙ sym j.is

grows_from : (s : Space) (c b : Run) → s.current ≡ Some c → IsSound s → Contains s.held b → Grows c (give b s).current
grows_from s c b own sound has =
    let end = places_end s.capacity in
    let between : IsBetween c 16 end s.held = subst (λ o. MatchOption o (Unit {0}) (λ z. IsBetween z 16 end s.held)) own sound.current in
    subst (λ o. Grows c (current_with b o (find (covers b.place) (gaps 16 end (without (begins_at b.place) s.held))))) (sym own)
    (grows b c 16 end s.held sound.blocks between has)

exchange_by : (s : Space) (o : Option Run) → s.current ≡ o → (a b : Run) → IsSound s → Contains s.held a → Contains s.held b → Contains (give a s).held b → Contains (give b s).held a
    → (give b (give a s)).current ≡ (give a (give b s)).current
exchange_by s None own a b sound ha hb hab hba = rw own refl
exchange_by s (Some c) own a b sound ha hb hab hba =
    let end = places_end s.capacity in
    let ga = grows_from s c a own sound ha in
    let gb = grows_from s c b own sound hb in
    let sa = give_sound s a sound ha in
    let sb = give_sound s b sound hb in
    let gab = grows_from (give a s) ga.now b ga.is sa hab in
    let gba = grows_from (give b s) gb.now a gb.is sb hba in
    let sab = give_sound (give a s) b sa hab in
    let sba = give_sound (give b s) a sb hba in
    same_current 16 end c ga.now gb.now (give b (give a s)).current (give a (give b s)).current (give b (give a s)).held (give a (give b s)).held (places_swap a b s.held) sab.blocks sab.current sba.current
    gab gba ga.begins ga.ends gb.begins gb.ends

exchange : (s : Space) (a b : Run) → IsSound s → Contains s.held a → Contains (give a s).held b → Exchanges a b s
exchange s a b sound ha hab =
    let i = in_without (begins_at a.place) b s.held (contains_in b (give a s).held hab) in
    let apart : b.place ≡ a.place → ⊥ = λ e. both_ways (begins_at a.place b) i.passes (eq-eqb b.place a.place e) in
    let hb = in_contains b s.held i.among in
    let hba = in_contains a (give b s).held (without_in (begins_at b.place) a s.held (contains_in a s.held ha) (ne_eqb a.place b.place (λ e. apart (sym e)))) in
    record {
      same = space_same s.capacity _ _ _ _ (places_swap a b s.held) (exchange_by s s.current refl a b sound ha hb hab hba);
      first = hb;
      second = hba;
    }

pub record SameBatch (bs cs : List Run) (s : Space) : Type 0 where
  pub same : give_all bs s ≡ give_all cs s
  pub are_held : AreHeld cs s

pub reordered : (bs cs : List Run) → IsReordered bs cs → (s : Space) → IsSound s → AreHeld bs s → SameBatch bs cs s
reordered bs cs nothing s sound ok = record { same = refl; are_held = tt }
reordered bs cs (later b xs ys h) s sound ok =
    let i = reordered xs ys h (give b s) (give_sound s b sound ok.0) ok.1 in record { same = i.same; are_held = (ok.0, i.are_held) }
reordered bs cs (exchanged a b xs) s sound ok =
    let e = exchange s a b sound ok.0 ok.1.0 in
    record { same = ap (give_all xs) e.same; are_held = (e.first, (e.second, subst (AreHeld xs) e.same ok.1.1)) }
reordered bs cs (both xs ys zs h k) s sound ok =
    let i = reordered xs ys h s sound ok in
    let j = reordered ys zs k s sound i.are_held in
    record { same = i.same ∙ j.same; are_held = j.are_held }

pub order_of_giving_back_is_nothing : OrderOfGivingBackIsNothing
order_of_giving_back_is_nothing s bs cs sound ok h = (reordered bs cs h s sound ok).same
