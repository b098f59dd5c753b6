-- Runs that wait stand for the same in any order, and where some are joined or taken.
use Rattle.std.proofs.Common.{ℕ, zero, suc, ◌≡◌, ◌≤◌, ◌<◌, ◌+◌, ◌^◌, get_or, set, length, List, [], ◌∷◌, ◌++◌, arith, refl, ap, sym, ◌∙◌, inl, inr, ◌⊎◌, None, subst, append-nil}
use Rattle.std.specs.List.{Contains, insert, remove, find}
use Rattle.std.proofs.lemmas.List.{get_or_default}
use Rattle.gc_free.specs.declared.run.Run.{Run}
use Rattle.gc_free.specs.Runs.{end_of, without, begins_at, as_one, joined_in}
use Rattle.gc_free.specs.Space.{Space, IsSound, free_runs, covers, places_end, current_with, give}
use Rattle.gc_free.specs.Laws.{give_all, AreHeld, IsReordered, nothing, later, exchanged, both}
use Rattle.gc_free.specs.Waiting.{with_joined, CanWait, EndBy, StandsFor}
use Rattle.gc_free.proofs.ByLength.{In-place}
use Rattle.gc_free.proofs.Keeping.{places_end_fits}
use Rattle.gc_free.proofs.LawsOfCalls.{give_sound, reordered, space_same, in_without, contains_in, in_contains}
use Rattle.gc_free.proofs.JoinedBlocks.{blocks_of, join_sound}

-- ORDERS

pub reorder-refl : (xs : List Run) → IsReordered xs xs
reorder-refl [] = nothing
reorder-refl (x ∷ xs) = later x xs xs (reorder-refl xs)

to_front : (r : Run) (xs ys : List Run) → IsReordered (xs ++ r ∷ ys) (r ∷ (xs ++ ys))
to_front r [] ys = reorder-refl (r ∷ ys)
to_front r (x ∷ xs) ys = both _ _ _ (later x _ _ (to_front r xs ys)) (exchanged x r (xs ++ ys))

pub last_to_front : (r : Run) (xs : List Run) → IsReordered (xs ++ r ∷ []) (r ∷ xs)
last_to_front r xs = subst (λ l. IsReordered (xs ++ r ∷ []) (r ∷ l)) (append-nil xs) (to_front r xs [])

pub out_at : (xs : List Run) (n : ℕ) (d : Run) → n < length xs → IsReordered xs (get_or xs n d ∷ remove xs n)
out_at [] n d l = absurd (omega arith)
out_at (x ∷ xs) zero d l = reorder-refl (x ∷ xs)
out_at (x ∷ xs) (suc n) d l = both _ _ _ (later x _ _ (out_at xs n d (omega arith))) (exchanged x (get_or xs n d) (remove xs n))

pub set_at : (xs : List Run) (n : ℕ) (x : Run) → n < length xs → IsReordered (x ∷ remove xs n) (set xs n x)
set_at [] n x l = absurd (omega arith)
set_at (y ∷ ys) zero x l = reorder-refl (x ∷ ys)
set_at (y ∷ ys) (suc n) x l = both _ _ _ (exchanged x y (remove ys n)) (later y _ _ (set_at ys n x (omega arith)))

pub put_in : (xs : List Run) (n : ℕ) (x : Run) → IsReordered (x ∷ xs) (insert xs n x)
put_in [] zero x = reorder-refl (x ∷ [])
put_in [] (suc n) x = reorder-refl (x ∷ [])
put_in (y ∷ ys) zero x = reorder-refl (x ∷ y ∷ ys)
put_in (y ∷ ys) (suc n) x = both _ _ _ (exchanged x y ys) (later y _ _ (put_in ys n x))

-- ENDS

ends_in_order : (xs ys : List Run) → IsReordered xs ys → (high : ℕ) → EndBy high xs → EndBy high ys
ends_in_order xs ys nothing high h = tt
ends_in_order xs ys (later b bs cs r) high h = (h.0, ends_in_order bs cs r high h.1)
ends_in_order xs ys (exchanged a b bs) high h = (h.1.0, (h.0, h.1.1))
ends_in_order xs ys (both ps qs rs p q) high h = ends_in_order qs rs q high (ends_in_order ps qs p high h)

ends_joined : (a b : Run) (xs : List Run) → end_of a ≡ b.place → (high : ℕ) → EndBy high (a ∷ b ∷ xs) → EndBy high (as_one a b ∷ xs)
ends_joined a b xs e high h = let last : end_of b ≤ high = h.1.0 in (omega arith, h.1.1)

pub ends_more : (low high : ℕ) (xs : List Run) → low ≤ high → EndBy low xs → EndBy high xs
ends_more low high [] l h = tt
ends_more low high (x ∷ xs) l h = let own : end_of x ≤ low = h.0 in (omega arith, ends_more low high xs l h.1)

-- STANDING FOR THE SAME

pub then : (xs ys zs : List Run) (s t u : Space) → StandsFor xs s ys t → StandsFor ys t zs u → StandsFor xs s zs u
then xs ys zs s t u p q = record { same = q.same ∙ p.same; can_wait = q.can_wait; ends = λ high h. q.ends high (p.ends high h) }

pub in_order : (xs ys : List Run) (s : Space) → IsReordered xs ys → CanWait xs s → StandsFor xs s ys s
in_order xs ys s h w =
    let b = reordered xs ys h s w.sound w.held in
    record { same = sym b.same; can_wait = record { sound = w.sound; held = b.are_held; idle = w.idle }; ends = ends_in_order xs ys h }

pub idle_after : (r : Run) (s : Space) → s.current ≡ None → (give r s).current ≡ None
idle_after r s idle = ap (λ o. current_with r o (find (covers r.place) (free_runs (record { capacity = s.capacity; held = without (begins_at r.place) s.held; current = s.current })))) idle

-- the first is given back
pub taken : (r : Run) (xs : List Run) (s : Space) → CanWait (r ∷ xs) s → StandsFor (r ∷ xs) s xs (give r s)
taken r xs s w = record { same = refl; can_wait = record { sound = give_sound s r w.sound w.held.0; held = w.held.1; idle = idle_after r s w.idle }; ends = λ high h. h.1 }

-- the second of the first two is held before the first is given back, too
pub second_held : (a b : Run) (xs : List Run) (s : Space) → CanWait (a ∷ b ∷ xs) s → Contains s.held b
second_held a b xs s w =
    in_contains b s.held (in_without (begins_at a.place) b s.held (contains_in b (give a s).held w.held.1.0)).among

-- the first two are joined
joined_same : (a b : Run) (s : Space) → IsSound s → Contains s.held a → Contains s.held b → end_of a ≡ b.place → s.current ≡ None
    → give (as_one a b) (with_joined a b s) ≡ give b (give a s)
joined_same a b s sound ha hb e idle =
    let j = blocks_of a b s sound ha hb e in
    space_same s.capacity _ _ _ _ j.left (idle_after (as_one a b) (with_joined a b s) idle ∙ sym (idle_after b (give a s) (idle_after a s idle)))

pub joined : (a b : Run) (xs : List Run) (s : Space) → CanWait (a ∷ b ∷ xs) s → end_of a ≡ b.place → StandsFor (a ∷ b ∷ xs) s (as_one a b ∷ xs) (with_joined a b s)
joined a b xs s w e =
    let ha = w.held.0 in
    let hb = second_held a b xs s w in
    let same = joined_same a b s w.sound ha hb e w.idle in
    let j = blocks_of a b s w.sound ha hb e in
    record {
      same = ap (give_all xs) same;
      can_wait = record {
        sound = join_sound a b s w.sound ha hb e w.idle;
        held = (in_contains (as_one a b) (joined_in a b s.held) j.among, subst (AreHeld xs) (sym same) w.held.1.1);
        idle = w.idle;
      };
      ends = ends_joined a b xs e;
    }

-- their places fit
pub joined_fits : (a b : Run) (xs : List Run) (s : Space) → CanWait (a ∷ b ∷ xs) s → end_of a ≡ b.place → a.length + b.length < 2 ^ 32
joined_fits a b xs s w e =
    let p = In-place 16 (places_end s.capacity) b s.held w.sound.blocks (contains_in b s.held (second_held a b xs s w)) in
    let ends : end_of b ≤ places_end s.capacity = p.1 in
    let small = places_end_fits s.capacity in
    omega arith

-- a block that isn't among the runs is joined with one of them
pub record Joins (a b : Run) (xs : List Run) (s : Space) (ys : List Run) : Type 0 where
  pub first : Contains s.held a
  pub second : Contains s.held b
  pub fits : a.length + b.length < 2 ^ 32
  pub joined : StandsFor xs s ys (with_joined a b s)

joins : (a b : Run) (xs ys zs : List Run) (s : Space) → StandsFor xs s (a ∷ b ∷ ys) s → end_of a ≡ b.place → IsReordered (as_one a b ∷ ys) zs → Joins a b xs s zs
joins a b xs ys zs s p e h =
    let w = p.can_wait in
    let j = joined a b ys s w e in
    record {
      first = w.held.0;
      second = second_held a b ys s w;
      fits = joined_fits a b ys s w e;
      joined = then xs (as_one a b ∷ ys) zs s (with_joined a b s) (with_joined a b s) (then xs (a ∷ b ∷ ys) (as_one a b ∷ ys) s s (with_joined a b s) p j)
          (in_order (as_one a b ∷ ys) zs (with_joined a b s) h j.can_wait);
    }

found_at : (r : Run) (xs : List Run) (n : ℕ) → n < length xs → r ≡ get_or xs n r → IsReordered xs (r ∷ remove xs n)
found_at r xs n l e = subst (λ z. IsReordered xs (z ∷ remove xs n)) (sym e) (out_at xs n r l)

pub joins_behind : (b r i : Run) (xs : List Run) (n : ℕ) (s : Space) → CanWait (b ∷ xs) s → n < length xs → r ≡ get_or xs n r → i ≡ get_or xs n i → end_of b ≡ i.place
    → Joins b r (b ∷ xs) s (as_one b r ∷ remove xs n)
joins_behind b r i xs n s w l e f touch =
    let same : i ≡ r = f ∙ get_or_default xs n i r l ∙ sym e in
    joins b r (b ∷ xs) (remove xs n) (as_one b r ∷ remove xs n) s (in_order (b ∷ xs) (b ∷ r ∷ remove xs n) s (later b _ _ (found_at r xs n l e)) w)
    (touch ∙ ap (λ z. z.place) same) (reorder-refl (as_one b r ∷ remove xs n))

pub joins_before : (p b : Run) (xs : List Run) (n : ℕ) (s : Space) → CanWait (b ∷ xs) s → n < length xs → p ≡ get_or xs n p → end_of p ≡ b.place
    → Joins p b (b ∷ xs) s (set xs n (as_one p b))
joins_before p b xs n s w l e touch =
    joins p b (b ∷ xs) (remove xs n) (set xs n (as_one p b)) s
    (in_order (b ∷ xs) (p ∷ b ∷ remove xs n) s (both _ _ _ (later b _ _ (found_at p xs n l e)) (exchanged b p (remove xs n))) w)
    touch (set_at xs n (as_one p b) l)

-- a block goes in as a run of its own
pub puts : (b : Run) (xs : List Run) (n : ℕ) (s : Space) → CanWait (b ∷ xs) s → StandsFor (b ∷ xs) s (insert xs n b) s
puts b xs n s w = in_order (b ∷ xs) (insert xs n b) s (put_in xs n b) w

-- and once the first run was taken
pub record Makes (b r : Run) (xs : List Run) (s : Space) (ys : List Run) : Type 0 where
  pub held : Contains s.held r
  pub put : StandsFor xs s ys (give r s)

pub makes : (b r : Run) (xs : List Run) (n : ℕ) (s : Space) → CanWait (b ∷ xs) s → 0 < length xs → r ≡ get_or xs 0 r → Makes b r (b ∷ xs) s (insert (remove xs 0) n b)
makes b r xs n s w l e =
    let rest = remove xs 0 in
    let f = in_order (b ∷ xs) (r ∷ b ∷ rest) s (both _ _ _ (later b _ _ (found_at r xs 0 l e)) (exchanged b r rest)) w in
    let g = taken r (b ∷ rest) s f.can_wait in
    record {
      held = f.can_wait.held.0;
      put = then (b ∷ xs) (b ∷ rest) (insert rest n b) s (give r s) (give r s) (then (b ∷ xs) (r ∷ b ∷ rest) (b ∷ rest) s s (give r s) f g) (puts b rest n (give r s) g.can_wait);
    }

-- ONE MORE

last_held : (b : Run) (xs : List Run) (s : Space) → AreHeld xs s → Contains (give_all xs s).held b → AreHeld (xs ++ b ∷ []) s
last_held b [] s h has = (has, tt)
last_held b (x ∷ xs) s h has = (h.0, last_held b xs (give x s) h.1 has)

last_given : (b : Run) (xs : List Run) (s : Space) → give_all (xs ++ b ∷ []) s ≡ give b (give_all xs s)
last_given b [] s = refl
last_given b (x ∷ xs) s = last_given b xs (give x s)

-- a block more that is given back once these are
pub record OneMore (b : Run) (xs : List Run) (s : Space) : Type 0 where
  pub same : give_all (b ∷ xs) s ≡ give b (give_all xs s)
  pub can_wait : CanWait (b ∷ xs) s

pub one_more : (b : Run) (xs : List Run) (s : Space) → CanWait xs s → Contains (give_all xs s).held b → OneMore b xs s
one_more b xs s w has =
    let f = in_order (xs ++ b ∷ []) (b ∷ xs) s (last_to_front b xs) (record { sound = w.sound; held = last_held b xs s w.held has; idle = w.idle }) in
    record { same = f.same ∙ last_given b xs s; can_wait = f.can_wait }

pub all_sound : (xs : List Run) (s : Space) → IsSound s → AreHeld xs s → IsSound (give_all xs s)
all_sound [] s sound h = sound
all_sound (x ∷ xs) s sound h = all_sound xs (give x s) (give_sound s x sound h.0) h.1

pub capacity_of : (xs : List Run) (s : Space) → (give_all xs s).capacity ≡ s.capacity
capacity_of [] s = refl
capacity_of (x ∷ xs) s = capacity_of xs (give x s)

-- whether any run waits or none
pub sound_of : (xs : List Run) (s : Space) → IsSound s → (xs ≡ []) ⊎ CanWait xs s → IsSound (give_all xs s)
sound_of xs s sound (inl e) = rw e sound
sound_of xs s sound (inr w) = all_sound xs s sound w.held

-- where no run is current, any may wait
pub may_wait : (xs : List Run) (s : Space) → IsSound s → s.current ≡ None → (xs ≡ []) ⊎ CanWait xs s → CanWait xs s
may_wait xs s sound idle (inl e) = rw e (record { sound = sound; held = tt; idle = idle })
may_wait xs s sound idle (inr w) = w

-- and where one is, none waits
pub none_waits : (xs : List Run) (s : Space) → (s.current ≡ None → ⊥) → (xs ≡ []) ⊎ CanWait xs s → xs ≡ []
none_waits xs s some (inl e) = e
none_waits xs s some (inr w) = absurd (some w.idle)

-- TAKING ALL

-- what is left stands for the same
pub record Settles (start : List Run) (s : Space) (xs : List Run) (t : Space) : Type 0 where
  pub same : give_all xs t ≡ give_all start s
  pub waits : (xs ≡ []) ⊎ CanWait xs t

pub settles_start : (xs : List Run) (s : Space) → (xs ≡ []) ⊎ CanWait xs s → Settles xs s xs s
settles_start xs s w = record { same = refl; waits = w }

waiting_last : (r : Run) (ys : List Run) (s : Space) → (ys ++ r ∷ [] ≡ []) ⊎ CanWait (ys ++ r ∷ []) s → CanWait (ys ++ r ∷ []) s
waiting_last r [] s (inl e) = absurd (cc)
waiting_last r (y ∷ ys) s (inl e) = absurd (cc)
waiting_last r ys s (inr w) = w

pub record Settled (r : Run) (start : List Run) (s : Space) (ys : List Run) (t : Space) : Type 0 where
  pub held : Contains t.held r
  pub on : Settles start s ys (give r t)

pub settles_on : (start : List Run) (s : Space) (r : Run) (ys : List Run) (t : Space) → Settles start s (ys ++ r ∷ []) t → Settled r start s ys t
settles_on start s r ys t h =
    let f = in_order (ys ++ r ∷ []) (r ∷ ys) t (last_to_front r ys) (waiting_last r ys t h.waits) in
    let g = taken r ys t f.can_wait in
    record { held = f.can_wait.held.0; on = record { same = f.same ∙ h.same; waits = inr g.can_wait } }

pub settles_at : (start : List Run) (s : Space) (r : Run) (xs ys : List Run) (t : Space) → Settles start s xs t → xs ≡ ys ++ r ∷ [] → Settled r start s ys t
settles_at start s r xs ys t h e = settles_on start s r ys t (subst (λ l. Settles start s l t) e h)

pub settles_end : (start : List Run) (s : Space) (xs : List Run) (t : Space) → Settles start s xs t → xs ≡ [] → t ≡ give_all start s
settles_end start s xs t h e = sym (ap (λ l. give_all l t) e) ∙ h.same

-- ENDS OF WHAT WAITS

-- the end of one more block fits
pub more_fits : (b : Run) (xs : List Run) (s : Space) → CanWait (b ∷ xs) s → end_of b < 2 ^ 32
more_fits b xs s w =
    let p = In-place 16 (places_end s.capacity) b s.held w.sound.blocks (contains_in b s.held w.held.0) in
    let ends : end_of b ≤ places_end s.capacity = p.1 in
    let small = places_end_fits s.capacity in
    omega arith

-- and so do all that wait, by the greater of two ends
pub more_ends : (b : Run) (xs : List Run) (low high : ℕ) → low ≤ high → end_of b ≤ high → EndBy low xs → EndBy high (b ∷ xs)
more_ends b xs low high l m h = (m, ends_more low high xs l h)
