-- Each step of a walk leads on to the order that the rule gives.
use Rattle.std.proofs.Common.{◌≡◌, ℕ, ◌+◌, ◌-◌, ◌≤◌, ◌<◌, suc, List, [], ◌∷◌, ◌++◌, length, Option, None, Some, refl, sym, ap, subst, ◌∙◌, arith}
use Rattle.std.specs.List.{cons_option, filter_map, range_with_len, slice_get, slice_set}
use Rattle.gc_image_write.specs.declared.walk.Frame.{Frame}
use Rattle.gc_image_write.specs.declared.walk.Mark.TheVariants.{Unseen, Open, Numbered}
use Rattle.gc_image_write.specs.Graphs.{early_list}
use Rattle.gc_image_write.specs.Visiting.{IsVisited, Visited, none, known, fresh}
use Rattle.gc_image_write.specs.Walking.{FinishesWalk, IsIdle, IsWalk, FinishesAlike, WalkParts, left_to_visit, waiting}
use Rattle.gc_model.proofs.Lists.{slice_get-push_new}

-- one that stands in the order may be passed over
pass_known : (early : ℕ → List ℕ) (y : ℕ) (xs order after : List ℕ) → IsVisited order y → Visited early (y ∷ xs) order after → Visited early xs order after
pass_known early y xs order after is (known at v) = v
pass_known early y xs order after is (fresh isnt first v) = absurd (isnt is)

module _ (early : ℕ → ℕ → Option ℕ) (counts : ℕ → ℕ) where
  abbrev pub all_early : ℕ → List ℕ
  all_early = early_list early counts

  split : (stack above : List Frame) (order after : List ℕ) → FinishesWalk early counts (stack ++ above) order after → (mid : List ℕ) × (FinishesWalk early counts above order mid × FinishesWalk early counts stack mid after)
  split [] above order after finish = (after, (finish, refl))
  split (f ∷ stack) above order after finish =
      let rest = split stack above order finish.0 finish.2.0 in (rest.0, (rest.1.0, (finish.0, finish.1, (rest.1.1, finish.2.1))))

  join : (stack above : List Frame) (order mid after : List ℕ) → FinishesWalk early counts above order mid → FinishesWalk early counts stack mid after → FinishesWalk early counts (stack ++ above) order after
  join [] above order mid after first then = subst (FinishesWalk early counts above order) then first
  join (f ∷ stack) above order mid after first then = (then.0, then.1, (join stack above order mid then.0 first then.2.0, then.2.1))

  -- what is left at the next index
  next_left : (f : Frame) → f.next < counts f.object → left_to_visit early counts f ≡ cons_option (early f.object f.next) (left_to_visit early counts (record { object = f.object; next = f.next + 1 }))
  next_left f low =
      let more : counts f.object - f.next ≡ suc (counts f.object - (f.next + 1)) = omega arith in
      ap (λ n. filter_map (early f.object) (range_with_len f.next n)) more

  none_left : (f : Frame) → counts f.object ≤ f.next → left_to_visit early counts f ≡ []
  none_left f over = ap (λ n. filter_map (early f.object) (range_with_len f.next n)) (let none : counts f.object - f.next ≡ 0 = omega arith in none)

  all_left : (y : ℕ) → left_to_visit early counts (record { object = y; next = 0 }) ≡ all_early y
  all_left y = ap (λ n. filter_map (early y) (range_with_len 0 n)) (let all : counts y - 0 ≡ counts y = omega arith in all)

  module _ (w : WalkParts) (frame : Frame) where
    -- it waits at a later index, where what it visits is the same
    past : (later : Frame) → later.object ≡ frame.object
        → ((after : List ℕ) → Visited all_early (left_to_visit early counts later) w.order after → Visited all_early (left_to_visit early counts frame) w.order after)
        → FinishesAlike early counts (waiting w frame) (waiting w later)
    past later same visits after finish =
        let parts = split w.stack (later ∷ []) w.order after finish in
        let top = parts.1.0 in
        join w.stack (frame ∷ []) w.order parts.0 after (
          w.order,
          top.1,
          (refl, (visits top.1 (subst (λ o. Visited all_early (left_to_visit early counts later) o top.1) (sym top.2.0) top.2.1.0), subst (λ x. top.1 ++ x ∷ [] ≡ parts.0) same top.2.1.1)),
        ) parts.1.1

    abbrev later : Frame
    later = record { object = frame.object; next = frame.next + 1 }

    -- it needs none at its index
    pub leads_past_none : frame.next < counts frame.object → early frame.object frame.next ≡ None → FinishesAlike early counts (waiting w frame) (waiting w later)
    leads_past_none low is =
        past later refl (λ after v. subst (λ xs. Visited all_early xs w.order after) (sym (next_left frame low ∙ ap (λ o. cons_option o (left_to_visit early counts later)) is)) v)

    needs_next : (y : ℕ) → frame.next < counts frame.object → early frame.object frame.next ≡ Some y → left_to_visit early counts frame ≡ y ∷ left_to_visit early counts later
    needs_next y low is = next_left frame low ∙ ap (λ o. cons_option o (left_to_visit early counts later)) is

    -- what it needs there has a number
    pub leads_past_known : (y : ℕ) → frame.next < counts frame.object → early frame.object frame.next ≡ Some y → IsVisited w.order y → FinishesAlike early counts (waiting w frame) (waiting w later)
    leads_past_known y low is at =
        past later refl (λ after v. subst (λ xs. Visited all_early xs w.order after) (sym (needs_next y low is)) (known at v))

    -- it gets its number
    pub leads_out : counts frame.object ≤ frame.next → FinishesAlike early counts (waiting w frame) (record { marks = w.marks; order = w.order ++ frame.object ∷ []; stack = w.stack })
    leads_out over after finish =
        join w.stack (frame ∷ []) w.order (w.order ++ frame.object ∷ []) after (
          w.order,
          w.order,
          (refl, (subst (λ xs. Visited all_early xs w.order w.order) (sym (none_left frame over)) none, refl)),
        ) finish

    -- what it needs is opened behind it
    pub leads_open : (y : ℕ) → frame.next < counts frame.object → early frame.object frame.next ≡ Some y → (¬ IsVisited w.order y)
        → FinishesAlike early counts (waiting w frame) (waiting (waiting w frame) (record { object = y; next = 0 }))
    leads_open y low is isnt after finish =
        let opened : Frame = record { object = y; next = 0 } in
        let whole = split (w.stack ++ frame ∷ []) (opened ∷ []) w.order after finish in
        let first = whole.1.0 in
        let ready : List ℕ = first.1 in
        let one : Visited all_early (all_early y) w.order ready = subst (λ xs. Visited all_early xs w.order ready) (all_left y) (subst (λ o. Visited all_early (left_to_visit early counts opened) o ready) (sym first.2.0) first.2.1.0) in
        let parts = split w.stack (frame ∷ []) whole.0 after whole.1.1 in
        let top = parts.1.0 in
        let then : Visited all_early (y ∷ left_to_visit early counts later) (ready ++ y ∷ []) top.1 =
        subst (λ xs. Visited all_early xs (ready ++ y ∷ []) top.1) (needs_next y low is)
        (subst (λ o. Visited all_early (left_to_visit early counts frame) o top.1) (sym (first.2.1.1 ∙ top.2.0)) top.2.1.0) in
        let both : Visited all_early (y ∷ left_to_visit early counts later) w.order top.1 =
        fresh isnt one (pass_known all_early y (left_to_visit early counts later) (ready ++ y ∷ []) top.1 (length ready, slice_get-push_new ready y) then) in
        join w.stack (frame ∷ []) w.order parts.0 after (
          w.order,
          top.1,
          (refl, (subst (λ xs. Visited all_early xs w.order top.1) (sym (needs_next y low is)) both, top.2.1.1)),
        ) parts.1.1

  -- what a step of the walk leaves
  module _ (w : WalkParts) (frame : Frame) (is : IsWalk early (waiting w frame)) where
    pub step_none : (new : WalkParts) → new ≡ waiting w (later w frame) → frame.next < counts frame.object → early frame.object frame.next ≡ None → FinishesAlike early counts (waiting w frame) new
    step_none new is_new low needed = subst (FinishesAlike early counts (waiting w frame)) (sym is_new) (leads_past_none w frame low needed)

    pub step_known : (new : WalkParts) (y : ℕ) → new ≡ waiting w (later w frame) → frame.next < counts frame.object → early frame.object frame.next ≡ Some y → slice_get w.marks y ≡ Some Numbered
        → FinishesAlike early counts (waiting w frame) new
    step_known new y is_new low needed there = subst (FinishesAlike early counts (waiting w frame)) (sym is_new) (leads_past_known w frame y low needed (is.known y there))

    pub step_out : (new : WalkParts) → counts frame.object ≤ frame.next
        → new ≡ record { marks = slice_set w.marks frame.object Numbered; order = w.order ++ frame.object ∷ []; stack = w.stack } → FinishesAlike early counts (waiting w frame) new
    step_out new over is_new = subst (FinishesAlike early counts (waiting w frame)) (sym is_new) (leads_out w frame over)

    pub step_opened : (mid new : WalkParts) (y : ℕ) → mid ≡ waiting w frame
        → new ≡ record { marks = slice_set mid.marks y Open; order = mid.order; stack = mid.stack ++ record { object = y; next = 0 } ∷ [] }
        → frame.next < counts frame.object → early frame.object frame.next ≡ Some y → slice_get w.marks y ≡ Some Unseen → FinishesAlike early counts (waiting w frame) new
    step_opened mid new y is_mid is_new low needed unseen =
        let isnt : ¬ IsVisited w.order y = λ at. let both : Some Numbered ≡ Some Unseen = sym (is.listed at.0 y at.1) ∙ unseen in cc in
        subst (FinishesAlike early counts (waiting w frame)) (sym is_new)
        (subst (λ (m : WalkParts). FinishesAlike early counts (waiting w frame) (record { marks = slice_set m.marks y Open; order = m.order; stack = m.stack ++ record { object = y; next = 0 } ∷ [] })) (sym is_mid)
        (leads_open w frame y low needed isnt))

  -- where one that waited alone has finished, it was visited
  pub finished : (x : ℕ) (start order : List ℕ) → (¬ IsVisited start x) → FinishesWalk early counts (record { object = x; next = 0 } ∷ []) start order → Visited all_early (x ∷ []) start order
  finished x start order isnt finish =
      let v : Visited all_early (all_early x) start finish.1 =
      subst (λ xs. Visited all_early xs start finish.1) (all_left x) (subst (λ o. Visited all_early (left_to_visit early counts (record { object = x; next = 0 })) o finish.1) (sym finish.2.0) finish.2.1.0) in
      fresh isnt v (subst (λ o. Visited all_early [] o order) (sym finish.2.1.1) none)

  -- in whatever those that wait finish, an object finishes that waited alone at the start
  abbrev pub Began : ℕ → List ℕ → WalkParts → Type 0
  Began x start w = (after : List ℕ) → FinishesWalk early counts w.stack w.order after → FinishesWalk early counts (record { object = x; next = 0 } ∷ []) start after

  pub began : (w new : WalkParts) (x : ℕ) → w.stack ≡ [] → new ≡ record { marks = slice_set w.marks x Open; order = w.order; stack = w.stack ++ record { object = x; next = 0 } ∷ [] }
      → Began x w.order new
  began w new x idle is_new =
      let alone : Began x w.order (record { marks = slice_set w.marks x Open; order = w.order; stack = w.stack ++ record { object = x; next = 0 } ∷ [] }) =
      λ after finish. subst (λ (s : List Frame). FinishesWalk early counts (s ++ record { object = x; next = 0 } ∷ []) w.order after) idle finish in
      subst (Began x w.order) (sym is_new) alone

  pub goes_on : (x : ℕ) (start : List ℕ) (old new : WalkParts) → FinishesAlike early counts old new → Began x start old → Began x start new
  goes_on x start old new leads so_far after finish = so_far after (leads after finish)

  none_waits : (stack : List Frame) → length stack ≡ 0 → stack ≡ []
  none_waits [] e = refl
  none_waits (f ∷ stack) e = absurd (omega (arith, e))

  pub ended : (start w : WalkParts) (x : ℕ) → IsIdle early start → slice_get start.marks x ≡ Some Unseen → length w.stack ≡ 0 → Began x start.order w → Visited all_early (x ∷ []) start.order w.order
  ended start w x idle unseen empty so_far =
      let isnt : ¬ IsVisited start.order x = λ at. let both : Some Numbered ≡ Some Unseen = sym (idle.walks.listed at.0 x at.1) ∙ unseen in cc in
      finished x start.order w.order isnt (so_far w.order (subst (λ (s : List Frame). FinishesWalk early counts s w.order w.order) (sym (none_waits w.stack empty)) refl))

-- what has a number is passed over
pub visited_seen : (early : ℕ → List ℕ) (x : ℕ) (order : List ℕ) → IsVisited order x → Visited early (x ∷ []) order order
visited_seen early x order at = known at none
