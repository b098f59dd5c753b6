-- The steps of a walk that numbers objects.
use Rattle.std.proofs.Common.{◌≡◌, ℕ, ◌+◌, ◌<◌, ◌≤◌, ◌⊎◌, inl, inr, ⊎_elim, suc, zero, Bool, true, false, List, [], ◌∷◌, ◌++◌, length, length-append, append-nil, map, Option, Some, refl, sym, ap, subst, ◌∙◌, arith}
use Rattle.std.specs.List.{slice_get, slice_set}
use Rattle.std.specs.Option.{option_map}
use Rattle.std.proofs.lemmas.Bool.{cases_eq}
use Rattle.std.proofs.lemmas.List.{length-map, length-set}
use Rattle.std.proofs.lemmas.Option.{none-some, slice_get-map, slice_get_within}
use Rattle.gc_model.proofs.Changes.{slice_get-set_other, slice_get-set_same}
use Rattle.gc_model.proofs.Lists.{slice_get-push_cases, slice_get-push_new, slice_get-push_old}
use Rattle.gc_image_write.specs.declared.walk.Frame.{Frame}
use Rattle.gc_image_write.specs.declared.walk.Mark.{Mark}
use Rattle.gc_image_write.specs.declared.walk.Mark.TheVariants.{Unseen, Open, Numbered}
use Rattle.gc_image_write.specs.Order.{AreTangled}
use Rattle.gc_image_write.specs.Walking.{CanVisitMore, IsIdle, IsWalk, Onward, LeavesIdle, VisitsOne, WalkParts, waiting}
use Rattle.gc_image_write.proofs.WordLemmas.{element}

pub onward_same : (w : WalkParts) → Onward w w
onward_same w = record { long = refl; kept = λ n x e. e; seen = λ x e. e }

pub onward_both : (old mid new : WalkParts) → Onward old mid → Onward mid new → Onward old new
onward_both old mid new a b = record { long = b.long ∙ a.long; kept = λ n x e. b.kept n x (a.kept n x e); seen = λ x e. a.seen x (b.seen x e) }

-- marks where one was set
module _ (marks : List Mark) (y : ℕ) (to : Mark) (below : y < length marks) where
  marked_back : (x : ℕ) (m : Mark) → slice_get (slice_set marks y to) x ≡ Some m → ((x ≡ y) × (to ≡ m)) ⊎ ((¬ (x ≡ y)) × (slice_get marks x ≡ Some m))
  marked_back x m e =
      ⊎_elim (λ same. let there : slice_get (slice_set marks y to) x ≡ Some to = subst (λ q. slice_get (slice_set marks y to) q ≡ Some to) (sym same) (slice_get-set_same marks y to below) in inl (same, cc))
      (λ other. inr (other, sym (slice_get-set_other marks y x to other) ∙ e)) (cases_eq x y)

  marked_there : (x : ℕ) → x ≡ y → slice_get (slice_set marks y to) x ≡ Some to
  marked_there x same = subst (λ q. slice_get (slice_set marks y to) q ≡ Some to) (sym same) (slice_get-set_same marks y to below)

  marked_other : (x : ℕ) (m : Mark) → ¬ (x ≡ y) → slice_get marks x ≡ Some m → slice_get (slice_set marks y to) x ≡ Some m
  marked_other x m other e = slice_get-set_other marks y x to other ∙ e

-- two that stand one behind the other, in a list with one more
before_push : {A : Type 0} (xs : List A) (z : A) (j : ℕ) (f g : A) → slice_get (xs ++ z ∷ []) j ≡ Some f → slice_get (xs ++ z ∷ []) (suc j) ≡ Some g → slice_get xs j ≡ Some f
before_push xs z j f g e next =
    ⊎_elim (λ old. old) (λ new. absurd (omega (arith, new.0, slice_get_within (xs ++ z ∷ []) (suc j) g next, length-append xs (z ∷ [])))) (slice_get-push_cases xs z j f e)

module _ (early : ℕ → ℕ → Option ℕ) where
  -- another object is opened behind those that wait
  module _ (w : WalkParts) (y : ℕ) (is : IsWalk early w) (unseen : slice_get w.marks y ≡ Some Unseen)
      (needs : (j : ℕ) (f : Frame) → slice_get w.stack j ≡ Some f → suc j ≡ length w.stack → early f.object f.next ≡ Some y) where
    abbrev fresh : Frame
    fresh = record { object = y; next = 0 }

    abbrev opened_walk : WalkParts
    opened_walk = record { marks = slice_set w.marks y Open; order = w.order; stack = w.stack ++ fresh ∷ [] }

    below : y < length w.marks
    below = slice_get_within w.marks y Unseen unseen

    not_fresh : (x : ℕ) (m : Mark) → slice_get w.marks x ≡ Some m → ¬ (m ≡ Unseen) → ¬ (x ≡ y)
    not_fresh x m e seen same = seen (let both : Some m ≡ Some Unseen = sym e ∙ ap (slice_get w.marks) same ∙ unseen in cc)

    numbered_stays : (x : ℕ) → slice_get w.marks x ≡ Some Numbered → slice_get opened_walk.marks x ≡ Some Numbered
    numbered_stays x e = marked_other w.marks y Open below x Numbered (not_fresh x Numbered e (λ s. cc)) e

    open_stays : (x : ℕ) → slice_get w.marks x ≡ Some Open → slice_get opened_walk.marks x ≡ Some Open
    open_stays x e = marked_other w.marks y Open below x Open (not_fresh x Open e (λ s. cc)) e

    -- none that waits is the new one
    not_waiting : (j : ℕ) (f : Frame) → slice_get w.stack j ≡ Some f → ¬ (f.object ≡ y)
    not_waiting j f e = not_fresh f.object Open (is.opened j f e) (λ s. cc)

    pub walk_opened : IsWalk early opened_walk
    walk_opened = record {
      listed = λ n x e. numbered_stays x (is.listed n x e);
      known = λ x e. ⊎_elim (λ new. cc) (λ old. is.known x old.1) (marked_back w.marks y Open below x Numbered e);
      once = is.once;
      behind = is.behind;
      waits = λ x e.
          ⊎_elim (λ new. (length w.stack, fresh, (slice_get-push_new w.stack fresh, sym new.0)))
          (λ old. let at = is.waits x old.1 in (at.0, at.1, (slice_get-push_old w.stack fresh at.0 at.1 at.2.0, at.2.1))) (marked_back w.marks y Open below x Open e);
      opened = λ j f e.
          ⊎_elim (λ old. open_stays f.object (is.opened j f old)) (λ new. marked_there w.marks y Open below f.object (ap (λ (g : Frame). g.object) (sym new.1))) (slice_get-push_cases w.stack fresh j f e);
      apart = λ j k f g ef eg same.
          ⊎_elim
          (λ old. ⊎_elim (λ was. is.apart j k f g old was same) (λ new. absurd (not_waiting j f old (same ∙ ap (λ (h : Frame). h.object) (sym new.1)))) (slice_get-push_cases w.stack fresh k g eg))
          (λ new. ⊎_elim (λ was. absurd (not_waiting k g was (sym same ∙ ap (λ (h : Frame). h.object) (sym new.1)))) (λ last. new.0 ∙ sym last.0) (slice_get-push_cases w.stack fresh k g eg))
          (slice_get-push_cases w.stack fresh j f ef);
      looked = λ j f index to e low named.
          ⊎_elim (λ old. numbered_stays to (is.looked j f index to old low named)) (λ new. let none : f.next ≡ 0 = ap (λ (g : Frame). g.next) (sym new.1) in absurd (omega arith))
          (slice_get-push_cases w.stack fresh j f e);
      linked = λ j f g ef eg.
          let here = before_push w.stack fresh j f g ef eg in
          ⊎_elim (λ old. is.linked j f g here old) (λ new. needs j f here new.0 ∙ ap Some (ap (λ (h : Frame). h.object) new.1)) (slice_get-push_cases w.stack fresh (suc j) g eg);
    }

    pub onward_opened : Onward w opened_walk
    onward_opened = record {
      long = length-set w.marks y Open;
      kept = λ n x e. e;
      seen = λ x e. ⊎_elim (λ new. cc) (λ old. old.1) (marked_back w.marks y Open below x Unseen e);
    }

  -- the last that waits
  module _ (w : WalkParts) (frame : Frame) (is : IsWalk early (waiting w frame)) where
    last : slice_get (w.stack ++ frame ∷ []) (length w.stack) ≡ Some frame
    last = slice_get-push_new w.stack frame

    pub last_open : slice_get w.marks frame.object ≡ Some Open
    last_open = is.opened (length w.stack) frame last

    -- it waits at a later index
    module _ (later : Frame) (same : later.object ≡ frame.object) (looked : (index y : ℕ) → index < later.next → early frame.object index ≡ Some y → slice_get w.marks y ≡ Some Numbered) where
      was : (j : ℕ) (f : Frame) → slice_get (w.stack ++ later ∷ []) j ≡ Some f → (g : Frame) × ((slice_get (w.stack ++ frame ∷ []) j ≡ Some g) × (g.object ≡ f.object))
      was j f e =
          ⊎_elim (λ old. (f, (slice_get-push_old w.stack frame j f old, refl)))
          (λ new. (frame, (subst (λ k. slice_get (w.stack ++ frame ∷ []) k ≡ Some frame) (sym new.0) last, sym same ∙ ap (λ (h : Frame). h.object) new.1))) (slice_get-push_cases w.stack later j f e)

      pub walk_waits : IsWalk early (waiting w later)
      walk_waits = record {
        listed = is.listed;
        known = is.known;
        once = is.once;
        behind = is.behind;
        waits = λ x e.
            let at = is.waits x e in
            ⊎_elim (λ old. (at.0, at.1, (slice_get-push_old w.stack later at.0 at.1 old, at.2.1)))
            (λ new. (length w.stack, later, (slice_get-push_new w.stack later, same ∙ ap (λ (h : Frame). h.object) new.1 ∙ at.2.1))) (slice_get-push_cases w.stack frame at.0 at.1 at.2.0);
        opened = λ j f e. let g = was j f e in subst (λ x. slice_get w.marks x ≡ Some Open) g.1.1 (is.opened j g.0 g.1.0);
        apart = λ j k f g ef eg alike. let a = was j f ef in let b = was k g eg in is.apart j k a.0 b.0 a.1.0 b.1.0 (a.1.1 ∙ alike ∙ sym b.1.1);
        looked = λ j f index y e low named.
            ⊎_elim (λ old. is.looked j f index y (slice_get-push_old w.stack frame j f old) low named)
            (λ new. looked index y (subst (λ (h : Frame). index < h.next) (sym new.1) low) (ap (λ x. early x index) (sym (ap (λ (h : Frame). h.object) (sym new.1) ∙ same)) ∙ named))
            (slice_get-push_cases w.stack later j f e);
        linked = λ j f g ef eg.
            let here = before_push w.stack later j f g ef eg in let b = was (suc j) g eg in
            is.linked j f b.0 (slice_get-push_old w.stack frame j f here) b.1.0 ∙ ap Some b.1.1;
      }

    -- it gets the next number, as all that it needs is numbered
    module _ (ready : (index y : ℕ) → early frame.object index ≡ Some y → slice_get w.marks y ≡ Some Numbered) where
      abbrev closed_walk : WalkParts
      closed_walk = record { marks = slice_set w.marks frame.object Numbered; order = w.order ++ frame.object ∷ []; stack = w.stack }

      below_last : frame.object < length w.marks
      below_last = slice_get_within w.marks frame.object Open last_open

      stays : (x : ℕ) → slice_get w.marks x ≡ Some Numbered → slice_get closed_walk.marks x ≡ Some Numbered
      stays x e = ⊎_elim (λ alike. marked_there w.marks frame.object Numbered below_last x alike) (λ other. marked_other w.marks frame.object Numbered below_last x Numbered other e) (cases_eq x frame.object)

      not_listed : (n : ℕ) → slice_get w.order n ≡ Some frame.object → ⊥
      not_listed n e = let both : Some Numbered ≡ Some Open = sym (is.listed n frame.object e) ∙ last_open in cc

      -- another that waits
      not_last : (j : ℕ) (f : Frame) → slice_get w.stack j ≡ Some f → ¬ (f.object ≡ frame.object)
      not_last j f e alike =
          omega (arith, is.apart j (length w.stack) f frame (slice_get-push_old w.stack frame j f e) last alike, slice_get_within w.stack j f e)

      pub walk_closed : IsWalk early closed_walk
      walk_closed = record {
        listed = λ n x e.
            ⊎_elim (λ old. stays x (is.listed n x old)) (λ new. marked_there w.marks frame.object Numbered below_last x (sym new.1)) (slice_get-push_cases w.order frame.object n x e);
        known = λ x e.
            ⊎_elim (λ new. (length w.order, slice_get-push_new w.order frame.object ∙ ap Some (sym new.0)))
            (λ old. let at = is.known x old.1 in (at.0, slice_get-push_old w.order frame.object at.0 x at.1)) (marked_back w.marks frame.object Numbered below_last x Numbered e);
        once = λ n m x en em.
            ⊎_elim
            (λ old. ⊎_elim (λ also. is.once n m x old also) (λ new. absurd (not_listed n (old ∙ ap Some (sym new.1)))) (slice_get-push_cases w.order frame.object m x em))
            (λ new. ⊎_elim (λ also. absurd (not_listed m (also ∙ ap Some (sym new.1)))) (λ both. new.0 ∙ sym both.0) (slice_get-push_cases w.order frame.object m x em))
            (slice_get-push_cases w.order frame.object n x en);
        behind = λ n x index y e named.
            ⊎_elim (λ old. let at = is.behind n x index y old named in (at.0, (at.1.0, slice_get-push_old w.order frame.object at.0 y at.1.1)))
            (λ new.
            let at = is.known y (ready index y (ap (λ z. early z index) new.1 ∙ named)) in
            (at.0, (subst (λ k. at.0 < k) (sym new.0) (slice_get_within w.order at.0 y at.1), slice_get-push_old w.order frame.object at.0 y at.1)))
            (slice_get-push_cases w.order frame.object n x e);
        waits = λ x e.
            ⊎_elim (λ new. cc)
            (λ old.
            let at = is.waits x old.1 in
            ⊎_elim (λ was. (at.0, at.1, (was, at.2.1))) (λ new. absurd (old.0 (sym at.2.1 ∙ ap (λ (h : Frame). h.object) (sym new.1)))) (slice_get-push_cases w.stack frame at.0 at.1 at.2.0))
            (marked_back w.marks frame.object Numbered below_last x Open e);
        opened = λ j f e. marked_other w.marks frame.object Numbered below_last f.object Open (not_last j f e) (is.opened j f (slice_get-push_old w.stack frame j f e));
        apart = λ j k f g ef eg alike. is.apart j k f g (slice_get-push_old w.stack frame j f ef) (slice_get-push_old w.stack frame k g eg) alike;
        looked = λ j f index y e low named. stays y (is.looked j f index y (slice_get-push_old w.stack frame j f e) low named);
        linked = λ j f g ef eg. is.linked j f g (slice_get-push_old w.stack frame j f ef) (slice_get-push_old w.stack frame (suc j) g eg);
      }

      pub onward_closed : Onward (waiting w frame) closed_walk
      onward_closed = record {
        long = length-set w.marks frame.object Numbered;
        kept = λ n x e. slice_get-push_old w.order frame.object n x e;
        seen = λ x e. ⊎_elim (λ new. cc) (λ old. old.1) (marked_back w.marks frame.object Numbered below_last x Unseen e);
      }

    -- what it needs waits too, so those that wait need each other
    pub walk_tangled : (y : ℕ) → early frame.object frame.next ≡ Some y → slice_get w.marks y ≡ Some Open → AreTangled early
    walk_tangled y needed waiting_there =
        let all = w.stack ++ frame ∷ [] in let object : Frame → ℕ = λ f. f.object in let back = is.waits y waiting_there in
        record {
          tangle = map object all;
          some = omega (arith, length-map all object, length-append w.stack (frame ∷ []));
          each = λ k x e.
              let f = an_object all k x e in
              ⊎_elim
              (λ old.
              let next = element all (suc k) (omega (arith, slice_get_within w.stack k f.0 old, length-append w.stack (frame ∷ []))) in
              (suc k, object next.0, (slice_get-map object all (suc k) ∙ ap (option_map object) next.1, (f.0.next, ap (λ z. early z f.0.next) (sym f.1.1) ∙ is.linked k f.0 next.0 f.1.0 next.1))))
              (λ new. (
                back.0,
                y,
                (
                  slice_get-map object all back.0 ∙ ap (option_map object) back.2.0 ∙ ap Some back.2.1,
                  (frame.next, ap (λ z. early z frame.next) (sym (ap object new.1 ∙ f.1.1)) ∙ needed),
                ),
              ))
              (slice_get-push_cases w.stack frame k f.0 f.1.0);
        }
      where
        an_object : (all : List Frame) (k x : ℕ) → slice_get (map (λ (f : Frame). f.object) all) k ≡ Some x → (f : Frame) × ((slice_get all k ≡ Some f) × (f.object ≡ x))
        an_object [] k x e = absurd (none-some x e)
        an_object (f ∷ all) zero x e = (f, (refl, let same : Some f.object ≡ Some x = e in cc))
        an_object (f ∷ all) (suc k) x e = an_object all k x e

    last_needs : (y : ℕ) → early frame.object frame.next ≡ Some y → (j : ℕ) (f : Frame) → slice_get (w.stack ++ frame ∷ []) j ≡ Some f → suc j ≡ length (w.stack ++ frame ∷ []) → early f.object f.next ≡ Some y
    last_needs y needed j f e at_end =
        ⊎_elim (λ old. absurd (omega (arith, at_end, length-append w.stack (frame ∷ []), slice_get_within w.stack j f old)))
        (λ new. subst (λ (h : Frame). early h.object h.next ≡ Some y) new.1 needed) (slice_get-push_cases w.stack frame j f e)

    -- what it needs is opened behind it
    pub needed_opened : (mid new : WalkParts) (y : ℕ) → mid ≡ waiting w frame
        → new ≡ record { marks = slice_set mid.marks y Open; order = mid.order; stack = mid.stack ++ record { object = y; next = 0 } ∷ [] }
        → slice_get w.marks y ≡ Some Unseen → early frame.object frame.next ≡ Some y → IsWalk early new × Onward (waiting w frame) new
    needed_opened mid new y waits is_new unseen needed =
        let opened : IsWalk early (opened_walk (waiting w frame) y is unseen (last_needs y needed)) = walk_opened (waiting w frame) y is unseen (last_needs y needed) in
        let onward : Onward (waiting w frame) (opened_walk (waiting w frame) y is unseen (last_needs y needed)) = onward_opened (waiting w frame) y is unseen (last_needs y needed) in
        let same : new ≡ opened_walk (waiting w frame) y is unseen (last_needs y needed) =
        is_new ∙ ap (λ (m : WalkParts). record { marks = slice_set m.marks y Open; order = m.order; stack = m.stack ++ record { object = y; next = 0 } ∷ [] }) waits in
        (subst (IsWalk early) (sym same) opened, subst (Onward (waiting w frame)) (sym same) onward)

    -- it waits at the next index, as what it needs at this one is numbered
    pub goes_past : (new : WalkParts) → new ≡ waiting w (record { object = frame.object; next = frame.next + 1 })
        → ((y : ℕ) → early frame.object frame.next ≡ Some y → slice_get w.marks y ≡ Some Numbered) → IsWalk early new × Onward (waiting w frame) new
    goes_past new is_new numbered =
        let later : Frame = record { object = frame.object; next = frame.next + 1 } in
        let looked : (index y : ℕ) → index < later.next → early frame.object index ≡ Some y → slice_get w.marks y ≡ Some Numbered =
        λ index y low named.
        ⊎_elim (λ same. numbered y (ap (early frame.object) (sym same) ∙ named)) (λ other. is.looked (length w.stack) frame index y last (omega (arith, low, other)) named) (cases_eq index frame.next) in (
          subst (IsWalk early) (sym is_new) (walk_waits later refl looked),
          subst (Onward (waiting w frame)) (sym is_new) (record { long = refl; kept = λ n x e. e; seen = λ x e. e }),
        )

    -- it gets a number, as its values are at their end
    pub goes_out : (count : ℕ) (new : WalkParts) → count ≤ frame.next → ((index y : ℕ) → early frame.object index ≡ Some y → index < count)
        → new ≡ record { marks = slice_set w.marks frame.object Numbered; order = w.order ++ frame.object ∷ []; stack = w.stack } → IsWalk early new × Onward (waiting w frame) new
    goes_out count new over few is_new =
        let ready : (index y : ℕ) → early frame.object index ≡ Some y → slice_get w.marks y ≡ Some Numbered =
        λ index y named. is.looked (length w.stack) frame index y last (omega (arith, few index y named, over)) named in
        (subst (IsWalk early) (sym is_new) (walk_closed ready), subst (Onward (waiting w frame)) (sym is_new) (onward_closed ready))

    pub last_within : frame.object < length w.marks
    last_within = slice_get_within w.marks frame.object Open last_open

pub same_numbered : (marks : List Mark) (x y : ℕ) → Some x ≡ Some y → slice_get marks x ≡ Some Numbered → slice_get marks y ≡ Some Numbered
same_numbered marks x y same e = let alike : x ≡ y = cc in subst (λ z. slice_get marks z ≡ Some Numbered) alike e

-- a walk in which none waits
module _ (early : ℕ → ℕ → Option ℕ) where
  none_open : (w : WalkParts) (x : ℕ) → IsIdle early w → slice_get w.marks x ≡ Some Open → ⊥
  none_open w x idle e =
      let at = idle.walks.waits x e in none-some at.1 (sym (ap (λ (s : List Frame). slice_get s at.0) idle.idle) ∙ at.2.0)

  -- what was seen has a number
  pub seen_numbered : (w : WalkParts) (x : ℕ) (m : Mark) → IsIdle early w → slice_get w.marks x ≡ Some m → ¬ (m ≡ Unseen) → (n : ℕ) × (slice_get w.order n ≡ Some x)
  seen_numbered w x Unseen idle e seen = absurd (seen refl)
  seen_numbered w x Open idle e seen = absurd (none_open w x idle e)
  seen_numbered w x Numbered idle e seen = idle.walks.known x e

  no_needs : (w : WalkParts) (y : ℕ) → w.stack ≡ [] → (j : ℕ) (f : Frame) → slice_get w.stack j ≡ Some f → suc j ≡ length w.stack → early f.object f.next ≡ Some y
  no_needs w y idle j f e at_end = absurd (none-some f (sym (ap (λ (s : List Frame). slice_get s j) idle) ∙ e))

  -- the first one is opened
  pub begun : (w new : WalkParts) (y : ℕ) → IsIdle early w → slice_get w.marks y ≡ Some Unseen
      → new ≡ record { marks = slice_set w.marks y Open; order = w.order; stack = w.stack ++ record { object = y; next = 0 } ∷ [] }
      → IsWalk early new × Onward w new × (¬ (slice_get new.marks y ≡ Some Unseen))
  begun w new y idle unseen is_new =
      let below = slice_get_within w.marks y Unseen unseen in
      let needs = no_needs w y idle.idle in
      let same : new ≡ opened_walk early w y idle.walks unseen needs = is_new in
      let there : slice_get new.marks y ≡ Some Open = ap (λ (n : WalkParts). slice_get n.marks y) is_new ∙ slice_get-set_same w.marks y Open below in (
        subst (IsWalk early) (sym same) (walk_opened early w y idle.walks unseen needs),
        subst (Onward w) (sym same) (onward_opened early w y idle.walks unseen needs),
        λ e. let both : Some Open ≡ Some Unseen = sym there ∙ e in cc,
      )

  -- none waits any more
  pub ended : (start new : WalkParts) (x : ℕ) → x < length start.marks → new.stack ≡ [] → IsWalk early new × Onward start new × (¬ (slice_get new.marks x ≡ Some Unseen))
      → IsIdle early new × Onward start new × ((n : ℕ) × (slice_get new.order n ≡ Some x))
  ended start new x below none so_far =
      let idle : IsIdle early new = record { walks = so_far.0; idle = none } in
      let mark = element new.marks x (omega (arith, below, so_far.1.long)) in
      (idle, so_far.1, seen_numbered new x mark.0 idle mark.1 (λ e. so_far.2 (mark.1 ∙ ap Some e)))

  none_left : (old new : List Frame) → old ≡ new ++ [] → length old ≡ 0 → new ≡ []
  none_left old [] e none = refl
  none_left old (f ∷ new) e none = absurd (omega (arith, ap length e, none, length-append (f ∷ new) []))

  -- none was left to go on with
  pub ended_popped : (start w : WalkParts) (rest : List Frame) (x : ℕ) → x < length start.marks → w.stack ≡ rest ++ [] → length w.stack ≡ 0
      → IsWalk early w × Onward start w × (¬ (slice_get w.marks x ≡ Some Unseen))
      → IsIdle early (record { marks = w.marks; order = w.order; stack = rest }) × Onward start (record { marks = w.marks; order = w.order; stack = rest }) × ((n : ℕ) × (slice_get w.order n ≡ Some x))
  ended_popped start w rest x below e none so_far =
      let same : w ≡ record { marks = w.marks; order = w.order; stack = rest } = λ i. record { marks = w.marks; order = w.order; stack = (e ∙ append-nil rest) i } in
      ended start (record { marks = w.marks; order = w.order; stack = rest }) x below (none_left w.stack rest e none)
      (subst (λ (v : WalkParts). IsWalk early v × Onward start v × (¬ (slice_get v.marks x ≡ Some Unseen))) same so_far)

  -- visits go on
  pub visits_one : (old new : WalkParts) (x : ℕ) (went : Bool) → VisitsOne early old new x went → LeavesIdle early old new went
  visits_one old new x true visited = (visited.0, visited.1)
  visits_one old new x false visited = visited

  pub visits_same : (w : WalkParts) → IsIdle early w → LeavesIdle early w w true
  visits_same w idle = (idle, onward_same w)

  pub visits_both : (old mid new : WalkParts) → LeavesIdle early old mid true → LeavesIdle early mid new true → LeavesIdle early old new true
  visits_both old mid new a b = (b.0, onward_both old mid new a.1 b.1)

  pub visits_then : (old mid new : WalkParts) (went : Bool) → LeavesIdle early old mid true → LeavesIdle early mid new went → LeavesIdle early old new went
  visits_then old mid new true a b = visits_both old mid new a b
  visits_then old mid new false a b = b

  pub visits_went : (old mid new : WalkParts) (went : Bool) → went ≡ true → LeavesIdle early old mid true → LeavesIdle early mid new went → LeavesIdle early old new true
  visits_went old mid new true is a b = visits_both old mid new a b
  visits_went old mid new false is a b = absurd (cc is)

  pub can_go_on : (count : ℕ) (old new : WalkParts) → CanVisitMore early count old → LeavesIdle early old new true → CanVisitMore early count new
  can_go_on count old new can visited = record { below = can.below; idle = visited.0; long = visited.1.long ∙ can.long }
