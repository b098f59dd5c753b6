-- Ways down a tree, one frame longer or shorter.
use Rattle.std.proofs.Common.{◌≡◌, ℕ, ℤ, Bool, true, false, List, [], ◌∷◌, ◌++◌, refl, sym, ap, ◌∙◌, subst}
use Rattle.std.proofs.lemmas.List.{append_assoc, append-nil}
use Rattle.gc_model.specs.Table.{Table}
use Rattle.gc_model.specs.Stores.{StoreView}
use Rattle.gc_maps.specs.declared.part.Frame.{Frame}
use Rattle.gc_maps.specs.Trees.{Tree, node, pairs}
use Rattle.gc_maps.specs.Paths.{TakesSide, StepsDown, LeadsDown}

module _ {D : Type 0} (s : StoreView D) (t : Table D) (ty : ℕ) where
  -- the pairs of a node between those on both sides of a part of a child
  sided : (f : Frame) (middle : List (ℤ × ℤ)) (Rest : Tree → List (ℤ × ℤ) → List (ℤ × ℤ) → Type 0) (by : (child : Tree) (b a : List (ℤ × ℤ)) → Rest child b a → pairs child ≡ b ++ (middle ++ a))
      (side : Bool) (x : Tree) (k v : ℤ) (y : Tree) (b a before behind : List (ℤ × ℤ)) → TakesSide s t ty f side x k v y Rest b a before behind → pairs (node x k v y) ≡ before ++ (middle ++ behind)
  sided f middle Rest by true x k v y b a before behind takes =
      ap (λ es. es ++ (k, v) ∷ pairs y) (by x b a takes.1.0) ∙ (simp append_assoc) ∙ (λ i. sym takes.1.1.0 i ++ (middle ++ sym takes.1.1.1 i))
  sided f middle Rest by false x k v y b a before behind takes =
      ap (λ es. pairs x ++ (k, v) ∷ es) (by y b a takes.1.0) ∙ (simp append_assoc) ∙ (λ i. sym takes.1.1.0 i ++ (middle ++ sym takes.1.1.1 i))

  pub path_pairs : (fs : List Frame) (here whole : Tree) (b a : List (ℤ × ℤ)) → LeadsDown s t ty fs here whole b a → pairs whole ≡ b ++ (pairs here ++ a)
  path_pairs [] here whole b a path = ap pairs path.0 ∙ sym (append-nil (pairs here)) ∙ (λ i. sym path.1.0 i ++ (pairs here ++ sym path.1.1 i))
  path_pairs (f ∷ fs) here whole b a path =
      ap pairs path.is ∙ sided f (pairs here) (LeadsDown s t ty fs here) (λ child b' a' rest. path_pairs fs here child b' a' rest) f.goes_left path.left path.key path.value path.right path.b path.a b a path.side

  -- a way that goes one frame further
  abbrev pub LastStep : Frame → Tree → Tree → List (ℤ × ℤ) → List (ℤ × ℤ) → Type 0
  LastStep f here parent bs as' = StepsDown s t ty f (LeadsDown s t ty [] here) parent bs as'

  longer : (f : Frame) (bs as' : List (ℤ × ℤ)) (Rest Rest' : Tree → List (ℤ × ℤ) → List (ℤ × ℤ) → Type 0) (more : (child : Tree) (b a : List (ℤ × ℤ)) → Rest child b a → Rest' child (b ++ bs) (as' ++ a))
      (side : Bool) (x : Tree) (k v : ℤ) (y : Tree) (b a before behind : List (ℤ × ℤ)) → TakesSide s t ty f side x k v y Rest b a before behind
      → TakesSide s t ty f side x k v y Rest' (b ++ bs) (as' ++ a) (before ++ bs) (as' ++ behind)
  longer f bs as' Rest Rest' more true x k v y b a before behind takes =
      (takes.0, (more x b a takes.1.0, (ap (λ es. es ++ bs) takes.1.1.0, ap (λ es. as' ++ es) takes.1.1.1 ∙ sym (append_assoc as' a ((k, v) ∷ pairs y)))))
  longer f bs as' Rest Rest' more false x k v y b a before behind takes =
      (takes.0, (more y b a takes.1.0, (ap (λ es. es ++ bs) takes.1.1.0 ∙ append_assoc (pairs x) ((k, v) ∷ b) bs, ap (λ es. as' ++ es) takes.1.1.1)))

  -- one way behind another
  pub path_append : (fs gs : List Frame) (here parent whole : Tree) (b a bs as' : List (ℤ × ℤ)) → LeadsDown s t ty fs parent whole b a → LeadsDown s t ty gs here parent bs as' → LeadsDown s t ty (fs ++ gs) here whole (b ++ bs) (as' ++ a)
  path_append [] gs here parent whole b a bs as' path rest =
      subst (λ (w : Tree). LeadsDown s t ty gs here w (b ++ bs) (as' ++ a)) (sym path.0)
      (subst (λ (es : List (ℤ × ℤ)). LeadsDown s t ty gs here parent (es ++ bs) (as' ++ a)) (sym path.1.0)
      (subst (λ (es : List (ℤ × ℤ)). LeadsDown s t ty gs here parent bs (as' ++ es)) (sym path.1.1)
      (subst (λ (es : List (ℤ × ℤ)). LeadsDown s t ty gs here parent bs es) (sym (append-nil as')) rest)))
  path_append (g ∷ fs) gs here parent whole b a bs as' path rest = record {
    left = path.left;
    key = path.key;
    value = path.value;
    right = path.right;
    is = path.is;
    key_is = path.key_is;
    value_is = path.value_is;
    key_fits = path.key_fits;
    value_fits = path.value_fits;
    b = path.b ++ bs;
    a = as' ++ path.a;
    side = longer g bs as' (LeadsDown s t ty fs parent) (LeadsDown s t ty (fs ++ gs) here) (λ child b' a' way. path_append fs gs here parent child b' a' bs as' way rest) g.goes_left path.left path.key path.value path.right
        path.b path.a b a path.side;
  }

  pub path_push : (fs : List Frame) (f : Frame) (here parent whole : Tree) (b a bs as' : List (ℤ × ℤ)) → LeadsDown s t ty fs parent whole b a → LastStep f here parent bs as' → LeadsDown s t ty (fs ++ f ∷ []) here whole (b ++ bs) (as' ++ a)
  path_push fs f here parent whole b a bs as' path last = path_append fs (f ∷ []) here parent whole b a bs as' path last

  -- a way whose last frame is taken off
  pub record Popped (fs : List Frame) (f : Frame) (here whole : Tree) (before behind : List (ℤ × ℤ)) : Type 0 where
    pub parent : Tree
    pub b : List (ℤ × ℤ)
    pub a : List (ℤ × ℤ)
    pub bs : List (ℤ × ℤ)
    pub as' : List (ℤ × ℤ)
    pub path : LeadsDown s t ty fs parent whole b a
    pub last : LastStep f here parent bs as'
    pub before_is : before ≡ b ++ bs
    pub behind_is : behind ≡ as' ++ a

  module _ (fs : List Frame) (g f : Frame) (here whole : Tree) (less : (child : Tree) (b a : List (ℤ × ℤ)) → LeadsDown s t ty (fs ++ f ∷ []) here child b a → Popped fs f here child b a) (before behind : List (ℤ × ℤ))
      (path : StepsDown s t ty g (LeadsDown s t ty (fs ++ f ∷ []) here) whole before behind) where
    step : (parent : Tree) (b a bb aa : List (ℤ × ℤ)) → TakesSide s t ty g g.goes_left path.left path.key path.value path.right (LeadsDown s t ty fs parent) b a bb aa → LeadsDown s t ty (g ∷ fs) parent whole bb aa
    step parent b a bb aa side = record {
      left = path.left;
      key = path.key;
      value = path.value;
      right = path.right;
      is = path.is;
      key_is = path.key_is;
      value_is = path.value_is;
      key_fits = path.key_fits;
      value_fits = path.value_fits;
      b = b;
      a = a;
      side = side;
    }

    shorter : (side : Bool) → g.goes_left ≡ side → TakesSide s t ty g side path.left path.key path.value path.right (LeadsDown s t ty (fs ++ f ∷ []) here) path.b path.a before behind → Popped (g ∷ fs) f here whole before behind
    shorter true e takes =
        let p = less path.left path.b path.a takes.1.0 in
        record {
          parent = p.parent;
          b = p.b;
          a = p.a ++ (path.key, path.value) ∷ pairs path.right;
          bs = p.bs;
          as' = p.as';
          path = step p.parent p.b p.a p.b (p.a ++ (path.key, path.value) ∷ pairs path.right)
              (subst (λ (z : Bool). TakesSide s t ty g z path.left path.key path.value path.right (LeadsDown s t ty fs p.parent) p.b p.a p.b (p.a ++ (path.key, path.value) ∷ pairs path.right)) (sym e) (takes.0, (p.path, (refl, refl))));
          last = p.last;
          before_is = takes.1.1.0 ∙ p.before_is;
          behind_is = takes.1.1.1 ∙ ap (λ es. es ++ (path.key, path.value) ∷ pairs path.right) p.behind_is ∙ append_assoc p.as' p.a ((path.key, path.value) ∷ pairs path.right);
        }
    shorter false e takes =
        let p = less path.right path.b path.a takes.1.0 in
        record {
          parent = p.parent;
          b = pairs path.left ++ (path.key, path.value) ∷ p.b;
          a = p.a;
          bs = p.bs;
          as' = p.as';
          path = step p.parent p.b p.a (pairs path.left ++ (path.key, path.value) ∷ p.b) p.a
              (subst (λ (z : Bool). TakesSide s t ty g z path.left path.key path.value path.right (LeadsDown s t ty fs p.parent) p.b p.a (pairs path.left ++ (path.key, path.value) ∷ p.b) p.a) (sym e) (takes.0, (p.path, (refl, refl))));
          last = p.last;
          before_is = takes.1.1.0 ∙ ap (λ es. pairs path.left ++ (path.key, path.value) ∷ es) p.before_is ∙ sym (append_assoc (pairs path.left) ((path.key, path.value) ∷ p.b) p.bs);
          behind_is = takes.1.1.1 ∙ p.behind_is;
        }

  pub path_pop : (fs : List Frame) (f : Frame) (here whole : Tree) (b a : List (ℤ × ℤ)) → LeadsDown s t ty (fs ++ f ∷ []) here whole b a → Popped fs f here whole b a
  path_pop [] f here whole b a path = record {
    parent = whole;
    b = [];
    a = [];
    bs = b;
    as' = a;
    path = (refl, (refl, refl));
    last = path;
    before_is = refl;
    behind_is = sym (append-nil a);
  }
  path_pop (g ∷ fs) f here whole b a path = shorter fs g f here whole (λ child b' a' rest. path_pop fs f here child b' a' rest) b a path g.goes_left refl path.side
