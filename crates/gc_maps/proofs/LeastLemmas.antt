-- The least node of a tree: it is the last one on the way to where a lesser key would stand.
use Rattle.std.proofs.Common.{◌≡◌, ℕ, ℤ, T, Bool, true, false, List, [], ◌∷◌, ◌++◌, Option, Some, None, Ok, sym, ap, ◌∙◌, subst, w64, FitsSigned}
use Rattle.std.specs.Ordering.{int_cmp}
use Rattle.std.specs.FinMap.Entries.{below_all}
use Rattle.std.proofs.lemmas.List.{append_assoc}
use Rattle.gc_types.specs.declared.kind.Layouts.{Layouts}
use Rattle.gc_model.specs.Table.{Table}
use Rattle.gc_model.specs.Stores.{StoreView}
use Rattle.gc_maps.specs.declared.part.Frame.{Frame}
use Rattle.gc_maps.specs.declared.part.Node.{Node}
use Rattle.gc_maps.specs.Trees.{Tree, leaf, node, pairs}
use Rattle.gc_maps.specs.Paths.{TakesSide, LeadsDown, Descended}
use Rattle.gc_maps.specs.Gaps.{IsLeastNode}
use Rattle.gc_maps.specs.Ends.{EndsReading}
use Rattle.gc_maps.proofs.Entries.{AllAbove, all_above, put_first}
use Rattle.gc_maps.proofs.Removals.{none_and_none, none_before, not_above, not_none}
use Rattle.gc_maps.proofs.WayLemmas.{Popped, path_pairs, path_pop}

module _ {D : Type 0} (s : StoreView D) (t : Table D) (ty : ℕ) (tree : Tree) (key : ℤ) (above : T (below_all int_cmp key (pairs tree))) (frames : List Frame) where
  is_above : AllAbove (pairs tree) key
  is_above = all_above key (pairs tree) above

  -- a key below all is not there
  not_there : (read : Node) → Descended s t ty tree key frames (Some read) → ⊥
  not_there read d =
      let es : pairs tree ≡ d.before ++ ((pairs d.left ++ (key, read.value) ∷ pairs d.right) ++ d.behind) = path_pairs s t ty frames d.here tree d.before d.behind d.path
      ∙ ap (λ (here : Tree). d.before ++ (pairs here ++ d.behind)) d.there in
      not_above key read.value (d.before ++ pairs d.left) (pairs d.right ++ d.behind) (subst (λ (zs : List (ℤ × ℤ)). AllAbove zs key) (es ∙ regroup d.before (pairs d.left) (key, read.value) (pairs d.right) d.behind) is_above)
    where
      regroup : (before xs : List (ℤ × ℤ)) (e : ℤ × ℤ) (ys behind : List (ℤ × ℤ)) → before ++ ((xs ++ e ∷ ys) ++ behind) ≡ (before ++ xs) ++ e ∷ (ys ++ behind)
      regroup before xs e ys behind = simp append_assoc

  nothing_before : (d : Descended s t ty tree key frames None) → d.before ≡ []
  nothing_before d =
      none_before key key (pairs tree) d.before (pairs d.right ++ d.behind) is_above
      (sym (put_first key key (pairs tree) is_above) ∙ d.puts key ∙ ap (λ (left : Tree). d.before ++ ((pairs left ++ (key, key) ∷ pairs d.right) ++ d.behind)) d.children.0)

  module _ (rest : List Frame) (f : Frame) (frames_is : frames ≡ rest ++ f ∷ []) (d : Descended s t ty tree key frames None) where
    abbrev at : Popped s t ty rest f d.here tree d.before d.behind
    at = path_pop s t ty rest f d.here tree d.before d.behind (subst (λ (fs : List Frame). LeadsDown s t ty fs d.here tree d.before d.behind) frames_is d.path)

    nothing_around : (at.b ≡ []) × (at.bs ≡ [])
    nothing_around = none_and_none at.b at.bs (sym at.before_is ∙ nothing_before d)

    from_side : (side : Bool) → TakesSide s t ty f side at.last.left at.last.key at.last.value at.last.right (LeadsDown s t ty [] d.here) at.last.b at.last.a at.bs at.as' → IsLeastNode s t ty tree rest f
    from_side true takes =
        let parent_is : at.parent ≡ node leaf f.key f.value at.last.right = at.last.is ∙ (λ i. node ((takes.1.0.0 ∙ d.there) i) (sym at.last.key_is i) (sym at.last.value_is i) at.last.right) in
        record {
          part = at.last.right;
          root = takes.0;
          key_fits = subst (FitsSigned w64) (sym at.last.key_is) at.last.key_fits;
          value_fits = subst (FitsSigned w64) (sym at.last.value_is) at.last.value_fits;
          behind = at.a;
          path = subst (λ (p : Tree). LeadsDown s t ty rest p tree [] at.a) parent_is (subst (λ (b : List (ℤ × ℤ)). LeadsDown s t ty rest at.parent tree b at.a) nothing_around.0 at.path);
        }
    from_side false takes = absurd (not_none (pairs at.last.left) (at.last.key, at.last.value) at.last.b (sym takes.1.1.0 ∙ nothing_around.1))

    pub least_at : IsLeastNode s t ty tree rest f
    least_at = from_side f.goes_left at.last.side

  pub least_found : (rest : List Frame) (f : Frame) → frames ≡ rest ++ f ∷ [] → (found : Option Node) → Descended s t ty tree key frames found → IsLeastNode s t ty tree rest f
  least_found rest f frames_is None d = least_at rest f frames_is d
  least_found rest f frames_is (Some read) d = absurd (not_there read d)

-- a way down that ended at nothing
pub took_least : {D : Type 0} (layouts : Layouts) (t : Table D) (ty : ℕ) (tree : Tree) (key : ℤ) → T (below_all int_cmp key (pairs tree)) → (s : StoreView D) (frames rest : List Frame) (f : Frame) → frames ≡ rest ++ f ∷ []
    → (found : Option Node) → EndsReading layouts 184 t (λ s u found. Descended s u ty tree key frames found) (Ok found) s → EndsReading layouts 184 t (λ s u least. IsLeastNode s u ty tree rest least) (Ok f) s
took_least layouts t ty tree key above s frames rest f frames_is found ends = record {
  after = ends.after;
  account = ends.account;
  holds = ends.holds;
  changed = (ends.changed.0, least_found s ends.after ty tree key above frames rest f frames_is found ends.changed.1);
}
