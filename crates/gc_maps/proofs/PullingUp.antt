-- The least pair on the right of a node moves up.
use Rattle.std.proofs.Common.{◌≡◌, ℕ, ◌<◌, ℤ, Bool, false, List, [], ◌∷◌, ◌++◌, Option, Some, Result, Ok, Err, refl, sym, ap, ◌∙◌, subst, arith, w64, FitsSigned, to_z, of_z, SFits, T}
use Rattle.std.proofs.lemmas.Int.{to_z-of_z}
use Rattle.std.specs.Ordering.{int_cmp}
use Rattle.std.specs.FinMap.Entries.{below_all}
use Rattle.std.proofs.lemmas.List.{append_assoc, append-nil}
use Rattle.gc_types.specs.declared.kind.Layouts.{Layouts}
use Rattle.gc_model.specs.Table.{Table}
use Rattle.gc_model.specs.Stores.{StoreView}
use Rattle.gc_model.specs.Accounts.{Account, HoldsAccount}
use Rattle.gc_values.specs.declared.root.GcRootIndex.{GcRootIndex}
use Rattle.gc_store.specs.Stores.{IsSameStore}
use Rattle.gc_lists.specs.declared.fault.ListFault.{ListFault}
use Rattle.gc_lists.specs.Frames.{Leaves}
use Rattle.gc_maps.specs.declared.part.Frame.{Frame}
use Rattle.gc_maps.specs.declared.part.Node.{Node}
use Rattle.gc_maps.specs.declared.part.Part.{Part}
use Rattle.gc_maps.specs.Trees.{Tree, leaf, node, height, pairs}
use Rattle.gc_maps.specs.Parts.{RootIs, PartIs, RootIn}
use Rattle.gc_maps.specs.Paths.{TakesSide, LeadsDown, Descended}
use Rattle.gc_maps.specs.Gaps.{others, AboveIn, Closes, IsLeastNode}
use Rattle.gc_maps.specs.Searching.{IsSearch}
use Rattle.gc_maps.specs.Ends.{Pushes, EndsReading}
use Rattle.gc_maps.proofs.Naming.{Keeps, held_table, root_kept}
use Rattle.gc_maps.proofs.NodeReads.{refused_later, table_keeps}
use Rattle.gc_maps.proofs.Growing.{pushes_keep, pushes_none}
use Rattle.gc_maps.proofs.Descending.{path_kept}
use Rattle.gc_maps.proofs.Rising.{path_balanced, path_high}
use Rattle.gc_maps.proofs.Putting.{ReadsPart}
use Rattle.gc_maps.proofs.WayLemmas.{LastStep, path_append, path_pairs, path_push}
use Rattle.gc_maps.proofs.Removals.{front_above, sorted_front}
use Rattle.gc_maps.proofs.GapLemmas.{Swapped, gap, low_children, path_swap}

regroup : (before xs ps cs behind : List (ℤ × ℤ)) (e : ℤ × ℤ) → ((before ++ (xs ++ e ∷ [])) ++ []) ++ (ps ++ (cs ++ behind)) ≡ before ++ ((xs ++ e ∷ (ps ++ cs)) ++ behind)
regroup before xs ps cs behind e = simp (append_assoc, append-nil)

-- what taking the least node says
abbrev pub TakesLeast : {D : Type 0} → Layouts → StoreView D → GcRootIndex → List Frame → StoreView D → ℤ → Result Frame ListFault → Type 0
TakesLeast {D} layouts s right below new key result = (t : Table D) (a : Account) (ty : ℕ) (tree : Tree) → HoldsAccount layouts s t a → RootIs s t ty (Some right) tree → IsSearch tree → T (below_all int_cmp key (pairs tree))
    → EndsReading layouts 184 t (λ s u least. IsLeastNode s u ty tree below least) result new

-- a key that is passed on is what it was
pub takes_passed : {D : Type 0} (layouts : Layouts) (s : StoreView D) (right : GcRootIndex) (below : List Frame) (new : StoreView D) (key : ℤ) → SFits w64 key → (result : Result Frame ListFault)
    → TakesLeast layouts s right below new (to_z w64 (of_z w64 key)) result → TakesLeast layouts s right below new key result
takes_passed layouts s right below new key fits result takes = subst (λ (z : ℤ). TakesLeast layouts s right below new z result) (to_z-of_z w64 key fits) takes

-- A node that has both children was found.
module _ {D : Type 0} (layouts : Layouts) (s : StoreView D) (t : Table D) (a : Account) (holds : HoldsAccount layouts s t a) (ty : ℕ) (tree : Tree) (key : ℤ) (frames : List Frame) (read : Node)
    (search : IsSearch tree) (low : height tree < 92) (d : Descended s t ty tree key frames (Some read)) (right : GcRootIndex) (right_is : read.right ≡ Some right) where
  right_root : RootIs s t ty (Some right) d.right
  right_root = subst (λ (r : Option GcRootIndex). RootIs s t ty r d.right) right_is d.children.1

  right_search : IsSearch d.right
  right_search = record { balanced = d.balanced.in_right; rising = sorted_front (pairs d.right) d.behind (gap layouts s t a holds ty tree key frames read search low d).rising }

  right_above : T (below_all int_cmp key (pairs d.right))
  right_above = front_above key (pairs d.right) d.behind (gap layouts s t a holds ty tree key frames read search low d).above

  pub above_in : AboveIn D layouts s right key
  above_in = record { table = t; holds = held_table layouts s t a holds; ty = ty; tree = d.right; is = right_root; search = right_search; above = right_above }

  module _ (s1 : StoreView D) (below : List Frame) where
    abbrev Takes : Result Frame ListFault → Type 0
    Takes result = TakesLeast layouts s right below s1 key result

    pub least_refused : (f : ListFault) → Takes (Err f) → (Done : StoreView D → Table D → Part → Type 0) → EndsReading {A = Part} layouts 184 t Done (Err f) s1
    least_refused f takes Done = refused_later {A = Frame} layouts 0 184 t t (λ s u least. IsLeastNode s u ty d.right below least) Done f s1 (pushes_none 0 t) (takes t a ty d.right holds right_root right_search right_above)

    module _ (least : Frame) (takes : Takes (Ok least)) (same1 : IsSameStore s s1) where
      abbrev ends : Leaves layouts (λ u. Pushes 184 t u × IsLeastNode s1 u ty d.right below least) s1
      ends = takes t a ty d.right holds right_root right_search right_above

      abbrev l : IsLeastNode s1 ends.after ty d.right below least
      l = ends.changed.1

      -- there is no memory for a longer path
      pub wanting : Leaves layouts (Pushes 184 t) s1
      wanting = record { after = ends.after; account = ends.account; holds = ends.holds; changed = ends.changed.0 }

      low_part : height l.part < 92
      low_part =
          let high = path_high s1 ends.after ty below (node leaf least.key least.value l.part) d.right [] l.behind l.path in
          let low_right = (low_children layouts s t a holds ty tree key frames read search low d).1 in
          omega (arith, high, low_right)

      pub part_in : RootIn D layouts s1 least.other
      part_in = record { table = ends.after; holds = held_table layouts s1 ends.after ends.account ends.holds; ty = ty; tree = l.part; is = l.root }

      keeps1 : Keeps s t s1 ends.after
      keeps1 = pushes_keep 184 s t s1 ends.after same1 ends.changed.0

      -- the node with the least pair in its place
      abbrev other : Tree
      other = node d.left least.key least.value d.right

      swapped : Swapped s1 ends.after ty frames other tree d.before d.behind
      swapped = path_swap s1 ends.after ty d.here other (sym (ap height d.there)) d.balanced frames tree d.before d.behind (path_kept s t s1 ends.after keeps1 ty frames d.here tree d.before d.behind d.path)

      module _ (step : Frame) (goes_right : step.goes_left ≡ false) (key_is : FitsSigned w64 least.key → step.key ≡ least.key) (value_is : FitsSigned w64 least.value → step.value ≡ least.value) (other_is : step.other ≡ read.left) where
        last : LastStep s1 ends.after ty step d.right other (pairs d.left ++ (least.key, least.value) ∷ []) []
        last = record {
          left = d.left;
          key = least.key;
          value = least.value;
          right = d.right;
          is = refl;
          key_is = key_is l.key_fits;
          value_is = value_is l.value_fits;
          key_fits = l.key_fits;
          value_fits = l.value_fits;
          b = [];
          a = [];
          side = subst (λ (z : Bool). TakesSide s1 ends.after ty step z d.left least.key least.value d.right (LeadsDown s1 ends.after ty [] d.right) [] [] (pairs d.left ++ (least.key, least.value) ∷ []) []) (sym goes_right)
              (subst (λ (r : Option GcRootIndex). RootIs s1 ends.after ty r d.left) (sym other_is) (root_kept s t s1 ends.after keeps1 ty read.left d.left d.children.0), ((refl, (refl, refl)), (refl, refl)));
        }

        way : LeadsDown s1 ends.after ty ((frames ++ step ∷ []) ++ below) (node leaf least.key least.value l.part) swapped.tree ((d.before ++ (pairs d.left ++ (least.key, least.value) ∷ [])) ++ []) (l.behind ++ d.behind)
        way =
            path_append s1 ends.after ty (frames ++ step ∷ []) below (node leaf least.key least.value l.part) d.right swapped.tree (d.before ++ (pairs d.left ++ (least.key, least.value) ∷ [])) d.behind [] l.behind
            (path_push s1 ends.after ty frames step d.right other swapped.tree d.before d.behind (pairs d.left ++ (least.key, least.value) ∷ []) [] swapped.path last) l.path

        module _ (s2 : StoreView D) (same2 : IsSameStore s1 s2) (part : Part) (reads : ReadsPart layouts s1 s2 least.other part) where
          got : PartIs s2 ends.after ty part l.part × HoldsAccount layouts s2 ends.after ends.account
          got = reads ends.after ends.account ty l.part ends.holds l.root (let h = low_part in omega (arith, h))

          entries_are : ((d.before ++ (pairs d.left ++ (least.key, least.value) ∷ [])) ++ []) ++ (pairs l.part ++ (l.behind ++ d.behind)) ≡ others key (pairs tree)
          entries_are =
              regroup d.before (pairs d.left) (pairs l.part) l.behind d.behind (least.key, least.value)
              ∙ ap (λ (es : List (ℤ × ℤ)). d.before ++ ((pairs d.left ++ es) ++ d.behind)) (sym (path_pairs s1 ends.after ty below (node leaf least.key least.value l.part) d.right [] l.behind l.path))
              ∙ sym (gap layouts s t a holds ty tree key frames read search low d).without

          pub pulled_up : (fs : List Frame) → fs ≡ (frames ++ step ∷ []) ++ below → EndsReading layouts 184 t (λ s u part. Closes s u ty fs part (others key (pairs tree))) (Ok part) s2
          pulled_up fs fs_is = subst (λ (gs : List Frame). EndsReading layouts 184 t (λ s u part. Closes s u ty gs part (others key (pairs tree))) (Ok part) s2) (sym fs_is) (record {
            after = ends.after;
            account = ends.account;
            holds = got.1;
            changed = (
              ends.changed.0,
              record {
                whole = swapped.tree;
                balanced = swapped.balanced search.balanced;
                low = let high = swapped.high in omega (arith, high, low);
                rises = record {
                  old = node leaf least.key least.value l.part;
                  new = l.part;
                  before = (d.before ++ (pairs d.left ++ (least.key, least.value) ∷ [])) ++ [];
                  behind = l.behind ++ d.behind;
                  path = path_kept s1 ends.after s2 ends.after (table_keeps s1 ends.after s2 same2) ty ((frames ++ step ∷ []) ++ below) (node leaf least.key least.value l.part) swapped.tree
                      ((d.before ++ (pairs d.left ++ (least.key, least.value) ∷ [])) ++ []) (l.behind ++ d.behind) way;
                  is = got.0;
                  balanced = (path_balanced s1 ends.after ty below (node leaf least.key least.value l.part) d.right [] l.behind l.path d.balanced.in_right).in_right;
                  close = record { left = omega arith; right = omega arith };
                  whole_is = entries_are;
                };
              },
            );
          })
