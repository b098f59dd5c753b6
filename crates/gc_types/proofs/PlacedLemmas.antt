-- The places of the entries stay as newer ones come and go.
use Rattle.std.proofs.Common.{ℕ, ◌≡◌, ◌<◌, ◌≤◌, ◌+◌, inl, inr, List, [], ◌∷◌, ◌++◌, Option, Some, None, length, get_or, refl, sym, ◌∙◌, ap, subst, arith, length-append}
use Rattle.std.specs.List.{slice_get}
use Rattle.std.proofs.Math.ListN.{get_or-append}
use Rattle.std.proofs.Math.Seq.{get_or-append_seam}
use Rattle.std.proofs.lemmas.Bool.{cases_lt}
use Rattle.std.proofs.lemmas.List.{map-append, length-map}
use Rattle.std.proofs.lemmas.Option.{slice_get_within, slice_get_read, get_or_from_slice_get, slice_get_cases}
use Rattle.gc_types.specs.declared.ancestry.Entry.{Entry}
use Rattle.gc_types.specs.Subtyping.{Meets, here, up}
use Rattle.gc_types.specs.Ancestors.{ArePlaced, IsPlaced, IsAbove, entry_supers, entry_depth, depth_at}
use Rattle.gc_types.proofs.SubtypingLemmas.{meets_declared}
use Rattle.gc_types.proofs.AncestorLemmas.{super_above}

-- what is read in a front is read in the whole
front_in_whole : {A : Type 0} (xs ys : List A) (i : ℕ) (x : A) → slice_get xs i ≡ Some x → slice_get (xs ++ ys) i ≡ Some x
front_in_whole xs ys i x e =
    let within = slice_get_within xs i x e in
    let longer : i < length (xs ++ ys) = simp length-append (omega arith) in
    slice_get_read (xs ++ ys) (length (xs ++ ys)) i x refl longer (sym (get_or-append xs ys x i within ∙ get_or_from_slice_get xs i x x e))

-- what is read in the whole below the front's end is read in the front
whole_in_front : {A : Type 0} (xs ys : List A) (i : ℕ) (x : A) → i < length xs → slice_get (xs ++ ys) i ≡ Some x → slice_get xs i ≡ Some x
whole_in_front xs ys i x within e =
    slice_get_read xs (length xs) i x refl within (sym (get_or_from_slice_get (xs ++ ys) i x x e) ∙ get_or-append xs ys x i within)

-- the last element
last_read : {A : Type 0} (xs : List A) (y x : A) → slice_get (xs ++ y ∷ []) (length xs) ≡ Some x → x ≡ y
last_read xs y x e = sym (get_or_from_slice_get (xs ++ y ∷ []) (length xs) x x e) ∙ get_or-append_seam xs y [] x

pub meets_in_whole : (supers more : List (Option ℕ)) {a b : ℕ} → Meets supers a b → Meets (supers ++ more) a b
meets_in_whole supers more (here h) = here (simp length-append (omega arith))
meets_in_whole supers more (up {a = a} {p = p} s m) = up (front_in_whole supers more a (Some p) s) (meets_in_whole supers more m)

entries_meet_in_whole : (entries more : List Entry) (a b : ℕ) → Meets (entry_supers entries) a b → Meets (entry_supers (entries ++ more)) a b
entries_meet_in_whole entries more a b m =
    subst (λ (supers : List (Option ℕ)). Meets supers a b) (sym (map-append (λ (e : Entry). e.supertype) entries more)) (meets_in_whole (entry_supers entries) (entry_supers more) m)

entries_meet_in_front : (entries more : List Entry) → ArePlaced (entries ++ more) → {a b : ℕ} → Meets (entry_supers (entries ++ more)) a b → a < length entries → Meets (entry_supers entries) a b
entries_meet_in_front entries more placed (here h) within = here (rw length-map within)
entries_meet_in_front entries more placed (up {a = a} {p = p} s m) within =
    let older = (super_above (entries ++ more) placed a p s).0 in
    let split = subst (λ (supers : List (Option ℕ)). slice_get supers a ≡ Some (Some p)) (map-append (λ (e : Entry). e.supertype) entries more) s in
    let inside : a < length (entry_supers entries) = rw length-map within in
    up (whole_in_front (entry_supers entries) (entry_supers more) a (Some p) inside split) (entries_meet_in_front entries more placed m (omega arith))

depth_in_whole : (entries more : List Entry) (p : ℕ) → p < length entries → depth_at (entries ++ more) p ≡ depth_at entries p
depth_in_whole entries more p within =
    elim ((slice_get_cases entries p).1) [
      | inl (e, inside, is, same) ↦ ap entry_depth (front_in_whole entries more p e is) ∙ sym (ap entry_depth is)
      | inr (past, none) ↦ absurd (omega arith)
    ]

above_in_whole : (entries more : List Entry) (i : ℕ) (e : Entry) (s : Option ℕ) → i ≤ length entries → IsAbove entries i e s → IsAbove (entries ++ more) i e s
above_in_whole entries more i e None within above = above
above_in_whole entries more i e (Some p) within above =
    (above.0, above.1 ∙ ap (λ n. n + 1) (sym (depth_in_whole entries more p (omega arith))), above.2)

above_in_front : (entries more : List Entry) (i : ℕ) (e : Entry) (s : Option ℕ) → i ≤ length entries → IsAbove (entries ++ more) i e s → IsAbove entries i e s
above_in_front entries more i e None within above = above
above_in_front entries more i e (Some p) within above =
    (above.0, above.1 ∙ ap (λ n. n + 1) (depth_in_whole entries more p (omega arith)), above.2)

-- the entries stay placed without the newest
pub placed_front : (entries more : List Entry) → ArePlaced (entries ++ more) → ArePlaced entries
placed_front entries more placed i e is =
    let within = slice_get_within entries i e is in
    let place = placed i e (front_in_whole entries more i e is) in
    record {
      above = above_in_front entries more i e e.supertype (omega arith) place.above;
      jump = entries_meet_in_front entries more placed place.jump within;
      bounded = place.bounded;
    }

-- the place of a newest entry
record IsNewest (entries : List Entry) (e : Entry) : Type 0 where
  above : IsAbove entries (length entries) e e.supertype
  jump : Meets (entry_supers (entries ++ e ∷ [])) (length entries) e.jump
  bounded : e.depth ≤ length entries

-- the entries stay placed with one more
placed_more : (entries : List Entry) (new : Entry) → ArePlaced entries → IsNewest entries new → ArePlaced (entries ++ new ∷ [])
placed_more entries new placed newest i e is =
    elim (cases_lt i (length entries)) [
      | inl within ↦
          let place = placed i e (whole_in_front entries (new ∷ []) i e within is) in
          record {
            above = above_in_whole entries (new ∷ []) i e e.supertype (omega arith) place.above;
            jump = entries_meet_in_whole entries (new ∷ []) i e.jump place.jump;
            bounded = place.bounded;
          }
      | inr past ↦
          let inside = slice_get_within (entries ++ new ∷ []) i e is in
          let at_end : i ≡ length entries = omega (arith, simp length-append at inside) in
          let same : e ≡ new = last_read entries new e (subst (λ n. slice_get (entries ++ new ∷ []) n ≡ Some e) at_end is) in
          let place : IsPlaced (entries ++ new ∷ []) (length entries) new = record {
            above = above_in_whole entries (new ∷ []) (length entries) new new.supertype (omega arith) newest.above;
            jump = newest.jump;
            bounded = newest.bounded;
          } in
          subst (λ n. IsPlaced (entries ++ new ∷ []) n e) (sym at_end) (subst (λ (x : Entry). IsPlaced (entries ++ new ∷ []) (length entries) x) (sym same) place)
    ]

new_read : (entries : List Entry) (new : Entry) (s : Option ℕ) → new.supertype ≡ s → slice_get (entry_supers (entries ++ new ∷ [])) (length entries) ≡ Some s
new_read entries new s is =
    slice_get_read (entry_supers (entries ++ new ∷ [])) (length (entry_supers (entries ++ new ∷ []))) (length entries) s refl (simp (length-map, length-append) (omega arith))
    (sym (ap (λ (xs : List (Option ℕ)). get_or xs (length entries) s) (map-append (λ (e : Entry). e.supertype) entries (new ∷ []))
    ∙ ap (λ n. get_or (entry_supers entries ++ new.supertype ∷ []) n s) (sym (length-map entries (λ (e : Entry). e.supertype)))
    ∙ get_or-append_seam (entry_supers entries) new.supertype [] s ∙ is))

depth_bounded : (entries : List Entry) → ArePlaced entries → (p deep : ℕ) → p < length entries → deep ≡ depth_at entries p + 1 → deep ≤ length entries
depth_bounded entries placed p deep within is =
    elim ((slice_get_cases entries p).1) [
      | inl (e, inside, read, same) ↦
          let bounded = (placed p e read).bounded in
          let mine : depth_at entries p ≡ e.depth = ap entry_depth read in
          omega arith
      | inr (past, none) ↦ absurd (omega arith)
    ]

-- a newest type with a supertype
pub placed_below : (entries : List Entry) (new : Entry) (p : ℕ) → ArePlaced entries → p < length entries → new.supertype ≡ Some p
    → new.depth ≡ depth_at entries p + 1 → Meets (entry_supers entries) p new.jump → ArePlaced (entries ++ new ∷ [])
placed_below entries new p placed within super deep far =
    let declared = (meets_declared (entry_supers entries) far).1 in
    let older : new.jump < length entries = simp length-map at declared in
    let above : IsAbove entries (length entries) new (Some p) = (within, deep, older) in
    placed_more entries new placed (record {
      above = subst (IsAbove entries (length entries) new) (sym super) above;
      jump = up (new_read entries new (Some p) super) (entries_meet_in_whole entries (new ∷ []) p new.jump far);
      bounded = depth_bounded entries placed p new.depth within deep;
    })

-- a newest type without a supertype
pub placed_root : (entries : List Entry) (new : Entry) → ArePlaced entries → new.supertype ≡ None
    → new.depth ≡ 0 → new.jump ≡ length entries → ArePlaced (entries ++ new ∷ [])
placed_root entries new placed none deep far =
    let above : IsAbove entries (length entries) new None = (deep, far) in
    let declared : length entries < length (entry_supers (entries ++ new ∷ [])) = simp (length-map, length-append) (omega arith) in
    placed_more entries new placed (record {
      above = subst (IsAbove entries (length entries) new) (sym none) above;
      jump = subst (λ n. Meets (entry_supers (entries ++ new ∷ [])) (length entries) n) (sym far) (here declared);
      bounded = omega arith;
    })
