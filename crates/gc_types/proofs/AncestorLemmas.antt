-- What depths tell of ancestors.
use Rattle.std.proofs.Common.{ℕ, ◌≡◌, ◌<◌, ◌≤◌, ◌+◌, inl, inr, List, Option, Some, None, length, refl, sym, ◌∙◌, ap, subst, arith}
use Rattle.std.specs.List.{slice_get}
use Rattle.std.proofs.lemmas.List.{length-map}
use Rattle.std.specs.Option.{option_map}
use Rattle.std.proofs.lemmas.Option.{slice_get_within, slice_get-map, slice_get_cases}
use Rattle.gc_types.specs.declared.ancestry.Entry.{Entry}
use Rattle.gc_types.specs.Subtyping.{Meets, here, up}
use Rattle.gc_types.specs.Ancestors.{ArePlaced, IsAbove, entry_supers, entry_depth, depth_at}
use Rattle.gc_types.proofs.SubtypingLemmas.{meets_declared, meets_linear}

-- the entry behind a supertype that is read
pub super_entry : (entries : List Entry) (a : ℕ) (s : Option ℕ) → slice_get (entry_supers entries) a ≡ Some s
    → (e : Entry) × (slice_get entries a ≡ Some e) × (e.supertype ≡ s)
super_entry entries a s h =
    let read = sym (slice_get-map (λ (e : Entry). e.supertype) entries a) ∙ h in
    elim ((slice_get_cases entries a).1) [
      | inl (e, within, is, same) ↦ (e, is, grind (arith, sym (ap (option_map (λ (e : Entry). e.supertype)) is) ∙ read))
      | inr (past, none) ↦ absurd (grind (arith, sym (ap (option_map (λ (e : Entry). e.supertype)) none) ∙ read))
    ]

-- the supertype of an entry that is read
pub entry_super : (entries : List Entry) (a : ℕ) (e : Entry) → slice_get entries a ≡ Some e → slice_get (entry_supers entries) a ≡ Some e.supertype
entry_super entries a e is = slice_get-map (λ (e : Entry). e.supertype) entries a ∙ ap (option_map (λ (e : Entry). e.supertype)) is

-- a supertype is older and one less deep
pub super_above : (entries : List Entry) → ArePlaced entries → (a p : ℕ) → slice_get (entry_supers entries) a ≡ Some (Some p)
    → (p < a) × (depth_at entries a ≡ depth_at entries p + 1)
super_above entries placed a p s =
    let found = super_entry entries a (Some p) s in
    let above = subst (IsAbove entries a found.0) found.2 (placed a found.0 found.1).above in
    (above.0, ap entry_depth found.1 ∙ above.1)

-- an ancestor is no deeper
pub ancestor_depth : (entries : List Entry) → ArePlaced entries → {a b : ℕ} → Meets (entry_supers entries) a b → depth_at entries b ≤ depth_at entries a
ancestor_depth entries placed (here h) = omega arith
ancestor_depth entries placed (up {a = a} {p = p} s m) =
    let above = super_above entries placed a p s in
    let rest = ancestor_depth entries placed m in
    omega arith

-- an ancestor that is as deep is the type itself
pub ancestor_same : (entries : List Entry) → ArePlaced entries → {a b : ℕ} → Meets (entry_supers entries) a b → depth_at entries a ≤ depth_at entries b → a ≡ b
ancestor_same entries placed (here h) deep = refl
ancestor_same entries placed (up {a = a} {p = p} s m) deep =
    let above = super_above entries placed a p s in
    let rest = ancestor_depth entries placed m in
    absurd (omega arith)

-- a farther ancestor that is deep enough is passed by
pub meets_past : (entries : List Entry) → ArePlaced entries → (a j b : ℕ) → Meets (entry_supers entries) a j → depth_at entries b ≤ depth_at entries j
    → Meets (entry_supers entries) a b → Meets (entry_supers entries) j b
meets_past entries placed a j b far deep m =
    elim (meets_linear (entry_supers entries) far m) [
      | inl below ↦ below
      | inr above ↦
          let same = ancestor_same entries placed above deep in
          let back : Meets (entry_supers entries) b b = here (meets_declared (entry_supers entries) above).0 in
          subst (λ z. Meets (entry_supers entries) z b) same back
    ]

-- what a deeper type meets, its supertype meets
meets_above_by : (entries : List Entry) → ArePlaced entries → {a b : ℕ} (p : ℕ) → slice_get (entry_supers entries) a ≡ Some (Some p)
    → depth_at entries b < depth_at entries a → Meets (entry_supers entries) a b → Meets (entry_supers entries) p b
meets_above_by entries placed p s deep (here h) = absurd (omega arith)
meets_above_by entries placed {a = a} {b = b} p s deep (up {p = q} t m) =
    let same : q ≡ p = cc in
    subst (λ z. Meets (entry_supers entries) z b) same m

pub meets_above : (entries : List Entry) → ArePlaced entries → (a p b : ℕ) → slice_get (entry_supers entries) a ≡ Some (Some p)
    → depth_at entries b < depth_at entries a → Meets (entry_supers entries) a b → Meets (entry_supers entries) p b
meets_above entries placed a p b s deep m = meets_above_by entries placed p s deep m

-- where a climb stands: what the type meets is what the ancestor meets
pub record Climbed (entries : List Entry) (sub sup ancestor : ℕ) (entry : Entry) : Type 0 where
  pub is : slice_get entries ancestor ≡ Some entry
  pub back : Meets (entry_supers entries) ancestor sup → Meets (entry_supers entries) sub sup
  pub on : Meets (entry_supers entries) sub sup → Meets (entry_supers entries) ancestor sup

pub jump_declared : (entries : List Entry) → ArePlaced entries → (a : ℕ) (e : Entry) → slice_get entries a ≡ Some e → e.jump < length entries
jump_declared entries placed a e is =
    let declared = (meets_declared (entry_supers entries) (placed a e is).jump).1 in
    simp length-map at declared

pub jump_depth : (entries : List Entry) → ArePlaced entries → (a : ℕ) (e f : Entry) → slice_get entries a ≡ Some e → slice_get entries e.jump ≡ Some f → f.depth ≤ e.depth
jump_depth entries placed a e f is far =
    let above = ancestor_depth entries placed (placed a e is).jump in
    let deep : depth_at entries a ≡ e.depth = ap entry_depth is in
    let other : depth_at entries e.jump ≡ f.depth = ap entry_depth far in
    omega arith

jump_older : (entries : List Entry) (a : ℕ) (e : Entry) (s : Option ℕ) → IsAbove entries a e s → 0 < e.depth → e.jump < a
jump_older entries a e None above deep = absurd (omega arith)
jump_older entries a e (Some p) above deep = above.2

-- a step of a climb, which passes by nothing that is sought
pub record Passes (entries : List Entry) (sought from to : ℕ) : Type 0 where
  pub older : to < from
  pub reached : Meets (entry_supers entries) from to
  pub kept : Meets (entry_supers entries) from sought → Meets (entry_supers entries) to sought

pub pass_jump : (entries : List Entry) → ArePlaced entries → (a sought : ℕ) (e f : Entry) → slice_get entries a ≡ Some e → slice_get entries e.jump ≡ Some f
    → depth_at entries sought < e.depth → depth_at entries sought ≤ f.depth → Passes entries sought a e.jump
pass_jump entries placed a sought e f is far deep still =
    let place = placed a e is in
    let other : depth_at entries e.jump ≡ f.depth = ap entry_depth far in
    record {
      older = jump_older entries a e e.supertype place.above (omega arith);
      reached = place.jump;
      kept = meets_past entries placed a e.jump sought place.jump (omega arith);
    }

pub pass_super : (entries : List Entry) → ArePlaced entries → (a p sought : ℕ) (e : Entry) → slice_get entries a ≡ Some e → e.supertype ≡ Some p
    → depth_at entries sought < e.depth → Passes entries sought a p
pass_super entries placed a p sought e is super deep =
    let s = entry_super entries a e is ∙ ap Some super in
    let above = super_above entries placed a p s in
    let mine : depth_at entries a ≡ e.depth = ap entry_depth is in
    let declared : p < length (entry_supers entries) = omega (arith, slice_get_within (entry_supers entries) a (Some p) s) in
    record {
      older = above.0;
      reached = up s (here declared);
      kept = meets_above entries placed a p sought s (omega arith);
    }

-- a type without a supertype has depth 0
pub no_super : (entries : List Entry) → ArePlaced entries → (a : ℕ) (e : Entry) → slice_get entries a ≡ Some e → e.supertype ≡ None → e.depth ≡ 0
no_super entries placed a e is none = (subst (IsAbove entries a e) none (placed a e is).above).0

-- where the climb ends, an ancestor is sought that is as deep
pub climbed_to : (entries : List Entry) → ArePlaced entries → (a b : ℕ) (e : Entry) → slice_get entries a ≡ Some e → e.depth ≤ depth_at entries b
    → Meets (entry_supers entries) a b → a ≡ b
climbed_to entries placed a b e is deep m =
    let mine : depth_at entries a ≡ e.depth = ap entry_depth is in
    ancestor_same entries placed m (omega arith)
