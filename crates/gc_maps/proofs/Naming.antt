-- What roots name, and what stays of it as a table grows.
use Rattle.std.proofs.Common.{inl, inr, ◌≡◌, ◌≢◌, ℕ, zero, suc, ◌<◌, List, [], ◌∷◌, ◌++◌, length, Option, Some, None, true, false, Bool, cond, eqb, sym, ap, ◌∙◌, refl, arith}
use Rattle.std.specs.List.{slice_get}
use Rattle.std.proofs.lemmas.Grind.{common_steps}
use Rattle.std.proofs.lemmas.Option.{slice_get_within, slice_get_cases}
use Rattle.gc_types.specs.declared.kind.Layouts.{Layouts}
use Rattle.gc_types.specs.Declarations.{Declaration}
use Rattle.gc_owner.specs.declared.entry.RootEntry.{RootEntry}
use Rattle.gc_model.specs.Values.{Reference, Object}
use Rattle.gc_model.specs.Table.{Table, Scoped, push}
use Rattle.gc_model.specs.Live.{rooted_among}
use Rattle.gc_model.specs.Stores.{StoreView}
use Rattle.gc_model.specs.Holds.{HoldsTable}
use Rattle.gc_model.proofs.Lists.{slice_get-push_new}
use Rattle.gc_model.specs.Accounts.{Account, HoldsAccount}
use Rattle.gc_values.specs.declared.root.GcRootIndex.{GcRootIndex}
use Rattle.gc_values.specs.declared.root.RootSlot.TheVariants as slot
use Rattle.gc_store.specs.Roots.{handle_of, owned_handle, NamesReference}
use Rattle.gc_store.specs.Stores.{IsSameStore}
use Rattle.gc_values.specs.Words.{owned_id}
use Rattle.gc_lists.specs.Cells.{IsNode}
use Rattle.gc_maps.specs.declared.part.Part.{Part}
use Rattle.gc_maps.specs.Trees.{Tree, leaf, node, height}
use Rattle.gc_maps.specs.Maps.{IsTree}
use Rattle.gc_maps.specs.Parts.{NamesLink, RootIs, PartIs}

pub held_table : {D : Type 0} (layouts : Layouts) (s : StoreView D) (t : Table D) (a : Account) → HoldsAccount layouts s t a → HoldsTable layouts s t
held_table layouts s t a holds = (holds.place, holds.holds)

-- a root at the end is found by its serial, where no other has it
rooted_at_end : (serial : ℕ) (roots : List Scoped) (r : Reference) → ((i : ℕ) (root : Scoped) → slice_get roots i ≡ Some root → root.serial ≢ serial)
    → rooted_among serial (roots ++ record { serial = serial; reference = r } ∷ []) ≡ Some r
rooted_at_end serial [] r differ =
    let test : eqb serial serial ≡ true = grind (arith, common_steps) in
    ap (λ b. cond b (Some r) (rooted_among serial [])) test
rooted_at_end serial (x ∷ roots) r differ =
    let ne : x.serial ≢ serial = differ 0 x refl in
    let test : eqb x.serial serial ≡ false = grind (arith, common_steps) in
    ap (λ b. cond b (Some x.reference) (rooted_among serial (roots ++ record { serial = serial; reference = r } ∷ []))) test
    ∙ rooted_at_end serial roots r (λ i. differ (suc i))

-- the roots that stand are of pushes that were made
abbrev pub AreBefore : {D : Type 0} → Table D → Type 0
AreBefore t = (i : ℕ) (root : Scoped) → slice_get t.scoped i ≡ Some root → root.serial < length t.pushes

pub are_before : {D : Type 0} (layouts : Layouts) (s : StoreView D) (t : Table D) → HoldsTable layouts s t → AreBefore t
are_before layouts s t holds i root e =
    let entry : (entry : RootEntry) × (slice_get s.scoped i ≡ Some entry) =
    elim ((slice_get_cases s.scoped i).1) [
      | inl found ↦ (found.0, found.2)
      | inr past ↦ absurd (omega (arith, past.0, holds.1.scoped.same_count, slice_get_within t.scoped i root e))
    ] in
    slice_get_within t.pushes root.serial _ ((holds.1.scoped.each i entry.0 root entry.1 e).pushed)

-- a new root is live and names what it was pushed for, by its handle
pub names_pushed : {D : Type 0} (t : Table D) → AreBefore t → (new : StoreView D) (r : Reference) → NamesReference new (push r t) (handle_of new (length t.scoped) t.drops) r
names_pushed t before new r = inl (record {
  serial = length t.pushes;
  names = record {
    push = record { index = length t.scoped; generation = t.drops };
    pushed = slice_get-push_new t.pushes (record { index = length t.scoped; generation = t.drops });
    is = refl;
  };
  live = rooted_at_end (length t.pushes) t.scoped r (λ i root e is. let first = before i root e in omega (arith, first, is));
})

-- what stands in a list stands there with more behind it
pub slice_get_front : {X : Type 0} (xs ys : List X) (i : ℕ) (x : X) → slice_get xs i ≡ Some x → slice_get (xs ++ ys) i ≡ Some x
slice_get_front [] ys i x e = absurd (cc)
slice_get_front (y ∷ xs) ys zero x e = e
slice_get_front (y ∷ xs) ys (suc i) x e = slice_get_front xs ys i x e

pub rooted_front : (serial : ℕ) (xs ys : List Scoped) (r : Reference) → rooted_among serial xs ≡ Some r → rooted_among serial (xs ++ ys) ≡ Some r
rooted_front serial [] ys r e = absurd (cc)
rooted_front serial (x ∷ xs) ys r e =
    elim (eqb x.serial serial) as (λ b. cond b (Some x.reference) (rooted_among serial xs) ≡ Some r → cond b (Some x.reference) (rooted_among serial (xs ++ ys)) ≡ Some r) [
      | true ↦ λ is. is
      | false ↦ λ is. rooted_front serial xs ys r is
    ] e

-- what handles name, objects and types stay
pub record Keeps {D : Type 0} (s : StoreView D) (t : Table D) (s' : StoreView D) (u : Table D) : Type 0 where
  pub handles : (h : GcRootIndex) (r : Reference) → NamesReference s t h r → NamesReference s' u h r
  pub objects : (p : ℕ) (o : Object D) → slice_get t.objects p ≡ Some o → slice_get u.objects p ≡ Some o
  pub types : (ty : ℕ) (d : Declaration) → slice_get t.types ty ≡ Some d → slice_get u.types ty ≡ Some d

pub keeps_then : {D : Type 0} (s : StoreView D) (t : Table D) (s' : StoreView D) (u : Table D) (s'' : StoreView D) (v : Table D) → Keeps s t s' u → Keeps s' u s'' v → Keeps s t s'' v
keeps_then s t s' u s'' v first second = record {
  handles = λ h r named. second.handles h r (first.handles h r named);
  objects = λ p o e. second.objects p o (first.objects p o e);
  types = λ ty d e. second.types ty d (first.types ty d e);
}

-- a handle of a store is one of the same store later
same_handle : {D : Type 0} (s s' : StoreView D) → IsSameStore s s' → (index generation : ℕ) → handle_of s index generation ≡ handle_of s' index generation
same_handle s s' same index generation i = record {
  store_id = record { engine = sym same.engine i; number = sym same.number i };
  generation = generation;
  slot = slot.Scoped index;
}

same_owned : {D : Type 0} (s s' : StoreView D) → IsSameStore s s' → (number : ℕ) → owned_handle s number ≡ owned_handle s' number
same_owned s s' same number i = record {
  store_id = record { engine = sym same.engine i; number = sym same.number i };
  generation = number;
  slot = slot.Owned (owned_id number);
}

-- a table of which objects, scoped roots and pushes are only added keeps what handles name
pub names_more : {D : Type 0} (s : StoreView D) (t : Table D) (s' : StoreView D) → IsSameStore s s' → (objects : List (Object D)) (scoped : List Scoped) (pushes : List _) (made : Bool) (pages : ℕ)
    → Keeps s t s' (record t { objects = t.objects ++ objects; scoped = t.scoped ++ scoped; pushes = t.pushes ++ pushes; made = made; pages = pages })
names_more {D} s t s' same objects scoped pushes made pages = record {
  handles = named;
  objects = λ p o e. slice_get_front t.objects objects p o e;
  types = λ ty d e. e;
}
  where
    named : (h : GcRootIndex) (r : Reference) → NamesReference s t h r
        → NamesReference s' (record t { objects = t.objects ++ objects; scoped = t.scoped ++ scoped; pushes = t.pushes ++ pushes; made = made; pages = pages }) h r
    named h r (inl n) = inl (record {
      serial = n.serial;
      names = record {
        push = n.names.push;
        pushed = slice_get_front t.pushes pushes n.serial n.names.push n.names.pushed;
        is = n.names.is ∙ same_handle s s' same n.names.push.index n.names.push.generation;
      };
      live = rooted_front n.serial t.scoped scoped r n.live;
    })
    named h r (inr n) = inr (record { number = n.number; names = n.names ∙ same_owned s s' same n.number; live = n.live })

-- so it keeps trees
module _ {D : Type 0} (s : StoreView D) (t : Table D) (s' : StoreView D) (u : Table D) (keeps : Keeps s t s' u) where
  abbrev pub node_kept : (r : Reference) (key value : _) (high : ℕ) (left right : Reference) → IsNode t.types t.objects r key value high left right → IsNode u.types u.objects r key value high left right
  node_kept r key value high left right is = record {
    position = is.position;
    ty = is.ty;
    key_bits = is.key_bits;
    value_bits = is.value_bits;
    named = is.named;
    of_nodes = keeps.types is.ty _ is.of_nodes;
    object_is = keeps.objects is.position _ is.object_is;
    key_is = is.key_is;
    value_is = is.value_is;
  }

  pub tree_kept : (ty : ℕ) (tree : Tree) (r : Reference) → IsTree t.types t.objects ty tree r → IsTree u.types u.objects ty tree r
  tree_kept ty leaf r is = is
  tree_kept ty (node a k v b) r is = record {
    left = is.left;
    right = is.right;
    is_node = node_kept r k v (height (node a k v b)) is.left is.right is.is_node;
    of_type = is.of_type;
    is_left = tree_kept ty a is.left is.is_left;
    is_right = tree_kept ty b is.right is.is_right;
  }

  pub link_kept : (root : Option GcRootIndex) (r : Reference) → NamesLink s t root r → NamesLink s' u root r
  link_kept None r names = names
  link_kept (Some h) r names = keeps.handles h r names

  pub root_kept : (ty : ℕ) (root : Option GcRootIndex) (tree : Tree) → RootIs s t ty root tree → RootIs s' u ty root tree
  root_kept ty root tree is = record { reference = is.reference; names = link_kept root is.reference is.names; is = tree_kept ty tree is.reference is.is }

  pub part_kept : (ty : ℕ) (part : Part) (tree : Tree) → PartIs s t ty part tree → PartIs s' u ty part tree
  part_kept ty part tree is = record { root = root_kept ty part.root tree is.root; height_is = is.height_is }
