-- A collection of a null heap, which keeps every object where it lies, so that the roots stay as they are.
use Rattle.std.proofs.Common.{◌≡◌, ℕ, ◌%◌, ◌==◌, ◌&&◌, not, if◌then◌else◌, Bool, true, false, List, [], ◌∷◌, map, refl, sym, ap, subst}
use Rattle.gc_types.specs.declared.kind.Layouts.{Layouts}
use Rattle.gc_types.specs.declared.kind.Layouts.TheVariants.{Null}
use Rattle.gc_types.specs.Declarations.{Declaration}
use Rattle.gc_roots.specs.Roots.{Root}
use Rattle.gc_view.specs.Heaps.{HeapObject, HeapView}
use Rattle.gc_heap.specs.References.{word_in}
use Rattle.gc_heap.specs.Collection.{CanCollect, Collected, IsMoved, moved, moved_root}
use Rattle.gc_owner.specs.declared.entry.RootEntry.{RootEntry}
use Rattle.gc_owner.specs.declared.entry.OwnedEntry.{OwnedEntry}
use Rattle.gc_owner.specs.declared.entry.SlotEntry.{SlotEntry}
use Rattle.gc_owner.specs.RootColumns.{RootsView, roots_of, moved_roots}
use Rattle.gc_owner.specs.Owners.{CollectsRoots}
use Rattle.gc_owner.specs.Tracing.{IsCollectable, start_from}
use Rattle.gc_owner.proofs.Begins.{memory_same}

stays : (b : Bool) (word : ℕ) → (if b then word else word) ≡ word
stays true word = refl
stays false word = refl

-- where nothing moves, words, roots and objects stay
moved_stays : (word : ℕ) → moved (λ p. p) word ≡ word
moved_stays word = stays ((word % 2 == 0) && not (word == 0)) word

root_stays : (r : Root) → moved_root (λ p. p) r ≡ r
root_stays r = ap (λ (w : ℕ). record r { word = w }) (moved_stays r.word)

object_stays : (types : List Declaration) (o : HeapObject) → IsMoved Null types (λ p. p) o o
object_stays types o = record {
  kind = refl;
  ty = refl;
  spare = refl;
  size = refl;
  refers = λ offset within. sym (moved_stays (word_in Null o offset));
  rest = λ at d free. refl;
}

-- what each entry of a list stays as, all stay as
all_stay : {A : Type 0} (f : A → A) → ((x : A) → f x ≡ x) → (xs : List A) → xs ≡ map f xs
all_stay f same [] = refl
all_stay f same (x ∷ xs) = λ i. (sym (same x)) i ∷ (all_stay f same xs) i

scoped_stay : (es : List RootEntry) → es ≡ map (λ (e : RootEntry). record e { word = moved (λ p. p) e.word }) es
scoped_stay es = all_stay (λ (e : RootEntry). record e { word = moved (λ p. p) e.word }) (λ e. ap (λ (w : ℕ). record e { word = w }) (moved_stays e.word)) es

owned_stay : (es : List OwnedEntry) → es ≡ map (λ (e : OwnedEntry). record e { word = moved (λ p. p) e.word }) es
owned_stay es = all_stay (λ (e : OwnedEntry). record e { word = moved (λ p. p) e.word }) (λ e. ap (λ (w : ℕ). record e { word = w }) (moved_stays e.word)) es

slots_stay : (es : List SlotEntry) → es ≡ map (λ (e : SlotEntry). record e { word = moved (λ p. p) e.word }) es
slots_stay es = all_stay (λ (e : SlotEntry). record e { word = moved (λ p. p) e.word }) (λ e. ap (λ (w : ℕ). record e { word = w }) (moved_stays e.word)) es

columns_stay : (r : RootsView) → r ≡ moved_roots (λ p. p) r
columns_stay r = λ i. record r {
  scoped = scoped_stay r.scoped i;
  owned = owned_stay r.owned i;
  slots = slots_stay r.slots i;
  globals = slots_stay r.globals i;
  pending = sym (moved_stays r.pending) i;
}

-- a collection that changes nothing, seen where its heap counts as attached
record Leaves (types : List Declaration) (h v : HeapView) (r : RootsView) (hosts : ℕ → Bool) : Type 0 where
  collected : Collected Null (start_from types h (roots_of r) hosts) v (roots_of r) hosts
  moves : r ≡ moved_roots collected.to r

leaves : (types : List Declaration) (h : HeapView) (r : RootsView) (hosts : ℕ → Bool) → CanCollect Null (start_from types h (roots_of r) hosts) → Leaves types h (record h { attached = true }) r hosts
leaves types h r hosts can = record {
  collected = record {
    to = λ p. p;
    injective = λ p q kept_p kept_q is. is;
    kept = λ place o kept held. (o, (held, object_stays types o));
    only = λ place held. (place, (held, refl));
    roots_moved = all_stay (moved_root (λ p. p)) root_stays (roots_of r);
    hosts_lost = λ place o external lost. absurd (lost (o, external.held));
    hosts_kept = λ id kept. refl;
    attached = can.attached;
    capacity = refl;
    scopes = can.open_scopes;
    by_kind = (refl, λ place held. (refl, refl));
  };
  moves = columns_stay r;
}

null_collects : (types : List Declaration) (h : HeapView) (r : RootsView) (hosts : ℕ → Bool) → h.attached ≡ true → IsCollectable Null types h (roots_of r) hosts → CollectsRoots Null types h h r r hosts hosts
null_collects types h r hosts attached can =
    let whole = subst (λ (v : HeapView). Leaves types h v r hosts) (memory_same h attached) (leaves types h r hosts can.collects) in
    record { collected = whole.collected; moves = whole.moves; can = can }

pub keeps_all : (layouts : Layouts) → layouts ≡ Null → (types : List Declaration) (h : HeapView) (r : RootsView) (hosts : ℕ → Bool) → h.attached ≡ true → IsCollectable layouts types h (roots_of r) hosts → CollectsRoots layouts types h h r r hosts hosts
keeps_all layouts is types h r hosts attached can =
    subst (λ (k : Layouts). CollectsRoots k types h h r r hosts hosts) (sym is)
    (null_collects types h r hosts attached (subst (λ (k : Layouts). IsCollectable k types h (roots_of r) hosts) is can))
