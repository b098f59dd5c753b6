-- The one increment of a collection of a null heap.
use Rattle.std.proofs.Common.{◌≡◌, ℕ, zero, suc, ◌+◌, ◌%◌, ◌==◌, ◌&&◌, not, if◌then◌else◌, Bool, true, false, List, [], ◌∷◌, map, refl, sym, ap, subst}
use Rattle.gc_types.specs.declared.kind.Layouts.TheVariants.{Null}
use Rattle.gc_types.specs.Declarations.{Declaration}
use Rattle.gc_roots.specs.Roots.{Root}
use Rattle.gc_view.specs.Heaps.{HeapObject, HeapView}
use Rattle.gc_heap.specs.References.{word_in}
use Rattle.gc_heap.specs.Collection.{Start, CanCollect, Collected, IsMoved, moved, moved_root}
use Rattle.gc_heap.specs.NullStates.{null_seen, IsNullSound, IsNullUnderWay}
use Rattle.gc_heap.specs.declared.null.NullHeap.{NullHeap}

stays : (b : Bool) (word : ℕ) → (if b then word else word) ≡ word
stays true word = refl
stays false word = refl

-- where nothing moves, words, roots and objects stay
moved_stays : (word : ℕ) → moved (λ p. p) word ≡ word
moved_stays word = stays ((word % 2 == 0) && not (word == 0)) word

root_stays : (r : Root) → moved_root (λ p. p) r ≡ r
root_stays r = ap (λ (w : ℕ). record r { word = w }) (moved_stays r.word)

roots_stay : (roots : List Root) → roots ≡ map (moved_root (λ p. p)) roots
roots_stay [] = refl
roots_stay (r ∷ roots) = λ i. (sym (root_stays r)) i ∷ (roots_stay roots) i

object_stays : (types : List Declaration) (o : HeapObject) → IsMoved Null types (λ p. p) o o
object_stays types o = record {
  kind = refl;
  ty = refl;
  spare = refl;
  size = refl;
  refers = λ offset within. sym (moved_stays (word_in Null o offset));
  rest = λ at d free. refl;
}

collected : (s : Start) (h : HeapView) (roots : List Root) (hosts : ℕ → Bool) → h ≡ s.heap → roots ≡ s.roots → hosts ≡ s.hosts → CanCollect Null s → Collected Null s h roots hosts
collected s h roots hosts heap_is roots_are hosts_are can =
    let all : Collected Null s s.heap s.roots s.hosts = record {
      to = λ p. p;
      injective = λ p q kept_p kept_q is. is;
      kept = λ place o kept held. (o, (held, object_stays s.types o));
      only = λ place held. (place, (held, refl));
      roots_moved = roots_stay s.roots;
      hosts_lost = λ place o external lost. absurd (lost (o, external.held));
      hosts_kept = λ id kept. refl;
      attached = can.attached;
      capacity = refl;
      scopes = can.open_scopes;
      by_kind = (refl, λ place held. (refl, refl));
    } in
    subst (λ (v : HeapView). Collected Null s v roots hosts) (sym heap_is)
    (subst (λ (rs : List Root). Collected Null s s.heap rs hosts) (sym roots_are)
    (subst (λ (f : ℕ → Bool). Collected Null s s.heap s.roots f) (sym hosts_are) all))

-- What a collection has done after its increment.
pub record IsDone (s : Start) (n : ℕ) (h : NullHeap) (roots : List Root) (hosts : ℕ → Bool) : Type 0 where
  pub one : n + 1 ≡ 1
  pub sound : IsNullSound h
  pub collected : Collected Null s (null_seen h) roots hosts

pub done : (s : Start) (n : ℕ) (h : NullHeap) (roots : List Root) (types : List Declaration) (hosts : ℕ → Bool)
    → IsNullUnderWay s n h roots types hosts → IsDone s n h roots hosts
done s zero h roots types hosts w = record {
  one = refl;
  sound = w.sound;
  collected = collected s (null_seen h) roots hosts w.heap_is w.roots_are w.hosts_are w.can;
}
done s (suc n) h roots types hosts w = absurd w
