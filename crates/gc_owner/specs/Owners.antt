-- What contracts see of an owner.
use Rattle.std.specs.Prelude.{◌≡◌, ℕ, ◌<◌, Bool, true, false, List, [], length, Option, Some, None, zero, suc, is_none}
use Rattle.std.specs.Ordering.{nat_cmp}
use Rattle.std.specs.FinMap.{FinMap, empty}
use Rattle.gc_types.specs.declared.kind.Layouts.{Layouts}
use Rattle.gc_types.specs.Declarations.{Declaration, TypeTable}
use Rattle.gc_roots.specs.Roots.{Root}
use Rattle.gc_view.specs.Heaps.{HeapView, detached, SameHeld}
use Rattle.gc_heap.specs.Content.{IsHeap}
use Rattle.gc_heap.specs.Barriers.{cloned, dropped, CanName, CanUnname}
use Rattle.gc_heap.specs.Collection.{Stage, stage, Start, CanCollect, Collected, has_host, IsPartOf, IsIncrements}
use Rattle.gc_heap.specs.declared.collection.GcProgress.{GcProgress}
use Rattle.gc_heap.specs.declared.collection.GcProgress.TheVariants as progress
use Rattle.gc_owner.specs.RootColumns.{RootsView, no_roots, spent_roots, roots_of, moved_roots, with_places, without_list, with_owned_root, without_unheld, without_frame}
use Rattle.gc_owner.specs.Tracing.{start_from, AreTraced, IsCollectable}

-- An owner: its heap, its types, the host values by their ids, the roots, the bytes that were allocated after
-- the last collection (0 before the first), and whether no collection is under way.
pub record OwnerView (D : Type 0) : Type 0 where
  pub heap : HeapView
  pub types : TypeTable
  pub hosts : FinMap nat_cmp D
  pub roots : RootsView
  pub last : ℕ
  pub idle : Bool

-- An owner as the clauses on increments need it: what is seen, the heap itself, and the state of the
-- collection that is under way.
pub record OwnerValue (H S D : Type 0) : Type 0 where
  pub seen : OwnerView D
  pub heap : H
  pub state : Option S

-- an owner of nothing, with the id of its types and so many places in the list of a collection
abbrev pub new_owner : {D : Type 0} → ℕ → ℕ → ℕ → OwnerView D
new_owner engine number list_spare = record {
  heap = detached;
  types = record { engine = engine; number = number; declarations = [] };
  hosts = empty;
  roots = no_roots list_spare;
  last = 0;
  idle = true;
}

-- an owner of nothing, of which no further scope end and no further owned root can be counted, and that makes no heap, with the id of its
-- types
abbrev pub spent_owner : {D : Type 0} → ℕ → ℕ → ℕ → OwnerView D
spent_owner engine number list_spare = record (new_owner engine number list_spare) { roots = spent_roots list_spare }

-- an owner as its parts tell it
abbrev pub owner_value : {H S D : Type 0} → HeapView → TypeTable → FinMap nat_cmp D → RootsView → ℕ → H → Option S → OwnerValue H S D
owner_value seen types hosts roots last heap state = record {
  seen = record { heap = seen; types = types; hosts = hosts; roots = roots; last = last; idle = is_none state };
  heap = heap;
  state = state;
}

-- where a collection would begin
abbrev pub start_of : {D : Type 0} → OwnerView D → Start
start_of v = start_from v.types.declarations v.heap (roots_of v.roots) (has_host v.hosts)

-- a collection may begin from the owner's roots
abbrev pub CanBegin : {D : Type 0} → Layouts → OwnerView D → Type 0
CanBegin layouts v = IsCollectable layouts v.types.declarations v.heap (roots_of v.roots) (has_host v.hosts)

-- No collection is under way; the heap is sound, one may begin, and none ran without a heap; where the heap has its memory, the list
-- of a collection has places for all roots.
pub record IsReady {D : Type 0} (layouts : Layouts) (heap_is_sound : Type 0) (v : OwnerView D) : Type 0 where
  pub sound : heap_is_sound
  pub can : CanBegin layouts v
  pub unlisted : v.roots.listed ≡ None
  pub unused : v.heap.attached ≡ false → v.last ≡ 0
  pub placed : v.heap.attached ≡ true → v.roots.has_places ≡ true

-- what is under way at a heap that is a type of its own: the trait's ghost members, in one record
pub record Kind (H S : Type 0) : Type 1 where
  pub layouts : Layouts
  pub seen : H → HeapView
  pub sound : H → Type 0
  pub under_way : Start → ℕ → Bool → Stage H S → Type 0

abbrev pub heap_kind : {H S : Type 0} → Layouts → (H → HeapView) → (H → Type 0) → (Start → ℕ → Bool → Stage H S → Type 0) → Kind H S
heap_kind layouts seen sound under_way = record { layouts = layouts; seen = seen; sound = sound; under_way = under_way }

-- A collection is under way that began there: so many increments were done, each of them counted or not. The
-- roots have the words that they had where it began, and the list has them as far as they have moved.
pub record CollectionGoes {H S D : Type 0} (k : Kind H S) (s : Start) (n : ℕ) (c : Bool) (v : OwnerValue H S D) (state : S) : Type 0 where
  pub listed : List Root
  pub listed_is : v.seen.roots.listed ≡ Some listed
  pub given : v.seen.roots.given ≡ length s.roots
  pub goes : k.under_way s n c (stage v.heap state listed v.seen.types.declarations v.seen.hosts)
  pub heap : IsHeap k.layouts s.heap
  pub can : CanCollect k.layouts s
  pub traced : AreTraced k.layouts s.types s.heap
  pub types : s.types ≡ v.seen.types.declarations
  pub from : s.roots ≡ roots_of v.seen.roots
  pub busy : v.seen.idle ≡ false
  pub placed : v.seen.roots.has_places ≡ true

-- an owner is ready, or a collection is under way
abbrev pub InOrder : {H S D : Type 0} → Kind H S → OwnerValue H S D → Option S → Type 0
InOrder k v None = IsReady k.layouts (k.sound v.heap) v.seen
InOrder k v (Some state) = (s : Start) × ((n : ℕ) × ((c : Bool) × CollectionGoes k s n c v state))

-- the heap after a word was copied; null is no name
abbrev pub raised : HeapView → ℕ → HeapView
raised h zero = h
raised h (suc n) = cloned h (suc n)

-- the heap after a word was given up
abbrev pub lowered : HeapView → ℕ → HeapView
lowered h zero = h
lowered h (suc n) = dropped h (suc n)

-- a barrier may be given a word to copy, or to give up
abbrev pub CanCopyWord : HeapView → ℕ → Type 0
CanCopyWord h zero = Unit {0}
CanCopyWord h (suc n) = CanName h (suc n)

abbrev pub CanDropWord : HeapView → ℕ → Type 0
CanDropWord h zero = Unit {0}
CanDropWord h (suc n) = CanUnname h (suc n)

-- A collection ran from all roots, which have the words of the objects that moved.
pub record CollectsAll {D : Type 0} (layouts : Layouts) (old new : OwnerView D) : Type 0 where
  pub collected : Collected layouts (start_of old) new.heap (roots_of new.roots) (has_host new.hosts)
  pub roots : new.roots ≡ moved_roots collected.to old.roots
  pub values : IsPartOf new.hosts old.hosts
  pub is_heap : IsHeap layouts new.heap
  pub can : CanBegin layouts new
  pub rest : new ≡ record old { heap = new.heap; hosts = new.hosts; roots = new.roots; last = new.heap.allocated }

-- The roots changed to these; the heap holds the same objects, and all else is as it was.
pub record ChangesRoots {D : Type 0} (old new : OwnerView D) (roots : RootsView) : Type 0 where
  pub held : SameHeld old.heap new.heap
  pub rest : new ≡ record old { heap = new.heap; roots = roots }

-- The owned roots without handles were dropped, and a collection may begin.
pub record Trims {D : Type 0} (layouts : Layouts) (old new : OwnerView D) : Type 0 where
  pub changes : ChangesRoots old new (with_places new.roots (without_unheld old.roots))
  pub is_heap : IsHeap layouts new.heap
  pub can : CanBegin layouts new

-- A collection ran, from the roots that a trim had left.
pub record Collects {D : Type 0} (layouts : Layouts) (old new : OwnerView D) : Type 0 where
  pub trimmed : OwnerView D
  pub trims : Trims layouts old trimmed
  pub runs : CollectsAll layouts trimmed new

-- an owned root was added
abbrev pub OwnsRoot : {D : Type 0} → OwnerView D → OwnerView D → ℕ → Type 0
OwnsRoot old new word = ChangesRoots old new (with_places new.roots (with_owned_root word old.roots))

-- the newest frame was closed
abbrev pub ClosesFrame : {D : Type 0} → OwnerView D → OwnerView D → Type 0
ClosesFrame old new = (0 < length old.roots.frames) × (new ≡ record old { roots = with_places new.roots (without_frame old.roots) })

-- A collection from all roots of an owner is under way, after so many increments.
pub record IsGoing {H S D : Type 0} (k : Kind H S) (s : Start) (n : ℕ) (c : Bool) (begun now : OwnerValue H S D) : Type 0 where
  pub state : S
  pub state_is : now.state ≡ Some state
  pub goes : CollectionGoes k s n c now state
  pub start : s ≡ start_of begun.seen
  pub values : IsPartOf now.seen.hosts begun.seen.hosts
  pub rest : begun.seen
      ≡ record now.seen { heap = begun.seen.heap; hosts = begun.seen.hosts; idle = true; roots = without_list now.seen.roots }

-- A collection that began at an owner is under way, from the roots that a trim had left, after so many increments.
pub record IsOwnerUnderWay {H S D : Type 0} (k : Kind H S) (s : Start) (n : ℕ) (c : Bool) (begun now : OwnerValue H S D) : Type 0 where
  pub trimmed : OwnerValue H S D
  pub trims : Trims k.layouts begun.seen trimmed.seen
  pub going : IsGoing k s n c trimmed now

-- A collection that began at an owner has ended.
abbrev pub IsEnded : {H S D : Type 0} → Layouts → OwnerValue H S D → OwnerValue H S D → Type 0
IsEnded layouts begun now = Collects layouts begun.seen now.seen

-- what an increment answers and leaves, where c is whether it and all before it were counted
abbrev pub IncrementsCounted : {H S D : Type 0} → Kind H S → Start → ℕ → Bool → OwnerValue H S D → OwnerValue H S D → GcProgress → Type 0
IncrementsCounted k s done c begun now progress.Complete = IsIncrements k.layouts s done × IsEnded k.layouts begun now
IncrementsCounted k s done c begun now progress.Continue = ((n : ℕ) → IsIncrements k.layouts s n → done < n) × IsOwnerUnderWay k s done c begun now

-- what an increment that isn't counted answers and leaves
abbrev pub Increments : {H S D : Type 0} → Kind H S → Start → ℕ → OwnerValue H S D → OwnerValue H S D → GcProgress → Type 0
Increments k s done begun now = IncrementsCounted k s done false begun now

-- A collection ran from these roots, which have the words of the objects that moved.
pub record CollectsRoots (layouts : Layouts) (types : List Declaration) (old new : HeapView) (r r' : RootsView) (hosts hosts' : ℕ → Bool) : Type 0 where
  pub collected : Collected layouts (start_from types old (roots_of r) hosts) new (roots_of r') hosts'
  pub moves : r' ≡ moved_roots collected.to r
  pub can : IsCollectable layouts types new (roots_of r') hosts'
