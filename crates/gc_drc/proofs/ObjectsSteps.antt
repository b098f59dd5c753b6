-- One increment of a collection, in objects.
use Rattle.std.proofs.Common.{◌≡◌, ℕ, ◌+◌, ◌<◌, ◌^◌, Bool, List, refl, sym, ap, subst, ◌∙◌, arith}
use Rattle.gc_types.specs.declared.kind.Layouts.TheVariants.{Counting}
use Rattle.gc_types.specs.Declarations.{Declaration}
use Rattle.gc_roots.specs.Roots.{Root}
use Rattle.gc_view.specs.Heaps.{HeapView}
use Rattle.gc_heap.specs.Collection.{Start, Collected, IsIncrements}
use Rattle.gc_heap.specs.Collection as content
use Rattle.gc_heap.specs.declared.collection.GcProgress.{GcProgress}
use Rattle.gc_heap.specs.declared.collection.GcProgress.TheVariants as progress
use Rattle.gc_drc.specs.declared.space.CountedSpace.{CountedSpace}
use Rattle.gc_drc.specs.declared.collect.phase.Phase.{Phase}
use Rattle.gc_drc.specs.declared.collect.phase.Phase.TheVariants as phase
use Rattle.gc_drc.specs.declared.heap.DrcHeap.{DrcHeap}
use Rattle.gc_drc.specs.Backed.{CountingBacking}
use Rattle.gc_heap.specs.declared.backing.Backing.TheVariants as backing
use Rattle.gc_drc.specs.View.{View}
use Rattle.gc_drc.specs.Content.{counting_seen_in, IsSoundSpace}
use Rattle.gc_drc.specs.States.{counting_seen_of, drc_seen, IsCountingBacked, IsDrcSound}
use Rattle.gc_drc.specs.CollectMemory.{Context}
use Rattle.gc_drc.specs.CollectSpan.{IsContextOf, Begins}
use Rattle.gc_drc.specs.CollectPhases.{increments_before, CountingStandsAt, StepsOn}
use Rattle.gc_drc.specs.Objects.{context_of, CountingBeginsIn}
use Rattle.gc_drc.specs.ObjectsBetween.{StandsIn, CountingBetweenIn, CountingBetween}
use Rattle.gc_drc.proofs.ObjectsBegin.{begins_so, is_of}
use Rattle.gc_drc.proofs.ObjectsEnd.{sound_after, collected_so}

-- what stands in memory
stands_so : (s : Start) (v : View) (before space : CountedSpace) (scopes : ℕ) (at : Phase) (hosts : ℕ → Bool) → CountingBeginsIn s v before scopes → StandsIn s v before at space hosts
    → CountingStandsAt (context_of s before.memory v.places) s.hosts at space hosts
stands_so s v before space scopes phase.MarkFrames hosts b u = record {
  view = v;
  begins = subst (λ (x : CountedSpace). Begins (context_of s before.memory v.places) v x) (sym u.0) (begins_so s v before scopes b);
  hosts_are = u.1;
}
stands_so s v before space scopes phase.FreeUnheld hosts b u = u
stands_so s v before space scopes phase.FreeUnreached hosts b u = u
stands_so s v before space scopes phase.Done hosts b u = u

-- the roots and types of the start are those now
of_now : (s : Start) (v : View) (before : CountedSpace) (scopes : ℕ) (roots : List Root) (types : List Declaration) → CountingBeginsIn s v before scopes → roots ≡ s.roots → types ≡ s.types
    → IsContextOf (context_of s before.memory v.places) roots types
of_now s v before scopes roots types b roots_are types_are =
    subst (λ (rs : List Root). IsContextOf (context_of s before.memory v.places) rs types) (sym roots_are)
    (subst (λ (ts : List Declaration). IsContextOf (context_of s before.memory v.places) s.roots ts) (sym types_are) (is_of s v before scopes b))

-- What stands in memory, where a collection is under way.
pub record UnderWay (roots : List Root) (types : List Declaration) (at : Phase) (space : CountedSpace) (hosts : ℕ → Bool) : Type 0 where
  pub context : Context
  pub began_with : ℕ → Bool
  pub is_of : IsContextOf context roots types
  pub stands : CountingStandsAt context began_with at space hosts

pub under_way_of : (s : Start) (n scopes : ℕ) (space : CountedSpace) (at : Phase) (roots : List Root) (types : List Declaration) (hosts : ℕ → Bool)
    → CountingBetweenIn s n scopes space at roots types hosts → UnderWay roots types at space hosts
under_way_of s n scopes space at roots types hosts b = record {
  context = context_of s b.before.memory b.view.places;
  began_with = s.hosts;
  is_of = of_now s b.view b.before scopes roots types b.begins b.roots_are b.types_are;
  stands = stands_so s b.view b.before space scopes at hosts b.begins b.stands;
}

-- where it stands after an increment
stands_then : (s : Start) (v : View) (before space : CountedSpace) (n : ℕ) (at : Phase) (hosts : ℕ → Bool) → increments_before at ≡ n + 1
    → CountingStandsAt (context_of s before.memory v.places) s.hosts at space hosts → StandsIn s v before at space hosts
stands_then s v before space n phase.MarkFrames hosts number u = absurd (omega arith)
stands_then s v before space n phase.FreeUnheld hosts number u = u
stands_then s v before space n phase.FreeUnreached hosts number u = u
stands_then s v before space n phase.Done hosts number u = u

not_last : (c : Context) (before : ℕ → Bool) (at : Phase) (space : CountedSpace) (hosts : ℕ → Bool) → CountingStandsAt c before at space hosts → increments_before at < 3
not_last c before phase.MarkFrames space hosts u = omega arith
not_last c before phase.FreeUnheld space hosts u = omega arith
not_last c before phase.FreeUnreached space hosts u = omega arith
not_last c before phase.Done space hosts u = absurd u

-- What stands at the end.
pub record IsDone (s : Start) (scopes : ℕ) (space : CountedSpace) (roots : List Root) (hosts : ℕ → Bool) : Type 0 where
  pub sound : IsSoundSpace space
  pub collected : Collected Counting s (counting_seen_in scopes space) roots hosts

module _ (s : Start) (n scopes : ℕ) (space space' : CountedSpace) (roots : List Root) (types : List Declaration) (hosts hosts' : ℕ → Bool) (at at' : Phase)
    (b : CountingBetweenIn s n scopes space at roots types hosts) where
  abbrev began : Context
  began = context_of s b.before.memory b.view.places

  goes_on : (increments_before at' ≡ increments_before at + 1) × CountingStandsAt began s.hosts at' space' hosts'
      → ((k : ℕ) → IsIncrements Counting s k → n + 1 < k) × CountingBetweenIn s (n + 1) scopes space' at' roots types hosts'
  goes_on g =
      let number : increments_before at' ≡ n + 1 = g.0 ∙ ap (λ (k : ℕ). k + 1) (sym b.number) in
      let below : increments_before at' < 3 = not_last began s.hosts at' space' hosts' g.1 in (
        λ k is. before_last (increments_before at') k number below is,
        record {
          view = b.view;
          before = b.before;
          begins = b.begins;
          number = sym number;
          stands = stands_then s b.view b.before space' n at' hosts' number g.1;
          roots_are = b.roots_are;
          types_are = b.types_are;
        },
      )
    where
      before_last : (i k : ℕ) → i ≡ n + 1 → i < 3 → k ≡ 3 → n + 1 < k
      before_last i k number below is = omega arith

  complete : StepsOn began s.hosts progress.Complete at at' space' hosts' → IsIncrements Counting s (n + 1) × IsDone s scopes space' roots hosts'
  complete e = (
    ap (λ (k : ℕ). k + 1) b.number ∙ e.0,
    record {
      sound = sound_after s b.view e.1.0 b.before space' scopes hosts' b.begins e.1.1;
      collected = subst (λ (rs : List Root). Collected Counting s (counting_seen_in scopes space') rs hosts') (sym b.roots_are) (collected_so s b.view e.1.0 b.before space' scopes hosts' b.begins e.1.1);
    },
  )

  -- one increment, in objects
  pub one_increment : (answer : GcProgress) → StepsOn began s.hosts answer at at' space' hosts'
      → content.Stepped Counting s (n + 1) answer (CountingBetweenIn s (n + 1) scopes space' at' roots types hosts') (IsDone s scopes space' roots hosts')
  one_increment progress.Continue g = goes_on g
  one_increment progress.Complete e = complete e

-- what is told of an increment follows from more
pub stepped_as : {A B P Q : Type 0} (s : Start) (n : ℕ) (answer : GcProgress) → content.Stepped Counting s n answer A B → (A → P) → (B → Q) → content.Stepped Counting s n answer P Q
stepped_as s n progress.Continue t f g = (t.0, f t.1)
stepped_as s n progress.Complete t f g = (t.0, g t.1)

-- a collection is under way only where there is a memory
pub between_attached : (s : Start) (n scopes : ℕ) (b : CountingBacking) (at : Phase) (roots : List Root) (types : List Declaration) (hosts : ℕ → Bool)
    → ((space : CountedSpace) → b ≡ backing.Attached space → ⊥) → CountingBetween s n scopes b at roots types hosts → ⊥
between_attached s n scopes backing.Detached at roots types hosts never w = w
between_attached s n scopes (backing.Attached space) at roots types hosts never w = never space refl
between_attached s n scopes (backing.Taken m) at roots types hosts never w = w

-- there an increment may be done
pub can_collect : (s : Start) (n scopes : ℕ) (b : CountingBacking) (space : CountedSpace) (at : Phase) (roots : List Root) (types : List Declaration) (hosts : ℕ → Bool)
    → b ≡ backing.Attached space → CountingBetween s n scopes b at roots types hosts → (c : Context) × ((before : ℕ → Bool) × (IsContextOf c roots types × CountingStandsAt c before at space hosts))
can_collect s n scopes b space at roots types hosts is w =
    let u = under_way_of s n scopes space at roots types hosts (subst (λ x. CountingBetween s n scopes x at roots types hosts) is w) in
    (u.context, (u.began_with, (u.is_of, u.stands)))

-- the heap with that space, at the end
done_in : (s : Start) (scopes : ℕ) (space : CountedSpace) (roots : List Root) (hosts : ℕ → Bool) (h : DrcHeap) → h.scopes ≡ scopes → h.backing ≡ backing.Attached space → scopes < 2 ^ 64
    → IsDone s scopes space roots hosts → IsDrcSound h × Collected Counting s (drc_seen h) roots hosts
done_in s scopes space roots hosts h scopes_are is below d = (
  record { backed = subst IsCountingBacked (sym is) d.sound; scopes = subst (λ k. k < 2 ^ 64) (sym scopes_are) below },
  subst (λ (b : CountingBacking). Collected Counting s (counting_seen_of h.scopes b) roots hosts) (sym is) (subst (λ k. Collected Counting s (counting_seen_in k space) roots hosts) (sym scopes_are) d.collected),
)

-- What one increment in the space of a heap does.
pub heap_increment : (s : Start) (n scopes : ℕ) (b : CountingBacking) (h : DrcHeap) (space space' : CountedSpace) (roots : List Root) (types : List Declaration)
    (hosts hosts' : ℕ → Bool) (at at' : Phase) (answer : GcProgress) → b ≡ backing.Attached space → CountingBetween s n scopes b at roots types hosts
    → ((c : Context) (before : ℕ → Bool) → IsContextOf c roots types → CountingStandsAt c before at space hosts → StepsOn c before answer at at' space' hosts')
    → h.scopes ≡ scopes → h.backing ≡ backing.Attached space'
    → content.Stepped Counting s (n + 1) answer (CountingBetween s (n + 1) h.scopes h.backing at' roots types hosts')
    (IsDrcSound h × Collected Counting s (drc_seen h) roots hosts')
heap_increment s n scopes b h space space' roots types hosts hosts' at at' answer is w steps scopes_are is' =
    let i : CountingBetweenIn s n scopes space at roots types hosts = subst (λ x. CountingBetween s n scopes x at roots types hosts) is w in
    let none : scopes ≡ 0 = ap (λ (v : HeapView). v.scopes) i.begins.heap_is ∙ i.begins.can.open_scopes in
    stepped_as s (n + 1) answer
    (one_increment s n scopes space space' roots types hosts hosts' at at' i answer (steps (context_of s i.before.memory i.view.places) s.hosts (of_now s i.view i.before scopes roots types i.begins i.roots_are i.types_are)
    (stands_so s i.view i.before space scopes at hosts i.begins i.stands)))
    (λ x. subst (λ (y : CountingBacking). CountingBetween s (n + 1) h.scopes y at' roots types hosts') (sym is') (subst (λ k. CountingBetweenIn s (n + 1) k space' at' roots types hosts') (sym scopes_are) x))
    (λ d. done_in s scopes space' roots hosts' h scopes_are is' (omega arith) d)
