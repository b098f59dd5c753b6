-- The host values of external objects in a collection.
use Rattle.std.specs.Prelude.{◌≡◌, ℕ, ◌+◌, ◌-◌, List, None}
use Rattle.std.specs.FinMap as finite
use Rattle.std.specs.Ordering.{nat_cmp}
use Rattle.gc_types.specs.declared.kind.VMGcKind.TheVariants.{ExternRef}
use Rattle.gc_memory.specs.Words.{word}
use Rattle.gc_memory.specs.Lists.{In}
use Rattle.gc_heap.specs.Collection.{IsPartOf}
use Rattle.gc_heap.specs.FreedHosts.{FreesHost}
use Rattle.gc_drc.specs.Layout.{counting_kind_at}
use Rattle.gc_drc.specs.CollectMemory.{Context}

-- an external object at a place keeps the number of its host value behind the words of the heap
abbrev pub counting_host_word : List ℕ → ℕ → ℕ
counting_host_word bytes p = word bytes (p + 28)

-- the host value of the object at a place is gone, if it is an external object
pub record FreesHostOf (D : Type 0) (bytes : List ℕ) (old new : finite.FinMap nat_cmp D) (p : ℕ) : Type 0 where
  pub external : counting_kind_at bytes p ≡ ExternRef → FreesHost D old new (counting_host_word bytes p)
  pub other : (counting_kind_at bytes p ≡ ExternRef → ⊥) → new ≡ old

-- Where these places of a start are still held: the host values of the other external objects are gone, and
-- no others.
pub record HostsLeft (D : Type 0) (c : Context) (places : List ℕ) (before now : finite.FinMap nat_cmp D) : Type 0 where
  pub lost : (p : ℕ) → In p c.graph.places → counting_kind_at c.memory p ≡ ExternRef → (In p places → ⊥) → finite.get now (counting_host_word c.memory p - 1) ≡ None
  pub kept : (id : ℕ) → ((p : ℕ) → In p c.graph.places → counting_kind_at c.memory p ≡ ExternRef → counting_host_word c.memory p ≡ id + 1 → In p places) → finite.get now id ≡ finite.get before id
  pub part : IsPartOf now before
