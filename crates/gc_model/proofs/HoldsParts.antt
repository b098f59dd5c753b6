-- What holds of a table and a heap holds where what it speaks of is the same.
use Rattle.std.proofs.Common.{◌≡◌, sym, ◌∙◌, refl, subst}
use Rattle.std.specs.Ordering.{nat_cmp}
use Rattle.std.specs.FinMap.{FinMap}
use Rattle.gc_types.specs.declared.kind.Layouts.{Layouts}
use Rattle.gc_model.specs.Table.{Table}
pub use Rattle.gc_view.specs.Heaps.{SameHeld}
use Rattle.gc_view.specs.Heaps.{HeapView, HeapObject}
use Rattle.gc_model.specs.Stores.{StoreView}
use Rattle.gc_model.specs.Holds.{Placing, InternedIds, naming, Points, Holds, KindHolds, KindBy, ObjectsHold, ObjectsBy, HostsHold, HostsBy, MemoryHolds}

pub same_held-itself : (heap : HeapView) → SameHeld heap heap
same_held-itself heap = record { content = refl; attached = refl; capacity = refl; allocated = refl; needs_gc = refl }

-- other facts at some points, and the same at all others
module _ {Types Settings Memory Objects Kind Scopes Scoped Pushes Frames Globals Owned Pending Interned Hosts Typed : Type 0} (p : Points Types Settings Memory Objects Kind Scopes Scoped Pushes Frames Globals Owned Pending Interned Hosts Typed) where
  -- at those on the heap
  pub heap_changed : {Memory' Objects' Kind' Hosts' Typed' : Type 0} → Memory' → Objects' → Kind' → Hosts' → Typed'
      → Points Types Settings Memory' Objects' Kind' Scopes Scoped Pushes Frames Globals Owned Pending Interned Hosts' Typed'
  heap_changed memory objects kind hosts typed = record {
    types = p.types;
    settings = p.settings;
    memory = memory;
    objects = objects;
    by_kind = kind;
    scopes = p.scopes;
    scoped = p.scoped;
    pushes = p.pushes;
    frames = p.frames;
    globals = p.globals;
    owned = p.owned;
    pending = p.pending;
    interned = p.interned;
    hosts = hosts;
    typed = typed;
  }

  -- at those on scoped roots
  pub scoped_changed : {Scopes' Scoped' Pushes' : Type 0} → Scopes' → Scoped' → Pushes' → Points Types Settings Memory Objects Kind Scopes' Scoped' Pushes' Frames Globals Owned Pending Interned Hosts Typed
  scoped_changed scopes scoped pushes = record {
    types = p.types;
    settings = p.settings;
    memory = p.memory;
    objects = p.objects;
    by_kind = p.by_kind;
    scopes = scopes;
    scoped = scoped;
    pushes = pushes;
    frames = p.frames;
    globals = p.globals;
    owned = p.owned;
    pending = p.pending;
    interned = p.interned;
    hosts = p.hosts;
    typed = p.typed;
  }

  -- at those on types
  pub types_changed : {Types' Objects' Kind' Typed' : Type 0} → Types' → Objects' → Kind' → Typed' → Points Types' Settings Memory Objects' Kind' Scopes Scoped Pushes Frames Globals Owned Pending Interned Hosts Typed'
  types_changed types objects kind typed = record {
    types = types;
    settings = p.settings;
    memory = p.memory;
    objects = objects;
    by_kind = kind;
    scopes = p.scopes;
    scoped = p.scoped;
    pushes = p.pushes;
    frames = p.frames;
    globals = p.globals;
    owned = p.owned;
    pending = p.pending;
    interned = p.interned;
    hosts = p.hosts;
    typed = typed;
  }

  -- at those on frames
  pub frames_changed : {Frames' : Type 0} → Frames' → Points Types Settings Memory Objects Kind Scopes Scoped Pushes Frames' Globals Owned Pending Interned Hosts Typed
  frames_changed frames = record {
    types = p.types;
    settings = p.settings;
    memory = p.memory;
    objects = p.objects;
    by_kind = p.by_kind;
    scopes = p.scopes;
    scoped = p.scoped;
    pushes = p.pushes;
    frames = frames;
    globals = p.globals;
    owned = p.owned;
    pending = p.pending;
    interned = p.interned;
    hosts = p.hosts;
    typed = p.typed;
  }

  -- at those on globals
  pub globals_changed : {Globals' : Type 0} → Globals' → Points Types Settings Memory Objects Kind Scopes Scoped Pushes Frames Globals' Owned Pending Interned Hosts Typed
  globals_changed globals = record {
    types = p.types;
    settings = p.settings;
    memory = p.memory;
    objects = p.objects;
    by_kind = p.by_kind;
    scopes = p.scopes;
    scoped = p.scoped;
    pushes = p.pushes;
    frames = p.frames;
    globals = globals;
    owned = p.owned;
    pending = p.pending;
    interned = p.interned;
    hosts = p.hosts;
    typed = p.typed;
  }

  -- at that on the pending exception
  pub pending_changed : {Pending' : Type 0} → Pending' → Points Types Settings Memory Objects Kind Scopes Scoped Pushes Frames Globals Owned Pending' Interned Hosts Typed
  pending_changed pending = record {
    types = p.types;
    settings = p.settings;
    memory = p.memory;
    objects = p.objects;
    by_kind = p.by_kind;
    scopes = p.scopes;
    scoped = p.scoped;
    pushes = p.pushes;
    frames = p.frames;
    globals = p.globals;
    owned = p.owned;
    pending = pending;
    interned = p.interned;
    hosts = p.hosts;
    typed = p.typed;
  }

  -- at that on owned roots
  pub owned_changed : {Owned' : Type 0} → Owned' → Points Types Settings Memory Objects Kind Scopes Scoped Pushes Frames Globals Owned' Pending Interned Hosts Typed
  owned_changed owned = record {
    types = p.types;
    settings = p.settings;
    memory = p.memory;
    objects = p.objects;
    by_kind = p.by_kind;
    scopes = p.scopes;
    scoped = p.scoped;
    pushes = p.pushes;
    frames = p.frames;
    globals = p.globals;
    owned = owned;
    pending = p.pending;
    interned = p.interned;
    hosts = p.hosts;
    typed = p.typed;
  }

  -- at those on what is placed
  pub places_changed : {Memory' Objects' Kind' Scoped' Frames' Globals' Owned' Pending' Hosts' Typed' : Type 0} → Memory' → Objects' → Kind' → Scoped' → Frames' → Globals' → Owned' → Pending' → Hosts' → Typed'
      → Points Types Settings Memory' Objects' Kind' Scopes Scoped' Pushes Frames' Globals' Owned' Pending' Interned Hosts' Typed'
  places_changed memory objects kind scoped frames globals owned pending hosts typed = record {
    types = p.types;
    settings = p.settings;
    memory = memory;
    objects = objects;
    by_kind = kind;
    scopes = p.scopes;
    scoped = scoped;
    pushes = p.pushes;
    frames = frames;
    globals = globals;
    owned = owned;
    pending = pending;
    interned = p.interned;
    hosts = hosts;
    typed = typed;
  }

  -- at those on what is interned
  pub interned_changed : {Objects' Interned' : Type 0} → Objects' → Interned' → Points Types Settings Memory Objects' Kind Scopes Scoped Pushes Frames Globals Owned Pending Interned' Hosts Typed
  interned_changed objects interned = record {
    types = p.types;
    settings = p.settings;
    memory = p.memory;
    objects = objects;
    by_kind = p.by_kind;
    scopes = p.scopes;
    scoped = p.scoped;
    pushes = p.pushes;
    frames = p.frames;
    globals = p.globals;
    owned = p.owned;
    pending = p.pending;
    interned = interned;
    hosts = p.hosts;
    typed = p.typed;
  }

-- the objects, in a heap with the same content
pub objects-same : {D : Type 0} (layouts : Layouts) (t : Table D) (place : Placing) {ids : InternedIds} (old new : HeapView) → new.content ≡ old.content → ObjectsHold layouts t (naming place ids) old → ObjectsHold layouts t (naming place ids) new
objects-same layouts t place {ids} old new same objects = subst (λ (m : FinMap nat_cmp HeapObject). ObjectsBy layouts t.types t.objects (naming place ids) m) (sym same) objects

pub kind-same : {D : Type 0} (layouts : Layouts) (t : Table D) (place : Placing) (old new : HeapView) → new.allocated ≡ old.allocated → KindHolds layouts t place old → KindHolds layouts t place new
kind-same layouts t place old new same kind = subst (λ n. KindBy layouts t.types t.objects place n) (sym same) kind

-- the host values, in a heap with the same content
pub hosts-same : {D : Type 0} (t : Table D) (place : Placing) (old new : HeapView) (hosts : FinMap nat_cmp D) → new.content ≡ old.content → HostsHold t place old hosts → HostsHold t place new hosts
hosts-same t place old new hosts same held = subst (λ (m : FinMap nat_cmp HeapObject). HostsBy t.objects place m hosts) (sym same) held

-- the memory, in a heap with as much of it
pub memory-same : {D : Type 0} (s : StoreView D) (t : Table D) (heap : HeapView) → SameHeld s.heap heap → MemoryHolds s t → MemoryHolds (record s { heap = heap }) t
memory-same s t heap same memory = record {
  made = same.attached ∙ memory.made;
  capacity = same.capacity ∙ memory.capacity;
  no_pages = memory.no_pages;
  no_objects = memory.no_objects;
}

-- a store that holds a table holds it with a heap that holds the same
pub holds_same : {D : Type 0} (layouts : Layouts) (s : StoreView D) (t : Table D) (place : Placing) (heap : HeapView) → Holds layouts s t place → SameHeld s.heap heap → Holds layouts (record s { heap = heap }) t place
holds_same layouts s t place heap holds same =
    heap_changed holds (memory-same s t heap same holds.memory) (objects-same layouts t place s.heap heap same.content holds.objects) (kind-same layouts t place s.heap heap same.allocated holds.by_kind) (hosts-same t place s.heap heap s.hosts same.content holds.hosts) holds.typed
