use Rattle.std.proofs.Common.{◌≡◌, ℕ, ap, ◌∙◌, subst}
use Rattle.std.specs.Prelude.{Result, Ok, Err}
use Rattle.gc_owner.specs.declared.entry.GcClass.TheVariants as class
use Rattle.gc_model.specs.Values.{Object}
use Rattle.gc_store.specs.declared.hosts.PlaceHostFault.{PlaceHostFault}
use Rattle.gc_store.specs.declared.hosts.PlaceHostFault.TheVariants as fault
use Rattle.gc_values.specs.declared.root.GcRootIndex.{GcRootIndex}
use Rattle.gc_store.specs.HostPlaces.{PlacesHost}
use Rattle.gc_script.specs.declared.runner.RunError.TheVariants as error
use Rattle.gc_script.specs.Slots.{RunnerView, register_at}
use Rattle.gc_script.specs.State.{State, HoldsState}
use Rattle.gc_commands.specs.declared.reply.Reply.TheVariants as reply
use Rattle.gc_commands.specs.declared.reply.Refusal.TheVariants as refusal
use Rattle.gc_script.specs.Shapes.{making, new_host}
use Rattle.gc_script.specs.Steps.{first_failing, heap_tests}
use Rattle.gc_script.specs.Policy.{policy_of}
use Rattle.gc_script.proofs.StandLemmas.{same_store, holds_same}
use Rattle.gc_script.proofs.GoesLemmas.{wants_nothing}
use Rattle.gc_script.proofs.PlaceLemmas.{placed, refused_full, lacked, unplaced}
use Rattle.gc_script.proofs.HostGoes.{placed_host, full_for_host, host_runs}
use Rattle.gc_script.proofs.runner.Runner.make_host.Given as given
use Rattle.gc_script.proofs.runner.Runner.make_host.Goals as goal
use Rattle.gc_script.proofs.runner.Runner.make_host.Goals.{After-place_host}

-- the object that is made
abbrev made_of : ℕ → State → Object ℕ
made_of n s = new_host n

-- the registers are those of before
slots_are : (g : given.Over) (c : After-place_host g) (k : ℕ) → register_at c.make_room.new.self k ≡ register_at c.args.self.now.registers k
slots_are g c k = c.make_room.ensures.same k ∙ ap (λ (r : RunnerView). register_at r.registers k) c.self.view_is

-- what was placed, by a result that is known
places_as : (g : given.Over) (c : After-place_host g) (s : State) (result : Result GcRootIndex (PlaceHostFault ℕ)) → c.place_host.result ≡ result → HoldsState g.H.GcHeap.KIND c.args.store.now c.args.self.now s
    → PlacesHost g.H.GcHeap.KIND c.args.store.now.alloc_counter c.args.n (policy_of s (g.L.ResourceLimiter.limits c.args.limiter.now)) (g.L.ResourceLimiter.limits c.place_host.new.limiter) result c.place_host.new.self
places_as g c s result is holds =
    subst (λ (r : Result GcRootIndex (PlaceHostFault ℕ)). PlacesHost g.H.GcHeap.KIND c.args.store.now.alloc_counter c.args.n (policy_of s (g.L.ResourceLimiter.limits c.args.limiter.now)) (g.L.ResourceLimiter.limits c.place_host.new.limiter) r c.place_host.new.self) is
    (c.place_host.ensures.places s.table s.account holds.table)

pub returns-then-is_err-clause-runs : goal.returns-then-is_err-clause-runs
returns-then-is_err-clause-runs g c s holds =
    host_runs g.H.GcHeap.KIND c.args.store.now.alloc_counter (g.L.ResourceLimiter.limits c.args.limiter.now) (g.L.ResourceLimiter.limits c.args.limiter.now) s c.args.d c.args.n (Err error.OutOfMemory) c.args.store.now (record { registers = c.make_room.new.self; rest = record { owned = c.self.inside.owned; marks = c.self.inside.marks.items } })
    (wants_nothing g.H.GcHeap.KIND c.args.store.now.alloc_counter (g.L.ResourceLimiter.limits c.args.limiter.now) s (making c.args.d class.Extern (made_of c.args.n)) (first_failing (heap_tests g.H.GcHeap.KIND s (new_host c.args.n))) c.args.store.now (record { registers = c.make_room.new.self; rest = record { owned = c.self.inside.owned; marks = c.self.inside.marks.items } })
    (holds_same g.H.GcHeap.KIND c.args.store.now c.args.store.now c.args.self.now (record { registers = c.make_room.new.self; rest = record { owned = c.self.inside.owned; marks = c.self.inside.marks.items } }) s (same_store c.args.store.now)
    (λ k. c.make_room.ensures.same k ∙ ap (λ (r : RunnerView). register_at r.registers k) c.self.view_is)
    (ap (λ (r : RunnerView). r.rest) c.self.view_is) holds holds.table))

pub returns-in-Ok-clause-runs : goal.returns-in-Ok-clause-runs
returns-in-Ok-clause-runs g c s holds =
    let at = (goal.at.returns-in-Ok-clause-runs g c).After-place_host in
    host_runs g.H.GcHeap.KIND c.args.store.now.alloc_counter (g.L.ResourceLimiter.limits c.args.limiter.now) (g.L.ResourceLimiter.limits c.place_host.new.limiter) s c.args.d c.args.n (Ok reply.Done) c.place_host.new.self (record { registers = c.set.new.self; rest = record { owned = c.self.inside.owned; marks = c.self.inside.marks.items } })
    (placed g.H.GcHeap.KIND c.args.store.now.alloc_counter (g.L.ResourceLimiter.limits c.args.limiter.now) (g.L.ResourceLimiter.limits c.place_host.new.limiter) c.args.store.now c.place_host.new.self c.args.self.now (record { registers = c.set.new.self; rest = record { owned = c.self.inside.owned; marks = c.self.inside.marks.items } }) s c.args.d class.Extern (made_of c.args.n) c.place_host.ensures.same holds (ap (λ (r : RunnerView). r.rest) c.self.view_is)
    c.in-Ok.handle (placed_host g.H.GcHeap.KIND c.args.store.now.alloc_counter (g.L.ResourceLimiter.limits c.args.limiter.now) (g.L.ResourceLimiter.limits c.place_host.new.limiter) s c.args.n c.in-Ok.handle c.place_host.new.self
    (places_as g at s (Ok c.in-Ok.handle) c.in-Ok.is holds))
    c.set.ensures.set
    (λ k other. c.set.ensures.others k other ∙ slots_are g at k))

pub returns-in-Err-RootsFull-clause-runs : goal.returns-in-Err-RootsFull-clause-runs
returns-in-Err-RootsFull-clause-runs g c s holds =
    let at = (goal.at.returns-in-Err-RootsFull-clause-runs g c).After-place_host in
    host_runs g.H.GcHeap.KIND c.args.store.now.alloc_counter (g.L.ResourceLimiter.limits c.args.limiter.now) (g.L.ResourceLimiter.limits c.place_host.new.limiter) s c.args.d c.args.n (Ok (reply.Refused refusal.RootsFull)) c.place_host.new.self (record { registers = c.make_room.new.self; rest = record { owned = c.self.inside.owned; marks = c.self.inside.marks.items } })
    (refused_full g.H.GcHeap.KIND c.args.store.now.alloc_counter (g.L.ResourceLimiter.limits c.args.limiter.now) (g.L.ResourceLimiter.limits c.place_host.new.limiter) c.args.store.now c.place_host.new.self c.args.self.now (record { registers = c.make_room.new.self; rest = record { owned = c.self.inside.owned; marks = c.self.inside.marks.items } }) s c.args.d class.Extern (made_of c.args.n) c.place_host.ensures.same holds (ap (λ (r : RunnerView). r.rest) c.self.view_is) (slots_are g at)
    (full_for_host g.H.GcHeap.KIND c.args.store.now.alloc_counter (g.L.ResourceLimiter.limits c.args.limiter.now) (g.L.ResourceLimiter.limits c.place_host.new.limiter) s c.args.n c.place_host.new.self
    (places_as g at s (Err fault.RootsFull) (c.in-Err-RootsFull.is ∙ ap Err c.in-Err-RootsFull.field-0-is) holds)))

pub returns-in-Err-HeapOutOfMemory-clause-runs : goal.returns-in-Err-HeapOutOfMemory-clause-runs
returns-in-Err-HeapOutOfMemory-clause-runs g c s holds =
    let at = (goal.at.returns-in-Err-HeapOutOfMemory-clause-runs g c).After-place_host in
    host_runs g.H.GcHeap.KIND c.args.store.now.alloc_counter (g.L.ResourceLimiter.limits c.args.limiter.now) (g.L.ResourceLimiter.limits c.place_host.new.limiter) s c.args.d c.args.n (Ok (reply.Refused refusal.GcHeapOutOfMemory)) c.place_host.new.self (record { registers = c.make_room.new.self; rest = record { owned = c.self.inside.owned; marks = c.self.inside.marks.items } })
    (lacked g.H.GcHeap.KIND c.args.store.now.alloc_counter (g.L.ResourceLimiter.limits c.args.limiter.now) (g.L.ResourceLimiter.limits c.place_host.new.limiter) c.args.store.now c.place_host.new.self c.args.self.now (record { registers = c.make_room.new.self; rest = record { owned = c.self.inside.owned; marks = c.self.inside.marks.items } }) s c.args.d class.Extern (made_of c.args.n) c.place_host.ensures.same holds (ap (λ (r : RunnerView). r.rest) c.self.view_is) (slots_are g at)
    c.in-Err-HeapOutOfMemory.field-0-0.bytes_needed
    (places_as g at s (Err (fault.HeapOutOfMemory c.in-Err-HeapOutOfMemory.field-0-0)) (c.in-Err-HeapOutOfMemory.is ∙ ap Err c.in-Err-HeapOutOfMemory.field-0-is) holds).1)

pub returns-in-Err-Memory-clause-runs : goal.returns-in-Err-Memory-clause-runs
returns-in-Err-Memory-clause-runs g c s holds =
    let at = (goal.at.returns-in-Err-Memory-clause-runs g c).After-place_host in
    host_runs g.H.GcHeap.KIND c.args.store.now.alloc_counter (g.L.ResourceLimiter.limits c.args.limiter.now) (g.L.ResourceLimiter.limits c.place_host.new.limiter) s c.args.d c.args.n (Err error.OutOfMemory) c.place_host.new.self (record { registers = c.make_room.new.self; rest = record { owned = c.self.inside.owned; marks = c.self.inside.marks.items } })
    (unplaced g.H.GcHeap.KIND c.args.store.now.alloc_counter (g.L.ResourceLimiter.limits c.args.limiter.now) (g.L.ResourceLimiter.limits c.place_host.new.limiter) c.args.store.now c.place_host.new.self c.args.self.now (record { registers = c.make_room.new.self; rest = record { owned = c.self.inside.owned; marks = c.self.inside.marks.items } }) s c.args.d class.Extern (made_of c.args.n) c.place_host.ensures.same holds (ap (λ (r : RunnerView). r.rest) c.self.view_is) (slots_are g at) error.OutOfMemory
    (places_as g at s (Err fault.Memory) (c.in-Err-Memory.is ∙ ap Err c.in-Err-Memory.field-0-is) holds))
