use Rattle.std.proofs.Common.{◌≡◌, ℕ, length, Some, false, sym, ap, ◌∙◌, subst, arith}
use Rattle.gc_store.specs.Bytes.{CanCopyBytes, CopiesBytes}
use Rattle.gc_script.specs.State.{State, HoldsState, RegisterStands}
use Rattle.gc_script.specs.Given.{given_register, is_unset, holds_bytes}
use Rattle.gc_script.specs.Named.{type_at}
use Rattle.gc_script.proofs.StandLemmas.{holds_table, register_held}
use Rattle.gc_script.proofs.WriteLemmas.{is_set}
use Rattle.gc_script.proofs.LengthLemmas.{bytes_may, can_copy, lent_whole, no_array_bytes, not_bytes, other_length, bytes_told}
use Rattle.gc_script.proofs.runner.Runner.read_bytes.Given as given
use Rattle.gc_script.proofs.runner.Runner.read_bytes.Goals as goal
use Rattle.gc_script.proofs.runner.Runner.read_bytes.Goals.{After-find_object, After-holds_bytes}

-- what the register holds
target_stands : (g : given.Over) (c : After-find_object g) (s : State) → HoldsState g.H.GcHeap.KIND c.args.store.now c.args.self.now s → RegisterStands c.args.store.now s.table (Some c.in-Some.value) (s.registers c.args.r)
target_stands g c s holds = register_held g.H.GcHeap.KIND c.args.store.now c.args.self.now _ s c.args.r (Some c.in-Some.value) c.self.view_is c.in-Some.ensures holds

target_set : (g : given.Over) (c : After-find_object g) (s : State) → HoldsState g.H.GcHeap.KIND c.args.store.now c.args.self.now s → is_unset (given_register s c.args.r) ≡ false
target_set g c s holds = is_set c.args.store.now s.table c.in-Some.value (s.registers c.args.r) (target_stands g c s holds)

-- whether its elements are bytes
bytes_are : (g : given.Over) (c : After-holds_bytes g) → c.holds_bytes.result ≡ holds_bytes (type_at c.args.store.now.types c.in-Ok.object.types 0)
bytes_are g c = c.holds_bytes.ensures ∙ ap holds_bytes c.type_at.ensures

pub returns-in-Err-clause-goes : goal.returns-in-Err-clause-goes
returns-in-Err-clause-goes g c s holds =
    let at = (goal.at.returns-in-Err-clause-goes g c).After-find_object in
    no_array_bytes g.H.GcHeap.KIND c.args.store.now c.args.self.now s c.args.r holds (target_set g at s holds) c.args.len c.in-Err.why
    (c.in-Err.ensures.finds s c.args.r (holds_table holds.table) (target_stands g at s holds))

pub returns-then-not-holds_bytes-clause-goes : goal.returns-then-not-holds_bytes-clause-goes
returns-then-not-holds_bytes-clause-goes g c s holds =
    let at = (goal.at.returns-then-not-holds_bytes-clause-goes g c).After-find_object in
    let tested = (goal.at.returns-then-not-holds_bytes-clause-goes g c).After-holds_bytes in
    not_bytes g.H.GcHeap.KIND c.args.store.now c.args.self.now s c.args.r holds (target_set g at s holds) c.args.len c.in-Ok.object
    (c.in-Ok.ensures.finds s c.args.r (holds_table holds.table) (target_stands g at s holds)) c.holds_bytes.result (bytes_are g tested) c.if-not-holds_bytes.true

pub returns-then-object-len-clause-goes : goal.returns-then-object-len-clause-goes
returns-then-object-len-clause-goes g c s holds =
    let at = (goal.at.returns-then-object-len-clause-goes g c).After-find_object in
    let tested = (goal.at.returns-then-object-len-clause-goes g c).After-holds_bytes in
    other_length g.H.GcHeap.KIND c.args.store.now c.args.self.now s c.args.r holds (target_set g at s holds) c.args.len c.in-Ok.object
    (c.in-Ok.ensures.finds s c.args.r (holds_table holds.table) (target_stands g at s holds)) c.holds_bytes.result (bytes_are g tested) c.if-not-holds_bytes.false c.if-object-len.true

pub copy_bytes-requires : goal.copy_bytes-requires
copy_bytes-requires g c =
    let tested = (goal.at.copy_bytes-requires g c).After-holds_bytes in
    let many : c.in-Ok.object.count ≡ length c.as_mut_slice.result.now = omega (arith, ap length c.as_mut_slice.ensures.value, c.in-Ok-vec.ensures.len, c.in-Ok-vec.bytes.ok.0, c.if-object-len.false) in
    subst (CanCopyBytes ℕ g.H.GcHeap.KIND c.args.store.now c.in-Ok.object.root) many
    (can_copy g.H.GcHeap.KIND c.args.store.now c.in-Ok.object c.in-Ok.ensures.named c.holds_bytes.result (bytes_are g tested) c.if-not-holds_bytes.false)

pub returns-clause-goes : goal.returns-clause-goes
returns-clause-goes g c s holds =
    let at = (goal.at.returns-clause-goes g c).After-find_object in
    let tested = (goal.at.returns-clause-goes g c).After-holds_bytes in
    let same : length c.copy_bytes.new.dst ≡ length c.in-Ok-vec.bytes.items = c.copy_bytes.auto.dst ∙ ap length c.as_mut_slice.ensures.value in
    let told : c.copy_bytes.new.dst ≡ c.from_vec.result = sym (c.from_vec.ensures ∙ lent_whole c.copy_bytes.new.dst c.in-Ok-vec.bytes.items c.in-Ok-vec.bytes.len same c.in-Ok-vec.bytes.ok.0) in
    bytes_told g.H.GcHeap.KIND c.args.store.now c.args.self.now s c.args.r holds (target_set g at s holds) c.args.len c.in-Ok.object
    (c.in-Ok.ensures.finds s c.args.r (holds_table holds.table) (target_stands g at s holds)) c.holds_bytes.result (bytes_are g tested) c.if-not-holds_bytes.false c.if-object-len.false
    c.from_vec.result (subst (CopiesBytes c.args.store.now s.table c.in-Ok.object.root) told (c.copy_bytes.ensures s.table (holds_table holds.table)))

pub returns-in-Err-vec-clause-cause : goal.returns-in-Err-vec-clause-cause
returns-in-Err-vec-clause-cause g c s holds =
    let at = (goal.at.returns-in-Err-vec-clause-cause g c).After-find_object in
    let tested = (goal.at.returns-in-Err-vec-clause-cause g c).After-holds_bytes in
    bytes_may g.H.GcHeap.KIND c.args.store.now c.args.self.now s c.args.r holds (target_set g at s holds) c.args.len c.in-Ok.object
    (c.in-Ok.ensures.finds s c.args.r (holds_table holds.table) (target_stands g at s holds)) c.holds_bytes.result (bytes_are g tested) c.if-not-holds_bytes.false c.if-object-len.false
