use Rattle.std.proofs.Common.{◌≡◌, ℕ, ℤ, List, length, true, Result, Ok, Err, refl, sym, ap, ◌∙◌, subst}
use Rattle.std.specs.Int.{w64, cast_signed, cast_unsigned}
use Rattle.gc_types.specs.Declarations.{Declaration, struct_fields_at}
use Rattle.gc_model.specs.Values.{at as position, Value, number_bits, struct}
use Rattle.gc_model.specs.Stored.{stored_in}
use Rattle.gc_model.specs.Table.{Table}
use Rattle.gc_model.specs.Accounts.{Account, HoldsAccount}
use Rattle.gc_model.specs.Policy.{policy_state}
use Rattle.gc_values.specs.declared.root.GcRootIndex.{GcRootIndex}
use Rattle.gc_values.specs.declared.faults.PlaceFault.{PlaceFault}
use Rattle.gc_model.proofs.AccountLemmas.{some_account}
use Rattle.gc_values.specs.declared.faults.PlaceFault.TheVariants as place_fault
use Rattle.gc_store.specs.Places.{Places}
use Rattle.gc_store.specs.Requests.{CanPlaceFields, struct_fields_of}
use Rattle.gc_store.specs.Values.{AllStand}
use Rattle.gc_lists.specs.Cells.{cell}
use Rattle.gc_lists.specs.Kits.{IsCellType}
use Rattle.gc_lists.specs.Versions.{StandsForListOf}
use Rattle.gc_lists.proofs.list.HeapList.cons.Given as given
use Rattle.gc_lists.proofs.list.HeapList.cons.Goals as goal
use Rattle.gc_lists.proofs.list.HeapList.cons.Goals.{After-place}
use Rattle.gc_lists.proofs.Consing.{can_place_cell, cell_values, object_asked, holds_grown, names_grown, cons_kept, cons_refused, cons_full, cons_lacks, cons_wants, never_cont_ids, never_ids, never_too_large, Kept, now, account}
use Rattle.gc_lists.proofs.CellReads.{back}
use Rattle.gc_lists.proofs.Limiting.{Tells, places_tell}

pub place-requires : goal.place-requires
place-requires g c =
    subst (λ (n : ℕ). CanPlaceFields g.row.D.Denot g.H.GcHeap.KIND c.args.store.now (struct_fields_at c.args.store.now.types n) (cell_values (cast_signed w64 (cast_unsigned w64 c.args.head)) c.args.self.now.root)) (sym c.cell.ensures)
    (can_place_cell g.H.GcHeap.KIND c.args.store.now c.args.self.now.root c.args.kit.now.cell (c.requires.kit (sym c.is_kit_of.ensures ∙ c.if-not-is_kit_of.false)).cells
    (c.requires.stands (sym c.is_kit_of.ensures ∙ c.if-not-is_kit_of.false) (sym c.is_version_of.ensures ∙ c.if-not-is_version_of.false)) _)

-- the kit's type of cells is one in each table
cells : (g : _) (c : After-place g) (t : Table g.row.D.Denot) (a : Account) → HoldsAccount g.H.GcHeap.KIND c.args.store.now t a → IsCellType t.types c.args.kit.now.cell
cells g c t a holds = subst (λ (types : List Declaration). IsCellType types c.args.kit.now.cell) holds.holds.types (c.requires.kit (sym c.is_kit_of.ensures ∙ c.if-not-is_kit_of.false)).cells

-- what the store answers of the cell
placed : (g : _) (c : After-place g) (t : Table g.row.D.Denot) (a : Account) (xs : List ℤ) → HoldsAccount g.H.GcHeap.KIND c.args.store.now t a
    → (stands : StandsForListOf c.args.store.now t c.args.self.now.root c.args.kit.now.cell xs) (result : Result GcRootIndex PlaceFault) → c.place.result ≡ result
    → Places g.H.GcHeap.KIND c.args.store.now.alloc_counter (cell c.args.kit.now.cell (number_bits w64 c.args.head) stands.reference) (policy_state t a (g.L.ResourceLimiter.limits c.args.limiter.now))
    (g.L.ResourceLimiter.limits c.place.new.limiter) result c.place.new.self
placed g c t a xs holds stands result is =
    subst (λ (r : Result GcRootIndex PlaceFault). Places g.H.GcHeap.KIND c.args.store.now.alloc_counter (cell c.args.kit.now.cell (number_bits w64 c.args.head) stands.reference)
    (policy_state t a (g.L.ResourceLimiter.limits c.args.limiter.now)) (g.L.ResourceLimiter.limits c.place.new.limiter) r c.place.new.self) is
    (c.place.ensures.places t a (cell c.args.kit.now.cell (number_bits w64 c.args.head) stands.reference) holds
    (subst (λ (n : ℕ). (vs : List Value) × (AllStand c.args.store.now t (cell_values (cast_signed w64 (cast_unsigned w64 c.args.head)) c.args.self.now.root) vs
    × (cell {D = g.row.D.Denot} c.args.kit.now.cell (number_bits w64 c.args.head) stands.reference ≡ struct n (stored_in (struct_fields_of t.types n) vs)))) (sym c.cell.ensures)
    (object_asked c.args.store.now t c.args.self.now.root c.args.kit.now.cell c.args.head (cast_signed w64 (cast_unsigned w64 c.args.head)) (back c.args.head c.ranges.head) stands.reference stands.names
    (cells g c t a holds))))

pub unreachable-requires : goal.unreachable-requires
unreachable-requires g c =
    let at = (goal.at.unreachable-requires g c).After-place in
    let one = c.requires.stands (sym c.is_kit_of.ensures ∙ c.if-not-is_kit_of.false) (sym c.is_version_of.ensures ∙ c.if-not-is_version_of.false) in
    let some = some_account g.H.GcHeap.KIND c.args.store.now one.table one.holds in
    never_ids g.H.GcHeap.KIND c.args.store.now one.table some.0 one.holds c.args.kit.now (cells g at one.table some.0 some.1) c.args.self.now.root one.numbers c.args.head c.ranges.head one.stands (g.L.ResourceLimiter.limits c.args.limiter.now)
    (g.L.ResourceLimiter.limits c.place.new.limiter) c.place.new.self
    (placed g at one.table some.0 one.numbers some.1 one.stands (Err place_fault.FuncTableFull) (c.in-Err-FuncTableFull.is ∙ ap Err c.in-Err-FuncTableFull.field-0-is))

pub unreachable-requires-in-Err-ContTableFull : goal.unreachable-requires-in-Err-ContTableFull
unreachable-requires-in-Err-ContTableFull g c =
    let at = (goal.at.unreachable-requires-in-Err-ContTableFull g c).After-place in
    let one = c.requires.stands (sym c.is_kit_of.ensures ∙ c.if-not-is_kit_of.false) (sym c.is_version_of.ensures ∙ c.if-not-is_version_of.false) in
    let some = some_account g.H.GcHeap.KIND c.args.store.now one.table one.holds in
    never_cont_ids g.H.GcHeap.KIND c.args.store.now one.table some.0 one.holds c.args.kit.now (cells g at one.table some.0 some.1) c.args.self.now.root one.numbers c.args.head c.ranges.head one.stands (g.L.ResourceLimiter.limits c.args.limiter.now)
    (g.L.ResourceLimiter.limits c.place.new.limiter) c.place.new.self
    (placed g at one.table some.0 one.numbers some.1 one.stands (Err place_fault.ContTableFull) (c.in-Err-ContTableFull.is ∙ ap Err c.in-Err-ContTableFull.field-0-is))

pub unreachable-requires-in-Err-TooLarge : goal.unreachable-requires-in-Err-TooLarge
unreachable-requires-in-Err-TooLarge g c =
    let at = (goal.at.unreachable-requires-in-Err-TooLarge g c).After-place in
    let one = c.requires.stands (sym c.is_kit_of.ensures ∙ c.if-not-is_kit_of.false) (sym c.is_version_of.ensures ∙ c.if-not-is_version_of.false) in
    let some = some_account g.H.GcHeap.KIND c.args.store.now one.table one.holds in
    never_too_large g.H.GcHeap.KIND c.args.store.now one.table some.0 one.holds c.args.kit.now (cells g at one.table some.0 some.1) c.args.self.now.root one.numbers c.args.head c.ranges.head one.stands (g.L.ResourceLimiter.limits c.args.limiter.now)
    (g.L.ResourceLimiter.limits c.place.new.limiter) c.place.new.self
    (placed g at one.table some.0 one.numbers some.1 one.stands (Err place_fault.TooLarge) (c.in-Err-TooLarge.is ∙ ap Err c.in-Err-TooLarge.field-0-is))

pub returns-in-Ok-keep-clause-conses : goal.returns-in-Ok-keep-clause-conses
returns-in-Ok-keep-clause-conses g c = λ kit_own own t a xs holds stands.
    let at = (goal.at.returns-in-Ok-keep-clause-conses g c).After-place in
    let places = placed g at t a xs holds stands (Ok c.in-Ok.cell) c.in-Ok.is in
    let scope_is = c.enter_gc_lifo_scope-scope.ensures.table t (holds.place, holds.holds) in
    cons_kept g.H.GcHeap.KIND c.args.store.now t a (holds.place, holds.holds) c.args.kit.now (cells g at t a holds) c.args.self.now.root xs c.args.head c.ranges.head stands (g.L.ResourceLimiter.limits c.args.limiter.now)
    (g.L.ResourceLimiter.limits c.place.new.limiter)
    c.place.new.self c.in-Ok.cell places c.keep.new.store c.enter_gc_lifo_scope-scope.result scope_is c.in-Ok-keep.root
    (subst (Kept g.H.GcHeap.KIND c.args.store.now t a (holds.place, holds.holds) c.args.kit.now (cells g at t a holds) c.args.self.now.root xs c.args.head c.ranges.head stands (g.L.ResourceLimiter.limits c.args.limiter.now)
    (g.L.ResourceLimiter.limits c.place.new.limiter)
    c.place.new.self c.in-Ok.cell places c.keep.new.store c.enter_gc_lifo_scope-scope.result scope_is) c.in-Ok-keep.is
    (c.keep.ensures.keeps (now g.H.GcHeap.KIND c.args.store.now t a (holds.place, holds.holds) c.args.kit.now (cells g at t a holds) c.args.self.now.root xs c.args.head c.ranges.head stands (g.L.ResourceLimiter.limits c.args.limiter.now)
    (g.L.ResourceLimiter.limits c.place.new.limiter)
    c.place.new.self c.in-Ok.cell places)
    (account g.H.GcHeap.KIND c.args.store.now t a (holds.place, holds.holds) c.args.kit.now (cells g at t a holds) c.args.self.now.root xs c.args.head c.ranges.head stands (g.L.ResourceLimiter.limits c.args.limiter.now)
    (g.L.ResourceLimiter.limits c.place.new.limiter)
    c.place.new.self c.in-Ok.cell places) (position (length t.objects))
    (holds_grown g.H.GcHeap.KIND c.args.store.now t a (holds.place, holds.holds) c.args.kit.now (cells g at t a holds) c.args.self.now.root xs c.args.head c.ranges.head stands (g.L.ResourceLimiter.limits c.args.limiter.now)
    (g.L.ResourceLimiter.limits c.place.new.limiter)
    c.place.new.self c.in-Ok.cell places)
    (names_grown g.H.GcHeap.KIND c.args.store.now t a (holds.place, holds.holds) c.args.kit.now (cells g at t a holds) c.args.self.now.root xs c.args.head c.ranges.head stands (g.L.ResourceLimiter.limits c.args.limiter.now)
    (g.L.ResourceLimiter.limits c.place.new.limiter)
    c.place.new.self c.in-Ok.cell places)))

pub returns-in-Err-clause-conses : goal.returns-in-Err-clause-conses
returns-in-Err-clause-conses g c = λ kit_own own t a xs holds stands.
    let at = (goal.at.returns-in-Err-clause-conses g c).After-place in
    let places = placed g at t a xs holds stands (Ok c.in-Ok.cell) c.in-Ok.is in
    let scope_is = c.enter_gc_lifo_scope-scope.ensures.table t (holds.place, holds.holds) in
    cons_refused g.H.GcHeap.KIND c.args.store.now t a (holds.place, holds.holds) c.args.kit.now (cells g at t a holds) c.args.self.now.root xs c.args.head c.ranges.head stands (g.L.ResourceLimiter.limits c.args.limiter.now)
    (g.L.ResourceLimiter.limits c.place.new.limiter)
    c.place.new.self c.in-Ok.cell places c.keep.new.store c.enter_gc_lifo_scope-scope.result scope_is c.in-Err.fault
    (subst (Kept g.H.GcHeap.KIND c.args.store.now t a (holds.place, holds.holds) c.args.kit.now (cells g at t a holds) c.args.self.now.root xs c.args.head c.ranges.head stands (g.L.ResourceLimiter.limits c.args.limiter.now)
    (g.L.ResourceLimiter.limits c.place.new.limiter)
    c.place.new.self c.in-Ok.cell places c.keep.new.store c.enter_gc_lifo_scope-scope.result scope_is) c.in-Err.is
    (c.keep.ensures.keeps (now g.H.GcHeap.KIND c.args.store.now t a (holds.place, holds.holds) c.args.kit.now (cells g at t a holds) c.args.self.now.root xs c.args.head c.ranges.head stands (g.L.ResourceLimiter.limits c.args.limiter.now)
    (g.L.ResourceLimiter.limits c.place.new.limiter)
    c.place.new.self c.in-Ok.cell places)
    (account g.H.GcHeap.KIND c.args.store.now t a (holds.place, holds.holds) c.args.kit.now (cells g at t a holds) c.args.self.now.root xs c.args.head c.ranges.head stands (g.L.ResourceLimiter.limits c.args.limiter.now)
    (g.L.ResourceLimiter.limits c.place.new.limiter)
    c.place.new.self c.in-Ok.cell places) (position (length t.objects))
    (holds_grown g.H.GcHeap.KIND c.args.store.now t a (holds.place, holds.holds) c.args.kit.now (cells g at t a holds) c.args.self.now.root xs c.args.head c.ranges.head stands (g.L.ResourceLimiter.limits c.args.limiter.now)
    (g.L.ResourceLimiter.limits c.place.new.limiter)
    c.place.new.self c.in-Ok.cell places)
    (names_grown g.H.GcHeap.KIND c.args.store.now t a (holds.place, holds.holds) c.args.kit.now (cells g at t a holds) c.args.self.now.root xs c.args.head c.ranges.head stands (g.L.ResourceLimiter.limits c.args.limiter.now)
    (g.L.ResourceLimiter.limits c.place.new.limiter)
    c.place.new.self c.in-Ok.cell places)))

pub returns-in-Err-RootsFull-clause-conses : goal.returns-in-Err-RootsFull-clause-conses
returns-in-Err-RootsFull-clause-conses g c = λ kit_own own t a xs holds stands.
    let at = (goal.at.returns-in-Err-RootsFull-clause-conses g c).After-place in
    cons_full g.H.GcHeap.KIND c.args.store.now t a (holds.place, holds.holds) c.args.kit.now (cells g at t a holds) c.args.self.now.root xs c.args.head c.ranges.head stands (g.L.ResourceLimiter.limits c.args.limiter.now)
    (g.L.ResourceLimiter.limits c.place.new.limiter) c.place.new.self true
    (placed g at t a xs holds stands (Err place_fault.RootsFull) (c.in-Err-RootsFull.is ∙ ap Err c.in-Err-RootsFull.field-0-is))

pub returns-in-Err-HeapOutOfMemory-clause-conses : goal.returns-in-Err-HeapOutOfMemory-clause-conses
returns-in-Err-HeapOutOfMemory-clause-conses g c = λ kit_own own t a xs holds stands.
    let at = (goal.at.returns-in-Err-HeapOutOfMemory-clause-conses g c).After-place in
    cons_lacks g.H.GcHeap.KIND c.args.store.now t a (holds.place, holds.holds) c.args.kit.now (cells g at t a holds) c.args.self.now.root xs c.args.head c.ranges.head stands (g.L.ResourceLimiter.limits c.args.limiter.now)
    (g.L.ResourceLimiter.limits c.place.new.limiter) c.place.new.self c.in-Err-HeapOutOfMemory.full
    (placed g at t a xs holds stands (Err (place_fault.HeapOutOfMemory c.in-Err-HeapOutOfMemory.full)) (c.in-Err-HeapOutOfMemory.is ∙ ap Err c.in-Err-HeapOutOfMemory.field-0-is))

pub returns-in-Err-Memory-clause-conses : goal.returns-in-Err-Memory-clause-conses
returns-in-Err-Memory-clause-conses g c = λ kit_own own t a xs holds stands.
    let at = (goal.at.returns-in-Err-Memory-clause-conses g c).After-place in
    cons_wants g.H.GcHeap.KIND c.args.store.now t a (holds.place, holds.holds) c.args.kit.now (cells g at t a holds) c.args.self.now.root xs c.args.head c.ranges.head stands (g.L.ResourceLimiter.limits c.args.limiter.now)
    (g.L.ResourceLimiter.limits c.place.new.limiter) c.place.new.self
    (placed g at t a xs holds stands (Err place_fault.Memory) (c.in-Err-Memory.is ∙ ap Err c.in-Err-Memory.field-0-is))

-- the limiter tells the same limit and has lost no refusal, whatever was answered
tells_at : (g : given.Over) (c : After-place g) → Tells (g.L.ResourceLimiter.limits c.args.limiter.now) (g.L.ResourceLimiter.limits c.place.new.limiter)
tells_at g c =
    let one = c.requires.stands (sym c.is_kit_of.ensures ∙ c.if-not-is_kit_of.false) (sym c.is_version_of.ensures ∙ c.if-not-is_version_of.false) in
    let some = some_account g.H.GcHeap.KIND c.args.store.now one.table one.holds in
    places_tell g.H.GcHeap.KIND c.args.store.now.alloc_counter (cell c.args.kit.now.cell (number_bits w64 c.args.head) one.stands.reference)
    (policy_state one.table some.0 (g.L.ResourceLimiter.limits c.args.limiter.now)) (g.L.ResourceLimiter.limits c.place.new.limiter) c.place.result c.place.new.self
    (placed g c one.table some.0 one.numbers some.1 one.stands c.place.result refl)

pub returns-in-Ok-keep-clause-limit : goal.returns-in-Ok-keep-clause-limit
returns-in-Ok-keep-clause-limit g c = (tells_at g (goal.at.returns-in-Ok-keep-clause-limit g c).After-place).limit

pub returns-in-Err-clause-limit : goal.returns-in-Err-clause-limit
returns-in-Err-clause-limit g c = (tells_at g (goal.at.returns-in-Err-clause-limit g c).After-place).limit

pub returns-in-Err-RootsFull-clause-limit : goal.returns-in-Err-RootsFull-clause-limit
returns-in-Err-RootsFull-clause-limit g c = (tells_at g (goal.at.returns-in-Err-RootsFull-clause-limit g c).After-place).limit

pub returns-in-Err-HeapOutOfMemory-clause-limit : goal.returns-in-Err-HeapOutOfMemory-clause-limit
returns-in-Err-HeapOutOfMemory-clause-limit g c = (tells_at g (goal.at.returns-in-Err-HeapOutOfMemory-clause-limit g c).After-place).limit

pub returns-in-Err-Memory-clause-limit : goal.returns-in-Err-Memory-clause-limit
returns-in-Err-Memory-clause-limit g c = (tells_at g (goal.at.returns-in-Err-Memory-clause-limit g c).After-place).limit

pub returns-in-Ok-keep-clause-counts : goal.returns-in-Ok-keep-clause-counts
returns-in-Ok-keep-clause-counts g c = (tells_at g (goal.at.returns-in-Ok-keep-clause-counts g c).After-place).counts

pub returns-in-Err-clause-counts : goal.returns-in-Err-clause-counts
returns-in-Err-clause-counts g c = (tells_at g (goal.at.returns-in-Err-clause-counts g c).After-place).counts

pub returns-in-Err-RootsFull-clause-counts : goal.returns-in-Err-RootsFull-clause-counts
returns-in-Err-RootsFull-clause-counts g c = (tells_at g (goal.at.returns-in-Err-RootsFull-clause-counts g c).After-place).counts

pub returns-in-Err-HeapOutOfMemory-clause-counts : goal.returns-in-Err-HeapOutOfMemory-clause-counts
returns-in-Err-HeapOutOfMemory-clause-counts g c = (tells_at g (goal.at.returns-in-Err-HeapOutOfMemory-clause-counts g c).After-place).counts

pub returns-in-Err-Memory-clause-counts : goal.returns-in-Err-Memory-clause-counts
returns-in-Err-Memory-clause-counts g c = (tells_at g (goal.at.returns-in-Err-Memory-clause-counts g c).After-place).counts
