-- The state of a session: an object table, the account of its store, registers and scope marks.
use Rattle.std.specs.Prelude.{◌≡◌, ℕ, ◌==◌, Bool, false, List, [], Option, Some, None, if◌then◌else◌}
use Rattle.std.specs.Int.{w32, w64}
use Rattle.gc_types.specs.declared.kind.Layouts.{Layouts}
use Rattle.gc_owner.specs.declared.entry.GcClass.{GcClass}
use Rattle.gc_model.specs.Values.{Value, numeric, i32, i64, f32, f64, v128, number_bits}
use Rattle.gc_model.specs.Table.{Table}
use Rattle.gc_model.specs.Stores.{StoreView}
use Rattle.gc_model.specs.Accounts.{Account, no_account, HoldsAccount}
use Rattle.gc_store.specs.Roots.{NamesSerial, owned_handle}
use Rattle.gc_values.specs.declared.root.RawValue.{RawValue}
use Rattle.gc_values.specs.declared.root.RawValue.TheVariants as raw
use Rattle.gc_script.specs.Slots.{register_at, RunnerView}

-- what a register of the table holds: a number, or a class with null or the serial of a root
pub data Held : Type 0 where
  number : Value → Held
  reference : GcClass → Option ℕ → Held

-- what an owned register holds: a class and the number of an owned root, or a root that was given up
pub data HeldOwned : Type 0 where
  owned : GcClass → ℕ → HeldOwned
  unrooted : HeldOwned

-- A table, the account of its store, what each register and each owned register holds that was set, and the
-- scope marks, the oldest first. The account is what the policy of growth goes by: a step leaves open how an
-- allocation, a collection or a growth changes it.
pub record State : Type 0 where
  pub table : Table ℕ
  pub account : Account
  pub registers : ℕ → Option Held
  pub owned_registers : ℕ → Option HeldOwned
  pub marks : List ℕ

-- no register is set
abbrev pub no_registers : ℕ → Option Held
no_registers d = None

-- the state of a new session over that table, whose store has that account
abbrev pub begin : Table ℕ → Account → State
begin t a = record { table = t; account = a; registers = no_registers; owned_registers = λ o. None; marks = [] }

-- the state with that table
abbrev pub with_table : Table ℕ → State → State
with_table t s = record s { table = t }

-- the state with that account
abbrev pub with_account : Account → State → State
with_account a s = record s { account = a }

-- the state with that table and that account
abbrev pub with_heap : Table ℕ → Account → State → State
with_heap t a s = record s { table = t; account = a }

-- the state with these scope marks
abbrev pub with_marks : List ℕ → State → State
with_marks marks s = record s { marks = marks }

-- the state with a register set
abbrev pub set_register : ℕ → Held → State → State
set_register d held s = record s { registers = λ k. if k == d then Some held else s.registers k }

-- the state with an owned register set
abbrev pub set_owned : ℕ → HeldOwned → State → State
set_owned o held s = record s { owned_registers = λ k. if k == o then Some held else s.owned_registers k }

-- registers with a value in one, where one is named and there is a value that it may hold
abbrev pub put_register : Option ℕ → Option Held → (ℕ → Option Held) → ℕ → Option Held
put_register None held registers k = registers k
put_register (Some d) None registers k = registers k
put_register (Some d) (Some held) registers k = if k == d then Some held else registers k

-- the state with these registers
abbrev pub put_into : Option ℕ → Option Held → State → State
put_into into held s = record s { registers = put_register into held s.registers }

-- The hidden part of a state, which no test and no plain effect sees or changes: whether the heap is made, its pages and
-- its first pages, and the account.
pub record Hidden : Type 0 where
  pub made : Bool
  pub pages : ℕ
  pub first : ℕ
  pub account : Account

abbrev pub hidden : State → Hidden
hidden s = record { made = s.table.made; pages = s.table.pages; first = s.table.first; account = s.account }

-- the state with that hidden part
abbrev pub with_hidden : Hidden → State → State
with_hidden h s = record s { table = record s.table { made = h.made; pages = h.pages; first = h.first }; account = h.account }

-- what is seen of a state: its hidden part is blank
abbrev pub visible : State → State
visible s = with_hidden (record { made = false; pages = 0; first = 0; account = no_account }) s

-- what was made of a state as it is seen, with the hidden part of that state
abbrev pub over : State → State → State
over s v = with_hidden (hidden s) v

-- What a register of the runner holds is what one of the table holds: a handle is that of the serial.
abbrev pub RegisterStands : StoreView ℕ → Table ℕ → Option RawValue → Option Held → Type 0
RegisterStands s t None None = Unit {0}
RegisterStands s t (Some (raw.I32 n)) (Some (number v)) = v ≡ numeric i32 (number_bits w32 n)
RegisterStands s t (Some (raw.I64 n)) (Some (number v)) = v ≡ numeric i64 (number_bits w64 n)
RegisterStands s t (Some (raw.F32 n)) (Some (number v)) = v ≡ numeric f32 n
RegisterStands s t (Some (raw.F64 n)) (Some (number v)) = v ≡ numeric f64 n
RegisterStands s t (Some (raw.V128 n)) (Some (number v)) = v ≡ numeric v128 n
RegisterStands s t (Some (raw.Ref class (Some handle))) (Some (reference class' (Some serial))) = (class ≡ class') × NamesSerial s t handle serial
RegisterStands s t (Some (raw.Ref class None)) (Some (reference class' None)) = class ≡ class'
RegisterStands s t _ _ = ⊥

-- What an owned register of the runner holds is what one of the table holds: a handle is that of the owned root, and none is
-- there where the root was given up.
abbrev pub StandsOwned : StoreView ℕ → Option RawValue → Option HeldOwned → Type 0
StandsOwned s None None = Unit {0}
StandsOwned s (Some (raw.Ref class (Some handle))) (Some (owned class' n)) = (class ≡ class') × (handle ≡ owned_handle s n)
StandsOwned s (Some (raw.Ref class None)) (Some unrooted) = Unit {0}
StandsOwned s _ _ = ⊥

-- the store and the runner are in that state
pub record HoldsState (layouts : Layouts) (s : StoreView ℕ) (runner : RunnerView) (state : State) : Type 0 where
  pub table : HoldsAccount layouts s state.table state.account
  pub registers : (d : ℕ) → RegisterStands s state.table (register_at runner.registers d) (state.registers d)
  pub owned : (o : ℕ) → StandsOwned s (register_at runner.rest.owned o) (state.owned_registers o)
  pub marks : runner.rest.marks ≡ state.marks
