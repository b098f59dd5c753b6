-- What contracts see of a side table.
use Rattle.std.specs.Prelude.{◌≡◌, ◌↔◌, ℕ, ◌^◌, ◌<◌, ◌≤◌, Option, Some, None, Result, OnOk, IsOk, refl}
use Rattle.std.specs.Ordering.{nat_cmp}
use Rattle.std.specs.FinMap as map
use Rattle.std.specs.Coded.{Coded, code_by, coded×, coded_ℕ}

-- the values under their ids, and the number of spare places: so many more can be put in, whatever
-- is taken out between, without taking memory
pub record SideTable (T : Type 0) : Type 0 where
  pub entries : map.FinMap nat_cmp T
  pub spare : ℕ

-- a side table is stored as the pair of its fields
abbrev pub side_table_code : {T : Type 0} → Coded T → Coded (SideTable T)
side_table_code {T} code =
    code_by (map.FinMap nat_cmp T × ℕ) (coded× (map.code coded_ℕ code) coded_ℕ)
    (λ t. (t.entries, t.spare))
    (λ p. record { entries = p.0; spare = p.1 })
    (λ _. refl)

-- the greatest number of entries; ids are below it
abbrev pub max_entries : ℕ
max_entries = 2147483648

-- the value under that id
abbrev pub value_at : {T : Type 0} → SideTable T → ℕ → Option T
value_at t id = map.get t.entries id

-- the number of entries
abbrev pub entry_count : {T : Type 0} → SideTable T → ℕ
entry_count t = map.len t.entries

-- Room is made for so many more entries, which stay as they are: where there was enough, memory can't be wanting.
pub record ReservesEntries {T E : Type 0} (old new : SideTable T) (additional : ℕ) (result : Result (Unit {0}) E) : Type 0 where
  pub entries : new.entries ≡ old.entries
  pub room : OnOk result (additional ≤ new.spare)
  pub succeeds : additional ≤ old.spare → IsOk result
  pub grown : old.spare ≤ new.spare
