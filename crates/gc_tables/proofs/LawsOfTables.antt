-- What was interned stands under its id.
use Rattle.std.proofs.Common.{◌≡◌, ℕ, zero, suc, ◌-◌, ◌<◌, Some, refl, ap, subst, arith}
use Rattle.std.specs.Option.{option_map}
use Rattle.gc_tables.specs.SideTables.{SideTable, value_at}
use Rattle.gc_tables.specs.Interned.{Interns}
use Rattle.gc_tables.specs.Conts.{cont_at}

pub stands : {T : Type 0} (old new : SideTable T) (value : T) (id : ℕ) → Interns old new value id → value_at new id ≡ Some value
stands old new value id interns = (interns.is_id id).1 refl

pub cont_stands : (old new : SideTable ℕ) (value raw : ℕ) → 0 < raw → Interns old new value (raw - 1) → cont_at new raw ≡ Some (Some value)
cont_stands old new value zero positive interns = absurd (omega arith)
cont_stands old new value (suc id) positive interns =
    let same : suc id - 1 ≡ id = omega arith in
    ap (option_map Some) (stands old new value id (subst (λ n. Interns old new value n) same interns))
