-- What a declaration answers and leaves.
use Rattle.std.specs.Prelude.{◌≡◌, Result, Ok, Err, length}
use Rattle.gc_types.specs.declared.types.TypeFault.{TypeFault}
use Rattle.gc_types.specs.declared.types.TypeFault.TheVariants as fault
use Rattle.gc_types.specs.Declarable.{Declarable}
use Rattle.gc_types.specs.Declarations.{Declaration, TypeName, with_declaration}
use Rattle.gc_owner.specs.Owners.{OwnerView}

-- what a declaration answers and leaves
abbrev pub AppendsType : {D : Type 0} → OwnerView D → OwnerView D → Declaration → Result TypeName TypeFault → Type 0
AppendsType old new d (Ok ty) =
    Declarable old.types.declarations d
    × ((ty ≡ record { engine = old.types.engine; number = old.types.number; index = length old.types.declarations })
    × (new ≡ record old { types = with_declaration d old.types }))
AppendsType old new d (Err fault.BadType) = (¬ Declarable old.types.declarations d) × (new ≡ old)
AppendsType old new d (Err fault.Memory) = new ≡ old
