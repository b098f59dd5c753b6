-- What types are given as.
use Rattle.std.specs.Prelude.{◌≡◌, ◌==◌, ◌&&◌, Bool, true, Some}
use Rattle.gc_types.specs.declared.kind.TypeKind.{TypeKind}
use Rattle.gc_types.specs.Declarations.{TypeName, kind_at}
use Rattle.gc_model.specs.Stores.{StoreView}

-- whether a type carries the store's id
abbrev pub is_type_of : {D : Type 0} → StoreView D → TypeName → Bool
is_type_of s ty = (ty.engine == s.engine) && (ty.number == s.number)

-- Where a type carries the store's id, it is declared there with that kind.
abbrev pub IsDeclaredAs : {D : Type 0} → StoreView D → TypeKind → TypeName → Type 0
IsDeclaredAs s kind ty = is_type_of s ty ≡ true → kind_at s.types ty.index ≡ Some kind
