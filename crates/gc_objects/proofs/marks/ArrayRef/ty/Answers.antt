use Rattle.std.proofs.Common.{ap}
use Rattle.gc_types.specs.declared.kind.TypeKind.TheVariants as type_kinds
use Rattle.gc_types.specs.Declarations.{TypeTable}
use Rattle.gc_objects.specs.Answered.{IsArray, IsNamedArray, HasTypeNamed}
use Rattle.gc_objects.proofs.TypeLemmas.{refused_here, type_told, array_declared, has_name, name_is}
use Rattle.gc_objects.proofs.marks.ArrayRef.ty.Goals as goal

pub unwrap-requires : goal.unwrap-requires
unwrap-requires g c =
    has_name c.args.store.now.types c.types.result.now c.in-Ok.array.ty type_kinds.Array c.array_type.result (ap (λ (x : TypeTable). x.declarations) c.types.ensures)
    (array_declared g.H.GcHeap.KIND c.args.store.now c.root_index.result c.in-Ok.array.ty c.in-Ok.array.len c.in-Ok.ensures.found).0 c.array_type.ensures.kind

pub returns-in-Ok : goal.returns-in-Ok
returns-in-Ok g c t holds =
    type_told c.args.store.now t c.root_index.result (g.R.RootedGcRef.index c.args.this.now) c.root_index.ensures (IsArray t) (IsNamedArray t) c.array_at.result (c.array_at.ensures.answers t holds)
    c.in-Ok.array c.in-Ok.array.ty c.in-Ok.is (λ r told. (told.0, told.1.0)) c.unwrap.result
    (name_is c.args.store.now c.types.result.now c.in-Ok.array.ty c.array_type.result c.unwrap.result c.types.ensures c.unwrap.ensures c.array_type.ensures.names)

pub returns-in-Err : goal.returns-in-Err
returns-in-Err g c t holds =
    refused_here c.args.store.now t c.root_index.result (g.R.RootedGcRef.index c.args.this.now) c.root_index.ensures (IsArray t) (IsNamedArray t) c.array_at.result (c.array_at.ensures.answers t holds)
    (HasTypeNamed c.args.store.now (IsArray t)) c.in-Err.fault c.in-Err.is
