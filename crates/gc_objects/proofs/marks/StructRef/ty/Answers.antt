use Rattle.std.proofs.Common.{ap}
use Rattle.gc_types.specs.declared.kind.TypeKind.TheVariants as type_kinds
use Rattle.gc_types.specs.Declarations.{TypeTable}
use Rattle.gc_objects.specs.Answered.{IsStruct, HasTypeNamed}
use Rattle.gc_objects.proofs.TypeLemmas.{refused_here, type_told, struct_declared, has_name, name_is}
use Rattle.gc_objects.proofs.marks.StructRef.ty.Goals as goal

pub unwrap-requires : goal.unwrap-requires
unwrap-requires g c =
    has_name c.args.store.now.types c.types.result.now c.in-Ok.ty type_kinds.Struct c.struct_type.result (ap (λ (x : TypeTable). x.declarations) c.types.ensures)
    (struct_declared g.H.GcHeap.KIND c.args.store.now c.root_index.result c.in-Ok.ty c.in-Ok.ensures.found) c.struct_type.ensures.kind

pub returns-in-Ok : goal.returns-in-Ok
returns-in-Ok g c t holds =
    type_told c.args.store.now t c.root_index.result (g.R.RootedGcRef.index c.args.this.now) c.root_index.ensures (IsStruct t) (IsStruct t) c.struct_at.result (c.struct_at.ensures.answers t holds)
    c.in-Ok.ty c.in-Ok.ty c.in-Ok.is (λ r told. told) c.unwrap.result (name_is c.args.store.now c.types.result.now c.in-Ok.ty c.struct_type.result c.unwrap.result c.types.ensures c.unwrap.ensures c.struct_type.ensures.names)

pub returns-in-Err : goal.returns-in-Err
returns-in-Err g c t holds =
    refused_here c.args.store.now t c.root_index.result (g.R.RootedGcRef.index c.args.this.now) c.root_index.ensures (IsStruct t) (IsStruct t) c.struct_at.result (c.struct_at.ensures.answers t holds)
    (HasTypeNamed c.args.store.now (IsStruct t)) c.in-Err.fault c.in-Err.is
