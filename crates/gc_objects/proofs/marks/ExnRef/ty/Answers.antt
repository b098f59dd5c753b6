use Rattle.std.proofs.Common.{ap}
use Rattle.gc_types.specs.declared.kind.TypeKind.TheVariants as type_kinds
use Rattle.gc_types.specs.Declarations.{TypeTable}
use Rattle.gc_objects.specs.Answered.{HasTypeNamed}
use Rattle.gc_objects.specs.Exns.{IsExn, IsNamedExn}
use Rattle.gc_objects.proofs.TypeLemmas.{refused_here, type_told, has_name, name_is}
use Rattle.gc_objects.proofs.ExnLemmas.{exn_declared}
use Rattle.gc_objects.proofs.marks.ExnRef.ty.Goals as goal

pub unwrap-requires : goal.unwrap-requires
unwrap-requires g c =
    has_name c.args.store.now.types c.types.result.now c.in-Ok.exn.ty type_kinds.Exn c.exn_type.result (ap (λ (x : TypeTable). x.declarations) c.types.ensures)
    (exn_declared g.H.GcHeap.KIND c.args.store.now c.root_index.result c.in-Ok.exn c.in-Ok.ensures.found) c.exn_type.ensures.kind

pub returns-in-Ok : goal.returns-in-Ok
returns-in-Ok g c t holds =
    type_told c.args.store.now t c.root_index.result (g.R.RootedGcRef.index c.args.this.now) c.root_index.ensures (IsExn t) (IsNamedExn t) c.exn_at.result (c.exn_at.ensures.answers t holds)
    c.in-Ok.exn c.in-Ok.exn.ty c.in-Ok.is (λ r told. (c.in-Ok.exn.tag, told)) c.unwrap.result (name_is c.args.store.now c.types.result.now c.in-Ok.exn.ty c.exn_type.result c.unwrap.result c.types.ensures c.unwrap.ensures c.exn_type.ensures.names)

pub returns-in-Err : goal.returns-in-Err
returns-in-Err g c t holds =
    refused_here c.args.store.now t c.root_index.result (g.R.RootedGcRef.index c.args.this.now) c.root_index.ensures (IsExn t) (IsNamedExn t) c.exn_at.result (c.exn_at.ensures.answers t holds)
    (HasTypeNamed c.args.store.now (IsExn t)) c.in-Err.fault c.in-Err.is
