use Rattle.std.proofs.Common.{◌≡◌, true, ap, sym, ◌∙◌}
use Rattle.gc_types.specs.Declarations.{TypeTable}
use Rattle.gc_store.specs.Roots.{is_of_store}
use Rattle.gc_objects.specs.Answered.{MatchesType}
use Rattle.gc_objects.specs.Exns.{IsExn, IsNamedExn}
use Rattle.gc_objects.specs.Kinds.{is_type_of}
use Rattle.gc_objects.proofs.TypeLemmas.{type_matched, meets_here, carries_type, refused_here, refused_typed}
use Rattle.gc_objects.proofs.marks.ExnRef.matches_ty.Given as given
use Rattle.gc_objects.proofs.marks.ExnRef.matches_ty.Goals as goal
use Rattle.gc_objects.proofs.marks.ExnRef.matches_ty.Goals.{After-exn_at}

own_type : (g : given.Over) (c : After-exn_at g) → is_type_of c.args.store.now c.args.ty.now ≡ true
own_type g c = sym (carries_type c.args.store.now c.args.ty.now c.engine.result c.number.result c.carries_id.result c.engine.ensures c.number.ensures c.carries_id.ensures) ∙ c.if-not-carries_id.false

pub returns-in-Ok : goal.returns-in-Ok
returns-in-Ok g c t holds =
    type_matched c.args.store.now t c.root_index-root.result (g.R.RootedGcRef.index c.args.this.now) c.root_index-root.ensures (IsExn t) (IsNamedExn t) c.exn_at.result (c.exn_at.ensures.answers t holds)
    c.in-Ok.exn c.in-Ok.exn.ty c.in-Ok.is (λ r told. (c.in-Ok.exn.tag, told)) c.args.ty.now c.is_subtype.result (own_type g (goal.at.returns-in-Ok g c).After-exn_at)
    (meets_here c.types.result.now t.types c.in-Ok.exn.ty c.index.result c.args.ty.now.index c.is_subtype.result (ap (λ (x : TypeTable). x.declarations) c.types.ensures ∙ holds.1.types) c.index.ensures c.is_subtype.ensures)

pub returns-in-Err : goal.returns-in-Err
returns-in-Err g c t holds =
    refused_typed c.args.store.now t (g.R.RootedGcRef.index c.args.this.now) c.args.ty.now
    (sym (ap (is_of_store c.args.store.now) c.root_index-root.ensures) ∙ sym c.is_of_store.ensures ∙ c.if-not-is_of_store.false)
    (own_type g (goal.at.returns-in-Err g c).After-exn_at)
    (MatchesType t (IsExn t) c.args.ty.now.index) c.in-Err.fault
    (refused_here c.args.store.now t c.root_index-root.result (g.R.RootedGcRef.index c.args.this.now) c.root_index-root.ensures (IsExn t) (IsNamedExn t) c.exn_at.result (c.exn_at.ensures.answers t holds)
    (MatchesType t (IsExn t) c.args.ty.now.index) c.in-Err.fault c.in-Err.is)
