use Rattle.std.proofs.Common.{◌≡◌, ℕ, ◌<◌, ◌∷◌, [], ◌++◌, List, length, sym, ◌∙◌, subst, arith, Option, Some}
use Rattle.gc_types.specs.Declarations.{Declaration, TypeTable}
use Rattle.gc_types.specs.Declarable.{Declarable}
use Rattle.gc_types.specs.Tables.{IsTable, MayStand}
use Rattle.gc_types.proofs.TableLemmas.{declarable, table_push}
use Rattle.gc_types.proofs.types.Types.declare.Goals as goal
use Rattle.gc_types.proofs.types.Types.declare.Goals.{Else-not-may_stand}

-- what passed the checks may be declared
may : (c : Else-not-may_stand) → Declarable c.self.inside.declared.items c.args.new
may c =
    let whole : c.as_slice.result.now ≡ c.self.inside.declared.items ++ c.args.new ∷ [] =
    c.as_slice.ensures.value ∙ c.in_ok-push.ensures.types in
    let early : (ty : ℕ) → c.args.new.supertype ≡ Some ty → ty < length c.self.inside.declared.items =
    λ ty is.
    let below : ty < c.len-index.result = c.is_earlier.ensures.0 c.if-not-is_earlier.false ty (c.supertype.ensures ∙ is) in
    omega (arith, c.self.inside.declared.ok.0) in
    let stands : MayStand (c.self.inside.declared.items ++ c.args.new ∷ []) c.args.new =
    subst (λ (ts : List Declaration). MayStand ts c.args.new) whole
    ((c.may_stand.ensures c.self.inside.declared.items c.args.new whole).0 c.if-not-may_stand.false) in
    declarable c.self.inside.declared.items c.args.new c.requires.few_fields c.requires.exn_is_final (omega (arith, c.self.inside.declared.ok.0)) early stands

pub invariant_of-self-else-not-may_stand : goal.invariant_of-self-else-not-may_stand
invariant_of-self-else-not-may_stand c =
    let table : IsTable (c.self.inside.ancestry ++ c.args.new.supertype ∷ []) (c.self.inside.declared.items ++ c.args.new ∷ []) =
    table_push c.self.inside.ancestry c.self.inside.declared.items c.args.new c.self.invariant (may c) in
    subst (λ (a : List (Option ℕ)). IsTable a c.push.new.types.items) (sym c.in_ok-push.ensures.ancestry)
    (subst (λ (ts : List Declaration). IsTable (c.self.inside.ancestry ++ c.args.new.supertype ∷ []) ts) (sym c.in_ok-push.ensures.types) table)

pub returns-clause-declarable : goal.returns-clause-declarable
returns-clause-declarable c =
    subst (λ (t : TypeTable). Declarable t.declarations c.args.new) c.self.view_is (may (goal.at.returns-clause-declarable c).Else-not-may_stand)
