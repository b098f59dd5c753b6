-- `of` picks the number of steps. Assumes `Logic`.
use Rattle.std.proofs.Common.{List, [], ◌∷◌, ◌++◌, refl}
use mir.Syntax.{Fn, Args, a_type, dcons, dnil}
use mir.Val.{Val, vptr}
use mir.MapTy.{inst_fn}
use base.Logic.{SProp}
use prog.Wp.{WpFn}
use contract.Running.{tables}
use types.Kit.{‵, raw, ◌⊛◌, prop, ◌$◌, ◌∵◌, !, qed, move, keep, drop, split, fsplit, fjoin, feq_l, regoal, suffices, done}
use types.Part.{agg}
use types.Run.{enter, returns, no_more}
use types.ByLocal.{alloc_all, pass_all, free_all, look_at, sets}
use denote.RattleType.{owns}
use denote.Param.{bounded}
use denote.Signature.{types_at}
use denote.Steps.{nothing}
use denote.Triple.Entry.{alive}
use denote.Triple.Walked.{says, Stays, stay_dropped, walk_of, ends_at, Goes-dropped}
use Rattle.std.proofs.raw_atomic.Walks.{proved_at}
use Rattle.gc_copying.proofs.Walks.{none, none_made, first_slot}
use Rattle.gc_copying.specs.contracts.ticks.Ticks as ticks
use Rattle.gc_copying.specs.contracts.ticks.Ticks.of.{ended, clauses}
use Rattle.gc_copying.specs.contracts.ticks.Ticks.of.Key.{name as #self}
use Rattle.gc_copying.proofs.ticks.Ticks.of.Statement.{statement}
use Rattle.gc_copying.proofs.ticks.Ticks.of.Code as code

pub of_spec : {M : Type 1} → statement M
of_spec 𝓤 𝓛 𝓜 𝓡 wired G L gh d met =
    let H = 𝓛.H in
    let En = ended G gh d in
    let c = clauses G gh d 𝓛 𝓜.mem 𝓡.returns in
    let args : Args = bounded (a_type ∷ []) (G, tt) (dcons d dnil) in
    let fn : Fn = inst_fn args code.function in
    let stays : Stays En.signature.params En.kept = (stay_dropped (first_slot En.signature.params) En.kept.0, tt) in
    let C = (tables 𝓤 H 𝓜 𝓡 𝓡.env).C in
    let Λ = (tables 𝓤 H 𝓜 𝓡 𝓡.env).Λ in
    proved_at 𝓛 En stays c 𝓜 𝓡 (Goes-dropped 𝓛 2 (first_slot En.signature.params) En.kept.0 (λ κs x f. refl), tt) (#self args) fn (code.unfolded 𝓤 H 𝓜 𝓡 wired (G, tt) d) (λ z are.
    let Post : Val → SProp 𝓤 = (walk_of 𝓛 En stays c).post z in
    let a = z.0.3 in
    let vss = z.0.4 in
    let u : Val = vptr a.0.ref_ptr.0 a.0.ref_ptr.1 in
    let log : (ticks.the_row).Denot = record { count = a.0.now } in
    qed 𝓛 ((raw (alive 𝓛 En.signature z.0.0 z.0.1) ⊛ ‵ (owns (types_at En.signature.params z.0.0) a vss)) ∷ raw ((c z.0.0 a).requires z.1) ∷ []) ∵
    keep ! (0 ∷ []) $ split ! $ move ! (1 ∷ []) $ fsplit ! $ fsplit ! $ feq_l ! (λ is₀. drop ! $ drop ! $
    regoal ! (λ (us : List Val). prop (WpFn 𝓤 H C Λ fn (us ++ []) Post)) is₀ refl $
    enter ! C Λ fn (u ∷ []) Post $ alloc_all ! (λ l. pass_all ! refl ((tt, tt), tt) $
    sets ! (agg ! (no_more !)) refl (tt, tt) $
    nothing ! $ none_made ! $ fjoin ! $
    returns ! (look_at ! 0 refl) $ free_all ! refl $
    suffices ! _ (ends_at 𝓛 En stays c z none log (tt, tt) (tt, tt)) $ says ! refl $
    nothing ! $ nothing ! $ fjoin ! $ move ! (2 ∷ 0 ∷ 1 ∷ []) $ done !)))
