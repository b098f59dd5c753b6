use Rattle.std.proofs.Common.{◌++◌, List, [], ◌∷◌, sym, ap, ◌∙◌, subst, arith, reverse}
use Rattle.std.proofs.lemmas.List.{append-nil}
use Rattle.std.proofs.lemmas.Option.{slice_get-get_or}
use Rattle.gc_paths.specs.declared.entry.PathEntry.{PathEntry}
use Rattle.gc_paths.specs.Targets.{PathOf}
use Rattle.gc_paths.proofs.Leading.{path_back, path_begun}
use Rattle.gc_paths.proofs.target.path_in.Goals as goal

pub loop-path-init : goal.loop-path-init
loop-path-init c = record {
  inside = c.requires.within;
  goes_on = λ front before. subst (PathOf c.args.entries.now c.args.last) (sym (append-nil front) ∙ ap (λ (xs : List PathEntry). front ++ reverse xs) (sym c.new-path.ensures.items)) before;
}

pub returns-in-FromRoot : goal.returns-in-FromRoot
returns-in-FromRoot c =
    subst (PathOf c.args.entries.now c.args.last) (ap reverse (sym c.in_ok-extend_from_slice-in-FromRoot.ensures.items) ∙ sym c.reverse.ensures.items)
    (path_begun c.args.entries.now c.args.last c.loop-path.path.items c.loop-path.number _ c.in-FromRoot.field-0 (slice_get-get_or c.args.entries.now c.loop-path.number _ c.loop-path.invariant.inside) c.in-FromRoot.is c.loop-path.invariant.goes_on)

pub behind_parent-requires : goal.behind_parent-requires
behind_parent-requires c = (c.requires.earlier c.loop-path.number _ c.in-FromEntry.entry c.in-FromEntry.index (slice_get-get_or c.args.entries.now c.loop-path.number _ c.loop-path.invariant.inside) c.in-FromEntry.is).1

pub overflow_cast-number : goal.overflow_cast-number
overflow_cast-number c =
    let earlier = (c.requires.earlier c.loop-path.number _ c.in-FromEntry.entry c.in-FromEntry.index (slice_get-get_or c.args.entries.now c.loop-path.number _ c.loop-path.invariant.inside) c.in-FromEntry.is).0 in
    let fits = c.loop-path.auto.number-fits.fits in
    record { fits = omega (arith, earlier, fits) }

pub loop-path-smaller : goal.loop-path-smaller
loop-path-smaller c = (c.requires.earlier c.loop-path.number _ c.in-FromEntry.entry c.in-FromEntry.index (slice_get-get_or c.args.entries.now c.loop-path.number _ c.loop-path.invariant.inside) c.in-FromEntry.is).0

pub loop-path-preserved : goal.loop-path-preserved
loop-path-preserved c = record {
  inside =
      let earlier = (c.requires.earlier c.loop-path.number _ c.in-FromEntry.entry c.in-FromEntry.index (slice_get-get_or c.args.entries.now c.loop-path.number _ c.loop-path.invariant.inside) c.in-FromEntry.is).0 in
      let inside = c.loop-path.invariant.inside in
      omega (arith, earlier, inside);
  goes_on = λ front before.
      subst (λ (xs : List PathEntry). PathOf c.args.entries.now c.args.last (front ++ reverse xs))
      (ap (λ (y : PathEntry). c.loop-path.path.items ++ y ∷ []) (sym c.behind_parent.ensures) ∙ sym c.in_ok-extend_from_slice-in-FromEntry.ensures.items)
      (path_back c.args.entries.now c.args.last c.loop-path.path.items c.loop-path.number _ c.in-FromEntry.entry c.in-FromEntry.index (slice_get-get_or c.args.entries.now c.loop-path.number _ c.loop-path.invariant.inside) c.in-FromEntry.is c.loop-path.invariant.goes_on front before);
}
