use Rattle.std.proofs.Common.{sym, ap, ◌∙◌, refl, subst}
use Rattle.gc_model.specs.Values.{at}
use Rattle.gc_values.specs.declared.root.GcRootIndex.{GcRootIndex}
use Rattle.gc_store.specs.Roots.{is_of_store, NamesReference}
use Rattle.gc_objects.proofs.marks.ExternRef.data_mut.Goals as goal

pub returns : goal.returns
returns g c =
    let same = c.root_index.ensures in (
      (
        refl,
        λ w ok.
            let ends = c.host_data_mut.follows.holds w ok in (
              ends.0,
              (ends.1.0, λ t a p old holds named host. ends.1.1 t a p old holds (subst (λ (h : GcRootIndex). NamesReference c.args.store.now t h (at p)) (sym same) named) host),
            ),
        c.host_data_mut.follows.holds-at-none,
      ),
      record {
        writes_back = tt;
        wrong_store = λ other. c.host_data_mut.ensures.wrong_store (ap (is_of_store c.args.store.now) same ∙ other);
        live = λ t r holds named. c.host_data_mut.ensures.live t r holds (subst (λ (h : GcRootIndex). NamesReference c.args.store.now t h r) (sym same) named);
        gone = λ own t holds none. c.host_data_mut.ensures.gone (ap (is_of_store c.args.store.now) same ∙ own) t holds (λ r named. none r (subst (λ (h : GcRootIndex). NamesReference c.args.store.now t h r) same named));
      },
    )
