use Rattle.std.proofs.Common.{◌∙◌, subst, arith}
use Rattle.gc_model.specs.Values.{small}
use Rattle.gc_model.specs.Stores.{StoreView}
use Rattle.gc_store.specs.Roots.{IsRootWord}
use Rattle.gc_store.proofs.store.Store.push_i31.Goals as goal

pub push_root-requires : goal.push_root-requires
push_root-requires g c =
    subst (λ (s : StoreView g.row.D.Denot). IsRootWord g.row.D.Denot g.H.GcHeap.KIND s c.as_raw_u32.result) c.self.view_is
    (record {
      table = c.self.invariant.table;
      place = c.self.invariant.holds.place;
      holds = c.self.invariant.holds.holds;
      root = small c.args.value;
      is_word = c.as_raw_u32.ensures.value ∙ c.from_i31.ensures;
      not_null = omega (arith, c.as_raw_u32.ensures.value, c.from_i31.ensures);
    })
