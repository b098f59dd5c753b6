use Rattle.std.proofs.Common.{◌+◌, [], ◌∷◌, take, drop, sym, subst}
use Rattle.gc_model.specs.SideValues.{SideValues}
use Rattle.gc_values.specs.Interning.{CanInternAll, InternsAll, KeepsRooms, ids_of}
use Rattle.gc_values.specs.RawValues.{raw_side_values}
use Rattle.gc_values.proofs.GivenValues.{raw-more, raw-split}
use Rattle.gc_values.proofs.InterningLemmas.{can_next_all, interns_none_all, interns_more_all, keeps_none_all, keeps_more_all}
use Rattle.gc_values.proofs.interned.intern_all.Goals as goal

pub loop-value-init : goal.loop-value-init
loop-value-init c = record { interns = interns_none_all (ids_of c.args.interned.now); room = keeps_none_all c.args.interned.now }

pub intern_value-requires : goal.intern_value-requires
intern_value-requires c =
    let before : SideValues = raw_side_values (take c.loop-value.value-index c.args.values.now) in
    let this : SideValues = raw_side_values (c.value-item.result ∷ []) in
    let behind : SideValues = raw_side_values (drop (c.loop-value.value-index + 1) c.args.values.now) in
    can_next_all c.args.interned.now c.loop-value.interned before this behind
    (subst (CanInternAll c.args.interned.now) (raw-split c.args.values.now c.loop-value.value-index c.value-item.result c.loop-value-test.true c.value-item.is) c.requires)
    c.loop-value.invariant.interns c.loop-value.invariant.room

pub loop-value-preserved : goal.loop-value-preserved
loop-value-preserved c =
    let before : SideValues = raw_side_values (take c.loop-value.value-index c.args.values.now) in
    let this : SideValues = raw_side_values (c.value-item.result ∷ []) in
    let more = sym (raw-more c.args.values.now c.loop-value.value-index c.value-item.result c.loop-value-test.true c.value-item.is) in
    record {
      interns = subst (InternsAll (ids_of c.args.interned.now) (ids_of c.intern_value.new.interned)) more
          (interns_more_all (ids_of c.args.interned.now) (ids_of c.loop-value.interned) (ids_of c.intern_value.new.interned) before this c.loop-value.invariant.interns c.intern_value.ensures.interns);
      room = subst (KeepsRooms c.args.interned.now c.intern_value.new.interned) more
          (keeps_more_all c.args.interned.now c.loop-value.interned c.intern_value.new.interned before this c.loop-value.invariant.interns c.loop-value.invariant.room c.intern_value.ensures.room);
    }
