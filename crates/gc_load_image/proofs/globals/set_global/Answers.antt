use Rattle.std.proofs.Common.{◌<◌, ℕ, length, ap, ◌∙◌, subst, arith}
use Rattle.std.specs.List.{slice_get}
use Rattle.gc_model.specs.Globals.{set_global}
use Rattle.gc_model.specs.Values.{Reference}
use Rattle.gc_store.specs.Slots.{SetsSlot}
use Rattle.gc_image.proofs.ElementLemmas.{item_found}
use Rattle.gc_load_image.specs.Stages.{with_globals}
use Rattle.gc_load_image.proofs.GlobalLemmas.{must_be_reference, one_set, slot_there}
use Rattle.gc_load_image.proofs.PushedRoots.{same_itself}
use Rattle.gc_load_image.proofs.globals.set_global.Goals as goal

pub returns-in-Ref-clause-sets : goal.returns-in-Ref-clause-sets
returns-in-Ref-clause-sets g c t a stand set =
    let here = item_found c.args.globals.now c.args.i c.index-globals-i.result c.requires.inside c.index-globals-i.is in
    let within : c.args.i < length c.args.held.now = (let inside = c.requires.inside in let all = c.requires.all in omega (arith, inside, all)) in
    let given = item_found c.args.held.now c.args.i c.index-held-i.result within c.index-held-i.is in
    let slot = slot_there g.H.GcHeap.KIND c.args.globals.now c.args.held.now c.args.i c.requires.slots c.requires.rising c.args.store.now c.global_set-set.new.self t a stand set c.index-globals-i.result here c.index-held-i.result given in
    let sets = c.global_set-set.ensures.sets (with_globals set.slots t) a slot.0 set.holds (ap (slice_get set.slots) c.from.ensures ∙ slot.1) in
    one_set g.H.GcHeap.KIND c.args.globals.now c.args.held.now c.args.i c.requires.slots c.requires.rising c.args.store.now c.global_set-set.new.self t a stand set c.index-globals-i.result here c.index-held-i.result given
    c.in-Ref.class c.in-Ref.handle c.global_set-set.result c.in-Ref.is
    (subst (λ (n : ℕ). SetsSlot g.H.GcHeap.KIND c.args.store.now (with_globals set.slots t) a c.in-Ref.handle (λ (named : Reference). set_global n c.in-Ref.class named (with_globals set.slots t)) c.global_set-set.result c.global_set-set.new.self) c.from.ensures sets)

pub returns-in_default : goal.returns-in_default
returns-in_default g c = record {
  sets = λ t a stand set.
      let here = item_found c.args.globals.now c.args.i c.index-globals-i.result c.requires.inside c.index-globals-i.is in
      let within : c.args.i < length c.args.held.now = (let inside = c.requires.inside in let all = c.requires.all in omega (arith, inside, all)) in
      let given = item_found c.args.held.now c.args.i c.index-held-i.result within c.index-held-i.is in
      absurd (must_be_reference g.H.GcHeap.KIND c.args.globals.now c.args.held.now c.args.i c.requires.slots c.requires.rising c.args.store.now c.args.store.now t a stand set c.index-globals-i.result here c.index-held-i.result given c.in_default.not-Ref);
  same = same_itself c.args.store.now;
}
