use Rattle.std.proofs.Common.{ℕ, List, ◌∙◌, Err, Ok, ap, arith}
use Rattle.gc_types.specs.declared.kind.Layouts.TheVariants.{Counting}
use Rattle.gc_types.specs.declared.kind.VMGcKind.{VMGcKind}
use Rattle.gc_refs.specs.Header.{IsOfKind}
use Rattle.gc_heap.specs.Making.{made, with_first_word}
use Rattle.gc_heap.proofs.MakingLemmas.{made_kind, made_least, word_fits}
use Rattle.gc_drc.specs.Placing.{PlacesBlock}
use Rattle.gc_drc.proofs.MakeLemmas.{Makes, kept_sound}
use Rattle.gc_drc.proofs.ObjectLemmas.{front_room, lacks_room, makes_made, not_made, not_made_sound}
use Rattle.gc_drc.proofs.space.CountedSpace.allocate_counted.Goals as goal
use Rattle.gc_drc.proofs.space.CountedSpace.allocate_counted.Goals.{After-write, In-Ok-Ok, In-Ok-Err}

pub allocate_zeroed-requires-clause-least : goal.allocate_zeroed-requires-clause-least
allocate_zeroed-requires-clause-least c = made_least Counting c.args.header c.args.first c.args.size c.requires.can

placed : (c : In-Ok-Ok) → PlacesBlock c.args.self.now c.allocate_zeroed.new.self c.args.header c.args.size (Ok (Ok c.in-Ok-Ok.object))
placed c = rw c.in-Ok-Ok.field-0-is at c.in-Ok-Ok.ensures

pub write-requires : goal.write-requires
write-requires c =
    let p = placed (goal.at.write-requires c).In-Ok-Ok in
    let least = made_least Counting c.args.header c.args.first c.args.size c.requires.can in
    let inside = word_fits Counting c.args.header c.args.first c.args.size c.requires.can in
    let room = front_room c.args.self.now c.allocate_zeroed.new.self c.in-Ok-Ok.object c.args.size c.args.header c.requires.sound p.1 least in
    omega (arith, c.as_raw_u32.ensures.value)

makes : (c : After-write) (k : VMGcKind) → IsOfKind k c.args.header.kind_word
    → Makes c.args.self.now (record c.allocate_zeroed.new.self { memory = c.write.new.memory }) c.in-Ok-Ok.object c.args.size (made Counting k c.args.header c.args.first c.args.size)
makes c k is =
    let p = placed (goal.at.returns-in-Ok-Ok-clause-sound c).In-Ok-Ok in
    let m = c.allocate_zeroed.new.self in
    let written = ap (λ (x : List ℕ). record m { memory = x }) (c.write.ensures.written ∙ ap (λ (q : ℕ). with_first_word Counting m.memory q c.args.first) c.as_raw_u32.ensures.value) in
    makes_made c.args.self.now m (record m { memory = c.write.new.memory }) c.in-Ok-Ok.object c.args.size c.args.header c.args.first k c.requires.sound c.requires.can c.write.ensures.host p.0 p.1 written is

pub returns-in-Ok-Ok-clause-sound : goal.returns-in-Ok-Ok-clause-sound
returns-in-Ok-Ok-clause-sound c =
    let kind = made_kind Counting c.args.header c.args.first c.args.size c.requires.can in
    (makes c kind.0 kind.1).sound

pub returns-in-Ok-Ok-clause-allocated : goal.returns-in-Ok-Ok-clause-allocated
returns-in-Ok-Ok-clause-allocated c = λ scopes k is. (makes c k is).adds_object scopes

lacking : (c : In-Ok-Err) → PlacesBlock c.args.self.now c.allocate_zeroed.new.self c.args.header c.args.size (Ok (Err c.in-Ok-Err.need))
lacking c = rw c.in-Ok-Err.field-0-is at c.in-Ok-Err.ensures

pub returns-in-Ok-Err-clause-sound : goal.returns-in-Ok-Err-clause-sound
returns-in-Ok-Err-clause-sound c = kept_sound c.args.self.now c.allocate_zeroed.new.self c.requires.sound (lacking c).1.1.1

pub returns-in-Ok-Err-clause-allocated : goal.returns-in-Ok-Err-clause-allocated
returns-in-Ok-Err-clause-allocated c = λ scopes k is.
    let p = lacking c in
    let least = made_least Counting c.args.header c.args.first c.args.size c.requires.can in
    lacks_room c.args.self.now c.allocate_zeroed.new.self c.args.size c.in-Ok-Err.need scopes c.requires.sound (omega arith) p.0 p.1.0 p.1.1.0 p.1.1.1

pub returns-in-Err-clause-sound : goal.returns-in-Err-clause-sound
returns-in-Err-clause-sound c = not_made_sound c.args.self.now c.allocate_zeroed.new.self c.args.header c.args.size c.in-Err.fault c.requires.sound c.in-Err.ensures

pub returns-in-Err-clause-allocated : goal.returns-in-Err-clause-allocated
returns-in-Err-clause-allocated c = λ scopes k is.
    not_made c.args.self.now c.allocate_zeroed.new.self c.args.header (made Counting k c.args.header c.args.first c.args.size) c.args.size scopes c.in-Err.fault c.in-Err.ensures
