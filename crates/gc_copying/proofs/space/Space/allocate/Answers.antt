use Rattle.std.proofs.Common.{ℕ, List, ◌+◌, ◌≤◌, ◌∙◌, length, refl, ap, ap₂, arith}
use Rattle.gc_types.specs.declared.kind.Layouts.TheVariants.{Copying}
use Rattle.gc_types.specs.declared.kind.VMGcKind.{VMGcKind}
use Rattle.gc_refs.specs.Header.{IsOfKind}
use Rattle.gc_heap.specs.Making.{made, with_first_word, word_end}
use Rattle.gc_heap.proofs.MakingLemmas.{made_kind, made_least, with_word-length, word_fits}
use Rattle.gc_copying.specs.Linking.{with_link}
use Rattle.gc_copying.specs.Placing.{CanPlaceBehind}
use Rattle.gc_copying.specs.States.{copying_seen_in}
use Rattle.gc_copying.proofs.MakeLemmas.{can_place, lacks_room, link_fits, makes_made, MakesObject}
use Rattle.gc_copying.proofs.space.Space.allocate.Goals as goal
use Rattle.gc_copying.proofs.space.Space.allocate.Goals.{In-Fits, After-write_object-object, After-link_external}

placeable : (c : In-Fits) → CanPlaceBehind c.args.self.now.memory c.args.self.now.bump c.args.self.now.objects c.in-Fits.block
placeable c =
    let s = c.args.self.now in
    let least = made_least Copying c.args.header c.args.first c.args.size c.requires.can in
    can_place s.memory s.upper s.bump s.externals s.objects 0 c.args.size c.in-Fits.block c.requires.sound (omega arith) (c.in-Fits.ensures 0)

-- the new object's first word lies in the memory
word_in : (c : After-write_object-object) → c.write_object-object.result + word_end Copying c.args.first ≤ length c.write_object-object.new.self.memory
word_in c =
    let s = c.args.self.now in
    let least = made_least Copying c.args.header c.args.first c.args.size c.requires.can in
    let can = can_place s.memory s.upper s.bump s.externals s.objects 0 c.args.size c.in-Fits.block c.requires.sound (omega arith) (c.in-Fits.ensures 0) in
    let rounded = (c.in-Fits.ensures 0).1.1 in
    let inside = word_fits Copying c.args.header c.args.first c.args.size c.requires.can in
    let len = c.write_object-object.ensures.block.around.same_length in
    omega (arith, can.room, c.write_object-object.ensures.place)

pub room-requires-clause-positive : goal.room-requires-clause-positive
room-requires-clause-positive c = let least = made_least Copying c.args.header c.args.first c.args.size c.requires.can in omega arith

pub write_object-object-requires : goal.write_object-object-requires
write_object-object-requires c = placeable (goal.at.write_object-object-requires c).In-Fits

pub write-requires : goal.write-requires
write-requires c =
    let inside = word_in (goal.at.write-requires c).After-write_object-object in
    omega (arith, c.as_raw_u32-place.ensures.value)

pub link_external-requires : goal.link_external-requires
link_external-requires c =
    let can = placeable (goal.at.link_external-requires c).In-Fits in
    let rounded = (c.in-Fits.ensures 0).1.1 in
    let inside = word_in (goal.at.link_external-requires c).After-write_object-object in
    let value = c.as_raw_u32-place.ensures.value in
    let here : c.as_raw_u32-place.result + word_end Copying c.args.first ≤ length c.write_object-object.new.self.memory = omega arith in
    let link = link_fits c.args.header c.args.first c.args.size c.requires.can in
    let len = c.write_object-object.ensures.block.around.same_length in
    let same = ap length c.write.ensures.written ∙ with_word-length Copying c.write_object-object.new.self.memory c.as_raw_u32-place.result c.args.first here in
    omega (arith, can.room, c.write_object-object.ensures.place)

makes : (c : After-link_external) (k : VMGcKind) → IsOfKind k c.args.header.kind_word
    → MakesObject c.args.self.now c.link_external.new.self c.write_object-object.result (made Copying k c.args.header c.args.first c.args.size) c.args.size
makes c k is =
    let mid = c.write_object-object.new.self in
    let value = c.as_raw_u32-place.ensures.value in
    let linked = c.link_external.ensures
    ∙ ap₂ (λ (m : List ℕ) (p : ℕ). with_link (record mid { memory = m }) p c.args.first) (c.write.ensures.written ∙ ap (λ (p : ℕ). with_first_word Copying mid.memory p c.args.first) value) value in
    makes_made c.args.self.now mid c.link_external.new.self c.write_object-object.result c.in-Fits.block c.args.size c.args.header c.args.first k c.requires.sound c.requires.can c.write.ensures.host
    c.in-Fits.ensures c.write_object-object.ensures.block c.write_object-object.ensures.moved linked c.write_object-object.ensures.place is

pub returns-in-Fits-clause-sound : goal.returns-in-Fits-clause-sound
returns-in-Fits-clause-sound c =
    let kind = made_kind Copying c.args.header c.args.first c.args.size c.requires.can in
    (makes c kind.0 kind.1).sound

pub returns-in-Fits-clause-allocated : goal.returns-in-Fits-clause-allocated
returns-in-Fits-clause-allocated c = λ scopes k is. (makes c k is).adds_object scopes

pub returns-in-Lacks-clause-allocated : goal.returns-in-Lacks-clause-allocated
returns-in-Lacks-clause-allocated c = λ scopes k is. lacks_room (copying_seen_in scopes c.args.self.now) c.args.size c.in-Lacks.need (c.in-Lacks.ensures scopes)

pub returns-in-TooLarge-clause-allocated : goal.returns-in-TooLarge-clause-allocated
returns-in-TooLarge-clause-allocated c = λ scopes k is. (c.in-TooLarge.ensures scopes, refl)
