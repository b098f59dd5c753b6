use Rattle.std.proofs.Common.{◌≡◌, ◌∙◌, sym, subst, Some}
use Rattle.std.specs.FinMap as finite
use Rattle.gc_types.specs.declared.kind.Layouts.TheVariants.{Counting}
use Rattle.gc_view.specs.Heaps.{HeapObject}
use Rattle.gc_heap.specs.Heap.{given_back, CanGiveBack, IsArrayKind}
use Rattle.gc_drc.specs.Content.{counting_seen_in}
use Rattle.gc_drc.specs.States.{counting_seen_of, IsCountingBacked}
use Rattle.gc_drc.proofs.BackingLemmas.{nothing_held}
use Rattle.gc_drc.proofs.heap.DrcHeapGcHeap.dealloc_uninit_array.Goals as goal
use Rattle.gc_drc.specs.Giving.{IsUnlisted, GivesBack}
use Rattle.gc_drc.proofs.GiveLemmas.{can_give}

pub unreachable-requires : goal.unreachable-requires
unreachable-requires c =
    let h = c.args.self.now in
    nothing_held h.scopes h.backing c.args.array c.requires.held.object c.in_default.not-Attached c.requires.held.held

pub give_back-requires : goal.give_back-requires
give_back-requires c =
    let h = c.args.self.now in
    subst (IsUnlisted c.in-Attached.space) (sym (c.as_raw_u32.ensures.value ∙ c.as_gc_ref.ensures))
    (can_give c.in-Attached.space h.scopes c.args.array (subst IsCountingBacked c.in-Attached.is c.requires.sound.backed)
    (subst (λ b. CanGiveBack (counting_seen_of h.scopes b) c.args.array IsArrayKind) c.in-Attached.is c.requires.held))

pub returns-clause-sound : goal.returns-clause-sound
returns-clause-sound c = record { backed = c.give_back.ensures.sound; scopes = c.requires.sound.scopes }

pub returns-clause-seen : goal.returns-clause-seen
returns-clause-seen c =
    let h = c.args.self.now in
    let gave = subst (λ x. GivesBack c.in-Attached.space c.give_back.new.self x) (c.as_raw_u32.ensures.value ∙ c.as_gc_ref.ensures) c.give_back.ensures in
    subst (λ b. (object : HeapObject) → finite.get (counting_seen_of h.scopes b).content c.args.array ≡ Some object → counting_seen_in h.scopes c.give_back.new.self ≡ given_back Counting (counting_seen_of h.scopes b) c.args.array object)
    (sym c.in-Attached.is) (gave.seen h.scopes)
