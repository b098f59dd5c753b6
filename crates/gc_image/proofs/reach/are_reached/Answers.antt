use Rattle.std.proofs.Common.{◌≡◌, ◌↔◌, ℕ, ◌<◌, ◌≤◌, Bool, IsTrue, List, length, true, Some, subst, arith, false}
use Rattle.std.proofs.lemmas.List.{length-replicate}
use Rattle.std.specs.List.{slice_get}
use Rattle.gc_image.specs.Steps.{FoundParts}
use Rattle.gc_image.proofs.ElementLemmas.{item_found}
use Rattle.gc_image.proofs.ReachLemmas.{walk_end, walk_more, walk_start}
use Rattle.gc_image.proofs.reach.are_reached.Goals as goal

pub loop-next-init : goal.loop-next-init
loop-next-init c = walk_start c.args.objects.now c.args.globals.now c.in_ok-found.found c.in_ok-found.ensures (length-replicate (length c.args.objects.now) false)

pub loop-next-preserved : goal.loop-next-preserved
loop-next-preserved c =
    let below : c.loop-next.next < length c.found.inside.numbers.items = omega arith in
    let inside : slice_get c.found.inside.numbers.items c.loop-next.next ≡ Some c.index-number.result.now = item_found c.found.inside.numbers.items c.loop-next.next c.index-number.result.now below c.index-number.ensures in
    let at = subst (λ (f : FoundParts). slice_get f.numbers c.loop-next.next ≡ Some c.index-number.result.now) c.found.view_is inside in
    walk_more c.args.objects.now c.args.globals.now c.loop-next.found c.find_named.new.found c.loop-next.next c.index-number.result.now at c.in_ok-find_named.ensures c.loop-next.invariant

pub returns : goal.returns
returns c =
    let end : length c.found.inside.numbers.items ≤ c.loop-next.next = omega arith in
    let over = subst (λ (f : FoundParts). length f.numbers ≤ c.loop-next.next) c.found.view_is end in
    let lent = subst (λ (m : List Bool). IsTrue c.are_all.result ↔ ((p : ℕ) → p < length m → slice_get m p ≡ Some true)) c.as_slice.ensures.value c.are_all.ensures in
    let told = subst (λ (f : FoundParts). IsTrue c.are_all.result ↔ ((p : ℕ) → p < length f.marked → slice_get f.marked p ≡ Some true)) c.found.view_is lent in
    walk_end c.args.objects.now c.args.globals.now c.loop-next.found c.loop-next.next c.are_all.result over c.loop-next.invariant told
