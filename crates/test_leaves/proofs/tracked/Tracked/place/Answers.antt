use Rattle.std.proofs.Common.{arith, ◌≡◌, ◌≤◌, ◌+◌, ap, sym, ◌∙◌, Some, vec_len, vec_capacity, is_ok, true, option_map}
use Rattle.std.specs.List.{insert}
use Rattle.std.specs.Int.NonZero.{non_zero_u32_get}
use Rattle.std.proofs.lemmas.Bool.{cond-true}
use Rattle.gc_free.specs.Runs.{run, insert_run}
use Rattle.gc_free.specs.Orders.{count_below}
use Rattle.gc_free.specs.Space.{take}
use Rattle.gc_free.proofs.Holding.{from_held}
use Rattle.gc_free.proofs.ByLength.{place_of}
use Rattle.gc_free.proofs.InsertBy.{count_within, insert_at_count}
use Rattle.test_leaves.proofs.tracked.Tracked.place.Goals as goal

pub insert-requires : goal.insert-requires
insert-requires g c = rw (c.count_before-at.ensures, c.deref.ensures.value) (let le = count_within place_of c.get.result c.reserve.new.self.items in omega arith)

pub invariant_of-self-2 : goal.invariant_of-self-2
invariant_of-self-2 g c =
    let s = c.args.self.now.list.space in
    let p = c.get.result in
    let block = run p c.args.size in
    let xs = c.reserve.new.self.items in
    let own : xs ≡ s.held = c.reserve.ensures.items ∙ c.args.self.now.same in
    let place : Some p ≡ (take c.args.size s).place =
    ap (λ n. Some n) c.get.ensures.value ∙ sym (ap (option_map (λ x. non_zero_u32_get x)) c.in-Some.is) ∙ c.in_ok-place.ensures.place in
    let held : c.ask.new.list.space.held ≡ insert_run block s.held = ap (λ z. z.held) c.in_ok-place.ensures.after ∙ from_held c.args.size s s.current p place in
    let room : vec_len c.reserve.new.self + 1 ≤ vec_capacity c.reserve.new.self = c.in_ok-reserve.ensures.ok in
    let ok : is_ok c.insert.result ≡ true = c.insert.ensures.succeeds (omega arith) in
    let at : c.count_before-at.result ≡ count_below place_of p xs = c.count_before-at.ensures ∙ ap (count_below place_of p) c.deref.ensures.value in
    let put : c.insert.new.self.items ≡ insert_run block xs =
    c.insert.ensures.items ∙ cond-true (is_ok c.insert.result) (insert xs c.count_before-at.result block) xs ok ∙ ap (λ n. insert xs n block) at ∙ insert_at_count place_of block xs in
    record { same = put ∙ ap (insert_run block) own ∙ sym held }
