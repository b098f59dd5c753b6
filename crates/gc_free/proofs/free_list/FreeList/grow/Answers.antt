use Rattle.std.proofs.Common.{arith, ◌≤◌, ◌<◌, ◌≡◌, ◌+◌, ◌-◌, ◌^◌, min, max, ap, sym, ◌∙◌, Some, None}
use Rattle.gc_free.specs.Runs.{gap}
use Rattle.gc_free.specs.Space.{Space, places_end, first_of_runs}
use Rattle.gc_free.proofs.Keeping.{grow_kept_at, idle_kept, gap_empty, merge_all_some}
use Rattle.gc_free.proofs.free_list.FreeList.grow.Goals as goal

pub invariant_of-self : goal.invariant_of-self
invariant_of-self g c =
    let s : Space = record { capacity = c.self.inside.capacity; held = c.self.inside.held.blocks; current = c.self.inside.current } in
    let capacity = c.saturating_add-self-inside.result in
    let is : capacity ≡ min (c.self.inside.capacity + c.args.additional) (2 ^ 64 - 1) = c.saturating_add-self-inside.ensures in
    let old : s.capacity < 2 ^ 64 = c.self.invariant.sound.fits in
    let up : s.capacity ≤ capacity = omega arith in
    let fits : capacity < 2 ^ 64 = omega arith in
    let from : c.max-from.result ≡ max 16 (places_end s.capacity) = c.max-from.ensures ∙ ap (max 16) c.places_end.ensures in
    let to : c.places_end-2.result ≡ places_end capacity = c.places_end-2.ensures in
    let first : first_of_runs (gap (max 16 (places_end s.capacity)) (places_end capacity)) ≡ None =
    ap (λ n. first_of_runs (gap n (places_end capacity))) (sym from) ∙ ap (λ n. first_of_runs (gap c.max-from.result n)) (sym to) ∙ sym c.run_between.ensures ∙ c.in_default.is in
    let k = idle_kept s capacity c.self.inside.others.runs c.self.inside.others.room c.self.inside.blocks c.self.invariant up fits (gap_empty (max 16 (places_end s.capacity)) (places_end capacity) first) in
    k

pub returns-in_default-clause-sound : goal.returns-in_default-clause-sound
returns-in_default-clause-sound g c =
    let s : Space = record { capacity = c.self.inside.capacity; held = c.self.inside.held.blocks; current = c.self.inside.current } in
    let capacity = c.saturating_add-self-inside.result in
    let is : capacity ≡ min (c.self.inside.capacity + c.args.additional) (2 ^ 64 - 1) = c.saturating_add-self-inside.ensures in
    let old : s.capacity < 2 ^ 64 = c.self.invariant.sound.fits in
    let up : s.capacity ≤ capacity = omega arith in
    let fits : capacity < 2 ^ 64 = omega arith in
    let from : c.max-from.result ≡ max 16 (places_end s.capacity) = c.max-from.ensures ∙ ap (max 16) c.places_end.ensures in
    let to : c.places_end-2.result ≡ places_end capacity = c.places_end-2.ensures in
    let first : first_of_runs (gap (max 16 (places_end s.capacity)) (places_end capacity)) ≡ None =
    ap (λ n. first_of_runs (gap n (places_end capacity))) (sym from) ∙ ap (λ n. first_of_runs (gap c.max-from.result n)) (sym to) ∙ sym c.run_between.ensures ∙ c.in_default.is in
    let k = idle_kept s capacity c.self.inside.others.runs c.self.inside.others.room c.self.inside.blocks c.self.invariant up fits (gap_empty (max 16 (places_end s.capacity)) (places_end capacity) first) in
    k.sound

pub set_free-self-inside-requires-clause-current_fits : goal.set_free-self-inside-requires-clause-current_fits
set_free-self-inside-requires-clause-current_fits g c =
    let s : Space = record { capacity = c.self.inside.capacity; held = c.self.inside.held.blocks; current = c.self.inside.current } in
    let capacity = c.saturating_add-self-inside.result in
    let is : capacity ≡ min (c.self.inside.capacity + c.args.additional) (2 ^ 64 - 1) = c.saturating_add-self-inside.ensures in
    let old : s.capacity < 2 ^ 64 = c.self.invariant.sound.fits in
    let up : s.capacity ≤ capacity = omega arith in
    let fits : capacity < 2 ^ 64 = omega arith in
    let from : c.max-from.result ≡ max 16 (places_end s.capacity) = c.max-from.ensures ∙ ap (max 16) c.places_end.ensures in
    let to : c.places_end-2.result ≡ places_end capacity = c.places_end-2.ensures in
    let first : first_of_runs (gap (max 16 (places_end s.capacity)) (places_end capacity)) ≡ Some c.in-Some.places =
    ap (λ n. first_of_runs (gap n (places_end capacity))) (sym from) ∙ ap (λ n. first_of_runs (gap c.max-from.result n)) (sym to) ∙ sym c.run_between.ensures ∙ c.in-Some.is in
    let k = grow_kept_at s capacity c.self.inside.others.runs c.self.inside.others.room c.self.inside.blocks c.in-Some.places c.self.invariant up fits first in
    k.current_fits

pub set_free-self-inside-requires-clause-after_fits : goal.set_free-self-inside-requires-clause-after_fits
set_free-self-inside-requires-clause-after_fits g c =
    let s : Space = record { capacity = c.self.inside.capacity; held = c.self.inside.held.blocks; current = c.self.inside.current } in
    let capacity = c.saturating_add-self-inside.result in
    let is : capacity ≡ min (c.self.inside.capacity + c.args.additional) (2 ^ 64 - 1) = c.saturating_add-self-inside.ensures in
    let old : s.capacity < 2 ^ 64 = c.self.invariant.sound.fits in
    let up : s.capacity ≤ capacity = omega arith in
    let fits : capacity < 2 ^ 64 = omega arith in
    let from : c.max-from.result ≡ max 16 (places_end s.capacity) = c.max-from.ensures ∙ ap (max 16) c.places_end.ensures in
    let to : c.places_end-2.result ≡ places_end capacity = c.places_end-2.ensures in
    let first : first_of_runs (gap (max 16 (places_end s.capacity)) (places_end capacity)) ≡ Some c.in-Some.places =
    ap (λ n. first_of_runs (gap n (places_end capacity))) (sym from) ∙ ap (λ n. first_of_runs (gap c.max-from.result n)) (sym to) ∙ sym c.run_between.ensures ∙ c.in-Some.is in
    let k = grow_kept_at s capacity c.self.inside.others.runs c.self.inside.others.room c.self.inside.blocks c.in-Some.places c.self.invariant up fits first in
    k.after_fits

pub set_free-self-inside-requires-clause-spread : goal.set_free-self-inside-requires-clause-spread
set_free-self-inside-requires-clause-spread g c =
    let s : Space = record { capacity = c.self.inside.capacity; held = c.self.inside.held.blocks; current = c.self.inside.current } in
    let capacity = c.saturating_add-self-inside.result in
    let is : capacity ≡ min (c.self.inside.capacity + c.args.additional) (2 ^ 64 - 1) = c.saturating_add-self-inside.ensures in
    let old : s.capacity < 2 ^ 64 = c.self.invariant.sound.fits in
    let up : s.capacity ≤ capacity = omega arith in
    let fits : capacity < 2 ^ 64 = omega arith in
    let from : c.max-from.result ≡ max 16 (places_end s.capacity) = c.max-from.ensures ∙ ap (max 16) c.places_end.ensures in
    let to : c.places_end-2.result ≡ places_end capacity = c.places_end-2.ensures in
    let first : first_of_runs (gap (max 16 (places_end s.capacity)) (places_end capacity)) ≡ Some c.in-Some.places =
    ap (λ n. first_of_runs (gap n (places_end capacity))) (sym from) ∙ ap (λ n. first_of_runs (gap c.max-from.result n)) (sym to) ∙ sym c.run_between.ensures ∙ c.in-Some.is in
    let k = grow_kept_at s capacity c.self.inside.others.runs c.self.inside.others.room c.self.inside.blocks c.in-Some.places c.self.invariant up fits first in
    k.spread

pub set_free-self-inside-requires-clause-room : goal.set_free-self-inside-requires-clause-room
set_free-self-inside-requires-clause-room g c =
    let s : Space = record { capacity = c.self.inside.capacity; held = c.self.inside.held.blocks; current = c.self.inside.current } in
    let capacity = c.saturating_add-self-inside.result in
    let is : capacity ≡ min (c.self.inside.capacity + c.args.additional) (2 ^ 64 - 1) = c.saturating_add-self-inside.ensures in
    let old : s.capacity < 2 ^ 64 = c.self.invariant.sound.fits in
    let up : s.capacity ≤ capacity = omega arith in
    let fits : capacity < 2 ^ 64 = omega arith in
    let from : c.max-from.result ≡ max 16 (places_end s.capacity) = c.max-from.ensures ∙ ap (max 16) c.places_end.ensures in
    let to : c.places_end-2.result ≡ places_end capacity = c.places_end-2.ensures in
    let first : first_of_runs (gap (max 16 (places_end s.capacity)) (places_end capacity)) ≡ Some c.in-Some.places =
    ap (λ n. first_of_runs (gap n (places_end capacity))) (sym from) ∙ ap (λ n. first_of_runs (gap c.max-from.result n)) (sym to) ∙ sym c.run_between.ensures ∙ c.in-Some.is in
    let k = grow_kept_at s capacity c.self.inside.others.runs c.self.inside.others.room c.self.inside.blocks c.in-Some.places c.self.invariant up fits first in
    k.has_room

pub invariant_of-self-2 : goal.invariant_of-self-2
invariant_of-self-2 g c =
    let s : Space = record { capacity = c.self.inside.capacity; held = c.self.inside.held.blocks; current = c.self.inside.current } in
    let capacity = c.saturating_add-self-inside.result in
    let is : capacity ≡ min (c.self.inside.capacity + c.args.additional) (2 ^ 64 - 1) = c.saturating_add-self-inside.ensures in
    let old : s.capacity < 2 ^ 64 = c.self.invariant.sound.fits in
    let up : s.capacity ≤ capacity = omega arith in
    let fits : capacity < 2 ^ 64 = omega arith in
    let from : c.max-from.result ≡ max 16 (places_end s.capacity) = c.max-from.ensures ∙ ap (max 16) c.places_end.ensures in
    let to : c.places_end-2.result ≡ places_end capacity = c.places_end-2.ensures in
    let first : first_of_runs (gap (max 16 (places_end s.capacity)) (places_end capacity)) ≡ Some c.in-Some.places =
    ap (λ n. first_of_runs (gap n (places_end capacity))) (sym from) ∙ ap (λ n. first_of_runs (gap c.max-from.result n)) (sym to) ∙ sym c.run_between.ensures ∙ c.in-Some.is in
    let k = grow_kept_at s capacity c.self.inside.others.runs c.self.inside.others.room c.self.inside.blocks c.in-Some.places c.self.invariant up fits first in
    rw (c.set_free-self-inside.ensures.current, c.set_free-self-inside.ensures.others, k.current_is) (k.kept c.set_free-self-inside.new.others.room c.set_free-self-inside.ensures.room)

pub returns-clause-grown : goal.returns-clause-grown
returns-clause-grown g c =
    let s : Space = record { capacity = c.self.inside.capacity; held = c.self.inside.held.blocks; current = c.self.inside.current } in
    let capacity = c.saturating_add-self-inside.result in
    let is : capacity ≡ min (c.self.inside.capacity + c.args.additional) (2 ^ 64 - 1) = c.saturating_add-self-inside.ensures in
    let old : s.capacity < 2 ^ 64 = c.self.invariant.sound.fits in
    let up : s.capacity ≤ capacity = omega arith in
    let fits : capacity < 2 ^ 64 = omega arith in
    let from : c.max-from.result ≡ max 16 (places_end s.capacity) = c.max-from.ensures ∙ ap (max 16) c.places_end.ensures in
    let to : c.places_end-2.result ≡ places_end capacity = c.places_end-2.ensures in
    let first : first_of_runs (gap (max 16 (places_end s.capacity)) (places_end capacity)) ≡ Some c.in-Some.places =
    ap (λ n. first_of_runs (gap n (places_end capacity))) (sym from) ∙ ap (λ n. first_of_runs (gap c.max-from.result n)) (sym to) ∙ sym c.run_between.ensures ∙ c.in-Some.is in
    let k = grow_kept_at s capacity c.self.inside.others.runs c.self.inside.others.room c.self.inside.blocks c.in-Some.places c.self.invariant up fits first in
    rw (← c.self.view_is, c.set_free-self-inside.ensures.current, k.current_is, ← is) (sym (merge_all_some (max 16 (places_end s.capacity)) (places_end capacity) _ c.in-Some.places first))

pub returns-clause-sound : goal.returns-clause-sound
returns-clause-sound g c =
    let s : Space = record { capacity = c.self.inside.capacity; held = c.self.inside.held.blocks; current = c.self.inside.current } in
    let capacity = c.saturating_add-self-inside.result in
    let is : capacity ≡ min (c.self.inside.capacity + c.args.additional) (2 ^ 64 - 1) = c.saturating_add-self-inside.ensures in
    let old : s.capacity < 2 ^ 64 = c.self.invariant.sound.fits in
    let up : s.capacity ≤ capacity = omega arith in
    let fits : capacity < 2 ^ 64 = omega arith in
    let from : c.max-from.result ≡ max 16 (places_end s.capacity) = c.max-from.ensures ∙ ap (max 16) c.places_end.ensures in
    let to : c.places_end-2.result ≡ places_end capacity = c.places_end-2.ensures in
    let first : first_of_runs (gap (max 16 (places_end s.capacity)) (places_end capacity)) ≡ Some c.in-Some.places =
    ap (λ n. first_of_runs (gap n (places_end capacity))) (sym from) ∙ ap (λ n. first_of_runs (gap c.max-from.result n)) (sym to) ∙ sym c.run_between.ensures ∙ c.in-Some.is in
    let k = grow_kept_at s capacity c.self.inside.others.runs c.self.inside.others.room c.self.inside.blocks c.in-Some.places c.self.invariant up fits first in
    rw (c.set_free-self-inside.ensures.current, k.current_is) (k.kept c.self.inside.others.room (omega arith)).sound
