use Rattle.std.proofs.Common.{◌≡◌, ℕ, ◌+◌, ◌*◌, ◌<◌, List, length, position, nat_eq, true, false, refl, sym, ap, ◌∙◌, subst, arith}
use Rattle.gc_model.specs.Holds.{HoldsTable}
use Rattle.gc_model.specs.Table.{Table}
use Rattle.gc_model.specs.Values.{at, small}
use Rattle.gc_store.specs.Roots.{NamesNothing, NamesReference, is_of_store}
use Rattle.gc_values.specs.declared.root.RootFault.TheVariants as root
use Rattle.gc_paths.specs.declared.entry.PathEntry.{PathEntry}
use Rattle.gc_paths.specs.Targets.{AreEarlier, PathOf}
use Rattle.gc_paths.proofs.Growing.{same_itself}
use Rattle.gc_paths.proofs.Targeting.{refused_as, not_refused, number_within, nothing_pushed, never_odd, parents_earlier, leads, nowhere}
use Rattle.gc_paths.proofs.target.path_to.Goals as goal
use Rattle.gc_paths.proofs.target.path_to.Goals.{After-all_paths}

-- the handle's root isn't live
pub returns-in-Err-clause-wrong_store : goal.returns-in-Err-clause-wrong_store
returns-in-Err-clause-wrong_store g c others = refused_as c.in-Err.fault root.WrongStore c.refused.result c.refused.ensures (c.in-Err.ensures.wrong_store others)

pub returns-in-Err-clause-gone : goal.returns-in-Err-clause-gone
returns-in-Err-clause-gone g c own t holds nothing = refused_as c.in-Err.fault root.Unrooted c.refused.result c.refused.ensures (c.in-Err.ensures.gone own t holds nothing)

pub returns-in-Err-clause-number : goal.returns-in-Err-clause-number
returns-in-Err-clause-number g c t n holds named = absurd (c.in-Err.ensures.live t holds.0 (small n) holds.1 named)

pub returns-in-Err-clause-answers : goal.returns-in-Err-clause-answers
returns-in-Err-clause-answers g c t place a p there named = absurd (c.in-Err.ensures.live t place (at p) there.0 named)

pub returns-in-Err-clause-leaves : goal.returns-in-Err-clause-leaves
returns-in-Err-clause-leaves g c t place a there = nothing_pushed g.H.GcHeap.KIND c.args.store.now t place a there

pub returns-in-Err-clause-same : goal.returns-in-Err-clause-same
returns-in-Err-clause-same g c = same_itself c.args.store.now

-- its word is odd
pub returns-then-word-eq1-clause-wrong_store : goal.returns-then-word-eq1-clause-wrong_store
returns-then-word-eq1-clause-wrong_store g c others = absurd (not_refused c.in-Ok.word root.WrongStore (c.in-Ok.ensures.wrong_store others))

pub returns-then-word-eq1-clause-gone : goal.returns-then-word-eq1-clause-gone
returns-then-word-eq1-clause-gone g c own t holds nothing = absurd (not_refused c.in-Ok.word root.Unrooted (c.in-Ok.ensures.gone own t holds nothing))

pub returns-then-word-eq1-clause-number : goal.returns-then-word-eq1-clause-number
returns-then-word-eq1-clause-number g c t n holds named = refl

pub returns-then-word-eq1-clause-answers : goal.returns-then-word-eq1-clause-answers
returns-then-word-eq1-clause-answers g c t place a p there named =
    absurd (never_odd g.H.GcHeap.KIND c.args.store.now t place a there p c.in-Ok.word (c.in-Ok.ensures.live t place (at p) there.0 named) c.if-word-eq1.true)

pub returns-then-word-eq1-clause-leaves : goal.returns-then-word-eq1-clause-leaves
returns-then-word-eq1-clause-leaves g c t place a there = nothing_pushed g.H.GcHeap.KIND c.args.store.now t place a there

pub returns-then-word-eq1-clause-same : goal.returns-then-word-eq1-clause-same
returns-then-word-eq1-clause-same g c = same_itself c.args.store.now

-- it is an object's
never_wrong : (g : _) (c : After-all_paths g) → is_of_store c.args.store.now c.args.target ≡ false → ⊥
never_wrong g c others = not_refused c.in-Ok.word root.WrongStore (c.in-Ok.ensures.wrong_store others)

never_gone : (g : _) (c : After-all_paths g) → is_of_store c.args.store.now c.args.target ≡ true → (t : Table g.row.D.Denot) → HoldsTable g.H.GcHeap.KIND c.args.store.now t → NamesNothing c.args.store.now t c.args.target → ⊥
never_gone g c own t holds nothing = not_refused c.in-Ok.word root.Unrooted (c.in-Ok.ensures.gone own t holds nothing)

never_number : (g : _) (c : After-all_paths g) (t : Table g.row.D.Denot) (n : ℕ) → HoldsTable g.H.GcHeap.KIND c.args.store.now t → NamesReference c.args.store.now t c.args.target (small n) → ⊥
never_number g c t n holds named = let is : c.in-Ok.word ≡ 2 * n + 1 = c.in-Ok.ensures.live t holds.0 (small n) holds.1 named in c.if-word-eq1.false (omega (arith, is))

pub returns-in-Err-all_paths-clause-wrong_store : goal.returns-in-Err-all_paths-clause-wrong_store
returns-in-Err-all_paths-clause-wrong_store g c others = absurd (never_wrong g (goal.at.returns-in-Err-all_paths-clause-wrong_store g c).After-all_paths others)

pub returns-in-Err-all_paths-clause-gone : goal.returns-in-Err-all_paths-clause-gone
returns-in-Err-all_paths-clause-gone g c own t holds nothing = absurd (never_gone g (goal.at.returns-in-Err-all_paths-clause-gone g c).After-all_paths own t holds nothing)

pub returns-in-Err-all_paths-clause-number : goal.returns-in-Err-all_paths-clause-number
returns-in-Err-all_paths-clause-number g c t n holds named = absurd (never_number g (goal.at.returns-in-Err-all_paths-clause-number g c).After-all_paths t n holds named)

pub returns-in-Err-all_paths-clause-answers : goal.returns-in-Err-all_paths-clause-answers
returns-in-Err-all_paths-clause-answers g c t place a p there named = c.in-Err-all_paths.ensures.answers t place a there

pub returns-in-Err-all_paths-clause-leaves : goal.returns-in-Err-all_paths-clause-leaves
returns-in-Err-all_paths-clause-leaves g c t place a there = c.all_paths.ensures.leaves t place a there

pub returns-in-Err-all_paths-clause-same : goal.returns-in-Err-all_paths-clause-same
returns-in-Err-all_paths-clause-same g c = c.all_paths.ensures.same

pub returns-in-Ok-path_in-clause-wrong_store : goal.returns-in-Ok-path_in-clause-wrong_store
returns-in-Ok-path_in-clause-wrong_store g c others = absurd (never_wrong g (goal.at.returns-in-Ok-path_in-clause-wrong_store g c).After-all_paths others)

pub returns-in-Ok-path_in-clause-gone : goal.returns-in-Ok-path_in-clause-gone
returns-in-Ok-path_in-clause-gone g c own t holds nothing = absurd (never_gone g (goal.at.returns-in-Ok-path_in-clause-gone g c).After-all_paths own t holds nothing)

pub returns-in-Ok-path_in-clause-number : goal.returns-in-Ok-path_in-clause-number
returns-in-Ok-path_in-clause-number g c t n holds named = absurd (never_number g (goal.at.returns-in-Ok-path_in-clause-number g c).After-all_paths t n holds named)

pub returns-in-Ok-path_in-clause-answers : goal.returns-in-Ok-path_in-clause-answers
returns-in-Ok-path_in-clause-answers g c t place a p there named =
    leads g.H.GcHeap.KIND c.args.store.now t place a there c.in-Ok-all_paths.entries.items (c.in-Ok-all_paths.ensures.answers t place a there) p c.in-Ok.word (c.in-Ok.ensures.live t place (at p) there.0 named)
    c.in-Some.last c.in-Ok-path_in.path.items (ap (λ (es : List PathEntry). position (λ (e : PathEntry). nat_eq e.word c.in-Ok.word) es) (sym c.deref.ensures.value) ∙ sym c.number_of.ensures ∙ c.in-Some.is)
    (subst (λ (es : List PathEntry). PathOf es c.in-Some.last c.in-Ok-path_in.path.items) c.deref-in-Some.ensures.value c.in-Ok-path_in.ensures)

pub returns-in-Ok-path_in-clause-leaves : goal.returns-in-Ok-path_in-clause-leaves
returns-in-Ok-path_in-clause-leaves g c t place a there = c.all_paths.ensures.leaves t place a there

pub returns-in-Ok-path_in-clause-same : goal.returns-in-Ok-path_in-clause-same
returns-in-Ok-path_in-clause-same g c = c.all_paths.ensures.same

pub returns-in-Some-clause-wrong_store : goal.returns-in-Some-clause-wrong_store
returns-in-Some-clause-wrong_store g c others = absurd (never_wrong g (goal.at.returns-in-Some-clause-wrong_store g c).After-all_paths others)

pub returns-in-Some-clause-gone : goal.returns-in-Some-clause-gone
returns-in-Some-clause-gone g c own t holds nothing = absurd (never_gone g (goal.at.returns-in-Some-clause-gone g c).After-all_paths own t holds nothing)

pub returns-in-Some-clause-number : goal.returns-in-Some-clause-number
returns-in-Some-clause-number g c t n holds named = absurd (never_number g (goal.at.returns-in-Some-clause-number g c).After-all_paths t n holds named)

pub returns-in-Some-clause-leaves : goal.returns-in-Some-clause-leaves
returns-in-Some-clause-leaves g c t place a there = c.all_paths.ensures.leaves t place a there

pub returns-in-Some-clause-same : goal.returns-in-Some-clause-same
returns-in-Some-clause-same g c = c.all_paths.ensures.same

pub returns-clause-wrong_store : goal.returns-clause-wrong_store
returns-clause-wrong_store g c others = absurd (never_wrong g (goal.at.returns-clause-wrong_store g c).After-all_paths others)

pub returns-clause-gone : goal.returns-clause-gone
returns-clause-gone g c own t holds nothing = absurd (never_gone g (goal.at.returns-clause-gone g c).After-all_paths own t holds nothing)

pub returns-clause-number : goal.returns-clause-number
returns-clause-number g c t n holds named = absurd (never_number g (goal.at.returns-clause-number g c).After-all_paths t n holds named)

pub returns-clause-answers : goal.returns-clause-answers
returns-clause-answers g c t place a p there named =
    nowhere g.H.GcHeap.KIND c.args.store.now t place a there c.in-Ok-all_paths.entries.items (c.in-Ok-all_paths.ensures.answers t place a there) p c.in-Ok.word (c.in-Ok.ensures.live t place (at p) there.0 named)
    (ap (λ (es : List PathEntry). position (λ (e : PathEntry). nat_eq e.word c.in-Ok.word) es) (sym c.deref.ensures.value) ∙ sym c.number_of.ensures ∙ c.in-None.is)

pub returns-clause-leaves : goal.returns-clause-leaves
returns-clause-leaves g c t place a there = c.all_paths.ensures.leaves t place a there

pub returns-clause-same : goal.returns-clause-same
returns-clause-same g c = c.all_paths.ensures.same

pub path_in-requires-clause-within : goal.path_in-requires-clause-within
path_in-requires-clause-within g c =
    subst (λ (es : List PathEntry). c.in-Some.last < length es) (sym c.deref-in-Some.ensures.value)
    (number_within c.in-Ok.word c.in-Ok-all_paths.entries.items c.in-Some.last (ap (λ (es : List PathEntry). position (λ (e : PathEntry). nat_eq e.word c.in-Ok.word) es) (sym c.deref.ensures.value) ∙ sym c.number_of.ensures ∙ c.in-Some.is))

pub path_in-requires-clause-earlier : goal.path_in-requires-clause-earlier
path_in-requires-clause-earlier g c =
    let held = c.stores_hold_tables.ensures.1.1 in
    let t = c.stores_hold_tables.ensures.0 in
    let a = c.stores_hold_tables.ensures.1.0 in
    subst AreEarlier (sym c.deref-in-Some.ensures.value)
    (parents_earlier g.H.GcHeap.KIND c.args.store.now t held.place a (held.holds, held.account) c.in-Ok-all_paths.entries.items (c.in-Ok-all_paths.ensures.answers t held.place a (held.holds, held.account)))
