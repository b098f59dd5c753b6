-- What a limit decides that is told.
use Rattle.std.proofs.Common.{inl, inr, ◌≡◌, ◌↔◌, ℕ, ◌+◌, ◌<◌, ◌≤◌, Bool, true, false, cond, max, List, [], ◌∷◌, Option, Some, None, refl, sym, subst, arith}
use Rattle.gc_types.specs.declared.kind.Layouts.{Layouts}
use Rattle.gc_model.specs.Values.{Object}
use Rattle.gc_model.specs.Table.{Table, made_pages, make_heap, with_pages}
use Rattle.gc_view.specs.Sizes.{need_of}
use Rattle.gc_model.specs.Sizes.{object_size}
use Rattle.gc_model.specs.Words.{Placing}
use Rattle.gc_view.specs.Pages.{max_pages}
use Rattle.gc_model.specs.Allocation.{asked, FitsIn, LacksFit, MayMakeHeap, LacksMemory, no_heap, no_room, Allocates, GetsPages, same, more, Grows}
use Rattle.gc_model.specs.Allocation as allocation
use Rattle.gc_commands.specs.declared.command.Command.{Command}
use Rattle.gc_commands.specs.declared.reply.Reply.{Reply}
use Rattle.gc_commands.specs.declared.reply.Refusal.{Refusal}
use Rattle.gc_script.specs.State.{State}
use Rattle.gc_script.specs.Shapes.{CommandShape, plain, declaring, making, growing, collecting, showing, shape}
use Rattle.gc_script.specs.Steps as steps
use Rattle.gc_script.specs.Steps.{Step, AnswersShape, Does, first_failing, tests}
use Rattle.gc_script.specs.Run.{Run}

pub lacks_over : (layouts : Layouts) (most : ℕ) (places : Placing) (o : Object ℕ) (t t' : Table ℕ) → most ≤ max_pages → t.first ≤ most → LacksMemory layouts (Some most) places o t t'
    → (most < made_pages t + asked (made_pages t) (need_of layouts (object_size layouts t.types o))) × LacksFit layouts places (make_heap t) (object_size layouts t.types o)
lacks_over layouts most places o t t' within first (no_heap refused is) = let above = refused.above in absurd (omega (arith, above, first))
lacks_over layouts most places o t t' within first (no_room may (inl unasked) lacks is) = (omega (arith, unasked, within), lacks)
lacks_over layouts most places o t t' within first (no_room may (inr refused) lacks is) = (refused, lacks)

pub growth_over : (most bytes : ℕ) (t t' : Table ℕ) (granted : Bool) → most ≤ max_pages → t.first ≤ most → Grows (Some most) bytes t granted t'
    → (granted ≡ false) ↔ ((0 < bytes) × (most < made_pages t + asked (made_pages t) bytes))
growth_over most bytes t t' granted within first (allocation.nothing none) = (λ e. absurd (cc e), λ both. absurd (omega (arith, both.0, none)))
growth_over most bytes t t' granted within first (allocation.granted some may grow) = (λ e. absurd (cc e), λ both. let fits = grow.granted in absurd (omega (arith, both.1, fits)))
growth_over most bytes t t' granted within first (allocation.no_heap some refused) = let above = refused.above in absurd (omega (arith, above, first))
growth_over most bytes t t' granted within first (allocation.refused some may (inl unasked)) = (λ e. (some, omega (arith, unasked, within)), λ both. refl)
growth_over most bytes t t' granted within first (allocation.refused some may (inr over)) = (λ e. (some, over), λ both. refl)

allocates_by : (layouts : Layouts) (most : ℕ) (places : Placing) (t : Table ℕ) (size bytes pages : ℕ) → GetsPages (Some most) t bytes pages → FitsIn layouts places (with_pages pages t) size
    → ¬ ((most < made_pages t + asked (made_pages t) bytes) × LacksFit layouts places (make_heap t) size)
allocates_by layouts most places t size bytes pages (same may) fits = λ both. both.1 fits
allocates_by layouts most places t size bytes pages (more may grow) fits = λ both. let granted = grow.granted in omega (arith, both.0, granted)

pub allocates_under : (layouts : Layouts) (most : ℕ) (places : Placing) (o : Object ℕ) (t t' : Table ℕ) → Allocates layouts (Some most) places o t t'
    → ¬ ((most < made_pages t + asked (made_pages t) (need_of layouts (object_size layouts t.types o))) × LacksFit layouts places (make_heap t) (object_size layouts t.types o))
allocates_under layouts most places o t t' made =
    allocates_by layouts most places t (object_size layouts t.types o) (need_of layouts (object_size layouts t.types o)) made.pages made.gets made.fits

-- a table's heap is within the limit, or has no more pages than there were
abbrev IsWithin : ℕ → ℕ → Table ℕ → Type 0
IsWithin most before t = t.pages ≤ max most before

made_within : (most before : ℕ) (t : Table ℕ) → MayMakeHeap (Some most) t → IsWithin most before t → made_pages t ≤ max most before
made_within most before t may within = by t.made refl
  where
    by : (b : Bool) → t.made ≡ b → cond b t.pages t.first ≤ max most before
    by true is = within
    by false is = let first = may is in omega (arith, first)

gets_within : (most before : ℕ) (t : Table ℕ) (bytes pages : ℕ) → IsWithin most before t → GetsPages (Some most) t bytes pages → pages ≤ max most before
gets_within most before t bytes pages within (same may) = made_within most before t may within
gets_within most before t bytes pages within (more may grow) = let granted = grow.granted in omega (arith, granted)

same_within : (most before : ℕ) (t t' : Table ℕ) → t' ≡ t → IsWithin most before t → IsWithin most before t'
same_within most before t t' is within = subst (IsWithin most before) (sym is) within

lacks_within : (layouts : Layouts) (most before : ℕ) (places : Placing) (o : Object ℕ) (t t' : Table ℕ) → LacksMemory layouts (Some most) places o t t' → IsWithin most before t → IsWithin most before t'
lacks_within layouts most before places o t t' (no_heap refused is) within = same_within most before t t' is within
lacks_within layouts most before places o t t' (no_room may refused lacks is) within = same_within most before (make_heap t) t' is (made_within most before t may within)

allocates_within : (layouts : Layouts) (most before : ℕ) (places : Placing) (o : Object ℕ) (t t' : Table ℕ) → Allocates layouts (Some most) places o t t' → IsWithin most before t → IsWithin most before t'
allocates_within layouts most before places o t t' made within =
    same_within most before _ t' made.made (gets_within most before t (need_of layouts (object_size layouts t.types o)) made.pages within made.gets)

grows_within : (most before bytes : ℕ) (t t' : Table ℕ) (granted : Bool) → Grows (Some most) bytes t granted t' → IsWithin most before t → IsWithin most before t'
grows_within most before bytes t t' granted (allocation.nothing none) within = within
grows_within most before bytes t t' granted (allocation.granted some may grow) within = let granted = grow.granted in omega (arith, granted)
grows_within most before bytes t t' granted (allocation.no_heap some refused) within = within
grows_within most before bytes t t' granted (allocation.refused some may over) within = made_within most before t may within

-- a state whose table is that of another
from_state : (most before : ℕ) (s' u : State) → s' ≡ u → IsWithin most before u.table → IsWithin most before s'.table
from_state most before s' u is within = subst (λ (x : State). IsWithin most before x.table) (sym is) within

does_within : (layouts : Layouts) (most before : ℕ) (s : State) (sh : CommandShape) (answer : Reply) (s' : State) → Does layouts (Some most) s sh answer s' → IsWithin most before s.table → IsWithin most before s'.table
does_within layouts most before s (plain effect) answer s' does within = from_state most before s' _ does.1 within
does_within layouts most before s (declaring d) answer s' (steps.declared new is may said after) within = from_state most before s' _ after within
does_within layouts most before s (declaring d) answer s' (steps.bad may said after) within = from_state most before s' s after within
does_within layouts most before s (making d class object) answer s' (steps.made u a allocates said after) within = from_state most before s' _ after (allocates_within layouts most before s.account.places _ s.table u allocates within)
does_within layouts most before s (making d class object) answer s' (steps.lacks u a lacking said after) within = from_state most before s' _ after (lacks_within layouts most before s.account.places _ s.table u lacking within)
does_within layouts most before s (growing n) answer s' (steps.grown u a grows said after) within = from_state most before s' _ after (grows_within most before n s.table u true grows within)
does_within layouts most before s (growing n) answer s' (steps.refused u a grows said after) within = from_state most before s' _ after (grows_within most before n s.table u false grows within)
does_within layouts most before s (collecting told) answer s' does within = from_state most before s' _ does.1.1 within
does_within layouts most before s showing answer s' does within = from_state most before s' s does.1 within

answers_within : (layouts : Layouts) (most before : ℕ) (s : State) (sh : CommandShape) (found : Option Refusal) (answer : Reply) (s' : State) → AnswersShape layouts (Some most) s sh found answer s' → IsWithin most before s.table → IsWithin most before s'.table
answers_within layouts most before s sh None answer s' answers within = does_within layouts most before s sh answer s' answers within
answers_within layouts most before s sh (Some why) answer s' answers within = from_state most before s' s answers.1 within

run_within : (layouts : Layouts) (most before : ℕ) (s s' : State) (cs : List Command) (rs : List Reply) → Run layouts (Some most) s cs rs s' → IsWithin most before s.table → IsWithin most before s'.table
run_within layouts most before s s' [] [] run within = from_state most before s' s run within
run_within layouts most before s s' [] (r ∷ rs) run within = absurd run
run_within layouts most before s s' (c ∷ cs) [] run within = absurd run
run_within layouts most before s s' (c ∷ cs) (r ∷ rs) run within =
    run_within layouts most before run.0 s' cs rs run.1.1 (answers_within layouts most before s (shape c) (first_failing (tests layouts s c)) r run.0 run.1.0 within)

-- no heap has more pages than the limit, or than it had
pub pages_within : (layouts : Layouts) (most : ℕ) (s s' : State) (cs : List Command) (rs : List Reply) → Run layouts (Some most) s cs rs s' → s'.table.pages ≤ max most s.table.pages
pages_within layouts most s s' cs rs run = run_within layouts most s.table.pages s s' cs rs run (omega arith)
