-- What is left when the roots of a search are gone.
use Rattle.std.proofs.Common.{◌≡◌, ℕ, ◌+◌, ◌-◌, ◌^◌, List, [], ◌∷◌, ◌++◌, length, false, cond, min, refl, sym, ap, ◌∙◌, subst, arith}
use Rattle.std.specs.Prelude.{nat_lt}
use Rattle.std.proofs.lemmas.Bool.{lt-ltb}
use Rattle.std.proofs.lemmas.Bool.Decides.{nat_tests}
use Rattle.std.proofs.lemmas.List.{take_at, length-append}
use Rattle.gc_types.specs.declared.kind.Layouts.{Layouts}
use Rattle.gc_model.specs.Stores.{StoreView}
use Rattle.gc_model.specs.Table.{Table, Push, leave}
use Rattle.gc_model.specs.Accounts.{Account, HoldsAccount}
use Rattle.gc_paths.specs.Answers.{drops_after}
use Rattle.gc_paths.specs.Progress.{Grown}
use Rattle.gc_save_image.specs.Answers.{DropsImageRoots}
use Rattle.gc_save_image.specs.GlobalSteps.{StoppedAt}

not_less : (m n : ℕ) → n ≡ 0 → nat_lt m (m + n) ≡ false
not_less m n none = grind (arith, nat_tests, none)

drops_are : (mark count drops : ℕ) (pushes : List Push) → length pushes ≡ count → cond (nat_lt mark (mark + count)) (min (drops + 1) (2 ^ 64 - 1)) drops ≡ drops_after drops pushes
drops_are mark count drops [] is = ap (λ x. cond x (min (drops + 1) (2 ^ 64 - 1)) drops) (not_less mark count (sym is))
drops_are mark count drops (p ∷ ps) is = ap (λ x. cond x (min (drops + 1) (2 ^ 64 - 1)) drops) (lt-ltb mark (mark + count) (omega (arith, is)))

left_table : {D : Type 0} (t now : Table D) (count : ℕ) → (grown : Grown t now count) → leave (length t.scoped) now ≡ record t { pushes = t.pushes ++ grown.pushes; drops = drops_after t.drops grown.pushes }
left_table t now count grown =
    ap (leave (length t.scoped)) grown.is
    ∙ (λ i. record t {
      pushes = t.pushes ++ grown.pushes;
      scoped = take_at t.scoped grown.scoped (length t.scoped) refl i;
      drops = (ap (λ n. cond (nat_lt (length t.scoped) n) (min (t.drops + 1) (2 ^ 64 - 1)) t.drops) (length-append t.scoped grown.scoped ∙ ap (λ n. length t.scoped + n) grown.scoped_count)
          ∙ drops_are (length t.scoped) count t.drops grown.pushes grown.push_count) i;
    })

-- the scope of a search is left
pub roots_left : (layouts : Layouts) (t : Table ℕ) (a : Account) (mid new : StoreView ℕ) → StoppedAt layouts t a mid
    → ((u : Table ℕ) (x : Account) → HoldsAccount layouts mid u x → HoldsAccount layouts new (leave (length t.scoped) u) x) → DropsImageRoots layouts t a new
roots_left layouts t a mid new stopped leaves = record {
  more = stopped.grown.pushes;
  holds = subst (λ (u : Table ℕ). HoldsAccount layouts new u a) (left_table t stopped.now stopped.count stopped.grown) (leaves stopped.now a stopped.held);
}
