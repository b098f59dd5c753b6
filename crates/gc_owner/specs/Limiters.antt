-- What a limiter tells, and what its answers leave.
use Rattle.std.specs.Prelude.{◌≡◌, ℕ, ◌+◌, ◌-◌, ◌^◌, ◌<◌, ◌≤◌, min, Bool, true, List, [], ◌∷◌, Option, Some, None, IfSome}

-- what a limiter tells: the greatest number of pages that it grants, where it tells it; how many
-- asks it refused; and the last of these, as pages before and after
pub record Limits : Type 0 where
  pub limit : Option ℕ
  pub refusals : ℕ
  pub last_refused : Option (ℕ × ℕ)

-- a limit grants so many pages, where it is told
abbrev pub MayHave : Option ℕ → ℕ → Type 0
MayHave limit pages = IfSome limit (λ most. pages ≤ most)

-- a limit refuses so many pages, where it is told
abbrev pub MayRefuse : Option ℕ → ℕ → Type 0
MayRefuse limit pages = IfSome limit (λ most. most < pages)

-- a limiter that refused nothing yet
abbrev pub fresh_limits : Option ℕ → Limits
fresh_limits limit = record { limit = limit; refusals = 0; last_refused = None }

-- an ask was refused: it is the last one, and the count rose unless it stands at its end
abbrev pub Refuses : Limits → Limits → ℕ → ℕ → Type 0
Refuses old new before after = new ≡ record {
  limit = old.limit;
  refusals = min (old.refusals + 1) (2 ^ 64 - 1);
  last_refused = Some (before, after);
}

-- a limiter that answers by a list, and what is told of it
pub record ScriptedView : Type 0 where
  pub answers : List Bool
  pub limits : Limits

-- the next answer of a list; true after the last
abbrev pub next_answer : List Bool → Bool
next_answer [] = true
next_answer (answer ∷ answers) = answer

-- the answers behind the next one
abbrev pub later_answers : List Bool → List Bool
later_answers [] = []
later_answers (answer ∷ answers) = answers
