-- The objects that were found, as they grow.
use Rattle.std.specs.Prelude.{◌≡◌, ℕ, nat_eq, List, [], ◌∷◌, ◌++◌, Option, None, Some, length, if◌then◌else◌}
use Rattle.std.specs.HashMap.{get}
use Rattle.std.specs.Option.{MatchOption}
use Rattle.gc_values.specs.declared.root.GcRootIndex.{GcRootIndex}
use Rattle.gc_save_image.specs.declared.found.Found.{Found}

-- handles of the objects by their numbers, and the number of each word
pub record FoundHandles : Type 0 where
  pub handles : List GcRootIndex
  pub number : ℕ → Option ℕ

abbrev pub found_handles : Found → FoundHandles
found_handles f = record { handles = f.handles.items; number = get nat_eq f.numbers }

abbrev pub empty_found : FoundHandles
empty_found = record { handles = []; number = λ word. None }

pub record SameFound (old new : FoundHandles) : Type 0 where
  pub handles : new.handles ≡ old.handles
  pub number : (word : ℕ) → new.number word ≡ old.number word

-- one more, with the next number
pub record MoreFound (old new : FoundHandles) (word : ℕ) (handle : GcRootIndex) : Type 0 where
  pub handles : new.handles ≡ old.handles ++ handle ∷ []
  pub number : (other : ℕ) → new.number other ≡ (if nat_eq word other then Some (length old.handles) else old.number other)

-- the object with that word has that number, which is the next one where it had none
abbrev pub NumbersObject : FoundHandles → FoundHandles → ℕ → GcRootIndex → ℕ → Type 0
NumbersObject old new word handle number =
    MatchOption (old.number word) (MoreFound old new word handle × (number ≡ length old.handles)) (λ known. SameFound old new × (number ≡ known))
