-- What the steps of a collection do to a view.
use Rattle.std.specs.Prelude.{ℕ, ◌+◌, ◌-◌, cond, nat_eq, List, [], ◌∷◌}
use Rattle.gc_drc.specs.View.{View}
pub use Rattle.gc_drc.specs.View.{count_of}

-- 1 where two numbers are the same
abbrev pub same : ℕ → ℕ → ℕ
same x y = cond (nat_eq x y) 1 0

-- without a number where it stands first
abbrev pub without_one : ℕ → List ℕ → List ℕ
without_one x [] = []
without_one x (y ∷ ys) = cond (nat_eq x y) ys (y ∷ without_one x ys)

-- One name less. An object whose count word would come to 0 is queued, so that the word stays.
abbrev pub uncounted_or_queued : View → ℕ → View
uncounted_or_queued v x = record v {
  counted = λ (y : ℕ). v.counted y - same y x;
  queue = cond (nat_eq (count_of v x) 1) (x ∷ v.queue) v.queue;
}

-- one name less of an object that has another one
abbrev pub uncounted : View → ℕ → View
uncounted v x = record v { counted = λ (y : ℕ). v.counted y - same y x }

-- off the list of shown words, whose share of the count is a name then
abbrev pub unshown : View → ℕ → View
unshown v x = record v { shown = without_one x v.shown; counted = λ (y : ℕ). v.counted y + same y x }

abbrev pub marked_also : View → ℕ → View
marked_also v x = record v { marked = x ∷ v.marked }

abbrev pub unmarked : View → ℕ → View
unmarked v x = record v { marked = without_one x v.marked }

-- off the queue
abbrev pub unqueued : View → ℕ → View
unqueued v x = record v { queue = without_one x v.queue }

abbrev pub freed : View → ℕ → View
freed v x = record v { places = without_one x v.places }
