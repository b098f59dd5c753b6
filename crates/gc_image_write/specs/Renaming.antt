-- Graphs that are one but for the numbers of their objects.
use Rattle.std.specs.Prelude.{◌≡◌, ℕ, ◌<◌, map}
use Rattle.gc_view.specs.Reach.{Reachable}
use Rattle.gc_image_write.specs.Visiting.{Graph, IsVisited}

-- what a graph names are some of so many objects
pub record IsWithin (graph : Graph) (count : ℕ) : Type 0 where
  pub early : (x y : ℕ) → x < count → IsVisited (graph.early x) y → y < count
  pub named : (x y : ℕ) → x < count → IsVisited (graph.named x) y → y < count
  pub globals : (y : ℕ) → IsVisited graph.globals y → y < count

-- the globals reach each of so many objects
abbrev pub AreAllReached : Graph → ℕ → Type 0
AreAllReached graph count = (x : ℕ) → x < count → Reachable (IsVisited graph.globals) (λ y. IsVisited (graph.named y)) x

-- Each of so many objects of a graph has another number in another graph, which has the same references and the same globals there.
pub record Renames (graph other : Graph) (count : ℕ) (name : ℕ → ℕ) : Type 0 where
  pub apart : (x y : ℕ) → x < count → y < count → name x ≡ name y → x ≡ y
  pub onto : (y : ℕ) → y < count → (x : ℕ) × ((x < count) × (name x ≡ y))
  pub early : (x : ℕ) → x < count → other.early (name x) ≡ map name (graph.early x)
  pub named : (x : ℕ) → x < count → other.named (name x) ≡ map name (graph.named x)
  pub globals : other.globals ≡ map name graph.globals
