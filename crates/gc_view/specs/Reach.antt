-- Reachability, of whatever it is: objects of a table, places of a heap, numbers of a graph.

-- the least set that holds the starts and all that a member of it leads to
pub data Reachable {A : Type 0} (IsStart : A → Type 0) (Leads : A → A → Type 0) : A → Type 0 where
  by_start : {x : A} → IsStart x → Reachable IsStart Leads x
  by_step : {x y : A} → Reachable IsStart Leads y → Leads y x → Reachable IsStart Leads x
