-- A store that counted one more allocation.
use Rattle.std.proofs.Common.{ℕ, ◌+◌, ◌-◌, ◌^◌, min, ap}
use Rattle.gc_types.specs.declared.kind.Layouts.{Layouts}
use Rattle.gc_model.specs.Table.{Table}
use Rattle.gc_model.specs.Stores.{StoreView}
use Rattle.gc_model.specs.Accounts.{Account, HoldsAccount, counted}
use Rattle.gc_model.proofs.AccountLemmas.{holds_counted}

abbrev pub counted_store : {D : Type 0} → StoreView D → StoreView D
counted_store s = record s { tries = min (s.tries + 1) (2 ^ 64 - 1) }

-- it holds the table, and its account counted it too
pub counted_holds : {D : Type 0} (layouts : Layouts) (s : StoreView D) (t : Table D) (a : Account) → HoldsAccount layouts s t a → HoldsAccount layouts (counted_store s) t (counted a)
counted_holds layouts s t a holds = record {
  place = holds.place;
  holds = holds_counted layouts s t holds.place s.last (min (s.tries + 1) (2 ^ 64 - 1)) holds.holds;
  account = record { held = holds.account.held; places = holds.account.places; last = holds.account.last; tries = ap (λ (n : ℕ). min (n + 1) (2 ^ 64 - 1)) holds.account.tries; upper = holds.account.upper };
}
