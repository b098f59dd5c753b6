-- A collection of a store's owner, for the store: it is sound again, and holds what the collection keeps.
use Rattle.std.proofs.Common.{◌≡◌, ℕ, List, None, true, sym, subst}
use Rattle.gc_types.specs.declared.kind.Layouts.{Layouts}
use Rattle.gc_model.specs.Table.{Table}
use Rattle.gc_model.specs.Allocation.{Limits}
use Rattle.gc_model.specs.Stores.{StoreView}
use Rattle.gc_model.specs.Holds.{HoldsTable, HoldsKept}
use Rattle.gc_owner.specs.Owners.{OwnerView, Collects}
use Rattle.gc_model.specs.Accounts.{Account, HoldsAccount}
use Rattle.gc_model.specs.Policy.{policy_state}
use Rattle.gc_model.specs.Shown.{shown}
use Rattle.gc_model.proofs.RootsShown.{SlotsInFrames}
use Rattle.gc_model.proofs.AccountLemmas.{collected_account, some_account}
use Rattle.gc_store.specs.Expansion.{CollectsStore}
use Rattle.gc_store.specs.Stores.{IsSoundStore}
use Rattle.gc_values.proofs.Keeping.{keeps-collected}
use Rattle.gc_store.proofs.Expanding.{sound_again}

-- what no limiter is asked for
abbrev unasked : Limits
unasked = record { limit = None; refusals = 0; last_refused = None }

module _ {D : Type 0} (layouts : Layouts) (s : StoreView D) (v w : OwnerView D) (in_frames : SlotsInFrames v.roots) (attached : v.heap.attached ≡ true) (collects : Collects layouts v w) where
  pub sound_collected : (counts : List ℕ) → IsSoundStore D layouts counts v (shown s v) → IsSoundStore D layouts counts w (shown s w)
  sound_collected counts sound =
      let is = collected_account layouts s sound.table sound.account unasked v w sound.holds in_frames attached collects in
      sound_again layouts s v w is.after.table is.after.account counts sound (keeps-collected layouts v w collects) is.holds

  pub kept_collected : (before : StoreView D) → shown s v ≡ before → (t : Table D) → HoldsTable layouts before t → HoldsKept layouts (shown s w) t
  kept_collected before view t holds =
      let some = some_account layouts before t holds in
      let is = collected_account layouts s t some.0 unasked v w (subst (λ (x : StoreView D). HoldsAccount layouts x t some.0) (sym view) some.1) in_frames attached collects in
      subst (HoldsKept layouts (shown s w)) is.collects.table is.kept

  pub store_collected : (before : StoreView D) → shown s v ≡ before → (t : Table D) (a : Account) (limits : Limits) → HoldsAccount layouts before t a → CollectsStore layouts (policy_state t a limits) (shown s w)
  store_collected before view t a limits holds =
      let is = collected_account layouts s t a limits v w (subst (λ (x : StoreView D). HoldsAccount layouts x t a) (sym view) holds) in_frames attached collects in
      record { after = is.after; collects = is.collects; holds = is.holds }
