-- What another value of a host object leaves of a store.
use Rattle.std.proofs.Common.{◌≡◌, ℕ, List, Some, sym, refl, subst}
use Rattle.std.specs.List.{slice_get}
use Rattle.std.specs.FinMap.{get, insert}
use Rattle.gc_types.specs.declared.kind.Layouts.{Layouts}
use Rattle.gc_model.specs.Values.{at, host}
use Rattle.gc_model.specs.Table.{Table, set_host}
use Rattle.gc_model.specs.Stores.{StoreView, with_host_at}
use Rattle.gc_model.specs.Holds.{Placing, Holds, IsHostAt}
use Rattle.gc_model.proofs.HoldsHost.{holds_set_host}
use Rattle.gc_owner.specs.Owners.{OwnerView}
use Rattle.gc_model.specs.Accounts.{Account, HoldsAccount, IsAccount}
use Rattle.gc_model.proofs.AccountLemmas.{account_kept}
use Rattle.gc_values.specs.declared.engine.StoreId.{StoreId}
use Rattle.gc_values.specs.declared.config.HeapConfig.{HeapConfig}
use Rattle.gc_store.specs.HostSteps.{HasHostId}
use Rattle.gc_store.specs.Stores.{StoreTables, store_view, IsSoundStore}

-- with the value set, the store holds the table with the value set, and the account that it had
pub host_set : {D : Type 0} (layouts : Layouts) (s : StoreView D) (t : Table D) (place : Placing) (a : Account) → Holds layouts s t place → IsAccount layouts s place a → (position id : ℕ) (d w : D) → IsHostAt t.objects place s.heap.content position id d
    → HoldsAccount layouts (with_host_at id w s) (set_host position w t) a
host_set layouts s t place a holds account position id d w is = record {
  place = place;
  holds = holds_set_host layouts s t place position id d w holds is;
  account = account_kept s (with_host_at id w s) place a refl refl refl account;
}

-- so of the host object that is named, whose id was found
pub named_set : {D : Type 0} (layouts : Layouts) (s : StoreView D) (t : Table D) (a : Account) (p : ℕ) (old w : D) (id : ℕ) (holds : HoldsAccount layouts s t a) → slice_get t.objects p ≡ Some (host old) → HasHostId s t holds.place (at p) id
    → HoldsAccount layouts (with_host_at id w s) (set_host p w t) a
named_set {D} layouts s t a p old w id holds in_table has =
    let same : p ≡ has.position = position_is has.reference_is in
    host_set layouts s t holds.place a holds.holds holds.account p id has.value w (subst (λ (q : ℕ). IsHostAt t.objects holds.place s.heap.content q id has.value) (sym same) has.is_at)
  where
    position_is : {q : ℕ} → at p ≡ at q → p ≡ q
    position_is is = cc is

pub sound_host_set : {D : Type 0} (layouts : Layouts) (counts : List ℕ) (id : StoreId) (config : HeapConfig) (tables : StoreTables) (v : OwnerView D) (tries host_id : ℕ) (d w : D) → get v.hosts host_id ≡ Some d → IsSoundStore D layouts counts v (store_view id config tables v tries)
    → IsSoundStore D layouts counts (record v { hosts = insert v.hosts host_id w }) (store_view id config tables (record v { hosts = insert v.hosts host_id w }) tries)
sound_host_set layouts counts id config tables v tries host_id d w there sound =
    let entry = sound.holds.holds.hosts.only host_id d there in
    record {
      idle = sound.idle;
      engine = sound.engine;
      number = sound.number;
      frames = sound.frames;
      table = set_host entry.0 w sound.table;
      account = sound.account;
      holds = host_set layouts (store_view id config tables v tries) sound.table sound.holds.place sound.account sound.holds.holds sound.holds.account entry.0 host_id d w entry.1;
    }
