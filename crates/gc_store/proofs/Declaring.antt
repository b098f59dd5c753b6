-- What a declaration leaves of a store.
use Rattle.std.proofs.Common.{◌≡◌, ℕ, List, length, Result, Ok, Err, sym, ap, ◌∙◌, refl, subst}
use Rattle.gc_types.specs.declared.kind.Layouts.{Layouts}
use Rattle.gc_types.specs.declared.types.TypeFault.{TypeFault}
use Rattle.gc_types.specs.declared.types.TypeFault.TheVariants.{BadType, Memory}
use Rattle.gc_types.specs.Declarable.{Declarable}
use Rattle.gc_types.specs.Declarations.{Declaration, TypeName}
use Rattle.gc_types.specs.Declarations as types
use Rattle.gc_model.specs.Table.{Table, declare}
use Rattle.gc_model.specs.Stores.{StoreView}
use Rattle.gc_model.proofs.HoldsDeclare.{with_type, holds_declare}
use Rattle.gc_owner.specs.Declares.{AppendsType}
use Rattle.gc_owner.specs.Owners.{OwnerView}
use Rattle.gc_model.specs.Accounts.{Account, HoldsAccount}
use Rattle.gc_model.proofs.AccountLemmas.{account_kept}
use Rattle.gc_values.specs.declared.engine.StoreId.{StoreId}
use Rattle.gc_values.specs.declared.config.HeapConfig.{HeapConfig}
use Rattle.gc_store.specs.Stores.{StoreTables, store_view, IsSoundStore}
use Rattle.gc_store.specs.Stores as stores
use Rattle.gc_values.proofs.Keeping.{counts_of}

module _ {D : Type 0} (layouts : Layouts) (id : StoreId) (config : HeapConfig) (tables : StoreTables) (tries : ℕ) (d : Declaration) (old new : OwnerView D) where
  abbrev before : StoreView D
  before = store_view id config tables old tries

  abbrev after : StoreView D
  after = store_view id config tables new tries

  -- the store holds the table with the type
  holds_new : (t : Table D) (a : Account) → new ≡ record old { types = types.with_declaration d old.types } → HoldsAccount layouts before t a → HoldsAccount layouts after (declare d t) a
  holds_new t a e holds =
      subst (λ (v : OwnerView D). HoldsAccount layouts (store_view id config tables v tries) (declare d t) a) (sym e) (record {
        place = holds.place;
        holds = holds_declare layouts before t holds.place d holds.holds;
        account = account_kept before (with_type d before) holds.place a refl refl refl holds.account;
      })

  same_account : (t : Table D) (a : Account) → new ≡ old → HoldsAccount layouts before t a → HoldsAccount layouts after t a
  same_account t a e holds = subst (λ (v : OwnerView D). HoldsAccount layouts (store_view id config tables v tries) t a) (sym e) holds

  pub declared_step : (r : Result TypeName TypeFault) → AppendsType old new d r → (counts : List ℕ) → IsSoundStore D layouts counts old before → (t : Table D) (a : Account) → HoldsAccount layouts before t a → stores.Declares layouts d t a r after
  declared_step (Ok ty) did counts sound t a holds = (
    subst (λ (ts : List Declaration). Declarable ts d) holds.holds.types did.0,
    (did.1.0 ∙ (λ i. record { engine = sound.engine i; number = sound.number i; index = length (holds.holds.types i) }), holds_new t a did.1.1 holds),
  )
  declared_step (Err BadType) did counts sound t a holds = (
    λ may. did.0 (subst (λ (ts : List Declaration). Declarable ts d) (sym holds.holds.types) may),
    same_account t a did.1 holds,
  )
  declared_step (Err Memory) did counts sound t a holds = same_account t a did holds

  same_sound : new ≡ old → (counts : List ℕ) → IsSoundStore D layouts counts old before → IsSoundStore D layouts counts new after
  same_sound e counts sound = subst (λ (v : OwnerView D). IsSoundStore D layouts counts v (store_view id config tables v tries)) (sym e) sound

  pub sound_declared : (r : Result TypeName TypeFault) → AppendsType old new d r → (counts : List ℕ) → IsSoundStore D layouts counts old before → IsSoundStore D layouts counts new after
  sound_declared (Ok ty) did counts sound = record {
    idle = ap (λ (v : OwnerView D). v.idle) did.1.1 ∙ sound.idle;
    engine = ap (λ (v : OwnerView D). v.types.engine) did.1.1 ∙ sound.engine;
    number = ap (λ (v : OwnerView D). v.types.number) did.1.1 ∙ sound.number;
    frames = sound.frames ∙ ap counts_of (sym did.1.1);
    table = declare d sound.table;
    account = sound.account;
    holds = holds_new sound.table sound.account did.1.1 sound.holds;
  }
  sound_declared (Err BadType) did counts sound = same_sound did.1 counts sound
  sound_declared (Err Memory) did counts sound = same_sound did counts sound
