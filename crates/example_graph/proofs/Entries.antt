-- Entries through the calls of a store.
use Rattle.std.proofs.Common.{inr, ◌≡◌, ◌≢◌, ℕ, ℤ, Some, Result, Ok, Err, IfOk, ap, ◌∙◌, refl}
use Rattle.std.proofs.lemmas.List.Elements.{Contains-push}
use Rattle.gc_types.specs.declared.kind.Layouts.{Layouts}
use Rattle.gc_types.specs.declared.kind.VMGcKind.TheVariants as kinds
use Rattle.gc_model.specs.Values.{at, Value}
use Rattle.gc_model.specs.Stored.{stored}
use Rattle.gc_model.specs.Table.{Table, Owned, leave, write}
use Rattle.gc_model.specs.OwnedRoots.{own}
use Rattle.gc_model.specs.Stores.{StoreView}
use Rattle.gc_model.specs.Holds.{HoldsTable, HoldsKept}
use Rattle.gc_model.proofs.OwnedRoots.{owned_found}
use Rattle.gc_model.specs.Accounts.{Account, HoldsAccount}
use Rattle.gc_model.proofs.AccountLemmas.{some_account}
use Rattle.gc_values.specs.declared.root.GcRootIndex.{GcRootIndex}
use Rattle.gc_values.specs.declared.root.RootFault.{RootFault}
use Rattle.gc_values.specs.declared.root.RootFault.TheVariants as fault
use Rattle.gc_rooted.specs.declared.owned_rooted.OwnedRooted.{OwnedRooted}
use Rattle.gc_store.specs.OwnedRoots.{MakesOwned, MadeOwned}
use Rattle.gc_store.specs.Stores.{IsSameStore}
use Rattle.gc_values.specs.Words.{owned_id}
use Rattle.gc_store.specs.Kinds.{NamesKind}
use Rattle.gc_objects.specs.declared.val.Val.{Val}
use Rattle.gc_objects.specs.Writes.{SetsField}
use Rattle.gc_objects.proofs.Pushed.{names_once, named_kind}
use Rattle.gc_objects.proofs.Pushing.{held_table}
use Rattle.example_graph.specs.Entries.{IsGraphNode, HoldsEntry, KeepsEntries}
use Rattle.example_graph.proofs.EntriesKept.{KeptIn, entries_kept, accounts_kept, kept_at, kept_same, keeps_itself, keeps_left, keeps_owned, keeps_written}

-- a node is a struct, and so its handle may be given as that of one
pub node_kind : (layouts : Layouts) (s : StoreView ℕ) (handle : GcRootIndex) (key : ℤ) → IsGraphNode layouts s handle key → NamesKind ℕ layouts s kinds.StructRef handle
node_kind layouts s handle key node =
    named_kind layouts s node.table node.holds handle kinds.StructRef (at node.has.position) node.has.named (node.has.object, (node.has.object_is, node.is_struct))

-- what is answered is an entry later too
pub added_kept : {T E : Type 0} (layouts : Layouts) (mid new : StoreView ℕ) (key : ℤ) (result : Result (OwnedRooted T) E) → KeepsEntries layouts mid new
    → IfOk result (λ entry. HoldsEntry layouts mid entry.index key) → IfOk result (λ entry. HoldsEntry layouts new entry.index key)
added_kept layouts mid new key (Ok entry) keeps holds = keeps entry.index key holds
added_kept layouts mid new key (Err why) keeps none = tt

module _ (layouts : Layouts) (old new : StoreView ℕ) (same : IsSameStore old new) where
  -- a collection
  pub collected_kept : ((t : Table ℕ) → HoldsTable layouts old t → HoldsKept layouts new t) → KeepsEntries layouts old new
  collected_kept kept = entries_kept layouts old new same (λ t holds. let after = kept t holds in record { table = t; holds = (after.0, after.1.0); keeps = keeps_itself t })

  -- a scope that is left
  pub left_kept : (scope : ℕ) → ((t : Table ℕ) (a : Account) → HoldsAccount layouts old t a → HoldsAccount layouts new (leave scope t) a) → KeepsEntries layouts old new
  left_kept scope leaves = accounts_kept layouts old new same (λ t a holds. kept_at layouts t (leave scope t) (leave scope t) a new (leaves t a holds) refl (keeps_left t scope))

  -- what making an owned root leaves
  owning_kept : (t : Table ℕ) (a : Account) (handle : GcRootIndex) (answer : Result GcRootIndex RootFault) → MakesOwned layouts old t a handle answer new → KeptIn layouts t new
  owning_kept t a handle (Ok made) owns = kept_at layouts t (own owns.reference t) (own owns.reference t) a new owns.holds refl (keeps_owned layouts new t owns.reference a owns.holds)
  owning_kept t a handle (Err fault.WrongStore) owns = kept_same layouts t a new owns.1
  owning_kept t a handle (Err fault.Unrooted) owns = kept_same layouts t a new owns.1.1
  owning_kept t a handle (Err fault.RootsFull) owns = kept_same layouts t a new owns.1.1.1
  owning_kept t a handle (Err fault.Memory) owns = kept_same layouts t a new owns

  pub owned_kept : (handle : GcRootIndex) (answer : Result GcRootIndex RootFault) → ((t : Table ℕ) (a : Account) → HoldsAccount layouts old t a → MakesOwned layouts old t a handle answer new)
      → KeepsEntries layouts old new
  owned_kept handle answer owns = accounts_kept layouts old new same (λ t a holds. owning_kept t a handle answer (owns t a holds))

  -- a value that isn't the key is written
  pub set_kept : (handle : GcRootIndex) (index : ℕ) (v : Val) → 0 ≢ index
      → ((t : Table ℕ) (a : Account) → HoldsAccount layouts old t a → SetsField layouts old t a handle index v (Ok tt) new) → KeepsEntries layouts old new
  set_kept handle index v other sets = accounts_kept layouts old new same (λ t a holds.
      let written = (sets t a holds).1 in
      let there = written.there in
      let value : Value = stored there.field.element_type there.value in
      let after : Table ℕ = write there.has.position index value t in
      kept_at layouts t after after a new written.holds refl (keeps_written t there.has.position index value other))

-- a node of which an owned root was made is an entry
pub node_owned : (layouts : Layouts) (old new : StoreView ℕ) (handle made : GcRootIndex) (key : ℤ) → IsGraphNode layouts old handle key
    → ((t : Table ℕ) (a : Account) → HoldsAccount layouts old t a → MadeOwned layouts old t a handle made new) → HoldsEntry layouts new made key
node_owned layouts old new handle made key node owning =
    let t = node.table in
    let a = some_account layouts old t node.holds in
    let owns = owning t a.0 a.1 in
    let same : owns.reference ≡ at node.has.position = names_once layouts old t node.holds handle owns.reference (at node.has.position) owns.named node.has.named in
    let after : Table ℕ = own owns.reference t in
    let root : Owned = record { number = t.owns; reference = owns.reference; handles = 1 } in
    let live = owned_found after.owned root owns.holds.holds.owned.in_order (Contains-push t.owned root) in
    record {
      node = record {
        table = after;
        holds = held_table layouts new after a.0 owns.holds;
        key_fits = node.key_fits;
        has = record {
          position = node.has.position;
          named = inr (record { number = t.owns; names = owns.made_is; live = live ∙ ap Some same });
          object = node.has.object;
          object_is = node.has.object_is;
          value_at = node.has.value_at;
        };
        is_struct = node.is_struct;
      };
      id = owned_id t.owns;
      owned = ap (λ (h : GcRootIndex). h.slot) owns.made_is;
    }
