-- What a change of the table keeps of entries: what owned roots name, and the keys of structs.
use Rattle.std.proofs.Common.{inl, inr, ◌≡◌, ◌≢◌, ℕ, ℤ, List, [], ◌∷◌, Some, sym, ap, ◌∙◌, refl, subst}
use Rattle.std.specs.List.{slice_get}
use Rattle.std.proofs.lemmas.Bool.{cases_eq}
use Rattle.std.proofs.lemmas.List.Elements.{Contains-append_left}
use Rattle.gc_types.specs.declared.kind.Layouts.{Layouts}
use Rattle.gc_types.specs.declared.kind.VMGcKind.TheVariants as kinds
use Rattle.gc_model.specs.Values.{Reference, null, small, at, Value, numeric, function, continuation, reference, Object, struct, array, host, exception}
use Rattle.gc_model.specs.Reach.{object_values}
use Rattle.gc_model.specs.Reads.{after_read}
use Rattle.gc_model.specs.Table.{Table, Owned, push, make, with_pages, make_heap, leave, write, with_value, change_at}
use Rattle.gc_model.specs.OwnedRoots.{own, owned_among, owned_reference}
use Rattle.gc_model.specs.Stores.{StoreView}
use Rattle.gc_model.specs.Holds.{HoldsTable}
use Rattle.gc_model.proofs.Changes.{slice_get-change_at_same, slice_get-change_at_other, slice_get-set_other}
use Rattle.gc_model.proofs.Lists.{slice_get-push_old}
use Rattle.gc_model.proofs.OwnedRoots.{owned_found, owned_one}
use Rattle.gc_model.specs.Accounts.{Account, HoldsAccount}
use Rattle.gc_model.proofs.AccountLemmas.{some_account}
use Rattle.gc_values.specs.declared.root.GcRootIndex.{GcRootIndex}
use Rattle.gc_values.specs.declared.root.RootSlot.TheVariants as slot
use Rattle.gc_store.specs.Roots.{NamesOwned, NamesReference, owned_handle}
use Rattle.gc_store.specs.Stores.{IsSameStore}
use Rattle.gc_values.specs.Words.{owned_id}
use Rattle.gc_store.specs.Kinds.{object_kind}
use Rattle.gc_objects.proofs.Pushing.{held_table}
use Rattle.example_graph.specs.Entries.{key_value, HoldsEntry, KeepsEntries}

-- the object at a position is a struct with that key
pub record HasKey (objects : List (Object ℕ)) (p : ℕ) (key : ℤ) : Type 0 where
  pub object : Object ℕ
  pub object_is : slice_get objects p ≡ Some object
  pub is_struct : object_kind object ≡ kinds.StructRef
  pub key_is : slice_get (object_values object) 0 ≡ Some (key_value key)

pub record KeepsTable (t u : Table ℕ) : Type 0 where
  pub owned : (n : ℕ) (r : Reference) → owned_reference t n ≡ Some r → owned_reference u n ≡ Some r
  pub keys : (p : ℕ) (key : ℤ) → HasKey t.objects p key → HasKey u.objects p key

-- the store holds a table that keeps those of another
pub record KeptIn (layouts : Layouts) (t : Table ℕ) (new : StoreView ℕ) : Type 0 where
  pub table : Table ℕ
  pub holds : HoldsTable layouts new table
  pub keeps : KeepsTable t table

-- a handle of an owned root names what that does
pub by_owned : (s : StoreView ℕ) (t : Table ℕ) (handle : GcRootIndex) (r : Reference) → NamesReference s t handle r → (id : ℕ) → handle.slot ≡ slot.Owned id
    → NamesOwned s t handle r
by_owned s t handle r (inl scoped) id owned =
    let both : slot.Scoped scoped.names.push.index ≡ slot.Owned id = sym (ap (λ (h : GcRootIndex). h.slot) scoped.names.is) ∙ owned in
    absurd (cc both)
by_owned s t handle r (inr named) id owned = named

same_handle : (old new : StoreView ℕ) → IsSameStore old new → (number : ℕ) → owned_handle old number ≡ owned_handle new number
same_handle old new same number i = record {
  store_id = record { engine = sym same.engine i; number = sym same.number i };
  generation = number;
  slot = slot.Owned (owned_id number);
}

-- entries are kept where each table that was held is
pub entries_kept : (layouts : Layouts) (old new : StoreView ℕ) → IsSameStore old new → ((t : Table ℕ) → HoldsTable layouts old t → KeptIn layouts t new)
    → KeepsEntries layouts old new
entries_kept layouts old new same kept handle key entry =
    let node = entry.node in
    let after = kept node.table node.holds in
    let named = by_owned old node.table handle (at node.has.position) node.has.named entry.id entry.owned in
    let has = after.keeps.keys node.has.position key (record { object = node.has.object; object_is = node.has.object_is; is_struct = node.is_struct; key_is = node.has.value_at }) in
    record {
      node = record {
        table = after.table;
        holds = after.holds;
        key_fits = node.key_fits;
        has = record {
          position = node.has.position;
          named = inr (record {
            number = named.number;
            names = named.names ∙ same_handle old new same named.number;
            live = after.keeps.owned named.number (at node.has.position) named.live;
          });
          object = has.object;
          object_is = has.object_is;
          value_at = has.key_is;
        };
        is_struct = has.is_struct;
      };
      id = entry.id;
      owned = entry.owned;
    }

-- so where each account is
pub accounts_kept : (layouts : Layouts) (old new : StoreView ℕ) → IsSameStore old new → ((t : Table ℕ) (a : Account) → HoldsAccount layouts old t a → KeptIn layouts t new)
    → KeepsEntries layouts old new
accounts_kept layouts old new same kept =
    entries_kept layouts old new same (λ t holds. let some = some_account layouts old t holds in kept t some.0 some.1)

-- two steps keep what each keeps
pub keeps_then : (layouts : Layouts) (old mid new : StoreView ℕ) → KeepsEntries layouts old mid → KeepsEntries layouts mid new → KeepsEntries layouts old new
keeps_then layouts old mid new first second handle key entry = second handle key (first handle key entry)

-- a store that didn't change keeps them
pub unchanged_kept : (layouts : Layouts) (old new : StoreView ℕ) → new ≡ old → KeepsEntries layouts old new
unchanged_kept layouts old new is handle key entry = subst (λ (s : StoreView ℕ). HoldsEntry layouts s handle key) (sym is) entry

-- The changes of a table

pub keeps_itself : (t : Table ℕ) → KeepsTable t t
keeps_itself t = record { owned = λ n r e. e; keys = λ p key has. has }

pub kept_at : (layouts : Layouts) (t u v : Table ℕ) (a : Account) (new : StoreView ℕ) → HoldsAccount layouts new u a → u ≡ v → KeepsTable t v → KeptIn layouts t new
kept_at layouts t u v a new holds is keeps = record {
  table = v;
  holds = held_table layouts new v a (subst (λ (w : Table ℕ). HoldsAccount layouts new w a) is holds);
  keeps = keeps;
}

pub kept_same : (layouts : Layouts) (t : Table ℕ) (a : Account) (new : StoreView ℕ) → HoldsAccount layouts new t a → KeptIn layouts t new
kept_same layouts t a new holds = kept_at layouts t t t a new holds refl (keeps_itself t)

pub keeps_pages : (t : Table ℕ) (pages : ℕ) → KeepsTable t (with_pages pages t)
keeps_pages t pages = record { owned = λ n r e. e; keys = λ p key has. has }

pub keeps_heap : (t : Table ℕ) → KeepsTable t (make_heap t)
keeps_heap t = record { owned = λ n r e. e; keys = λ p key has. has }

pub keeps_left : (t : Table ℕ) (scope : ℕ) → KeepsTable t (leave scope t)
keeps_left t scope = record { owned = λ n r e. e; keys = λ p key has. has }

pub keeps_pushed : (t : Table ℕ) (r : Reference) → KeepsTable t (push r t)
keeps_pushed t r = record { owned = λ n q e. e; keys = λ p key has. has }

pub keeps_read : (t : Table ℕ) (x : Value) → KeepsTable t (after_read x t)
keeps_read t (numeric kind n) = keeps_itself t
keeps_read t (function f) = keeps_itself t
keeps_read t (continuation cont) = keeps_itself t
keeps_read t (reference class null) = keeps_itself t
keeps_read t (reference class (small n)) = keeps_pushed t (small n)
keeps_read t (reference class (at p)) = keeps_pushed t (at p)

pub keeps_made : (t : Table ℕ) (o : Object ℕ) (pages : ℕ) → KeepsTable t (make o (with_pages pages t))
keeps_made t o pages = record {
  owned = λ n r e. e;
  keys = λ p key has. record {
    object = has.object;
    object_is = slice_get-push_old t.objects o p has.object has.object_is;
    is_struct = has.is_struct;
    key_is = has.key_is;
  };
}

-- one more owned root stands behind the others, in a store that holds them
pub keeps_owned : (layouts : Layouts) (new : StoreView ℕ) (t : Table ℕ) (r : Reference) (a : Account) → HoldsAccount layouts new (own r t) a → KeepsTable t (own r t)
keeps_owned layouts new t r a holds = record {
  owned = λ n q e.
      let found = owned_one n t.owned q e in
      let more : Owned = record { number = t.owns; reference = r; handles = 1 } in
      let still = owned_found (own r t).owned found.0 holds.holds.owned.in_order (Contains-append_left t.owned (more ∷ []) found.0 found.1.0) in
      ap (λ m. owned_among m (own r t).owned) (sym found.1.1.0) ∙ still ∙ ap Some found.1.1.1;
  keys = λ p key has. has;
}

-- a value that isn't the first is written: the object keeps its key
written_object : (o : Object ℕ) (index : ℕ) (v : Value) (key : ℤ) → 0 ≢ index → object_kind o ≡ kinds.StructRef → slice_get (object_values o) 0 ≡ Some (key_value key)
    → (object_kind (with_value index v o) ≡ kinds.StructRef) × (slice_get (object_values (with_value index v o)) 0 ≡ Some (key_value key))
written_object (struct ty values) index v key other kind is = (kind, slice_get-set_other values index 0 v other ∙ is)
written_object (array ty values) index v key other kind is = absurd (cc kind)
written_object (host value) index v key other kind is = absurd (cc kind)
written_object (exception ty tag values) index v key other kind is = absurd (cc kind)

pub keeps_written : (t : Table ℕ) (position index : ℕ) (v : Value) → 0 ≢ index → KeepsTable t (write position index v t)
keeps_written t position index v other = record {
  owned = λ n r e. e;
  keys = λ p key has. elim (cases_eq p position) [
    | inl same ↦
        let written = written_object has.object index v key other has.is_struct has.key_is in
        record {
          object = with_value index v has.object;
          object_is = ap (slice_get (change_at position (with_value index v) t.objects)) same
              ∙ slice_get-change_at_same position (with_value index v) t.objects has.object (ap (slice_get t.objects) (sym same) ∙ has.object_is);
          is_struct = written.0;
          key_is = written.1;
        }
    | inr differ ↦ record {
      object = has.object;
      object_is = slice_get-change_at_other position (with_value index v) t.objects p differ ∙ has.object_is;
      is_struct = has.is_struct;
      key_is = has.key_is;
    }
  ];
}
