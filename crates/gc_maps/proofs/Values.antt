-- What reading a field of a node answers.
use Rattle.std.proofs.Common.{◌≡◌, ℕ, SFits, w32, w64, to_z, Some, Ok, Err, length, refl, sym, subst, arith}
use Rattle.std.proofs.lemmas.Int.{ints}
use Rattle.gc_types.specs.declared.kind.Layouts.{Layouts}
use Rattle.gc_owner.specs.declared.entry.GcClass.TheVariants.{Any}
use Rattle.gc_model.specs.Values.{Reference, null, small, at, reference}
use Rattle.gc_model.specs.Table.{Table, push}
use Rattle.gc_model.specs.Reads.{after_read}
use Rattle.gc_model.specs.Stores.{StoreView}
use Rattle.gc_model.specs.Holds.{Placing, Holds}
use Rattle.gc_model.specs.Accounts.{Account, HoldsAccount}
use Rattle.gc_values.specs.declared.root.RawValue.{RawValue}
use Rattle.gc_values.specs.declared.root.RawValue.TheVariants as raw
use Rattle.gc_values.specs.declared.root.RootFault.{RootFault}
use Rattle.gc_values.specs.declared.root.RootFault.TheVariants as root
use Rattle.gc_store.specs.Roots.{handle_of}
use Rattle.gc_store.specs.OwnedWords.{HoldsThere}
use Rattle.gc_store.specs.Values.{ReadsValue}
use Rattle.gc_values.specs.RawValues.{raw_handle}
use Rattle.gc_lists.specs.Faults.{refused}
use Rattle.gc_maps.specs.FoundNodes.{GivesLink}
use Rattle.gc_maps.specs.Ends.{EndsReading}
use Rattle.gc_maps.specs.Parts.{NamesLink}
use Rattle.gc_maps.proofs.Naming.{are_before, held_table, names_pushed}
use Rattle.gc_maps.proofs.Growing.{pushes_none, pushes_one}

-- a number that is read as signed fits
pub long_fits : (n : ℕ) → SFits w64 (to_z w64 n)
long_fits n = grind (arith, ints)

pub int_fits : (n : ℕ) → SFits w32 (to_z w32 n)
int_fits n = grind (arith, ints)

-- a root that was given for a link
module _ {D : Type 0} (layouts : Layouts) (old : StoreView D) (t : Table D) (place : Placing) (a : Account) (holds : HoldsAccount layouts old t a) (new : StoreView D) where
  pushed : (r : Reference) (value : RawValue) → value ≡ raw.Ref Any (Some (handle_of new (length t.scoped) t.drops)) → HoldsAccount layouts new (push r t) a → Holds layouts new (push r t) place
      → EndsReading layouts 1 t (GivesLink layouts place r) (Ok (raw_handle value)) new
  pushed r value is after there = record {
    after = push r t;
    account = a;
    holds = after;
    changed = (
      pushes_one r t,
      (subst (λ (v : RawValue). NamesLink new (push r t) (raw_handle v) r) (sym is) (names_pushed t (are_before layouts old t (held_table layouts old t a holds)) new r), there),
    );
  }

  pub link_given : (r : Reference) (value : RawValue) → ReadsValue layouts t a (reference Any r) (Ok value) new → HoldsThere layouts new (after_read (reference Any r) t) place a
      → EndsReading layouts 1 t (GivesLink layouts place r) (Ok (raw_handle value)) new
  link_given null value reads there = record {
    after = t;
    account = a;
    holds = reads.1.1;
    changed = (pushes_none 1 t, (subst (λ (v : RawValue). NamesLink new t (raw_handle v) null) (sym reads.1.0) refl, there.0));
  }
  link_given (small n) value reads there = pushed (small n) value reads.1.0 reads.1.1 there.0
  link_given (at p) value reads there = pushed (at p) value reads.1.0 reads.1.1 there.0

  pub link_refused : (r : Reference) (f : RootFault) → ReadsValue layouts t a (reference Any r) (Err f) new → EndsReading layouts 1 t (GivesLink layouts place r) (Err (refused f)) new
  link_refused r root.WrongStore none = absurd none
  link_refused r root.Unrooted none = absurd none
  link_refused r root.RootsFull reads = record { after = t; account = a; holds = reads.1.1; changed = (pushes_none 1 t, reads.1.0) }
  link_refused r root.Memory reads = record { after = t; account = a; holds = reads.1; changed = pushes_none 1 t }
