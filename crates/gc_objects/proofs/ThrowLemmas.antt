-- What a throw answers.
use Rattle.std.proofs.Common.{◌≡◌, Result, Ok, Err, OnErr, refl}
use Rattle.std.proofs.lemmas.Option.{none-some}
use Rattle.gc_types.specs.declared.kind.Layouts.{Layouts}
use Rattle.gc_model.specs.Values.{Reference, null, small, at}
use Rattle.gc_model.specs.Table.{Table}
use Rattle.gc_model.specs.RootPoints.{IsException}
use Rattle.gc_model.specs.Stores.{StoreView}
use Rattle.gc_model.specs.Accounts.{Account}
use Rattle.gc_values.specs.declared.root.GcRootIndex.{GcRootIndex}
use Rattle.gc_values.specs.declared.root.RootFault.{RootFault}
use Rattle.gc_values.specs.declared.root.RootFault.TheVariants as fault
use Rattle.gc_store.specs.Roots.{is_of_store}
use Rattle.gc_store.specs.Thrown.{SetsPending}
use Rattle.gc_objects.specs.declared.places.NamedExn.{NamedExn}
use Rattle.gc_objects.specs.Answered.{Answers}
use Rattle.gc_objects.specs.Exns.{IsNamedExn}
use Rattle.gc_objects.specs.Thrown.{thrown, Throws}

-- an exception that is named is one
pub is_exception : {D : Type 0} (t : Table D) (r : Reference) (named : NamedExn) → IsNamedExn t r named → IsException t.objects r
is_exception t null named (values, is) = absurd (none-some _ is)
is_exception t (small n) named (values, is) = absurd (none-some _ is)
is_exception t (at p) named (values, is) = record { position = p; reference_is = refl; ty = named.ty; tag = named.tag; values = values; object_is = is }

module _ {D : Type 0} (X : Type 0) (layouts : Layouts) (old new : StoreView D) (t : Table D) (a : Account) (handle : GcRootIndex) where
  -- by what making it pending did
  pub throws_set : (r : Result (Unit {0}) RootFault) → SetsPending layouts old t a handle r new → OnErr r (new ≡ old) → Throws {X = X} layouts old t a handle (thrown r) new
  throws_set (Ok done) sets kept = sets
  throws_set (Err fault.WrongStore) sets kept = (sets, kept)
  throws_set (Err fault.Unrooted) sets kept = (sets.0, (sets.1, kept))
  throws_set (Err fault.RootsFull) sets kept = absurd sets
  throws_set (Err fault.Memory) sets kept = absurd sets

  -- by why there is no such exception
  pub throws_none : (e : RootFault) → Answers old t (is_of_store old handle) handle (IsNamedExn t) (Err e) → new ≡ old → Throws {X = X} layouts old t a handle (thrown (Err e)) new
  throws_none fault.WrongStore answers kept = (answers, kept)
  throws_none fault.Unrooted answers kept = (answers.0, (answers.1, kept))
  throws_none fault.RootsFull answers kept = absurd answers
  throws_none fault.Memory answers kept = absurd answers
