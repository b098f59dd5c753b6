-- The objects are made and the globals set: what is left then, or where it stopped.
use Rattle.std.proofs.Common.{◌≡◌, ℕ, suc, ◌+◌, ◌<◌, ◌≤◌, nat_lt, true, Bool, cond, List, [], ◌∷◌, map, length, refl, sym, ap, ap₂, ◌∙◌, subst, arith}
use Rattle.std.specs.Prelude.{sum_by}
use Rattle.std.proofs.lemmas.Bool.Decides.{nat_tests}
use Rattle.std.proofs.lemmas.List.{length-map, take_all}
use Rattle.std.proofs.lemmas.List.Sums.{sum_by-cons}
use Rattle.gc_types.specs.declared.kind.Layouts.{Layouts}
use Rattle.gc_types.specs.Declarations.{Declaration}
use Rattle.gc_model.specs.Allocation.{Limits}
use Rattle.gc_model.specs.Stores.{StoreView}
use Rattle.gc_model.specs.Table.{Table}
use Rattle.gc_model.specs.Values.{at, null, reference}
use Rattle.gc_model.specs.Accounts.{Account}
use Rattle.gc_values.specs.declared.root.GcRootIndex.{GcRootIndex}
use Rattle.gc_values.specs.declared.root.RawValue.{RawValue}
use Rattle.gc_store.specs.Values.{AllStand}
use Rattle.gc_image.specs.declared.image.GlobalLine.{GlobalLine}
use Rattle.gc_image.specs.declared.image.ImageReference.TheVariants as image_reference
use Rattle.gc_image.specs.declared.image.ImageValue.{ImageValue}
use Rattle.gc_image.specs.declared.image.ImageValue.TheVariants as value
use Rattle.gc_image.specs.declared.image.ObjectLine.{ObjectLine}
use Rattle.gc_image.specs.Images.{AreGlobals}
use Rattle.gc_image.specs.Well.{AreWellGlobals, HoldsReference, as_value}
use Rattle.gc_owner.specs.declared.entry.GcClass.{GcClass}
use Rattle.gc_owner.specs.declared.entry.GcClass.TheVariants as class
use Rattle.gc_load_image.specs.declared.fault.LoadFault.{LoadFault}
use Rattle.gc_load_image.specs.declared.fault.LoadFault.TheVariants as fault
use Rattle.gc_load_image.specs.Loads.{global_present, value_present}
use Rattle.gc_load_image.specs.Stages.{AreSlots, Complete, FailedValues, FilledStore, FoundValues, GlobalsSet, LoadGoesOn, HeldStand, IsReferenceValue, MadeAll, Stops, early_value, global_line_value, line_roots, with_globals}
use Rattle.gc_load_image.proofs.MakingLemmas.{values_stop}
use Rattle.gc_load_image.proofs.MakingLoop.{bare_standing, same_limits, stops_later}
use Rattle.gc_load_image.proofs.SettingsLemmas.{settings_held, settings_itself, settings_twice, unused_like}

-- how many roots globals want
globals_present : (globals : List GlobalLine) → sum_by value_present (map global_line_value globals) ≡ sum_by global_present globals
globals_present [] = refl
globals_present (g ∷ globals) = sum_by-cons value_present g.value (map global_line_value globals) ∙ ap (λ n. value_present g.value + n) (globals_present globals) ∙ sym (sum_by-cons global_present g globals)

-- globals of an image are slots
reference_value : (count : ℕ) (v : ImageValue) → HoldsReference count v → IsReferenceValue v
reference_value count (value.Ref c r) is = tt
reference_value count (value.I32 n) is = absurd is
reference_value count (value.I64 n) is = absurd is
reference_value count (value.F32 n) is = absurd is
reference_value count (value.F64 n) is = absurd is
reference_value count (value.V128 n) is = absurd is

pub are_slots : (count : ℕ) (globals : List GlobalLine) → AreWellGlobals count globals → AreSlots globals
are_slots count globals well i g e = ((well i g e).0, reference_value count g.value (well i g e).1)

-- what is held is what the lines say
object_early : (count number : ℕ) (c : GcClass) → number < count → early_value count (value.Ref c (image_reference.Object number)) ≡ as_value (value.Ref c (image_reference.Object number))
object_early count number c below =
    let test : nat_lt number count ≡ true = grind (arith, nat_tests, below) in
    ap (λ (b : Bool). reference c (cond b (at number) null)) test

held_is : (count : ℕ) (v : ImageValue) → HoldsReference count v → early_value count v ≡ as_value v
held_is count (value.Ref c image_reference.Null) is = refl
held_is count (value.Ref c (image_reference.Small n)) is = refl
held_is count (value.Ref class.Any (image_reference.Object number)) is = object_early count number class.Any is
held_is count (value.Ref class.Extern (image_reference.Object number)) is = object_early count number class.Extern is
held_is count (value.Ref class.Exn (image_reference.Object number)) is = object_early count number class.Exn is
held_is count (value.I32 n) is = refl
held_is count (value.I64 n) is = refl
held_is count (value.F32 n) is = refl
held_is count (value.F64 n) is = refl
held_is count (value.V128 n) is = refl

values_are : (count : ℕ) (globals : List GlobalLine) → AreWellGlobals count globals → map (early_value count) (map global_line_value globals) ≡ map (λ (g : GlobalLine). as_value g.value) globals
values_are count [] well = refl
values_are count (g ∷ globals) well = ap₂ (λ v vs. v ∷ vs) (held_is count g.value (well 0 g refl).1) (values_are count globals (λ i. well (suc i)))

pub held_stand : (layouts : Layouts) (handles : List GcRootIndex) (count : ℕ) (globals : List GlobalLine) (old : StoreView ℕ) (t : Table ℕ) (a : Account) (raws : List RawValue) (new : StoreView ℕ) → length handles ≡ count → AreWellGlobals count globals
    → (found : FoundValues layouts handles (map global_line_value globals) old t a raws new) → HeldStand new found.pushes.table raws globals
held_stand layouts handles count globals old t a raws new same well found =
    subst (AllStand new found.pushes.table raws) (ap (λ n. map (early_value n) (map global_line_value globals)) same ∙ values_are count globals well) found.stand

pub held_count : (layouts : Layouts) (handles : List GcRootIndex) (globals : List GlobalLine) (old : StoreView ℕ) (t : Table ℕ) (a : Account) (raws : List RawValue) (new : StoreView ℕ) → FoundValues layouts handles (map global_line_value globals) old t a raws new → length raws ≡ length globals
held_count layouts handles globals old t a raws new found = found.stand.same_count ∙ length-map (map global_line_value globals) (early_value (length handles)) ∙ length-map globals global_line_value

module _ (layouts : Layouts) (lines : List ObjectLine) (globals : List GlobalLine) (limits limits' : Limits) (old mid written : StoreView ℕ) (handles : List GcRootIndex) (made : MadeAll layouts lines limits limits' old handles mid) where
  -- objects that were not made
  abbrev most : ℕ
  most = sum_by line_roots lines + sum_by global_present globals

  module _ (complete : Complete layouts lines handles written) (goes : LoadGoesOn 0 mid written) where
    goes_far : LoadGoesOn (sum_by line_roots lines) old written
    goes_far = record {
      few = (let a = made.goes.few in let b = goes.few in omega (arith, a, b));
      same = settings_twice old mid written made.goes.same goes.same;
      types = goes.types ∙ made.goes.types;
    }

    -- what globals are to hold was not found
    pub globals_stop : (why : LoadFault) (new : StoreView ℕ) → FailedValues layouts handles (map global_line_value globals) written complete.table complete.account why new → Stops layouts old.types lines limits limits' most old why new
    globals_stop why new failed =
        stops_later layouts lines limits limits' limits' (sum_by line_roots lines) (sum_by global_present globals) most old written why new goes_far made.counts (omega arith)
        (values_stop layouts handles written.types lines limits' (sum_by value_present (map global_line_value globals)) (sum_by global_present globals) written complete.table complete.account why new (let e = globals_present globals in omega (arith, e)) (sym complete.standing.holds.holds.types) failed.pushes failed.cause)

    -- all was done
    pub filled : (raws : List RawValue) (then new : StoreView ℕ) → (found : FoundValues layouts handles (map global_line_value globals) written complete.table complete.account raws then) → GlobalsSet layouts globals (length globals) found.pushes.table complete.account new
        → (n : ℕ) → n ≡ length handles → FilledStore layouts lines globals old n new
    filled raws then new found set n count = record {
      table = with_globals set.slots found.pushes.table;
      account = complete.account;
      holds = set.holds;
      objects = found.pushes.objects ∙ complete.objects;
      unused = unused_like found.pushes.table (with_globals set.slots found.pushes.table) refl refl refl found.pushes.standing.unused;
      frames = found.pushes.standing.frames;
      owned = found.pushes.standing.owned;
      pending = found.pushes.standing.pending;
      set = subst (λ (gs : List GlobalLine). AreGlobals (λ k. k) gs set.slots) (take_all (length globals) globals (omega arith)) set.set;
      same = settings_twice old then new (settings_twice old written then goes_far.same found.pushes.same)
          (settings_held layouts then new found.pushes.table (with_globals set.slots found.pushes.table) complete.account complete.account found.pushes.standing.holds set.holds refl refl refl);
      types = set.holds.holds.types ∙ found.pushes.types ∙ sym complete.standing.holds.holds.types ∙ goes_far.types;
      count = count ∙ made.all;
    }

-- a part that stopped
pub part_stops : (layouts : Layouts) (types : List Declaration) (lines : List ObjectLine) (limits limits' : Limits) (m most : ℕ) (old : StoreView ℕ) (why : LoadFault) (new : StoreView ℕ) → m ≤ most → types ≡ old.types → Stops layouts types lines limits limits' m old why new → Stops layouts old.types lines limits limits' most old why new
part_stops layouts types lines limits limits' m most old why new below same stops =
    stops_later layouts lines limits limits limits' 0 m most old old why new (record { few = omega arith; same = settings_itself old; types = refl }) (same_limits limits) (omega (arith, below))
    (subst (λ (ts : List Declaration). Stops layouts ts lines limits limits' m old why new) same stops)

-- want of memory behind the objects
pub count_stops : (layouts : Layouts) (lines : List ObjectLine) (limits limits' : Limits) (most : ℕ) (old mid : StoreView ℕ) (handles : List GcRootIndex) → MadeAll layouts lines limits limits' old handles mid → Stops layouts old.types lines limits limits' most old fault.Memory mid
count_stops layouts lines limits limits' most old mid handles made = record {
  bare = bare_standing layouts handles mid made.making.table made.making.account made.making.standing;
  same = made.goes.same;
  same_types = made.goes.types;
  cause = tt;
}
