-- An image that was filled in is one of the table; and what is left where loading stopped.
use Rattle.std.proofs.Common.{inr, ◌≡◌, ℕ, zero, suc, ◌+◌, ◌*◌, ◌<◌, List, [], ◌∷◌, map, length, Some, Result, Ok, Err, Contains, refl, sym, ap, ap₂, ◌∙◌, subst, arith}
use Rattle.std.specs.Prelude.{sum_by, option_map}
use Rattle.std.specs.List.{AllByRecursion, flat_map, slice_get}
use Rattle.std.proofs.lemmas.List.{append-nil, length-map}
use Rattle.std.proofs.lemmas.List.Elements.{Contains-append_left, Contains-append_right}
use Rattle.std.proofs.lemmas.List.Sums.{sum_by-cons}
use Rattle.std.proofs.lemmas.Option.{get_or_from_slice_get, none-some, same_Some, slice_get-map, slice_get_within}
use Rattle.gc_types.specs.declared.kind.Layouts.{Layouts}
use Rattle.gc_types.specs.declared.kind.Layouts.TheVariants.{Null, Counting, Copying}
use Rattle.gc_types.specs.Declarations.{Declaration}
use Rattle.gc_model.specs.Allocation.{Limits}
use Rattle.gc_model.specs.Reach.{Reached, by_start, by_step, references_in, root_references, slot_references, value_references, object_values}
use Rattle.gc_model.specs.Stores.{StoreView}
use Rattle.gc_model.specs.Table.{Scoped, Slot, Table, leave, start}
use Rattle.gc_model.specs.Values.{Reference, at, Value, numeric, function, continuation, reference, Object, struct, array, host, exception}
use Rattle.gc_model.specs.Accounts.{Account, HoldsAccount, no_account}
use Rattle.gc_model.proofs.CollectedKept.{reached_placed}
use Rattle.gc_model.proofs.CollectedLists.{flat_contains}
use Rattle.gc_view.specs.Reach.{Reachable}
use Rattle.gc_store.specs.Stores.{HoldsStart}
use Rattle.gc_owner.specs.declared.entry.GcClass.{GcClass}
use Rattle.gc_image.specs.declared.image.GlobalLine.{GlobalLine}
use Rattle.gc_image.specs.declared.image.ImageReference.TheVariants as image_reference
use Rattle.gc_image.specs.declared.image.ImageValue.{ImageValue}
use Rattle.gc_image.specs.declared.image.ImageValue.TheVariants as value
use Rattle.gc_image.specs.declared.image.ObjectLine.{ObjectLine}
use Rattle.gc_image.specs.declared.image.ObjectLine.TheVariants as object
use Rattle.gc_image.specs.Images.{AreGlobals, Images, SaysSlot, placed_object, placed_value}
use Rattle.gc_image.specs.Parts.{ImageParts}
use Rattle.gc_image.specs.Text.{FitsGlobal, FitsImage, FitsObject, FitsImageValue, image_text}
use Rattle.gc_image.specs.Well.{GlobalHolds, IsWellImage, NamesByNumber, as_object, as_value, line_values, number_named}
use Rattle.gc_load_image.specs.declared.fault.LoadFault.{LoadFault}
use Rattle.gc_load_image.specs.declared.fault.LoadFault.TheVariants as fault
use Rattle.gc_load_image.specs.Loads.{Causes, HasTooLarge, KeepsSettings, LacksHeap, Loads, NotLoaded, TypesLeft, WasRefused, first_pages, global_present, line_count, more_pages, past_most, image_reference_count}
use Rattle.gc_load_image.specs.Stages.{AreGlobalsInRange, AreInRange, DeclaresAll, FilledStore, FillsStore, ImageCauses, ImageTypesLeft, IsDense, KeepsButTypes, LoadedImage, LoadsImage, Making, NotLoadedImage, StopCause, Stops, line_roots, with_types}
use Rattle.gc_load_image.proofs.CountUp.{all_counted, count_up, counted_at, length-count_up}
use Rattle.gc_load_image.proofs.GlobalLemmas.{placed_self}
use Rattle.gc_load_image.proofs.SettingsLemmas.{left_alone, settings_held, settings_twice}

-- Ranges

range_of : {X : Type 0} (P : X → Type 0) (xs : List X) → AllByRecursion P xs → (i : ℕ) (x : X) → slice_get xs i ≡ Some x → P x
range_of P [] all i x e = absurd (none-some x e)
range_of P (y ∷ xs) all zero x e = subst P (same_Some y x e) all.0
range_of P (y ∷ xs) all (suc i) x e = range_of P xs all.1 i x e

object_range : (line : ObjectLine) → FitsObject line → (index : ℕ) (v : ImageValue) → slice_get (line_values line) index ≡ Some v → FitsImageValue v
object_range (object.Struct ty values) fits index v e = range_of FitsImageValue values fits.1 index v e
object_range (object.Array ty values) fits index v e = range_of FitsImageValue values fits.1 index v e
object_range (object.Bytes ty bytes) fits index v e = absurd (none-some v e)
object_range (object.Host n) fits index v e = absurd (none-some v e)
object_range (object.Exn ty tag values) fits index v e = range_of FitsImageValue values fits.3 index v e

pub in_range : (image : ImageParts) → FitsImage image → AreInRange image.objects
in_range image fits number line e index v f = object_range line (range_of FitsObject image.objects fits.objects number line e) index v f

pub globals_in_range : (image : ImageParts) → FitsImage image → AreGlobalsInRange image.globals
globals_in_range image fits index g e = (range_of FitsGlobal image.globals fits.globals index g e).1

-- The beginning

dense_none : (layouts : Layouts) (types : List Declaration) → IsDense layouts types [] no_account.places
dense_none Null types = tt
dense_none Counting types = λ p word. (λ e. absurd (none-some word e), λ a. absurd (let below = a.0 in omega (arith, below)))
dense_none Copying types = tt

pub making_start : (layouts : Layouts) (lines : List ObjectLine) (s : StoreView ℕ) (first most owned : ℕ) (types : List Declaration) → HoldsAccount layouts s (with_types types (start first most owned)) no_account → Making layouts lines [] s
making_start layouts lines s first most owned types holds = record {
  table = with_types types (start first most owned);
  account = no_account;
  standing = record {
    holds = holds;
    named = λ number handle e. absurd (none-some handle e);
    unused = record { drops = refl; owns = refl; interned = refl };
    frames = refl;
    owned = refl;
    pending = refl;
    unset = refl;
  };
  objects = refl;
  dense = dense_none layouts types;
}

-- Numbers stand for themselves

placed_values : (vs : List Value) → map (placed_value (λ n. n)) vs ≡ vs
placed_values [] = refl
placed_values (v ∷ vs) = ap₂ (λ x xs. x ∷ xs) (one v) (placed_values vs)
  where
    one : (v : Value) → placed_value (λ n. n) v ≡ v
    one (numeric kind n) = refl
    one (function f) = refl
    one (continuation cont) = refl
    one (reference c r) = ap (reference c) (placed_self r)

placed_object_self : (o : Object ℕ) → placed_object (λ n. n) o ≡ o
placed_object_self (struct ty vs) = ap (struct ty) (placed_values vs)
placed_object_self (array ty vs) = ap (array ty) (placed_values vs)
placed_object_self (host n) = refl
placed_object_self (exception ty tag vs) = ap (exception ty tag) (placed_values vs)

-- Reach

named_is : (v : ImageValue) (n : ℕ) → number_named v ≡ Some n → (c : GcClass) × (v ≡ value.Ref c (image_reference.Object n))
named_is (value.Ref c image_reference.Null) n e = absurd (none-some n e)
named_is (value.Ref c (image_reference.Small m)) n e = absurd (none-some n e)
named_is (value.Ref c (image_reference.Object m)) n e = (c, ap (λ (k : ℕ). value.Ref c (image_reference.Object k)) (same_Some m n e))
named_is (value.I32 m) n e = absurd (none-some n e)
named_is (value.I64 m) n e = absurd (none-some n e)
named_is (value.F32 m) n e = absurd (none-some n e)
named_is (value.F64 m) n e = absurd (none-some n e)
named_is (value.V128 m) n e = absurd (none-some n e)

contains_slot : {X : Type 0} (xs : List X) (i : ℕ) (x : X) → slice_get xs i ≡ Some x → Contains xs x
contains_slot xs i x e = (i, slice_get_within xs i x e, get_or_from_slice_get xs i x x e)

line_names : (line : ObjectLine) (i : ℕ) (v : ImageValue) (n : ℕ) → slice_get (line_values line) i ≡ Some v → number_named v ≡ Some n → Contains (references_in (as_object line)) (at n)
line_names line i v n e named =
    let is = named_is v n named in
    flat_contains value_references (object_values (as_object line)) i (as_value v) (at n) (values_at line i v e)
    (subst (λ (w : ImageValue). Contains (value_references (as_value w)) (at n)) (sym is.1) (0, omega arith, refl))
  where
    values_at : (line : ObjectLine) (i : ℕ) (v : ImageValue) → slice_get (line_values line) i ≡ Some v → slice_get (object_values (as_object line)) i ≡ Some (as_value v)
    values_at (object.Struct ty values) i v e = slice_get-map as_value values i ∙ ap (option_map as_value) e
    values_at (object.Array ty values) i v e = slice_get-map as_value values i ∙ ap (option_map as_value) e
    values_at (object.Bytes ty bytes) i v e = absurd (none-some v e)
    values_at (object.Host n) i v e = absurd (none-some v e)
    values_at (object.Exn ty tag values) i v e = slice_get-map as_value values i ∙ ap (option_map as_value) e

module _ (layouts : Layouts) (image : ImageParts) (well : IsWellImage image) (s : StoreView ℕ) (t : Table ℕ) (a : Account) (holds : HoldsAccount layouts s t a) (objects : t.objects ≡ map as_object image.objects) (set : AreGlobals (λ n. n) image.globals t.globals) where
  object_at : (p : ℕ) (line : ObjectLine) → slice_get image.objects p ≡ Some line → slice_get t.objects p ≡ Some (as_object line)
  object_at p line e = ap (λ (os : List (Object ℕ)). slice_get os p) objects ∙ slice_get-map as_object image.objects p ∙ ap (option_map as_object) e

  global_starts : (p i : ℕ) (g : GlobalLine) → slice_get image.globals i ≡ Some g → number_named g.value ≡ Some p → Contains (slot_references t.globals) (at p)
  global_starts p i g e named =
      let is = named_is g.value p named in
      let says = set.said i g e in
      let slot : says.0 ≡ record { class = is.0; reference = at p } = subst (λ (v : ImageValue). SaysSlot (λ n. n) v says.0) is.1 says.1.1 in
      contains_slot (slot_references t.globals) g.index (at p) (slice_get-map (λ (x : Slot). x.reference) t.globals g.index ∙ ap (option_map (λ (x : Slot). x.reference)) says.1.0 ∙ ap (λ (x : Slot). Some x.reference) slot)

  goes_there : (p : ℕ) → Reachable (GlobalHolds image.globals) (NamesByNumber image.objects) p → Reached t.objects (slot_references t.globals) p
  goes_there p (by_start held) = by_start (global_starts p held.0 held.1 held.2.0 held.2.1)
  goes_there p (by_step {y = q} reached names) =
      by_step (goes_there q reached) (record { object = as_object names.0; there = object_at q names.0 names.3.0; among = line_names names.0 names.1 names.2 p names.3.1.0 names.3.1.1 })

  among_roots : (r : Reference) → Contains (slot_references t.globals) r → Contains (root_references t) r
  among_roots r c =
      Contains-append_right (map (λ (root : Scoped). root.reference) t.scoped) _ r (Contains-append_right (flat_map slot_references t.frames) _ r (Contains-append_left (slot_references t.globals) _ r c))

  by_roots : (p : ℕ) → Reached t.objects (slot_references t.globals) p → Reached t.objects (root_references t) p
  by_roots p (by_start c) = by_start (among_roots (at p) c)
  by_roots p (by_step {y = q} reached names) = by_step (by_roots q reached) names

  comes_from : (p : ℕ) → Reached t.objects (slot_references t.globals) p → p < length image.objects
  comes_from p reached =
      let word = reached_placed layouts s t holds.place holds.holds p (by_roots p reached) in
      let held = holds.holds.objects.placed p word.0 word.1 in
      let inside = slice_get_within t.objects p held.entry held.in_table in
      let same = ap length objects ∙ length-map image.objects as_object in
      omega (arith, inside, same)

  pub is_of_table : t.types ≡ well.types → Images t image
  is_of_table types = record {
    well = well;
    types = types;
    positions = count_up 0 (length image.objects);
    numbered = length-count_up 0 (length image.objects);
    all = all_counted (λ p. Reached t.objects (slot_references t.globals) p) (length image.objects) (λ p below. goes_there p (well.reached p below)) comes_from;
    position = λ n. n;
    position_is = λ number p e. (let found = counted_at 0 (length image.objects) number p e in let is = found.0 in omega (arith, is));
    objects = λ number p line e f.
        let found = counted_at 0 (length image.objects) number p e in
        let same : p ≡ number = (let is = found.0 in omega (arith, is)) in
        ap (slice_get t.objects) same ∙ object_at number line f ∙ ap Some (sym (placed_object_self (as_object line)));
    globals = set;
  }

-- How many roots are wanted

roots_are : (lines : List ObjectLine) → sum_by line_roots lines ≡ length lines + sum_by line_count lines
roots_are [] = refl
roots_are (line ∷ lines) =
    let rest = roots_are lines in
    let a = sum_by-cons line_roots line lines in
    let b = sum_by-cons line_count line lines in
    omega (arith, rest, a, b)

pub roots_wanted : (image : ImageParts) (most count : ℕ) → count ≡ 0 → most < count + (sum_by line_roots image.objects + sum_by global_present image.globals) → most < length image.objects + 2 * image_reference_count image
roots_wanted image most count none past = let e = roots_are image.objects in omega (arith, e, none, past)

-- What is left when the scope is left

refused_left : (need : ℕ) (limits limits' : Limits) (t : Table ℕ) → WasRefused need limits limits' t → WasRefused need limits limits' (leave 0 t)
refused_left need limits limits' t (first_pages unmade some above rose last) = first_pages unmade some above rose last
refused_left need limits limits' t (past_most made past) = past_most made past
refused_left need limits limits' t (more_pages made above rose last) = more_pages made above rose last

lacks_left : (layouts : Layouts) (types : List Declaration) (lines : List ObjectLine) (need : ℕ) (limits limits' : Limits) (t : Table ℕ) → LacksHeap layouts types lines need limits limits' t → LacksHeap layouts types lines need limits limits' (leave 0 t)
lacks_left layouts types lines need limits limits' t lacks = record { number = lacks.number; line = lacks.line; line_is = lacks.line_is; need_is = lacks.need_is; refused = refused_left need limits limits' t lacks.refused; full = lacks.full }

pub loaded_image : (layouts : Layouts) (image : ImageParts) (well : IsWellImage image) (old now new : StoreView ℕ) (n scope : ℕ) → old.types ≡ well.types → scope ≡ 0 → (filled : FilledStore layouts image.objects image.globals old n now)
    → ((t : Table ℕ) (a : Account) → HoldsAccount layouts now t a → HoldsAccount layouts new (leave scope t) a) → LoadedImage layouts image n new
loaded_image layouts image well old now new n scope types none filled leaves =
    let holds : HoldsAccount layouts new (leave 0 filled.table) filled.account = subst (λ k. HoldsAccount layouts new (leave k filled.table) filled.account) none (leaves filled.table filled.account filled.holds) in
    record {
      table = leave 0 filled.table;
      account = filled.account;
      holds = holds;
      images = is_of_table layouts image well new (leave 0 filled.table) filled.account holds filled.objects filled.set (sym filled.holds.holds.types ∙ filled.types ∙ types);
      count = filled.count;
      alone = left_alone filled.table filled.unused filled.frames filled.owned filled.pending;
    }

pub not_loaded : (layouts : Layouts) (image : ImageParts) (well : IsWellImage image) (limits limits' : Limits) (most : ℕ) (old now new : StoreView ℕ) (scope : ℕ) (why : LoadFault) → old.types ≡ well.types → old.max_scoped ≡ most → length old.scoped ≡ 0 → scope ≡ 0
    → (stops : Stops layouts old.types image.objects limits limits' (sum_by line_roots image.objects + sum_by global_present image.globals) old why now)
    → ((t : Table ℕ) (a : Account) → HoldsAccount layouts now t a → HoldsAccount layouts new (leave scope t) a) → NotLoadedImage layouts most image limits limits' why new
not_loaded layouts image well limits limits' most old now new scope why types same count none stops leaves = record {
  table = leave 0 stops.bare.table;
  account = stops.bare.account;
  holds = subst (λ k. HoldsAccount layouts new (leave k stops.bare.table) stops.bare.account) none (leaves stops.bare.table stops.bare.account stops.bare.holds);
  alone = left_alone stops.bare.table stops.bare.unused stops.bare.frames stops.bare.owned stops.bare.pending;
  unset = stops.bare.unset;
  well = well;
  types = left why stops.cause;
  cause = by why stops.cause;
}
  where
    all : stops.bare.table.types ≡ well.types
    all = sym stops.bare.holds.holds.types ∙ stops.same_types ∙ types

    left : (w : LoadFault) → StopCause layouts old.types image.objects limits limits' (sum_by line_roots image.objects + sum_by global_present image.globals) old w stops.bare.table → ImageTypesLeft well.types w stops.bare.table.types
    left fault.BadImage c = c
    left fault.TooLarge c = all
    left fault.RootsFull c = all
    left (fault.HeapOutOfMemory f) c = all
    left fault.Memory c = ([], sym all ∙ sym (append-nil stops.bare.table.types))

    by : (w : LoadFault) → StopCause layouts old.types image.objects limits limits' (sum_by line_roots image.objects + sum_by global_present image.globals) old w stops.bare.table → ImageCauses layouts most image well limits limits' w (leave 0 stops.bare.table)
    by fault.BadImage c = c
    by fault.TooLarge c = subst (λ (ts : List Declaration). HasTooLarge layouts ts image.objects) types c
    by fault.RootsFull c = roots_wanted image most (length old.scoped) count (subst (λ k. k < length old.scoped + (sum_by line_roots image.objects + sum_by global_present image.globals)) same c)
    by (fault.HeapOutOfMemory f) c = lacks_left layouts well.types image.objects f.bytes_needed limits limits' stops.bare.table (subst (λ (ts : List Declaration). LacksHeap layouts ts image.objects f.bytes_needed limits limits' stops.bare.table) types c)
    by fault.Memory c = tt

pub loads_all : (layouts : Layouts) (image : ImageParts) (well : IsWellImage image) (limits limits' : Limits) (most : ℕ) (old now new : StoreView ℕ) (scope : ℕ) (result : Result ℕ LoadFault) → old.types ≡ well.types → old.max_scoped ≡ most → length old.scoped ≡ 0 → scope ≡ 0
    → FillsStore layouts image.objects image.globals limits limits' old result now → ((t : Table ℕ) (a : Account) → HoldsAccount layouts now t a → HoldsAccount layouts new (leave scope t) a) → LoadsImage layouts most image limits limits' result new
loads_all layouts image well limits limits' most old now new scope (Ok n) types same count none fills leaves = loaded_image layouts image well old now new n scope types none fills leaves
loads_all layouts image well limits limits' most old now new scope (Err why) types same count none fills leaves = not_loaded layouts image well limits limits' most old now new scope why types same count none fills leaves

-- its types could not be declared for want of memory
pub declare_stops : (layouts : Layouts) (image : ImageParts) (well : IsWellImage image) (limits : Limits) (most first owned : ℕ) (types : List Declaration) (new : StoreView ℕ) → HoldsAccount layouts new (with_types types (start first most owned)) no_account
    → (why : LoadFault) → DeclaresAll image.types types (Err why) → NotLoadedImage layouts most image limits limits why new
declare_stops layouts image well limits most first owned types new holds fault.BadImage none = absurd (none well.types well.declared)
declare_stops layouts image well limits most first owned types new holds fault.TooLarge none = absurd none
declare_stops layouts image well limits most first owned types new holds fault.RootsFull none = absurd none
declare_stops layouts image well limits most first owned types new holds (fault.HeapOutOfMemory f) none = absurd none
declare_stops layouts image well limits most first owned types new holds fault.Memory front = record {
  table = with_types types (start first most owned);
  account = no_account;
  holds = holds;
  alone = record { scoped = refl; frames = refl; owned = refl; pending = refl; owns = refl; interned = refl; drops = omega arith };
  unset = refl;
  well = well;
  types = front well.types well.declared;
  cause = tt;
}

-- the configuration, when types were declared, and when the scope was left
pub settings_declared : (layouts : Layouts) (s new : StoreView ℕ) → HoldsStart ℕ layouts s → KeepsButTypes layouts s new → KeepsSettings s new
settings_declared layouts s new holds keeps =
    let t = start s.first s.max_scoped s.max_owned in
    settings_held layouts s new t (with_types new.types t) no_account no_account holds (keeps t no_account holds) refl refl refl

pub settings_filled : (layouts : Layouts) (lines : List ObjectLine) (globals : List GlobalLine) (limits limits' : Limits) (old now new : StoreView ℕ) (scope : ℕ) (result : Result ℕ LoadFault) → FillsStore layouts lines globals limits limits' old result now
    → ((t : Table ℕ) (a : Account) → HoldsAccount layouts now t a → HoldsAccount layouts new (leave scope t) a) → KeepsSettings old new
settings_filled layouts lines globals limits limits' old now new scope (Ok n) filled leaves =
    settings_twice old now new filled.same
    (settings_held layouts now new filled.table (leave scope filled.table) filled.account filled.account filled.holds (leaves filled.table filled.account filled.holds) refl refl refl)
settings_filled layouts lines globals limits limits' old now new scope (Err why) stops leaves =
    settings_twice old now new stops.same
    (settings_held layouts now new stops.bare.table (leave scope stops.bare.table) stops.bare.account stops.bare.account stops.bare.holds (leaves stops.bare.table stops.bare.account stops.bare.holds) refl refl refl)

-- Bytes

-- nothing was done
pub not_begun : (layouts : Layouts) (bytes : List ℕ) (limits : Limits) (s : StoreView ℕ) (why : LoadFault) → HoldsStart ℕ layouts s → TypesLeft bytes why [] → Causes layouts s.max_scoped bytes limits limits why (start s.first s.max_scoped s.max_owned) → NotLoaded layouts s.max_scoped bytes limits limits why s
not_begun layouts bytes limits s why holds types cause = record {
  table = start s.first s.max_scoped s.max_owned;
  account = no_account;
  holds = holds;
  alone = record { scoped = refl; frames = refl; owned = refl; pending = refl; owns = refl; interned = refl; drops = omega arith };
  unset = refl;
  types = types;
  cause = cause;
}

text_causes : (layouts : Layouts) (most : ℕ) (bytes : List ℕ) (image : ImageParts) (limits limits' : Limits) (t : Table ℕ) → FitsImage image → bytes ≡ image_text image → (well : IsWellImage image) → (why : LoadFault) → ImageCauses layouts most image well limits limits' why t → Causes layouts most bytes limits limits' why t
text_causes layouts most bytes image limits limits' t fits spelled well fault.BadImage c = absurd c
text_causes layouts most bytes image limits limits' t fits spelled well fault.TooLarge c = (record { image = image; fits = fits; spelled = spelled; well = well }, c)
text_causes layouts most bytes image limits limits' t fits spelled well fault.RootsFull c = (record { image = image; fits = fits; spelled = spelled; well = well }, c)
text_causes layouts most bytes image limits limits' t fits spelled well (fault.HeapOutOfMemory f) c = (record { image = image; fits = fits; spelled = spelled; well = well }, c)
text_causes layouts most bytes image limits limits' t fits spelled well fault.Memory c = tt

text_types : (bytes : List ℕ) (image : ImageParts) (types : List Declaration) → FitsImage image → bytes ≡ image_text image → (well : IsWellImage image) → (why : LoadFault) → ImageTypesLeft well.types why types → TypesLeft bytes why types
text_types bytes image types fits spelled well fault.BadImage left = absurd left
text_types bytes image types fits spelled well fault.TooLarge left = (record { image = image; fits = fits; spelled = spelled; well = well }, left)
text_types bytes image types fits spelled well fault.RootsFull left = (record { image = image; fits = fits; spelled = spelled; well = well }, left)
text_types bytes image types fits spelled well (fault.HeapOutOfMemory f) left = (record { image = image; fits = fits; spelled = spelled; well = well }, left)
text_types bytes image types fits spelled well fault.Memory left = inr (record { image = image; fits = fits; spelled = spelled; well = well }, left)

-- an image that is well is not refused as a bad one
pub never_bad : (layouts : Layouts) (most : ℕ) (image : ImageParts) (limits limits' : Limits) (new : StoreView ℕ) (result : Result ℕ LoadFault) → LoadsImage layouts most image limits limits' result new → ¬ (result ≡ Err fault.BadImage)
never_bad layouts most image limits limits' new result loads bad = (subst (λ (r : Result ℕ LoadFault). LoadsImage layouts most image limits limits' r new) bad loads).cause

pub loads_text : (layouts : Layouts) (most : ℕ) (bytes : List ℕ) (image : ImageParts) (limits limits' : Limits) (new : StoreView ℕ) → FitsImage image → bytes ≡ image_text image → (result : Result ℕ LoadFault) → LoadsImage layouts most image limits limits' result new → Loads layouts most bytes limits limits' result new
loads_text layouts most bytes image limits limits' new fits spelled (Ok n) did = record {
  table = did.table;
  account = did.account;
  holds = did.holds;
  images = record { image = image; fits = fits; spelled = spelled; images = did.images };
  count = did.count;
  alone = did.alone;
}
loads_text layouts most bytes image limits limits' new fits spelled (Err why) did = record {
  table = did.table;
  account = did.account;
  holds = did.holds;
  alone = did.alone;
  unset = did.unset;
  types = text_types bytes image did.table.types fits spelled did.well why did.types;
  cause = text_causes layouts most bytes image limits limits' did.table fits spelled did.well why did.cause;
}
