-- The values of lines, as a store takes them.
use Rattle.std.proofs.Common.{◌≡◌, ℕ, ◌+◌, ◌^◌, ◌%◌, ◌<◌, ◌≤◌, Bool, true, false, cond, nat_lt, List, length, Option, Some, None, Ok, Err, refl, sym, ap, ◌∙◌, subst, arith}
use Rattle.std.specs.List.{slice_get}
use Rattle.std.proofs.lemmas.Bool.Decides.{nat_tests}
use Rattle.std.proofs.lemmas.List.{length_push}
use Rattle.std.proofs.lemmas.Option.{slice_get_within}
use Rattle.gc_types.specs.declared.kind.Layouts.{Layouts}
use Rattle.gc_model.specs.Live.{roots_full}
use Rattle.gc_model.specs.Stores.{StoreView}
use Rattle.gc_model.specs.Table.{Table, push}
use Rattle.gc_model.specs.Values.{Reference, null, small, at, reference}
use Rattle.gc_model.specs.Accounts.{Account, HoldsAccount}
use Rattle.gc_owner.specs.declared.entry.GcClass.{GcClass}
use Rattle.gc_values.specs.declared.root.GcRootIndex.{GcRootIndex}
use Rattle.gc_values.specs.declared.root.RawValue.TheVariants as raw
use Rattle.gc_values.specs.declared.root.RootFault.{RootFault}
use Rattle.gc_values.specs.declared.root.RootFault.TheVariants as root_fault
use Rattle.gc_store.specs.Handles.{PushesRoot}
use Rattle.gc_store.specs.Roots.{NamesReference}
use Rattle.gc_store.specs.Slots.{HandleStands}
use Rattle.gc_store.specs.Stores.{IsSameStore}
use Rattle.gc_store.specs.Values.{RawStands}
use Rattle.gc_image.specs.declared.image.ImageReference.{ImageReference}
use Rattle.gc_image.specs.declared.image.ImageReference.TheVariants as image_reference
use Rattle.gc_image.specs.declared.image.ImageValue.{ImageValue}
use Rattle.gc_image.specs.declared.image.ImageValue.TheVariants as value
use Rattle.gc_image.specs.Text.{FitsImageReference, FitsImageValue}
use Rattle.gc_load_image.specs.declared.fault.LoadFault.{LoadFault}
use Rattle.gc_load_image.specs.Stages.{FindsHandle, FindsRawValue, PushesForValues, Standing, StopsAtRoots, early_reference, told_of_root}
use Rattle.gc_load_image.proofs.PushedRoots.{named_pushed, new_named}
use Rattle.gc_load_image.proofs.SettingsLemmas.{settings_held, settings_itself, settings_twice, unused_like}

-- nothing was pushed
abbrev pub pushes_none : (layouts : Layouts) (handles : List GcRootIndex) (most : ℕ) (s : StoreView ℕ) (t : Table ℕ) (a : Account) → Standing layouts handles s t a → PushesForValues layouts handles most s t a s
pushes_none layouts handles most s t a standing = record {
  table = t;
  standing = standing;
  objects = refl;
  types = refl;
  stays = λ h r named. named;
  few = omega arith;
  same = settings_itself s;
}

-- more may be pushed than were
abbrev pub pushes_more : (layouts : Layouts) (handles : List GcRootIndex) (few most : ℕ) (s : StoreView ℕ) (t : Table ℕ) (a : Account) (new : StoreView ℕ) → few ≤ most → PushesForValues layouts handles few s t a new → PushesForValues layouts handles most s t a new
pushes_more layouts handles few most s t a new below p = record {
  table = p.table;
  standing = p.standing;
  objects = p.objects;
  types = p.types;
  stays = p.stays;
  few = (let few = p.few in omega (arith, few, below));
  same = p.same;
}

-- two steps
abbrev pub pushes_twice : (layouts : Layouts) (handles : List GcRootIndex) (m n : ℕ) (s : StoreView ℕ) (t : Table ℕ) (a : Account) (mid new : StoreView ℕ) (p : PushesForValues layouts handles m s t a mid) → PushesForValues layouts handles n mid p.table a new
    → PushesForValues layouts handles (m + n) s t a new
pushes_twice layouts handles m n s t a mid new p q = record {
  table = q.table;
  standing = q.standing;
  objects = q.objects ∙ p.objects;
  types = q.types ∙ p.types;
  stays = λ h r named. q.stays h r (p.stays h r named);
  few = (let one = p.few in let two = q.few in omega (arith, one, two));
  same = settings_twice s mid new p.same q.same;
}

module _ (layouts : Layouts) (handles : List GcRootIndex) (s new : StoreView ℕ) (t : Table ℕ) (a : Account) (standing : Standing layouts handles s t a) where
  module _ (same : IsSameStore s new) (q : Reference) (holds : HoldsAccount layouts new (push q t) a) where
    abbrev pub pushed_one : PushesForValues layouts handles 1 s t a new
    pushed_one = record {
      table = push q t;
      standing = record {
        holds = holds;
        named = λ number handle e. named_pushed s new same t q handle (at number) (standing.named number handle e);
        unused = unused_like t (push q t) refl refl refl standing.unused;
        frames = standing.frames;
        owned = standing.owned;
        pending = standing.pending;
        unset = standing.unset;
      };
      objects = refl;
      types = refl;
      stays = λ h r named. named_pushed s new same t q h r named;
      few = (
          let before = standing.holds.holds.scoped.same_count in
          let after = holds.holds.scoped.same_count in
          let more : length (push q t).scoped ≡ length t.scoped + 1 = length_push t.scoped _ in
          omega (arith, before, after, more));
      same = settings_held layouts s new t (push q t) a a standing.holds holds refl refl refl;
    }

  pub full_is : roots_full t ≡ true → s.max_scoped < length s.scoped + 1
  full_is full =
      let none : t.drops ≡ 0 = standing.unused.drops in
      let most = standing.holds.holds.settings.max_scoped in
      let count = standing.holds.holds.scoped.same_count in
      let past : t.max_scoped ≤ length t.scoped = grind (arith, nat_tests, full, none) in
      omega (arith, past, most, count)

  -- a 31-bit number was pushed
  small_found : (n : ℕ) (handle : GcRootIndex) → IsSameStore s new → PushesRoot layouts t a (small n) (Ok handle) new → (p : PushesForValues layouts handles 1 s t a new) × NamesReference new p.table handle (small n)
  small_found n handle same pushes = (pushed_one same (small n) pushes.1.1, new_named layouts s t standing.holds.place standing.holds.holds new (small n) handle pushes.1.0)

  small_stops : (n : ℕ) (why : RootFault) → PushesRoot layouts t a (small n) (Err why) new → StopsAtRoots 1 s (told_of_root why)
  small_stops n root_fault.WrongStore pushes = absurd pushes
  small_stops n root_fault.Unrooted pushes = absurd pushes
  small_stops n root_fault.RootsFull pushes = full_is pushes.0
  small_stops n root_fault.Memory pushes = tt

  pub found_small : (r : ImageReference) (n m : ℕ) (handle : GcRootIndex) → r ≡ image_reference.Small n → m ≡ n % 2 ^ 31 → FitsImageReference r → IsSameStore s new → PushesRoot layouts t a (small m) (Ok handle) new
      → FindsHandle layouts handles r s t a (Ok (Some handle)) new
  found_small r n m handle is low fits same pushes =
      subst (λ (x : ImageReference). FindsHandle layouts handles x s t a (Ok (Some handle)) new) (sym is)
      (let below : n < 2 ^ 31 = subst FitsImageReference is fits in
      let number : m ≡ n = omega (arith, low, below) in
      small_found n handle same (subst (λ (k : ℕ). PushesRoot layouts t a (small k) (Ok handle) new) number pushes))

  pub stopped_small : (r : ImageReference) (n m : ℕ) (why : RootFault) (told : LoadFault) → r ≡ image_reference.Small n → told ≡ told_of_root why → new ≡ s → PushesRoot layouts t a (small m) (Err why) new
      → FindsHandle layouts handles r s t a (Err told) new
  stopped_small r n m why told is told_is unchanged pushes =
      subst (λ (x : ImageReference). FindsHandle layouts handles x s t a (Err told) new) (sym is)
      (subst (λ (f : LoadFault). PushesForValues layouts handles 0 s t a new × StopsAtRoots 1 s f) (sym told_is)
      (subst (λ (v : StoreView ℕ). PushesForValues layouts handles 0 s t a v) (sym unchanged) (pushes_none layouts handles 0 s t a standing), small_stops m why pushes))

  pub found_null : (r : ImageReference) → r ≡ image_reference.Null → FindsHandle layouts handles r s t a (Ok None) s
  found_null r is = subst (λ (x : ImageReference). FindsHandle layouts handles x s t a (Ok None) s) (sym is) (pushes_none layouts handles 0 s t a standing, refl)

  pub found_object : (r : ImageReference) (number : ℕ) (handle : GcRootIndex) → r ≡ image_reference.Object number → slice_get handles number ≡ Some handle → FindsHandle layouts handles r s t a (Ok (Some handle)) s
  found_object r number handle is there =
      let below = slice_get_within handles number handle there in
      let test : nat_lt number (length handles) ≡ true = grind (arith, nat_tests, below) in
      subst (λ (x : ImageReference). FindsHandle layouts handles x s t a (Ok (Some handle)) s) (sym is)
      (pushes_none layouts handles 1 s t a standing, subst (NamesReference s t handle) (sym (ap (λ (b : Bool). cond b (at number) null) test)) (standing.named number handle there))

  pub late_object : (r : ImageReference) (number : ℕ) → r ≡ image_reference.Object number → length handles ≤ number → FindsHandle layouts handles r s t a (Ok None) s
  late_object r number is past =
      let test : nat_lt number (length handles) ≡ false = grind (arith, nat_tests, past) in
      subst (λ (x : ImageReference). FindsHandle layouts handles x s t a (Ok None) s) (sym is)
      (pushes_none layouts handles 1 s t a standing, ap (λ (b : Bool). cond b (at number) null) test)

-- a handle as a value
raw_stands : (s : StoreView ℕ) (t : Table ℕ) (class : GcClass) (handle : Option GcRootIndex) (r : Reference) → HandleStands s t handle r → RawStands s t (raw.Ref class handle) (reference class r)
raw_stands s t class None r is = ap (reference class) is
raw_stands s t class (Some handle) r named = record { root = r; named = named; is = refl }

module _ (layouts : Layouts) (handles : List GcRootIndex) (s new : StoreView ℕ) (t : Table ℕ) (a : Account) (v : ImageValue) (class : GcClass) (r : ImageReference) (is : v ≡ value.Ref class r) where
  pub reference_fits : FitsImageValue v → FitsImageReference r
  reference_fits fits = subst FitsImageValue is fits

  pub found_reference : (handle : Option GcRootIndex) → FindsHandle layouts handles r s t a (Ok handle) new → FindsRawValue layouts handles v s t a (Ok (raw.Ref class handle)) new
  found_reference handle found =
      subst (λ (x : ImageValue). FindsRawValue layouts handles x s t a (Ok (raw.Ref class handle)) new) (sym is)
      (found.0, raw_stands new found.0.table class handle (early_reference (length handles) r) found.1)

  pub stopped_reference : (why : LoadFault) → FindsHandle layouts handles r s t a (Err why) new → FindsRawValue layouts handles v s t a (Err why) new
  stopped_reference why found = subst (λ (x : ImageValue). FindsRawValue layouts handles x s t a (Err why) new) (sym is) found
