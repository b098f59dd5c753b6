-- References that are written late.
use Rattle.std.proofs.Common.{inl, inr, ◌≡◌, ℕ, suc, ◌+◌, ◌<◌, ◌≤◌, true, List, [], ◌∷◌, map, length, take, Some, Result, Ok, Err, refl, sym, ap, ap₂, ◌∙◌, subst, arith}
use Rattle.std.specs.Prelude.{Bool, ◌||◌, option_map, slice_set}
use Rattle.std.specs.List.{slice_get}
use Rattle.std.proofs.lemmas.Bool.{cases_eq, cases_lt}
use Rattle.std.proofs.lemmas.List.{length-map, length-set, take_all}
use Rattle.std.proofs.lemmas.Option.{none-some, same_Some, slice_get-map, slice_get_cases, slice_get_within}
use Rattle.gc_types.specs.declared.kind.Layouts.{Layouts}
use Rattle.gc_types.specs.declared.value.FieldType.{FieldType}
use Rattle.gc_types.specs.declared.value.Mutability.{Mutability}
use Rattle.gc_types.specs.declared.value.Mutability.TheVariants.{Const, Var}
use Rattle.gc_types.specs.Declarations.{Declaration}
use Rattle.gc_model.specs.Fits.{fits}
use Rattle.gc_model.specs.Reach.{object_values}
use Rattle.gc_model.specs.Stored.{byte_value, value_type}
use Rattle.gc_model.specs.Stores.{StoreView}
use Rattle.gc_model.specs.Table.{Table, with_value, write}
use Rattle.gc_model.specs.Values.{Reference, at, Value, reference, Object}
use Rattle.gc_model.proofs.Changes.{length-change_at, slice_get-change_at_other, slice_get-change_at_same, slice_get-set_other, slice_get-set_same}
use Rattle.gc_owner.specs.declared.entry.GcClass.{GcClass}
use Rattle.gc_model.specs.Accounts.{Account, HoldsAccount}
use Rattle.gc_values.specs.declared.root.GcRootIndex.{GcRootIndex}
use Rattle.gc_values.specs.declared.root.RawValue.{RawValue}
use Rattle.gc_values.specs.declared.root.RawValue.TheVariants as raw
use Rattle.gc_store.specs.Roots.{HasValue, NamesReference}
use Rattle.gc_store.specs.Stores.{IsSameStore}
use Rattle.gc_store.specs.Values.{CanWrite, KeepsValue, RawStands, WritesValue}
use Rattle.gc_values.specs.declared.faults.WriteFault.{WriteFault}
use Rattle.std.specs.Prelude.{IsOk}
use Rattle.gc_image.specs.declared.image.ImageReference.TheVariants as image_reference
use Rattle.gc_image.specs.declared.image.ImageValue.{ImageValue}
use Rattle.gc_image.specs.declared.image.ImageValue.TheVariants as value
use Rattle.gc_image.specs.declared.image.ObjectLine.{ObjectLine}
use Rattle.gc_image.specs.declared.image.ObjectLine.TheVariants as object
use Rattle.gc_image.specs.Well.{AreWellObjects, IsWellValue, as_object, as_value, is_early, is_immutable, line_values, number_named, wants_object}
use Rattle.gc_image.proofs.AlikeLemmas.{named_below}
use Rattle.gc_load_image.specs.Stages.{AreWritten, Complete, LoadGoesOn, Making, Standing, StandsTo, Writing, early_object, early_objects, early_value, line_object}
use Rattle.gc_load_image.proofs.EarlyLemmas.{AreMade, early_alike, early_at, early_length, made_alike, reference_stored}
use Rattle.gc_load_image.proofs.PushedRoots.{named_same}
use Rattle.gc_load_image.proofs.FitsAlike.{AlikeObject, can_store, fits_alike}
use Rattle.gc_load_image.proofs.SettingsLemmas.{settings_held, settings_itself, settings_twice, unused_like}

-- Values

-- none is written
none_written : (number : ℕ) (vs : List ImageValue) → AreWritten number 0 vs (map (early_value number) vs)
none_written number vs = record {
  same_count = length-map vs (early_value number);
  done = λ j v below e. absurd (omega (arith, below));
  rest = λ j v above e. slice_get-map (early_value number) vs j ∙ ap (option_map (early_value number)) e;
}

-- lists whose elements are the same
same_lists : {X : Type 0} (xs ys : List X) → length xs ≡ length ys → ((i : ℕ) (x : X) → slice_get ys i ≡ Some x → slice_get xs i ≡ Some x) → xs ≡ ys
same_lists [] [] same each = refl
same_lists [] (y ∷ ys) same each = absurd (omega (arith, same))
same_lists (x ∷ xs) [] same each = absurd (omega (arith, same))
same_lists (x ∷ xs) (y ∷ ys) same each = ap₂ (λ z zs. z ∷ zs) (same_Some x y (each 0 y refl)) (same_lists xs ys (omega (arith, same)) (λ i. each (suc i)))

all_written : (number index : ℕ) (vs : List ImageValue) (ws : List Value) → length vs ≤ index → AreWritten number index vs ws → ws ≡ map as_value vs
all_written number index vs ws over written =
    same_lists ws (map as_value vs) (written.same_count ∙ sym (length-map vs as_value))
    (λ i x e. elim ((slice_get_cases vs i).1) [
      | inl found ↦
          let is : as_value found.0 ≡ x = same_Some (as_value found.0) x (sym (slice_get-map as_value vs i ∙ ap (option_map as_value) found.2) ∙ e) in
          written.done i found.0 (let inside = slice_get_within vs i found.0 found.2 in omega (arith, inside, over)) found.2 ∙ ap Some is
      | inr past ↦ absurd (let inside = slice_get_within (map as_value vs) i x e in omega (arith, past.0, inside, length-map vs as_value))
    ])

-- one that stays is written as it is
kept_written : (number index : ℕ) (vs : List ImageValue) (ws : List Value) (v : ImageValue) → slice_get vs index ≡ Some v → early_value number v ≡ as_value v → AreWritten number index vs ws → AreWritten number (index + 1) vs ws
kept_written number index vs ws v found is written = record {
  same_count = written.same_count;
  done = λ j x below e. elim (cases_lt j index) [
    | inl less ↦ written.done j x less e
    | inr here ↦
        let same : j ≡ index = omega (arith, below, here) in
        let one : v ≡ x = same_Some v x (sym found ∙ sym (ap (slice_get vs) same) ∙ e) in
        written.rest j x here e ∙ ap Some (subst (λ (y : ImageValue). early_value number y ≡ as_value y) one is)
  ];
  rest = λ j x above e. written.rest j x (omega (arith, above)) e;
}

-- another is written
one_written : (number index : ℕ) (vs : List ImageValue) (ws : List Value) (v : ImageValue) → slice_get vs index ≡ Some v → AreWritten number index vs ws → AreWritten number (index + 1) vs (slice_set ws index (as_value v))
one_written number index vs ws v found written =
    let inside : index < length ws = (let below = slice_get_within vs index v found in omega (arith, below, written.same_count)) in
    record {
      same_count = length-set ws index (as_value v) ∙ written.same_count;
      done = λ j x below e. elim (cases_lt j index) [
        | inl less ↦ slice_get-set_other ws index j (as_value v) (λ same. absurd (omega (arith, same, less))) ∙ written.done j x less e
        | inr here ↦
            let same : j ≡ index = omega (arith, below, here) in
            let one : v ≡ x = same_Some v x (sym found ∙ sym (ap (slice_get vs) same) ∙ e) in
            ap (slice_get (slice_set ws index (as_value v))) same ∙ slice_get-set_same ws index (as_value v) inside ∙ ap (λ (y : ImageValue). Some (as_value y)) one
      ];
      rest = λ j x above e. slice_get-set_other ws index j (as_value v) (λ same. absurd (omega (arith, same, above))) ∙ written.rest j x (omega (arith, above)) e;
    }

-- Objects of lines

line_object-values : (line : ObjectLine) (ws : List Value) (i : ℕ) (v : ImageValue) → slice_get (line_values line) i ≡ Some v → object_values (line_object line ws) ≡ ws
line_object-values (object.Struct ty values) ws i v e = refl
line_object-values (object.Array ty values) ws i v e = refl
line_object-values (object.Bytes ty bytes) ws i v e = absurd (none-some v e)
line_object-values (object.Host n) ws i v e = absurd (none-some v e)
line_object-values (object.Exn ty tag values) ws i v e = refl

line_object-set : (line : ObjectLine) (ws : List Value) (i : ℕ) (v : ImageValue) (w : Value) → slice_get (line_values line) i ≡ Some v → with_value i w (line_object line ws) ≡ line_object line (slice_set ws i w)
line_object-set (object.Struct ty values) ws i v w e = refl
line_object-set (object.Array ty values) ws i v w e = refl
line_object-set (object.Bytes ty bytes) ws i v w e = absurd (none-some v e)
line_object-set (object.Host n) ws i v w e = absurd (none-some v e)
line_object-set (object.Exn ty tag values) ws i v w e = refl

line_object-type : (types : List Declaration) (line : ObjectLine) (ws : List Value) (i : ℕ) → value_type types (line_object line ws) i ≡ value_type types (as_object line) i
line_object-type types (object.Struct ty values) ws i = refl
line_object-type types (object.Array ty values) ws i = refl
line_object-type types (object.Bytes ty bytes) ws i = refl
line_object-type types (object.Host n) ws i = refl
line_object-type types (object.Exn ty tag values) ws i = refl

line_object-early : (number : ℕ) (line : ObjectLine) → early_object number line ≡ line_object line (map (early_value number) (line_values line))
line_object-early number (object.Struct ty values) = refl
line_object-early number (object.Array ty values) = refl
line_object-early number (object.Bytes ty bytes) = refl
line_object-early number (object.Host n) = refl
line_object-early number (object.Exn ty tag values) = refl

line_object-all : (line : ObjectLine) → line_object line (map as_value (line_values line)) ≡ as_object line
line_object-all (object.Struct ty values) = refl
line_object-all (object.Array ty values) = refl
line_object-all (object.Bytes ty bytes) = refl
line_object-all (object.Host n) = refl
line_object-all (object.Exn ty tag values) = refl

line_object-alike : (line : ObjectLine) (ws : List Value) → AlikeObject (as_object line) (line_object line ws)
line_object-alike (object.Struct ty values) ws = (ws, refl)
line_object-alike (object.Array ty values) ws = (ws, refl)
line_object-alike (object.Bytes ty bytes) ws = (map byte_value bytes, refl)
line_object-alike (object.Host n) ws = (n, refl)
line_object-alike (object.Exn ty tag values) ws = (tag, (ws, refl))

-- a handle names what it named where a value was written
written_over : (s : StoreView ℕ) (t : Table ℕ) (number index : ℕ) (v : Value) (h : GcRootIndex) (r : Reference) → NamesReference s t h r → NamesReference s (write number index v t) h r
written_over s t number index v h r (inl named) = inl (record { serial = named.serial; names = record { push = named.names.push; pushed = named.names.pushed; is = named.names.is }; live = named.live })
written_over s t number index v h r (inr named) = inr (record { number = named.number; names = named.names; live = named.live })

-- what isn't early may be changed
mutable_unless : (m : Mutability) (rest : Bool) → ((is_immutable m || rest) ≡ true → ⊥) → m ≡ Var
mutable_unless Const rest never = absurd (never refl)
mutable_unless Var rest never = refl

-- a value that names an object which was made no earlier may be changed
late_is_mutable : (field : FieldType) (number named : ℕ) (v : ImageValue) → (is_early field ≡ true → (n : ℕ) → number_named v ≡ Some n → n < number)
    → number_named v ≡ Some named → number ≤ named → field.mutability ≡ Var
late_is_mutable field number named v early is late =
    mutable_unless field.mutability (wants_object field.element_type) (λ found. let less = early found named is in omega (arith, less, late))

module _ (layouts : Layouts) (lines : List ObjectLine) (handles : List GcRootIndex) (number index : ℕ) (s : StoreView ℕ) (w : Writing layouts lines handles number index s) (line : ObjectLine) (line_is : slice_get lines number ≡ Some line) (v : ImageValue) (v_is : slice_get (line_values line) index ≡ Some v) where
  abbrev t : Table ℕ
  t = w.table

  object_at : (p : ℕ) (x : ObjectLine) → slice_get lines p ≡ Some x → (o : Object ℕ) × (slice_get t.objects p ≡ Some o)
  object_at p x e = elim ((slice_get_cases t.objects p).1) [
    | inl found ↦ (found.0, found.2)
    | inr past ↦ absurd (let inside = slice_get_within lines p x e in omega (arith, past.0, inside, w.count))
  ]

  one_line : (x : ObjectLine) → slice_get lines number ≡ Some x → line ≡ x
  one_line x e = same_Some line x (sym line_is ∙ e)

  -- the objects are those of the image but for values
  pub all_made : AreMade lines (length lines) t.objects
  all_made = record {
    each = λ p x below e. elim (cases_lt p number) [
      | inl less ↦ (as_object x, (w.done p x less e, subst (AlikeObject (as_object x)) (line_object-all x) (line_object-alike x (map as_value (line_values x)))))
      | inr above ↦ elim (cases_eq p number) [
        | inl same ↦
            let o = object_at p x e in
            let stands = w.here x o.0 (ap (slice_get lines) (sym same) ∙ e) (ap (slice_get t.objects) (sym same) ∙ o.1) in
            (o.0, (o.1, subst (AlikeObject (as_object x)) (sym stands.is) (line_object-alike x stands.values)))
        | inr differ ↦ (early_object p x, (w.rest p x (omega (arith, above, differ)) e, early_alike p x))
      ]
    ];
  }

  -- a value that stays
  pub writing_kept : early_value number v ≡ as_value v → Writing layouts lines handles number (index + 1) s
  writing_kept is = record {
    table = w.table;
    account = w.account;
    standing = w.standing;
    count = w.count;
    done = w.done;
    here = λ x o e f.
        let stands = w.here x o e f in
        let same : slice_get (line_values x) index ≡ Some v = subst (λ (y : ObjectLine). slice_get (line_values y) index ≡ Some v) (one_line x e) v_is in
        record { values = stands.values; is = stands.is; written = kept_written number index (line_values x) stands.values v same is stands.written };
    rest = w.rest;
  }

  module _ (class : GcClass) (named : ℕ) (is : v ≡ value.Ref class (image_reference.Object named)) (well : AreWellObjects s.types lines) where
    abbrev target : Value
    target = reference class (at named)

    typed : IsWellValue s.types (map as_object lines) number line index v
    typed = (well number line line_is).values index v v_is

    fit : fits s.types (map as_object lines) typed.field.element_type target ≡ true
    fit = subst (λ (x : ImageValue). fits s.types (map as_object lines) typed.field.element_type (as_value x) ≡ true) is typed.is_fit

    pub named_inside : named < length lines
    named_inside = named_below s.types lines class named typed.field.element_type fit

    same_types : s.types ≡ t.types
    same_types = w.standing.holds.holds.types

    fit_here : fits t.types t.objects typed.field.element_type target ≡ true
    fit_here = subst (λ (ts : List Declaration). fits ts t.objects typed.field.element_type target ≡ true) same_types
        (fits_alike s.types (map as_object lines) t.objects typed.field.element_type target target (made_alike s.types lines t.objects (length lines) all_made class named named_inside) fit)

    module _ (holder object_handle : GcRootIndex) (holder_is : slice_get handles number ≡ Some holder) (handle_is : slice_get handles named ≡ Some object_handle) where
      abbrev given : RawValue
      given = raw.Ref class (Some object_handle)

      stands_given : RawStands s t given target
      stands_given = record { root = at named; named = w.standing.named named object_handle handle_is; is = refl }

      mine : (o : Object ℕ) × (slice_get t.objects number ≡ Some o)
      mine = object_at number line line_is

      stands : StandsTo number index line mine.0
      stands = w.here line mine.0 line_is mine.1

      value_here : slice_get (object_values mine.0) index ≡ Some (early_value number v)
      value_here = ap (λ (o : Object ℕ). slice_get (object_values o) index) stands.is
          ∙ ap (λ (ws : List Value). slice_get ws index) (line_object-values line stands.values index v v_is)
          ∙ stands.written.rest index v (omega arith) v_is

      abbrev has : HasValue s t holder index (early_value number v)
      has = record {
        position = number;
        named = w.standing.named number holder holder_is;
        object = mine.0;
        object_is = mine.1;
        value_at = value_here;
      }

      field_here : value_type t.types mine.0 index ≡ Some typed.field
      field_here = ap (λ (o : Object ℕ). value_type t.types o index) stands.is ∙ line_object-type t.types line stands.values index
          ∙ ap (λ (ts : List Declaration). value_type ts (as_object line) index) (sym same_types) ∙ typed.field_is

      pub may_write : number ≤ named → CanWrite ℕ layouts s holder index given
      may_write late = record {
        table = t;
        holds = (w.standing.holds.place, w.standing.holds.holds);
        before = early_value number v;
        has = has;
        field = typed.field;
        field_is = field_here;
        can_store = can_store layouts s t (w.standing.holds.place, w.standing.holds.holds) typed.field.element_type given target stands_given fit_here;
        mutable = late_is_mutable typed.field number named v typed.early (ap number_named is) late;
      }

      module _ (new : StoreView ℕ) (same : IsSameStore s new) (keeps : KeepsValue layouts s new t w.account holder index given) where
        abbrev u : Table ℕ
        u = write number index target t

        holds_new : HoldsAccount layouts new u w.account
        holds_new = subst (λ (x : Value). HoldsAccount layouts new (write number index x t) w.account) (reference_stored typed.field.element_type class (at named))
            (keeps (early_value number v) target has typed.field field_here stands_given)

        standing_new : Standing layouts handles new u w.account
        standing_new = record {
          holds = holds_new;
          named = λ n h e. written_over new t number index target h (at n) (named_same s new same t h (at n) (w.standing.named n h e));
          unused = unused_like t u refl refl refl w.standing.unused;
          frames = w.standing.frames;
          owned = w.standing.owned;
          pending = w.standing.pending;
          unset = w.standing.unset;
        }

        pub writing_written : Writing layouts lines handles number (index + 1) new
        writing_written = record {
          table = u;
          account = w.account;
          standing = standing_new;
          count = length-change_at number (with_value index target) t.objects ∙ w.count;
          done = λ p x below e. slice_get-change_at_other number (with_value index target) t.objects p (λ eq. absurd (omega (arith, eq, below))) ∙ w.done p x below e;
          here = λ x o e f.
              let there : slice_get u.objects number ≡ Some (with_value index target mine.0) = slice_get-change_at_same number (with_value index target) t.objects mine.0 mine.1 in
              let changed : o ≡ line_object line (slice_set stands.values index target) =
              same_Some o (with_value index target mine.0) (sym f ∙ there) ∙ ap (with_value index target) stands.is ∙ line_object-set line stands.values index v target v_is in
              let value_is : as_value v ≡ target = ap as_value is in
              subst (λ (y : ObjectLine). StandsTo number (index + 1) y o) (one_line x e) (record {
                values = slice_set stands.values index target;
                is = changed;
                written = subst (λ (z : Value). AreWritten number (index + 1) (line_values line) (slice_set stands.values index z)) value_is (one_written number index (line_values line) stands.values v v_is stands.written);
              });
          rest = λ p x above e. slice_get-change_at_other number (with_value index target) t.objects p (λ eq. absurd (omega (arith, eq, above))) ∙ w.rest p x above e;
        }

        pub goes_written : LoadGoesOn 0 s new
        goes_written = record {
          few = (let before = w.standing.holds.holds.scoped.same_count in let after = holds_new.holds.scoped.same_count in omega (arith, before, after));
          same = settings_held layouts s new t u w.account w.account w.standing.holds holds_new refl refl refl;
          types = holds_new.holds.types ∙ sym same_types;
        }

-- From one object to the next, and to the end

pub goes_none : (s : StoreView ℕ) → LoadGoesOn 0 s s
goes_none s = record { few = omega arith; same = settings_itself s; types = refl }

pub goes_on : (a b c : StoreView ℕ) → LoadGoesOn 0 a b → LoadGoesOn 0 b c → LoadGoesOn 0 a c
goes_on a b c one two = record { few = (let x = one.few in let y = two.few in omega (arith, x, y)); same = settings_twice a b c one.same two.same; types = two.types ∙ one.types }

pub writing_start : (layouts : Layouts) (lines : List ObjectLine) (handles : List GcRootIndex) (s : StoreView ℕ) → length handles ≡ length lines → Making layouts lines handles s → Writing layouts lines handles 0 0 s
writing_start layouts lines handles s all making =
    let objects : making.table.objects ≡ early_objects 0 lines = making.objects ∙ ap (early_objects 0) (ap (λ n. take n lines) all ∙ take_all (length lines) lines (omega arith)) in
    record {
      table = making.table;
      account = making.account;
      standing = making.standing;
      count = ap length objects ∙ early_length 0 lines;
      done = λ p x below e. absurd (omega (arith, below));
      here = λ x o e f.
          let there = sym f ∙ ap (λ (os : List (Object ℕ)). slice_get os 0) objects ∙ early_at 0 lines 0 x e in
          record {
            values = map (early_value 0) (line_values x);
            is = same_Some o (early_object (0 + 0) x) there ∙ line_object-early 0 x;
            written = none_written 0 (line_values x);
          };
      rest = λ p x above e. ap (λ (os : List (Object ℕ)). slice_get os p) objects ∙ early_at 0 lines p x e ∙ ap (λ n. Some (early_object n x)) (let z : 0 + p ≡ p = omega arith in z);
    }

pub writing_next : (layouts : Layouts) (lines : List ObjectLine) (handles : List GcRootIndex) (number index : ℕ) (line : ObjectLine) (s : StoreView ℕ) → slice_get lines number ≡ Some line → length (line_values line) ≤ index → Writing layouts lines handles number index s → Writing layouts lines handles (number + 1) 0 s
writing_next layouts lines handles number index line s line_is over w = record {
  table = w.table;
  account = w.account;
  standing = w.standing;
  count = w.count;
  done = λ p x below e. elim (cases_lt p number) [
    | inl less ↦ w.done p x less e
    | inr last ↦
        let same : p ≡ number = omega (arith, below, last) in
        let o = object_at layouts lines handles number index s w line line_is in
        let mine : line ≡ x = same_Some line x (sym line_is ∙ sym (ap (slice_get lines) same) ∙ e) in
        let stands = w.here line o.0 line_is o.1 in
        let whole : o.0 ≡ as_object line = stands.is ∙ ap (line_object line) (all_written number index (line_values line) stands.values over stands.written) ∙ line_object-all line in
        ap (slice_get w.table.objects) same ∙ o.1 ∙ ap Some (whole ∙ ap as_object mine)
  ];
  here = λ x o e f.
      let there = sym f ∙ w.rest (number + 1) x (omega arith) e in
      record {
        values = map (early_value (number + 1)) (line_values x);
        is = same_Some o (early_object (number + 1) x) there ∙ line_object-early (number + 1) x;
        written = none_written (number + 1) (line_values x);
      };
  rest = λ p x above e. w.rest p x (omega (arith, above)) e;
}
  where
    object_at : (layouts : Layouts) (lines : List ObjectLine) (handles : List GcRootIndex) (number index : ℕ) (s : StoreView ℕ) (w : Writing layouts lines handles number index s) (line : ObjectLine) → slice_get lines number ≡ Some line → (o : Object ℕ) × (slice_get w.table.objects number ≡ Some o)
    object_at layouts lines handles number index s w line e = elim ((slice_get_cases w.table.objects number).1) [
      | inl found ↦ (found.0, found.2)
      | inr past ↦ absurd (let inside = slice_get_within lines number line e in omega (arith, past.0, inside, w.count))
    ]

pub writing_end : (layouts : Layouts) (lines : List ObjectLine) (handles : List GcRootIndex) (number index : ℕ) (s : StoreView ℕ) → length lines ≤ number → Writing layouts lines handles number index s → Complete layouts lines handles s
writing_end layouts lines handles number index s over w = record {
  table = w.table;
  account = w.account;
  standing = w.standing;
  objects = same_lists w.table.objects (map as_object lines) (w.count ∙ sym (length-map lines as_object)) (λ i x e. elim ((slice_get_cases lines i).1) [
    | inl found ↦
        let is : as_object found.0 ≡ x = same_Some (as_object found.0) x (sym (slice_get-map as_object lines i ∙ ap (option_map as_object) found.2) ∙ e) in
        w.done i found.0 (let inside = slice_get_within lines i found.0 found.2 in omega (arith, inside, over)) found.2 ∙ ap Some is
    | inr past ↦ absurd (let inside = slice_get_within (map as_object lines) i x e in omega (arith, past.0, inside, length-map lines as_object))
  ]);
}

-- a value that takes no memory is written
pub keeps_ok : (layouts : Layouts) (old new : StoreView ℕ) (t : Table ℕ) (a : Account) (handle : GcRootIndex) (index : ℕ) (r : RawValue) (result : Result (Unit {0}) WriteFault) → IsOk result → WritesValue layouts old new t a handle index r result → KeepsValue layouts old new t a handle index r
keeps_ok layouts old new t a handle index r (Ok done) ok writes = writes.0
keeps_ok layouts old new t a handle index r (Err why) ok writes = absurd (cc ok)
