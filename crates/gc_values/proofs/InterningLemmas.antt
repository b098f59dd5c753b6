-- Values that a table interns, one by one, as those of the object table are known.
use Rattle.std.proofs.Common.{◌≡◌, ℕ, ◌+◌, ◌-◌, ◌<◌, ◌≤◌, ◌↔◌, inl, inr, Bool, true, false, List, [], ◌∷◌, ◌++◌, length, Option, Some, None, Ok, Err, Contains, refl, sym, ap, ◌∙◌, subst, arith}
use Rattle.std.proofs.lemmas.Option.{same_Some}
use Rattle.std.proofs.lemmas.List.{length-append, append-nil, append_assoc, length_push}
use Rattle.std.proofs.lemmas.List.Elements.{Contains-append_cases, Contains-append_left, Contains-append_right}
use Rattle.std.specs.Ordering.{nat_cmp}
use Rattle.std.specs.FinMap.{FinMap, get, empty}
use Rattle.std.specs.Option.{is_some}
use Rattle.std.specs.Prelude.{IfSome, IsNone, IsErrOf}
use Rattle.gc_tables.specs.SideTables.{SideTable, entry_count}
use Rattle.gc_tables.specs.Interned.{IsInterned, IsIdOf}
use Rattle.gc_tables.specs.Interned.{Interns as TableInterns}
use Rattle.gc_tables.specs.declared.interner.InternFault.{InternFault}
use Rattle.gc_tables.specs.declared.interner.InternFault.TheVariants as intern_fault
use Rattle.gc_tables.proofs.InternLemmas.{interns-keeps}
use Rattle.gc_model.specs.SideValues.{IdsBy, InternedIds, SideValues, max_entries, no_side_values, same_cont, same_function, with_one, with_each}
use Rattle.gc_model.proofs.Interned.{IsExact, conts_exact, functions_exact, side_joined, among_or_not, with-known, with-new, all-le, all-append, ids-none, ids-added}
use Rattle.gc_values.specs.Interning.{AddsNew, CanIntern, CanInternAll, CountsNew, HasRoomFor, InternsEach, InternsAll, KeepsEntryRoom, KeepsRooms, MakesEntryRoom, PassesIds, ids_of}
use Rattle.gc_values.specs.declared.interned.InternedValues.{InternedValues}

module _ {A : Type 0} (same : A → A → Bool) (tells : IsExact same) where
  -- what is known is interned, and nothing else
  module _ (t : SideTable A) (known : List A) (by : IdsBy known t.entries) where
    pub known_interned : (x : A) → Contains known x → IsInterned t x
    known_interned x c = by.in_store x c

    pub interned_known : (x : A) → IsInterned t x → Contains known x
    interned_known x is = by.in_table is.0 x is.1

    -- one that is interned changes nothing
    pub one_known : (x : A) → IsInterned t x → with_one same x known ≡ known
    one_known x is = with-known same tells x known (interned_known x is)

    pub one_new : (x : A) → ¬ IsInterned t x → with_one same x known ≡ known ++ x ∷ []
    one_new x missing = with-new same tells x known (λ c. missing (known_interned x c))

    -- a table that isn't full has room for one more
    pub one_fits : (x : A) → (entry_count t ≡ max_entries → ¬ IsInterned t x → ⊥) → length (with_one same x known) ≤ max_entries
    one_fits x not_full = elim (among_or_not same tells x known) [
      | inl c ↦ omega (arith, by.few, ap (λ (xs : List A). length xs) (with-known same tells x known c))
      | inr missing ↦
          let differs : entry_count t ≡ max_entries → ⊥ = λ full. not_full full (λ is. missing (interned_known x is)) in
          let longer : length (with_one same x known) ≡ length known + 1 = ap (λ (xs : List A). length xs) (with-new same tells x known missing) ∙ length_push known x in
          omega (arith, by.few, by.same_count, longer, differs)
    ]

    -- and a full one hasn't
    pub one_past : (x : A) → entry_count t ≡ max_entries → ¬ IsInterned t x → max_entries < length (with_one same x known)
    one_past x full missing =
        let longer : length (with_one same x known) ≡ length known + 1 = ap (λ (xs : List A). length xs) (one_new x missing) ∙ length_push known x in
        omega (arith, longer, by.same_count, full)

  -- One that is interned is known then.
  pub one_held : (old new : SideTable A) (x : A) (id : ℕ) → TableInterns old new x id → (known : List A) → IdsBy known old.entries → length (with_one same x known) ≤ max_entries → IdsBy (with_one same x known) new.entries
  one_held old new x id interns known by few = elim interns.change [
    | inl was ↦
        subst (λ (xs : List A). IdsBy xs new.entries) (sym (one_known old known by x was.0))
        (subst (IdsBy known) (sym was.1) by)
    | inr adds ↦
        let is : with_one same x known ≡ known ++ x ∷ [] = one_new old known by x adds.missing in
        let longer : length (with_one same x known) ≡ length known + 1 = ap (λ (xs : List A). length xs) is ∙ length_push known x in
        subst (λ (xs : List A). IdsBy xs new.entries) (sym is)
        (subst (IdsBy (known ++ x ∷ [])) (sym adds.added) (ids-added known old.entries id x by (λ c. adds.missing (known_interned old known by x c)) adds.fresh (omega (arith, few, longer))))
  ]

  pub one_keeps : (old new : SideTable A) (x : A) (id : ℕ) → TableInterns old new x id → (q : ℕ) (y : A) → get old.entries q ≡ Some y → get new.entries q ≡ Some y
  one_keeps old new x id interns q y there = interns-keeps old new x id interns q y there

  -- nothing is interned where there is nothing
  pub interns_none : (ids : FinMap nat_cmp A) → InternsEach same ids ids []
  interns_none ids = record { held = λ known by. by; keeps = λ id x e. e }

  pub interns_known : (t : SideTable A) (x : A) → IsInterned t x → InternsEach same t.entries t.entries (x ∷ [])
  interns_known t x is = record {
    held = λ known by. subst (λ (xs : List A). IdsBy xs t.entries) (sym (one_known t known by x is)) by;
    keeps = λ id y e. e;
  }

  pub interns_more : (old mid new : FinMap nat_cmp A) (xs ys : List A) → InternsEach same old mid xs → InternsEach same mid new ys → InternsEach same old new (xs ++ ys)
  interns_more old mid new xs ys first rest = record {
    held = λ known by. subst (λ (us : List A). IdsBy us new) (sym (all-append same tells xs ys known)) (rest.held (with_each same xs known) (first.held known by));
    keeps = λ id x e. rest.keeps id x (first.keeps id x e);
  }

  -- counting the new ones

  with-behind : (x : A) (known fresh : List A) → ¬ Contains known x → with_one same x (known ++ fresh) ≡ known ++ with_one same x fresh
  with-behind x known fresh missing = elim (among_or_not same tells x fresh) [
    | inl there ↦ with-known same tells x (known ++ fresh) (Contains-append_right known fresh x there) ∙ ap (λ (xs : List A). known ++ xs) (sym (with-known same tells x fresh there))
    | inr absent ↦
        with-new same tells x (known ++ fresh) (λ c. elim (Contains-append_cases known fresh x c) [ inl a ↦ missing a | inr b ↦ absent b ])
        ∙ append_assoc known fresh (x ∷ []) ∙ ap (λ (xs : List A). known ++ xs) (sym (with-new same tells x fresh absent))
  ]

  -- what isn't interned is not known
  missing_known : (t : SideTable A) (x : A) → ¬ IsInterned t x → (known : List A) → IdsBy known t.entries → ¬ Contains known x
  missing_known t x missing known by c = missing (by.in_store x c)

  pub adds_none : (ids new : FinMap nat_cmp A) (xs : List A) → xs ≡ [] → AddsNew same ids new new xs (Ok tt)
  adds_none ids new xs none known fresh by mine = (fresh, (ap (λ (ys : List A). with_each same ys (known ++ fresh)) none, mine))

  pub adds_known : (t : SideTable A) (new : FinMap nat_cmp A) (x : A) → IsInterned t x → AddsNew same t.entries new new (x ∷ []) (Ok tt)
  adds_known t new x is known fresh by mine = (fresh, (with-known same tells x (known ++ fresh) (Contains-append_left known fresh x (interned_known t known by x is)), mine))

  pub adds_one : (t old new : SideTable A) (x : A) (id : ℕ) → ¬ IsInterned t x → TableInterns old new x id → (entry_count old ≡ max_entries → ¬ IsInterned old x → ⊥) → AddsNew same t.entries old.entries new.entries (x ∷ []) (Ok tt)
  adds_one t old new x id missing interns not_full known fresh by mine = (
    with_one same x fresh,
    (with-behind x known fresh (missing_known t x missing known by), one_held old new x id interns fresh mine (one_fits old fresh mine x not_full)),
  )

  pub adds_past : (t old : SideTable A) (new : FinMap nat_cmp A) (x : A) → ¬ IsInterned t x → entry_count old ≡ max_entries → ¬ IsInterned old x → AddsNew same t.entries old.entries new (x ∷ []) (Err intern_fault.Full)
  adds_past t old new x missing full absent known fresh by mine =
      let longer : length (with_one same x (known ++ fresh)) ≡ length known + length (with_one same x fresh) = ap (λ (xs : List A). length xs) (with-behind x known fresh (missing_known t x missing known by)) ∙ length-append known (with_one same x fresh) in
      omega (arith, longer, one_past old fresh mine x full absent)

  -- These are the new ones among function values.
  abbrev pub AreNew : FinMap nat_cmp A → FinMap nat_cmp A → List A → Type 0
  AreNew ids new xs = (known : List A) → IdsBy known ids → (fresh : List A) × ((with_each same xs known ≡ known ++ fresh) × IdsBy fresh new)

  pub new_none : (ids new : FinMap nat_cmp A) → new ≡ empty → AreNew ids new []
  new_none ids new none known by = ([], (sym (append-nil known), ids-none new none))

  pub new_more : (ids mid new : FinMap nat_cmp A) (xs ys : List A) → AreNew ids mid xs → AddsNew same ids mid new ys (Ok tt) → AreNew ids new (xs ++ ys)
  new_more ids mid new xs ys are adds known by =
      let was = are known by in
      let now = adds known was.0 by was.1.1 in
      (now.0, (all-append same tells xs ys known ∙ ap (with_each same ys) was.1.0 ∙ now.1.0, now.1.1))

  pub new_counted : (ids : FinMap nat_cmp A) (new : SideTable A) (xs : List A) (n : ℕ) → AreNew ids new.entries xs → n ≡ entry_count new → CountsNew same ids xs (Ok n)
  new_counted ids new xs n are count known by =
      let was = are known by in
      let longer : length (with_each same xs known) ≡ length known + length was.0 = ap (λ (us : List A). length us) was.1.0 ∙ length-append known was.0 in
      omega (arith, longer, count, was.1.1.same_count)

  pub new_refused : (ids mid new : FinMap nat_cmp A) (xs ys zs : List A) (e : InternFault) → AreNew ids mid xs → AddsNew same ids mid new ys (Err e) → CountsNew same ids (xs ++ (ys ++ zs)) (Err e)
  new_refused ids mid new xs ys zs intern_fault.Full are adds = λ known by.
      let was = are known by in
      let past = adds known was.0 by was.1.1 in
      let whole : with_each same (xs ++ (ys ++ zs)) known ≡ with_each same zs (with_each same ys (known ++ was.0)) =
      all-append same tells xs (ys ++ zs) known ∙ ap (with_each same (ys ++ zs)) was.1.0 ∙ all-append same tells ys zs (known ++ was.0) in
      let longer = ap (λ (us : List A). length us) whole in
      omega (arith, past, longer, all-le same tells zs (with_each same ys (known ++ was.0)))
  new_refused ids mid new xs ys zs intern_fault.Memory are adds = tt

  -- room for the new ones

  pub room_past : (t : SideTable A) (xs : List A) (n : ℕ) → CountsNew same t.entries xs (Ok n) → max_entries < entry_count t + n → PassesIds same t.entries xs
  room_past t xs n counts past known by = omega (arith, counts known by, past, by.same_count)

  pub room_made : (old new : SideTable A) (xs : List A) (n : ℕ) → CountsNew same old.entries xs (Ok n) → entry_count old + n ≤ max_entries → new.entries ≡ old.entries → n ≤ new.spare → MakesEntryRoom same old new xs
  room_made old new xs n counts few unchanged room = record {
    unchanged = unchanged;
    has_room = λ known by. record { few = omega (arith, counts known by, few, by.same_count); room = omega (arith, counts known by, room) };
  }

  -- interning those for which there is room

  pub keeps_none : (t : SideTable A) (xs : List A) → xs ≡ [] → KeepsEntryRoom same t t xs
  keeps_none t xs none known by = let equal = ap (λ (ys : List A). length (with_each same ys known)) none in omega (arith, equal)

  pub keeps_known : (t : SideTable A) (x : A) → IsInterned t x → KeepsEntryRoom same t t (x ∷ [])
  keeps_known t x is known by = let equal = ap (λ (ys : List A). length ys) (one_known t known by x is) in omega (arith, equal)

  pub keeps_one : (old new : SideTable A) (x : A) → ¬ IsInterned old x → old.spare ≤ new.spare + 1 → KeepsEntryRoom same old new (x ∷ [])
  keeps_one old new x missing less known by =
      let longer : length (with_one same x known) ≡ length known + 1 = ap (λ (ys : List A). length ys) (one_new old known by x missing) ∙ length_push known x in
      omega (arith, longer, less)

  pub interns_one : (old new : SideTable A) (x : A) (id : ℕ) → TableInterns old new x id → (entry_count old ≡ max_entries → ¬ IsInterned old x → ⊥) → InternsEach same old.entries new.entries (x ∷ [])
  interns_one old new x id interns not_full = record {
    held = λ known by. one_held old new x id interns known by (one_fits old known by x not_full);
    keeps = one_keeps old new x id interns;
  }

  -- where there is room the table isn't full, and has a spare place
  pub can_one : (t : SideTable A) (x : A) (can : CanIntern same t (x ∷ [])) → ¬ IsInterned t x → (entry_count t < max_entries) × (0 < t.spare)
  can_one t x can missing =
      let longer : length (with_one same x can.known) ≡ length can.known + 1 = ap (λ (ys : List A). length ys) (one_new t can.known can.held x missing) ∙ length_push can.known x in
      (omega (arith, longer, can.has_room.few, can.held.same_count), omega (arith, longer, can.has_room.room))

  -- what is left of a list may be interned, once its front was
  pub can_rest : (old mid : SideTable A) (xs ys : List A) (known : List A) → IdsBy known old.entries → HasRoomFor same old (xs ++ ys) known → InternsEach same old.entries mid.entries xs
      → length known + old.spare ≤ length (with_each same xs known) + mid.spare → CanIntern same mid ys
  can_rest old mid xs ys known by has interns kept =
      let equal = ap (λ (us : List A). length us) (all-append same tells xs ys known) in
      record {
        known = with_each same xs known;
        held = interns.held known by;
        has_room = record { few = omega (arith, has.few, equal); room = omega (arith, has.room, equal, kept) };
      }

  pub can_front : (t : SideTable A) (xs ys : List A) → CanIntern same t (xs ++ ys) → CanIntern same t xs
  can_front t xs ys can =
      let equal = ap (λ (us : List A). length us) (all-append same tells xs ys can.known) in
      let more = all-le same tells ys (with_each same xs can.known) in
      record { known = can.known; held = can.held; has_room = record { few = omega (arith, can.has_room.few, equal, more); room = omega (arith, can.has_room.room, equal, more) } }

  pub keeps_more : (old mid new : SideTable A) (xs ys : List A) → InternsEach same old.entries mid.entries xs → KeepsEntryRoom same old mid xs → KeepsEntryRoom same mid new ys → KeepsEntryRoom same old new (xs ++ ys)
  keeps_more old mid new xs ys interns first rest known by =
      let equal = ap (λ (us : List A). length us) (all-append same tells xs ys known) in
      omega (arith, equal, first known by, rest (with_each same xs known) (interns.held known by))

  -- what a look-up tells
  pub known_by : (t : SideTable A) (x : A) (o : Option ℕ) → IfSome o (IsIdOf t x) → is_some o ≡ true → IsInterned t x
  known_by t x None is e = absurd (cc e)
  known_by t x (Some id) is e = (id, (is id).1 refl)

  pub missing_by : (t : SideTable A) (x : A) (o : Option ℕ) → IsNone o ↔ (¬ IsInterned t x) → is_some o ≡ false → ¬ IsInterned t x
  missing_by t x o is e = is.0 e

  pub adds_fault : (t old : SideTable A) (new : FinMap nat_cmp A) (x : A) → ¬ IsInterned t x → (e : InternFault) → (IsErrOf {T = ℕ} (Err e) intern_fault.Full → (entry_count old ≡ max_entries) × (¬ IsInterned old x)) → AddsNew same t.entries old.entries new (x ∷ []) (Err e)
  adds_fault t old new x missing intern_fault.Full full = let is = full refl in adds_past t old new x missing is.0 is.1
  adds_fault t old new x missing intern_fault.Memory full = tt

  -- where there is room it isn't refused
  pub never_refused : (t : SideTable A) (x : A) → CanIntern same t (x ∷ []) → ¬ IsInterned t x → (e : InternFault) → (IsErrOf {T = ℕ} (Err e) intern_fault.Full → (entry_count t ≡ max_entries) × (¬ IsInterned t x)) → (0 < t.spare → ¬ IsErrOf {T = ℕ} (Err e) intern_fault.Memory) → ⊥
  never_refused t x can missing intern_fault.Full full room = let is = full refl in let fits = can_one t x can missing in absurd (omega (arith, is.0, fits.0))
  never_refused t x can missing intern_fault.Memory full room = room (can_one t x can missing).1 refl

-- a continuation that isn't interned, by what a refusal says
pub cont_missing : (t : SideTable ℕ) (c : ℕ) → (value : ℕ) × (Some c ≡ Some value) × (¬ IsInterned t value) → ¬ IsInterned t c
cont_missing t c (value, same, missing) = subst (λ (v : ℕ). ¬ IsInterned t v) (sym (same_Some c value same)) missing

-- what a look-up of one tells
pub cont_known : (t : SideTable ℕ) (c : ℕ) (o : Option ℕ) → IfSome o (λ raw. (0 < raw) × IsIdOf t c (raw - 1)) → is_some o ≡ true → IsInterned t c
cont_known t c None is e = absurd (cc e)
cont_known t c (Some raw) is e = (raw - 1, (is.1 (raw - 1)).1 refl)

-- both tables

pub interns_none_all : (ids : InternedIds) → InternsAll ids ids no_side_values
interns_none_all ids = record { functions = interns_none same_function functions_exact ids.funcs; conts = interns_none same_cont conts_exact ids.conts }

pub keeps_none_all : (t : InternedValues) → KeepsRooms t t no_side_values
keeps_none_all t = record { functions = keeps_none same_function functions_exact t.functions [] refl; conts = keeps_none same_cont conts_exact t.conts [] refl }

pub interns_more_all : (old mid new : InternedIds) (f g : SideValues) → InternsAll old mid f → InternsAll mid new g → InternsAll old new (side_joined f g)
interns_more_all old mid new f g first rest = record {
  functions = interns_more same_function functions_exact old.funcs mid.funcs new.funcs f.funcs g.funcs first.functions rest.functions;
  conts = interns_more same_cont conts_exact old.conts mid.conts new.conts f.conts g.conts first.conts rest.conts;
}

pub keeps_more_all : (old mid new : InternedValues) (f g : SideValues) → InternsAll (ids_of old) (ids_of mid) f → KeepsRooms old mid f → KeepsRooms mid new g → KeepsRooms old new (side_joined f g)
keeps_more_all old mid new f g interns first rest = record {
  functions = keeps_more same_function functions_exact old.functions mid.functions new.functions f.funcs g.funcs interns.functions first.functions rest.functions;
  conts = keeps_more same_cont conts_exact old.conts mid.conts new.conts f.conts g.conts interns.conts first.conts rest.conts;
}

-- the next of those for which there was room
can_next_of : {A : Type 0} (same : A → A → Bool) → IsExact same → (old mid : SideTable A) (xs ys zs : List A) → CanIntern same old (xs ++ (ys ++ zs)) → InternsEach same old.entries mid.entries xs → KeepsEntryRoom same old mid xs → CanIntern same mid ys
can_next_of same tells old mid xs ys zs can interns kept =
    can_front same tells mid ys zs (can_rest same tells old mid xs (ys ++ zs) can.known can.held can.has_room interns (kept can.known can.held))

pub can_next_all : (old mid : InternedValues) (f g h : SideValues) → CanInternAll old (side_joined f (side_joined g h)) → InternsAll (ids_of old) (ids_of mid) f → KeepsRooms old mid f → CanInternAll mid g
can_next_all old mid f g h can interns kept = record {
  functions = can_next_of same_function functions_exact old.functions mid.functions f.funcs g.funcs h.funcs can.functions interns.functions kept.functions;
  conts = can_next_of same_cont conts_exact old.conts mid.conts f.conts g.conts h.conts can.conts interns.conts kept.conts;
}
