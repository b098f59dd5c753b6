-- What the handle of a new scoped root names.
use Rattle.std.proofs.Common.{inl, inr, ◌≡◌, ◌≢◌, ℕ, ◌<◌, suc, List, [], ◌∷◌, ◌++◌, length, Some, true, false, cond, eqb, sym, ap, ◌∙◌, refl, subst, arith}
use Rattle.std.specs.List.{slice_get}
use Rattle.std.proofs.lemmas.Grind.{common_steps}
use Rattle.std.proofs.lemmas.Option.{slice_get_within, slice_get_cases}
use Rattle.gc_types.specs.declared.kind.Layouts.{Layouts}
use Rattle.gc_types.specs.declared.kind.VMGcKind.{VMGcKind}
use Rattle.gc_owner.specs.declared.entry.RootEntry.{RootEntry}
use Rattle.gc_model.specs.Values.{Reference, at, Object, object_values}
use Rattle.gc_model.specs.Table.{Table, Scoped, push, make, with_pages, add_object, intern}
use Rattle.gc_model.specs.Live.{rooted, rooted_among}
use Rattle.gc_model.specs.OwnedRoots.{owned_reference}
use Rattle.gc_model.specs.Stores.{StoreView}
use Rattle.gc_model.specs.Holds.{HoldsTable}
use Rattle.gc_model.proofs.Lists.{slice_get-push_new}
use Rattle.gc_values.specs.declared.root.GcRootIndex.{GcRootIndex}
use Rattle.gc_values.specs.declared.root.RootSlot.TheVariants as slot
use Rattle.gc_store.specs.Roots.{handle_of, NamesScoped, NamesOwned, NamesReference}
use Rattle.gc_values.specs.Words.{owned_id}
use Rattle.gc_store.specs.Kinds.{IsReferenceOfKind, NamesKind, IsScopedOfKind}

-- a root at the end is found by its serial, where no other has it
rooted_at_end : (serial : ℕ) (roots : List Scoped) (r : Reference) → ((i : ℕ) (root : Scoped) → slice_get roots i ≡ Some root → root.serial ≢ serial)
    → rooted_among serial (roots ++ record { serial = serial; reference = r } ∷ []) ≡ Some r
rooted_at_end serial [] r differ =
    let test : eqb serial serial ≡ true = grind (arith, common_steps) in
    ap (λ b. cond b (Some r) (rooted_among serial [])) test
rooted_at_end serial (x ∷ roots) r differ =
    let ne : x.serial ≢ serial = differ 0 x refl in
    let test : eqb x.serial serial ≡ false = grind (arith, common_steps) in
    ap (λ b. cond b (Some x.reference) (rooted_among serial (roots ++ record { serial = serial; reference = r } ∷ []))) test
    ∙ rooted_at_end serial roots r (λ i. differ (suc i))

-- the roots that stand are of pushes that were made
abbrev pub AreBefore : {D : Type 0} → Table D → Type 0
AreBefore t = (i : ℕ) (root : Scoped) → slice_get t.scoped i ≡ Some root → root.serial < length t.pushes

pub are_before : {D : Type 0} (layouts : Layouts) (s : StoreView D) (t : Table D) → HoldsTable layouts s t → AreBefore t
are_before layouts s t holds i root e =
    let entry : (entry : RootEntry) × (slice_get s.scoped i ≡ Some entry) =
    elim ((slice_get_cases s.scoped i).1) [
      | inl found ↦ (found.0, found.2)
      | inr past ↦ absurd (omega (arith, past.0, holds.1.scoped.same_count, slice_get_within t.scoped i root e))
    ] in
    slice_get_within t.pushes root.serial _ ((holds.1.scoped.each i entry.0 root entry.1 e).pushed)

-- a new root stands and names what it was pushed for, by its handle
pub names_pushed : {D : Type 0} (t : Table D) → AreBefore t → (new : StoreView D) (r : Reference) → NamesScoped new (push r t) (handle_of new (length t.scoped) t.drops) r
names_pushed t before new r = record {
  serial = length t.pushes;
  names = record {
    push = record { index = length t.scoped; generation = t.drops };
    pushed = slice_get-push_new t.pushes (record { index = length t.scoped; generation = t.drops });
    is = refl;
  };
  live = rooted_at_end (length t.pushes) t.scoped r (λ i root e is. let first = before i root e in omega (arith, first, is));
}

-- so does that of an object that was made
pub names_made : {D : Type 0} (t : Table D) → AreBefore t → (new : StoreView D) (o : Object D) (pages : ℕ)
    → NamesScoped new (make o (with_pages pages t)) (handle_of new (length t.scoped) t.drops) (at (length t.objects))
names_made t before new o pages = names_pushed (add_object o (intern (object_values o) (with_pages pages t))) before new (at (length t.objects))

module _ {D : Type 0} (layouts : Layouts) (s : StoreView D) (t : Table D) (holds : HoldsTable layouts s t) (handle : GcRootIndex) where
  scoped_once : (r q : Reference) → NamesScoped s t handle r → NamesScoped s t handle q → r ≡ q
  scoped_once r q first second =
      let same : handle_of s first.names.push.index first.names.push.generation ≡ handle_of s second.names.push.index second.names.push.generation = sym first.names.is ∙ second.names.is in
      let scoped : slot.Scoped first.names.push.index ≡ slot.Scoped second.names.push.index = ap (λ (h : GcRootIndex). h.slot) same in
      let index_is : first.names.push.index ≡ second.names.push.index = grind (arith, scoped) in
      let generation_is : first.names.push.generation ≡ second.names.push.generation = ap (λ (h : GcRootIndex). h.generation) same in
      let push_is : second.names.push ≡ first.names.push = λ i. record { index = sym index_is i; generation = sym generation_is i } in
      let serial_is : first.serial ≡ second.serial = holds.1.pushes.apart first.serial second.serial first.names.push first.names.pushed (second.names.pushed ∙ ap Some push_is) in
      let roots : Some r ≡ Some q = sym first.live ∙ ap (rooted t) serial_is ∙ second.live in
      grind (arith, roots)

  owned_once : (r q : Reference) → NamesOwned s t handle r → NamesOwned s t handle q → r ≡ q
  owned_once r q first second =
      let number_is : first.number ≡ second.number = ap (λ (h : GcRootIndex). h.generation) (sym first.names ∙ second.names) in
      let roots : Some r ≡ Some q = sym first.live ∙ ap (owned_reference t) number_is ∙ second.live in
      grind (arith, roots)

  -- no handle of a scoped root is one of an owned root
  pub of_one_slot : (r q : Reference) → NamesScoped s t handle r → NamesOwned s t handle q → ⊥
  of_one_slot r q first second =
      let same : slot.Scoped first.names.push.index ≡ slot.Owned (owned_id second.number) = ap (λ (h : GcRootIndex). h.slot) (sym first.names.is ∙ second.names) in
      cc same

  -- a handle names one reference
  pub names_once : (r q : Reference) → NamesReference s t handle r → NamesReference s t handle q → r ≡ q
  names_once r q (inl first) (inl second) = scoped_once r q first second
  names_once r q (inl first) (inr second) = absurd (of_one_slot r q first second)
  names_once r q (inr first) (inl second) = absurd (of_one_slot q r second first)
  names_once r q (inr first) (inr second) = owned_once r q first second

  -- what it names is of a kind, so the handle is given as that kind
  pub named_kind : (kind : VMGcKind) (r : Reference) → NamesReference s t handle r → IsReferenceOfKind kind t r → NamesKind D layouts s kind handle
  named_kind kind r named is = record { table = t; holds = holds; is = λ q other. subst (IsReferenceOfKind kind t) (names_once r q named other) is }

-- a scoped root of a kind names no reference of another
module _ {D : Type 0} (layouts : Layouts) (s : StoreView D) (kind : VMGcKind) where
  pub scoped_kind : (root : GcRootIndex) → IsScopedOfKind D layouts s kind root → NamesKind D layouts s kind root
  scoped_kind root is = named_kind layouts s is.table is.holds root kind is.root (inl is.named) is.of_kind

  pub handle_kind : (root handle : GcRootIndex) → handle ≡ root → IsScopedOfKind D layouts s kind root → NamesKind D layouts s kind handle
  handle_kind root handle same is = subst (NamesKind D layouts s kind) (sym same) (scoped_kind root is)
