-- What is left of a table where a scope of a call ends: what was pushed in it is gone.
use Rattle.std.proofs.Common.{◌≡◌, ◌≢◌, Bool, if◌then◌else◌, min, nat_lt, subst, ℕ, zero, suc, ◌+◌, ◌-◌, ◌<◌, ◌≤◌, ◌^◌, ◌||◌, ◌==◌, nat_le, true, false, cond, List, [], ◌∷◌, ◌++◌, length, take, Some, None, Contains, inl, inr, refl, sym, ap, ◌∙◌, arith, eq-eqb, ne_eqb}
use Rattle.std.specs.List.{slice_get}
use Rattle.std.proofs.Math.Seq.{take-append_seam}
use Rattle.std.proofs.lemmas.List.{append-nil}
use Rattle.std.proofs.lemmas.List.Elements.{Contains-append_left, Contains-append_right}
use Rattle.std.proofs.lemmas.Bool.{cases_lt, eqb-true}
use Rattle.std.proofs.lemmas.Bool.Decides.{nat_tests}
use Rattle.std.proofs.lemmas.Option.{slice_get_cases, slice_get_within}
use Rattle.gc_types.specs.declared.kind.Layouts.{Layouts}
use Rattle.gc_owner.specs.declared.entry.RootEntry.{RootEntry}
use Rattle.gc_model.specs.Values.{Reference}
use Rattle.gc_model.specs.Table.{Table, Owned, Scoped, Push, push, leave}
use Rattle.gc_model.specs.Live.{rooted_among, roots_full}
use Rattle.gc_model.specs.OwnedRoots.{own, owned_among}
use Rattle.gc_model.specs.Stores.{StoreView}
use Rattle.gc_model.specs.Holds.{HoldsTable}
use Rattle.gc_model.proofs.Lists.{slice_get-push_new}
use Rattle.gc_model.specs.Accounts.{Account, HoldsAccount}
use Rattle.gc_values.specs.declared.root.GcRootIndex.{GcRootIndex}
use Rattle.gc_store.specs.Roots.{handle_of, NamesReference}
use Rattle.gc_lists.specs.Frames.{CountsStay, ChangesOwned, Leaves}
use Rattle.gc_lists.specs.Refusals.{LacksScoped}

-- a root at the end is found by its number, where no other has it
owned_at_end : (number : ℕ) (roots : List Owned) (r : Reference) → ((root : Owned) → Contains roots root → root.number ≢ number)
    → owned_among number (roots ++ record { number = number; reference = r; handles = 1 } ∷ []) ≡ Some r
owned_at_end number [] r differ = ap (λ b. cond b (Some r) None) (eq-eqb number number refl)
owned_at_end number (x ∷ roots) r differ =
    ap (λ b. cond b (Some x.reference) (owned_among number (roots ++ record { number = number; reference = r; handles = 1 } ∷ [])))
    (ne_eqb x.number number (differ x (Contains-append_left (x ∷ []) roots x (0, omega arith, refl))))
    ∙ owned_at_end number roots r (λ root c. differ root (Contains-append_right (x ∷ []) roots root c))

-- a root at the end is found by its serial, where no other has it
scoped_at_end : (serial : ℕ) (roots : List Scoped) (r : Reference) → ((i : ℕ) (root : Scoped) → slice_get roots i ≡ Some root → root.serial ≢ serial)
    → rooted_among serial (roots ++ record { serial = serial; reference = r } ∷ []) ≡ Some r
scoped_at_end serial [] r differ = ap (λ b. cond b (Some r) None) (eq-eqb serial serial refl)
scoped_at_end serial (x ∷ roots) r differ =
    ap (λ b. cond b (Some x.reference) (rooted_among serial (roots ++ record { serial = serial; reference = r } ∷ []))) (ne_eqb x.serial serial (differ zero x refl))
    ∙ scoped_at_end serial roots r (λ i. differ (suc i))

module _ {D : Type 0} (layouts : Layouts) (s : StoreView D) (t : Table D) (holds : HoldsTable layouts s t) where
  -- the owned root that is made next is found by its number
  pub next_owned : (r : Reference) → owned_among t.owns (t.owned ++ record { number = t.owns; reference = r; handles = 1 } ∷ []) ≡ Some r
  next_owned r = owned_at_end t.owns t.owned r (λ root c same.
      let found = holds.1.owned.in_store root c in
      let early = holds.1.owned.early found.0 found.1.0 in
      let numbered = found.1.1.number in
      absurd (omega (arith, early, numbered, same)))

  serial_before : (i : ℕ) (root : Scoped) → slice_get t.scoped i ≡ Some root → root.serial < length t.pushes
  serial_before i root e =
      let entry : (entry : RootEntry) × (slice_get s.scoped i ≡ Some entry) =
      elim ((slice_get_cases s.scoped i).1) [
        | inl found ↦ (found.0, found.2)
        | inr past ↦ absurd (omega (arith, past.0, holds.1.scoped.same_count, slice_get_within t.scoped i root e))
      ] in
      slice_get_within t.pushes root.serial _ ((holds.1.scoped.each i entry.0 root entry.1 e).pushed)

  -- the handle of a new scoped root names what it was pushed for, in each table whose scoped roots are these and that one
  pub next_scoped : (new : StoreView D) (v : Table D) (r : Reference) (h : GcRootIndex) → v.scoped ≡ t.scoped ++ record { serial = length t.pushes; reference = r } ∷ []
      → v.pushes ≡ t.pushes ++ record { index = length t.scoped; generation = t.drops } ∷ [] → h ≡ handle_of new (length t.scoped) t.drops → NamesReference new v h r
  next_scoped new v r h scoped pushes is = inl (record {
    serial = length t.pushes;
    names = record {
      push = record { index = length t.scoped; generation = t.drops };
      pushed = ap (λ (ps : List Push). slice_get ps (length t.pushes)) pushes ∙ slice_get-push_new t.pushes (record { index = length t.scoped; generation = t.drops });
      is = is;
    };
    live = ap (λ (roots : List Scoped). rooted_among (length t.pushes) roots) scoped ∙ scoped_at_end (length t.pushes) t.scoped r (λ i root e found. let before = serial_before i root e in omega (arith, before, found));
  })

-- The scoped roots that stood before stand when the scope is left.
pub left_scoped : (scope : ℕ) (stood more : List Scoped) → scope ≡ length stood → take scope (stood ++ more) ≡ stood
left_scoped scope stood more is = ap (λ n. take n (stood ++ more)) is ∙ take-append_seam stood more

-- a scope end that is counted, or not
pub drops_more : (b : Bool) (drops : ℕ) → min drops (2 ^ 64 - 1) ≤ (if b then min (drops + 1) (2 ^ 64 - 1) else drops)
drops_more true drops = omega arith
drops_more false drops = omega arith

-- no count falls where a scope is left
pub leave_counts : {D : Type 0} (mark : ℕ) (t w : Table D) → w.drops ≡ t.drops → t.owns ≤ w.owns → CountsStay t (leave mark w)
leave_counts mark t w same owns = record {
  drops = subst (λ (n : ℕ). min n (2 ^ 64 - 1) ≤ (leave mark w).drops) same (drops_more (nat_lt mark (length w.scoped)) w.drops);
  owns = owns;
}

-- nor where neither changes
pub counts_same : {D : Type 0} (t u : Table D) → u.drops ≡ t.drops → u.owns ≡ t.owns → CountsStay t u
counts_same t u drops owns = record { drops = omega (arith, drops); owns = omega (arith, owns) }

module _ {D : Type 0} (t : Table D) (scope : ℕ) (is : scope ≡ length t.scoped) (r : Reference) where
  -- a root was pushed, an owned root made for it, and the scope left
  pub rooted_left : ChangesOwned t (own r t).owned (leave scope (own r (push r t)))
  rooted_left = record {
    pushes = record { index = length t.scoped; generation = t.drops } ∷ [];
    counts = leave_counts scope t (own r (push r t)) refl (omega arith);
    rest = λ i. record (leave scope (own r (push r t))) { scoped = left_scoped scope t.scoped (record { serial = length t.pushes; reference = r } ∷ []) is i };
  }

  -- a root was pushed, and the scope left
  pub pushed_left : ChangesOwned t t.owned (leave scope (push r t))
  pushed_left = record {
    pushes = record { index = length t.scoped; generation = t.drops } ∷ [];
    counts = leave_counts scope t (push r t) refl (omega arith);
    rest = λ i. record (leave scope (push r t)) { scoped = left_scoped scope t.scoped (record { serial = length t.pushes; reference = r } ∷ []) is i };
  }

-- nothing has changed
pub nothing_changed : {D : Type 0} (t : Table D) → ChangesOwned t t.owned t
nothing_changed t = record { pushes = []; counts = counts_same t t refl refl; rest = λ i. record t { pushes = sym (append-nil t.pushes) i } }

pub leaves_as_it_was : {D : Type 0} (layouts : Layouts) (t : Table D) (a : Account) (new : StoreView D) → HoldsAccount layouts new t a → Leaves layouts (ChangesOwned t t.owned) new
leaves_as_it_was layouts t a new holds = record { after = t; account = a; holds = holds; changed = nothing_changed t }

-- where no scoped root may be pushed, there is no room for any number of them but none
pub full_lacks : {D : Type 0} (t : Table D) (count : ℕ) → 0 < count → roots_full t ≡ true → LacksScoped t count
full_lacks t count some full = elim (cases_lt (length t.scoped) t.max_scoped) [
  | inl below ↦
      let test : nat_le t.max_scoped (length t.scoped) ≡ false = grind (arith, nat_tests, below) in
      inr (eqb-true t.drops (2 ^ 64 - 1) (sym (ap (λ b. b || (t.drops == 2 ^ 64 - 1)) test) ∙ full))
  | inr above ↦ inl (omega (arith, above, some))
]
