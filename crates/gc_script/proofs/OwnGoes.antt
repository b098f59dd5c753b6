-- Owned roots that are made, named again and given up.
use Rattle.std.proofs.Common.{◌≡◌, ◌≢◌, inl, inr, ℕ, ◌-◌, ◌==◌, List, [], ◌∷◌, ◌++◌, length, Bool, true, false, not, cond, Option, Some, None, Contains, sym, ap, ◌∙◌, refl, subst, arith}
use Rattle.std.specs.Prelude.{Result, Ok, Err, unwrap_or, ◌<◌}
use Rattle.std.specs.List.{slice_get}
use Rattle.std.specs.Result.{is_err}
use Rattle.std.proofs.lemmas.Bool.{ne_eqb}
use Rattle.std.proofs.lemmas.Bool.Decides.{nat_tests}
use Rattle.std.proofs.lemmas.List.Elements.{Contains-append_left, Contains-append_right}
use Rattle.std.proofs.lemmas.Option.{none-some, same_Some, slice_get_within}
use Rattle.gc_types.specs.declared.kind.Layouts.{Layouts}
use Rattle.gc_owner.specs.declared.entry.GcClass.{GcClass}
use Rattle.gc_model.specs.Values.{Reference, null, small, at, Value, numeric, function, continuation}
use Rattle.gc_model.specs.Values as values
use Rattle.gc_model.specs.Table.{Table, Owned, push}
use Rattle.gc_model.specs.OwnedRoots.{own, drop_handle, owned_among, owned_full, handles_changed, handled_roots}
use Rattle.gc_model.specs.Live.{roots_full}
use Rattle.gc_model.specs.Stores.{StoreView}
use Rattle.gc_model.proofs.OwnedRoots.{owned_found}
use Rattle.gc_model.specs.Accounts.{Account, HoldsAccount}
use Rattle.gc_values.specs.declared.root.GcRootIndex.{GcRootIndex}
use Rattle.gc_values.specs.declared.root.RawValue.{RawValue}
use Rattle.gc_values.specs.declared.root.RawValue.TheVariants as raw
use Rattle.gc_values.specs.declared.root.RootedObject.{RootedObject}
use Rattle.gc_values.specs.declared.root.RootFault.{RootFault}
use Rattle.gc_values.specs.declared.root.RootFault.TheVariants as fault
use Rattle.gc_store.specs.Handles.{PushesRoot}
use Rattle.gc_store.specs.OwnedRoots.{MadeOwned, MakesOwned, DropsHandle, ReleasesHandle}
use Rattle.gc_store.specs.Roots.{is_of_store, owned_handle, NamesOwned, NamesReference, NamesNothing, TellsReference}
use Rattle.gc_store.specs.Stores.{IsSameStore}
use Rattle.gc_store.proofs.HandleWords.{owned-of_store, named_alone, named_held}
use Rattle.gc_values.specs.RawValues.{raw_handle}
use Rattle.gc_commands.specs.declared.command.Command.TheVariants as command
use Rattle.gc_commands.specs.declared.reply.Reply.TheVariants as reply
use Rattle.gc_commands.specs.declared.reply.Refusal.{Refusal}
use Rattle.gc_commands.specs.declared.reply.Refusal.TheVariants as refusal
use Rattle.gc_script.specs.Slots.{RunnerView, register_at, option_join}
use Rattle.gc_script.specs.State.{State, HeldOwned, owned, unrooted, RegisterStands, StandsOwned, HoldsState, visible, over}
use Rattle.gc_script.specs.Given.{Given, unset, gone, is, given_register, given_value}
use Rattle.gc_script.specs.Shapes.{shape, slot_of, give_up, owns_as, owned_named, owned_class, roots_as, unroots}
use Rattle.gc_script.specs.Steps.{tests, first_failing, owning_tests, owned_tests}
use Rattle.gc_script.specs.Run.{GoesOn}
use Rattle.gc_script.specs.Values.{raw_slot, reference_tests, FoundReference}
use Rattle.gc_script.specs.Wants.{IsUnrefused, MayWant}
use Rattle.gc_script.proofs.WantLemmas.{unrefused_by, full_only}
use Rattle.gc_script.proofs.StandLemmas.{stands_kept, owned_stands, holds_same, same_twice}
use Rattle.gc_script.proofs.SetLemmas.{holds_pushed}
use Rattle.gc_script.proofs.TestLemmas.{passes, stops, answers_by, refuses}

-- What an owned register holds

-- nothing, the handle of an owned root, or none where that was given up
pub data OwnedCases (s : StoreView ℕ) (found : Option RawValue) (held : Option HeldOwned) : Type 0 where
  nothing : found ≡ None → held ≡ None → OwnedCases s found held
  root : (c : GcClass) (handle : GcRootIndex) (n : ℕ) → found ≡ Some (raw.Ref c (Some handle)) → handle ≡ owned_handle s n → held ≡ Some (owned c n) → OwnedCases s found held
  none : (c : GcClass) → found ≡ Some (raw.Ref c None) → held ≡ Some unrooted → OwnedCases s found held

pub owned_cases : (s : StoreView ℕ) (found : Option RawValue) (held : Option HeldOwned) → StandsOwned s found held → OwnedCases s found held
owned_cases s None None stands = nothing refl refl
owned_cases s (Some (raw.Ref c (Some handle))) (Some (owned c' n)) stands = root c handle n refl stands.1 (ap (λ (x : GcClass). Some (owned x n)) (sym stands.0))
owned_cases s (Some (raw.Ref c None)) (Some unrooted) stands = none c refl refl
owned_cases s found held stands = absurd stands

-- where it holds a class and a handle, that is of an owned root
pub owned_root : (s : StoreView ℕ) (value : RawValue) (held : Option HeldOwned) (c : GcClass) (handle : GcRootIndex) → StandsOwned s (Some value) held → raw_slot value ≡ Some (c, Some handle) → (n : ℕ) × ((handle ≡ owned_handle s n) × (held ≡ Some (owned c n)))
owned_root s value held c handle stands slot_is = by (owned_cases s (Some value) held stands)
  where
    by : OwnedCases s (Some value) held → (n : ℕ) × ((handle ≡ owned_handle s n) × (held ≡ Some (owned c n)))
    by (nothing e held_is) = absurd (none-some value (sym e))
    by (root c' handle' n e h held_is) =
        let is : value ≡ raw.Ref c' (Some handle') = grind (arith, e) in
        let both : Some (c', Some handle') ≡ Some (c, Some handle) = sym (ap raw_slot is) ∙ slot_is in
        let class : c' ≡ c = grind (arith, both) in
        let same : handle' ≡ handle = grind (arith, both) in
        (n, (sym same ∙ h, held_is ∙ ap (λ (x : GcClass). Some (owned x n)) class))
    by (none c' e held_is) =
        let is : value ≡ raw.Ref c' None = grind (arith, e) in
        let both : Some (c', None) ≡ Some (c, Some handle) = sym (ap raw_slot is) ∙ slot_is in
        absurd (none-some handle (ap (λ (p : GcClass × Option GcRootIndex). p.1) (same_Some (c', None) (c, Some handle) both)))

-- where it holds a class without one, that was given up
pub owned_gone : (s : StoreView ℕ) (value : RawValue) (held : Option HeldOwned) (c : GcClass) → StandsOwned s (Some value) held → raw_slot value ≡ Some (c, None) → held ≡ Some unrooted
owned_gone s value held c stands slot_is = by (owned_cases s (Some value) held stands)
  where
    by : OwnedCases s (Some value) held → held ≡ Some unrooted
    by (nothing e held_is) = absurd (none-some value (sym e))
    by (root c' handle' n e h held_is) =
        let is : value ≡ raw.Ref c' (Some handle') = grind (arith, e) in
        let both : Some (c', Some handle') ≡ Some (c, None) = sym (ap raw_slot is) ∙ slot_is in
        absurd (none-some handle' (sym (ap (λ (p : GcClass × Option GcRootIndex). p.1) (same_Some (c', Some handle') (c, None) both))))
    by (none c' e held_is) = held_is

-- it always holds a class
pub owned_slot : (s : StoreView ℕ) (value : RawValue) (held : Option HeldOwned) → StandsOwned s (Some value) held → raw_slot value ≡ None → ⊥
owned_slot s value held stands none_is = by (owned_cases s (Some value) held stands)
  where
    by : OwnedCases s (Some value) held → ⊥
    by (nothing e held_is) = none-some value (sym e)
    by (root c' handle' n e h held_is) = let is : value ≡ raw.Ref c' (Some handle') = grind (arith, e) in none-some (c', Some handle') (sym none_is ∙ ap raw_slot is)
    by (none c' e held_is) = let is : value ≡ raw.Ref c' None = grind (arith, e) in none-some (c', None) (sym none_is ∙ ap raw_slot is)

-- the same by the handle alone
pub owned_by_handle : (s : StoreView ℕ) (value : RawValue) (held : Option HeldOwned) (handle : GcRootIndex) → StandsOwned s (Some value) held → raw_handle value ≡ Some handle → (c : GcClass) × ((n : ℕ) × ((handle ≡ owned_handle s n) × (held ≡ Some (owned c n))))
owned_by_handle s value held handle stands handle_is = by (owned_cases s (Some value) held stands)
  where
    by : OwnedCases s (Some value) held → (c : GcClass) × ((n : ℕ) × ((handle ≡ owned_handle s n) × (held ≡ Some (owned c n))))
    by (nothing e held_is) = absurd (none-some value (sym e))
    by (root c' handle' n e h held_is) =
        let is : value ≡ raw.Ref c' (Some handle') = grind (arith, e) in
        let both : Some handle' ≡ Some handle = sym (ap raw_handle is) ∙ handle_is in
        let same : handle' ≡ handle = grind (arith, both) in
        (c', (n, (sym same ∙ h, held_is)))
    by (none c' e held_is) =
        let is : value ≡ raw.Ref c' None = grind (arith, e) in
        absurd (none-some handle (sym (ap raw_handle is) ∙ handle_is))

-- a register that was set has its place
pub set_room : (slots : List (Option RawValue)) (o : ℕ) (value : RawValue) → register_at slots o ≡ Some value → o < length slots
set_room slots o value e = by (slice_get slots o) refl
  where
    by : (x : Option (Option RawValue)) → slice_get slots o ≡ x → o < length slots
    by None found = absurd (none-some value (sym (ap option_join found) ∙ e))
    by (Some x) found = slice_get_within slots o x found

-- one that was never set holds nothing
pub owned_unset : (s : StoreView ℕ) (held : Option HeldOwned) → StandsOwned s None held → held ≡ None
owned_unset s held stands = by (owned_cases s None held stands)
  where
    by : OwnedCases s None held → held ≡ None
    by (nothing e held_is) = held_is
    by (root c' handle' n e h held_is) = absurd (none-some (raw.Ref c' (Some handle')) e)
    by (none c' e held_is) = absurd (none-some (raw.Ref c' None) e)

-- Giving up

-- a number that none has changes nothing
pub drop_none : (n : ℕ) (roots : List Owned) → ((root : Owned) → Contains roots root → (root.number ≢ n) × (0 < root.handles)) → handled_roots (handles_changed n (λ m. m - 1) roots) ≡ roots
drop_none n [] all = refl
drop_none n (x ∷ xs) all =
    let here = all x (Contains-append_left (x ∷ []) xs x (0, omega arith, refl)) in
    let some = here.1 in
    let rest = drop_none n xs (λ root c. all root (Contains-append_right (x ∷ []) xs root c)) in
    ap (λ b. handled_roots (cond b (record x { handles = x.handles - 1 }) x ∷ handles_changed n (λ m. m - 1) xs)) (ne_eqb x.number n here.0)
    ∙ ap (λ b. cond b (x ∷ handled_roots (handles_changed n (λ m. m - 1) xs)) (handled_roots (handles_changed n (λ m. m - 1) xs))) (ap not (ne_eqb x.handles 0 (λ none. absurd (omega (arith, none, some)))))
    ∙ ap (λ ys. x ∷ ys) rest

module _ (layouts : Layouts) (s new : StoreView ℕ) (t : Table ℕ) (a : Account) (holds : HoldsAccount layouts s t a) (handle : GcRootIndex) (n : ℕ) (c : GcClass) (is_handle : handle ≡ owned_handle s n) where
  -- the handle names what the owned root of its number does
  names_live : (root : Owned) → Contains t.owned root → root.number ≡ n → NamesOwned s t handle root.reference
  names_live one among same = record {
    number = n;
    names = is_handle;
    live = ap (λ m. owned_among m t.owned) (sym same) ∙ owned_found t.owned one holds.holds.owned.in_order among;
  }

  -- a handle of an owned register was given up, or its root was gone
  pub gave_up : (was_held : Bool) → DropsHandle layouts s t a handle was_held new → HoldsAccount layouts new (give_up (Some (owned c n)) t) a
  gave_up true did =
      let same : did.0.number ≡ n = ap (λ (h : GcRootIndex). h.generation) (sym did.1.0.is ∙ is_handle) in
      subst (λ m. HoldsAccount layouts new (drop_handle m t) a) same did.1.1
  gave_up false did =
      subst (λ (os : List Owned). HoldsAccount layouts new (record t { owned = os }) a)
      (sym (drop_none n t.owned (λ root among. (λ same. did.0 root.reference (names_live root among same), (holds.holds.owned.in_store root among).1.1.held)))) did.1

  -- the store refuses none
  pub never_unreleased : (f : RootFault) → ReleasesHandle layouts s t a handle (Err f) new → ⊥
  never_unreleased fault.WrongStore did = cc (sym did ∙ ap (is_of_store s) is_handle ∙ owned-of_store s n)
  never_unreleased fault.Unrooted did = did
  never_unreleased fault.RootsFull did = did
  never_unreleased fault.Memory did = did

  -- which it is tells whether the table has the root
  pub was_live : DropsHandle layouts s t a handle true new → (r : Reference) × (owned_among n t.owned ≡ Some r)
  was_live did =
      let same : did.0.number ≡ n = ap (λ (h : GcRootIndex). h.generation) (sym did.1.0.is ∙ is_handle) in
      (did.0.reference, ap (λ m. owned_among m t.owned) (sym same) ∙ owned_found t.owned did.0 holds.holds.owned.in_order did.1.0.among)

  pub was_gone : DropsHandle layouts s t a handle false new → owned_among n t.owned ≡ None
  was_gone did = by (owned_among n t.owned) refl
    where
      by : (o : Option Reference) → owned_among n t.owned ≡ o → owned_among n t.owned ≡ None
      by None e = e
      by (Some r) e = absurd (did.0 r (record { number = n; names = is_handle; live = e }))

-- Making

-- the refusals of a register that gives no reference
pub owning_refused : (g : Given) (full : Bool) (why : Refusal) → first_failing (reference_tests g) ≡ Some why → first_failing (owning_tests g full) ≡ Some why
owning_refused unset full why e = e
owning_refused gone full why e = e
owning_refused (is (numeric kind n)) full why e = e
owning_refused (is (function f)) full why e = e
owning_refused (is (continuation cont)) full why e = e
owning_refused (is (values.reference c r)) full why e = absurd (cc e)

owning_passes : (c : GcClass) (r : Reference) (full : Bool) → r ≢ null → first_failing (owning_tests (is (values.reference c r)) full) ≡ first_failing ((full, refusal.RootsFull) ∷ [])
owning_passes c null full some = absurd (some refl)
owning_passes c (small n) full some = refl
owning_passes c (at p) full some = refl

-- registers stand, those that were set and the others
set_owned_stands : (new : StoreView ℕ) (slots slots' : List (Option RawValue)) (registers : ℕ → Option HeldOwned) (o : ℕ) (value : RawValue) (held : HeldOwned) → StandsOwned new (Some value) (Some held) → register_at slots' o ≡ Some value → ((k : ℕ) → k ≢ o → register_at slots' k ≡ register_at slots k)
    → ((k : ℕ) → StandsOwned new (register_at slots k) (registers k)) → (k : ℕ) → StandsOwned new (register_at slots' k) (cond (k == o) (Some held) (registers k))
set_owned_stands new slots slots' registers o value held stands set others stand k =
    elim (k == o) as (λ b. (k == o) ≡ b → StandsOwned new (register_at slots' k) (cond b (Some held) (registers k))) [
      | true ↦ λ e.
          let same : k ≡ o = grind (arith, nat_tests, e) in
          subst (λ (x : Option RawValue). StandsOwned new x (Some held)) (sym (ap (register_at slots') same ∙ set)) stands
      | false ↦ λ e.
          let differ : k ≢ o = λ same. grind (arith, nat_tests, e, same) in
          subst (λ (x : Option RawValue). StandsOwned new x (registers k)) (sym (others k differ)) (stand k)
    ] refl

-- The runner has the same registers, and the same owned ones but for their room.
pub record KeepsRegisters (runner runner' : RunnerView) : Type 0 where
  pub registers : (d : ℕ) → register_at runner'.registers d ≡ register_at runner.registers d
  pub owned : (o : ℕ) → register_at runner'.rest.owned o ≡ register_at runner.rest.owned o
  pub marks : runner'.rest.marks ≡ runner.rest.marks

pub holds_room : (layouts : Layouts) (store new : StoreView ℕ) (runner runner' : RunnerView) (s : State) → IsSameStore store new → KeepsRegisters runner runner' → HoldsState layouts store runner s → HoldsAccount layouts new s.table s.account → HoldsState layouts new runner' s
holds_room layouts store new runner runner' s same keeps holds table = record {
  table = table;
  registers = λ d. subst (λ (x : Option RawValue). RegisterStands new s.table x (s.registers d)) (sym (keeps.registers d)) (stands_kept store new s.table s.table (register_at runner.registers d) (s.registers d) same (λ i p e. e) (holds.registers d));
  owned = λ o. subst (λ (x : Option RawValue). StandsOwned new x (s.owned_registers o)) (sym (keeps.owned o)) (owned_stands store new (register_at runner.rest.owned o) (s.owned_registers o) same (holds.owned o));
  marks = keeps.marks ∙ holds.marks;
}

module _ (layouts : Layouts) (store : StoreView ℕ) (runner : RunnerView) (s : State) (o r : ℕ) (holds : HoldsState layouts store runner s) where
  -- the register gives no reference
  pub own_refused : (why : Refusal) → first_failing (reference_tests (given_register s r)) ≡ Some why → GoesOn layouts s (command.Own o r) (Ok (reply.Refused why)) store runner
  own_refused why e = refuses layouts store runner s (command.Own o r) why holds (owning_refused (given_register s r) (owned_full s.table) why e)

  -- it gives null
  pub own_null : (c : GcClass) → FoundReference store s r c None → GoesOn layouts s (command.Own o r) (Ok (reply.Refused refusal.WrongKind)) store runner
  own_null c found =
      refuses layouts store runner s (command.Own o r) refusal.WrongKind holds
      (ap (λ (g : Given). first_failing (owning_tests g (owned_full s.table))) found.is_given ∙ ap (λ (x : Reference). first_failing (owning_tests (is (values.reference c x)) (owned_full s.table))) found.stands)

  module _ (c : GcClass) (handle : GcRootIndex) (found : FoundReference store s r c (Some handle)) where
    not_null : found.root ≢ null
    not_null same =
        let word = named_held layouts store s.table holds.table.place holds.table.holds handle null (subst (NamesReference store s.table handle) same found.stands) in
        absurd (omega (arith, word.1.0, word.1.1))

    tests_are : first_failing (tests layouts s (command.Own o r)) ≡ first_failing ((owned_full s.table, refusal.RootsFull) ∷ [])
    tests_are = ap (λ (g : Given). first_failing (owning_tests g (owned_full s.table))) found.is_given ∙ owning_passes c found.root (owned_full s.table) not_null

    -- memory may be wanted
    pub own_may : MayWant layouts s (command.Own o r)
    own_may = record { takes = refl; unrefused = unrefused_by (first_failing (tests layouts s (command.Own o r))) (first_failing ((owned_full s.table, refusal.RootsFull) ∷ [])) tests_are (full_only (owned_full s.table)) }

    module _ (mid : StoreView ℕ) (same : IsSameStore store mid) where
      -- no further one may be made
      pub own_full : (runner' : RunnerView) → KeepsRegisters runner runner' → MakesOwned layouts store s.table s.account handle (Err fault.RootsFull) mid → GoesOn layouts s (command.Own o r) (Ok (reply.Refused refusal.RootsFull)) mid runner'
      own_full runner' keeps did =
          refuses layouts mid runner' s (command.Own o r) refusal.RootsFull (holds_room layouts store mid runner runner' s same keeps holds did.1.1.1)
          (tests_are ∙ stops (owned_full s.table) refusal.RootsFull [] did.1.1.0)

      -- memory is wanting
      pub own_wants : (runner' : RunnerView) → KeepsRegisters runner runner' → (f : RootFault) → MakesOwned layouts store s.table s.account handle (Err f) mid → HoldsState layouts mid runner' s
      own_wants runner' keeps fault.WrongStore did = holds_room layouts store mid runner runner' s same keeps holds did.1
      own_wants runner' keeps fault.Unrooted did = holds_room layouts store mid runner runner' s same keeps holds did.1.1
      own_wants runner' keeps fault.RootsFull did = holds_room layouts store mid runner runner' s same keeps holds did.1.1.1
      own_wants runner' keeps fault.Memory did = holds_room layouts store mid runner runner' s same keeps holds did

      -- it was made, and what the owned register held was given up
      pub own_made : (new : StoreView ℕ) (runner' : RunnerView) (made : GcRootIndex) → MadeOwned layouts store s.table s.account handle made mid → IsSameStore mid new
          → ((t : Table ℕ) (a : Account) (h : Option HeldOwned) → HoldsAccount layouts mid t a → StandsOwned mid (register_at runner.rest.owned o) h → HoldsAccount layouts new (give_up h t) a)
          → register_at runner'.rest.owned o ≡ Some (raw.Ref c (Some made)) → ((k : ℕ) → k ≢ o → register_at runner'.rest.owned k ≡ register_at runner.rest.owned k)
          → ((d : ℕ) → register_at runner'.registers d ≡ register_at runner.registers d) → runner'.rest.marks ≡ runner.rest.marks
          → GoesOn layouts s (command.Own o r) (Ok reply.Done) new runner'
      own_made new runner' made did then gives set others registers_are marks_are =
          let held : Option HeldOwned = s.owned_registers o in
          let one : did.reference ≡ found.root = named_alone layouts store s.table holds.table.place holds.table.holds handle did.reference found.root did.named found.stands in
          let table1 : HoldsAccount layouts mid (own found.root s.table) s.account = subst (λ (q : Reference). HoldsAccount layouts mid (own q s.table) s.account) one did.holds in
          let table2 : HoldsAccount layouts new (give_up held (own found.root s.table)) s.account = gives (own found.root s.table) s.account held table1 (owned_stands store mid (register_at runner.rest.owned o) held same (holds.owned o)) in
          let after : State = owns_as o (record { class = c; reference = found.root }) s in
          let whole = same_twice store mid new same then in
          record {
            after = after;
            answers = answers_by layouts None s (shape (command.Own o r)) (first_failing (tests layouts s (command.Own o r))) None reply.Done after
                (tests_are ∙ passes (owned_full s.table) refusal.RootsFull [] did.room)
                (refl, ap (λ (g : Given). over s (owns_as o (slot_of (given_value g)) (visible s))) (sym found.is_given));
            account = refl;
            holds = record {
              table = table2;
              registers = λ d. subst (λ (x : Option RawValue). RegisterStands new after.table x (s.registers d)) (sym (registers_are d)) (stands_kept store new s.table after.table (register_at runner.registers d) (s.registers d) whole (λ i p e. e) (holds.registers d));
              owned = set_owned_stands new runner.rest.owned runner'.rest.owned s.owned_registers o (raw.Ref c (Some made)) (owned c s.table.owns)
                  (owned_stands mid new (Some (raw.Ref c (Some made))) (Some (owned c s.table.owns)) then (refl, did.made_is)) set others
                  (λ k. owned_stands store new (register_at runner.rest.owned k) (s.owned_registers k) whole (holds.owned k));
              marks = marks_are ∙ holds.marks;
            };
          }

-- Naming again and giving up

module _ (layouts : Layouts) (store : StoreView ℕ) (runner : RunnerView) (s : State) (o : ℕ) (holds : HoldsState layouts store runner s) where
  abbrev held : Option HeldOwned
  held = s.owned_registers o

  -- it was never set
  pub root_unset : (d : ℕ) → register_at runner.rest.owned o ≡ None → GoesOn layouts s (command.Root d o) (Ok (reply.Refused refusal.NoSuchName)) store runner
  root_unset d is_unset =
      let none_held : held ≡ None = owned_unset store held (subst (λ (x : Option RawValue). StandsOwned store x held) is_unset (holds.owned o)) in
      refuses layouts store runner s (command.Root d o) refusal.NoSuchName holds
      (ap (λ (h : Option HeldOwned). first_failing (owned_tests h (owned_named s.table.owned h) ++ (roots_full s.table, refusal.RootsFull) ∷ [])) none_held)

  pub unroot_unset : register_at runner.rest.owned o ≡ None → GoesOn layouts s (command.Unroot o) (Ok (reply.Refused refusal.NoSuchName)) store runner
  unroot_unset is_unset =
      let none_held : held ≡ None = owned_unset store held (subst (λ (x : Option RawValue). StandsOwned store x held) is_unset (holds.owned o)) in
      refuses layouts store runner s (command.Unroot o) refusal.NoSuchName holds (ap (λ (h : Option HeldOwned). first_failing (owned_tests h (owned_named s.table.owned h))) none_held)

  module _ (value : RawValue) (is_held : register_at runner.rest.owned o ≡ Some value) where
    pub stands : StandsOwned store (Some value) held
    stands = subst (λ (x : Option RawValue). StandsOwned store x held) is_held (holds.owned o)

    -- it was given up
    pub root_unrooted : (d : ℕ) (c : GcClass) → raw_slot value ≡ Some (c, None) → GoesOn layouts s (command.Root d o) (Ok (reply.Refused refusal.Unrooted)) store runner
    root_unrooted d c slot_is =
        refuses layouts store runner s (command.Root d o) refusal.Unrooted holds
        (ap (λ (h : Option HeldOwned). first_failing (owned_tests h (owned_named s.table.owned h) ++ (roots_full s.table, refusal.RootsFull) ∷ [])) (owned_gone store value held c stands slot_is))

    pub unroot_unrooted : (c : GcClass) → raw_slot value ≡ Some (c, None) → GoesOn layouts s (command.Unroot o) (Ok (reply.Refused refusal.Unrooted)) store runner
    unroot_unrooted c slot_is =
        refuses layouts store runner s (command.Unroot o) refusal.Unrooted holds
        (ap (λ (h : Option HeldOwned). first_failing (owned_tests h (owned_named s.table.owned h))) (owned_gone store value held c stands slot_is))

    module _ (c : GcClass) (handle : GcRootIndex) (slot_is : raw_slot value ≡ Some (c, Some handle)) where
      it : (n : ℕ) × ((handle ≡ owned_handle store n) × (held ≡ Some (owned c n)))
      it = owned_root store value held c handle stands slot_is

      abbrev n : ℕ
      n = it.0

      root_tests_are : (d : ℕ) (x : Option Reference) → owned_among n s.table.owned ≡ x → first_failing (tests layouts s (command.Root d o)) ≡ first_failing (owned_tests (Some (owned c n)) x ++ (roots_full s.table, refusal.RootsFull) ∷ [])
      root_tests_are d x is_named =
          ap (λ (h : Option HeldOwned). first_failing (owned_tests h (owned_named s.table.owned h) ++ (roots_full s.table, refusal.RootsFull) ∷ [])) it.1.1
          ∙ ap (λ (y : Option Reference). first_failing (owned_tests (Some (owned c n)) y ++ (roots_full s.table, refusal.RootsFull) ∷ [])) is_named

      unroot_tests_are : (x : Option Reference) → owned_among n s.table.owned ≡ x → first_failing (tests layouts s (command.Unroot o)) ≡ first_failing (owned_tests (Some (owned c n)) x)
      unroot_tests_are x is_named =
          ap (λ (h : Option HeldOwned). first_failing (owned_tests h (owned_named s.table.owned h))) it.1.1
          ∙ ap (λ (y : Option Reference). first_failing (owned_tests (Some (owned c n)) y)) is_named

      -- what its handle names
      names : (q : Reference) → owned_among n s.table.owned ≡ Some q → NamesReference store s.table handle q
      names q live = inr (record { number = n; names = it.1.0; live = live })

      names_none : owned_among n s.table.owned ≡ None → NamesNothing store s.table handle
      names_none none_is q (inl scoped) = absurd (cc (ap (λ (h : GcRootIndex). h.slot) (sym scoped.names.is ∙ it.1.0)))
      names_none none_is q (inr named) =
          let same : named.number ≡ n = ap (λ (h : GcRootIndex). h.generation) (sym named.names ∙ it.1.0) in
          none-some q (sym none_is ∙ ap (λ m. owned_among m s.table.owned) (sym same) ∙ named.live)

      -- whether its root is there is asked first
      module _ (d : ℕ) (object : Result RootedObject RootFault) (live : (q : Reference) → NamesReference store s.table handle q → TellsReference s.table q object)
          (gone : is_of_store store handle ≡ true → NamesNothing store s.table handle → object ≡ Err fault.Unrooted) where
        told_found : (q : Reference) (found : Result RootedObject RootFault) → TellsReference s.table q found → is_err found ≡ true → ⊥
        told_found q (Ok x) told lost = cc lost
        told_found q (Err e) told lost = told

        pub root_lost : is_err object ≡ true → GoesOn layouts s (command.Root d o) (Ok (reply.Refused refusal.Unrooted)) store runner
        root_lost lost = by (owned_among n s.table.owned) refl
          where
            by : (x : Option Reference) → owned_among n s.table.owned ≡ x → GoesOn layouts s (command.Root d o) (Ok (reply.Refused refusal.Unrooted)) store runner
            by None none_is = refuses layouts store runner s (command.Root d o) refusal.Unrooted holds (root_tests_are d None none_is)
            by (Some q) named_is = absurd (told_found q object (live q (names q named_is)) lost)

        -- memory may be wanted where it is
        pub root_may : is_err object ≡ false → MayWant layouts s (command.Root d o)
        root_may found = record { takes = refl; unrefused = by (owned_among n s.table.owned) refl }
          where
            by : (x : Option Reference) → owned_among n s.table.owned ≡ x → IsUnrefused (first_failing (tests layouts s (command.Root d o)))
            by None none_is = absurd (cc (sym (ap is_err (gone (ap (is_of_store store) it.1.0 ∙ owned-of_store store n) (names_none none_is))) ∙ found))
            by (Some q) named_is =
                unrefused_by (first_failing (tests layouts s (command.Root d o))) (first_failing ((roots_full s.table, refusal.RootsFull) ∷ [])) (root_tests_are d (Some q) named_is) (full_only (roots_full s.table))

      module _ (d : ℕ) (new : StoreView ℕ) (runner' : RunnerView) (same : IsSameStore store new) (rest_is : runner'.rest ≡ runner.rest) (result : Result GcRootIndex RootFault)
          (live : (q : Reference) → NamesReference store s.table handle q → PushesRoot layouts s.table s.account q result new) (none_live : is_of_store store handle ≡ true → NamesNothing store s.table handle → result ≡ Err fault.Unrooted) where
        -- the store says so where it names nothing
        refused_by : owned_among n s.table.owned ≡ None → result ≡ Err fault.Unrooted
        refused_by none_is = none_live (ap (is_of_store store) it.1.0 ∙ owned-of_store store n) (names_none none_is)

        -- a root was pushed
        pub root_made : (pushed : GcRootIndex) → result ≡ Ok pushed → register_at runner'.registers d ≡ Some (raw.Ref c (Some pushed)) → ((k : ℕ) → k ≢ d → register_at runner'.registers k ≡ register_at runner.registers k) → GoesOn layouts s (command.Root d o) (Ok reply.Done) new runner'
        root_made pushed result_is set others = by (owned_among n s.table.owned) refl
          where
            by : (x : Option Reference) → owned_among n s.table.owned ≡ x → GoesOn layouts s (command.Root d o) (Ok reply.Done) new runner'
            by None none_is = absurd (cc (sym result_is ∙ refused_by none_is))
            by (Some q) named_is =
                let did : PushesRoot layouts s.table s.account q (Ok pushed) new = subst (λ (x : Result GcRootIndex RootFault). PushesRoot layouts s.table s.account q x new) result_is (live q (names q named_is)) in
                record {
                  after = roots_as d c q s;
                  answers = answers_by layouts None s (shape (command.Root d o)) (first_failing (tests layouts s (command.Root d o))) None reply.Done (roots_as d c q s)
                      (root_tests_are d (Some q) named_is ∙ passes (roots_full s.table) refusal.RootsFull [] did.0) (
                        refl,
                        ap (λ (x : Option Reference). over s (roots_as d c (unwrap_or x null) (visible s))) (sym named_is)
                            ∙ ap (λ (h : Option HeldOwned). over s (roots_as d (owned_class h) (unwrap_or (owned_named s.table.owned h) null) (visible s))) (sym it.1.1),
                      );
                  account = refl;
                  holds = holds_pushed layouts store new runner runner' s (push q s.table) s.account d c pushed same refl holds did.1.1 did.1.0 set others rest_is;
                }

        -- it is gone
        pub root_gone : result ≡ Err fault.Unrooted → HoldsState layouts new runner' s → GoesOn layouts s (command.Root d o) (Ok (reply.Refused refusal.Unrooted)) new runner'
        root_gone result_is after = by (owned_among n s.table.owned) refl
          where
            by : (x : Option Reference) → owned_among n s.table.owned ≡ x → GoesOn layouts s (command.Root d o) (Ok (reply.Refused refusal.Unrooted)) new runner'
            by None none_is = refuses layouts new runner' s (command.Root d o) refusal.Unrooted after (root_tests_are d None none_is)
            by (Some q) named_is = absurd (subst (λ (x : Result GcRootIndex RootFault). PushesRoot layouts s.table s.account q x new) result_is (live q (names q named_is)))

        -- no further scoped root may be made
        pub root_full : result ≡ Err fault.RootsFull → HoldsState layouts new runner' s → GoesOn layouts s (command.Root d o) (Ok (reply.Refused refusal.RootsFull)) new runner'
        root_full result_is after = by (owned_among n s.table.owned) refl
          where
            by : (x : Option Reference) → owned_among n s.table.owned ≡ x → GoesOn layouts s (command.Root d o) (Ok (reply.Refused refusal.RootsFull)) new runner'
            by None none_is = absurd (cc (sym result_is ∙ refused_by none_is))
            by (Some q) named_is =
                let did : PushesRoot layouts s.table s.account q (Err fault.RootsFull) new = subst (λ (x : Result GcRootIndex RootFault). PushesRoot layouts s.table s.account q x new) result_is (live q (names q named_is)) in
                refuses layouts new runner' s (command.Root d o) refusal.RootsFull after (root_tests_are d (Some q) named_is ∙ stops (roots_full s.table) refusal.RootsFull [] did.0)

      -- its root is given up, or was gone
      module _ (new : StoreView ℕ) (same : IsSameStore store new) where
        pub unroot_gone : DropsHandle layouts store s.table s.account handle false new → GoesOn layouts s (command.Unroot o) (Ok (reply.Refused refusal.Unrooted)) new runner
        unroot_gone did =
            refuses layouts new runner s (command.Unroot o) refusal.Unrooted (holds_same layouts store new runner runner s same (λ d. refl) refl holds did.1)
            (unroot_tests_are None (was_gone layouts store new s.table s.account holds.table handle n c it.1.0 did))

        pub unroot_done : (runner' : RunnerView) → DropsHandle layouts store s.table s.account handle true new → register_at runner'.rest.owned o ≡ Some (raw.Ref c None) → ((k : ℕ) → k ≢ o → register_at runner'.rest.owned k ≡ register_at runner.rest.owned k)
            → ((d : ℕ) → register_at runner'.registers d ≡ register_at runner.registers d) → runner'.rest.marks ≡ runner.rest.marks → GoesOn layouts s (command.Unroot o) (Ok reply.Done) new runner'
        unroot_done runner' did set others registers_are marks_are =
            let live = was_live layouts store new s.table s.account holds.table handle n c it.1.0 did in
            let after : State = (unroots o s).1 in
            let table : HoldsAccount layouts new (give_up held s.table) s.account = subst (λ (h : Option HeldOwned). HoldsAccount layouts new (give_up h s.table) s.account) (sym it.1.1) (gave_up layouts store new s.table s.account holds.table handle n c it.1.0 true did) in
            record {
              after = after;
              answers = answers_by layouts None s (shape (command.Unroot o)) (first_failing (tests layouts s (command.Unroot o))) None reply.Done after (unroot_tests_are (Some live.0) live.1) (refl, refl);
              account = refl;
              holds = record {
                table = table;
                registers = λ d. subst (λ (x : Option RawValue). RegisterStands new after.table x (s.registers d)) (sym (registers_are d)) (stands_kept store new s.table after.table (register_at runner.registers d) (s.registers d) same (λ i p e. e) (holds.registers d));
                owned = set_owned_stands new runner.rest.owned runner'.rest.owned s.owned_registers o (raw.Ref c None) unrooted tt set others
                    (λ k. owned_stands store new (register_at runner.rest.owned k) (s.owned_registers k) same (holds.owned k));
                marks = marks_are ∙ holds.marks;
              };
            }
