-- An owned root names the same through each step.
use Rattle.std.proofs.Common.{◌≡◌, ◌<◌, ◌≤◌, ◌-◌, ◌==◌, ℕ, inl, inr, Bool, true, false, not, List, [], ◌∷◌, ◌++◌, Option, Some, None, refl, sym, ap, ◌∙◌, subst, arith, get_or, if◌then◌else◌}
use Rattle.std.specs.List.{Contains}
use Rattle.std.proofs.lemmas.Bool.{cases_order}
use Rattle.std.proofs.lemmas.List.Elements.{Contains-push_cases}
use Rattle.gc_types.specs.declared.kind.Layouts.{Layouts}
use Rattle.gc_types.specs.Declarations.{Declaration}
use Rattle.gc_owner.specs.declared.entry.GcClass.{GcClass}
use Rattle.gc_model.specs.Values.{Reference, null, small, at, Value, numeric, function, continuation, Object}
use Rattle.gc_model.specs.Values as values
use Rattle.gc_model.specs.Table.{Table, Owned, make, with_pages, declare, make_heap}
use Rattle.gc_model.specs.Holds.{HoldsTable}
use Rattle.gc_model.specs.OwnedRoots.{handles_changed, own, owned_among}
use Rattle.gc_model.specs.Stores.{StoreView}
use Rattle.gc_model.specs.Reads.{after_read}
use Rattle.gc_model.specs.Allocation as allocation
use Rattle.gc_model.specs.Allocation.{Grows, LacksMemory, no_heap, no_room}
use Rattle.gc_model.proofs.Members.{filter_among, item_at, map_among}
use Rattle.gc_model.proofs.OwnedRoots.{owned_one}
use Rattle.gc_commands.specs.declared.command.Command.{Command}
use Rattle.gc_commands.specs.declared.command.Command.TheVariants.{Bad, ReadBytes, I31, Field, Elem, Len, HostNumber, SetField, SetElem, Eq, Enter, Leave, Push, Pop, Store, Load, SetGlobal, GetGlobal, Own, Root, Unroot, Throw, Take}
use Rattle.gc_commands.specs.declared.reply.Reply.{Reply}
use Rattle.gc_commands.specs.declared.reply.Refusal.{Refusal}
use Rattle.gc_script.specs.State.{State, HeldOwned, owned, unrooted, visible, over}
use Rattle.gc_script.specs.Given.{given, given_value, given_register, Target, target, target_field}
use Rattle.gc_script.specs.Shapes.{CommandShape, plain, declaring, making, growing, collecting, showing, shape, value_in, kept_as, write_target, throw_target, frame_value, global_value, pending_value, owned_given_up, slot_of}
use Rattle.gc_script.specs.Shapes as shapes
use Rattle.gc_script.specs.Steps as steps
use Rattle.gc_script.specs.Steps.{Step, AnswersShape, Does, MakesNew, first_failing, tests}
use Rattle.gc_script.specs.Run.{Run}
use Rattle.gc_values.specs.declared.root.GcRootIndex.{GcRootIndex}
use Rattle.gc_lists.specs.Versions.{VersionStands, VersionNames}

-- There is an owned root of that number, which names that.
pub record HasRoot (roots : List Owned) (number : ℕ) (r : Reference) : Type 0 where
  pub root : Owned
  pub there : Contains roots root
  pub number_is : root.number ≡ number
  pub names : root.reference ≡ r

-- Owned roots that were made before name what they named, as long as they are there.
pub record KeepsOwned (t u : Table ℕ) : Type 0 where
  pub counted : t.owns ≤ u.owns
  pub named : (root : Owned) → Contains u.owned root → root.number < t.owns → HasRoot t.owned root.number root.reference

has_itself : (roots : List Owned) (root : Owned) → Contains roots root → HasRoot roots root.number root.reference
has_itself roots root there = record { root = root; there = there; number_is = refl; names = refl }

stay_owned : (t u : Table ℕ) → u.owned ≡ t.owned → u.owns ≡ t.owns → KeepsOwned t u
stay_owned t u same counted = record {
  counted = omega (arith, counted);
  named = λ root there before. has_itself t.owned root (subst (λ (roots : List Owned). Contains roots root) same there);
}

keeps_twice : (t u v : Table ℕ) → KeepsOwned t u → KeepsOwned u v → KeepsOwned t v
keeps_twice t u v first second = record {
  counted = let one = first.counted in let two = second.counted in omega (arith, one, two);
  named = λ root there before.
      let mid = second.named root there (let one = first.counted in omega (arith, before, one)) in
      let same = mid.number_is in
      let old = first.named mid.root mid.there (omega (arith, before, same)) in
      record { root = old.root; there = old.there; number_is = old.number_is ∙ mid.number_is; names = old.names ∙ mid.names };
}

-- a root that has another number of handles has its number, and names what it named
handles_apart : (n : ℕ) (root : Owned) (b : Bool) → ((if b then record root { handles = root.handles - 1 } else root).number ≡ root.number) × ((if b then record root { handles = root.handles - 1 } else root).reference ≡ root.reference)
handles_apart n root true = (refl, refl)
handles_apart n root false = (refl, refl)

-- what is left where a handle was given up was there
left_was_there : (held : Option HeldOwned) (roots : List Owned) (root : Owned) → Contains (owned_given_up held roots) root → HasRoot roots root.number root.reference
left_was_there None roots root there = has_itself roots root there
left_was_there (Some unrooted) roots root there = has_itself roots root there
left_was_there (Some (owned c n)) roots root there =
    let changed : Owned → Owned = λ x. if x.number == n then record x { handles = x.handles - 1 } else x in
    let kept = filter_among (λ (x : Owned). not (x.handles == 0)) (handles_changed n (λ m. m - 1) roots) root there in
    let was = map_among changed roots root kept.0 in
    let apart = handles_apart n was.of (was.of.number == n) in
    record {
      root = was.of;
      there = was.among;
      number_is = sym apart.0 ∙ ap (λ (x : Owned). x.number) was.is;
      names = sym apart.1 ∙ ap (λ (x : Owned). x.reference) was.is;
    }

gives_up_owned : (t : Table ℕ) (held : Option HeldOwned) → KeepsOwned t (shapes.give_up held t)
gives_up_owned t held = record { counted = omega arith; named = λ root there before. left_was_there held t.owned root there }

-- an owned root is made, and what a register held is given up
owns_owned : (t : Table ℕ) (r : Reference) (held : Option HeldOwned) → KeepsOwned t (shapes.give_up held (own r t))
owns_owned t r held = record {
  counted = omega arith;
  named = λ root there before.
      let new : Owned = record { number = t.owns; reference = r; handles = 1 } in
      let was = left_was_there held (t.owned ++ new ∷ []) root there in
      let same = was.number_is in
      elim (Contains-push_cases t.owned new was.root was.there) [
        | inl old ↦ record { root = was.root; there = old; number_is = was.number_is; names = was.names }
        | inr is ↦ let late : t.owns ≡ was.root.number = ap (λ (x : Owned). x.number) is in absurd (omega (arith, late, same, before))
      ];
}

read_owned : (t : Table ℕ) (v : Value) → KeepsOwned t (after_read v t)
read_owned t (numeric kind n) = stay_owned t t refl refl
read_owned t (function f) = stay_owned t t refl refl
read_owned t (continuation cont) = stay_owned t t refl refl
read_owned t (values.reference c null) = stay_owned t t refl refl
read_owned t (values.reference c (small n)) = stay_owned t (after_read (values.reference c (small n)) t) refl refl
read_owned t (values.reference c (at p)) = stay_owned t (after_read (values.reference c (at p)) t) refl refl

throw_owned : (t : Table ℕ) (found : Option Target) → KeepsOwned t (throw_target found t)
throw_owned t None = stay_owned t t refl refl
throw_owned t (Some found) = stay_owned t (throw_target (Some found) t) refl refl

write_owned : (t : Table ℕ) (found : Option Target) (i : ℕ) (v : Value) → KeepsOwned t (write_target found i v t)
write_owned t None i v = stay_owned t t refl refl
write_owned t (Some found) i v = stay_owned t (write_target (Some found) i v t) refl refl

-- Plain commands

abbrev KeptBy : State → CommandShape → Type 0
KeptBy s (plain effect) = KeepsOwned s.table (effect s).1.table
KeptBy s _ = Unit {0}

others_keep : (s u : State) → u.table.owned ≡ s.table.owned → u.table.owns ≡ s.table.owns → KeepsOwned s.table u.table
others_keep s u same counted = stay_owned s.table u.table same counted

plain_keeps : (s : State) (c : Command) → KeptBy s (shape c)
plain_keeps s (I31 d n) = others_keep s (shapes.makes_small d n s).1 refl refl
plain_keeps s (Field r i into) = read_owned s.table (value_in s r i)
plain_keeps s (Elem r i into) = read_owned s.table (value_in s r i)
plain_keeps s (SetField r i v) = write_owned s.table (target s r) i (kept_as (target_field s.table (target s r) i) (given_value (given s v)))
plain_keeps s (SetElem r i v) = write_owned s.table (target s r) i (kept_as (target_field s.table (target s r) i) (given_value (given s v)))
plain_keeps s Leave = others_keep s (shapes.leaves s).1 refl refl
plain_keeps s (Push k) = others_keep s (shapes.opens_frame k s).1 refl refl
plain_keeps s Pop = others_keep s (shapes.closes_frame s).1 refl refl
plain_keeps s (Store k r) = others_keep s (shapes.sets_slot k r s).1 refl refl
plain_keeps s (Load k d) = read_owned s.table (frame_value s k)
plain_keeps s (SetGlobal g r) = others_keep s (shapes.sets_global g r s).1 refl refl
plain_keeps s (GetGlobal g d) = read_owned s.table (global_value s g)
plain_keeps s (Own o r) = owns_owned s.table (slot_of (given_value (given_register s r))).reference (s.owned_registers o)
plain_keeps s (Root d o) = others_keep s (shapes.roots d o s).1 refl refl
plain_keeps s (Unroot o) = gives_up_owned s.table (s.owned_registers o)
plain_keeps s (Throw r) = throw_owned s.table (target s r)
plain_keeps s (Take d) =
    let u : Table ℕ = record s.table { pending = None } in
    keeps_twice s.table u (after_read (pending_value s.table.pending) u) (stay_owned s.table u refl refl) (read_owned u (pending_value s.table.pending))
plain_keeps s (ReadBytes r n) = others_keep s s refl refl
plain_keeps s (Len r) = others_keep s s refl refl
plain_keeps s (HostNumber r) = others_keep s s refl refl
plain_keeps s (Eq r q) = others_keep s s refl refl
plain_keeps s Enter = others_keep s (shapes.enters s).1 refl refl
plain_keeps s Bad = others_keep s s refl refl
plain_keeps s _ = tt

-- All commands

module _ (layouts : Layouts) (limit : Option ℕ) (s u : State) where
  by_table : (t : Table ℕ) → u.table ≡ t → KeepsOwned s.table t → KeepsOwned s.table u.table
  by_table t is keeps = subst (KeepsOwned s.table) (sym is) keeps

  lacks_keeps : (o : Object ℕ) (t : Table ℕ) → LacksMemory layouts limit s.account.places o s.table t → KeepsOwned s.table t
  lacks_keeps o t (no_heap refused is) = subst (KeepsOwned s.table) (sym is) (stay_owned s.table s.table refl refl)
  lacks_keeps o t (no_room may refused lacks is) = subst (KeepsOwned s.table) (sym is) (stay_owned s.table (make_heap s.table) refl refl)

  makes_keeps : (d : ℕ) (class : GcClass) (o : Object ℕ) (answer : Reply) → MakesNew layouts limit d class o s answer u → KeepsOwned s.table u.table
  makes_keeps d class o answer (steps.made t a allocates said after) =
      by_table t (ap (λ (x : State). x.table) after) (subst (KeepsOwned s.table) (sym allocates.made) (stay_owned s.table (make o (with_pages allocates.pages s.table)) refl refl))
  makes_keeps d class o answer (steps.lacks t a lacking said after) = by_table t (ap (λ (x : State). x.table) after) (lacks_keeps o t lacking)

  grows_keeps : (bytes : ℕ) (granted : Bool) (t : Table ℕ) → Grows limit bytes s.table granted t → KeepsOwned s.table t
  grows_keeps bytes granted t (allocation.nothing none) = stay_owned s.table t refl refl
  grows_keeps bytes granted t (allocation.granted some may grow) = stay_owned s.table t refl refl
  grows_keeps bytes granted t (no_heap some refused) = stay_owned s.table t refl refl
  grows_keeps bytes granted t (allocation.refused some may over) = stay_owned s.table t refl refl

  declares_keeps : (d : Option Declaration) (answer : Reply) → steps.AnswersDeclare d s answer u → KeepsOwned s.table u.table
  declares_keeps d answer (steps.declared new spells may said after) = by_table (declare new s.table) (ap (λ (x : State). x.table) after) (stay_owned s.table (declare new s.table) refl refl)
  declares_keeps d answer (steps.bad may said after) = by_table s.table (ap (λ (x : State). x.table) after) (stay_owned s.table s.table refl refl)

  -- what is visible has the owned roots of the whole
  over_keeps : (v : State) → KeepsOwned (visible s).table v.table → u ≡ over s v → KeepsOwned s.table u.table
  over_keeps v keeps after = by_table (over s v).table (ap (λ (x : State). x.table) after) (record { counted = keeps.counted; named = keeps.named })

  does_keeps : (sh : CommandShape) (answer : Reply) → KeptBy (visible s) sh → Does layouts limit s sh answer u → KeepsOwned s.table u.table
  does_keeps (plain effect) answer kept does = over_keeps (effect (visible s)).1 kept does.1
  does_keeps (declaring d) answer kept does = declares_keeps (d s.table.types) answer does
  does_keeps (making d class object) answer kept does = makes_keeps d class (object (visible s)) answer does
  does_keeps (growing n) answer kept (steps.grown t a grows said after) = by_table t (ap (λ (x : State). x.table) after) (grows_keeps n true t grows)
  does_keeps (growing n) answer kept (steps.refused t a grows said after) = by_table t (ap (λ (x : State). x.table) after) (grows_keeps n false t grows)
  does_keeps (collecting told) answer kept does = by_table s.table (ap (λ (x : State). x.table) does.1.1) (stay_owned s.table s.table refl refl)
  does_keeps showing answer kept does = by_table s.table (ap (λ (x : State). x.table) does.1) (stay_owned s.table s.table refl refl)

  answers_keep : (sh : CommandShape) (found : Option Refusal) (answer : Reply) → KeptBy (visible s) sh → AnswersShape layouts limit s sh found answer u → KeepsOwned s.table u.table
  answers_keep sh None answer kept answers = does_keeps sh answer kept answers
  answers_keep sh (Some why) answer kept answers = by_table s.table (ap (λ (x : State). x.table) answers.1) (stay_owned s.table s.table refl refl)

step_keeps : (layouts : Layouts) (limit : Option ℕ) (s u : State) (c : Command) (answer : Reply) → Step layouts limit s c answer u → KeepsOwned s.table u.table
step_keeps layouts limit s u c answer step = answers_keep layouts limit s u (shape c) (first_failing (tests layouts s c)) answer (plain_keeps (visible s) c) step

run_keeps : (layouts : Layouts) (limit : Option ℕ) (s u : State) (cs : List Command) (rs : List Reply) → Run layouts limit s cs rs u → KeepsOwned s.table u.table
run_keeps layouts limit s u [] [] run = subst (λ (x : State). KeepsOwned s.table x.table) (sym run) (stay_owned s.table s.table refl refl)
run_keeps layouts limit s u [] (r ∷ rs) run = absurd run
run_keeps layouts limit s u (c ∷ cs) [] run = absurd run
run_keeps layouts limit s u (c ∷ cs) (r ∷ rs) (mid, (step, run)) = keeps_twice s.table mid.table u.table (step_keeps layouts limit s mid c r step) (run_keeps layouts limit mid u cs rs run)

-- In a table that a store holds each number is that of one owned root at most, and was given before.
module _ (layouts : Layouts) (store : StoreView ℕ) (t : Table ℕ) (holds : HoldsTable layouts store t) where
  numbered_before : (root : Owned) → Contains t.owned root → root.number < t.owns
  numbered_before root there =
      let entry = holds.1.owned.in_store root there in
      let early = holds.1.owned.early entry.0 entry.1.0 in
      let numbered = entry.1.1.number in
      omega (arith, early, numbered)

  one_root : (a b : Owned) → Contains t.owned a → Contains t.owned b → a.number ≡ b.number → a ≡ b
  one_root a b at_a at_b same = elim (cases_order at_a.0 at_b.0) [
    | inl place ↦ sym (item_at t.owned a at_a a) ∙ ap (λ k. get_or t.owned k a) place ∙ item_at t.owned b at_b a
    | inr (inl less) ↦
        let rises = holds.1.owned.in_order at_a.0 at_b.0 a less at_b.1 in
        let first : (get_or t.owned at_a.0 a).number ≡ a.number = ap (λ (x : Owned). x.number) (item_at t.owned a at_a a) in
        let second : (get_or t.owned at_b.0 a).number ≡ b.number = ap (λ (x : Owned). x.number) (item_at t.owned b at_b a) in
        absurd (omega (arith, rises, first, second, same))
    | inr (inr less) ↦
        let rises = holds.1.owned.in_order at_b.0 at_a.0 a less at_a.1 in
        let first : (get_or t.owned at_a.0 a).number ≡ a.number = ap (λ (x : Owned). x.number) (item_at t.owned a at_a a) in
        let second : (get_or t.owned at_b.0 a).number ≡ b.number = ap (λ (x : Owned). x.number) (item_at t.owned b at_b a) in
        absurd (omega (arith, rises, first, second, same))
  ]

  -- an owned root that is there before and after names the same
  pub named_same : (limit : Option ℕ) (s u : State) (cs : List Command) (rs : List Reply) → s.table ≡ t → Run layouts limit s cs rs u → (number : ℕ) (r r' : Reference)
      → owned_among number t.owned ≡ Some r → owned_among number u.table.owned ≡ Some r' → r' ≡ r
  named_same limit s u cs rs is run number r r' before after =
      let keeps = subst (λ (x : Table ℕ). KeepsOwned x u.table) is (run_keeps layouts limit s u cs rs run) in
      let old = owned_one number t.owned r before in
      let new = owned_one number u.table.owned r' after in
      let early = numbered_before old.0 old.1.0 in
      let same_old = old.1.1.0 in
      let same_new = new.1.1.0 in
      let was = keeps.named new.0 new.1.0 (omega (arith, early, same_old, same_new)) in
      let one = one_root was.root old.0 was.there old.1.0 (was.number_is ∙ same_new ∙ sym same_old) in
      sym new.1.1.1 ∙ sym was.names ∙ ap (λ (x : Owned). x.reference) one ∙ old.1.1.1

  -- so a version that is live stands still for what it stood for, where that stays
  pub version_kept : (limit : Option ℕ) (s u : State) (cs : List Command) (rs : List Reply) → s.table ≡ t → Run layouts limit s cs rs u → (new : StoreView ℕ) (version : Option GcRootIndex) (r : Reference) (Is Still : Reference → Type 0)
      → ((q : Reference) → Is q → Still q) → VersionStands store t version Is → VersionNames new u.table version r → VersionStands new u.table version Still
  version_kept limit s u cs rs is run new version r Is Still stays stands names =
      record { reference = r; names = names; is = stays r (subst Is (sym (same_reference version stands.names names)) stands.is) }
    where
      same_reference : (v : Option GcRootIndex) → VersionNames store t v stands.reference → VersionNames new u.table v r → r ≡ stands.reference
      same_reference None before after = after ∙ sym before
      same_reference (Some handle) before after =
          let one : before.number ≡ after.number = ap (λ (x : GcRootIndex). x.generation) (sym before.names ∙ after.names) in
          named_same limit s u cs rs is run before.number stands.reference r before.live (subst (λ n. owned_among n u.table.owned ≡ Some r) (sym one) after.live)
