-- Exceptions that are thrown, and the pending one that is taken.
use Rattle.std.proofs.Common.{◌≡◌, ℕ, length, List, [], true, false, Option, Some, None, Ok, Err, sym, ap, ◌∙◌, refl, subst}
use Rattle.std.specs.Prelude.{is_some, ◌&&◌}
use Rattle.std.specs.List.{slice_get}
use Rattle.std.proofs.lemmas.Option.{none-some}
use Rattle.gc_types.specs.declared.kind.Layouts.{Layouts}
use Rattle.gc_owner.specs.declared.entry.GcClass.TheVariants as class
use Rattle.gc_model.specs.Values.{Reference, null, small, at, Object, struct, array, host, exception}
use Rattle.gc_model.specs.Table.{push}
use Rattle.gc_model.specs.Live.{roots_full}
use Rattle.gc_model.specs.Pending.{set_pending, take_pending}
use Rattle.gc_model.specs.Reads.{after_read}
use Rattle.gc_model.specs.Stores.{StoreView}
use Rattle.gc_model.specs.Holds.{IsException}
use Rattle.gc_model.proofs.HoldsParts.{same_held-itself}
use Rattle.gc_model.proofs.HoldsPending.{holds_pending_set}
use Rattle.gc_model.specs.Accounts.{HoldsAccount}
use Rattle.gc_values.specs.declared.root.GcRootIndex.{GcRootIndex}
use Rattle.gc_values.specs.declared.root.RawValue.TheVariants as raw
use Rattle.gc_values.specs.declared.root.RootFault.{RootFault}
use Rattle.gc_values.specs.declared.root.RootFault.TheVariants as fault
use Rattle.gc_store.specs.Roots.{handle_of}
use Rattle.gc_store.specs.Stores.{IsSameStore}
use Rattle.gc_store.specs.Thrown.{NamesException, SetsPending, AnswersPending}
use Rattle.gc_store.specs.Values.{IsReadAs}
use Rattle.gc_store.proofs.HandleWords.{named_of_store}
use Rattle.gc_commands.specs.declared.command.Command.TheVariants as command
use Rattle.gc_commands.specs.declared.reply.Reply.{Reply}
use Rattle.gc_commands.specs.declared.reply.Reply.TheVariants as reply
use Rattle.gc_commands.specs.declared.reply.Refusal.{Refusal}
use Rattle.gc_commands.specs.declared.reply.Refusal.TheVariants as refusal
use Rattle.gc_script.specs.declared.objects.NamedObject.{NamedObject}
use Rattle.gc_script.specs.declared.objects.Wanted.TheVariants as wanted
use Rattle.gc_script.specs.Slots.{RunnerView, register_at}
use Rattle.gc_script.specs.State.{State, HoldsState, with_table, visible, over}
use Rattle.gc_script.specs.Given.{Target, given_register, is_unset, is_exception}
use Rattle.gc_script.specs.Named.{IsNamedEverywhere, FoundObject, register_with}
use Rattle.gc_script.specs.Shapes.{shape, reads, pending_value, throw_target}
use Rattle.gc_script.specs.Steps.{tests, first_failing, target_tests}
use Rattle.gc_script.specs.Run.{GoesOn}
use Rattle.gc_script.specs.Values.{ShowsRead}
use Rattle.gc_script.proofs.ReadLemmas.{read_goes}
use Rattle.gc_script.proofs.StandLemmas.{holds_table, holds_kept, holds_same}
use Rattle.gc_script.proofs.TestLemmas.{passes, stops, answers_by, refuses}
use Rattle.gc_script.proofs.ValueLemmas.{same_root}

-- an object that is wanted as an exception is one
exception_at : (objects : List (Object ℕ)) (p : ℕ) (o : Object ℕ) → slice_get objects p ≡ Some o → is_exception o ≡ true → IsException objects (at p)
exception_at objects p (struct ty vs) there is = absurd (cc is)
exception_at objects p (array ty vs) there is = absurd (cc is)
exception_at objects p (host v) there is = absurd (cc is)
exception_at objects p (exception ty tag vs) there is = record { position = p; reference_is = refl; ty = ty; tag = tag; values = vs; object_is = there }

-- what is found as an exception may be pending
pub may_throw : (layouts : Layouts) (store : StoreView ℕ) (found : NamedObject) → IsNamedEverywhere layouts store wanted.Exception found → NamesException ℕ layouts store found.root
may_throw layouts store found named t r holds names =
    let told = named t r holds names in
    subst (λ (q : Reference). IsException t.objects q) (sym told.1.0) (exception_at t.objects told.0.position told.0.object told.0.object_is told.1.1)

module _ (layouts : Layouts) (store new : StoreView ℕ) (runner : RunnerView) (s : State) (r : ℕ) (holds : HoldsState layouts store runner s) (set : is_unset (given_register s r) ≡ false) where
  past_name : first_failing (tests layouts s (command.Throw r)) ≡ first_failing (target_tests is_exception s r)
  past_name = passes (is_unset (given_register s r)) refusal.NoSuchName (target_tests is_exception s r) set

  -- it names no exception, or its root is gone
  pub throw_refused : (why : Refusal) → first_failing (target_tests is_exception s r) ≡ Some why → GoesOn layouts s (command.Throw r) (Ok (reply.Refused why)) store runner
  throw_refused why found = refuses layouts store runner s (command.Throw r) why holds (past_name ∙ found)

  module _ (found : NamedObject) (is : FoundObject store s wanted.Exception r found) where
    -- the exception is pending
    pub was_thrown : IsSameStore store new → SetsPending layouts store s.table s.account found.root (Ok tt) new → GoesOn layouts s (command.Throw r) (Ok (reply.Refused refusal.ThrownException)) new runner
    was_thrown same sets =
        let q : sets.0 ≡ at is.names.position = same_root layouts store s.table (holds_table holds.table) found.root sets.0 (at is.names.position) sets.1.0 is.names.named in
        let table : HoldsAccount layouts new (set_pending (at is.names.position) s.table) s.account = subst (λ (x : Reference). HoldsAccount layouts new (set_pending x s.table) s.account) q sets.1.1 in
        record {
          after = with_table (set_pending (at is.names.position) s.table) s;
          answers = answers_by layouts None s (shape (command.Throw r)) (first_failing (tests layouts s (command.Throw r))) None (reply.Refused refusal.ThrownException) _ (past_name ∙ is.passes)
              (refl, ap (λ (x : Option Target). over s (with_table (throw_target x (visible s).table) (visible s))) (sym is.is_target));
          account = refl;
          holds = holds_kept layouts store new runner runner s (set_pending (at is.names.position) s.table) s.account same (λ i p e. e) (λ d. refl) refl holds table;
        }

    -- the store refuses no root that is live
    pub never_unthrown : (f : RootFault) → SetsPending layouts store s.table s.account found.root (Err f) new → ⊥
    never_unthrown fault.WrongStore told = cc (sym told ∙ named_of_store store s.table found.root (at is.names.position) is.names.named)
    never_unthrown fault.Unrooted told = told.1 (at is.names.position) is.names.named
    never_unthrown fault.RootsFull told = told
    never_unthrown fault.Memory told = told

module _ (layouts : Layouts) (store : StoreView ℕ) (runner : RunnerView) (s : State) (d : ℕ) (holds : HoldsState layouts store runner s) where
  -- the state without a pending exception, as a store would hold it
  abbrev untaken : State
  untaken = with_table (take_pending s.table) s

  abbrev cleared : StoreView ℕ
  cleared = record store { pending = 0 }

  cleared_holds : HoldsAccount layouts cleared (take_pending s.table) s.account
  cleared_holds = record {
    place = holds.table.place;
    holds = holds_pending_set layouts store s.table holds.table.place None 0 store.heap holds.table.holds (record { same_word = refl; thrown = λ r e. absurd (none-some r e) }) (same_held-itself store.heap);
    account = record { held = holds.table.account.held; places = holds.table.account.places; last = holds.table.account.last; tries = holds.table.account.tries; upper = holds.table.account.upper };
  }

  untaken_holds : HoldsState layouts cleared runner untaken
  untaken_holds = holds_kept layouts store cleared runner runner s (take_pending s.table) s.account (record { engine = refl; number = refl; counter = refl }) (λ i p e. e) (λ k. refl) refl holds cleared_holds

  module _ (new : StoreView ℕ) (runner' : RunnerView) (same : IsSameStore store new) (rest_is : runner'.rest ≡ runner.rest) where
    -- no further root may be made for it
    pub take_refused : ((k : ℕ) → register_at runner'.registers k ≡ register_at runner.registers k) → AnswersPending layouts s.table s.account (Err fault.RootsFull) new → GoesOn layouts s (command.Take d) (Ok (reply.Refused refusal.RootsFull)) new runner'
    take_refused slots_are told =
        refuses layouts new runner' s (command.Take d) refusal.RootsFull
        (holds_same layouts store new runner runner' s same slots_are rest_is holds told.holds)
        (stops (is_some s.table.pending && roots_full s.table) refusal.RootsFull []
        (ap (λ (o : Option Reference). is_some o && roots_full s.table) told.is_pending ∙ told.full))

    -- a value was read, where what is pending is that
    taken_goes : (pending : Option Reference) → s.table.pending ≡ pending → (is_some pending && roots_full s.table) ≡ false → (handle : Option GcRootIndex) (answer : Reply)
        → IsReadAs new s.table (pending_value pending) (raw.Ref class.Exn handle) → HoldsAccount layouts new (after_read (pending_value pending) (take_pending s.table)) s.account
        → ((k : ℕ) → register_at runner'.registers k ≡ register_with (Some d) (Some (raw.Ref class.Exn handle)) runner.registers k)
        → ShowsRead layouts new (raw.Ref class.Exn handle) answer
        → GoesOn layouts s (command.Take d) (Ok answer) new runner'
    taken_goes pending is room handle answer is_read table slots_are shows_it =
        let goes = read_goes layouts cleared new runner runner' untaken (record { engine = same.engine; number = same.number; counter = same.counter }) untaken_holds rest_is
        (λ (x : State). pending_value pending) (Some d) (pending_value pending) refl [] (raw.Ref class.Exn handle) answer refl slots_are is_read table shows_it in
        record {
          after = goes.after;
          answers = answers_by layouts None s (shape (command.Take d)) (first_failing (tests layouts s (command.Take d))) None answer goes.after
              (passes (is_some s.table.pending && roots_full s.table) refusal.RootsFull [] (ap (λ (o : Option Reference). is_some o && roots_full s.table) is ∙ room)) (
                goes.answers.0 ∙ ap (λ (o : Option Reference). (reads (pending_value o) (Some d) (visible untaken)).0) (sym is),
                goes.answers.1 ∙ ap (λ (o : Option Reference). over s (reads (pending_value o) (Some d) (visible untaken)).1) (sym is),
              );
          account = goes.account;
          holds = goes.holds;
        }

    -- what was pending is read as a new root
    root_taken : (pending : Reference) → s.table.pending ≡ Some pending → IsException s.table.objects pending → roots_full s.table ≡ false → (handle : GcRootIndex) (answer : Reply)
        → handle ≡ handle_of new (length s.table.scoped) s.table.drops → HoldsAccount layouts new (take_pending (push pending s.table)) s.account
        → ((k : ℕ) → register_at runner'.registers k ≡ register_with (Some d) (Some (raw.Ref class.Exn (Some handle))) runner.registers k)
        → ShowsRead layouts new (raw.Ref class.Exn (Some handle)) answer
        → GoesOn layouts s (command.Take d) (Ok answer) new runner'
    root_taken null is names room handle answer handle_is table slots_are shows_it = absurd (cc (names.reference_is))
    root_taken (small n) is names room handle answer handle_is table slots_are shows_it = absurd (cc (names.reference_is))
    root_taken (at p) is names room handle answer handle_is table slots_are shows_it =
        taken_goes (Some (at p)) is room (Some handle) answer (ap (λ (h : GcRootIndex). raw.Ref class.Exn (Some h)) handle_is) table slots_are shows_it

    -- the exception that was pending was taken, or null where none was
    pub taken : (handle : Option GcRootIndex) (answer : Reply) → AnswersPending layouts s.table s.account (Ok handle) new
        → ((k : ℕ) → register_at runner'.registers k ≡ register_with (Some d) (Some (raw.Ref class.Exn handle)) runner.registers k)
        → ShowsRead layouts new (raw.Ref class.Exn handle) answer
        → GoesOn layouts s (command.Take d) (Ok answer) new runner'
    taken (Some handle) answer told slots_are shows_it =
        root_taken told.root told.was_pending (holds.table.holds.pending.thrown told.root told.was_pending) told.not_full handle answer told.handle_is told.holds slots_are shows_it
    taken None answer told slots_are shows_it =
        taken_goes None told.0 refl None answer refl (subst (λ (o : Option Reference). HoldsAccount layouts new (record s.table { pending = o }) s.account) told.0 told.1) slots_are shows_it
