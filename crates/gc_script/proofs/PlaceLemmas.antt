-- What an object that is placed, or refused by the heap, leaves of the state.
use Rattle.std.proofs.Common.{inl, inr, ◌≡◌, ◌≢◌, ℕ, [], ◌∷◌, ◌++◌, length, Option, Some, None, true, false, sym, ap, ◌∙◌, refl, subst, arith}
use Rattle.std.specs.Prelude.{◌⊎◌, Ok, Err}
use Rattle.std.proofs.lemmas.List.{length-append}
use Rattle.gc_types.specs.declared.kind.Layouts.{Layouts}
use Rattle.gc_owner.specs.declared.entry.GcClass.{GcClass}
use Rattle.gc_model.specs.Values.{Object}
use Rattle.gc_model.specs.Table.{Table, make}
use Rattle.gc_model.specs.Allocation.{Limits, Allocates, LacksMemory, no_heap, no_room, too_large}
use Rattle.gc_model.specs.Words.{Placing}
use Rattle.gc_model.specs.Live.{roots_full}
use Rattle.gc_view.specs.Sizes.{need_of}
use Rattle.gc_model.specs.Sizes.{object_size}
use Rattle.gc_model.specs.Stores.{StoreView}
use Rattle.gc_values.specs.declared.root.GcRootIndex.{GcRootIndex}
use Rattle.gc_values.specs.declared.root.RawValue.TheVariants as raw
use Rattle.gc_values.specs.declared.faults.PlaceFault.TheVariants as fault
use Rattle.gc_model.specs.Accounts.{Account, HoldsAccount, with_held}
use Rattle.gc_store.specs.Stores.{IsSameStore}
use Rattle.gc_store.specs.Places.{Places, LacksPlace}
use Rattle.gc_commands.specs.declared.reply.Reply.TheVariants as reply
use Rattle.gc_commands.specs.declared.reply.Refusal.{Refusal}
use Rattle.gc_commands.specs.declared.reply.Refusal.TheVariants as refusal
use Rattle.gc_script.specs.declared.runner.RunError.{RunError}
use Rattle.gc_script.specs.Slots.{register_at, RunnerView}
use Rattle.gc_script.specs.State.{State, reference, HoldsState, with_heap, set_register, visible}
use Rattle.gc_script.specs.Shapes.{CommandShape, making}
use Rattle.gc_script.specs.Steps.{first_failing, heap_tests, made, lacks}
use Rattle.gc_model.specs.Policy.{PolicyState}
use Rattle.gc_script.specs.Policy.{policy_of, Came, CameDoing}
use Rattle.gc_script.specs.Policy as policy
use Rattle.gc_script.specs.Run.{RunsOn}
use Rattle.gc_script.proofs.StandLemmas.{keeps_same, holds_kept, holds_same}
use Rattle.gc_script.proofs.TestLemmas.{passes, stops, answers_by, follows_by}
use Rattle.gc_script.proofs.SetLemmas.{next_push, holds_pushed}
use Rattle.gc_script.proofs.AskLemmas.{AsksBy, prepares_asks}
use Rattle.gc_script.proofs.CountLemmas.{tells_pages, says_other, counts_nothing, counts_done, counts_refused}
use Rattle.gc_script.proofs.GrowthLemmas.{paged_pushes}

-- what making an object leaves of the pushes
made_pushes : (layouts : Layouts) (limit : Option ℕ) (places : Placing) (o : Object ℕ) (t t' : Table ℕ) → Allocates layouts limit places o t t' → t'.pushes ≡ t.pushes ++ next_push t ∷ []
made_pushes layouts limit places o t t' allocates = ap (λ (x : Table ℕ). x.pushes) allocates.made

lacking_pushes : (layouts : Layouts) (limit : Option ℕ) (places : Placing) (o : Object ℕ) (t t' : Table ℕ) → LacksMemory layouts limit places o t t' → t'.pushes ≡ t.pushes
lacking_pushes layouts limit places o t t' (no_heap refused is) = ap (λ (x : Table ℕ). x.pushes) is
lacking_pushes layouts limit places o t t' (no_room may full lacks_fit is) = ap (λ (x : Table ℕ). x.pushes) is

-- the object is the next one of the table before, too
made_position : (layouts : Layouts) (limit : Option ℕ) (places : Placing) (o : Object ℕ) (t t' : Table ℕ) → Allocates layouts limit places o t (make o t') → length t.objects ≡ length t'.objects
made_position layouts limit places o t t' allocates =
    let both : length (t'.objects ++ o ∷ []) ≡ length (t.objects ++ o ∷ []) = ap (λ (x : Table ℕ). length x.objects) allocates.made in
    omega (arith, sym (length-append t'.objects (o ∷ [])) ∙ both ∙ length-append t.objects (o ∷ []))

-- an allocation that wanted memory had come as far as told, where its tests passed
came_there : (layouts : Layouts) (counter : Option ℕ) (s : State) (limits : Limits) (sh : CommandShape) (found : Option Refusal) (q : PolicyState ℕ) {small not_full : Type 0} → CameDoing layouts counter s sh (policy_of s limits) q → (q ≡ policy_of s limits) ⊎ (small × not_full) → (small → not_full → found ≡ None) → Came layouts counter s sh found (policy_of s limits) q
came_there layouts counter s limits sh None q came begun pass = came
came_there layouts counter s limits sh (Some why) q came (inl same) pass = same
came_there layouts counter s limits sh (Some why) q came (inr both) pass = absurd (cc (pass both.0 both.1))

module _ (layouts : Layouts) (counter : Option ℕ) (limits limits' : Limits) (old new : StoreView ℕ) (runner runner' : RunnerView) (s : State) (d : ℕ) (class : GcClass) (object : State → Object ℕ) (same : IsSameStore old new) (holds : HoldsState layouts old runner s) (marks : runner'.rest ≡ runner.rest) where
  -- no test on the heap refuses
  heap_tests_pass : too_large layouts (object_size layouts s.table.types (object (visible s))) ≡ false → roots_full s.table ≡ false → first_failing (heap_tests layouts s (object (visible s))) ≡ None
  heap_tests_pass small not_full =
      passes _ refusal.TooLarge ((roots_full s.table, refusal.RootsFull) ∷ []) small ∙ passes _ refusal.RootsFull [] not_full

  -- an object was placed
  pub placed : (handle : GcRootIndex) → Places layouts counter (object (visible s)) (policy_of s limits) limits' (Ok handle) new → register_at runner'.registers d ≡ Some (raw.Ref class (Some handle)) → ((k : ℕ) → k ≢ d → register_at runner'.registers k ≡ register_at runner.registers k) → RunsOn layouts counter limits limits' s (making d class object) (heap_tests layouts s (object (visible s))) (Ok reply.Done) new runner'
  placed handle places set others =
      let o = object (visible s) in
      let t : Table ℕ = make o places.after.table in
      let a : Account = with_held layouts (length s.table.objects) places.word places.after.account in
      let after : State = set_register d (reference class (Some (length s.table.pushes))) (with_heap t a s) in
      let pass = heap_tests_pass places.small places.not_full in
      record {
        after = after;
        answers = answers_by layouts limits.limit s (making d class object) (first_failing (heap_tests layouts s (object (visible s)))) None reply.Done after pass (made t a places.allocates refl refl);
        follows = follows_by layouts counter s limits (making d class object) (first_failing (heap_tests layouts s (object (visible s)))) None reply.Done after limits' pass
            (policy.made places.word refl places.prepares places.lies (record {
              table = refl;
              account = ap (λ (n : ℕ). with_held layouts n places.word places.after.account) (made_position layouts limits.limit s.account.places o s.table places.after.table places.allocates);
              limits_are = places.limits;
            }));
        counts = counts_done (need_of layouts (object_size layouts s.table.types o)) limits limits' reply.Done after refl
            (subst (λ (l : Limits). AsksBy (need_of layouts (object_size layouts s.table.types o)) true limits l t) (sym places.limits) (prepares_asks layouts counter (object_size layouts s.table.types o) (policy_of s limits) places.prepares));
        holds = holds_pushed layouts old new runner runner' s t a d class handle same (made_pushes layouts limits.limit s.account.places o s.table t places.allocates) holds places.holds places.handle_is set others marks;
      }

  module _ (slots_are : (k : ℕ) → register_at runner'.registers k ≡ register_at runner.registers k) where
    refused : (why : Refusal) → tells_pages why ≡ false → first_failing (heap_tests layouts s (object (visible s))) ≡ Some why → HoldsAccount layouts new s.table s.account → limits' ≡ limits → RunsOn layouts counter limits limits' s (making d class object) (heap_tests layouts s (object (visible s))) (Ok (reply.Refused why)) new runner'
    refused why mild found table same_limits = record {
      after = s;
      answers = answers_by layouts limits.limit s (making d class object) (first_failing (heap_tests layouts s (object (visible s)))) (Some why) (reply.Refused why) s found (refl, refl);
      follows = follows_by layouts counter s limits (making d class object) (first_failing (heap_tests layouts s (object (visible s)))) (Some why) (reply.Refused why) s limits' found (record { account = refl; same_limits = same_limits });
      counts = counts_nothing (need_of layouts (object_size layouts s.table.types (object (visible s)))) limits limits' (reply.Refused why) s (says_other (reply.Refused why) (reply.Refused why) refl mild) same_limits;
      holds = holds_same layouts old new runner runner' s same slots_are marks holds table;
    }

    -- no heap can hold it
    pub refused_large : Places layouts counter (object (visible s)) (policy_of s limits) limits' (Err fault.TooLarge) new → RunsOn layouts counter limits limits' s (making d class object) (heap_tests layouts s (object (visible s))) (Ok (reply.Refused refusal.TooLarge)) new runner'
    refused_large places =
        refused refusal.TooLarge refl (stops _ refusal.TooLarge ((roots_full s.table, refusal.RootsFull) ∷ []) places.0) places.1.holds places.1.limits

    -- no further root may be made
    pub refused_full : Places layouts counter (object (visible s)) (policy_of s limits) limits' (Err fault.RootsFull) new → RunsOn layouts counter limits limits' s (making d class object) (heap_tests layouts s (object (visible s))) (Ok (reply.Refused refusal.RootsFull)) new runner'
    refused_full places =
        refused refusal.RootsFull refl
        (passes _ refusal.TooLarge ((roots_full s.table, refusal.RootsFull) ∷ []) places.0 ∙ stops _ refusal.RootsFull [] places.1)
        places.2.holds places.2.limits

    -- there was no room
    pub lacked : (need : ℕ) → LacksPlace layouts counter (object (visible s)) (policy_of s limits) limits' need new → RunsOn layouts counter limits limits' s (making d class object) (heap_tests layouts s (object (visible s))) (Ok (reply.Refused refusal.GcHeapOutOfMemory)) new runner'
    lacked need places =
        let o = object (visible s) in
        let after : State = with_heap places.after.table places.after.account s in
        let pass = heap_tests_pass places.small places.not_full in
        record {
          after = after;
          answers = answers_by layouts limits.limit s (making d class object) (first_failing (heap_tests layouts s (object (visible s)))) None (reply.Refused refusal.GcHeapOutOfMemory) after pass (lacks places.after.table places.after.account places.lacks refl refl);
          follows = follows_by layouts counter s limits (making d class object) (first_failing (heap_tests layouts s (object (visible s)))) None (reply.Refused refusal.GcHeapOutOfMemory) after limits' pass
              (policy.refused (λ is. cc is) places.prepares (record { table = refl; account = refl; limits_are = places.limits }));
          counts = counts_refused (need_of layouts (object_size layouts s.table.types o)) limits limits' (reply.Refused refusal.GcHeapOutOfMemory) after (inl refl)
              (subst (λ (l : Limits). AsksBy (need_of layouts (object_size layouts s.table.types o)) false limits l places.after.table) (sym places.limits) (prepares_asks layouts counter (object_size layouts s.table.types o) (policy_of s limits) places.prepares));
          holds = holds_kept layouts old new runner runner' s places.after.table places.after.account same (keeps_same s.table.pushes places.after.table.pushes (lacking_pushes layouts limits.limit s.account.places o s.table places.after.table places.lacks)) slots_are marks holds places.holds;
        }

    -- want of memory leaves the registers
    pub unplaced : (e : RunError) → Places layouts counter (object (visible s)) (policy_of s limits) limits' (Err fault.Memory) new → RunsOn layouts counter limits limits' s (making d class object) (heap_tests layouts s (object (visible s))) (Err e) new runner'
    unplaced e places = record {
      after = places.after;
      came = came_there layouts counter s limits (making d class object) (first_failing (heap_tests layouts s (object (visible s)))) places.after places.prepared places.begun (λ small not_full. heap_tests_pass small not_full);
      pages = places.pages;
      holds = holds_kept layouts old new runner runner' s places.after.table places.after.account same
          (keeps_same s.table.pushes places.after.table.pushes (paged_pushes limits.limit (need_of layouts (object_size layouts s.table.types (object (visible s)))) s.table places.after.table places.pages))
          slots_are marks holds places.holds;
      limits_are = places.limits;
    }
