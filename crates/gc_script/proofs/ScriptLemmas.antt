-- Commands that were run one after the other.
use Rattle.std.proofs.Common.{◌≡◌, true, ℕ, ◌+◌, ◌-◌, ◌^◌, ◌≤◌, min, List, [], ◌∷◌, ◌++◌, Option, inl, inr, refl, sym, ap, subst, ◌∙◌, arith, append_assoc, append-nil}
use Rattle.gc_types.specs.declared.kind.Layouts.{Layouts}
use Rattle.gc_model.specs.Allocation.{Limits}
use Rattle.gc_model.specs.Stores.{StoreView}
use Rattle.gc_model.specs.Holds.{HoldsKept}
use Rattle.gc_commands.specs.declared.command.Command.{Command}
use Rattle.gc_commands.specs.declared.reply.Reply.{Reply}
use Rattle.gc_commands.specs.declared.reply.Reply.TheVariants as reply
use Rattle.gc_script.specs.Slots.{RunnerView}
use Rattle.gc_script.specs.State.{State, HoldsState}
use Rattle.gc_script.specs.Shapes.{is_collection}
use Rattle.gc_script.specs.Steps.{Step}
use Rattle.gc_script.specs.Policy.{Follows, RunByPolicy}
use Rattle.gc_script.specs.Run.{LimiterCounts, told, overlooked, nothing, wanted_bytes, WantsMemory}
use Rattle.gc_script.specs.Script.{AddsRefused, RefusedIn, RanScript, RanNext, EndedScript, StoppedScript}
use Rattle.gc_script.proofs.CountLemmas.{says_other}
use Rattle.gc_script.proofs.KeptLemmas.{no_last, last_command}

-- a reply stands behind the others, for which room was made before
pub reply_behind : (before room now : List Reply) (r : Reply) → room ≡ before → now ≡ room ++ r ∷ [] → now ≡ before ++ r ∷ []
reply_behind before room now r same appended = appended ∙ ap (λ (rs : List Reply). rs ++ r ∷ []) same

-- a run by the policy, and how many of its replies say what a limiter refused
pub record CountedRun (layouts : Layouts) (counter : Option ℕ) (limits limits' : Limits) (s : State) (cs : List Command) (rs : List Reply) (s' : State) (n : ℕ) : Type 0 where
  pub run : RunByPolicy layouts counter s limits cs rs s' limits'
  pub refused : RefusedIn layouts counter s limits cs rs s' limits' run n

-- a limiter has counted no fewer than so many refusals more
abbrev pub CountedSo : Limits → Limits → ℕ → Type 0
CountedSo limits now refused = min (limits.refusals + refused) (2 ^ 64 - 1) ≤ now.refusals

-- The first commands were run from s: whatever run some commands are from here, the commands done and those
-- are that run from s.
pub record Along (layouts : Layouts) (counter : Option ℕ) (limits now : Limits) (s : State) (done : List Command) (replies : List Reply) (store : StoreView ℕ) (runner : RunnerView) : Type 0 where
  pub mid : State
  pub refused : ℕ
  pub goes_on : (cs : List Command) (rs : List Reply) (after : State) (last : Limits) (n : ℕ) → CountedRun layouts counter now last mid cs rs after n → CountedRun layouts counter limits last s (done ++ cs) (replies ++ rs) after (refused + n)
  pub holds : HoldsState layouts store runner mid
  pub kept : (before : List Command) (last : Command) → is_collection last ≡ true → done ≡ before ++ last ∷ [] → HoldsKept layouts store mid.table
  pub counted : CountedSo limits now refused

module _ (layouts : Layouts) (counter : Option ℕ) (limits : Limits) (s : State) where
  -- nothing was run yet
  pub along_start : (done : List Command) (replies : List Reply) (store : StoreView ℕ) (runner : RunnerView) → done ≡ [] → replies ≡ [] → HoldsState layouts store runner s → Along layouts counter limits limits s done replies store runner
  along_start done replies store runner none none_yet holds = record {
    mid = s;
    refused = 0;
    goes_on = λ cs rs after last n counted.
        subst (λ (m : ℕ). CountedRun layouts counter limits last s (done ++ cs) (replies ++ rs) after m) (omega arith)
        (subst (λ (xs : List Command). CountedRun layouts counter limits last s (xs ++ cs) (replies ++ rs) after n) (sym none)
        (subst (λ (ys : List Reply). CountedRun layouts counter limits last s cs (ys ++ rs) after n) (sym none_yet) counted));
    holds = holds;
    kept = λ before last collects ends. absurd (no_last before last (sym none ∙ ends));
    counted = omega arith;
  }

-- what one more reply adds, and what the limiter has counted then
record Adds (r : Reply) (mid : State) (bytes : ℕ) (limits next : Limits) (refused : ℕ) : Type 0 where
  k : ℕ
  adds : (n : ℕ) → AddsRefused r mid bytes n (k + n)
  counted : CountedSo limits next (refused + k)

-- one more refusal on top of so many
count_more : (before refused now k : ℕ) → k ≤ 1 → min (before + refused) (2 ^ 64 - 1) ≤ now → min (before + (refused + k)) (2 ^ 64 - 1) ≤ min (now + 1) (2 ^ 64 - 1)
count_more before refused now k few so_far = omega (arith, few, so_far)

adds_by : (bytes : ℕ) (limits now next : Limits) (refused : ℕ) (r : Reply) (mid : State) → CountedSo limits now refused → LimiterCounts bytes now next r mid → Adds r mid bytes limits next refused
adds_by bytes limits now next refused r mid so_far (told is_asked refuses) = record {
  k = 1;
  adds = λ n. inl (is_asked, refl);
  counted = subst (λ (l : Limits). CountedSo limits l (refused + 1)) (sym refuses) (count_more limits.refusals refused now.refusals 1 (omega arith) so_far);
}
adds_by bytes limits now next refused r mid so_far (overlooked done refuses) = record {
  k = 0;
  adds = λ n. inr ((λ is_asked. says_other r reply.Done done refl is_asked.says), omega arith);
  counted = subst (λ (l : Limits). CountedSo limits l (refused + 0)) (sym refuses) (count_more limits.refusals refused now.refusals 0 (omega arith) so_far);
}
adds_by bytes limits now next refused r mid so_far (nothing not_asked same) = record {
  k = 0;
  adds = λ n. inr (not_asked, omega arith);
  counted = subst (λ (l : Limits). CountedSo limits l (refused + 0)) (sym same) (omega (arith, so_far));
}

-- a run that begins with one more command, whose reply adds k
one_more : (layouts : Layouts) (counter : Option ℕ) (limits between last : Limits) (s mid : State) (c : Command) (r : Reply) → Step layouts limits.limit s c r mid → Follows layouts counter s limits c r mid between → (cs : List Command) (rs : List Reply) (after : State) (n m : ℕ) → AddsRefused r mid (wanted_bytes layouts s c) n m → CountedRun layouts counter between last mid cs rs after n → CountedRun layouts counter limits last s (c ∷ cs) (r ∷ rs) after m
one_more layouts counter limits between last s mid c r step follows cs rs after n m adds counted = record {
  run = (mid, between, (step, (follows, counted.run)));
  refused = (n, (counted.refused, adds));
}

module _ (layouts : Layouts) (counter : Option ℕ) (limits now : Limits) (s : State) (done : List Command) (replies : List Reply) (store : StoreView ℕ) (runner : RunnerView) (so_far : Along layouts counter limits now s done replies store runner) where
  -- one more command was run
  pub along_more : (next : Limits) (c : Command) (replies' : List Reply) (store' : StoreView ℕ) (runner' : RunnerView) → RanNext layouts counter now next so_far.mid c replies replies' store' runner' → Along layouts counter limits next s (done ++ c ∷ []) replies' store' runner'
  along_more next c replies' store' runner' did =
      let more : Adds did.answer did.ran.after (wanted_bytes layouts so_far.mid c) limits next so_far.refused = adds_by (wanted_bytes layouts so_far.mid c) limits now next so_far.refused did.answer did.ran.after so_far.counted did.ran.counts in
      record {
        mid = did.ran.after;
        refused = so_far.refused + more.k;
        goes_on = λ cs rs after last n counted.
            subst (λ (xs : List Command). CountedRun layouts counter limits last s xs (replies' ++ rs) after (so_far.refused + more.k + n)) (sym (append_assoc done (c ∷ []) cs))
            (subst (λ (ys : List Reply). CountedRun layouts counter limits last s (done ++ c ∷ cs) ys after (so_far.refused + more.k + n)) (sym (ap (λ (ys : List Reply). ys ++ rs) did.appended ∙ append_assoc replies (did.answer ∷ []) rs))
            (subst (λ (m : ℕ). CountedRun layouts counter limits last s (done ++ c ∷ cs) (replies ++ did.answer ∷ rs) after m) (omega arith)
            (so_far.goes_on (c ∷ cs) (did.answer ∷ rs) after last (more.k + n)
            (one_more layouts counter now next last so_far.mid did.ran.after c did.answer did.ran.step did.ran.follows cs rs after n (more.k + n) (more.adds n) counted))));
        holds = did.ran.holds;
        kept = λ before last collects ends. did.kept (ap is_collection (last_command done c before last ends) ∙ collects);
        counted = more.counted;
      }

  -- the commands done are a run by themselves
  ran_so_far : RanScript layouts counter limits now s done replies so_far.mid
  ran_so_far =
      let whole : CountedRun layouts counter limits now s done replies so_far.mid (so_far.refused + 0) =
      subst (λ (xs : List Command). CountedRun layouts counter limits now s xs replies so_far.mid (so_far.refused + 0)) (append-nil done)
      (subst (λ (ys : List Reply). CountedRun layouts counter limits now s (done ++ []) ys so_far.mid (so_far.refused + 0)) (append-nil replies)
      (so_far.goes_on [] [] so_far.mid now 0 (record { run = (refl, refl); refused = refl }))) in
      record {
        run = whole.run;
        refused = so_far.refused + 0;
        refused_in = whole.refused;
        counted = let counted = so_far.counted in omega (arith, counted);
      }

  -- all commands were run
  pub along_end : (commands : List Command) → done ≡ commands → EndedScript layouts counter limits now s commands replies store
  along_end commands all = record {
    after = so_far.mid;
    ran = subst (λ (xs : List Command). RanScript layouts counter limits now s xs replies so_far.mid) all ran_so_far;
    holds = so_far.holds.table;
    kept = λ before last collects ends. so_far.kept before last collects (all ∙ ends);
  }

  -- the next command wanted memory
  pub along_stopped : (next : Limits) (c : Command) (rest commands : List Command) (store' : StoreView ℕ) (runner' : RunnerView) → commands ≡ done ++ c ∷ rest → WantsMemory layouts counter now next so_far.mid c store' runner' → StoppedScript layouts counter limits next s commands store'
  along_stopped next c rest commands store' runner' cut wants = record {
    done = done;
    wanting = c;
    rest = rest;
    cut = cut;
    replies = replies;
    after = so_far.mid;
    between = now;
    ran = ran_so_far;
    runner = runner';
    wants = wants;
  }
