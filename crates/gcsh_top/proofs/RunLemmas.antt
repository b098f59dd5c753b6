-- Lines that were run one after the other.
use Rattle.std.proofs.Common.{◌≡◌, ℕ, List, [], ◌∷◌, ◌++◌, Option, Some, None, inl, inr, refl, sym, ap, subst, ◌∙◌, append_assoc, append-nil, length-append, arith}
use Rattle.std.specs.List.{flat_map}
use Rattle.std.proofs.lemmas.Grind.{flat_map-append}
use Rattle.std.specs.Io.KnownBytes.{Keeps}
use Rattle.std.proofs.KnownBytes.{Appends-kept, Appends-nil, Appends-trans}
use Rattle.gc_types.specs.declared.kind.Layouts.{Layouts}
use Rattle.gc_model.specs.Allocation.{Limits}
use Rattle.gc_model.specs.Stores.{StoreView}
use Rattle.gc_commands.specs.declared.command.Command.{Command}
use Rattle.gc_commands.specs.declared.reply.Reply.{Reply}
use Rattle.gc_script.specs.Policy.{RunByPolicy}
use Rattle.gc_script.specs.Slots.{RunnerView}
use Rattle.gc_script.specs.State.{State, HoldsState}
use Rattle.gc_script.specs.Session.{AreCommandsOf, SessionFrom, reply_line}
use Rattle.gc_script.specs.Cutting.{EndsWhole}
use Rattle.gcsh_top.specs.Ends.{TookPart}
use Rattle.gc_script.specs.Lines.{lines}
use Rattle.gcsh_top.specs.Runs.{BrokeOff, not_read, EndsInCollection, RanLine, RanLines, RanSome, StoppedLines}
use Rattle.gcsh_top.proofs.GcLemmas.{is_gc_line, last_line}
use Rattle.gc_script.proofs.CutLemmas.{lines_behind}

-- two runs, one behind the other
pub runs_on : (layouts : Layouts) (counter : Option ℕ) (s mid after : State) (limits now last : Limits) (cs ds : List Command) (rs qs : List Reply) → RunByPolicy layouts counter s limits cs rs mid now → RunByPolicy layouts counter mid now ds qs after last
    → RunByPolicy layouts counter s limits (cs ++ ds) (rs ++ qs) after last
runs_on layouts counter s mid after limits now last [] ds [] qs ran more =
    subst (λ (l : Limits). RunByPolicy layouts counter s l ds qs after last) ran.1 (subst (λ (t : State). RunByPolicy layouts counter t now ds qs after last) ran.0 more)
runs_on layouts counter s mid after limits now last (c ∷ cs) ds (r ∷ rs) qs ran more =
    (ran.0, ran.1, (ran.2.0, (ran.2.1.0, runs_on layouts counter ran.0 mid after ran.1 now last cs ds rs qs ran.2.1.1 more)))
runs_on layouts counter s mid after limits now last [] ds (r ∷ rs) qs ran more = absurd ran
runs_on layouts counter s mid after limits now last (c ∷ cs) ds [] qs ran more = absurd ran

commands_on : (ls ms : List (List ℕ)) (cs ds : List Command) → AreCommandsOf ls cs → AreCommandsOf ms ds → AreCommandsOf (ls ++ ms) (cs ++ ds)
commands_on [] ms [] ds are more = more
commands_on (l ∷ ls) ms (c ∷ cs) ds are more = (are.0, commands_on ls ms cs ds are.1 more)
commands_on [] ms (c ∷ cs) ds are more = absurd are
commands_on (l ∷ ls) ms [] ds are more = absurd are

-- two sessions, one behind the other
session_on : (layouts : Layouts) (counter : Option ℕ) (limits now last : Limits) (s mid after : State) (ls ms : List (List ℕ)) (output more : List ℕ) → SessionFrom layouts counter limits s ls output mid now → SessionFrom layouts counter now mid ms more after last
    → SessionFrom layouts counter limits s (ls ++ ms) (output ++ more) after last
session_on layouts counter limits now last s mid after ls ms output more one two = record {
  commands = one.commands ++ two.commands;
  replies = one.replies ++ two.replies;
  are_commands = commands_on ls ms one.commands two.commands one.are_commands two.are_commands;
  run = runs_on layouts counter s mid after limits now last one.commands two.commands one.replies two.replies one.run two.run;
  output_is = ap (λ (bs : List ℕ). bs ++ more) one.output_is ∙ ap (λ (bs : List ℕ). flat_map reply_line one.replies ++ bs) two.output_is ∙ sym (flat_map-append reply_line one.replies two.replies);
}

-- no line
session_none : (layouts : Layouts) (counter : Option ℕ) (limits : Limits) (s : State) → SessionFrom layouts counter limits s [] [] s limits
session_none layouts counter limits s = record { commands = []; replies = []; are_commands = tt; run = (refl, refl); output_is = refl }

-- one line
session_one : (layouts : Layouts) (counter : Option ℕ) (limits limits' : Limits) (s : State) (line : List ℕ) (store : StoreView ℕ) (slots : RunnerView) (held held' : Option (List ℕ)) (did : RanLine layouts counter limits limits' s line store slots held held') → SessionFrom layouts counter limits s (line ∷ []) (reply_line did.answer) did.ran.after limits'
session_one layouts counter limits limits' s line store slots held held' did = record {
  commands = did.command ∷ [];
  replies = did.answer ∷ [];
  are_commands = (did.is_command, tt);
  run = (did.ran.after, limits', (did.ran.step, (did.ran.follows, (refl, refl))));
  output_is = sym (append-nil (reply_line did.answer));
}

module _ (layouts : Layouts) (counter : Option ℕ) where
  -- bytes without a line were run, and nothing was done
  pub ran_none : (limits : Limits) (s : State) (bytes : List ℕ) (store : StoreView ℕ) (slots : RunnerView) (held : Option (List ℕ)) → lines bytes ≡ [] → HoldsState layouts store slots s → RanLines layouts counter limits limits s bytes store store slots held held
  ran_none limits s bytes store slots held none holds = record {
    output = [];
    after = s;
    session = subst (λ (ls : List (List ℕ)). SessionFrom layouts counter limits s ls [] s limits) (sym none) (session_none layouts counter limits s);
    holds = holds;
    kept = λ before was ends. was (subst EndsInCollection (ap (λ (ls : List (List ℕ)). before ++ ls) none ∙ append-nil before) ends);
    replied = Appends-nil held;
  }

  -- bytes of one line were run
  pub ran_one : (limits limits' : Limits) (s : State) (bytes line : List ℕ) (old store : StoreView ℕ) (slots : RunnerView) (held held' : Option (List ℕ)) → lines bytes ≡ line ∷ [] → RanLine layouts counter limits limits' s line store slots held held' → RanLines layouts counter limits limits' s bytes old store slots held held'
  ran_one limits limits' s bytes line old store slots held held' one did = record {
    output = reply_line did.answer;
    after = did.ran.after;
    session = subst (λ (ls : List (List ℕ)). SessionFrom layouts counter limits s ls (reply_line did.answer) did.ran.after limits') (sym one) (session_one layouts counter limits limits' s line store slots held held' did);
    holds = did.ran.holds;
    kept = λ before was ends. did.kept (is_gc_line line did.command did.is_command (last_line before line (subst EndsInCollection (ap (λ (ls : List (List ℕ)). before ++ ls) one) ends)));
    replied = did.replied;
  }

  -- bytes behind whole lines were run as well
  pub ran_on : (limits now last : Limits) (s : State) (whole x : List ℕ) (old mid store : StoreView ℕ) (slots slots' : RunnerView) (a b c : Option (List ℕ)) → EndsWhole whole → (one : RanLines layouts counter limits now s whole old mid slots a b)
      → RanLines layouts counter now last one.after x mid store slots' b c → RanLines layouts counter limits last s (whole ++ x) old store slots' a c
  ran_on limits now last s whole x old mid store slots slots' a b c ends one two = record {
    output = one.output ++ two.output;
    after = two.after;
    session = subst (λ (ls : List (List ℕ)). SessionFrom layouts counter limits s ls (one.output ++ two.output) two.after last) (sym (lines_behind whole x ends)) (session_on layouts counter limits now last s one.after two.after (lines whole) (lines x) one.output two.output one.session two.session);
    holds = two.holds;
    kept = λ before was ends_so.
        two.kept (before ++ lines whole) (one.kept before was) (subst EndsInCollection (ap (λ (ls : List (List ℕ)). before ++ ls) (lines_behind whole x ends) ∙ sym (append_assoc before (lines whole) (lines x))) ends_so);
    replied = Appends-trans a b c one.output two.output one.replied two.replied;
  }

  -- what was flushed behind it
  pub ran_kept : (limits last : Limits) (s : State) (bytes : List ℕ) (old store : StoreView ℕ) (slots : RunnerView) (a b c : Option (List ℕ)) → RanLines layouts counter limits last s bytes old store slots a b → Keeps b c → RanLines layouts counter limits last s bytes old store slots a c
  ran_kept limits last s bytes old store slots a b c ran keeps = record {
    output = ran.output;
    after = ran.after;
    session = ran.session;
    holds = ran.holds;
    kept = ran.kept;
    replied = Appends-kept a b c ran.output ran.replied keeps;
  }

  -- a line broke off that is the first of the bytes
  pub stopped_first : (limits : Limits) (s : State) (bytes line : List ℕ) (rest : List (List ℕ)) (store : StoreView ℕ) (slots : RunnerView) (a b : Option (List ℕ)) → lines bytes ≡ line ∷ rest → BrokeOff layouts counter limits s line store slots a b → StoppedLines layouts counter limits s bytes store slots a b
  stopped_first limits s bytes line rest store slots a b cut broke = record {
    done = [];
    line = line;
    rest = rest;
    cut = cut;
    output = [];
    mid = s;
    mid_limits = limits;
    session = session_none layouts counter limits s;
    between = a;
    written = Appends-nil a;
    broke_off = broke;
  }

  -- a line broke off that is behind whole lines
  stopped_on : (limits now : Limits) (s : State) (whole x : List ℕ) (old mid store : StoreView ℕ) (slots slots' : RunnerView) (a b c : Option (List ℕ)) → EndsWhole whole → (one : RanLines layouts counter limits now s whole old mid slots a b)
      → StoppedLines layouts counter now one.after x store slots' b c → StoppedLines layouts counter limits s (whole ++ x) store slots' a c
  stopped_on limits now s whole x old mid store slots slots' a b c ends one two = record {
    done = lines whole ++ two.done;
    line = two.line;
    rest = two.rest;
    cut = lines_behind whole x ends ∙ ap (λ (ls : List (List ℕ)). lines whole ++ ls) two.cut ∙ sym (append_assoc (lines whole) two.done (two.line ∷ two.rest));
    output = one.output ++ two.output;
    mid = two.mid;
    mid_limits = two.mid_limits;
    session = session_on layouts counter limits now two.mid_limits s one.after two.mid (lines whole) two.done one.output two.output one.session two.session;
    between = two.between;
    written = Appends-trans a b two.between one.output two.output one.replied two.written;
    broke_off = two.broke_off;
  }

  -- some bytes behind whole lines were run
  pub some_on : (limits now : Limits) (s : State) (whole x : List ℕ) (old mid store : StoreView ℕ) (slots slots' : RunnerView) (a b c : Option (List ℕ)) → EndsWhole whole → (one : RanLines layouts counter limits now s whole old mid slots a b)
      → RanSome layouts counter now one.after x mid store slots' b c → RanSome layouts counter limits s (whole ++ x) old store slots' a c
  some_on limits now s whole x old mid store slots slots' a b c ends one (inl two) = inl (stopped_on limits now s whole x old mid store slots slots' a b c ends one two)
  some_on limits now s whole x old mid store slots slots' a b c ends one (inr two) = inr (two.0, ran_on limits now two.0 s whole x old mid store slots slots' a b c ends one two.1)

-- nothing of a reply was written
pub took_none : (held : Option (List ℕ)) (bytes : List ℕ) (b : ℕ) → TookPart held held (bytes ++ b ∷ [])
took_none held bytes b = (0, omega (arith, length-append bytes (b ∷ [])), Appends-nil held)

-- bytes that are as they were
pub keeps_same : (held : Option (List ℕ)) → Keeps held held
keeps_same None = tt
keeps_same (Some bytes) = refl

-- a line that ran, or where a run broke off, at the counter of the store it began with
pub ran_from : {layouts : Layouts} {now next : Limits} {s : State} {line : List ℕ} {store : StoreView ℕ} {slots : RunnerView} {a b : Option (List ℕ)} (counter counter' : Option ℕ) → counter' ≡ counter → RanLine layouts counter' now next s line store slots a b → RanLine layouts counter now next s line store slots a b
ran_from {layouts} {now} {next} {s} {line} {store} {slots} {a} {b} counter counter' same ran =
    subst (λ (k : Option ℕ). RanLine layouts k now next s line store slots a b) same ran

pub broke_from : {layouts : Layouts} {now : Limits} {s : State} {line : List ℕ} {store : StoreView ℕ} {slots : RunnerView} {a b : Option (List ℕ)} (counter counter' : Option ℕ) → counter' ≡ counter → BrokeOff layouts counter' now s line store slots a b → BrokeOff layouts counter now s line store slots a b
broke_from {layouts} {now} {s} {line} {store} {slots} {a} {b} counter counter' same broke =
    subst (λ (k : Option ℕ). BrokeOff layouts k now s line store slots a b) same broke

-- what was run of bytes, and broke off, was of the line that they are
pub ran_as : {layouts : Layouts} {counter : Option ℕ} {now next : Limits} {s : State} {store : StoreView ℕ} {slots : RunnerView} {a b : Option (List ℕ)} (bytes line : List ℕ) → bytes ≡ line → RanLine layouts counter now next s bytes store slots a b → RanLine layouts counter now next s line store slots a b
ran_as {layouts} {counter} {now} {next} {s} {store} {slots} {a} {b} bytes line same ran = subst (λ (l : List ℕ). RanLine layouts counter now next s l store slots a b) same ran

pub broke_as : {layouts : Layouts} {counter : Option ℕ} {now : Limits} {s : State} {store : StoreView ℕ} {slots : RunnerView} {a b : Option (List ℕ)} (bytes line : List ℕ) → bytes ≡ line → BrokeOff layouts counter now s bytes store slots a b → BrokeOff layouts counter now s line store slots a b
broke_as {layouts} {counter} {now} {s} {store} {slots} {a} {b} bytes line same broke = subst (λ (l : List ℕ). BrokeOff layouts counter now s l store slots a b) same broke

-- no line of these was read, where there is one
unread_by : (layouts : Layouts) (counter : Option ℕ) (limits : Limits) (s : State) (bytes : List ℕ) (ls : List (List ℕ)) (store : StoreView ℕ) (slots : RunnerView) (held : Option (List ℕ)) → lines bytes ≡ ls → HoldsState layouts store slots s → RanSome layouts counter limits s bytes store store slots held held
unread_by layouts counter limits s bytes [] store slots held is holds = inr (limits, ran_none layouts counter limits s bytes store slots held is holds)
unread_by layouts counter limits s bytes (l ∷ ls) store slots held is holds = inl (stopped_first layouts counter limits s bytes l ls store slots held held is (not_read holds (keeps_same held)))

pub unread : (layouts : Layouts) (counter : Option ℕ) (limits : Limits) (s : State) (bytes : List ℕ) (store : StoreView ℕ) (slots : RunnerView) (held : Option (List ℕ)) → HoldsState layouts store slots s → RanSome layouts counter limits s bytes store store slots held held
unread layouts counter limits s bytes store slots held holds = unread_by layouts counter limits s bytes (lines bytes) store slots held refl holds
