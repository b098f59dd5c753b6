-- The run of a form as its input comes.
use Rattle.std.proofs.Common.{◌≡◌, ℕ, ◌+◌, ◌≤◌, false, List, [], ◌∷◌, ◌++◌, length, take, Option, Some, None, IsTrue, inl, inr, refl, sym, ap, subst, ◌∙◌, length-append, length-take, arith}
use Rattle.std.specs.Prelude.{◌⊎◌}
use Rattle.std.proofs.lemmas.List.{take_all, take_at, take-take, take-append-le}
use Rattle.gc_types.specs.declared.kind.Layouts.{Layouts}
use Rattle.gc_model.specs.Allocation.{Limits, Rose}
use Rattle.gc_model.specs.Stores.{StoreView}
use Rattle.gc_script.specs.Slots.{RunnerView, new_runner}
use Rattle.gc_script.specs.State.{State, HoldsState, begin}
use Rattle.gc_script.proofs.StandLemmas.{same_twice}
use Rattle.gc_model.specs.Accounts.{no_account}
use Rattle.gc_owner.specs.Limiters.{fresh_limits}
use Rattle.gc_store.specs.Stores.{IsSameStore}
use Rattle.gcsh_top.specs.declared.read.ReadFault.{ReadFault as read_fault}
use Rattle.gcsh_top.specs.declared.run.LineFault.{LineFault}
use Rattle.gcsh_top.specs.declared.run.LineFault.TheVariants as fault
use Rattle.gcsh_top.specs.declared.status.Status.{Status}
use Rattle.gcsh_top.specs.declared.status.Status.TheVariants.{ReadFault, TooLong}
use Rattle.gcsh_top.specs.declared.words.Form.{Form}
use Rattle.gcsh_top.specs.Answers.{Completed, RanOn, Stopped}
use Rattle.gc_script.specs.Cutting.{has_feed, IsCut, IsUnfinished, KeptLine, no_line}
use Rattle.gcsh_top.specs.Ends.{Gave, SinkRun, SinkTold, SourceRun, SourceTold}
use Rattle.gcsh_top.specs.Input.{GaveLines, GavePiece, ReadWhole, Unread, max_input, so_far, to_its_end}
use Rattle.gcsh_top.specs.Runs.{HoldsFirstTable, RanForm, RanLines, RanPiece, RanSome, StoppedPiece, first_table}
use Rattle.gcsh_top.specs.Statuses.{status_of}
use Rattle.gcsh_top.proofs.EndLemmas.{gave_no_more, gave_none, gave_on, told}
use Rattle.gcsh_top.proofs.FormRun.{ran_form, ready_state, stopped_form}
use Rattle.gcsh_top.proofs.InputLemmas.{not_fallen, rose_since}
use Rattle.gc_script.proofs.CutLemmas.{plain_both}
use Rattle.gcsh_top.proofs.PieceLemmas.{no_bytes, none_whole, pieces_end, pieces_end_some, pieces_more, pieces_stopped, unfinished_rest}
use Rattle.gcsh_top.proofs.RunLemmas.{ran_none}

-- why no bytes were given, where the fault is known
pub unread_at : (f : read_fault) (source : SourceRun) (given : ℕ) (e : read_fault) → e ≡ f → Unread source given e → Unread source given f
unread_at f source given e is unread = subst (Unread source given) is unread

-- the bytes that were given stand at the front of the buffer as it was put together again
pub given_front : (source : SourceRun) (given n m : ℕ) (buf rest view : List ℕ) → view ≡ take m (buf ++ rest) → length buf ≡ m → GavePiece source given n (take n buf) → GavePiece source given n (take n view)
given_front source given n m buf rest view is long gave =
    let front = length-take n buf in
    let count = gave.count in
    subst (GavePiece source given n) (sym (ap (take n) is ∙ take-take n m (buf ++ rest) (omega (arith, front, count, long)) ∙ take-append-le n buf rest (omega (arith, front, count)))) gave

-- from what a sink told to what it tells
abbrev pub took : SinkTold → SinkTold → SinkRun
took a b = record { before = a; after = b }

-- The bytes that the source gave so far are run up to their last line feed, and the line behind it is kept.
pub record Reading (layouts : Layouts) (form : Form) (source : SourceRun) (sink : SinkRun) (given : ℕ) (line : KeptLine) (limits : Limits) (old store : StoreView ℕ) (slots : RunnerView) : Type 0 where
  pub bytes : List ℕ
  pub gave : Gave source bytes
  pub count : given ≡ length bytes
  pub short : given ≤ max_input
  pub ran : RanPiece layouts old.alloc_counter (fresh_limits (Some form.most)) limits (begin (first_table form) no_account) bytes line old store slots sink.before.held sink.after.held
  pub flushed : (has_feed bytes ≡ false) ⊎ IsTrue sink.after.flushed
  pub read_faults : source.before.faults ≤ source.after.faults
  pub write_faults : sink.before.faults ≤ sink.after.faults
  pub same : IsSameStore old store

module _ (layouts : Layouts) (form : Form) where
  pub reading_start : (source : SourceTold) (sink : SinkTold) (line : KeptLine) (limits : Limits) (store : StoreView ℕ) (slots : RunnerView) → HoldsFirstTable layouts form store → slots ≡ new_runner → line ≡ no_line → limits ≡ fresh_limits (Some form.most)
      → Reading layouts form (told source source) (took sink sink) 0 line limits store store slots
  reading_start source sink line limits store slots ready none no_bytes fresh = record {
    bytes = [];
    gave = gave_none source;
    count = refl;
    short = omega arith;
    ran = record {
      whole = [];
      rest = [];
      cut = record { parts = refl; ends = inl refl; plain = refl };
      kept_is = no_bytes;
      ran = subst (λ (l : Limits). RanLines layouts store.alloc_counter (fresh_limits (Some form.most)) l (begin (first_table form) no_account) [] store store slots sink.held sink.held) (sym fresh)
          (ran_none layouts store.alloc_counter (fresh_limits (Some form.most)) (begin (first_table form) no_account) [] store slots sink.held refl (ready_state layouts form store slots ready none));
    };
    flushed = inl refl;
    read_faults = omega arith;
    write_faults = omega arith;
    same = record { engine = refl; number = refl; counter = refl };
  }

  -- the lines within the limit of bytes that are no more than that
  lines_given : (source : SourceRun) (bytes whole rest : List ℕ) → Gave source bytes → length bytes ≤ max_input → IsCut bytes whole rest → GaveLines source bytes whole
  lines_given source bytes whole rest gave short cut = record { gave = gave; rest = rest; cut = subst (λ (l : List ℕ). IsCut l whole rest) (sym (take_all max_input bytes short)) cut }

  -- the lines within the limit of bytes that are one more than that
  lines_within : (source : SourceRun) (bytes whole rest : List ℕ) (b : ℕ) → Gave source (bytes ++ b ∷ []) → length bytes ≡ max_input → IsCut bytes whole rest → GaveLines source (bytes ++ b ∷ []) whole
  lines_within source bytes whole rest b gave full cut = record { gave = gave; rest = rest; cut = subst (λ (l : List ℕ). IsCut l whole rest) (sym (take_at bytes (b ∷ []) max_input full)) cut }

  -- what was written so far was flushed
  flushed_since : (bytes piece : List ℕ) (y z : SinkTold) → (has_feed bytes ≡ false) ⊎ IsTrue y.flushed → ((has_feed piece ≡ false) × (z ≡ y)) ⊎ IsTrue z.flushed
      → (has_feed (bytes ++ piece) ≡ false) ⊎ IsTrue z.flushed
  flushed_since bytes piece y z before (inr flushed) = inr flushed
  flushed_since bytes piece y z (inl plain) (inl (more, still)) = inl (plain_both bytes piece plain more)
  flushed_since bytes piece y z (inr flushed) (inl (more, still)) = inr (subst (λ (t : SinkTold). IsTrue t.flushed) (sym still) flushed)

  -- where a line was whole, what was written was flushed
  flushed_whole : (bytes whole rest : List ℕ) (y : SinkTold) → IsCut bytes whole rest → (has_feed bytes ≡ false) ⊎ IsTrue y.flushed → (whole ≡ []) ⊎ IsTrue y.flushed
  flushed_whole bytes whole rest y cut (inl plain) = inl (none_whole bytes whole rest plain cut.parts cut.ends)
  flushed_whole bytes whole rest y cut (inr flushed) = inr flushed

  module _ (a b : SourceTold) (x y : SinkTold) (given : ℕ) (line : KeptLine) (limits : Limits) (old mid : StoreView ℕ) (slots : RunnerView) (none : old.alloc_counter ≡ None) (reading : Reading layouts form (told a b) (took x y) given line limits old mid slots) where
    -- all bytes so far are no more than an input may have
    short_bytes : length reading.bytes ≤ max_input
    short_bytes = subst (λ n. n ≤ max_input) reading.count reading.short

    -- the whole lines so far have their replies
    ran_so_far : RanForm layouts form reading.ran.whole x.held y.held mid
    ran_so_far = ran_form layouts form old.alloc_counter limits reading.ran.whole old mid slots x.held y.held none reading.same.counter reading.ran.ran

    pub reading_stops : Stopped layouts form (told a b) (took x y) mid
    reading_stops = record {
      input = reading.ran.whole;
      gave = so_far reading.bytes short_bytes (lines_given (told a b) reading.bytes reading.ran.whole reading.ran.rest reading.gave short_bytes reading.ran.cut);
      stopped = stopped_form layouts form old.alloc_counter reading.ran.whole old mid slots x.held y.held none reading.same.counter (inr (limits, reading.ran.ran));
    }

    module _ (c : SourceTold) where
      -- the next read failed
      pub reading_failed : Gave (told b c) [] → Rose b.faults c.faults → RanOn layouts form (told a c) (took x y) mid ReadFault
      reading_failed gave rose = (
        (
          reading.bytes,
          record {
            whole = reading.ran.whole;
            gave = lines_given (told a c) reading.bytes reading.ran.whole reading.ran.rest (gave_no_more a b c reading.bytes [] reading.gave gave refl) short_bytes reading.ran.cut;
            ran = ran_so_far;
            flushed = flushed_whole reading.bytes reading.ran.whole reading.ran.rest y reading.ran.cut reading.flushed;
          },
          short_bytes,
        ),
        rose_since a.faults b.faults c.faults reading.read_faults rose,
      )

      -- the next read gave one byte too many
      pub reading_too_long : (byte : ℕ) → Gave (told b c) (byte ∷ []) → given ≡ max_input → RanOn layouts form (told a c) (took x y) mid TooLong
      reading_too_long byte gave full = (
        reading.bytes ++ byte ∷ [],
        record {
          whole = reading.ran.whole;
          gave = lines_within (told a c) reading.bytes reading.ran.whole reading.ran.rest byte (gave_on a b c reading.bytes (byte ∷ []) reading.gave gave) (sym reading.count ∙ full) reading.ran.cut;
          ran = ran_so_far;
          flushed = flushed_whole reading.bytes reading.ran.whole reading.ran.rest y reading.ran.cut reading.flushed;
        },
        length-append reading.bytes (byte ∷ []) ∙ ap (λ n. n + 1) (sym reading.count ∙ full),
      )

      module _ (n : ℕ) (piece : List ℕ) (gave : GavePiece (told b c) given n piece) (z : SinkTold) (store : StoreView ℕ) (slots' : RunnerView) (same : IsSameStore mid store) where
        gave_all : Gave (told a c) (reading.bytes ++ piece)
        gave_all = gave_on a b c reading.bytes piece reading.gave gave.gave

        count_all : given + n ≡ length (reading.bytes ++ piece)
        count_all = sym (length-append reading.bytes piece ∙ ap (λ k. length reading.bytes + k) gave.count ∙ ap (λ k. k + n) (sym reading.count))

        same_all : IsSameStore old store
        same_all = same_twice old mid store reading.same same

        -- a piece was given and run
        pub reading_more : (line' : KeptLine) (last : Limits)
            → ((bytes : List ℕ) (s : State) → IsUnfinished line bytes → HoldsState layouts mid slots s → RanPiece layouts mid.alloc_counter limits last s (bytes ++ piece) line' mid store slots' y.held z.held)
            → ((has_feed piece ≡ false) × (z ≡ y)) ⊎ IsTrue z.flushed → b.faults ≤ c.faults → y.faults ≤ z.faults → Reading layouts form (told a c) (took x z) (given + n) line' last old store slots'
        reading_more line' last ran flushed read_faults write_faults = record {
          bytes = reading.bytes ++ piece;
          gave = gave_all;
          count = count_all;
          short = gave.short;
          ran = pieces_more layouts old.alloc_counter (fresh_limits (Some form.most)) limits (begin (first_table form) no_account) reading.bytes line old mid slots x.held y.held reading.ran last piece line' store slots' z.held
              (subst (λ (k : Option ℕ). RanPiece layouts k limits last reading.ran.ran.after (reading.ran.rest ++ piece) line' mid store slots' y.held z.held) reading.same.counter
              (ran reading.ran.rest reading.ran.ran.after (unfinished_rest layouts old.alloc_counter (fresh_limits (Some form.most)) limits (begin (first_table form) no_account) reading.bytes line old mid slots x.held y.held reading.ran) reading.ran.ran.holds));
          flushed = flushed_since reading.bytes piece y z reading.flushed flushed;
          read_faults = not_fallen a.faults b.faults c.faults reading.read_faults read_faults;
          write_faults = not_fallen x.faults y.faults z.faults reading.write_faults write_faults;
          same = same_all;
        }

        -- a piece was given and run in part
        pub reading_stopped : ((bytes : List ℕ) (s : State) → IsUnfinished line bytes → HoldsState layouts mid slots s → StoppedPiece layouts mid.alloc_counter limits s (bytes ++ piece) mid store slots' y.held z.held)
            → Stopped layouts form (told a c) (took x z) store
        reading_stopped stopped =
            let all = pieces_stopped layouts old.alloc_counter (fresh_limits (Some form.most)) limits (begin (first_table form) no_account) reading.bytes line old mid slots x.held y.held reading.ran piece store slots' z.held
            (subst (λ (k : Option ℕ). StoppedPiece layouts k limits reading.ran.ran.after (reading.ran.rest ++ piece) mid store slots' y.held z.held) reading.same.counter
            (stopped reading.ran.rest reading.ran.ran.after (unfinished_rest layouts old.alloc_counter (fresh_limits (Some form.most)) limits (begin (first_table form) no_account) reading.bytes line old mid slots x.held y.held reading.ran) reading.ran.ran.holds)) in
            let short : length (reading.bytes ++ piece) ≤ max_input = subst (λ k. k ≤ max_input) count_all gave.short in
            record {
              input = all.whole;
              gave = so_far (reading.bytes ++ piece) short (lines_given (told a c) (reading.bytes ++ piece) all.whole all.rest gave_all short all.cut);
              stopped = stopped_form layouts form old.alloc_counter all.whole old store slots' x.held z.held none same_all.counter all.some;
            }

        module _ (at_end : n ≡ 0) where
          read_whole : ReadWhole (told a c) reading.bytes
          read_whole = record {
            gave = record { gave = gave_no_more a b c reading.bytes piece reading.gave gave.gave (no_bytes piece (gave.count ∙ at_end)); short = short_bytes };
            at_end = gave.at_end at_end;
            ended = gave.ended at_end;
          }

          -- the input ended, and its last line was run
          pub reading_done : (last : Limits) → ((bytes : List ℕ) (s : State) → IsUnfinished line bytes → HoldsState layouts mid slots s → RanLines layouts mid.alloc_counter limits last s bytes mid store slots' y.held z.held)
              → IsTrue z.flushed → Completed layouts form (told a c) (took x z) store
          reading_done last ran flushed = record {
            input = reading.bytes;
            whole = read_whole;
            ran = ran_form layouts form old.alloc_counter last reading.bytes old store slots' x.held z.held none same_all.counter
                (pieces_end layouts old.alloc_counter (fresh_limits (Some form.most)) limits (begin (first_table form) no_account) reading.bytes line old mid slots x.held y.held reading.ran last store slots' z.held
                (subst (λ (k : Option ℕ). RanLines layouts k limits last reading.ran.ran.after reading.ran.rest mid store slots' y.held z.held) reading.same.counter
                (ran reading.ran.rest reading.ran.ran.after (unfinished_rest layouts old.alloc_counter (fresh_limits (Some form.most)) limits (begin (first_table form) no_account) reading.bytes line old mid slots x.held y.held reading.ran) reading.ran.ran.holds)));
            flushed = flushed;
          }

          -- the input ended, and its last line was run in part, or was not flushed
          pub reading_ended : ((bytes : List ℕ) (s : State) → IsUnfinished line bytes → HoldsState layouts mid slots s → RanSome layouts mid.alloc_counter limits s bytes mid store slots' y.held z.held) → Stopped layouts form (told a c) (took x z) store
          reading_ended ran = record {
            input = reading.bytes;
            gave = to_its_end read_whole;
            stopped = stopped_form layouts form old.alloc_counter reading.bytes old store slots' x.held z.held none same_all.counter
                (pieces_end_some layouts old.alloc_counter (fresh_limits (Some form.most)) limits (begin (first_table form) no_account) reading.bytes line old mid slots x.held y.held reading.ran store slots' z.held
                (subst (λ (k : Option ℕ). RanSome layouts k limits reading.ran.ran.after reading.ran.rest mid store slots' y.held z.held) reading.same.counter
                (ran reading.ran.rest reading.ran.ran.after (unfinished_rest layouts old.alloc_counter (fresh_limits (Some form.most)) limits (begin (first_table form) no_account) reading.bytes line old mid slots x.held y.held reading.ran) reading.ran.ran.holds)));
          }

-- the status of a run that stopped
stops_by : (layouts : Layouts) (form : Form) (source : SourceRun) (sink : SinkRun) (store : StoreView ℕ) (f : LineFault) → Stopped layouts form source sink store → (f ≡ fault.Sink → Rose sink.before.faults sink.after.faults) → RanOn layouts form source sink store (status_of f)
stops_by layouts form source sink store fault.Sink stopped rose = (stopped, rose refl)
stops_by layouts form source sink store fault.Memory stopped rose = stopped

pub stops_with : (layouts : Layouts) (form : Form) (source : SourceRun) (sink : SinkRun) (store : StoreView ℕ) (f : LineFault) (status : Status) → status ≡ status_of f → Stopped layouts form source sink store → (f ≡ fault.Sink → Rose sink.before.faults sink.after.faults)
    → RanOn layouts form source sink store status
stops_with layouts form source sink store f status is stopped rose = subst (RanOn layouts form source sink store) (sym is) (stops_by layouts form source sink store f stopped rose)
