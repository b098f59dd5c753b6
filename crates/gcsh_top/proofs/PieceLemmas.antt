-- Pieces of an input, one after the other, whose lines are run as they end.
use Rattle.std.proofs.Common.{◌≡◌, ◌==◌, ℕ, ◌+◌, ◌<◌, ◌≤◌, Bool, true, false, List, [], ◌∷◌, ◌++◌, length, take, drop, Option, inl, inr, refl, sym, ap, subst, ◌∙◌, append_assoc, append-nil, length-take, arith}
use Rattle.std.proofs.lemmas.Bool.{ltb-false, ltb-true, or_right, false≢true}
use Rattle.std.proofs.lemmas.List.{drop_all, take_all}
use Rattle.std.specs.Io.KnownBytes.{Keeps}
use Rattle.gc_types.specs.declared.kind.Layouts.{Layouts}
use Rattle.gc_commands.specs.declared.command.Command.{Command}
use Rattle.gc_commands.specs.Spelling.{Spells, max_line}
use Rattle.gc_model.specs.Allocation.{Limits}
use Rattle.gc_model.specs.Stores.{StoreView}
use Rattle.gc_script.specs.Lines.{line_feed, lines}
use Rattle.gc_script.specs.Slots.{RunnerView}
use Rattle.gc_script.specs.State.{State, HoldsState}
use Rattle.gc_script.specs.Cutting.{BeginsWhole, has_feed, EndsLine, EndsWhole, LineGoesOn, IsCut, IsUnfinished, KeptLine, kept_of, longer, no_line}
use Rattle.gcsh_top.specs.Runs.{BrokeOff, RanLine, RanLines, RanPiece, RanSome, StoppedPiece}
use Rattle.gc_script.proofs.CutLemmas.{cut_of, ends_on, line_ends, line_unended, longer_kept, plain_both}
use Rattle.gcsh_top.proofs.RunLemmas.{ran_kept, ran_none, ran_on, ran_one, some_on, stopped_first, unread}

-- a line of which all is kept
pub kept_whole : (kept : KeptLine) (is_long : Bool) (bytes line : List ℕ) → is_long ≡ kept.is_long → is_long ≡ false → bytes ≡ kept.bytes → kept ≡ kept_of line → bytes ≡ line
kept_whole kept is_long bytes line marked short are is =
    are ∙ ap (λ (k : KeptLine). k.bytes) is ∙ take_all max_line line (ltb-false max_line (length line) (ap (λ (k : KeptLine). k.is_long) (sym is) ∙ sym marked ∙ short))

-- a line that has more than is kept spells no command
pub long_line : (kept : KeptLine) (is_long : Bool) (line : List ℕ) → is_long ≡ kept.is_long → is_long ≡ true → kept ≡ kept_of line → (c : Command) → Spells line c → ⊥
long_line kept is_long line marked long is c s =
    let over = ltb-true max_line (length line) (ap (λ (k : KeptLine). k.is_long) (sym is) ∙ sym marked ∙ long) in
    let short = s.short in
    omega arith

-- bytes of which there are none
pub no_bytes : (bytes : List ℕ) → length bytes ≡ 0 → bytes ≡ []
no_bytes [] none = refl
no_bytes (b ∷ bytes) none = absurd (omega (arith, none))

-- a line of which nothing is kept is none
pub nothing_kept : (m : ℕ) (bytes : List ℕ) → 0 < m → length (take m bytes) ≡ 0 → bytes ≡ []
nothing_kept m [] some none = refl
nothing_kept m (b ∷ bytes) some none = absurd (let long = length-take m (b ∷ bytes) in omega (arith, long, none, some))

-- behind a whole line a line feed is among the bytes
fed_inside : (before rest : List ℕ) → has_feed ((before ++ line_feed ∷ []) ++ rest) ≡ true
fed_inside [] rest = refl
fed_inside (b ∷ before) rest = or_right (b == line_feed) (has_feed ((before ++ line_feed ∷ []) ++ rest)) (fed_inside before rest)

-- bytes without a line feed have no whole line
pub none_whole : (bytes whole rest : List ℕ) → has_feed bytes ≡ false → bytes ≡ whole ++ rest → EndsWhole whole → whole ≡ []
none_whole bytes whole rest plain parts (inl none) = none
none_whole bytes whole rest plain parts (inr (before, is)) =
    absurd (false≢true (sym plain ∙ ap has_feed (parts ∙ ap (λ w. w ++ rest) is) ∙ fed_inside before rest))

-- What was run of the bytes of an input that came so far, of which some are left to be taken: whole lines, and an
-- unfinished one that is kept.
pub record Piecewise (layouts : Layouts) (counter : Option ℕ) (limits now : Limits) (s : State) (bytes left : List ℕ) (line : KeptLine) (old store : StoreView ℕ) (slots : RunnerView) (held held' : Option (List ℕ)) : Type 0 where
  pub whole : List ℕ
  pub tail : List ℕ
  pub parts : bytes ≡ whole ++ (tail ++ left)
  pub ends : EndsWhole whole
  pub unfinished : IsUnfinished line tail
  pub ran : RanLines layouts counter limits now s whole old store slots held held'

-- a line that ended, between what is before and what is behind it
one_line : (whole tail bytes behind : List ℕ) → whole ++ (tail ++ (bytes ++ line_feed ∷ behind)) ≡ whole ++ ((tail ++ bytes) ++ line_feed ∷ behind)
one_line whole tail bytes behind = ap (λ l. whole ++ l) (sym (append_assoc tail bytes (line_feed ∷ behind)))

cut_line : (whole line behind : List ℕ) → whole ++ (line ++ line_feed ∷ behind) ≡ (whole ++ (line ++ line_feed ∷ [])) ++ behind
cut_line whole line behind = ap (λ l. whole ++ l) (sym (append_assoc line (line_feed ∷ []) behind)) ∙ sym (append_assoc whole (line ++ line_feed ∷ []) behind)

line_whole : (line : List ℕ) → EndsWhole (line ++ line_feed ∷ [])
line_whole line = inr (line, refl)

lines_whole : (line whole : List ℕ) → EndsWhole whole → EndsWhole (line ++ line_feed ∷ whole)
lines_whole line whole ends = subst EndsWhole (append_assoc line (line_feed ∷ []) whole) (ends_on (line ++ line_feed ∷ []) whole (line_whole line) ends)

module _ (layouts : Layouts) (counter : Option ℕ) where
  pub piece_start : (limits : Limits) (s : State) (bytes left : List ℕ) (line : KeptLine) (store : StoreView ℕ) (slots : RunnerView) (held : Option (List ℕ)) → IsUnfinished line bytes → HoldsState layouts store slots s → Piecewise layouts counter limits limits s (bytes ++ left) left line store store slots held held
  piece_start limits s bytes left line store slots held unfinished holds = record {
    whole = [];
    tail = bytes;
    parts = refl;
    ends = inl refl;
    unfinished = unfinished;
    ran = ran_none layouts counter limits s [] store slots held refl holds;
  }

  module _ (limits now : Limits) (s : State) (bytes left : List ℕ) (line : KeptLine) (old store : StoreView ℕ) (slots : RunnerView) (a b : Option (List ℕ)) (so_far : Piecewise layouts counter limits now s bytes left line old store slots a b) where
    -- no line ended
    pub piece_longer : (line' : KeptLine) (n : ℕ) → LineGoesOn line line' left n → Piecewise layouts counter limits now s bytes (drop n left) line' old store slots a b
    piece_longer line' n fed = record {
      whole = so_far.whole;
      tail = so_far.tail ++ left;
      parts = so_far.parts ∙ ap (λ l. so_far.whole ++ l) (sym (append-nil (so_far.tail ++ left)) ∙ ap (λ l. (so_far.tail ++ left) ++ l) (sym (drop_all n left (subst (λ k. length left ≤ k) (sym fed.taken) (omega arith)))));
      ends = so_far.ends;
      unfinished = record {
        plain = plain_both so_far.tail left so_far.unfinished.plain fed.plain;
        kept_is = fed.goes_on ∙ ap (λ l. longer l left) so_far.unfinished.kept_is ∙ longer_kept so_far.tail left;
      };
      ran = so_far.ran;
    }

    -- what is kept of a line that ended
    pub line_kept : (mid : KeptLine) (n : ℕ) (fed : EndsLine line mid left n) → mid ≡ kept_of (so_far.tail ++ fed.bytes)
    line_kept mid n fed = fed.goes_on ∙ ap (λ l. longer l fed.bytes) so_far.unfinished.kept_is ∙ longer_kept so_far.tail fed.bytes

    -- a line ended and was run
    pub piece_more : (next : Limits) (mid line' : KeptLine) (n : ℕ) (store' : StoreView ℕ) (slots' : RunnerView) (c : Option (List ℕ)) → line' ≡ no_line → (fed : EndsLine line mid left n) → RanLine layouts counter now next so_far.ran.after (so_far.tail ++ fed.bytes) store' slots' b c
        → Piecewise layouts counter limits next s bytes (drop n left) line' old store' slots' a c
    piece_more next mid line' n store' slots' c cleared fed did = record {
      whole = so_far.whole ++ ((so_far.tail ++ fed.bytes) ++ line_feed ∷ []);
      tail = [];
      parts = so_far.parts ∙ ap (λ l. so_far.whole ++ (so_far.tail ++ l)) fed.cut ∙ one_line so_far.whole so_far.tail fed.bytes (drop n left) ∙ cut_line so_far.whole (so_far.tail ++ fed.bytes) (drop n left);
      ends = ends_on so_far.whole ((so_far.tail ++ fed.bytes) ++ line_feed ∷ []) so_far.ends (line_whole (so_far.tail ++ fed.bytes));
      unfinished = record { plain = refl; kept_is = cleared };
      ran = ran_on layouts counter limits now next s so_far.whole ((so_far.tail ++ fed.bytes) ++ line_feed ∷ []) old store store' slots slots' a b c so_far.ends so_far.ran
          (ran_one layouts counter now next so_far.ran.after ((so_far.tail ++ fed.bytes) ++ line_feed ∷ []) (so_far.tail ++ fed.bytes) store store' slots' b c (line_ends (so_far.tail ++ fed.bytes) [] (plain_both so_far.tail fed.bytes so_far.unfinished.plain fed.plain)) did);
    }

    -- a line ended and broke off
    pub piece_broken : (mid : KeptLine) (n : ℕ) (store' : StoreView ℕ) (slots' : RunnerView) (c : Option (List ℕ)) → (fed : EndsLine line mid left n) → BrokeOff layouts counter now so_far.ran.after (so_far.tail ++ fed.bytes) store' slots' b c
        → StoppedPiece layouts counter limits s bytes old store' slots' a c
    piece_broken mid n store' slots' c fed broke =
        let behind = cut_of (drop n left) in
        let ended = so_far.tail ++ fed.bytes in
        record {
          whole = so_far.whole ++ (ended ++ line_feed ∷ behind.whole);
          rest = behind.rest;
          cut = record {
            parts = so_far.parts ∙ ap (λ l. so_far.whole ++ (so_far.tail ++ l)) fed.cut ∙ one_line so_far.whole so_far.tail fed.bytes (drop n left)
                ∙ ap (λ l. so_far.whole ++ (ended ++ line_feed ∷ l)) behind.cut.parts ∙ ap (λ l. so_far.whole ++ l) (sym (append_assoc ended (line_feed ∷ behind.whole) behind.rest)) ∙ sym (append_assoc so_far.whole (ended ++ line_feed ∷ behind.whole) behind.rest);
            ends = ends_on so_far.whole (ended ++ line_feed ∷ behind.whole) so_far.ends (lines_whole ended behind.whole behind.cut.ends);
            plain = behind.cut.plain;
          };
          some = some_on layouts counter limits now s so_far.whole (ended ++ line_feed ∷ behind.whole) old store store' slots slots' a b c so_far.ends so_far.ran
              (inl (stopped_first layouts counter now so_far.ran.after (ended ++ line_feed ∷ behind.whole) ended (lines behind.whole) store' slots' b c (line_ends ended behind.whole (plain_both so_far.tail fed.bytes so_far.unfinished.plain fed.plain)) broke));
        }

    -- where nothing is kept, no bytes stand before the next ones
    no_tail : line ≡ no_line → so_far.tail ≡ []
    no_tail start = nothing_kept max_line so_far.tail (omega arith) (ap (λ (k : KeptLine). length k.bytes) (sym so_far.unfinished.kept_is ∙ start))

    -- a line that the bytes left begin with was run
    pub whole_more : (next : Limits) (l : List ℕ) (store' : StoreView ℕ) (slots' : RunnerView) (c : Option (List ℕ)) → line ≡ no_line → BeginsWhole l left → RanLine layouts counter now next so_far.ran.after l store' slots' b c
        → Piecewise layouts counter limits next s bytes (drop (length l + 1) left) line old store' slots' a c
    whole_more next l store' slots' c start begins did =
        piece_more next (longer line l) line (length l + 1) store' slots' c start (record { bytes = l; cut = begins.cut; taken = refl; plain = begins.plain; goes_on = refl })
        (subst (λ (t : List ℕ). RanLine layouts counter now next so_far.ran.after (t ++ l) store' slots' b c) (sym (no_tail start)) did)

    -- it broke off
    pub whole_broken : (l : List ℕ) (store' : StoreView ℕ) (slots' : RunnerView) (c : Option (List ℕ)) → line ≡ no_line → BeginsWhole l left → BrokeOff layouts counter now so_far.ran.after l store' slots' b c → StoppedPiece layouts counter limits s bytes old store' slots' a c
    whole_broken l store' slots' c start begins broke =
        piece_broken (longer line l) (length l + 1) store' slots' c (record { bytes = l; cut = begins.cut; taken = refl; plain = begins.plain; goes_on = refl })
        (subst (λ (t : List ℕ). BrokeOff layouts counter now so_far.ran.after (t ++ l) store' slots' b c) (sym (no_tail start)) broke)

    -- no more was taken, for want of memory
    pub piece_unfed : StoppedPiece layouts counter limits s bytes old store slots a b
    piece_unfed =
        let behind = cut_of (so_far.tail ++ left) in
        record {
          whole = so_far.whole ++ behind.whole;
          rest = behind.rest;
          cut = record {
            parts = so_far.parts ∙ ap (λ l. so_far.whole ++ l) behind.cut.parts ∙ sym (append_assoc so_far.whole behind.whole behind.rest);
            ends = ends_on so_far.whole behind.whole so_far.ends behind.cut.ends;
            plain = behind.cut.plain;
          };
          some = some_on layouts counter limits now s so_far.whole behind.whole old store store slots slots a b b so_far.ends so_far.ran (unread layouts counter now so_far.ran.after behind.whole store slots b so_far.ran.holds);
        }

    -- all was taken
    pub piece_end : left ≡ [] → RanPiece layouts counter limits now s bytes line old store slots a b
    piece_end none = record {
      whole = so_far.whole;
      rest = so_far.tail;
      cut = record { parts = so_far.parts ∙ ap (λ l. so_far.whole ++ l) (ap (λ l. so_far.tail ++ l) none ∙ append-nil so_far.tail); ends = so_far.ends; plain = so_far.unfinished.plain };
      kept_is = so_far.unfinished.kept_is;
      ran = so_far.ran;
    }

  -- what was flushed behind a piece
  pub piece_flushed : (limits now : Limits) (s : State) (bytes : List ℕ) (line : KeptLine) (old store : StoreView ℕ) (slots : RunnerView) (a b c : Option (List ℕ)) → RanPiece layouts counter limits now s bytes line old store slots a b → Keeps b c → RanPiece layouts counter limits now s bytes line old store slots a c
  piece_flushed limits now s bytes line old store slots a b c ran keeps = record {
    whole = ran.whole;
    rest = ran.rest;
    cut = ran.cut;
    kept_is = ran.kept_is;
    ran = ran_kept layouts counter limits now s ran.whole old store slots a b c ran.ran keeps;
  }

  pub piece_unflushed : (limits now : Limits) (s : State) (bytes : List ℕ) (line : KeptLine) (old store : StoreView ℕ) (slots : RunnerView) (a b c : Option (List ℕ)) → RanPiece layouts counter limits now s bytes line old store slots a b → Keeps b c → StoppedPiece layouts counter limits s bytes old store slots a c
  piece_unflushed limits now s bytes line old store slots a b c ran keeps = record {
    whole = ran.whole;
    rest = ran.rest;
    cut = ran.cut;
    some = inr (now, ran_kept layouts counter limits now s ran.whole old store slots a b c ran.ran keeps);
  }

  module _ (limits now : Limits) (s : State) (bytes : List ℕ) (line : KeptLine) (old mid : StoreView ℕ) (slots : RunnerView) (a b : Option (List ℕ)) (so_far : RanPiece layouts counter limits now s bytes line old mid slots a b) where
    -- how a piece ends what is before it
    joined_parts : (piece whole rest : List ℕ) → so_far.rest ++ piece ≡ whole ++ rest → bytes ++ piece ≡ (so_far.whole ++ whole) ++ rest
    joined_parts piece whole rest parts = ap (λ l. l ++ piece) so_far.cut.parts ∙ append_assoc so_far.whole so_far.rest piece ∙ ap (λ l. so_far.whole ++ l) parts ∙ sym (append_assoc so_far.whole whole rest)

    joined_cut : (piece whole rest : List ℕ) → IsCut (so_far.rest ++ piece) whole rest → IsCut (bytes ++ piece) (so_far.whole ++ whole) rest
    joined_cut piece whole rest cut = record { parts = joined_parts piece whole rest cut.parts; ends = ends_on so_far.whole whole so_far.cut.ends cut.ends; plain = cut.plain }

    pub unfinished_rest : IsUnfinished line so_far.rest
    unfinished_rest = record { plain = so_far.cut.plain; kept_is = so_far.kept_is }

    -- one more piece was run
    pub pieces_more : (last : Limits) (piece : List ℕ) (line' : KeptLine) (store : StoreView ℕ) (slots' : RunnerView) (c : Option (List ℕ)) → RanPiece layouts counter now last so_far.ran.after (so_far.rest ++ piece) line' mid store slots' b c → RanPiece layouts counter limits last s (bytes ++ piece) line' old store slots' a c
    pieces_more last piece line' store slots' c more = record {
      whole = so_far.whole ++ more.whole;
      rest = more.rest;
      cut = joined_cut piece more.whole more.rest more.cut;
      kept_is = more.kept_is;
      ran = ran_on layouts counter limits now last s so_far.whole more.whole old mid store slots slots' a b c so_far.cut.ends so_far.ran more.ran;
    }

    -- one more piece was run in part
    pub pieces_stopped : (piece : List ℕ) (store : StoreView ℕ) (slots' : RunnerView) (c : Option (List ℕ)) → StoppedPiece layouts counter now so_far.ran.after (so_far.rest ++ piece) mid store slots' b c → StoppedPiece layouts counter limits s (bytes ++ piece) old store slots' a c
    pieces_stopped piece store slots' c more = record {
      whole = so_far.whole ++ more.whole;
      rest = more.rest;
      cut = joined_cut piece more.whole more.rest more.cut;
      some = some_on layouts counter limits now s so_far.whole more.whole old mid store slots slots' a b c so_far.cut.ends so_far.ran more.some;
    }

    -- the end of the input ended the last line, which was run
    pub pieces_end : (last : Limits) (store : StoreView ℕ) (slots' : RunnerView) (c : Option (List ℕ)) → RanLines layouts counter now last so_far.ran.after so_far.rest mid store slots' b c → RanLines layouts counter limits last s bytes old store slots' a c
    pieces_end last store slots' c more =
        subst (λ (l : List ℕ). RanLines layouts counter limits last s l old store slots' a c) (sym so_far.cut.parts)
        (ran_on layouts counter limits now last s so_far.whole so_far.rest old mid store slots slots' a b c so_far.cut.ends so_far.ran more)

    pub pieces_end_some : (store : StoreView ℕ) (slots' : RunnerView) (c : Option (List ℕ)) → RanSome layouts counter now so_far.ran.after so_far.rest mid store slots' b c → RanSome layouts counter limits s bytes old store slots' a c
    pieces_end_some store slots' c more =
        subst (λ (l : List ℕ). RanSome layouts counter limits s l old store slots' a c) (sym so_far.cut.parts)
        (some_on layouts counter limits now s so_far.whole so_far.rest old mid store slots slots' a b c so_far.cut.ends so_far.ran more)

-- a last line that isn't empty
pub last_line_of : (line : KeptLine) (bytes : List ℕ) → IsUnfinished line bytes → (length line.bytes ≡ 0 → ⊥) → lines bytes ≡ bytes ∷ []
last_line_of line [] unfinished some = absurd (some (ap (λ (k : KeptLine). length k.bytes) unfinished.kept_is))
last_line_of line (b ∷ bytes) unfinished some = line_unended (b ∷ bytes) unfinished.plain

-- no last line
pub no_last_line : (line : KeptLine) (bytes : List ℕ) → IsUnfinished line bytes → length line.bytes ≡ 0 → lines bytes ≡ []
no_last_line line bytes unfinished none = ap lines (nothing_kept max_line bytes (omega arith) (ap (λ (k : KeptLine). length k.bytes) (sym unfinished.kept_is) ∙ none))
