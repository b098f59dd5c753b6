-- Bytes that come in pieces, cut into lines.
use Rattle.std.proofs.Common.{◌≡◌, ◌==◌, ◌||◌, ℕ, ◌+◌, ◌-◌, min, ◌<◌, ◌≤◌, Bool, true, false, cond, List, [], ◌∷◌, ◌++◌, map, length, take, drop, get_or, Some, None, nat_lt, refl, sym, ap, subst, ◌∙◌, inl, inr, arith, append_assoc, append-nil, length-append, length-take-le, take-append-drop}
use Rattle.std.specs.List.{concat, onto_first, position, position_or_len}
use Rattle.std.proofs.lemmas.Bool.{eqb-true, le-ltb, lt-ltb, ltb-true, ltb-false, or_from, or_parts, or_right, false≢true}
use Rattle.std.proofs.lemmas.List.{drop_more, get_or-take, get_or_default, take_all, take_at, take-take, take-append-le}
use Rattle.std.proofs.lemmas.List.Folds.{list_any-append, list_any_none}
use Rattle.std.proofs.lemmas.List.Sums.{fails_before_first, passes_at_first}
use Rattle.gc_commands.specs.Spelling.{max_line}
use Rattle.gc_script.specs.Lines.{line_feed, lines}
use Rattle.gc_script.proofs.LineLemmas.{none_found}
use Rattle.gc_script.specs.Cutting.{BeginsWhole, KeptLine, no_line, kept_of, longer, has_feed, IsCut, EndsLine, LineGoesOn, FeedsAll, no_pieces, line_ended, line_goes_on, EndsWhole, last_piece, GivesLines}

-- the place is that of the first line feed
record IsFirstFeed (piece : List ℕ) (k : ℕ) : Type 0 where
  high : k < length piece
  at : (get_or piece k 0 == 10) ≡ true
  before : (j : ℕ) → j < k → (get_or piece j 0 == 10) ≡ false

first_by : (piece : List ℕ) (k : ℕ) (inside : Bool) → nat_lt (position_or_len (λ b. b == 10) piece) (length piece) ≡ inside → cond inside (Some (position_or_len (λ b. b == 10) piece)) None ≡ Some k → IsFirstFeed piece k
first_by piece k true e found =
    let inside = ltb-true (position_or_len (λ b. b == 10) piece) (length piece) e in
    let same : position_or_len (λ b. b == 10) piece ≡ k = cc in
    subst (IsFirstFeed piece) same (record {
      high = inside;
      at = passes_at_first (λ b. b == 10) piece 0 inside;
      before = λ j below. fails_before_first (λ b. b == 10) piece j 0 below;
    })
first_by piece k false e found = cc

-- a line feed was found, and the line before it
pub whole_at : (piece : List ℕ) (k : ℕ) → position (λ b. b == 10) piece ≡ Some k → BeginsWhole (take k piece) piece
whole_at piece k found =
    let first = first_by piece k (nat_lt (position_or_len (λ b. b == 10) piece) (length piece)) refl found in
    let within = first.high in
    let at : get_or piece k 0 ≡ 10 = eqb-true (get_or piece k 0) 10 first.at in
    let long : length (take k piece) ≡ k = length-take-le k piece (omega (arith, within)) in
    record {
      cut = sym (take-append-drop k piece) ∙ ap (λ r. take k piece ++ r) (drop_more piece k 0 within ∙ ap (λ b. b ∷ drop (k + 1) piece) at) ∙ ap (λ n. take k piece ++ line_feed ∷ drop (n + 1) piece) (sym long);
      plain = list_any_none (λ b. b == line_feed) (take k piece) (λ j d inside.
          let below : j < k = omega (arith, inside, long) in
          sym (ap (λ b. b == 10) (get_or_default piece j 0 d (omega (arith, below, within)) ∙ sym (get_or-take k piece j d below))) ∙ first.before j below);
    }

-- so a line ends there
pub ends_at : (piece : List ℕ) (k : ℕ) (old new : KeptLine) → position (λ b. b == 10) piece ≡ Some k → new ≡ longer old (take k piece) → EndsLine old new piece (k + 1)
ends_at piece k old new found goes_on =
    let whole = whole_at piece k found in
    let first = first_by piece k (nat_lt (position_or_len (λ b. b == 10) piece) (length piece)) refl found in
    let within = first.high in
    let long : length (take k piece) ≡ k = length-take-le k piece (omega (arith, within)) in
    record {
      bytes = take k piece;
      cut = whole.cut ∙ ap (λ n. take k piece ++ line_feed ∷ drop (n + 1) piece) long;
      taken = ap (λ n. n + 1) (sym long);
      plain = whole.plain;
      goes_on = goes_on;
    }

-- no line feed was found
pub goes_on_all : (piece : List ℕ) (old new : KeptLine) → position (λ b. b == 10) piece ≡ None → new ≡ longer old piece → LineGoesOn old new piece (length piece)
goes_on_all piece old new none goes_on =
    let all = none_found piece none in
    record {
      taken = refl;
      plain = list_any_none (λ b. b == line_feed) piece (λ j d inside. fails_before_first (λ b. b == 10) piece j d (omega (arith, inside, all)));
      goes_on = goes_on;
    }

-- a front of bytes as long as there is room for
front_by_room : (m r : ℕ) (kept bytes : List ℕ) → length kept ≤ m → r ≡ min (length bytes) (m - length kept) → (test : Bool) → nat_lt (m - length kept) (length bytes) ≡ test → take m (kept ++ bytes) ≡ kept ++ take r bytes
front_by_room m r kept bytes short is true over =
    let more = ltb-true (m - length kept) (length bytes) over in
    let long : length (take r bytes) ≡ m - length kept = length-take-le r bytes (omega (arith, is, more)) ∙ omega (arith, is, more) in
    let joined = length-append kept (take r bytes) in
    ap (λ b. take m (kept ++ b)) (sym (take-append-drop r bytes)) ∙ ap (take m) (sym (append_assoc kept (take r bytes) (drop r bytes)))
    ∙ take_at (kept ++ take r bytes) (drop r bytes) m (omega (arith, joined, long, short))
front_by_room m r kept bytes short is false over =
    let fits = ltb-false (m - length kept) (length bytes) over in
    let joined = length-append kept bytes in
    take_all m (kept ++ bytes) (omega (arith, joined, fits, short)) ∙ ap (λ b. kept ++ b) (sym (take_all r bytes (omega (arith, is, fits))))

cut_front : (m r : ℕ) (kept bytes : List ℕ) → length kept ≤ m → r ≡ min (length bytes) (m - length kept) → take m (kept ++ bytes) ≡ kept ++ take r bytes
cut_front m r kept bytes short is = front_by_room m r kept bytes short is (nat_lt (m - length kept) (length bytes)) refl

-- not all bytes had room
mark_over : (m r : ℕ) (kept bytes : List ℕ) (mark : Bool) → length kept ≤ m → r ≡ min (length bytes) (m - length kept) → length (take r bytes) < length bytes → true ≡ (mark || nat_lt m (length (kept ++ bytes)))
mark_over m r kept bytes mark short is over =
    let joined = length-append kept bytes in
    let long = length-take-le r bytes (omega (arith, is)) in
    sym (or_right mark (nat_lt m (length (kept ++ bytes))) (lt-ltb m (length (kept ++ bytes)) (omega (arith, joined, long, over, short, is))))

or_none : (x y : Bool) → y ≡ false → x ≡ (x || y)
or_none true _ _ = refl
or_none false y is = sym is

-- all bytes had room
mark_kept : (m r : ℕ) (kept bytes : List ℕ) (mark : Bool) → length kept ≤ m → r ≡ min (length bytes) (m - length kept) → length bytes ≤ length (take r bytes) → mark ≡ (mark || nat_lt m (length (kept ++ bytes)))
mark_kept m r kept bytes mark short is fits =
    let joined = length-append kept bytes in
    let long = length-take-le r bytes (omega (arith, is)) in
    or_none mark (nat_lt m (length (kept ++ bytes))) (le-ltb m (length (kept ++ bytes)) (omega (arith, joined, long, fits, short, is)))

pub kept_over : (m r : ℕ) (line : KeptLine) (bytes : List ℕ) → m ≡ max_line → length line.bytes ≤ m → r ≡ min (length bytes) (m - length line.bytes) → length (take r bytes) < length bytes → (kept : List ℕ) → kept ≡ line.bytes ++ take r bytes
    → (record { bytes = kept; is_long = true }) ≡ longer line bytes
kept_over m r line bytes is_max short is over kept kept_is = λ i. record {
  bytes = (kept_is ∙ sym (cut_front max_line r line.bytes bytes (subst (λ n. length line.bytes ≤ n) is_max short) (is ∙ ap (λ n. min (length bytes) (n - length line.bytes)) is_max))) i;
  is_long = mark_over max_line r line.bytes bytes line.is_long (subst (λ n. length line.bytes ≤ n) is_max short) (is ∙ ap (λ n. min (length bytes) (n - length line.bytes)) is_max) over i;
}

pub kept_all : (m r : ℕ) (line : KeptLine) (bytes : List ℕ) → m ≡ max_line → length line.bytes ≤ m → r ≡ min (length bytes) (m - length line.bytes) → length bytes ≤ length (take r bytes) → (kept : List ℕ) → kept ≡ line.bytes ++ take r bytes
    → (record { bytes = kept; is_long = line.is_long }) ≡ longer line bytes
kept_all m r line bytes is_max short is fits kept kept_is = λ i. record {
  bytes = (kept_is ∙ sym (cut_front max_line r line.bytes bytes (subst (λ n. length line.bytes ≤ n) is_max short) (is ∙ ap (λ n. min (length bytes) (n - length line.bytes)) is_max))) i;
  is_long = mark_kept max_line r line.bytes bytes line.is_long (subst (λ n. length line.bytes ≤ n) is_max short) (is ∙ ap (λ n. min (length bytes) (n - length line.bytes)) is_max) fits i;
}

-- bytes behind the kept front of a line
kept_by_length : (m : ℕ) (u b : List ℕ) (test : Bool) → nat_lt m (length u) ≡ test → take m (take m u ++ b) ≡ take m (u ++ b)
kept_by_length m u b true is =
    let over = ltb-true m (length u) is in
    let long : length (take m u) ≡ m = length-take-le m u (omega (arith, over)) in
    take-append-le m (take m u) b (omega (arith, long)) ∙ take-take m m u (omega arith) ∙ sym (take-append-le m u b (omega (arith, over)))
kept_by_length m u b false is = ap (λ l. take m (l ++ b)) (take_all m u (ltb-false m (length u) is))

kept_bytes : (m : ℕ) (u b : List ℕ) → take m (take m u ++ b) ≡ take m (u ++ b)
kept_bytes m u b = kept_by_length m u b (nat_lt m (length u)) refl

mark_by_length : (m : ℕ) (u b : List ℕ) (test : Bool) → nat_lt m (length u) ≡ test → (nat_lt m (length u) || nat_lt m (length (take m u ++ b))) ≡ nat_lt m (length (u ++ b))
mark_by_length m u b true is =
    let over = ltb-true m (length u) is in
    let joined = length-append u b in
    ap (λ t. t || nat_lt m (length (take m u ++ b))) is ∙ sym (lt-ltb m (length (u ++ b)) (omega (arith, over, joined)))
mark_by_length m u b false is =
    ap (λ t. t || nat_lt m (length (take m u ++ b))) is ∙ ap (λ l. nat_lt m (length (l ++ b))) (take_all m u (ltb-false m (length u) is))

kept_mark : (m : ℕ) (u b : List ℕ) → (nat_lt m (length u) || nat_lt m (length (take m u ++ b))) ≡ nat_lt m (length (u ++ b))
kept_mark m u b = mark_by_length m u b (nat_lt m (length u)) refl

pub longer_kept : (u b : List ℕ) → longer (kept_of u) b ≡ kept_of (u ++ b)
longer_kept u b = λ i. record { bytes = kept_bytes max_line u b i; is_long = kept_mark max_line u b i }

-- a line and what stands behind its line feed
by_byte : (b : ℕ) (u x : List ℕ) (feed : Bool) → (b == line_feed) ≡ feed → (feed || has_feed u) ≡ false → lines (u ++ line_feed ∷ x) ≡ u ∷ lines x → cond feed ([] ∷ lines (u ++ line_feed ∷ x)) (onto_first b (lines (u ++ line_feed ∷ x))) ≡ (b ∷ u) ∷ lines x
by_byte b u x true is plain behind = absurd (false≢true (sym plain))
by_byte b u x false is plain behind = ap (onto_first b) behind

pub line_ends : (u x : List ℕ) → has_feed u ≡ false → lines (u ++ line_feed ∷ x) ≡ u ∷ lines x
line_ends [] x plain = refl
line_ends (b ∷ u) x plain = by_byte b u x (b == line_feed) refl plain (line_ends u x ((or_parts (b == line_feed) (has_feed u) plain).1))

last_by_byte : (b : ℕ) (u : List ℕ) (feed : Bool) → (feed || has_feed u) ≡ false → lines u ≡ last_piece u → cond feed ([] ∷ lines u) (onto_first b (lines u)) ≡ (b ∷ u) ∷ []
last_by_byte b u true plain behind = absurd (false≢true (sym plain))
last_by_byte b [] false plain behind = refl
last_by_byte b (c ∷ u) false plain behind = ap (onto_first b) behind

-- a last line that isn't ended
pub line_unended : (u : List ℕ) → has_feed u ≡ false → lines u ≡ last_piece u
line_unended [] plain = refl
line_unended (b ∷ u) plain = last_by_byte b u (b == line_feed) plain (line_unended u ((or_parts (b == line_feed) (has_feed u) plain).1))

-- lines before others: the first of them is the first of all
record Joins (all front behind : List (List ℕ)) : Type 0 where
  first : List ℕ
  others : List (List ℕ)
  front_is : front ≡ first ∷ others
  all_are : all ≡ first ∷ (others ++ behind)

joins_more : (b : ℕ) (feed : Bool) (all front behind : List (List ℕ)) → Joins all front behind → Joins (cond feed ([] ∷ all) (onto_first b all)) (cond feed ([] ∷ front) (onto_first b front)) behind
joins_more b true all front behind j = record { first = []; others = front; front_is = refl; all_are = ap (λ ls. [] ∷ ls) (j.all_are ∙ ap (λ ls. ls ++ behind) (sym j.front_is)) }
joins_more b false all front behind j = record { first = b ∷ j.first; others = j.others; front_is = ap (onto_first b) j.front_is; all_are = ap (onto_first b) j.all_are }

joins : (before x : List ℕ) → Joins (lines (before ++ line_feed ∷ x)) (lines (before ++ line_feed ∷ [])) (lines x)
joins [] x = record { first = []; others = []; front_is = refl; all_are = refl }
joins (b ∷ before) x = joins_more b (b == line_feed) (lines (before ++ line_feed ∷ x)) (lines (before ++ line_feed ∷ [])) (lines x) (joins before x)

-- the lines of bytes behind whole lines come behind these
pub lines_behind : (whole x : List ℕ) → EndsWhole whole → lines (whole ++ x) ≡ lines whole ++ lines x
lines_behind whole x (inl none) = ap (λ w. lines (w ++ x)) none ∙ sym (ap (λ w. lines w ++ lines x) none)
lines_behind whole x (inr (before, is)) =
    let j = joins before x in
    ap (λ w. lines (w ++ x)) is ∙ ap lines (append_assoc before (line_feed ∷ []) x) ∙ j.all_are ∙ ap (λ ls. ls ++ lines x) (sym j.front_is) ∙ sym (ap (λ w. lines w ++ lines x) is)

-- whole lines behind whole lines
pub ends_on : (whole x : List ℕ) → EndsWhole whole → EndsWhole x → EndsWhole (whole ++ x)
ends_on whole x ends (inl none) = subst EndsWhole (sym (ap (λ y. whole ++ y) none ∙ append-nil whole)) ends
ends_on whole x ends (inr (before, is)) = inr (whole ++ before, ap (λ y. whole ++ y) is ∙ sym (append_assoc whole before (line_feed ∷ [])))

-- any bytes are cut behind their last line feed
pub record Cut (bytes : List ℕ) : Type 0 where
  pub whole : List ℕ
  pub rest : List ℕ
  pub cut : IsCut bytes whole rest

feed_before : (b : ℕ) (whole : List ℕ) → b ≡ line_feed → EndsWhole whole → EndsWhole (b ∷ whole)
feed_before b whole is (inl none) = inr ([], ap (λ l. b ∷ l) none ∙ ap (λ c. c ∷ []) is)
feed_before b whole is (inr (before, e)) = inr (b ∷ before, ap (λ l. b ∷ l) e)

byte_before : (b : ℕ) (bytes whole rest : List ℕ) → (b == line_feed) ≡ false → bytes ≡ whole ++ rest → EndsWhole whole → has_feed rest ≡ false → Cut (b ∷ bytes)
byte_before b bytes whole rest is parts (inl none) plain = record {
  whole = [];
  rest = b ∷ rest;
  cut = record { parts = ap (λ l. b ∷ l) (parts ∙ ap (λ w. w ++ rest) none); ends = inl refl; plain = or_from (b == line_feed) (has_feed rest) is plain };
}
byte_before b bytes whole rest is parts (inr (before, e)) plain = record {
  whole = b ∷ whole;
  rest = rest;
  cut = record { parts = ap (λ l. b ∷ l) parts; ends = inr (b ∷ before, ap (λ l. b ∷ l) e); plain = plain };
}

cut_before : (b : ℕ) (bytes : List ℕ) (feed : Bool) → (b == line_feed) ≡ feed → Cut bytes → Cut (b ∷ bytes)
cut_before b bytes true is c = record {
  whole = b ∷ c.whole;
  rest = c.rest;
  cut = record { parts = ap (λ l. b ∷ l) c.cut.parts; ends = feed_before b c.whole (eqb-true b line_feed is) c.cut.ends; plain = c.cut.plain };
}
cut_before b bytes false is c = byte_before b bytes c.whole c.rest is c.cut.parts c.cut.ends c.cut.plain

pub cut_of : (bytes : List ℕ) → Cut bytes
cut_of [] = record { whole = []; rest = []; cut = record { parts = refl; ends = inl refl; plain = refl } }
cut_of (b ∷ bytes) = cut_before b bytes (b == line_feed) refl (cut_of bytes)

-- what is behind a line that ended
behind : (u bytes tail more : List ℕ) → u ++ ((bytes ++ line_feed ∷ tail) ++ more) ≡ (u ++ bytes) ++ line_feed ∷ (tail ++ more)
behind u bytes tail more = ap (λ l. u ++ l) (append_assoc bytes (line_feed ∷ tail) more) ∙ sym (append_assoc u bytes (line_feed ∷ (tail ++ more)))

-- one more whole line
one_ended : (u bytes whole : List ℕ) → EndsWhole whole → EndsWhole ((u ++ bytes) ++ line_feed ∷ whole)
one_ended u bytes whole (inl none) = inr (u ++ bytes, ap (λ l. (u ++ bytes) ++ line_feed ∷ l) none)
one_ended u bytes whole (inr (before, is)) = inr ((u ++ bytes) ++ line_feed ∷ before, ap (λ l. (u ++ bytes) ++ line_feed ∷ l) is ∙ sym (append_assoc (u ++ bytes) (line_feed ∷ before) (line_feed ∷ [])))

pub plain_both : (u v : List ℕ) → has_feed u ≡ false → has_feed v ≡ false → has_feed (u ++ v) ≡ false
plain_both u v first second = list_any-append (λ b. b == line_feed) u v ∙ or_from (has_feed u) (has_feed v) first second

pub gives_lines_at : {bytes bytes' : List ℕ} {ended : List KeptLine} {last : KeptLine} → bytes ≡ bytes' → GivesLines bytes ended last → GivesLines bytes' ended last
gives_lines_at {bytes} {bytes'} {ended} {last} same gives = subst (λ b. GivesLines b ended last) same gives

one_more : (u bytes tail more : List ℕ) (mid : KeptLine) (ended : List KeptLine) (last : KeptLine) → has_feed (u ++ bytes) ≡ false → mid ≡ kept_of (u ++ bytes) → GivesLines (tail ++ more) ended last → GivesLines ((u ++ bytes) ++ line_feed ∷ (tail ++ more)) (mid ∷ ended) last
one_more u bytes tail more mid ended last plain mid_is gives = record {
  whole = (u ++ bytes) ++ line_feed ∷ gives.whole;
  rest = gives.rest;
  cut = record {
    parts = ap (λ l. (u ++ bytes) ++ line_feed ∷ l) gives.cut.parts ∙ sym (append_assoc (u ++ bytes) (line_feed ∷ gives.whole) gives.rest);
    ends = one_ended u bytes gives.whole gives.cut.ends;
    plain = gives.cut.plain;
  };
  ended_are = ap (λ l. l ∷ ended) mid_is ∙ ap (λ ls. kept_of (u ++ bytes) ∷ ls) gives.ended_are ∙ ap (map kept_of) (sym (line_ends (u ++ bytes) gives.whole plain));
  last_is = gives.last_is;
  lines_are = line_ends (u ++ bytes) (tail ++ more) plain ∙ ap (λ ls. (u ++ bytes) ∷ ls) gives.lines_are ∙ ap (λ ls. ls ++ last_piece gives.rest) (sym (line_ends (u ++ bytes) gives.whole plain));
}

-- from an unfinished line on
from_line : (u : List ℕ) (old : KeptLine) (pieces : List (List ℕ)) (ended : List KeptLine) (last : KeptLine) → has_feed u ≡ false → old ≡ kept_of u → FeedsAll old pieces ended last → GivesLines (u ++ concat pieces) ended last
from_line u old pieces ended last plain is (no_pieces line) = record {
  whole = [];
  rest = u;
  cut = record { parts = append-nil u; ends = inl refl; plain = plain };
  ended_are = refl;
  last_is = is;
  lines_are = ap lines (append-nil u) ∙ line_unended u plain;
}
from_line u old pieces ended last plain is (line_ended {mid} {last = end} {piece} {pieces = behind_it} {ended = more} n fed feeds) =
    let both = plain_both u fed.bytes plain fed.plain in
    gives_lines_at (sym (ap (λ p. u ++ (p ++ concat behind_it)) fed.cut ∙ behind u fed.bytes (drop n piece) (concat behind_it)))
    (one_more u fed.bytes (drop n piece) (concat behind_it) mid more end both (fed.goes_on ∙ ap (λ l. longer l fed.bytes) is ∙ longer_kept u fed.bytes)
    (from_line [] no_line (drop n piece ∷ behind_it) more end refl refl feeds))
from_line u old pieces ended last plain is (line_goes_on {mid} {last = end} {piece} {pieces = behind_it} {ended = more} n fed feeds) =
    gives_lines_at (append_assoc u piece (concat behind_it))
    (from_line (u ++ piece) mid behind_it more end (plain_both u piece plain fed.plain) (fed.goes_on ∙ ap (λ l. longer l piece) is ∙ longer_kept u piece) feeds)

pub feeds_give_lines : (pieces : List (List ℕ)) (ended : List KeptLine) (last : KeptLine) → FeedsAll no_line pieces ended last → GivesLines (concat pieces) ended last
feeds_give_lines pieces ended last feeds = from_line [] no_line pieces ended last refl refl feeds
