-- The objects of an image one after the other.
use Rattle.std.proofs.Common.{inl, inr, ◌≡◌, ℕ, ◌+◌, ◌^◌, ◌<◌, ◌≤◌, List, [], ◌∷◌, ◌++◌, length, take, Some, refl, sym, ap, ◌∙◌, subst, arith}
use Rattle.std.specs.Prelude.{sum_by}
use Rattle.std.specs.List.{slice_get}
use Rattle.std.proofs.lemmas.Bool.{cases_lt}
use Rattle.std.proofs.lemmas.List.{length_push}
use Rattle.std.proofs.lemmas.List.Sums.{sum_by_more, sum_by-take-le}
use Rattle.std.proofs.lemmas.Option.{get_or_from_slice_get, same_Some, slice_get_within}
use Rattle.gc_types.specs.declared.kind.Layouts.{Layouts}
use Rattle.gc_types.specs.Declarations.{Declaration}
use Rattle.gc_model.specs.Allocation.{Limits, MayRefuse, asked}
use Rattle.gc_model.specs.Stores.{StoreView}
use Rattle.gc_model.specs.Table.{Table}
use Rattle.gc_values.specs.declared.root.GcRootIndex.{GcRootIndex}
use Rattle.gc_image.specs.declared.image.ObjectLine.{ObjectLine}
use Rattle.gc_image.specs.Well.{line_values}
use Rattle.gc_load_image.specs.declared.fault.LoadFault.{LoadFault}
use Rattle.gc_load_image.specs.declared.fault.LoadFault.TheVariants as fault
use Rattle.gc_load_image.specs.Loads.{HasTooLarge, LacksHeap, WasRefused, first_pages, line_count, more_pages, past_most}
use Rattle.gc_load_image.proofs.SettingsLemmas.{settings_itself, settings_twice}
use Rattle.gc_load_image.specs.Stages.{Bare, CountsNoLess, LoadGoesOn, MadeAll, MadeNext, Making, Standing, StopCause, Stops, line_roots}

-- the limiter
pub same_limits : (limits : Limits) → CountsNoLess limits limits
same_limits limits = record { limit = refl; refusals = omega arith }

pub counts_twice : (a b c : Limits) → CountsNoLess a b → CountsNoLess b c → CountsNoLess a c
counts_twice a b c one two = record { limit = two.limit ∙ one.limit; refusals = (let x = one.refusals in let y = two.refusals in omega (arith, x, y)) }

refused_later : (need : ℕ) (a b c : Limits) (t : Table ℕ) → CountsNoLess a b → WasRefused need b c t → WasRefused need a c t
refused_later need a b c t counts (first_pages unmade some above rose last) =
    first_pages unmade some (subst (λ l. MayRefuse l t.first) counts.limit above) (let x = counts.refusals in omega (arith, x, rose)) last
refused_later need a b c t counts (past_most made past) = past_most made past
refused_later need a b c t counts (more_pages made above rose last) =
    more_pages made (subst (λ l. MayRefuse l (t.pages + asked t.pages need)) counts.limit above) (let x = counts.refusals in omega (arith, x, rose)) last

lacks_later : (layouts : Layouts) (types : List Declaration) (lines : List ObjectLine) (need : ℕ) (a b c : Limits) (t : Table ℕ) → CountsNoLess a b → LacksHeap layouts types lines need b c t → LacksHeap layouts types lines need a c t
lacks_later layouts types lines need a b c t counts lacks = record {
  number = lacks.number;
  line = lacks.line;
  line_is = lacks.line_is;
  need_is = lacks.need_is;
  refused = refused_later need a b c t counts lacks.refused;
  full = lacks.full;
}

-- a step that stopped stops what it is a part of
pub stops_later : (layouts : Layouts) (lines : List ObjectLine) (a b c : Limits) (m n most : ℕ) (old mid : StoreView ℕ) (why : LoadFault) (new : StoreView ℕ) → LoadGoesOn m old mid → CountsNoLess a b → m + n ≤ most
    → Stops layouts mid.types lines b c n mid why new → Stops layouts old.types lines a c most old why new
stops_later layouts lines a b c m n most old mid why new goes counts below stops = record {
  bare = stops.bare;
  same = settings_twice old mid new goes.same stops.same;
  same_types = stops.same_types ∙ goes.types;
  cause = by why stops.cause;
}
  where
    by : (w : LoadFault) → StopCause layouts mid.types lines b c n mid w stops.bare.table → StopCause layouts old.types lines a c most old w stops.bare.table
    by fault.BadImage cause = cause
    by fault.TooLarge cause = subst (λ (ts : List Declaration). HasTooLarge layouts ts lines) goes.types cause
    by fault.RootsFull cause = (let few = goes.few in let past : mid.max_scoped < length mid.scoped + n = cause in omega (arith, few, goes.same.max_scoped, past, below))
    by (fault.HeapOutOfMemory f) cause = lacks_later layouts old.types lines f.bytes_needed a b c stops.bare.table counts (subst (λ (ts : List Declaration). LacksHeap layouts ts lines f.bytes_needed b c stops.bare.table) goes.types cause)
    by fault.Memory cause = tt

-- what stands is bare
pub bare_standing : (layouts : Layouts) (handles : List GcRootIndex) (s : StoreView ℕ) (t : Table ℕ) (a : _) → Standing layouts handles s t a → Bare layouts s
bare_standing layouts handles s t a standing = record { table = t; account = a; holds = standing.holds; unused = standing.unused; frames = standing.frames; owned = standing.owned; pending = standing.pending; unset = standing.unset }

-- The first objects were made.
pub record MadeFront (layouts : Layouts) (lines : List ObjectLine) (limits limits' : Limits) (old : StoreView ℕ) (handles : List GcRootIndex) (i : ℕ) (new : StoreView ℕ) : Type 0 where
  pub making : Making layouts lines handles new
  pub count : length handles ≡ i
  pub goes : LoadGoesOn (sum_by line_roots (take i lines)) old new
  pub counts : CountsNoLess limits limits'
  pub short : (number : ℕ) (line : ObjectLine) → number < i → slice_get lines number ≡ Some line → length (line_values line) < 2 ^ 32

module _ (layouts : Layouts) (lines : List ObjectLine) (limits : Limits) (old : StoreView ℕ) where
  pub front_none : Making layouts lines [] old → MadeFront layouts lines limits limits old [] 0 old
  front_none making = record {
    making = making;
    count = refl;
    goes = record { few = omega arith; same = settings_itself old; types = refl };
    counts = same_limits limits;
    short = λ number line below e. absurd (omega (arith, below));
  }

  pub begun_stops : Making layouts lines [] old → Stops layouts old.types lines limits limits (sum_by line_roots lines) old fault.Memory old
  begun_stops making = record { bare = bare_standing layouts [] old making.table making.account making.standing; same = settings_itself old; same_types = refl; cause = tt }

  module _ (between : Limits) (handles : List GcRootIndex) (i : ℕ) (mid : StoreView ℕ) (front : MadeFront layouts lines limits between old handles i mid) (line : ObjectLine) (here : slice_get lines i ≡ Some line) where
    inside : i < length lines
    inside = slice_get_within lines i line here

    sums : sum_by line_roots (take (i + 1) lines) ≡ sum_by line_roots (take i lines) + line_roots line
    sums = sum_by_more line_roots lines i line inside ∙ ap (λ x. sum_by line_roots (take i lines) + line_roots x) (get_or_from_slice_get lines i line line here)

    pub front_more : (limits' : Limits) (handle : GcRootIndex) (new : StoreView ℕ) → MadeNext layouts lines handles line between limits' mid handle new → MadeFront layouts lines limits limits' old (handles ++ handle ∷ []) (i + 1) new
    front_more limits' handle new next = record {
      making = next.making;
      count = length_push handles handle ∙ ap (λ n. n + 1) front.count;
      goes = record {
        few = (let a = front.goes.few in let b = next.goes.few in omega (arith, a, b, sums));
        same = settings_twice old mid new front.goes.same next.goes.same;
        types = next.goes.types ∙ front.goes.types;
      };
      counts = counts_twice limits between limits' front.counts next.counts;
      short = λ number x below e. elim (cases_lt number i) [
        | inl less ↦ front.short number x less e
        | inr at ↦
            let same : number ≡ i = omega (arith, below, at) in
            let is : line ≡ x = same_Some line x (sym here ∙ sym (ap (slice_get lines) same) ∙ e) in
            subst (λ (y : ObjectLine). length (line_values y) < 2 ^ 32) is next.short
      ];
    }

    pub front_stops : (limits' : Limits) (why : LoadFault) (new : StoreView ℕ) → Stops layouts mid.types lines between limits' (1 + line_count line) mid why new → Stops layouts old.types lines limits limits' (sum_by line_roots lines) old why new
    front_stops limits' why new stops =
        stops_later layouts lines limits between limits' (sum_by line_roots (take i lines)) (1 + line_count line) (sum_by line_roots lines) old mid why new front.goes front.counts
        (let under = sum_by-take-le line_roots lines (i + 1) in omega (arith, under, sums)) stops

    pub front_memory : (limits' : Limits) (handle : GcRootIndex) (new : StoreView ℕ) → MadeNext layouts lines handles line between limits' mid handle new → Stops layouts old.types lines limits limits' (sum_by line_roots lines) old fault.Memory new
    front_memory limits' handle new next = record {
      bare = bare_standing layouts (handles ++ handle ∷ []) new next.making.table next.making.account next.making.standing;
      same = settings_twice old mid new front.goes.same next.goes.same;
      same_types = next.goes.types ∙ front.goes.types;
      cause = tt;
    }

  pub front_all : (limits' : Limits) (handles : List GcRootIndex) (i : ℕ) (new : StoreView ℕ) → i ≡ length lines → MadeFront layouts lines limits limits' old handles i new → MadeAll layouts lines limits limits' old handles new
  front_all limits' handles i new over front = record {
    making = front.making;
    all = front.count ∙ over;
    goes = record {
      few = (let few = front.goes.few in let under = sum_by-take-le line_roots lines i in omega (arith, few, under));
      same = front.goes.same;
      types = front.goes.types;
    };
    counts = front.counts;
    short = λ number line e. front.short number line (let inside = slice_get_within lines number line e in omega (arith, inside, over)) e;
  }
