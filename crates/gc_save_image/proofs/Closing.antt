-- The search at its end: what has a number is all that the globals reach, and the lines say it.
use Rattle.std.proofs.Common.{inl, inr, ◌≡◌, ◌⊎◌, ℕ, zero, suc, ◌+◌, ◌<◌, List, [], ◌∷◌, ◌++◌, length, map, filter, take, get_or, Some, Option, Err, Result, false, nat_eq, cond, not, refl, sym, ap, ◌∙◌, subst, arith, Contains}
use Rattle.std.specs.Prelude.{sum_by}
use Rattle.std.specs.List.{slice_get, IsDistinct, AllByRecursion, flat_map}
use Rattle.std.proofs.lemmas.Bool.{cases_eq}
use Rattle.std.proofs.lemmas.List.{take_all}
use Rattle.std.proofs.lemmas.List.Elements.{Contains-append_left, Contains-append_right, Contains-append_cases}
use Rattle.std.proofs.lemmas.List.Sums.{sum_by-cons}
use Rattle.std.proofs.lemmas.Option.{none-some, same_Some, slice_get_within, slice_get_cases, get_or_from_slice_get}
use Rattle.gc_memory.proofs.ListLemmas.{only_item}
use Rattle.gc_types.specs.declared.kind.Layouts.{Layouts}
use Rattle.gc_types.specs.declared.value.Func.{Func}
use Rattle.gc_owner.specs.declared.entry.GcClass.{GcClass}
use Rattle.gc_owner.specs.declared.entry.GcClass.TheVariants as class
use Rattle.gc_model.specs.Holds.{Holds, Placing}
use Rattle.gc_model.specs.Reach.{AreAll, Reached, by_start, by_step, object_values, root_references, slot_references, value_references, owned_references, present}
use Rattle.gc_model.specs.Reads.{is_null}
use Rattle.gc_model.specs.Stores.{StoreView}
use Rattle.gc_model.specs.Table.{Slot, Table, Scoped, null_slot, global_count}
use Rattle.gc_model.specs.Values.{Object, Reference, Value, null, small, at, numeric, function, continuation, reference}
use Rattle.gc_model.proofs.Members.{contains_get, map_among}
use Rattle.gc_model.proofs.CollectedKept.{reached_placed}
use Rattle.gc_model.proofs.HeldNumber as held
use Rattle.gc_model.proofs.HeldPaths.{is_reached, is_reached-true, true-is_reached}
use Rattle.gc_model.proofs.HeldSums.{distinct_passing, passes, passing, sum_part}
use Rattle.gc_model.specs.Accounts.{Account}
use Rattle.gc_store.specs.Slots.{slot_value}
use Rattle.gc_paths.specs.Answers.{LacksRoots, held_count, present_count}
use Rattle.gc_paths.specs.Progress.{Basis, present_in_value}
use Rattle.gc_paths.proofs.Ending.{room_is}
use Rattle.gc_paths.proofs.Growing.{lacks_more}
use Rattle.gc_image.specs.declared.image.GlobalLine.{GlobalLine}
use Rattle.gc_image.specs.declared.image.ImageReference.TheVariants as image_reference
use Rattle.gc_image.specs.declared.image.ImageValue.{ImageValue}
use Rattle.gc_image.specs.declared.image.ImageValue.TheVariants as value
use Rattle.gc_image.specs.declared.image.ObjectLine.{ObjectLine}
use Rattle.gc_image.specs.Images.{IsGlobal, SaysSlot, placed_reference, placed_value}
use Rattle.gc_image.specs.Text.{FitsGlobal}
use Rattle.gc_image.specs.Well.{HoldsReference, IsWellGlobal, as_reference, as_value, number_named}
use Rattle.gc_save_image.specs.declared.collect.Collected.{Collected}
use Rattle.gc_save_image.specs.declared.globals.GlobalRead.{GlobalRead}
use Rattle.std.specs.Prelude.{MatchResult}
use Rattle.gc_save_image.specs.declared.collect_fault.CollectFault.{CollectFault}
use Rattle.gc_save_image.specs.declared.collect_fault.CollectFault.TheVariants as fault
use Rattle.gc_save_image.specs.Answers.{CollectsImage, LacksImageRoots, RefusesCollection}
use Rattle.gc_save_image.specs.GlobalSteps.{AllRead, AnswersGlobals, GlobalsRead, GlobalsSaid, IsSaid, StoppedAt, slot_count, slots_count}
use Rattle.gc_save_image.specs.Parts.{FoundHandles, empty_found}
use Rattle.gc_save_image.specs.Progress.{Agrees, AnswersImagePart, HasAllLines, ImageGoesOn, ImagePassesRoom, ImageProgress, held_at}
use Rattle.gc_save_image.proofs.FirstValues.{below_kept, told_kept}
use Rattle.gc_save_image.proofs.Rounds.{object_there}

-- The globals' references, counted
pub slots_counted : (slots : List Slot) → slots_count slots ≡ present_count (slot_references slots)
slots_counted [] = refl
slots_counted (slot ∷ slots) = sum_by-cons slot_count slot slots ∙ one slot.reference (slots_counted slots)
  where
    one : (r : Reference) → slots_count slots ≡ present_count (slot_references slots) → present_in_value (reference slot.class r) + slots_count slots ≡ present_count (r ∷ slot_references slots)
    one null same = let more = sum_by-cons (λ (q : Reference). cond (not (is_null q)) 1 0) null (slot_references slots) in omega (arith, more, same)
    one (small n) same = let more = sum_by-cons (λ (q : Reference). cond (not (is_null q)) 1 0) (small n) (slot_references slots) in omega (arith, more, same)
    one (at p) same = let more = sum_by-cons (λ (q : Reference). cond (not (is_null q)) 1 0) (at p) (slot_references slots) in omega (arith, more, same)

-- Where a search begins
pub no_numbers : IsDistinct nat_eq []
unfolding IsDistinct
no_numbers = tt

module _ (layouts : Layouts) (t : Table ℕ) (a : Account) (s : StoreView ℕ) (reads : List GlobalRead) (read : GlobalsRead layouts t a (length t.globals) s reads) where
  abbrev pub basis : Basis ℕ
  basis = record { scoped = false; table = t; place = read.held.place; account = a }

  abbrev pub read_count : ℕ
  read_count = slots_count (take (length t.globals) t.globals)

  abbrev pub begun : (f : FoundHandles) → f ≡ empty_found → ImageProgress layouts basis [] read_count s f
  begun f empty = record {
    holds = record { now = read.now; grown = read.grown; there = (read.held.holds, read.held.account) };
    lists = record {
      same_count = ap (λ (x : FoundHandles). length x.handles) empty;
      named = λ n p h e at_h. absurd (none-some p e);
      has = λ n p e. absurd (none-some p e);
      only = λ word n e. absurd (none-some n (sym (ap (λ (x : FoundHandles). x.number word) empty) ∙ e));
    };
    distinct = no_numbers;
    reached = λ n p e. absurd (none-some p e);
  }

  pub all_read : length t.globals ≡ global_count → AllRead s read.now t.globals reads
  all_read few = record { same_count = read.same_count; few = few; each = read.each }

  pub read_count_is : read_count ≡ present_count (slot_references t.globals)
  read_count_is = ap slots_count (take_all (length t.globals) t.globals (omega arith)) ∙ slots_counted t.globals

-- Values and the references among them

-- a reference among values, by its index
pub record StandsAt (vs : List Value) (r : Reference) : Type 0 where
  pub index : ℕ
  pub class : GcClass
  pub value : slice_get vs index ≡ Some (reference class r)

first_stands : (v : Value) (vs : List Value) (r : Reference) → Contains (value_references v) r → StandsAt (v ∷ vs) r
first_stands (numeric kind n) vs r c = absurd (let inside = c.1 in omega (arith, inside))
first_stands (function f) vs r c = absurd (let inside = c.1 in omega (arith, inside))
first_stands (continuation cont) vs r c = absurd (let inside = c.1 in omega (arith, inside))
first_stands (reference class q) vs r c = record { index = 0; class = class; value = ap (λ x. Some (reference class x)) (only_item q r c) }

pub among_values : (vs : List Value) (r : Reference) → Contains (flat_map value_references vs) r → StandsAt vs r
among_values [] r c = absurd (let inside = c.1 in omega (arith, inside))
among_values (v ∷ vs) r c = elim (Contains-append_cases (value_references v) (flat_map value_references vs) r c) [
  | inl first ↦ first_stands v vs r first
  | inr later ↦ let at_later = among_values vs r later in record { index = suc at_later.index; class = at_later.class; value = at_later.value }
]

-- Lines of globals

-- some line speaks of the global with that index
pub record HasLine (lines : List GlobalLine) (k : ℕ) : Type 0 where
  pub index : ℕ
  pub line : GlobalLine
  pub there : slice_get lines index ≡ Some line
  pub is : line.index ≡ k

pub find_line : (lines : List GlobalLine) (k : ℕ) → HasLine lines k ⊎ ((i : ℕ) (line : GlobalLine) → slice_get lines i ≡ Some line → ¬ (line.index ≡ k))
find_line [] k = inr (λ i line e is. none-some line e)
find_line (line ∷ lines) k = elim (cases_eq line.index k) [
  | inl same ↦ inl (record { index = 0; line = line; there = refl; is = same })
  | inr other ↦ elim (find_line lines k) [
    | inl found ↦ inl (record { index = suc found.index; line = found.line; there = found.there; is = found.is })
    | inr none ↦ inr (differ other none)
  ]
]
  where
    differ : (line.index ≡ k → ⊥) → ((i : ℕ) (l : GlobalLine) → slice_get lines i ≡ Some l → ¬ (l.index ≡ k)) → (i : ℕ) (l : GlobalLine) → slice_get (line ∷ lines) i ≡ Some l → ¬ (l.index ≡ k)
    differ other none zero l e is = other (ap (λ (x : GlobalLine). x.index) (same_Some line l e) ∙ is)
    differ other none (suc i) l e is = none i l e is

all_lines : (P : GlobalLine → Type 0) (lines : List GlobalLine) → ((i : ℕ) (line : GlobalLine) → slice_get lines i ≡ Some line → P line) → AllByRecursion P lines
all_lines P [] each = tt
all_lines P (line ∷ lines) each = (each 0 line refl, all_lines P lines (λ i. each (suc i)))

-- a global is what its line says
slot_says : (position : ℕ → ℕ) (slot : Slot) (x : ImageValue) → slot_value slot ≡ placed_value position (as_value x) → SaysSlot position x slot
slot_says position slot (value.I32 n) e = absurd (cc e)
slot_says position slot (value.I64 n) e = absurd (cc e)
slot_says position slot (value.F32 n) e = absurd (cc e)
slot_says position slot (value.F64 n) e = absurd (cc e)
slot_says position slot (value.V128 n) e = absurd (cc e)
slot_says position slot (value.Ref k r) e = λ i. record { class = same_class e i; reference = same_reference e i }
  where
    same_class : reference slot.class slot.reference ≡ reference k (placed_reference position (as_reference r)) → slot.class ≡ k
    same_class e = cc e

    same_reference : reference slot.class slot.reference ≡ reference k (placed_reference position (as_reference r)) → slot.reference ≡ placed_reference position (as_reference r)
    same_reference e = cc e

-- the line of a global holds a reference that isn't null of class Any, and names what has a number
line_holds : (count : ℕ) (position : ℕ → ℕ) (slot : Slot) (x : ImageValue) → SaysSlot position x slot → ¬ (slot ≡ null_slot) → ((n : ℕ) → number_named x ≡ Some n → n < count) → HoldsReference count x
line_holds count position slot (value.I32 n) says set named = absurd says
line_holds count position slot (value.I64 n) says set named = absurd says
line_holds count position slot (value.F32 n) says set named = absurd says
line_holds count position slot (value.F64 n) says set named = absurd says
line_holds count position slot (value.V128 n) says set named = absurd says
line_holds count position slot (value.Ref class.Any image_reference.Null) says set named = absurd (set says)
line_holds count position slot (value.Ref class.Extern image_reference.Null) says set named = tt
line_holds count position slot (value.Ref class.Exn image_reference.Null) says set named = tt
line_holds count position slot (value.Ref class.Any (image_reference.Small n)) says set named = tt
line_holds count position slot (value.Ref class.Extern (image_reference.Small n)) says set named = tt
line_holds count position slot (value.Ref class.Exn (image_reference.Small n)) says set named = tt
line_holds count position slot (value.Ref class.Any (image_reference.Object n)) says set named = named n refl
line_holds count position slot (value.Ref class.Extern (image_reference.Object n)) says set named = named n refl
line_holds count position slot (value.Ref class.Exn (image_reference.Object n)) says set named = named n refl

module _ (layouts : Layouts) (b : Basis ℕ) (count : ℕ) (s s' : StoreView ℕ) (f f' : FoundHandles) (globals : List GlobalLine) (lines : List ObjectLine) (few : length b.table.globals ≡ global_count)
    (goes : ImageGoesOn layouts b [] count s f (λ then. GlobalsSaid then (length b.table.globals) b.table.globals globals)) (ended : HasAllLines layouts b goes.told count s' f' lines) where
  -- what a global names has a number
  slot_told : (k : ℕ) (slot : Slot) (p : ℕ) → slice_get b.table.globals k ≡ Some slot → slot.reference ≡ at p → Contains ended.told p
  slot_told k slot p there is = elim (find_line globals k) [
    | inl found ↦
        let said = goes.done.said found.index found.line found.there in
        let same : said.slot ≡ slot = same_Some said.slot slot (sym said.there ∙ ap (slice_get b.table.globals) found.is ∙ there) in
        told_kept goes.told ended.told ended.kept p (said.says.leads said.slot.class p (ap (λ r. reference said.slot.class r) (ap (λ (x : Slot). x.reference) same ∙ is)))
    | inr none ↦
        let empty = goes.done.unsaid k slot (slice_get_within b.table.globals k slot there) there none in
        absurd (differ (sym (ap (λ (x : Slot). x.reference) empty) ∙ is))
  ]
    where
      differ : null ≡ at p → ⊥
      differ e = cc e

  -- what the globals reach has one
  all_told : (p : ℕ) → Reached b.table.objects (slot_references b.table.globals) p → Contains ended.told p
  all_told p (by_start c) =
      let image = map_among (λ (x : Slot). x.reference) b.table.globals (at p) c in
      let index = contains_get b.table.globals image.of image.among in
      slot_told index.0 image.of p index.1 image.is
  all_told p (by_step {y = q} reached named) =
      let index = contains_get ended.told q (all_told q reached) in
      let stands = among_values (object_values named.object) (at p) named.among in
      elim ((slice_get_cases lines index.0).1) [
        | inl found ↦ (ended.says index.0 q named.object found.0 index.1 found.2 named.there).leads stands.index stands.class p stands.value
        | inr past ↦ absurd (let inside = slice_get_within ended.told index.0 q index.1 in let same = ended.same_count in omega (arith, inside, same, past.0))
      ]

  are_all : AreAll (IsGlobal b.table) ended.told
  are_all = record {
    distinct = ended.progress.distinct;
    all = λ p. (λ c. let index = contains_get ended.told p c in ended.progress.reached index.0 p index.1, λ reached. all_told p reached);
  }

  abbrev position : ℕ → ℕ
  position n = get_or ended.told n 0

  agrees : Agrees ended.told position
  agrees n p e = get_or_from_slice_get ended.told n p 0 e

  module _ (line : GlobalLine) (said : IsSaid goes.told b.table.globals line) where
    says_slot : SaysSlot position line.value said.slot
    says_slot = slot_says position said.slot line.value (said.says.is refl position (λ n p e. agrees n p (ended.kept n p e)))

    names_number : (n : ℕ) → number_named line.value ≡ Some n → n < length ended.told
    names_number n e = below_kept goes.told ended.told ended.kept n (said.says.named n e)

    well_line : line.index < length b.table.globals → IsWellGlobal (length ended.told) line
    well_line under = (subst (λ n. line.index < n) few under, line_holds (length ended.told) position said.slot line.value says_slot said.is_set names_number)

    fits_line : line.index < length b.table.globals → FitsGlobal line
    fits_line under = (let is = few in omega (arith, under, is), said.says.fits)

  pub collected_all : count ≡ present_count (slot_references b.table.globals) → (collected : Collected) → collected.objects.items ≡ lines → collected.globals.items ≡ globals → CollectsImage b.table collected
  collected_all count_is collected objects_are globals_are = record {
    collection = λ plain. record {
      positions = ended.told;
      numbered = sym (ap length objects_are ∙ ended.same_count);
      all = are_all;
      position = position;
      position_is = agrees;
      objects = λ n p l at_p at_l.
          let o = object_there layouts b ended.told ended.total s' f' ended.progress n p at_p in
          let says = ended.says n p o.0 l at_p (ap (λ ls. slice_get ls n) (sym objects_are) ∙ at_l) o.1 in
          record {
            is = o.1 ∙ ap Some (says.is (λ i v at_v. plain p i o.0 v o.1 at_v) position agrees);
            shape = says.shape;
            named = says.named;
            fits = says.fits;
          };
      globals = record {
        said = λ i line e. let said = goes.done.said i line (at_global i line e) in (said.slot, (said.there, says_slot line said));
        unsaid = λ k slot there none. goes.done.unsaid k slot (slice_get_within b.table.globals k slot there) there (λ i line e. none i line (ap (λ ls. slice_get ls i) globals_are ∙ e));
      };
      rising = λ i one next at_one at_next. goes.done.rising i one next (at_global i one at_one) (at_global (i + 1) next at_next);
      well = λ i line e. well_line line (goes.done.said i line (at_global i line e)) (goes.done.below i line (at_global i line e));
      fit = all_lines FitsGlobal collected.globals.items (λ i line e. fits_line line (goes.done.said i line (at_global i line e)) (goes.done.below i line (at_global i line e)));
    };
    count = ended.total;
    needs = record { reached = ended.told; are = are_all; count_is = ended.total_is ∙ ap (λ n. n + sum_by (held_at b) ended.told) count_is };
    room = room_is layouts b ended.total s' ended.progress.holds;
  }
    where
      at_global : (i : ℕ) (line : GlobalLine) → slice_get collected.globals.items i ≡ Some line → slice_get globals i ≡ Some line
      at_global i line e = ap (λ ls. slice_get ls i) (sym globals_are) ∙ e

-- Where there is no room

globals_among : (t : Table ℕ) (r : Reference) → Contains (slot_references t.globals) r → Contains (root_references t) r
globals_among t r c =
    Contains-append_right (map (λ (root : Scoped). root.reference) t.scoped) (flat_map slot_references t.frames ++ (slot_references t.globals ++ (owned_references t.owned ++ present t.pending))) r
    (Contains-append_right (flat_map slot_references t.frames) (slot_references t.globals ++ (owned_references t.owned ++ present t.pending)) r
    (Contains-append_left (slot_references t.globals) (owned_references t.owned ++ present t.pending) r c))

reaches_more : (objects : List (Object ℕ)) (few many : List Reference) → ((r : Reference) → Contains few r → Contains many r) → (p : ℕ) → Reached objects few p → Reached objects many p
reaches_more objects few many more p (by_start c) = by_start (more (at p) c)
reaches_more objects few many more p (by_step {y = q} reached named) = by_step (reaches_more objects few many more q reached) named

module _ (layouts : Layouts) (s : StoreView ℕ) (t : Table ℕ) (place : Placing) (holds : Holds layouts s t place) where
  -- the positions that the globals reach
  abbrev reached_all : List ℕ
  reached_all = filter (is_reached t.objects (slot_references t.globals)) (held.positions layouts t place s.heap holds.objects)

  reached_are : AreAll (IsGlobal t) reached_all
  reached_are =
      let placed = held.are_placed layouts t place s.heap holds.objects in
      record {
        distinct = distinct_passing (is_reached t.objects (slot_references t.globals)) (held.positions layouts t place s.heap holds.objects) placed.distinct;
        all = λ p. (
          λ c. is_reached-true t.objects (slot_references t.globals) p (passing (is_reached t.objects (slot_references t.globals)) (held.positions layouts t place s.heap holds.objects) p c).1,
          λ reached.
              passes (is_reached t.objects (slot_references t.globals)) (held.positions layouts t place s.heap holds.objects) p
              ((placed.all p).1 (reached_placed layouts s t place holds p (reaches_more t.objects (slot_references t.globals) (root_references t) (globals_among t) p reached)))
              (true-is_reached t.objects (slot_references t.globals) p reached),
        );
      }

  -- where some of them have more references than there is room for, there is no room for all
  is_full : (part : List ℕ) → IsDistinct nat_eq part → ((p : ℕ) → Contains part p → IsGlobal t p)
      → LacksRoots t (present_count (slot_references t.globals) + sum_by (λ p. held_count (slice_get t.objects p)) part) → LacksImageRoots t
  is_full part distinct are lacks =
      let fewer_sum = sum_part (λ p. held_count (slice_get t.objects p)) part reached_all distinct (λ p c. (reached_are.all p).1 (are p c)) in (
        present_count (slot_references t.globals) + sum_by (λ p. held_count (slice_get t.objects p)) reached_all,
        (
          record { reached = reached_all; are = reached_are; count_is = refl },
          lacks_more t (present_count (slot_references t.globals) + sum_by (λ p. held_count (slice_get t.objects p)) part) (present_count (slot_references t.globals) + sum_by (λ p. held_count (slice_get t.objects p)) reached_all) (omega (arith, fewer_sum)) lacks,
        ),
      )

  -- where the globals alone have more
  globals_full : LacksRoots t (slots_count t.globals) → LacksImageRoots t
  globals_full lacks =
      is_full [] no_numbers (λ p c. absurd (let inside = c.1 in omega (arith, inside)))
      (subst (LacksRoots t) (let is = slots_counted t.globals in omega (arith, is)) lacks)

  -- why the globals aren't read, or the objects not taken
  pub reads_refused : {X : Type 0} (a : Account) (Went : X → Type 0) (why : CollectFault) (now : StoreView ℕ) → AnswersGlobals layouts t a Went (Err why) now → RefusesCollection t why × StoppedAt layouts t a now
  reads_refused a Went fault.RootsFull now full = (globals_full full.0, full.1)
  reads_refused a Went fault.Memory now stopped = (tt, stopped)

  pub objects_refused : {X : Type 0} (b : Basis ℕ) (count : ℕ) → b.table ≡ t → count ≡ present_count (slot_references t.globals) → (Went : X → Type 0) (why : CollectFault) (now : StoreView ℕ) → AnswersImagePart layouts b Went (ImagePassesRoom b count) (Err why) now
      → RefusesCollection t why
  objects_refused b count same count_is Went fault.RootsFull now full =
      let over = full.0 in
      is_full over.part over.distinct (λ p c. subst (λ (u : Table ℕ). IsGlobal u p) same (over.are p c))
      (subst (λ (u : Table ℕ). LacksRoots u (present_count (slot_references t.globals) + sum_by (λ p. held_count (slice_get u.objects p)) over.part)) same
      (subst (λ (n : ℕ). LacksRoots b.table (n + sum_by (held_at b) over.part)) count_is over.lacks))
  objects_refused b count same count_is Went fault.Memory now stopped = tt

  pub lines_refused : {X : Type 0} (b : Basis ℕ) (Went : X → Type 0) (why : CollectFault) (now : StoreView ℕ) → AnswersImagePart layouts b Went ⊥ (Err why) now → RefusesCollection t why
  lines_refused b Went fault.RootsFull now full = absurd full.0
  lines_refused b Went fault.Memory now stopped = tt

-- a part that was refused has pushed some roots
pub part_stopped : {X : Type 0} (layouts : Layouts) (b : Basis ℕ) (Went : X → Type 0) (Full : Type 0) (why : CollectFault) (now : StoreView ℕ) → AnswersImagePart layouts b Went Full (Err why) now → StoppedAt layouts b.table b.account now
part_stopped layouts b Went Full fault.RootsFull now full = record { count = full.1.0; now = full.1.1.now; grown = full.1.1.grown; held = record { place = b.place; holds = full.1.1.there.0; account = full.1.1.there.1 } }
part_stopped layouts b Went Full fault.Memory now stopped = record { count = stopped.0; now = stopped.1.now; grown = stopped.1.grown; held = record { place = b.place; holds = stopped.1.there.0; account = stopped.1.there.1 } }

-- an error that is handed on
pub refused_result : {X : Type 0} (t : Table ℕ) (Went : X → Type 0) (r : Result X CollectFault) (why : CollectFault) → r ≡ Err why → RefusesCollection t why → MatchResult r Went (RefusesCollection t)
refused_result t Went r why is refuses = subst (λ (x : Result _ CollectFault). MatchResult x Went (RefusesCollection t)) (sym is) refuses
