-- A step along a list, and a walk to its end.
use Rattle.std.proofs.Common.{◌≡◌, ℕ, ℤ, ◌+◌, ◌≤◌, List, [], ◌∷◌, ◌++◌, length, Option, Some, None, Vec, Global, Result, Ok, Err, true, inl, inr, refl, sym, ap, ◌∙◌, subst, arith}
use Rattle.std.specs.Int.{w64}
use Rattle.std.specs.Prelude.{FitsSigned}
use Rattle.std.specs.Result.{MatchResult}
use Rattle.std.proofs.lemmas.List.{append-nil, append_assoc, length-append}
use Rattle.gc_types.specs.declared.kind.Layouts.{Layouts}
use Rattle.gc_owner.specs.declared.entry.GcClass.TheVariants.{Any}
use Rattle.gc_model.specs.Values.{Reference, null, small, at, reference}
use Rattle.gc_model.specs.Table.{Table, Scoped, Push, push, leave}
use Rattle.gc_model.specs.Live.{roots_full}
use Rattle.gc_model.specs.Reads.{after_read}
use Rattle.gc_model.specs.Stores.{StoreView}
use Rattle.gc_model.specs.Holds.{HoldsTable}
use Rattle.gc_model.specs.Accounts.{Account, HoldsAccount}
use Rattle.gc_model.proofs.AccountLemmas.{some_account}
use Rattle.gc_values.specs.declared.root.GcRootIndex.{GcRootIndex}
use Rattle.gc_values.specs.declared.root.RawValue.{RawValue}
use Rattle.gc_values.specs.declared.root.RootFault.{RootFault}
use Rattle.gc_values.specs.declared.root.RootFault.TheVariants as root_fault
use Rattle.gc_store.specs.Roots.{NamesReference, handle_of}
use Rattle.gc_store.specs.Slots.{HandleStands}
use Rattle.gc_store.specs.Stores.{IsSameStore}
use Rattle.gc_store.specs.Values.{ReadsValue}
use Rattle.gc_values.specs.RawValues.{raw_handle}
use Rattle.gc_lists.specs.declared.fault.ListFault.{ListFault}
use Rattle.gc_lists.specs.declared.fault.ListFault.TheVariants as fault
use Rattle.gc_lists.specs.Answers.{Copied, FailsToCopy}
use Rattle.gc_lists.specs.Faults.{refused}
use Rattle.gc_lists.specs.Frames.{ChangesOwned, Leaves, most_objects}
use Rattle.gc_lists.specs.Lists.{IsList}
use Rattle.gc_lists.specs.Progress.{NamesCell, IsCellIn, Steps, ReadsCell, Pushed, HoldsPushed, WalkedAll, StopsWalk}
use Rattle.gc_lists.specs.Refusals.{LacksScoped}
use Rattle.gc_lists.specs.Versions.{IsListIn, StandsForList, VersionNames}
use Rattle.gc_lists.proofs.CellReads.{first_cell}
use Rattle.gc_lists.proofs.Keeping.{owned_same}
use Rattle.gc_lists.proofs.Scopes.{next_scoped, left_scoped, leave_counts, full_lacks}

-- These numbers were read, and the handle names the list of the rest.
pub record Walked {D : Type 0} (layouts : Layouts) (t : Table D) (a : Account) (xs : List ℤ) (read : List ℤ) (here : Option GcRootIndex) (s : StoreView D) : Type 0 where
  pub there : HoldsPushed layouts t a (length read) s
  pub reference : Reference
  pub names : HandleStands s there.now here reference
  pub rest : List ℤ
  pub is : IsList there.now.types there.now.objects reference rest
  pub whole : xs ≡ read ++ rest

-- a handle names in a store what it names in one that is the same
pub names_moved : {D : Type 0} (s new : StoreView D) (t : Table D) (h : GcRootIndex) (r : Reference) → IsSameStore s new → NamesReference s t h r → NamesReference new t h r
names_moved s new t h r same (inl scoped) = inl (record {
  serial = scoped.serial;
  names = record {
    push = scoped.names.push;
    pushed = scoped.names.pushed;
    is = scoped.names.is ∙ (λ i. record (handle_of s scoped.names.push.index scoped.names.push.generation) { store_id = record { engine = sym same.engine i; number = sym same.number i } });
  };
  live = scoped.live;
})
names_moved s new t h r same (inr owned) = inr (record { number = owned.number; names = owned.names ∙ owned_same s new owned.number same; live = owned.live })

abbrev pub cell_moved : {D : Type 0} (s new : StoreView D) (t : Table D) (h : GcRootIndex) (xs : List ℤ) → IsSameStore s new → NamesCell s t h xs → NamesCell new t h xs
cell_moved s new t h xs same names = record {
  reference = names.reference;
  number = names.number;
  rest = names.rest;
  next = names.next;
  cell = names.cell;
  after = names.after;
  whole = names.whole;
  named = names_moved s new t h (at names.cell.position) same names.named;
}

-- what the next reference is read as
module _ {D : Type 0} (layouts : Layouts) (s : StoreView D) (t : Table D) (a : Account) (holds : HoldsTable layouts s t) (x n : ℤ) (same : n ≡ x) (fits : FitsSigned w64 n) (new : StoreView D) where
  pub steps_on : (next : Reference) (rest : List ℤ) (value : RawValue) (handle : Option GcRootIndex) → IsList t.types t.objects next rest → ReadsValue layouts t a (reference Any next) (Ok value) new → handle ≡ raw_handle value
      → ReadsCell layouts t a x next n handle new
  steps_on null rest value handle is reads handle_is = record { number_is = same; fits = fits; holds = reads.1.1; names = subst (λ (h : Option GcRootIndex). HandleStands new t h null) (sym (handle_is ∙ ap raw_handle reads.1.0)) refl }
  steps_on (small k) [] value handle is reads handle_is = absurd (cc is)
  steps_on (small k) (y ∷ ys) value handle is reads handle_is = absurd (cc is.1.0.named)
  steps_on (at p) rest value handle is reads handle_is = record {
    number_is = same;
    fits = fits;
    holds = reads.1.1;
    names = subst (λ (h : Option GcRootIndex). HandleStands new (push (at p) t) h (at p)) (sym (handle_is ∙ ap raw_handle reads.1.0)) (next_scoped layouts s t holds new (push (at p) t) (at p) (handle_of new (length t.scoped) t.drops) refl refl refl);
  }

  pub step_refused : (next : Reference) (why : RootFault) (answer : ListFault) → ReadsValue layouts t a (reference Any next) (Err why) new → answer ≡ refused why → Steps layouts t a x next (Err answer) new
  step_refused next why answer reads told = subst (λ (f : ListFault). Steps layouts t a x next (Err f) new) (sym told) (by why reads)
    where
      by : (f : RootFault) → ReadsValue layouts t a (reference Any next) (Err f) new → Steps layouts t a x next (Err (refused f)) new
      by root_fault.WrongStore r = absurd r
      by root_fault.Unrooted r = absurd r
      by root_fault.RootsFull r = r.1
      by root_fault.Memory r = r.1

-- How far a walk has come, whatever table was held when it began.
pub record Going {D : Type 0} (layouts : Layouts) (s : StoreView D) (first : Option GcRootIndex) (read : List ℤ) (here : Option GcRootIndex) (now : StoreView D) : Type 0 where
  pub walked : (t : Table D) (a : Account) (xs : List ℤ) → HoldsAccount layouts s t a → StandsForList s t first xs → Walked layouts t a xs read here now
  pub same : IsSameStore s now

version_handle : {D : Type 0} (s : StoreView D) (t : Table D) (version : Option GcRootIndex) (r : Reference) → VersionNames s t version r → HandleStands s t version r
version_handle s t None r names = names
version_handle s t (Some handle) r names = inr names

pub going_begun : {D : Type 0} (layouts : Layouts) (s : StoreView D) (first : Option GcRootIndex) → Going layouts s first [] first s
going_begun layouts s first = record {
  walked = λ t a xs holds stands. record {
    there = record { now = t; holds = holds; pushed = record { scoped = []; pushes = []; few = omega arith; is = λ i. record t { scoped = sym (append-nil t.scoped) i; pushes = sym (append-nil t.pushes) i } } };
    reference = stands.reference;
    names = version_handle s t first stands.reference stands.names;
    rest = xs;
    is = stands.is;
    whole = refl;
  };
  same = record { engine = refl; number = refl; counter = refl };
}

same_twice : {D : Type 0} (a b c : StoreView D) → IsSameStore a b → IsSameStore b c → IsSameStore a c
same_twice a b c one two = record { engine = two.engine ∙ one.engine; number = two.number ∙ one.number; counter = two.counter ∙ one.counter }

module _ {D : Type 0} (layouts : Layouts) (s : StoreView D) (first : Option GcRootIndex) (read : List ℤ) (cell : GcRootIndex) (now : StoreView D) where
  pub cell_here : (here : Option GcRootIndex) → here ≡ Some cell → (t : Table D) (a : Account) (xs : List ℤ) (walked : Walked layouts t a xs read here now) → NamesCell now walked.there.now cell walked.rest
  cell_here here some t a xs walked =
      first_cell layouts now walked.there.now (walked.there.holds.place, walked.there.holds.holds) cell walked.reference walked.rest
      (subst (λ (h : Option GcRootIndex). HandleStands now walked.there.now h walked.reference) some walked.names) walked.is

  -- some table tells of the cell
  pub cell_somewhere : (here : Option GcRootIndex) → here ≡ Some cell → Going layouts s first read here now → IsListIn D layouts s first → IsCellIn D layouts now cell
  cell_somewhere here some going one =
      let account = some_account layouts s one.table one.holds in
      let walked = going.walked one.table account.0 one.numbers account.1 one.stands in
      record { table = walked.there.now; holds = (walked.there.holds.place, walked.there.holds.holds); numbers = walked.rest; names = cell_here here some one.table account.0 one.numbers walked }

-- the table with these roots more
abbrev pub with_pushed : {D : Type 0} → Table D → List Scoped → List Push → Table D
with_pushed t scoped pushes = record t { scoped = t.scoped ++ scoped; pushes = t.pushes ++ pushes }

by_push : {D : Type 0} (t now : Table D) (count : ℕ) (r : Reference) → Pushed t now count → Pushed t (push r now) (count + 1)
by_push t now count r pushed =
    let w = with_pushed t pushed.scoped pushed.pushes in
    let x : List Scoped = record { serial = length w.pushes; reference = r } ∷ [] in
    let y : List Push = record { index = length w.scoped; generation = w.drops } ∷ [] in
    record {
      scoped = pushed.scoped ++ x;
      pushes = pushed.pushes ++ y;
      few = (let few = pushed.few in omega (arith, few, length-append pushed.scoped x));
      is = ap (push r) pushed.is ∙ (λ i. record (push r w) { scoped = append_assoc t.scoped pushed.scoped x i; pushes = append_assoc t.pushes pushed.pushes y i });
    }

-- one more root was pushed, or none
pushed_more : {D : Type 0} (t now : Table D) (count : ℕ) (next : Reference) → Pushed t now count → Pushed t (after_read (reference Any next) now) (count + 1)
pushed_more t now count null pushed = record { scoped = pushed.scoped; pushes = pushed.pushes; few = (let few = pushed.few in omega (arith, few)); is = pushed.is }
pushed_more t now count (small k) pushed = by_push t now count (small k) pushed
pushed_more t now count (at p) pushed = by_push t now count (at p) pushed

pushed_within : {D : Type 0} (t now : Table D) (count most : ℕ) → count ≤ most → Pushed t now count → Pushed t now most
pushed_within t now count most less pushed = record { scoped = pushed.scoped; pushes = pushed.pushes; few = (let few = pushed.few in omega (arith, few, less)); is = pushed.is }

-- a list is one after a read
list_after : {D : Type 0} (t : Table D) (next : Reference) (r : Reference) (ys : List ℤ) → IsList t.types t.objects r ys → IsList (after_read (reference Any next) t).types (after_read (reference Any next) t).objects r ys
list_after t null r ys is = is
list_after t (small k) r ys is = is
list_after t (at p) r ys is = is

length-more : (read : List ℤ) (n : ℤ) → length (read ++ n ∷ []) ≡ length read + 1
length-more read n = length-append read (n ∷ [])

module _ {D : Type 0} (layouts : Layouts) (s : StoreView D) (first : Option GcRootIndex) (read : List ℤ) (cell : GcRootIndex) (now : StoreView D) (here : Option GcRootIndex) (some : here ≡ Some cell)
    (going : Going layouts s first read here now) where
  -- the walk goes on by a step
  module _ (n : ℤ) (handle : Option GcRootIndex) (new : StoreView D) (steps : (u : Table D) (a : Account) (ys : List ℤ) → HoldsAccount layouts now u a → (names : NamesCell now u cell ys) → ReadsCell layouts u a names.number names.next n handle new) where
    -- the number fits, by any of the tables
    pub number_fits : IsListIn D layouts s first → FitsSigned w64 n
    number_fits one =
        let account = some_account layouts s one.table one.holds in
        let walked = going.walked one.table account.0 one.numbers account.1 one.stands in
        (steps walked.there.now account.0 walked.rest walked.there.holds (cell_here layouts s first read cell now here some one.table account.0 one.numbers walked)).fits

    walked_on : (t : Table D) (a : Account) (xs : List ℤ) → HoldsAccount layouts s t a → StandsForList s t first xs → Walked layouts t a xs (read ++ n ∷ []) handle new
    walked_on t a xs holds stands =
        let walked = going.walked t a xs holds stands in
        let names = cell_here layouts s first read cell now here some t a xs walked in
        let step = steps walked.there.now a walked.rest walked.there.holds names in
        record {
          there = record {
            now = after_read (reference Any names.next) walked.there.now;
            holds = step.holds;
            pushed = subst (λ k. Pushed t (after_read (reference Any names.next) walked.there.now) k) (sym (length-more read n)) (pushed_more t walked.there.now (length read) names.next walked.there.pushed);
          };
          reference = names.next;
          names = step.names;
          rest = names.rest;
          is = list_after walked.there.now names.next names.next names.rest names.after;
          whole = walked.whole ∙ ap (λ (ys : List ℤ). read ++ ys) (names.whole ∙ ap (λ m. m ∷ names.rest) (sym step.number_is)) ∙ sym (append_assoc read (n ∷ []) names.rest);
        }

    pub going_on : (items : List ℤ) → items ≡ read ++ n ∷ [] → IsSameStore now new → Going layouts s first items handle new
    going_on items is same = subst (λ (ys : List ℤ). Going layouts s first ys handle new) (sym is) (record { walked = walked_on; same = same_twice s now new going.same same })

    -- memory was wanting for the number
    pub stops_full : (t : Table D) (a : Account) (xs : List ℤ) → HoldsAccount layouts s t a → StandsForList s t first xs → HoldsPushed layouts t a (length xs) new
    stops_full t a xs holds stands =
        let walked = walked_on t a xs holds stands in
        let count : length xs ≡ length (read ++ n ∷ []) + length walked.rest = ap length walked.whole ∙ length-append (read ++ n ∷ []) walked.rest in
        record { now = walked.there.now; holds = walked.there.holds; pushed = pushed_within t walked.there.now (length (read ++ n ∷ [])) (length xs) (omega (arith, count)) walked.there.pushed }

  -- a step was refused
  pub stops_step : (why : ListFault) (new : StoreView D) → ((u : Table D) (a : Account) (ys : List ℤ) → HoldsAccount layouts now u a → (names : NamesCell now u cell ys) → Steps layouts u a names.number names.next (Err why) new)
      → (t : Table D) (a : Account) (xs : List ℤ) → HoldsAccount layouts s t a → StandsForList s t first xs → StopsWalk layouts t a xs why new
  stops_step why new steps t a xs holds stands = by why names.number names.next (steps walked.there.now a walked.rest walked.there.holds names)
    where
      walked : Walked layouts t a xs read here now
      walked = going.walked t a xs holds stands

      names : NamesCell now walked.there.now cell walked.rest
      names = cell_here layouts s first read cell now here some t a xs walked

      count : length xs ≡ length read + length walked.rest
      count = ap length walked.whole ∙ length-append read walked.rest

      pushed : Pushed t walked.there.now (length xs)
      pushed = pushed_within t walked.there.now (length read) (length xs) (omega (arith, count)) walked.there.pushed

      by : (f : ListFault) (x : ℤ) (next : Reference) → Steps layouts walked.there.now a x next (Err f) new → StopsWalk layouts t a xs f new
      by fault.WrongStore x next r = absurd r
      by fault.RootsFull x next r = (record { now = walked.there.now; holds = r.1; pushed = pushed }, r.0)
      by (fault.HeapOutOfMemory f) x next r = absurd r
      by fault.Memory x next r = record { now = walked.there.now; holds = r; pushed = pushed }

module _ {D : Type 0} (layouts : Layouts) (s : StoreView D) (first : Option GcRootIndex) (read : List ℤ) (now : StoreView D) (here : Option GcRootIndex) (going : Going layouts s first read here now) (t : Table D) (a : Account)
    (xs : List ℤ) (holds : HoldsAccount layouts s t a) (stands : StandsForList s t first xs) where
  -- the walk is at its end
  pub walked_all : here ≡ None → WalkedAll layouts t a xs read now
  walked_all none =
      let walked = going.walked t a xs holds stands in
      let is_null : walked.reference ≡ null = subst (λ (h : Option GcRootIndex). HandleStands now walked.there.now h walked.reference) none walked.names in
      let ended : walked.rest ≡ [] = nothing walked.there.now walked.rest walked.reference is_null walked.is in
      let same : xs ≡ read = walked.whole ∙ ap (λ (ys : List ℤ). read ++ ys) ended ∙ append-nil read in
      record {
        there = record { now = walked.there.now; holds = walked.there.holds; pushed = subst (λ (ys : List ℤ). Pushed t walked.there.now (length ys)) (sym same) walked.there.pushed };
        all = sym same;
      }
    where
      nothing : (u : Table D) (ys : List ℤ) (r : Reference) → r ≡ null → IsList u.types u.objects r ys → ys ≡ []
      nothing u [] r is list = refl
      nothing u (y ∷ ys) r is list = absurd (cc (sym is ∙ list.1.0.named))

  -- or it is given up
  pub given_up : HoldsPushed layouts t a (length xs) now
  given_up =
      let walked = going.walked t a xs holds stands in
      let count : length xs ≡ length read + length walked.rest = ap length walked.whole ∙ length-append read walked.rest in
      record { now = walked.there.now; holds = walked.there.holds; pushed = pushed_within t walked.there.now (length read) (length xs) (omega (arith, count)) walked.there.pushed }

-- The scope is left.
module _ {D : Type 0} (layouts : Layouts) (t : Table D) (a : Account) (xs : List ℤ) (mid new : StoreView D) (scope : ℕ) (scope_is : scope ≡ length t.scoped)
    (leaves : (u : Table D) → HoldsAccount layouts mid u a → HoldsAccount layouts new (leave scope u) a) where
  walk_left : HoldsPushed layouts t a (length xs) mid → Leaves layouts (ChangesOwned t t.owned) new
  walk_left there =
      let w = with_pushed t there.pushed.scoped there.pushed.pushes in
      record {
        after = leave scope w;
        account = a;
        holds = subst (λ (u : Table D). HoldsAccount layouts new (leave scope u) a) there.pushed.is (leaves there.now there.holds);
        changed = record { pushes = there.pushed.pushes; counts = leave_counts scope t w refl (omega arith); rest = λ i. record (leave scope w) { scoped = left_scoped scope t.scoped there.pushed.scoped scope_is i } };
      }

  lacks_room : (there : HoldsPushed layouts t a (length xs) mid) → roots_full there.now ≡ true → LacksScoped t (length xs + most_objects)
  lacks_room there full =
      let w = with_pushed t there.pushed.scoped there.pushed.pushes in
      elim (full_lacks w 1 (omega arith) (subst (λ (u : Table D). roots_full u ≡ true) there.pushed.is full)) [
        | inl less ↦ inl (let few = there.pushed.few in omega (arith, less, few, length-append t.scoped there.pushed.scoped))
        | inr ended ↦ inr ended
      ]

  pub walk_copied : (numbers : List ℤ) → WalkedAll layouts t a xs numbers mid → Copied layouts xs t numbers new
  walk_copied numbers walked = (walked.all, walk_left walked.there)

  pub walk_fails : (why : ListFault) → StopsWalk layouts t a xs why mid → FailsToCopy layouts xs t why new
  walk_fails fault.WrongStore stops = absurd stops
  walk_fails fault.RootsFull stops = (lacks_room stops.0 stops.1, walk_left stops.0)
  walk_fails (fault.HeapOutOfMemory f) stops = absurd stops
  walk_fails fault.Memory stops = walk_left stops

  pub copied_out : (result : Result (Vec ℤ Global) ListFault)
      → MatchResult result (λ (numbers : Vec ℤ Global). WalkedAll layouts t a xs numbers.items mid) (λ (why : ListFault). StopsWalk layouts t a xs why mid)
      → MatchResult result (λ (numbers : Vec ℤ Global). Copied layouts xs t numbers.items new) (λ (why : ListFault). FailsToCopy layouts xs t why new)
  copied_out (Ok numbers) walks = walk_copied numbers.items walks
  copied_out (Err why) walks = walk_fails why walks
