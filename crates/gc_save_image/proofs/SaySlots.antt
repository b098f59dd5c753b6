-- The globals get their lines one by one.
use Rattle.std.proofs.Common.{inl, inr, ◌≡◌, ℕ, ◌+◌, ◌<◌, List, [], ◌∷◌, ◌++◌, length, get_or, Contains, Some, None, Option, Ok, true, false, sym, ap, ◌∙◌, refl, subst, arith}
use Rattle.std.specs.List.{slice_get}
use Rattle.std.proofs.lemmas.Bool.{cases_eq}
use Rattle.std.proofs.lemmas.Option.{none-some, same_Some, slice_get_within, slice_get_cases, get_or_from_slice_get}
use Rattle.gc_types.specs.declared.kind.Layouts.{Layouts}
use Rattle.gc_owner.specs.declared.entry.GcClass.{GcClass}
use Rattle.gc_memory.proofs.ListLemmas.{only_item}
use Rattle.gc_model.specs.Holds.{Holds, HoldsTable, Placing}
use Rattle.gc_model.specs.Reach.{slot_references, by_start}
use Rattle.gc_model.proofs.Members.{among_map, get_contains}
use Rattle.gc_model.specs.Stores.{StoreView}
use Rattle.gc_model.specs.Table.{Slot, Table, null_slot}
use Rattle.gc_model.specs.Values.{Reference, null, at}
use Rattle.gc_model.proofs.Lists.{slice_get-push_cases, slice_get-push_old, slice_get-push_new}
use Rattle.gc_model.proofs.Words.{word_names}
use Rattle.gc_values.specs.declared.root.GcRootIndex.{GcRootIndex}
use Rattle.gc_store.specs.Roots.{NamesReference}
use Rattle.gc_values.specs.declared.root.RawValue.TheVariants as raw
use Rattle.gc_store.specs.Slots.{HandleStands, slot_value}
use Rattle.gc_store.specs.Values.{NamesLive}
use Rattle.gc_store.proofs.HandleWords.{finds_word, live_has_word, named_held, named_word}
use Rattle.gc_paths.specs.Progress.{Basis}
use Rattle.gc_image.specs.declared.image.GlobalLine.{GlobalLine}
use Rattle.gc_save_image.specs.declared.globals.GlobalRead.{GlobalRead}
use Rattle.gc_save_image.specs.GlobalSteps.{AddsLine, GlobalsSaid, IsRead, IsSaid, IsUnset, MoreLines}
use Rattle.gc_save_image.specs.Progress.{KeepsNumbered}
use Rattle.gc_save_image.specs.Steps.{LeadsOn}
use Rattle.gc_save_image.proofs.FirstValues.{says_kept}

module _ (layouts : Layouts) (s : StoreView ℕ) (t t' : Table ℕ) (place : Placing) (holds : Holds layouts s t place) (holds' : Holds layouts s t' place) where
  -- a handle names the same in each table that the store holds there
  names_there : (h : GcRootIndex) (r : Reference) → NamesReference s t h r → NamesReference s t' h r
  names_there h r named =
      let word = live_has_word layouts s t place holds h r named in
      let is = (named_word layouts s t place holds h r word.0 named word.1).0 in
      let other = finds_word layouts s t' place holds' h (Ok word.0) word.1 in
      subst (NamesReference s t' h) (word_names layouts t' place s.heap holds'.objects other.0 r word.0 other.1.1 is) other.1.0

  pub stands_there : (h : Option GcRootIndex) (r : Reference) → HandleStands s t h r → HandleStands s t' h r
  stands_there None r stands = stands
  stands_there (Some h) r named = names_there h r named

pub read_there : (layouts : Layouts) (s : StoreView ℕ) (t t' : Table ℕ) (place : Placing) → Holds layouts s t place → Holds layouts s t' place → (slot : Slot) (read : GlobalRead) → IsRead s t slot read → IsRead s t' slot read
read_there layouts s t t' place holds holds' slot read is = record { class = is.class; stands = stands_there layouts s t t' place holds holds' read.handle slot.reference is.stands }

module _ (layouts : Layouts) (s : StoreView ℕ) (t : Table ℕ) (place : Placing) (holds : Holds layouts s t place) (slot : Slot) (read : GlobalRead) (is : IsRead s t slot read) where
  pub unset_empty : IsUnset read true → slot ≡ null_slot
  unset_empty unset = λ i. record { class = (sym is.class ∙ unset.0) i; reference = is_null i }
    where
      is_null : slot.reference ≡ null
      is_null = subst (λ (h : Option GcRootIndex). HandleStands s t h slot.reference) unset.1 is.stands

  no_null : (h : Option GcRootIndex) → HandleStands s t h null → h ≡ None
  no_null None stands = refl
  no_null (Some h) named = absurd (let held = named_held layouts s t place holds h null named in let zero_is = held.1.0 in let some = held.1.1 in omega (arith, zero_is, some))

  pub set_full : IsUnset read false → slot ≡ null_slot → ⊥
  set_full set empty =
      let stands = subst (HandleStands s t read.handle) (ap (λ (x : Slot). x.reference) empty) is.stands in
      set (is.class ∙ ap (λ (x : Slot). x.class) empty, no_null read.handle stands)

-- The lines

said_kept : (before now : List ℕ) → KeepsNumbered before now → (globals : List Slot) (line : GlobalLine) → IsSaid before globals line → IsSaid now globals line
said_kept before now keeps globals line said = record { slot = said.slot; there = said.there; says = says_kept before now keeps (slot_value said.slot) line.value said.says; is_set = said.is_set }

pub lines_begin : (told : List ℕ) (globals : List Slot) (lines : List GlobalLine) → lines ≡ [] → GlobalsSaid told 0 globals lines
lines_begin told globals lines empty = record {
  said = λ i line e. absurd (none-some line (none i ∙ e));
  below = λ i line e. absurd (none-some line (none i ∙ e));
  unsaid = λ n slot under e. absurd (omega (arith, under));
  rising = λ i one next e. absurd (none-some one (none i ∙ e));
}
  where
    none : (i : ℕ) → None ≡ slice_get lines i
    none i = sym (ap (λ ls. slice_get ls i) empty)

module _ (before now : List ℕ) (keeps : KeepsNumbered before now) (k : ℕ) (globals : List Slot) (old : List GlobalLine) (said : GlobalsSaid before k globals old) (slot : Slot) (there : slice_get globals k ≡ Some slot) where
  -- the global has no line
  passed : slot ≡ null_slot → GlobalsSaid now (k + 1) globals old
  passed empty = record {
    said = λ i line e. said_kept before now keeps globals line (said.said i line e);
    below = λ i line e. let under = said.below i line e in omega (arith, under);
    unsaid = λ n w under at_w none. elim (cases_eq n k) [
      | inl same ↦ same_Some w slot (sym at_w ∙ ap (slice_get globals) same ∙ there) ∙ empty
      | inr other ↦ said.unsaid n w (omega (arith, under, other)) at_w none
    ];
    rising = said.rising;
  }

  module _ (new : List GlobalLine) (more : MoreLines now old new k slot) where
    abbrev added : GlobalLine
    added = record { index = k; value = more.value }

    at_new : (i : ℕ) (line : GlobalLine) → slice_get new i ≡ Some line → slice_get (old ++ added ∷ []) i ≡ Some line
    at_new i line e = ap (λ ls. slice_get ls i) (sym more.is) ∙ e

    said_more : (i : ℕ) (line : GlobalLine) → slice_get new i ≡ Some line → IsSaid now globals line
    said_more i line e = elim (slice_get-push_cases old added i line (at_new i line e)) [
      | inl before_it ↦ said_kept before now keeps globals line (said.said i line before_it)
      | inr (at_end, same) ↦ subst (IsSaid now globals) same (record { slot = slot; there = there; says = more.says; is_set = more.is_set })
    ]

    below_more : (i : ℕ) (line : GlobalLine) → slice_get new i ≡ Some line → line.index < k + 1
    below_more i line e = elim (slice_get-push_cases old added i line (at_new i line e)) [
      | inl before_it ↦ let under = said.below i line before_it in omega (arith, under)
      | inr (at_end, same) ↦ let is : k ≡ line.index = ap (λ (l : GlobalLine). l.index) same in omega (arith, is)
    ]

    unsaid_more : (n : ℕ) (w : Slot) → n < k + 1 → slice_get globals n ≡ Some w → ((i : ℕ) (line : GlobalLine) → slice_get new i ≡ Some line → ¬ (line.index ≡ n)) → w ≡ null_slot
    unsaid_more n w under at_w none = elim (cases_eq n k) [
      | inl same ↦ absurd (none (length old) added (ap (λ ls. slice_get ls (length old)) more.is ∙ slice_get-push_new old added) (sym same))
      | inr other ↦ said.unsaid n w (omega (arith, under, other)) at_w (λ i line e. none i line (ap (λ ls. slice_get ls i) more.is ∙ slice_get-push_old old added i line e))
    ]

    rising_more : (i : ℕ) (one next : GlobalLine) → slice_get new i ≡ Some one → slice_get new (i + 1) ≡ Some next → one.index < next.index
    rising_more i one next at_one at_next = elim (slice_get-push_cases old added (i + 1) next (at_new (i + 1) next at_next)) [
      | inl next_old ↦ elim (slice_get-push_cases old added i one (at_new i one at_one)) [
        | inl one_old ↦ said.rising i one next one_old next_old
        | inr (at_end, same) ↦ absurd (let inside = slice_get_within old (i + 1) next next_old in omega (arith, inside, at_end))
      ]
      | inr (at_end, same) ↦ elim (slice_get-push_cases old added i one (at_new i one at_one)) [
        | inl one_old ↦ let under = said.below i one one_old in let is : k ≡ next.index = ap (λ (l : GlobalLine). l.index) same in omega (arith, under, is)
        | inr (at_end', same') ↦ absurd (omega (arith, at_end, at_end'))
      ]
    ]

  pub line_added : (new : List GlobalLine) → AddsLine now old new k slot → GlobalsSaid now (k + 1) globals new
  line_added new (inl (empty, is)) = subst (GlobalsSaid now (k + 1) globals) (sym is) (passed empty)
  line_added new (inr more) = record { said = said_more new more; below = below_more new more; unsaid = unsaid_more new more; rising = rising_more new more }

-- What the loop knows at a global

pub read_at : (reads : List GlobalRead) (i : ℕ) (d : GlobalRead) → i < length reads → slice_get reads i ≡ Some (get_or reads i d)
read_at reads i d below = elim ((slice_get_cases reads i).1) [
  | inl found ↦ found.2 ∙ ap Some (sym (get_or_from_slice_get reads i found.0 d found.2))
  | inr past ↦ absurd (omega (arith, below, past.0))
]

pub handle_live : (layouts : Layouts) (s : StoreView ℕ) (t : Table ℕ) → HoldsTable layouts s t → (class : GcClass) (h : Option GcRootIndex) (q : Reference) → HandleStands s t h q → NamesLive ℕ layouts s (raw.Ref class h)
handle_live layouts s t holds class None q stands = tt
handle_live layouts s t holds class (Some h) q named = record { table = t; holds = holds; root = q; named = named }

-- what a global names is reached
pub global_leads : (b : Basis ℕ) (k : ℕ) (slot : Slot) → slice_get b.table.globals k ≡ Some slot → LeadsOn b (slot_value slot)
global_leads b k slot there p c =
    by_start (subst (Contains (slot_references b.table.globals)) (only_item slot.reference (at p) c) (among_map (λ (x : Slot). x.reference) b.table.globals slot (get_contains b.table.globals k slot there)))
