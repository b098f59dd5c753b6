-- Roots stand for the table's under another placing, where it gives what they name the same words.
use Rattle.std.proofs.Common.{◌≡◌, ℕ, Contains, List, [], Some, None, Option, sym, ◌∙◌, refl, subst, arith, zero, suc}
use Rattle.std.specs.List.{slice_get}
use Rattle.std.specs.Prelude.{replicate}
use Rattle.std.proofs.lemmas.List.{length-replicate}
use Rattle.std.proofs.lemmas.Option.{none-some}
use Rattle.gc_owner.specs.declared.entry.RootEntry.{RootEntry}
use Rattle.gc_owner.specs.declared.entry.SlotEntry.{SlotEntry}
use Rattle.gc_model.specs.Values.{Reference}
use Rattle.gc_model.specs.Table.{Slot, Owned, Scoped, Push, null_slot, global_count}
use Rattle.gc_model.specs.Stores.{unset_globals}
use Rattle.gc_owner.specs.RootColumns.{empty_slot as empty_entry}
use Rattle.gc_owner.specs.declared.entry.OwnedEntry.{OwnedEntry}
use Rattle.gc_model.specs.Words.{Placing, IsWord}
use Rattle.gc_model.specs.RootPoints.{ScopedBy, SlotBy, SlotsBy, FramesBy, GlobalsBy, OwnedRootBy, OwnedBy, PendingBy}
use Rattle.gc_model.proofs.Lists.{slice_get-same_length, all_replicated}
use Rattle.gc_model.proofs.Placings.{IsWithin, is_word-more}

-- each word of the reference under one placing is its word under the other
abbrev pub Carries : Placing → Placing → Reference → Type 0
Carries place place' r = (word : ℕ) → IsWord place r word → IsWord place' r word

module _ (place place' : Placing) where
  pub slots-moved : (slots : List Slot) (entries : List SlotEntry) → ((i : ℕ) (slot : Slot) → slice_get slots i ≡ Some slot → Carries place place' slot.reference) → SlotsBy place slots entries → SlotsBy place' slots entries
  slots-moved slots entries carries by = record {
    same_count = by.same_count;
    each = λ i entry slot e f. let stands = by.each i entry slot e f in record { class = stands.class; word = carries i slot f entry.word stands.word };
  }

  pub frames-moved : (frames : List (List Slot)) (entries : List (List SlotEntry))
      → ((i : ℕ) (frame : List Slot) → slice_get frames i ≡ Some frame → (j : ℕ) (slot : Slot) → slice_get frame j ≡ Some slot → Carries place place' slot.reference)
      → FramesBy place frames entries → FramesBy place' frames entries
  frames-moved frames entries carries by = record {
    same_count = by.same_count;
    each = λ i slots frame e f. slots-moved frame slots (carries i frame f) (by.each i slots frame e f);
  }

  pub globals-moved : (globals : List Slot) (entries : List SlotEntry) → ((i : ℕ) (slot : Slot) → slice_get globals i ≡ Some slot → Carries place place' slot.reference) → GlobalsBy place globals entries → GlobalsBy place' globals entries
  globals-moved globals entries carries by = record { count = by.count; slots = slots-moved globals entries carries by.slots }

  pub owned-moved : (owns count : ℕ) (owned : List Owned) (entries : List OwnedEntry) → ((root : Owned) → Contains owned root → Carries place place' root.reference)
      → OwnedBy place owns count owned entries → OwnedBy place' owns count owned entries
  owned-moved owns count owned entries carries by = record {
    same_owns = by.same_owns;
    in_table = λ entry c some. let found = by.in_table entry c some in (found.0, (found.1.0, moved_stands entry found.0 found.1.0 found.1.1));
    in_store = λ root c. let found = by.in_store root c in (found.0, (found.1.0, moved_stands found.0 root c found.1.1));
    early = by.early;
    rising = by.rising;
    in_order = by.in_order;
  }
    where
      moved_stands : (entry : OwnedEntry) (root : Owned) → Contains owned root → OwnedRootBy place entry root → OwnedRootBy place' entry root
      moved_stands entry root c stands = record { number = stands.number; handles = stands.handles; held = stands.held; word = carries root c entry.word stands.word; not_null = stands.not_null }

  pub pending-moved : (pending : Option Reference) (word : ℕ) → ((r : Reference) → pending ≡ Some r → Carries place place' r) → PendingBy place pending word → PendingBy place' pending word
  pending-moved None word carries by = by
  pending-moved (Some r) word carries by = (carries r refl word by.0, by.1)

  -- where more positions are placed, all words are the same
  module _ (within : IsWithin place place') where
    carries-more : (r : Reference) → Carries place place' r
    carries-more r word is = is_word-more place place' r word within is

    pub scoped-more : (pushes : List Push) (roots : List Scoped) (entries : List RootEntry) → ScopedBy pushes place roots entries → ScopedBy pushes place' roots entries
    scoped-more pushes roots entries by = record {
      same_count = by.same_count;
      each = λ i entry root e f. let stands = by.each i entry root e f in record { pushed = stands.pushed; word = carries-more root.reference entry.word stands.word; not_null = stands.not_null };
    }

    pub frames-more : (frames : List (List Slot)) (entries : List (List SlotEntry)) → FramesBy place frames entries → FramesBy place' frames entries
    frames-more frames entries by = frames-moved frames entries (λ i frame e j slot f. carries-more slot.reference) by

    pub globals-more : (globals : List Slot) (entries : List SlotEntry) → GlobalsBy place globals entries → GlobalsBy place' globals entries
    globals-more globals entries by = globals-moved globals entries (λ i slot e. carries-more slot.reference) by

    pub owned-more : (owns count : ℕ) (owned : List Owned) (entries : List OwnedEntry) → OwnedBy place owns count owned entries → OwnedBy place' owns count owned entries
    owned-more owns count owned entries by = owned-moved owns count owned entries (λ root c. carries-more root.reference) by

    pub pending-more : (pending : Option Reference) (word : ℕ) → PendingBy place pending word → PendingBy place' pending word
    pending-more pending word by = pending-moved pending word (λ r e. carries-more r) by

  -- where no owned root was made, nothing is to be carried
  pub owned-none : (owns count : ℕ) (owned : List Owned) (entries : List OwnedEntry) → count ≡ 0 → OwnedBy place owns count owned entries → OwnedBy place' 0 count [] entries
  owned-none owns count owned entries none by = record {
    same_owns = none;
    in_table = λ entry c some. absurd (let early = by.early entry c in let same = by.same_owns in omega (arith, early, same, none));
    in_store = λ root c. absurd (omega (arith, c.1));
    early = λ entry c. absurd (let early = by.early entry c in let same = by.same_owns in omega (arith, early, same, none));
    rising = by.rising;
    in_order = λ i j d less inside. absurd (omega arith);
  }

-- an element of a list of one element many times is that one
replicated : {X : Type 0} (n : ℕ) (x : X) (i : ℕ) (y : X) → slice_get (replicate n x) i ≡ Some y → x ≡ y
replicated zero x i y e = absurd (none-some y e)
replicated (suc n) x zero y e = grind (arith, e)
replicated (suc n) x (suc i) y e = replicated n x i y e

-- slots that hold nothing are the table's empty slots
pub slots-empty : (place : Placing) (count : ℕ) → SlotsBy place (replicate count null_slot) (replicate count empty_entry)
slots-empty place count = record {
  same_count = length-replicate count empty_entry ∙ sym (length-replicate count null_slot);
  each = λ i entry slot e f.
      subst (λ (x : Slot). SlotBy place entry x) (replicated count null_slot i slot f)
      (subst (λ (x : SlotEntry). SlotBy place x null_slot) (replicated count empty_entry i entry e) (record { class = refl; word = refl }));
}

-- and so are globals of which none was set
pub globals-empty : (place : Placing) → GlobalsBy place (replicate global_count null_slot) unset_globals
globals-empty place = record { count = refl; slots = slots-empty place global_count }

-- where no frame is open there is none
pub frames-empty : (place : Placing) → FramesBy place [] []
frames-empty place = record { same_count = refl; each = λ i slots frame e f. absurd (none-some frame f) }

-- a slot that stands for the empty one is empty
empty_entry-only : (place : Placing) (entry : SlotEntry) → SlotBy place entry null_slot → entry ≡ empty_entry
empty_entry-only place entry by i = record { class = by.class i; word = by.word i }

-- and the table's empty slots are globals of which none was set
pub unset_from_table : (place : Placing) (entries : List SlotEntry) → GlobalsBy place (replicate global_count null_slot) entries → entries ≡ unset_globals
unset_from_table place entries by =
    all_replicated empty_entry global_count entries by.slots.same_count (λ i entry e.
    let slot = slice_get-same_length entries (replicate global_count null_slot) i entry by.slots.same_count e in
    empty_entry-only place entry
    (subst (λ (x : Slot). SlotBy place entry x) (sym (replicated global_count null_slot i slot.0 slot.1)) (by.slots.each i entry slot.0 e slot.1)))
