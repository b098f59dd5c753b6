-- The globals are read one by one.
use Rattle.std.proofs.Common.{inl, inr, ◌≡◌, ℕ, ◌+◌, ◌<◌, List, [], ◌∷◌, ◌++◌, length, take, get_or, Some, None, Option, Ok, Err, true, false, sym, ap, ◌∙◌, refl, subst, arith}
use Rattle.std.specs.List.{slice_get}
use Rattle.std.proofs.lemmas.List.{length_push}
use Rattle.std.proofs.lemmas.List.Sums.{sum_by_more, sum_by-take-le}
use Rattle.std.proofs.lemmas.Option.{none-some, same_Some, slice_get_within, slice_get_cases, get_or_from_slice_get}
use Rattle.gc_types.specs.declared.kind.Layouts.{Layouts}
use Rattle.gc_owner.specs.declared.entry.GcClass.{GcClass}
use Rattle.gc_model.specs.Live.{roots_full}
use Rattle.gc_model.specs.Reads.{makes_root}
use Rattle.gc_model.specs.Stores.{StoreView}
use Rattle.gc_model.specs.Table.{Slot, Table, push}
use Rattle.gc_model.specs.Values.{Reference, null, small, at, reference}
use Rattle.gc_model.proofs.Lists.{slice_get-push_cases}
use Rattle.gc_model.specs.Accounts.{Account, HoldsAccount}
use Rattle.gc_values.specs.declared.root.GcRootIndex.{GcRootIndex}
use Rattle.gc_values.specs.declared.root.RawValue.{RawValue}
use Rattle.gc_values.specs.declared.root.RawValue.TheVariants as raw
use Rattle.gc_store.specs.Roots.{NamesReference, handle_of}
use Rattle.gc_store.specs.Slots.{HandleStands}
use Rattle.gc_store.specs.Stores.{IsSameStore}
use Rattle.gc_store.specs.Values.{ReadsValue}
use Rattle.gc_paths.specs.Progress.{Grown}
use Rattle.gc_paths.proofs.Growing.{grown_none, grown_push, full_lacks, free_drops, lacks_more, named_pushed, named_same, new_named}
use Rattle.gc_save_image.specs.declared.collect_fault.CollectFault.{CollectFault}
use Rattle.gc_save_image.specs.declared.collect_fault.CollectFault.TheVariants as fault
use Rattle.gc_save_image.specs.declared.globals.GlobalRead.{GlobalRead}
use Rattle.gc_save_image.specs.GlobalSteps.{AnswersGlobals, GlobalsRead, IsRead, ReadsGlobal, StoppedAt, slot_count, slots_count}

same_class : (c k : GcClass) (h g : Option GcRootIndex) → ◌≡◌ {A = RawValue} (raw.Ref c h) (raw.Ref k g) → c ≡ k
same_class c k h g e = cc e

same_handle : (c k : GcClass) (h g : Option GcRootIndex) → ◌≡◌ {A = RawValue} (raw.Ref c h) (raw.Ref k g) → h ≡ g
same_handle c k h g e = cc e

-- one more global was read
record OneRead (layouts : Layouts) (t : Table ℕ) (a : Account) (s new : StoreView ℕ) (before : Table ℕ) (count : ℕ) (slot : Slot) (read : GlobalRead) : Type 0 where
  now : Table ℕ
  grown : Grown t now count
  held : HoldsAccount layouts new now a
  is : IsRead new now slot read
  kept : (h : GcRootIndex) (r : Reference) → NamesReference s before h r → NamesReference new now h r

module _ (layouts : Layouts) (t : Table ℕ) (a : Account) (s new : StoreView ℕ) (same : IsSameStore s new) (before : Table ℕ) (count : ℕ) (grown : Grown t before count) (held : HoldsAccount layouts s before a) where
  pushed : (class : GcClass) (q : Reference) (read : GlobalRead) → roots_full before ≡ false → ◌≡◌ {A = RawValue} (raw.Ref read.class read.handle) (raw.Ref class (Some (handle_of new (length before.scoped) before.drops)))
      → HoldsAccount layouts new (push q before) a → OneRead layouts t a s new before (count + 1) (record { class = class; reference = q }) read
  pushed class q read free is after = record {
    now = push q before;
    grown = grown_push t before count q grown (free_drops t before count grown free);
    held = after;
    is = record {
      class = same_class read.class class read.handle (Some (handle_of new (length before.scoped) before.drops)) is;
      stands = subst (λ (h : Option GcRootIndex). HandleStands new (push q before) h q) (sym (same_handle read.class class read.handle (Some (handle_of new (length before.scoped) before.drops)) is))
          (new_named layouts s before held.place held.holds new q (handle_of new (length before.scoped) before.drops) refl);
    };
    kept = λ h r named. named_pushed s new same before q h r named;
  }

  one_read : (class : GcClass) (q : Reference) (read : GlobalRead) → ReadsValue layouts before a (reference class q) (Ok (raw.Ref read.class read.handle)) new → OneRead layouts t a s new before (count + slot_count (record { class = class; reference = q })) (record { class = class; reference = q }) read
  one_read class null read reads = record {
    now = before;
    grown = subst (Grown t before) (omega arith) grown;
    held = reads.1.1;
    is = record {
      class = same_class read.class class read.handle None reads.1.0;
      stands = subst (λ (h : Option GcRootIndex). HandleStands new before h null) (sym (same_handle read.class class read.handle None reads.1.0)) refl;
    };
    kept = λ h r named. named_same s new same before h r named;
  }
  one_read class (small n) read reads = pushed class (small n) read (reads.0 refl) reads.1.0 reads.1.1
  one_read class (at p) read reads = pushed class (at p) read (reads.0 refl) reads.1.0 reads.1.1

makes_one : (class : GcClass) (q : Reference) → makes_root (reference class q) ≡ true → 1 ≡ slot_count (record { class = class; reference = q })
makes_one class null e = absurd (cc)
makes_one class (small n) e = refl
makes_one class (at p) e = refl

module _ (layouts : Layouts) (t : Table ℕ) (a : Account) where
  pub globals_begin : (s : StoreView ℕ) (reads : List GlobalRead) → reads ≡ [] → HoldsAccount layouts s t a → GlobalsRead layouts t a 0 s reads
  globals_begin s reads empty held = record {
    now = t;
    grown = subst (Grown t t) (none t.globals) (grown_none t);
    held = held;
    same_count = ap length empty;
    each = λ i slot read at_slot at_read. absurd (none-some read (sym (ap (λ rs. slice_get rs i) empty) ∙ at_read));
  }
    where
      none : (slots : List Slot) → 0 ≡ slots_count (take 0 slots)
      none [] = refl
      none (x ∷ xs) = refl

  module _ (k : ℕ) (slot : Slot) (there : slice_get t.globals k ≡ Some slot) where
    count_more : slots_count (take k t.globals) + slot_count slot ≡ slots_count (take (k + 1) t.globals)
    count_more =
        let more = sum_by_more slot_count t.globals k slot (slice_get_within t.globals k slot there) in
        let is : slot_count (get_or t.globals k slot) ≡ slot_count slot = ap slot_count (get_or_from_slice_get t.globals k slot slot there) in
        omega (arith, more, is)

    pub globals_more : (s new : StoreView ℕ) → IsSameStore s new → (reads more : List GlobalRead) (read : GlobalRead) → more ≡ reads ++ read ∷ [] → (so_far : GlobalsRead layouts t a k s reads) → ReadsGlobal layouts so_far.now a slot (Ok read) new
        → GlobalsRead layouts t a (k + 1) new more
    globals_more s new same reads more read is so_far answer =
        let one = one_read layouts t a s new same so_far.now (slots_count (take k t.globals)) so_far.grown so_far.held slot.class slot.reference read answer in
        record {
          now = one.now;
          grown = subst (Grown t one.now) count_more one.grown;
          held = one.held;
          same_count = ap length is ∙ length_push reads read ∙ ap (λ n. n + 1) so_far.same_count;
          each = λ i w r at_w at_r. each one i w r at_w (ap (λ rs. slice_get rs i) (sym is) ∙ at_r);
        }
      where
        kept_stands : (one : OneRead layouts t a s new so_far.now (slots_count (take k t.globals) + slot_count slot) slot read) (h : Option GcRootIndex) (q : Reference) → HandleStands s so_far.now h q → HandleStands new one.now h q
        kept_stands one None q stands = stands
        kept_stands one (Some h) q named = one.kept h q named

        each : (one : OneRead layouts t a s new so_far.now (slots_count (take k t.globals) + slot_count slot) slot read) (i : ℕ) (w : Slot) (r : GlobalRead) → slice_get t.globals i ≡ Some w → slice_get (reads ++ read ∷ []) i ≡ Some r → IsRead new one.now w r
        each one i w r at_w at_r = elim (slice_get-push_cases reads read i r at_r) [
          | inl old ↦ let before = so_far.each i w r at_w old in record { class = before.class; stands = kept_stands one r.handle w.reference before.stands }
          | inr (at_end, same_read) ↦
              let place_is : k ≡ i = sym so_far.same_count ∙ sym at_end in
              let slot_is : slot ≡ w = same_Some slot w (sym there ∙ ap (slice_get t.globals) place_is ∙ at_w) in
              subst (λ (x : Slot). IsRead new one.now x r) slot_is (subst (IsRead new one.now slot) same_read one.is)
        ]

    -- one wasn't read
    pub globals_refused : {X : Type 0} (s new : StoreView ℕ) (reads : List GlobalRead) (so_far : GlobalsRead layouts t a k s reads) (why : CollectFault) (Went : X → Type 0) → ReadsGlobal layouts so_far.now a slot (Err why) new → AnswersGlobals layouts t a Went (Err why) new
    globals_refused s new reads so_far fault.RootsFull Went full =
        let one = makes_one slot.class slot.reference full.0 in
        let lacks = full_lacks t so_far.now (slots_count (take k t.globals)) so_far.grown full.1.0 in
        let more = count_more in
        let part = sum_by-take-le slot_count t.globals (k + 1) in (
          lacks_more t (slots_count (take k t.globals) + 1) (slots_count t.globals) (omega (arith, more, part, one)) lacks,
          record { count = slots_count (take k t.globals); now = so_far.now; grown = so_far.grown; held = full.1.1 },
        )
    globals_refused s new reads so_far fault.Memory Went memory = record { count = slots_count (take k t.globals); now = so_far.now; grown = so_far.grown; held = memory }

  pub globals_stopped : (k : ℕ) (s : StoreView ℕ) (reads : List GlobalRead) → GlobalsRead layouts t a k s reads → StoppedAt layouts t a s
  globals_stopped k s reads so_far = record { count = slots_count (take k t.globals); now = so_far.now; grown = so_far.grown; held = so_far.held }

-- there is a global of each number below
pub slot_there : (slots : List Slot) (n : ℕ) → n < length slots → (slot : Slot) × (slice_get slots n ≡ Some slot)
slot_there slots n below = elim ((slice_get_cases slots n).1) [
  | inl found ↦ (found.0, found.2)
  | inr past ↦ absurd (omega (arith, below, past.0))
]

-- the global in the table that is held now
pub globals_there : (layouts : Layouts) (t : Table ℕ) (a : Account) (k : ℕ) (s : StoreView ℕ) (reads : List GlobalRead) (so_far : GlobalsRead layouts t a k s reads) (slot : Slot) → slice_get t.globals k ≡ Some slot → slice_get so_far.now.globals k ≡ Some slot
globals_there layouts t a k s reads so_far slot there = ap (λ (v : Table ℕ). slice_get v.globals k) so_far.grown.is ∙ there
