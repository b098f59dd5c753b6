-- What was saved, and why nothing was.
use Rattle.std.proofs.Common.{◌≡◌, ◌+◌, ◌<◌, ℕ, List, [], length, ◌↔◌, Option, None, Some, Result, Ok, Err, IfOk, IfSome, IfNone, IsSome, MatchResult, refl, sym, ap, ◌∙◌, subst, arith}
use Rattle.std.specs.List.{slice_get}
use Rattle.std.proofs.lemmas.List.{append-nil}
use Rattle.std.proofs.lemmas.Option.{slice_get_within}
use Rattle.gc_types.specs.declared.kind.Layouts.{Layouts}
use Rattle.gc_types.specs.Declarations.{Declaration}
use Rattle.gc_commands.specs.declared.command.Command.{Command}
use Rattle.gc_model.specs.Holds.{TypedBy}
use Rattle.gc_model.specs.Reach.{slot_references}
use Rattle.gc_model.specs.Stores.{StoreView}
use Rattle.gc_model.specs.Table.{Push, Table}
use Rattle.gc_model.specs.Accounts.{Account, HoldsAccount}
use Rattle.gc_model.proofs.HeldBlocks.{same_positions}
use Rattle.gc_paths.specs.Answers.{LacksRoots, held_count, present_count}
use Rattle.gc_image.specs.declared.image.GlobalLine.{GlobalLine}
use Rattle.gc_image.specs.declared.image.ObjectLine.{ObjectLine}
use Rattle.gc_image.specs.Images.{IsGlobal}
use Rattle.gc_image.specs.Well.{GlobalHolds}
use Rattle.gc_image.proofs.AlikeLemmas.{element_at}
use Rattle.gc_save_image.specs.Answers.{CollectsImage, LacksImageRoots, DropsImageRoots}
use Rattle.gc_save_image.specs.Collection.{IsCollection}
use Rattle.gc_save_image.specs.declared.collect.Collected.{Collected}
use Rattle.gc_image_write.specs.Order.{AreClosed, AreTangled, early_named}
use Rattle.gc_image_write.specs.Plain.{ArePlain}
use Rattle.gc_image_write.specs.TypeWords.{AreTypeCommands}
use Rattle.gc_save_image.specs.Renumbering.{IsWritten}
use Rattle.gc_save_image.specs.Saves.{IsTangled, RefusesSave, Saved, Unwritten}
use Rattle.gc_save_image.specs.declared.fault.SaveFault.{SaveFault}
use Rattle.gc_save_image.specs.declared.fault.SaveFault.TheVariants as fault
use Rattle.gc_save_image.proofs.Imaging.{holds_below, images_text, text_in_turn}
use Rattle.gc_save_image.proofs.Plainness.{plain_values}
use Rattle.gc_save_image.proofs.Tangles.{tangled, untangled}

-- no roots were pushed
pub none_pushed : (layouts : Layouts) (t : Table ℕ) (a : Account) (s : StoreView ℕ) → HoldsAccount layouts s t a → DropsImageRoots layouts t a s
none_pushed layouts t a s held = record {
  more = [];
  holds = subst (λ (ps : List Push). HoldsAccount layouts s (record t { pushes = ps }) a) (sym (append-nil t.pushes)) held;
}

module _ (t : Table ℕ) (typed : TypedBy t.types t.objects) (plain : ArePlain t.types) (collected : Collected) (collects : CollectsImage t collected) where
  abbrev collection : IsCollection t collected
  collection = collects.collection (plain_values t typed plain)

  -- what objects and globals name are objects
  pub closed : AreClosed collected.objects.items
  closed from index named line v at_line at_v names =
      let within = slice_get_within collected.objects.items from line at_line in
      let p = element_at collection.positions from (let same = collection.numbered in omega (arith, within, same)) in
      let small = (collection.objects from p.0 line p.1 at_line).named index named v at_v names in
      let same = collection.numbered in omega (arith, small, same)

  pub held : (number : ℕ) → GlobalHolds collected.globals.items number → number < length collected.objects.items
  held number is =
      let small = holds_below (length collection.positions) is.1.value (collection.well is.0 is.1 is.2.0).1 number is.2.1 in
      let same = collection.numbered in omega (arith, small, same)

  -- there is room, whatever numbers of roots are told
  pub has_room : ¬ LacksImageRoots t
  has_room full =
      let same : full.0 ≡ collects.count =
      full.1.0.count_is
      ∙ ap (λ n. present_count (slot_references t.globals) + n) (same_positions (λ p. held_count (slice_get t.objects p)) (IsGlobal t) full.1.0.reached collects.needs.reached full.1.0.are collects.needs.are)
      ∙ sym collects.needs.count_is in
      collects.room (subst (LacksRoots t) same full.1.1)

  pub saved : (commands : List Command) → AreTypeCommands t.types commands → (bytes : List ℕ) → IsWritten t.types commands collected.objects.items collected.globals.items bytes → Saved t bytes
  saved commands are bytes written =
      let text = images_text t collected collection typed commands are bytes written in
      record { images = text; in_turn = text_in_turn t collected collection typed commands are bytes written; plain = plain; room = has_room; apart = λ circle. untangled t text.image text.images circle }

  pub refused : AreTangled (early_named t.types collected.objects.items) → ArePlain t.types × (¬ LacksImageRoots t) × IsTangled t
  refused are = (plain, has_room, tangled t collected collection are)

-- why nothing was written is never that types aren't plain
not_plain_why : {A E : Type 0} (w : Result (Option A) E) → Unwritten w fault.NotPlain → ⊥
not_plain_why (Ok (Some x)) why = why
not_plain_why (Ok None) why = differ why
  where
    differ : fault.NotPlain ≡ fault.Tangled → ⊥
    differ e = cc e
not_plain_why (Err e) why = differ why
  where
    differ : fault.NotPlain ≡ fault.Memory → ⊥
    differ e = cc e

module _ {B E : Type 0} (r : Result B SaveFault) (w : Result (Option B) E) (told : MatchResult r (λ bytes. w ≡ Ok (Some bytes)) (Unwritten w)) where
  pub not_plain : r ≡ Err fault.NotPlain → ⊥
  not_plain is = not_plain_why w (subst (λ (x : Result B SaveFault). MatchResult x (λ bytes. w ≡ Ok (Some bytes)) (Unwritten w)) is told)

  -- what was written is what is answered
  answers : (t : Table ℕ) (Written Done : B → Type 0) (Tangle : Type 0) → IfOk w (λ found. IfSome found Written) → IfOk w (λ found. IfNone found Tangle)
      → ((bytes : B) → Written bytes → Done bytes) → (Tangle → ArePlain t.types × (¬ LacksImageRoots t) × IsTangled t) → MatchResult r Done (RefusesSave t)
  answers t Written Done Tangle some none done refuses = by r told
    where
      why_not : (why : SaveFault) (x : Result (Option B) E) → w ≡ x → Unwritten x why → RefusesSave t why
      why_not why (Ok (Some bytes)) is told = absurd told
      why_not why (Ok None) is told = subst (RefusesSave t) (sym told) (refuses (subst (λ (x : Result (Option B) E). IfOk x (λ found. IfNone found Tangle)) is none))
      why_not why (Err e) is told = subst (RefusesSave t) (sym told) tt

      by : (x : Result B SaveFault) → MatchResult x (λ bytes. w ≡ Ok (Some bytes)) (Unwritten w) → MatchResult x Done (RefusesSave t)
      by (Ok bytes) told = done bytes (subst (λ (x : Result (Option B) E). IfOk x (λ found. IfSome found Written)) told some)
      by (Err why) told = why_not why w refl told

  pub saves : (t : Table ℕ) → TypedBy t.types t.objects → ArePlain t.types → (collected : Collected) → CollectsImage t collected → (commands : List Command) → AreTypeCommands t.types commands
      → (types : List Declaration) → types ≡ t.types → (objects : List ObjectLine) → objects ≡ collected.objects.items → (globals : List GlobalLine) → globals ≡ collected.globals.items
      → (items : B → List ℕ) → IfOk w (λ found. IfSome found (λ bytes. IsWritten types commands objects globals (items bytes))) → IfOk w (λ found. IfNone found (AreTangled (early_named types objects)))
      → MatchResult r (λ bytes. Saved t (items bytes)) (RefusesSave t)
  saves t typed plain collected collects commands are types types_are objects objects_are globals globals_are items some none =
      answers t (λ bytes. IsWritten types commands objects globals (items bytes)) (λ bytes. Saved t (items bytes)) (AreTangled (early_named types objects)) some none
      (λ bytes written.
      saved t typed plain collected collects commands are (items bytes)
      (subst (λ ts. IsWritten ts commands collected.objects.items collected.globals.items (items bytes)) types_are
      (subst (λ os. IsWritten types commands os collected.globals.items (items bytes)) objects_are (subst (λ gs. IsWritten types commands objects gs (items bytes)) globals_are written))))
      (λ tangle.
      refused t typed plain collected collects
      (subst (λ ts. AreTangled (early_named ts collected.objects.items)) types_are (subst (λ os. AreTangled (early_named types os)) objects_are tangle)))

-- what is known of the types by the commands that declare them, or by that there are none
module _ {A : Type 0} (types types' : List Declaration) (same : types ≡ types') (found : Option A) (told : IsSome found ↔ ArePlain types) where
  pub are_plain : (x : A) → found ≡ Some x → ArePlain types'
  are_plain x is = subst ArePlain same (told.0 (subst IsSome (sym is) refl))

  pub are_not_plain : found ≡ None → ¬ ArePlain types'
  are_not_plain is plain = no_none (subst IsSome is (told.1 (subst ArePlain (sym same) plain)))
    where
      no_none : IsSome {T = A} None → ⊥
      no_none e = cc e
