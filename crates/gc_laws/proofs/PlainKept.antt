-- What plain commands keep: nothing is reached that wasn't before, and no root comes back that was gone.
use Rattle.std.proofs.Common.{◌≡◌, ◌==◌, ℕ, ◌-◌, ◌%◌, ◌^◌, ◌<◌, ◌≤◌, ◌⊎◌, inl, Bool, true, false, cond, not, List, [], ◌∷◌, Option, Some, None, length, length-append, replicate, refl, ap, ◌∙◌, subst, arith}
use Rattle.std.specs.List.{All, slice_get}
use Rattle.std.specs.Prelude.{slice_set, unwrap_or}
use Rattle.std.proofs.lemmas.List.Elements.{All-nil, All-head, All-tail, All-push, All-take, All-replicate, All-filter, All-map, All-weaker}
use Rattle.gc_types.specs.declared.value.FieldType.{FieldType}
use Rattle.gc_types.specs.declared.value.StorageType.{StorageType}
use Rattle.gc_types.specs.declared.value.StorageType.TheVariants as storage
use Rattle.gc_owner.specs.declared.entry.GcClass.TheVariants as class
use Rattle.gc_model.specs.Values.{Reference, null, small, at, Value, numeric, i32, i64, f32, f64, v128, function, continuation, Object}
use Rattle.gc_model.specs.Values as values
use Rattle.gc_model.specs.Table.{Table, Slot, Owned, null_slot, push, write, with_value}
use Rattle.gc_model.specs.Reach.{present, IsReached}
use Rattle.gc_model.specs.Live.{rooted_among}
use Rattle.gc_model.specs.Frames.{newest}
use Rattle.gc_model.specs.OwnedRoots as owned_roots
use Rattle.gc_model.specs.OwnedRoots.{owned_among, handles_changed}
use Rattle.gc_model.specs.Stored.{stored}
use Rattle.gc_model.proofs.Changes.{length-change_at}
use Rattle.gc_rooted.proofs.GoneRoots.{gone_push, gone_take, below_differs}
use Rattle.gc_commands.specs.declared.command.Command.{Command}
use Rattle.gc_commands.specs.declared.command.Command.TheVariants.{Bad, ReadBytes, I31, Field, Elem, Len, HostNumber, SetField, SetElem, Eq, Enter, Leave, Push, Pop, Store, Load, SetGlobal, GetGlobal, Own, Root, Unroot, Throw, Take}
use Rattle.gc_script.specs.State.{State, number, reference, HeldOwned, owned, unrooted, with_table}
use Rattle.gc_script.specs.Given.{given, given_register, given_value, Target, target, target_values, target_field}
use Rattle.gc_script.specs.Shapes as shapes
use Rattle.gc_script.specs.Shapes.{CommandShape, plain, shape, reads, value_in, kept_as, write_target, writes_value, slot_of, frame_value, global_value, owned_given_up, owned_named, throw_target, pending_value, takes_pending}
use Rattle.gc_laws.proofs.EachLemmas.{all_get, all_set, all_newest}
use Rattle.gc_laws.proofs.KnownReach.{Known, KnownValue, KnownSlot, KnownOwned, KnownRoot, KnownParts, Stays, known_null, known_small, one_known, null_known, own_stays, stays_reached, written_reached}
use Rattle.gc_laws.proofs.SoundRegisters.{SoundRegisters, Sound, KnownTarget, sound_later, sound_set, sound_put, target_values_known, register_known, operand_known, register_target}

-- an object that a step made
abbrev pub IsNew : Table ℕ → Table ℕ → ℕ → Type 0
IsNew t u q = (q ≡ length t.objects) × (q < length u.objects)

-- What a step keeps.
pub record Kept (s s' : State) : Type 0 where
  pub reached : (q : ℕ) → IsReached s'.table q → IsReached s.table q ⊎ IsNew s.table s'.table q
  pub grows : length s.table.objects ≤ length s'.table.objects
  pub pushes : length s.table.pushes ≤ length s'.table.pushes
  pub gone : (serial : ℕ) → serial < length s.table.pushes → rooted_among serial s.table.scoped ≡ None → rooted_among serial s'.table.scoped ≡ None
  pub sound : Sound s'

pub kept_same : (s : State) → Sound s → Kept s s
kept_same s sound = record { reached = λ q r. inl r; grows = omega arith; pushes = omega arith; gone = λ serial below none. none; sound = sound }

-- a table that has no other objects, and no other roots but such as name what was reached
record Rooted (t u : Table ℕ) : Type 0 where
  stays : Stays t u
  pushes : length t.pushes ≤ length u.pushes
  gone : (serial : ℕ) → serial < length t.pushes → rooted_among serial t.scoped ≡ None → rooted_among serial u.scoped ≡ None

own_rooted : (t : Table ℕ) → Rooted t t
own_rooted t = record { stays = own_stays t; pushes = omega arith; gone = λ serial below none. none }

kept_rooted : (s s' : State) → Rooted s.table s'.table → Sound s' → Kept s s'
kept_rooted s s' rooted sound = record {
  reached = λ q r. inl (stays_reached s.table s'.table rooted.stays q r);
  grows = let same : length s'.table.objects ≡ length s.table.objects = ap length rooted.stays.objects in omega arith;
  pushes = rooted.pushes;
  gone = rooted.gone;
  sound = sound;
}

push_rooted : (t u : Table ℕ) (r : Reference) → Rooted t u → Known t r → Rooted t (push r u)
push_rooted t u r rooted known = record {
  stays = record {
    parts = record {
      scoped = All-push (KnownRoot t) u.scoped (record { serial = length u.pushes; reference = r }) rooted.stays.parts.scoped known;
      frames = rooted.stays.parts.frames;
      globals = rooted.stays.parts.globals;
      owned = rooted.stays.parts.owned;
      pending = rooted.stays.parts.pending;
    };
    objects = rooted.stays.objects;
  };
  pushes = let more = length-append u.pushes ((record { index = length u.scoped; generation = u.drops }) ∷ []) in let before = rooted.pushes in omega arith;
  gone = λ serial below none. gone_push serial u.scoped (record { serial = length u.pushes; reference = r }) (below_differs serial (length u.pushes) (let before = rooted.pushes in omega arith)) (rooted.gone serial below none);
}

pushed_more : (u : Table ℕ) (r : Reference) → length u.pushes < length (push r u).pushes
pushed_more u r = let more = length-append u.pushes ((record { index = length u.scoped; generation = u.drops }) ∷ []) in omega arith

-- a value is read that names what was reached
reads_kept : (s t : State) (v : Value) (into : Option ℕ) → Rooted s.table t.table → SoundRegisters (length s.table.pushes) t.registers → KnownValue s.table v → Kept s (reads v into t).1
reads_kept s t (numeric kind n) into rooted sound known =
    kept_rooted s (reads (numeric kind n) into t).1 rooted (sound_put (length s.table.pushes) (length t.table.pushes) rooted.pushes t.registers sound into (Some (number (numeric kind n))) refl)
reads_kept s t (function f) into rooted sound known =
    kept_rooted s (reads (function f) into t).1 rooted (sound_put (length s.table.pushes) (length t.table.pushes) rooted.pushes t.registers sound into None tt)
reads_kept s t (continuation cont) into rooted sound known =
    kept_rooted s (reads (continuation cont) into t).1 rooted (sound_put (length s.table.pushes) (length t.table.pushes) rooted.pushes t.registers sound into None tt)
reads_kept s t (values.reference c null) into rooted sound known =
    kept_rooted s (reads (values.reference c null) into t).1 rooted (sound_put (length s.table.pushes) (length t.table.pushes) rooted.pushes t.registers sound into (Some (reference c None)) tt)
reads_kept s t (values.reference c (small n)) into rooted sound known =
    let more = pushed_more t.table (small n) in
    let pushed = push_rooted s.table t.table (small n) rooted (known_small s.table n) in
    kept_rooted s (reads (values.reference c (small n)) into t).1 pushed (sound_put (length s.table.pushes) (length (push (small n) t.table).pushes) pushed.pushes t.registers sound into (Some (reference c (Some (length t.table.pushes)))) more)
reads_kept s t (values.reference c (at p)) into rooted sound known =
    let more = pushed_more t.table (at p) in
    let pushed = push_rooted s.table t.table (at p) rooted (All-head (Known s.table) (at p) [] known) in
    kept_rooted s (reads (values.reference c (at p)) into t).1 pushed (sound_put (length s.table.pushes) (length (push (at p) t.table).pushes) pushed.pushes t.registers sound into (Some (reference c (Some (length t.table.pushes)))) more)

slot_known : (t : Table ℕ) (v : Value) → KnownValue t v → Known t (slot_of v).reference
slot_known t (numeric kind n) known = known_null t
slot_known t (function f) known = known_null t
slot_known t (continuation cont) known = known_null t
slot_known t (values.reference c r) known = All-head (Known t) r [] known

pending_known : (t : Table ℕ) (pending : Option Reference) → All (Known t) (present pending) → KnownValue t (pending_value pending)
pending_known t None known = null_known t class.Exn
pending_known t (Some r) known = known

given_up_known : (t : Table ℕ) (held : Option HeldOwned) (roots : List Owned) → All (KnownOwned t) roots → All (KnownOwned t) (owned_given_up held roots)
given_up_known t None roots all = all
given_up_known t (Some unrooted) roots all = all
given_up_known t (Some (owned c n)) roots all =
    All-filter (λ (root : Owned). not (root.handles == 0)) (KnownOwned t) (handles_changed n (λ m. m - 1) roots)
    (All-map (KnownOwned t) (λ (root : Owned). cond (root.number == n) (record root { handles = root.handles - 1 }) root) roots
    (All-weaker (KnownOwned t) (λ (root : Owned). KnownOwned t (cond (root.number == n) (record root { handles = root.handles - 1 }) root)) changed roots all))
  where
    changed : (root : Owned) → KnownOwned t root → KnownOwned t (cond (root.number == n) (record root { handles = root.handles - 1 }) root)
    changed root known = elim (root.number == n) as (λ (b : Bool). KnownOwned t (cond b (record root { handles = root.handles - 1 }) root)) [ true ↦ known | false ↦ known ]

owned_among_known : (t : Table ℕ) (n : ℕ) (roots : List Owned) → All (KnownOwned t) roots → Known t (unwrap_or (owned_among n roots) null)
owned_among_known t n [] all = known_null t
owned_among_known t n (root ∷ roots) all =
    elim (root.number == n) as (λ (b : Bool). Known t (unwrap_or (cond b (Some root.reference) (owned_among n roots)) null)) [
      | true ↦ All-head (KnownOwned t) root roots all
      | false ↦ owned_among_known t n roots (All-tail (KnownOwned t) root roots all)
    ]

owned_named_known : (t : Table ℕ) (roots : List Owned) (held : Option HeldOwned) → All (KnownOwned t) roots → Known t (unwrap_or (owned_named roots held) null)
owned_named_known t roots None all = known_null t
owned_named_known t roots (Some unrooted) all = known_null t
owned_named_known t roots (Some (owned c n)) all = owned_among_known t n roots all

-- what a field keeps of a value names what the value does
pub stored_known : (t : Table ℕ) (ty : StorageType) (v : Value) → KnownValue t v → KnownValue t (stored ty v)
stored_known t storage.I8 (numeric i32 n) known = known
stored_known t storage.I16 (numeric i32 n) known = known
stored_known t ty v known = known

kept_as_known : (t : Table ℕ) (field : Option FieldType) (v : Value) → KnownValue t v → KnownValue t (kept_as field v)
kept_as_known t None v known = known
kept_as_known t (Some f) v known = stored_known t f.element_type v known

module _ (s : State) (sound : Sound s) where
  own : KnownParts s.table s.table
  own = (own_stays s.table).parts

  parts_of : (u : Table ℕ) → All (KnownRoot s.table) u.scoped → All (λ (slots : List Slot). All (KnownSlot s.table) slots) u.frames → All (KnownSlot s.table) u.globals → All (KnownOwned s.table) u.owned → All (Known s.table) (present u.pending) → KnownParts s.table u
  parts_of u scoped frames globals roots pending = record { scoped = scoped; frames = frames; globals = globals; owned = roots; pending = pending }

  slot_set : (slot : Slot) (k : ℕ) → Known s.table slot.reference → All (λ (slots : List Slot). All (KnownSlot s.table) slots) (slice_set s.table.frames (length s.table.frames - 1) (slice_set (newest s.table.frames) k slot))
  slot_set slot k known =
      all_set (λ (slots : List Slot). All (KnownSlot s.table) slots) s.table.frames (length s.table.frames - 1) (slice_set (newest s.table.frames) k slot) own.frames
      (all_set (KnownSlot s.table) (newest s.table.frames) k slot (all_newest (KnownSlot s.table) s.table.frames own.frames) known)

  -- other frames, globals, owned roots or another pending exception
  with_parts : (u : State) → KnownParts s.table u.table → u.table.objects ≡ s.table.objects → u.table.pushes ≡ s.table.pushes → u.table.scoped ≡ s.table.scoped → SoundRegisters (length s.table.pushes) u.registers → Kept s u
  with_parts u parts objects pushes scoped registers =
      let same : length u.table.pushes ≡ length s.table.pushes = ap length pushes in
      kept_rooted s u (record {
        stays = record { parts = parts; objects = objects };
        pushes = omega arith;
        gone = λ serial below none. ap (rooted_among serial) scoped ∙ none;
      }) (λ r. sound_later (length s.table.pushes) (length u.table.pushes) (omega arith) (u.registers r) (registers r))

  thrown_kept : (found : Option Target) → KnownTarget s.table found → Kept s (with_table (throw_target found s.table) s)
  thrown_kept None known = kept_same s sound
  thrown_kept (Some found) known =
      with_parts (with_table (throw_target (Some found) s.table) s)
      (parts_of _ own.scoped own.frames own.globals own.owned (one_known s.table (at found.position) (λ q e. subst (IsReached s.table) (grind (arith, e)) known.0)))
      refl refl refl sound

  written_kept : (found : Option Target) (i : ℕ) (v : Value) → KnownValue s.table v → Kept s (with_table (write_target found i v s.table) s)
  written_kept None i v known = kept_same s sound
  written_kept (Some found) i v known = record {
    reached = λ q r. inl (written_reached s.table (write found.position i v s.table) found.position i v known refl refl q r);
    grows = let same = length-change_at found.position (with_value i v) s.table.objects in omega arith;
    pushes = omega arith;
    gone = λ serial below none. none;
    sound = sound;
  }

  -- what a plain command keeps; nothing is said of another
  abbrev KeptBy : CommandShape → Type 0
  KeptBy (plain effect) = Kept s (effect s).1
  KeptBy _ = Unit {0}

  pub plain_kept : (c : Command) → KeptBy (shape c)
  plain_kept (I31 d n) =
      let r = small (n % 2 ^ 31) in
      let more = pushed_more s.table r in
      kept_rooted s (shapes.makes_small d n s).1 (push_rooted s.table s.table r (own_rooted s.table) (known_small s.table (n % 2 ^ 31)))
      (sound_set (length s.table.pushes) (length (push r s.table).pushes) (omega arith) s.registers sound d (reference class.Any (Some (length s.table.pushes))) more)
  plain_kept (Field r i into) = reads_kept s s (value_in s r i) into (own_rooted s.table) sound (all_get (KnownValue s.table) (target_values (target s r)) i (values.reference class.Any null) (target_values_known s.table (target s r) (register_target s sound r)) (null_known s.table class.Any))
  plain_kept (Elem r i into) = reads_kept s s (value_in s r i) into (own_rooted s.table) sound (all_get (KnownValue s.table) (target_values (target s r)) i (values.reference class.Any null) (target_values_known s.table (target s r) (register_target s sound r)) (null_known s.table class.Any))
  plain_kept (SetField r i v) = written_kept (target s r) i (kept_as (target_field s.table (target s r) i) (given_value (given s v))) (kept_as_known s.table (target_field s.table (target s r) i) (given_value (given s v)) (operand_known s sound v))
  plain_kept (SetElem r i v) = written_kept (target s r) i (kept_as (target_field s.table (target s r) i) (given_value (given s v))) (kept_as_known s.table (target_field s.table (target s r) i) (given_value (given s v)) (operand_known s sound v))
  plain_kept Leave = kept_rooted s (shapes.leaves s).1 (record {
    stays = record { parts = parts_of _ (All-take (KnownRoot s.table) (shapes.newest_mark s.marks) s.table.scoped own.scoped) own.frames own.globals own.owned own.pending; objects = refl };
    pushes = omega arith;
    gone = λ serial below none. gone_take serial (shapes.newest_mark s.marks) s.table.scoped none;
  }) sound
  plain_kept (Push k) = with_parts (shapes.opens_frame k s).1
      (parts_of _ own.scoped (All-push (λ (slots : List Slot). All (KnownSlot s.table) slots) s.table.frames (replicate k null_slot) own.frames (All-replicate (KnownSlot s.table) k null_slot (known_null s.table))) own.globals own.owned own.pending)
      refl refl refl sound
  plain_kept Pop = with_parts (shapes.closes_frame s).1
      (parts_of _ own.scoped (All-take (λ (slots : List Slot). All (KnownSlot s.table) slots) (length s.table.frames - 1) s.table.frames own.frames) own.globals own.owned own.pending)
      refl refl refl sound
  plain_kept (Store k r) =
      let slot = slot_of (given_value (given_register s r)) in
      with_parts (shapes.sets_slot k r s).1 (parts_of _ own.scoped (slot_set (record { class = slot.class; reference = slot.reference }) k (slot_known s.table (given_value (given_register s r)) (register_known s sound r))) own.globals own.owned own.pending) refl refl refl sound
  plain_kept (Load k d) =
      let slot : Known s.table (unwrap_or (slice_get (newest s.table.frames) k) null_slot).reference = all_get (KnownSlot s.table) (newest s.table.frames) k null_slot (all_newest (KnownSlot s.table) s.table.frames own.frames) (known_null s.table) in
      reads_kept s s (frame_value s k) (Some d) (own_rooted s.table) sound (one_known s.table _ slot)
  plain_kept (SetGlobal g r) =
      let slot = slot_of (given_value (given_register s r)) in
      with_parts (shapes.sets_global g r s).1 (parts_of _ own.scoped own.frames (all_set (KnownSlot s.table) s.table.globals g (record { class = slot.class; reference = slot.reference }) own.globals (slot_known s.table (given_value (given_register s r)) (register_known s sound r))) own.owned own.pending) refl refl refl sound
  plain_kept (GetGlobal g d) =
      let slot : Known s.table (unwrap_or (slice_get s.table.globals g) null_slot).reference = all_get (KnownSlot s.table) s.table.globals g null_slot own.globals (known_null s.table) in
      reads_kept s s (global_value s g) (Some d) (own_rooted s.table) sound (one_known s.table _ slot)
  plain_kept (Own o r) =
      let slot = slot_of (given_value (given_register s r)) in
      with_parts (shapes.owns o r s).1
      (parts_of _ own.scoped own.frames own.globals (given_up_known s.table (s.owned_registers o) (owned_roots.own slot.reference s.table).owned
      (All-push (KnownOwned s.table) s.table.owned (record { number = s.table.owns; reference = slot.reference; handles = 1 }) own.owned (slot_known s.table (given_value (given_register s r)) (register_known s sound r)))) own.pending)
      refl refl refl sound
  plain_kept (Root d o) =
      let r = unwrap_or (owned_named s.table.owned (s.owned_registers o)) null in
      let more = pushed_more s.table r in
      kept_rooted s (shapes.roots d o s).1 (push_rooted s.table s.table r (own_rooted s.table) (owned_named_known s.table s.table.owned (s.owned_registers o) own.owned))
      (sound_set (length s.table.pushes) (length (push r s.table).pushes) (omega arith) s.registers sound d (reference (shapes.owned_class (s.owned_registers o)) (Some (length s.table.pushes))) more)
  plain_kept (Unroot o) = with_parts (shapes.unroots o s).1 (parts_of _ own.scoped own.frames own.globals (given_up_known s.table (s.owned_registers o) s.table.owned own.owned) own.pending) refl refl refl sound
  plain_kept (Throw r) = thrown_kept (target s r) (register_target s sound r)
  plain_kept (Take d) =
      reads_kept s (with_table (record s.table { pending = None }) s) (pending_value s.table.pending) (Some d)
      (record { stays = record { parts = parts_of _ own.scoped own.frames own.globals own.owned (All-nil (Known s.table)); objects = refl }; pushes = omega arith; gone = λ serial below none. none }) sound
      (pending_known s.table s.table.pending own.pending)
  plain_kept (ReadBytes r n) = kept_same s sound
  plain_kept (Len r) = kept_same s sound
  plain_kept (HostNumber r) = kept_same s sound
  plain_kept (Eq r q) = kept_same s sound
  plain_kept Enter = with_parts (shapes.enters s).1 (parts_of _ own.scoped own.frames own.globals own.owned own.pending) refl refl refl sound
  plain_kept Bad = kept_same s sound
  plain_kept _ = tt
