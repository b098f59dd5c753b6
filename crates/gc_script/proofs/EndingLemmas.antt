-- Commands that tell nothing, and how they end.
use Rattle.std.proofs.Common.{◌≡◌, ℕ, true, false, List, refl}
use Rattle.std.specs.Prelude.{Result, Ok, Err, OnErr}
use Rattle.gc_commands.specs.declared.command.Command.{Command}
use Rattle.gc_commands.specs.declared.command.Command.TheVariants.{Bad, Struct, Array, Exn, New, NewExn, NewArr, Fixed, NewBytes, ReadBytes, Host, I31, Field, Elem, Len, HostNumber, SetField, SetElem, Eq, Enter, Leave, Push, Pop, Store, Load, SetGlobal, GetGlobal, Own, Root, Unroot, Throw, Take, Gc, GcDrop, GcInc, Grow, Cap}
use Rattle.gc_commands.specs.declared.command.Operand.{Operand}
use Rattle.gc_commands.specs.declared.reply.Refusal.{Refusal}
use Rattle.gc_script.specs.Built.{is_built}
use Rattle.gc_script.specs.Endings.{answer_of, ended, ending_of, is_quiet}
use Rattle.gc_script.specs.Run.{asks_nothing}
use Rattle.gc_script.specs.Shapes.{is_collection}

-- what takes no memory is answered by its reply
pub answer_ended : (r : Result (Unit {0}) Refusal) → answer_of (ending_of r) ≡ Ok (ended r)
answer_ended (Ok done) = refl
answer_ended (Err why) = refl

-- and never wants any
pub never_wants : (P : Type 0) (r : Result (Unit {0}) Refusal) → OnErr (answer_of (ending_of r)) P
never_wants P (Ok done) = tt
never_wants P (Err why) = tt

-- a command that tells nothing collects nothing
pub quiet_collects : (c : Command) → is_quiet c ≡ true → is_collection c ≡ true → ⊥
quiet_collects Gc quiet is = cc quiet
quiet_collects GcInc quiet is = cc quiet
quiet_collects GcDrop quiet is = cc quiet
quiet_collects c quiet is = cc is

-- it makes, grows or asks nothing
pub quiet_asks : (c : Command) → is_quiet c ≡ true → ((d t : ℕ) (vs : List Operand) → ¬ (c ≡ New d t vs)) → ((d t tag : ℕ) (vs : List Operand) → ¬ (c ≡ NewExn d t tag vs)) → ((d t n : ℕ) (v : Operand) → ¬ (c ≡ NewArr d t n v))
    → ((d t : ℕ) (vs : List Operand) → ¬ (c ≡ Fixed d t vs)) → ((d t : ℕ) (bytes : List ℕ) → ¬ (c ≡ NewBytes d t bytes)) → ((d n : ℕ) → ¬ (c ≡ Host d n)) → ((n : ℕ) → ¬ (c ≡ Grow n)) → asks_nothing c ≡ true
quiet_asks (New d t vs) quiet s e a f b h w = absurd (s d t vs refl)
quiet_asks (NewExn d t tag vs) quiet s e a f b h w = absurd (e d t tag vs refl)
quiet_asks (NewArr d t n v) quiet s e a f b h w = absurd (a d t n v refl)
quiet_asks (Fixed d t vs) quiet s e a f b h w = absurd (f d t vs refl)
quiet_asks (NewBytes d t bytes) quiet s e a f b h w = absurd (b d t bytes refl)
quiet_asks (Host d n) quiet s e a f b h w = absurd (h d n refl)
quiet_asks (Grow n) quiet s e a f b h w = absurd (w n refl)
quiet_asks (I31 d n) quiet s e a f b h w = refl
quiet_asks (SetField r i v) quiet s e a f b h w = refl
quiet_asks (SetElem r i v) quiet s e a f b h w = refl
quiet_asks Enter quiet s e a f b h w = refl
quiet_asks Leave quiet s e a f b h w = refl
quiet_asks (Push k) quiet s e a f b h w = refl
quiet_asks Pop quiet s e a f b h w = refl
quiet_asks (Store k r) quiet s e a f b h w = refl
quiet_asks (SetGlobal k r) quiet s e a f b h w = refl
quiet_asks (Own o r) quiet s e a f b h w = refl
quiet_asks (Root d o) quiet s e a f b h w = refl
quiet_asks (Unroot o) quiet s e a f b h w = refl
quiet_asks (Throw r) quiet s e a f b h w = refl
quiet_asks c quiet s e a f b h w = absurd (cc quiet)

-- one that tells something collects, or asks nothing
pub telling_asks : (c : Command) → is_built c ≡ true → is_quiet c ≡ false → ¬ (c ≡ Gc) → ¬ (c ≡ GcInc) → ¬ (c ≡ GcDrop) → asks_nothing c ≡ true
telling_asks Bad built telling g m w = absurd (cc built)
telling_asks (Struct is_final supertype fs) built telling g m w = refl
telling_asks (Array is_final supertype element) built telling g m w = refl
telling_asks (Exn params) built telling g m w = refl
telling_asks (ReadBytes r n) built telling g m w = refl
telling_asks (Field r i into) built telling g m w = refl
telling_asks (Elem r i into) built telling g m w = refl
telling_asks (Len r) built telling g m w = refl
telling_asks (HostNumber r) built telling g m w = refl
telling_asks (Eq r q) built telling g m w = refl
telling_asks (Load k d) built telling g m w = refl
telling_asks (GetGlobal k d) built telling g m w = refl
telling_asks (Take d) built telling g m w = refl
telling_asks Gc built telling g m w = absurd (g refl)
telling_asks GcInc built telling g m w = absurd (m refl)
telling_asks GcDrop built telling g m w = absurd (w refl)
telling_asks Cap built telling g m w = refl
telling_asks c built telling g m w = absurd (cc telling)
