-- What commands do, and the shapes in which they do it.
use Rattle.std.specs.Prelude.{ℕ, ◌-◌, ◌%◌, ◌^◌, Bool, true, false, List, [], ◌∷◌, ◌++◌, Option, Some, None, map, length, get_or, take, replicate, slice_get, unwrap_or}
use Rattle.std.specs.Int.{w32, w64, cast_signed}
use Rattle.gc_types.specs.declared.value.FieldType.{FieldType}
use Rattle.gc_types.specs.Declarations.{Declaration}
use Rattle.gc_owner.specs.declared.entry.GcClass.{GcClass}
use Rattle.gc_owner.specs.declared.entry.GcClass.TheVariants as class
use Rattle.gc_model.specs.Values.{Reference, null, small, at, Value, numeric, i32, i64, f32, f64, v128, function, continuation, Object, struct, array, host, exception}
use Rattle.gc_model.specs.Values as values
use Rattle.gc_model.specs.Table.{Table, Slot, Owned, null_slot, push, leave, write}
use Rattle.gc_model.specs.OwnedRoots.{own, owned_among, handles_changed, handled_roots}
use Rattle.gc_model.specs.Frames.{push_frame, pop_frame, set_slot, slot_at}
use Rattle.gc_model.specs.Globals.{set_global, global_at}
use Rattle.gc_model.specs.Pending.{set_pending, take_pending}
use Rattle.gc_model.specs.Reads.{after_read, host_value, same_reference}
use Rattle.gc_commands.specs.declared.command.Command.{Command}
use Rattle.gc_commands.specs.declared.command.Command.TheVariants.{Struct, Array, Exn, New, NewExn, NewArr, Fixed, NewBytes, ReadBytes, Host, I31, Field, Elem, Len, HostNumber, SetField, SetElem, Eq, Enter, Leave, Push, Pop, Store, Load, SetGlobal, GetGlobal, Own, Root, Unroot, Throw, Take, Gc, GcInc, GcDrop, Grow, Cap}
use Rattle.gc_commands.specs.declared.command.Operand.{Operand}
use Rattle.gc_commands.specs.declared.reply.Reply.{Reply}
use Rattle.gc_commands.specs.declared.reply.Reply.TheVariants as reply
use Rattle.gc_commands.specs.declared.reply.ReplyValue.{ReplyValue}
use Rattle.gc_commands.specs.declared.reply.ReplyValue.TheVariants as reply_value
use Rattle.gc_commands.specs.declared.reply.Refusal.TheVariants as refusal
use Rattle.gc_model.specs.Stored.{stored, stored_in, byte_value}
use Rattle.gc_store.specs.Slots.{slot_value}
use Rattle.gc_store.specs.Requests.{struct_fields_of, exn_fields_of, element_of}
use Rattle.gc_script.specs.State.{State, Held, number, reference, HeldOwned, owned, unrooted, with_table, with_marks, set_register, set_owned, put_into}
use Rattle.gc_commands.specs.TypeWords.{declared_struct, declared_array, declared_exception}
use Rattle.gc_script.specs.Given.{given, given_register, given_value, given_values, named, Target, target, target_values, target_field}

-- the objects that `new`, `newexn`, `newarr`, `fixed`, `bytes` and `host` make
abbrev pub given_struct : State → ℕ → List Operand → Object ℕ
given_struct s t vs = struct t (stored_in (struct_fields_of s.table.types t) (given_values s vs))

abbrev pub new_exception : State → ℕ → ℕ → List Operand → Object ℕ
new_exception s t tag vs = exception t (record { instance = 0; index = tag }) (stored_in (exn_fields_of s.table.types t) (given_values s vs))

abbrev pub filled_array : State → ℕ → ℕ → Operand → Object ℕ
filled_array s t n v = array t (replicate n (stored (element_of s.table.types t) (given_value (given s v))))

abbrev pub new_fixed : State → ℕ → List Operand → Object ℕ
new_fixed s t vs = array t (map (stored (element_of s.table.types t)) (given_values s vs))

abbrev pub new_bytes : ℕ → List ℕ → Object ℕ
new_bytes t bytes = array t (map byte_value bytes)

abbrev pub new_host : ℕ → Object ℕ
new_host n = host n

abbrev pub shown_object : Option (Object ℕ) → ReplyValue
shown_object None = reply_value.Null
shown_object (Some (struct ty vs)) = reply_value.Struct ty
shown_object (Some (array ty vs)) = reply_value.Array ty
shown_object (Some (host v)) = reply_value.Host
shown_object (Some (exception ty tag vs)) = reply_value.Exn ty tag.index

-- a value as a reply shows it
abbrev pub shown_among : List (Object ℕ) → Value → ReplyValue
shown_among objects (numeric i32 n) = reply_value.I32 (cast_signed w32 n)
shown_among objects (numeric i64 n) = reply_value.I64 (cast_signed w64 n)
shown_among objects (numeric f32 n) = reply_value.F32 n
shown_among objects (numeric f64 n) = reply_value.F64 n
shown_among objects (numeric v128 n) = reply_value.V128 n
shown_among objects (function f) = reply_value.Opaque
shown_among objects (continuation c) = reply_value.Opaque
shown_among objects (values.reference c null) = reply_value.Null
shown_among objects (values.reference c (small n)) = reply_value.I31 n
shown_among objects (values.reference c (at p)) = shown_object (slice_get objects p)

abbrev pub shown_value : Table ℕ → Value → ReplyValue
shown_value t v = shown_among t.objects v

-- What a register holds of a value that was read: a reference by its new root, whose serial is the next one. None holds a
-- function or a continuation, or the values that are none.
abbrev pub held_next : ℕ → Value → Option Held
held_next serial (numeric kind n) = Some (number (numeric kind n))
held_next serial (function f) = None
held_next serial (continuation c) = None
held_next serial (values.reference c null) = Some (reference c None)
held_next serial (values.reference c (small n)) = Some (reference c (Some serial))
held_next serial (values.reference c (at p)) = Some (reference c (Some serial))

abbrev pub held_value : Table ℕ → Value → Option Held
held_value t v = held_next (length t.pushes) v

-- What plain commands answer and leave of a state as it is seen. Their tests come first; where these exclude a case, it
-- has a default.

-- a 31-bit number is made, and put into a register
abbrev pub makes_small : ℕ → ℕ → State → Reply × State
makes_small d n s = (reply.Done, set_register d (reference class.Any (Some (length s.table.pushes))) (with_table (push (small (n % 2 ^ 31)) s.table) s))

-- a value is read, and put into a register where one is named that may hold it
abbrev pub reads : Value → Option ℕ → State → Reply × State
reads v into s = (reply.Value (shown_value s.table v), put_into into (held_value s.table v) (with_table (after_read v s.table) s))

-- the value at an index of what a register names: of a field, or of an element
abbrev pub value_in : State → ℕ → ℕ → Value
value_in s r i = unwrap_or (slice_get (target_values (target s r)) i) (values.reference class.Any null)

abbrev pub reads_value : ℕ → ℕ → Option ℕ → State → Reply × State
reads_value r i into s = reads (value_in s r i) into s

-- a value of an object is written, as its type keeps it
abbrev pub kept_as : Option FieldType → Value → Value
kept_as None v = v
kept_as (Some f) v = stored f.element_type v

abbrev pub write_target : Option Target → ℕ → Value → Table ℕ → Table ℕ
write_target None i v t = t
write_target (Some found) i v t = write found.position i v t

abbrev pub writes_value : ℕ → ℕ → Operand → State → Reply × State
writes_value r i v s =
    (reply.Done, with_table (write_target (target s r) i (kept_as (target_field s.table (target s r) i) (given_value (given s v))) s.table) s)

-- the length of an array is told
abbrev pub tells_length : ℕ → State → Reply × State
tells_length r s = (reply.Length (length (target_values (target s r))), s)

-- the number of a host object is told
abbrev pub host_number : Option Target → ℕ
host_number None = 0
host_number (Some found) = unwrap_or (host_value found.object) 0

abbrev pub tells_host : ℕ → State → Reply × State
tells_host r s = (reply.HostNumber (host_number (target s r)), s)

-- the bytes of an array are told
abbrev pub byte_of : Value → ℕ
byte_of (numeric kind n) = n
byte_of (function f) = 0
byte_of (continuation c) = 0
byte_of (values.reference c r) = 0

abbrev pub tells_bytes : ℕ → State → Reply × State
tells_bytes r s = (reply.Bytes (map byte_of (target_values (target s r))), s)

-- what two registers name is compared
abbrev pub compares : ℕ → ℕ → State → Reply × State
compares r q s = (reply.Same (same_reference (unwrap_or (named s r) null) (unwrap_or (named s q) null)), s)

-- a scope is entered
abbrev pub enters : State → Reply × State
enters s = (reply.Done, with_marks (s.marks ++ length s.table.scoped ∷ []) s)

-- the newest scope mark, and those before it
abbrev pub newest_mark : List ℕ → ℕ
newest_mark marks = get_or marks (length marks - 1) 0

abbrev pub older : List ℕ → List ℕ
older marks = take (length marks - 1) marks

-- the newest scope is left
abbrev pub leaves : State → Reply × State
leaves s = (reply.Done, with_marks (older s.marks) (with_table (leave (newest_mark s.marks) s.table) s))

-- the slot that a reference is put into
abbrev pub slot_of : Value → Slot
slot_of (numeric kind n) = null_slot
slot_of (function f) = null_slot
slot_of (continuation c) = null_slot
slot_of (values.reference c r) = record { class = c; reference = r }

-- a frame is opened, and the newest is closed
abbrev pub opens_frame : ℕ → State → Reply × State
opens_frame k s = (reply.Done, with_table (push_frame k s.table) s)

abbrev pub closes_frame : State → Reply × State
closes_frame s = (reply.Done, with_table (pop_frame s.table) s)

-- a slot of the newest frame is set to what a register gives
abbrev pub slot_to : ℕ → Slot → Table ℕ → Table ℕ
slot_to k slot t = set_slot k slot.class slot.reference t

abbrev pub sets_slot : ℕ → ℕ → State → Reply × State
sets_slot k r s = (reply.Done, with_table (slot_to k (slot_of (given_value (given_register s r))) s.table) s)

-- what a slot of the newest frame holds, which is read into a register
abbrev pub frame_value : State → ℕ → Value
frame_value s k = slot_value (unwrap_or (slot_at s.table k) null_slot)

abbrev pub gets_slot : ℕ → ℕ → State → Reply × State
gets_slot k d s = reads (frame_value s k) (Some d) s

-- a global is set to what a register gives
abbrev pub set_to : ℕ → Slot → Table ℕ → Table ℕ
set_to g slot t = set_global g slot.class slot.reference t

abbrev pub sets_global : ℕ → ℕ → State → Reply × State
sets_global g r s = (reply.Done, with_table (set_to g (slot_of (given_value (given_register s r))) s.table) s)

-- what a global holds, which is read into a register
abbrev pub global_value : State → ℕ → Value
global_value s g = slot_value (unwrap_or (global_at s.table g) null_slot)

abbrev pub gets_global : ℕ → ℕ → State → Reply × State
gets_global g d s = reads (global_value s g) (Some d) s

-- owned roots of which one lost the handle that an owned register held, where it held one
abbrev pub owned_given_up : Option HeldOwned → List Owned → List Owned
owned_given_up None roots = roots
owned_given_up (Some unrooted) roots = roots
owned_given_up (Some (owned c n)) roots = handled_roots (handles_changed n (λ m. m - 1) roots)

abbrev pub give_up : Option HeldOwned → Table ℕ → Table ℕ
give_up held t = record t { owned = owned_given_up held t.owned }

-- an owned root is made for what a register gives, and goes into an owned register; what that held is given up then
abbrev pub owns_as : ℕ → Slot → State → State
owns_as o slot s = set_owned o (owned slot.class s.table.owns) (with_table (give_up (s.owned_registers o) (own slot.reference s.table)) s)

abbrev pub owns : ℕ → ℕ → State → Reply × State
owns o r s = (reply.Done, owns_as o (slot_of (given_value (given_register s r))) s)

-- what an owned register names, of these owned roots
abbrev pub owned_named : List Owned → Option HeldOwned → Option Reference
owned_named roots None = None
owned_named roots (Some unrooted) = None
owned_named roots (Some (owned c n)) = owned_among n roots

abbrev pub owned_class : Option HeldOwned → GcClass
owned_class None = class.Any
owned_class (Some unrooted) = class.Any
owned_class (Some (owned c n)) = c

-- what an owned register names gets a scoped root, which goes into a register
abbrev pub roots_as : ℕ → GcClass → Reference → State → State
roots_as d c r s = set_register d (reference c (Some (length s.table.pushes))) (with_table (push r s.table) s)

abbrev pub roots : ℕ → ℕ → State → Reply × State
roots d o s = (reply.Done, roots_as d (owned_class (s.owned_registers o)) (unwrap_or (owned_named s.table.owned (s.owned_registers o)) null) s)

-- what an owned register names is given up
abbrev pub unroots : ℕ → State → Reply × State
unroots o s = (reply.Done, set_owned o unrooted (with_table (give_up (s.owned_registers o) s.table) s))

-- The exception that a register names is thrown: it is pending, and the reply says that it was thrown. No other refusal
-- changes anything.
abbrev pub throw_target : Option Target → Table ℕ → Table ℕ
throw_target None t = t
throw_target (Some found) t = set_pending (at found.position) t

abbrev pub throws : ℕ → State → Reply × State
throws r s = (reply.Refused refusal.ThrownException, with_table (throw_target (target s r) s.table) s)

-- the pending exception as a value; null of its class where none is pending
abbrev pub pending_value : Option Reference → Value
pending_value None = values.reference class.Exn null
pending_value (Some r) = values.reference class.Exn r

-- the pending exception is read into a register, and none is pending any more
abbrev pub takes_pending : ℕ → State → Reply × State
takes_pending d s = reads (pending_value s.table.pending) (Some d) (with_table (take_pending s.table) s)

-- what a collection tells: how many objects the heap holds then, or how many increments it took
pub data ToldCount : Type 0 where
  of_objects : ToldCount
  of_increments : ToldCount

-- What a command does, in so far as heap and limiter have to do with it:
-- `plain` answers and leaves what the function says of what is visible of the state, and nothing hidden changes;
-- `declaring` declares the type that the declared types make of it, where they make one;
-- `making` makes an object, told by what is visible, and puts it into a register with a class;
-- `growing` lets the heap grow by so many bytes;
-- `collecting` collects, and tells one thing or the other of it;
-- `showing` tells the heap's pages.
pub data CommandShape : Type 0 where
  plain : (State → Reply × State) → CommandShape
  declaring : (List Declaration → Option Declaration) → CommandShape
  making : ℕ → GcClass → (State → Object ℕ) → CommandShape
  growing : ℕ → CommandShape
  collecting : ToldCount → CommandShape
  showing : CommandShape

-- the shape of a command; one that is not built is never run
abbrev pub shape : Command → CommandShape
shape (Struct is_final supertype fs) = declaring (declared_struct is_final supertype fs)
shape (Array is_final supertype element) = declaring (declared_array is_final supertype element)
shape (Exn params) = declaring (declared_exception params)
shape (New d t vs) = making d class.Any (λ (s : State). given_struct s t vs)
shape (NewExn d t tag vs) = making d class.Exn (λ (s : State). new_exception s t tag vs)
shape (NewArr d t n v) = making d class.Any (λ (s : State). filled_array s t n v)
shape (Fixed d t vs) = making d class.Any (λ (s : State). new_fixed s t vs)
shape (NewBytes d t bytes) = making d class.Any (λ (s : State). new_bytes t bytes)
shape (ReadBytes r n) = plain (tells_bytes r)
shape (Host d n) = making d class.Extern (λ (s : State). new_host n)
shape (I31 d n) = plain (makes_small d n)
shape (Field r i into) = plain (reads_value r i into)
shape (Elem r i into) = plain (reads_value r i into)
shape (Len r) = plain (tells_length r)
shape (HostNumber r) = plain (tells_host r)
shape (SetField r i v) = plain (writes_value r i v)
shape (SetElem r i v) = plain (writes_value r i v)
shape (Eq r q) = plain (compares r q)
shape Enter = plain enters
shape Leave = plain leaves
shape (Push k) = plain (opens_frame k)
shape Pop = plain closes_frame
shape (Store k r) = plain (sets_slot k r)
shape (Load k d) = plain (gets_slot k d)
shape (SetGlobal g r) = plain (sets_global g r)
shape (GetGlobal g d) = plain (gets_global g d)
shape (Own o r) = plain (owns o r)
shape (Root d o) = plain (roots d o)
shape (Unroot o) = plain (unroots o)
shape (Throw r) = plain (throws r)
shape (Take d) = plain (takes_pending d)
shape Gc = collecting of_objects
shape GcDrop = collecting of_objects
shape GcInc = collecting of_increments
shape (Grow n) = growing n
shape Cap = showing
shape _ = plain (λ (s : State). (reply.Refused refusal.BadLine, s))

-- whether a command of a shape collects
abbrev pub shape_collects : CommandShape → Bool
shape_collects (collecting told) = true
shape_collects _ = false

abbrev pub is_collection : Command → Bool
is_collection c = shape_collects (shape c)

-- whether it asks nothing of a limiter and leaves the heap's account
abbrev pub shape_asks_nothing : CommandShape → Bool
shape_asks_nothing (plain effect) = true
shape_asks_nothing (declaring d) = true
shape_asks_nothing showing = true
shape_asks_nothing _ = false
