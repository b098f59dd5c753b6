-- How a reply is written.
use Rattle.std.specs.Prelude.{ℕ, Bool, true, false, List, ◌∷◌, ◌++◌, codes}
use Rattle.std.specs.Fmt.{decimal, signed_decimal}
use Rattle.gc_commands.specs.declared.reply.Reply.{Reply}
use Rattle.gc_commands.specs.declared.reply.Reply.TheVariants as reply
use Rattle.gc_commands.specs.declared.reply.ReplyValue.{ReplyValue}
use Rattle.gc_commands.specs.declared.reply.ReplyValue.TheVariants as value
use Rattle.gc_commands.specs.declared.reply.Refusal.{Refusal}
use Rattle.gc_commands.specs.declared.reply.Refusal.TheVariants as refusal
use Rattle.gc_commands.specs.Words.{bytes_text, hex_digits}

abbrev pub refusal_text : Refusal → List ℕ
refusal_text refusal.BadLine = codes "BadLine"
refusal_text refusal.NoSuchName = codes "NoSuchName"
refusal_text refusal.Unrooted = codes "Unrooted"
refusal_text refusal.WrongKind = codes "WrongKind"
refusal_text refusal.BadType = codes "BadType"
refusal_text refusal.FieldCount = codes "FieldCount"
refusal_text refusal.TypeMismatch = codes "TypeMismatch"
refusal_text refusal.OutOfBounds = codes "OutOfBounds"
refusal_text refusal.Immutable = codes "Immutable"
refusal_text refusal.NotI8Array = codes "NotI8Array"
refusal_text refusal.LengthMismatch = codes "LengthMismatch"
refusal_text refusal.TooLarge = codes "TooLarge"
refusal_text refusal.RootsFull = codes "RootsFull"
refusal_text refusal.GcHeapOutOfMemory = codes "GcHeapOutOfMemory"
refusal_text refusal.GcHeapGrowthFailed = codes "GcHeapGrowthFailed"
refusal_text refusal.ThrownException = codes "ThrownException"

abbrev pub reply_value_text : ReplyValue → List ℕ
reply_value_text (value.I32 n) = codes "i32 " ++ signed_decimal n
reply_value_text (value.I64 n) = codes "i64 " ++ signed_decimal n
reply_value_text (value.F32 n) = codes "f32 " ++ hex_digits 8 n
reply_value_text (value.F64 n) = codes "f64 " ++ hex_digits 16 n
reply_value_text (value.V128 n) = codes "v128 " ++ hex_digits 32 n
reply_value_text value.Null = codes "null"
reply_value_text (value.I31 n) = codes "i31 " ++ decimal n
reply_value_text (value.Struct t) = codes "struct " ++ decimal t
reply_value_text (value.Array t) = codes "array " ++ decimal t
reply_value_text value.Host = codes "host"
reply_value_text (value.Exn t tag) = codes "exn " ++ (decimal t ++ 32 ∷ decimal tag)
reply_value_text value.Opaque = codes "opaque"

abbrev pub bool_text : Bool → List ℕ
bool_text true = codes "true"
bool_text false = codes "false"

-- the text of a reply, without its line feed
abbrev pub text_of : Reply → List ℕ
text_of reply.Done = codes "ok"
text_of (reply.Declared t) = codes "type " ++ decimal t
text_of (reply.Value v) = reply_value_text v
text_of (reply.Length n) = codes "len " ++ decimal n
text_of (reply.HostNumber n) = codes "data " ++ decimal n
text_of (reply.Same same) = bool_text same
text_of (reply.Held objects hosts) = codes "held " ++ (decimal objects ++ 32 ∷ decimal hosts)
text_of (reply.Capacity n) = codes "cap " ++ decimal n
text_of (reply.Increments n) = codes "increments " ++ decimal n
text_of (reply.Bytes bytes) = codes "bytes " ++ bytes_text bytes
text_of (reply.Refused refusal) = refusal_text refusal
