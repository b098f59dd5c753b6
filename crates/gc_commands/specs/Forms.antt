-- The forms of commands: the first word of each, and which form a command has.
use Rattle.std.specs.Prelude.{ℕ, List, Bool, true, false, codes, Option, None, Some}
use Rattle.gc_commands.specs.declared.command.Command.{Command}
use Rattle.gc_commands.specs.declared.command.Command.TheVariants as command
use Rattle.gc_commands.specs.declared.form.Form.{Form}
use Rattle.gc_commands.specs.declared.form.Form.TheVariants as form

-- the first word of a form
abbrev pub name_of : Form → List ℕ
name_of form.Struct = codes "struct"
name_of form.Array = codes "array"
name_of form.Exn = codes "exn"
name_of form.New = codes "new"
name_of form.NewExn = codes "newexn"
name_of form.NewArr = codes "newarr"
name_of form.Fixed = codes "fixed"
name_of form.Bytes = codes "bytes"
name_of form.Host = codes "host"
name_of form.I31 = codes "i31"
name_of form.Field = codes "field"
name_of form.Elem = codes "elem"
name_of form.Len = codes "len"
name_of form.HostNumber = codes "data"
name_of form.SetField = codes "setf"
name_of form.SetElem = codes "sete"
name_of form.Eq = codes "eq"
name_of form.Enter = codes "enter"
name_of form.Leave = codes "leave"
name_of form.Push = codes "push"
name_of form.Pop = codes "pop"
name_of form.Store = codes "store"
name_of form.Load = codes "load"
name_of form.SetGlobal = codes "gset"
name_of form.GetGlobal = codes "gget"
name_of form.Own = codes "own"
name_of form.Root = codes "root"
name_of form.Unroot = codes "unroot"
name_of form.Throw = codes "throw"
name_of form.Take = codes "take"
name_of form.Gc = codes "gc"
name_of form.GcDrop = codes "gcdrop"
name_of form.GcInc = codes "gcinc"
name_of form.Grow = codes "grow"
name_of form.Cap = codes "cap"

-- the form of a command; `Bad` has none
abbrev pub command_form : Command → Option Form
command_form command.Bad = None
command_form (command.Struct is_final supertype fields) = Some form.Struct
command_form (command.Array is_final supertype elem) = Some form.Array
command_form (command.Exn params) = Some form.Exn
command_form (command.New d t values) = Some form.New
command_form (command.NewExn d t tag values) = Some form.NewExn
command_form (command.NewArr d t len value) = Some form.NewArr
command_form (command.Fixed d t values) = Some form.Fixed
command_form (command.NewBytes d t bytes) = Some form.Bytes
command_form (command.ReadBytes r len) = Some form.Bytes
command_form (command.Host d n) = Some form.Host
command_form (command.I31 d n) = Some form.I31
command_form (command.Field r i into) = Some form.Field
command_form (command.Elem r i into) = Some form.Elem
command_form (command.Len r) = Some form.Len
command_form (command.HostNumber r) = Some form.HostNumber
command_form (command.SetField r i value) = Some form.SetField
command_form (command.SetElem r i value) = Some form.SetElem
command_form (command.Eq r s) = Some form.Eq
command_form command.Enter = Some form.Enter
command_form command.Leave = Some form.Leave
command_form (command.Push slots) = Some form.Push
command_form command.Pop = Some form.Pop
command_form (command.Store k r) = Some form.Store
command_form (command.Load k d) = Some form.Load
command_form (command.SetGlobal g r) = Some form.SetGlobal
command_form (command.GetGlobal g d) = Some form.GetGlobal
command_form (command.Own o r) = Some form.Own
command_form (command.Root d o) = Some form.Root
command_form (command.Unroot o) = Some form.Unroot
command_form (command.Throw r) = Some form.Throw
command_form (command.Take d) = Some form.Take
command_form command.Gc = Some form.Gc
command_form command.GcDrop = Some form.GcDrop
command_form command.GcInc = Some form.GcInc
command_form (command.Grow n) = Some form.Grow
command_form command.Cap = Some form.Cap

-- the command that a reader of a form answers: none where that is `Bad`
abbrev pub unless_bad : Command → Option Command
unless_bad command.Bad = None
unless_bad command = Some command

-- the forms whose commands have a list
abbrev pub has_list : Form → Bool
has_list form.Struct = true
has_list form.Exn = true
has_list form.New = true
has_list form.NewExn = true
has_list form.Fixed = true
has_list form.Bytes = true
has_list _ = false
