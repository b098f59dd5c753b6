-- What two runs of one script have in common, and where the heap of one is refused pages.
use Rattle.std.specs.Prelude.{◌≡◌, ◌+◌, ◌<◌, ℕ, List, [], ◌∷◌, None}
use Rattle.gc_types.specs.declared.kind.Layouts.{Layouts}
use Rattle.gc_model.specs.Values.{Object}
use Rattle.gc_model.specs.Table.{Table, made_pages, make_heap}
use Rattle.gc_view.specs.Sizes.{need_of}
use Rattle.gc_model.specs.Sizes.{object_size}
use Rattle.gc_model.specs.Words.{Placing}
use Rattle.gc_model.specs.Allocation.{asked, LacksFit}
use Rattle.gc_commands.specs.declared.command.Command.{Command}
use Rattle.gc_commands.specs.declared.reply.Reply.{Reply}
use Rattle.gc_commands.specs.declared.reply.Reply.TheVariants as reply
use Rattle.gc_commands.specs.declared.reply.Refusal.TheVariants as refusal
use Rattle.gc_script.specs.State.{State, visible}
use Rattle.gc_script.specs.Shapes.{CommandShape, making, growing, collecting, of_increments, showing, shape}
use Rattle.gc_script.specs.Steps.{tests, first_failing}
use Rattle.gc_script.specs.Run.{SaysRefused}

-- no reply says that the heap was refused pages
abbrev pub NoneRefused : List Reply → Type 0
NoneRefused [] = Unit {0}
NoneRefused (r ∷ rs) = (¬ SaysRefused r) × NoneRefused rs

-- the reply says that no heap of the kind can hold the object
abbrev pub SaysLarge : Reply → Type 0
SaysLarge answer = answer ≡ reply.Refused refusal.TooLarge

-- no reply says so
abbrev pub NoneLarge : List Reply → Type 0
NoneLarge [] = Unit {0}
NoneLarge (r ∷ rs) = (¬ SaysLarge r) × NoneLarge rs

-- two replies of a command of that shape are the same; those that show the heap's pages or count increments may differ
abbrev pub SameAnswer : CommandShape → Reply → Reply → Type 0
SameAnswer showing r q = Unit {0}
SameAnswer (collecting of_increments) r q = Unit {0}
SameAnswer _ r q = r ≡ q

-- two replies of a command are the same; those of `cap` and `gcinc` may differ
abbrev pub SameReply : Command → Reply → Reply → Type 0
SameReply c r q = SameAnswer (shape c) r q

-- as many replies of some commands, each the same as the other
abbrev pub SameReplies : List Command → List Reply → List Reply → Type 0
SameReplies [] [] [] = Unit {0}
SameReplies (c ∷ cs) (r ∷ rs) (q ∷ qs) = SameReply c r q × SameReplies cs rs qs
SameReplies _ _ _ = ⊥

-- A growth by so many bytes would take the table's heap past the limit.
abbrev pub PassesLimit : ℕ → Table ℕ → ℕ → Type 0
PassesLimit most t bytes = most < made_pages t + asked (made_pages t) bytes

-- An object has no room in the table's heap, whose objects lie at these places, and the growth that it needs would pass
-- the limit.
abbrev pub RunsOut : Layouts → ℕ → Placing → Table ℕ → Object ℕ → Type 0
RunsOut layouts most places t o = PassesLimit most t (need_of layouts (object_size layouts t.types o)) × LacksFit layouts places (make_heap t) (object_size layouts t.types o)

-- a command of that shape makes an object for which the heap runs out
abbrev pub ShapeRunsOut : Layouts → ℕ → State → CommandShape → Type 0
ShapeRunsOut layouts most s (making d class object) = RunsOut layouts most s.account.places s.table (object (visible s))
ShapeRunsOut layouts most s _ = ⊥

-- Where a command is refused for want of room: its tests all pass, it makes an object, and the heap runs out.
abbrev pub IsOutOfMemory : Layouts → ℕ → State → Command → Type 0
IsOutOfMemory layouts most s c = (first_failing (tests layouts s c) ≡ None) × ShapeRunsOut layouts most s (shape c)

-- a command of that shape is a growth by some bytes that would pass the limit
abbrev pub GrowsPast : ℕ → State → CommandShape → Type 0
GrowsPast most s (growing n) = (0 < n) × PassesLimit most s.table n
GrowsPast most s _ = ⊥

-- Where a command's growth fails: its tests all pass, it is one by some bytes, and it would pass the limit.
abbrev pub FailsToGrow : Layouts → ℕ → State → Command → Type 0
FailsToGrow layouts most s c = (first_failing (tests layouts s c) ≡ None) × GrowsPast most s (shape c)
