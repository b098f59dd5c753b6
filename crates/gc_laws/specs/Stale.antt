-- Commands of which a register is the object, a value or the destination.
use Rattle.std.specs.Prelude.{◌≡◌, ◌⊎◌, ◌<◌, ℕ, List, [], ◌∷◌, Option, Some, None}
use Rattle.std.specs.List.{Contains}
use Rattle.gc_model.specs.Frames.{slot_at}
use Rattle.gc_model.specs.Globals.{global_at}
use Rattle.gc_commands.specs.declared.command.Command.{Command}
use Rattle.gc_commands.specs.declared.command.Command.TheVariants.{New, NewExn, NewArr, Fixed, NewBytes, ReadBytes, Host, I31, Field, Elem, Len, HostNumber, SetField, SetElem, Eq, Store, Load, SetGlobal, GetGlobal, Own, Root, Throw, Take}
use Rattle.gc_commands.specs.declared.command.Operand.{Operand}
use Rattle.gc_commands.specs.declared.command.Operand.TheVariants.{Register}
use Rattle.gc_script.specs.Given.{held_operand}
use Rattle.gc_script.specs.State.{State}

-- the register that a command sets, where it sets one
abbrev pub destination : Command → Option ℕ
destination (New d t vs) = Some d
destination (NewExn d t tag vs) = Some d
destination (NewArr d t n v) = Some d
destination (Fixed d t vs) = Some d
destination (NewBytes d t bytes) = Some d
destination (Host d n) = Some d
destination (I31 d n) = Some d
destination (Field r i into) = into
destination (Elem r i into) = into
destination (Load k d) = Some d
destination (GetGlobal g d) = Some d
destination (Root d o) = Some d
destination (Take d) = Some d
destination _ = None

-- none of some commands sets the register
abbrev pub NoneSets : ℕ → List Command → Type 0
NoneSets r [] = Unit {0}
NoneSets r (c ∷ cs) = (¬ (destination c ≡ Some r)) × NoneSets r cs

-- the operand isn't a register that is unset
abbrev pub IsSet : State → Operand → Type 0
IsSet s v = ¬ (held_operand s v ≡ None)

-- a command has the register as its object, or as one of two, and its other names stand
abbrev pub HasObject : State → Command → ℕ → Type 0
HasObject s (ReadBytes q n) r = q ≡ r
HasObject s (Field q i into) r = q ≡ r
HasObject s (Elem q i into) r = q ≡ r
HasObject s (Len q) r = q ≡ r
HasObject s (HostNumber q) r = q ≡ r
HasObject s (SetField q i v) r = (q ≡ r) × IsSet s v
HasObject s (SetElem q i v) r = (q ≡ r) × IsSet s v
HasObject s (Eq p q) r = ((p ≡ r) ⊎ (q ≡ r)) × IsSet s (Register p) × IsSet s (Register q)
HasObject s (Store k q) r = (q ≡ r) × (¬ (slot_at s.table k ≡ None))
HasObject s (SetGlobal g q) r = (q ≡ r) × (¬ (global_at s.table g ≡ None))
HasObject s (Own o q) r = q ≡ r
HasObject s (Throw q) r = q ≡ r
HasObject s _ r = ⊥

-- a command has the register as a value that it looks at: `newarr` does where it makes an element
abbrev pub HasOperand : Command → ℕ → Type 0
HasOperand (New d t vs) r = Contains vs (Register r)
HasOperand (NewExn d t tag vs) r = Contains vs (Register r)
HasOperand (NewArr d t n v) r = (v ≡ Register r) × (0 < n)
HasOperand (Fixed d t vs) r = Contains vs (Register r)
HasOperand (SetField q i v) r = v ≡ Register r
HasOperand (SetElem q i v) r = v ≡ Register r
HasOperand _ r = ⊥
