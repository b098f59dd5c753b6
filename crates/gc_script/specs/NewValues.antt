-- The contents of the objects that commands make.
use Rattle.std.specs.Prelude.{List, [], Option}
use Rattle.gc_values.specs.declared.request.Contents.{Contents}
use Rattle.gc_values.specs.declared.request.Contents.TheVariants as contents
use Rattle.gc_values.specs.declared.root.RawValue.{RawValue}
use Rattle.gc_values.specs.Filling.{each_of}
use Rattle.gc_script.specs.declared.make.NewValues.{NewValues}
use Rattle.gc_script.specs.declared.make.NewValues.TheVariants as new
use Rattle.gc_script.specs.Values.{set_operands}

-- what operands give by the registers, or what is given itself
abbrev pub contents_of : List (Option RawValue) → NewValues → Contents
contents_of slots (new.Operands vs) = each_of (set_operands slots vs.now)
contents_of slots (new.Same value) = contents.Same value
contents_of slots (new.Bytes bytes) = contents.Bytes bytes

-- the values that operands give
abbrev pub operand_values : List (Option RawValue) → NewValues → List RawValue
operand_values slots (new.Operands vs) = set_operands slots vs.now
operand_values slots (new.Same value) = []
operand_values slots (new.Bytes bytes) = []
