-- The parts of an image.
use Rattle.std.specs.Prelude.{List}
use Rattle.gc_commands.specs.declared.command.Command.{Command}
use Rattle.gc_image.specs.declared.image.GlobalLine.{GlobalLine}
use Rattle.gc_image.specs.declared.image.ObjectLine.{ObjectLine}

-- an image: the commands that declare its types, its objects by their numbers, and its globals
pub record ImageParts : Type 0 where
  pub types : List Command
  pub objects : List ObjectLine
  pub globals : List GlobalLine
