-- The numbers of the statuses.
use Rattle.std.specs.Prelude.{ℕ}
use Rattle.gcsh_top.specs.declared.status.Status.{Status}
use Rattle.gcsh_top.specs.declared.status.Status.TheVariants.{Done, Usage, ReadFault, WriteFault, TooLong, NoMemory}
use Rattle.gcsh_top.specs.declared.run.LineFault.{LineFault}
use Rattle.gcsh_top.specs.declared.run.LineFault.TheVariants as fault

abbrev pub code_of : Status → ℕ
code_of Done = 0
code_of Usage = 1
code_of ReadFault = 2
code_of WriteFault = 3
code_of TooLong = 4
code_of NoMemory = 5

-- the status of a run that ends within the lines
abbrev pub status_of : LineFault → Status
status_of fault.Sink = WriteFault
status_of fault.Memory = NoMemory
