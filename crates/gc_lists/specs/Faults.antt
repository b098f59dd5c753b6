-- The refusals of a store as those of these calls.
use Rattle.gc_values.specs.declared.root.RootFault.{RootFault}
use Rattle.gc_values.specs.declared.root.RootFault.TheVariants as root
use Rattle.gc_lists.specs.declared.fault.ListFault.{ListFault}
use Rattle.gc_lists.specs.declared.fault.ListFault.TheVariants as list

abbrev pub refused : RootFault → ListFault
refused root.WrongStore = list.WrongStore
refused root.Unrooted = list.WrongStore
refused root.RootsFull = list.RootsFull
refused root.Memory = list.Memory
