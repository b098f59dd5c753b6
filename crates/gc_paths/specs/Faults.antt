-- The refusals of a store as those of the search.
use Rattle.gc_values.specs.declared.root.RootFault.{RootFault}
use Rattle.gc_values.specs.declared.root.RootFault.TheVariants as root
use Rattle.gc_paths.specs.declared.fault.PathFault.{PathFault}
use Rattle.gc_paths.specs.declared.fault.PathFault.TheVariants as path

abbrev pub search_fault : RootFault → PathFault
search_fault root.WrongStore = path.WrongStore
search_fault root.Unrooted = path.Unrooted
search_fault root.RootsFull = path.RootsFull
search_fault root.Memory = path.Memory
