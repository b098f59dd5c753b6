-- One call's faults as those of another.
use Rattle.gc_values.specs.declared.root.RootFault.{RootFault}
use Rattle.gc_values.specs.declared.root.RootFault.TheVariants as root_fault
use Rattle.gc_objects.specs.declared.faults.AccessFault.{AccessFault}
use Rattle.gc_objects.specs.declared.faults.AccessFault.TheVariants as access
use Rattle.gc_objects.specs.declared.faults.AllocFault.{AllocFault}
use Rattle.gc_objects.specs.declared.faults.AllocFault.TheVariants as alloc
use Rattle.gc_objects.specs.declared.faults.ValueFault.{ValueFault}
use Rattle.gc_objects.specs.declared.faults.ValueFault.TheVariants as value_fault

abbrev pub accessed : RootFault → AccessFault
accessed root_fault.WrongStore = access.WrongStore
accessed root_fault.Unrooted = access.Unrooted
accessed root_fault.RootsFull = access.RootsFull
accessed root_fault.Memory = access.Memory

abbrev pub accessed_value : ValueFault → AccessFault
accessed_value value_fault.Unrooted = access.Unrooted
accessed_value value_fault.TypeMismatch = access.TypeMismatch

abbrev pub allocated_value : {T : Type 0} → ValueFault → AllocFault T
allocated_value value_fault.Unrooted = alloc.Unrooted
allocated_value value_fault.TypeMismatch = alloc.TypeMismatch
