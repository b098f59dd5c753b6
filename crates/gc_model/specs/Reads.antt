-- Reading a value: a reference that isn't null gets a scoped root. And the value of a host object.
use Rattle.std.specs.Prelude.{Bool, true, false, ◌==◌, Option, Some, None, slice_get, option_and_then}
use Rattle.gc_model.specs.Values.{Reference, null, small, at, Value, numeric, function, continuation, reference, Object, struct, array, host, exception}
use Rattle.gc_model.specs.Table.{Table, push}

abbrev pub is_null : Reference → Bool
is_null null = true
is_null (small n) = false
is_null (at p) = false

-- whether reading the value makes a scoped root
abbrev pub makes_root : Value → Bool
makes_root (numeric kind n) = false
makes_root (function f) = false
makes_root (continuation c) = false
makes_root (reference class null) = false
makes_root (reference class (small n)) = true
makes_root (reference class (at p)) = true

-- the table after a value was read
abbrev pub after_read : {D : Type 0} → Value → Table D → Table D
after_read (numeric kind n) t = t
after_read (function f) t = t
after_read (continuation c) t = t
after_read (reference class null) t = t
after_read (reference class (small n)) t = push (small n) t
after_read (reference class (at p)) t = push (at p) t

-- whether two references are the same
abbrev pub same_reference : Reference → Reference → Bool
same_reference null null = true
same_reference null (small n) = false
same_reference null (at p) = false
same_reference (small m) null = false
same_reference (small m) (small n) = m == n
same_reference (small m) (at p) = false
same_reference (at q) null = false
same_reference (at q) (small n) = false
same_reference (at q) (at p) = q == p

-- the value of an object, where it is a host object
abbrev pub host_value : {D : Type 0} → Object D → Option D
host_value (struct ty values) = None
host_value (array ty values) = None
host_value (host value) = Some value
host_value (exception ty tag values) = None

-- the value of the host object that a reference is; there is none where it is anything else
abbrev pub host_value_of : {D : Type 0} → Table D → Reference → Option D
host_value_of t null = None
host_value_of t (small n) = None
host_value_of t (at p) = option_and_then host_value (slice_get t.objects p)
