-- What a view for writing keeps.
use Rattle.std.specs.Prelude.{◌≡◌}
use Rattle.gc_refs.specs.declared.data_mut.VMGcObjectDataMut.{VMGcObjectDataMut}

-- the view still lends the same bytes, the first of them at the same offset
pub record IsSameView (old new : VMGcObjectDataMut) : Type 0 where
  pub first : new.first ≡ old.first
  pub lent : new.bytes.ghost_name ≡ old.bytes.ghost_name
