-- What a clause sees of a free list.
use Rattle.std.specs.Prelude.{refl}
use Rattle.std.specs.Coded.{Coded, code_by, coded×}
use Rattle.gc_free.specs.Memory.{Memory, memory_code}
use Rattle.gc_free.specs.Space.{Space, space_code}

-- the space that it stands for, and the memory that its free runs take; the room of runs that wait isn't told
pub record FreeListView : Type 0 where
  pub space : Space
  pub memory : Memory

abbrev pub view_code : Coded FreeListView
view_code = code_by (Space × Memory) (coded× space_code memory_code) (λ v. (v.space, v.memory)) (λ p. record { space = p.0; memory = p.1 }) (λ _. refl)
