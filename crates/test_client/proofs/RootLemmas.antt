-- A collection may begin after an object of a declared type was made and rooted.
use Rattle.std.proofs.Common.{◌≡◌, ℕ, Bool, true, false, List, [], ◌∷◌, ◌++◌, sym, subst}
use Rattle.gc_types.specs.declared.kind.Layouts.{Layouts}
use Rattle.gc_types.specs.declared.kind.VMGcKind.TheVariants.{ExternRef}
use Rattle.gc_types.specs.Declarations.{Declaration}
use Rattle.gc_roots.specs.Roots.{Root, root}
use Rattle.gc_view.specs.Heaps.{HeapView}
use Rattle.gc_heap.specs.Content.{IsHeap}
use Rattle.gc_heap.specs.Heap.{exn_or_struct, new_struct}
use Rattle.gc_heap.specs.Collection.{CanCollect}
use Rattle.gc_heap.proofs.AddedLemmas.{start, blank_struct, owns_none}
use Rattle.gc_heap.proofs.MadeLemmas.{can_collect_made}
use Rattle.test_client.specs.Made.{MadeStruct}

not_external : (is_exception : Bool) → exn_or_struct is_exception ≡ ExternRef → ⊥
not_external true e = absurd (cc)
not_external false e = absurd (cc)

pub struct_rooted : (layouts : Layouts) (types : List Declaration) (ty : ℕ) (old new : HeapView) (place : ℕ) (roots roots' : List Root) (hosts : ℕ → Bool) → IsHeap layouts old → MadeStruct layouts types ty old new place
    → roots' ≡ roots ++ root 0 false place ∷ [] → CanCollect layouts (start old roots types hosts) → CanCollect layouts (start new roots' types hosts)
struct_rooted layouts types ty old new place roots roots' hosts heap made rooted can =
    subst (λ rs. CanCollect layouts (start new rs types hosts)) (sym rooted)
    (can_collect_made layouts types old new roots 0 place (new_struct layouts ty made.layout) made.layout.size hosts made.adds heap can (blank_struct layouts types ty made.layout made.declared)
    (owns_none hosts old (new_struct layouts ty made.layout) (not_external made.layout.is_exception)))
