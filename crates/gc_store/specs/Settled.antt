-- What a collection of a heap that is made leaves of a store beside its table.
use Rattle.std.specs.Prelude.{◌≡◌, ℕ, ◌<◌, IsTrue}
use Rattle.std.specs.List.{Contains, flat_map}
use Rattle.std.specs.FinSet as finset
use Rattle.gc_types.specs.declared.kind.Layouts.{Layouts}
use Rattle.gc_types.specs.declared.kind.Layouts.TheVariants.{Counting}
use Rattle.gc_owner.specs.declared.entry.OwnedEntry.{OwnedEntry}
use Rattle.gc_model.specs.Stores.{StoreView}
use Rattle.gc_store.specs.RootWords.{slot_words}

-- No owned root is left that was given up. In a counting heap nothing is queued, and shown is only what a slot of a
-- frame names.
pub record IsSettled {D : Type 0} (layouts : Layouts) (s : StoreView D) : Type 0 where
  pub held : (e : OwnedEntry) → Contains s.owned e → 0 < e.handles
  pub queued : layouts ≡ Counting → s.heap.counts.queued ≡ finset.empty
  pub shown : layouts ≡ Counting → (word : ℕ) → IsTrue (finset.contains s.heap.counts.shown word) → Contains (flat_map slot_words s.frames) word
