use Rattle.std.proofs.Common.{◌≡◌, ◌-◌, ◌<◌, ◌++◌, ℕ, List, Some, length, slice_get, sym, ap, ◌∙◌, arith}
use Rattle.gc_owner.specs.declared.entry.SlotEntry.{SlotEntry}
use Rattle.gc_owner.specs.RootColumns.{global_count}
use Rattle.gc_model.specs.Stores.{StoreView}
use Rattle.gc_store.specs.declared.root_words.RootName.TheVariants as name
use Rattle.gc_store.specs.declared.root_words.RootWord.{RootWord}
use Rattle.gc_store.specs.RootWords.{root_word, slot_roots, handle_root_words, root_words}
use Rattle.gc_store.specs.Stores.{store_view, tables_of}
use Rattle.gc_store.proofs.RootNumbers.{global_at, pending_at, behind_at}
use Rattle.gc_store.proofs.store.Store.root_word.Given as given
use Rattle.gc_store.proofs.store.Store.root_word.Goals as goal
use Rattle.gc_store.proofs.store.Store.root_word.Goals.{After-is_ready}

-- the store's view, by its parts
abbrev view : (g : given.Over) (c : After-is_ready g) → StoreView g.row.D.Denot
view g c = store_view c.self.inside.id c.self.inside.config (tables_of c.self.inside.interned c.self.inside.asked) c.self.inside.owner.seen c.self.inside.tries

count : (g : given.Over) (c : After-is_ready g) → length c.self.inside.owner.seen.roots.globals ≡ global_count
count g c = c.self.invariant.holds.holds.globals.slots.same_count ∙ c.self.invariant.holds.holds.globals.count

abbrev pending : (g : given.Over) (c : After-is_ready g) → RootWord
pending g c = root_word name.Pending c.self.inside.owner.seen.roots.pending

abbrev behind : (g : given.Over) (c : After-is_ready g) → List RootWord
behind g c = slot_roots 0 (view g c).frames ++ handle_root_words c.self.inside.owner.seen.roots.owned c.self.inside.owner.seen.roots.scoped

seen : (g : given.Over) (c : After-is_ready g) (number : ℕ) → slice_get (root_words (view g c)) number ≡ slice_get (root_words c.args.self.now) number
seen g c number = ap (λ (s : StoreView g.row.D.Denot). slice_get (root_words s) number) c.self.view_is

pub returns-then-number-globals : goal.returns-then-number-globals
returns-then-number-globals g c =
    let at = (goal.at.returns-then-number-globals g c).After-is_ready in
    ap (λ (e : SlotEntry). Some (root_word (name.Global c.args.number) e.word)) c.global-word.ensures
    ∙ global_at c.self.inside.owner.seen.roots.globals (count g at) (pending g at) (behind g at) c.args.number (omega (arith, c.if-number-globals.true, c.from-globals.ensures))
    ∙ seen g at c.args.number

pub returns-then-number-globals-2 : goal.returns-then-number-globals-2
returns-then-number-globals-2 g c =
    let at = (goal.at.returns-then-number-globals-2 g c).After-is_ready in
    ap (λ (n : ℕ). Some (root_word name.Pending n)) c.pending-word.ensures
    ∙ pending_at c.self.inside.owner.seen.roots.globals (count g at) (pending g at) (behind g at) c.args.number (omega (arith, c.if-number-globals-2.true, c.from-globals.ensures))
    ∙ seen g at c.args.number

pub returns : goal.returns
returns g c =
    let at = (goal.at.returns g c).After-is_ready in
    let past : global_count < c.args.number = omega (arith, c.if-number-globals.false, c.if-number-globals-2.false, c.from-globals.ensures) in
    c.slot_or_handle_root.ensures
    ∙ ap (λ (s : StoreView g.row.D.Denot). slice_get (slot_roots 0 s.frames ++ handle_root_words s.owned s.scoped) (c.args.number - c.from-globals.result - 1)) (sym c.self.view_is)
    ∙ ap (λ (n : ℕ). slice_get (behind g at) (c.args.number - n - 1)) c.from-globals.ensures
    ∙ behind_at c.self.inside.owner.seen.roots.globals (count g at) (pending g at) (behind g at) c.args.number past
    ∙ seen g at c.args.number
