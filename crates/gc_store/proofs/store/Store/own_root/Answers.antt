use Rattle.std.proofs.Common.{refl, sym, ◌∙◌, subst}
use Rattle.gc_model.specs.Stores.{StoreView}
use Rattle.gc_store.specs.Roots.{is_of_store}
use Rattle.gc_store.specs.OwnedWords.{HoldsThere}
use Rattle.gc_store.proofs.HandleWords.{names_word}
use Rattle.gc_store.proofs.OwningRoots.{makes_owned, refuses_owned}
use Rattle.gc_store.proofs.store.Store.own_root.Goals as goal

pub own_word-requires-clause-word : goal.own_word-requires-clause-word
own_word-requires-clause-word g c =
    let sound = c.self.invariant in
    let there = subst (λ (s : StoreView g.row.D.Denot). HoldsThere g.H.GcHeap.KIND s sound.table sound.holds.place sound.account) c.self.view_is (sound.holds.holds, sound.holds.account) in
    let names = names_word g.H.GcHeap.KIND c.args.self.now sound.table sound.holds.place there.0 c.args.handle c.in-Ok.word (sym c.word_of.ensures ∙ c.in-Ok.is) in
    let after = c.trim_owned.ensures.holds sound.table sound.holds.place sound.account there in
    record { table = sound.table; place = sound.holds.place; holds = after.0; root = names.root; is_word = names.is_word; not_null = names.not_null }

pub returns-in-Ok-clause-owns : goal.returns-in-Ok-clause-owns
returns-in-Ok-clause-owns g c = λ t a holds.
    let names = names_word g.H.GcHeap.KIND c.args.self.now t holds.place holds.holds c.args.handle c.in-Ok.word (sym c.word_of.ensures ∙ c.in-Ok.is) in
    let after = c.trim_owned.ensures.holds t holds.place a (holds.holds, holds.account) in
    makes_owned g.H.GcHeap.KIND c.args.self.now t a c.args.handle _ names.root names.named c.own_word.result (c.own_word.ensures.owns t holds.place a names.root after names.is_word)

pub returns-in-Err-clause-owns : goal.returns-in-Err-clause-owns
returns-in-Err-clause-owns g c = λ t a holds.
    refuses_owned g.H.GcHeap.KIND c.args.self.now t a c.args.handle _ holds.place holds.holds holds (is_of_store c.args.self.now c.args.handle) c.in-Err.fault refl (sym c.word_of.ensures ∙ c.in-Err.is)
