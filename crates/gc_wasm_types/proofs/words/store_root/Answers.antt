use Rattle.gc_wasm_types.proofs.Storing.{word_stored, word_loads, not_stored}
use Rattle.gc_wasm_types.proofs.words.store_root.Goals as goal

pub returns-in-Ok-clause-stores : goal.returns-in-Ok-clause-stores
returns-in-Ok-clause-stores g c t place holds =
    word_stored g.H.GcHeap.KIND c.args.store.now t place holds c.args.root c.show_word.result c.show_word.ensures.wrong_store c.show_word.ensures.live c.show_word.ensures.gone
    c.in-Ok.word c.in-Ok.is c.write_word.new.into c.write_word.ensures.bytes c.write_word.ensures.word

pub returns-in-Err-clause-stores : goal.returns-in-Err-clause-stores
returns-in-Err-clause-stores g c t place holds =
    not_stored g.H.GcHeap.KIND c.args.store.now t place holds c.args.root c.show_word.result c.show_word.ensures.wrong_store c.show_word.ensures.live c.show_word.ensures.gone
    c.in-Err.fault c.in-Err.is c.args.into.now

pub returns-in-Ok-clause-word : goal.returns-in-Ok-clause-word
returns-in-Ok-clause-word g c kind nullable names =
    word_loads g.H.GcHeap.KIND c.args.store.now c.args.root c.show_word.result c.show_word.ensures.wrong_store c.show_word.ensures.live c.show_word.ensures.gone
    c.show_word.new.self c.show_word.ensures.rest kind nullable names c.in-Ok.word c.in-Ok.is c.in-Ok.ensures.held.not_null c.write_word.new.into c.write_word.ensures.word
