use Rattle.std.proofs.Common.{false, refl, ◌∙◌}
use Rattle.gc_wasm_types.specs.Values.{number}
use Rattle.gc_wasm_types.proofs.Storing.{stores_number, number_loads}
use Rattle.gc_wasm_types.proofs.numbers.I31WasmTy.store.Goals as goal

pub returns-clause-stores : goal.returns-clause-stores
returns-clause-stores g c t place holds =
    stores_number c.args.store.now t place (number c.args.self.now) c.write_word.new.into c.as_raw_u32.result c.write_word.ensures.bytes c.write_word.ensures.word c.args.self.now refl
    (c.as_raw_u32.ensures.value ∙ c.from_i31.ensures)

pub returns-clause-word : goal.returns-clause-word
returns-clause-word g c is =
    number_loads g.row.D.Denot g.H.GcHeap.KIND c.args.store.now c.stores_hold_tables.ensures.0 c.stores_hold_tables.ensures.1.0 c.stores_hold_tables.ensures.1.1 false _ c.args.self.now
    (c.write_word.ensures.word ∙ c.as_raw_u32.ensures.value ∙ c.from_i31.ensures)
