use Rattle.std.proofs.Common.{true, ap, ◌∙◌}
use Rattle.gc_wasm_types.specs.Values.{number, numbers, or_absent}
use Rattle.gc_wasm_types.proofs.Storing.{stores_number, number_loads, absent_loads}
use Rattle.gc_wasm_types.proofs.numbers.OptionI31WasmTy.store.Goals as goal

pub returns-in-Some-clause-stores : goal.returns-in-Some-clause-stores
returns-in-Some-clause-stores g c t place holds =
    stores_number c.args.store.now t place _ c.write_word.new.into c.as_raw_u32.result c.write_word.ensures.bytes c.write_word.ensures.word c.in-Some.number (ap (or_absent number) c.in-Some.is)
    (c.as_raw_u32.ensures.value ∙ c.from_i31.ensures)

pub returns-in-Some-clause-word : goal.returns-in-Some-clause-word
returns-in-Some-clause-word g c is =
    number_loads g.row.D.Denot g.H.GcHeap.KIND c.args.store.now c.stores_hold_tables.ensures.0 c.stores_hold_tables.ensures.1.0 c.stores_hold_tables.ensures.1.1 true _ c.in-Some.number
    (c.write_word.ensures.word ∙ c.as_raw_u32.ensures.value ∙ c.from_i31.ensures)

pub returns-in-None-clause-word : goal.returns-in-None-clause-word
returns-in-None-clause-word g c is = absent_loads g.row.D.Denot g.H.GcHeap.KIND c.args.store.now numbers _ c.write_word-in-None.ensures.word
