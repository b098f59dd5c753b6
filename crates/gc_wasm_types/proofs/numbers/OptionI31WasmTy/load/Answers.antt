use Rattle.std.proofs.Common.{true}
use Rattle.gc_wasm_types.specs.Values.{raw_word}
use Rattle.gc_wasm_types.proofs.SmallNumbers.{numbers_loaded, numbers_kind}
use Rattle.gc_wasm_types.proofs.numbers.OptionI31WasmTy.load.Goals as goal

pub returns-clause-loads : goal.returns-clause-loads
returns-clause-loads g c t place a r there is =
    numbers_loaded g.H.GcHeap.KIND c.args._store.now true (raw_word c.args.from.now) c.get_anyref.result c.get_anyref.ensures c.requires t place a r there is c.number_in.result c.number_in.ensures

pub returns-clause-kind : goal.returns-clause-kind
returns-clause-kind g c = numbers_kind g.row.D.Denot g.H.GcHeap.KIND c.args._store.now c.number_in.result
