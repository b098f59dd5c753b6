use Rattle.std.proofs.Common.{false, refl}
use Rattle.gc_wasm_types.specs.Values.{raw_word}
use Rattle.gc_wasm_types.proofs.SmallNumbers.{number_there, number_loaded}
use Rattle.gc_wasm_types.proofs.numbers.I31WasmTy.load.Goals as goal

pub unwrap-requires : goal.unwrap-requires
unwrap-requires g c =
    number_there g.H.GcHeap.KIND c.args._store.now false (raw_word c.args.from.now) c.get_anyref.result c.get_anyref.ensures c.requires (c.requires.present refl) c.number_in.result c.number_in.ensures

pub returns-clause-loads : goal.returns-clause-loads
returns-clause-loads g c t place a r there is =
    number_loaded g.H.GcHeap.KIND c.args._store.now false (raw_word c.args.from.now) c.get_anyref.result c.get_anyref.ensures c.requires t place a r there is c.number_in.result c.unwrap.result c.unwrap.ensures c.number_in.ensures
