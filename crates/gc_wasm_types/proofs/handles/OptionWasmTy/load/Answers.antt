use Rattle.std.proofs.Common.{true}
use Rattle.gc_wasm_types.specs.Values.{raw_word}
use Rattle.gc_wasm_types.proofs.Loading.{can_take}
use Rattle.gc_wasm_types.proofs.handles.OptionWasmTy.load.Goals as goal

pub load_handle-requires : goal.load_handle-requires
load_handle-requires g c = can_take g.row.D.Denot g.H.GcHeap.KIND c.args.store.now g.R.Mark.GcRef.KIND true (raw_word c.args.from.now) c.requires
