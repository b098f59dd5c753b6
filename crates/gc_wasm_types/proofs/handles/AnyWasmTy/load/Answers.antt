use Rattle.std.proofs.Common.{false, Option, ap, refl, subst}
use Rattle.std.specs.Option.{option_map}
use Rattle.gc_wasm_types.specs.Loads.{LoadsValue, ValueIsOf}
use Rattle.gc_wasm_types.specs.Values.{handle, or_absent, references, raw_word}
use Rattle.gc_wasm_types.proofs.Loaded.{loaded_wants_none, refused_wants}
use Rattle.gc_wasm_types.proofs.Loading.{can_take, never_none}
use Rattle.gc_wasm_types.proofs.handles.AnyWasmTy.load.Goals as goal

pub load_handle-requires : goal.load_handle-requires
load_handle-requires g c = can_take g.row.D.Denot g.H.GcHeap.KIND c.args.store.now g.R.Mark.GcRef.KIND false (raw_word c.args.from.now) c.requires

pub unreachable-requires : goal.unreachable-requires
unreachable-requires g c = never_none (raw_word c.args.from.now) (c.requires.present refl) _ (ap (option_map g.R.WasmHandle.root) c.in-Ok-None.field-0-is) c.in-Ok-None.ensures.null

pub returns-in-Ok-Some-clause-loads : goal.returns-in-Ok-Some-clause-loads
returns-in-Ok-Some-clause-loads g c t place a r there is =
    subst (λ (x : Option g.row.R.Denot). LoadsValue g.R.WasmHandle.MANNER g.H.GcHeap.KIND t place a r (or_absent (λ h. handle (g.R.WasmHandle.root h)) x) c.load_handle.new.store) c.in-Ok-Some.field-0-is
    (c.in-Ok-Some.ensures.loads t place a r there is)

pub returns-in-Ok-Some-clause-kind : goal.returns-in-Ok-Some-clause-kind
returns-in-Ok-Some-clause-kind g c =
    subst (λ (x : Option g.row.R.Denot). ValueIsOf g.row.D.Denot g.H.GcHeap.KIND c.load_handle.new.store (references g.R.Mark.GcRef.KIND) (or_absent (λ h. handle (g.R.WasmHandle.root h)) x)) c.in-Ok-Some.field-0-is c.in-Ok-Some.ensures.kind

pub returns-in-Ok-Some-clause-reserved : goal.returns-in-Ok-Some-clause-reserved
returns-in-Ok-Some-clause-reserved g c = loaded_wants_none g.R.WasmHandle.MANNER c.args.store.now c.in-Ok-Some.handle

pub returns-in-Err-clause-loads : goal.returns-in-Err-clause-loads
returns-in-Err-clause-loads g c t place a r there is = c.in-Err.ensures.loads t place a r there is

pub returns-in-Err-clause-reserved : goal.returns-in-Err-clause-reserved
returns-in-Err-clause-reserved g c = refused_wants (Option g.row.R.Denot) g.row.R.Denot g.R.WasmHandle.MANNER c.args.store.now c.in-Err.fault c.in-Err.ensures.reserved
