use Rattle.std.proofs.Common.{sym, subst}
use Rattle.gc_model.specs.Holds.{IsWord}
use Rattle.gc_store.specs.RawWords.{IsRawWord}
use Rattle.gc_wasm_types.specs.Values.{raw_word}
use Rattle.gc_wasm_types.proofs.Loading.{owned_told, owned_kinds}
use Rattle.gc_wasm_types.proofs.words.load_owned.Goals as goal

pub from_word-requires : goal.from_word-requires
from_word-requires g c = subst (IsRawWord g.row.D.Denot g.H.GcHeap.KIND c.args.store.now g.T.GcRef.KIND) (sym c.get_anyref.ensures) c.requires

pub returns-clause-owns : goal.returns-clause-owns
returns-clause-owns g c t place a r there is =
    owned_told g.H.GcHeap.KIND t a r c.from_word.new.store c.from_word.result (c.from_word.ensures.owns t place a r there (subst (IsWord place r) (sym c.get_anyref.ensures) is))

pub returns-clause-kind : goal.returns-clause-kind
returns-clause-kind g c =
    owned_kinds g.row.D.Denot g.H.GcHeap.KIND c.args.store.now c.from_word.new.store g.T.GcRef.KIND c.get_anyref.result (raw_word c.args.from.now) c.get_anyref.ensures c.requires c.from_word.result c.from_word.ensures.owns c.from_word.ensures.null
