use Rattle.std.proofs.Common.{◌+◌, Some, sym, ap, ◌∙◌}
use Rattle.gc_memory.specs.Words.{word}
use Rattle.gc_copying.specs.CopyWords.{info_places}
use Rattle.gc_copying.proofs.FormLemmas.{scans_as, scans_none}
use Rattle.gc_copying.proofs.space.Space.scan_by_type.Goals as goal

pub returns-in-Some-Struct-clause-scanned : goal.returns-in-Some-Struct-clause-scanned
returns-in-Some-Struct-clause-scanned g c =
    let n = word c.args.self.now.memory (c.args.copy + 12) in
    let e = ap (info_places n) (sym c.in-Some-Struct.ensures ∙ ap Some c.in-Some-Struct.field-0-is) ∙ sym c.as_slice.ensures in
    scans_as c.args.self.now c.scan_offsets.new.self c.args.copy _ _ e c.scan_offsets.ensures.scanned

pub returns-in-Some-Array-clause-scanned : goal.returns-in-Some-Array-clause-scanned
returns-in-Some-Array-clause-scanned g c =
    let n = word c.args.self.now.memory (c.args.copy + 12) in
    let e = ap (info_places n) (sym c.in-Some-Array.ensures ∙ ap Some c.in-Some-Array.field-0-is) in
    scans_as c.args.self.now c.scan_array.new.self c.args.copy _ _ e c.scan_array.ensures.scanned

pub returns-in-None-clause-scanned : goal.returns-in-None-clause-scanned
returns-in-None-clause-scanned g c =
    scans_as c.args.self.now c.args.self.now c.args.copy _ _ (ap (info_places (word c.args.self.now.memory (c.args.copy + 12))) (sym c.in-None.ensures)) (scans_none c.args.self.now c.args.copy)
