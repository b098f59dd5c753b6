use Rattle.std.proofs.Common.{ap, ◌∙◌, arith}
use Rattle.gc_copying.specs.CopyWords.{copying_offsets_at}
use Rattle.gc_copying.proofs.FormLemmas.{header_inside, form_is, can_as, scans_as, ticks_as, places_by_bitmap, places_by_array, places_by_type}
use Rattle.gc_copying.proofs.space.Space.scan_references.Goals as goal

pub read_header-header-requires : goal.read_header-header-requires
read_header-header-requires g c = omega (arith, header_inside c.args.self.now c.args.copy (copying_offsets_at c.args.types.now.declarations c.args.self.now.memory c.args.copy) c.requires)

pub decode-requires : goal.decode-requires
decode-requires g c =
    form_is c.args.self.now c.args.copy (copying_offsets_at c.args.types.now.declarations c.args.self.now.memory c.args.copy) c.kind_word.result c.requires
    (c.kind_word.ensures ∙ ap (λ h. h.kind_word) c.read_header-header.ensures)

pub scan_bitmap-requires-clause-left : goal.scan_bitmap-requires-clause-left
scan_bitmap-requires-clause-left g c =
    let e = places_by_bitmap c.args.types.now.declarations c.args.self.now.memory c.args.copy c.kind_word.result c.in-Bitmap.bits
    (c.kind_word.ensures ∙ ap (λ h. h.kind_word) c.read_header-header.ensures) c.in-Bitmap.ensures.meaning in
    can_as c.args.self.now c.args.copy _ _ e c.requires

pub scan_array-requires : goal.scan_array-requires
scan_array-requires g c =
    let e = places_by_array c.args.types.now.declarations c.args.self.now.memory c.args.copy c.kind_word.result c.in-Array.elements
    (c.kind_word.ensures ∙ ap (λ h. h.kind_word) c.read_header-header.ensures) c.in-Array.ensures.meaning in
    can_as c.args.self.now c.args.copy _ _ e c.requires

pub scan_by_type-requires : goal.scan_by_type-requires
scan_by_type-requires g c =
    let e = places_by_type c.args.types.now.declarations c.args.self.now.memory c.args.copy c.kind_word.result c.type_index.result
    (c.kind_word.ensures ∙ ap (λ h. h.kind_word) c.read_header-header.ensures) (c.type_index.ensures ∙ ap (λ h. h.type_word) c.read_header-header.ensures) c.in-OutOfLine.ensures.meaning in
    can_as c.args.self.now c.args.copy _ _ e c.requires

pub returns-in-Bitmap-clause-scanned : goal.returns-in-Bitmap-clause-scanned
returns-in-Bitmap-clause-scanned g c =
    let e = places_by_bitmap c.args.types.now.declarations c.args.self.now.memory c.args.copy c.kind_word.result c.in-Bitmap.bits
    (c.kind_word.ensures ∙ ap (λ h. h.kind_word) c.read_header-header.ensures) c.in-Bitmap.ensures.meaning in
    scans_as c.args.self.now c.scan_bitmap.new.self c.args.copy _ _ e c.scan_bitmap.ensures.scanned

pub returns-in-Bitmap-clause-ticks : goal.returns-in-Bitmap-clause-ticks
returns-in-Bitmap-clause-ticks g c =
    let e = places_by_bitmap c.args.types.now.declarations c.args.self.now.memory c.args.copy c.kind_word.result c.in-Bitmap.bits
    (c.kind_word.ensures ∙ ap (λ h. h.kind_word) c.read_header-header.ensures) c.in-Bitmap.ensures.meaning in
    ticks_as _ _ _ _ e c.scan_bitmap.ensures.ticks

pub returns-in-Array-clause-scanned : goal.returns-in-Array-clause-scanned
returns-in-Array-clause-scanned g c =
    let e = places_by_array c.args.types.now.declarations c.args.self.now.memory c.args.copy c.kind_word.result c.in-Array.elements
    (c.kind_word.ensures ∙ ap (λ h. h.kind_word) c.read_header-header.ensures) c.in-Array.ensures.meaning in
    scans_as c.args.self.now c.scan_array.new.self c.args.copy _ _ e c.scan_array.ensures.scanned

pub returns-in-Array-clause-ticks : goal.returns-in-Array-clause-ticks
returns-in-Array-clause-ticks g c =
    let e = places_by_array c.args.types.now.declarations c.args.self.now.memory c.args.copy c.kind_word.result c.in-Array.elements
    (c.kind_word.ensures ∙ ap (λ h. h.kind_word) c.read_header-header.ensures) c.in-Array.ensures.meaning in
    ticks_as _ _ _ _ e c.scan_array.ensures.ticks

pub returns-in-OutOfLine-clause-scanned : goal.returns-in-OutOfLine-clause-scanned
returns-in-OutOfLine-clause-scanned g c =
    let e = places_by_type c.args.types.now.declarations c.args.self.now.memory c.args.copy c.kind_word.result c.type_index.result
    (c.kind_word.ensures ∙ ap (λ h. h.kind_word) c.read_header-header.ensures) (c.type_index.ensures ∙ ap (λ h. h.type_word) c.read_header-header.ensures) c.in-OutOfLine.ensures.meaning in
    scans_as c.args.self.now c.scan_by_type.new.self c.args.copy _ _ e c.scan_by_type.ensures.scanned

pub returns-in-OutOfLine-clause-ticks : goal.returns-in-OutOfLine-clause-ticks
returns-in-OutOfLine-clause-ticks g c =
    let e = places_by_type c.args.types.now.declarations c.args.self.now.memory c.args.copy c.kind_word.result c.type_index.result
    (c.kind_word.ensures ∙ ap (λ h. h.kind_word) c.read_header-header.ensures) (c.type_index.ensures ∙ ap (λ h. h.type_word) c.read_header-header.ensures) c.in-OutOfLine.ensures.meaning in
    ticks_as _ _ _ _ e c.scan_by_type.ensures.ticks
