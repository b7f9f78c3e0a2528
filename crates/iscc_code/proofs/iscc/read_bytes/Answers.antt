use Rattle.std.proofs.Common.{take, sym, ◌∙◌, ap, ◌++◌}
use Rattle.std.proofs.lemmas.List.{take-append-drop, take_rest}
use Rattle.iscc_code.proofs.OneCode.{decodes_from}
use Rattle.iscc_code.proofs.iscc.read_bytes.Goals as goal

pub returns : goal.returns
returns c =
    let bytes = c.args.bytes.now in
    let count = c.in-Ok.read.1 in
    decodes_from bytes (take count bytes) _ c.in-Ok.read.0 c.iscc_of.result c.in-Ok.ensures.found
    (sym (take-append-drop count bytes) ∙ ap (λ rest. take count bytes ++ rest) (sym (take_rest bytes count))) c.iscc_of.ensures
