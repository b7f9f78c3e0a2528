use Rattle.std.proofs.Common.{◌++◌, ap, length, ◌∙◌, lit<, subst}
use Rattle.iscc_header.specs.Headers.{Numbers, EncodesHeader}
use Rattle.iscc_code.proofs.ShortHeaders.{length-short_header}
use Rattle.iscc_code.proofs.iscc.header_bytes.Goals as goal

pub returns-clause-two : goal.returns-clause-two
returns-clause-two c =
    let h : Numbers = record { main = c.args.main; sub = c.args.sub; version = 0; len = c.args.len } in
    let front = c.encode_header.result.items in
    let P : Numbers → Type 0 = λ n. EncodesHeader n front in
    let encoded : EncodesHeader h front = subst P c.in-Some.ensures.found c.encode_header.ensures in
    ap length (c.append.ensures ∙ ap (λ xs. xs ++ c.as_slice.result.now) c.new-bytes.ensures ∙ c.as_slice.ensures.value) ∙ length-short_header h front encoded (record { main = c.requires.main; sub = c.requires.sub; version = lit< tt; len = c.requires.len })
