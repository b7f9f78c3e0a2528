use Rattle.iscc_text.proofs.TextParts.{name_in_capitals}
use Rattle.iscc_text.proofs.read.is_name.Goals as goal

pub returns : goal.returns
returns c =
    let same = name_in_capitals c.args.name.now in
    (λ yes'. same.0 (c.eq_ignore_ascii_case.ensures.test.0 yes'), λ named. c.eq_ignore_ascii_case.ensures.test.1 (same.1 named))
