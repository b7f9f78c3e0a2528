use Rattle.std.proofs.Common.{◌++◌, ap₂, length}
use Rattle.std.proofs.lemmas.List.{drop-replicate}
use Rattle.iscc_code.proofs.unit.filled.Goals as goal

pub returns : goal.returns
returns c = ap₂ (λ front last. front ++ last) c.copy_from_slice.ensures.after (drop-replicate (length c.args.body.now) 32 0)
