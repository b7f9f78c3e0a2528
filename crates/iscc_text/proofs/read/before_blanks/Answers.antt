use Rattle.std.proofs.Common.{refl}
use Rattle.iscc_text.specs.Texts.{is_blank}
use Rattle.iscc_text.proofs.read.before_blanks.Goals as goal

pub returns-clause-last : goal.returns-clause-last
unfolding is_blank
returns-clause-last c = refl
