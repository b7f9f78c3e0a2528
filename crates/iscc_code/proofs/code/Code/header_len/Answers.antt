use Rattle.std.proofs.Common.{◌+◌, ap, ap₂, ◌∙◌}
use Rattle.iscc_code.specs.Composites.{code_len}
use Rattle.iscc_code.proofs.code.Code.header_len.Goals as goal

pub returns-clause-value : goal.returns-clause-value
unfolding code_len
returns-clause-value c = ap₂ (λ m n. m + n) (ap₂ (λ m n. m + n) c.worth.ensures c.worth-2.ensures) c.worth-3.ensures ∙ ap code_len c.self.view_is
