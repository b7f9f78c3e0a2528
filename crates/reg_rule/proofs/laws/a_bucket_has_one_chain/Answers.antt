use Rattle.reg_rule.proofs.ReadersChains.{one_chain}
use Rattle.reg_rule.proofs.laws.a_bucket_has_one_chain.Goals as goal

pub returns : goal.returns
returns c = one_chain
