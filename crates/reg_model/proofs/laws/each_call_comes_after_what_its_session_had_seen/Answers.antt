use Rattle.reg_model.proofs.LawfulOrder.{lawful_seen}
use Rattle.reg_model.proofs.laws.each_call_comes_after_what_its_session_had_seen.Goals as goal

pub returns : goal.returns
returns c = lawful_seen
