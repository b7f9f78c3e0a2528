use Rattle.reg_model.proofs.SortedHits.{one_list}
use Rattle.reg_model.proofs.laws.hits_are_told_by_their_list.Goals as goal

pub returns : goal.returns
returns c = one_list
