use Rattle.reg_requests.proofs.FileItems.{one_list}
use Rattle.reg_requests.proofs.laws.a_file_has_one_list_of_items.Goals as goal

pub returns : goal.returns
returns c = one_list
