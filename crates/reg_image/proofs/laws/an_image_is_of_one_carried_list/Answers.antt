use Rattle.reg_image.proofs.OneImage.{one_opening}
use Rattle.reg_image.proofs.laws.an_image_is_of_one_carried_list.Goals as goal

pub returns : goal.returns
returns c = one_opening
