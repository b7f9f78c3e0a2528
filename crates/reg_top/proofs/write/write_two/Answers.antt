use Rattle.reg_top.proofs.Writing.{part_then, part_of}
use Rattle.reg_top.proofs.write.write_two.Goals as goal

pub returns-in-Err-clause-takes : goal.returns-in-Err-clause-takes
returns-in-Err-clause-takes g c = part_of _ _ _ _ c.in-Err.ensures.takes

pub returns-in-Err-write_all-clause-takes : goal.returns-in-Err-write_all-clause-takes
returns-in-Err-write_all-clause-takes g c = part_then _ _ _ _ _ c.in_default.ensures.takes c.in-Err-write_all.ensures.takes
