use Rattle.reg_words.proofs.Memory.{mem-write}
use Rattle.reg_words.proofs.laws.a_write_changes_one_cell.Goals as goal

pub returns : goal.returns
returns c = mem-write
