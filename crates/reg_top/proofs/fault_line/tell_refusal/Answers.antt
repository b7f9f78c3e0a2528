use Rattle.std.specs.Fmt.{digits}
use Rattle.reg_top.proofs.fault_line.tell_refusal.Goals as goal

pub returns-in-Text : goal.returns-in-Text
unfolding digits
returns-in-Text g c = rw c.in-Text.is c.tell_text.ensures

pub returns-in-Word : goal.returns-in-Word
unfolding digits
returns-in-Word g c = rw c.in-Word.is c.tell_word.ensures

pub returns-in-Units : goal.returns-in-Units
unfolding digits
returns-in-Units g c = rw c.in-Units.is (rw c.compose_fault.ensures at c.tell.ensures)

pub returns-in-NoHistory : goal.returns-in-NoHistory
unfolding digits
returns-in-NoHistory g c = rw c.in-NoHistory.is c.tell-in-NoHistory.ensures

pub returns-in-Line : goal.returns-in-Line
unfolding digits
returns-in-Line g c = rw c.in-Line.is c.tell_line.ensures

pub returns-in-TooSmall : goal.returns-in-TooSmall
unfolding digits
returns-in-TooSmall g c = rw c.in-TooSmall.is c.tell_small.ensures

pub returns-in-IdsSpent : goal.returns-in-IdsSpent
unfolding digits
returns-in-IdsSpent g c = rw c.in-IdsSpent.is c.tell_spent.ensures

pub returns-in-Image : goal.returns-in-Image
unfolding digits
returns-in-Image g c = rw c.in-Image.is c.tell_image.ensures
