use Rattle.reg_turn.proofs.Calls.{served_of}
use Rattle.reg_turn.proofs.desk.TurnDeskDesk.show.Given as goal

abbrev pub ghosts-give : goal.ghosts-give
ghosts-give g a = record { served = served_of a._call a._answer.now }
