use Rattle.std.proofs.lemmas.Option.{slice_get-get_or}
use Rattle.reg_free.proofs.NewPasses.{fresh_fit}
use Rattle.reg_free.proofs.desk.FreeDeskDesk.start.Goals as goal

pub returns-clause-fit : goal.returns-clause-fit
returns-clause-fit c = λ k d low. fresh_fit c.in_ok-words.words k _ (c.in_ok-words.ensures.fresh k _ (slice_get-get_or c.in_ok-words.passes.items k d low))
