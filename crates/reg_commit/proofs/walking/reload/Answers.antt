use Rattle.std.proofs.Common.{rules}
use Rattle.reg_commit.proofs.Walks.{reloaded}
use Rattle.reg_commit.proofs.walking.reload.Goals as goal

pub returns-clause-found : goal.returns-clause-found
returns-clause-found c =
    reloaded c.args.told.now c.args.pass.now.1 _ c.log-places.result _ (search rules) (search rules) c.requires.all c.load_log.ensures.told
