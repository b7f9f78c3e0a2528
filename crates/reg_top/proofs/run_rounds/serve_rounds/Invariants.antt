use Rattle.std.proofs.Common.{◌≡◌, take}
use Rattle.reg_top.specs.inner.RunRounds.{ServesFrom, round_accounts}
use Rattle.reg_top.proofs.run_rounds.serve_rounds.Given as goal

-- the rounds so far were served, and their seals kept
abbrev pub invariant-loop-at : goal.invariant-loop-at
invariant-loop-at g l = record {
  served : ServesFrom l.opening (take l.at l.plan.rounds) (take l.at l.lists) l.rounds;
  kept : l.seals ≡ round_accounts l.rounds;
}
