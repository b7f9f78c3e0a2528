use Rattle.std.proofs.Common.{◌≡◌, ◌++◌, drop}
use Rattle.reg_top.specs.inner.RunRounds.{account_texts}
use Rattle.reg_top.proofs.replies.print_accounts.Given as goal

-- what is printed so far, with the texts of the sessions that are left, is all of it
abbrev pub invariant-loop-session : goal.invariant-loop-session
invariant-loop-session l =
    l.out.items ++ account_texts l.round l.session (drop l.session l.lists) (drop l.session l.accounts)
    ≡ l.initial.out.items ++ account_texts l.round 0 l.lists l.accounts
