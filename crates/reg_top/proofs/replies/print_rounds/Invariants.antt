use Rattle.std.proofs.Common.{◌≡◌, ◌++◌, drop}
use Rattle.reg_top.specs.inner.RunRounds.{round_texts}
use Rattle.reg_top.proofs.replies.print_rounds.Given as goal

-- what is printed so far, with the texts of the rounds that are left, is all of it
abbrev pub invariant-loop-number : goal.invariant-loop-number
invariant-loop-number l =
    l.out.items ++ round_texts l.number (drop l.number l.lists) (drop l.number l.rounds)
    ≡ l.initial.out.items ++ round_texts 0 l.lists l.rounds
