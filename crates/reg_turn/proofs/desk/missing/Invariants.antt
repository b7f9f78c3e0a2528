use Rattle.std.proofs.Common.{◌≡◌, ◌-◌}
use Rattle.std.specs.Prelude.{not, find, ◌==◌}
use Rattle.std.specs.List.{list_any, range_with_len}
use Rattle.reg_turn.specs.Turns.{TurnPassView}
use Rattle.reg_turn.proofs.desk.missing.Given as goal

-- no number so far is missing
abbrev pub invariant-loop-number : goal.invariant-loop-number
invariant-loop-number l =
    find (λ number. not (list_any (λ (pass : TurnPassView). pass.pass.number == number) l.passes)) (range_with_len 0 l.callers)
    ≡ find (λ number. not (list_any (λ (pass : TurnPassView). pass.pass.number == number) l.passes)) (range_with_len l.number (l.callers - l.number))
