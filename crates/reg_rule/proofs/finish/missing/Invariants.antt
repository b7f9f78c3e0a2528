use Rattle.std.proofs.Common.{◌≡◌, ◌-◌}
use Rattle.std.specs.Prelude.{not, find, ◌==◌}
use Rattle.std.specs.List.{list_any, range_with_len}
use Rattle.atomic_table.specs.Seated.{TableId}
use Rattle.reg_rule.specs.declared.view.View.{View}
use Rattle.reg_rule.specs.Passes.{number_of}
use Rattle.reg_rule.proofs.finish.missing.Given as goal

-- no number so far is missing
abbrev pub invariant-loop-number : goal.invariant-loop-number
invariant-loop-number l =
    find (λ number. not (list_any (λ (pass : TableId × View). number_of pass.1 == number) l.passes)) (range_with_len 0 l.callers)
    ≡ find (λ number. not (list_any (λ (pass : TableId × View). number_of pass.1 == number) l.passes)) (range_with_len l.number (l.callers - l.number))
