use Rattle.std.proofs.Common.{◌≡◌, arith, sym, ap, ◌∙◌}
use Rattle.reg_model.specs.Limits.{Limits}
use Rattle.reg_rule.specs.declared.view.Key.{Key}
use Rattle.reg_sweep.proofs.Scans.{may_look}
use Rattle.reg_sweep.proofs.scanning.scan.Goals as goal

pub load_pin-pin-requires-clause-may : goal.load_pin-pin-requires-clause-may
load_pin-pin-requires-clause-may c =
    let n : c.callers-callers.result ≡ c.args.pass.now.1.key.sizes.callers = c.callers-callers.ensures.value ∙ (ap (λ (l : Limits). l.callers) c.sizes.ensures.sizes ∙ ap (λ (k : Key). k.sizes.callers) (sym c.requires.own.1)) in
    let low = c.loop-seat-test.true in
    may_look c.args.pass.now.1 c.loop-seat.pass.1 c.args.hazard c.loop-seat.seat c.requires.may c.loop-seat.invariant.view (omega arith)
