use Rattle.std.proofs.Common.{◌+◌, ◌≤◌, [], ◌∷◌, arith, subst, ap, length, length-append}
use Rattle.reg_history.specs.declared.check.step.Step.{Step}
use Rattle.reg_history.specs.inner.CheckSteps.{rows_so_far, rows_after}
use Rattle.reg_history.proofs.check.CheckedLines.{MakesStep, read_cut_off, read_end, read_more, read_past, is_nothing, is_some, tells_fault}
use Rattle.reg_history.proofs.check.checked.Goals as goal

pub returns-in-Ends-clause-tells : goal.returns-in-Ends-clause-tells
returns-in-Ends-clause-tells c =
    read_end _ _ _ _ _ _ _ c.loop-bytes.invariant.has_read c.in-Some.ensures.cut (subst (MakesStep c.loop-bytes.state c.in-Some.bytes.now) c.in-Ends.is c.in_ok-next.ensures.tells)
    (is_nothing c.in-Some.behind.now c.is_empty.result c.is_empty.ensures c.if-is_empty.true)

pub returns-in-Ends-2-clause-tells : goal.returns-in-Ends-2-clause-tells
returns-in-Ends-2-clause-tells c =
    tells_fault _ _ _ _ c.fault_at-in-Ends-2.ensures
    (read_past _ _ _ _ _ _ _ c.loop-bytes.invariant.has_read c.in-Some.ensures.cut (subst (MakesStep c.loop-bytes.state c.in-Some.bytes.now) c.in-Ends-2.is c.in_ok-next.ensures.tells)
    (is_some c.in-Some.behind.now c.is_empty.result c.is_empty.ensures c.if-is_empty.false))

pub loop-bytes-preserved : goal.loop-bytes-preserved
loop-bytes-preserved c =
    let more = read_more _ _ _ _ _ _ _ c.loop-bytes.invariant.has_read c.in-Some.ensures.cut (subst (MakesStep c.loop-bytes.state c.in-Some.bytes.now) c.in-Next.is c.in_ok-next.ensures.tells) in
    let feed = c.in-Some.ensures.line in
    let content = feed.0 in
    let rows = subst (λ (step : Step). rows_after step ≤ rows_so_far c.loop-bytes.state + 1) c.in-Next.is c.in_ok-next.ensures.rows in
    record {
      has_read = more;
      short = omega (arith, ap length c.in-Some.ensures.cut, ap length feed.2, length-append c.in-Some.bytes.now c.in-Some.behind.now, length-append content (10 ∷ []));
      rows = omega (arith, rows);
    }

pub returns-clause-tells : goal.returns-clause-tells
returns-clause-tells c =
    tells_fault _ _ _ _ c.fault_at-else-is_empty-2.ensures
    (read_cut_off _ _ _ _ c.loop-bytes.invariant.has_read c.in_default.ensures.none (is_some c.loop-bytes.rest.now c.is_empty-2.result c.is_empty-2.ensures c.if-is_empty-2.false))
