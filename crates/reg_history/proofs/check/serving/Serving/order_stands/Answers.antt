use Rattle.std.proofs.Common.{◌∙◌, sym}
use Rattle.reg_history.specs.lines.HistoryLines.{row_in}
use Rattle.reg_history.proofs.check.ServingSteps.{after_some, serves_same}
use Rattle.reg_history.proofs.check.serving.Serving.order_stands.Goals as goal

pub returns-in-Some : goal.returns-in-Some
returns-in-Some c = record {
  stands = λ opening ended now s.
      let t = serves_same _ _ opening ended now c.self.view_is s in
      after_some _ c.in-Some.last c.is_after.result (row_in c.args.row.now) (sym c.in-Some.is ∙ t.last) (λ a first. c.is_after.ensures a (row_in c.args.row.now) first c.last_row.ensures);
}
