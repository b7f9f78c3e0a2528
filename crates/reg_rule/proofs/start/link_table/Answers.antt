use Rattle.std.proofs.Common.{◌≡◌, length, ap, subst, arith}
use Rattle.reg_rule.specs.declared.view.Key.{Key}
use Rattle.reg_rule.specs.inner.Opening.{Filling}
use Rattle.reg_rule.proofs.Carrying.{table_linked}
use Rattle.reg_rule.proofs.start.link_table.Goals as goal

pub returns : goal.returns
returns c =
    let key : Key = c.args.key.now in let list = ap length c.list-entry-end.ensures.list in let done = c.loop-entry-test.false in let most = c.loop-entry.auto.entry-end in
    let all : c.loop-entry.entry ≡ length key.carried.list = omega arith in
    table_linked key c.loop-entry.words c.args.table (subst (λ n. Filling key c.loop-entry.words (length key.carried.list) c.args.table n) all c.loop-entry.invariant)
