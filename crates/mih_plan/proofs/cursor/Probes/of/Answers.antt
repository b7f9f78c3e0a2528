use Rattle.std.proofs.Common.{◌∙◌, ap}
use Rattle.mih_plan.specs.inner.Walks.{probes_from}
use Rattle.mih_plan.proofs.Tables.{whole_plan}
use Rattle.mih_plan.proofs.cursor.Probes.of.Goals as goal

pub returns : goal.returns
returns c = record { all = ap (probes_from c.args.body c.args.radius c.args.bits 0) c.whole_table.ensures.start ∙ whole_plan c.args.body c.args.radius c.args.bits }
