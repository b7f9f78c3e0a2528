use Rattle.std.proofs.Common.{◌-◌}
use Rattle.mih_plan.proofs.cursor.+first_probe.Given as goal

-- the tables that are left
abbrev pub decreases-first_probe : goal.decreases-first_probe
decreases-first_probe l = 4 - l.table
