-- The candidates of a query: what multi-index hashing may have to look at.
use Rattle.std.specs.Prelude.{ℕ, ◌==◌, List, count_by, sum_by}
use Rattle.iscc_header.specs.declared.unit.Unit64.{Unit64}
use Rattle.mih_plan.specs.declared.probe.Probe.{Probe}
use Rattle.mih_plan.specs.Buckets.{bucket_of, plan}
use Rattle.reg_model.specs.declared.update.Declared.{Declared}
use Rattle.reg_model.specs.declared.update.Update.{Update}
use Rattle.reg_model.specs.Opening.{Opening}
use Rattle.reg_model.specs.Live.{declared}

-- how many pairs there are of a probe and a declaration, live or not, that is in its bucket
abbrev pub candidates : Opening → List Update → ℕ → Unit64 → ℕ → ℕ
candidates opening log bits unit radius =
    sum_by (λ (p : Probe). count_by (λ (d : Declared). bucket_of d.unit.body p.table bits == p.bucket) (declared opening log)) (plan unit.body radius bits)
