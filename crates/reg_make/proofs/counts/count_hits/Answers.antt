use Rattle.std.proofs.Common.{ℕ, ◌+◌, ◌-◌, ◌^◌, min, List, take, sym, ◌∙◌, ap, arith}
use Rattle.std.specs.Prelude.{sum_by}
use Rattle.std.proofs.lemmas.List.Sums.{sum_by_more}
use Rattle.reg_model.specs.declared.reply.Row.{Row}
use Rattle.reg_make.specs.Workloads.{hit_count}
use Rattle.reg_make.proofs.ServedCounts.{capped_more}
use Rattle.reg_make.proofs.counts.count_hits.Goals as goal

hits_in : List Row → ℕ
hits_in account = sum_by (λ (row : Row). hit_count row.reply) account

pub loop-account-preserved : goal.loop-account-preserved
unfolding hits_in
loop-account-preserved c =
    let accounts = c.as_slice-account-items.result.now in
    let i = c.loop-account.account-index in
    let account = c.account-item.result in
    let added = c.hits_of_rows.ensures ∙ ap (λ rows. min (hits_in rows) (2 ^ 64 - 1)) c.as_slice.ensures in
    let total = sum_by_more hits_in accounts i account (omega arith) ∙ ap (λ a. sum_by hits_in (take i accounts) + hits_in a) (sym c.account-item.is) in
    capped_more c.loop-account.count (sum_by hits_in (take i accounts)) c.hits_of_rows.result (hits_in account) c.saturating_add-count.result c.loop-account.invariant added c.saturating_add-count.ensures
    ∙ ap (λ n. min n (2 ^ 64 - 1)) (sym total)
