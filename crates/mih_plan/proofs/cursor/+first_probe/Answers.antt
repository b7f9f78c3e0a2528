use Rattle.std.proofs.Common.{◌≡◌, ◌+◌, ◌∙◌, sym, ap, arith}
use Rattle.mih_plan.specs.inner.Walks.{probes_from, start_of}
use Rattle.mih_plan.proofs.Tables.{one_more, next_table, no_more}
use Rattle.mih_plan.proofs.cursor.+first_probe.Goals as goal

pub returns-in-Some-clause-first : goal.returns-in-Some-clause-first
returns-in-Some-clause-first t c =
    one_more c.args.body c.args.radius c.args.bits c.args.table (start_of c.args.from) (start_of c.in-Some.near.next) c.in-Some.near.bucket c.bucket_of-centre.result c.limit_of.result
    c.bucket_of-centre.ensures.value c.limit_of.ensures c.in-Some.ensures.found

pub returns-then-table-eq3-clause-none : goal.returns-then-table-eq3-clause-none
returns-then-table-eq3-clause-none t c =
    no_more c.args.body c.args.radius c.args.bits c.args.table (start_of c.args.from) c.bucket_of-centre.result c.limit_of.result
    c.bucket_of-centre.ensures.value c.limit_of.ensures c.if-table-eq3.true c.in_default.ensures.none

pub returns-clause-first : goal.returns-clause-first
returns-clause-first t c =
    let later : probes_from c.args.body c.args.radius c.args.bits c.args.table (start_of c.args.from) ≡ probes_from c.args.body c.args.radius c.args.bits (c.args.table + 1) (start_of c.whole_table.result) =
    next_table c.args.body c.args.radius c.args.bits c.args.table (start_of c.args.from) c.bucket_of-centre.result c.limit_of.result
    c.bucket_of-centre.ensures.value c.limit_of.ensures (omega (arith, c.requires.table, c.if-table-eq3.false)) c.in_default.ensures.none
    ∙ ap (probes_from c.args.body c.args.radius c.args.bits (c.args.table + 1)) (sym c.whole_table.ensures.start) in
    rw later c.first_probe.ensures.first

pub returns-clause-none : goal.returns-clause-none
returns-clause-none t c =
    let later : probes_from c.args.body c.args.radius c.args.bits c.args.table (start_of c.args.from) ≡ probes_from c.args.body c.args.radius c.args.bits (c.args.table + 1) (start_of c.whole_table.result) =
    next_table c.args.body c.args.radius c.args.bits c.args.table (start_of c.args.from) c.bucket_of-centre.result c.limit_of.result
    c.bucket_of-centre.ensures.value c.limit_of.ensures (omega (arith, c.requires.table, c.if-table-eq3.false)) c.in_default.ensures.none
    ∙ ap (probes_from c.args.body c.args.radius c.args.bits (c.args.table + 1)) (sym c.whole_table.ensures.start) in
    rw later c.first_probe.ensures.none
