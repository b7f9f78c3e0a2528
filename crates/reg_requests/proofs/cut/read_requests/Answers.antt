use Rattle.std.proofs.Common.{◌≡◌, [], length, append-nil, subst, rules}
use Rattle.reg_requests.proofs.FileItems.{Holds, one_line, no_lines}
use Rattle.reg_requests.proofs.cut.read_requests.Goals as goal

pub loop-rest-preserved : goal.loop-rest-preserved
loop-rest-preserved c = λ more rest.
    one_line c.loop-rest.rest.now c.cut.result.0.now c.cut.result.1.now c.loop-rest.items c.add_line.new.items more (Holds c.args.file.now)
    c.cut.ensures.lines c.cut.ensures.parts c.in_ok-add_line.ensures c.loop-rest.invariant rest

pub returns : goal.returns
returns c =
    let empty : length c.loop-rest.rest.now ≡ 0 = search rules in
    let all = subst (Holds c.args.file.now) (append-nil c.loop-rest.items) (c.loop-rest.invariant [] (no_lines c.loop-rest.rest.now empty)) in
    record { items = all.items; requests = all.requests; few = all.few }
